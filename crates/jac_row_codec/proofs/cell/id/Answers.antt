use Rattle.std.proofs.Common.{rules, sym, subst, ◌+◌, ◌*◌}
use Rattle.jac_row_codec.specs.Reading.{StopsBy, Numbers, IdsOf, IsNumber, IsIdIn}
use Rattle.jac_row_codec.specs.declared.stop.Stop.{Stop}
use Rattle.jac_row_codec.proofs.Ids.{middle_stops, next_stops, low_stops, id_read}
use Rattle.jac_row_codec.proofs.cell.id.Goals as goal

pub returns-in_err-middle-clause-stops : goal.returns-in_err-middle-clause-stops
returns-in_err-middle-clause-stops c =
    let step = subst (λ w. (e : Stop) → StopsBy (Numbers 0 w 6) c.in_ok-top.rest.now e → StopsBy (IdsOf c.args.model) c.args.bytes.now e) (sym c.most_middle.ensures.most)
    (middle_stops c.args.model c.in_ok-top.top c.requires c.args.bytes.now c.in_ok-top.rest.now c.in_ok-top.ensures.number) in
    search (rules, step)

pub returns-in_err-next-clause-stops : goal.returns-in_err-next-clause-stops
returns-in_err-next-clause-stops c =
    let middle = subst (λ w. IsNumber 0 w 6 c.in_ok-top.rest.now c.in_ok-middle.middle c.in_ok-middle.rest.now) c.most_middle.ensures.most c.in_ok-middle.ensures.number in
    let step = subst (λ w. (e : Stop) → StopsBy (Numbers w 255 1) c.in_ok-middle.rest.now e → StopsBy (IdsOf c.args.model) c.args.bytes.now e) (sym c.least_next.ensures.least)
    (next_stops c.args.model c.in_ok-top.top c.in_ok-middle.middle c.requires c.args.bytes.now c.in_ok-top.rest.now c.in_ok-middle.rest.now c.in_ok-top.ensures.number middle) in
    search (rules, step)

pub returns-in_err-low-clause-stops : goal.returns-in_err-low-clause-stops
returns-in_err-low-clause-stops c =
    let middle = subst (λ w. IsNumber 0 w 6 c.in_ok-top.rest.now c.in_ok-middle.middle c.in_ok-middle.rest.now) c.most_middle.ensures.most c.in_ok-middle.ensures.number in
    let next = subst (λ w. IsNumber w 255 1 c.in_ok-middle.rest.now c.in_ok-next.next c.in_ok-next.rest.now) c.least_next.ensures.least c.in_ok-next.ensures.number in
    let step = low_stops c.args.model c.in_ok-top.top c.in_ok-middle.middle c.in_ok-next.next c.requires c.args.bytes.now c.in_ok-top.rest.now c.in_ok-middle.rest.now c.in_ok-next.rest.now
    c.in_ok-top.ensures.number middle next in
    search (rules, step)

pub returns-clause-id : goal.returns-clause-id
returns-clause-id c =
    let middle = subst (λ w. IsNumber 0 w 6 c.in_ok-top.rest.now c.in_ok-middle.middle c.in_ok-middle.rest.now) c.most_middle.ensures.most c.in_ok-middle.ensures.number in
    let next = subst (λ w. IsNumber w 255 1 c.in_ok-middle.rest.now c.in_ok-next.next c.in_ok-next.rest.now) c.least_next.ensures.least c.in_ok-next.ensures.number in
    let front = c.in_ok-top.top * 0x1_0000_0000_0000 + c.in_ok-middle.middle in
    subst (λ b. IsIdIn c.args.model c.args.bytes.now ((front * 256 + c.in_ok-next.next) * 256 + b) c.in_ok-low.rest.now) (sym c.from.ensures)
    (id_read c.args.model c.in_ok-top.top c.in_ok-middle.middle c.in_ok-next.next c.in_ok-low.low c.requires c.args.bytes.now c.in_ok-top.rest.now c.in_ok-middle.rest.now c.in_ok-next.rest.now c.in_ok-low.rest.now
    c.in_ok-top.ensures.number middle next c.in_ok-low.ensures.byte.0 c.in_ok-low.ensures.byte.1)
