use Rattle.std.proofs.Common.{arith}
use Rattle.std.proofs.lemmas.Bool.Decides.{nat_tests}
use Rattle.jac_row_codec.proofs.Ids.{read_alone, never_id}
use Rattle.jac_row_codec.proofs.id.decode_id.Goals as goal

pub returns-in-Ok-clause-id : goal.returns-in-Ok-clause-id
returns-in-Ok-clause-id c =
    let none = c.if-is_empty.ensures in
    read_alone c.args.model c.in-Ok.number c.args.bytes.now c.in-Ok.rest.now c.in-Ok.ensures.id (grind (arith, nat_tests, none))

pub returns-in-Err-clause-none : goal.returns-in-Err-clause-none
returns-in-Err-clause-none c = λ _ id is. never_id c.args.model id c.args.bytes.now c.in-Err.field-0 is c.in-Err.ensures.stops c.in-Err.ensures.of_bytes
