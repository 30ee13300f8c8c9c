use Rattle.std.proofs.Common.{◌≡◌, ◌∙◌, true, ap, sym, subst, [], ◌∷◌, ◌++◌, rules}
use Rattle.std.specs.Prelude.{Some, None}
use Rattle.std.specs.List.{position, insert, remove}
use Rattle.std.proofs.lemmas.List.Quantifiers.{position-Some}
use Rattle.jac_rows.specs.declared.row.Row.{Row}
use Rattle.jac_row_merge.specs.Merged.{joinable, Shows, place_among}
use Rattle.jac_row_merge.proofs.Placed.{shows_then, shows_removed, shows_inserted, own_removed, own_inserted, merged_removed, merged_inserted, order_removed, order_inserted, none_passes, place_within}
use Rattle.jac_row_merge.proofs.merge.put.Goals as goal

pub join-requires : goal.join-requires
join-requires c =
    let items = c.joining.merged.items in
    let test = λ (one : Row). joinable one c.joining.row in
    let found : position test items ≡ Some c.in-Some.place = ap (position test) (sym c.as_slice.ensures.value) ∙ sym c.partner.ensures ∙ c.in-Some.is in
    let at = position-Some test items c.in-Some.place c.remove-other.result found in
    subst (λ (x : Row). joinable x c.joining.row ≡ true) (sym c.remove-other.ensures.value) at.1

pub joining-preserved : goal.joining-preserved
joining-preserved c =
    let items = c.joining.merged.items in
    let row = c.joining.row in
    let test = λ (one : Row). joinable one row in
    let place = c.in-Some.place in
    let found : position test items ≡ Some place = ap (position test) (sym c.as_slice.ensures.value) ∙ sym c.partner.ensures ∙ c.in-Some.is in
    let at = position-Some test items place c.remove-other.result found in
    let left : c.remove-other.new.self.items ≡ remove items place = c.remove-other.ensures.items in
    let inv = c.joining.invariant in
    let step : Shows (items ++ row ∷ []) (c.remove-other.new.self.items ++ c.in_ok-row.row ∷ []) =
    rw left (shows_removed items place c.remove-other.result row c.in_ok-row.row at.0 c.remove-other.ensures.value c.in_ok-row.ensures.shown) in
    record {
      shown = shows_then (c.args.merged.now.items ++ c.args.row ∷ []) (items ++ row ∷ []) (c.remove-other.new.self.items ++ c.in_ok-row.row ∷ []) inv.shown step;
      own = λ id own. rw left (own_removed id items place row c.in_ok-row.row c.in_ok-row.ensures.own (inv.own id own));
      merged = rw left (merged_removed items place inv.merged);
      order = rw left (order_removed items place inv.order);
    }

pub insert-requires : goal.insert-requires
insert-requires c =
    let items = c.joining.merged.items in
    let place : c.place_for-place.result ≡ place_among c.joining.row items = c.place_for-place.ensures ∙ ap (place_among c.joining.row) c.as_slice-2.ensures.value in
    let within = place_within c.joining.row items in
    rw place (search (rules, within))

pub returns-clause-shown : goal.returns-clause-shown
returns-clause-shown c =
    let items = c.joining.merged.items in
    let row = c.joining.row in
    let place : c.place_for-place.result ≡ place_among row items = c.place_for-place.ensures ∙ ap (place_among row) c.as_slice-2.ensures.value in
    let new : c.insert.new.self.items ≡ insert items (place_among row items) row = c.in_ok-insert.ensures.items ∙ ap (λ n. insert items n row) place in
    rw new (shows_then (c.args.merged.now.items ++ c.args.row ∷ []) (items ++ row ∷ []) (insert items (place_among row items) row) c.joining.invariant.shown
    (shows_inserted items (place_among row items) row (place_within row items)))

pub returns-clause-own : goal.returns-clause-own
returns-clause-own c id own =
    let items = c.joining.merged.items in
    let row = c.joining.row in
    let place : c.place_for-place.result ≡ place_among row items = c.place_for-place.ensures ∙ ap (place_among row) c.as_slice-2.ensures.value in
    let new : c.insert.new.self.items ≡ insert items (place_among row items) row = c.in_ok-insert.ensures.items ∙ ap (λ n. insert items n row) place in
    rw new (own_inserted id items (place_among row items) row (place_within row items) (c.joining.invariant.own id own))

pub returns-clause-merged : goal.returns-clause-merged
returns-clause-merged c =
    let items = c.joining.merged.items in
    let row = c.joining.row in
    let test = λ (one : Row). joinable one row in
    let none : position test items ≡ None = ap (position test) (sym c.as_slice.ensures.value) ∙ sym c.partner.ensures ∙ c.in_default.is in
    let place : c.place_for-place.result ≡ place_among row items = c.place_for-place.ensures ∙ ap (place_among row) c.as_slice-2.ensures.value in
    let new : c.insert.new.self.items ≡ insert items (place_among row items) row = c.in_ok-insert.ensures.items ∙ ap (λ n. insert items n row) place in
    rw new (merged_inserted items (place_among row items) row (place_within row items) (none_passes test items none) c.joining.invariant.merged)

pub returns-clause-order : goal.returns-clause-order
returns-clause-order c =
    let items = c.joining.merged.items in
    let row = c.joining.row in
    let place : c.place_for-place.result ≡ place_among row items = c.place_for-place.ensures ∙ ap (place_among row) c.as_slice-2.ensures.value in
    let new : c.insert.new.self.items ≡ insert items (place_among row items) row = c.in_ok-insert.ensures.items ∙ ap (λ n. insert items n row) place in
    rw new (order_inserted row items c.joining.invariant.order)
