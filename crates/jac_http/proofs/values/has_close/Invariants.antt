use Rattle.std.proofs.Common.{◌≡◌, ℕ, Bool, List, map, drop, codes}
use Rattle.std.specs.List.{list_any}
use Rattle.std.specs.Str.{str_eq_ignore_ascii_case}
use Rattle.jac_http.specs.Parts.{stripped_of_blanks}
use Rattle.jac_http.proofs.values.has_close.Given as goal

abbrev pub invariant-items : goal.invariant-items
invariant-items l =
    let is_close : List ℕ → Bool = λ item. str_eq_ignore_ascii_case (stripped_of_blanks item) (codes "close") in
    list_any is_close (map (λ v. v.now) (drop l.item-index l.items)) ≡ list_any is_close (map (λ v. v.now) l.items)
