use Rattle.std.proofs.Common.{◌≡◌, map, drop}
use Rattle.std.specs.List.{list_any}
use Rattle.jac_http.specs.Parts.{is_closing}
use Rattle.jac_http.proofs.values.any_closing.Given as goal

abbrev pub invariant-values : goal.invariant-values
invariant-values l = list_any is_closing (map (λ v. v.now) (drop l.value-index l.values)) ≡ list_any is_closing (map (λ v. v.now) l.values)
