-- What the query for the number and the schema finds.
use Rattle.std.proofs.Common.{◌≡◌, ℕ, pos, List, [], ◌∷◌, map, Ok, Err, Result, refl, sym, ap, subst, ◌∙◌}
use Rattle.std.specs.List.Sorted.{IsPermutation}
use Rattle.sqlite_value.specs.declared.value.Value.TheVariants.{Null, Int, Text}
use Rattle.sqlite_value.specs.declared.value.Value.{Value}
use Rattle.sqlite_value.specs.Order.{Row}
use Rattle.sqlite_value.proofs.OrderLemmas.{value_cmp-Int}
use Rattle.sqlite.specs.Query.{Query, IsAnswer, output, page, Output}
use Rattle.sqlite.specs.Ops.{binary}
use Rattle.sqlite.specs.Program.{overlay}
use Rattle.sqlite.specs.State.{State, QueriesRow}
use Rattle.sqlite.proofs.Callers.{first_as, one_permutation}
use Rattle.jac_sql_spec.specs.Tables.{two_tables, meta_row}
use Rattle.jac_sql_spec.proofs.Texts.{number_text, number_query, number_is, number_plain}

-- The query finds what follows the key in the one row.
pub asks_of : (old new : State) (number schema : Value) (row : Row) → old.now.schema ≡ two_tables 0 1 2
    → old.now.trees 0 ≡ (Int (pos 0) ∷ Null ∷ number ∷ schema ∷ []) ∷ [] → QueriesRow number_text [] old new (Ok row) → row ≡ number ∷ schema ∷ []
unfolding QueriesRow binary
asks_of old new number schema row has one h =
    let got = (first_as number_text [] old new (two_tables 0 1 2) has _ number_is.0 number_plain number_is.1 row h).1 in
    let q : Query = number_query in
    let a : IsAnswer q (overlay old.now.trees []) [] (row ∷ got.0) = got.1 Null in
    let staged : a.staged ≡ ([] ∷ (Int (pos 0) ∷ Null ∷ number ∷ schema ∷ []) ∷ []) ∷ [] = a.grouped ∙ rw (one, value_cmp-Int) in
    let o : Output = ([], number ∷ schema ∷ []) in
    let kept : a.kept ≡ o ∷ [] = a.distinct ∙ ap (map (output q)) staged in
    let ordered = one_permutation o a.ordered (subst (λ k. IsPermutation k a.ordered) kept a.same) in
    let rows : row ∷ got.0 ≡ o.1 ∷ [] = a.shown ∙ ap (λ xs. page q [] (map (λ (p : Output). p.1) xs)) ordered in
    cc

pub asks : (old new : State) (number : ℕ) (schema : List ℕ) (row : Row) → old.now.schema ≡ two_tables 0 1 2
    → old.now.trees 0 ≡ meta_row number schema ∷ [] → QueriesRow number_text [] old new (Ok row) → row ≡ Int (pos number) ∷ Text schema ∷ []
asks old new number schema row has one h = asks_of old new (Int (pos number)) (Text schema) row has one h
