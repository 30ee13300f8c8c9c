-- What WHERE tests of a row, as tests of facts.
use Rattle.std.proofs.Common.{◌≡◌, ℕ, pos, Bool, true, false, ◌&&◌, List, [], ◌∷◌, map, filter, flat_map, cond, refl, sym, ap, ◌∙◌, Ordering, Less, Equal, Greater, nat_cmp, is_eq, unwrap_or, Some, arith}
use Rattle.std.specs.List.{list_all}
use Rattle.std.specs.Cmp.Lexicographic.{slice_cmp}
use Rattle.std.specs.Ordering.{int_cmp}
use Rattle.sqlite_value.specs.declared.value.Value.TheVariants.{Int, Blob}
use Rattle.sqlite_value.specs.Order.{Row}
use Rattle.sqlite_value.proofs.OrderLemmas.{value_cmp-Int, value_cmp-Blob}
use Rattle.sqlite.specs.Ops.{binary, truth, from_truth}
use Rattle.std.proofs.lemmas.Bool.Decides.{nat_tests}
use Rattle.sqlite.specs.Term.{Term, col, holds, Env}
use Rattle.sqlite.specs.Query.{inner, end, matches}
use Rattle.sqlite.specs.Tree.{Trees}
use Rattle.sqlite_keyed.proofs.ListLemmas.{flat_map-map}
use Rattle.jac_sql_spec.proofs.Texts.{is}
use Rattle.jac_sql_spec.specs.Lines.{Line, encode}
use Rattle.jac_sql_spec.specs.Facts.{Fact, is_fact_in, is_fact_of}
use Rattle.jac_sql_spec.specs.Stands.{fact}

truth_of : (b : Bool) → unwrap_or (truth (from_truth (Some b))) false ≡ b
truth_of true = refl
truth_of false = refl

same_test : (m n : ℕ) → is_eq (int_cmp (pos m) (pos n)) ≡ is_eq (nat_cmp m n)
same_test m n = grind (arith, nat_tests)

alone : (b : Bool) → (b && true) ≡ b
alone true = refl
alone false = refl

-- The test of the query for a model.
pub model_tests : (model : ℕ) (l : Line) → list_all (holds ((Int (pos model) ∷ []) ∷ encode l ∷ [])) (is (col 1 1) (col 0 0) ∷ []) ≡ is_fact_in model (fact l)
unfolding binary
model_tests model l = rw (value_cmp-Int, truth_of, same_test) (alone (is_fact_in model (fact l)))

-- The test of the query and of the removal for a record.
pub record_tests : (model : ℕ) (jid : List ℕ) (l : Line) → list_all (holds ((Int (pos model) ∷ Blob jid ∷ []) ∷ encode l ∷ [])) (is (col 1 1) (col 0 0) ∷ is (col 1 2) (col 0 1) ∷ []) ≡ is_fact_of model jid (fact l)
unfolding binary
record_tests model jid l =
    rw (value_cmp-Int, value_cmp-Blob, truth_of, truth_of, same_test) (ap (λ b. is_fact_in model (fact l) && b) (alone (is_eq (slice_cmp nat_cmp l.jid jid))))

module _ (params : Row) (terms : List Term) (test : Line → Bool) (tests : (l : Line) → list_all (holds (params ∷ encode l ∷ [])) terms ≡ test l) where
  each : (lines : List Line) → flat_map (λ l. cond (list_all (holds (params ∷ encode l ∷ [])) terms) ((params ∷ encode l ∷ []) ∷ []) []) lines ≡ map (λ l. params ∷ encode l ∷ []) (filter test lines)
  each [] = refl
  each (l ∷ ls) = rw (tests l) (go (test l) (each ls))
    where
      go : (b : Bool) → flat_map (λ x. cond (list_all (holds (params ∷ encode x ∷ [])) terms) ((params ∷ encode x ∷ []) ∷ []) []) ls ≡ map (λ x. params ∷ encode x ∷ []) (filter test ls)
          → Rattle.std.proofs.Common.◌++◌ (cond b ((params ∷ encode l ∷ []) ∷ []) []) (flat_map (λ x. cond (list_all (holds (params ∷ encode x ∷ [])) terms) ((params ∷ encode x ∷ []) ∷ []) []) ls)
          ≡ map (λ x. params ∷ encode x ∷ []) (cond b (l ∷ filter test ls) (filter test ls))
      go true more = ap (λ xs. (params ∷ encode l ∷ []) ∷ xs) more
      go false more = more

  -- The rows that pass the test, in a table alone. Their rowids may have any order.
  pub matched : (db : Trees) (t : ℕ) (lines : List Line) → db t ≡ map encode lines → matches db terms (inner t end) (params ∷ []) ≡ map (λ l. params ∷ encode l ∷ []) (filter test lines)
  matched db t lines stored =
      ap (flat_map (λ r. matches db terms end (params ∷ r ∷ []))) stored
      ∙ flat_map-map (λ r. matches db terms end (params ∷ r ∷ [])) encode lines ∙ each lines
