-- Tuples in the order of their keys.
use Rattle.std.proofs.Common.{◌≡◌, refl, sym, ap, ◌∙◌, ℕ, Bool, true, false, if◌then◌else◌, List, [], ◌∷◌, ◌++◌, map, append_assoc, append-nil}
use Rattle.jac_value.specs.declared.value.Value.{Value}
use Rattle.jac_plain.specs.Expressions.{with_sorted, sorted_tuples}
use Rattle.jac_query.specs.Sorted.{insert_by, sorted_by, value_less, key_less}
use Rattle.jac_pruned.specs.Tupled.{keyed_by}

module _ (less : Value → Value → Bool) (key : List ℕ → Value) where
  abbrev by_key : List ℕ × Value → List ℕ × Value → Bool
  by_key p q = less p.1 q.1

  insert-keyed : (ids : List ℕ) (tuples : List (List ℕ)) → insert_by by_key (ids, key ids) (keyed_by key tuples) ≡ keyed_by key (with_sorted less key ids tuples)
  insert-keyed ids [] = refl
  insert-keyed ids (next ∷ tuples) = insert_if (less (key next) (key ids)) (insert-keyed ids tuples)
    where
      insert_if : (b : Bool) → insert_by by_key (ids, key ids) (keyed_by key tuples) ≡ keyed_by key (with_sorted less key ids tuples) →
          (if b then (next, key next) ∷ insert_by by_key (ids, key ids) (keyed_by key tuples) else (ids, key ids) ∷ ((next, key next) ∷ keyed_by key tuples))
          ≡ keyed_by key (if b then next ∷ with_sorted less key ids tuples else ids ∷ (next ∷ tuples))
      insert_if true h = ap (λ l. (next, key next) ∷ l) h
      insert_if false h = refl

  sorted-keyed : (tuples : List (List ℕ)) → sorted_by by_key (keyed_by key tuples) ≡ keyed_by key (sorted_tuples less key tuples)
  sorted-keyed [] = refl
  sorted-keyed (ids ∷ tuples) = ap (insert_by by_key (ids, key ids)) (sorted-keyed tuples) ∙ insert-keyed ids (sorted_tuples less key tuples)

without_keys : (key : List ℕ → Value) (tuples : List (List ℕ)) → map (λ p. p.0) (keyed_by key tuples) ≡ tuples
without_keys key [] = refl
without_keys key (ids ∷ tuples) = ap (λ l. ids ∷ l) (without_keys key tuples)

-- The tuples, sorted by their keys.
pub sorted-is : (down : Bool) (key : List ℕ → Value) (tuples : List (List ℕ)) (ps : List (List ℕ × Value)) → ps ≡ keyed_by key tuples →
    map (λ p. p.0) (sorted_by (key_less down) ps) ≡ sorted_tuples (value_less down) key tuples
sorted-is down key tuples ps e =
    ap (λ qs. map (λ p. p.0) (sorted_by (key_less down) qs)) e
    ∙ ap (map (λ p. p.0)) (sorted-keyed (value_less down) key tuples)
    ∙ without_keys key (sorted_tuples (value_less down) key tuples)

-- One more tuple has its key.
pub keyed-more : (key : List ℕ → Value) (done new : List (List ℕ × Value)) (ids : List ℕ) (k : Value) (left rest all : List (List ℕ)) →
    left ≡ ids ∷ rest → new ≡ done ++ (ids, k) ∷ [] → k ≡ key ids → done ++ keyed_by key left ≡ keyed_by key all → new ++ keyed_by key rest ≡ keyed_by key all
keyed-more key done new ids k left rest all first pushed is so_far =
    ap (λ l. l ++ keyed_by key rest) pushed
    ∙ append_assoc done ((ids, k) ∷ []) (keyed_by key rest)
    ∙ ap (λ v. done ++ (ids, v) ∷ keyed_by key rest) is
    ∙ ap (λ l. done ++ keyed_by key l) (sym first)
    ∙ so_far

pub keyed-all : (key : List ℕ → Value) (done : List (List ℕ × Value)) (left all : List (List ℕ)) → left ≡ [] → done ++ keyed_by key left ≡ keyed_by key all →
    done ≡ keyed_by key all
keyed-all key done left all none so_far = sym (append-nil done) ∙ ap (λ l. done ++ keyed_by key l) (sym none) ∙ so_far
