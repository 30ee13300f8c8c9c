-- Labels that are gathered with all that they are linked to.
use Rattle.std.proofs.Common.{◌≡◌, ◌==◌, ◌&&◌, ◌||◌, ℕ, Bool, true, false, not, List, [], ◌∷◌, ◌++◌, refl, ap, sym, subst, ◌∙◌}
use Rattle.std.proofs.lemmas.Bool.Decides.{Decides-eqb}
use Rattle.std.proofs.lemmas.Bool.{or_right}
use Rattle.jac_world.specs.World.{shown_by}
use Rattle.jac_policy_cache.specs.declared.policy_memo.PolicyMemo.{PolicyMemo}
use Rattle.jac_policy_cache.specs.Linked.{AreLinked, IsDoneBefore, is_done}
use Rattle.jac_policy_cache.specs.Memo.{depends, watches}

-- The labels are in `all`, and so are the labels that are directly linked to one that is done.
pub record Linking (answers : PolicyMemo) (labels all left : List ℕ) : Type 0 where
  pub among : (k : ℕ) → shown_by labels k ≡ true → shown_by all k ≡ true
  pub near : (j k : ℕ) → is_done all left j ≡ true → (watches answers j k || depends answers j k) ≡ true → shown_by all k ≡ true

none_done : (labels : List ℕ) (j : ℕ) → is_done labels labels j ≡ true → (b : Bool) → shown_by labels j ≡ b → false ≡ true
none_done labels j done true e = sym (ap (λ b. b && not b) e) ∙ done
none_done labels j done false e = sym (ap (λ b. b && not b) e) ∙ done

pub linking_start : (answers : PolicyMemo) (labels all left : List ℕ) → all ≡ labels → left ≡ labels → Linking answers labels all left
linking_start answers labels all left all_are left_are = record {
  among = λ k s. ap (λ l. shown_by l k) all_are ∙ s;
  near = λ j k done links. absurd (let e : false ≡ true = none_done labels j (ap (λ l. is_done labels l j) (sym left_are) ∙ ap (λ l. is_done l left j) (sym all_are) ∙ done) (shown_by labels j) refl in cc);
}

-- Whether a label is in a list with one more label at the end.
at_last : (xs : List ℕ) (x j : ℕ) → shown_by (xs ++ x ∷ []) j ≡ ((x == j) || shown_by xs j)
at_last [] x j = refl
at_last (y ∷ xs) x j = ap (λ b. (y == j) || b) (at_last xs x j) ∙ swapped (y == j) (x == j) (shown_by xs j)
  where
    swapped : (a b c : Bool) → (a || (b || c)) ≡ (b || (a || c))
    swapped true true c = refl
    swapped true false c = refl
    swapped false b c = refl

-- The labels that are directly linked to one more label were added.
pub linking_on : (answers : PolicyMemo) (labels all left rest all_now left_now : List ℕ) (x : ℕ) → left ≡ rest ++ x ∷ [] →
    Linking answers labels all left →
    ((k : ℕ) → (watches answers x k || depends answers x k) ≡ true → shown_by all_now k ≡ true) →
    ((k : ℕ) → shown_by all k ≡ true → shown_by all_now k ≡ true) →
    IsDoneBefore all rest all_now left_now →
    Linking answers labels all_now left_now
linking_on answers labels all left rest all_now left_now x left_is before near kept done_before = record {
  among = λ k s. kept k (before.among k s);
  near = λ j k done links. near_if j k (done_before.each j done) links (x == j) refl;
}
  where
    near_if : (j k : ℕ) → is_done all rest j ≡ true → (watches answers j k || depends answers j k) ≡ true → (b : Bool) → (x == j) ≡ b → shown_by all_now k ≡ true
    near_if j k done links true e =
        let is : x ≡ j = (Decides-eqb x j).0 e in
        near k (subst (λ (i : ℕ). (watches answers i k || depends answers i k) ≡ true) (sym is) links)
    near_if j k done links false e =
        let same : shown_by left j ≡ shown_by rest j = ap (λ l. shown_by l j) left_is ∙ at_last rest x j ∙ ap (λ b. b || shown_by rest j) e in
        kept k (before.near j k (ap (λ b. shown_by all j && not b) same ∙ done) links)

done_at_end : (all : List ℕ) (j : ℕ) → shown_by all j ≡ true → (shown_by all j && true) ≡ true
done_at_end all j s = ap (λ b. b && true) s

-- If no label is left, all that are linked were found.
pub linking_end : (answers : PolicyMemo) (labels all left : List ℕ) → left ≡ [] → Linking answers labels all left → AreLinked answers labels all
linking_end answers labels all left none linking = record {
  linked = record {
    watchers = λ k j s w. linking.near k j (done k s) (ap (λ b. b || depends answers k j) w);
    dependent = λ j k s h. linking.near j k (done j s) (or_right (watches answers j k) (depends answers j k) h);
  };
  among = linking.among;
}
  where
    done : (j : ℕ) → shown_by all j ≡ true → is_done all left j ≡ true
    done j s = ap (λ l. is_done all l j) none ∙ done_at_end all j s
