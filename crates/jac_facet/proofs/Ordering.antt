use Rattle.std.proofs.Common.{◌≡◌, ℕ, ◌&&◌, ◌||◌, Bool, true, false, not, if◌then◌else◌, List, [], ◌∷◌, ◌++◌, refl, ap, ◌∙◌}
use mathlib.Core.Bool.{beq}
use Rattle.jac_world.specs.World.{holds}
use Rattle.jac_facet.specs.Leaves.{leaves_seen, meets, is_shown_before, order_after}

before_cons : (a b mv mw o n r : Bool) → r ≡ (if mv || mw then o else n) → (if a then not b else (if b then false else r)) ≡ (if (a || mv) || (b || mw) then (if a then not b else (if b then false else o)) else n)
before_cons true b mv mw o n r e = refl
before_cons false true true mw o n r e = refl
before_cons false true false mw o n r e = refl
before_cons false false mv mw o n r e = e

none_before : (a b m o : Bool) → (a || m) ≡ false → (m ≡ false → o ≡ false) → (if a then not b else (if b then false else o)) ≡ false
none_before true b m o e h = cc
none_before false true m o e h = refl
none_before false false m o e h = h e

module _ {T : Type 0} where
  seen_cons : (b : Bool) (x : T) (xs ys : List T) → (if b then x ∷ (xs ++ ys) else xs ++ ys) ≡ (if b then x ∷ xs else xs) ++ ys
  seen_cons true x xs ys = refl
  seen_cons false x xs ys = refl

  seen_both : (b : Bool) (x : T) (xs ys zs : List T) → ys ≡ xs ++ zs → (if b then x ∷ ys else ys) ≡ (if b then x ∷ xs else xs) ++ zs
  seen_both true x xs ys zs e = ap (λ l. x ∷ l) e
  seen_both false x xs ys zs e = e

  pub seen-push : (w : ℕ → Bool) (ps : List (List (ℕ × Bool) × T)) (p : List (ℕ × Bool) × T) → leaves_seen w (ps ++ p ∷ []) ≡ leaves_seen w ps ++ if◌then◌else◌ {A = List T} (holds w p.0) (p.1 ∷ []) []
  seen-push w [] p = refl
  seen-push w (q ∷ ps) p = seen_both (holds w q.0) q.1 (leaves_seen w ps) (leaves_seen w (ps ++ p ∷ [])) _ (seen-push w ps p)

  -- The order after more guards are appended.
  pub before-append : (v w : ℕ → Bool) (old ps : List (List (ℕ × Bool) × T)) → is_shown_before v w (old ++ ps) ≡ (if meets v old || meets w old then is_shown_before v w old else is_shown_before v w ps)
  before-append v w [] ps = refl
  before-append v w (q ∷ old) ps = before_cons (holds v q.0) (holds w q.0) (meets v old) (meets w old) (is_shown_before v w old) (is_shown_before v w ps) (is_shown_before v w (old ++ ps)) (before-append v w old ps)

  pub before_none : (v w : ℕ → Bool) (ps : List (List (ℕ × Bool) × T)) → meets v ps ≡ false → is_shown_before v w ps ≡ false
  before_none v w [] e = refl
  before_none v w (q ∷ ps) e = none_before (holds v q.0) (holds w q.0) (meets v ps) (is_shown_before v w ps) e (before_none v w ps)

pub leaf_order : (mv mw hv hw o n : Bool) → n ≡ (if mv || mw then o else (if hv then not hw else (if hw then false else false))) → n ≡ order_after mv mw hv hw o false
leaf_order true mw hv hw o n e = e
leaf_order false true hv hw o n e = e
leaf_order false false true true o n e = e
leaf_order false false true false o n e = e
leaf_order false false false true o n e = e
leaf_order false false false false o n e = e

-- The order if no guard was added.
pub no_order : (mv mw hv hw o h : Bool) → hv ≡ false → (mv ≡ false → o ≡ false) → o ≡ order_after mv mw hv hw o h
no_order true mw hv hw o h e n = refl
no_order false true hv hw o h e n = refl
no_order false false hv hw o h e n = rw e (n refl)

fork_bools : (mv mw hv hw x y o h l : Bool) →
    order_after (mv || (hv && beq true x)) (mw || (hw && beq true y)) (hv && beq false x) (hw && beq false y) (order_after mv mw (hv && beq true x) (hw && beq true y) o h) l
    ≡ order_after mv mw hv hw o (if x then (if y then h else true) else (if y then false else l))
fork_bools true mw hv hw x y o h l = refl
fork_bools false true true hw true y o h l = refl
fork_bools false true true hw false y o h l = refl
fork_bools false true false hw x y o h l = refl
fork_bools false false true true true true o h l = refl
fork_bools false false true true true false o h l = refl
fork_bools false false true true false true o h l = refl
fork_bools false false true true false false o h l = refl
fork_bools false false true false true y o h l = refl
fork_bools false false true false false true o h l = refl
fork_bools false false true false false false o h l = refl
fork_bools false false false true x true o h l = refl
fork_bools false false false true x false o h l = refl
fork_bools false false false false x y o h l = refl

-- The order after the leaves of the high side are appended, and then those of the low side.
pub fork_order : (mv mw m1v m1w hv hw x y o o1 n h l : Bool) → m1v ≡ (mv || (hv && beq true x)) → m1w ≡ (mw || (hw && beq true y)) →
    o1 ≡ order_after mv mw (hv && beq true x) (hw && beq true y) o h → n ≡ order_after m1v m1w (hv && beq false x) (hw && beq false y) o1 l →
    n ≡ order_after mv mw hv hw o (if x then (if y then h else true) else (if y then false else l))
fork_order mv mw m1v m1w hv hw x y o o1 n h l a b c d = d ∙ rw (a, b, c) (fork_bools mv mw hv hw x y o h l)
