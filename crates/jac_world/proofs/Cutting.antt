use Rattle.std.proofs.Common.{◌≡◌, ℕ, ◌<◌, ◌+◌, ◌&&◌, Bool, true, false, not, if◌then◌else◌, Option, Some, None, List, [], ◌∷◌, ◌++◌, length, suc, append-nil, refl, ap, sym, ◌∙◌, arith}
use Rattle.std.specs.List.{AllByRecursion}
use mathlib.Core.Bool.{beq}
use Rattle.jac_world.specs.World.{holds, both, holding, kept_count, IsMeet, BreaksEarlier, FollowCut}
use Rattle.jac_world.specs.CutOff.{guard_list, AddsMeet, IsCutOff}

-- The state of the loop that cuts off a guard: the guards made so far, `self` with the signs that
-- `cut` gives the labels passed, and the labels of `cut` that are left.
pub record Cutting (self cut : List (ℕ × Bool)) (items : List (List (ℕ × Bool))) (prefix rest : List (ℕ × Bool)) : Type 0 where
  pub exact : (w : ℕ → Bool) → holding w items + (if holds w prefix && not (holds w rest) then 1 else 0) ≡ (if holds w self && not (holds w cut) then 1 else 0)
  pub order : FollowCut cut items
  pub earlier : AllByRecursion (λ g. BreaksEarlier cut g prefix) items
  pub passed : (w : ℕ → Bool) → holds w prefix ≡ true → kept_count w cut + length rest ≡ kept_count w rest + length cut

pub cut_start : (self cut : List (ℕ × Bool)) → Cutting self cut [] self cut
cut_start self cut = record { exact = λ w. omega arith; order = tt; earlier = tt; passed = λ w h. refl }

holding-append : (w : ℕ → Bool) (gs hs : List (List (ℕ × Bool))) → holding w (gs ++ hs) ≡ holding w gs + holding w hs
holding-append w [] hs = omega arith
holding-append w (g ∷ gs) hs = omega (arith, holding-append w gs hs)

-- The guard that was added holds exactly if both guards hold.
added_holds : (w : ℕ → Bool) (g h : List (ℕ × Bool)) (m : Option (List (ℕ × Bool))) → IsMeet g h m → holding w (guard_list m) ≡ (if both w g h then 1 else 0)
added_holds w g h None e = rw (e w) refl
added_holds w g h (Some x) e = rw (e w) (omega arith)

left_true : (a b : Bool) → (a && b) ≡ true → a ≡ true
left_true true b p = refl
left_true false b p = p

as_signed : (a b : Bool) → (a && (b && true)) ≡ true → b ≡ true
as_signed true true p = refl
as_signed true false p = p
as_signed false b p = cc

-- If the prefix holds and the rest breaks, the rest breaks either at the next label, or after it.
step_count : (p b x m : Bool) → (if p && (beq (not b) x && true) then 1 else 0) + (if (p && (beq b x && true)) && not m then 1 else 0) ≡ (if p && not (beq b x && m) then 1 else 0)
step_count true true true m = omega arith
step_count true true false m = omega arith
step_count true false true m = omega arith
step_count true false false m = omega arith
step_count false b x m = omega arith

last_count : (p b x m : Bool) → (p && (beq b x && true)) ≡ false → ◌≡◌ {A = ℕ} (if p && (beq (not b) x && true) then 1 else 0) (if p && not (beq b x && m) then 1 else 0)
last_count true true true m e = cc
last_count true true false m e = refl
last_count true false true m e = refl
last_count true false false m e = cc
last_count false b x m e = refl

end_count : (p : Bool) → ◌≡◌ {A = ℕ} (if p && false then 1 else 0) 0
end_count true = refl
end_count false = refl

sum_step : (n new k i j r t : ℕ) → new ≡ n + k → k ≡ i → i + j ≡ r → n + r ≡ t → new + j ≡ t
sum_step n new k i j r t a b c d = omega arith

sum_last : (n new k r t : ℕ) → new ≡ n + k → k ≡ r → n + r ≡ t → new ≡ t
sum_last n new k r t a b c = omega arith

all_push : {X : Type 0} (P : X → Type 0) (xs : List X) (x : X) → AllByRecursion P xs → P x → AllByRecursion P (xs ++ x ∷ [])
all_push P [] x a p = (p, tt)
all_push P (y ∷ xs) x a p = (a.0, all_push P xs x a.1 p)

-- If guards break the cut earlier than a guard, they also break it earlier than a stronger one.
stronger : (cut g h : List (ℕ × Bool)) (gs : List (List (ℕ × Bool))) → ((w : ℕ → Bool) → holds w h ≡ true → holds w g ≡ true) → AllByRecursion (λ x. BreaksEarlier cut x g) gs → AllByRecursion (λ x. BreaksEarlier cut x h) gs
stronger cut g h [] s a = tt
stronger cut g h (x ∷ gs) s a = ((λ v w p q. a.0 v w p (s w q)), stronger cut g h gs s a.1)

follow_push : (cut g : List (ℕ × Bool)) (gs : List (List (ℕ × Bool))) → FollowCut cut gs → AllByRecursion (λ x. BreaksEarlier cut x g) gs → FollowCut cut (gs ++ g ∷ [])
follow_push cut g [] f a = (tt, tt)
follow_push cut g (x ∷ gs) f a = (all_push (BreaksEarlier cut x) gs g f.0 a.0, follow_push cut g gs f.1 a.1)

follow_added : (cut prefix h : List (ℕ × Bool)) (items new : List (List (ℕ × Bool))) → FollowCut cut items → AllByRecursion (λ x. BreaksEarlier cut x prefix) items → (m : Option (List (ℕ × Bool))) → IsMeet prefix h m → new ≡ items ++ guard_list m → FollowCut cut new
follow_added cut prefix h items new f a None e n = rw (n, append-nil) f
follow_added cut prefix h items new f a (Some x) e n =
    rw n (follow_push cut x items f (stronger cut prefix x items (λ w p. left_true _ _ (sym (e w) ∙ p)) a))

unlike : (b x : Bool) → beq (not b) x ≡ true → beq b x ≡ false
unlike true true h = cc
unlike true false h = refl
unlike false true h = refl
unlike false false h = cc

lower : (v w l kv kw m c : ℕ) → v + l ≡ kv + c → w + l ≡ kw + c → kv ≡ 0 → kw ≡ m + 1 → v < w
lower v w l kv kw m c a b d e = omega arith

one_less : (w l k m c : ℕ) → w + suc l ≡ k + c → k ≡ m + 1 → w + l ≡ m + c
one_less w l k m c a b = omega arith

no_more : (n k t : ℕ) → n + k ≡ t → k ≡ 0 → n ≡ t
no_more n k t a b = omega arith

kept_none : (w : ℕ → Bool) (p : ℕ × Bool) (ps : List (ℕ × Bool)) → beq (not p.1) (w p.0) ≡ true → kept_count w (p ∷ ps) ≡ 0
kept_none w p ps h = rw (unlike p.1 (w p.0) h) refl

kept_more : (w : ℕ → Bool) (p : ℕ × Bool) (ps : List (ℕ × Bool)) → beq p.1 (w p.0) ≡ true → kept_count w (p ∷ ps) ≡ kept_count w ps + 1
kept_more w p ps h = rw h refl

earlier_added : (cut prefix next : List (ℕ × Bool)) (p : ℕ × Bool) (more : List (ℕ × Bool)) (items new : List (List (ℕ × Bool))) →
    ((w : ℕ → Bool) → holds w prefix ≡ true → kept_count w cut + length (p ∷ more) ≡ kept_count w (p ∷ more) + length cut) →
    AllByRecursion (λ x. BreaksEarlier cut x prefix) items → (m : Option (List (ℕ × Bool))) → IsMeet prefix ((p.0, not p.1) ∷ []) m → ((w : ℕ → Bool) → holds w next ≡ both w prefix (p ∷ [])) →
    new ≡ items ++ guard_list m → AllByRecursion (λ x. BreaksEarlier cut x next) new
earlier_added cut prefix next p more items new s a None e k n =
    rw (n, append-nil) (stronger cut prefix next items (λ w q. left_true _ _ (sym (k w) ∙ q)) a)
earlier_added cut prefix next p more items new s a (Some x) e k n =
    rw n
    (all_push (λ g. BreaksEarlier cut g next) items x (stronger cut prefix next items (λ w q. left_true _ _ (sym (k w) ∙ q)) a)
    (λ v w q r.
    let q' : (holds v prefix && (beq (not p.1) (v p.0) && true)) ≡ true = sym (e v) ∙ q in
    let r' : (holds w prefix && (beq p.1 (w p.0) && true)) ≡ true = sym (k w) ∙ r in
    let a1 : kept_count v cut + length (p ∷ more) ≡ kept_count v (p ∷ more) + length cut = s v (left_true _ _ q') in
    let a2 : kept_count w cut + length (p ∷ more) ≡ kept_count w (p ∷ more) + length cut = s w (left_true _ _ r') in
    let b1 : kept_count v (p ∷ more) ≡ 0 = kept_none v p more (as_signed (holds v prefix) _ q') in
    let b2 : kept_count w (p ∷ more) ≡ kept_count w more + 1 = kept_more w p more (as_signed (holds w prefix) _ r') in
    lower _ _ _ _ _ _ _ a1 a2 b1 b2))

pub cut_step : (self cut : List (ℕ × Bool)) (items new : List (List (ℕ × Bool))) (prefix next more : List (ℕ × Bool)) (p : ℕ × Bool) → Cutting self cut items prefix (p ∷ more) → AddsMeet prefix ((p.0, not p.1) ∷ []) items new → IsMeet prefix (p ∷ []) (Some next) → Cutting self cut new next more
cut_step self cut items new prefix next more p c a m =
    record {
      exact = λ w. rw (m w) (sum_step _ _ _ _ _ _ _ (ap (holding w) a.added ∙ holding-append w items (guard_list a.meet)) (added_holds w prefix ((p.0, not p.1) ∷ []) a.meet a.is_meet) (step_count (holds w prefix) p.1 (w p.0) (holds w more)) (c.exact w));
      order = follow_added cut prefix ((p.0, not p.1) ∷ []) items new c.order c.earlier a.meet a.is_meet a.added;
      earlier = earlier_added cut prefix next p more items new c.passed c.earlier a.meet a.is_meet m a.added;
      passed = λ w h.
          (let h' : (holds w prefix && (beq p.1 (w p.0) && true)) ≡ true = sym (m w) ∙ h in
          let e : kept_count w cut + length (p ∷ more) ≡ kept_count w (p ∷ more) + length cut = c.passed w (left_true _ _ h') in
          let f : kept_count w (p ∷ more) ≡ kept_count w more + 1 = kept_more w p more (as_signed (holds w prefix) _ h') in
          one_less _ _ _ _ _ e f);
    }

pub cut_last : (self cut : List (ℕ × Bool)) (items new : List (List (ℕ × Bool))) (prefix more : List (ℕ × Bool)) (p : ℕ × Bool) → Cutting self cut items prefix (p ∷ more) → AddsMeet prefix ((p.0, not p.1) ∷ []) items new → IsMeet prefix (p ∷ []) None → IsCutOff self cut new
cut_last self cut items new prefix more p c a m =
    record {
      exact = λ w. sum_last _ _ _ _ _ (ap (holding w) a.added ∙ holding-append w items (guard_list a.meet)) (added_holds w prefix ((p.0, not p.1) ∷ []) a.meet a.is_meet ∙ last_count (holds w prefix) p.1 (w p.0) (holds w more) (m w)) (c.exact w);
      order = follow_added cut prefix ((p.0, not p.1) ∷ []) items new c.order c.earlier a.meet a.is_meet a.added;
    }

pub cut_end : (self cut : List (ℕ × Bool)) (items : List (List (ℕ × Bool))) (prefix : List (ℕ × Bool)) → Cutting self cut items prefix [] → IsCutOff self cut items
cut_end self cut items prefix c =
    record {
      exact = λ w. (let e : ◌≡◌ {A = ℕ} (if holds w prefix && false then 1 else 0) 0 = end_count (holds w prefix) in
          no_more _ _ _ (c.exact w) e);
      order = c.order;
    }
