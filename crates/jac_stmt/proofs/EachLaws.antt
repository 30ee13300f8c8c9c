-- Steps for each of some values, and statements one after another, with what is left to run.
use Rattle.std.proofs.Common.{◌≡◌, ◌∙◌, refl, sym, ap, subst, ℕ, Bool, true, false, if◌then◌else◌, List, [], ◌∷◌}
use Rattle.jac_rows.specs.Good.{IsSound}
use Rattle.jac_plain.specs.Statements.{Run}
use Rattle.jac_write.specs.Writes.{numbered_tables}
use Rattle.jac_stmt.specs.Runs.{Faceted, run_at, RanWhere, RunsFaceted, RunsEach, after_each, MayAll}

module _ {X : Type 0} (step : (ℕ → Bool) → X → Run → Run) (May : ℕ → (ℕ → Bool) → X → Run → Type 0) where
  -- Running the values that are left from here gives the same as running all from the start.
  pub record RunningEach (n : ℕ) (all rest : (ℕ → Bool) → List X) (old now : Faceted) : Type 0 where
    pub here : (w : ℕ → Bool) → after_each (step w) (rest w) (run_at w now) ≡ after_each (step w) (all w) (run_at w old)
    pub may : (w : ℕ → Bool) → MayAll (step w) (May n w) (rest w) (run_at w now)
    pub sound : IsSound (numbered_tables n now.state)

  abbrev pub IsRunningEach : ((ℕ → Bool) → List X) → ((ℕ → Bool) → List X) → Faceted → Faceted → Type 0
  IsRunningEach all rest old now =
      (n : ℕ) → IsSound (numbered_tables n old.state) → ((w : ℕ → Bool) → MayAll (step w) (May n w) (all w) (run_at w old)) → RunningEach n all rest old now

  pub each_start : (all : (ℕ → Bool) → List X) (old : Faceted) → IsRunningEach all all old old
  each_start all old n sound may = record { here = λ w. refl; may = may; sound = sound }

  pub each_end : (all rest : (ℕ → Bool) → List X) (old new : Faceted) → ((w : ℕ → Bool) → rest w ≡ []) → IsRunningEach all rest old new → RunsEach step May all old new
  each_end all rest old new none done n sound may =
      let ran : RunningEach n all rest old new = done n sound may in
      record {
        left = λ w. ap (λ xs. after_each (step w) xs (run_at w new)) (sym (none w)) ∙ ran.here w;
        sound = ran.sound;
      }

  take_if : (w : ℕ → Bool) (c : Bool) (x : X) (xs : List X) (r next : Run) → next ≡ (if c then step w x r else r) → after_each (step w) xs next ≡ after_each (step w) (if c then x ∷ xs else xs) r
  take_if w true x xs r next e = ap (after_each (step w) xs) e
  take_if w false x xs r next e = ap (after_each (step w) xs) e

  may_first : (n : ℕ) (w : ℕ → Bool) (c : Bool) (x : X) (xs : List X) (r : Run) → c ≡ true → MayAll (step w) (May n w) (if c then x ∷ xs else xs) r → May n w x r
  may_first n w true x xs r held may = may.0
  may_first n w false x xs r held may = cc

  may_rest : (n : ℕ) (w : ℕ → Bool) (c : Bool) (x : X) (xs : List X) (r next : Run) → next ≡ (if c then step w x r else r) → MayAll (step w) (May n w) (if c then x ∷ xs else xs) r
      → MayAll (step w) (May n w) xs next
  may_rest n w true x xs r next e may = subst (λ (s : Run). MayAll (step w) (May n w) xs s) (sym e) may.1
  may_rest n w false x xs r next e may = subst (λ (s : Run). MayAll (step w) (May n w) xs s) (sym e) may

  -- The step for the next value, under the assignments that pass a test.
  pub each_next : (all rest more : (ℕ → Bool) → List X) (where_ : (ℕ → Bool) → Bool) (x : X) (old now new : Faceted)
      → ((w : ℕ → Bool) → rest w ≡ (if where_ w then x ∷ more w else more w))
      → IsRunningEach all rest old now → RunsFaceted (λ w. step w x) (λ n w. May n w x) where_ now new → IsRunningEach all more old new
  each_next all rest more where_ x old now new is before run n sound may =
      let was : RunningEach n all rest old now = before n sound may in
      let asked : (w : ℕ → Bool) → MayAll (step w) (May n w) (if where_ w then x ∷ more w else more w) (run_at w now) = λ w.
      subst (λ (xs : List X). MayAll (step w) (May n w) xs (run_at w now)) (is w) (was.may w) in
      let ran : RanWhere n (λ w. step w x) where_ now new = run n was.sound (λ w held. may_first n w (where_ w) x (more w) (run_at w now) held (asked w)) in
      record {
        here = λ w.
            take_if w (where_ w) x (more w) (run_at w now) (run_at w new) (ran.left w)
            ∙ ap (λ xs. after_each (step w) xs (run_at w now)) (sym (is w))
            ∙ was.here w;
        may = λ w. may_rest n w (where_ w) x (more w) (run_at w now) (run_at w new) (ran.left w) (asked w);
        sound = ran.sound;
      }

-- Statements one after another.

-- Running what is left from here gives the same as running all from the start.
pub record Going (n : ℕ) (all rest : (ℕ → Bool) → Run → Run) (May : ℕ → (ℕ → Bool) → Run → Type 0) (where_ : (ℕ → Bool) → Bool) (old now : Faceted) : Type 0 where
  pub here : (w : ℕ → Bool) → (if where_ w then rest w (run_at w now) else run_at w now) ≡ (if where_ w then all w (run_at w old) else run_at w old)
  pub may : (w : ℕ → Bool) → where_ w ≡ true → May n w (run_at w now)
  pub sound : IsSound (numbered_tables n now.state)

abbrev pub IsGoing : ((ℕ → Bool) → Run → Run) → ((ℕ → Bool) → Run → Run) → (ℕ → (ℕ → Bool) → Run → Type 0) → (ℕ → (ℕ → Bool) → Run → Type 0) → ((ℕ → Bool) → Bool) → Faceted → Faceted → Type 0
IsGoing all rest MayAll MayRest where_ old now =
    (n : ℕ) → IsSound (numbered_tables n old.state) → ((w : ℕ → Bool) → where_ w ≡ true → MayAll n w (run_at w old)) → Going n all rest MayRest where_ old now

pub going_start : (all : (ℕ → Bool) → Run → Run) (May : ℕ → (ℕ → Bool) → Run → Type 0) (where_ : (ℕ → Bool) → Bool) (old : Faceted) → IsGoing all all May May where_ old old
going_start all May where_ old n sound may = record { here = λ w. refl; may = may; sound = sound }

ends_if : (c : Bool) (r s : Run) → (if c then r else r) ≡ s → r ≡ s
ends_if true r s e = e
ends_if false r s e = e

pub going_end : (all : (ℕ → Bool) → Run → Run) (MayAll MayRest : ℕ → (ℕ → Bool) → Run → Type 0) (where_ : (ℕ → Bool) → Bool) (old new : Faceted)
    → IsGoing all (λ w r. r) MayAll MayRest where_ old new → RunsFaceted all MayAll where_ old new
going_end all MayAll MayRest where_ old new done n sound may =
    let ran : Going n all (λ w r. r) MayRest where_ old new = done n sound may in
    record {
      left = λ w. ends_if (where_ w) (run_at w new) (if where_ w then all w (run_at w old) else run_at w old) (ran.here w);
      sound = ran.sound;
    }

goes_if : (c : Bool) (first rest : Run → Run) (r next : Run) → next ≡ (if c then first r else r) → (if c then rest next else next) ≡ (if c then rest (first r) else r)
goes_if true first rest r next e = ap rest e
goes_if false first rest r next e = e

goes_may : (c : Bool) (first : Run → Run) (May : Run → Type 0) (r next : Run) → c ≡ true → next ≡ (if c then first r else r) → May (first r) → May next
goes_may true first May r next held e may = subst May (sym e) may
goes_may false first May r next held e may = cc

pub going_next : (all first rest : (ℕ → Bool) → Run → Run) (MayAll MayFirst MayRest : ℕ → (ℕ → Bool) → Run → Type 0) (where_ : (ℕ → Bool) → Bool) (old now new : Faceted)
    → IsGoing all (λ w r. rest w (first w r)) MayAll (λ n w r. MayFirst n w r × MayRest n w (first w r)) where_ old now
    → RunsFaceted first MayFirst where_ now new → IsGoing all rest MayAll MayRest where_ old new
going_next all first rest MayAll MayFirst MayRest where_ old now new before run n sound may =
    let was : Going n all (λ w r. rest w (first w r)) (λ m w r. MayFirst m w r × MayRest m w (first w r)) where_ old now = before n sound may in
    let ran : RanWhere n first where_ now new = run n was.sound (λ w held. (was.may w held).0) in
    record {
      here = λ w. goes_if (where_ w) (first w) (rest w) (run_at w now) (run_at w new) (ran.left w) ∙ was.here w;
      may = λ w held. goes_may (where_ w) (first w) (MayRest n w) (run_at w now) (run_at w new) held (ran.left w) (was.may w held).1;
      sound = ran.sound;
    }
