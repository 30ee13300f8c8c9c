use Rattle.std.proofs.Common.{◌≡◌, ◌&&◌, ◌∙◌, Bool, true, false, not, if◌then◌else◌, refl}
use mathlib.Core.Bool.{beq}

-- A property that holds for both sides holds for the whole.
pub joined_one : {X V : Type 0} (P : X → V → Type 0) (b : Bool) (x xh xl : X) (r rh rl : V) → (b ≡ true → xh ≡ x) → (b ≡ false → xl ≡ x) → r ≡ (if b then rh else rl) → P xh rh → P xl rl → P x r
joined_one P true x xh xl r rh rl a b e p q = rw (← (a refl), e) p
joined_one P false x xh xl r rh rl a b e p q = rw (← (b refl), e) q

-- The same for two facets.
pub joined : {X Y V : Type 0} (P : X → Y → V → Type 0) (b : Bool) (x xh xl : X) (y yh yl : Y) (r rh rl : V) → (b ≡ true → xh ≡ x) → (b ≡ false → xl ≡ x) → (b ≡ true → yh ≡ y) → (b ≡ false → yl ≡ y) → r ≡ (if b then rh else rl) → P xh yh rh → P xl yl rl → P x y r
joined P true x xh xl y yh yl r rh rl a b c d e p q = rw (← (a refl), ← (c refl), e) p
joined P false x xh xl y yh yl r rh rl a b c d e p q = rw (← (b refl), ← (d refl), e) q

-- The step of `under` for the first pair of a guard, given the result for the other pairs.
pub under_step : {T : Type 0} (s x r : Bool) (f i o ni oi oo n old : T) → f ≡ (if beq s x then i else o) → i ≡ (if r then ni else oi) → o ≡ oo → (x ≡ s → ni ≡ n) → (x ≡ s → oi ≡ old) → (x ≡ not s → oo ≡ old) → f ≡ (if beq s x && r then n else old)
under_step true true true f i o ni oi oo n old a b c p q t = a ∙ b ∙ p refl
under_step true true false f i o ni oi oo n old a b c p q t = a ∙ b ∙ q refl
under_step true false r f i o ni oi oo n old a b c p q t = a ∙ c ∙ t refl
under_step false false true f i o ni oi oo n old a b c p q t = a ∙ b ∙ p refl
under_step false false false f i o ni oi oo n old a b c p q t = a ∙ b ∙ q refl
under_step false true r f i o ni oi oo n old a b c p q t = a ∙ c ∙ t refl

sign_is : (a b : Bool) → beq a b ≡ true → b ≡ a
sign_is true true p = refl
sign_is true false p = cc
sign_is false true p = cc
sign_is false false p = refl

left_true : (a b : Bool) → (a && b) ≡ true → a ≡ true
left_true true b p = refl
left_true false b p = p

right_true : (a b : Bool) → (a && b) ≡ true → b ≡ true
right_true true b p = p
right_true false b p = cc

-- The step of `prune` for the first pair of the cut, given the result for the other pairs.
pub prune_step : {T : Type 0} (s x r : Bool) (f b self : T) → (beq s x && r) ≡ true → (r ≡ true → f ≡ b) → (x ≡ s → b ≡ self) → f ≡ self
prune_step s x r f b self h p q = p (right_true (beq s x) r h) ∙ q (sign_is s x (left_true (beq s x) r h))
