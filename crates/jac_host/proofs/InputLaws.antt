-- What the reads of a connection gave agrees with each of them.
use Rattle.std.specs.Prelude.{◌==◌, ◌||◌, not}
use Rattle.std.proofs.Common.{◌≡◌, ℕ, Bool, true, false, IsTrue, List, [], ◌∷◌, ◌++◌, length, take, refl, sym, arith}
use Rattle.std.proofs.lemmas.Grind.{common_steps}
use Rattle.std.proofs.lemmas.Bool.{and_parts, and_from, true≢false}
use Rattle.std.proofs.lemmas.Slice.Eq.{bytes_eq-Decides}
use Rattle.jac_host.specs.Events.{Event, Asks, Opened, Gave, Took, Aimed, Listens, Came}
use Rattle.jac_host.specs.Gave.{bytes_given, goes_on}
use Rattle.jac_host.specs.Links.{brings, gave_none, ends_for_good}

abbrev NoneBehind : List Event → List ℕ → Type 0
NoneBehind events more = gave_none events ≡ true → more ≡ []

one_gone_on : (before bytes more : List ℕ) → ((length bytes == 0) ≡ true → more ≡ [])
    → IsTrue (goes_on ((before ++ bytes) ++ more) before bytes)
one_gone_on before [] more none =
    let no : more ≡ [] = none refl in
    let same : (before ++ []) ++ more ≡ before ++ [] = grind (arith, common_steps, no) in
    (bytes_eq-Decides ((before ++ []) ++ more) (before ++ [])).1 same
one_gone_on before (b ∷ bs) more none =
    let some : (length (b ∷ bs) == 0) ≡ false = grind (arith, common_steps) in
    let front : take (length (before ++ b ∷ bs)) ((before ++ b ∷ bs) ++ more) ≡ before ++ b ∷ bs = grind (arith, common_steps) in
    rw some ((bytes_eq-Decides (take (length (before ++ b ∷ bs)) ((before ++ b ∷ bs) ++ more)) (before ++ b ∷ bs)).1 front)

none_left : (bytes : List ℕ) → (length bytes == 0) ≡ true → bytes ≡ []
none_left [] e = refl
none_left (b ∷ bs) e = absurd (grind (arith, common_steps, e))

still_none : (bytes more : List ℕ) (over : Bool) → ((length bytes == 0 || not over) ≡ true)
    → ((length bytes == 0 || over) ≡ true → more ≡ []) → over ≡ true → bytes ++ more ≡ []
still_none [] more over h none e = none refl
still_none (b ∷ bs) more true h none e = absurd (grind (arith, common_steps, h))
still_none (b ∷ bs) more false h none e = absurd (true≢false (sym e))

or_first : (one other : Bool) → one ≡ true → (one || other) ≡ true
or_first true other e = refl
or_first false other e = absurd (true≢false (sym e))

with_more : (events : List Event) (more : List ℕ) → ends_for_good events ≡ true → NoneBehind events more
    → IsTrue (brings (bytes_given events ++ more) events)
with_more [] more ends none = refl
with_more (Came ∷ events) more ends none = refl
with_more (Opened name ∷ events) more ends none = absurd (true≢false (sym ends))
with_more (Asks name ∷ events) more ends none = with_more events more ends none
with_more (Took bytes ∷ events) more ends none = with_more events more ends none
with_more (Aimed name ∷ events) more ends none = with_more events more ends none
with_more (Listens port ∷ events) more ends none = with_more events more ends none
with_more (Gave bytes ∷ events) more ends none =
    let parts : ((length bytes == 0 || not (gave_none events)) ≡ true) × (ends_for_good events ≡ true) = and_parts _ _ ends in
    let on : IsTrue (goes_on ((bytes_given events ++ bytes) ++ more) (bytes_given events) bytes) =
    one_gone_on (bytes_given events) bytes more (λ e. none (or_first (length bytes == 0) (gave_none events) e)) in
    let rest : IsTrue (brings (bytes_given events ++ (bytes ++ more)) events) =
    with_more events (bytes ++ more) parts.1 (still_none bytes more (gave_none events) parts.0 none) in
    let same : bytes_given events ++ (bytes ++ more) ≡ (bytes_given events ++ bytes) ++ more = grind (arith, common_steps) in
    let left : IsTrue (brings ((bytes_given events ++ bytes) ++ more) events) = rw same at rest in
    and_from _ _ on left

-- If no read gave bytes after one that gave nothing.
pub given_agrees : (events : List Event) → IsTrue (ends_for_good events) → IsTrue (brings (bytes_given events) events)
given_agrees events ends =
    let all : IsTrue (brings (bytes_given events ++ []) events) = with_more events [] ends (λ e. refl) in
    let same : bytes_given events ++ [] ≡ bytes_given events = grind (arith, common_steps) in
    rw same at all
