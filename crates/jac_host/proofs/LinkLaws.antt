-- What a read leaves of the supposed input.
use Rattle.std.specs.Prelude.{◌==◌, if◌then◌else◌}
use Rattle.std.specs.Str.{bytes_eq}
use Rattle.std.proofs.Common.{◌≡◌, ℕ, Bool, false, ◌+◌, ◌≤◌, true, IsTrue, List, [], ◌∷◌, ◌++◌, length, take, drop, map, refl, sym, ◌∙◌, ap, arith, zero, suc}
use Rattle.std.proofs.lemmas.Grind.{common_steps}
use Rattle.std.proofs.lemmas.List.{take-append-drop}
use Rattle.std.proofs.Math.Seq.{drop-append_seam}
use Rattle.std.proofs.lemmas.Slice.Eq.{bytes_eq-Decides}
use Rattle.jac_host.specs.Events.{Event}
use Rattle.jac_host.specs.Gave.{goes_on}
use Rattle.jac_host.specs.Links.{input_at, fresh_link}
use Rattle.jac_host.specs.Wrote.{OnlyWrites}

-- What follows the front of a list.
behind : (before bytes rest : List ℕ) → drop (length before) ((before ++ bytes) ++ rest) ≡ bytes ++ rest
behind [] bytes rest = refl
behind (b ∷ bs) bytes rest = behind bs bytes rest

-- If a read gave nothing, nothing is left.
pub at_end : (whole before : List ℕ) → IsTrue (goes_on whole before []) → drop (length before) whole ≡ []
at_end whole before h =
    let same : whole ≡ before ++ [] = (bytes_eq-Decides whole (before ++ [])).0 h in
    ap (drop (length before)) same ∙ drop-append_seam before []

otherwise : (one other bytes : List ℕ) (e : Bool) → e ≡ false → IsTrue (bytes_eq (if e then one else other) bytes) → IsTrue (bytes_eq other bytes)
otherwise one other bytes true not_one h = cc
otherwise one other bytes false not_one h = h

-- After the bytes that were given before, the input continues with the bytes of this read.
pub goes_further : (whole before bytes : List ℕ) → IsTrue (goes_on whole before bytes)
    → drop (length before) whole ≡ bytes ++ drop (length (before ++ bytes)) whole
goes_further whole before [] h =
    let same : before ++ [] ≡ before = grind (arith, common_steps) in ap (λ k. drop (length k) whole) (sym same)
goes_further whole before (b ∷ bs) h =
    let n : ℕ = length (before ++ b ∷ bs) in
    let some : (length (b ∷ bs) == 0) ≡ false = grind (arith, common_steps) in
    let front : take n whole ≡ before ++ b ∷ bs =
    (bytes_eq-Decides (take n whole) (before ++ b ∷ bs)).0 (otherwise whole (take n whole) (before ++ b ∷ bs) _ some h) in
    let all : whole ≡ (before ++ b ∷ bs) ++ drop n whole =
    sym (take-append-drop n whole) ∙ ap (λ k. k ++ drop n whole) front in
    ap (drop (length before)) all ∙ behind before (b ∷ bs) (drop n whole)

-- The first connection that is still to come has the next input.
pub next_comes : (inputs : List (List ℕ)) (n : ℕ) → n + 1 ≤ length inputs
    → map fresh_link (drop n inputs) ≡ fresh_link (input_at inputs n) ∷ map fresh_link (drop (n + 1) inputs)
next_comes [] n h = absurd (omega (arith, h))
next_comes (i ∷ is) zero h = refl
next_comes (i ∷ is) (suc n) h =
    let one : suc n + 1 ≡ suc (n + 1) = omega arith in rw one (next_comes is n (omega (arith, h)))

-- Writes followed by writes.
pub written_on : (old mid new : List Event) → OnlyWrites old mid → OnlyWrites mid new → OnlyWrites old new
written_on old mid new a b = record {
  given = b.given ∙ a.given;
  input = λ inputs. b.input inputs ∙ a.input inputs;
  brings = λ input. b.brings input ∙ a.brings input;
  none = b.none ∙ a.none;
  ends = b.ends ∙ a.ends;
}
