-- What is left of the bytes after a part of them was put.
use Rattle.std.proofs.Common.{◌≡◌, ℕ, ◌+◌, ◌-◌, List, ◌++◌, length, take, drop, sym, arith}
use Rattle.std.proofs.lemmas.Grind.{common_steps}
use Rattle.std.proofs.lemmas.List.{take-append-drop, take_rest}
use Rattle.std.proofs.Math.Seq.{take-add}
use Rattle.jac_io.specs.Put.{AddsPrefix}

-- The front of the bytes was put.
pub front_put : (old new bytes : List ℕ) (done : ℕ) → new ≡ old ++ take done bytes → AddsPrefix old new bytes
front_put old new bytes done h = record { appended = take done bytes; left = drop done bytes; parts = sym (take-append-drop done bytes); now = h }

-- Then the front of the rest was put.
pub more_put : (old mid new bytes : List ℕ) (done more : ℕ) → mid ≡ old ++ take done bytes
    → new ≡ mid ++ take more (take (length bytes - done) (drop done bytes)) → new ≡ old ++ take (done + more) bytes
more_put old mid new bytes done more h k = grind (arith, common_steps, take_rest bytes done, take-add done more bytes)
