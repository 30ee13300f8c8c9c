-- What a write may append to an output: a prefix of its bytes.
use Rattle.std.specs.Prelude.{ℕ, List, ◌++◌, ◌≡◌}

-- A prefix of the bytes was appended.
pub record AddsPrefix (old new bytes : List ℕ) : Type 0 where
  pub appended : List ℕ
  pub left : List ℕ
  pub parts : bytes ≡ appended ++ left
  pub now : new ≡ old ++ appended
