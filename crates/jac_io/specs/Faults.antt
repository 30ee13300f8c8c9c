-- Counts of faults, which stop at the largest `u64`.
use Rattle.std.specs.Prelude.{ℕ, ◌+◌, ◌-◌, ◌^◌, ◌≤◌, min}

-- The count after one more fault.
abbrev pub one_more_fault : ℕ → ℕ
one_more_fault count = min (count + 1) (2 ^ 64 - 1)

-- The count rose by at least one, or is at the largest u64.
abbrev pub Rose : ℕ → ℕ → Type 0
Rose before now = min (before + 1) (2 ^ 64 - 1) ≤ now
