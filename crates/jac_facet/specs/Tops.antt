use Rattle.std.specs.Prelude.{◌≡◌, ℕ, ◌<◌, ◌≤◌, ◌⊎◌, Option, Some, None, ⊤}

-- `k` isn't larger than the label, if there is one.
abbrev pub UpTo : ℕ → Option ℕ → Type 0
UpTo k None = ⊤
UpTo k (Some j) = k ≤ j

-- The smaller of two labels, either of which may be missing.
abbrev pub IsLeast : Option ℕ → Option ℕ → Option ℕ → Type 0
IsLeast i j None = (i ≡ None) × (j ≡ None)
IsLeast i j (Some k) = UpTo k i × UpTo k j × ((i ≡ Some k) ⊎ (j ≡ Some k))

-- The smaller of two labels, if it is below the limit.
abbrev pub IsSmallerLabel : Option ℕ → Option ℕ → ℕ → Option ℕ → Type 0
IsSmallerLabel i j limit None = UpTo limit i × UpTo limit j
IsSmallerLabel i j limit (Some k) = (k < limit) × UpTo k i × UpTo k j × ((i ≡ Some k) ⊎ (j
    ≡ Some k))
