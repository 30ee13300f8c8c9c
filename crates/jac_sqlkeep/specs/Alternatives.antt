-- The guards of a record's alternatives while these are read.
use Rattle.std.specs.Prelude.{◌≡◌, ◌⊎◌, ⊤, ℕ, Bool, true, false, List, [], ◌∷◌, length, take, drop}
use Rattle.std.specs.List.{AllByRecursion}
use Rattle.sqlite_value.specs.Order.{Row as Values}
use Rattle.jac_world.specs.World.{IsApart}
use Rattle.jac_rows.specs.Good.{ModelShape}
use Rattle.jac_sql_spec.specs.Testing.{MovesOn, ReadsOn}

-- The guards are equal up to some label, which the first requires to be shown and the second to be
-- hidden.
abbrev pub Precedes : List (ℕ × Bool) → List (ℕ × Bool) → Type 0
Precedes [] h = ⊥
Precedes (p ∷ ps) [] = ⊥
Precedes (p ∷ ps) (q ∷ qs) =
    (p.0 ≡ q.0) × (((p.1 ≡ q.1) × Precedes ps qs) ⊎ ((p.1 ≡ true) × (q.1 ≡ false)))

-- Each guard precedes all later ones.
abbrev pub AreChained : List (List (ℕ × Bool)) → Type 0
AreChained [] = ⊤
AreChained (g ∷ gs) = AllByRecursion (Precedes g) gs × AreChained gs

-- The last of the guards, if there is one, precedes `g`.
abbrev pub EndsBefore : List (List (ℕ × Bool)) → List (ℕ × Bool) → Type 0
EndsBefore [] g = ⊤
EndsBefore (x ∷ []) g = Precedes x g
EndsBefore (x ∷ (y ∷ ys)) g = EndsBefore (y ∷ ys) g

-- The guard `g` precedes the first of the guards, if there is one.
abbrev pub StartsBehind : List (List (ℕ × Bool)) → List (ℕ × Bool) → Type 0
StartsBehind [] g = ⊤
StartsBehind (x ∷ xs) g = Precedes g x

-- The guard `g` belongs at this place.
pub record FitsAt (guards : List (List (ℕ × Bool))) (at : ℕ) (g : List (ℕ × Bool)) : Type 0 where
  pub front : EndsBefore (take at guards) g
  pub back : StartsBehind (drop at guards) g

-- The guards that were read, in another order. A guard that excludes each of `guards` excludes each
-- of `all`. If `in_order` is true, they are chained.
pub record AreTaken (all guards : List (List (ℕ × Bool))) (in_order : Bool) : Type 0 where
  pub long : length guards ≡ length all
  pub each : (g : List (ℕ × Bool)) → AllByRecursion (λ h. IsApart h g) guards
      → AllByRecursion (λ h. IsApart h g) all
  pub order : in_order ≡ true → AreChained guards

-- The step from the record whose alternatives were read last to the record of the next row, with
-- what is kept of the alternatives before that row.
pub record MovesOnWith (model id : ℕ) (all : List (List (ℕ × Bool))) (next_model next_id : ℕ)
    (guards : List (List (ℕ × Bool))) (in_order : Bool) : Type 0 where
  pub before : List (List (ℕ × Bool))
  pub moved : MovesOn model id all next_model next_id before
  pub kept : AreTaken before guards in_order

-- A row is read after the others, with what is kept of the alternatives up to it.
pub record ReadsOnWith (shapes : List ModelShape) (number model id : ℕ)
    (all : List (List (ℕ × Bool))) (v : Values) (next_model next_id : ℕ)
    (guards : List (List (ℕ × Bool))) (in_order : Bool) : Type 0 where
  pub next : List (List (ℕ × Bool))
  pub read : ReadsOn shapes number model id all v next_model next_id next
  pub kept : AreTaken next guards in_order
