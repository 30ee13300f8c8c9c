use Rattle.std.specs.Prelude.{◌≡◌}
use denote.Param.Members.{Shared}
use denote.Ref.{Bor}

-- The function may give `r` for references to `x` and `y`.
pub record Answers {F X Y R : Type 0} (g : Shared F (Bor X × (Bor Y × Unit {0})) R) (f : F) (x : X)
    (y : Y) (r : R) : Type 0 where
  pub first : Bor X
  pub second : Bor Y
  pub shows : (first.now ≡ x) × (second.now ≡ y)
  pub met : g.post f (first, (second, tt)) r
