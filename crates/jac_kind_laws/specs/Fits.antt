-- Worlds and bindings that fit a scope: each value has the kind that the scope gives.
use Rattle.std.specs.Prelude.{◌≡◌, ℕ, true, List, [], ◌∷◌, Option, Some, None, option_map, ⊤}
use Rattle.jac_value.specs.declared.value.Kind.{Kind}
use Rattle.jac_value.specs.declared.value.Value.{Value}
use Rattle.jac_value.specs.declared.value.Value.TheVariants as value
use Rattle.jac_value.specs.Values.{has_kind}
use Rattle.jac_lang.specs.declared.bindings.Binding.{Binding}
use Rattle.jac_lang.specs.Syntax.{Entity}
use Rattle.jac_rows.specs.declared.plain.PlainRow.{PlainRow}
use Rattle.jac_rows.specs.Good.{IsGoodPlain}
use Rattle.jac_plain.specs.Models.{shapes_of_models}
use Rattle.jac_plain.specs.World.{World}
use Rattle.jac_check.specs.Scope.{Named, Scope, reference_to}

-- The value has the kind.
abbrev pub Has : Kind → Value → Type 0
Has k v = has_kind k v ≡ true

-- Each name is bound, in order, to a value of its kind.
abbrev pub AreBound : List Named → List Binding → Type 0
AreBound [] [] = ⊤
AreBound (n ∷ ns) (b ∷ bs) = (n.name ≡ b.name) × Has n.meaning.kind b.bound_to × AreBound ns bs
AreBound [] (b ∷ bs) = ⊥
AreBound (n ∷ ns) [] = ⊥

-- If the scope allows the word, its value is a reference of this kind.
abbrev pub Refers : Option Kind → Option ℕ → Type 0
Refers None id = ⊤
Refers (Some k) id = Has k (value.Ref id)

-- The value of the word `viewer` is a reference to the viewer model.
abbrev pub IsViewer : List Entity → Option (List ℕ) → Option ℕ → Type 0
IsViewer ms viewers id = Refers (option_map (reference_to ms) viewers) id

-- The tables are good, with some next number.
pub record AreGood (models : List Entity) (tables : List (List PlainRow)) : Type 0 where
  pub next : ℕ
  pub good : IsGoodPlain (shapes_of_models models models)
      (record { tables = tables; number = next })

-- The world and the bindings are as the scope says, and the tables are good.
pub record IsIn (s : Scope) (w : World) (env : List Binding) : Type 0 where
  pub models : s.models ≡ w.models
  pub bindings : AreBound s.names env
  pub this : Refers s.this w.this
  pub viewer : IsViewer w.models s.viewers w.viewer
  pub tables : AreGood w.models w.tables
