-- The values of a view's parameters, and the viewer of a request.
use Rattle.std.specs.Prelude.{ℕ, if◌then◌else◌, List, [], ◌∷◌, Option, Some, None}
use Rattle.jac_value.specs.declared.value.Kind.{Kind}
use Rattle.jac_value.specs.declared.value.Value.{Value}
use Rattle.jac_value.specs.Ids.{is_id_of}
use Rattle.jac_value.specs.Values.{default_value, value_read}
use Rattle.jac_lang.specs.declared.bindings.Binding.{Binding}
use Rattle.jac_lang.specs.declared.field_kinds.Field.{Field}
use Rattle.jac_lang.specs.Lookup.{model_place, kind_named}
use Rattle.jac_lang.specs.Syntax.{Entity, Application}
use Rattle.jac_route.specs.declared.pairs.Pair.{Pair}
use Rattle.jac_route.specs.Pairs.{value_of_name}

-- A missing parameter has the default value of its kind.
abbrev pub parameter_read : Kind → Option (List ℕ) → Value
parameter_read kind None = default_value kind
parameter_read kind (Some text) = value_read kind text

abbrev pub parameter : List Entity → List Pair → Field → Binding
parameter models pairs field = record {
  name = field.name;
  bound_to = parameter_read
      (kind_named models field.kind) (value_of_name field.name pairs);
}

-- Each parameter, bound to the value of the first pair with its name.
abbrev pub parameters : List Entity → List Field → List Pair → List Binding
parameters models [] pairs = []
parameters models (field ∷ fields) pairs = parameter models pairs field ∷ parameters models fields
    pairs

abbrev pub id_if : ℕ → Option ℕ → Option ℕ
id_if number None = None
id_if number (Some model) = if is_id_of number model then Some number else None

abbrev pub viewer_named : List Entity → Option (List ℕ) → ℕ → Option ℕ
viewer_named models None number = None
viewer_named models (Some name) number = id_if number (model_place models name)

-- The viewer with this number: none if it is no id of the viewer's model.
abbrev pub viewer_of : Application → ℕ → Option ℕ
viewer_of app number = viewer_named app.models app.viewer number
