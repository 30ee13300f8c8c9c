-- A request binds the parameters of a view to values of their kinds.
use Rattle.std.proofs.Common.{◌≡◌, refl, ℕ, Bool, true, false, ◌&&◌, List, [], ◌∷◌, length, Option, Some, None, unwrap_or, if◌then◌else◌}
use Rattle.std.specs.Str.Parse.{digits_value}
use Rattle.jac_value.specs.Ids.{is_id_of}
use Rattle.jac_value.specs.Values.{is_numeral, value_read}
use Rattle.jac_value.specs.declared.value.Kind.{Kind}
use Rattle.jac_value.specs.declared.value.Kind.TheVariants as kinds
use Rattle.jac_value.specs.declared.value.Value.TheVariants as value
use Rattle.jac_lang.specs.declared.field_kinds.Field.{Field}
use Rattle.jac_lang.specs.Lookup.{model_place, kind_named}
use Rattle.jac_lang.specs.Syntax.{Entity, Application}
use Rattle.jac_route.specs.declared.pairs.Pair.{Pair}
use Rattle.jac_route.specs.Pairs.{value_of_name}
use Rattle.jac_route.specs.Parameters.{parameter_read, parameters, id_if, viewer_named, viewer_of}
use Rattle.jac_check.specs.Scope.{named_fields}
use Rattle.jac_kind_laws.specs.Fits.{Has, AreBound, IsViewer}
use Rattle.jac_kind_laws.proofs.Tables.{default_has}

reference_if : (numeral is : Bool) (id m : ℕ) → is_id_of id m ≡ is → Has (Kind.Ref m) (value.Ref (if numeral && is then Some id else None))
reference_if true true id m e = e
reference_if true false id m e = refl
reference_if false is id m e = refl

read_has : (k : Kind) (text : List ℕ) → Has k (value_read k text)
read_has kinds.Int text = refl
read_has kinds.Text text = refl
read_has kinds.Bool text = refl
read_has (kinds.Ref m) text = reference_if (is_numeral text) (is_id_of (digits_value 10 text) m) (digits_value 10 text) m refl

parameter_has : (k : Kind) (text : Option (List ℕ)) → Has k (parameter_read k text)
parameter_has k None = default_has k
parameter_has k (Some text) = read_has k text

pub parameters_fit : (models : List Entity) (fields : List Field) (pairs : List Pair) → AreBound (named_fields models fields) (parameters models fields pairs)
parameters_fit models [] pairs = tt
parameters_fit models (f ∷ fields) pairs = (refl, parameter_has (kind_named models f.kind) (value_of_name f.name pairs), parameters_fit models fields pairs)

id_has : (number behind : ℕ) (place : Option ℕ) → Has (Kind.Ref (unwrap_or place behind)) (value.Ref (id_if number place))
id_has number behind None = refl
id_has number behind (Some m) = reference_if true (is_id_of number m) number m refl

viewer_fits : (models : List Entity) (name : Option (List ℕ)) (number : ℕ) → IsViewer models name (viewer_named models name number)
viewer_fits models None number = tt
viewer_fits models (Some name) number = id_has number (length models) (model_place models name)

pub viewers_fit : (app : Application) (number : ℕ) → IsViewer app.models app.viewer (viewer_of app number)
viewers_fit app number = viewer_fits app.models app.viewer number
