-- Faults in names: of models, fields, binders and orders, and of the words of an expression.
use Rattle.std.specs.Prelude.{ℕ, List, [], ◌∷◌, Option, Some, None, if◌then◌else◌, codes}
use Rattle.jac_value.specs.declared.value.Kind.{Kind}
use Rattle.jac_lang.specs.declared.field_kinds.Field.{Field}
use Rattle.jac_lang.specs.declared.queries.Binder.{Binder}
use Rattle.jac_lang.specs.declared.queries.Order.{Order}
use Rattle.jac_lang.specs.declared.queries.Order.TheVariants as orders
use Rattle.jac_lang.specs.Lookup.{same_text, model_place, field_place}
use Rattle.jac_lang.specs.Syntax.{Entity}
use Rattle.jac_check.specs.declared.names.Meaning.{Meaning}
use Rattle.jac_check.specs.Scope.{Scope, meaning_of, reference_to, fields_of, is_one_of}
use Rattle.jac_check.specs.Verdict.{Reason, Verdict, ◌before◌, fault_if}

abbrev pub fault_unplaced : Option ℕ → List ℕ → Option Reason
fault_unplaced None x = Some (Reason.unknown x)
fault_unplaced (Some place) x = None

-- No model has this name.
abbrev pub unknown_model : List Entity → List ℕ → Option Reason
unknown_model ms m = fault_unplaced (model_place ms m) m

-- None of the fields has this name.
abbrev pub unknown_field : List Field → List ℕ → Option Reason
unknown_field fs f = fault_unplaced (field_place fs f) f

-- No model has the first name, or none of its fields has the second.
abbrev pub unknown_place : List Entity → List ℕ → List ℕ → Option Reason
unknown_place ms m f = unknown_model ms m before unknown_field (fields_of ms m) f

-- The fault of binders: a name that is used twice in the query, or an unknown model.
abbrev pub binder_fault : List Entity → List (List ℕ) → List Binder → Option Reason
binder_fault ms seen [] = None
binder_fault ms seen (b ∷ bs) =
    fault_if (is_one_of b.name seen) (Reason.twice b.name) before unknown_model ms b.model before
    binder_fault ms (b.name ∷ seen) bs

-- The fault of an order by a field of the binder with this name.
abbrev pub sorted_fault : List Entity → List Binder → List ℕ → List ℕ → Option Reason
sorted_fault ms [] x f = Some (Reason.unknown x)
sorted_fault ms (b ∷ bs) x f = if same_text b.name x then unknown_place ms b.model f
    else sorted_fault ms bs x f

-- The fault of an order, which must name a binder of the query and a field of its model.
abbrev pub order_fault : List Entity → List Binder → Order → Option Reason
order_fault ms bs orders.Key = None
order_fault ms bs (orders.Up x f) = sorted_fault ms bs x f
order_fault ms bs (orders.Down x f) = sorted_fault ms bs x f

abbrev pub named_kind : Option Meaning → List ℕ → Verdict
named_kind None x = Verdict.fault (Reason.unknown x)
named_kind (Some n) x = Verdict.kind n.kind

-- The verdict on a name as an expression. A public expression may use no name.
abbrev pub name_verdict : Scope → List ℕ → Verdict
name_verdict s x = if s.is_public then Verdict.fault (Reason.not_here x)
    else named_kind (meaning_of s.names x) x

-- The verdict on the word `this`.
abbrev pub this_kind : Option Kind → Verdict
this_kind None = Verdict.fault (Reason.not_here (codes "this"))
this_kind (Some k) = Verdict.kind k

abbrev pub viewer_kind : List Entity → Option (List ℕ) → Verdict
viewer_kind ms None = Verdict.fault (Reason.unknown (codes "viewer"))
viewer_kind ms (Some m) = Verdict.kind (reference_to ms m)

-- The verdict on the word `viewer`.
abbrev pub viewer_verdict : Scope → Verdict
viewer_verdict s = if s.is_public then Verdict.fault Reason.viewer_in_public
    else viewer_kind s.models s.viewers

-- The fault of a form with this head in a public expression.
abbrev pub in_public : Scope → List ℕ → Option Reason
in_public s word = fault_if s.is_public (Reason.not_here word)

-- The fault of a query in the form with this head: it may not be here, or a binder has a fault.
abbrev pub query_names : Scope → List ℕ → List Binder → Option Reason
query_names s word bs = in_public s word before binder_fault s.models [] bs
