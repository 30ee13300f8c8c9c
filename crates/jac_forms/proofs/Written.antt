-- Each application that is read is a written one.
use Rattle.std.proofs.Common.{◌≡◌, ℕ, ◌+◌, ◌<◌, ◌≤◌, ◌^◌, Bool, true, false, not, nat_le, nat_lt, refl, subst, arith, Option, Some, None, List, [], length}
use Rattle.std.specs.Prelude.{IfSome, IsTrue, if◌then◌else◌, codes}
use Rattle.std.specs.List.{All}
use Rattle.std.specs.Str.{bytes_eq}
use Rattle.std.proofs.lemmas.Bool.Decides.{nat_tests}
use Rattle.std.proofs.lemmas.List.Elements.{All-nil, All-cons}
use Rattle.jac_value.specs.Paths.{is_path}
use Rattle.jac_lang.specs.declared.field_kinds.Field.{Field}
use Rattle.jac_lang.specs.declared.field_kinds.KindName.{KindName}
use Rattle.jac_lang.specs.declared.field_kinds.KindName.TheVariants as kinds
use Rattle.jac_lang.specs.declared.pages.Verb.{Verb}
use Rattle.jac_lang.specs.Syntax.{Assigned, FieldGroup, Page, Application}
use Rattle.jac_lang.specs.Written.{IsName, IsWrittenExpression, IsWrittenAssigned, IsWrittenKind, IsWrittenField, IsWrittenGroup, IsWrittenModel, IsWrittenView, IsWritten, sites}
use Rattle.jac_tree.specs.Plain.{PlainTree, PlainTrees, count, is_word, tail_of}
use Rattle.jac_forms.specs.Places.{child}
use Rattle.jac_forms.specs.Reads.{Read, got, read_map, read_and_then, read_behind}
use Rattle.jac_forms.specs.declared.fault.FormFault.TheVariants as faults
use Rattle.jac_forms.specs.declared.fault.Want.{Want}
use Rattle.jac_forms.specs.declared.fault.Want.TheVariants as wants
use Rattle.jac_forms.specs.declared.fault.What.TheVariants as whats
use Rattle.jac_forms.specs.Names.{name_in_tree, each_in_trees}
use Rattle.jac_forms.specs.Expressions.{one_in_trees}
use Rattle.jac_forms.specs.Statements.{Body, assigned_in_tree, statements_in_trees, creates}
use Rattle.jac_forms.specs.Applications.{plain_kind_of, one_name_in_trees, kind_in_tree, field, field_in_tree, few_fields, fields_in_tree, params_in_tree, some_guards, guards_in_tree, policy_in_tree, Guarding, guarding, guarding_in_tree, group, group_in_trees, group_in_tree, entity, entity_behind, entity_in_trees, entity_in_tree, method_in_tree, path_in_tree, page_form, page_in_trees, page_in_tree, is_headed, headed_count, Items, items, after_model, items_in_trees, application, viewer_in_tree, with_viewer, application_of_items, application_in_trees, application_in_tree}
use Rattle.jac_forms.proofs.Chains.{IfGot, after, placed, freely, chained, mapped, weaker, where_true, where_false, either, within, each}
use Rattle.jac_forms.proofs.Spans.{spans-few}
use Rattle.jac_forms.proofs.WrittenExpressions.{name-written, one-written}
use Rattle.jac_forms.proofs.WrittenStatements.{all-assigned, AreNumbered, statements-written}

plain_kind-written : (a : List ℕ) → IfSome (plain_kind_of a) IsWrittenKind
plain_kind-written a =
    one_of (bytes_eq a (codes "int")) (Some kinds.Int) _ tt
    (one_of (bytes_eq a (codes "text")) (Some kinds.Text) _ tt
    (one_of (bytes_eq a (codes "bool")) (Some kinds.Bool) None tt tt))
  where
    one_of : (b : Bool) (o p : Option KindName) → IfSome o IsWrittenKind → IfSome p IsWrittenKind → IfSome (if b then o else p) IsWrittenKind
    one_of true o p h k = h
    one_of false o p h k = k

one_name-written : (want : Want) (at : List ℕ) (ts : PlainTrees) → IfGot (one_name_in_trees want at ts) IsName
one_name-written want at (PlainTrees.more t PlainTrees.none) = name-written (child at 1) t
one_name-written want at PlainTrees.none = tt
one_name-written want at (PlainTrees.more t (PlainTrees.more u ts)) = tt

reference-written : (at : List ℕ) (t : PlainTree) → IfGot (read_map kinds.Ref (read_behind wants.Kind at (one_name_in_trees wants.Kind at) (tail_of (codes "ref") t))) IsWrittenKind
reference-written at t =
    mapped IsName IsWrittenKind kinds.Ref (read_behind wants.Kind at (one_name_in_trees wants.Kind at) (tail_of (codes "ref") t))
    (after IsName wants.Kind at (one_name_in_trees wants.Kind at) (tail_of (codes "ref") t) (one_name-written wants.Kind at)) (λ name h. h)

kind-written : (at : List ℕ) (t : PlainTree) → IfGot (kind_in_tree at t) IsWrittenKind
kind-written at (PlainTree.atom a) = placed IsWrittenKind wants.Kind at (plain_kind_of a) (plain_kind-written a)
kind-written at (PlainTree.text x) = tt
kind-written at (PlainTree.list ts) = reference-written at (PlainTree.list ts)

field-written : (want : Want) (at : List ℕ) (t : PlainTree) → IfGot (field_in_tree want at t) IsWrittenField
field-written want at (PlainTree.list (PlainTrees.more x (PlainTrees.more k PlainTrees.none))) =
    chained IsName IsWrittenField (λ name. read_map (field name) (kind_in_tree (child at 1) k)) (name_in_tree (child at 0) x) (name-written (child at 0) x) (λ name h.
    mapped IsWrittenKind IsWrittenField (field name) (kind_in_tree (child at 1) k) (kind-written (child at 1) k) (λ kind i. (h, i)))
field-written want at t = tt

abbrev AreFields : PlainTrees → List Field → Type 0
AreFields ts fs = All IsWrittenField fs × (length fs ≡ count ts)

abbrev AreFewFields : List Field → Type 0
AreFewFields fs = All IsWrittenField fs × (length fs ≤ 32)

few-written : (at : List ℕ) (ts : PlainTrees) → IfGot (few_fields at ts) AreFewFields
few-written at ts =
    within AreFewFields whats.Fields at 32 (count ts) (each_in_trees (field_in_tree wants.Field) at 1 ts) (λ few.
    weaker (AreFields ts) AreFewFields (each_in_trees (field_in_tree wants.Field) at 1 ts) (each IsWrittenField (field_in_tree wants.Field) (field-written wants.Field) at 1 ts) (λ fs h. let n = h.1 in (h.0, omega arith)))

fields-written : (at : List ℕ) (t : PlainTree) → IfGot (fields_in_tree at t) AreFewFields
fields-written at t = after AreFewFields wants.Fields at (few_fields at) (tail_of (codes "fields") t) (few-written at)

params-written : (at : List ℕ) (t : PlainTree) → IfGot (params_in_tree at t) (All IsWrittenField)
params-written at t =
    after (All IsWrittenField) wants.Params at (each_in_trees (field_in_tree wants.Param) at 1) (tail_of (codes "params") t) (λ ts.
    weaker (AreFields ts) (All IsWrittenField) (each_in_trees (field_in_tree wants.Param) at 1 ts) (each IsWrittenField (field_in_tree wants.Param) (field-written wants.Param) at 1 ts) (λ fs h. h.0))

abbrev AreGuards : List Assigned → Type 0
AreGuards gs = (nat_lt 0 (length gs) ≡ true) × All IsWrittenAssigned gs

some_guards-written : (at : List ℕ) (ts : PlainTrees) → IfGot (some_guards at ts) AreGuards
some_guards-written at ts =
    where_false AreGuards (nat_le (count ts) 0) (each_in_trees (assigned_in_tree wants.Guard) at 1 ts) (faults.Form at wants.Guard) (λ some.
    weaker (λ cells. All IsWrittenAssigned cells × (length cells ≡ count ts)) AreGuards (each_in_trees (assigned_in_tree wants.Guard) at 1 ts) (all-assigned wants.Guard at ts) (λ gs h.
    let n = h.1 in (grind (arith, nat_tests), h.0)))

guards-written : (at : List ℕ) (t : PlainTree) → IfGot (guards_in_tree at t) AreGuards
guards-written at t = after AreGuards wants.Guard at (some_guards at) (tail_of (codes "guards") t) (some_guards-written at)

policy-written : (at : List ℕ) (t : PlainTree) → IfGot (policy_in_tree at t) IsWrittenExpression
policy-written at t = after IsWrittenExpression wants.Policy at (one_in_trees wants.Policy at) (tail_of (codes "policy") t) (one-written wants.Policy at)

-- There are guards exactly if the record isn't hidden.
record IsGuarding (g : Guarding) : Type 0 where
  some : nat_lt 0 (length g.guards) ≡ not g.hides
  guards : All IsWrittenAssigned g.guards

guarding-written : (at : List ℕ) (t : PlainTree) → IfGot (guarding_in_tree at t) IsGuarding
guarding-written at t =
    either IsGuarding (is_word (codes "hides") t) (got (guarding true [])) (read_map (guarding false) (guards_in_tree at t))
    (record { some = refl; guards = All-nil IsWrittenAssigned })
    (mapped AreGuards IsGuarding (guarding false) (guards_in_tree at t) (guards-written at t) (λ gs h. record { some = h.0; guards = h.1 }))

group_parts-written : (at : List ℕ) (ts : PlainTrees) → IfGot (group_in_trees at ts) IsWrittenGroup
group_parts-written at (PlainTrees.more gs (PlainTrees.more p PlainTrees.none)) =
    chained IsGuarding IsWrittenGroup (λ g. read_map (group g) (policy_in_tree (child at 2) p)) (guarding_in_tree (child at 1) gs) (guarding-written (child at 1) gs) (λ g h.
    mapped IsWrittenExpression IsWrittenGroup (group g) (policy_in_tree (child at 2) p) (policy-written (child at 2) p) (λ policy k. record { some = h.some; guards = h.guards; policy = k }))
group_parts-written at ts = tt

group-written : (at : List ℕ) (t : PlainTree) → IfGot (group_in_tree at t) IsWrittenGroup
group-written at t = after IsWrittenGroup wants.Group at (group_in_trees at) (tail_of (codes "group") t) (group_parts-written at)

abbrev AreGroups : PlainTrees → List FieldGroup → Type 0
AreGroups ts gs = All IsWrittenGroup gs × (length gs ≡ count ts)

entity_behind-written : (at : List ℕ) (nested : Bool) (k : ℕ) (x : PlainTree) (ts : PlainTrees) → IfGot (entity_behind at nested k x ts) IsWrittenModel
entity_behind-written at nested k x (PlainTrees.more fs gs) =
    within IsWrittenModel whats.Groups at 8 (count gs) (read_and_then (λ name. read_and_then (λ fields. read_map (entity name nested fields) (each_in_trees group_in_tree at (k + 1) gs)) (fields_in_tree (child at k) fs)) (name_in_tree (child at 1) x)) (λ few.
    chained IsName IsWrittenModel (λ name. read_and_then (λ fields. read_map (entity name nested fields) (each_in_trees group_in_tree at (k + 1) gs)) (fields_in_tree (child at k) fs)) (name_in_tree (child at 1) x) (name-written (child at 1) x) (λ name h.
    chained AreFewFields IsWrittenModel (λ fields. read_map (entity name nested fields) (each_in_trees group_in_tree at (k + 1) gs)) (fields_in_tree (child at k) fs) (fields-written (child at k) fs) (λ fields l.
    mapped (AreGroups gs) IsWrittenModel (entity name nested fields) (each_in_trees group_in_tree at (k + 1) gs) (each IsWrittenGroup group_in_tree group-written at (k + 1) gs) (λ groups m.
    let n = m.1 in
    record { name = h; few_fields = l.1; fields = l.0; few_groups = omega arith; groups = m.0 }))))
entity_behind-written at nested k x PlainTrees.none = tt

entity_parts-written : (at : List ℕ) (ts : PlainTrees) → IfGot (entity_in_trees at ts) IsWrittenModel
entity_parts-written at (PlainTrees.more x (PlainTrees.more n ts)) =
    either IsWrittenModel (is_word (codes "nested") n) (entity_behind at true 3 x ts) (entity_behind at false 2 x (PlainTrees.more n ts))
    (entity_behind-written at true 3 x ts)
    (entity_behind-written at false 2 x (PlainTrees.more n ts))
entity_parts-written at PlainTrees.none = tt
entity_parts-written at (PlainTrees.more x PlainTrees.none) = tt

entity-written : (at : List ℕ) (t : PlainTree) → IfGot (entity_in_tree at t) IsWrittenModel
entity-written at t = after IsWrittenModel wants.Item at (entity_in_trees at) (tail_of (codes "model") t) (entity_parts-written at)

abbrev IsPath : List ℕ → Type 0
IsPath path = IsTrue (is_path path)

path-written : (at : List ℕ) (t : PlainTree) → IfGot (path_in_tree at t) IsPath
path-written at (PlainTree.atom a) = tt
path-written at (PlainTree.text x) = where_true IsPath (is_path x) (got x) (faults.Form at wants.Path) (λ e. e)
path-written at (PlainTree.list ts) = tt

page-written : (at : List ℕ) (method : Verb) (path : List ℕ) (params : List Field) (body : Body) → IsPath path → All IsWrittenField params → AreNumbered 0 body → IfGot (page_form at method path params body) IsWrittenView
page-written at method path params body h k l =
    where_true IsWrittenView (nat_le body.next 64) (got (record { method = method; path = path; params = params; body = body.statements })) (faults.TooMany at whats.Sites (creates body.statements)) (λ e.
    let few : body.next ≤ 64 = grind (arith, nat_tests) in
    let counted = spans-few body.next (sites body.statements) l.1 few in
    record { path = h; params = k; body = l.0; few_sites = counted.0; in_order = counted.1 })

page_parts-written : (at : List ℕ) (ts : PlainTrees) → IfGot (page_in_trees at ts) IsWrittenView
page_parts-written at (PlainTrees.more m (PlainTrees.more p (PlainTrees.more ps ss))) =
    freely IsWrittenView (λ method. read_and_then (λ path. read_and_then (λ params. read_and_then (page_form at method path params) (statements_in_trees at 4 ss 0)) (params_in_tree (child at 3) ps)) (path_in_tree (child at 2) p)) (method_in_tree (child at 1) m) (λ method.
    chained IsPath IsWrittenView (λ path. read_and_then (λ params. read_and_then (page_form at method path params) (statements_in_trees at 4 ss 0)) (params_in_tree (child at 3) ps)) (path_in_tree (child at 2) p) (path-written (child at 2) p) (λ path h.
    chained (All IsWrittenField) IsWrittenView (λ params. read_and_then (page_form at method path params) (statements_in_trees at 4 ss 0)) (params_in_tree (child at 3) ps) (params-written (child at 3) ps) (λ params k.
    chained (AreNumbered 0) IsWrittenView (page_form at method path params) (statements_in_trees at 4 ss 0) (statements-written at 4 ss 0) (λ body l. page-written at method path params body h k l))))
page_parts-written at PlainTrees.none = tt
page_parts-written at (PlainTrees.more m PlainTrees.none) = tt
page_parts-written at (PlainTrees.more m (PlainTrees.more p PlainTrees.none)) = tt

view-written : (at : List ℕ) (t : PlainTree) → IfGot (page_in_tree at t) IsWrittenView
view-written at t = after IsWrittenView wants.Item at (page_in_trees at) (tail_of (codes "view") t) (page_parts-written at)

-- There are at most as many models as lists with the head `model`.
pub record AreItems (most : ℕ) (is : Items) : Type 0 where
  pub few : length is.models ≤ most
  pub models : All IsWrittenModel is.models
  pub views : All IsWrittenView is.views

abbrev AreViews : PlainTrees → List Page → Type 0
AreViews ts vs = All IsWrittenView vs × (length vs ≡ count ts)

views-written : (at : List ℕ) (j most : ℕ) (ts : PlainTrees) → IfGot (read_map (items []) (each_in_trees page_in_tree at j ts)) (AreItems most)
views-written at j most ts =
    mapped (AreViews ts) (AreItems most) (items []) (each_in_trees page_in_tree at j ts) (each IsWrittenView page_in_tree view-written at j ts) (λ vs h.
    record { few = omega arith; models = All-nil IsWrittenModel; views = h.0 })

headed-most : (t : PlainTree) (ts : PlainTrees) → headed_count (codes "model") ts ≤ headed_count (codes "model") (PlainTrees.more t ts)
headed-most t ts = split (is_headed (codes "model") t) refl
  where
    split : (b : Bool) → is_headed (codes "model") t ≡ b → headed_count (codes "model") ts ≤ headed_count (codes "model") (PlainTrees.more t ts)
    split true e = rw e (omega arith)
    split false e = rw e (omega arith)

pub items-written : (at : List ℕ) (j : ℕ) (ts : PlainTrees) → IfGot (items_in_trees at j ts) (AreItems (headed_count (codes "model") ts))
items-written at j PlainTrees.none = record { few = omega arith; models = All-nil IsWrittenModel; views = All-nil IsWrittenView }
items-written at j (PlainTrees.more t ts) = split (is_headed (codes "model") t) refl (items-written at (j + 1) ts)
  where
    split : (b : Bool) → is_headed (codes "model") t ≡ b → IfGot (items_in_trees at (j + 1) ts) (AreItems (headed_count (codes "model") ts))
        → IfGot (items_in_trees at j (PlainTrees.more t ts)) (AreItems (headed_count (codes "model") (PlainTrees.more t ts)))
    split true e rest = rw e (
        chained IsWrittenModel (AreItems (headed_count (codes "model") ts + 1)) (λ m. read_map (after_model m) (items_in_trees at (j + 1) ts)) (entity_in_tree (child at j) t) (entity-written (child at j) t) (λ m h.
        mapped (AreItems (headed_count (codes "model") ts)) (AreItems (headed_count (codes "model") ts + 1)) (after_model m) (items_in_trees at (j + 1) ts) rest (λ is k.
        let n = k.few in
        record { few = omega arith; models = All-cons IsWrittenModel m is.models h k.models; views = k.views })))
    split false e rest = rw e (views-written at j (headed_count (codes "model") ts) (PlainTrees.more t ts))

-- The application is a written one if it has fewer than 2^32 views.
abbrev IsMostly : Application → Type 0
IsMostly a = length a.views < 2 ^ 32 → IsWritten a

made-written : (most : ℕ) (viewer : Option (List ℕ)) (o : Read Items) → most ≤ 64 → IfSome viewer IsName → IfGot o (AreItems most) → IfGot (read_map (application viewer) o) IsMostly
made-written most viewer o small h k =
    mapped (AreItems most) IsMostly (application viewer) o k (λ is l few.
    let n = l.few in
    record { viewer = h; few_models = omega arith; models = l.models; few_views = few; views = l.views })

viewer-written : (at : List ℕ) (t : PlainTree) → IfGot (viewer_in_tree at t) IsName
viewer-written at t = after IsName wants.Item at (one_name_in_trees wants.Item at) (tail_of (codes "viewer") t) (one_name-written wants.Item at)

parts-written : (at : List ℕ) (ts : PlainTrees) → headed_count (codes "model") ts ≤ 64 → IfGot (application_of_items at ts) IsMostly
parts-written at PlainTrees.none small = made-written 0 None (items_in_trees at 1 PlainTrees.none) (omega arith) tt (items-written at 1 PlainTrees.none)
parts-written at (PlainTrees.more t ts) small =
    let fewer = headed-most t ts in
    either IsMostly (is_headed (codes "viewer") t) (read_and_then (with_viewer at ts) (viewer_in_tree (child at 1) t)) _
    (chained IsName IsMostly (with_viewer at ts) (viewer_in_tree (child at 1) t) (viewer-written (child at 1) t) (λ name h.
    made-written (headed_count (codes "model") ts) (Some name) (items_in_trees at 2 ts) (omega (arith, fewer, small)) h (items-written at 2 ts)))
    (made-written (headed_count (codes "model") (PlainTrees.more t ts)) None (items_in_trees at 1 (PlainTrees.more t ts)) small tt (items-written at 1 (PlainTrees.more t ts)))

all-written : (at : List ℕ) (ts : PlainTrees) → IfGot (application_in_trees at ts) IsMostly
all-written at ts = within IsMostly whats.Models at 64 (headed_count (codes "model") ts) (application_of_items at ts) (parts-written at ts)

pub application-written : (at : List ℕ) (t : PlainTree) → IfGot (application_in_tree at t) IsMostly
application-written at t = after IsMostly wants.App at (application_in_trees at) (tail_of (codes "app") t) (all-written at)

-- The application that a tree represents is a written one if it has fewer than 2^32 views.
pub is-written : (t : PlainTree) (a : Application) → application_in_tree [] t ≡ got a → length a.views < 2 ^ 32 → IsWritten a
is-written t a e = subst (λ (o : Read Application). IfGot o IsMostly) e (application-written [] t)
