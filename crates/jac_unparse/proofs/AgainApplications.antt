-- The tree of a model, a view or an application that was read is read as the same.
use Rattle.std.proofs.Common.{◌≡◌, ℕ, ◌+◌, ◌≤◌, Bool, true, false, nat_le, refl, ◌∙◌, ap, subst, arith, Option, Some, None, List, [], ◌∷◌, length}
use Rattle.std.specs.Prelude.{IfSome, codes, if◌then◌else◌}
use Rattle.std.specs.Str.{bytes_eq}
use Rattle.jac_value.specs.Paths.{is_path}
use Rattle.jac_lang.specs.declared.field_kinds.Field.{Field}
use Rattle.jac_lang.specs.declared.field_kinds.KindName.{KindName}
use Rattle.jac_lang.specs.declared.field_kinds.KindName.TheVariants as kinds
use Rattle.jac_lang.specs.declared.pages.Verb.{Verb}
use Rattle.jac_lang.specs.declared.pages.Verb.TheVariants as verbs
use Rattle.jac_lang.specs.Syntax.{Expression, Assigned, FieldGroup, Entity, Page, Application}
use Rattle.jac_lang.specs.Written.{IsName}
use Rattle.jac_tree.specs.Plain.{PlainTree, PlainTrees, count, is_word, tail_of}
use Rattle.jac_forms.specs.Places.{child}
use Rattle.jac_forms.specs.Reads.{Read, got, refused, wrong, many, read_map, read_and_then, read_behind, value_of}
use Rattle.jac_forms.specs.declared.fault.FormFault.TheVariants as faults
use Rattle.jac_forms.specs.declared.fault.Want.{Want}
use Rattle.jac_forms.specs.declared.fault.Want.TheVariants as wants
use Rattle.jac_forms.specs.declared.fault.What.TheVariants as whats
use Rattle.jac_forms.specs.Names.{name_in_tree, each_in_trees}
use Rattle.jac_forms.specs.Expressions.{one_in_trees}
use Rattle.jac_forms.specs.Statements.{Body, assigned_in_tree, statements_in_trees, creates}
use Rattle.jac_forms.specs.Applications.{plain_kind_of, one_name_in_trees, kind_in_tree, field, field_in_tree, few_fields, fields_in_tree, params_in_tree, some_guards, guards_in_tree, policy_in_tree, Guarding, guarding, guarding_in_tree, group, group_in_trees, group_in_tree, entity, entity_behind, entity_in_trees, entity_in_tree, method_in_tree, path_in_tree, page_form, page_in_trees, page_in_tree, is_headed, headed_count, Items, items, after_model, items_in_trees, application, viewer_in_tree, with_viewer, application_of_items, application_in_trees, application_in_tree}
use Rattle.jac_unparse.specs.TreeOf.{one, form, pair, tree_of_expression, trees_of_assigned, trees_of_statements, tree_of_kind, trees_of_fields, tree_of_guarding, tree_of_group, trees_of_groups, trees_of_parts, tree_of_entity, method_word, tree_of_page, trees_of_pages, models_before, viewer_before, tree_of_application, IsReadable}
use Rattle.jac_unparse.proofs.Again.{step, mapping, passed, missed, few_enough, decided, name_again, IsAgain, one-again}
use Rattle.jac_unparse.proofs.AgainStatements.{AreRead, each-again, all-assigned-again, AreCounted, statements-again}
use Rattle.jac_forms.proofs.Chains.{IfGot, after, placed, freely, chained, mapped, weaker, where_true, where_false, either, within}
use Rattle.jac_forms.proofs.WrittenExpressions.{name-written}

-- A kind is read back from its tree. Below: a field of the kind.
abbrev IsKind : KindName → Type 0
IsKind kind = (to : List ℕ) → kind_in_tree to (tree_of_kind kind) ≡ got kind

abbrev IsField : Field → Type 0
IsField f = (want : Want) (to : List ℕ) → field_in_tree want to (pair f.name (tree_of_kind f.kind)) ≡ got f

one_name-read : (want : Want) (at : List ℕ) (ts : PlainTrees) → IfGot (one_name_in_trees want at ts) IsName
one_name-read want at (PlainTrees.more t PlainTrees.none) = name-written (child at 1) t
one_name-read want at PlainTrees.none = tt
one_name-read want at (PlainTrees.more t (PlainTrees.more u ts)) = tt

plain_kind-again : (a : List ℕ) → IfSome (plain_kind_of a) IsKind
plain_kind-again a =
    one_of (bytes_eq a (codes "int")) (Some kinds.Int) _ (λ to. refl)
    (one_of (bytes_eq a (codes "text")) (Some kinds.Text) _ (λ to. refl)
    (one_of (bytes_eq a (codes "bool")) (Some kinds.Bool) None (λ to. refl) tt))
  where
    one_of : (b : Bool) (o p : Option KindName) → IfSome o IsKind → IfSome p IsKind → IfSome (if b then o else p) IsKind
    one_of true o p h k = h
    one_of false o p h k = k

reference-again : (at : List ℕ) (t : PlainTree) → IfGot (read_map kinds.Ref (read_behind wants.Kind at (one_name_in_trees wants.Kind at) (tail_of (codes "ref") t))) IsKind
reference-again at t =
    mapped IsName IsKind kinds.Ref (read_behind wants.Kind at (one_name_in_trees wants.Kind at) (tail_of (codes "ref") t))
    (after IsName wants.Kind at (one_name_in_trees wants.Kind at) (tail_of (codes "ref") t) (one_name-read wants.Kind at)) (λ m h to.
    mapping kinds.Ref (name_in_tree (child to 1) (PlainTree.atom m)) m (name_again (child to 1) m h))

kind-again : (at : List ℕ) (t : PlainTree) → IfGot (kind_in_tree at t) IsKind
kind-again at (PlainTree.atom a) = placed IsKind wants.Kind at (plain_kind_of a) (plain_kind-again a)
kind-again at (PlainTree.text x) = tt
kind-again at (PlainTree.list ts) = reference-again at (PlainTree.list ts)

field_again : (name : List ℕ) (kind : KindName) → IsName name → IsKind kind → IsField (field name kind)
field_again name kind h k want to =
    step (λ u. read_map (field u) (kind_in_tree (child to 1) (tree_of_kind kind))) (name_in_tree (child to 0) (PlainTree.atom name)) name (name_again (child to 0) name h)
    ∙ mapping (field name) (kind_in_tree (child to 1) (tree_of_kind kind)) kind (k (child to 1))

field-again : (want : Want) (at : List ℕ) (t : PlainTree) → IfGot (field_in_tree want at t) IsField
field-again want at (PlainTree.list (PlainTrees.more x (PlainTrees.more k PlainTrees.none))) =
    chained IsName IsField (λ name. read_map (field name) (kind_in_tree (child at 1) k)) (name_in_tree (child at 0) x) (name-written (child at 0) x) (λ name h.
    mapped IsKind IsField (field name) (kind_in_tree (child at 1) k) (kind-again (child at 1) k) (λ kind i. field_again name kind h i))
field-again want at t = tt

all_fields-again : (want : Want) (at : List ℕ) (ts : PlainTrees) → IfGot (each_in_trees (field_in_tree want) at 1 ts) (AreRead (field_in_tree want) trees_of_fields (count ts))
all_fields-again want at ts =
    each-again IsField (field_in_tree want) (field_in_tree want) (λ f. pair f.name (tree_of_kind f.kind)) trees_of_fields refl (λ x xs. refl)
    (field-again want) (λ to f h. h want to) at 1 ts

abbrev AreFields : List Field → Type 0
AreFields fs = (to : List ℕ) → fields_in_tree to (form (codes "fields") (trees_of_fields fs)) ≡ got fs

fields-again : (at : List ℕ) (t : PlainTree) → IfGot (fields_in_tree at t) AreFields
fields-again at t =
    after AreFields wants.Fields at (few_fields at) (tail_of (codes "fields") t) (λ ts.
    within AreFields whats.Fields at 32 (count ts) (each_in_trees (field_in_tree wants.Field) at 1 ts) (λ few.
    weaker (AreRead (field_in_tree wants.Field) trees_of_fields (count ts)) AreFields (each_in_trees (field_in_tree wants.Field) at 1 ts) (all_fields-again wants.Field at ts) (λ fs h to.
    let n = h.size in
    few_enough whats.Fields to 32 (count (trees_of_fields fs)) (each_in_trees (field_in_tree wants.Field) to 1 (trees_of_fields fs)) (omega (arith, n, few)) ∙ h.same to 1)))

abbrev AreParams : List Field → Type 0
AreParams fs = (to : List ℕ) → params_in_tree to (form (codes "params") (trees_of_fields fs)) ≡ got fs

params-again : (at : List ℕ) (t : PlainTree) → IfGot (params_in_tree at t) AreParams
params-again at t =
    after AreParams wants.Params at (each_in_trees (field_in_tree wants.Param) at 1) (tail_of (codes "params") t) (λ ts.
    weaker (AreRead (field_in_tree wants.Param) trees_of_fields (count ts)) AreParams (each_in_trees (field_in_tree wants.Param) at 1 ts) (all_fields-again wants.Param at ts) (λ fs h to. h.same to 1))

abbrev AreGuards : List Assigned → Type 0
AreGuards gs = (to : List ℕ) → guards_in_tree to (form (codes "guards") (trees_of_assigned gs)) ≡ got gs

guards-again : (at : List ℕ) (t : PlainTree) → IfGot (guards_in_tree at t) AreGuards
guards-again at t =
    after AreGuards wants.Guard at (some_guards at) (tail_of (codes "guards") t) (λ ts.
    where_false AreGuards (nat_le (count ts) 0) (each_in_trees (assigned_in_tree wants.Guard) at 1 ts) (faults.Form at wants.Guard) (λ some.
    weaker (AreRead (assigned_in_tree wants.Guard) trees_of_assigned (count ts)) AreGuards (each_in_trees (assigned_in_tree wants.Guard) at 1 ts) (all-assigned-again wants.Guard at ts) (λ gs h to.
    missed (nat_le (count (trees_of_assigned gs)) 0) (wrong wants.Guard to) (each_in_trees (assigned_in_tree wants.Guard) to 1 (trees_of_assigned gs)) (ap (λ n. nat_le n 0) h.size ∙ some) ∙ h.same to 1)))

abbrev IsPolicy : Expression → Type 0
IsPolicy e = (to : List ℕ) → policy_in_tree to (form (codes "policy") (one (tree_of_expression e))) ≡ got e

policy-again : (at : List ℕ) (t : PlainTree) → IfGot (policy_in_tree at t) IsPolicy
policy-again at t =
    after IsPolicy wants.Policy at (one_in_trees wants.Policy at) (tail_of (codes "policy") t) (λ ts.
    weaker IsAgain IsPolicy (one_in_trees wants.Policy at ts) (one-again wants.Policy at ts) (λ e h to. h (child to 1)))

-- What a group guards is read back from its tree.
abbrev IsGuarding : Guarding → Type 0
IsGuarding g = (to : List ℕ) → guarding_in_tree to (tree_of_guarding g.hides g.guards) ≡ got g

guarding-again : (at : List ℕ) (t : PlainTree) → IfGot (guarding_in_tree at t) IsGuarding
guarding-again at t =
    decided IsGuarding (is_word (codes "hides") t) (got (guarding true [])) (read_map (guarding false) (guards_in_tree at t)) (λ _ to. refl) (λ _.
    mapped AreGuards IsGuarding (guarding false) (guards_in_tree at t) (guards-again at t) (λ guards h to.
    mapping (guarding false) (guards_in_tree to (form (codes "guards") (trees_of_assigned guards))) guards (h to)))

abbrev IsGroup : FieldGroup → Type 0
IsGroup g = (to : List ℕ) → group_in_tree to (tree_of_group g) ≡ got g

group_again : (g : Guarding) (policy : Expression) → IsGuarding g → IsPolicy policy → IsGroup (group g policy)
group_again g policy h k to =
    let p = form (codes "policy") (one (tree_of_expression policy)) in
    step (λ u. read_map (group u) (policy_in_tree (child to 2) p)) (guarding_in_tree (child to 1) (tree_of_guarding g.hides g.guards)) g (h (child to 1))
    ∙ mapping (group g) (policy_in_tree (child to 2) p) policy (k (child to 2))

group_parts-again : (at : List ℕ) (ts : PlainTrees) → IfGot (group_in_trees at ts) IsGroup
group_parts-again at (PlainTrees.more gs (PlainTrees.more p PlainTrees.none)) =
    chained IsGuarding IsGroup (λ g. read_map (group g) (policy_in_tree (child at 2) p)) (guarding_in_tree (child at 1) gs) (guarding-again (child at 1) gs) (λ g h.
    mapped IsPolicy IsGroup (group g) (policy_in_tree (child at 2) p) (policy-again (child at 2) p) (λ policy k. group_again g policy h k))
group_parts-again at ts = tt

group-again : (at : List ℕ) (t : PlainTree) → IfGot (group_in_tree at t) IsGroup
group-again at t = after IsGroup wants.Group at (group_in_trees at) (tail_of (codes "group") t) (group_parts-again at)

groups-again : (at : List ℕ) (k : ℕ) (ts : PlainTrees) → IfGot (each_in_trees group_in_tree at k ts) (AreRead group_in_tree trees_of_groups (count ts))
groups-again at k ts = each-again IsGroup group_in_tree group_in_tree tree_of_group trees_of_groups refl (λ x xs. refl) group-again (λ to g h. h to) at k ts

-- The parts of a model after its name are read back, from any child number on.
abbrev AreParts : Entity → Type 0
AreParts m = (to : List ℕ) (k : ℕ) → entity_behind to m.nested k (PlainTree.atom m.name) (trees_of_parts m) ≡ got m

parts_again : (name : List ℕ) (nested : Bool) (fields : List Field) (groups : List FieldGroup) (n : ℕ) → n ≤ 8 → IsName name → AreFields fields → AreRead group_in_tree trees_of_groups n groups
    → AreParts (entity name nested fields groups)
parts_again name nested fields groups n few h k l to j =
    let x = PlainTree.atom name in
    let fs = form (codes "fields") (trees_of_fields fields) in
    let gs = trees_of_groups groups in
    let size = l.size in
    few_enough whats.Groups to 8 (count gs) (read_and_then (λ u. read_and_then (λ v. read_map (entity u nested v) (each_in_trees group_in_tree to (j + 1) gs)) (fields_in_tree (child to j) fs)) (name_in_tree (child to 1) x)) (omega (arith, size, few))
    ∙ step (λ u. read_and_then (λ v. read_map (entity u nested v) (each_in_trees group_in_tree to (j + 1) gs)) (fields_in_tree (child to j) fs)) (name_in_tree (child to 1) x) name (name_again (child to 1) name h)
    ∙ step (λ v. read_map (entity name nested v) (each_in_trees group_in_tree to (j + 1) gs)) (fields_in_tree (child to j) fs) fields (k (child to j))
    ∙ mapping (entity name nested fields) (each_in_trees group_in_tree to (j + 1) gs) groups (l.same to (j + 1))

behind-again : (at : List ℕ) (nested : Bool) (k : ℕ) (x : PlainTree) (ts : PlainTrees) → IfGot (entity_behind at nested k x ts) AreParts
behind-again at nested k x (PlainTrees.more fs gs) =
    within AreParts whats.Groups at 8 (count gs) (read_and_then (λ name. read_and_then (λ fields. read_map (entity name nested fields) (each_in_trees group_in_tree at (k + 1) gs)) (fields_in_tree (child at k) fs)) (name_in_tree (child at 1) x)) (λ few.
    chained IsName AreParts (λ name. read_and_then (λ fields. read_map (entity name nested fields) (each_in_trees group_in_tree at (k + 1) gs)) (fields_in_tree (child at k) fs)) (name_in_tree (child at 1) x) (name-written (child at 1) x) (λ name h.
    chained AreFields AreParts (λ fields. read_map (entity name nested fields) (each_in_trees group_in_tree at (k + 1) gs)) (fields_in_tree (child at k) fs) (fields-again (child at k) fs) (λ fields l.
    mapped (AreRead group_in_tree trees_of_groups (count gs)) AreParts (entity name nested fields) (each_in_trees group_in_tree at (k + 1) gs) (groups-again at (k + 1) gs) (λ groups m.
    parts_again name nested fields groups (count gs) few h l m))))
behind-again at nested k x PlainTrees.none = tt

abbrev IsEntity : Entity → Type 0
IsEntity m = (to : List ℕ) → entity_in_tree to (tree_of_entity m) ≡ got m

entity_again : (name : List ℕ) (nested : Bool) (fields : List Field) (groups : List FieldGroup) → AreParts (entity name nested fields groups) → IsEntity (entity name nested fields groups)
entity_again name true fields groups h to = h to 3
entity_again name false fields groups h to = h to 2

entity_parts-again : (at : List ℕ) (ts : PlainTrees) → IfGot (entity_in_trees at ts) IsEntity
entity_parts-again at (PlainTrees.more x (PlainTrees.more n ts)) =
    either IsEntity (is_word (codes "nested") n) (entity_behind at true 3 x ts) (entity_behind at false 2 x (PlainTrees.more n ts))
    (weaker AreParts IsEntity (entity_behind at true 3 x ts) (behind-again at true 3 x ts) (λ m h. entity_again m.name m.nested m.fields m.groups h))
    (weaker AreParts IsEntity (entity_behind at false 2 x (PlainTrees.more n ts)) (behind-again at false 2 x (PlainTrees.more n ts)) (λ m h. entity_again m.name m.nested m.fields m.groups h))
entity_parts-again at PlainTrees.none = tt
entity_parts-again at (PlainTrees.more x PlainTrees.none) = tt

entity-again : (at : List ℕ) (t : PlainTree) → IfGot (entity_in_tree at t) IsEntity
entity-again at t = after IsEntity wants.Item at (entity_in_trees at) (tail_of (codes "model") t) (entity_parts-again at)

method_again : (to : List ℕ) (method : Verb) → method_in_tree to (PlainTree.atom (method_word method)) ≡ got method
method_again to verbs.Get = refl
method_again to verbs.Post = refl

abbrev IsAPath : List ℕ → Type 0
IsAPath path = is_path path ≡ true

path-again : (at : List ℕ) (t : PlainTree) → IfGot (path_in_tree at t) IsAPath
path-again at (PlainTree.atom a) = tt
path-again at (PlainTree.text x) = where_true IsAPath (is_path x) (got x) (faults.Form at wants.Path) (λ e. e)
path-again at (PlainTree.list ts) = tt

abbrev IsPage : Page → Type 0
IsPage v = (to : List ℕ) → page_in_tree to (tree_of_page v) ≡ got v

page-again : (at : List ℕ) (method : Verb) (path : List ℕ) (params : List Field) (b : Body) → IsAPath path → AreParams params → AreCounted 0 b → IfGot (page_form at method path params b) IsPage
page-again at method path params b h k l =
    let v : Page = record { method = method; path = path; params = params; body = b.statements } in
    where_true IsPage (nat_le b.next 64) (got v) (faults.TooMany at whats.Sites (creates b.statements)) (λ few to.
    let m = PlainTree.atom (method_word method) in
    let p = PlainTree.text path in
    let ps = form (codes "params") (trees_of_fields params) in
    let ss = trees_of_statements b.statements in
    step (λ u. read_and_then (λ x. read_and_then (λ y. read_and_then (page_form to u x y) (statements_in_trees to 4 ss 0)) (params_in_tree (child to 3) ps)) (path_in_tree (child to 2) p)) (method_in_tree (child to 1) m) method (method_again (child to 1) method)
    ∙ step (λ x. read_and_then (λ y. read_and_then (page_form to method x y) (statements_in_trees to 4 ss 0)) (params_in_tree (child to 3) ps)) (path_in_tree (child to 2) p) path (passed (is_path path) (got path) (wrong wants.Path (child to 2)) h)
    ∙ step (λ y. read_and_then (page_form to method path y) (statements_in_trees to 4 ss 0)) (params_in_tree (child to 3) ps) params (k (child to 3))
    ∙ step (page_form to method path params) (statements_in_trees to 4 ss 0) b (l to 4)
    ∙ passed (nat_le b.next 64) (got v) (many whats.Sites to (creates b.statements)) few)

page_parts-again : (at : List ℕ) (ts : PlainTrees) → IfGot (page_in_trees at ts) IsPage
page_parts-again at (PlainTrees.more m (PlainTrees.more p (PlainTrees.more ps ss))) =
    freely IsPage (λ method. read_and_then (λ path. read_and_then (λ params. read_and_then (page_form at method path params) (statements_in_trees at 4 ss 0)) (params_in_tree (child at 3) ps)) (path_in_tree (child at 2) p)) (method_in_tree (child at 1) m) (λ method.
    chained IsAPath IsPage (λ path. read_and_then (λ params. read_and_then (page_form at method path params) (statements_in_trees at 4 ss 0)) (params_in_tree (child at 3) ps)) (path_in_tree (child at 2) p) (path-again (child at 2) p) (λ path h.
    chained AreParams IsPage (λ params. read_and_then (page_form at method path params) (statements_in_trees at 4 ss 0)) (params_in_tree (child at 3) ps) (params-again (child at 3) ps) (λ params k.
    chained (AreCounted 0) IsPage (page_form at method path params) (statements_in_trees at 4 ss 0) (statements-again at 4 ss 0) (λ b l. page-again at method path params b h k l))))
page_parts-again at PlainTrees.none = tt
page_parts-again at (PlainTrees.more m PlainTrees.none) = tt
page_parts-again at (PlainTrees.more m (PlainTrees.more p PlainTrees.none)) = tt

view-again : (at : List ℕ) (t : PlainTree) → IfGot (page_in_tree at t) IsPage
view-again at t = after IsPage wants.Item at (page_in_trees at) (tail_of (codes "view") t) (page_parts-again at)

views-again : (at : List ℕ) (k : ℕ) (ts : PlainTrees) → IfGot (each_in_trees page_in_tree at k ts) (AreRead page_in_tree trees_of_pages (count ts))
views-again at k ts = each-again IsPage page_in_tree page_in_tree tree_of_page trees_of_pages refl (λ x xs. refl) view-again (λ to v h. h to) at k ts

-- There are at most as many models as lists with the head `model`.
record AreItems (most : ℕ) (is : Items) : Type 0 where
  few : length is.models ≤ most
  same : (to : List ℕ) (k : ℕ) → items_in_trees to k (models_before is.models (trees_of_pages is.views)) ≡ got is

views_alone : (to : List ℕ) (k : ℕ) (vs : List Page) → each_in_trees page_in_tree to k (trees_of_pages vs) ≡ got vs → items_in_trees to k (trees_of_pages vs) ≡ got (items [] vs)
views_alone to k [] e = refl
views_alone to k (v ∷ vs) e = mapping (items []) (each_in_trees page_in_tree to k (trees_of_pages (v ∷ vs))) (v ∷ vs) e

items-again : (at : List ℕ) (k : ℕ) (ts : PlainTrees) → IfGot (items_in_trees at k ts) (AreItems (headed_count (codes "model") ts))
items-again at k PlainTrees.none = record { few = omega arith; same = λ to j. refl }
items-again at k (PlainTrees.more t ts) =
    decided (AreItems (headed_count (codes "model") (PlainTrees.more t ts))) (is_headed (codes "model") t) (read_and_then (λ m. read_map (after_model m) (items_in_trees at (k + 1) ts)) (entity_in_tree (child at k) t)) _
    (λ e.
    let more : headed_count (codes "model") (PlainTrees.more t ts) ≡ headed_count (codes "model") ts + 1 = ap (λ b. if b then headed_count (codes "model") ts + 1 else headed_count (codes "model") ts) e in
    chained IsEntity (AreItems (headed_count (codes "model") (PlainTrees.more t ts))) (λ m. read_map (after_model m) (items_in_trees at (k + 1) ts)) (entity_in_tree (child at k) t) (entity-again (child at k) t) (λ m h.
    mapped (AreItems (headed_count (codes "model") ts)) (AreItems (headed_count (codes "model") (PlainTrees.more t ts))) (after_model m) (items_in_trees at (k + 1) ts) (items-again at (k + 1) ts) (λ is l.
    let few = l.few in
    record {
      few = omega (arith, few, more);
      same = λ to j.
          step (λ u. read_map (after_model u) (items_in_trees to (j + 1) (models_before is.models (trees_of_pages is.views)))) (entity_in_tree (child to j) (tree_of_entity m)) m (h (child to j))
          ∙ mapping (after_model m) (items_in_trees to (j + 1) (models_before is.models (trees_of_pages is.views))) is (l.same to (j + 1));
    })))
    (λ _.
    mapped (AreRead page_in_tree trees_of_pages (count (PlainTrees.more t ts))) (AreItems (headed_count (codes "model") (PlainTrees.more t ts))) (items []) (each_in_trees page_in_tree at k (PlainTrees.more t ts)) (views-again at k (PlainTrees.more t ts)) (λ vs l.
    record { few = omega arith; same = λ to j. views_alone to j vs (l.same to j) }))

headed_views : (vs : List Page) → headed_count (codes "model") (trees_of_pages vs) ≡ 0
headed_views [] = refl
headed_views (v ∷ vs) = headed_views vs

headed_models : (ms : List Entity) (vs : List Page) → headed_count (codes "model") (models_before ms (trees_of_pages vs)) ≡ length ms
headed_models [] vs = headed_views vs
headed_models (m ∷ ms) vs = omega (arith, headed_models ms vs)

-- The application is read back from its trees.
abbrev IsApplication : Application → Type 0
IsApplication a = (to : List ℕ) → application_in_trees to (viewer_before a.viewer (models_before a.models (trees_of_pages a.views))) ≡ got a

viewerless : (to : List ℕ) (ms : List Entity) (vs : List Page) → application_of_items to (models_before ms (trees_of_pages vs)) ≡ read_map (application None) (items_in_trees to 1 (models_before ms (trees_of_pages vs)))
viewerless to [] [] = refl
viewerless to [] (v ∷ vs) = refl
viewerless to (m ∷ ms) vs = refl

without_viewer : (most : ℕ) (is : Items) → most ≤ 64 → AreItems most is → IsApplication (application None is)
without_viewer most is small h to =
    let ts = models_before is.models (trees_of_pages is.views) in
    let n = headed_models is.models is.views in
    let few = h.few in
    few_enough whats.Models to 64 (headed_count (codes "model") ts) (application_of_items to ts) (omega (arith, n, few, small))
    ∙ viewerless to is.models is.views
    ∙ mapping (application None) (items_in_trees to 1 ts) is (h.same to 1)

viewed : (most : ℕ) (name : List ℕ) (is : Items) → most ≤ 64 → IsName name → AreItems most is → IsApplication (application (Some name) is)
viewed most name is small named h to =
    let ts = models_before is.models (trees_of_pages is.views) in
    let viewer = form (codes "viewer") (one (PlainTree.atom name)) in
    let n = headed_models is.models is.views in
    let few = h.few in
    few_enough whats.Models to 64 (headed_count (codes "model") ts) (read_and_then (with_viewer to ts) (viewer_in_tree (child to 1) viewer)) (omega (arith, n, few, small))
    ∙ step (with_viewer to ts) (viewer_in_tree (child to 1) viewer) name (name_again (child (child to 1) 1) name named)
    ∙ mapping (application (Some name)) (items_in_trees to 2 ts) is (h.same to 2)

fewer_behind : (t : PlainTree) (ts : PlainTrees) → headed_count (codes "model") ts ≤ headed_count (codes "model") (PlainTrees.more t ts)
fewer_behind t ts = split (is_headed (codes "model") t) refl
  where
    split : (b : Bool) → is_headed (codes "model") t ≡ b → headed_count (codes "model") ts ≤ headed_count (codes "model") (PlainTrees.more t ts)
    split true e = rw e (omega arith)
    split false e = rw e (omega arith)

viewer-read : (at : List ℕ) (t : PlainTree) → IfGot (viewer_in_tree at t) IsName
viewer-read at t = after IsName wants.Item at (one_name_in_trees wants.Item at) (tail_of (codes "viewer") t) (one_name-read wants.Item at)

parts-again : (at : List ℕ) (ts : PlainTrees) → headed_count (codes "model") ts ≤ 64 → IfGot (application_of_items at ts) IsApplication
parts-again at PlainTrees.none small =
    mapped (AreItems 0) IsApplication (application None) (items_in_trees at 1 PlainTrees.none) (items-again at 1 PlainTrees.none) (λ is h. without_viewer 0 is (omega arith) h)
parts-again at (PlainTrees.more t ts) small =
    let fewer = fewer_behind t ts in
    decided IsApplication (is_headed (codes "viewer") t) (read_and_then (with_viewer at ts) (viewer_in_tree (child at 1) t)) (read_map (application None) (items_in_trees at 1 (PlainTrees.more t ts)))
    (λ _.
    chained IsName IsApplication (with_viewer at ts) (viewer_in_tree (child at 1) t) (viewer-read (child at 1) t) (λ name named.
    mapped (AreItems (headed_count (codes "model") ts)) IsApplication (application (Some name)) (items_in_trees at 2 ts) (items-again at 2 ts) (λ is h.
    viewed (headed_count (codes "model") ts) name is (omega (arith, fewer, small)) named h)))
    (λ _.
    mapped (AreItems (headed_count (codes "model") (PlainTrees.more t ts))) IsApplication (application None) (items_in_trees at 1 (PlainTrees.more t ts)) (items-again at 1 (PlainTrees.more t ts)) (λ is h.
    without_viewer (headed_count (codes "model") (PlainTrees.more t ts)) is small h))

application-again : (at : List ℕ) (t : PlainTree) → IfGot (application_in_tree at t) IsApplication
application-again at t =
    after IsApplication wants.App at (application_in_trees at) (tail_of (codes "app") t) (λ ts.
    within IsApplication whats.Models at 64 (headed_count (codes "model") ts) (application_of_items at ts) (parts-again at ts))

of_value : {A : Type 0} (P : A → Type 0) (o : Read A) (x : A) → value_of o ≡ Some x → IfGot o P → P x
of_value P (got y) x e h = let same : y ≡ x = cc in subst P same h
of_value P (refused fault) x e h = cc

pub read_again : (a : Application) → IsReadable a → application_in_tree [] (tree_of_application a) ≡ got a
read_again a (t, e) = of_value IsApplication (application_in_tree [] t) a e (application-again [] t) []
