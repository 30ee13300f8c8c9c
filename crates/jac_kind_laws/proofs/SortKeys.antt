-- The sort key of a query is read from a record of its binder's model, because no two binders of a
-- query have the same name.
use Rattle.std.specs.Prelude.{⊤, pos, Decides}
use Rattle.std.proofs.Common.{◌≡◌, refl, sym, ◌∙◌, subst, ℕ, Bool, true, false, not, List, [], ◌∷◌, ◌++◌, Some, if◌then◌else◌}
use Rattle.std.specs.List.{AllByRecursion}
use Rattle.std.proofs.lemmas.Bool.{and_parts, false_from_ne_true}
use Rattle.std.proofs.lemmas.Bool.Decides.{Decides-eqb, not_from_Decides}
use Rattle.std.proofs.lemmas.Slice.Eq.{slice_eq-Decides}
use Rattle.jac_value.specs.declared.value.Value.{Value}
use Rattle.jac_value.specs.declared.value.Value.TheVariants as value
use Rattle.jac_lang.specs.declared.bindings.Binding.{Binding}
use Rattle.jac_lang.specs.declared.queries.Binder.{Binder}
use Rattle.jac_lang.specs.declared.queries.Order.{Order}
use Rattle.jac_lang.specs.declared.queries.Order.TheVariants as orders
use Rattle.jac_lang.specs.Syntax.{Entity}
use Rattle.jac_lang.specs.Lookup.{same_text}
use Rattle.jac_plain.specs.World.{World}
use Rattle.jac_plain.specs.Expressions.{binding, bound, look_from, look, model_from, model_of_binder}
use Rattle.jac_check.specs.Scope.{reference_to, is_one_of}
use Rattle.jac_check.specs.Kinds.{is_model, is_place, are_binders, is_sort_key, is_order}
use Rattle.jac_kind_laws.specs.Fits.{Has}
use Rattle.jac_kind_laws.specs.Operands.{SortFits}
use Rattle.jac_kind_laws.proofs.Tables.{all_with}
use Rattle.jac_kind_laws.proofs.Tuples.{Refer}

pub same_name : (a b : List ℕ) → Decides (same_text a b) (a ≡ b)
same_name a b = slice_eq-Decides Decides-eqb a b (same_text a b) refl

look_more : (v : Value) (env : List Binding) (b : Binding) (x : List ℕ) → look_from v (env ++ b ∷ []) x ≡ (if same_text b.name x then b.bound_to else look_from v env x)
look_more v [] b x = refl
look_more v (c ∷ env) b x = look_more (if same_text c.name x then c.bound_to else v) env b x

-- None of the binders has the name.
abbrev AreOthers : List Binder → List ℕ → Type 0
AreOthers [] x = ⊤
AreOthers (b ∷ bs) x = (same_text b.name x ≡ false) × AreOthers bs x

look_past : (bs : List Binder) (ids : List ℕ) (env : List Binding) (x : List ℕ) → AreOthers bs x → look (bound bs ids env) x ≡ look env x
look_past [] ids env x g = refl
look_past (b ∷ bs) [] env x g = refl
look_past (b ∷ bs) (id ∷ ids) env x g =
    let more = binding b.name (value.Ref (Some id)) in
    look_past bs ids (env ++ more ∷ []) x g.1 ∙ (look_more (value.Int (pos 0)) env more x ∙ rw g.0 refl)

turned : (a c : List ℕ) → same_text a c ≡ false → same_text c a ≡ false
turned a c h = false_from_ne_true (same_text c a) (λ e. not_from_Decides (same_text a c) (same_name a c) h (sym ((same_name c a).0 e)))

pub unseen_first : (b r : Bool) → not (if b then true else r) ≡ true → (b ≡ false) × (not r ≡ true)
unseen_first true r h = cc
unseen_first false r h = (refl, h)

unseen : (name y : List ℕ) (front seen : List (List ℕ)) → not (is_one_of name (front ++ y ∷ seen)) ≡ true → same_text y name ≡ false
unseen name y [] seen h = (unseen_first (same_text y name) (is_one_of name seen) h).0
unseen name y (z ∷ front) seen h = unseen name y front seen (unseen_first (same_text z name) (is_one_of name (front ++ y ∷ seen)) h).1

-- No later binder has a name that was seen before.
others : (ms : List Entity) (y : List ℕ) (front seen : List (List ℕ)) (bs : List Binder) → are_binders ms (front ++ y ∷ seen) bs ≡ true → AreOthers bs y
others ms y front seen [] h = tt
others ms y front seen (b ∷ bs) h =
    let p = and_parts (not (is_one_of b.name (front ++ y ∷ seen))) _ h in
    (turned y b.name (unseen b.name y front seen p.0), others ms y (b.name ∷ front) seen bs (and_parts (is_model ms b.model) _ p.1).1)

-- No later binder has the name.
model_past : (bs : List Binder) (x m : List ℕ) → AreOthers bs x → model_from m bs x ≡ m
model_past [] x m g = refl
model_past (b ∷ bs) x m g = rw g.0 (model_past bs x m g.1)

-- The binder with the name is this one or a later one.
key_step : (ms : List Entity) (b : Binder) (bs : List Binder) (x m : List ℕ) (at_first later : Bool) (id : ℕ) (ids : List ℕ) (env : List Binding) (same : Bool) → same_text b.name x ≡ same
    → AreOthers bs b.name → Has (reference_to ms b.model) (value.Ref (Some id))
    → (later ≡ true → Has (reference_to ms (model_from m bs x)) (look (bound bs ids (env ++ binding b.name (value.Ref (Some id)) ∷ [])) x))
    → (if same then at_first else later) ≡ true
    → Has (reference_to ms (model_from (if same then b.model else m) bs x)) (look (bound bs ids (env ++ binding b.name (value.Ref (Some id)) ∷ [])) x)
key_step ms b bs x m at_first later id ids env true e apart here there h =
    let more = binding b.name (value.Ref (Some id)) in
    let alone : AreOthers bs x = subst (λ (y : List ℕ). AreOthers bs y) ((same_name b.name x).0 e) apart in
    let found : look (bound bs ids (env ++ more ∷ [])) x ≡ value.Ref (Some id) =
    look_past bs ids (env ++ more ∷ []) x alone ∙ (look_more (value.Int (pos 0)) env more x ∙ rw e refl) in
    subst (λ (n : List ℕ). Has (reference_to ms n) (look (bound bs ids (env ++ more ∷ [])) x)) (sym (model_past bs x b.model alone))
    (subst (λ (v : Value). Has (reference_to ms b.model) v) (sym found) here)
key_step ms b bs x m at_first later id ids env false e apart here there h = there h

key_fits : (ms : List Entity) (bs : List Binder) (x f m : List ℕ) (seen : List (List ℕ)) (ids : List ℕ) (env : List Binding) → are_binders ms seen bs ≡ true → is_sort_key ms bs x f ≡ true
    → Refer ms bs ids → Has (reference_to ms (model_from m bs x)) (look (bound bs ids env) x)
key_fits ms [] x f m seen ids env h key g = cc
key_fits ms (b ∷ bs) x f m seen [] env h key g = absurd g
key_fits ms (b ∷ bs) x f m seen (id ∷ ids) env h key g =
    let known = (and_parts (is_model ms b.model) _ (and_parts (not (is_one_of b.name seen)) _ h).1).1 in
    key_step ms b bs x m (is_place ms b.model f) (is_sort_key ms bs x f) id ids env (same_text b.name x) refl (others ms b.name [] seen bs known) g.0
    (λ later. key_fits ms bs x f m (b.name ∷ seen) ids (env ++ binding b.name (value.Ref (Some id)) ∷ []) known later g.1) key

tuple_fits : (w : World) (bs : List Binder) (o : Order) (ids : List ℕ) → are_binders w.models [] bs ≡ true → is_order w.models bs o ≡ true → Refer w.models bs ids → SortFits w bs o ids
tuple_fits w bs orders.Key ids h key g = tt
tuple_fits w bs (orders.Up x f) ids h key g = key_fits w.models bs x f [] [] ids [] h key g
tuple_fits w bs (orders.Down x f) ids h key g = key_fits w.models bs x f [] [] ids [] h key g

pub sort_fits : (w : World) (bs : List Binder) (o : Order) (tuples : List (List ℕ)) → are_binders w.models [] bs ≡ true → is_order w.models bs o ≡ true → AllByRecursion (Refer w.models bs) tuples
    → AllByRecursion (SortFits w bs o) tuples
sort_fits w bs o tuples h key a = all_with (Refer w.models bs) (SortFits w bs o) (λ ids g. tuple_fits w bs o ids h key g) tuples a
