-- Bindings that fit still fit after an assignment, and after all but the outer ones are cut off.
use Rattle.std.specs.Prelude.{pos}
use Rattle.std.proofs.Common.{◌≡◌, refl, sym, ap, ◌∙◌, subst, ℕ, Bool, true, false, List, [], ◌∷◌, ◌++◌, length, take, Option, Some, None, option_map, if◌then◌else◌}
use Rattle.std.proofs.lemmas.Bool.{and_parts}
use Rattle.jac_value.specs.declared.value.Kind.{Kind}
use Rattle.jac_value.specs.declared.value.Value.{Value}
use Rattle.jac_value.specs.declared.value.Value.TheVariants as value
use Rattle.jac_lang.specs.declared.bindings.Binding.{Binding}
use Rattle.jac_lang.specs.Lookup.{same_text}
use Rattle.jac_plain.specs.Expressions.{binding, look}
use Rattle.jac_plain.specs.Statements.{binds, with_value}
use Rattle.jac_check.specs.Scope.{Named, meaning_of}
use Rattle.jac_check.specs.Kinds.{has}
use Rattle.jac_check.specs.Well.{is_assigned}
use Rattle.jac_kind_laws.specs.Fits.{Has, AreBound}
use Rattle.jac_kind_laws.specs.Operands.{AreOneKind}
use Rattle.jac_kind_laws.proofs.Names.{last_named, meaning_last, value_named}
use Rattle.jac_kind_laws.proofs.Operands.{Known, of_kind}

-- The first bindings, as many as the outer ones.
pub outer_bound : (ns more : List Named) (outer env : List Binding) → AreBound ns outer → AreBound (ns ++ more) env → AreBound ns (take (length outer) env)
outer_bound [] more [] env g h = tt
outer_bound [] more (c ∷ outer) env g h = absurd g
outer_bound (n ∷ ns) more [] env g h = absurd g
outer_bound (n ∷ ns) more (c ∷ outer) [] g h = absurd h
outer_bound (n ∷ ns) more (c ∷ outer) (b ∷ env) g h = (h.0, h.1, outer_bound ns more outer env g.2 h.2)

unbound_parts : (same later : Bool) → (if same then true else later) ≡ false → (same ≡ false) × (later ≡ false)
unbound_parts true later h = cc
unbound_parts false later h = (refl, h)

-- If a name isn't bound again, the name found so far is the innermost.
last_unbound : (ns : List Named) (env : List Binding) (x : List ℕ) (o : Option Named) → AreBound ns env → binds x env ≡ false → last_named o ns x ≡ o
last_unbound [] env x o g h = refl
last_unbound (n ∷ ns) [] x o g h = absurd g
last_unbound (n ∷ ns) (b ∷ env) x o g h =
    let p = unbound_parts (same_text b.name x) (binds x env) h in
    let other : same_text n.name x ≡ false = ap (λ (y : List ℕ). same_text y x) g.0 ∙ p.0 in
    ap (λ (same : Bool). last_named (if same then Some n else o) ns x) other ∙ last_unbound ns env x o g.2 p.1

assigned_step : (n : Named) (ns : List Named) (b : Binding) (env later : List Binding) (x : List ℕ) (v : Value) (bound_later same : Bool)
    → AreBound (n ∷ ns) (b ∷ env) → (bound_later ≡ true → AreBound ns later) → (bound_later ≡ false → same ≡ true → Has n.meaning.kind v)
    → AreBound (n ∷ ns) (if bound_later then b ∷ later else (if same then binding b.name v ∷ env else b ∷ env))
assigned_step n ns b env later x v true same g there here = (g.0, g.1, there refl)
assigned_step n ns b env later x v false true g there here = (g.0, here refl refl, g.2)
assigned_step n ns b env later x v false false g there here = g

-- A value of the innermost name's kind is put in its place.
assigned_bound : (ns : List Named) (env : List Binding) (x : List ℕ) (o : Option Named) (v : Value) → AreBound ns env
    → ((m : Named) → last_named o ns x ≡ Some m → Has m.meaning.kind v) → AreBound ns (with_value x v env)
assigned_bound [] [] x o v g h = tt
assigned_bound [] (b ∷ env) x o v g h = absurd g
assigned_bound (n ∷ ns) [] x o v g h = absurd g
assigned_bound (n ∷ ns) (b ∷ env) x o v g h =
    assigned_step n ns b env (with_value x v env) x v (binds x env) (same_text b.name x) g
    (λ later. assigned_bound ns env x (if same_text n.name x then Some n else o) v g.2 h)
    (λ last same.
    let here : same_text n.name x ≡ true = ap (λ (y : List ℕ). same_text y x) g.0 ∙ same in
    h n (ap (λ (found : Bool). last_named (if found then Some n else o) ns x) here ∙ last_unbound ns env x (Some n) g.2 last))

assignee : (o : Option Named) (k : Option Kind) → is_assigned (option_map (λ (z : Named). z.meaning) o) k ≡ true → (n : Named) × (o ≡ Some n) × (has n.meaning.kind k ≡ true)
assignee None k h = cc
assignee (Some n) k h = (n, refl, (and_parts n.meaning.by_let (has n.meaning.kind k) h).1)

-- An assignment of a value of the name's kind.
pub assign_fits : (ns : List Named) (env : List Binding) (x : List ℕ) (k : Option Kind) (v : Value) (P : Type 0) → AreBound ns env → Known k v P → is_assigned (meaning_of ns x) k ≡ true
    → (AreOneKind (look env x) v × P) × AreBound ns (with_value x v env)
assign_fits ns env x k v P g known h =
    let found = assignee (last_named None ns x) k (ap (λ m. is_assigned m k) (sym (meaning_last None ns x)) ∙ h) in
    let V = of_kind k found.0.meaning.kind v P known found.2 in
    let old = value_named ns env x None (value.Int (pos 0)) g (λ m e. cc) found.0 found.1 in (
      ((found.0.meaning.kind, (old, V.0)), V.1),
      assigned_bound ns env x None v g (λ m e. let same : found.0 ≡ m = cc in subst (λ (z : Named). Has z.meaning.kind v) same V.0),
    )
