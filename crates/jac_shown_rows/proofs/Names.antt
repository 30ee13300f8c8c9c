-- Names in scope, from the innermost outwards.
use Rattle.std.proofs.Common.{◌≡◌, refl, ap, ◌∙◌, ℕ, true, false, List, [], ◌∷◌, ◌++◌, if◌then◌else◌, pos}
use Rattle.jac_value.specs.declared.value.Value.{Value}
use Rattle.jac_value.specs.declared.value.Value.TheVariants as value
use Rattle.jac_lang.specs.declared.bindings.Binding.{Binding}
use Rattle.jac_lang.specs.Lookup.{same_text}
use Rattle.jac_plain.specs.Expressions.{look, look_from}

look_from-last : (v : Value) (env : List Binding) (b : Binding) (name : List ℕ) →
    look_from v (env ++ b ∷ []) name ≡ (if same_text b.name name then b.bound_to else look_from v env name)
look_from-last v [] b name = refl
look_from-last v (c ∷ env) b name = look_from-last (if same_text c.name name then c.bound_to else v) env b name

look-last : (all outer : List Binding) (b : Binding) (name : List ℕ) → all ≡ outer ++ b ∷ [] →
    look all name ≡ (if same_text b.name name then b.bound_to else look outer name)
look-last all outer b name e = ap (λ bs. look bs name) e ∙ look_from-last (value.Int (pos 0)) outer b name

-- The last binding has the name.
pub look-found : (all outer : List Binding) (b : Binding) (name : List ℕ) → all ≡ outer ++ b ∷ [] → same_text b.name name ≡ true → look all name ≡ b.bound_to
look-found all outer b name e same = look-last all outer b name e ∙ ap (λ c. if c then b.bound_to else look outer name) same

-- The last binding has another name.
pub look-passed : (all outer : List Binding) (b : Binding) (name : List ℕ) → all ≡ outer ++ b ∷ [] → same_text b.name name ≡ false → look all name ≡ look outer name
look-passed all outer b name e other = look-last all outer b name e ∙ ap (λ c. if c then b.bound_to else look outer name) other
