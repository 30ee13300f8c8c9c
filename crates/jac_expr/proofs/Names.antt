-- Names in scope, from the innermost outward.
use Rattle.std.proofs.Common.{◌≡◌, refl, ap, ◌∙◌, ℕ, Bool, true, false, List, [], ◌∷◌, ◌++◌, if◌then◌else◌, pos}
use Rattle.jac_value.specs.declared.value.Value.{Value}
use Rattle.jac_value.specs.declared.value.Value.TheVariants as value
use Rattle.jac_facet.specs.Shape.{Shape, at}
use Rattle.jac_lang.specs.declared.bindings.Binding.{Binding}
use Rattle.jac_lang.specs.Lookup.{same_text}
use Rattle.jac_plain.specs.Expressions.{look, look_from, binding}
use Rattle.jac_expr.specs.Seen.{env_at}

pub env_at-append : (w : ℕ → Bool) (bs cs : List (List ℕ × Shape Value)) → env_at w (bs ++ cs) ≡ env_at w bs ++ env_at w cs
env_at-append w [] cs = refl
env_at-append w (b ∷ bs) cs = ap (λ e. binding b.0 (at w b.1) ∷ e) (env_at-append w bs cs)

look_from-last : (v : Value) (env : List Binding) (b : Binding) (name : List ℕ) →
    look_from v (env ++ b ∷ []) name ≡ (if same_text b.name name then b.bound_to else look_from v env name)
look_from-last v [] b name = refl
look_from-last v (c ∷ env) b name = look_from-last (if same_text c.name name then c.bound_to else v) env b name

look-last : (w : ℕ → Bool) (all outer : List (List ℕ × Shape Value)) (b : List ℕ × Shape Value) (name : List ℕ) → all ≡ outer ++ b ∷ [] →
    look (env_at w all) name ≡ (if same_text b.0 name then at w b.1 else look (env_at w outer) name)
look-last w all outer b name e =
    ap (λ bs. look (env_at w bs) name) e
    ∙ ap (λ bs. look bs name) (env_at-append w outer (b ∷ []))
    ∙ look_from-last (value.Int (pos 0)) (env_at w outer) (binding b.0 (at w b.1)) name

-- The last binding has the name.
pub look-found : (w : ℕ → Bool) (all outer : List (List ℕ × Shape Value)) (b : List ℕ × Shape Value) (name : List ℕ) → all ≡ outer ++ b ∷ [] →
    same_text b.0 name ≡ true → look (env_at w all) name ≡ at w b.1
look-found w all outer b name e same =
    look-last w all outer b name e ∙ ap (λ c. if c then at w b.1 else look (env_at w outer) name) same

-- The last binding has another name.
pub look-passed : (w : ℕ → Bool) (all outer : List (List ℕ × Shape Value)) (b : List ℕ × Shape Value) (name : List ℕ) → all ≡ outer ++ b ∷ [] →
    same_text b.0 name ≡ false → look (env_at w all) name ≡ look (env_at w outer) name
look-passed w all outer b name e other =
    look-last w all outer b name e ∙ ap (λ c. if c then at w b.1 else look (env_at w outer) name) other
