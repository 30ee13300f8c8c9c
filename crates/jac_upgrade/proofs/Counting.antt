-- The number of groups of a model.
use Rattle.std.proofs.Common.{◌≡◌, ◌∙◌, refl, ap, sym, ℕ, List, length}
use Rattle.jac_lang.specs.declared.schema.Group.{Group}
use Rattle.jac_lang.specs.Lookup.{groups_at}
use Rattle.jac_lang.specs.Mirror.{field_group_of, groups_of}
use Rattle.jac_lang.specs.Syntax.{Entity}
use Rattle.jac_lang.proofs.Places.{length-seen}

pub group_length : (gs : List Group) (models : List Entity) (m : ℕ) → groups_of gs ≡ groups_at models m → length gs ≡ length (groups_at models m)
group_length gs models m same = sym (length-seen field_group_of groups_of refl (λ _ _. refl) gs) ∙ ap length same
