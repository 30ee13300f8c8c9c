use Rattle.std.proofs.Common.{inl, inr, refl}
use Rattle.jac_semantics_examples.proofs.Diaries.{live_is, title_lives, place_lives}
use Rattle.jac_semantics_examples.proofs.settled.lists_live_labels.Goals as goal

pub returns-clause-title : goal.returns-clause-title
returns-clause-title c = title_lives

pub returns-clause-place : goal.returns-clause-place
returns-clause-place c = place_lives

pub returns-clause-others : goal.returns-clause-others
returns-clause-others c k live =
    elim (live_is k live) [
      | inl e ↦ rw e refl
      | inr e ↦ rw e refl
    ]
