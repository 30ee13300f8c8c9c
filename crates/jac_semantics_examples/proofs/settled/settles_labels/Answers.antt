use Rattle.std.proofs.Common.{◌≡◌, ◌∙◌, refl, sym, ◌∷◌, [], true, false, true≢false, Some}
use Rattle.jac_world.specs.World.{shown_by}
use Rattle.jac_plain.specs.Policies.{is_allowed, with_label}
use Rattle.jac_semantics_examples.specs.Diary.{diary_app, guarded_diary}
use Rattle.jac_semantics_examples.proofs.Diaries.{two_shown, place_lives, host_settled, guest_settled, nobody_settled, guest_lacks_place, guest_without_title}
use Rattle.jac_semantics_examples.proofs.settled.settles_labels.Goals as goal

pub returns-clause-host : goal.returns-clause-host
returns-clause-host c = host_settled

pub returns-clause-guest : goal.returns-clause-guest
returns-clause-guest c = guest_settled

pub returns-clause-nobody : goal.returns-clause-nobody
returns-clause-nobody c = nobody_settled

-- One more label can be added.
pub returns-clause-lacking : goal.returns-clause-lacking
returns-clause-lacking c s =
    let f = s.full 65553 place_lives refl in
    true≢false
    (sym (two_shown (λ j. is_allowed diary_app (guarded_diary (with_label 65553 (shown_by (65552 ∷ [])))) (Some 4096) j ≡ true) 65553 65552 f.label refl refl f.is_shown)
    ∙ f.forbidden)

pub returns-clause-lacking_all : goal.returns-clause-lacking_all
returns-clause-lacking_all c s = guest_lacks_place s

pub returns-clause-forbidden : goal.returns-clause-forbidden
returns-clause-forbidden c s = guest_without_title s

pub returns-clause-not_live : goal.returns-clause-not_live
returns-clause-not_live c s = let no : false ≡ true = (s.live 65560 refl).stands in cc
