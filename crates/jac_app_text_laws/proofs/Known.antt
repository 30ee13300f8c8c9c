-- What holds of the application that a known text spells.
use Rattle.std.proofs.Common.{◌≡◌, refl, ap, sym, subst, ◌∙◌, ℕ, zero, suc, true}
use Rattle.jac_demo.specs.Calendar.{calendar_text}
use Rattle.jac_lang.specs.Syntax.{Application}
use Rattle.jac_app_load.specs.Application.{IsApplication}
use Rattle.jac_calendar_laws.proofs.CalendarOpens.{calendar, calendar_is}
use Rattle.jac_open_app_laws.specs.Open.{is_open_app}
use Rattle.jac_open_app_laws.specs.Owned.{DependOnOwn, HideNothing, is_stored_openly}
use Rattle.jac_open_app_laws.proofs.OwnedRuns.{still_own}
use Rattle.jac_plain.specs.Requests.{Visit, Worlds, after}
use Rattle.jac_shown_rows.specs.Local.{is_local_app}
use Rattle.jac_app_text_laws.specs.Eight.{eight_text}
use Rattle.jac_app_text_laws.proofs.EightOpens.{eight, eight_is}
use Rattle.jac_app_text_laws.proofs.OneSpelled.{one_spelled}

calendar_open : is_open_app calendar ≡ true
unfolding calendar_text
calendar_open = refl

pub spelled_open : (app : Application) → IsApplication calendar_text app → is_open_app app ≡ true
spelled_open app is = ap is_open_app (one_spelled calendar_text app calendar is calendar_is) ∙ calendar_open

calendar_local : is_local_app calendar ≡ true
unfolding calendar_text
calendar_local = refl

pub spelled_local : (app : Application) → IsApplication calendar_text app → is_local_app app ≡ true
spelled_local app is = ap is_local_app (one_spelled calendar_text app calendar is calendar_is) ∙ calendar_local

eight_local : is_local_app eight ≡ true
unfolding eight_text
eight_local = refl

pub eight_spelled_local : (app : Application) → IsApplication eight_text app → is_local_app app ≡ true
eight_spelled_local app is = ap is_local_app (one_spelled eight_text app eight is eight_is) ∙ eight_local

-- The calendar has two models and three views.
calendar_hides_nothing : HideNothing calendar.models
unfolding calendar_text
calendar_hides_nothing zero = refl
calendar_hides_nothing (suc zero) = refl
calendar_hides_nothing (suc (suc m)) = refl

calendar_stores_openly : (n : ℕ) → is_stored_openly calendar n ≡ true
unfolding calendar_text
calendar_stores_openly zero = refl
calendar_stores_openly (suc zero) = refl
calendar_stores_openly (suc (suc zero)) = refl
calendar_stores_openly (suc (suc (suc n))) = refl

pub spelled_own : (app : Application) (worlds : Worlds) (visit : Visit) → IsApplication calendar_text app
    → DependOnOwn app worlds → DependOnOwn app (λ w. after w app (worlds w) visit)
spelled_own app worlds visit is h =
    let same = one_spelled calendar_text app calendar is calendar_is in
    let here = still_own calendar worlds visit calendar_hides_nothing (calendar_stores_openly visit.view) (subst (λ a. DependOnOwn a worlds) same h) in
    subst (λ a. DependOnOwn a (λ w. after w a (worlds w) visit)) (sym same) here
