use Rattle.std.proofs.Common.{◌∙◌, ◌≤◌, ℕ, List, length, subst, sym}
use Rattle.jac_app.proofs.DemoLemmas.{short_calendar}
use Rattle.jac_app.proofs.demo.read_calendar.Goals as goal

pub open_app-requires : goal.open_app-requires
open_app-requires c = subst (λ (text : List ℕ). length text ≤ 1048576) (sym (c.as_slice.ensures ∙ c.requires.calendar)) short_calendar
