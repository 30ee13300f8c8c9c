-- The page of a run, and the result of the last run of a page.
use Rattle.std.proofs.Common.{◌≡◌, ◌∙◌, ap, subst, arith, ℕ, ◌<◌, ◌≤◌, ◌-◌, ◌^◌, Bool, true, List, [], length, Option, None, slice_get}
use Rattle.jac_world.specs.World.{shown_by, IsAscending}
use Rattle.jac_lang.specs.declared.application.App.{App}
use Rattle.jac_lang.specs.declared.bindings.Binding.{Binding}
use Rattle.jac_lang.specs.Mirror.{application_of}
use Rattle.jac_lang.specs.Syntax.{Application, Statements}
use Rattle.jac_rows.specs.Project.{project_at}
use Rattle.jac_rows.specs.declared.state.State.{State}
use Rattle.jac_plain.specs.declared.context.Ctx.{Ctx}
use Rattle.jac_plain.specs.Requests.{Visit, Worlds, body_in, page, page_of}
use Rattle.jac_plain.specs.declared.page.Page.{Page}
use Rattle.jac_plain.specs.Statements.{leaves_all}
use Rattle.jac_shown_rows.specs.Consulted.{Grows}
use Rattle.jac_pruned_pages.specs.Runs.{page_ran, run_in}
use Rattle.jac_shown_rows.proofs.Growing.{agrees_less, grows_then}
use Rattle.jac_policy_cache.specs.declared.policy_memo.PolicyMemo.{PolicyMemo}
use Rattle.jac_policy_cache.specs.Memo.{watches}
use Rattle.jac_resolve.specs.RightMemo.{IsPassed}
use Rattle.jac_resolve.specs.Live.{AreLiveOf}
use Rattle.jac_lazy.specs.Steady.{IsPageOf, IsSteady}
use Rattle.jac_lazy.proofs.Passing.{passed_steady}
use Rattle.jac_lazy.proofs.Rising.{grown_longer}

-- A page that was run outside of loops is the interpreter's.
pub page_same : (app : App) (ctx : Ctx) (w : ℕ → Bool) (s : State) (env : List Binding) (view : ℕ) (body : Statements) → body ≡ body_in (slice_get (application_of app).views view) → ctx.number ≡ s.number →
    page_ran app (record ctx { around = None }) w s env body ≡ page w (application_of app) (project_at w s) (record { view = view; env = env; viewer = ctx.viewer })
page_same app ctx w s env view body is number =
    ap (λ (b : Statements). page_ran app (record ctx { around = None }) w s env b) is
    ∙ ap (λ (n : ℕ). page_of (leaves_all (record { models = (application_of app).models; shown = w; viewer = ctx.viewer; number = n; around = None }) (body_in (slice_get (application_of app).views view)) (run_in w s env [])).pieces) number

-- If as many labels are consulted after a run as before it, none was added.
pub nothing_added : (start end : List ℕ) → IsAscending start → IsAscending end → Grows start end → length end ≡ length start → start ≡ end
nothing_added start end rises rises_too grows same = (grown_longer start end rises rises_too grows).same (omega (arith, same))

pub ended_steady : (app : Application) (worlds : Worlds) (viewer : Option ℕ) (answers : PolicyMemo) (start mid end tried labels : List ℕ) → IsAscending start → IsAscending end → IsAscending labels →
    Grows start mid → Grows mid end → length end ≡ length start → AreLiveOf app worlds start tried → IsPassed app worlds viewer answers tried labels →
    ((k j : ℕ) → watches answers k j ≡ true → shown_by mid k ≡ true) → IsSteady app worlds viewer end labels
ended_steady app worlds viewer answers start mid end tried labels rises rises_too ascending first second same are passed named =
    let still : start ≡ end = nothing_added start end rises rises_too (grows_then start mid end first second) same in
    passed_steady app worlds viewer answers end (λ k j watching. second.kept k (named k j watching)) tried labels ascending (subst (λ (l : List ℕ). AreLiveOf app worlds l tried) still are) passed

pub counted_more : (start end : List ℕ) (one two : ℕ) → IsAscending start → IsAscending end → Grows start end → one ≡ length start → two ≡ length end → one ≤ two
counted_more start end one two rises rises_too grows first second =
    let longer : length start ≤ length end = (grown_longer start end rises rises_too grows).longer in
    omega (arith, first, second, longer)

-- If more labels are consulted after a run than before it, fewer numbers are left.
pub fewer_left : (start end : List ℕ) (one two : ℕ) → IsAscending start → IsAscending end → Grows start end → one ≡ length start → two ≡ length end → two < 2 ^ 64 → one < two →
    2 ^ 64 - length end < 2 ^ 64 - length start
fewer_left start end one two rises rises_too grows first second below more = omega (arith, first, second, below, more)

-- The page is still the same whatever else is shown after more labels are consulted.
pub page_later : (app : Application) (before : Worlds) (old new labels : List ℕ) (visit : Visit) (it : Page) → Grows old new → IsPageOf app before old labels visit it → IsPageOf app before new labels visit it
page_later app before old new labels visit it grows is = record {
  each = λ w agrees. is.each w (agrees_less (shown_by labels) w old new grows agrees);
}
