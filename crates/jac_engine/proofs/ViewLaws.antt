-- What a view requires of the state on which its run begins.
use Rattle.std.proofs.Common.{◌≡◌, arith, zero, suc, ℕ, ◌+◌, ◌<◌, ◌≤◌, ◌^◌, Bool, true, false, if◌then◌else◌, List, [], ◌∷◌, ◌++◌, length, map, None}
use Rattle.std.specs.List.{AllByRecursion}
use Rattle.std.proofs.lemmas.Bool.{and_parts}
use Rattle.jac_value.specs.Ids.{number_of_id}
use Rattle.jac_lang.specs.Mirror.{application_of}
use Rattle.jac_lang.specs.Syntax.{Statement, Statements, Page as View, Application}
use Rattle.jac_lang.specs.Written.{sites}
use Rattle.jac_lang.specs.declared.application.App.{App}
use Rattle.jac_lang.specs.declared.bindings.Binding.{Binding}
use Rattle.jac_lang.specs.declared.queries.Binder.{Binder}
use Rattle.jac_lang.specs.declared.pages.Verb.TheVariants as verbs
use Rattle.jac_world.specs.World.{holds, shown_by}
use Rattle.jac_rows.specs.Good.{ArePlainRows, IsMade, AreSound, IsSound}
use Rattle.jac_rows.specs.Project.{rows_at, project_at}
use Rattle.jac_rows.specs.Tables.{rows_of}
use Rattle.jac_rows.specs.declared.plain.PlainRow.{PlainRow}
use Rattle.jac_rows.specs.declared.row.Row.{Row}
use Rattle.jac_rows.specs.declared.state.State.{State}
use Rattle.jac_plain.specs.declared.context.Ctx.{Ctx}
use Rattle.jac_plain.specs.declared.page.Page.{Page}
use Rattle.jac_plain.specs.Expressions.{answers, bound, binding, is_true}
use Rattle.jac_plain.specs.Making.{AreMadeBefore, MayChoose, MayEach, MayRun, MayRunAll, with_env}
use Rattle.jac_plain.specs.Models.{HaveRisingIds}
use Rattle.jac_plain.specs.Reading.{is_reading, are_reading}
use Rattle.jac_plain.specs.Statements.{Setting, Run, world_of, value_in, scoped_run, loop_of, leaves, leaves_all}
use Rattle.jac_plain.proofs.NewLaws.{creates_new, absent_before_number}
use Rattle.jac_keep.proofs.SoundLaws.{sound-applied}
use Rattle.jac_keep.proofs.WorkLaws.{overlaid_none}
use Rattle.jac_pruned_pages.specs.Runs.{page_ran}
use Rattle.jac_route.specs.Parameters.{parameters}
use Rattle.jac_write.specs.Writes.{numbered_tables}
use Rattle.jac_write.proofs.RecordLaws.{rising_at}
use Rattle.jac_app_load.specs.Served.{is_served_body}
use Rattle.jac_engine.specs.Start.{IsStart}
use Rattle.jac_engine.specs.Views.{setting_in, begun_view, MayRunView, IsReady, ShowsView}
use Rattle.jac_replies.specs.declared.answer.Ask.{Ask}
use Rattle.jac_engine.proofs.ServedLaws.{storing}
use Rattle.jac_lang.specs.Untemplated.{are_untemplated}

-- The rows that an assignment shows, of rows that were made before.
before_if : (n : ℕ) (b : Bool) (r : PlainRow) (rows : List PlainRow) → number_of_id r.id < n → AllByRecursion (λ (q : PlainRow). number_of_id q.id < n) rows
    → AllByRecursion (λ (q : PlainRow). number_of_id q.id < n) (if b then r ∷ rows else rows)
before_if n true r rows one more = (one, more)
before_if n false r rows one more = more

before_rows : (w : ℕ → Bool) (n model : ℕ) (rows : List Row) → AllByRecursion (λ (r : Row). IsMade model n r.id) rows
    → AllByRecursion (λ (q : PlainRow). number_of_id q.id < n) (rows_at w rows)
before_rows w n model [] h = tt
before_rows w n model (r ∷ rows) h =
    before_if n (holds w r.guard) (record { id = r.id; cells = r.cells }) (rows_at w rows) h.0.made (before_rows w n model rows h.1)

before_tables : (w : ℕ → Bool) (n model i : ℕ) (tables : List (List Row)) → AreSound n model tables
    → AllByRecursion (λ (q : PlainRow). number_of_id q.id < n) (rows_of (map (rows_at w) tables) i)
before_tables w n model i [] h = tt
before_tables w n model zero (t ∷ ts) h = before_rows w n model t h.1
before_tables w n model (suc i) (t ∷ ts) h = before_tables w n (model + 1) i ts h.2

-- Each record of a sound state was made before the next number.
made_before : (w : ℕ → Bool) (n : ℕ) (s : State) → IsSound s → n ≡ s.number → AreMadeBefore n (project_at w s).tables
made_before w n s sound is m = before_tables w n 0 m s.tables (rw is sound.tables)

ordered_tables : (w : ℕ → Bool) (n model i : ℕ) (tables : List (List Row)) → AreSound n model tables → ArePlainRows (rows_of (map (rows_at w) tables) i)
ordered_tables w n model i [] h = tt
ordered_tables w n model zero (t ∷ ts) h = rising_at w t h.0
ordered_tables w n model (suc i) (t ∷ ts) h = ordered_tables w n (model + 1) i ts h.2

-- Each assignment shows its records in order.
pub ordered : (w : ℕ → Bool) (s : State) → IsSound s → HaveRisingIds (project_at w s).tables
ordered w s sound m = ordered_tables w s.number 0 m s.tables sound.tables

each_may : (bs : List Binder) (body : List ℕ → Run → Run) (May : List ℕ → Run → Type 0) → ((ids : List ℕ) (r : Run) → May ids r) → (tuples : List (List ℕ)) (r : Run)
    → MayEach bs body May tuples r
each_may bs body May may [] r = tt
each_may bs body May may (ids ∷ tuples) r = (may ids (with_env (bound bs ids r.env) r), each_may bs body May may tuples (scoped_run (bound bs ids r.env) (body ids) r))

choose_may : (c : Bool) (First Second : Run → Type 0) (r : Run) → First r → Second r → MayChoose c First Second r
choose_may true First Second r one other = one
choose_may false First Second r one other = other

mutual
  -- A statement that creates nothing requires nothing.
  reading_may : (next : ℕ) (k : Setting) (s : Statement) → is_reading s ≡ true → (r : Run) → MayRun next k s r
  reading_may next k (Statement.put e) h r = tt
  reading_may next k (Statement.escape e) h r = tt
  reading_may next k (Statement.bind x e body) h r = all_reading_may next k body h (with_env (r.env ++ binding x (value_in k e r) ∷ []) r)
  reading_may next k (Statement.assign x e) h r = tt
  reading_may next k (Statement.branch c first second) h r =
      let parts = and_parts (are_reading first) (are_reading second) h in
      choose_may (is_true (value_in k c r)) (MayRunAll next k first) (MayRunAll next k second) r (all_reading_may next k first parts.0 r) (all_reading_may next k second parts.1 r)
  reading_may next k (Statement.each q body) h r =
      each_may q.binders (λ ids. leaves_all (record k { around = loop_of ids }) body) (λ ids. MayRunAll next (record k { around = loop_of ids }) body)
      (λ ids. all_reading_may next (record k { around = loop_of ids }) body h) (answers (world_of k r) q r.env) r
  reading_may next k (Statement.create x m site cells body) h r = cc
  reading_may next k (Statement.update m e cells) h r = tt
  reading_may next k (Statement.delete m e) h r = tt
  reading_may next k Statement.missing h r = tt
  reading_may next k (Statement.redirect e) h r = tt
  reading_may next k (Statement.template t) h r = tt
  reading_may next k (Statement.block body) h r = all_reading_may next k body h r

  all_reading_may : (next : ℕ) (k : Setting) (s : Statements) → are_reading s ≡ true → (r : Run) → MayRunAll next k s r
  all_reading_may next k Statements.none h r = tt
  all_reading_may next k (Statements.more s rest) h r =
      let parts = and_parts (is_reading s) (are_reading rest) h in
      (reading_may next k s parts.0 r, all_reading_may next k rest parts.1 (leaves k s r))

-- A view that writes nothing requires nothing.
pub may_show : (next : ℕ) (app : Application) (v : View) (ask : Ask) (n : ℕ) (s : State) → is_served_body app.models verbs.Get v.body ≡ true → MayRunView next app v ask n s
may_show next app v ask n s h w =
    all_reading_may next (setting_in w app ask n) v.body (and_parts (are_untemplated v.body) (are_reading v.body) h).1 (begun_view w app v ask s)

-- In a state in which requests may be answered, what a view for POST creates is new, in the request
-- with its next number.
pub may_store : (app : Application) (v : View) (ask : Ask) (n : ℕ) (s : State) → is_served_body app.models verbs.Post v.body ≡ true → IsStart app s → length app.models ≤ 64 → n ≡ s.number → n < 2 ^ 40
    → MayRunView (n + 1) app v ask n s
may_store app v ask n s h start most is few w =
    let keeps = storing app.models v.body h in
    let least = start.sound.next.0 in
    let some : 0 < n = omega (arith, least, is) in
    creates_new (n + 1) (setting_in w app ask n) v.body (begun_view w app v ask s) some few (omega arith) most keeps.sited keeps.apart keeps.placed (ordered w s start.sound) (start.flat w)
    (absent_before_number app.models n (sites v.body) (project_at w s).tables some few (made_before w n s start.sound is))

-- A sound state is sound with its own number.
pub sound_now : (s : State) (n : ℕ) → IsSound s → n ≡ s.number → IsSound (numbered_tables n s)
sound_now s n sound is = rw is sound

-- It is sound with the next number too, while there are numbers left.
pub sound_next : (s : State) (n : ℕ) → IsSound s → n ≡ s.number → n < 2 ^ 40 → IsSound (numbered_tables (n + 1) s)
sound_next s n sound is few =
    rw (overlaid_none s.tables) at (sound-applied (record { changed = []; number = n + 1 }) s sound (omega (arith, is)) (omega (arith, few)) tt)

-- A state in which requests may be answered is ready for a view that writes nothing. While there
-- are numbers left, it is ready for a view that stores.
pub ready_to_show : (app : Application) (v : View) (ask : Ask) (n : ℕ) (s : State) → is_served_body app.models verbs.Get v.body ≡ true → IsSound s → n ≡ s.number → IsReady app v ask n s
ready_to_show app v ask n s served sound is = record { next = n; sound = sound_now s n sound is; new = may_show n app v ask n s served }

pub ready_to_store : (app : Application) (v : View) (ask : Ask) (n : ℕ) (s : State) → is_served_body app.models verbs.Post v.body ≡ true → IsStart app s → length app.models ≤ 64 → n ≡ s.number → n < 2 ^ 40
    → IsReady app v ask n s
ready_to_store app v ask n s served start most is few =
    record { next = n + 1; sound = sound_next s n start.sound is few; new = may_store app v ask n s served start most is few }

-- A page of a run in the one world that the labels show.
pub shows_view : (app : App) (v : View) (ask : Ask) (ctx : Ctx) (s now : State) (labels : List ℕ) (env : List Binding) (p : Page) → ctx.viewer ≡ ask.viewer → ctx.around ≡ None → now ≡ s
    → env ≡ parameters (application_of app).models v.params ask.pairs → p ≡ page_ran app ctx (shown_by labels) now env v.body
    → ShowsView (application_of app) v ask ctx.number s labels p
shows_view app v ask ctx s now labels env p asks outside same bound made = record {
  page = λ next sound may. rw (← asks, ← same, ← bound) (rw outside at made);
}
