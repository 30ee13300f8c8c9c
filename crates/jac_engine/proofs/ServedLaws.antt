-- What the views of a served application satisfy: what they require of a run, and where their
-- creates are.
use Rattle.std.proofs.Common.{◌≡◌, refl, arith, zero, suc, ℕ, ◌<◌, ◌^◌, ◌&&◌, nat_lt, Bool, true, false, List, [], ◌∷◌, Option, Some, None}
use Rattle.std.specs.Prelude.{slice_get, is_some}
use Rattle.std.proofs.lemmas.Bool.{and_parts, and_from, ltb-true}
use Rattle.jac_lang.specs.Loops.{Loops, behind_for, is_placed, are_placed}
use Rattle.jac_lang.specs.Syntax.{Entity, Statement, Statements, Page as View, Application}
use Rattle.jac_lang.specs.Written.{sites_in, sites}
use Rattle.jac_lang.specs.declared.pages.Verb.{Verb}
use Rattle.jac_lang.specs.declared.pages.Verb.TheVariants as verbs
use Rattle.jac_plain.specs.Models.{is_sited, are_sited}
use Rattle.jac_plain.specs.Making.{are_apart}
use Rattle.jac_plain.specs.Reading.{is_reading, are_reading}
use Rattle.jac_plain.specs.Requests.{body_in}
use Rattle.jac_stmt.specs.Runs.{IsRunnable, AreRunnable}
use Rattle.jac_app_load.specs.Served.{behind_sites, have_own_sites, is_served_body, is_served_view, are_served_views, are_served}
use Rattle.jac_engine.proofs.SiteLaws.{are_below, below, below_parts, apart}
use Rattle.jac_lang.specs.Untemplated.{is_untemplated, are_untemplated}

mutual
  -- Statements whose creates are at the 64 sites may run while there are numbers left.
  writing_runs : (n : ℕ) (s : Statement) → 0 < n → n < 2 ^ 40 → is_untemplated s ≡ true → is_sited s ≡ true → IsRunnable n s
  writing_runs n (Statement.put e) some few t h = tt
  writing_runs n (Statement.escape e) some few t h = tt
  writing_runs n (Statement.bind x e body) some few t h = all_writing_run n body some few t h
  writing_runs n (Statement.assign x e) some few t h = tt
  writing_runs n (Statement.branch c first second) some few t h =
      let free = and_parts (are_untemplated first) (are_untemplated second) t in
      let sited = and_parts (are_sited first) (are_sited second) h in
      (all_writing_run n first some few free.0 sited.0, all_writing_run n second some few free.1 sited.1)
  writing_runs n (Statement.each q body) some few t h = all_writing_run n body some few t h
  writing_runs n (Statement.create x m site cells body) some few t h =
      let sited = and_parts (nat_lt site 64) (are_sited body) h in
      (some, few, ltb-true site 64 sited.0, all_writing_run n body some few t sited.1)
  writing_runs n (Statement.update m e cells) some few t h = tt
  writing_runs n (Statement.delete m e) some few t h = tt
  writing_runs n Statement.missing some few t h = tt
  writing_runs n (Statement.redirect e) some few t h = tt
  writing_runs n (Statement.template b) some few t h = t
  writing_runs n (Statement.block body) some few t h = all_writing_run n body some few t h

  pub all_writing_run : (n : ℕ) (s : Statements) → 0 < n → n < 2 ^ 40 → are_untemplated s ≡ true → are_sited s ≡ true → AreRunnable n s
  all_writing_run n Statements.none some few t h = tt
  all_writing_run n (Statements.more s rest) some few t h =
      let free = and_parts (is_untemplated s) (are_untemplated rest) t in
      let sited = and_parts (is_sited s) (are_sited rest) h in
      (writing_runs n s some few free.0 sited.0, all_writing_run n rest some few free.1 sited.1)

mutual
  -- A statement that creates nothing has no site that isn't allowed.
  reading_sited : (s : Statement) → is_reading s ≡ true → is_sited s ≡ true
  reading_sited (Statement.put e) h = refl
  reading_sited (Statement.escape e) h = refl
  reading_sited (Statement.bind x e body) h = all_reading_sited body h
  reading_sited (Statement.assign x e) h = refl
  reading_sited (Statement.branch c first second) h =
      let parts = and_parts (are_reading first) (are_reading second) h in
      and_from (are_sited first) (are_sited second) (all_reading_sited first parts.0) (all_reading_sited second parts.1)
  reading_sited (Statement.each q body) h = all_reading_sited body h
  reading_sited (Statement.create x m site cells body) h = cc
  reading_sited (Statement.update m e cells) h = refl
  reading_sited (Statement.delete m e) h = refl
  reading_sited Statement.missing h = refl
  reading_sited (Statement.redirect e) h = refl
  reading_sited (Statement.template t) h = refl
  reading_sited (Statement.block body) h = all_reading_sited body h

  all_reading_sited : (s : Statements) → are_reading s ≡ true → are_sited s ≡ true
  all_reading_sited Statements.none h = refl
  all_reading_sited (Statements.more s rest) h =
      let parts = and_parts (is_reading s) (are_reading rest) h in
      and_from (is_sited s) (are_sited rest) (reading_sited s parts.0) (all_reading_sited rest parts.1)

mutual
  -- So it has no create in a wrong place.
  reading_placed : (models : List Entity) (loops : Loops) (s : Statement) → is_reading s ≡ true → is_placed models loops s ≡ true
  reading_placed models loops (Statement.put e) h = refl
  reading_placed models loops (Statement.escape e) h = refl
  reading_placed models loops (Statement.bind x e body) h = all_reading_placed models loops body h
  reading_placed models loops (Statement.assign x e) h = refl
  reading_placed models loops (Statement.branch c first second) h =
      let parts = and_parts (are_reading first) (are_reading second) h in
      and_from (are_placed models loops first) (are_placed models loops second) (all_reading_placed models loops first parts.0) (all_reading_placed models loops second parts.1)
  reading_placed models loops (Statement.each q body) h = all_reading_placed models (behind_for models q.binders loops) body h
  reading_placed models loops (Statement.create x m site cells body) h = cc
  reading_placed models loops (Statement.update m e cells) h = refl
  reading_placed models loops (Statement.delete m e) h = refl
  reading_placed models loops Statement.missing h = refl
  reading_placed models loops (Statement.redirect e) h = refl
  reading_placed models loops (Statement.template t) h = refl
  reading_placed models loops (Statement.block body) h = all_reading_placed models loops body h

  all_reading_placed : (models : List Entity) (loops : Loops) (s : Statements) → are_reading s ≡ true → are_placed models loops s ≡ true
  all_reading_placed models loops Statements.none h = refl
  all_reading_placed models loops (Statements.more s rest) h =
      let parts = and_parts (is_reading s) (are_reading rest) h in
      and_from (is_placed models loops s) (are_placed models loops rest) (reading_placed models loops s parts.0) (all_reading_placed models loops rest parts.1)

mutual
  below_sited : (s : Statement) → are_below (sites_in s) ≡ true → is_sited s ≡ true
  below_sited (Statement.put e) h = refl
  below_sited (Statement.escape e) h = refl
  below_sited (Statement.bind x e body) h = all_below_sited body h
  below_sited (Statement.assign x e) h = refl
  below_sited (Statement.branch c first second) h =
      let parts = below_parts (sites first) (sites second) h in
      and_from (are_sited first) (are_sited second) (all_below_sited first parts.0) (all_below_sited second parts.1)
  below_sited (Statement.each q body) h = all_below_sited body h
  below_sited (Statement.create x m site cells body) h =
      let parts = and_parts (nat_lt site 64) (are_below (sites body)) h in
      and_from (nat_lt site 64) (are_sited body) parts.0 (all_below_sited body parts.1)
  below_sited (Statement.update m e cells) h = refl
  below_sited (Statement.delete m e) h = refl
  below_sited Statement.missing h = refl
  below_sited (Statement.redirect e) h = refl
  below_sited (Statement.template t) h = refl
  below_sited (Statement.block body) h = all_below_sited body h

  all_below_sited : (s : Statements) → are_below (sites s) ≡ true → are_sited s ≡ true
  all_below_sited Statements.none h = refl
  all_below_sited (Statements.more s rest) h =
      let parts = below_parts (sites_in s) (sites rest) h in
      and_from (is_sited s) (are_sited rest) (below_sited s parts.0) (all_below_sited rest parts.1)

-- What the body of a view for POST satisfies.
pub record IsStoring (models : List Entity) (body : Statements) : Type 0 where
  pub expanded : are_untemplated body ≡ true
  pub sited : are_sited body ≡ true
  pub apart : are_apart (sites body) ≡ true
  pub placed : are_placed models Loops.none body ≡ true

pub storing : (models : List Entity) (body : Statements) → is_served_body models verbs.Post body ≡ true → IsStoring models body
storing models body h =
    let parts = and_parts (are_untemplated body) (have_own_sites models body) h in
    let own = and_parts (is_some (behind_sites 0 (sites body))) (are_placed models Loops.none body) parts.1 in
    record {
      expanded = parts.0;
      sited = all_below_sited body (below 0 (sites body) own.0);
      apart = apart 0 (sites body) own.0;
      placed = own.1;
    }

pub storing_runs : (models : List Entity) (n : ℕ) (body : Statements) → 0 < n → n < 2 ^ 40 → is_served_body models verbs.Post body ≡ true → AreRunnable n body
storing_runs models n body some few h = let s = storing models body h in all_writing_run n body some few s.expanded s.sited

body_among : (models : List Entity) (vs : List View) (n : ℕ) (v : View) → are_served_views models vs ≡ true → slice_get vs n ≡ Some v → is_served_body models v.method v.body ≡ true
body_among models [] n v h e = cc
body_among models (x ∷ xs) zero v h e =
    let same : x ≡ v = cc in
    rw (← same) (and_parts (is_served_view models x) (are_served_views models xs) h).0
body_among models (x ∷ xs) (suc n) v h e = body_among models xs n v (and_parts (is_served_view models x) (are_served_views models xs) h).1 e

-- The body of a view of a served application.
pub served_body : (app : Application) (n : ℕ) (v : View) → are_served app ≡ true → slice_get app.views n ≡ Some v → is_served_body app.models v.method v.body ≡ true
served_body app n v h e = body_among app.models app.views n v h e

sited_body : (models : List Entity) (v : Verb) (body : Statements) → is_served_body models v body ≡ true → are_sited body ≡ true
sited_body models verbs.Get body h = all_reading_sited body (and_parts (are_untemplated body) (are_reading body) h).1
sited_body models verbs.Post body h = (storing models body h).sited

placed_body : (models : List Entity) (v : Verb) (body : Statements) → is_served_body models v body ≡ true → are_placed models Loops.none body ≡ true
placed_body models verbs.Get body h = all_reading_placed models Loops.none body (and_parts (are_untemplated body) (are_reading body) h).1
placed_body models verbs.Post body h = (storing models body h).placed

-- The creates of a view of a served application are at sites below 64, and in allowed places.
pub sited_view : (app : Application) (n : ℕ) (found : Option View) → are_served app ≡ true → slice_get app.views n ≡ found → are_sited (body_in found) ≡ true
sited_view app n None h is = refl
sited_view app n (Some v) h is = sited_body app.models v.method v.body (served_body app n v h is)

pub placed_view : (app : Application) (n : ℕ) (found : Option View) → are_served app ≡ true → slice_get app.views n ≡ found → are_placed app.models Loops.none (body_in found) ≡ true
placed_view app n None h is = refl
placed_view app n (Some v) h is = placed_body app.models v.method v.body (served_body app n v h is)
