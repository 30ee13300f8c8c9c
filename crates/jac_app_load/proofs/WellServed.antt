-- A well application whose sites are their places is served.
use Rattle.std.proofs.Common.{◌≡◌, ◌∙◌, rules, refl, ap, arith, ℕ, ◌+◌, ◌≤◌, ◌<◌, nat_le, nat_lt, Bool, true, false, ◌&&◌, List, [], ◌∷◌, length, is_some, zero, suc, IsTrue}
use Rattle.std.specs.List.{All, range_with_len}
use Rattle.std.proofs.lemmas.Bool.Decides.{nat_tests}
use Rattle.std.proofs.lemmas.List.Elements.{All-head, All-tail}
use Rattle.std.proofs.lemmas.Bool.{and_parts, and_from}
use Rattle.jac_lang.specs.declared.pages.Verb.{Verb}
use Rattle.jac_lang.specs.declared.pages.Verb.TheVariants as verbs
use Rattle.jac_lang.specs.Lookup.{is_nested_named}
use Rattle.jac_lang.specs.Loops.{Loops, behind_for, may_create, is_placed, are_placed}
use Rattle.jac_lang.specs.Syntax.{Entity, Statement, Statements, Page, Application}
use Rattle.jac_lang.specs.Written.{sites}
use Rattle.jac_plain.specs.Reading.{is_reading, are_reading}
use Rattle.jac_check.specs.Scope.{is_get}
use Rattle.jac_check.specs.Well.{is_well}
use Rattle.jac_check.specs.Runnable.{is_runnable, are_runnable, IsRunnablePage}
use Rattle.jac_check.proofs.WellRuns.{well-runs}
use Rattle.jac_app_load.specs.Served.{behind_sites, is_served_body, are_served_views, are_served, IsSited}
use Rattle.jac_lang.specs.Untemplated.{is_untemplated, are_untemplated}

-- No template is left.
mutual
  untemplated_one : (get : Bool) (models : List Entity) (loops : Loops) (s : Statement) → is_runnable get models loops s ≡ true → is_untemplated s ≡ true
  untemplated_one get models loops (Statement.put e) h = refl
  untemplated_one get models loops (Statement.escape e) h = refl
  untemplated_one get models loops (Statement.bind x e body) h = untemplated get models loops body h
  untemplated_one get models loops (Statement.assign x e) h = refl
  untemplated_one get models loops (Statement.branch c a b) h =
      let parts = and_parts _ (are_runnable get models loops b) h in
      and_from _ _ (untemplated get models loops a parts.0) (untemplated get models loops b parts.1)
  untemplated_one get models loops (Statement.each q body) h = untemplated get models (behind_for models q.binders loops) body h
  untemplated_one get models loops (Statement.create x m site cells body) h = untemplated get models loops body (and_parts _ _ (and_parts _ _ h).1).1
  untemplated_one get models loops (Statement.update m e cells) h = refl
  untemplated_one get models loops (Statement.delete m e) h = refl
  untemplated_one get models loops Statement.missing h = refl
  untemplated_one get models loops (Statement.redirect e) h = refl
  untemplated_one get models loops (Statement.template t) h = h
  untemplated_one get models loops (Statement.block body) h = untemplated get models loops body h

  untemplated : (get : Bool) (models : List Entity) (loops : Loops) (ss : Statements) → are_runnable get models loops ss ≡ true → are_untemplated ss ≡ true
  untemplated get models loops Statements.none h = refl
  untemplated get models loops (Statements.more s ss) h =
      let parts = and_parts _ (are_runnable get models loops ss) h in
      and_from _ _ (untemplated_one get models loops s parts.0) (untemplated get models loops ss parts.1)

-- If the view answers GET, it has no sites.
mutual
  reading_one : (models : List Entity) (loops : Loops) (s : Statement) → is_runnable true models loops s ≡ true → is_reading s ≡ true
  reading_one models loops (Statement.put e) h = refl
  reading_one models loops (Statement.escape e) h = refl
  reading_one models loops (Statement.bind x e body) h = reading models loops body h
  reading_one models loops (Statement.assign x e) h = refl
  reading_one models loops (Statement.branch c a b) h =
      let parts = and_parts _ (are_runnable true models loops b) h in
      and_from _ _ (reading models loops a parts.0) (reading models loops b parts.1)
  reading_one models loops (Statement.each q body) h = reading models (behind_for models q.binders loops) body h
  reading_one models loops (Statement.create x m site cells body) h = h
  reading_one models loops (Statement.update m e cells) h = h
  reading_one models loops (Statement.delete m e) h = h
  reading_one models loops Statement.missing h = refl
  reading_one models loops (Statement.redirect e) h = refl
  reading_one models loops (Statement.template t) h = refl
  reading_one models loops (Statement.block body) h = reading models loops body h

  reading : (models : List Entity) (loops : Loops) (ss : Statements) → are_runnable true models loops ss ≡ true → are_reading ss ≡ true
  reading models loops Statements.none h = refl
  reading models loops (Statements.more s ss) h =
      let parts = and_parts _ (are_runnable true models loops ss) h in
      and_from _ _ (reading_one models loops s parts.0) (reading models loops ss parts.1)

-- Each create is at a permitted place.
mutual
  placed_one : (get : Bool) (models : List Entity) (loops : Loops) (s : Statement) → is_runnable get models loops s ≡ true → is_placed models loops s ≡ true
  placed_one get models loops (Statement.put e) h = refl
  placed_one get models loops (Statement.escape e) h = refl
  placed_one get models loops (Statement.bind x e body) h = placed get models loops body h
  placed_one get models loops (Statement.assign x e) h = refl
  placed_one get models loops (Statement.branch c a b) h =
      let parts = and_parts _ (are_runnable get models loops b) h in
      and_from _ _ (placed get models loops a parts.0) (placed get models loops b parts.1)
  placed_one get models loops (Statement.each q body) h = placed get models (behind_for models q.binders loops) body h
  placed_one get models loops (Statement.create x m site cells body) h =
      let parts = and_parts (may_create (is_nested_named models m) loops) (are_runnable get models loops body) (and_parts _ _ h).1 in
      and_from _ _ parts.0 (placed get models loops body parts.1)
  placed_one get models loops (Statement.update m e cells) h = refl
  placed_one get models loops (Statement.delete m e) h = refl
  placed_one get models loops Statement.missing h = refl
  placed_one get models loops (Statement.redirect e) h = refl
  placed_one get models loops (Statement.template t) h = refl
  placed_one get models loops (Statement.block body) h = placed get models loops body h

  placed : (get : Bool) (models : List Entity) (loops : Loops) (ss : Statements) → are_runnable get models loops ss ≡ true → are_placed models loops ss ≡ true
  placed get models loops Statements.none h = refl
  placed get models loops (Statements.more s ss) h =
      let parts = and_parts _ (are_runnable get models loops ss) h in
      and_from _ _ (placed_one get models loops s parts.0) (placed get models loops ss parts.1)

-- Sites that are their places rise and are below 64.
in_order : (n a : ℕ) → a + n ≤ 64 → is_some (behind_sites a (range_with_len a n)) ≡ true
in_order zero a few = refl
in_order (suc n) a few =
    let below : a < 64 = omega (arith, few) in
    let least : nat_le a a ≡ true = search (rules, nat_tests) in
    let under : nat_lt a 64 ≡ true = search (rules, nat_tests) in
    let rises : (nat_le a a && nat_lt a 64) ≡ true = and_from (nat_le a a) (nat_lt a 64) least under in
    rw rises (in_order n (a + 1) (omega (arith, few)))

own_sites : (v : Page) → IsSited v → is_some (behind_sites 0 (sites v.body)) ≡ true
own_sites v sited =
    ap (λ (places : List ℕ). is_some (behind_sites 0 places)) sited.in_order ∙ in_order (length (sites v.body)) 0 (omega (arith, sited.few))

body_served : (models : List Entity) (method : Verb) (v : Page) → v.method ≡ method → IsSited v → are_runnable (is_get method) models Loops.none v.body ≡ true
    → is_served_body models method v.body ≡ true
body_served models verbs.Get v same sited runs = and_from _ _ (untemplated true models Loops.none v.body runs) (reading models Loops.none v.body runs)
body_served models verbs.Post v same sited runs =
    and_from _ _ (untemplated false models Loops.none v.body runs) (and_from _ _ (own_sites v sited) (placed false models Loops.none v.body runs))

views_served : (models : List Entity) (vs : List Page) → All IsSited vs → All (IsRunnablePage models) vs → are_served_views models vs ≡ true
views_served models [] sited runs = refl
views_served models (v ∷ vs) sited runs =
    and_from _ _ (body_served models v.method v refl (All-head IsSited v vs sited) (All-head (IsRunnablePage models) v vs runs))
    (views_served models vs (All-tail IsSited v vs sited) (All-tail (IsRunnablePage models) v vs runs))

pub well_served : (app : Application) → All IsSited app.views → IsTrue (is_well app) → are_served app ≡ true
well_served app sited well = views_served app.models app.views sited (well-runs app well)
