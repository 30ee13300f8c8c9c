-- The creates of a request make new records. A statement doesn't make a record with any other id.
use Rattle.std.proofs.Common.{◌≡◌, ◌∙◌, sym, refl, ap, subst, arith, ℕ, ◌<◌, ◌≤◌, ◌^◌, ◌==◌, ◌||◌, not, nat_lt, Bool, true, false, if◌then◌else◌, List, [], ◌∷◌, ◌++◌, length, Option, Some, None}
use Rattle.std.specs.Prelude.{⊤}
use Rattle.std.specs.List.{AllByRecursion}
use Rattle.std.proofs.lemmas.Bool.{and_parts, or_parts, or_left, or_right}
use Rattle.std.proofs.lemmas.Bool.Decides.{nat_tests}
use Rattle.jac_value.specs.Ids.{record_id, number_of_id, is_narrow}
use Rattle.jac_value.specs.declared.value.Value.{Value}
use Rattle.jac_value.specs.declared.value.Value.TheVariants as value
use Rattle.jac_lang.specs.declared.bindings.Binding.{Binding}
use Rattle.jac_lang.specs.declared.queries.Binder.{Binder}
use Rattle.jac_lang.specs.Lookup.{model_place, is_nested_at, nested_at_place, is_nested_named}
use Rattle.jac_lang.specs.Loops.{Loops, is_flat, behind_for, may_create, is_placed, are_placed}
use Rattle.jac_lang.specs.Syntax.{Entity, Question, Assigned, Statement, Statements}
use Rattle.jac_lang.specs.Written.{sites_in, sites}
use Rattle.jac_rows.specs.declared.plain.PlainRow.{PlainRow}
use Rattle.jac_rows.specs.Tables.{rows_of}
use Rattle.jac_plain.specs.Expressions.{answers, bound, binding, is_true}
use Rattle.jac_plain.specs.Making.{MayChoose, MayEach, MayCreate, MayRun, MayRunAll, with_env, is_among, are_apart, IsAbsent, AreAbsent, AreMadeBefore}
use Rattle.jac_plain.specs.Models.{is_sited, are_sited, AreFlat, HaveRisingIds}
use Rattle.jac_plain.specs.Records.{plain_row, with_ids, with_row, changed_rows, without, tables_with, tables_after}
use Rattle.jac_plain.specs.Statements.{Setting, Run, world_of, value_in, scoped_run, choose, for_each, loop_of, around_id, id_made, is_kept, with_made, created_cells, create_run, updated_cells, update_run, delete_run, leaves, leaves_all}
use Rattle.jac_plain.proofs.RowLaws.{set_rows}
use Rattle.jac_plain.proofs.MadeIds.{form_of, forms_apart, form_number, base_narrow, bases_apart, test_false, around_narrow, loops_apart}
use Rattle.jac_plain.proofs.LoopLaws.{IsLoop, IsOther, AreLoops, loops_answers}
use Rattle.jac_plain.proofs.KeptLaws.{IsFit, model_within, keeps_one as keeps_rows, keeps_created as rows_created, AreKept}
use Rattle.jac_plain.proofs.GoodLaws.{IsShapedRow, shapes_keeping}

absent_before : (id : ℕ) (r : PlainRow) (rows : List PlainRow) → (r.id == id) ≡ false → IsAbsent id rows → IsAbsent id (r ∷ rows)
absent_before id r rows other h = rw other h

absent_if : (id : ℕ) (b : Bool) (r : PlainRow) (xs ys : List PlainRow) → (r.id == id) ≡ false → IsAbsent id xs → IsAbsent id ys → IsAbsent id (if b then r ∷ xs else ys)
absent_if id true r xs ys other h g = absent_before id r xs other h
absent_if id false r xs ys other h g = g

-- If no row has the id, neither has the first row nor any other.
absent_parts : (id : ℕ) (r : PlainRow) (rows : List PlainRow) (same : Bool) → (r.id == id) ≡ same → IsAbsent id (r ∷ rows) → (same ≡ false) × IsAbsent id rows
absent_parts id r rows true e h = let stood : true ≡ false = rw e at h in cc
absent_parts id r rows false e h = (refl, rw e at h)

other_id : (id : ℕ) (r : PlainRow) (rows : List PlainRow) → IsAbsent id (r ∷ rows) → (r.id == id) ≡ false
other_id id r rows h = (absent_parts id r rows (r.id == id) refl h).0

absent_rest : (id : ℕ) (r : PlainRow) (rows : List PlainRow) → IsAbsent id (r ∷ rows) → IsAbsent id rows
absent_rest id r rows h = (absent_parts id r rows (r.id == id) refl h).1

absent-with_ids : (id : ℕ) (test : ℕ → Bool) (rows : List PlainRow) → IsAbsent id rows → IsAbsent id (with_ids test rows)
absent-with_ids id test [] h = refl
absent-with_ids id test (r ∷ rows) h =
    absent_if id (test r.id) r (with_ids test rows) (with_ids test rows) (other_id id r rows h)
    (absent-with_ids id test rows (absent_rest id r rows h)) (absent-with_ids id test rows (absent_rest id r rows h))

absent-append : (id : ℕ) (xs ys : List PlainRow) → IsAbsent id xs → IsAbsent id ys → IsAbsent id (xs ++ ys)
absent-append id [] ys h g = g
absent-append id (r ∷ xs) ys h g = absent_before id r (xs ++ ys) (other_id id r xs h) (absent-append id xs ys (absent_rest id r xs h) g)

absent-with_row : (id : ℕ) (row : PlainRow) (rows : List PlainRow) → (row.id == id) ≡ false → IsAbsent id rows → IsAbsent id (with_row row rows)
absent-with_row id row rows other h =
    absent-append id (with_ids (λ i. nat_lt i row.id) rows) (row ∷ with_ids (λ i. nat_lt row.id i) rows) (absent-with_ids id (λ i. nat_lt i row.id) rows h)
    (absent_before id row (with_ids (λ i. nat_lt row.id i) rows) other (absent-with_ids id (λ i. nat_lt row.id i) rows h))

absent_either : (id : ℕ) (b : Bool) (x y : PlainRow) (xs ys : List PlainRow) → IsAbsent id (x ∷ xs) → IsAbsent id (y ∷ ys) → IsAbsent id (if b then x ∷ xs else y ∷ ys)
absent_either id true x y xs ys h g = h
absent_either id false x y xs ys h g = g

absent-changed : (id target : ℕ) (change : List Value → List Value) (rows : List PlainRow) → IsAbsent id rows → IsAbsent id (changed_rows target change rows)
absent-changed id target change [] h = refl
absent-changed id target change (r ∷ rows) h =
    absent_either id (r.id == target) (plain_row r.id (change r.cells)) r rows (changed_rows target change rows)
    (absent_before id (plain_row r.id (change r.cells)) rows (other_id id r rows h) (absent_rest id r rows h))
    (absent_before id r (changed_rows target change rows) (other_id id r rows h) (absent-changed id target change rows (absent_rest id r rows h)))

absent_left : (id : ℕ) (b : Bool) (r : PlainRow) (xs ys : List PlainRow) → IsAbsent id xs → IsAbsent id (r ∷ ys) → IsAbsent id (if b then xs else r ∷ ys)
absent_left id true r xs ys h g = h
absent_left id false r xs ys h g = g

absent-without : (id target : ℕ) (rows : List PlainRow) → IsAbsent id rows → IsAbsent id (without target rows)
absent-without id target [] h = refl
absent-without id target (r ∷ rows) h =
    absent_left id (r.id == target) r rows (without target rows) (absent_rest id r rows h)
    (absent_before id r (without target rows) (other_id id r rows h) (absent-without id target rows (absent_rest id r rows h)))

-- If there is no record with the id before the step, there is none after it.
abbrev Keeps : ℕ → ℕ → (Run → Run) → Type 0
Keeps id m step = (r : Run) → IsAbsent id (rows_of r.tables m) → IsAbsent id (rows_of (step r).tables m)

keeps_choose : (id m : ℕ) (c : Bool) (first second : Run → Run) → Keeps id m first → Keeps id m second → Keeps id m (choose c first second)
keeps_choose id m true first second one two r h = one r h
keeps_choose id m false first second one two r h = two r h

keeps_scoped : (id m : ℕ) (env : List Binding) (body : Run → Run) → Keeps id m body → Keeps id m (scoped_run env body)
keeps_scoped id m env body kept r h = kept (record r { env = env }) h

keeps_each : (id m : ℕ) (bs : List Binder) (body : List ℕ → Run → Run) → ((ids : List ℕ) → Keeps id m (body ids)) → (tuples : List (List ℕ)) → Keeps id m (for_each bs body tuples)
keeps_each id m bs body kept [] r h = h
keeps_each id m bs body kept (ids ∷ tuples) r h =
    keeps_each id m bs body kept tuples (scoped_run (bound bs ids r.env) (body ids) r) (keeps_scoped id m (bound bs ids r.env) (body ids) (kept ids) r h)

-- A new record is of another model, or has another id.
keeps_with : (id m i made : ℕ) (cells : List Value) (tables : List (List PlainRow)) → (i ≡ m → (made == id) ≡ false) → IsAbsent id (rows_of tables m)
    → IsAbsent id (rows_of (tables_with i (plain_row made cells) tables) m)
keeps_with id m i made cells tables other absent =
    set_rows (λ rows. IsAbsent id rows) tables i m (with_row (plain_row made cells) (rows_of tables i))
    (λ e. absent-with_row id (plain_row made cells) (rows_of tables i) (other e) (rw e absent)) absent

keeps_made : (b : Bool) (id m i made : ℕ) (cells : List Value) (r : Run) → (i ≡ m → (made == id) ≡ false) → IsAbsent id (rows_of r.tables m)
    → IsAbsent id (rows_of (with_made b i (plain_row made cells) r).tables m)
keeps_made true id m i made cells r other absent = keeps_with id m i made cells r.tables other absent
keeps_made false id m i made cells r other absent = absent

keeps_created : (k : Setting) (id m : ℕ) (name : List ℕ) (model : Option ℕ) (site : ℕ) (cells : List Assigned) (body : Run → Run)
    → ((i : ℕ) → model ≡ Some i → i ≡ m → (id_made k i site == id) ≡ false) → Keeps id m body → Keeps id m (create_run k name model site cells body)
keeps_created k id m name None site cells body other kept r absent = absent
keeps_created k id m name (Some i) site cells body other kept r absent =
    let made = id_made k i site in
    keeps_scoped id m (r.env ++ binding name (value.Ref (Some made)) ∷ []) body kept (with_made (is_kept k.models k.shown i made) i (plain_row made (created_cells k i made cells r)) r)
    (keeps_made (is_kept k.models k.shown i made) id m i made (created_cells k i made cells r) r (other i refl) absent)

keeps_after : (id m i : ℕ) (target : Value) (step : ℕ → List PlainRow → List PlainRow) (tables : List (List PlainRow))
    → ((j : ℕ) (rows : List PlainRow) → IsAbsent id rows → IsAbsent id (step j rows)) → IsAbsent id (rows_of tables m) → IsAbsent id (rows_of (tables_after i target step tables) m)
keeps_after id m i (value.Ref (Some j)) step tables kept absent =
    set_rows (λ rows. IsAbsent id rows) tables i m (step j (rows_of tables i)) (λ e. kept j (rows_of tables i) (rw e absent)) absent
keeps_after id m i (value.Ref None) step tables kept absent = absent
keeps_after id m i (value.Int n) step tables kept absent = absent
keeps_after id m i (value.Text t) step tables kept absent = absent
keeps_after id m i (value.Bool b) step tables kept absent = absent

keeps_updated : (k : Setting) (id m : ℕ) (model : Option ℕ) (target : Value) (sets : List Assigned) → Keeps id m (update_run k model target sets)
keeps_updated k id m None target sets r h = h
keeps_updated k id m (Some i) target sets r h =
    keeps_after id m i target (λ j rows. changed_rows j (updated_cells k i j sets r) rows) r.tables (λ j rows. absent-changed id j (updated_cells k i j sets r) rows) h

keeps_deleted : (id m : ℕ) (model : Option ℕ) (target : Value) → Keeps id m (delete_run model target)
keeps_deleted id m None target r h = h
keeps_deleted id m (Some i) target r h = keeps_after id m i target without r.tables (λ j rows. absent-without id j rows) h

among-append : (site : ℕ) (xs ys : List ℕ) → is_among site (xs ++ ys) ≡ (is_among site xs || is_among site ys)
among-append site [] ys = refl
among-append site (x ∷ xs) ys = among_step (x == site) (is_among site xs) (is_among site ys) (is_among site (xs ++ ys)) (among-append site xs ys)
  where
    among_step : (a b c d : Bool) → d ≡ (b || c) → (a || d) ≡ ((a || b) || c)
    among_step true b c d e = refl
    among_step false b c d e = e

among_neither : (site : ℕ) (xs ys : List ℕ) → is_among site (xs ++ ys) ≡ false → (is_among site xs ≡ false) × (is_among site ys ≡ false)
among_neither site xs ys h = or_parts (is_among site xs) (is_among site ys) (sym (among-append site xs ys) ∙ h)

-- The site and the model have ids.
record IsPlace (k : Setting) (site m : ℕ) : Type 0 where
  fit : IsFit k.models k.number
  site_fits : site < 64
  model_fits : m < 64

-- In one model, the ids of different sites differ, around any records.
other_site : (models : List Entity) (number : ℕ) (here around : Option ℕ) (site m other i : ℕ) → IsFit models number → site < 64 → m < 64 → other < 64 → (other == site) ≡ false → i ≡ m
    → (around_id (is_nested_at models i) here (record_id number other i) == around_id (is_nested_at models m) around (record_id number site m)) ≡ false
other_site models number here around site m other i fit few less small h e =
    let one = record_id number other m in
    let two = record_id number site m in
    let made = around_id (is_nested_at models m) here one in
    let id = around_id (is_nested_at models m) around two in
    subst (λ j. (around_id (is_nested_at models j) here (record_id number other j) == id) ≡ false) (sym e)
    (test_false made id (made == id) refl
    (forms_apart one two made id (base_narrow number other m fit.some fit.room small less) (base_narrow number site m fit.some fit.room few less)
    (bases_apart number site other m h) (form_of (is_nested_at models m) here one) (form_of (is_nested_at models m) around two)))

-- If the site isn't in a statement, the statement makes no record with an id of the site.
mutual
  keeps_one : (k : Setting) (site m : ℕ) (around : Option ℕ) (s : Statement) → IsFit k.models k.number → site < 64 → m < 64 → is_sited s ≡ true → is_among site (sites_in s) ≡ false
      → Keeps (around_id (is_nested_at k.models m) around (record_id k.number site m)) m (leaves k s)
  keeps_one k site m around (Statement.put e) fit few less sited h r a = a
  keeps_one k site m around (Statement.escape e) fit few less sited h r a = a
  keeps_one k site m around (Statement.bind x e body) fit few less sited h r a =
      keeps_scoped (around_id (is_nested_at k.models m) around (record_id k.number site m)) m _ (leaves_all k body) (keeps_all k site m around body fit few less sited h) r a
  keeps_one k site m around (Statement.assign x e) fit few less sited h r a = a
  keeps_one k site m around (Statement.branch c first second) fit few less sited h r a =
      let parts = among_neither site (sites first) (sites second) h in
      let both = and_parts (are_sited first) (are_sited second) sited in
      keeps_choose (around_id (is_nested_at k.models m) around (record_id k.number site m)) m (is_true (value_in k c r)) (leaves_all k first) (leaves_all k second)
      (keeps_all k site m around first fit few less both.0 parts.0) (keeps_all k site m around second fit few less both.1 parts.1) r a
  keeps_one k site m around (Statement.each q body) fit few less sited h r a =
      keeps_each (around_id (is_nested_at k.models m) around (record_id k.number site m)) m q.binders (λ ids. leaves_all (record k { around = loop_of ids }) body)
      (λ ids. keeps_all (record k { around = loop_of ids }) site m around body fit few less sited h) (answers (world_of k r) q r.env) r a
  keeps_one k site m around (Statement.create x model other cells body) fit few less sited h r a =
      let parts = or_parts (other == site) (is_among site (sites body)) h in
      let both = and_parts (nat_lt other 64) (are_sited body) sited in
      let first = both.0 in
      keeps_created k (around_id (is_nested_at k.models m) around (record_id k.number site m)) m x (model_place k.models model) other cells (leaves_all k body)
      (λ i there e. other_site k.models k.number k.around around site m other i fit few less (grind (arith, nat_tests, first)) parts.0 e)
      (keeps_all k site m around body fit few less both.1 parts.1) r a
  keeps_one k site m around (Statement.update model e sets) fit few less sited h r a =
      keeps_updated k (around_id (is_nested_at k.models m) around (record_id k.number site m)) m (model_place k.models model) (value_in k e r) sets r a
  keeps_one k site m around (Statement.delete model e) fit few less sited h r a =
      keeps_deleted (around_id (is_nested_at k.models m) around (record_id k.number site m)) m (model_place k.models model) (value_in k e r) r a
  keeps_one k site m around Statement.missing fit few less sited h r a = a
  keeps_one k site m around (Statement.redirect e) fit few less sited h r a = a
  keeps_one k site m around (Statement.template t) fit few less sited h r a = a
  keeps_one k site m around (Statement.block body) fit few less sited h r a = keeps_all k site m around body fit few less sited h r a

  keeps_all : (k : Setting) (site m : ℕ) (around : Option ℕ) (s : Statements) → IsFit k.models k.number → site < 64 → m < 64 → are_sited s ≡ true → is_among site (sites s) ≡ false
      → Keeps (around_id (is_nested_at k.models m) around (record_id k.number site m)) m (leaves_all k s)
  keeps_all k site m around Statements.none fit few less sited h r a = a
  keeps_all k site m around (Statements.more s rest) fit few less sited h r a =
      let parts = among_neither site (sites_in s) (sites rest) h in
      let both = and_parts (is_sited s) (are_sited rest) sited in
      keeps_all k site m around rest fit few less both.1 parts.1 (leaves k s r) (keeps_one k site m around s fit few less both.0 parts.0 r a)

-- Nothing is created in two loops, nor in one loop that isn't flat.
abbrev IsBarren : Loops → Type 0
IsBarren loops = (nested : Bool) → may_create nested loops ≡ false

barren_behind : (models : List Entity) (bs : List Binder) (loops : Loops) → IsBarren loops → IsBarren (behind_for models bs loops)
barren_behind models bs Loops.none barren nested = let wrong : true ≡ false = barren false in cc
barren_behind models bs (Loops.one flat) barren true = refl
barren_behind models bs (Loops.one flat) barren false = refl
barren_behind models bs Loops.several barren true = refl
barren_behind models bs Loops.several barren false = refl

barren_several : IsBarren Loops.several
barren_several true = refl
barren_several false = refl

barren_one : (flat : Bool) → flat ≡ false → IsBarren (Loops.one flat)
barren_one flat e true = e
barren_one flat e false = refl

among_both : (site : ℕ) (xs ys : List ℕ) → is_among site xs ≡ false → is_among site ys ≡ false → is_among site (xs ++ ys) ≡ false
among_both site xs ys h g = among-append site xs ys ∙ (rw h g)

mutual
  barren_sites_in : (models : List Entity) (loops : Loops) (s : Statement) → IsBarren loops → is_placed models loops s ≡ true → (site : ℕ) → is_among site (sites_in s) ≡ false
  barren_sites_in models loops (Statement.put e) barren h site = refl
  barren_sites_in models loops (Statement.escape e) barren h site = refl
  barren_sites_in models loops (Statement.bind x e body) barren h site = barren_sites models loops body barren h site
  barren_sites_in models loops (Statement.assign x e) barren h site = refl
  barren_sites_in models loops (Statement.branch c first second) barren h site =
      let parts = and_parts (are_placed models loops first) (are_placed models loops second) h in
      among_both site (sites first) (sites second) (barren_sites models loops first barren parts.0 site) (barren_sites models loops second barren parts.1 site)
  barren_sites_in models loops (Statement.each q body) barren h site =
      barren_sites models (behind_for models q.binders loops) body (barren_behind models q.binders loops barren) h site
  barren_sites_in models loops (Statement.create x m other cells body) barren h site =
      let parts = and_parts (may_create (is_nested_named models m) loops) (are_placed models loops body) h in
      let wrong : true ≡ false = sym parts.0 ∙ barren (is_nested_named models m) in cc
  barren_sites_in models loops (Statement.update m e cells) barren h site = refl
  barren_sites_in models loops (Statement.delete m e) barren h site = refl
  barren_sites_in models loops Statement.missing barren h site = refl
  barren_sites_in models loops (Statement.redirect e) barren h site = refl
  barren_sites_in models loops (Statement.template t) barren h site = refl
  barren_sites_in models loops (Statement.block body) barren h site = barren_sites models loops body barren h site

  barren_sites : (models : List Entity) (loops : Loops) (s : Statements) → IsBarren loops → are_placed models loops s ≡ true → (site : ℕ) → is_among site (sites s) ≡ false
  barren_sites models loops Statements.none barren h site = refl
  barren_sites models loops (Statements.more s rest) barren h site =
      let parts = and_parts (is_placed models loops s) (are_placed models loops rest) h in
      among_both site (sites_in s) (sites rest) (barren_sites_in models loops s barren parts.0 site) (barren_sites models loops rest barren parts.1 site)

-- In a loop only records of nested models are created.
nested_if : (b flat : Bool) → may_create b (Loops.one flat) ≡ true → b ≡ true
nested_if true flat h = refl
nested_if false flat h = cc

other_loop : (models : List Entity) (number here there site m other i : ℕ) → IsFit models number → site < 64 → m < 64 → other < 64 → is_narrow here ≡ true → is_narrow there ≡ true → ¬ (here ≡ there)
    → is_nested_at models i ≡ true → i ≡ m
    → (around_id (is_nested_at models i) (Some here) (record_id number other i) == around_id (is_nested_at models m) (Some there) (record_id number site m)) ≡ false
other_loop models number here there site m other i fit few less small narrow also apart nested e =
    let one = record_id number other m in
    let two = record_id number site m in
    let is : is_nested_at models m ≡ true = subst (λ j. is_nested_at models j ≡ true) e nested in
    let made = around_id true (Some here) one in
    let id = around_id true (Some there) two in
    subst (λ j. (around_id (is_nested_at models j) (Some here) (record_id number other j) == around_id (is_nested_at models m) (Some there) two) ≡ false) (sym e)
    (subst (λ b. (around_id b (Some here) one == around_id b (Some there) two) ≡ false) (sym is)
    (test_false made id (made == id) refl
    (λ same. loops_apart here there one two (base_narrow number other m fit.some fit.room small less) (base_narrow number site m fit.some fit.room few less) apart
    (sym (around_narrow here one narrow) ∙ (same ∙ around_narrow there two also)))))

-- The body of a loop around one record makes no record that is to be made around another one.
mutual
  loop_keeps_one : (k : Setting) (flat : Bool) (here there site m : ℕ) (s : Statement) → IsFit k.models k.number → site < 64 → m < 64 → is_narrow here ≡ true → is_narrow there ≡ true → ¬ (here ≡ there)
      → k.around ≡ Some here → is_sited s ≡ true → is_placed k.models (Loops.one flat) s ≡ true
      → Keeps (around_id (is_nested_at k.models m) (Some there) (record_id k.number site m)) m (leaves k s)
  loop_keeps_one k flat here there site m (Statement.put e) fit few less narrow also apart is sited p r a = a
  loop_keeps_one k flat here there site m (Statement.escape e) fit few less narrow also apart is sited p r a = a
  loop_keeps_one k flat here there site m (Statement.bind x e body) fit few less narrow also apart is sited p r a =
      keeps_scoped (around_id (is_nested_at k.models m) (Some there) (record_id k.number site m)) m _ (leaves_all k body)
      (loop_keeps_all k flat here there site m body fit few less narrow also apart is sited p) r a
  loop_keeps_one k flat here there site m (Statement.assign x e) fit few less narrow also apart is sited p r a = a
  loop_keeps_one k flat here there site m (Statement.branch c first second) fit few less narrow also apart is sited p r a =
      let both = and_parts (are_sited first) (are_sited second) sited in
      let two = and_parts (are_placed k.models (Loops.one flat) first) (are_placed k.models (Loops.one flat) second) p in
      keeps_choose (around_id (is_nested_at k.models m) (Some there) (record_id k.number site m)) m (is_true (value_in k c r)) (leaves_all k first) (leaves_all k second)
      (loop_keeps_all k flat here there site m first fit few less narrow also apart is both.0 two.0)
      (loop_keeps_all k flat here there site m second fit few less narrow also apart is both.1 two.1) r a
  loop_keeps_one k flat here there site m (Statement.each q body) fit few less narrow also apart is sited p r a =
      keeps_each (around_id (is_nested_at k.models m) (Some there) (record_id k.number site m)) m q.binders (λ ids. leaves_all (record k { around = loop_of ids }) body)
      (λ ids. keeps_all (record k { around = loop_of ids }) site m (Some there) body fit few less sited (barren_sites k.models Loops.several body barren_several p site))
      (answers (world_of k r) q r.env) r a
  loop_keeps_one k flat here there site m (Statement.create x model other cells body) fit few less narrow also apart is sited p r a =
      let both = and_parts (nat_lt other 64) (are_sited body) sited in
      let two = and_parts (may_create (is_nested_named k.models model) (Loops.one flat)) (are_placed k.models (Loops.one flat) body) p in
      let first = both.0 in
      keeps_created k (around_id (is_nested_at k.models m) (Some there) (record_id k.number site m)) m x (model_place k.models model) other cells (leaves_all k body)
      (λ i at e.
      let nested : is_nested_at k.models i ≡ true = nested_if (is_nested_at k.models i) flat (subst (λ o. may_create (nested_at_place k.models o) (Loops.one flat) ≡ true) at two.0) in
      subst (λ o. (around_id (is_nested_at k.models i) o (record_id k.number other i) == around_id (is_nested_at k.models m) (Some there) (record_id k.number site m)) ≡ false) (sym is)
      (other_loop k.models k.number here there site m other i fit few less (grind (arith, nat_tests, first)) narrow also apart nested e))
      (loop_keeps_all k flat here there site m body fit few less narrow also apart is both.1 two.1) r a
  loop_keeps_one k flat here there site m (Statement.update model e sets) fit few less narrow also apart is sited p r a =
      keeps_updated k (around_id (is_nested_at k.models m) (Some there) (record_id k.number site m)) m (model_place k.models model) (value_in k e r) sets r a
  loop_keeps_one k flat here there site m (Statement.delete model e) fit few less narrow also apart is sited p r a =
      keeps_deleted (around_id (is_nested_at k.models m) (Some there) (record_id k.number site m)) m (model_place k.models model) (value_in k e r) r a
  loop_keeps_one k flat here there site m Statement.missing fit few less narrow also apart is sited p r a = a
  loop_keeps_one k flat here there site m (Statement.redirect e) fit few less narrow also apart is sited p r a = a
  loop_keeps_one k flat here there site m (Statement.template t) fit few less narrow also apart is sited p r a = a
  loop_keeps_one k flat here there site m (Statement.block body) fit few less narrow also apart is sited p r a =
      loop_keeps_all k flat here there site m body fit few less narrow also apart is sited p r a

  loop_keeps_all : (k : Setting) (flat : Bool) (here there site m : ℕ) (s : Statements) → IsFit k.models k.number → site < 64 → m < 64 → is_narrow here ≡ true → is_narrow there ≡ true → ¬ (here ≡ there)
      → k.around ≡ Some here → are_sited s ≡ true → are_placed k.models (Loops.one flat) s ≡ true
      → Keeps (around_id (is_nested_at k.models m) (Some there) (record_id k.number site m)) m (leaves_all k s)
  loop_keeps_all k flat here there site m Statements.none fit few less narrow also apart is sited p r a = a
  loop_keeps_all k flat here there site m (Statements.more s rest) fit few less narrow also apart is sited p r a =
      let both = and_parts (is_sited s) (are_sited rest) sited in
      let two = and_parts (is_placed k.models (Loops.one flat) s) (are_placed k.models (Loops.one flat) rest) p in
      loop_keeps_all k flat here there site m rest fit few less narrow also apart is both.1 two.1 (leaves k s r)
      (loop_keeps_one k flat here there site m s fit few less narrow also apart is both.0 two.0 r a)

-- The records that a create may still make: outside of loops those around any record, in a loop
-- those around the loop's record.
abbrev IsReady : Loops → Option ℕ → Option ℕ → Type 0
IsReady Loops.none here around = ⊤
IsReady (Loops.one flat) here around = around ≡ here
IsReady Loops.several here around = around ≡ here

abbrev AreReady : Loops → Setting → List ℕ → List (List PlainRow) → Type 0
AreReady loops k some tables =
    (site m : ℕ) (around : Option ℕ) → is_among site some ≡ true → site < 64 → m < 64 → IsReady loops k.around around
    → IsAbsent (around_id (is_nested_at k.models m) around (record_id k.number site m)) (rows_of tables m)

-- Outside of loops, the ids in each table rise, and are wide exactly in nested models.
abbrev IsOrdered : Loops → Setting → List (List PlainRow) → Type 0
IsOrdered Loops.none k tables = AreKept IsShapedRow shapes_keeping k.models k.number tables
IsOrdered (Loops.one flat) k tables = ⊤
IsOrdered Loops.several k tables = ⊤

here_ready : (loops : Loops) (here : Option ℕ) → IsReady loops here here
here_ready Loops.none here = tt
here_ready (Loops.one flat) here = refl
here_ready Loops.several here = refl

ordered_then : (loops : Loops) (k : Setting) (s : Statement) (r : Run) → IsFit k.models k.number → is_sited s ≡ true → is_placed k.models loops s ≡ true → IsOrdered loops k r.tables
    → IsOrdered loops k (leaves k s r).tables
ordered_then Loops.none k s r fit sited p g = keeps_rows IsShapedRow shapes_keeping k Loops.none s fit tt sited p r g
ordered_then (Loops.one flat) k s r fit sited p g = tt
ordered_then Loops.several k s r fit sited p g = tt

not_true : (a : Bool) → not a ≡ true → a ≡ false
not_true true h = cc
not_true false h = refl

-- The sites of two lists are pairwise different.
record Apart (xs ys : List ℕ) : Type 0 where
  first : are_apart xs ≡ true
  second : are_apart ys ≡ true
  strange : (site : ℕ) → is_among site ys ≡ true → is_among site xs ≡ false

strange_step : (x site : ℕ) (same : Bool) (xs ys : List ℕ) → (x == site) ≡ same → is_among x ys ≡ false → is_among site ys ≡ true → is_among site xs ≡ false → is_among site (x ∷ xs) ≡ false
strange_step x site true xs ys e h is rest =
    let equal : x ≡ site = grind (arith, nat_tests, e) in
    let wrong : true ≡ false = sym is ∙ (rw (← equal) h) in cc
strange_step x site false xs ys e h is rest = rw e rest

apart_parts : (xs ys : List ℕ) → are_apart (xs ++ ys) ≡ true → Apart xs ys
apart_parts [] ys h = record { first = refl; second = h; strange = λ site is. refl }
apart_parts (x ∷ xs) ys h =
    let parts = and_parts (not (is_among x (xs ++ ys))) (are_apart (xs ++ ys)) h in
    let none = among_neither x xs ys (not_true (is_among x (xs ++ ys)) parts.0) in
    let rest = apart_parts xs ys parts.1 in
    record {
      first = rw (none.0, rest.first) refl;
      second = rest.second;
      strange = λ site is. strange_step x site (x == site) xs ys refl none.1 is (rest.strange site is);
    }

other_than : (x site : ℕ) (same : Bool) (xs : List ℕ) → (x == site) ≡ same → is_among x xs ≡ false → is_among site xs ≡ true → (x == site) ≡ false
other_than x site true xs e h is =
    let equal : x ≡ site = grind (arith, nat_tests, e) in
    let wrong : true ≡ false = sym is ∙ (rw (← equal) h) in cc
other_than x site false xs e h is = e

ready_first : (loops : Loops) (k : Setting) (xs ys : List ℕ) (tables : List (List PlainRow)) → AreReady loops k (xs ++ ys) tables → AreReady loops k xs tables
ready_first loops k xs ys tables h site m around is = h site m around (among-append site xs ys ∙ or_left (is_among site xs) (is_among site ys) is)

ready_second : (loops : Loops) (k : Setting) (xs ys : List ℕ) (tables : List (List PlainRow)) → AreReady loops k (xs ++ ys) tables → AreReady loops k ys tables
ready_second loops k xs ys tables h site m around is = h site m around (among-append site xs ys ∙ or_right (is_among site xs) (is_among site ys) is)

may_choose : (c : Bool) (First Second : Run → Type 0) (r : Run) → First r → Second r → MayChoose c First Second r
may_choose true First Second r one two = one
may_choose false First Second r one two = two

may_each : (bs : List Binder) (body : List ℕ → Run → Run) (May : List ℕ → Run → Type 0) → ((ids : List ℕ) (r : Run) → May ids r) → (tuples : List (List ℕ)) (r : Run) → MayEach bs body May tuples r
may_each bs body May may [] r = tt
may_each bs body May may (ids ∷ tuples) r = (may ids (with_env (bound bs ids r.env) r), may_each bs body May may tuples (scoped_run (bound bs ids r.env) (body ids) r))

ready_barren : (loops : Loops) (k : Setting) (s : Statements) (tables : List (List PlainRow)) → IsBarren loops → are_placed k.models loops s ≡ true → AreReady loops k (sites s) tables
ready_barren loops k s tables barren placed site m around is few less ready =
    let wrong : true ≡ false = sym is ∙ barren_sites k.models loops s barren placed site in cc

-- No record is there that is to be made around this record.
abbrev AreReadyAt : Setting → Option ℕ → List ℕ → List (List PlainRow) → Type 0
AreReadyAt k around some tables =
    (site m : ℕ) → is_among site some ≡ true → site < 64 → m < 64 → IsAbsent (around_id (is_nested_at k.models m) around (record_id k.number site m)) (rows_of tables m)

loop_at : (ids : List ℕ) (is : IsLoop ids) → loop_of ids ≡ Some is.id
loop_at ids is = ap loop_of is.is

-- The body for one answer makes no record that is to be made for another answer.
still_ready : (k : Setting) (flat : Bool) (ids : List ℕ) (body : Statements) → IsFit k.models k.number → are_sited body ≡ true → are_placed k.models (Loops.one flat) body ≡ true → IsLoop ids
    → (some : List ℕ) (ts : List (List ℕ)) → AllByRecursion (IsOther ids) ts → AreLoops ts → (r : Run) → AllByRecursion (λ u. AreReadyAt k (loop_of u) some r.tables) ts
    → AllByRecursion (λ u. AreReadyAt k (loop_of u) some (leaves_all (record k { around = loop_of ids }) body r).tables) ts
still_ready k flat ids body fit sited placed is some [] others loops r ready = tt
still_ready k flat ids body fit sited placed is some (u ∷ us) others loops r ready =
    let two = loops.0 in
    let other = others.0 in (
      (λ site m among few less.
          subst (λ o. IsAbsent (around_id (is_nested_at k.models m) o (record_id k.number site m)) (rows_of (leaves_all (record k { around = loop_of ids }) body r).tables m)) (sym (loop_at u two))
          (loop_keeps_all (record k { around = loop_of ids }) flat is.id two.id site m body fit few less is.narrow two.narrow
          (λ e. other (is.is ∙ (ap (λ i. i ∷ []) e ∙ sym two.is))) (loop_at ids is) sited placed r
          (subst (λ o. IsAbsent (around_id (is_nested_at k.models m) o (record_id k.number site m)) (rows_of r.tables m)) (loop_at u two) (ready.0 site m among few less)))),
      still_ready k flat ids body fit sited placed is some us others.1 loops.2 r ready.1,
    )

abbrev MayAt : ℕ → Setting → Statements → List ℕ → Run → Type 0
MayAt next k body ids = MayRunAll next (record k { around = loop_of ids }) body

abbrev body_at : Setting → Statements → List ℕ → Run → Run
body_at k body ids = leaves_all (record k { around = loop_of ids }) body

may_flat : (next : ℕ) (k : Setting) (flat : Bool) (bs : List Binder) (body : Statements) → IsFit k.models k.number → are_sited body ≡ true → are_placed k.models (Loops.one flat) body ≡ true
    → ((ids : List ℕ) (q : Run) → AreReady (Loops.one flat) (record k { around = loop_of ids }) (sites body) q.tables → MayAt next k body ids q)
    → (tuples : List (List ℕ)) → AreLoops tuples → (r : Run) → AllByRecursion (λ u. AreReadyAt k (loop_of u) (sites body) r.tables) tuples
    → MayEach bs (body_at k body) (MayAt next k body) tuples r
may_flat next k flat bs body fit sited placed run [] loops r ready = tt
may_flat next k flat bs body fit sited placed run (ids ∷ tuples) loops r ready = (
  run ids (with_env (bound bs ids r.env) r)
      (λ site m around among few less e.
      subst (λ o. IsAbsent (around_id (is_nested_at k.models m) o (record_id k.number site m)) (rows_of r.tables m)) (sym e) (ready.0 site m among few less)),
  may_flat next k flat bs body fit sited placed run tuples loops.2 (scoped_run (bound bs ids r.env) (body_at k body ids) r)
      (still_ready k flat ids body fit sited placed loops.0 (sites body) tuples loops.1 loops.2 (record r { env = bound bs ids r.env }) ready.1),
)

at_each : (k : Setting) (some : List ℕ) (tables : List (List PlainRow)) (ts : List (List ℕ)) → AreReady Loops.none k some tables → AllByRecursion (λ u. AreReadyAt k (loop_of u) some tables) ts
at_each k some tables [] ready = tt
at_each k some tables (u ∷ us) ready = ((λ site m among few less. ready site m (loop_of u) among few less tt), at_each k some tables us ready)

may_none_if : (next : ℕ) (k : Setting) (flat : Bool) (q : Question) (body : Statements) (r : Run) → is_flat k.models q.binders ≡ flat → IsFit k.models k.number → are_sited body ≡ true
    → are_placed k.models (Loops.one flat) body ≡ true → AreKept IsShapedRow shapes_keeping k.models k.number r.tables → AreReady Loops.none k (sites body) r.tables
    → ((ids : List ℕ) (p : Run) → AreReady (Loops.one flat) (record k { around = loop_of ids }) (sites body) p.tables → MayAt next k body ids p)
    → MayEach q.binders (body_at k body) (MayAt next k body) (answers (world_of k r) q r.env) r
may_none_if next k true q body r e fit sited placed kept ready run =
    may_flat next k true q.binders body fit sited placed run (answers (world_of k r) q r.env)
    (loops_answers (world_of k r) q r.env (λ m. (kept m).0) (λ m. (kept m).1) e) r (at_each k (sites body) r.tables (answers (world_of k r) q r.env) ready)
may_none_if next k false q body r e fit sited placed kept ready run =
    may_each q.binders (body_at k body) (MayAt next k body)
    (λ ids p. run ids p (ready_barren (Loops.one false) (record k { around = loop_of ids }) body p.tables (barren_one false refl) placed)) (answers (world_of k r) q r.env) r

may_for : (next : ℕ) (k : Setting) (loops : Loops) (q : Question) (body : Statements) (r : Run) → IsFit k.models k.number → are_sited body ≡ true
    → are_placed k.models (behind_for k.models q.binders loops) body ≡ true → IsOrdered loops k r.tables → AreReady loops k (sites body) r.tables
    → ((ids : List ℕ) (p : Run) → IsOrdered (behind_for k.models q.binders loops) (record k { around = loop_of ids }) p.tables
    → AreReady (behind_for k.models q.binders loops) (record k { around = loop_of ids }) (sites body) p.tables → MayAt next k body ids p)
    → MayEach q.binders (body_at k body) (MayAt next k body) (answers (world_of k r) q r.env) r
may_for next k Loops.none q body r fit sited placed ordered ready run =
    may_none_if next k (is_flat k.models q.binders) q body r refl fit sited placed ordered ready (λ ids p. run ids p tt)
may_for next k (Loops.one flat) q body r fit sited placed ordered ready run =
    may_each q.binders (body_at k body) (MayAt next k body)
    (λ ids p. run ids p tt (ready_barren Loops.several (record k { around = loop_of ids }) body p.tables barren_several placed)) (answers (world_of k r) q r.env) r
may_for next k Loops.several q body r fit sited placed ordered ready run =
    may_each q.binders (body_at k body) (MayAt next k body)
    (λ ids p. run ids p tt (ready_barren Loops.several (record k { around = loop_of ids }) body p.tables barren_several placed)) (answers (world_of k r) q r.env) r

ordered_made : (loops : Loops) (k : Setting) (name : List ℕ) (m site : ℕ) (cells : List Assigned) (r : Run) → IsFit k.models k.number → site < 64 → m < length k.models
    → may_create (is_nested_at k.models m) loops ≡ true → IsOrdered loops k r.tables
    → IsOrdered loops k (with_made (is_kept k.models k.shown m (id_made k m site)) m (plain_row (id_made k m site) (created_cells k m (id_made k m site) cells r)) r).tables
ordered_made Loops.none k name m site cells r fit few within may g =
    rows_created IsShapedRow shapes_keeping k Loops.none name (Some m) site cells (λ q. q) fit tt few (λ i e. let same : m ≡ i = cc in subst (λ j. j < length k.models) same within) may (λ q h. h) r g
ordered_made (Loops.one flat) k name m site cells r fit few within may g = tt
ordered_made Loops.several k name m site cells r fit few within may g = tt

may_make : (next : ℕ) (k : Setting) (loops : Loops) (name : List ℕ) (model : Option ℕ) (site : ℕ) (cells : List Assigned) (May : Run → Type 0) (later : List ℕ) (r : Run)
    → k.number < next → IsFit k.models k.number → site < 64 → ((i : ℕ) → model ≡ Some i → i < length k.models) → may_create (nested_at_place k.models model) loops ≡ true
    → are_apart (site ∷ later) ≡ true → IsOrdered loops k r.tables → AreReady loops k (site ∷ later) r.tables
    → ((q : Run) → IsOrdered loops k q.tables → AreReady loops k later q.tables → May q) → MayCreate next k name model site cells May r
may_make next k loops name None site cells May later r less fit few within may apart ordered ready run = tt
may_make next k loops name (Some m) site cells May later r less fit few within may apart ordered ready run =
    let id = id_made k m site in
    let made = created_cells k m id cells r in
    let here : m < length k.models = within m refl in
    let most = fit.few in
    let small : m < 64 = omega (arith, here, most) in
    let among : is_among site (site ∷ later) ≡ true = or_left (site == site) (is_among site later) (grind (arith, nat_tests)) in
    let none : is_among site later ≡ false = not_true (is_among site later) (and_parts (not (is_among site later)) (are_apart later) apart).0 in (
      record { numbered = less; absent = ready site m k.around among few small (here_ready loops k.around) },
      run (with_env (r.env ++ binding name (value.Ref (Some id)) ∷ []) (with_made (is_kept k.models k.shown m id) m (plain_row id made) r))
          (ordered_made loops k name m site cells r fit few here may ordered)
          (λ other i around is fits places may_be. keeps_made (is_kept k.models k.shown m id) (around_id (is_nested_at k.models i) around (record_id k.number other i)) i m id made r
          (λ e. other_site k.models k.number k.around around other i site m fit fits places few (other_than site other (site == other) later refl none is) e)
          (ready other i around (or_right (site == other) (is_among other later) is) fits places may_be)),
    )

mutual
  may_run_one : (next : ℕ) (k : Setting) (loops : Loops) (s : Statement) (r : Run) → k.number < next → IsFit k.models k.number → is_sited s ≡ true → are_apart (sites_in s) ≡ true
      → is_placed k.models loops s ≡ true → IsOrdered loops k r.tables → AreReady loops k (sites_in s) r.tables → MayRun next k s r
  may_run_one next k loops (Statement.put e) r less fit sited apart p o a = tt
  may_run_one next k loops (Statement.escape e) r less fit sited apart p o a = tt
  may_run_one next k loops (Statement.bind x e body) r less fit sited apart p o a =
      may_run_all next k loops body (with_env (r.env ++ binding x (value_in k e r) ∷ []) r) less fit sited apart p o a
  may_run_one next k loops (Statement.assign x e) r less fit sited apart p o a = tt
  may_run_one next k loops (Statement.branch c first second) r less fit sited apart p o a =
      let parts = and_parts (are_placed k.models loops first) (are_placed k.models loops second) p in
      let both = and_parts (are_sited first) (are_sited second) sited in
      let two = apart_parts (sites first) (sites second) apart in
      may_choose (is_true (value_in k c r)) (MayRunAll next k first) (MayRunAll next k second) r
      (may_run_all next k loops first r less fit both.0 two.first parts.0 o (ready_first loops k (sites first) (sites second) r.tables a))
      (may_run_all next k loops second r less fit both.1 two.second parts.1 o (ready_second loops k (sites first) (sites second) r.tables a))
  may_run_one next k loops (Statement.each q body) r less fit sited apart p o a =
      may_for next k loops q body r fit sited p o a
      (λ ids q'. may_run_all next (record k { around = loop_of ids }) (behind_for k.models q.binders loops) body q' less fit sited apart p)
  may_run_one next k loops (Statement.create x m site cells body) r less fit sited apart p o a =
      let both = and_parts (nat_lt site 64) (are_sited body) sited in
      let first = both.0 in
      let parts = and_parts (may_create (is_nested_named k.models m) loops) (are_placed k.models loops body) p in
      may_make next k loops x (model_place k.models m) site cells (MayRunAll next k body) (sites body) r less fit (grind (arith, nat_tests, first)) (λ i e. model_within k.models m i e) parts.0 apart o a
      (λ q. may_run_all next k loops body q less fit both.1 (and_parts (not (is_among site (sites body))) (are_apart (sites body)) apart).1 parts.1)
  may_run_one next k loops (Statement.update m e cells) r less fit sited apart p o a = tt
  may_run_one next k loops (Statement.delete m e) r less fit sited apart p o a = tt
  may_run_one next k loops Statement.missing r less fit sited apart p o a = tt
  may_run_one next k loops (Statement.redirect e) r less fit sited apart p o a = tt
  may_run_one next k loops (Statement.template t) r less fit sited apart p o a = tt
  may_run_one next k loops (Statement.block body) r less fit sited apart p o a = may_run_all next k loops body r less fit sited apart p o a

  may_run_all : (next : ℕ) (k : Setting) (loops : Loops) (s : Statements) (r : Run) → k.number < next → IsFit k.models k.number → are_sited s ≡ true → are_apart (sites s) ≡ true
      → are_placed k.models loops s ≡ true → IsOrdered loops k r.tables → AreReady loops k (sites s) r.tables → MayRunAll next k s r
  may_run_all next k loops Statements.none r less fit sited apart p o a = tt
  may_run_all next k loops (Statements.more s rest) r less fit sited apart p o a =
      let parts = and_parts (is_placed k.models loops s) (are_placed k.models loops rest) p in
      let both = and_parts (is_sited s) (are_sited rest) sited in
      let two = apart_parts (sites_in s) (sites rest) apart in (
        may_run_one next k loops s r less fit both.0 two.first parts.0 o (ready_first loops k (sites_in s) (sites rest) r.tables a),
        may_run_all next k loops rest (leaves k s r) less fit both.1 two.second parts.1 (ordered_then loops k s r fit both.0 parts.0 o)
            (λ site m around is few small may_be. keeps_one k site m around s fit few small both.0 (two.strange site is) r
            (ready_second loops k (sites_in s) (sites rest) r.tables a site m around is few small may_be)),
      )

pub creates_new : (next : ℕ) (k : Setting) (s : Statements) (r : Run) → 0 < k.number → k.number < 2 ^ 40 → k.number < next → length k.models ≤ 64 → are_sited s ≡ true → are_apart (sites s) ≡ true
    → are_placed k.models Loops.none s ≡ true → HaveRisingIds r.tables → AreFlat k.models r.tables → AreAbsent k.models k.number (sites s) r.tables → MayRunAll next k s r
creates_new next k s r some room less few sited apart placed ordered flat absent =
    may_run_all next k Loops.none s r less (record { some = some; room = room; few = few }) sited apart placed (λ m. (ordered m, flat m))
    (λ site m around is fits small ready. absent site m around is fits small)

-- If all records were made before, none has an id of this request.
absent_older : (id number : ℕ) (rows : List PlainRow) → number_of_id id ≡ number → AllByRecursion (λ (r : PlainRow). number_of_id r.id < number) rows → IsAbsent id rows
absent_older id number [] e a = refl
absent_older id number (r ∷ rows) e a =
    let older = a.0 in
    absent_before id r rows (test_false r.id id (r.id == id) refl (λ same. let equal = ap number_of_id same in absurd (omega (arith, older, e, equal)))) (absent_older id number rows e a.1)

pub absent_before_number : (models : List Entity) (number : ℕ) (some : List ℕ) (tables : List (List PlainRow)) → 0 < number → number < 2 ^ 40 → AreMadeBefore number tables → AreAbsent models number some tables
absent_before_number models number some tables positive room before site m around is few small =
    absent_older (around_id (is_nested_at models m) around (record_id number site m)) number (rows_of tables m)
    (form_number number site m (around_id (is_nested_at models m) around (record_id number site m)) positive room few small (form_of (is_nested_at models m) around (record_id number site m)))
    (before m)
