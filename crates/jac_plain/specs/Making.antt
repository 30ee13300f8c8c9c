-- The condition that each `create` of a run makes a new record.
use Rattle.std.specs.Prelude.{◌≡◌, ℕ, ◌<◌, ◌++◌, ◌==◌, ◌&&◌, ◌||◌, not, Bool, true, false, ⊤, List, [], ◌∷◌, Option, Some, None}
use Rattle.jac_value.specs.declared.value.Value.TheVariants as value
use Rattle.std.specs.List.{AllByRecursion}
use Rattle.jac_value.specs.Ids.{record_id, number_of_id}
use Rattle.jac_lang.specs.declared.bindings.Binding.{Binding}
use Rattle.jac_lang.specs.declared.queries.Binder.{Binder}
use Rattle.jac_lang.specs.Lookup.{model_place, is_nested_at}
use Rattle.jac_lang.specs.Syntax.{Entity, Assigned, Statement, Statements}
use Rattle.jac_rows.specs.declared.plain.PlainRow.{PlainRow}
use Rattle.jac_rows.specs.Tables.{rows_of}
use Rattle.jac_plain.specs.Expressions.{answers, bound, binding, is_true, stands}
use Rattle.jac_plain.specs.Statements.{Setting, Run, world_of, value_in, scoped_run, loop_of, around_id, id_made, is_kept, with_made, plain_row, created_cells, leaves, leaves_all}
use Rattle.jac_plain.specs.World.{record_with}

-- The id is that of a new record: the number of the request is less than the next number, and no
-- record has this id.
pub record IsNew (next number id : ℕ) (rows : List PlainRow) : Type 0 where
  pub numbered : number < next
  pub absent : stands (record_with id rows) ≡ false

-- The run with these bindings.
abbrev pub with_env : List Binding → Run → Run
with_env env r = record r { env = env }

abbrev pub MayChoose : Bool → (Run → Type 0) → (Run → Type 0) → Run → Type 0
MayChoose true First Second r = First r
MayChoose false First Second r = Second r

-- The condition holds for each tuple, in the run after the tuples before it.
abbrev pub MayEach : List Binder → (List ℕ → Run → Run) → (List ℕ → Run → Type 0) → List (List ℕ)
    → Run → Type 0
MayEach bs body May [] r = ⊤
MayEach bs body May (ids ∷ tuples) r = May ids (with_env (bound bs ids r.env) r)
    × MayEach bs body May tuples (scoped_run (bound bs ids r.env) (body ids) r)

-- The record is new, and the condition of the body holds with the name bound to it.
abbrev pub MayCreate : ℕ → Setting → List ℕ → Option ℕ → ℕ → List Assigned → (Run → Type 0) → Run
    → Type 0
MayCreate next k name None site cells May r = ⊤
MayCreate next k name (Some m) site cells May r =
    let id = id_made k m site in
    let made = with_made (is_kept k.models k.shown m id) m
    (plain_row id (created_cells k m id cells r)) r in
    IsNew next k.number id (rows_of r.tables m)
    × May (with_env (made.env ++ binding name (value.Ref (Some id)) ∷ []) made)

abbrev mutual
  -- Each create that the statement runs makes a new record.
  pub MayRun : ℕ → Setting → Statement → Run → Type 0
  MayRun next k (Statement.put e) r = ⊤
  MayRun next k (Statement.escape e) r = ⊤
  MayRun next k (Statement.bind x e body) r = MayRunAll next k body
      (with_env (r.env ++ binding x (value_in k e r) ∷ []) r)
  MayRun next k (Statement.assign x e) r = ⊤
  MayRun next k (Statement.branch c first second) r = MayChoose (is_true (value_in k c r))
      (MayRunAll next k first) (MayRunAll next k second) r
  MayRun next k (Statement.each q body) r =
      MayEach q.binders (λ ids. leaves_all (record k { around = loop_of ids }) body)
      (λ ids. MayRunAll next (record k { around = loop_of ids }) body)
      (answers (world_of k r) q r.env) r
  MayRun next k (Statement.create x m site cells body) r =
      MayCreate next k x (model_place k.models m) site cells (MayRunAll next k body) r
  MayRun next k (Statement.update m e cells) r = ⊤
  MayRun next k (Statement.delete m e) r = ⊤
  MayRun next k Statement.missing r = ⊤
  MayRun next k (Statement.redirect e) r = ⊤
  MayRun next k (Statement.template t) r = ⊤
  MayRun next k (Statement.block body) r = MayRunAll next k body r

  pub MayRunAll : ℕ → Setting → Statements → Run → Type 0
  MayRunAll next k Statements.none r = ⊤
  MayRunAll next k (Statements.more s rest) r = MayRun next k s r
      × MayRunAll next k rest (leaves k s r)

abbrev pub is_among : ℕ → List ℕ → Bool
is_among site [] = false
is_among site (x ∷ xs) = (x == site) || is_among site xs

-- Whether the numbers are pairwise different.
abbrev pub are_apart : List ℕ → Bool
are_apart [] = true
are_apart (x ∷ xs) = not (is_among x xs) && are_apart xs

-- No record has this id.
abbrev pub IsAbsent : ℕ → List PlainRow → Type 0
IsAbsent id rows = stands (record_with id rows) ≡ false

-- No record has an id that a request of this number makes at one of the sites, around any record.
abbrev pub AreAbsent : List Entity → ℕ → List ℕ → List (List PlainRow) → Type 0
AreAbsent models number sites tables =
    (site m : ℕ) (around : Option ℕ) → is_among site sites ≡ true → site < 64 → m < 64
    → IsAbsent (around_id (is_nested_at models m) around (record_id number site m))
    (rows_of tables m)

-- Each record was made by a request before this number.
abbrev pub AreMadeBefore : ℕ → List (List PlainRow) → Type 0
AreMadeBefore number tables = (m : ℕ) → AllByRecursion (λ (r : PlainRow). number_of_id r.id
    < number) (rows_of tables m)
