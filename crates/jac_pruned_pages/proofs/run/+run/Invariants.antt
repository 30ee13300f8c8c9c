use Rattle.std.proofs.Common.{◌≡◌, ◌≤◌, ◌+◌, ◌*◌, ℕ, Bool, List, [], ◌∷◌, max, drop}
use Rattle.jac_lang.specs.declared.statements.Stmt.{size-Stmt}
use Rattle.jac_lang.specs.declared.statements.Stmts.{size-Stmts}
use Rattle.jac_lang.specs.declared.queries.Binder.{Binder}
use Rattle.jac_lang.specs.Mirror.{binders_of, statements_of}
use Rattle.jac_world.specs.World.{shown_by}
use Rattle.jac_keep.specs.WorkState.{state_of}
use Rattle.jac_plain.specs.Statements.{for_each, leaves_all}
use Rattle.jac_shown_rows.specs.Consulted.{Agrees, Grows}
use Rattle.jac_plain.specs.declared.page.Piece.{Piece}
use Rattle.jac_pruned_pages.specs.Buffers.{buffer_for, buffer_of}
use Rattle.jac_shown_rows.specs.RecordIds.{lengthened_tuples}
use Rattle.jac_pruned_pages.specs.Runs.{left_at, run_in, AreReading}
use Rattle.jac_pruned_pages.proofs.Running.{Comes}
use Rattle.jac_shown_rows.proofs.Working.{LoopOver}
use Rattle.jac_pruned_pages.proofs.run.+run.Given as goal
use Rattle.jac_plain.specs.Shown.{setting_around, setting_at}

-- What the statements that are left do from here, all statements do from the start.
abbrev pub invariant-execute_all-body : goal.invariant-execute_all-body
invariant-execute_all-body g l =
    let k = g.K.Keeper in
    record {
      no_deeper : size-Stmts l.left ≤ size-Stmts l.stmts;
      reading : AreReading (statements_of l.left);
      grown : Grows l.fn.support l.support;
      read : LoopOver k.seen l.fn.work l.work
          ((w : ℕ → Bool) → Agrees l.support (shown_by l.at.assignment.now) w → (pieces : List Piece) → buffer_of l.fn.run.page ≡ buffer_for pieces →
          let setting = setting_at l.at.app.now l.at.ctx.now w in
          let s = state_of k.seen l.fn.work in
          Comes (left_at w s l.run.env.items (buffer_of l.run.page)) (leaves_all setting (statements_of l.left))
          (leaves_all setting (statements_of l.stmts) (run_in w s l.fn.run.env.items pieces)));
    }

-- What the tuples that are left do from here, all tuples do from the start.
abbrev pub invariant-execute_tuples-tuples : goal.invariant-execute_tuples-tuples
invariant-execute_tuples-tuples g l =
    let k = g.K.Keeper in
    record {
      grown : Grows l.fn.support l.support;
      read : LoopOver k.seen l.fn.work l.work
          ((w : ℕ → Bool) → Agrees l.support (shown_by l.at.assignment.now) w → (pieces : List Piece) → buffer_of l.fn.run.page ≡ buffer_for pieces →
          let body = λ (ids : List ℕ). leaves_all (setting_around l.at.app.now l.at.ctx.now ids w) (statements_of l.body) in
          let bs = binders_of l.binders in
          let s = state_of k.seen l.fn.work in
          Comes (left_at w s l.run.env.items (buffer_of l.run.page)) (for_each bs body (drop l.ids-index l.tuples))
          (for_each bs body l.tuples (run_in w s l.fn.run.env.items pieces)));
    }

-- What the records that are left do from here, all records do from the start.
abbrev pub invariant-execute_records-ids : goal.invariant-execute_records-ids
invariant-execute_records-ids g l =
    let k = g.K.Keeper in
    record {
      grown : Grows l.fn.support l.support;
      read : LoopOver k.seen l.fn.work l.work
          ((w : ℕ → Bool) → Agrees l.support (shown_by l.at.assignment.now) w → (pieces : List Piece) → buffer_of l.fn.run.page ≡ buffer_for pieces →
          let body = λ (ids : List ℕ). leaves_all (setting_around l.at.app.now l.at.ctx.now ids w) (statements_of l.body) in
          let bs : List Binder = l.binder ∷ [] in
          let s = state_of k.seen l.fn.work in
          Comes (left_at w s l.run.env.items (buffer_of l.run.page)) (for_each bs body (lengthened_tuples [] (drop l.id-index l.ids)))
          (for_each bs body (lengthened_tuples [] l.ids) (run_in w s l.fn.run.env.items pieces)));
    }

abbrev pub decreases-execute_all : goal.decreases-execute_all
decreases-execute_all g l = 8 * size-Stmts l.stmts.now

abbrev pub decreases-execute : goal.decreases-execute
decreases-execute g l = 8 * size-Stmt l.stmt.now

abbrev pub decreases-execute_let : goal.decreases-execute_let
decreases-execute_let g l = 8 * size-Stmts l.body.now + 2

abbrev pub decreases-execute_named : goal.decreases-execute_named
decreases-execute_named g l = 8 * size-Stmts l.body.now + 1

abbrev pub decreases-execute_if : goal.decreases-execute_if
decreases-execute_if g l = 8 * max (size-Stmts l.first.now) (size-Stmts l.second.now) + 1

abbrev pub decreases-execute_for : goal.decreases-execute_for
decreases-execute_for g l = 8 * size-Stmts l.body.now + 4

abbrev pub decreases-execute_alone : goal.decreases-execute_alone
decreases-execute_alone g l = 8 * size-Stmts l.body.now + 3

abbrev pub decreases-execute_records : goal.decreases-execute_records
decreases-execute_records g l = 8 * size-Stmts l.body.now + 2

abbrev pub decreases-execute_record : goal.decreases-execute_record
decreases-execute_record g l = 8 * size-Stmts l.body.now + 1

abbrev pub decreases-execute_answers : goal.decreases-execute_answers
decreases-execute_answers g l = 8 * size-Stmts l.body.now + 3

abbrev pub decreases-execute_tuples : goal.decreases-execute_tuples
decreases-execute_tuples g l = 8 * size-Stmts l.body.now + 2

abbrev pub decreases-execute_bound : goal.decreases-execute_bound
decreases-execute_bound g l = 8 * size-Stmts l.body.now + 1
