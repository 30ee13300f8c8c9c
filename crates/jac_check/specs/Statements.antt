-- The first fault of a statement. Statements that aren't allowed here come first, then names, then
-- operands, then their kinds, and the statements inside come last.
use Rattle.std.specs.Prelude.{ℕ, Bool, true, false, List, [], ◌∷◌, Option, Some, None, codes}
use Rattle.jac_value.specs.declared.value.Kind.{Kind}
use Rattle.jac_lang.specs.declared.field_kinds.Field.{Field}
use Rattle.jac_lang.specs.Lookup.{is_nested_named}
use Rattle.jac_lang.specs.Loops.{may_create}
use Rattle.jac_lang.specs.Syntax.{Expression, Question, Assigned, Statement, Statements}
use Rattle.jac_check.specs.declared.names.Meaning.{Meaning}
use Rattle.jac_check.specs.Scope.{Scope, Standing, scope_at, bind, loop_within, meaning_of, reference_to, fields_of, field_kind, is_one_of}
use Rattle.jac_check.specs.Verdict.{Reason, Verdict, ◌before◌, fault_if, fault_unless, fault_in, not_a, of_kind}
use Rattle.jac_check.specs.NameFaults.{unknown_model, unknown_field}
use Rattle.jac_check.specs.Expressions.{verdict, cond_verdict, asked_fault, kind_or}

abbrev pub verdict_at : Standing → Expression → Verdict
verdict_at st e = verdict (scope_at st) e

-- The fault of a form that writes in a view that answers GET.
abbrev pub write_fault : Standing → Option Reason
write_fault st = fault_if st.is_get Reason.write_in_get

-- Why a record may not be created here. A record of a nested model must be created in one loop, any
-- other in none.
abbrev pub loop_reason : Bool → List ℕ → Reason
loop_reason true m = Reason.loop_wanted m
loop_reason false m = Reason.create_in_loop

-- The fault of a form that creates a record where its model doesn't allow it.
abbrev pub loop_fault : Standing → List ℕ → Option Reason
loop_fault st m = fault_unless (may_create (is_nested_named st.models m) st.loops)
    (loop_reason (is_nested_named st.models m) m)

-- The fault of the names of cells: an unknown field, or a field that is named twice.
abbrev pub cells_names : List Field → List (List ℕ) → List Assigned → Option Reason
cells_names fs seen [] = None
cells_names fs seen (g ∷ gs) =
    unknown_field fs g.field before fault_if (is_one_of g.field seen) (Reason.twice g.field) before
    cells_names fs (g.field ∷ seen) gs

abbrev pub cells_inside : Scope → List Assigned → Option Reason
cells_inside s [] = None
cells_inside s (g ∷ gs) = fault_in (verdict s g.value) before cells_inside s gs

-- The fault of the kinds of cells: one that isn't of its field's kind.
abbrev pub cells_kinds : Scope → List Field → List Assigned → Option Reason
cells_kinds s fs [] = None
cells_kinds s fs (g ∷ gs) = not_a (field_kind s.models fs g.field) (verdict s g.value) before
    cells_kinds s fs gs

-- The fault of an assignment. Only a name that a `let` binds may be assigned to.
abbrev pub assigned_fault : Option Meaning → Verdict → Option Reason
assigned_fault None v = Some (Reason.not_here (codes "assign"))
assigned_fault (Some m) v = fault_unless m.by_let (Reason.not_here (codes "assign")) before of_kind
    m.kind v

abbrev pub create_fault : Standing → List ℕ → List Assigned → Option Reason
create_fault st m cells =
    write_fault st before unknown_model st.models m before cells_names (fields_of st.models m) []
    cells before loop_fault st m
    before cells_inside (scope_at st) cells before cells_kinds (scope_at st) (fields_of st.models m)
    cells

abbrev pub update_fault : Standing → List ℕ → Verdict → List Assigned → Option Reason
update_fault st m v cells =
    write_fault st before unknown_model st.models m before cells_names (fields_of st.models m) []
    cells
    before fault_in v before cells_inside (scope_at st) cells
    before not_a (reference_to st.models m) v before cells_kinds (scope_at st)
    (fields_of st.models m) cells

abbrev pub delete_fault : Standing → List ℕ → Verdict → Option Reason
delete_fault st m v = write_fault st before unknown_model st.models m before of_kind
    (reference_to st.models m) v

abbrev pub query_fault : Standing → Question → Option Reason
query_fault st q = asked_fault (scope_at st) (codes "for") q.binders q.order
    (cond_verdict (scope_at st) q)

abbrev mutual
  pub statement_fault : Standing → Statement → Option Reason
  statement_fault st (Statement.put e) = fault_in (verdict_at st e)
  statement_fault st (Statement.escape e) = fault_in (verdict_at st e)
  statement_fault st (Statement.bind x e body) = fault_in (verdict_at st e) before body_fault
      (bind st x (kind_or Kind.Int (verdict_at st e)) true) body
  statement_fault st (Statement.assign x e) = assigned_fault (meaning_of st.names x)
      (verdict_at st e)
  statement_fault st (Statement.branch c a b) = of_kind Kind.Bool (verdict_at st c) before
      body_fault st a before body_fault st b
  statement_fault st (Statement.each q body) = query_fault st q before body_fault
      (loop_within q.binders st) body
  statement_fault st (Statement.create x m site cells body) = create_fault st m cells before
      body_fault (bind st x (reference_to st.models m) false) body
  statement_fault st (Statement.update m e cells) = update_fault st m (verdict_at st e) cells
  statement_fault st (Statement.delete m e) = delete_fault st m (verdict_at st e)
  statement_fault st Statement.missing = None
  statement_fault st (Statement.redirect e) = of_kind Kind.Text (verdict_at st e)
  statement_fault st (Statement.template t) = Some (Reason.not_here (codes "template"))
  statement_fault st (Statement.block body) = body_fault st body

  -- The first fault of statements, one after another.
  pub body_fault : Standing → Statements → Option Reason
  body_fault st Statements.none = None
  body_fault st (Statements.more s ss) = statement_fault st s before body_fault st ss
