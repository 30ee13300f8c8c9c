-- From the borrowed types of the program to the plain data that they stand for.
use Rattle.std.specs.Prelude.{ℕ, List, [], ◌∷◌, ◌++◌, Option, Some, None, Result, Ok, Err}
use Rattle.jac_value.specs.declared.value.Kind.{Kind}
use Rattle.jac_lang.specs.Mirror.{application_of, binders_of}
use Rattle.jac_lang.specs.Loops.{Loops}
use Rattle.jac_lang.specs.Syntax.{Entity}
use Rattle.jac_check.specs.declared.cause.Cause.{Cause}
use Rattle.jac_check.specs.declared.cause.Cause.TheVariants as causes
use Rattle.jac_check.specs.declared.loops.Around.{Around as DeclaredLoops}
use Rattle.jac_check.specs.declared.loops.Around.TheVariants as loops
use Rattle.jac_check.specs.declared.names.Names.{Names}
use Rattle.jac_check.specs.declared.names.Names.TheVariants as names
use Rattle.jac_check.specs.declared.queries.Seen.{Seen}
use Rattle.jac_check.specs.declared.queries.Seen.TheVariants as seen
use Rattle.jac_check.specs.declared.scope.Scope.{Scope as Borrowed}
use Rattle.jac_check.specs.declared.statements.Standing.{Standing as BorrowedStanding}
use Rattle.jac_check.specs.Scope.{Named, Scope, Standing, scope_name, named_fields, named_binders}
use Rattle.jac_check.specs.Verdict.{Reason, Verdict}

abbrev pub reason_of : Cause → Reason
reason_of (causes.UnknownName x) = Reason.unknown x.now
reason_of (causes.TwiceNamed x) = Reason.twice x.now
reason_of (causes.WrongKind want have) = Reason.wrong_kind want have
reason_of causes.WriteInGet = Reason.write_in_get
reason_of causes.CreateInLoop = Reason.create_in_loop
reason_of (causes.LoopWanted x) = Reason.loop_wanted x.now
reason_of causes.ViewerInPublic = Reason.viewer_in_public
reason_of (causes.NotHere x) = Reason.not_here x.now

abbrev pub verdict_of : Result Kind Cause → Verdict
verdict_of (Ok k) = Verdict.kind k
verdict_of (Err c) = Verdict.fault (reason_of c)

abbrev pub fault_of : {A : Type 0} → Result A Cause → Option Reason
fault_of (Ok a) = None
fault_of (Err c) = Some (reason_of c)

abbrev pub names_of : List Entity → Names → List Named
names_of ms names.Nothing = []
names_of ms (names.Params fields) = named_fields ms fields.now
names_of ms (names.Bound' x k by_let p outer) = names_of ms outer ++ scope_name x.now k by_let ∷ []
names_of ms (names.Binders' bs p outer) = names_of ms outer ++ named_binders ms (binders_of bs.now)

abbrev pub seen_of : Seen → List (List ℕ)
seen_of seen.Nothing = []
seen_of (seen.Name' x p rest) = x.now ∷ seen_of rest

abbrev pub models_of : Borrowed → List Entity
models_of s = (application_of s.app.now).models

abbrev pub scope_of : Borrowed → Scope
scope_of s = record {
  models = models_of s;
  viewers = s.app.now.viewer;
  this = s.this;
  names = names_of (models_of s) s.names.now;
  is_public = s.is_public;
}

abbrev pub loops_of : DeclaredLoops → Loops
loops_of loops.Nowhere = Loops.none
loops_of (loops.Single flat) = Loops.one flat
loops_of loops.Several = Loops.several

abbrev pub standing_of : BorrowedStanding → Standing
standing_of at = record {
  models = (application_of at.app.now).models;
  viewers = at.app.now.viewer;
  names = names_of (application_of at.app.now).models at.names.now;
  is_get = at.is_get;
  loops = loops_of at.around;
}
