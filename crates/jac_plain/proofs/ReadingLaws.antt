-- Statements that write nothing don't change the tables.
use Rattle.std.proofs.Common.{◌≡◌, ◌∙◌, refl, ℕ, Bool, true, false, List, [], ◌∷◌}
use Rattle.std.proofs.lemmas.Bool.{and_parts}
use Rattle.jac_lang.specs.declared.bindings.Binding.{Binding}
use Rattle.jac_lang.specs.declared.queries.Binder.{Binder}
use Rattle.jac_lang.specs.Syntax.{Statement, Statements}
use Rattle.jac_plain.specs.Expressions.{answers, bound, is_true}
use Rattle.jac_plain.specs.Reading.{is_reading, are_reading}
use Rattle.jac_plain.specs.Statements.{Setting, Run, world_of, value_in, scoped_run, choose, for_each, loop_of, leaves, leaves_all}

-- The step doesn't change the tables.
abbrev Keeps : (Run → Run) → Type 0
Keeps step = (r : Run) → (step r).tables ≡ r.tables

keeps_choose : (c : Bool) (first second : Run → Run) → Keeps first → Keeps second → Keeps (choose c first second)
keeps_choose true first second one two r = one r
keeps_choose false first second one two r = two r

keeps_scoped : (env : List Binding) (body : Run → Run) → Keeps body → Keeps (scoped_run env body)
keeps_scoped env body kept r = kept (record r { env = env })

keeps_each : (bs : List Binder) (body : List ℕ → Run → Run) → ((ids : List ℕ) → Keeps (body ids)) → (tuples : List (List ℕ)) → Keeps (for_each bs body tuples)
keeps_each bs body kept [] r = refl
keeps_each bs body kept (ids ∷ tuples) r =
    keeps_each bs body kept tuples (scoped_run (bound bs ids r.env) (body ids) r) ∙ keeps_scoped (bound bs ids r.env) (body ids) (kept ids) r

mutual
  keeps_one : (k : Setting) (s : Statement) → is_reading s ≡ true → Keeps (leaves k s)
  keeps_one k (Statement.put e) h r = refl
  keeps_one k (Statement.escape e) h r = refl
  keeps_one k (Statement.bind x e body) h r = keeps_scoped _ (leaves_all k body) (keeps_all k body h) r
  keeps_one k (Statement.assign x e) h r = refl
  keeps_one k (Statement.branch c first second) h r =
      keeps_choose (is_true (value_in k c r)) (leaves_all k first) (leaves_all k second)
      (keeps_all k first (and_parts _ _ h).0) (keeps_all k second (and_parts (are_reading first) _ h).1) r
  keeps_one k (Statement.each q body) h r =
      keeps_each q.binders (λ ids. leaves_all (record k { around = loop_of ids }) body) (λ ids. keeps_all (record k { around = loop_of ids }) body h) (answers (world_of k r) q r.env) r
  keeps_one k (Statement.create x m site cells body) h r = cc
  keeps_one k (Statement.update m e cells) h r = cc
  keeps_one k (Statement.delete m e) h r = cc
  keeps_one k Statement.missing h r = refl
  keeps_one k (Statement.redirect e) h r = refl
  keeps_one k (Statement.template t) h r = refl
  keeps_one k (Statement.block body) h r = keeps_all k body h r

  pub keeps_all : (k : Setting) (s : Statements) → are_reading s ≡ true → Keeps (leaves_all k s)
  keeps_all k Statements.none h r = refl
  keeps_all k (Statements.more s rest) h r =
      keeps_all k rest (and_parts (is_reading s) _ h).1 (leaves k s r) ∙ keeps_one k s (and_parts _ _ h).0 r

pub reading_leaves_tables : (k : Setting) (s : Statements) (r : Run) → are_reading s ≡ true → (leaves_all k s r).tables ≡ r.tables
reading_leaves_tables k s r h = keeps_all k s h r
