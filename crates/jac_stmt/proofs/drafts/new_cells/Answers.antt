use Rattle.std.proofs.Common.{sym, ◌∙◌, ap, ◌<◌, ℕ, List, length, All, subst}
use Rattle.jac_expr.specs.Seen.{env_at, world_here}
use Rattle.jac_expr.specs.Tupled.{all_at}
use Rattle.jac_facet.specs.Shape.{Shape}
use Rattle.jac_keep.specs.WorkState.{state_of}
use Rattle.jac_lang.specs.Lookup.{fields_at}
use Rattle.jac_lang.specs.Syntax.{Expression}
use Rattle.jac_lang.specs.Mirror.{application_of, assigned_of}
use Rattle.jac_plain.specs.Expressions.{mean}
use Rattle.jac_value.specs.declared.value.Value.{Value}
use Rattle.jac_write.specs.Writes.{sets_at}
use Rattle.jac_stmt.proofs.DraftLaws.{new-cells}
use Rattle.jac_stmt.proofs.drafts.new_cells.Goals as goal

pub put_sets-requires : goal.put_sets-requires
put_sets-requires g c =
    subst (λ (n : ℕ). All (λ (x : ℕ × Shape Value). x.0 < n) c.into_vec.result.items) (sym c.in_ok-made.ensures.each_field)
    (subst (λ (s : List (ℕ × Shape Value)). All (λ x. x.0 < length (fields_at (application_of c.args.here.now.app.now).models c.args.model)) s) (sym c.into_vec.ensures) c.in_ok-sets.ensures.fields)

pub returns-clause-cells : goal.returns-clause-cells
returns-clause-cells g c told w held =
    let models = (application_of c.args.here.now.app.now).models in
    let value_of = λ (e : Expression). mean (world_here c.args.here.now (state_of g.K.Keeper.seen c.args.work.now) w) e (env_at w c.args.env.now) in
    new-cells models (fields_at models c.args.model) value_of (assigned_of c.args.cells.now) (all_at w c.in_ok-made.made.items) (all_at w c.from_vec.result) (sets_at w c.into_vec.result.items)
    (c.in_ok-made.ensures.cells w) (ap (all_at w) c.from_vec.ensures ∙ c.put_sets.ensures.put w) (ap (sets_at w) c.into_vec.ensures ∙ c.in_ok-sets.ensures.sets told w held)

pub returns-clause-each_field : goal.returns-clause-each_field
returns-clause-each_field g c = ap length c.from_vec.ensures ∙ c.put_sets.ensures.same_length ∙ c.in_ok-made.ensures.each_field
