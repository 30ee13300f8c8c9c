use Rattle.std.proofs.Common.{sym, ◌∙◌}
use Rattle.jac_expr.specs.Seen.{env_at, world_here}
use Rattle.jac_keep.specs.WorkState.{state_of}
use Rattle.jac_lang.specs.Lookup.{fields_at}
use Rattle.jac_lang.specs.Syntax.{Expression}
use Rattle.jac_lang.specs.Mirror.{application_of, one_assigned_of}
use Rattle.jac_plain.specs.Expressions.{mean}
use Rattle.jac_stmt.proofs.DraftLaws.{sets-pushed}
use Rattle.jac_stmt.proofs.drafts.read_set.Goals as goal

pub returns-clause-sets : goal.returns-clause-sets
returns-clause-sets g c told w held =
    let fields = fields_at (application_of c.args.here.now.app.now).models c.args.model in
    let value_of = λ (e : Expression). mean (world_here c.args.here.now (state_of g.K.Keeper.seen c.args.work.now) w) e (env_at w c.args.env.now) in
    sets-pushed w fields value_of (one_assigned_of c.args.set.now) c.in-Some.field c.in_ok-value.value c.args.sets.now.items c.push.new.self.items
    (sym c.field_of.ensures.place ∙ c.in-Some.is) (c.in_ok-value.ensures.value told w held) c.in_ok-push.ensures.items
