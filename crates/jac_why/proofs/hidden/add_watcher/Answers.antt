use Rattle.std.proofs.Common.{◌∙◌, ◌==◌, ◌&&◌, ◌||◌, ap}
use Rattle.jac_world.specs.World.{shown_by}
use Rattle.jac_keep.specs.WorkState.{state_of}
use Rattle.jac_why.specs.Context.{context_on}
use Rattle.jac_why.specs.Watched.{asks_again}
use Rattle.jac_why.proofs.Asking.{watching_by}
use Rattle.jac_why.proofs.hidden.add_watcher.Goals as goal

pub returns-clause-watching : goal.returns-clause-watching
returns-clause-watching g c told =
    let label = c.args.label in
    let old = c.args.watchers.now in
    watching_by (context_on (state_of g.K.Keeper.seen c.args.work.now) c.args.context.now) label c.in_ok-consulted.consulted _ old c.watch.new.self
    (c.in_ok-consulted.ensures.value told)
    (λ k j. c.in_ok-watch.ensures k j ∙ ap (λ ls. (shown_by ls k && label == j) || asks_again old k j) c.as_slice.ensures.labels)
