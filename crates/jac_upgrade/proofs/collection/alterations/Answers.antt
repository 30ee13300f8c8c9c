use Rattle.std.proofs.Common.{◌<◌, sym, subst, rules, length}
use Rattle.jac_lang.specs.Mirror.{entities_of}
use Rattle.jac_lang.proofs.Places.{length-entities}
use Rattle.jac_upgrade.proofs.Modeling.{below_step, left_then}
use Rattle.jac_upgrade.proofs.collection.alterations.Goals as goal

pub models-preserved : goal.models-preserved
models-preserved g c =
    let seen = g.K.Keeper.seen in
    let olds = entities_of c.args.old.now.models in
    let news = entities_of c.args.new.now.models in
    let before = seen c.args.keeper.now in
    let middle = seen c.models.keeper in
    let after = seen c.add_model.new.keeper in
    let within : c.models.model < length c.args.old.now.models = search rules in (
      left_then before middle after c.models.invariant.0 c.in_ok-add_model.ensures.left,
      c.in_ok-add_model.ensures.own,
      below_step olds news before middle after c.models.model c.models.made.items c.add_model.new.made.items c.models.invariant.0 c.in_ok-add_model.ensures.left
          (subst (λ n. c.models.model < n) (sym (length-entities c.args.old.now.models)) within) c.models.invariant.2 c.in_ok-add_model.ensures.sound c.in_ok-add_model.ensures.added,
    )
