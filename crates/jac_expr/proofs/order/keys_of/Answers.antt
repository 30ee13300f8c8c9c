use Rattle.std.proofs.Common.{rules, arith, ◌∙◌, ap, [], length}
use Rattle.jac_lang.specs.Mirror.{binders_of}
use Rattle.jac_keep.specs.WorkState.{state_of}
use Rattle.jac_plain.specs.Expressions.{bound, look, key_of}
use Rattle.jac_plain.specs.World.{got}
use Rattle.jac_expr.proofs.AtTuples.{each-none, each-more, each-all, counted-more}
use Rattle.jac_expr.proofs.order.keys_of.Goals as goal
use Rattle.jac_plain.specs.Shown.{world_at}

pub tuples-init : goal.tuples-init
tuples-init g c =
    let k = g.K.Keeper in
    record {
      counted = ap length c.new-keys.ensures.items;
      read = record {
        told = λ told ctx w.
            each-none w (key_of (world_at c.args.app.now ctx (state_of k.seen c.args.work.now) w) (binders_of c.args.key.now.binders.now) c.args.key.now.name.now c.args.key.now.field.now)
            c.args.tuples.now c.new-keys.result.items c.new-keys.ensures.items;
        same = search rules;
      };
    }

pub tuples-preserved : goal.tuples-preserved
tuples-preserved g c =
    let k = g.K.Keeper in
    let before = c.tuples.invariant in
    record {
      counted = counted-more c.tuples.keys.items c.push.new.self.items c.in_ok-value.value c.tuples.tuple-index before.counted c.in_ok-push.ensures.items;
      read = record {
        told = λ told ctx w.
            let bs = binders_of c.args.key.now.binders.now in
            let world = world_at c.args.app.now ctx (state_of k.seen c.args.work.now) w in
            let before_told = c.in_ok-value.ensures.reads.same.told told in
            each-more w (key_of world bs c.args.key.now.name.now c.args.key.now.field.now)
            c.args.tuples.now c.tuple-item.result c.tuples.keys.items c.push.new.self.items c.in_ok-value.value c.tuples.tuple-index
            before.counted c.tuple-item.is (omega arith) c.in_ok-push.ensures.items
            (λ held.
            c.in_ok-value.ensures.key told ctx w held
            ∙ ap (λ s. got (world_at c.args.app.now ctx s w) c.in_ok-model.model c.args.key.now.field.now (look (bound bs c.tuple-item.result.ids []) c.args.key.now.name.now))
            (before.read.same.same_state before_told)
            ∙ ap (λ m. got world m c.args.key.now.field.now (look (bound bs c.tuple-item.result.ids []) c.args.key.now.name.now)) c.in_ok-model.ensures)
            (before.read.told before_told ctx w);
        same = search rules;
      };
    }

pub returns-clause-keys : goal.returns-clause-keys
returns-clause-keys g c told ctx w =
    each-all w (key_of (world_at c.args.app.now ctx (state_of g.K.Keeper.seen c.args.work.now) w) (binders_of c.args.key.now.binders.now) c.args.key.now.name.now c.args.key.now.field.now)
    c.args.tuples.now c.tuples.keys.items c.from_vec.result c.tuples.tuple-index c.from_vec.ensures c.tuples-test.false
    (c.tuples.invariant.read.told told ctx w)
