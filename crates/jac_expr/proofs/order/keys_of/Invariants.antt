use Rattle.std.proofs.Common.{◌≡◌, ◌++◌, List, ℕ, Bool, length, drop}
use Rattle.jac_value.specs.declared.value.Value.{Value}
use Rattle.jac_lang.specs.Mirror.{binders_of}
use Rattle.jac_keep.specs.WorkState.{state_of}
use Rattle.jac_plain.specs.Expressions.{key_of}
use Rattle.jac_plain.specs.declared.context.Ctx.{Ctx}
use Rattle.jac_query.specs.Live.{live}
use Rattle.jac_query.specs.Marked.{marked_tuples}
use Rattle.jac_expr.specs.Tupled.{each_with}
use Rattle.jac_expr.proofs.Working.{LoopOver}
use Rattle.jac_expr.proofs.order.keys_of.Given as goal
use Rattle.jac_plain.specs.Shown.{world_at}

-- The keys so far, followed by those of the tuples that are left, are those of all.
abbrev pub invariant-tuples : goal.invariant-tuples
invariant-tuples g l =
    let k = g.K.Keeper in
    record {
      counted : length l.keys.items ≡ l.tuple-index;
      read : LoopOver k.seen l.fn.work l.work
          ((ctx : Ctx) (w : ℕ → Bool) →
          let key : List ℕ → Value = key_of (world_at l.app ctx (state_of k.seen l.fn.work) w) (binders_of l.key.binders.now) l.key.name.now l.key.field.now in
          marked_tuples w l.tuples l.keys.items ++ each_with key (live w (drop l.tuple-index l.tuples)) ≡ each_with key (live w l.tuples));
    }
