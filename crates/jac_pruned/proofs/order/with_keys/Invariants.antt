use Rattle.std.proofs.Common.{◌≡◌, ◌++◌, List, ℕ, Bool, true, Option, drop}
use Rattle.jac_value.specs.declared.value.Value.{Value}
use Rattle.jac_lang.specs.Mirror.{binders_of}
use Rattle.jac_world.specs.World.{shown_by}
use Rattle.jac_keep.specs.WorkState.{state_of, IsTold}
use Rattle.jac_plain.specs.Expressions.{key_of, model_of_binder}
use Rattle.jac_shown_rows.specs.Consulted.{Agrees, Grows}
use Rattle.jac_shown_rows.specs.Own.{IsOwn, is_own_table, table_named}
use Rattle.jac_shown_rows.specs.Seen.{app_at, seen_at}
use Rattle.jac_pruned.specs.Tupled.{keyed_by}
use Rattle.jac_shown_rows.proofs.Working.{LoopOver}
use Rattle.jac_pruned.proofs.order.with_keys.Given as goal

-- The keyed tuples so far, followed by those that are left, are all.
abbrev pub invariant-tuples : goal.invariant-tuples
invariant-tuples g l =
    let k = g.K.Keeper in
    record {
      grown : Grows l.fn.support l.support;
      own : IsTold k.seen l.work → (this : Option ℕ) → is_own_table this (table_named (app_at l.at) (state_of k.seen l.fn.work) (model_of_binder (binders_of l.by.binders.now) l.by.name.now)) ≡ true → IsOwn this l.fn.support → IsOwn this l.support;
      read : LoopOver k.seen l.fn.work l.work
          ((w : ℕ → Bool) → Agrees l.support (shown_by l.at.assignment.now) w →
          let key : List ℕ → Value = key_of (seen_at l.at (state_of k.seen l.fn.work) w) (binders_of l.by.binders.now) l.by.name.now l.by.field.now in
          l.keyed.items ++ keyed_by key (drop l.ids-index l.tuples) ≡ keyed_by key l.tuples);
    }
