use Rattle.std.proofs.Common.{◌≡◌, ◌<◌, ◌≤◌, ℕ, length}
use Rattle.jac_keep.specs.Indexed.{field_index, IsFieldAfter}
use Rattle.jac_keep.proofs.fields.alter_fields.Given as goal

-- The fields before this place are altered, and the others are as they were.
abbrev pub invariant-fields : goal.invariant-fields
invariant-fields l =
    record {
      done : (f : ℕ) → f < l.place → IsFieldAfter f l.old l.new (field_index f l.fn.fields.items) (field_index f l.after.items);
      left : (f : ℕ) → l.place ≤ f → field_index f l.after.items ≡ field_index f l.fn.fields.items;
      count : length l.after.items ≡ length l.fn.fields.items;
    }
