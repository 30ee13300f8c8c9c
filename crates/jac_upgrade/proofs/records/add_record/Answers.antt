use Rattle.std.proofs.Common.{◌≡◌, refl, rules, false, Some, slice_get}
use Rattle.jac_value.specs.Ids.{is_id_of}
use Rattle.jac_lang.specs.Mirror.{entities_of}
use Rattle.jac_upgrade.proofs.Walking.{first_other}
use Rattle.jac_upgrade.proofs.records.add_record.Goals as goal

pub returns-then-not-is_id : goal.returns-then-not-is_id
returns-then-not-is_id g c =
    let first = c.in-Some.first.now in
    let is : slice_get c.args.rows.now 0 ≡ Some first = search rules in
    let other : is_id_of first.id c.args.model ≡ false = search rules in
    first_other (entities_of c.args.old.now.models) (entities_of c.args.new.now.models) c.args.model c.args.rows.now first c.args.made.now.items c.args.made.now.items is other refl
