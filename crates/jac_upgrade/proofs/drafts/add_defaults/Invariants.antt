use Rattle.std.proofs.Common.{◌≡◌, ◌++◌, drop}
use Rattle.jac_lang.specs.Lookup.{fields_at}
use Rattle.jac_lang.specs.Mirror.{application_of}
use Rattle.jac_plain.specs.Records.{default_cells}
use Rattle.jac_upgrade.specs.Upgraded.{draft_of}
use Rattle.jac_upgrade.proofs.drafts.add_defaults.Given as goal

abbrev pub invariant-fields : goal.invariant-fields
invariant-fields l =
    let olds = (application_of l.old).models in
    let news = (application_of l.new).models in
    l.cells.items ++ default_cells news (drop l.field (fields_at news l.model)) ≡ draft_of olds news l.model l.fn.cells.items
