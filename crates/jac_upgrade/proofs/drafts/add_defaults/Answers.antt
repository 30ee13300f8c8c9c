use Rattle.std.proofs.Common.{◌≡◌, ◌<◌, ◌∙◌, ap, [], ◌∷◌, ◌++◌, length, rules}
use Rattle.jac_value.specs.Values.{default_value}
use Rattle.jac_lang.specs.Lookup.{fields_at}
use Rattle.jac_lang.specs.Mirror.{application_of}
use Rattle.jac_upgrade.specs.Upgraded.{draft_of}
use Rattle.jac_upgrade.proofs.Drafted.{default_pushed}
use Rattle.jac_upgrade.proofs.drafts.add_defaults.Goals as goal

pub fields-preserved : goal.fields-preserved
fields-preserved c =
    let olds = (application_of c.args.old.now).models in
    let news = (application_of c.args.new.now).models in
    let fields = fields_at news c.args.model in
    let made = c.fields.cells.items in
    let v = c.default_of.result in
    let below : c.fields.field < length fields = rw c.field_count-end.ensures at c.fields-test.true in
    let pushed : c.push.new.self.items ≡ made ++ v ∷ [] = search rules in
    default_pushed news fields c.fields.field made c.push.new.self.items (draft_of olds news c.args.model c.args.cells.now.items) v below pushed
    (c.default_of.ensures ∙ ap default_value c.kind_of-kind.ensures) c.fields.invariant
