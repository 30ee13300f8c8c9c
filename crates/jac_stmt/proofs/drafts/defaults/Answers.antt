use Rattle.std.proofs.Common.{rules}
use Rattle.jac_lang.specs.Lookup.{fields_at}
use Rattle.jac_lang.specs.Mirror.{application_of}
use Rattle.jac_stmt.proofs.DraftLaws.{default-next}
use Rattle.jac_stmt.proofs.drafts.defaults.Goals as goal

pub fields-preserved : goal.fields-preserved
fields-preserved c =
    let models = (application_of c.args.app.now).models in (
      search rules,
      λ w.
          default-next models (fields_at models c.args.model) c.fields.field c.fields.made.items w c.push.new.self.items c.leaf.result
          (search rules) c.in_ok-push.ensures.items (search rules) (c.fields.invariant.1 w),
    )
