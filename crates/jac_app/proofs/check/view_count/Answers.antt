use Rattle.std.proofs.Common.{◌∙◌, ap, sym, length}
use Rattle.jac_app_load.proofs.PlaceLaws.{length_pages}
use Rattle.jac_app.proofs.check.view_count.Goals as goal

pub returns : goal.returns
returns c = ap length c.as_slice.ensures ∙ sym (length_pages c.args.app.now.views)
