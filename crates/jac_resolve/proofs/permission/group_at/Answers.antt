use Rattle.std.proofs.Common.{◌∙◌, ap, slice_get}
use Rattle.jac_lang.specs.Mirror.{groups_of}
use Rattle.jac_resolve.proofs.Standing.{group_got}
use Rattle.jac_resolve.proofs.permission.group_at.Goals as goal

pub returns : goal.returns
returns c =
    group_got c.args.groups.now c.from.result c.get.result c.get.ensures.lookup.3
    ∙ ap (slice_get (groups_of c.args.groups.now)) c.from.ensures
