use Rattle.std.proofs.Common.{rules}
use Rattle.jac_forms.specs.Places.{path_of}
use Rattle.jac_forms.proofs.Upward.{upward-start, upward-step}
use Rattle.jac_forms.proofs.place.Place.path.Goals as goal

pub up-init : goal.up-init
up-init c = upward-start (path_of c.args.self.now) c.new-numbers.result.items c.new-numbers.ensures.items

pub up-preserved : goal.up-preserved
up-preserved c = upward-step (path_of c.in-Child.up.now) (path_of c.args.self.now) c.up.numbers.items c.push.new.self.items _ c.in_ok-push.ensures.items (search rules)
