use Rattle.jac_lang.specs.Mirror.{application_of}
use Rattle.jac_plain.specs.Models.{shapes_of}
use Rattle.jac_command_base.proofs.attachment.attach.Goals as goal

pub returns-in-Ok-clause-attaches : goal.returns-in-Ok-clause-attaches
returns-in-Ok-clause-attaches g c = (
  rw c.requires.own at c.in-Ok.ensures,
  λ told. c.in-Ok.ensures.ok.fit told (shapes_of (application_of c.args.service.now)) c.requires.schema,
)
