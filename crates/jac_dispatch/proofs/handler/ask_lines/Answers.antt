use Rattle.jac_dispatch.proofs.ViewerEntryLaws.{kept_fewer}
use Rattle.jac_dispatch.proofs.handler.ask_lines.Goals as goal

pub returns-in_err-ask-clause-cached : goal.returns-in_err-ask-clause-cached
returns-in_err-ask-clause-cached g c =
    let caches = c.args.dispatcher.now.viewer_caches.now in
    kept_fewer _ caches caches (λ s is. is)
