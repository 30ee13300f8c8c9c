use Rattle.std.proofs.Common.{◌∙◌, ap}
use Rattle.std.specs.Option.{unwrap_or}
use Rattle.jac_http.specs.Shown.{parts_shown}
use Rattle.jac_http.proofs.Lengths.{unrefused_length}
use Rattle.jac_http.proofs.take.body_length.Goals as goal

pub returns : goal.returns
returns c =
    c.unwrap_or.ensures ∙ ap (λ o. unwrap_or o 0) c.in_ok-length.ensures
    ∙ unrefused_length (parts_shown c.args.head.now) c.requires
