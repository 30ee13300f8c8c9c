use Rattle.std.proofs.Common.{List, ◌∙◌, ap, get_or, rules}
use Rattle.jac_lang.specs.declared.pages.View.{View}
use Rattle.jac_lang.specs.Mirror.{statements_of}
use Rattle.jac_lazy.proofs.Viewed.{body_there}
use Rattle.jac_lazy.proofs.page.body_at.Goals as goal

pub returns : goal.returns
returns c =
    let d = c.index-as_slice-view.result in
    ap (λ (l : List View). statements_of (get_or l c.args.view d).body) c.as_slice.ensures ∙ body_there c.args.app.now.views c.args.view d (search rules)
