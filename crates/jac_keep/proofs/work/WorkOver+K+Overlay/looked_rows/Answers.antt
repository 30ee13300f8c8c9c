use Rattle.std.proofs.Common.{◌≡◌, ◌∙◌, sym, false, rules}
use Rattle.std.proofs.lemmas.Option.{IfSome_then}
use Rattle.jac_keep.specs.Alterations.{alters}
use Rattle.jac_keep.proofs.Forgotten.{rows_unaltered}
use Rattle.jac_keep.proofs.work.WorkOver+K+Overlay.looked_rows.Goals as goal

pub returns : goal.returns
returns g c =
    let none : alters c.args.model c.args.self.now.over ≡ false = search rules in
    IfSome_then c.held_rows.result c.held_rows.ensures (λ rows exact told. exact told.told ∙ sym (rows_unaltered c.args.model c.args.self.now.over _ none))
