use Rattle.std.proofs.lemmas.Bool.Decides.{Decides-eqb}
use Rattle.std.proofs.lemmas.Slice.Eq.{slice_eq-Decides}
use Rattle.jac_lazy.proofs.page.are_same.Goals as goal

pub returns : goal.returns
returns c same = (slice_eq-Decides Decides-eqb c.args.one.now c.args.other.now c.eq.result c.eq.ensures).0 same
