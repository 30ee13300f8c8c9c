use Rattle.std.proofs.Common.{◌≡◌, ◌+◌, drop}
use Rattle.jac_keep.specs.Alterations.{brought}
use Rattle.jac_keep.proofs.placement.count_brought.Given as goal

abbrev pub invariant-news : goal.invariant-news
invariant-news l = l.count + brought (drop l.alteration-index l.news) ≡ brought l.news
