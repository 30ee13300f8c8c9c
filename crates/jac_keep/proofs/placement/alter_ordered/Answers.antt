use Rattle.std.proofs.Common.{sym, ◌∙◌}
use Rattle.jac_keep.proofs.OpeningLaws.{own-of_model, altered-of_model}
use Rattle.jac_keep.proofs.placement.alter_ordered.Goals as goal

pub place_each-requires-clause-own : goal.place_each-requires-clause-own
place_each-requires-clause-own c = rw c.in_ok-news.ensures.news (own-of_model c.args.model c.args.changed.now c.requires.own)

pub returns : goal.returns
returns c = c.place_each.ensures ∙ rw (c.in_ok-news.ensures.news, c.in_ok-news.ensures.rows) (sym (altered-of_model c.args.model c.args.changed.now c.args.rows.items))
