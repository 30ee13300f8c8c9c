use Rattle.std.proofs.Common.{◌≡◌, ◌≤◌, length, ◌∙◌, ◌++◌, drop, [], sym, append-nil, rules}
use Rattle.std.proofs.Math.ListN.{drop_of_length-le}
use Rattle.jac_keep.proofs.Gathered.{gathered, each_own}
use Rattle.jac_keep.proofs.gatherer.rows_of_ids.Goals as goal

pub returns : goal.returns
returns c =
    let ids = c.args.ids.now in
    let rows = c.args.rows.now in
    let past : length ids ≤ c.ids.id-index = search rules in
    let none : drop c.ids.id-index ids ≡ [] = drop_of_length-le ids past in
    let all : c.ids.found.items ++ gathered [] rows ≡ gathered ids rows = rw none at c.ids.invariant in
    c.from_vec.ensures ∙ sym (append-nil c.ids.found.items) ∙ all ∙ each_own ids rows c.requires.ascending c.requires.ordered
