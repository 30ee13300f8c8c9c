use Rattle.jac_plain.proofs.ReadingLaws.{reading_leaves_tables}
use Rattle.jac_plain.proofs.laws.reading_leaves_tables.Goals as goal

pub returns : goal.returns
returns c = reading_leaves_tables
