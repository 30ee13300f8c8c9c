use Rattle.std.proofs.Common.{refl}
use Rattle.std.specs.Fmt.{digits}
use Rattle.jac_semantics_examples.proofs.pages.answers_requests.Goals as goal

pub returns-clause-books : goal.returns-clause-books
unfolding digits
returns-clause-books c = refl

pub returns-clause-no_books : goal.returns-clause-no_books
unfolding digits
returns-clause-no_books c = refl

pub returns-clause-parameter : goal.returns-clause-parameter
unfolding digits
returns-clause-parameter c = refl
