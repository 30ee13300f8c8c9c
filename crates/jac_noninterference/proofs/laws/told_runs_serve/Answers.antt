use Rattle.jac_noninterference.proofs.laws.told_runs_serve.Goals as goal

pub returns : goal.returns
returns c lazy early app sessions k events log served told = record {
  subjects = served.subjects;
  answered = served.entries.answered told;
  worlds = served.entries.worlds told;
  goes_on = served.entries.goes_on told;
  good = served.entries.good told;
}
