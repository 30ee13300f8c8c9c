-- The contract of the top call gives the promise.
use Rattle.std.specs.Prelude.{ℕ, List}
use Rattle.jac_run_laws.specs.Replayed.{TopRun, IsTopRun}
use Rattle.jac_headline.proofs.Faithful.{headline}
use Rattle.jac_headline.proofs.Visits.{served_faithfully}
use Rattle.jac_reopen.specs.Reopened.{Supposed}
use Rattle.jac_main.specs.Start.{BeginsSupposed}
use Rattle.jac_main.specs.Promise.{KeepsPromise}
use Rattle.jac_main.proofs.Refused.{other_left}

pub promised : {L : Type 0} (s : Supposed) (words : List (List ℕ)) (top : TopRun L) → BeginsSupposed s words top.seen.keeper.before → IsTopRun words top → KeepsPromise s words top
promised s words top begins ran = record {
  begins = begins;
  ran = ran;
  replays = λ replay given is held told. headline words replay given top ran is held told;
  serves = λ serving is told. served_faithfully words serving top ran is told;
  other_store = other_left words top begins.unattached ran;
}
