-- What contracts see of an application's dispatcher.
use Rattle.jac_keep.specs.KeeperSeen.{KeeperSeen}
use Rattle.jac_lang.specs.Mirror.{application_of}
use Rattle.jac_serve_events.specs.Dispatcher.{DispatcherSeen}
use Rattle.jac_serve_events.specs.RunSeen.{run_counts}
use Rattle.jac_dispatch.specs.Answered.{DispatcherOf, dispatcher_of}
use Rattle.jac_dispatch.specs.declared.handler.AppDispatcher.{AppDispatcher}

-- What a dispatcher belongs to.
abbrev pub whose : {K L M : Type 0} → AppDispatcher K L M → DispatcherOf
whose dispatcher = record {
  app = application_of dispatcher.service.now;
  sessions = dispatcher.sessions.now;
  lazy = dispatcher.lazy;
  keeper = dispatcher.keeper.ghost_name;
  splits = dispatcher.splits.ghost_name;
  evaluations = dispatcher.evaluations.ghost_name;
}

-- What contracts see of a dispatcher, by what they see of its keeper.
abbrev pub dispatcher_seen : {K L M : Type 0} → (K → KeeperSeen) → AppDispatcher K L M →
    DispatcherSeen DispatcherOf
dispatcher_seen seen dispatcher = dispatcher_of (whose dispatcher) (seen dispatcher.keeper.now)
    (run_counts dispatcher.splits.now dispatcher.evaluations.now) dispatcher.viewer_caches.now
