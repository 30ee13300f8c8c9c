use Rattle.std.proofs.Common.{refl, inl, inr}
use Rattle.jac_lang.specs.Mirror.{application_of}
use Rattle.jac_command_base.proofs.AskedLemmas.{asks_before}
use Rattle.jac_command_base.proofs.startup.open_store.Goals as goal

pub returns-in-Err-clause-opens : goal.returns-in-Err-clause-opens
returns-in-Err-clause-opens g c = inl (record { ends = c.in-Err.ensures.ends; uncalled = refl; still = refl })

pub returns-in-Err-schema-clause-opens : goal.returns-in-Err-schema-clause-opens
returns-in-Err-schema-clause-opens g c = inl (record { ends = λ out audit keeper. tt; uncalled = refl; still = refl })

pub returns-in-Ok-begin-clause-opens : goal.returns-in-Ok-begin-clause-opens
returns-in-Ok-begin-clause-opens g c = record {
  read = c.in-Ok.ensures.read;
  aims = c.in-Ok-begin.ensures.aims;
  attaches = c.in-Ok-begin.ensures.attaches;
}

pub returns-in-Err-begin-clause-opens : goal.returns-in-Err-begin-clause-opens
returns-in-Err-begin-clause-opens g c = inr (record {
  app = application_of c.in-Ok.opened.service;
  sessions = c.in-Ok.opened.sessions;
  events = c.in-Ok.opened.events;
  read = c.in-Ok.ensures.read;
  halts = c.in-Err-begin.ensures;
})

pub returns-in-Err-schema-clause-asks : goal.returns-in-Err-schema-clause-asks
returns-in-Err-schema-clause-asks g c = asks_before _ _ _ _ (λ no. refl) c.in-Ok.ensures.asks

pub returns-in-Err-begin-clause-asks : goal.returns-in-Err-begin-clause-asks
returns-in-Err-begin-clause-asks g c = asks_before _ _ _ _ (λ no. refl) c.in-Ok.ensures.asks
