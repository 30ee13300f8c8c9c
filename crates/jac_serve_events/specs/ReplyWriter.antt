-- What contracts see of a reply writer, and what its calls keep.
use Rattle.std.specs.Prelude.{◌≡◌, IsTrue}
use Rattle.jac_io.specs.Seen.{SinkSeen}

-- Its identity, what was put there, and what else is seen of it.
pub record ReplyWriterSeen (O R : Type 0) : Type 0 where
  pub of : O
  pub sink : SinkSeen
  pub rest : R

-- Its identity is the same. If its contents are known, so is the rest.
pub record KeepsRest {O R : Type 0} (old new : ReplyWriterSeen O R) : Type 0 where
  pub same : new.of ≡ old.of
  pub rest : IsTrue new.sink.tells → new.rest ≡ old.rest

-- A text is a sink and nothing else.
abbrev pub text_seen : {O : Type 0} → (O → SinkSeen) → O → ReplyWriterSeen (Unit {0}) (Unit {0})
text_seen seen out = record { of = tt; sink = seen out; rest = tt }
