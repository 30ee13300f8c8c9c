-- How calls change what contracts see of an object, and what they write to outputs.
use Rattle.std.specs.Prelude.{◌≡◌, ◌≤◌, ◌⊎◌, ℕ, IsTrue, OnErr, Result, Ok, Err, List, [], ◌++◌}
use Rattle.jac_io.specs.Faults.{Rose}
use Rattle.jac_io.specs.Seen.{SinkSeen, Lasts}
use Rattle.jac_serve_events.specs.declared.outputs.FailedSink.{FailedSink}
use Rattle.jac_serve_events.specs.declared.outputs.FailedSink.TheVariants as losses

-- What is seen of an object before and after some calls.
pub record Span (X : Type 0) : Type 0 where
  pub before : X
  pub after : X

abbrev pub span : {X : Type 0} → X → X → Span X
span before after = record { before = before; after = after }

-- If the contents of the sink are still known, these bytes were added to them.
abbrev pub Took : Span SinkSeen → List ℕ → Type 0
Took sink bytes = IsTrue sink.after.tells → sink.after.held ≡ sink.before.held ++ bytes

-- A prefix of the bytes.
abbrev pub IsFront : List ℕ → List ℕ → Type 0
IsFront front bytes = (rest : List ℕ) × (bytes ≡ front ++ rest)

-- All of `bytes` was put, or a prefix of it if that failed.
abbrev pub Put : {E : Type 0} → List ℕ → List ℕ → Result (Unit {0}) E → Type 0
Put bytes put (Ok done) = put ≡ bytes
Put bytes put (Err failed) = IsFront put bytes

-- Bytes to put, whether or not the contents of the sink are known. A put fails only if the count of
-- faults rises.
pub record IsPut {E : Type 0} (sink : Span SinkSeen) (bytes : List ℕ) (result : Result (Unit {0})
    E) : Type 0 where
  pub put : List ℕ
  pub lasts : Lasts sink.before sink.after
  pub took : Took sink put
  pub is_put : Put bytes put result
  pub rose : OnErr result (Rose sink.before.faults sink.after.faults)

-- The sinks of the replies and of the audit lines.
pub record Sinks : Type 0 where
  pub out : Span SinkSeen
  pub audit : Span SinkSeen

abbrev pub sinks : SinkSeen → SinkSeen → SinkSeen → SinkSeen → Sinks
sinks out_before out_after audit_before audit_after = record {
  out = span out_before out_after;
  audit = span audit_before audit_after;
}

-- A call of a sink failed: its count of faults rose.
abbrev pub HasFaulted : Span SinkSeen → Type 0
HasFaulted sink = Rose sink.before.faults sink.after.faults

abbrev pub AWriteFailed : Sinks → Type 0
AWriteFailed s = HasFaulted s.out ⊎ HasFaulted s.audit

-- Some bytes went to the one sink and some to the other, and this holds for them. Neither sink was
-- aimed again.
pub record Went (s : Sinks) (Holds : List ℕ → List ℕ → Type 0) : Type 0 where
  pub out : List ℕ
  pub audit : List ℕ
  pub out_lasts : Lasts s.out.before s.out.after
  pub audit_lasts : Lasts s.audit.before s.audit.after
  pub out_took : Took s.out out
  pub audit_took : Took s.audit audit
  pub holds : Holds out audit

-- The same, if what holds depends on the sinks too.
abbrev pub WentWith : Sinks → (Sinks → List ℕ → List ℕ → Type 0) → Type 0
WentWith s Holds = Went s (Holds s)

-- Some bytes went to one sink, which wasn't aimed again, and this holds for them.
pub record WentTo (sink : Span SinkSeen) (Holds : List ℕ → Type 0) : Type 0 where
  pub put : List ℕ
  pub lasts : Lasts sink.before sink.after
  pub took : Took sink put
  pub holds : Holds put

-- A reply was lost. Its audit line is put before it. Either that line was put whole and the reply
-- failed, or the line failed and nothing of the reply was put.
abbrev pub IsLostOn : FailedSink → List ℕ → List ℕ → List ℕ → List ℕ → Type 0
IsLostOn losses.Out reply line out audit = IsFront out reply × (audit ≡ line)
IsLostOn losses.Audit reply line out audit = (out ≡ []) × IsFront audit line

-- A call failed on the sink on which it was lost.
abbrev pub FaultedAt : FailedSink → Sinks → Type 0
FaultedAt losses.Out s = HasFaulted s.out
FaultedAt losses.Audit s = HasFaulted s.audit

pub record IsLostAt (lost : FailedSink) (reply line : List ℕ) (s : Sinks)
    (out audit : List ℕ) : Type 0
  where
    pub torn : IsLostOn lost reply line out audit
    pub fault : FaultedAt lost s

-- A reply is put on one sink, after its audit line was put on the other.
abbrev pub PutBoth : List ℕ → List ℕ → Result (Unit {0}) FailedSink → Sinks → List ℕ → List ℕ → Type
    0
PutBoth reply line (Ok done) s out audit = (out ≡ reply) × (audit ≡ line)
PutBoth reply line (Err lost) s out audit = IsLostAt lost reply line s out audit

-- Some bytes went to the one sink and some to the other, and this holds for them. The audit may
-- have been aimed.
pub record WentAimed (s : Sinks) (Holds : List ℕ → List ℕ → Type 0) : Type 0 where
  pub out : List ℕ
  pub audit : List ℕ
  pub out_lasts : Lasts s.out.before s.out.after
  pub audit_later : s.audit.before.faults ≤ s.audit.after.faults
  pub out_took : Took s.out out
  pub audit_took : Took s.audit audit
  pub holds : Holds out audit
