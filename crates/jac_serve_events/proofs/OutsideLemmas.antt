-- Puts, one after another.
use Rattle.std.proofs.Common.{◌≡◌, ◌≤◌, ◌∙◌, ap, sym, subst, refl, inl, inr, ℕ, Bool, true, false, IsTrue, OnErr, Result, Ok, Err, arith, List, [], ◌++◌, append_assoc, append-nil}
use Rattle.jac_io.specs.Faults.{Rose}
use Rattle.jac_io.specs.Put.{AddsPrefix}
use Rattle.jac_io.specs.Seen.{SinkSeen, Lasts}
use Rattle.jac_io.specs.declared.sink.Failed.{Failed}
use Rattle.jac_serve_events.specs.declared.outputs.FailedSink.{FailedSink}
use Rattle.jac_serve_events.specs.declared.outputs.FailedSink.TheVariants as losses
use Rattle.jac_serve_events.specs.Outside.{Span, span, Took, IsFront, Put, IsPut, PutBoth, FaultedAt, Sinks, sinks, Went, WentWith, WentTo, HasFaulted, AWriteFailed}

-- A put that failed left a prefix of its bytes.
pub torn_put : (tells : Bool) (before after bytes : List ℕ) → (IsTrue tells → AddsPrefix before after bytes)
    → (put : List ℕ) × (IsTrue tells → after ≡ before ++ put) × IsFront put bytes
torn_put true before after bytes h = let adds = h refl in (adds.appended, λ told. adds.now, (adds.left, adds.parts))
torn_put false before after bytes h = ([], λ told. absurd cc, (bytes, refl))

-- No step of a sink. Below, two steps.
pub Lasts-none : (a : SinkSeen) → Lasts a a
Lasts-none a = record { later = omega arith; told = λ told. told; same_aims = λ told. refl }

pub Lasts-then : (a b c : SinkSeen) → Lasts a b → Lasts b c → Lasts a c
Lasts-then a b c one two = record {
  later = omega (arith, one.later, two.later);
  told = λ told. one.told (two.told told);
  same_aims = λ told. two.same_aims told ∙ one.same_aims (two.told told);
}

pub Took-none : (a : SinkSeen) → Took (span a a) []
Took-none a = λ told. sym (append-nil a.held)

pub Took-then : (a b c : SinkSeen) (first second : List ℕ) → (IsTrue c.tells → IsTrue b.tells) → Took (span a b) first → Took (span b c) second → Took (span a c) (first ++ second)
Took-then a b c first second back one two = λ told.
    two told ∙ ap (λ (held : List ℕ). held ++ second) (one (back told)) ∙ append_assoc a.held first second

pub Rose-widen : (a b c d : ℕ) → a ≤ b → c ≤ d → Rose b c → Rose a d
Rose-widen a b c d before after rose = omega (arith, before, after, rose)

pub IsFront-append : (front bytes more : List ℕ) → IsFront front bytes → IsFront front (bytes ++ more)
IsFront-append front bytes more h = (h.0 ++ more, ap (λ (b : List ℕ). b ++ more) h.1 ∙ append_assoc front h.0 more)

pub append-IsFront : (done front bytes : List ℕ) → IsFront front bytes → IsFront (done ++ front) (done ++ bytes)
append-IsFront done front bytes h = (h.0, ap (λ (b : List ℕ). done ++ b) h.1 ∙ sym (append_assoc done front h.0))

Put-then : (E : Type 0) (first second one two : List ℕ) (result : Result (Unit {0}) E) → one ≡ first → Put second two result → Put (first ++ second) (one ++ two) result
Put-then E first second one two (Ok done) whole h = ap (λ (b : List ℕ). b ++ two) whole ∙ ap (λ (b : List ℕ). first ++ b) h
Put-then E first second one two (Err e) whole h =
    subst (λ (b : List ℕ). IsFront (b ++ two) (first ++ second)) (sym whole) (append-IsFront first two second h)

rose_later : (E : Type 0) (a b c : ℕ) (result : Result (Unit {0}) E) → a ≤ b → OnErr result (Rose b c) → OnErr result (Rose a c)
rose_later E a b c (Ok done) later h = tt
rose_later E a b c (Err e) later h = Rose-widen a b c c later (omega arith) h

-- A put that succeeded, followed by another.
pub IsPut-then : (E : Type 0) (a b c : SinkSeen) (first second : List ℕ) (done : Unit {0}) (result : Result (Unit {0}) E)
    → IsPut {E = E} (span a b) first (Ok done) → IsPut (span b c) second result → IsPut (span a c) (first ++ second) result
IsPut-then E a b c first second done result one two = record {
  put = one.put ++ two.put;
  lasts = Lasts-then a b c one.lasts two.lasts;
  took = Took-then a b c one.put two.put two.lasts.told one.took two.took;
  is_put = Put-then E first second one.put two.put result one.is_put two.is_put;
  rose = rose_later E a.faults b.faults c.faults result one.lasts.later two.rose;
}

-- A torn put, after which nothing is put.
pub IsPut-torn : (E : Type 0) (sink : Span SinkSeen) (first second : List ℕ) (failed : E) → IsPut {E = E} sink first (Err failed) → IsPut {E = E} sink (first ++ second) (Err failed)
IsPut-torn E sink first second failed one = record {
  put = one.put;
  lasts = one.lasts;
  took = one.took;
  is_put = IsFront-append one.put first second one.is_put;
  rose = one.rose;
}

pub failed_later : (one two : Sinks) → one.out.before.faults ≤ two.out.before.faults → one.audit.before.faults ≤ two.audit.before.faults
    → two.out.after.faults ≤ one.out.after.faults → two.audit.after.faults ≤ one.audit.after.faults → AWriteFailed two → AWriteFailed one
failed_later one two out_before audit_before out_after audit_after (inl rose) = inl (Rose-widen _ _ _ _ out_before out_after rose)
failed_later one two out_before audit_before out_after audit_after (inr rose) = inr (Rose-widen _ _ _ _ audit_before audit_after rose)

-- What failed in a part failed in the whole.
pub record FailsWithin (all part : Sinks) : Type 0 where
  pub out : HasFaulted part.out → HasFaulted all.out
  pub audit : HasFaulted part.audit → HasFaulted all.audit

-- The last part of the whole.
pub fails_behind : (out_a out_b out_c audit_a audit_b audit_c : SinkSeen) → out_a.faults ≤ out_b.faults → audit_a.faults ≤ audit_b.faults
    → FailsWithin (sinks out_a out_c audit_a audit_c) (sinks out_b out_c audit_b audit_c)
fails_behind out_a out_b out_c audit_a audit_b audit_c out_later audit_later = record {
  out = λ rose. Rose-widen out_a.faults out_b.faults out_c.faults out_c.faults out_later (omega arith) rose;
  audit = λ rose. Rose-widen audit_a.faults audit_b.faults audit_c.faults audit_c.faults audit_later (omega arith) rose;
}

pub faulted_within : (all part : Sinks) (lost : FailedSink) → FailsWithin all part → FaultedAt lost part → FaultedAt lost all
faulted_within all part losses.Out within fault = within.out fault
faulted_within all part losses.Audit within fault = within.audit fault

pub faulted_failed : (s : Sinks) (lost : FailedSink) → FaultedAt lost s → AWriteFailed s
faulted_failed s losses.Out fault = inl fault
faulted_failed s losses.Audit fault = inr fault

-- The audit line failed, and nothing was put on `out`.
pub Went-line : (out audit_before audit_after : SinkSeen) (reply line : List ℕ) (failed : Failed)
    → IsPut {E = Failed} (span audit_before audit_after) line (Err failed) → WentWith (sinks out out audit_before audit_after) (PutBoth reply line (Err losses.Audit))
Went-line out audit_before audit_after reply line failed put = record {
  out = [];
  audit = put.put;
  out_lasts = Lasts-none out;
  audit_lasts = put.lasts;
  out_took = Took-none out;
  audit_took = put.took;
  holds = record { torn = (refl, put.is_put); fault = put.rose };
}

-- The audit line was put, and the reply failed.
pub Went-reply : (out_before out_after audit_before audit_after : SinkSeen) (reply line : List ℕ) (done : Unit {0}) (failed : Failed)
    → IsPut {E = Failed} (span audit_before audit_after) line (Ok done) → IsPut {E = Failed} (span out_before out_after) reply (Err failed)
    → WentWith (sinks out_before out_after audit_before audit_after) (PutBoth reply line (Err losses.Out))
Went-reply out_before out_after audit_before audit_after reply line done failed put_line put = record {
  out = put.put;
  audit = put_line.put;
  out_lasts = put.lasts;
  audit_lasts = put_line.lasts;
  out_took = put.took;
  audit_took = put_line.took;
  holds = record { torn = (put.is_put, put_line.is_put); fault = put.rose };
}

pub Went-both : (out_before out_after audit_before audit_after : SinkSeen) (reply line : List ℕ) (done also : Unit {0})
    → IsPut {E = Failed} (span audit_before audit_after) line (Ok done) → IsPut {E = Failed} (span out_before out_after) reply (Ok also)
    → WentWith (sinks out_before out_after audit_before audit_after) (PutBoth reply line (Ok tt))
Went-both out_before out_after audit_before audit_after reply line done also put_line put = record {
  out = put.put;
  audit = put_line.put;
  out_lasts = put.lasts;
  audit_lasts = put_line.lasts;
  out_took = put.took;
  audit_took = put_line.took;
  holds = (put.is_put, put_line.is_put);
}

-- A consequence of the bytes that were put.
pub Went-on : (s : Sinks) (P Q : List ℕ → List ℕ → Type 0) → ((out audit : List ℕ) → P out audit → Q out audit) → Went s P → Went s Q
Went-on s P Q f went = record {
  out = went.out;
  audit = went.audit;
  out_lasts = went.out_lasts;
  audit_lasts = went.audit_lasts;
  out_took = went.out_took;
  audit_took = went.audit_took;
  holds = f went.out went.audit went.holds;
}

-- Nothing was put.
pub Went-none : (out audit : SinkSeen) (P : List ℕ → List ℕ → Type 0) → P [] [] → Went (sinks out out audit audit) P
Went-none out audit P h = record {
  out = [];
  audit = [];
  out_lasts = Lasts-none out;
  audit_lasts = Lasts-none audit;
  out_took = Took-none out;
  audit_took = Took-none audit;
  holds = h;
}

-- Two steps in a row put their bytes one after the other.
pub Went-then : (out_a out_b out_c audit_a audit_b audit_c : SinkSeen) (P Q R : List ℕ → List ℕ → Type 0)
    → ((o a p b : List ℕ) → P o a → Q p b → R (o ++ p) (a ++ b))
    → Went (sinks out_a out_b audit_a audit_b) P → Went (sinks out_b out_c audit_b audit_c) Q → Went (sinks out_a out_c audit_a audit_c) R
Went-then out_a out_b out_c audit_a audit_b audit_c P Q R f one two = record {
  out = one.out ++ two.out;
  audit = one.audit ++ two.audit;
  out_lasts = Lasts-then out_a out_b out_c one.out_lasts two.out_lasts;
  audit_lasts = Lasts-then audit_a audit_b audit_c one.audit_lasts two.audit_lasts;
  out_took = Took-then out_a out_b out_c one.out two.out two.out_lasts.told one.out_took two.out_took;
  audit_took = Took-then audit_a audit_b audit_c one.audit two.audit two.audit_lasts.told one.audit_took two.audit_took;
  holds = f one.out one.audit two.out two.audit one.holds two.holds;
}

-- A step that puts nothing, before one that may.
pub Went-after : (out_a out_b out_c audit_a audit_b : SinkSeen) (P Q : List ℕ → List ℕ → Type 0) → Lasts out_a out_b → Took (span out_a out_b) [] → ((out audit : List ℕ) → P out audit → Q out audit)
    → Went (sinks out_b out_c audit_a audit_b) P → Went (sinks out_a out_c audit_a audit_b) Q
Went-after out_a out_b out_c audit_a audit_b P Q lasts took f went = record {
  out = went.out;
  audit = went.audit;
  out_lasts = Lasts-then out_a out_b out_c lasts went.out_lasts;
  audit_lasts = went.audit_lasts;
  out_took = Took-then out_a out_b out_c [] went.out went.out_lasts.told took went.out_took;
  audit_took = went.audit_took;
  holds = f went.out went.audit went.holds;
}

-- Nothing was put on either sink.
pub Went-quiet : (out_a out_b audit : SinkSeen) (P : List ℕ → List ℕ → Type 0) → Lasts out_a out_b → Took (span out_a out_b) [] → P [] [] → Went (sinks out_a out_b audit audit) P
Went-quiet out_a out_b audit P lasts took h = record {
  out = [];
  audit = [];
  out_lasts = lasts;
  audit_lasts = Lasts-none audit;
  out_took = took;
  audit_took = Took-none audit;
  holds = h;
}

-- The same for one sink.
pub WentTo-none : (sink : SinkSeen) (P : List ℕ → Type 0) → P [] → WentTo (span sink sink) P
WentTo-none sink P h = record { put = []; lasts = Lasts-none sink; took = Took-none sink; holds = h }

pub WentTo-on : (sink : Span SinkSeen) (P Q : List ℕ → Type 0) → ((put : List ℕ) → P put → Q put) → WentTo sink P → WentTo sink Q
WentTo-on sink P Q f went = record { put = went.put; lasts = went.lasts; took = went.took; holds = f went.put went.holds }

pub WentTo-then : (a b c : SinkSeen) (P Q R : List ℕ → Type 0) → ((o p : List ℕ) → P o → Q p → R (o ++ p)) → WentTo (span a b) P → WentTo (span b c) Q → WentTo (span a c) R
WentTo-then a b c P Q R f one two = record {
  put = one.put ++ two.put;
  lasts = Lasts-then a b c one.lasts two.lasts;
  took = Took-then a b c one.put two.put two.lasts.told one.took two.took;
  holds = f one.put two.put one.holds two.holds;
}

-- For two sinks, what went to the second.
pub Went-second : (s : Sinks) (P : List ℕ → List ℕ → Type 0) (Q : List ℕ → Type 0) → ((out audit : List ℕ) → Took s.out out → P out audit → Q audit) → Went s P → WentTo s.audit Q
Went-second s P Q f went = record { put = went.audit; lasts = went.audit_lasts; took = went.audit_took; holds = f went.out went.audit went.out_took went.holds }
