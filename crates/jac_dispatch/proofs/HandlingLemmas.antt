-- What a handler sends, as an answer.
use Rattle.std.proofs.Common.{◌≡◌, ◌∙◌, ap, sym, subst, refl, inl, inr, ℕ, ◌≤◌, ◌==◌, ◌||◌, ◌++◌, Bool, true, false, IsTrue, IsSome, Option, None, List, [], codes, decimal, arith}
use Rattle.std.specs.Str.{bytes_eq}
use Rattle.std.proofs.lemmas.Bool.Decides.{nat_tests}
use Rattle.jac_io.specs.Faults.{Rose}
use Rattle.jac_lang.specs.Syntax.{Application}
use Rattle.jac_keep.specs.declared.stop.Stop.{Stop}
use Rattle.jac_keep.specs.declared.stop.Stop.TheVariants as stops
use Rattle.jac_replies.specs.Refused.{refusal}
use Rattle.jac_engine.specs.Start.{IsStart}
use Rattle.jac_http.specs.declared.taken.Request.{Request}
use Rattle.jac_http.specs.declared.reply.Fixed.{Fixed}
use Rattle.jac_http.specs.Replies.{phrase_of, reply_bytes, status_of_fixed}
use Rattle.jac_hub.specs.declared.handler.Heard.TheVariants.{Whole, Refused}
use Rattle.jac_hub.specs.declared.sent.Sent.{Sent}
use Rattle.jac_hub.specs.declared.sent.Sent.TheVariants.{Made, Still}
use Rattle.jac_hub.specs.Channel.{sent_closes}
use Rattle.jac_hub.specs.Hearing.{refused}
use Rattle.jac_hub.specs.Refusals.{is_refusal}
use Rattle.jac_route.specs.declared.sessions.Session.{Session}
use Rattle.jac_dispatch.specs.declared.answer.RequestSource.TheVariants as ways
use Rattle.jac_replies.specs.declared.reply.Spelling.{Spelling}
use Rattle.jac_dispatch.specs.Asked.{request_in}
use Rattle.jac_replies.specs.Failed.{status_of_stop}
use Rattle.jac_serve_events.specs.AnswerSpec.{is_failure}
use Rattle.jac_dispatch.specs.Log.{refused_with}
use Rattle.jac_replies.specs.Spelled.{spelled_bytes, audit_text}
use Rattle.jac_engine.specs.Answers.{stores}
use Rattle.jac_serve_events.specs.RunSeen.{RunSeen}
use Rattle.jac_serve_events.specs.Outside.{span}
use Rattle.jac_dispatch.specs.Answered.{IsAnswerMade, IsRefusalSent, AreKeptFor, answer_spec_of}
use Rattle.jac_serve_events.specs.Serve.{Handles, sent_on, sent_audit}
use Rattle.jac_dispatch.proofs.EntryLemmas.{is_made, is_failed, is_wanting, is_refused, servable}

either : (a b : Bool) (P : Type 0) → (a || b) ≡ true → (a ≡ true → P) → (b ≡ true → P) → P
either true b P h f g = f refl
either false b P h f g = g h

phrase_400 : IsSome (phrase_of 400)
unfolding phrase_of
phrase_400 = refl

phrase_413 : IsSome (phrase_of 413)
unfolding phrase_of
phrase_413 = refl

phrase_415 : IsSome (phrase_of 415)
unfolding phrase_of
phrase_415 = refl

phrase_431 : IsSome (phrase_of 431)
unfolding phrase_of
phrase_431 = refl

phrase_501 : IsSome (phrase_of 501)
unfolding phrase_of
phrase_501 = refl

phrase_at : (status n : ℕ) → IsSome (phrase_of n) → (status == n) ≡ true → IsSome (phrase_of status)
phrase_at status n some is =
    let same : n ≡ status = grind (arith, nat_tests) in
    subst (λ (m : ℕ). IsSome (phrase_of m)) same some

-- Each status of a refusal has its phrase.
pub refusal_phrase : (status : ℕ) → is_refusal status ≡ true → IsSome (phrase_of status)
refusal_phrase status named =
    either (status == 400 || status == 413 || status == 415 || status == 431) (status == 501) (IsSome (phrase_of status)) named
    (λ h. either (status == 400 || status == 413 || status == 415) (status == 431) (IsSome (phrase_of status)) h
    (λ h. either (status == 400 || status == 413) (status == 415) (IsSome (phrase_of status)) h
    (λ h. either (status == 400) (status == 413) (IsSome (phrase_of status)) h (phrase_at status 400 phrase_400) (phrase_at status 413 phrase_413))
    (phrase_at status 415 phrase_415))
    (phrase_at status 431 phrase_431))
    (phrase_at status 501 phrase_501)

refusal_goes_on : (status : ℕ) → is_refusal status ≡ true → (status == 500 || status == 503) ≡ false
refusal_goes_on status named = grind (arith, nat_tests)

-- A refused request gets its refusal, or the dispatcher was out of memory.
pub refused-handled : (spelling : Spelling) (lazy : Bool) (app : Application) (sessions : List Session) (k : RunSeen) (c status : ℕ) (sent : Sent) → is_refusal status ≡ true
    → (IsTrue k.keeper.tells → IsStart app k.keeper.state) → IsRefusalSent spelling c status sent → Handles spelling (answer_spec_of lazy app sessions) k c (Refused status) sent k
refused-handled spelling lazy app sessions k c status sent named start (inl is) = subst (λ (s : Sent). Handles spelling (answer_spec_of lazy app sessions) k c (Refused status) s k) (sym is) (
  refused_with status,
  record { line = refl; audit = λ n. refl; closing = sym (refusal_goes_on status named); entry = is_refused lazy app k status named start },
)
refused-handled spelling lazy app sessions k c status sent named start (inr is) = subst (λ (s : Sent). Handles spelling (answer_spec_of lazy app sessions) k c (Refused status) s k) (sym is) (
  refusal 500 None,
  record { line = refl; audit = λ n. refl; closing = refl; entry = is_wanting lazy app k (refused status) (inl refl) (λ worlds. inl refl) (λ w t. refl) start },
)

-- A request was answered.
pub request-handled : (spelling : Spelling) (lazy : Bool) (app : Application) (sessions : List Session) (a b : RunSeen) (c : ℕ) (request : Request) (reply audit : List ℕ) (sent : Sent)
    → IsAnswerMade lazy app (span a b) (ways.Connection c request.close spelling) (request_in app sessions request) reply audit
    → (IsTrue b.keeper.tells → IsTrue a.keeper.tells) → a.keeper.faults ≤ b.keeper.faults
    → sent ≡ Made reply audit false → Handles spelling (answer_spec_of lazy app sessions) a c (Whole request) sent b
request-handled spelling lazy app sessions a b c request reply audit sent made told later is = (
  made.answer,
  record {
    line = ap (sent_on spelling c) is ∙ made.reply_made;
    audit = λ n. ap (sent_audit n) is ∙ ap (λ (t : List ℕ). decimal n ++ t) made.audit_made;
    closing = ap sent_closes is ∙ sym (servable lazy app (request_in app sessions request) made.answer made.form).answered;
    entry = is_made lazy app (span a b) (ways.Connection c request.close spelling) (request_in app sessions request) request.close reply audit made told later;
  },
)

failed_bytes : (spelling : Spelling) (stop : Stop) (close : Bool) (c : ℕ) (head : Bool)
    → spelled_bytes spelling c (reply_bytes (status_of_stop stop) None None [] false head true)
    ≡ spelled_bytes spelling c (reply_bytes (status_of_stop stop) None None (refusal (status_of_stop stop) None).body false head (close || is_failure (refusal (status_of_stop stop) None)))
failed_bytes spelling stops.Keeper true c head = refl
failed_bytes spelling stops.Keeper false c head = refl
failed_bytes spelling stops.Memory true c head = refl
failed_bytes spelling stops.Memory false c head = refl

failed_closes : (stop : Stop) → true ≡ is_failure (refusal (status_of_stop stop) None)
failed_closes stops.Keeper = refl
failed_closes stops.Memory = refl

-- A request wasn't answered.
pub failed-handled : (spelling : Spelling) (lazy : Bool) (app : Application) (sessions : List Session) (a b : RunSeen) (c : ℕ) (request : Request) (stop : Stop) (status : Fixed) (head : Bool) (viewer : Option ℕ)
    → status_of_fixed status ≡ status_of_stop stop → head ≡ bytes_eq request.method (codes "HEAD") → viewer ≡ (request_in app sessions request).viewer
    → (IsTrue b.keeper.tells → b.keeper.state ≡ a.keeper.state) → (stores app (request_in app sessions request) ≡ false → b.splits ≡ a.splits)
    → (IsTrue b.keeper.tells → IsTrue a.keeper.tells) → (IsTrue a.keeper.tells → IsStart app a.keeper.state)
    → a.keeper.faults ≤ b.keeper.faults → (stop ≡ stops.Keeper → Rose a.keeper.faults b.keeper.faults)
    → AreKeptFor (request_in app sessions request).viewer a.viewer_caches b.viewer_caches
    → Handles spelling (answer_spec_of lazy app sessions) a c (Whole request) (Still status head viewer) b
failed-handled spelling lazy app sessions a b c request stop status head viewer is is_head looks same reading told start later rose kept = (
  refusal (status_of_stop stop) None,
  record {
    line =
        ap (λ (s : ℕ). spelled_bytes spelling c (reply_bytes s None None [] false head true)) is
        ∙ failed_bytes spelling stop request.close c head
        ∙ ap (λ (h : Bool). spelled_bytes spelling c (reply_bytes (status_of_stop stop) None None (refusal (status_of_stop stop) None).body false h (request.close || is_failure (refusal (status_of_stop stop) None)))) is_head;
    audit = λ n. ap (λ (s : ℕ). audit_text n s viewer None None) is ∙ ap (λ (v : Option ℕ). audit_text n (status_of_stop stop) v None None) looks;
    closing = failed_closes stop;
    entry = is_failed lazy app (span a b) (request_in app sessions request) request.close stop same reading told start later rose kept;
  },
)
