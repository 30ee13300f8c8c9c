-- Subjects that are answered one after another.
use Rattle.std.proofs.Common.{◌≡◌, ◌∙◌, ap, sym, subst, refl, ℕ, ◌+◌, ◌&&◌, not, Bool, true, false, IsTrue, Option, List, [], ◌∷◌, ◌++◌, inl, inr, arith}
use Rattle.std.proofs.lemmas.Bool.{and_from, and_parts}
use Rattle.jac_lang.specs.Syntax.{Application}
use Rattle.jac_rows.specs.Project.{project_at}
use Rattle.jac_rows.specs.declared.plain.PlainState.{PlainState}
use Rattle.jac_plain.specs.Requests.{Worlds}
use Rattle.jac_engine.specs.Start.{IsStart}
use Rattle.jac_serve_events.specs.RunSeen.{Grew, RunSeen}
use Rattle.jac_serve_events.specs.AnswerSpec.{LogEntry, is_failure}
use Rattle.jac_serve_events.specs.Log.{viewer_of_subject}
use Rattle.jac_dispatch.specs.Log.{AreFormed, AreAnswered, after_entry, after_log, is_unstored, is_unsplit, faults_in}
use Rattle.jac_serve_events.specs.Outside.{Span, span}
use Rattle.jac_viewer_caches.specs.CacheEntries.{entry_of}
use Rattle.jac_viewer_caches.specs.declared.viewer_caches.ViewerEntry.{ViewerEntry}
use Rattle.jac_dispatch.specs.Answered.{IsEntryOf, AreEntries, HasNoCache, AreKeptFor, HasNoEntry, AreAnsweredInTurn, IsFewInTurn, AreFewAtFirst}
use Rattle.jac_plain.specs.Shown.{worlds_of}

after_log-append : (w : ℕ → Bool) (app : Application) (xs ys : List LogEntry) (t : PlainState) → after_log w app (xs ++ ys) t ≡ after_log w app ys (after_log w app xs t)
after_log-append w app [] ys t = refl
after_log-append w app (x ∷ xs) ys t = after_log-append w app xs ys (after_entry w app x t)

formed-append : (lazy : Bool) (app : Application) (xs ys : List LogEntry) → AreFormed lazy app xs → AreFormed lazy app ys → AreFormed lazy app (xs ++ ys)
formed-append lazy app [] ys one two = two
formed-append lazy app (x ∷ xs) ys one two = (one.0, formed-append lazy app xs ys one.1 two)

answered-append : (lazy : Bool) (app : Application) (worlds : Worlds) (xs ys : List LogEntry)
    → AreAnswered lazy app worlds xs → AreAnswered lazy app (λ w. after_log w app xs (worlds w)) ys → AreAnswered lazy app worlds (xs ++ ys)
answered-append lazy app worlds [] ys one two = two
answered-append lazy app worlds (x ∷ xs) ys one two = (one.0, answered-append lazy app (λ w. after_entry w app x (worlds w)) xs ys one.1 two)

-- If no answer of two logs together came with a change, none of either log did. The same holds for
-- splits.
unstored-append : (app : Application) (xs ys : List LogEntry) → is_unstored app (xs ++ ys) ≡ true → (is_unstored app xs ≡ true) × (is_unstored app ys ≡ true)
unstored-append app [] ys h = (refl, h)
unstored-append app (x ∷ xs) ys h =
    let parts = and_parts _ _ h in
    let rest = unstored-append app xs ys parts.1 in
    (and_from _ _ parts.0 rest.0, rest.1)

unsplit-append : (app : Application) (xs ys : List LogEntry) → is_unsplit app (xs ++ ys) ≡ true → (is_unsplit app xs ≡ true) × (is_unsplit app ys ≡ true)
unsplit-append app [] ys h = (refl, h)
unsplit-append app (x ∷ xs) ys h =
    let parts = and_parts _ _ h in
    let rest = unsplit-append app xs ys parts.1 in
    (and_from _ _ parts.0 rest.0, rest.1)

-- If no entry of a log of one entry has a property, the entry doesn't have it.
not_alone : (b : Bool) → (not b && true) ≡ true → b ≡ false
not_alone true h = absurd cc
not_alone false h = refl

faults_in-append : (xs ys : List LogEntry) → faults_in (xs ++ ys) ≡ faults_in xs + faults_in ys
faults_in-append [] ys = omega arith
faults_in-append (x ∷ xs) ys = omega (arith, faults_in-append xs ys)

grew_then : (before middle after one two : ℕ) → Grew before one middle → Grew middle two after → Grew before (one + two) after
grew_then before middle after one two first second = omega (arith, first, second)

-- ---- the first answer to each viewer

-- If the contents are known after some entries, they were known before them.
told_before : (lazy : Bool) (app : Application) (a c : RunSeen) (log : List LogEntry) → AreAnsweredInTurn lazy app a log c → IsTrue c.keeper.tells → IsTrue a.keeper.tells
told_before lazy app a c [] same told = subst (λ (k : RunSeen). IsTrue k.keeper.tells) same told
told_before lazy app a c (entry ∷ log) turn told = turn.1.told (told_before lazy app turn.0 c log turn.2 told)

-- An entry of another viewer leaves no cache for a viewer who had none.
none_after : (viewer other : Option ℕ) (before after : List ViewerEntry) → AreKeptFor other before after → ¬ (other ≡ viewer) → HasNoCache viewer before → HasNoCache viewer after
none_after viewer other before after kept differ nothing = record {
  none = λ cache is.
      elim (kept.each (entry_of viewer cache) is) [
        | inl same ↦ differ (sym same)
        | inr was ↦ nothing.none was.0 was.1
      ];
}

few_from : (lazy : Bool) (app : Application) (a c : RunSeen) (before later : List LogEntry) (entry : LogEntry) → AreAnsweredInTurn lazy app a (before ++ entry ∷ later) c
    → HasNoCache (viewer_of_subject entry.subject) a.viewer_caches → HasNoEntry (viewer_of_subject entry.subject) before → is_failure entry.answer ≡ false
    → (own : Span RunSeen) × IsFewInTurn lazy app (span a c) own before entry later
few_from lazy app a c [] later entry turn nothing none answered = (
  span a turn.0,
  record {
    earlier = refl;
    answered = turn.1;
    behind = turn.2;
    few = λ eager told. (turn.1.bounded answered).few eager (told_before lazy app turn.0 c later turn.2 told) nothing;
  },
)
few_from lazy app a c (x ∷ before) later entry turn nothing none answered =
    let viewer = viewer_of_subject entry.subject in
    let after = none_after viewer (viewer_of_subject x.subject) a.viewer_caches turn.0.viewer_caches turn.1.kept none.0 nothing in
    let rest = few_from lazy app turn.0 c before later entry turn.2 after none.1 answered in (
      rest.0,
      record { earlier = (turn.0, turn.1, rest.1.earlier); answered = rest.1.answered; behind = rest.1.behind; few = rest.1.few },
    )

pub few_at_first : (lazy : Bool) (app : Application) (a c : RunSeen) (log : List LogEntry) → AreAnsweredInTurn lazy app a log c → AreFewAtFirst lazy app (span a c) log
few_at_first lazy app a c log turn = record {
  each = λ before later entry parts nothing none answered.
      few_from lazy app a c before later entry (subst (λ (l : List LogEntry). AreAnsweredInTurn lazy app a l c) parts turn) nothing none answered;
}

pub in_turn-append : (lazy : Bool) (app : Application) (a b c : RunSeen) (xs ys : List LogEntry)
    → AreAnsweredInTurn lazy app a xs b → AreAnsweredInTurn lazy app b ys c → AreAnsweredInTurn lazy app a (xs ++ ys) c
in_turn-append lazy app a b c [] ys one two = subst (λ (k : RunSeen). AreAnsweredInTurn lazy app k ys c) one two
in_turn-append lazy app a b c (x ∷ xs) ys one two = (one.0, one.1, in_turn-append lazy app one.0 b c xs ys one.2 two)

-- ---- entries

pub entries-none : (lazy : Bool) (app : Application) (a : RunSeen) → (IsTrue a.keeper.tells → IsStart app a.keeper.state) → AreEntries lazy app (span a a) []
entries-none lazy app a start = record {
  formed = tt;
  told = λ told. told;
  answered = λ told. tt;
  worlds = λ told w. refl;
  goes_on = start;
  good = λ told good. good;
  unstored = λ told none. refl;
  unsplit = λ none. refl;
  in_turn = refl;
  few = few_at_first lazy app a a [] refl;
  faults = omega arith;
}

pub entries-one : (lazy : Bool) (app : Application) (a b : RunSeen) (entry : LogEntry)
    → IsEntryOf lazy app (span a b) entry.subject entry.answer → AreEntries lazy app (span a b) (entry ∷ [])
entries-one lazy app a b entry one = record {
  formed = (one.formed, tt);
  told = one.told;
  answered = λ told. (one.answered told, tt);
  worlds = one.worlds;
  goes_on = one.goes_on;
  good = one.good;
  unstored = λ told none. one.unstored told (not_alone _ none);
  unsplit = λ none. one.unsplit (not_alone _ none);
  in_turn = (b, one, refl);
  few = few_at_first lazy app a b (entry ∷ []) (b, one, refl);
  faults = let f = one.faults in omega (arith, f);
}

-- The worlds of a state are those that the log before it leaves.
worlds_before : (app : Application) (a b : RunSeen) (log : List LogEntry)
    → ((w : ℕ → Bool) → project_at w b.keeper.state ≡ after_log w app log (project_at w a.keeper.state))
    → worlds_of b.keeper.state ≡ (λ (w : ℕ → Bool). after_log w app log (project_at w a.keeper.state))
worlds_before app a b log same = λ i w. same w i

pub entries-then : (lazy : Bool) (app : Application) (a b c : RunSeen) (xs ys : List LogEntry)
    → AreEntries lazy app (span a b) xs → AreEntries lazy app (span b c) ys → AreEntries lazy app (span a c) (xs ++ ys)
entries-then lazy app a b c xs ys one two = record {
  formed = formed-append lazy app xs ys one.formed two.formed;
  told = λ told. one.told (two.told told);
  answered = λ told.
      let before = two.told told in
      answered-append lazy app (worlds_of a.keeper.state) xs ys (one.answered before)
      (subst (λ (worlds : Worlds). AreAnswered lazy app worlds ys) (worlds_before app a b xs (one.worlds before)) (two.answered told));
  worlds = λ told w.
      two.worlds told w
      ∙ ap (λ (t : PlainState). after_log w app ys t) (one.worlds (two.told told) w)
      ∙ sym (after_log-append w app xs ys (project_at w a.keeper.state));
  goes_on = two.goes_on;
  good = λ told good. two.good told (one.good (two.told told) good);
  unstored = λ told none.
      let parts = unstored-append app xs ys none in
      two.unstored told parts.1 ∙ one.unstored (two.told told) parts.0;
  unsplit = λ none.
      let parts = unsplit-append app xs ys none in
      two.unsplit parts.1 ∙ one.unsplit parts.0;
  in_turn = in_turn-append lazy app a b c xs ys one.in_turn two.in_turn;
  few = few_at_first lazy app a c (xs ++ ys) (in_turn-append lazy app a b c xs ys one.in_turn two.in_turn);
  faults =
      subst (λ (n : ℕ). Grew a.keeper.faults n c.keeper.faults) (sym (faults_in-append xs ys))
      (grew_then a.keeper.faults b.keeper.faults c.keeper.faults (faults_in xs) (faults_in ys) one.faults two.faults);
}
