-- Two serves that got connections with the same input, connection by connection.
use Rattle.std.proofs.Common.{◌≡◌, ◌∙◌, ap, sym, subst, refl, inl, inr, ◌⊎◌, ℕ, ◌+◌, Bool, true, false, IsTrue, IsErr, Result, Ok, Err, Option, Some, None, List, [], ◌∷◌, ◌++◌, append-nil, length}
use Rattle.std.specs.List.{concat}
use Rattle.jac_io.specs.Faults.{Rose}
use Rattle.jac_io.specs.Linked.{LinkSeen}
use Rattle.jac_world.specs.World.{shown_by}
use Rattle.jac_lang.specs.Syntax.{Application}
use Rattle.jac_rows.specs.Project.{project_at}
use Rattle.jac_rows.specs.declared.state.State.{State}
use Rattle.jac_route.specs.declared.sessions.Session.{Session}
use Rattle.jac_replies.specs.declared.reply.Spelling.TheVariants as spellings
use Rattle.jac_serve_events.specs.AnswerSpec.{LogEntry, AnswerSpec}
use Rattle.jac_serve_events.specs.Log.{replies_on, reply_on, entry_on}
use Rattle.jac_serve_events.specs.RunSeen.{RunSeen}
use Rattle.jac_serve_events.specs.Outside.{Span, span}
use Rattle.jac_serve_events.specs.Serve.{IsServed as IsServedBy}
use Rattle.jac_connections.specs.Door.{LinkVisit, IsVisited, AreVisited}
use Rattle.jac_connections.specs.Link.{events_of, PutsLog}
use Rattle.jac_connections.specs.declared.link.Halt.{Halt}
use Rattle.jac_connections.specs.declared.link.Halt.TheVariants as halts
use Rattle.jac_dispatch.specs.Answered.{answer_spec_of}
use Rattle.jac_noninterference.specs.TwoRuns.{OneRun, IsRunServed, LookSame, NoneFailed, HaveSameSubjects, IsSameWhereShown, AreSameWhereShown, seen_answer, labels_of, LookSameFor}
use Rattle.jac_noninterference.proofs.SameAnswers.{seen_put}
use Rattle.jac_noninterference.proofs.SideBySide.{subjects_agree, pages_agree, ends_agree}
use Rattle.jac_run_laws.specs.Doors.{IsTakenWhole, AreTakenAlike, HoldsMore, HoldSameMore, IsLikeWhereShown, AreLikeWhereShown}
use Rattle.jac_run_laws.proofs.OneLink.{IsMoved, AreMoved, none_moved, IsLinkRun, link_run}

none_parts : (log others : List LogEntry) → NoneFailed (log ++ others) → NoneFailed log × NoneFailed others
none_parts [] others none = (tt, none)
none_parts (one ∷ log) others none = let rest = none_parts log others none.1 in ((none.0, rest.0), rest.1)

like_append : (start other : State) (log others more rest : List LogEntry) → AreLikeWhereShown start other log others → AreLikeWhereShown start other more rest
    → AreLikeWhereShown start other (log ++ more) (others ++ rest)
like_append start other [] [] more rest h k = k
like_append start other [] (two ∷ others) more rest h k = absurd h
like_append start other (one ∷ log) [] more rest h k = absurd h
like_append start other (one ∷ log) (two ∷ others) more rest h k = (h.0, like_append start other log others more rest h.1 k)

-- ---- from entries with other places to the entries of the log

like_entry : (start other s u : State) (one two x y : LogEntry) → IsMoved x one → IsMoved y two → x.source ≡ y.source → x.subject ≡ y.subject → IsSameWhereShown s u x y
    → ((w : ℕ → Bool) → LookSame w start other → LookSame w s u) → IsLikeWhereShown start other one two
like_entry start other s u one two x y m n source subject same still = record {
  source = sym m.source ∙ source ∙ n.source;
  subject = sym m.subject ∙ subject ∙ n.subject;
  refusal = λ none none'.
      ap seen_answer (sym m.answer)
      ∙ (same.refusal (ap (λ a. a.shown) m.answer ∙ none) (ap (λ a. a.shown) n.answer ∙ none')).answer
      ∙ ap seen_answer n.answer;
  page = λ labels look on on'.
      ap seen_answer (sym m.answer)
      ∙ (same.page labels (still (shown_by labels) look) (ap (λ a. a.shown) m.answer ∙ on) (ap (λ a. a.shown) n.answer ∙ on')).answer
      ∙ ap seen_answer n.answer;
}

like_logs : (start other s u : State) (log others xs ys : List LogEntry) → AreMoved xs log → AreMoved ys others → HaveSameSubjects false false xs ys
    → AreSameWhereShown s u xs ys → NoneFailed xs → NoneFailed ys → ((w : ℕ → Bool) → LookSame w start other → LookSame w s u) → AreLikeWhereShown start other log others
like_logs start other s u [] [] [] [] m n asked same none none' still = tt
like_logs start other s u log (two ∷ others) xs [] m n asked same none none' still = absurd n
like_logs start other s u (one ∷ log) others [] ys m n asked same none none' still = absurd m
like_logs start other s u [] others (x ∷ xs) ys m n asked same none none' still = absurd m
like_logs start other s u log [] xs (y ∷ ys) m n asked same none none' still = absurd n
like_logs start other s u [] (two ∷ others) [] (y ∷ ys) m n asked same none none' still = let wrong : false ≡ true = asked in absurd cc
like_logs start other s u (one ∷ log) [] (x ∷ xs) [] m n asked same none none' still = let wrong : false ≡ true = asked in absurd cc
like_logs start other s u (one ∷ log) (two ∷ others) (x ∷ xs) (y ∷ ys) m n asked same none none' still =
    let both = same (none.0, none'.0) in (
      like_entry start other s u one two x y m.0 n.0 asked.0.source asked.0.subject both.0 still,
      like_logs start other s u log others xs ys m.1 n.1 asked.1 both.1 none.1 none'.1 still,
    )

-- ---- one connection

module _ {L : Type 0} (line : L → LinkSeen) (lazy : Bool) (app : Application) (sessions : List Session) where
  not_part : (part : Bool) (visit : LinkVisit L) → IsTakenWhole line visit
      → (part ≡ true → Rose (line visit.came).faults (line visit.gone).faults ⊎ IsErr visit.result) → part ≡ false
  not_part false visit whole cause = refl
  not_part true visit whole cause = elim (cause refl) [
    | inl rose ↦ absurd (whole.no_fault rose)
    | inr failed ↦ absurd (whole.answered failed)
  ]

  visit_run : (c first : ℕ) (before between : RunSeen) (visit : LinkVisit L) (mine : List LogEntry) (lines : List ℕ)
      → IsVisited line (answer_spec_of lazy app sessions) c first (span before between) visit mine lines → IsTakenWhole line visit → IsTrue between.keeper.tells
      → IsLinkRun lazy app sessions c (line visit.came).left before between mine
  visit_run c first before between visit mine lines v whole told =
      let s = v.served in
      let taken : concat s.pieces ≡ (line visit.came).left =
      sym (s.taken whole.told ∙ ap (λ (l : List ℕ). concat s.pieces ++ l) whole.all ∙ append-nil (concat s.pieces)) in
      let part = not_part s.part visit whole s.cause in
      let all = subst (λ (b : Bool). IsServedBy b (answer_spec_of lazy app sessions) (span before between) (events_of c s.pieces) s.log) part s.served in
      let here = subst (λ (l : List LogEntry). IsServedBy false (answer_spec_of lazy app sessions) (span before between) (events_of c s.pieces) l) v.entries all in
      link_run lazy app sessions c s.pieces (line visit.came).left before between mine taken whole.some here told

  -- If the contents of the keeper are known after the last connection, they are known before the
  -- first.
  told_before : (c first : ℕ) (before after : RunSeen) (visits : List (LinkVisit L)) (log : List LogEntry) (audit : List ℕ)
      → AreVisited line (answer_spec_of lazy app sessions) c first before visits log audit after → IsTrue after.keeper.tells → IsTrue before.keeper.tells
  told_before c first before after [] log audit (none, nothing, same) told = subst (λ (k : RunSeen). IsTrue k.keeper.tells) same told
  told_before c first before after (visit ∷ visits) log audit (between, mine, lines, others, more, v, parts, text, later) told =
      v.served.served.entries.told (told_before (c + 1) (first + length mine) between after visits others more later told)

-- ---- two connections with the same input

-- Two connections were served alike: in their entries, and in what assignments show of the states
-- that are left.
record IsLinkAlike (before before' between between' : RunSeen) (mine mine' : List LogEntry) : Type 0 where
  pub entries : (start start' : State) → ((w : ℕ → Bool) → LookSame w start start' → LookSame w before.keeper.state before'.keeper.state)
      → AreLikeWhereShown start start' mine mine'
  pub left : (w : ℕ → Bool) → LookSame w before.keeper.state before'.keeper.state → LookSame w between.keeper.state between'.keeper.state

module _ {L M : Type 0} (line : L → LinkSeen) (other : M → LinkSeen) (lazy : Bool) (app : Application) (sessions : List Session) where
  link_alike : (c first first' : ℕ) (before before' between between' : RunSeen) (one : LinkVisit L) (two : LinkVisit M) (mine mine' : List LogEntry) (lines lines' : List ℕ)
      → IsVisited line (answer_spec_of lazy app sessions) c first (span before between) one mine lines
      → IsVisited other (answer_spec_of lazy app sessions) c first' (span before' between') two mine' lines'
      → IsTakenWhole line one → IsTakenWhole other two → (line one.came).left ≡ (other two.came).left
      → IsTrue between.keeper.tells → IsTrue between'.keeper.tells → NoneFailed mine → NoneFailed mine'
      → IsLinkAlike before before' between between' mine mine'
  link_alike c first first' before before' between between' one two mine mine' lines lines' v v' whole whole' came told told' none none' =
      let x = visit_run line lazy app sessions c first before between one mine lines v whole told in
      let y = visit_run other lazy app sessions c first' before' between' two mine' lines' v' whole' told' in
      let bytes = (line one.came).left in
      let first_run : OneRun = record { lazy = lazy; early = false; start = before.keeper.state; log = x.other; finish = between.keeper.state } in
      let second_run : OneRun = record { lazy = lazy; early = false; start = before'.keeper.state; log = y.other; finish = between'.keeper.state } in
      let served' : IsRunServed app sessions (events_of c (bytes ∷ [])) second_run =
      subst (λ (b : List ℕ). IsRunServed app sessions (events_of c (b ∷ [])) second_run) (sym came) y.served in
      let all = none_moved x.other mine x.moved none in
      let all' = none_moved y.other mine' y.moved none' in
      let asked = subjects_agree app sessions (events_of c (bytes ∷ [])) first_run second_run x.served served' all all' in
      let pages = pages_agree app sessions (events_of c (bytes ∷ [])) first_run second_run x.served served' in
      record {
        entries = λ start start' still.
            like_logs start start' before.keeper.state before'.keeper.state mine mine' x.other y.other x.moved y.moved asked pages all all' still;
        left = λ w look.
            let e = ends_agree app sessions (events_of c (bytes ∷ [])) first_run second_run x.served served' w look all all' in
            e.ends (e.long refl refl);
      }

-- ---- connection by connection

-- Two serves were alike: in their entries, and in what assignments show of the states that are
-- left.
pub record AreLinksAlike (start start' : State) (after after' : RunSeen) (log others : List LogEntry) : Type 0 where
  pub entries : AreLikeWhereShown start start' log others
  pub left : (w : ℕ → Bool) → LookSame w start start' → LookSame w after.keeper.state after'.keeper.state

module _ {L M : Type 0} (line : L → LinkSeen) (other : M → LinkSeen) (lazy : Bool) (app : Application) (sessions : List Session) (start start' : State) where
  empty_logs : (log others : List LogEntry) → log ≡ [] → others ≡ [] → AreLikeWhereShown start start' log others
  empty_logs log others none none' =
      let half : AreLikeWhereShown start start' log [] = subst (λ (l : List LogEntry). AreLikeWhereShown start start' l []) (sym none) tt in
      subst (λ (l : List LogEntry). AreLikeWhereShown start start' log l) (sym none') half

  still_left : (before before' after after' : RunSeen) → after ≡ before → after' ≡ before'
      → ((w : ℕ → Bool) → LookSame w start start' → LookSame w before.keeper.state before'.keeper.state)
      → (w : ℕ → Bool) → LookSame w start start' → LookSame w after.keeper.state after'.keeper.state
  still_left before before' after after' same same' still w look =
      ap (λ (k : RunSeen). project_at w k.keeper.state) same ∙ still w look ∙ sym (ap (λ (k : RunSeen). project_at w k.keeper.state) same')

  pub links_agree : (c first first' : ℕ) (before before' after after' : RunSeen) (visits : List (LinkVisit L)) (more : List (LinkVisit M)) (log others : List LogEntry) (audit audit' : List ℕ)
      → AreVisited line (answer_spec_of lazy app sessions) c first before visits log audit after → AreVisited other (answer_spec_of lazy app sessions) c first' before' more others audit' after'
      → IsTrue after.keeper.tells → IsTrue after'.keeper.tells → AreTakenAlike line other visits more → NoneFailed log → NoneFailed others
      → ((w : ℕ → Bool) → LookSame w start start' → LookSame w before.keeper.state before'.keeper.state) → AreLinksAlike start start' after after' log others
  links_agree c first first' before before' after after' [] [] log others audit audit' (none, nothing, same) (none', nothing', same') told told' taken quiet quiet' still = record {
    entries = empty_logs log others none none';
    left = still_left before before' after after' same same' still;
  }
  links_agree c first first' before before' after after' [] (two ∷ more) log others audit audit' v v' told told' taken quiet quiet' still = absurd taken
  links_agree c first first' before before' after after' (one ∷ visits) [] log others audit audit' v v' told told' taken quiet quiet' still = absurd taken
  links_agree c first first' before before' after after' (one ∷ visits) (two ∷ more) log others audit audit'
      (between, mine, lines, rest, text, v, parts, is, later) (between', mine', lines', rest', text', v', parts', is', later') told told' taken quiet quiet' still =
      let here = told_before line lazy app sessions (c + 1) (first + length mine) between after visits rest text later told in
      let here' = told_before other lazy app sessions (c + 1) (first' + length mine') between' after' more rest' text' later' told' in
      let none = none_parts mine rest (subst (λ (l : List LogEntry). NoneFailed l) parts quiet) in
      let none' = none_parts mine' rest' (subst (λ (l : List LogEntry). NoneFailed l) parts' quiet') in
      let alike = link_alike line other lazy app sessions c first first' before before' between between' one two mine mine' lines lines' v v'
      taken.0 taken.1 taken.2 here here' none.0 none'.0 in
      let behind = links_agree (c + 1) (first + length mine) (first' + length mine') between between' after after' visits more rest rest' text text' later later' told told' taken.3 none.1 none'.1
      (λ w look. alike.left w (still w look)) in
      let both = like_append start start' mine mine' rest rest' (alike.entries start start' still) behind.entries in
      let half = subst (λ (l : List LogEntry). AreLikeWhereShown start start' l (mine' ++ rest')) (sym parts) both in
      record {
        entries = subst (λ (l : List LogEntry). AreLikeWhereShown start start' log l) (sym parts') half;
        left = behind.left;
      }

-- ---- the bytes of a connection

-- The connection received the replies of its entries.
puts_whole : (first : ℕ) (link : Span LinkSeen) (log : List LogEntry) (result : Result ℕ Halt) (out audit : List ℕ) → PutsLog first link log result out audit
    → (Rose link.before.faults link.after.faults → ⊥) → (IsErr result → ⊥) → out ≡ replies_on spellings.Raw log
puts_whole first link log (Ok count) out audit (inl put) calm answered = put.out_text
puts_whole first link log (Ok count) out audit (inr (lost, rose)) calm answered = absurd (calm rose)
puts_whole first link log (Err halts.Write) out audit puts calm answered = absurd (answered refl)
puts_whole first link log (Err halts.Memory) out audit puts calm answered = absurd (answered refl)

visit_holds : {L : Type 0} (line : L → LinkSeen) (app : AnswerSpec) (c first : ℕ) (k : Span RunSeen) (visit : LinkVisit L) (mine : List LogEntry) (lines : List ℕ)
    → IsVisited line app c first k visit mine lines → IsTakenWhole line visit → HoldsMore line visit (replies_on spellings.Raw mine)
visit_holds line app c first k visit mine lines v whole =
    let out = puts_whole first (span (line visit.came) (line visit.gone)) v.served.log visit.result v.out lines v.served.puts whole.no_fault whole.answered in
    v.took whole.told ∙ ap (λ (l : List ℕ). (line visit.came).held ++ l) (out ∙ ap (λ (l : List LogEntry). replies_on spellings.Raw l) v.entries)

-- Pages under the same labels, if these show the same of both starts, and replies without a page.
seen_same : (start start' : State) (o : Option (List ℕ)) (one two : LogEntry) → IsLikeWhereShown start start' one two
    → ((labels : List ℕ) → one.answer.shown ≡ Some labels → LookSame (shown_by labels) start start') → one.answer.shown ≡ o → two.answer.shown ≡ o
    → seen_answer one.answer ≡ seen_answer two.answer
seen_same start start' None one two like look is is' = like.refusal is is'
seen_same start start' (Some labels) one two like look is is' = like.page labels (look labels is) is is'

first_label : (o p : Option (List ℕ)) (xs ys : List (Option (List ℕ))) → o ∷ xs ≡ p ∷ ys → o ≡ p
first_label o p xs ys same = cc

rest_labels : (o p : Option (List ℕ)) (xs ys : List (Option (List ℕ))) → o ∷ xs ≡ p ∷ ys → xs ≡ ys
rest_labels o p xs ys same = cc

same_replies : (start start' : State) (log others : List LogEntry) → AreLikeWhereShown start start' log others → labels_of log ≡ labels_of others
    → LookSameFor start start' log → replies_on spellings.Raw log ≡ replies_on spellings.Raw others
same_replies start start' [] [] like labels look = refl
same_replies start start' [] (two ∷ others) like labels look = absurd like
same_replies start start' (one ∷ log) [] like labels look = absurd like
same_replies start start' (one ∷ log) (two ∷ others) like labels look =
    let shown = first_label one.answer.shown two.answer.shown (labels_of log) (labels_of others) labels in
    let answer = seen_same start start' two.answer.shown one two like.0 look.0 shown refl in
    let put : entry_on spellings.Raw one ≡ entry_on spellings.Raw two =
    sym (seen_put spellings.Raw one.source one.subject one.answer)
    ∙ (λ i. reply_on spellings.Raw (like.0.source i) (like.0.subject i) (answer i))
    ∙ seen_put spellings.Raw two.source two.subject two.answer in
    let rest = same_replies start start' log others like.1 (rest_labels one.answer.shown two.answer.shown (labels_of log) (labels_of others) labels) look.1 in
    λ i. put i ++ rest i

look_parts : (start start' : State) (log others : List LogEntry) → LookSameFor start start' (log ++ others) → LookSameFor start start' log × LookSameFor start start' others
look_parts start start' [] others look = (tt, look)
look_parts start start' (one ∷ log) others look = let rest = look_parts start start' log others look.1 in ((look.0, rest.0), rest.1)

-- Logs that are alike have the same length, so the labels of what follows them are the same too.
label_parts : (start start' : State) (log others more rest : List LogEntry) → AreLikeWhereShown start start' log others → labels_of (log ++ more) ≡ labels_of (others ++ rest)
    → (labels_of log ≡ labels_of others) × (labels_of more ≡ labels_of rest)
label_parts start start' [] [] more rest like labels = (refl, labels)
label_parts start start' [] (two ∷ others) more rest like labels = absurd like
label_parts start start' (one ∷ log) [] more rest like labels = absurd like
label_parts start start' (one ∷ log) (two ∷ others) more rest like labels =
    let first = first_label one.answer.shown two.answer.shown (labels_of (log ++ more)) (labels_of (others ++ rest)) labels in
    let parts = label_parts start start' log others more rest like.1 (rest_labels one.answer.shown two.answer.shown (labels_of (log ++ more)) (labels_of (others ++ rest)) labels) in
    (λ i. first i ∷ parts.0 i, parts.1)

module _ {L M : Type 0} (line : L → LinkSeen) (other : M → LinkSeen) (lazy : Bool) (app : Application) (sessions : List Session) (start start' : State) where
  pub links_hold : (c first first' : ℕ) (before before' after after' : RunSeen) (visits : List (LinkVisit L)) (more : List (LinkVisit M)) (log others : List LogEntry) (audit audit' : List ℕ)
      → AreVisited line (answer_spec_of lazy app sessions) c first before visits log audit after → AreVisited other (answer_spec_of lazy app sessions) c first' before' more others audit' after'
      → IsTrue after.keeper.tells → IsTrue after'.keeper.tells → AreTakenAlike line other visits more → NoneFailed log → NoneFailed others
      → labels_of log ≡ labels_of others → LookSameFor start start' log
      → ((w : ℕ → Bool) → LookSame w start start' → LookSame w before.keeper.state before'.keeper.state) → HoldSameMore line other visits more
  links_hold c first first' before before' after after' [] [] log others audit audit' v v' told told' taken quiet quiet' labels look still = tt
  links_hold c first first' before before' after after' [] (two ∷ more) log others audit audit' v v' told told' taken quiet quiet' labels look still = absurd taken
  links_hold c first first' before before' after after' (one ∷ visits) [] log others audit audit' v v' told told' taken quiet quiet' labels look still = absurd taken
  links_hold c first first' before before' after after' (one ∷ visits) (two ∷ more) log others audit audit'
      (between, mine, lines, rest, text, v, parts, is, later) (between', mine', lines', rest', text', v', parts', is', later') told told' taken quiet quiet' labels look still =
      let here = told_before line lazy app sessions (c + 1) (first + length mine) between after visits rest text later told in
      let here' = told_before other lazy app sessions (c + 1) (first' + length mine') between' after' more rest' text' later' told' in
      let none = none_parts mine rest (subst (λ (l : List LogEntry). NoneFailed l) parts quiet) in
      let none' = none_parts mine' rest' (subst (λ (l : List LogEntry). NoneFailed l) parts' quiet') in
      let alike = link_alike line other lazy app sessions c first first' before before' between between' one two mine mine' lines lines' v v'
      taken.0 taken.1 taken.2 here here' none.0 none'.0 in
      let like = alike.entries start start' still in
      let all : labels_of (mine ++ rest) ≡ labels_of (mine' ++ rest') = sym (ap labels_of parts) ∙ labels ∙ ap labels_of parts' in
      let own = label_parts start start' mine mine' rest rest' like all in
      let looks = look_parts start start' mine rest (subst (λ (l : List LogEntry). LookSameFor start start' l) parts look) in
      let bytes = replies_on spellings.Raw mine in
      let same = same_replies start start' mine mine' like own.0 looks.0 in
      let held = visit_holds line (answer_spec_of lazy app sessions) c first (span before between) one mine lines v taken.0 in
      let held' = visit_holds other (answer_spec_of lazy app sessions) c first' (span before' between') two mine' lines' v' taken.1 in (
        (bytes, held, subst (λ (l : List ℕ). HoldsMore other two l) (sym same) held'),
        links_hold (c + 1) (first + length mine) (first' + length mine') between between' after after' visits more rest rest' text text' later later' told told' taken.3 none.1 none'.1
            own.1 looks.1 (λ w look. alike.left w (still w look)),
      )
