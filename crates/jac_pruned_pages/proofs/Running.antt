-- Steps of a run in one world.
use Rattle.std.proofs.Common.{◌≡◌, ◌≤◌, refl, ◌∙◌, sym, ap, subst, ℕ, Bool, true, List, [], ◌∷◌, ◌++◌, take, drop, length, Option, None}
use Rattle.std.proofs.lemmas.List.{drop_all}
use Rattle.std.proofs.lemmas.Bool.{and_parts}
use Rattle.jac_lang.specs.declared.bindings.Binding.{Binding}
use Rattle.jac_lang.specs.declared.application.App.{App}
use Rattle.jac_lang.specs.Syntax.{Expression, Statement, Statements}
use Rattle.jac_value.specs.declared.value.Value.{Value}
use Rattle.jac_plain.specs.declared.context.Ctx.{Ctx}
use Rattle.jac_plain.specs.Shown.{setting_at, world_at}
use Rattle.jac_rows.specs.declared.plain.PlainRow.{PlainRow}
use Rattle.jac_rows.specs.declared.state.State.{State}
use Rattle.jac_plain.specs.declared.page.Piece.{Piece}
use Rattle.jac_plain.specs.Reading.{is_reading, are_reading}
use Rattle.jac_plain.specs.Statements.{Run, for_each, scoped_run, value_in, with_piece}
use Rattle.jac_plain.specs.Expressions.{bound, mean}
use Rattle.jac_lang.specs.declared.queries.Binder.{Binder}
use Rattle.jac_pruned_pages.specs.Buffers.{BufferSeen, buffer_for, buffer_with}
use Rattle.jac_pruned_pages.proofs.Buffering.{buffer-push}
use Rattle.jac_shown_rows.specs.RecordIds.{lengthened_tuples}
use Rattle.jac_pruned_pages.specs.Runs.{Left, left_at, run_left, run_in, IsReadingStatement, AreReading}

mutual
  pub is-reading : (s : Statement) → is_reading s ≡ true → IsReadingStatement s
  is-reading (Statement.put e) h = tt
  is-reading (Statement.escape e) h = tt
  is-reading (Statement.bind x e body) h = are-reading body h
  is-reading (Statement.assign x e) h = tt
  is-reading (Statement.branch c first second) h =
      let p = and_parts (are_reading first) (are_reading second) h in (are-reading first p.0, are-reading second p.1)
  is-reading (Statement.each q body) h = are-reading body h
  is-reading (Statement.create x m site cells body) h = h
  is-reading (Statement.update m e cells) h = h
  is-reading (Statement.delete m e) h = h
  is-reading Statement.missing h = tt
  is-reading (Statement.redirect e) h = tt
  is-reading (Statement.template t) h = tt
  is-reading (Statement.block body) h = are-reading body h

  -- Statements that write nothing, each by its own parts.
  pub are-reading : (ss : Statements) → are_reading ss ≡ true → AreReading ss
  are-reading Statements.none h = tt
  are-reading (Statements.more s rest) h =
      let p = and_parts (is_reading s) (are_reading rest) h in (is-reading s p.0, are-reading rest p.1)

abbrev run_of : List (List PlainRow) → List Binding → List Piece → Run
run_of tables env pieces = record { tables = tables; env = env; pieces = pieces }

abbrev cut_left : ℕ → Left → Left
cut_left n l = record l { env = take n l.env }

-- Some run that has come to this ends there.
pub record Comes (now : Left) (rest : Run → Run) (end : Run) : Type 0 where
  pub from : Run
  pub is : now ≡ run_left from
  pub ends : rest from ≡ end

-- Before the first step.
pub comes_first : (w : ℕ → Bool) (s : State) (env : List Binding) (page : BufferSeen) (pieces : List Piece) (all : Run → Run) → page ≡ buffer_for pieces
    → Comes (left_at w s env page) all (all (run_in w s env pieces))
comes_first w s env page pieces all is = record { from = run_in w s env pieces; is = ap (left_at w s env) is; ends = refl }

-- A step, for each run that has come to what the step begins with.
on_run : (step : Run → Run) (w : ℕ → Bool) (s : State) (env : List Binding) (page : BufferSeen) (r : Run) (new : Left)
    → ((pieces : List Piece) → page ≡ buffer_for pieces → new ≡ run_left (step (run_in w s env pieces))) → left_at w s env page ≡ run_left r
    → new ≡ run_left (step r)
on_run step w s env page r new h is =
    let same : run_in w s env r.pieces ≡ r =
    ap (λ (t : List (List PlainRow)). run_of t env r.pieces) (ap (λ (l : Left). l.tables) is)
    ∙ ap (λ (e : List Binding). run_of r.tables e r.pieces) (ap (λ (l : Left). l.env) is) in
    subst (λ (x : Run). new ≡ run_left (step x)) same (h r.pieces (ap (λ (l : Left). l.page) is))

-- After one more step, in the same state.
comes_on : (step rest : Run → Run) (end : Run) (w : ℕ → Bool) (old s : State) (env env2 : List Binding) (page page2 : BufferSeen) → old ≡ s
    → ((pieces : List Piece) → page ≡ buffer_for pieces → left_at w old env2 page2 ≡ run_left (step (run_in w old env pieces)))
    → Comes (left_at w s env page) (λ r. rest (step r)) end → Comes (left_at w s env2 page2) rest end
comes_on step rest end w old s env env2 page page2 same h before =
    let here = subst (λ (x : State). (pieces : List Piece) → page ≡ buffer_for pieces → left_at w x env2 page2 ≡ run_left (step (run_in w x env pieces))) same h in
    record {
      from = step before.from;
      is = on_run step w s env page before.from (left_at w s env2 page2) here before.is;
      ends = before.ends;
    }

-- After one more tuple.
pub tuple_more : (bs : List Binder) (body : List ℕ → Run → Run) (ids : List ℕ) (left rest : List (List ℕ)) (end : Run) (w : ℕ → Bool) (old s : State)
    (env env2 : List Binding) (page page2 : BufferSeen)
    → left ≡ ids ∷ rest → old ≡ s
    → ((pieces : List Piece) → page ≡ buffer_for pieces → left_at w old env2 page2 ≡ run_left (scoped_run (bound bs ids env) (body ids) (run_in w old env pieces)))
    → Comes (left_at w s env page) (for_each bs body left) end → Comes (left_at w s env2 page2) (for_each bs body rest) end
tuple_more bs body ids left rest end w old s env env2 page page2 split same h before =
    comes_on (λ r. scoped_run (bound bs ids r.env) (body ids) r) (for_each bs body rest) end w old s env env2 page page2 same h
    (subst (λ (ts : List (List ℕ)). Comes (left_at w s env page) (for_each bs body ts) end) split before)

comes_last : (now : Left) (end : Run) → Comes now (λ r. r) end → now ≡ run_left end
comes_last now end all = all.is ∙ ap run_left all.ends

-- After the last tuple.
pub tuples_end : (bs : List Binder) (body : List ℕ → Run → Run) (tuples : List (List ℕ)) (i : ℕ) (now : Left) (end : Run) → length tuples ≤ i
    → Comes now (for_each bs body (drop i tuples)) end → now ≡ run_left end
tuples_end bs body tuples i now end past all =
    comes_last now end (subst (λ (ts : List (List ℕ)). Comes now (for_each bs body ts) end) (drop_all i tuples past) all)

-- After one more record of a loop over one binder's records.
pub record_more : (b : Binder) (body : List ℕ → Run → Run) (j : ℕ) (left rest : List ℕ) (end : Run) (w : ℕ → Bool) (old s : State)
    (env env2 : List Binding) (page page2 : BufferSeen)
    → left ≡ j ∷ rest → old ≡ s
    → ((pieces : List Piece) → page ≡ buffer_for pieces → left_at w old env2 page2 ≡ run_left (scoped_run (bound (b ∷ []) (j ∷ []) env) (body (j ∷ [])) (run_in w old env pieces)))
    → Comes (left_at w s env page) (for_each (b ∷ []) body (lengthened_tuples [] left)) end
    → Comes (left_at w s env2 page2) (for_each (b ∷ []) body (lengthened_tuples [] rest)) end
record_more b body j left rest end w old s env env2 page page2 split same h before =
    tuple_more (b ∷ []) body (j ∷ []) (lengthened_tuples [] left) (lengthened_tuples [] rest) end w old s env env2 page page2
    (ap (lengthened_tuples []) split) same h before

-- After the last record.
pub records_end : (b : Binder) (body : List ℕ → Run → Run) (js : List ℕ) (i : ℕ) (now : Left) (end : Run) → length js ≤ i
    → Comes now (for_each (b ∷ []) body (lengthened_tuples [] (drop i js))) end → now ≡ run_left end
records_end b body js i now end past all =
    comes_last now end (subst (λ (ks : List ℕ). Comes now (for_each (b ∷ []) body (lengthened_tuples [] ks)) end) (drop_all i js past) all)

-- The body with more bindings, which are removed afterwards.
pub scopes : (body : Run → Run) (w : ℕ → Bool) (s : State) (env more inner left new : List Binding) (n : ℕ) (page : BufferSeen) (pieces : List Piece)
    → inner ≡ more → n ≡ length env → new ≡ take n left → left_at w s left page ≡ run_left (body (run_in w s inner pieces))
    → left_at w s new page ≡ run_left (scoped_run more body (run_in w s env pieces))
scopes body w s env more inner left new n page pieces bound long cut ran =
    ap (λ e. left_at w s e page) (cut ∙ ap (λ m. take m left) long)
    ∙ ap (cut_left (length env)) (ran ∙ ap (λ e. run_left (body (run_in w s e pieces))) bound)

-- An expression of a statement, which has no record whose policy is evaluated.
pub value_here : (app : App) (ctx : Ctx) (w : ℕ → Bool) (s : State) (env : List Binding) (pieces : List Piece) (e : Expression) (v : Value) → ctx.this ≡ None
    → v ≡ mean (world_at app ctx s w) e env → v ≡ value_in (setting_at app ctx w) e (run_in w s env pieces)
value_here app ctx w s env pieces e v none is = is ∙ ap (λ (this : Option ℕ). mean (record (world_at app ctx s w) { this = this }) e env) none

-- One more piece.
pub piece_more : (w : ℕ → Bool) (s : State) (env : List Binding) (page page2 : BufferSeen) (pieces : List Piece) (p made : Piece) → page ≡ buffer_for pieces
    → page2 ≡ buffer_with made page → made ≡ p → left_at w s env page2 ≡ run_left (with_piece p (run_in w s env pieces))
piece_more w s env page page2 pieces p made is added same =
    ap (left_at w s env) (added ∙ ap (buffer_with made) is ∙ sym (buffer-push pieces made) ∙ ap (λ (x : Piece). buffer_for (pieces ++ x ∷ [])) same)

-- A loop over the answers, in the same state.
pub for_all : (bs : List Binder) (body : List ℕ → Run → Run) (w : ℕ → Bool) (old s : State) (env env2 : List Binding) (page2 : BufferSeen) (pieces : List Piece)
    (tuples all : List (List ℕ)) → old ≡ s → tuples ≡ all → left_at w old env2 page2 ≡ run_left (for_each bs body tuples (run_in w old env pieces))
    → left_at w s env2 page2 ≡ run_left (for_each bs body all (run_in w s env pieces))
for_all bs body w old s env env2 page2 pieces tuples all same asked ran =
    subst (λ (x : State). left_at w x env2 page2 ≡ run_left (for_each bs body all (run_in w x env pieces))) same
    (subst (λ (ts : List (List ℕ)). left_at w old env2 page2 ≡ run_left (for_each bs body ts (run_in w old env pieces))) asked ran)
