-- Statements inside of a transaction: one, several, and a transaction of them.
use Rattle.std.proofs.Common.{◌≡◌, ℕ, suc, ◌+◌, ◌<◌, ◌≤◌, true, false, List, [], ◌∷◌, ◌++◌, length, get_or, drop, drop-cons, Option, Some, None, Result, Ok, Err, IsTrue, OnOk, IfErr, refl, sym, ap, subst, ◌∙◌, arith, inl, inr}
use Rattle.std.proofs.lemmas.Bool.{cases_Bool}
use Rattle.std.proofs.lemmas.List.{drop_all}
use Rattle.sqlite_trees.specs.declared.store.Store.{Ghosts}
use Rattle.sqlite_trees.specs.Tree.{Trees}
use Rattle.sqlite_value.specs.Order.{Row}
use Rattle.sqlite.specs.declared.error.Error.{Error}
use Rattle.sqlite.specs.declared.error.Error.TheVariants.{SqliteFailure}
use Rattle.sqlite.specs.declared.error.ErrorCode.TheVariants.{TransactionState}
use Rattle.sqlite.specs.Effect.{Database}
use Rattle.sqlite.specs.Steps.{FailsToCommit}
use Rattle.sqlite.specs.State.{QueriesRow, State, HasCleanDisk, ExecutesInside, KeepsCommit, Survives, IsRolledBack, Shows}
use Rattle.sqlite.specs.Held.{Held, state}
use Rattle.sqlite.proofs.StateLemmas.{survives_then}
use Rattle.sqlite.proofs.InsideLemmas.{inside_keeps, keeps_then}
use Rattle.sqlite.proofs.Callers.{survives_begin}
use Rattle.jac_rows.specs.declared.row.Row.{Row as Kept}
use Rattle.jac_keep.specs.declared.alteration.Alteration.{Alteration}
use Rattle.jac_sql_spec.specs.Founding.{Tells, FindsSchema}
use Rattle.jac_sql_spec.specs.Statements.{SqlStatement, reading, removal, addition, additions, replacement, replacements}
use Rattle.jac_sql_spec.specs.Transaction.{Ran, Inside, Leaves, Transacts, EndsCommitted}

pub survives_same : (a : State) (P : Trees → Type 0) → Survives a a P
survives_same a P = record {
  clean = omega arith;
  counts = omega arith;
  limit = refl;
  shield = λ h. h;
  closes = λ _ h. inl h;
  crash = λ _ db h. inl h;
}

pub keeps_same : (a : State) → KeepsCommit a a
keeps_same a = record { was_open = λ h. h; committed = λ _. refl }

-- The next alternative, and those after it.
pub next_alternative : (rows : List Kept) (alt : ℕ) (row : Kept) → alt < length rows → row ≡ get_or rows alt row
    → additions alt (drop alt rows) ≡ addition alt row ∷ additions (alt + 1) (drop (alt + 1) rows)
next_alternative rows alt row within is =
    let next : suc alt ≡ alt + 1 = omega arith in
    ap (additions alt) (drop-cons rows alt row within) ∙ (λ i. addition alt (sym is i) ∷ additions (alt + 1) (drop (next i) rows))

module _ {S : Type 0} (g : Ghosts S) where
  pub ran_on : (xs ys : List SqlStatement) (a b c : Held S) → Ran g xs a b → Ran g ys b c → Ran g (xs ++ ys) a c
  ran_on [] ys a b c one two = subst (λ (h : Held S). Ran g ys h c) one two
  ran_on (x ∷ xs) ys a b c one two = (one.0, one.1, one.2, ran_on xs ys one.0 b c one.3 two)

  pub stays : (xs : List SqlStatement) (a b : Held S) → Ran g xs a b → IsTrue (state g a).in_transaction → IsTrue (state g b).in_transaction
  stays [] a b ran inside = subst (λ (h : Held S). IsTrue (state g h).in_transaction) (sym ran) inside
  stays (x ∷ xs) a b ran inside = stays xs ran.0 b ran.3 ran.2.1.mode

  keeps_one : (text : List ℕ) (params : Row) (a b : Held S) (r : Result ℕ Error)
      → ((state g a).in_transaction ≡ false → (r ≡ Err (SqliteFailure TransactionState)) × (b ≡ a))
      → (HasCleanDisk (state g b) → IsTrue (state g a).in_transaction → ExecutesInside 0 text params (state g a) (state g b) r)
      → HasCleanDisk (state g b) → KeepsCommit (state g a) (state g b)
  keeps_one text params a b r ended runs clean = elim (cases_Bool (state g a).in_transaction) [
    | inl within ↦ inside_keeps (state g a) (state g b) 0 false text params r (runs clean within)
    | inr without ↦ subst (λ (h : Held S). KeepsCommit (state g a) (state g h)) (sym (ended without).1) (keeps_same (state g a))
  ]

  pub one_ran : {T : Type 0} (x : SqlStatement) (a b : Held S) (count : ℕ) (t : T)
      → ((state g a).in_transaction ≡ false → (◌≡◌ {A = Result ℕ Error} (Ok count) (Err (SqliteFailure TransactionState))) × (b ≡ a))
      → (HasCleanDisk (state g b) → IsTrue (state g a).in_transaction → ExecutesInside 0 x.text x.params (state g a) (state g b) (Ok count))
      → Survives (state g a) (state g b) (λ _. ⊥) → Inside g (x ∷ []) a b (Ok t)
  one_ran x a b count t ended runs survives = record {
    ran = λ clean within. (b, count, runs clean within, refl);
    kept = keeps_one x.text x.params a b (Ok count) ended runs;
    survives = survives;
  }

  pub one_failed : {T : Type 0} (x : SqlStatement) (a b : Held S) (e : Error)
      → ((state g a).in_transaction ≡ false → (◌≡◌ {A = Result ℕ Error} (Err e) (Err (SqliteFailure TransactionState))) × (b ≡ a))
      → (HasCleanDisk (state g b) → IsTrue (state g a).in_transaction → ExecutesInside 0 x.text x.params (state g a) (state g b) (Err e))
      → Survives (state g a) (state g b) (λ _. ⊥) → Inside {T = T} g (x ∷ []) a b (Err e)
  one_failed x a b e ended runs survives = record {
    ran = λ _ _. tt;
    kept = keeps_one x.text x.params a b (Err e) ended runs;
    survives = survives;
  }

  -- Nothing ran, and the result is an error.
  pub none_ran : {T : Type 0} (xs : List SqlStatement) (a : Held S) (e : Error) → Inside {T = T} g xs a a (Err e)
  none_ran xs a e = record { ran = λ _ _. tt; kept = λ _. keeps_same (state g a); survives = survives_same (state g a) _ }

  pub failed_of : {T U : Type 0} (xs ys : List SqlStatement) (a b : Held S) (e : Error) → Inside {T = T} g xs a b (Err e) → Inside {T = U} g ys a b (Err e)
  failed_of xs ys a b e one = record { ran = λ _ _. tt; kept = one.kept; survives = one.survives }

  survives_on : (a b c : Held S) → Survives (state g a) (state g b) (λ _. ⊥) → Survives (state g b) (state g c) (λ _. ⊥) → Survives (state g a) (state g c) (λ _. ⊥)
  survives_on a b c = survives_then (state g a) (state g b) (state g c) (λ _. ⊥) (λ _. ⊥) (λ _. ⊥) (λ _ db none. none) (λ _ db none. none)

  keeps_on : (a b c : Held S) → (HasCleanDisk (state g b) → KeepsCommit (state g a) (state g b)) → (HasCleanDisk (state g c) → KeepsCommit (state g b) (state g c))
      → Survives (state g b) (state g c) (λ _. ⊥) → HasCleanDisk (state g c) → KeepsCommit (state g a) (state g c)
  keeps_on a b c one two survives clean = keeps_then (state g a) (state g b) (state g c) (one (omega (arith, survives.clean))) (two clean)

  pub inside_then : {T U : Type 0} (xs ys : List SqlStatement) (a b c : Held S) (t : T) (r : Result U Error) → Inside g xs a b (Ok t) → Inside g ys b c r → Inside g (xs ++ ys) a c r
  inside_then xs ys a b c t (Ok u) one two = record {
    ran = λ clean within. let first = one.ran (omega (arith, two.survives.clean)) within in ran_on xs ys a b c first (two.ran clean (stays xs a b first within));
    kept = keeps_on a b c one.kept two.kept two.survives;
    survives = survives_on a b c one.survives two.survives;
  }
  inside_then xs ys a b c t (Err e) one two = record {
    ran = λ _ _. tt;
    kept = keeps_on a b c one.kept two.kept two.survives;
    survives = survives_on a b c one.survives two.survives;
  }

  -- In the middle of a list of statements: what the statements that are left lead to from here, all
  -- of them lead to from the start.
  pub record Halfway (all left : List SqlStatement) (start now : Held S) : Type 0 where
    pub goes : HasCleanDisk (state g now) → IsTrue (state g start).in_transaction → IsTrue (state g now).in_transaction × ((end : Held S) → Ran g left now end → Ran g all start end)
    pub kept : HasCleanDisk (state g now) → KeepsCommit (state g start) (state g now)
    pub survives : Survives (state g start) (state g now) (λ _. ⊥)

  pub halfway_start : (xs : List SqlStatement) (a : Held S) → Halfway xs xs a a
  halfway_start xs a = record { goes = λ _ within. (within, λ _ ran. ran); kept = λ _. keeps_same (state g a); survives = survives_same (state g a) _ }

  -- After some statements ran.
  pub halfway_behind : {T : Type 0} (xs left : List SqlStatement) (a b : Held S) (t : T) → Inside g xs a b (Ok t) → Halfway (xs ++ left) left a b
  halfway_behind xs left a b t one = record {
    goes = λ clean within. let ran = one.ran clean within in (stays xs a b ran within, λ end more. ran_on xs left a b end ran more);
    kept = one.kept;
    survives = one.survives;
  }

  pub halfway_on : {T : Type 0} (all xs left : List SqlStatement) (a b c : Held S) (t : T) → Halfway all (xs ++ left) a b → Inside g xs b c (Ok t) → Halfway all left a c
  halfway_on all xs left a b c t half one = record {
    goes = λ clean within.
        let before = half.goes (omega (arith, one.survives.clean)) within in
        let ran = one.ran clean before.0 in
        (stays xs b c ran before.0, λ end more. before.1 end (ran_on xs left b c end ran more));
    kept = keeps_on a b c half.kept one.kept one.survives;
    survives = survives_on a b c half.survives one.survives;
  }

  pub halfway_end : {T : Type 0} (all : List SqlStatement) (a b : Held S) (t : T) → Halfway all [] a b → Inside g all a b (Ok t)
  halfway_end all a b t half = record { ran = λ clean within. (half.goes clean within).1 b refl; kept = half.kept; survives = half.survives }

  pub halfway_failed : {T U : Type 0} (all left xs : List SqlStatement) (a b c : Held S) (e : Error) → Halfway all left a b → Inside {T = T} g xs b c (Err e) → Inside {T = U} g all a c (Err e)
  halfway_failed all left xs a b c e half one = record {
    ran = λ _ _. tt;
    kept = keeps_on a b c half.kept one.kept one.survives;
    survives = survives_on a b c half.survives one.survives;
  }

  -- One alternative of a record after another.
  pub replaced_start : {T : Type 0} (a : Alteration) (start now : Held S) (t : T) → Inside g (removal a.id ∷ []) start now (Ok t) → Halfway (replacement a) (additions 0 a.rows) start now
  replaced_start a start now t one = halfway_behind (removal a.id ∷ []) (additions 0 a.rows) start now t one

  pub replaced_next : {T : Type 0} (all : List SqlStatement) (rows : List Kept) (alt : ℕ) (row : Kept) (start now next : Held S) (t : T) → alt < length rows → row ≡ get_or rows alt row
      → Halfway all (additions alt (drop alt rows)) start now → Inside g (addition alt row ∷ []) now next (Ok t) → Halfway all (additions (alt + 1) (drop (alt + 1) rows)) start next
  replaced_next all rows alt row start now next t within is half one =
      halfway_on all (addition alt row ∷ []) (additions (alt + 1) (drop (alt + 1) rows)) start now next t
      (subst (λ (left : List SqlStatement). Halfway all left start now) (next_alternative rows alt row within is) half)
      one

  pub replaced_end : {T : Type 0} (all : List SqlStatement) (rows : List Kept) (alt : ℕ) (start now : Held S) (t : T) → length rows ≤ alt
      → Halfway all (additions alt (drop alt rows)) start now → Inside g all start now (Ok t)
  replaced_end all rows alt start now t behind half =
      halfway_end all start now t (subst (λ (left : List Kept). Halfway all (additions alt left) start now) (drop_all alt rows behind) half)

  -- One record after another.
  pub changed_next : {T : Type 0} (all : List SqlStatement) (a : Alteration) (left more : List Alteration) (start now next : Held S) (t : T) → left ≡ a ∷ more
      → Halfway all (replacements left) start now → Inside g (replacement a) now next (Ok t) → Halfway all (replacements more) start next
  changed_next all a left more start now next t is half one =
      halfway_on all (replacement a) (replacements more) start now next t (subst (λ (left : List Alteration). Halfway all (replacements left) start now) is half) one

  pub changed_end : {T : Type 0} (all : List SqlStatement) (left : List Alteration) (start now : Held S) (t : T) → left ≡ [] → Halfway all (replacements left) start now → Inside g all start now (Ok t)
  changed_end all left start now t is half = halfway_end all start now t (subst (λ (left : List Alteration). Halfway all (replacements left) start now) is half)

  -- What a transaction of these statements leaves.
  pub left_by : {T : Type 0} (xs : List SqlStatement) (old last : Held S) (t : T) → Inside g xs (record old { in_transaction = true }) last (Ok t) → HasCleanDisk (state g last) → Leaves g xs old (state g last).now
  left_by xs old last t one clean = record { last = last; ran = one.ran clean refl; left = refl }

  pub crash_after : {T : Type 0} (xs : List SqlStatement) (old last new : Held S) (t : T) → Inside g xs (record old { in_transaction = true }) last (Ok t)
      → Survives (state g last) (state g new) (λ db. db ≡ (state g last).now.trees)
      → Survives (state g old) (state g new) (λ trees. (db : Database) × Leaves g xs old db × (trees ≡ db.trees))
  crash_after xs old last new t one end =
      survives_begin g old (state g new) _ (survives_then (state g (record old { in_transaction = true })) (state g last) (state g new) (λ _. ⊥) (λ db. db ≡ (state g last).now.trees)
      (λ trees. (db : Database) × Leaves g xs old db × (trees ≡ db.trees)) (λ _ db none. absurd none)
      (λ clean db is. ((state g last).now, left_by xs old last t one (omega (arith, end.clean)), is)) one.survives end)

  pub crash_without : {T : Type 0} (xs : List SqlStatement) (old last new : Held S) (r : Result T Error) → Inside g xs (record old { in_transaction = true }) last r
      → Survives (state g last) (state g new) (λ _. ⊥)
      → Survives (state g old) (state g new) (λ trees. (db : Database) × Leaves g xs old db × (trees ≡ db.trees))
  crash_without xs old last new r one end =
      survives_begin g old (state g new) _ (survives_then (state g (record old { in_transaction = true })) (state g last) (state g new) (λ _. ⊥) (λ _. ⊥)
      (λ trees. (db : Database) × Leaves g xs old db × (trees ≡ db.trees)) (λ _ db none. absurd none) (λ _ db none. absurd none) one.survives end)

  pub as_before : (old last new : Held S) → KeepsCommit (state g (record old { in_transaction = true })) (state g last)
      → (IsTrue (state g old).is_open → (state g old).now ≡ (state g old).committed) → IsRolledBack (state g last) (state g new) → IsTrue (state g new).is_open
      → ((state g new).now ≡ (state g old).now) × ((state g new).committed ≡ (state g old).committed)
  as_before old last new kept settled undone opened =
      let was = undone.was_open opened in
      let back = undone.undone opened in
      (back.0 ∙ (kept.committed was ∙ sym (settled (kept.was_open was))), back.1 ∙ kept.committed was)

  pub transacts_ok : {T U : Type 0} (xs : List SqlStatement) (old begun last new : Held S) (t : T) (u : U) → begun ≡ record old { in_transaction = true }
      → Inside g xs begun last (Ok t) → (HasCleanDisk (state g new) → (state g new).committed ≡ (state g last).now)
      → Survives (state g last) (state g new) (λ db. db ≡ (state g last).now.trees) → Transacts g xs old new (Ok u)
  transacts_ok {T} xs old begun last new t u begins inside committed end =
      let within = subst (λ (h : Held S). Inside {T = T} g xs h last (Ok t)) begins inside in
      record {
        all = λ clean. record { last = last; ran = within.ran (omega (arith, end.clean)) refl; left = committed clean };
        none = λ _ _. tt;
        crash = crash_after xs old last new t within end;
      }

  pub transacts_err : {T U : Type 0} (xs : List SqlStatement) (old begun last new : Held S) (t : T) (e cause : Error) → begun ≡ record old { in_transaction = true }
      → Inside g xs begun last (Ok t) → (IsTrue (state g old).is_open → (state g old).now ≡ (state g old).committed)
      → (HasCleanDisk (state g new) → FailsToCommit (state g last) (state g new) cause)
      → Survives (state g last) (state g new) (λ db. db ≡ (state g last).now.trees) → Transacts {T = U} g xs old new (Err e)
  transacts_err {T} xs old begun last new t e cause begins inside settled failed end =
      let within = subst (λ (h : Held S). Inside {T = T} g xs h last (Ok t)) begins inside in
      record {
        all = λ _. tt;
        none = λ clean opened.
            let early : HasCleanDisk (state g last) = omega (arith, end.clean) in
            elim (failed clean) [
              | inl undone ↦ as_before old last new (within.kept early) settled undone.3 opened
              | inr late ↦ absurd (let still = stays xs (record old { in_transaction = true }) last (within.ran early refl) refl in let over = late.1 in cc)
            ];
        crash = crash_after xs old last new t within end;
      }

  -- A transaction of these statements that is ended, and one that is rolled back.
  pub transacts_end : {T U : Type 0} (xs : List SqlStatement) (old begun last new : Held S) (t : T) (r : Result U Error) → begun ≡ record old { in_transaction = true }
      → Inside g xs begun last (Ok t) → (IsTrue (state g old).is_open → (state g old).now ≡ (state g old).committed)
      → (HasCleanDisk (state g new) → OnOk r ((state g new).committed ≡ (state g last).now))
      → (HasCleanDisk (state g new) → IfErr r (FailsToCommit (state g last) (state g new)))
      → Survives (state g last) (state g new) (λ db. db ≡ (state g last).now.trees) → Transacts g xs old new r
  transacts_end xs old begun last new t (Ok u) begins inside settled committed failed end = transacts_ok xs old begun last new t u begins inside committed end
  transacts_end xs old begun last new t (Err e) begins inside settled committed failed end = transacts_err xs old begun last new t e e begins inside settled failed end

  pub transacts_none : {T U : Type 0} (xs : List SqlStatement) (old begun last new : Held S) (e : Error) → begun ≡ record old { in_transaction = true }
      → Inside {T = T} g xs begun last (Err e) → (IsTrue (state g old).is_open → (state g old).now ≡ (state g old).committed)
      → (HasCleanDisk (state g new) → IsRolledBack (state g last) (state g new)) → Survives (state g last) (state g new) (λ _. ⊥) → Transacts {T = U} g xs old new (Err e)
  transacts_none {T} xs old begun last new e begins inside settled undone end =
      let within = subst (λ (h : Held S). Inside {T = T} g xs h last (Err e)) begins inside in
      record {
        all = λ _. tt;
        none = λ clean opened. as_before old last new (within.kept (omega (arith, end.clean))) settled (undone clean) opened;
        crash = crash_without xs old last new (Err e) within end;
      }

  ends_by : (old begun last new : Held S) → begun ≡ record old { in_transaction = true } → KeepsCommit (state g begun) (state g last) → IsRolledBack (state g last) (state g new) → EndsCommitted (state g old) (state g new)
  ends_by old begun last new begins kept undone =
      let within = subst (λ (h : Held S). KeepsCommit (state g h) (state g last)) begins kept in
      record {
        was_open = λ opened. within.was_open (undone.was_open opened);
        settled = λ opened. let back = undone.undone opened in back.0 ∙ sym back.1;
      }

  pub ends_end : {T U : Type 0} (xs : List SqlStatement) (old begun last new : Held S) (t : T) (r : Result U Error) → begun ≡ record old { in_transaction = true } → Inside g xs begun last (Ok t)
      → (HasCleanDisk (state g new) → OnOk r (Shows (state g last) (state g new) (state g last).now (state g last).now false))
      → (HasCleanDisk (state g new) → IfErr r (FailsToCommit (state g last) (state g new)))
      → Survives (state g last) (state g new) (λ db. db ≡ (state g last).now.trees) → HasCleanDisk (state g new) → EndsCommitted (state g old) (state g new)
  ends_end {T} xs old begun last new t (Ok u) begins inside shows failed end clean =
      let kept = subst (λ (h : Held S). KeepsCommit (state g h) (state g last)) begins (inside.kept (omega (arith, end.clean, clean))) in
      let it = shows clean in
      record { was_open = λ opened. kept.was_open it.was_open; settled = λ opened. it.now_is ∙ sym it.committed_is }
  ends_end {T} xs old begun last new t (Err e) begins inside shows failed end clean =
      let early : HasCleanDisk (state g last) = omega (arith, end.clean, clean) in
      let within = subst (λ (h : Held S). Inside {T = T} g xs h last (Ok t)) begins inside in
      elim (failed clean) [
        | inl undone ↦ ends_by old begun last new begins (inside.kept early) undone.3
        | inr late ↦ absurd (let still = stays xs (record old { in_transaction = true }) last (within.ran early refl) refl in let over = late.1 in cc)
      ]

  pub ends_none : {T : Type 0} (xs : List SqlStatement) (old begun last new : Held S) (e : Error) → begun ≡ record old { in_transaction = true } → Inside {T = T} g xs begun last (Err e)
      → (HasCleanDisk (state g new) → IsRolledBack (state g last) (state g new)) → Survives (state g last) (state g new) (λ _. ⊥) → HasCleanDisk (state g new) → EndsCommitted (state g old) (state g new)
  ends_none xs old begun last new e begins inside undone end clean = ends_by old begun last new begins (inside.kept (omega (arith, end.clean, clean))) (undone clean)

-- A row with the schema was queried.
pub found_by_row : {S : Type 0} (g : Ghosts S) (schema : List ℕ) (row : Row) (old new : Held S) (r : Result (Option (List ℕ)) Error)
    → QueriesRow reading [] (state g old) (state g new) (Ok row) → Tells schema row r → FindsSchema g schema old new r
found_by_row g schema row old new (Ok found) asked tells = record { row = row; asked = asked; tells = tells }
found_by_row g schema row old new (Err e) asked tells = record { answer = Ok row; asked = asked }
