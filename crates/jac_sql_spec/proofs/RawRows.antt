-- What the queries of attaching show of the stored rows, which are lines.
use Rattle.std.proofs.Common.{◌≡◌, refl, sym, ap, ap₂, subst, ◌∙◌, ℕ, zero, suc, ℤ, pos, Bool, true, false, ◌&&◌, ◌||◌, not, List, [], ◌∷◌, ◌++◌, map, flat_map, length, codes, Option, Some, None, Less, is_eq, int_cmp, Ordering, Equal, Greater, arith}
use Rattle.std.specs.List.{AllByRecursion}
use Rattle.std.specs.List.Sorted.{IsPermutation}
use Rattle.std.specs.Prelude.{◌<ℤ◌, drop, ⊤}
use Rattle.std.specs.Ordering.{ordering_reverse}
use Rattle.std.proofs.lemmas.Cmp.{int_cmp_total}
use Rattle.std.proofs.lemmas.List.Sorted.{IsPermutation-map, IsPermutation-sym, IsPermutation-trans, length_permutation}
use Rattle.std.proofs.lemmas.Bool.{and_parts}
use Rattle.sqlite_trees.specs.Tree.{Trees, IsAscending}
use Rattle.sqlite_trees.proofs.ListLemmas.{all-permutation}
use Rattle.sqlite_value.specs.declared.value.Value.{Value}
use Rattle.sqlite_value.specs.declared.value.Value.TheVariants.{Null, Int, Real, Text, Blob}
use Rattle.sqlite_value.specs.Order.{Row as Values, column}
use Rattle.sqlite_sql.specs.Ops.{is_null}
use Rattle.sqlite_schema.specs.Rules.{passes, Keeps, suits, has_computed}
use Rattle.sqlite_schema.specs.declared.schema.Kind.TheVariants.{Integer, Blob as Bytes, Text as Words}
use Rattle.sqlite_schema.specs.declared.schema.Schema.{Schema}
use Rattle.sqlite_schema.specs.declared.schema.Constraint.TheVariants.{Datatype, NotNull}
use Rattle.sqlite.specs.Edit.{id_in}
use Rattle.sqlite.specs.Effect.{Database, IsDatabase}
use Rattle.sqlite.specs.Term.{col}
use Rattle.sqlite.specs.Query.{Query, IsAnswer, Output, output, inner, end, matches}
use Rattle.sqlite.specs.Program.{overlay}
use Rattle.sqlite.specs.State.{State as Sql, Shown}
use Rattle.sqlite.specs.Listing.{understood, reads_listing}
use Rattle.sqlite.specs.Command.TheVariants.{Select}
use Rattle.sqlite_tied.specs.Compute.{everything}
use Rattle.sqlite.proofs.Callers.{IsPlain, command_of, reads_as, one_permutation}
use Rattle.sqlite_keyed.proofs.KeyedLemmas.{Less-from_lt, lt_from_Less}
use Rattle.sqlite_keyed.proofs.ListLemmas.{map-map, ascending_weaker, ascending_from_map}
use Rattle.jac_sql_spec.specs.Facts.{Fact}
use Rattle.jac_sql_spec.specs.Lines.{Line, encode}
use Rattle.jac_sql_spec.specs.Stands.{fact, AreDistinct, Holds}
use Rattle.jac_sql_spec.specs.Tables.{two_tables, strict, meta, rec}
use Rattle.jac_sql_spec.specs.Testing.{fact_shown, IsLineShown, IsAbove, AreAbove, AreRowidsApart}
use Rattle.jac_sql_spec.specs.Told.{natural_in, bytes_in_value}
use Rattle.jac_sql_spec.proofs.Permuted.{apart_permuted}
use Rattle.jac_sql_spec.proofs.Texts.{over, by, all_text, all_is}

-- ---- the two texts

abbrev pub key_text : List ℕ
key_text = codes "SELECT k FROM meta"

pub key_plain : IsPlain (understood (two_tables 0 1 2) key_text) × (reads_listing (two_tables 0 1 2) key_text ≡ false)
unfolding understood everything
key_plain = ((refl, refl), refl)

pub all_plain : IsPlain (understood (two_tables 0 1 2) all_text) × (reads_listing (two_tables 0 1 2) all_text ≡ false)
unfolding understood everything
all_plain = ((refl, refl), refl)

abbrev of_keys : Query
of_keys = over 0 [] (col 1 0 ∷ []) []

abbrev of_all : Query
of_all = over 1 [] (col 1 1 ∷ col 1 2 ∷ col 1 3 ∷ col 1 4 ∷ col 1 5 ∷ col 1 0 ∷ []) (by 1 ∷ by 2 ∷ by 3 ∷ [])

key_is : command_of (understood (two_tables 0 1 2) key_text) ≡ Select (record { lets = []; body = of_keys }) (codes "k" ∷ [])
unfolding understood everything
key_is = refl

-- ---- each row is shown, in some order

abbrev pub first_shown : Values → Values
first_shown r = column r 0 ∷ []

abbrev line_shown : Values → Values
line_shown r = column r 1 ∷ column r 2 ∷ column r 3 ∷ column r 4 ∷ column r 5 ∷ []

-- A row, with its rowid after the other columns.
abbrev pub whole_shown : Values → Values
whole_shown r = column r 1 ∷ column r 2 ∷ column r 3 ∷ column r 4 ∷ column r 5 ∷ column r 0 ∷ []

each_match : (rows : List Values) → flat_map (λ r. ([] ∷ r ∷ []) ∷ []) rows ≡ map (λ r. [] ∷ r ∷ []) rows
each_match [] = refl
each_match (r ∷ rs) = ap (λ l. ([] ∷ r ∷ []) ∷ l) (each_match rs)

each_shown : (q : Query) (rows found : List Values) (shows : Values → Values) → ((r : Values) → (output q ([] ∷ r ∷ [])).1 ≡ shows r) → (ordered kept : List Output)
    → kept ≡ map (output q) (map (λ r. [] ∷ r ∷ []) rows) → IsPermutation kept ordered → found ≡ map (λ (o : Output). o.1) ordered → IsPermutation (map shows rows) found
each_shown q rows found shows same ordered kept is moved shown =
    let whole : kept ≡ map (λ r. output q ([] ∷ r ∷ [])) rows = is ∙ map-map (output q) (λ r. [] ∷ r ∷ []) rows in
    let left : map (λ (o : Output). o.1) kept ≡ map shows rows = ap (map (λ (o : Output). o.1)) whole ∙ map-map (λ (o : Output). o.1) (λ r. output q ([] ∷ r ∷ [])) rows ∙ (λ i. map (λ r. same r i) rows) in
    subst (λ xs. IsPermutation xs found) left (subst (IsPermutation (map (λ (o : Output). o.1) kept)) (sym shown) (IsPermutation-map (λ (o : Output). o.1) kept ordered moved))

module _ (old new : Sql) (found : List Values) (has : old.now.schema ≡ two_tables 0 1 2) where
  pub keys_shown : Shown key_text [] old new found → IsPermutation (map first_shown (old.now.trees 0)) found
  keys_shown h =
      let db = overlay old.now.trees [] in
      let a : IsAnswer of_keys db [] found = (reads_as key_text [] old new (two_tables 0 1 2) has _ key_is key_plain.0 key_plain.1 found h).answer Null in
      each_shown of_keys (old.now.trees 0) found first_shown (λ r. refl) a.ordered a.kept (a.distinct ∙ ap (map (output of_keys)) (a.grouped ∙ each_match (old.now.trees 0))) a.same a.shown

  pub all_shown : Shown all_text [] old new found → IsPermutation (map whole_shown (old.now.trees 1)) found
  all_shown h =
      let db = overlay old.now.trees [] in
      let a : IsAnswer of_all db [] found = (reads_as all_text [] old new (two_tables 0 1 2) has _ all_is all_plain.0 all_plain.1 found h).answer Null in
      each_shown of_all (old.now.trees 1) found whole_shown (λ r. refl) a.ordered a.kept (a.distinct ∙ ap (map (output of_all)) (a.grouped ∙ each_match (old.now.trees 1))) a.same a.shown

-- ---- rowids that rise

-- A row shows a rowid greater than `last`.
record IsRowidAbove (last : Option ℤ) (v : Values) (at : ℤ) : Type 0 where
  shown : column v 0 ≡ Int at
  above : IsAbove last at

abbrev AreRowidsAbove : Option ℤ → List Values → Type 0
AreRowidsAbove last [] = ⊤
AreRowidsAbove last (v ∷ vs) = (at : ℤ) × IsRowidAbove last v at × AreRowidsAbove (Some at) vs

abbrev id_shown : Values → ℤ
id_shown v = id_in (column v 0)

same_id : (v : Values) (at : ℤ) → column v 0 ≡ Int at → id_shown v ≡ at
same_id v at is = ap id_in is

lower : (a b c : ℤ) → a <ℤ b → b <ℤ c → a <ℤ c
lower a b c one two = lt_from_Less a c (int_cmp_total.trans a b c (Less-from_lt a b one) (Less-from_lt b c two))

before_all : (last least : ℤ) (vs : List Values) → last <ℤ least → AreRowidsAbove (Some least) vs → AllByRecursion (λ v. int_cmp last (id_shown v) ≡ Less) vs
before_all last least [] less are = tt
before_all last least (v ∷ vs) less are =
    let below : last <ℤ are.0 = lower last least are.0 less are.1.above in
    (ap (int_cmp last) (same_id v are.0 are.1.shown) ∙ Less-from_lt last are.0 below, before_all last are.0 vs below are.2)

after_first : (at : ℤ) (vs : List Values) → AreRowidsAbove (Some at) vs → AllByRecursion (λ v. int_cmp at (id_shown v) ≡ Less) vs
after_first at [] are = tt
after_first at (v ∷ vs) are = (ap (int_cmp at) (same_id v are.0 are.1.shown) ∙ Less-from_lt at are.0 are.1.above, before_all at are.0 vs are.1.above are.2)

rising : (last : Option ℤ) (vs : List Values) → AreRowidsAbove last vs → IsAscending (λ a b. int_cmp (id_shown a) (id_shown b) ≡ Less) vs
rising last [] are = tt
rising last (v ∷ vs) are =
    (subst (λ (n : ℤ). AllByRecursion (λ x. int_cmp n (id_shown x) ≡ Less) vs) (sym (same_id v are.0 are.1.shown)) (after_first are.0 vs are.2), rising (Some are.0) vs are.2)

are_ids : (last : Option ℤ) (vs : List Values) → AreRowidsAbove last vs → AllByRecursion (λ v. column v 0 ≡ Int (id_shown v)) vs
are_ids last [] are = tt
are_ids last (v ∷ vs) are = (are.1.shown ∙ ap Int (sym (same_id v are.0 are.1.shown)), are_ids (Some are.0) vs are.2)

untied : (x y : Values) → is_eq (int_cmp (id_shown x) (id_shown y)) ≡ false → is_eq (int_cmp (id_shown y) (id_shown x)) ≡ false
untied x y h = go (int_cmp (id_shown x) (id_shown y)) (int_cmp (id_shown y) (id_shown x)) (int_cmp_total.antisymm (id_shown y) (id_shown x)) h
  where
    go : (o p : Ordering) → p ≡ ordering_reverse o → is_eq o ≡ false → is_eq p ≡ false
    go Less p e h = ap is_eq e
    go Equal p e h = ap is_eq e ∙ h
    go Greater p e h = ap is_eq e

-- ---- a row of rec is a line

abbrev pub line_in : Values → Line
line_in r = record { at = id_in (column r 0); model = natural_in (column r 1); jid = bytes_in_value (column r 2); alt = natural_in (column r 3); jvars = bytes_in_value (column r 4); body = bytes_in_value (column r 5) }

null_blob : (b : List ℕ) → Null ≡ Blob b → ⊥
null_blob b e = cc

never : false ≡ true → ⊥
never e = cc

no_seventh : (a b c d e f : Bool) → ((a && (b && (c && (d && (e && false))))) && f) ≡ true → ⊥
no_seventh false b c d e f h = never h
no_seventh true false c d e f h = never h
no_seventh true true false d e f h = never h
no_seventh true true true false e f h = never h
no_seventh true true true true false f h = never h
no_seventh true true true true true f h = never h

raw_line : (schema : Schema) (db : Trees) (r : Values) → column r 0 ≡ Int (id_in (column r 0)) → IsLineShown (line_shown r) (fact_shown (line_shown r)) → passes Datatype schema db (rec 1) r ≡ true → encode (line_in r) ≡ r
raw_line schema db [] id is typed = absurd (null_blob _ is.body)
raw_line schema db (v0 ∷ []) id is typed = absurd (null_blob _ is.body)
raw_line schema db (v0 ∷ v1 ∷ []) id is typed = absurd (null_blob _ is.body)
raw_line schema db (v0 ∷ v1 ∷ v2 ∷ []) id is typed = absurd (null_blob _ is.body)
raw_line schema db (v0 ∷ v1 ∷ v2 ∷ v3 ∷ []) id is typed = absurd (null_blob _ is.body)
raw_line schema db (v0 ∷ v1 ∷ v2 ∷ v3 ∷ v4 ∷ []) id is typed = absurd (null_blob _ is.body)
raw_line schema db (v0 ∷ v1 ∷ v2 ∷ v3 ∷ v4 ∷ v5 ∷ []) id is typed =
    let model = is.model in
    let jid = is.jid in
    let alt = is.alt in
    let jvars = is.jvars in
    let body = is.body in
    λ i. sym id i ∷ sym model i ∷ sym jid i ∷ sym alt i ∷ sym jvars i ∷ sym body i ∷ []
raw_line schema db (v0 ∷ v1 ∷ v2 ∷ v3 ∷ v4 ∷ v5 ∷ v6 ∷ more) id is typed =
    absurd (no_seventh (suits (strict (codes "model") Integer) v1) (suits (strict (codes "jid") Bytes) v2) (suits (strict (codes "alt") Integer) v3) (suits (strict (codes "jvars") Bytes) v4) (suits (strict (codes "body") Bytes) v5)
    (has_computed (rec 1) (v0 ∷ v1 ∷ v2 ∷ v3 ∷ v4 ∷ v5 ∷ v6 ∷ more)) typed)

raw_lines : (schema : Schema) (db : Trees) (rows : List Values) → AllByRecursion (λ r. column r 0 ≡ Int (id_in (column r 0))) rows → AllByRecursion (λ r. IsLineShown (line_shown r) (fact_shown (line_shown r))) rows
    → AllByRecursion (λ r. passes Datatype schema db (rec 1) r ≡ true) rows → rows ≡ map encode (map line_in rows)
raw_lines schema db [] ids are typed = refl
raw_lines schema db (r ∷ rs) ids are typed = ap₂ ◌∷◌ (sym (raw_line schema db r ids.0 are.0 typed.0)) (raw_lines schema db rs ids.1 are.1 typed.1)

all_mapped : {X : Type 0} (P : X → Type 0) (f : Values → X) (rows : List Values) → AllByRecursion P (map f rows) → AllByRecursion (λ r. P (f r)) rows
all_mapped P f [] all = tt
all_mapped P f (r ∷ rs) all = (all.0, all_mapped P f rs all.1)

ascending_mapped : {X : Type 0} (R : X → X → Type 0) (f : Values → X) (rows : List Values) → IsAscending R (map f rows) → IsAscending (λ a b. R (f a) (f b)) rows
ascending_mapped R f [] up = tt
ascending_mapped R f (r ∷ rs) up = (all_mapped (R (f r)) f rs up.0, ascending_mapped R f rs up.1)

map_ascending : {X : Type 0} (R : X → X → Type 0) (f : Values → X) (rows : List Values) → IsAscending (λ a b. R (f a) (f b)) rows → IsAscending R (map f rows)
map_ascending R f [] up = tt
map_ascending R f (r ∷ rs) up = (map_all rs up.0, map_ascending R f rs up.1)
  where
    map_all : (ys : List Values) → AllByRecursion (λ y. R (f r) (f y)) ys → AllByRecursion (R (f r)) (map f ys)
    map_all [] all = tt
    map_all (y ∷ ys) all = (all.0, map_all ys all.1)

-- If the rowids rise and the rows are shown as lines, the table holds the facts of these rows.
raw_holds : (schema : Schema) (db : Trees) (ids found : List Values) → Keeps Datatype (two_tables 0 1 2) db → IsPermutation (map first_shown (db 1)) ids → AreRowidsAbove None ids
    → IsPermutation (map line_shown (db 1)) found → AllByRecursion (λ v. IsLineShown v (fact_shown v)) found → Holds (db 1) (map fact_shown found)
raw_holds schema db ids found typed moved_ids are_rising moved are =
    let rows = db 1 in
    let back = IsPermutation-sym (map first_shown rows) ids moved_ids in
    let rowids : AllByRecursion (λ r. column r 0 ≡ Int (id_in (column r 0))) rows =
    all_mapped (λ v. column v 0 ≡ Int (id_shown v)) first_shown rows (all-permutation (λ v. column v 0 ≡ Int (id_shown v)) ids (map first_shown rows) back (are_ids None ids are_rising)) in
    let lines : AllByRecursion (λ r. IsLineShown (line_shown r) (fact_shown (line_shown r))) rows =
    all_mapped (λ v. IsLineShown v (fact_shown v)) line_shown rows (all-permutation (λ v. IsLineShown v (fact_shown v)) found (map line_shown rows) (IsPermutation-sym (map line_shown rows) found moved) are) in
    let apart : IsAscending (λ a b. is_eq (int_cmp (id_shown a) (id_shown b)) ≡ false) (map first_shown rows) =
    apart_permuted (λ a b. is_eq (int_cmp (id_shown a) (id_shown b)) ≡ false) untied ids (map first_shown rows) back
    (ascending_weaker (λ a b. int_cmp (id_shown a) (id_shown b) ≡ Less) (λ a b. is_eq (int_cmp (id_shown a) (id_shown b)) ≡ false) (λ a b e. ap is_eq e) ids (rising None ids are_rising)) in
    record {
      lines = map line_in rows;
      stored = raw_lines (two_tables 0 1 2) db rows rowids lines typed.1.0;
      rowids = map_ascending (λ (a b : Line). is_eq (int_cmp a.at b.at) ≡ false) line_in rows (ascending_mapped (λ a b. is_eq (int_cmp (id_shown a) (id_shown b)) ≡ false) first_shown rows apart);
      same = subst (λ fs. IsPermutation fs (map fact_shown found)) (map-map fact_shown line_shown rows ∙ sym (map-map fact line_in rows)) (IsPermutation-map fact_shown (map line_shown rows) found moved);
    }

-- ---- rows with their rowids

-- What such a row shows without its rowid.
abbrev shown_line : Values → Values
shown_line v = column v 0 ∷ column v 1 ∷ column v 2 ∷ column v 3 ∷ column v 4 ∷ []

abbrev shown_id : Values → Values
shown_id v = column v 5 ∷ []

abbrev one_value : Value → Values
one_value v = v ∷ []

abbrev one_id : ℤ → Values
one_id at = Int at ∷ []

above_shown : (last : Option ℤ) (ids : List ℤ) → AreAbove last ids → AreRowidsAbove last (map one_id ids)
above_shown last [] are = tt
above_shown last (at ∷ ids) are = (at, record { shown = refl; above = are.0 }, above_shown (Some at) ids are.1)

lines_shown : (found : List Values) → AllByRecursion (λ v. IsLineShown v (fact_shown v)) found → AllByRecursion (λ v. IsLineShown v (fact_shown v)) (map shown_line found)
lines_shown [] are = tt
lines_shown (v ∷ vs) are = let is = are.0 in (record { model = is.model; jid = is.jid; alt = is.alt; jvars = is.jvars; body = is.body }, lines_shown vs are.1)

-- If no rowid comes twice and the rows are shown as lines, the table holds the facts of these rows.
pub whole_holds : (db : Trees) (found : List Values) → Keeps Datatype (two_tables 0 1 2) db → IsPermutation (map whole_shown (db 1)) found → AreRowidsApart found → AllByRecursion (λ v. IsLineShown v (fact_shown v)) found
    → Holds (db 1) (map fact_shown found)
whole_holds db found typed moved apart are =
    let rows = db 1 in
    let lines : IsPermutation (map line_shown rows) (map shown_line found) =
    subst (λ xs. IsPermutation xs (map shown_line found)) (map-map shown_line whole_shown rows) (IsPermutation-map shown_line (map whole_shown rows) found moved) in
    let shown : IsPermutation (map first_shown rows) (map shown_id found) =
    subst (λ xs. IsPermutation xs (map shown_id found)) (map-map shown_id whole_shown rows) (IsPermutation-map shown_id (map whole_shown rows) found moved) in
    let same : map shown_id found ≡ map one_id apart.rowids =
    sym (map-map one_value (λ v. column v 5) found) ∙ ap (map one_value) apart.shown ∙ map-map one_value Int apart.rowids in
    let ids : IsPermutation (map first_shown rows) (map one_id apart.rising) =
    IsPermutation-trans (map first_shown rows) (map one_id apart.rowids) (map one_id apart.rising) (subst (IsPermutation (map first_shown rows)) same shown)
    (IsPermutation-map one_id apart.rowids apart.rising apart.moved) in
    subst (Holds rows) (map-map fact_shown shown_line found)
    (raw_holds (two_tables 0 1 2) db (map one_id apart.rising) (map shown_line found) typed ids (above_shown None apart.rising apart.are) lines (lines_shown found are))

-- ---- the row of meta

is_nothing : (v : Value) → is_null v ≡ true → v ≡ Null
is_nothing Null e = refl
is_nothing (Int n) e = let f : false ≡ true = e in cc
is_nothing (Real x) e = let f : false ≡ true = e in cc
is_nothing (Text t) e = let f : false ≡ true = e in cc
is_nothing (Blob b) e = let f : false ≡ true = e in cc

-- A row of `meta` with its key, a number and a schema.
pub record IsMetaRow (r : Values) : Type 0 where
  pub number : Value
  pub schema : Value
  pub is : r ≡ Int (pos 0) ∷ Null ∷ number ∷ schema ∷ []

no_third : (a : Bool) → (a && false) ≡ true → ⊥
no_third false h = never h
no_third true h = never h

no_fifth : (a b c f : Bool) → ((a && (b && (c && false))) && f) ≡ true → ⊥
no_fifth false b c f h = never h
no_fifth true false c f h = never h
no_fifth true true false f h = never h
no_fifth true true true f h = never h

raw_meta : (schema : Schema) (db : Trees) (r : Values) → column r 0 ≡ Int (pos 0) → passes Datatype schema db (meta 0) r ≡ true → passes NotNull schema db (meta 0) r ≡ true → IsMetaRow r
raw_meta schema db [] key typed present = absurd (let e : Null ≡ Int (pos 0) = key in cc)
raw_meta schema db (v0 ∷ []) key typed present = absurd (never present)
raw_meta schema db (v0 ∷ v1 ∷ []) key typed present = absurd (never present)
raw_meta schema db (v0 ∷ v1 ∷ v2 ∷ []) key typed present = absurd (no_third (not (is_null v2)) present)
raw_meta schema db (v0 ∷ v1 ∷ v2 ∷ v3 ∷ []) key typed present =
    let empty = is_nothing v1 (and_parts (is_null v1) (suits (strict (codes "number") Integer) v2 && (suits (strict (codes "schema") Words) v3 && true))
    (and_parts (is_null v1 && (suits (strict (codes "number") Integer) v2 && (suits (strict (codes "schema") Words) v3 && true))) (has_computed (meta 0) (v0 ∷ v1 ∷ v2 ∷ v3 ∷ [])) typed).0).0 in
    record { number = v2; schema = v3; is = λ i. key i ∷ empty i ∷ v2 ∷ v3 ∷ [] }
raw_meta schema db (v0 ∷ v1 ∷ v2 ∷ v3 ∷ v4 ∷ more) key typed present =
    absurd (no_fifth (is_null v1) (suits (strict (codes "number") Integer) v2) (suits (strict (codes "schema") Words) v3) (has_computed (meta 0) (v0 ∷ v1 ∷ v2 ∷ v3 ∷ v4 ∷ more)) typed)

-- If one row is shown, the table has one row.
one_row : (rows found : List Values) (only : Values) → IsPermutation (map first_shown rows) found → found ≡ only ∷ [] → (r : Values) × (rows ≡ r ∷ []) × (first_shown r ≡ only)
one_row rows found only moved one =
    let back : IsPermutation (only ∷ []) (map first_shown rows) = subst (λ vs. IsPermutation vs (map first_shown rows)) one (IsPermutation-sym (map first_shown rows) found moved) in
    alone rows (one_permutation only (map first_shown rows) back)
  where
    alone : (rs : List Values) → map first_shown rs ≡ only ∷ [] → (r : Values) × (rs ≡ r ∷ []) × (first_shown r ≡ only)
    alone [] e = absurd (let long = ap length e in let none : length {A = Values} [] ≡ 0 = refl in let some : length (only ∷ []) ≡ 1 = refl in omega (arith, long, none, some))
    alone (r ∷ []) e = (r, refl, (let first : first_shown r ≡ only = cc in first))
    alone (r ∷ s ∷ rs) e = absurd (let long = ap length e in let some : length (only ∷ []) ≡ 1 = refl in let more : length (first_shown r ∷ first_shown s ∷ map first_shown rs) ≡ suc (suc (length (map first_shown rs))) = refl in omega (arith, long, some, more))

pub raw_one : (db : Trees) (found : List Values) (only : Values) → Keeps Datatype (two_tables 0 1 2) db → Keeps NotNull (two_tables 0 1 2) db → IsPermutation (map first_shown (db 0)) found → found ≡ only ∷ [] → column only 0 ≡ Int (pos 0)
    → (r : Values) × (db 0 ≡ r ∷ []) × IsMetaRow r
raw_one db found only typed present moved one key =
    let it = one_row (db 0) found only moved one in
    let all = subst (AllByRecursion (λ r. passes Datatype (two_tables 0 1 2) db (meta 0) r ≡ true)) it.1 typed.0 in
    let some = subst (AllByRecursion (λ r. passes NotNull (two_tables 0 1 2) db (meta 0) r ≡ true)) it.1 present.0 in
    let first : column it.0 0 ≡ Int (pos 0) = ap (λ (v : Values). column v 0) it.2 ∙ key in
    (it.0, it.1, raw_meta (two_tables 0 1 2) db it.0 first all.0 some.0)
