-- The facts of one table, and those of one record.
use Rattle.std.proofs.Common.{◌≡◌, ◌≢◌, ◌⊎◌, inl, inr, refl, sym, ap, ap₂, subst, ◌∙◌, ℕ, zero, suc, ◌+◌, ◌^◌, ◌<◌, ◌==◌, Bool, true, false, ◌&&◌, cond, if◌then◌else◌, List, [], ◌∷◌, filter, arith, nat_cmp, is_eq}
use Rattle.std.specs.List.{AllByRecursion}
use Rattle.std.specs.Cmp.Lexicographic.{slice_cmp}
use Rattle.std.proofs.lemmas.Bool.{cases_lt}
use Rattle.jac_rows.specs.declared.row.Row.{Row}
use Rattle.jac_rows.specs.Tables.{rows_of}
use Rattle.jac_keep.specs.Records.{with_id, alternatives, AreOrdered}
use Rattle.jac_keep.proofs.OrderLaws.{ordered-with_id}
use Rattle.jac_keep.proofs.SoundLaws.{all-with_id}
use Rattle.jac_sql_spec.specs.Facts.{Fact, fact_of, id_bytes, count_with, none_yet, numbered_facts, facts, facts_from, IsPlaced, ArePlacedFrom, AreKept, is_fact_in, is_fact_of}
use Rattle.jac_sql_spec.proofs.IdOrder.{cases_same, same_id, other_id}
use Rattle.jac_sql_spec.proofs.FactLaws.{facts_in}

-- One of the tables.
pub table_placed : (first k model : ℕ) (tables : List (List Row)) → model ≡ first + k → ArePlacedFrom first tables → AreOrdered (rows_of tables k) × AllByRecursion (IsPlaced model) (rows_of tables k)
table_placed first zero model [] is kept = (tt, tt)
table_placed first (suc k) model [] is kept = (tt, tt)
table_placed first zero model (t ∷ ts) is kept = let same : first ≡ model = omega (arith, is) in (kept.0, subst (λ m. AllByRecursion (IsPlaced m) t) same kept.1)
table_placed first (suc k) model (t ∷ ts) is kept = table_placed (first + 1) k model ts (omega (arith, is)) kept.2

abbrev has_jid : ℕ → Fact → Bool
has_jid id f = is_eq (slice_cmp nat_cmp f.jid (id_bytes id))

two_tests : (model id : ℕ) (fs : List Fact) → filter (is_fact_of model (id_bytes id)) fs ≡ filter (has_jid id) (filter (is_fact_in model) fs)
two_tests model id [] = refl
two_tests model id (f ∷ fs) = go (is_fact_in model f) (two_tests model id fs)
  where
    go : (b : Bool) → filter (is_fact_of model (id_bytes id)) fs ≡ filter (has_jid id) (filter (is_fact_in model) fs)
        → cond (b && has_jid id f) (f ∷ filter (is_fact_of model (id_bytes id)) fs) (filter (is_fact_of model (id_bytes id)) fs) ≡ filter (has_jid id) (cond b (f ∷ filter (is_fact_in model) fs) (filter (is_fact_in model) fs))
    go true more = ap (λ l. cond (has_jid id f) (f ∷ l) l) more
    go false more = more

-- The alternatives of a record are numbered as in its table.
of_record : (model id : ℕ) (c d : ℕ → ℕ) (rows : List Row) → id < 2 ^ 128 → c id ≡ d id → AllByRecursion (IsPlaced model) rows → filter (has_jid id) (numbered_facts model c rows) ≡ numbered_facts model d (alternatives id rows)
of_record model id c d [] space same placed = refl
of_record model id c d (r ∷ rs) space same placed = elim (cases_same r.id id) [
  | inl is ↦ (
      let e : (r.id == id) ≡ true = grind (arith, is) in
      let t : is_eq (slice_cmp nat_cmp (id_bytes r.id) (id_bytes id)) ≡ true = ap is_eq (ap (λ i. slice_cmp nat_cmp (id_bytes i) (id_bytes id)) is ∙ same_id id) in
      let at : c r.id ≡ d r.id = subst (λ i. c i ≡ d i) (sym is) same in
      rw (t, e) (ap₂ ◌∷◌ (ap (λ n. fact_of model n r) at)
      (of_record model id (count_with r.id c) (count_with r.id d) rs space (ap (λ n. if id == r.id then n + 1 else n) same) placed.1)))
  | inr away ↦ (
      let e : (r.id == id) ≡ false = grind (arith, away) in
      let back : (id == r.id) ≡ false = grind (arith, away) in
      let t : is_eq (slice_cmp nat_cmp (id_bytes r.id) (id_bytes id)) ≡ false = other_id r.id id away placed.0.room space in
      let still : count_with r.id c id ≡ d id = rw back same in
      rw (t, e) (of_record model id (count_with r.id c) d rs space still placed.1))
]

pub facts_of : (model id : ℕ) (tables : List (List Row)) → id < 2 ^ 128 → AreKept tables → filter (is_fact_of model (id_bytes id)) (facts tables) ≡ numbered_facts model none_yet (alternatives id (rows_of tables model))
facts_of model id tables space kept =
    let zero_more : model ≡ 0 + model = omega arith in
    two_tests model id (facts tables) ∙ ap (filter (has_jid id)) (facts_in 0 model model tables zero_more)
    ∙ of_record model id none_yet none_yet (rows_of tables model) space refl (table_placed 0 model model tables zero_more kept).1

pub alternatives_placed : (model id : ℕ) (rows : List Row) → AreOrdered rows × AllByRecursion (IsPlaced model) rows → AreOrdered (alternatives id rows) × AllByRecursion (IsPlaced model) (alternatives id rows)
alternatives_placed model id rows both = (ordered-with_id (λ i. i == id) rows both.0, all-with_id (IsPlaced model) (λ i. i == id) rows both.1)
