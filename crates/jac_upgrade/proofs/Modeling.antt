-- The alterations of the records of one model after another.
use Rattle.std.proofs.Common.{◌≡◌, ◌∙◌, inl, inr, refl, ap, sym, subst, arith, zero, suc, ℕ, ◌+◌, ◌<◌, ◌==◌, ◌||◌, Bool, true, false, if◌then◌else◌, IsTrue, List, [], ◌∷◌, ◌++◌, length}
use Rattle.std.proofs.lemmas.Bool.{and_parts, cases_lt, eqb-true, or_left, or_right}
use Rattle.std.specs.List.{AllByRecursion}
use Rattle.jac_value.specs.Ids.{is_id_of, is_narrow, is_wide, model_of_id}
use Rattle.jac_lang.specs.Syntax.{Entity}
use Rattle.jac_rows.specs.Good.{IsMade, IsSound, AreRising, AreTablesOf}
use Rattle.jac_rows.specs.Tables.{rows_of}
use Rattle.jac_rows.specs.declared.row.Row.{Row}
use Rattle.jac_rows.specs.declared.state.State.{State}
use Rattle.jac_keep.specs.KeeperSeen.{IsLeft, KeeperSeen}
use Rattle.jac_keep.specs.Records.{AreOrdered}
use Rattle.jac_keep.specs.declared.alteration.Alteration.{Alteration}
use Rattle.jac_keep.proofs.OrderLaws.{ordered_if_rising}
use Rattle.jac_upgrade.specs.Changed.{has_alternative}
use Rattle.jac_upgrade.specs.Steps.{AltersBelow, AltersRows, IsUpgradeIn, IsUpgradeOf, is_changed}
use Rattle.jac_upgrade.proofs.Walking.{all_append, all_mapped, changed_append}

-- A table of a sound state.
pub record IsTableOf (next m : ℕ) (rows : List Row) : Type 0 where
  pub rising : AreRising rows
  pub made : AllByRecursion (λ (r : Row). IsMade m next r.id) rows

table_at : (next from i : ℕ) (tables : List (List Row)) → AreTablesOf AreRising (λ model (r : Row). IsMade model next r.id) from tables → IsTableOf next (from + i) (rows_of tables i)
table_at next from i [] h = record { rising = tt; made = tt }
table_at next from zero (t ∷ ts) h =
    let here : from ≡ from + 0 = omega arith in
    record { rising = h.0; made = subst (λ k. AllByRecursion (λ (r : Row). IsMade k next r.id) t) here h.1 }
table_at next from (suc i) (t ∷ ts) h =
    let same : (from + 1) + i ≡ from + suc i = omega arith in
    subst (λ k. IsTableOf next k (rows_of ts i)) same (table_at next (from + 1) i ts h.2)

pub table_of : (s : State) (m : ℕ) → IsSound s → IsTableOf s.number m (rows_of s.tables m)
table_of s m sound =
    let here : 0 + m ≡ m = omega arith in
    subst (λ k. IsTableOf s.number k (rows_of s.tables m)) here (table_at s.number 0 m s.tables sound.tables)

-- A record that has a row was made.
made_case : (next m id k : ℕ) (b later : Bool) → (k == id) ≡ b → IsMade m next k → (later ≡ true → IsMade m next id) → (if b then true else later) ≡ true → IsMade m next id
made_case next m id k true later same one rest h = subst (λ i. IsMade m next i) (eqb-true k id same) one
made_case next m id k false later same one rest h = rest h

pub made_there : (next m id : ℕ) (rows : List Row) → AllByRecursion (λ (r : Row). IsMade m next r.id) rows → has_alternative id rows ≡ true → IsMade m next id
made_there next m id [] all h = cc
made_there next m id (r ∷ rows) all h =
    made_case next m id r.id (r.id == id) (has_alternative id rows) refl all.0 (λ later. made_there next m id rows all.1 later) h

pub below_none : (olds news : List Entity) (s : State) → AltersBelow olds news s 0 []
below_none olds news s = record { each = tt; named = λ id less h. absurd (omega (arith, less)) }

model_of : (id m : ℕ) → is_id_of id m ≡ true → model_of_id id ≡ m
model_of id m h = eqb-true (model_of_id id) m (and_parts (is_narrow id || is_wide id) (model_of_id id == m) h).1

upgrade_of : (olds news : List Entity) (s : State) (m : ℕ) (a : Alteration) → m < length olds → IsUpgradeIn olds news m (rows_of s.tables m) a → IsUpgradeOf olds news s a
upgrade_of olds news s m a within h =
    let same : m ≡ model_of_id a.id = sym (model_of a.id m h.one) in
    record {
      within = subst (λ k. k < length olds) same within;
      upgrade = subst (λ k. IsUpgradeIn olds news k (rows_of s.tables k) a) same h;
    }

-- One more model.
pub below_next : (olds news : List Entity) (s : State) (m : ℕ) (made new : List Alteration) → IsSound s → m < length olds → AltersBelow olds news s m made
    → AltersRows olds news m (rows_of s.tables m) made new → AltersBelow olds news s (m + 1) new
below_next olds news s m made new sound within below rows =
    let table : IsTableOf s.number m (rows_of s.tables m) = table_of s m sound in
    let ordered : AreOrdered (rows_of s.tables m) = ordered_if_rising (rows_of s.tables m) table.rising in
    let all : AltersBelow olds news s (m + 1) (made ++ rows.more) = record {
      each = all_append (IsUpgradeOf olds news s) made rows.more below.each
          (all_mapped (IsUpgradeIn olds news m (rows_of s.tables m)) (IsUpgradeOf olds news s) rows.more (λ a h. upgrade_of olds news s m a within h) (rows.each ordered));
      named = λ id less there. elim (cases_lt (model_of_id id) m) [
        | inl earlier ↦ changed_append id made rows.more ∙ or_left (is_changed id made) (is_changed id rows.more) (below.named id earlier there)
        | inr later ↦ (
            let same : model_of_id id ≡ m = omega (arith, less, later) in
            let here : has_alternative id (rows_of s.tables m) ≡ true = ap (λ k. has_alternative id (rows_of s.tables k)) (sym same) ∙ there in
            let one : is_id_of id m ≡ true = (made_there s.number m id (rows_of s.tables m) table.made here).is_one in
            changed_append id made rows.more ∙ or_right (is_changed id made) (is_changed id rows.more) (rows.named ordered id one here))
      ];
    } in
    subst (λ xs. AltersBelow olds news s (m + 1) xs) (sym rows.added) all

-- Two spans without a write.
pub left_then : (a b d : KeeperSeen) → IsLeft a b → IsLeft b d → IsLeft a d
left_then a b d first second = record {
  later = omega (arith, first.later, second.later);
  told = λ told. first.told (second.told told);
  same_state = λ told. second.same_state told ∙ first.same_state (second.told told);
  same_store = second.same_store ∙ first.same_store;
}

-- One more model, if the contents of the keeper are known.
pub below_step : (olds news : List Entity) (a b d : KeeperSeen) (m : ℕ) (made new : List Alteration) → IsLeft a b → IsLeft b d → m < length olds
    → (IsTrue b.tells → AltersBelow olds news a.state m made) → (IsTrue d.tells → IsSound b.state) → (IsTrue d.tells → AltersRows olds news m (rows_of b.state.tables m) made new)
    → IsTrue d.tells → AltersBelow olds news a.state (m + 1) new
below_step olds news a b d m made new first second within below sound rows told =
    let before : IsTrue b.tells = second.told told in
    let same : b.state ≡ a.state = first.same_state before in
    below_next olds news a.state m made new (subst IsSound same (sound told)) within (below before) (subst (λ s. AltersRows olds news m (rows_of s.tables m) made new) same (rows told))
