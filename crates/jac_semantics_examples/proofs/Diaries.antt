-- Which labels of the diary are live, and what they show.
use Rattle.std.proofs.Common.{◌≡◌, ◌⊎◌, inl, inr, refl, subst, sym, ◌∙◌, ℕ, zero, suc, Bool, true, false, true≢false, if◌then◌else◌, codes, List, [], ◌∷◌, Some, None, slice_get, arith}
use Rattle.std.proofs.lemmas.Bool.Decides.{eqb_tells}
use Rattle.jac_value.specs.declared.value.Value.TheVariants as value
use Rattle.jac_value.specs.Ids.{record_of_label, group_of_label, model_of_id}
use Rattle.jac_world.specs.World.{shown_by}
use Rattle.jac_lang.specs.Lookup.{groups_at}
use Rattle.jac_rows.specs.declared.plain.PlainRow.{PlainRow}
use Rattle.jac_rows.specs.Tables.{rows_of}
use Rattle.jac_plain.specs.World.{record_with}
use Rattle.jac_plain.specs.Expressions.{stands}
use Rattle.jac_plain.specs.Requests.{Worlds}
use Rattle.jac_plain.specs.Policies.{IsLiveLabel, is_allowed, with_label, is_some_group, IsSettled}
use Rattle.jac_semantics_examples.specs.Library.{row}
use Rattle.jac_semantics_examples.specs.Diary.{diary_app, diary_models, diary_with, event_row, guarded_diary, title_group, place_group}

-- A property of one number, or of two, is one of each number that a list of them shows.
pub one_shown : (P : ℕ → Type 0) (a k : ℕ) → P a → shown_by (a ∷ []) k ≡ true → P k
one_shown P a k pa s =
    elim (eqb_tells a k) [
      | inl h ↦ subst P h.1 pa
      | inr h ↦ absurd (let e : false ≡ true = rw h.0 at s in cc)
    ]

pub two_shown : (P : ℕ → Type 0) (a b k : ℕ) → P a → P b → shown_by (a ∷ b ∷ []) k ≡ true → P k
two_shown P a b k pa pb s =
    elim (eqb_tells a k) [
      | inl h ↦ subst P h.1 pa
      | inr h ↦ one_shown P b k pb (rw h.0 at s)
    ]

-- If the first row isn't the record's, the record is among the others.
front_or_behind : (a id : ℕ) (r : PlainRow) (rows : List PlainRow) → r.id ≡ a → stands (record_with id (r ∷ rows)) ≡ true
    → (id ≡ a) ⊎ (stands (record_with id rows) ≡ true)
front_or_behind a id r rows e h =
    elim (eqb_tells r.id id) [
      | inl same ↦ inl (sym same.1 ∙ e)
      | inr other ↦ inr (rw other.0 at h)
    ]

abbrev ann : PlainRow
ann = row 4096 (value.Text (codes "Ann") ∷ [])

abbrev bob : PlainRow
bob = row 4160 (value.Text (codes "Bob") ∷ [])

abbrev event_of : (ℕ → Bool) → PlainRow
event_of w = event_row (if w 65552 then codes "dentist" else codes "private") (Some 4096) false (if w 65553 then codes "clinic" else codes "with 4096")

-- The records of the diary, whatever its event says.
recorded : (event : PlainRow) (id m : ℕ) → event.id ≡ 8194
    → stands (record_with id (rows_of (diary_with event).tables m)) ≡ true → (id ≡ 4096) ⊎ ((id ≡ 4160) ⊎ (id ≡ 8194))
recorded event id zero is_event h =
    elim (front_or_behind 4096 id ann (bob ∷ []) refl h) [
      | inl e ↦ inl e
      | inr g ↦ elim (front_or_behind 4160 id bob [] refl g) [ inl e ↦ inr (inl e) | inr none ↦ absurd (let e : false ≡ true = none in cc) ]
    ]
recorded event id (suc zero) is_event h = absurd (let e : false ≡ true = h in cc)
recorded event id (suc (suc zero)) is_event h =
    elim (front_or_behind 8194 id event [] is_event h) [
      | inl e ↦ inr (inr e)
      | inr none ↦ absurd (let e : false ≡ true = none in cc)
    ]
recorded event id (suc (suc (suc zero))) is_event h = absurd (let e : false ≡ true = h in cc)
recorded event id (suc (suc (suc (suc m)))) is_event h = absurd (let e : false ≡ true = h in cc)

of_two_groups : (n : ℕ) → is_some_group (slice_get (title_group ∷ place_group ∷ []) n) ≡ true → (n ≡ 0) ⊎ (n ≡ 1)
of_two_groups zero h = inl refl
of_two_groups (suc zero) h = inr refl
of_two_groups (suc (suc n)) h = absurd (let e : false ≡ true = h in cc)

-- The group of a label of this record.
grouped : (worlds : Worlds) (k id : ℕ) → IsLiveLabel diary_app worlds k → record_of_label k ≡ id
    → is_some_group (slice_get (groups_at diary_models (model_of_id id)) (group_of_label k)) ≡ true
grouped worlds k id live e =
    subst (λ (i : ℕ). is_some_group (slice_get (groups_at diary_models (model_of_id i)) (group_of_label k)) ≡ true) e live.group

-- The live labels are those of the event's groups, whatever the event says.
pub live_with : (event : (ℕ → Bool) → PlainRow) → ((w : ℕ → Bool) → (event w).id ≡ 8194) → (k : ℕ)
    → IsLiveLabel diary_app (λ w. diary_with (event w)) k → (k ≡ 65552) ⊎ (k ≡ 65553)
live_with event is_event k live =
    elim
    (recorded (event live.seen_by) (record_of_label k) (model_of_id (record_of_label k)) (is_event live.seen_by) live.stands) [
      | inl e ↦ absurd (let no : false ≡ true = grouped (λ w. diary_with (event w)) k 4096 live e in cc)
      | inr (inl e) ↦ absurd (let no : false ≡ true = grouped (λ w. diary_with (event w)) k 4160 live e in cc)
      | inr (inr e) ↦
          elim (of_two_groups (group_of_label k) (grouped (λ w. diary_with (event w)) k 8194 live e)) [
            | inl g ↦ inl (omega (arith, e, g))
            | inr g ↦ inr (omega (arith, e, g))
          ]
    ]

pub live_is : (k : ℕ) → IsLiveLabel diary_app guarded_diary k → (k ≡ 65552) ⊎ (k ≡ 65553)
live_is k live = live_with event_of (λ w. refl) k live

pub title_lives : IsLiveLabel diary_app guarded_diary 65552
title_lives = record { group = refl; seen_by = λ k. true; stands = refl }

pub place_lives : IsLiveLabel diary_app guarded_diary 65553
place_lives = record { group = refl; seen_by = λ k. true; stands = refl }

-- Which labels are settled for which viewers.

pub host_settled : IsSettled diary_app guarded_diary (Some 4096) (65552 ∷ 65553 ∷ [])
host_settled = record {
  ascending = (omega arith, (tt, tt));
  live = λ k s. two_shown (IsLiveLabel diary_app guarded_diary) 65552 65553 k title_lives place_lives s;
  allowed = λ k s. two_shown (λ j. is_allowed diary_app (guarded_diary (shown_by (65552 ∷ 65553 ∷ []))) (Some 4096) j ≡ true) 65552 65553 k refl refl s;
  full = λ k live hidden.
      elim (live_is k live) [
        | inl e ↦ absurd (let no : true ≡ false = rw e at hidden in cc)
        | inr e ↦ absurd (let no : true ≡ false = rw e at hidden in cc)
      ];
}

pub guest_settled : IsSettled diary_app guarded_diary (Some 4160) (65553 ∷ [])
guest_settled = record {
  ascending = (tt, tt);
  live = λ k s. one_shown (IsLiveLabel diary_app guarded_diary) 65553 k place_lives s;
  allowed = λ k s. one_shown (λ j. is_allowed diary_app (guarded_diary (shown_by (65553 ∷ []))) (Some 4160) j ≡ true) 65553 k refl s;
  full = λ k live hidden.
      elim (live_is k live) [
        | inl e ↦ rw e (record { label = 65552; is_shown = refl; forbidden = refl })
        | inr e ↦ absurd (let no : true ≡ false = rw e at hidden in cc)
      ];
}

pub nobody_settled : IsSettled diary_app guarded_diary None []
nobody_settled = record {
  ascending = tt;
  live = λ k s. absurd (let no : false ≡ true = s in cc);
  allowed = λ k s. absurd (let no : false ≡ true = s in cc);
  full = λ k live hidden.
      elim (live_is k live) [
        | inl e ↦ rw e (record { label = 65552; is_shown = refl; forbidden = refl })
        | inr e ↦ rw e (record { label = 65553; is_shown = refl; forbidden = refl })
      ];
}

-- One more label can be added.
pub guest_lacks_place : IsSettled diary_app guarded_diary (Some 4160) [] → ⊥
guest_lacks_place s =
    let f = s.full 65553 place_lives refl in
    true≢false
    (sym (one_shown (λ j. is_allowed diary_app (guarded_diary (with_label 65553 (shown_by []))) (Some 4160) j ≡ true) 65553 f.label refl f.is_shown) ∙ f.forbidden)

-- One label is forbidden.
pub guest_without_title : IsSettled diary_app guarded_diary (Some 4160) (65552 ∷ 65553 ∷ []) → ⊥
guest_without_title s = let no : false ≡ true = s.allowed 65552 refl in cc
