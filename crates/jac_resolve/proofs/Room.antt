-- The bound on evaluations that are left, over plain lists.
use Rattle.std.proofs.Common.{◌≡◌, ◌≢◌, ◌==◌, ◌≤◌, ◌+◌, ◌*◌, ◌&&◌, ◌||◌, ℕ, zero, suc, Bool, true, false, if◌then◌else◌, List, [], ◌∷◌, Option, Some, None, length, refl, ap, sym, subst, ◌∙◌, arith}
use Rattle.std.specs.Option.{is_some}
use Rattle.std.proofs.lemmas.Bool.Decides.{Decides-eqb}
use Rattle.jac_value.specs.Ids.{label_of, record_of_label, group_of_label}
use Rattle.jac_world.specs.World.{shown_by, holds, names, IsAscending}
use Rattle.jac_world.proofs.Bisected.{ascending_same}
use Rattle.jac_world.proofs.Contradict.{by_names}
use Rattle.jac_lang.specs.Syntax.{Application}
use Rattle.jac_rows.specs.declared.state.State.{State}
use Rattle.jac_plain.specs.Requests.{Worlds}
use Rattle.jac_plain.specs.Shown.{worlds_of}
use Rattle.jac_shown_rows.specs.Local.{IsLocalCase}
use Rattle.jac_resolve.specs.Rounds.{AreFewEvaluations, AreLive}
use Rattle.jac_policy_cache.proofs.Rising.{bool_eq}
use Rattle.jac_policy_cache.specs.declared.policy_memo.PolicyMemo.{PolicyMemo}
use Rattle.jac_policy_cache.specs.declared.policy_memo.MemoEntry.{MemoEntry}
use Rattle.jac_policy_cache.specs.Memo.{or_known, recall, signed_labels, watches}
use Rattle.jac_resolve.specs.RightMemo.{Grown}
use Rattle.jac_resolve.specs.Room.{AreLocalAnswers, IsEmptyMemo, Spends, room, unknown_signs, with_sign}
use Rattle.jac_resolve.proofs.Underway.{either, known_if, or_same}

less_if : (a b : Bool) → (a ≡ true → b ≡ true) → (if b then 0 else 1) ≤ (if a then 0 else 1)
less_if true true h = omega arith
less_if true false h = absurd (let e : false ≡ true = h refl in cc)
less_if false true h = omega arith
less_if false false h = omega arith

-- If known results stay known, no more are unknown.
unknown_less : (n id : ℕ) (f g : (ℕ → Bool) → Option Bool) (w : ℕ → Bool) → ((v : ℕ → Bool) → is_some (f v) ≡ true → is_some (g v) ≡ true) → unknown_signs n id g w ≤ unknown_signs n id f w
unfolding unknown_signs
unknown_less zero id f g w more = less_if (is_some (f w)) (is_some (g w)) (more w)
unknown_less (suc n) id f g w more =
    let a = unknown_less n id f g (with_sign (label_of id n) true w) more in
    let b = unknown_less n id f g (with_sign (label_of id n) false w) more in
    omega (arith, a, b)

-- Results that depend only on labels of a record.
abbrev pub DependsOn : ℕ → ((ℕ → Bool) → Option Bool) → Type 0
DependsOn id f = (v w : ℕ → Bool) → ((j : ℕ) → record_of_label j ≡ id → v j ≡ w j) → f v ≡ f w

-- Assignments that agree on the labels of a record, from a group on.
abbrev pub AlikeFrom : ℕ → ℕ → (ℕ → Bool) → (ℕ → Bool) → Type 0
AlikeFrom n id u w = (j : ℕ) → record_of_label j ≡ id → n ≤ group_of_label j → u j ≡ w j

alike_next : (n id : ℕ) (u w : ℕ → Bool) (b : Bool) → AlikeFrom (suc n) id u w → u (label_of id n) ≡ b → AlikeFrom n id u (with_sign (label_of id n) b w)
alike_next n id u w b alike is j of_record from = alike_if (label_of id n == j) refl
  where
    alike_if : (same : Bool) → (label_of id n == j) ≡ same → u j ≡ (if same then b else w j)
    alike_if true e = ap u (sym ((Decides-eqb (label_of id n) j).0 e)) ∙ is
    alike_if false e = alike j of_record (let apart : label_of id n ≢ j = λ s. (let t : (label_of id n == j) ≡ true = (Decides-eqb (label_of id n) j).1 s in let u : true ≡ false = sym t ∙ e in cc) in omega (arith, of_record, from, apart))

falls_at : (a b : Option Bool) → a ≡ None → is_some b ≡ true → (if is_some b then 0 else 1) + 1 ≤ (if is_some a then 0 else 1)
falls_at None (Some x) e h = omega arith
falls_at None None e h = absurd cc
falls_at (Some y) b e h = absurd cc

-- A result that becomes known lowers the count of unknown ones.
unknown_falls : (n id : ℕ) (f g : (ℕ → Bool) → Option Bool) (u w : ℕ → Bool) → DependsOn id f → DependsOn id g → ((v : ℕ → Bool) → is_some (f v) ≡ true → is_some (g v) ≡ true) →
    f u ≡ None → is_some (g u) ≡ true → AlikeFrom n id u w → unknown_signs n id g w + 1 ≤ unknown_signs n id f w
unfolding unknown_signs
unknown_falls zero id f g u w f_own g_own more none some alike =
    let same : (j : ℕ) → record_of_label j ≡ id → u j ≡ w j = λ j of_record. alike j of_record (omega arith) in
    falls_at (f w) (g w) (sym (f_own u w same) ∙ none) (ap is_some (sym (g_own u w same)) ∙ some)
unknown_falls (suc n) id f g u w f_own g_own more none some alike =
    falls_if (u (label_of id n)) refl
    (λ b is. unknown_falls n id f g u (with_sign (label_of id n) b w) f_own g_own more none some (alike_next n id u w b alike is))
    (λ b. unknown_less n id f g (with_sign (label_of id n) b w) more)
  where
    falls_if : (b : Bool) → u (label_of id n) ≡ b →
        ((b : Bool) → u (label_of id n) ≡ b → unknown_signs n id g (with_sign (label_of id n) b w) + 1 ≤ unknown_signs n id f (with_sign (label_of id n) b w)) →
        ((b : Bool) → unknown_signs n id g (with_sign (label_of id n) b w) ≤ unknown_signs n id f (with_sign (label_of id n) b w)) →
        unknown_signs (suc n) id g w + 1 ≤ unknown_signs (suc n) id f w
    falls_if true is here other = let a = here true is in let b = other false in omega (arith, a, b)
    falls_if false is here other = let a = here false is in let b = other true in omega (arith, a, b)

-- Two to this power.
doubled : ℕ → ℕ
doubled zero = 1
doubled (suc n) = doubled n + doubled n

unknown_most : (n id : ℕ) (f : (ℕ → Bool) → Option Bool) (w : ℕ → Bool) → unknown_signs n id f w ≤ doubled n
unfolding unknown_signs doubled
unknown_most zero id f w = one_if (is_some (f w))
  where
    one_if : (b : Bool) → (if b then 0 else 1) ≤ 1
    one_if true = omega arith
    one_if false = omega arith
unknown_most (suc n) id f w =
    let a = unknown_most n id f (with_sign (label_of id n) true w) in
    let b = unknown_most n id f (with_sign (label_of id n) false w) in
    omega (arith, a, b)

-- The labels of a record belong to its first eight groups.
all_alike : (id : ℕ) (u w : ℕ → Bool) → AlikeFrom 8 id u w
all_alike id u w j of_record from = absurd (omega (arith, from))

known_none : (a b : Option Bool) → a ≡ b → b ≡ None → a ≡ None
known_none a b e h = e ∙ h

all_most : (id : ℕ) (f : (ℕ → Bool) → Option Bool) (w : ℕ → Bool) → unknown_signs 8 id f w ≤ 256
unfolding doubled
all_most id f w = unknown_most 8 id f w

pub room_most : (labels : List ℕ) (answers : PolicyMemo) → room labels answers ≤ 256 * length labels
room_most [] answers = omega arith
room_most (k ∷ ks) answers =
    let a = all_most (record_of_label k) (recall answers k) (λ j. false) in
    let b = room_most ks answers in
    omega (arith, a, b)

pub room_less : (labels : List ℕ) (old new : PolicyMemo) → Grown old new → room labels new ≤ room labels old
room_less [] old new grown = omega arith
room_less (k ∷ ks) old new grown =
    let a = unknown_less 8 (record_of_label k) (recall old k) (recall new k) (λ j. false) (grown.kept k) in
    let b = room_less ks old new grown in
    omega (arith, a, b)

-- A result that becomes known takes room.
pub room_falls : (labels all : List ℕ) (old new : PolicyMemo) (label : ℕ) (w : ℕ → Bool) → shown_by labels label ≡ true → Grown old new → AreLocalAnswers all old → AreLocalAnswers all new → recall old label w ≡ None →
    is_some (recall new label w) ≡ true → room labels new + 1 ≤ room labels old
room_falls [] all old new label w s grown own_old own_new none some = absurd cc
room_falls (k ∷ ks) all old new label w s grown own_old own_new none some =
    falls_if (k == label) refl s (λ among. room_falls ks all old new label w among grown own_old own_new none some)
  where
    falls_if : (b : Bool) → (k == label) ≡ b → (b || shown_by ks label) ≡ true → (shown_by ks label ≡ true → room ks new + 1 ≤ room ks old) → room (k ∷ ks) new + 1 ≤ room (k ∷ ks) old
    falls_if true e among later =
        let is : k ≡ label = (Decides-eqb k label).0 e in
        let a = unknown_falls 8 (record_of_label k) (recall old k) (recall new k) w (λ j. false) (own_old.own k) (own_new.own k) (grown.kept k)
        (ap (λ (i : ℕ). recall old i w) is ∙ none) (ap (λ (i : ℕ). is_some (recall new i w)) is ∙ some) (all_alike (record_of_label k) w (λ j. false)) in
        let b = room_less ks old new grown in
        omega (arith, a, b)
    falls_if false e among later =
        let a = unknown_less 8 (record_of_label k) (recall old k) (recall new k) (λ j. false) (grown.kept k) in
        let b = later among in
        omega (arith, a, b)

-- If a result isn't known, there is room for it.
pub room_some : (labels all : List ℕ) (old : PolicyMemo) (label : ℕ) (w : ℕ → Bool) → shown_by labels label ≡ true → AreLocalAnswers all old → recall old label w ≡ None → 1 ≤ room labels old
room_some [] all old label w s own none = absurd cc
room_some (k ∷ ks) all old label w s own none = some_if (k == label) refl s (λ among. room_some ks all old label w among own none)
  where
    some_if : (b : Bool) → (k == label) ≡ b → (b || shown_by ks label) ≡ true → (shown_by ks label ≡ true → 1 ≤ room ks old) → 1 ≤ room (k ∷ ks) old
    some_if true e among later =
        let is : k ≡ label = (Decides-eqb k label).0 e in
        let a = unknown_falls 8 (record_of_label k) (recall old k) (λ v. Some true) w (λ j. false) (own.own k) (λ u v h. refl) (λ v h. refl)
        (ap (λ (i : ℕ). recall old i w) is ∙ none) refl (all_alike (record_of_label k) w (λ j. false)) in
        omega (arith, a)
    some_if false e among later = let b = later among in omega (arith, b)

-- The cached results, with one more.

left_true : (a b : Bool) → (a && b) ≡ true → a ≡ true
left_true true b p = refl
left_true false b p = absurd cc

right_true : (a b : Bool) → (a && b) ≡ true → b ≡ true
right_true true b p = p
right_true false b p = absurd cc

pub own_by : (old new : PolicyMemo) (label : ℕ) (known : MemoEntry) (labels : List ℕ) → ((k j : ℕ) → watches new k j ≡ ((names known.when k && label == j) || watches old k j)) →
    ((k : ℕ) (w : ℕ → Bool) → recall new k w ≡ (if label == k then or_known (recall old k w) known w else recall old k w)) →
    AreLocalAnswers labels old → shown_by labels label ≡ true → ((k : ℕ) → names known.when k ≡ true → record_of_label k ≡ record_of_label label) → AreLocalAnswers labels new
own_by old new label known labels watching recalling before among of_record = record {
  own = λ k v w alike. recalling k v ∙ own_if k v w alike (label == k) refl (before.own k v w alike) ∙ sym (recalling k w);
  among = λ k j h.
      either (names known.when k && label == j) (watches old k j) (shown_by labels j ≡ true) (sym (watching k j) ∙ h)
      (λ e. ap (shown_by labels) (sym ((Decides-eqb label j).0 (right_true (names known.when k) (label == j) e))) ∙ among)
      (before.among k j);
}
  where
    own_if : (k : ℕ) (v w : ℕ → Bool) → ((j : ℕ) → record_of_label j ≡ record_of_label k → v j ≡ w j) → (b : Bool) → (label == k) ≡ b → recall old k v ≡ recall old k w →
        (if b then or_known (recall old k v) known v else recall old k v) ≡ (if b then or_known (recall old k w) known w else recall old k w)
    own_if k v w alike true e same =
        or_same (recall old k v) (recall old k w) known v w same
        (known_if (holds v known.when) (holds w known.when) known
        (by_names known.when v w (λ j named. alike j (of_record j named ∙ ap record_of_label ((Decides-eqb label k).0 e)))))
    own_if k v w alike false e same = same

pub own_start : (labels : List ℕ) (answers : PolicyMemo) → ((k : ℕ) (w : ℕ → Bool) → recall answers k w ≡ None) → ((k j : ℕ) → watches answers k j ≡ false) → AreLocalAnswers labels answers
own_start labels answers none nobody = record {
  own = λ k v w alike. none k v ∙ sym (none k w);
  among = λ k j h. absurd (let e : true ≡ false = sym h ∙ nobody k j in cc);
}

pub signed_names : (w : ℕ → Bool) (ks : List ℕ) (k : ℕ) → names (signed_labels w ks) k ≡ shown_by ks k
signed_names w [] k = refl
signed_names w (j ∷ ks) k = ap (λ b. (j == k) || b) (signed_names w ks k)

-- The room that was used up.

pub spends_same : (labels : List ℕ) (n : ℕ) (answers : PolicyMemo) → AreLocalAnswers labels answers → Spends labels n n answers answers
spends_same labels n answers own = record { own = own; spent = omega arith }

pub spends_one : (labels : List ℕ) (before now : ℕ) (old new : PolicyMemo) → AreLocalAnswers labels new → now ≤ before + 1 → room labels new + 1 ≤ room labels old → Spends labels before now old new
spends_one labels before now old new own once falls = record { own = own; spent = omega (arith, once, falls) }

pub spends_then : (labels : List ℕ) (a b c : ℕ) (r s t : PolicyMemo) → Spends labels a b r s → Spends labels b c s t → Spends labels a c r t
spends_then labels a b c r s t first second = record { own = second.own; spent = let f = first.spent in let g = second.spent in omega (arith, f, g) }

pub most_then : (labels : List ℕ) (a b c : ℕ) (r s : PolicyMemo) → Spends labels a b r s → c ≤ b + room labels s → c ≤ a + room labels r
most_then labels a b c r s first most = let f = first.spent in omega (arith, f, most)

-- The policy of a label without a cached result was evaluated, or is to be evaluated.

pub most_asked : (labels : List ℕ) (before now : ℕ) (old : PolicyMemo) (label : ℕ) (w : ℕ → Bool) → shown_by labels label ≡ true → AreLocalAnswers labels old → recall old label w ≡ None → now ≤ before + 1 →
    now ≤ before + room labels old
most_asked labels before now old label w among own none once = let some = room_some labels labels old label w among own none in omega (arith, once, some)

pub spends_asked : (labels : List ℕ) (before now : ℕ) (old new : PolicyMemo) (label : ℕ) (w : ℕ → Bool) → shown_by labels label ≡ true → Grown old new → AreLocalAnswers labels old → AreLocalAnswers labels new →
    recall old label w ≡ None → is_some (recall new label w) ≡ true → now ≤ before + 1 → Spends labels before now old new
spends_asked labels before now old new label w among grown own_old own_new none some once =
    spends_one labels before now old new own_new once (room_falls labels labels old new label w among grown own_old own_new none some)

pub spends_most : (labels : List ℕ) (before now : ℕ) (old new : PolicyMemo) → Spends labels before now old new → now ≤ before + room labels old
spends_most labels before now old new spends = let s = spends.spent in omega (arith, s)

-- If nothing is cached, there is room for all assignments of the labels of each label's record.
pub all_asked : (labels : List ℕ) (before now : ℕ) (answers : PolicyMemo) → now ≤ before + room labels answers → now ≤ before + 256 * length labels
all_asked labels before now answers most = let all = room_most labels answers in omega (arith, most, all)

-- What was computed, and the bound on its evaluations.
pub record AsBounded (computed spent : Type 0) : Type 0 where
  pub is_computed : computed
  pub is_spent : spent

-- There is only one rising list of the live labels.
pub live_most : (app : Application) (worlds : Worlds) (xs ys : List ℕ) (before now : ℕ) → IsAscending xs → IsAscending ys → AreLive app worlds xs → AreLive app worlds ys →
    now ≤ before + 256 * length xs → now ≤ before + 256 * length ys
live_most app worlds xs ys before now up_x up_y live_x live_y most =
    let same : xs ≡ ys = ascending_same xs ys up_x up_y (λ k. bool_eq (shown_by xs k) (shown_by ys k) (λ s. live_y.every k (live_x.only k s)) (λ s. live_x.every k (live_y.only k s))) in
    subst (λ (l : List ℕ). now ≤ before + 256 * length l) same most

-- The bound on evaluations for a list of the live labels.
pub live_asked : (app : Application) (s : State) (viewer : Option ℕ) (live : List ℕ) (before now : ℕ) → IsAscending live → AreLive app (worlds_of s) live →
    (IsLocalCase app s viewer → now ≤ before + 256 * length live) → AreFewEvaluations app s viewer before now
live_asked app s viewer live before now up are most = record {
  few = λ local labels up_labels are_labels. live_most app (worlds_of s) live labels before now up up_labels are are_labels (most local);
}

-- The same if nothing was cached before.
pub first_asked : (app : Application) (s : State) (viewer : Option ℕ) (live : List ℕ) (answers : PolicyMemo) (before now : ℕ) → IsAscending live → AreLive app (worlds_of s) live → IsEmptyMemo answers →
    (IsLocalCase app s viewer → AreLocalAnswers live answers → now ≤ before + room live answers) → AreFewEvaluations app s viewer before now
first_asked app s viewer live answers before now up are empty most =
    live_asked app s viewer live before now up are (λ local. all_asked live before now answers (most local (own_start live answers empty.recalls empty.unwatched)))

-- No policy was evaluated.
pub none_asked : (app : Application) (s : State) (viewer : Option ℕ) (now : ℕ) → AreFewEvaluations app s viewer now now
none_asked app s viewer now = record { few = λ local labels up are. omega arith }
