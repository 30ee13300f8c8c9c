-- Cached results from one try to the next, over plain lists.
use Rattle.std.proofs.Common.{◌≡◌, ◌≤◌, ◌==◌, ◌&&◌, ◌||◌, ℕ, Bool, true, false, not, if◌then◌else◌, List, [], ◌∷◌, Option, Some, None, refl, ap, sym, subst, ◌∙◌, arith}
use Rattle.std.specs.Option.{is_some}
use Rattle.std.proofs.lemmas.Bool.Decides.{nat_tests, Decides-eqb}
use Rattle.std.proofs.lemmas.Bool.{or_parts, or_right}
use mathlib.Core.Bool.{beq}
use Rattle.jac_world.specs.World.{shown_by, holds, names}
use Rattle.jac_world.proofs.Contradict.{and_true, by_names, left_true, same_sign, sign_is}
use Rattle.jac_lang.specs.Syntax.{Application}
use Rattle.jac_plain.specs.Requests.{Worlds}
use Rattle.jac_plain.specs.Policies.{is_allowed, with_label}
use Rattle.jac_shown_rows.specs.Consulted.{Agrees}
use Rattle.jac_policy_cache.specs.declared.policy_memo.PolicyMemo.{PolicyMemo}
use Rattle.jac_policy_cache.specs.declared.policy_memo.MemoEntry.{MemoEntry}
use Rattle.jac_policy_cache.specs.Memo.{AreWatched, known_at, or_known, recall, signed_labels, watches}
use Rattle.jac_resolve.specs.RightMemo.{AreRight, Fitting, Grown, IsRight, IsUnderway, RemembersForbidden, Stays, is_affected}

right_true : (a b : Bool) → (a && b) ≡ true → b ≡ true
right_true true b p = p
right_true false b p = absurd cc

-- The guard of the labels that were consulted.

pub signed_holds : (v : ℕ → Bool) (ks : List ℕ) → holds v (signed_labels v ks) ≡ true
signed_holds v [] = refl
signed_holds v (k ∷ ks) = and_true (beq (v k) (v k)) (holds v (signed_labels v ks)) (same_sign (v k)) (signed_holds v ks)

agrees_if : (v w : ℕ → Bool) (j k : ℕ) (b rest also : Bool) → (j == k) ≡ b → (beq (v j) (w j) && also) ≡ true → (b || rest) ≡ true → (also ≡ true → rest ≡ true → v k ≡ w k) → v k ≡ w k
agrees_if v w j k true rest also e h t later =
    let is : j ≡ k = (Decides-eqb j k).0 e in
    ap v (sym is) ∙ sym (sign_is (v j) (w j) (left_true (beq (v j) (w j)) also h)) ∙ ap w is
agrees_if v w j k false rest also e h t later = later (right_true (beq (v j) (w j)) also h) t

pub signed_agrees : (v w : ℕ → Bool) (ks : List ℕ) → holds w (signed_labels v ks) ≡ true → (k : ℕ) → shown_by ks k ≡ true → v k ≡ w k
signed_agrees v w [] h k s = absurd cc
signed_agrees v w (j ∷ ks) h k s = agrees_if v w j k (j == k) (shown_by ks k) (holds w (signed_labels v ks)) refl h s (λ a b. signed_agrees v w ks a k b)

-- One more result.

pub either : (a b : Bool) (P : Type 0) → (a || b) ≡ true → (a ≡ true → P) → (b ≡ true → P) → P
either true b P h p q = p refl
either false b P h p q = q h

pub itself : (x : ℕ) → (x == x) ≡ true
itself x = grind (arith, nat_tests)

pub known_if : (h h' : Bool) (c : MemoEntry) → h ≡ h' → (if h then Some c.holds else None) ≡ (if h' then Some c.holds else None)
known_if h h' c e = ap (λ b. if b then Some c.holds else None) e

pub or_same : (o p : Option Bool) (c : MemoEntry) (v w : ℕ → Bool) → o ≡ p → known_at c v ≡ known_at c w → or_known o c v ≡ or_known p c w
or_same o None c v w e f = ap (λ q. or_known q c v) e ∙ f
or_same o (Some b) c v w e f = ap (λ q. or_known q c v) e

or_kept : (o : Option Bool) (c : MemoEntry) (w : ℕ → Bool) → is_some o ≡ true → is_some (or_known o c w) ≡ true
or_kept (Some b) c w h = refl
or_kept None c w h = absurd cc

or_fits : (o : Option Bool) (c : MemoEntry) (w : ℕ → Bool) → holds w c.when ≡ true → is_some (or_known o c w) ≡ true
or_fits (Some b) c w h = refl
or_fits None c w h = ap (λ b. is_some (if b then Some c.holds else None)) h

or_is : (o : Option Bool) (c : MemoEntry) (w : ℕ → Bool) (b x : Bool) → (o ≡ Some b → b ≡ x) → (holds w c.when ≡ true → c.holds ≡ x) → or_known o c w ≡ Some b → b ≡ x
or_is (Some a) c w b x before here is = before is
or_is None c w b x before here is = is_if (holds w c.when) refl is
  where
    is_if : (h : Bool) → holds w c.when ≡ h → (if h then Some c.holds else None) ≡ Some b → b ≡ x
    is_if true e i = (let same : c.holds ≡ b = cc in sym same ∙ here e)
    is_if false e i = absurd cc

-- The cached results and the watchers after one more result is cached.
module _ (old new : PolicyMemo) (label : ℕ) (known : MemoEntry)
    (watching : (k j : ℕ) → watches new k j ≡ ((names known.when k && label == j) || watches old k j))
    (recalling : (k : ℕ) (w : ℕ → Bool) → recall new k w ≡ (if label == k then or_known (recall old k w) known w else recall old k w)) where
  kept_if : (b : Bool) (k : ℕ) (w : ℕ → Bool) → is_some (recall old k w) ≡ true → is_some (if b then or_known (recall old k w) known w else recall old k w) ≡ true
  kept_if true k w h = or_kept (recall old k w) known w h
  kept_if false k w h = h

  watched_on : AreWatched old → AreWatched new
  watched_on before = record {
    each = λ j v w alike. recalling j v ∙ same_if j v w alike (before.each j v w (λ k h. alike k (still k j h))) (label == j) refl ∙ sym (recalling j w);
  }
    where
      still : (k j : ℕ) → watches old k j ≡ true → watches new k j ≡ true
      still k j h = watching k j ∙ or_right (names known.when k && label == j) (watches old k j) h

      named : (k j : ℕ) → (label == j) ≡ true → names known.when k ≡ true → watches new k j ≡ true
      named k j e h = watching k j ∙ ap (λ b. b || watches old k j) (and_true (names known.when k) (label == j) h e)

      same_if : (j : ℕ) (v w : ℕ → Bool) → ((k : ℕ) → watches new k j ≡ true → v k ≡ w k) → recall old j v ≡ recall old j w → (b : Bool) → (label == j) ≡ b →
          (if b then or_known (recall old j v) known v else recall old j v) ≡ (if b then or_known (recall old j w) known w else recall old j w)
      same_if j v w alike same true e =
          or_same (recall old j v) (recall old j w) known v w same
          (known_if (holds v known.when) (holds w known.when) known (by_names known.when v w (λ k h. alike k (named k j e h))))
      same_if j v w alike same false e = same

  pub grown_by : Grown old new
  grown_by = record {
    kept = λ k w h. ap is_some (recalling k w) ∙ kept_if (label == k) k w h;
    watching = λ k j h. watching k j ∙ or_right (names known.when k && label == j) (watches old k j) h;
    watched = watched_on;
  }

  pub fits_by : (w : ℕ → Bool) → holds w known.when ≡ true → is_some (recall new label w) ≡ true
  fits_by w h = ap is_some (recalling label w) ∙ ap (λ b. is_some (if b then or_known (recall old label w) known w else recall old label w)) (itself label) ∙ or_fits (recall old label w) known w h

  pub right_by : (app : Application) (worlds : Worlds) (viewer : Option ℕ) → AreRight app worlds viewer old → IsRight app worlds viewer label known → AreRight app worlds viewer new
  right_by app worlds viewer before one = record { each = λ k w b is. right_if k w b (label == k) refl (sym (recalling k w) ∙ is) }
    where
      right_if : (k : ℕ) (w : ℕ → Bool) (b same : Bool) → (label == k) ≡ same → (if same then or_known (recall old k w) known w else recall old k w) ≡ Some b → b ≡ is_allowed app (worlds w) viewer k
      right_if k w b true e is =
          or_is (recall old k w) known w b (is_allowed app (worlds w) viewer k) (before.each k w b)
          (λ h. one.each w h ∙ ap (is_allowed app (worlds w) viewer) ((Decides-eqb label k).0 e)) is
      right_if k w b false e is = before.each k w b is

pub grown_same : (answers : PolicyMemo) → Grown answers answers
grown_same answers = record { kept = λ k w h. h; watching = λ k j h. h; watched = λ h. h }

pub grown_then : (r s t : PolicyMemo) → Grown r s → Grown s t → Grown r t
grown_then r s t before after = record {
  kept = λ k w h. after.kept k w (before.kept k w h);
  watching = λ k j h. after.watching k j (before.watching k j h);
  watched = λ h. after.watched (before.watched h);
}

-- If a label doesn't watch a second one, whether the second one is shown doesn't change what is
-- recalled.
pub unwatched : (answers : PolicyMemo) → AreWatched answers → (k j : ℕ) → watches answers k j ≡ false → (w : ℕ → Bool) → recall answers j (with_label k w) ≡ recall answers j w
unwatched answers watched k j absent w = watched.each j (with_label k w) w (λ i watching. differs i watching (k == i) refl)
  where
    differs : (i : ℕ) → watches answers i j ≡ true → (b : Bool) → (k == i) ≡ b → (b || w i) ≡ w i
    differs i watching true e = absurd (let same : true ≡ false = sym watching ∙ ap (λ n. watches answers n j) (sym ((Decides-eqb k i).0 e)) ∙ absent in cc)
    differs i watching false e = refl

-- Adding a label that is already shown changes nothing.
pub shows_own : (v : ℕ → Bool) (label : ℕ) → v label ≡ true → with_label label v ≡ v
shows_own v label own = λ i k. shows_if k (label == k) refl i
  where
    shows_if : (k : ℕ) (b : Bool) → (label == k) ≡ b → (b || v k) ≡ v k
    shows_if k true e = sym (ap v (sym ((Decides-eqb label k).0 e)) ∙ own)
    shows_if k false e = refl

-- What holds in a pass.
module _ (app : Application) (worlds : Worlds) (viewer : Option ℕ) where
  -- A computed result, with the guard of the labels that were consulted.
  pub signed_right : (v : ℕ → Bool) (label : ℕ) (support : List ℕ) (known : MemoEntry) → known.when ≡ signed_labels v support →
      ((w : ℕ → Bool) → Agrees support v w → known.holds ≡ is_allowed app (worlds w) viewer label) → IsRight app worlds viewer label known
  signed_right v label support known is promise = record {
    each = λ w h. promise w (record { each = signed_agrees v w support (ap (holds w) (sym is) ∙ h) });
  }

  -- At the start no label is shown and no result is cached.
  pub underway_start : (answers : PolicyMemo) → ((k : ℕ) (w : ℕ → Bool) → recall answers k w ≡ None) → IsUnderway app worlds viewer [] answers
  underway_start answers none = record {
    right = record { each = λ k w b is. absurd (let e : None ≡ Some b = sym (none k w) ∙ is in cc) };
    allowed = λ k s. absurd cc;
    watched = record { each = λ j v w alike. none j v ∙ sym (none j w) };
    fitted = record { each = λ k s. absurd cc };
  }

  -- A label that doesn't watch a second one keeps its result when the second one is shown.
  pub unmoved : (a : List ℕ) (answers : PolicyMemo) (k j : ℕ) → IsUnderway app worlds viewer a answers → watches answers k j ≡ false → shown_by a j ≡ true →
      is_allowed app (worlds (with_label k (shown_by a))) viewer j ≡ true
  unmoved a answers k j before absent s = by_answer (recall answers j (shown_by a)) refl (before.fitted.each j s)
    where
      by_answer : (o : Option Bool) → recall answers j (shown_by a) ≡ o → is_some o ≡ true → is_allowed app (worlds (with_label k (shown_by a))) viewer j ≡ true
      by_answer (Some b) e h =
          sym (before.right.each j (with_label k (shown_by a)) b (unwatched answers before.watched k j absent (shown_by a) ∙ e))
          ∙ before.right.each j (shown_by a) b e ∙ before.allowed j s
      by_answer None e h = absurd cc

  -- No label was added.
  pub underway_still : (a : List ℕ) (old new : PolicyMemo) → IsUnderway app worlds viewer a old → AreRight app worlds viewer new → Grown old new → IsUnderway app worlds viewer a new
  underway_still a old new before right grown = record {
    right = right;
    allowed = before.allowed;
    watched = grown.watched before.watched;
    fitted = record { each = λ k s. grown.kept k (shown_by a) (before.fitted.each k s) };
  }

  -- The same labels are shown.
  pub underway_same : (a new : List ℕ) (answers : PolicyMemo) → ((j : ℕ) → shown_by new j ≡ shown_by a j) → IsUnderway app worlds viewer a answers → IsUnderway app worlds viewer new answers
  underway_same a new answers still before = record {
    right = before.right;
    allowed = λ k s. ap (λ (w : ℕ → Bool). is_allowed app (worlds w) viewer k) same ∙ before.allowed k (sym (still k) ∙ s);
    watched = before.watched;
    fitted = record { each = λ k s. ap (λ (w : ℕ → Bool). is_some (recall answers k w)) same ∙ before.fitted.each k (sym (still k) ∙ s) };
  }
    where
      same : shown_by new ≡ shown_by a
      same = λ i j. still j i

  -- A label was added.
  pub underway_added : (a more : List ℕ) (k : ℕ) (old new : PolicyMemo) → ((j : ℕ) → shown_by more j ≡ with_label k (shown_by a) j) → IsUnderway app worlds viewer a old →
      AreRight app worlds viewer new → Grown old new → Stays app worlds viewer new (shown_by more) (is_affected old k) true → Fitting new (shown_by more) (is_affected old k) true → IsUnderway app worlds viewer more new
  underway_added a more k old new also before right grown stays fits = record {
    right = right;
    allowed = λ j s. allowed_if j s (is_affected old k j) refl;
    watched = grown.watched before.watched;
    fitted = record { each = λ j s. fitted_if j s (is_affected old k j) refl };
  }
    where
      same : shown_by more ≡ with_label k (shown_by a)
      same = λ i j. also j i

      allowed_if : (j : ℕ) → shown_by more j ≡ true → (b : Bool) → is_affected old k j ≡ b → is_allowed app (worlds (shown_by more)) viewer j ≡ true
      allowed_if j s true e = stays j e s
      allowed_if j s false e =
          let apart = or_parts (k == j) (watches old k j) e in
          let was : shown_by a j ≡ true = sym (ap (λ b. b || shown_by a j) apart.0) ∙ sym (also j) ∙ s in
          ap (λ (w : ℕ → Bool). is_allowed app (worlds w) viewer j) same ∙ unmoved a old k j before apart.1 was

      fitted_if : (j : ℕ) → shown_by more j ≡ true → (b : Bool) → is_affected old k j ≡ b → is_some (recall new j (shown_by more)) ≡ true
      fitted_if j s true e = fits j e s
      fitted_if j s false e =
          let apart = or_parts (k == j) (watches old k j) e in
          let was : shown_by a j ≡ true = sym (ap (λ b. b || shown_by a j) apart.0) ∙ sym (also j) ∙ s in
          grown.kept j (shown_by more)
          (ap (λ (w : ℕ → Bool). is_some (recall old j w)) same ∙ ap is_some (unwatched old before.watched k j apart.1 (shown_by a)) ∙ before.fitted.each j was)

  -- A pass may begin with what holds at the end of another.
  pub underway_none : (a : List ℕ) (answers : PolicyMemo) → IsUnderway app worlds viewer a answers → IsUnderway app worlds viewer [] answers
  underway_none a answers before = record {
    right = before.right;
    allowed = λ k s. absurd cc;
    watched = before.watched;
    fitted = record { each = λ k s. absurd cc };
  }

  -- A cached result says that the label isn't allowed once it is shown.
  pub refused_known : (a : List ℕ) (answers : PolicyMemo) (k : ℕ) → AreRight app worlds viewer answers → recall answers k (with_label k (shown_by a)) ≡ Some false →
      RemembersForbidden app worlds viewer answers (with_label k (shown_by a))
  refused_known a answers k right is = record {
    label = k;
    is_shown = ap (λ b. b || shown_by a k) (itself k);
    forbidden = sym (right.each k (with_label k (shown_by a)) false is);
    known = ap is_some is;
  }

  pub refused_also : (a more : List ℕ) (answers : PolicyMemo) (k : ℕ) → ((j : ℕ) → shown_by more j ≡ with_label k (shown_by a) j) → RemembersForbidden app worlds viewer answers (shown_by more) →
      RemembersForbidden app worlds viewer answers (with_label k (shown_by a))
  refused_also a more answers k also refused =
      let same : shown_by more ≡ with_label k (shown_by a) = λ i j. also j i in
      subst (λ (w : ℕ → Bool). RemembersForbidden app worlds viewer answers w) same refused

  -- What was cached still is.
  pub refused_still : (w : ℕ → Bool) (old new : PolicyMemo) → Grown old new → RemembersForbidden app worlds viewer old w → RemembersForbidden app worlds viewer new w
  refused_still w old new grown before = record {
    label = before.label;
    is_shown = before.is_shown;
    forbidden = before.forbidden;
    known = grown.kept before.label w before.known;
  }

  -- The result of a label that is shown.
  pub stays_one : (answers : PolicyMemo) (w : ℕ → Bool) (label : ℕ) (b : Bool) → w label ≡ true → b ≡ is_allowed app (worlds w) viewer label → is_some (recall answers label w) ≡ true →
      Stays app worlds viewer answers w (λ j. label == j) b
  stays_one answers w label true own is known = λ j e s. ap (is_allowed app (worlds w) viewer) (sym ((Decides-eqb label j).0 e)) ∙ sym is
  stays_one answers w label false own is known = record { label = label; is_shown = own; forbidden = sym is; known = known }

  -- The policy of a hidden label isn't evaluated.
  pub stays_hidden : (answers : PolicyMemo) (w : ℕ → Bool) (label : ℕ) → w label ≡ false → Stays app worlds viewer answers w (λ j. label == j) true
  stays_hidden answers w label hidden = λ j e s. absurd (let both : true ≡ false = sym s ∙ ap w (sym ((Decides-eqb label j).0 e)) ∙ hidden in cc)

  -- The label, and then the labels that watch it.
  pub stays_both : (w : ℕ → Bool) (old mid new : PolicyMemo) (label : ℕ) (watchers : List ℕ) (b : Bool) → ((j : ℕ) → shown_by watchers j ≡ watches mid label j) → Grown old mid →
      Stays app worlds viewer mid w (λ j. label == j) true → Stays app worlds viewer new w (shown_by watchers) b → Stays app worlds viewer new w (is_affected old label) b
  stays_both w old mid new label watchers true are grown own stays = λ j e s.
      either (label == j) (watches old label j) (is_allowed app (worlds w) viewer j ≡ true) e (λ same. own j same s) (λ watching. stays j (are j ∙ grown.watching label j watching) s)
  stays_both w old mid new label watchers false are grown own stays = stays

pub fits_one : (answers : PolicyMemo) (w : ℕ → Bool) (label : ℕ) (b : Bool) → is_some (recall answers label w) ≡ true → Fitting answers w (λ j. label == j) b
fits_one answers w label true h = λ j e s. ap (λ (k : ℕ). is_some (recall answers k w)) (sym ((Decides-eqb label j).0 e)) ∙ h
fits_one answers w label false h = tt

pub fits_hidden : (answers : PolicyMemo) (w : ℕ → Bool) (label : ℕ) → w label ≡ false → Fitting answers w (λ j. label == j) true
fits_hidden answers w label hidden = λ j e s. absurd (let both : true ≡ false = sym s ∙ ap w (sym ((Decides-eqb label j).0 e)) ∙ hidden in cc)

pub fits_both : (w : ℕ → Bool) (old mid new : PolicyMemo) (label : ℕ) (watchers : List ℕ) (b : Bool) → ((j : ℕ) → shown_by watchers j ≡ watches mid label j) → Grown old mid → Grown mid new →
    Fitting mid w (λ j. label == j) true → Fitting new w (shown_by watchers) b → Fitting new w (is_affected old label) b
fits_both w old mid new label watchers true are grown more own fits = λ j e s.
    either (label == j) (watches old label j) (is_some (recall new j w) ≡ true) e (λ same. more.kept j w (own j same s)) (λ watching. fits j (are j ∙ grown.watching label j watching) s)
fits_both w old mid new label watchers false are grown more own fits = tt

-- A property of all labels except those that are left.
abbrev pub AllBut : (ℕ → Type 0) → List ℕ → List ℕ → Type 0
AllBut P all left = (j : ℕ) → shown_by all j ≡ true → shown_by left j ≡ false → P j

pub but_start : (P : ℕ → Type 0) (all : List ℕ) → AllBut P all all
but_start P all j s absent = absurd (let both : true ≡ false = sym s ∙ absent in cc)

pub but_next : (P : ℕ → Type 0) (all left rest : List ℕ) (x : ℕ) → left ≡ x ∷ rest → P x → AllBut P all left → AllBut P all rest
but_next P all left rest x is one before j s absent = next_if (x == j) refl
  where
    next_if : (b : Bool) → (x == j) ≡ b → P j
    next_if true e = subst P ((Decides-eqb x j).0 e) one
    next_if false e = before j s (ap (λ l. shown_by l j) is ∙ ap (λ b. b || shown_by rest j) e ∙ absent)

pub but_end : (P : ℕ → Type 0) (all left : List ℕ) → left ≡ [] → AllBut P all left → (j : ℕ) → shown_by all j ≡ true → P j
but_end P all left none before j s = before j s (ap (λ l. shown_by l j) none)

-- The invariant while watchers are checked: what holds even if the contents of the keeper aren't
-- known, and a further property.
pub record InWatching (before now : ℕ) (old new : PolicyMemo) (w : ℕ → Bool) (all left : List ℕ) (beside : Type 0) : Type 0 where
  pub later : before ≤ now
  pub grown : Grown old new
  pub fits : AllBut (λ j. w j ≡ true → is_some (recall new j w) ≡ true) all left
  pub working : beside

-- A label that was added and taken back.
pub taken_back : (a more new : List ℕ) (k : ℕ) → shown_by a k ≡ false → ((j : ℕ) → shown_by more j ≡ with_label k (shown_by a) j) → ((j : ℕ) → shown_by new j ≡ (not (k == j) && shown_by more j)) →
    (j : ℕ) → shown_by new j ≡ shown_by a j
taken_back a more new k hidden also without j = without j ∙ ap (λ b. not (k == j) && b) (also j) ∙ back_if (k == j) refl
  where
    back_if : (b : Bool) → (k == j) ≡ b → (not b && (b || shown_by a j)) ≡ shown_by a j
    back_if true e = sym (ap (shown_by a) (sym ((Decides-eqb k j).0 e)) ∙ hidden)
    back_if false e = refl
