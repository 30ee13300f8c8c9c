-- Cached results, over plain lists.
use Rattle.std.proofs.Common.{◌≡◌, ◌==◌, ◌&&◌, ◌||◌, ℕ, Bool, true, false, if◌then◌else◌, List, [], ◌∷◌, ◌++◌, Option, Some, None, refl, ap, sym, subst, ◌∙◌, arith, unwrap_or, ◌<◌, ◌+◌, suc, length, drop, get_or, drop-cons, add-one}
use Rattle.std.specs.List.{list_any}
use Rattle.std.specs.Option.{is_some}
use Rattle.std.specs.Ordering.{nat_cmp, is_eq}
use Rattle.std.proofs.lemmas.Bool.Decides.{nat_tests, Decides-eqb}
use Rattle.std.proofs.lemmas.Bool.{or_left, or_right}
use Rattle.jac_world.specs.World.{shown_by, holds, IsAscending, IsRising}
use Rattle.jac_policy_cache.specs.declared.policy_memo.LabelMemo.{LabelMemo}
use Rattle.jac_policy_cache.specs.declared.policy_memo.MemoEntry.{MemoEntry}
use Rattle.jac_world.specs.World.{names}
use Rattle.jac_world.proofs.Contradict.{by_names}
use Rattle.jac_policy_cache.specs.Memo.{first_fitting, depends_in, names_label, or_known, recall_in, signed_labels, watched_in}

-- One more result of a label.

more_if : (b y : Bool) (p q : Option Bool) (c : MemoEntry) (w : ℕ → Bool) → p ≡ or_known q c w → (if b then Some y else p) ≡ or_known (if b then Some y else q) c w
more_if true y p q c w h = refl
more_if false y p q c w h = h

one_more : (xs : List MemoEntry) (c : MemoEntry) (w : ℕ → Bool) → first_fitting (xs ++ c ∷ []) w ≡ or_known (first_fitting xs w) c w
one_more [] c w = refl
one_more (x ∷ xs) c w = more_if (holds w x.when) x.holds (first_fitting (xs ++ c ∷ []) w) (first_fitting xs w) c w (one_more xs c w)

abbrev pub items_in : Option LabelMemo → List MemoEntry
items_in None = []
items_in (Some given) = given.answers.items

recalled_items : (old : Option LabelMemo) (w : ℕ → Bool) → recall_in old w ≡ first_fitting (items_in old) w
recalled_items None w = refl
recalled_items (Some given) w = refl

given_if : (old : Option LabelMemo) (given : LabelMemo) (known : MemoEntry) (b : Bool) (w : ℕ → Bool) → (b ≡ true → given.answers.items ≡ items_in old ++ known ∷ []) →
    recall_in (if b then Some given else old) w ≡ (if b then or_known (recall_in old w) known w else recall_in old w)
given_if old given known true w is = ap (λ xs. first_fitting xs w) (is refl) ∙ one_more (items_in old) known w ∙ ap (λ o. or_known o known w) (sym (recalled_items old w))
given_if old given known false w is = refl

pub given_more : (old : ℕ → Option LabelMemo) (new : Option LabelMemo) (given : LabelMemo) (known : MemoEntry) (label k : ℕ) (w : ℕ → Bool) →
    new ≡ (if label == k then Some given else old k) → given.answers.items ≡ items_in (old label) ++ known ∷ [] →
    recall_in new w ≡ (if label == k then or_known (recall_in (old k) w) known w else recall_in (old k) w)
given_more old new given known label k w new_is is =
    ap (λ o. recall_in o w) new_is
    ∙ given_if (old k) given known (label == k) w (λ e. is ∙ ap (λ (i : ℕ). items_in (old i) ++ known ∷ []) ((Decides-eqb label k).0 e))

pub or_none : (old : Option LabelMemo) (none : LabelMemo) → none.answers.items ≡ [] → (unwrap_or old none).answers.items ≡ items_in old
or_none None none empty = empty
or_none (Some given) none empty = refl

-- The labels that its results name.

named_if : (a b c : Bool) → (a || (b || c)) ≡ (b || (a || c))
named_if true true c = refl
named_if true false c = refl
named_if false b c = refl

one_named : (xs : List MemoEntry) (c : MemoEntry) (k : ℕ) → names_label (xs ++ c ∷ []) k ≡ (names c.when k || names_label xs k)
one_named [] c k = refl
one_named (x ∷ xs) c k = ap (λ b. names x.when k || b) (one_named xs c k) ∙ named_if (names x.when k) (names c.when k) (names_label xs k)

named_items : (old : Option LabelMemo) (k : ℕ) → depends_in old k ≡ names_label (items_in old) k
named_items None k = refl
named_items (Some given) k = refl

depended_if : (old : Option LabelMemo) (given : LabelMemo) (known : MemoEntry) (b : Bool) (k : ℕ) → (b ≡ true → given.answers.items ≡ items_in old ++ known ∷ []) →
    depends_in (if b then Some given else old) k ≡ ((b && names known.when k) || depends_in old k)
depended_if old given known true k is = ap (λ xs. names_label xs k) (is refl) ∙ one_named (items_in old) known k ∙ ap (λ b. names known.when k || b) (sym (named_items old k))
depended_if old given known false k is = refl

pub depended_more : (old : ℕ → Option LabelMemo) (new : Option LabelMemo) (given : LabelMemo) (known : MemoEntry) (label j k : ℕ) →
    new ≡ (if label == j then Some given else old j) → given.answers.items ≡ items_in (old label) ++ known ∷ [] →
    depends_in new k ≡ ((label == j && names known.when k) || depends_in (old j) k)
depended_more old new given known label j k new_is is =
    ap (λ o. depends_in o k) new_is
    ∙ depended_if (old j) given known (label == j) k (λ e. is ∙ ap (λ (i : ℕ). items_in (old i) ++ known ∷ []) ((Decides-eqb label j).0 e))

-- A result depends only on the labels that are named.
first_by : (cs : List MemoEntry) (v w : ℕ → Bool) → ((k : ℕ) → names_label cs k ≡ true → v k ≡ w k) → first_fitting cs v ≡ first_fitting cs w
first_by [] v w alike = refl
first_by (c ∷ cs) v w alike =
    ap (λ b. if b then Some c.holds else first_fitting cs v) (by_names c.when v w (λ k h. alike k (or_left (names c.when k) (names_label cs k) h)))
    ∙ ap (λ o. if holds w c.when then Some c.holds else o) (first_by cs v w (λ k h. alike k (or_right (names c.when k) (names_label cs k) h)))

pub recall_by : (given : Option LabelMemo) (v w : ℕ → Bool) → ((k : ℕ) → depends_in given k ≡ true → v k ≡ w k) → recall_in given v ≡ recall_in given w
recall_by None v w alike = refl
recall_by (Some given) v w alike = first_by given.answers.items v w alike

-- The step of a loop by index.
pub next : {T : Type 0} (xs : List T) (x : T) (i : ℕ) → x ≡ get_or xs i x → i < length xs → drop i xs ≡ x ∷ drop (i + 1) xs
next xs x i item below = rw add-one (drop-cons xs i x below ∙ ap (λ z. z ∷ drop (suc i) xs) (sym item))

pub is_at_number : (k j : ℕ) → is_eq (nat_cmp k j) ≡ (k == j)
is_at_number k j = grind (arith, nat_tests)

-- The labels that are watched are the keys.

same_test : (a b : ℕ) → (a == b) ≡ (b == a)
same_test a b = grind (arith, nat_tests)

pub key_is_shown : (ks : List ℕ) (k : ℕ) → list_any (λ x. is_eq (nat_cmp k x)) ks ≡ shown_by ks k
key_is_shown [] k = refl
key_is_shown (x ∷ ks) k =
    ap (λ b. b || list_any (λ y. is_eq (nat_cmp k y)) ks) (is_at_number k x ∙ same_test k x) ∙ ap (λ b. x == k || b) (key_is_shown ks k)

is_key : (of_label : Option (List ℕ)) (j : ℕ) → watched_in of_label j ≡ true → is_some of_label ≡ true
is_key None j h = absurd cc
is_key (Some watchers) j h = refl

pub watched_is_key : (of_label : Option (List ℕ)) (ks : List ℕ) (k j : ℕ) → is_some of_label ≡ list_any (λ x. is_eq (nat_cmp k x)) ks → watched_in of_label j ≡ true → shown_by ks k ≡ true
watched_is_key of_label ks k j has h = sym (key_is_shown ks k) ∙ sym has ∙ is_key of_label j h

or_nothing : (a t : Bool) → (a || (t && false)) ≡ a
or_nothing true t = refl
or_nothing false true = refl
or_nothing false false = refl

-- If none is left, all labels with cached results have been examined.
pub asked_all : (a b t x y z : Bool) → y ≡ false → z ≡ x → (a || (t && y)) ≡ (b || (t && x)) → a ≡ (b || (t && z))
asked_all a b t x y z none is h = sym (or_nothing a t) ∙ ap (λ c. a || (t && c)) (sym none) ∙ h ∙ ap (λ c. b || (t && c)) (sym is)

pub left_alone : (a b : Bool) → b ≡ false → (a || b) ≡ true → a ≡ true
left_alone true b none h = refl
left_alone false b none h = absurd (let e : true ≡ false = sym h ∙ none in cc)

-- One more watcher of a label.

watched_if : (old : Option (List ℕ)) (watchers : List ℕ) (b : Bool) (label j : ℕ) → (b ≡ true → shown_by watchers j ≡ ((label == j) || watched_in old j)) →
    watched_in (if b then Some watchers else old) j ≡ ((b && label == j) || watched_in old j)
watched_if old watchers true label j is = is refl
watched_if old watchers false label j is = refl

or_nobody : (old : Option (List ℕ)) (none : List ℕ) (j : ℕ) → none ≡ [] → shown_by (unwrap_or old none) j ≡ watched_in old j
or_nobody None none j empty = ap (λ l. shown_by l j) empty
or_nobody (Some watchers) none j empty = refl

pub watched_more : (old : ℕ → Option (List ℕ)) (new : Option (List ℕ)) (before watchers none : List ℕ) (watched label k j : ℕ) →
    new ≡ (if watched == k then Some watchers else old k) → none ≡ [] → before ≡ unwrap_or (old watched) none → shown_by watchers j ≡ ((label == j) || shown_by before j) →
    watched_in new j ≡ ((watched == k && label == j) || watched_in (old k) j)
watched_more old new before watchers none watched label k j new_is empty before_is more =
    ap (λ o. watched_in o j) new_is
    ∙ watched_if (old k) watchers (watched == k) label j
    (λ e. more
    ∙ ap (λ l. (label == j) || shown_by l j) before_is
    ∙ ap (λ b. (label == j) || b) (or_nobody (old watched) none j empty)
    ∙ ap (λ (i : ℕ). (label == j) || watched_in (old i) j) ((Decides-eqb watched k).0 e))

-- The first result that fits, one after another.

pub fits_not : (xs rest : List MemoEntry) (x : MemoEntry) (w : ℕ → Bool) (all : Option Bool) → xs ≡ x ∷ rest → holds w x.when ≡ false → first_fitting xs w ≡ all → first_fitting rest w ≡ all
fits_not xs rest x w all is fails so_far = ap (λ b. if b then Some x.holds else first_fitting rest w) (sym fails) ∙ ap (λ l. first_fitting l w) (sym is) ∙ so_far

pub fits_here : (xs rest : List MemoEntry) (x : MemoEntry) (w : ℕ → Bool) (all : Option Bool) → xs ≡ x ∷ rest → holds w x.when ≡ true → first_fitting xs w ≡ all → Some x.holds ≡ all
fits_here xs rest x w all is fits so_far = ap (λ b. if b then Some x.holds else first_fitting rest w) (sym fits) ∙ ap (λ l. first_fitting l w) (sym is) ∙ so_far

pub signed_rises : (w : ℕ → Bool) (ks : List ℕ) → IsAscending ks → IsRising (signed_labels w ks)
signed_rises w [] up = tt
signed_rises w (k ∷ []) up = (tt, tt)
signed_rises w (k ∷ (j ∷ ks)) up = (up.0, signed_rises w (j ∷ ks) up.1)

-- A property of a value holds for an equal value.
pub at_end : {M : Type 0} (P : M → Type 0) (m n : M) → P n → m ≡ n → P m
at_end P m n holds_there is = subst P (sym is) holds_there
