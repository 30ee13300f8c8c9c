-- What the bytes of an audit say of its log.
use Rattle.std.proofs.Common.{◌≡◌, ◌∙◌, ap, sym, refl, ◌⊎◌, inl, inr, arith, ℕ, zero, suc, ◌+◌, ◌<◌, ◌^◌, ◌/◌, ◌%◌, ◌==◌, ◌&&◌, ◌||◌, nat_lt, Bool, true, false, if◌then◌else◌, Option, Some, None, List, [], ◌∷◌, ◌++◌, length, append_assoc, append-nil, codes, decimal}
use Rattle.std.proofs.lemmas.Bool.{cases_eq, and_from}
use Rattle.std.proofs.lemmas.Bool.Decides.{nat_tests}
use Rattle.std.proofs.lemmas.Fmt.{decimal_is_IsNumeral_wide}
use Rattle.std.proofs.lemmas.List.{append_cancel_left}
use Rattle.std.specs.Fmt.{digits, digits_onto, digit_glyph}
use Rattle.std.specs.Str.Parse.{digits_value}
use Rattle.std.specs.List.{AllByRecursion, list_all}
use Rattle.jac_world.specs.World.{shown_by}
use Rattle.jac_rows.specs.declared.state.State.{State}
use Rattle.jac_replies.specs.Spelled.{viewer_text, labels_text, more_labels, shown_text, consulted_text, audit_text}
use Rattle.jac_serve_events.specs.AnswerSpec.{LogEntry, is_failure}
use Rattle.jac_serve_events.specs.Log.{viewer_of_subject, audit_line, audited_from, audit_lines}
use Rattle.jac_noninterference.specs.TwoRuns.{LookSame, NoneFailed, labels_of, LookSameFor}
use Rattle.jac_run_laws.specs.Audited.{IsSmallViewer, HaveSmallNumbers, IsAuditedAlike, AreAuditedAlike}
use Rattle.jac_run_laws.specs.Replayed.{BeginsLine, HasStatusWord, TellsNoFailure, TellsPage, AreSmall, HaveSmallLabels}

-- ---- the bytes of a line

-- A byte of a number, a viewer or labels. It is no space and no line feed.
abbrev pub is_inside : ℕ → Bool
is_inside c = nat_lt 43 c

abbrev pub is_numeral : ℕ → Bool
is_numeral c = nat_lt 47 c && nat_lt c 58

and_left : (a b : Bool) → (a && b) ≡ true → a ≡ true
and_left true b h = refl
and_left false b h = absurd cc

and_right : (a b : Bool) → (a && b) ≡ true → b ≡ true
and_right true b h = h
and_right false b h = absurd cc

pub all_append : (test : ℕ → Bool) (xs ys : List ℕ) → list_all test xs ≡ true → list_all test ys ≡ true → list_all test (xs ++ ys) ≡ true
all_append test [] ys one two = two
all_append test (x ∷ xs) ys one two = and_from (test x) (list_all test (xs ++ ys)) (and_left (test x) (list_all test xs) one) (all_append test xs ys (and_right (test x) (list_all test xs) one) two)

pub all_through : (test other : ℕ → Bool) → ((c : ℕ) → test c ≡ true → other c ≡ true) → (xs : List ℕ) → list_all test xs ≡ true → list_all other xs ≡ true
all_through test other so [] h = refl
all_through test other so (x ∷ xs) h =
    and_from (other x) (list_all other xs) (so x (and_left (test x) (list_all test xs) h)) (all_through test other so xs (and_right (test x) (list_all test xs) h))

glyph_numeral : (d : ℕ) → d < 10 → is_numeral (digit_glyph false d) ≡ true
glyph_numeral d h = grind (arith, nat_tests)

onto_by : (k n : ℕ) (acc : List ℕ) (b : Bool) → ((n m : ℕ) (acc : List ℕ) → list_all is_numeral acc ≡ true → list_all is_numeral (digits_onto k 10 false n acc) ≡ true)
    → list_all is_numeral acc ≡ true → list_all is_numeral (if b then acc else digits_onto k 10 false n acc) ≡ true
onto_by k n acc true so h = h
onto_by k n acc false so h = so n n acc h

onto_numerals : (k n : ℕ) (acc : List ℕ) → list_all is_numeral acc ≡ true → list_all is_numeral (digits_onto k 10 false n acc) ≡ true
onto_numerals zero n acc h = h
onto_numerals (suc k) n acc h =
    onto_by k (n / 10) (digit_glyph false (n % 10) ∷ acc) (n / 10 == 0) (λ n m acc h. onto_numerals k n acc h)
    (and_from (is_numeral (digit_glyph false (n % 10))) (list_all is_numeral acc) (glyph_numeral (n % 10) (omega arith)) h)

pub numerals : (n : ℕ) → list_all is_numeral (decimal n) ≡ true
unfolding digits
numerals n = onto_numerals 64 n [] refl

numeral_inside : (c : ℕ) → is_numeral c ≡ true → is_inside c ≡ true
numeral_inside c h = grind (arith, nat_tests)

decimal_inside : (n : ℕ) → list_all is_inside (decimal n) ≡ true
decimal_inside n = all_through is_numeral is_inside numeral_inside (decimal n) (numerals n)

viewer_inside : (viewer : Option ℕ) → list_all is_inside (viewer_text viewer) ≡ true
viewer_inside None = refl
viewer_inside (Some id) = decimal_inside id

more_inside : (labels : List ℕ) → list_all is_inside (more_labels labels) ≡ true
more_inside [] = refl
more_inside (k ∷ ks) = all_append is_inside (decimal k) (more_labels ks) (decimal_inside k) (more_inside ks)

shown_inside : (labels : Option (List ℕ)) → list_all is_inside (shown_text labels) ≡ true
shown_inside None = refl
shown_inside (Some []) = refl
shown_inside (Some (k ∷ ks)) = all_append is_inside (decimal k) (more_labels ks) (decimal_inside k) (more_inside ks)

-- ---- the first byte that fails a test

no_stop : (test : ℕ → Bool) (stop c : ℕ) → test stop ≡ false → test c ≡ true → stop ≡ c → ⊥
no_stop test stop c off on same = let wrong : false ≡ true = sym off ∙ ap test same ∙ on in cc

head_same : (c d : ℕ) (xs ys : List ℕ) → c ∷ xs ≡ d ∷ ys → c ≡ d
head_same c d xs ys same = cc

tail_same : (c d : ℕ) (xs ys : List ℕ) → c ∷ xs ≡ d ∷ ys → xs ≡ ys
tail_same c d xs ys same = cc

-- The bytes before the first one that fails the test, and the bytes from it on.
cut_at : (test : ℕ → Bool) (stop other : ℕ) (a b x y : List ℕ) → test stop ≡ false → test other ≡ false
    → list_all test a ≡ true → list_all test b ≡ true → a ++ stop ∷ x ≡ b ++ other ∷ y → (a ≡ b) × (stop ∷ x ≡ other ∷ y)
cut_at test stop other [] [] x y off off' on on' same = (refl, same)
cut_at test stop other [] (d ∷ b) x y off off' on on' same =
    absurd (no_stop test stop d off (and_left (test d) (list_all test b) on') (head_same stop d x (b ++ other ∷ y) same))
cut_at test stop other (c ∷ a) [] x y off off' on on' same =
    absurd (no_stop test other c off' (and_left (test c) (list_all test a) on) (sym (head_same c other (a ++ stop ∷ x) y same)))
cut_at test stop other (c ∷ a) (d ∷ b) x y off off' on on' same =
    let rest = cut_at test stop other a b x y off off' (and_right (test c) (list_all test a) on) (and_right (test d) (list_all test b) on')
    (tail_same c d (a ++ stop ∷ x) (b ++ other ∷ y) same) in
    (λ i. head_same c d (a ++ stop ∷ x) (b ++ other ∷ y) same i ∷ rest.0 i, rest.1)

-- The bytes before the first one that fails the test, and the bytes after it.
pub cut : (test : ℕ → Bool) (stop : ℕ) (a b x y : List ℕ) → test stop ≡ false → list_all test a ≡ true → list_all test b ≡ true
    → a ++ stop ∷ x ≡ b ++ stop ∷ y → (a ≡ b) × (x ≡ y)
cut test stop a b x y off on on' same =
    let parts = cut_at test stop stop a b x y off off on on' same in (parts.0, tail_same stop stop x y parts.1)

-- ---- labels by their text

label_fits : (n : ℕ) → n < 2 ^ 128 → n < 10 ^ 64
label_fits n small = omega (arith, small)

label_nonempty : (n : ℕ) → n < 2 ^ 128 → 0 < length (decimal n)
label_nonempty n small = (decimal_is_IsNumeral_wide n (label_fits n small)).0.0

pub label_injective : (m n : ℕ) → m < 2 ^ 128 → n < 2 ^ 128 → decimal m ≡ decimal n → m ≡ n
label_injective m n small small' same =
    sym (decimal_is_IsNumeral_wide m (label_fits m small)).1 ∙ ap (digits_value 10) same ∙ (decimal_is_IsNumeral_wide n (label_fits n small')).1

-- The text of these labels without its first comma, and with a comma at its end.
abbrev pub behind_comma : List ℕ → List ℕ
behind_comma [] = []
behind_comma (k ∷ ks) = (decimal k ++ more_labels ks) ++ 44 ∷ []

comma_first : (ks : List ℕ) → more_labels ks ++ 44 ∷ [] ≡ 44 ∷ behind_comma ks
comma_first [] = refl
comma_first (k ∷ ks) = refl

number_comma : (a : List ℕ) (ks : List ℕ) → (a ++ more_labels ks) ++ 44 ∷ [] ≡ a ++ 44 ∷ behind_comma ks
number_comma a ks = append_assoc a (more_labels ks) (44 ∷ []) ∙ ap (λ (t : List ℕ). a ++ t) (comma_first ks)

same_numbers : (k l : ℕ) (ks ls : List ℕ) → decimal k ++ more_labels ks ≡ decimal l ++ more_labels ls → decimal k ≡ decimal l
same_numbers k l ks ls same =
    (cut is_numeral 44 (decimal k) (decimal l) (behind_comma ks) (behind_comma ls) refl (numerals k) (numerals l)
    (sym (number_comma (decimal k) ks) ∙ ap (λ (t : List ℕ). t ++ 44 ∷ []) same ∙ number_comma (decimal l) ls)).0

same_more : (k l : ℕ) (ks ls : List ℕ) → decimal k ++ more_labels ks ≡ decimal l ++ more_labels ls → more_labels ks ≡ more_labels ls
same_more k l ks ls same =
    append_cancel_left (decimal k) (more_labels ks) (more_labels ls)
    (same ∙ ap (λ (t : List ℕ). t ++ more_labels ls) (sym (same_numbers k l ks ls same)))

empty_more : (l : ℕ) (ls : List ℕ) → more_labels [] ≡ more_labels (l ∷ ls) → ⊥
empty_more l ls same = cc

more_same : (ks ls : List ℕ) → AllByRecursion (λ k. k < 2 ^ 128) ks → AllByRecursion (λ k. k < 2 ^ 128) ls → more_labels ks ≡ more_labels ls → ks ≡ ls
more_same [] [] small small' same = refl
more_same [] (l ∷ ls) small small' same = absurd (empty_more l ls same)
more_same (k ∷ ks) [] small small' same = absurd (empty_more k ks (sym same))
more_same (k ∷ ks) (l ∷ ls) small small' same =
    let rest = tail_same 44 44 (decimal k ++ more_labels ks) (decimal l ++ more_labels ls) same in
    let first = label_injective k l small.0 small'.0 (same_numbers k l ks ls rest) in
    let others = more_same ks ls small.1 small'.1 (same_more k l ks ls rest) in
    λ i. first i ∷ others i

first_byte : (ds more rest : List ℕ) (c : ℕ) → 0 < length ds → list_all is_numeral ds ≡ true → ds ++ more ≡ c ∷ rest → is_numeral c ≡ true
first_byte [] more rest c some all same = absurd (omega (arith, some))
first_byte (d ∷ ds) more rest c some all same =
    ap is_numeral (sym (head_same d c (ds ++ more) rest same)) ∙ and_left (is_numeral d) (list_all is_numeral ds) all

no_number : (k c : ℕ) (ks rest : List ℕ) → k < 2 ^ 128 → is_numeral c ≡ false → c ∷ rest ≡ decimal k ++ more_labels ks → ⊥
no_number k c ks rest small off same =
    let on = first_byte (decimal k) (more_labels ks) rest c (label_nonempty k small) (numerals k) (sym same) in
    let wrong : false ≡ true = sym off ∙ on in cc

no_dash : shown_text None ≡ shown_text (Some []) → ⊥
no_dash same = let wrong : ◌≡◌ {A = ℕ} 110 45 = head_same 110 45 (codes "opage") [] same in absurd cc

pub shown_by_text : (one two : Option (List ℕ)) → AreSmall one → AreSmall two → shown_text one ≡ shown_text two → one ≡ two
shown_by_text None None small small' same = refl
shown_by_text None (Some []) small small' same = absurd (no_dash same)
shown_by_text None (Some (k ∷ ks)) small small' same = absurd (no_number k 110 ks (codes "opage") small'.0 refl same)
shown_by_text (Some []) None small small' same = absurd (no_dash (sym same))
shown_by_text (Some []) (Some []) small small' same = refl
shown_by_text (Some []) (Some (k ∷ ks)) small small' same = absurd (no_number k 45 ks [] small'.0 refl same)
shown_by_text (Some (k ∷ ks)) None small small' same = absurd (no_number k 110 ks (codes "opage") small.0 refl (sym same))
shown_by_text (Some (k ∷ ks)) (Some []) small small' same = absurd (no_number k 45 ks [] small.0 refl (sym same))
shown_by_text (Some (k ∷ ks)) (Some (l ∷ ls)) small small' same =
    let first = label_injective k l small.0 small'.0 (same_numbers k l ks ls same) in
    let others = more_same ks ls small.1 small'.1 (same_more k l ks ls same) in
    λ i. Some (first i ∷ others i)

-- ---- a line and the rest

-- A line of four words, and the rest.
line_before : (a b c d e more : List ℕ) → (a ++ 32 ∷ (b ++ 32 ∷ (c ++ 32 ∷ (d ++ e)))) ++ more ≡ a ++ 32 ∷ (b ++ 32 ∷ (c ++ 32 ∷ (d ++ (e ++ more))))
line_before a b c d e more =
    append_assoc a (32 ∷ (b ++ 32 ∷ (c ++ 32 ∷ (d ++ e)))) more
    ∙ ap (λ (t : List ℕ). a ++ 32 ∷ t)
    (append_assoc b (32 ∷ (c ++ 32 ∷ (d ++ e))) more
    ∙ ap (λ (t : List ℕ). b ++ 32 ∷ t) (append_assoc c (32 ∷ (d ++ e)) more ∙ ap (λ (t : List ℕ). c ++ 32 ∷ t) (append_assoc d e more)))

-- The words of a line, as in the line.
words_joined : (a b c d : List ℕ) → (((a ++ 32 ∷ []) ++ b) ++ 32 ∷ []) ++ c ++ d ≡ a ++ 32 ∷ (b ++ 32 ∷ (c ++ d))
words_joined a b c d =
    append_assoc (((a ++ 32 ∷ []) ++ b) ++ 32 ∷ []) c d
    ∙ append_assoc ((a ++ 32 ∷ []) ++ b) (32 ∷ []) (c ++ d)
    ∙ append_assoc (a ++ 32 ∷ []) b (32 ∷ (c ++ d))
    ∙ append_assoc a (32 ∷ []) (b ++ 32 ∷ (c ++ d))

line_shape : (k : ℕ) (entry : LogEntry) → audit_line k entry
    ≡ decimal k ++ 32 ∷ (decimal entry.answer.status ++ 32 ∷ (viewer_text (viewer_of_subject entry.subject)
    ++ 32 ∷ (shown_text entry.answer.shown ++ (consulted_text entry.answer.consulted ++ 10 ∷ []))))
line_shape k entry =
    let status = decimal entry.answer.status in
    let viewer = viewer_text (viewer_of_subject entry.subject) in
    let labels = shown_text entry.answer.shown in
    let consulted = consulted_text entry.answer.consulted in
    ap (λ (t : List ℕ). decimal k ++ 32 ∷ t)
    (append_assoc ((((status ++ 32 ∷ []) ++ viewer) ++ 32 ∷ []) ++ labels) consulted (10 ∷ [])
    ∙ words_joined status viewer labels (consulted ++ 10 ∷ []))

-- The same line without its end.
abbrev pub words_of : ℕ → LogEntry → List ℕ
words_of k entry =
    decimal k ++ 32 ∷ (decimal entry.answer.status ++ 32 ∷ (viewer_text (viewer_of_subject entry.subject)
    ++ 32 ∷ (shown_text entry.answer.shown ++ consulted_text entry.answer.consulted)))

line_end : (k : ℕ) (entry : LogEntry) → audit_line k entry ≡ words_of k entry ++ 10 ∷ []
line_end k entry =
    line_shape k entry
    ∙ sym (line_before (decimal k) (decimal entry.answer.status) (viewer_text (viewer_of_subject entry.subject))
    (shown_text entry.answer.shown) (consulted_text entry.answer.consulted) (10 ∷ []))

-- What follows the labels in a line.
abbrev pub behind_labels : Option (List ℕ) → List ℕ → List ℕ
behind_labels consulted more = consulted_text consulted ++ 10 ∷ more

line_split : (k : ℕ) (entry : LogEntry) (more : List ℕ) → audit_line k entry ++ more
    ≡ decimal k ++ 32 ∷ (decimal entry.answer.status ++ 32 ∷ (viewer_text (viewer_of_subject entry.subject)
    ++ 32 ∷ (shown_text entry.answer.shown ++ behind_labels entry.answer.consulted more)))
line_split k entry more =
    let status = decimal entry.answer.status in
    let viewer = viewer_text (viewer_of_subject entry.subject) in
    let labels = shown_text entry.answer.shown in
    let consulted = consulted_text entry.answer.consulted in
    ap (λ (t : List ℕ). t ++ more) (line_shape k entry)
    ∙ line_before (decimal k) status viewer labels (consulted ++ 10 ∷ []) more
    ∙ ap (λ (t : List ℕ). decimal k ++ 32 ∷ (status ++ 32 ∷ (viewer ++ 32 ∷ (labels ++ t)))) (append_assoc consulted (10 ∷ []) more)

next_line : (front : List ℕ) (k : ℕ) (entry : LogEntry) → BeginsLine (front ++ audit_line k entry)
next_line front k entry =
    inr (front ++ words_of k entry, ap (λ (t : List ℕ). front ++ t) (line_end k entry) ∙ sym (append_assoc front (words_of k entry) (10 ∷ [])))

no_mark : (x y : List ℕ) → 10 ∷ x ≡ 32 ∷ y → ⊥
no_mark x y same = let wrong : ◌≡◌ {A = ℕ} 10 32 = head_same 10 32 x y same in absurd cc

-- The text after ` of `.
behind_mark : (x y : List ℕ) → 111 ∷ 102 ∷ 32 ∷ x ≡ 111 ∷ 102 ∷ 32 ∷ y → x ≡ y
behind_mark x y same =
    tail_same 32 32 x y
    (tail_same 102 102 (32 ∷ x) (32 ∷ y) (tail_same 111 111 (102 ∷ 32 ∷ x) (102 ∷ 32 ∷ y) same))

-- The same word, the same consulted labels, and the same lines after them.
same_labels : (one two : Option (List ℕ)) (a b more others : List ℕ) → list_all is_inside a ≡ true → list_all is_inside b ≡ true
    → a ++ behind_labels one more ≡ b ++ behind_labels two others → (a ≡ b) × (consulted_text one ≡ consulted_text two) × (more ≡ others)
same_labels None None a b more others on on' same = let parts = cut is_inside 10 a b more others refl on on' same in (parts.0, refl, parts.1)
same_labels None (Some ls) a b more others on on' same =
    let rest = 111 ∷ 102 ∷ 32 ∷ (labels_text ls ++ 10 ∷ others) in
    absurd (no_mark more rest (cut_at is_inside 10 32 a b more rest refl refl on on' same).1)
same_labels (Some ks) None a b more others on on' same =
    let rest = 111 ∷ 102 ∷ 32 ∷ (labels_text ks ++ 10 ∷ more) in
    absurd (no_mark others rest (sym (cut_at is_inside 32 10 a b rest others refl refl on on' same).1))
same_labels (Some ks) (Some ls) a b more others on on' same =
    let one = labels_text ks ++ 10 ∷ more in
    let two = labels_text ls ++ 10 ∷ others in
    let parts = cut is_inside 32 a b (111 ∷ 102 ∷ 32 ∷ one) (111 ∷ 102 ∷ 32 ∷ two) refl on on' same in
    let last = cut is_inside 10 (labels_text ks) (labels_text ls) more others refl (shown_inside (Some ks)) (shown_inside (Some ls)) (behind_mark one two parts.1) in
    (parts.0, ap (λ (l : List ℕ). codes " of " ++ l) last.0, last.1)

-- Two lines with the same words, and the same bytes after them.
record IsSameLine (one two : LogEntry) (more others : List ℕ) : Type 0 where
  pub status : decimal one.answer.status ≡ decimal two.answer.status
  pub viewer : viewer_text (viewer_of_subject one.subject) ≡ viewer_text (viewer_of_subject two.subject)
  pub shown : shown_text one.answer.shown ≡ shown_text two.answer.shown
  pub consulted : consulted_text one.answer.consulted ≡ consulted_text two.answer.consulted
  pub rest : more ≡ others

same_line : (k : ℕ) (one two : LogEntry) (more others : List ℕ) → audit_line k one ++ more ≡ audit_line k two ++ others
    → IsSameLine one two more others
same_line k one two more others same =
    let viewer = viewer_text (viewer_of_subject one.subject) in
    let viewer' = viewer_text (viewer_of_subject two.subject) in
    let last = shown_text one.answer.shown ++ behind_labels one.answer.consulted more in
    let last' = shown_text two.answer.shown ++ behind_labels two.answer.consulted others in
    let numbered = cut is_inside 32 (decimal k) (decimal k) (decimal one.answer.status ++ 32 ∷ (viewer ++ 32 ∷ last)) (decimal two.answer.status ++ 32 ∷ (viewer' ++ 32 ∷ last'))
    refl (decimal_inside k) (decimal_inside k) (sym (line_split k one more) ∙ same ∙ line_split k two others) in
    let status = cut is_inside 32 (decimal one.answer.status) (decimal two.answer.status) (viewer ++ 32 ∷ last) (viewer' ++ 32 ∷ last')
    refl (decimal_inside one.answer.status) (decimal_inside two.answer.status) numbered.1 in
    let looking = cut is_inside 32 viewer viewer' last last' refl (viewer_inside (viewer_of_subject one.subject)) (viewer_inside (viewer_of_subject two.subject)) status.1 in
    let labels = same_labels one.answer.consulted two.answer.consulted (shown_text one.answer.shown) (shown_text two.answer.shown) more others
    (shown_inside one.answer.shown) (shown_inside two.answer.shown) looking.1 in
    record { status = status.0; viewer = looking.0; shown = labels.0; consulted = labels.1; rest = labels.2 }

no_end : (a x : List ℕ) (c : ℕ) → a ++ c ∷ x ≡ [] → ⊥
no_end [] x c same = cc
no_end (d ∷ a) x c same = cc

-- An audit with a line isn't empty.
no_line : (k : ℕ) (entry : LogEntry) (more : List ℕ) → audit_line k entry ++ more ≡ [] → ⊥
no_line k entry more same =
    no_end (decimal k)
    (decimal entry.answer.status ++ 32 ∷ (viewer_text (viewer_of_subject entry.subject)
    ++ 32 ∷ (shown_text entry.answer.shown ++ behind_labels entry.answer.consulted more)))
    32 (sym (line_split k entry more) ∙ same)

-- Logs whose audits are the same bytes have the same labels.
pub labels_by_text : (k : ℕ) (log others : List LogEntry) → audited_from k log ≡ audited_from k others → HaveSmallLabels log → HaveSmallLabels others
    → labels_of log ≡ labels_of others
labels_by_text k [] [] same small small' = refl
labels_by_text k [] (two ∷ others) same small small' = absurd (no_line k two (audited_from (k + 1) others) (sym same))
labels_by_text k (one ∷ log) [] same small small' = absurd (no_line k one (audited_from (k + 1) log) same)
labels_by_text k (one ∷ log) (two ∷ others) same small small' =
    let line = same_line k one two (audited_from (k + 1) log) (audited_from (k + 1) others) same in
    let first = shown_by_text one.answer.shown two.answer.shown small.0 small'.0 line.shown in
    let rest = labels_by_text (k + 1) log others line.rest small.1 small'.1 in
    λ i. first i ∷ rest i

-- ---- the contents of a line

no_viewer : (id : ℕ) → id < 2 ^ 128 → viewer_text None ≡ viewer_text (Some id) → ⊥
no_viewer id small same = no_number id 45 [] [] small refl (same ∙ sym (append-nil (decimal id)))

viewer_by_text : (one two : Option ℕ) → IsSmallViewer one → IsSmallViewer two → viewer_text one ≡ viewer_text two → one ≡ two
viewer_by_text None None small small' same = refl
viewer_by_text None (Some id) small small' same = absurd (no_viewer id small' same)
viewer_by_text (Some id) None small small' same = absurd (no_viewer id small (sym same))
viewer_by_text (Some id) (Some other) small small' same = ap (λ (n : ℕ). Some n) (label_injective id other small small' same)

no_mark_first : (ks : List ℕ) → consulted_text None ≡ consulted_text (Some ks) → ⊥
no_mark_first ks same = cc

consulted_by_text : (one two : Option (List ℕ)) → AreSmall one → AreSmall two → consulted_text one ≡ consulted_text two → one ≡ two
consulted_by_text None None small small' same = refl
consulted_by_text None (Some ls) small small' same = absurd (no_mark_first ls same)
consulted_by_text (Some ks) None small small' same = absurd (no_mark_first ks (sym same))
consulted_by_text (Some ks) (Some ls) small small' same =
    shown_by_text (Some ks) (Some ls) small small' (append_cancel_left (codes " of ") (labels_text ks) (labels_text ls) same)

-- The audit lines of logs whose audits are the same bytes have the same contents, line by line.
pub entries_by_text : (k : ℕ) (log others : List LogEntry) → HaveSmallNumbers log → HaveSmallNumbers others → audited_from k log ≡ audited_from k others
    → AreAuditedAlike log others
entries_by_text k [] [] small small' same = tt
entries_by_text k [] (two ∷ others) small small' same = absurd (no_line k two (audited_from (k + 1) others) (sym same))
entries_by_text k (one ∷ log) [] small small' same = absurd (no_line k one (audited_from (k + 1) log) same)
entries_by_text k (one ∷ log) (two ∷ others) small small' same =
    let line = same_line k one two (audited_from (k + 1) log) (audited_from (k + 1) others) same in (
      record {
        status = label_injective one.answer.status two.answer.status small.0.status small'.0.status line.status;
        viewer = viewer_by_text (viewer_of_subject one.subject) (viewer_of_subject two.subject) small.0.viewer small'.0.viewer line.viewer;
        shown = shown_by_text one.answer.shown two.answer.shown small.0.shown small'.0.shown line.shown;
        consulted = consulted_by_text one.answer.consulted two.answer.consulted small.0.consulted small'.0.consulted line.consulted;
      },
      entries_by_text (k + 1) log others small.1 small'.1 line.rest,
    )

-- ---- the status of a line

decimal_500 : decimal 500 ≡ codes "500"
unfolding digits
decimal_500 = refl

decimal_503 : decimal 503 ≡ codes "503"
unfolding digits
decimal_503 = refl

-- A line with this status has its word.
status_word : (audit front : List ℕ) (k status : ℕ) (entry : LogEntry) (more digits_of : List ℕ) → BeginsLine front → audit ≡ front ++ (audit_line k entry ++ more)
    → entry.answer.status ≡ status → decimal status ≡ digits_of → HasStatusWord audit (32 ∷ (digits_of ++ 32 ∷ []))
status_word audit front k status entry more digits_of begins is on text =
    let rest = viewer_text (viewer_of_subject entry.subject) ++ 32 ∷ (shown_text entry.answer.shown ++ behind_labels entry.answer.consulted more) in
    let word : decimal entry.answer.status ++ 32 ∷ rest ≡ (digits_of ++ 32 ∷ []) ++ rest =
    ap (λ (s : ℕ). decimal s ++ 32 ∷ rest) on ∙ ap (λ (t : List ℕ). t ++ 32 ∷ rest) text ∙ sym (append_assoc digits_of (32 ∷ []) rest) in
    record {
      front = front;
      number = k;
      rest = rest;
      begins = begins;
      is = is ∙ ap (λ (t : List ℕ). front ++ t) (line_split k entry more) ∙ ap (λ (t : List ℕ). front ++ (decimal k ++ 32 ∷ t)) word;
    }

failure_status : (status : ℕ) → (status == 500 || status == 503) ≡ true → (status ≡ 500) ⊎ (status ≡ 503)
failure_status status h = elim (cases_eq status 500) [
  | inl e ↦ inl e
  | inr p ↦ inr (grind (arith, nat_tests, h, p))
]

no_failure : (audit front : List ℕ) (k : ℕ) (entry : LogEntry) (more : List ℕ) (b : Bool) → BeginsLine front → audit ≡ front ++ (audit_line k entry ++ more)
    → TellsNoFailure audit → is_failure entry.answer ≡ b → b ≡ false
no_failure audit front k entry more false begins is quiet fails = refl
no_failure audit front k entry more true begins is quiet fails = elim (failure_status entry.answer.status fails) [
  | inl e ↦ absurd (quiet.no_500 (status_word audit front k 500 entry more (codes "500") begins is e decimal_500))
  | inr e ↦ absurd (quiet.no_503 (status_word audit front k 503 entry more (codes "503") begins is e decimal_503))
]

line_moved : (audit front line more : List ℕ) → audit ≡ front ++ (line ++ more) → audit ≡ (front ++ line) ++ more
line_moved audit front line more is = is ∙ sym (append_assoc front line more)

none_from : (audit front : List ℕ) (k : ℕ) (log : List LogEntry) → BeginsLine front → audit ≡ front ++ audited_from k log → TellsNoFailure audit → NoneFailed log
none_from audit front k [] begins is quiet = tt
none_from audit front k (entry ∷ log) begins is quiet =
    let more = audited_from (k + 1) log in (
      no_failure audit front k entry more (is_failure entry.answer) begins is quiet refl,
      none_from audit (front ++ audit_line k entry) (k + 1) log (next_line front k entry) (line_moved audit front (audit_line k entry) more is) quiet,
    )

pub none_failed : (log : List LogEntry) → TellsNoFailure (audit_lines log) → NoneFailed log
none_failed log quiet = none_from (audit_lines log) [] 1 log (inl refl) refl quiet

looks_from : (start other : State) (audit front : List ℕ) (k : ℕ) (log : List LogEntry) → BeginsLine front → audit ≡ front ++ audited_from k log
    → ((labels : List ℕ) → TellsPage audit labels → LookSame (shown_by labels) start other) → LookSameFor start other log
looks_from start other audit front k [] begins is look = tt
looks_from start other audit front k (entry ∷ log) begins is look =
    let more = audited_from (k + 1) log in (
      λ labels on. look labels (record {
        front = front;
        number = k;
        status = entry.answer.status;
        viewer = viewer_of_subject entry.subject;
        consulted = entry.answer.consulted;
        rest = more;
        begins = begins;
        is =
            is
            ∙ ap
            (λ (o : Option (List ℕ)). front ++ (audit_text k entry.answer.status (viewer_of_subject entry.subject) o entry.answer.consulted ++ more))
            on;
      }),
      looks_from start other audit (front ++ audit_line k entry) (k + 1) log (next_line front k entry) (line_moved audit front (audit_line k entry) more is) look,
    )

pub looks_same : (start other : State) (log : List LogEntry) → ((labels : List ℕ) → TellsPage (audit_lines log) labels → LookSame (shown_by labels) start other)
    → LookSameFor start other log
looks_same start other log look = looks_from start other (audit_lines log) [] 1 log (inl refl) refl look
