-- The generated lines are requests.
use Rattle.std.proofs.Common.{◌≡◌, ◌∙◌, ap, sym, subst, refl, ℕ, zero, suc, ◌+◌, ◌*◌, ◌%◌, ◌≤◌, ◌<◌, ◌^◌, ◌==◌, ◌&&◌, nat_le, nat_lt, not, Bool, true, false, cond, Option, Some, None, List, [], ◌∷◌, ◌++◌, length, take, drop, if◌then◌else◌, append_assoc, length-append, codes, decimal, arith}
use Rattle.std.proofs.lemmas.Bool.Decides.{nat_tests}
use Rattle.std.proofs.lemmas.Fmt.{decimal_by_steps, length-decimal-le}
use Rattle.std.proofs.lemmas.List.Elements.{All-nil, All-cons}
use Rattle.std.proofs.lemmas.List.Splits.{slice_split_at}
use Rattle.std.proofs.lemmas.Str.{is_utf8-from_IsUtf8, IsUtf8-from_ascii}
use Rattle.std.specs.Fmt.{digits}
use Rattle.std.specs.List.{All, list_all, position_or_len, slice_index, slice_split}
use Rattle.std.specs.Option.{option_map}
use Rattle.std.specs.Str.{is_utf8}
use Rattle.std.proofs.lemmas.Bool.{and_from}
use Rattle.jac_demo.specs.Requests.{viewer_number, open_digit, join_line, add_line, list_line, demo_line, lines_from, demo_text}
use Rattle.jac_value.specs.Visitors.{viewer_read}
use Rattle.jac_events.specs.Lines.{is_method, is_path_target, request_of_parts, ask_of, line_of}
use Rattle.jac_events.specs.Words.{word_at, read_quoted, with_byte}
use Rattle.jac_calendar_laws.specs.Asking.{IsAsking, AreAsking}

-- A byte that needs no escape, in a word and between quotes.
abbrev pub is_quiet : ℕ → Bool
is_quiet b = nat_lt 34 b && not (b == 92)

abbrev pub is_inside : ℕ → Bool
is_inside b = not (b == 10)

and_left : (a b : Bool) → (a && b) ≡ true → a ≡ true
and_left true b h = refl
and_left false b h = absurd cc

and_right : (a b : Bool) → (a && b) ≡ true → b ≡ true
and_right true b h = h
and_right false b h = absurd cc

not_space : (b : ℕ) → is_quiet b ≡ true → (b == 32) ≡ false
not_space b h = grind (arith, nat_tests)

not_quote : (b : ℕ) → is_quiet b ≡ true → (b == 34) ≡ false
not_quote b h = grind (arith, nat_tests)

not_slash : (b : ℕ) → is_quiet b ≡ true → (b == 92) ≡ false
not_slash b h = grind (arith, nat_tests)

not_feed : (b : ℕ) → is_quiet b ≡ true → (b == 10) ≡ false
not_feed b h = grind (arith, nat_tests)

all_append : (test : ℕ → Bool) (xs ys : List ℕ) → list_all test xs ≡ true → list_all test ys ≡ true → list_all test (xs ++ ys) ≡ true
all_append test [] ys one two = two
all_append test (x ∷ xs) ys one two = and_from (test x) (list_all test (xs ++ ys)) (and_left (test x) (list_all test xs) one) (all_append test xs ys (and_right (test x) (list_all test xs) one) two)

inside : (xs : List ℕ) → list_all is_quiet xs ≡ true → list_all is_inside xs ≡ true
inside [] h = refl
inside (x ∷ xs) h =
    and_from (is_inside x) (list_all is_inside xs)
    (ap not (not_feed x (and_left (is_quiet x) (list_all is_quiet xs) h)))
    (inside xs (and_right (is_quiet x) (list_all is_quiet xs) h))

-- The place of the first space.
front_length : (w rest : List ℕ) → list_all is_quiet w ≡ true → position_or_len (λ b. b == 32) (w ++ 32 ∷ rest) ≡ length w
front_length [] rest h = refl
front_length (x ∷ w) rest h =
    let more = front_length w rest (and_right (is_quiet x) (list_all is_quiet w) h) in
    rw (not_space x (and_left (is_quiet x) (list_all is_quiet w) h)) (omega (arith, more))

length_front : (w rest : List ℕ) → length w < length (w ++ 32 ∷ rest)
length_front [] rest = omega arith
length_front (x ∷ w) rest = let h = length_front w rest in omega (arith, h)

take_front : (w ys : List ℕ) → take (length w) (w ++ ys) ≡ w
take_front [] ys = refl
take_front (x ∷ w) ys = ap (λ (t : List ℕ). x ∷ t) (take_front w ys)

drop_front : (w rest : List ℕ) → drop (suc (length w)) (w ++ 32 ∷ rest) ≡ rest
drop_front [] rest = refl
drop_front (x ∷ w) rest = drop_front w rest

placed : (n at size : ℕ) → at ≡ n → n < size → cond (nat_lt at size) (Some at) None ≡ Some n
placed n at size is within = grind (arith, nat_tests)

word_front : (w rest : List ℕ) → list_all is_quiet w ≡ true → word_at (w ++ 32 ∷ rest) ≡ Some (w, rest)
word_front w rest h =
    let all = w ++ 32 ∷ rest in
    let next : suc (length w) ≡ length w + 1 = omega arith in
    let front = take_front w (32 ∷ rest) in
    let behind : drop (length w + 1) all ≡ rest = ap (λ (n : ℕ). drop n all) (sym next) ∙ drop_front w rest in
    ap (λ (o : Option ℕ). option_map (λ i. (take i all, drop (i + 1) all)) o)
    (placed (length w) (position_or_len (λ b. b == 32) all) (length all) (front_length w rest h) (length_front w rest))
    ∙ (λ i. Some (front i, behind i))

-- The text before the closing quote.
unquoted_front : (w rest : List ℕ) → list_all is_quiet w ≡ true → read_quoted (w ++ 34 ∷ rest) ≡ Some (w, rest)
unquoted_front [] rest h = refl
unquoted_front (x ∷ w) rest h =
    let quiet = and_left (is_quiet x) (list_all is_quiet w) h in
    rw (not_quote x quiet, not_slash x quiet, not_feed x quiet)
    (ap (λ (o : Option (List ℕ × List ℕ)). with_byte x o) (unquoted_front w rest (and_right (is_quiet x) (list_all is_quiet w) h)))

-- The parts of a request after `ask`.
abbrev ask_text : List ℕ → List ℕ → List ℕ → List ℕ → List ℕ
ask_text viewer method target body = viewer ++ 32 ∷ (method ++ 32 ∷ (34 ∷ (target ++ 34 ∷ (32 ∷ (34 ∷ (body ++ 34 ∷ []))))))

record AreParts (viewer method target body : List ℕ) (number : Option ℕ) : Type 0 where
  quiet_viewer : list_all is_quiet viewer ≡ true
  quiet_method : list_all is_quiet method ≡ true
  quiet_target : list_all is_quiet target ≡ true
  quiet_body : list_all is_quiet body ≡ true
  numbered : viewer_read viewer ≡ Some number
  named : (is_method method && is_path_target target) ≡ true

ask_written : (viewer method target body : List ℕ) (number : Option ℕ) → AreParts viewer method target body number
    → ask_of (ask_text viewer method target body) ≡ Some (request_of_parts number method target body)
ask_written viewer method target body number p =
    let behind_target = 32 ∷ (34 ∷ (body ++ 34 ∷ [])) in
    let behind_method = 34 ∷ (target ++ 34 ∷ behind_target) in
    rw (
      word_front viewer (method ++ 32 ∷ behind_method) p.quiet_viewer,
      word_front method behind_method p.quiet_method,
      unquoted_front target behind_target p.quiet_target,
      unquoted_front body [] p.quiet_body,
      p.numbered,
      p.named,
    ) refl

line_asking : (rest : List ℕ) (viewer : Option ℕ) (method target body : List ℕ) → ask_of rest ≡ Some (request_of_parts viewer method target body)
    → IsAsking (line_of (codes "ask" ++ 32 ∷ rest))
line_asking rest viewer method target body is = rw (word_front (codes "ask") rest refl, is) tt

parts_inside : (viewer method target body : List ℕ) (number : Option ℕ) → AreParts viewer method target body number
    → list_all is_inside (codes "ask" ++ 32 ∷ ask_text viewer method target body) ≡ true
parts_inside viewer method target body number p =
    let last = all_append is_inside body (34 ∷ []) (inside body p.quiet_body) refl in
    let behind_target = all_append is_inside target (34 ∷ (32 ∷ (34 ∷ (body ++ 34 ∷ [])))) (inside target p.quiet_target) last in
    let behind_method = all_append is_inside method (32 ∷ (34 ∷ (target ++ 34 ∷ (32 ∷ (34 ∷ (body ++ 34 ∷ [])))))) (inside method p.quiet_method) behind_target in
    all_append is_inside viewer (32 ∷ (method ++ 32 ∷ (34 ∷ (target ++ 34 ∷ (32 ∷ (34 ∷ (body ++ 34 ∷ []))))))) (inside viewer p.quiet_viewer) behind_method

-- A line in the form of a request, with its line feed.
record IsRequest (line : List ℕ) : Type 0 where
  part : List ℕ
  is : line ≡ part ++ 10 ∷ []
  within : list_all is_inside part ≡ true
  asking : IsAsking (line_of part)

request_of : (line viewer method target body : List ℕ) (number : Option ℕ) → AreParts viewer method target body number
    → line ≡ (codes "ask" ++ 32 ∷ ask_text viewer method target body) ++ 10 ∷ [] → IsRequest line
request_of line viewer method target body number p is = record {
  part = codes "ask" ++ 32 ∷ ask_text viewer method target body;
  is = is;
  within = parts_inside viewer method target body number p;
  asking = line_asking (ask_text viewer method target body) number method target body (ask_written viewer method target body number p);
}

quiet_digit : (d : ℕ) → d < 10 → is_quiet (48 + d) ≡ true
quiet_digit d h = grind (arith, nat_tests)

quiet_one : (d : ℕ) → d < 10 → list_all is_quiet ((48 + d) ∷ []) ≡ true
quiet_one d h = and_from (is_quiet (48 + d)) true (quiet_digit d h) refl

quiet_decimal : (n : ℕ) → n < 2 ^ 64 → list_all is_quiet (decimal n) ≡ true
quiet_decimal n h =
    decimal_by_steps (λ n ds. list_all is_quiet ds ≡ true) quiet_one
    (λ n ds more so_far. all_append is_quiet ds ((48 + n % 10) ∷ []) so_far (quiet_one (n % 10) (omega arith)))
    n h

-- The number of a viewer in digits.
record IsViewer (word : List ℕ) : Type 0 where
  number : Option ℕ
  quiet : list_all is_quiet word ≡ true
  numbered : viewer_read word ≡ Some number

viewer_4096 : IsViewer (decimal 4096)
unfolding digits
viewer_4096 = record { number = Some 4096; quiet = refl; numbered = refl }

viewer_8192 : IsViewer (decimal 8192)
unfolding digits
viewer_8192 = record { number = Some 8192; quiet = refl; numbered = refl }

viewer_12288 : IsViewer (decimal 12288)
unfolding digits
viewer_12288 = record { number = Some 12288; quiet = refl; numbered = refl }

viewer_by : (m : ℕ) → m < 3 → IsViewer (decimal (4096 * (m + 1)))
viewer_by zero h = viewer_4096
viewer_by (suc zero) h = viewer_8192
viewer_by (suc (suc zero)) h = viewer_12288
viewer_by (suc (suc (suc m))) h = absurd (omega (arith, h))

viewer_is : (i : ℕ) → IsViewer (decimal (viewer_number i))
viewer_is i = viewer_by (i % 3) (omega arith)

pub ascii_at : (bytes : List ℕ) → list_all (λ b. nat_lt b 128) bytes ≡ true → (i : ℕ) → slice_index bytes i < 128
ascii_at [] h i = omega arith
ascii_at (b ∷ bytes) h zero = let first = and_left (nat_lt b 128) (list_all (λ b. nat_lt b 128) bytes) h in grind (arith, nat_tests, first)
ascii_at (b ∷ bytes) h (suc i) = ascii_at bytes (and_right (nat_lt b 128) (list_all (λ b. nat_lt b 128) bytes) h) i

is_text : (bytes : List ℕ) → list_all (λ b. nat_lt b 128) bytes ≡ true → is_utf8 bytes ≡ true
is_text bytes h = is_utf8-from_IsUtf8 bytes (IsUtf8-from_ascii bytes (ascii_at bytes h))

join_request : (i : ℕ) → i < 2 ^ 64 → IsRequest (join_line i)
join_request i h =
    request_of (join_line i) (codes "-") (codes "POST") (codes "/join") (codes "name=u" ++ decimal i) None
    (record {
      quiet_viewer = refl;
      quiet_method = refl;
      quiet_target = refl;
      quiet_body = quiet_decimal i h;
      numbered = refl;
      named = is_text (codes "/join") refl;
    })
    (ap (λ (t : List ℕ). codes "ask - POST \"/join\" \"name=u" ++ t) (sym (append_assoc (decimal i) (34 ∷ []) (10 ∷ []))))

list_request : (i : ℕ) → IsRequest (list_line i)
list_request i =
    let viewer = viewer_is i in
    let word = decimal (viewer_number i) in
    request_of (list_line i) word (codes "GET") (codes "/list") [] viewer.number
    (record {
      quiet_viewer = viewer.quiet;
      quiet_method = refl;
      quiet_target = refl;
      quiet_body = refl;
      numbered = viewer.numbered;
      named = is_text (codes "/list") refl;
    })
    (ap (λ (t : List ℕ). codes "ask " ++ t) (sym (append_assoc word (codes " GET \"/list\" \"\"") (10 ∷ []))))

digit_small : (b : Bool) → (if b then 1 else 0) < 2 ^ 64
digit_small true = omega arith
digit_small false = omega arith

add_is : (word number digit : List ℕ)
    → word ++ (codes " POST \"/add\" \"title=t" ++ (number ++ (codes "&open=" ++ (digit ++ codes "\"\n"))))
    ≡ (word ++ (codes " POST \"/add\" \"title=t" ++ ((number ++ (codes "&open=" ++ digit)) ++ 34 ∷ []))) ++ 10 ∷ []
add_is word number digit =
    let front = codes " POST \"/add\" \"title=t" in
    let last = codes "&open=" ++ digit in
    let second = sym (append_assoc number last (codes "\"\n")) ∙ sym (append_assoc (number ++ last) (34 ∷ []) (10 ∷ [])) in
    ap (λ (t : List ℕ). word ++ (front ++ t)) second ∙ sym (append_assoc word (front ++ ((number ++ last) ++ 34 ∷ [])) (10 ∷ []))

add_request : (i : ℕ) → i < 2 ^ 64 → IsRequest (add_line i)
add_request i h =
    let viewer = viewer_is i in
    let word = decimal (viewer_number i) in
    let digit = decimal (open_digit i) in
    let last = quiet_decimal (open_digit i) (digit_small (i % 5 == 0)) in
    request_of (add_line i) word (codes "POST") (codes "/add") (codes "title=t" ++ (decimal i ++ (codes "&open=" ++ digit))) viewer.number
    (record {
      quiet_viewer = viewer.quiet;
      quiet_method = refl;
      quiet_target = refl;
      quiet_body = all_append is_quiet (decimal i) (codes "&open=" ++ digit) (quiet_decimal i h) last;
      numbered = viewer.numbered;
      named = is_text (codes "/add") refl;
    })
    (ap (λ (t : List ℕ). codes "ask " ++ t) (add_is word (decimal i) digit))

request_by : (first fourth : Bool) (i : ℕ) → i < 2 ^ 64 → IsRequest (if first then join_line i else if fourth then list_line i else add_line i)
request_by true fourth i h = join_request i h
request_by false true i h = list_request i
request_by false false i h = add_request i h

demo_request : (i : ℕ) → i < 2 ^ 64 → IsRequest (demo_line i)
unfolding demo_line
demo_request i h = request_by (nat_le i 3) (i % 4 == 0) i h

no_feed : (b : ℕ) → is_inside b ≡ true → (b == 10) ≡ false
no_feed b h = grind (arith, nat_tests)

none_feed : (xs : List ℕ) → list_all is_inside xs ≡ true → All (λ b. (b == 10) ≡ false) xs
none_feed [] h = All-nil (λ b. (b == 10) ≡ false)
none_feed (x ∷ xs) h =
    All-cons (λ b. (b == 10) ≡ false) x xs (no_feed x (and_left (is_inside x) (list_all is_inside xs) h))
    (none_feed xs (and_right (is_inside x) (list_all is_inside xs) h))

abbrev lines_of : List ℕ → List (List ℕ)
lines_of text = slice_split (λ b. b == 10) text

request_then : (line rest : List ℕ) → IsRequest line → AreAsking rest → AreAsking (line ++ rest)
request_then line rest r more =
    let same : line ++ rest ≡ r.part ++ 10 ∷ rest = ap (λ (t : List ℕ). t ++ rest) r.is ∙ append_assoc r.part (10 ∷ []) rest in
    let split = ap lines_of same ∙ slice_split_at (λ b. b == 10) r.part 10 rest (none_feed r.part r.within) refl in
    subst (λ (lines : List (List ℕ)). All (λ line. IsAsking (line_of line)) lines) (sym split)
    (All-cons (λ line. IsAsking (line_of line)) r.part (lines_of rest) r.asking more)

lines_asking : (i count : ℕ) → i + count < 2 ^ 64 → AreAsking (lines_from i count)
lines_asking i zero h = All-cons (λ line. IsAsking (line_of line)) [] [] tt (All-nil (λ line. IsAsking (line_of line)))
lines_asking i (suc count) h = request_then (demo_line i) (lines_from (i + 1) count) (demo_request i (omega (arith, h))) (lines_asking (i + 1) count (omega (arith, h)))

-- Each line of the generated requests has the form of a request. After the last line feed there is
-- an empty line.
pub text_asking : (count : ℕ) → count < 2 ^ 63 → AreAsking (demo_text count)
text_asking count h = lines_asking 1 count (omega (arith, h))

-- The length of a line is bounded.
length_join : (i : ℕ) → i < 10 ^ 4 → length (join_line i) ≤ 100
length_join i h =
    let number = length-decimal-le 4 i (omega arith) h (omega (arith, h)) in
    let all = length-append (decimal i) (codes "\"\n") in
    omega (arith, number, all)

length_viewer : (m : ℕ) → m < 3 → length (decimal (4096 * (m + 1))) ≤ 5
length_viewer m h = length-decimal-le 5 (4096 * (m + 1)) (omega arith) (omega (arith, h)) (omega (arith, h))

length_list : (i : ℕ) → length (list_line i) ≤ 100
length_list i =
    let viewer = length_viewer (i % 3) (omega arith) in
    let all = length-append (decimal (viewer_number i)) (codes " GET \"/list\" \"\"\n") in
    omega (arith, viewer, all)

length_digit : (b : Bool) → length (decimal (if b then 1 else 0)) ≤ 1
length_digit true = length-decimal-le 1 1 (omega arith) (omega arith) (omega arith)
length_digit false = length-decimal-le 1 0 (omega arith) (omega arith) (omega arith)

length_add : (i : ℕ) → i < 10 ^ 4 → length (add_line i) ≤ 100
length_add i h =
    let viewer = length_viewer (i % 3) (omega arith) in
    let number = length-decimal-le 4 i (omega arith) h (omega (arith, h)) in
    let digit = length_digit (i % 5 == 0) in
    let last = decimal (open_digit i) ++ codes "\"\n" in
    let first = length-append (decimal (open_digit i)) (codes "\"\n") in
    let second = length-append (decimal i) (codes "&open=" ++ last) in
    let third = length-append (decimal (viewer_number i)) (codes " POST \"/add\" \"title=t" ++ (decimal i ++ (codes "&open=" ++ last))) in
    omega (arith, viewer, number, digit, first, second, third)

length_by : (first fourth : Bool) (i : ℕ) → i < 10 ^ 4 → length (if first then join_line i else if fourth then list_line i else add_line i) ≤ 100
length_by true fourth i h = length_join i h
length_by false true i h = length_list i
length_by false false i h = length_add i h

length_line : (i : ℕ) → i < 10 ^ 4 → length (demo_line i) ≤ 100
unfolding demo_line
length_line i h = length_by (nat_le i 3) (i % 4 == 0) i h

lines_short : (i count : ℕ) → i + count ≤ 10 ^ 4 → length (lines_from i count) ≤ 100 * count
lines_short i zero h = omega arith
lines_short i (suc count) h =
    let first = length_line i (omega (arith, h)) in
    let more = lines_short (i + 1) count (omega (arith, h)) in
    let all = length-append (demo_line i) (lines_from (i + 1) count) in
    omega (arith, first, more, all)

pub text_short : (count : ℕ) → count ≤ 2000 → length (demo_text count) < 2 ^ 63
text_short count h = let all = lines_short 1 count (omega (arith, h)) in omega (arith, all, h)
