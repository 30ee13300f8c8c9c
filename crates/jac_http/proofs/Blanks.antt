-- The search for a blank line.
use Rattle.std.proofs.Common.{◌≡◌, ◌∙◌, ap, sym, refl, ℕ, ◌+◌, ◌<◌, ◌==◌, ◌&&◌, ◌||◌, codes, Bool, true, false, if◌then◌else◌, Some, List, length, take, drop, get_or}
use Rattle.std.specs.List.{list_any, ends_with}
use Rattle.std.proofs.lemmas.List.{take_more, drop_more}
use Rattle.std.proofs.lemmas.List.Folds.{list_any_more, list_any_kept}
use Rattle.jac_http.specs.Heads.{is_written, ends_blank, head_from, head_in}

-- One more byte of the search.
pub head_step : (xs : List ℕ) (i : ℕ) → i < length xs
    → head_from (take i xs) (drop i xs) ≡ (if ends_blank (take (i + 1) xs) then Some (take (i + 1) xs) else head_from (take (i + 1) xs) (drop (i + 1) xs))
head_step xs i l =
    ap (head_from (take i xs)) (drop_more xs i 0 l)
    ∙ ap (λ (front : List ℕ). if ends_blank front then Some front else head_from front (drop (i + 1) xs)) (sym (take_more xs i 0 l))

-- Whether bytes that aren't only CR and LF end with a blank line.
abbrev pub is_end : List ℕ → Bool
is_end front = ends_with ◌==◌ front (codes "\n\n") || ends_with ◌==◌ front (codes "\n\r\n")

pub found_at : (xs : List ℕ) (i : ℕ) → i < length xs → head_from (take i xs) (drop i xs) ≡ head_in xs
    → list_any is_written (take (i + 1) xs) ≡ true → is_end (take (i + 1) xs) ≡ true → Some (take (i + 1) xs) ≡ head_in xs
found_at xs i l so_far written end =
    let step : head_from (take i xs) (drop i xs) ≡ Some (take (i + 1) xs) = rw (written, end) at (head_step xs i l) in
    sym step ∙ so_far

pub unfound_at : (xs : List ℕ) (i : ℕ) → i < length xs → head_from (take i xs) (drop i xs) ≡ head_in xs
    → (list_any is_written (take (i + 1) xs) && is_end (take (i + 1) xs)) ≡ false → head_from (take (i + 1) xs) (drop (i + 1) xs) ≡ head_in xs
unfound_at xs i l so_far none =
    let step : head_from (take i xs) (drop i xs) ≡ head_from (take (i + 1) xs) (drop (i + 1) xs) = rw none at (head_step xs i l) in
    sym step ∙ so_far

-- The flag stays true if an earlier byte is neither CR nor LF.
pub written_kept : (xs : List ℕ) (i : ℕ) (before now : Bool) → before ≡ list_any is_written (take i xs) → before ≡ true → now ≡ before
    → now ≡ list_any is_written (take (i + 1) xs)
written_kept xs i before now so_far known same = same ∙ known ∙ sym (list_any_kept is_written xs i (sym so_far ∙ known))

-- If there is no such byte before, the byte here decides.
pub written_here : (xs : List ℕ) (i : ℕ) (before now : Bool) → i < length xs → before ≡ list_any is_written (take i xs) → before ≡ false
    → now ≡ is_written (get_or xs i 0) → now ≡ list_any is_written (take (i + 1) xs)
written_here xs i before now l so_far known here =
    let more : list_any is_written (take (i + 1) xs) ≡ is_written (get_or xs i 0) = rw (sym so_far ∙ known) at (list_any_more is_written xs i 0 l) in
    here ∙ sym more

pub not_first : (a b : Bool) → a ≡ false → (a && b) ≡ false
not_first true b e = cc
not_first false b e = refl

pub not_second : (a b : Bool) → b ≡ false → (a && b) ≡ false
not_second true b e = e
not_second false b e = refl
