-- What holds for each row of a table holds for the row that a path finds, and its tokens read the
-- path.
use Rattle.std.proofs.Common.{◌≡◌, ◌⊎◌, inl, inr, refl, subst, ap, ℕ, zero, suc, ◌-◌, ◌<◌, ◌==◌, ◌&&◌, Bool, true, false, cond, List, [], ◌∷◌, ◌++◌, length, take, drop, Option, Some, None, is_some, IfSome, ltb, arith}
use Rattle.std.specs.List.{ends_with}
use Rattle.std.specs.Prelude.{nat_eq}
use Rattle.std.proofs.lemmas.Bool.Decides.{nat_tests}
use Rattle.matchit.specs.Rows.{RowsOf, comes_before, param_token, catch_all_token}
use Rattle.matchit.specs.Order.{placed, common_len}
use Rattle.matchit.specs.Conflict.{conflicts}
use Rattle.matchit.specs.Router.{nearer, nearest_from, nearest}
use Rattle.matchit.specs.Seek.{own, step, or_else, with_suffix, param_step, seek, first, segment, longest_from, longest_suffix, better, same_text, has_slash, slash}
use Rattle.jac_route.specs.Fitting.{ReadsPath}

-- ---- a part of a path without a slash

front_without : (n : ℕ) (path : List ℕ) → has_slash path ≡ false → has_slash (take n path) ≡ false
front_without zero path e = refl
front_without (suc n) [] e = refl
front_without (suc n) (b ∷ path) e = by (b == slash) e (front_without n path)
  where
    by : (v : Bool) → cond v true (has_slash path) ≡ false → (has_slash path ≡ false → has_slash (take n path) ≡ false)
        → cond v true (has_slash (take n path)) ≡ false
    by true e on = e
    by false e on = on e

-- What comes before the last byte of a segment has no slash.
front_of_segment : (n : ℕ) (path : List ℕ) → n < length (segment path) → has_slash (take n path) ≡ false
front_of_segment zero path h = refl
front_of_segment (suc n) [] h = refl
front_of_segment (suc n) (b ∷ path) h = by (b == slash) h (front_of_segment n path)
  where
    by : (v : Bool) → suc n < length (cond v (b ∷ []) (b ∷ segment path)) → (n < length (segment path) → has_slash (take n path) ≡ false)
        → cond v true (has_slash (take n path)) ≡ false
    by true h on = absurd (omega arith)
    by false h on = on (omega arith)

some_segment : (b : ℕ) (path : List ℕ) → 0 < length (segment (b ∷ path))
some_segment b path = by (b == slash)
  where
    by : (v : Bool) → 0 < length (cond v (b ∷ []) (b ∷ segment path))
    by true = omega arith
    by false = omega arith

better_short : (seg best suffix : List ℕ) → length best < length seg → length (better seg best suffix) < length seg
better_short seg best suffix h = by (ltb (length best) (length suffix)) (ltb (length suffix) (length seg)) (ends_with nat_eq seg suffix) refl
  where
    by : (longer shorter ends : Bool) → ltb (length suffix) (length seg) ≡ shorter → length (cond (longer && (shorter && ends)) suffix best) < length seg
    by true true true e = grind (arith, nat_tests)
    by true true false e = h
    by true false ends e = h
    by false shorter ends e = h

short_longest : {K : Type 0} (seg best : List ℕ) (rows : RowsOf K) → length best < length seg → length (longest_from seg best rows) < length seg
short_longest seg best [] h = h
short_longest seg best ((t, key) ∷ rest) h = short_longest seg (better seg best (segment t)) rest (better_short seg best (segment t) h)

take_and_drop : (n : ℕ) (path : List ℕ) → path ≡ take n path ++ drop n path
take_and_drop zero path = refl
take_and_drop (suc n) [] = refl
take_and_drop (suc n) (b ∷ path) = ap (λ (xs : List ℕ). b ∷ xs) (take_and_drop n path)

-- ---- all rows

abbrev pub AllRows : {K : Type 0} → (List ℕ → K → Type 0) → RowsOf K → Type 0
AllRows P [] = Unit {0}
AllRows P ((t, key) ∷ rest) = P t key × AllRows P rest

-- Tokens that read the path, and for which this holds.
abbrev pub ReadsAs : {K : Type 0} → (List ℕ → K → Type 0) → List ℕ → K → Type 0
ReadsAs P path key = (tokens : List ℕ) × ReadsPath tokens path × P tokens key

module _ {K : Type 0} where
  pub some_map : (P Q : K → Type 0) (o : Option K) → ((key : K) → P key → Q key) → IfSome o P → IfSome o Q
  some_map P Q None f h = tt
  some_map P Q (Some key) f h = f key h

  pub all_map : (P Q : List ℕ → K → Type 0) (rows : RowsOf K) → ((t : List ℕ) (key : K) → P t key → Q t key) → AllRows P rows → AllRows Q rows
  all_map P Q [] f all = tt
  all_map P Q ((t, key) ∷ rest) f all = (f t key all.0, all_map P Q rest f all.1)

  either : (P : List ℕ → K → Type 0) (b : Bool) (x y : RowsOf K) → AllRows P x → AllRows P y → AllRows P (cond b x y)
  either P true x y hx hy = hx
  either P false x y hx hy = hy

  pub all_placed : (P : List ℕ → K → Type 0) (t : List ℕ) (key : K) (rows : RowsOf K) → P t key → AllRows P rows → AllRows P (placed (t, key) rows)
  all_placed P t key [] h all = (h, tt)
  all_placed P t key ((s, other) ∷ rest) h all =
      either P (comes_before t s) ((t, key) ∷ (s, other) ∷ rest) ((s, other) ∷ placed (t, key) rest) (h, all) (all.0, all_placed P t key rest h all.1)

  abbrev pub Behind : (List ℕ → K → Type 0) → ℕ → List ℕ → K → Type 0
  Behind P b t key = P (b ∷ t) key

  stepped : (P : List ℕ → K → Type 0) (b x : ℕ) (t : List ℕ) (key : K) (rows : RowsOf K) (v : Bool) → (x == b) ≡ v → P (x ∷ t) key → AllRows (Behind P b) rows
      → AllRows (Behind P b) (cond v ((t, key) ∷ rows) rows)
  stepped P b x t key rows true e h all = let same : x ≡ b = grind (arith, nat_tests) in (subst (λ (y : ℕ). P (y ∷ t) key) same h, all)
  stepped P b x t key rows false e h all = all

  all_step : (P : List ℕ → K → Type 0) (b : ℕ) (rows : RowsOf K) → AllRows P rows → AllRows (Behind P b) (step b rows)
  all_step P b [] all = tt
  all_step P b (([], key) ∷ rest) all = all_step P b rest all.1
  all_step P b ((x ∷ t, key) ∷ rest) all = stepped P b x t key (step b rest) (x == b) refl all.0 (all_step P b rest all.1)

  all_with_suffix : (P : List ℕ → K → Type 0) (suffix : List ℕ) (rows : RowsOf K) → AllRows P rows → AllRows P (with_suffix suffix rows)
  all_with_suffix P suffix [] all = tt
  all_with_suffix P suffix ((t, key) ∷ rest) all =
      either P (same_text (segment t) suffix) ((t, key) ∷ with_suffix suffix rest) (with_suffix suffix rest) (all.0, all_with_suffix P suffix rest all.1) (all_with_suffix P suffix rest all.1)

  some_own : (P : List ℕ → K → Type 0) (rows : RowsOf K) → AllRows P rows → IfSome (own rows) (P [])
  some_own P [] all = tt
  some_own P (([], key) ∷ rest) all = all.0
  some_own P ((x ∷ t, key) ∷ rest) all = some_own P rest all.1

  some_or_else : (P : K → Type 0) (a b : Option K) → IfSome a P → IfSome b P → IfSome (or_else a b) P
  some_or_else P None b ha hb = hb
  some_or_else P (Some key) b ha hb = ha

  -- The first byte of a path reads itself.
  by_byte : (P : List ℕ → K → Type 0) (b : ℕ) (path : List ℕ) (key : K) → ReadsAs (Behind P b) path key → ReadsAs P (b ∷ path) key
  by_byte P b path key (tokens, reads, holds) = (b ∷ tokens, inl (path, refl, reads), holds)

  -- A parameter reads the first bytes.
  by_param : (P : List ℕ → K → Type 0) (n b : ℕ) (path : List ℕ) (key : K) → has_slash (b ∷ take n path) ≡ false → ReadsAs (Behind P param_token) (drop n path) key
      → ReadsAs P (b ∷ path) key
  by_param P n b path key none (tokens, reads, holds) = (
    param_token ∷ tokens,
    inr (inl (b ∷ take n path, drop n path, refl, (λ e. cc), none, ap (λ (xs : List ℕ). b ∷ xs) (take_and_drop n path), reads)),
    holds,
  )

  by_all : (P : List ℕ → K → Type 0) (b : ℕ) (path : List ℕ) (key : K) → Behind P catch_all_token [] key → ReadsAs P (b ∷ path) key
  by_all P b path key holds = (catch_all_token ∷ [], inr (inr (refl, refl, λ e. cc)), holds)

  abbrev Finds : ℕ → RowsOf K → List ℕ → Type 1
  Finds skip rows path = (P : List ℕ → K → Type 0) → AllRows P rows → IfSome (seek skip rows path) (ReadsAs P (drop skip path))

  -- What a path finds behind a parameter.
  some_param : (P : List ℕ → K → Type 0) (rows : RowsOf K) (b : ℕ) (path : List ℕ) → AllRows (Behind P param_token) rows
      → ((skip : ℕ) (next : RowsOf K) (Q : List ℕ → K → Type 0) → AllRows Q next → IfSome (seek skip next path) (ReadsAs Q (drop skip path)))
      → IfSome (seek ((param_step rows (b ∷ path)).0 - 1) (param_step rows (b ∷ path)).1 path) (ReadsAs P (b ∷ path))
  unfolding param_step
  some_param P rows b path all on = by (ltb 0 (length suffix)) refl (has_slash (b ∷ path)) refl
    where
      seg : List ℕ
      seg = segment (b ∷ path)

      suffix : List ℕ
      suffix = longest_suffix seg rows

      by : (v : Bool) → ltb 0 (length suffix) ≡ v → (w : Bool) → has_slash (b ∷ path) ≡ w
          → IfSome (seek ((cond {A = ℕ × RowsOf K} v (length seg - length suffix, with_suffix suffix rows) (cond w (0, []) (length (b ∷ path), rows))).0 - 1)
          (cond {A = ℕ × RowsOf K} v (length seg - length suffix, with_suffix suffix rows) (cond w (0, []) (length (b ∷ path), rows))).1 path) (ReadsAs P (b ∷ path))
      by true e w s =
          let n : ℕ = length seg - length suffix - 1 in
          let short : length suffix < length seg = short_longest seg [] rows (some_segment b path) in
          let some : 0 < length suffix = grind (arith, nat_tests) in
          let within : suc n < length seg = omega arith in
          some_map (ReadsAs (Behind P param_token) (drop n path)) (ReadsAs P (b ∷ path)) (seek n (with_suffix suffix rows) path)
          (λ key. by_param P n b path key (front_of_segment (suc n) (b ∷ path) within))
          (on n (with_suffix suffix rows) (Behind P param_token) (all_with_suffix (Behind P param_token) suffix rows all))
      by false e true s =
          some_map (ReadsAs (λ t key. ⊥) path) (ReadsAs P (b ∷ path)) (seek 0 [] path) (λ key reads. absurd reads.2) (on 0 [] (λ t key. ⊥) tt)
      by false e false s =
          let n : ℕ = length (b ∷ path) - 1 in
          some_map (ReadsAs (Behind P param_token) (drop n path)) (ReadsAs P (b ∷ path)) (seek n rows path)
          (λ key. by_param P n b path key (front_without (suc n) (b ∷ path) s))
          (on n rows (Behind P param_token) all)

  some_seek : (P : List ℕ → K → Type 0) (skip : ℕ) (rows : RowsOf K) (path : List ℕ) → AllRows P rows → IfSome (seek skip rows path) (ReadsAs P (drop skip path))
  unfolding seek
  some_seek P zero rows [] all = some_map (P []) (ReadsAs P []) (own rows) (λ key h. ([], refl, h)) (some_own P rows all)
  some_seek P (suc skip) rows [] all = some_map (P []) (ReadsAs P []) (own rows) (λ key h. ([], refl, h)) (some_own P rows all)
  some_seek P (suc skip) rows (b ∷ path) all = some_seek P skip rows path all
  some_seek P zero rows (b ∷ path) all =
      let params : RowsOf K = step param_token rows in
      some_or_else (ReadsAs P (b ∷ path)) (seek 0 (step b rows) path) _
      (some_map (ReadsAs (Behind P b) path) (ReadsAs P (b ∷ path)) (seek 0 (step b rows) path) (by_byte P b path) (some_seek (Behind P b) 0 (step b rows) path (all_step P b rows all)))
      (some_or_else (ReadsAs P (b ∷ path)) _ _
      (some_param P params b path (all_step P param_token rows all) (λ skip next Q h. some_seek Q skip next path h))
      (some_map (Behind P catch_all_token []) (ReadsAs P (b ∷ path)) (own (step catch_all_token rows)) (by_all P b path)
      (some_own (Behind P catch_all_token) (step catch_all_token rows) (all_step P catch_all_token rows all))))

  pub some_first : (P : List ℕ → K → Type 0) (rows : RowsOf K) (path : List ℕ) → AllRows P rows → IfSome (first rows path) (ReadsAs P path)
  some_first P rows path all = some_seek P 0 rows path all

  -- If a pattern is refused, there is a row with which it conflicts.
  pub rival_from : (P : List ℕ → K → Type 0) (p : List ℕ) (best : Option K × ℕ) (rows : RowsOf K) → AllRows P rows → is_some (nearest_from p best rows) ≡ true
      → (is_some best.0 ≡ true) ⊎ ((t : List ℕ) × (key : K) × (conflicts p t ≡ true) × P t key)
  rival_from P p best [] all some = inl some
  rival_from P p best ((t, key) ∷ rest) all some = by (conflicts p t) refl some (rival_from P p best rest all.1)
    where
      by : (v : Bool) → conflicts p t ≡ v → is_some (nearest_from p (cond v (nearer best (common_len p t) key) best) rest) ≡ true
          → (is_some (nearest_from p best rest) ≡ true → (is_some best.0 ≡ true) ⊎ ((t : List ℕ) × (key : K) × (conflicts p t ≡ true) × P t key))
          → (is_some best.0 ≡ true) ⊎ ((t : List ℕ) × (key : K) × (conflicts p t ≡ true) × P t key)
      by true e some on = inr (t, key, e, all.0)
      by false e some on = on some

  pub rival : (P : List ℕ → K → Type 0) (p : List ℕ) (rows : RowsOf K) → AllRows P rows → is_some (nearest p rows) ≡ true
      → (t : List ℕ) × (key : K) × (conflicts p t ≡ true) × P t key
  rival P p rows all some = elim (rival_from P p (None, 0) rows all some) [ inl e ↦ absurd (cc) | inr found ↦ found ]
