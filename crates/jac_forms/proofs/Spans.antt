-- The numbering of sites.
use Rattle.std.proofs.Common.{◌≡◌, ℕ, zero, suc, ◌+◌, ◌≤◌, sym, ◌∙◌, ap, arith, List, [], ◌∷◌, ◌++◌, length}
use Rattle.std.specs.Prelude.{min}
use Rattle.std.specs.List.{range_with_len}
use Rattle.std.proofs.lemmas.List.FromFn.{length-range_with_len}
use Rattle.jac_forms.specs.Statements.{next_site}

-- If `next` is at most 64, the sites are the numbers from `n` up to `next`, without `next`.
abbrev pub Spans : ℕ → ℕ → List ℕ → Type 0
Spans n next sites = next ≤ 64 → (k : ℕ) × (n + k ≡ next) × (sites ≡ range_with_len n k)

pub spans-none : (n : ℕ) (sites : List ℕ) → sites ≡ [] → Spans n n sites
spans-none n sites e small = (0, omega arith, e)

range-append : (a j k : ℕ) → range_with_len a j ++ range_with_len (a + j) k ≡ range_with_len a (j + k)
range-append a zero k =
    let e : a + 0 ≡ a = omega arith in
    let f : k ≡ 0 + k = omega arith in
    ap (λ (z : ℕ). range_with_len z k) e ∙ ap (range_with_len a) f
range-append a (suc j) k =
    let e : a + suc j ≡ a + 1 + j = omega arith in
    let f : suc (j + k) ≡ suc j + k = omega arith in
    ap (λ (z : ℕ). a ∷ (range_with_len (a + 1) j ++ range_with_len z k)) e ∙ ap (λ (s : List ℕ). a ∷ s) (range-append (a + 1) j k) ∙ ap (range_with_len a) f

joined : (a j k : ℕ) (b : ℕ) (xs ys : List ℕ) → a + j ≡ b → xs ≡ range_with_len a j → ys ≡ range_with_len b k → xs ++ ys ≡ range_with_len a (j + k)
joined a j k b xs ys e p q =
    ap (λ (s : List ℕ). s ++ ys) p ∙ ap (λ (s : List ℕ). range_with_len a j ++ s) (q ∙ ap (λ (z : ℕ). range_with_len z k) (sym e)) ∙ range-append a j k

pub spans-append : (a b c : ℕ) (xs ys : List ℕ) → Spans a b xs → Spans b c ys → Spans a c (xs ++ ys)
spans-append a b c xs ys h l small =
    let (k, e, q) = l small in
    let (j, f, p) = h (omega arith) in
    (j + k, omega arith, joined a j k b xs ys f p q)

capped : (n k next : ℕ) → min (n + 1) 65 + k ≡ next → next ≤ 64 → min (n + 1) 65 ≡ n + 1
capped n k next e small = omega arith

pub spans-create : (n next : ℕ) (xs : List ℕ) → Spans (next_site n) next xs → Spans n next (n ∷ xs)
spans-create n next xs h small =
    let (k, e, p) = h small in
    let same : min (n + 1) 65 ≡ n + 1 = capped n k next e small in
    (suc k, omega (arith, e, same), ap (λ (s : List ℕ). n ∷ s) (p ∙ ap (λ (z : ℕ). range_with_len z k) same))

pub spans-few : (next : ℕ) (xs : List ℕ) → Spans 0 next xs → next ≤ 64 → (length xs ≤ 64) × (xs ≡ range_with_len 0 (length xs))
spans-few next xs h small =
    let (k, e, p) = h small in
    let n : length xs ≡ k = ap length p ∙ length-range_with_len 0 k in
    (omega (arith, n, e), p ∙ ap (λ (z : ℕ). range_with_len 0 z) (sym n))
