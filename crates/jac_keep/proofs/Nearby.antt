-- When a place near by is the right one.
use Rattle.std.proofs.Common.{◌≡◌, ℕ, ◌<◌, ◌≤◌, Bool, true, false, nat_lt, nat_le, suc, List, length, get_or, sym, ◌∙◌, ap, arith}
use Rattle.std.proofs.lemmas.List.{get_or_default}
use Rattle.std.specs.List.{AllWithin}
use Rattle.jac_rows.specs.declared.row.Row.{Row}
use Rattle.jac_keep.specs.Records.{AreOrdered}
use Rattle.jac_keep.proofs.Bisection.{rows_rise}

-- A test that fails for all ids from some id on.
pub record Falls (p : ℕ → Bool) : Type 0 where
  pub back : (i j : ℕ) → i ≤ j → p j ≡ true → p i ≡ true
  pub on : (i j : ℕ) → i ≤ j → p i ≡ false → p j ≡ false

pub falls_lt : (id : ℕ) → Falls (λ i. nat_lt i id)
falls_lt id = record {
  back = λ i j order e. grind (arith, order, e);
  on = λ i j order e. grind (arith, order, e);
}

pub falls_le : (id : ℕ) → Falls (λ i. nat_le i id)
falls_le id = record {
  back = λ i j order e. grind (arith, order, e);
  on = λ i j order e. grind (arith, order, e);
}

-- If a row passes the test, all rows before it pass.
pub pass_before : (p : ℕ → Bool) → Falls p → (rows : List Row) (place at : ℕ) (r : Row) → AreOrdered rows → place ≤ suc at → at < length rows → r ≡ get_or rows at r → p r.id ≡ true
    → AllWithin (λ (x : Row). p x.id ≡ true) rows 0 place
pass_before p falls rows place at r ordered next less is passes k d low high =
    let same : r ≡ get_or rows at d = is ∙ get_or_default rows at r d less in
    falls.back (get_or rows k d).id (get_or rows at d).id (rows_rise rows ordered k at d (omega (arith, high, next)) less) (ap (λ (x : Row). p x.id) (sym same) ∙ passes)

-- If a row fails the test, all rows after it fail.
pub fail_behind : (p : ℕ → Bool) → Falls p → (rows : List Row) (at : ℕ) (r : Row) → AreOrdered rows → at < length rows → r ≡ get_or rows at r → p r.id ≡ false
    → AllWithin (λ (x : Row). p x.id ≡ false) rows at (length rows)
fail_behind p falls rows at r ordered less is fails k d low high =
    let same : r ≡ get_or rows at d = is ∙ get_or_default rows at r d less in
    falls.on (get_or rows at d).id (get_or rows k d).id (rows_rise rows ordered at k d low high) (ap (λ (x : Row). p x.id) (sym same) ∙ fails)
