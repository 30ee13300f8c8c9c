-- Tables with rows that are taken out, altered and put back.
use Rattle.std.proofs.Common.{◌≡◌, ℕ, ◌+◌, ◌==◌, Bool, true, false, ◌&&◌, IsTrue, if◌then◌else◌, List, [], ◌∷◌, ◌++◌, length, add-zero, refl, sym, ◌∙◌, ap, subst, arith}
use Rattle.std.specs.List.{AllByRecursion}
use Rattle.jac_value.specs.Ids.{model_of_id}
use Rattle.jac_rows.specs.declared.row.Row.{Row}
use Rattle.jac_keep.specs.declared.alteration.Alteration.{Alteration}
use Rattle.jac_keep.specs.declared.opening.Opened.{Opened}
use Rattle.jac_keep.specs.Records.{placed_rows}
use Rattle.jac_keep.specs.Alterations.{AreOwn, of_model, placed_each, altered_rows, overlaid_from, overlaid}
use Rattle.jac_keep.specs.Sound.{AreTables}
use Rattle.jac_keep.specs.Opened.{rows_in, rows_after, IsReadyTable, AreReady, CanPlace}
use Rattle.jac_keep.proofs.OrderLaws.{ordered_if_rising}

pub both : (a b : Bool) → IsTrue (a && b) → IsTrue a × IsTrue b
both true b h = (refl, h)
both false b h = cc

pub rows_in-pushed : (os : List Opened) (o : Opened) (rest : List (List Row)) → rows_in (os ++ o ∷ []) ++ rest ≡ rows_in os ++ o.rows.items ∷ rest
rows_in-pushed [] o rest = refl
rows_in-pushed (x ∷ os) o rest = ap (λ tables. x.rows.items ∷ tables) (rows_in-pushed os o rest)

pub ready-pushed : (model : ℕ) (changed : List Alteration) (os : List Opened) (o : Opened) → AreReady model changed os → IsReadyTable (model + length os) changed o → AreReady model changed (os ++ o ∷ [])
ready-pushed model changed [] o all one = let here : IsReadyTable model changed o = rw (add-zero model) at one in (here, tt)
ready-pushed model changed (x ∷ os) o all one =
    let next : model + length (x ∷ os) ≡ (model + 1) + length os = omega arith in
    (all.0, ready-pushed (model + 1) changed os o all.1 (subst (λ m. IsReadyTable m changed o) next one))

pub length-rows_in : (os : List Opened) → length (rows_in os) ≡ length os
length-rows_in [] = refl
length-rows_in (o ∷ os) = grind (arith, length-rows_in os)

own-if : (b : Bool) (a : Alteration) (rest : List Alteration) → AreOwn (a ∷ []) → AreOwn rest → AreOwn (if b then a ∷ rest else rest)
own-if true a rest one own = (one.0, own)
own-if false a rest one own = own

pub own-of_model : (model : ℕ) (changed : List Alteration) → AreOwn changed → AreOwn (of_model model changed)
own-of_model model [] own = tt
own-of_model model (a ∷ rest) own = own-if (model_of_id a.id == model) a (of_model model rest) (own.0, tt) (own-of_model model rest own.1)

placed_each-if : (b : Bool) (a : Alteration) (rest : List Alteration) (rows : List Row)
    → placed_each rest (if b then placed_rows a.id a.rows rows else rows) ≡ placed_each (if b then a ∷ rest else rest) rows
placed_each-if true a rest rows = refl
placed_each-if false a rest rows = refl

-- Alterations of other models don't change the rows.
pub altered-of_model : (model : ℕ) (changed : List Alteration) (rows : List Row) → altered_rows model changed rows ≡ placed_each (of_model model changed) rows
altered-of_model model [] rows = refl
altered-of_model model (a ∷ rest) rows =
    altered-of_model model rest (if model_of_id a.id == model then placed_rows a.id a.rows rows else rows)
    ∙ placed_each-if (model_of_id a.id == model) a (of_model model rest) rows

-- Tables that are ready can be altered.
pub can_place : (model : ℕ) (changed : List Alteration) (os : List Opened) → AreOwn changed → AreTables (rows_in os) → AreReady model changed os → AllByRecursion CanPlace os
can_place model changed [] own tables ready = tt
can_place model changed (o ∷ os) own tables ready = (
  record {
    ordered = ordered_if_rising o.rows.items tables.0;
    own = rw ready.0.news (own-of_model model changed own);
    room = ready.0.room;
  },
  can_place (model + 1) changed os own tables.1 ready.1,
)

after_none : (os : List Opened) → rows_after false os ≡ rows_in os
after_none [] = refl
after_none (o ∷ os) = ap (λ tables. o.rows.items ∷ tables) (after_none os)

after_all : (model : ℕ) (changed : List Alteration) (os : List Opened) → AreReady model changed os → rows_after true os ≡ overlaid_from model changed (rows_in os)
after_all model changed [] ready = refl
after_all model changed (o ∷ os) ready =
    let here : placed_each o.news.items o.rows.items ≡ altered_rows model changed o.rows.items =
    ap (λ news. placed_each news o.rows.items) ready.0.news ∙ sym (altered-of_model model changed o.rows.items) in
    rw (here, after_all (model + 1) changed os ready.1) refl

-- The tables after the alterations if these are ready. Otherwise the tables as they were.
pub altered_if_ready : (ready : Bool) (changed : List Alteration) (os : List Opened) (tables : List (List Row)) → rows_in os ≡ tables → (IsTrue ready → AreReady 0 changed os)
    → ready ≡ true → rows_after ready os ≡ overlaid changed tables
altered_if_ready ready changed os tables same all is_ready = rw (is_ready, ← same) (after_all 0 changed os (all is_ready))

pub same_unless_ready : (ready : Bool) (os : List Opened) (tables : List (List Row)) → rows_in os ≡ tables → ready ≡ false → rows_after ready os ≡ tables
same_unless_ready ready os tables same unready = rw unready (after_none os ∙ same)

pub rising_after : (ready : Bool) (changed : List Alteration) (os : List Opened) (tables : List (List Row)) → rows_in os ≡ tables → (IsTrue ready → AreReady 0 changed os)
    → AreTables tables → AreTables (overlaid changed tables) → AreTables (rows_after ready os)
rising_after true changed os tables same all before stay = rw (altered_if_ready true changed os tables same all refl) stay
rising_after false changed os tables same all before stay = rw (same_unless_ready false os tables same refl) before
