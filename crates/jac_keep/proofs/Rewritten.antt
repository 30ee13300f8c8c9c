-- An index after a record's alternatives are replaced.
use Rattle.std.proofs.Common.{◌≡◌, ◌∙◌, ◌<◌, refl, sym, ap, subst, ℕ, not, ◌&&◌, ◌||◌, List, length, Option, Some, None, unwrap_or}
use Rattle.jac_index.specs.declared.by_value.ByValue.{ByValue}
use Rattle.jac_rows.specs.declared.row.Row.{Row}
use Rattle.jac_keep.specs.MatchingRecords.{holds_cell}
use Rattle.jac_keep.specs.Indexed.{field_index, IsByField, IsRewritten, IsFieldAfter, Follows, KeepsFields, Remains, IsIndexKept}
use Rattle.jac_keep.specs.Records.{AreOf, alternatives, placed_rows}
use Rattle.jac_keep.specs.declared.table_index.TableIndex.{TableIndex}
use Rattle.jac_keep.proofs.Held.{holds-rewritten}

-- A rewritten index is an index of the rows after the new ones replace the record's.
rewritten : (f id : ℕ) (new rows : List Row) (b c : ByValue) → AreOf id new → IsRewritten f (alternatives id rows) new b c → IsByField f rows b → IsByField f (placed_rows id new rows) c
rewritten f id new rows b c own changed right v k =
    changed v k
    ∙ ap (λ h. holds_cell f v new k || (not (holds_cell f v (alternatives id rows) k) && h)) (right v k)
    ∙ holds-rewritten f v id new rows k own

field_follows : (f id : ℕ) (new rows : List Row) (before after : Option ByValue) (c : ByValue) → AreOf id new → IsFieldAfter f (alternatives id rows) new before after
    → ((b : ByValue) → before ≡ Some b → IsByField f rows b) → after ≡ Some c → IsByField f (placed_rows id new rows) c
field_follows f id new rows None after c own changed right is = absurd (gone (sym changed ∙ is))
  where
    gone : None ≡ Some c → ⊥
    gone e = absurd cc
field_follows f id new rows (Some b) after c own changed right is =
    let same : changed.0 ≡ c = ap (λ (o : Option ByValue). unwrap_or o c) (sym changed.1.0 ∙ is) in
    subst (IsByField f (placed_rows id new rows)) same (rewritten f id new rows b changed.0 own changed.1.1 (right b refl))

pub follows : (id : ℕ) (own new : List Row) (t u : TableIndex) → AreOf id new → ((f : ℕ) → IsFieldAfter f own new (field_index f t.fields.items) (field_index f u.fields.items)) → Follows id own new t u
follows id own new t u own_new changed rows same right f c is =
    field_follows f id new rows (field_index f t.fields.items) (field_index f u.fields.items) c own_new
    (subst (λ (old : List Row). IsFieldAfter f old new (field_index f t.fields.items) (field_index f u.fields.items)) (sym same) (changed f)) (right f) is

-- The cases in which a model's index is left.
pub left_none : (id : ℕ) (rows new : List Row) (before after : Option TableIndex) → after ≡ None → Remains id rows new before after
left_none id rows new before after none u is = absurd (gone (sym none ∙ is))
  where
    gone : None ≡ Some u → ⊥
    gone e = absurd cc

pub left_some : (id : ℕ) (rows new : List Row) (t u : TableIndex) (after : Option TableIndex) → after ≡ Some u → Follows id (alternatives id rows) new t u → 0 < length rows
    → Remains id rows new (Some t) after
left_some id rows new t u after is go some w was =
    let same : u ≡ w = ap (λ (o : Option TableIndex). unwrap_or o w) (sym is ∙ was) in
    (t, (refl, (subst (Follows id (alternatives id rows) new t) same go, some)))

pub kept_some : (t u : TableIndex) (after : Option TableIndex) → after ≡ Some u → KeepsFields t u → IsIndexKept (Some t) after
kept_some t u after is keeps s was =
    let same : t ≡ s = ap (λ (o : Option TableIndex). unwrap_or o s) was in
    (u, (is, subst (λ (x : TableIndex). KeepsFields x u) same keeps))
