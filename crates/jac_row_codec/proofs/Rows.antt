-- Guards and lists of cells, piece by piece.
use Rattle.std.proofs.Common.{map, ℤ, SFits, ◌≡◌, refl, sym, ap, subst, ◌∙◌, ℕ, suc, ◌^◌, ◌<◌, Bool, true, false, List, [], ◌∷◌, ◌++◌, length, append_assoc, append-nil, ◌&&◌, Some, None, arith}
use Rattle.std.proofs.lemmas.List.{nil_from_length}
use Rattle.std.proofs.lemmas.Bool.{and_from, and_parts}
use Rattle.std.specs.Int.{w64, bytes_high_first, cast_signed, cast_unsigned}
use Rattle.std.proofs.Math.Facts.{Fits-of_z}
use Rattle.std.proofs.lemmas.Int.{to_z-of_z}
use Rattle.jac_value.specs.Ids.{is_id_of}
use Rattle.jac_value.specs.Values.{has_kind, default_value}
use Rattle.jac_value.specs.declared.value.Kind.{Kind}
use Rattle.jac_value.specs.declared.value.Kind.TheVariants as kinds
use Rattle.jac_value.specs.declared.value.Value.{Value}
use Rattle.jac_value.specs.declared.value.Value.TheVariants as values
use Rattle.jac_rows.specs.Good.{have_kinds}
use Rattle.jac_row_codec.specs.Spelling.{AreCells, cell_bytes, cells_bytes, sign_byte, SpellsCells}
use Rattle.jac_row_codec.specs.Reading.{Stops, StopsBy, IsOf, CellsOf, IsCellOf, CellsSoFar, AreCellsSpelled}
use Rattle.jac_row_codec.specs.declared.stop.Stop.{Stop}
use Rattle.jac_row_codec.proofs.Stops.{stops_here, stops_behind}
use Rattle.jac_row_codec.proofs.Numbers.{one_spelled}
use Rattle.jac_row_codec.proofs.Cells.{by_refined, lifted, default_is}
use Rattle.jac_row_codec.proofs.IdParts.{id_parts}

-- The first cells, and the cells after them.

defaults_are : (ks : List Kind) → SpellsCells ks (cells_bytes (map default_value ks))
defaults_are [] = ([], record { fit = refl; each = tt }, refl)
defaults_are (k ∷ ks) =
    let rest = defaults_are ks in
    let v = default_value k in
    let vs = map default_value ks in
    (v ∷ rest.0, record { fit = and_from (has_kind k v) (have_kinds ks rest.0) (default_is k).fit rest.1.fit; each = ((default_is k).valid, rest.1.each) }, ap (λ x. cell_bytes v ++ x) rest.2)

spelled_first : (k : Kind) (ks : List Kind) (v : Value) (t : List ℕ) → IsOf k v → SpellsCells ks t → SpellsCells (k ∷ ks) (cell_bytes v ++ t)
spelled_first k ks v t is rest =
    (v ∷ rest.0, record { fit = and_from (has_kind k v) (have_kinds ks rest.0) is.fit rest.1.fit; each = (is.valid, rest.1.each) }, ap (λ x. cell_bytes v ++ x) rest.2)

first_begins : (k : Kind) (ks : List Kind) (t : List ℕ) (vs : List Value) → AreCells (k ∷ ks) vs → t ≡ cells_bytes vs → CellsOf k t
first_begins k ks t [] are split = let e : false ≡ true = are.fit in cc
first_begins k ks t (v ∷ vs) are split = record { thing = v; is = record { fit = (and_parts (has_kind k v) (have_kinds ks vs) are.fit).0; valid = are.each.0 }; after = cells_bytes vs; split = split }

cell_stops : (k : Kind) (ks : List Kind) (bytes : List ℕ) (e : Stop) → StopsBy (CellsOf k) bytes e → StopsBy (SpellsCells (k ∷ ks)) bytes e
cell_stops k ks = by_refined (IsOf k) cell_bytes (SpellsCells (k ∷ ks))
    (λ t s. first_begins k ks t s.0 s.1 s.2)
    (λ v is. let rest = defaults_are ks in (cells_bytes (map default_value ks), spelled_first k ks v (cells_bytes (map default_value ks)) is rest))

-- A cell of a kind is spelled in one way only.
pub truth_once : (a b : Bool) → sign_byte a ≡ sign_byte b → a ≡ b
truth_once true true e = refl
truth_once false false e = refl
truth_once true false e = absurd (let f : ◌≡◌ {A = ℕ} 1 0 = e in omega (arith, f))
truth_once false true e = absurd (let f : ◌≡◌ {A = ℕ} 0 1 = e in omega (arith, f))

int_once : (i j : ℤ) (s t : List ℕ) → SFits w64 i → SFits w64 j → bytes_high_first 8 (cast_unsigned w64 i) ++ s ≡ bytes_high_first 8 (cast_unsigned w64 j) ++ t → (i ≡ j) × (s ≡ t)
int_once i j s t fi fj e =
    let room = (Fits-of_z {w = w64} {z = i} fi).fits in
    let space = (Fits-of_z {w = w64} {z = j} fj).fits in
    let same = one_spelled 8 (cast_unsigned w64 i) (cast_unsigned w64 j) s t (omega (arith, room)) (omega (arith, space)) e in
    (sym (to_z-of_z w64 i fi) ∙ (ap (λ n. cast_signed w64 n) same.0 ∙ to_z-of_z w64 j fj), same.1)

same_fronts : (a b s t : List ℕ) → length a ≡ length b → a ++ s ≡ b ++ t → (a ≡ b) × (s ≡ t)
same_fronts [] [] s t long e = (refl, e)
same_fronts [] (y ∷ b) s t long e = absurd (let f : 0 ≡ suc (length b) = long in omega (arith, f))
same_fronts (x ∷ a) [] s t long e = absurd (let f : suc (length a) ≡ 0 = long in omega (arith, f))
same_fronts (x ∷ a) (y ∷ b) s t long e =
    let head : x ≡ y = cc in
    let tail : a ++ s ≡ b ++ t = cc in
    let shorter : suc (length a) ≡ suc (length b) = long in
    let same = same_fronts a b s t (omega (arith, shorter)) tail in
    (ap (λ z. z ∷ a) head ∙ ap (λ l. y ∷ l) same.0, same.1)

text_once : (u v s t : List ℕ) → length u < 2 ^ 64 → length v < 2 ^ 64 → (bytes_high_first 8 (length u) ++ u) ++ s ≡ (bytes_high_first 8 (length v) ++ v) ++ t → (u ≡ v) × (s ≡ t)
text_once u v s t fu fv e =
    let one = one_spelled 8 (length u) (length v) (u ++ s) (v ++ t) (omega (arith, fu)) (omega (arith, fv))
    (sym (append_assoc (bytes_high_first 8 (length u)) u s) ∙ (e ∙ append_assoc (bytes_high_first 8 (length v)) v t)) in
    same_fronts u v s t one.0 one.1

id_room : (m id : ℕ) → is_id_of id m ≡ true → id < 256 ^ 16
id_room m id is = let to = (id_parts id m is).to in omega (arith, to)

pub tail_of : (x y : ℕ) (s t : List ℕ) → x ∷ s ≡ y ∷ t → s ≡ t
tail_of x y s t e = cc

pub head_of : (x y : ℕ) (s t : List ℕ) → x ∷ s ≡ y ∷ t → x ≡ y
head_of x y s t e = cc

pub cell_once : (k : Kind) (u v : Value) (s t : List ℕ) → IsOf k u → IsOf k v → cell_bytes u ++ s ≡ cell_bytes v ++ t → (u ≡ v) × (s ≡ t)
cell_once kinds.Int (values.Int i) (values.Int j) s t iu iv e =
    let one = int_once i j s t iu.valid iv.valid (tail_of 1 1 _ _ e) in (ap (λ x. values.Int x) one.0, one.1)
cell_once kinds.Text (values.Text a) (values.Text b) s t iu iv e =
    let one = text_once a b s t iu.valid.1 iv.valid.1 (tail_of 2 2 _ _ e) in (ap (λ x. values.Text x) one.0, one.1)
cell_once kinds.Bool (values.Bool a) (values.Bool b) s t iu iv e =
    let rest = tail_of 3 3 (sign_byte a ∷ s) (sign_byte b ∷ t) e in
    (ap (λ x. values.Bool x) (truth_once a b (head_of _ _ _ _ rest)), tail_of _ _ _ _ rest)
cell_once (kinds.Ref m) (values.Ref None) (values.Ref None) s t iu iv e = (refl, tail_of 0 0 s t (tail_of 4 4 (0 ∷ s) (0 ∷ t) e))
cell_once (kinds.Ref m) (values.Ref (Some a)) (values.Ref (Some b)) s t iu iv e =
    let one = one_spelled 16 a b s t (id_room m a iu.fit) (id_room m b iv.fit) (tail_of 1 1 _ _ (tail_of 4 4 _ _ e)) in
    (ap (λ x. values.Ref (Some x)) one.0, one.1)
cell_once (kinds.Ref m) (values.Ref None) (values.Ref (Some b)) s t iu iv e =
    absurd (let f : ◌≡◌ {A = ℕ} 0 1 = head_of _ _ _ _ (tail_of 4 4 (0 ∷ s) (1 ∷ (bytes_high_first 16 b ++ t)) e) in omega (arith, f))
cell_once (kinds.Ref m) (values.Ref (Some a)) (values.Ref None) s t iu iv e =
    absurd (let f : ◌≡◌ {A = ℕ} 1 0 = head_of _ _ _ _ (tail_of 4 4 (1 ∷ (bytes_high_first 16 a ++ s)) (0 ∷ t) e) in omega (arith, f))
cell_once k u v s t iu iv e = let f = iu.fit in let g = iv.fit in cc

behind_first : (k : Kind) (ks : List Kind) (v : Value) (t : List ℕ) (vs : List Value) → IsOf k v → AreCells (k ∷ ks) vs → cell_bytes v ++ t ≡ cells_bytes vs → SpellsCells ks t
behind_first k ks v t [] is are split = let e : false ≡ true = are.fit in cc
behind_first k ks v t (u ∷ us) is are split =
    let parts = and_parts (has_kind k u) (have_kinds ks us) are.fit in
    let one = cell_once k v u t (cells_bytes us) is (record { fit = parts.0; valid = are.each.0 }) split in
    (us, record { fit = parts.1; each = are.each.1 }, one.1)

pub cells_start : (kinds : List Kind) (body : List ℕ) → CellsSoFar kinds body [] kinds body
cells_start kinds body = record { spelled = λ vs are e. (are, e); stops = λ n s. s }

pub cells_step : (kinds : List Kind) (body : List ℕ) (made : List Value) (k : Kind) (ks : List Kind) (v : Value) (rest after : List ℕ)
    → CellsSoFar kinds body made (k ∷ ks) rest → IsCellOf k rest v after → CellsSoFar kinds body (made ++ v ∷ []) ks after
unfolding spelled_first
cells_step kinds body made k ks v rest after so_far read = record {
  spelled = λ vs are e. let first = spelled_first k ks v after read.of_kind (vs, are, e) in
      subst (λ l. AreCells kinds l × (body ≡ cells_bytes l)) (sym (append_assoc made (v ∷ []) vs))
      (so_far.spelled (v ∷ vs) first.1 (read.split ∙ first.2));
  stops = λ n s. so_far.stops n (subst (λ b. Stops (SpellsCells (k ∷ ks)) b n) (sym read.split)
      (stops_behind (SpellsCells (k ∷ ks)) (SpellsCells ks) (cell_bytes v) after n
      (λ t. ((λ w. behind_first k ks v t w.0 read.of_kind w.1 w.2), (λ w. spelled_first k ks v t read.of_kind w))) s));
}

pub cells_stop : (kinds : List Kind) (body : List ℕ) (made : List Value) (k : Kind) (ks : List Kind) (rest : List ℕ)
    → CellsSoFar kinds body made (k ∷ ks) rest → (e : Stop) → StopsBy (CellsOf k) rest e → StopsBy (SpellsCells kinds) body e
cells_stop kinds body made k ks rest so_far e s = lifted (SpellsCells kinds) (SpellsCells (k ∷ ks)) body rest so_far.stops e (cell_stops k ks rest e s)

none_only : (t : List ℕ) (vs : List Value) → have_kinds [] vs ≡ true → t ≡ cells_bytes vs → t ≡ []
none_only t [] fit e = e
none_only t (v ∷ vs) fit e = let f : false ≡ true = fit in cc

only_none : (t : List ℕ) → SpellsCells [] t → t ≡ []
only_none t s = none_only t s.0 s.1.fit s.2

-- Bytes after the last cell.
trailing : (b : ℕ) (bs : List ℕ) → Stops (SpellsCells []) (b ∷ bs) (length (b ∷ bs))
trailing b bs = stops_here (SpellsCells []) b bs ([], ([], record { fit = refl; each = tt }, refl)) (λ goes. let e = only_none (b ∷ goes.0) goes.1 in cc)

pub cells_trail : (kinds : List Kind) (body : List ℕ) (made : List Value) (to_come : List Kind) (rest : List ℕ) → CellsSoFar kinds body made to_come rest → length to_come ≡ 0 → 0 < length rest → Stops (SpellsCells kinds) body (length rest)
cells_trail kinds body made [] [] so_far none some = absurd (let f : 0 < 0 = some in omega (arith, f))
cells_trail kinds body made [] (b ∷ bs) so_far none some = so_far.stops (length (b ∷ bs)) (trailing b bs)
cells_trail kinds body made (k ∷ ks) rest so_far none some = absurd (let f : suc (length ks) ≡ 0 = none in omega (arith, f))

pub cells_end : (kinds : List Kind) (body : List ℕ) (made : List Value) (to_come : List Kind) (rest : List ℕ) → CellsSoFar kinds body made to_come rest → length to_come ≡ 0 → length rest ≡ 0 → AreCellsSpelled kinds body made
cells_end kinds body made [] rest so_far all none =
    let done = so_far.spelled [] (record { fit = refl; each = tt }) (nil_from_length rest none) in
    let same = append-nil made in
    record { fit = subst (λ l. AreCells kinds l) same done.0; spelled = done.1 ∙ ap cells_bytes same }
cells_end kinds body made (k ∷ ks) rest so_far all none = absurd (let f : suc (length ks) ≡ 0 = all in omega (arith, f))

-- Cells of these kinds are spelled in one way only.
pub cells_once : (kinds : List Kind) (us vs : List Value) → AreCells kinds us → AreCells kinds vs → cells_bytes us ≡ cells_bytes vs → us ≡ vs
cells_once [] [] [] is also e = refl
cells_once [] (u ∷ us) vs is also e = let f : false ≡ true = is.fit in cc
cells_once [] [] (v ∷ vs) is also e = let f : false ≡ true = also.fit in cc
cells_once (k ∷ ks) [] vs is also e = let f : false ≡ true = is.fit in cc
cells_once (k ∷ ks) (u ∷ us) [] is also e = let f : false ≡ true = also.fit in cc
cells_once (k ∷ ks) (u ∷ us) (v ∷ vs) is also e =
    let first = and_parts (has_kind k u) (have_kinds ks us) is.fit in
    let other = and_parts (has_kind k v) (have_kinds ks vs) also.fit in
    let one = cell_once k u v (cells_bytes us) (cells_bytes vs) (record { fit = first.0; valid = is.each.0 }) (record { fit = other.0; valid = also.each.0 }) e in
    let rest = cells_once ks us vs (record { fit = first.1; each = is.each.1 }) (record { fit = other.1; each = also.each.1 }) one.1 in
    λ i. one.0 i ∷ rest i

-- Bytes that are pushed in two steps.
pub two_pushed : (old mid new head tail all : List ℕ) → mid ≡ old ++ head → new ≡ mid ++ tail → all ≡ head ++ tail → new ≡ old ++ all
two_pushed old mid new head tail all first second whole = second ∙ (ap (λ x. x ++ tail) first ∙ (append_assoc old head tail ∙ ap (λ x. old ++ x) (sym whole)))
