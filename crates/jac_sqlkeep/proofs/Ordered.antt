-- Guards in an order in which only neighbours need to be compared.
use Rattle.std.proofs.Common.{◌≡◌, ◌⊎◌, inl, inr, refl, sym, ap, ◌∙◌, subst, ℕ, ◌+◌, ◌≤◌, Bool, true, false, not, ◌&&◌, List, [], ◌∷◌, ◌++◌, length, length-append, take, drop, zero, suc, arith}
use Rattle.std.specs.Prelude.{⊤}
use Rattle.std.specs.List.{AllByRecursion, insert}
use mathlib.Core.Bool.{beq}
use Rattle.jac_world.specs.World.{IsApart, holds, both}
use Rattle.jac_sqlkeep.specs.Alternatives.{Precedes, AreChained, EndsBefore, StartsBehind, FitsAt, AreTaken}

abbrev Guard : Type 0
Guard = List (ℕ × Bool)

-- ---- two guards that never hold together

no_both : (a b x y : Bool) → (x && y) ≡ false → ((a && x) && (b && y)) ≡ false
no_both false b x y h = refl
no_both true false false y h = refl
no_both true false true y h = refl
no_both true true x y h = h

two_signs : (p q v x y : Bool) → p ≡ not q → ((beq p v && x) && (beq q v && y)) ≡ false
two_signs true true v x y e = absurd (let f : true ≡ false = e in cc)
two_signs false false v x y e = absurd (let f : false ≡ true = e in cc)
two_signs true false true x y e = last x
  where
    last : (a : Bool) → (a && false) ≡ false
    last true = refl
    last false = refl
two_signs true false false x y e = refl
two_signs false true true x y e = refl
two_signs false true false x y e = last x
  where
    last : (a : Bool) → (a && false) ≡ false
    last true = refl
    last false = refl

turned : (a b : Bool) → (a && b) ≡ false → (b && a) ≡ false
turned true true h = h
turned true false h = refl
turned false true h = refl
turned false false h = refl

pub apart_turned : (g h : Guard) → IsApart g h → IsApart h g
apart_turned g h apart w = turned (holds w g) (holds w h) (apart w)

one_more : (a x y : Bool) → (x && y) ≡ false → ((a && x) && y) ≡ false
one_more true x y h = h
one_more false x y h = refl

pub apart_left : (g h left right xs : Guard) (x : ℕ × Bool) → left ≡ x ∷ xs → (IsApart left right → IsApart g h) → IsApart xs right → IsApart g h
apart_left g h left right xs x is so apart = so (subst (λ (l : Guard). IsApart l right) (sym is) (λ w. one_more (beq x.1 (w x.0)) (holds w xs) (holds w right) (apart w)))

pub apart_right : (g h left right ys : Guard) (y : ℕ × Bool) → right ≡ y ∷ ys → (IsApart left right → IsApart g h) → IsApart left ys → IsApart g h
apart_right g h left right ys y is so apart =
    so (subst (λ (l : Guard). IsApart left l) (sym is) (apart_turned (y ∷ ys) left (λ w. one_more (beq y.1 (w y.0)) (holds w ys) (holds w left) (turned (holds w left) (holds w ys) (apart w)))))

signs_apart : (xs ys : Guard) (x y : ℕ × Bool) → x.0 ≡ y.0 → x.1 ≡ not y.1 → IsApart (x ∷ xs) (y ∷ ys)
signs_apart xs ys x y label sign w =
    ap (λ k. (beq x.1 (w k) && holds w xs) && (beq y.1 (w y.0) && holds w ys)) label ∙ two_signs x.1 y.1 (w y.0) (holds w xs) (holds w ys) sign

pub apart_here : (g h left right xs ys : Guard) (x y : ℕ × Bool) → left ≡ x ∷ xs → right ≡ y ∷ ys → x.0 ≡ y.0 → x.1 ≡ not y.1 → (IsApart left right → IsApart g h) → IsApart g h
apart_here g h left right xs ys x y is_left is_right label sign so = so (subst (λ (l : Guard). IsApart l right) (sym is_left) (subst (λ (r : Guard). IsApart (x ∷ xs) r) (sym is_right) (signs_apart xs ys x y label sign)))

-- ---- the order

pub precedes_on : (g h left right xs ys : Guard) (x y : ℕ × Bool) → left ≡ x ∷ xs → right ≡ y ∷ ys → x.0 ≡ y.0 → x.1 ≡ y.1 → (Precedes left right → Precedes g h) → Precedes xs ys → Precedes g h
precedes_on g h left right xs ys x y is_left is_right label sign so more = so (subst (λ (l : Guard). Precedes l right) (sym is_left) (subst (λ (r : Guard). Precedes (x ∷ xs) r) (sym is_right) (label, inl (sign, more))))

pub precedes_here : (g h left right xs ys : Guard) (x y : ℕ × Bool) → left ≡ x ∷ xs → right ≡ y ∷ ys → x.0 ≡ y.0 → x.1 ≡ true → y.1 ≡ false → (Precedes left right → Precedes g h) → Precedes g h
precedes_here g h left right xs ys x y is_left is_right label shown hidden so = so (subst (λ (l : Guard). Precedes l right) (sym is_left) (subst (λ (r : Guard). Precedes (x ∷ xs) r) (sym is_right) (label, inr (shown, hidden))))

pub precedes_apart : (g h : Guard) → Precedes g h → IsApart g h
precedes_apart [] h first = absurd first
precedes_apart (p ∷ ps) [] first = absurd first
precedes_apart (p ∷ ps) (q ∷ qs) (label, inl more) =
    let rest = precedes_apart ps qs more.1 in
    λ w. no_both (beq p.1 (w p.0)) (beq q.1 (w q.0)) (holds w ps) (holds w qs) (rest w)
precedes_apart (p ∷ ps) (q ∷ qs) (label, inr signs) = signs_apart ps qs p q label (signs.0 ∙ ap not (sym signs.1))

precedes_then : (f g h : Guard) → Precedes f g → Precedes g h → Precedes f h
precedes_then [] g h one two = absurd one
precedes_then (p ∷ ps) [] h one two = absurd one
precedes_then (p ∷ ps) (q ∷ qs) [] one two = absurd two
precedes_then (p ∷ ps) (q ∷ qs) (r ∷ rs) (a, inl one) (b, inl two) = (a ∙ b, inl (one.0 ∙ two.0, precedes_then ps qs rs one.1 two.1))
precedes_then (p ∷ ps) (q ∷ qs) (r ∷ rs) (a, inl one) (b, inr two) = (a ∙ b, inr (one.0 ∙ two.0, two.1))
precedes_then (p ∷ ps) (q ∷ qs) (r ∷ rs) (a, inr one) (b, inl two) = (a ∙ b, inr (one.0, sym two.0 ∙ one.1))
precedes_then (p ∷ ps) (q ∷ qs) (r ∷ rs) (a, inr one) (b, inr two) = absurd (let f : true ≡ false = sym two.0 ∙ one.1 in cc)

pub ends_with : (front rest : List Guard) (last g : Guard) → front ≡ rest ++ last ∷ [] → Precedes last g → EndsBefore front g
ends_with front rest last g is first = subst (λ (l : List Guard). EndsBefore l g) (sym is) (go rest)
  where
    go : (xs : List Guard) → EndsBefore (xs ++ last ∷ []) g
    go [] = first
    go (x ∷ []) = first
    go (x ∷ (y ∷ ys)) = go (y ∷ ys)

-- ---- a guard at its place

all_map : (P Q : Guard → Type 0) (xs : List Guard) → ((x : Guard) → P x → Q x) → AllByRecursion P xs → AllByRecursion Q xs
all_map P Q [] f all = tt
all_map P Q (x ∷ xs) f all = (f x all.0, all_map P Q xs f all.1)

all_joined : (P : Guard → Type 0) (xs ys : List Guard) → AllByRecursion P xs → AllByRecursion P ys → AllByRecursion P (xs ++ ys)
all_joined P [] ys one two = two
all_joined P (x ∷ xs) ys one two = (one.0, all_joined P xs ys one.1 two)

all_front : (P : Guard → Type 0) (xs ys : List Guard) → AllByRecursion P (xs ++ ys) → AllByRecursion P xs
all_front P [] ys all = tt
all_front P (x ∷ xs) ys all = (all.0, all_front P xs ys all.1)

all_back : (P : Guard → Type 0) (xs ys : List Guard) → AllByRecursion P (xs ++ ys) → AllByRecursion P ys
all_back P [] ys all = all
all_back P (x ∷ xs) ys all = all_back P xs ys all.1

-- If the last guard of a front precedes the guard, each guard of the front does.
front_precedes : (g : Guard) (xs ys : List Guard) → AreChained (xs ++ ys) → EndsBefore xs g → AllByRecursion (λ x. Precedes x g) xs
front_precedes g [] ys order ends = tt
front_precedes g (x ∷ []) ys order ends = (ends, tt)
front_precedes g (x ∷ (z ∷ zs)) ys order ends =
    let more = front_precedes g (z ∷ zs) ys order.1 ends in
    (precedes_then x z g order.0.0 more.0, more)

back_follows : (g : Guard) (ys : List Guard) → AreChained ys → StartsBehind ys g → AllByRecursion (Precedes g) ys
back_follows g [] order starts = tt
back_follows g (y ∷ ys) order starts = (starts, all_map (Precedes y) (Precedes g) ys (λ z later. precedes_then g y z starts later) order.0)

back_order : (xs ys : List Guard) → AreChained (xs ++ ys) → AreChained ys
back_order [] ys order = order
back_order (x ∷ xs) ys order = back_order xs ys order.1

order_with : (g : Guard) (xs ys : List Guard) → AreChained (xs ++ ys) → AllByRecursion (λ x. Precedes x g) xs → AllByRecursion (Precedes g) ys → AreChained (xs ++ g ∷ ys)
order_with g [] ys order front back = (back, order)
order_with g (x ∷ xs) ys order front back =
    (all_joined (Precedes x) xs (g ∷ ys) (all_front (Precedes x) xs ys order.0) (front.0, all_back (Precedes x) xs ys order.0), order_with g xs ys order.1 front.1 back)

halves : (n : ℕ) (xs : List Guard) → take n xs ++ drop n xs ≡ xs
halves zero xs = refl
halves (suc n) [] = refl
halves (suc n) (x ∷ xs) = ap (λ l. x ∷ l) (halves n xs)

without : (P : Guard → Type 0) (g : Guard) (xs ys : List Guard) → AllByRecursion P (xs ++ g ∷ ys) → P g × AllByRecursion P (xs ++ ys)
without P g [] ys all = all
without P g (x ∷ xs) ys all = let more = without P g xs ys all.1 in (more.0, (all.0, more.1))

long_insert : (g : Guard) (xs ys : List Guard) → length (xs ++ g ∷ ys) ≡ length (xs ++ ys) + 1
long_insert g [] ys = let long : length (g ∷ ys) ≡ suc (length ys) = refl in omega (arith, long)
long_insert g (x ∷ xs) ys =
    let more = long_insert g xs ys in
    let one : length (x ∷ (xs ++ g ∷ ys)) ≡ suc (length (xs ++ g ∷ ys)) = refl in
    let two : length (x ∷ (xs ++ ys)) ≡ suc (length (xs ++ ys)) = refl in
    omega (arith, more, one, two)

pub kept_at : (all guards next : List Guard) (at : ℕ) (g : Guard) (in_order also : Bool) → in_order ≡ true → FitsAt guards at g → next ≡ insert guards at g → also ≡ true → AreTaken all guards in_order
    → AllByRecursion (λ h. IsApart h g) all × AreTaken (all ++ g ∷ []) next also
kept_at all guards next at g in_order also ordered fits is also_ordered kept =
    let front = take at guards in
    let back = drop at guards in
    let whole : front ++ back ≡ guards = halves at guards in
    let order : AreChained (front ++ back) = subst AreChained (sym whole) (kept.order ordered) in
    let before = front_precedes g front back order fits.front in
    let behind = back_follows g back (back_order front back order) fits.back in
    let apart : AllByRecursion (λ h. IsApart h g) (front ++ back) =
    all_joined (λ h. IsApart h g) front back (all_map (λ x. Precedes x g) (λ h. IsApart h g) front (λ x. precedes_apart x g) before)
    (all_map (Precedes g) (λ h. IsApart h g) back (λ y later. apart_turned g y (precedes_apart g y later)) behind) in
    let long = kept.long in
    let longer : length next ≡ length (front ++ back) + 1 = ap length is ∙ long_insert g front back in
    let halved : length (front ++ back) ≡ length guards = ap length whole in
    let more : length (all ++ g ∷ []) ≡ length all + 1 = length-append all (g ∷ []) in (
      kept.each g (subst (AllByRecursion (λ h. IsApart h g)) whole apart),
      record {
        long = omega (arith, longer, halved, long, more);
        each = λ h every.
            let parts = without (λ x. IsApart x h) g front back (subst (AllByRecursion (λ x. IsApart x h)) is every) in
            all_joined (λ x. IsApart x h) all (g ∷ []) (kept.each h (subst (AllByRecursion (λ x. IsApart x h)) whole parts.1)) (parts.0, tt);
        order = λ _. subst AreChained (sym is) (order_with g front back order before behind);
      },
    )

pub kept_behind : (all guards next : List Guard) (g : Guard) (in_order also : Bool) → AllByRecursion (λ h. IsApart h g) guards → next ≡ guards ++ g ∷ [] → also ≡ false → AreTaken all guards in_order
    → AllByRecursion (λ h. IsApart h g) all × AreTaken (all ++ g ∷ []) next also
kept_behind all guards next g in_order also apart is unordered kept =
    let long = kept.long in
    let longer : length next ≡ length guards + 1 = ap length is ∙ length-append guards (g ∷ []) in
    let more : length (all ++ g ∷ []) ≡ length all + 1 = length-append all (g ∷ []) in (
      kept.each g apart,
      record {
        long = omega (arith, longer, long, more);
        each = λ h every.
            let both = subst (AllByRecursion (λ x. IsApart x h)) is every in
            all_joined (λ x. IsApart x h) all (g ∷ []) (kept.each h (all_front (λ x. IsApart x h) guards (g ∷ []) both)) (all_back (λ x. IsApart x h) guards (g ∷ []) both);
        order = λ ordered. absurd (let f : false ≡ true = sym unordered ∙ ordered in cc);
      },
    )
