-- What the pieces come to.
use Rattle.std.proofs.Common.{◌≡◌, refl, ◌∙◌, sym, ap, [], ◌++◌, ◌∷◌, ◌||◌, ℕ, Bool, true, false, List, Option, Some, None, append_assoc, append-nil}
use Rattle.std.specs.Option.{option_map}
use Rattle.jac_plain.specs.declared.page.Page.{Page}
use Rattle.jac_plain.specs.declared.page.Piece.{Piece}
use Rattle.jac_plain.specs.declared.page.Piece.TheVariants as piece
use Rattle.jac_plain.specs.Requests.{body_of, is_missing, location, page_by, page_of, redirect_of}
use Rattle.jac_pruned_pages.specs.Buffers.{BufferSeen, buffer_for, buffer_with, led_to, page_in}
use Rattle.jac_pruned_pages.specs.Runs.{IsPageMade}

abbrev parts : List ℕ → Bool → Option (List ℕ) → BufferSeen
parts body gone to = record { body = body; gone = gone; to = to }

same_parts : (body body2 : List ℕ) (gone gone2 : Bool) (to to2 : Option (List ℕ)) → body ≡ body2 → gone ≡ gone2 → to ≡ to2 → parts body gone to ≡ parts body2 gone2 to2
same_parts body body2 gone gone2 to to2 p q r =
    ap (λ b. parts b gone to) p ∙ ap (λ g. parts body2 g to) q ∙ ap (λ t. parts body2 gone2 t) r

body-push : (ps : List Piece) (p : Piece) → body_of (ps ++ p ∷ []) ≡ body_of ps ++ body_of (p ∷ [])
body-push [] p = refl
body-push (piece.Added bytes ∷ ps) p = ap (λ b. bytes ++ b) (body-push ps p) ∙ sym (append_assoc bytes (body_of ps) (body_of (p ∷ [])))
body-push (piece.Missing ∷ ps) p = body-push ps p
body-push (piece.Redirect to ∷ ps) p = body-push ps p

gone-push : (ps : List Piece) (p : Piece) → is_missing (ps ++ p ∷ []) ≡ (is_missing ps || is_missing (p ∷ []))
gone-push [] p = refl
gone-push (piece.Added bytes ∷ ps) p = gone-push ps p
gone-push (piece.Missing ∷ ps) p = refl
gone-push (piece.Redirect to ∷ ps) p = gone-push ps p

led-push : (to : Option (List ℕ)) (ps : List Piece) (p : Piece) → led_to to (ps ++ p ∷ []) ≡ led_to (led_to to ps) (p ∷ [])
led-push to [] p = refl
led-push to (piece.Added bytes ∷ ps) p = led-push to ps p
led-push to (piece.Missing ∷ ps) p = led-push to ps p
led-push to (piece.Redirect next ∷ ps) p = led-push (Some next) ps p

or-false : (b : Bool) → (b || false) ≡ b
or-false true = refl
or-false false = refl

or-true : (b : Bool) → (b || true) ≡ true
or-true true = refl
or-true false = refl

-- One more piece.
pub buffer-push : (ps : List Piece) (p : Piece) → buffer_for (ps ++ p ∷ []) ≡ buffer_with p (buffer_for ps)
buffer-push ps (piece.Added bytes) =
    same_parts _ _ _ _ _ _ (body-push ps (piece.Added bytes) ∙ ap (λ b. body_of ps ++ b) (append-nil bytes))
    (gone-push ps (piece.Added bytes) ∙ or-false (is_missing ps)) (led-push None ps (piece.Added bytes))
buffer-push ps piece.Missing =
    same_parts _ _ _ _ _ _ (body-push ps piece.Missing ∙ append-nil (body_of ps))
    (gone-push ps piece.Missing ∙ or-true (is_missing ps)) (led-push None ps piece.Missing)
buffer-push ps (piece.Redirect to) =
    same_parts _ _ _ _ _ _ (body-push ps (piece.Redirect to) ∙ append-nil (body_of ps))
    (gone-push ps (piece.Redirect to) ∙ or-false (is_missing ps)) (led-push None ps (piece.Redirect to))

located : (to : Option (List ℕ)) (ps : List Piece) → option_map location (led_to to ps) ≡ redirect_of (option_map location to) ps
located to [] = refl
located to (piece.Added bytes ∷ ps) = located to ps
located to (piece.Missing ∷ ps) = located to ps
located to (piece.Redirect next ∷ ps) = located (Some next) ps

-- The page of what the pieces come to is the page of the pieces.
pub page-in : (ps : List Piece) → page_in (buffer_for ps) ≡ page_of ps
page-in ps = ap (λ to. page_by (is_missing ps) to (body_of ps)) (located None ps)

-- Some pieces come to this.
made-by : (body : List ℕ) (gone : Bool) (to : Option (List ℕ)) → (ps : List Piece) × (buffer_for ps ≡ parts body gone to)
made-by body false None = (piece.Added body ∷ [], ap (λ b. parts b false None) (append-nil body))
made-by body true None = (piece.Added body ∷ (piece.Missing ∷ []), ap (λ b. parts b true None) (append-nil body))
made-by body false (Some to) = (piece.Added body ∷ (piece.Redirect to ∷ []), ap (λ b. parts b false (Some to)) (append-nil body))
made-by body true (Some to) =
    (piece.Added body ∷ (piece.Missing ∷ (piece.Redirect to ∷ [])), ap (λ b. parts b true (Some to)) (append-nil body))

pub page-made : (p : Page) (b : BufferSeen) → p ≡ page_in b → IsPageMade p
page-made p b is =
    let made = made-by b.body b.gone b.to in (made.0, is ∙ sym (ap page_in made.1) ∙ page-in made.0)
