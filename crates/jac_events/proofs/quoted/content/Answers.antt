use Rattle.std.proofs.Common.{◌≡◌, ◌∙◌, ap, sym, refl, ℕ, Option, Some, None, List, [], ◌∷◌, ◌++◌, append_assoc}
use Rattle.jac_events.specs.Words.{with_byte, read_quoted}
use Rattle.jac_events.specs.Fronts.{with_front}
use Rattle.jac_events.proofs.quoted.content.Goals as goal

-- A byte may be appended to what was read before, or put before what is read from the rest.
prefixed-push : (made : List ℕ) (b : ℕ) (read : Option (List ℕ × List ℕ)) → with_front (made ++ b ∷ []) read ≡ with_front made (with_byte b read)
prefixed-push made b None = refl
prefixed-push made b (Some p) = ap (λ (xs : List ℕ). Some (xs, p.1)) (append_assoc made (b ∷ []) p.0)

pub pieces-preserved : goal.pieces-preserved
pieces-preserved c =
    ap (λ (made : List ℕ). with_front made (read_quoted c.in-Byte.rest.now)) c.in_ok-push-in-Byte.ensures.items
    ∙ prefixed-push _ c.in-Byte.byte _
    ∙ ap (with_front c.pieces.made.items) (sym c.in-Byte.ensures.read)
    ∙ c.pieces.invariant
