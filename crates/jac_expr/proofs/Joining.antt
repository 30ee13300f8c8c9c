-- Texts that are joined one after another.
use Rattle.std.proofs.Common.{◌≡◌, ℕ, List, [], ◌++◌, ap, sym, ◌∙◌, append_assoc, append-nil}
use Rattle.jac_value.specs.declared.value.Value.{Value}
use Rattle.jac_value.specs.declared.value.Value.TheVariants as value
use Rattle.jac_plain.specs.Expressions.{bytes_of}

-- One more text is joined.
pub joined_more : (joined part next : Value) (rest all : List ℕ) → next ≡ value.Text (bytes_of joined ++ bytes_of part) →
    bytes_of joined ++ (bytes_of part ++ rest) ≡ all → bytes_of next ++ rest ≡ all
joined_more joined part next rest all is made =
    ap (λ v. bytes_of v ++ rest) is ∙ append_assoc (bytes_of joined) (bytes_of part) rest ∙ made

-- No text is left.
pub joined_all : (joined : Value) (all : List ℕ) → joined ≡ value.Text (bytes_of joined) → bytes_of joined ++ [] ≡ all → joined ≡ value.Text all
joined_all joined all is_text made = is_text ∙ ap value.Text (sym (append-nil (bytes_of joined)) ∙ made)
