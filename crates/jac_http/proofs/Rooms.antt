-- How many headers a head can have.
use Rattle.std.proofs.Common.{ap, ℕ, suc, ◌*◌, ◌≤◌, List, [], ◌∷◌, ◌++◌, length, length-append, arith}
use Rattle.std.specs.List.{flat_map}
use Rattle.httparse.specs.Grammar.{LineEnd, crlf, lf, print_end, Field, print_field, RequestHead, print_request}
use Rattle.jac_http.specs.Requests.{IsHead}

end_length : (e : LineEnd) → 1 ≤ length (print_end e)
end_length crlf = omega arith
end_length lf = omega arith

field_length : (f : Field) → 2 ≤ length (print_field f)
field_length f = let last = end_length f.end in simp length-append (omega (arith, last))

one_more : (line lines : List ℕ) (n : ℕ) → 2 ≤ length line → 2 * n ≤ length lines → 2 * suc n ≤ length (line ++ lines)
one_more line lines n here rest = let both = length-append line lines in omega (arith, here, rest, both)

fields_length : (fs : List Field) → 2 * length fs ≤ length (flat_map print_field fs)
fields_length [] = omega arith
fields_length (f ∷ fs) = one_more (print_field f) (flat_map print_field fs) (length fs) (field_length f) (fields_length fs)

print_length : (k : RequestHead) → 2 * length k.fields ≤ length (print_request k ++ [])
unfolding print_request
print_length k = let fields = fields_length k.fields in simp length-append (omega (arith, fields))

pub few_fields : (bytes : List ℕ) (k : RequestHead) → IsHead bytes k → 2 * length k.fields ≤ length bytes
few_fields bytes k h = let print = print_length k in let same = ap length h.1 in omega (arith, print, same)
