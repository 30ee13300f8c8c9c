use Rattle.std.proofs.Common.{◌≡◌, Some, map}
use Rattle.jac_http.specs.Parts.{token_of}
use Rattle.jac_http.proofs.Tokens.{text_of_token}
use Rattle.jac_http.proofs.take.token_in.Goals as goal

pub token_text-requires : goal.token_text-requires
token_text-requires c =
    let found : Some c.in-Some.token.now ≡ token_of (map (λ v. v.now) c.as_slice.result.now) = rw c.in-Some.is at c.in_ok-token.ensures in
    text_of_token (map (λ v. v.now) c.as_slice.result.now) c.in-Some.token.now found
