use Rattle.std.specs.Str.{IsUtf8}
use Rattle.jac_http.proofs.Texts.{path_utf8, readable}
use Rattle.jac_http.proofs.target.path_of.Goals as goal

pub unwrap-path-requires : goal.unwrap-path-requires
unwrap-path-requires c =
    let text : IsUtf8 c.path_in.result.now = rw c.path_in.ensures (path_utf8 c.as_bytes.result.now c.as_bytes.ensures.utf8) in
    readable _ _ c.from_utf8.result c.path_in.result.now c.from_utf8.ensures.cases text
