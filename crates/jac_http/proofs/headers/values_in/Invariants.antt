use Rattle.std.proofs.Common.{◌≡◌, ◌++◌, map, drop}
use Rattle.httparse.specs.Spans.{header_bytes}
use Rattle.jac_http.specs.Parts.{values_of}
use Rattle.jac_http.proofs.headers.values_in.Given as goal

abbrev pub invariant-headers : goal.invariant-headers
invariant-headers l =
    map (λ v. v.now) l.values.items ++ values_of l.name (map (header_bytes l.bytes) (drop l.header-index l.headers))
    ≡ values_of l.name (map (header_bytes l.bytes) l.headers)
