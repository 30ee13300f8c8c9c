use Rattle.std.proofs.Common.{◌≡◌, map, drop}
use Rattle.jac_http.specs.Parts.{first_some, session_in}
use Rattle.jac_http.proofs.values.first_session.Given as goal

abbrev pub invariant-cookies : goal.invariant-cookies
invariant-cookies l = first_some session_in (map (λ v. v.now) (drop l.cookie-index l.cookies)) ≡ first_some session_in (map (λ v. v.now) l.cookies)
