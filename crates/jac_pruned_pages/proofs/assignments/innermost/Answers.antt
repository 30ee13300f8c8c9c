use Rattle.std.proofs.Common.{◌∙◌, ◌≡◌, ◌+◌, arith, ap, sym, length, [], ◌∷◌}
use Rattle.std.proofs.lemmas.List.{length-append}
use Rattle.jac_pruned_pages.specs.Places.{last_place}
use Rattle.jac_pruned_pages.proofs.Places.{place_found, place_passed}
use Rattle.jac_pruned_pages.proofs.assignments.innermost.Goals as goal

pub returns-then-eq-clause-place : goal.returns-then-eq-clause-place
returns-then-eq-clause-place c =
    sym (ap (last_place c.args.name.now) c.in-Some.ensures.cases.0 ∙ place_found c.args.name.now c.in-Some.outer.now c.in-Some.binding.now (sym c.eq.ensures ∙ c.if-eq.true))
    ∙ c.bindings.invariant.0

pub bindings-preserved : goal.bindings-preserved
bindings-preserved c =
    let long : length c.bindings.rest.now ≡ length c.in-Some.outer.now + 1 =
    ap length c.in-Some.ensures.cases.0 ∙ length-append c.in-Some.outer.now (c.in-Some.binding.now ∷ []) in (
      sym (ap (last_place c.args.name.now) c.in-Some.ensures.cases.0 ∙ place_passed c.args.name.now c.in-Some.outer.now c.in-Some.binding.now (sym c.eq.ensures ∙ c.if-eq.false))
          ∙ c.bindings.invariant.0,
      omega (arith, long, c.bindings.invariant.1),
    )
