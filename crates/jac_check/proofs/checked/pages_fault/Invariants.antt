use Rattle.std.proofs.Common.{◌≡◌, drop}
use Rattle.jac_lang.specs.Mirror.{application_of, pages_of}
use Rattle.jac_check.specs.Applications.{pages_fault}
use Rattle.jac_check.proofs.checked.pages_fault.Given as goal

-- The views so far have no fault.
abbrev pub invariant-loop-view : goal.invariant-loop-view
invariant-loop-view l =
    let app = application_of l.app in
    (l.number ≡ l.view-index) × (pages_fault app l.number (pages_of (drop l.view-index l.views)) ≡ pages_fault app 0 (pages_of l.views))
