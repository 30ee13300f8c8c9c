use Rattle.std.proofs.Common.{◌≡◌, ◌≤◌, ◌++◌, ◌+◌}
use Rattle.std.specs.String.{string_bytes}
use Rattle.jac_demo.specs.Requests.{lines_from, demo_text}
use Rattle.jac_demo.proofs.requests.demo_events.Given as goal

abbrev pub invariant-requests : goal.invariant-requests
invariant-requests l = record {
  few : l.count ≤ 2000;
  counted : l.number + l.left ≡ l.count + 1;
  made : string_bytes l.text ++ lines_from l.number l.left ≡ demo_text l.count;
}

abbrev pub decreases-requests : goal.decreases-requests
decreases-requests l = l.left
