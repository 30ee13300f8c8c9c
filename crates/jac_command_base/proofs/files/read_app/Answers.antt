use Rattle.std.proofs.Common.{inl, inr}
use Rattle.jac_command_base.proofs.files.read_app.Goals as goal

pub returns-in-Err-clause-appless : goal.returns-in-Err-clause-appless
returns-in-Err-clause-appless g c = inl c.in-Err.ensures.unread

pub returns-in-Err-open_app-clause-appless : goal.returns-in-Err-open_app-clause-appless
returns-in-Err-open_app-clause-appless g c = inr (
  c.in-Ok.bytes,
  record { short = c.in-Ok.ensures.short; told = c.in-Ok.ensures.told },
  rw c.as_slice.ensures at c.in-Err-open_app.ensures.unopened,
)

pub returns-clause-spelled : goal.returns-clause-spelled
returns-clause-spelled g c = record {
  bytes = c.in-Ok.bytes;
  read = record { short = c.in-Ok.ensures.short; told = c.in-Ok.ensures.told };
  spelled = rw c.as_slice.ensures at c.in-Ok-open_app.ensures.opened;
}
