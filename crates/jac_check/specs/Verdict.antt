-- The result of checking a part: its kind, or its fault.
use Rattle.std.specs.Prelude.{ℕ, Bool, true, false, List, Option, Some, None}
use Rattle.jac_value.specs.declared.value.Kind.{Kind}
use Rattle.jac_value.specs.declared.value.Kind.TheVariants as kinds
use Rattle.jac_value.specs.contracts.value.KindPartialEq.TheImpl.{ghosts}
use Rattle.jac_check.specs.declared.cause.Expected.{Expected}
use Rattle.jac_check.specs.declared.cause.Expected.TheVariants as expected

-- Why a part isn't well. References in its kinds have the places of their models.
pub data Reason : Type 0 where
  unknown : List ℕ → Reason
  twice : List ℕ → Reason
  wrong_kind : Expected → Kind → Reason
  write_in_get : Reason
  create_in_loop : Reason
  loop_wanted : List ℕ → Reason
  viewer_in_public : Reason
  not_here : List ℕ → Reason

pub data Verdict : Type 0 where
  kind : Kind → Verdict
  fault : Reason → Verdict

infixr 5 ◌before◌
-- The first fault of two tests.
abbrev pub ◌before◌ : {A : Type 0} → Option A → Option A → Option A
None before later = later
(Some found) before later = Some found

abbrev pub fault_if : Bool → Reason → Option Reason
fault_if true reason = Some reason
fault_if false reason = None

abbrev pub fault_unless : Bool → Reason → Option Reason
fault_unless true reason = None
fault_unless false reason = Some reason

abbrev pub fault_in : Verdict → Option Reason
fault_in (Verdict.kind k) = None
fault_in (Verdict.fault reason) = Some reason

abbrev pub verdict_by : Option Reason → Kind → Verdict
verdict_by None k = Verdict.kind k
verdict_by (Some reason) k = Verdict.fault reason

abbrev pub kind_wanted : Kind → Kind → Option Reason
kind_wanted want have = fault_unless (ghosts.eq have want) (Reason.wrong_kind (expected.One want)
    have)

abbrev pub is_ordered : Kind → Bool
is_ordered kinds.Int = true
is_ordered kinds.Text = true
is_ordered k = false

abbrev pub is_reference : Kind → Bool
is_reference (kinds.Ref m) = true
is_reference k = false

-- The fault of a part with a kind other than this one.
abbrev pub not_a : Kind → Verdict → Option Reason
not_a want (Verdict.kind have) = kind_wanted want have
not_a want (Verdict.fault reason) = None

-- The fault of an expression that must have this kind.
abbrev pub of_kind : Kind → Verdict → Option Reason
of_kind k v = fault_in v before not_a k v

-- The fault of a second part with a kind other than the first's.
abbrev pub not_alike : Verdict → Verdict → Option Reason
not_alike (Verdict.kind k) b = not_a k b
not_alike (Verdict.fault reason) b = None

abbrev pub not_ordered : Verdict → Option Reason
not_ordered (Verdict.kind k) = fault_unless (is_ordered k) (Reason.wrong_kind expected.Ordered k)
not_ordered (Verdict.fault reason) = None

abbrev pub not_reference : Verdict → Option Reason
not_reference (Verdict.kind k) = fault_unless (is_reference k) (Reason.wrong_kind expected.Reference
    k)
not_reference (Verdict.fault reason) = None
