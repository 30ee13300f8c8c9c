-- What the message of a fault says: its place, and the names of models.
use Rattle.std.specs.Prelude.{ℕ, List, [], slice_get, Option, Some, None, option_map}
use Rattle.jac_value.specs.declared.value.Kind.{Kind}
use Rattle.jac_value.specs.declared.value.Kind.TheVariants as kinds
use Rattle.jac_lang.specs.declared.field_kinds.KindName.{KindName}
use Rattle.jac_lang.specs.declared.field_kinds.KindName.TheVariants as names
use Rattle.jac_lang.specs.Syntax.{Entity}
use Rattle.jac_check.specs.declared.cause.Expected.{Expected}
use Rattle.jac_check.specs.declared.cause.Expected.TheVariants as expected
use Rattle.jac_check.specs.declared.fault.CheckCause.{CheckCause}
use Rattle.jac_check.specs.declared.fault.CheckCause.TheVariants as causes
use Rattle.jac_check.specs.declared.fault.CheckFault.{CheckFault}
use Rattle.jac_check.specs.declared.fault.Place.{Place}
use Rattle.jac_check.specs.declared.fault.Wanted.{Wanted}
use Rattle.jac_check.specs.declared.fault.Wanted.TheVariants as wanted
use Rattle.jac_check.specs.Verdict.{Reason}

abbrev pub entity_name : Option Entity → List ℕ
entity_name None = []
entity_name (Some m) = m.name

-- The kind as the program's text names it. A reference has the name of its model.
abbrev pub kind_name_of : List Entity → Kind → KindName
kind_name_of ms kinds.Int = names.Int
kind_name_of ms kinds.Text = names.Text
kind_name_of ms kinds.Bool = names.Bool
kind_name_of ms (kinds.Ref m) = names.Ref (entity_name (slice_get ms m))

abbrev pub wanted_of : List Entity → Expected → Wanted
wanted_of ms (expected.One k) = wanted.One (kind_name_of ms k)
wanted_of ms expected.Ordered = wanted.Ordered
wanted_of ms expected.Reference = wanted.Reference

abbrev pub cause_of : List Entity → Reason → CheckCause
cause_of ms (Reason.unknown x) = causes.UnknownName x
cause_of ms (Reason.twice x) = causes.TwiceNamed x
cause_of ms (Reason.wrong_kind want have) = causes.WrongKind (wanted_of ms want)
    (kind_name_of ms have)
cause_of ms Reason.write_in_get = causes.WriteInGet
cause_of ms Reason.create_in_loop = causes.CreateInLoop
cause_of ms (Reason.loop_wanted x) = causes.LoopWanted x
cause_of ms Reason.viewer_in_public = causes.ViewerInPublic
cause_of ms (Reason.not_here x) = causes.NotHere x

abbrev pub fault_at_place : List Entity → Place → Reason → CheckFault
fault_at_place ms place reason = record { place = place; cause = cause_of ms reason }

abbrev pub fault_at : List Entity → Place → Option Reason → Option CheckFault
fault_at ms place reason = option_map (fault_at_place ms place) reason
