-- The marks of the code as plain data, and the fault of a tag's content.
use Rattle.std.specs.Prelude.{◌≡◌, ℕ, Bool, true, false, List}
use Rattle.std.specs.Str.{IsUtf8}
use Rattle.jac_lang.specs.Mirror.{expression_of, question_of}
use Rattle.jac_tree.specs.Faults.{IsFaultOf}
use Rattle.jac_tree.specs.declared.fault.TreeFault.{TreeFault}
use Rattle.jac_tree.specs.declared.fault.TreeFault.TheVariants as trees
use Rattle.jac_template.specs.Faults.{Fault}
use Rattle.jac_template.specs.Tags.{Mark}
use Rattle.jac_template.specs.declared.pieces.Kind.{Kind}
use Rattle.jac_template.specs.declared.pieces.Kind.TheVariants as kinds
use Rattle.jac_template.specs.declared.marks.Mark.{Mark as Read}
use Rattle.jac_template.specs.declared.marks.Mark.TheVariants as read

abbrev pub mark_of : Read → Mark
mark_of (read.Put e) = Mark.put (expression_of e)
mark_of (read.Esc e) = Mark.escape (expression_of e)
mark_of (read.Let x e) = Mark.bind x (expression_of e)
mark_of (read.If c) = Mark.branch (expression_of c)
mark_of (read.For q) = Mark.each (question_of q)
mark_of read.Else = Mark.otherwise
mark_of read.End = Mark.finish

-- The content of the tag at this place is no tree, and the fault is the reason.
abbrev pub IsContentFault : ℕ → List ℕ → Fault → Type 0
IsContentFault place content f = (fault : TreeFault) × IsFaultOf content fault
    × (f ≡ Fault.tree place fault)

-- The fault is one of the bytes, not out of memory.
abbrev pub is_of_bytes : TreeFault → Bool
is_of_bytes trees.Memory = false
is_of_bytes fault = true

-- Literal text is UTF-8.
abbrev pub HasText : Kind → List ℕ → Type 0
HasText kinds.Literal content = IsUtf8 content
HasText kinds.Output content = Unit {0}
HasText kinds.Control content = Unit {0}
HasText kinds.Endless content = Unit {0}
