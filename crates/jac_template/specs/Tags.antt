-- What the pieces of a template mean.
use Rattle.std.specs.Prelude.{◌≡◌, ◌⊎◌, ℕ, if◌then◌else◌, Option, Some, None, List, [], codes}
use Rattle.std.specs.Str.{bytes_eq}
use Rattle.jac_lang.specs.Syntax.{Expression, Question}
use Rattle.jac_tree.specs.Faults.{IsFaultOf}
use Rattle.jac_tree.specs.Grammar.{Accepted}
use Rattle.jac_tree.specs.Plain.{PlainTree, PlainTrees, is_word}
use Rattle.jac_tree.specs.declared.fault.TreeFault.{TreeFault}
use Rattle.jac_forms.specs.Expressions.{expression_in_tree, question_in_tree}
use Rattle.jac_forms.specs.Names.{name_of_tree}
use Rattle.jac_forms.specs.Reads.{Read, got, refused, read_map}
use Rattle.jac_forms.specs.declared.fault.FormFault.{FormFault}
use Rattle.jac_template.specs.Faults.{Fault}
use Rattle.jac_template.specs.Pieces.{Piece}
use Rattle.jac_template.specs.declared.pieces.Kind.{Kind}
use Rattle.jac_template.specs.declared.pieces.Kind.TheVariants as kinds

-- A piece without a fault: a single statement, the opening of a block, `else`, or `end`.
pub data Mark : Type 0 where
  put : Expression → Mark
  escape : Expression → Mark
  bind : List ℕ → Expression → Mark
  branch : Expression → Mark
  each : Question → Mark
  otherwise : Mark
  finish : Mark

-- A tree as the content of a tag. It has none of the forms of a tag, or its expression or query
-- can't be read and has this first fault, or it is a mark.
pub data Form : Type 0 where
  stray : Form
  formless : FormFault → Form
  mark : Mark → Form

abbrev pub form_of_mark : Read Mark → Form
form_of_mark (got m) = Form.mark m
form_of_mark (refused f) = Form.formless f

-- `{{ e }}` is `(esc e)`.
abbrev pub output_of_tree : PlainTree → Form
output_of_tree t = form_of_mark (read_map Mark.escape (expression_in_tree [] t))

-- `(put e)`, `(if e)`, `(for q)`.
abbrev pub single_of_tree : PlainTree → PlainTree → Form
single_of_tree head t =
    if is_word (codes "put") head then form_of_mark (read_map Mark.put
    (expression_in_tree [] t)) else
    if is_word (codes "if") head then form_of_mark (read_map Mark.branch
    (expression_in_tree [] t)) else
    if is_word (codes "for") head then form_of_mark (read_map Mark.each
    (question_in_tree 3 [] t)) else
    Form.stray

-- `(let NAME e)`.
abbrev pub named_bind : Option (List ℕ) → PlainTree → Form
named_bind None t = Form.stray
named_bind (Some x) t = form_of_mark (read_map (Mark.bind x) (expression_in_tree [] t))

abbrev pub bind_of_trees : PlainTree → PlainTree → PlainTree → Form
bind_of_trees head x t = if is_word (codes "let") head then named_bind (name_of_tree x) t
    else Form.stray

-- `else`, `end`.
abbrev pub word_of_tree : List ℕ → Form
word_of_tree a =
    if bytes_eq a (codes "else") then Form.mark Mark.otherwise else
    if bytes_eq a (codes "end") then Form.mark Mark.finish else
    Form.stray

abbrev pub control_of_trees : PlainTrees → Form
control_of_trees (PlainTrees.more head (PlainTrees.more t PlainTrees.none)) = single_of_tree head t
control_of_trees (PlainTrees.more head (PlainTrees.more x (PlainTrees.more t PlainTrees.none))) =
    bind_of_trees head x t
control_of_trees ts = Form.stray

abbrev pub control_of_tree : PlainTree → Form
control_of_tree (PlainTree.atom a) = word_of_tree a
control_of_tree (PlainTree.text x) = Form.stray
control_of_tree (PlainTree.list ts) = control_of_trees ts

-- The meaning of a piece: a mark, or its fault.
pub data Meaning : Type 0 where
  mark : Mark → Meaning
  fault : Fault → Meaning

abbrev pub meaning_of_form : ℕ → Form → Meaning
meaning_of_form place Form.stray = Meaning.fault (Fault.stray place)
meaning_of_form place (Form.formless f) = Meaning.fault (Fault.form place f)
meaning_of_form place (Form.mark m) = Meaning.mark m

-- The content of a tag is one tree, and its form is the meaning, or the content has a fault as a
-- tree.
abbrev pub MeansTree : ℕ → (PlainTree → Form) → List ℕ → Meaning → Type 0
MeansTree place form content m =
    ((t : PlainTree) × Accepted content t × (m ≡ meaning_of_form place (form t)))
    ⊎ ((fault : TreeFault) × IsFaultOf content fault × (m ≡ Meaning.fault (Fault.tree place fault)))

abbrev pub MeansAs : Kind → ℕ → List ℕ → Meaning → Type 0
MeansAs kinds.Literal place content m = m ≡ Meaning.mark (Mark.put (Expression.text content))
MeansAs kinds.Output place content m = MeansTree place output_of_tree content m
MeansAs kinds.Control place content m = MeansTree place control_of_tree content m
MeansAs kinds.Endless place content m = m ≡ Meaning.fault (Fault.unclosed place)

abbrev pub MeansTag : Piece → Meaning → Type 0
MeansTag p m = MeansAs p.kind p.place p.content m
