-- Each text is a template or has a fault. The pieces are read from the left with the open blocks,
-- and each piece has a meaning.
use Rattle.std.proofs.Common.{◌≡◌, ◌<◌, ◌≤◌, ◌⊎◌, inl, inr, ℕ, zero, suc, Bool, true, false, true≢false, List, [], ◌∷◌, length, take, take_all, Option, Some, None, if◌then◌else◌, codes, refl, sym, ◌∙◌, subst, arith, ⊎_elim}
use Rattle.std.proofs.lemmas.Bool.{cases_Bool, cases_lt, cond-true, cond-false}
use Rattle.std.proofs.lemmas.Str.{IsUtf8-from_is_utf8, is_utf8-from_IsUtf8}
use Rattle.std.specs.Prelude.{IsTrue}
use Rattle.std.specs.Str.{IsUtf8, IsValidUpTo, bytes_eq, is_utf8}
use Rattle.std.specs.Str.Lossy.{valid_len_up_to}
use Rattle.jac_forms.specs.Expressions.{expression_in_tree, question_in_tree}
use Rattle.jac_forms.specs.Names.{name_of_tree}
use Rattle.jac_forms.specs.Reads.{Read, got, refused, read_map}
use Rattle.jac_forms.specs.Refusal.{refuses}
use Rattle.jac_forms.specs.declared.fault.FormFault.{FormFault}
use Rattle.jac_forms.specs.declared.fault.FormFault.TheVariants as forms
use Rattle.jac_lang.specs.Syntax.{Expression, Statements}
use Rattle.jac_tree.proofs.Total.{each_read}
use Rattle.jac_tree.specs.Faults.{IsFaultOf}
use Rattle.jac_tree.specs.Grammar.{Accepted}
use Rattle.jac_tree.specs.Plain.{PlainTree, PlainTrees, is_word}
use Rattle.jac_tree.specs.declared.fault.TreeFault.{TreeFault}
use Rattle.jac_tree.specs.declared.fault.TreeFault.TheVariants as trees
use Rattle.jac_template.specs.Expansion.{Expansion, Expands}
use Rattle.jac_template.specs.Faults.{Fault, form_fault, fault_in_template, refuses_template}
use Rattle.jac_template.specs.Grammar.{BodyAt, misplaced_fault, FirstFault}
use Rattle.jac_template.specs.Pieces.{Piece, pieces}
use Rattle.jac_template.specs.Progress.{OpenBlock, Progress, progress, run_order, progress_after, IsUnclosed}
use Rattle.jac_template.specs.Tags.{Mark, Form, form_of_mark, output_of_tree, single_of_tree, named_bind, bind_of_trees, word_of_tree, control_of_trees, control_of_tree, Meaning, meaning_of_form, MeansTree, MeansAs, MeansTag}
use Rattle.jac_template.specs.declared.fault.TemplateFault.{TemplateFault}
use Rattle.jac_template.specs.declared.fault.TemplateFault.TheVariants as faults
use Rattle.jac_template.specs.declared.pieces.Kind.{Kind}
use Rattle.jac_template.specs.declared.pieces.Kind.TheVariants as kinds
use Rattle.jac_template.proofs.FormReads.{is_answer, map_answers, expression_answers, query_answer}
use Rattle.jac_template.proofs.Leads.{Leads, leads_from, leads_on, fault_here, fault_of_place, whole, unended}

-- Bytes are UTF-8, or they have a longest prefix that is.
longest_front : (bytes : List ℕ) (m : ℕ)
    → IsUtf8 (take (valid_len_up_to bytes m) bytes) × ((k : ℕ) → valid_len_up_to bytes m < k → k ≤ m → ¬ (IsUtf8 (take k bytes)))
longest_front bytes zero = (([], (refl, refl)), λ k above within. absurd (omega arith))
longest_front bytes (suc m) =
    let rest = longest_front bytes m in
    ⊎_elim
    (λ whole_text.
    let is : valid_len_up_to bytes (suc m) ≡ suc m = cond-true _ _ _ whole_text in
    (subst (λ n. IsUtf8 (take n bytes)) (sym is) (IsUtf8-from_is_utf8 _ whole_text), λ k above within. absurd (omega arith)))
    (λ no_text.
    let is : valid_len_up_to bytes (suc m) ≡ valid_len_up_to bytes m = cond-false _ _ _ no_text in (
      subst (λ n. IsUtf8 (take n bytes)) (sym is) rest.0,
      λ k above within u. ⊎_elim
          (λ (top : m < k).
          let same : k ≡ suc m = omega arith in
          true≢false (sym (is_utf8-from_IsUtf8 _ (subst (λ n. IsUtf8 (take n bytes)) same u)) ∙ no_text))
          (λ (low : k ≤ m). rest.1 k (omega arith) low u)
          (cases_lt m k),
    ))
    (cases_Bool (is_utf8 (take (suc m) bytes)))

text_or_not : (bytes : List ℕ) → IsUtf8 bytes ⊎ ((at : ℕ) × IsValidUpTo bytes at)
text_or_not bytes =
    let n = valid_len_up_to bytes (length bytes) in
    let front = longest_front bytes (length bytes) in
    ⊎_elim
    (λ (short : n < length bytes). inr (
      n,
      record {
        short = short;
        front = front.0;
        longest = λ m above u. ⊎_elim
            (λ (past : length bytes < m).
            front.1 (length bytes) short (omega arith) (subst IsUtf8 (take_all m bytes (omega arith) ∙ sym (take_all (length bytes) bytes (omega arith))) u))
            (λ (within : m ≤ length bytes). front.1 m above within u)
            (cases_lt (length bytes) m);
      },
    ))
    (λ (all : length bytes ≤ n). inl (subst IsUtf8 (take_all n bytes all) front.0))
    (cases_lt n (length bytes))

-- The bytes are a tree or have a fault.
abbrev IsRead : List ℕ → Type 0
IsRead bytes = ((t : PlainTree) × Accepted bytes t) ⊎ ((f : TreeFault) × IsFaultOf bytes f)

bytes_read : (bytes : List ℕ) → IsRead bytes
bytes_read bytes = by_length (cases_lt 1048576 (length bytes))
  where
    by_text : length bytes ≤ 1048576 → IsUtf8 bytes ⊎ ((at : ℕ) × IsValidUpTo bytes at) → IsRead bytes
    by_text short (inl text) = each_read bytes (short, text)
    by_text short (inr (at, valid)) = inr (trees.NotUtf8 at, (short, valid))

    by_length : (1048576 < length bytes) ⊎ (length bytes ≤ 1048576) → IsRead bytes
    by_length (inl long) = inr (trees.Long, long)
    by_length (inr short) = by_text short (text_or_not bytes)

-- A form, unless its fault is out of memory.
abbrev has_fault : Form → Bool
has_fault Form.stray = true
has_fault (Form.formless f) = refuses f
has_fault (Form.mark m) = true

mark_form : (r : Read Mark) → is_answer r ≡ true → has_fault (form_of_mark r) ≡ true
mark_form (got m) h = refl
mark_form (refused f) h = h

expression_form : (mark : Expression → Mark) (t : PlainTree) → has_fault (form_of_mark (read_map mark (expression_in_tree [] t))) ≡ true
expression_form mark t = mark_form (read_map mark (expression_in_tree [] t)) (map_answers mark (expression_in_tree [] t) (expression_answers [] t))

output_form : (t : PlainTree) → has_fault (output_of_tree t) ≡ true
output_form t = expression_form Mark.escape t

single_form : (head t : PlainTree) → has_fault (single_of_tree head t) ≡ true
single_form head t = word (is_word (codes "put") head) (is_word (codes "if") head) (is_word (codes "for") head)
  where
    word : (p q r : Bool)
        → has_fault (if p then form_of_mark (read_map Mark.put (expression_in_tree [] t)) else
        if q then form_of_mark (read_map Mark.branch (expression_in_tree [] t)) else
        if r then form_of_mark (read_map Mark.each (question_in_tree 3 [] t)) else Form.stray) ≡ true
    word true q r = expression_form Mark.put t
    word false true r = expression_form Mark.branch t
    word false false true =
        mark_form (read_map Mark.each (question_in_tree 3 [] t)) (map_answers Mark.each (question_in_tree 3 [] t) (query_answer 3 [] t))
    word false false false = refl

named_form : (name : Option (List ℕ)) (t : PlainTree) → has_fault (named_bind name t) ≡ true
named_form None t = refl
named_form (Some x) t = expression_form (Mark.bind x) t

bind_form : (head x t : PlainTree) → has_fault (bind_of_trees head x t) ≡ true
bind_form head x t = word (is_word (codes "let") head)
  where
    word : (p : Bool) → has_fault (if p then named_bind (name_of_tree x) t else Form.stray) ≡ true
    word true = named_form (name_of_tree x) t
    word false = refl

word_form : (a : List ℕ) → has_fault (word_of_tree a) ≡ true
word_form a = word (bytes_eq a (codes "else")) (bytes_eq a (codes "end"))
  where
    word : (p q : Bool) → has_fault (if p then Form.mark Mark.otherwise else if q then Form.mark Mark.finish else Form.stray) ≡ true
    word true q = refl
    word false true = refl
    word false false = refl

list_form : (ts : PlainTrees) → has_fault (control_of_trees ts) ≡ true
list_form PlainTrees.none = refl
list_form (PlainTrees.more head PlainTrees.none) = refl
list_form (PlainTrees.more head (PlainTrees.more t PlainTrees.none)) = single_form head t
list_form (PlainTrees.more head (PlainTrees.more x (PlainTrees.more t PlainTrees.none))) = bind_form head x t
list_form (PlainTrees.more head (PlainTrees.more x (PlainTrees.more t (PlainTrees.more u ts)))) = refl

control_form : (t : PlainTree) → has_fault (control_of_tree t) ≡ true
control_form (PlainTree.atom a) = word_form a
control_form (PlainTree.text x) = refl
control_form (PlainTree.list ts) = list_form ts

-- The fault is one of the code's, other than out of memory.
abbrev IsTold : Fault → Type 0
IsTold f = (g : TemplateFault) × IsTrue (refuses_template g) × (fault_in_template g ≡ f)

abbrev IsSound : Meaning → Type 0
IsSound (Meaning.mark m) = Unit {0}
IsSound (Meaning.fault f) = IsTold f

form_same : (place : ℕ) (f : FormFault) → refuses f ≡ true → form_fault place f ≡ Fault.form place f
form_same place (forms.Form path want) h = refl
form_same place (forms.TooMany path what have) h = refl
form_same place forms.Memory h = absurd (grind (arith, h))

form_sound : (place : ℕ) (form : Form) → has_fault form ≡ true → IsSound (meaning_of_form place form)
form_sound place Form.stray h = (faults.Stray place, refl, refl)
form_sound place (Form.formless f) h = (faults.Form place f, refl, form_same place f h)
form_sound place (Form.mark m) h = tt

tree_told : (place : ℕ) (content : List ℕ) (f : TreeFault) → IsFaultOf content f → IsTold (Fault.tree place f)
tree_told place content trees.Long h = (faults.Tree place trees.Long, refl, refl)
tree_told place content (trees.NotUtf8 at) h = (faults.Tree place (trees.NotUtf8 at), refl, refl)
tree_told place content (trees.Stray at) h = (faults.Tree place (trees.Stray at), refl, refl)
tree_told place content (trees.Deep at) h = (faults.Tree place (trees.Deep at), refl, refl)
tree_told place content (trees.Unclosed at) h = (faults.Tree place (trees.Unclosed at), refl, refl)
tree_told place content trees.Memory h = absurd h

-- Each piece has a meaning.
content_means : (place : ℕ) (form : PlainTree → Form) (content : List ℕ) → ((t : PlainTree) → has_fault (form t) ≡ true)
    → (m : Meaning) × MeansTree place form content m × IsSound m
content_means place form content each = by_tree (bytes_read content)
  where
    by_tree : IsRead content → (m : Meaning) × MeansTree place form content m × IsSound m
    by_tree (inl (t, a)) = (meaning_of_form place (form t), inl (t, a, refl), form_sound place (form t) (each t))
    by_tree (inr (f, h)) = (Meaning.fault (Fault.tree place f), inr (f, h, refl), tree_told place content f h)

means_as : (kind : Kind) (place : ℕ) (content : List ℕ) → (m : Meaning) × MeansAs kind place content m × IsSound m
means_as kinds.Literal place content = (Meaning.mark (Mark.put (Expression.text content)), refl, tt)
means_as kinds.Output place content = content_means place output_of_tree content output_form
means_as kinds.Control place content = content_means place control_of_tree content control_form
means_as kinds.Endless place content = (Meaning.fault (Fault.unclosed place), refl, (faults.Unclosed place, refl, refl))

misplaced_told : (place : ℕ) (m : Mark) → IsTold (misplaced_fault place m)
misplaced_told place (Mark.put e) = (faults.Deep place, refl, refl)
misplaced_told place (Mark.escape e) = (faults.Deep place, refl, refl)
misplaced_told place (Mark.bind x e) = (faults.Deep place, refl, refl)
misplaced_told place (Mark.branch c) = (faults.Deep place, refl, refl)
misplaced_told place (Mark.each q) = (faults.Deep place, refl, refl)
misplaced_told place Mark.otherwise = (faults.Stray place, refl, refl)
misplaced_told place Mark.finish = (faults.Stray place, refl, refl)

-- The pieces are a template or have a fault.
abbrev AreRead : List Piece → Type 0
AreRead all = ((ss : Statements) × BodyAt ss 0 all [])
    ⊎ ((f : TemplateFault) × IsTrue (refuses_template f) × FirstFault [] all (fault_in_template f))

at_end : (all : List Piece) (so_far : Progress) (blocks : List OpenBlock) → so_far.blocks ≡ blocks → Leads all so_far [] → AreRead all
at_end all so_far [] e leads = inl (run_order so_far.body, whole all [] so_far (run_order so_far.body) refl e refl leads)
at_end all so_far (b ∷ blocks) e leads =
    let is : IsUnclosed so_far.blocks (Fault.unclosed b.place) = subst (λ (bs : List OpenBlock). IsUnclosed bs (Fault.unclosed b.place)) (sym e) refl in
    inr (faults.Unclosed b.place, refl, unended all [] so_far (Fault.unclosed b.place) refl is leads)

module _ (all rest : List Piece) (p : Piece) (so_far : Progress) (leads : Leads all so_far (p ∷ rest)) (go : (next : Progress) → Leads all next rest → AreRead all) where
  after_mark : (m : Mark) (o : Option Progress) → progress_after p.place m so_far ≡ o → MeansTag p (Meaning.mark m) → AreRead all
  after_mark m None e means =
      let (g, is, same) = misplaced_told p.place m in
      inr (g, is, fault_of_place all (p ∷ rest) rest p m (fault_in_template g) so_far refl means e same leads)
  after_mark m (Some next) e means = go next (leads_on all (p ∷ rest) rest p m so_far next refl means e leads)

  after_piece : (m : Meaning) → MeansTag p m → IsSound m → AreRead all
  after_piece (Meaning.mark m) means sound = after_mark m (progress_after p.place m so_far) refl means
  after_piece (Meaning.fault f) means (g, is, same) =
      inr (g, is, fault_here all (p ∷ rest) rest p (fault_in_template g) so_far refl (subst (λ (h : Fault). MeansTag p (Meaning.fault h)) (sym same) means) leads)

walked : (all left : List Piece) (so_far : Progress) → Leads all so_far left → AreRead all
walked all [] so_far leads = at_end all so_far so_far.blocks refl leads
walked all (p ∷ rest) so_far leads =
    let meant = means_as p.kind p.place p.content in
    after_piece all rest p so_far leads (walked all rest) meant.0 meant.1 meant.2

pub each_expands : (text : List ℕ)
    → ((ss : Statements) × Expands text (Expansion.statements ss))
    ⊎ ((f : TemplateFault) × IsTrue (refuses_template f) × Expands text (Expansion.fault (fault_in_template f)))
each_expands text = walked (pieces text) (pieces text) (progress [] Statements.none) (leads_from (pieces text) (progress [] Statements.none) refl)
