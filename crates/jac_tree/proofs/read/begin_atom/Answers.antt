use Rattle.std.proofs.Common.{refl, ◌++◌, sym, ap, ◌∙◌, encode_utf8}
use Rattle.jac_tree.proofs.States.{atom_step, begin_stuck}
use Rattle.jac_tree.proofs.read.begin_atom.Goals as goal

pub returns-in_ok-atom-clause-steps : goal.returns-in_ok-atom-clause-steps
returns-in_ok-atom-clause-steps c gs =
    atom_step gs c.args.c _ c.requires.no_white c.requires.no_closing (sym c.if-is_atom_char.ensures)
    (c.in_ok-atom.ensures ∙ ap (λ z. z ++ encode_utf8 c.args.c) c.new.ensures.bytes)

pub returns-else-is_atom_char-clause-steps : goal.returns-else-is_atom_char-clause-steps
returns-else-is_atom_char-clause-steps c gs =
    (refl, begin_stuck gs c.args.c c.requires.no_white c.requires.no_quote c.requires.no_opening c.requires.no_closing (sym c.if-is_atom_char.ensures))
