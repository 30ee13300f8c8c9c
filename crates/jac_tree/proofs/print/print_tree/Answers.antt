use Rattle.std.proofs.Common.{◌≡◌, sym, subst, rules, IsUtf8, string_bytes}
use Rattle.std.proofs.lemmas.Str.{IsUtf8-string_bytes}
use Rattle.jac_tree.specs.Grammar.{Spells}
use Rattle.jac_tree.specs.Mirror.{plain}
use Rattle.jac_tree.specs.Printed.{printed_tree}
use Rattle.jac_tree.proofs.Printing.{printed_spells}
use Rattle.jac_tree.proofs.print.print_tree.Goals as goal

pub returns-clause-accepted : goal.returns-clause-accepted
returns-clause-accepted c atoms short =
    let e : c.from_vec.result ≡ printed_tree (plain c.args.tree.now) = search rules in
    let s : c.from_vec.result ≡ string_bytes c.put_tree.new.to = search rules in
    record {
      short = short;
      utf8 = subst IsUtf8 (sym s) (IsUtf8-string_bytes c.put_tree.new.to);
      spelled = subst (λ z. Spells z (plain c.args.tree.now)) (sym e) (printed_spells (plain c.args.tree.now) atoms);
      shallow = c.requires.shallow;
    }
