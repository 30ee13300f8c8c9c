use Rattle.std.proofs.Common.{◌≡◌, sym, subst, ◌⊎◌}
use Rattle.jac_lang.specs.Syntax.{Application}
use Rattle.jac_tree.specs.Mirror.{plain}
use Rattle.jac_app_load.specs.Application.{IsApplication}
use Rattle.jac_app_load.specs.Refusal.{HasRefusal}
use Rattle.jac_app_load.specs.declared.refusal.Refusal.{Refusal}
use Rattle.jac_app_load.specs.declared.refusal.Refusal.TheVariants as refusals
use Rattle.jac_app_load.proofs.OpeningLemmas.{opening_is, opening_has, opening_none, text_has, text_none}
use Rattle.jac_app_load.proofs.application.read_application.Goals as goal

pub returns-in-Ok-clause-app : goal.returns-in-Ok-clause-app
returns-in-Ok-clause-app c = opening_is c.args.bytes.now (plain c.in-Ok.tree) c.open_tree.result c.in-Ok.ensures.tree c.open_tree.ensures

pub returns-in-Ok-clause-refused : goal.returns-in-Ok-clause-refused
returns-in-Ok-clause-refused c = opening_has c.args.bytes.now (plain c.in-Ok.tree) c.open_tree.result c.in-Ok.ensures.tree c.open_tree.ensures

pub returns-in-Ok-clause-none : goal.returns-in-Ok-clause-none
returns-in-Ok-clause-none c =
    opening_none c.expands_to_one.ensures.application c.args.bytes.now (plain c.in-Ok.tree) c.open_tree.result c.in-Ok.ensures.only c.open_tree.ensures

pub returns-in-Err : goal.returns-in-Err
returns-in-Err c =
    let bytes = c.args.bytes.now in
    let read = c.read_tree.ensures in
    let told = sym c.text_refusal.ensures in
    record {
      app = tt;
      refused = subst (λ (r : Refusal). (r ≡ refusals.Memory) ⊎ HasRefusal bytes r) told
          (text_has bytes c.read_tree.result c.in-Err.fault c.in-Err.is (λ long. read.long.0 long) c.requires.short read.not_utf8 read.stray read.deep read.unclosed);
      none = subst (λ (r : Refusal). (r ≡ refusals.Memory) ⊎ ((app : Application) → IsApplication bytes app → ⊥)) told
          (text_none plain bytes c.read_tree.result c.in-Err.fault c.in-Err.is read.only);
    }
