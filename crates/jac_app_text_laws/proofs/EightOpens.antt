-- The text of eight groups spells an application.
use Rattle.std.proofs.Common.{refl, [], Option, arith}
use Rattle.std.proofs.lemmas.Str.{IsUtf8-from_ascii}
use Rattle.jac_lang.specs.Syntax.{Application}
use Rattle.jac_tree.specs.Grammar.{skip, Spells, Accepted}
use Rattle.jac_tree.specs.Plain.{PlainTree}
use Rattle.jac_forms.specs.Applications.{application_in_tree}
use Rattle.jac_template.specs.Applications.{Expanded, ExpandsApplication}
use Rattle.matchit.specs.Route.{scan}
use Rattle.jac_app_load.specs.Application.{Opened, Opens, IsApplication}
use Rattle.jac_calendar_laws.proofs.AskingLemmas.{ascii_at}
use Rattle.jac_calendar_laws.proofs.CalendarOpens.{read_or_none, application_or_none}
use Rattle.jac_calendar_laws.proofs.ReadTexts.{Front, tree_at, is_tree}
use Rattle.jac_app_text_laws.specs.Eight.{eight_text}

-- Reads the whole text. 100 steps are enough.
abbrev pub read_eight : Option (Front PlainTree)
read_eight = tree_at 100 (skip eight_text)

abbrev pub eight_tree : PlainTree
eight_tree = (read_or_none read_eight).what

-- The application of the text.
abbrev pub eight : Application
eight = application_or_none (application_in_tree [] eight_tree)

eight_spells : Spells eight_text eight_tree
unfolding eight_text
eight_spells = ((read_or_none read_eight).behind, is_tree 100 (skip eight_text), refl)

eight_expands : ExpandsApplication eight (Expanded.application eight)
unfolding eight_text
eight_expands = (
  _,
  (
    _,
    _,
    (_, (_, _, (_, refl, refl), refl, refl), refl),
    (_, _, (_, (_, _, (_, (_, _, refl, (_, _, refl, refl, refl), refl), refl), refl, refl), refl), refl, refl),
    refl,
  ),
  refl,
)

eight_opens : Opens eight_tree (Opened.application eight)
unfolding eight_text scan
eight_opens = (Expanded.application eight, eight_expands, refl {a = Opened.application eight})

eight_accepted : Accepted eight_text eight_tree
unfolding eight_text
eight_accepted = record {
  short = omega arith;
  utf8 = IsUtf8-from_ascii eight_text (ascii_at eight_text refl);
  spelled = eight_spells;
  shallow = omega arith;
}

pub eight_is : IsApplication eight_text eight
eight_is = (eight_tree, eight_accepted, eight_opens)
