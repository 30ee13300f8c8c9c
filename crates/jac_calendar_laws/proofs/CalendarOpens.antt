-- The calendar's text spells an application.
use Rattle.std.proofs.Common.{refl, [], Option, None, Some, arith}
use Rattle.std.proofs.lemmas.Str.{IsUtf8-from_ascii}
use Rattle.jac_demo.specs.Calendar.{calendar_text}
use Rattle.jac_lang.specs.Syntax.{Application}
use Rattle.jac_tree.specs.Grammar.{skip, Spells, Accepted}
use Rattle.jac_tree.specs.Plain.{PlainTree, PlainTrees}
use Rattle.jac_forms.specs.Applications.{application_in_tree}
use Rattle.jac_forms.specs.Reads.{Read, got, refused}
use Rattle.jac_template.specs.Applications.{Expanded, ExpandsApplication}
use Rattle.matchit.specs.Route.{scan}
use Rattle.jac_app_load.specs.Application.{Opened, Opens, IsApplication}
use Rattle.jac_calendar_laws.proofs.AskingLemmas.{ascii_at}
use Rattle.jac_calendar_laws.proofs.ReadTexts.{Front, front, tree_at, is_tree}

-- Reads the whole calendar. 100 steps are enough.
abbrev pub read_calendar : Option (Front PlainTree)
read_calendar = tree_at 100 (skip calendar_text)

abbrev pub read_or_none : Option (Front PlainTree) → Front PlainTree
read_or_none None = front (PlainTree.list PlainTrees.none) []
read_or_none (Some f) = f

abbrev pub calendar_tree : PlainTree
calendar_tree = (read_or_none read_calendar).what

abbrev pub application_or_none : Read Application → Application
application_or_none (got app) = app
application_or_none (refused fault) = record { viewer = None; models = []; views = [] }

-- The application of the calendar's text.
abbrev pub calendar : Application
calendar = application_or_none (application_in_tree [] calendar_tree)

calendar_spells : Spells calendar_text calendar_tree
unfolding calendar_text
calendar_spells = ((read_or_none read_calendar).behind, is_tree 100 (skip calendar_text), refl)

calendar_expands : ExpandsApplication calendar (Expanded.application calendar)
unfolding calendar_text
calendar_expands = (
  _,
  (
    _,
    _,
    (_, (_, _, (_, (_, _, refl, refl, refl), refl), refl, refl), refl),
    (
      _,
      _,
      (_, (_, _, (_, (_, _, refl, refl, refl), refl), refl, refl), refl),
      (_, _, (_, (_, _, (_, (_, _, refl, (_, _, refl, refl, refl), refl), refl), refl, refl), refl), refl, refl),
      refl,
    ),
    refl,
  ),
  refl,
)

pub calendar_opens : Opens calendar_tree (Opened.application calendar)
unfolding calendar_text scan
calendar_opens = (Expanded.application calendar, calendar_expands, refl {a = Opened.application calendar})

calendar_accepted : Accepted calendar_text calendar_tree
unfolding calendar_text
calendar_accepted = record {
  short = omega arith;
  utf8 = IsUtf8-from_ascii calendar_text (ascii_at calendar_text refl);
  spelled = calendar_spells;
  shallow = omega arith;
}

pub calendar_is : IsApplication calendar_text calendar
calendar_is = (calendar_tree, calendar_accepted, calendar_opens)
