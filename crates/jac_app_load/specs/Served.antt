-- Which applications are served: none of their views has a template, a GET writes nothing, and each
-- `create` of a POST has a site of its own and is in a place where it is allowed.
use Rattle.std.specs.Prelude.{◌≡◌, ◌≤◌, ℕ, ◌+◌, ◌&&◌, nat_le, nat_lt, length, Bool, true, false, if◌then◌else◌, List, [], ◌∷◌, Option, Some, None, is_some}
use Rattle.std.specs.List.{range_with_len}
use Rattle.jac_lang.specs.declared.pages.Verb.{Verb}
use Rattle.jac_lang.specs.declared.pages.Verb.TheVariants as verbs
use Rattle.jac_lang.specs.Loops.{Loops, are_placed}
use Rattle.jac_lang.specs.Syntax.{Entity, Statement, Statements, Page, Application}
use Rattle.jac_lang.specs.Written.{sites}
use Rattle.jac_plain.specs.Reading.{are_reading}
use Rattle.jac_lang.specs.Untemplated.{are_untemplated}

-- The number after the last site, if the sites rise from this one on and are below 64.
abbrev pub behind_sites : ℕ → List ℕ → Option ℕ
behind_sites next [] = Some next
behind_sites next (site ∷ rest) = if nat_le next site && nat_lt site 64
    then behind_sites (site + 1) rest else None

-- Each create has a site of its own, one of 64, and a permitted place. A nested model is created in
-- one loop over one binder, and any other outside of loops.
abbrev pub have_own_sites : List Entity → Statements → Bool
have_own_sites models body = is_some (behind_sites 0 (sites body)) && are_placed models Loops.none
    body

-- A GET writes nothing. In both methods, templates are expanded.
abbrev pub is_served_body : List Entity → Verb → Statements → Bool
is_served_body models verbs.Get body = are_untemplated body && are_reading body
is_served_body models verbs.Post body = are_untemplated body && have_own_sites models body

abbrev pub is_served_view : List Entity → Page → Bool
is_served_view models v = is_served_body models v.method v.body

abbrev pub are_served_views : List Entity → List Page → Bool
are_served_views models [] = true
are_served_views models (v ∷ vs) = is_served_view models v && are_served_views models vs

-- The body of every view is served.
abbrev pub are_served : Application → Bool
are_served app = are_served_views app.models app.views

-- The sites of a view are 0, 1, 2 and so on. There are at most 64.
pub record IsSited (v : Page) : Type 0 where
  pub few : length (sites v.body) ≤ 64
  pub in_order : sites v.body ≡ range_with_len 0 (length (sites v.body))
