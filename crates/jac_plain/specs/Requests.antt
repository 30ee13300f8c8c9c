-- The page of a request, the state after it, and the worlds of a run.
use Rattle.std.specs.Prelude.{ℕ, ◌+◌, ◌&&◌, nat_le, Bool, true, false, if◌then◌else◌, List, [], ◌∷◌, ◌++◌, slice_get, Option, Some, None}
use Rattle.std.specs.List.{flat_map}
use Rattle.percent_encoding.specs.Percent.{percent_encode_byte}
use Rattle.jac_lang.specs.declared.bindings.Binding.{Binding}
use Rattle.jac_lang.specs.declared.pages.Verb.{Verb}
use Rattle.jac_lang.specs.declared.pages.Verb.TheVariants as verbs
use Rattle.jac_lang.specs.Syntax.{Application, Page as View, Statements}
use Rattle.jac_rows.specs.declared.plain.PlainState.{PlainState}
use Rattle.jac_plain.specs.Statements.{Setting, Run, leaves_all}
use Rattle.jac_plain.specs.declared.page.Page.{Page}
use Rattle.jac_plain.specs.declared.page.Piece.{Piece}
use Rattle.jac_plain.specs.declared.page.Piece.TheVariants as piece

-- A location, after each byte that isn't visible ASCII is escaped.
abbrev pub location : List ℕ → List ℕ
location bytes = flat_map (λ b. if nat_le 0x21 b && nat_le b 0x7E then b ∷ []
    else percent_encode_byte b) bytes

abbrev pub body_of : List Piece → List ℕ
body_of [] = []
body_of (piece.Added bytes ∷ pieces) = bytes ++ body_of pieces
body_of (piece.Missing ∷ pieces) = body_of pieces
body_of (piece.Redirect to ∷ pieces) = body_of pieces

abbrev pub is_missing : List Piece → Bool
is_missing [] = false
is_missing (piece.Added bytes ∷ pieces) = is_missing pieces
is_missing (piece.Missing ∷ pieces) = true
is_missing (piece.Redirect to ∷ pieces) = is_missing pieces

-- The last redirect. If there is none, the given one.
abbrev pub redirect_of : Option (List ℕ) → List Piece → Option (List ℕ)
redirect_of to [] = to
redirect_of to (piece.Added bytes ∷ pieces) = redirect_of to pieces
redirect_of to (piece.Missing ∷ pieces) = redirect_of to pieces
redirect_of to (piece.Redirect next ∷ pieces) = redirect_of (Some (location next)) pieces

abbrev pub found_page : Option (List ℕ) → List ℕ → Page
found_page None body = record { status = 200; location = None; body = body }
found_page (Some to) body = record { status = 303; location = Some to; body = body }

-- The page with this redirect and body. It is a 404 page if `missing` is true.
abbrev pub page_by : Bool → Option (List ℕ) → List ℕ → Page
page_by missing to body = if missing then record { status = 404; location = None; body = body }
    else found_page to body

-- The page of the pieces. It has no location if `missing` ran.
abbrev pub page_of : List Piece → Page
page_of pieces =
    if is_missing pieces then record { status = 404; location = None; body = body_of pieces }
    else found_page (redirect_of None pieces) (body_of pieces)

-- A request: the place of its view, its bindings, and the viewer.
pub record Visit : Type 0 where
  pub view : ℕ
  pub env : List Binding
  pub viewer : Option ℕ

abbrev pub body_in : Option View → Statements
body_in None = Statements.none
body_in (Some v) = v.body

abbrev pub method_in : Option View → Verb
method_in None = verbs.Get
method_in (Some v) = v.method

abbrev pub setting_of : (ℕ → Bool) → Application → PlainState → Visit → Setting
setting_of w app t visit = record {
  models = app.models;
  shown = w;
  viewer = visit.viewer;
  number = t.number;
  around = None;
}

-- The run of the view's statements on a state, under the labels that are shown.
abbrev pub run_of : (ℕ → Bool) → Application → PlainState → Visit → Run
run_of w app t visit =
    leaves_all (setting_of w app t visit) (body_in (slice_get app.views visit.view))
    (record { tables = t.tables; env = visit.env; pieces = [] })

-- The page of a request on a state.
abbrev pub page : (ℕ → Bool) → Application → PlainState → Visit → Page
page w app t visit = page_of (run_of w app t visit).pieces

abbrev pub after_by : Verb → (ℕ → Bool) → Application → PlainState → Visit → PlainState
after_by verbs.Get w app t visit = t
after_by verbs.Post w app t visit = record {
  tables = (run_of w app t visit).tables;
  number = t.number + 1;
}

-- The state after a request that has a page. A GET doesn't change the state. A POST leaves the
-- tables of the run, and the number increases by 1.
abbrev pub after : (ℕ → Bool) → Application → PlainState → Visit → PlainState
after w app t visit = after_by (method_in (slice_get app.views visit.view)) w app t visit

-- A state for each assignment.
abbrev pub Worlds : Type 0
Worlds = (ℕ → Bool) → PlainState
