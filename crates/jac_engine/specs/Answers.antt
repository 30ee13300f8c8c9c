-- The answer to a request: the ordinary interpreter's page, or a refusal.
use Rattle.std.specs.Prelude.{◌≡◌, ℕ, ◌<◌, ◌^◌, ◌⊎◌, ◌++◌, Bool, true, false, Option, Some, None, List, [], codes, slice_get}
use Rattle.jac_world.specs.World.{shown_by, IsAscending}
use Rattle.jac_lang.specs.declared.field_kinds.Field.{Field}
use Rattle.jac_lang.specs.declared.pages.Verb.{Verb}
use Rattle.jac_lang.specs.declared.pages.Verb.TheVariants as verbs
use Rattle.jac_lang.specs.Syntax.{Page as View, Application}
use Rattle.jac_rows.specs.declared.plain.PlainState.{PlainState}
use Rattle.jac_plain.specs.declared.page.Page.{Page}
use Rattle.jac_plain.specs.declared.page.Piece.{Piece}
use Rattle.jac_plain.specs.Policies.{IsSettled}
use Rattle.jac_plain.specs.Requests.{Visit, Worlds, method_in, page_of, page, after}
use Rattle.jac_shown_rows.specs.Consulted.{Agrees}
use Rattle.jac_lazy.specs.Steady.{IsSteady}
use Rattle.jac_route.specs.Found.{found}
use Rattle.jac_route.specs.Parameters.{parameters}
use Rattle.jac_route.specs.declared.lookup.Found.{Found}
use Rattle.jac_route.specs.declared.lookup.Found.TheVariants as founds
use Rattle.jac_route.specs.declared.pairs.Pair.{Pair}
use Rattle.jac_replies.specs.declared.answer.Answer.{Answer}
use Rattle.jac_replies.specs.declared.answer.Ask.{Ask}
use Rattle.jac_replies.specs.Refused.{refusal}

-- A page, made under these labels.
abbrev pub page_answer : List ℕ → Page → Answer
page_answer labels p = record {
  status = p.status;
  location = p.location;
  allow = None;
  body = p.body;
  shown = Some labels;
  consulted = None;
}

-- The same for a page for which no labels were resolved except the consulted ones.
abbrev pub lazy_answer : List ℕ → List ℕ → Page → Answer
lazy_answer labels consulted p = record (page_answer labels p) { consulted = Some consulted }

abbrev pub params_in : Option View → List Field
params_in None = []
params_in (Some v) = v.params

-- The request with the pairs of its path before its own.
abbrev pub asked_with : List Pair → Ask → Ask
asked_with pairs ask = record ask { pairs = pairs ++ ask.pairs }

-- The `Allow` text of a path, by whether it has a view for GET and one for POST.
abbrev pub allow_text : Bool → Bool → List ℕ
allow_text true true = codes "GET, HEAD, POST"
allow_text true false = codes "GET, HEAD"
allow_text false post = codes "POST"

-- The request as the ordinary interpreter takes it: the place of its view, its parameters and the
-- viewer.
abbrev pub visit_of : Application → Ask → ℕ → Visit
visit_of app ask n = record {
  view = n;
  env = parameters app.models (params_in (slice_get app.views n)) ask.pairs;
  viewer = ask.viewer;
}

-- A page under its labels. It is the interpreter's, in the world before the request that the labels
-- show. The labels are settled for the viewer in the worlds after the request.
pub record IsPage (app : Application) (before after : Worlds) (visit : Visit)
    (answer : Answer) : Type 0 where
  pub labels : List ℕ
  pub made : answer ≡ page_answer labels (page (shown_by labels) app (before
      (shown_by labels)) visit)
  pub settled : IsSettled app after visit.viewer labels

-- A page for which only the labels were resolved that it and their policies consulted. The labels
-- are steady for the viewer, and the page is the interpreter's, whatever is shown besides what was
-- consulted.
pub record IsLazyPage
    (app : Application) (worlds : Worlds) (visit : Visit) (answer : Answer) : Type 0 where
  pub labels : List ℕ
  pub consulted : List ℕ
  pub steady : IsSteady app worlds visit.viewer consulted labels
  pub made : (w : ℕ → Bool) → Agrees consulted (shown_by labels) w
      → answer ≡ lazy_answer labels consulted (page w app (worlds w) visit)

-- A GET's page. The flag says that only what is consulted is resolved.
abbrev pub IsShownPage : Bool → Application → Worlds → Visit → Answer → Type 0
IsShownPage false app worlds visit answer = IsPage app worlds worlds visit answer
IsShownPage true app worlds visit answer = IsLazyPage app worlds visit answer

abbrev pub worlds_after : Application → Worlds → Visit → Worlds
worlds_after app worlds visit w = after w app (worlds w) visit

-- No number is left, in any world.
abbrev pub HasNoNumber : Worlds → Type 0
HasNoNumber worlds = (w : ℕ → Bool) → (worlds w).number ≡ 2 ^ 40

abbrev pub HasNextNumber : Worlds → Type 0
HasNextNumber worlds = (w : ℕ → Bool) → (worlds w).number < 2 ^ 40

-- The page of a GET; or the page of a POST while there are numbers left, and otherwise its refusal.
abbrev pub IsAnswerOf : Bool → Verb → Application → Worlds → Visit → Answer → Type 0
IsAnswerOf lazy verbs.Get app worlds visit answer = IsShownPage lazy app worlds visit answer
IsAnswerOf lazy verbs.Post app worlds visit answer =
    ((answer ≡ refusal 507 None) × HasNoNumber worlds)
    ⊎ (HasNextNumber worlds × IsPage app worlds (worlds_after app worlds visit) visit answer)

-- The answer, by what the request finds.
abbrev pub IsAnswerBy : Bool → Found → Application → Worlds → Ask → Answer → Type 0
IsAnswerBy lazy founds.NoRoute app worlds ask answer = answer ≡ refusal 404 None
IsAnswerBy lazy (founds.WrongMethod allow) app worlds ask answer =
    answer ≡ refusal 405 (Some (allow_text allow.get allow.post))
IsAnswerBy lazy (founds.View n pairs) app worlds ask answer =
    IsAnswerOf lazy (method_in (slice_get app.views n)) app worlds
    (visit_of app (asked_with pairs ask) n) answer

-- The answer to a request in these worlds.
abbrev pub IsAnswerTo : Bool → Application → Worlds → Ask → Answer → Type 0
IsAnswerTo lazy app worlds ask answer =
    IsAnswerBy lazy (found app ask.method ask.path) app worlds ask answer

-- A page that some run made.
pub record IsSomePage (answer : Answer) : Type 0 where
  pub labels : List ℕ
  pub pieces : List Piece
  pub made : answer ≡ page_answer labels (page_of pieces)
  pub ascending : IsAscending labels

-- A page that some run made, for which no labels were resolved except the consulted ones.
pub record IsSomeLazyPage (answer : Answer) : Type 0 where
  pub labels : List ℕ
  pub consulted : List ℕ
  pub pieces : List Piece
  pub made : answer ≡ lazy_answer labels consulted (page_of pieces)
  pub ascending : IsAscending labels
  pub rising : IsAscending consulted

abbrev pub IsSomeShownPage : Bool → Answer → Type 0
IsSomeShownPage false answer = IsSomePage answer
IsSomeShownPage true answer = IsSomeLazyPage answer

abbrev pub HasFormOf : Bool → Verb → Answer → Type 0
HasFormOf lazy verbs.Get answer = IsSomeShownPage lazy answer
HasFormOf lazy verbs.Post answer = (answer ≡ refusal 507 None) ⊎ IsSomePage answer

abbrev pub HasFormBy : Bool → Found → Application → Answer → Type 0
HasFormBy lazy founds.NoRoute app answer = answer ≡ refusal 404 None
HasFormBy lazy (founds.WrongMethod allow) app answer =
    answer ≡ refusal 405 (Some (allow_text allow.get allow.post))
HasFormBy lazy (founds.View n pairs) app answer =
    HasFormOf lazy (method_in (slice_get app.views n)) answer

-- What is known of an answer without any world: a refusal has its cause, and a page was made by
-- some run.
abbrev pub HasForm : Bool → Application → Ask → Answer → Type 0
HasForm lazy app ask answer = HasFormBy lazy (found app ask.method ask.path) app answer

abbrev pub left_by : Found → (ℕ → Bool) → Application → Ask → Option (List ℕ)
    → PlainState → PlainState
left_by founds.NoRoute w app ask shown t = t
left_by (founds.WrongMethod allow) w app ask shown t = t
left_by (founds.View n pairs) w app ask None t = t
left_by (founds.View n pairs) w app ask (Some labels) t =
    after w app t (visit_of app (asked_with pairs ask) n)

-- What an answer leaves of the world of an assignment: if the answer is a page, what its view
-- leaves, and otherwise the same world.
abbrev pub world_left : (ℕ → Bool) → Application → Ask → Answer → PlainState → PlainState
world_left w app ask answer t = left_by (found app ask.method ask.path) w app ask answer.shown t

abbrev pub is_post : Verb → Bool
is_post verbs.Get = false
is_post verbs.Post = true

abbrev pub is_stored_by : Found → Application → Option (List ℕ) → Bool
is_stored_by founds.NoRoute app shown = false
is_stored_by (founds.WrongMethod allow) app shown = false
is_stored_by (founds.View n pairs) app None = false
is_stored_by (founds.View n pairs) app (Some labels) = is_post (method_in (slice_get app.views n))

-- Whether a change comes with the answer, as it does with the page of a POST.
abbrev pub is_stored : Application → Ask → Answer → Bool
is_stored app ask answer = is_stored_by (found app ask.method ask.path) app answer.shown

abbrev pub stores_by : Found → Application → Bool
stores_by founds.NoRoute app = false
stores_by (founds.WrongMethod allow) app = false
stores_by (founds.View n pairs) app = is_post (method_in (slice_get app.views n))

-- Whether the request finds a view that stores.
abbrev pub stores : Application → Ask → Bool
stores app ask = stores_by (found app ask.method ask.path) app
