-- What requests find among the views of the served diary.
use Rattle.std.proofs.Common.{◌≡◌, refl, sym, ap, subst, ℕ, true, false, Bool, List, [], ◌∷◌, codes}
use Rattle.std.specs.Str.{is_utf8, chars}
use Rattle.std.specs.Str.Lossy.{utf8_lossy, utf8_valid_len}
use lib.Utf8.{encode}
use Rattle.percent_encoding.specs.Percent.{percent_decode}
use Rattle.matchit.specs.Route.{scan}
use Rattle.matchit.specs.Seek.{seek, param_step}
use Rattle.jac_plain.specs.Requests.{Worlds}
use Rattle.jac_route.specs.Found.{found}
use Rattle.jac_route.specs.PathPairs.{part_text}
use Rattle.jac_route.specs.declared.lookup.Found.{Found}
use Rattle.jac_route.specs.declared.lookup.Found.TheVariants as founds
use Rattle.jac_route.specs.declared.pairs.Pair.{Pair}
use Rattle.jac_replies.specs.declared.answer.Answer.{Answer}
use Rattle.jac_replies.specs.declared.answer.Ask.{Ask}
use Rattle.jac_engine.specs.Answers.{IsAnswerBy, IsAnswerTo, HasForm, HasFormBy}
use Rattle.jac_answer_examples.specs.Served.{served_diary}

-- The parameter in the path.
abbrev pub path_pair : List Pair
path_pair = record { name = codes "e"; value = codes "8194" } ∷ []

number_read : part_text (codes "8194") ≡ codes "8194"
unfolding percent_decode utf8_lossy utf8_valid_len is_utf8 chars encode
number_read = refl

-- The view at this place is found, whatever number the path has.
viewed : (n : ℕ) → founds.View n (record { name = codes "e"; value = part_text (codes "8194") } ∷ []) ≡ founds.View n path_pair
viewed n = ap (λ (v : List ℕ). founds.View n (record { name = codes "e"; value = v } ∷ [])) number_read

pub event_get : found served_diary (codes "GET") (codes "/events/8194") ≡ founds.View 0 path_pair
unfolding scan seek param_step
event_get = viewed 0

pub event_head : found served_diary (codes "HEAD") (codes "/events/8194") ≡ founds.View 0 path_pair
unfolding scan seek param_step
event_head = viewed 0

pub event_post : found served_diary (codes "POST") (codes "/events/8194") ≡ founds.View 1 path_pair
unfolding scan seek param_step
event_post = viewed 1

pub event_put : found served_diary (codes "PUT") (codes "/events/8194") ≡ founds.WrongMethod (record { get = true; post = true })
unfolding scan seek param_step
event_put = refl

pub place_get : found served_diary (codes "GET") (codes "/places/8194") ≡ founds.View 2 path_pair
unfolding scan seek param_step
place_get = viewed 2

pub place_post : found served_diary (codes "POST") (codes "/places/8194") ≡ founds.WrongMethod (record { get = true; post = false })
unfolding scan seek param_step
place_post = refl

pub away_post : found served_diary (codes "POST") (codes "/away") ≡ founds.View 3 []
unfolding scan seek param_step
away_post = refl

pub away_get : found served_diary (codes "GET") (codes "/away") ≡ founds.WrongMethod (record { get = false; post = true })
unfolding scan seek param_step
away_get = refl

pub events_get : found served_diary (codes "GET") (codes "/events") ≡ founds.NoRoute
unfolding scan seek param_step
events_get = refl

pub events_post : found served_diary (codes "POST") (codes "/events") ≡ founds.NoRoute
unfolding scan seek param_step
events_post = refl

-- An answer by what the request finds.

pub answers : (lazy : Bool) (worlds : Worlds) (ask : Ask) (answer : Answer) (f : Found) → found served_diary ask.method ask.path ≡ f
    → IsAnswerBy lazy f served_diary worlds ask answer → IsAnswerTo lazy served_diary worlds ask answer
answers lazy worlds ask answer f e = subst (λ (g : Found). IsAnswerBy lazy g served_diary worlds ask answer) (sym e)

pub answered : (lazy : Bool) (worlds : Worlds) (ask : Ask) (answer : Answer) (f : Found) → found served_diary ask.method ask.path ≡ f
    → IsAnswerTo lazy served_diary worlds ask answer → IsAnswerBy lazy f served_diary worlds ask answer
answered lazy worlds ask answer f e = subst (λ (g : Found). IsAnswerBy lazy g served_diary worlds ask answer) e

pub formed : (lazy : Bool) (ask : Ask) (answer : Answer) (f : Found) → found served_diary ask.method ask.path ≡ f
    → HasFormBy lazy f served_diary answer → HasForm lazy served_diary ask answer
formed lazy ask answer f e = subst (λ (g : Found). HasFormBy lazy g served_diary answer) (sym e)

pub has_form : (lazy : Bool) (ask : Ask) (answer : Answer) (f : Found) → found served_diary ask.method ask.path ≡ f
    → HasForm lazy served_diary ask answer → HasFormBy lazy f served_diary answer
has_form lazy ask answer f e = subst (λ (g : Found). HasFormBy lazy g served_diary answer) e
