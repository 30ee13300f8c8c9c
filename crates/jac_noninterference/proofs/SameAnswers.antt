-- Two answers to the same request, in worlds that are the same under an assignment.
use Rattle.std.proofs.Common.{◌≡◌, ◌∙◌, ap, sym, refl, inl, inr, ◌⊎◌, ℕ, ◌<◌, ◌^◌, Bool, true, false, Option, Some, None, is_some, List, arith, slice_get}
use Rattle.jac_world.specs.World.{shown_by}
use Rattle.jac_lang.specs.declared.pages.Verb.{Verb}
use Rattle.jac_lang.specs.declared.pages.Verb.TheVariants as verbs
use Rattle.jac_lang.specs.Syntax.{Application}
use Rattle.jac_rows.specs.declared.plain.PlainState.{PlainState}
use Rattle.jac_plain.specs.Requests.{Visit, Worlds, method_in, page, after}
use Rattle.jac_route.specs.Found.{found}
use Rattle.jac_route.specs.declared.lookup.Found.{Found}
use Rattle.jac_route.specs.declared.lookup.Found.TheVariants as founds
use Rattle.jac_route.specs.declared.pairs.Pair.{Pair}
use Rattle.jac_engine.specs.Answers.{IsShownPage, IsAnswerOf, IsAnswerBy, asked_with, visit_of, page_answer, left_by}
use Rattle.jac_replies.specs.Refused.{refusal}
use Rattle.jac_replies.specs.declared.answer.Answer.{Answer}
use Rattle.jac_replies.specs.declared.answer.Ask.{Ask}
use Rattle.jac_replies.specs.declared.reply.Spelling.{Spelling}
use Rattle.jac_hub.specs.Hearing.{Source, asked, connection, whole, refused, broken}
use Rattle.jac_serve_events.specs.AnswerSpec.{LogSubject, is_failure}
use Rattle.jac_serve_events.specs.Log.{reply_on}
use Rattle.jac_dispatch.specs.Log.{HasFailed, IsAnswer, left_of, refused_with}
use Rattle.jac_noninterference.specs.TwoRuns.{seen_answer}
use Rattle.jac_noninterference.proofs.SameSubjects.{IsLegible}

-- The seen part of the answer is the page that the interpreter makes under some labels.
abbrev pub IsPageIn : Application → Worlds → Visit → Answer → Type 0
IsPageIn app worlds visit answer =
    (labels : List ℕ) × (seen_answer answer ≡ page_answer labels (page (shown_by labels) app (worlds (shown_by labels)) visit))

-- A view answers with a page, or with the refusal that numbers are used up.
abbrev pub IsPagedOr : Application → Worlds → Visit → Answer → Type 0
IsPagedOr app worlds visit answer = IsPageIn app worlds visit answer ⊎ (answer ≡ refusal 507 None)

-- A page that resolved only what it consults is the page under the labels that it shows.
shown_page : (lazy : Bool) (app : Application) (worlds : Worlds) (visit : Visit) (answer : Answer)
    → IsShownPage lazy app worlds visit answer → IsPageIn app worlds visit answer
shown_page false app worlds visit answer p = (p.labels, ap seen_answer p.made)
shown_page true app worlds visit answer p =
    (p.labels, ap seen_answer (p.made (shown_by p.labels) (record { each = λ k h. refl })))

paged_or : (lazy : Bool) (v : Verb) (app : Application) (worlds : Worlds) (visit : Visit) (answer : Answer)
    → IsAnswerOf lazy v app worlds visit answer → IsPagedOr app worlds visit answer
paged_or lazy verbs.Get app worlds visit answer p = inl (shown_page lazy app worlds visit answer p)
paged_or lazy verbs.Post app worlds visit answer (inl (is, none)) = inr is
paged_or lazy verbs.Post app worlds visit answer (inr (some, p)) = inl (p.labels, ap seen_answer p.made)

-- If one of the worlds is the same, both answers are pages or both are the refusal.
pub data ByAnswers (app : Application) (worlds worlds' : Worlds) (visit : Visit) (one two : Answer) : Type 0 where
  pages : IsPageIn app worlds visit one → IsPageIn app worlds' visit two → ByAnswers app worlds worlds' visit one two
  full : (one ≡ refusal 507 None) → (two ≡ refusal 507 None) → ByAnswers app worlds worlds' visit one two

no_room : (n m : ℕ) → n ≡ m → n ≡ 2 ^ 40 → m < 2 ^ 40 → ⊥
no_room n m same is less = omega (arith, same, is, less)

-- Each world determines whether numbers are used up.
by_verb : (lazy lazy' : Bool) (v : Verb) (w : ℕ → Bool) (app : Application) (worlds worlds' : Worlds) (visit : Visit) (one two : Answer) → worlds w ≡ worlds' w
    → IsAnswerOf lazy v app worlds visit one → IsAnswerOf lazy' v app worlds' visit two → ByAnswers app worlds worlds' visit one two
by_verb lazy lazy' verbs.Get w app worlds worlds' visit one two same p p' =
    pages (shown_page lazy app worlds visit one p) (shown_page lazy' app worlds' visit two p')
by_verb lazy lazy' verbs.Post w app worlds worlds' visit one two same (inl (is, none)) (inl (is', none')) = full is is'
by_verb lazy lazy' verbs.Post w app worlds worlds' visit one two same (inl (is, none)) (inr (some, p')) =
    absurd (no_room (worlds w).number (worlds' w).number (ap (λ (t : PlainState). t.number) same) (none w) (some w))
by_verb lazy lazy' verbs.Post w app worlds worlds' visit one two same (inr (some, p)) (inl (is', none')) =
    absurd (no_room (worlds' w).number (worlds w).number (sym (ap (λ (t : PlainState). t.number) same)) (none' w) (some w))
by_verb lazy lazy' verbs.Post w app worlds worlds' visit one two same (inr (some, p)) (inr (some', p')) =
    pages (p.labels, ap seen_answer p.made) (p'.labels, ap seen_answer p'.made)

-- ---- failures

pub no_failure : (answer : Answer) → is_failure answer ≡ false → HasFailed answer → ⊥
no_failure answer stands (inl is) = let no : true ≡ false = sym (ap is_failure is) ∙ stands in cc
no_failure answer stands (inr is) = let no : true ≡ false = sym (ap is_failure is) ∙ stands in cc

pub no_memory : (answer : Answer) → is_failure answer ≡ false → answer ≡ refusal 500 None → ⊥
no_memory answer stands is = no_failure answer stands (inl is)

-- The subject of an entry that didn't fail was read.
pub legible : (lazy : Bool) (app : Application) (worlds : Worlds) (subject : LogSubject) (answer : Answer)
    → IsAnswer lazy app worlds subject answer → is_failure answer ≡ false → IsLegible subject
legible lazy app worlds (whole ask closes) answer is stands = tt
legible lazy app worlds (refused status) answer is stands = tt
legible lazy app worlds broken answer is stands = no_memory answer stands is

-- ---- what answers leave of a world that is the same

-- Both have a page or neither has, and they leave the same world.
pub record LeaveAlike (shown_by shown' : Option (List ℕ)) (t u : PlainState) : Type 0 where
  pub page : is_some shown_by ≡ is_some shown'
  pub left : t ≡ u

left_page : (n : ℕ) (pairs : List Pair) (w : ℕ → Bool) (app : Application) (ask : Ask) (answer : Answer) (worlds : Worlds) (t : PlainState)
    → IsPageIn app worlds (visit_of app (asked_with pairs ask) n) answer → left_by (founds.View n pairs) w app ask answer.shown t ≡ after w app t (visit_of app (asked_with pairs ask) n)
left_page n pairs w app ask answer worlds t (labels, made) =
    ap (λ (a : Answer). left_by (founds.View n pairs) w app ask a.shown t) made

left_full : (n : ℕ) (pairs : List Pair) (w : ℕ → Bool) (app : Application) (ask : Ask) (answer : Answer) (t : PlainState)
    → answer ≡ refusal 507 None → left_by (founds.View n pairs) w app ask answer.shown t ≡ t
left_full n pairs w app ask answer t is = ap (λ (a : Answer). left_by (founds.View n pairs) w app ask a.shown t) is

left_view : (n : ℕ) (pairs : List Pair) (w : ℕ → Bool) (app : Application) (ask : Ask) (worlds worlds' : Worlds) (one two : Answer) (t u : PlainState) → t ≡ u
    → ByAnswers app worlds worlds' (visit_of app (asked_with pairs ask) n) one two
    → LeaveAlike one.shown two.shown (left_by (founds.View n pairs) w app ask one.shown t) (left_by (founds.View n pairs) w app ask two.shown u)
left_view n pairs w app ask worlds worlds' one two t u same (pages p p') = record {
  page = ap (λ (a : Answer). is_some a.shown) p.1 ∙ sym (ap (λ (a : Answer). is_some a.shown) p'.1);
  left = left_page n pairs w app ask one worlds t p
      ∙ ap (λ (s : PlainState). after w app s (visit_of app (asked_with pairs ask) n)) same
      ∙ sym (left_page n pairs w app ask two worlds' u p');
}
left_view n pairs w app ask worlds worlds' one two t u same (full is is') = record {
  page = ap (λ (a : Answer). is_some a.shown) is ∙ sym (ap (λ (a : Answer). is_some a.shown) is');
  left = left_full n pairs w app ask one t is ∙ same ∙ sym (left_full n pairs w app ask two u is');
}

left_found : (lazy lazy' : Bool) (f : Found) (w : ℕ → Bool) (app : Application) (ask : Ask) (worlds worlds' : Worlds) (one two : Answer) → worlds w ≡ worlds' w
    → IsAnswerBy lazy f app worlds ask one → IsAnswerBy lazy' f app worlds' ask two
    → LeaveAlike one.shown two.shown (left_by f w app ask one.shown (worlds w)) (left_by f w app ask two.shown (worlds' w))
left_found lazy lazy' founds.NoRoute w app ask worlds worlds' one two same is is' = record { page = ap (λ (a : Answer). is_some a.shown) (is ∙ sym is'); left = same }
left_found lazy lazy' (founds.WrongMethod allow) w app ask worlds worlds' one two same is is' = record { page = ap (λ (a : Answer). is_some a.shown) (is ∙ sym is'); left = same }
left_found lazy lazy' (founds.View n pairs) w app ask worlds worlds' one two same is is' =
    left_view n pairs w app ask worlds worlds' one two (worlds w) (worlds' w) same
    (by_verb lazy lazy' (method_in (slice_get app.views n)) w app worlds worlds' (visit_of app (asked_with pairs ask) n) one two same is is')

-- A refused request is answered with its status, in every world.
pub refused_same : (status : ℕ) (one two : Answer) → (one ≡ refusal 500 None) ⊎ (one ≡ refused_with status) → (two ≡ refusal 500 None) ⊎ (two ≡ refused_with status)
    → is_failure one ≡ false → is_failure two ≡ false → one ≡ two
refused_same status one two (inl failed) is' stands stands' = absurd (no_memory one stands failed)
refused_same status one two (inr is) (inl failed) stands stands' = absurd (no_memory two stands' failed)
refused_same status one two (inr is) (inr is') stands stands' = is ∙ sym is'

-- Answers to the same request leave the same world.
pub left_same : (lazy lazy' : Bool) (w : ℕ → Bool) (app : Application) (worlds worlds' : Worlds) (subject : LogSubject) (one two : Answer) → worlds w ≡ worlds' w
    → IsAnswer lazy app worlds subject one → IsAnswer lazy' app worlds' subject two → is_failure one ≡ false → is_failure two ≡ false
    → LeaveAlike one.shown two.shown (left_of w app subject one (worlds w)) (left_of w app subject two (worlds' w))
left_same lazy lazy' w app worlds worlds' (whole ask closes) one two same (inl failed) is' stands stands' = absurd (no_failure one stands failed)
left_same lazy lazy' w app worlds worlds' (whole ask closes) one two same (inr is) (inl failed) stands stands' = absurd (no_failure two stands' failed)
left_same lazy lazy' w app worlds worlds' (whole ask closes) one two same (inr is) (inr is') stands stands' =
    left_found lazy lazy' (found app ask.method ask.path) w app ask worlds worlds' one two same is is'
left_same lazy lazy' w app worlds worlds' (refused status) one two same is is' stands stands' =
    record { page = ap (λ (a : Answer). is_some a.shown) (refused_same status one two is is' stands stands'); left = same }
left_same lazy lazy' w app worlds worlds' broken one two same is is' stands stands' = absurd (no_memory one stands is)

-- ---- answers that show the same

-- The written bytes don't depend on the consulted labels.
pub seen_put : (spelling : Spelling) (source : Source) (subject : LogSubject) (answer : Answer)
    → reply_on spelling source subject (seen_answer answer) ≡ reply_on spelling source subject answer
seen_put spelling asked subject answer = refl
seen_put spelling (connection c) (whole ask closes) answer = refl
seen_put spelling (connection c) (refused status) answer = refl
seen_put spelling (connection c) broken answer = refl

-- The answers look equal if they have no page. They also look equal if both pages were made under
-- labels that show the same world in both runs.
pub record LookAlike (worlds worlds' : Worlds) (one two : Answer) : Type 0 where
  pub refusal : one.shown ≡ None → two.shown ≡ None → seen_answer one ≡ seen_answer two
  pub page :
      (labels : List ℕ) → worlds (shown_by labels) ≡ worlds' (shown_by labels)
      → one.shown ≡ Some labels → two.shown ≡ Some labels → seen_answer one ≡ seen_answer two

look_equal : (worlds worlds' : Worlds) (one two : Answer) → one ≡ two → LookAlike worlds worlds' one two
look_equal worlds worlds' one two same = record {
  refusal = λ none none'. ap seen_answer same;
  page = λ labels alike on on'. ap seen_answer same;
}

some_none : (labels : List ℕ) → Some labels ≡ None → ⊥
some_none labels e = cc

none_some : (labels : List ℕ) → None ≡ Some labels → ⊥
none_some labels e = cc

one_list : (labels other : List ℕ) → Some labels ≡ Some other → labels ≡ other
one_list labels other e = cc

pub page_has : (app : Application) (worlds : Worlds) (visit : Visit) (answer : Answer) (labels : List ℕ)
    → seen_answer answer ≡ page_answer labels (page (shown_by labels) app (worlds (shown_by labels)) visit) → answer.shown ≡ Some labels
page_has app worlds visit answer labels made = ap (λ (a : Answer). a.shown) made

pub full_has : (answer : Answer) → answer ≡ refusal 507 None → answer.shown ≡ None
full_has answer is = ap (λ (a : Answer). a.shown) is

-- A page that shows these labels was made under them.
page_under : (app : Application) (worlds : Worlds) (visit : Visit) (labels : List ℕ) (answer : Answer) → IsPagedOr app worlds visit answer → answer.shown ≡ Some labels
    → seen_answer answer ≡ page_answer labels (page (shown_by labels) app (worlds (shown_by labels)) visit)
page_under app worlds visit labels answer (inl (other, made)) on =
    let same : other ≡ labels = one_list other labels (sym (page_has app worlds visit answer other made) ∙ on) in
    made ∙ ap (λ (l : List ℕ). page_answer l (page (shown_by l) app (worlds (shown_by l)) visit)) same
page_under app worlds visit labels answer (inr is) on = absurd (none_some labels (sym (full_has answer is) ∙ on))

-- If there is no page, numbers are used up.
full_of : (app : Application) (worlds : Worlds) (visit : Visit) (answer : Answer) → IsPagedOr app worlds visit answer → answer.shown ≡ None → answer ≡ refusal 507 None
full_of app worlds visit answer (inl (labels, made)) none = absurd (some_none labels (sym (page_has app worlds visit answer labels made) ∙ none))
full_of app worlds visit answer (inr is) none = is

look_view : (app : Application) (worlds worlds' : Worlds) (visit : Visit) (one two : Answer)
    → IsPagedOr app worlds visit one → IsPagedOr app worlds' visit two → LookAlike worlds worlds' one two
look_view app worlds worlds' visit one two is is' = record {
  refusal = λ none none'. ap seen_answer (full_of app worlds visit one is none ∙ sym (full_of app worlds' visit two is' none'));
  page = λ labels alike on on'.
      page_under app worlds visit labels one is on
      ∙ ap (λ (t : PlainState). page_answer labels (page (shown_by labels) app t visit)) alike
      ∙ sym (page_under app worlds' visit labels two is' on');
}

look_found : (lazy lazy' : Bool) (f : Found) (app : Application) (ask : Ask) (worlds worlds' : Worlds) (one two : Answer)
    → IsAnswerBy lazy f app worlds ask one → IsAnswerBy lazy' f app worlds' ask two → LookAlike worlds worlds' one two
look_found lazy lazy' founds.NoRoute app ask worlds worlds' one two is is' = look_equal worlds worlds' one two (is ∙ sym is')
look_found lazy lazy' (founds.WrongMethod allow) app ask worlds worlds' one two is is' = look_equal worlds worlds' one two (is ∙ sym is')
look_found lazy lazy' (founds.View n pairs) app ask worlds worlds' one two is is' =
    look_view app worlds worlds' (visit_of app (asked_with pairs ask) n) one two
    (paged_or lazy (method_in (slice_get app.views n)) app worlds (visit_of app (asked_with pairs ask) n) one is)
    (paged_or lazy' (method_in (slice_get app.views n)) app worlds' (visit_of app (asked_with pairs ask) n) two is')

-- Answers to the same request that show the same look equal.
pub look_same : (lazy lazy' : Bool) (app : Application) (worlds worlds' : Worlds) (subject : LogSubject) (one two : Answer)
    → IsAnswer lazy app worlds subject one → IsAnswer lazy' app worlds' subject two → is_failure one ≡ false → is_failure two ≡ false → LookAlike worlds worlds' one two
look_same lazy lazy' app worlds worlds' (whole ask closes) one two (inl failed) is' stands stands' = absurd (no_failure one stands failed)
look_same lazy lazy' app worlds worlds' (whole ask closes) one two (inr is) (inl failed) stands stands' = absurd (no_failure two stands' failed)
look_same lazy lazy' app worlds worlds' (whole ask closes) one two (inr is) (inr is') stands stands' =
    look_found lazy lazy' (found app ask.method ask.path) app ask worlds worlds' one two is is'
look_same lazy lazy' app worlds worlds' (refused status) one two is is' stands stands' = look_equal worlds worlds' one two (refused_same status one two is is' stands stands')
look_same lazy lazy' app worlds worlds' broken one two is is' stands stands' = look_equal worlds worlds' one two (is ∙ sym is')

-- ---- answers of a run in which each page resolved all labels

failed_seen : (answer : Answer) → HasFailed answer → answer.consulted ≡ None
failed_seen answer (inl is) = ap (λ (a : Answer). a.consulted) is
failed_seen answer (inr is) = ap (λ (a : Answer). a.consulted) is

view_seen : (v : Verb) (app : Application) (worlds : Worlds) (visit : Visit) (answer : Answer)
    → IsAnswerOf false v app worlds visit answer → answer.consulted ≡ None
view_seen verbs.Get app worlds visit answer p = ap (λ (a : Answer). a.consulted) p.made
view_seen verbs.Post app worlds visit answer (inl (is, none)) = ap (λ (a : Answer). a.consulted) is
view_seen verbs.Post app worlds visit answer (inr (some, p)) = ap (λ (a : Answer). a.consulted) p.made

found_seen : (f : Found) (app : Application) (worlds : Worlds) (ask : Ask) (answer : Answer)
    → IsAnswerBy false f app worlds ask answer → answer.consulted ≡ None
found_seen founds.NoRoute app worlds ask answer is = ap (λ (a : Answer). a.consulted) is
found_seen (founds.WrongMethod allow) app worlds ask answer is = ap (λ (a : Answer). a.consulted) is
found_seen (founds.View n pairs) app worlds ask answer is =
    view_seen (method_in (slice_get app.views n)) app worlds (visit_of app (asked_with pairs ask) n) answer is

none_consulted : (app : Application) (worlds : Worlds) (subject : LogSubject) (answer : Answer)
    → IsAnswer false app worlds subject answer → answer.consulted ≡ None
none_consulted app worlds (whole ask closes) answer (inl failed) = failed_seen answer failed
none_consulted app worlds (whole ask closes) answer (inr is) =
    found_seen (found app ask.method ask.path) app worlds ask answer is
none_consulted app worlds (refused status) answer (inl is) = ap (λ (a : Answer). a.consulted) is
none_consulted app worlds (refused status) answer (inr is) = ap (λ (a : Answer). a.consulted) is
none_consulted app worlds broken answer is = ap (λ (a : Answer). a.consulted) is

pub answer_seen : (app : Application) (worlds : Worlds) (subject : LogSubject) (answer : Answer)
    → IsAnswer false app worlds subject answer → seen_answer answer ≡ answer
answer_seen app worlds subject answer is = λ i. record answer { consulted = sym (none_consulted app worlds subject answer is) i }
