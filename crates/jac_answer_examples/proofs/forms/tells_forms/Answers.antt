use Rattle.std.proofs.Common.{◌≡◌, ap, inl, inr, refl, sym, subst, ◌==◌, ◌<◌, ℕ, true, false, true≢false, List, [], ◌∷◌, Some, None, codes, is_some, arith}
use Rattle.std.proofs.lemmas.Option.{same_Some}
use Rattle.jac_world.specs.World.{IsAscending}
use Rattle.jac_plain.specs.declared.page.Piece.TheVariants as piece
use Rattle.jac_replies.specs.declared.answer.Answer.{Answer}
use Rattle.jac_replies.specs.Refused.{refusal}
use Rattle.jac_answer_examples.specs.Served.{asks_path, asks_of_event, shows, shows_lazily}
use Rattle.jac_answer_examples.proofs.Finding.{away_get, event_get, event_post, events_post, formed, has_form}
use Rattle.jac_answer_examples.proofs.forms.tells_forms.Goals as goal

pub returns-clause-page : goal.returns-clause-page
returns-clause-page c =
    formed false (asks_of_event None (codes "GET")) (shows (1 ∷ 5 ∷ []) (codes "any")) _ event_get
    (record { labels = 1 ∷ 5 ∷ []; pieces = piece.Added (codes "any") ∷ []; made = refl; ascending = (omega arith, (tt, tt)) })

pub returns-clause-lazily : goal.returns-clause-lazily
returns-clause-lazily c =
    formed true (asks_of_event None (codes "GET")) (shows_lazily (1 ∷ []) (1 ∷ 5 ∷ []) (codes "any")) _ event_get
    (record {
      labels = 1 ∷ [];
      consulted = 1 ∷ 5 ∷ [];
      pieces = piece.Added (codes "any") ∷ [];
      made = refl;
      ascending = (tt, tt);
      rising = (omega arith, (tt, tt));
    })

pub returns-clause-post : goal.returns-clause-post
returns-clause-post c =
    formed true (asks_of_event None (codes "POST")) (shows (1 ∷ []) (codes "any")) _ event_post
    (inr (record { labels = 1 ∷ []; pieces = piece.Added (codes "any") ∷ []; made = refl; ascending = (tt, tt) }))

pub returns-clause-used_up : goal.returns-clause-used_up
returns-clause-used_up c =
    formed false (asks_of_event None (codes "POST")) (refusal 507 None) _ event_post
    (inl refl)

pub returns-clause-no_view : goal.returns-clause-no_view
returns-clause-no_view c =
    formed false (asks_path None (codes "POST") (codes "/events")) (refusal 404 None) _ events_post
    refl

pub returns-clause-no_method : goal.returns-clause-no_method
returns-clause-no_method c =
    formed false (asks_path None (codes "GET") (codes "/away")) (refusal 405 (Some (codes "POST"))) _ away_get
    refl

-- No page has labels that fall.

fallen : (labels : List ℕ) → Some labels ≡ Some (5 ∷ 1 ∷ []) → IsAscending labels → ⊥
fallen labels told rising =
    let down : IsAscending (5 ∷ 1 ∷ []) = subst IsAscending (same_Some labels (5 ∷ 1 ∷ []) told) rising in
    let less : 5 < 1 = down.0 in
    omega (arith, less)

pub returns-clause-falling : goal.returns-clause-falling
returns-clause-falling c answer =
    let p = has_form false (asks_of_event None (codes "GET")) (shows (5 ∷ 1 ∷ []) (codes "any")) _ event_get answer in
    fallen p.labels (sym (ap (λ (a : Answer). a.shown) p.made)) p.ascending

pub returns-clause-not_lazily : goal.returns-clause-not_lazily
returns-clause-not_lazily c answer =
    let p = has_form false (asks_of_event None (codes "GET")) (shows_lazily (1 ∷ []) (1 ∷ 5 ∷ []) (codes "any")) _ event_get answer in
    true≢false (ap (λ (a : Answer). is_some a.consulted) p.made)

pub returns-clause-falling_consulted : goal.returns-clause-falling_consulted
returns-clause-falling_consulted c answer =
    let p = has_form true (asks_of_event None (codes "GET")) (shows_lazily (1 ∷ []) (5 ∷ 1 ∷ []) (codes "any")) _ event_get answer in
    fallen p.consulted (sym (ap (λ (a : Answer). a.consulted) p.made)) p.rising

pub returns-clause-falling_lazily : goal.returns-clause-falling_lazily
returns-clause-falling_lazily c answer =
    let p = has_form true (asks_of_event None (codes "GET")) (shows_lazily (5 ∷ 1 ∷ []) (1 ∷ 5 ∷ []) (codes "any")) _ event_get answer in
    fallen p.labels (sym (ap (λ (a : Answer). a.shown) p.made)) p.ascending

pub returns-clause-used_up_read : goal.returns-clause-used_up_read
returns-clause-used_up_read c answer =
    let p = has_form false (asks_of_event None (codes "GET")) (refusal 507 None) _ event_get answer in
    true≢false (sym (ap (λ (a : Answer). is_some a.shown) p.made))

pub returns-clause-another_refusal : goal.returns-clause-another_refusal
returns-clause-another_refusal c answer =
    let h = has_form false (asks_of_event None (codes "POST")) (refusal 503 None) _ event_post answer in
    elim h [
      | inl refused ↦ true≢false (ap (λ (a : Answer). a.status == 503) refused)
      | inr page ↦ true≢false (sym (ap (λ (a : Answer). is_some a.shown) page.made))
    ]

pub returns-clause-page_of_no_view : goal.returns-clause-page_of_no_view
returns-clause-page_of_no_view c answer =
    let h = has_form false (asks_path None (codes "POST") (codes "/events")) (shows [] []) _ events_post answer in
    true≢false (ap (λ (a : Answer). is_some a.shown) h)
