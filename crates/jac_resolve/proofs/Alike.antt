-- States with the same tables.
use Rattle.std.proofs.Common.{◌≡◌, ℕ, Bool, List, Option, subst}
use Rattle.jac_lang.specs.Syntax.{Application}
use Rattle.jac_rows.specs.declared.row.Row.{Row}
use Rattle.jac_rows.specs.declared.state.State.{State}
use Rattle.jac_plain.specs.Policies.{IsLiveLabel, ShowsForbidden, IsSettled}
use Rattle.jac_plain.specs.Shown.{worlds_of}
use Rattle.jac_shown_rows.specs.Local.{IsLocalCase}
use Rattle.jac_resolve.specs.Rounds.{AreFewEvaluations}

module _ (app : Application) (s : State) (number : ℕ) (viewer : Option ℕ) where
  pub live_alike : (k : ℕ) → IsLiveLabel app (worlds_of s) k → IsLiveLabel app (worlds_of (record s { number = number })) k
  live_alike k l = record { group = l.group; seen_by = l.seen_by; stands = l.stands }

  pub live_back : (k : ℕ) → IsLiveLabel app (worlds_of (record s { number = number })) k → IsLiveLabel app (worlds_of s) k
  live_back k l = record { group = l.group; seen_by = l.seen_by; stands = l.stands }

  refuses_alike : (w : ℕ → Bool) → ShowsForbidden app (worlds_of s) viewer w → ShowsForbidden app (worlds_of (record s { number = number })) viewer w
  refuses_alike w r = record { label = r.label; is_shown = r.is_shown; forbidden = r.forbidden }

  settled_numbered : (labels : List ℕ) → IsSettled app (worlds_of s) viewer labels → IsSettled app (worlds_of (record s { number = number })) viewer labels
  settled_numbered labels is = record {
    ascending = is.ascending;
    live = λ k h. live_alike k (is.live k h);
    allowed = is.allowed;
    full = λ k live hidden. refuses_alike _ (is.full k (live_back k live) hidden);
  }

  local_back : IsLocalCase app (record s { number = number }) viewer → IsLocalCase app s viewer
  local_back is = record { policies = is.policies; state = is.state; next = is.next; good = is.good; asker = is.asker }

  -- The bound on evaluations depends only on the tables.
  pub few_numbered : (before now : ℕ) → AreFewEvaluations app s viewer before now → AreFewEvaluations app (record s { number = number }) viewer before now
  few_numbered before now are = record {
    few = λ local labels up live. are.few (local_back local) labels up
        (record { only = λ k shown. live_back k (live.only k shown); every = λ k lives. live.every k (live_alike k lives) });
  }

pub settled_alike : (app : Application) (s t : State) (viewer : Option ℕ) (labels : List ℕ) → s.tables ≡ t.tables → IsSettled app (worlds_of s) viewer labels → IsSettled app (worlds_of t) viewer labels
settled_alike app s t viewer labels same is =
    subst (λ (tables : List (List Row)). IsSettled app (worlds_of (record { tables = tables; number = t.number })) viewer labels) same (settled_numbered app s t.number viewer labels is)
