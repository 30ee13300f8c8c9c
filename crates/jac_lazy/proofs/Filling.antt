-- The labels that steady labels are filled up to are settled. Rounds fill labels up, over plain
-- lists.
use Rattle.std.proofs.Common.{◌≡◌, ◌∙◌, sym, refl, ap, subst, ℕ, ◌==◌, ◌||◌, Bool, true, false, true≢false, List, [], ◌∷◌, Option}
use Rattle.std.proofs.lemmas.Bool.Decides.{Decides-eqb}
use Rattle.jac_world.specs.World.{shown_by, IsAscending, with_number}
use Rattle.jac_world.proofs.Inserting.{shown-inserted, ascending-inserted}
use Rattle.jac_lang.specs.Syntax.{Application}
use Rattle.jac_plain.specs.Requests.{Worlds}
use Rattle.jac_plain.specs.Policies.{with_label, IsLiveLabel, ShowsForbidden, AreAllowed, IsSettled}
use Rattle.jac_shown_rows.specs.Consulted.{Agrees}
use Rattle.jac_lazy.specs.Steady.{AlwaysForbids, IsSteady}
use Rattle.jac_lazy.specs.Filled.{Adds, IsFilled}

-- One more label.

pub grown : (k : ℕ) (old : List ℕ) → shown_by (with_number k old) ≡ with_label k (shown_by old)
grown k old i j = shown-inserted k old j i

-- The label wasn't consulted.
beside_if : (consulted : List ℕ) (k j : ℕ) (b s : Bool) → (k == j) ≡ b → shown_by consulted k ≡ false → shown_by consulted j ≡ true → s ≡ (b || s)
beside_if consulted k j true s e hidden among = absurd (true≢false (sym among ∙ ap (shown_by consulted) (sym ((Decides-eqb k j).0 e)) ∙ hidden))
beside_if consulted k j false s e hidden among = refl

agrees_added : (consulted : List ℕ) (v : ℕ → Bool) (k : ℕ) (old : List ℕ) → shown_by consulted k ≡ false → Agrees consulted v (shown_by old) → Agrees consulted v (shown_by (with_number k old))
agrees_added consulted v k old hidden agrees = record {
  each = λ j among. agrees.each j among ∙ beside_if consulted k j (k == j) (shown_by old j) refl hidden among ∙ sym (shown-inserted k old j);
}

module _ (app : Application) (worlds : Worlds) (viewer : Option ℕ) (consulted : List ℕ) where
  -- The invariant while labels are added.
  record IsUnderway (labels now : List ℕ) : Type 0 where
    pub ascending : IsAscending now
    pub live : (k : ℕ) → shown_by now k ≡ true → IsLiveLabel app worlds k
    pub allowed : AreAllowed app worlds viewer now
    pub agrees : Agrees consulted (shown_by labels) (shown_by now)

  live_if : (k j : ℕ) (b : Bool) (old : List ℕ) → (k == j) ≡ b → IsLiveLabel app worlds k → (shown_by old j ≡ true → IsLiveLabel app worlds j) → (b || shown_by old j) ≡ true → IsLiveLabel app worlds j
  live_if k j true old e new before s = subst (λ (n : ℕ). IsLiveLabel app worlds n) ((Decides-eqb k j).0 e) new
  live_if k j false old e new before s = before s

  underway_on : (ks labels old new : List ℕ) → IsUnderway labels old → Adds app worlds viewer consulted ks old new → IsUnderway labels new
  underway_on [] labels old new so_far adds = subst (λ (l : List ℕ). IsUnderway labels l) (sym adds) so_far
  underway_on (k ∷ ks) labels old new so_far adds =
      underway_on ks labels (with_number k old) new
      (record {
        ascending = ascending-inserted k old so_far.ascending;
        live = λ j s. live_if k j (k == j) old refl adds.0 (so_far.live j) (sym (shown-inserted k old j) ∙ s);
        allowed = adds.2;
        agrees = agrees_added consulted (shown_by labels) k old adds.1 so_far.agrees;
      })
      adds.3

  still_shown : (k j : ℕ) (b : Bool) (labels new : List ℕ) → (k == j) ≡ b → IsSteady app worlds viewer consulted labels → Agrees consulted (shown_by labels) (shown_by new) → (b || shown_by labels j) ≡ true → (b || shown_by new j) ≡ true
  still_shown k j true labels new e steady agrees s = refl
  still_shown k j false labels new e steady agrees s = sym (agrees.each j (steady.within j s)) ∙ s

  -- If some label is never allowed, some label isn't allowed in the end.
  forbids : (k : ℕ) (labels new : List ℕ) → IsSteady app worlds viewer consulted labels → Agrees consulted (shown_by labels) (shown_by new)
      → AlwaysForbids app worlds viewer consulted (with_label k (shown_by labels)) → ShowsForbidden app worlds viewer (with_label k (shown_by new))
  forbids k labels new steady agrees always = record {
    label = always.label;
    is_shown = still_shown k always.label (k == always.label) labels new refl steady agrees always.is_shown;
    forbidden = always.forbidden (with_label k (shown_by new)) (record { each = λ j among. ap (λ b. k == j || b) (agrees.each j among) });
  }

  full_if : (k : ℕ) (b : Bool) (labels new : List ℕ) → shown_by consulted k ≡ b → IsSteady app worlds viewer consulted labels → IsFilled app worlds viewer consulted labels new → Agrees consulted (shown_by labels) (shown_by new)
      → IsLiveLabel app worlds k → shown_by new k ≡ false → ShowsForbidden app worlds viewer (with_label k (shown_by new))
  full_if k true labels new e steady filled agrees live hidden = forbids k labels new steady agrees (steady.full k live e (agrees.each k e ∙ hidden))
  full_if k false labels new e steady filled agrees live hidden = filled.full k live e hidden

  at_first : (labels : List ℕ) → IsSteady app worlds viewer consulted labels → IsUnderway labels labels
  at_first labels steady = record {
    ascending = steady.ascending;
    live = steady.live;
    allowed = λ k s. (steady.allowed k s).each (shown_by labels) (record { each = λ j among. refl });
    agrees = record { each = λ j among. refl };
  }

  pub filled_settled : (labels new : List ℕ) → IsSteady app worlds viewer consulted labels → IsFilled app worlds viewer consulted labels new
      → IsSettled app worlds viewer new × Agrees consulted (shown_by labels) (shown_by new)
  filled_settled labels new steady filled =
      let end : IsUnderway labels new = underway_on filled.added labels labels new (at_first labels steady) filled.adds in (
        record {
          ascending = end.ascending;
          live = end.live;
          allowed = end.allowed;
          full = λ k live hidden. full_if k (shown_by consulted k) labels new refl steady filled end.agrees live hidden;
        },
        end.agrees,
      )

pub law_filled : (app : Application) (worlds : Worlds) (viewer : Option ℕ) (consulted labels new : List ℕ) → IsSteady app worlds viewer consulted labels → IsFilled app worlds viewer consulted labels new
    → IsSettled app worlds viewer new × Agrees consulted (shown_by labels) (shown_by new)
law_filled app worlds viewer consulted labels new steady filled = filled_settled app worlds viewer consulted labels new steady filled
