-- An `Asked` has no bytes, so that nothing is written for one without names.
use Rattle.jac_io.proofs.Steps.{[], ◌∷◌, refl, proved, ftrue, pure_i, nothing, Stays, walk_of, says, ends_at, vstruct, vnil, alloc_all, free_all, look_at, sets, pass_all, ‵, raw, ◌⊛◌, ◌$◌, ◌∵◌, !, qed, move, keep, split, suffices, done, agg, enter, returns, no_more, alive}
use Rattle.jac_io.specs.contracts.asked.Asked.{the_row as R}
use Rattle.jac_io.specs.contracts.asked.Asked.new as f
use Rattle.jac_io.proofs.asked.Asked.new.Statement.{statement}
use Rattle.jac_io.proofs.asked.Asked.new.Code as code

abbrev stayed : Stays f.ended.signature.params f.ended.kept
stayed = tt

pub new_spec : {M : Type 1} → statement M
new_spec 𝓤 𝓛 𝓜 𝓡 wired =
    let c = f.clauses 𝓛 𝓜.mem 𝓡.returns in let W = walk_of 𝓛 f.ended stayed c in
    proved 𝓛 f.ended stayed c 𝓜 𝓡 tt f.Key.name code.function (code.unfolded 𝓤 𝓛.H 𝓜 𝓡 wired)
    (λ κs. tt) (λ κs. tt) (λ κs qs bounds a g are.
    let y : W.Ghost = ((κs, qs, bounds, a, tt), g) in
    let made : R.Denot = record { names = [] } in
    qed 𝓛 ((raw (alive 𝓛 f.signature κs qs) ⊛ ‵ ftrue) ∷ ‵ ftrue ∷ []) ∵ split ! $ keep ! (0 ∷ []) $
    enter ! _ _ _ _ _ $ alloc_all ! (λ l. pass_all ! refl tt $
    sets ! (agg ! (no_more !)) refl (tt, tt) $
    returns ! (look_at ! 0 refl) $ free_all ! refl $
    suffices ! _ (ends_at 𝓛 f.ended stayed c y (vstruct vnil) made tt tt) $ says ! refl $
    pure_i ! (R.own_val made (vstruct vnil ∷ [])) ((λ vss. (tt, tt)), tt) ((tt, (refl, tt)), tt) $
    nothing ! $ move ! (2 ∷ 0 ∷ 1 ∷ []) $ done !))
