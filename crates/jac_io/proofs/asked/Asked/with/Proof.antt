-- An `Asked` has no bytes, so that nothing is written for one with one more name.
use Rattle.jac_io.proofs.Steps.{[], ◌∷◌, refl, proved, ftrue, RefOf, yes, owns, shr_vals, shr_Tells, pure_i, plain, types_at, nothing, alive, Stays, walk_of, says, stay_dropped, Goes-dropped, ends_at, named, vstruct, vnil, alloc_all, pass_all, free_all, look_at, sets, ‵, raw, ◌⊛◌, ◌$◌, ◌∵◌, !, qed, move, keep, split, fjoin, suffices, done, agg, enter, returns, no_more}
use Rattle.std.proofs.Common.{◌++◌}
use Rattle.jac_value.specs.contracts.text.Txt.{the_row as T}
use Rattle.jac_io.specs.contracts.asked.Asked.{the_row as R}
use Rattle.jac_io.specs.contracts.asked.Asked.with as f
use Rattle.jac_io.proofs.asked.Asked.with.Statement.{statement}
use Rattle.jac_io.proofs.asked.Asked.with.Code as code

abbrev stayed : Stays f.ended.signature.params f.ended.kept
stayed = (stay_dropped _ yes, (stay_dropped _ yes, tt))

pub with_spec : {M : Type 1} → statement M
with_spec 𝓤 𝓛 𝓜 𝓡 wired =
    let c = f.clauses 𝓛 𝓜.mem 𝓡.returns in let W = walk_of 𝓛 f.ended stayed c in
    proved 𝓛 f.ended stayed c 𝓜 𝓡 (
      Goes-dropped 𝓛 2 (RefOf (0 ∷ []) tt (plain (λ _. R)) (λ _. tt)) yes (λ κs x w. refl),
      (Goes-dropped 𝓛 2 (RefOf (1 ∷ []) tt (plain (λ _. T)) (λ _. tt)) yes (λ κs x w. refl), tt),
    ) f.Key.name code.function (code.unfolded 𝓤 𝓛.H 𝓜 𝓡 wired)
    (λ κs. (shr_vals, (shr_vals, tt)))
    (λ κs. (shr_Tells (named 0) κs.0 R, (shr_Tells (named 1) κs.1.0 T, tt)))
    (λ κs qs bounds a g are.
    let y : W.Ghost = ((κs, qs, bounds, a, (shr_vals a.0, (shr_vals a.1.0, tt))), g) in
    let made : R.Denot = record { names = a.0.now.names ++ a.1.0.now ∷ [] } in
    qed 𝓛 ((raw (alive 𝓛 f.signature κs qs) ⊛ ‵ (owns (types_at f.signature.params κs) a y.0.4)) ∷ ‵ ftrue ∷ []) ∵
    split ! $ keep ! (0 ∷ []) $
    enter ! _ _ _ _ _ $ alloc_all ! (λ l. pass_all ! refl ((tt, tt), ((tt, tt), tt)) $
    sets ! (agg ! (no_more !)) refl (tt, tt) $
    returns ! (look_at ! 0 refl) $ free_all ! refl $
    suffices ! _ (ends_at 𝓛 f.ended stayed c y (vstruct vnil) made (tt, (tt, tt)) (tt, (tt, tt))) $ says ! refl $
    pure_i ! (R.own_val made (vstruct vnil ∷ [])) ((λ vss. (tt, tt)), tt) ((tt, (refl, tt)), tt) $
    nothing ! $ nothing ! $ fjoin ! $ nothing ! $ fjoin ! $ move ! (2 ∷ 0 ∷ 1 ∷ []) $ done !))
