-- The result takes no bytes either, and it holds one more value.
use Rattle.jac_io.proofs.Steps.{[], ◌∷◌, refl, proved, RefOf, yes, owns, shr_vals, shr_Tells, pure_i, plain, types_at, nothing, alive, Stays, walk_of, says, stay_dropped, Goes-dropped, ends_at, param, layouts, RattleType, inst_fn, Args, Fn, a_type, named, Val, vstruct, vcons, vnil, alloc_all, pass_all, free_all, look_at, get, sets, ‵, raw, ◌⊛◌, ◌$◌, ◌∵◌, !, qed, move, keep, split, fjoin, suffices, done, agg, enter, returns, and_then, no_more}
use Rattle.std.proofs.Common.{◌++◌}
use Rattle.jac_host.specs.contracts.handed.Handed.{the_row as R}
use Rattle.jac_host.specs.contracts.handed.Handed.and as f
use Rattle.jac_host.proofs.handed.Handed.and.Statement.{statement}
use Rattle.jac_host.proofs.handed.Handed.and.Code as code

abbrev one : Val
one = vstruct (vcons (vstruct vnil) vnil)

module _ (T : RattleType) where
  abbrev args : Args
  args = layouts (a_type ∷ []) (T, tt)

  abbrev function : Fn
  function = inst_fn args code.function

  abbrev stayed : Stays (f.ended T).signature.params (f.ended T).kept
  stayed = (stay_dropped _ yes, (stay_dropped _ yes, tt))

pub and_spec : {M : Type 1} → statement M
and_spec 𝓤 𝓛 𝓜 𝓡 wired T laws =
    let c = f.clauses T 𝓛 𝓜.mem 𝓡.returns in let W = walk_of 𝓛 (f.ended T) (stayed T) c in
    proved 𝓛 (f.ended T) (stayed T) c 𝓜 𝓡 (
      Goes-dropped 𝓛 3 (RefOf (0 ∷ []) tt (plain (λ _. R (param 0 T))) (λ _. tt)) yes (λ κs x w. refl),
      (Goes-dropped 𝓛 3 (RefOf (1 ∷ []) tt (plain (λ _. param 0 T)) (λ _. tt)) yes (λ κs x w. refl), tt),
    ) (f.Key.name (args T)) (function T) (code.unfolded 𝓤 𝓛.H 𝓜 𝓡 wired (T, tt))
    (λ κs. (shr_vals, (shr_vals, tt)))
    (λ κs. (shr_Tells (named 0) κs.0 (R (param 0 T)), (shr_Tells (named 1) κs.1.0 (param 0 T), tt)))
    (λ κs qs bounds a g are.
    let y : W.Ghost = ((κs, qs, bounds, a, (shr_vals a.0, (shr_vals a.1.0, tt))), g) in
    let made : (R (param 0 T)).Denot = record { of = record {}; items = a.0.now.items ++ a.1.0.now ∷ [] } in
    qed 𝓛 ((raw (alive 𝓛 (f.signature T) κs qs) ⊛ ‵ (owns (types_at (f.signature T).params κs) a y.0.4)) ∷ raw ((c κs a).requires g) ∷ []) ∵
    split ! $ keep ! (0 ∷ []) $
    enter ! _ _ _ _ _ $ alloc_all ! (λ l. pass_all ! refl ((tt, tt), ((tt, tt), tt)) $
    sets ! (agg ! (no_more !)) refl (tt, tt) $
    sets ! (agg ! (and_then ! (get ! refl) (no_more !))) refl (tt, (tt, tt)) $
    returns ! (look_at ! 0 refl) $ free_all ! refl $
    suffices ! _ (ends_at 𝓛 (f.ended T) (stayed T) c y one made (tt, (tt, tt)) (tt, (tt, tt))) $ says ! refl $
    pure_i ! ((R (param 0 T)).own_val made (one ∷ [])) ((λ vss. (tt, ((λ uss. (tt, tt)), tt))), tt)
    (((vstruct vnil ∷ [], tt), (refl, ((tt, (refl, tt)), tt))), tt) $
    nothing ! $ nothing ! $ fjoin ! $ nothing ! $ fjoin ! $ move ! (2 ∷ 0 ∷ 1 ∷ []) $ done !))
