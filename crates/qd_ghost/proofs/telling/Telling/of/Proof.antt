-- `of` makes a value of no bytes, at the history that its caller picks. Assumes `Logic`.
use Rattle.std.proofs.Common.{[], ◌∷◌, refl}
use Rattle.std.proofs.raw_atomic.Walks.{proved}
use mir.Syntax.{a_type, named}
use mir.Val.{Val, vptr, vstruct, vnil}
use mir.MapTy.{inst_fn}
use base.Fml.{Fml}
use contract.Running.{tables}
use types.Kit.{‵, raw, ◌⊛◌, ◌$◌, ◌∵◌, !, qed, move, keep, split, fjoin, use0, suffices, done}
use types.Part.{agg}
use types.Run.{enter, returns, no_more}
use types.ByLocal.{alloc_all, pass_all, free_all, look_at, sets}
use denote.Builtin.{RefOf}
use denote.Exit.{yes}
use denote.Param.{param, layouts}
use denote.RattleType.{owns}
use denote.Ref.{shr_vals, shr_Tells}
use denote.Shadow.{makes_shadow}
use denote.Signature.{plain, types_at}
use denote.Steps.{nothing}
use denote.Triple.Entry.{alive}
use denote.Triple.Walked.{Stays, walk_of, says, stay_dropped, Goes-dropped, ends_at}
use Rattle.qd_ghost.specs.contracts.telling.Telling as Telling
use Rattle.qd_ghost.specs.contracts.telling.Telling.of.{ended, clauses}
use Rattle.qd_ghost.specs.contracts.telling.Telling.of.Key.{name as #self}
use Rattle.qd_ghost.proofs.telling.Telling.of.Statement.{statement}
use Rattle.qd_ghost.proofs.telling.Telling.of.Code as code

pub of_spec : {M : Type 1} → statement M
of_spec 𝓤 𝓛 𝓜 𝓡 wired X _ =
    let 𝓣 = tables 𝓤 𝓛.H 𝓜 𝓡 𝓡.env in let E = ended X in let c = clauses X 𝓛 𝓜.mem 𝓡.returns in
    let at = layouts (a_type ∷ []) (X, tt) in let fn = inst_fn at code.function in let from = RefOf (0 ∷ []) tt (plain (λ _. param 0 X)) (λ _. tt) in
    let hs : Stays E.signature.params E.kept = (stay_dropped from yes, tt) in
    proved 𝓛 E hs c 𝓜 𝓡 (Goes-dropped 𝓛 2 from yes (λ κs x w. refl), tt) (#self at) fn (code.unfolded 𝓤 𝓛.H 𝓜 𝓡 wired (X, tt))
    (λ κs. (shr_vals, tt)) (λ κs. (shr_Tells (named 0) κs.0 (param 0 X), tt)) (λ κs qs bounds a start are.
    let p : Val = vptr a.0.ref_ptr.0 a.0.ref_ptr.1 in let v : Val = vstruct vnil in let made : Telling.the_row.Denot = record { history = start } in
    let Owned : Fml = Telling.the_row.own_val made (v ∷ []) in
    let y : (walk_of 𝓛 E hs c).Ghost = ((κs, qs, bounds, a, (p ∷ [], tt)), start) in
    qed 𝓛 ((raw (alive 𝓛 E.signature κs qs) ⊛ ‵ (owns (types_at E.signature.params κs) a y.0.4)) ∷ raw ((c κs a).requires start) ∷ []) ∵
    split ! $ keep ! (0 ∷ []) $ enter ! 𝓣.C 𝓣.Λ fn (p ∷ []) ((walk_of 𝓛 E hs c).post y) $ alloc_all ! (λ l. pass_all ! refl ((tt, tt), tt) $
    sets ! (agg ! (no_more !)) refl (tt, tt) $
    use0 𝓛 (‵ Owned) (makes_shadow 𝓛 Owned ((λ vss. (tt, tt)), tt) ((tt, (refl, tt)), tt)) $
    returns ! (look_at ! 0 refl) $ free_all ! refl $
    suffices ! _ (ends_at 𝓛 E hs c y v made (tt, tt) (tt, tt)) $ says ! refl $
    nothing ! $ nothing ! $ fjoin ! $ move ! (2 ∷ 0 ∷ 1 ∷ []) $ done !))
