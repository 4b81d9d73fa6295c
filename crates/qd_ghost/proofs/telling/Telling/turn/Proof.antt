-- `turn` does nothing: the borrow is opened, and closed at the history that the `requires` gives. Assumes `Logic`.
use Rattle.std.proofs.Common.{Option, List, [], ◌∷◌, refl}
use Rattle.std.proofs.raw_atomic.Walks.{proved}
use mir.Syntax.{a_type, dcons, dnil, named}
use mir.Val.{Val, vunit}
use mir.MapTy.{inst_fn}
use base.Logic.{id⊢}
use base.Fml.{ftrue, flft}
use contract.Monad.{fact}
use contract.Running.{tables}
use types.Kit.{‵, raw, ◌⊛◌, ◌$◌, ◌∵◌, !, qed, move, drop, use1, split, join, fsplit3, feq_i, suffices, frame, group, done}
use types.Run.{unit_lit, of_opd, returns, enter}
use types.ByLocal.{alloc_all, pass_all, free_all, look_at, sets}
use denote.Builtin.{RefOf}
use denote.Exit.{yes}
use denote.Param.{param, bounded}
use denote.RattleType.{owns}
use denote.Ref.{MutRef, ShrRef, mut_vals, mut_Tells, shr_vals, shr_Tells}
use denote.Signature.{plain}
use denote.Steps.{nothing, opens, closes, heard}
use denote.Triple.Walked.{Stays, walk_of, says, stay_ref, Goes-ref, stay_dropped, Goes-dropped, ends_at}
use Rattle.qd_base.specs.declared.op.Entry.{Entry}
use Rattle.qd_ghost.specs.contracts.telling.Telling as Telling
use Rattle.qd_ghost.specs.contracts.telling.Telling.turn.{ended, clauses}
use Rattle.qd_ghost.specs.contracts.telling.Telling.turn.Key.{name as #self}
use Rattle.qd_ghost.proofs.telling.Telling.turn.Statement.{statement}
use Rattle.qd_ghost.proofs.telling.Telling.turn.Code as code

pub turn_spec : {M : Type 1} → statement M
turn_spec 𝓤 𝓛 𝓜 𝓡 wired A B F _ _ _ g d _ =
    let 𝓣 = tables 𝓤 𝓛.H 𝓜 𝓡 𝓡.env in let E = ended A B F g d in let c = clauses A B F g d 𝓛 𝓜.mem 𝓡.returns in let T = Telling.the_row in
    let at = bounded (a_type ∷ a_type ∷ a_type ∷ []) (A, (B, (F, tt))) (dcons d dnil) in let fn = inst_fn at code.function in let before = RefOf (1 ∷ []) tt (plain (λ _. param 0 A)) (λ _. tt) in let after = RefOf (2 ∷ []) tt (plain (λ _. param 1 B)) (λ _. tt) in
    let hs : Stays E.signature.params E.kept = (stay_ref (0 ∷ []) tt (plain (λ _. T)), (stay_dropped before yes, (stay_dropped after yes, tt))) in
    proved 𝓛 E hs c 𝓜 𝓡 (Goes-ref 𝓛 6 0 tt (plain (λ _. T)), (Goes-dropped 𝓛 6 before yes (λ κs x w. refl), (Goes-dropped 𝓛 6 after yes (λ κs x w. refl), tt))) (#self at) fn (code.unfolded 𝓤 𝓛.H 𝓜 𝓡 wired (A, (B, (F, tt))) d)
    (λ κs. (mut_vals, (shr_vals, (shr_vals, tt)))) (λ κs. (mut_Tells (named 0) κs.0 T, (shr_Tells (named 1) κs.1.0 (param 0 A), (shr_Tells (named 2) κs.1.1.0 (param 1 B), tt)))) (λ κs qs bounds a gh are.
    let b = a.0.ref_ptr.0 in let o = a.0.ref_ptr.1 in let h = a.0.now in let vs = mut_vals a.0 in let us : List Val × (List Val × Unit {0}) = (shr_vals a.1.0, (shr_vals a.1.1.0, tt)) in
    let y : (walk_of 𝓛 E hs c).Ghost = ((κs, qs, bounds, a, (vs, us)), gh) in
    qed 𝓛 (((‵ (flft κs.0 qs.0) ⊛ (‵ (flft κs.1.0 qs.1.0) ⊛ (‵ (flft κs.1.1.0 qs.1.1.0) ⊛ (‵ (flft κs.1.1.1.0 qs.1.1.1.0) ⊛ (‵ (flft κs.1.1.1.1.0 qs.1.1.1.1.0) ⊛ (‵ (flft κs.1.1.1.1.1.0 qs.1.1.1.1.1.0) ⊛ ‵ ftrue))))))
    ⊛ (‵ ((MutRef (named 0) κs.0 T).own_val a.0 vs) ⊛ ‵ (owns (ShrRef (named 1) κs.1.0 (param 0 A) ∷ ShrRef (named 2) κs.1.1.0 (param 1 B) ∷ []) a.1 us)))
    ∷ (raw (fact 𝓤 _) ⊛ (raw (fact 𝓤 _) ⊛ (raw (fact 𝓤 _) ⊛ raw (fact 𝓤 ((then : Option (List Entry)) × g.turns a.1.0.now a.1.1.0.now h.history then))))) ∷ []) ∵
    split ! $ move ! (2 ∷ []) $ split ! $ drop ! $ split ! $ drop ! $ split ! $ drop ! $ heard ! _ (λ told.
    split ! $ move ! (2 ∷ []) $ split ! $ move ! (1 ∷ []) $ drop ! $
    -- [the reference; the token of its lifetime; the other tokens]
    enter ! _ _ _ _ _ $ alloc_all ! (λ l. pass_all ! refl ((tt, tt), ((tt, tt), ((tt, tt), tt))) $
    fsplit3 ! $ move ! (1 ∷ 2 ∷ 3 ∷ []) $ opens ! tt T {h = h} b o (λ ws.
    sets ! (of_opd ! (unit_lit !)) refl (tt, tt) $
    let h' : T.Denot = record { history = told.0 } in
    move ! (1 ∷ []) $ use1 𝓛 (‵ (T.own_val h' ws)) (id⊢ 𝓤 _) $ move ! (1 ∷ 0 ∷ []) $ closes ! tt T h' ws b o $
    -- [two parts of the reference; its token; its first part; the other tokens]
    returns ! (look_at ! 0 refl) $ free_all ! refl $ move ! (3 ∷ []) $
    suffices ! _ (ends_at 𝓛 E hs c y vunit tt (h', (tt, (tt, tt))) (tt, (tt, (tt, tt)))) $ says ! told.1 $
    group ! 3 $ nothing ! $ nothing ! $ join ! $ nothing ! $ join ! $ move ! (1 ∷ 0 ∷ []) $ join ! $ move ! (1 ∷ 2 ∷ []) $ join ! $ frame ! $ frame ! $
    feq_i ! _ (vunit ∷ []) _ refl $ done !))))
