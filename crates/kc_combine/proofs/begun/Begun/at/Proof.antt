-- `at` picks the view of the source. Assumes `Logic`.
use Rattle.std.proofs.Common.{[], ◌∷◌, refl}
use Rattle.std.proofs.raw_atomic.Walks.{proved}
use mir.Syntax.{a_type, dcons, dnil, named}
use mir.MapTy.{inst_fn}
use types.Kit.{‵, raw, ◌⊛◌, ◌$◌, ◌∵◌, !, qed, move, keep, drop, split, fjoin, suffices, done}
use types.Part.{agg}
use types.Run.{enter, returns, no_more}
use types.ByLocal.{alloc_all, pass_all, free_all, look_at, sets}
use denote.Exit.{yes}
use denote.Builtin.{RefOf}
use denote.Param.{param, bounded}
use denote.Ref.{shr_vals, shr_Tells}
use denote.RattleType.{RattleType, owns}
use denote.Signature.{plain, types_at}
use denote.Steps.{nothing}
use denote.Triple.Entry.{alive}
use denote.Triple.Walked.{says, Stays, stay_dropped, walk_of, ends_at, Goes-dropped}
use Rattle.kc_io.proofs.Walks.{none, none_made}
use Rattle.kc_combine.specs.contracts.begun.Begun as Begun
use Rattle.kc_combine.specs.contracts.begun.Begun.at as f
use Rattle.kc_combine.proofs.begun.Begun.at.Statement.{statement}
use Rattle.kc_combine.proofs.begun.Begun.at.Code as code

pub at_spec : {M : Type 1} → statement M
at_spec 𝓤 𝓛 𝓜 𝓡 wired T L g d _ =
    let R : RattleType = param 0 T in
    let En = f.ended T g d in
    let c = f.clauses T g d 𝓛 𝓜.mem 𝓡.returns in
    let inst = bounded (a_type ∷ []) (T, tt) (dcons d dnil) in
    let source = RefOf (0 ∷ []) tt (plain (λ _. R)) (λ _. tt) in
    let stayed : Stays En.signature.params En.kept = (stay_dropped source yes, tt) in
    let W = walk_of 𝓛 En stayed c in
    proved 𝓛 En stayed c 𝓜 𝓡
    (Goes-dropped 𝓛 2 source yes (λ κs x w. refl), tt)
    (f.Key.name inst) (inst_fn inst code.function) (code.unfolded 𝓤 𝓛.H 𝓜 𝓡 wired (T, tt) d)
    (λ κs. (shr_vals, tt))
    (λ κs. (shr_Tells (named 0) κs.0 R, tt))
    (λ κs qs bounds a n are.
    let y : W.Ghost = ((κs, qs, bounds, a, (shr_vals a.0, tt)), n) in
    let made : (Begun.the_row).Denot = record { start = g.seen a.0.now } in
    qed 𝓛 ((raw (alive 𝓛 En.signature κs qs) ⊛ ‵ (owns (types_at En.signature.params κs) a y.0.4)) ∷ raw ((c κs a).requires n) ∷ []) ∵ keep ! (0 ∷ []) $ split ! $ move ! (1 ∷ []) $ drop ! $
    enter ! _ _ _ _ _ $ alloc_all ! (λ l. pass_all ! refl ((tt, tt), tt) $
    sets ! (agg ! (no_more !)) refl (tt, tt) $
    nothing ! $ none_made ! $ fjoin ! $
    returns ! (look_at ! 0 refl) $ free_all ! refl $
    suffices ! _ (ends_at 𝓛 En stayed c y none made (tt, tt) (tt, tt)) $ says ! refl $
    nothing ! $ nothing ! $ fjoin ! $ move ! (2 ∷ 0 ∷ 1 ∷ []) $ done !))
