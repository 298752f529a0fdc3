-- `with_event` picks the log with one more event. Assumes `Logic`.
use Rattle.std.proofs.Common.{[], ◌∷◌, ◌++◌, refl}
use Rattle.std.proofs.raw_atomic.Walks.{proved}
use mir.Syntax.{named}
use base.Logic.{emp}
use contract.Running.{tables}
use types.Kit.{‵, raw, ◌⊛◌, ◌$◌, ◌∵◌, !, qed, move, keep, drop, split, fjoin, suffices, done}
use types.Part.{agg}
use types.Run.{enter, returns, no_more}
use types.ByLocal.{alloc_all, pass_all, free_all, look_at, sets}
use denote.Exit.{yes}
use denote.Builtin.{RefOf, SliceRefOf, u8}
use denote.Ref.{shr_vals, shr_Tells}
use denote.Slice.{shr_slice_vals, shr_slice_Tells}
use denote.RattleType.{owns}
use denote.Signature.{plain, types_at}
use denote.Steps.{nothing}
use denote.Triple.Entry.{alive}
use denote.Triple.Walked.{says, Stays, stay_dropped, walk_of, ends_at, Goes-dropped}
use Rattle.kc_io.proofs.Walks.{none, none_made}
use Rattle.kc_io.specs.contracts.histories.Heard as Heard
use Rattle.kc_tool.specs.FileEvents.{event}
use Rattle.kc_tool.specs.contracts.file_acts.FileAct as FileAct
use Rattle.kc_tool.specs.contracts.files.FileLog as FileLog
use Rattle.kc_tool.specs.contracts.files.FileLog.with_event as f
use Rattle.kc_tool.proofs.files.FileLog.with_event.Statement.{statement}
use Rattle.kc_tool.proofs.files.FileLog.with_event.Code as code

abbrev stayed : Stays f.ended.signature.params f.ended.kept
stayed = (stay_dropped _ yes, (stay_dropped _ yes, (stay_dropped _ yes, (stay_dropped _ yes, (stay_dropped _ yes, tt)))))

pub with_event_spec : {M : Type 1} → statement M
with_event_spec 𝓤 𝓛 𝓜 𝓡 wired =
    let c = f.clauses 𝓛 𝓜.mem 𝓡.returns in
    let W = walk_of 𝓛 f.ended stayed c in
    let 𝓣 = tables 𝓤 𝓛.H 𝓜 𝓡 𝓡.env in
    proved 𝓛 f.ended stayed c 𝓜 𝓡 (
      Goes-dropped 𝓛 5 (RefOf (0 ∷ []) tt (plain (λ _. FileLog.the_row)) (λ _. tt)) yes (λ κs x w. refl),
      (
        Goes-dropped 𝓛 5 (RefOf (1 ∷ []) tt (plain (λ _. FileAct.the_row)) (λ _. tt)) yes (λ κs x w. refl),
        (
          Goes-dropped 𝓛 5 (SliceRefOf (2 ∷ []) tt (plain (λ _. u8)) (λ _. tt)) yes (λ κs x w. refl),
          (
            Goes-dropped 𝓛 5 (SliceRefOf (3 ∷ []) tt (plain (λ _. u8)) (λ _. tt)) yes (λ κs x w. refl),
            (Goes-dropped 𝓛 5 (RefOf (4 ∷ []) tt (plain (λ _. Heard.the_row)) (λ _. tt)) yes (λ κs x w. refl), tt),
          ),
        ),
      ),
    )
    f.Key.name code.function (code.unfolded 𝓤 𝓛.H 𝓜 𝓡 wired)
    (λ κs. (shr_vals, (shr_vals, (shr_slice_vals, (shr_slice_vals, (shr_vals, tt))))))
    (λ κs. (
      shr_Tells (named 0) κs.0 FileLog.the_row,
      (
        shr_Tells (named 1) κs.1.0 FileAct.the_row,
        (
          shr_slice_Tells (named 2) κs.1.1.0 u8,
          (shr_slice_Tells (named 3) κs.1.1.1.0 u8, (shr_Tells (named 4) κs.1.1.1.1.0 Heard.the_row, tt)),
        ),
      ),
    ))
    (λ κs qs bounds a n are.
    let y : W.Ghost = ((κs, qs, bounds, a, (shr_vals a.0, (shr_vals a.1.0, (shr_slice_vals a.1.1.0, (shr_slice_vals a.1.1.1.0, (shr_vals a.1.1.1.1.0, tt)))))), n) in
    let made : (FileLog.the_row).Denot = record { events = a.0.now.events ++ event a.1.0.now a.1.1.0.now a.1.1.1.0.now a.1.1.1.1.0.now.history ∷ [] } in
    qed 𝓛 ((raw (alive 𝓛 f.signature κs qs) ⊛ ‵ (owns (types_at f.signature.params κs) a y.0.4)) ∷ raw (emp 𝓤) ∷ []) ∵ keep ! (0 ∷ []) $ split ! $ move ! (1 ∷ []) $ drop ! $
    enter ! _ _ _ _ _ $ alloc_all ! (λ l. pass_all ! refl ((tt, tt), ((tt, tt), ((tt, (tt, (record { fits = are.1.1.0.0.1.0 }, tt))), ((tt, (tt, (record { fits = are.1.1.1.0.0.1.0 }, tt))), ((tt, tt), tt))))) $
    sets ! (agg ! (no_more !)) refl (tt, tt) $
    nothing ! $ none_made ! $ fjoin ! $
    returns ! (look_at ! 0 refl) $ free_all ! refl $
    suffices ! _ (ends_at 𝓛 f.ended stayed c y none made (tt, (tt, (tt, (tt, (tt, tt))))) (tt, (tt, (tt, (tt, (tt, tt)))))) $ says ! refl $
    nothing ! $ nothing ! $ fjoin ! $ nothing ! $ fjoin ! $ nothing ! $ fjoin ! $ nothing ! $ fjoin ! $ nothing ! $ fjoin ! $ move ! (2 ∷ 0 ∷ 1 ∷ []) $ done !))
