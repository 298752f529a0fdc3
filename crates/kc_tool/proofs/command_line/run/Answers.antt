use Rattle.std.proofs.Common.{◌∙◌, [], inl, inr, map, refl, string_bytes, sym}
use Rattle.kc_tool.proofs.CommandLineLemmas.{are_apart, asked_for, command_done, command_ended, may_explain, parse_ends, refused_apart, shown, still_closing, unsaid, verb_known}
use Rattle.kc_tool.proofs.command_line.run.Goals as goal

pub returns-in_default-clause-texts : goal.returns-in_default-clause-texts
returns-in_default-clause-texts g c =
    rw c.in-Ok.is (record { explained = []; may = inl refl; ends = c.tell_end.ensures.ends _ _ _ _ (inr (inr (refl, refl))) tt })

pub returns-in-Err-try_get_matches_from-clause-texts : goal.returns-in-Err-try_get_matches_from-clause-texts
returns-in-Err-try_get_matches_from-clause-texts g c =
    let texts = map string_bytes c.deref.result.now in
    let parsed = parse_ends _ texts c.try_get_matches_from.result c.in-Ok-command.ensures c.try_get_matches_from.ensures.kinds c.try_get_matches_from.ensures.matches in
    let refused = rw c.in-Err-try_get_matches_from.is at parsed.1 in
    rw (c.in-Ok.is, sym c.deref.ensures.value)
    (record {
      explained = [];
      may = inl refl;
      ends = c.tell_end-in-Err-try_get_matches_from.ensures.ends _ texts _ _
          (shown (g.R.Source.seen c.args.input.now) c.args.files.now texts c.in-Err-try_get_matches_from.error _ _ c.show.result refused c.show.ensures)
          (unsaid c.in-Err-try_get_matches_from.error _ _ _ texts c.show.result c.show.ensures);
    })

pub unreachable-requires-in_default-verb_named : goal.unreachable-requires-in_default-verb_named
unreachable-requires-in_default-verb_named g c =
    let parsed = parse_ends _ (map string_bytes c.deref.result.now) c.try_get_matches_from.result c.in-Ok-command.ensures c.try_get_matches_from.ensures.kinds c.try_get_matches_from.ensures.matches in
    let taken = rw c.in-Ok-try_get_matches_from.is at parsed.0 in
    verb_known taken c.in-Some.ensures.name (sym c.verb_named.ensures ∙ c.in_default-verb_named.is)

pub returns-clause-texts : goal.returns-clause-texts
returns-clause-texts g c =
    let texts = map string_bytes c.deref.result.now in
    let parsed = parse_ends _ texts c.try_get_matches_from.result c.in-Ok-command.ensures c.try_get_matches_from.ensures.kinds c.try_get_matches_from.ensures.matches in
    let taken = rw c.in-Ok-try_get_matches_from.is at parsed.0 in
    let asked = asked_for taken c.in-Some.ensures.name c.in-Some.ensures.rows c.in-Some-verb_named.ensures in
    let done = command_done asked c.in_default-conflict_of.ensures c.run_command-ended.ensures in
    let said = rw (sym c.as_bytes.ensures) at c.closing_remark-said.ensures.asked in
    let closes = rw (sym c.as_bytes.ensures) at c.closing_remark-said.ensures.closing in
    let may = may_explain c.in-Ok-try_get_matches_from.matches _ _ taken c.in-Some.ensures.rows said in
    rw (c.in-Ok.is, sym c.deref.ensures.value)
    (record {
      explained = _;
      may = may;
      ends = c.tell_end-2.ensures.ends _ texts _ _ (command_ended c.run_command-ended.result c.map_err.result c.map_err.ensures.cases done)
          (still_closing _ texts c.in-Ok-try_get_matches_from.matches _ taken c.in-Some.ensures.rows _ c.run_command-ended.result
          c.map_err.result c.map_err.ensures.cases closes);
    })

pub returns-in-Some-conflict_of-clause-texts : goal.returns-in-Some-conflict_of-clause-texts
returns-in-Some-conflict_of-clause-texts g c =
    let texts = map string_bytes c.deref.result.now in
    let parsed = parse_ends _ texts c.try_get_matches_from.result c.in-Ok-command.ensures c.try_get_matches_from.ensures.kinds c.try_get_matches_from.ensures.matches in
    let taken = rw c.in-Ok-try_get_matches_from.is at parsed.0 in
    let asked = asked_for taken c.in-Some.ensures.name c.in-Some.ensures.rows c.in-Some-verb_named.ensures in
    rw (c.in-Ok.is, sym c.deref.ensures.value)
    (record {
      explained = [];
      may = inl refl;
      ends = c.tell_end-in-Some-conflict_of.ensures.ends _ texts _ _ (refused_apart _ c.ending_of_conflict.result (are_apart c.in-Some-conflict_of.conflict c.in-Some-verb_named.verb asked c.in-Some-conflict_of.ensures) c.ending_of_conflict.ensures) tt;
    })
