use Rattle.std.proofs.Common.{◌≡◌, subst}
use Rattle.kc_select.specs.Pairs.{PairsSelector, keeps_pair}
use Rattle.kc_select.specs.SelectingPairs.{PairsTask}
use Rattle.kc_select.proofs.PairsLemmas.{IsFound, pair_judged}
use Rattle.kc_select.proofs.pair_selection.PairSelection.judge.Goals as goal

pub returns-clause-kept : goal.returns-clause-kept
returns-clause-kept c =
    let by = c.self.inside.selector.now in
    let selector : PairsSelector = record { by = by; asked = c.self.inside.asked } in
    let rule = c.selection-selection.result in
    let first : IsFound by rule c.args.reads.now.first c.has_share.result =
    record { count = c.count_words-first.result.words; count_solid = c.count_words-first.result.solid; words = c.count_words-first.ensures.words; solid = c.count_words-first.ensures.solid; enough = c.has_share.ensures } in
    let second : IsFound by rule c.args.reads.now.second c.has_share-2.result =
    record { count = c.count_words-second.result.words; count_solid = c.count_words-second.result.solid; words = c.count_words-second.ensures.words; solid = c.count_words-second.ensures.solid; enough = c.has_share-2.ensures } in
    subst (λ (t : PairsTask).
    c.keeps-is_kept.result ≡ keeps_pair t.selector c.args.reads.now.first c.args.reads.now.second) c.self.view_is
    (pair_judged selector rule c.args.reads.now.first c.args.reads.now.second c.has_share.result c.has_share-2.result
    c.is_met-is_solid.result c.keeps-is_kept.result c.selection-selection.ensures first second c.is_met-is_solid.ensures
    c.keeps-is_kept.ensures)
