use Rattle.std.proofs.Common.{◌≡◌, ◌++◌, All, List, arith, length, map, take, drop, ap, sym, subst, ◌∙◌}
use Rattle.std.proofs.lemmas.List.{length-map}
use Rattle.kc_report.specs.Table.{MaySay}
use Rattle.kc_combine.specs.Aheads.{HaveLength, whences_of}
use Rattle.kc_combine.specs.CombinedTexts.{AreOpened, HasHeaderOf, header_of, source_of}
use Rattle.kc_combine.specs.OpenTables.{Gave, GaveAll, whence_of}
use Rattle.kc_combine.specs.WrittenTables.{StandAtStart}
use Rattle.kc_combine.proofs.CombinedTextLemmas.{as_long, combines_not, combines_texts, have_length, if_err, if_ok, joined_long, opened_long, said_each, stand_at_start, vec_after}
use Rattle.kc_combine.proofs.combined_texts.combine_texts.Goals as goal

pub header_of_all-requires-clause-some : goal.header_of_all-requires-clause-some
header_of_all-requires-clause-some g c =
    let olds = c.deref_mut.result.now in
    let long = opened_long g.S.Source.seen c.args.limit olds c.open_each.new.sources c.in_ok-openings.openings.items
    c.in_ok-openings.ensures.opened in
    let same = ap length c.deref.ensures.value in
    let given = ap length c.deref_mut.ensures.value in
    omega (arith, long.0, long.1, same, given, c.requires)

pub header_of_all-requires-clause-said : goal.header_of_all-requires-clause-said
header_of_all-requires-clause-said g c =
    subst (All (λ opening. MaySay opening.reading.origin)) (sym c.deref.ensures.value)
    (said_each g.S.Source.seen c.args.limit c.deref_mut.result.now c.open_each.new.sources c.in_ok-openings.openings.items
    c.in_ok-openings.ensures.opened)

pub with_sources-aheads-requires-clause-long : goal.with_sources-aheads-requires-clause-long
with_sources-aheads-requires-clause-long g c =
    let long = opened_long g.S.Source.seen c.args.limit c.deref_mut.result.now c.open_each.new.sources c.in_ok-openings.openings.items
    c.in_ok-openings.ensures.opened in
    let given = ap length c.deref_mut.ensures.value in
    rw c.replace-left.ensures.value (long.0 ∙ sym (ap length (vec_after c.args.sources.now.len c.open_each.new.sources c.args.sources.now.items
    (omega (arith, c.args.sources.now.ok)) (omega (arith, long.1, given)))))

pub write_combined-written-requires-clause-words : goal.write_combined-written-requires-clause-words
write_combined-written-requires-clause-words g c =
    let headed = subst (λ begun. HasHeaderOf c.args.combining (map header_of begun) c.in_ok-header.header) c.deref.ensures.value
    c.in_ok-header.ensures.header in
    subst (HaveLength whence_of c.in_ok-header.header.k) (sym c.deref_mut-2.ensures.value)
    (have_length g.S.Source.seen c.args.limit c.args.combining c.deref_mut.result.now c.replace-left.result.items
    c.in_ok-openings.openings.items c.in_ok-header.header c.with_sources-aheads.result.items c.with_sources-aheads.ensures
    headed)

pub put_back-requires-clause-room : goal.put_back-requires-clause-room
put_back-requires-clause-room g c =
    let limit = c.args.limit in
    let openings = c.in_ok-openings.openings.items in
    let aheads = c.with_sources-aheads.result.items in
    let afters = c.write_combined-written.new.aheads in
    let long = opened_long g.S.Source.seen limit c.deref_mut.result.now c.open_each.new.sources openings c.in_ok-openings.ensures.opened in
    let given = ap length c.deref_mut.ensures.value in
    let sources : c.replace-left.result.items ≡ c.open_each.new.sources =
    rw c.replace-left.ensures.value (vec_after c.args.sources.now.len c.open_each.new.sources c.args.sources.now.items
    (omega (arith, c.args.sources.now.ok)) (omega (arith, long.1, given))) in
    let sources_long = ap length sources in
    let joined_as_long = joined_long limit 1 c.replace-left.result.items openings aheads c.with_sources-aheads.ensures in
    let same = c.write_combined-written.ensures.same ∙ ap (whences_of whence_of) c.deref_mut-2.ensures.value in
    let walked = as_long aheads afters same in
    let back = vec_after c.with_sources-aheads.result.len afters aheads (omega (arith, c.with_sources-aheads.result.ok)) walked in
    let back_long = ap length back in
    rw c.replace-left.ensures.after (omega (
      arith,
      back_long,
      walked,
      joined_as_long,
      sources_long,
      long.1,
      given,
      c.in_ok-with_capacity.ensures.capacity,
      c.len-count.ensures,
      c.args.sources.now.ok,
    ))

pub returns-clause-combined : goal.returns-clause-combined
returns-clause-combined g c =
    let seen = g.S.Source.seen in
    let limit = c.args.limit in
    let openings = c.in_ok-openings.openings.items in
    let aheads = c.with_sources-aheads.result.items in
    let afters = c.write_combined-written.new.aheads in
    let long = opened_long seen limit c.deref_mut.result.now c.open_each.new.sources openings c.in_ok-openings.ensures.opened in
    let given = ap length c.deref_mut.ensures.value in
    let sources : c.replace-left.result.items ≡ c.open_each.new.sources =
    rw c.replace-left.ensures.value (vec_after c.args.sources.now.len c.open_each.new.sources c.args.sources.now.items
    (omega (arith, c.args.sources.now.ok)) (omega (arith, long.1, given))) in
    let opened = subst (λ olds. AreOpened seen limit olds c.replace-left.result.items openings) c.deref_mut.ensures.value
    (subst (λ news. AreOpened seen limit c.deref_mut.result.now news openings) (sym sources) c.in_ok-openings.ensures.opened) in
    let joined = c.with_sources-aheads.ensures in
    let headed = subst (λ begun. HasHeaderOf c.args.combining (map header_of begun) c.in_ok-header.header) c.deref.ensures.value
    c.in_ok-header.ensures.header in
    let start = subst (StandAtStart (Gave seen) (GaveAll seen)) (sym c.deref_mut-2.ensures.value)
    (stand_at_start seen limit 1 c.args.sources.now.items c.replace-left.result.items openings aheads opened joined) in
    let same = c.write_combined-written.ensures.same ∙ ap (whences_of whence_of) c.deref_mut-2.ensures.value in
    let back = vec_after c.with_sources-aheads.result.len afters aheads (omega (arith, c.with_sources-aheads.result.ok)) (as_long aheads afters same) in
    let put = c.put_back.ensures ∙ ap (map source_of) back in
    rw put (if_ok _ _ c.write_combined-written.result
    (combines_texts seen limit c.args.combining c.args.sources.now.items c.replace-left.result.items openings c.in_ok-header.header aheads afters
    (g.W.Sink.seen c.args.writer.now) (g.W.Sink.seen c.write_combined-written.new.writer) opened joined headed same)
    (c.write_combined-written.ensures.written start))

pub returns-clause-fault : goal.returns-clause-fault
returns-clause-fault g c =
    let seen = g.S.Source.seen in
    let limit = c.args.limit in
    let openings = c.in_ok-openings.openings.items in
    let aheads = c.with_sources-aheads.result.items in
    let afters = c.write_combined-written.new.aheads in
    let long = opened_long seen limit c.deref_mut.result.now c.open_each.new.sources openings c.in_ok-openings.ensures.opened in
    let given = ap length c.deref_mut.ensures.value in
    let sources : c.replace-left.result.items ≡ c.open_each.new.sources =
    rw c.replace-left.ensures.value (vec_after c.args.sources.now.len c.open_each.new.sources c.args.sources.now.items
    (omega (arith, c.args.sources.now.ok)) (omega (arith, long.1, given))) in
    let opened = subst (λ olds. AreOpened seen limit olds c.replace-left.result.items openings) c.deref_mut.ensures.value
    (subst (λ news. AreOpened seen limit c.deref_mut.result.now news openings) (sym sources) c.in_ok-openings.ensures.opened) in
    let joined = c.with_sources-aheads.ensures in
    let headed = subst (λ begun. HasHeaderOf c.args.combining (map header_of begun) c.in_ok-header.header) c.deref.ensures.value
    c.in_ok-header.ensures.header in
    let start = subst (StandAtStart (Gave seen) (GaveAll seen)) (sym c.deref_mut-2.ensures.value)
    (stand_at_start seen limit 1 c.args.sources.now.items c.replace-left.result.items openings aheads opened joined) in
    let same = c.write_combined-written.ensures.same ∙ ap (whences_of whence_of) c.deref_mut-2.ensures.value in
    let back = vec_after c.with_sources-aheads.result.len afters aheads (omega (arith, c.with_sources-aheads.result.ok)) (as_long aheads afters same) in
    let put = c.put_back.ensures ∙ ap (map source_of) back in
    rw put (if_err _ _ c.write_combined-written.result
    (combines_not seen limit c.args.combining c.args.sources.now.items c.replace-left.result.items openings c.in_ok-header.header aheads afters
    (g.W.Sink.seen c.args.writer.now) (g.W.Sink.seen c.write_combined-written.new.writer) opened joined headed same)
    (c.write_combined-written.ensures.fault start))

pub returns-clause-long : goal.returns-clause-long
returns-clause-long g c =
    let limit = c.args.limit in
    let openings = c.in_ok-openings.openings.items in
    let aheads = c.with_sources-aheads.result.items in
    let afters = c.write_combined-written.new.aheads in
    let long = opened_long g.S.Source.seen limit c.deref_mut.result.now c.open_each.new.sources openings c.in_ok-openings.ensures.opened in
    let given = ap length c.deref_mut.ensures.value in
    let sources : c.replace-left.result.items ≡ c.open_each.new.sources =
    rw c.replace-left.ensures.value (vec_after c.args.sources.now.len c.open_each.new.sources c.args.sources.now.items
    (omega (arith, c.args.sources.now.ok)) (omega (arith, long.1, given))) in
    let sources_long = ap length sources in
    let joined_as_long = joined_long limit 1 c.replace-left.result.items openings aheads c.with_sources-aheads.ensures in
    let same = c.write_combined-written.ensures.same ∙ ap (whences_of whence_of) c.deref_mut-2.ensures.value in
    let walked = as_long aheads afters same in
    let back = vec_after c.with_sources-aheads.result.len afters aheads (omega (arith, c.with_sources-aheads.result.ok)) walked in
    let back_long = ap length back in
    let put = ap length c.put_back.ensures in
    let mapped = length-map (take c.with_sources-aheads.result.len (afters ++ drop (length afters) aheads)) source_of in
    omega (arith, put, mapped, back_long, walked, joined_as_long, sources_long, long.1, given)
