use Rattle.std.proofs.Common.{◌≡◌, All, arith, length, map, ap, sym, subst, ◌∙◌}
use Rattle.kc_report.specs.Table.{MaySay}
use Rattle.kc_combine.specs.Aheads.{whences_of}
use Rattle.kc_combine.specs.CombinedTexts.{AreOpened, HasHeaderOf, header_of}
use Rattle.kc_combine.specs.OpenTables.{Gave, GaveAll, whence_of}
use Rattle.kc_combine.specs.Walks.{HaveVisited}
use Rattle.kc_combine.specs.WrittenTables.{StandAtStart}
use Rattle.kc_combine.specs.declared.combining.Combining.TheVariants.{Intersect}
use Rattle.kc_combine.specs.declared.combining_rules.Take.TheVariants.{Least}
use Rattle.kc_combine.proofs.CombinedTextLemmas.{fails_one, joined_long, opened_long, said_each, stand_at_start, vec_after}
use Rattle.kc_combine.proofs.VisitedTextLemmas.{back_again, back_as_long, visits_texts}
use Rattle.kc_combine.proofs.visited_texts.visit_texts.Goals as goal

pub header_of_all-requires-clause-some : goal.header_of_all-requires-clause-some
header_of_all-requires-clause-some g c =
    let olds = c.deref_mut.result.now in
    let long = opened_long g.S.Source.seen c.args.limit olds c.open_each.new.sources c.in_ok-openings.openings.items
    c.in_ok-openings.ensures.opened in
    let same = ap length c.deref.ensures.value in
    let given = ap length c.deref_mut.ensures.value in
    omega (arith, long.0, long.1, same, given, c.requires)

pub header_of_all-requires-clause-said : goal.header_of_all-requires-clause-said
header_of_all-requires-clause-said g c =
    subst (All (λ opening. MaySay opening.reading.origin)) (sym c.deref.ensures.value)
    (said_each g.S.Source.seen c.args.limit c.deref_mut.result.now c.open_each.new.sources c.in_ok-openings.openings.items
    c.in_ok-openings.ensures.opened)

pub with_sources-aheads-requires-clause-long : goal.with_sources-aheads-requires-clause-long
with_sources-aheads-requires-clause-long g c =
    let long = opened_long g.S.Source.seen c.args.limit c.deref_mut.result.now c.open_each.new.sources c.in_ok-openings.openings.items
    c.in_ok-openings.ensures.opened in
    let given = ap length c.deref_mut.ensures.value in
    rw c.replace-left.ensures.value (long.0 ∙ sym (ap length (vec_after c.args.sources.now.len c.open_each.new.sources c.args.sources.now.items
    (omega (arith, c.args.sources.now.ok)) (omega (arith, long.1, given)))))

pub visit_words-visited-requires : goal.visit_words-visited-requires
visit_words-visited-requires g c =
    let openings = c.in_ok-openings.openings.items in
    let long = opened_long g.S.Source.seen c.args.limit c.deref_mut.result.now c.open_each.new.sources openings c.in_ok-openings.ensures.opened in
    let given = ap length c.deref_mut.ensures.value in
    let left : c.replace-left.result.items ≡ c.open_each.new.sources =
    rw c.replace-left.ensures.value (vec_after c.args.sources.now.len c.open_each.new.sources c.args.sources.now.items
    (omega (arith, c.args.sources.now.ok)) (omega (arith, long.1, given))) in
    let left_long = ap length left in
    let joined = joined_long c.args.limit 1 c.replace-left.result.items openings c.with_sources-aheads.result.items c.with_sources-aheads.ensures in
    let aheads = ap length c.deref_mut-2.ensures.value in
    let counts = ap length c.deref_mut-3.ensures.value in
    omega (arith, long.1, given, left_long, joined, aheads, counts, c.in_ok-counts.ensures, c.len.ensures, c.args.sources.now.ok)

pub put_back-requires-clause-room : goal.put_back-requires-clause-room
put_back-requires-clause-room g c =
    let openings = c.in_ok-openings.openings.items in
    let aheads = c.with_sources-aheads.result.items in
    let afters = c.visit_words-visited.new.aheads in
    let long = opened_long g.S.Source.seen c.args.limit c.deref_mut.result.now c.open_each.new.sources openings c.in_ok-openings.ensures.opened in
    let given = ap length c.deref_mut.ensures.value in
    let left : c.replace-left.result.items ≡ c.open_each.new.sources =
    rw c.replace-left.ensures.value (vec_after c.args.sources.now.len c.open_each.new.sources c.args.sources.now.items
    (omega (arith, c.args.sources.now.ok)) (omega (arith, long.1, given))) in
    let left_long = ap length left in
    let joined = joined_long c.args.limit 1 c.replace-left.result.items openings aheads c.with_sources-aheads.ensures in
    let walked = c.visit_words-visited.ensures.long ∙ ap length c.deref_mut-2.ensures.value in
    let back = vec_after c.with_sources-aheads.result.len afters aheads (omega (arith, c.with_sources-aheads.result.ok)) walked in
    let back_long = ap length back in
    rw c.replace-left.ensures.after (omega (
      arith,
      back_long,
      walked,
      joined,
      left_long,
      long.1,
      given,
      c.in_ok-with_capacity.ensures.capacity,
      c.len-count.ensures,
      c.args.sources.now.ok,
    ))

pub returns-in-Ok-clause-visited : goal.returns-in-Ok-clause-visited
returns-in-Ok-clause-visited g c = λ none.
    let seen = g.S.Source.seen in
    let limit = c.args.limit in
    let olds = c.args.sources.now.items in
    let openings = c.in_ok-openings.openings.items in
    let aheads = c.with_sources-aheads.result.items in
    let afters = c.visit_words-visited.new.aheads in
    let visited = g.V.VisitsWords.visited c.visit_words-visited.new.visitor in
    let long = opened_long seen limit c.deref_mut.result.now c.open_each.new.sources openings c.in_ok-openings.ensures.opened in
    let given = ap length c.deref_mut.ensures.value in
    let left : c.replace-left.result.items ≡ c.open_each.new.sources =
    rw c.replace-left.ensures.value (vec_after c.args.sources.now.len c.open_each.new.sources olds
    (omega (arith, c.args.sources.now.ok)) (omega (arith, long.1, given))) in
    let opened = subst (λ olds. AreOpened seen limit olds c.replace-left.result.items openings) c.deref_mut.ensures.value
    (subst (λ news. AreOpened seen limit c.deref_mut.result.now news openings) (sym left) c.in_ok-openings.ensures.opened) in
    let joined = c.with_sources-aheads.ensures in
    let headed = subst (λ begun. HasHeaderOf (Intersect (record { take = Least })) (map header_of begun) c.in_ok-header_of_all.field-0)
    c.deref.ensures.value c.in_ok-header_of_all.ensures.header in
    let start = subst (StandAtStart (Gave seen) (GaveAll seen)) (sym c.deref_mut-2.ensures.value)
    (stand_at_start seen limit 1 olds c.replace-left.result.items openings aheads opened joined) in
    let same = c.visit_words-visited.ensures.same ∙ ap (whences_of whence_of) c.deref_mut-2.ensures.value in
    let walked = c.visit_words-visited.ensures.long ∙ ap length c.deref_mut-2.ensures.value in
    let put = back_again c.with_sources-aheads.result.len c.put_back.new.sources.items aheads afters c.put_back.ensures
    (omega (arith, c.with_sources-aheads.result.ok)) walked in
    rw put (visits_texts seen limit (record { take = Least }) visited olds c.replace-left.result.items openings
    c.in_ok-header_of_all.field-0 aheads afters opened joined headed same
    (subst (λ before. HaveVisited (GaveAll seen) whence_of visited before afters) c.deref_mut-2.ensures.value
    (c.in-Ok.ensures.visited start none)))

pub returns-in-Ok-clause-long : goal.returns-in-Ok-clause-long
returns-in-Ok-clause-long g c =
    let openings = c.in_ok-openings.openings.items in
    let aheads = c.with_sources-aheads.result.items in
    let afters = c.visit_words-visited.new.aheads in
    let long = opened_long g.S.Source.seen c.args.limit c.deref_mut.result.now c.open_each.new.sources openings c.in_ok-openings.ensures.opened in
    let given = ap length c.deref_mut.ensures.value in
    let left : c.replace-left.result.items ≡ c.open_each.new.sources =
    rw c.replace-left.ensures.value (vec_after c.args.sources.now.len c.open_each.new.sources c.args.sources.now.items
    (omega (arith, c.args.sources.now.ok)) (omega (arith, long.1, given))) in
    let walked = c.visit_words-visited.ensures.long ∙ ap length c.deref_mut-2.ensures.value in
    let put = back_again c.with_sources-aheads.result.len c.put_back.new.sources.items aheads afters c.put_back.ensures
    (omega (arith, c.with_sources-aheads.result.ok)) walked in
    back_as_long c.args.limit c.replace-left.result.items c.put_back.new.sources.items openings aheads afters c.with_sources-aheads.ensures
    walked put ∙ ap length left ∙ long.1 ∙ given

pub returns-clause-fault : goal.returns-clause-fault
returns-clause-fault g c =
    let seen = g.S.Source.seen in
    let limit = c.args.limit in
    let olds = c.args.sources.now.items in
    let openings = c.in_ok-openings.openings.items in
    let aheads = c.with_sources-aheads.result.items in
    let afters = c.visit_words-visited.new.aheads in
    let long = opened_long seen limit c.deref_mut.result.now c.open_each.new.sources openings c.in_ok-openings.ensures.opened in
    let given = ap length c.deref_mut.ensures.value in
    let left : c.replace-left.result.items ≡ c.open_each.new.sources =
    rw c.replace-left.ensures.value (vec_after c.args.sources.now.len c.open_each.new.sources olds
    (omega (arith, c.args.sources.now.ok)) (omega (arith, long.1, given))) in
    let opened = subst (λ olds. AreOpened seen limit olds c.replace-left.result.items openings) c.deref_mut.ensures.value
    (subst (λ news. AreOpened seen limit c.deref_mut.result.now news openings) (sym left) c.in_ok-openings.ensures.opened) in
    let joined = c.with_sources-aheads.ensures in
    let start = subst (StandAtStart (Gave seen) (GaveAll seen)) (sym c.deref_mut-2.ensures.value)
    (stand_at_start seen limit 1 olds c.replace-left.result.items openings aheads opened joined) in
    let same = c.visit_words-visited.ensures.same ∙ ap (whences_of whence_of) c.deref_mut-2.ensures.value in
    let walked = c.visit_words-visited.ensures.long ∙ ap length c.deref_mut-2.ensures.value in
    let put = back_again c.with_sources-aheads.result.len c.put_back.new.sources.items aheads afters c.put_back.ensures
    (omega (arith, c.with_sources-aheads.result.ok)) walked in
    let fails = c.in-Err.ensures.fault start in
    rw put (fails_one seen limit 1 olds c.replace-left.result.items openings aheads afters fails.0 c.in-Err.fault opened joined same fails.1)

pub returns-clause-long : goal.returns-clause-long
returns-clause-long g c =
    let openings = c.in_ok-openings.openings.items in
    let aheads = c.with_sources-aheads.result.items in
    let afters = c.visit_words-visited.new.aheads in
    let long = opened_long g.S.Source.seen c.args.limit c.deref_mut.result.now c.open_each.new.sources openings c.in_ok-openings.ensures.opened in
    let given = ap length c.deref_mut.ensures.value in
    let left : c.replace-left.result.items ≡ c.open_each.new.sources =
    rw c.replace-left.ensures.value (vec_after c.args.sources.now.len c.open_each.new.sources c.args.sources.now.items
    (omega (arith, c.args.sources.now.ok)) (omega (arith, long.1, given))) in
    let walked = c.visit_words-visited.ensures.long ∙ ap length c.deref_mut-2.ensures.value in
    let put = back_again c.with_sources-aheads.result.len c.put_back.new.sources.items aheads afters c.put_back.ensures
    (omega (arith, c.with_sources-aheads.result.ok)) walked in
    back_as_long c.args.limit c.replace-left.result.items c.put_back.new.sources.items openings aheads afters c.with_sources-aheads.ensures
    walked put ∙ ap length left ∙ long.1 ∙ given
