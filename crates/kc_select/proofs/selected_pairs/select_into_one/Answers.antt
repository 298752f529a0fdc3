use Rattle.std.proofs.Common.{[], ◌≤◌, refl, arith}
use Rattle.std.proofs.lemmas.Result.{err_from_is_err_and}
use Rattle.kc_io.specs.Sources.{Seen}
use Rattle.kc_io.specs.Sinks.{HasWritten, HasBegun, Drains}
use Rattle.kc_fastx.specs.declared.read_faults.FastxFault.TheVariants.{Memory}
use Rattle.kc_fastx.specs.Reading.{Stand, first_stand}
use Rattle.kc_fastx.proofs.ReadingLemmas.{begun_in_vain, used_within}
use Rattle.kc_select.specs.declared.pair_fault.PairFault.TheVariants.{Reads}
use Rattle.kc_select.specs.declared.sides.Side.TheVariants.{First}
use Rattle.kc_select.specs.declared.sides.Sides.{Sides}
use Rattle.kc_select.specs.Pairs.{pair_of, text_of_both, interleaved_text}
use Rattle.kc_select.proofs.PairingLemmas.{pairing_none, pairing_more, pairing_breaks, pairing_ends, pairing_fails}
use Rattle.kc_select.proofs.PairingLemmas.{next_number, pairs_fit, bytes_fit, put_more, begun_more}
use Rattle.kc_select.proofs.PairsLemmas.{fewer_before}
use Rattle.kc_select.proofs.ProfileLemmas.{drains_as}
use Rattle.kc_select.proofs.TextLemmas.{drains_none, drains_wrote, drains_failed}
use Rattle.kc_select.proofs.selected_pairs.select_into_one.Goals as goal

pub returns-in_default : goal.returns-in_default
returns-in_default g c =
    let wrote = g.W.Sink.seen in
    let task = c.args.selection.now in
    let start : Sides Seen = record { first = g.S.Source.seen c.args.first.now; second = g.T.Source.seen c.args.second.now } in
    let stands : Sides Stand = record { first = first_stand task.limit; second = first_stand task.limit } in
    let was = wrote c.args.writer.now in
    let is = wrote c.write_out.new.writer in
    let block = c.new-block.result in
    let put = drains_as c.new-block.ensures (drains_none was []) in
    let none = pairing_none task start stands (λ these. Drains was was (interleaved_text task.selector these) block)
    c.none-counts.result refl c.none-counts.ensures put in
    let w = rw c.as_slice.ensures at c.write_out.ensures in
    pairing_fails none start (λ these. HasWritten was is (interleaved_text task.selector these))
    (λ these. HasBegun was is (interleaved_text task.selector these)) (Reads First Memory) c.write_out.result
    c.answer_after.result ((first_stand task.limit, begun_in_vain start.first task.limit, tt), (first_stand task.limit, none.given.second))
    (drains_wrote was was is (interleaved_text task.selector none.these) block c.write_out.result none.put w)
    (drains_failed was was is (interleaved_text task.selector none.these) block c.write_out.result none.put w)
    c.answer_after.ensures

pub pairs-init : goal.pairs-init
pairs-init g c =
    let task = c.args.selection.now in
    let start : Sides Seen = record { first = g.S.Source.seen c.args.first.now; second = g.T.Source.seen c.args.second.now } in
    let was = g.W.Sink.seen c.args.writer.now in
    pairing_none task start c.in-Ok.reading.stands
    (λ these. Drains was was (interleaved_text task.selector these) c.new-block.result) c.none-counts.result
    (rw c.limit.ensures at c.in-Ok.ensures) c.none-counts.ensures (drains_as c.new-block.ensures (drains_none was []))

pub returns-in_err-judged-in-Ok-Some : goal.returns-in_err-judged-in-Ok-Some
returns-in_err-judged-in-Ok-Some g c =
    let wrote = g.W.Sink.seen in
    let s = c.pairs.invariant in
    let selector = c.args.selection.now.selector in
    let reader = c.next_pair.new.self in
    let new : Sides Seen = record { first = g.S.Source.seen c.next_pair.new.first; second = g.T.Source.seen c.next_pair.new.second } in
    let given = rw c.in-Ok-Some.field-0-is at c.in-Ok-Some.ensures.given _ _ s.these s.given in
    let this = pair_of reader.titles c.in-Ok-Some.reads in
    let was = wrote c.args.writer.now in
    let is = wrote c.put_in_one.new.writer in
    let p = err_from_is_err_and c.from_residual.result c.from_residual.ensures.1 in
    rw (p.1, p.2) (pairing_breaks s new reader (λ these. HasWritten was is (interleaved_text selector these))
    (λ these. HasBegun was is (interleaved_text selector these)) c.in-Ok-Some.reads given
    (begun_more selector (λ q. text_of_both selector q) s.these this was (wrote c.pairs.writer) is c.pairs.block s.put
    c.in_err-judged-in-Ok-Some.ensures.err))

pub plus-requires-clause-kept : goal.plus-requires-clause-kept
plus-requires-clause-kept g c =
    let s = c.pairs.invariant in
    let given = rw c.in-Ok-Some.field-0-is at c.in-Ok-Some.ensures.given _ _ s.these s.given in
    let more = rw c.in-Ok-Some.field-0-is at c.in-Ok-Some.ensures.used in
    let k = rw c.selector.ensures at c.k.ensures in
    let some : 1 ≤ c.args.selection.now.selector.by.tally.k = omega (arith, c.get-bases.ensures.some, k) in
    let few = pairs_fit s _ c.next_pair.new.self c.in-Ok-Some.reads c.in_ok-judged-in-Ok-Some.judged some c.requires given
    c.in_ok-judged-in-Ok-Some.ensures.counts more in
    (fewer_before _ _ few).kept

pub plus-requires-clause-words : goal.plus-requires-clause-words
plus-requires-clause-words g c =
    let s = c.pairs.invariant in
    let given = rw c.in-Ok-Some.field-0-is at c.in-Ok-Some.ensures.given _ _ s.these s.given in
    let more = rw c.in-Ok-Some.field-0-is at c.in-Ok-Some.ensures.used in
    let k = rw c.selector.ensures at c.k.ensures in
    let some : 1 ≤ c.args.selection.now.selector.by.tally.k = omega (arith, c.get-bases.ensures.some, k) in
    let few = pairs_fit s _ c.next_pair.new.self c.in-Ok-Some.reads c.in_ok-judged-in-Ok-Some.judged some c.requires given
    c.in_ok-judged-in-Ok-Some.ensures.counts more in
    (fewer_before _ _ few).words

pub plus-requires-clause-solid : goal.plus-requires-clause-solid
plus-requires-clause-solid g c =
    let s = c.pairs.invariant in
    let given = rw c.in-Ok-Some.field-0-is at c.in-Ok-Some.ensures.given _ _ s.these s.given in
    let more = rw c.in-Ok-Some.field-0-is at c.in-Ok-Some.ensures.used in
    let k = rw c.selector.ensures at c.k.ensures in
    let some : 1 ≤ c.args.selection.now.selector.by.tally.k = omega (arith, c.get-bases.ensures.some, k) in
    let few = pairs_fit s _ c.next_pair.new.self c.in-Ok-Some.reads c.in_ok-judged-in-Ok-Some.judged some c.requires given
    c.in_ok-judged-in-Ok-Some.ensures.counts more in
    (fewer_before _ _ few).solid

pub plus-counts-requires-clause-kept : goal.plus-counts-requires-clause-kept
plus-counts-requires-clause-kept g c =
    let s = c.pairs.invariant in
    let given = rw c.in-Ok-Some.field-0-is at c.in-Ok-Some.ensures.given _ _ s.these s.given in
    let more = rw c.in-Ok-Some.field-0-is at c.in-Ok-Some.ensures.used in
    let k = rw c.selector.ensures at c.k.ensures in
    let some : 1 ≤ c.args.selection.now.selector.by.tally.k = omega (arith, c.get-bases.ensures.some, k) in
    let few = pairs_fit s _ c.next_pair.new.self c.in-Ok-Some.reads c.in_ok-judged-in-Ok-Some.judged some c.requires given
    c.in_ok-judged-in-Ok-Some.ensures.counts more in
    rw c.plus.ensures few.kept

pub plus-counts-requires-clause-words : goal.plus-counts-requires-clause-words
plus-counts-requires-clause-words g c =
    let s = c.pairs.invariant in
    let given = rw c.in-Ok-Some.field-0-is at c.in-Ok-Some.ensures.given _ _ s.these s.given in
    let more = rw c.in-Ok-Some.field-0-is at c.in-Ok-Some.ensures.used in
    let k = rw c.selector.ensures at c.k.ensures in
    let some : 1 ≤ c.args.selection.now.selector.by.tally.k = omega (arith, c.get-bases.ensures.some, k) in
    let few = pairs_fit s _ c.next_pair.new.self c.in-Ok-Some.reads c.in_ok-judged-in-Ok-Some.judged some c.requires given
    c.in_ok-judged-in-Ok-Some.ensures.counts more in
    rw c.plus.ensures few.words

pub plus-counts-requires-clause-solid : goal.plus-counts-requires-clause-solid
plus-counts-requires-clause-solid g c =
    let s = c.pairs.invariant in
    let given = rw c.in-Ok-Some.field-0-is at c.in-Ok-Some.ensures.given _ _ s.these s.given in
    let more = rw c.in-Ok-Some.field-0-is at c.in-Ok-Some.ensures.used in
    let k = rw c.selector.ensures at c.k.ensures in
    let some : 1 ≤ c.args.selection.now.selector.by.tally.k = omega (arith, c.get-bases.ensures.some, k) in
    let few = pairs_fit s _ c.next_pair.new.self c.in-Ok-Some.reads c.in_ok-judged-in-Ok-Some.judged some c.requires given
    c.in_ok-judged-in-Ok-Some.ensures.counts more in
    rw c.plus.ensures few.solid

pub pairs-smaller-in_ok-judged-in-Ok-Some : goal.pairs-smaller-in_ok-judged-in-Ok-Some
pairs-smaller-in_ok-judged-in-Ok-Some g c =
    let s = c.pairs.invariant in
    let given = rw c.in-Ok-Some.field-0-is at c.in-Ok-Some.ensures.given _ _ s.these s.given in
    let more = rw c.in-Ok-Some.field-0-is at c.in-Ok-Some.ensures.used in
    omega (
      arith,
      more,
      used_within _ _ c.args.selection.now.limit _ c.next_pair.new.self.stands.first given.first.given,
    )

pub pairs-smaller : goal.pairs-smaller
pairs-smaller g c =
    let s = c.pairs.invariant in
    let given = rw c.in-Ok-Some.field-0-is at c.in-Ok-Some.ensures.given _ _ s.these s.given in
    let more = rw c.in-Ok-Some.field-0-is at c.in-Ok-Some.ensures.used in
    omega (
      arith,
      more,
      used_within _ _ c.args.selection.now.limit _ c.next_pair.new.self.stands.first given.first.given,
    )

pub pairs-preserved-in_ok-judged-in-Ok-Some : goal.pairs-preserved-in_ok-judged-in-Ok-Some
pairs-preserved-in_ok-judged-in-Ok-Some g c =
    let wrote = g.W.Sink.seen in
    let s = c.pairs.invariant in
    let selector = c.args.selection.now.selector in
    let reader = c.next_pair.new.self in
    let new : Sides Seen = record { first = g.S.Source.seen c.next_pair.new.first; second = g.T.Source.seen c.next_pair.new.second } in
    let given = rw c.in-Ok-Some.field-0-is at c.in-Ok-Some.ensures.given _ _ s.these s.given in
    let more = rw c.in-Ok-Some.field-0-is at c.in-Ok-Some.ensures.used in
    let this = pair_of reader.titles c.in-Ok-Some.reads in
    let was = wrote c.args.writer.now in
    let is = wrote c.put_in_one.new.writer in
    let left = c.put_in_one.new.block in
    pairing_more s new reader (λ these. Drains was is (interleaved_text selector these) left) c.in-Ok-Some.reads
    c.in_ok-judged-in-Ok-Some.judged c.plus-counts.result given c.in_ok-judged-in-Ok-Some.ensures.counts
    (rw c.plus.ensures at c.plus-counts.ensures) more
    (put_more selector (λ q. text_of_both selector q) s.these this was (wrote c.pairs.writer) is c.pairs.block left s.put
    c.in_ok-judged-in-Ok-Some.ensures.ok)

pub pairs-preserved : goal.pairs-preserved
pairs-preserved g c =
    let wrote = g.W.Sink.seen in
    let s = c.pairs.invariant in
    let selector = c.args.selection.now.selector in
    let reader = c.next_pair.new.self in
    let new : Sides Seen = record { first = g.S.Source.seen c.next_pair.new.first; second = g.T.Source.seen c.next_pair.new.second } in
    let given = rw c.in-Ok-Some.field-0-is at c.in-Ok-Some.ensures.given _ _ s.these s.given in
    let more = rw c.in-Ok-Some.field-0-is at c.in-Ok-Some.ensures.used in
    let this = pair_of reader.titles c.in-Ok-Some.reads in
    let was = wrote c.args.writer.now in
    let is = wrote c.put_in_one.new.writer in
    let left = c.put_in_one.new.block in
    pairing_more s new reader (λ these. Drains was is (interleaved_text selector these) left) c.in-Ok-Some.reads
    c.in_ok-judged-in-Ok-Some.judged c.plus-counts.result given c.in_ok-judged-in-Ok-Some.ensures.counts
    (rw c.plus.ensures at c.plus-counts.ensures) more
    (put_more selector (λ q. text_of_both selector q) s.these this was (wrote c.pairs.writer) is c.pairs.block left s.put
    c.in_ok-judged-in-Ok-Some.ensures.ok)

pub byte_count-bytes-requires-clause-first : goal.byte_count-bytes-requires-clause-first
byte_count-bytes-requires-clause-first g c =
    let s = c.pairs.invariant in
    let end = rw c.in-Ok-None.field-0-is at c.in-Ok-None.ensures.given _ _ s.these s.given in end.0.first.given.unfailed

pub byte_count-bytes-requires-clause-second : goal.byte_count-bytes-requires-clause-second
byte_count-bytes-requires-clause-second g c =
    let s = c.pairs.invariant in
    let end = rw c.in-Ok-None.field-0-is at c.in-Ok-None.ensures.given _ _ s.these s.given in end.0.second.given.unfailed

pub byte_count-bytes-requires-clause-few : goal.byte_count-bytes-requires-clause-few
byte_count-bytes-requires-clause-few g c =
    let s = c.pairs.invariant in
    let end = rw c.in-Ok-None.field-0-is at c.in-Ok-None.ensures.given _ _ s.these s.given in bytes_fit end.0 c.requires

pub returns-in-Ok-None : goal.returns-in-Ok-None
returns-in-Ok-None g c =
    let wrote = g.W.Sink.seen in
    let s = c.pairs.invariant in
    let selector = c.args.selection.now.selector in
    let new : Sides Seen = record { first = g.S.Source.seen c.next_pair.new.first; second = g.T.Source.seen c.next_pair.new.second } in
    let end = rw c.in-Ok-None.field-0-is at c.in-Ok-None.ensures.given _ _ s.these s.given in
    let was = wrote c.args.writer.now in
    let now = wrote c.pairs.writer in
    let is = wrote c.write_out-in-Ok-None.new.writer in
    let text = interleaved_text selector s.these in
    let w = rw c.as_slice-in-Ok-None.ensures at c.write_out-in-Ok-None.ensures in
    let answer = c.write_out-in-Ok-None.result in
    pairing_ends s new c.next_pair.new.self (λ these. HasWritten was is (interleaved_text selector these))
    (λ these. HasBegun was is (interleaved_text selector these)) c.byte_count-bytes.result answer
    c.answer_after-in-Ok-None.result end.0 end.1 end.2 c.byte_count-bytes.ensures
    (drains_wrote was now is text c.pairs.block answer s.put w) (drains_failed was now is text c.pairs.block answer s.put w)
    c.answer_after-in-Ok-None.ensures

pub returns-in-Err : goal.returns-in-Err
returns-in-Err g c =
    let wrote = g.W.Sink.seen in
    let s = c.pairs.invariant in
    let selector = c.args.selection.now.selector in
    let new : Sides Seen = record { first = g.S.Source.seen c.next_pair.new.first; second = g.T.Source.seen c.next_pair.new.second } in
    let was = wrote c.args.writer.now in
    let now = wrote c.pairs.writer in
    let is = wrote c.write_out-in-Err.new.writer in
    let text = interleaved_text selector s.these in
    let w = rw c.as_slice-in-Err.ensures at c.write_out-in-Err.ensures in
    let answer = c.write_out-in-Err.result in
    pairing_fails s new (λ these. HasWritten was is (interleaved_text selector these))
    (λ these. HasBegun was is (interleaved_text selector these)) c.in-Err.fault answer c.answer_after-in-Err.result
    (c.in-Err.ensures.given _ _ s.these s.given (next_number s))
    (drains_wrote was now is text c.pairs.block answer s.put w) (drains_failed was now is text c.pairs.block answer s.put w)
    c.answer_after-in-Err.ensures
