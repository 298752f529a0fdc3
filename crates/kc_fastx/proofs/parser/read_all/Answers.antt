use Rattle.std.proofs.Common.{[], arith, sym, subst}
use Rattle.std.proofs.lemmas.Result.{err_from_is_err_and}
use Rattle.kc_fastx.proofs.ReadingLemmas.{begun_in_vain, given_in_vain, given_none, used_within, base_count-gives}
use Rattle.kc_fastx.specs.Reading.{HasGiven}
use Rattle.kc_fastx.proofs.parser.read_all.Goals as goal

pub reads-init : goal.reads-init
reads-init g c =
    let start = g.R.Source.seen c.args.reader.now in
    subst (λ reads. HasGiven start start c.args.limit reads c.in_ok-reading.reading) (sym c.new-reads.ensures.items)
    (subst (λ stand. HasGiven start start c.args.limit [] stand) (sym c.in_ok-reading.ensures) (given_none start c.args.limit))

pub returns-in_err-reading-clause-fault : goal.returns-in_err-reading-clause-fault
returns-in_err-reading-clause-fault g c =
    let p = err_from_is_err_and c.from_residual.result c.from_residual.ensures.1 in
    rw (p.1, p.2) (begun_in_vain (g.R.Source.seen c.args.reader.now) c.args.limit)

pub reads-smaller : goal.reads-smaller
reads-smaller g c =
    let seen = g.R.Source.seen in
    let next = rw c.in-Ok-Some.field-0-is at c.in-Ok-Some.ensures.given
    (seen c.args.reader.now) c.args.limit c.reads.reads.items c.reads.invariant in
    let within = used_within (seen c.args.reader.now) (seen c.next_read.new.source) c.args.limit _
    c.next_read.new.self next in
    let more = rw c.in-Ok-Some.field-0-is at c.in-Ok-Some.ensures.used in
    omega (arith, within, more)

pub returns-in_err-push-in-Ok-Some-clause-fault : goal.returns-in_err-push-in-Ok-Some-clause-fault
returns-in_err-push-in-Ok-Some-clause-fault g c =
    let seen = g.R.Source.seen in
    let next = rw c.in-Ok-Some.field-0-is at c.in-Ok-Some.ensures.given
    (seen c.args.reader.now) c.args.limit c.reads.reads.items c.reads.invariant in
    let p = err_from_is_err_and c.from_residual-in_err-push-in-Ok-Some.result
    c.from_residual-in_err-push-in-Ok-Some.ensures.1 in
    rw (p.1, p.2) (given_in_vain (seen c.args.reader.now) (seen c.next_read.new.source) c.args.limit _
    c.next_read.new.self next)

pub byte_count-requires : goal.byte_count-requires
byte_count-requires g c =
    let end = rw c.in-Ok-None.field-0-is at c.in-Ok-None.ensures.given
    (g.R.Source.seen c.args.reader.now) c.args.limit c.reads.reads.items c.reads.invariant in
    end.0.unfailed

pub returns-in-Ok-None-clause-reads : goal.returns-in-Ok-None-clause-reads
returns-in-Ok-None-clause-reads g c =
    let end = rw c.in-Ok-None.field-0-is at c.in-Ok-None.ensures.given
    (g.R.Source.seen c.args.reader.now) c.args.limit c.reads.reads.items c.reads.invariant in
    rw c.byte_count.ensures end.1

pub returns-in-Ok-None-clause-bases : goal.returns-in-Ok-None-clause-bases
returns-in-Ok-None-clause-bases g c =
    let seen = g.R.Source.seen in
    let end = rw c.in-Ok-None.field-0-is at c.in-Ok-None.ensures.given
    (seen c.args.reader.now) c.args.limit c.reads.reads.items c.reads.invariant in
    rw c.byte_count.ensures (base_count-gives (seen c.args.reader.now)
    (seen c.next_read.new.source) c.args.limit c.reads.reads.items _ end.1)

pub returns-in-Err-clause-fault : goal.returns-in-Err-clause-fault
returns-in-Err-clause-fault g c =
    let seen = g.R.Source.seen in
    c.settle.ensures (seen c.args.reader.now) c.args.limit (c.in-Err.ensures.given
    (seen c.args.reader.now) c.args.limit c.reads.reads.items c.reads.invariant)

pub reads-preserved : goal.reads-preserved
reads-preserved g c =
    let seen = g.R.Source.seen in
    let next = rw c.in-Ok-Some.field-0-is at c.in-Ok-Some.ensures.given
    (seen c.args.reader.now) c.args.limit c.reads.reads.items c.reads.invariant in
    rw (c.in_ok-push-in-Ok-Some.ensures.items, c.in-Ok-Some.read-is) next
