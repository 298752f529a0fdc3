use Rattle.std.proofs.Common.{◌≡◌, ◌-◌, ◌+◌, ◌++◌, length, length-append, refl, subst, arith, ap}
use Rattle.kc_fastx.proofs.ReadingLemmas.{used_within, begun_in_vain}
use Rattle.kc_tool.specs.ReadAhead.{TakesReads}
use Rattle.kc_tool.proofs.ReadCountLemmas.{read_count-gives}
use Rattle.kc_tool.proofs.CleaningLemmas.{no_piece, more_pieces, takes_both}
use Rattle.kc_tool.proofs.counted_sources.ReadsInCutting.take.Goals as goal

pub returns-in_default-clause-fault : goal.returns-in_default-clause-fault
returns-in_default-clause-fault g c =
    (refl, begun_in_vain (g.R.Source.seen c.args.source.now) c.args.self.now.left)

pub reads-init : goal.reads-init
reads-init g c =
    let start = g.R.Source.seen c.args.source.now in
    record {
      so_far = rw (c.in-Ok.ensures, c.new-front.ensures)
          (no_piece start c.args.self.now.left c.args.cutter.now.rule.now c.args.self.now.cutting);
      empty = c.new-back.ensures;
      left = refl;
      sources = refl;
      reads = refl;
    }

pub returns-in-Err-clause-fault : goal.returns-in-Err-clause-fault
returns-in-Err-clause-fault g c =
    let start = g.R.Source.seen c.args.source.now in
    let limit = c.args.self.now.left in
    let so_far = c.reads.invariant.so_far in
    let met = rw c.in-Err.is at c.in_ok-more.ensures.read.given start limit (so_far.reads ++ c.reads.front.reads.items) so_far.given in
    (refl, c.settle.ensures start limit met)

pub byte_count-requires : goal.byte_count-requires
byte_count-requires g c =
    let start = g.R.Source.seen c.args.source.now in
    let limit = c.args.self.now.left in
    let so_far = c.reads.invariant.so_far in
    let end = rw (c.in-Ok-2.is, c.if-not-more.true)
    at c.in_ok-more.ensures.read.given start limit (so_far.reads ++ c.reads.front.reads.items) so_far.given in
    end.0.unfailed

pub overflow_sub-self : goal.overflow_sub-self
overflow_sub-self g c =
    let start = g.R.Source.seen c.args.source.now in
    let limit = c.args.self.now.left in
    let so_far = c.reads.invariant.so_far in
    let end = rw (c.in-Ok-2.is, c.if-not-more.true)
    at c.in_ok-more.ensures.read.given start limit (so_far.reads ++ c.reads.front.reads.items) so_far.given in
    omega (arith, c.byte_count.ensures, end.1.counted, end.1.taken.within, c.reads.invariant.left)

pub returns-then-not-more-clause-next : goal.returns-then-not-more-clause-next
returns-then-not-more-clause-next g c =
    let start = g.R.Source.seen c.args.source.now in
    let limit = c.args.self.now.left in
    let so_far = c.reads.invariant.so_far in
    let front = c.reads.front.reads.items in
    let back = c.cut_and_read.new.back.reads.items in
    let rule = c.args.cutter.now.rule.now in
    let end = rw (c.in-Ok-2.is, c.if-not-more.true)
    at c.in_ok-more.ensures.read.given start limit (so_far.reads ++ front) so_far.given in
    let last = subst (λ v. TakesReads rule v c.cut_and_read.new.cutting c.cut_all.new.cutting) c.deref.ensures.value c.in_ok-cut_all.ensures in
    let all = takes_both (so_far.reads ++ front) back (takes_both so_far.reads front so_far.cut c.in_ok-more.ensures.cut) last in
    let counted : c.reads.count + c.len.result ≡ length ((so_far.reads ++ front) ++ back) =
    omega (arith, so_far.counted, c.len.ensures, c.cut_and_read.new.back.reads.ok.0, length-append (so_far.reads ++ front) back) in
    record {
      bytes = c.byte_count.result;
      count = c.reads.count + c.len.result;
      pieces = record {
        reads = (so_far.reads ++ front) ++ back;
        given = rw c.byte_count.ensures end.1;
        counted = counted;
        few = rw (c.byte_count.ensures, counted) (read_count-gives start _ limit ((so_far.reads ++ front) ++ back) _ end.1);
        length_of_words = all.length_of_words;
        size = all.size;
        behind = all.behind;
      };
      left = ap (λ n. n - c.byte_count.result) c.reads.invariant.left;
      sources = c.reads.invariant.sources;
      reads = ap (λ n. n + (c.reads.count + c.len.result)) c.reads.invariant.reads;
    }

pub reads-smaller : goal.reads-smaller
reads-smaller g c =
    let start = g.R.Source.seen c.args.source.now in
    let now = g.R.Source.seen c.cut_and_read.new.source in
    let limit = c.args.self.now.left in
    let so_far = c.reads.invariant.so_far in
    let next = rw (c.in-Ok-2.is, c.if-not-more.false)
    at c.in_ok-more.ensures.read.given start limit (so_far.reads ++ c.reads.front.reads.items) so_far.given in
    let used = rw c.in-Ok-2.is at c.in_ok-more.ensures.read.used in
    let some = c.in_ok-more.ensures.read.some (rw (c.in-Ok-2.is, c.if-not-more.false) refl) in
    omega (arith, used, some, used_within start now limit _ c.cut_and_read.new.reader.reading next)

pub reads-preserved : goal.reads-preserved
reads-preserved g c =
    let start = g.R.Source.seen c.args.source.now in
    let limit = c.args.self.now.left in
    let so_far = c.reads.invariant.so_far in
    let back = c.cut_and_read.new.back.reads.items in
    let next = rw (c.in-Ok-2.is, c.if-not-more.false)
    at c.in_ok-more.ensures.read.given start limit (so_far.reads ++ c.reads.front.reads.items) so_far.given in
    let used = rw c.in-Ok-2.is at c.in_ok-more.ensures.read.used in
    record {
      so_far = rw (c.swap.ensures.x_after, c.len.ensures, c.cut_and_read.new.back.reads.ok.0) (more_pieces back so_far c.in_ok-more.ensures.cut next used);
      empty = rw c.swap.ensures.y_after c.in_ok-more.ensures.removed;
      left = c.reads.invariant.left;
      sources = c.reads.invariant.sources;
      reads = c.reads.invariant.reads;
    }
