use Rattle.std.proofs.Common.{◌≡◌, length}
use Rattle.kc_io.proofs.SinksLemmas.{Pending}
use Rattle.kc_io.proofs.whole_texts.write_all.Given as goal

abbrev pub invariant-loop-rest : goal.invariant-loop-rest
invariant-loop-rest g l = record {
  pending : Pending (g.W.Sink.seen l.fn.writer) (g.W.Sink.seen l.writer) l.bytes l.rest;
  unflushed : (g.W.Sink.seen l.writer).history.flushed ≡ (g.W.Sink.seen l.fn.writer).history.flushed;
}

abbrev pub decreases-loop-rest : goal.decreases-loop-rest
decreases-loop-rest g l = length l.rest
