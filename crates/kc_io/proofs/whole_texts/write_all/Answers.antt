use Rattle.std.proofs.Common.{◌∙◌, ap, arith}
use Rattle.kc_io.proofs.SinksLemmas.{SinkCall, wrote_some, failed}
use Rattle.kc_io.proofs.whole_texts.write_all.Goals as goal

pub loop-rest-preserved : goal.loop-rest-preserved
loop-rest-preserved g c =
    let seen = g.W.Sink.seen in
    let call : SinkCall = record {
      start = seen c.args.writer.now;
      now = seen c.loop-rest.writer;
      next = seen c.write.new.self;
      text = c.args.bytes.now;
      rest = c.loop-rest.rest.now;
      pending = c.loop-rest.invariant.pending;
    } in
    let w = wrote_some call c.in-Ok.n c.in-Ok.n-test.1 c.in-Ok.ensures.appends c.in-Ok.ensures.history in
    record { pending = rw c.split_at.ensures.back w.0; unflushed = w.1 ∙ c.loop-rest.invariant.unflushed }

pub returns-in-Err-clause-handed_over : goal.returns-in-Err-clause-handed_over
returns-in-Err-clause-handed_over g c =
    let seen = g.W.Sink.seen in
    let call : SinkCall = record {
      start = seen c.args.writer.now;
      now = seen c.loop-rest.writer;
      next = seen c.write.new.self;
      text = c.args.bytes.now;
      rest = c.loop-rest.rest.now;
      pending = c.loop-rest.invariant.pending;
    } in
    let e = c.in-Err.ensures.history in
    failed call c.in-Err.ensures.appends (ap (λ h. h.bytes) e) (omega (arith, ap (λ h. h.failures) e))
