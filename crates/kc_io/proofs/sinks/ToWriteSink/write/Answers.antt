use Rattle.kc_io.proofs.CallsLemmas.{settled_by}
use Rattle.kc_io.proofs.sinks.ToWriteSink.write.Goals as goal

pub returns-in-Some-clause-settles : goal.returns-in-Some-clause-settles
returns-in-Some-clause-settles g c =
    let so_far = c.writing.invariant in
    settled_by (record {
      interrupted = so_far.interrupted;
      few = so_far.few;
      unanswered = so_far.unanswered;
    }) c.in-Some.ensures.hears
