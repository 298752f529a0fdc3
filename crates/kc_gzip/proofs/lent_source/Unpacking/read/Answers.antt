use Rattle.kc_gzip.proofs.UnpackingLemmas.{noted-front}
use Rattle.kc_gzip.proofs.lent_source.Unpacking.read.Goals as goal

pub returns-in-Ok-clause-front : goal.returns-in-Ok-clause-front
returns-in-Ok-clause-front g c =
    noted-front c.in-Ok.count c.read_kept.new.fault c.read_kept.new.unzip c.read_kept.new.heard c.self.inside.given.history
    c.with_answer-self-inside.result.history c.read_kept.new.buffer c.with_answer-self-inside.ensures (c.in-Ok.ensures.answers c.self.inside.given.history.bytes c.self.invariant)
