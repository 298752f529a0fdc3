use Rattle.std.proofs.Common.{subst}
use Rattle.kc_gzip.specs.Following.{IsFront, says_partly, Unpacked}
use Rattle.kc_gzip.proofs.FollowLemmas.{holds-front}
use Rattle.kc_gzip.proofs.lent_source.Unpacking.fault.Goals as goal

pub returns-clause-front : goal.returns-clause-front
returns-clause-front c = subst (λ (u : Unpacked). IsFront u.given.bytes (says_partly u.since.bytes)) c.self.view_is
    (holds-front c.self.inside.fault c.self.inside.unzip c.self.inside.heard c.self.inside.given.history.bytes c.self.invariant)
