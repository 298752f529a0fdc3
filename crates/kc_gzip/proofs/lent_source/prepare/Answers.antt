use Rattle.kc_gzip.proofs.FollowLemmas.{follows-front}
use Rattle.kc_gzip.proofs.lent_source.prepare.Goals as goal

pub returns-clause-comes : goal.returns-clause-comes
returns-clause-comes g c = λ told f.
    let follows = c.loop.invariant.follows told f in
    (follows.unfailed, follows-front c.loop.unzip c.loop.heard told follows, tt)
