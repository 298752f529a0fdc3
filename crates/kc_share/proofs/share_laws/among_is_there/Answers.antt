use Rattle.kc_share.proofs.Comparing.{among_is_there}
use Rattle.kc_share.proofs.share_laws.among_is_there.Goals as goal

pub returns : goal.returns
returns c = among_is_there
