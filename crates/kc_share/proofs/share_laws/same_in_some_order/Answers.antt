use Rattle.kc_share.proofs.Comparing.{same_in_some_order}
use Rattle.kc_share.proofs.share_laws.same_in_some_order.Goals as goal

pub returns : goal.returns
returns c = same_in_some_order
