use Rattle.kc_share.proofs.Comparing.{adds_up}
use Rattle.kc_share.proofs.share_laws.sheets_add_up.Goals as goal

pub returns : goal.returns
returns c = adds_up
