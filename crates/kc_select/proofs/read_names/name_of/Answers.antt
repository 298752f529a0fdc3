use Rattle.kc_select.proofs.ProfileLemmas.{name-found, name-whole}
use Rattle.kc_select.proofs.read_names.name_of.Goals as goal

pub returns-in-Some : goal.returns-in-Some
returns-in-Some c = name-found c.args.title.now c.in-Some.end c.in-Some.ensures

pub returns-in-None : goal.returns-in-None
returns-in-None c = name-whole c.args.title.now c.in-None.ensures
