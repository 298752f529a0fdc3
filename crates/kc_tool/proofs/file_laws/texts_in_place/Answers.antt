use Rattle.kc_tool.proofs.FileSystemLemmas.{leaves_in_place, puts_in_place}
use Rattle.kc_tool.proofs.file_laws.texts_in_place.Goals as goal

pub returns : goal.returns
returns c = record { put = puts_in_place; left = leaves_in_place }
