use Rattle.std.proofs.Common.{refl}
use Rattle.kc_tool.proofs.selected_sources.select_next.Goals as goal

pub returns-in-Ok : goal.returns-in-Ok
returns-in-Ok g c = c.in-Ok.ensures

pub returns-in-Err-Reads : goal.returns-in-Err-Reads
returns-in-Err-Reads g c = (refl, rw c.in-Err-Reads.field-0-is at c.in-Err-Reads.ensures)

pub returns-in-Err-Write : goal.returns-in-Err-Write
returns-in-Err-Write g c = rw c.in-Err-Write.field-0-is at c.in-Err-Write.ensures
