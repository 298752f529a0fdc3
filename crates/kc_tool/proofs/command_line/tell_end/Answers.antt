use Rattle.kc_tool.proofs.CommandLineLemmas.{ends_in_fault, ends_well, told}
use Rattle.kc_tool.proofs.command_line.tell_end.Goals as goal

pub returns-in-Err-Fault-clause-ends : goal.returns-in-Err-Fault-clause-ends
returns-in-Err-Fault-clause-ends g c watched arguments old new carried closes =
    let failed = rw (c.in-Err-Fault.is, c.in-Err-Fault.field-0-is) at carried in
    ends_in_fault watched c.args.said.now c.in-Err-Fault.fault c.status_of.result c.status_of.ensures failed (told _ _ c.write_explained.result _ c.write_explained.ensures)

pub returns-in-Ok-clause-ends : goal.returns-in-Ok-clause-ends
returns-in-Ok-clause-ends g c watched arguments old new carried closes =
    let done = rw c.in-Ok.is at carried in
    ends_well watched c.args.said.now (record {
      tells = c.in-Ok.told;
      done = done;
      closes = rw c.in-Ok.is at closes;
      told = c.write_told.ensures;
    })
