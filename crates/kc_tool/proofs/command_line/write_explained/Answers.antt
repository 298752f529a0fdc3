use Rattle.kc_tool.proofs.CommandLineLemmas.{begun_first, begun_second}
use Rattle.kc_tool.proofs.command_line.write_explained.Goals as goal

pub returns-in-Err : goal.returns-in-Err
returns-in-Err g c = begun_first c.args.explained.now c.in-Err.ensures.written

pub returns-in-Err-write_out : goal.returns-in-Err-write_out
returns-in-Err-write_out g c = begun_second c.in-Ok.ensures.written c.in-Err-write_out.ensures
