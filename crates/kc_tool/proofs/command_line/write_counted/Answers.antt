use Rattle.kc_tool.proofs.CommandLineLemmas.{begun_first, begun_second}
use Rattle.kc_tool.proofs.command_line.write_counted.Goals as goal

pub returns-in-Err : goal.returns-in-Err
returns-in-Err g c = begun_first c.args.said.now c.in-Err.ensures

pub returns-in-Err-write_out : goal.returns-in-Err-write_out
returns-in-Err-write_out g c = begun_second c.in-Ok.ensures c.in-Err-write_out.ensures
