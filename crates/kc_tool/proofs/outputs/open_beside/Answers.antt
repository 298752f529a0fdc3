use Rattle.std.proofs.Common.{◌≡◌, arith, string_bytes}
use Rattle.kc_tool.specs.Outputs.{most_tries}
use Rattle.kc_tool.proofs.OutputLemmas.{all_taken, refused_beside}
use Rattle.kc_tool.proofs.outputs.open_beside.Goals as goal

pub returns-in-Err-Refused-clause-refused : goal.returns-in-Err-Refused-clause-refused
returns-in-Err-Refused-clause-refused g c =
    refused_beside c.args.files.now (string_bytes c.args.path) c.args.name.now c.open_fault.result c.loop-tries.tries c.loop-tries.invariant (rw c.in-Err-Refused.field-0-is at c.in-Err-Refused.ensures.refused) (rw c.as_str.ensures.value at c.in_ok-new.ensures)
    (omega (arith, c.loop-tries-test.true)) c.open_fault.ensures

pub returns-clause-refused : goal.returns-clause-refused
returns-clause-refused g c =
    let all : c.loop-tries.tries ≡ most_tries = omega (arith, c.loop-tries.auto.tries-end, c.loop-tries-test.false) in
    all_taken c.args.files.now (string_bytes c.args.path) c.args.name.now c.open_fault-2.result c.loop-tries.tries c.loop-tries.invariant all c.open_fault-2.ensures
