use Rattle.std.proofs.Common.{append_assoc}
use Rattle.kc_tool.proofs.fault_lines.push_front.Goals as goal

pub returns-in-BadOption-clause-pushed : goal.returns-in-BadOption-clause-pushed
returns-in-BadOption-clause-pushed c = rw (c.in-BadOption.is, c.push-in-BadOption-2.ensures.pushed, c.as_bytes.ensures.value, c.name.ensures, c.push-in-BadOption.ensures.pushed, append_assoc)

pub returns-in-Write-clause-pushed : goal.returns-in-Write-clause-pushed
returns-in-Write-clause-pushed c = rw c.in-Write.is c.push-in-Write.ensures.pushed

pub returns-in-BadHeader-clause-pushed : goal.returns-in-BadHeader-clause-pushed
returns-in-BadHeader-clause-pushed c = rw c.in-BadHeader.is c.push.ensures.pushed

pub returns-in-BadRow-clause-pushed : goal.returns-in-BadRow-clause-pushed
returns-in-BadRow-clause-pushed c = rw c.in-BadRow.is c.push_numbered.ensures.pushed

pub returns-in-BadEnd-clause-pushed : goal.returns-in-BadEnd-clause-pushed
returns-in-BadEnd-clause-pushed c = rw c.in-BadEnd.is c.push-in-BadEnd.ensures.pushed

pub returns-in-TableTooLong-clause-pushed : goal.returns-in-TableTooLong-clause-pushed
returns-in-TableTooLong-clause-pushed c = rw c.in-TableTooLong.is c.push-in-TableTooLong.ensures.pushed

pub returns-in-TableRead-clause-pushed : goal.returns-in-TableRead-clause-pushed
returns-in-TableRead-clause-pushed c = rw c.in-TableRead.is c.push-in-TableRead.ensures.pushed

pub returns-in-Memory-clause-pushed : goal.returns-in-Memory-clause-pushed
returns-in-Memory-clause-pushed c = rw c.in-Memory.is c.push-in-Memory.ensures.pushed

pub returns-in-BadWord-clause-pushed : goal.returns-in-BadWord-clause-pushed
returns-in-BadWord-clause-pushed c = rw c.in-BadWord.is c.push_numbered-in-BadWord.ensures.pushed

pub returns-in-Unlike-clause-pushed : goal.returns-in-Unlike-clause-pushed
returns-in-Unlike-clause-pushed c = rw c.in-Unlike.is c.push-in-Unlike.ensures.pushed

pub returns-in-TooLarge-clause-pushed : goal.returns-in-TooLarge-clause-pushed
returns-in-TooLarge-clause-pushed c = rw c.in-TooLarge.is c.push-in-TooLarge.ensures.pushed

pub returns-in-OpenFailed-clause-pushed : goal.returns-in-OpenFailed-clause-pushed
returns-in-OpenFailed-clause-pushed c = rw c.in-OpenFailed.is c.push-in-OpenFailed.ensures.pushed

pub returns-in-BrokenTable-clause-pushed : goal.returns-in-BrokenTable-clause-pushed
returns-in-BrokenTable-clause-pushed c = rw c.in-BrokenTable.is c.push_source.ensures.pushed

pub returns-in-ShortTable-clause-pushed : goal.returns-in-ShortTable-clause-pushed
returns-in-ShortTable-clause-pushed c = rw c.in-ShortTable.is c.push_source-in-ShortTable.ensures.pushed

pub returns-in-Unpaired-clause-pushed : goal.returns-in-Unpaired-clause-pushed
returns-in-Unpaired-clause-pushed c = rw c.in-Unpaired.is c.push_numbered-in-Unpaired.ensures.pushed
