use Rattle.std.proofs.Common.{◌≡◌, take}
use Rattle.std.specs.List.{list_all}
use Rattle.kc_fastx.specs.Reads.{is_sequence_byte}
use Rattle.kc_fastx.proofs.records.are_sequence_bytes.Given as goal

abbrev pub invariant-loop-byte : goal.invariant-loop-byte
invariant-loop-byte l = l.all ≡ list_all is_sequence_byte (take l.byte-index l.bytes)
