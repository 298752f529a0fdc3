-- The numbers of the faults (our formats page), how contracts treat them, and the faults of a source.
use Rattle.std.specs.Prelude.{ℕ, Bool, true, false, ⊤, Option, Some}
use Rattle.kc_gzip.specs.declared.unpacked_intakes.TakeFault.{TakeFault}
use Rattle.kc_gzip.specs.declared.unpacked_intakes.TakeFault.TheVariants as taking
use Rattle.kc_fastx.specs.declared.read_faults.FastxFault.{FastxFault}
use Rattle.kc_fastx.specs.declared.read_faults.FastxFault.TheVariants.{BadStart, BadBase, BadQuality}
use Rattle.kc_fastx.specs.declared.read_faults.FastxFault.TheVariants.{LongQuality, Truncated}
use Rattle.kc_fastx.specs.declared.read_faults.FastxFault.TheVariants.{TooLong, Read, Memory, BrokenGzip, ShortGzip}

abbrev pub fault_number : FastxFault → ℕ
fault_number (BadStart line) = 1
fault_number (BadBase line) = 2
fault_number (BadQuality line) = 3
fault_number (LongQuality line) = 4
fault_number (Truncated line) = 5
fault_number TooLong = 6
fault_number Read = 7
fault_number Memory = 8
fault_number BrokenGzip = 71
fault_number ShortGzip = 72

-- whether the fault is one of the lines
abbrev pub is_of_lines : FastxFault → Bool
is_of_lines TooLong = false
is_of_lines Read = false
is_of_lines Memory = false
is_of_lines BrokenGzip = false
is_of_lines ShortGzip = false
is_of_lines fault = true

-- the fault is a lack of memory, under no further condition, or `Is` holds for it
abbrev pub UnlessMemory : (FastxFault → Type 0) → FastxFault → Type 0
UnlessMemory Is Memory = ⊤
UnlessMemory Is fault = Is fault

-- the fault that a reader keeps after that of a record: lack of memory isn't kept, since the next call may have some
abbrev pub kept_fault : Option FastxFault → FastxFault → Option FastxFault
kept_fault failed Memory = failed
kept_fault failed fault = Some fault

-- the fault for each reason why the bytes of a source could not be taken
abbrev pub taking_fault : TakeFault → FastxFault
taking_fault taking.TooLong = TooLong
taking_fault taking.Read = Read
taking_fault taking.Broken = BrokenGzip
taking_fault taking.Short = ShortGzip
taking_fault taking.Memory = Memory
