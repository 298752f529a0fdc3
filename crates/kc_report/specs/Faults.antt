-- The faults of a source, and how contracts treat a fault: source, our formats page ("Refusals").
use Rattle.std.specs.Prelude.{⊤}
use Rattle.kc_gzip.specs.declared.unpacked_intakes.TakeFault.{TakeFault}
use Rattle.kc_gzip.specs.declared.unpacked_intakes.TakeFault.TheVariants as taking
use Rattle.kc_report.specs.declared.report_faults.ReportFault.{ReportFault}
use Rattle.kc_report.specs.declared.report_faults.ReportFault.TheVariants.{TableTooLong, TableRead, Write, Memory}
use Rattle.kc_report.specs.declared.report_faults.ReportFault.TheVariants.{BrokenGzip, ShortGzip}

-- the fault for each reason why the bytes of a source could not be taken
abbrev pub taking_fault : TakeFault → ReportFault
taking_fault taking.TooLong = TableTooLong
taking_fault taking.Read = TableRead
taking_fault taking.Broken = BrokenGzip
taking_fault taking.Short = ShortGzip
taking_fault taking.Memory = Memory

-- the fault is a lack of memory, under no further condition, or `Is` holds for it
abbrev pub UnlessMemory : (ReportFault → Type 0) → ReportFault → Type 0
UnlessMemory Is Memory = ⊤
UnlessMemory Is fault = Is fault

-- the fault is that of a writer, under no further condition, or `Is` holds for it
abbrev pub UnlessWrite : (ReportFault → Type 0) → ReportFault → Type 0
UnlessWrite Is Write = ⊤
UnlessWrite Is fault = Is fault
