-- The faults of the crates below, as faults of the program.
use Rattle.std.specs.Prelude.{ℕ}
use Rattle.kc_combine.specs.declared.placed_fault.PlacedFault.{PlacedFault}
use Rattle.kc_combine.specs.declared.written_tables.CombineFault.{CombineFault}
use Rattle.kc_combine.specs.declared.written_tables.CombineFault.TheVariants as combine
use Rattle.kc_report.specs.declared.report_faults.ReportFault.{ReportFault}
use Rattle.kc_report.specs.declared.report_faults.ReportFault.TheVariants as report
use Rattle.kc_tool.specs.declared.tool_faults.ToolFault.{ToolFault}
use Rattle.kc_tool.specs.declared.tool_faults.ToolFault.TheVariants.{
  BadHeader,
  BadRow,
  BadEnd,
  TableTooLong,
  TableRead,
  Memory,
  BadWord,
  Write,
  Unlike,
  TooLarge,
  BrokenTable,
  ShortTable,
}

-- the fault of the program for each reason why table number `place`, from 1, could not be read, or no report be written
abbrev pub table_fault : ℕ → ReportFault → ToolFault
table_fault place report.BadHeader = BadHeader
table_fault place (report.BadRow line) = BadRow line
table_fault place report.BadEnd = BadEnd
table_fault place report.TableTooLong = TableTooLong
table_fault place report.TableRead = TableRead
table_fault place report.Memory = Memory
table_fault place (report.BadWord number) = BadWord number
table_fault place report.Write = Write
table_fault place report.Unlike = Unlike
table_fault place report.TooLarge = TooLarge
table_fault place report.BrokenGzip = BrokenTable place
table_fault place report.ShortGzip = ShortTable place

-- the same for the only table
abbrev pub report_fault : ReportFault → ToolFault
report_fault why = table_fault 1 why

-- the fault of the program for each reason why tables could not be combined
abbrev pub combine_fault : CombineFault PlacedFault → ToolFault
combine_fault (combine.Table placed) = table_fault placed.place placed.fault
combine_fault combine.Unlike = Unlike
combine_fault combine.TooLarge = TooLarge
combine_fault combine.Write = Write
combine_fault combine.Memory = Memory
