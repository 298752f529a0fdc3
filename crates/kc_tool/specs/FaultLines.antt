-- The lines of the faults: source, our formats page.
use Rattle.std.specs.Prelude.{ℕ, List, [], ◌∷◌, ◌++◌, codes, decimal, string_bytes}
use Rattle.kc_fastx.specs.declared.FastxFault.{FastxFault}
use Rattle.kc_fastx.specs.declared.FastxFault.TheVariants as fastx
use Rattle.kc_command.specs.Options.{option_name}
use Rattle.kc_tool.specs.declared.tool_faults.ToolFault.{ToolFault}
use Rattle.kc_tool.specs.declared.tool_faults.ToolFault.TheVariants.{
  Fastx,
  BadHeader,
  BadRow,
  BadEnd,
  TableTooLong,
  TableRead,
  Memory,
  BadOption,
  BadWord,
  Write,
  Run,
  OpenFailed,
  Unlike,
  TooLarge,
  BrokenTable,
  ShortTable,
  Unpaired,
}
use Rattle.kc_run.specs.declared.run_fault.RunFault.{RunFault}
use Rattle.kc_run.specs.declared.run_fault.RunFault.TheVariants as run

-- a fault of a source
abbrev pub in_source : List ℕ → ℕ → List ℕ
in_source what source = what ++ codes ", source " ++ decimal source

-- a fault in a line of a source
abbrev pub at_line : List ℕ → ℕ → ℕ → List ℕ
at_line what source line = in_source what source ++ codes ", line " ++ decimal line

-- the text of a reader's fault, after `kcount: `
abbrev pub reader_text : ℕ → FastxFault → List ℕ
reader_text source (fastx.BadStart line) = at_line (codes "1: bad start") source line
reader_text source (fastx.BadBase line) = at_line (codes "2: bad base") source line
reader_text source (fastx.BadQuality line) = at_line (codes "3: bad quality") source line
reader_text source (fastx.LongQuality line) = at_line (codes "4: long quality") source line
reader_text source (fastx.Truncated line) = at_line (codes "5: truncated") source line
reader_text source fastx.TooLong = in_source (codes "6: too long") source
reader_text source fastx.Read = in_source (codes "7: read failed") source
reader_text source fastx.Memory = codes "8: no memory"
reader_text source fastx.BrokenGzip = in_source (codes "71: broken gzip") source
reader_text source fastx.ShortGzip = in_source (codes "72: gzip cut short") source

-- the text of a fault of the counting, after `kcount: `
abbrev pub run_text : RunFault → List ℕ
run_text (run.Foreign stripe) = codes "31: foreign stripe " ++ decimal stripe
run_text (run.NoThread worker) = codes "33: no thread for worker " ++ decimal worker
run_text run.Memory = codes "34: no memory"
run_text (run.Full stripe) = codes "35: stripe " ++ decimal stripe ++ codes " is full"

-- the text of a fault, after `kcount: ` and before the name of a file
abbrev pub fault_front : ToolFault → List ℕ
fault_front (Fastx source fault) = reader_text source fault
fault_front BadHeader = codes "41: bad header"
fault_front (BadRow line) = codes "42: bad row, line " ++ decimal line
fault_front BadEnd = codes "43: bad end"
fault_front TableTooLong = codes "44: table too long"
fault_front TableRead = codes "45: table read failed"
fault_front Memory = codes "46: no memory"
fault_front (BadOption name) = codes "51: bad option --" ++ option_name name
fault_front (BadWord number) = codes "52: bad word " ++ decimal number
fault_front Write = codes "53: write failed"
fault_front (Run fault) = run_text fault
fault_front (OpenFailed name) = codes "54: cannot open "
fault_front Unlike = codes "61: tables do not match"
fault_front TooLarge = codes "62: sums too large"
fault_front (BrokenTable table) = in_source (codes "71: broken gzip") table
fault_front (ShortTable table) = in_source (codes "72: gzip cut short") table
fault_front (Unpaired number) = codes "81: reads are no pair, record " ++ decimal number

-- the name of the file at the end of a fault's text
abbrev pub fault_name : ToolFault → List ℕ
fault_name (OpenFailed name) = string_bytes name
fault_name _ = []

-- the line of a fault
abbrev pub fault_line : ToolFault → List ℕ
fault_line fault = codes "kcount: " ++ fault_front fault ++ fault_name fault ++ 10 ∷ []
