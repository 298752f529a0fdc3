-- The words of a list to look up: source, our formats page ("Reports").
use Rattle.std.specs.Prelude.{◌≡◌, ◌⊎◌, ℕ, List, [], ◌∷◌, ◌++◌, map}
use Rattle.std.specs.Str.Lossy.{utf8_lossy}
use Rattle.kc_fastx.specs.Lines.{Line, lines}
use Rattle.kc_gzip.specs.Intakes.{TakesAll, TakingFails}
use Rattle.kc_gzip.specs.declared.unpacked_intakes.TakeFault.{TakeFault}
use Rattle.kc_io.specs.Sources.{Seen}
use Rattle.kc_report.specs.Faults.{taking_fault}
use Rattle.kc_report.specs.declared.report_faults.ReportFault.{ReportFault}
use Rattle.kc_report.specs.declared.report_faults.ReportFault.TheVariants.{Memory}

-- the lines that are not blank
abbrev pub filled : List Line → List Line
filled [] = []
filled ([] ∷ ls) = filled ls
filled ((b ∷ bs) ∷ ls) = (b ∷ bs) ∷ filled ls

-- the words of a list: its lines, without blank ones; what is no UTF-8 in a line is replaced
abbrev pub words_in : List ℕ → List (List ℕ)
words_in text = map utf8_lossy (filled (lines text))

-- all bytes of the source were taken and decompressed, and the words of their text follow those that were there before
abbrev pub GivesWords : Seen → Seen → ℕ → List (List ℕ) → List (List ℕ) → Type 0
GivesWords old new limit before after =
    (text : List ℕ) × TakesAll old new limit text × (after ≡ before ++ words_in text)

-- why a list gave no words: not all bytes were taken; or they were, and there was no memory for the words
abbrev pub RefusesWords : Seen → Seen → ℕ → ReportFault → Type 0
RefusesWords old new limit fault = ((why : TakeFault) × TakingFails old new limit why × (fault ≡ taking_fault why))
    ⊎ ((text : List ℕ) × TakesAll old new limit text × (fault ≡ Memory))
