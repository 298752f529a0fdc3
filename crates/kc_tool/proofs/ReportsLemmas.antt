-- From what is counted to the report on it.
use Rattle.std.proofs.Common.{◌≡◌, ap, ℕ, List, inl, inr, refl, subst, sym, true, ⊎_elim}
use Rattle.std.specs.Prelude.{◌≢◌, ◌⊎◌, Result, Ok, Err, OnOk, IfErr, IsErrOf}
use Rattle.kc_io.specs.Sinks.{HasBegun, Written}
use Rattle.kc_tool.specs.Tallies.{Counts, Given, IsCountOf, IsRefusedCountOf, ListGave, RefusesCount, TableSeen}
use Rattle.kc_tool.specs.Tallies.{reader_lacks_memory}
use Rattle.kc_tool.specs.Reports.{BeginsReport, IsReportOf, LeavesUnwritten, ReportsOn, WritesReport, WritesText}
use Rattle.kc_tool.specs.Reports.{done_of, report_of, report_text}
use Rattle.kc_command.specs.Settings.{Settings, rule_of}
use Rattle.kc_tool.specs.declared.tool_faults.ToolFault.{ToolFault}
use Rattle.kc_tool.specs.declared.tool_faults.ToolFault.TheVariants.{Fastx, BadHeader, BadRow, BadEnd, TableTooLong}
use Rattle.kc_tool.specs.declared.tool_faults.ToolFault.TheVariants.{TableRead, Memory, BadOption, BadWord, Write, Run}
use Rattle.kc_tool.specs.declared.tool_faults.ToolFault.TheVariants.{OpenFailed, Unlike, TooLarge, BrokenTable, ShortTable, Unpaired}
use Rattle.kc_tool.specs.declared.told.CountedWords.{CountedWords}
use Rattle.kc_tool.proofs.SourcesLemmas.{gave_list, not_counted}

-- Why a text was not written, and what is left then.
pub text_fault : (A : Type 0) (text : List ℕ) (old new : Written) (fault : ToolFault) → WritesText {A = A} text old new (Err fault)
    → ((fault ≡ Write) × HasBegun old new text) ⊎ ((fault ≡ Memory) × (new ≡ old))
text_fault A text old new Write h = inl (refl, h)
text_fault A text old new Memory h = inr (refl, h)
text_fault A text old new (Fastx number fault) h = absurd h
text_fault A text old new BadHeader h = absurd h
text_fault A text old new (BadRow line) h = absurd h
text_fault A text old new BadEnd h = absurd h
text_fault A text old new TableTooLong h = absurd h
text_fault A text old new TableRead h = absurd h
text_fault A text old new (BadOption name) h = absurd h
text_fault A text old new (BadWord number) h = absurd h
text_fault A text old new (Run fault) h = absurd h
text_fault A text old new (OpenFailed name) h = absurd h
text_fault A text old new Unlike h = absurd h
text_fault A text old new TooLarge h = absurd h
text_fault A text old new (BrokenTable place) h = absurd h
text_fault A text old new (ShortTable place) h = absurd h
text_fault A text old new (Unpaired number) h = absurd h

-- The same for any result of writing a text.
pub still_fault : (A B : Type 0) (text : List ℕ) (old new : Written) (fault : ToolFault) → WritesText {A = A} text old new (Err fault)
    → WritesText {A = B} text old new (Err fault)
still_fault A B text old new fault h =
    ⊎_elim (λ begun. subst (λ v. WritesText {A = B} text old new (Err v)) (sym begun.0) begun.1)
    (λ none. subst (λ v. WritesText {A = B} text old new (Err v)) (sym none.0) none.1) (text_fault A text old new fault h)

-- What is counted, and why nothing is, put otherwise.
pub put_otherwise : {Counted Other : TableSeen → Type 0} {Refused Another : ToolFault → Type 0} (settings : Settings) {old new : Written}
    (outcome : Result CountedWords ToolFault) → ((table : TableSeen) → Counted table → Other table)
    → ((fault : ToolFault) → outcome ≡ Err fault → Refused fault → Another fault) → ReportsOn Counted Refused settings old new outcome
    → ReportsOn Other Another settings old new outcome
put_otherwise settings outcome counted refused (inl h) = inl (h.0, counted h.0 h.1, h.2, h.3)
put_otherwise settings outcome counted refused (inr h) = inr (h.0, h.1, refused h.0 h.1 h.2, h.3)

-- If there was no memory for a reader, nothing was written.
pub reader_lacked : {Counted : TableSeen → Type 0} {Refused : ToolFault → Type 0} (settings : Settings) (old new : Written) (fault : ToolFault)
    → reader_lacks_memory fault ≡ true → ReportsOn Counted Refused settings old new (Err fault) → new ≡ old
reader_lacked settings old new fault lacks (inr h) = h.3
reader_lacked settings old new fault lacks (inl h) =
    ⊎_elim (λ begun.
    let same = subst (λ v. reader_lacks_memory v ≡ true) begun.0 lacks in
    let no : ⊥ = cc in absurd no)
    (λ none. none.1) (text_fault CountedWords _ old new fault h.2)

module _ (given : Given) (settings : Settings) (old new : Written) where
  is_report : (later : Given) (table : TableSeen) → Counts given later settings table
      → IsReportOf given settings (report_text (report_of settings) table)
  is_report later table counted = record { later = later; table = table; counted = counted; is_text = refl }

  -- What was written is the report.
  written : (outcome : Result CountedWords ToolFault)
      → ReportsOn (IsCountOf given settings) (IsRefusedCountOf given settings) settings old new outcome
      → OnOk outcome (WritesReport given settings old new)
  written (Ok words) (inl h) = (report_text (report_of settings) h.0, is_report h.1.0 h.0 h.1.1, h.2)
  written (Ok words) (inr h) = let is = h.1 in let no : ⊥ = cc in absurd no
  written (Err fault) h = tt

  -- So is what was begun.
  begun : (outcome : Result CountedWords ToolFault)
      → ReportsOn (IsCountOf given settings) (IsRefusedCountOf given settings) settings old new outcome
      → IsErrOf outcome Write → BeginsReport given settings old new
  begun outcome (inl h) failed = (report_text (report_of settings) h.0, is_report h.1.0 h.0 h.1.1, rw failed at h.2)
  begun outcome (inr h) failed =
      let is = h.1 in
      let same : h.0 ≡ Write = cc in
      let refused = subst (λ v. IsRefusedCountOf given settings v) same h.2 in
      absurd (not_counted given refused.0 settings refused.1)

  -- Else nothing was written.
  no_text : (later : Given) → ListGave given.list later.list → (text : List ℕ) (fault : ToolFault)
      → ((fault ≡ Write) × HasBegun old new text) ⊎ ((fault ≡ Memory) × (new ≡ old))
      → fault ≢ Write → LeavesUnwritten given settings old new fault
  no_text later gave text fault (inl h) other = absurd (other h.0)
  no_text later gave text fault (inr h) other = (h.1, (later, subst (λ v. RefusesCount given later settings v) (sym h.0) gave))

  unwritten : (outcome : Result CountedWords ToolFault)
      → ReportsOn (IsCountOf given settings) (IsRefusedCountOf given settings) settings old new outcome
      → IfErr outcome (λ fault. fault ≢ Write → LeavesUnwritten given settings old new fault)
  unwritten (Ok words) h = tt
  unwritten (Err fault) (inl h) =
      let gave = gave_list (rule_of settings) given.list h.1.0.list h.1.1.list h.1.1.listed in
      no_text h.1.0 gave _ fault (text_fault CountedWords _ old new fault h.2)
  unwritten (Err fault) (inr h) =
      let is = h.1 in
      let same : h.0 ≡ fault = cc in
      λ other. (h.3, subst (λ v. IsRefusedCountOf given settings v) same h.2)

  -- All of this.
  pub reads_reported : (outcome : Result CountedWords ToolFault)
      → ReportsOn (IsCountOf given settings) (IsRefusedCountOf given settings) settings old new outcome
      → OnOk (done_of outcome) (WritesReport given settings old new) × (IsErrOf (done_of outcome) Write → BeginsReport given settings old new)
      × IfErr (done_of outcome) (λ fault. fault ≢ Write → LeavesUnwritten given settings old new fault)
  reads_reported (Ok words) h = (written (Ok words) h, (λ failed. let no : ⊥ = cc in absurd no), tt)
  reads_reported (Err fault) h = (tt, (λ failed. begun (Err fault) h (again fault failed)), unwritten (Err fault) h) where
    again : (fault : ToolFault) → IsErrOf (done_of (Err fault)) Write → ◌≡◌ {A = Result CountedWords ToolFault} (Err fault) (Err Write)
    again fault failed = let same : fault ≡ Write = cc in ap Err same
