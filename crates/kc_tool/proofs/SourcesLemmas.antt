-- Sources whose reads were cut, and what is counted of them, with a list and without one.
use Rattle.std.proofs.Common.{◌≡◌, ◌≤◌, ◌-◌, ◌^◌, ◌∙◌, ℕ, List, [], ◌∷◌, ◌++◌, length, length-append, arith, refl, sym, ap, ap₂, subst, inl, inr}
use Rattle.std.specs.Io.KnownBytes.{Consumes}
use Rattle.std.specs.Prelude.{Option, Some, None, false, true, Ok, Err}
use Rattle.kc_gzip.specs.declared.faults.GzipFault.{GzipFault}
use Rattle.kc_gzip.specs.declared.faults.GzipFault.TheVariants as gzip
use Rattle.std.specs.List.{concat}
use Rattle.std.specs.declared.alloc.Global.{Global}
use Rattle.std.specs.declared.sync.Arc.{Arc}
use Rattle.std.proofs.lemmas.List.{length-map, nil_from_length}
use Rattle.kc_io.specs.Sources.{Seen}
use Rattle.kc_io.specs.History.{History}
use Rattle.kc_gzip.specs.Following.{says, says_partly, IsFront}
use Rattle.kc_gzip.specs.Intakes.{TakesAll}
use Rattle.kc_gzip.specs.Since.{HasAnswered}
use Rattle.kc_fastx.specs.declared.read_faults.FastxFault.{FastxFault}
use Rattle.kc_fastx.specs.declared.read_faults.FastxFault.TheVariants.{BadStart, BadBase, BadQuality, LongQuality, Truncated}
use Rattle.kc_fastx.specs.declared.read_faults.FastxFault.TheVariants.{TooLong, Read as ReadFailed, Memory as LacksMemory}
use Rattle.kc_fastx.specs.declared.read_faults.FastxFault.TheVariants.{BrokenGzip, ShortGzip}
use Rattle.kc_fastx.specs.Lines.{Line, skip_blanks}
use Rattle.kc_fastx.specs.Fastq.{FastqFails}
use Rattle.kc_fastx.specs.Parsing.{HasFault, RefusesFor, most_bytes}
use Rattle.kc_fastx.specs.Reads.{Read}
use Rattle.kc_word.specs.Cutting.{NumberedPieces, cleaned, cutting}
use Rattle.kc_word.specs.OpenCutting.{OpenCutting, HasTaken}
use Rattle.kc_word.specs.Shared.{values}
use Rattle.kc_word.specs.declared.batch.Batch.{Batch}
use Rattle.kc_kmer.specs.Rule.{CountingRule, with_list}
use Rattle.kc_kmer.specs.Occurrences.{is_usable}
use Rattle.kc_tally.specs.Tally.{IsTallyOf, TallySeen}
use Rattle.kc_booking.specs.Stripe.{reads_in, position_sum}
use Rattle.kc_gather.proofs.LawLemmas.{cutting_tally}
use Rattle.kc_report.specs.declared.origin.Origin.{Origin}
use Rattle.kc_command.specs.Settings.{Settings, rule_of}
use Rattle.kc_tool.specs.Tallies.{Counts, CutsBatches, FailsAt, GaveReads, GivesList, IsCuttingOf, ListFailsIn, ListGave, RefusesCount, ReadsSources, RefusesList, RefusesSources, TableSeen, TalliesSources}
use Rattle.kc_tool.specs.CountedTallies.{KnowsOne}
use Rattle.kc_tool.specs.Commands.{sources_from}
use Rattle.kc_tool.specs.NamedSources.{names_of, seen_of}
use Rattle.kc_tool.specs.declared.named_sources.NamedSource.{NamedSource}
use Rattle.kc_tool.proofs.ReadCountLemmas.{read_count-within}
use Rattle.kc_tool.proofs.TalliesLemmas.{few_batches, few_enough, small_cutting, small_enough}
use Rattle.kc_tool.specs.Tallies.{Given, given, kept_to, origin_of, pieces_of, reader_lacks_memory}
use Rattle.kc_tool.specs.declared.tool_faults.ToolFault.{ToolFault}
use Rattle.kc_tool.specs.declared.tool_faults.ToolFault.TheVariants.{Fastx, BadHeader, BadRow, BadEnd, TableTooLong, TableRead, Memory, BadOption, BadWord, Write, Run, OpenFailed, Unlike, TooLarge, BrokenTable, ShortTable, Unpaired}

-- A list changes neither the length of the words nor the pieces.
pub k-kept : (list : Option (List ℕ)) (rule : CountingRule) → (kept_to list rule).k ≡ rule.k
k-kept None rule = refl
k-kept (Some words) rule = refl

cleaned-kept : (words : List ℕ) (rule : CountingRule) (read : Read) → cleaned (with_list rule words) read ≡ cleaned rule read
unfolding cleaned is_usable
cleaned-kept words rule read = refl

pieces_of-kept : (words : List ℕ) (rule : CountingRule) (reads : List Read)
    → pieces_of (with_list rule words) reads ≡ pieces_of rule reads
pieces_of-kept words rule [] = refl
pieces_of-kept words rule (read ∷ reads) =
    ap₂ (λ piece pieces. piece ∷ pieces) (cleaned-kept words rule read) (pieces_of-kept words rule reads)

-- The tally of a cutting is that of the reads, under a list or not.
tally_kept : (list : Option (List ℕ)) (rule : CountingRule) (size : ℕ) (reads : List Read)
    (tally : TallySeen) → 1 ≤ rule.k → 1 ≤ size
    → IsTallyOf (kept_to list rule) (reads_in (cutting rule.k size (pieces_of rule reads))) tally
    → IsTallyOf (kept_to list rule) reads tally
tally_kept None rule size reads tally some room h = cutting_tally rule size reads tally some room h
tally_kept (Some words) rule size reads tally some room h =
    let listed = with_list rule words in
    cutting_tally listed size reads tally some room
    (subst (λ pieces. IsTallyOf listed (reads_in (cutting rule.k size pieces)) tally) (sym (pieces_of-kept words rule reads)) h)

-- The batches of a cutting of reads are few and small enough for a run.
module _ {rule : CountingRule} {size : ℕ} {reads : List Read} {cut : OpenCutting} (some : 1 ≤ rule.k) (room : 1 ≤ size)
    (is : IsCuttingOf rule size reads cut) (batches : List (Arc Batch Global))
    (finished : (pieces : List (List ℕ)) → HasTaken cut pieces → values batches ≡ cutting cut.k cut.size pieces) where
  pub batches_are : values batches ≡ cutting rule.k size (pieces_of rule reads)
  batches_are = let raw = finished (pieces_of rule reads) is.taken in rw (is.length_of_words, is.size) at raw

  pub few_for_run : length batches ≤ 2 ^ 40
  few_for_run =
      let counted = sym (length-map batches (λ batch. batch.value)) ∙ ap length batches_are in
      let few = few_batches rule.k size (pieces_of rule reads) some room in
      rw counted (few_enough _ _ few is.few)

  pub small_for_run : position_sum rule.k (values batches) ≤ 2 ^ 62
  small_for_run =
      let small = small_cutting rule.k size (pieces_of rule reads) some room in
      rw batches_are (small_enough _ _ small is.few)

-- A list changes no positions.
pub small_kept : (list : Option (List ℕ)) (settings : Settings) (rule : CountingRule) → rule ≡ kept_to list (rule_of settings)
    → (batches : List NumberedPieces) → position_sum settings.k batches ≤ 2 ^ 62 → position_sum rule.k batches ≤ 2 ^ 62
small_kept list settings rule same batches small = rw (same, k-kept list (rule_of settings)) small

-- What is known of the tally of the batches is known of that of the reads, with its origin.
pub tally_known : {S : Type 0} (Knows : S → TallySeen → Type 0) (summary : S) {old new : List Seen} {settings : Settings} {list : Option (List ℕ)}
    {batches : List NumberedPieces} {origin : Origin} → (cut : CutsBatches old new settings list batches origin)
    → (rule : CountingRule) → rule ≡ kept_to list (rule_of settings) → KnowsOne Knows summary (IsTallyOf rule (reads_in batches))
    → KnowsOne Knows summary (λ tally. TalliesSources old new settings list (tally, Some origin))
tally_known Knows summary {settings = settings} {list = list} cut rule same known =
    record {
      tally = known.tally;
      knows = known.knows;
      holds = (
        cut.reads,
        cut.are,
        tally_kept list (rule_of settings) cut.size cut.reads known.tally cut.long cut.some (rw (same, cut.cut) at known.holds),
        ap Some cut.told,
      );
    }

-- A source of no bytes gives no reads.
none_consumed : (old new : Option (List ℕ)) (bytes : List ℕ) → Consumes old new bytes → old ≡ Some [] → length bytes ≡ 0
none_consumed None new bytes h is = let no : ⊥ = cc in absurd no
none_consumed (Some left) None bytes h is = absurd h
none_consumed (Some left) (Some later) bytes h is =
    let none : left ≡ [] = cc in
    omega (arith, ap length none, ap length h, length-append bytes later)

none_answered : (old new : Seen) (since : History) → old.left ≡ Some [] → HasAnswered old new since → since.bytes ≡ []
none_answered old new since empty h =
    nil_from_length since.bytes (none_consumed old.left new.left since.bytes h.consumed empty)

none_said : (old new : Seen) (limit : ℕ) (bytes : List ℕ) → old.left ≡ Some [] → TakesAll old new limit bytes → bytes ≡ []
none_said old new limit bytes empty all =
    let none = none_answered old new all.since empty all.answered in
    let said : says [] ≡ Ok bytes = ap says (sym none) ∙ all.all.said in
    let same : Ok [] ≡ Ok bytes = said in
    cc

none_in_front : (old new : Seen) (since : History) (bytes : List ℕ) → old.left ≡ Some [] → HasAnswered old new since
    → IsFront bytes (says_partly since.bytes) → length bytes ≡ 0
none_in_front old new since bytes empty h front =
    let none = none_answered old new since empty h in
    let all : says_partly [] ≡ bytes ++ front.0 = ap says_partly (sym none) ∙ front.1 in
    omega (arith, ap length all, length-append bytes front.0)

no_reads : (input after : Seen) → input.left ≡ Some [] → (inputs : List (List ℕ)) (reads : List Read)
    → GaveReads (input ∷ []) (after ∷ []) inputs reads → reads ≡ []
no_reads input after empty [] reads g = absurd g.gave
no_reads input after empty (bytes ∷ []) reads g =
    let none = ap length (none_said input after most_bytes bytes empty g.gave.0) in
    let has = g.has_reads in
    nil_from_length reads (omega (arith, none, read_count-within bytes has.0 has.2, ap length has.3, ap length has.4, length-append has.0 has.1))
no_reads input after empty (bytes ∷ other ∷ more) reads g = absurd g.gave.1

-- A text of no bytes has no fault, since no record begins in it.
none_begins : (ls : List Line) → ls ≡ [] → (line : Line) (more : List Line) → skip_blanks ls ≡ line ∷ more → ⊥
none_begins [] none line more is = let no : ⊥ = cc in no
none_begins (first ∷ ls) none line more is = let no : ⊥ = cc in no

no_fastq_fault : (count : ℕ) (ls : List Line) → ls ≡ [] → (fault : FastxFault) → FastqFails count ls fault → ⊥
no_fastq_fault count ls none (BadStart number) h = none_begins ls none h.1.line h.0 h.1.whole
no_fastq_fault count ls none (BadBase number) h = none_begins ls none h.1.title h.0 h.1.whole
no_fastq_fault count ls none (BadQuality number) h = none_begins ls none h.1.title h.0 h.1.whole
no_fastq_fault count ls none (LongQuality number) h = none_begins ls none h.1.title h.0 h.1.whole
no_fastq_fault count ls none (Truncated number) h = none_begins ls none h.1.title h.0 h.1.whole
no_fastq_fault count ls none TooLong h = none_begins ls none h.1.title h.0 h.1.whole
no_fastq_fault count ls none ReadFailed h = none_begins ls none h.1.title h.0 h.1.whole
no_fastq_fault count ls none LacksMemory h = none_begins ls none h.1.title h.0 h.1.whole
no_fastq_fault count ls none BrokenGzip h = none_begins ls none h.1.title h.0 h.1.whole
no_fastq_fault count ls none ShortGzip h = none_begins ls none h.1.title h.0 h.1.whole

no_fault : (fault : FastxFault) → HasFault [] fault → ⊥
no_fault fault ([], here, records, fails) = no_fastq_fault 0 here (sym records) fault fails
no_fault fault (read ∷ reads, here, records, fails) =
    let title = records.1.title in none_begins [] refl title.title records.1.body title.whole

faultless : (old new : Seen) → old.left ≡ Some [] → (limit : ℕ) (fault : FastxFault)
    → ((bytes : List ℕ) × TakesAll old new limit bytes × HasFault bytes fault) → ⊥
faultless old new empty limit fault h =
    let none = none_said old new limit h.0 empty h.1 in
    no_fault fault (subst (λ (bytes : List ℕ). HasFault bytes fault) none h.2)

never_refused : (old new : Seen) (since : History) (fault : GzipFault) → old.left ≡ Some [] → HasAnswered old new since
    → says since.bytes ≡ Err fault → ⊥
never_refused old new since fault empty h refused =
    let none = none_answered old new since empty h in
    let is : says [] ≡ Err fault = ap says (sym none) ∙ refused in
    let no : Ok [] ≡ Err fault = is in
    cc

-- A source of no bytes without a failed read is refused only for lack of memory.
lacks_memory : (old new : Seen) → old.left ≡ Some [] → old.history.failures ≡ 0 → new.history.failures ≡ 0 → (limit : ℕ)
    (fault : FastxFault) → RefusesFor old new limit fault → fault ≡ LacksMemory
lacks_memory old new empty unfailed still limit TooLong h =
    let none = none_in_front old new h.0 h.1 empty h.2 h.3.0.front in
    let no : ⊥ = omega (arith, none, h.3.1) in absurd no
lacks_memory old new empty unfailed still limit ReadFailed h =
    let no : ⊥ = omega (arith, unfailed, still, h.3.failed, ap (λ (h : History). h.failures) h.2.history) in absurd no
lacks_memory old new empty unfailed still limit BrokenGzip h = absurd (never_refused old new h.0 gzip.Broken empty h.2 h.3.refused)
lacks_memory old new empty unfailed still limit ShortGzip h = absurd (never_refused old new h.0 gzip.Short empty h.2 h.3.0.refused)
lacks_memory old new empty unfailed still limit LacksMemory h = refl
lacks_memory old new empty unfailed still limit (BadStart number) h = absurd (faultless old new empty limit (BadStart number) h)
lacks_memory old new empty unfailed still limit (BadBase number) h = absurd (faultless old new empty limit (BadBase number) h)
lacks_memory old new empty unfailed still limit (BadQuality number) h = absurd (faultless old new empty limit (BadQuality number) h)
lacks_memory old new empty unfailed still limit (LongQuality number) h = absurd (faultless old new empty limit (LongQuality number) h)
lacks_memory old new empty unfailed still limit (Truncated number) h = absurd (faultless old new empty limit (Truncated number) h)

-- No source gave no reads.
pub none_read : {S : Type 0} (seen : S → Seen) (files later : List (NamedSource S)) → files ≡ [] → names_of later ≡ names_of files
    → (reads : List Read) × ReadsSources (seen_of seen files) (seen_of seen later) reads
none_read seen [] [] none same = ([], ([], record { gave = tt; within = omega arith; has_reads = refl }))
none_read seen [] (source ∷ later) none same = let no : ⊥ = cc in absurd no
none_read seen (file ∷ files) later none same = let no : ⊥ = cc in absurd no

-- In a list of one, what is between two parts is that one.
only_one : {S : Type 0} (one : S) (before : List S) (here : S) (behind : List S) → one ∷ [] ≡ before ++ here ∷ behind → one ≡ here
only_one one [] here behind is = cc
only_one one (first ∷ before) here behind is =
    let no : ⊥ = omega (arith, ap length is, length-append before (here ∷ behind)) in absurd no

-- If an input of no bytes is beside sources, the result of both is that of the sources alone.
module _ {S : Type 0} (seen : S → Seen) (input after : Seen) (empty : input.left ≡ Some []) where
  pub tallied_alone : (files later : List (NamedSource S)) → names_of later ≡ names_of files → (settings : Settings)
      (list : Option (List ℕ)) (table : TableSeen)
      → TalliesSources (sources_from input (seen_of seen files)) (sources_from after (seen_of seen later)) settings list table
      → TalliesSources (seen_of seen files) (seen_of seen later) settings list table
  tallied_alone [] [] same settings list table h =
      let none = no_reads input after empty h.1.0 h.0 h.1.1 in (
        [],
        ([], record { gave = tt; within = omega arith; has_reads = refl }),
        subst (λ (reads : List Read). IsTallyOf (kept_to list (rule_of settings)) reads table.0) none h.2,
        h.3 ∙ ap (λ (reads : List Read). Some (origin_of settings list (length reads))) none,
      )
  tallied_alone [] (source ∷ later) same settings list table h = let no : ⊥ = cc in absurd no
  tallied_alone (file ∷ files) [] same settings list table h = let no : ⊥ = cc in absurd no
  tallied_alone (file ∷ files) (source ∷ later) same settings list table h = h

  -- If no read of it failed either, and there are no sources, its reader can only have lacked memory.
  refused_nothing : (files later : List (NamedSource S)) → files ≡ [] → names_of later ≡ names_of files
      → input.history.failures ≡ 0 → after.history.failures ≡ 0 → (number : ℕ) (fault : FastxFault)
      → FailsAt (sources_from input (seen_of seen files)) (sources_from after (seen_of seen later)) number fault → fault ≡ LacksMemory
  refused_nothing [] [] none same unfailed still number fault h =
      let was = only_one input h.place.before h.place.here h.place.behind h.place.were in
      let is = only_one after h.place.given h.place.left h.place.behind h.place.are in
      lacks_memory input after empty unfailed still (most_bytes - length (concat h.inputs)) fault (rw (was, is) h.fails)
  refused_nothing [] (source ∷ later) none same unfailed still number fault h = let no : ⊥ = cc in absurd no
  refused_nothing (file ∷ files) later none same unfailed still number fault h = let no : ⊥ = cc in absurd no

  pub refused_without : (files later : List (NamedSource S)) → files ≡ [] → names_of later ≡ names_of files
      → input.history.failures ≡ 0 → after.history.failures ≡ 0 → (settings : Settings) (fault : ToolFault)
      → reader_lacks_memory fault ≡ false
      → RefusesSources settings (sources_from input (seen_of seen files)) (sources_from after (seen_of seen later)) fault
      → RefusesSources settings (seen_of seen files) (seen_of seen later) fault
  refused_without files later none same unfailed still settings (Fastx number fault) other h =
      let is = refused_nothing files later none same unfailed still number fault h in
      let lacks : reader_lacks_memory (Fastx number fault) ≡ true = rw is refl in
      let no : ⊥ = cc in absurd no
  refused_without files later none same unfailed still settings Memory other h = tt
  refused_without files later none same unfailed still settings (Run fault) other h =
      let none = none_read seen files later none same in (none.0, none.1, h.2)
  refused_without files later none same unfailed still settings BadHeader other h = absurd h
  refused_without files later none same unfailed still settings (BadRow line) other h = absurd h
  refused_without files later none same unfailed still settings BadEnd other h = absurd h
  refused_without files later none same unfailed still settings TableTooLong other h = absurd h
  refused_without files later none same unfailed still settings TableRead other h = absurd h
  refused_without files later none same unfailed still settings (BadOption name) other h = absurd h
  refused_without files later none same unfailed still settings (BadWord at) other h = absurd h
  refused_without files later none same unfailed still settings Write other h = absurd h
  refused_without files later none same unfailed still settings (OpenFailed name) other h = absurd h
  refused_without files later none same unfailed still settings Unlike other h = absurd h
  refused_without files later none same unfailed still settings TooLarge other h = absurd h
  refused_without files later none same unfailed still settings (BrokenTable place) other h = absurd h
  refused_without files later none same unfailed still settings (ShortTable place) other h = absurd h
  refused_without files later none same unfailed still settings (Unpaired number) other h = absurd h

  pub refused_alone : (files later : List (NamedSource S)) → (files ≡ [] → ⊥) → names_of later ≡ names_of files
      → (settings : Settings) (fault : ToolFault)
      → RefusesSources settings (sources_from input (seen_of seen files)) (sources_from after (seen_of seen later)) fault
      → RefusesSources settings (seen_of seen files) (seen_of seen later) fault
  refused_alone [] later some same settings fault h = absurd (some refl)
  refused_alone (file ∷ files) [] some same settings fault h = let no : ⊥ = cc in absurd no
  refused_alone (file ∷ files) (source ∷ later) some same settings fault h = h

-- A list that is given gave its reads.
pub gave_list : (rule : CountingRule) (before after : Option Seen) (list : Option (List ℕ)) → GivesList rule before after list
    → ListGave before after
gave_list rule None after list h = tt
gave_list rule (Some before) (Some after) (Some words) h = (h.1.reads, h.1.bytes, h.1.given)
gave_list rule (Some before) (Some after) None h = absurd h
gave_list rule (Some before) None list h = absurd h

-- The list, if one is given, was read, and then the sources were.
module _ (list : Option (List ℕ)) (before after : Option Seen) (old new : List Seen) (settings : Settings)
    (listed : GivesList (rule_of settings) before after list) where
  pub sources_counted : (table : TableSeen) → TalliesSources old new settings list table
      → Counts (given before old) (given after new) settings table
  sources_counted table h = record { list = list; listed = listed; tallied = h }

  pub sources_refused : (fault : ToolFault) → RefusesSources settings old new fault
      → RefusesCount (given before old) (given after new) settings fault
  sources_refused Memory h = gave_list (rule_of settings) before after list listed
  sources_refused (Fastx number fault) h = inr (record { list = list; listed = listed; refused = h })
  sources_refused BadHeader h = inr (record { list = list; listed = listed; refused = h })
  sources_refused (BadRow line) h = inr (record { list = list; listed = listed; refused = h })
  sources_refused BadEnd h = inr (record { list = list; listed = listed; refused = h })
  sources_refused TableTooLong h = inr (record { list = list; listed = listed; refused = h })
  sources_refused TableRead h = inr (record { list = list; listed = listed; refused = h })
  sources_refused (BadOption name) h = inr (record { list = list; listed = listed; refused = h })
  sources_refused (BadWord number) h = inr (record { list = list; listed = listed; refused = h })
  sources_refused Write h = inr (record { list = list; listed = listed; refused = h })
  sources_refused (Run fault) h = inr (record { list = list; listed = listed; refused = h })
  sources_refused (OpenFailed name) h = inr (record { list = list; listed = listed; refused = h })
  sources_refused Unlike h = inr (record { list = list; listed = listed; refused = h })
  sources_refused TooLarge h = inr (record { list = list; listed = listed; refused = h })
  sources_refused (BrokenTable place) h = inr (record { list = list; listed = listed; refused = h })
  sources_refused (ShortTable place) h = inr (record { list = list; listed = listed; refused = h })
  sources_refused (Unpaired number) h = inr (record { list = list; listed = listed; refused = h })

-- The list has no reads.
pub list_refused : (before after : Seen) (sources : List Seen) (settings : Settings) (fault : ToolFault)
    → RefusesList before after fault
    → RefusesCount (given (Some before) sources) (given (Some after) sources) settings fault
list_refused before after sources settings Memory h = h
list_refused before after sources settings (Fastx number fault) h = inl (before, after, refl, refl, h.0, h.1, refl)
list_refused before after sources settings BadHeader h = absurd h
list_refused before after sources settings (BadRow line) h = absurd h
list_refused before after sources settings BadEnd h = absurd h
list_refused before after sources settings TableTooLong h = absurd h
list_refused before after sources settings TableRead h = absurd h
list_refused before after sources settings (BadOption name) h = absurd h
list_refused before after sources settings (BadWord number) h = absurd h
list_refused before after sources settings Write h = absurd h
list_refused before after sources settings (Run fault) h = absurd h
list_refused before after sources settings (OpenFailed name) h = absurd h
list_refused before after sources settings Unlike h = absurd h
list_refused before after sources settings TooLarge h = absurd h
list_refused before after sources settings (BrokenTable place) h = absurd h
list_refused before after sources settings (ShortTable place) h = absurd h
list_refused before after sources settings (Unpaired number) h = absurd h

-- The same, if the list was read for good.
pub list_left : (source : Option Seen) (sources : List Seen) (settings : Settings) (fault : ToolFault) → ListFailsIn source fault
    → (later : Given) × RefusesCount (given source sources) later settings fault
list_left None sources settings fault h = absurd h
list_left (Some source) sources settings fault h =
    (given (Some h.0) sources, list_refused source h.0 sources settings fault h.1)

-- Nothing is uncounted since a writer failed.
pub not_counted : (old new : Given) (settings : Settings) → RefusesCount old new settings Write → ⊥
not_counted old new settings (inl h) = h
not_counted old new settings (inr h) = h.refused
