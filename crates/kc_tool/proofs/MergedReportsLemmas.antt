-- Merged reports have the reads of both.
use Rattle.std.proofs.Common.{◌≡◌, ℕ, zero, suc, ◌+◌, ◌-◌, ◌^◌, ◌<◌, ◌≤◌, Bool, true, false, List, [], ◌∷◌, ◌++◌}
use Rattle.std.proofs.Common.{length, map, drop, append_assoc, get_or, eqb, refl, sym, ◌∙◌, ap, subst, arith}
use Rattle.std.proofs.Common.{ap₂, eq-eqb, ne_eqb, ⊎_elim}
use Rattle.kc_gzip.specs.declared.faults.GzipFault.{GzipFault}
use Rattle.std.specs.Prelude.{All, MatchBool, Option, Some, None, IfSome, Ok, Result}
use Rattle.std.specs.List.{concat}
use Rattle.std.proofs.lemmas.Bool.{cases_eq, cases_lt, cond-false, cond-true}
use Rattle.std.proofs.lemmas.List.{drop_at, length-append, map-append}
use Rattle.std.proofs.lemmas.Grind.{flat_map-append}
use Rattle.std.proofs.lemmas.List.Elements.{All-head, All-tail}
use Rattle.std.proofs.lemmas.List.Sums.{sum_by-append, sum_by-cons}
use Rattle.kc_io.specs.Sources.{Seen}
use Rattle.kc_gzip.specs.Following.{says}
use Rattle.kc_gzip.specs.Intakes.{TakesAll}
use Rattle.kc_fastx.specs.declared.read_faults.FastxFault.{FastxFault}
use Rattle.kc_fastx.specs.Reads.{Read, base_count}
use Rattle.kc_fastx.specs.Lines.{next_begins_with}
use Rattle.kc_fastx.specs.Records.{Records}
use Rattle.kc_fastx.specs.Fasta.{IsFastaRecord, greater_than}
use Rattle.kc_fastx.specs.Parsing.{HaveReads, IsFastq, most_bytes, text_lines}
use Rattle.kc_fastx.proofs.LawsOfAll.{same_answer_of_all}
use Rattle.kc_fastx.proofs.ReadsLemmas.{base_count-fasta, base_count-fastq}
use Rattle.kc_kmer.specs.Word.{text as text_of, form}
use Rattle.kc_kmer.specs.Rule.{CountingRule}
use Rattle.kc_kmer.specs.Occurrences.{words_in, words_of}
use Rattle.kc_tally.specs.declared.row.Row.{Row}
use Rattle.kc_tally.specs.Tally.{AreOrderedRows, AreRows, IsTallyOf, TallySeen, count_of, total_of}
use Rattle.kc_tally.specs.Sum.{IsSum}
use Rattle.kc_tally.proofs.Tallies.{bounded_tally, one_value, summed_tally, tally-AreRows, tally_total}
use Rattle.kc_report.specs.Table.{table_text}
use Rattle.kc_io.specs.Sinks.{HasWritten, Written}
use Rattle.kc_combine.specs.CombinedTexts.{CombinesTables, GiveTables}
use Rattle.kc_combine.specs.JudgedTexts.{FitsInto, total_of_all}
use Rattle.kc_combine.specs.Derivations.{DerivesTables}
use Rattle.kc_combine.specs.declared.combining.Combining.TheVariants as combination
use Rattle.kc_combine.specs.declared.derived.Derived.TheVariants as derive
use Rattle.kc_combine.specs.declared.written_tables.Totals.{Totals}
use Rattle.kc_combine.proofs.LoadedTableLemmas.{writes_merged}
use Rattle.kc_combine.proofs.MergedLemmas.{merges_two}
use Rattle.kc_combine.proofs.ResultLemmas.{total_of_sum}
use Rattle.kc_tool.specs.Commands.{most_table_bytes}
use Rattle.kc_report.specs.TableReading.{IsTable, IsTableOf}
use Rattle.kc_report.specs.Merging.{IsCountRead, counted_from, joined_origin, reads_together}
use Rattle.kc_report.proofs.MergingLemmas.{counts_match}
use Rattle.kc_report.proofs.TableAnswers.{same_tally}
use Rattle.kc_command.specs.declared.settings.Print.TheVariants as print
use Rattle.kc_command.specs.Settings.{Settings, rule_of}
use Rattle.kc_tool.specs.MergedReports.{ApartIsTogether, AreMerged, IsReportOn, MergeWritesMerged, MergeWritesMergedFiles, MergedReports, ReportsFit}
use Rattle.kc_tool.specs.MergedReports.{OneReport, ReportTellsReads, ReportsMatch, TellsReads}
use Rattle.kc_tool.specs.Reports.{IsReportOf, printed_text}
use Rattle.kc_tool.specs.Tallies.{GaveInputs, GivesList, TableSeen, TalliesSources, given}
use Rattle.kc_tool.proofs.ReadCountLemmas.{read_count-within}

-- ---- how much reads are

bases-either : (is_fasta : Bool) (bytes : List ℕ) (reads : List Read)
    → MatchBool is_fasta (Records IsFastaRecord (text_lines bytes) reads []) (IsFastq (text_lines bytes) reads)
    → base_count reads ≤ length bytes
bases-either true bytes reads h = base_count-fasta bytes reads h
bases-either false bytes reads h = base_count-fastq bytes reads h

-- There are at most so many reads, and they have at most so many bases.
record AreFew (reads : List Read) (most : ℕ) : Type 0 where
  count : length reads ≤ most
  bases : base_count reads ≤ most

few_of : (inputs : List (List ℕ)) (reads : List Read) → HaveReads inputs reads → AreFew reads (length (concat inputs))
few_of [] reads none = record {
  count = rw none (omega arith);
  bases = rw none (omega arith);
}
few_of (bytes ∷ inputs) reads h =
    let here = h.0 in
    let others = h.1 in
    let rest = few_of inputs others h.3 in
    let long = length-append bytes (concat inputs) in
    let bases : base_count (here ++ others) ≡ base_count here + base_count others =
    sum_by-append (λ read. length read.bases) here others in
    let bases_here = bases-either (next_begins_with greater_than (text_lines bytes)) bytes here h.2 in
    record {
      count = rw h.4 (omega (arith, read_count-within bytes here h.2, rest.count, long, length-append here others));
      bases = rw h.4 (omega (arith, bases_here, rest.bases, long, bases));
    }

-- ---- the report of a count

-- Settings for which the words have a length, and the floor is one of a quality line.
pub record AreSettings (settings : Settings) : Type 0 where
  pub some : 1 ≤ settings.k
  pub most : settings.k ≤ 31
  pub low : 33 ≤ settings.floor
  pub high : settings.floor ≤ 126

rows_under : {k m : ℕ} {both other : Bool} (rows : List Row) → k ≡ m → both ≡ other → AreRows k both rows
    → AreRows m other rows
rows_under {k} {m} {both} {other} rows same same_ h =
    subst (λ both. AreRows m both rows) same_ (subst (λ k. AreRows k both rows) same h)

counted_table : (settings : Settings) → AreSettings settings → (reads : List Read) → AreFew reads most_bytes
    → (tally : TallySeen) → IsTallyOf (rule_of settings) reads tally
    → IsTable tally (counted_from (rule_of settings) reads)
counted_table settings are reads few tally counted =
    let k : tally.k ≡ settings.k = counted.k in
    record {
      some = omega (arith, k, are.some);
      most = omega (arith, k, are.most);
      rows = rows_under tally.rows (sym counted.k) (sym counted.both)
          (tally-AreRows (rule_of settings) reads tally.rows are.some (omega (arith, few.bases)) counted.rows);
      said = record { floor_least = are.low; floor_most = are.high; reads = omega (arith, few.count) };
    }

no_list : (rule : CountingRule) (later : Option Seen) (list : Option (List ℕ)) → GivesList rule None later list
    → list ≡ None
no_list rule None None h = refl
no_list rule None (Some words) h = absurd h
no_list rule (Some later) None h = absurd h
no_list rule (Some later) (Some words) h = absurd h

pub report_tells : (settings : Settings) → AreSettings settings → ReportTellsReads settings
report_tells settings are sources text is_table report =
    let later = report.later in
    let table = report.table in
    let counted = report.counted in
    let none = no_list (rule_of settings) later.list counted.list counted.listed in
    let tallied : TalliesSources sources later.sources settings None table =
    subst (λ list. TalliesSources sources later.sources settings list table) none counted.tallied in
    let reads = tallied.0 in
    let gave = tallied.1.1 in
    let all = few_of tallied.1.0 reads gave.has_reads in
    let few : AreFew reads most_bytes = record {
      count = omega (arith, all.count, gave.within);
      bases = omega (arith, all.bases, gave.within);
    } in
    let is_text : text ≡ table_text table.0 (counted_from (rule_of settings) reads) = report.is_text
    ∙ ap (λ which. printed_text which settings.dump settings.high table) is_table
    ∙ ap (λ origin. table_text table.0 origin) tallied.3 in (
      reads,
      tallied.1,
      record {
        tally = table.0;
        counted = tallied.2;
        told = record {
          lawful = counted_table settings are reads few table.0 tallied.2;
          whole = is_text;
        };
      },
    )

-- ---- texts of reads

-- The text is read as the table of the reads.
record IsRead (rule : CountingRule) (reads : List Read) (table : TableSeen) : Type 0 where
  counted : IsTallyOf rule reads table.0
  origin : table.1 ≡ counted_from rule reads

is_read : {rule : CountingRule} {reads : List Read} {text : List ℕ} (table : TableSeen) → TellsReads rule reads text
    → IsTableOf text (Ok table) → IsRead rule reads table
is_read {rule} {reads} table tells read =
    let same = same_tally tells.tally table.0 (counted_from rule reads) table.1 tells.told.lawful read.lawful
    (sym tells.told.whole ∙ read.whole) in
    record { counted = subst (IsTallyOf rule reads) same.0 tells.counted; origin = sym same.1 }

count_read : {rule : CountingRule} {reads : List Read} {text : List ℕ} {table : TableSeen} → TellsReads rule reads text
    → IsTableOf text (Ok table) → IsCountRead rule reads table
count_read {rule} {reads} {text} {table} tells read = record {
  tally = tells.tally;
  counted = tells.counted;
  lawful = tells.told.lawful;
  told = subst (λ bytes. IsTableOf bytes (Ok table)) tells.told.whole read;
}

pub reports_match : ReportsMatch
reports_match rule reads more first second table other tells tells_ read read_ =
    counts_match rule reads more table other (count_read tells read) (count_read tells_ read_)

-- What is read of a report on sources: few k-mers, of few reads.
record IsFewRead (rule : CountingRule) (table : TableSeen) : Type 0 where
  reads : List Read
  few : AreFew reads most_bytes
  origin : table.1 ≡ counted_from rule reads
  total : total_of table.0.rows ≤ most_bytes

few_read : (settings : Settings) → AreSettings settings → (sources : List Seen) (text : List ℕ) (table : TableSeen)
    → settings.print ≡ print.Table → IsReportOf (given None sources) settings text → IsTableOf text (Ok table)
    → IsFewRead (rule_of settings) table
few_read settings are sources text table is_table report read =
    let told = report_tells settings are sources text is_table report in
    let gave = told.1.1 in
    let all = few_of told.1.0 told.0 gave.has_reads in
    let is = is_read table told.2 read in
    let words = bounded_tally (rule_of settings) told.0 table.0.rows are.some is.counted.rows in
    record {
      reads = told.0;
      few = record {
        count = omega (arith, all.count, gave.within);
        bases = omega (arith, all.bases, gave.within);
      };
      origin = is.origin;
      total = omega (arith, words, all.bases, gave.within);
    }

pub reports_fit : (settings : Settings) → AreSettings settings → ReportsFit settings
reports_fit settings are sources more first second table other is_table one two read read_ =
    let here = few_read settings are sources first table is_table one read in
    let there = few_read settings are more second other is_table two read_ in
    let rule = rule_of settings in
    record {
      totals = omega (arith, here.total, there.total);
      reads = subst (λ v. reads_together v other.1 ≤ 2 ^ 62) (sym here.origin)
          (subst (λ v. reads_together (counted_from rule here.reads) v ≤ 2 ^ 62) (sym there.origin)
          (omega (arith, here.few.count, there.few.count)));
    }

pub one_report : OneReport
one_report rule reads text other tells tells_ =
    let same = one_value rule reads tells.tally tells_.tally tells.counted tells_.counted in
    tells.told.whole ∙ ap (λ tally. table_text tally (counted_from rule reads)) same ∙ sym tells_.told.whole

-- ---- the rows of a sum

count_of-here : (row : Row) (rows : List Row) (n : ℕ) → row.word ≡ n → count_of (row ∷ rows) n ≡ row.count
count_of-here row rows n e = cond-true (eqb row.word n) row.count (count_of rows n) (eq-eqb row.word n e)

count_of-past : (row : Row) (rows : List Row) (n : ℕ) → (row.word ≡ n → ⊥) → count_of (row ∷ rows) n ≡ count_of rows n
count_of-past row rows n ne = cond-false (eqb row.word n) row.count (count_of rows n) (ne_eqb row.word n ne)

-- A word with a count has a row.
counted_stands : (P : ℕ → Type 0) (rows : List Row) (n : ℕ) → All (λ row. P row.word) rows → 1 ≤ count_of rows n → P n
counted_stands P [] n all some = absurd (omega (arith, some))
counted_stands P (row ∷ rows) n all some =
    ⊎_elim (λ e. subst P e (All-head (λ (row : Row). P row.word) row rows all))
    (λ ne. counted_stands P rows n (All-tail (λ (row : Row). P row.word) row rows all)
    (omega (arith, some, count_of-past row rows n ne)))
    (cases_eq row.word n)

-- The word of a row has a count.
stands_counted : (rows : List Row) → All (λ row. 1 ≤ row.count) rows → All (λ row. 1 ≤ count_of rows row.word) rows
stands_counted [] present i d h = absurd (omega (arith, h))
stands_counted (row ∷ rows) present zero d h =
    let some : 1 ≤ row.count = present zero d h in
    omega (arith, some, count_of-here row rows row.word refl)
stands_counted (row ∷ rows) present (suc i) d h =
    let next : Row = get_or rows i d in
    let rest = All-tail (λ (row : Row). 1 ≤ row.count) row rows present in
    let there : 1 ≤ count_of rows next.word = stands_counted rows rest i d (omega (arith, h)) in
    let some : 1 ≤ row.count = All-head (λ (row : Row). 1 ≤ row.count) row rows present in
    ⊎_elim (λ e. let here = count_of-here row rows next.word e in omega (arith, some, here))
    (λ ne. let past = count_of-past row rows next.word ne in omega (arith, there, past))
    (cases_eq row.word next.word)

module _ {k : ℕ} {both : Bool} {rows others sums : List Row} (first : AreRows k both rows)
    (second : AreRows k both others) (sum : IsSum k rows others sums) where
  -- Each word of the sum is one of the addends'.
  sum_forms : All (λ row. form both (text_of k row.word) ≡ text_of k row.word) sums
  sum_forms i d h =
      let row : Row = get_or sums i d in
      let formed : ℕ → Type 0 = λ n. form both (text_of k n) ≡ text_of k n in
      let some : 1 ≤ count_of sums row.word = stands_counted sums sum.ordered.present i d h in
      let counts = sum.counts row.word (sum.ordered.words i d h) in
      ⊎_elim (λ none. counted_stands formed others row.word second.forms (omega (arith, some, counts, none)))
      (λ counted. counted_stands formed rows row.word first.forms counted)
      (cases_lt (count_of rows row.word) 1)

  sum_rows : total_of sums ≤ 2 ^ 62 → AreRows k both sums
  sum_rows small = record { ordered = sum.ordered; forms = sum_forms; small = small }

words-append : (rule : CountingRule) (reads more : List Read)
    → length (words_of rule (reads ++ more)) ≡ length (words_of rule reads) + length (words_of rule more)
unfolding words_of
words-append rule reads more =
    ap length (flat_map-append (λ read. words_in rule read) reads more)
    ∙ length-append (words_of rule reads) (words_of rule more)

-- ---- merged texts

pub merged_reports : MergedReports
merged_reports rule reads more first second text tells tells_ are =
    let one = is_read are.table tells are.told in
    let two = is_read are.other tells_ are.other_told in
    let merged = are.merged in
    let merges = are.merges in
    let counted : IsTallyOf rule (reads ++ more) merged.0 =
    summed_tally rule reads more are.table.0 are.other.0 merged.0 one.counted two.counted merges.2 in
    let long : length reads + length more ≡ length (reads ++ more) = sym (length-append reads more) in
    let origin : merged.1 ≡ counted_from rule (reads ++ more) = merges.3
    ∙ (λ i. joined_origin (one.origin i) (two.origin i))
    ∙ (λ i. Some (record { floor = rule.floor; reads = long i; listed = false })) in
    let together : length reads + length more ≤ 2 ^ 62 =
    subst (λ origin. reads_together origin (counted_from rule more) ≤ 2 ^ 62) one.origin
    (subst (λ origin. reads_together are.table.1 origin ≤ 2 ^ 62) two.origin merges.1.reads) in
    let said = tells.told.lawful.said in
    let totals = merges.1.totals in
    let total : total_of merged.0.rows ≤ 2 ^ 62 = omega (
      arith,
      totals,
      tally_total rule (reads ++ more) merged.0.rows counted.rows,
      tally_total rule reads are.table.0.rows one.counted.rows,
      tally_total rule more are.other.0.rows two.counted.rows,
      words-append rule reads more,
    ) in
    let rows = sum_rows (rows_under are.table.0.rows one.counted.k one.counted.both are.told.lawful.rows)
    (rows_under are.other.0.rows two.counted.k two.counted.both are.other_told.lawful.rows)
    (subst (λ k. IsSum k are.table.0.rows are.other.0.rows merged.0.rows) one.counted.k merges.2.rows) total in
    record {
      tally = merged.0;
      counted = counted;
      told = record {
        lawful = record {
          some = omega (arith, merges.2.k, are.told.lawful.some);
          most = omega (arith, merges.2.k, are.told.lawful.most);
          rows = rows_under merged.0.rows (sym counted.k) (sym counted.both) rows;
          said = record {
            floor_least = said.floor_least;
            floor_most = said.floor_most;
            reads = omega (arith, together, long);
          };
        };
        whole = are.is_text ∙ ap (λ origin. table_text merged.0 origin) origin;
      };
    }

-- ---- sources whose bytes are known

-- A source that was read to its end gave the text of its known bytes.
gave_told : (old new : Seen) (limit : ℕ) (input bytes : List ℕ) → TakesAll old new limit input → old.left ≡ Some bytes
    → says bytes ≡ Ok input
gave_told old new limit input bytes taken tells =
    let some : taken.since.ends ≡ [] → ⊥ = λ none. (let no : length taken.since.bytes ∷ [] ≡ [] = sym taken.all.ended ∙ none in cc) in
    let all : taken.since.bytes ≡ bytes =
    subst (λ left. IfSome left (λ bytes. taken.since.bytes ≡ bytes)) tells (taken.answered.whole some) in
    ap says (sym all) ∙ taken.all.said

gave_inputs : (limit : ℕ) (old new : List Seen) (inputs told : List (List ℕ)) → GaveInputs limit old new inputs
    → map (λ source. source.left) old ≡ map (λ input. Some input) told → map says told ≡ map (λ input. Ok input) inputs
gave_inputs limit [] [] [] [] gave tell = refl
gave_inputs limit [] [] [] (bytes ∷ told) gave tell = absurd (let long = ap length tell in omega (arith, long))
gave_inputs limit (source ∷ old) (later ∷ new) (input ∷ inputs) [] gave tell =
    absurd (let long = ap length tell in omega (arith, long))
gave_inputs limit (source ∷ old) (later ∷ new) (input ∷ inputs) (bytes ∷ told) gave tell =
    let here : source.left ≡ Some bytes = cc in
    let rest : map (λ source. source.left) old ≡ map (λ input. Some input) told = ap (drop 1) tell in
    let same = gave_told source later limit input bytes gave.0 here in
    let others = gave_inputs (limit - length input) old new inputs told gave.1 rest in
    λ i. same i ∷ others i
gave_inputs limit [] [] (input ∷ inputs) told gave tell = absurd gave
gave_inputs limit [] (later ∷ new) [] told gave tell = absurd gave
gave_inputs limit [] (later ∷ new) (input ∷ inputs) told gave tell = absurd gave
gave_inputs limit (source ∷ old) [] [] told gave tell = absurd gave
gave_inputs limit (source ∷ old) [] (input ∷ inputs) told gave tell = absurd gave
gave_inputs limit (source ∷ old) (later ∷ new) [] told gave tell = absurd gave

HaveReads-append : (inputs more : List (List ℕ)) (reads others : List Read) → HaveReads inputs reads
    → HaveReads more others → HaveReads (inputs ++ more) (reads ++ others)
HaveReads-append [] more reads others none h = subst (λ v. HaveReads more (v ++ others)) (sym none) h
HaveReads-append (bytes ∷ inputs) more reads others h behind = (
  h.0,
  h.1 ++ others,
  h.2,
  HaveReads-append inputs more h.1 others h.3 behind,
  ap (λ v. v ++ others) h.4 ∙ append_assoc h.0 h.1 others,
)

same_reads : (inputs : List (List ℕ)) (reads others : List Read) → HaveReads inputs reads → HaveReads inputs others
    → reads ≡ others
same_reads inputs reads others h h_ =
    let same : ◌≡◌ {A = Result (List Read) (ℕ × FastxFault)} (Ok reads) (Ok others) =
    same_answer_of_all inputs (Ok reads) (Ok others) h h_ in
    cc

-- The report on sources whose bytes are known: the reads of their text.
record TellsInputs (settings : Settings) (inputs : List (List ℕ)) (text : List ℕ) : Type 0 where
  reads : List Read
  texts : List (List ℕ)
  say : map says inputs ≡ map (λ text. Ok text) texts
  have : HaveReads texts reads
  tells : TellsReads (rule_of settings) reads text

tells_inputs : (settings : Settings) → AreSettings settings → (inputs : List (List ℕ)) (text : List ℕ)
    → settings.print ≡ print.Table → IsReportOn settings inputs text → TellsInputs settings inputs text
tells_inputs settings are inputs text is_table on =
    let told = report_tells settings are on.sources text is_table on.report in
    let gave = told.1.1 in
    record {
      reads = told.0;
      texts = told.1.0;
      say = gave_inputs most_bytes on.sources on.report.later.sources told.1.0 inputs gave.gave on.tell;
      have = gave.has_reads;
      tells = told.2;
    }

same_texts : (xs ys : List (List ℕ)) → map {B = Result (List ℕ) GzipFault} (λ text. Ok text) xs ≡ map (λ text. Ok text) ys → xs ≡ ys
same_texts [] [] h = refl
same_texts [] (y ∷ ys) h = let no : ⊥ = cc in absurd no
same_texts (x ∷ xs) [] h = let no : ⊥ = cc in absurd no
same_texts (x ∷ xs) (y ∷ ys) h =
    let here : x ≡ y = cc in
    let rest = same_texts xs ys (ap (drop 1) h) in
    λ i. here i ∷ rest i

pub apart_is_together : (settings : Settings) → AreSettings settings → ApartIsTogether settings
apart_is_together settings are inputs more first second merged whole is_table one two put all =
    let rule = rule_of settings in
    let front = tells_inputs settings are inputs first is_table one in
    let back = tells_inputs settings are more second is_table two in
    let both = tells_inputs settings are (inputs ++ more) whole is_table all in
    let texts : both.texts ≡ front.texts ++ back.texts = same_texts both.texts (front.texts ++ back.texts)
    (sym both.say ∙ map-append says inputs more ∙ ap₂ (λ xs ys. xs ++ ys) front.say back.say
    ∙ sym (map-append (λ text. Ok text) front.texts back.texts)) in
    let same = same_reads (front.texts ++ back.texts) both.reads (front.reads ++ back.reads)
    (subst (λ texts. HaveReads texts both.reads) texts both.have)
    (HaveReads-append front.texts back.texts front.reads back.reads front.have back.have) in
    one_report rule (front.reads ++ back.reads) merged whole
    (merged_reports rule front.reads back.reads first second merged front.tells back.tells put)
    (subst (λ reads. TellsReads rule reads whole) same both.tells)

-- ---- the command

-- The sum of two tables was written.
wrote_two : (first second first_after second_after : Seen) (start now : Written) (tables : List TableSeen) (totals : Totals)
    → GiveTables most_table_bytes (first ∷ second ∷ []) (first_after ∷ second_after ∷ []) tables
    → CombinesTables combination.Merge tables start now totals
    → ((table other : TableSeen) → tables ≡ table ∷ other ∷ [] → FitsInto combination.Merge (total_of_all tables))
    → (one other text : List ℕ) × TakesAll first first_after most_table_bytes one
    × TakesAll second second_after most_table_bytes other × AreMerged one other text × HasWritten start now text
wrote_two first second first_after second_after start now [] totals given made fits = absurd given
wrote_two first second first_after second_after start now (table ∷ []) totals given made fits = absurd given.1
wrote_two first second first_after second_after start now (table ∷ other ∷ more ∷ tables) totals given made fits = absurd given.1.1
wrote_two first second first_after second_after start now (table ∷ other ∷ []) totals given made fits =
    let merged = writes_merged (table ∷ other ∷ []) start now totals made (fits table other refl) in (
      given.0.bytes,
      given.1.0.bytes,
      table_text merged.0.0 merged.0.1,
      given.0.taken,
      given.1.0.taken,
      record {
        table = table;
        other = other;
        merged = merged.0;
        told = given.0.has_table;
        other_told = given.1.0.has_table;
        merges = (merges_two table other (Ok merged.0)).0 merged.1;
        is_text = refl;
      },
      merged.2,
    )

-- The counts of two tables whose sum was written are together at most 2 ^ 62.
fits_two : (first second first_after second_after : Seen) (start now : Written) (tables : List TableSeen) (totals : Totals)
    → GiveTables most_table_bytes (first ∷ second ∷ []) (first_after ∷ second_after ∷ []) tables
    → CombinesTables combination.Merge tables start now totals → totals.total ≤ 2 ^ 62
    → (table other : TableSeen) → tables ≡ table ∷ other ∷ [] → FitsInto combination.Merge (total_of_all tables)
fits_two first second first_after second_after start now tables totals given made most table other two =
    subst (λ tables. FitsInto combination.Merge (total_of_all tables)) (sym two) fits where
      gave : GiveTables most_table_bytes (first ∷ second ∷ []) (first_after ∷ second_after ∷ []) (table ∷ other ∷ [])
      gave = subst (GiveTables most_table_bytes (first ∷ second ∷ []) (first_after ∷ second_after ∷ [])) two given

      combines : CombinesTables combination.Merge (table ∷ other ∷ []) start now totals
      combines = subst (λ tables. CombinesTables combination.Merge tables start now totals) two made

      words : ℕ
      words = 4 ^ combines.header.k

      ordered : (i : ℕ) (d : List Row) → i < 2 → AreOrderedRows words (get_or (table.0.rows ∷ other.0.rows ∷ []) i d)
      ordered zero d h = subst (λ k. AreOrderedRows (4 ^ k) table.0.rows)
          (sym (combines.headed.1 0 combines.header (omega arith)).k) gave.0.has_table.lawful.rows.ordered
      ordered (suc zero) d h = subst (λ k. AreOrderedRows (4 ^ k) other.0.rows)
          (sym (combines.headed.1 1 combines.header (omega arith)).k) gave.1.0.has_table.lawful.rows.ordered
      ordered (suc (suc i)) d h = let none : ⊥ = omega (arith, h) in absurd none

      fits : FitsInto combination.Merge (total_of_all (table ∷ other ∷ []))
      fits =
          let total = total_of_sum combines.header.k (table.0.rows ∷ other.0.rows ∷ []) combines.rows ordered combines.combined in
          let is = combines.total in
          let all = sum_by-cons (λ (table : TableSeen). total_of table.0.rows) table (other ∷ []) in
          let last = sum_by-cons (λ (table : TableSeen). total_of table.0.rows) other [] in
          let rows = sum_by-cons total_of table.0.rows (other.0.rows ∷ []) in
          let last_rows = sum_by-cons total_of other.0.rows [] in
          omega (arith, total, is, most, all, last, rows, last_rows)

-- The table text of a combination of two tables was written.
wrote_sum : (first second first_after second_after : Seen) (start now : Written) (tables : List TableSeen) (totals : Option Totals)
    → GiveTables most_table_bytes (first ∷ second ∷ []) (first_after ∷ second_after ∷ []) tables
    → DerivesTables (derive.Table combination.Merge) tables start now totals
    → (one other text : List ℕ) × TakesAll first first_after most_table_bytes one
    × TakesAll second second_after most_table_bytes other × AreMerged one other text × HasWritten start now text
wrote_sum first second first_after second_after start now tables None given made = absurd made
wrote_sum first second first_after second_after start now tables (Some totals) given made =
    wrote_two first second first_after second_after start now tables totals given made.0
    (fits_two first second first_after second_after start now tables totals given made.0 made.1)

pub merge_writes : MergeWritesMerged
merge_writes first second first_after second_after start now told is =
    wrote_sum first second first_after second_after start now is.0 is.2.0 is.1 is.2.1

pub merge_writes_files : MergeWritesMergedFiles
merge_writes_files one other first second one_after other_after first_after second_after start now told is =
    let files = one ∷ other ∷ first ∷ second ∷ [] in
    let files_after = one_after ∷ other_after ∷ first_after ∷ second_after ∷ [] in
    let sum = ap length is.are ∙ length-append is.first is.second in
    let sum_after = ap length is.are_after ∙ length-append is.first_after is.second_after in
    let two : length is.first ≡ 2 = omega (arith, sum, is.halves) in
    let two_after : length is.first_after ≡ 2 = omega (arith, sum_after, is.halves_after) in
    let split : is.second ≡ first ∷ second ∷ [] = sym (drop_at is.first is.second 2 two) ∙ ap (drop 2) (sym is.are) in
    let split_after : is.second_after ≡ first_after ∷ second_after ∷ [] =
    sym (drop_at is.first_after is.second_after 2 two_after) ∙ ap (drop 2) (sym is.are_after) in
    let (totals, (tables, gave, made), told_so) = is.done.1 in
    let given = subst (λ olds. GiveTables most_table_bytes olds (first_after ∷ second_after ∷ []) tables) split
    (subst (λ news. GiveTables most_table_bytes is.second news tables) split_after gave) in
    wrote_sum first second first_after second_after start now tables totals given made
