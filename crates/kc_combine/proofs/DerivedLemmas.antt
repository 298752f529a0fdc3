-- What is derived from tables.
use Rattle.std.proofs.Common.{◌≡◌, ℕ, zero, suc, ◌+◌, ◌^◌, ◌<◌, ◌≤◌, All, List, [], ◌∷◌, length, map, get_or, refl, ap, sym, ◌∙◌, subst, arith, None, Ok, Err}
use Rattle.std.specs.Prelude.{IfErr, IfOk, MatchResult, Option, Result, slice_set}
use Rattle.kc_io.specs.Sinks.{Written, Writes, HasBegun, HasWritten}
use Rattle.kc_io.specs.declared.failures.Failed.{Failed}
use Rattle.kc_io.specs.Sources.{Seen}
use Rattle.kc_tally.specs.Tally.{AreRows}
use Rattle.kc_report.specs.declared.header.Header.{Header}
use Rattle.kc_report.specs.DumpedText.{DumpsTable}
use Rattle.kc_report.specs.Dumping.{dump_text}
use Rattle.kc_report.specs.declared.dump.Dump.{Dump}
use Rattle.kc_combine.specs.CombinedHeaders.{HaveSameWords}
use Rattle.kc_combine.specs.CombinedTexts.{GiveTables, header_seen, rows_of_each}
use Rattle.kc_combine.specs.Compared.{ComparingSeen, HasCompared, capped_comparison, comparison_of, comparison_text, counts_of_words, spectrum_text}
use Rattle.kc_combine.specs.CopySpectra.{HasSpectrum, SpectrumSeen}
use Rattle.kc_combine.specs.Derivations.{DerivesNoTables, DerivesNoTexts, DerivesTexts, IsDerivedText}
use Rattle.kc_combine.specs.LoadedTables.{table_seen}
use Rattle.kc_combine.specs.MergedTables.{TableSeen}
use Rattle.kc_combine.specs.VisitedTexts.{AreVisited, VisitsNoTables, VisitsNoTexts, VisitsTexts}
use Rattle.kc_combine.specs.declared.derived.Derived.TheVariants as derive
use Rattle.kc_combine.specs.declared.loaded_tables.LoadedTable.{LoadedTable}
use Rattle.kc_combine.specs.declared.placed_fault.PlacedFault.{PlacedFault}
use Rattle.kc_combine.specs.declared.written_tables.CombineFault.{CombineFault}
use Rattle.kc_combine.specs.declared.written_tables.CombineFault.TheVariants.{Table, Unlike, TooLarge, Write, Memory}
use Rattle.kc_combine.specs.declared.written_tables.Totals.{Totals}
use Rattle.kc_combine.proofs.ComparedLemmas.{numbers_fit, words_fit}
use Rattle.kc_combine.proofs.ViewLemmas.{are_opened, fails_one}

-- ---- lawful tables

-- the rows of each table are such as a tally may have
abbrev pub AreLawful : List TableSeen → Type 0
AreLawful tables = All (λ table. AreRows table.0.k table.0.both table.0.rows) tables

given_lawful : (limit : ℕ) (olds news : List Seen) (tables : List TableSeen) → GiveTables limit olds news tables → AreLawful tables
given_lawful limit [] [] [] given i d h = absurd (omega (arith, h))
given_lawful limit [] [] (table ∷ tables) given i d h = absurd given
given_lawful limit [] (new ∷ news) tables given i d h = absurd given
given_lawful limit (old ∷ olds) [] tables given i d h = absurd given
given_lawful limit (old ∷ olds) (new ∷ news) [] given i d h = absurd given
given_lawful limit (old ∷ olds) (new ∷ news) (table ∷ tables) given zero d h = given.0.has_table.lawful.rows
given_lawful limit (old ∷ olds) (new ∷ news) (table ∷ tables) given (suc i) d h = given_lawful limit olds news tables given.1 i d (omega (arith, h))

given_long : (limit : ℕ) (olds news : List Seen) (tables : List TableSeen) → GiveTables limit olds news tables → length olds ≡ length tables
given_long limit [] [] [] given = refl
given_long limit [] [] (table ∷ tables) given = absurd given
given_long limit [] (new ∷ news) tables given = absurd given
given_long limit (old ∷ olds) [] tables given = absurd given
given_long limit (old ∷ olds) (new ∷ news) [] given = absurd given
given_long limit (old ∷ olds) (new ∷ news) (table ∷ tables) given = ap suc (given_long limit olds news tables given.1)

-- Their words have at most 31 bases.
given_short : (limit : ℕ) (olds news : List Seen) (tables : List TableSeen) (header : Header) → 1 ≤ length olds → GiveTables limit olds news tables
    → All (HaveSameWords header) (map header_seen tables) → header.k ≤ 31
given_short limit [] news tables header some given words = absurd (omega (arith, some))
given_short limit (old ∷ olds) [] tables header some given words = absurd given
given_short limit (old ∷ olds) (new ∷ news) [] header some given words = absurd given
given_short limit (old ∷ olds) (new ∷ news) (table ∷ tables) header some given words =
    let same = (words 0 header (omega arith)).k in
    let most = given.0.has_table.lawful.most in
    omega (arith, same, most)

-- The same of tables in memory.
pub loaded_lawful : (tables : List LoadedTable) (d e : LoadedTable) → length tables ≡ 2
    → AreRows (get_or tables 0 d).tally.k (get_or tables 0 d).tally.both (get_or tables 0 d).tally.rows
    → AreRows (get_or tables 1 e).tally.k (get_or tables 1 e).tally.both (get_or tables 1 e).tally.rows → AreLawful (map table_seen tables)
loaded_lawful [] d e two first second i t h = absurd (omega (arith, two))
loaded_lawful (table ∷ []) d e two first second i t h = absurd (omega (arith, two))
loaded_lawful (table ∷ other ∷ more ∷ tables) d e two first second i t h = absurd (omega (arith, two))
loaded_lawful (table ∷ other ∷ []) d e two first second zero t h = first
loaded_lawful (table ∷ other ∷ []) d e two first second (suc zero) t h = second
loaded_lawful (table ∷ other ∷ []) d e two first second (suc (suc i)) t h = absurd (omega (arith, h))

pub loaded_short : (tables : List LoadedTable) (d : LoadedTable) (k : ℕ) (header : Header) → 1 ≤ length tables → k ≡ (get_or tables 0 d).tally.k → k ≤ 31
    → All (HaveSameWords header) (map header_seen (map table_seen tables)) → header.k ≤ 31
loaded_short [] d k header some is most words = absurd (omega (arith, some))
loaded_short (table ∷ tables) d k header some is most words =
    let same = (words 0 header (omega arith)).k in
    omega (arith, same, is, most)

-- The rows of one of them are lawful for the words of all.
lawful_rows : (header : Header) (table : TableSeen) → HaveSameWords header (header_seen table) → AreRows table.0.k table.0.both table.0.rows
    → AreRows header.k header.both table.0.rows
lawful_rows header table same lawful =
    subst (λ k. AreRows k header.both table.0.rows) (sym same.k) (subst (λ both. AreRows table.0.k both table.0.rows) (sym same.both) lawful)

-- The numbers of two tables fit 64 bits.
exact_numbers : (solid : ℕ) (tables : List TableSeen) (header : Header) → length tables ≡ 2 → header.k ≤ 31 → AreLawful tables
    → All (HaveSameWords header) (map header_seen tables)
    → capped_comparison (comparison_of solid (counts_of_words header.k (rows_of_each tables))) ≡ comparison_of solid (counts_of_words header.k (rows_of_each tables))
exact_numbers solid [] header two short lawful words = absurd (omega (arith, two))
exact_numbers solid (table ∷ []) header two short lawful words = absurd (omega (arith, two))
exact_numbers solid (reads ∷ assembly ∷ table ∷ tables) header two short lawful words = absurd (omega (arith, two))
exact_numbers solid (reads ∷ assembly ∷ []) header two short lawful words =
    numbers_fit header.k solid header.both reads.0.rows assembly.0.rows short
    (lawful_rows header reads (words 0 header (omega arith)) (lawful 0 reads (omega arith)))
    (lawful_rows header assembly (words 1 header (omega arith)) (lawful 1 reads (omega arith)))

-- ---- the texts

-- The numbers of the words that were visited are those of the tables.
pub compares : (solid : ℕ) (c : ComparingSeen) (tables : List TableSeen) → c.solid ≡ solid → length tables ≡ 2 → AreLawful tables
    → (h : AreVisited tables (HasCompared c)) → h.header.k ≤ 31 → IsDerivedText (derive.Comparison solid) tables (comparison_text c.numbers)
compares solid c tables set two lawful h short = record {
  header = h.header;
  words = h.words;
  visited = ap comparison_text (h.visited ∙ ap (λ solid. capped_comparison (comparison_of solid (counts_of_words h.header.k (rows_of_each tables)))) set
      ∙ exact_numbers solid tables h.header two short lawful h.words);
}

-- The words that were visited fit a spectrum.
pub few_words : (tables : List TableSeen) (k : ℕ) → k ≤ 31 → length (counts_of_words k (rows_of_each tables)) < 2 ^ 64
few_words tables k short = let few = words_fit k (rows_of_each tables) short in omega (arith, few)

-- The text of a spectrum is that of the tables.
pub spectrum_of : (high : ℕ) (s : SpectrumSeen) (tables : List TableSeen) → s.high ≡ high → (h : AreVisited tables (HasSpectrum s))
    → IsDerivedText (derive.Spectrum high) tables (spectrum_text s.high (counts_of_words h.header.k (rows_of_each tables)))
spectrum_of high s tables set h = record {
  header = h.header;
  words = h.words;
  visited = ap (λ high. spectrum_text high (counts_of_words h.header.k (rows_of_each tables))) set;
}

-- So they are those of the tables that the sources gave.
pub compared_texts : (solid limit : ℕ) (olds news : List Seen) (c : ComparingSeen) → c.solid ≡ solid → length olds ≡ 2
    → (h : VisitsTexts limit olds news (HasCompared c)) → IsDerivedText (derive.Comparison solid) h.tables (comparison_text c.numbers)
compared_texts solid limit olds news c set two h =
    let long = given_long limit olds news h.tables h.given in
    compares solid c h.tables set (omega (arith, long, two)) (given_lawful limit olds news h.tables h.given) h.visits
    (given_short limit olds news h.tables h.visits.header (omega (arith, two)) h.given h.visits.words)

pub few_given : (limit : ℕ) (olds news : List Seen) (Visited : List (List ℕ) → Type 0) → length olds ≡ 2 → (h : VisitsTexts limit olds news Visited)
    → length (counts_of_words h.visits.header.k (rows_of_each h.tables)) < 2 ^ 64
few_given limit olds news Visited two h =
    few_words h.tables h.visits.header.k (given_short limit olds news h.tables h.visits.header (omega (arith, two)) h.given h.visits.words)

-- ---- what was written

-- The outcome is that of a text that was written.
pub written_ok : (result : Result (Option Totals) (CombineFault PlacedFault)) (outcome : Result (Unit {0}) Failed) (old new : Written) (text : List ℕ)
    (D : Option Totals → Type 0) → MatchResult outcome (λ done. result ≡ Ok None) (λ failed. result ≡ Err Write)
    → Writes old new outcome text → (HasWritten old new text → D None) → IfOk result D
written_ok result (Ok done) old new text D is writes f = subst (λ r. IfOk r D) (sym is) (f writes)
written_ok result (Err failed) old new text D is writes f = subst (λ r. IfOk r D) (sym is) tt

-- Or the writer failed.
pub written_err : (result : Result (Option Totals) (CombineFault PlacedFault)) (outcome : Result (Unit {0}) Failed) (old new : Written) (text : List ℕ)
    (D : CombineFault PlacedFault → Type 0) → MatchResult outcome (λ done. result ≡ Ok None) (λ failed. result ≡ Err Write)
    → Writes old new outcome text → (HasBegun old new text → D Write) → IfErr result D
written_err result (Ok done) old new text D is writes f = subst (λ r. IfErr r D) (sym is) tt
written_err result (Err failed) old new text D is writes f = subst (λ r. IfErr r D) (sym is) (f writes)

-- ---- why there is none

module _ {S V : Type 0} (seen : S → Seen) (limit : ℕ) (olds news : List S) (start now : V) (w : Written) where
  pub no_comparison : (solid : ℕ) (fault : CombineFault PlacedFault) → VisitsNoTexts seen limit olds news start now fault
      → DerivesNoTexts (derive.Comparison solid) limit (map seen olds) (map seen news) w w fault
  no_comparison solid (Table fault) h = (refl, fails_one seen limit olds news fault h)
  no_comparison solid Unlike h = (refl, (h.openings, are_opened seen limit olds news h.openings h.opened, h.others))
  no_comparison solid TooLarge h = absurd h
  no_comparison solid Write h = absurd h
  no_comparison solid Memory h = refl

  pub no_spectrum : (high : ℕ) (fault : CombineFault PlacedFault) → VisitsNoTexts seen limit olds news start now fault
      → DerivesNoTexts (derive.Spectrum high) limit (map seen olds) (map seen news) w w fault
  no_spectrum high (Table fault) h = (refl, fails_one seen limit olds news fault h)
  no_spectrum high Unlike h = (refl, (h.openings, are_opened seen limit olds news h.openings h.opened, h.others))
  no_spectrum high TooLarge h = absurd h
  no_spectrum high Write h = absurd h
  no_spectrum high Memory h = refl

module _ {V : Type 0} (tables : List TableSeen) (start now : V) (w : Written) where
  pub no_comparison_of : (solid : ℕ) (fault : CombineFault PlacedFault) → VisitsNoTables tables start now fault
      → DerivesNoTables (derive.Comparison solid) tables w w fault
  no_comparison_of solid (Table fault) h = absurd h
  no_comparison_of solid Unlike h = (refl, h.1)
  no_comparison_of solid TooLarge h = absurd h
  no_comparison_of solid Write h = absurd h
  no_comparison_of solid Memory h = refl

  pub no_spectrum_of : (high : ℕ) (fault : CombineFault PlacedFault) → VisitsNoTables tables start now fault
      → DerivesNoTables (derive.Spectrum high) tables w w fault
  no_spectrum_of high (Table fault) h = absurd h
  no_spectrum_of high Unlike h = (refl, h.1)
  no_spectrum_of high TooLarge h = absurd h
  no_spectrum_of high Write h = absurd h
  no_spectrum_of high Memory h = refl

-- ---- dumps

-- The only source gave a table, and its dump was written.
pub dumps_one : {S : Type 0} (seen : S → Seen) (limit : ℕ) (dump : Dump) (sources : List S) (old new : S) (start now : Written) → length sources ≡ 1
    → DumpsTable (seen (get_or sources 0 old)) (seen new) limit dump start now
    → DerivesTexts (derive.Dump dump) limit (map seen sources) (map seen (slice_set sources 0 new)) start now None
dumps_one seen limit dump [] old new start now one h = absurd (omega (arith, one))
dumps_one seen limit dump (source ∷ other ∷ sources) old new start now one h = absurd (omega (arith, one))
dumps_one seen limit dump (source ∷ []) old new start now one h =
    (h.table ∷ [], (h.given, tt), (refl, (dump_text h.table.0.k dump h.table.0.rows, refl, h.written)))
