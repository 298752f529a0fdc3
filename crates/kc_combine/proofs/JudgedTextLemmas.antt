-- Table texts that are read to their ends before they are combined.
use Rattle.std.proofs.Common.{◌≡◌, ℕ, zero, suc, ◌+◌, ◌-◌, ◌^◌, ◌<◌, ◌≤◌, min, List, [], ◌∷◌, ◌++◌, length, get_or, map, sum_by, All, inl, inr, refl, ap, sym, ◌∙◌, subst, arith}
use Rattle.std.specs.Prelude.{Result, Ok, Err, IfErr, IfOk, slice_set}
use Rattle.std.proofs.lemmas.List.{map-append}
use Rattle.std.proofs.lemmas.List.Sums.{sum_by-append, sum_by-cons}
use Rattle.kc_io.specs.Sources.{Seen}
use Rattle.kc_tally.specs.Tally.{total_of}
use Rattle.kc_report.specs.declared.header.Header.{Header}
use Rattle.kc_report.specs.declared.report_faults.ReportFault.{ReportFault}
use Rattle.kc_report.specs.declared.report_faults.ReportFault.TheVariants as report
use Rattle.kc_report.specs.Table.{MaySay}
use Rattle.kc_report.specs.TableReading.{GivesTable}
use Rattle.kc_combine.specs.CombinedHeaders.{CombinesHeaders}
use Rattle.kc_combine.specs.CombinedTexts.{GiveTables, HasHeaderOf, header_fault, header_seen}
use Rattle.kc_combine.specs.JudgedTexts.{CanCombine, CanNotCombine, FitsInto, GiveTablesTo, IsHeaderButTooLarge, JudgesNot, total_of_all}
use Rattle.kc_combine.specs.MergedTables.{TableSeen}
use Rattle.kc_combine.specs.declared.combining.Combining.{Combining}
use Rattle.kc_combine.specs.declared.combining.Combining.TheVariants.{Merge, Intersect, Subtract, SubtractCounts, Filter}
use Rattle.kc_combine.specs.declared.placed_fault.PlacedFault.{PlacedFault}
use Rattle.kc_combine.specs.declared.written_tables.CombineFault.{CombineFault}
use Rattle.kc_combine.specs.declared.written_tables.CombineFault.TheVariants.{TooLarge}
use Rattle.kc_combine.proofs.CombinedTextLemmas.{cons-head, cons-nil, cons-tail, nil-cons, no_header_of}

module _ {S : Type 0} (seen : S → Seen) (limit : ℕ) where
  -- one more source gave a table
  pub give_more : (i : ℕ) (olds news : List S) (tables : List TableSeen) (new d : S) (table : TableSeen)
      → GiveTablesTo seen i limit olds news tables → i < length olds → GivesTable (seen (get_or news i d)) (seen new) limit table
      → GiveTablesTo seen (suc i) limit olds (slice_set news i new) (tables ++ table ∷ [])
  give_more i [] news tables new d table to h is = absurd (omega (arith, h))
  give_more zero (old ∷ olds) [] tables new d table to h is = absurd (nil-cons to.0)
  give_more zero (old ∷ olds) (first ∷ news) (some ∷ tables) new d table to h is = absurd (cons-nil to.1)
  give_more zero (old ∷ olds) (first ∷ news) [] new d table to h is =
      (subst (λ (s : S). GivesTable (seen s) (seen new) limit table) (cons-head to.0) is, (cons-tail to.0, refl))
  give_more (suc i) (old ∷ olds) [] tables new d table to h is = absurd to
  give_more (suc i) (old ∷ olds) (first ∷ news) [] new d table to h is = absurd to
  give_more (suc i) (old ∷ olds) (first ∷ news) (some ∷ tables) new d table to h is =
      (to.0, give_more i olds news tables new d table to.1 (omega (arith, h)) is)

  -- all did
  pub give_all : (i : ℕ) (olds news : List S) (tables : List TableSeen) → GiveTablesTo seen i limit olds news tables
      → length olds ≤ i → length news ≡ length olds → GiveTables limit (map seen olds) (map seen news) tables
  give_all zero [] [] [] to h long = tt
  give_all zero [] [] (table ∷ tables) to h long = absurd (cons-nil to.1)
  give_all zero [] (new ∷ news) tables to h long = absurd (omega (arith, long))
  give_all zero (old ∷ olds) news tables to h long = absurd (omega (arith, h))
  give_all (suc i) [] news tables to h long = absurd to
  give_all (suc i) (old ∷ olds) [] tables to h long = absurd to
  give_all (suc i) (old ∷ olds) (new ∷ news) [] to h long = absurd to
  give_all (suc i) (old ∷ olds) (new ∷ news) (table ∷ tables) to h long =
      (to.0, give_all i olds news tables to.1 (omega (arith, h)) (omega (arith, long)))

  -- a header can have what was read
  pub said_tables : (i : ℕ) (olds news : List S) (tables : List TableSeen) → GiveTablesTo seen i limit olds news tables
      → All (λ header. MaySay header.origin) (map header_seen tables)
  said_tables zero olds news [] to j d h = absurd (omega (arith, h))
  said_tables zero olds news (table ∷ tables) to j d h = absurd (cons-nil to.1)
  said_tables (suc i) [] news tables to j d h = absurd to
  said_tables (suc i) (old ∷ olds) [] tables to j d h = absurd to
  said_tables (suc i) (old ∷ olds) (new ∷ news) [] to j d h = absurd to
  said_tables (suc i) (old ∷ olds) (new ∷ news) (table ∷ tables) to zero d h = to.0.has_table.lawful.said
  said_tables (suc i) (old ∷ olds) (new ∷ news) (table ∷ tables) to (suc j) d h =
      said_tables i olds news tables to.1 j d (omega (arith, h))

  -- they have no header together
  pub no_header : (combining : Combining) (olds news : List S) (tables : List TableSeen) (why : ReportFault)
      → GiveTables limit (map seen olds) (map seen news) tables → CombinesHeaders combining (map header_seen tables) (Err why)
      → JudgesNot seen combining limit olds news (header_fault why)
  no_header combining olds news tables report.Unlike given h = record { tables = tables; given = given; none = inl h }
  no_header combining olds news tables report.TooLarge given h = record { tables = tables; given = given; none = inl h }
  no_header combining olds news tables report.Write given h = absurd h
  no_header combining olds news tables report.BadHeader given h = absurd h
  no_header combining olds news tables (report.BadRow line) given h = absurd h
  no_header combining olds news tables report.BadEnd given h = absurd h
  no_header combining olds news tables report.TableTooLong given h = absurd h
  no_header combining olds news tables report.TableRead given h = absurd h
  no_header combining olds news tables report.BrokenGzip given h = absurd h
  no_header combining olds news tables report.ShortGzip given h = absurd h
  no_header combining olds news tables (report.BadWord word) given h = absurd h
  no_header combining olds news tables report.Memory given h = absurd h

-- ---- the sum of the counts

pub total_more : (tables : List TableSeen) (table : TableSeen) (total more sum : ℕ)
    → total ≡ min (total_of_all tables) (2 ^ 64 - 1) → more ≡ total_of table.0.rows → sum ≡ min (total + more) (2 ^ 64 - 1)
    → sum ≡ min (total_of_all (tables ++ table ∷ [])) (2 ^ 64 - 1)
total_more tables table total more sum so_far one added =
    let all = sum_by-append (λ (table : TableSeen). total_of table.0.rows) tables (table ∷ []) in
    let last = sum_by-cons (λ (table : TableSeen). total_of table.0.rows) table [] in
    omega (arith, so_far, one, added, all, last)

fits_all : (combining : Combining) (tables : List TableSeen) (total : ℕ) → total ≡ min (total_of_all tables) (2 ^ 64 - 1)
    → FitsInto combining total → FitsInto combining (total_of_all tables)
fits_all Merge tables total is fits = omega (arith, is, fits)
fits_all (Intersect rule) tables total is fits = tt
fits_all Subtract tables total is fits = tt
fits_all SubtractCounts tables total is fits = tt
fits_all (Filter rule) tables total is fits = tt

all_fit : (combining : Combining) (tables : List TableSeen) (total : ℕ) → total ≡ min (total_of_all tables) (2 ^ 64 - 1)
    → FitsInto combining (total_of_all tables) → FitsInto combining total
all_fit Merge tables total is fits = omega (arith, is, fits)
all_fit (Intersect rule) tables total is fits = tt
all_fit Subtract tables total is fits = tt
all_fit SubtractCounts tables total is fits = tt
all_fit (Filter rule) tables total is fits = tt

-- they have a header, but their counts are too large
pub header_but_too_large : (combining : Combining) (tables : List TableSeen) (header : Header) (total : ℕ)
    → HasHeaderOf combining (map header_seen tables) header → total ≡ min (total_of_all tables) (2 ^ 64 - 1)
    → (¬ FitsInto combining total) → IsHeaderButTooLarge combining tables
header_but_too_large combining tables header total headed is not =
    ((header, headed), λ fits. not (all_fit combining tables total is fits))

module _ {S : Type 0} (seen : S → Seen) (limit : ℕ) where
  pub can_combine : (combining : Combining) (olds news : List S) (tables : List TableSeen) (header : Header) (total : ℕ)
      → GiveTables limit (map seen olds) (map seen news) tables → HasHeaderOf combining (map header_seen tables) header
      → total ≡ min (total_of_all tables) (2 ^ 64 - 1) → (result : Result Header (CombineFault PlacedFault))
      → IfOk result (λ same. same ≡ header) → IfOk result (λ same. FitsInto combining total)
      → IfOk result (CanCombine seen combining limit olds news)
  can_combine combining olds news tables header total given headed is (Ok same) one fits = record {
    tables = tables;
    given = given;
    headed = subst (λ (header : Header). HasHeaderOf combining (map header_seen tables) header) (sym one) headed;
    fits = fits_all combining tables total is fits;
  }
  can_combine combining olds news tables header total given headed is (Err fault) one fits = tt

  pub can_not : (combining : Combining) (olds news : List S) (tables : List TableSeen) (header : Header) (total : ℕ)
      → GiveTables limit (map seen olds) (map seen news) tables → HasHeaderOf combining (map header_seen tables) header
      → total ≡ min (total_of_all tables) (2 ^ 64 - 1)
      → (result : Result Header (CombineFault PlacedFault))
      → IfErr result (λ fault. (fault ≡ TooLarge) × (¬ FitsInto combining total))
      → IfErr result (JudgesNot seen combining limit olds news)
  can_not combining olds news tables header total given headed is (Ok same) h = tt
  can_not combining olds news tables header total given headed is (Err fault) h =
      subst (JudgesNot seen combining limit olds news) (sym h.0) (record {
        tables = tables;
        given = given;
        none = inr (refl, header_but_too_large combining tables header total headed is h.1);
      })
