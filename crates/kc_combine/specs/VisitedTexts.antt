-- Tables whose words are visited, one after another, with their counts.
-- Source: our formats page (`compare`).
use Rattle.std.specs.Prelude.{◌≡◌, ℕ, All, List, map}
use Rattle.kc_io.specs.Sources.{Seen}
use Rattle.kc_report.specs.declared.header.Header.{Header}
use Rattle.kc_combine.specs.CombinedHeaders.{HaveSameWords}
use Rattle.kc_combine.specs.CombinedTexts.{AreOpened, FailsOne, GiveTables, header_of, header_seen, rows_of_each}
use Rattle.kc_combine.specs.Compared.{counts_of_words}
use Rattle.kc_combine.specs.MergedTables.{TableSeen}
use Rattle.kc_combine.specs.declared.opening.Opening.{Opening}
use Rattle.kc_combine.specs.declared.placed_fault.PlacedFault.{PlacedFault}
use Rattle.kc_combine.specs.declared.written_tables.CombineFault.{CombineFault}
use Rattle.kc_combine.specs.declared.written_tables.CombineFault.TheVariants.{Table, Unlike, Memory}

-- any two tables with these headers have k-mers of one length and count the same strands
abbrev pub AllHaveSameWords : List Header → Type 0
AllHaveSameWords headers = All (λ header. All (HaveSameWords header) headers) headers

-- The tables have k-mers of one length and count the same strands, and all their words were visited. `Visited` holds
-- for the counts of the words that were visited, in order.
pub record AreVisited (tables : List TableSeen) (Visited : List (List ℕ) → Type 0) : Type 0 where
  pub header : Header
  pub words : All (HaveSameWords header) (map header_seen tables)
  pub visited : Visited (counts_of_words header.k (rows_of_each tables))

-- the sources gave tables, and all words of these were visited
pub record VisitsTexts (limit : ℕ) (olds news : List Seen) (Visited : List (List ℕ) → Type 0) : Type 0 where
  pub tables : List TableSeen
  pub given : GiveTables limit olds news tables
  pub visits : AreVisited tables Visited

-- the tables that were opened don't have the same words, and no word was visited
pub record HaveOtherWords {S V : Type 0} (seen : S → Seen) (limit : ℕ) (olds news : List S)
    (start now : V) : Type 0 where
  pub openings : List Opening
  pub opened : AreOpened seen limit olds news openings
  pub others : ¬ AllHaveSameWords (map header_of openings)
  pub unvisited : now ≡ start

-- Why the words of table texts were not all visited: a source gave no table; or the tables that were opened don't have
-- the same words; or memory was refused, and no word was visited. `start` and `now` are the visitor before and after.
abbrev pub VisitsNoTexts : {S V : Type 0} → (S → Seen) → ℕ → List S → List S → V → V → CombineFault PlacedFault
    → Type 0
VisitsNoTexts seen limit olds news start now (Table fault) = FailsOne seen limit olds news (Table fault)
VisitsNoTexts seen limit olds news start now Unlike = HaveOtherWords seen limit olds news start now
VisitsNoTexts seen limit olds news start now Memory = now ≡ start
VisitsNoTexts seen limit olds news start now fault = ⊥

-- Why the words of tables in memory were not visited: the tables don't have the same words; or memory was refused. No
-- word was visited then.
abbrev pub VisitsNoTables : {V : Type 0} → List TableSeen → V → V → CombineFault PlacedFault → Type 0
VisitsNoTables tables start now Unlike = (now ≡ start) × (¬ AllHaveSameWords (map header_seen tables))
VisitsNoTables tables start now Memory = now ≡ start
VisitsNoTables tables start now fault = ⊥
