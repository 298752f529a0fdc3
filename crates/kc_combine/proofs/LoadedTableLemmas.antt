-- Tables in memory that are combined.
use Rattle.std.proofs.Common.{◌≡◌, ℕ, zero, suc, ◌+◌, ◌^◌, ◌<◌, ◌≤◌, List, [], ◌∷◌, ◌++◌, length, get_or, map, sum_by, All, inl, inr, ◌⊎◌, ⊎_elim, refl, ap, ap₂, sym, ◌∙◌, subst, arith, append-nil, append_assoc, zero-le}
use Rattle.std.specs.Prelude.{Option, Some, None, IfSome, Ok}
use Rattle.std.proofs.lemmas.Bool.{cases_eq, cases_lt, cases_order}
use Rattle.std.proofs.lemmas.List.{get_or-map, length-map}
use Rattle.std.proofs.lemmas.List.Elements.{All-nil}
use Rattle.std.proofs.lemmas.List.Sums.{sum_by-append, sum_by-cons}
use Rattle.kc_io.specs.Sinks.{Written, HasBegun}
use Rattle.kc_tally.specs.declared.row.Row.{Row}
use Rattle.kc_tally.specs.Tally.{AreOrderedRows, TallySeen, count_of, total_of}
use Rattle.kc_tally.proofs.Tallies.{RiseWithin, RiseWithin-rest, count_of-here, count_of-low, count_of-past, ordered-RiseWithin}
use Rattle.kc_report.specs.declared.header.Header.{Header}
use Rattle.kc_report.specs.declared.origin.Origin.{Origin}
use Rattle.kc_report.specs.Merging.{AreAlike}
use Rattle.kc_report.specs.RowsWritten.{front_of, text_of}
use Rattle.kc_report.specs.Table.{MaySay}
use Rattle.kc_report.proofs.WritingLemmas.{fails_in_front}
use Rattle.kc_combine.specs.Aheads.{AreWhole, BeginAt, BeginsAt, FailsAt, HasTaken, HaveLength, HaveTaken, heads_of, whences_of}
use Rattle.kc_combine.specs.Combined.{AreCombinedBelow, IsCombined, IsTooLarge, counts_in, sum_of}
use Rattle.kc_combine.specs.CombinedHeaders.{HaveSameWords, Match}
use Rattle.kc_combine.specs.CombinedTexts.{CombinesTables, CountsTooMuch, HasHeaderOf, header_seen, rows_of_each}
use Rattle.kc_combine.specs.Combinings.{nothing_of, rule_of}
use Rattle.kc_combine.specs.JudgedTexts.{FitsInto, total_of_all}
use Rattle.kc_combine.specs.KeptTables.{HasGiven, HasGivenAll, KeptStand, whence_of_table}
use Rattle.kc_combine.specs.LoadedTables.{AreBegun, AreFronts, CombinesNoTables, FailsToTakeText, IsNoMerge, WritesMerged, WritesMergedPart, table_seen}
use Rattle.kc_combine.specs.MergedTables.{AreAllAlike, IsSumOfAll, MergesAll, TableSeen, joined_origins}
use Rattle.kc_combine.specs.Whences.{Whence}
use Rattle.kc_combine.specs.Walks.{GoesOn, IsWalking}
use Rattle.kc_combine.specs.WrittenTables.{FailsToWrite, HasWrittenTable, IsResultOf, StandAtStart}
use Rattle.kc_combine.specs.declared.ahead.Ahead.{Ahead}
use Rattle.kc_combine.specs.declared.combining.Combining.{Combining}
use Rattle.kc_combine.specs.declared.combining.Combining.TheVariants.{Merge, Intersect, Subtract, SubtractCounts, Filter}
use Rattle.kc_combine.specs.declared.gives_rows.GivesRows.{Ghosts}
use Rattle.kc_combine.specs.declared.loaded_tables.LoadedTable.{LoadedTable}
use Rattle.kc_combine.specs.declared.placed_fault.PlacedFault.{PlacedFault}
use Rattle.kc_combine.specs.declared.written_tables.CombineFault.{CombineFault}
use Rattle.kc_combine.specs.declared.written_tables.CombineFault.TheVariants.{Table, Unlike, TooLarge, Write, Memory}
use Rattle.kc_combine.specs.declared.written_tables.Totals.{Totals}
use Rattle.kc_combine.proofs.CombinedTextLemmas.{cons-head, cons-nil, cons-tail, nil-cons, too_much}
use Rattle.kc_combine.proofs.CombinedLemmas.{absent_above, all-of, tables_absent}
use Rattle.kc_combine.proofs.ResultLemmas.{has_result, total_below}

-- ---- lists of results

map_map : {A B C : Type 0} (f : B → C) (g : A → B) (xs : List A) → map f (map g xs) ≡ map (λ x. f (g x)) xs
map_map f g [] = refl
map_map f g (x ∷ xs) = ap (λ ys. f (g x) ∷ ys) (map_map f g xs)

all_of_map : {A B : Type 0} (f : A → B) (P : B → Type 0) (xs : List A) → All P (map f xs) → All (λ x. P (f x)) xs
all_of_map f P xs all i d h =
    let long = length-map xs f in
    subst P (get_or-map f xs i d (f d) h) (all i (f d) (omega (arith, h, long)))

map_of_all : {A B : Type 0} (f : A → B) (P : B → Type 0) (xs : List A) → All (λ x. P (f x)) xs → All P (map f xs)
map_of_all f P [] all i d h = absurd (omega (arith, h))
map_of_all f P (x ∷ xs) all zero d h = all 0 x (omega arith)
map_of_all f P (x ∷ xs) all (suc i) d h =
    map_of_all f P xs (λ i d h. all (suc i) d (omega (arith, h))) i d (omega (arith, h))

-- ---- the header

-- a header can have their origins
pub said_loaded : (tables : List LoadedTable) → All (λ table. MaySay table.origin) tables
    → All (λ header. MaySay header.origin) (map header_seen (map table_seen tables))
said_loaded tables said = map_of_all header_seen (λ (header : Header). MaySay header.origin) (map table_seen tables)
    (map_of_all table_seen (λ (table : TableSeen). MaySay table.1) tables said)

-- ---- tables before their first rows

pub begun_more : {F : Type 0} {G : Ghosts KeptStand F} (tables : List TableSeen) (aheads : List (Ahead KeptStand F G)) (table : TableSeen)
    (ahead : Ahead KeptStand F G) → AreBegun tables aheads → whence_of_table ahead.reading.table ≡ whence_of_table table.0
    → HasTaken HasGiven HasGivenAll ahead.reading ahead.head [] → AreBegun (tables ++ table ∷ []) (aheads ++ ahead ∷ [])
begun_more [] [] table ahead begun from taken = (from, taken, tt)
begun_more [] (first ∷ aheads) table ahead begun from taken = absurd begun
begun_more (one ∷ tables) [] table ahead begun from taken = absurd begun
begun_more (one ∷ tables) (first ∷ aheads) table ahead begun from taken =
    (begun.0, begun.1, begun_more tables aheads table ahead begun.2 from taken)

pub begun_start : {F : Type 0} {G : Ghosts KeptStand F} (tables : List TableSeen) (aheads : List (Ahead KeptStand F G))
    → AreBegun tables aheads → StandAtStart HasGiven HasGivenAll aheads
begun_start [] [] begun = tt
begun_start [] (ahead ∷ aheads) begun = absurd begun
begun_start (table ∷ tables) [] begun = absurd begun
begun_start (table ∷ tables) (ahead ∷ aheads) begun = (begun.1, begun_start tables aheads begun.2)

abbrev pub whence_of_kept : KeptStand → Whence
whence_of_kept stand = whence_of_table stand.table

module _ {F : Type 0} {G : Ghosts KeptStand F} (combining : Combining) (header : Header) where
  pub begun_lengths : (tables : List TableSeen) (aheads : List (Ahead KeptStand F G)) → AreBegun tables aheads
      → HasHeaderOf combining (map header_seen tables) header → HaveLength whence_of_kept header.k aheads
  begun_lengths tables aheads begun headed = each tables aheads begun headed.1 where
    each : (tables : List TableSeen) (aheads : List (Ahead KeptStand F G)) → AreBegun tables aheads
        → All (HaveSameWords header) (map header_seen tables) → HaveLength whence_of_kept header.k aheads
    each [] [] begun words i d h = absurd (omega (arith, h))
    each [] (ahead ∷ aheads) begun words i d h = absurd begun
    each (table ∷ tables) [] begun words i d h = absurd begun
    each (table ∷ tables) (ahead ∷ aheads) begun words zero d h =
        ap (λ (from : Whence). from.k) begun.0 ∙ sym (words 0 header (omega arith)).k
    each (table ∷ tables) (ahead ∷ aheads) begun words (suc i) d h =
        each tables aheads begun.2 (λ i d h. words (suc i) d (omega (arith, h))) i d (omega (arith, h))

-- ---- their rows

-- rows below a bound whose words have the counts that they have in other rows are the first ones of these
begins : (low bound top : ℕ) (rows others : List Row) → RiseWithin low bound rows → RiseWithin low top others
    → ((n : ℕ) → n < bound → count_of rows n ≡ count_of others n) → (rest : List Row) × (rows ++ rest ≡ others)
begins low bound top [] others is also same = (others, refl)
begins low bound top (row ∷ rows) [] is also same =
    let here = count_of-here row rows row.word refl in
    let equal = same row.word (is.below 0 row (omega arith)) in
    let present = is.present 0 row (omega arith) in
    absurd (omega (arith, here, equal, present))
begins low bound top (row ∷ rows) (other ∷ others) is also same =
    ⊎_elim
    (λ e. alike e (begins (suc row.word) bound top rows others (RiseWithin-rest low bound row rows is)
    (subst (λ m. RiseWithin (suc m) top others) (sym e) (RiseWithin-rest low top other others also))))
    (λ o. ⊎_elim (λ less. absurd (lacked less)) (λ more. absurd (added more)) o)
    (cases_order row.word other.word) where
      later : RiseWithin (suc row.word) bound rows
      later = RiseWithin-rest low bound row rows is

      after : RiseWithin (suc other.word) top others
      after = RiseWithin-rest low top other others also

      below : row.word < bound
      below = is.below 0 row (omega arith)

      -- the others lack the first word
      lacked : row.word < other.word → ⊥
      lacked less =
          let here = count_of-here row rows row.word refl in
          let equal = same row.word below in
          let past = count_of-past other others row.word (λ e. omega (arith, e, less)) in
          let none = count_of-low (suc other.word) others row.word after.rises (omega (arith, less)) in
          let present = is.present 0 row (omega arith) in
          omega (arith, here, equal, past, none, present)

      -- they have one before it
      added : other.word < row.word → ⊥
      added less =
          let here = count_of-here other others other.word refl in
          let equal = same other.word (omega (arith, less, below)) in
          let past = count_of-past row rows other.word (λ e. omega (arith, e, less)) in
          let none = count_of-low (suc row.word) rows other.word later.rises (omega (arith, less)) in
          let present = also.present 0 other (omega arith) in
          omega (arith, here, equal, past, none, present)

      alike : row.word ≡ other.word
          → (((n : ℕ) → n < bound → count_of rows n ≡ count_of others n) → (rest : List Row) × (rows ++ rest ≡ others))
          → (rest : List Row) × (row ∷ rows ++ rest ≡ other ∷ others)
      alike e rest =
          let count : row.count ≡ other.count = sym (count_of-here row rows row.word refl) ∙ same row.word below
          ∙ count_of-here other others row.word (sym e) in
          let tail = rest (λ n h. ⊎_elim
          (λ low_. count_of-low (suc row.word) rows n later.rises low_
          ∙ sym (count_of-low (suc other.word) others n after.rises (omega (arith, e, low_))))
          (λ high. sym (count_of-past row rows n (λ f. omega (arith, f, high))) ∙ same n h
          ∙ count_of-past other others n (λ f. omega (arith, e, f, high)))
          (cases_lt n (suc row.word))) in
          (tail.0, λ i. record { word = e i; count = count i } ∷ tail.1 i)

one_front : (stand : KeptStand) (head : Option Row) (rows : List Row) → HasTaken HasGiven HasGivenAll stand head rows
    → (rest : List Row) × (rows ++ rest ≡ stand.table.rows)
one_front stand None rows taken = ([], append-nil rows ∙ taken.all)
one_front stand (Some next) rows taken =
    (next ∷ stand.rest, sym (append_assoc rows (next ∷ []) stand.rest) ∙ taken.all)

-- words below the next row's have the counts of all rows
front_counts : (low top bound n : ℕ) (rows : List Row) (next : Row) (rest : List Row)
    → RiseWithin low top (rows ++ next ∷ rest) → bound ≤ next.word → n < bound
    → count_of rows n ≡ count_of (rows ++ next ∷ rest) n
front_counts low top bound n [] next rest rise least less =
    let later = RiseWithin-rest low top next rest rise in
    sym (count_of-past next rest n (λ e. omega (arith, e, least, less))
    ∙ count_of-low (suc next.word) rest n later.rises (omega (arith, least, less)))
front_counts low top bound n (row ∷ rows) next rest rise least less = ⊎_elim
    (λ (e : row.word ≡ n). count_of-here row rows n e ∙ sym (count_of-here row (rows ++ next ∷ rest) n e))
    (λ (ne : row.word ≡ n → ⊥). count_of-past row rows n ne
    ∙ front_counts (suc row.word) top bound n rows next rest (RiseWithin-rest low top row (rows ++ next ∷ rest) rise) least less
    ∙ sym (count_of-past row (rows ++ next ∷ rest) n ne))
    (cases_eq row.word n)

one_front_counts : (stand : KeptStand) (head : Option Row) (rows : List Row) (bound n : ℕ)
    → HasTaken HasGiven HasGivenAll stand head rows → BeginsAt bound head → n < bound
    → count_of rows n ≡ count_of stand.table.rows n
one_front_counts stand None rows bound n taken begin less = ap (λ rows. count_of rows n) taken.all
one_front_counts stand (Some next) rows bound n taken begin less =
    let all = sym (append_assoc rows (next ∷ []) stand.rest) ∙ taken.all in
    let top = 4 ^ stand.table.k in
    let rise = subst (RiseWithin 0 top) (sym all) (ordered-RiseWithin top stand.table.rows taken.lawful.ordered) in
    front_counts 0 top bound n rows next stand.rest rise begin less ∙ ap (λ rows. count_of rows n) all

-- the rows of a table are in order
table_in_order : (stand : KeptStand) (head : Option Row) (rows : List Row) → HasTaken HasGiven HasGivenAll stand head rows
    → AreOrderedRows (4 ^ stand.table.k) stand.table.rows
table_in_order stand None rows taken = subst (AreOrderedRows (4 ^ stand.table.k)) taken.all taken.ordered
table_in_order stand (Some next) rows taken = taken.lawful.ordered

abbrev AreInOrder : List TableSeen → Type 0
AreInOrder [] = Unit {0}
AreInOrder (table ∷ tables) = AreOrderedRows (4 ^ table.0.k) table.0.rows × AreInOrder tables

-- they have words of the length in the header
in_order : (header : Header) (tables : List TableSeen) → AreInOrder tables → All (HaveSameWords header) (map header_seen tables)
    → All (λ rows. AreOrderedRows (4 ^ header.k) rows) (rows_of_each tables)
in_order header [] are words = All-nil _
in_order header (table ∷ tables) are words = all-of table.0.rows (rows_of_each tables)
    (subst (λ k. AreOrderedRows (4 ^ k) table.0.rows) (sym (words 0 header (omega arith)).k) are.0)
    (in_order header tables are.1 (λ i d h. words (suc i) d (omega (arith, h))))

-- words below all next rows' have the counts of the whole tables
abbrev CountAsWhole : {F : Type 0} {G : Ghosts KeptStand F} → List TableSeen → List (Ahead KeptStand F G) → List (List Row) → Type 0
CountAsWhole tables afters taken = (bound n : ℕ) → BeginAt bound (heads_of afters) → n < bound
    → counts_in taken n ≡ counts_in (rows_of_each tables) n

module _ {F : Type 0} {G : Ghosts KeptStand F} where
  -- the rows that were taken are the first ones of the tables, and all below the next, and the tables are in order
  fronts : (tables : List TableSeen) (aheads afters : List (Ahead KeptStand F G)) → AreBegun tables aheads
      → whences_of whence_of_kept afters ≡ whences_of whence_of_kept aheads → (taken : List (List Row))
      → HaveTaken HasGiven HasGivenAll afters taken → AreFronts tables taken × CountAsWhole tables afters taken
      × AreInOrder tables
  fronts [] [] [] begun same [] taken = (tt, (λ bound n begin less. refl), tt)
  fronts [] [] [] begun same (rows ∷ others) taken = absurd taken
  fronts [] [] (after ∷ afters) begun same others taken = absurd (cons-nil same)
  fronts [] (ahead ∷ aheads) afters begun same others taken = absurd begun
  fronts (table ∷ tables) [] afters begun same others taken = absurd begun
  fronts (table ∷ tables) (ahead ∷ aheads) [] begun same others taken = absurd (nil-cons same)
  fronts (table ∷ tables) (ahead ∷ aheads) (after ∷ afters) begun same [] taken = absurd taken
  fronts (table ∷ tables) (ahead ∷ aheads) (after ∷ afters) begun same (rows ∷ others) taken =
      let front = one_front after.reading after.head rows taken.0 in
      let whence = cons-head same ∙ begun.0 in
      let from = ap (λ (from : Whence). from.rows) whence in
      let ordered = table_in_order after.reading after.head rows taken.0 in
      let rest = fronts tables aheads afters begun.2 (cons-tail same) others taken.1 in (
        ((front.0, front.1 ∙ from), rest.0),
        (λ bound n begin less. ap₂ (λ c cs. c ∷ cs)
            (one_front_counts after.reading after.head rows bound n taken.0 begin.0 less ∙ ap (λ rows. count_of rows n) from)
            (rest.1 bound n begin.1 less)),
        (subst (λ (w : Whence). AreOrderedRows (4 ^ w.k) w.rows) whence ordered, rest.2),
      )

  -- those of whole tables are their rows
  pub whole_rows : (tables : List TableSeen) (aheads afters : List (Ahead KeptStand F G)) → AreBegun tables aheads
      → whences_of whence_of_kept afters ≡ whences_of whence_of_kept aheads → (taken : List (List Row))
      → AreWhole HasGivenAll afters taken → taken ≡ map (λ table. table.0.rows) tables
  whole_rows [] [] [] begun same [] whole = refl
  whole_rows [] [] [] begun same (rows ∷ others) whole = absurd whole
  whole_rows [] [] (after ∷ afters) begun same others whole = absurd (cons-nil same)
  whole_rows [] (ahead ∷ aheads) afters begun same others whole = absurd begun
  whole_rows (table ∷ tables) [] afters begun same others whole = absurd begun
  whole_rows (table ∷ tables) (ahead ∷ aheads) [] begun same others whole = absurd (nil-cons same)
  whole_rows (table ∷ tables) (ahead ∷ aheads) (after ∷ afters) begun same [] whole = absurd whole
  whole_rows (table ∷ tables) (ahead ∷ aheads) (after ∷ afters) begun same (rows ∷ others) whole =
      let from = ap (λ (from : Whence). from.rows) (cons-head same ∙ begun.0) in
      ap₂ (λ r rs. r ∷ rs) (whole.0.all ∙ from) (whole_rows tables aheads afters begun.2 (cons-tail same) others whole.1)

fronts_of_whole : (tables : List TableSeen) (taken : List (List Row)) → taken ≡ map (λ table. table.0.rows) tables
    → AreFronts tables taken
fronts_of_whole [] [] is = tt
fronts_of_whole [] (rows ∷ others) is = absurd (cons-nil is)
fronts_of_whole (table ∷ tables) [] is = absurd (nil-cons is)
fronts_of_whole (table ∷ tables) (rows ∷ others) is =
    (([], append-nil rows ∙ cons-head is), fronts_of_whole tables others (cons-tail is))

-- ---- merged tables whose counts fit

count_most : (n : ℕ) (rows : List Row) → count_of rows n ≤ total_of rows
count_most n [] = zero-le
count_most n (row ∷ rows) = ⊎_elim
    (λ (e : row.word ≡ n). let here = count_of-here row rows n e in
    let all = sum_by-cons (λ (row : Row). row.count) row rows in omega (arith, here, all))
    (λ (ne : row.word ≡ n → ⊥). let past = count_of-past row rows n ne in let rest = count_most n rows in
    let all = sum_by-cons (λ (row : Row). row.count) row rows in omega (arith, past, rest, all))
    (cases_eq row.word n)

counts_most : (n : ℕ) (tables : List (List Row)) → sum_of (counts_in tables n) ≤ sum_by total_of tables
counts_most n [] = zero-le
counts_most n (rows ∷ tables) =
    let here = count_most n rows in
    let rest = counts_most n tables in
    let counts = sum_by-cons (λ count. count) (count_of rows n) (counts_in tables n) in
    let totals = sum_by-cons total_of rows tables in
    omega (arith, here, rest, counts, totals)

fronts_total : (tables : List TableSeen) (taken : List (List Row)) → AreFronts tables taken
    → sum_by total_of taken ≤ total_of_all tables
fronts_total [] [] are = zero-le
fronts_total [] (rows ∷ others) are = absurd are
fronts_total (table ∷ tables) [] are = absurd are
fronts_total (table ∷ tables) (rows ∷ others) are =
    let front = are.0 in
    let whole = ap total_of front.1 in
    let apart = sum_by-append (λ (row : Row). row.count) rows front.0 in
    let rest = fronts_total tables others are.1 in
    let totals = sum_by-cons total_of rows others in
    let all = sum_by-cons (λ (table : TableSeen). total_of table.0.rows) table tables in
    omega (arith, whole, apart, rest, totals, all)

-- their counts don't grow too large
never_too_much : (tables : List TableSeen) (IsHeader : Header → Type 0) (start now : Written) → total_of_all tables ≤ 2 ^ 62
    → CountsTooMuch IsHeader (AreFronts tables) Merge start now → ⊥
never_too_much tables IsHeader start now fits much = above much.above where
  most : sum_by total_of much.tables ≤ total_of_all tables
  most = fronts_total tables much.tables much.took

  above : IsTooLarge sum_of much.tables much.rows ⊎ ((bound : ℕ) × (row : Row)
      × AreCombinedBelow bound sum_of much.tables (much.rows ++ row ∷ []) × (2 ^ 62 < total_of much.rows + row.count)) → ⊥
  above (inl large) =
      let counts = counts_most large.word much.tables in
      let more = large.above in
      omega (arith, most, counts, more, fits)
  above (inr more) =
      let sum = total_below more.0 much.tables (much.rows ++ more.1 ∷ []) more.2 in
      let apart = sum_by-append (λ (row : Row). row.count) much.rows (more.1 ∷ []) in
      let one = sum_by-cons (λ (row : Row). row.count) more.1 [] in
      let over = more.3 in
      omega (arith, most, sum, apart, one, over, fits)

-- ---- the answer

module _ {F : Type 0} {G : Ghosts KeptStand F} where
  pub combines_tables : (combining : Combining) (tables : List TableSeen) (header : Header) (aheads afters : List (Ahead KeptStand F G))
      (start now : Written) → AreBegun tables aheads → HasHeaderOf combining (map header_seen tables) header
      → whences_of whence_of_kept afters ≡ whences_of whence_of_kept aheads → (totals : Totals)
      → HasWrittenTable HasGivenAll (rule_of combining) header start now afters totals
      → CombinesTables combining tables start now totals
  combines_tables combining tables header aheads afters start now begun headed same totals written = record {
    header = header;
    headed = headed;
    rows = written.rows;
    combined = subst (λ (lists : List (List Row)). IsCombined header.k (rule_of combining) lists written.rows)
        (whole_rows tables aheads afters begun same written.result.tables written.result.whole) written.result.combined;
    written = written.written;
    distinct = written.distinct;
    total = written.total;
  }

module _ {G : Ghosts KeptStand PlacedFault} where
  pub no_failure : (aheads : List (Ahead KeptStand PlacedFault G)) (tables : List (List Row)) (fault : PlacedFault)
      → FailsAt (λ stand rows fault. ⊥) aheads tables fault → ⊥
  no_failure [] [] fault fails = fails
  no_failure [] (rows ∷ tables) fault fails = fails
  no_failure (ahead ∷ aheads) [] fault fails = fails
  no_failure (ahead ∷ aheads) (rows ∷ tables) fault (inl fails) = fails.1
  no_failure (ahead ∷ aheads) (rows ∷ tables) fault (inr fails) = no_failure aheads tables fault fails

  -- rows that combine the tables so far are the first ones of the combination of the whole tables
  first_of_whole : (combining : Combining) (tables : List TableSeen) (header : Header) (aheads afters : List (Ahead KeptStand PlacedFault G))
      (rows : List Row) → AreBegun tables aheads → HasHeaderOf combining (map header_seen tables) header
      → whences_of whence_of_kept afters ≡ whences_of whence_of_kept aheads
      → (bound : ℕ) (taken : List (List Row)) → IsWalking HasGiven HasGivenAll (rule_of combining) bound taken afters rows
      → (rest whole : List Row) × IsCombined header.k (rule_of combining) (rows_of_each tables) whole × (rows ++ rest ≡ whole)
  first_of_whole combining tables header aheads afters rows begun headed same bound taken walk =
      let front = begins 0 bound top rows whole.0 (ordered-RiseWithin bound rows walk.combined.ordered)
      (ordered-RiseWithin top whole.0 whole.1.ordered) as_whole in
      (front.0, whole.0, whole.1, front.1) where
        top : ℕ
        top = 4 ^ header.k

        rule : List ℕ → ℕ
        rule = rule_of combining

        whole : (whole : List Row) × IsCombined header.k rule (rows_of_each tables) whole
        whole = has_result header.k rule (rows_of_each tables)

        as_whole : (n : ℕ) → n < bound → count_of rows n ≡ count_of whole.0 n
        as_whole n less =
            let taken_all = fronts tables aheads afters begun same taken walk.taken in
            let counted = walk.combined.counts n less ∙ ap rule (taken_all.1 bound n walk.begin less) in
            ⊎_elim
            (λ (low : n < top). counted ∙ sym (whole.1.counts n low))
            (λ not. let above : top ≤ n = omega (arith, not) in
            let none = tables_absent top n (rows_of_each tables) above (in_order header tables taken_all.2 headed.1) in
            counted ∙ ap rule none ∙ nothing_of combining (rows_of_each tables) ∙ sym (absent_above top n whole.0 above whole.1.ordered))
            (cases_lt n top)

  -- the writer failed
  not_taken : (combining : Combining) (tables : List TableSeen) (header : Header) (aheads afters : List (Ahead KeptStand PlacedFault G))
      (start now : Written) (rows : List Row) → AreBegun tables aheads
      → HasHeaderOf combining (map header_seen tables) header → FitsInto combining (total_of_all tables)
      → whences_of whence_of_kept afters ≡ whences_of whence_of_kept aheads
      → ((row : Row) × GoesOn HasGiven HasGivenAll (rule_of combining) afters rows (Some row) × HasBegun start now (front_of header rows))
      ⊎ (IsResultOf HasGivenAll (rule_of combining) header.k afters rows × HasBegun start now (text_of header rows))
      → FailsToTakeText combining tables start now
  not_taken combining tables header aheads afters start now rows begun headed fits same (inl more) =
      let first = first_of_whole combining tables header aheads afters (rows ++ more.0 ∷ []) begun headed same more.1.0 more.1.1 more.1.2 in
      let split = sym first.3 ∙ append_assoc rows (more.0 ∷ []) first.0 in
      record {
        header = header;
        headed = headed;
        fits = fits;
        rows = first.1;
        combined = first.2;
        begun = fails_in_front start now header first.1 rows (more.0 ∷ first.0) split more.2;
      }
  not_taken combining tables header aheads afters start now rows begun headed fits same (inr all) = record {
    header = header;
    headed = headed;
    fits = fits;
    rows = rows;
    combined = subst (λ (lists : List (List Row)). IsCombined header.k (rule_of combining) lists rows)
        (whole_rows tables aheads afters begun same all.0.tables all.0.whole) all.0.combined;
    begun = all.1;
  }

  pub combines_no_tables : (combining : Combining) (tables : List TableSeen) (header : Header)
      (aheads afters : List (Ahead KeptStand PlacedFault G)) (start now : Written) → AreBegun tables aheads
      → HasHeaderOf combining (map header_seen tables) header → FitsInto combining (total_of_all tables)
      → whences_of whence_of_kept afters ≡ whences_of whence_of_kept aheads → (fault : CombineFault PlacedFault)
      → FailsToWrite HasGiven HasGivenAll (λ stand rows fault. ⊥) (rule_of combining) header start now afters fault
      → CombinesNoTables combining tables start now fault
  combines_no_tables combining tables header aheads afters start now begun headed fits same (Table fault) h =
      absurd (no_failure afters h.1.1.1 fault h.1.1.3)
  combines_no_tables combining tables header aheads afters start now begun headed fits same Unlike h = absurd h.1
  combines_no_tables combining tables header aheads afters start now begun headed fits same TooLarge h =
      inr (no_merge combining fits much, much) where
        IsHeader : Header → Type 0
        IsHeader = HasHeaderOf combining (map header_seen tables)

        much : CountsTooMuch IsHeader (AreFronts tables) combining start now
        much = too_much HasGiven HasGivenAll (λ stand rows fault. ⊥) IsHeader (AreFronts tables) afters
            (λ taken h. (fronts tables aheads afters begun same taken h).0)
            (λ taken whole. fronts_of_whole tables taken (whole_rows tables aheads afters begun same taken whole))
            combining header start now h.0 headed h.1.0 h.1.1

        no_merge : (other : Combining) → FitsInto other (total_of_all tables)
            → CountsTooMuch IsHeader (AreFronts tables) other start now → IsNoMerge other
        no_merge Merge fits much = absurd (never_too_much tables IsHeader start now fits much)
        no_merge (Intersect rule) fits much = tt
        no_merge Subtract fits much = tt
        no_merge SubtractCounts fits much = tt
        no_merge (Filter rule) fits much = tt
  combines_no_tables combining tables header aheads afters start now begun headed fits same Write h =
      not_taken combining tables header aheads afters start now h.0 begun headed fits same h.1
  combines_no_tables combining tables header aheads afters start now begun headed fits same Memory h = h

-- ---- merged tables

alike_of : (table other : TableSeen) → Match Merge (header_seen table) (header_seen other) → AreAlike table.0 other.0 table.1 other.1
alike_of table other are =
    record { k = are.k; both = are.both; first = are.first; second = are.second; floor = are.floor }

few_reads : (origin : Option Origin) → MaySay origin → IfSome origin (λ origin. origin.reads ≤ 2 ^ 62)
few_reads None said = tt
few_reads (Some origin) said = said.reads

module _ (tables : List TableSeen) (header : Header) (rows : List Row) (headed : HasHeaderOf Merge (map header_seen tables) header)
    (combined : IsCombined header.k sum_of (rows_of_each tables) rows) (fits : FitsInto Merge (total_of_all tables)) where
  -- the table with this header and these rows
  abbrev merged : TableSeen
  merged = (record { k = header.k; both = header.both; rows = rows }, header.origin)

  merged_origin : header.origin ≡ joined_origins (map (λ table. table.1) tables)
  merged_origin = headed.2 ∙ ap joined_origins (map_map (λ (header : Header). header.origin) header_seen tables)

  all_alike : AreAllAlike tables
  all_alike i d h =
      let matching = all_of_map header_seen (λ header. All (λ other. Match Merge header other) (map header_seen tables)) tables headed.0 i d h in
      λ j e l. alike_of (get_or tables i d) (get_or tables j e)
      (all_of_map header_seen (λ other. Match Merge (header_seen (get_or tables i d)) other) tables matching j e l)

  all_few : IfSome (joined_origins (map (λ table. table.1) tables)) (λ origin. origin.reads ≤ 2 ^ 62)
  all_few = subst (λ origin. IfSome origin (λ origin. origin.reads ≤ 2 ^ 62)) merged_origin (few_reads header.origin headed.3)

  same_words : All (λ table. HaveSameWords header (header_seen table)) tables
  same_words = all_of_map header_seen (HaveSameWords header) tables headed.1

  merged_sum : IsSumOfAll (map (λ table. table.0) tables) merged.0
  merged_sum = record {
    k = map_of_all (λ (table : TableSeen). table.0) (λ (tally : TallySeen). header.k ≡ tally.k) tables (λ i d h. (same_words i d h).k);
    both = map_of_all (λ (table : TableSeen). table.0) (λ (tally : TallySeen). header.both ≡ tally.both) tables (λ i d h. (same_words i d h).both);
    rows = subst (λ (lists : List (List Row)). IsCombined header.k sum_of lists rows)
        (sym (map_map (λ (tally : TallySeen). tally.rows) (λ (table : TableSeen). table.0) tables)) combined;
  }

  -- is the tables' merged table
  is_merged : MergesAll tables (Ok merged)
  is_merged = (all_alike, record { totals = fits; reads = all_few }, merged_sum, merged_origin)

pub writes_merged : WritesMerged
writes_merged tables start now totals made fits = (
  merged tables made.header made.rows made.headed made.combined fits,
  is_merged tables made.header made.rows made.headed made.combined fits,
  made.written,
)

pub writes_merged_part : WritesMergedPart
writes_merged_part tables start now part = (
  merged tables part.header part.rows part.headed part.combined part.fits,
  is_merged tables part.header part.rows part.headed part.combined part.fits,
  part.begun,
)
