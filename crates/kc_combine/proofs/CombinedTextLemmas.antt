-- Table texts that are put together, each read from its source.
use Rattle.std.proofs.Common.{◌≡◌, ℕ, zero, suc, ◌+◌, ◌^◌, ◌<◌, ◌≤◌, List, [], ◌∷◌, ◌++◌, length, get_or, set, map, take, drop, All, inl, inr, ◌⊎◌, refl, ap, sym, ◌∙◌, subst, arith, append-nil, append_assoc}
use Rattle.std.specs.Prelude.{Option, Some, None, Result, Ok, Err, IfErr, IfOk, slice_set}
use Rattle.std.proofs.lemmas.List.{drop_all, length-append, length-map, take_all}
use Rattle.kc_io.specs.Sources.{Seen}
use Rattle.kc_io.specs.Sinks.{HasBegun, Written}
use Rattle.kc_tally.specs.declared.row.Row.{Row}
use Rattle.kc_report.specs.declared.header.Header.{Header}
use Rattle.kc_report.specs.declared.report_faults.ReportFault.{ReportFault}
use Rattle.kc_report.specs.declared.report_faults.ReportFault.TheVariants as report
use Rattle.kc_combine.specs.declared.combining.Combining.{Combining}
use Rattle.kc_combine.specs.CombinedHeaders.{CombinesHeaders, HaveSameWords}
use Rattle.kc_report.specs.RowByRow.{HasGivenRows, tally_of}
use Rattle.kc_report.specs.TableReading.{GivesTable, RefusesTable}
use Rattle.kc_report.specs.RowsWritten.{front_of, text_of}
use Rattle.kc_report.proofs.RowByRowLemmas.{row_refuses}
use Rattle.kc_tally.specs.Tally.{total_of}
use Rattle.kc_combine.specs.declared.ahead.Ahead.{Ahead}
use Rattle.kc_combine.specs.declared.gives_rows.GivesRows.{Ghosts}
use Rattle.kc_combine.specs.declared.open_table.OpenTable.{OpenTable}
use Rattle.kc_combine.specs.declared.opening.Opening.{Opening}
use Rattle.kc_combine.specs.Whences.{Whence}
use Rattle.kc_combine.specs.declared.placed_fault.PlacedFault.{PlacedFault}
use Rattle.kc_combine.specs.declared.written_tables.CombineFault.{CombineFault}
use Rattle.kc_combine.specs.declared.written_tables.CombineFault.TheVariants.{Table, Unlike, TooLarge, Write, Memory}
use Rattle.kc_combine.specs.declared.combined_rows.WalkFault.TheVariants as walking
use Rattle.kc_combine.specs.Walks.{GoesOn, StopsAt}
use Rattle.kc_combine.specs.Aheads.{AreWhole, FailsAt, HasTaken, HaveLength, HaveTaken, whences_of}
use Rattle.kc_combine.specs.WrittenTables.{FailsToWrite, HasTakenFront, HasWrittenTable, IsResultOf, StandAtStart, no_rows}
use Rattle.kc_combine.specs.declared.written_tables.Totals.{Totals}
use Rattle.kc_combine.specs.Combined.{IsCombined}
use Rattle.kc_combine.specs.Combinings.{rule_of}
use Rattle.kc_combine.specs.MergedTables.{TableSeen}
use Rattle.kc_combine.specs.declared.begun.Begun.{Begun}
use Rattle.kc_report.specs.RowByRow.{TableStand}
use Rattle.kc_combine.specs.OpenTables.{Fails, Gave, GaveAll, GaveFirst, IsOpened, whence_of, whence_of_source}
use Rattle.kc_report.specs.Table.{MaySay}
use Rattle.kc_combine.specs.CombinedTexts.{AreJoined, AreOpened, AreOpenedTo, CombinesNot, CombinesTexts, CountsTooMuch, FailsToTake, GaveSoFar, GiveTables, TookSoFar, HasHeaderOf, HasNoHeaderOf, IsHeaderOfOpened, IsJoined, header_fault, header_of, header_seen, source_of}

some-inj : {A : Type 0} {a b : A} → ◌≡◌ {A = Option A} (Some a) (Some b) → a ≡ b
some-inj e = cc

pub nil-cons : {A : Type 0} {x : A} {xs : List A} → ◌≡◌ {A = List A} [] (x ∷ xs) → ⊥
nil-cons e = cc

pub cons-nil : {A : Type 0} {x : A} {xs : List A} → ◌≡◌ {A = List A} (x ∷ xs) [] → ⊥
cons-nil e = cc

pub cons-head : {A : Type 0} {x y : A} {xs ys : List A} → ◌≡◌ {A = List A} (x ∷ xs) (y ∷ ys) → x ≡ y
cons-head e = cc

pub cons-tail : {A : Type 0} {x y : A} {xs ys : List A} → ◌≡◌ {A = List A} (x ∷ xs) (y ∷ ys) → xs ≡ ys
cons-tail e = cc

module _ {S : Type 0} (seen : S → Seen) (limit : ℕ) where
  -- ---- tables that were begun

  pub opened_long : (olds news : List S) (openings : List Opening) → AreOpened seen limit olds news openings
      → (length openings ≡ length news) × (length news ≡ length olds)
  opened_long [] [] [] opened = (refl, refl)
  opened_long [] [] (opening ∷ openings) opened = absurd opened
  opened_long [] (new ∷ news) openings opened = absurd opened
  opened_long (old ∷ olds) [] openings opened = absurd opened
  opened_long (old ∷ olds) (new ∷ news) [] opened = absurd opened
  opened_long (old ∷ olds) (new ∷ news) (opening ∷ openings) opened =
      let rest = opened_long olds news openings opened.1 in
      (omega (arith, rest.0), omega (arith, rest.1))

  pub opened_more : (i : ℕ) (olds news : List S) (openings : List Opening) (new d : S) (opening : Opening)
      → AreOpenedTo seen i limit olds news openings → i < length olds
      → IsOpened (seen (get_or news i d)) (seen new) limit opening
      → AreOpenedTo seen (suc i) limit olds (slice_set news i new) (openings ++ opening ∷ [])
  opened_more i [] news openings new d opening to h is = absurd (omega (arith, h))
  opened_more zero (old ∷ olds) [] openings new d opening to h is = absurd (nil-cons to.0)
  opened_more zero (old ∷ olds) (first ∷ news) (some ∷ openings) new d opening to h is = absurd (cons-nil to.1)
  opened_more zero (old ∷ olds) (first ∷ news) [] new d opening to h is =
      (subst (λ (s : S). IsOpened (seen s) (seen new) limit opening) (cons-head to.0) is, (cons-tail to.0, refl))
  opened_more (suc i) (old ∷ olds) [] openings new d opening to h is = absurd to
  opened_more (suc i) (old ∷ olds) (first ∷ news) [] new d opening to h is = absurd to
  opened_more (suc i) (old ∷ olds) (first ∷ news) (some ∷ openings) new d opening to h is =
      (to.0, opened_more i olds news openings new d opening to.1 (omega (arith, h)) is)

  pub opened_all : (i : ℕ) (olds news : List S) (openings : List Opening) → AreOpenedTo seen i limit olds news openings
      → length olds ≤ i → length news ≡ length olds → AreOpened seen limit olds news openings
  opened_all zero [] [] [] to h long = tt
  opened_all zero [] [] (opening ∷ openings) to h long = absurd (cons-nil to.1)
  opened_all zero [] (new ∷ news) openings to h long = absurd (omega (arith, long))
  opened_all zero (old ∷ olds) news openings to h long = absurd (omega (arith, h))
  opened_all (suc i) [] news openings to h long = absurd to
  opened_all (suc i) (old ∷ olds) [] openings to h long = absurd to
  opened_all (suc i) (old ∷ olds) (new ∷ news) [] to h long = absurd to
  opened_all (suc i) (old ∷ olds) (new ∷ news) (opening ∷ openings) to h long =
      (to.0, opened_all i olds news openings to.1 (omega (arith, h)) (omega (arith, long)))

  -- the next source is as it was
  pub still : (i : ℕ) (olds news : List S) (openings : List Opening) (d : S) → AreOpenedTo seen i limit olds news openings
      → get_or news i d ≡ get_or olds i d
  still zero olds news openings d to = ap (λ (ss : List S). get_or ss 0 d) to.0
  still (suc i) [] news openings d to = absurd to
  still (suc i) (old ∷ olds) [] openings d to = absurd to
  still (suc i) (old ∷ olds) (new ∷ news) [] d to = absurd to
  still (suc i) (old ∷ olds) (new ∷ news) (opening ∷ openings) d to = still i olds news openings d to.1

  -- a header can say what was read
  pub said_each : (olds news : List S) (openings : List Opening) → AreOpened seen limit olds news openings
      → All (λ opening. MaySay opening.reading.origin) openings
  said_each [] [] [] opened i d h = absurd (omega (arith, h))
  said_each [] [] (opening ∷ openings) opened i d h = absurd opened
  said_each [] (new ∷ news) openings opened i d h = absurd opened
  said_each (old ∷ olds) [] openings opened i d h = absurd opened
  said_each (old ∷ olds) (new ∷ news) [] opened i d h = absurd opened
  said_each (old ∷ olds) (new ∷ news) (opening ∷ openings) opened zero d h =
      said_first (seen old) (seen new) opening.reading opening.head opened.0.first where
        said_first : (start now : Seen) (stand : TableStand) (head : Option Row) → GaveFirst start now limit stand head → MaySay stand.origin
        said_first start now stand None first = first.has_table.lawful.said
        said_first start now stand (Some row) first = first.lawful.said
  said_each (old ∷ olds) (new ∷ news) (opening ∷ openings) opened (suc i) d h =
      said_each olds news openings opened.1 i d (omega (arith, h))

module _ {S : Type 0} (seen : S → Seen) where
  -- ---- before the first rows

  first_taken : (reading : OpenTable S) (head : Option Row)
      → GaveFirst reading.begun.start (seen reading.source) reading.limit reading.reading head
      → HasTaken (Gave seen) (GaveAll seen) reading head []
  first_taken reading None first = first
  first_taken reading (Some row) first = first

module _ {S F : Type 0} {G : Ghosts (OpenTable S) F} (seen : S → Seen) (limit : ℕ) where
  joined_first : (place : ℕ) (old : Seen) (source : S) (opening : Opening) (ahead : Ahead (OpenTable S) F G)
      → IsJoined limit place source opening ahead → IsOpened old (seen source) limit opening
      → HasTaken (Gave seen) (GaveAll seen) ahead.reading ahead.head []
  joined_first place old source opening ahead is opened = first_taken seen ahead.reading ahead.head
      (subst (λ (head : Option Row). GaveFirst ahead.reading.begun.start (seen ahead.reading.source) ahead.reading.limit ahead.reading.reading head) (sym is.head)
      (subst (λ (stand : TableStand). GaveFirst ahead.reading.begun.start (seen ahead.reading.source) ahead.reading.limit stand opening.head) (sym is.reading)
      (subst (λ (most : ℕ). GaveFirst ahead.reading.begun.start (seen ahead.reading.source) most opening.reading opening.head) (sym is.most)
      (subst (λ (source : S). GaveFirst ahead.reading.begun.start (seen source) limit opening.reading opening.head) (sym is.source)
      (subst (λ (start : Seen). GaveFirst start (seen source) limit opening.reading opening.head) (sym (ap (λ (b : Begun). b.start) is.begun ∙ opened.start))
      opened.first)))))

  pub stand_at_start : (place : ℕ) (olds sources : List S) (openings : List Opening) (aheads : List (Ahead (OpenTable S) F G))
      → AreOpened seen limit olds sources openings → AreJoined limit place sources openings aheads
      → StandAtStart (Gave seen) (GaveAll seen) aheads
  stand_at_start place [] [] [] [] opened joined = tt
  stand_at_start place [] [] [] (ahead ∷ aheads) opened joined = absurd joined
  stand_at_start place [] [] (opening ∷ openings) aheads opened joined = absurd opened
  stand_at_start place [] (source ∷ sources) openings aheads opened joined = absurd opened
  stand_at_start place (old ∷ olds) [] openings aheads opened joined = absurd opened
  stand_at_start place (old ∷ olds) (source ∷ sources) [] aheads opened joined = absurd opened
  stand_at_start place (old ∷ olds) (source ∷ sources) (opening ∷ openings) [] opened joined = absurd joined
  stand_at_start place (old ∷ olds) (source ∷ sources) (opening ∷ openings) (ahead ∷ aheads) opened joined = (
    joined_first place (seen old) source opening ahead joined.0 opened.0,
    stand_at_start (place + 1) olds sources openings aheads opened.1 joined.1,
  )

module _ {S F : Type 0} {G : Ghosts (OpenTable S) F} (limit : ℕ) where
  -- ---- tables with their sources

  pub joined_long : (place : ℕ) (sources : List S) (openings : List Opening) (aheads : List (Ahead (OpenTable S) F G))
      → AreJoined limit place sources openings aheads → length aheads ≡ length sources
  joined_long place [] [] [] joined = refl
  joined_long place [] [] (ahead ∷ aheads) joined = absurd joined
  joined_long place [] (opening ∷ openings) aheads joined = absurd joined
  joined_long place (source ∷ sources) [] aheads joined = absurd joined
  joined_long place (source ∷ sources) (opening ∷ openings) [] joined = absurd joined
  joined_long place (source ∷ sources) (opening ∷ openings) (ahead ∷ aheads) joined =
      let rest = joined_long (place + 1) sources openings aheads joined.1 in omega (arith, rest)

  -- a table is joined with its source, behind others
  pub joined_with : (all rest_before rest : List S) (all_openings openings_before openings : List Opening)
      (aheads : List (Ahead (OpenTable S) F G)) (source : S) (opening : Opening) (ahead : Ahead (OpenTable S) F G)
      → IsJoined limit (length aheads + 1) source opening ahead → rest_before ≡ source ∷ rest → openings_before ≡ opening ∷ openings
      → ((later : List (Ahead (OpenTable S) F G)) → AreJoined limit (length aheads + 1) rest_before openings_before later
      → AreJoined limit 1 all all_openings (aheads ++ later))
      → (later : List (Ahead (OpenTable S) F G)) → AreJoined limit (length (aheads ++ ahead ∷ []) + 1) rest openings later
      → AreJoined limit 1 all all_openings (aheads ++ ahead ∷ [] ++ later)
  joined_with all rest_before rest all_openings openings_before openings aheads source opening ahead is sources begun so_far later joined =
      let long = length-append aheads (ahead ∷ []) in
      let same : length (aheads ++ ahead ∷ []) + 1 ≡ length aheads + 1 + 1 = omega (arith, long) in
      let one : AreJoined limit (length aheads + 1) (source ∷ rest) (opening ∷ openings) (ahead ∷ later) =
      (is, subst (λ n. AreJoined limit n rest openings later) same joined) in
      let whole = so_far (ahead ∷ later)
      (subst (λ (ss : List S). AreJoined limit (length aheads + 1) ss openings_before (ahead ∷ later)) (sym sources)
      (subst (λ (os : List Opening). AreJoined limit (length aheads + 1) (source ∷ rest) os (ahead ∷ later)) (sym begun) one)) in
      subst (AreJoined limit 1 all all_openings) (sym (append_assoc aheads (ahead ∷ []) later)) whole

  -- all are
  pub joined_all : (all rest : List S) (all_openings openings : List Opening) (aheads : List (Ahead (OpenTable S) F G))
      → rest ≡ [] → openings ≡ []
      → ((later : List (Ahead (OpenTable S) F G)) → AreJoined limit (length aheads + 1) rest openings later
      → AreJoined limit 1 all all_openings (aheads ++ later))
      → AreJoined limit 1 all all_openings aheads
  joined_all all rest all_openings openings aheads none no_more so_far =
      let no_source : List S = [] in
      let no_ahead : List (Ahead (OpenTable S) F G) = [] in
      let last : AreJoined limit (length aheads + 1) rest openings no_ahead =
      subst (λ (ss : List S). AreJoined limit (length aheads + 1) ss openings no_ahead) (sym none)
      (subst (λ (os : List Opening). AreJoined limit (length aheads + 1) no_source os no_ahead) (sym no_more) tt) in
      subst (AreJoined limit 1 all all_openings) (append-nil aheads) (so_far no_ahead last)

-- ---- the header

pub said_headers : (openings : List Opening) → All (λ opening. MaySay opening.reading.origin) openings
    → All (λ header. MaySay header.origin) (map header_of openings)
said_headers [] said i d h = absurd (omega (arith, h))
said_headers (opening ∷ openings) said zero d h = said 0 opening (omega arith)
said_headers (opening ∷ openings) said (suc i) d h =
    said_headers openings (λ i d h. said (suc i) d (omega (arith, h))) i d (omega (arith, h))

pub no_header_of : (combining : Combining) (headers : List Header) (why : ReportFault)
    → CombinesHeaders combining headers (Err why) → HasNoHeaderOf combining headers (header_fault why)
no_header_of combining headers report.Unlike h = h
no_header_of combining headers report.TooLarge h = h
no_header_of combining headers report.Write h = absurd h
no_header_of combining headers report.BadHeader h = absurd h
no_header_of combining headers (report.BadRow line) h = absurd h
no_header_of combining headers report.BadEnd h = absurd h
no_header_of combining headers report.TableTooLong h = absurd h
no_header_of combining headers report.TableRead h = absurd h
no_header_of combining headers report.BrokenGzip h = absurd h
no_header_of combining headers report.ShortGzip h = absurd h
no_header_of combining headers (report.BadWord word) h = absurd h
no_header_of combining headers report.Memory h = absurd h

-- ---- the tables that were read

-- tables with these headers and rows
abbrev pub tables_of : List Opening → List (List Row) → List TableSeen
tables_of [] rows = []
tables_of (opening ∷ openings) [] = []
tables_of (opening ∷ openings) (rows ∷ tables) =
    (tally_of opening.reading rows, opening.reading.origin) ∷ tables_of openings tables

module _ {S F : Type 0} {G : Ghosts (OpenTable S) F} (seen : S → Seen) (limit : ℕ) where
  one_whence : (place : ℕ) (source : S) (opening : Opening) (ahead after : Ahead (OpenTable S) F G)
      → IsJoined limit place source opening ahead → whence_of after.reading ≡ whence_of ahead.reading
      → whence_of after.reading ≡ whence_of_source opening.reading opening.begun.start limit place
  one_whence place source opening ahead after is same =
      same ∙ (λ i. whence_of_source (is.reading i) (is.begun i).start (is.most i) (is.place i))

  one_table : (old : Seen) (place : ℕ) (source : S) (opening : Opening) (ahead after : Ahead (OpenTable S) F G) (rows : List Row)
      → IsJoined limit place source opening ahead → opening.begun.start ≡ old → whence_of after.reading ≡ whence_of ahead.reading
      → GaveAll seen after.reading rows
      → GivesTable old (seen after.reading.source) limit (tally_of opening.reading rows, opening.reading.origin)
  one_table old place source opening ahead after rows is begun same gave =
      let from = one_whence place source opening ahead after is same in
      let k = ap (λ (w : Whence). w.k) from in
      let both = ap (λ (w : Whence). w.both) from in
      let origin = ap (λ (w : Whence). w.origin) from in
      let start = some-inj (ap (λ (w : Whence). w.start) from) ∙ begun in
      let most = ap (λ (w : Whence). w.limit) from in
      subst (λ (X : Type 0). X)
      (λ i. GivesTable (start i) (seen after.reading.source) (most i) (record { k = k i; both = both i; rows = rows }, origin i)) gave

  pub give_tables : (place : ℕ) (olds sources : List S) (openings : List Opening) (aheads afters : List (Ahead (OpenTable S) F G))
      (tables : List (List Row)) → AreOpened seen limit olds sources openings → AreJoined limit place sources openings aheads
      → whences_of whence_of afters ≡ whences_of whence_of aheads → AreWhole (GaveAll seen) afters tables
      → GiveTables limit (map seen olds) (map seen (map source_of afters)) (tables_of openings tables)
  give_tables place [] [] [] [] [] [] opened joined same whole = tt
  give_tables place [] [] [] [] [] (rows ∷ tables) opened joined same whole = absurd whole
  give_tables place [] [] [] [] (after ∷ afters) tables opened joined same whole = absurd (cons-nil same)
  give_tables place [] [] [] (ahead ∷ aheads) afters tables opened joined same whole = absurd joined
  give_tables place [] [] (opening ∷ openings) aheads afters tables opened joined same whole = absurd opened
  give_tables place [] (source ∷ sources) openings aheads afters tables opened joined same whole = absurd opened
  give_tables place (old ∷ olds) [] openings aheads afters tables opened joined same whole = absurd opened
  give_tables place (old ∷ olds) (source ∷ sources) [] aheads afters tables opened joined same whole = absurd opened
  give_tables place (old ∷ olds) (source ∷ sources) (opening ∷ openings) [] afters tables opened joined same whole = absurd joined
  give_tables place (old ∷ olds) (source ∷ sources) (opening ∷ openings) (ahead ∷ aheads) [] tables opened joined same whole =
      absurd (nil-cons same)
  give_tables place (old ∷ olds) (source ∷ sources) (opening ∷ openings) (ahead ∷ aheads) (after ∷ afters) [] opened joined same whole =
      absurd whole
  give_tables place (old ∷ olds) (source ∷ sources) (opening ∷ openings) (ahead ∷ aheads) (after ∷ afters) (rows ∷ tables) opened joined same whole = (
    one_table (seen old) place source opening ahead after rows joined.0 opened.0.start (cons-head same) whole.0,
    give_tables (place + 1) olds sources openings aheads afters tables opened.1 joined.1 (cons-tail same) whole.1,
  )

  -- there are as many tables as sources
  pub whole_long : (afters : List (Ahead (OpenTable S) F G)) (tables : List (List Row)) → AreWhole (GaveAll seen) afters tables
      → length tables ≡ length afters
  whole_long [] [] whole = refl
  whole_long [] (rows ∷ tables) whole = absurd whole
  whole_long (after ∷ afters) [] whole = absurd whole
  whole_long (after ∷ afters) (rows ∷ tables) whole = let rest = whole_long afters tables whole.1 in omega (arith, rest)

pub headers_of_tables : (openings : List Opening) (tables : List (List Row)) → length tables ≡ length openings
    → map header_seen (tables_of openings tables) ≡ map header_of openings
headers_of_tables [] tables long = refl
headers_of_tables (opening ∷ openings) [] long = absurd (omega (arith, long))
headers_of_tables (opening ∷ openings) (rows ∷ tables) long =
    ap (λ (headers : List Header). header_of opening ∷ headers) (headers_of_tables openings tables (omega (arith, long)))

pub rows_of_tables : (openings : List Opening) (tables : List (List Row)) → length tables ≡ length openings
    → map (λ (table : TableSeen). table.0.rows) (tables_of openings tables) ≡ tables
rows_of_tables [] [] long = refl
rows_of_tables [] (rows ∷ tables) long = absurd (omega (arith, long))
rows_of_tables (opening ∷ openings) [] long = absurd (omega (arith, long))
rows_of_tables (opening ∷ openings) (rows ∷ tables) long =
    ap (λ (tables : List (List Row)). rows ∷ tables) (rows_of_tables openings tables (omega (arith, long)))

module _ {S F : Type 0} {G : Ghosts (OpenTable S) F} (seen : S → Seen) (limit : ℕ) where
  -- what was written is the table text of what the tables are put together to
  pub combines_texts : (combining : Combining) (olds sources : List S) (openings : List Opening) (header : Header)
      (aheads afters : List (Ahead (OpenTable S) F G)) (start now : Written)
      → AreOpened seen limit olds sources openings → AreJoined limit 1 sources openings aheads
      → HasHeaderOf combining (map header_of openings) header → whences_of whence_of afters ≡ whences_of whence_of aheads
      → (totals : Totals) → HasWrittenTable (GaveAll seen) (rule_of combining) header start now afters totals
      → CombinesTexts combining limit (map seen olds) (map seen (map source_of afters)) start now totals
  combines_texts combining olds sources openings header aheads afters start now opened joined headed same totals written =
      let tables = written.result.tables in
      let whole = whole_long seen limit afters tables written.result.whole in
      let afters_long = ap length same in
      let whences = length-map afters (λ (a : Ahead (OpenTable S) F G). whence_of a.reading) in
      let others = length-map aheads (λ (a : Ahead (OpenTable S) F G). whence_of a.reading) in
      let joined_as_long = joined_long limit 1 sources openings aheads joined in
      let opened_as_long = opened_long seen limit olds sources openings opened in
      let long : length tables ≡ length openings = omega (arith, whole, afters_long, whences, others, joined_as_long, opened_as_long.0) in
      record {
        tables = tables_of openings tables;
        given = give_tables seen limit 1 olds sources openings aheads afters tables opened joined same written.result.whole;
        combines = record {
          header = header;
          headed = subst (λ (headers : List Header). HasHeaderOf combining headers header) (sym (headers_of_tables openings tables long)) headed;
          rows = written.rows;
          combined = subst (λ (tables : List (List Row)). IsCombined header.k (rule_of combining) tables written.rows)
              (sym (rows_of_tables openings tables long)) written.result.combined;
          written = written.written;
          distinct = written.distinct;
          total = written.total;
        };
      }

  -- the words of each table have the length that the header says
  pub have_length : (combining : Combining) (olds sources : List S) (openings : List Opening) (header : Header)
      (aheads : List (Ahead (OpenTable S) F G)) → AreJoined limit 1 sources openings aheads
      → HasHeaderOf combining (map header_of openings) header → HaveLength whence_of header.k aheads
  have_length combining olds sources openings header aheads joined headed = each 1 sources openings aheads joined headed.1 where
    each : (place : ℕ) (sources : List S) (openings : List Opening) (aheads : List (Ahead (OpenTable S) F G))
        → AreJoined limit place sources openings aheads → All (HaveSameWords header) (map header_of openings)
        → HaveLength whence_of header.k aheads
    each place [] [] [] joined words i d h = absurd (omega (arith, h))
    each place [] [] (ahead ∷ aheads) joined words i d h = absurd joined
    each place [] (opening ∷ openings) aheads joined words i d h = absurd joined
    each place (source ∷ sources) [] aheads joined words i d h = absurd joined
    each place (source ∷ sources) (opening ∷ openings) [] joined words i d h = absurd joined
    each place (source ∷ sources) (opening ∷ openings) (ahead ∷ aheads) joined words zero d h =
        ap (λ (stand : TableStand). stand.read.k) joined.0.reading ∙ sym (words 0 header (omega arith)).k
    each place (source ∷ sources) (opening ∷ openings) (ahead ∷ aheads) joined words (suc i) d h =
        each (place + 1) sources openings aheads joined.1 (λ i d h. words (suc i) d (omega (arith, h))) i d (omega (arith, h))

-- ---- why nothing whole was written

module _ {R F : Type 0} {G : Ghosts R F} (Gave Whole : R → List Row → Type 0) (Fails : R → List Row → F → Type 0)
    (IsHeader : Header → Type 0) (Took : List (List Row) → Type 0) (afters : List (Ahead R F G))
    (taken : (tables : List (List Row)) → HaveTaken Gave Whole afters tables → Took tables)
    (whole : (tables : List (List Row)) → AreWhole Whole afters tables → Took tables) where
  -- a count, or the sum of the counts, is too large
  pub too_much : (combining : Combining) (header : Header) (start now : Written) (rows : List Row)
      → IsHeader header → HasTakenFront start now header rows
      → StopsAt Gave Whole Fails (rule_of combining) afters rows walking.TooLarge
      ⊎ ((row : Row) × GoesOn Gave Whole (rule_of combining) afters rows (Some row) × (2 ^ 62 < total_of rows + row.count))
      → CountsTooMuch IsHeader Took combining start now
  too_much combining header start now rows headed front (inl stops) = record {
    header = header;
    headed = headed;
    rows = rows;
    front = front;
    tables = stops.0;
    took = taken stops.0 stops.1;
    above = inl stops.2;
  }
  too_much combining header start now rows headed front (inr more) = record {
    header = header;
    headed = headed;
    rows = rows;
    front = front;
    tables = more.1.1;
    took = taken more.1.1 more.1.2.taken;
    above = inr (more.1.0, more.0, more.1.2.combined, more.2);
  }

  -- the writer failed
  pub not_taken : (combining : Combining) (header : Header) (start now : Written) (rows : List Row)
      → IsHeader header
      → ((row : Row) × GoesOn Gave Whole (rule_of combining) afters rows (Some row) × HasBegun start now (front_of header rows))
      ⊎ (IsResultOf Whole (rule_of combining) header.k afters rows × HasBegun start now (text_of header rows))
      → FailsToTake IsHeader Took combining start now
  not_taken combining header start now rows headed (inl more) = record {
    header = header;
    headed = headed;
    rows = rows;
    tables = more.1.1;
    took = taken more.1.1 more.1.2.taken;
    failed = inl (more.1.0, more.0, more.1.2.combined, more.2);
  }
  not_taken combining header start now rows headed (inr all) = record {
    header = header;
    headed = headed;
    rows = rows;
    tables = all.0.tables;
    took = whole all.0.tables all.0.whole;
    failed = inr (all.0.combined, all.1);
  }

module _ {S : Type 0} (seen : S → Seen) (limit : ℕ) where
  one_so_far : (old : Seen) (reading : OpenTable S) (head : Option Row) (rows : List Row) → reading.begun.start ≡ old
      → reading.limit ≡ limit → HasTaken (Gave seen) (GaveAll seen) reading head rows
      → GaveSoFar old (seen reading.source) limit rows
  one_so_far old reading None rows start most taken = inl (
    reading.reading,
    subst (λ (start : Seen). GivesTable start (seen reading.source) limit (tally_of reading.reading rows, reading.reading.origin)) start
        (subst (λ (most : ℕ). GivesTable reading.begun.start (seen reading.source) most (tally_of reading.reading rows, reading.reading.origin))
        most taken),
  )
  one_so_far old reading (Some next) rows start most taken = inr (
    reading.reading,
    next,
    subst (λ (start : Seen). HasGivenRows start (seen reading.source) limit (rows ++ next ∷ []) reading.reading) start
        (subst (λ (most : ℕ). HasGivenRows reading.begun.start (seen reading.source) most (rows ++ next ∷ []) reading.reading) most taken),
  )

module _ {S F : Type 0} {G : Ghosts (OpenTable S) F} (seen : S → Seen) (limit : ℕ) where
  -- what stays of a table that was opened, with its source
  start_of : (old : Seen) (place : ℕ) (source : S) (opening : Opening) (ahead after : Ahead (OpenTable S) F G)
      → IsJoined limit place source opening ahead → opening.begun.start ≡ old → whence_of after.reading ≡ whence_of ahead.reading
      → (after.reading.begun.start ≡ old) × (after.reading.limit ≡ limit) × (after.reading.place ≡ place)
  start_of old place source opening ahead after is begun same =
      let from = one_whence seen limit place source opening ahead after is same in (
        some-inj (ap (λ (w : Whence). w.start) from) ∙ begun,
        ap (λ (w : Whence). w.limit) from,
        ap (λ (w : Whence). w.place) from,
      )

  -- the tables gave these rows so far
  took_so_far : (place : ℕ) (olds sources : List S) (openings : List Opening) (aheads afters : List (Ahead (OpenTable S) F G))
      (tables : List (List Row)) → AreOpened seen limit olds sources openings → AreJoined limit place sources openings aheads
      → whences_of whence_of afters ≡ whences_of whence_of aheads → HaveTaken (Gave seen) (GaveAll seen) afters tables
      → TookSoFar seen limit olds (map source_of afters) tables
  took_so_far place [] [] [] [] [] [] opened joined same taken = tt
  took_so_far place [] [] [] [] [] (rows ∷ tables) opened joined same taken = absurd taken
  took_so_far place [] [] [] [] (after ∷ afters) tables opened joined same taken = absurd (cons-nil same)
  took_so_far place [] [] [] (ahead ∷ aheads) afters tables opened joined same taken = absurd joined
  took_so_far place [] [] (opening ∷ openings) aheads afters tables opened joined same taken = absurd opened
  took_so_far place [] (source ∷ sources) openings aheads afters tables opened joined same taken = absurd opened
  took_so_far place (old ∷ olds) [] openings aheads afters tables opened joined same taken = absurd opened
  took_so_far place (old ∷ olds) (source ∷ sources) [] aheads afters tables opened joined same taken = absurd opened
  took_so_far place (old ∷ olds) (source ∷ sources) (opening ∷ openings) [] afters tables opened joined same taken = absurd joined
  took_so_far place (old ∷ olds) (source ∷ sources) (opening ∷ openings) (ahead ∷ aheads) [] tables opened joined same taken =
      absurd (nil-cons same)
  took_so_far place (old ∷ olds) (source ∷ sources) (opening ∷ openings) (ahead ∷ aheads) (after ∷ afters) [] opened joined same taken =
      absurd taken
  took_so_far place (old ∷ olds) (source ∷ sources) (opening ∷ openings) (ahead ∷ aheads) (after ∷ afters) (rows ∷ tables) opened joined same taken =
      let begun = start_of (seen old) place source opening ahead after joined.0 opened.0.start (cons-head same) in (
        one_so_far seen limit (seen old) after.reading after.head rows begun.0 begun.1 taken.0,
        took_so_far (place + 1) olds sources openings aheads afters tables opened.1 joined.1 (cons-tail same) taken.1,
      )

  -- all of them
  whole_so_far : (place : ℕ) (olds sources : List S) (openings : List Opening) (aheads afters : List (Ahead (OpenTable S) F G))
      (tables : List (List Row)) → AreOpened seen limit olds sources openings → AreJoined limit place sources openings aheads
      → whences_of whence_of afters ≡ whences_of whence_of aheads → AreWhole (GaveAll seen) afters tables
      → TookSoFar seen limit olds (map source_of afters) tables
  whole_so_far place [] [] [] [] [] [] opened joined same whole = tt
  whole_so_far place [] [] [] [] [] (rows ∷ tables) opened joined same whole = absurd whole
  whole_so_far place [] [] [] [] (after ∷ afters) tables opened joined same whole = absurd (cons-nil same)
  whole_so_far place [] [] [] (ahead ∷ aheads) afters tables opened joined same whole = absurd joined
  whole_so_far place [] [] (opening ∷ openings) aheads afters tables opened joined same whole = absurd opened
  whole_so_far place [] (source ∷ sources) openings aheads afters tables opened joined same whole = absurd opened
  whole_so_far place (old ∷ olds) [] openings aheads afters tables opened joined same whole = absurd opened
  whole_so_far place (old ∷ olds) (source ∷ sources) [] aheads afters tables opened joined same whole = absurd opened
  whole_so_far place (old ∷ olds) (source ∷ sources) (opening ∷ openings) [] afters tables opened joined same whole = absurd joined
  whole_so_far place (old ∷ olds) (source ∷ sources) (opening ∷ openings) (ahead ∷ aheads) [] tables opened joined same whole =
      absurd (nil-cons same)
  whole_so_far place (old ∷ olds) (source ∷ sources) (opening ∷ openings) (ahead ∷ aheads) (after ∷ afters) [] opened joined same whole =
      absurd whole
  whole_so_far place (old ∷ olds) (source ∷ sources) (opening ∷ openings) (ahead ∷ aheads) (after ∷ afters) (rows ∷ tables) opened joined same whole =
      let begun = start_of (seen old) place source opening ahead after joined.0 opened.0.start (cons-head same) in (
        one_so_far seen limit (seen old) after.reading None rows begun.0 begun.1 whole.0,
        whole_so_far (place + 1) olds sources openings aheads afters tables opened.1 joined.1 (cons-tail same) whole.1,
      )

module _ {S : Type 0} {G : Ghosts (OpenTable S) PlacedFault} (seen : S → Seen) (limit : ℕ) where
  -- one of the tables has this fault, with its place
  pub fails_one : (place : ℕ) (olds sources : List S) (openings : List Opening) (aheads afters : List (Ahead (OpenTable S) PlacedFault G))
      (tables : List (List Row)) (fault : PlacedFault) → AreOpened seen limit olds sources openings
      → AreJoined limit place sources openings aheads → whences_of whence_of afters ≡ whences_of whence_of aheads
      → FailsAt (Fails seen) afters tables fault
      → (i : ℕ) × (old : S) × (new : S) × (i < length olds) × (get_or olds i old ≡ old)
      × (get_or (map source_of afters) i new ≡ new) × (fault.place ≡ i + place)
      × RefusesTable (seen old) (seen new) limit fault.fault
  fails_one place [] [] [] [] [] [] fault opened joined same fails = absurd fails
  fails_one place [] [] [] [] [] (rows ∷ tables) fault opened joined same fails = absurd fails
  fails_one place [] [] [] [] (after ∷ afters) tables fault opened joined same fails = absurd (cons-nil same)
  fails_one place [] [] [] (ahead ∷ aheads) afters tables fault opened joined same fails = absurd joined
  fails_one place [] [] (opening ∷ openings) aheads afters tables fault opened joined same fails = absurd opened
  fails_one place [] (source ∷ sources) openings aheads afters tables fault opened joined same fails = absurd opened
  fails_one place (old ∷ olds) [] openings aheads afters tables fault opened joined same fails = absurd opened
  fails_one place (old ∷ olds) (source ∷ sources) [] aheads afters tables fault opened joined same fails = absurd opened
  fails_one place (old ∷ olds) (source ∷ sources) (opening ∷ openings) [] afters tables fault opened joined same fails = absurd joined
  fails_one place (old ∷ olds) (source ∷ sources) (opening ∷ openings) (ahead ∷ aheads) [] tables fault opened joined same fails =
      absurd (nil-cons same)
  fails_one place (old ∷ olds) (source ∷ sources) (opening ∷ openings) (ahead ∷ aheads) (after ∷ afters) [] fault opened joined same fails =
      absurd fails
  fails_one place (old ∷ olds) (source ∷ sources) (opening ∷ openings) (ahead ∷ aheads) (after ∷ afters) (rows ∷ tables) fault opened joined same (inl fails) =
      let begun = start_of seen limit (seen old) place source opening ahead after joined.0 opened.0.start (cons-head same) in
      let at = fails.1.0 in
      let here = begun.2 in
      let refused = row_refuses after.reading.begun.start (seen after.reading.source) after.reading.limit _ fault.fault fails.1.1 in (
        0,
        old,
        after.reading.source,
        omega arith,
        refl,
        refl,
        omega (arith, at, here),
        subst (λ (start : Seen). RefusesTable start (seen after.reading.source) limit fault.fault) begun.0
            (subst (λ (most : ℕ). RefusesTable after.reading.begun.start (seen after.reading.source) most fault.fault) begun.1 refused),
      )
  fails_one place (old ∷ olds) (source ∷ sources) (opening ∷ openings) (ahead ∷ aheads) (after ∷ afters) (rows ∷ tables) fault opened joined same (inr fails) =
      let rest = fails_one (place + 1) olds sources openings aheads afters tables fault opened.1 joined.1 (cons-tail same) fails in
      let within = rest.3 in
      let at = rest.6 in
      (suc rest.0, rest.1, rest.2, omega (arith, within), rest.4, rest.5, omega (arith, at), rest.7)

  -- why the writing ended
  pub combines_not : (combining : Combining) (olds sources : List S) (openings : List Opening) (header : Header)
      (aheads afters : List (Ahead (OpenTable S) PlacedFault G)) (start now : Written)
      → AreOpened seen limit olds sources openings → AreJoined limit 1 sources openings aheads
      → HasHeaderOf combining (map header_of openings) header
      → whences_of whence_of afters ≡ whences_of whence_of aheads → (fault : CombineFault PlacedFault)
      → FailsToWrite (Gave seen) (GaveAll seen) (Fails seen) (rule_of combining) header start now afters fault
      → CombinesNot seen combining limit olds (map source_of afters) start now fault
  combines_not combining olds sources openings header aheads afters start now opened joined headed same (Table fault) h =
      let at = h.1.1 in (
        fails_one 1 olds sources openings aheads afters at.1 fault opened joined same at.3,
        inr (header, (sources, openings, opened, headed), (h.0, h.1.0)),
      )
  combines_not combining olds sources openings header aheads afters start now opened joined headed same Unlike h = absurd h.1
  combines_not combining olds sources openings header aheads afters start now opened joined headed same TooLarge h = inr
      (too_much (Gave seen) (GaveAll seen) (Fails seen) (IsHeaderOfOpened seen combining limit olds) (TookSoFar seen limit olds (map source_of afters)) afters
      (λ tables. took_so_far seen limit 1 olds sources openings aheads afters tables opened joined same)
      (λ tables. whole_so_far seen limit 1 olds sources openings aheads afters tables opened joined same)
      combining header start now h.0 (sources, openings, opened, headed) h.1.0 h.1.1)
  combines_not combining olds sources openings header aheads afters start now opened joined headed same Write h =
      not_taken (Gave seen) (GaveAll seen) (Fails seen) (IsHeaderOfOpened seen combining limit olds) (TookSoFar seen limit olds (map source_of afters)) afters
      (λ tables. took_so_far seen limit 1 olds sources openings aheads afters tables opened joined same)
      (λ tables. whole_so_far seen limit 1 olds sources openings aheads afters tables opened joined same)
      combining header start now h.0 (sources, openings, opened, headed) h.1
  combines_not combining olds sources openings header aheads afters start now opened joined headed same Memory h = h

-- ---- a vector that was lent as a slice

-- it has what the slice had, which is as long
pub vec_after : {A : Type 0} (len : ℕ) (new old : List A) → len ≡ length old → length new ≡ length old
    → take len (new ++ drop (length new) old) ≡ new
vec_after len new old is long =
    let none = drop_all (length new) old (omega (arith, long)) in
    ap (λ rest. take len (new ++ rest)) none ∙ ap (take len) (append-nil new) ∙ take_all len new (omega (arith, is, long))

-- ---- the answer

pub as_long : {S F : Type 0} {G : Ghosts (OpenTable S) F} (aheads afters : List (Ahead (OpenTable S) F G))
    → whences_of whence_of afters ≡ whences_of whence_of aheads → length afters ≡ length aheads
as_long aheads afters same =
    let long = ap length same in
    let whences = length-map afters (λ a. whence_of a.reading) in
    let others = length-map aheads (λ a. whence_of a.reading) in
    omega (arith, long, whences, others)

pub if_ok : {A E : Type 0} (P Q : A → Type 0) (result : Result A E) → ((x : A) → P x → Q x) → IfOk result P → IfOk result Q
if_ok P Q (Ok x) from is = from x is
if_ok P Q (Err fault) from is = tt

pub if_err : {A E : Type 0} (P Q : E → Type 0) (result : Result A E) → ((x : E) → P x → Q x) → IfErr result P → IfErr result Q
if_err P Q (Ok x) from is = tt
if_err P Q (Err fault) from is = from fault is
