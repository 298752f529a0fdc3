-- Reading the sources of a task one by one.
use Rattle.std.proofs.Common.{◌≡◌, ◌∙◌, ◌≤◌, ◌<◌, ◌+◌, ◌-◌, ℕ, zero, suc, All, List, [], ◌∷◌, ◌++◌, map, length, drop, get_or, set, max, take, refl, sym, ap, subst, arith}
use Rattle.std.proofs.Common.{inl}
use Rattle.std.specs.Prelude.{Result, Ok, Err, IfOk, IfErr, Some}
use Rattle.std.proofs.Math.Seq.{map-set_same}
use Rattle.std.proofs.lemmas.List.{drop-set-add, drop_all, get_or-drop, get_or-map, length-drop, length-map, length-set, map-set, take-set-le}
use Rattle.kc_io.specs.Sources.{Seen}
use Rattle.kc_combine.specs.CombinedTexts.{GiveTables}
use Rattle.kc_combine.specs.JudgedTexts.{GiveTablesTo, HasFirstFault}
use Rattle.kc_combine.specs.declared.loaded_tables.LoadedTable.{LoadedTable}
use Rattle.kc_combine.proofs.JudgedTextLemmas.{give_all, give_more}
use Rattle.kc_report.specs.declared.report_faults.ReportFault.{ReportFault}
use Rattle.kc_report.specs.AskedWords.{GivesCountsOf}
use Rattle.kc_report.specs.Numbers.{GivesNumbers, NumbersSeen}
use Rattle.kc_report.specs.Table.{MaySay}
use Rattle.kc_report.specs.TableReading.{GivesTable, RefusesTable}
use Rattle.kc_tally.specs.Tally.{TallySeen}
use Rattle.kc_tool.specs.Commands.{KeepsInput, given_listed, TellFirstFault, TellNoTable, TellOneTable, TellOneTableOf, TellsOrNot}
use Rattle.kc_tool.specs.Commands.{TellCountsOf, TellsCountsOrNot, TellsNumbersOrNot, most_table_bytes, sources_from}
use Rattle.kc_tool.specs.GivenSources.{Keeps, KeepsFiles, ReadsAt, files_in, listed_in, seen_in}
use Rattle.kc_tool.specs.NamedSources.{names_of, seen_of}
use Rattle.kc_tool.specs.Tallies.{Given, TableSeen, given}
use Rattle.kc_tool.specs.declared.given_sources.GivenSources.{GivenSources}
use Rattle.kc_tool.specs.declared.named_sources.NamedSource.{NamedSource}
use Rattle.kc_tool.specs.declared.tool_faults.ToolFault.{ToolFault}

-- How many sources there are.
counted_from : (input : Seen) (files : List Seen) (n : ℕ) → n ≡ max (length files) 1 → n ≡ length (sources_from input files)
counted_from input [] n is = omega (arith, is)
counted_from input (file ∷ files) n is = omega (arith, is)

module _ {S : Type 0} (seen : S → Seen) (input : Seen) (files : List (NamedSource S)) (own : ℕ) where
  abbrev pub behind : List Seen
  behind = drop own (seen_of seen files)

  many : length behind ≡ length files - own
  many = length-drop own (seen_of seen files) ∙ ap (λ n. n - own) (length-map files (λ file. seen file.source))

  pub counted : (n : ℕ) → n ≡ max (length files - own) 1 → n ≡ length (sources_from input behind)
  counted n is = counted_from input behind n (is ∙ ap (λ m. max m 1) (sym many))

-- The given input is unchanged.
pub same_input : (input : Seen) (sources : List Seen) → KeepsInput sources input input
same_input input [] = tt
same_input input (source ∷ sources) = refl

-- If there are files, they are the sources.
pub some_from : (input : Seen) (files : List Seen) → 1 ≤ length files → sources_from input files ≡ files
some_from input [] some = absurd (omega (arith, some))
some_from input (file ∷ files) some = refl

-- There is a source.
pub some_there : (input : Seen) (files : List Seen) → 1 ≤ length (sources_from input files)
some_there input [] = omega arith
some_there input (file ∷ files) = omega arith

-- One of them was read.
pub file_read : {S : Type 0} (seen : S → Seen) (input : Seen) (files : List (NamedSource S)) (own i : ℕ) (d later : NamedSource S)
    → own < length files → i < length (sources_from input (drop own (seen_of seen files)))
    → (Reads : Seen → Seen → Type 0) → Reads (seen (get_or files (own + i) d).source) (seen later.source)
    → ReadsAt i (sources_from input (drop own (seen_of seen files)))
    (sources_from input (drop own (seen_of seen (set files (own + i) later)))) Reads
file_read seen input files own i d later more within Reads h =
    let see = λ (file : NamedSource _). seen file.source in
    let xs = seen_of seen files in
    let here = seen (get_or files (own + i) d).source in
    let many : length (drop own xs) ≡ length files - own = length-drop own xs ∙ ap (λ n. n - own) (length-map files see) in
    let some : 1 ≤ length (drop own xs) = omega (arith, many, more) in
    let from = some_from input (drop own xs) some in
    let inside : own + i < length files = omega (arith, many, more, within, ap length from) in
    let moved : drop own (seen_of seen (set files (own + i) later)) ≡ set (drop own xs) i (seen later.source) =
    ap (drop own) (map-set see files (own + i) later) ∙ drop-set-add own xs i (seen later.source) in
    let still : 1 ≤ length (drop own (seen_of seen (set files (own + i) later))) =
    omega (arith, ap length moved, length-set (drop own xs) i (seen later.source), some) in
    record {
      here = here;
      later = seen later.source;
      was = ap (λ v. get_or v i here) from ∙ get_or-drop own xs i here ∙ get_or-map see files (own + i) d here inside;
      are = some_from input _ still ∙ moved ∙ ap (λ v. set v i (seen later.source)) (sym from);
      reads = h;
    }

-- The files before the sources are unchanged.
pub still_before : {S : Type 0} (seen : S → Seen) (files : List (NamedSource S)) (own i : ℕ) (later : NamedSource S)
    → take own (seen_of seen (set files (own + i) later)) ≡ take own (seen_of seen files)
still_before seen files own i later =
    ap (take own) (map-set (λ (file : NamedSource _). seen file.source) files (own + i) later)
    ∙ take-set-le own (seen_of seen files) (own + i) (seen later.source) (omega arith)

-- The input is read if no file is a source.
pub input_read : (input later : Seen) (files : List Seen) (own i : ℕ) → length files ≤ own → i < length (sources_from input (drop own files))
    → (Reads : Seen → Seen → Type 0) → Reads input later
    → ReadsAt i (sources_from input (drop own files)) (sources_from later (drop own files)) Reads
input_read input later files own i none within Reads h =
    let empty = drop_all own files none in
    let before = ap (sources_from input) empty in
    let after = ap (sources_from later) empty in
    let first : i ≡ 0 = omega (arith, within, ap length before) in
    record {
      here = input;
      later = later;
      was = ap (λ v. get_or v i input) before ∙ ap (λ n. get_or (input ∷ []) n input) first;
      are = after ∙ sym (ap (λ v. set v i later) before ∙ ap (λ n. set (input ∷ []) n later) first);
      reads = h;
    }

-- What is kept by several calls.
kept_unread : (before after : List Seen) (first second third : Seen) → length before ≡ length after
    → KeepsInput before first second → KeepsInput after second third → KeepsInput before first third
kept_unread [] after first second third same h k = tt
kept_unread (file ∷ before) [] first second third same h k = absurd (omega (arith, same))
kept_unread (file ∷ before) (other ∷ after) first second third same h k = k ∙ h

module _ {R F : Type 0} (seen : R → Seen) (seen_file : F → Seen) where
  pub keeps_all : (given : GivenSources R F) → Keeps seen seen_file given given
  keeps_all given = record {
    files = refl;
    input = refl;
    own = refl;
    names = refl;
    unread = same_input (seen given.input.now) _;
    before = refl;
  }

  pub keeps_files : {old new : GivenSources R F} → Keeps seen seen_file old new → KeepsFiles seen seen_file old new
  keeps_files h = record { files = h.files; input = h.input; own = h.own; names = h.names; unread = h.unread }

  as_many : (first second : List (NamedSource F)) (own : ℕ) → names_of second ≡ names_of first
      → length (drop own (seen_of seen_file first)) ≡ length (drop own (seen_of seen_file second))
  as_many first second own same =
      let name = λ (file : NamedSource F). file.name.now in
      let see = λ (file : NamedSource F). seen_file file.source in
      omega (
        arith,
        length-drop own (seen_of seen_file first),
        length-drop own (seen_of seen_file second),
        length-map first see,
        length-map second see,
        length-map first name,
        length-map second name,
        ap length same,
      )

  pub files_both : {first second third : GivenSources R F} → KeepsFiles seen seen_file first second
      → KeepsFiles seen seen_file second third → KeepsFiles seen seen_file first third
  files_both {first} {second} {third} h k = record {
    files = k.files ∙ h.files;
    input = k.input ∙ h.input;
    own = k.own ∙ h.own;
    names = k.names ∙ h.names;
    unread = kept_unread _ _ (seen first.input.now) (seen second.input.now) (seen third.input.now)
        (as_many first.files.now second.files.now first.own h.names) h.unread
        (subst (λ n. KeepsInput (drop n (files_in seen_file second)) (seen second.input.now) (seen third.input.now)) h.own k.unread);
  }

  pub keeps_both : {first second third : GivenSources R F} → Keeps seen seen_file first second → Keeps seen seen_file second third
      → Keeps seen seen_file first third
  keeps_both {first} {second} {third} h k =
      let both = files_both (keeps_files h) (keeps_files k) in
      record {
        files = both.files;
        input = both.input;
        own = both.own;
        names = both.names;
        unread = both.unread;
        before = subst (λ n. take n (files_in seen_file third) ≡ take n (files_in seen_file second)) h.own k.before ∙ h.before;
      }

  -- The first file, which is a list or a table, was read.
  module _ (old mid : GivenSources R F) (d : NamedSource F) (later : F) (one : old.own ≡ 1) (some : 1 ≤ length old.files.now)
      (own : mid.own ≡ old.own)
      (read : mid.files.now ≡ set old.files.now 0 (record { name = (get_or old.files.now 0 d).name; source = later })) where
    abbrev name : NamedSource F → List ℕ
    name file = file.name.now

    abbrev see : NamedSource F → Seen
    see file = seen_file file.source

    named : names_of mid.files.now ≡ names_of old.files.now
    named = ap names_of read ∙ map-set_same name old.files.now 0 (record { name = (get_or old.files.now 0 d).name; source = later }) d refl

    pub first_read : mid.files.ghost_name ≡ old.files.ghost_name → mid.input ≡ old.input → KeepsFiles seen seen_file old mid
    first_read files input = record {
      files = files;
      input = ap (λ v. v.ghost_name) input;
      own = own;
      names = named;
      unread = subst (λ v. KeepsInput (drop old.own (files_in seen_file old)) (seen old.input.now) v) (ap (λ v. seen v.now) (sym input))
          (same_input (seen old.input.now) _);
    }

    as_given : (input : Seen) (files : List (NamedSource F)) → 1 ≤ length files
        → given_listed input (seen_of seen_file files) ≡ given (Some (seen_file (get_or files 0 d).source))
        (sources_from input (drop 1 (seen_of seen_file (set files 0 (record { name = (get_or files 0 d).name; source = later })))))
    as_given input [] some = absurd (omega (arith, some))
    as_given input (file ∷ files) some = refl

    as_left : (input first : Seen) (files : List (NamedSource F)) → 1 ≤ length files → take 1 (seen_of seen_file files) ≡ first ∷ []
        → given_listed input (seen_of seen_file files) ≡ given (Some first) (sources_from input (drop 1 (seen_of seen_file files)))
    as_left input first [] some is = absurd (omega (arith, some))
    as_left input first (file ∷ files) some is =
        ap (λ v. given (Some v) (sources_from input (seen_of seen_file files))) (ap (λ v. get_or v 0 first) is)

    first_later : (files : List (NamedSource F)) → 1 ≤ length files
        → take 1 (seen_of seen_file (set files 0 (record { name = (get_or files 0 d).name; source = later }))) ≡ seen_file later ∷ []
    first_later [] some = absurd (omega (arith, some))
    first_later (file ∷ files) some = refl

    -- What holds for it and for the sources holds for all that was given.
    pub listed_done : mid.input ≡ old.input → (new : GivenSources R F) → Keeps seen seen_file mid new → (Holds : Given → Given → Type 0)
        → Holds (given (Some (seen_file (get_or old.files.now 0 d).source)) (seen_in seen seen_file mid))
        (given (Some (seen_file later)) (seen_in seen seen_file new))
        → Holds (listed_in seen seen_file old) (listed_in seen seen_file new)
    listed_done input new kept Holds h =
        let mid_one : mid.own ≡ 1 = own ∙ one in
        let new_one : new.own ≡ 1 = kept.own ∙ mid_one in
        let from = λ (v : GivenSources R F). seen v.input.now in
        let more : 1 ≤ length new.files.now =
        omega (arith, some, ap length (kept.names ∙ named), length-map new.files.now name, length-map old.files.now name) in
        let first : take 1 (files_in seen_file new) ≡ seen_file later ∷ [] =
        subst (λ n. take n (files_in seen_file new) ≡ take n (files_in seen_file mid)) mid_one kept.before
        ∙ ap (λ v. take 1 (seen_of seen_file v)) read ∙ first_later old.files.now some in
        let before : listed_in seen seen_file old ≡ given (Some (seen_file (get_or old.files.now 0 d).source)) (seen_in seen seen_file mid) =
        as_given (from old) old.files.now some
        ∙ ap (λ v. given (Some (seen_file (get_or old.files.now 0 d).source)) (sources_from (from old) (drop 1 (seen_of seen_file v)))) (sym read)
        ∙ ap (λ v. given (Some (seen_file (get_or old.files.now 0 d).source)) (sources_from (seen v.now) (drop 1 (files_in seen_file mid)))) (sym input)
        ∙ ap (λ n. given (Some (seen_file (get_or old.files.now 0 d).source)) (sources_from (from mid) (drop n (files_in seen_file mid)))) (sym mid_one) in
        let after : listed_in seen seen_file new ≡ given (Some (seen_file later)) (seen_in seen seen_file new) =
        as_left (from new) (seen_file later) new.files.now more first
        ∙ ap (λ n. given (Some (seen_file later)) (sources_from (from new) (drop n (files_in seen_file new)))) (sym new_one) in
        subst (λ v. Holds v (listed_in seen seen_file new)) (sym before)
        (subst (λ v. Holds (given (Some (seen_file (get_or old.files.now 0 d).source)) (seen_in seen seen_file mid)) v) (sym after) h)

    -- It is refused, and the sources are unchanged.
    pub listed_left : mid.input ≡ old.input → (Holds : Given → Given → Type 0)
        → ((sources : List Seen) → Holds (given (Some (seen_file (get_or old.files.now 0 d).source)) sources) (given (Some (seen_file later)) sources))
        → Holds (listed_in seen seen_file old) (listed_in seen seen_file mid)
    listed_left input Holds h = listed_done input mid (keeps_all mid) Holds (h (seen_in seen seen_file mid))

-- The table of the one source.
pub one_table : (old new : List Seen) (outcome : Result TableSeen ToolFault) → length old ≡ 1
    → ReadsAt 0 old new (λ before after. TellsOrNot 1 before after outcome)
    → IfOk outcome (λ table. TellOneTable old new (table.0, table.1)) × IfOk outcome (λ table. MaySay table.1)
    × IfErr outcome (TellNoTable old new)
one_table [] new outcome one at = absurd (omega (arith, one))
one_table (a ∷ b ∷ old) new outcome one at = absurd (omega (arith, one))
one_table (a ∷ []) new (Ok table) one at =
    let gives = subst (λ v. GivesTable v at.later most_table_bytes table) (sym at.was) at.reads.0 in
    (subst (λ v. TellOneTable (a ∷ []) v table) (sym at.are) gives, at.reads.1, tt)
one_table (a ∷ []) new (Err fault) one at =
    (tt, tt, subst (λ v. TellNoTable (a ∷ []) v fault) (sym at.are) (subst (λ v. TellsOrNot 1 v at.later (Err fault)) (sym at.was) at.reads))

-- so it is of the numbers of a table
pub one_numbers : (high : ℕ) (old new : List Seen) (outcome : Result NumbersSeen ToolFault) → length old ≡ 1
    → ReadsAt 0 old new (λ before after. TellsNumbersOrNot high before after outcome)
    → IfOk outcome (TellOneTableOf high old new) × IfErr outcome (TellNoTable old new)
one_numbers high [] new outcome one at = absurd (omega (arith, one))
one_numbers high (a ∷ b ∷ old) new outcome one at = absurd (omega (arith, one))
one_numbers high (a ∷ []) new (Ok numbers) one at =
    let gives = subst (λ v. GivesNumbers v at.later most_table_bytes high numbers) (sym at.was) at.reads in
    ((gives.0, subst (λ v. TellOneTable (a ∷ []) v gives.0) (sym at.are) gives.1, gives.2), tt)
one_numbers high (a ∷ []) new (Err fault) one at =
    (tt, subst (λ v. TellNoTable (a ∷ []) v fault) (sym at.are) (subst (λ v. TellsNumbersOrNot high v at.later (Err fault)) (sym at.was) at.reads))

-- and of the rows of asked words
pub one_asked : (words : List (List ℕ)) (old new : List Seen) (outcome : Result TallySeen ToolFault) → length old ≡ 1
    → ReadsAt 0 old new (λ before after. TellsCountsOrNot words before after outcome)
    → IfOk outcome (TellCountsOf words old new) × IfErr outcome (TellNoTable old new)
one_asked words [] new outcome one at = absurd (omega (arith, one))
one_asked words (a ∷ b ∷ old) new outcome one at = absurd (omega (arith, one))
one_asked words (a ∷ []) new (Ok few) one at =
    let gives = subst (λ v. GivesCountsOf v at.later most_table_bytes words few) (sym at.was) at.reads in
    ((gives.0, subst (λ v. TellOneTable (a ∷ []) v gives.0) (sym at.are) gives.1, gives.2), tt)
one_asked words (a ∷ []) new (Err fault) one at =
    (tt, subst (λ v. TellNoTable (a ∷ []) v fault) (sym at.are) (subst (λ v. TellsCountsOrNot words v at.later (Err fault)) (sym at.was) at.reads))

-- ---- the tables of all sources

-- one more source gave a table
pub table_more : (i : ℕ) (olds news after : List Seen) (tables : List TableSeen) (table : TableSeen)
    → GiveTablesTo (λ seen. seen) i most_table_bytes olds news tables → i < length news → length news ≡ length olds
    → ReadsAt i news after (λ before now. TellsOrNot (i + 1) before now (Ok table))
    → GiveTablesTo (λ seen. seen) (suc i) most_table_bytes olds after (tables ++ table ∷ [])
table_more i olds news after tables table to within long at =
    subst (λ v. GiveTablesTo (λ seen. seen) (suc i) most_table_bytes olds v (tables ++ table ∷ [])) (sym at.are)
    (give_more (λ seen. seen) most_table_bytes i olds news tables at.later at.here table to (omega (arith, within, long))
    (subst (λ v. GivesTable v at.later most_table_bytes table) (sym at.was) at.reads.0))

-- the next one gave none
pub table_fails : (i : ℕ) (olds news after : List Seen) (tables : List TableSeen) (fault : ToolFault)
    → GiveTablesTo (λ seen. seen) i most_table_bytes olds news tables → i < length news → length news ≡ length olds
    → ReadsAt i news after (λ before now. TellsOrNot (i + 1) before now (Err fault)) → TellFirstFault olds after fault
table_fails i olds news after tables fault to within long at =
    let why = at.reads in
    inl (record { place = i + 1; fault = why.0 }, first why.0 why.1, why.2) where
      first : (why : ReportFault) → RefusesTable at.here at.later most_table_bytes why
          → HasFirstFault (λ seen. seen) most_table_bytes olds after (record { place = i + 1; fault = why })
      first why refused = record {
        i = i;
        within = omega (arith, within, long);
        tables = tables;
        before = news;
        given = to;
        old = at.here;
        was = at.was;
        new = at.later;
        are = at.are;
        place = refl;
        refused = refused;
      }

-- a header can have the origin of each
pub said_more : (tables : List LoadedTable) (table : LoadedTable) → All (λ table. MaySay table.origin) tables → MaySay table.origin
    → All (λ table. MaySay table.origin) (tables ++ table ∷ [])
said_more [] table all said zero d h = said
said_more [] table all said (suc i) d h = absurd (omega (arith, h))
said_more (first ∷ tables) table all said zero d h = all 0 d (omega arith)
said_more (first ∷ tables) table all said (suc i) d h =
    said_more tables table (λ i d h. all (suc i) d (omega (arith, h))) said i d (omega (arith, h))

same_list : {A : Type 0} (xs : List A) → map (λ x. x) xs ≡ xs
same_list [] = refl
same_list (x ∷ xs) = ap (λ ys. x ∷ ys) (same_list xs)

-- all gave tables
pub tables_all : (i : ℕ) (olds news : List Seen) (tables : List TableSeen)
    → GiveTablesTo (λ seen. seen) i most_table_bytes olds news tables → length olds ≤ i → length news ≡ length olds
    → GiveTables most_table_bytes olds news tables
tables_all i olds news tables to all long =
    subst (λ v. GiveTables most_table_bytes v news tables) (same_list olds)
    (subst (λ v. GiveTables most_table_bytes (map (λ seen. seen) olds) v tables) (same_list news)
    (give_all (λ seen. seen) most_table_bytes i olds news tables to all long))
