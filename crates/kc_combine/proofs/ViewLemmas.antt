-- The views of sources in place of the sources.
use Rattle.std.proofs.Common.{◌≡◌, ℕ, zero, suc, ◌∙◌, List, [], ◌∷◌, get_or, length, map, inl, inr, refl, sym, ap, subst, arith}
use Rattle.std.proofs.lemmas.List.{length-map, map-id, map-set}
use Rattle.kc_io.specs.Sinks.{Written}
use Rattle.kc_io.specs.Sources.{Seen}
use Rattle.kc_tally.specs.declared.row.Row.{Row}
use Rattle.kc_report.specs.declared.header.Header.{Header}
use Rattle.kc_combine.specs.CombinedTexts.{AreOpened, CombinesNot, CountsTooMuch, FailsOne, FailsToTake, GiveTables, HaveNoCombination, IsHeaderOfOpened, TookSoFar}
use Rattle.kc_combine.specs.Derivations.{same_view}
use Rattle.kc_combine.specs.JudgedTexts.{CanCombine, CanNotCombine, GiveTablesTo, HasFirstFault, JudgesNot}
use Rattle.kc_combine.specs.MergedTables.{TableSeen}
use Rattle.kc_combine.specs.declared.combining.Combining.{Combining}
use Rattle.kc_combine.specs.declared.opening.Opening.{Opening}
use Rattle.kc_combine.specs.declared.placed_fault.PlacedFault.{PlacedFault}
use Rattle.kc_combine.specs.declared.written_tables.CombineFault.{CombineFault}
use Rattle.kc_combine.specs.declared.written_tables.CombineFault.TheVariants.{Table, Unlike, TooLarge, Write, Memory}

module _ {S : Type 0} (seen : S → Seen) (limit : ℕ) where
  -- The view of one of them.
  get_or-seen : (sources : List S) (i : ℕ) (d : S) → get_or (map seen sources) i (seen d) ≡ seen (get_or sources i d)
  get_or-seen [] zero d = refl
  get_or-seen [] (suc i) d = refl
  get_or-seen (source ∷ sources) zero d = refl
  get_or-seen (source ∷ sources) (suc i) d = get_or-seen sources i d

  -- The sources gave tables.
  pub gave : (olds news : List S) (tables : List TableSeen) → GiveTables limit (map seen olds) (map seen news) tables
      → GiveTables limit (map same_view (map seen olds)) (map same_view (map seen news)) tables
  gave olds news tables h =
      subst (λ v. GiveTables limit v (map same_view (map seen news)) tables) (sym (map-id (map seen olds)))
      (subst (λ v. GiveTables limit (map seen olds) v tables) (sym (map-id (map seen news))) h)

  -- So many of them did.
  gave_to : (i : ℕ) (olds news : List S) (tables : List TableSeen) → GiveTablesTo seen i limit olds news tables
      → GiveTablesTo same_view i limit (map seen olds) (map seen news) tables
  gave_to zero olds news tables h = (ap (map seen) h.0, h.1)
  gave_to (suc i) [] news tables h = absurd h
  gave_to (suc i) (old ∷ olds) [] tables h = absurd h
  gave_to (suc i) (old ∷ olds) (new ∷ news) [] h = absurd h
  gave_to (suc i) (old ∷ olds) (new ∷ news) (table ∷ tables) h = (h.0, gave_to i olds news tables h.1)

  -- They can be combined.
  pub can_combine : {combining : Combining} {lent news : List S} {header : Header} (olds : List S) → lent ≡ olds
      → CanCombine seen combining limit lent news header → CanCombine same_view combining limit (map seen olds) (map seen news) header
  can_combine {combining} {lent} {news} {header} olds is h =
      subst (λ v. CanCombine same_view combining limit (map seen v) (map seen news) header) is (record {
        tables = h.tables;
        given = gave lent news h.tables h.given;
        headed = h.headed;
        fits = h.fits;
      })

  can_not_combine : {combining : Combining} {olds news : List S} {fault : CombineFault PlacedFault}
      → CanNotCombine seen combining limit olds news fault
      → CanNotCombine same_view combining limit (map seen olds) (map seen news) fault
  can_not_combine {combining} {olds} {news} h = record {
    tables = h.tables;
    given = gave olds news h.tables h.given;
    none = h.none;
  }

  first_fault : {olds news : List S} {fault : PlacedFault} → HasFirstFault seen limit olds news fault
      → HasFirstFault same_view limit (map seen olds) (map seen news) fault
  first_fault {olds} {news} h =
      let long = length-map olds seen in
      record {
        i = h.i;
        within = omega (arith, long, h.within);
        tables = h.tables;
        before = map seen h.before;
        given = gave_to h.i olds h.before h.tables h.given;
        old = seen h.old;
        was = get_or-seen h.before h.i h.old ∙ ap seen h.was;
        new = seen h.new;
        are = ap (map seen) h.are ∙ map-set seen h.before h.i h.new;
        place = h.place;
        refused = h.refused;
      }

  -- They can't be combined.
  pub judges_not : (combining : Combining) (olds news : List S) (fault : CombineFault PlacedFault)
      → JudgesNot seen combining limit olds news fault
      → JudgesNot same_view combining limit (map seen olds) (map seen news) fault
  judges_not combining olds news (Table fault) h = first_fault h
  judges_not combining olds news Unlike h = can_not_combine h
  judges_not combining olds news TooLarge h = can_not_combine h
  judges_not combining olds news Memory h = tt
  judges_not combining olds news Write h = absurd h

  pub are_opened : (olds news : List S) (openings : List Opening) → AreOpened seen limit olds news openings
      → AreOpened same_view limit (map seen olds) (map seen news) openings
  are_opened [] [] [] h = h
  are_opened [] [] (opening ∷ openings) h = absurd h
  are_opened [] (new ∷ news) openings h = absurd h
  are_opened (old ∷ olds) [] openings h = absurd h
  are_opened (old ∷ olds) (new ∷ news) [] h = absurd h
  are_opened (old ∷ olds) (new ∷ news) (opening ∷ openings) h = (h.0, are_opened olds news openings h.1)

  took_so_far : (olds news : List S) (tables : List (List Row)) → TookSoFar seen limit olds news tables
      → TookSoFar same_view limit (map seen olds) (map seen news) tables
  took_so_far [] [] [] h = h
  took_so_far [] [] (rows ∷ tables) h = absurd h
  took_so_far [] (new ∷ news) tables h = absurd h
  took_so_far (old ∷ olds) [] tables h = absurd h
  took_so_far (old ∷ olds) (new ∷ news) [] h = absurd h
  took_so_far (old ∷ olds) (new ∷ news) (rows ∷ tables) h = (h.0, took_so_far olds news tables h.1)

  pub fails_one : (olds news : List S) (fault : PlacedFault) → FailsOne seen limit olds news (Table fault)
      → FailsOne same_view limit (map seen olds) (map seen news) (Table fault)
  fails_one olds news fault h =
      let long = length-map olds seen in
      (h.0, seen h.1, seen h.2, omega (arith, long, h.3), get_or-seen olds h.0 h.1 ∙ ap seen h.4, get_or-seen news h.0 h.2 ∙ ap seen h.5, h.6, h.7)

  header_of : (combining : Combining) (olds : List S) {header : Header}
      → IsHeaderOfOpened seen combining limit olds header → IsHeaderOfOpened same_view combining limit (map seen olds) header
  header_of combining olds h = (map seen h.0, h.1, are_opened olds h.0 h.1 h.2, h.3)

  pub no_combination : {combining : Combining} {olds news : List S} {start now : Written} {fault : CombineFault PlacedFault}
      → HaveNoCombination seen combining limit olds news start now fault
      → HaveNoCombination same_view combining limit (map seen olds) (map seen news) start now fault
  no_combination {combining} {olds} {news} h = record {
    openings = h.openings;
    opened = are_opened olds news h.openings h.opened;
    none = h.none;
    unwritten = h.unwritten;
  }

  too_much : {combining : Combining} (olds news : List S) {start now : Written}
      → CountsTooMuch (IsHeaderOfOpened seen combining limit olds) (TookSoFar seen limit olds news) combining start now
      → CountsTooMuch (IsHeaderOfOpened same_view combining limit (map seen olds)) (TookSoFar same_view limit (map seen olds) (map seen news)) combining start now
  too_much {combining} olds news h = record {
    header = h.header;
    headed = header_of combining olds h.headed;
    rows = h.rows;
    front = h.front;
    tables = h.tables;
    took = took_so_far olds news h.tables h.took;
    above = h.above;
  }

  fails_to_take : {combining : Combining} (olds news : List S) {start now : Written}
      → FailsToTake (IsHeaderOfOpened seen combining limit olds) (TookSoFar seen limit olds news) combining start now
      → FailsToTake (IsHeaderOfOpened same_view combining limit (map seen olds)) (TookSoFar same_view limit (map seen olds) (map seen news)) combining start now
  fails_to_take {combining} olds news h = record {
    header = h.header;
    headed = header_of combining olds h.headed;
    rows = h.rows;
    tables = h.tables;
    took = took_so_far olds news h.tables h.took;
    failed = h.failed;
  }

  -- Their combination was not written whole.
  pub combines_not : (combining : Combining) (olds news : List S) (start now : Written) (fault : CombineFault PlacedFault)
      → CombinesNot seen combining limit olds news start now fault
      → CombinesNot same_view combining limit (map seen olds) (map seen news) start now fault
  combines_not combining olds news start now (Table fault) (one, inl unwritten) = (fails_one olds news fault one, inl unwritten)
  combines_not combining olds news start now (Table fault) (one, inr front) =
      (fails_one olds news fault one, inr (front.0, header_of combining olds front.1, front.2))
  combines_not combining olds news start now Unlike h = no_combination h
  combines_not combining olds news start now TooLarge (inl h) = inl (no_combination h)
  combines_not combining olds news start now TooLarge (inr h) = inr (too_much olds news h)
  combines_not combining olds news start now Write h = fails_to_take olds news h
  combines_not combining olds news start now Memory h = h
