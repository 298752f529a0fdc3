-- Tables whose words are visited.
use Rattle.std.proofs.Common.{◌≡◌, ℕ, All, List, [], ◌∷◌, ◌++◌, length, map, take, drop, refl, ap, sym, ◌∙◌, subst, arith}
use Rattle.std.proofs.lemmas.List.{length-map}
use Rattle.kc_io.specs.Sources.{Seen}
use Rattle.kc_tally.specs.declared.row.Row.{Row}
use Rattle.kc_report.specs.declared.header.Header.{Header}
use Rattle.kc_combine.specs.Aheads.{whences_of}
use Rattle.kc_combine.specs.CombinedHeaders.{HaveSameWords}
use Rattle.kc_combine.specs.CombinedTexts.{AreJoined, AreOpened, HasHeaderOf, header_of, header_seen, source_of}
use Rattle.kc_combine.specs.Compared.{counts_of_words}
use Rattle.kc_combine.specs.KeptTables.{HasGivenAll, KeptStand}
use Rattle.kc_combine.specs.LoadedTables.{AreBegun}
use Rattle.kc_combine.specs.MergedTables.{TableSeen}
use Rattle.kc_combine.specs.OpenTables.{GaveAll, whence_of}
use Rattle.kc_combine.specs.VisitedTexts.{AreVisited, VisitsTexts}
use Rattle.kc_combine.specs.Walks.{HaveVisited}
use Rattle.kc_combine.specs.declared.ahead.Ahead.{Ahead}
use Rattle.kc_combine.specs.declared.combining.Combining.TheVariants.{Intersect}
use Rattle.kc_combine.specs.declared.combining_rules.Intersection.{Intersection}
use Rattle.kc_combine.specs.declared.gives_rows.GivesRows.{Ghosts}
use Rattle.kc_combine.specs.declared.open_table.OpenTable.{OpenTable}
use Rattle.kc_combine.specs.declared.opening.Opening.{Opening}
use Rattle.kc_combine.proofs.CombinedTextLemmas.{give_tables, have_length, headers_of_tables, joined_long, opened_long, rows_of_tables, tables_of, vec_after, whole_long}
use Rattle.kc_combine.proofs.LoadedTableLemmas.{begun_lengths, whence_of_kept, whole_rows}

-- ---- the sources

module _ {S F : Type 0} {G : Ghosts (OpenTable S) F} where
  -- those of the tables that were walked are put back
  pub back_again : (len : ℕ) (news : List S) (aheads afters : List (Ahead (OpenTable S) F G))
      → news ≡ map source_of (take len (afters ++ drop (length afters) aheads)) → len ≡ length aheads → length afters ≡ length aheads
      → news ≡ map source_of afters
  back_again len news aheads afters put held long = put ∙ ap (map source_of) (vec_after len afters aheads held long)

  -- they are as many
  pub back_as_long : (limit : ℕ) (left news : List S) (openings : List Opening) (aheads afters : List (Ahead (OpenTable S) F G))
      → AreJoined limit 1 left openings aheads → length afters ≡ length aheads → news ≡ map source_of afters
      → length news ≡ length left
  back_as_long limit left news openings aheads afters joined long put =
      let joined_as_long = joined_long limit 1 left openings aheads joined in
      let same = ap length put in
      let mapped = length-map afters source_of in
      omega (arith, joined_as_long, long, same, mapped)

-- ---- all words were visited

module _ {S F : Type 0} {G : Ghosts (OpenTable S) F} (seen : S → Seen) (limit : ℕ) where
  pub visits_texts : (rule : Intersection) (Visited : List (List ℕ) → Type 0) (olds sources : List S) (openings : List Opening)
      (header : Header) (aheads afters : List (Ahead (OpenTable S) F G))
      → AreOpened seen limit olds sources openings → AreJoined limit 1 sources openings aheads
      → HasHeaderOf (Intersect rule) (map header_of openings) header → whences_of whence_of afters ≡ whences_of whence_of aheads
      → HaveVisited (GaveAll seen) whence_of Visited aheads afters
      → VisitsTexts limit (map seen olds) (map seen (map source_of afters)) Visited
  visits_texts rule Visited olds sources openings header aheads afters opened joined headed same walked =
      let tables = walked.tables in
      let whole = whole_long seen limit afters tables walked.whole in
      let afters_long = ap length same in
      let whences = length-map afters (λ (a : Ahead (OpenTable S) F G). whence_of a.reading) in
      let others = length-map aheads (λ (a : Ahead (OpenTable S) F G). whence_of a.reading) in
      let joined_as_long = joined_long limit 1 sources openings aheads joined in
      let opened_as_long = opened_long seen limit olds sources openings opened in
      let long : length tables ≡ length openings = omega (arith, whole, afters_long, whences, others, joined_as_long, opened_as_long.0) in
      record {
        tables = tables_of openings tables;
        given = give_tables seen limit 1 olds sources openings aheads afters tables opened joined same walked.whole;
        visits = record {
          header = header;
          words = subst (All (HaveSameWords header)) (sym (headers_of_tables openings tables long)) headed.1;
          visited = subst (λ (lists : List (List Row)). Visited (counts_of_words header.k lists)) (sym (rows_of_tables openings tables long))
              (walked.visited header.k (have_length seen limit (Intersect rule) olds sources openings header aheads joined headed));
        };
      }

module _ {F : Type 0} {G : Ghosts KeptStand F} where
  pub visits_tables : (rule : Intersection) (Visited : List (List ℕ) → Type 0) (tables : List TableSeen) (header : Header)
      (aheads afters : List (Ahead KeptStand F G)) → AreBegun tables aheads
      → HasHeaderOf (Intersect rule) (map header_seen tables) header → whences_of whence_of_kept afters ≡ whences_of whence_of_kept aheads
      → HaveVisited HasGivenAll whence_of_kept Visited aheads afters → AreVisited tables Visited
  visits_tables rule Visited tables header aheads afters begun headed same walked = record {
    header = header;
    words = headed.1;
    visited = subst (λ (lists : List (List Row)). Visited (counts_of_words header.k lists))
        (whole_rows tables aheads afters begun same walked.tables walked.whole)
        (walked.visited header.k (begun_lengths (Intersect rule) header tables aheads begun headed));
  }

  pub begun_long : (tables : List TableSeen) (aheads : List (Ahead KeptStand F G)) → AreBegun tables aheads
      → length aheads ≡ length tables
  begun_long [] [] begun = refl
  begun_long [] (ahead ∷ aheads) begun = absurd begun
  begun_long (table ∷ tables) [] begun = absurd begun
  begun_long (table ∷ tables) (ahead ∷ aheads) begun = let rest = begun_long tables aheads begun.2 in omega (arith, rest)
