-- Any number of tables of counts, merged.
use Rattle.std.proofs.Common.{◌≡◌, ℕ, zero, suc, ◌+◌, ◌^◌, ◌<◌, ◌≤◌, List, [], ◌∷◌, map, get_or, All, false, refl, ap, ap₂, sym, ◌∙◌, subst, arith, append-nil}
use Rattle.std.specs.Prelude.{Option, Some, None, IfSome, Result, Ok, Err}
use Rattle.std.proofs.lemmas.List.{length-append}
use Rattle.std.proofs.lemmas.List.Sums.{sum_by-cons}
use Rattle.kc_kmer.specs.Rule.{CountingRule}
use Rattle.kc_kmer.specs.Word.{text}
use Rattle.kc_kmer.specs.Occurrences.{occurrences}
use Rattle.kc_kmer.proofs.WordCounts.{occurrences-append}
use Rattle.kc_tally.specs.Tally.{Read, TallySeen, count_of, IsTallyOf}
use Rattle.kc_tally.specs.Sum.{IsSum, IsSumOf}
use Rattle.kc_tally.proofs.Tallies.{one_value}
use Rattle.kc_report.specs.declared.origin.Origin.{Origin}
use Rattle.kc_report.specs.declared.report_faults.ReportFault.{ReportFault}
use Rattle.kc_report.specs.declared.report_faults.ReportFault.TheVariants.{Unlike, TooLarge, Memory}
use Rattle.kc_report.specs.Merging.{AreAlike, AreSmall, counted_from, HaveOneFloor, IsCountRead, joined_origin, Merges, reads_together}
use Rattle.kc_report.specs.Table.{table_text}
use Rattle.kc_report.proofs.MergingLemmas.{counts_match}
use Rattle.kc_report.proofs.TableAnswers.{same_tally}
use Rattle.kc_combine.specs.Combined.{counts_in, IsCombined, sum_of}
use Rattle.kc_combine.specs.MergedTables.{AllCountsMatch, AllMergedText, AreAllAlike, AreAllSmall, AreCountsRead, IsSumOfAll, MergesAll, MergesTwo, TableSeen, all_reads, joined_origins}
use Rattle.kc_combine.proofs.ResultLemmas.{sums_two, two_summed}

-- ---- two tables

floors_turned : (origin another : Option Origin) → HaveOneFloor origin another → HaveOneFloor another origin
floors_turned (Some origin) (Some other) same = sym same
floors_turned (Some origin) None same = tt
floors_turned None (Some other) same = tt
floors_turned None None same = tt

one_floor : (origin : Option Origin) → HaveOneFloor origin origin
one_floor (Some origin) = refl
one_floor None = tt

turned : {tally other : TallySeen} {origin another : Option Origin} → AreAlike tally other origin another → AreAlike other tally another origin
turned {tally} {other} {origin} {another} are = record {
  k = sym are.k;
  both = sym are.both;
  first = are.second;
  second = are.first;
  floor = floors_turned origin another are.floor;
}

like_itself : {tally other : TallySeen} {origin another : Option Origin} → AreAlike tally other origin another → AreAlike tally tally origin origin
like_itself {tally} {other} {origin} {another} are =
    record { k = refl; both = refl; first = are.first; second = are.first; floor = one_floor origin }

two_alike : (table other : TableSeen) → AreAlike table.0 other.0 table.1 other.1 → AreAllAlike (table ∷ other ∷ [])
two_alike table other are zero d h zero e l = like_itself are
two_alike table other are zero d h (suc zero) e l = are
two_alike table other are zero d h (suc (suc j)) e l = absurd (omega (arith, l))
two_alike table other are (suc zero) d h zero e l = turned are
two_alike table other are (suc zero) d h (suc zero) e l = like_itself (turned are)
two_alike table other are (suc zero) d h (suc (suc j)) e l = absurd (omega (arith, l))
two_alike table other are (suc (suc i)) d h j e l = absurd (omega (arith, h))

alike_two : (table other : TableSeen) → AreAllAlike (table ∷ other ∷ []) → AreAlike table.0 other.0 table.1 other.1
alike_two table other are = are zero table (omega arith) (suc zero) other (omega arith)

few_together : (origin another : Option Origin) → IfSome (joined_origin origin another) (λ origin. origin.reads ≤ 2 ^ 62)
    → reads_together origin another ≤ 2 ^ 62
few_together (Some origin) (Some other) few = few
few_together (Some origin) None few = omega arith
few_together None other few = omega arith

together_few : (origin another : Option Origin) → reads_together origin another ≤ 2 ^ 62
    → IfSome (joined_origin origin another) (λ origin. origin.reads ≤ 2 ^ 62)
together_few (Some origin) (Some other) few = few
together_few (Some origin) None few = tt
together_few None other few = tt

small_two : (table other : TableSeen) → AreAllSmall (table ∷ other ∷ []) → AreSmall table.0 other.0 table.1 other.1
small_two table other are = record {
  totals = let totals = are.totals in omega (arith, totals);
  reads = few_together table.1 other.1 are.reads;
}

two_small : (table other : TableSeen) → AreSmall table.0 other.0 table.1 other.1 → AreAllSmall (table ∷ other ∷ [])
two_small table other are = record {
  totals = let totals = are.totals in omega (arith, totals);
  reads = together_few table.1 other.1 are.reads;
}

sum_two : (tally other sum : TallySeen) → IsSumOfAll (tally ∷ other ∷ []) sum → IsSumOf tally other sum
sum_two tally other sum is =
    let k = is.k zero tally (omega arith) in
    record {
      k = k;
      both = is.both zero tally (omega arith);
      rows = subst (λ k. IsSum k tally.rows other.rows sum.rows) k (sums_two sum.k tally.rows other.rows sum.rows is.rows);
    }

of_both : {A : Type 0} (P : A → Type 0) (x y : A) → P x → P y → All P (x ∷ y ∷ [])
of_both P x y px py zero d h = px
of_both P x y px py (suc zero) d h = py
of_both P x y px py (suc (suc i)) d h = absurd (omega (arith, h))

two_sum : {origin another : Option Origin} (tally other sum : TallySeen) → AreAlike tally other origin another → IsSumOf tally other sum
    → IsSumOfAll (tally ∷ other ∷ []) sum
two_sum tally other sum are is = record {
  k = of_both (λ (t : TallySeen). sum.k ≡ t.k) tally other is.k (is.k ∙ are.k);
  both = of_both (λ (t : TallySeen). sum.both ≡ t.both) tally other is.both (is.both ∙ are.both);
  rows = two_summed sum.k tally.rows other.rows sum.rows (subst (λ k. IsSum k tally.rows other.rows sum.rows) (sym is.k) is.rows);
}

all_merges : (table other : TableSeen) (answer : Result TableSeen ReportFault) → MergesAll (table ∷ other ∷ []) answer
    → Merges table.0 other.0 table.1 other.1 answer
all_merges table other (Ok sum) m =
    (alike_two table other m.0, small_two table other m.1, sum_two table.0 other.0 sum.0 m.2, m.3)
all_merges table other (Err Unlike) m = λ are. m (two_alike table other are)
all_merges table other (Err TooLarge) m = (alike_two table other m.0, λ are. m.1 (two_small table other are))
all_merges table other (Err Memory) m = (alike_two table other m.0, small_two table other m.1)
all_merges table other (Err fault) m = absurd m

merges_all : (table other : TableSeen) (answer : Result TableSeen ReportFault) → Merges table.0 other.0 table.1 other.1 answer
    → MergesAll (table ∷ other ∷ []) answer
merges_all table other (Ok sum) m =
    (two_alike table other m.0, two_small table other m.1, two_sum table.0 other.0 sum.0 m.0 m.2, m.3)
merges_all table other (Err Unlike) m = λ are. m (alike_two table other are)
merges_all table other (Err TooLarge) m = (two_alike table other m.0, λ are. m.1 (small_two table other are))
merges_all table other (Err Memory) m = (two_alike table other m.0, two_small table other m.1)
merges_all table other (Err fault) m = absurd m

pub merges_two : MergesTwo
merges_two table other answer = (all_merges table other answer, merges_all table other answer)

-- ---- counts

each_read : (rule : CountingRule) (inputs : List (List Read)) (tables : List TableSeen) → AreCountsRead rule inputs tables
    → All (λ table. (reads : List Read) × IsCountRead rule reads table) tables
each_read rule [] [] are i d h = absurd (omega (arith, h))
each_read rule [] (table ∷ tables) are i d h = absurd are
each_read rule (reads ∷ inputs) [] are i d h = absurd are
each_read rule (reads ∷ inputs) (table ∷ tables) are zero d h = (reads, are.0)
each_read rule (reads ∷ inputs) (table ∷ tables) are (suc i) d h = each_read rule inputs tables are.1 i d (omega (arith, h))

pub all_counts_match : AllCountsMatch
all_counts_match rule inputs tables are i d h j e l =
    let each = each_read rule inputs tables are in
    let one = each i d h in
    let two = each j e l in
    counts_match rule one.0 two.0 (get_or tables i d) (get_or tables j e) one.1 two.1

-- the text of a count was read as that count
itself : (rule : CountingRule) (reads : List Read) (table : TableSeen) → IsCountRead rule reads table
    → IsTallyOf rule reads table.0 × (table.1 ≡ counted_from rule reads)
itself rule reads table is =
    let same = same_tally is.tally table.0 (counted_from rule reads) table.1 is.lawful is.told.lawful is.told.whole in
    (subst (IsTallyOf rule reads) same.0 is.counted, sym same.1)

-- each word counts as often in all reads as in the tables together
counted : (rule : CountingRule) (n : ℕ) (inputs : List (List Read)) (tables : List TableSeen) → n < 4 ^ rule.k
    → AreCountsRead rule inputs tables
    → sum_of (counts_in (map (λ tally. tally.rows) (map (λ table. table.0) tables)) n)
    ≡ occurrences rule (all_reads inputs) (text rule.k n)
unfolding occurrences
counted rule n [] [] small are = refl
counted rule n [] (table ∷ tables) small are = absurd are
counted rule n (reads ∷ inputs) [] small are = absurd are
counted rule n (reads ∷ inputs) (table ∷ tables) small are =
    let here = (itself rule reads table are.0).0.rows.counts n small in
    let rest = counted rule n inputs tables small are.1 in
    let joined = occurrences-append rule reads (all_reads inputs) (text rule.k n) in
    let split = sum_by-cons (λ count. count) (count_of table.0.rows n)
    (counts_in (map (λ tally. tally.rows) (map (λ table. table.0) tables)) n) in
    split ∙ ap₂ (λ a b. a + b) here rest ∙ sym joined

-- the origin of all is that of the count of all reads
origin_of_all : (rule : CountingRule) (reads : List Read) (inputs : List (List Read)) (tables : List TableSeen)
    → AreCountsRead rule (reads ∷ inputs) tables
    → joined_origins (map (λ table. table.1) tables) ≡ counted_from rule (all_reads (reads ∷ inputs))
origin_of_all rule reads inputs [] are = absurd are
origin_of_all rule reads [] (table ∷ []) are =
    (itself rule reads table are.0).1 ∙ ap (counted_from rule) (sym (append-nil reads))
origin_of_all rule reads [] (table ∷ another ∷ tables) are = absurd are.1
origin_of_all rule reads (more ∷ inputs) (table ∷ []) are = absurd are.1
origin_of_all rule reads (more ∷ inputs) (table ∷ another ∷ tables) are =
    let here = (itself rule reads table are.0).1 in
    let rest = origin_of_all rule more inputs (another ∷ tables) are.1 in
    let long = sym (length-append reads (all_reads (more ∷ inputs))) in
    ap₂ joined_origin here rest ∙ (λ i. Some (record { floor = rule.floor; reads = long i; listed = false }))

pub all_merged_text : AllMergedText
all_merged_text rule reads inputs [] merged whole are merges is = absurd are
all_merged_text rule reads inputs (table ∷ tables) merged whole are merges is =
    let sum = merges.2 in
    let first = (itself rule reads table are.0).0 in
    let k : merged.0.k ≡ rule.k = sum.k zero table.0 (omega arith) ∙ first.k in
    let combined = subst (λ k. IsCombined k sum_of (map (λ tally. tally.rows) (map (λ table. table.0) (table ∷ tables))) merged.0.rows)
    k sum.rows in
    let summed : IsTallyOf rule (all_reads (reads ∷ inputs)) merged.0 = record {
      k = k;
      both = sum.both zero table.0 (omega arith) ∙ first.both;
      rows = record {
        ordered = combined.ordered;
        counts = λ n small. combined.counts n small ∙ counted rule n (reads ∷ inputs) (table ∷ tables) small are;
      };
    } in
    let tally : merged.0 ≡ whole = one_value rule (all_reads (reads ∷ inputs)) merged.0 whole summed is in
    let origin = merges.3 ∙ origin_of_all rule reads inputs (table ∷ tables) are in
    λ i. table_text (tally i) (origin i)
