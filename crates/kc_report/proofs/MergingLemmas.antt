-- The table texts of two counts, merged.
use Rattle.std.proofs.Common.{◌≡◌, ◌+◌, List, ◌++◌, length, false, refl, sym, ◌∙◌, subst}
use Rattle.std.specs.Prelude.{Option, Some}
use Rattle.std.proofs.lemmas.List.{length-append}
use Rattle.kc_kmer.specs.Rule.{CountingRule}
use Rattle.kc_tally.specs.Tally.{Read, TallySeen, IsTallyOf}
use Rattle.kc_tally.proofs.Tallies.{one_value, summed_tally}
use Rattle.kc_report.specs.declared.origin.Origin.{Origin}
use Rattle.kc_report.specs.Table.{table_text}
use Rattle.kc_report.specs.Merging.{AreAlike, joined_origin, counted_from, IsCountRead, CountsMatch, MergedText}
use Rattle.kc_report.proofs.TableAnswers.{same_tally}

-- the text of a count was read as that count
record IsItself (rule : CountingRule) (reads : List Read) (table : TallySeen × Option Origin) : Type 0 where
  counted : IsTallyOf rule reads table.0
  origin : table.1 ≡ counted_from rule reads

is_itself : (rule : CountingRule) (reads : List Read) (table : TallySeen × Option Origin) → IsCountRead rule reads table → IsItself rule reads table
is_itself rule reads table c =
    let same = same_tally c.tally table.0 (counted_from rule reads) table.1 c.lawful c.told.lawful c.told.whole in
    record { counted = subst (IsTallyOf rule reads) same.0 c.counted; origin = sym same.1 }

pub counts_match : CountsMatch
counts_match rule reads more table other one two =
    let first = is_itself rule reads table one in
    let second = is_itself rule more other two in
    subst (λ origin. AreAlike table.0 other.0 origin other.1) (sym first.origin)
    (subst (λ another. AreAlike table.0 other.0 (counted_from rule reads) another) (sym second.origin)
    (record {
      k = first.counted.k ∙ sym second.counted.k;
      both = first.counted.both ∙ sym second.counted.both;
      first = refl;
      second = refl;
      floor = refl;
    }))

pub merged_text : MergedText
merged_text rule reads more table other merged whole one two merges is =
    let first = is_itself rule reads table one in
    let second = is_itself rule more other two in
    let summed : IsTallyOf rule (reads ++ more) merged.0 = summed_tally rule reads more table.0 other.0 merged.0 first.counted second.counted merges.2 in
    let tally : merged.0 ≡ whole = one_value rule (reads ++ more) merged.0 whole summed is in
    let long : length reads + length more ≡ length (reads ++ more) = sym (length-append reads more) in
    let origin : merged.1 ≡ counted_from rule (reads ++ more) = merges.3
    ∙ (λ i. joined_origin (first.origin i) (second.origin i))
    ∙ (λ i. Some (record { floor = rule.floor; reads = long i; listed = false })) in
    λ i. table_text (tally i) (origin i)
