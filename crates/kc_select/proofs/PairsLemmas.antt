-- Pairs, one more at a time: what is written of them, and what is counted of them.
use Rattle.std.proofs.Common.{◌≡◌, ℕ, Bool, true, false, cond, ◌+◌, ◌≤◌, List, [], ◌∷◌, ◌++◌, length, refl}
use Rattle.std.proofs.Common.{sym, ap, ◌∙◌, arith, length-append, append-nil}
use Rattle.std.specs.List.{filter, flat_map, sum_by}
use Rattle.std.specs.Prelude.{if◌then◌else◌}
use Rattle.std.proofs.lemmas.Grind.{flat_map-append}
use Rattle.std.proofs.lemmas.List.Elements.{filter-append}
use Rattle.std.proofs.lemmas.List.Sums.{sum_by-append, sum_by-cons, length-filter, count_by-le-length}
use Rattle.kc_fastx.specs.Reads.{Read, base_count}
use Rattle.kc_fastx.specs.Parsing.{most_bytes}
use Rattle.kc_fastx.specs.Titles.{reads_in}
use Rattle.kc_select.specs.declared.selection_counts.SelectionCounts.{SelectionCounts}
use Rattle.kc_select.specs.declared.sides.Sides.{Sides}
use Rattle.kc_select.specs.Solid.{SelectionRule, SelectorSeen, has_share, keeps, is_solid, words_for, solid_in}
use Rattle.kc_select.specs.Counts.{both_counts}
use Rattle.kc_select.specs.Pairs.{Pair, PairsSelector, each, firsts, seconds, keeps_pair, kept_pairs, sum_of_both}
use Rattle.kc_select.specs.Pairs.{is_solid_pair}
use Rattle.kc_select.specs.Pairs.{counts_of_pairs, counts_of_read}
use Rattle.kc_select.specs.PairReaders.{text_where_kept}
use Rattle.kc_select.proofs.CountsLemmas.{words_few, solid_fewer, AreFew}

-- ---- what is written

text_of_one : (f : Pair → List ℕ) (this : Pair) (b : Bool)
    → flat_map f (cond b (this ∷ []) []) ≡ (if b then f this else [])
text_of_one f this true = append-nil (f this)
text_of_one f this false = refl

pub kept_push : (selector : PairsSelector) (f : Pair → List ℕ) (these : List Pair) (this : Pair)
    → flat_map f (kept_pairs selector (these ++ this ∷ []))
    ≡ flat_map f (kept_pairs selector these) ++ text_where_kept selector f this
kept_push selector f these this =
    let keep : Pair → Bool = λ p. keeps_pair selector p.first.read p.second.read in
    ap (flat_map f) (filter-append keep these (this ∷ []))
    ∙ flat_map-append f (filter keep these) (filter keep (this ∷ []))
    ∙ ap (λ v. flat_map f (filter keep these) ++ v) (text_of_one f this (keep this))

-- ---- what is counted

length-cond : (b : Bool) (this : Pair) → length (cond b (this ∷ []) []) ≡ cond b 1 0
length-cond true this = refl
length-cond false this = refl

kept_more : (selector : PairsSelector) (these : List Pair) (this : Pair)
    → length (kept_pairs selector (these ++ this ∷ []))
    ≡ length (kept_pairs selector these) + cond (keeps_pair selector this.first.read this.second.read) 1 0
kept_more selector these this =
    let keep : Pair → Bool = λ p. keeps_pair selector p.first.read p.second.read in
    let whole = ap length (filter-append keep these (this ∷ [])) in
    let one = length-cond (keep this) this in
    omega (arith, whole, one, length-append (filter keep these) (filter keep (this ∷ [])))

sum_more : (count : Read → ℕ) (these : List Pair) (this : Pair)
    → sum_of_both count (these ++ this ∷ []) ≡ sum_of_both count these + count this.first.read + count this.second.read
sum_more count these this =
    let both : Pair → ℕ = λ p. count p.first.read + count p.second.read in
    omega (arith, sum_by-append both these (this ∷ []), sum_by-cons both this [])

-- one more pair was judged, and what was found of its reads was added
pub pairs_counted : (selector : PairsSelector) (these : List Pair) (this : Pair) (counts : SelectionCounts)
    (judged : Sides SelectionCounts) → counts ≡ counts_of_pairs selector these
    → judged ≡ each (λ read. counts_of_read selector.by (keeps_pair selector this.first.read this.second.read) read)
    (record { first = this.first.read; second = this.second.read })
    → both_counts (both_counts counts judged.first) judged.second ≡ counts_of_pairs selector (these ++ this ∷ [])
pairs_counted selector these this counts judged before is =
    let by = selector.by in
    ap (λ v. both_counts (both_counts v judged.first) judged.second) before
    ∙ ap (λ (j : Sides SelectionCounts). both_counts (both_counts (counts_of_pairs selector these) j.first) j.second) is
    ∙ alike (omega (arith, length-append these (this ∷ []))) (omega (arith, kept_more selector these this))
    (sym (sum_more (λ read. length (words_for by.tally by.rule read)) these this))
    (sym (sum_more (λ read. solid_in by.tally by.rule read) these this))
  where
    alike : {a b c d e f g h : ℕ} → a ≡ b → c ≡ d → e ≡ f → g ≡ h
        → (let one : SelectionCounts = record { reads = a; kept = c; words = e; solid = g } in one)
        ≡ record { reads = b; kept = d; words = f; solid = h }
    alike p q r s = cc

-- what both reads have is what the first ones have and what the second ones have
sums_apart : (count : Read → ℕ) (these : List Pair)
    → sum_of_both count these ≡ sum_by count (reads_in (firsts these)) + sum_by count (reads_in (seconds these))
sums_apart count [] = refl
sums_apart count (this ∷ these) =
    omega (
      arith,
      sums_apart count these,
      sum_by-cons (λ (p : Pair). count p.first.read + count p.second.read) this these,
      sum_by-cons count this.first.read (reads_in (firsts these)),
      sum_by-cons count this.second.read (reads_in (seconds these)),
    )

-- no count of pairs whose bytes are few is 2^64 or more
pub pairs_few : (selector : PairsSelector) → 1 ≤ selector.by.tally.k → (these : List Pair)
    → base_count (reads_in (firsts these)) ≤ most_bytes → base_count (reads_in (seconds these)) ≤ most_bytes
    → length these ≤ most_bytes → AreFew (counts_of_pairs selector these)
pairs_few selector some these first second few =
    let tally = selector.by.tally in
    let rule = selector.by.rule in
    let keep : Pair → Bool = λ p. keeps_pair selector p.first.read p.second.read in
    let one = reads_in (firsts these) in
    let other = reads_in (seconds these) in
    let words = sums_apart (λ read. length (words_for tally rule read)) these in
    let solid = sums_apart (λ read. solid_in tally rule read) these in
    let words_first = words_few tally rule some one in
    let words_second = words_few tally rule some other in
    let solid_first = solid_fewer tally rule one in
    let solid_second = solid_fewer tally rule other in
    record {
      reads = omega (arith, few);
      kept = omega (arith, few, length-filter keep these, count_by-le-length keep these);
      words = omega (arith, words, words_first, words_second, first, second);
      solid = omega (arith, solid, solid_first, solid_second, words_first, words_second, first, second);
    }

-- counts that are few with others are few
pub fewer_before : (counts other : SelectionCounts) → AreFew (both_counts counts other) → AreFew counts
fewer_before counts other few = record {
  reads = omega (arith, few.reads);
  kept = omega (arith, few.kept);
  words = omega (arith, few.words);
  solid = omega (arith, few.solid);
}

-- ---- how a pair is judged

share_of : (by : SelectorSeen) (rule : SelectionRule) (read : Read) (words solid : ℕ) → rule ≡ by.rule
    → words ≡ length (words_for by.tally by.rule read) → solid ≡ solid_in by.tally by.rule read
    → has_share rule words solid ≡ is_solid by.tally by.rule read
share_of by rule read words solid r w s =
    ap (λ v. has_share v words solid) r ∙ ap (λ v. has_share by.rule v solid) w
    ∙ ap (λ v. has_share by.rule (length (words_for by.tally by.rule read)) v) s

-- what was found of a read: how many words it has, how many of these are solid, and whether they are enough
pub record IsFound (by : SelectorSeen) (rule : SelectionRule) (read : Read) (found : Bool) : Type 0 where
  pub count : ℕ
  pub count_solid : ℕ
  pub words : count ≡ length (words_for by.tally by.rule read)
  pub solid : count_solid ≡ solid_in by.tally by.rule read
  pub enough : found ≡ has_share rule count count_solid

pub pair_judged : (selector : PairsSelector) (rule : SelectionRule) (first second : Read) (one other solid kept : Bool)
    → rule ≡ selector.by.rule → IsFound selector.by rule first one → IsFound selector.by rule second other
    → solid ≡ is_solid_pair selector.asked one other → kept ≡ keeps rule solid
    → kept ≡ keeps_pair selector first second
pair_judged selector rule first second one other solid kept r f s both is =
    let by = selector.by in
    let first_is : one ≡ is_solid by.tally by.rule first =
    f.enough ∙ share_of by rule first f.count f.count_solid r f.words f.solid in
    let second_is : other ≡ is_solid by.tally by.rule second =
    s.enough ∙ share_of by rule second s.count s.count_solid r s.words s.solid in
    is ∙ ap (λ v. keeps v solid) r
    ∙ ap (keeps by.rule) (both ∙ ap (λ v. is_solid_pair selector.asked v other) first_is
    ∙ ap (λ v. is_solid_pair selector.asked (is_solid by.tally by.rule first) v) second_is)
