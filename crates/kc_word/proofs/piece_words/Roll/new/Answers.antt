use Rattle.std.proofs.Common.{rules, ◌≡◌, ℕ, ◌-◌, leb, List, length, ap, sym, ◌∙◌, subst, arith, slice_range}
use Rattle.std.proofs.lemmas.List.Sorted.{IsPartitionPoint-from_clause}
use Rattle.kc_word.specs.declared.runs.Run.{Run}
use Rattle.kc_word.specs.Runs.{run_end, AreRuns}
use Rattle.kc_word.specs.PackedPiece.{bytes_of, IsPiece}
use Rattle.kc_word.specs.Walking.{words_left}
use Rattle.kc_word.proofs.PieceLemmas.{length-bytes_of}
use Rattle.kc_word.proofs.RunLemmas.{runs-parted, passed-at}
use Rattle.kc_word.proofs.WalkLemmas.{words_left-start}
use Rattle.kc_word.proofs.piece_words.Roll.new.Goals as goal

pub invariant_of-codes : goal.invariant_of-codes
invariant_of-codes c =
    let long = sym (length-bytes_of c.piece.inside.bases c.piece.inside.runs.items) ∙ ap length c.piece.view_is in
    let within = c.requires.within in
    let count = c.len-count.ensures in
    let rising = subst (λ (rs : List Run). (to : ℕ) × AreRuns 0 to rs) (sym c.as_slice-runs.ensures.value)
    (length c.piece.inside.bases, c.piece.invariant.rising) in
    record {
      piece = subst (IsPiece c.piece.inside.bases) (sym c.as_slice-runs.ensures.value) c.piece.invariant;
      passed = passed-at c.as_slice-runs.result.now c.partition_point.result c.args.from rising c.partition_point.ensures.bound
          (IsPartitionPoint-from_clause (λ (run : Run). leb (run_end run) c.args.from) c.as_slice-runs.result.now c.partition_point.result
          c.partition_point.ensures.partitioned (runs-parted c.as_slice-runs.result.now c.args.from rising) (λ a r f called. search rules));
      begun = omega arith;
      within = c.requires.ordered;
      inside = omega (arith, long, within);
      fits = omega (arith, long, count);
    }

-- it is seen as the front of the bytes
pub returns-clause-place : goal.returns-clause-place
returns-clause-place c =
    let bytes = ap (λ rs. slice_range (bytes_of c.piece.inside.bases rs) c.args.from c.args.to) c.as_slice-runs.ensures.value
    ∙ ap (λ bs. slice_range bs c.args.from c.args.to) c.piece.view_is in
    let none : c.args.from - c.args.from ≡ 0 = omega arith in
    λ i. record { rule = c.new-rolled.ensures.rule i; bytes = bytes i; taken = none i }

pub returns-clause-words : goal.returns-clause-words
returns-clause-words c =
    ap words_left (returns-clause-place c) ∙ words_left-start c.args.rule (slice_range c.args.piece.now c.args.from c.args.to) c.new-rolled.ensures.some
