use Rattle.std.proofs.Common.{◌≡◌, ◌+◌, ◌-◌, length, Some, ap, sym, ◌∙◌, arith, true≢false, refl}
use Rattle.std.specs.List.{list_all, range_with_len}
use Rattle.kc_kmer.specs.Word.{text, canonical}
use Rattle.kc_kmer.specs.Occurrences.{is_usable}
use Rattle.kc_kmer.proofs.ListedLemmas.{counted_at-unlisted}
use Rattle.kc_kmer.proofs.Looking.{usable-more, form_at-broken, form_at-past, form_at-whole, word-packed, counted-both, counted-one}
use Rattle.kc_kmer.proofs.slow_count.form_at.Goals as goal
use Rattle.kc_kmer.proofs.slow_count.form_at.Goals.{then-bases-count-via-then-bases-count, then-bases-count-via-else-bases-count+then-bases-count-2}

pub returns-then-bases-count-clause-none : goal.returns-then-bases-count-clause-none
returns-then-bases-count-clause-none c =
    let long : length c.bases-bases.result.now ≡ length c.args.read.now.bases = ap length c.bases-bases.ensures.value in
    counted_at-unlisted c.args.rule.now c.args.read.now c.args.position c.has_no_list.ensures
    ∙ form_at-past c.args.rule.now c.args.read.now c.args.position
    (elim c.then-bases-count.branch [
      | then-bases-count-via-then-bases-count w ↦ omega (arith, long)
      | then-bases-count-via-else-bases-count+then-bases-count-2 w ↦ omega (arith, long)
    ])

pub returns-then-not-is_usable-clause-none : goal.returns-then-not-is_usable-clause-none
returns-then-not-is_usable-clause-none c =
    counted_at-unlisted c.args.rule.now c.args.read.now c.args.position c.has_no_list.ensures
    ∙ form_at-broken c.args.rule.now c.args.read.now c.args.position c.loop-i.i (omega arith) (omega arith)
    (sym c.is_usable.ensures ∙ c.if-not-is_usable.true)

pub loop-i-preserved : goal.loop-i-preserved
loop-i-preserved c =
    usable-more c.args.rule.now c.args.read.now c.args.position c.loop-i.i (omega arith) c.loop-i.invariant
    (sym c.is_usable.ensures ∙ c.if-not-is_usable.false)

pub returns-in_err-word-clause-none : goal.returns-in_err-word-clause-none
returns-in_err-word-clause-none c =
    let long : length c.bases-bases.result.now ≡ length c.args.read.now.bases = ap length c.bases-bases.ensures.value in
    let held = form_at-whole c.args.rule.now c.args.read.now c.args.position (record {
      bases = c.bases-bases.result.now;
      end = c.args.position + c.get-count.result;
      bases_are = c.bases-bases.ensures.value;
      end_is = omega arith;
      within = omega (arith, long);
      usable =
          ap (λ m. list_all (λ j. is_usable c.args.rule.now c.args.read.now j) (range_with_len c.args.position (m - c.args.position))) (omega arith)
          ∙ c.loop-i.invariant;
    }) in
    absurd (true≢false (sym (c.in_err-word.ensures.found.1 (held.long ∙ sym c.k-k.ensures, held.bases))))

pub returns-then-both-clause-some : goal.returns-then-both-clause-some
returns-then-both-clause-some c =
    let long : length c.bases-bases.result.now ≡ length c.args.read.now.bases = ap length c.bases-bases.ensures.value in
    let held = form_at-whole c.args.rule.now c.args.read.now c.args.position (record {
      bases = c.bases-bases.result.now;
      end = c.args.position + c.get-count.result;
      bases_are = c.bases-bases.ensures.value;
      end_is = omega arith;
      within = omega (arith, long);
      usable =
          ap (λ m. list_all (λ j. is_usable c.args.rule.now c.args.read.now j) (range_with_len c.args.position (m - c.args.position))) (omega arith)
          ∙ c.loop-i.invariant;
    }) in
    counted_at-unlisted c.args.rule.now c.args.read.now c.args.position c.has_no_list.ensures
    ∙ word-packed c.args.rule.now c.args.read.now c.args.position c.k-k.result c.in_ok-word.word.0 held c.k-k.ensures c.in_ok-word.ensures.spelled
    ∙ ap Some (sym (counted-both c.args.rule.now c.both.result (text c.args.rule.now.k c.canonical-counted.result.0)
    (text c.args.rule.now.k c.in_ok-word.word.0) c.both.ensures c.if-both.true
    (ap (λ j. text j c.canonical-counted.result.0) (sym c.k-k.ensures) ∙ c.canonical-counted.ensures.lesser
    ∙ ap (λ j. canonical (text j c.in_ok-word.word.0)) c.k-k.ensures)))

pub returns-else-both-clause-some : goal.returns-else-both-clause-some
returns-else-both-clause-some c =
    let long : length c.bases-bases.result.now ≡ length c.args.read.now.bases = ap length c.bases-bases.ensures.value in
    let held = form_at-whole c.args.rule.now c.args.read.now c.args.position (record {
      bases = c.bases-bases.result.now;
      end = c.args.position + c.get-count.result;
      bases_are = c.bases-bases.ensures.value;
      end_is = omega arith;
      within = omega (arith, long);
      usable =
          ap (λ m. list_all (λ j. is_usable c.args.rule.now c.args.read.now j) (range_with_len c.args.position (m - c.args.position))) (omega arith)
          ∙ c.loop-i.invariant;
    }) in
    counted_at-unlisted c.args.rule.now c.args.read.now c.args.position c.has_no_list.ensures
    ∙ word-packed c.args.rule.now c.args.read.now c.args.position c.k-k.result c.in_ok-word.word.0 held c.k-k.ensures c.in_ok-word.ensures.spelled
    ∙ ap Some (sym (counted-one c.args.rule.now c.both.result (text c.args.rule.now.k c.in_ok-word.word.0)
    (text c.args.rule.now.k c.in_ok-word.word.0) c.both.ensures c.if-both.false refl))
