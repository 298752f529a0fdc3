use Rattle.std.proofs.Common.{◌≡◌, ◌≤◌, ap, length, sym, subst, arith, rules}
use Rattle.kc_kmer.specs.Rule.{CountingRule}
use Rattle.kc_gather.specs.Gathering.{AreAllParts}
use Rattle.kc_gather.specs.JoinedStripes.{first_counts, HasStripeNumbers}
use Rattle.kc_gather.proofs.JoinedLemmas.{of_stripes, words-few, total-few, bins-few, numbers-of_tally}
use Rattle.kc_gather.proofs.gathered_numbers.NumbersSummary.of_parts.Goals as goal

pub joined_numbers-requires : goal.joined_numbers-requires
joined_numbers-requires g c =
    let (batches, told) = c.requires.parts in
    let same : c.deref.result.now ≡ c.args.parts.items = search rules in
    let are = subst (AreAllParts HasStripeNumbers c.args.setup.now batches) (sym same) told in
    let short : c.args.setup.now.rule.k ≤ 31 = omega (arith, c.get-bases.ensures, c.k.ensures, ap (λ (rule : CountingRule). rule.k) c.rule.ensures) in
    let counts = of_stripes c.args.setup.now batches in
    let all = first_counts counts (length c.deref.result.now) in (
      counts,
      are.each,
      words-few c.args.setup.now batches all short (ap (first_counts counts) are.all),
      total-few c.args.setup.now batches all short (ap (first_counts counts) are.all) are.few,
    )

pub words_in-requires : goal.words_in-requires
words_in-requires g c =
    let (batches, told) = c.requires.parts in
    let same : c.deref.result.now ≡ c.args.parts.items = search rules in
    let are = subst (AreAllParts HasStripeNumbers c.args.setup.now batches) (sym same) told in
    let short : c.args.setup.now.rule.k ≤ 31 = omega (arith, c.get-bases.ensures, c.k.ensures, ap (λ (rule : CountingRule). rule.k) c.rule.ensures) in
    let counts = of_stripes c.args.setup.now batches in
    bins-few c.args.setup.now batches (first_counts counts (length c.deref.result.now)) c.in_ok-all.all.histogram short (ap (first_counts counts) are.all)
    (c.in_ok-all.ensures counts are.each).bins_are

pub returns : goal.returns
returns g c = λ batches told.
    let same : c.deref.result.now ≡ c.args.parts.items = search rules in
    let are = subst (AreAllParts HasStripeNumbers c.args.setup.now batches) (sym same) told in
    let short : c.args.setup.now.rule.k ≤ 31 = omega (arith, c.get-bases.ensures, c.k.ensures, ap (λ (rule : CountingRule). rule.k) c.rule.ensures) in
    let counts = of_stripes c.args.setup.now batches in
    let found = c.in_ok-all.ensures counts are.each in
    numbers-of_tally c.args.setup.now batches (first_counts counts (length c.deref.result.now)) _ short (ap (first_counts counts) are.all) found.bins_are
    (record {
      unique = c.bin.ensures;
      distinct = c.words_in.ensures;
      total = found.total_is;
      greatest = found.greatest_is;
    })
