use Rattle.std.proofs.Common.{◌≡◌, ◌∙◌, ◌^◌, ◌<◌, ◌≤◌, ◌++◌, ℕ, List, All, ap, ap₂, arith, drop, length, map, refl, rules, subst, sym, take, vec_len}
use Rattle.std.proofs.Math.Seq.{take-append_seam}
use Rattle.kc_hash.specs.Product.{product}
use Rattle.kc_kmer.proofs.ListedLemmas.{words_of-listed}
use Rattle.kc_kmer.proofs.WordCounts.{All-words_of}
use Rattle.kc_kmer.specs.Occurrences.{words_of}
use Rattle.kc_kmer.specs.Rule.{without_list}
use Rattle.kc_word.specs.Cutting.{as_reads}
use Rattle.kc_booking.specs.Setup.{HasBits, hash_value_of}
use Rattle.kc_booking.proofs.Parts.{IsMappedTo-none, IsMappedTo-all, words-fit}
use Rattle.kc_booking.proofs.ListedLemmas.{all-count, listed-count}
use Rattle.kc_booking.proofs.cut.put_hash_values.Goals as goal
use Rattle.kc_booking.proofs.cut.put_hash_values.Goals.{in-None, in-Some}

pub keep_listed-requires : goal.keep_listed-requires
keep_listed-requires c =
    let rule = c.args.setup.now.rule in
    let reads = as_reads c.args.batch.now.pieces in
    let all = c.in_ok-put_words.ensures.words ∙ ap (λ rule. words_of rule reads) c.rule.ensures in
    rw c.in-Some.ensures.k (subst (All (λ word. word < 4 ^ rule.k)) (sym all) (All-words_of (without_list rule) reads))

pub loop-word-init : goal.loop-word-init
loop-word-init c =
    let setup = c.args.setup.now in
    let reads = as_reads c.args.batch.now.pieces in
    let all = c.in_ok-put_words.ensures.words ∙ ap (λ rule. words_of rule reads) c.rule.ensures in
    let counted : c.match-list.hash_values.items ≡ words_of setup.rule reads = elim c.match-list.branch [
      | in-None w ↦ rw w.hash_values-is (all-count setup.rule reads _ w.in-None.ensures.none all)
      | in-Some w ↦ rw w.hash_values-is (listed-count setup.rule reads _ _ _ words_of-listed w.in-Some.ensures.words all w.keep_listed.ensures)
    ] in
    record {
      fit = rw c.deref_mut-word-items.ensures.value
          (words-fit setup (record {
            rule = setup.rule;
            words = c.match-list.hash_values.items;
            tables = c.forward_tables-tables.result;
            rule_is = refl;
            tables_are = c.forward_tables-tables.ensures ∙ ap (λ s. s.hash) c.setup.view_is;
            bits = subst (λ s. HasBits s.rule.k s.hash s.stripe_bits) c.setup.view_is c.setup.invariant.0;
            below = subst (All (λ word. word < 4 ^ setup.rule.k)) (sym counted) (All-words_of setup.rule reads);
          }));
      hashed = IsMappedTo-none _ _;
    }

pub returns : goal.returns
returns c =
    let setup = c.args.setup.now in
    let reads = as_reads c.args.batch.now.pieces in
    let all = c.in_ok-put_words.ensures.words ∙ ap (λ rule. words_of rule reads) c.rule.ensures in
    let counted : c.match-list.hash_values.items ≡ words_of setup.rule reads = elim c.match-list.branch [
      | in-None w ↦ rw w.hash_values-is (all-count setup.rule reads _ w.in-None.ensures.none all)
      | in-Some w ↦ rw w.hash_values-is (listed-count setup.rule reads _ _ _ words_of-listed w.in-Some.ensures.words all w.keep_listed.ensures)
    ] in
    let long : vec_len c.match-list.hash_values ≡ length c.match-list.hash_values.items = search rules in
    let as_many : c.match-list.hash_values.len ≡ length c.loop-word.word-items = omega (arith, long, c.loop-word.auto.word-items, ap length c.deref_mut-word-items.ensures.value) in
    let end : length c.loop-word.word-items ≤ c.loop-word.word-index = omega (arith, c.loop-word.auto.word-items, c.loop-word-test.false) in
    ap (λ n. take n (c.loop-word.word-items ++ drop (length c.loop-word.word-items) c.match-list.hash_values.items)) as_many
    ∙ take-append_seam c.loop-word.word-items _
    ∙ IsMappedTo-all (λ word. product c.forward_tables-tables.result word) _ _ c.loop-word.word-index end c.loop-word.invariant.hashed
    ∙ ap₂ (λ (tables words : List ℕ). map (λ word. product tables word) words) (c.forward_tables-tables.ensures ∙ ap (λ s. s.hash) c.setup.view_is) c.deref_mut-word-items.ensures.value
    ∙ ap (map (hash_value_of setup)) counted
