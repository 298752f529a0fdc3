use Rattle.std.proofs.Common.{◌≡◌, ◌∙◌, ◌*◌, ap, true, false}
use Rattle.kc_tool.proofs.TalliesLemmas.{seeded_bits}
use Rattle.kc_tool.proofs.counted_sources.setup_of.Goals as goal

pub unreachable-requires : goal.unreachable-requires
unreachable-requires c =
    let rule = c.rule-rule.ensures in
    let some : false ≡ true = c.in_default.ensures.some.1 (record {
      word_bits = seeded_bits _ 1 c.seeded-hash.result c.seeded-hash.ensures.first c.seeded-hash.ensures.none ∙ ap (λ n. 2 * n) (c.get.ensures.value ∙ c.k.ensures);
      power = (c.stripes.ensures.allowed.power.0, c.stripes.ensures.value ∙ c.stripes.ensures.allowed.power.1);
      at_most = rw c.stripes.ensures.value c.stripes.ensures.allowed.at_most;
      few = rw (c.stripes.ensures.value, rule) c.stripes.ensures.few;
    }) in
    cc
