use Rattle.std.proofs.Common.{ap, sym, ◌∙◌, option_copied}
use Rattle.kc_kmer.proofs.Looking.{usable-none, usable-known, usable-unknown}
use Rattle.kc_kmer.proofs.slow_count.is_usable.Goals as goal

pub returns-in-None : goal.returns-in-None
returns-in-None c =
    usable-none c.args.rule.now c.args.read.now (record {
      bases = c.bases.result.now;
      index = c.args.i;
      found = c.code_of-known.result;
      bases_are = c.bases.ensures.value;
      found_is = c.code_of-known.ensures;
    }) (sym (ap option_copied c.in-None.is) ∙ c.quals.ensures.value)

pub returns-then-known : goal.returns-then-known
returns-then-known c =
    usable-known c.args.rule.now c.args.read.now (record {
      bases = c.bases.result.now;
      index = c.args.i;
      found = c.code_of-known.result;
      bases_are = c.bases.ensures.value;
      found_is = c.code_of-known.ensures;
    }) c.in-Some.quals.now c.floor.result (sym (ap option_copied c.in-Some.is) ∙ c.quals.ensures.value) c.floor.ensures.value c.if-known.true

pub returns-else-known : goal.returns-else-known
returns-else-known c =
    usable-unknown c.args.rule.now c.args.read.now (record {
      bases = c.bases.result.now;
      index = c.args.i;
      found = c.code_of-known.result;
      bases_are = c.bases.ensures.value;
      found_is = c.code_of-known.ensures;
    }) c.in-Some.quals.now (sym (ap option_copied c.in-Some.is) ∙ c.quals.ensures.value) c.if-known.false
