use Rattle.std.proofs.Common.{◌++◌, drop, ap, ◌∙◌}
use Rattle.kc_kmer.specs.Occurrences.{words_of}
use Rattle.kc_word.specs.Cutting.{as_reads}
use Rattle.kc_word.specs.Walking.{words_left}
use Rattle.kc_word.proofs.WalkLemmas.{words_of-at}
use Rattle.kc_word.proofs.batch.Batch.walk.Goals as goal

pub returns : goal.returns
returns c =
    ap (λ rule. words_left c.roll.result ++ words_of rule (as_reads (drop 1 c.self.inside.pieces))) (ap (λ w. w.rule) c.roll.ensures.place)
    ∙ words_of-at c.args.rule.now c.self.inside.pieces 0 (words_left c.roll.result) c.self.invariant c.roll.ensures.words
    ∙ ap (λ b. words_of c.args.rule.now (as_reads b.pieces)) c.self.view_is
