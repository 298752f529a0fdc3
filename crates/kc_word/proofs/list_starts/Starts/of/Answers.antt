use Rattle.std.proofs.Common.{rules, length, arith}
use Rattle.std.proofs.lemmas.Grind.{common_steps}
use Rattle.kc_word.proofs.StartLemmas.{many_starts}
use Rattle.kc_word.proofs.list_starts.Starts.of.Goals as goal

pub returns-clause-many : goal.returns-clause-many
returns-clause-many c = λ rising few.
    many_starts c.args.words.now c.unwrap_or-last.result c.shift_for-shift.result (length c.in_ok-starts.starts.items) rising
    (λ some. first_of (search rules, cc, grind (arith, common_steps)))
    (λ fits. let enough = c.shift_for-shift.ensures.enough (omega (arith, fits)) in omega (arith, enough))
    (let all = c.prefixes.ensures.all (omega (arith, few)) in omega (arith, all))
