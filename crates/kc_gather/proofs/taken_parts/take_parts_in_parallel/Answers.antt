use Rattle.std.proofs.Common.{◌≡◌, length, map, vec_len, get_or, IfOk, Ok, sym, subst, arith, rules}
use Rattle.kc_gather.specs.Gathering.{HavePartsOf}
use Rattle.kc_gather.proofs.PileLemmas.{all_items, Joins, in_piles, answer-at, answer-count}
use Rattle.kc_gather.proofs.Taken.{parts-none, parts-append}
use Rattle.kc_gather.proofs.taken_parts.take_parts_in_parallel.Goals as goal

pub returns : goal.returns
returns g c =
    let IsPart = g.S.Summary.is_part in
    let piles = c.in_ok-piles.piles.items in
    let answers = c.in_ok-answers.answers.items in
    let lists = c.in_ok-lists.lists.items in
    let told : map (λ list. Ok list) lists ≡ answers = search rules in
    let counted = answer-count lists answers told in
    let jobs : vec_len c.in_ok-piles.piles ≡ length piles = search rules in
    let given : vec_len c.in_ok-answers.answers ≡ length answers = search rules in
    let len = c.in_ok-answers.ensures.len in
    let as_many : length piles ≡ length lists = omega (arith, counted, jobs, given, len) in
    let joins : Joins (HavePartsOf IsPart) = record { none = parts-none IsPart; both = λ stripes more parts others. parts-append IsPart stripes more parts others } in
    subst (HavePartsOf IsPart c.args.stripes.items) (sym c.in_ok-taken.ensures)
    (subst (λ stripes. HavePartsOf IsPart stripes (all_items lists)) c.in_ok-piles.ensures.all
    (in_piles joins piles lists as_many (λ i pile list within.
    let gave = (c.in_ok-answers.ensures.each i (Ok list) within).1 in
    let met : IfOk (get_or answers i (Ok list)) (λ parts. HavePartsOf IsPart gave.job.items parts.items) = search rules in
    subst (λ p. HavePartsOf IsPart p.items (get_or lists i list).items) (sym (gave.job_is pile))
    (subst (λ r. IfOk r (λ parts. HavePartsOf IsPart gave.job.items parts.items)) (answer-at lists answers told i list (omega (arith, within, as_many))) met))))
