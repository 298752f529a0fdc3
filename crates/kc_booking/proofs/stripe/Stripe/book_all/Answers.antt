use Rattle.std.proofs.Common.{◌∙◌, ◌<◌, ◌^◌, All, ap, arith, subst, sym}
use Rattle.std.proofs.lemmas.List.Sorted.{length_permutation}
use Rattle.kc_kmer.proofs.WordCounts.{All-words_of}
use Rattle.kc_booking.specs.Cuts.{all_keys_of}
use Rattle.kc_booking.proofs.PartOrder.{ordered-keys}
use Rattle.kc_booking.proofs.RoundLemmas.{own-keys-fit}
use Rattle.kc_booking.proofs.stripe.Stripe.book_all.Goals as goal

pub order-requires : goal.order-requires
order-requires g c =
    let kept = c.self.invariant.1 in
    let own = rw (← c.self.view_is) at c.in_ok-check_all.ensures.own in
    let keys = c.cuts.invariant.keys_are ∙ ap all_keys_of c.cuts.view_is in
    let same = ap (λ s. s.counted.table) c.self-inside.view_is in
    subst (λ (table : g.row.C.Denot). All (λ key. key < 2 ^ g.C.Counts.bits table) c.cuts.inside.keys.now) (sym same)
    (own-keys-fit c.self.inside.setup c.self.inside.number (g.C.Counts.bits c.self.inside.counted.table) c.args.cuts.now
    c.cuts.inside.keys.now keys own All-words_of kept.divided kept.bits_are)

pub count_and_enter-requires-clause-room : goal.count_and_enter-requires-clause-room
count_and_enter-requires-clause-room g c =
    let keys = c.cuts.invariant.keys_are ∙ ap all_keys_of c.cuts.view_is in
    let order = ordered-keys keys c.in_ok-order.ensures.same (c.deref.ensures.value ∙ c.ordered.view_is) in
    omega (arith, c.in_ok-check_all.ensures.room, length_permutation _ _ order)

pub returns-clause-total : goal.returns-clause-total
returns-clause-total g c =
    let keys = c.cuts.invariant.keys_are ∙ ap all_keys_of c.cuts.view_is in
    let order = ordered-keys keys c.in_ok-order.ensures.same (c.deref.ensures.value ∙ c.ordered.view_is) in
    rw (← length_permutation _ _ order) c.count_and_enter.ensures.total
