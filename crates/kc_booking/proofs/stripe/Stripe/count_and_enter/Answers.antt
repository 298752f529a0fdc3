use Rattle.std.proofs.Common.{◌≡◌, ◌∙◌, ◌+◌, ◌++◌, ◌<◌, ◌^◌, ℕ, List, eqb, nat_eq, Err, ap, ap₂, subst}
use Rattle.std.proofs.lemmas.Result.{err_from_is_err_and}
use Rattle.std.proofs.lemmas.List.Sorted.{All-permutation}
use Rattle.std.specs.HashSet.{contains}
use Rattle.std.specs.List.Sorted.{IsPermutation}
use Rattle.kc_kmer.proofs.WordCounts.{All-words_of, occurrences-append, times-words_of}
use Rattle.kc_word.specs.Cutting.{NumberedPieces}
use Rattle.kc_word.specs.Shared.{values}
use Rattle.kc_booking.specs.declared.booking_fault.BookFault.TheVariants as book
use Rattle.kc_booking.specs.Faults.{booking_fault}
use Rattle.kc_booking.specs.Cuts.{all_keys_of, round_at}
use Rattle.kc_table.specs.Counts.{count_at}
use Rattle.kc_booking.specs.Stripe.{IsKept, NumbersDiffer, KnowsNumbers}
use Rattle.kc_booking.proofs.Lawful.{IsLawful-from, was_full}
use Rattle.kc_booking.proofs.PartOrder.{count_by-ordered}
use Rattle.kc_booking.proofs.RoundLemmas.{round-keys-fit, CountsWords-all}
use Rattle.kc_booking.proofs.stripe.Stripe.count_and_enter.Goals as goal

pub count_all-requires-clause-in_range : goal.count_all-requires-clause-in_range
count_all-requires-clause-in_range g c =
    let kept = c.self.invariant.1 in
    let order = rw (← c.self.view_is) at c.requires.keys in
    All-permutation (λ key. key < 2 ^ g.C.Counts.bits c.self.inside.counted.table) _ _ order
    (round-keys-fit c.self.inside.setup c.self.inside.number _ (values c.args.batches.now)
    All-words_of kept.divided kept.bits_are)

pub returns-in_err-count_all-clause-full : goal.returns-in_err-count_all-clause-full
returns-in_err-count_all-clause-full g c = λ is.
    let p = err_from_is_err_and c.from_residual-in_err-count_all.result c.from_residual-in_err-count_all.ensures.1 in
    let fault : booking_fault c.in_err-count_all.field-0.0 ≡ book.Full = cc in
    rw (← c.self.view_is) (c.in_err-count_all.ensures.full (ap Err (was_full _ fault)))

pub invariant_of-self-2 : goal.invariant_of-self-2
invariant_of-self-2 g c =
    let before = c.self.invariant.0 in
    let held = c.self.invariant.1 in
    let setup = c.self.inside.setup in
    let number = c.self.inside.number in
    let old : List NumberedPieces = values c.self.inside.journal.items in
    let batches : List NumberedPieces = values c.args.batches.now in
    let journal : values c.enter_all.new.journal.items ≡ old ++ batches =
    c.enter_all.ensures.entered
    ∙ ap₂ (λ (front more : List NumberedPieces). front ++ more) (ap values c.in_ok-make_room.ensures.same_journal)
    c.in_ok-clones.ensures in
    let new : NumbersDiffer (old ++ batches) = rw (← c.self.view_is) at c.requires.new in
    let order : IsPermutation (all_keys_of (round_at setup batches number)) c.args.keys.now =
    rw (← c.self.view_is) at c.requires.keys in
    let was = g.C.Counts.counts c.self.inside.counted.table in
    let bits = g.C.Counts.bits c.count_all.new.self.table in
    let kept : IsKept setup number (old ++ batches) bits (contains nat_eq c.enter_all.new.booked) = record {
      own = held.own;
      divided = held.divided;
      bits_are = c.in_ok-count_all.ensures.limits.same_bits ∙ held.bits_are;
      known_are = subst (KnowsNumbers (contains nat_eq c.enter_all.new.booked)) journal c.enter_all.ensures.known;
    } in
    let lawful = IsLawful-from kept c.in_ok-count_all.ensures.counted new
    (CountsWords-all setup number old batches was (g.C.Counts.counts c.count_all.new.self.table)
    (record { counted = times-words_of; joined = occurrences-append; below = All-words_of })
    (record {
      divided = held.divided;
      before = before.counts_are;
      added = λ q. c.in_ok-count_all.ensures.counts q
          ∙ ap (λ (n : ℕ). count_at was q + n) (count_by-ordered (λ key. eqb key q) _ _ order);
    })) in
    rw journal (lawful, kept)
