use Rattle.std.proofs.Common.{◌≡◌, Err, ap, inl}
use Rattle.std.proofs.lemmas.Result.{err_from_is_err_and}
use Rattle.kc_booking.specs.declared.booking_fault.BookFault.TheVariants as book
use Rattle.kc_booking.specs.Stripe.{NumbersDiffer}
use Rattle.kc_booking.proofs.RoundLemmas.{one_refused}
use Rattle.kc_booking.proofs.stripe.Stripe.book.Goals as goal

pub returns-in_err-check_all-clause-twice : goal.returns-in_err-check_all-clause-twice
returns-in_err-check_all-clause-twice g c =
    let differ : NumbersDiffer c.args.self.now.journal = rw (← c.self.view_is) c.self.invariant.0.numbers_differ in
    let p = err_from_is_err_and c.from_residual.result c.from_residual.ensures.1 in
    let twice = rw c.as_round-cuts.ensures at c.in_err-check_all.ensures.twice in (
      λ is. (let fault : c.in_err-check_all.field-0.0 ≡ book.Twice = cc in
          one_refused _ _ _ differ (twice.0 (ap Err fault))),
      λ booked. (let fault = twice.1 (inl booked) in cc),
    )
