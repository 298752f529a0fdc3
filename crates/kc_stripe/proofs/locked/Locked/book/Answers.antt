use Rattle.std.proofs.Common.{◌≡◌, ◌↔◌, [], Err, sym, subst, rules}
use Rattle.std.proofs.lemmas.List.Elements.{All-push, All-nil}
use Rattle.std.proofs.lemmas.Result.{err_from_is_err_and}
use Rattle.kc_share.specs.Share.{with_entry}
use Rattle.kc_booking.specs.declared.booking_fault.BookFault.TheVariants as book
use Rattle.kc_booking.specs.Stripe.{StripeState, IsBooked, IsOwnCut}
use Rattle.kc_stripe.specs.Locked.{cut_entry, IsOnSheet}
use Rattle.kc_stripe.proofs.LockedLemmas.{booked_on_sheet}
use Rattle.kc_stripe.proofs.TermsLemmas.{booked_locked, cut_full_by_terms, unchanged_locked}
use Rattle.kc_stripe.proofs.locked.Locked.book.Goals as goal

pub returns-in_err-book-clause-twice : goal.returns-in_err-book-clause-twice
returns-in_err-book-clause-twice g c =
    let p = err_from_is_err_and c.from_residual.result c.from_residual.ensures.1 in
    let booked = subst (λ (s : StripeState g.row.C.Denot). Err c.in_err-book.field-0.0 ≡ Err book.Twice ↔ IsBooked s.journal c.args.cut.now.batch.number) c.self.view_is c.in_err-book.ensures.twice in
    (λ is. booked.0 cc, λ stands. let was = booked.1 stands in cc)

pub returns-in_err-book-clause-stranger : goal.returns-in_err-book-clause-stranger
returns-in_err-book-clause-stranger g c =
    let p = err_from_is_err_and c.from_residual.result c.from_residual.ensures.1 in
    let strange = subst (λ (s : StripeState g.row.C.Denot). Err c.in_err-book.field-0.0 ≡ Err book.Stranger ↔ (¬ IsBooked s.journal c.args.cut.now.batch.number × ¬ IsOwnCut s c.args.cut.now)) c.self.view_is c.in_err-book.ensures.stranger in
    (λ is. strange.0 cc, λ both. let was = strange.1 both in cc)

pub returns-clause-twice : goal.returns-clause-twice
returns-clause-twice g c =
    (λ never. absurd (cc never), λ stands. c.in_ok-book.ensures.twice.1 (subst (λ (s : StripeState g.row.C.Denot). IsBooked s.journal c.args.cut.now.batch.number) (sym c.self.view_is) stands))

pub returns-in_err-book-clause-terms : goal.returns-in_err-book-clause-terms
returns-in_err-book-clause-terms g c is =
    let p = err_from_is_err_and c.from_residual.result c.from_residual.ensures.1 in
    let refused = c.in_err-book.ensures in
    let new : ¬ IsBooked c.self.inside.stripe.journal c.args.cut.now.batch.number = λ stands. let was = refused.twice.1 stands in absurd (cc) in
    cut_full_by_terms g.N.Terms.may_be_booked g.N.Terms.may_be_full g.C.Counts.may_be_full c.self.inside.stripe c.self.inside.keeper c.self.invariant
    c.args.cut.now (g.C.Counts.counts c.self.inside.stripe.table) c.requires.allowed c.is_lawful.ensures.numbers_differ new
    (λ strange. let was = refused.stranger.1 (new, strange) in absurd (cc))
    (refused.full cc)

pub invariant_of-self : goal.invariant_of-self
invariant_of-self g c =
    let refused = c.in_err-book.ensures in
    unchanged_locked g.N.Terms.may_be_booked g.N.Terms.may_be_full g.C.Counts.may_be_full c.self.inside.stripe c.self.inside.keeper c.self.invariant
    g.C.Counts.counts c.book.new.self refused.setup refused.number refused.unchanged refused.limits.same_limits

pub invariant_of-self-2 : goal.invariant_of-self-2
invariant_of-self-2 g c =
    let made = c.in_ok-book.ensures in
    let keeper : c.note.new.keeper ≡ with_entry c.self.inside.keeper (cut_entry c.args.cut.now) = search rules in
    let on_sheet : IsOnSheet c.book.new.self c.note.new.keeper =
    subst (IsOnSheet c.book.new.self) (sym keeper)
    (booked_on_sheet c.self.inside.stripe c.self.inside.keeper c.self.invariant.on_sheet c.book.new.self c.args.cut.now
    made.own made.setup made.number made.journal made.total made.small.0) in
    booked_locked g.N.Terms.may_be_booked g.N.Terms.may_be_full g.C.Counts.may_be_full c.self.inside.stripe c.self.inside.keeper c.self.invariant
    c.book.new.self c.note.new.keeper _ on_sheet made.journal
    (All-push g.N.Terms.may_be_booked [] c.args.cut.now.batch (All-nil g.N.Terms.may_be_booked) c.requires.allowed) made.limits.same_limits
