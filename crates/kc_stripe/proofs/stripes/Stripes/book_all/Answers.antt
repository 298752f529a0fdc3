use Rattle.kc_booking.specs.Cuts.{cuts_in}
use Rattle.kc_stripe.proofs.CutsLemmas.{kept_by_booking}
use Rattle.kc_stripe.proofs.stripes.Stripes.book_all.Goals as goal

pub returns-clause-kept : goal.returns-clause-kept
returns-clause-kept g c =
    kept_by_booking c.book_all.result c.args.share.now c.book_all.new.share (cuts_in c.args.cuts.now) c.book_all.ensures.share c.book_all.ensures.refused
