use Rattle.std.proofs.Common.{◌≡◌, ◌∙◌, ◌+◌, ◌^◌, ◌<◌, ◌≤◌, ℕ, length, length-append, ap, get_or, subst, sym, take, arith}
use Rattle.std.proofs.lemmas.List.{length-map, take_all}
use Rattle.std.proofs.lemmas.Result.{err_from_is_err_and}
use Rattle.std.specs.declared.sync.Arc.{Arc}
use Rattle.std.specs.declared.alloc.Global.{Global}
use Rattle.kc_word.specs.Cutting.{NumberedPieces}
use Rattle.kc_word.specs.declared.batch.Batch.{Batch}
use Rattle.kc_share.specs.declared.entry.KeptStripe.{KeptStripe}
use Rattle.kc_share.specs.Entries.{entry_of, word_total}
use Rattle.kc_share.specs.Share.{with_booking, with_entry}
use Rattle.kc_booking.specs.Cut.{StripeCut, cut_at}
use Rattle.kc_booking.specs.Cuts.{cuts_in, all_keys_of}
use Rattle.kc_stripe.specs.Locked.{cut_entry, with_bookings, with_entries, IsOnSheet}
use Rattle.kc_stripe.proofs.CutsLemmas.{IsNoted, noted_at, cut_of, cut_is, cut_within, cuts-more, entry_is, noted_has_room, one_more_has_room, cuts_are_kept, all_on_sheet, with_bookings-push, with_entries-push}
use Rattle.kc_stripe.proofs.TermsLemmas.{booked_locked, full_by_terms, unchanged_locked}
use Rattle.kc_stripe.proofs.locked.Locked.book_all.Goals as goal

-- at this turn a batch of the round is noted, with how many words it has in the stripe
noted : (g : _) (c : goal.After-shared_slice_known-1 g) → IsNoted c.args.cuts.now c.loop-i.i c.index-batches-i.result.value (get_or c.sizes.result.now c.loop-i.i 0)
noted g c =
    let value = λ (b : Arc Batch Global). b.value in
    noted_at c.batches.result.now c.batches.ensures
    (omega (arith, c.loop-i-test.true, ap length c.batches.ensures, ap length c.batches-i-end.ensures, length-map c.batches.result.now value, length-map c.batches-i-end.result.now value))
    c.index-batches-i.is (ap (λ sizes. get_or sizes c.loop-i.i 0) c.sizes.ensures)

pub note-requires-clause-words : goal.note-requires-clause-words
note-requires-clause-words g c =
    let room : word_total c.self.inside.keeper.journal + length (all_keys_of c.args.cuts.now) < 2 ^ 64 =
    omega (arith, c.self.invariant.on_sheet.total, c.in_ok-book_all.ensures.total, c.in_ok-book_all.ensures.small.0) in
    omega (arith, noted_has_room (noted g c) c.self.inside.keeper room, ap (λ (it : KeptStripe). word_total it.journal) c.loop-i.invariant.keeper)

pub note-requires-clause-entries : goal.note-requires-clause-entries
note-requires-clause-entries g c =
    let room : length c.self.inside.keeper.journal + length c.args.cuts.now.batches < 2 ^ 64 =
    omega (
      arith,
      ap length c.self.invariant.on_sheet.journal,
      length-map c.self.inside.stripe.journal (λ (batch : NumberedPieces). cut_entry (cut_at c.self.inside.stripe.setup batch c.self.inside.stripe.number)),
      ap length c.in_ok-book_all.ensures.journal,
      length-append c.self.inside.stripe.journal c.args.cuts.now.batches,
      c.in_ok-book_all.ensures.small.1,
    ) in
    omega (arith, one_more_has_room (noted g c) c.self.inside.keeper room, ap (λ (it : KeptStripe). length it.journal) c.loop-i.invariant.keeper)

pub loop-i-preserved : goal.loop-i-preserved
loop-i-preserved g c =
    let words : ℕ = get_or c.sizes.result.now c.loop-i.i 0 in
    let noted = noted g c.before in
    let front = take c.loop-i.i (cuts_in c.args.cuts.now) in
    let cut : StripeCut = cut_of noted in
    let entry : entry_of c.deref.result.now words ≡ cut_entry cut = ap (λ (b : NumberedPieces). entry_of b words) c.deref.ensures ∙ entry_is noted in
    let kept = cuts_are_kept c.self.inside.stripe c.self.inside.keeper c.self.invariant.on_sheet c.args.cuts.now c.in_ok-book_all.ensures.own in
    let stripe : c.loop-i.keeper.stripe ≡ cut.stripe =
    ap (λ (it : KeptStripe). it.stripe) c.loop-i.invariant.keeper
    ∙ sym (kept c.loop-i.i cut (cut_within noted)) ∙ ap (λ (cut : StripeCut). cut.stripe) (cut_is noted) in
    let share : with_booking c.loop-i.share c.loop-i.keeper.stripe (entry_of c.deref.result.now words) ≡ with_booking (with_bookings c.args.share.now front) cut.stripe (cut_entry cut) =
    λ j. with_booking (c.loop-i.invariant.share j) (stripe j) (entry j) in
    let keeper : with_entry c.loop-i.keeper (entry_of c.deref.result.now words) ≡ with_entry (with_entries c.self.inside.keeper front) (cut_entry cut) =
    λ j. with_entry (c.loop-i.invariant.keeper j) (entry j) in
    record {
      share = c.note.ensures.share ∙ share ∙ sym (ap (with_bookings c.args.share.now) (cuts-more noted) ∙ with_bookings-push c.args.share.now front cut);
      keeper = c.note.ensures.keeper ∙ keeper ∙ sym (ap (with_entries c.self.inside.keeper) (cuts-more noted) ∙ with_entries-push c.self.inside.keeper front cut);
    }

pub invariant_of-self-2 : goal.invariant_of-self-2
invariant_of-self-2 g c =
    let value = λ (b : Arc Batch Global). b.value in
    let cuts = cuts_in c.args.cuts.now in
    let many : length cuts ≤ c.loop-i.i =
    omega (
      arith,
      c.loop-i-test.false,
      length-map c.args.cuts.now.batches (λ (batch : NumberedPieces). cut_at c.args.cuts.now.setup batch c.args.cuts.now.stripe),
      ap length c.batches-i-end.ensures,
      length-map c.batches-i-end.result.now value,
    ) in
    let made = c.in_ok-book_all.ensures in
    let on_sheet : IsOnSheet c.book_all.new.self c.loop-i.keeper =
    subst (IsOnSheet c.book_all.new.self) (sym (c.loop-i.invariant.keeper ∙ ap (with_entries c.self.inside.keeper) (take_all c.loop-i.i cuts many)))
    (all_on_sheet c.self.inside.stripe c.self.inside.keeper c.self.invariant.on_sheet c.args.cuts.now c.book_all.new.self (record {
      own = made.own;
      same_setup = made.setup;
      same_number = made.number;
      journal = made.journal;
      total = made.total;
      at_most = made.small.0;
    })) in
    booked_locked g.N.Terms.may_be_booked g.N.Terms.may_be_full g.C.Counts.may_be_full c.self.inside.stripe c.self.inside.keeper c.self.invariant
    c.book_all.new.self c.loop-i.keeper c.args.cuts.now.batches on_sheet made.journal c.requires.allowed made.limits.same_limits

pub invariant_of-self : goal.invariant_of-self
invariant_of-self g c =
    let refused = c.in_err-book_all.ensures in
    unchanged_locked g.N.Terms.may_be_booked g.N.Terms.may_be_full g.C.Counts.may_be_full c.self.inside.stripe c.self.inside.keeper c.self.invariant
    g.C.Counts.counts c.book_all.new.self refused.setup refused.number refused.unchanged refused.limits.same_limits

pub returns-in_err-book_all-clause-terms : goal.returns-in_err-book_all-clause-terms
returns-in_err-book_all-clause-terms g c is =
    let p = err_from_is_err_and c.from_residual.result c.from_residual.ensures.1 in
    let refused = c.in_err-book_all.ensures in
    full_by_terms g.N.Terms.may_be_booked g.N.Terms.may_be_full g.C.Counts.may_be_full c.self.inside.stripe c.self.inside.keeper c.self.invariant
    c.args.cuts.now (g.C.Counts.counts c.self.inside.stripe.table) c.requires.allowed (λ none. let never = refused.empty none in absurd (cc))
    (λ again. let was = refused.twice.1 again in absurd (cc))
    (λ strange. let was = refused.stranger.1 strange in absurd (cc))
    (refused.full cc)
