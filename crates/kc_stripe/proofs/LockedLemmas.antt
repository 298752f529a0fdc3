-- A stripe and its keeper on the sheet of the shares.
use Rattle.std.proofs.Common.{◌≡◌, ℕ, ◌+◌, ◌^◌, ◌<◌, ◌≤◌, List, [], ◌∷◌, ◌++◌, length, map, refl, sym, ap, ◌∙◌, subst, arith, Contains}
use Rattle.std.proofs.lemmas.List.{map-append}
use Rattle.std.proofs.lemmas.List.Sums.{sum_by_push}
use Rattle.kc_lemmas.proofs.Lists.{Contains-map}
use Rattle.kc_lemmas.proofs.Permutations.{length-from_weights}
use Rattle.kc_word.specs.Cutting.{NumberedPieces}
use Rattle.kc_share.specs.declared.entry.Entry.{Entry}
use Rattle.kc_share.specs.declared.entry.Booking.{Booking}
use Rattle.kc_share.specs.declared.entry.KeptStripe.{KeptStripe}
use Rattle.kc_share.specs.Entries.{entries_in, word_total, AreSame, AreAmong}
use Rattle.kc_share.specs.Laws.{AmongIsThere}
use Rattle.kc_share.specs.Share.{with_entry}
use Rattle.kc_booking.specs.Setup.{StripeSetup}
use Rattle.kc_booking.specs.Cut.{StripeCut, keys_of, cut_at}
use Rattle.kc_booking.specs.Stripe.{StripeState, IsOwnCut}
use Rattle.kc_stripe.specs.Locked.{cut_entry, journal_entries, IsOnSheet, IsAllOf}
use Rattle.kc_stripe.specs.Seen.{AreNamed}

pub length-journal_entries : (setup : StripeSetup) (number : ℕ) (journal : List NumberedPieces) → length (journal_entries setup number journal) ≡ length journal
length-journal_entries setup number [] = refl
length-journal_entries setup number (batch ∷ journal) = omega (arith, length-journal_entries setup number journal)

-- the batches of a journal's entries
batches-journal_entries : (setup : StripeSetup) (number : ℕ) (journal : List NumberedPieces) → map (λ entry. entry.batch) (journal_entries setup number journal) ≡ journal
batches-journal_entries setup number [] = refl
batches-journal_entries setup number (batch ∷ journal) = ap (λ (more : List NumberedPieces). batch ∷ more) (batches-journal_entries setup number journal)

module _ {C : Type 0} (old : StripeState C) (it : KeptStripe) (on_sheet : IsOnSheet old it) where
  -- nothing was booked
  pub words_have_room : (words : ℕ) → old.total + words ≤ 2 ^ 62 → word_total it.journal + words < 2 ^ 64
  words_have_room words few = omega (arith, on_sheet.total, few)

  pub entries_have_room : length old.journal + 1 < 2 ^ 64 → length it.journal + 1 < 2 ^ 64
  entries_have_room few = omega (arith, ap length on_sheet.journal, length-journal_entries old.setup old.number old.journal, few)

  -- one more batch
  pub booked_on_sheet : (new : StripeState C) (cut : StripeCut) → IsOwnCut old cut → new.setup ≡ old.setup → new.number ≡ old.number → new.journal ≡ old.journal ++ cut.batch ∷ []
      → new.total ≡ old.total + length (keys_of cut) → new.total ≤ 2 ^ 62 → IsOnSheet new (with_entry it (cut_entry cut))
  booked_on_sheet new cut own setup number journal total few =
      let same : cut ≡ cut_at old.setup cut.batch old.number = λ i. record { setup = own.0 i; stripe = own.1 i; batch = cut.batch } in
      let entry : Entry = cut_entry (cut_at old.setup cut.batch old.number) in
      record {
        number = on_sheet.number ∙ sym number;
        journal = ap (λ (es : List Entry). es ++ cut_entry cut ∷ []) on_sheet.journal ∙ ap (λ c. journal_entries old.setup old.number old.journal ++ cut_entry c ∷ []) same
            ∙ sym (map-append (λ batch. cut_entry (cut_at old.setup batch old.number)) old.journal (cut.batch ∷ []))
            ∙ (λ i. journal_entries (sym setup i) (sym number i) (sym journal i));
        total = omega (arith, sum_by_push (λ (e : Entry). e.words) it.journal (cut_entry cut), on_sheet.total, total);
        total_at_most = few;
      }

  -- what a whole share booked into the stripe is all of it
  pub all_of : (booked : List Booking) → AreSame (entries_in it.stripe booked) it.journal → IsAllOf booked old
  all_of booked same =
      let same' : AreSame (entries_in old.number booked) (journal_entries old.setup old.number old.journal) = subst (λ n. AreSame (entries_in n booked) (journal_entries old.setup old.number old.journal)) on_sheet.number (subst (AreSame (entries_in it.stripe booked)) on_sheet.journal same) in
      record {
        words = same' (λ e. e.words) ∙ sym (ap word_total on_sheet.journal) ∙ on_sheet.total;
        entries = length-from_weights (entries_in old.number booked) (journal_entries old.setup old.number old.journal) same' ∙ length-journal_entries old.setup old.number old.journal;
        batches = same';
      }

  -- what a share booked into the stripe is in its journal
  pub named-from_among : AmongIsThere → (booked : List Booking) → AreAmong (entries_in it.stripe booked) it.journal → AreNamed old.number booked old.journal
  named-from_among law booked among entry booked_here =
      let here : Contains (entries_in it.stripe booked) entry = subst (λ (n : ℕ). Contains (entries_in n booked) entry) (sym on_sheet.number) booked_here in
      let kept : Contains (journal_entries old.setup old.number old.journal) entry = subst (λ (es : List Entry). Contains es entry) on_sheet.journal ((law _ _ among).0 entry here) in
      subst (λ (bs : List NumberedPieces). Contains bs entry.batch) (batches-journal_entries old.setup old.number old.journal)
      (Contains-map (λ (e : Entry). e.batch) (journal_entries old.setup old.number old.journal) entry kept)
