-- When a stripe may refuse batches as full.
use Rattle.std.proofs.Common.{◌≡◌, ◌≢◌, ◌⊎◌, ◌↔◌, inl, inr, ℕ, ◌+◌, ◌^◌, ◌<◌, ◌≤◌, Bool, true, false, eqb, nat_eq, List, [], ◌∷◌, ◌++◌, All, Contains, length, get_or, take, filter, sum_by, refl, sym, ap, ◌∙◌, subst, ⊎_elim, arith}
use Rattle.std.specs.List.{AllByRecursion, IsDistinct}
use Rattle.std.proofs.lemmas.Bool.Decides.{eqb_tells}
use Rattle.std.proofs.lemmas.List.{append-nil, length-map, get_or_default, map_push}
use Rattle.std.proofs.lemmas.List.Concat.{length-flat_map}
use Rattle.std.proofs.lemmas.List.Elements.{All-append, All-nil, All-push}
use Rattle.std.proofs.lemmas.List.Sorted.{Contains-permutation, IsPermutation-refl, IsPermutation-sym}
use Rattle.std.proofs.lemmas.List.Sums.{count_by-le-length, length-filter, sum_by-append}
use Rattle.std.proofs.lemmas.Map.Keys.{IsDistinct-cons, IsDistinct-tail}
use Rattle.kc_lemmas.proofs.Distinct.{head_apart, stands_or_not, IsDistinct-push_new}
use Rattle.kc_lemmas.proofs.Sums.{sum_by-map, sum_by-at_most}
use Rattle.kc_kmer.specs.Occurrences.{words_of}
use Rattle.kc_word.specs.Cutting.{NumberedPieces, as_reads, position_total}
use Rattle.kc_word.proofs.Cuttings.{length-words_of-pieces}
use Rattle.kc_table.specs.Counts.{KeyCounts}
use Rattle.kc_share.specs.declared.entry.Entry.{Entry}
use Rattle.kc_share.specs.declared.entry.KeptStripe.{KeptStripe}
use Rattle.kc_share.specs.Entries.{word_total}
use Rattle.kc_booking.specs.Counted.{all_added, SomeMayBeFull, SomeMayBeFullInSomeOrder}
use Rattle.kc_booking.specs.Cut.{StripeCut, keys_of, cut_at}
use Rattle.kc_booking.specs.Cuts.{RoundCut, cuts_in, all_keys_of, round_at, IsOwnRound, FirstIsBooked, FirstIsNew}
use Rattle.kc_booking.specs.Listed.{is_same_setup}
use Rattle.kc_booking.specs.Setup.{StripeSetup, key_of, stripe_of}
use Rattle.kc_booking.specs.Stripe.{StripeState, NumbersDiffer, IsBooked, IsOwnCut, IsUnchanged, numbers_of, position_sum}
use Rattle.kc_booking.proofs.ListedLemmas.{is_same_setup-Decides}
use Rattle.kc_stripe.specs.Locked.{cut_entry, journal_entries, IsLocked, IsOnSheet}
use Rattle.kc_stripe.specs.Terms.{IsFullOnlyWhere, MayBeTooMany, SomeKeyMayBeFull}

-- ---- the words of several batches

-- a batch has no more words in a stripe than positions
few_words : (setup : StripeSetup) (stripe : ℕ) (batch : NumberedPieces) → length (keys_of (cut_at setup batch stripe)) ≤ position_total setup.rule.k batch.pieces
few_words setup stripe batch =
    let words = words_of setup.rule (as_reads batch.pieces) in
    let here = λ (word : ℕ). eqb (stripe_of setup word) stripe in
    omega (
      arith,
      length-map (filter here words) (key_of setup),
      length-filter here words,
      count_by-le-length here words,
      length-words_of-pieces setup.rule batch.pieces,
    )

-- the words of several batches in a stripe, batch by batch
words_by_batch : (setup : StripeSetup) (stripe : ℕ) (batches : List NumberedPieces)
    → length (all_keys_of (round_at setup batches stripe)) ≡ sum_by (λ batch. length (keys_of (cut_at setup batch stripe))) batches
words_by_batch setup stripe batches =
    length-flat_map keys_of (cuts_in (round_at setup batches stripe))
    ∙ sum_by-map (λ (cut : StripeCut). length (keys_of cut)) (λ (batch : NumberedPieces). cut_at setup batch stripe) batches

module _ {C : Type 0} (old : StripeState C) (it : KeptStripe) (on_sheet : IsOnSheet old it) where
  -- the total of a stripe, batch by batch
  total_by_batch : old.total ≡ sum_by (λ batch. length (keys_of (cut_at old.setup batch old.number))) old.journal
  total_by_batch =
      sym on_sheet.total ∙ ap word_total on_sheet.journal
      ∙ sum_by-map (λ (entry : Entry). entry.words) (λ (batch : NumberedPieces). cut_entry (cut_at old.setup batch old.number)) old.journal

  -- with batches of its own a stripe has no more words than its batches have positions
  words_within : (round : RoundCut) → IsOwnRound old round → old.total + length (all_keys_of round) ≤ position_sum round.setup.rule.k (old.journal ++ round.batches)
  words_within round own =
      let words = λ (batch : NumberedPieces). length (keys_of (cut_at old.setup batch old.number)) in
      let positions = λ (batch : NumberedPieces). position_total old.setup.rule.k batch.pieces in
      let all = old.journal ++ round.batches in
      let same : all_keys_of round ≡ all_keys_of (round_at old.setup round.batches old.number) = λ i. all_keys_of (round_at (own.0 i) round.batches (own.1 i)) in
      omega (
        arith,
        total_by_batch,
        ap length same,
        words_by_batch old.setup old.number round.batches,
        sum_by-append words old.journal round.batches,
        sum_by-at_most words positions all (λ i d within. few_words old.setup old.number (get_or all i d)),
        ap (λ (setup : StripeSetup). position_sum setup.rule.k all) own.0,
      )

-- ---- a refusal as full

-- numbers differ, or they don't
differ_or_not : (numbers : List ℕ) → IsDistinct nat_eq numbers ⊎ ¬ IsDistinct nat_eq numbers
unfolding IsDistinct
differ_or_not [] = inl tt
differ_or_not (n ∷ numbers) = ⊎_elim
    (λ (again : Contains numbers n). inr (λ differ. head_apart nat_eq eqb_tells n numbers differ again))
    (λ (apart : AllByRecursion (λ m. nat_eq n m ≡ false) numbers). ⊎_elim
    (λ (differ : IsDistinct nat_eq numbers). inl (IsDistinct-cons nat_eq n numbers apart differ))
    (λ (same : ¬ IsDistinct nat_eq numbers). inr (λ differ. same (IsDistinct-tail nat_eq n numbers differ)))
    (differ_or_not numbers))
    (stands_or_not nat_eq eqb_tells n numbers)

-- words are divided in the same way for the same stripe, or not
own_or_not : {C : Type 0} (old : StripeState C) (round : RoundCut) → IsOwnRound old round ⊎ ¬ IsOwnRound old round
own_or_not {C} old round = by (is_same_setup round.setup old.setup) refl
  where
    by : (b : Bool) → is_same_setup round.setup old.setup ≡ b → IsOwnRound old round ⊎ ¬ IsOwnRound old round
    by true is = ⊎_elim
        (λ (same : (eqb round.stripe old.number ≡ true) × (round.stripe ≡ old.number)). inl ((is_same_setup-Decides round.setup old.setup).0 is, same.1))
        (λ (other : (eqb round.stripe old.number ≡ false) × (round.stripe ≢ old.number)). inr (λ own. other.1 own.1))
        (eqb_tells round.stripe old.number)
    by false is = inr (λ own. let both : true ≡ false = sym ((is_same_setup-Decides round.setup old.setup).1 own.0) ∙ is in absurd (cc))

-- if there are batches and the first isn't booked, it is new
first_is_new : (journal batches : List NumberedPieces) → batches ≢ [] → ¬ FirstIsBooked journal batches → FirstIsNew journal batches
first_is_new journal [] some new = absurd (some refl)
first_is_new journal (batch ∷ batches) some new = new

-- if one of these keys may be full, in whatever order they are counted, the terms allow it for that key
some_key : {C : Type 0} (allowed : KeyCounts → ℕ → Type 0) (may_be_full : C → KeyCounts → ℕ → Type 0) (table : C) (counts : KeyCounts) (keys : List ℕ)
    → IsFullOnlyWhere allowed (may_be_full table) → SomeMayBeFullInSomeOrder (may_be_full table) counts keys → SomeKeyMayBeFull allowed keys
some_key {C} allowed may_be_full table counts keys limits (order, same, (i, within, full)) =
    let key : ℕ = get_or order i 0 in
    let there : Contains order key = (i, within, get_or_default order i key 0 within) in (
      all_added counts (take i order),
      key,
      Contains-permutation order keys key (IsPermutation-sym keys order same) there,
      limits (all_added counts (take i order)) key full,
    )

module _ {C : Type 0} (may_be_booked : NumberedPieces → Type 0) (allowed : KeyCounts → ℕ → Type 0) (may_be_full : C → KeyCounts → ℕ → Type 0)
    (old : StripeState C) (it : KeptStripe) (locked : IsLocked may_be_booked allowed may_be_full old it) where
  -- the stripe's batches and some of its own that are new to it
  too_many : (round : RoundCut) → All may_be_booked round.batches → IsOwnRound old round → NumbersDiffer (old.journal ++ round.batches)
      → 2 ^ 62 < old.total + length (all_keys_of round) → MayBeTooMany round.setup.rule.k may_be_booked
  too_many round booked own differ large = record {
    batches = old.journal ++ round.batches;
    differ = differ;
    booked = All-append may_be_booked old.journal round.batches locked.journal booked;
    many = omega (arith, large, words_within old it locked.on_sheet round own);
  }

  -- a round that is refused as full, and neither as booked twice nor as a stranger's
  pub full_by_terms : (round : RoundCut) (counts : KeyCounts) → All may_be_booked round.batches → round.batches ≢ []
      → ¬ (FirstIsBooked old.journal round.batches ⊎ (IsOwnRound old round × ¬ NumbersDiffer (old.journal ++ round.batches)))
      → ¬ (FirstIsNew old.journal round.batches × ¬ IsOwnRound old round)
      → (2 ^ 62 < old.total + length (all_keys_of round)) ⊎ SomeMayBeFullInSomeOrder (may_be_full old.table) counts (all_keys_of round)
      → MayBeTooMany round.setup.rule.k may_be_booked ⊎ SomeKeyMayBeFull allowed (all_keys_of round)
  full_by_terms round counts booked some twice stranger (inr full) = inr (some_key allowed may_be_full old.table counts (all_keys_of round) locked.limits full)
  full_by_terms round counts booked some twice stranger (inl large) = ⊎_elim
      (λ (own : IsOwnRound old round). ⊎_elim
      (λ (differ : NumbersDiffer (old.journal ++ round.batches)). inl (too_many round booked own differ large))
      (λ (same : ¬ NumbersDiffer (old.journal ++ round.batches)). absurd (twice (inr (own, same))))
      (differ_or_not (numbers_of (old.journal ++ round.batches))))
      (λ (strange : ¬ IsOwnRound old round). absurd (stranger (first_is_new old.journal round.batches some (λ first. twice (inl first)), strange)))
      (own_or_not old round)

  -- a single batch that is refused as full
  pub cut_full_by_terms : (cut : StripeCut) (counts : KeyCounts) → may_be_booked cut.batch → NumbersDiffer old.journal
      → ¬ IsBooked old.journal cut.batch.number → ¬ ¬ IsOwnCut old cut
      → (2 ^ 62 < old.total + length (keys_of cut)) ⊎ SomeMayBeFull (may_be_full old.table) counts (keys_of cut)
      → MayBeTooMany cut.setup.rule.k may_be_booked ⊎ SomeKeyMayBeFull allowed (keys_of cut)
  cut_full_by_terms cut counts booked differ new own full =
      let round = round_at cut.setup (cut.batch ∷ []) cut.stripe in
      let alone : all_keys_of round ≡ keys_of cut = append-nil (keys_of cut) in
      let differ' : NumbersDiffer (old.journal ++ cut.batch ∷ []) =
      subst (IsDistinct nat_eq) (sym (map_push (λ (batch : NumberedPieces). batch.number) old.journal cut.batch))
      (IsDistinct-push_new nat_eq eqb_tells (numbers_of old.journal) cut.batch.number differ new) in
      let large_or_full : (2 ^ 62 < old.total + length (all_keys_of round)) ⊎ SomeMayBeFullInSomeOrder (may_be_full old.table) counts (all_keys_of round) =
      subst (λ (keys : List ℕ). (2 ^ 62 < old.total + length keys) ⊎ SomeMayBeFullInSomeOrder (may_be_full old.table) counts keys) (sym alone)
      (⊎_elim inl (λ (some : SomeMayBeFull (may_be_full old.table) counts (keys_of cut)). inr (keys_of cut, IsPermutation-refl (keys_of cut), some)) full) in
      subst (λ (keys : List ℕ). MayBeTooMany cut.setup.rule.k may_be_booked ⊎ SomeKeyMayBeFull allowed keys) alone
      (full_by_terms round counts (All-push may_be_booked [] cut.batch (All-nil may_be_booked) booked) (λ none. absurd (cc))
      (λ is. ⊎_elim new (λ both. both.1 differ') is)
      (λ both. own both.1)
      large_or_full)

  -- after a booking, the same holds behind the lock
  pub booked_locked : (new : StripeState C) (after : KeptStripe) (more : List NumberedPieces) → IsOnSheet new after → new.journal ≡ old.journal ++ more
      → All may_be_booked more → ((counts : KeyCounts) (key : ℕ) → may_be_full new.table counts key ↔ may_be_full old.table counts key)
      → IsLocked may_be_booked allowed may_be_full new after
  booked_locked new after more on_sheet journal booked limits = record {
    on_sheet = on_sheet;
    journal = subst (All may_be_booked) (sym journal) (All-append may_be_booked old.journal more locked.journal booked);
    limits = λ counts key full. locked.limits counts key ((limits counts key).0 full);
  }

  -- and after a refusal
  pub unchanged_locked : (counts : C → KeyCounts) (new : StripeState C) → new.setup ≡ old.setup → new.number ≡ old.number → IsUnchanged counts old new
      → ((m : KeyCounts) (key : ℕ) → may_be_full new.table m key ↔ may_be_full old.table m key) → IsLocked may_be_booked allowed may_be_full new it
  unchanged_locked counts new setup number same limits =
      let sheet = locked.on_sheet in
      record {
        on_sheet = record {
          number = sheet.number ∙ sym number;
          journal = sheet.journal ∙ (λ i. journal_entries (sym setup i) (sym number i) (sym same.same_journal i));
          total = sheet.total ∙ sym same.same_total;
          total_at_most = omega (arith, same.same_total, sheet.total_at_most);
        };
        journal = subst (All may_be_booked) (sym same.same_journal) locked.journal;
        limits = λ m key full. locked.limits m key ((limits m key).0 full);
      }
