-- Worked rows of the rule. A sheet has two stripes and two parts. One share booked batch 0 with 3 words into stripe 0,
-- the other booked batch 1 with 5 words into it, and was first. So the journal of stripe 0 has both, and that of stripe
-- 1 is empty.
use Rattle.std.proofs.Common.{◌≡◌, ℕ, zero, suc, ◌^◌, ◌<◌, ◌≤◌, List, [], ◌∷◌, length, cond, ne_eqb, refl, sym, subst, arith, sum_by}
use mathlib.Core.Option.{some, some-ne-none, some-injective}
use lib.ListN.{get_elem?}
use Rattle.kc_word.specs.Cutting.{is_same_batch}
use Rattle.kc_share.specs.declared.entry.Entry.{Entry}
use Rattle.kc_share.specs.declared.entry.Plan.{Plan}
use Rattle.kc_share.specs.declared.entry.View.{View}
use Rattle.kc_share.specs.Entries.{entry_of, booking_of, entries_in, word_total}
use Rattle.kc_share.specs.Share.{kept_stripe, share_of, word_total_in, entry_total_in}
use Rattle.kc_share.specs.Sheet.{plan_of}
use Rattle.kc_share.specs.Rule.{journal_for, booked_entries, kept_entries, keeper_count, IsViewOf, IsSheet, share_view, keeper_view}

plan : Plan
plan = plan_of 2 2

-- batch 0 with 3 words
three : Entry
three = entry_of (record { number = 0; pieces = (65 ∷ 65 ∷ 65 ∷ 65 ∷ 65 ∷ []) ∷ [] }) 3

-- batch 1 with 5 words, and another batch of its number
five : Entry
five = entry_of (record { number = 1; pieces = (67 ∷ 67 ∷ 67 ∷ 67 ∷ 67 ∷ 67 ∷ 67 ∷ []) ∷ [] }) 5

another : Entry
another = entry_of (record { number = 1; pieces = (71 ∷ 71 ∷ 71 ∷ 71 ∷ 71 ∷ 71 ∷ 71 ∷ []) ∷ [] }) 5

views : List Entry → List View
views journal =
    share_view (share_of plan 1 (booking_of 0 three ∷ []))
    ∷ share_view (share_of plan 1 (booking_of 0 five ∷ []))
    ∷ keeper_view (kept_stripe 0 journal)
    ∷ keeper_view (kept_stripe 1 [])
    ∷ []

both_are_kept : IsSheet plan (views (five ∷ three ∷ []))
unfolding plan three five views entries_in journal_for booked_entries kept_entries keeper_count
both_are_kept = record {
  shared_out = refl;
  balanced = balanced;
  one_keeper = one_keeper;
  words_fit = words_fit;
  entries_fit = entries_fit;
  fits = fits;
}
  where
    balanced : (stripe : ℕ) (h : Entry → ℕ) → sum_by h (booked_entries stripe (views (five ∷ three ∷ []))) ≡ sum_by h (kept_entries stripe (views (five ∷ three ∷ [])))
    balanced zero h = omega arith
    balanced (suc zero) h = refl
    balanced (suc (suc n)) h = rw (ne_eqb 0 (suc (suc n)) (λ e. omega arith), ne_eqb 1 (suc (suc n)) (λ e. omega arith)) refl

    one_keeper : (stripe : ℕ) → keeper_count stripe (views (five ∷ three ∷ [])) ≤ 1
    one_keeper zero = omega arith
    one_keeper (suc zero) = omega arith
    one_keeper (suc (suc n)) = rw (ne_eqb 0 (suc (suc n)) (λ e. omega arith), ne_eqb 1 (suc (suc n)) (λ e. omega arith)) (omega arith)

    words_fit : (stripe : ℕ) → word_total (booked_entries stripe (views (five ∷ three ∷ []))) < 2 ^ 64
    words_fit zero = omega arith
    words_fit (suc n) = rw (ne_eqb 0 (suc n) (λ e. omega arith)) (omega arith)

    entries_fit : (stripe : ℕ) → length (booked_entries stripe (views (five ∷ three ∷ []))) < 2 ^ 64
    entries_fit zero = omega arith
    entries_fit (suc n) = rw (ne_eqb 0 (suc n) (λ e. omega arith)) (omega arith)

    fits : (k : ℕ) (view : View) → get_elem? (views (five ∷ three ∷ [])) k ≡ some view → IsViewOf plan view
    fits zero view at = subst (IsViewOf plan) (some-injective _ _ at) (record { has_plan = λ _. refl; idle = λ light. absurd (omega arith) })
    fits (suc zero) view at = subst (IsViewOf plan) (some-injective _ _ at) (record { has_plan = λ _. refl; idle = λ light. absurd (omega arith) })
    fits (suc (suc zero)) view at = subst (IsViewOf plan) (some-injective _ _ at) (record { has_plan = λ heavy. absurd (omega arith); idle = λ _. refl })
    fits (suc (suc (suc zero))) view at = subst (IsViewOf plan) (some-injective _ _ at) (record { has_plan = λ heavy. absurd (omega arith); idle = λ _. refl })
    fits (suc (suc (suc (suc k)))) view at = absurd (some-ne-none view (sym at))

-- a journal that lacks one, that has one twice, or that has another batch under the number, is of no such sheet
one_is_lost : ¬ IsSheet plan (views (three ∷ []))
unfolding plan three five views entries_in journal_for booked_entries kept_entries
one_is_lost sheet = let counts : ◌≡◌ {A = ℕ} 2 1 = sheet.balanced 0 (λ _. 1) in absurd (omega arith)

one_is_doubled : ¬ IsSheet plan (views (five ∷ three ∷ five ∷ []))
unfolding plan three five views entries_in journal_for booked_entries kept_entries
one_is_doubled sheet = let counts : ◌≡◌ {A = ℕ} 2 3 = sheet.balanced 0 (λ _. 1) in absurd (omega arith)

one_is_another : ¬ IsSheet plan (views (three ∷ another ∷ []))
unfolding plan three five another views entries_in journal_for booked_entries kept_entries
one_is_another sheet = let counts : ◌≡◌ {A = ℕ} 1 0 = sheet.balanced 0 (λ entry. cond (is_same_batch entry.batch five.batch) 1 0) in absurd (omega arith)

-- the numbers of the second share
its_words : word_total_in 0 (booking_of 0 five ∷ booking_of 1 three ∷ []) ≡ 5
unfolding five three entries_in
its_words = refl

its_entries : entry_total_in 1 (booking_of 0 five ∷ booking_of 1 three ∷ booking_of 1 five ∷ []) ≡ 2
unfolding five three entries_in
its_entries = refl
