-- Entries that are compared by what they weigh.
use Rattle.std.proofs.Common.{◌≡◌, ◌≢◌, ℕ, ◌⊎◌, inl, inr, List, Bool, true, false, cond, ◌&&◌, eqb, eqb-true, eq-eqb, refl, sym, ap, ◌∙◌, arith, Contains}
use Rattle.std.proofs.lemmas.Bool.{and_parts, and_from}
use Rattle.kc_lemmas.proofs.Sums.{sum_by-ones, term-le-sum_by}
use Rattle.kc_lemmas.proofs.Permutations.{IsPermutation-from_weights}
use Rattle.kc_lemmas.proofs.Distinct.{Contains-from_times, equal_same}
use Rattle.kc_word.specs.Cutting.{is_same_batch}
use Rattle.kc_word.proofs.Sameness.{is_same_batch-Decides}
use Rattle.kc_share.specs.declared.entry.Entry.{Entry}
use Rattle.kc_share.specs.Entries.{AreAmong}
use Rattle.kc_share.specs.Laws.{AddsUp, SameInSomeOrder, AmongIsThere}
use Rattle.kc_share.specs.Rule.{booked_entries, kept_entries}

same_entry : Entry → Entry → Bool
same_entry entry other = is_same_batch entry.batch other.batch && eqb entry.words other.words

entry_tells : (entry other : Entry) → ((same_entry entry other ≡ true) × (entry ≡ other)) ⊎ ((same_entry entry other ≡ false) × (entry ≢ other))
unfolding same_entry
entry_tells entry other = by (same_entry entry other) refl
  where
    same : same_entry entry other ≡ true → entry ≡ other
    same is =
        let parts = and_parts (is_same_batch entry.batch other.batch) (eqb entry.words other.words) is in
        let batch : entry.batch ≡ other.batch = (is_same_batch-Decides entry.batch other.batch).0 parts.0 in
        let words : entry.words ≡ other.words = eqb-true entry.words other.words parts.1 in
        λ i. record { batch = batch i; words = words i }

    is_same : entry ≡ other → same_entry entry other ≡ true
    is_same e = and_from _ _ ((is_same_batch-Decides entry.batch other.batch).1 (ap (λ x. x.batch) e)) (eq-eqb entry.words other.words (ap (λ x. x.words) e))

    by : (b : Bool) → same_entry entry other ≡ b → ((same_entry entry other ≡ true) × (entry ≡ other)) ⊎ ((same_entry entry other ≡ false) × (entry ≢ other))
    by true is = inl (is, same is)
    by false is = inr (is, λ e. absurd (let never : true ≡ false = sym (is_same e) ∙ is in cc))

pub same_in_some_order : SameInSomeOrder
same_in_some_order entries others same = IsPermutation-from_weights same_entry entry_tells entries others same

stands : (entries others : List Entry) → AreAmong entries others → (entry : Entry) → Contains entries entry → Contains others entry
stands entries others among entry there =
    let here = equal_same same_entry entry_tells entry entry refl in
    let one : cond {A = ℕ} (same_entry entry entry) 1 0 ≡ 1 = ap {B = ℕ} (λ (b : Bool). cond b 1 0) here in
    Contains-from_times same_entry entry_tells entry others (omega (arith, term-le-sum_by (λ other. cond (same_entry other entry) 1 0) entries entry there, one, among (λ other. cond (same_entry other entry) 1 0)))

pub among_is_there : AmongIsThere
among_is_there entries others among = (
  stands entries others among,
  among (λ entry. entry.words),
  omega (arith, sum_by-ones entries, sum_by-ones others, among (λ _. 1)),
)

pub adds_up : AddsUp
adds_up plan views stripe sheet = (
  sheet.balanced stripe (λ entry. entry.words),
  sym (sum_by-ones (booked_entries stripe views)) ∙ sheet.balanced stripe (λ _. 1) ∙ sum_by-ones (kept_entries stripe views),
  λ batch. sheet.balanced stripe (λ entry. cond (is_same_batch entry.batch batch) 1 0),
)
