-- Consequences of sound tags: where a key is, when there is none, and that a tag put at a free place keeps them sound.
use Rattle.std.proofs.Common.{◌≡◌, ◌≢◌, ◌∙◌, ℕ, ◌+◌, ◌-◌, ◌*◌, ◌/◌, ◌%◌, ◌^◌, ◌<◌, ◌≤◌, sym, ap, subst, arith, inl, inr}
use Rattle.std.proofs.Common.{mod-lt, pow-add, pow_mono}
use Rattle.std.proofs.lemmas.Bool.{cases_eq, cases_lt}
use Rattle.std.proofs.lemmas.Nat.{shr_below, pow_pos, mul-add-lt, div-add-mod'}
use Rattle.kc_table.specs.Reprobing.{triangle, place, IsPlaceOf, reprobe_of, tag_of, IsTaken, IsFound, IsFree, IsOut}
use Rattle.kc_table.specs.Slot.{key_in, IsSound}
use Rattle.kc_table.proofs.Places.{place-lt, place-key_in, key_in-tag_of, tag_of-key_in, reprobe_of-tag_of, tag_of-mod}
use Rattle.kc_table.proofs.Places.{tag_of-div}

module _ {bits log : ℕ} {tag : ℕ → ℕ} (sound : IsSound bits log tag) where
  pub reprobe_small : (s : ℕ) → tag s ≢ 0 → reprobe_of (tag s) < 63
  reprobe_small s some =
      let low : tag s % 64 < 64 = mod-lt (tag s) (omega arith) in
      let probed : 1 ≤ tag s % 64 = sound.probed s some in omega arith

  -- a slot is its key's place
  pub at_place : (s : ℕ) → tag s ≢ 0 → s ≡ place (key_in log s (tag s)) (reprobe_of (tag s)) log
  at_place s some = sym (place-key_in log s (tag s) (sound.inside s some))

  pub has_tag : (s : ℕ) → tag s ≢ 0 → tag s ≡ tag_of log (key_in log s (tag s)) (reprobe_of (tag s))
  has_tag s some = sym (tag_of-key_in log s (tag s) (sound.probed s some))

  -- the key of a slot has a place there
  pub stands : (s : ℕ) → tag s ≢ 0 → IsPlaceOf log (key_in log s (tag s)) s
  stands s some = (reprobe_of (tag s), reprobe_small s some, at_place s some)

  -- A slot that has the key is a place before which not all are taken by others.
  pub not_before : (key i s : ℕ) → ((j : ℕ) → j < i → IsTaken log tag key j) → tag s ≢ 0 → key_in log s (tag s) ≡ key
      → i ≤ reprobe_of (tag s)
  not_before key i s before some is =
      elim (cases_lt (reprobe_of (tag s)) i) [
        | inl under ↦
            let here : s ≡ place key (reprobe_of (tag s)) log =
            at_place s some ∙ ap (λ k. place k (reprobe_of (tag s)) log) is in
            let tagged : tag s ≡ tag_of log key (reprobe_of (tag s)) =
            has_tag s some ∙ ap (λ k. tag_of log k (reprobe_of (tag s))) is in
            absurd ((before (reprobe_of (tag s)) under).other (sym (ap tag here) ∙ tagged))
        | inr past ↦ past
      ]

  -- if the walk came to a free place, the key is nowhere
  pub absent_by_free : (key slot new : ℕ) → IsFree log tag key slot new → (s : ℕ) → tag s ≢ 0
      → key_in log s (tag s) ≡ key → ⊥
  absent_by_free key slot new free s some is =
      let i = reprobe_of (tag s) in
      let past : free.reprobe ≤ i = not_before key free.reprobe s free.before some is in
      let here : s ≡ place key i log = at_place s some ∙ ap (λ k. place k i log) is in
      elim (cases_eq free.reprobe i) [
        | inl same ↦ some (ap tag (here ∙ ap (λ n. place key n log) (sym same) ∙ sym free.here) ∙ free.empty)
        | inr apart ↦
            let under : free.reprobe < i = omega arith in
            sound.reached s free.reprobe some under
            (ap (λ k. tag (place k free.reprobe log)) is ∙ ap tag (sym free.here) ∙ free.empty)
      ]

  pub absent_by_out : (key : ℕ) → IsOut log tag key → (s : ℕ) → tag s ≢ 0 → key_in log s (tag s) ≡ key → ⊥
  absent_by_out key out s some is =
      let past : 63 ≤ reprobe_of (tag s) = not_before key 63 s out some is in
      let small : reprobe_of (tag s) < 63 = reprobe_small s some in omega arith

  -- a found slot has the key
  pub found_some : (key slot : ℕ) → IsFound log tag key slot → tag slot ≢ 0
  found_some key slot found none = let is : tag_of log key found.reprobe ≡ 0 = sym found.is ∙ none in omega arith

  pub found_key : (key slot : ℕ) → IsFound log tag key slot → key_in log slot (tag slot) ≡ key
  found_key key slot found =
      ap (key_in log slot) found.is ∙ ap (λ s. key_in log s (tag_of log key found.reprobe)) found.here
      ∙ key_in-tag_of key found.reprobe log found.small

  -- if there is a slot for each possible key, no home is taken by another key
  pub home_not_taken : (key : ℕ) → key < 2 ^ bits → log ≡ bits → IsTaken log tag key 0 → ⊥
  home_not_taken key below full taken =
      let s = place key 0 log in
      let probed : 1 ≤ tag s % 64 = sound.probed s taken.some in
      let home : reprobe_of (tag s) ≡ 0 = sound.at_home full s taken.some in
      let none : bits - log ≡ 0 = omega arith in
      let short : tag s / 64 < 2 ^ 0 = subst (λ n. tag s / 64 < 2 ^ n) none (sound.short s taken.some) in
      let low : key / 2 ^ log < 2 ^ 0 = shr_below key 0 log (subst (λ n. key < 2 ^ n) (sym full ∙ omega arith) below) in
      taken.other (omega (arith, div-add-mod' (tag s) 64))

  pub log_below_by_out : (key : ℕ) → key < 2 ^ bits → IsOut log tag key → log < bits
  log_below_by_out key below out =
      elim (cases_eq log bits) [
        | inl full ↦ absurd (home_not_taken key below full (out 0 (omega arith)))
        | inr apart ↦ let wide : log ≤ bits = sound.no_wider in omega arith
      ]

  pub key_in-lt : (s : ℕ) → tag s ≢ 0 → key_in log s (tag s) < 2 ^ bits
  key_in-lt s some =
      let wide : log ≤ bits = sound.no_wider in
      let split : log + (bits - log) ≡ bits = omega arith in
      subst (λ n. key_in log s (tag s) < n) (sym (pow-add 2 log (bits - log)) ∙ ap (λ n. 2 ^ n) split)
      (mul-add-lt (tag s / 64) (2 ^ log) ((s + (2 ^ log - 1) * triangle (reprobe_of (tag s))) % 2 ^ log)
      (2 ^ (bits - log)) (sound.short s some) (mod-lt _ (pow_pos log)))

-- the tags after one is put at a free place
module _ {bits log : ℕ} {tag : ℕ → ℕ} (sound : IsSound bits log tag) (key slot new : ℕ) (below : key < 2 ^ bits)
    (free : IsFree log tag key slot new) (after : ℕ → ℕ) (here : after slot ≡ new)
    (others : (s : ℕ) → s ≢ slot → after s ≡ tag s) where
  new_some : after slot ≢ 0
  new_some none = let is : tag_of log key free.reprobe ≡ 0 = sym free.is ∙ sym here ∙ none in omega arith

  keeps : (s : ℕ) → tag s ≢ 0 → after s ≢ 0
  keeps s some =
      elim (cases_eq s slot) [
        | inl same ↦ absurd (some (ap tag same ∙ free.empty))
        | inr apart ↦ λ none. some (sym (others s apart) ∙ none)
      ]

  here_tag : after slot ≡ tag_of log key free.reprobe
  here_tag = here ∙ free.is

  here_key : key_in log slot (after slot) ≡ key
  here_key =
      ap (key_in log slot) here_tag ∙ ap (λ s. key_in log s (tag_of log key free.reprobe)) free.here
      ∙ key_in-tag_of key free.reprobe log free.small

  here_reprobe : reprobe_of (after slot) ≡ free.reprobe
  here_reprobe = ap reprobe_of here_tag ∙ reprobe_of-tag_of log key free.reprobe free.small

  old_some : (s : ℕ) → s ≢ slot → after s ≢ 0 → tag s ≢ 0
  old_some s apart some none = some (others s apart ∙ none)

  -- a fact of each tag, by whether it is the new one
  by_slot : (P : ℕ → ℕ → Type 0) → P slot (after slot) → ((s : ℕ) → s ≢ slot → tag s ≢ 0 → P s (tag s)) → (s : ℕ)
      → after s ≢ 0 → P s (after s)
  by_slot P at_slot elsewhere s some =
      elim (cases_eq s slot) [
        | inl same ↦ subst (λ x. P x (after x)) (sym same) at_slot
        | inr apart ↦ subst (P s) (sym (others s apart)) (elsewhere s apart (old_some s apart some))
      ]

  not_elsewhere : (s : ℕ) → s ≢ slot → after s ≢ 0 → key_in log s (after s) ≡ key → ⊥
  not_elsewhere s apart some is =
      absent_by_free sound key slot new free s (old_some s apart some) (ap (key_in log s) (sym (others s apart)) ∙ is)

  pub sound_put : IsSound bits log after
  sound_put = record {
    few_bits = sound.few_bits;
    few_slots = sound.few_slots;
    no_wider = sound.no_wider;
    remainder_fits = sound.remainder_fits;
    inside =
        by_slot (λ s t. s < 2 ^ log) (subst (λ s. s < 2 ^ log) (sym free.here) (place-lt key free.reprobe log))
        (λ s apart some. sound.inside s some);
    probed =
        by_slot (λ s t. 1 ≤ t % 64)
        (subst (λ t. 1 ≤ t) (sym (ap (λ t. t % 64) here_tag ∙ tag_of-mod log key free.reprobe free.small))
        (omega arith)) (λ s apart some. sound.probed s some);
    short = by_slot (λ s t. t / 64 < 2 ^ (bits - log))
        (let wide : log ≤ bits = sound.no_wider in
        let split : bits ≡ bits - log + log = omega arith in
        subst (λ t. t < 2 ^ (bits - log)) (sym (ap (λ t. t / 64) here_tag ∙ tag_of-div log key free.reprobe free.small))
        (shr_below key (bits - log) log (subst (λ n. key < 2 ^ n) split below)))
        (λ s apart some. sound.short s some);
    reached = λ s j some. by_slot (λ s t. j < reprobe_of t → after (place (key_in log s t) j log) ≢ 0)
        (λ under. subst (λ k. after (place k j log) ≢ 0) (sym here_key)
        (keeps (place key j log) (free.before j (subst (λ n. j < n) here_reprobe under)).some))
        (λ s apart old under. keeps (place (key_in log s (tag s)) j log) (sound.reached s j old under)) s some;
    first = λ s j some. by_slot (λ s t. j < reprobe_of t → place (key_in log s t) j log ≢ s)
        (λ under same.
        let before = free.before j (subst (λ n. j < n) here_reprobe under) in
        before.some (ap tag (ap (λ k. place k j log) (sym here_key) ∙ same) ∙ free.empty))
        (λ s apart old. sound.first s j old) s some;
    apart = λ s t some_s some_t same. elim (cases_eq s slot) [
      | inl at_s ↦ elim (cases_eq t slot) [
        | inl at_t ↦ at_s ∙ sym at_t
        | inr off_t ↦ absurd (not_elsewhere t off_t some_t
            (sym same ∙ ap (λ x. key_in log x (after x)) at_s ∙ here_key))
      ]
      | inr off_s ↦ elim (cases_eq t slot) [
        | inl at_t ↦ absurd (not_elsewhere s off_s some_s (same ∙ ap (λ x. key_in log x (after x)) at_t ∙ here_key))
        | inr off_t ↦ sound.apart s t (old_some s off_s some_s) (old_some t off_t some_t)
            (sym (ap (key_in log s) (others s off_s)) ∙ same ∙ ap (key_in log t) (others t off_t))
      ]
    ];
    at_home = λ full. by_slot (λ s t. reprobe_of t ≡ 0)
        (elim (cases_eq free.reprobe 0) [
          | inl none ↦ here_reprobe ∙ none
          | inr some ↦ absurd (home_not_taken sound key below full (free.before 0 (omega arith)))
        ])
        (λ s apart some. sound.at_home full s some);
  }

-- tags that agree are sound alike
pub sound_same : {bits log : ℕ} {tag : ℕ → ℕ} → IsSound bits log tag → (after : ℕ → ℕ) → ((s : ℕ) → after s ≡ tag s)
    → IsSound bits log after
sound_same {bits} {log} sound after same = subst (λ (t : ℕ → ℕ). IsSound bits log t) (λ i s. sym (same s) i) sound

-- a remainder takes at most 58 bits
pub remainder-lt : {bits log : ℕ} {tag : ℕ → ℕ} → IsSound bits log tag → (key : ℕ) → key < 2 ^ bits
    → key / 2 ^ log < 2 ^ 58
remainder-lt {bits} {log} sound key below =
    let few : bits ≤ log + 58 = sound.remainder_fits in
    let wide : bits ≤ 58 + log = omega arith in
    let room : 2 ^ bits ≤ 2 ^ (58 + log) = pow_mono wide in
    shr_below key 58 log (omega arith)

-- a tag has no more bits than the number of reprobes and what the slot leaves of a key
pub tag_fits : {bits log : ℕ} {tag : ℕ → ℕ} → IsSound bits log tag → (tag_bits key i : ℕ) → bits + 6 ≡ log + tag_bits
    → key < 2 ^ bits → i < 63 → tag_of log key i < 2 ^ tag_bits
tag_fits {bits} {log} sound tag_bits key i shared below small =
    let wide : log ≤ bits = sound.no_wider in
    let split : bits ≡ bits - log + log = omega arith in
    let remainder : key / 2 ^ log < 2 ^ (bits - log) =
    shr_below key (bits - log) log (subst (λ b. key < 2 ^ b) split below) in
    let narrow : tag_of log key i < 2 ^ 6 * 2 ^ (bits - log) =
    mul-add-lt (key / 2 ^ log) 64 (i + 1) (2 ^ (bits - log)) remainder (omega arith) in
    let all : 6 + (bits - log) ≡ tag_bits = omega arith in
    subst (λ m. tag_of log key i < m) (sym (pow-add 2 6 (bits - log)) ∙ ap (λ n. 2 ^ n) all) narrow
