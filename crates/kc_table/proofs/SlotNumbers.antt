-- Slots in numbers: what is read of them, and what a written number changes.
use Rattle.std.proofs.Common.{◌≡◌, ◌≢◌, ◌∙◌, ℕ, ◌+◌, ◌-◌, ◌*◌, ◌/◌, ◌%◌, ◌^◌, ◌<◌, ◌≤◌, List}
use Rattle.std.proofs.Common.{length, set, replicate, get_or, true, false, cond, nat_eq, sym, ap, subst, arith, inl, inr}
use Rattle.std.proofs.Common.{bit_and, zero-add, mod-lt, mod-eq_of_lt, length-set, pow-add, pow_mono}
use Rattle.std.proofs.Math.Nat.{div-eq_of_lt}
use Rattle.std.proofs.lemmas.Bool.{cases_eq}
use Rattle.std.proofs.lemmas.Grind.{common_steps}
use Rattle.std.proofs.lemmas.List.{ext_get_or, get_or-replicate, get_or-set_same, get_or-set_other, length-replicate}
use Rattle.std.proofs.lemmas.List.{set-get_or}
use Rattle.std.proofs.lemmas.List.FromFn.{length-map-range_with_len, get_or-map-range_with_len}
use Rattle.std.proofs.lemmas.Nat.{and_mask, pow_pos, div-mul-add, mod-mul-add, mul-add-lt, shr_below, div-add-mod'}
use Rattle.kc_table.specs.GreatCounts.{great_count}
use Rattle.kc_table.specs.Packing.{slot_of, slots_of, Packed}
use Rattle.kc_table.specs.Slot.{Slot, empty_slot, tag_at, slot_count}

pub length-slots_of : (low : ℕ) (numbers : List ℕ) (greats : List (ℕ × ℕ))
    → length (slots_of low numbers greats) ≡ length numbers
length-slots_of low numbers greats = length-map-range_with_len _ 0 (length numbers)

pub slot_there : (low : ℕ) (numbers : List ℕ) (greats : List (ℕ × ℕ)) (i : ℕ) → i < length numbers
    → get_or (slots_of low numbers greats) i empty_slot ≡ slot_of low (get_or numbers i 0) (great_count greats i)
slot_there low numbers greats i below =
    get_or-map-range_with_len _ 0 (length numbers) i i empty_slot below (zero-add i)

-- a place in what the slots are seen as has a number
pub number_there : (bits low index : ℕ) (numbers : List ℕ) (greats : List (ℕ × ℕ)) (seen : Packed)
    → record { tag_bits = bits; items = slots_of low numbers greats } ≡ seen
    → index < length seen.items → index < length numbers
number_there bits low index numbers greats seen is below =
    let fits : index < length (slots_of low numbers greats) =
    subst (λ (p : Packed). index < length p.items) (sym is) below in
    omega (arith, length-slots_of low numbers greats)

-- a slot by its tag and count
same_slot : (s t : Slot) → s.tag ≡ t.tag → s.count ≡ t.count → s ≡ t
same_slot s t tags counts =
    ap (λ n. record { tag = n; count = s.count }) tags ∙ ap (λ n. record { tag = t.tag; count = n }) counts

-- a slot whose low bits are its count, and one whose low bits are all 1
pub slot_within : (low number great : ℕ) → number % 2 ^ low ≢ 2 ^ low - 1
    → slot_of low number great ≡ record { tag = number / 2 ^ low; count = number % 2 ^ low }
slot_within low number great apart =
    let test : nat_eq (number % 2 ^ low) (2 ^ low - 1) ≡ false = grind (arith, common_steps) in
    ap (λ b. record { tag = number / 2 ^ low; count = cond b great (number % 2 ^ low) }) test

pub slot_beside : (low number great : ℕ) → number % 2 ^ low ≡ 2 ^ low - 1
    → slot_of low number great ≡ record { tag = number / 2 ^ low; count = great }
slot_beside low number great same =
    let test : nat_eq (number % 2 ^ low) (2 ^ low - 1) ≡ true = grind (arith, common_steps) in
    ap (λ b. record { tag = number / 2 ^ low; count = cond b great (number % 2 ^ low) }) test

-- a number made of a tag and low bits
module _ (low tag below : ℕ) (fits : below < 2 ^ low) where
  pub tag_put : (tag * 2 ^ low + below) / 2 ^ low ≡ tag
  tag_put = div-mul-add tag (2 ^ low) below fits

  pub low_put : (tag * 2 ^ low + below) % 2 ^ low ≡ below
  low_put = mod-mul-add tag (2 ^ low) below fits

  pub number_fits : (width : ℕ) → low < width → tag < 2 ^ (width - low) → tag * 2 ^ low + below < 2 ^ width
  number_fits width some narrow =
      let split : low + (width - low) ≡ width = omega arith in
      subst (λ n. tag * 2 ^ low + below < n) (sym (pow-add 2 low (width - low)) ∙ ap (λ n. 2 ^ n) split)
      (mul-add-lt tag (2 ^ low) below (2 ^ (width - low)) narrow fits)

pub tag_fits_above : (low number width : ℕ) → low < width → number < 2 ^ width → number / 2 ^ low < 2 ^ (width - low)
tag_fits_above low number width some small =
    let split : width ≡ width - low + low = omega arith in
    shr_below number (width - low) low (subst (λ n. number < 2 ^ n) split small)

pub all_ones_fit : (low : ℕ) → 2 ^ low - 1 < 2 ^ low
all_ones_fit low = let pos : 0 < 2 ^ low = pow_pos low in omega arith

pub slot_put_within : (low tag below great : ℕ) → below < 2 ^ low - 1
    → slot_of low (tag * 2 ^ low + below) great ≡ record { tag = tag; count = below }
slot_put_within low tag below great few =
    let fits : below < 2 ^ low = omega arith in
    let bits : (tag * 2 ^ low + below) % 2 ^ low ≡ below = low_put low tag below fits in
    slot_within low (tag * 2 ^ low + below) great (λ same. absurd (omega arith))
    ∙ same_slot (record { tag = (tag * 2 ^ low + below) / 2 ^ low; count = (tag * 2 ^ low + below) % 2 ^ low })
    (record { tag = tag; count = below }) (tag_put low tag below fits) bits

pub slot_put_beside : (low tag great : ℕ)
    → slot_of low (tag * 2 ^ low + (2 ^ low - 1)) great ≡ record { tag = tag; count = great }
slot_put_beside low tag great =
    let fits : 2 ^ low - 1 < 2 ^ low = all_ones_fit low in
    slot_beside low (tag * 2 ^ low + (2 ^ low - 1)) great (low_put low tag (2 ^ low - 1) fits)
    ∙ ap (λ t. record { tag = t; count = great }) (tag_put low tag (2 ^ low - 1) fits)

-- what is read at a place that has a number
module _ (low : ℕ) (numbers : List ℕ) (greats : List (ℕ × ℕ)) (index number : ℕ) (below : index < length numbers)
    (read : number ≡ get_or numbers index 0) where
  there : get_or (slots_of low numbers greats) index empty_slot ≡ slot_of low number (great_count greats index)
  there = slot_there low numbers greats index below ∙ ap (λ n. slot_of low n (great_count greats index)) (sym read)

  pub tag_read : number / 2 ^ low ≡ tag_at (slots_of low numbers greats) index
  tag_read = sym (ap (λ (s : Slot). s.tag) there)

  pub count_within : number % 2 ^ low ≢ 2 ^ low - 1 → number % 2 ^ low ≡ slot_count (slots_of low numbers greats) index
  count_within apart =
      sym (ap (λ (s : Slot). s.count) (there ∙ slot_within low number (great_count greats index) apart))

  pub count_beside : number % 2 ^ low ≡ 2 ^ low - 1
      → great_count greats index ≡ slot_count (slots_of low numbers greats) index
  count_beside same =
      sym (ap (λ (s : Slot). s.count) (there ∙ slot_beside low number (great_count greats index) same))

  -- by the mask of the low bits
  module _ (mask : ℕ) (ones : mask ≡ 2 ^ low - 1) where
    masked : bit_and number mask ≡ number % 2 ^ low
    masked = ap (bit_and number) ones ∙ and_mask number low

    pub count_under_mask : bit_and number mask < mask
        → bit_and number mask ≡ slot_count (slots_of low numbers greats) index
    count_under_mask under = masked ∙ count_within (λ same. absurd (omega (arith, masked, under, ones, same)))

    pub count_at_mask : mask ≤ bit_and number mask
        → great_count greats index ≡ slot_count (slots_of low numbers greats) index
    count_at_mask full =
        let most : number % 2 ^ low < 2 ^ low = mod-lt number (pow_pos low) in
        count_beside (omega (arith, masked, full, ones, most))

  -- a slot with this tag whose count is changed
  module _ (change : ℕ → ℕ) where
    abbrev pub changed : Slot
    changed = record {
      tag = tag_at (slots_of low numbers greats) index;
      count = change (slot_count (slots_of low numbers greats) index);
    }

    pub changed_within : (count new : ℕ) → new ≡ number / 2 ^ low * 2 ^ low + count → count < 2 ^ low - 1
        → count ≡ change (slot_count (slots_of low numbers greats) index) → (great : ℕ) → slot_of low new great ≡ changed
    changed_within count new is few counted great =
        ap (λ n. slot_of low n great) is ∙ slot_put_within low (number / 2 ^ low) count great few
        ∙ same_slot (record { tag = number / 2 ^ low; count = count }) changed tag_read counted

    pub changed_beside : (new great : ℕ) → new ≡ number / 2 ^ low * 2 ^ low + (2 ^ low - 1)
        → great ≡ change (slot_count (slots_of low numbers greats) index) → slot_of low new great ≡ changed
    changed_beside new great is counted =
        ap (λ n. slot_of low n great) is ∙ slot_put_beside low (number / 2 ^ low) great
        ∙ same_slot (record { tag = number / 2 ^ low; count = great }) changed tag_read counted

-- the effect of an addition and a subtraction on the number that was read
module _ (low : ℕ) (numbers : List ℕ) (greats : List (ℕ × ℕ)) (index number : ℕ) (below : index < length numbers)
    (read : number ≡ get_or numbers index 0) (mask : ℕ) (ones : mask ≡ 2 ^ low - 1) where
  bits : bit_and number mask ≡ number % 2 ^ low
  bits = ap (bit_and number) ones ∙ and_mask number low

  abbrev pub raised : Slot
  raised = changed low numbers greats index number below read (λ n. n + 1)

  abbrev pub lowered : Slot
  lowered = changed low numbers greats index number below read (λ n. n - 1)

  module _ (under : bit_and number mask + 1 < mask) where
    pub raised_fits : (width : ℕ) → low < width → number < 2 ^ width → number + 1 < 2 ^ width
    raised_fits width some small =
        let whole : number + 1 ≡ number / 2 ^ low * 2 ^ low + (number % 2 ^ low + 1) = omega (arith, div-add-mod' number (2 ^ low)) in
        subst (λ n. n < 2 ^ width) (sym whole)
        (number_fits low (number / 2 ^ low) (number % 2 ^ low + 1) (omega (arith, bits, under, ones)) width some
        (tag_fits_above low number width some small))

    pub raised_within : (great : ℕ) → slot_of low (number + 1) great ≡ raised
    raised_within great =
        changed_within low numbers greats index number below read (λ n. n + 1) (number % 2 ^ low + 1) (number + 1)
        (omega (arith, div-add-mod' number (2 ^ low))) (omega (arith, bits, under, ones))
        (ap (λ n. n + 1) (count_within low numbers greats index number below read
        (λ same. absurd (omega (arith, bits, under, ones, same))))) great

  module _ (under : bit_and number mask < mask) (some : 1 ≤ slot_count (slots_of low numbers greats) index) where
    counted : number % 2 ^ low ≡ slot_count (slots_of low numbers greats) index
    counted = count_within low numbers greats index number below read
        (λ same. absurd (omega (arith, bits, under, ones, same)))

    pub number_some : 1 ≤ number
    number_some = omega (arith, div-add-mod' number (2 ^ low), counted, some)

    pub lowered_within : (great : ℕ) → slot_of low (number - 1) great ≡ lowered
    lowered_within great =
        changed_within low numbers greats index number below read (λ n. n - 1) (number % 2 ^ low - 1) (number - 1)
        (omega (arith, div-add-mod' number (2 ^ low), counted, some)) (omega (arith, bits, under, ones, counted, some))
        (ap (λ n. n - 1) counted) great

  -- if the low bits are all 1, and if they become all 1
  module _ (full : mask ≤ bit_and number mask) where
    pub lowered_beside : (great : ℕ) → great ≡ great_count greats index - 1 → slot_of low number great ≡ lowered
    lowered_beside great is =
        let most : number % 2 ^ low < 2 ^ low = mod-lt number (pow_pos low) in
        changed_beside low numbers greats index number below read (λ n. n - 1) number great
        (omega (arith, div-add-mod' number (2 ^ low), bits, full, ones, most))
        (is ∙ ap (λ n. n - 1) (count_at_mask low numbers greats index number below read mask ones full))

  filled : number - bit_and number mask + mask ≡ number / 2 ^ low * 2 ^ low + (2 ^ low - 1)
  filled = omega (arith, div-add-mod' number (2 ^ low), bits, ones)

  pub filled_fits : (width : ℕ) → low < width → number < 2 ^ width → number - bit_and number mask + mask < 2 ^ width
  filled_fits width some small =
      subst (λ n. n < 2 ^ width) (sym filled)
      (number_fits low (number / 2 ^ low) (2 ^ low - 1) (all_ones_fit low) width some
      (tag_fits_above low number width some small))

  pub raised_beside : (great : ℕ) → great ≡ slot_count (slots_of low numbers greats) index + 1
      → slot_of low (number - bit_and number mask + mask) great ≡ raised
  raised_beside great is =
      changed_beside low numbers greats index number below read (λ n. n + 1) (number - bit_and number mask + mask) great filled is

pub record IsPackedBits (low width : ℕ) : Type 0 where
  pub some_bits : low < width
  pub few_bits : width ≤ 64

-- the number of a tag above and low bits below it
pub record IsNumberOf (low width tag below number : ℕ) : Type 0 where
  pub is : number ≡ tag * 2 ^ low + below
  pub fits : number < 2 ^ width
  pub fits_64 : number < 2 ^ 64

pub number_put : (low width : ℕ) (slots : List Slot) (seen : Packed) → record { tag_bits = width - low; items = slots } ≡ seen
    → IsPackedBits low width → (tag above below mask : ℕ) → tag < 2 ^ seen.tag_bits → above ≡ tag → mask ≡ 2 ^ low - 1
    → below ≤ mask → IsNumberOf low width tag below (above * 2 ^ low % 2 ^ 64 + below)
number_put low width slots seen view bits tag above below mask fits is ones few =
    let narrow : tag < 2 ^ (width - low) = subst (λ (p : Packed). tag < 2 ^ p.tag_bits) (sym view) fits in
    let all : 2 ^ low - 1 < 2 ^ low = all_ones_fit low in
    let inside : below < 2 ^ low = omega arith in
    let small : tag * 2 ^ low + below < 2 ^ width = number_fits low tag below inside width bits.some_bits narrow in
    let most : 2 ^ width ≤ 2 ^ 64 = pow_mono bits.few_bits in
    let whole : above * 2 ^ low % 2 ^ 64 + below ≡ tag * 2 ^ low + below =
    ap (λ t. t * 2 ^ low % 2 ^ 64 + below) is
    ∙ ap (λ n. n + below) (mod-eq_of_lt (let x : tag * 2 ^ low < 2 ^ 64 = omega arith in x)) in
    record {
      is = whole;
      fits = subst (λ n. n < 2 ^ width) (sym whole) small;
      fits_64 = subst (λ n. n < 2 ^ 64) (sym whole) (let x : tag * 2 ^ low + below < 2 ^ 64 = omega arith in x);
    }

pub tag_at-set_same : (slots : List Slot) (s : ℕ) (slot : Slot) → s < length slots
    → tag_at (set slots s slot) s ≡ slot.tag
tag_at-set_same slots s slot below = ap (λ (r : Slot). r.tag) (get_or-set_same slots s slot empty_slot below)

pub tag_at-set_other : (slots : List Slot) (s : ℕ) (slot : Slot) (t : ℕ) → t ≢ s
    → tag_at (set slots s slot) t ≡ tag_at slots t
tag_at-set_other slots s slot t apart = ap (λ (r : Slot). r.tag) (get_or-set_other slots s t slot empty_slot apart)

-- A number is written at a place, and perhaps a great count, so this slot is there.
pub record IsWrite (low : ℕ) (numbers : List ℕ) (greats after : List (ℕ × ℕ)) (index number : ℕ) (slot : Slot) : Type 0 where
  pub below : index < length numbers
  pub here : slot_of low number (great_count after index) ≡ slot
  pub others : (i : ℕ) → i ≢ index → great_count after i ≡ great_count greats i

pub written : (low : ℕ) (numbers : List ℕ) (greats after : List (ℕ × ℕ)) (index number : ℕ) (slot : Slot)
    → IsWrite low numbers greats after index number slot
    → slots_of low (set numbers index number) after ≡ set (slots_of low numbers greats) index slot
written low numbers greats after index number slot is =
    let news : List ℕ = set numbers index number in
    let old : List Slot = slots_of low numbers greats in
    let count : length news ≡ length numbers = length-set numbers index number in
    let long : length (slots_of low news after) ≡ length news = length-slots_of low news after in
    let same : length old ≡ length numbers = length-slots_of low numbers greats in
    let there : index < length numbers = is.below in
    ext_get_or empty_slot (slots_of low news after) (set old index slot)
    (long ∙ count ∙ sym same ∙ sym (length-set old index slot)) (λ i below.
    let inside : i < length numbers = omega arith in
    let at : get_or (slots_of low news after) i empty_slot ≡ slot_of low (get_or news i 0) (great_count after i) =
    slot_there low news after i (omega arith) in
    elim (cases_eq i index) [
      | inl same_place ↦
          at ∙ ap (λ n. slot_of low (get_or news n 0) (great_count after n)) same_place
          ∙ ap (λ n. slot_of low n (great_count after index)) (get_or-set_same numbers index number 0 is.below)
          ∙ is.here
          ∙ sym (ap (λ n. get_or (set old index slot) n empty_slot) same_place
          ∙ get_or-set_same old index slot empty_slot (omega arith))
      | inr apart ↦
          at ∙ ap (λ n. slot_of low n (great_count after i)) (get_or-set_other numbers index i number 0 apart)
          ∙ ap (slot_of low (get_or numbers i 0)) (is.others i apart) ∙ sym (slot_there low numbers greats i inside)
          ∙ sym (get_or-set_other old index i slot empty_slot apart)
    ])

-- and if the number there stays
pub written_beside : (low : ℕ) (numbers : List ℕ) (greats after : List (ℕ × ℕ)) (index : ℕ) (slot : Slot)
    → IsWrite low numbers greats after index (get_or numbers index 0) slot
    → slots_of low numbers after ≡ set (slots_of low numbers greats) index slot
written_beside low numbers greats after index slot is =
    ap (λ ns. slots_of low ns after) (sym (set-get_or numbers index 0))
    ∙ written low numbers greats after index (get_or numbers index 0) slot is

-- slots whose numbers are 0 are empty, if they have no great counts
pub empty_slots : (low n : ℕ) (numbers : List ℕ) (greats : List (ℕ × ℕ)) → numbers ≡ replicate n 0
    → ((place : ℕ) → great_count greats place ≡ 0) → slots_of low numbers greats ≡ replicate n empty_slot
empty_slots low n numbers greats zeros none =
    let pos : 0 < 2 ^ low = pow_pos low in
    let count : length numbers ≡ n = ap length zeros ∙ length-replicate n 0 in
    let long : length (slots_of low numbers greats) ≡ n = length-slots_of low numbers greats ∙ count in
    ext_get_or empty_slot (slots_of low numbers greats) (replicate n empty_slot)
    (long ∙ sym (length-replicate n empty_slot)) (λ i below.
    let inside : i < n = omega arith in
    let number : get_or numbers i 0 ≡ 0 = ap (λ ws. get_or ws i 0) zeros ∙ get_or-replicate n i 0 0 inside in
    let no_bits : 0 % 2 ^ low ≡ 0 = mod-eq_of_lt pos in
    let no_tag : 0 / 2 ^ low ≡ 0 = div-eq_of_lt pos in
    let empty : slot_of low 0 0 ≡ empty_slot = elim (cases_eq (0 % 2 ^ low) (2 ^ low - 1)) [
      | inl full ↦ slot_beside low 0 0 full ∙ ap (λ t. record { tag = t; count = 0 }) no_tag
      | inr apart ↦ slot_within low 0 0 apart
          ∙ same_slot (record { tag = 0 / 2 ^ low; count = 0 % 2 ^ low }) empty_slot no_tag no_bits
    ] in
    slot_there low numbers greats i (omega arith) ∙ ap (λ w. slot_of low w (great_count greats i)) number
    ∙ ap (slot_of low 0) (none i) ∙ empty
    ∙ sym (get_or-replicate n i empty_slot empty_slot inside))
