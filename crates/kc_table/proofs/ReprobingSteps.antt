-- How far the walk over a key's places has come.
use Rattle.std.proofs.Common.{◌≡◌, ◌≢◌, ◌∙◌, ℕ, ◌+◌, ◌-◌, ◌*◌, ◌/◌, ◌%◌, ◌^◌, ◌<◌, ◌≤◌, sym, ap, arith, subst, bit_and}
use Rattle.std.proofs.Common.{add-zero, inl, inr, mod-lt, mod-eq_of_lt, pow_mono}
use Rattle.std.proofs.Math.Nat.{mod-mod}
use Rattle.std.proofs.lemmas.Nat.{and_mask, mul-le}
use Rattle.std.proofs.lemmas.Bool.{cases_lt}
use Rattle.kc_table.specs.Reprobing.{triangle, place, tag_of, reprobe_of, IsTaken, IsFound, IsFree, AreTakenBefore}
use Rattle.kc_table.specs.Sizes.{place_count}
use Rattle.kc_table.specs.Slot.{key_in}
use Rattle.kc_table.proofs.Places.{place_step}

-- A walk over the places of a key: its next place is the i-th, it is at the one before, and the count of slot reads
-- went from `begun` to `count`.
pub record Walk : Type 0 where
  pub log : ℕ
  pub tag : ℕ → ℕ
  pub key : ℕ
  pub i : ℕ
  pub stand : ℕ
  pub begun : ℕ
  pub count : ℕ

-- the first i places have other keys, the walk is at the last of them, and each was read once
pub record IsWalked (w : Walk) : Type 0 where
  pub here : w.stand ≡ place w.key (w.i - 1) w.log
  pub taken : AreTakenBefore w.log w.tag w.key w.i
  pub counted : w.count ≡ w.begun + w.i

-- the next place, the tag read there, the key's own tag there, and the count of slot reads after it
pub record Look : Type 0 where
  pub next : ℕ
  pub read : ℕ
  pub wanted : ℕ
  pub after : ℕ

pub record IsLook (w : Walk) (l : Look) : Type 0 where
  pub small : w.i < place_count
  pub here : l.next ≡ place w.key w.i w.log
  pub read_is : l.read ≡ w.tag l.next
  pub wanted_is : l.wanted ≡ tag_of w.log w.key w.i
  pub step : l.after ≡ w.count + 1

masked : (log n mask : ℕ) → mask ≡ 2 ^ log - 1 → bit_and n mask ≡ n % 2 ^ log
masked log n mask is = ap (bit_and n) is ∙ and_mask n log

pub next_place : (log key i stand mask : ℕ) → mask ≡ 2 ^ log - 1 → stand ≡ place key (i - 1) log
    → bit_and (stand + i) mask ≡ place key i log
next_place log key i stand mask is here =
    masked log (stand + i) mask is ∙ ap (λ n. (n + i) % 2 ^ log) here ∙ place_step key i log

pub walked_none : (log : ℕ) (tag : ℕ → ℕ) (key mask begun : ℕ) → mask ≡ 2 ^ log - 1
    → IsWalked (record {
      log = log;
      tag = tag;
      key = key;
      i = 0;
      stand = bit_and key mask;
      begun = begun;
      count =
          begun;
    })
walked_none log tag key mask begun is = record {
  here = masked log key mask is ∙ sym (ap (λ n. n % 2 ^ log) (add-zero (key % 2 ^ log)) ∙ mod-mod key (2 ^ log));
  taken = λ j none. absurd (omega arith);
  counted = omega arith;
}

module _ (w : Walk) (l : Look) (walked : IsWalked w) (look : IsLook w l) where
  -- the place is taken by another key
  pub walked_more : l.read ≢ l.wanted → l.read ≢ 0
      → IsWalked (record {
        log = w.log;
        tag = w.tag;
        key = w.key;
        i = w.i + 1;
        stand = l.next;
        begun = w.begun;
        count =
            l.after;
      })
  walked_more other some = record {
    here = let back : w.i + 1 - 1 ≡ w.i = omega arith in look.here ∙ ap (λ n. place w.key n w.log) (sym back);
    taken = λ j below. elim (cases_lt j w.i) [
      | inl before ↦ walked.taken j before
      | inr past ↦
          let last : w.i ≡ j = omega arith in
          subst (IsTaken w.log w.tag w.key) last (record {
            some = λ none. some (look.read_is ∙ ap w.tag look.here ∙ none);
            other = λ same. other (look.read_is ∙ ap w.tag look.here ∙ same ∙ sym look.wanted_is);
          })
    ];
    counted =
        let so_far : w.count ≡ w.begun + w.i = walked.counted in
        let step : l.after ≡ w.count + 1 = look.step in omega arith;
  }

  reads : l.after - w.begun ≡ w.i + 1
  reads =
      let so_far : w.count ≡ w.begun + w.i = walked.counted in
      let step : l.after ≡ w.count + 1 = look.step in omega arith

  -- the key is there
  pub walked_found : l.read ≡ l.wanted
      → (found : IsFound w.log w.tag w.key l.next) × AreTakenBefore w.log w.tag w.key found.reprobe
      × (l.after - w.begun ≡ found.reprobe + 1)
  walked_found same = (
    record { reprobe = w.i; small = look.small; here = look.here; is = sym look.read_is ∙ same ∙ look.wanted_is },
    walked.taken,
    reads,
  )

  -- the place is empty
  pub walked_free : l.read ≡ 0
      → (free : IsFree w.log w.tag w.key l.next l.wanted) × (l.after - w.begun ≡ free.reprobe + 1)
  walked_free none = (
    record {
      reprobe = w.i;
      small = look.small;
      here = look.here;
      is = look.wanted_is;
      empty = sym look.read_is ∙ none;
      before = walked.taken;
    },
    reads,
  )

triangle-le : (tag : ℕ) → triangle (reprobe_of tag) ≤ 1953
triangle-le tag =
    let i = reprobe_of tag in
    let low : tag % 64 < 64 = mod-lt tag (omega arith) in
    let small : i ≤ 62 = omega arith in
    let product : i * (i + 1) ≤ 62 * 63 = mul-le i (i + 1) 62 63 small (omega arith) in
    omega arith

-- what `key_at` computes fits
pub steps_back-le : (log tag mask : ℕ) → mask ≡ 2 ^ log - 1 → log ≤ 40
    → mask * triangle (reprobe_of tag) ≤ 2 ^ 40 * 1953
steps_back-le log tag mask is few =
    let room : 2 ^ log ≤ 2 ^ 40 = pow_mono few in
    mul-le mask (triangle (reprobe_of tag)) (2 ^ 40) 1953 (omega arith) (triangle-le tag)

-- and is the slot's key
pub key_computed : (log tag place mask : ℕ) → mask ≡ 2 ^ log - 1 → tag / 64 * 2 ^ log < 2 ^ 64
    → tag / 64 * 2 ^ log % 2 ^ 64 + bit_and (place + mask * triangle (reprobe_of tag)) mask ≡ key_in log place tag
key_computed log tag place mask is fits =
    ap (λ n. n + bit_and (place + mask * triangle (reprobe_of tag)) mask) (mod-eq_of_lt fits)
    ∙ ap (λ n. tag / 64 * 2 ^ log + n)
    (masked log (place + mask * triangle (reprobe_of tag)) mask is
    ∙ ap (λ m. (place + m * triangle (reprobe_of tag)) % 2 ^ log) is)
