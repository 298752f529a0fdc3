-- Codes appended to packed numbers at any place of the last number.
use Rattle.std.proofs.Common.{◌≡◌, ◌≢◌, ℕ, ◌+◌, ◌-◌, ◌*◌, ◌/◌, ◌%◌, ◌^◌, ◌<◌, ◌≤◌, ⊎_elim, List, ◌++◌, map, length}
use Rattle.std.proofs.Common.{get_or, take, drop, set, refl, ap, sym, ◌∙◌, subst, arith, bit_or, append_assoc}
use Rattle.std.proofs.lemmas.Bool.{cases_eq}
use Rattle.std.proofs.lemmas.Nat.{or_shr, or_mod}
use Rattle.std.proofs.lemmas.List.{get_or-set_same, get_or-set_other, length-set, length-append, append-nil}
use Rattle.std.proofs.lemmas.List.FromFn.{length-map-range_with_len}
use Rattle.std.specs.Int.Bits.{or_zero_l, or_zero_r}
use Rattle.std.specs.List.{range_with_len}
use Rattle.kc_word.specs.Packed.{code_in, codes_in, code_at, codes_of, ArePacked}
use Rattle.kc_word.proofs.Shifting.{code-up, code-down, code-down-none, code-front, code-behind, range-joined, IsFilled}
use Rattle.kc_word.proofs.Shifting.{IsPart, part-more, part-all}

code-or : (v w i : ℕ) → code_in (bit_or v w) i ≡ bit_or (code_in v i) (code_in w i)
code-or v w i = ap (λ n. n % 4) (or_shr v w (62 - 2 * i)) ∙ or_mod (v / 2 ^ (62 - 2 * i)) (w / 2 ^ (62 - 2 * i)) 2

-- ---- codes within the last number

-- the first codes of a number
front_of : ℕ → ℕ → ℕ
front_of number count = number / 2 ^ (64 - 2 * count) * 2 ^ (64 - 2 * count) % 2 ^ 64

-- the last number with the first codes of another one after those that it has
with_front : List ℕ → ℕ → ℕ → ℕ → ℕ
with_front numbers n count number = bit_or (get_or numbers (n / 32) 0) (front_of number count / 2 ^ (2 * (n % 32)))

-- so many codes, with some of them in the last number, and room for more
pub record HasRoom (numbers : List ℕ) (n count : ℕ) : Type 0 where
  pub packed : ArePacked numbers n
  pub some : 1 ≤ count
  pub begun : 1 ≤ n % 32
  pub room : n % 32 + count ≤ 32

inside-numbers : (numbers : List ℕ) (n count : ℕ) → HasRoom numbers n count → n / 32 < length numbers
inside-numbers numbers n count room =
    let exact = room.packed.exact in
    let begun = room.begun in
    omega (arith, exact, begun)

same-number : (numbers : List ℕ) (n count number i : ℕ) → i / 32 ≢ n / 32
    → code_at (set numbers (n / 32) (with_front numbers n count number)) i ≡ code_at numbers i
same-number numbers n count number i ne =
    ap (λ w. code_in w (i % 32)) (get_or-set_other numbers (n / 32) (i / 32) (with_front numbers n count number) 0 ne)

last-number : (numbers : List ℕ) (n count number i : ℕ) → HasRoom numbers n count → i / 32 ≡ n / 32
    → code_at (set numbers (n / 32) (with_front numbers n count number)) i
    ≡ bit_or (code_at numbers i) (code_in (front_of number count / 2 ^ (2 * (n % 32))) (i % 32))
unfolding with_front
last-number numbers n count number i room e =
    ap (λ j. code_in (get_or (set numbers (n / 32) (with_front numbers n count number)) j 0) (i % 32)) e
    ∙ ap (λ w. code_in w (i % 32)) (get_or-set_same numbers (n / 32) (with_front numbers n count number) 0 (inside-numbers numbers n count room))
    ∙ code-or (get_or numbers (n / 32) 0) (front_of number count / 2 ^ (2 * (n % 32))) (i % 32)
    ∙ ap (λ j. bit_or (code_in (get_or numbers j 0) (i % 32)) (code_in (front_of number count / 2 ^ (2 * (n % 32))) (i % 32))) (sym e)

earlier : (numbers : List ℕ) (n count number i : ℕ) → HasRoom numbers n count → i < n
    → code_at (set numbers (n / 32) (with_front numbers n count number)) i ≡ code_at numbers i
unfolding front_of
earlier numbers n count number i room h =
    ⊎_elim
    (λ e. last-number numbers n count number i room e
    ∙ ap (bit_or (code_at numbers i)) (code-down-none (front_of number count) (n % 32) (i % 32) (omega arith) (omega arith) (omega (arith, e, h)))
    ∙ or_zero_r (code_at numbers i))
    (λ ne. same-number numbers n count number i ne)
    (cases_eq (i / 32) (n / 32))

here : (numbers : List ℕ) (n count number i : ℕ) → HasRoom numbers n count → n % 32 + i < 32
    → code_at (set numbers (n / 32) (with_front numbers n count number)) (n + i) ≡ code_in (front_of number count) i
here numbers n count number i room h =
    let same : (n + i) / 32 ≡ n / 32 = omega (arith, h) in
    let place : (n + i) % 32 ≡ i + n % 32 = omega (arith, h) in
    last-number numbers n count number (n + i) room same
    ∙ ap (λ c. bit_or c (code_in (front_of number count / 2 ^ (2 * (n % 32))) ((n + i) % 32))) (room.packed.clear (n + i) (omega arith))
    ∙ or_zero_l (code_in (front_of number count / 2 ^ (2 * (n % 32))) ((n + i) % 32))
    ∙ ap (code_in (front_of number count / 2 ^ (2 * (n % 32)))) place
    ∙ code-down (front_of number count) (n % 32) i (omega (arith, h))

behind : (numbers : List ℕ) (n count number i : ℕ) → HasRoom numbers n count → n + count ≤ i
    → code_at (set numbers (n / 32) (with_front numbers n count number)) i ≡ 0
unfolding front_of
behind numbers n count number i room h =
    let most = room.room in
    ⊎_elim
    (λ e. let place : i ≡ n + (i - n) = omega (arith, h) in
    let inside : n % 32 + (i - n) < 32 = omega (arith, h, e) in
    ap (code_at (set numbers (n / 32) (with_front numbers n count number))) place
    ∙ here numbers n count number (i - n) room inside
    ∙ code-behind number count (i - n) (omega (arith, most)) (omega (arith, inside)) (omega (arith, h)))
    (λ ne. same-number numbers n count number i ne ∙ room.packed.clear i (omega (arith, h)))
    (cases_eq (i / 32) (n / 32))

pub filled-last : (numbers next : List ℕ) (n count number : ℕ) → HasRoom numbers n count
    → next ≡ set numbers (n / 32) (bit_or (get_or numbers (n / 32) 0)
    (number / 2 ^ (64 - 2 * count) * 2 ^ (64 - 2 * count) % 2 ^ 64 / 2 ^ (2 * (n % 32))))
    → IsFilled numbers next n count number
unfolding codes_of codes_in front_of with_front
filled-last numbers next n count number room e = record {
  packed = subst (λ ws. ArePacked ws (n + count)) (sym e) (record {
    exact = let exact = room.packed.exact in
        let long = length-set numbers (n / 32) (with_front numbers n count number) in
        let some = room.some in
        let begun = room.begun in
        let most = room.room in
        omega (arith, exact, long, some, begun, most);
    clear = λ i h. behind numbers n count number i room h;
  });
  codes = ap (λ ws. codes_of ws (n + count)) e
      ∙ range-joined (code_at (set numbers (n / 32) (with_front numbers n count number))) (code_at numbers) (code_in number) n count
      (λ i h. earlier numbers n count number i room h)
      (λ i h. let most = room.room in
      here numbers n count number i room (omega (arith, h, most)) ∙ code-front number count i (omega (arith, most)) h);
}

-- ---- codes in two numbers

-- the first codes of a number, and those after them
pub codes_in-split : (number first rest : ℕ) → first + rest ≤ 32
    → codes_in number first ++ codes_in (number * 2 ^ (2 * first) % 2 ^ 64) rest ≡ codes_in number (first + rest)
unfolding codes_in
codes_in-split number first rest h =
    sym (range-joined (code_in number) (code_in number) (code_in (number * 2 ^ (2 * first) % 2 ^ 64)) first rest
    (λ i l. refl) (λ i l. sym (code-up number first i (omega (arith, h, l)))))

pub length-codes_in : (number n : ℕ) → length (codes_in number n) ≡ n
unfolding codes_in
length-codes_in number n = length-map-range_with_len (λ i. code_in number i) 0 n

-- codes followed by the first ones of a number, in their numbers
pub record AreFilled (before : List ℕ) (number count : ℕ) (numbers : List ℕ) (n : ℕ) : Type 0 where
  pub packed : ArePacked numbers n
  pub codes : codes_of numbers n ≡ before ++ codes_in number count

-- no code more leaves the codes as they are
pub none-appended : (before : List ℕ) (number count : ℕ) → count ≡ 0 → before ≡ before ++ codes_in number count
unfolding codes_in
none-appended before number count e = sym (ap (λ n. before ++ codes_in number n) e ∙ append-nil before)

-- the codes once the last number is full, and then once the rest is in the next one
pub record SplitStep (before : List ℕ) (number count : ℕ) : Type 0 where
  pub first : ℕ
  pub filled : List ℕ
  pub next : List ℕ
  pub within : first ≤ count
  pub most : count ≤ 32
  pub filled_is : filled ≡ before ++ codes_in number first
  pub next_is : next ≡ filled ++ codes_in (number * 2 ^ (2 * first) % 2 ^ 64) (count - first)

pub appended-split : (before : List ℕ) (number count : ℕ) (s : SplitStep before number count) → s.next ≡ before ++ codes_in number count
appended-split before number count s =
    let within = s.within in
    let most = s.most in
    let all : s.first + (count - s.first) ≡ count = omega (arith, within) in
    s.next_is ∙ ap (λ xs. xs ++ codes_in (number * 2 ^ (2 * s.first) % 2 ^ 64) (count - s.first)) s.filled_is
    ∙ append_assoc before (codes_in number s.first) (codes_in (number * 2 ^ (2 * s.first) % 2 ^ 64) (count - s.first))
    ∙ ap (λ xs. before ++ xs) (codes_in-split number s.first (count - s.first) (omega (arith, all, most)) ∙ ap (codes_in number) all)

-- ---- a part, window by window

-- the codes followed by so many others, from an index on
pub record IsAppended (before now others : List ℕ) (from taken : ℕ) : Type 0 where
  pub is : now ≡ before ++ map (λ i. get_or others (from + i) 0) (range_with_len 0 taken)

-- one more window: so many codes of a number, which has those that come next
pub record AppendStep (before others : List ℕ) (from taken : ℕ) : Type 0 where
  pub now : List ℕ
  pub next : List ℕ
  pub count : ℕ
  pub number : ℕ
  pub next_is : next ≡ now ++ codes_in number count
  pub fits : (count ≤ 32) × (from + taken + count ≤ length others)
  pub window : (i : ℕ) → i < 32 → from + taken + i < length others → code_in number i ≡ get_or others (from + taken + i) 0

pub appended-more : (before others : List ℕ) (from taken : ℕ) (s : AppendStep before others from taken)
    → IsAppended before s.now others from taken → IsAppended before s.next others from (taken + s.count)
appended-more before others from taken s so_far =
    let part = map (λ i. get_or others (from + i) 0) (range_with_len 0 taken) in
    let taken_part : IsPart others part from taken = record { is = refl } in
    record {
      is = s.next_is ∙ ap (λ xs. xs ++ codes_in s.number s.count) so_far.is
          ∙ append_assoc before part (codes_in s.number s.count)
          ∙ ap (λ xs. before ++ xs)
          (part-more taken_part (part ++ codes_in s.number s.count) s.count s.number refl s.fits s.window).is;
    }

pub appended-all : (before now others : List ℕ) (from taken : ℕ) → from + taken ≤ length others
    → IsAppended before now others from taken → now ≡ before ++ take taken (drop from others)
appended-all before now others from taken within so_far =
    so_far.is ∙ ap (λ xs. before ++ xs) (part-all others _ from taken within (record { is = refl }))

pub length-appended : (before now others : List ℕ) (from taken : ℕ) → IsAppended before now others from taken
    → length now ≡ length before + taken
length-appended before now others from taken so_far =
    let long = ap length so_far.is ∙ length-append before (map (λ i. get_or others (from + i) 0) (range_with_len 0 taken)) in
    let count = length-map-range_with_len (λ i. get_or others (from + i) 0) 0 taken in
    omega (arith, long, count)
