-- The codes and the gaps of a read, base by base and block by block, and the piece that they are.
use Rattle.std.proofs.Common.{◌≡◌, ℕ, ◌+◌, ◌-◌, ◌*◌, ◌/◌, ◌%◌, ◌^◌, ◌<◌, ◌≤◌, ⊎_elim, Bool, true, false, ◌&&◌, cond}
use Rattle.std.proofs.Common.{leb, List, [], ◌++◌, length, get_or, Some, None, refl, ap, sym, ◌∙◌, subst, arith}
use Rattle.std.proofs.Common.{bit_or, lit<, true≢false}
use Rattle.std.proofs.lemmas.Bool.{cases_Bool, cases_lt, cond-true, cond-false, and_parts, le-leb, lt-leb, and_right}
use Rattle.std.proofs.lemmas.Nat.{shr-shr, pow-add, le_or_l, le_or_r, pow_pos, mul-le}
use Rattle.std.proofs.lemmas.List.{ext_get_or, get_or_past}
use Rattle.std.proofs.lemmas.List.FromFn.{length-map-range_with_len, get_or-map-range_with_len}
use Rattle.std.specs.Char.{to_ascii_uppercase}
use Rattle.kc_fastx.specs.Reads.{Read}
use Rattle.kc_kmer.specs.Letter.{is_base, code, base}
use Rattle.kc_kmer.specs.Rule.{CountingRule}
use Rattle.kc_kmer.specs.Occurrences.{is_usable, passes_floor}
use Rattle.kc_word.specs.Cutting.{unusable, cleaned, cleaned_base}
use Rattle.kc_word.specs.Packed.{code_in, codes_in}
use Rattle.kc_word.specs.declared.runs.Run.{Run}
use Rattle.kc_word.specs.Runs.{is_in_runs, AreRuns, AreGrown}
use Rattle.kc_word.specs.PackedPiece.{bytes_of, IsPiece}
use Rattle.kc_word.specs.UsableCodes.{usable_code, packed_codes, IsCodeBlock, AreGaps}
use Rattle.kc_kmer.proofs.WordLemmas.{at_base, code-lt}
use Rattle.kc_word.proofs.RunLemmas.{AreRuns-wider, behind-runs}
use Rattle.kc_word.proofs.PieceLemmas.{length-bytes_of, get_or-bytes_of, base-code}
use Rattle.kc_word.proofs.Cleaning.{length-cleaned, get_or-cleaned}
use Rattle.kc_word.proofs.Shifting.{code-up, range-joined}

-- ---- one base

-- the code of a base whose quality passes, and of one whose quality doesn't
pub usable_code-high : (rule : CountingRule) (read : Read) (j c : ℕ) (bases : List ℕ) → bases ≡ read.bases
    → passes_floor rule.floor read.quals j ≡ true
    → c ≡ cond (is_base (to_ascii_uppercase (get_or bases j 0))) (code (to_ascii_uppercase (get_or bases j 0))) 4
    → c ≡ usable_code rule read j
unfolding is_usable
usable_code-high rule read j c bases same high is =
    is ∙ ap (λ xs. cond (is_base (to_ascii_uppercase (get_or xs j 0))) (code (to_ascii_uppercase (get_or xs j 0))) 4) same
    ∙ ap (λ b. cond b (code (to_ascii_uppercase (get_or read.bases j 0))) 4)
    (sym (ap (λ b. is_base (to_ascii_uppercase (get_or read.bases j 0)) && b) high
    ∙ and-true (is_base (to_ascii_uppercase (get_or read.bases j 0)))))
  where
    and-true : (b : Bool) → (b && true) ≡ b
    and-true true = refl
    and-true false = refl

pub usable_code-low : (rule : CountingRule) (read : Read) (j : ℕ) → passes_floor rule.floor read.quals j ≡ false
    → 4 ≡ usable_code rule read j
unfolding is_usable
usable_code-low rule read j low =
    sym (cond-false _ (code (to_ascii_uppercase (get_or read.bases j 0))) 4 (and_right (is_base (to_ascii_uppercase (get_or read.bases j 0))) _ low))

-- it is the code of the byte in place of the base in the piece of the read
code-cleaned : (usable : Bool) (b found : ℕ) → (usable ≡ true → is_base b ≡ true) → found ≡ cond usable b unusable
    → cond usable (code b) 4 ≡ cond (is_base (to_ascii_uppercase found)) (code (to_ascii_uppercase found)) 4
unfolding is_base
code-cleaned true b found base is =
    let upper : to_ascii_uppercase b ≡ b = at_base (λ v. to_ascii_uppercase v ≡ v) refl refl refl refl b (base refl) in
    sym (ap (λ f. cond (is_base (to_ascii_uppercase f)) (code (to_ascii_uppercase f)) 4) is
    ∙ ap (λ f. cond (is_base f) (code f) 4) upper ∙ cond-true (is_base b) (code b) 4 (base refl))
code-cleaned false b found base is =
    sym (ap (λ f. cond (is_base (to_ascii_uppercase f)) (code (to_ascii_uppercase f)) 4) is)

pub usable_code-cleaned : (rule : CountingRule) (read : Read) (j : ℕ) → j < length read.bases
    → usable_code rule read j ≡ cond (is_base (to_ascii_uppercase (get_or (cleaned rule read) j 0)))
    (code (to_ascii_uppercase (get_or (cleaned rule read) j 0))) 4
unfolding is_usable
usable_code-cleaned rule read j h =
    code-cleaned (is_usable rule read j) (to_ascii_uppercase (get_or read.bases j 0)) (get_or (cleaned rule read) j 0)
    (λ e. (and_parts (is_base (to_ascii_uppercase (get_or read.bases j 0))) (passes_floor rule.floor read.quals j) e).0)
    (get_or-cleaned rule read j h)

pub passes-none : (rule : CountingRule) (read : Read) (j : ℕ) → None ≡ read.quals
    → passes_floor rule.floor read.quals j ≡ true
passes-none rule read j none = ap (λ o. passes_floor rule.floor o j) (sym none)

pub passes-high : (rule : CountingRule) (read : Read) (j floor : ℕ) (quals : List ℕ) → Some quals ≡ read.quals
    → floor ≡ rule.floor → floor ≤ get_or quals j 0
    → passes_floor rule.floor read.quals j ≡ true
passes-high rule read j floor quals some level h =
    ap (λ o. passes_floor rule.floor o j) (sym some) ∙ le-leb rule.floor (get_or quals j 0) (omega (arith, level, h))

pub passes-low : (rule : CountingRule) (read : Read) (j floor : ℕ) (quals : List ℕ) → Some quals ≡ read.quals
    → floor ≡ rule.floor → get_or quals j 0 < floor
    → passes_floor rule.floor read.quals j ≡ false
passes-low rule read j floor quals some level h =
    ap (λ o. passes_floor rule.floor o j) (sym some) ∙ lt-leb rule.floor (get_or quals j 0) (omega (arith, level, h))

-- ---- a block, base by base

pub record IsTaken (rule : CountingRule) (read : Read) (from taken number seen : ℕ) : Type 0 where
  pub below : number < 2 ^ (2 * taken)
  pub digits : (j : ℕ) → j < taken → number / 2 ^ (2 * (taken - 1 - j)) % 4 ≡ usable_code rule read (from + j) % 4
  pub usable : seen < 4 → (j : ℕ) → j < taken → usable_code rule read (from + j) < 4

-- a number of less than 32 codes has room for one more
pub room-below : (number taken : ℕ) → taken < 32 → number < 2 ^ (2 * taken) → number < 2 ^ 62
room-below number taken h below =
    let rest : 62 ≡ 2 * taken + (62 - 2 * taken) = omega (arith, h) in
    let positive = pow_pos (62 - 2 * taken) in
    subst (λ n. number < 2 ^ n) (sym rest) (subst (λ n. number < n) (sym (pow-add 2 (2 * taken) (62 - 2 * taken)))
    (wide (2 ^ (2 * taken)) (2 ^ (62 - 2 * taken)) positive below))
  where
    wide : (a b : ℕ) → 0 < b → number < a → number < a * b
    wide a b some h = let more = mul-le a 1 a b (omega arith) some in omega (arith, h, more)

module _ {rule : CountingRule} {read : Read} {from taken number seen : ℕ} (before : IsTaken rule read from taken number seen) where
  pub taken-more : (next code : ℕ) → next ≡ number * 4 + code % 4 → code ≡ usable_code rule read (from + taken)
      → IsTaken rule read from (taken + 1) next (bit_or seen code)
  taken-more next code e is = record {
    below = let power : 2 ^ (2 * (taken + 1)) ≡ 2 ^ (2 * taken) * 4 = ap (λ n. 2 ^ n) (double taken)
        ∙ pow-add 2 (2 * taken) 2 in
        let small = before.below in
        omega (arith, power, small, e);
    digits = λ j h. ⊎_elim (λ l. earlier j l) (λ l. last j (omega (arith, h, l))) (cases_lt j taken);
    usable = λ s j h. let low = le_or_l seen code in
        let right = le_or_r seen code in
        ⊎_elim (λ l. before.usable (omega (arith, s, low)) j l)
        (λ l. let place : taken ≡ j = omega (arith, h, l) in
        subst (λ n. n < 4) (is ∙ ap (λ i. usable_code rule read (from + i)) place) (omega (arith, s, right)))
        (cases_lt j taken);
  }
    where
      double : (n : ℕ) → 2 * (n + 1) ≡ 2 * n + 2
      double n = omega arith

      earlier : (j : ℕ) → j < taken → next / 2 ^ (2 * (taken + 1 - 1 - j)) % 4 ≡ usable_code rule read (from + j) % 4
      earlier j l =
          let place : 2 * (taken + 1 - 1 - j) ≡ 2 + 2 * (taken - 1 - j) = omega (arith, l) in
          let quarter : next / 2 ^ 2 ≡ number = omega (arith, e) in
          ap (λ n. next / 2 ^ n % 4) place ∙ ap (λ n. n % 4) (sym (shr-shr next 2 (2 * (taken - 1 - j))))
          ∙ ap (λ n. n / 2 ^ (2 * (taken - 1 - j)) % 4) quarter ∙ before.digits j l

      last : (j : ℕ) → j ≡ taken → next / 2 ^ (2 * (taken + 1 - 1 - j)) % 4 ≡ usable_code rule read (from + j) % 4
      last j here =
          let place : 2 * (taken + 1 - 1 - j) ≡ 0 = omega (arith, here) in
          ap (λ n. next / 2 ^ n % 4) place ∙ omega (arith, e) ∙ ap (λ n. n % 4) is
          ∙ ap (λ i. usable_code rule read (from + i) % 4) (sym here)

  -- the number is shifted to the top
  pub taken-all : (has_gap : Bool) → taken ≤ 32 → (has_gap ≡ false → seen < 4)
      → IsCodeBlock rule read from taken (number * 2 ^ (64 - 2 * taken) % 2 ^ 64) has_gap
  taken-all has_gap most gap = record {
    codes = λ i h. let place : 64 - 2 * taken ≡ 2 * (32 - taken) = omega arith in
        let top : 62 - 2 * (32 - taken + i) ≡ 2 * (taken - 1 - i) = omega (arith, h, most) in
        ap (λ n. code_in (number * 2 ^ n % 2 ^ 64) i) place ∙ code-up number (32 - taken) i (omega (arith, h, most))
        ∙ ap (λ n. number / 2 ^ n % 4) top ∙ before.digits i h;
    usable = λ g i h. before.usable (gap g) i h;
  }

-- ---- the gaps

pub gaps-none : (rule : CountingRule) (read : Read) (runs : List Run) → runs ≡ [] → AreGaps rule read 0 runs
gaps-none rule read runs e = record {
  rising = subst (AreRuns 0 0) (sym e) tt;
  gaps = λ i h. absurd (omega (arith, h));
}

pub gaps-base : (rule : CountingRule) (read : Read) (n : ℕ) (runs : List Run) → AreGaps rule read n runs
    → usable_code rule read n < 4 → AreGaps rule read (n + 1) runs
gaps-base rule read n runs before small = record {
  rising = AreRuns-wider 0 n (n + 1) runs (omega arith) before.rising;
  gaps = λ i h. ⊎_elim (λ l. before.gaps i l)
      (λ l. let here : n ≡ i = omega (arith, h, l) in
      behind-runs 0 n i runs l before.rising
      ∙ sym (lt-leb 4 (usable_code rule read i) (subst (λ j. usable_code rule read j < 4) here small)))
      (cases_lt i n);
}

pub gaps-gap : (rule : CountingRule) (read : Read) (n : ℕ) (runs next : List Run) → AreGaps rule read n runs
    → 4 ≤ usable_code rule read n
    → AreGrown runs next n 1 → AreGaps rule read (n + 1) next
gaps-gap rule read n runs next before large grown = record {
  rising = grown.rising;
  gaps = λ i h. ⊎_elim (λ l. grown.below i l ∙ before.gaps i l)
      (λ l. let here : n ≡ i = omega (arith, h, l) in
      subst (λ j. is_in_runs next j ≡ leb 4 (usable_code rule read j)) here (grown.inside n (omega arith) (omega arith)
      ∙ sym (le-leb 4 (usable_code rule read n) large)))
      (cases_lt i n);
}

-- a block without gaps
pub gaps-block : (rule : CountingRule) (read : Read) (n count : ℕ) (runs : List Run) → AreGaps rule read n runs
    → ((i : ℕ) → i < count → usable_code rule read (n + i) < 4) → AreGaps rule read (n + count) runs
gaps-block rule read n count runs before usable = record {
  rising = AreRuns-wider 0 n (n + count) runs (omega arith) before.rising;
  gaps = λ i h. ⊎_elim (λ l. before.gaps i l)
      (λ l. let here : n + (i - n) ≡ i = omega (arith, l) in
      behind-runs 0 n i runs l before.rising
      ∙ sym (lt-leb 4 (usable_code rule read i) (subst (λ j. usable_code rule read j < 4) here (usable (i - n) (omega (arith, h, l))))))
      (cases_lt i n);
}

-- ---- the codes, block by block

pub codes-block : {rule : CountingRule} {read : Read} {n count number : ℕ} {has_gap : Bool}
    → IsCodeBlock rule read n count number has_gap → (codes next : List ℕ) → codes ≡ packed_codes rule read n
    → next ≡ codes ++ codes_in number count → next ≡ packed_codes rule read (n + count)
unfolding packed_codes codes_in
codes-block {rule = rule} {read = read} {n = n} {count = count} {number = number} block codes next before e =
    e ∙ ap (λ xs. xs ++ codes_in number count) before
    ∙ sym (range-joined (λ j. usable_code rule read j % 4) (λ j. usable_code rule read j % 4) (λ i. code_in number i) n count
    (λ i h. refl) (λ i h. sym (block.codes i h)))

pub length-packed_codes : (rule : CountingRule) (read : Read) (n : ℕ) → length (packed_codes rule read n) ≡ n
unfolding packed_codes
length-packed_codes rule read n = length-map-range_with_len (λ j. usable_code rule read j % 4) 0 n

get_or-packed_codes : (rule : CountingRule) (read : Read) (n i : ℕ) → i < n
    → get_or (packed_codes rule read n) i 0 ≡ usable_code rule read i % 4
unfolding packed_codes
get_or-packed_codes rule read n i h = get_or-map-range_with_len (λ j. usable_code rule read j % 4) 0 n i i 0 h (omega arith)

-- ---- the piece

-- the codes and the runs of all bases
pub record IsCleaned (rule : CountingRule) (read : Read) (codes : List ℕ) (runs : List Run) : Type 0 where
  pub piece : IsPiece codes runs
  pub bytes : bytes_of codes runs ≡ cleaned rule read

byte-cleaned : (rule : CountingRule) (read : Read) (i : ℕ)
    → cond (leb 4 (usable_code rule read i)) unusable (base (usable_code rule read i % 4)) ≡ cleaned_base rule read i
unfolding is_usable
byte-cleaned rule read i =
    ⊎_elim
    (λ h. let small = code-lt (to_ascii_uppercase (get_or read.bases i 0)) in
    let value : usable_code rule read i ≡ code (to_ascii_uppercase (get_or read.bases i 0)) = cond-true _ _ 4 h in
    cond-false _ unusable _ (lt-leb 4 (usable_code rule read i) (omega (arith, small, value)))
    ∙ ap base (omega (arith, small, value))
    ∙ base-code (to_ascii_uppercase (get_or read.bases i 0)) (and_parts (is_base (to_ascii_uppercase (get_or read.bases i 0))) _ h).0
    ∙ sym (cond-true _ _ unusable h))
    (λ h. let value : usable_code rule read i ≡ 4 = cond-false _ (code (to_ascii_uppercase (get_or read.bases i 0))) 4 h in
    cond-true _ unusable _ (le-leb 4 (usable_code rule read i) (omega (arith, value)))
    ∙ sym (cond-false _ (to_ascii_uppercase (get_or read.bases i 0)) unusable h))
    (cases_Bool (is_usable rule read i))

pub usable-all : (rule : CountingRule) (read : Read) (n : ℕ) (codes : List ℕ) (runs : List Run)
    → n ≡ length read.bases → codes ≡ packed_codes rule read n
    → AreGaps rule read n runs → IsCleaned rule read codes runs
usable-all rule read n codes runs all is gaps = record {
  piece = record {
    rising = subst (λ m. AreRuns 0 m runs) (sym long) gaps.rising;
    below = λ i. ⊎_elim (λ h. let e = here i h in omega (arith, e)) (λ h. subst (λ c. c < 4) (sym (past i h)) (lit< tt)) (cases_lt i n);
    clear = λ i h. ⊎_elim (λ l. here i l ∙ cleared i (sym (gaps.gaps i l) ∙ h)) (λ l. past i l) (cases_lt i n);
  };
  bytes = ext_get_or 0 (bytes_of codes runs) (cleaned rule read) (length-bytes_of codes runs ∙ long ∙ all
      ∙ sym (length-cleaned rule read))
      (λ i h. let count = length-bytes_of codes runs in
      let low : i < n = omega (arith, h, count, long) in
      get_or-bytes_of codes runs i 0 (omega (arith, low, long))
      ∙ ap (λ b. cond b unusable (base (get_or codes i 0))) (gaps.gaps i low)
      ∙ ap (λ c. cond (leb 4 (usable_code rule read i)) unusable (base c)) (here i low)
      ∙ byte-cleaned rule read i ∙ sym (get_or-cleaned rule read i (omega (arith, low, all))));
}
  where
    long : length codes ≡ n
    long = ap length is ∙ length-packed_codes rule read n

    here : (i : ℕ) → i < n → get_or codes i 0 ≡ usable_code rule read i % 4
    here i h = ap (λ xs. get_or xs i 0) is ∙ get_or-packed_codes rule read n i h

    past : (i : ℕ) → n ≤ i → get_or codes i 0 ≡ 0
    past i h = get_or_past codes i 0 (omega (arith, long, h))

    cleared : (i : ℕ) → leb 4 (usable_code rule read i) ≡ true → usable_code rule read i % 4 ≡ 0
    cleared i h = ⊎_elim
        (λ u. absurd (let small = code-lt (to_ascii_uppercase (get_or read.bases i 0)) in
        let value : usable_code rule read i ≡ code (to_ascii_uppercase (get_or read.bases i 0)) = cond-true _ _ 4 u in
        true≢false (sym h ∙ lt-leb 4 (usable_code rule read i) (omega (arith, small, value)))))
        (λ u. let value : usable_code rule read i ≡ 4 = cond-false _ (code (to_ascii_uppercase (get_or read.bases i 0))) 4 u in omega (arith, value))
        (cases_Bool (is_usable rule read i))

-- the result of the test of the codes seen so far
pub few-seen : (seen : ℕ) → leb 4 seen ≡ false → seen < 4
few-seen seen h = ⊎_elim (λ l. l) (λ l. absurd (true≢false (sym (le-leb 4 seen l) ∙ h))) (cases_lt seen 4)

-- ---- a read, block by block

-- the codes and the gaps of the first bases
pub record AreUsableCodes (rule : CountingRule) (read : Read) (n : ℕ) (codes : List ℕ) (runs : List Run) : Type 0 where
  pub codes_are : codes ≡ packed_codes rule read n
  pub gaps : AreGaps rule read n runs

pub usable-none : (rule : CountingRule) (read : Read) (codes : List ℕ) (runs : List Run) → codes ≡ [] → runs ≡ []
    → AreUsableCodes rule read 0 codes runs
unfolding packed_codes
usable-none rule read codes runs none empty = record { codes_are = none; gaps = gaps-none rule read runs empty }

pub length-usable : (rule : CountingRule) (read : Read) (n : ℕ) (codes : List ℕ) (runs : List Run)
    → AreUsableCodes rule read n codes runs → length codes ≡ n
length-usable rule read n codes runs before = ap length before.codes_are ∙ length-packed_codes rule read n
