-- A number that is read digit by digit.
use Rattle.std.proofs.Common.{◌≡◌, ℕ, ◌<◌, ◌≤◌, ◌+◌, ◌*◌, ◌-◌, ◌^◌, Bool, true, false, List, [], ◌∷◌, map, Option}
use Rattle.std.proofs.Common.{Some, None, ◌⊎◌, inl, inr, length, get_or, refl, sym, ◌∙◌, ap, subst, arith}
use Rattle.std.specs.Prelude.{◌&&◌, nat_le, option_map, if◌then◌else◌}
use Rattle.std.specs.Char.{is_ascii_digit}
use Rattle.std.specs.Ffi.{without_last}
use Rattle.std.specs.Option.{SomeIff, option_and_then}
use Rattle.std.specs.List.{list_all}
use Rattle.std.specs.Int.Digits.{number_from_digits_after}
use Rattle.std.proofs.lemmas.Bool.Decides.{nat_tests}
use Rattle.std.proofs.lemmas.Bool.{cases_lt}
use Rattle.std.proofs.lemmas.Option.{slice_get-get_or}
use Rattle.kc_command.specs.Numbers.{digit, decimal_value, is_number, number_of, between, last_byte, scaled_number, unit}
use Rattle.kc_command.specs.Numbers.{with_unit}

-- The number that was read, and the digits that are left, are those of the text.
pub record Reads (text : List ℕ) (number : ℕ) (rest : List ℕ) : Type 0 where
  pub value : number_from_digits_after 10 number (map digit rest) ≡ decimal_value text
  pub fits : number < 2 ^ 64
  pub digits : list_all is_ascii_digit rest ≡ list_all is_ascii_digit text

nat_le-true : (a b : ℕ) → a ≤ b → nat_le a b ≡ true
nat_le-true a b h = grind (arith, nat_tests)

nat_le-false : (a b : ℕ) → b < a → nat_le a b ≡ false
nat_le-false a b h = grind (arith, nat_tests)

never : (b : Bool) (n : ℕ) → (if b && false then Some n else None) ≡ None
never true n = refl
never false n = refl

-- A number never shrinks by more digits.
pub after_grows : (n : ℕ) (ds : List ℕ) → n ≤ number_from_digits_after 10 n ds
after_grows n [] = omega arith
after_grows n (d ∷ ds) = omega (arith, after_grows (n * 10 + d) ds)

-- A digit joins the number that was read.
pub one_more : (text : List ℕ) (n b : ℕ) (rest : List ℕ) → is_ascii_digit b ≡ true → n * 10 + digit b < 2 ^ 64
    → Reads text n (b ∷ rest) → Reads text (n * 10 + digit b) rest
one_more text n b rest good fits r = record {
  value = r.value;
  fits = fits;
  digits = sym (ap (λ v. v && list_all is_ascii_digit rest) good) ∙ r.digits;
}

-- A byte that is no digit: the text is no number.
pub letter : (text : List ℕ) (n b : ℕ) (rest : List ℕ) → is_ascii_digit b ≡ false → Reads text n (b ∷ rest)
    → number_of text ≡ None
letter [] n b rest bad r = refl
letter (t ∷ ts) n b rest bad r =
    let none : list_all is_ascii_digit (t ∷ ts) ≡ false =
    sym r.digits ∙ ap (λ v. v && list_all is_ascii_digit rest) bad in
    ap (λ v. if v then Some (decimal_value (t ∷ ts)) else None) none

-- A number that passes the upper bound.
pub passes : (least most n : ℕ) → most < n → between least most (Some n) ≡ None
passes least most n above = rw (nat_le-false n most above) (never (nat_le least n) n)

-- If a number is none, or passes 64 bits, no bound lets it through.
pub too_great : (text : List ℕ) (n b : ℕ) (rest : List ℕ) → 2 ^ 64 ≤ n * 10 + digit b → Reads text n (b ∷ rest)
    → between 0 (2 ^ 64 - 1) (number_of text) ≡ None
too_great text n b rest above r =
    let grown : n * 10 + digit b ≤ decimal_value text =
    subst (λ v. n * 10 + digit b ≤ v) r.value (after_grows (n * 10 + digit b) (map digit rest)) in
    pick (is_number text) (passes 0 (2 ^ 64 - 1) (decimal_value text) (omega arith)) where
      pick : (is : Bool) → between 0 (2 ^ 64 - 1) (Some (decimal_value text)) ≡ None
          → between 0 (2 ^ 64 - 1) (if is then Some (decimal_value text) else None) ≡ None
      pick true none = none
      pick false none = refl

-- A number between the bounds.
pub fits : (least most n : ℕ) → least ≤ n → n ≤ most → between least most (Some n) ≡ Some n
fits least most n low high =
    ap (λ v. if v && nat_le n most then Some n else None) (nat_le-true least n low)
    ∙ ap (λ v. if true && v then Some n else None) (nat_le-true n most high)

-- No digit is left.
pub ended : (text : List ℕ) (n : ℕ) → (text ≡ [] → ⊥) → Reads text n [] → number_of text ≡ Some n
ended [] n some r = absurd (some refl)
ended (t ∷ ts) n some r =
    let value : decimal_value (t ∷ ts) ≡ n = sym r.value in
    let digits : list_all is_ascii_digit (t ∷ ts) ≡ true = sym r.digits in
    ap (λ v. if v then Some (decimal_value (t ∷ ts)) else None) digits ∙ ap Some value

-- Bounds within 64 bits ask the same of a number as of one that fits them.
pub between_twice : (least most : ℕ) (number : Option ℕ) → most < 2 ^ 64
    → between least most (between 0 (2 ^ 64 - 1) number) ≡ between least most number
between_twice least most None small = refl
between_twice least most (Some n) small = pick (cases_lt n (2 ^ 64)) where
  pick : (n < 2 ^ 64) ⊎ (2 ^ 64 ≤ n)
      → between least most (between 0 (2 ^ 64 - 1) (Some n)) ≡ between least most (Some n)
  pick (inl below) = ap (between least most) (fits 0 (2 ^ 64 - 1) n (omega arith) (omega (arith, below)))
  pick (inr above) =
      ap (between least most) (passes 0 (2 ^ 64 - 1) n (omega (arith, above)))
      ∙ sym (passes least most n (omega (arith, above, small)))

-- A number that is between bounds is that number.
pub stands : (least most n : ℕ) (number : Option ℕ) → Some n ≡ between least most number → number ≡ Some n
stands least most n None e = cc
stands least most n (Some m) e = pick (nat_le least m && nat_le m most) e where
  pick : (b : Bool) → Some n ≡ (if b then Some m else None) → Some m ≡ Some n
  pick true e = sym e
  pick false e = cc

not_below : {n : ℕ} → (n < 2 ^ 64 → ⊥) → 2 ^ 64 - 1 < n
not_below {n} h = elim (cases_lt n (2 ^ 64)) [ inl below ↦ absurd (h below) | inr above ↦ omega (arith, above) ]

-- A number with a unit after it.
pub times_unit : (text : List ℕ) (n u : ℕ) (r : Option ℕ) → 1 ≤ length text
    → Some n ≡ between 0 (2 ^ 64 - 1) (number_of (without_last text))
    → Some u ≡ unit (get_or text (length text - 1) 0) → SomeIff r (n * u < 2 ^ 64) (n * u)
    → r ≡ between 0 (2 ^ 64 - 1) (scaled_number text)
times_unit text n u r some number suffix product = pick r product ∙ sym (ap (between 0 (2 ^ 64 - 1)) scaled) where
  last : last_byte text ≡ Some (get_or text (length text - 1) 0)
  last = slice_get-get_or text (length text - 1) 0 (omega (arith, some))

  scaled : scaled_number text ≡ Some (n * u)
  scaled =
      ap (λ s. with_unit s text) (ap (option_and_then unit) last ∙ sym suffix)
      ∙ ap (option_map (λ m. m * u)) (stands 0 (2 ^ 64 - 1) n (number_of (without_last text)) number)

  pick : (r : Option ℕ) → SomeIff r (n * u < 2 ^ 64) (n * u) → r ≡ between 0 (2 ^ 64 - 1) (Some (n * u))
  pick None above = sym (passes 0 (2 ^ 64 - 1) (n * u) (not_below above))
  pick (Some m) is = ap Some is.1 ∙ sym (fits 0 (2 ^ 64 - 1) (n * u) (omega arith) (omega (arith, is.0)))

-- A digit that was read has its value.
pub digit_is : (byte n : ℕ) → Some n ≡ (if is_ascii_digit byte then Some (byte - 48) else None) → n ≡ digit byte
digit_is byte n e = pick (is_ascii_digit byte) e where
  pick : (b : Bool) → Some n ≡ (if b then Some (byte - 48) else None) → n ≡ digit byte
  pick true h = cc
  pick false h = cc
