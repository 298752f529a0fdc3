-- The front of bytes that begin with a row.
use Rattle.std.proofs.Common.{◌≡◌, ◌≢◌, ℕ, suc, ◌+◌, ◌-◌, ◌*◌, ◌/◌, ◌%◌, ◌^◌, ◌<◌, ◌≤◌, true, false, List, [], ◌∷◌, ◌++◌, length}
use Rattle.std.proofs.Common.{take, drop, get_or, refl, sym, ◌∙◌, ap, subst, append_assoc, arith, eqb, eq-eqb}
use Rattle.std.proofs.Common.{⊎_elim, lit<, drop-cons}
use Rattle.std.specs.Prelude.{decimal, IsTrue, IfNone, Option, Some, None}
use Rattle.std.specs.Char.{digit_value}
use Rattle.std.specs.Int.{IsInRange}
use Rattle.std.specs.Str.Parse.{AllDigits, digits_value}
use Rattle.std.proofs.Math.Nat.{pow-le-pow_right}
use Rattle.std.proofs.Math.Seq.{take-add, take-append_seam, drop-append_seam}
use Rattle.std.proofs.lemmas.Bool.{eqb-true, cases_Bool, cases_lt, cond-true, cond-false, and_from}
use Rattle.std.proofs.lemmas.Fmt.{decimal_is_IsNumeral, decimal-digits_value, decimal_digit, first_decimal, length-decimal-le}
use Rattle.std.proofs.lemmas.Int.Digits.{digits_push, digits_value_more}
use Rattle.std.proofs.lemmas.List.{length-append, take_more, take_all, get_or-take, get_or-drop}
use Rattle.std.proofs.lemmas.List.{length-take-le, take-append-drop, length-drop, get_or_append_left}
use Rattle.std.proofs.lemmas.Str.{digit_value_digit}
use Rattle.std.proofs.lemmas.Str.Parse.{IsNumeralModel, numerals_by_value, tells_digits, digits_value_short}
use Rattle.std.proofs.lemmas.Str.Parse.{digit_from_value}
use Rattle.std.proofs.lemmas.List.Sums.{AllPass-from_list_all}
use Rattle.kc_kmer.specs.Letter.{is_base, are_bases, code, base}
use Rattle.kc_kmer.specs.Word.{number, text, canonical, form}
use Rattle.kc_kmer.proofs.WordLemmas.{code-lt, number-nil, number-lt, number_push-base, list_all-append, text-number}
use Rattle.kc_kmer.proofs.WordLemmas.{base-code, code-base, is_base-base}
use Rattle.kc_kmer.proofs.WordLemmas.{length-text, are_bases-text, same_from_text}
use Rattle.kc_tally.specs.declared.row.Row.{Row}
use Rattle.kc_report.specs.Bytes.{line_feed, space}
use Rattle.kc_report.specs.Dumping.{row_in_columns}
use Rattle.kc_report.specs.TableReading.{BeginsWith}
use Rattle.kc_report.specs.TableRows.{capital_code, four_letters, IsSpelled, count_text, HasDigits}
use Rattle.kc_report.proofs.LetterLemmas.{letter-small}
use Rattle.kc_report.proofs.TableLines.{row_line, first_line, Without-row, Fits, same_row}

pub never : false ≡ true → ⊥
never e = cc

-- ---- a word

pub spelled-none : IsSpelled [] 0
spelled-none = record { bases = refl; value = sym number-nil }

-- the meaning of a byte's code: below 4 the byte is a base, and this is its code
pub capital-most : (b c : ℕ) → c ≡ capital_code b → c ≤ 4
capital-most b c e =
    let small = code-lt b in
    ⊎_elim (λ h. let value = cond-true _ (code b) 4 h in omega (arith, small, value, e))
    (λ h. let value = cond-false _ (code b) 4 h in omega (arith, value, e)) (cases_Bool (is_base b))

pub capital-base : (b c : ℕ) → c ≡ capital_code b → c ≢ 4 → (is_base b ≡ true) × (c ≡ code b)
capital-base b c e other =
    ⊎_elim (λ h. (h, e ∙ cond-true _ (code b) 4 h)) (λ h. absurd (other (e ∙ cond-false _ (code b) 4 h)))
    (cases_Bool (is_base b))

capital-none : (b c : ℕ) → c ≡ capital_code b → c ≡ 4 → is_base b ≡ true → ⊥
capital-none b c e is h =
    let small = code-lt b in let value = cond-true _ (code b) 4 h in omega (arith, small, value, e, is)

-- one more letter
pub spelled-more : (letters : List ℕ) (i n c : ℕ) → i < length letters → is_base (get_or letters i 0) ≡ true
    → c ≡ code (get_or letters i 0) → IsSpelled (take i letters) n → IsSpelled (take (i + 1) letters) (n * 4 + c)
spelled-more letters i n c h is e s =
    let more = take_more letters i 0 h in
    let b = get_or letters i 0 in
    record {
      bases = ap are_bases more ∙ list_all-append is_base (take i letters) (b ∷ [])
          ∙ and_from _ _ s.bases (and_from _ _ is refl);
      value = let pushed = number_push-base (take i letters) b in
          let value = s.value in
          let whole = ap number more in
          omega (arith, pushed, value, whole, e);
    }

-- a number of so few letters has room for more
pub spelled-below : (letters : List ℕ) (i j n : ℕ) → length (take i letters) ≤ j → IsSpelled (take i letters) n
    → n < 4 ^ j
spelled-below letters i j n short s =
    let small = number-lt (take i letters) in
    let power : 4 ^ length (take i letters) ≤ 4 ^ j = pow-le-pow_right {n = 4} (lit< tt) short in
    let value = s.value in
    omega (arith, small, power, value)

pub spelled-fits : (letters : List ℕ) (i n : ℕ) → i < length letters → length letters ≤ 31
    → IsSpelled (take i letters) n → n < 4 ^ 30
spelled-fits letters i n h most s =
    let long = length-take-le i letters (omega (arith, h)) in
    let short : length (take i letters) ≤ 30 = omega (arith, long, h, most) in
    spelled-below letters i 30 n short s

pub spelled-fits_four : (letters : List ℕ) (j n : ℕ) → j < length letters / 4 → length letters ≤ 31
    → IsSpelled (take (j * 4) letters) n → n < 4 ^ 27
spelled-fits_four letters j n h most s =
    let long = length-take-le (j * 4) letters (omega (arith, h)) in
    let short : length (take (j * 4) letters) ≤ 27 = omega (arith, long, h, most) in
    spelled-below letters (j * 4) 27 n short s

-- each letter of bases is one
pub base_at : (letters : List ℕ) (i : ℕ) → i < length letters → are_bases letters ≡ true
    → is_base (get_or letters i 0) ≡ true
base_at letters i h all = AllPass-from_list_all is_base letters all i 0 h

pub unless_bases : (letters : List ℕ) → (are_bases letters ≡ true → ⊥) → are_bases letters ≡ false
unless_bases letters none =
    ⊎_elim (λ h. absurd (none h)) (λ h. h) (cases_Bool (are_bases letters))

pub no_bases : (letters : List ℕ) (i c : ℕ) → i < length letters → c ≡ capital_code (get_or letters i 0) → c ≡ 4
    → are_bases letters ≡ false
no_bases letters i c h e is =
    unless_bases letters (λ all. capital-none (get_or letters i 0) c e is (base_at letters i h all))

-- ---- four letters

-- four bytes, and their number
pub record Four (a b c d n : ℕ) : Type 0 where
  pub first : a < 256
  pub second : b < 256
  pub third : c < 256
  pub fourth : d < 256
  pub whole : n ≡ a + b * 256 + c * 65536 + d * 16777216

pub record FourBases (a b c d codes : ℕ) : Type 0 where
  pub first : a ≡ base (codes / 64 % 4)
  pub second : b ≡ base (codes / 16 % 4)
  pub third : c ≡ base (codes / 4 % 4)
  pub fourth : d ≡ base (codes % 4)

pub four_found : {a b c d n : ℕ} (codes : ℕ) → Four a b c d n → n ≡ four_letters codes → FourBases a b c d codes
four_found {a} {b} {c} {d} {n} codes f e =
    let ia = letter-small (codes / 64 % 4) (omega arith) in
    let ib = letter-small (codes / 16 % 4) (omega arith) in
    let ic = letter-small (codes / 4 % 4) (omega arith) in
    let id = letter-small (codes % 4) (omega arith) in
    let whole = f.whole in
    let fa = f.first in
    let fb = f.second in
    let fc = f.third in
    let fd = f.fourth in
    record {
      first = omega (arith, ia, ib, ic, id, whole, fa, fb, fc, fd, e);
      second = omega (arith, ia, ib, ic, id, whole, fa, fb, fc, fd, e);
      third = omega (arith, ia, ib, ic, id, whole, fa, fb, fc, fd, e);
      fourth = omega (arith, ia, ib, ic, id, whole, fa, fb, fc, fd, e);
    }

-- four letters more
pub spelled-four : (letters : List ℕ) (j n codes : ℕ) → j < length letters / 4 → codes < 256
    → FourBases (get_or letters (j * 4) 0) (get_or letters (j * 4 + 1) 0) (get_or letters (j * 4 + 2) 0)
    (get_or letters (j * 4 + 3) 0) codes
    → IsSpelled (take (j * 4) letters) n → IsSpelled (take ((j + 1) * 4) letters) (n * 256 + codes)
spelled-four letters j n codes h small f s =
    let one = next (j * 4) (j * 4 + 1) (omega arith) (codes / 64) (omega (arith, h)) f.first s in
    let two = next (j * 4 + 1) (j * 4 + 2) (omega arith) (codes / 16) (omega (arith, h)) f.second one in
    let three = next (j * 4 + 2) (j * 4 + 3) (omega arith) (codes / 4) (omega (arith, h)) f.third two in
    let four = next (j * 4 + 3) ((j + 1) * 4) (omega arith) codes (omega (arith, h)) f.fourth three in
    let value : (((n * 4 + codes / 64 % 4) * 4 + codes / 16 % 4) * 4 + codes / 4 % 4) * 4 + codes % 4 ≡ n * 256 + codes =
    omega (arith, small) in
    subst (λ m. IsSpelled (take ((j + 1) * 4) letters) m) value four where
      is : {b : ℕ} (m : ℕ) → b ≡ base (m % 4) → is_base b ≡ true
      is {b} m e = ap is_base e ∙ is_base-base (m % 4) (omega arith)

      coded : {b : ℕ} (m : ℕ) → b ≡ base (m % 4) → m % 4 ≡ code b
      coded {b} m e = sym (ap code e ∙ code-base (m % 4) (omega arith))

      next : {n : ℕ} (i k : ℕ) → k ≡ i + 1 → (m : ℕ) → i < length letters → get_or letters i 0 ≡ base (m % 4)
          → IsSpelled (take i letters) n → IsSpelled (take k letters) (n * 4 + m % 4)
      next {n} i k e m h f s = subst (λ k. IsSpelled (take k letters) (n * 4 + m % 4)) (sym e)
          (spelled-more letters i n (m % 4) h (is m f) (coded m f) s)

-- the codes of four bases, and the number of their letters
pub four_codes : {a b c d n : ℕ} → Four a b c d n → is_base a ≡ true → is_base b ≡ true → is_base c ≡ true
    → is_base d ≡ true → (codes : ℕ) × (codes < 256) × (n ≡ four_letters codes)
four_codes {a} {b} {c} {d} {n} f ia ib ic id =
    let ca = code-lt a in
    let cb = code-lt b in
    let cc_ = code-lt c in
    let cd = code-lt d in
    let codes : ℕ = code a * 64 + code b * 16 + code c * 4 + code d in
    let la : base (codes / 64 % 4) ≡ a = ap base (omega (arith, ca, cb, cc_, cd)) ∙ base-code a ia in
    let lb : base (codes / 16 % 4) ≡ b = ap base (omega (arith, ca, cb, cc_, cd)) ∙ base-code b ib in
    let lc : base (codes / 4 % 4) ≡ c = ap base (omega (arith, ca, cb, cc_, cd)) ∙ base-code c ic in
    let ld : base (codes % 4) ≡ d = ap base (omega (arith, ca, cb, cc_, cd)) ∙ base-code d id in
    let whole = f.whole in
    (codes, omega (arith, ca, cb, cc_, cd), omega (arith, whole, la, lb, lc, ld))

-- no four letters of bases
pub no_four : {n entry : ℕ} (letters : List ℕ) (j found : ℕ) → j < length letters / 4
    → Four (get_or letters (j * 4) 0) (get_or letters (j * 4 + 1) 0) (get_or letters (j * 4 + 2) 0)
    (get_or letters (j * 4 + 3) 0) n
    → ((codes : ℕ) → codes < 256 → n ≡ four_letters codes → found ≡ codes) → entry ≢ n → entry ≡ four_letters found
    → are_bases letters ≡ false
no_four {n} {entry} letters j found h f inverse other is = unless_bases letters (λ all.
    let told = four_codes f (base_at letters (j * 4) (omega (arith, h)) all)
    (base_at letters (j * 4 + 1) (omega (arith, h)) all) (base_at letters (j * 4 + 2) (omega (arith, h)) all)
    (base_at letters (j * 4 + 3) (omega (arith, h)) all) in
    let same = inverse told.0 told.1 told.2 in
    other (is ∙ ap four_letters same ∙ sym told.2))

-- ---- at the end

pub record IsWordOf (k : ℕ) (letters : List ℕ) (n : ℕ) : Type 0 where
  pub below : n < 4 ^ k
  pub spelled : letters ≡ text k n

pub spelled-all : (k : ℕ) (letters : List ℕ) (n : ℕ) → length letters ≡ k → IsSpelled letters n → IsWordOf k letters n
spelled-all k letters n long s =
    let value = s.value in
    record {
      below = let small = subst (λ m. number letters < 4 ^ m) long (number-lt letters) in omega (arith, value, small);
      spelled = sym (ap (text k) value ∙ text-number k letters long s.bases);
    }

-- other bytes spell no word
pub spelled-none_of : (k word : ℕ) (letters : List ℕ) → are_bases letters ≡ false → letters ≡ text k word → ⊥
spelled-none_of k word letters none e = never (sym none ∙ ap are_bases e ∙ are_bases-text k word)

pub other_length : (k g word : ℕ) (letters : List ℕ) → g ≡ k → length letters ≢ g → letters ≡ text k word → ⊥
other_length k g word letters same other e = other (ap length e ∙ length-text k word ∙ sym same)

-- ---- a count

-- what a loop over digits knows
pub record Digits (bytes : List ℕ) (i n : ℕ) : Type 0 where
  pub digits : AllDigits 10 (take i bytes)
  pub value : n ≡ digits_value 10 (take i bytes) % 2 ^ 64

pub digit-is : (b d : ℕ) → b < 256 → d ≡ (b + 208) % 256 → d ≤ 9 → IsInRange 48 57 b × (d ≡ digit_value b)
digit-is b d small e h =
    let range : IsInRange 48 57 b = (omega (arith, small, e, h), omega (arith, small, e, h)) in
    let value = digit_value_digit b range in
    (range, omega (arith, small, e, h, value, range.0, range.1))

pub digit-isnt : (b d : ℕ) → b < 256 → d ≡ (b + 208) % 256 → 9 < d → 10 ≤ digit_value b
digit-isnt b d small e h = ⊎_elim
    (λ l. let range = digit_from_value b l in absurd (omega (arith, small, e, h, range.0, range.1)))
    (λ l. l) (cases_lt (digit_value b) 10)

pub digits-more : {n m : ℕ} (bytes : List ℕ) (i d : ℕ) → Digits bytes i n → i < length bytes
    → digit_value (get_or bytes i 0) ≡ d → d ≤ 9 → m ≡ (n * 10 % 2 ^ 64 + d) % 2 ^ 64 → Digits bytes (i + 1) m
digits-more {n} {m} bytes i d s h is small e = record {
  digits = subst (AllDigits 10) (sym (take_more bytes i 0 h))
      (digits_push 10 (take i bytes) (get_or bytes i 0) s.digits (omega (arith, is, small)));
  value = let more = digits_value_more 10 bytes i h in
      let value = s.value in
      omega (arith, more, value, is, e);
}

-- ---- numbers that count_of takes and refuses

own : IsNumeralModel (AllDigits 10) (digits_value 10)
own = numerals_by_value (AllDigits 10) tells_digits

pub record IsCounted (digits : List ℕ) (n many : ℕ) : Type 0 where
  pub said : take many digits ≡ decimal n
  pub small : n < 2 ^ 64

pub counted : {digits : List ℕ} {n many : ℕ} → HasDigits digits n many → 1 ≤ many → many ≤ 19
    → get_or digits 0 0 ≢ 48 → IsCounted digits n many
counted {digits} {n} {many} s some most first =
    let ds = take many digits in
    let long : length ds ≡ many = length-take-le many digits s.within in
    let short : digits_value 10 ds < 10 ^ 19 = digits_value_short own ds 19 s.digits (omega (arith, long, most)) in
    let value = s.value in
    let lead : get_or ds 0 0 ≢ 48 = λ e. first (sym (get_or-take many digits 0 0 (omega (arith, some))) ∙ e) in
    let same : digits_value 10 ds ≡ n = omega (arith, short, value) in
    record {
      said = sym (ap decimal (sym same)
          ∙ decimal-digits_value own ds s.digits (omega (arith, long, some)) (λ e. absurd (lead e)) (omega (arith, short)));
      small = omega (arith, short, same);
    }

-- the first byte that is no digit ends the digits
pub first_other : (stop : ℕ) → stop < 48 → (a b x rest : List ℕ) → AllDigits 10 a → AllDigits 10 b
    → (0 < length x → 10 ≤ digit_value (get_or x 0 0)) → a ++ x ≡ b ++ stop ∷ rest → (a ≡ b) × (x ≡ stop ∷ rest)
first_other stop low [] [] x rest p q none e = (refl, e)
first_other stop low [] (d ∷ b) x rest p q none e =
    let here : 0 < length x = omega (arith, ap length e) in
    let high = none here in
    let digit = q.0 in
    let same = ap (λ v. digit_value (get_or v 0 0)) e in
    absurd (omega (arith, high, digit, same))
first_other stop low (c ∷ a) [] x rest p q none e =
    let same : c ≡ stop = ap (λ v. get_or v 0 0) e in
    let range = digit_from_value c p.0 in
    absurd (omega (arith, same, range.0, low))
first_other stop low (c ∷ a) (d ∷ b) x rest p q none e =
    let head : c ≡ d = ap (λ v. get_or v 0 0) e in
    let more = first_other stop low a b x rest p.1 q.1 none (ap (drop 1) e) in
    (rw (head, more.0) refl, more.1)

-- no digit follows the digits
pub digits_end : {bytes : List ℕ} {n many : ℕ} → HasDigits bytes n many → 0 < length (drop many bytes) → 10 ≤ digit_value (get_or (drop many bytes) 0 0)
digits_end {bytes} {n} {many} s h =
    let here : get_or (drop many bytes) 0 0 ≡ get_or bytes many 0 = get_or-drop many bytes 0 0 ∙ ap (λ i. get_or bytes i 0) (omega arith) in
    let left = length-drop many bytes in
    subst (λ b. 10 ≤ digit_value b) (sym here) (s.last (omega (arith, h, left)))

-- ---- fields that begin with a count

-- what follows the first byte
pub behind_first : (fields : List ℕ) → take (length fields - 1) (drop 1 fields) ≡ drop 1 fields
behind_first fields = let left = length-drop 1 fields in take_all (length fields - 1) (drop 1 fields) (omega (arith, left))

pub first_is : {digits : List ℕ} (fields : List ℕ) → 1 ≤ length fields → get_or fields 0 0 ≡ 32
    → digits ≡ take (length fields - 1) (drop 1 fields) → fields ≡ 32 ∷ digits
first_is fields some first is = drop-cons fields 0 0 some ∙ ap (λ b. b ∷ drop 1 fields) first
    ∙ ap (λ v. 32 ∷ v) (sym (is ∙ behind_first fields))

-- the contents of the digits then
pub record Tells (digits : List ℕ) (many : ℕ) : Type 0 where
  pub some : 1 ≤ many
  pub most : many ≤ 19
  pub first : 48 < get_or digits 0 0
  pub inside : many < length digits
  pub end : get_or digits many 0 ≡ 10

pub tells : {digits : List ℕ} {n many : ℕ} (fields : List ℕ) (count : ℕ) → HasDigits digits n many
    → digits ≡ drop 1 fields → 1 ≤ count → count ≤ 2 ^ 62 → BeginsWith fields (count_text count) → Tells digits many
tells {digits} {n} {many} fields count s behind some most at =
    let rest = at.0 in
    let cut : digits ≡ decimal count ++ 10 ∷ rest = behind ∙ ap (drop 1) at.1
    ∙ append_assoc (decimal count) (10 ∷ []) rest in
    let numeral = (decimal_is_IsNumeral count (omega (arith, most))).0 in
    let x = drop many digits in
    let here : get_or x 0 0 ≡ get_or digits many 0 = get_or-drop many digits 0 0 ∙ ap (λ i. get_or digits i 0) (omega arith) in
    let left = length-drop many digits in
    let parts = first_other 10 (omega arith) (take many digits) (decimal count) x rest s.digits numeral.1 (digits_end s)
    (take-append-drop many digits ∙ cut) in
    let long = length-take-le many digits s.within in
    let same = ap length parts.0 in
    let end = ap length parts.1 in
    let least = numeral.0 in
    let short = length-decimal-le 19 count (omega arith) (omega (arith, most)) (omega (arith, most)) in
    record {
      some = omega (arith, long, same, least);
      most = omega (arith, long, same, short);
      first = let high = first_decimal count (omega (arith, some)) (omega (arith, most)) in
          let front = ap (λ v. get_or v 0 0) cut ∙ get_or_append_left (decimal count) (10 ∷ rest) 0 0 least in
          omega (arith, high, front);
      inside = omega (arith, end, left);
      end = sym here ∙ ap (λ v. get_or v 0 0) parts.1;
    }

-- the fields begin with the count that was read
pub fields_said : {digits : List ℕ} {n many : ℕ} (fields : List ℕ) → fields ≡ 32 ∷ digits → many < length digits
    → get_or digits many 0 ≡ 10 → IsCounted digits n many → take (many + 2) fields ≡ count_text n
fields_said {digits} {n} {many} fields e inside end c =
    let plus : many + 2 ≡ suc (many + 1) = omega arith in
    ap (λ m. take m fields) plus ∙ ap (take (suc (many + 1))) e
    ∙ ap (λ v. 32 ∷ v) (take_more digits many 0 inside ∙ ap (λ v. v ++ get_or digits many 0 ∷ []) c.said
    ∙ ap (λ b. decimal n ++ b ∷ []) end)

-- a count of one digit
pub digit_said : (fields : List ℕ) (d : ℕ) → 3 ≤ length fields → get_or fields 0 0 ≡ 32 → get_or fields 1 0 ≡ 48 + d
    → get_or fields 2 0 ≡ 10 → d < 10 → take 3 fields ≡ count_text d
digit_said [] d long blank digit end small = absurd (omega (arith, long))
digit_said (a ∷ []) d long blank digit end small = absurd (omega (arith, long))
digit_said (a ∷ b ∷ []) d long blank digit end small = absurd (omega (arith, long))
digit_said (a ∷ b ∷ c ∷ rest) d long blank digit end small =
    ap (λ x. x ∷ b ∷ c ∷ []) blank ∙ ap (λ x. 32 ∷ x ∷ c ∷ []) digit ∙ ap (λ x. 32 ∷ (48 + d) ∷ x ∷ []) end
    ∙ ap (λ ds. 32 ∷ ds ++ 10 ∷ []) (sym (decimal_digit d small))

-- ---- rows

-- the count of a row follows its word
pub row_apart : (k : ℕ) (row : Row) → row_in_columns k false row ≡ text k row.word ++ count_text row.count
row_apart k row = append_assoc (text k row.word) (space ∷ decimal row.count) (line_feed ∷ [])

pub begins_apart : {bytes : List ℕ} (k : ℕ) (row : Row) (at : BeginsWith bytes (row_in_columns k false row))
    → bytes ≡ text k row.word ++ (count_text row.count ++ at.0)
begins_apart k row at =
    at.1 ∙ ap (λ v. v ++ at.0) (row_apart k row) ∙ append_assoc (text k row.word) (count_text row.count) at.0

pub long_enough : {bytes : List ℕ} (k : ℕ) (row : Row) → BeginsWith bytes (row_in_columns k false row)
    → k ≤ length bytes
long_enough k row at =
    let whole = ap length (begins_apart k row at) in
    let parts = length-append (text k row.word) (count_text row.count ++ at.0) in
    let word = length-text k row.word in
    omega (arith, whole, parts, word)

-- the fields that the code takes
pub letters_are : {bytes letters : List ℕ} (k g : ℕ) (row : Row) → g ≡ k → letters ≡ take g bytes
    → BeginsWith bytes (row_in_columns k false row) → letters ≡ text k row.word
letters_are {bytes} k g row same taken at =
    let rest = count_text row.count ++ at.0 in
    taken ∙ ap (λ j. take j bytes) same ∙ ap (take k) (begins_apart k row at)
    ∙ subst (λ j. take j (text k row.word ++ rest) ≡ text k row.word) (length-text k row.word)
    (take-append_seam (text k row.word) rest)

pub fields_are : {bytes fields : List ℕ} (k g : ℕ) (row : Row) → g ≡ k → fields ≡ drop g bytes
    → BeginsWith bytes (row_in_columns k false row) → BeginsWith fields (count_text row.count)
fields_are {bytes} k g row same left at =
    let rest = count_text row.count ++ at.0 in (
      at.0,
      left ∙ ap (λ j. drop j bytes) same ∙ ap (drop k) (begins_apart k row at)
          ∙ subst (λ j. drop j (text k row.word ++ rest) ≡ rest) (length-text k row.word)
          (drop-append_seam (text k row.word) rest),
    )

-- so many bytes for letters, and the bytes after them
pub record IsSplitAt (bytes : List ℕ) (g : ℕ) (letters fields : List ℕ) : Type 0 where
  pub within : g ≤ length bytes
  pub front : letters ≡ take g bytes
  pub back : fields ≡ drop g bytes

-- and the row that they make
pub row_said : {bytes letters fields : List ℕ} {g : ℕ} (k word count size : ℕ) → IsSplitAt bytes g letters fields
    → letters ≡ text k word → take size fields ≡ count_text count
    → take (length letters + size) bytes ≡ row_in_columns k false (record { word = word; count = count })
row_said {bytes} {letters} {fields} {g} k word count size split spelled said =
    let long : length letters ≡ g = ap length split.front ∙ length-take-le g bytes split.within in
    ap (λ m. take (m + size) bytes) long ∙ take-add g size bytes
    ∙ ap (λ v. v ++ take size (drop g bytes)) (sym split.front ∙ spelled)
    ∙ ap (λ v. text k word ++ take size v) (sym split.back) ∙ ap (λ v. text k word ++ v) said
    ∙ sym (row_apart k (record { word = word; count = count }))

-- ---- one row

-- bytes begin with no other row
pub one_row : (k : ℕ) (row other : Row) (bytes : List ℕ) → Fits k row → Fits k other
    → BeginsWith bytes (row_in_columns k false row) → BeginsWith bytes (row_in_columns k false other) → row ≡ other
one_row k row other bytes fits fits_ at at_ =
    same_row k row other fits fits_
    (first_line (row_line k row) (row_line k other) at.0 at_.0 (Without-row k row fits.count)
    (Without-row k other fits_.count) (sym at.1 ∙ at_.1)).0

-- ---- bytes that do not begin with a row

abbrev pub SaysNone : ℕ → List ℕ → Type 0
SaysNone k bytes = (row : Row) → row.word < 4 ^ k → 1 ≤ row.count → row.count ≤ 2 ^ 62
    → BeginsWith bytes (row_in_columns k false row) → ⊥

pub says_none : {X : Type 0} (k : ℕ) (bytes : List ℕ) (answer : Option X) → SaysNone k bytes
    → IfNone answer (SaysNone k bytes)
says_none k bytes (Some x) none = tt
says_none k bytes None none = none

-- ---- forms

pub formed : (k word other : ℕ) → word < 4 ^ k → other < 4 ^ k → text k other ≡ canonical (text k word)
    → (IsTrue (eqb other word) → form true (text k word) ≡ text k word)
    × (form true (text k word) ≡ text k word → IsTrue (eqb other word))
unfolding form
formed k word other below below_ e = (
  λ is. sym e ∙ ap (text k) (eqb-true other word is),
  λ same. eq-eqb other word (same_from_text k other word below_ below (e ∙ same)),
)

pub as_it_is : (word : List ℕ) → form false word ≡ word
unfolding form
as_it_is word = refl
