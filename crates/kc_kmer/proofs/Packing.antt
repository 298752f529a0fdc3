-- How bytes are packed into a number, one after another.
use Rattle.std.proofs.Common.{◌≡◌, ◌≢◌, ℕ, ◌+◌, ◌*◌, ◌^◌, ◌<◌, ◌≤◌, ⊎_elim, true, cond, List, [], ◌∷◌, map, length, get_or, take, refl, ap, sym, ◌∙◌, subst, arith, lit<}
use Rattle.std.proofs.Math.Nat.{pow-le-pow_right}
use Rattle.std.proofs.lemmas.Bool.{cases_Bool, cond-true, cond-false, and_from}
use Rattle.std.proofs.lemmas.List.{take_all, length-map, length-take-le, map_more, get_or-map}
use Rattle.std.proofs.lemmas.List.Sums.{AllPass-from_list_all}
use Rattle.std.specs.Char.{to_ascii_uppercase}
use Rattle.kc_kmer.specs.Letter.{is_base, are_bases, code}
use Rattle.kc_kmer.specs.Word.{number, text}
use Rattle.kc_kmer.proofs.WordLemmas.{code-lt, number-nil, number-lt, number_push-base, list_all-append, text-number}

-- the bytes are bases in either case, and this is their number
pub record IsPacked (bytes : List ℕ) (n : ℕ) : Type 0 where
  pub bases : are_bases (map to_ascii_uppercase bytes) ≡ true
  pub value : n ≡ number (map to_ascii_uppercase bytes)

pub IsPacked-none : IsPacked [] 0
IsPacked-none = record { bases = refl; value = sym number-nil }

pub IsPacked-more : (bytes : List ℕ) (i n c : ℕ) → i < length bytes → is_base (to_ascii_uppercase (get_or bytes i 0)) ≡ true → c ≡ code (to_ascii_uppercase (get_or bytes i 0)) → IsPacked (take i bytes) n → IsPacked (take (i + 1) bytes) (n * 4 + c)
IsPacked-more bytes i n c h b e p =
    let more = map_more to_ascii_uppercase bytes i 0 h in
    let letter : ℕ = to_ascii_uppercase (get_or bytes i 0) in
    record {
      bases = ap are_bases more ∙ list_all-append is_base (map to_ascii_uppercase (take i bytes)) (letter ∷ []) ∙ and_from _ _ p.bases (and_from _ _ b refl);
      value = ap (λ m. m * 4 + c) p.value ∙ ap (λ m. number (map to_ascii_uppercase (take i bytes)) * 4 + m) e
          ∙ sym (number_push-base (map to_ascii_uppercase (take i bytes)) letter) ∙ ap number (sym more);
    }

-- the number of at most 30 bytes has room for one more base
pub IsPacked-fits : (bytes : List ℕ) (i n : ℕ) → i < length bytes → length bytes ≤ 31 → IsPacked (take i bytes) n → n < 2 ^ 60
IsPacked-fits bytes i n h most p =
    let short : length (map to_ascii_uppercase (take i bytes)) ≡ i = length-map (take i bytes) to_ascii_uppercase ∙ length-take-le i bytes (omega arith) in
    let below : number (map to_ascii_uppercase (take i bytes)) < 4 ^ i = subst (λ m. number (map to_ascii_uppercase (take i bytes)) < 4 ^ m) short (number-lt (map to_ascii_uppercase (take i bytes))) in
    let power : 4 ^ i ≤ 4 ^ 30 = let exponent : i ≤ 30 = omega arith in pow-le-pow_right {n = 4} (lit< tt) exponent in
    let value = p.value in
    omega (arith, value, below, power)

-- the meaning of a byte's code: below 4 the byte is a base, and this is its code
pub code-found : (byte c : ℕ) → c ≡ cond (is_base (to_ascii_uppercase byte)) (code (to_ascii_uppercase byte)) 4 → c ≢ 4 → (is_base (to_ascii_uppercase byte) ≡ true) × (c ≡ code (to_ascii_uppercase byte))
code-found byte c e ne =
    ⊎_elim (λ h. (h, e ∙ cond-true _ _ _ h)) (λ h. absurd (ne (e ∙ cond-false _ _ _ h))) (cases_Bool (is_base (to_ascii_uppercase byte)))

pub code-missing : (byte c : ℕ) → c ≡ cond (is_base (to_ascii_uppercase byte)) (code (to_ascii_uppercase byte)) 4 → c ≡ 4 → is_base (to_ascii_uppercase byte) ≡ true → ⊥
code-missing byte c e is h =
    let small = code-lt (to_ascii_uppercase byte) in
    let value : c ≡ code (to_ascii_uppercase byte) = e ∙ cond-true _ _ _ h in
    omega (arith, small, value, is)

-- each byte of bases is one
pub base-at : (bytes : List ℕ) (i : ℕ) → i < length bytes → are_bases (map to_ascii_uppercase bytes) ≡ true → is_base (to_ascii_uppercase (get_or bytes i 0)) ≡ true
base-at bytes i h all =
    ap is_base (sym (get_or-map to_ascii_uppercase bytes i 0 0 h))
    ∙ AllPass-from_list_all is_base (map to_ascii_uppercase bytes) all i 0 (subst (λ m. i < m) (sym (length-map bytes to_ascii_uppercase)) h)

-- at the end the number is below 4 ^ k, and its text is that of the bytes
pub record IsPackedWord (k : ℕ) (bytes : List ℕ) (n : ℕ) : Type 0 where
  pub bases : are_bases (map to_ascii_uppercase bytes) ≡ true
  pub below : n < 4 ^ k
  pub spelled : text k n ≡ map to_ascii_uppercase bytes

pub IsPacked-all : (k : ℕ) (bytes : List ℕ) (i n : ℕ) → length bytes ≡ k → length bytes ≤ i → IsPacked (take i bytes) n → IsPackedWord k bytes n
IsPacked-all k bytes i n e h p =
    let whole : take i bytes ≡ bytes = take_all i bytes h in
    let bases : are_bases (map to_ascii_uppercase bytes) ≡ true = ap (λ bs. are_bases (map to_ascii_uppercase bs)) (sym whole) ∙ p.bases in
    let value : n ≡ number (map to_ascii_uppercase bytes) = p.value ∙ ap (λ bs. number (map to_ascii_uppercase bs)) whole in
    let long : length (map to_ascii_uppercase bytes) ≡ k = length-map bytes to_ascii_uppercase ∙ e in
    record {
      bases = bases;
      below = let small : number (map to_ascii_uppercase bytes) < 4 ^ k = subst (λ m. number (map to_ascii_uppercase bytes) < 4 ^ m) long (number-lt (map to_ascii_uppercase bytes)) in omega (arith, value, small);
      spelled = ap (text k) value ∙ text-number k (map to_ascii_uppercase bytes) long bases;
    }
