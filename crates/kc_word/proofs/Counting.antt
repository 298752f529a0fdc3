-- The words of a piece as one more byte adds to them, and the rolled numbers as the code has them.
use Rattle.std.proofs.Common.{◌≡◌, ℕ, ◌+◌, ◌-◌, ◌*◌, ◌/◌, ◌%◌, ◌^◌, ◌<◌, ◌≤◌, List, [], ◌∷◌, ◌++◌, length, get_or, take, None, option_to_list, option_map, filter_map, refl, ap, sym, ◌∙◌, arith, bit_and, lit<, pow-suc, mul-le-mul_right}
use Rattle.std.proofs.lemmas.List.{map_push, take_more, append-nil}
use Rattle.std.proofs.lemmas.Nat.{one_shl, and_mask, shl_whole, pow_pos}
use Rattle.std.proofs.Math.Nat.{pow-le-pow_right}
use Rattle.kc_kmer.proofs.Letters.{pow-four}
use Rattle.kc_fastx.specs.Reads.{read_of}
use Rattle.kc_kmer.specs.Rule.{CountingRule}
use Rattle.std.specs.List.{range_with_len, flat_map}
use Rattle.kc_kmer.specs.Word.{number}
use Rattle.kc_kmer.specs.Occurrences.{words_in, words_of, counted_at}
use Rattle.kc_word.specs.Cutting.{as_reads}
use Rattle.std.proofs.lemmas.List.Concat.{flat_map-append}
use Rattle.kc_word.specs.Walking.{last_window, IsRolled}
use Rattle.kc_word.specs.declared.rolled.Rolled.{Rolled}
use Rattle.kc_word.proofs.Windows.{counted_word, words_push, words_in-windows}
use Rattle.kc_word.proofs.Rolling.{IsRolled-forward-lt, IsRolled-backward-lt}

pub words_in-none : (rule : CountingRule) → 1 ≤ rule.k → words_in rule (read_of [] None) ≡ []
unfolding words_in
words_in-none rule h = ap (λ n. filter_map (λ p. option_map number (counted_at rule (read_of [] None) p)) (range_with_len 0 n)) none
  where
    none : 1 - rule.k ≡ 0
    none = omega (arith, h)

pub words_in_push : (rule : CountingRule) (seen : List ℕ) (byte : ℕ)
    → words_in rule (read_of (seen ++ byte ∷ []) None)
    ≡ words_in rule (read_of seen None) ++ option_to_list (counted_word rule (last_window rule.k (seen ++ byte ∷ [])))
words_in_push rule seen byte =
    words_in-windows rule (seen ++ byte ∷ []) ∙ words_push rule.k rule seen byte
    ∙ ap (λ xs. xs ++ option_to_list (counted_word rule (last_window rule.k (seen ++ byte ∷ [])))) (sym (words_in-windows rule seen))

-- ---- the numbers as the code has them, with k for g

power-fits : (k : ℕ) → k ≤ 31 → 4 ^ k ≤ 2 ^ 62
power-fits k h = let power : 4 ^ k ≤ 4 ^ 31 = pow-le-pow_right (lit< tt) h in omega (arith, power)

mask-is : (k g : ℕ) → g ≡ k → k ≤ 31 → 1 * 2 ^ (2 * g) % 2 ^ 64 - 1 ≡ 2 ^ (2 * k) - 1
mask-is k g same most = ap (λ n. n - 1) (one_shl (2 * g) 64 (omega (arith, same, most)) ∙ ap (λ n. 2 ^ (2 * n)) same)

pub backward-start : (k g : ℕ) → g ≡ k → k ≤ 31 → 1 * 2 ^ (2 * g) % 2 ^ 64 - 1 + 1 ≡ 4 ^ k
backward-start k g same most =
    let mask = mask-is k g same most in
    let power = pow-four k in
    let some = pow_pos (2 * k) in
    omega (arith, mask, power, some)

pub forward-masked : (k g x : ℕ) → g ≡ k → k ≤ 31 → bit_and x (1 * 2 ^ (2 * g) % 2 ^ 64 - 1) ≡ x % 4 ^ k
forward-masked k g x same most = ap (bit_and x) (mask-is k g same most) ∙ and_mask x (2 * k) ∙ ap (λ m. x % m) (sym (pow-four k))

pub top-shifted : (k g d : ℕ) → g ≡ k → 1 ≤ k → k ≤ 31 → (3 - d) * 2 ^ (2 * (g - 1)) % 2 ^ 64 ≡ (3 - d) * 4 ^ (k - 1)
top-shifted k g d same some most =
    shl_whole (3 - d) 2 (2 * (g - 1)) 64 (omega arith) (omega (arith, same, some, most))
    ∙ ap (λ n. (3 - d) * 2 ^ (2 * (n - 1))) same ∙ ap (λ m. (3 - d) * m) (sym (pow-four (k - 1)))

-- the numbers stay below 2 ^ 62
pub forward-fits : {k : ℕ} {seen : List ℕ} {now : Rolled} → k ≤ 31 → IsRolled k seen now → now.forward < 2 ^ 62
forward-fits {k} most rolled =
    let small = IsRolled-forward-lt rolled in
    let power = power-fits k most in
    omega (arith, small, power)

pub backward-fits : {k : ℕ} {seen : List ℕ} {now : Rolled} (d g : ℕ) → g ≡ k → 1 ≤ k → k ≤ 31
    → IsRolled k seen now → now.backward / 4 + (3 - d) * 2 ^ (2 * (g - 1)) % 2 ^ 64 < 2 ^ 62
backward-fits {k} d g same some most rolled =
    let small = IsRolled-backward-lt rolled in
    let power = power-fits k most in
    let whole : 4 ^ k ≡ 4 ^ (k - 1) * 4 = ap (λ n. 4 ^ n) (omega (arith, some)) ∙ pow-suc 4 (k - 1) in
    let top = top-shifted k g d same some most in
    let three : (3 - d) * 4 ^ (k - 1) ≤ 3 * 4 ^ (k - 1) = mul-le-mul_right (4 ^ (k - 1)) (omega arith) in
    omega (arith, small, power, whole, top, three)

-- ---- the words of one piece after another

pub words_of-none : (rule : CountingRule) → words_of rule (as_reads []) ≡ []
unfolding words_of
words_of-none rule = refl

-- one more piece, at an index, with the words before it and after it
pub record PieceStep (rule : CountingRule) (pieces : List (List ℕ)) : Type 0 where
  pub index : ℕ
  pub piece : List ℕ
  pub words : List ℕ
  pub next_words : List ℕ
  pub within : index < length pieces
  pub piece_is : piece ≡ get_or pieces index piece
  pub pushed : next_words ≡ words ++ words_in rule (read_of piece None)

pub words_of-more : (rule : CountingRule) (pieces : List (List ℕ)) (s : PieceStep rule pieces)
    → s.words ≡ words_of rule (as_reads (take s.index pieces))
    → s.next_words ≡ words_of rule (as_reads (take (s.index + 1) pieces))
unfolding words_of
words_of-more rule pieces s before =
    s.pushed ∙ ap (λ xs. xs ++ words_in rule (read_of s.piece None)) before
    ∙ ap (λ xs. flat_map (λ read. words_in rule read) (as_reads (take s.index pieces)) ++ xs)
    (sym (append-nil (words_in rule (read_of s.piece None))))
    ∙ sym (flat_map-append (λ read. words_in rule read) (as_reads (take s.index pieces)) (read_of s.piece None ∷ []))
    ∙ ap (flat_map (λ read. words_in rule read)) (sym (map_push (λ p. read_of p None) (take s.index pieces) s.piece))
    ∙ ap (λ ps. flat_map (λ read. words_in rule read) (as_reads ps))
    (ap (λ p. take s.index pieces ++ p ∷ []) s.piece_is ∙ sym (take_more pieces s.index s.piece s.within))
