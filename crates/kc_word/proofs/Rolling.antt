-- A word and its reverse complement, rolled along the bytes of a piece: two numbers and the length of the run of bases
-- that ends here.
use Rattle.std.proofs.Common.{◌≡◌, ℕ, zero, suc, ◌+◌, ◌-◌, ◌*◌, ◌/◌, ◌%◌, ◌^◌, ◌<◌, ◌≤◌, min, ⊎_elim, Bool, true, false, ◌&&◌, cond, leb, List, [], ◌∷◌, ◌++◌, map, reverse, length, get_or, take, drop, replicate, Some, None, refl, ap, sym, ◌∙◌, subst, arith, pow-suc, bit_and, lit<, add_comm}
use Rattle.std.proofs.lemmas.Bool.{cases_Bool, cond-true, cond-false, cond_both, and_parts, le-leb, lt-leb, cases_lt}
use Rattle.std.proofs.lemmas.Nat.{mod-mul-add, and_mask}
use Rattle.std.proofs.lemmas.List.{map_push, length-map, length-reverse, length-replicate, length-append, length-drop, drop_more, drop-append-le, drop-drop, append_assoc, reverse-append, take-append-drop, take_at, get_or-reverse, get_or-replicate, length_push, append-nil, get_or_past}
use Rattle.std.proofs.lemmas.List.Sums.{prefix_len_is}
use Rattle.std.proofs.lemmas.List.Folds.{list_all-append, list_all-map}
use Rattle.std.proofs.lemmas.Int.Digits.{number_push, number_lt}
use Rattle.std.specs.Int.Digits.{number_from_digits, number_from_digits_after, AllBelowBase}
use Rattle.std.specs.List.{list_all, prefix_len}
use Rattle.std.specs.Char.{to_ascii_uppercase}
use Rattle.kc_kmer.specs.Letter.{is_base, are_bases, code, complement}
use Rattle.kc_word.specs.Cutting.{unusable}
use Rattle.kc_kmer.specs.Word.{number, reverse_complement, form}
use Rattle.kc_kmer.proofs.WordLemmas.{code-lt, code-complement, number-canonical, map-reverse}
use Rattle.kc_word.specs.Walking.{last_window, is_letter, digit_of, other_digit, run_of, code_of, IsRolled}
use Rattle.kc_word.specs.declared.rolled.Rolled.{Rolled}
use Rattle.kc_word.proofs.Windows.{word_of, length-last_window}

-- ---- digits

digit_of-lt : (byte : ℕ) → digit_of byte < 4
unfolding digit_of
digit_of-lt byte =
    cond_both (is_base (to_ascii_uppercase byte)) (code (to_ascii_uppercase byte)) 0 (λ n. n < 4) (λ _. code-lt (to_ascii_uppercase byte))
    (λ _. lit< tt)

other_digit-lt : (byte : ℕ) → other_digit byte < 4
unfolding other_digit
other_digit-lt byte = omega arith

-- the digit, as the code takes it from the code of a byte
digit_of-masked : (byte c : ℕ) → c ≡ code_of byte → bit_and c 3 ≡ digit_of byte
unfolding digit_of
digit_of-masked byte c e =
    and_mask c 2 ∙ ⊎_elim (λ h. let small = code-lt (to_ascii_uppercase byte) in
    let value : c ≡ code (to_ascii_uppercase byte) = e ∙ cond-true _ _ _ h in
    let rest : c % 4 ≡ code (to_ascii_uppercase byte) = omega (arith, small, value) in
    rest ∙ sym (cond-true _ _ _ h))
    (λ h. ap (λ n. n % 4) (e ∙ cond-false _ _ _ h) ∙ sym (cond-false _ _ _ h)) (cases_Bool (is_base (to_ascii_uppercase byte)))

number_after-split : (n : ℕ) (ds : List ℕ) → number_from_digits_after 4 n ds ≡ n * 4 ^ length ds + number_from_digits 4 ds
number_after-split n [] = omega arith
number_after-split n (d ∷ ds) =
    let this : number_from_digits_after 4 n (d ∷ ds) ≡ (n * 4 + d) * 4 ^ length ds + number_from_digits 4 ds = number_after-split (n * 4 + d) ds in
    let first : number_from_digits 4 (d ∷ ds) ≡ (0 * 4 + d) * 4 ^ length ds + number_from_digits 4 ds = number_after-split (0 * 4 + d) ds in
    let power : n * 4 ^ length (d ∷ ds) ≡ n * (4 ^ length ds * 4) = ap (λ m. n * m) (pow-suc 4 (length ds)) in
    omega (arith, this, first, power)

number-cons : (d : ℕ) (ds : List ℕ) → number_from_digits 4 (d ∷ ds) ≡ d * 4 ^ length ds + number_from_digits 4 ds
number-cons d ds = let first = number_after-split (0 * 4 + d) ds in omega (arith, first)

below_base : (f : ℕ → ℕ) → ((n : ℕ) → f n < 4) → (xs : List ℕ) → AllBelowBase 4 (map f xs)
below_base f small [] = tt
below_base f small (x ∷ xs) = (small x, below_base f small xs)

number_of_map-lt : (f : ℕ → ℕ) → ((n : ℕ) → f n < 4) → (xs : List ℕ) → number_from_digits 4 (map f xs) < 4 ^ length xs
number_of_map-lt f small xs = subst (λ n. number_from_digits 4 (map f xs) < 4 ^ n) (length-map xs f) (number_lt 4 (map f xs) (below_base f small xs))

-- ---- a window that moves by one byte

forward-moved : (x b k : ℕ) (window : List ℕ) → length window ≡ k
    → (number_from_digits 4 (map digit_of (x ∷ window)) * 4 + digit_of b) % 4 ^ suc k ≡ number_from_digits 4 (map digit_of (window ++ b ∷ []))
forward-moved x b k window e =
    let cons = number-cons (digit_of x) (map digit_of window)
    ∙ ap (λ n. digit_of x * 4 ^ n + number_from_digits 4 (map digit_of window)) (length-map window digit_of ∙ e) in
    let push = ap (number_from_digits 4) (map_push digit_of window b) ∙ number_push 4 (map digit_of window) (digit_of b) in
    let small : number_from_digits 4 (map digit_of window) < 4 ^ k =
    subst (λ n. number_from_digits 4 (map digit_of window) < 4 ^ n) e (number_of_map-lt digit_of digit_of-lt window) in
    let last = digit_of-lt b in
    let power = pow-suc 4 k in
    let high : digit_of x * 4 ^ suc k ≡ digit_of x * (4 ^ k * 4) = ap (λ m. digit_of x * m) (pow-suc 4 k) in
    let whole : number_from_digits 4 (map digit_of (x ∷ window)) * 4 + digit_of b
    ≡ digit_of x * 4 ^ suc k + (number_from_digits 4 (map digit_of window) * 4 + digit_of b) = omega (arith, cons, high) in
    ap (λ n. n % 4 ^ suc k) whole
    ∙ mod-mul-add (digit_of x) (4 ^ suc k) (number_from_digits 4 (map digit_of window) * 4 + digit_of b) (omega (arith, small, last, power))
    ∙ sym push

backward-moved : (x b k : ℕ) (window : List ℕ) → length window ≡ k
    → number_from_digits 4 (reverse (map other_digit (x ∷ window))) / 4 + other_digit b * 4 ^ k
    ≡ number_from_digits 4 (reverse (map other_digit (window ++ b ∷ [])))
backward-moved x b k window e =
    let rest : List ℕ = reverse (map other_digit window) in
    let push = ap (number_from_digits 4) (reverse-append (other_digit x ∷ []) (map other_digit window))
    ∙ number_push 4 (reverse (map other_digit window)) (other_digit x) in
    let small = other_digit-lt x in
    let long : length (reverse (map other_digit window)) ≡ k = length-reverse (map other_digit window) ∙ length-map window other_digit ∙ e in
    let cons = ap (λ xs. number_from_digits 4 (reverse xs)) (map_push other_digit window b)
    ∙ ap (number_from_digits 4) (reverse-append (map other_digit window) (other_digit b ∷ []))
    ∙ number-cons (other_digit b) (reverse (map other_digit window))
    ∙ ap (λ n. other_digit b * 4 ^ n + number_from_digits 4 (reverse (map other_digit window))) long in
    omega (arith, push, small, cons)

last_window_push : (k : ℕ) (bytes : List ℕ) (byte : ℕ) → 1 ≤ k → last_window k (bytes ++ byte ∷ []) ≡ drop 1 (last_window k bytes) ++ byte ∷ []
unfolding last_window
last_window_push k bytes byte h =
    let pads = length-replicate k unusable in
    let whole = length-append (replicate k unusable) bytes in
    ap (drop (length (bytes ++ byte ∷ []))) (sym (append_assoc (replicate k unusable) bytes (byte ∷ [])))
    ∙ ap (λ n. drop n ((replicate k unusable ++ bytes) ++ byte ∷ [])) (length_push bytes byte)
    ∙ drop-append-le (length bytes + 1) (replicate k unusable ++ bytes) (byte ∷ []) (omega (arith, pads, whole, h))
    ∙ ap (λ xs. xs ++ byte ∷ []) (sym (drop-drop 1 (length bytes) (replicate k unusable ++ bytes)))

-- ---- the run of bases at the end

run_of_push : (k : ℕ) (bytes : List ℕ) (byte : ℕ) → run_of k (bytes ++ byte ∷ []) ≡ cond (is_letter byte) (1 + run_of k bytes) 0
unfolding run_of
run_of_push k bytes byte =
    ap (λ xs. prefix_len is_letter (reverse xs)) (sym (append_assoc (replicate k unusable) bytes (byte ∷ [])))
    ∙ ap (prefix_len is_letter) (reverse-append (replicate k unusable ++ bytes) (byte ∷ []))

run_of-none : (k : ℕ) → run_of k [] ≡ 0
unfolding run_of is_base
run_of-none k =
    ap (λ xs. prefix_len is_letter (reverse xs)) (append-nil (replicate k unusable))
    ∙ prefix_len_is is_letter (reverse (replicate k unusable)) 0 unusable (omega arith) (λ j h. absurd (omega (arith, h)))
    (λ h. ap is_letter (get_or-reverse (replicate k unusable) 0 unusable (let long = length-reverse (replicate k unusable) in omega (arith, long, h))
    ∙ get_or-replicate-any (length (replicate k unusable) - 1 - 0)))
  where
    get_or-replicate-any : (i : ℕ) → get_or (replicate k unusable) i unusable ≡ unusable
    get_or-replicate-any i =
        ⊎_elim (λ h. get_or-replicate k i unusable unusable h)
        (λ h. get_or_past (replicate k unusable) i unusable (let long = length-replicate k unusable in omega (arith, long, h))) (cases_lt i k)

prefix-covers : {X : Type 0} (p : X → Bool) (k : ℕ) (xs : List X) → k ≤ length xs → leb k (prefix_len p xs) ≡ list_all p (take k xs)
prefix-covers p zero xs h = le-leb 0 (prefix_len p xs) (omega arith)
prefix-covers p (suc k) [] h = absurd (omega (arith, h))
prefix-covers p (suc k) (x ∷ xs) h =
    ⊎_elim
    (λ e. ap (leb (suc k)) (cond-true (p x) (1 + prefix_len p xs) 0 e) ∙ shifted k (prefix_len p xs) ∙ prefix-covers p k xs (omega (arith, h))
    ∙ sym (ap (λ b. b && list_all p (take k xs)) e))
    (λ e. ap (leb (suc k)) (cond-false (p x) (1 + prefix_len p xs) 0 e) ∙ lt-leb (suc k) 0 (omega arith)
    ∙ sym (ap (λ b. b && list_all p (take k xs)) e))
    (cases_Bool (p x))
  where
    shifted : (m n : ℕ) → leb (suc m) (1 + n) ≡ leb m n
    shifted m n =
        ⊎_elim (λ l. lt-leb (suc m) (1 + n) (omega (arith, l)) ∙ sym (lt-leb m n l))
        (λ l. le-leb (suc m) (1 + n) (omega (arith, l)) ∙ sym (le-leb m n l)) (cases_lt n m)

list_all-reverse : {X : Type 0} (p : X → Bool) (xs : List X) → list_all p (reverse xs) ≡ list_all p xs
list_all-reverse p [] = refl
list_all-reverse p (x ∷ xs) =
    ap (list_all p) (reverse-append (x ∷ []) xs) ∙ list_all-append p (reverse xs) (x ∷ []) ∙ ap (λ b. b && (p x && true)) (list_all-reverse p xs)
    ∙ swapped (list_all p xs) (p x)
  where
    swapped : (a b : Bool) → (a && (b && true)) ≡ (b && a)
    swapped true true = refl
    swapped true false = refl
    swapped false true = refl
    swapped false false = refl

take-reverse : {X : Type 0} (k n : ℕ) (xs : List X) → length xs ≡ k + n → take k (reverse xs) ≡ reverse (drop n xs)
take-reverse k n xs e =
    ap (λ ys. take k (reverse ys)) (sym (take-append-drop n xs)) ∙ ap (take k) (reverse-append (take n xs) (drop n xs))
    ∙ take_at (reverse (drop n xs)) (reverse (take n xs)) k (length-reverse (drop n xs) ∙ length-drop n xs ∙ omega (arith, e))

-- the run is as long as a window exactly if the window has only bases
run_of-covers : (k : ℕ) (bytes : List ℕ) → leb k (run_of k bytes) ≡ are_bases (map to_ascii_uppercase (last_window k bytes))
unfolding run_of last_window
run_of-covers k bytes =
    let whole : length (replicate k unusable ++ bytes) ≡ k + length bytes =
    length-append (replicate k unusable) bytes ∙ ap (λ n. n + length bytes) (length-replicate k unusable) in
    prefix-covers is_letter k (reverse (replicate k unusable ++ bytes))
    (let turned = length-reverse (replicate k unusable ++ bytes) in omega (arith, turned, whole))
    ∙ ap (list_all is_letter) (take-reverse k (length bytes) (replicate k unusable ++ bytes) whole)
    ∙ list_all-reverse is_letter (drop (length bytes) (replicate k unusable ++ bytes))
    ∙ sym (list_all-map is_base to_ascii_uppercase (drop (length bytes) (replicate k unusable ++ bytes)))

-- ---- the numbers of a window that has only bases

codes-window : (window : List ℕ) → list_all is_letter window ≡ true → map code (map to_ascii_uppercase window) ≡ map digit_of window
unfolding digit_of
codes-window [] h = refl
codes-window (x ∷ xs) h =
    let parts = and_parts (is_letter x) (list_all is_letter xs) h in
    ap (λ n. n ∷ map code (map to_ascii_uppercase xs)) (sym (cond-true _ (code (to_ascii_uppercase x)) 0 parts.0))
    ∙ ap (λ ns. digit_of x ∷ ns) (codes-window xs parts.1)

others-window : (window : List ℕ) → list_all is_letter window ≡ true
    → map code (map complement (map to_ascii_uppercase window)) ≡ map other_digit window
unfolding other_digit digit_of
others-window [] h = refl
others-window (x ∷ xs) h =
    let parts = and_parts (is_letter x) (list_all is_letter xs) h in
    let three = code-complement (to_ascii_uppercase x) parts.0 in
    let digit = cond-true _ (code (to_ascii_uppercase x)) 0 parts.0 in
    let this : code (complement (to_ascii_uppercase x)) ≡ other_digit x = omega (arith, three, digit) in
    ap (λ n. n ∷ map code (map complement (map to_ascii_uppercase xs))) this ∙ ap (λ ns. other_digit x ∷ ns) (others-window xs parts.1)

number-window : (window : List ℕ) → are_bases (map to_ascii_uppercase window) ≡ true
    → number (map to_ascii_uppercase window) ≡ number_from_digits 4 (map digit_of window)
unfolding number
number-window window h = ap (number_from_digits 4) (codes-window window (sym (list_all-map is_base to_ascii_uppercase window) ∙ h))

number-other_window : (window : List ℕ) → are_bases (map to_ascii_uppercase window) ≡ true
    → number (reverse_complement (map to_ascii_uppercase window)) ≡ number_from_digits 4 (reverse (map other_digit window))
unfolding number reverse_complement
number-other_window window h =
    ap (number_from_digits 4) (map-reverse code (map complement (map to_ascii_uppercase window))
    ∙ ap reverse (others-window window (sym (list_all-map is_base to_ascii_uppercase window) ∙ h)))

-- ---- the state of the roll

last_window-none : (k : ℕ) → last_window k [] ≡ replicate k unusable
unfolding last_window
last_window-none k = append-nil (replicate k unusable)

digits-none : (k : ℕ) → number_from_digits 4 (map digit_of (replicate k unusable)) ≡ 0
unfolding digit_of is_base
digits-none zero = refl
digits-none (suc k) =
    number-cons 0 (map digit_of (replicate k unusable)) ∙ ap (λ n. 0 * 4 ^ length (map digit_of (replicate k unusable)) + n) (digits-none k)
    ∙ omega arith

others-none : (k : ℕ) → number_from_digits 4 (reverse (map other_digit (replicate k unusable))) + 1 ≡ 4 ^ k
unfolding other_digit digit_of is_base
others-none zero = refl
others-none (suc k) =
    let push : number_from_digits 4 (reverse (map other_digit (replicate (suc k) unusable)))
    ≡ number_from_digits 4 (reverse (map other_digit (replicate k unusable))) * 4 + 3 =
    ap (number_from_digits 4) (reverse-append (3 ∷ []) (map other_digit (replicate k unusable)))
    ∙ number_push 4 (reverse (map other_digit (replicate k unusable))) 3 in
    let before = others-none k in
    let power = pow-suc 4 k in
    omega (arith, push, before, power)

-- before the first byte: as if k bytes N had been seen
pub IsRolled-none : (k : ℕ) (now : Rolled) → now.forward ≡ 0 → now.backward + 1 ≡ 4 ^ k → now.run ≡ 0 → IsRolled k [] now
IsRolled-none k now front back run = record {
  forward_is = front ∙ sym (ap (λ w. number_from_digits 4 (map digit_of w)) (last_window-none k) ∙ digits-none k);
  backward_is =
      let same = ap (λ w. number_from_digits 4 (reverse (map other_digit w))) (last_window-none k) in
      let none = others-none k in
      omega (arith, same, none, back);
  run_is = run ∙ sym (run_of-none k);
}

-- the two numbers and the run before a code and after it
pub record RollStep (k found : ℕ) (old new : Rolled) : Type 0 where
  pub forward_is : new.forward ≡ (old.forward * 4 + bit_and found 3) % 4 ^ k
  pub backward_is : new.backward ≡ old.backward / 4 + (3 - bit_and found 3) * 4 ^ (k - 1)
  pub grows : found < 4 → new.run ≡ old.run + 1
  pub breaks : 4 ≤ found → new.run ≡ 0

pub IsRolled-more : (k : ℕ) (seen : List ℕ) (byte found : ℕ) (old new : Rolled) → 1 ≤ k → found ≡ code_of byte → RollStep k found old new
    → IsRolled k seen old → IsRolled k (seen ++ byte ∷ []) new
unfolding other_digit
IsRolled-more k seen byte found old new some found_is s rolled =
    let first : ℕ = get_or (last_window k seen) 0 0 in
    let long = length-last_window k seen in
    let split : last_window k seen ≡ first ∷ drop 1 (last_window k seen) = drop_more (last_window k seen) 0 0 (omega (arith, long, some)) in
    let rest : length (drop 1 (last_window k seen)) ≡ k - 1 = length-drop 1 (last_window k seen) ∙ ap (λ n. n - 1) long in
    let digit = digit_of-masked byte found found_is in
    let next = last_window_push k seen byte some in
    let whole : suc (k - 1) ≡ k = omega (arith, some) in
    record {
      forward_is =
          s.forward_is
          ∙ ap (λ n. (n * 4 + bit_and found 3) % 4 ^ k) (rolled.forward_is ∙ ap (λ w. number_from_digits 4 (map digit_of w)) split)
          ∙ ap (λ d. (number_from_digits 4 (map digit_of (first ∷ drop 1 (last_window k seen))) * 4 + d) % 4 ^ k) digit
          ∙ ap (λ m. (number_from_digits 4 (map digit_of (first ∷ drop 1 (last_window k seen))) * 4 + digit_of byte) % 4 ^ m) (sym whole)
          ∙ forward-moved first byte (k - 1) (drop 1 (last_window k seen)) rest
          ∙ ap (λ w. number_from_digits 4 (map digit_of w)) (sym next);
      backward_is =
          s.backward_is
          ∙ ap (λ n. n / 4 + (3 - bit_and found 3) * 4 ^ (k - 1))
          (rolled.backward_is ∙ ap (λ w. number_from_digits 4 (reverse (map other_digit w))) split)
          ∙ ap (λ d. number_from_digits 4 (reverse (map other_digit (first ∷ drop 1 (last_window k seen)))) / 4 + (3 - d) * 4 ^ (k - 1)) digit
          ∙ backward-moved first byte (k - 1) (drop 1 (last_window k seen)) rest
          ∙ ap (λ w. number_from_digits 4 (reverse (map other_digit w))) (sym next);
      run_is =
          ⊎_elim
          (λ h. s.grows (let small = code-lt (to_ascii_uppercase byte) in
          let value : found ≡ code (to_ascii_uppercase byte) = found_is ∙ cond-true _ _ _ h in omega (arith, small, value))
          ∙ ap (λ n. n + 1) rolled.run_is ∙ add_comm (run_of k seen) 1
          ∙ sym (run_of_push k seen byte ∙ cond-true (is_letter byte) (1 + run_of k seen) 0 h))
          (λ h. s.breaks (let value : found ≡ 4 = found_is ∙ cond-false _ _ _ h in omega (arith, value))
          ∙ sym (run_of_push k seen byte ∙ cond-false (is_letter byte) (1 + run_of k seen) 0 h))
          (cases_Bool (is_letter byte));
    }

pub IsRolled-forward-lt : {k : ℕ} {seen : List ℕ} {now : Rolled} → IsRolled k seen now → now.forward < 4 ^ k
IsRolled-forward-lt {k} {seen} {now} rolled =
    let small : number_from_digits 4 (map digit_of (last_window k seen)) < 4 ^ k =
    subst (λ n. number_from_digits 4 (map digit_of (last_window k seen)) < 4 ^ n) (length-last_window k seen)
    (number_of_map-lt digit_of digit_of-lt (last_window k seen)) in
    let value = rolled.forward_is in
    omega (arith, small, value)

pub IsRolled-backward-lt : {k : ℕ} {seen : List ℕ} {now : Rolled} → IsRolled k seen now → now.backward < 4 ^ k
IsRolled-backward-lt {k} {seen} {now} rolled =
    let long : length (reverse (last_window k seen)) ≡ k = length-reverse (last_window k seen) ∙ length-last_window k seen in
    let small : number_from_digits 4 (map other_digit (reverse (last_window k seen))) < 4 ^ k =
    subst (λ n. number_from_digits 4 (map other_digit (reverse (last_window k seen))) < 4 ^ n) long
    (number_of_map-lt other_digit other_digit-lt (reverse (last_window k seen))) in
    let turned : number_from_digits 4 (map other_digit (reverse (last_window k seen)))
    ≡ number_from_digits 4 (reverse (map other_digit (last_window k seen))) = ap (number_from_digits 4) (map-reverse other_digit (last_window k seen)) in
    let value = rolled.backward_is in
    omega (arith, small, turned, value)

-- if the run covers a window, the word of the last window is the one that both numbers give
pub word_of-rolled : (k : ℕ) (both : Bool) (seen : List ℕ) (now : Rolled) → IsRolled k seen now → k ≤ now.run
    → word_of both (last_window k seen) ≡ Some (cond both (min now.backward now.forward) now.forward)
unfolding word_of form
word_of-rolled k both seen now rolled h =
    let bases : are_bases (map to_ascii_uppercase (last_window k seen)) ≡ true =
    sym (run_of-covers k seen) ∙ ap (leb k) (sym rolled.run_is) ∙ le-leb k now.run h in
    cond-true _ (Some (number (form both (map to_ascii_uppercase (last_window k seen))))) None bases ∙ ap Some (numbers both bases)
  where
    numbers : (b : Bool) → are_bases (map to_ascii_uppercase (last_window k seen)) ≡ true
        → number (form b (map to_ascii_uppercase (last_window k seen))) ≡ cond b (min now.backward now.forward) now.forward
    numbers true bases =
        let this : number (map to_ascii_uppercase (last_window k seen)) ≡ now.forward =
        number-window (last_window k seen) bases ∙ sym rolled.forward_is in
        let other : number (reverse_complement (map to_ascii_uppercase (last_window k seen))) ≡ now.backward =
        number-other_window (last_window k seen) bases ∙ sym rolled.backward_is in
        number-canonical (map to_ascii_uppercase (last_window k seen)) bases
        ∙ ap (λ n. min n (number (map to_ascii_uppercase (last_window k seen)))) other ∙ ap (min now.backward) this
    numbers false bases = number-window (last_window k seen) bases ∙ sym rolled.forward_is

pub word_of-broken : (k : ℕ) (both : Bool) (seen : List ℕ) (now : Rolled) → IsRolled k seen now → now.run < k
    → word_of both (last_window k seen) ≡ None
unfolding word_of
word_of-broken k both seen now rolled h =
    cond-false _ (Some (number (form both (map to_ascii_uppercase (last_window k seen))))) None
    (sym (run_of-covers k seen) ∙ ap (leb k) (sym rolled.run_is) ∙ lt-leb k now.run h)
