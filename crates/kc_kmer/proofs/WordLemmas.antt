-- Words and their numbers: a word is its number's text, a number below 4 ^ k is its text's number, and both keep the
-- order.
use Rattle.std.proofs.Common.{◌≡◌, ℕ, zero, suc, ◌+◌, ◌*◌, ◌/◌, ◌%◌, ◌^◌, ◌<◌, ◌≤◌, Bool, true, false, ◌&&◌, cond, eqb, ltb, List, [], ◌∷◌, ◌++◌, map, reverse, length, min, get_or, take, refl, ap, sym, ◌∙◌, subst, arith, ⊎_elim, pow-suc, lit<}
use Rattle.std.proofs.lemmas.Bool.{eqb-true, or_cases, cases_order, cond-true, cond-false, cond_both, cases_lt, lt-ltb, le-ltb, ltb-true, ltb-false, and_parts, and_from}
use Rattle.std.proofs.lemmas.List.{map_push, length_push, length-map, length-reverse, take_more, take_all, nil_from_length, length-take-le, reverse-append, reverse-reverse}
use Rattle.std.proofs.lemmas.Int.Digits.{number_push, number_lt}
use Rattle.std.specs.Int.Digits.{number_from_digits, AllBelowBase}
use Rattle.std.specs.List.{list_all}
use Rattle.std.specs.Char.{to_ascii_uppercase}
use Rattle.std.specs.Ordering.{nat_cmp, is_lt, ordering_then}
use Rattle.std.specs.declared.cmp.Ordering.{Ordering}
use Rattle.std.specs.declared.cmp.Ordering.TheVariants.{Less, Equal, Greater}
use Rattle.std.specs.Cmp.{nat_cmp_is}
use Rattle.std.specs.Cmp.Lexicographic.{slice_cmp}
use Rattle.kc_kmer.specs.Letter.{adenine, cytosine, guanine, thymine, is_base, are_bases, code, base, complement}
use Rattle.kc_kmer.specs.Word.{number, text, reverse_complement, canonical, form}

-- ---- bases and codes

-- a number below 4 is one of four
pub below_four : (P : ℕ → Type 0) → P 0 → P 1 → P 2 → P 3 → (n : ℕ) → n < 4 → P n
below_four P a b c d zero h = a
below_four P a b c d (suc zero) h = b
below_four P a b c d (suc (suc zero)) h = c
below_four P a b c d (suc (suc (suc zero))) h = d
below_four P a b c d (suc (suc (suc (suc n)))) h = absurd (omega arith)

-- what holds for the four letters holds for each base
pub at_base : (P : ℕ → Type 0) → P adenine → P cytosine → P guanine → P thymine → (byte : ℕ) → is_base byte ≡ true → P byte
unfolding is_base
at_base P a c g t byte h =
    ⊎_elim (λ e. ⊎_elim (λ f. ⊎_elim (λ i. subst P (sym (eqb-true byte adenine i)) a) (λ i. subst P (sym (eqb-true byte cytosine i)) c) (or_cases _ _ f)) (λ f. subst P (sym (eqb-true byte guanine f)) g) (or_cases _ _ e))
    (λ e. subst P (sym (eqb-true byte thymine e)) t) (or_cases _ _ h)

pub code-lt : (letter : ℕ) → code letter < 4
unfolding code
code-lt letter =
    cond_both (eqb letter adenine) 0 _ (λ n. n < 4) (λ _. lit< tt) (λ _.
    cond_both (eqb letter cytosine) 1 _ (λ n. n < 4) (λ _. lit< tt) (λ _.
    cond_both (eqb letter guanine) 2 3 (λ n. n < 4) (λ _. lit< tt) (λ _. lit< tt)))

pub code-base : (n : ℕ) → n < 4 → code (base n) ≡ n
unfolding code base
code-base = below_four (λ n. code (base n) ≡ n) refl refl refl refl

pub is_base-base : (n : ℕ) → n < 4 → is_base (base n) ≡ true
unfolding is_base base
is_base-base = below_four (λ n. is_base (base n) ≡ true) refl refl refl refl

pub base-code : (letter : ℕ) → is_base letter ≡ true → base (code letter) ≡ letter
unfolding base code
base-code = at_base (λ b. base (code b) ≡ b) refl refl refl refl

pub complement-complement : (letter : ℕ) → is_base letter ≡ true → complement (complement letter) ≡ letter
unfolding complement
complement-complement = at_base (λ b. complement (complement b) ≡ b) refl refl refl refl

pub is_base-complement : (letter : ℕ) → is_base letter ≡ true → is_base (complement letter) ≡ true
unfolding complement is_base
is_base-complement = at_base (λ b. is_base (complement b) ≡ true) refl refl refl refl

pub code-complement : (letter : ℕ) → is_base letter ≡ true → code (complement letter) + code letter ≡ 3
unfolding complement code
code-complement = at_base (λ b. code (complement b) + code b ≡ 3) refl refl refl refl

-- ---- words

pub list_all-append : {X : Type 0} (p : X → Bool) (xs ys : List X) → list_all p (xs ++ ys) ≡ (list_all p xs && list_all p ys)
list_all-append p [] ys = refl
list_all-append p (x ∷ xs) ys = ap (λ b. p x && b) (list_all-append p xs ys) ∙ sym (and_assoc (p x) (list_all p xs) (list_all p ys))
  where
    and_assoc : (a b c : Bool) → ((a && b) && c) ≡ (a && (b && c))
    and_assoc true b c = refl
    and_assoc false b c = refl

pub number-nil : number [] ≡ 0
unfolding number
number-nil = refl

pub number_push-base : (word : List ℕ) (letter : ℕ) → number (word ++ letter ∷ []) ≡ number word * 4 + code letter
unfolding number
number_push-base word letter = ap (number_from_digits 4) (map_push code word letter) ∙ number_push 4 (map code word) (code letter)

pub number-lt : (word : List ℕ) → number word < 4 ^ length word
unfolding number
number-lt word = subst (λ n. number_from_digits 4 (map code word) < 4 ^ n) (length-map word code) (number_lt 4 (map code word) (codes_below word))
  where
    codes_below : (xs : List ℕ) → AllBelowBase 4 (map code xs)
    codes_below [] = tt
    codes_below (x ∷ xs) = (code-lt x, codes_below xs)

pub length-text : (k n : ℕ) → length (text k n) ≡ k
unfolding text
length-text zero n = refl
length-text (suc k) n = length_push (text k (n / 4)) (base (n % 4)) ∙ (let e = length-text k (n / 4) in omega (arith, e))

pub are_bases-text : (k n : ℕ) → are_bases (text k n) ≡ true
unfolding text
are_bases-text zero n = refl
are_bases-text (suc k) n =
    list_all-append is_base (text k (n / 4)) (base (n % 4) ∷ []) ∙ and_from _ _ (are_bases-text k (n / 4)) (and_from _ _ (is_base-base (n % 4) (omega arith)) refl)

quarter-lt : (k n : ℕ) → n < 4 ^ suc k → n / 4 < 4 ^ k
quarter-lt k n h = omega (arith, rw pow-suc at h)

-- a number below 4 ^ k is the number of its text
pub number-text : (k n : ℕ) → n < 4 ^ k → number (text k n) ≡ n
unfolding text
number-text zero n h = number-nil ∙ omega (arith, h)
number-text (suc k) n h =
    let short : n / 4 < 4 ^ k = quarter-lt k n h in
    let front : number (text k (n / 4)) ≡ n / 4 = number-text k (n / 4) short in
    let last : code (base (n % 4)) ≡ n % 4 = code-base (n % 4) (omega arith) in
    number_push-base (text k (n / 4)) (base (n % 4)) ∙ omega (arith, front, last)

-- a word of bases is its number's text
pub text-number : (k : ℕ) (word : List ℕ) → length word ≡ k → are_bases word ≡ true → text k (number word) ≡ word
unfolding text
text-number zero word e h = sym (nil_from_length word e)
text-number (suc k) word e h =
    let split : word ≡ take k word ++ get_or word k 0 ∷ [] = sym (take_all (k + 1) word (omega (arith, e))) ∙ take_more word k 0 (omega (arith, e)) in
    let parts = and_parts (are_bases (take k word)) (is_base (get_or word k 0) && true) (sym (list_all-append is_base (take k word) (get_or word k 0 ∷ [])) ∙ ap are_bases (sym split) ∙ h) in
    let last : is_base (get_or word k 0) ≡ true = (and_parts (is_base (get_or word k 0)) true parts.1).0 in
    let value : number word ≡ number (take k word) * 4 + code (get_or word k 0) = ap number split ∙ number_push-base (take k word) (get_or word k 0) in
    let small = code-lt (get_or word k 0) in
    let front : number word / 4 ≡ number (take k word) = omega (arith, value, small) in
    let rest : number word % 4 ≡ code (get_or word k 0) = omega (arith, value, small) in
    let shorter : length (take k word) ≡ k = length-take-le k word (omega (arith, e)) in
    ap (λ n. text k n ++ base (number word % 4) ∷ []) front
    ∙ ap (λ n. text k (number (take k word)) ++ base n ∷ []) rest
    ∙ ap (λ xs. xs ++ base (code (get_or word k 0)) ∷ []) (text-number k (take k word) shorter parts.0)
    ∙ ap (λ n. take k word ++ n ∷ []) (base-code (get_or word k 0) last)
    ∙ sym split

-- two words of bases of one length with one number are one word
pub same_from_number : (v w : List ℕ) → length v ≡ length w → are_bases v ≡ true → are_bases w ≡ true → number v ≡ number w → v ≡ w
same_from_number v w e hv hw same =
    sym (text-number (length w) v e hv) ∙ ap (text (length w)) same ∙ text-number (length w) w refl hw

-- two numbers below 4 ^ k with one text are one number
pub same_from_text : (k a b : ℕ) → a < 4 ^ k → b < 4 ^ k → text k a ≡ text k b → a ≡ b
same_from_text k a b ha hb e = sym (number-text k a ha) ∙ ap number e ∙ number-text k b hb

-- ---- the other strand

pub length-reverse_complement : (word : List ℕ) → length (reverse_complement word) ≡ length word
unfolding reverse_complement
length-reverse_complement word = length-reverse (map complement word) ∙ length-map word complement

list_all-reverse : {X : Type 0} (p : X → Bool) (xs : List X) → list_all p xs ≡ true → list_all p (reverse xs) ≡ true
list_all-reverse p [] h = refl
list_all-reverse p (x ∷ xs) h =
    let parts = and_parts (p x) (list_all p xs) h in
    ap (list_all p) (reverse-append (x ∷ []) xs) ∙ list_all-append p (reverse xs) (x ∷ []) ∙ and_from _ _ (list_all-reverse p xs parts.1) (and_from _ _ parts.0 refl)

are_bases-map-complement : (word : List ℕ) → are_bases word ≡ true → are_bases (map complement word) ≡ true
are_bases-map-complement [] h = refl
are_bases-map-complement (x ∷ xs) h =
    let parts = and_parts (is_base x) (are_bases xs) h in
    and_from _ _ (is_base-complement x parts.0) (are_bases-map-complement xs parts.1)

pub are_bases-reverse_complement : (word : List ℕ) → are_bases word ≡ true → are_bases (reverse_complement word) ≡ true
unfolding reverse_complement
are_bases-reverse_complement word h = list_all-reverse is_base (map complement word) (are_bases-map-complement word h)

pub map-reverse : {X Y : Type 0} (f : X → Y) (xs : List X) → map f (reverse xs) ≡ reverse (map f xs)
map-reverse f [] = refl
map-reverse f (x ∷ xs) =
    ap (map f) (reverse-append (x ∷ []) xs) ∙ map_push f (reverse xs) x ∙ ap (λ ys. ys ++ f x ∷ []) (map-reverse f xs) ∙ sym (reverse-append (f x ∷ []) (map f xs))

map-complement-twice : (word : List ℕ) → are_bases word ≡ true → map complement (map complement word) ≡ word
map-complement-twice [] h = refl
map-complement-twice (x ∷ xs) h =
    let parts = and_parts (is_base x) (are_bases xs) h in
    ap (λ y. y ∷ map complement (map complement xs)) (complement-complement x parts.0) ∙ ap (λ ys. x ∷ ys) (map-complement-twice xs parts.1)

-- read back from the other strand, a word is itself
pub reverse_complement-twice : (word : List ℕ) → are_bases word ≡ true → reverse_complement (reverse_complement word) ≡ word
unfolding reverse_complement
reverse_complement-twice word h =
    ap reverse (map-reverse complement (map complement word)) ∙ reverse-reverse (map complement (map complement word)) ∙ map-complement-twice word h

-- ---- the order of the numbers is the order of the texts

ordering_then-assoc : (a b c : Ordering) → ordering_then (ordering_then a b) c ≡ ordering_then a (ordering_then b c)
ordering_then-assoc Less b c = refl
ordering_then-assoc Equal b c = refl
ordering_then-assoc Greater b c = refl

slice_cmp-push : (xs ys : List ℕ) (x y : ℕ) → length xs ≡ length ys → slice_cmp nat_cmp (xs ++ x ∷ []) (ys ++ y ∷ []) ≡ ordering_then (slice_cmp nat_cmp xs ys) (nat_cmp x y)
slice_cmp-push [] [] x y e = then-Equal (nat_cmp x y)
  where
    then-Equal : (o : Ordering) → ordering_then o Equal ≡ o
    then-Equal Less = refl
    then-Equal Equal = refl
    then-Equal Greater = refl
slice_cmp-push [] (z ∷ ys) x y e = absurd (omega (arith, e))
slice_cmp-push (w ∷ xs) [] x y e = absurd (omega (arith, e))
slice_cmp-push (w ∷ xs) (z ∷ ys) x y e =
    ap (ordering_then (nat_cmp w z)) (slice_cmp-push xs ys x y (omega (arith, e)))
    ∙ sym (ordering_then-assoc (nat_cmp w z) (slice_cmp nat_cmp xs ys) (nat_cmp x y))

-- numbers in one order compare as one
same_cmp : (a b c d : ℕ) → (a < b → c < d) → (a ≡ b → c ≡ d) → (b < a → d < c) → nat_cmp a b ≡ nat_cmp c d
same_cmp a b c d less equal greater =
    ⊎_elim (λ e. sym (nat_cmp_is a b Equal e) ∙ nat_cmp_is c d Equal (equal e))
    (λ e. ⊎_elim (λ h. sym (nat_cmp_is a b Less h) ∙ nat_cmp_is c d Less (less h)) (λ h. sym (nat_cmp_is a b Greater h) ∙ nat_cmp_is c d Greater (greater h)) e)
    (cases_order a b)

nat_cmp-digits : (a b c d : ℕ) → c < 4 → d < 4 → ordering_then (nat_cmp a b) (nat_cmp c d) ≡ nat_cmp (a * 4 + c) (b * 4 + d)
nat_cmp-digits a b c d hc hd =
    ⊎_elim (λ e. ap (λ o. ordering_then o (nat_cmp c d)) (sym (nat_cmp_is a b Equal e)) ∙ same_cmp c d (a * 4 + c) (b * 4 + d) (λ h. omega (arith, e, h)) (λ h. omega (arith, e, h)) (λ h. omega (arith, e, h)))
    (λ e. ⊎_elim (λ h. ap (λ o. ordering_then o (nat_cmp c d)) (sym (nat_cmp_is a b Less h)) ∙ nat_cmp_is (a * 4 + c) (b * 4 + d) Less (omega arith))
    (λ h. ap (λ o. ordering_then o (nat_cmp c d)) (sym (nat_cmp_is a b Greater h)) ∙ nat_cmp_is (a * 4 + c) (b * 4 + d) Greater (omega arith)) e)
    (cases_order a b)

nat_cmp-base : (c d : ℕ) → c < 4 → d < 4 → nat_cmp (base c) (base d) ≡ nat_cmp c d
unfolding base
nat_cmp-base c d hc hd =
    below_four (λ m. nat_cmp (base m) (base d) ≡ nat_cmp m d) (against 0 refl refl refl refl) (against 1 refl refl refl refl) (against 2 refl refl refl refl) (against 3 refl refl refl refl) c hc
  where
    against : (m : ℕ) → nat_cmp (base m) (base 0) ≡ nat_cmp m 0 → nat_cmp (base m) (base 1) ≡ nat_cmp m 1 → nat_cmp (base m) (base 2) ≡ nat_cmp m 2 → nat_cmp (base m) (base 3) ≡ nat_cmp m 3 → nat_cmp (base m) (base d) ≡ nat_cmp m d
    against m p q r s = below_four (λ n. nat_cmp (base m) (base n) ≡ nat_cmp m n) p q r s d hd

pub slice_cmp-text : (k a b : ℕ) → a < 4 ^ k → b < 4 ^ k → slice_cmp nat_cmp (text k a) (text k b) ≡ nat_cmp a b
unfolding text
slice_cmp-text zero a b ha hb = nat_cmp_is a b Equal (omega (arith, ha, hb))
slice_cmp-text (suc k) a b ha hb =
    slice_cmp-push (text k (a / 4)) (text k (b / 4)) (base (a % 4)) (base (b % 4)) (length-text k (a / 4) ∙ sym (length-text k (b / 4)))
    ∙ ap (λ o. ordering_then o (nat_cmp (base (a % 4)) (base (b % 4)))) (slice_cmp-text k (a / 4) (b / 4) (quarter-lt k a ha) (quarter-lt k b hb))
    ∙ ap (ordering_then (nat_cmp (a / 4) (b / 4))) (nat_cmp-base (a % 4) (b % 4) (omega arith) (omega arith))
    ∙ nat_cmp-digits (a / 4) (b / 4) (a % 4) (b % 4) (omega arith) (omega arith)
    ∙ ap (λ n. nat_cmp n (b / 4 * 4 + b % 4)) (omega arith) ∙ ap (nat_cmp a) (omega arith)

-- ---- the canonical form

pub slice_cmp-words : (v w : List ℕ) → length v ≡ length w → are_bases v ≡ true → are_bases w ≡ true → slice_cmp nat_cmp v w ≡ nat_cmp (number v) (number w)
slice_cmp-words v w e hv hw =
    let below : number v < 4 ^ length w = subst (λ n. number v < 4 ^ n) e (number-lt v) in
    ap (λ xs. slice_cmp nat_cmp xs w) (sym (text-number (length w) v e hv))
    ∙ ap (slice_cmp nat_cmp (text (length w) (number v))) (sym (text-number (length w) w refl hw))
    ∙ slice_cmp-text (length w) (number v) (number w) below (number-lt w)

is_lt-nat_cmp : (m n : ℕ) → is_lt (nat_cmp m n) ≡ ltb m n
is_lt-nat_cmp m n =
    ⊎_elim (λ h. ap is_lt (sym (nat_cmp_is m n Less h)) ∙ sym (lt-ltb m n h))
    (λ h. ⊎_elim (λ e. ap is_lt (sym (nat_cmp_is m n Equal e)) ∙ sym (le-ltb m n h))
    (λ o. ⊎_elim (λ l. absurd (omega arith)) (λ l. ap is_lt (sym (nat_cmp_is m n Greater l)) ∙ sym (le-ltb m n h)) o) (cases_order m n))
    (cases_lt m n)

-- the canonical form is the one with the lesser number
pub canonical-cases : (word : List ℕ) → are_bases word ≡ true → canonical word ≡ cond (ltb (number (reverse_complement word)) (number word)) (reverse_complement word) word
unfolding canonical
canonical-cases word h =
    ap (λ b. cond b (reverse_complement word) word)
    (ap is_lt (slice_cmp-words (reverse_complement word) word (length-reverse_complement word) (are_bases-reverse_complement word h) h) ∙ is_lt-nat_cmp (number (reverse_complement word)) (number word))

pub number-canonical : (word : List ℕ) → are_bases word ≡ true → number (canonical word) ≡ min (number (reverse_complement word)) (number word)
number-canonical word h =
    ap number (canonical-cases word h)
    ∙ cond_both (ltb (number (reverse_complement word)) (number word)) (reverse_complement word) word (λ w. number w ≡ min (number (reverse_complement word)) (number word))
    (λ e. let l = ltb-true _ _ e in omega (arith, l)) (λ e. let l = ltb-false _ _ e in omega (arith, l))

pub length-canonical : (word : List ℕ) → length (canonical word) ≡ length word
unfolding canonical
length-canonical word =
    cond_both (is_lt (slice_cmp nat_cmp (reverse_complement word) word)) (reverse_complement word) word (λ w. length w ≡ length word) (λ _. length-reverse_complement word) (λ _. refl)

pub are_bases-canonical : (word : List ℕ) → are_bases word ≡ true → are_bases (canonical word) ≡ true
unfolding canonical
are_bases-canonical word h =
    cond_both (is_lt (slice_cmp nat_cmp (reverse_complement word) word)) (reverse_complement word) word (λ w. are_bases w ≡ true) (λ _. are_bases-reverse_complement word h) (λ _. h)

-- a word and its reverse complement have one canonical form
pub canonical-reverse_complement : (word : List ℕ) → are_bases word ≡ true → canonical (reverse_complement word) ≡ canonical word
canonical-reverse_complement word h =
    same_from_number (canonical (reverse_complement word)) (canonical word)
    (length-canonical (reverse_complement word) ∙ length-reverse_complement word ∙ sym (length-canonical word))
    (are_bases-canonical (reverse_complement word) (are_bases-reverse_complement word h)) (are_bases-canonical word h)
    (let other : number (canonical (reverse_complement word)) ≡ min (number (reverse_complement (reverse_complement word))) (number (reverse_complement word)) =
    number-canonical (reverse_complement word) (are_bases-reverse_complement word h) in
    let back : number (reverse_complement (reverse_complement word)) ≡ number word = ap number (reverse_complement-twice word h) in
    let this = number-canonical word h in
    omega (arith, other, back, this))

pub canonical-twice : (word : List ℕ) → are_bases word ≡ true → canonical (canonical word) ≡ canonical word
canonical-twice word bases = pick (ltb (number (reverse_complement word)) (number word)) (canonical-cases word bases)
  where
    pick : (b : Bool) → canonical word ≡ cond b (reverse_complement word) word → canonical (canonical word) ≡ canonical word
    pick true e = ap canonical e ∙ canonical-reverse_complement word bases
    pick false e = ap canonical e

pub length-form : (both : Bool) (word : List ℕ) → length (form both word) ≡ length word
unfolding form
length-form true word = length-canonical word
length-form false word = refl

pub are_bases-form : (both : Bool) (word : List ℕ) → are_bases word ≡ true → are_bases (form both word) ≡ true
unfolding form
are_bases-form true word h = are_bases-canonical word h
are_bases-form false word h = h

-- of a number and of the other strand's number the lesser is the canonical one
pub text-canonical : (k n m : ℕ) → n < 4 ^ k → m < 4 ^ k → text k m ≡ reverse_complement (text k n) → (m < n → text k m ≡ canonical (text k n)) × (n ≤ m → text k n ≡ canonical (text k n))
text-canonical k n m hn hm e =
    let word : List ℕ = text k n in
    let value : number (text k n) ≡ n = number-text k n hn in
    let other : number (reverse_complement (text k n)) ≡ m = ap number (sym e) ∙ number-text k m hm in
    let cases = canonical-cases (text k n) (are_bases-text k n) in (
      λ less. e ∙ sym (cases ∙ cond-true _ _ _ (lt-ltb (number (reverse_complement word)) (number word) (omega (arith, value, other, less)))),
      λ more. sym (cases ∙ cond-false _ _ _ (le-ltb (number (reverse_complement word)) (number word) (omega (arith, value, other, more)))),
    )

upper-base : (byte : ℕ) → is_base byte ≡ true → to_ascii_uppercase byte ≡ byte
upper-base = at_base (λ b. to_ascii_uppercase b ≡ b) refl refl refl refl

-- the letters of a word are in upper case
pub upper-bases : (word : List ℕ) → are_bases word ≡ true → map to_ascii_uppercase word ≡ word
upper-bases [] h = refl
upper-bases (x ∷ xs) h =
    let parts = and_parts (is_base x) (are_bases xs) h in
    ap (λ y. y ∷ map to_ascii_uppercase xs) (upper-base x parts.0) ∙ ap (λ ys. x ∷ ys) (upper-bases xs parts.1)
