-- The words of a piece, window by window: a piece has a window of k bytes at each position, and one more byte adds at
-- most one window at its end.
use Rattle.std.proofs.Common.{◌≡◌, ℕ, zero, suc, ◌+◌, ◌-◌, ◌<◌, ◌≤◌, ⊎_elim, Bool, true, false, ◌&&◌, cond, List, [], ◌∷◌, ◌++◌, map, length, get_or, take, drop, replicate, Option, Some, None, option_map, option_to_list, filter_map, refl, ap, sym, ◌∙◌, arith}
use Rattle.std.proofs.lemmas.Bool.{cases_lt, le-leb}
use Rattle.std.proofs.lemmas.List.{length_push, length-replicate, length-append, drop_more, take-append-le, drop-append-le, take_all, length-drop, drop_at, drop-drop, append_assoc, replicate-append-replicate}
use Rattle.std.proofs.lemmas.List.FromFn.{map-range_with_len_more}
use Rattle.std.proofs.lemmas.List.Elements.{filter_map-append}
use Rattle.std.specs.List.{list_all, range_with_len, cons_option}
use Rattle.std.specs.Option.{option_and_then}
use Rattle.std.specs.Char.{to_ascii_uppercase}
use Rattle.kc_fastx.specs.Reads.{read_of}
use Rattle.kc_lemmas.proofs.Lists.{filter_map-map, filter_map-one}
use Rattle.kc_kmer.specs.Letter.{is_base, are_bases}
use Rattle.kc_kmer.specs.Word.{number, form}
use Rattle.kc_kmer.specs.Rule.{CountingRule}
use Rattle.kc_word.specs.Cutting.{unusable}
use Rattle.kc_word.specs.Walking.{last_window}
use Rattle.kc_kmer.specs.Occurrences.{is_usable, word_at, form_at, where_listed, counted_at, position_count, words_in}
use Rattle.kc_kmer.proofs.ListedLemmas.{each_listed}

-- the number of the word in a window, in its form, if all its bytes are bases
unfoldable pub word_of : Bool → List ℕ → Option ℕ
word_of both window = cond (are_bases (map to_ascii_uppercase window)) (Some (number (form both (map to_ascii_uppercase window)))) None

-- the word in a window, in its form, if all its bytes are bases
unfoldable pub window_form : Bool → List ℕ → Option (List ℕ)
window_form both window = cond (are_bases (map to_ascii_uppercase window)) (Some (form both (map to_ascii_uppercase window))) None

-- the same if the word counts: if a list is given, only its words do
unfoldable pub counted_form : CountingRule → List ℕ → Option (List ℕ)
counted_form rule window = option_and_then (where_listed rule.only) (window_form rule.both window)

-- and its number
unfoldable pub counted_word : CountingRule → List ℕ → Option ℕ
counted_word rule window = option_map number (counted_form rule window)

-- the windows of k bytes
unfoldable pub windows : ℕ → List ℕ → List (List ℕ)
windows k bytes = map (λ p. take k (drop p bytes)) (range_with_len 0 (position_count k (length bytes)))

-- ---- lists made from a range

pub map-range : {X : Type 0} (f g : ℕ → X) (a n : ℕ) → ((p : ℕ) → p < a + n → f p ≡ g p) → map f (range_with_len a n) ≡ map g (range_with_len a n)
map-range f g a zero same = refl
map-range f g a (suc n) same =
    ap (λ x. x ∷ map f (range_with_len (a + 1) n)) (same a (omega arith)) ∙ ap (λ xs. g a ∷ xs) (map-range f g (a + 1) n (λ p h. same p (omega (arith, h))))

filter_map-range : {X : Type 0} (f g : ℕ → Option X) (a n : ℕ) → ((p : ℕ) → p < a + n → f p ≡ g p) → filter_map f (range_with_len a n) ≡ filter_map g (range_with_len a n)
filter_map-range f g a zero same = refl
filter_map-range f g a (suc n) same =
    ap (λ o. cons_option o (filter_map f (range_with_len (a + 1) n))) (same a (omega arith)) ∙ ap (cons_option (g a)) (filter_map-range f g (a + 1) n (λ p h. same p (omega (arith, h))))

-- ---- the words of a piece are those of its windows

and-true : (b : Bool) → (b && true) ≡ b
and-true true = refl
and-true false = refl

usable-window : (rule : CountingRule) (bytes : List ℕ) (k p : ℕ) → p + k ≤ length bytes → list_all (λ j. is_usable rule (read_of bytes None) j) (range_with_len p k) ≡ are_bases (map to_ascii_uppercase (take k (drop p bytes)))
unfolding is_usable
usable-window rule bytes zero p h = refl
usable-window rule bytes (suc k) p h =
    ap (λ b. b && list_all (λ j. is_base (to_ascii_uppercase (get_or bytes j 0)) && true) (range_with_len (p + 1) k)) (and-true (is_base (to_ascii_uppercase (get_or bytes p 0))))
    ∙ ap (λ b. is_base (to_ascii_uppercase (get_or bytes p 0)) && b) (usable-window rule bytes k (p + 1) (omega (arith, h)))
    ∙ ap (λ xs. are_bases (map to_ascii_uppercase (take (suc k) xs))) (sym (drop_more bytes p 0 (omega (arith, h))))

form_at-window_form : (rule : CountingRule) (bytes : List ℕ) (p : ℕ) → p + rule.k ≤ length bytes → form_at rule (read_of bytes None) p ≡ window_form rule.both (take rule.k (drop p bytes))
unfolding form_at word_at window_form
form_at-window_form rule bytes p h =
    ap (λ b. option_map (form rule.both) (cond (b && list_all (λ j. is_usable rule (read_of bytes None) j) (range_with_len p rule.k)) (Some (map to_ascii_uppercase (take rule.k (drop p bytes)))) None)) (le-leb (p + rule.k) (length bytes) h)
    ∙ ap (λ b. option_map (form rule.both) (cond b (Some (map to_ascii_uppercase (take rule.k (drop p bytes)))) None)) (usable-window rule bytes rule.k p h)
    ∙ through (are_bases (map to_ascii_uppercase (take rule.k (drop p bytes)))) (map to_ascii_uppercase (take rule.k (drop p bytes)))
  where
    through : (b : Bool) (w : List ℕ) → option_map (form rule.both) (cond b (Some w) None) ≡ cond b (Some (form rule.both w)) None
    through true w = refl
    through false w = refl

pub counted_at-window : (rule : CountingRule) (bytes : List ℕ) (p : ℕ) → p + rule.k ≤ length bytes → counted_at rule (read_of bytes None) p ≡ counted_form rule (take rule.k (drop p bytes))
unfolding counted_at counted_form
counted_at-window rule bytes p h = ap (option_and_then (where_listed rule.only)) (form_at-window_form rule bytes p h)

-- if no list is given, the word of each window counts
pub counted_word-unlisted : (rule : CountingRule) (window : List ℕ) → rule.only ≡ None → counted_word rule window ≡ word_of rule.both window
unfolding counted_word counted_form window_form word_of
counted_word-unlisted rule window none =
    ap (option_map number) (each_listed rule.only (window_form rule.both window) none)
    ∙ through (are_bases (map to_ascii_uppercase window)) (form rule.both (map to_ascii_uppercase window))
  where
    through : (b : Bool) (w : List ℕ) → option_map number (cond b (Some w) None) ≡ cond b (Some (number w)) None
    through true w = refl
    through false w = refl

pub words_in-windows : (rule : CountingRule) (bytes : List ℕ) → words_in rule (read_of bytes None) ≡ filter_map (counted_word rule) (windows rule.k bytes)
unfolding words_in windows counted_word
words_in-windows rule bytes =
    filter_map-range (λ p. option_map number (counted_at rule (read_of bytes None) p)) (λ p. counted_word rule (take rule.k (drop p bytes))) 0 (position_count rule.k (length bytes))
    (λ p h. ap (option_map number) (counted_at-window rule bytes p (omega (arith, h))))
    ∙ sym (filter_map-map (counted_word rule) (λ p. take rule.k (drop p bytes)) (range_with_len 0 (position_count rule.k (length bytes))))

-- ---- one more byte

pub length-last_window : (k : ℕ) (bytes : List ℕ) → length (last_window k bytes) ≡ k
unfolding last_window
length-last_window k bytes =
    let whole = length-append (replicate k unusable) bytes in
    let pads = length-replicate k unusable in
    length-drop (length bytes) (replicate k unusable ++ bytes) ∙ omega (arith, whole, pads)

pub last_window-whole : (k : ℕ) (bytes : List ℕ) → k ≤ length bytes → last_window k bytes ≡ drop (length bytes - k) bytes
unfolding last_window
last_window-whole k bytes h =
    ap (λ n. drop n (replicate k unusable ++ bytes)) (omega (arith, h)) ∙ sym (drop-drop (length bytes - k) k (replicate k unusable ++ bytes))
    ∙ ap (drop (length bytes - k)) (drop_at (replicate k unusable) bytes k (length-replicate k unusable))

last_window-short : (k : ℕ) (bytes : List ℕ) → length bytes < k → are_bases (map to_ascii_uppercase (last_window k bytes)) ≡ false
unfolding last_window is_base
last_window-short k bytes h =
    ap (λ xs. are_bases (map to_ascii_uppercase (drop (length bytes) (xs ++ bytes)))) (split (length bytes) (k - suc (length bytes)) (omega (arith, h)))
    ∙ ap (λ xs. are_bases (map to_ascii_uppercase (drop (length bytes) xs))) (append_assoc (replicate (length bytes) unusable) (unusable ∷ replicate (k - suc (length bytes)) unusable) bytes)
    ∙ ap (λ xs. are_bases (map to_ascii_uppercase xs)) (drop_at (replicate (length bytes) unusable) (unusable ∷ replicate (k - suc (length bytes)) unusable ++ bytes) (length bytes) (length-replicate (length bytes) unusable))
    ∙ none
  where
    split : (m n : ℕ) → k ≡ m + suc n → replicate k unusable ≡ replicate m unusable ++ unusable ∷ replicate n unusable
    split m n e = ap (λ j. replicate j unusable) e ∙ sym (replicate-append-replicate m (suc n) unusable)

    none : are_bases (map to_ascii_uppercase (unusable ∷ replicate (k - suc (length bytes)) unusable ++ bytes)) ≡ false
    none = refl

windows_push : (k : ℕ) (bytes : List ℕ) (byte : ℕ) → k ≤ length bytes + 1 → windows k (bytes ++ byte ∷ []) ≡ windows k bytes ++ last_window k (bytes ++ byte ∷ []) ∷ []
unfolding windows
windows_push k bytes byte h =
    let long = length_push bytes byte in
    let m : ℕ = length bytes + 1 - k in
    let counted : position_count k (length (bytes ++ byte ∷ [])) ≡ (length bytes + 1 - k) + 1 = omega (arith, long, h) in
    let last : take k (drop (length bytes + 1 - k) (bytes ++ byte ∷ [])) ≡ last_window k (bytes ++ byte ∷ []) =
    take_all k (drop (length bytes + 1 - k) (bytes ++ byte ∷ [])) (let cut = length-drop (length bytes + 1 - k) (bytes ++ byte ∷ []) in omega (arith, cut, long, h))
    ∙ ap (λ n. drop n (bytes ++ byte ∷ [])) (omega (arith, long)) ∙ sym (last_window-whole k (bytes ++ byte ∷ []) (omega (arith, long, h))) in
    ap (λ n. map (λ p. take k (drop p (bytes ++ byte ∷ []))) (range_with_len 0 n)) counted
    ∙ map-range_with_len_more (λ p. take k (drop p (bytes ++ byte ∷ []))) 0 (length bytes + 1 - k) (length bytes + 1 - k) (omega arith)
    ∙ ap (λ xs. xs ++ take k (drop (length bytes + 1 - k) (bytes ++ byte ∷ [])) ∷ []) (map-range (λ p. take k (drop p (bytes ++ byte ∷ []))) (λ p. take k (drop p bytes)) 0 (length bytes + 1 - k) (λ p l. earlier p (omega (arith, l))))
    ∙ ap (λ w. map (λ p. take k (drop p bytes)) (range_with_len 0 (length bytes + 1 - k)) ++ w ∷ []) last
  where
    earlier : (p : ℕ) → p + k ≤ length bytes → take k (drop p (bytes ++ byte ∷ [])) ≡ take k (drop p bytes)
    earlier p l =
        ap (take k) (drop-append-le p bytes (byte ∷ []) (omega (arith, l)))
        ∙ take-append-le k (drop p bytes) (byte ∷ []) (let cut = length-drop p bytes in omega (arith, cut, l))

words_push-short : (k : ℕ) (rule : CountingRule) (bytes : List ℕ) (byte : ℕ) → length bytes + 1 < k → filter_map (counted_word rule) (windows k (bytes ++ byte ∷ [])) ≡ filter_map (counted_word rule) (windows k bytes) ++ option_to_list (counted_word rule (last_window k (bytes ++ byte ∷ [])))
unfolding windows counted_word counted_form window_form
words_push-short k rule bytes byte h =
    let long = length_push bytes byte in
    let none : position_count k (length (bytes ++ byte ∷ [])) ≡ 0 = omega (arith, long, h) in
    let before : position_count k (length bytes) ≡ 0 = omega (arith, h) in
    let window : List ℕ = map to_ascii_uppercase (last_window k (bytes ++ byte ∷ [])) in
    ap (λ n. filter_map (counted_word rule) (map (λ p. take k (drop p (bytes ++ byte ∷ []))) (range_with_len 0 n))) none
    ∙ sym (ap (λ n. filter_map (counted_word rule) (map (λ p. take k (drop p bytes)) (range_with_len 0 n)) ++ option_to_list (counted_word rule (last_window k (bytes ++ byte ∷ [])))) before
    ∙ ap (λ b. option_to_list (option_map number (option_and_then (where_listed rule.only) (cond b (Some (form rule.both window)) None))))
    (last_window-short k (bytes ++ byte ∷ []) (omega (arith, long, h))))

-- the words of the windows, and how one more byte adds to them
pub words_push : (k : ℕ) (rule : CountingRule) (bytes : List ℕ) (byte : ℕ) → filter_map (counted_word rule) (windows k (bytes ++ byte ∷ [])) ≡ filter_map (counted_word rule) (windows k bytes) ++ option_to_list (counted_word rule (last_window k (bytes ++ byte ∷ [])))
words_push k rule bytes byte =
    ⊎_elim (λ h. words_push-short k rule bytes byte h) (λ h. ap (filter_map (counted_word rule)) (windows_push k bytes byte h)
    ∙ filter_map-append (counted_word rule) (windows k bytes) (last_window k (bytes ++ byte ∷ []) ∷ [])
    ∙ ap (λ xs. filter_map (counted_word rule) (windows k bytes) ++ xs) (filter_map-one (counted_word rule) (last_window k (bytes ++ byte ∷ []))))
    (cases_lt (length bytes + 1) k)
