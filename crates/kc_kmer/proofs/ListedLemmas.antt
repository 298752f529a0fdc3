-- A rule with a list of words beside the rule without it: the words are those of the list, and each occurs as often.
use Rattle.std.proofs.Common.{◌≡◌, ℕ, Bool, true, false, ◌&&◌, cond, List, [], ◌∷◌, Option, Some, None, option_map, filter, filter_map, sum_by, count_by, refl, ap, sym, ◌∙◌}
use Rattle.std.proofs.lemmas.Slice.Eq.{bytes_eq-Decides}
use Rattle.std.specs.List.{cons_option, flat_map}
use Rattle.std.specs.Option.{option_map_or, option_and_then}
use Rattle.std.specs.Str.{bytes_eq}
use Rattle.kc_lemmas.proofs.Lists.{filter-flat_map}
use Rattle.kc_lemmas.proofs.Sums.{sum_by-zeros, count_by-none}
use Rattle.kc_fastx.specs.Reads.{Read}
use Rattle.kc_kmer.specs.Word.{number}
use Rattle.kc_kmer.specs.Rule.{CountingRule, is_listed, without_list}
use Rattle.kc_kmer.specs.Occurrences.{is_usable, word_at, form_at, where_listed, counted_at, positions, counts_under, occurrences_in, occurrences, words_in, words_of}

-- ---- no list

-- a rule that has no list is itself without one
pub unlisted-same : (rule : CountingRule) → rule.only ≡ None → without_list rule ≡ rule
unlisted-same rule none = λ i. record { k = rule.k; both = rule.both; floor = rule.floor; only = sym none i }

-- without a list no word is left out
pub each_listed : (only : Option (List ℕ)) (o : Option (List ℕ)) → only ≡ None → option_and_then (where_listed only) o ≡ o
unfolding is_listed
each_listed only o none = ap (λ list. option_and_then (where_listed list) o) none ∙ by o
  where
    by : (found : Option (List ℕ)) → option_and_then (where_listed None) found ≡ found
    by None = refl
    by (Some word) = refl

-- without a list each word counts
pub counted_at-unlisted : (rule : CountingRule) (read : Read) (p : ℕ) → rule.only ≡ None → counted_at rule read p ≡ form_at rule read p
unfolding counted_at
counted_at-unlisted rule read p none = each_listed rule.only (form_at rule read p) none

form_at-without : (rule : CountingRule) (read : Read) (p : ℕ) → form_at (without_list rule) read p ≡ form_at rule read p
unfolding form_at word_at is_usable
form_at-without rule read p = refl

counted_at-without : (rule : CountingRule) (read : Read) (p : ℕ) → counted_at (without_list rule) read p ≡ form_at rule read p
counted_at-without rule read p = counted_at-unlisted (without_list rule) read p refl ∙ form_at-without rule read p

-- ---- occurrences

under-listed : (only : Option (List ℕ)) (o : Option (List ℕ)) (word : List ℕ)
    → option_map_or (λ found. bytes_eq found word) (option_and_then (where_listed only) o) false
    ≡ (is_listed only (number word) && option_map_or (λ found. bytes_eq found word) o false)
under-listed only None word = sym (and-false (is_listed only (number word)))
  where
    and-false : (b : Bool) → (b && false) ≡ false
    and-false true = refl
    and-false false = refl
under-listed only (Some found) word = by (bytes_eq found word) refl
  where
    pick : (b : Bool) → option_map_or (λ f. bytes_eq f word) (cond b (Some found) None) false ≡ (b && bytes_eq found word)
    pick true = refl
    pick false = refl

    and-false : (a b : Bool) → (a && false) ≡ (b && false)
    and-false true true = refl
    and-false true false = refl
    and-false false true = refl
    and-false false false = refl

    by : (same : Bool) → bytes_eq found word ≡ same
        → option_map_or (λ f. bytes_eq f word) (where_listed only found) false ≡ (is_listed only (number word) && bytes_eq found word)
    by true e =
        pick (is_listed only (number found))
        ∙ ap (λ w. is_listed only (number w) && bytes_eq found word) ((bytes_eq-Decides found word).0 e)
    by false e =
        pick (is_listed only (number found))
        ∙ ap (λ b. is_listed only (number found) && b) e ∙ and-false (is_listed only (number found)) (is_listed only (number word))
        ∙ sym (ap (λ b. is_listed only (number word) && b) e)

counts_under-listed : (rule : CountingRule) (read : Read) (word : List ℕ) (p : ℕ)
    → counts_under rule read word p ≡ (is_listed rule.only (number word) && counts_under (without_list rule) read word p)
unfolding counted_at
counts_under-listed rule read word p =
    under-listed rule.only (form_at rule read p) word
    ∙ ap (λ o. is_listed rule.only (number word) && option_map_or (λ found. bytes_eq found word) o false) (sym (counted_at-without rule read p))

count_by-where : {X : Type 0} (b : Bool) (test : X → Bool) (xs : List X) → count_by (λ x. b && test x) xs ≡ cond b (count_by test xs) 0
count_by-where true test xs = refl
count_by-where false test xs = count_by-none (λ _. false) xs (λ i d h. refl)

sum_by-where : {X : Type 0} (b : Bool) (f : X → ℕ) (xs : List X) → sum_by (λ x. cond b (f x) 0) xs ≡ cond b (sum_by f xs) 0
sum_by-where true f xs = refl
sum_by-where false f xs = sum_by-zeros (λ _. 0) xs (λ i d h. refl)

occurrences_in-listed : (rule : CountingRule) (read : Read) (word : List ℕ)
    → occurrences_in rule read word ≡ cond (is_listed rule.only (number word)) (occurrences_in (without_list rule) read word) 0
unfolding occurrences_in
occurrences_in-listed rule read word =
    (λ i. count_by (λ p. counts_under-listed rule read word p i) (positions rule read))
    ∙ count_by-where (is_listed rule.only (number word)) (λ p. counts_under (without_list rule) read word p) (positions rule read)

-- a listed word occurs as often as without the list, and no other word does
pub occurrences-listed : (rule : CountingRule) (reads : List Read) (word : List ℕ)
    → occurrences rule reads word ≡ cond (is_listed rule.only (number word)) (occurrences (without_list rule) reads word) 0
unfolding occurrences
occurrences-listed rule reads word =
    (λ i. sum_by (λ read. occurrences_in-listed rule read word i) reads)
    ∙ sum_by-where (is_listed rule.only (number word)) (λ read. occurrences_in (without_list rule) read word) reads

-- ---- words

kept-listed : (only : Option (List ℕ)) (found : ℕ → Option (List ℕ)) (ps : List ℕ)
    → filter_map (λ p. option_map number (option_and_then (where_listed only) (found p))) ps
    ≡ filter (is_listed only) (filter_map (λ p. option_map number (found p)) ps)
kept-listed only found [] = refl
kept-listed only found (p ∷ ps) = by (found p) (kept-listed only found ps)
  where
    rest : List ℕ
    rest = filter_map (λ q. option_map number (option_and_then (where_listed only) (found q))) ps

    all : List ℕ
    all = filter_map (λ q. option_map number (found q)) ps

    pick : (b : Bool) (word : List ℕ) → rest ≡ filter (is_listed only) all
        → cons_option (option_map number (cond b (Some word) None)) rest ≡ cond b (number word ∷ filter (is_listed only) all) (filter (is_listed only) all)
    pick true word same = ap (λ ns. number word ∷ ns) same
    pick false word same = same

    by : (o : Option (List ℕ)) → rest ≡ filter (is_listed only) all
        → cons_option (option_map number (option_and_then (where_listed only) o)) rest ≡ filter (is_listed only) (cons_option (option_map number o) all)
    by None same = same
    by (Some word) same = pick (is_listed only (number word)) word same

words_in-listed : (rule : CountingRule) (read : Read) → words_in rule read ≡ filter (is_listed rule.only) (words_in (without_list rule) read)
unfolding words_in counted_at
words_in-listed rule read =
    kept-listed rule.only (form_at rule read) (positions rule read)
    ∙ (λ i. filter (is_listed rule.only) (filter_map (λ p. option_map number (sym (counted_at-without rule read p) i)) (positions rule read)))

-- the words are the listed ones of those without the list
pub words_of-listed : (rule : CountingRule) (reads : List Read)
    → words_of rule reads ≡ filter (is_listed rule.only) (words_of (without_list rule) reads)
unfolding words_of
words_of-listed rule reads =
    (λ i. flat_map (λ read. words_in-listed rule read i) reads)
    ∙ sym (filter-flat_map (is_listed rule.only) (λ read. words_in (without_list rule) read) reads)
