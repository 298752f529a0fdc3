-- The words of a list: those of the reads, that ascending words are determined by their elements, and the search by
-- halving.
use Rattle.std.proofs.Common.{◌≡◌, ℕ, zero, suc, ◌+◌, ◌-◌, ◌^◌, ◌<◌, ◌≤◌, ◌↔◌, ⊎_elim, eqb, List, [], ◌∷◌, ◌++◌, length, get_or, take, drop, true, false, All, Some, Result, Ok, Err, Contains, cond, refl, ap, sym, ◌∙◌, subst, arith, eq-eqb, eqb-true, ne_eqb}
use Rattle.std.proofs.lemmas.Bool.{cases_lt}
use Rattle.std.proofs.lemmas.List.{get_or-drop, take_all, take_more, get_or_default, append-nil}
use Rattle.std.proofs.lemmas.List.Concat.{flat_map-append}
use Rattle.std.proofs.lemmas.List.Elements.{Contains-append_left, Contains-append_right, Contains-append_cases, All-contains, Contains-get_or}
use Rattle.std.proofs.lemmas.List.Folds.{list_any_none, list_any_at}
use Rattle.std.proofs.lemmas.List.Kept.{AllPairs-from_increasing}
use Rattle.std.proofs.lemmas.List.Sorted.{searched}
use Rattle.std.specs.Prelude.{MatchResult}
use Rattle.std.specs.Result.{is_ok}
use Rattle.std.specs.List.Sorted.{IsStrictlyIncreasing, IsBinarySearchResult}
use Rattle.std.specs.Ordering.{nat_cmp}
use Rattle.kc_lemmas.proofs.Lists.{Contains-cons}
use Rattle.kc_lemmas.proofs.Sums.{term-le-sum_by, count_by-some}
use Rattle.kc_fastx.specs.Reads.{Read}
use Rattle.kc_kmer.specs.Word.{text}
use Rattle.kc_kmer.specs.Rule.{CountingRule, is_listed}
use Rattle.kc_kmer.specs.Occurrences.{occurrences, words_in, words_of}
use Rattle.kc_kmer.proofs.WordCounts.{times-words_of, All-words_of}
use Rattle.kc_word.specs.Only.{WordList, AreListed, IsListOf}
use Rattle.kc_word.specs.Starts.{AreLesser, AreGreater}

-- ---- the words of the reads

-- the words are those of the reads seen so far
pub record HasWords (rule : CountingRule) (seen : List Read) (words : List ℕ) : Type 0 where
  pub all : (n : ℕ) → Contains (words_of rule seen) n → Contains words n
  pub others : (n : ℕ) → Contains words n → Contains (words_of rule seen) n

pub HasWords-none : (rule : CountingRule) → HasWords rule [] []
unfolding words_of
HasWords-none rule = record { all = λ n h. h; others = λ n h. h }

-- the same words, perhaps fewer times
pub HasWords-same : {rule : CountingRule} {seen : List Read} {words : List ℕ} (next : List ℕ)
    → ((n : ℕ) → Contains next n ↔ Contains words n) → HasWords rule seen words → HasWords rule seen next
HasWords-same next same has = record {
  all = λ n h. (same n).1 (has.all n h);
  others = λ n h. has.others n ((same n).0 h);
}

-- one more read, at an index
pub HasWords-more : (rule : CountingRule) (reads : List Read) (i : ℕ) (read : Read) (words next : List ℕ) → i < length reads
    → read ≡ get_or reads i read → next ≡ words ++ words_in rule read → HasWords rule (take i reads) words
    → HasWords rule (take (i + 1) reads) next
unfolding words_of
HasWords-more rule reads i read words next within is pushed has = record {
  all = λ n h. subst (λ ws. Contains ws n) (sym pushed) (⊎_elim
      (λ before. Contains-append_left words (words_in rule read) n (has.all n before))
      (λ here. Contains-append_right words (words_in rule read) n here)
      (Contains-append_cases (words_of rule (take i reads)) (words_in rule read) n (subst (λ ws. Contains ws n) split h)));
  others = λ n h. subst (λ ws. Contains ws n) (sym split) (⊎_elim
      (λ before. Contains-append_left (words_of rule (take i reads)) (words_in rule read) n (has.others n before))
      (λ here. Contains-append_right (words_of rule (take i reads)) (words_in rule read) n here)
      (Contains-append_cases words (words_in rule read) n (subst (λ ws. Contains ws n) pushed h)));
}
  where
    split : words_of rule (take (i + 1) reads) ≡ words_of rule (take i reads) ++ words_in rule read
    split =
        ap (words_of rule) (take_more reads i read within ∙ ap (λ r. take i reads ++ r ∷ []) (sym is))
        ∙ flat_map-append (λ r. words_in rule r) (take i reads) (read ∷ [])
        ∙ ap (λ ws. words_of rule (take i reads) ++ ws) (append-nil (words_in rule read))

pub HasWords-all : (rule : CountingRule) (reads : List Read) (i : ℕ) (words : List ℕ) → length reads ≤ i
    → HasWords rule (take i reads) words → (n : ℕ) → Contains words n ↔ Contains (words_of rule reads) n
HasWords-all rule reads i words h has =
    let whole = subst (λ seen. HasWords rule seen words) (take_all i reads h) has in
    λ n. (whole.others n, whole.all n)

-- a word is among the words of the reads if it occurs
occurs : (rule : CountingRule) (reads : List Read) (n : ℕ) → n < 4 ^ rule.k
    → Contains (words_of rule reads) n ↔ (1 ≤ occurrences rule reads (text rule.k n))
occurs rule reads n below =
    let same = times-words_of rule reads n below in (
      λ stands.
          let here = term-le-sum_by (λ m. cond (eqb m n) 1 0) (words_of rule reads) n stands in
          let one : cond (eqb n n) 1 0 ≡ 1 = ap {B = ℕ} (λ b. cond b 1 0) (eq-eqb n n refl) in
          omega (arith, same, here, one),
      λ some.
          let (i, within, is) = count_by-some (λ m. eqb m n) (words_of rule reads) (omega (arith, same, some)) in
          (i, within, eqb-true (get_or (words_of rule reads) i n) n (is n)),
    )

-- ascending words that are those of the reads are their list
pub listed-words : (rule : CountingRule) (reads : List Read) (words : List ℕ) → IsStrictlyIncreasing words
    → ((n : ℕ) → Contains words n ↔ Contains (words_of rule reads) n) → AreListed rule.k words
listed-words rule reads words rising same = record {
  rising = rising;
  below = λ i d within.
      All-contains (λ word. word < 4 ^ rule.k) (words_of rule reads) (get_or words i d) (All-words_of rule reads)
      ((same (get_or words i d)).0 (Contains-get_or words i d within));
}

pub list-of : (rule : CountingRule) (reads : List Read) (list : WordList) → list.k ≡ rule.k → list.both ≡ rule.both
    → AreListed rule.k list.words → ((n : ℕ) → Contains list.words n ↔ Contains (words_of rule reads) n)
    → IsListOf rule reads list
list-of rule reads list same_k same_both listed same = record {
  k = same_k;
  both = same_both;
  listed = listed;
  words = λ n below. (
    λ stands. (occurs rule reads n below).0 ((same n).0 stands),
    λ some. (same n).1 ((occurs rule reads n below).1 some),
  );
}

-- ---- ascending words

rises : (words : List ℕ) → IsStrictlyIncreasing words → (i j : ℕ) → i ≤ j → j < length words → get_or words i 0 ≤ get_or words j 0
rises words rising i j le within =
    ⊎_elim
    (λ less. let up = AllPairs-from_increasing words rising i j 0 less within in omega (arith, up))
    (λ more. let same : i ≡ j = omega (arith, le, more) in let e = ap (λ m. get_or words m 0) same in omega (arith, e))
    (cases_lt i j)

-- ascending words that have the same elements are the same
pub same-rising : (words others : List ℕ) → IsStrictlyIncreasing words → IsStrictlyIncreasing others
    → ((n : ℕ) → Contains words n → Contains others n) → ((n : ℕ) → Contains others n → Contains words n) → words ≡ others
same-rising [] [] rising up there back = refl
same-rising [] (y ∷ ys) rising up there back = absurd (none (back y (0, omega arith, refl)))
  where
    none : Contains [] y → ⊥
    none (i, within, is) = omega (arith, within)
same-rising (x ∷ xs) [] rising up there back = absurd (none (there x (0, omega arith, refl)))
  where
    none : Contains [] x → ⊥
    none (i, within, is) = omega (arith, within)
same-rising (x ∷ xs) (y ∷ ys) rising up there back =
    let first = least (y ∷ ys) up x (there x (0, omega arith, refl)) in
    let second = least (x ∷ xs) rising y (back y (0, omega arith, refl)) in
    let same : x ≡ y = omega (arith, first, second) in
    ap (λ n. n ∷ xs) same ∙ ap (λ ns. y ∷ ns)
    (same-rising xs ys (tail x xs rising) (tail y ys up)
    (λ n h. behind (y ∷ ys) n (let more = above x xs rising n h in omega (arith, more, same)) (there n (Contains-cons xs n x h)))
    (λ n h. behind (x ∷ xs) n (let more = above y ys up n h in omega (arith, more, same)) (back n (Contains-cons ys n y h))))
  where
    tail : (m : ℕ) (ns : List ℕ) → IsStrictlyIncreasing (m ∷ ns) → IsStrictlyIncreasing ns
    tail m ns sorted k h =
        let step = sorted (suc k) (omega (arith, h)) in
        let e : suc k + 1 ≡ suc (k + 1) = omega arith in
        subst (λ i. get_or ns k 0 < get_or (m ∷ ns) i 0) e step

    least : (ns : List ℕ) → IsStrictlyIncreasing ns → (n : ℕ) → Contains ns n → get_or ns 0 0 ≤ n
    least ns sorted n (i, within, is) =
        let le = rises ns sorted 0 i (omega arith) within in
        let value = get_or_default ns i 0 n within ∙ is in
        omega (arith, le, value)

    above : (m : ℕ) (ns : List ℕ) → IsStrictlyIncreasing (m ∷ ns) → (n : ℕ) → Contains ns n → m < n
    above m ns sorted n (i, within, is) =
        let less = AllPairs-from_increasing (m ∷ ns) sorted 0 (suc i) n (omega arith) (omega (arith, within)) in
        omega (arith, less, is)

    behind : (ns : List ℕ) (n : ℕ) → get_or ns 0 0 < n → Contains ns n → Contains (drop 1 ns) n
    behind [] n less (i, within, is) = absurd (omega (arith, within))
    behind (m ∷ ns) n less (zero, within, is) = absurd (omega (arith, less, is))
    behind (m ∷ ns) n less (suc i, within, is) = (i, omega (arith, within), is)

-- the words of reads have one list
pub one-list : (rule : CountingRule) (reads : List Read) (list other : WordList) → IsListOf rule reads list → IsListOf rule reads other
    → list ≡ other
one-list rule reads list other is also =
    let same = same-rising list.words other.words is.listed.rising also.listed.rising (to list other is also) (to other list also is) in
    λ i. record { k = (is.k ∙ sym also.k) i; both = (is.both ∙ sym also.both) i; words = same i }
  where
    to : (one two : WordList) → IsListOf rule reads one → IsListOf rule reads two → (n : ℕ) → Contains one.words n → Contains two.words n
    to one two first second n h =
        let below = All-contains (λ word. word < 4 ^ rule.k) one.words n first.listed.below h in
        (second.words n below).1 ((first.words n below).0 h)

-- ---- the search

pub Contains-listed : (words : List ℕ) (word : ℕ) → Contains words word → is_listed (Some words) word ≡ true
unfolding is_listed
Contains-listed words word (i, within, is) = list_any_at (eqb word) words i word within (eq-eqb word _ (sym is))

-- a word before whose place the words are less, and from it on greater, is not listed
pub unlisted : (words : List ℕ) (place word : ℕ) → AreLesser words place word → AreGreater words place word
    → is_listed (Some words) word ≡ false
unfolding is_listed
unlisted words place word lesser greater =
    list_any_none (eqb word) words (λ k d within. ne_eqb word (get_or words k d) (λ is.
    let here : get_or words k 0 ≡ word = get_or_default words k 0 d within ∙ sym is in
    ⊎_elim (λ l. let less = lesser k l in omega (arith, less, here)) (λ m. let more = greater k m within in omega (arith, more, here))
    (cases_lt k place)))

pub lesser-before : (words : List ℕ) (place word : ℕ) → IsStrictlyIncreasing words → place ≤ length words
    → get_or words (place - 1) 0 < word → AreLesser words place word
lesser-before words place word rising within less k before =
    let up = rises words rising k (place - 1) (omega (arith, before)) (omega (arith, before, within)) in
    omega (arith, up, less)

pub greater-behind : (words : List ℕ) (place word : ℕ) → IsStrictlyIncreasing words → word < get_or words place 0
    → AreGreater words place word
greater-behind words place word rising more k from within =
    let up = rises words rising place k from within in
    omega (arith, up, more)

-- what a search by halving finds in ascending words
pub found-by-halving : (words : List ℕ) (word : ℕ) (r : Result ℕ ℕ) → IsStrictlyIncreasing words
    → IsBinarySearchResult (λ n. nat_cmp n word) words r → is_ok r ≡ is_listed (Some words) word
found-by-halving words word r rising told = by r (searched words word r told (rises words rising))
  where
    by : (answer : Result ℕ ℕ) → MatchResult answer (λ i. (i < length words) × (get_or words i 0 ≡ word))
        (λ i. (i ≤ length words) × ((k : ℕ) → k < i → get_or words k 0 < word) × ((k : ℕ) → i ≤ k → k < length words → word < get_or words k 0))
        → is_ok answer ≡ is_listed (Some words) word
    by (Ok i) (less, is) = sym (Contains-listed words word (i, less, sym (get_or_default words i 0 word less) ∙ is))
    by (Err i) (most, lesser, greater) = sym (unlisted words i word lesser greater)

-- ---- the words that are left

-- what is not looked at yet is unchanged, and below the bound
pub still-below : (bound : ℕ) (xs ys : List ℕ) (i word : ℕ) → All (λ x. x < bound) xs → drop i ys ≡ drop i xs → i < length xs
    → word ≡ get_or ys i word → word < bound
still-below bound xs ys i word below rest within is =
    let none : i + 0 ≡ i = omega arith in
    let value : word ≡ get_or xs i word =
    is ∙ ap (λ j. get_or ys j word) (sym none) ∙ sym (get_or-drop i ys 0 word) ∙ ap (λ zs. get_or zs 0 word) rest
    ∙ get_or-drop i xs 0 word ∙ ap (λ j. get_or xs j word) none in
    subst (λ m. m < bound) (sym value) (below i word within)
