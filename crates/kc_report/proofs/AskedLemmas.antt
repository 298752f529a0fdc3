-- The rows of asked words.
use Rattle.std.proofs.Common.{◌≡◌, ℕ, suc, ◌+◌, ◌^◌, ◌<◌, ◌≤◌, Bool, true, false, cond, eqb, ⊎_elim, List, [], ◌∷◌, ◌++◌}
use Rattle.std.proofs.Common.{length, get_or, take, map, refl, sym, ◌∙◌, ap, subst, arith, append-nil, eq-eqb, eqb-true, ne_eqb}
use Rattle.std.specs.Prelude.{◌==◌, ◌||◌, All, Result, Ok, Err, decimal}
use Rattle.std.specs.List.{Contains, filter}
use Rattle.std.specs.List.Sorted.{IsNonDecreasing, IsPermutation, IsStrictlyIncreasing}
use Rattle.std.proofs.lemmas.Bool.{cases_Bool, cases_lt}
use Rattle.std.proofs.lemmas.List.{get_or-take, get_or_default, get_or_push, get_or_append_left, length-take-le, length_push, map_push, take_all}
use Rattle.std.proofs.lemmas.List.Elements.{All-cons, All-filter, All-push, All-weaker, filter-append}
use Rattle.std.proofs.lemmas.List.Folds.{list_any_at, list_any_none}
use Rattle.std.proofs.lemmas.List.Kept.{IsStrictlyIncreasing-filter}
use Rattle.std.proofs.lemmas.List.Sorted.{All-permutation, Contains-permutation}
use Rattle.std.proofs.lemmas.List.Sums.{sum_by-cons}
use Rattle.kc_io.specs.Sinks.{Written, HasWritten, HasBegun}
use Rattle.kc_io.specs.Sources.{Seen}
use Rattle.kc_kmer.specs.Word.{text, form, number}
use Rattle.kc_tally.specs.declared.row.Row.{Row}
use Rattle.kc_tally.specs.Tally.{AreRows, TallySeen, count_of, total_of}
use Rattle.kc_report.proofs.FieldLemmas.{never}
use Rattle.kc_report.specs.AskedWords.{AreNumbersOf, HasCountsOf, IsAskedFor, asked_number, is_in}
use Rattle.kc_report.specs.Bytes.{line_feed, space}
use Rattle.kc_report.specs.Querying.{Answers, IsAskable, IsFirstBadWord, asked_form, in_upper_case, query_text}
use Rattle.kc_report.specs.declared.report_faults.ReportFault.{ReportFault}
use Rattle.kc_report.specs.declared.report_faults.ReportFault.TheVariants.{BadHeader, BadRow, BadEnd, Write}
use Rattle.kc_report.specs.declared.report_faults.ReportFault.TheVariants.{TableTooLong, TableRead, BadWord}
use Rattle.kc_report.specs.declared.report_faults.ReportFault.TheVariants.{BrokenGzip, ShortGzip, Unlike, TooLarge, Memory}
use Rattle.kc_report.specs.RowByRow.{HasGivenRows, HasSameHeader, TableStand}

-- ---- a word among sorted ones

taken_at : (words : List ℕ) (passed word k d : ℕ) → All (λ asked. asked < word) (take passed words) → k < passed → k < length words
    → passed ≤ length words → get_or words k d < word
taken_at words passed word k d before below within fits =
    subst (λ n. n < word) (get_or-take passed words k d below)
    (before k d (omega (arith, length-take-le passed words fits, below)))

-- the first word that is not passed decides
pub decides : (words : List ℕ) (passed word d : ℕ) → IsNonDecreasing words → All (λ asked. asked < word) (take passed words)
    → passed < length words → word ≤ get_or words passed d → (get_or words passed d == word) ≡ is_in words word
decides words passed word d rising before within least =
    ⊎_elim
    (λ same. same ∙ sym (list_any_at (λ asked. asked == word) words passed d within same))
    (λ other. other ∙ sym (list_any_none (λ asked. asked == word) words (λ k e l. ne_eqb (get_or words k e) word (apart other k e l))))
    (cases_Bool (get_or words passed d == word))
  where
    apart : (get_or words passed d == word) ≡ false → (k e : ℕ) → k < length words → get_or words k e ≡ word → ⊥
    apart other k e l is =
        ⊎_elim
        (λ below. let less = taken_at words passed word k e before below l (omega (arith, within)) in omega (arith, less, is))
        (λ behind. let up = rising passed k e behind l in
        let here = get_or_default words passed d e within in
        let equal : get_or words passed d ≡ word = omega (arith, up, here, least, is) in
        never (sym other ∙ eq-eqb (get_or words passed d) word equal))
        (cases_lt k passed)

-- if all are passed, none is the word
pub none_left : (words : List ℕ) (passed word : ℕ) → All (λ asked. asked < word) (take passed words) → length words ≤ passed
    → false ≡ is_in words word
none_left words passed word before over =
    let all = subst (All (λ asked. asked < word)) (take_all passed words over) before in
    sym (list_any_none (λ asked. asked == word) words (λ k e l. ne_eqb (get_or words k e) word
    (λ is. let less = all k e l in omega (arith, less, is))))

-- ---- rows of some words

words_filter : (p : ℕ → Bool) (rows : List Row) → map (λ row. row.word) (filter (λ row. p row.word) rows) ≡ filter p (map (λ row. row.word) rows)
words_filter p [] = refl
words_filter p (row ∷ rows) =
    ⊎_elim
    (λ t. rw t (ap (λ words. row.word ∷ words) (words_filter p rows)))
    (λ f. rw f (words_filter p rows))
    (cases_Bool (p row.word))

total_filter : (q : Row → Bool) (rows : List Row) → total_of (filter q rows) ≤ total_of rows
total_filter q [] = omega arith
total_filter q (row ∷ rows) =
    let more = total_filter q rows in
    let all = sum_by-cons (λ (r : Row). r.count) row rows in
    ⊎_elim
    (λ t. rw t (omega (arith, more, all, sum_by-cons (λ (r : Row). r.count) row (filter q rows))))
    (λ f. rw f (omega (arith, more, all)))
    (cases_Bool (q row))

pub AreRows-filter : (k : ℕ) (both : Bool) (p : ℕ → Bool) (rows : List Row) → AreRows k both rows
    → AreRows k both (filter (λ row. p row.word) rows)
AreRows-filter k both p rows are =
    let q = λ (row : Row). p row.word in
    record {
      ordered = record {
        rising = subst IsStrictlyIncreasing (sym (words_filter p rows)) (IsStrictlyIncreasing-filter p (map (λ row. row.word) rows) are.ordered.rising);
        words = All-filter q (λ row. row.word < 4 ^ k) rows are.ordered.words;
        present = All-filter q (λ row. 1 ≤ row.count) rows are.ordered.present;
      };
      forms = All-filter q (λ row. form both (text k row.word) ≡ text k row.word) rows are.forms;
      small = let small = are.small in omega (arith, small, total_filter q rows);
    }

count_filter : (p : ℕ → Bool) (n : ℕ) → p n ≡ true → (rows : List Row) → count_of (filter (λ row. p row.word) rows) n ≡ count_of rows n
count_filter p n here [] = refl
count_filter p n here (row ∷ rows) =
    let more = count_filter p n here rows in
    ⊎_elim
    (λ t. rw t (ap (λ count. cond (eqb row.word n) row.count count) more))
    (λ f. rw f (more ∙ ap (λ b. cond b row.count (count_of rows n))
    (sym (ne_eqb row.word n (λ is. never (sym f ∙ ap p is ∙ here))))))
    (cases_Bool (p row.word))

-- a property of the words that are passed
only_filter : (P : ℕ → Type 0) (p : ℕ → Bool) → ((n : ℕ) → p n ≡ true → P n) → (rows : List Row)
    → All (λ row. P row.word) (filter (λ row. p row.word) rows)
only_filter P p holds [] = λ k d l. absurd (omega (arith, l))
only_filter P p holds (row ∷ rows) =
    let more = only_filter P p holds rows in
    ⊎_elim
    (λ t. rw t (All-cons (λ (r : Row). P r.word) row (filter (λ r. p r.word) rows) (holds row.word t) more))
    (λ f. rw f more)
    (cases_Bool (p row.word))

-- a number among them is one of theirs
in_contains : (words : List ℕ) (n : ℕ) → is_in words n ≡ true → Contains words n
in_contains [] n e = absurd (never e)
in_contains (word ∷ words) n e =
    ⊎_elim
    (λ t. (0, omega arith, eqb-true word n t))
    (λ f. let rest = in_contains words n (sym (ap (λ b. b || is_in words n) f) ∙ e) in (suc rest.0, omega (arith, rest.1), rest.2))
    (cases_Bool (word == n))

contains_in : (words : List ℕ) (n : ℕ) → Contains words n → is_in words n ≡ true
contains_in words n c = list_any_at (λ asked. asked == n) words c.0 n c.1 (eq-eqb (get_or words c.0 n) n c.2)

-- the rows of the asked words of a tally have its counts
pub has_counts : (tally : TallySeen) (words : List (List ℕ)) (numbers : List ℕ) (few : List Row)
    → AreNumbersOf tally.k tally.both words numbers → few ≡ filter (λ row. is_in numbers row.word) tally.rows
    → HasCountsOf tally words (record { k = tally.k; both = tally.both; rows = few })
has_counts tally words numbers few are is = record {
  k = refl;
  both = refl;
  counts = λ word one askable.
      ap (λ rows. count_of rows (asked_number tally.both word)) is
      ∙ count_filter (is_in numbers) (asked_number tally.both word) (contains_in numbers (asked_number tally.both word) (are.each word one askable)) tally.rows;
  only = subst (All (λ row. IsAskedFor tally.k tally.both words row.word)) (sym is)
      (only_filter (IsAskedFor tally.k tally.both words) (is_in numbers)
      (λ n e. let found = in_contains numbers n e in
      subst (IsAskedFor tally.k tally.both words) found.2 (are.only found.0 n found.1)) tally.rows);
}

-- ---- numbers in another order

pub numbers_reordered : {k : ℕ} {both : Bool} {words : List (List ℕ)} {numbers others : List ℕ} → IsPermutation numbers others
    → AreNumbersOf k both words numbers → AreNumbersOf k both words others
numbers_reordered {k} {both} {words} {numbers} {others} same are = record {
  each = λ word one askable. Contains-permutation numbers others (asked_number both word) same (are.each word one askable);
  only = All-permutation (IsAskedFor k both words) numbers others same are.only;
}

-- ---- a table, row by row

-- of the rows that were given these are kept, and what is passed is below any row that may come
pub record KeepsAsked (start now : Seen) (limit : ℕ) (words : List (List ℕ)) (numbers : List ℕ) (passed : ℕ) (few : List Row)
    (stand : TableStand) : Type 0 where
  pub rows : List Row
  pub given : HasGivenRows start now limit rows stand
  pub numbers_are : AreNumbersOf stand.read.k stand.read.both words numbers
  pub few_are : few ≡ filter (λ row. is_in numbers row.word) rows
  pub below : (row : Row) → IsStrictlyIncreasing (map (λ r. r.word) (rows ++ row ∷ [])) → All (λ asked. asked < row.word) (take passed numbers)

-- ---- the numbers of words, one after another

-- these are the numbers of those of the first words that are k bases
pub record Numbered (k : ℕ) (both : Bool) (words : List (List ℕ)) (i : ℕ) (numbers : List ℕ) : Type 0 where
  pub each : (j : ℕ) → j < i → IsAskable k (get_or words j []) → Contains numbers (asked_number both (get_or words j []))
  pub only : All (IsAskedFor k both words) numbers

pub numbered_none : (k : ℕ) (both : Bool) (words : List (List ℕ)) → Numbered k both words 0 []
numbered_none k both words = record {
  each = λ j l askable. absurd (omega (arith, l));
  only = λ j d l. absurd (omega (arith, l));
}

-- a word of k bases more
pub numbered_more : {k : ℕ} {both : Bool} {words : List (List ℕ)} {i : ℕ} {numbers : List ℕ} (n : ℕ) (word : List ℕ)
    → Numbered k both words i numbers → i < length words → get_or words i [] ≡ word → IsAskable k word → n ≡ asked_number both word
    → Numbered k both words (i + 1) (numbers ++ n ∷ [])
numbered_more {k} {both} {words} {i} {numbers} n word before within at askable is = record {
  each = λ j l good. ⊎_elim
      (λ less. let found = before.each j less good in
      (found.0, omega (arith, found.1, length_push numbers n), get_or_append_left numbers (n ∷ []) (asked_number both (get_or words j [])) found.0 found.1 ∙ found.2))
      (λ rest. let here : j ≡ i = omega (arith, l, rest) in (
        length numbers,
        omega (arith, length_push numbers n),
        get_or_push numbers n (asked_number both (get_or words j [])) (length numbers) refl
            ∙ is ∙ ap (asked_number both) (sym at ∙ ap (λ m. get_or words m []) (sym here)),
      ))
      (cases_lt j i);
  only = All-push (IsAskedFor k both words) numbers n before.only (record {
    word = word;
    is_one = (i, within, get_or_default words i word [] within ∙ at);
    askable = askable;
    is = is;
  });
}

-- one that is none
pub numbered_without : {k : ℕ} {both : Bool} {words : List (List ℕ)} {i : ℕ} {numbers : List ℕ} (word : List ℕ)
    → Numbered k both words i numbers → get_or words i [] ≡ word → ¬ IsAskable k word → Numbered k both words (i + 1) numbers
numbered_without {k} {both} {words} {i} {numbers} word before at bad = record {
  each = λ j l good. ⊎_elim
      (λ less. before.each j less good)
      (λ rest. let here : j ≡ i = omega (arith, l, rest) in
      absurd (bad (subst (IsAskable k) (ap (λ m. get_or words m []) here ∙ at) good)))
      (cases_lt j i);
  only = before.only;
}

pub numbered_all : {k : ℕ} {both : Bool} {words : List (List ℕ)} {i : ℕ} {numbers : List ℕ} → Numbered k both words i numbers
    → length words ≤ i → AreNumbersOf k both words numbers
numbered_all {k} {both} {words} {i} {numbers} are over = record {
  each = λ word one askable.
      let at : get_or words one.0 [] ≡ word = get_or_default words one.0 [] word one.1 ∙ one.2 in
      let found = are.each one.0 (omega (arith, one.1, over)) (subst (IsAskable k) (sym at) askable) in
      subst (λ w. Contains numbers (asked_number both w)) at found;
  only = are.only;
}

-- ---- results

same_lines : (tally few : TallySeen) (all words : List (List ℕ)) → HasCountsOf tally all few
    → ((word : List ℕ) → Contains words word → Contains all word) → All (IsAskable tally.k) words
    → query_text few words ≡ query_text tally words
same_lines tally few all [] h inside askable = refl
same_lines tally few all (word ∷ words) h inside askable =
    let here = askable 0 [] (omega arith) in
    let forms : asked_form few word ≡ asked_form tally word = ap (λ b. form b (in_upper_case word)) h.both in
    let counts : count_of few.rows (number (asked_form few word)) ≡ count_of tally.rows (number (asked_form tally word)) =
    ap (λ f. count_of few.rows (number f)) forms ∙ h.counts word (inside word (0, omega arith, refl)) here in
    let rest = same_lines tally few all words h (λ w one. inside w (suc one.0, omega (arith, one.1), one.2))
    (λ k d l. askable (suc k) d (omega (arith, l))) in
    λ i. (forms i ++ space ∷ decimal (counts i) ++ line_feed ∷ []) ++ rest i

-- a tally with the counts of the asked words in another has the same query text
pub answers_alike : {A : Type 0} (old new : Written) (tally few : TallySeen) (words : List (List ℕ)) (result : Result A ReportFault)
    → HasCountsOf tally words few → Answers old new few words result → Answers old new tally words result
answers_alike old new tally few words (Ok done) h a =
    let askable = subst (λ k. All (IsAskable k) words) h.k a.0 in
    (askable, subst (HasWritten old new) (same_lines tally few words words h (λ w one. one) askable) a.1)
answers_alike old new tally few words (Err (BadWord number)) h a = (subst (λ k. IsFirstBadWord k words number) h.k a.0, a.1)
answers_alike old new tally few words (Err Write) h a =
    let askable = subst (λ k. All (IsAskable k) words) h.k a.0 in
    (askable, subst (HasBegun old new) (same_lines tally few words words h (λ w one. one) askable) a.1)
answers_alike old new tally few words (Err BadHeader) h a = absurd a
answers_alike old new tally few words (Err (BadRow line)) h a = absurd a
answers_alike old new tally few words (Err BadEnd) h a = absurd a
answers_alike old new tally few words (Err TableTooLong) h a = absurd a
answers_alike old new tally few words (Err TableRead) h a = absurd a
answers_alike old new tally few words (Err BrokenGzip) h a = absurd a
answers_alike old new tally few words (Err ShortGzip) h a = absurd a
answers_alike old new tally few words (Err Unlike) h a = absurd a
answers_alike old new tally few words (Err TooLarge) h a = absurd a
answers_alike old new tally few words (Err Memory) h a = absurd a

-- ---- one more row of a table

last_rises : (ws : List ℕ) (a b : ℕ) → IsStrictlyIncreasing ((ws ++ a ∷ []) ++ b ∷ []) → a < b
last_rises ws a b h =
    let front = ws ++ a ∷ [] in
    let long = length_push ws a in
    let all = length_push front b in
    let step = h (length ws) (omega (arith, long, all)) in
    let at = get_or_append_left front (b ∷ []) 0 (length ws) (omega (arith, long)) ∙ get_or_push ws a 0 (length ws) refl in
    let next = get_or_push front b 0 (length ws + 1) (omega (arith, long)) in
    omega (arith, step, at, next)

-- what is below a row is below the rows after it
below_next : (rows : List Row) (row next : Row) (passed : List ℕ) → All (λ asked. asked < row.word) passed
    → IsStrictlyIncreasing (map (λ r. r.word) ((rows ++ row ∷ []) ++ next ∷ [])) → All (λ asked. asked < next.word) passed
below_next rows row next passed below rising =
    let words = map_push (λ (r : Row). r.word) (rows ++ row ∷ []) next
    ∙ ap (λ v. v ++ next.word ∷ []) (map_push (λ (r : Row). r.word) rows row) in
    let less = last_rises (map (λ r. r.word) rows) row.word next.word (subst IsStrictlyIncreasing words rising) in
    All-weaker (λ asked. asked < row.word) (λ asked. asked < next.word) (λ x l. omega (arith, l, less)) passed below

-- one more row was given, and the words below it are passed
pub record GivesOneMore (start now : Seen) (limit : ℕ) (words : List (List ℕ)) (numbers others : List ℕ) (passed later : ℕ)
    (few : List Row) (old new : TableStand) (row : Row) : Type 0 where
  pub before : Seen
  pub kept : KeepsAsked start before limit words numbers passed few old
  pub told : HasGivenRows start now limit (kept.rows ++ row ∷ []) new
  pub header : HasSameHeader old new
  pub same : others ≡ numbers
  pub below : All (λ asked. asked < row.word) (take later others)

more_kept : {start now : Seen} {limit : ℕ} {words : List (List ℕ)} {numbers others : List ℕ} {passed later : ℕ}
    {few : List Row} {old new : TableStand} {row : Row}
    (g : GivesOneMore start now limit words numbers others passed later few old new row) (after : List Row)
    → after ≡ filter (λ row. is_in numbers row.word) (g.kept.rows ++ row ∷ [])
    → KeepsAsked start now limit words others later after new
more_kept {start} {now} {limit} {words} {numbers} {others} {passed} {later} {few} {old} {new} {row} g after is = record {
  rows = g.kept.rows ++ row ∷ [];
  given = g.told;
  numbers_are = rw (g.header.k, g.header.both, g.same) g.kept.numbers_are;
  few_are = rw g.same is;
  below = λ next rising. below_next g.kept.rows row next (take later others) g.below rising;
}

-- which is asked for
pub keeps_row : {start now : Seen} {limit : ℕ} {words : List (List ℕ)} {numbers others : List ℕ} {passed later : ℕ}
    {few : List Row} {old new : TableStand} {row : Row} → GivesOneMore start now limit words numbers others passed later few old new row
    → is_in numbers row.word ≡ true → KeepsAsked start now limit words others later (few ++ row ∷ []) new
keeps_row {numbers = numbers} {few = few} {row = row} g asked =
    let test = λ (row : Row). is_in numbers row.word in
    more_kept g (few ++ row ∷ []) (ap (λ v. v ++ row ∷ []) g.kept.few_are
    ∙ ap (λ b. filter test g.kept.rows ++ cond b (row ∷ []) []) (sym asked) ∙ sym (filter-append test g.kept.rows (row ∷ [])))

-- or is not
pub leaves_row : {start now : Seen} {limit : ℕ} {words : List (List ℕ)} {numbers others : List ℕ} {passed later : ℕ}
    {few : List Row} {old new : TableStand} {row : Row} → GivesOneMore start now limit words numbers others passed later few old new row
    → is_in numbers row.word ≡ false → KeepsAsked start now limit words others later few new
leaves_row {numbers = numbers} {few = few} {row = row} g asked =
    let test = λ (row : Row). is_in numbers row.word in
    more_kept g few (g.kept.few_are ∙ sym (append-nil (filter test g.kept.rows))
    ∙ ap (λ b. filter test g.kept.rows ++ cond b (row ∷ []) []) (sym asked) ∙ sym (filter-append test g.kept.rows (row ∷ [])))

-- the rows of the asked words are such as a tally may have
pub asked_rows : {k : ℕ} {both : Bool} {rows few : List Row} (numbers : List ℕ) → AreRows k both rows
    → few ≡ filter (λ row. is_in numbers row.word) rows → AreRows k both few
asked_rows {k} {both} {rows} {few} numbers are is = rw is (AreRows-filter k both (is_in numbers) rows are)
