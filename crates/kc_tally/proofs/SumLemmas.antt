-- The sum of two lists of rows, word by word.
use Rattle.std.proofs.Common.{◌≡◌, ◌≢◌, ℕ, suc, ◌+◌, ◌^◌, ◌<◌, ◌≤◌, Bool, true, false, eqb, min, List, [], ◌∷◌, ◌++◌, length, drop, cond, leb, All, refl, ap, sym, ◌∙◌, subst, arith, eq-eqb, ne_eqb, inl, inr, ◌⊎◌, ⊎_elim}
use Rattle.std.specs.Prelude.{Option, Some, None}
use Rattle.std.proofs.lemmas.Bool.{cases_lt, cases_eq, cases_order, cond-true, cond-false, le-leb, lt-leb}
use Rattle.std.proofs.lemmas.List.{length_push}
use Rattle.std.proofs.lemmas.List.Elements.{All-push, All-nil}
use Rattle.std.proofs.lemmas.List.Sums.{sum_by-cons, sum_by_push}
use Rattle.kc_kmer.specs.Word.{text, form}
use Rattle.kc_tally.specs.declared.row.Row.{Row}
use Rattle.kc_tally.specs.Tally.{row_of, count_of, total_of, AreOrderedRows, AreRows}
use Rattle.kc_tally.specs.Sum.{IsSum, first_word, lesser, TakesCount, TakesSum}
use Rattle.kc_tally.proofs.Tallies.{RisesFrom, RiseWithin, RiseWithin-rest, ordered-RiseWithin, count_of-low}
use Rattle.kc_tally.proofs.TalliedRows.{count_of_push, count_of_pushed, count_of-absent, ordered_push}

-- rows of words of k bases from a number on, each in the form under which it counts
pub record AreLater (k low : ℕ) (both : Bool) (rows : List Row) : Type 0 where
  pub rise : RiseWithin low (4 ^ k) rows
  pub forms : All (λ row. form both (text k row.word) ≡ text k row.word) rows

pub all-later : {k : ℕ} {both : Bool} {rows : List Row} → AreRows k both rows → AreLater k 0 both rows
all-later {k} {both} {rows} are = record {
  rise = ordered-RiseWithin (4 ^ k) rows are.ordered;
  forms = are.forms;
}

none-later : (k low : ℕ) (both : Bool) → AreLater k low both []
unfolding RisesFrom
none-later k low both = record { rise = record { rises = tt; below = All-nil _; present = All-nil _ }; forms = All-nil _ }

-- the rows rise from the first word on
from-head : {k low : ℕ} {both : Bool} (w : ℕ) (row : Row) (rows : List Row) → w ≤ row.word → AreLater k low both (row ∷ rows) → AreLater k w both (row ∷ rows)
unfolding RisesFrom
from-head w row rows least are = record {
  rise = record { rises = (least, are.rise.rises.1); below = are.rise.below; present = are.rise.present };
  forms = are.forms;
}

past-head : {k low : ℕ} {both : Bool} (row : Row) (rows : List Row) → AreLater k low both (row ∷ rows) → AreLater k (suc row.word) both rows
past-head {k} {low} row rows are = record {
  rise = RiseWithin-rest low (4 ^ k) row rows are.rise;
  forms = λ i d h. are.forms (suc i) d (omega (arith, h));
}

head-least : {k low : ℕ} {both : Bool} (row : Row) (rows : List Row) → AreLater k low both (row ∷ rows) → low ≤ row.word
unfolding RisesFrom
head-least row rows are = are.rise.rises.0

-- ---- the count of a word is taken

pub record Taken (k w : ℕ) (both : Bool) (before after : List Row) (count : ℕ) : Type 0 where
  pub later : AreLater k (suc w) both after
  pub counts : (n : ℕ) → count_of before n ≡ count_of (row_of w count ∷ []) n + count_of after n
  pub total : total_of before ≡ count + total_of after
  pub long : length after ≤ length before

count-apart : (k : ℕ) (both : Bool) (w count n : ℕ) (rows : List Row) → AreLater k (suc w) both rows → count_of (row_of w count ∷ rows) n ≡ count_of (row_of w count ∷ []) n + count_of rows n
count-apart k both w count n rows are =
    ⊎_elim
    (λ (e : w ≡ n). let here : eqb w n ≡ true = eq-eqb w n e in
    let gone = count-low rows are.rise.rises in
    let whole = cond-true (eqb w n) count (count_of rows n) here in
    let one = cond-true (eqb w n) count 0 here in
    let none : count_of rows n ≡ 0 = ap (count_of rows) (sym e) ∙ gone in
    omega (arith, whole, one, none))
    (λ (ne : w ≡ n → ⊥). let apart : eqb w n ≡ false = ne_eqb w n ne in
    let whole = cond-false (eqb w n) count (count_of rows n) apart in
    let one = cond-false (eqb w n) count 0 apart in
    omega (arith, whole, one))
    (cases_eq w n)
  where
    count-low : (rows : List Row) → RisesFrom (suc w) rows → count_of rows w ≡ 0
    count-low rows rises = count_of-low (suc w) rows w rises (omega arith)

none-here : (w n : ℕ) → count_of (row_of w 0 ∷ []) n ≡ 0
none-here w n = ⊎_elim (λ e. cond-true (eqb w n) 0 0 (eq-eqb w n e)) (λ ne. cond-false (eqb w n) 0 0 (ne_eqb w n ne)) (cases_eq w n)

another : {k w : ℕ} {both : Bool} (rows : List Row) → AreLater k w both rows → (first_word rows ≢ Some w) → AreLater k (suc w) both rows
another {k} {w} {both} [] are ne = none-later k (suc w) both
another {k} {w} {both} (row ∷ rows) are ne =
    let least = head-least row rows are in
    let apart : row.word ≡ w → ⊥ = λ e. ne (ap Some e) in
    from-head (suc w) row rows (⊎_elim (λ (e : row.word ≡ w). absurd (apart e)) (λ (ne : row.word ≡ w → ⊥). omega (arith, least, ne)) (cases_eq row.word w)) are

pub taken : {k w : ℕ} {both : Bool} (before after : List Row) (count : ℕ) → AreLater k w both before → TakesCount before after w count → Taken k w both before after count
taken {k} {w} {both} before after count are (inl e) =
    let whole = subst (AreLater k w both) e are in
    let later = past-head (row_of w count) after whole in
    record {
      later = later;
      counts = λ n. ap (λ rows. count_of rows n) e ∙ count-apart k both w count n after later;
      total = ap total_of e ∙ sum_by-cons (λ (row : Row). row.count) (row_of w count) after;
      long = let long = ap length e in omega (arith, long);
    }
taken {k} {w} {both} before after count are (inr t) = record {
  later = subst (AreLater k (suc w) both) t.0 (another before are t.2);
  counts = λ n. let none = ap (λ c. count_of (row_of w c ∷ []) n) t.1 ∙ none-here w n in
      let same = ap (λ rows. count_of rows n) t.0 in
      omega (arith, none, same);
  total = let same = ap total_of t.0 in let none = t.1 in omega (arith, same, none);
  long = let same = ap length t.0 in omega (arith, same);
}

-- the word has a row, which is first: its count is taken
pub record IsHere (k w : ℕ) (both : Bool) (before after : List Row) (count : ℕ) : Type 0 where
  pub some : 1 ≤ count
  pub below : w < 4 ^ k
  pub formed : form both (text k w) ≡ text k w
  pub shorter : length after < length before

is-here : {k w : ℕ} {both : Bool} (before after : List Row) (count : ℕ) → AreLater k w both before → TakesCount before after w count → first_word before ≡ Some w → IsHere k w both before after count
is-here {k} {w} {both} before after count are (inl e) first =
    let whole = subst (AreLater k w both) e are in
    record {
      some = whole.rise.present 0 (row_of w count) (omega arith);
      below = whole.rise.below 0 (row_of w count) (omega arith);
      formed = whole.forms 0 (row_of w count) (omega arith);
      shorter = let long = ap length e in omega (arith, long);
    }
is-here before after count are (inr t) first = absurd (t.2 first)

-- ---- the lesser word

pub record Reaches (k low w : ℕ) (both : Bool) (later laters : List Row) : Type 0 where
  pub least : low ≤ w
  pub first : AreLater k w both later
  pub second : AreLater k w both laters
  pub here : (first_word later ≡ Some w) ⊎ (first_word laters ≡ Some w)

some-inj : {a b : ℕ} → ◌≡◌ {A = Option ℕ} (Some a) (Some b) → a ≡ b
some-inj e = cc

pub reaches : {k low : ℕ} {both : Bool} (w : ℕ) (later laters : List Row) → AreLater k low both later → AreLater k low both laters
    → lesser (first_word later) (first_word laters) ≡ Some w → Reaches k low w both later laters
reaches w [] [] are also e = absurd (let wrong : ◌≡◌ {A = Option ℕ} None (Some w) = e in cc)
reaches {k} {low} {both} w [] (row ∷ rows) are also e =
    let is : row.word ≡ w = some-inj e in
    let low_ = head-least row rows also in
    record { least = omega (arith, is, low_); first = none-later k w both; second = from-head w row rows (omega (arith, is)) also; here = inr e }
reaches {k} {low} {both} w (row ∷ rows) [] are also e =
    let is : row.word ≡ w = some-inj e in
    let low_ = head-least row rows are in
    record { least = omega (arith, is, low_); first = from-head w row rows (omega (arith, is)) are; second = none-later k w both; here = inl e }
reaches {k} {low} {both} w (row ∷ rows) (other ∷ others) are also e =
    let is : min row.word other.word ≡ w = some-inj e in
    let low_ = head-least row rows are in
    let low__ = head-least other others also in
    record {
      least = omega (arith, is, low_, low__);
      first = from-head w row rows (omega (arith, is)) are;
      second = from-head w other others (omega (arith, is)) also;
      here = ⊎_elim
          (λ (l : row.word < other.word). let same : row.word ≡ w = omega (arith, l, is) in let first : (◌≡◌ {A = Option ℕ} (Some row.word) (Some w)) ⊎ (◌≡◌ {A = Option ℕ} (Some other.word) (Some w)) = inl (ap Some same) in first)
          (λ (l : other.word ≤ row.word). let same : other.word ≡ w = omega (arith, l, is) in let second : (◌≡◌ {A = Option ℕ} (Some row.word) (Some w)) ⊎ (◌≡◌ {A = Option ℕ} (Some other.word) (Some w)) = inr (ap Some same) in second)
          (cases_lt row.word other.word);
    }

pub no-word : (later laters : List Row) → lesser (first_word later) (first_word laters) ≡ None → (later ≡ []) × (laters ≡ [])
no-word [] [] e = (refl, refl)
no-word [] (row ∷ rows) e = absurd (let wrong : ◌≡◌ {A = Option ℕ} (Some row.word) None = e in cc)
no-word (row ∷ rows) [] e = absurd (let wrong : ◌≡◌ {A = Option ℕ} (Some row.word) None = e in cc)
no-word (row ∷ rows) (other ∷ others) e = absurd (let wrong : ◌≡◌ {A = Option ℕ} (Some (min row.word other.word)) None = e in cc)

-- ---- the sum, as far as it goes

pub record IsMerged (k : ℕ) (both : Bool) (rows others sums later laters : List Row) : Type 0 where
  pub low : ℕ
  pub ordered : AreOrderedRows low sums
  pub bounded : All (λ row. row.word < 4 ^ k) sums
  pub forms : All (λ row. form both (text k row.word) ≡ text k row.word) sums
  pub first : AreLater k low both later
  pub second : AreLater k low both laters
  pub counts : (n : ℕ) → count_of sums n + (count_of later n + count_of laters n) ≡ count_of rows n + count_of others n
  pub total : total_of sums + (total_of later + total_of laters) ≡ total_of rows + total_of others
  pub long : length sums + (length later + length laters) ≤ length rows + length others

pub merged-none : {k : ℕ} {both : Bool} {rows others : List Row} → AreRows k both rows → AreRows k both others → IsMerged k both rows others [] rows others
merged-none {k} {both} {rows} {others} are also = record {
  low = 0;
  ordered = record { rising = λ k h. absurd (omega (arith, h)); words = All-nil _; present = All-nil _ };
  bounded = All-nil _;
  forms = All-nil _;
  first = all-later are;
  second = all-later also;
  counts = λ n. omega arith;
  total = omega arith;
  long = omega arith;
}

-- the counts of one word were taken
pub record Step (k w : ℕ) (both : Bool) (later laters after afters : List Row) (count more : ℕ) : Type 0 where
  pub first : Taken k w both later after count
  pub second : Taken k w both laters afters more
  pub some : 1 ≤ count + more
  pub below : w < 4 ^ k
  pub formed : form both (text k w) ≡ text k w
  pub shorter : length after + length afters < length later + length laters

pub step : {k low w : ℕ} {both : Bool} {later laters after afters : List Row} {count more : ℕ} → Reaches k low w both later laters
    → TakesCount later after w count → TakesCount laters afters w more → Step k w both later laters after afters count more
step {k} {low} {w} {both} {later} {laters} {after} {afters} {count} {more} r one other =
    let first = taken later after count r.first one in
    let second = taken laters afters more r.second other in
    let long = first.long in
    let long_ = second.long in
    ⊎_elim
    (λ (is : first_word later ≡ Some w). let h = is-here later after count r.first one is in let some = h.some in let less = h.shorter in
    let made : Step k w both later laters after afters count more = record { first = first; second = second; some = omega (arith, some); below = h.below; formed = h.formed; shorter = omega (arith, less, long_) } in made)
    (λ (is : first_word laters ≡ Some w). let h = is-here laters afters more r.second other is in let some = h.some in let less = h.shorter in
    let made : Step k w both later laters after afters count more = record { first = first; second = second; some = omega (arith, some); below = h.below; formed = h.formed; shorter = omega (arith, less, long) } in made)
    r.here

count-pushed : (rows : List Row) (w count n : ℕ) → All (λ row. row.word < w) rows → count_of (rows ++ row_of w count ∷ []) n ≡ count_of rows n + count_of (row_of w count ∷ []) n
count-pushed rows w count n below =
    ⊎_elim
    (λ (e : w ≡ n). let pushed = ap (count_of (rows ++ row_of w count ∷ [])) (sym e) ∙ count_of_pushed rows (row_of w count) below in
    let absent = ap (count_of rows) (sym e) ∙ count_of-absent rows w below in
    let here = cond-true (eqb w n) count 0 (eq-eqb w n e) in
    omega (arith, pushed, absent, here))
    (λ (ne : w ≡ n → ⊥). let pushed = count_of_push rows (row_of w count) n ne in
    let here = cond-false (eqb w n) count 0 (ne_eqb w n ne) in
    omega (arith, pushed, here))
    (cases_eq w n)

count-together : (w count more n : ℕ) → count_of (row_of w (count + more) ∷ []) n ≡ count_of (row_of w count ∷ []) n + count_of (row_of w more ∷ []) n
count-together w count more n =
    ⊎_elim
    (λ (e : w ≡ n). let is = eq-eqb w n e in
    let all = cond-true (eqb w n) (count + more) 0 is in let one = cond-true (eqb w n) count 0 is in let other = cond-true (eqb w n) more 0 is in omega (arith, all, one, other))
    (λ (ne : w ≡ n → ⊥). let is = ne_eqb w n ne in
    let all = cond-false (eqb w n) (count + more) 0 is in let one = cond-false (eqb w n) count 0 is in let other = cond-false (eqb w n) more 0 is in omega (arith, all, one, other))
    (cases_eq w n)

widened : (low w : ℕ) (rows : List Row) → low ≤ w → AreOrderedRows low rows → AreOrderedRows w rows
widened low w rows le ordered = record {
  rising = ordered.rising;
  words = λ i d h. let less = ordered.words i d h in omega (arith, less, le);
  present = ordered.present;
}

pub merged-more : {k w : ℕ} {both : Bool} {rows others sums later laters after afters : List Row} {count more : ℕ}
    (m : IsMerged k both rows others sums later laters) → Reaches k m.low w both later laters → Step k w both later laters after afters count more
    → IsMerged k both rows others (sums ++ row_of w (count + more) ∷ []) after afters
merged-more {k} {w} {both} {rows} {others} {sums} {later} {laters} {after} {afters} {count} {more} m r s =
    let row : Row = row_of w (count + more) in
    let ordered = widened m.low w sums r.least m.ordered in
    let some = s.some in
    let next : w + 1 ≡ suc w = omega arith in
    record {
      low = suc w;
      ordered = subst (λ n. AreOrderedRows n (sums ++ row ∷ [])) next (ordered_push w (count + more) sums (omega (arith, some)) ordered);
      bounded = All-push (λ (row : Row). row.word < 4 ^ k) sums row m.bounded s.below;
      forms = All-push (λ (row : Row). form both (text k row.word) ≡ text k row.word) sums row m.forms s.formed;
      first = s.first.later;
      second = s.second.later;
      counts = λ n.
          let pushed = count-pushed sums w (count + more) n ordered.words in
          let together = count-together w count more n in
          let one = s.first.counts n in
          let other = s.second.counts n in
          let so_far = m.counts n in
          omega (arith, pushed, together, one, other, so_far);
      total =
          let pushed = sum_by_push (λ (row : Row). row.count) sums row in
          let one = s.first.total in
          let other = s.second.total in
          let so_far = m.total in
          omega (arith, pushed, one, other, so_far);
      long =
          let pushed = length_push sums row in
          let less = s.shorter in
          let so_far = m.long in
          omega (arith, pushed, less, so_far);
    }

-- nothing is left: the sum is whole
pub merged-all : {k : ℕ} {both : Bool} {rows others sums later laters : List Row} → IsMerged k both rows others sums later laters
    → (later ≡ []) × (laters ≡ []) → IsSum k rows others sums × (total_of sums ≡ total_of rows + total_of others)
    × All (λ row. form both (text k row.word) ≡ text k row.word) sums
merged-all {k} {both} {rows} {others} {sums} {later} {laters} m e =
    let total = m.total in
    let none = ap total_of e.0 in
    let none_ = ap total_of e.1 in (
      record {
        ordered = record { rising = m.ordered.rising; words = m.bounded; present = m.ordered.present };
        counts = λ n h. let so_far = m.counts n in let gone = ap (λ rows. count_of rows n) e.0 in let gone_ = ap (λ rows. count_of rows n) e.1 in omega (arith, so_far, gone, gone_);
      },
      omega (arith, total, none, none_),
      m.forms,
    )

pub sum-AreRows : {k : ℕ} {both : Bool} {rows others sums : List Row} → total_of rows + total_of others ≤ 2 ^ 62
    → IsSum k rows others sums × (total_of sums ≡ total_of rows + total_of others) × All (λ row. form both (text k row.word) ≡ text k row.word) sums → AreRows k both sums
sum-AreRows small is = record { ordered = is.0.ordered; forms = is.2; small = let total = is.1 in omega (arith, total, small) }

-- each count that is taken is small
pub step-fits : {k w : ℕ} {both : Bool} {rows others sums later laters after afters : List Row} {count more : ℕ}
    → total_of rows + total_of others ≤ 2 ^ 62 → IsMerged k both rows others sums later laters
    → Step k w both later laters after afters count more → count + more < 2 ^ 64
step-fits small m s =
    let total = m.total in
    let one = s.first.total in
    let other = s.second.total in
    omega (arith, small, total, one, other)

-- ---- a step that takes the sum at once

pub taken-sum : {k : ℕ} {both : Bool} {rows others sums later laters after afters : List Row} {row : Row}
    (m : IsMerged k both rows others sums later laters) → (t : TakesSum later after laters afters row)
    → Reaches k m.low row.word both later laters × Step k row.word both later laters after afters t.count t.more
taken-sum {k} {both} {rows} {others} {sums} {later} {laters} {after} {afters} {row} m t =
    let r = reaches row.word later laters m.first m.second t.word in
    (r, step r t.first t.second)

pub merged-sum : {k : ℕ} {both : Bool} {rows others sums later laters after afters : List Row} {row : Row}
    → IsMerged k both rows others sums later laters → TakesSum later after laters afters row
    → IsMerged k both rows others (sums ++ row ∷ []) after afters
merged-sum {k} {both} {rows} {others} {sums} {later} {laters} {after} {afters} {row} m t =
    let s = taken-sum m t in
    subst (λ count. IsMerged k both rows others (sums ++ row_of row.word count ∷ []) after afters) (sym t.whole)
    (merged-more m s.0 s.1)

-- the row is one that may be packed
pub merged-next : {k : ℕ} {both : Bool} {rows others sums later laters after afters : List Row} {row : Row}
    → IsMerged k both rows others sums later laters → TakesSum later after laters afters row
    → (row.word < 4 ^ k) × (1 ≤ row.count)
merged-next m t =
    let s = taken-sum m t in
    let some = s.1.some in
    let whole = t.whole in
    (s.1.below, omega (arith, some, whole))

-- ---- two rows, of which the one with the lesser word is taken, or both

not-other : {word : ℕ} (row : Row) (rows : List Row) → (row.word ≡ word → ⊥) → first_word (row ∷ rows) ≢ Some word
not-other row rows apart e = apart (some-inj e)

pub sum-first : (first second : Row) (rest rests : List Row) → first.word < second.word
    → TakesSum (first ∷ rest) rest (second ∷ rests) (second ∷ rests) first
sum-first first second rest rests less = record {
  count = first.count;
  more = 0;
  word = let least : min first.word second.word ≡ first.word = omega (arith, less) in ap Some least;
  first = inl refl;
  second = inr (refl, refl, not-other second rests (λ e. omega (arith, e, less)));
  whole = omega arith;
}

pub sum-second : (first second : Row) (rest rests : List Row) → second.word < first.word
    → TakesSum (first ∷ rest) (first ∷ rest) (second ∷ rests) rests second
sum-second first second rest rests less = record {
  count = 0;
  more = second.count;
  word = let least : min first.word second.word ≡ second.word = omega (arith, less) in ap Some least;
  first = inr (refl, refl, not-other first rest (λ e. omega (arith, e, less)));
  second = inl refl;
  whole = omega arith;
}

pub sum-both : (first second : Row) (rest rests : List Row) → first.word ≡ second.word
    → TakesSum (first ∷ rest) rest (second ∷ rests) rests (row_of first.word (first.count + second.count))
sum-both first second rest rests same = record {
  count = first.count;
  more = second.count;
  word = let least : min first.word second.word ≡ first.word = omega (arith, same) in ap Some least;
  first = inl refl;
  second = inl (ap (λ word. row_of word second.count ∷ rests) (sym same));
  whole = refl;
}

-- what the code knows of the row that it makes from two
pub record IsJoined (first second row : Row) : Type 0 where
  pub lesser : first.word < second.word → row ≡ first
  pub greater : second.word < first.word → row ≡ second
  pub same : first.word ≡ second.word → row ≡ row_of first.word (first.count + second.count)

-- the lesser one alone is taken, or both
pub sum-lesser : {first second row : Row} {rest rests : List Row} → IsJoined first second row → first.word < second.word
    → TakesSum (first ∷ rest) rest (second ∷ rests) (second ∷ rests) row
sum-lesser {first} {second} {row} {rest} {rests} is less =
    rw (is.lesser less) (sum-first first second rest rests less)

pub sum-greater : {first second row : Row} {rest rests : List Row} → IsJoined first second row → second.word < first.word
    → TakesSum (first ∷ rest) (first ∷ rest) (second ∷ rests) rests row
sum-greater {first} {second} {row} {rest} {rests} is less =
    rw (is.greater less) (sum-second first second rest rests less)

pub sum-same : {first second row : Row} {rest rests : List Row} → IsJoined first second row → first.word ≡ second.word
    → TakesSum (first ∷ rest) rest (second ∷ rests) rests row
sum-same {first} {second} {row} {rest} {rests} is same =
    rw (is.same same) (sum-both first second rest rests same)

-- rows of parts that were begun
pub record InParts (rows part x : List Row) (first : Row) (rest : List Row) : Type 0 where
  pub whole : rows ≡ part ++ x
  pub front : part ≡ first ∷ rest

begun : {rows part x rest : List Row} {first : Row} → InParts rows part x first rest → rows ≡ first ∷ (rest ++ x)
begun {rows} {part} {x} {rest} {first} at = at.whole ∙ ap (λ p. p ++ x) at.front

pub lesser-in_parts : {rows others part part_ x y rest rests : List Row} {first second row : Row}
    → InParts rows part x first rest → InParts others part_ y second rests → IsJoined first second row
    → first.word < second.word → TakesSum rows (rest ++ x) others others row
lesser-in_parts {rows} {others} at at_ is less = rw (begun at, begun at_) (sum-lesser is less)

pub greater-in_parts : {rows others part part_ x y rest rests : List Row} {first second row : Row}
    → InParts rows part x first rest → InParts others part_ y second rests → IsJoined first second row
    → second.word < first.word → TakesSum rows rows others (rests ++ y) row
greater-in_parts {rows} {others} at at_ is less = rw (begun at, begun at_) (sum-greater is less)

pub same-in_parts : {rows others part part_ x y rest rests : List Row} {first second row : Row}
    → InParts rows part x first rest → InParts others part_ y second rests → IsJoined first second row
    → first.word ≡ second.word → TakesSum rows (rest ++ x) others (rests ++ y) row
same-in_parts {rows} {others} at at_ is same = rw (begun at, begun at_) (sum-same is same)

-- the same, with the computed numbers of rows that each part loses
pub sum-in_parts : {rows others part part_ p q x y rest rests : List Row} {first second row : Row}
    → InParts rows part x first rest → InParts others part_ y second rests → IsJoined first second row
    → p ≡ cond (leb first.word second.word) (drop 1 part) part
    → q ≡ cond (leb second.word first.word) (drop 1 part_) part_
    → TakesSum rows (p ++ x) others (q ++ y) row
sum-in_parts {rows} {others} {part} {part_} {p} {q} {x} {y} {rest} {rests} {first} {second} {row} at at_ is ep eq = ⊎_elim
    (λ (same : first.word ≡ second.word).
    let le : first.word ≤ second.word = omega (arith, same) in
    let ge : second.word ≤ first.word = omega (arith, same) in
    rw (behind at ep le, behind at_ eq ge) (same-in_parts at at_ is same))
    (λ (e : (first.word < second.word) ⊎ (second.word < first.word)). ⊎_elim
    (λ (less : first.word < second.word).
    let le : first.word ≤ second.word = omega (arith, less) in
    rw (behind at ep le, all at_ eq less) (lesser-in_parts at at_ is less))
    (λ (less : second.word < first.word).
    let ge : second.word ≤ first.word = omega (arith, less) in
    rw (all at ep less, behind at_ eq ge) (greater-in_parts at at_ is less)) e)
    (cases_order first.word second.word)
  where
    behind : {all part p x rest : List Row} {first : Row} {a b : ℕ} → InParts all part x first rest
        → p ≡ cond (leb a b) (drop 1 part) part → a ≤ b → p ++ x ≡ rest ++ x
    behind {all} {part} {p} {x} {rest} {first} {a} {b} at e h =
        ap (λ rows. rows ++ x) (e ∙ cond-true (leb a b) (drop 1 part) part (le-leb a b h) ∙ ap (drop 1) at.front)

    all : {rows part p x rest : List Row} {first : Row} {a b : ℕ} → InParts rows part x first rest
        → p ≡ cond (leb a b) (drop 1 part) part → b < a → p ++ x ≡ rows
    all {rows} {part} {p} {x} {rest} {first} {a} {b} at e h =
        ap (λ rows. rows ++ x) (e ∙ cond-false (leb a b) (drop 1 part) part (lt-leb a b h)) ∙ sym at.whole
