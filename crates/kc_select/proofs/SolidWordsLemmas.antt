-- The words of a table whose counts have a property, as a list.
use Rattle.std.proofs.Common.{◌≡◌, ℕ, suc, ◌+◌, ◌^◌, ◌<◌, Bool, true, false, ◌||◌, cond, eqb, List, [], ◌∷◌, map, All}
use Rattle.std.proofs.Common.{Some, None, refl, sym, ap, ◌∙◌, subst, arith, get_or, zero, filter_map, eq-eqb, ne_eqb}
use Rattle.std.specs.Prelude.{MatchOption, not}
use Rattle.std.specs.List.{cons_option, list_any}
use Rattle.std.specs.List.Sorted.{IsStrictlyIncreasing}
use Rattle.std.proofs.lemmas.Bool.{eqb-true, false≢true}
use Rattle.std.proofs.lemmas.List.Elements.{All-nil, All-cons, All-head, All-drop}
use Rattle.std.proofs.lemmas.List.Folds.{list_any_none}
use Rattle.kc_lemmas.proofs.Lists.{All-filter_map}
use Rattle.kc_tally.specs.declared.row.Row.{Row}
use Rattle.kc_kmer.specs.Rule.{is_listed}
use Rattle.kc_tally.specs.Tally.{count_of, AreRows}
use Rattle.kc_kmer.proofs.WordCounts.{All-words_in}
use Rattle.kc_fastx.specs.Reads.{read_of}
use Rattle.kc_word.specs.Only.{AreListed}
use Rattle.kc_word.specs.Walking.{Walking, words_left}
use Rattle.kc_select.specs.Solid.{SelectionRule, is_solid_count}
use Rattle.kc_select.specs.SolidWords.{AreExceptions, is_exception}

-- the words of the rows whose counts have the property p
abbrev pub words_where : (ℕ → Bool) → List Row → List ℕ
words_where p rows = filter_map (λ row. cond (p row.count) (Some row.word) None) rows

pub tail : (x : ℕ) (xs : List ℕ) → IsStrictlyIncreasing (x ∷ xs) → IsStrictlyIncreasing xs
tail x xs rising k h =
    let e : suc k + 1 ≡ suc (k + 1) = omega arith in
    subst (λ i. get_or xs k 0 < get_or (x ∷ xs) i 0) e (rising (suc k) (omega (arith, h)))

-- the first of ascending words is the least
pub first_least : (row : Row) (rows : List Row) → IsStrictlyIncreasing (map (λ (r : Row). r.word) (row ∷ rows))
    → All (λ r. row.word < r.word) rows
first_least row [] rising = All-nil _
first_least row (next ∷ rows) rising =
    let step : row.word < next.word = rising 0 (omega arith) in
    let later = first_least next rows (tail row.word (map (λ (r : Row). r.word) (next ∷ rows)) rising) in
    All-cons (λ r. row.word < r.word) next rows step (λ k d h. let more = later k d h in omega (arith, step, more))

rising-cons : (x : ℕ) (xs : List ℕ) → All (λ y. x < y) xs → IsStrictlyIncreasing xs → IsStrictlyIncreasing (x ∷ xs)
rising-cons x xs less rising zero h = less 0 0 (omega (arith, h))
rising-cons x xs less rising (suc k) h =
    let e : suc (k + 1) ≡ suc k + 1 = omega arith in
    subst (λ i. get_or xs k 0 < get_or (x ∷ xs) i 0) e (rising k (omega (arith, h)))

-- what holds for each word holds for each of these
where_each : (P : ℕ → Type 0) (p : ℕ → Bool) (rows : List Row) → All (λ row. P row.word) rows
    → All P (words_where p rows)
where_each P p rows each =
    All-filter_map P (λ row. cond (p row.count) (Some row.word) None) rows
    (λ k d h. by (p (get_or rows k d).count) (get_or rows k d).word (each k d h))
  where
    by : (b : Bool) (w : ℕ) → P w → MatchOption (cond b (Some w) None) (Unit {0}) P
    by true w p = p
    by false w p = tt

where_rise : (p : ℕ → Bool) (rows : List Row) → IsStrictlyIncreasing (map (λ (r : Row). r.word) rows)
    → IsStrictlyIncreasing (words_where p rows)
where_rise p [] rising = λ k h. absurd (omega (arith, h))
where_rise p (row ∷ rows) rising =
    by (p row.count) (where_rise p rows (tail row.word (map (λ (r : Row). r.word) rows) rising))
  where
    by : (b : Bool) → IsStrictlyIncreasing (words_where p rows)
        → IsStrictlyIncreasing (cons_option (cond b (Some row.word) None) (words_where p rows))
    by true rest = rising-cons row.word (words_where p rows)
        (where_each (λ w. row.word < w) p rows (first_least row rows rising)) rest
    by false rest = rest

pub where_listed : (k : ℕ) (both : Bool) (p : ℕ → Bool) (rows : List Row) → AreRows k both rows
    → AreListed k (words_where p rows)
where_listed k both p rows rows_are = record {
  rising = where_rise p rows rows_are.ordered.rising;
  below = where_each (λ w. w < 4 ^ k) p rows rows_are.ordered.words;
}

here : (w n : ℕ) (rest : List ℕ) → w ≡ n → list_any (eqb n) (w ∷ rest) ≡ true
here w n rest e = ap (λ b. b || list_any (eqb n) rest) (eq-eqb n w (sym e))

not_here : (w n : ℕ) (rest : List ℕ) → (w ≡ n → ⊥) → list_any (eqb n) (w ∷ rest) ≡ list_any (eqb n) rest
not_here w n rest ne = ap (λ b. b || list_any (eqb n) rest) (ne_eqb n w (λ e. ne (sym e)))

not_later : (n : ℕ) (rest : List ℕ) → All (λ w. n < w) rest → list_any (eqb n) rest ≡ false
not_later n rest later =
    list_any_none (eqb n) rest (λ k d h. ne_eqb n (get_or rest k d) (λ e. let more = later k d h in omega (arith, more, e)))

-- a word is in the list if its count has the property, if 0 has it not
where_holds : (p : ℕ → Bool) (rows : List Row) → p 0 ≡ false → IsStrictlyIncreasing (map (λ (r : Row). r.word) rows)
    → (n : ℕ) → list_any (eqb n) (words_where p rows) ≡ p (count_of rows n)
where_holds p [] none rising n = sym none
where_holds p (row ∷ rows) none rising n =
    by (where_holds p rows none (tail row.word (map (λ (r : Row). r.word) rows) rising) n)
    (eqb row.word n) refl (p row.count) refl
  where
    kept : Bool → List ℕ
    kept b = cons_option (cond b (Some row.word) None) (words_where p rows)

    told : Bool → Bool
    told b = p (cond b row.count (count_of rows n))

    by : list_any (eqb n) (words_where p rows) ≡ p (count_of rows n)
        → (same : Bool) → eqb row.word n ≡ same → (solid : Bool) → p row.count ≡ solid
        → list_any (eqb n) (kept (p row.count)) ≡ told (eqb row.word n)
    by rest true e true f =
        ap (λ b. list_any (eqb n) (kept b)) f ∙ here row.word n (words_where p rows) (eqb-true row.word n e) ∙ sym f
        ∙ sym (ap told e)
    by rest true e false f =
        let same : row.word ≡ n = eqb-true row.word n e in
        let later = where_each (λ w. row.word < w) p rows (first_least row rows rising) in
        ap (λ b. list_any (eqb n) (kept b)) f
        ∙ not_later n (words_where p rows) (subst (λ m. All (λ w. m < w) (words_where p rows)) same later)
        ∙ sym f ∙ sym (ap told e)
    by rest false e true f =
        ap (λ b. list_any (eqb n) (kept b)) f
        ∙ not_here row.word n (words_where p rows) (λ same. false≢true (sym e ∙ eq-eqb row.word n same)) ∙ rest
        ∙ sym (ap told e)
    by rest false e false f = ap (λ b. list_any (eqb n) (kept b)) f ∙ rest ∙ sym (ap told e)

-- 0 is no exception
no_exception : (rule : SelectionRule) → is_exception rule 0 ≡ false
no_exception rule = by (is_solid_count rule 0)
  where
    by : (b : Bool) → cond b (not b) b ≡ false
    by true = refl
    by false = refl

pub exceptions_are : (k : ℕ) (both : Bool) (rule : SelectionRule) (rows : List Row) → AreRows k both rows
    → AreExceptions (record { k = k; both = both; rows = rows }) rule (words_where (is_exception rule) rows)
unfolding is_listed
exceptions_are k both rule rows rows_are word =
    where_holds (is_exception rule) rows (no_exception rule) rows_are.ordered.rising word

-- the next word of a place in a read
pub next_below : (walking : Walking) (word : ℕ) (rest : List ℕ) → words_left walking ≡ word ∷ rest
    → word < 4 ^ walking.rule.k
unfolding words_left
next_below walking word rest is =
    All-head (λ n. n < 4 ^ walking.rule.k) word rest
    (subst (λ words. All (λ n. n < 4 ^ walking.rule.k) words) is
    (All-drop (λ n. n < 4 ^ walking.rule.k) _ _ (All-words_in walking.rule (read_of walking.bytes None))))
