-- The rows of a table, of which each prefix is lawful, and one more row.
use Rattle.std.proofs.Common.{◌≡◌, ℕ, suc, ◌+◌, ◌^◌, ◌<◌, ◌≤◌, Bool, List, [], ◌∷◌, ◌++◌, map, length, get_or, refl, sym, ap, subst, arith, ⊎_elim}
use Rattle.std.specs.List.{All}
use Rattle.std.proofs.lemmas.Bool.{cases_lt}
use Rattle.std.specs.List.Sorted.{IsStrictlyIncreasing}
use Rattle.std.proofs.lemmas.List.{length-append, length-map, get_or_append_left, map_push, length_push, get_or_push, get_or-map}
use Rattle.std.proofs.lemmas.List.Sums.{sum_by-append, sum_by-cons}
use Rattle.std.proofs.lemmas.List.Elements.{All-push}
use Rattle.kc_kmer.specs.Word.{text, form}
use Rattle.kc_tally.specs.declared.row.Row.{Row}
use Rattle.kc_tally.specs.Tally.{AreRows, total_of}

map-append : {X : Type 0} (f : X → ℕ) (xs ys : List X) → map f (xs ++ ys) ≡ map f xs ++ map f ys
map-append f [] ys = refl
map-append f (x ∷ xs) ys = ap (λ l. f x ∷ l) (map-append f xs ys)

rising-front : (xs ys : List ℕ) → IsStrictlyIncreasing (xs ++ ys) → IsStrictlyIncreasing xs
rising-front xs ys rising k h =
    let long = length-append xs ys in
    let first = get_or_append_left xs ys 0 k (omega (arith, h)) in
    let second = get_or_append_left xs ys 0 (k + 1) h in
    let step = rising k (omega (arith, h, long)) in
    omega (arith, first, second, step)

All-front : {X : Type 0} (P : X → Type 0) (xs ys : List X) → All P (xs ++ ys) → All P xs
All-front P xs ys all k d h =
    let long = length-append xs ys in
    subst P (get_or_append_left xs ys d k h) (all k d (omega (arith, h, long)))

-- The rows at the front of rows that a tally may have are such too.
pub AreRows-front : (k : ℕ) (both : Bool) (rows more : List Row) → AreRows k both (rows ++ more) → AreRows k both rows
AreRows-front k both rows more r = record {
  ordered = record {
    rising = rising-front (map (λ (row : Row). row.word) rows) (map (λ (row : Row). row.word) more) (subst IsStrictlyIncreasing (map-append (λ (row : Row). row.word) rows more) r.ordered.rising);
    words = All-front (λ (row : Row). row.word < 4 ^ k) rows more r.ordered.words;
    present = All-front (λ (row : Row). 1 ≤ row.count) rows more r.ordered.present;
  };
  forms = All-front (λ (row : Row). form both (text k row.word) ≡ text k row.word) rows more r.forms;
  small = let sum = sum_by-append (λ (row : Row). row.count) rows more in let small = r.small in omega (arith, sum, small);
}

-- what a row that comes last keeps
pub record IsLast (k : ℕ) (both : Bool) (rows : List Row) (row : Row) : Type 0 where
  pub word : row.word < 4 ^ k
  pub count : 1 ≤ row.count
  pub formed : form both (text k row.word) ≡ text k row.word
  pub small : total_of rows + row.count ≤ 2 ^ 62
  pub above : (i : ℕ) (d : Row) → i + 1 ≡ length rows → (get_or rows i d).word < row.word

last : {X : Type 0} (P : X → Type 0) (xs : List X) (x : X) → All P (xs ++ x ∷ []) → P x
last P xs x all = let long = length_push xs x in subst P (get_or_push xs x x (length xs) refl) (all (length xs) x (omega (arith, long)))

pub AreRows-last : (k : ℕ) (both : Bool) (rows : List Row) (row : Row) → AreRows k both (rows ++ row ∷ []) → IsLast k both rows row
AreRows-last k both rows row r = record {
  word = last (λ (row : Row). row.word < 4 ^ k) rows row r.ordered.words;
  count = last (λ (row : Row). 1 ≤ row.count) rows row r.ordered.present;
  formed = last (λ (row : Row). form both (text k row.word) ≡ text k row.word) rows row r.forms;
  small = let sum = sum_by-append (λ (row : Row). row.count) rows (row ∷ []) in let small = r.small in omega (arith, sum, small);
  above = λ i d e.
      let words = map (λ (row : Row). row.word) rows in
      let all = words ++ row.word ∷ [] in
      let rising = subst IsStrictlyIncreasing (map_push (λ (row : Row). row.word) rows row) r.ordered.rising in
      let long = length-map rows (λ (row : Row). row.word) in
      let longer = length_push words row.word in
      let step = rising i (omega (arith, e, long, longer)) in
      let first = get_or_append_left words (row.word ∷ []) 0 i (omega (arith, e, long)) in
      let second = get_or_push words row.word 0 (i + 1) (omega (arith, e, long)) in
      let same = get_or-map (λ (row : Row). row.word) rows i d 0 (omega (arith, e)) in
      omega (arith, step, first, second, same);
}

rising_push : (xs : List ℕ) (y : ℕ) → IsStrictlyIncreasing xs → ((k : ℕ) → k + 1 ≡ length xs → get_or xs k 0 < y) → IsStrictlyIncreasing (xs ++ y ∷ [])
rising_push xs y rising less k h =
    let long = length_push xs y in
    let inside : k < length xs = omega (arith, long, h) in
    let first = get_or_append_left xs (y ∷ []) 0 k inside in
    ⊎_elim
    (λ l. let next = get_or_append_left xs (y ∷ []) 0 (k + 1) l in let step = rising k l in omega (arith, first, next, step))
    (λ l. let at : k + 1 ≡ length xs = omega (arith, inside, l) in let next = get_or_push xs y 0 (k + 1) (sym at) in let step = less k at in omega (arith, first, next, step))
    (cases_lt (k + 1) (length xs))

-- and such a row may follow the rows
pub AreRows-push : (k : ℕ) (both : Bool) (rows : List Row) (row : Row) → AreRows k both rows → IsLast k both rows row → AreRows k both (rows ++ row ∷ [])
AreRows-push k both rows row r l = record {
  ordered = record {
    rising = subst IsStrictlyIncreasing (sym (map_push (λ (row : Row). row.word) rows row))
        (rising_push (map (λ (row : Row). row.word) rows) row.word r.ordered.rising (λ i e.
        let long = length-map rows (λ (row : Row). row.word) in
        let above = l.above i row (omega (arith, e, long)) in
        let same = get_or-map (λ (row : Row). row.word) rows i row 0 (omega (arith, e, long)) in
        omega (arith, above, same)));
    words = All-push (λ (row : Row). row.word < 4 ^ k) rows row r.ordered.words l.word;
    present = All-push (λ (row : Row). 1 ≤ row.count) rows row r.ordered.present l.count;
  };
  forms = All-push (λ (row : Row). form both (text k row.word) ≡ text k row.word) rows row r.forms l.formed;
  small = let sum = sum_by-append (λ (row : Row). row.count) rows (row ∷ []) in let small = l.small in omega (arith, sum, small);
}

-- rows are no more than the sum of their counts
pub length-le_total : (rows : List Row) → All (λ (row : Row). 1 ≤ row.count) rows → length rows ≤ total_of rows
length-le_total [] all = omega arith
length-le_total (row ∷ rows) all =
    let more = length-le_total rows (λ k d h. all (suc k) d (omega (arith, h))) in
    let some = all 0 row (omega arith) in
    omega (arith, more, some, sum_by-cons (λ (row : Row). row.count) row rows)

-- no rows are rows that a tally may have
pub AreRows-none : (k : ℕ) (both : Bool) → AreRows k both []
AreRows-none k both = record {
  ordered = record { rising = λ i h. absurd (omega (arith, h)); words = λ i d h. absurd (omega (arith, h)); present = λ i d h. absurd (omega (arith, h)) };
  forms = λ i d h. absurd (omega (arith, h));
  small = omega arith;
}
