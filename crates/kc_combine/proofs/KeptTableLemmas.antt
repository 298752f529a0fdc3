-- A table that is kept in memory, as one that gives its rows.
use Rattle.std.proofs.Common.{◌≡◌, ℕ, zero, suc, ◌+◌, ◌^◌, ◌<◌, ◌≤◌, List, [], ◌∷◌, ◌++◌, length, get_or, map, All, refl, ap, sym, ◌∙◌, subst, arith}
use Rattle.std.specs.Prelude.{Option, Some, None}
use Rattle.std.proofs.lemmas.List.{append-nil, append_assoc, get_or_append_left, length-append, length-map, map-append}
use Rattle.std.proofs.lemmas.List.Sums.{sum_by-cons}
use Rattle.kc_tally.specs.declared.row.Row.{Row}
use Rattle.kc_tally.specs.Tally.{AreOrderedRows, AreRows, TallySeen, total_of}
use Rattle.kc_tally.proofs.PackingSteps.{word-small}
use Rattle.kc_tally.proofs.Tallies.{RisesFrom, RiseWithin, RiseWithin-rest, ordered-RiseWithin}
use Rattle.kc_report.specs.RowByRow.{EndWith}
use Rattle.kc_combine.specs.KeptTables.{KeptStand, HasGiven, HasGivenAll}
use Rattle.kc_combine.specs.Whences.{low_of}

-- ---- rows in the middle of others

has_here : (P : Row → Type 0) (before : List Row) (row : Row) (rest : List Row) → All P (before ++ row ∷ rest) → P row
has_here P [] row rest all = all 0 row (omega arith)
has_here P (first ∷ before) row rest all = has_here P before row rest (λ i d h. all (suc i) d (omega (arith, h)))

have_front : (P : Row → Type 0) (front rest : List Row) → All P (front ++ rest) → All P front
have_front P [] rest all i d h = absurd (omega (arith, h))
have_front P (first ∷ front) rest all zero d h = all 0 d (omega arith)
have_front P (first ∷ front) rest all (suc i) d h =
    have_front P front rest (λ i d h. all (suc i) d (omega (arith, h))) i d (omega (arith, h))

adjacent_rise : (low bound : ℕ) (before : List Row) (last row : Row) (rest : List Row)
    → RiseWithin low bound (before ++ last ∷ row ∷ rest) → last.word < row.word
unfolding RisesFrom
adjacent_rise low bound [] last row rest rise = rise.rises.1.0
adjacent_rise low bound (first ∷ before) last row rest rise =
    adjacent_rise (suc first.word) bound before last row rest (RiseWithin-rest low bound first _ rise)

front_ordered : (bound : ℕ) (front rest : List Row) → AreOrderedRows bound (front ++ rest) → AreOrderedRows bound front
front_ordered bound front rest ordered = record {
  rising = λ i h.
      let long = length-map front (λ (row : Row). row.word) in
      let same = map-append (λ (row : Row). row.word) front rest in
      let words : List ℕ = map (λ row. row.word) front in
      let others : List ℕ = map (λ row. row.word) rest in
      let rises = subst (λ (ws : List ℕ). i + 1 < length ws → get_or ws i 0 < get_or ws (i + 1) 0) same (ordered.rising i) in
      let one = get_or_append_left words others 0 i (omega (arith, h)) in
      let next = get_or_append_left words others 0 (i + 1) h in
      let whole = length-append words others in
      let step = rises (omega (arith, h, whole)) in
      omega (arith, one, next, step);
  words = have_front (λ row. row.word < bound) front rest ordered.words;
  present = have_front (λ row. 1 ≤ row.count) front rest ordered.present;
}

count_within : (before : List Row) (row : Row) (rest : List Row) → row.count ≤ total_of (before ++ row ∷ rest)
count_within [] row rest = let all = sum_by-cons (λ (row : Row). row.count) row rest in omega (arith, all)
count_within (first ∷ before) row rest =
    let less = count_within before row rest in
    let all = sum_by-cons (λ (row : Row). row.count) first (before ++ row ∷ rest) in omega (arith, less, all)

-- ---- the next row

-- what is seen of a table of which these rows are left, behind this word
abbrev pub stand_of : TallySeen → List Row → Option ℕ → KeptStand
stand_of table rest last = record { table = table; rest = rest; last = last }

-- no row was given
pub none_given : (table : TallySeen) (rest : List Row) → rest ≡ table.rows → AreRows table.k table.both table.rows
    → HasGiven (stand_of table rest None) []
none_given table rest all lawful = record {
  all = all;
  last = refl;
  ordered = record {
    rising = λ i h. absurd (omega (arith, h));
    words = λ i d h. absurd (omega (arith, h));
    present = λ i d h. absurd (omega (arith, h));
  };
  lawful = lawful;
}

-- a row is given
pub one_given : (table : TallySeen) (rows rest : List Row) (row : Row) (last : Option ℕ)
    → HasGiven (stand_of table (row ∷ rest) last) rows → HasGiven (stand_of table rest (Some row.word)) (rows ++ row ∷ [])
one_given table rows rest row last given =
    let all : rows ++ row ∷ [] ++ rest ≡ table.rows = append_assoc rows (row ∷ []) rest ∙ given.all in
    record {
      all = all;
      last = (rows, row, refl, refl);
      ordered = front_ordered (4 ^ table.k) (rows ++ row ∷ []) rest
          (subst (AreOrderedRows (4 ^ table.k)) (sym all) given.lawful.ordered);
      lawful = given.lawful;
    }

-- none is left
pub all_given : (table : TallySeen) (rows : List Row) (last : Option ℕ) → HasGiven (stand_of table [] last) rows
    → HasGivenAll (stand_of table [] last) rows
all_given table rows last given = record { all = sym (append-nil rows) ∙ given.all; ordered = given.ordered }

-- the word and the count of the next row
pub record IsNext (k : ℕ) (last : Option ℕ) (row : Row) : Type 0 where
  pub least : low_of last ≤ row.word
  pub below : row.word < 4 ^ k
  pub present : 1 ≤ row.count
  pub most : row.count ≤ 2 ^ 62

pub is_next : (table : TallySeen) (rows rest : List Row) (row : Row) (last : Option ℕ)
    → HasGiven (stand_of table (row ∷ rest) last) rows → IsNext table.k last row
is_next table rows rest row last given =
    let lawful : AreRows table.k table.both (rows ++ row ∷ rest) =
    subst (AreRows table.k table.both) (sym given.all) given.lawful in
    record {
      least = least last given.last lawful;
      below = has_here (λ row. row.word < 4 ^ table.k) rows row rest lawful.ordered.words;
      present = has_here (λ row. 1 ≤ row.count) rows row rest lawful.ordered.present;
      most = let within = count_within rows row rest in let small = lawful.small in omega (arith, within, small);
    } where
      least : (last : Option ℕ) → EndWith rows last → AreRows table.k table.both (rows ++ row ∷ rest) → low_of last ≤ row.word
      least None ends lawful = omega arith
      least (Some word) ends lawful =
          let whole : rows ++ row ∷ rest ≡ ends.0 ++ ends.1 ∷ row ∷ rest =
          ap (λ rows. rows ++ row ∷ rest) ends.2 ∙ append_assoc ends.0 (ends.1 ∷ []) (row ∷ rest) in
          let rise = ordered-RiseWithin (4 ^ table.k) (rows ++ row ∷ rest) lawful.ordered in
          let above = adjacent_rise 0 (4 ^ table.k) ends.0 ends.1 row rest (subst (RiseWithin 0 (4 ^ table.k)) whole rise) in
          let is = ends.3 in
          omega (arith, above, is)
