-- The bins of counts: how they are read, and what moves them.
use Rattle.std.proofs.Common.{◌≡◌, ℕ, zero, suc, ◌+◌, ◌-◌, ◌^◌, ◌<◌, ◌≤◌, ⊎_elim, cond, eqb, List, [], ◌∷◌, ◌++◌, length, get_or, set, take, All, sum_by, refl, ap, sym, ◌∙◌, subst, arith, eq-eqb, ne_eqb, length-set, replicate}
use Rattle.std.proofs.lemmas.Bool.{cases_eq, cases_lt, cond-true, cond-false}
use Rattle.std.proofs.lemmas.List.{ext_get_or, get_or-set_same, get_or-set_other, get_or_default, get_or_past, map_push, take_more, length-map, length-take-le, get_or-replicate, length-replicate}
use Rattle.std.proofs.lemmas.List.Elements.{All-from_get_or}
use Rattle.std.proofs.lemmas.List.FromFn.{length-map-range_with_len, get_or-map-range_with_len}
use Rattle.std.proofs.lemmas.List.Sums.{sum_by-cons, sum_by-append, count_by-le-length}
use Rattle.kc_lemmas.proofs.Sums.{sum_by-map}
use Rattle.kc_lemmas.proofs.Permutations.{WeighTheSame}
use Rattle.kc_tally.specs.declared.row.Row.{Row}
use Rattle.kc_tally.specs.Tally.{total_of}
use Rattle.kc_tally.specs.Histogram.{last_bin, bin_of, bin_size, bins_of, bin_at, gained, lost, raised, counted_in, joined_bins, counts_of, bin_count}

-- 1 if the bin is this one
abbrev pub one_at : ℕ → ℕ → ℕ
one_at bin other = cond (eqb bin other) 1 0

one_at-here : (bin other : ℕ) → bin ≡ other → one_at bin other ≡ 1
one_at-here bin other e = ap (λ b. cond b 1 0) (eq-eqb bin other e)

one_at-past : (bin other : ℕ) → (bin ≡ other → ⊥) → one_at bin other ≡ 0
one_at-past bin other ne = ap (λ b. cond b 1 0) (ne_eqb bin other ne)

-- ---- reading the bins

pub length-bins_of : (counts : List ℕ) → length (bins_of counts) ≡ last_bin
unfolding bins_of
length-bins_of counts = length-map-range_with_len (λ bin. bin_size counts bin) 1 last_bin

pub get_or-bins_of : (counts : List ℕ) (i : ℕ) → i < last_bin → get_or (bins_of counts) i 0 ≡ bin_size counts (i + 1)
unfolding bins_of
get_or-bins_of counts i h = get_or-map-range_with_len (λ bin. bin_size counts bin) 1 last_bin i (i + 1) 0 h (omega arith)

-- the bin with this number
pub bin_at-bins_of : (counts : List ℕ) (bin : ℕ) → 1 ≤ bin → bin ≤ last_bin → bin_at (bins_of counts) bin ≡ bin_size counts bin
bin_at-bins_of counts bin some within =
    get_or-bins_of counts (bin - 1) (omega (arith, some, within)) ∙ ap (bin_size counts) (omega (arith, some))

-- as many bins, each of its size, are the bins of the counts
pub bins_of-from : (counts bins : List ℕ) → length bins ≡ last_bin → ((i : ℕ) → i < last_bin → get_or bins i 0 ≡ bin_size counts (i + 1)) → bins ≡ bins_of counts
bins_of-from counts bins long each =
    ext_get_or 0 bins (bins_of counts) (long ∙ sym (length-bins_of counts)) (λ i h. let l : i < last_bin = omega (arith, h, long) in each i l ∙ sym (get_or-bins_of counts i l))

bin_size-nil : (bin : ℕ) → bin_size [] bin ≡ 0
unfolding bin_size
bin_size-nil bin = refl

bin_size-cons : (count : ℕ) (counts : List ℕ) (bin : ℕ) → bin_size (count ∷ counts) bin ≡ one_at (bin_of count) bin + bin_size counts bin
unfolding bin_size
bin_size-cons count counts bin = sum_by-cons (λ c. one_at (bin_of c) bin) count counts

bin_size-append : (counts others : List ℕ) (bin : ℕ) → bin_size (counts ++ others) bin ≡ bin_size counts bin + bin_size others bin
unfolding bin_size
bin_size-append counts others bin = sum_by-append (λ c. one_at (bin_of c) bin) counts others

-- no bin has more words than there are
pub bin_size-most : (counts : List ℕ) (bin : ℕ) → bin_size counts bin ≤ length counts
unfolding bin_size
bin_size-most counts bin = count_by-le-length (λ c. eqb (bin_of c) bin) counts

-- no bin of the counts has more words than there are counts
pub bin_at-most : (counts : List ℕ) (bin : ℕ) → bin ≤ last_bin → bin_at (bins_of counts) bin ≤ length counts
bin_at-most counts bin within =
    let is = get_or-bins_of counts (bin - 1) (omega (arith, within)) in
    let most = bin_size-most counts (bin - 1 + 1) in
    omega (arith, is, most)

-- ---- one word more or less

gained-at : (bins : List ℕ) (bin i : ℕ) → 1 ≤ bin → bin ≤ length bins → get_or (gained bins bin) i 0 ≡ get_or bins i 0 + one_at bin (i + 1)
gained-at bins bin i some within =
    ⊎_elim
    (λ e. let same : bin - 1 ≡ i = omega (arith, e) in
    ap (λ j. get_or (set bins j (get_or bins j 0 + 1)) i 0) same ∙ get_or-set_same bins i (get_or bins i 0 + 1) 0 (omega (arith, within, some, same))
    ∙ ap (λ n. get_or bins i 0 + n) (sym (one_at-here bin (i + 1) e)))
    (λ ne. let kept = get_or-set_other bins (bin - 1) i (bin_at bins bin + 1) 0 (λ same. ne (omega (arith, same, some))) in
    let none = one_at-past bin (i + 1) ne in omega (arith, kept, none))
    (cases_eq bin (i + 1))

lost-at : (bins : List ℕ) (bin i : ℕ) → 1 ≤ bin → bin ≤ length bins → 1 ≤ bin_at bins bin → get_or (lost bins bin) i 0 + one_at bin (i + 1) ≡ get_or bins i 0
lost-at bins bin i some within there =
    ⊎_elim
    (λ e. let same : bin - 1 ≡ i = omega (arith, e) in
    let less : get_or (lost bins bin) i 0 ≡ get_or bins i 0 - 1 = ap (λ j. get_or (set bins j (get_or bins j 0 - 1)) i 0) same ∙ get_or-set_same bins i (get_or bins i 0 - 1) 0 (omega (arith, within, some, same)) in
    let one = one_at-here bin (i + 1) e in
    let positive : 1 ≤ get_or bins i 0 = subst (λ j. 1 ≤ get_or bins j 0) same there in
    omega (arith, less, one, positive))
    (λ ne. let kept = get_or-set_other bins (bin - 1) i (bin_at bins bin - 1) 0 (λ same. ne (omega (arith, same, some))) in
    let none = one_at-past bin (i + 1) ne in omega (arith, kept, none))
    (cases_eq bin (i + 1))

length-gained : (bins : List ℕ) (bin : ℕ) → length (gained bins bin) ≡ length bins
length-gained bins bin = length-set bins (bin - 1) (bin_at bins bin + 1)

length-lost : (bins : List ℕ) (bin : ℕ) → length (lost bins bin) ≡ length bins
length-lost bins bin = length-set bins (bin - 1) (bin_at bins bin - 1)

-- a word that leaves a bin and comes back
lost-gained : (bins : List ℕ) (bin : ℕ) → 1 ≤ bin_at bins bin → gained (lost bins bin) bin ≡ bins
lost-gained bins bin there =
    let within : bin - 1 < length bins = ⊎_elim (λ h. h) (λ h. let none = get_or_past bins (bin - 1) 0 h in absurd (omega (arith, none, there))) (cases_lt (bin - 1) (length bins)) in
    ext_get_or 0 (gained (lost bins bin) bin) bins (length-gained (lost bins bin) bin ∙ length-lost bins bin) (λ i h.
    ⊎_elim
    (λ e.
    let long = length-lost bins bin in
    let first = get_or-set_same bins (bin - 1) (bin_at bins bin - 1) 0 within in
    let second = get_or-set_same (lost bins bin) (bin - 1) (bin_at (lost bins bin) bin + 1) 0 (omega (arith, within, long)) in
    subst (λ j. get_or (gained (lost bins bin) bin) j 0 ≡ get_or bins j 0) (sym e) (let sum : get_or (gained (lost bins bin) bin) (bin - 1) 0 ≡ get_or bins (bin - 1) 0 = omega (arith, first, second, there) in sum))
    (λ ne. get_or-set_other (lost bins bin) (bin - 1) i (bin_at (lost bins bin) bin + 1) 0 ne ∙ get_or-set_other bins (bin - 1) i (bin_at bins bin - 1) 0 ne)
    (cases_eq i (bin - 1)))

bin_of-some : (count : ℕ) → 1 ≤ count → 1 ≤ bin_of count
bin_of-some count h = omega (arith, h)

bin_of-most : (count : ℕ) → bin_of count ≤ last_bin
bin_of-most count = omega arith

-- ---- one more count

pub counted_in-none : (bins : List ℕ) (count : ℕ) → count ≡ 0 → counted_in bins count ≡ bins
unfolding counted_in
counted_in-none bins count none = cond-true (eqb count 0) bins (gained bins (bin_of count)) (eq-eqb count 0 none)

pub counted_in-some : (bins : List ℕ) (count : ℕ) → 1 ≤ count → counted_in bins count ≡ gained bins (bin_of count)
unfolding counted_in
counted_in-some bins count some = cond-false (eqb count 0) bins (gained bins (bin_of count)) (ne_eqb count 0 (λ e. omega (arith, e, some)))

length-counted_in : (bins : List ℕ) (count : ℕ) → length (counted_in bins count) ≡ length bins
length-counted_in bins count =
    ⊎_elim
    (λ none. ap length (counted_in-none bins count (omega (arith, none))))
    (λ some. ap length (counted_in-some bins count some) ∙ length-gained bins (bin_of count))
    (cases_lt count 1)

counted_in-at : (bins : List ℕ) (count i : ℕ) → length bins ≡ last_bin → get_or (counted_in bins count) i 0 ≡ get_or bins i 0 + one_at (bin_of count) (i + 1)
counted_in-at bins count i long =
    ⊎_elim
    (λ none.
    let kept = ap (λ b. get_or b i 0) (counted_in-none bins count (omega (arith, none))) in
    let past = one_at-past (bin_of count) (i + 1) (λ e. omega (arith, e, none)) in
    omega (arith, kept, past))
    (λ some.
    let most = bin_of-most count in
    ap (λ b. get_or b i 0) (counted_in-some bins count some) ∙ gained-at bins (bin_of count) i (bin_of-some count some) (omega (arith, most, long)))
    (cases_lt count 1)

-- the bins of no counts are all empty, and a further count is counted in
pub bins_of-nil : (bins : List ℕ) (n : ℕ) → n ≡ last_bin → bins ≡ replicate n 0 → bins ≡ bins_of []
bins_of-nil bins n all empty =
    bins_of-from [] bins (ap length empty ∙ length-replicate n 0 ∙ all)
    (λ i h. ap (λ b. get_or b i 0) empty ∙ get_or-replicate n i 0 0 (omega (arith, h, all)) ∙ sym (bin_size-nil (i + 1)))

pub bins_of-push : (counts : List ℕ) (count : ℕ) → counted_in (bins_of counts) count ≡ bins_of (counts ++ count ∷ [])
bins_of-push counts count =
    bins_of-from (counts ++ count ∷ []) (counted_in (bins_of counts) count) (length-counted_in (bins_of counts) count ∙ length-bins_of counts)
    (λ i h.
    let step = counted_in-at (bins_of counts) count i (length-bins_of counts) in
    let before = get_or-bins_of counts i h in
    let both = bin_size-append counts (count ∷ []) (i + 1) in
    let last = bin_size-cons count [] (i + 1) in
    let none = bin_size-nil (i + 1) in
    omega (arith, step, before, both, last, none))

-- ---- one count raised

raised-first : (bins : List ℕ) (count : ℕ) → count ≡ 0 → raised bins count ≡ gained bins (bin_of (count + 1))
unfolding raised
raised-first bins count none = ap (λ b. gained b (bin_of (count + 1))) (cond-true (eqb count 0) bins (lost bins (bin_of count)) (eq-eqb count 0 none))

raised-later : (bins : List ℕ) (count : ℕ) → 1 ≤ count → raised bins count ≡ gained (lost bins (bin_of count)) (bin_of (count + 1))
unfolding raised
raised-later bins count some = ap (λ b. gained b (bin_of (count + 1))) (cond-false (eqb count 0) bins (lost bins (bin_of count)) (ne_eqb count 0 (λ e. omega (arith, e, some))))

-- the steps of `raise`, below the last bin
pub raised-new : (bins : List ℕ) (count : ℕ) → count ≤ 0 → gained bins (count + 1) ≡ raised bins count
raised-new bins count none =
    let bin : count + 1 ≡ bin_of (count + 1) = omega (arith, none) in
    ap (gained bins) bin ∙ sym (raised-first bins count (omega (arith, none)))

pub raised-here : (bins : List ℕ) (count : ℕ) → 1 ≤ count → count < last_bin → gained (lost bins count) (count + 1) ≡ raised bins count
raised-here bins count some within =
    let bin : count ≡ bin_of count = omega (arith, within) in
    let next : count + 1 ≡ bin_of (count + 1) = omega (arith, within) in
    ap (λ b. gained (lost bins b) (count + 1)) bin ∙ ap (gained (lost bins (bin_of count))) next ∙ sym (raised-later bins count some)

length-raised : (bins : List ℕ) (count : ℕ) → length (raised bins count) ≡ length bins
length-raised bins count =
    ⊎_elim
    (λ none. ap length (raised-first bins count (omega (arith, none))) ∙ length-gained bins (bin_of (count + 1)))
    (λ some. ap length (raised-later bins count some) ∙ length-gained (lost bins (bin_of count)) (bin_of (count + 1)) ∙ length-lost bins (bin_of count))
    (cases_lt count 1)

-- a count in the last bin stays there
pub raised-beyond : (bins : List ℕ) (count : ℕ) → last_bin ≤ count → (1 ≤ count → 1 ≤ bin_at bins (bin_of count)) → raised bins count ≡ bins
raised-beyond bins count beyond there =
    let here : bin_of count ≡ last_bin = omega (arith, beyond) in
    let next : bin_of (count + 1) ≡ last_bin = omega (arith, beyond) in
    let some : 1 ≤ bin_at bins last_bin = subst (λ bin. 1 ≤ bin_at bins bin) here (there (omega (arith, beyond))) in
    raised-later bins count (omega (arith, beyond)) ∙ ap (λ bin. gained (lost bins bin) (bin_of (count + 1))) here ∙ ap (gained (lost bins last_bin)) next ∙ lost-gained bins last_bin some

-- what a raised count does to each bin
raised-at : (bins : List ℕ) (count i : ℕ) → length bins ≡ last_bin → (1 ≤ count → 1 ≤ bin_at bins (bin_of count))
    → get_or (raised bins count) i 0 + one_at (bin_of count) (i + 1) ≡ get_or bins i 0 + one_at (bin_of (count + 1)) (i + 1)
raised-at bins count i long there =
    let more = bin_of-most (count + 1) in
    let some' = bin_of-some (count + 1) (omega arith) in
    ⊎_elim
    (λ none.
    let is = ap (λ b. get_or b i 0) (raised-first bins count (omega (arith, none))) in
    let past = one_at-past (bin_of count) (i + 1) (λ e. omega (arith, e, none)) in
    let one = gained-at bins (bin_of (count + 1)) i some' (omega (arith, more, long)) in
    omega (arith, is, past, one))
    (λ some.
    let most = bin_of-most count in
    let is = ap (λ b. get_or b i 0) (raised-later bins count some) in
    let less = lost-at bins (bin_of count) i (bin_of-some count some) (omega (arith, most, long)) (there some) in
    let long' = length-lost bins (bin_of count) in
    let one = gained-at (lost bins (bin_of count)) (bin_of (count + 1)) i some' (omega (arith, more, long, long')) in
    omega (arith, is, less, one))
    (cases_lt count 1)

-- a count that is there is in its bin
bin_size-here : (counts : List ℕ) (count : ℕ) → 1 ≤ sum_by (λ c. one_at c count) counts → 1 ≤ bin_size counts (bin_of count)
unfolding bin_size
bin_size-here [] count there = there
bin_size-here (c ∷ counts) count there =
    let size = bin_size-cons c counts (bin_of count) in
    let split = sum_by-cons (λ d. one_at d count) c counts in
    ⊎_elim
    (λ e. let one = one_at-here (bin_of c) (bin_of count) (ap bin_of e) in omega (arith, size, one))
    (λ ne. let none = one_at-past c count ne in let rest = bin_size-here counts count (omega (arith, none, split, there)) in omega (arith, size, rest))
    (cases_eq c count)

-- ---- adding bin by bin

-- the bins before i are joined, the others as they were
pub record IsJoinedTo (i : ℕ) (old others new : List ℕ) : Type 0 where
  pub long : length new ≡ length old
  pub front : (k : ℕ) → k < i → get_or new k 0 ≡ get_or old k 0 + get_or others k 0
  pub rest : (k : ℕ) → i ≤ k → get_or new k 0 ≡ get_or old k 0

length-joined_bins : (old others : List ℕ) → length old ≡ length others → length (joined_bins old others) ≡ length old
unfolding joined_bins
length-joined_bins [] [] same = refl
length-joined_bins [] (more ∷ others) same = refl
length-joined_bins (size ∷ old) [] same = absurd (omega (arith, same))
length-joined_bins (size ∷ old) (more ∷ others) same = ap suc (length-joined_bins old others (omega (arith, same)))

get_or-joined_bins : (old others : List ℕ) (i : ℕ) → length old ≡ length others → get_or (joined_bins old others) i 0 ≡ get_or old i 0 + get_or others i 0
unfolding joined_bins
get_or-joined_bins [] [] i same = refl
get_or-joined_bins [] (more ∷ others) i same = absurd (omega (arith, same))
get_or-joined_bins (size ∷ old) [] i same = absurd (omega (arith, same))
get_or-joined_bins (size ∷ old) (more ∷ others) zero same = refl
get_or-joined_bins (size ∷ old) (more ∷ others) (suc i) same = get_or-joined_bins old others i (omega (arith, same))

pub IsJoinedTo-all : (i : ℕ) (old others new : List ℕ) → length old ≡ length others → length old ≤ i → IsJoinedTo i old others new → new ≡ joined_bins old others
IsJoinedTo-all i old others new same all joined =
    ext_get_or 0 new (joined_bins old others) (joined.long ∙ sym (length-joined_bins old others same))
    (λ k h. joined.front k (let long = joined.long in omega (arith, h, long, all)) ∙ sym (get_or-joined_bins old others k same))

-- a step of the joining of bins: the old ones, the others, the new ones as far as they are made, and the sizes that are
-- read at an index of the new ones and of the others
pub record JoinStep (old others new : List ℕ) : Type 0 where
  pub index : ℕ
  pub size : ℕ
  pub other_size : ℕ
  pub within : index < last_bin
  pub long : length old ≡ last_bin
  pub others_long : length others ≡ last_bin
  pub size_is : size ≡ get_or new index size
  pub other_size_is : other_size ≡ get_or others index other_size

pub joined-fits : (old others new : List ℕ) (s : JoinStep old others new) → All (λ size. size < 2 ^ 64) (joined_bins old others) → IsJoinedTo s.index old others new
    → s.size + s.other_size < 2 ^ 64
joined-fits old others new s fits joined =
    let long : length old ≡ last_bin = s.long in
    let also : length others ≡ last_bin = s.others_long in
    let h : s.index < last_bin = s.within in
    let same : length old ≡ length others = omega (arith, long, also) in
    let wide = length-joined_bins old others same in
    let small = fits s.index 0 (omega (arith, wide, long, h)) in
    let sum = get_or-joined_bins old others s.index same in
    let here = joined.rest s.index (omega arith) in
    let as_long = joined.long in
    let first = get_or_default new s.index s.size 0 (omega (arith, long, as_long, h)) in
    let second = get_or_default others s.index s.other_size 0 (omega (arith, also, h)) in
    omega (arith, small, sum, here, s.size_is, s.other_size_is, first, second)

-- ---- the histogram of rows

-- bins as many words fuller as there are counts, and one more count
joined-push : (old counts : List ℕ) (count : ℕ) → length old ≡ last_bin
    → counted_in (joined_bins old (bins_of counts)) count ≡ joined_bins old (bins_of (counts ++ count ∷ []))
joined-push old counts count long =
    let same : length old ≡ length (bins_of counts) = long ∙ sym (length-bins_of counts) in
    let more : length old ≡ length (bins_of (counts ++ count ∷ [])) = long ∙ sym (length-bins_of (counts ++ count ∷ [])) in
    let wide = length-joined_bins old (bins_of counts) same ∙ long in
    ext_get_or 0 (counted_in (joined_bins old (bins_of counts)) count) (joined_bins old (bins_of (counts ++ count ∷ [])))
    (length-counted_in (joined_bins old (bins_of counts)) count ∙ wide ∙ sym (length-joined_bins old (bins_of (counts ++ count ∷ [])) more ∙ long))
    (λ i h.
    let kept = length-counted_in (joined_bins old (bins_of counts)) count in
    let within : i < last_bin = omega (arith, h, kept, wide) in
    let step = counted_in-at (joined_bins old (bins_of counts)) count i wide in
    let before = get_or-joined_bins old (bins_of counts) i same in
    let after = get_or-joined_bins old (bins_of (counts ++ count ∷ [])) i more in
    let first = get_or-bins_of counts i within in
    let second = get_or-bins_of (counts ++ count ∷ []) i within in
    let both = bin_size-append counts (count ∷ []) (i + 1) in
    let last = bin_size-cons count [] (i + 1) in
    let none = bin_size-nil (i + 1) in
    omega (arith, step, before, after, first, second, both, last, none))

pub joined-row : (old : List ℕ) (rows : List Row) (i : ℕ) (d : Row) → length old ≡ last_bin → i < length rows
    → counted_in (joined_bins old (bins_of (counts_of (take i rows)))) (get_or rows i d).count ≡ joined_bins old (bins_of (counts_of (take (i + 1) rows)))
joined-row old rows i d long h =
    joined-push old (counts_of (take i rows)) (get_or rows i d).count long
    ∙ ap (λ counts. joined_bins old (bins_of counts))
    (sym (map_push (λ (row : Row). row.count) (take i rows) (get_or rows i d)) ∙ ap counts_of (sym (take_more rows i d h)))

pub joined-none : (old : List ℕ) → length old ≡ last_bin → old ≡ joined_bins old (bins_of [])
joined-none old long =
    let same : length old ≡ length (bins_of []) = long ∙ sym (length-bins_of []) in
    ext_get_or 0 old (joined_bins old (bins_of [])) (sym (length-joined_bins old (bins_of []) same)) (λ i h.
    let is = get_or-joined_bins old (bins_of []) i same in
    let none = get_or-bins_of [] i (omega (arith, h, long)) in
    let zero_ = bin_size-nil (i + 1) in
    omega (arith, is, none, zero_))

-- so many of the rows are counted, at least one is left, and the bins had room for all
pub record IsCounting (old bins : List ℕ) (rows : List Row) (i : ℕ) : Type 0 where
  pub long : length old ≡ last_bin
  pub fits : All (λ size. size + length rows < 2 ^ 64) old
  pub left : i < length rows
  pub is : bins ≡ joined_bins old (bins_of (counts_of (take i rows)))

pub room-for-row : {old bins : List ℕ} {rows : List Row} {i : ℕ} (bin : ℕ) → IsCounting old bins rows i → bin ≤ last_bin
    → bin_at bins bin + 1 < 2 ^ 64
room-for-row {old} {bins} {rows} {i} bin counting within =
    let long = counting.long in
    let h = counting.left in
    let at : bin - 1 < last_bin = omega (arith, within) in
    let sum = get_or-joined_bins old (bins_of (counts_of (take i rows))) (bin - 1) (long ∙ sym (length-bins_of (counts_of (take i rows)))) in
    let most = bin_at-most (counts_of (take i rows)) bin within in
    let few = length-map (take i rows) (λ (row : Row). row.count) in
    let front = length-take-le i rows (omega (arith, h)) in
    let same = ap (λ b. bin_at b bin) counting.is in
    let room = counting.fits (bin - 1) 0 (omega (arith, at, long)) in
    omega (arith, sum, most, few, front, same, room, h)

-- the bins of some counts have room for as many words more as fit with them
pub room-for-all : (bins counts : List ℕ) (n : ℕ) → bins ≡ bins_of counts → length counts + n < 2 ^ 64 → All (λ size. size + n < 2 ^ 64) bins
room-for-all bins counts n is few =
    subst (All (λ size. size + n < 2 ^ 64)) (sym is) (All-from_get_or (λ size. size + n < 2 ^ 64) (bins_of counts) 0 (λ i h.
    let long = length-bins_of counts in
    let size = get_or-bins_of counts i (omega (arith, h, long)) in
    let most = bin_size-most counts (i + 1) in
    omega (arith, size, most, few)))

bin_size-rows : (rows : List Row) (bin : ℕ) → bin_size (counts_of rows) bin ≡ bin_count rows bin
unfolding bin_size
bin_size-rows rows bin = sum_by-map (λ c. one_at (bin_of c) bin) (λ (row : Row). row.count) rows

-- a bin of rows is how many rows have a count there
pub bin_count-is : (rows : List Row) (bin : ℕ) → 1 ≤ bin → bin ≤ last_bin → bin_at (bins_of (counts_of rows)) bin ≡ bin_count rows bin
bin_count-is rows bin some within = bin_at-bins_of (counts_of rows) bin some within ∙ bin_size-rows rows bin

-- ---- for callers: counts that change, that are joined, and that are put in another order

-- one of the counts went from `count` to `count + 1`, and the others stayed: however counts are weighed, the lists
-- differ by these two
abbrev pub IsOneMore : List ℕ → List ℕ → ℕ → Type 0
IsOneMore old new count = (h : ℕ → ℕ) → sum_by h new + h count ≡ sum_by h old + h (count + 1)

pub IsOneMore-at : (before after : List ℕ) (count : ℕ) → IsOneMore (before ++ count ∷ after) (before ++ (count + 1) ∷ after) count
IsOneMore-at before after count h =
    let old = sum_by-append h before (count ∷ after) in
    let new = sum_by-append h before ((count + 1) ∷ after) in
    let was = sum_by-cons h count after in
    let is = sum_by-cons h (count + 1) after in
    omega (arith, old, new, was, is)

-- a word is in the bin that it leaves, as `raise` asks
pub raise-some : (old new : List ℕ) (count : ℕ) → IsOneMore old new count → 1 ≤ count → 1 ≤ bin_at (bins_of old) (bin_of count)
raise-some old new count more some =
    let step = more (λ c. one_at c count) in
    let one = one_at-here count count refl in
    let none = one_at-past (count + 1) count (λ e. omega (arith, e)) in
    let here = bin_size-here old count (omega (arith, step, one, none)) in
    let is = bin_at-bins_of old (bin_of count) (bin_of-some count some) (bin_of-most count) in
    omega (arith, here, is)

-- the size of the other bin fits, as `raise` asks
pub raise-fits : (old : List ℕ) (count : ℕ) → length old + 1 < 2 ^ 64 → bin_at (bins_of old) (bin_of (count + 1)) + 1 < 2 ^ 64
raise-fits old count few = let most = bin_at-most old (bin_of (count + 1)) (bin_of-most (count + 1)) in omega (arith, most, few)

-- a raised count moves two bins
pub bins_of-raised : (old new : List ℕ) (count : ℕ) → IsOneMore old new count → raised (bins_of old) count ≡ bins_of new
unfolding bin_size
bins_of-raised old new count more =
    bins_of-from new (raised (bins_of old) count) (length-raised (bins_of old) count ∙ length-bins_of old) (λ i h.
    let step = raised-at (bins_of old) count i (length-bins_of old) (raise-some old new count more) in
    let before = get_or-bins_of old i h in
    let weighs = more (λ c. one_at (bin_of c) (i + 1)) in
    let sum : get_or (raised (bins_of old) count) i 0 ≡ sum_by (λ c. one_at (bin_of c) (i + 1)) new = omega (arith, step, before, weighs) in
    sum)

-- counts that weigh the same but for counts of 0 have the same bins
pub bins_of-same : (counts others : List ℕ) → ((h : ℕ → ℕ) → h 0 ≡ 0 → sum_by h counts ≡ sum_by h others) → bins_of counts ≡ bins_of others
unfolding bin_size
bins_of-same counts others same =
    bins_of-from others (bins_of counts) (length-bins_of counts) (λ i h.
    get_or-bins_of counts i h ∙ same (λ c. one_at (bin_of c) (i + 1)) (one_at-past 0 (i + 1) (λ e. omega (arith, e))))

pub bins_of-permuted : (counts others : List ℕ) → WeighTheSame counts others → bins_of counts ≡ bins_of others
bins_of-permuted counts others same = bins_of-same counts others (λ h none. same h)

-- a count of 0 is in no bin
pub bins_of-zero : (counts : List ℕ) → bins_of (0 ∷ counts) ≡ bins_of counts
bins_of-zero counts = bins_of-same (0 ∷ counts) counts (λ h none. let first = sum_by-cons h 0 counts in omega (arith, first, none))

-- a word that was in no list comes into bin 1
pub bins_of-new : (old new : List ℕ) → ((h : ℕ → ℕ) → sum_by h new ≡ sum_by h old + h 1) → raised (bins_of old) 0 ≡ bins_of new
bins_of-new old new more =
    ap (λ bins. raised bins 0) (sym (bins_of-zero old)) ∙ bins_of-raised (0 ∷ old) new 0 (λ h. let first = sum_by-cons h 0 old in let step = more h in omega (arith, first, step))

-- joined counts have both bins
pub bins_of-append : (counts others : List ℕ) → joined_bins (bins_of counts) (bins_of others) ≡ bins_of (counts ++ others)
bins_of-append counts others =
    let same : length (bins_of counts) ≡ length (bins_of others) = length-bins_of counts ∙ sym (length-bins_of others) in
    bins_of-from (counts ++ others) (joined_bins (bins_of counts) (bins_of others)) (length-joined_bins (bins_of counts) (bins_of others) same ∙ length-bins_of counts) (λ i h.
    get_or-joined_bins (bins_of counts) (bins_of others) i same ∙ ap (λ n. n + get_or (bins_of others) i 0) (get_or-bins_of counts i h)
    ∙ ap (λ n. bin_size counts (i + 1) + n) (get_or-bins_of others i h) ∙ sym (bin_size-append counts others (i + 1)))

-- the bins of fewer than 2 ^ 64 counts fit
pub bins_of-fit : (counts : List ℕ) → length counts < 2 ^ 64 → All (λ size. size < 2 ^ 64) (bins_of counts)
bins_of-fit counts few = All-from_get_or (λ size. size < 2 ^ 64) (bins_of counts) 0 (λ i h.
    let long = length-bins_of counts in
    let is = get_or-bins_of counts i (omega (arith, h, long)) in
    let most = bin_size-most counts (i + 1) in
    omega (arith, is, most, few))

-- ---- rows that are left to be counted in

count-left : (bins counts : List ℕ) (count : ℕ) → length bins ≡ last_bin
    → joined_bins (counted_in bins count) (bins_of counts) ≡ joined_bins bins (bins_of (count ∷ counts))
count-left bins counts count long =
    let wide = length-counted_in bins count in
    let same : length (counted_in bins count) ≡ length (bins_of counts) = wide ∙ long ∙ sym (length-bins_of counts) in
    let also : length bins ≡ length (bins_of (count ∷ counts)) = long ∙ sym (length-bins_of (count ∷ counts)) in
    let kept = length-joined_bins (counted_in bins count) (bins_of counts) same in
    ext_get_or 0 (joined_bins (counted_in bins count) (bins_of counts)) (joined_bins bins (bins_of (count ∷ counts)))
    (kept ∙ wide ∙ sym (length-joined_bins bins (bins_of (count ∷ counts)) also))
    (λ i h.
    let within : i < last_bin = omega (arith, h, kept, wide, long) in
    let step = counted_in-at bins count i long in
    let before = get_or-joined_bins (counted_in bins count) (bins_of counts) i same in
    let after = get_or-joined_bins bins (bins_of (count ∷ counts)) i also in
    let first = get_or-bins_of counts i within in
    let second = get_or-bins_of (count ∷ counts) i within in
    let more = bin_size-cons count counts (i + 1) in
    omega (arith, step, before, after, first, second, more))

-- these are left of all rows
pub record AreLeft (all : List Row) (bins : List ℕ) (total : ℕ) (left : List Row) : Type 0 where
  pub long : length bins ≡ last_bin
  pub fits : All (λ size. size + length left < 2 ^ 64) bins
  pub same : joined_bins bins (bins_of (counts_of left)) ≡ bins_of (counts_of all)
  pub sum : total + total_of left ≡ total_of all

pub all-left : (all : List Row) (bins : List ℕ) → bins ≡ bins_of [] → length all < 2 ^ 64 → AreLeft all bins 0 all
all-left all bins none few = record {
  long = ap length none ∙ length-bins_of [];
  fits = room-for-all bins [] (length all) none (omega (arith, few));
  same = ap (λ b. joined_bins b (bins_of (counts_of all))) none ∙ bins_of-append [] (counts_of all);
  sum = omega arith;
}

pub one-left : (all : List Row) (bins : List ℕ) (total : ℕ) (row : Row) (left : List Row) → AreLeft all bins total (row ∷ left)
    → AreLeft all (counted_in bins row.count) (total + row.count) left
one-left all bins total row left are =
    let wide = length-counted_in bins row.count in
    let long : length bins ≡ last_bin = are.long in
    record {
      long = wide ∙ long;
      fits = All-from_get_or (λ size. size + length left < 2 ^ 64) (counted_in bins row.count) 0 (λ i h.
          let room = are.fits i 0 (omega (arith, h, wide)) in
          let step = counted_in-at bins row.count i long in
          let one = bin_size-cons row.count [] (i + 1) in
          let most = bin_size-most (row.count ∷ []) (i + 1) in
          omega (arith, room, step, one, most));
      same = count-left bins (counts_of left) row.count long ∙ are.same;
      sum = let first = sum_by-cons (λ (r : Row). r.count) row left in let sum = are.sum in omega (arith, first, sum);
    }

pub left-fits : (all : List Row) (bins : List ℕ) (total : ℕ) (row : Row) (left : List Row) → AreLeft all bins total (row ∷ left)
    → total_of all < 2 ^ 64 → (bin_at bins (bin_of row.count) + 1 < 2 ^ 64) × (total + row.count < 2 ^ 64)
left-fits all bins total row left are small =
    let long : length bins ≡ last_bin = are.long in
    let most = bin_of-most row.count in
    let room = are.fits (bin_of row.count - 1) 0 (omega (arith, most, long)) in
    let first = sum_by-cons (λ (r : Row). r.count) row left in
    let sum = are.sum in
    (omega (arith, room), omega (arith, first, sum, small))

pub none-left : (all : List Row) (bins : List ℕ) (total : ℕ) → AreLeft all bins total []
    → (bins ≡ bins_of (counts_of all)) × (total ≡ total_of all)
none-left all bins total are = (joined-none bins are.long ∙ are.same, let sum = are.sum in omega (arith, sum))
