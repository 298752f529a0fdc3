-- How batches are made as pieces come, part after part, and that they are the cutting.
use Rattle.std.proofs.Common.{cond, ltb, ◌≡◌, ℕ, ◌+◌, ◌-◌, ◌*◌, ◌/◌, ◌<◌, ◌≤◌, min, ⊎_elim, ◌⊎◌, slice_range, List, [], ◌∷◌, ◌++◌, map, length, take, sum_by, ap, sym, ◌∙◌, subst, arith, le-div_iff_mul-le, div-lt_iff_lt-mul}
use Rattle.std.proofs.lemmas.Bool.{cases_lt, cond-true, cond-false, lt-ltb, le-ltb}
use Rattle.std.proofs.Math.Nat.{mul-le-mul_right}
use Rattle.std.proofs.lemmas.List.{length_push, take_all, drop_all, nil_from_length, append-nil}
use Rattle.std.proofs.lemmas.List.FromFn.{map-range_with_len_more}
use Rattle.std.specs.List.{range_with_len, flat_map}
use Rattle.kc_kmer.specs.Occurrences.{position_count, occurrences, words_of}
use Rattle.kc_word.specs.Cutting.{as_reads, NumberedPieces, stretch, stretches, position_total, batch_of, cutting, KeepsOccurrences, KeepsWords}
use Rattle.kc_word.specs.OpenCutting.{OpenCutting, HasCut, HasTaken, HasTakenFront}
use Rattle.kc_word.proofs.Windows.{windows, map-range}
use Rattle.kc_word.proofs.Stretches.{stretches_from, stretches-are}
use Rattle.kc_word.proofs.Taking.{stretches-skip, stretches-nil, stretches-none, stretches-push, stretches-all, stretch-empty, stretch-some}
use Rattle.kc_word.proofs.Cuttings.{length-cut, stretches-windows, length-all_windows, cutting-words, cutting-occurrences}

-- after the last position there is no stretch
stretches-past : (k low high : ℕ) (pieces : List (List ℕ)) → position_total k pieces ≤ low → stretches k low high pieces ≡ []
stretches-past k low high pieces h =
    let whole = ap (position_total k) (take_all (length pieces) pieces (omega arith)) in
    stretches-are k low high pieces ∙ stretches-skip k low high 0 (length pieces) pieces (omega (arith, whole, h))
    ∙ ap (stretches_from k low high (0 + position_total k (take (length pieces) pieces))) (drop_all (length pieces) pieces (omega arith))
    ∙ stretches-nil k low high (0 + position_total k (take (length pieces) pieces))

-- if there is no stretch there is no position left
positions-past : (k low size : ℕ) (pieces : List (List ℕ)) → 1 ≤ k → 1 ≤ size → stretches k low (low + size) pieces ≡ []
    → position_total k pieces ≤ low
positions-past k low size pieces some size_some none =
    let empty = sym (stretches-windows k low (low + size) 0 pieces some)
    ∙ ap (flat_map (λ part. windows k part)) (sym (stretches-are k low (low + size) pieces) ∙ none) in
    let gone = ap length empty in
    let long = length-cut (low - 0) (low + size - 0) (flat_map (λ piece. windows k piece) pieces) in
    let total = length-all_windows k pieces in
    omega (arith, gone, long, total, size_some)

batch_count-is : (total size n : ℕ) → 1 ≤ size → n * size < total + size → total ≤ n * size → (total + size - 1) / size ≡ n
batch_count-is total size n some few enough =
    let least : n ≤ (total + size - 1) / size = (le-div_iff_mul-le {k = size} {x = n} {y = total + size - 1} some).1 (omega (arith, few)) in
    let next : (n + 1) * size ≡ n * size + size = omega arith in
    let most : (total + size - 1) / size < n + 1 =
    (div-lt_iff_lt-mul {k = size} {x = total + size - 1} {y = n + 1} some).1 (omega (arith, enough, some, next)) in
    omega (arith, least, most)

-- ---- a cutting that takes pieces as they come

pub HasTaken-none : (cutting : OpenCutting) → cutting.batches ≡ [] → cutting.begun ≡ [] → cutting.filled ≡ 0 → HasTaken cutting []
HasTaken-none cutting batches begun filled = record {
  whole = batches ∙ ap (λ n. map (λ i. batch_of cutting.k cutting.size [] i) (range_with_len 0 n)) (sym none);
  rest = begun ∙ sym (stretches-past cutting.k (length cutting.batches * cutting.size) 0 [] (omega arith));
  number = ap (λ n. n * cutting.size + cutting.filled) none ∙ omega (arith, filled);
}
  where
    none : length cutting.batches ≡ 0
    none = ap length batches

-- a piece whose positions follow a number has no stretch before it
push-before : (k low high : ℕ) (pieces : List (List ℕ)) (piece : List ℕ) → high ≤ position_total k pieces
    → stretches k low high (pieces ++ piece ∷ []) ≡ stretches k low high pieces
push-before k low high pieces piece h =
    stretches-push k low high pieces piece
    ∙ ap (λ xs. stretches k low high pieces ++ xs)
    (stretch-empty k piece (low - position_total k pieces) (min (position_count k (length piece)) (high - position_total k pieces)) (omega (arith, h)))
    ∙ append-nil (stretches k low high pieces)

-- none of the positions of one more piece is cut yet
pub HasCut-next : (cutting : OpenCutting) (pieces : List (List ℕ)) (piece : List ℕ) → HasTaken cutting pieces
    → HasCut cutting (pieces ++ piece ∷ []) (position_total cutting.k pieces)
HasCut-next cutting pieces piece taken = record {
  whole = taken.whole ∙ sym (map-range (λ i. batch_of cutting.k cutting.size (pieces ++ piece ∷ []) i)
      (λ i. batch_of cutting.k cutting.size pieces i) 0 (length cutting.batches) (λ i h.
      let number = taken.number in
      let next : (i + 1) * cutting.size ≤ length cutting.batches * cutting.size = mul-le-mul_right cutting.size (omega (arith, h)) in
      ap (λ ps. record { number = i; pieces = ps })
      (push-before cutting.k (i * cutting.size) ((i + 1) * cutting.size) pieces piece (omega (arith, number, next)))));
  rest = taken.rest
      ∙ sym (push-before cutting.k (length cutting.batches * cutting.size) (position_total cutting.k pieces) pieces piece (omega arith));
  number = taken.number;
}

-- the cutting with one more part, of so many positions, in the batch that is begun, which is whole then if it has
-- `size` positions
abbrev pub with_part : OpenCutting → List ℕ → ℕ → OpenCutting
with_part cutting part taken =
    cond (ltb (cutting.filled + taken) cutting.size) (record {
      k = cutting.k;
      size = cutting.size;
      batches = cutting.batches;
      begun = cutting.begun ++ part ∷ [];
      filled = cutting.filled + taken;
    }) (record {
      k = cutting.k;
      size = cutting.size;
      batches = cutting.batches ++ record { number = length cutting.batches; pieces = cutting.begun ++ part ∷ [] } ∷ [];
      begun = [];
      filled = 0;
    })

-- the cutting with one more part, whose batch is not whole yet, and whose batch is
pub with_part-begun : (cutting : OpenCutting) (part : List ℕ) (taken : ℕ) → cutting.filled + taken < cutting.size
    → with_part cutting part taken ≡ record cutting { begun = cutting.begun ++ part ∷ []; filled = cutting.filled + taken }
with_part-begun cutting part taken h = cond-true _ _ _ (lt-ltb (cutting.filled + taken) cutting.size h)

pub with_part-whole : (cutting : OpenCutting) (part : List ℕ) (taken : ℕ) → cutting.size ≤ cutting.filled + taken
    → with_part cutting part taken ≡ record cutting {
      batches = cutting.batches ++ record { number = length cutting.batches; pieces = cutting.begun ++ part ∷ [] } ∷ [];
      begun = [];
      filled = 0;
    }
with_part-whole cutting part taken h = cond-false _ _ _ (le-ltb (cutting.filled + taken) cutting.size h)

-- if so many positions of one more piece are cut, they are a prefix of it
pub front-left : (old now : OpenCutting) (piece : List ℕ) (count : ℕ) → now.k ≡ old.k → count ≤ position_count old.k (length piece)
    → ((pieces : List (List ℕ)) → HasTaken old pieces → HasCut now (pieces ++ piece ∷ []) (position_total old.k pieces + count))
    → (pieces : List (List ℕ)) → HasTaken old pieces → HasTakenFront now pieces piece
front-left old now piece count same within cut pieces taken = (
  count,
  subst (λ k. count ≤ position_count k (length piece)) (sym same) within,
  subst (λ k. HasCut now (pieces ++ piece ∷ []) (position_total k pieces + count)) (sym same) (cut pieces taken),
)

-- a part of a piece that comes next: so many positions from one on. It begins a batch, or the piece begins with it
pub record PartStep (cutting : OpenCutting) (pieces : List (List ℕ)) (piece : List ℕ) : Type 0 where
  pub position : ℕ
  pub taken : ℕ
  pub some : 1 ≤ taken
  pub within : position + taken ≤ position_count cutting.k (length piece)
  pub room : cutting.filled + taken ≤ cutting.size
  pub alone : (position ≡ 0) ⊎ (cutting.filled ≡ 0)
  pub cut : HasCut cutting (pieces ++ piece ∷ []) (position_total cutting.k pieces + position)

part_of : (cutting : OpenCutting) (pieces : List (List ℕ)) (piece : List ℕ) → PartStep cutting pieces piece → List ℕ
part_of cutting pieces piece s = slice_range piece s.position (s.position + s.taken + cutting.k - 1)

-- the positions of the batch with the part are those before it, and the part
part-behind : (cutting : OpenCutting) (pieces : List (List ℕ)) (piece : List ℕ) (s : PartStep cutting pieces piece)
    → stretches cutting.k (length cutting.batches * cutting.size) (position_total cutting.k pieces + s.position + s.taken) (pieces ++ piece ∷ [])
    ≡ cutting.begun ++ part_of cutting pieces piece s ∷ []
unfolding part_of
part-behind cutting pieces piece s =
    let within = s.within in
    let some = s.some in
    let number = s.cut.number in
    let last : min (position_count k (length piece)) (first + s.position + s.taken - first) ≡ s.position + s.taken = omega (arith, within) in
    stretches-push k low (first + s.position + s.taken) pieces piece
    ∙ ap (λ q. stretches k low (first + s.position + s.taken) pieces ++ stretch k piece (low - first) q) last
    ∙ ⊎_elim
    (λ e. let begin : low - first ≡ s.position = omega (arith, e, number) in
    ap (λ p. stretches k low (first + s.position + s.taken) pieces ++ stretch k piece p (s.position + s.taken)) begin
    ∙ ap (λ xs. stretches k low (first + s.position + s.taken) pieces ++ xs) (stretch-some k piece s.position (s.position + s.taken) (omega (arith, some)))
    ∙ ap (λ xs. xs ++ slice_range piece s.position (s.position + s.taken + k - 1) ∷ [])
    (stretches-all k low (first + s.position + s.taken) first pieces (omega arith) (omega arith)
    ∙ sym (push-before k low first pieces piece (omega arith))
    ∙ ap (λ h. stretches k low h (pieces ++ piece ∷ [])) (omega (arith, e))
    ∙ sym s.cut.rest))
    (λ e. let begin : low - first ≡ s.position = omega (arith, e, number) in
    ap (λ p. stretches k low (first + s.position + s.taken) pieces ++ stretch k piece p (s.position + s.taken)) begin
    ∙ ap (λ xs. stretches k low (first + s.position + s.taken) pieces ++ xs) (stretch-some k piece s.position (s.position + s.taken) (omega (arith, some)))
    ∙ ap (λ xs. xs ++ slice_range piece s.position (s.position + s.taken + k - 1) ∷ [])
    (stretches-past k low (first + s.position + s.taken) pieces (omega (arith, e, number))
    ∙ sym (s.cut.rest ∙ stretches-are k low (first + s.position) (pieces ++ piece ∷ [])
    ∙ stretches-none k low (first + s.position) 0 (pieces ++ piece ∷ []) (omega (arith, e, number)))))
    s.alone
  where
    k : ℕ
    k = cutting.k

    low : ℕ
    low = length cutting.batches * cutting.size

    first : ℕ
    first = position_total cutting.k pieces

-- with the part the cutting has cut its positions too, and if the piece has more, a batch is whole
pub HasCut-more : (cutting : OpenCutting) (pieces : List (List ℕ)) (piece : List ℕ) (s : PartStep cutting pieces piece)
    → HasCut (with_part cutting (slice_range piece s.position (s.position + s.taken + cutting.k - 1)) s.taken) (pieces ++ piece ∷ [])
    (position_total cutting.k pieces + (s.position + s.taken))
unfolding part_of
HasCut-more cutting pieces piece s =
    subst (HasCut (with_part cutting part s.taken) (pieces ++ piece ∷ [])) (omega arith)
    (⊎_elim
    (λ h. subst (λ c. HasCut c (pieces ++ piece ∷ []) (first + s.position + s.taken)) (sym (cond-true _ _ _ (lt-ltb (cutting.filled + s.taken) cutting.size h))) (record {
      whole = s.cut.whole;
      rest = sym (part-behind cutting pieces piece s);
      number = let number = s.cut.number in omega (arith, number);
    }))
    (λ h. subst (λ c. HasCut c (pieces ++ piece ∷ []) (first + s.position + s.taken)) (sym (cond-false _ _ _ (le-ltb (cutting.filled + s.taken) cutting.size h))) (closed h))
    (cases_lt (cutting.filled + s.taken) cutting.size))
  where
    part : List ℕ
    part = slice_range piece s.position (s.position + s.taken + cutting.k - 1)

    first : ℕ
    first = position_total cutting.k pieces

    made : ℕ
    made = length cutting.batches

    all : List (List ℕ)
    all = pieces ++ piece ∷ []

    closed : cutting.size ≤ cutting.filled + s.taken → HasCut (record {
      k = cutting.k;
      size = cutting.size;
      batches = cutting.batches ++ record { number = made; pieces = cutting.begun ++ part ∷ [] } ∷ [];
      begun = [];
      filled = 0;
    }) all (first + s.position + s.taken)
    closed h =
        let number = s.cut.number in
        let room = s.room in
        let long : length (cutting.batches ++ record { number = made; pieces = cutting.begun ++ part ∷ [] } ∷ []) ≡ made + 1 =
        length_push cutting.batches (record { number = made; pieces = cutting.begun ++ part ∷ [] }) in
        let more : length (cutting.batches ++ record { number = made; pieces = cutting.begun ++ part ∷ [] } ∷ []) * cutting.size ≡ made * cutting.size + cutting.size =
        ap (λ n. n * cutting.size) long ∙ omega arith in
        let high : first + s.position + s.taken ≡ (made + 1) * cutting.size = omega (arith, number, room, h) in
        record {
          whole =
              ap (λ bs. bs ++ record { number = made; pieces = cutting.begun ++ part ∷ [] } ∷ []) s.cut.whole
              ∙ ap (λ ps. map (λ j. batch_of cutting.k cutting.size all j) (range_with_len 0 made) ++ record { number = made; pieces = ps } ∷ [])
              (sym (part-behind cutting pieces piece s) ∙ ap (λ n. stretches cutting.k (made * cutting.size) n all) high)
              ∙ sym (map-range_with_len_more (λ j. batch_of cutting.k cutting.size all j) 0 made made (omega arith))
              ∙ ap (λ m. map (λ j. batch_of cutting.k cutting.size all j) (range_with_len 0 m)) (sym long);
          rest = sym (stretches-are cutting.k _ (first + s.position + s.taken) all
              ∙ stretches-none cutting.k _ (first + s.position + s.taken) 0 all (omega (arith, more, high)));
          number = omega (arith, more, high);
        }

-- the batch that is begun is empty again if the part fills it
pub filled-up : (cutting : OpenCutting) (part : List ℕ) (taken : ℕ) → cutting.size ≤ cutting.filled + taken → (with_part cutting part taken).filled ≡ 0
filled-up cutting part taken h = ap (λ (c : OpenCutting). c.filled) (cond-false _ _ _ (le-ltb (cutting.filled + taken) cutting.size h))

-- the length of the words and the size are unchanged
pub with_part-k : (cutting : OpenCutting) (part : List ℕ) (taken : ℕ) → (with_part cutting part taken).k ≡ cutting.k
with_part-k cutting part taken =
    ⊎_elim (λ h. ap (λ (c : OpenCutting). c.k) (cond-true _ _ _ (lt-ltb (cutting.filled + taken) cutting.size h)))
    (λ h. ap (λ (c : OpenCutting). c.k) (cond-false _ _ _ (le-ltb (cutting.filled + taken) cutting.size h)))
    (cases_lt (cutting.filled + taken) cutting.size)

pub with_part-size : (cutting : OpenCutting) (part : List ℕ) (taken : ℕ) → (with_part cutting part taken).size ≡ cutting.size
with_part-size cutting part taken =
    ⊎_elim (λ h. ap (λ (c : OpenCutting). c.size) (cond-true _ _ _ (lt-ltb (cutting.filled + taken) cutting.size h)))
    (λ h. ap (λ (c : OpenCutting). c.size) (cond-false _ _ _ (le-ltb (cutting.filled + taken) cutting.size h)))
    (cases_lt (cutting.filled + taken) cutting.size)

-- ---- when all pieces were taken

pub record Finished (cutting : OpenCutting) (pieces : List (List ℕ)) : Type 0 where
  pub bases : 1 ≤ cutting.k
  pub room : cutting.filled < cutting.size
  pub taken : HasTaken cutting pieces

-- if a batch is begun, it is the last one
pub finished-last : (c : OpenCutting) (pieces : List (List ℕ)) → Finished c pieces → 1 ≤ length c.begun
    → c.batches ++ record { number = length c.batches; pieces = c.begun } ∷ [] ≡ cutting c.k c.size pieces
unfolding cutting
finished-last c pieces s some =
    let number = s.taken.number in
    let room = s.room in
    let filled : 1 ≤ c.filled = ⊎_elim (λ h. absurd (begun-some (omega (arith, h)))) (λ h. h) (cases_lt c.filled 1) in
    let next : (made + 1) * c.size ≡ made * c.size + c.size = omega arith in
    let count = batch_count-is (position_total c.k pieces) c.size (made + 1) (omega (arith, room)) (omega (arith, next, number, filled)) (omega (arith, next, number, room)) in
    ap (λ bs. bs ++ record { number = made; pieces = c.begun } ∷ []) s.taken.whole
    ∙ ap (λ ps. map (λ i. batch_of c.k c.size pieces i) (range_with_len 0 made) ++ record { number = made; pieces = ps } ∷ [])
    (s.taken.rest ∙ stretches-all c.k (made * c.size) (position_total c.k pieces) ((made + 1) * c.size) pieces (omega arith) (omega (arith, next, number, room)))
    ∙ sym (map-range_with_len_more (λ i. batch_of c.k c.size pieces i) 0 made made (omega arith))
    ∙ ap (λ n. map (λ i. batch_of c.k c.size pieces i) (range_with_len 0 n)) (sym count)
  where
    made : ℕ
    made = length c.batches

    begun-some : c.filled ≡ 0 → ⊥
    begun-some e =
        let number = s.taken.number in
        let none = ap length (s.taken.rest ∙ stretches-past c.k (made * c.size) (position_total c.k pieces) pieces (omega (arith, number, e))) in
        omega (arith, none, some)

-- if none is begun, the whole ones are all
pub finished-all : (c : OpenCutting) (pieces : List (List ℕ)) → Finished c pieces → length c.begun ≡ 0 → c.batches ≡ cutting c.k c.size pieces
unfolding cutting
finished-all c pieces s none =
    let number = s.taken.number in
    let room = s.room in
    let past = positions-past c.k (made * c.size) c.size pieces s.bases (omega (arith, room))
    (stretches-all c.k (made * c.size) (made * c.size + c.size) (position_total c.k pieces) pieces (omega (arith, number, room)) (omega arith)
    ∙ sym s.taken.rest ∙ nil_from_length c.begun none) in
    let count = batch_count-is (position_total c.k pieces) c.size made (omega (arith, room)) (omega (arith, number, room)) past in
    s.taken.whole ∙ ap (λ n. map (λ i. batch_of c.k c.size pieces i) (range_with_len 0 n)) (sym count)
  where
    made : ℕ
    made = length c.batches

-- ---- what a cutting means for the words

pub occurrences-cut : (k size : ℕ) (pieces : List (List ℕ)) (batches : List NumberedPieces) → 1 ≤ k → 1 ≤ size → batches ≡ cutting k size pieces
    → KeepsOccurrences k pieces batches
occurrences-cut k size pieces batches some size_some e rule word same =
    ap (sum_by (λ b. occurrences rule (as_reads b.pieces) word)) (e ∙ ap (λ j. cutting j size pieces) (sym same))
    ∙ cutting-occurrences rule size pieces word (subst (λ j. 1 ≤ j) (sym same) some) size_some

pub words-cut : (k size : ℕ) (pieces : List (List ℕ)) (batches : List NumberedPieces) → 1 ≤ k → 1 ≤ size → batches ≡ cutting k size pieces
    → KeepsWords k pieces batches
words-cut k size pieces batches some size_some e rule same =
    ap (flat_map (λ b. words_of rule (as_reads b.pieces))) (e ∙ ap (λ j. cutting j size pieces) (sym same))
    ∙ cutting-words rule size pieces (subst (λ j. 1 ≤ j) (sym same) some) size_some
