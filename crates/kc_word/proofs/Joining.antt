-- Two pieces joined, as they are kept: the codes of both, and the runs of both.
use Rattle.std.proofs.Common.{◌≡◌, ℕ, ◌+◌, ◌-◌, ◌<◌, ◌≤◌, ⊎_elim, true, cond, List, [], ◌++◌, length, get_or, take, drop}
use Rattle.std.proofs.Common.{refl, ap, sym, ◌∙◌, subst, arith, lit<}
use Rattle.std.proofs.lemmas.Bool.{cases_lt}
use Rattle.std.proofs.lemmas.List.{length-append, get_or_append_left, get_or-append-add, ext_get_or}
use Rattle.kc_word.specs.declared.runs.Run.{Run}
use Rattle.kc_word.specs.Runs.{is_in_runs, AreRuns}
use Rattle.kc_kmer.specs.Letter.{base}
use Rattle.kc_word.specs.Cutting.{unusable}
use Rattle.kc_word.specs.PackedPiece.{bytes_of, IsPiece}
use Rattle.kc_word.proofs.PieceLemmas.{length-bytes_of, get_or-bytes_of}
use Rattle.kc_word.proofs.RunLemmas.{AreJoined}
use Rattle.kc_word.proofs.Clipping.{AreClipped, clipped-piece}

pub bytes_of-none : (runs : List Run) → bytes_of [] runs ≡ []
unfolding bytes_of
bytes_of-none runs = refl

pub IsPiece-none : (codes : List ℕ) (runs : List Run) → codes ≡ [] → runs ≡ [] → IsPiece codes runs
IsPiece-none codes runs no_codes no_runs =
    subst (λ cs. IsPiece cs runs) (sym no_codes) (subst (IsPiece []) (sym no_runs) (record {
      rising = tt;
      below = λ i. lit< tt;
      clear = λ i h. refl;
    }))

-- the bytes of a piece with those of another after them
pub record IsJoined (bytes behind codes : List ℕ) (runs : List Run) : Type 0 where
  pub piece : IsPiece codes runs
  pub bytes_are : bytes_of codes runs ≡ bytes ++ behind

-- two pieces, and the runs of both
pub record JoinedPieces (codes others : List ℕ) (runs gaps next : List Run) : Type 0 where
  pub piece : IsPiece codes runs
  pub other : IsPiece others gaps
  pub joined : AreJoined runs gaps next (length codes)

-- a fact of each place of two lists joined
by-place : (P : ℕ → Type 0) (n : ℕ) → ((i : ℕ) → i < n → P i) → ((i : ℕ) → P (n + i)) → (i : ℕ) → P i
by-place P n front back i =
    ⊎_elim (front i) (λ h. let place : n + (i - n) ≡ i = omega (arith, h) in subst P place (back (i - n))) (cases_lt i n)

code-left : (codes others : List ℕ) (i : ℕ) → i < length codes → get_or (codes ++ others) i 0 ≡ get_or codes i 0
code-left codes others i h = get_or_append_left codes others 0 i h

code-right : (codes others : List ℕ) (i : ℕ) → get_or (codes ++ others) (length codes + i) 0 ≡ get_or others i 0
code-right codes others i = get_or-append-add codes others i 0

joined-piece : (codes others : List ℕ) (runs gaps next : List Run) → JoinedPieces codes others runs gaps next → IsPiece (codes ++ others) next
joined-piece codes others runs gaps next s = record {
  rising = subst (λ n. AreRuns 0 n next) (sym (length-append codes others)) (s.joined.rising (length others) s.other.rising);
  below = by-place (λ i. get_or (codes ++ others) i 0 < 4) (length codes)
      (λ i h. subst (λ n. n < 4) (sym (code-left codes others i h)) (s.piece.below i))
      (λ i. subst (λ n. n < 4) (sym (code-right codes others i)) (s.other.below i));
  clear = by-place (λ i. is_in_runs next i ≡ true → get_or (codes ++ others) i 0 ≡ 0) (length codes)
      (λ i h gap. code-left codes others i h ∙ s.piece.clear i (sym (s.joined.before i h) ∙ gap))
      (λ i gap. code-right codes others i ∙ s.other.clear i (sym (s.joined.behind i) ∙ gap));
}

joined-bytes : (codes others : List ℕ) (runs gaps next : List Run) → JoinedPieces codes others runs gaps next
    → bytes_of (codes ++ others) next ≡ bytes_of codes runs ++ bytes_of others gaps
joined-bytes codes others runs gaps next s =
    ext_get_or 0 (bytes_of (codes ++ others) next) (bytes_of codes runs ++ bytes_of others gaps)
    (let all = length-bytes_of (codes ++ others) next ∙ length-append codes others in
    let both = length-append (bytes_of codes runs) (bytes_of others gaps) in
    let first = length-bytes_of codes runs in
    let second = length-bytes_of others gaps in
    omega (arith, all, both, first, second))
    (by-place (λ i. i < length (bytes_of (codes ++ others) next)
    → get_or (bytes_of (codes ++ others) next) i 0 ≡ get_or (bytes_of codes runs ++ bytes_of others gaps) i 0) (length codes)
    (λ i h l. front i h) (λ i l. back i (let all = length-bytes_of (codes ++ others) next ∙ length-append codes others in omega (arith, all, l))))
  where
    front : (i : ℕ) → i < length codes → get_or (bytes_of (codes ++ others) next) i 0 ≡ get_or (bytes_of codes runs ++ bytes_of others gaps) i 0
    front i h =
        let all = length-append codes others in
        let first = length-bytes_of codes runs in
        get_or-bytes_of (codes ++ others) next i 0 (omega (arith, all, h))
        ∙ ap (λ b. cond b unusable (base (get_or (codes ++ others) i 0))) (s.joined.before i h)
        ∙ ap (λ n. cond (is_in_runs runs i) unusable (base n)) (code-left codes others i h)
        ∙ sym (get_or_append_left (bytes_of codes runs) (bytes_of others gaps) 0 i (omega (arith, first, h))
        ∙ get_or-bytes_of codes runs i 0 h)

    back : (i : ℕ) → i < length others
        → get_or (bytes_of (codes ++ others) next) (length codes + i) 0 ≡ get_or (bytes_of codes runs ++ bytes_of others gaps) (length codes + i) 0
    back i h =
        let all = length-append codes others in
        get_or-bytes_of (codes ++ others) next (length codes + i) 0 (omega (arith, all, h))
        ∙ ap (λ b. cond b unusable (base (get_or (codes ++ others) (length codes + i) 0))) (s.joined.behind i)
        ∙ ap (λ n. cond (is_in_runs gaps i) unusable (base n)) (code-right codes others i)
        ∙ sym (ap (λ n. get_or (bytes_of codes runs ++ bytes_of others gaps) (n + i) 0) (sym (length-bytes_of codes runs))
        ∙ get_or-append-add (bytes_of codes runs) (bytes_of others gaps) i 0
        ∙ get_or-bytes_of others gaps i 0 h)

-- a piece, another one, and the indices between which its part is appended: what of its runs lies there, all runs, and
-- all codes
pub record PartStep (codes others : List ℕ) (runs gaps : List Run) (from to : ℕ) : Type 0 where
  pub clipped : List Run
  pub next : List Run
  pub all : List ℕ
  pub piece : IsPiece codes runs
  pub other : IsPiece others gaps
  pub within : (from ≤ to) × (to ≤ length others)
  pub clipped_are : AreClipped gaps clipped from to
  pub next_are : AreJoined runs clipped next (length codes)
  pub all_are : all ≡ codes ++ take (to - from) (drop from others)

pub part-joined : (codes others : List ℕ) (runs gaps : List Run) (from to : ℕ) (s : PartStep codes others runs gaps from to)
    → IsJoined (bytes_of codes runs) (take (to - from) (drop from (bytes_of others gaps))) s.all s.next
part-joined codes others runs gaps from to s =
    let part = clipped-piece others (take (to - from) (drop from others)) from to s.within s.other refl s.clipped_are in
    let both : JoinedPieces codes (take (to - from) (drop from others)) runs s.clipped s.next =
    record { piece = s.piece; other = part.piece; joined = s.next_are } in
    record {
      piece = subst (λ cs. IsPiece cs s.next) (sym s.all_are) (joined-piece codes _ runs s.clipped s.next both);
      bytes_are = ap (λ cs. bytes_of cs s.next) s.all_are ∙ joined-bytes codes _ runs s.clipped s.next both
          ∙ ap (λ bs. bytes_of codes runs ++ bs) part.bytes;
    }
