-- Pieces as they are kept: their bytes, what one more byte changes, and that equal bytes are kept alike.
use Rattle.std.proofs.Common.{◌≡◌, ℕ, ◌<◌, ⊎_elim, Bool, true, false, ◌||◌, cond, eqb, List, [], length, get_or, refl, ap, sym, ◌∙◌, arith, true≢false, lit<}
use Rattle.std.proofs.lemmas.Bool.{cases_Bool, cases_lt, cond-true, cond-false, cond_both, or_left}
use Rattle.std.proofs.lemmas.Bool.Decides.{same_from_decides, Decides-like}
use Rattle.std.proofs.lemmas.Slice.Eq.{bytes_eq-Decides}
use Rattle.std.specs.Str.{bytes_eq}
use Rattle.std.specs.Bool.{Decides}
use Rattle.std.proofs.lemmas.List.{ext_get_or}
use Rattle.std.proofs.lemmas.List.FromFn.{length-map-range_with_len, get_or-map-range_with_len}
use Rattle.kc_kmer.specs.Letter.{is_base, code, base}
use Rattle.kc_word.specs.Cutting.{unusable, is_piece_byte}
use Rattle.std.specs.Char.{to_ascii_uppercase}
use Rattle.kc_word.specs.declared.runs.Run.{Run}
use Rattle.kc_word.specs.Runs.{is_in_runs}
use Rattle.kc_word.specs.PackedPiece.{byte_at, bytes_of, IsPiece}
use Rattle.kc_kmer.proofs.WordLemmas.{below_four, at_base}
use Rattle.kc_word.proofs.RunLemmas.{behind-runs, same-runs}

pub length-bytes_of : (codes : List ℕ) (runs : List Run) → length (bytes_of codes runs) ≡ length codes
unfolding bytes_of
length-bytes_of codes runs = length-map-range_with_len (λ i. byte_at codes runs i) 0 (length codes)

pub get_or-bytes_of : (codes : List ℕ) (runs : List Run) (i d : ℕ) → i < length codes → get_or (bytes_of codes runs) i d ≡ byte_at codes runs i
unfolding bytes_of
get_or-bytes_of codes runs i d h = get_or-map-range_with_len (λ j. byte_at codes runs j) 0 (length codes) i i d h (omega arith)

pub IsPiece-none : IsPiece [] []
IsPiece-none = record {
  rising = tt;
  below = λ i. lit< tt;
  clear = λ i h. refl;
}

-- the byte of a code
base-byte : (n : ℕ) → n < 4 → is_base (base n) ≡ true
unfolding is_base base
base-byte = below_four (λ n. is_base (base n) ≡ true) refl refl refl refl

base-usable : (n : ℕ) → n < 4 → eqb (base n) unusable ≡ false
unfolding base
base-usable = below_four (λ n. eqb (base n) unusable ≡ false) refl refl refl refl

code-base : (n : ℕ) → n < 4 → code (base n) ≡ n
unfolding code base
code-base = below_four (λ n. code (base n) ≡ n) refl refl refl refl

unusable-letter : (is_base unusable || eqb unusable unusable) ≡ true
unfolding is_base
unusable-letter = refl

pub byte_at-letter : (codes : List ℕ) (runs : List Run) (i : ℕ) → get_or codes i 0 < 4 → is_piece_byte (byte_at codes runs i) ≡ true
byte_at-letter codes runs i small =
    cond_both (is_in_runs runs i) unusable (base (get_or codes i 0)) (λ b. (is_base b || eqb b unusable) ≡ true)
    (λ _. unusable-letter) (λ _. or_left (is_base (base (get_or codes i 0))) _ (base-byte (get_or codes i 0) small))

-- ---- one more byte

-- ---- equal bytes are kept alike

-- in two pieces of the same bytes the same indices lie in runs
gaps-same : (codes others : List ℕ) (runs gaps : List Run) (i : ℕ) → IsPiece codes runs × IsPiece others gaps → byte_at codes runs i ≡ byte_at others gaps i
    → is_in_runs runs i ≡ true → is_in_runs gaps i ≡ true
gaps-same codes others runs gaps i pieces same h =
    ⊎_elim (λ yes. yes)
    (λ no. absurd (true≢false (sym unusable-is ∙ ap (λ b. eqb b unusable) (sym (cond-true _ unusable (base (get_or codes i 0)) h) ∙ same ∙ cond-false _ unusable (base (get_or others i 0)) no)
    ∙ base-usable (get_or others i 0) (pieces.1.below i))))
    (cases_Bool (is_in_runs gaps i))
  where
    unusable-is : eqb unusable unusable ≡ true
    unusable-is = refl

same-test : (a b : Bool) → (a ≡ true → b ≡ true) → (b ≡ true → a ≡ true) → a ≡ b
same-test true b there back = sym (there refl)
same-test false true there back = back refl
same-test false false there back = refl

codes-same : (codes others : List ℕ) (runs gaps : List Run) (i : ℕ) → IsPiece codes runs → IsPiece others gaps → byte_at codes runs i ≡ byte_at others gaps i
    → get_or codes i 0 ≡ get_or others i 0
codes-same codes others runs gaps i piece other same =
    ⊎_elim (λ h. piece.clear i h ∙ sym (other.clear i (gaps-same codes others runs gaps i (piece, other) same h)))
    (λ h. sym (code-base (get_or codes i 0) (piece.below i))
    ∙ ap code (sym (cond-false _ unusable (base (get_or codes i 0)) h) ∙ same ∙ cond-false _ unusable (base (get_or others i 0)) (no h))
    ∙ code-base (get_or others i 0) (other.below i))
    (cases_Bool (is_in_runs runs i))
  where
    no : is_in_runs runs i ≡ false → is_in_runs gaps i ≡ false
    no h = ⊎_elim (λ e. absurd (true≢false (sym (gaps-same others codes gaps runs i (other, piece) (sym same) e) ∙ h))) (λ e. e) (cases_Bool (is_in_runs gaps i))

pub record AreAlike (codes others : List ℕ) (runs gaps : List Run) : Type 0 where
  pub codes_are : codes ≡ others
  pub runs_are : runs ≡ gaps

pub kept-alike : (codes others : List ℕ) (runs gaps : List Run) → IsPiece codes runs → IsPiece others gaps → bytes_of codes runs ≡ bytes_of others gaps
    → AreAlike codes others runs gaps
kept-alike codes others runs gaps piece other same = record {
  codes_are = ext_get_or 0 codes others long (λ i h. codes-same codes others runs gaps i piece other (byte i h));
  runs_are = same-runs 0 (length codes) (length others) runs gaps piece.rising other.rising (λ i.
      ⊎_elim (λ h. same-test (is_in_runs runs i) (is_in_runs gaps i)
      (gaps-same codes others runs gaps i (piece, other) (byte i h)) (gaps-same others codes gaps runs i (other, piece) (sym (byte i h))))
      (λ h. behind-runs 0 (length codes) i runs h piece.rising ∙ sym (behind-runs 0 (length others) i gaps (omega (arith, h, long)) other.rising))
      (cases_lt i (length codes)));
}
  where
    long : length codes ≡ length others
    long = sym (length-bytes_of codes runs) ∙ ap length same ∙ length-bytes_of others gaps

    byte : (i : ℕ) → i < length codes → byte_at codes runs i ≡ byte_at others gaps i
    byte i h = sym (get_or-bytes_of codes runs i 0 h) ∙ ap (λ xs. get_or xs i 0) same
        ∙ get_or-bytes_of others gaps i 0 (let e = sym (length-bytes_of codes runs) ∙ ap length same ∙ length-bytes_of others gaps in omega (arith, h, e))

-- whether the runs are equal decides whether pieces with the same codes are
pub same-kept : (codes others : List ℕ) (runs gaps : List Run) (same : Bool) → IsPiece codes runs × IsPiece others gaps → codes ≡ others
    → Decides same (runs ≡ gaps) → same ≡ bytes_eq (bytes_of codes runs) (bytes_of others gaps)
same-kept codes others runs gaps same pieces e decided =
    same_from_decides same (bytes_eq (bytes_of codes runs) (bytes_of others gaps))
    (Decides-like same (λ r. ap (λ cs. bytes_of cs runs) e ∙ ap (bytes_of others) r)
    (λ b. (kept-alike codes others runs gaps pieces.0 pieces.1 b).runs_are) decided)
    (bytes_eq-Decides (bytes_of codes runs) (bytes_of others gaps))

pub other-codes : (codes others : List ℕ) (runs gaps : List Run) → IsPiece codes runs → IsPiece others gaps → (codes ≡ others → ⊥)
    → false ≡ bytes_eq (bytes_of codes runs) (bytes_of others gaps)
other-codes codes others runs gaps piece other ne =
    ⊎_elim (λ h. absurd (ne (kept-alike codes others runs gaps piece other ((bytes_eq-Decides (bytes_of codes runs) (bytes_of others gaps)).0 h)).codes_are))
    (λ h. sym h) (cases_Bool (bytes_eq (bytes_of codes runs) (bytes_of others gaps)))

-- ---- the byte of a code

pub base-code : (byte : ℕ) → is_base byte ≡ true → base (code byte) ≡ byte
unfolding base code
base-code = at_base (λ b. base (code b) ≡ b) refl refl refl refl

-- the code under a byte of a piece, and 4 for N
code-of-base : (n : ℕ) → n < 4 → cond (is_base (to_ascii_uppercase (base n))) (code (to_ascii_uppercase (base n))) 4 ≡ n
unfolding is_base base code
code-of-base = below_four (λ n. cond (is_base (to_ascii_uppercase (base n))) (code (to_ascii_uppercase (base n))) 4 ≡ n) refl refl refl refl

pub code-of-byte : (codes : List ℕ) (runs : List Run) (i c : ℕ) → IsPiece codes runs → i < length codes → is_in_runs runs i ≡ false → c ≡ get_or codes i 0
    → c ≡ cond (is_base (to_ascii_uppercase (get_or (bytes_of codes runs) i 0))) (code (to_ascii_uppercase (get_or (bytes_of codes runs) i 0))) 4
code-of-byte codes runs i c piece h outside e =
    let byte : get_or (bytes_of codes runs) i 0 ≡ base (get_or codes i 0) =
    get_or-bytes_of codes runs i 0 h ∙ cond-false _ unusable (base (get_or codes i 0)) outside in
    e ∙ sym (ap (λ b. cond (is_base (to_ascii_uppercase b)) (code (to_ascii_uppercase b)) 4) byte ∙ code-of-base (get_or codes i 0) (piece.below i))

pub code-of-gap : (codes : List ℕ) (runs : List Run) (i : ℕ) → i < length codes → is_in_runs runs i ≡ true
    → 4 ≡ cond (is_base (to_ascii_uppercase (get_or (bytes_of codes runs) i 0))) (code (to_ascii_uppercase (get_or (bytes_of codes runs) i 0))) 4
unfolding is_base
code-of-gap codes runs i h inside =
    sym (ap (λ b. cond (is_base (to_ascii_uppercase b)) (code (to_ascii_uppercase b)) 4)
    (get_or-bytes_of codes runs i 0 h ∙ cond-true _ unusable (base (get_or codes i 0)) inside))
