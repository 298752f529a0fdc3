-- How the lines of some bytes begin.
use Rattle.std.proofs.Common.{◌≡◌, ℕ, ◌+◌, ◌-◌, ◌<◌, ◌≤◌, Bool, true, false, eqb, List, [], ◌∷◌, ◌++◌, length, get_or, take, drop, map, refl, sym, ap, ◌∙◌, arith, cond}
use Rattle.std.specs.List.{slice_split, onto_first, All}
use Rattle.std.proofs.lemmas.List.{append-nil, length-drop, take-append-drop, get_or-take, length-take-le, drop_more, take_all}
use Rattle.std.proofs.Common.{⊎_elim, ◌⊎◌, inl, inr, slice_index, suc, zero}
use Rattle.std.proofs.lemmas.Bool.{eqb-true, false_from_ne_true, ne_eqb}
use Rattle.std.proofs.lemmas.List.Elements.{All-from_get_or}
use Rattle.std.proofs.lemmas.List.Splits.{slice_split_at, slice_split_none}
use Rattle.std.specs.Str.Lines.{strip_carriage_return}
use Rattle.kc_fastx.specs.Lines.{Line, ends_or_begins_with}
use Rattle.kc_fastx.specs.Lines.{IsBehind, line_feed, lines, without_empty_last, begins_with, next_begins_with}

-- a byte ends a line
abbrev pub is_line_feed : ℕ → Bool
is_line_feed b = eqb b line_feed

-- some part always comes first
onto_first-some : (b : ℕ) (parts : List (List ℕ)) → (first : List ℕ) × (more : List (List ℕ)) × (onto_first b parts ≡ first ∷ more)
onto_first-some b [] = (b ∷ [], [], refl)
onto_first-some b (part ∷ parts) = (b ∷ part, parts, refl)

pub split-some : (bytes : List ℕ) → (first : List ℕ) × (more : List (List ℕ)) ×
    (slice_split is_line_feed bytes ≡ first ∷ more)
split-some [] = ([], [], refl)
split-some (b ∷ bs) =
    elim (is_line_feed b) as (λ t. (first : List ℕ) × (more : List (List ℕ)) × (cond t ([] ∷ slice_split is_line_feed bs) (onto_first b (slice_split is_line_feed bs)) ≡ first ∷ more)) [
      | true ↦ ([], slice_split is_line_feed bs, refl)
      | false ↦ onto_first-some b (slice_split is_line_feed bs)
    ]

-- a part that another one follows is kept, empty or not
pub without_empty_last-cons : (part : List ℕ) (parts : List (List ℕ)) (first : List ℕ) (more : List (List ℕ))
    → parts ≡ first ∷ more
    → without_empty_last (part ∷ parts) ≡ part ∷ without_empty_last parts
without_empty_last-cons [] parts first more e = rw e refl
without_empty_last-cons (b ∷ bs) parts first more e = rw e refl

-- a line feed after bytes without one ends the first line
lines-newline : (front : List ℕ) (b : ℕ) (rest : List ℕ) → All (λ b. is_line_feed b ≡ false) front → is_line_feed b ≡ true
    → lines (front ++ b ∷ rest) ≡ strip_carriage_return front ∷ lines rest
lines-newline front b rest none is =
    let some = split-some rest in
    let split : slice_split is_line_feed (front ++ b ∷ rest) ≡ front ∷ slice_split is_line_feed rest = slice_split_at is_line_feed front b rest none is in
    ap (λ (parts : List (List ℕ)). map strip_carriage_return (without_empty_last parts)) split
    ∙ ap (map strip_carriage_return) (without_empty_last-cons front (slice_split is_line_feed rest) some.0 some.1 some.2)

-- no byte below place k is a line feed
none_below : (bytes : List ℕ) (k : ℕ) → k ≤ length bytes → ((j : ℕ) → 0 ≤ j → j < k → ¬ (is_line_feed (get_or bytes j 0) ≡ true))
    → All (λ b. is_line_feed b ≡ false) (take k bytes)
none_below bytes k le none =
    All-from_get_or (λ b. is_line_feed b ≡ false) (take k bytes) 0
    (λ i h. let low : i < k = omega (arith, length-take-le k bytes le) in
    rw (get_or-take k bytes i 0 low) (false_from_ne_true (is_line_feed (get_or bytes i 0)) (none i (omega arith) low)))

-- the first line feed, at place k, ends the first line
pub lines-found : (bytes : List ℕ) (k : ℕ) → k < length bytes → is_line_feed (get_or bytes k 0) ≡ true
    → ((j : ℕ) → 0 ≤ j → j < k → ¬ (is_line_feed (get_or bytes j 0) ≡ true))
    → lines bytes ≡ strip_carriage_return (take k bytes) ∷ lines (drop (k + 1) bytes)
lines-found bytes k lt is none =
    let whole : bytes ≡ take k bytes ++ get_or bytes k 0 ∷ drop (k + 1) bytes =
    sym (take-append-drop k bytes) ∙ ap (λ rest. take k bytes ++ rest) (drop_more bytes k 0 lt) in
    ap lines whole
    ∙ lines-newline (take k bytes) (get_or bytes k 0) (drop (k + 1) bytes) (none_below bytes k (omega arith) none) is

-- bytes without a line feed are one line
pub lines-last : (bytes : List ℕ) → 0 < length bytes → ((j : ℕ) → 0 ≤ j → j < length bytes → ¬ (is_line_feed (get_or bytes j 0) ≡ true))
    → lines bytes ≡ strip_carriage_return bytes ∷ []
lines-last [] some none = absurd (omega arith)
lines-last (b ∷ bs) some none =
    ap (λ (parts : List (List ℕ)). map strip_carriage_return (without_empty_last parts))
    (slice_split_none is_line_feed (b ∷ bs)
    (All-from_get_or (λ b. is_line_feed b ≡ false) (b ∷ bs) 0 (λ i h. false_from_ne_true (is_line_feed (get_or (b ∷ bs) i 0)) (none i (omega arith) h))))

-- ---- the first line, and its first byte

-- a part that has a byte is kept
kept_part : (b : ℕ) (first : List ℕ) (more : List (List ℕ)) → (rest : List (List ℕ))
    × (without_empty_last ((b ∷ first) ∷ more) ≡ (b ∷ first) ∷ rest)
kept_part b first [] = ([], refl)
kept_part b first (next ∷ more) = (without_empty_last (next ∷ more), refl)

-- the first line of some bytes, before it loses its carriage return: it is empty, or begins as the bytes do
pub record FirstLine (b : ℕ) (bs : List ℕ) : Type 0 where
  pub part : List ℕ
  pub more : List (List ℕ)
  pub lines : lines (b ∷ bs) ≡ strip_carriage_return part ∷ more
  pub begins : ((part ≡ []) × (is_line_feed b ≡ true)) ⊎ ((tail : List ℕ) × (part ≡ b ∷ tail))

pub first_line : (b : ℕ) (bs : List ℕ) → FirstLine b bs
first_line b bs =
    let parts = slice_split is_line_feed bs in
    let some = split-some bs in
    let found = elim (is_line_feed b) as (λ t. (part : List ℕ) × (more : List (List ℕ))
    × (map strip_carriage_return (without_empty_last (cond t ([] ∷ parts) (onto_first b parts)))
    ≡ strip_carriage_return part ∷ more)
    × (((part ≡ []) × (t ≡ true)) ⊎ ((tail : List ℕ) × (part ≡ b ∷ tail)))) [
      | true ↦ (
        [],
        map strip_carriage_return (without_empty_last parts),
        ap (map strip_carriage_return) (without_empty_last-cons [] parts some.0 some.1 some.2),
        inl (refl, refl),
      )
      | false ↦ (
        b ∷ some.0,
        map strip_carriage_return (kept_part b some.0 some.1).0,
        ap (λ (v : List (List ℕ)). map strip_carriage_return (without_empty_last (onto_first b v))) some.2
            ∙ ap (map strip_carriage_return) (kept_part b some.0 some.1).1,
        inr (some.0, refl),
      )
    ] in
    record { part = found.0; more = found.1; lines = found.2; begins = found.3 }

-- bytes that are some have a line
pub lines-some : (bytes : List ℕ) → lines bytes ≡ [] → bytes ≡ []
lines-some [] none = refl
lines-some (b ∷ bs) none =
    let line = first_line b bs in
    absurd (let no = ap (λ (v : List (List ℕ)). length v) (sym line.lines ∙ none) in omega (arith, no))

front_begins : (byte n b : ℕ) (bs : List ℕ) → 0 < n → begins_with byte (take n (b ∷ bs)) ≡ eqb b byte
front_begins byte zero b bs some = absurd (omega (arith, some))
front_begins byte (suc n) b bs some = refl

strip_begins : (byte b : ℕ) (tail : List ℕ) → 13 < byte
    → begins_with byte (strip_carriage_return (b ∷ tail)) ≡ eqb b byte
strip_begins byte b [] other =
    elim (eqb b 13) as (λ t. eqb b 13 ≡ t → begins_with byte (cond t [] (b ∷ [])) ≡ eqb b byte) [
      | true ↦ λ is. let e = eqb-true b 13 is in sym (ne_eqb b byte (λ same. omega (arith, e, same, other)))
      | false ↦ λ is. refl
    ] refl
strip_begins byte b (c ∷ cs) other =
    elim (eqb (slice_index (b ∷ c ∷ cs) (length (b ∷ c ∷ cs) - 1)) 13) as (λ t. begins_with byte
    (cond t (take (length (b ∷ c ∷ cs) - 1) (b ∷ c ∷ cs)) (b ∷ c ∷ cs)) ≡ eqb b byte) [
      | true ↦ front_begins byte (length (b ∷ c ∷ cs) - 1) b (c ∷ cs) (omega arith)
      | false ↦ refl
    ]

-- The first line begins with the byte if the bytes do. The byte is none that ends lines.
pub lines-begin : (byte : ℕ) (bytes : List ℕ) → 13 < byte
    → next_begins_with byte (lines bytes) ≡ begins_with byte bytes
lines-begin byte [] other = refl
lines-begin byte (b ∷ bs) other =
    let line = first_line b bs in
    ap (next_begins_with byte) line.lines
    ∙ ⊎_elim (λ empty. let e = eqb-true b line_feed empty.1 in
    ap (λ (v : List ℕ). begins_with byte (strip_carriage_return v)) empty.0
    ∙ sym (ne_eqb b byte (λ same. omega (arith, e, same, other))))
    (λ begun. ap (λ (v : List ℕ). begins_with byte (strip_carriage_return v)) begun.1
    ∙ strip_begins byte b begun.0 other) line.begins

-- ---- the first line is cut off

pub record IsCut (bytes line rest : List ℕ) : Type 0 where
  pub lines : lines bytes ≡ strip_carriage_return line ∷ lines rest
  pub shorter : length rest < length bytes
  pub behind : IsBehind bytes rest

pub cut_found : (bytes : List ℕ) (k : ℕ) → k < length bytes → is_line_feed (get_or bytes k 0) ≡ true
    → ((j : ℕ) → 0 ≤ j → j < k → ¬ (is_line_feed (get_or bytes j 0) ≡ true))
    → IsCut bytes (take k bytes) (take (length bytes - (k + 1)) (drop (k + 1) bytes))
cut_found bytes k lt is none =
    let long = length-drop (k + 1) bytes in
    let rest : take (length bytes - (k + 1)) (drop (k + 1) bytes) ≡ drop (k + 1) bytes =
    take_all _ _ (omega (arith, long)) in
    record {
      lines = lines-found bytes k lt is none ∙ ap (λ (v : List ℕ). strip_carriage_return (take k bytes) ∷ lines v) (sym rest);
      shorter = omega (arith, lt, long, ap length rest);
      behind = record {
        front = take (k + 1) bytes;
        split = sym (take-append-drop (k + 1) bytes) ∙ ap (λ v. take (k + 1) bytes ++ v) (sym rest);
      };
    }

pub cut_last : (bytes : List ℕ) → 0 < length bytes
    → ((j : ℕ) → 0 ≤ j → j < length bytes → ¬ (is_line_feed (get_or bytes j 0) ≡ true)) → IsCut bytes bytes []
cut_last bytes some none = record {
  lines = lines-last bytes some none;
  shorter = some;
  behind = record { front = bytes; split = sym (append-nil bytes) };
}

-- the bytes of the lines that are left begin with the byte, as the next line does
pub left-begins : (byte : ℕ) (bytes : List ℕ) {left : List Line} → 13 < byte → lines bytes ≡ left
    → begins_with byte bytes ≡ next_begins_with byte left
left-begins byte bytes other is = sym (lines-begin byte bytes other) ∙ ap (next_begins_with byte) is

pub next_begins-ends : (byte : ℕ) (ls : List Line) → next_begins_with byte ls ≡ true → ends_or_begins_with byte ls ≡ true
next_begins-ends byte [] e = refl
next_begins-ends byte (line ∷ ls) e = e
