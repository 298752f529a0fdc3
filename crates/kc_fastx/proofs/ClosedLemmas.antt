-- The lines of bytes that end with a line feed, and of other bytes after them.
use Rattle.std.proofs.Common.{◌≡◌, ℕ, ◌+◌, ◌<◌, Bool, true, false, List, [], ◌∷◌, ◌++◌, length, get_or, take, drop}
use Rattle.std.proofs.Common.{map, refl, sym, ap, ◌∙◌, subst, cond, append-nil}
use Rattle.std.specs.List.{slice_split, onto_first}
use Rattle.std.specs.Str.Lines.{strip_carriage_return}
use Rattle.std.proofs.lemmas.List.{map-append, take_more, take-append-drop}
use Rattle.kc_fastx.specs.Lines.{lines, without_empty_last, ends_lines, HasWhole}
use Rattle.kc_fastx.proofs.ParsingLemmas.{at_false}
use Rattle.kc_fastx.proofs.LinesLemmas.{is_line_feed, split-some, without_empty_last-cons}

-- ---- ends with a line feed

pub ends_lines-tail : (b : ℕ) (bs : List ℕ) → ends_lines (b ∷ bs) ≡ true → ends_lines bs ≡ true
ends_lines-tail b [] h = refl
ends_lines-tail b (c ∷ bs) h = h

pub ends_lines-behind : (front rest : List ℕ) → ends_lines (front ++ rest) ≡ true → ends_lines rest ≡ true
ends_lines-behind [] rest h = h
ends_lines-behind (b ∷ front) rest h = ends_lines-behind front rest (ends_lines-tail b (front ++ rest) h)

pub ends_lines-push : (front : List ℕ) (b : ℕ) → is_line_feed b ≡ true → ends_lines (front ++ b ∷ []) ≡ true
ends_lines-push [] b is = is
ends_lines-push (a ∷ []) b is = is
ends_lines-push (a ∷ c ∷ front) b is = ends_lines-push (c ∷ front) b is

-- ---- the parts of bytes that end with a line feed

-- there is at least one, maybe empty; the parts of what follows take the place of this one
pub record Closes (bytes rest : List ℕ) : Type 0 where
  pub first : List ℕ
  pub more : List (List ℕ)
  pub alone : slice_split is_line_feed bytes ≡ (first ∷ more) ++ [] ∷ []
  pub both : slice_split is_line_feed (bytes ++ rest) ≡ (first ∷ more) ++ slice_split is_line_feed rest

closes-one : (b : ℕ) (rest : List ℕ) → is_line_feed b ≡ true → Closes (b ∷ []) rest
closes-one b rest is = record { first = []; more = []; alone = rw is refl; both = rw is refl }

closes-more : (b : ℕ) (bytes rest : List ℕ) → Closes bytes rest → Closes (b ∷ bytes) rest
closes-more b bytes rest c =
    let found = elim (is_line_feed b) as (λ t. (first : List ℕ) × (more : List (List ℕ))
    × (cond t ([] ∷ slice_split is_line_feed bytes) (onto_first b (slice_split is_line_feed bytes)) ≡
    (first ∷ more) ++ [] ∷ [])
    × (cond t ([] ∷ slice_split is_line_feed (bytes ++ rest)) (onto_first b (slice_split is_line_feed
    (bytes ++ rest))) ≡ (first ∷ more) ++ slice_split is_line_feed rest)) [
      | true ↦ (
        [],
        c.first ∷ c.more,
        ap (λ (v : List (List ℕ)). [] ∷ v) c.alone,
        ap (λ (v : List
            (List ℕ)). [] ∷ v) c.both,
      )
      | false ↦ (b ∷ c.first, c.more, ap (onto_first b) c.alone, ap (onto_first b) c.both)
    ] in
    record { first = found.0; more = found.1; alone = found.2; both = found.3 }

pub closes : (b : ℕ) (bs rest : List ℕ) → ends_lines (b ∷ bs) ≡ true → Closes (b ∷ bs) rest
closes b [] rest h = closes-one b rest h
closes b (c ∷ bs) rest h = closes-more b (c ∷ bs) rest (closes c bs rest h)

-- ---- their lines

append-some : (parts : List (List ℕ)) (p : List ℕ) (ps : List (List ℕ))
    → (first : List ℕ) × (more : List (List ℕ)) × (parts ++ p ∷ ps ≡ first ∷ more)
append-some [] p ps = (p, ps, refl)
append-some (part ∷ parts) p ps = (part, parts ++ p ∷ ps, refl)

without_empty_last-append : (parts : List (List ℕ)) (p : List ℕ) (ps : List (List ℕ))
    → without_empty_last (parts ++ p ∷ ps) ≡ parts ++ without_empty_last (p ∷ ps)
without_empty_last-append [] p ps = refl
without_empty_last-append (part ∷ parts) p ps =
    let some = append-some parts p ps in
    without_empty_last-cons part (parts ++ p ∷ ps) some.0 some.1 some.2
    ∙ ap (λ v. part ∷ v) (without_empty_last-append parts p ps)

lines-closes : (bytes rest : List ℕ) → Closes bytes rest → lines (bytes ++ rest) ≡ lines bytes ++ lines rest
lines-closes bytes rest c =
    let parts = c.first ∷ c.more in
    let some = split-some rest in
    let stripped = λ (v : List (List ℕ)). map strip_carriage_return (without_empty_last v) in
    let alone : lines bytes ≡ map strip_carriage_return parts =
    ap stripped c.alone ∙ ap (map strip_carriage_return) (without_empty_last-append parts [] [] ∙ append-nil parts) in
    let both : lines (bytes ++ rest) ≡ map strip_carriage_return (parts ++ without_empty_last
    (slice_split is_line_feed rest)) =
    ap stripped c.both
    ∙ ap (λ (v : List (List ℕ)). map strip_carriage_return (without_empty_last (parts ++ v))) some.2
    ∙ ap (map strip_carriage_return) (without_empty_last-append parts some.0 some.1)
    ∙ ap (λ (v : List (List ℕ)). map strip_carriage_return (parts ++ without_empty_last v)) (sym some.2) in
    both ∙ map-append strip_carriage_return parts (without_empty_last (slice_split is_line_feed rest))
    ∙ ap (λ v. v ++ lines rest) (sym alone)

-- what follows a line feed, or at the front, begins a line
pub lines-closed : (front rest : List ℕ) → ends_lines front ≡ true → lines (front ++ rest) ≡ lines front ++ lines rest
lines-closed [] rest h = refl
lines-closed (b ∷ bs) rest h = lines-closes (b ∷ bs) rest (closes b bs rest h)

-- bytes up to a line feed are whole lines
pub whole_found : (ended : Bool) (bytes : List ℕ) (k : ℕ) → ended ≡ false → k < length bytes
    → is_line_feed (get_or bytes k 0) ≡ true
    → HasWhole ended bytes (take (k + 1) bytes)
whole_found ended bytes k e lt is =
    let closed : ends_lines (take (k + 1) bytes) ≡ true =
    ap ends_lines (take_more bytes k 0 lt) ∙ ends_lines-push (take k bytes) (get_or bytes k 0) is in
    record {
      tail = drop (k + 1) bytes;
      split = sym (take-append-drop
          (k + 1) bytes);
      closed = at_false ended _ _ e closed;
    }

-- What follows: the lines of the bytes that are not whole, and of those that come after them, if nothing comes after
-- the end. They are the same after each rest of the whole lines.
pub lines_behind : (ended : Bool) {bytes whole : List ℕ} (h : HasWhole ended bytes whole)
    (front rest more : List ℕ) → whole ≡ front ++ rest
    → (ended ≡ true → more ≡ []) → lines (rest ++ (h.tail ++ more)) ≡ lines rest ++ lines (h.tail ++ more)
lines_behind true h front rest more e none =
    let nothing : h.tail ++ more ≡ [] = ap (λ v. v ++ more) h.closed ∙ none refl in
    ap (λ v. lines (rest ++ v)) nothing ∙ ap lines (append-nil rest) ∙ sym (append-nil (lines rest))
    ∙ ap (λ v. lines rest ++ lines v) (sym nothing)
lines_behind false h front rest more e none =
    lines-closed rest (h.tail ++ more) (ends_lines-behind front rest (subst (λ v. ends_lines v ≡ true) e h.closed))

-- no line follows the end
pub none_behind : (ended : Bool) (bytes whole : List ℕ) (h : HasWhole ended bytes whole) (more : List ℕ) → ended ≡ true
    → (ended ≡ true → more ≡ []) → lines (h.tail ++ more) ≡ []
none_behind true bytes whole h more e none = ap lines (ap (λ v. v ++ more) h.closed ∙ none refl)
none_behind false bytes whole h more e none = absurd (let no : false ≡ true = e in cc)
