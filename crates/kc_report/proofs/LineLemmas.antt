-- The first line of some bytes, of which a prefix was searched before.
use Rattle.std.proofs.Common.{◌≡◌, ℕ, zero, suc, ◌+◌, ◌<◌, ◌≤◌, true, false, Bool, eqb, ◌-◌, List, [], ◌∷◌, ◌++◌}
use Rattle.std.proofs.Common.{inl, inr, length, get_or, take, drop, refl, sym, subst, ◌∙◌, ap, arith, append_assoc, append-nil, eq-eqb}
use Rattle.std.specs.Prelude.{IsTrue, Ok}
use Rattle.std.proofs.Math.Seq.{take-add}
use Rattle.std.proofs.lemmas.Bool.{eqb-true}
use Rattle.std.proofs.lemmas.List.{take_more, take-append-drop, take-append-le, length-append, length-drop, take_all}
use Rattle.kc_lemmas.proofs.Lists.{drop-append}
use Rattle.kc_io.specs.Sources.{Seen}
use Rattle.kc_gzip.specs.Intakes.{Ended, Filled, Fills, Unread}
use Rattle.kc_gzip.proofs.IntakesLemmas.{filled_both}
use Rattle.kc_report.specs.Bytes.{line_feed}
use Rattle.kc_report.specs.Lines.{Without, IsLine, EndsWithBlock, CameForLine}
use Rattle.kc_report.specs.Table.{ended}
use Rattle.kc_report.specs.TableReading.{HasLine}
use Rattle.kc_report.proofs.TableLines.{Without-append}

-- there is no line feed below the index
abbrev pub NoneBelow : List ℕ → ℕ → Type 0
NoneBelow bytes k = (j : ℕ) → 0 ≤ j → j < k → ¬ (eqb (get_or bytes j 0) line_feed ≡ true)

without_take : (bytes : List ℕ) (k : ℕ) → NoneBelow bytes k → Without line_feed (take k bytes)
without_take bytes zero none = tt
without_take [] (suc k) none = tt
without_take (b ∷ bytes) (suc k) none = (
  λ e. none 0 (omega arith) (omega arith) (eq-eqb b line_feed e),
  without_take bytes k
      (λ j low h. none (suc j) (omega arith) (omega (arith, h))),
)

-- the first line feed, at index k, ends the first line
line_at : (bytes : List ℕ) (k : ℕ) → k < length bytes → eqb (get_or bytes k 0) line_feed ≡ true → NoneBelow bytes k
    → IsLine (take (k + 1) bytes)
line_at bytes k below is none = record {
  bytes = take k bytes;
  whole = take_more bytes k 0 below ∙ ap (λ b. take k bytes ++ b ∷ []) (eqb-true (get_or bytes k 0) line_feed is);
  one = without_take bytes k none;
}

-- the first line feed after a prefix without one
pub line_found : (bytes : List ℕ) (searched k : ℕ) → Without line_feed (take searched bytes)
    → k < length (drop searched bytes) → eqb (get_or (drop searched bytes) k 0) line_feed ≡ true
    → NoneBelow (drop searched bytes) k → IsLine (take (searched + k + 1) bytes)
line_found bytes searched k front below is none =
    let line = line_at (drop searched bytes) k below is none in
    let count : searched + k + 1 ≡ searched + (k + 1) = omega arith in
    record {
      bytes = take searched bytes ++ line.bytes;
      whole = ap (λ m. take m bytes) count ∙ take-add searched (k + 1) bytes
          ∙ ap (λ v. take searched bytes ++ v) line.whole
          ∙ sym (append_assoc (take searched bytes) line.bytes (line_feed ∷ []));
      one = Without-append line_feed (take searched bytes) line.bytes front line.one;
    }

-- no line feed follows such a prefix
pub none_found : (bytes : List ℕ) (searched : ℕ) → Without line_feed (take searched bytes)
    → NoneBelow (drop searched bytes) (length (drop searched bytes)) → Without line_feed bytes
none_found bytes searched front none =
    let rest = drop searched bytes in
    let later : Without line_feed rest = subst (λ v. Without line_feed v) (take_all (length rest) rest (omega arith))
    (without_take rest (length rest) none) in
    subst (λ v. Without line_feed v) (take-append-drop searched bytes)
    (Without-append line_feed (take searched bytes) rest front later)

no_stop : (line rest : List ℕ) → ¬ Without line_feed (ended line ++ rest)
no_stop [] rest p = p.0 refl
no_stop (c ∷ line) rest p = no_stop line rest p.1

pub no_line : (bytes : List ℕ) → Without line_feed bytes → ¬ HasLine bytes
no_line bytes none has = no_stop has.0 has.1.0 (subst (λ v. Without line_feed v) has.1.1 none)

-- what was searched stays so when more follows it
filled_searched_front : {old new : Seen} {before after : Unread} → Filled old new before after
    → Without line_feed before.bytes → Without line_feed (take (length before.bytes) after.bytes)
filled_searched_front {old} {new} {before} {after} f none =
    let front : take (length before.bytes) after.bytes ≡ before.bytes =
    ap (take (length before.bytes)) f.behind ∙ take-append-le (length before.bytes) before.bytes f.more (omega arith)
    ∙ take_all (length before.bytes) before.bytes (omega arith) in
    subst (λ v. Without line_feed v) (sym front) none

-- more came, after unread bytes without a line
pub filled_searched : {old mid new : Seen} {first before after : Unread} (came : Bool) → Filled old mid first before
    → Without line_feed before.bytes → came ≡ true → Fills mid new before after (Ok came)
    → Filled old new first after × (length before.bytes ≤ length after.bytes)
    × Without line_feed (take (length before.bytes) after.bytes)
filled_searched {before = before} true so_far none is fills =
    let long = ap length fills.0.behind in (
      filled_both so_far fills.0,
      omega (arith, long, length-append before.bytes fills.0.more),
      filled_searched_front fills.0 none,
    )
filled_searched false so_far none is fills = absurd (let wrong : false ≡ true = is in cc)

-- nothing more came
pub ended_searched : {old mid new : Seen} {first before : Unread} (after : Unread) (came : Bool)
    → Filled old mid first before → Without line_feed before.bytes → came ≡ false
    → Fills mid new before after (Ok came) → Filled old new first after × Ended after × (¬ HasLine after.bytes)
ended_searched after true so_far none is fills = absurd (let wrong : true ≡ false = is in cc)
ended_searched {before = before} after false so_far none is fills =
    let same : after.bytes ≡ before.bytes = fills.0.behind ∙ ap (λ v. before.bytes ++ v) fills.1
    ∙ append-nil before.bytes in (
      filled_both so_far fills.0,
      fills.2,
      subst (λ v. ¬ HasLine v) (sym same) (no_line _ none),
    )

-- Whether the first `count` bytes are all, and nothing more came. If there are others, they aren't.
pub others_left : (bytes more : List ℕ) (count long : ℕ) (is : Bool) → long ≡ length bytes → (long - count ≡ 0 → ⊥)
    → is ≡ eqb (long - count) 0
    → (IsTrue is → drop count bytes ++ more ≡ []) × (drop count bytes ++ more ≡ [] → IsTrue is)
others_left bytes more count long is whole others told = (
  λ yes. absurd (others (eqb-true (long - count) 0 (sym told ∙ yes))),
  λ none. let rest = ap length none in let parts = length-append (drop count bytes) more in let dropped =
      length-drop count bytes in absurd (others (omega (arith, rest, parts, dropped, whole))),
)

-- The first `count` bytes are all, and so many more came.
pub none_left : (bytes more : List ℕ) (count long many : ℕ) → long ≡ length bytes → long - count ≡ 0
    → length more ≡ many
    → (IsTrue (eqb many 0) → drop count bytes ++ more ≡ []) × (drop count bytes ++ more ≡ [] → IsTrue (eqb many 0))
none_left bytes more count long many whole none counted =
    let parts = length-append (drop count bytes) more in
    let dropped = length-drop count bytes in (
      λ is. empty (drop count bytes ++ more)
          (let no_more = eqb-true many 0 is in omega (arith, no_more, parts, dropped, whole, none, counted)),
      λ e. eq-eqb many 0 (let nothing = ap length e in omega (arith, nothing, parts, dropped, whole, none, counted)),
    )
  where
    empty : (bytes : List ℕ) → length bytes ≡ 0 → bytes ≡ []
    empty [] e = refl
    empty (b ∷ bytes) e = absurd (omega (arith, e))

-- ---- how many bytes were taken for a line

-- no line was there before
pub none_before : {old now : Seen} (before after : Unread) → CameForLine old now before after → ¬ HasLine after.bytes
    → ¬ HasLine before.bytes
none_before before after (inl same) none = subst (λ (u : Unread). ¬ HasLine u.bytes) same.1 none
none_before before after (inr came) none = came.0

-- one more block came, after bytes without a line
pub came_more : {old mid new : Seen} {first before after : Unread} (came : Bool) → CameForLine old mid first before
    → Without line_feed before.bytes → came ≡ true → Fills mid new before after (Ok came)
    → length after.bytes ≤ length before.bytes + 65536 → CameForLine old new first after
came_more {first = first} {before = before} {after = after} true so_far none is fills most =
    let long = ap length fills.0.behind in
    let parts = length-append before.bytes fills.0.more in
    inr (
      none_before first before so_far (no_line before.bytes none),
      record {
        front = before.bytes;
        block = fills.0.more;
        split = fills.0.behind;
        no_line = no_line before.bytes none;
        few = omega (arith, long, parts, most);
      },
    )
came_more false so_far none is fills most = absurd (let wrong : false ≡ true = is in cc)

line_of_drop : (bytes : List ℕ) (n : ℕ) → HasLine (drop n bytes) → HasLine bytes
line_of_drop bytes zero has = has
line_of_drop [] (suc n) has = has
line_of_drop (b ∷ bytes) (suc n) has =
    let more = line_of_drop bytes n has in
    (b ∷ more.0, (more.1.0, ap (λ (l : List ℕ). b ∷ l) more.1.1))

no_line_of_none : ¬ HasLine []
no_line_of_none has = no_line [] tt has

-- bytes without a line, or no more than a block, stay so if their front is used
pub ends_used : (n : ℕ) (bytes : List ℕ) → EndsWithBlock bytes → EndsWithBlock (drop n bytes)
ends_used n bytes e = record {
  front = drop n e.front;
  block = drop (n - length e.front) e.block;
  split = ap (drop n) e.split ∙ drop-append n e.front e.block;
  no_line = λ has. e.no_line (line_of_drop e.front n has);
  few = let few = e.few in omega (arith, few, length-drop (n - length e.front) e.block);
}

-- no bytes
pub ends_empty : (bytes : List ℕ) → bytes ≡ [] → EndsWithBlock bytes
ends_empty bytes none = record {
  front = [];
  block = [];
  split = none;
  no_line = no_line_of_none;
  few = omega arith;
}

-- what is there once a line was searched
pub ends_found : {old new : Seen} (before after : Unread) → CameForLine old new before after
    → EndsWithBlock before.bytes → EndsWithBlock after.bytes
ends_found before after (inl same) ends = subst (λ (u : Unread). EndsWithBlock u.bytes) (sym same.1) ends
ends_found before after (inr came) ends = came.1

-- nothing was taken if a line was there
pub none_taken : {old new : Seen} (before after : Unread) → CameForLine old new before after → HasLine before.bytes
    → new ≡ old
none_taken before after (inl same) has = same.0
none_taken before after (inr came) has = absurd (came.0 has)
