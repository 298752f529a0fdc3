-- The counts of asked words.
use Rattle.std.proofs.Common.{◌≡◌, ℕ, suc, ◌+◌, ◌^◌, ◌<◌, ◌≤◌, Bool, true, false, List, [], ◌∷◌}
use Rattle.std.proofs.Common.{◌++◌, map, length, get_or, drop, take, refl, sym, ◌∙◌, ap, subst, arith, append_assoc}
use Rattle.std.proofs.Common.{drop-cons, add-one}
use Rattle.std.specs.Prelude.{decimal}
use Rattle.std.proofs.lemmas.List.{length-map, get_or-map, drop_all, take_all, take_more, take-append-drop}
use Rattle.std.proofs.lemmas.List.{length-take-le}
use Rattle.std.proofs.lemmas.List.Elements.{All-push}
use Rattle.std.specs.List.{All}
use Rattle.kc_kmer.specs.Word.{text, canonical, form, number}
use Rattle.kc_kmer.proofs.WordLemmas.{number-text}
use Rattle.kc_tally.specs.Tally.{TallySeen, count_of}
use Rattle.kc_report.specs.Bytes.{line_feed, space}
use Rattle.kc_report.specs.Dumping.{row_in_columns}
use Rattle.kc_io.specs.Sinks.{Written, Drains}
use Rattle.kc_io.proofs.SinksLemmas.{Pending, SinkCall, drained}
use Rattle.kc_report.specs.Querying.{in_upper_case, asked_form, query_line, query_text, IsAskable, IsFirstBadWord}

-- ---- lines

pub form_true : (word : List ℕ) → form true word ≡ canonical word
unfolding form
form_true word = refl

-- what the code has of an asked word
pub record Counted (tally : TallySeen) (asked : List ℕ) (k packed word count : ℕ) (both : Bool) : Type 0 where
  pub length_is : k ≡ tally.k
  pub both_is : both ≡ tally.both
  pub below : word < 4 ^ k
  pub spelled : text k packed ≡ in_upper_case asked
  pub formed : text k word ≡ form both (text k packed)
  pub count_is : count ≡ count_of tally.rows word

pub answer_line : (tally : TallySeen) (asked : List ℕ) (k packed word count : ℕ) (both : Bool)
    → Counted tally asked k packed word count both
    → row_in_columns k false (record { word = word; count = count }) ≡ query_line tally asked
answer_line tally asked k packed word count both c =
    let letters : text k word ≡ asked_form tally asked = c.formed ∙ ap (form both) c.spelled
    ∙ ap (λ b. form b (in_upper_case asked)) c.both_is in
    let same : word ≡ number (asked_form tally asked) = sym (number-text k word c.below) ∙ ap number letters in
    let counts : count ≡ count_of tally.rows (number (asked_form tally asked)) = c.count_is
    ∙ ap (count_of tally.rows) same in
    λ i. letters i ++ space ∷ decimal (counts i) ++ line_feed ∷ []

-- ---- the text

-- A step of a query: the lines of the words from the index on are left after the block, for which room was made.
pub record AnswerStep (tally : TallySeen) (words : List (List ℕ)) : Type 0 where
  pub start : Written
  pub now : Written
  pub next : Written
  pub text : List ℕ
  pub block : List ℕ
  pub room : List ℕ
  pub index : ℕ
  pub pending : Pending start now text (block ++ query_text tally (drop index words))
  pub moved : Drains now next block room

-- The line of the next word was appended to the block.
pub next_answer : {tally : TallySeen} {words : List (List ℕ)} (s : AnswerStep tally words) (after word : List ℕ)
    → s.index < length words → after ≡ s.room ++ query_line tally word → get_or words s.index [] ≡ word
    → Pending s.start s.next s.text (after ++ query_text tally (drop (s.index + 1) words))
next_answer {tally} {words} s after word below pushed is =
    let line = query_line tally word in
    let later = query_text tally (drop (suc s.index) words) in
    let cut : query_text tally (drop s.index words) ≡ line ++ later =
    ap (query_text tally) (drop-cons words s.index [] below) ∙ ap (λ w. query_line tally w ++ later) is in
    let joined : s.room ++ query_text tally (drop s.index words) ≡ after ++ later =
    ap (λ v. s.room ++ v) cut ∙ sym (append_assoc s.room line later) ∙ ap (λ v. v ++ later) (sym pushed) in
    let more = query_text tally (drop s.index words) in
    let call : SinkCall =
    record {
      start = s.start;
      now = s.now;
      next = s.next;
      text = s.text;
      rest = s.block ++ more;
      pending =
          s.pending;
    } in
    rw add-one (subst (λ v. Pending s.start s.next s.text v) joined (drained call s.block s.room more refl s.moved))

-- No word is left.
pub none_left : {start now : Written} {text : List ℕ} (tally : TallySeen) (words : List (List ℕ))
    (block : List ℕ) (index : ℕ)
    → length words ≤ index → Pending start now text (block ++ query_text tally (drop index words))
    → Pending start now text (block ++ [])
none_left {start} {now} {text} tally words block index over p =
    subst (λ v. Pending start now text (block ++ v)) (ap (query_text tally) (drop_all index words over)) p

-- ---- asked words

pub word_of : {X : Type 0} (f : X → List ℕ) (xs : List X) (i : ℕ) (x d : X) → i < length xs → get_or xs i d ≡ x
    → get_or (map f xs) i [] ≡ f x
word_of f xs i x d below is = get_or-map f xs i d [] below ∙ ap f is

pub below_map : {X : Type 0} (f : X → List ℕ) (xs : List X) (i : ℕ) → i < length xs → i < length (map f xs)
below_map f xs i below = let long = length-map xs f in omega (arith, below, long)

pub one_more_good : (k : ℕ) (words : List (List ℕ)) (i : ℕ) (word : List ℕ) → i < length words
    → get_or words i [] ≡ word → All (IsAskable k) (take i words) → IsAskable k word
    → All (IsAskable k) (take (i + 1) words)
one_more_good k words i word below is good this =
    subst (All (IsAskable k)) (sym (take_more words i [] below))
    (All-push (IsAskable k) (take i words) (get_or words i []) good (subst (IsAskable k) (sym is) this))

pub first_bad : (k : ℕ) (words : List (List ℕ)) (i : ℕ) (word : List ℕ) → i < length words → get_or words i [] ≡ word
    → All (IsAskable k) (take i words) → ¬ IsAskable k word → IsFirstBadWord k words (i + 1)
first_bad k words i word below is good bad = record {
  before = take i words;
  word = word;
  after = drop (suc i) words;
  split = sym (take-append-drop i words)
      ∙ ap (λ rest. take i words ++ rest) (drop-cons words i [] below ∙ ap (λ w. w ∷ drop (suc i) words) is);
  counted = let long = length-take-le i words (omega (arith, below)) in omega (arith, long);
  good = good;
  bad = bad;
}

pub all_good : (k : ℕ) (words : List (List ℕ)) (i : ℕ) → length words ≤ i → All (IsAskable k) (take i words)
    → All (IsAskable k) words
all_good k words i over good = subst (All (IsAskable k)) (take_all i words over) good
