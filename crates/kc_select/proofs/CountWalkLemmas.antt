-- The counts along a read, and the words that are rolled along it.
use Rattle.std.proofs.Common.{◌≡◌, ℕ, ◌+◌, ◌-◌, ◌<◌, ◌≤◌, List, [], ◌∷◌, ◌++◌, length, get_or, take, drop, map, refl, ap, sym, ◌∙◌, arith}
use Rattle.std.proofs.Common.{Option, None, Some, IfSome, IfNone, option_to_list}
use Rattle.std.proofs.lemmas.List.{append_cancel_right, drop-take, drop_more, drop_all, length-take-le}
use Rattle.std.proofs.lemmas.List.FromFn.{get_or-map-range_with_len, length-map-range_with_len}
use Rattle.std.specs.List.{range_with_len}
use Rattle.std.specs.Option.{option_map}
use Rattle.kc_fastx.specs.Reads.{Read, read_of}
use Rattle.kc_kmer.specs.Word.{number}
use Rattle.kc_kmer.specs.Rule.{CountingRule}
use Rattle.kc_kmer.specs.Occurrences.{counted_at, position_count}
use Rattle.kc_tally.specs.Tally.{TallySeen, count_of}
use Rattle.kc_word.specs.Cutting.{cleaned}
use Rattle.kc_word.specs.Walking.{Walking, IsTaken}
use Rattle.kc_word.specs.declared.rolled.Rolled.{Rolled}
use Rattle.kc_word.proofs.Cleaning.{counted_at-cleaned}
use Rattle.kc_word.proofs.Windows.{counted_word, counted_form, counted_at-window, last_window-whole}
use Rattle.kc_word.proofs.WalkLemmas.{words_left-step}
use Rattle.kc_select.specs.Profiles.{count_at, counts_along, runs_from}
use Rattle.kc_select.specs.RunWalks.{RunWalking, runs_with, runs_behind}
use Rattle.kc_select.specs.declared.run_walk.CountRun.{CountRun}
use Rattle.kc_select.specs.CountWalks.{CountWalking, counts_left, runs_left}

-- ---- the word that ends in the next base

same-option : (a b : Option ℕ) → option_to_list a ≡ option_to_list b → a ≡ b
same-option None None e = refl
same-option None (Some b) e = let long = ap length e in absurd (omega (arith, long))
same-option (Some a) None e = let long = ap length e in absurd (omega (arith, long))
same-option (Some a) (Some b) e = ap (λ xs. Some (get_or xs 0 0)) e

counted_word-form : (rule : CountingRule) (window : List ℕ)
    → counted_word rule window ≡ option_map number (counted_form rule window)
unfolding counted_word
counted_word-form rule window = refl

-- it is that of the position where it begins
pub taken-word : (walking : Walking) (read : Read) (now : Rolled) (word : Option ℕ)
    → walking.bytes ≡ cleaned walking.rule read → walking.taken < length walking.bytes
    → walking.rule.k ≤ walking.taken + 1 → IsTaken walking now word
    → word ≡ option_map number (counted_at walking.rule read (walking.taken + 1 - walking.rule.k))
taken-word walking read now word bytes left whole taken =
    let rule : CountingRule = walking.rule in
    let p : ℕ = walking.taken + 1 - walking.rule.k in
    let next : List ℕ = take (walking.taken + 1) walking.bytes in
    let long = length-take-le (walking.taken + 1) walking.bytes (omega (arith, left)) in
    same-option word _ (append_cancel_right _ _ _
    (sym taken.words ∙ words_left-step walking.rule walking.bytes walking.taken left))
    ∙ ap (counted_word walking.rule) (last_window-whole walking.rule.k next (omega (arith, long, whole))
    ∙ ap (λ n. drop n next) (let here : length next - walking.rule.k ≡ p = omega (arith, long) in here)
    ∙ ap (λ n. drop p (take n walking.bytes)) (let there : walking.taken + 1 ≡ p + walking.rule.k = omega (arith, whole) in there)
    ∙ drop-take p walking.rule.k walking.bytes)
    ∙ counted_word-form walking.rule _
    ∙ ap (option_map number) (sym (counted_at-window walking.rule walking.bytes p (omega (arith, left, whole)))
    ∙ ap (λ bs. counted_at walking.rule (read_of bs None) p) bytes
    ∙ counted_at-cleaned walking.rule read p)

-- ---- its count

option_map-twice : {A B C : Type 0} (f : B → C) (g : A → B) (o : Option A)
    → option_map f (option_map g o) ≡ option_map (λ x. f (g x)) o
option_map-twice f g None = refl
option_map-twice f g (Some x) = refl

pub counted : (tally : TallySeen) (rule : CountingRule) (read : Read) (p : ℕ) (word : Option ℕ)
    → word ≡ option_map number (counted_at rule read p)
    → option_map (λ w. count_of tally.rows w) word ≡ count_at tally rule read p
counted tally rule read p word is =
    ap (option_map (λ w. count_of tally.rows w)) is
    ∙ option_map-twice (λ w. count_of tally.rows w) number (counted_at rule read p)

-- ---- the counts that are left

abbrev pub with_next : CountWalking → CountWalking
with_next walking = record {
  tally = walking.tally;
  rule = walking.rule;
  read = walking.read;
  taken = walking.taken + 1;
  runs = walking.runs;
}

pub counts-step : (walking : CountWalking) → walking.taken < length walking.read.bases
    → walking.rule.k ≤ walking.taken + 1 → counts_left walking
    ≡ count_at walking.tally walking.rule walking.read (walking.taken + 1 - walking.rule.k)
    ∷ counts_left (with_next walking)
unfolding counts_left counts_along
counts-step walking left whole =
    let p : ℕ = walking.taken + 1 - walking.rule.k in
    let n : ℕ = position_count walking.rule.k (length walking.read.bases) in
    let f : ℕ → Option ℕ = λ q. count_at walking.tally walking.rule walking.read q in
    let below : p < n = omega (arith, left, whole) in
    drop_more (map f (range_with_len 0 n)) p None
    (let long = length-map-range_with_len f 0 n in omega (arith, below, long))
    ∙ ap (λ c. c ∷ drop (p + 1) (map f (range_with_len 0 n))) (get_or-map-range_with_len f 0 n p p None below (omega arith))
    ∙ ap (λ m. f p ∷ drop m (map f (range_with_len 0 n)))
    (let next : p + 1 ≡ position_count walking.rule.k (walking.taken + 1) = omega (arith, whole) in next)

pub counts-early : (walking : CountWalking) → walking.taken + 1 < walking.rule.k
    → counts_left walking ≡ counts_left (with_next walking)
unfolding counts_left
counts-early walking early =
    ap (λ m. drop m (counts_along walking.tally walking.rule walking.read))
    (let same : position_count walking.rule.k walking.taken ≡ position_count walking.rule.k (walking.taken + 1)
    = omega (arith, early) in same)

-- when all bases were taken, none
pub counts-end : (walking : CountWalking) → length walking.read.bases ≤ walking.taken → counts_left walking ≡ []
unfolding counts_left counts_along
counts-end walking done =
    drop_all (position_count walking.rule.k walking.taken) _
    (let long = length-map-range_with_len (λ q. count_at walking.tally walking.rule walking.read q) 0 (position_count walking.rule.k (length walking.read.bases)) in omega (arith, done, long))

-- ---- the runs that are left

pub runs-start : (walking : CountWalking) → 1 ≤ walking.rule.k → walking.taken ≡ 0
    → ((counts : List (Option ℕ)) → runs_behind walking.runs counts ≡ runs_from 0 counts)
    → runs_left walking ≡ runs_from 0 (counts_along walking.tally walking.rule walking.read)
unfolding runs_left counts_left
runs-start walking some front first =
    first _
    ∙ ap (λ m. runs_from 0 (drop m (counts_along walking.tally walking.rule walking.read)))
    (let none : position_count walking.rule.k walking.taken ≡ 0 = omega (arith, some, front) in none)

pub runs-early : (walking : CountWalking) → walking.taken + 1 < walking.rule.k
    → runs_left walking ≡ runs_left (with_next walking)
unfolding runs_left
runs-early walking early = ap (λ counts. runs_behind walking.runs counts) (counts-early walking early)

-- one more count
pub runs-step : (walking : CountWalking) (count : Option ℕ) (ended : List CountRun) (runs : RunWalking)
    → walking.taken < length walking.read.bases → walking.rule.k ≤ walking.taken + 1
    → count ≡ count_at walking.tally walking.rule walking.read (walking.taken + 1 - walking.rule.k)
    → ((counts : List (Option ℕ)) → runs_behind walking.runs (count ∷ counts) ≡ ended ++ runs_behind runs counts)
    → runs_left walking ≡ ended ++ runs_left (record {
      tally = walking.tally;
      rule = walking.rule;
      read = walking.read;
      taken = walking.taken + 1;
      runs = runs;
    })
unfolding runs_left counts_left
runs-step walking count ended runs left whole is taken =
    ap (λ counts. runs_behind walking.runs counts) (counts-step walking left whole)
    ∙ ap (λ c. runs_behind walking.runs (c ∷ counts_left (with_next walking))) (sym is)
    ∙ taken (counts_left (with_next walking))

pub runs-end : (walking : CountWalking) → length walking.read.bases ≤ walking.taken
    → runs_left walking ≡ runs_behind walking.runs []
unfolding runs_left
runs-end walking done = ap (λ counts. runs_behind walking.runs counts) (counts-end walking done)

-- if no run is open, none is left
pub runs-none : (runs : RunWalking) → runs.last ≡ None → runs_behind runs [] ≡ []
unfolding runs_with runs_from
runs-none runs none = ap (λ last. runs_with last runs.at []) none

-- the last run, if there is one, comes before none
pub last-some : (run : Option CountRun) (before behind : List CountRun) → before ≡ option_to_list run → behind ≡ []
    → IfSome run (λ r. before ≡ r ∷ behind)
last-some None before behind is none = tt
last-some (Some run) before behind is none = is ∙ ap (λ rest. run ∷ rest) (sym none)

pub last-none : (run : Option CountRun) (before behind : List CountRun) → before ≡ option_to_list run → behind ≡ []
    → IfNone run ((before ≡ []) × (behind ≡ []))
last-none None before behind is none = (is, none)
last-none (Some run) before behind is none = tt
