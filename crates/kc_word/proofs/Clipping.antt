-- What of runs lies between two indices: the same indices, counted from the first, and ascending runs.
use Rattle.std.proofs.Common.{◌≡◌, ℕ, ◌+◌, ◌-◌, ◌<◌, ◌≤◌, ⊎_elim, false, ◌||◌, cond, ltb, List, [], ◌∷◌, ◌++◌, length}
use Rattle.std.proofs.Common.{get_or, take, drop, refl, ap, sym, ◌∙◌, subst, arith, min, max, lit<}
use Rattle.std.proofs.lemmas.Bool.{cases_lt, cond-true, cond-false, lt-ltb, le-ltb}
use Rattle.std.proofs.lemmas.List.{take_more, take_all, take-append-drop, drop_more, length-take-le, length-drop}
use Rattle.std.proofs.lemmas.List.{get_or-take, get_or-drop, ext_get_or, get_or_past, append-nil}
use Rattle.std.proofs.lemmas.List.Concat.{flat_map-cons, flat_map-append}
use Rattle.std.specs.List.{flat_map}
use Rattle.kc_word.specs.declared.runs.Run.{Run}
use Rattle.kc_word.specs.Runs.{run_end, is_in_run, is_in_runs, AreRuns, ArePassed, AreGrown}
use Rattle.kc_word.proofs.RunLemmas.{inside-run, before-run, behind-run, is_in_runs-cons, is_in_runs-none}
use Rattle.kc_word.proofs.RunLemmas.{AreRuns-lower, AreRuns-tail, AreRuns-front, IsRunAt, AreJoined, AreJoined-none, AreJoined-more, JoinStep, join-stands}
use Rattle.kc_kmer.specs.Letter.{base}
use Rattle.kc_word.specs.Cutting.{unusable}
use Rattle.kc_word.specs.PackedPiece.{bytes_of, IsPiece}
use Rattle.kc_word.proofs.PieceLemmas.{length-bytes_of, get_or-bytes_of}

-- what of a run lies from one index to before another, counted from the first: a run, or nothing
abbrev pub clip : ℕ → ℕ → Run → List Run
clip from to run =
    cond (ltb (max run.start from) (min (run_end run) to))
    (record { start = max run.start from - from; length = min (run_end run) to - max run.start from } ∷ []) []

-- the part of one run
clipped-run : ℕ → ℕ → Run → Run
clipped-run from to run = record { start = max run.start from - from; length = min (run_end run) to - max run.start from }

clip-some : (from to : ℕ) (run : Run) → max run.start from < min (run_end run) to
    → clip from to run ≡ clipped-run from to run ∷ []
unfolding clipped-run
clip-some from to run h = cond-true _ _ [] (lt-ltb (max run.start from) (min (run_end run) to) h)

clip-none : (from to : ℕ) (run : Run) → min (run_end run) to ≤ max run.start from → clip from to run ≡ []
clip-none from to run h = cond-false _ _ [] (le-ltb (max run.start from) (min (run_end run) to) h)

clipped-cons : (from to : ℕ) (run : Run) (runs : List Run)
    → flat_map (λ r. clip from to r) (run ∷ runs) ≡ clip from to run ++ flat_map (λ r. clip from to r) runs
clipped-cons from to run runs = flat_map-cons (λ r. clip from to r) run runs

clipped-here : (from to : ℕ) (run : Run) (runs : List Run) → max run.start from < min (run_end run) to
    → flat_map (λ r. clip from to r) (run ∷ runs) ≡ clipped-run from to run ∷ flat_map (λ r. clip from to r) runs
clipped-here from to run runs h =
    clipped-cons from to run runs ∙ ap (λ rs. rs ++ flat_map (λ r. clip from to r) runs) (clip-some from to run h)

clipped-gone : (from to : ℕ) (run : Run) (runs : List Run) → min (run_end run) to ≤ max run.start from
    → flat_map (λ r. clip from to r) (run ∷ runs) ≡ flat_map (λ r. clip from to r) runs
clipped-gone from to run runs h =
    clipped-cons from to run runs ∙ ap (λ rs. rs ++ flat_map (λ r. clip from to r) runs) (clip-none from to run h)

-- they rise
pub AreRuns-clipped : (low end from to : ℕ) (runs : List Run) → AreRuns low end runs
    → AreRuns (low - from) (to - from) (flat_map (λ run. clip from to run) runs)
unfolding clipped-run
AreRuns-clipped low end from to [] rising = tt
AreRuns-clipped low end from to (run ∷ runs) rising =
    let rest = AreRuns-clipped (run_end run + 1) end from to runs rising.3 in
    let start = rising.0 in
    ⊎_elim
    (λ h. subst (AreRuns (low - from) (to - from)) (sym (clipped-here from to run runs h)) (
      omega (arith, start),
      omega (arith, h),
      omega (arith, h),
      AreRuns-lower (run_end run + 1 - from) (to - from) (run_end (clipped-run from to run) + 1) (flat_map (λ r. clip from to r) runs) (omega (arith, h)) rest,
    ))
    (λ h. subst (AreRuns (low - from) (to - from)) (sym (clipped-gone from to run runs h))
    (AreRuns-lower (run_end run + 1 - from) (to - from) (low - from) (flat_map (λ r. clip from to r) runs) (omega (arith, start)) rest))
    (cases_lt (max run.start from) (min (run_end run) to))

-- and have the indices of the runs
in-clipped-run : (from to i : ℕ) (run : Run) → max run.start from < min (run_end run) to → i < to - from
    → is_in_run (clipped-run from to run) i ≡ is_in_run run (from + i)
unfolding clipped-run
in-clipped-run from to i run h within =
    ⊎_elim
    (λ l. before-run (clipped-run from to run) i (omega (arith, l, h)) ∙ sym (before-run run (from + i) l))
    (λ l. ⊎_elim
    (λ m. inside-run (clipped-run from to run) i (omega (arith, l)) (omega (arith, l, m, h, within))
    ∙ sym (inside-run run (from + i) l m))
    (λ m. behind-run (clipped-run from to run) i (omega (arith, m, h)) ∙ sym (behind-run run (from + i) m))
    (cases_lt (from + i) (run_end run)))
    (cases_lt (from + i) run.start)

not-in-run : (from to i : ℕ) (run : Run) → min (run_end run) to ≤ max run.start from → i < to - from
    → is_in_run run (from + i) ≡ false
not-in-run from to i run h within =
    ⊎_elim (λ l. before-run run (from + i) l) (λ l. behind-run run (from + i) (omega (arith, h, within, l))) (cases_lt (from + i) run.start)

pub in-clipped : (from to i : ℕ) (runs : List Run) → i < to - from
    → is_in_runs (flat_map (λ run. clip from to run) runs) i ≡ is_in_runs runs (from + i)
in-clipped from to i [] within = is_in_runs-none i ∙ sym (is_in_runs-none (from + i))
in-clipped from to i (run ∷ runs) within =
    ⊎_elim
    (λ h. ap (λ rs. is_in_runs rs i) (clipped-here from to run runs h)
    ∙ is_in_runs-cons (clipped-run from to run) (flat_map (λ r. clip from to r) runs) i
    ∙ ap (λ b. b || is_in_runs (flat_map (λ r. clip from to r) runs) i) (in-clipped-run from to i run h within)
    ∙ ap (λ b. is_in_run run (from + i) || b) (in-clipped from to i runs within)
    ∙ sym (is_in_runs-cons run runs (from + i)))
    (λ h. ap (λ rs. is_in_runs rs i) (clipped-gone from to run runs h) ∙ in-clipped from to i runs within
    ∙ sym (is_in_runs-cons run runs (from + i)
    ∙ ap (λ b. b || is_in_runs runs (from + i)) (not-in-run from to i run h within)))
    (cases_lt (max run.start from) (min (run_end run) to))

-- what the code finds of a run
clip-pushed : (from to start end : ℕ) (run : Run) → start ≡ max run.start from → end ≡ min (run_end run) to
    → start < end
    → clip from to run ≡ record { start = start - from; length = end - start } ∷ []
unfolding clipped-run
clip-pushed from to start end run low high h =
    let first : max run.start from - from ≡ start - from = omega (arith, low) in
    let second : min (run_end run) to - max run.start from ≡ end - start = omega (arith, low, high) in
    clip-some from to run (omega (arith, low, high, h)) ∙ (λ i. record { start = first i; length = second i } ∷ [])

clip-left : (from to start end : ℕ) (run : Run) → start ≡ max run.start from → end ≡ min (run_end run) to
    → end ≤ start → clip from to run ≡ []
clip-left from to start end run low high h = clip-none from to run (omega (arith, low, high, h))

-- nothing lies before an index if the runs begin after it
clipped-past : (low end from to : ℕ) (runs : List Run) → to ≤ low → AreRuns low end runs
    → flat_map (λ run. clip from to run) runs ≡ []
clipped-past low end from to [] h rising = refl
clipped-past low end from to (run ∷ runs) h rising =
    let start = rising.0 in
    clipped-gone from to run runs (omega (arith, h, start))
    ∙ clipped-past (run_end run + 1) end from to runs (omega (arith, h, start)) rising.3

-- ---- the runs from a number on, one after another

pub record IsClipping (runs clipped : List Run) (first n from to : ℕ) : Type 0 where
  pub order : first ≤ n
  pub passed : ArePassed runs first from
  pub taken : clipped ≡ flat_map (λ run. clip from to run) (take (n - first) (drop first runs))

clipping-more : {runs clipped : List Run} {first n from to : ℕ} (next : List Run) (run : Run) → IsRunAt runs n run
    → IsClipping runs clipped first n from to → next ≡ clipped ++ clip from to run
    → IsClipping runs next first (n + 1) from to
clipping-more {runs} {clipped} {first} {n} {from} {to} next run here before e =
    let h = here.within in
    let order = before.order in
    let place : first + (n - first) ≡ n = omega (arith, order) in
    let count : n + 1 - first ≡ (n - first) + 1 = omega (arith, order) in
    let long = length-drop first runs in
    record {
      order = omega (arith, order);
      passed = before.passed;
      taken = e ∙ ap (λ rs. rs ++ clip from to run) before.taken
          ∙ sym (ap (λ m. flat_map (λ r. clip from to r) (take m (drop first runs))) count
          ∙ ap (flat_map (λ r. clip from to r)) (take_more (drop first runs) (n - first) run (omega (arith, long, h, order))
          ∙ ap (λ r. take (n - first) (drop first runs) ++ r ∷ []) (get_or-drop first runs (n - first) run
          ∙ ap (λ j. get_or runs j run) place ∙ sym here.is))
          ∙ flat_map-append (λ r. clip from to r) (take (n - first) (drop first runs)) (run ∷ [])
          ∙ ap (λ rs. flat_map (λ r. clip from to r) (take (n - first) (drop first runs)) ++ rs)
          (clipped-cons from to run [] ∙ append-nil (clip from to run)));
    }

clipping-none : (runs : List Run) (first from to : ℕ) → ArePassed runs first from → IsClipping runs [] first first from to
clipping-none runs first from to passed =
    let none : 0 ≡ first - first = omega arith in
    record { order = omega arith; passed = passed; taken = ap (λ n. flat_map (λ run. clip from to run) (take n (drop first runs))) none }

-- with one more run they rise too
clipping-rises : {runs clipped : List Run} {first n from to : ℕ} (run : Run) → IsRunAt runs n run
    → IsClipping runs clipped first n from to → AreRuns 0 (to - from) (clipped ++ clip from to run)
clipping-rises {runs} {clipped} {first} {n} {from} {to} run here before =
    let next = clipping-more (clipped ++ clip from to run) run here before refl in
    let rising = before.passed.rising in
    subst (AreRuns 0 (to - from)) (sym next.taken)
    (AreRuns-lower (0 - from) (to - from) 0 _ (omega arith)
    (AreRuns-clipped 0 rising.0 from to (take (n + 1 - first) (drop first runs))
    (AreRuns-front 0 rising.0 (n + 1 - first) (drop first runs) rising.1)))

-- what of the runs lies from one index to before another, counted from the first
pub record AreClipped (runs clipped : List Run) (from to : ℕ) : Type 0 where
  pub rising : AreRuns 0 (to - from) clipped
  pub same : (i : ℕ) → i < to - from → is_in_runs clipped i ≡ is_in_runs runs (from + i)

-- the runs with that after them which lies of others from one index to before another, counted from an index
pub record AreAppended (runs others next : List Run) (at from to : ℕ) : Type 0 where
  pub clipped : List Run
  pub clipped_are : AreClipped others clipped from to
  pub joined : AreJoined runs clipped next at

clipped-all : (runs clipped : List Run) (first from to : ℕ) → ArePassed runs first from
    → clipped ≡ flat_map (λ run. clip from to run) (drop first runs) → AreClipped runs clipped from to
clipped-all runs clipped first from to passed e = record {
  rising = subst (AreRuns 0 (to - from)) (sym e)
      (AreRuns-lower (0 - from) (to - from) 0 _ (omega arith) (AreRuns-clipped 0 passed.rising.0 from to (drop first runs) passed.rising.1));
  same = λ i h. ap (λ rs. is_in_runs rs i) e ∙ in-clipped from to i (drop first runs) h
      ∙ passed.same (from + i) (omega arith);
}

-- after the last run
clipping-end : (runs clipped : List Run) (first n from to : ℕ) → length runs ≤ n
    → IsClipping runs clipped first n from to → AreClipped runs clipped from to
clipping-end runs clipped first n from to h before =
    let long = length-drop first runs in
    clipped-all runs clipped first from to before.passed
    (before.taken
    ∙ ap (flat_map (λ r. clip from to r)) (take_all (n - first) (drop first runs) (omega (arith, long, h))))

-- at a run that begins after the last index
clipping-past : {runs clipped : List Run} {first n from to : ℕ} {run : Run} → IsRunAt runs n run
    → IsClipping runs clipped first n from to → to ≤ run.start → AreClipped runs clipped from to
clipping-past {runs} {clipped} {first} {n} {from} {to} {run} found before low =
    let h = found.within in
    let order = before.order in
    let long = length-drop first runs in
    let place : first + (n - first) ≡ n = omega (arith, order) in
    let more = drop_more (drop first runs) (n - first) run (omega (arith, long, h, order)) in
    let here = get_or-drop first runs (n - first) run ∙ ap (λ j. get_or runs j run) place ∙ sym found.is in
    let split : drop (n - first) (drop first runs) ≡ run ∷ drop (n - first + 1) (drop first runs) =
    more ∙ ap (λ r. r ∷ drop (n - first + 1) (drop first runs)) here in
    let rising = AreRuns-tail 0 before.passed.rising.0 (n - first) (drop first runs) before.passed.rising.1 in
    let tail = subst (AreRuns 0 before.passed.rising.0) split rising in
    clipped-all runs clipped first from to before.passed
    (before.taken ∙ sym (append-nil _)
    ∙ ap (λ rs. flat_map (λ r. clip from to r) (take (n - first) (drop first runs)) ++ rs)
    (sym (ap (flat_map (λ r. clip from to r)) split
    ∙ clipped-past run.start before.passed.rising.0 from to (run ∷ drop (n - first + 1) (drop first runs)) low (omega arith, tail.1, tail.2, tail.3)))
    ∙ sym (flat_map-append (λ r. clip from to r) (take (n - first) (drop first runs)) (drop (n - first) (drop first runs)))
    ∙ ap (flat_map (λ r. clip from to r)) (take-append-drop (n - first) (drop first runs)))

-- ---- the runs with those after them that are clipped so far

pub record IsAppending (runs others now : List Run) (at first n from to : ℕ) : Type 0 where
  pub clipped : List Run
  pub clipping : IsClipping others clipped first n from to
  pub joined : AreJoined runs clipped now at

pub appending-none : {runs others : List Run} {at first from to : ℕ} → AreRuns 0 at runs → ArePassed others first from
    → IsAppending runs others runs at first first from to
appending-none {runs} {others} {at} {first} {from} {to} rising passed = record {
  clipped = [];
  clipping = clipping-none others first from to passed;
  joined = AreJoined-none at runs rising;
}

-- if part of a run is between the indices
pub record ClipStep (others : List Run) (n from to : ℕ) : Type 0 where
  pub run : Run
  pub start : ℕ
  pub end : ℕ
  pub here : IsRunAt others n run
  pub start_is : start ≡ max run.start from
  pub end_is : end ≡ min (run_end run) to

appending-step : {runs others now : List Run} {at first n from to : ℕ} (s : ClipStep others n from to)
    → s.start < s.end → (a : IsAppending runs others now at first n from to) → JoinStep runs a.clipped at
appending-step {runs} {others} {now} {at} {first} {n} {from} {to} s some a = record {
  run = record { start = s.start - from; length = s.end - s.start };
  before = now;
  end = to - from;
  rising = subst (λ rs. AreRuns 0 (to - from) (a.clipped ++ rs)) (clip-pushed from to s.start s.end s.run s.start_is s.end_is some)
      (clipping-rises s.run s.here a.clipping);
  joined = a.joined;
}

pub appending-rising : {runs others now : List Run} {at first n from to : ℕ} (s : ClipStep others n from to)
    → s.start < s.end → IsAppending runs others now at first n from to → AreRuns 0 (at + (s.start - from)) now
unfolding appending-step
appending-rising s some a = (join-stands (appending-step s some a)).0

pub appending-more : {runs others now : List Run} {at first n from to : ℕ} (next : List Run) (s : ClipStep others n from to)
    → s.start < s.end → IsAppending runs others now at first n from to
    → AreGrown now next (at + (s.start - from)) (s.end - s.start) → IsAppending runs others next at first (n + 1) from to
unfolding appending-step
appending-more {runs} {others} {now} {at} {first} {n} {from} {to} next s some a grown = record {
  clipped = a.clipped ++ record { start = s.start - from; length = s.end - s.start } ∷ [];
  clipping = clipping-more _ s.run s.here a.clipping
      (ap (λ rs. a.clipped ++ rs) (sym (clip-pushed from to s.start s.end s.run s.start_is s.end_is some)));
  joined = AreJoined-more next (appending-step s some a) grown;
}

pub appending-left : {runs others now : List Run} {at first n from to : ℕ} (s : ClipStep others n from to)
    → s.end ≤ s.start → IsAppending runs others now at first n from to → IsAppending runs others now at first (n + 1) from to
appending-left {runs} {others} {now} {at} {first} {n} {from} {to} s none a = record {
  clipped = a.clipped;
  clipping = clipping-more _ s.run s.here a.clipping
      (sym (append-nil a.clipped) ∙ ap (λ rs. a.clipped ++ rs) (sym (clip-left from to s.start s.end s.run s.start_is s.end_is none)));
  joined = a.joined;
}

-- after the last run, and at a run that begins after the last index
pub appending-end : {runs others now : List Run} {at first n from to : ℕ} → length others ≤ n
    → IsAppending runs others now at first n from to → AreAppended runs others now at from to
appending-end {runs} {others} {now} {at} {first} {n} {from} {to} h a = record {
  clipped = a.clipped;
  clipped_are = clipping-end others a.clipped first n from to h a.clipping;
  joined = a.joined;
}

pub appending-past : {runs others now : List Run} {at first n from to : ℕ} {run : Run} → IsRunAt others n run
    → to ≤ run.start → IsAppending runs others now at first n from to → AreAppended runs others now at from to
appending-past {runs} {others} {now} {at} {first} {n} {from} {to} {run} here low a = record {
  clipped = a.clipped;
  clipped_are = clipping-past here a.clipping low;
  joined = a.joined;
}

-- ---- a part of a piece

-- the codes and runs of the part, and its bytes
pub record IsPieceOf (codes : List ℕ) (runs : List Run) (part : List ℕ) (clipped : List Run) (from to : ℕ) : Type 0 where
  pub piece : IsPiece part clipped
  pub bytes : bytes_of part clipped ≡ take (to - from) (drop from (bytes_of codes runs))

pub length-cut : (codes : List ℕ) (from to : ℕ) → from ≤ to → to ≤ length codes
    → length (take (to - from) (drop from codes)) ≡ to - from
length-cut codes from to ordered within =
    let long = length-drop from codes in
    length-take-le (to - from) (drop from codes) (omega (arith, long, ordered, within))

pub get_or-cut : {X : Type 0} (xs : List X) (from to i : ℕ) (d : X) → i < to - from
    → get_or (take (to - from) (drop from xs)) i d ≡ get_or xs (from + i) d
get_or-cut xs from to i d h = get_or-take (to - from) (drop from xs) i d h ∙ get_or-drop from xs i d

pub clipped-piece : {runs clipped : List Run} (codes part : List ℕ) (from to : ℕ)
    → (from ≤ to) × (to ≤ length codes) → IsPiece codes runs
    → part ≡ take (to - from) (drop from codes) → AreClipped runs clipped from to
    → IsPieceOf codes runs part clipped from to
clipped-piece {runs} {clipped} codes part from to within piece is are = record {
  piece = record {
    rising = subst (λ n. AreRuns 0 n clipped) (sym long) are.rising;
    below = λ i. ⊎_elim (λ h. subst (λ n. n < 4) (sym (code i h)) (piece.below (from + i)))
        (λ h. subst (λ n. n < 4) (sym (get_or_past part i 0 (omega (arith, h, long)))) (lit< tt)) (cases_lt i (to - from));
    clear = λ i h. ⊎_elim (λ l. code i l ∙ piece.clear (from + i) (sym (are.same i l) ∙ h))
        (λ l. get_or_past part i 0 (omega (arith, l, long))) (cases_lt i (to - from));
  };
  bytes = ext_get_or 0 (bytes_of part clipped) (take (to - from) (drop from (bytes_of codes runs)))
      (length-bytes_of part clipped ∙ long ∙ sym bytes_long)
      (λ i h. let count = length-bytes_of part clipped in
      let low : i < to - from = omega (arith, h, count, long) in
      let high = within.1 in
      get_or-bytes_of part clipped i 0 (omega (arith, low, long))
      ∙ ap (λ b. cond b unusable (base (get_or part i 0))) (are.same i low)
      ∙ ap (λ n. cond (is_in_runs runs (from + i)) unusable (base n)) (code i low)
      ∙ sym (get_or-cut (bytes_of codes runs) from to i 0 low
      ∙ get_or-bytes_of codes runs (from + i) 0 (omega (arith, low, high))));
}
  where
    long : length part ≡ to - from
    long = ap length is ∙ length-cut codes from to within.0 within.1

    bytes_long : length (take (to - from) (drop from (bytes_of codes runs))) ≡ to - from
    bytes_long = length-cut (bytes_of codes runs) from to within.0 (let count = length-bytes_of codes runs in
        let high = within.1 in
        omega (arith, count, high))

    code : (i : ℕ) → i < to - from → get_or part i 0 ≡ get_or codes (from + i) 0
    code i h = ap (λ xs. get_or xs i 0) is ∙ get_or-cut codes from to i 0 h
