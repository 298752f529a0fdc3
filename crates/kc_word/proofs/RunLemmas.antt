-- Ascending runs: where no index is in one, what one more index changes, and that runs with the same indices are the
-- same.
use Rattle.std.proofs.Common.{◌≡◌, ◌≢◌, ℕ, zero, suc, ◌+◌, ◌-◌, ◌<◌, ◌≤◌, ⊎_elim, Bool, true, false, ◌&&◌, ◌||◌, leb, List, [], ◌∷◌, ◌++◌, length, get_or, take, drop, set, refl, ap, sym, ◌∙◌, subst, arith, true≢false, Decides, eqb, eqb-true, eq-eqb}
use Rattle.std.proofs.lemmas.Bool.{cases_lt, and_parts, and_from, and_left, and_right, or_left, or_right, le-leb, leb-true, leb-false, lt-leb, lt-ltb, le-ltb}
use Rattle.std.proofs.lemmas.List.{get_or_read, take_more, take_all, set_at, length-take-le, drop_all, drop_more, get_or_default}
use Rattle.std.proofs.lemmas.List.Folds.{list_any-append, list_any_at}
use Rattle.std.specs.List.{list_any}
use Rattle.std.specs.List.Sorted.{IsPartitionPoint, IsPartitionedBy}
use Rattle.kc_word.specs.declared.runs.Run.{Run}
use Rattle.kc_word.specs.Runs.{run_end, is_in_run, is_in_runs, AreRuns, AreGrown, EndBehind, ArePassed}

-- ---- whether an index lies in a run

pub inside-run : (run : Run) (i : ℕ) → run.start ≤ i → i < run_end run → is_in_run run i ≡ true
inside-run run i low high = and_from _ _ (le-leb run.start i low) (lt-ltb i (run_end run) high)

pub before-run : (run : Run) (i : ℕ) → i < run.start → is_in_run run i ≡ false
before-run run i h = and_left _ _ (lt-leb run.start i h)

pub behind-run : (run : Run) (i : ℕ) → run_end run ≤ i → is_in_run run i ≡ false
behind-run run i h = and_right (leb run.start i) _ (le-ltb i (run_end run) h)

or-false : (a b : Bool) → a ≡ false → b ≡ false → (a || b) ≡ false
or-false true b h e = absurd (true≢false h)
or-false false b h e = e

or-first : (a b : Bool) → b ≡ false → (a || b) ≡ a
or-first true b e = refl
or-first false b e = e

or-second : (a b : Bool) → a ≡ false → (a || b) ≡ b
or-second true b e = absurd (true≢false e)
or-second false b e = refl

pub before-runs : (from to i : ℕ) (runs : List Run) → i < from → AreRuns from to runs → is_in_runs runs i ≡ false
unfolding is_in_runs
before-runs from to i [] h rising = refl
before-runs from to i (run ∷ runs) h rising =
    let start = rising.0 in
    or-false (is_in_run run i) _ (before-run run i (omega (arith, h, start)))
    (before-runs (run_end run + 1) to i runs (omega (arith, h, start)) rising.3)

pub behind-runs : (from to i : ℕ) (runs : List Run) → to ≤ i → AreRuns from to runs → is_in_runs runs i ≡ false
unfolding is_in_runs
behind-runs from to i [] h rising = refl
behind-runs from to i (run ∷ runs) h rising =
    let end = rising.2 in
    or-false (is_in_run run i) _ (behind-run run i (omega (arith, h, end))) (behind-runs (run_end run + 1) to i runs h rising.3)

pub is_in_runs-cons : (run : Run) (runs : List Run) (i : ℕ) → is_in_runs (run ∷ runs) i ≡ (is_in_run run i || is_in_runs runs i)
unfolding is_in_runs
is_in_runs-cons run runs i = refl

pub is_in_runs-none : (i : ℕ) → is_in_runs [] i ≡ false
unfolding is_in_runs
is_in_runs-none i = refl

pub is_in_runs-push : (runs : List Run) (run : Run) (i : ℕ) → is_in_runs (runs ++ run ∷ []) i ≡ (is_in_runs runs i || is_in_run run i)
unfolding is_in_runs
is_in_runs-push runs run i =
    list_any-append (λ r. is_in_run r i) runs (run ∷ [])
    ∙ ap (λ b. list_any (λ r. is_in_run r i) runs || b) (or-first (is_in_run run i) false refl)

-- ---- runs that end elsewhere

pub AreRuns-wider : (from to wider : ℕ) (runs : List Run) → to ≤ wider → AreRuns from to runs → AreRuns from wider runs
AreRuns-wider from to wider [] h rising = tt
AreRuns-wider from to wider (run ∷ runs) h rising =
    let end = rising.2 in
    (rising.0, rising.1, omega (arith, h, end), AreRuns-wider (run_end run + 1) to wider runs h rising.3)

pub AreRuns-lower : (from to lower : ℕ) (runs : List Run) → lower ≤ from → AreRuns from to runs → AreRuns lower to runs
AreRuns-lower from to lower [] h rising = tt
AreRuns-lower from to lower (run ∷ runs) h rising =
    let start = rising.0 in
    (omega (arith, h, start), rising.1, rising.2, rising.3)

-- they end with the last one
AreRuns-last : (from to : ℕ) (runs : List Run) (last : Run) → AreRuns from to (runs ++ last ∷ [])
    → AreRuns from (run_end last) (runs ++ last ∷ []) × (run_end last ≤ to) × (from ≤ last.start) × (1 ≤ last.length)
AreRuns-last from to [] last rising = ((rising.0, rising.1, omega arith, tt), rising.2, rising.0, rising.1)
AreRuns-last from to (run ∷ runs) last rising =
    let rest = AreRuns-last (run_end run + 1) to runs last rising.3 in
    let above = rest.2 in
    let start = rising.0 in
    ((rising.0, rising.1, omega (arith, above), rest.0), rest.1, omega (arith, above, start), rest.3)

-- one more run, which starts after the others and doesn't touch them
AreRuns-push : (from to end : ℕ) (runs : List Run) (run : Run) → (from ≤ run.start) × (to < run.start) × (1 ≤ run.length) × (run_end run ≤ end)
    → AreRuns from to runs → AreRuns from end (runs ++ run ∷ [])
AreRuns-push from to end [] run stands rising = (stands.0, stands.2, stands.3, tt)
AreRuns-push from to end (r ∷ runs) run stands rising =
    let before = rising.2 in
    let apart = stands.1 in
    let within = stands.3 in
    (rising.0, rising.1, omega (arith, before, apart, within), AreRuns-push (run_end r + 1) to end runs run (omega (arith, before, apart), stands.1, stands.2, stands.3) rising.3)

-- the last run grows
AreRuns-grown : (from to end : ℕ) (runs : List Run) (last grown : Run) → (grown.start ≡ last.start) × (last.length ≤ grown.length) × (run_end grown ≤ end)
    → AreRuns from to (runs ++ last ∷ []) → AreRuns from end (runs ++ grown ∷ [])
AreRuns-grown from to end [] last grown grows rising =
    let same = grows.0 in
    let more = grows.1 in
    let within = grows.2 in
    let start = rising.0 in
    let some = rising.1 in
    (omega (arith, same, start), omega (arith, more, some), within, tt)
AreRuns-grown from to end (r ∷ runs) last grown grows rising =
    let same = grows.0 in
    let within = grows.2 in
    let above = (AreRuns-last (run_end r + 1) to runs last rising.3).2 in
    (rising.0, rising.1, omega (arith, above, same, within), AreRuns-grown (run_end r + 1) to end runs last grown grows rising.3)

-- ---- one more index

-- a list that isn't empty, split before its last element
split-last : (runs : List Run) (n : ℕ) (d : Run) → suc n ≡ length runs → runs ≡ take n runs ++ get_or runs n d ∷ []
split-last runs n d e =
    sym (take_all (n + 1) runs (omega (arith, e))) ∙ take_more runs n d (omega (arith, e))

split-read : (runs : List Run) (n : ℕ) (last : Run) → suc n ≡ length runs → last ≡ get_or runs n last → runs ≡ take n runs ++ last ∷ []
split-read runs n last e is = split-last runs n last e ∙ ap (λ run. take n runs ++ run ∷ []) (sym is)

-- the last of ascending runs up to an index
pub record IsLastRun (to : ℕ) (runs : List Run) (n : ℕ) (last : Run) : Type 0 where
  pub count : suc n ≡ length runs
  pub rising : AreRuns 0 to runs
  pub is : last ≡ get_or runs n last

pub last-end : {to n : ℕ} {runs : List Run} {last : Run} → IsLastRun to runs n last → run_end last ≤ to
last-end {to} {n} {runs} {last} found =
    let split = split-read runs n last found.count found.is in
    (AreRuns-last 0 to (take n runs) last (subst (AreRuns 0 to) split found.rising)).1

-- the last run, as the code reads it twice
pub record IsLastRead (to : ℕ) (runs : List Run) (n : ℕ) (last again : Run) : Type 0 where
  pub found : IsLastRun to runs n last
  pub same : last ≡ again

pub last-read : (to count : ℕ) (runs : List Run) (last again : Run) → 0 < count → count ≡ length runs → AreRuns 0 to runs
    → last ≡ get_or runs (count - 1) last → again ≡ get_or runs (count - 1) again → IsLastRead to runs (count - 1) last again
last-read to count runs last again some long rising is is-again = record {
  found = record { count = omega (arith, some, long); rising = rising; is = is };
  same = get_or_read runs (count - 1) last (omega (arith, some, long)) is again ∙ sym is-again;
}

-- a run of so many indices from an index on
new_run : ℕ → ℕ → Run
new_run at count = record { start = at; length = count }

new-inside : (at count : ℕ) (runs : List Run) (i : ℕ) → at ≤ i → i < at + count → is_in_runs (runs ++ new_run at count ∷ []) i ≡ true
unfolding new_run
new-inside at count runs i low high =
    is_in_runs-push runs (new_run at count) i ∙ or_right (is_in_runs runs i) _ (inside-run (new_run at count) i low high)

new-below : (at count : ℕ) (runs : List Run) (i : ℕ) → i < at → is_in_runs (runs ++ new_run at count ∷ []) i ≡ is_in_runs runs i
unfolding new_run
new-below at count runs i h =
    is_in_runs-push runs (new_run at count) i ∙ or-first (is_in_runs runs i) _ (before-run (new_run at count) i h)

new-above : (at count : ℕ) (runs : List Run) (i : ℕ) → at + count ≤ i → is_in_runs (runs ++ new_run at count ∷ []) i ≡ is_in_runs runs i
unfolding new_run
new-above at count runs i h =
    is_in_runs-push runs (new_run at count) i ∙ or-first (is_in_runs runs i) _ (behind-run (new_run at count) i h)

-- indices after the runs, which a new run has
pub AreGrown-first : (at count : ℕ) (runs : List Run) → 1 ≤ count → runs ≡ []
    → AreGrown runs (runs ++ record { start = at; length = count } ∷ []) at count
unfolding new_run
AreGrown-first at count runs some e = record {
  rising = subst (λ rs. AreRuns 0 (at + count) (rs ++ new_run at count ∷ [])) (sym e) (omega arith, some, omega arith, tt);
  inside = λ i low high. new-inside at count runs i low high;
  below = λ i h. new-below at count runs i h;
  above = λ i h. new-above at count runs i h;
}

-- or the runs before it end earlier
pub AreGrown-push : {at n : ℕ} {runs : List Run} {last : Run} (count : ℕ) → IsLastRun at runs n last → 1 ≤ count
    → run_end last ≢ at → AreGrown runs (runs ++ record { start = at; length = count } ∷ []) at count
unfolding new_run
AreGrown-push {at} {n} {runs} {last} count found some apart =
    let split = split-read runs n last found.count found.is in
    let ends = AreRuns-last 0 at (take n runs) last (subst (AreRuns 0 at) split found.rising) in
    let below = ends.1 in
    record {
      rising = AreRuns-push 0 (run_end last) (at + count) runs (new_run at count)
          (omega arith, omega (arith, below, apart), some, omega arith) (subst (AreRuns 0 (run_end last)) (sym split) ends.0);
      inside = λ i low high. new-inside at count runs i low high;
      below = λ i h. new-below at count runs i h;
      above = λ i h. new-above at count runs i h;
    }

-- a run grown by so many indices
longer : Run → ℕ → Run
longer run count = record { start = run.start; length = run.length + count }

longer-inside : (at count : ℕ) (last : Run) (i : ℕ) → run_end last ≡ at → at ≤ i → i < at + count → is_in_run (longer last count) i ≡ true
unfolding longer
longer-inside at count last i end low high = inside-run (longer last count) i (omega (arith, end, low)) (omega (arith, end, high))

longer-below : (at count : ℕ) (last : Run) (i : ℕ) → run_end last ≡ at → i < at → is_in_run (longer last count) i ≡ is_in_run last i
unfolding longer
longer-below at count last i end h =
    ⊎_elim (λ l. before-run (longer last count) i l ∙ sym (before-run last i l))
    (λ l. inside-run (longer last count) i l (omega (arith, h, end)) ∙ sym (inside-run last i l (omega (arith, h, end))))
    (cases_lt i last.start)

longer-above : (at count : ℕ) (last : Run) (i : ℕ) → run_end last ≡ at → at + count ≤ i → is_in_run (longer last count) i ≡ is_in_run last i
unfolding longer
longer-above at count last i end h =
    behind-run (longer last count) i (omega (arith, h, end)) ∙ sym (behind-run last i (omega (arith, h, end)))

pub AreGrown-longer : {at n : ℕ} {runs : List Run} {last : Run} (count : ℕ) → IsLastRun at runs n last → run_end last ≡ at
    → AreGrown runs (set runs n (record { start = last.start; length = last.length + count })) at count
unfolding longer
AreGrown-longer {at} {n} {runs} {last} count found end = record {
  rising = subst (AreRuns 0 (at + count)) (sym written)
      (AreRuns-grown 0 at (at + count) (take n runs) last (longer last count) (refl, omega arith, omega (arith, end))
      (subst (AreRuns 0 at) split found.rising));
  inside = λ i low high. ap (λ rs. is_in_runs rs i) written ∙ is_in_runs-push (take n runs) (longer last count) i
      ∙ or_right (is_in_runs (take n runs) i) _ (longer-inside at count last i end low high);
  below = λ i h. same i (longer-below at count last i end h);
  above = λ i h. same i (longer-above at count last i end h);
}
  where
    split : runs ≡ take n runs ++ last ∷ []
    split = split-read runs n last found.count found.is

    written : set runs n (longer last count) ≡ take n runs ++ longer last count ∷ []
    written = ap (λ rs. set rs n (longer last count)) split
        ∙ set_at (take n runs) last [] (longer last count) n (length-take-le n runs (omega (arith, found.count)))

    same : (i : ℕ) → is_in_run (longer last count) i ≡ is_in_run last i → is_in_runs (set runs n (longer last count)) i ≡ is_in_runs runs i
    same i h = ap (λ rs. is_in_runs rs i) written ∙ is_in_runs-push (take n runs) (longer last count) i
        ∙ ap (λ b. is_in_runs (take n runs) i || b) h
        ∙ sym (ap (λ rs. is_in_runs rs i) split ∙ is_in_runs-push (take n runs) last i)

-- ---- runs after runs

-- the runs with others after them, which are counted from an index
pub record AreJoined (runs others next : List Run) (at : ℕ) : Type 0 where
  pub rising : (end : ℕ) → AreRuns 0 end others → AreRuns 0 (at + end) next
  pub before : (i : ℕ) → i < at → is_in_runs next i ≡ is_in_runs runs i
  pub behind : (i : ℕ) → is_in_runs next (at + i) ≡ is_in_runs others i

pub AreJoined-none : (at : ℕ) (runs : List Run) → AreRuns 0 at runs → AreJoined runs [] runs at
AreJoined-none at runs rising = record {
  rising = λ end none. AreRuns-wider 0 at (at + end) runs (omega arith) rising;
  before = λ i h. refl;
  behind = λ i. behind-runs 0 at (at + i) runs (omega arith) rising ∙ sym (is_in_runs-none i);
}

-- the runs before a run end before it
pub AreRuns-before : (from to : ℕ) (runs : List Run) (run : Run) → AreRuns from to (runs ++ run ∷ [])
    → AreRuns from run.start runs × (run_end run ≤ to) × (1 ≤ run.length)
AreRuns-before from to [] run rising = (tt, rising.2, rising.1)
AreRuns-before from to (r ∷ runs) run rising =
    let rest = AreRuns-before (run_end r + 1) to runs run rising.3 in
    let above = (AreRuns-last (run_end r + 1) to runs run rising.3).2 in
    ((rising.0, rising.1, omega (arith, above), rest.0), rest.1, rest.2)

-- the runs to a number and before another end before an index
pub AreRuns-front : (from to n : ℕ) (runs : List Run) → AreRuns from to runs → AreRuns from to (take n runs)
AreRuns-front from to zero runs rising = tt
AreRuns-front from to (suc n) [] rising = tt
AreRuns-front from to (suc n) (run ∷ runs) rising =
    (rising.0, rising.1, rising.2, AreRuns-front (run_end run + 1) to n runs rising.3)

-- one more run of the others, and what the runs are once it is appended
pub record JoinStep (runs others : List Run) (at : ℕ) : Type 0 where
  pub run : Run
  pub before : List Run
  pub end : ℕ
  pub rising : AreRuns 0 end (others ++ run ∷ [])
  pub joined : AreJoined runs others before at

-- where the run begins, how long it is, and that it ends within
pub join-stands : {runs others : List Run} {at : ℕ} (s : JoinStep runs others at)
    → AreRuns 0 (at + s.run.start) s.before × (1 ≤ s.run.length) × (run_end s.run ≤ s.end)
join-stands {runs} {others} {at} s =
    let front = AreRuns-before 0 s.end others s.run s.rising in
    (s.joined.rising s.run.start front.0, front.2, front.1)

pub AreJoined-more : {runs others : List Run} {at : ℕ} (next : List Run) (s : JoinStep runs others at)
    → AreGrown s.before next (at + s.run.start) s.run.length → AreJoined runs (others ++ s.run ∷ []) next at
AreJoined-more {runs} {others} {at} next s grown = record {
  rising = λ end rising. let front = (AreRuns-before 0 end others s.run rising).1 in
      AreRuns-wider 0 (at + s.run.start + s.run.length) (at + end) next (omega (arith, front)) grown.rising;
  before = λ i h. grown.below i (omega (arith, h)) ∙ s.joined.before i h;
  behind = λ i. ⊎_elim
      (λ h. grown.below (at + i) (omega (arith, h)) ∙ s.joined.behind i
      ∙ sym (is_in_runs-push others s.run i ∙ or-first (is_in_runs others i) _ (before-run s.run i h)))
      (λ h. ⊎_elim
      (λ l. grown.inside (at + i) (omega (arith, h)) (omega (arith, l))
      ∙ sym (is_in_runs-push others s.run i ∙ or_right (is_in_runs others i) _ (inside-run s.run i h l)))
      (λ l. grown.above (at + i) (omega (arith, l)) ∙ s.joined.behind i
      ∙ sym (is_in_runs-push others s.run i ∙ or-first (is_in_runs others i) _ (behind-run s.run i l)))
      (cases_lt i (run_end s.run)))
      (cases_lt i s.run.start);
}

-- ---- runs with the same indices

starts-same : (from to other_to : ℕ) (run other : Run) (runs others : List Run) → AreRuns from to (run ∷ runs) × AreRuns from other_to (other ∷ others)
    × ((i : ℕ) → is_in_runs (run ∷ runs) i ≡ is_in_runs (other ∷ others) i) → other.start ≤ run.start
starts-same from to other_to run other runs others both =
    ⊎_elim (λ h. absurd (true≢false (sym (started h) ∙ both.2 run.start ∙ elsewhere h))) (λ h. h) (cases_lt run.start other.start)
  where
    started : run.start < other.start → is_in_runs (run ∷ runs) run.start ≡ true
    started h = is_in_runs-cons run runs run.start ∙ or_left _ (is_in_runs runs run.start)
        (inside-run run run.start (omega arith) (let some = both.0.1 in omega (arith, some)))

    elsewhere : run.start < other.start → is_in_runs (other ∷ others) run.start ≡ false
    elsewhere h = before-runs other.start other_to run.start (other ∷ others) h (omega arith, both.1.1, both.1.2, both.1.3)

ends-same : (from to other_to : ℕ) (run other : Run) (runs others : List Run) → AreRuns from to (run ∷ runs) × AreRuns from other_to (other ∷ others)
    × ((i : ℕ) → is_in_runs (run ∷ runs) i ≡ is_in_runs (other ∷ others) i) × (run.start ≡ other.start) → run_end other ≤ run_end run
ends-same from to other_to run other runs others both =
    ⊎_elim (λ h. absurd (true≢false (sym (inside h) ∙ sym (both.2 (run_end run)) ∙ ended))) (λ h. h) (cases_lt (run_end run) (run_end other))
  where
    inside : run_end run < run_end other → is_in_runs (other ∷ others) (run_end run) ≡ true
    inside h = is_in_runs-cons other others (run_end run) ∙ or_left _ (is_in_runs others (run_end run))
        (inside-run other (run_end run) (let start = both.3 in omega (arith, start)) h)

    ended : is_in_runs (run ∷ runs) (run_end run) ≡ false
    ended = is_in_runs-cons run runs (run_end run)
        ∙ or-false (is_in_run run (run_end run)) _ (behind-run run (run_end run) (omega arith)) (before-runs (run_end run + 1) to (run_end run) runs (omega arith) both.0.3)

rest-same : (to other_to : ℕ) (run other : Run) (runs others : List Run)
    → AreRuns (run_end run + 1) to runs × AreRuns (run_end other + 1) other_to others × (run_end run ≡ run_end other)
    × ((i : ℕ) → is_in_runs (run ∷ runs) i ≡ is_in_runs (other ∷ others) i)
    → (i : ℕ) → is_in_runs runs i ≡ is_in_runs others i
rest-same to other_to run other runs others both i =
    let end = both.2 in
    ⊎_elim
    (λ h. before-runs (run_end run + 1) to i runs h both.0 ∙ sym (before-runs (run_end other + 1) other_to i others (omega (arith, h, end)) both.1))
    (λ h. sym (is_in_runs-cons run runs i ∙ or-second (is_in_run run i) _ (behind-run run i (omega (arith, h))))
    ∙ both.3 i ∙ is_in_runs-cons other others i ∙ or-second (is_in_run other i) _ (behind-run other i (omega (arith, h, end))))
    (cases_lt i (run_end run + 1))

same-run : (run other : Run) → run.start ≡ other.start → run_end run ≡ run_end other → run ≡ other
same-run run other start end =
    let long : run.length ≡ other.length = omega (arith, start, end) in
    λ i. record { start = start i; length = long i }

pub same-runs : (from to other_to : ℕ) (runs others : List Run) → AreRuns from to runs → AreRuns from other_to others
    → ((i : ℕ) → is_in_runs runs i ≡ is_in_runs others i) → runs ≡ others
same-runs from to other_to [] [] rising other_rising same = refl
same-runs from to other_to [] (other ∷ others) rising other_rising same =
    let some = other_rising.1 in
    absurd (true≢false (sym (is_in_runs-cons other others other.start ∙ or_left _ (is_in_runs others other.start)
    (inside-run other other.start (omega arith) (omega (arith, some)))) ∙ sym (same other.start) ∙ is_in_runs-none other.start))
same-runs from to other_to (run ∷ runs) [] rising other_rising same =
    let some = rising.1 in
    absurd (true≢false (sym (is_in_runs-cons run runs run.start ∙ or_left _ (is_in_runs runs run.start)
    (inside-run run run.start (omega arith) (omega (arith, some)))) ∙ same run.start ∙ is_in_runs-none run.start))
same-runs from to other_to (run ∷ runs) (other ∷ others) rising other_rising same =
    let low = starts-same from to other_to run other runs others (rising, other_rising, same) in
    let high = starts-same from other_to to other run others runs (other_rising, rising, λ i. sym (same i)) in
    let start : run.start ≡ other.start = omega (arith, low, high) in
    let short = ends-same from to other_to run other runs others (rising, other_rising, same, start) in
    let long = ends-same from other_to to other run others runs (other_rising, rising, λ i. sym (same i), sym start) in
    let end : run_end run ≡ run_end other = omega (arith, short, long) in
    ap (λ r. r ∷ runs) (same-run run other start end)
    ∙ ap (λ rs. other ∷ rs) (same-runs (run_end run + 1) to other_to runs others rising.3
    (subst (λ n. AreRuns (n + 1) other_to others) (sym end) other_rising.3)
    (rest-same to other_to run other runs others (rising.3, other_rising.3, end, same)))

-- ---- runs that are passed, index by index

-- after all runs
pub past-all : (runs : List Run) (next at : ℕ) → ArePassed runs next at → next ≡ length runs → (false ≡ is_in_runs runs at) × ArePassed runs next (at + 1)
past-all runs next at passed e =
    let none : drop next runs ≡ [] = drop_all next runs (omega (arith, e)) in (
      sym (sym (passed.same at (omega arith)) ∙ ap (λ rs. is_in_runs rs at) none ∙ is_in_runs-none at),
      record {
        within = passed.within;
        rising = passed.rising;
        same = λ i h. passed.same i (omega (arith, h));
        ahead = subst (EndBehind (at + 1)) (sym none) tt;
      },
    )

-- a run and what is left after it
record IsAhead (runs : List Run) (next : ℕ) (run : Run) : Type 0 where
  split : drop next runs ≡ run ∷ drop (next + 1) runs
  to : ℕ
  rising : AreRuns 0 to (run ∷ drop (next + 1) runs)

is_ahead : (runs : List Run) (next at : ℕ) (run : Run) → ArePassed runs next at → next < length runs → run ≡ get_or runs next run → IsAhead runs next run
is_ahead runs next at run passed h is =
    let split : drop next runs ≡ run ∷ drop (next + 1) runs = drop_more runs next run h ∙ ap (λ r. r ∷ drop (next + 1) runs) (sym is) in
    record { split = split; to = passed.rising.0; rising = subst (AreRuns 0 passed.rising.0) split passed.rising.1 }

-- before the run
pub before-next : (runs : List Run) (next at : ℕ) (run : Run) → ArePassed runs next at → next < length runs → run ≡ get_or runs next run → at < run.start
    → (false ≡ is_in_runs runs at) × ArePassed runs next (at + 1)
before-next runs next at run passed h is low =
    let ahead = is_ahead runs next at run passed h is in
    let rising = ahead.rising in (
      sym (sym (passed.same at (omega arith)) ∙ ap (λ rs. is_in_runs rs at) ahead.split
          ∙ before-runs run.start ahead.to at (run ∷ drop (next + 1) runs) low (omega arith, rising.1, rising.2, rising.3)),
      record {
        within = passed.within;
        rising = passed.rising;
        same = λ i l. passed.same i (omega (arith, l));
        ahead = subst (EndBehind (at + 1)) (sym ahead.split) (omega (arith, low));
      },
    )

-- in the run
pub in-next : (runs : List Run) (next at : ℕ) (run : Run) → ArePassed runs next at → next < length runs → run ≡ get_or runs next run → (run.start ≤ at) × (at < run_end run)
    → (true ≡ is_in_runs runs at) × ArePassed runs next (at + 1)
in-next runs next at run passed h is inside =
    let high = inside.1 in
    let ahead = is_ahead runs next at run passed h is in (
      sym (sym (passed.same at (omega arith)) ∙ ap (λ rs. is_in_runs rs at) ahead.split
          ∙ is_in_runs-cons run (drop (next + 1) runs) at ∙ or_left _ (is_in_runs (drop (next + 1) runs) at) (inside-run run at inside.0 inside.1)),
      record {
        within = passed.within;
        rising = passed.rising;
        same = λ i l. passed.same i (omega (arith, l));
        ahead = subst (EndBehind (at + 1)) (sym ahead.split) (omega (arith, high));
      },
    )

-- at the end of the run
pub behind-next : (runs : List Run) (next at : ℕ) (run : Run) → ArePassed runs next at → next < length runs → run ≡ get_or runs next run → run_end run ≤ at
    → (false ≡ is_in_runs runs at) × ArePassed runs (next + 1) (at + 1)
behind-next runs next at run passed h is end =
    let ahead = is_ahead runs next at run passed h is in
    let rising = ahead.rising in
    let least : at ≤ run_end run = subst (EndBehind at) ahead.split passed.ahead in (
      sym (sym (passed.same at (omega arith)) ∙ ap (λ rs. is_in_runs rs at) ahead.split ∙ is_in_runs-cons run (drop (next + 1) runs) at
          ∙ or-false (is_in_run run at) _ (behind-run run at end)
          (before-runs (run_end run + 1) ahead.to at (drop (next + 1) runs) (omega (arith, least)) rising.3)),
      record {
        within = omega (arith, h);
        rising = (ahead.to, AreRuns-lower (run_end run + 1) ahead.to 0 (drop (next + 1) runs) (omega arith) rising.3);
        same = λ i l. sym (is_in_runs-cons run (drop (next + 1) runs) i ∙ or-second (is_in_run run i) _ (behind-run run i (omega (arith, end, l))))
            ∙ ap (λ rs. is_in_runs rs i) (sym ahead.split) ∙ passed.same i (omega (arith, l));
        ahead = next-ahead (run_end run + 1) ahead.to (at + 1) (drop (next + 1) runs) (omega (arith, least)) rising.3;
      },
    )
  where
    next-ahead : (from to i : ℕ) (rs : List Run) → i ≤ from → AreRuns from to rs → EndBehind i rs
    next-ahead from to i [] l r = tt
    next-ahead from to i (run ∷ rs) l r = let start = r.0 in omega (arith, l, start)

-- ---- indices before the next run

-- none of so many indices from an index on is in a run, and the same runs are passed after them
pub record AreFree (runs : List Run) (next at n : ℕ) : Type 0 where
  pub passed : ArePassed runs next (at + n)
  pub free : (i : ℕ) → at ≤ i → i < at + n → is_in_runs runs i ≡ false

pub free-behind : (runs : List Run) (next at n : ℕ) → ArePassed runs next at → next ≡ length runs → AreFree runs next at n
free-behind runs next at n passed e =
    let none : drop next runs ≡ [] = drop_all next runs (omega (arith, e)) in
    record {
      passed = record {
        within = passed.within;
        rising = passed.rising;
        same = λ i h. passed.same i (omega (arith, h));
        ahead = subst (EndBehind (at + n)) (sym none) tt;
      };
      free = λ i l h. sym (passed.same i l) ∙ ap (λ rs. is_in_runs rs i) none ∙ is_in_runs-none i;
    }

-- the run with a number
pub record IsRunAt (runs : List Run) (n : ℕ) (run : Run) : Type 0 where
  pub within : n < length runs
  pub is : run ≡ get_or runs n run

pub free-before : (runs : List Run) (next at n : ℕ) (run : Run) → ArePassed runs next at → IsRunAt runs next run
    → at + n ≤ run.start → AreFree runs next at n
free-before runs next at n run passed here low =
    let ahead = is_ahead runs next at run passed here.within here.is in
    let rising = ahead.rising in
    record {
      passed = record {
        within = passed.within;
        rising = passed.rising;
        same = λ i l. passed.same i (omega (arith, l));
        ahead = subst (EndBehind (at + n)) (sym ahead.split) (omega (arith, low));
      };
      free = λ i l m. sym (passed.same i l) ∙ ap (λ rs. is_in_runs rs i) ahead.split
          ∙ before-runs run.start ahead.to i (run ∷ drop (next + 1) runs) (omega (arith, m, low)) (omega arith, rising.1, rising.2, rising.3);
    }

-- as many indices as come before the run, or none if it has begun
pub free-most : (runs : List Run) (next at n : ℕ) (run : Run) → ArePassed runs next at → IsRunAt runs next run
    → n ≤ run.start - at → AreFree runs next at n
free-most runs next at n run passed here most =
    ⊎_elim
    (λ h. free-before runs next at n run passed here (omega (arith, h, most)))
    (λ h. let same : at ≡ at + n = omega (arith, h, most) in record {
      passed = subst (ArePassed runs next) same passed;
      free = λ i l m. absurd (omega (arith, l, m, same));
    })
    (cases_lt at run.start)

-- ---- the indices that a loop looks at

pub is_in_runs-more : (runs : List Run) (i n : ℕ) (run : Run) → n < length runs → run ≡ get_or runs n run → is_in_run run i ≡ false
    → is_in_runs (take n runs) i ≡ false → is_in_runs (take (n + 1) runs) i ≡ false
is_in_runs-more runs i n run h is outside before =
    ap (λ rs. is_in_runs rs i) (take_more runs n run h ∙ ap (λ r. take n runs ++ r ∷ []) (sym is))
    ∙ is_in_runs-push (take n runs) run i ∙ or-false (is_in_runs (take n runs) i) _ before outside

pub is_in_runs-at : (runs : List Run) (i n : ℕ) (run : Run) → n < length runs → run ≡ get_or runs n run → is_in_run run i ≡ true → is_in_runs runs i ≡ true
unfolding is_in_runs
is_in_runs-at runs i n run h is inside = list_any_at (λ r. is_in_run r i) runs n run h (ap (λ r. is_in_run r i) (sym is) ∙ inside)

pub is_in_runs-all : (runs : List Run) (i n : ℕ) → length runs ≤ n → is_in_runs (take n runs) i ≡ false → is_in_runs runs i ≡ false
is_in_runs-all runs i n h e = ap (λ rs. is_in_runs rs i) (sym (take_all n runs h)) ∙ e

-- what the code reads at a number
pub read-run : (runs : List Run) (n : ℕ) → n < length runs
    → get_or runs n (record { start = 0; length = 0 }) ≡ get_or runs n (get_or runs n (record { start = 0; length = 0 }))
read-run runs n h = get_or_default runs n (record { start = 0; length = 0 }) (get_or runs n (record { start = 0; length = 0 })) h

pub run-at : (runs : List Run) (n : ℕ) → n < length runs → IsRunAt runs n (get_or runs n (record { start = 0; length = 0 }))
run-at runs n h = record { within = h; is = read-run runs n h }

-- ---- equal runs

pub same-run-Decides : (run other : Run) → Decides (eqb run.start other.start && eqb run.length other.length) (run ≡ other)
same-run-Decides run other = (
  λ h.
      let parts = and_parts (eqb run.start other.start) (eqb run.length other.length) h in
      let start : run.start ≡ other.start = eqb-true run.start other.start parts.0 in
      let long : run.length ≡ other.length = eqb-true run.length other.length parts.1 in
      λ i. record { start = start i; length = long i },
  λ e. and_from _ _ (eq-eqb run.start other.start (ap (λ r. r.start) e)) (eq-eqb run.length other.length (ap (λ r. r.length) e)),
)

-- ---- the runs before an index

pub record AreDropped (runs : List Run) (n at : ℕ) : Type 0 where
  pub rising : (to : ℕ) × AreRuns 0 to (drop n runs)
  pub same : (i : ℕ) → at ≤ i → is_in_runs (drop n runs) i ≡ is_in_runs runs i

pub AreDropped-none : (runs : List Run) (at : ℕ) → ((to : ℕ) × AreRuns 0 to runs) → AreDropped runs 0 at
AreDropped-none runs at rising = record { rising = rising; same = λ i h. refl }

drop-read : (runs : List Run) (n : ℕ) (run : Run) → n < length runs → run ≡ get_or runs n run → drop n runs ≡ run ∷ drop (n + 1) runs
drop-read runs n run h is = drop_more runs n run h ∙ ap (λ r. r ∷ drop (n + 1) runs) (sym is)

pub AreDropped-more : (runs : List Run) (n at : ℕ) (run : Run) → n < length runs → run ≡ get_or runs n run → run_end run ≤ at
    → AreDropped runs n at → AreDropped runs (n + 1) at
AreDropped-more runs n at run h is end dropped =
    let split = drop-read runs n run h is in
    record {
      rising = (
        dropped.rising.0,
        AreRuns-lower (run_end run + 1) dropped.rising.0 0 (drop (n + 1) runs) (omega arith)
            (subst (AreRuns 0 dropped.rising.0) split dropped.rising.1).3,
      );
      same = λ i l. sym (is_in_runs-cons run (drop (n + 1) runs) i ∙ or-second (is_in_run run i) _ (behind-run run i (omega (arith, end, l))))
          ∙ ap (λ rs. is_in_runs rs i) (sym split) ∙ dropped.same i l;
    }

pub AreDropped-here : (runs : List Run) (n at : ℕ) (run : Run) → n < length runs → run ≡ get_or runs n run → at < run_end run
    → AreDropped runs n at → ArePassed runs n at
AreDropped-here runs n at run h is end dropped = record {
  within = omega (arith, h);
  rising = dropped.rising;
  same = dropped.same;
  ahead = subst (EndBehind at) (sym (drop-read runs n run h is)) (omega (arith, end));
}

pub AreDropped-all : (runs : List Run) (n at : ℕ) → n ≡ length runs → AreDropped runs n at → ArePassed runs n at
AreDropped-all runs n at e dropped = record {
  within = omega (arith, e);
  rising = dropped.rising;
  same = dropped.same;
  ahead = subst (EndBehind at) (sym (drop_all n runs (omega (arith, e)))) tt;
}

-- the runs from a number on
pub AreRuns-tail : (from to n : ℕ) (runs : List Run) → AreRuns from to runs → AreRuns from to (drop n runs)
AreRuns-tail from to zero runs rising = rising
AreRuns-tail from to (suc n) [] rising = tt
AreRuns-tail from to (suc n) (run ∷ runs) rising =
    let start = rising.0 in
    AreRuns-lower (run_end run + 1) to from (drop n runs) (omega (arith, start)) (AreRuns-tail (run_end run + 1) to n runs rising.3)

-- with a run all before it are dropped
dropped-with : {run : Run} (from to n at : ℕ) (runs : List Run) → AreRuns from to runs → IsRunAt runs n run → run_end run ≤ at
    → AreDropped runs (n + 1) at × (from ≤ run.start)
dropped-with from to n at [] rising here end = absurd (omega (arith, here.within))
dropped-with {run} from to zero at (r ∷ runs) rising here end = (
  AreDropped-more (r ∷ runs) 0 at run here.within here.is end
      (AreDropped-none (r ∷ runs) at (to, AreRuns-lower from to 0 (r ∷ runs) (omega arith) rising)),
  subst (λ s. from ≤ s) (sym (ap (λ x. x.start) here.is)) rising.0,
)
dropped-with {run} from to (suc n) at (r ∷ runs) rising here end =
    let behind : IsRunAt runs n run = record { within = omega (arith, here.within); is = here.is } in
    let rest = dropped-with (run_end r + 1) to n at runs rising.3 behind end in
    let above = rest.1 in
    let start = rising.0 in
    let count : suc (n + 1) ≡ suc n + 1 = omega arith in (
      subst (λ m. AreDropped (r ∷ runs) m at) count (record {
        rising = rest.0.rising;
        same = λ i l. rest.0.same i l ∙ sym (is_in_runs-cons r runs i ∙ or-second (is_in_run r i) _ (behind-run r i (omega (arith, l, end, above))));
      }),
      omega (arith, above, start),
    )

-- ---- the first run that ends after an index

ends-above : (from to j : ℕ) (d : Run) (runs : List Run) → AreRuns from to runs → j < length runs → from ≤ run_end (get_or runs j d)
ends-above from to j d [] rising h = absurd (omega (arith, h))
ends-above from to zero d (run ∷ runs) rising h = let start = rising.0 in omega (arith, start)
ends-above from to (suc j) d (run ∷ runs) rising h =
    let start = rising.0 in
    let rest = ends-above (run_end run + 1) to j d runs rising.3 (omega (arith, h)) in
    omega (arith, start, rest)

ends-rise : (from to i j : ℕ) (d : Run) (runs : List Run) → AreRuns from to runs → i ≤ j → j < length runs
    → run_end (get_or runs i d) ≤ run_end (get_or runs j d)
ends-rise from to i j d [] rising l h = absurd (omega (arith, h))
ends-rise from to zero zero d (run ∷ runs) rising l h = omega arith
ends-rise from to zero (suc j) d (run ∷ runs) rising l h =
    let rest = ends-above (run_end run + 1) to j d runs rising.3 (omega (arith, h)) in
    omega (arith, rest)
ends-rise from to (suc i) zero d (run ∷ runs) rising l h = absurd (omega (arith, l))
ends-rise from to (suc i) (suc j) d (run ∷ runs) rising l h =
    ends-rise (run_end run + 1) to i j d runs rising.3 (omega (arith, l)) (omega (arith, h))

-- the runs that end by an index come before the others
pub runs-parted : (runs : List Run) (at : ℕ) → ((to : ℕ) × AreRuns 0 to runs) → IsPartitionedBy (λ (run : Run). leb (run_end run) at) runs
runs-parted runs at rising = λ i j d l h e.
    let rise = ends-rise 0 rising.0 i j d runs rising.1 l h in
    let end = leb-true (run_end (get_or runs j d)) at e in
    le-leb (run_end (get_or runs i d)) at (omega (arith, rise, end))

dropped-at : (runs : List Run) (n at : ℕ) → ((to : ℕ) × AreRuns 0 to runs) → n ≤ length runs
    → ((i : ℕ) → i < n → leb (run_end (get_or runs i (record { start = 0; length = 0 }))) at ≡ true) → AreDropped runs n at
dropped-at runs zero at rising h end = AreDropped-none runs at rising
dropped-at runs (suc n) at rising h end =
    let here = run-at runs n (omega (arith, h)) in
    let count : n + 1 ≡ suc n = omega arith in
    subst (λ m. AreDropped runs m at) count
    (dropped-with 0 rising.0 n at runs rising.1 here (leb-true _ at (end n (omega arith)))).0

pub passed-at : (runs : List Run) (n at : ℕ) → ((to : ℕ) × AreRuns 0 to runs) → n ≤ length runs
    → IsPartitionPoint (λ (run : Run). leb (run_end run) at ≡ true) (λ run. leb (run_end run) at ≡ false) runs n → ArePassed runs n at
passed-at runs n at rising h point =
    let dropped = dropped-at runs n at rising h (λ i l. point.0 i (record { start = 0; length = 0 }) (omega arith) (omega (arith, l))) in
    ⊎_elim
    (λ l. AreDropped-here runs n at _ l (read-run runs n l)
    (leb-false _ at (point.1 n (record { start = 0; length = 0 }) (omega arith) (omega (arith, l)))) dropped)
    (λ l. AreDropped-all runs n at (omega (arith, l, h)) dropped)
    (cases_lt n (length runs))
