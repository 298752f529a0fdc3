-- Runs that are put before others.
use Rattle.std.proofs.Common.{◌≡◌, ℕ, cond, ◌+◌, ◌<◌, Bool, true, false, List, [], ◌∷◌, ◌++◌, refl, ap, sym, ◌∙◌, arith, eq-eqb, ne_eqb}
use Rattle.std.proofs.lemmas.Bool.{and_from, and_left, and_right}
use Rattle.std.specs.Prelude.{Option, None, Some, IfSome}
use Rattle.std.specs.Option.{option_to_list}
use Rattle.kc_select.specs.declared.run_walk.CountRun.{CountRun}
use Rattle.kc_select.specs.Profiles.{run_of, continues, put_before, runs_from}
use Rattle.kc_select.specs.RunWalks.{runs_with}

-- a run before another one and a rest, which that one continues or not
abbrev put_where : Bool → CountRun → CountRun → List CountRun → List CountRun
put_where joined run next rest = cond joined (run_of run.start next.end run.count ∷ rest) (run ∷ next ∷ rest)

-- if a run is not continued by one, it is not by the first of this and others either
apart_where : (joined : Bool) (run one next : CountRun) (rest : List CountRun) → continues run one ≡ false
    → put_before run (put_where joined one next rest) ≡ run ∷ put_where joined one next rest
unfolding put_before
apart_where true run one next rest apart =
    ap (λ b. put_where b run (run_of one.start next.end one.count) rest) apart
apart_where false run one next rest apart = ap (λ b. put_where b run one (next ∷ rest)) apart

pub put-apart : (run one : CountRun) (runs : List CountRun) → continues run one ≡ false
    → put_before run (put_before one runs) ≡ run ∷ put_before one runs
unfolding put_before
put-apart run one [] apart = ap (λ b. put_where b run one []) apart
put-apart run one (next ∷ rest) apart = apart_where (continues one next) run one next rest apart

-- if a run is continued by one, they are one run before others
continues-same : (start at end count : ℕ) → continues (run_of start at count) (run_of at end count) ≡ true
continues-same start at end count = and_from _ _ (eq-eqb at at refl) (eq-eqb count count refl)

joined_where : (joined : Bool) (start at end count : ℕ) (next : CountRun) (rest : List CountRun)
    → put_before (run_of start at count) (put_where joined (run_of at end count) next rest)
    ≡ put_where joined (run_of start end count) next rest
unfolding put_before
joined_where true start at end count next rest =
    ap (λ b. put_where b (run_of start at count) (run_of at next.end count) rest) (continues-same start at next.end count)
joined_where false start at end count next rest =
    ap (λ b. put_where b (run_of start at count) (run_of at end count) (next ∷ rest)) (continues-same start at end count)

pub put-joined : (start at end count : ℕ) (runs : List CountRun)
    → put_before (run_of start at count) (put_before (run_of at end count) runs)
    ≡ put_before (run_of start end count) runs
unfolding put_before
put-joined start at end count [] =
    ap (λ b. put_where b (run_of start at count) (run_of at end count) []) (continues-same start at end count)
put-joined start at end count (next ∷ rest) =
    joined_where (continues (run_of at end count) next) start at end count next rest

-- a run that ends before a position is not continued by a run from there on
pub put-before-later : (run : CountRun) (p : ℕ) (counts : List (Option ℕ)) → run.end < p
    → put_before run (runs_from p counts) ≡ run ∷ runs_from p counts
unfolding put_before runs_from
put-before-later run p [] later = refl
put-before-later run p (None ∷ counts) later = put-before-later run (p + 1) counts (omega (arith, later))
put-before-later run p (Some count ∷ counts) later =
    put-apart run (run_of p (p + 1) count) (runs_from (p + 1) counts) (and_left _ _ (ne_eqb run.end p (λ same. omega (arith, later, same))))

-- ---- one more count

-- a position without a count ends the run before it
pub gap-step : (last : Option CountRun) (at : ℕ) → IfSome last (λ run. run.end ≡ at) → (counts : List (Option ℕ))
    → runs_with last at (None ∷ counts) ≡ option_to_list last ++ runs_with None (at + 1) counts
unfolding runs_with runs_from
gap-step None at ends counts = refl
gap-step (Some run) at ends counts = put-before-later run (at + 1) counts (omega (arith, ends))

-- the same count again
pub same-step : (run : CountRun) (at count : ℕ) → run.end ≡ at → run.count ≡ count → (counts : List (Option ℕ))
    → runs_with (Some run) at (Some count ∷ counts)
    ≡ runs_with (Some (run_of run.start (at + 1) run.count)) (at + 1) counts
unfolding runs_with runs_from
same-step run at count ends same counts =
    ap (λ n. put_before run (put_before (run_of at (at + 1) n) (runs_from (at + 1) counts))) (sym same)
    ∙ ap (λ n. put_before (run_of run.start n run.count) (put_before (run_of at (at + 1) run.count) (runs_from (at + 1) counts))) ends
    ∙ put-joined run.start at (at + 1) run.count (runs_from (at + 1) counts)

-- another count
pub other-step : (run : CountRun) (at count : ℕ) → ¬ (run.count ≡ count) → (counts : List (Option ℕ))
    → runs_with (Some run) at (Some count ∷ counts)
    ≡ run ∷ runs_with (Some (run_of at (at + 1) count)) (at + 1) counts
unfolding runs_with runs_from
other-step run at count other counts =
    put-apart run (run_of at (at + 1) count) (runs_from (at + 1) counts) (and_right _ _ (ne_eqb run.count count other))

-- a first count
pub first-step : (at count : ℕ) (counts : List (Option ℕ)) → runs_with None at (Some count ∷ counts)
    ≡ runs_with (Some (run_of at (at + 1) count)) (at + 1) counts
unfolding runs_with runs_from
first-step at count counts = refl
