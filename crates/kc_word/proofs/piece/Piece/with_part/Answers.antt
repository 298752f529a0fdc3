use Rattle.std.proofs.Common.{ℕ, ◌+◌, ◌-◌, ◌^◌, ◌<◌, ◌++◌, leb, List, length, get_or, ap, sym, ◌∙◌, subst, arith, rules, take, drop}
use Rattle.std.proofs.lemmas.List.Sorted.{IsPartitionPoint-from_clause}
use Rattle.kc_word.specs.declared.runs.Run.{Run}
use Rattle.kc_word.specs.Runs.{run_end, AreRuns}
use Rattle.kc_word.specs.PackedPiece.{bytes_of}
use Rattle.kc_word.proofs.PackedLemmas.{length-codes_of}
use Rattle.kc_word.proofs.PieceLemmas.{length-bytes_of}
use Rattle.kc_word.proofs.RunLemmas.{AreJoined, run-at, runs-parted, passed-at}
use Rattle.kc_word.proofs.Clipping.{AreClipped, AreAppended, ClipStep, IsAppending, appending-none, appending-rising, appending-more, appending-left, appending-end, appending-past}
use Rattle.kc_word.proofs.Joining.{IsJoined, part-joined}
use Rattle.kc_word.proofs.piece.Piece.with_part.Goals as goal
use Rattle.kc_word.proofs.piece.Piece.with_part.Goals.{After-min-end, then-start-end+in_ok-push_run, else-start-end, else-loop-n-test, then-loop-n-test+then-run-to}

pub push_part-requires-clause-within : goal.push_part-requires-clause-within
push_part-requires-clause-within c =
    let long = sym (length-bytes_of c.other.inside.bases c.other.inside.runs.items) ∙ ap length c.other.view_is in
    let within = c.requires.within in
    omega (arith, long, within)

pub push_part-requires-clause-fits : goal.push_part-requires-clause-fits
push_part-requires-clause-fits c =
    let count = sym (length-codes_of c.self-inside.inside.0.0.numbers.items c.self-inside.inside.0.0.len) ∙ ap (λ p. length p.bases) c.self-inside.view_is in
    let fits : c.self-inside.inside.0.0.len < 2 ^ 64 = first_of (omega arith, search rules) in
    let room = c.if-to-from.false in
    omega (arith, count, fits, room)

pub loop-n-init : goal.loop-n-init
loop-n-init c =
    let count = sym (length-codes_of c.self-inside.inside.0.0.numbers.items c.self-inside.inside.0.0.len) ∙ ap (λ p. length p.bases) c.self-inside.view_is in
    let rising = subst (λ (rs : List Run). (to : ℕ) × AreRuns 0 to rs) (sym c.as_slice-others.ensures.value)
    (length c.other.inside.bases, c.other.invariant.rising) in
    appending-none (subst (λ n. AreRuns 0 n c.self.inside.runs.items) (sym count) c.self.invariant.rising)
    (passed-at c.as_slice-others.result.now c.partition_point-n.result c.args.from rising c.partition_point-n.ensures.bound
    (IsPartitionPoint-from_clause (λ (run : Run). leb (run_end run) c.args.from) c.as_slice-others.result.now c.partition_point-n.result
    c.partition_point-n.ensures.partitioned (runs-parted c.as_slice-others.result.now c.args.from rising) (λ a r f called. search rules)))

-- what of a run is taken
abbrev step : (c : After-min-end) → ClipStep c.as_slice-others.result.now c.loop-n.n c.args.from c.args.to
step c =
    let whole = c.saturating_add.ensures in
    let least = c.min-end.ensures in
    let fits = c.ranges.to.fits in
    record {
      run = get_or c.as_slice-others.result.now c.loop-n.n (record { start = 0; length = 0 });
      start = c.max-start.result;
      end = c.min-end.result;
      here = run-at c.as_slice-others.result.now c.loop-n.n c.loop-n-test.true;
      start_is = c.max-start.ensures;
      end_is = omega (arith, whole, least, fits);
    }

pub push_run-requires-clause-rising : goal.push_run-requires-clause-rising
push_run-requires-clause-rising c =
    appending-rising (step (goal.at.push_run-requires-clause-rising c).After-min-end) c.if-start-end.true c.loop-n.invariant

pub loop-n-preserved : goal.loop-n-preserved
loop-n-preserved c =
    let taken = step (goal.at.loop-n-preserved c).After-min-end in
    elim c.if-start-end.branch [
      | then-start-end+in_ok-push_run w ↦
          subst (λ (rs : List Run). IsAppending c.self.inside.runs.items c.as_slice-others.result.now rs c.self-inside.inside.0.0.len c.partition_point-n.result (c.loop-n.n + 1) c.args.from c.args.to)
          (sym (ap (λ v. v.items) w.runs-is))
          (appending-more w.push_run.new.runs.items taken w.if-start-end.true c.loop-n.invariant w.in_ok-push_run.ensures.grown)
      | else-start-end w ↦
          subst (λ (rs : List Run). IsAppending c.self.inside.runs.items c.as_slice-others.result.now rs c.self-inside.inside.0.0.len c.partition_point-n.result (c.loop-n.n + 1) c.args.from c.args.to)
          (sym (ap (λ v. v.items) w.runs-is)) (appending-left taken w.if-start-end.false c.loop-n.invariant)
    ]

-- the bytes and the runs of both
joined : (c : goal.Left-loop-n) → IsJoined (bytes_of c.self.inside.bases c.self.inside.runs.items)
    (take (c.args.to - c.args.from) (drop c.args.from (bytes_of c.other.inside.bases c.other.inside.runs.items))) c.push_part.new.self c.loop-n.runs.items
joined c =
    let long = sym (length-bytes_of c.other.inside.bases c.other.inside.runs.items) ∙ ap length c.other.view_is in
    let within = c.requires.within in
    let appended : AreAppended c.self.inside.runs.items c.as_slice-others.result.now c.loop-n.runs.items c.self-inside.inside.0.0.len c.args.from c.args.to =
    elim c.loop-n-test.branch [
      | else-loop-n-test w ↦ appending-end w.loop-n-test.false c.loop-n.invariant
      | then-loop-n-test+then-run-to w ↦ appending-past (run-at c.as_slice-others.result.now c.loop-n.n w.loop-n-test.true) w.if-run-to.true c.loop-n.invariant
    ] in
    part-joined c.self.inside.bases c.other.inside.bases c.self.inside.runs.items c.other.inside.runs.items c.args.from c.args.to (record {
      clipped = appended.clipped;
      next = c.loop-n.runs.items;
      all = c.push_part.new.self;
      piece = c.self.invariant;
      other = c.other.invariant;
      within = (c.requires.ordered, omega (arith, long, within));
      clipped_are = subst (λ (rs : List Run). AreClipped rs appended.clipped c.args.from c.args.to) c.as_slice-others.ensures.value appended.clipped_are;
      next_are =
          subst (λ n. AreJoined c.self.inside.runs.items appended.clipped c.loop-n.runs.items n) (sym (length-codes_of c.self-inside.inside.0.0.numbers.items c.self-inside.inside.0.0.len) ∙ ap (λ p. length p.bases) c.self-inside.view_is)
          appended.joined;
      all_are = c.in_ok-push_part.ensures;
    })

pub invariant_of-result : goal.invariant_of-result
invariant_of-result c = (joined c).piece

pub returns : goal.returns
returns c =
    (joined c).bytes_are
    ∙ ap (λ bytes. bytes ++ take (c.args.to - c.args.from) (drop c.args.from (bytes_of c.other.inside.bases c.other.inside.runs.items))) c.self.view_is
    ∙ ap (λ bytes. c.args.self ++ take (c.args.to - c.args.from) (drop c.args.from bytes)) c.other.view_is
