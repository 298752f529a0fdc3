use Rattle.std.proofs.Common.{◌≡◌, ◌∙◌, ℕ, List, ◌++◌, ◌∷◌, [], ap, sym, subst, append_assoc, append-nil, length-append, arith, length}
use Rattle.kc_io.specs.Sources.{Seen}
use Rattle.kc_fastx.specs.Reads.{Read}
use Rattle.kc_fastx.specs.Reading.{HasGiven, Stand}
use Rattle.kc_tool.proofs.read_ahead.Reader.read_some.Goals as goal

-- A read that was given after the reads of a buffer, which was then appended to them.
given_behind : {start now : Seen} {limit : ℕ} {stand : Stand} (reads front : List Read) {items : List Read} (read : Read)
    → items ≡ front ++ read ∷ [] → HasGiven start now limit ((reads ++ front) ++ read ∷ []) stand
    → HasGiven start now limit (reads ++ items) stand
given_behind {start} {now} {limit} {stand} reads front read are given =
    subst (λ v. HasGiven start now limit v stand)
    (append_assoc reads front (read ∷ []) ∙ ap (λ v. reads ++ v) (sym are)) given

pub loop-init : goal.loop-init
loop-init g c =
    let now = g.R.Source.seen c.args.source.now in
    record {
      given = λ start limit reads given. rw c.requires
          (subst (λ v. HasGiven start now limit v c.args.self.now.reading) (sym (append-nil reads)) given);
      used = rw c.requires (omega arith);
      counted = ap length c.requires;
    }

pub returns-in-Err : goal.returns-in-Err
returns-in-Err g c = record {
  given = λ start limit reads given.
      c.in-Err.ensures.given start limit (reads ++ c.loop.buffer.reads.items) (c.loop.invariant.given start limit reads given);
  used = tt;
  some = λ is. cc;
}

pub returns-in_default : goal.returns-in_default
returns-in_default g c = record {
  given = λ start limit reads given.
      let next = rw c.in_default.is at c.in-Ok.ensures.given start limit (reads ++ c.loop.buffer.reads.items)
      (c.loop.invariant.given start limit reads given) in
      rw c.report.ensures next;
  used = rw c.report.ensures (omega (arith, c.loop.invariant.used, c.in-Ok.ensures.few.counted));
  some = λ is. cc;
}

pub returns-then-is_full : goal.returns-then-is_full
returns-then-is_full g c =
    let more = rw c.in-Some.is at c.in-Ok.ensures.used in
    let long = ap length c.in_ok-push.ensures in
    let pushed = length-append c.loop.buffer.reads.items (c.in-Some.read ∷ []) in
    record {
      given = λ start limit reads given.
          let next = rw c.in-Some.is at c.in-Ok.ensures.given start limit (reads ++ c.loop.buffer.reads.items)
          (c.loop.invariant.given start limit reads given) in
          rw c.report.ensures (given_behind reads c.loop.buffer.reads.items c.in-Some.read c.in_ok-push.ensures next);
      used = rw c.report.ensures (omega (arith, more, long, pushed, c.loop.invariant.used));
      some = λ is. omega (arith, long, pushed);
    }

pub returns : goal.returns
returns g c = record {
  given = c.loop.invariant.given;
  used = c.loop.invariant.used;
  some = λ is. omega (arith, c.loop.invariant.counted, c.loop-test.false);
}

pub loop-preserved : goal.loop-preserved
loop-preserved g c =
    let more = rw c.in-Some.is at c.in-Ok.ensures.used in
    let long = ap length c.in_ok-push.ensures in
    let pushed = length-append c.loop.buffer.reads.items (c.in-Some.read ∷ []) in
    record {
      given = λ start limit reads given.
          let next = rw c.in-Some.is at c.in-Ok.ensures.given start limit (reads ++ c.loop.buffer.reads.items)
          (c.loop.invariant.given start limit reads given) in
          rw c.report.ensures (given_behind reads c.loop.buffer.reads.items c.in-Some.read c.in_ok-push.ensures next);
      used = rw c.report.ensures (omega (arith, more, long, pushed, c.loop.invariant.used));
      counted = omega (arith, long, pushed, c.loop.invariant.counted);
    }
