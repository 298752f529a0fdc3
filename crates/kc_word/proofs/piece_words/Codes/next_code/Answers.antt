use Rattle.std.proofs.Common.{vec_len, ◌≡◌, false, ◌-◌, ◌*◌, ◌/◌, ◌%◌, ◌^◌, ◌<◌, length, get_or, bit_and, take, drop, ap, sym, ◌∙◌, arith}
use Rattle.std.proofs.lemmas.Nat.{and_mask}
use Rattle.std.proofs.lemmas.List.{get_or_read_under}
use Rattle.kc_word.specs.Runs.{is_in_runs}
use Rattle.kc_word.specs.PackedPiece.{Reading, bytes_of}
use Rattle.kc_word.specs.Walking.{code_of}
use Rattle.kc_word.proofs.PackedLemmas.{length-codes_of, get_or-codes_of}
use Rattle.kc_word.proofs.PieceLemmas.{code-of-byte, code-of-gap}
use Rattle.kc_word.proofs.RunLemmas.{past-all, before-next, in-next, behind-next, read-run}
use Rattle.kc_word.proofs.Readings.{reading-long, reading-byte}
use Rattle.kc_word.proofs.piece_words.Codes.next_code.Goals as goal
use Rattle.kc_word.proofs.piece_words.Codes.next_code.Goals.{After-bases, After-index}
use Rattle.kc_word.proofs.piece_words.Codes.next_code.Goals.{else-self-via-then-self+else-self-at, else-self-via-else-self}

-- a byte is left
left : (c : After-bases) → c.self.inside.at < c.self.inside.to
left c =
    let long = sym (reading-long c.self.invariant) ∙ ap (λ r. length r.bytes) c.self.view_is in
    let at = ap (λ r. r.taken) c.self.view_is in
    let begun = c.self.invariant.begun in
    let below = c.requires in
    omega (arith, long, at, below, begun)

-- its code is in the numbers
packed : (c : After-bases) → (c.self.inside.at < c.bases.inside.len) × (c.self.inside.at / 32 < vec_len c.bases.inside.numbers)
packed c =
    let some = left c in
    let inside = c.self.invariant.inside in
    let count = sym (length-codes_of c.bases.inside.numbers.items c.bases.inside.len) ∙ ap length c.bases.view_is in
    let exact = c.bases.invariant.exact in
    let numbers = c.bases.inside.numbers.ok.0 in
    (omega (arith, some, inside, count), omega (arith, some, inside, count, exact, numbers))

pub index-requires : goal.index-requires
index-requires c = (packed (goal.at.index-requires c).After-bases).1

pub invariant_of-self-else-at-run : goal.invariant_of-self-else-at-run
invariant_of-self-else-at-run c =
    let some = left (goal.at.invariant_of-self-else-at-run c).After-bases in
    let begun = c.self.invariant.begun in
    let low = c.if-self-at.true in
    let high = c.if-at-run.false in
    record {
      piece = c.self.invariant.piece;
      passed = (behind-next c.self.inside.runs.now c.self.inside.next c.self.inside.at _ c.self.invariant.passed c.if-self.true
          (read-run c.self.inside.runs.now c.self.inside.next c.if-self.true) (omega (arith, low, high))).1;
      begun = omega (arith, begun);
      within = omega (arith, some);
      inside = c.self.invariant.inside;
      fits = c.self.invariant.fits;
    }

-- the byte at the place is the next one
next-byte : (c : After-bases) → code_of (get_or (bytes_of c.self.inside.bases.now c.self.inside.runs.now) c.self.inside.at 0)
    ≡ code_of (get_or c.args.self.now.bytes c.args.self.now.taken 0)
next-byte c =
    let some = left c in
    ap code_of
    (ap (λ j. get_or (bytes_of c.self.inside.bases.now c.self.inside.runs.now) j 0) (omega arith)
    ∙ reading-byte c.self.invariant 0 (omega (arith, some))
    ∙ ap (λ j. get_or (take (c.self.inside.to - c.self.inside.from) (drop c.self.inside.from (bytes_of c.self.inside.bases.now c.self.inside.runs.now))) j 0)
    (omega arith))
    ∙ ap (λ (r : Reading). code_of (get_or r.bytes r.taken 0)) c.self.view_is

-- outside the runs its code is that in the numbers
base-found : (c : After-index) → is_in_runs c.self.inside.runs.now c.self.inside.at ≡ false
    → bit_and (c.index.result.now / 2 ^ (62 - 2 * (c.self.inside.at % 32))) 3 ≡ code_of (get_or c.args.self.now.bytes c.args.self.now.taken 0)
base-found c outside =
    let before = (goal.at.After-index c).After-bases in
    let some = left before in
    let inside = c.self.invariant.inside in
    code-of-byte c.self.inside.bases.now c.self.inside.runs.now c.self.inside.at _ c.self.invariant.piece (omega (arith, some, inside)) outside
    (and_mask (c.index.result.now / 2 ^ (62 - 2 * (c.self.inside.at % 32))) 2
    ∙ ap (λ w. w / 2 ^ (62 - 2 * (c.self.inside.at % 32)) % 4)
    (get_or_read_under c.bases.inside.numbers.items (c.self.inside.at / 32) _ _ 0 c.index.ensures (packed before).1 c.bases.inside.numbers.ok.0)
    ∙ sym (get_or-codes_of c.bases.inside.numbers.items c.bases.inside.len c.self.inside.at 0 (packed before).0)
    ∙ ap (λ cs. get_or cs c.self.inside.at 0) c.bases.view_is)
    ∙ next-byte before

-- in a run it is 4, the code of N
pub returns-then-at-run-clause-code : goal.returns-then-at-run-clause-code
returns-then-at-run-clause-code c =
    let before = (goal.at.returns-then-at-run-clause-code c).After-bases in
    let some = left before in
    let inside = c.self.invariant.inside in
    let low = c.if-self-at.true in
    let high = c.if-at-run.true in
    code-of-gap c.self.inside.bases.now c.self.inside.runs.now c.self.inside.at (omega (arith, some, inside))
    (sym (in-next c.self.inside.runs.now c.self.inside.next c.self.inside.at _ c.self.invariant.passed c.if-self.true
    (read-run c.self.inside.runs.now c.self.inside.next c.if-self.true) (low, omega (arith, low, high))).0)
    ∙ next-byte before

pub returns-else-at-run-clause-code : goal.returns-else-at-run-clause-code
returns-else-at-run-clause-code c =
    let low = c.if-self-at.true in
    let high = c.if-at-run.false in
    base-found (goal.at.returns-else-at-run-clause-code c).After-index
    (sym (behind-next c.self.inside.runs.now c.self.inside.next c.self.inside.at _ c.self.invariant.passed c.if-self.true
    (read-run c.self.inside.runs.now c.self.inside.next c.if-self.true) (omega (arith, low, high))).0)

pub returns-else-self-clause-code : goal.returns-else-self-clause-code
returns-else-self-clause-code c =
    let passed = c.self.invariant.passed in
    base-found (goal.at.returns-else-self-clause-code c).After-index (elim c.else-self.branch [
      | else-self-via-then-self+else-self-at w ↦
          sym (before-next c.self.inside.runs.now c.self.inside.next c.self.inside.at _ passed w.if-self.true
          (read-run c.self.inside.runs.now c.self.inside.next w.if-self.true) w.if-self-at.false).0
      | else-self-via-else-self w ↦
          let most = passed.within in
          let end = w.if-self.false in
          sym (past-all c.self.inside.runs.now c.self.inside.next c.self.inside.at passed (omega (arith, most, end))).0
    ])
