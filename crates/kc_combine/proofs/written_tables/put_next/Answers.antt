use Rattle.std.proofs.Common.{arith, inl, inr}
use Rattle.kc_combine.proofs.written_tables.put_next.Goals as goal

pub returns-in-Err-Table-clause-stops : goal.returns-in-Err-Table-clause-stops
returns-in-Err-Table-clause-stops g c = λ start header bound tables rows put walking.
    let stops = rw c.in-Err-Table.field-0-is at c.in-Err-Table.ensures.stops bound tables rows walking in
    ((c.args.writing.now.waiting, put.drained), stops)

pub returns-in-Err-TooLarge-clause-stops : goal.returns-in-Err-TooLarge-clause-stops
returns-in-Err-TooLarge-clause-stops g c = λ start header bound tables rows put walking.
    let stops = rw c.in-Err-TooLarge.field-0-is at c.in-Err-TooLarge.ensures.stops bound tables rows walking in
    ((c.args.writing.now.waiting, put.drained), inl stops)

pub returns-in_default-clause-goes : goal.returns-in_default-clause-goes
returns-in_default-clause-goes g c = λ bound tables rows walking.
    rw c.in_default.is at c.in-Ok.ensures.goes bound tables rows walking

pub returns-then-row-total-clause-stops : goal.returns-then-row-total-clause-stops
returns-then-row-total-clause-stops g c = λ start header bound tables rows put walking.
    let goes = rw c.in-Some.is at c.in-Ok.ensures.goes bound tables rows walking in
    let sum = put.total in (
      (c.args.writing.now.waiting, put.drained),
      inr (c.in-Some.row, goes, omega (arith, c.if-row-total.true, c.total.ensures.value, c.total.ensures.most, sum)),
    )

pub put-requires-clause-below : goal.put-requires-clause-below
put-requires-clause-below g c = rw c.in-Some.is at c.in-Ok.ensures.word c.args.writing.now.k c.requires.words

pub returns-in-Ok-put-clause-goes : goal.returns-in-Ok-put-clause-goes
returns-in-Ok-put-clause-goes g c = λ bound tables rows walking.
    rw c.in-Some.is at c.in-Ok.ensures.goes bound tables rows walking

pub returns-in-Err-clause-stops : goal.returns-in-Err-clause-stops
returns-in-Err-clause-stops g c = λ start header bound tables rows put walking.
    let goes = rw c.in-Some.is at c.in-Ok.ensures.goes bound tables rows walking in
    inl (c.in-Some.row, goes, c.in-Err.ensures.begun start header rows put)
