use Rattle.std.proofs.Common.{◌≡◌, get_or, refl, arith}
use Rattle.kc_report.proofs.FieldLemmas.{behind_first, first_is, tells, counted, fields_said}
use Rattle.kc_report.proofs.fields.long_count_of.Goals as goal
use Rattle.kc_report.proofs.fields.long_count_of.Goals.{then-digits-eq48-via-then-digits-eq48}
use Rattle.kc_report.proofs.fields.long_count_of.Goals.{then-digits-eq48-via-else-digits-eq48+then-digits-many-ne10}

pub returns-then-many-lt1-clause-none : goal.returns-then-many-lt1-clause-none
returns-then-many-lt1-clause-none c = λ count least greatest at.
    let told = tells c.args.fields.now count c.digits_of-count.ensures (behind_first c.args.fields.now) least greatest at
    in
    let some = told.some in
    let most = told.most in
    let inside = told.inside in
    let test = c.then-many-lt1.either in
    omega (arith, some, most, inside, test)

pub returns-then-digits-eq48-clause-none : goal.returns-then-digits-eq48-clause-none
returns-then-digits-eq48-clause-none c = λ count least greatest at.
    let told = tells c.args.fields.now count c.digits_of-count.ensures (behind_first c.args.fields.now) least greatest at
    in
    let first = told.first in
    let end = told.end in
    elim c.then-digits-eq48.branch [
      | then-digits-eq48-via-then-digits-eq48 w ↦ let test = w.if-digits-eq48.true in omega (arith, first, test)
      | then-digits-eq48-via-else-digits-eq48+then-digits-many-ne10 w ↦ w.if-digits-many-ne10.true end
    ]

pub returns-clause-some : goal.returns-clause-some
returns-clause-some c =
    let first : get_or c.args.fields.now 0 0 ≡ 32 = omega arith in
    let within = c.digits_of-count.ensures.within in
    fields_said c.args.fields.now (first_is c.args.fields.now c.in-32.len_at_least first refl)
    (omega (arith, within)) c.if-digits-many-ne10.false
    (counted c.digits_of-count.ensures c.if-many-lt1.false c.if-many-gt-MAX_DIGITS.false c.if-digits-eq48.false)
