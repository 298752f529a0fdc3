use Rattle.std.proofs.Common.{◌∙◌}
use Rattle.kc_report.proofs.FieldLemmas.{other_length, spelled-all, spelled-none_of}
use Rattle.kc_report.proofs.fields.word_of.Goals as goal

pub returns-then-letters-get-clause-none : goal.returns-then-letters-get-clause-none
returns-then-letters-get-clause-none c =
    λ word below. other_length c.args.k c.get.result word c.args.letters.now c.get.ensures.value c.if-letters-get.true

pub returns-in_default-clause-none : goal.returns-in_default-clause-none
returns-in_default-clause-none c =
    λ word below. spelled-none_of c.args.k word c.args.letters.now c.in_default.ensures.none

pub returns-in_default-number_of_rest-clause-none : goal.returns-in_default-number_of_rest-clause-none
returns-in_default-number_of_rest-clause-none c =
    λ word below. spelled-none_of c.args.k word c.args.letters.now c.in_default-number_of_rest.ensures.none

pub returns-clause-below : goal.returns-clause-below
returns-clause-below c = (spelled-all c.args.k c.args.letters.now c.in-Some-number_of_rest.number
    (c.if-letters-get.false ∙ c.get.ensures.value) c.in-Some-number_of_rest.ensures.some).below

pub returns-clause-some : goal.returns-clause-some
returns-clause-some c = (spelled-all c.args.k c.args.letters.now c.in-Some-number_of_rest.number
    (c.if-letters-get.false ∙ c.get.ensures.value) c.in-Some-number_of_rest.ensures.some).spelled
