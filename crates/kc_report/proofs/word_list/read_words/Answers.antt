use Rattle.std.proofs.Common.{◌++◌, ◌∙◌, ap, inl, inr, map, refl}
use Rattle.std.specs.Prelude.{string_bytes}
use Rattle.std.proofs.lemmas.Result.{err_from_is_err_and}
use Rattle.kc_gzip.specs.declared.unpacked_intakes.TakeFault.TheVariants as taking
use Rattle.kc_gzip.proofs.IntakesLemmas.{filled_none}
use Rattle.kc_report.specs.WordList.{words_in}
use Rattle.kc_report.proofs.TableReadingLemmas.{begun}
use Rattle.kc_report.proofs.UsedLemmas.{used_ended, used_fails, used_in_vain, used_none}
use Rattle.kc_report.proofs.word_list.read_words.Goals as goal

pub returns-in_err-intake-clause-fault : goal.returns-in_err-intake-clause-fault
returns-in_err-intake-clause-fault g c =
    let p = err_from_is_err_and c.from_residual.result c.from_residual.ensures.1 in
    rw (p.1, p.2) (inl (taking.Memory, used_in_vain (used_none (g.R.Source.seen c.args.reader.now) c.args.limit), refl))

pub returns-in_err-take_text-clause-fault : goal.returns-in_err-take_text-clause-fault
returns-in_err-take_text-clause-fault g c =
    let again = c.from_residual-in_err-take_text in
    let p = err_from_is_err_and again.result again.ensures.1 in
    let why = c.in_err-take_text.field-0.0 in
    let none = begun c.in_ok-intake.ensures (filled_none (g.R.Source.seen c.args.reader.now) c.in_ok-intake.intake) in
    rw (p.1, p.2) (inl
    (why, used_fails (g.R.Source.seen c.take_text.new.reader) why none c.in_err-take_text.ensures.fault, refl))

pub returns-in_err-push_words-clause-fault : goal.returns-in_err-push_words-clause-fault
returns-in_err-push_words-clause-fault g c =
    let again = c.from_residual-in_err-push_words in
    let p = err_from_is_err_and again.result again.ensures.1 in
    let all = begun c.in_ok-intake.ensures c.in_ok-take_text.ensures.filled in
    rw (p.1, p.2) (inr (c.take_text.new.intake.bytes, used_ended all c.in_ok-take_text.ensures.ended, refl))

pub returns-clause-words : goal.returns-clause-words
returns-clause-words g c =
    let all = begun c.in_ok-intake.ensures c.in_ok-take_text.ensures.filled in
    let were = map string_bytes c.args.words.now.items in (
      c.take_text.new.intake.bytes,
      used_ended all c.in_ok-take_text.ensures.ended,
      c.in_ok-push_words.ensures ∙ ap (λ v. were ++ words_in v) c.as_slice.ensures,
    )
