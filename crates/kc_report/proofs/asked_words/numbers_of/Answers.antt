use Rattle.std.proofs.Common.{◌≡◌, [], get_or, map, refl, sym, ap, ◌∙◌, arith}
use Rattle.std.specs.Prelude.{string_bytes}
use Rattle.std.proofs.lemmas.List.{length-map}
use Rattle.kc_kmer.specs.Word.{form, number}
use Rattle.kc_kmer.proofs.WordLemmas.{number-text}
use Rattle.kc_report.specs.AskedWords.{asked_number}
use Rattle.kc_report.proofs.FieldLemmas.{never}
use Rattle.kc_report.proofs.AskedLemmas.{numbered_all, numbered_more, numbered_without}
use Rattle.kc_report.proofs.QueryLemmas.{below_map, word_of}
use Rattle.kc_report.proofs.asked_words.numbers_of.Goals as goal
use Rattle.kc_report.proofs.asked_words.numbers_of.Goals.{in-Some+in_ok-push, in_default}

pub loop-word-preserved : goal.loop-word-preserved
loop-word-preserved c =
    let words = c.args.asked.now in
    let item = c.word-item.result in
    let i = c.loop-word.word-index in
    let within = below_map string_bytes words i c.loop-word-test.true in
    let at : get_or (map string_bytes words) i [] ≡ c.as_bytes.result.now =
    word_of string_bytes words i item item c.loop-word-test.true (sym c.word-item.is) ∙ sym c.as_bytes.ensures.value in
    elim c.match-pack.branch [
      | in-Some+in_ok-push w ↦
          let n = w.counted_form.result.0 in
          let is : n ≡ asked_number c.args.both c.as_bytes.result.now =
          sym (number-text c.args.k n w.counted_form.ensures.below)
          ∙ ap number (w.counted_form.ensures.formed ∙ ap (form c.args.both) w.in-Some.ensures.spelled) in
          rw (w.numbers-is, w.in_ok-push.ensures.items)
          (numbered_more n c.as_bytes.result.now c.loop-word.invariant within at (w.in-Some.ensures.found.0 refl) is)
      | in_default w ↦
          rw w.numbers-is
          (numbered_without c.as_bytes.result.now c.loop-word.invariant at (λ askable. never (w.in_default.ensures.found.1 askable)))
    ]

pub returns : goal.returns
returns c =
    let words = c.args.asked.now in
    let long = length-map words string_bytes in
    numbered_all c.loop-word.invariant (omega (arith, c.loop-word-test.false, long))
