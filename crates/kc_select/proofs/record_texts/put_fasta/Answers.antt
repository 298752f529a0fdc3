use Rattle.std.proofs.Common.{◌∷◌}
use Rattle.std.proofs.lemmas.Result.{err_from_is_err_and}
use Rattle.kc_fastx.specs.Fasta.{greater_than}
use Rattle.kc_select.specs.Texts.{line_of}
use Rattle.kc_select.proofs.TextLemmas.{begins_first, drains_then_begins, on_err}
use Rattle.kc_select.proofs.record_texts.put_fasta.Goals as goal

pub returns-in_err-put_line-clause-err : goal.returns-in_err-put_line-clause-err
returns-in_err-put_line-clause-err g c =
    let p = err_from_is_err_and c.from_residual.result c.from_residual.ensures.1 in rw p.1
    (begins_first c.args.block.now (line_of (greater_than ∷ c.args.title.now)) (line_of c.args.bases.now) c.in_err-put_line.ensures.err)

pub returns-clause-err : goal.returns-clause-err
returns-clause-err g c =
    on_err c.put_line-2.result (drains_then_begins c.args.block.now (line_of (greater_than ∷ c.args.title.now))
    (line_of c.args.bases.now) c.in_ok-put_line.ensures.ok) c.put_line-2.ensures.err
