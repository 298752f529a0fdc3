use Rattle.std.proofs.Common.{◌++◌, ◌∷◌, [], List, ℕ}
use Rattle.std.proofs.lemmas.Result.{err_from_is_err_and}
use Rattle.kc_fastx.specs.Fastq.{at_sign, plus_sign}
use Rattle.kc_select.specs.Texts.{line_of}
use Rattle.kc_select.proofs.TextLemmas.{begins_first, drains_texts, drains_then_begins, on_ok, on_err}
use Rattle.kc_select.proofs.record_texts.put_fastq.Goals as goal

pub returns-in_err-put_line-clause-err : goal.returns-in_err-put_line-clause-err
returns-in_err-put_line-clause-err g c =
    let block : List ℕ = c.args.block.now in
    let one : List ℕ = line_of (at_sign ∷ c.args.title.now) in
    let two : List ℕ = line_of c.args.bases.now in
    let three : List ℕ = line_of (plus_sign ∷ []) in
    let four : List ℕ = line_of c.args.quals.now in
    let p = err_from_is_err_and c.from_residual.result c.from_residual.ensures.1 in rw p.1
    (begins_first block (one ++ two ++ three) four (begins_first block (one ++ two) three
    (begins_first block one two c.in_err-put_line.ensures.err)))

pub returns-in_err-put_line-2-clause-err : goal.returns-in_err-put_line-2-clause-err
returns-in_err-put_line-2-clause-err g c =
    let block : List ℕ = c.args.block.now in
    let one : List ℕ = line_of (at_sign ∷ c.args.title.now) in
    let two : List ℕ = line_of c.args.bases.now in
    let three : List ℕ = line_of (plus_sign ∷ []) in
    let four : List ℕ = line_of c.args.quals.now in
    let p = err_from_is_err_and c.from_residual-in_err-put_line-2.result
    c.from_residual-in_err-put_line-2.ensures.1 in rw p.1
    (begins_first block (one ++ two ++ three) four (begins_first block (one ++ two) three
    (drains_then_begins block one two c.in_ok-put_line.ensures.ok c.in_err-put_line-2.ensures.err)))

pub returns-in_err-put_line-3-clause-err : goal.returns-in_err-put_line-3-clause-err
returns-in_err-put_line-3-clause-err g c =
    let block : List ℕ = c.args.block.now in
    let one : List ℕ = line_of (at_sign ∷ c.args.title.now) in
    let two : List ℕ = line_of c.args.bases.now in
    let three : List ℕ = line_of (plus_sign ∷ []) in
    let four : List ℕ = line_of c.args.quals.now in
    let both = drains_texts block one two c.in_ok-put_line.ensures.ok c.in_ok-put_line-2.ensures.ok in
    let p = err_from_is_err_and c.from_residual-in_err-put_line-3.result
    c.from_residual-in_err-put_line-3.ensures.1 in rw p.1
    (begins_first block (one ++ two ++ three) four
    (drains_then_begins block (one ++ two) three both c.in_err-put_line-3.ensures.err))

pub returns-clause-ok : goal.returns-clause-ok
returns-clause-ok g c =
    let block : List ℕ = c.args.block.now in
    let one : List ℕ = line_of (at_sign ∷ c.args.title.now) in
    let two : List ℕ = line_of c.args.bases.now in
    let three : List ℕ = line_of (plus_sign ∷ []) in
    let four : List ℕ = line_of c.args.quals.now in
    let both = drains_texts block one two c.in_ok-put_line.ensures.ok c.in_ok-put_line-2.ensures.ok in
    let all = drains_texts block (one ++ two) three both c.in_ok-put_line-3.ensures.ok in
    on_ok c.put_line-4.result (drains_texts block (one ++ two ++ three) four all) c.put_line-4.ensures.ok

pub returns-clause-err : goal.returns-clause-err
returns-clause-err g c =
    let block : List ℕ = c.args.block.now in
    let one : List ℕ = line_of (at_sign ∷ c.args.title.now) in
    let two : List ℕ = line_of c.args.bases.now in
    let three : List ℕ = line_of (plus_sign ∷ []) in
    let four : List ℕ = line_of c.args.quals.now in
    let both = drains_texts block one two c.in_ok-put_line.ensures.ok c.in_ok-put_line-2.ensures.ok in
    let all = drains_texts block (one ++ two) three both c.in_ok-put_line-3.ensures.ok in
    on_err c.put_line-4.result (drains_then_begins block (one ++ two ++ three) four all) c.put_line-4.ensures.err
