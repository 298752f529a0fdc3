use Rattle.std.proofs.Common.{◌-◌, ◌*◌, ◌/◌, ◌^◌, refl}
use Rattle.kc_report.proofs.FormLemmas.{told-first}
use Rattle.kc_report.proofs.table_rows.is_lesser.Goals as goal

pub returns : goal.returns
returns c =
    told-first c.args.k c.args.word.0 c.get-bases.result (c.args.word.0 / 2 ^ (2 * c.get-bases.result - 8)) c.reverse_complement_of_four-opposite.result
    c.requires c.get-bases.ensures.value c.if-bases-lt4.false refl c.reverse_complement_of_four-opposite.ensures c.if-first-opposite.false
