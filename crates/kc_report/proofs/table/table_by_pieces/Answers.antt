use Rattle.std.proofs.Common.{◌≡◌, ◌∙◌, ◌++◌, ap, append_assoc}
use Rattle.std.proofs.lemmas.Result.{err_from_is_err_and}
use Rattle.kc_report.specs.Dumping.{dump_text}
use Rattle.kc_report.specs.Table.{header_line, end_line, ended, rows_text, table_text, end_text}
use Rattle.kc_report.proofs.PieceLemmas.{dump_text-table}
use Rattle.kc_report.proofs.TableLemmas.{first_begun, second_begun, third_written}
use Rattle.kc_report.proofs.table.table_by_pieces.Goals as goal

pub returns-in_err-write_all : goal.returns-in_err-write_all
returns-in_err-write_all g c =
    let tally = c.args.tally.now in
    let header = ended (header_line tally.k tally.both c.args.origin) in
    let bytes : c.as_slice.result.now ≡ header = c.as_slice.ensures ∙ c.push_header.ensures
    ∙ (λ i. c.new-block.ensures i ++ ended (header_line (c.k.ensures i) (c.both.ensures i) c.args.origin)) in
    let whole : table_text tally c.args.origin ≡ header ++ (rows_text tally.k tally.rows ++ end_text tally.rows) =
    append_assoc header (rows_text tally.k tally.rows) (end_text tally.rows) in
    let p = err_from_is_err_and c.from_residual.result c.from_residual.ensures.1 in rw p.1
    (first_begun _ _ _ header _ whole (rw bytes at c.in_err-write_all.ensures.handed_over))

pub returns-in_err-hand_over_in_parallel : goal.returns-in_err-hand_over_in_parallel
returns-in_err-hand_over_in_parallel g c =
    let tally = c.args.tally.now in
    let header = ended (header_line tally.k tally.both c.args.origin) in
    let bytes : c.as_slice.result.now ≡ header = c.as_slice.ensures ∙ c.push_header.ensures
    ∙ (λ i. c.new-block.ensures i ++ ended (header_line (c.k.ensures i) (c.both.ensures i) c.args.origin)) in
    let whole : table_text tally c.args.origin ≡ header ++ (rows_text tally.k tally.rows ++ end_text tally.rows) =
    append_assoc header (rows_text tally.k tally.rows) (end_text tally.rows) in
    let rows : dump_text tally.k c.in_columns.result tally.rows ≡ rows_text tally.k tally.rows =
    ap (λ d. dump_text tally.k d tally.rows) c.in_columns.ensures ∙ dump_text-table tally.k tally.rows c.row_count-distinct.ensures.lawful.small in
    let p = err_from_is_err_and c.from_residual-in_err-hand_over_in_parallel.result c.from_residual-in_err-hand_over_in_parallel.ensures.1 in rw p.1
    (second_begun _ _ _ _ header (rows_text tally.k tally.rows) _ whole (rw bytes at c.in_ok-write_all.ensures.handed_over)
    (rw rows at c.in_err-hand_over_in_parallel.ensures))

pub returns : goal.returns
returns g c =
    let tally = c.args.tally.now in
    let header = ended (header_line tally.k tally.both c.args.origin) in
    let bytes : c.as_slice.result.now ≡ header = c.as_slice.ensures ∙ c.push_header.ensures
    ∙ (λ i. c.new-block.ensures i ++ ended (header_line (c.k.ensures i) (c.both.ensures i) c.args.origin)) in
    let whole : table_text tally c.args.origin ≡ header ++ (rows_text tally.k tally.rows ++ end_text tally.rows) =
    append_assoc header (rows_text tally.k tally.rows) (end_text tally.rows) in
    let rows : dump_text tally.k c.in_columns.result tally.rows ≡ rows_text tally.k tally.rows =
    ap (λ d. dump_text tally.k d tally.rows) c.in_columns.ensures ∙ dump_text-table tally.k tally.rows c.row_count-distinct.ensures.lawful.small in
    let end : c.as_slice-2.result.now ≡ end_text tally.rows = c.as_slice-2.ensures ∙ c.push_end.ensures
    ∙ (λ i. c.clear.ensures i ++ ended (end_line (c.row_count-distinct.ensures.value i) (c.total-total.ensures.value i))) in
    third_written _ _ _ _ _ header (rows_text tally.k tally.rows) (end_text tally.rows) c.write_out.result whole
    (rw bytes at c.in_ok-write_all.ensures.handed_over)
    (rw rows at c.in_ok-hand_over_in_parallel.ensures)
    (rw end at c.write_out.ensures)
