use Rattle.std.proofs.Common.{Err, get_or, inl, inr, refl, set}
use Rattle.std.proofs.lemmas.Result.{err_from_is_err_and}
use Rattle.kc_tool.specs.Commands.{SelectsBy}
use Rattle.kc_tool.proofs.GivenLemmas.{files_both, first_read, keeps_files, listed_done, listed_left}
use Rattle.kc_tool.proofs.commands.select_by_table.Goals as goal

pub returns-in_err-tally : goal.returns-in_err-tally
returns-in_err-tally g c =
    let seen = g.R.Source.seen in
    let seen_file = g.F.Source.seen in
    let p = err_from_is_err_and c.from_residual.result c.from_residual.ensures.1 in
    let later = c.table_from.new.source in
    let given = c.args.sources.now in
    let file = get_or given.files.now 0 c.index-files-0.result in
    let mid = record given { files = record given.files { now = set given.files.now 0 (record { name = file.name; source = later }) } } in
    let output = g.W.Sink.seen c.args.output.now in
    let fault = c.in_err-tally.field-0.0 in
    record {
      done = rw (p.1, p.2) (listed_left seen seen_file given mid c.index-files-0.result later c.requires.own c.requires.some refl refl refl
          (λ before after. SelectsBy c.args.selection c.args.tells (record { given = before; output = output })
          (record { given = after; output = output }) (Err fault))
          (λ sources. inr (fault, refl, c.in_err-tally.ensures.fault, refl, refl)));
      kept = first_read seen seen_file given mid c.index-files-0.result later c.requires.own c.requires.some refl refl refl refl;
    }

pub returns : goal.returns
returns g c =
    let seen = g.R.Source.seen in
    let seen_file = g.F.Source.seen in
    let later = c.table_from.new.source in
    let given = c.args.sources.now in
    let file = get_or given.files.now 0 c.index-files-0.result in
    let mid = record given { files = record given.files { now = set given.files.now 0 (record { name = file.name; source = later }) } } in
    let new = c.select_given-selected.new in
    let kept = c.select_given-selected.ensures.kept in
    record {
      done = listed_done seen seen_file given mid c.index-files-0.result later c.requires.own c.requires.some refl refl refl new.sources kept
          (λ before after. SelectsBy c.args.selection c.args.tells (record { given = before; output = g.W.Sink.seen c.args.output.now })
          (record { given = after; output = g.W.Sink.seen new.writer }) c.told_of_selection.result)
          (inl (
            (c.in_ok-tally.tally, c.in_ok-tally._origin),
            c.in_ok-tally.ensures.table,
            (c.select_given-selected.result, c.told_of_selection.ensures, c.select_given-selected.ensures.selects),
          ));
      kept = files_both seen seen_file
          (first_read seen seen_file given mid c.index-files-0.result later c.requires.own c.requires.some refl refl refl refl)
          (keeps_files seen seen_file kept);
    }
