use Rattle.std.proofs.Common.{Err, Some, ap₂, get_or, inr, length, max, refl, set, sym, arith, ◌≡◌, ◌-◌, ◌≤◌, ◌∙◌}
use Rattle.std.proofs.lemmas.List.{length-set}
use Rattle.std.proofs.lemmas.Result.{err_from_is_err_and}
use Rattle.kc_tool.specs.Commands.{QueriesBy}
use Rattle.kc_tool.specs.GivenSources.{seen_in}
use Rattle.kc_tool.specs.Tallies.{given}
use Rattle.kc_tool.proofs.GivenLemmas.{counted, files_both, first_read, keeps_files, listed_done, listed_left}
use Rattle.kc_tool.proofs.CommandsLemmas.{queried}
use Rattle.kc_tool.proofs.commands.query_listed.Goals as goal

pub returns-in_err-all : goal.returns-in_err-all
returns-in_err-all g c =
    let seen = g.R.Source.seen in
    let seen_file = g.F.Source.seen in
    let some : 1 ≤ length c.args.sources.now.files.now = let two = c.requires.two in omega (arith, two) in
    let p = err_from_is_err_and c.from_residual.result c.from_residual.ensures.1 in
    let later = c.all_words.new.list in
    let sources = c.args.sources.now in
    let file = get_or sources.files.now 0 c.index-files-0.result in
    let mid = record sources { files = record sources.files { now = set sources.files.now 0 (record { name = file.name; source = later }) } } in
    let output = g.W.Sink.seen c.args.output.now in
    let fault = c.in_err-all.field-0.0 in
    record {
      done = rw (p.1, p.2) (listed_left seen seen_file sources mid c.index-files-0.result later c.requires.own some refl refl refl
          (λ before after. QueriesBy c.args.words.now (record { given = before; output = output })
          (record { given = after; output = output }) (Err fault))
          (λ others. inr (c.in_err-all.ensures.fault, refl, refl)));
      kept = first_read seen seen_file sources mid c.index-files-0.result later c.requires.own some refl refl refl refl;
    }

pub query_table-requires : goal.query_table-requires
query_table-requires g c =
    let sources = c.args.sources.now in
    let file = get_or sources.files.now 0 c.index-files-0.result in
    let files = set sources.files.now 0 (record { name = file.name; source = c.all_words.new.list }) in
    let long : length files ≡ 2 = length-set sources.files.now 0 _ ∙ c.requires.two in
    sym (counted g.F.Source.seen (g.R.Source.seen sources.input.now) files sources.own 1
    (sym (ap₂ (λ n own. max (n - own) 1) long c.requires.own)))

pub returns : goal.returns
returns g c =
    let seen = g.R.Source.seen in
    let seen_file = g.F.Source.seen in
    let some : 1 ≤ length c.args.sources.now.files.now = let two = c.requires.two in omega (arith, two) in
    let later = c.all_words.new.list in
    let sources = c.args.sources.now in
    let file = get_or sources.files.now 0 c.index-files-0.result in
    let mid = record sources { files = record sources.files { now = set sources.files.now 0 (record { name = file.name; source = later }) } } in
    let new = c.query_table.new in
    let kept = c.query_table.ensures.kept in
    record {
      done = listed_done seen seen_file sources mid c.index-files-0.result later c.requires.own some refl refl refl new.sources kept
          (λ before after. QueriesBy c.args.words.now (record { given = before; output = g.W.Sink.seen c.args.output.now })
          (record { given = after; output = g.W.Sink.seen new.output }) c.query_table.result)
          (queried c.args.words.now (record { given = given (Some (seen_file (get_or sources.files.now 0 c.index-files-0.result).source)) (seen_in seen seen_file mid); output = g.W.Sink.seen c.args.output.now })
          (record { given = given (Some (seen_file later)) (seen_in seen seen_file new.sources); output = g.W.Sink.seen new.output })
          c.query_table.result (c.in_ok-all.all, c.in_ok-all.ensures.all, c.query_table.ensures.done));
      kept = files_both seen seen_file
          (first_read seen seen_file sources mid c.index-files-0.result later c.requires.own some refl refl refl refl)
          (keeps_files seen seen_file kept);
    }
