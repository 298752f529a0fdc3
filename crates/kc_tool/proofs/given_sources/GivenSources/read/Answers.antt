use Rattle.std.proofs.Common.{◌+◌, ◌<◌, ap, arith, get_or, length, refl}
use Rattle.std.proofs.Math.Seq.{map-set_same}
use Rattle.kc_tool.proofs.GivenLemmas.{file_read, same_input, still_before}
use Rattle.kc_tool.proofs.given_sources.GivenSources.read.Goals as goal

pub returns-clause-one : goal.returns-clause-one
returns-clause-one g c =
    let given = c.args.self.now in
    let files = given.files.now in
    let d = c.index-files-own.result in
    let file = get_or files (given.own + c.args.i) d in
    let more : given.own < length files = omega arith in
    file_read g.F.Source.seen (g.R.Source.seen given.input.now) files given.own c.args.i d
    (record { name = file.name; source = c.read_source-2.new.source }) more c.requires.within _ c.read_source-2.ensures

pub returns-clause-kept : goal.returns-clause-kept
returns-clause-kept g c =
    let given = c.args.self.now in
    let files = given.files.now in
    let at = given.own + c.args.i in
    let file = get_or files at c.index-files-own.result in
    record {
      files = refl;
      input = refl;
      own = refl;
      names = map-set_same (λ file. file.name.now) files at (record { name = file.name; source = c.read_source-2.new.source }) file
          (ap (λ v. (get_or files at v).name.now) c.index-files-own.is);
      unread = same_input (g.R.Source.seen given.input.now) _;
      before = still_before g.F.Source.seen files given.own c.args.i (record { name = file.name; source = c.read_source-2.new.source });
    }
