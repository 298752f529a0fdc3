use Rattle.std.proofs.Common.{◌∙◌, ◌≡◌, Bor, List, ℕ, ap, arith, length, map, subst}
use Rattle.kc_combine.specs.Derivations.{TakesTables}
use Rattle.std.proofs.lemmas.List.{length-append, length-map}
use Rattle.std.proofs.lemmas.Result.{err_from_is_err_and}
use Rattle.kc_tool.specs.NamedSources.{seen_of}
use Rattle.kc_tool.proofs.TwoPassesLemmas.{files_derived, left_whole, takes_some}
use Rattle.kc_tool.proofs.two_passes.derive_files.Goals as goal

pub returns-in_err-room-clause-done : goal.returns-in_err-room-clause-done
returns-in_err-room-clause-done g c =
    let p = err_from_is_err_and c.from_residual.result c.from_residual.ensures.1 in
    let files = c.args.files.now.items in
    let long = length-map files (λ file. g.F.Source.seen file.source) in
    let even = c.requires.twice.2 in
    rw (p.1, p.2) (left_whole c.requires.twice.0 (seen_of g.F.Source.seen files) (omega (arith, long, even)))

pub returns-in_err-place-clause-done : goal.returns-in_err-place-clause-done
returns-in_err-place-clause-done g c =
    let p = err_from_is_err_and c.from_residual-in_err-place.result c.from_residual-in_err-place.ensures.1 in
    let files = c.args.files.now.items in
    let long = length-map files (λ file. g.F.Source.seen file.source) in
    let even = c.requires.twice.2 in
    rw (p.1, p.2) (left_whole c.requires.twice.0 (seen_of g.F.Source.seen files) (omega (arith, long, even)))

pub derive-told-requires-clause-first : goal.derive-told-requires-clause-first
derive-told-requires-clause-first g c =
    let passes = c.with_files-passes.result in
    let apart = c.with_files-passes.ensures in
    let files = c.replace.result.items in
    let moved = ap length apart.sources in
    let both = length-append passes.first.items passes.second.items in
    let sources = length-map files (λ file. file.source) in
    let same = ap (λ files. length files.items) c.replace.ensures.value in
    let some = takes_some c.args.derived c.requires.twice.0 c.requires.twice.1 in
    omega (arith, moved, both, sources, same, apart.halves, some, c.requires.twice.2)

pub derive-told-requires-clause-second : goal.derive-told-requires-clause-second
derive-told-requires-clause-second g c =
    let passes = c.with_files-passes.result in
    let apart = c.with_files-passes.ensures in
    let files = c.replace.result.items in
    let moved = ap length apart.sources in
    let both = length-append passes.first.items passes.second.items in
    let sources = length-map files (λ file. file.source) in
    let same = ap (λ files. length files.items) c.replace.ensures.value in
    let half : c.requires.twice.0 ≡ length passes.second.items =
    omega (arith, moved, both, sources, same, apart.halves, c.requires.twice.2) in
    subst (λ n. TakesTables c.args.derived n) half c.requires.twice.1

pub put_back-requires-clause-long : goal.put_back-requires-clause-long
put_back-requires-clause-long g c =
    let passes = c.with_files-passes.result in
    let apart = c.with_files-passes.ensures in
    let files = c.replace.result.items in
    let named = ap length apart.names in
    let names = length-map passes.names.items (λ (name : Bor (List ℕ)). name.now) in
    let files_named = length-map files (λ file. file.name.now) in
    let moved = ap length apart.sources in
    let both = length-append passes.first.items passes.second.items in
    let sources = length-map files (λ file. file.source) in
    let kept = ap (λ names. length names.items) c.derive-told.ensures.names in
    let long = c.derive-told.ensures.long in
    let long_second = c.derive-told.ensures.long_second in
    omega (arith, named, names, files_named, moved, both, sources, kept, long, long_second)

pub put_back-requires-clause-room : goal.put_back-requires-clause-room
put_back-requires-clause-room g c =
    let passes = c.with_files-passes.result in
    let apart = c.with_files-passes.ensures in
    let files = c.replace.result.items in
    let named = ap length apart.names in
    let names = length-map passes.names.items (λ (name : Bor (List ℕ)). name.now) in
    let files_named = length-map files (λ file. file.name.now) in
    let kept = ap (λ names. length names.items) c.derive-told.ensures.names in
    let same = ap (λ files. length files.items) c.replace.ensures.value in
    let room = c.in_ok-place.ensures.capacity in
    let counted = c.len-2.ensures in
    rw c.replace.ensures.after (omega (arith, named, names, files_named, kept, same, room, counted, c.args.files.now.ok))

pub returns-clause-done : goal.returns-clause-done
returns-clause-done g c =
    let passes = c.with_files-passes.result in
    let apart = c.with_files-passes.ensures in
    let later = c.derive-told.new.self in
    files_derived g.F.Source.seen c.args.derived c.args.files.now.items c.put_back.new.files.items
    passes.first.items later.first.items passes.second.items later.second.items
    (g.W.Sink.seen c.args.output.now) (g.W.Sink.seen c.derive-told.new.output) c.derive-told.result
    (apart.sources ∙ ap (λ files. map (λ file. file.source) files.items) c.replace.ensures.value) c.put_back.ensures.sources
    apart.halves c.derive-told.ensures.long c.derive-told.ensures.long_second c.derive-told.ensures.done
