use Rattle.std.proofs.Common.{refl, sym, ap, ◌∙◌, take, length, ◌++◌, ◌<◌, true}
use Rattle.kc_gzip.specs.declared.gzip_or_plain.Unzip.{Unzip}
use Rattle.kc_gzip.specs.Following.{is_ready_in}
use Rattle.kc_gzip.proofs.FollowLemmas.{passes-follows, ends-told, read-bytes, read-end, read-failures, some-length}
use Rattle.kc_gzip.proofs.lent_source.read_plain.Goals as goal

pub returns-then-not-is_empty-clause-gives : goal.returns-then-not-is_empty-clause-gives
returns-then-not-is_empty-clause-gives g c = λ told f.
    let below = c.args.heard.now in
    let after = c.read.new.self in
    let given = take c.in-Ok.count c.read.new.buffer in
    let old = c.args.unzip.now in
    let new : Unzip = record old { work = record old.work { ended = true } } in
    let room : 0 < length c.read.new.buffer = some-length (length c.read.new.buffer) (sym c.is_empty.ensures ∙ c.if-not-is_empty.true) in
    let follows =
    passes-follows old new below after told given f c.requires.plain c.requires.none c.requires.still c.requires.plain refl c.requires.none
    (read-bytes below after c.in-Ok.count c.read.new.buffer c.in-Ok.ensures.history)
    (read-failures below after c.in-Ok.count c.read.new.buffer c.in-Ok.ensures.history)
    (λ _. read-end below after c.in-Ok.count c.read.new.buffer c.in-Ok.ensures.history c.if-count-eq0.true room (f.unended c.requires.still)) (λ open_still. cc) in
    (follows, λ none some. ends-told new after (told ++ given) (ap (λ m. is_ready_in m new) c.requires.plain) c.requires.none follows (λ _. refl))
