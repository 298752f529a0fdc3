use Rattle.std.proofs.Common.{◌≡◌, ◌++◌, [], take, sym, ap, ◌∙◌, append-nil, Ok, arith}
use Rattle.kc_gzip.specs.Unzipping.{fresh}
use Rattle.kc_gzip.proofs.FollowLemmas.{gives-follows, ends-told, empty-list}
use Rattle.kc_gzip.proofs.lent_source.read_some.Goals as goal

pub returns-else-is_passing-clause-gives : goal.returns-else-is_passing-clause-gives
returns-else-is_passing-clause-gives g c = λ told f.
    let below = c.prepare.new.heard in
    let unzip = c.prepare.new.unzip in
    let given = take c.give.result c.give.new.buffer in
    let follows = c.in-Ok.ensures.comes told f in (
      gives-follows unzip c.give.new.self below told given c.in-Ok.ensures.ready c.give.ensures.given follows,
      λ none some.
          let no_fresh : fresh unzip.work ≡ [] = empty-list (fresh unzip.work) (omega (arith, c.give.ensures.most, none, some)) in
          let end = ends-told unzip below told c.in-Ok.ensures.ready no_fresh follows (λ plain. c.is_passing.ensures.no c.if-is_passing.false plain no_fresh) in
          let same : told ++ given ≡ told = ap (λ n. told ++ take n c.give.new.buffer) none ∙ append-nil told in
          (end.0, end.1 ∙ ap Ok (sym same)),
    )
