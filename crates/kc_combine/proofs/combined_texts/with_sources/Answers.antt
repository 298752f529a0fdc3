use Rattle.std.proofs.Common.{◌≡◌, ◌∷◌, [], ◌++◌, ◌+◌, length, arith, ap, sym, subst, append_assoc, append-nil, ◌∙◌}
use Rattle.std.proofs.lemmas.List.{length-append, nil_from_length}
use Rattle.std.specs.Vec.Iter.{into_iter_items}
use Rattle.kc_combine.specs.CombinedTexts.{AreJoined, IsJoined}
use Rattle.kc_combine.proofs.CombinedTextLemmas.{joined_all, joined_with}
use Rattle.kc_combine.proofs.combined_texts.with_sources.Goals as goal

pub sources-preserved : goal.sources-preserved
sources-preserved g c =
    let before = c.sources.invariant in
    let items = c.push_reserved.ensures.items in
    let ahead = c.with_source.result in
    let is : IsJoined c.args.limit (length c.sources.room.items + 1) c.in-Some.source c.in-Some-next.opening ahead = record {
      reading = c.with_source.ensures.reading;
      source = c.with_source.ensures.source;
      most = c.with_source.ensures.limit;
      place = let at = c.with_source.ensures.place in let long = c.len.ensures in omega (arith, at, long, c.sources.room.ok);
      begun = c.with_source.ensures.begun;
      head = c.with_source.ensures.head;
    } in
    record {
      joined = λ later joined.
          rw items (joined_with c.args.limit c.args.sources.items (into_iter_items c.sources.source-iterator)
          (into_iter_items c.next.new.self) c.args.openings.items (into_iter_items c.sources.openings)
          (into_iter_items c.next-in-sources.new.self) c.sources.room.items c.in-Some.source c.in-Some-next.opening ahead is
          c.in-Some.ensures.steps.0 c.in-Some-next.ensures.items before.joined later (rw items at joined));
      long = let long = before.long in
          let sources = ap length c.in-Some.ensures.steps.0 in
          let openings = ap length c.in-Some-next.ensures.items in omega (arith, long, sources, openings);
      room = let room = before.room in
          let sources = ap length c.in-Some.ensures.steps.0 in
          let pushed = ap length items in
          let longer = length-append c.sources.room.items (c.with_source.result ∷ []) in
          omega (arith, room, sources, pushed, longer, c.push_reserved.ensures.capacity);
    }

pub returns : goal.returns
returns g c =
    let before = c.sources.invariant in
    let rest = c.sources.source-iterator in
    let none = nil_from_length (into_iter_items rest) (sym rest.rest.ok.0 ∙ c.in-None.ensures.steps.0) in
    let no_more = nil_from_length (into_iter_items c.sources.openings) (before.long ∙ ap length none) in
    joined_all c.args.limit c.args.sources.items (into_iter_items rest) c.args.openings.items (into_iter_items c.sources.openings)
    c.sources.room.items none no_more before.joined
