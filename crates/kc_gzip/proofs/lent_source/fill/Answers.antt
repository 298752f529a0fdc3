use Rattle.std.proofs.Common.{◌+◌, refl, sym, ap, ◌∙◌, take, length, [], ◌++◌, append-nil, arith, ◌≡◌, false, Err}
use Rattle.kc_io.specs.History.{History}
use Rattle.kc_io.specs.History.{after as history_after}
use Rattle.kc_gzip.specs.declared.member_stages.Work.{Work}
use Rattle.kc_gzip.specs.Unzipping.{fresh}
use Rattle.kc_gzip.proofs.FollowLemmas.{takes-follows, failed-front, lost-front, read-bytes, read-end, read-ends, read-failures, never}
use Rattle.kc_gzip.proofs.lent_source.fill.Goals as goal

pub returns-then-count-eq0-clause-comes : goal.returns-then-count-eq0-clause-comes
returns-then-count-eq0-clause-comes g c = λ told f.
    let below = c.args.heard.now in
    let after = c.read_block.new.heard in
    let block = c.read_block.new.block.items in
    takes-follows c.args.unzip.now _ below after told [] f c.requires.mode c.requires.still
    (record { mode = refl; block = c.read_block.ensures.whole; begun = refl; input = sym (append-nil c.args.unzip.now.input.items); stage = refl; window = refl; register = refl; size = refl; fresh_is = refl })
    (read-bytes below after c.in-Ok.count block c.in-Ok.ensures.history ∙ ap (λ n. below.bytes ++ take n block) c.if-count-eq0.true)
    (read-failures below after c.in-Ok.count block c.in-Ok.ensures.history)
    (λ _. read-end below after c.in-Ok.count block c.in-Ok.ensures.history c.if-count-eq0.true (omega (arith, c.read_block.ensures.whole, f.room)) (f.unended c.requires.still))
    (λ open_still. never open_still)

pub returns-in-Ok-add-clause-comes : goal.returns-in-Ok-add-clause-comes
returns-in-Ok-add-clause-comes g c = λ told f.
    let below = c.args.heard.now in
    let after = c.read_block.new.heard in
    let block = c.read_block.new.block.items in
    let kept = c.in-Ok-add.ensures in
    takes-follows c.args.unzip.now c.add.new.self below after told (take c.in-Ok.count block) f c.requires.mode c.requires.still
    (record {
      mode = kept.mode;
      block = ap length kept.block ∙ c.read_block.ensures.whole;
      begun = kept.begun;
      input = kept.input;
      stage = ap (λ (w : Work). w.stage) kept.work;
      window = ap (λ (w : Work). w.window.items) kept.work;
      register = ap (λ (w : Work). w.register) kept.work;
      size = ap (λ (w : Work). w.size) kept.work;
      fresh_is = ap fresh kept.work;
    })
    (read-bytes below after c.in-Ok.count block c.in-Ok.ensures.history)
    (read-failures below after c.in-Ok.count block c.in-Ok.ensures.history)
    (λ closed. (let still : c.add.new.self.work.ended ≡ false = ap (λ (w : Work). w.ended) kept.work ∙ c.requires.still in absurd (cc)))
    (λ _. read-ends below after c.in-Ok.count block c.in-Ok.ensures.history c.if-count-eq0.false ∙ f.unended c.requires.still)

pub returns-in_default-clause-comes : goal.returns-in_default-clause-comes
returns-in_default-clause-comes g c = λ told f.
    let below = c.args.heard.now in
    let after = c.read_block.new.heard in
    let failed : after ≡ history_after below (Err c.in_default.field-0) c.read_block.new.block.items = c.in_default.ensures.history in
    (ap (λ (h : History). h.failures) failed ∙ ap (λ n. n + 1) f.unfailed, failed-front c.args.unzip.now below after c.in_default.field-0 c.read_block.new.block.items told failed f, tt)

pub returns-in-Err-clause-comes : goal.returns-in-Err-clause-comes
returns-in-Err-clause-comes g c = λ told f.
    let below = c.args.heard.now in
    let after = c.read_block.new.heard in
    let block = c.read_block.new.block.items in (
      read-failures below after c.in-Ok.count block c.in-Ok.ensures.history ∙ f.unfailed,
      lost-front c.args.unzip.now below after told (take c.in-Ok.count block) c.requires.mode c.requires.still (read-bytes below after c.in-Ok.count block c.in-Ok.ensures.history) f,
      tt,
    )
