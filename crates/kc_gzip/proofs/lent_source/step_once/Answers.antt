use Rattle.std.proofs.Common.{subst, List, ℕ, Err}
use Rattle.kc_gzip.specs.Following.{Unzipping, StepsOn}
use Rattle.kc_gzip.proofs.FollowLemmas.{stepped-follows, waited-follows, cut-short, is-broken, cut-short-all, is-broken-all, wanted-follows, follows-front}
use Rattle.kc_gzip.proofs.lent_source.step_once.Goals as goal

pub returns-in-Ok : goal.returns-in-Ok
returns-in-Ok c = λ below told f.
    wanted-follows c.step.new.self c.want_some.new.self _ below told c.want_some.ensures (stepped-follows c.args.unzip.now c.step.new.self below told f c.requires.zipped c.in-Ok.ensures)

pub returns-then-unzip : goal.returns-then-unzip
returns-then-unzip c = λ below told f. (
  cut-short c.args.unzip.now c.step.new.self below told f c.requires.zipped
      (subst (λ fault. (taken told : List ℕ) → Unzipping c.args.unzip.now taken told → StepsOn (Err fault) c.args.unzip.now c.step.new.self taken told) c.in-Err-Short.field-0-is c.in-Err-Short.ensures)
      c.if-unzip.true,
  follows-front c.args.unzip.now below told f,
  cut-short-all c.args.unzip.now c.step.new.self below told f c.requires.zipped
      (subst (λ fault. (taken told : List ℕ) → Unzipping c.args.unzip.now taken told → StepsOn (Err fault) c.args.unzip.now c.step.new.self taken told) c.in-Err-Short.field-0-is c.in-Err-Short.ensures)
      c.if-unzip.true,
)

pub returns-else-unzip : goal.returns-else-unzip
returns-else-unzip c = λ below told f.
    wanted-follows c.step.new.self c.want_more.new.self c.want_more.ensures.0 below told c.want_more.ensures.1
    (waited-follows c.args.unzip.now c.step.new.self below told f c.requires.zipped
    (subst (λ fault. (taken told : List ℕ) → Unzipping c.args.unzip.now taken told → StepsOn (Err fault) c.args.unzip.now c.step.new.self taken told) c.in-Err-Short.field-0-is c.in-Err-Short.ensures))

pub returns-in-Err-Broken : goal.returns-in-Err-Broken
returns-in-Err-Broken c = λ below told f. (
  is-broken c.args.unzip.now c.step.new.self below told f c.requires.zipped
      (subst (λ fault. (taken told : List ℕ) → Unzipping c.args.unzip.now taken told → StepsOn (Err fault) c.args.unzip.now c.step.new.self taken told) c.in-Err-Broken.field-0-is c.in-Err-Broken.ensures),
  follows-front c.args.unzip.now below told f,
  is-broken-all c.args.unzip.now c.step.new.self below told f c.requires.zipped
      (subst (λ fault. (taken told : List ℕ) → Unzipping c.args.unzip.now taken told → StepsOn (Err fault) c.args.unzip.now c.step.new.self taken told) c.in-Err-Broken.field-0-is c.in-Err-Broken.ensures),
)

pub returns-in-Err-Memory : goal.returns-in-Err-Memory
returns-in-Err-Memory c = λ below told f. (f.unfailed, follows-front c.args.unzip.now below told f, tt)
