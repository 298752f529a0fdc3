use Rattle.std.proofs.Common.{◌∙◌, ap, ◌++◌, take, length, arith}
use Rattle.kc_io.proofs.BlockLemmas.{put_front}
use Rattle.kc_io.proofs.block.Block.push_front.Goals as goal

pub returns : goal.returns
returns g c =
    let at = c.self.inside.len in
    let count = c.args.count in
    let old = c.self.inside.bytes in
    let same = c.copy_from_slice.ensures.after in
    let long = ap length same in
    let told = c.told-bytes in
    let all = c.self.told in
    let most = c.self.invariant in
    let within = c.requires.within in
    record {
      pushed = put_front at _ count old c.copy_from_slice.new.self (omega (arith, most, all))
          (omega (arith, long, told, within))
          ∙ ap (λ bs. take at old ++ take count bs) same ∙ ap (λ bs. bs ++ take count c.args.bytes.now) c.self.view_is;
    }
