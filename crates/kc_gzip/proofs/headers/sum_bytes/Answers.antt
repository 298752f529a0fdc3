use Rattle.std.proofs.Common.{◌≡◌, ◌+◌, ◌-◌, suc, ap, sym, ◌∙◌, arith}
use Rattle.kc_gzip.specs.Buffer.{bits_left}
use Rattle.kc_gzip.specs.Fields.{sum_bytes_at}
use Rattle.kc_gzip.proofs.FieldLemmas.{sum_bytes_at-none, sum_bytes_at-more, sum_bytes_at-fault}
use Rattle.kc_gzip.proofs.headers.sum_bytes.Goals as goal

pub returns-in-Err : goal.returns-in-Err
returns-in-Err c =
    sym c.loop.invariant ∙ sum_bytes_at-fault (c.args.count - c.loop.counter) c.loop.current (bits_left c.loop.bits) c.in-Err.fault (omega arith) c.in-Err.ensures.read

pub loop-preserved : goal.loop-preserved
loop-preserved c =
    let m = c.args.count - (c.loop.counter + 1) in
    let rest = bits_left c.number.new.self in
    let left : suc m ≡ c.args.count - c.loop.counter = omega arith in
    ap (λ r. sum_bytes_at r m rest) c.crc_after_byte-current.ensures
    ∙ sym (sum_bytes_at-more m c.in-Ok.byte c.loop.current (bits_left c.loop.bits) rest c.in-Ok.ensures.read)
    ∙ ap (λ k. sum_bytes_at c.loop.current k (bits_left c.loop.bits)) left
    ∙ c.loop.invariant

pub returns : goal.returns
returns c = sym c.loop.invariant ∙ sum_bytes_at-none (c.args.count - c.loop.counter) c.loop.current (bits_left c.loop.bits) (omega arith)
