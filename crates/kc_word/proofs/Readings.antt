-- A place from one index to another of a piece: how many bytes lie there, and which byte comes next.
use Rattle.std.proofs.Common.{◌≡◌, ℕ, ◌+◌, ◌-◌, ◌<◌, List, length, get_or, take, drop, ap, sym, ◌∙◌, arith}
use Rattle.kc_word.specs.declared.runs.Run.{Run}
use Rattle.kc_word.specs.PackedPiece.{bytes_of, IsReading}
use Rattle.kc_word.proofs.PieceLemmas.{length-bytes_of}
use Rattle.kc_word.proofs.Clipping.{length-cut, get_or-cut}

pub reading-long : {codes : List ℕ} {runs : List Run} {next from at to : ℕ} → IsReading codes runs next from at to
    → length (take (to - from) (drop from (bytes_of codes runs))) ≡ to - from
reading-long {codes} {runs} {next} {from} {at} {to} reading =
    let count = length-bytes_of codes runs in
    let begun = reading.begun in
    let within = reading.within in
    let inside = reading.inside in
    length-cut (bytes_of codes runs) from to (omega (arith, begun, within)) (omega (arith, count, inside))

-- as many bytes are left as indices
pub reading-left : {codes : List ℕ} {runs : List Run} {next from at to : ℕ} → IsReading codes runs next from at to
    → length (take (to - from) (drop from (bytes_of codes runs))) - (at - from) ≡ to - at
reading-left reading =
    let long = reading-long reading in
    let begun = reading.begun in
    omega (arith, long, begun)

pub reading-byte : {codes : List ℕ} {runs : List Run} {next from at to : ℕ} → IsReading codes runs next from at to
    → (i : ℕ) → at + i < to
    → get_or (bytes_of codes runs) (at + i) 0 ≡ get_or (take (to - from) (drop from (bytes_of codes runs))) (at - from + i) 0
reading-byte {codes} {runs} {next} {from} {at} {to} reading i h =
    let begun = reading.begun in
    let place : from + (at - from + i) ≡ at + i = omega (arith, begun) in
    let here = get_or-cut (bytes_of codes runs) from to (at - from + i) 0 (omega (arith, begun, h)) in
    sym (here ∙ ap (λ j. get_or (bytes_of codes runs) j 0) place)
