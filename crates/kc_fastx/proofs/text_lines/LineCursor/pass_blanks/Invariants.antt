use Rattle.std.proofs.Common.{◌≡◌, ◌+◌, ◌<◌, length}
use Rattle.kc_fastx.specs.Lines.{Cursor, Passes, line_count, lines, skip_blanks}
use Rattle.kc_fastx.proofs.text_lines.LineCursor.pass_blanks.Given as goal

abbrev pub invariant-loop-ahead : goal.invariant-loop-ahead
invariant-loop-ahead l =
    let bytes = l.self-inside.left.now in
    let here : Cursor = record { taken = l.self-inside.taken; left = lines bytes; bytes = bytes } in
    record {
      left : skip_blanks (lines bytes) ≡ skip_blanks l.fn.self.left;
      counted : line_count here ≡ line_count l.fn.self;
      passes : Passes l.fn.self here;
      fits : l.self-inside.taken + length bytes < 18446744073709551616;
    }

abbrev pub decreases-loop-ahead : goal.decreases-loop-ahead
decreases-loop-ahead l = length (lines l.self-inside.left.now)
