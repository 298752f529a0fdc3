-- A dump, row by row.
use Rattle.std.proofs.Common.{◌≡◌, ℕ, Bool, true, false, List, [], ◌∷◌, ◌++◌}
use Rattle.std.proofs.Common.{refl, sym, ◌∙◌, ap, append_assoc}
use Rattle.std.specs.Prelude.{filter, flat_map, if◌then◌else◌, Result, Ok, Err}
use Rattle.kc_report.specs.Dumping.{dump_text, row_text, is_shown, shown_text}
use Rattle.kc_tally.specs.declared.row.Row.{Row}
use Rattle.kc_io.specs.Sinks.{Written, Drains, HandsOver}
use Rattle.kc_io.proofs.SinksLemmas.{Pending, SinkCall, drained, took_front, began_front, took_all}
use Rattle.kc_report.specs.declared.dump.Dump.{Dump}

-- The row at the front has its part.
pub dump_text-cons : (k : ℕ) (dump : Dump) (row : Row) (rows : List Row)
    → dump_text k dump (row ∷ rows) ≡ shown_text k dump row ++ dump_text k dump rows
dump_text-cons k dump row rows = pick (is_shown dump row) where
  pick : (b : Bool) → flat_map (row_text k dump) (if b then row ∷ filter (is_shown dump) rows else filter (is_shown dump) rows)
      ≡ (if b then row_text k dump row else []) ++ flat_map (row_text k dump) (filter (is_shown dump) rows)
  pick true = refl
  pick false = refl

-- A step of a dump: the row at the front goes after the block, and of both a prefix may go into the sink.
pub record RowStep (k : ℕ) (dump : Dump) (row : Row) (later : List Row) : Type 0 where
  pub start : Written
  pub now : Written
  pub next : Written
  pub text : List ℕ
  pub block : List ℕ
  pub next_block : List ℕ
  pub rows : List Row
  pub split : rows ≡ row ∷ later
  pub pending : Pending start now text (block ++ dump_text k dump rows)
  pub moved : Drains now next (block ++ shown_text k dump row) next_block

-- The row was appended to the block.
pub next_row : (k : ℕ) (dump : Dump) (row : Row) (later : List Row) (s : RowStep k dump row later)
    → Pending s.start s.next s.text (s.next_block ++ dump_text k dump later)
next_row k dump row later s =
    let shown = shown_text k dump row in
    let rest = dump_text k dump later in
    let call : SinkCall = record {
      start = s.start;
      now = s.now;
      next = s.next;
      text = s.text;
      rest = s.block ++ dump_text k dump s.rows;
      pending = s.pending;
    } in
    let cut : call.rest ≡ (s.block ++ shown) ++ rest =
    ap (λ v. s.block ++ dump_text k dump v) s.split
    ∙ ap (λ v. s.block ++ v) (dump_text-cons k dump row later) ∙ sym (append_assoc s.block shown rest) in
    drained call (s.block ++ shown) s.next_block rest cut s.moved

-- What is left is one text, which is handed over now, in either outcome.
pub handed : {A E : Type 0} (s a b : Written) (text x : List ℕ) (r : Result A E) → Pending s a text (x ++ [])
    → HandsOver a b r x → HandsOver s b r text
handed s a b text x (Ok y) p w = took_all s b text (took_front s a b text x [] p w)
handed s a b text x (Err f) p w = began_front s a b text x [] p w
