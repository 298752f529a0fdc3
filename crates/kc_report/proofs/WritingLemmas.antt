-- A table text that is written row by row.
use Rattle.std.proofs.Common.{◌≡◌, ℕ, zero, ◌+◌, ◌^◌, ◌<◌, ◌≤◌, false, List, [], ◌∷◌, ◌++◌, All, refl}
use Rattle.std.proofs.Common.{sym, ◌∙◌, ap, subst, arith, append_assoc, append-nil}
use Rattle.std.specs.Prelude.{Result}
use Rattle.std.proofs.lemmas.List.{length_push}
use Rattle.std.proofs.lemmas.List.Elements.{All-rest}
use Rattle.std.proofs.lemmas.List.Concat.{flat_map-append}
use Rattle.std.proofs.lemmas.List.Sums.{sum_by-append, sum_by-cons}
use Rattle.kc_io.specs.Sinks.{Written, Drains, HasBegun, Writes}
use Rattle.kc_io.proofs.SinksLemmas.{Pending, begin, began_front, last, taken_both}
use Rattle.kc_tally.specs.declared.row.Row.{Row}
use Rattle.kc_tally.specs.Tally.{AreRows, total_of}
use Rattle.kc_report.specs.declared.header.Header.{Header}
use Rattle.kc_report.specs.Dumping.{row_in_columns}
use Rattle.kc_report.specs.Table.{rows_text, end_text, header_line, ended}
use Rattle.kc_report.specs.RowsWritten.{HasPutRows, WritingStand, front_of, text_of}

-- a prefix was taken, and the rest is left of the text
pending_of : (start now : Written) (text left : List ℕ) → Drains start now text left → Pending start now text left
pending_of start now text left d = record { front = d.front; whole = d.split; taken = d.taken }

drains_of : (start now : Written) (text left : List ℕ) → Pending start now text left → Drains start now text left
drains_of start now text left p = record { front = p.front; taken = p.taken; split = p.whole }

-- more text follows what is left
pub drains_more : (start now : Written) (text left more : List ℕ) → Drains start now text left
    → Drains start now (text ++ more) (left ++ more)
drains_more start now text left more d = record {
  front = d.front;
  taken = d.taken;
  split = ap (λ v. v ++ more) d.split ∙ append_assoc d.front left more;
}

-- one draining after another
pub drains_both : (start now next : Written) (text left room : List ℕ) → Drains start now text left → Drains now next left room
    → Drains start next text room
drains_both start now next text left room d e = record {
  front = d.front ++ e.front;
  taken = taken_both start now next d.front e.front d.taken e.taken;
  split = d.split ∙ ap (λ v. d.front ++ v) e.split ∙ sym (append_assoc d.front e.front room);
}

-- the sink failed in what was left
pub drains_begun : (start now next : Written) (text left : List ℕ) → Drains start now text left → HasBegun now next left
    → HasBegun start next text
drains_begun start now next text left d h =
    began_front start now next text left []
    (subst (λ v. Pending start now text v) (sym (append-nil left)) (pending_of start now text left d)) h

-- what was left is written
pub drains_written : {A E : Type 0} (start now next : Written) (text left : List ℕ) (r : Result A E) → Drains start now text left
    → Writes now next r left → Writes start next r text
drains_written start now next text left r d w =
    last start now next text left r
    (subst (λ v. Pending start now text v) (sym (append-nil left)) (pending_of start now text left d)) w

-- a text that waits whole
pub drains_none : (seen : Written) (text : List ℕ) → Drains seen seen text text
drains_none seen text = drains_of seen seen text text (begin seen text)

-- a beginning of a prefix of a text is one of the text
pub begun_more : (start now : Written) (text more : List ℕ) → HasBegun start now text → HasBegun start now (text ++ more)
begun_more start now text more h = record {
  front = h.front;
  rest = h.rest ++ more;
  whole = ap (λ v. v ++ more) h.whole ∙ append_assoc h.front h.rest more;
  bytes = h.bytes;
  taken = h.taken;
  failures = h.failures;
}

-- ---- the text of a table

pub front_of-none : (header : Header) → front_of header [] ≡ ended (header_line header.k header.both header.origin)
front_of-none header = append-nil (ended (header_line header.k header.both header.origin))

pub front_of-push : (header : Header) (rows : List Row) (row : Row)
    → front_of header (rows ++ row ∷ []) ≡ front_of header rows ++ row_in_columns header.k false row
front_of-push header rows row =
    let line = row_in_columns header.k false row in
    let more : rows_text header.k (rows ++ row ∷ []) ≡ rows_text header.k rows ++ line =
    flat_map-append (λ (row : Row). row_in_columns header.k false row) rows (row ∷ [])
    ∙ ap (λ v. rows_text header.k rows ++ v) (append-nil line) in
    ap (λ v. ended (header_line header.k header.both header.origin) ++ v) more
    ∙ sym (append_assoc (ended (header_line header.k header.both header.origin)) (rows_text header.k rows) line)

pub total_of-push : (rows : List Row) (row : Row) → total_of (rows ++ row ∷ []) ≡ total_of rows + row.count
total_of-push rows row =
    let more = sum_by-append (λ (row : Row). row.count) rows (row ∷ []) in omega (arith, more)

-- ---- the calls

-- room was made, and the row was appended to what was left
pub puts_row : (start now next : Written) (header : Header) (rows : List Row) (row : Row) (old new : WritingStand) (room : List ℕ)
    → HasPutRows start now header rows old → Drains now next old.waiting room
    → new.waiting ≡ room ++ row_in_columns old.k false row → new.k ≡ old.k → new.distinct ≡ old.distinct + 1
    → new.total ≡ old.total + row.count
    → HasPutRows start next header (rows ++ row ∷ []) new
puts_row start now next header rows row old new room put moved waiting k distinct total =
    let line = row_in_columns header.k false row in
    let text : new.waiting ≡ room ++ line = waiting ∙ ap (λ n. room ++ row_in_columns n false row) put.k in
    record {
      drained = subst (λ v. Drains start next v new.waiting) (sym (front_of-push header rows row))
          (subst (λ v. Drains start next (front_of header rows ++ line) v) (sym text)
          (drains_more start next (front_of header rows) room line
          (drains_both start now next (front_of header rows) old.waiting room put.drained moved)));
      k = k ∙ put.k;
      distinct = let long = length_push rows row in omega (arith, distinct, put.distinct, long);
      total = let sum = total_of-push rows row in omega (arith, total, put.total, sum);
    }

-- room was made, and the end line was appended to what was left and written with it
pub ends_text : {A E : Type 0} (start now next last : Written) (header : Header) (rows : List Row) (stand : WritingStand) (room after : List ℕ)
    (r : Result A E) → HasPutRows start now header rows stand → Drains now next stand.waiting room → after ≡ room ++ end_text rows
    → Writes next last r after → Writes start last r (text_of header rows)
ends_text start now next last header rows stand room after r put moved pushed writes =
    drains_written start next last (text_of header rows) after r
    (subst (λ v. Drains start next (text_of header rows) v) (sym pushed)
    (drains_more start next (front_of header rows) room (end_text rows)
    (drains_both start now next (front_of header rows) stand.waiting room put.drained moved))) writes

-- the sink failed in what was left of the rows
pub fails_to_end : (start now next : Written) (header : Header) (rows : List Row) (stand : WritingStand)
    → HasPutRows start now header rows stand → HasBegun now next stand.waiting → HasBegun start next (text_of header rows)
fails_to_end start now next header rows stand put begun =
    begun_more start next (front_of header rows) (end_text rows)
    (drains_begun start now next (front_of header rows) stand.waiting put.drained begun)

-- ---- the rows of a tally

all_middle : (P : Row → Type 0) (done : List Row) (row : Row) (later : List Row) → All P (done ++ row ∷ later) → P row
all_middle P [] row later all = all zero row (omega arith)
all_middle P (first ∷ done) row later all = all_middle P done row later (All-rest P first (done ++ row ∷ later) ((first ∷ done) ++ row ∷ later) refl all)

total_of-middle : (done : List Row) (row : Row) (later : List Row) → total_of done + row.count ≤ total_of (done ++ row ∷ later)
total_of-middle done row later =
    let both = sum_by-append (λ (row : Row). row.count) done (row ∷ later) in
    let one = sum_by-cons (λ (row : Row). row.count) row later in omega (arith, both, one)

-- the next row of a tally may be appended to those before it
pub may_put : (start now : Written) (header : Header) (rows done left later : List Row) (row : Row) (stand : WritingStand)
    → AreRows header.k header.both rows → HasPutRows start now header done stand → rows ≡ done ++ left → left ≡ row ∷ later
    → (row.word < 4 ^ stand.k) × (1 ≤ row.count) × (stand.total + row.count ≤ 2 ^ 62)
may_put start now header rows done left later row stand are put whole split =
    let these = subst (AreRows header.k header.both) (whole ∙ ap (λ v. done ++ v) split) are in
    let sum = total_of-middle done row later in
    let most = these.small in
    let total = put.total in (
      subst (λ k. row.word < 4 ^ k) (sym put.k) (all_middle (λ row. row.word < 4 ^ header.k) done row later these.ordered.words),
      all_middle (λ row. 1 ≤ row.count) done row later these.ordered.present,
      omega (arith, sum, most, total),
    )

-- it is after them then
pub next_done : (rows done left later : List Row) (row : Row) → rows ≡ done ++ left → left ≡ row ∷ later
    → rows ≡ (done ++ row ∷ []) ++ later
next_done rows done left later row whole split =
    whole ∙ ap (λ v. done ++ v) split ∙ sym (append_assoc done (row ∷ []) later)

-- all of them are
pub all_done : (rows done left : List Row) → rows ≡ done ++ left → left ≡ [] → rows ≡ done
all_done rows done left whole none = whole ∙ ap (λ v. done ++ v) none ∙ append-nil done

-- the sink failed in the text of those before
pub fails_in_front : (start now : Written) (header : Header) (rows done left : List Row) → rows ≡ done ++ left
    → HasBegun start now (front_of header done) → HasBegun start now (text_of header rows)
fails_in_front start now header rows done left whole begun =
    let head = ended (header_line header.k header.both header.origin) in
    let first = rows_text header.k done in
    let rest = rows_text header.k left in
    let both : front_of header done ++ rest ≡ front_of header rows = append_assoc head first rest
    ∙ ap (λ v. head ++ v) (sym (flat_map-append (λ (row : Row). row_in_columns header.k false row) done left))
    ∙ ap (λ rows. front_of header rows) (sym whole) in
    subst (HasBegun start now) (sym (append_assoc (front_of header done) rest (end_text rows)) ∙ ap (λ v. v ++ end_text rows) both)
    (begun_more start now (front_of header done) (rest ++ end_text rows) begun)
