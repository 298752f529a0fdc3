-- The dump of rows in pieces, piece after piece.
use Rattle.std.proofs.Common.{◌≡◌, ◌∙◌, ℕ, ◌+◌, ◌^◌, ◌<◌, ◌≤◌, true, false, cond, List, [], ◌∷◌, ◌++◌, length, get_or, drop}
use Rattle.std.proofs.Common.{All, refl, sym, ap, subst, arith, append-nil}
use Rattle.std.specs.Prelude.{filter}
use Rattle.std.specs.List.{flat_map}
use Rattle.std.proofs.lemmas.Bool.Decides.{nat_tests}
use Rattle.std.proofs.lemmas.List.{drop_more, length-append, get_or_append_left, get_or-append-add, drop_all}
use Rattle.std.proofs.lemmas.List.Concat.{flat_map-append}
use Rattle.std.proofs.lemmas.List.Elements.{All-nil, All-cons, filter-append}
use Rattle.std.proofs.lemmas.List.Sums.{sum_by-cons}
use Rattle.std.specs.Prelude.{Result, Ok, Err}
use Rattle.kc_io.specs.Sinks.{Written, HandsOver}
use Rattle.kc_io.proofs.SinksLemmas.{Pending, took_front, took_all, began_front}
use Rattle.kc_tally.specs.declared.row.Row.{Row}
use Rattle.kc_tally.specs.Tally.{total_of}
use Rattle.kc_report.specs.declared.dump.Dump.{Dump}
use Rattle.kc_report.specs.Dumping.{dump_text, row_text, is_shown}
use Rattle.kc_report.specs.Table.{rows_text}

-- the rows of all pieces
abbrev pub all_rows : List (List Row) → List Row
all_rows pieces = flat_map (λ piece. piece) pieces

pub dump_text-append : (k : ℕ) (dump : Dump) (xs ys : List Row)
    → dump_text k dump (xs ++ ys) ≡ dump_text k dump xs ++ dump_text k dump ys
dump_text-append k dump xs ys =
    ap (flat_map (row_text k dump)) (filter-append (is_shown dump) xs ys)
    ∙ flat_map-append (row_text k dump) (filter (is_shown dump) xs) (filter (is_shown dump) ys)

-- the dump of the pieces from one on is its own and that of the pieces after it
pub next_piece : (k : ℕ) (dump : Dump) (pieces : List (List Row)) (i : ℕ) (piece : List Row) → i < length pieces
    → dump_text k dump (all_rows (drop i pieces))
    ≡ dump_text k dump (get_or pieces i piece) ++ dump_text k dump (all_rows (drop (i + 1) pieces))
next_piece k dump pieces i piece h =
    ap (λ ps. dump_text k dump (all_rows ps)) (drop_more pieces i piece h)
    ∙ dump_text-append k dump (get_or pieces i piece) (all_rows (drop (i + 1) pieces))

-- the dump of the first pieces and of the others
pub first_pieces : (k : ℕ) (dump : Dump) (pieces front rest : List (List Row)) → pieces ≡ front ++ rest
    → dump_text k dump (all_rows pieces) ≡ dump_text k dump (all_rows front) ++ dump_text k dump (all_rows rest)
first_pieces k dump pieces front rest is =
    ap (λ ps. dump_text k dump (all_rows ps)) is
    ∙ ap (dump_text k dump) (flat_map-append (λ (piece : List Row). piece) front rest)
    ∙ dump_text-append k dump (all_rows front) (all_rows rest)

-- the last of the text is handed over, in either outcome
pub last_pieces : {A E : Type 0} (s a b : Written) (text x : List ℕ) (r : Result A E) → Pending s a text x → HandsOver a b r x
    → HandsOver s b r text
last_pieces s a b text x (Ok y) p w = took_all s b text (took_front s a b text x [] (subst (λ v. Pending s a text v) (sym (append-nil x)) p) w)
last_pieces s a b text x (Err f) p w = began_front s a b text x [] (subst (λ v. Pending s a text v) (sym (append-nil x)) p) w

-- items that were all written over
pub nothing_left : {X : Type 0} (given items : List X) → given ++ drop (length items) items ≡ given
nothing_left given items = ap (λ v. given ++ v) (drop_all (length items) items (omega arith)) ∙ append-nil given

-- what holds for joined lists holds for each
All-front : {X : Type 0} (P : X → Type 0) (xs ys : List X) → All P (xs ++ ys) → All P xs
All-front P xs ys all = λ i d h.
    let long = length-append xs ys in subst P (get_or_append_left xs ys d i h) (all i d (omega (arith, long, h)))

All-behind : {X : Type 0} (P : X → Type 0) (xs ys : List X) → All P (xs ++ ys) → All P ys
All-behind P xs ys all = λ i d h.
    let long = length-append xs ys in
    subst P (get_or-append-add xs ys i d) (all (length xs + i) d (omega (arith, long, h)))

-- what holds for all rows holds for the rows of each piece
pub All-pieces : (P : Row → Type 0) (pieces : List (List Row)) → All P (all_rows pieces) → All (All P) pieces
All-pieces P [] all = All-nil (All P)
All-pieces P (piece ∷ pieces) all =
    All-cons (All P) piece pieces (All-front P piece (all_rows pieces) all)
    (All-pieces P pieces (All-behind P piece (all_rows pieces) all))

-- the dump that lays out the rows of a table
abbrev pub in_columns : Dump
in_columns = record { column = true; tab = false; lower = 0; upper = 2 ^ 62 }

-- a dump of all rows in columns is the rows of a table
pub dump_text-table : (k : ℕ) (rows : List Row) → total_of rows ≤ 2 ^ 62 → dump_text k in_columns rows ≡ rows_text k rows
dump_text-table k [] small = refl
dump_text-table k (row ∷ rows) small =
    let total = sum_by-cons (λ (row : Row). row.count) row rows in
    let shown : is_shown in_columns row ≡ true = grind (arith, nat_tests, total, small) in
    ap (λ b. flat_map (row_text k in_columns) (cond b (row ∷ filter (is_shown in_columns) rows) (filter (is_shown in_columns) rows))) shown
    ∙ ap (λ v. row_text k in_columns row ++ v) (dump_text-table k rows (omega (arith, total, small)))
