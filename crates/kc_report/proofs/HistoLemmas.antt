-- A histogram, line by line.
use Rattle.std.proofs.Common.{◌≡◌, ℕ, zero, suc, ◌+◌, ◌<◌, List, ◌++◌, length, get_or, take, drop, map, sym, ◌∙◌, ap, append_assoc, arith}
use Rattle.std.specs.Prelude.{flat_map, sum}
use Rattle.std.specs.List.{range_with_len}
use Rattle.std.proofs.lemmas.List.{drop_more}
use Rattle.std.proofs.Math.ListN.{drop_of_length-le}
use Rattle.kc_io.specs.Sinks.{Written, Drains}
use Rattle.kc_io.proofs.SinksLemmas.{Pending, SinkCall, drained}
use Rattle.kc_tally.specs.declared.row.Row.{Row}
use Rattle.kc_tally.specs.Histogram.{last_bin, bins_of, counts_of}
use Rattle.kc_report.proofs.CountLemmas.{bins-front, bins-rest}
use Rattle.kc_report.specs.Histo.{words_with_count, words_above, words_by_count, count_line, lines_from, histo_text}

-- the text of a histogram, by how many words have each count
lines-map : (f : ℕ → ℕ) (from n above : ℕ)
    → flat_map (λ count. count_line count (f count)) (range_with_len from n) ++ count_line (from + n) above ≡ lines_from from (map f (range_with_len from n)) above
unfolding lines_from
lines-map f from zero above = ap (λ count. count_line count above) (omega arith)
lines-map f from (suc n) above =
    append_assoc (count_line from (f from)) (flat_map (λ count. count_line count (f count)) (range_with_len (from + 1) n)) (count_line (from + suc n) above)
    ∙ ap (λ last. count_line from (f from) ++ (flat_map (λ count. count_line count (f count)) (range_with_len (from + 1) n) ++ count_line last above)) (later n)
    ∙ ap (λ rest. count_line from (f from) ++ rest) (lines-map f (from + 1) n above)
  where
    later : (m : ℕ) → from + suc m ≡ from + 1 + m
    later m = omega arith

pub text-lines : (high : ℕ) (rows : List Row) → histo_text high rows ≡ lines_from 1 (words_by_count high rows) (words_above rows high)
unfolding histo_text words_by_count
text-lines high rows =
    ap (λ last. flat_map (λ count. count_line count (words_with_count rows count)) (range_with_len 1 high) ++ count_line last (words_above rows high)) (omega arith)
    ∙ lines-map (words_with_count rows) 1 high (words_above rows high)

-- from how many words have each count up to one, and how many have a greater one
pub text-counted : (high : ℕ) (rows : List Row) (words : List ℕ) (above : ℕ) → words ≡ words_by_count high rows → above ≡ words_above rows high
    → lines_from 1 words above ≡ histo_text high rows
text-counted high rows words above each rest = ap (λ v. lines_from 1 v above) each ∙ ap (lines_from 1 (words_by_count high rows)) rest ∙ sym (text-lines high rows)

-- from the bins of a tally
pub text-bins : (high : ℕ) (rows : List Row) (bins words : List ℕ) (above : ℕ) → high < last_bin → bins ≡ bins_of (counts_of rows) → words ≡ take high bins → above ≡ sum (drop high bins)
    → lines_from 1 words above ≡ histo_text high rows
text-bins high rows bins words above small are front rest =
    text-counted high rows words above (front ∙ bins-front high rows bins small are) (rest ∙ bins-rest high rows bins small are)

-- the next line, and the others
lines-next : (words : List ℕ) (above i d : ℕ) → i < length words
    → lines_from (i + 1) (drop i words) above ≡ count_line (i + 1) (get_or words i d) ++ lines_from (i + 1 + 1) (drop (i + 1) words) above
unfolding lines_from
lines-next words above i d within = ap (λ rest. lines_from (i + 1) rest above) (drop_more words i d within)

-- the last line
pub lines-last : (words : List ℕ) (above i : ℕ) → i ≡ length words → lines_from (i + 1) (drop i words) above ≡ count_line (length words + 1) above
unfolding lines_from
lines-last words above i all =
    ap (λ rest. lines_from (i + 1) rest above) (drop_of_length-le words (omega (arith, all))) ∙ ap (λ n. count_line (n + 1) above) all

-- the line of the next count was appended to the block
pub next_line : {s a b : Written} {text after : List ℕ} (block words : List ℕ) (above i d : ℕ) → i < length words
    → Pending s a text (block ++ lines_from (i + 1) (drop i words) above) → Drains a b (block ++ count_line (i + 1) (get_or words i d)) after
    → Pending s b text (after ++ lines_from (i + 1 + 1) (drop (i + 1) words) above)
next_line {s} {a} {b} {text} {after} block words above i d within p moved =
    let line = count_line (i + 1) (get_or words i d) in
    let rest = lines_from (i + 1 + 1) (drop (i + 1) words) above in
    let cut : block ++ lines_from (i + 1) (drop i words) above ≡ (block ++ line) ++ rest =
    ap (λ v. block ++ v) (lines-next words above i d within) ∙ sym (append_assoc block line rest) in
    let call : SinkCall = record { start = s; now = a; next = b; text = text; rest = block ++ lines_from (i + 1) (drop i words) above; pending = p } in
    drained call (block ++ line) after rest cut moved
