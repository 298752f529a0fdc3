-- Whether a row may come next.
use Rattle.std.proofs.Common.{◌≡◌, ℕ, ◌+◌, ◌-◌, ◌^◌, ◌<◌, ◌≤◌, Bool, false, List, [], ◌∷◌, ◌++◌, take, drop, sym}
use Rattle.std.proofs.Common.{◌∙◌, ap, subst, arith, refl, length, get_or}
use Rattle.std.proofs.lemmas.List.{take-append-drop, length_push, get_or_push}
use Rattle.std.proofs.lemmas.List.Sums.{sum_by-append}
use Rattle.std.specs.Prelude.{IsTrue, IfSome, Option, Some, None}
use Rattle.kc_kmer.specs.Word.{text, form}
use Rattle.kc_tally.specs.declared.row.Row.{Row}
use Rattle.kc_tally.specs.Tally.{AreRows, TallySeen}
use Rattle.kc_tally.proofs.PackingSteps.{word-small}
use Rattle.kc_report.specs.Dumping.{row_in_columns}
use Rattle.kc_report.specs.TableReading.{BeginsWith, MayFollow}
use Rattle.kc_report.specs.RowByRow.{RowsRead, EndWith, IsKeptOf, ComesNext, with_row}
use Rattle.kc_report.proofs.TableFronts.{AreRows-last, AreRows-push}
use Rattle.kc_report.proofs.FieldLemmas.{one_row, never, SaysNone}
use Rattle.kc_report.proofs.TableLines.{Fits}

pub follower_fits : (t : TallySeen) (row : Row) → MayFollow t row → Fits t.k row
follower_fits t row follows =
    let l = AreRows-last t.k t.both t.rows row follows in
    let small = l.small in
    record { word = l.word; count = omega (arith, small) }

-- the bytes begin with this row
pub record Says (k : ℕ) (bytes : List ℕ) (row : Row) : Type 0 where
  pub fits : Fits k row
  pub at : BeginsWith bytes (row_in_columns k false row)

pub says : {bytes : List ℕ} (k : ℕ) (row : Row) (size : ℕ) → Fits k row → take size bytes ≡ row_in_columns k false row
    → Says k bytes row
says {bytes} k row size fits e = record {
  fits = fits;
  at = (drop size bytes, sym (take-append-drop size bytes) ∙ ap (λ v. v ++ drop size bytes) e);
}

-- ---- the header and what is kept of the rows

pub next_fits : (r : RowsRead) (row : Row) → ComesNext r row → Fits r.k row
next_fits r row next = let small = next.small in record { word = next.word; count = omega (arith, small) }

rises-from : (rows : List Row) (last : Option ℕ) (word : ℕ) → EndWith rows last → IfSome last (λ l. l < word)
    → (i : ℕ) (d : Row) → i + 1 ≡ length rows → (get_or rows i d).word < word
rises-from rows None word ends less i d h = let none = ap length ends in absurd (omega (arith, none, h))
rises-from rows (Some last) word ends less i d h =
    let long = ap length ends.2 in
    let longer = length_push ends.0 ends.1 in
    let at = get_or_push ends.0 ends.1 d i (omega (arith, h, long, longer)) in
    let here : (get_or rows i d).word ≡ ends.1.word = ap (λ (rows : List Row). (get_or rows i d).word) ends.2
    ∙ ap (λ (row : Row). row.word) at in
    let same = ends.3 in
    omega (arith, here, same, less)

rises-to : (rows : List Row) (last : Option ℕ) (word : ℕ) → EndWith rows last
    → ((i : ℕ) (d : Row) → i + 1 ≡ length rows → (get_or rows i d).word < word) → IfSome last (λ l. l < word)
rises-to rows None word ends above = tt
rises-to rows (Some last) word ends above =
    let long = ap length ends.2 in
    let longer = length_push ends.0 ends.1 in
    let less = above (length ends.0) ends.1 (omega (arith, long, longer)) in
    let at = get_or_push ends.0 ends.1 ends.1 (length ends.0) refl in
    let here : (get_or rows (length ends.0) ends.1).word ≡ ends.1.word =
    ap (λ (rows : List Row). (get_or rows (length ends.0) ends.1).word) ends.2 ∙ ap (λ (row : Row). row.word) at in
    let same = ends.3 in
    omega (arith, here, same, less)

-- a row that may come next by what is kept of the rows may follow them
pub follows-kept : (rows : List Row) (read : RowsRead) (row : Row) → IsKeptOf rows read
    → AreRows read.k read.both rows → ComesNext read row → AreRows read.k read.both (rows ++ row ∷ [])
follows-kept rows read row kept are next =
    let small = next.small in
    let total = kept.total in
    AreRows-push read.k read.both rows row are
    (record {
      word = next.word;
      count = next.present;
      formed = next.formed;
      small = omega (arith, small, total);
      above = rises-from rows read.last row.word kept.last next.rises;
    })

-- and the other way round
pub comes-kept : (rows : List Row) (read : RowsRead) (row : Row) → IsKeptOf rows read
    → AreRows read.k read.both (rows ++ row ∷ []) → ComesNext read row
comes-kept rows read row kept follows =
    let last = AreRows-last read.k read.both rows row follows in
    let small = last.small in
    let total = kept.total in
    record {
      word = last.word;
      formed = last.formed;
      rises = rises-to rows read.last row.word kept.last last.above;
      present = last.count;
      small = omega (arith, small, total);
    }

pub kept_none : (k : ℕ) (both : Bool)
    → IsKeptOf [] (record { k = k; both = both; last = None; count = 0; total = 0 })
kept_none k both = record { last = refl; count = refl; total = refl }

pub kept_push : {rows : List Row} {read : RowsRead} (row : Row) → IsKeptOf rows read
    → IsKeptOf (rows ++ row ∷ []) (with_row read row)
kept_push {rows} {read} row kept = record {
  last = (rows, row, refl, refl);
  count = let count = kept.count in omega (arith, count, length_push rows row);
  total = let total = kept.total in
      omega (arith, total, sum_by-append (λ (row : Row). row.count) rows (row ∷ []));
}

-- ---- the row at the front of the bytes

-- Bytes without a row at their front that may come next begin with no such row.
pub no_other_row : {bytes : List ℕ} {found : Row} (t u : RowsRead) → t ≡ u → Says t.k bytes found
    → ¬ ComesNext u found → (row : Row) → ComesNext u row → BeginsWith bytes (row_in_columns u.k false row) → ⊥
no_other_row {bytes} {found} t u view says refused row follows f =
    let here = subst (λ k. Says k bytes found) (ap (λ (t : RowsRead). t.k) view) says in
    let same = one_row u.k found row bytes here.fits (next_fits u row follows) here.at f in
    refused (subst (λ row. ComesNext u row) (sym same) follows)

pub no_row : (t u : RowsRead) (bytes : List ℕ) → t ≡ u → SaysNone t.k bytes
    → (row : Row) → ComesNext u row → BeginsWith bytes (row_in_columns u.k false row) → ⊥
no_row t u bytes view none row follows at =
    let k = sym (ap (λ (t : RowsRead). t.k) view) in
    let small = follows.small in
    none row (subst (λ k. row.word < 4 ^ k) k follows.word) follows.present (omega (arith, small))
    (subst (λ k. BeginsWith bytes (row_in_columns k false row)) k at)

-- ---- the test

pub no_rise : (u : RowsRead) (row : Row) (rises : Bool) → (IfSome u.last (λ last. last < row.word) → IsTrue rises)
    → rises ≡ false → (IsTrue false → ComesNext u row) × (ComesNext u row → IsTrue false)
no_rise u row rises told refused = (λ h. absurd (never h), λ follows. sym refused ∙ told follows.rises)

-- what the code knows of the rows so far and of the form of the next one
pub record Tested (t : RowsRead) (row : Row) (formed : Bool) : Type 0 where
  pub small : t.total ≤ 2 ^ 62
  pub to : IsTrue formed → form t.both (text t.k row.word) ≡ text t.k row.word
  pub from : form t.both (text t.k row.word) ≡ text t.k row.word → IsTrue formed

pub may_come : {t u : RowsRead} {row : Row} {formed : Bool} → t ≡ u → Tested t row formed
    → row.word < 4 ^ u.k → IfSome u.last (λ last. last < row.word) → 1 ≤ row.count → row.count ≤ 2 ^ 62 - t.total
    → (IsTrue formed → ComesNext u row) × (ComesNext u row → IsTrue formed)
may_come {t} {u} {row} {formed} view tested_ below rises some fits =
    let tested = subst (λ t. Tested t row formed) view tested_ in
    let total = ap (λ (t : RowsRead). t.total) view in
    let small = tested.small in (
      λ is. record {
        word = below;
        formed = tested.to is;
        rises = rises;
        present = some;
        small = omega (arith, fits, small, total);
      },
      λ follows. tested.from follows.formed,
    )

-- a row that may come next is one that may be packed
pub may-pack : (k : ℕ) (both : Bool) (rows : List Row) (row : Row) → k ≤ 31 → AreRows k both (rows ++ row ∷ [])
    → (row.word < 2 ^ 62) × (1 ≤ row.count)
may-pack k both rows row most are =
    let last = AreRows-last k both rows row are in
    (word-small k row.word most last.word, last.count)
