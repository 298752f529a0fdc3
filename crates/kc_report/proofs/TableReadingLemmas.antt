-- A table text, line by line, as it is taken of a source.
use Rattle.std.proofs.Common.{◌≡◌, ℕ, zero, suc, ◌+◌, ◌≤◌, Bool, true, false, eqb, List, [], ◌∷◌, ◌++◌}
use Rattle.std.proofs.Common.{length, get_or, drop, take, refl, sym, ◌∙◌, ap, subst, append_assoc, append-nil, length-append, arith}
use Rattle.std.proofs.Common.{inl, inr, ◌⊎◌}
use Rattle.std.specs.Prelude.{codes, IsTrue, Ok, Option}
use Rattle.std.specs.Cmp.Lexicographic.{pointwise}
use Rattle.std.proofs.lemmas.Bool.Decides.{Decides-eqb}
use Rattle.std.proofs.lemmas.List.{take-append-drop, length-take-le, take-take}
use Rattle.std.proofs.lemmas.Slice.Eq.{starts_is}
use Rattle.kc_io.specs.Sources.{Seen}
use Rattle.kc_gzip.specs.declared.unpacked_intakes.TakeFault.{TakeFault}
use Rattle.kc_gzip.specs.declared.unpacked_intakes.TakeFault.TheVariants as taking
use Rattle.kc_gzip.specs.Intakes.{Ended, Filled, FillingFails, Skips, TakingFails, Unread, nothing_taken}
use Rattle.kc_kmer.specs.Word.{text}
use Rattle.kc_tally.specs.declared.row.Row.{Row}
use Rattle.kc_tally.specs.Tally.{TallySeen, total_of}
use Rattle.kc_report.specs.declared.report_faults.ReportFault.TheVariants.{BadHeader, BadRow, BadEnd, Memory}
use Rattle.kc_report.specs.Bytes.{line_feed}
use Rattle.kc_report.specs.Dumping.{row_in_columns}
use Rattle.kc_report.specs.Faults.{taking_fault}
use Rattle.kc_report.specs.Lines.{CameForLine, Without, IsLine}
use Rattle.kc_report.specs.declared.origin.Origin.{Origin}
use Rattle.kc_report.specs.Table.{header_line, MaySay, end_line, ended, front_text, end_text}
use Rattle.kc_report.specs.TableReading.{BeginsWith, HasLine, IsTable, ReadsTo, MayFollow}
use Rattle.kc_report.specs.TableReading.{GivesTable, RefusesTable}
use Rattle.kc_report.specs.RowByRow.{BeginsWithNoRow, RefusesHeader, RefusesRow, RowsRead}
use Rattle.kc_report.proofs.FieldLemmas.{never}
use Rattle.kc_report.proofs.NextRowLemmas.{follower_fits, next_fits}
use Rattle.kc_report.proofs.TableAnswers.{end_has_line, row_has_line}
use Rattle.kc_report.proofs.TableFronts.{AreRows-none, length-le_total}
use Rattle.kc_report.proofs.TableLines.{row_line, first_line, row-no_end, Without-row, Without-header, Without-end}
use Rattle.kc_report.proofs.TableSearch.{front_push}
use Rattle.kc_report.proofs.UsedLemmas.{Used, used_none, used_filled, used_up, used_ended, used_skips, used_fails}
use Rattle.kc_report.proofs.UsedLemmas.{used_in_vain}

-- ---- one line of the bytes

-- the first line of the bytes, and what follows it
pub record Splits (bytes line rest : List ℕ) : Type 0 where
  pub split : bytes ≡ line ++ rest
  pub one : IsLine line

line_is : {bytes line rest : List ℕ} (l r : List ℕ) → Splits bytes line rest → Without line_feed l
    → bytes ≡ ended l ++ r → line ≡ ended l
line_is {bytes} {line} {rest} l r s free e =
    let same = first_line s.one.bytes l rest r s.one.one free (ap (λ v. v ++ rest) (sym s.one.whole) ∙ sym s.split
    ∙ e) in
    s.one.whole ∙ ap ended same.0

has_line : {bytes line rest : List ℕ} → Splits bytes line rest → HasLine bytes
has_line {bytes} {line} {rest} s = (s.one.bytes, (rest, s.split ∙ ap (λ v. v ++ rest) s.one.whole))

-- a line that begins with `END` as far as it goes
end_of_line : (t rest more : List ℕ) → ended t ++ rest ≡ codes "END" ++ more
    → (tail : List ℕ) × (ended t ≡ codes "END" ++ tail)
end_of_line [] rest more e = absurd (omega (arith, ap (λ (l : List ℕ). get_or l 0 0) e))
end_of_line (a ∷ []) rest more e = absurd (omega (arith, ap (λ (l : List ℕ). get_or l 1 0) e))
end_of_line (a ∷ (b ∷ [])) rest more e = absurd (omega (arith, ap (λ (l : List ℕ). get_or l 2 0) e))
end_of_line (a ∷ (b ∷ (c ∷ t))) rest more e =
    let first : a ≡ 69 = ap (λ (l : List ℕ). get_or l 0 0) e in
    let second : b ≡ 78 = ap (λ (l : List ℕ). get_or l 1 0) e in
    let third : c ≡ 68 = ap (λ (l : List ℕ). get_or l 2 0) e in
    (ended t, λ i. first i ∷ second i ∷ third i ∷ ended t)

-- what the code tests of a line
abbrev pub BeginsAsEnd : List ℕ → Bool → Type 0
BeginsAsEnd line is = is ≡ pointwise eqb (codes "END") (take 3 line)

no_end : {left line rest : List ℕ} (is : Bool) → Splits left line rest → BeginsAsEnd line is → is ≡ false
    → ¬ BeginsWith left (codes "END")
no_end {left} {line} {rest} is s told refused at =
    let tail = end_of_line s.one.bytes rest at.0 (ap (λ v. v ++ rest) (sym s.one.whole) ∙ sym s.split ∙ at.1) in
    never (sym refused ∙ (starts_is Decides-eqb line (codes "END") is told).1 tail.0 (s.one.whole ∙ tail.1))

begins_with_end : {left line rest : List ℕ} (is : Bool) → Splits left line rest → BeginsAsEnd line is → is ≡ true
    → BeginsWith left (codes "END")
begins_with_end {left} {line} {rest} is s told taken = (
  drop 3 line ++ rest,
  s.split ∙ ap (λ v. v ++ rest) ((starts_is Decides-eqb line (codes "END") is told).0 taken)
      ∙ append_assoc (codes "END") (drop 3 line) rest,
)

-- ---- one line of what was taken

-- the header and the rows of a tally
abbrev pub front_of : TallySeen → Option Origin → List ℕ
front_of front origin = front_text front.k front.both origin front.rows

-- the header and these rows were taken and used, and nothing else
pub record Reached (old now : Seen) (limit : ℕ) (front : TallySeen) (origin : Option Origin) (unread : Unread) : Type 0 where
  pub lawful : IsTable front origin
  pub used : Used old now limit (front_of front origin) unread

-- a line is at the front of the unread bytes, and has so many
pub record InFront (unread : Unread) (count : ℕ) (line : List ℕ) : Type 0 where
  pub cut : line ≡ take count unread.bytes
  pub one : IsLine line

pub in_front : {unread : Unread} {count : ℕ} {line : List ℕ} → IsLine (take count unread.bytes)
    → line ≡ take count unread.bytes → InFront unread count line
in_front one cut = record { cut = cut; one = subst IsLine (sym cut) one }

splits : {unread : Unread} {count : ℕ} {line : List ℕ} (more : List ℕ) → InFront unread count line
    → Splits (unread.bytes ++ more) line (drop count unread.bytes ++ more)
splits {unread} {count} {line} more f = record {
  split =
      let rest = drop count unread.bytes in
      ap (λ v. v ++ more) (sym (take-append-drop count unread.bytes) ∙ ap (λ v. v ++ rest) (sym f.cut))
      ∙ append_assoc line rest more;
  one = f.one;
}

pub reached_more : {old mid now : Seen} {limit : ℕ} {front : TallySeen} {origin : Option Origin} {before after : Unread}
    → Reached old mid limit front origin before → Filled mid now before after → Reached old now limit front origin after
reached_more r filled = record { lawful = r.lawful; used = used_filled r.used filled }

reads_to : {old mid : Seen} {limit : ℕ} {front : TallySeen} {origin : Option Origin} {unread : Unread} (more : List ℕ)
    → Reached old mid limit front origin unread
    → ReadsTo ((front_of front origin ++ unread.bytes) ++ more) front origin (unread.bytes ++ more)
reads_to {front = front} {origin = origin} {unread = unread} more r =
    record { lawful = r.lawful; split = append_assoc (front_of front origin) unread.bytes more }

-- ---- the header

-- some bytes came, and none was used
pub begun : {old now : Seen} {limit : ℕ} {start unread : Unread} → start ≡ nothing_taken limit
    → Filled old now start unread → Used old now limit [] unread
begun {old} {now} {limit} {start} {unread} new filled =
    used_filled (used_none old limit) (subst (λ v. Filled old now v unread) new filled)

-- no block was had
pub begun_in_vain : (s : Seen) (limit : ℕ) → RefusesHeader s s limit Memory
begun_in_vain s limit = used_in_vain (used_none s limit)

-- there was no line
pub header_missing : {old new : Seen} {limit : ℕ} {unread : Unread} → Used old new limit [] unread → Ended unread
    → ¬ HasLine unread.bytes → RefusesHeader old new limit BadHeader
header_missing {unread = unread} used ended none = (
  unread.bytes,
  used_ended used ended,
  λ k both origin some most said at. none (header_line k both origin, at),
)

-- the first line is no header
pub header_refused : {old mid new : Seen} {limit count many : ℕ} {unread : Unread} {line : List ℕ}
    → Used old mid limit [] unread → Skips mid new unread (Ok many) → InFront unread count line
    → ((k : ℕ) (both : Bool) (origin : Option Origin) → 1 ≤ k → k ≤ 31 → MaySay origin
    → line ≡ ended (header_line k both origin) → ⊥)
    → RefusesHeader old new limit BadHeader
header_refused {unread = unread} used skips f none = (
  unread.bytes ++ skips.0,
  used_skips used skips,
  λ k both origin some most said at. none k both origin some most said
      (line_is (header_line k both origin) at.0 (splits skips.0 f) (Without-header k both origin most said) at.1),
)

-- the possible fields of a header
pub record MayBegin (k : ℕ) (origin : Option Origin) : Type 0 where
  pub some : 1 ≤ k
  pub most : k ≤ 31
  pub said : MaySay origin

-- the first line is a header
pub header_used : {old now : Seen} {limit count : ℕ} {unread : Unread} {line : List ℕ} (k : ℕ) (both : Bool)
    (origin : Option Origin) → Used old now limit [] unread → InFront unread count line → MayBegin k origin
    → line ≡ ended (header_line k both origin)
    → Reached old now limit (record { k = k; both = both; rows = [] }) origin
    (record unread { bytes = drop count unread.bytes })
header_used {old} {now} {limit} {count} {unread} {line} k both origin used f may e = record {
  lawful = record { some = may.some; most = may.most; rows = AreRows-none k both; said = may.said };
  used =
      let text : take count unread.bytes ≡ ended (header_line k both origin) ++ [] = sym f.cut ∙ e
      ∙ sym (append-nil (ended (header_line k both origin))) in
      subst (λ v. Used old now limit v (record unread { bytes = drop count unread.bytes })) text (used_up count used);
}

-- ---- rows

-- the row at the front of the unread bytes was used
pub row_passed : {old now : Seen} {limit : ℕ} {front : TallySeen} {origin : Option Origin} {unread : Unread}
    (size : ℕ) (row : Row) → Reached old now limit front origin unread
    → take size unread.bytes ≡ row_in_columns front.k false row → MayFollow front row
    → Reached old now limit (record front { rows = front.rows ++ row ∷ [] }) origin
    (record unread { bytes = drop size unread.bytes })
row_passed {old} {now} {limit} {front} {origin} {unread} size row r said follows =
    let after : TallySeen = record front { rows = front.rows ++ row ∷ [] } in
    let text : front_of front origin ++ take size unread.bytes ≡ front_of after origin =
    ap (λ v. front_of front origin ++ v) said ∙ front_push front origin row in
    record {
      lawful = record { some = r.lawful.some; most = r.lawful.most; rows = follows; said = r.lawful.said };
      used = subst (λ v. Used old now limit v (record unread { bytes = drop size unread.bytes })) text
          (used_up size r.used);
    }

-- the line begins with a row that may come next
pub row_used : {old now : Seen} {limit count : ℕ} {front : TallySeen} {origin : Option Origin} {unread : Unread} {line : List ℕ} (size : ℕ)
    (row : Row) → Reached old now limit front origin unread → line ≡ take count unread.bytes → count ≤ length unread.bytes
    → MayFollow front row → size ≤ length line → take size line ≡ row_in_columns front.k false row
    → Reached old now limit (record front { rows = front.rows ++ row ∷ [] }) origin
    (record unread { bytes = drop size unread.bytes })
row_used {old} {now} {limit} {count} {front} {origin} {unread} {line} size row r cut inside follows within e =
    let short = length-take-le count unread.bytes inside in
    let long = ap length cut in
    let same : take size unread.bytes ≡ take size line =
    sym (ap (take size) cut ∙ take-take size count unread.bytes (omega (arith, short, long, within))) in
    row_passed size row r (same ∙ e) follows

-- the line is no such row
pub row_refused : {old mid new : Seen} {limit count many : ℕ} {front : TallySeen} {origin : Option Origin}
    {unread : Unread} {line : List ℕ} (is : Bool) (number : ℕ)
    → Reached old mid limit front origin unread → Skips mid new unread (Ok many) → InFront unread count line
    → BeginsAsEnd line is × (is ≡ false)
    → ((row : Row) → MayFollow front row → BeginsWith line (row_in_columns front.k false row) → ⊥)
    → number ≡ length front.rows + 2 → RefusesRow old new limit front (BadRow number)
row_refused {front = front} {origin = origin} {unread = unread} is number r skips f told none counted = (
  (front_of front origin ++ unread.bytes) ++ skips.0,
  used_skips r.used skips,
  (
    record {
      front = front;
      origin = origin;
      rest = unread.bytes ++ skips.0;
      reads = reads_to skips.0 r;
      line = has_line (splits skips.0 f);
      no_end = no_end is (splits skips.0 f) told.0 told.1;
      no_row = λ row follows at. none row follows (
        [],
        line_is (row_line front.k row) at.0 (splits skips.0 f)
            (Without-row front.k row (follower_fits front row follows).count) at.1
            ∙ sym (append-nil (row_in_columns front.k false row)),
      );
      counted = counted;
    },
    refl,
  ),
)

-- ---- bytes that do not begin with a row that may come next

-- no line is there
pub no_row_without_line : (read : RowsRead) (bytes : List ℕ) → ¬ HasLine bytes → BeginsWithNoRow read bytes
no_row_without_line read bytes none = λ row next at. none (row_has_line read.k row bytes at)

-- the first line is none
pub no_row_in_line : {unread : Unread} {count : ℕ} {line : List ℕ} (read : RowsRead) → InFront unread count line
    → BeginsWithNoRow read line → BeginsWithNoRow read unread.bytes
no_row_in_line {unread} read f none = λ row next at. none row next (
  [],
  line_is (row_line read.k row) at.0 (splits [] f) (Without-row read.k row (next_fits read row next).count)
      (append-nil unread.bytes ∙ at.1) ∙ sym (append-nil (row_in_columns read.k false row)),
)

-- a row of words without bases begins with a blank
no_bases-no_end : (row : Row) (rest more : List ℕ) → ¬ (row_in_columns 0 false row ++ rest ≡ codes "END" ++ more)
unfolding text
no_bases-no_end row rest more e = omega (arith, ap (λ (l : List ℕ). get_or l 0 0) e)

row_is_no_end : (k : ℕ) (row : Row) (rest more : List ℕ)
    → ¬ (row_in_columns k false row ++ rest ≡ codes "END" ++ more)
row_is_no_end zero row rest more e = no_bases-no_end row rest more e
row_is_no_end (suc k) row rest more e = row-no_end (suc k) row rest more (omega arith) e

-- the line begins as the end does
pub no_row_at_end : (read : RowsRead) (line : List ℕ) (is : Bool) → BeginsAsEnd line is → is ≡ true
    → BeginsWithNoRow read line
no_row_at_end read line is told taken = λ row next at.
    row_is_no_end read.k row at.0 (drop 3 line)
    (sym at.1 ∙ (starts_is Decides-eqb line (codes "END") is told).0 taken)

-- none was there before a line was searched
pub no_row_before : {old mid : Seen} (read : RowsRead) (before after : Unread) → CameForLine old mid before after
    → BeginsWithNoRow read after.bytes → BeginsWithNoRow read before.bytes
no_row_before read before after (inl same) none = subst (λ (u : Unread). BeginsWithNoRow read u.bytes) same.1 none
no_row_before read before after (inr came) none = no_row_without_line read before.bytes came.0

-- ---- the end

-- no line is left
pub end_missing : {old new : Seen} {limit : ℕ} {front : TallySeen} {origin : Option Origin} {unread : Unread}
    → Reached old new limit front origin unread → Ended unread → ¬ HasLine unread.bytes
    → RefusesRow old new limit front BadEnd
end_missing {front = front} {origin = origin} {unread = unread} r ended none = (
  front_of front origin ++ unread.bytes,
  used_ended r.used ended,
  (
    record {
      front = front;
      origin = origin;
      rest = unread.bytes;
      reads = record { lawful = r.lawful; split = refl };
      ends = inl none;
      wrong = λ e. none (end_has_line front.rows unread.bytes e);
    },
    refl,
  ),
)

-- the end line of the rows is a line
end_is_line : {front : TallySeen} {origin : Option Origin} → IsTable front origin
    → Without line_feed (end_line (length front.rows) (total_of front.rows))
end_is_line {front} {origin} lawful =
    let most = length-le_total front.rows lawful.rows.ordered.present in
    let small = lawful.rows.small in
    Without-end (length front.rows) (total_of front.rows) (omega (arith, most, small)) (omega (arith, small))

-- if the end is left, it is the line, and nothing follows
only_end : {left line rest : List ℕ} {front : TallySeen} {origin : Option Origin} → IsTable front origin → Splits left line rest
    → left ≡ end_text front.rows → (line ≡ end_text front.rows) × (rest ≡ [])
only_end {left} {line} {rest} {front} {origin} lawful s e =
    let same : line ≡ end_text front.rows =
    line_is (end_line (length front.rows) (total_of front.rows)) [] s (end_is_line lawful)
    (e ∙ sym (append-nil (end_text front.rows))) in
    let long = ap length (sym e ∙ s.split ∙ ap (λ v. v ++ rest) same) in
    (same, none rest (omega (arith, long, length-append (end_text front.rows) rest))) where
      none : (rest : List ℕ) → length rest ≡ 0 → rest ≡ []
      none [] e = refl
      none (c ∷ rest) e = absurd (omega (arith, e))

-- two tests, of which one failed
pub not_both : {A B : Type 0} (one other : Bool) → (one ≡ false) ⊎ ((one ≡ true) × (other ≡ false))
    → (A → IsTrue other) → (B → IsTrue one) → A → B → ⊥
not_both one other (inl failed) told told_one a b = never (sym failed ∙ told_one b)
not_both one other (inr failed) told told_one a b = never (sym failed.1 ∙ told a)

-- the line begins as the end does, but it is another, or more follows it
pub end_refused : {old mid new : Seen} {limit count many : ℕ} {front : TallySeen} {origin : Option Origin}
    {unread : Unread} {line : List ℕ} (is : Bool)
    → Reached old mid limit front origin unread → (skips : Skips mid new unread (Ok many)) → InFront unread count line
    → BeginsAsEnd line is × (is ≡ true) → (line ≡ end_text front.rows → drop count unread.bytes ++ skips.0 ≡ [] → ⊥)
    → RefusesRow old new limit front BadEnd
end_refused {front = front} {origin = origin} {unread = unread} is r skips f told wrong = (
  (front_of front origin ++ unread.bytes) ++ skips.0,
  used_skips r.used skips,
  (
    record {
      front = front;
      origin = origin;
      rest = unread.bytes ++ skips.0;
      reads = reads_to skips.0 r;
      ends = inr (begins_with_end is (splits skips.0 f) told.0 told.1);
      wrong = λ e. let only = only_end r.lawful (splits skips.0 f) e in wrong only.0 only.1;
    },
    refl,
  ),
)

-- the line is the end, and nothing follows it
pub table_given : {old mid new : Seen} {limit count many : ℕ} {front : TallySeen} {origin : Option Origin}
    {unread : Unread} {line : List ℕ}
    → Reached old mid limit front origin unread → (skips : Skips mid new unread (Ok many)) → InFront unread count line
    → line ≡ end_text front.rows → drop count unread.bytes ++ skips.0 ≡ [] → GivesTable old new limit (front, origin)
table_given {front = front} {origin = origin} {unread = unread} {line = line} r skips f is none = record {
  bytes = (front_of front origin ++ unread.bytes) ++ skips.0;
  taken = used_skips r.used skips;
  has_table =
      let s = splits skips.0 f in
      let rest : unread.bytes ++ skips.0 ≡ end_text front.rows = s.split ∙ ap (λ v. line ++ v) none ∙ append-nil line
      ∙ is in
      record {
        lawful = r.lawful;
        whole = append_assoc (front_of front origin) unread.bytes skips.0
            ∙ ap (λ v. front_of front origin ++ v) rest;
      };
}

-- ---- sources

-- a source whose bytes could not be taken gave no header, and no row, for that reason
refuses-header : (old new : Seen) (limit : ℕ) (why : TakeFault) → TakingFails old new limit why
    → RefusesHeader old new limit (taking_fault why)
refuses-header old new limit taking.TooLong h = h
refuses-header old new limit taking.Read h = h
refuses-header old new limit taking.Broken h = h
refuses-header old new limit taking.Short h = h
refuses-header old new limit taking.Memory h = h

refuses-row : (old new : Seen) (limit : ℕ) (front : TallySeen) (why : TakeFault) → TakingFails old new limit why
    → RefusesRow old new limit front (taking_fault why)
refuses-row old new limit front taking.TooLong h = h
refuses-row old new limit front taking.Read h = h
refuses-row old new limit front taking.Broken h = h
refuses-row old new limit front taking.Short h = h
refuses-row old new limit front taking.Memory h = h

pub taking_refused : {old mid : Seen} {limit : ℕ} {used : List ℕ} {unread : Unread} (new : Seen) (why : TakeFault)
    → Used old mid limit used unread → FillingFails mid new unread why
    → RefusesHeader old new limit (taking_fault why)
taking_refused {old} {mid} {limit} new why used fails =
    refuses-header old new limit why (used_fails new why used fails)

pub row_taking_refused : {old mid : Seen} {limit : ℕ} {used : List ℕ} {unread : Unread} (front : TallySeen)
    (new : Seen) (why : TakeFault) → Used old mid limit used unread → FillingFails mid new unread why
    → RefusesRow old new limit front (taking_fault why)
row_taking_refused {old} {mid} {limit} front new why used fails =
    refuses-row old new limit front why (used_fails new why used fails)

pub memory_refused : {old now : Seen} {limit : ℕ} {used : List ℕ} {unread : Unread} → Used old now limit used unread
    → RefusesTable old now limit Memory
memory_refused used = inl (used_in_vain used)
