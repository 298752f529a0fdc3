-- Bytes have one result as a table text.
use Rattle.std.proofs.Common.{◌≡◌, ℕ, ◌+◌, ◌≤◌, Bool, false, List, [], ◌∷◌, ◌++◌, length, drop, refl, sym}
use Rattle.std.proofs.Common.{◌∙◌, ap, subst, append_assoc, append-nil, arith, inl, inr, ◌⊎◌}
use Rattle.std.specs.Prelude.{codes, Result, Ok, Err, Option}
use Rattle.kc_tally.specs.declared.row.Row.{Row}
use Rattle.kc_tally.specs.Tally.{AreRows, TallySeen, total_of}
use Rattle.kc_report.specs.declared.origin.Origin.{Origin}
use Rattle.kc_report.specs.declared.report_faults.ReportFault.{ReportFault}
use Rattle.kc_report.specs.declared.report_faults.ReportFault.TheVariants.{BadHeader, BadRow, BadEnd, Write, TableTooLong}
use Rattle.kc_report.specs.declared.report_faults.ReportFault.TheVariants.{TableRead, BrokenGzip, ShortGzip, BadWord}
use Rattle.kc_report.specs.declared.report_faults.ReportFault.TheVariants.{Unlike, TooLarge, Memory}
use Rattle.kc_report.specs.Dumping.{row_in_columns}
use Rattle.kc_report.specs.Table.{header_line, end_line, ended, rows_text, end_text, table_text}
use Rattle.kc_report.specs.TableReading.{BeginsWith, HasLine, IsTable, ReadsTo, HasBadHeader, IsTableOf}
use Rattle.kc_report.proofs.TableLines.{row_line, first_line, Fits, same_row, same_header, row-no_end, Without-row}
use Rattle.kc_report.proofs.TableLines.{Without-header, MayHead}
use Rattle.kc_report.proofs.TableFronts.{AreRows-front, AreRows-last}

-- the rest does not begin with a row that may come next
abbrev pub Stops : ℕ → Bool → List Row → List ℕ → Type 0
Stops k both rows rest = (row : Row) → AreRows k both (rows ++ row ∷ [])
    → ¬ BeginsWith rest (row_in_columns k false row)

-- the row that comes last is small
last_fits : (k : ℕ) (both : Bool) (rows : List Row) (row : Row) → AreRows k both (rows ++ row ∷ []) → Fits k row
last_fits k both rows row r = let l = AreRows-last k both rows row r in let small =
    l.small in record { word = l.word; count = omega (arith, small) }

next_of : (k : ℕ) (both : Bool) (rows : List Row) (row : Row) (more : List Row) → AreRows k both (rows ++ row ∷ more)
    → AreRows k both (rows ++ row ∷ [])
next_of k both rows row more r = AreRows-front k both (rows ++ row ∷ []) more
    (subst (AreRows k both) (sym (append_assoc rows (row ∷ []) more)) r)

-- a way to read rows after others, as far as it goes
pub record Way (k : ℕ) (both : Bool) (before rows : List Row) (rest : List ℕ) : Type 0 where
  pub lawful : AreRows k both (before ++ rows)
  pub stops : Stops k both (before ++ rows) rest

-- one row of it was read
passed : {k : ℕ} {both : Bool} {before more : List Row} {rest : List ℕ} (row : Row)
    → Way k both before (row ∷ more) rest → Way k both (before ++ row ∷ []) more rest
passed {k} {both} {before} {more} {rest} row w =
    let whole : before ++ row ∷ more ≡ (before ++ row ∷ []) ++ more = sym (append_assoc before (row ∷ []) more) in
    record { lawful = subst (AreRows k both) whole w.lawful; stops = subst (λ v. Stops k both v rest) whole w.stops }

-- if one reading stops, no row follows
stopped : {k : ℕ} {both : Bool} {before : List Row} {rest : List ℕ} (row : Row) (more : List Row)
    → Way k both before [] rest → AreRows k both (before ++ row ∷ more)
    → ¬ BeginsWith rest (row_in_columns k false row)
stopped {k} {both} {before} {rest} row more w lawful =
    let none : before ++ [] ≡ before = append-nil before in
    w.stops row (subst (λ v. AreRows k both (v ++ row ∷ [])) (sym none) (next_of k both before row more lawful))

-- Two ways to read rows from the front of bytes, both as far as it goes, are one.
pub agree : {k : ℕ} {both : Bool} {before : List Row} (rows others : List Row) (r s : List ℕ)
    → Way k both before rows r → Way k both before others s → rows_text k rows ++ r ≡ rows_text k others ++ s
    → (rows ≡ others) × (r ≡ s)
agree {k} {both} {before} [] [] r s p q e = (refl, e)
agree {k} {both} {before} [] (g ∷ gs) r s p q e =
    absurd (stopped g gs p q.lawful
    (rows_text k gs ++ s, e ∙ append_assoc (row_in_columns k false g) (rows_text k gs) s))
agree {k} {both} {before} (f ∷ fs) [] r s p q e =
    absurd (stopped f fs q p.lawful
    (rows_text k fs ++ r, sym e ∙ append_assoc (row_in_columns k false f) (rows_text k fs) r))
agree {k} {both} {before} (f ∷ fs) (g ∷ gs) r s p q e =
    let f_fits = last_fits k both before f (next_of k both before f fs p.lawful) in
    let g_fits = last_fits k both before g (next_of k both before g gs q.lawful) in
    let lines = first_line (row_line k f) (row_line k g) (rows_text k fs ++ r) (rows_text k gs ++ s)
    (Without-row k f f_fits.count) (Without-row k g g_fits.count)
    (sym (append_assoc (row_in_columns k false f) (rows_text k fs) r) ∙ e
    ∙ append_assoc (row_in_columns k false g) (rows_text k gs) s) in
    let same : f ≡ g = same_row k f g f_fits g_fits lines.0 in
    let q_here : Way k both (before ++ f ∷ []) gs s = subst (λ v. Way k both (before ++ v ∷ []) gs s) (sym same)
    (passed g q) in
    let more = agree fs gs r s (passed f p) q_here lines.1 in
    (λ i. same i ∷ more.0 i, more.1)

-- ---- where the reading ends

-- `END` stops the rows, and so does the end of the lines
pub stops_at_end : (k : ℕ) (both : Bool) (rows : List Row) (rest : List ℕ) → 1 ≤ k → BeginsWith rest (codes "END")
    → Stops k both rows rest
stops_at_end k both rows rest some begins row next at = row-no_end k row at.0 begins.0 some (sym at.1 ∙ begins.1)

pub row_has_line : (k : ℕ) (row : Row) (rest : List ℕ) → BeginsWith rest (row_in_columns k false row) → HasLine rest
row_has_line k row rest at = (row_line k row, at)

pub stops_without_line : (k : ℕ) (both : Bool) (rows : List Row) (rest : List ℕ) → ¬ HasLine rest
    → Stops k both rows rest
stops_without_line k both rows rest none row next at = none (row_has_line k row rest at)

pub end_begins : (rows : List Row) (rest : List ℕ) → rest ≡ end_text rows → BeginsWith rest (codes "END")
end_begins rows rest e = (drop 3 (end_text rows), e)

pub end_has_line : (rows : List Row) (rest : List ℕ) → rest ≡ end_text rows → HasLine rest
end_has_line rows rest e = (end_line (length rows) (total_of rows), ([], e ∙ sym (append-nil (end_text rows))))

-- the results for the rest of the bytes, after the last row that is read: a table, a bad end or a bad row
abbrev pub Answered : Type 0
Answered = Result (TallySeen × Option Origin) ReportFault

abbrev pub IsDone : TallySeen → Option Origin → List ℕ → Answered → Type 0
IsDone front origin rest answer = (answer ≡ Ok (front, origin)) × (rest ≡ end_text front.rows)

abbrev pub EndsBadly : TallySeen → List ℕ → Answered → Type 0
EndsBadly front rest answer = (answer ≡ Err BadEnd) × ((¬ HasLine rest) ⊎ BeginsWith rest (codes "END")) ×
    (¬ (rest ≡ end_text front.rows))

abbrev pub GoesOnBadly : TallySeen → List ℕ → Answered → Type 0
GoesOnBadly front rest answer = (answer ≡ Err (BadRow (length front.rows + 2))) × HasLine rest ×
    (¬ BeginsWith rest (codes "END"))

abbrev pub Outcome : TallySeen → Option Origin → List ℕ → Answered → Type 0
Outcome front origin rest answer =
    IsDone front origin rest answer ⊎ (EndsBadly front rest answer ⊎ GoesOnBadly front rest answer)

neither : (rest : List ℕ) → (¬ HasLine rest) ⊎ BeginsWith rest (codes "END") → HasLine rest
    → ¬ BeginsWith rest (codes "END") → ⊥
neither rest (inl none) line begins = none line
neither rest (inr is) line begins = begins is

one_outcome : (front : TallySeen) (origin : Option Origin) (rest : List ℕ) (one other : Answered)
    → Outcome front origin rest one → Outcome front origin rest other → one ≡ other
one_outcome front origin rest one other (inl p) (inl q) = p.0 ∙ sym q.0
one_outcome front origin rest one other (inl p) (inr (inl q)) = absurd (q.2 p.1)
one_outcome front origin rest one other (inl p) (inr (inr q)) = absurd (q.2 (end_begins front.rows rest p.1))
one_outcome front origin rest one other (inr (inl p)) (inl q) = absurd (p.2 q.1)
one_outcome front origin rest one other (inr (inl p)) (inr (inl q)) = p.0 ∙ sym q.0
one_outcome front origin rest one other (inr (inl p)) (inr (inr q)) = absurd (neither rest p.1 q.1 q.2)
one_outcome front origin rest one other (inr (inr p)) (inl q) = absurd (p.2 (end_begins front.rows rest q.1))
one_outcome front origin rest one other (inr (inr p)) (inr (inl q)) = absurd (neither rest q.1 p.1 p.2)
one_outcome front origin rest one other (inr (inr p)) (inr (inr q)) = p.0 ∙ sym q.0

-- the reading went as far as it could, to this rest
pub record ReadsOut (bytes : List ℕ) (answer : Answered) : Type 0 where
  pub front : TallySeen
  pub origin : Option Origin
  pub rest : List ℕ
  pub reads : ReadsTo bytes front origin rest
  pub stops : Stops front.k front.both front.rows rest
  pub outcome : Outcome front origin rest answer

abbrev pub Reading : List ℕ → Answered → Type 0
Reading bytes answer = (HasBadHeader bytes × (answer ≡ Err BadHeader)) ⊎ ReadsOut bytes answer

stops_badly : (k : ℕ) (both : Bool) (rows : List Row) (rest : List ℕ) → 1 ≤ k
    → (¬ HasLine rest) ⊎ BeginsWith rest (codes "END") → Stops k both rows rest
stops_badly k both rows rest some (inl none) = stops_without_line k both rows rest none
stops_badly k both rows rest some (inr is) = stops_at_end k both rows rest some is

reading : (bytes : List ℕ) (answer : Answered) → IsTableOf bytes answer → Reading bytes answer
reading bytes (Ok table) h = inr (record {
  front = table.0;
  origin = table.1;
  rest = end_text table.0.rows;
  reads = record { lawful = h.lawful; split = h.whole };
  stops = stops_at_end table.0.k table.0.both table.0.rows (end_text table.0.rows) h.lawful.some
      (end_begins table.0.rows (end_text table.0.rows) refl);
  outcome = inl (refl, refl);
})
reading bytes (Err BadHeader) h = inl (h, refl)
reading bytes (Err (BadRow number)) h = inr (record {
  front = h.front;
  origin = h.origin;
  rest = h.rest;
  reads = h.reads;
  stops = h.no_row;
  outcome = inr (inr (ap (λ n. Err (BadRow n)) h.counted, h.line, h.no_end));
})
reading bytes (Err BadEnd) h = inr (record {
  front = h.front;
  origin = h.origin;
  rest = h.rest;
  reads = h.reads;
  stops = stops_badly h.front.k h.front.both h.front.rows h.rest h.reads.lawful.some h.ends;
  outcome = inr (inl (refl, h.ends, h.wrong));
})
reading bytes (Err Write) h = absurd h
reading bytes (Err TableTooLong) h = absurd h
reading bytes (Err TableRead) h = absurd h
reading bytes (Err BrokenGzip) h = absurd h
reading bytes (Err ShortGzip) h = absurd h
reading bytes (Err (BadWord number)) h = absurd h
reading bytes (Err Unlike) h = absurd h
reading bytes (Err TooLarge) h = absurd h
reading bytes (Err Memory) h = absurd h

-- the front begins with its header
pub front_begins : (bytes : List ℕ) (front : TallySeen) (origin : Option Origin) (rest : List ℕ)
    → ReadsTo bytes front origin rest
    → bytes ≡ ended (header_line front.k front.both origin) ++ (rows_text front.k front.rows ++ rest)
front_begins bytes front origin rest r = r.split ∙ append_assoc (ended (header_line front.k front.both origin))
    (rows_text front.k front.rows) rest

may_head : {front : TallySeen} {origin : Option Origin} → IsTable front origin → MayHead front.k origin
may_head lawful = record { most = lawful.most; said = lawful.said }

pub record SameFront (f g : TallySeen) (o p : Option Origin) (r s : List ℕ) : Type 0 where
  pub front : f ≡ g
  pub origin : o ≡ p
  pub rest : r ≡ s

same_front : {bytes : List ℕ} {f g : TallySeen} {o p : Option Origin} {r s : List ℕ} → ReadsTo bytes f o r
    → ReadsTo bytes g p s → Stops f.k f.both f.rows r → Stops g.k g.both g.rows s → SameFront f g o p r s
same_front {bytes} {f} {g} {o} {p} {r} {s} one other f_stops g_stops =
    let lines = first_line (header_line f.k f.both o) (header_line g.k g.both p) (rows_text f.k f.rows ++ r)
    (rows_text g.k g.rows ++ s)
    (Without-header f.k f.both o one.lawful.most one.lawful.said)
    (Without-header g.k g.both p other.lawful.most other.lawful.said)
    (sym (front_begins bytes f o r one) ∙ front_begins bytes g p s other) in
    let heads = same_header f.k g.k f.both g.both o p (may_head one.lawful) (may_head other.lawful) lines.0 in
    let g_rows : AreRows f.k f.both g.rows = subst (λ k. AreRows k f.both g.rows) (sym heads.bases)
    (subst (λ both. AreRows g.k both g.rows) (sym heads.strands) other.lawful.rows) in
    let g_none : Stops f.k f.both g.rows s = subst (λ k. Stops k f.both g.rows s) (sym heads.bases)
    (subst (λ both. Stops g.k both g.rows s) (sym heads.strands) g_stops) in
    let rests : rows_text f.k f.rows ++ r ≡ rows_text f.k g.rows ++ s = lines.1
    ∙ ap (λ k. rows_text k g.rows ++ s) (sym heads.bases) in
    let both = agree {before = []} f.rows g.rows r s (record { lawful = one.lawful.rows; stops = f_stops })
    (record { lawful = g_rows; stops = g_none }) rests in
    record {
      front = λ i. record { k = heads.bases i; both = heads.strands i; rows = both.0 i };
      origin = heads.told;
      rest = both.1;
    }

begins_well : {bytes : List ℕ} {answer : Answered} → HasBadHeader bytes → ReadsOut bytes answer → ⊥
begins_well {bytes} bad q =
    bad q.front.k q.front.both q.origin q.reads.lawful.some q.reads.lawful.most q.reads.lawful.said
    (rows_text q.front.k q.front.rows ++ q.rest, front_begins bytes q.front q.origin q.rest q.reads)

one_reading : (bytes : List ℕ) (one other : Answered) → Reading bytes one → Reading bytes other → one ≡ other
one_reading bytes one other (inl p) (inl q) = p.1 ∙ sym q.1
one_reading bytes one other (inl p) (inr q) = absurd (begins_well p.0 q)
one_reading bytes one other (inr p) (inl q) = absurd (begins_well q.0 p)
one_reading bytes one other (inr p) (inr q) =
    let same = same_front p.reads q.reads p.stops q.stops in
    let here = subst (λ rest. Outcome p.front p.origin rest other) (sym same.rest)
    (subst (λ origin. Outcome p.front origin q.rest other) (sym same.origin)
    (subst (λ front. Outcome front q.origin q.rest other) (sym same.front) q.outcome)) in
    one_outcome p.front p.origin p.rest one other p.outcome here

pub one_answer : (bytes : List ℕ) (one other : Answered) → IsTableOf bytes one → IsTableOf bytes other → one ≡ other
one_answer bytes one other p q = one_reading bytes one other (reading bytes one p) (reading bytes other q)

-- ---- spellings

pub table_of_text : (tally : TallySeen) (origin : Option Origin) → IsTable tally origin
    → IsTableOf (table_text tally origin) (Ok (tally, origin))
table_of_text tally origin lawful = record { lawful = lawful; whole = refl }

pub same_tally : (tally other : TallySeen) (origin another : Option Origin) → IsTable tally origin
    → IsTable other another → table_text tally origin ≡ table_text other another
    → (tally ≡ other) × (origin ≡ another)
same_tally tally other origin another p q e =
    let same : ◌≡◌ {A = Answered} (Ok (tally, origin)) (Ok (other, another)) =
    one_answer (table_text other another) (Ok (tally, origin)) (Ok (other, another))
    (subst (λ bytes. IsTableOf bytes (Ok (tally, origin))) e (table_of_text tally origin p))
    (table_of_text other another q) in
    let pair : ◌≡◌ {A = TallySeen × Option Origin} (tally, origin) (other, another) = cc in
    (ap (λ (t : TallySeen × Option Origin). t.0) pair, ap (λ (t : TallySeen × Option Origin). t.1) pair)
