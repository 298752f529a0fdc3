-- The reads that were given so far, and one more, the end, or a fault after them.
use Rattle.std.proofs.Common.{◌≡◌, ◌≢◌, ℕ, ◌+◌, ◌-◌, ◌<◌, ◌≤◌, Bool, true, false, List, [], ◌∷◌, ◌++◌, length, take}
use Rattle.std.proofs.Common.{drop, refl, sym, ap, ◌∙◌, subst, arith, append_assoc, append-nil, length-append, inl}
use Rattle.std.proofs.Common.{inr, ◌⊎◌, ⊎_elim, Some, None, Ok, Err, MatchBool, Option}
use Rattle.std.proofs.lemmas.List.{take-append-drop, length-take-le}
use Rattle.kc_io.specs.Sources.{Seen}
use Rattle.kc_gzip.specs.Intakes.{Ended, Filled, FillingFails, Skips, TakenSoFar, TakesAll, TakingFails, Unread}
use Rattle.kc_fastx.specs.declared.read_faults.FastxFault.{FastxFault}
use Rattle.kc_fastx.specs.declared.read_faults.FastxFault.TheVariants.{BadStart, BadBase, BadQuality, LongQuality}
use Rattle.kc_fastx.specs.declared.read_faults.FastxFault.TheVariants.{Truncated, TooLong, Read as ReadFailed, Memory}
use Rattle.kc_fastx.specs.declared.read_faults.FastxFault.TheVariants.{BrokenGzip, ShortGzip}
use Rattle.kc_fastx.specs.Reads.{Read, base_count}
use Rattle.kc_fastx.specs.Lines.{Line, Cursor, IsBehind, Passes, HasWhole, lines, line_count, begins_with}
use Rattle.kc_fastx.specs.Lines.{next_begins_with, ends_or_begins_with, skip_blanks}
use Rattle.kc_fastx.specs.Records.{Records, FaultBehind, FirstFault}
use Rattle.kc_fastx.specs.Fasta.{IsFastaRecord, FastaFails, greater_than}
use Rattle.kc_fastx.specs.Fastq.{IsFastqRecord, FastqFails}
use Rattle.kc_fastx.specs.Parsing.{text_lines, IsFastq, HasReads, HasFault, HasFaultBehind, GivesReads, RefusesFor}
use Rattle.kc_fastx.specs.Faults.{UnlessMemory, is_of_lines, taking_fault}
use Rattle.kc_gzip.specs.declared.unpacked_intakes.TakeFault.{TakeFault}
use Rattle.kc_gzip.specs.declared.unpacked_intakes.TakeFault.TheVariants as taking
use Rattle.kc_gzip.proofs.IntakesLemmas.{taken_none, taken_in_vain, taken_filled, taken_ended, taken_fails, taken_skips}
use Rattle.kc_gzip.proofs.IntakesLemmas.{filled_none, filled_both}
use Rattle.kc_fastx.specs.Reading.{HasGrown, first_stand, Stand, SaysFasta, SaysFastq, Says, MayCome, AreSaid}
use Rattle.kc_fastx.specs.Reading.{HasGiven, HasMet, HasTaken, MeetsFault, ComesBehind, is_fasta_next, IsNext, NextFails}
use Rattle.kc_fastx.specs.Reading.{IsSure}
use Rattle.kc_fastx.specs.Reading.{UsesFront}
use Rattle.kc_fastx.proofs.RecordsLemmas.{Records-push, passes_both}
use Rattle.kc_fastx.proofs.ParsingLemmas.{at_true, at_false, RefusesFor-taking}
use Rattle.kc_fastx.proofs.ReadsLemmas.{base_count-fasta, base_count-fastq, base_count-fasta-front, base_count-fastq-front}
use Rattle.kc_fastx.proofs.FastaLemmas.{fasta_shorter}
use Rattle.kc_fastx.proofs.FastqLemmas.{fastq_shorter, length-skip_blanks}
use Rattle.kc_fastx.proofs.ClosedLemmas.{lines_behind, none_behind}
use Rattle.kc_fastx.proofs.TailLemmas.{skip_blanks-again, skip_blanks-append, at_front, skip_blanks-at, fasta_tail}
use Rattle.kc_fastx.proofs.TailLemmas.{fastq_tail, fasta_fails_tail, fastq_fails_tail, Remains, fails_some}
use Rattle.kc_fastx.proofs.TailLemmas.{fastq_from, fastq_fails_from}

-- ---- lines

-- no FASTA record was read before, or such records were
abbrev NoFastq : List Line → List Read → List Line → Type 0
NoFastq ls reads rest = ((reads ≡ []) × (rest ≡ ls)) ⊎ SaysFasta ls reads rest

-- a line is left after, or none comes
abbrev pub StaysBehind : List Line → List Line → Type 0
StaysBehind left tail = (left ≢ []) ⊎ (tail ≡ [])

pub ends_tail : (byte : ℕ) (left tail : List Line) → StaysBehind left tail → ends_or_begins_with byte left ≡ true
    → ends_or_begins_with byte (left ++ tail) ≡ true
ends_tail byte [] tail stays h =
    ⊎_elim (λ (some : [] ≢ []). absurd (some refl)) (λ (none : tail ≡ []). ap (ends_or_begins_with byte) none) stays
ends_tail byte (line ∷ left) tail stays h = h

-- the text begins in these lines
text_front : (ls w tail : List Line) (line : Line) (more : List Line) → w ++ tail ≡ ls
    → skip_blanks w ≡ line ∷ more → skip_blanks ls ≡ skip_blanks w ++ tail
text_front ls w tail line more same some = ap skip_blanks (sym same) ∙ skip_blanks-append w tail line more some

pub begins_tail : (byte : ℕ) (ls tail : List Line) (line : Line) (more : List Line) → ls ≡ line ∷ more
    → next_begins_with byte (ls ++ tail) ≡ next_begins_with byte ls
begins_tail byte ls tail line more e = ap (λ v. next_begins_with byte (v ++ tail)) e
    ∙ sym (ap (next_begins_with byte) e)

-- lines at a FASTA record, or at the end, begin with no blank ones
at_record : (ls : List Line) (reads : List Read) (w tail : List Line) → SaysFasta ls reads (w ++ tail)
    → skip_blanks w ≡ w
at_record ls reads w tail f = skip_blanks-at greater_than w (at_front greater_than w tail f.2)

-- a line comes next, and it is no title of FASTA
record OtherComes (w : List Line) : Type 0 where
  line : Line
  more : List Line
  whole : skip_blanks w ≡ line ∷ more
  no_title : next_begins_with greater_than (skip_blanks w) ≡ false

-- none comes there
no_other : (ls : List Line) (reads : List Read) (w tail : List Line) → SaysFasta ls reads (w ++ tail) → OtherComes w → ⊥
no_other ls reads w tail f other =
    let here : w ≡ other.line ∷ other.more = sym (at_record ls reads w tail f) ∙ other.whole in
    let yes : begins_with greater_than other.line ≡ true = subst (λ v. ends_or_begins_with greater_than v ≡ true) here
    (at_front greater_than w tail f.2) in
    let no : begins_with greater_than other.line ≡ false = subst (λ v. next_begins_with greater_than v ≡ false)
    other.whole other.no_title in
    cc

-- a FASTA record comes next, and a line is left after it, or none comes
pub record FastaComes (w tail : List Line) (read : Read) (left : List Line) : Type 0 where
  pub one : IsFastaRecord (skip_blanks w) read left
  pub stays : StaysBehind left tail

-- a FASTQ record comes next, and no title of FASTA
record FastqComes (w : List Line) (read : Read) (left : List Line) : Type 0 where
  one : IsFastqRecord (skip_blanks w) read left
  no_title : next_begins_with greater_than (skip_blanks w) ≡ false

other_comes : (w : List Line) (read : Read) (left : List Line) → FastqComes w read left → OtherComes w
other_comes w read left comes = record {
  line = comes.one.title.title;
  more = comes.one.body;
  whole = sym (skip_blanks-again w) ∙ comes.one.title.whole;
  no_title = comes.no_title;
}

fasta_first : (ls : List Line) (reads : List Read) (w tail : List Line) (read : Read) (left : List Line)
    → (reads ≡ []) × (w ++ tail ≡ ls) → FastaComes w tail read left → SaysFasta ls (reads ++ read ∷ []) (left ++ tail)
fasta_first ls reads w tail read left first comes =
    let r = comes.one in
    let front = text_front ls w tail r.title.title r.body first.1 r.title.whole in
    let ends = ends_tail greater_than left tail comes.stays r.ends in (
      ap (next_begins_with greater_than) front ∙ ap (λ v. next_begins_with greater_than (v ++ tail)) r.title.whole
          ∙ r.title.is_title,
      subst (λ v. Records IsFastaRecord (skip_blanks ls) (v ++ read ∷ []) (left ++ tail)) (sym first.0) (
        left ++ tail,
        subst (λ v. IsFastaRecord v read (left ++ tail)) (sym front) (fasta_tail
            (skip_blanks w) read left tail r ends),
        refl,
      ),
      ends,
    )

fasta_next : (ls : List Line) (reads : List Read) (w tail : List Line) (read : Read) (left : List Line)
    → SaysFasta ls reads (w ++ tail) → FastaComes w tail read left → SaysFasta ls (reads ++ read ∷ []) (left ++ tail)
fasta_next ls reads w tail read left f comes =
    let ends = ends_tail greater_than left tail comes.stays comes.one.ends in
    let one = subst (λ v. IsFastaRecord v read left) (at_record ls reads w tail f) comes.one in (
      f.0,
      Records-push IsFastaRecord (skip_blanks ls) reads (w ++ tail) read (left ++ tail) f.1
          (fasta_tail w read left tail one ends),
      ends,
    )

fastq_first : (ls : List Line) (reads : List Read) (w tail : List Line) (read : Read) (left : List Line)
    → (reads ≡ []) × (w ++ tail ≡ ls) → FastqComes w read left → SaysFastq ls (reads ++ read ∷ []) (left ++ tail)
fastq_first ls reads w tail read left first comes =
    let r = comes.one in
    let some = sym (skip_blanks-again w) ∙ r.title.whole in
    let front = text_front ls w tail r.title.title r.body first.1 some in (
      ap (next_begins_with greater_than) front ∙ begins_tail greater_than
          (skip_blanks w) tail r.title.title r.body some ∙ comes.no_title,
      subst (λ v. Records IsFastqRecord (skip_blanks ls) (v ++ read ∷ []) (left ++ tail)) (sym first.0) (
        left ++ tail,
        subst (λ v. IsFastqRecord v read (left ++ tail)) (sym front) (fastq_tail
            (skip_blanks w) read left tail r),
        refl,
      ),
    )

fastq_next : (ls : List Line) (reads : List Read) (w tail : List Line) (read : Read) (left : List Line)
    → SaysFastq ls reads (w ++ tail)
    → IsFastqRecord (skip_blanks w) read left → SaysFastq ls (reads ++ read ∷ []) (left ++ tail)
fastq_next ls reads w tail read left s r = (
  s.0,
  Records-push IsFastqRecord (skip_blanks ls) reads (w ++ tail) read (left ++ tail) s.1
      (fastq_tail w read left tail (fastq_from w read left r)),
)

-- the next record of a reader that gave no read of FASTQ, by whether a title of FASTA comes next
record ComesWithout (b : Bool) (ls : List Line) (reads : List Read) (w tail : List Line) (next : Read × Bool)
    (left : List Line) : Type 0 where
  begins : next_begins_with greater_than (skip_blanks w) ≡ b
  before : NoFastq ls reads (w ++ tail)
  one : MatchBool b (IsFastaRecord (skip_blanks w) next.0 left × (next.1 ≡ false))
      (IsFastqRecord (skip_blanks w) next.0 left × (next.1 ≡ true))
  stays : StaysBehind left tail

more_without : (b : Bool) (ls : List Line) (reads : List Read) (w tail : List Line) (next : Read × Bool)
    (left : List Line) → ComesWithout b ls reads w tail next left
    → Says next.1 ls (reads ++ next.0 ∷ []) (left ++ tail)
more_without true ls reads w tail next left h =
    let comes : FastaComes w tail next.0 left = record { one = h.one.0; stays = h.stays } in
    subst (λ q. Says q ls (reads ++ next.0 ∷ []) (left ++ tail)) (sym h.one.1)
    (⊎_elim
    (λ (p : (reads ≡ []) × (w ++ tail ≡ ls)). inr (fasta_first ls reads w tail next.0 left p comes))
    (λ (f : SaysFasta ls reads (w ++ tail)). inr (fasta_next ls reads w tail next.0 left f comes)) h.before)
more_without false ls reads w tail next left h =
    let comes : FastqComes w next.0 left = record { one = h.one.0; no_title = h.begins } in
    subst (λ q. Says q ls (reads ++ next.0 ∷ []) (left ++ tail)) (sym h.one.1)
    (⊎_elim
    (λ (p : (reads ≡ []) × (w ++ tail ≡ ls)). fastq_first ls reads w tail next.0 left p comes)
    (λ (f : SaysFasta ls reads (w ++ tail)). absurd (no_other ls reads w tail f (other_comes w next.0 left comes)))
    h.before)

-- the lines `ls` have these reads and then `w ++ tail`, and the next record of `w` has this read
pub record ComesNext (was : Bool) (ls : List Line) (reads : List Read) (w tail : List Line) (next : Read × Bool)
    (left : List Line) : Type 0 where
  pub before : Says was ls reads (w ++ tail)
  pub one : IsNext was (skip_blanks w) (Some next) left
  pub stays : StaysBehind left tail

-- one more record
pub says_more : (was : Bool) (ls : List Line) (reads : List Read) (w tail : List Line) (next : Read × Bool)
    (left : List Line) → ComesNext was ls reads w tail next left
    → Says next.1 ls (reads ++ next.0 ∷ []) (left ++ tail)
says_more true ls reads w tail next left h =
    subst (λ q. Says q ls (reads ++ next.0 ∷ []) (left ++ tail)) (sym h.one.1)
    (fastq_next ls reads w tail next.0 left h.before h.one.0)
says_more false ls reads w tail next left h =
    more_without (next_begins_with greater_than (skip_blanks w)) ls reads w tail next left
    (record { begins = refl; before = h.before; one = h.one; stays = h.stays })

-- no line is left but blank ones
pub says_all : (was : Bool) (bytes : List ℕ) (reads : List Read) (rest : List Line)
    → Says was (lines bytes) reads rest → skip_blanks rest ≡ [] → HasReads bytes reads
says_all true bytes reads rest s none =
    at_false (next_begins_with greater_than (text_lines bytes)) _ _ s.0
    (record { rest = rest; records = s.1; ends = none })
says_all false bytes reads rest before none =
    ⊎_elim
    (λ (p : (reads ≡ []) × (rest ≡ lines bytes)).
    let text : text_lines bytes ≡ [] = ap skip_blanks (sym p.1) ∙ none in
    at_false (next_begins_with greater_than (text_lines bytes)) _ _ (ap (next_begins_with greater_than) text)
    (subst (λ v. IsFastq (text_lines bytes) v) (sym p.0) (record { rest = []; records = text; ends = refl })))
    (λ (f : SaysFasta (lines bytes) reads rest).
    let end : rest ≡ [] = sym (skip_blanks-at greater_than rest f.2) ∙ none in
    at_true (next_begins_with greater_than (text_lines bytes)) _ _ f.0 (subst (λ v. Records IsFastaRecord
    (text_lines bytes) reads v) end f.1)) before

-- the next record of a reader that gave no read of FASTQ fails, by whether a title of FASTA comes next
record FailsWithout (b : Bool) (bytes : List ℕ) (reads : List Read) (w tail : List Line) (count : ℕ)
    (fault : FastxFault) : Type 0 where
  begins : next_begins_with greater_than (skip_blanks w) ≡ b
  before : NoFastq (lines bytes) reads (w ++ tail)
  counted : length (lines bytes) ≡ count + length tail
  fails : MatchBool b (FastaFails count (skip_blanks w) fault) (FastqFails count (skip_blanks w) fault)
  remains : Remains fault tail

fails_without : (b : Bool) (bytes : List ℕ) (reads : List Read) (w tail : List Line) (count : ℕ) (fault : FastxFault)
    → FailsWithout b bytes reads w tail count fault → HasFaultBehind bytes reads fault
fails_without true bytes reads w tail count fault h =
    ⊎_elim
    (λ (p : (reads ≡ []) × (w ++ tail ≡ lines bytes)). subst (λ v. HasFaultBehind bytes v fault) (sym p.0) (
    let title = h.fails.1 in
    let front = text_front (lines bytes) w tail title.title h.fails.0 p.1 title.whole in
    let is : next_begins_with greater_than (text_lines bytes) ≡ true =
    ap (next_begins_with greater_than) front ∙ ap (λ v. next_begins_with greater_than (v ++ tail)) title.whole
    ∙ title.is_title in
    at_true (next_begins_with greater_than (text_lines bytes)) _ _ is (
      skip_blanks w ++ tail,
      front,
      subst (λ v. FastaFails v (skip_blanks w ++ tail) fault) (sym h.counted)
          (fasta_fails_tail count (skip_blanks w) tail fault h.fails),
    )))
    (λ (f : SaysFasta (lines bytes) reads (w ++ tail)).
    let here = subst (λ v. FastaFails count v fault) (at_record (lines bytes) reads w tail f) h.fails in
    at_true (next_begins_with greater_than (text_lines bytes)) _ _ f.0 (
      w ++ tail,
      f.1,
      subst (λ v. FastaFails v (w ++ tail) fault) (sym h.counted)
          (fasta_fails_tail count w tail fault here),
    )) h.before
fails_without false bytes reads w tail count fault h =
    let found = fails_some count (skip_blanks w) fault h.fails in
    let some = sym (skip_blanks-again w) ∙ found.2 in
    let other : OtherComes w = record { line = found.0; more = found.1; whole = some; no_title = h.begins } in
    ⊎_elim
    (λ (p : (reads ≡ []) × (w ++ tail ≡ lines bytes)). subst (λ v. HasFaultBehind bytes v fault) (sym p.0) (
    let front = text_front (lines bytes) w tail found.0 found.1 p.1 some in
    let is : next_begins_with greater_than (text_lines bytes) ≡ false =
    ap (next_begins_with greater_than) front ∙ begins_tail greater_than (skip_blanks w) tail found.0 found.1 some
    ∙ h.begins in
    at_false (next_begins_with greater_than (text_lines bytes)) _ _ is (
      skip_blanks w ++ tail,
      front,
      subst (λ v. FastqFails v (skip_blanks w ++ tail) fault) (sym h.counted)
          (fastq_fails_tail count (skip_blanks w) tail fault h.remains h.fails),
    )))
    (λ (f : SaysFasta (lines bytes) reads (w ++ tail)). absurd (no_other (lines bytes) reads w tail f other)) h.before

-- the lines have these reads and then `w ++ tail`, there are `count` of them before the tail, and the next record of
-- `w` fails
pub record FailsNext (was : Bool) (bytes : List ℕ) (reads : List Read) (w tail : List Line) (count : ℕ)
    (fault : FastxFault) : Type 0 where
  pub before : Says was (lines bytes) reads (w ++ tail)
  pub counted : length (lines bytes) ≡ count + length tail
  pub fails : NextFails was count (skip_blanks w) fault
  pub remains : Remains fault tail

-- a record that fails, after those with these reads
pub says_fault : (was : Bool) (bytes : List ℕ) (reads : List Read) (w tail : List Line) (count : ℕ) (fault : FastxFault)
    → FailsNext was bytes reads w tail count fault → HasFaultBehind bytes reads fault
says_fault true bytes reads w tail count fault h =
    at_false (next_begins_with greater_than (text_lines bytes)) _ _ h.before.0 (
      w ++ tail,
      h.before.1,
      subst (λ v. FastqFails v (w ++ tail) fault) (sym h.counted)
          (fastq_fails_tail count w tail fault h.remains (fastq_fails_from count w fault h.fails)),
    )
says_fault false bytes reads w tail count fault h =
    fails_without (next_begins_with greater_than (skip_blanks w)) bytes reads w tail count fault
    (record { begins = refl; before = h.before; counted = h.counted; fails = h.fails; remains = h.remains })

-- it is the first fault of the bytes
fault_first : (b : Bool) (ls : List Line) (count : ℕ) (reads : List Read) (fault : FastxFault)
    → MatchBool b (FaultBehind IsFastaRecord (FastaFails count) ls reads fault)
    (FaultBehind IsFastqRecord (FastqFails count) ls reads fault)
    → MatchBool b (FirstFault IsFastaRecord (FastaFails count) ls fault)
    (FirstFault IsFastqRecord (FastqFails count) ls fault)
fault_first true ls count reads fault h = (reads, h.0, h.1, h.2)
fault_first false ls count reads fault h = (reads, h.0, h.1, h.2)

pub fault_behind : (bytes : List ℕ) (reads : List Read) (fault : FastxFault) → HasFaultBehind bytes reads fault
    → HasFault bytes fault
fault_behind bytes reads fault h =
    fault_first (next_begins_with greater_than (text_lines bytes)) (text_lines bytes) (length (lines bytes)) reads fault h

-- the faults of the reading are none of a record
no_fault-either : (b : Bool) (P Q : Type 0) → (P → ⊥) → (Q → ⊥) → MatchBool b P Q → ⊥
no_fault-either true P Q p q h = p h
no_fault-either false P Q p q h = q h

no_next-too_long : (was : Bool) (count : ℕ) (ls : List Line) → NextFails was count ls TooLong → ⊥
no_next-too_long was count ls = no_fault-either (is_fasta_next was ls) _ _ (λ h. h.2) (λ h. h.2)

no_next-read : (was : Bool) (count : ℕ) (ls : List Line) → NextFails was count ls ReadFailed → ⊥
no_next-read was count ls = no_fault-either (is_fasta_next was ls) _ _ (λ h. h.2) (λ h. h.2)

no_next-broken : (was : Bool) (count : ℕ) (ls : List Line) → NextFails was count ls BrokenGzip → ⊥
no_next-broken was count ls = no_fault-either (is_fasta_next was ls) _ _ (λ h. h.2) (λ h. h.2)

no_next-short : (was : Bool) (count : ℕ) (ls : List Line) → NextFails was count ls ShortGzip → ⊥
no_next-short was count ls = no_fault-either (is_fasta_next was ls) _ _ (λ h. h.2) (λ h. h.2)

-- ---- bytes

-- the unused bytes and what may still come are the whole lines, and then others
pub lines_here : (ended : Bool) (bytes whole : List ℕ) (h : HasWhole ended bytes whole) (more : List ℕ) → (ended ≡ true
    → more ≡ [])
    → lines (bytes ++ more) ≡ lines whole ++ lines (h.tail ++ more)
lines_here ended bytes whole h more none =
    ap (λ v. lines (v ++ more)) h.split ∙ ap lines (append_assoc whole h.tail more)
    ∙ lines_behind ended h [] whole more refl none

-- `after` follows a part of the whole lines
pub record Reaches (stand : Stand) (whole : List ℕ) (after : Cursor) : Type 0 where
  pub behind : IsBehind whole after.bytes
  pub left : after.left ≡ lines after.bytes
  pub counted : line_count after ≡ stand.lines_used + length (lines whole)

drop_front : (front rest : List ℕ) (count : ℕ) → count ≡ length front → drop count (front ++ rest) ≡ rest
drop_front [] rest count e = ap (λ n. drop n rest) e
drop_front (b ∷ front) rest count e = ap (λ n. drop n (b ∷ front ++ rest)) e ∙ drop_front front rest (length front) refl

-- how many bytes were skipped, and what is left after them
pub left_behind : (stand : Stand) (whole : List ℕ) (h : HasWhole stand.ended stand.unread.bytes whole) (after : Cursor)
    → Reaches stand whole after → (count : ℕ)
    → count ≡ length whole - length after.bytes → (count ≤ length stand.unread.bytes) ×
    (drop count stand.unread.bytes ≡ after.bytes ++ h.tail)
left_behind stand whole h after r count is =
    let front = r.behind.front in
    let rest = after.bytes in
    let parts = ap length r.behind.split in
    let whole_parts = ap length h.split in
    let long = length-append front rest in
    let all_long = length-append whole h.tail in
    let is_front : count ≡ length front = omega (arith, is, parts, long) in
    let split : stand.unread.bytes ≡ front ++ (rest ++ h.tail) = h.split ∙ ap (λ v. v ++ h.tail) r.behind.split
    ∙ append_assoc front rest h.tail in (
      omega (arith, is_front, parts, long, whole_parts, all_long),
      ap (drop count) split
          ∙ drop_front front (rest ++ h.tail) count is_front,
    )

-- ---- states of a reader

-- the state of a reader after it used so many more bytes, up to this line, and read a record of this format
abbrev pub stand_behind : Stand → ℕ → ℕ → Bool → Stand
stand_behind stand count lines_used q = record {
  unread = record stand.unread { bytes = drop count stand.unread.bytes };
  used = stand.used + count;
  lines_used = lines_used;
  is_fastq = q;
  ended = stand.ended;
  failed = stand.failed;
}

pub behind_is : {was stand : Stand} {unread : Unread} {taken lines_used : ℕ} (count : ℕ) (q : Bool) → was ≡ stand
    → unread ≡ record was.unread { bytes = drop count was.unread.bytes } → taken ≡ lines_used
    → record was { unread = unread; used = was.used + count; lines_used = taken; is_fastq = q }
    ≡ stand_behind stand count lines_used q
behind_is count q same used line = rw (used, line, same) refl

-- one line of the text is known to stay after, or all bytes were taken
abbrev pub Sure : Stand → List Line → Type 0
Sure stand left = (stand.ended ≡ true) ⊎ (left ≢ [])

pub stays : (stand : Stand) (whole : List ℕ) (h : HasWhole stand.ended stand.unread.bytes whole) (left : List Line)
    (more : List ℕ) → MayCome stand.ended more → Sure stand left
    → StaysBehind left (lines (h.tail ++ more))
stays stand whole h left more none sure =
    ⊎_elim (λ (e : stand.ended ≡ true). inr (none_behind stand.ended stand.unread.bytes whole h more e none)) (λ
    (some : left ≢ []). inl some) sure

-- the next record of the whole lines was read, `after` follows it, and so many bytes are used
pub record IsRead (stand : Stand) (whole : List ℕ) (after : Cursor) (next : Read × Bool) (count : ℕ) : Type 0 where
  pub has_whole : HasWhole stand.ended stand.unread.bytes whole
  pub reaches : Reaches stand whole after
  pub one : IsNext stand.is_fastq (skip_blanks (lines whole)) (Some next) after.left
  pub sure : Sure stand after.left
  pub used : count ≡ length whole - length after.bytes

module _ {stand : Stand} {whole : List ℕ} {after : Cursor} {next : Read × Bool} {count : ℕ} (read : IsRead stand whole after next count) where
  said_more : (all : List ℕ) (reads : List Read) (more : List ℕ) → MayCome stand.ended more
      → AreSaid stand all reads (stand.unread.bytes ++ more)
      → AreSaid (stand_behind stand count after.taken next.1) all (reads ++ next.0 ∷ [])
      (drop count stand.unread.bytes ++ more)
  said_more all reads more none before =
      let h = read.has_whole in
      let tail = lines (h.tail ++ more) in
      let here = lines_here stand.ended stand.unread.bytes whole h more none in
      let left = left_behind stand whole h after read.reaches count read.used in
      let there : lines (drop count stand.unread.bytes ++ more) ≡ after.left ++ tail =
      ap (λ v. lines (v ++ more)) left.1
      ∙ ap lines (append_assoc after.bytes h.tail more)
      ∙ lines_behind stand.ended h read.reaches.behind.front after.bytes more read.reaches.behind.split none
      ∙ ap (λ v. v ++ tail) (sym read.reaches.left) in
      let says = says_more stand.is_fastq (lines all) reads (lines whole) tail next after.left (record {
        before = subst (λ v. Says stand.is_fastq (lines all) reads v) here before.says;
        one = read.one;
        stays = stays stand whole h after.left more none read.sure;
      }) in
      let old = before.counted in
      let old_long = ap length here in
      let old_parts = length-append (lines whole) tail in
      let new_long = ap length there in
      let new_parts = length-append after.left tail in
      let passed = read.reaches.counted in
      record {
        counted = omega (arith, old, old_long, old_parts, new_long, new_parts, passed);
        says = subst (λ v. Says next.1 (lines all) (reads ++ next.0 ∷ []) v) (sym there) says;
      }

  pub given_more : (start now : Seen) (limit : ℕ) (reads : List Read) → HasGiven start now limit reads stand
      → HasGiven start now limit (reads ++ next.0 ∷ []) (stand_behind stand count after.taken next.1)
  given_more start now limit reads given =
      let bytes = stand.unread.bytes in
      let used = given.used in
      let left = left_behind stand whole read.has_whole after read.reaches count read.used in
      let all : used ++ bytes ≡ (used ++ take count bytes) ++ drop count bytes =
      ap (λ v. used ++ v) (sym (take-append-drop count bytes))
      ∙ sym (append_assoc used (take count bytes) (drop count bytes)) in
      let counted = given.counted in
      record {
        used = used ++ take count bytes;
        taken = record {
          taken = let taken = given.taken.taken in record {
            answered = taken.answered;
            come = taken.come;
            are = sym all ∙ taken.are;
            within = subst (λ v. length v ≤ limit) all taken.within;
          };
          whole = λ ended. let whole = given.taken.whole ended in whole;
          room = ap (λ v. length v + stand.unread.room) (sym all) ∙ given.taken.room;
        };
        counted = omega (arith, counted, length-append used (take count bytes), length-take-le count bytes left.0);
        unfailed = given.unfailed;
        said = λ more none. subst (λ v. AreSaid (stand_behind stand count after.taken next.1) (v ++ more)
            (reads ++ next.0 ∷ []) (drop count bytes ++ more)) all
            (said_more ((used ++ bytes) ++ more) reads more none (given.said more none));
      }

  pub uses_front : UsesFront stand (stand_behind stand count after.taken next.1)
  uses_front =
      let bytes = stand.unread.bytes in
      let left = left_behind stand whole read.has_whole after read.reaches count read.used in
      record {
        front = take count bytes;
        split = sym (take-append-drop count bytes);
        counted = ap (λ n. stand.used + n) (sym (length-take-le count bytes left.0));
      }

pub all_taken : {start now : Seen} {limit : ℕ} {stand : Stand} {bytes : List ℕ} → stand.ended ≡ true
    → HasTaken start now limit stand bytes → TakesAll start now limit bytes
all_taken ended has = taken_ended has.taken (has.whole ended)

-- all bytes were taken, and all lines that are left are blank
pub record IsOver (stand : Stand) (whole : List ℕ) : Type 0 where
  pub has_whole : HasWhole stand.ended stand.unread.bytes whole
  pub ended : stand.ended ≡ true
  pub blank : skip_blanks (lines whole) ≡ []

pub given_all : (start now : Seen) (limit : ℕ) (reads : List Read) (stand : Stand) (whole : List ℕ)
    → HasGiven start now limit reads stand → IsOver stand whole
    → GivesReads start now limit reads (stand.used + length stand.unread.bytes)
given_all start now limit reads stand whole given over =
    let bytes = stand.unread.bytes in
    let no_more : MayCome stand.ended [] = λ ended. refl in
    let said = given.said [] no_more in
    let here : lines (bytes ++ []) ≡ lines whole =
    lines_here stand.ended bytes whole over.has_whole [] no_more ∙ ap (λ v. lines whole ++ v)
    (none_behind stand.ended bytes whole over.has_whole [] over.ended no_more) ∙ append-nil (lines whole) in
    let counted = given.counted in
    let says = subst (λ v. HasReads v reads) (append-nil (given.used ++ bytes))
    (says_all stand.is_fastq ((given.used ++ bytes) ++ []) reads (lines (bytes ++ [])) said.says
    (ap skip_blanks here ∙ over.blank)) in
    record {
      bytes = given.used ++ bytes;
      taken = all_taken over.ended given.taken;
      has_reads = says;
      counted = omega (arith, counted, length-append given.used bytes);
    }

-- the next record of the whole lines fails, whatever may still come
record IsFaulty (stand : Stand) (whole : List ℕ) (fault : FastxFault) : Type 0 where
  has_whole : HasWhole stand.ended stand.unread.bytes whole
  fails : NextFails stand.is_fastq (stand.lines_used + length (lines whole)) (skip_blanks (lines whole)) fault
  remains : (more : List ℕ) → MayCome stand.ended more → Remains fault (lines (has_whole.tail ++ more))

module _ {start now : Seen} {limit : ℕ} {reads : List Read} {stand : Stand} (given : HasGiven start now limit reads stand)
    (whole : List ℕ) (fault : FastxFault) (faulty : IsFaulty stand whole fault) where
  comes_behind : (more : List ℕ) → MayCome stand.ended more
      → HasFaultBehind ((given.used ++ stand.unread.bytes) ++ more) reads fault
  comes_behind more none =
      let bytes = stand.unread.bytes in
      let h = faulty.has_whole in
      let said = given.said more none in
      let here = lines_here stand.ended bytes whole h more none in
      let counted = said.counted in
      let long = ap length here in
      let parts = length-append (lines whole) (lines (h.tail ++ more)) in
      says_fault stand.is_fastq ((given.used ++ bytes) ++ more) reads (lines whole) (lines (h.tail ++ more))
      (stand.lines_used + length (lines whole)) fault (record {
        before = subst (λ v. Says stand.is_fastq (lines ((given.used ++ bytes) ++ more)) reads v) here said.says;
        counted = omega (arith, counted, long, parts);
        fails = faulty.fails;
        remains = faulty.remains more none;
      })

  met : HasMet start now limit stand fault
  met = record {
    bytes = given.used ++ stand.unread.bytes;
    taken = given.taken;
    met = λ more none.
        fault_behind ((given.used ++ stand.unread.bytes) ++ more) reads fault (comes_behind more none);
  }

  behind : (more : List ℕ) → MayCome stand.ended more → HasFaultBehind (stand.unread.came ++ more) reads fault
  behind = subst (λ v. (more : List ℕ) → MayCome stand.ended more → HasFaultBehind (v ++ more) reads fault)
      given.taken.taken.are comes_behind

-- the next record of the whole lines fails by a fault that is sure
faulty_sure : {stand : Stand} {whole : List ℕ} (left : List Line) (fault : FastxFault)
    → HasWhole stand.ended stand.unread.bytes whole
    → NextFails stand.is_fastq (stand.lines_used + length (lines whole)) (skip_blanks (lines whole)) fault
    → (stand.ended ≡ true) ⊎ IsSure (Err fault) left → IsFaulty stand whole fault
faulty_sure left (BadStart number) h fails sure = record { has_whole = h; fails = fails; remains = λ more none. tt }
faulty_sure left (BadBase number) h fails sure = record { has_whole = h; fails = fails; remains = λ more none. tt }
faulty_sure left (BadQuality number) h fails sure = record { has_whole = h; fails = fails; remains = λ more none. tt }
faulty_sure left (LongQuality number) h fails sure = record { has_whole = h; fails = fails; remains = λ more none. tt }
faulty_sure {stand = stand} {whole = whole} left (Truncated number) h fails sure = record {
  has_whole = h;
  fails = fails;
  remains = λ more none. ⊎_elim (λ (e : stand.ended ≡ true). none_behind stand.ended stand.unread.bytes whole h more e none)
      (λ (never : ⊥). absurd never) sure;
}
faulty_sure {stand = stand} {whole = whole} left TooLong h fails sure = absurd
    (no_next-too_long stand.is_fastq (stand.lines_used + length (lines whole)) (skip_blanks (lines whole)) fails)
faulty_sure {stand = stand} {whole = whole} left ReadFailed h fails sure = absurd
    (no_next-read stand.is_fastq (stand.lines_used + length (lines whole)) (skip_blanks (lines whole)) fails)
faulty_sure left Memory h fails sure = record { has_whole = h; fails = fails; remains = λ more none. tt }
faulty_sure {stand = stand} {whole = whole} left BrokenGzip h fails sure = absurd
    (no_next-broken stand.is_fastq (stand.lines_used + length (lines whole)) (skip_blanks (lines whole)) fails)
faulty_sure {stand = stand} {whole = whole} left ShortGzip h fails sure = absurd
    (no_next-short stand.is_fastq (stand.lines_used + length (lines whole)) (skip_blanks (lines whole)) fails)

memory_refused : {start now : Seen} {limit : ℕ} {stand : Stand} {bytes : List ℕ}
    → HasTaken start now limit stand bytes → RefusesFor start now limit Memory
memory_refused has = inl (taken_in_vain has.taken)

-- no read is given
pub given_fault : {start now : Seen} {limit : ℕ} {reads : List Read} {stand : Stand}
    → HasGiven start now limit reads stand → (whole : List ℕ) (left : List Line) (fault : FastxFault)
    → HasWhole stand.ended stand.unread.bytes whole
    → UnlessMemory (NextFails stand.is_fastq (stand.lines_used + length (lines whole)) (skip_blanks
    (lines whole))) fault
    → (stand.ended ≡ true) ⊎ IsSure (Err fault) left → MeetsFault start now limit stand fault
given_fault given whole left (BadStart number) h fails sure =
    met given whole (BadStart number) (faulty_sure left (BadStart number) h fails sure)
given_fault given whole left (BadBase number) h fails sure =
    met given whole (BadBase number) (faulty_sure left (BadBase number) h fails sure)
given_fault given whole left (BadQuality number) h fails sure =
    met given whole (BadQuality number) (faulty_sure left (BadQuality number) h fails sure)
given_fault given whole left (LongQuality number) h fails sure =
    met given whole (LongQuality number) (faulty_sure left (LongQuality number) h fails sure)
given_fault given whole left (Truncated number) h fails sure =
    met given whole (Truncated number) (faulty_sure left (Truncated number) h fails sure)
given_fault {stand = stand} given whole left TooLong h fails sure = absurd
    (no_next-too_long stand.is_fastq (stand.lines_used + length (lines whole)) (skip_blanks (lines whole)) fails)
given_fault {stand = stand} given whole left ReadFailed h fails sure = absurd
    (no_next-read stand.is_fastq (stand.lines_used + length (lines whole)) (skip_blanks (lines whole)) fails)
given_fault {start = start} {now = now} {limit = limit} {stand = stand} given whole left Memory h fails sure =
    memory_refused given.taken
given_fault {stand = stand} given whole left BrokenGzip h fails sure = absurd
    (no_next-broken stand.is_fastq (stand.lines_used + length (lines whole)) (skip_blanks (lines whole)) fails)
given_fault {stand = stand} given whole left ShortGzip h fails sure = absurd
    (no_next-short stand.is_fastq (stand.lines_used + length (lines whole)) (skip_blanks (lines whole)) fails)

-- if that is a fault of the lines, it is after the records that were given
pub fault_comes : {start now : Seen} {limit : ℕ} {reads : List Read} {stand : Stand}
    → HasGiven start now limit reads stand → (whole : List ℕ) (left : List Line) (fault : FastxFault)
    → HasWhole stand.ended stand.unread.bytes whole
    → UnlessMemory (NextFails stand.is_fastq (stand.lines_used + length (lines whole)) (skip_blanks
    (lines whole))) fault
    → (stand.ended ≡ true) ⊎ IsSure (Err fault) left → ComesBehind reads stand fault
fault_comes given whole left (BadStart number) h fails sure =
    behind given whole (BadStart number) (faulty_sure left (BadStart number) h fails sure)
fault_comes given whole left (BadBase number) h fails sure =
    behind given whole (BadBase number) (faulty_sure left (BadBase number) h fails sure)
fault_comes given whole left (BadQuality number) h fails sure =
    behind given whole (BadQuality number) (faulty_sure left (BadQuality number) h fails sure)
fault_comes given whole left (LongQuality number) h fails sure =
    behind given whole (LongQuality number) (faulty_sure left (LongQuality number) h fails sure)
fault_comes given whole left (Truncated number) h fails sure =
    behind given whole (Truncated number) (faulty_sure left (Truncated number) h fails sure)
fault_comes given whole left TooLong h fails sure = tt
fault_comes given whole left ReadFailed h fails sure = tt
fault_comes given whole left Memory h fails sure = tt
fault_comes given whole left BrokenGzip h fails sure = tt
fault_comes given whole left ShortGzip h fails sure = tt

-- ---- kept faults

-- the same state, and the fault that is kept in it
abbrev pub with_failed : Stand → Option FastxFault → Stand
with_failed stand failed = record stand { failed = failed }

met_kept : {start now : Seen} {limit : ℕ} {stand : Stand} {fault : FastxFault} (failed : Option FastxFault)
    → HasMet start now limit stand fault → HasMet start now limit (with_failed stand failed) fault
met_kept failed met = record {
  bytes = met.bytes;
  taken = record { taken = met.taken.taken; whole = met.taken.whole; room = met.taken.room };
  met = met.met;
}

-- the meaning of a fault for a reader doesn't depend on the fault that is kept
pub meets_kept : (start now : Seen) (limit : ℕ) (stand : Stand) (fault : FastxFault) (failed : Option FastxFault)
    → MeetsFault start now limit stand fault → MeetsFault start now limit (with_failed stand failed) fault
meets_kept start now limit stand (BadStart number) failed m = met_kept failed m
meets_kept start now limit stand (BadBase number) failed m = met_kept failed m
meets_kept start now limit stand (BadQuality number) failed m = met_kept failed m
meets_kept start now limit stand (LongQuality number) failed m = met_kept failed m
meets_kept start now limit stand (Truncated number) failed m = met_kept failed m
meets_kept start now limit stand TooLong failed m = m
meets_kept start now limit stand ReadFailed failed m = m
meets_kept start now limit stand Memory failed m = m
meets_kept start now limit stand BrokenGzip failed m = m
meets_kept start now limit stand ShortGzip failed m = m

-- nor does its meaning for the record that it comes with
pub comes_kept : (reads : List Read) (stand : Stand) (fault : FastxFault) (failed : Option FastxFault)
    → ComesBehind reads stand fault → ComesBehind reads (with_failed stand failed) fault
comes_kept reads stand (BadStart number) failed m = m
comes_kept reads stand (BadBase number) failed m = m
comes_kept reads stand (BadQuality number) failed m = m
comes_kept reads stand (LongQuality number) failed m = m
comes_kept reads stand (Truncated number) failed m = m
comes_kept reads stand TooLong failed m = m
comes_kept reads stand ReadFailed failed m = m
comes_kept reads stand Memory failed m = m
comes_kept reads stand BrokenGzip failed m = m
comes_kept reads stand ShortGzip failed m = m

-- why no bytes could be taken is of no record
pub comes_taking : (reads : List Read) (stand : Stand) (why : TakeFault) → ComesBehind reads stand (taking_fault why)
comes_taking reads stand taking.TooLong = tt
comes_taking reads stand taking.Read = tt
comes_taking reads stand taking.Broken = tt
comes_taking reads stand taking.Short = tt
comes_taking reads stand taking.Memory = tt

-- a reader that keeps no fault gave the same reads still
pub given_kept : {start now : Seen} {limit : ℕ} {reads : List Read} {stand : Stand} (failed : Option FastxFault)
    → HasGiven start now limit reads stand → failed ≡ None
    → HasGiven start now limit reads (with_failed stand failed)
given_kept failed given none = record {
  used = given.used;
  taken = record { taken = given.taken.taken; whole = given.taken.whole; room = given.taken.room };
  counted = given.counted;
  unfailed = none;
  said = λ more may_come.
      let said = given.said more may_come in record { counted = said.counted; says = said.says };
}

-- ---- more bytes

pub given_none : (start : Seen) (limit : ℕ) → HasGiven start start limit [] (first_stand limit)
given_none start limit = record {
  used = [];
  taken = record {
    taken = taken_none start limit;
    whole = λ ended. absurd (let no : false ≡ true = ended in cc);
    room = omega arith;
  };
  counted = refl;
  unfailed = refl;
  said = λ more none. record { counted = omega arith; says = inl (refl, refl) };
}

-- more may come
pub record IsOpen (start now : Seen) (limit : ℕ) (reads : List Read) (stand : Stand) : Type 0 where
  pub given : HasGiven start now limit reads stand
  pub unended : stand.ended ≡ false

module _ {start now : Seen} {limit : ℕ} {reads : List Read} {stand : Stand} (before : IsOpen start now limit reads stand) where
  pub given_grown : (new : Seen) (after : Stand) → HasGrown now new stand after → HasGiven start new limit reads after
  given_grown new after grown =
      let given = before.given in
      let used = given.used in
      let first = stand.unread.bytes in
      let come = grown.filled.more in
      let behind = grown.filled.behind in
      let all : (used ++ first) ++ come ≡ used ++ after.unread.bytes = append_assoc used first come
      ∙ ap (λ v. used ++ v) (sym behind) in
      let room = given.taken.room in
      let less = grown.filled.room in
      let long = ap length all in
      let parts = length-append (used ++ first) come in
      let taken = taken_filled given.taken.taken grown.filled room in
      record {
        used = used;
        taken = record {
          taken = subst (λ v. TakenSoFar start new limit after.unread v) all taken;
          whole = grown.whole;
          room = omega (arith, room, less, long, parts);
        };
        counted = grown.used ∙ given.counted;
        unfailed = grown.unfailed;
        said = λ more none.
            let said = given.said (come ++ more) (λ ended. absurd (let no : true ≡ false = sym ended
            ∙ before.unended in cc)) in
            let whole : (used ++ first) ++ (come ++ more) ≡ (used ++ after.unread.bytes) ++ more =
            sym (append_assoc (used ++ first) come more) ∙ ap (λ v. v ++ more) all in
            let rest : first ++ (come ++ more) ≡ after.unread.bytes ++ more = sym
            (append_assoc first come more) ∙ ap (λ v. v ++ more) (sym behind) in
            let counted = subst (λ v. length (lines v) ≡ stand.lines_used + length (lines (first ++
            (come ++ more)))) whole said.counted in
            let long_rest = ap (λ v. length (lines v)) rest in
            let same_lines = grown.lines_used in
            record {
              counted = omega (arith, counted, long_rest, same_lines);
              says = subst (λ q. Says q (lines ((used ++ after.unread.bytes) ++ more)) reads (lines
                  (after.unread.bytes ++ more))) (sym grown.is_fastq)
                  (subst (λ v. Says stand.is_fastq (lines ((used ++ after.unread.bytes) ++ more)) reads (lines v)) rest
                  (subst (λ v. Says stand.is_fastq (lines v) reads (lines (first ++
                  (come ++ more)))) whole said.says));
            };
      }

  refused : (new : Seen) (why : TakeFault) → FillingFails now new stand.unread why → TakingFails start new limit why
  refused new why fails = taken_fails new why before.given.taken.taken fails before.given.taken.room

  pub given_refused : (new : Seen) (after : Stand) (why : TakeFault) → FillingFails now new stand.unread why
      → MeetsFault start new limit after (taking_fault why)
  given_refused new after taking.TooLong fails = refused new taking.TooLong fails
  given_refused new after taking.Read fails = refused new taking.Read fails
  given_refused new after taking.Broken fails = refused new taking.Broken fails
  given_refused new after taking.Short fails = refused new taking.Short fails
  given_refused new after taking.Memory fails = inl (refused new taking.Memory fails)

-- ---- the steps of the reader

takes_line : (b q : Bool) (ls : List Line) (read : Read) (left : List Line)
    → MatchBool b (IsFastaRecord ls read left × (q ≡ false)) (IsFastqRecord ls read left × (q ≡ true))
    → length left < length ls
takes_line true q ls read left n = fasta_shorter ls read left n.0
takes_line false q ls read left n = fastq_shorter ls read left n.0

-- the lines at the reader's place; blank ones are skipped, and then others
pub record ArePassed (stand : Stand) (first blank after : Cursor) : Type 0 where
  pub taken : first.taken ≡ stand.lines_used
  pub counted_blank : line_count blank ≡ line_count first
  pub passes_blank : Passes first blank
  pub counted : line_count after ≡ line_count blank
  pub passes : Passes blank after

module _ {stand : Stand} {first blank after : Cursor} (passed : ArePassed stand first blank after) where
  pub reaches : (whole : List ℕ) → first.left ≡ lines whole → first.bytes ≡ whole → after.left ≡ lines after.bytes
      → Reaches stand whole after
  reaches whole left bytes left_after =
      let all = passes_both first blank after passed.passes_blank passed.passes in
      let taken = passed.taken in
      let long = ap length left in
      let counted = passed.counted_blank in
      let counted_after = passed.counted in
      record {
        behind = record { front = all.behind.front; split = sym bytes ∙ all.behind.split };
        left = left_after;
        counted = omega (arith, taken, long, counted, counted_after);
      }

  -- no more lines were used than bytes
  pub few_lines : after.taken ≤ stand.lines_used + (length first.bytes - length after.bytes)
  few_lines =
      let all = passes_both first blank after passed.passes_blank passed.passes in
      let taken = passed.taken in
      let few = all.few in
      let long = ap length all.behind.split in
      omega (arith, taken, few, long, length-append all.behind.front after.bytes)

  -- a record has a line, and a line has a byte
  pub uses_some : (was : Bool) (next : Read × Bool) → blank.left ≡ skip_blanks first.left
      → IsNext was blank.left (Some next) after.left → length after.bytes < length first.bytes
  uses_some was next left one =
      let line = takes_line (is_fasta_next was blank.left) next.1 blank.left next.0 after.left one in
      let few = few_lines in
      let blanks = ap length left in
      let taken = passed.taken in
      let counted = passed.counted_blank in
      let counted_after = passed.counted in
      omega (arith, taken, line, few, blanks, length-skip_blanks first.left, counted, counted_after)

pub record Filling (old now : Seen) (before after : Stand) : Type 0 where
  pub filled : Filled old now before.unread after.unread
  pub unended : after.ended ≡ false
  pub unfailed : after.failed ≡ None
  pub used : after.used ≡ before.used
  pub lines_used : after.lines_used ≡ before.lines_used
  pub is_fastq : after.is_fastq ≡ before.is_fastq

pub filling_none : (s : Seen) (stand : Stand) → stand.ended ≡ false → stand.failed ≡ None → Filling s s stand stand
filling_none s stand ended failed =
    record {
      filled = filled_none s stand.unread;
      unended = ended;
      unfailed = failed;
      used = refl;
      lines_used = refl;
      is_fastq = refl;
    }

-- if bytes came after others that had come, some came in all
pub some_came : {old mid new : Seen} {u v w : Unread} (whole : Filled old new u w) (front : Filled old mid u v) (more : Filled mid new v w)
    → 0 < length more.more → 0 < length whole.more
some_came {u = u} {v} whole front more some =
    omega (arith, some, ap (λ bytes. length bytes) whole.behind, ap (λ bytes. length bytes) front.behind, ap (λ bytes. length bytes) more.behind, length-append u.bytes whole.more, length-append u.bytes front.more, length-append v.bytes more.more)

-- a state with other unused bytes
abbrev pub with_unread : Stand → Unread → Bool → Option FastxFault → Stand
with_unread stand unread ended failed = record {
  unread = unread;
  used = stand.used;
  lines_used = stand.lines_used;
  is_fastq = stand.is_fastq;
  ended = ended;
  failed = failed;
}

module _ {old mid : Seen} {before now : Stand} (f : Filling old mid before now) where
  pub filling_more : (new : Seen) (after : Unread) → Filled mid new now.unread after
      → Filling old new before (with_unread now after now.ended now.failed)
  filling_more new after more = record {
    filled = filled_both f.filled more;
    unended = f.unended;
    unfailed = f.unfailed;
    used = f.used;
    lines_used = f.lines_used;
    is_fastq = f.is_fastq;
  }

  pub grown_some : (new : Seen) (after : Unread) → Filled mid new now.unread after
      → length now.unread.bytes < length after.bytes
      → HasGrown old new before (with_unread now after now.ended now.failed)
  grown_some new after more longer =
      let all = filled_both f.filled more in
      let behind = ap length all.behind in
      let first = ap length f.filled.behind in
      let some : 0 < length all.more = omega (
        arith,
        behind,
        first,
        longer,
        length-append before.unread.bytes all.more,
        length-append before.unread.bytes f.filled.more,
      ) in
      record {
        filled = all;
        whole = λ ended. absurd (let no : true ≡ false = sym ended ∙ f.unended in cc);
        some = at_false now.ended _ _ f.unended some;
        used = f.used;
        lines_used = f.lines_used;
        is_fastq = f.is_fastq;
        unfailed = f.unfailed;
      }

  pub grown_all : (new : Seen) (after : Unread) → Filled mid new now.unread after → Ended after
      → HasGrown old new before (with_unread now after true now.failed)
  grown_all new after more all = record {
    filled = filled_both f.filled more;
    whole = λ ended. all;
    some = tt;
    used = f.used;
    lines_used = f.lines_used;
    is_fastq = f.is_fastq;
    unfailed = f.unfailed;
  }

-- ---- all bytes

met_lines : (start now : Seen) (limit : ℕ) (stand : Stand) (fault : FastxFault) → is_of_lines fault ≡ true
    → MeetsFault start now limit stand fault
    → HasMet start now limit stand fault
met_lines start now limit stand (BadStart number) is m = m
met_lines start now limit stand (BadBase number) is m = m
met_lines start now limit stand (BadQuality number) is m = m
met_lines start now limit stand (LongQuality number) is m = m
met_lines start now limit stand (Truncated number) is m = m
met_lines start now limit stand TooLong is m = absurd (let no : false ≡ true = is in cc)
met_lines start now limit stand ReadFailed is m = absurd (let no : false ≡ true = is in cc)
met_lines start now limit stand Memory is m = absurd (let no : false ≡ true = is in cc)
met_lines start now limit stand BrokenGzip is m = absurd (let no : false ≡ true = is in cc)
met_lines start now limit stand ShortGzip is m = absurd (let no : false ≡ true = is in cc)

refused_lines : (start now : Seen) (limit : ℕ) (fault : FastxFault) → is_of_lines fault ≡ true → (bytes : List ℕ)
    → TakesAll start now limit bytes
    → HasFault bytes fault → RefusesFor start now limit fault
refused_lines start now limit (BadStart number) is bytes all has = (bytes, all, has)
refused_lines start now limit (BadBase number) is bytes all has = (bytes, all, has)
refused_lines start now limit (BadQuality number) is bytes all has = (bytes, all, has)
refused_lines start now limit (LongQuality number) is bytes all has = (bytes, all, has)
refused_lines start now limit (Truncated number) is bytes all has = (bytes, all, has)
refused_lines start now limit TooLong is bytes all has = absurd (let no : false ≡ true = is in cc)
refused_lines start now limit ReadFailed is bytes all has = absurd (let no : false ≡ true = is in cc)
refused_lines start now limit Memory is bytes all has = absurd (let no : false ≡ true = is in cc)
refused_lines start now limit BrokenGzip is bytes all has = absurd (let no : false ≡ true = is in cc)
refused_lines start now limit ShortGzip is bytes all has = absurd (let no : false ≡ true = is in cc)

refused_ended : (start now : Seen) (limit : ℕ) (stand : Stand) (fault : FastxFault) → is_of_lines fault ≡ true
    → stand.ended ≡ true
    → HasMet start now limit stand fault → RefusesFor start now limit fault
refused_ended start now limit stand fault is e m =
    refused_lines start now limit fault is m.bytes (all_taken e m.taken)
    (subst (λ v. HasFault v fault) (append-nil m.bytes) (m.met [] (λ ended. refl)))

base_count-either : (b : Bool) (bytes : List ℕ) (reads : List Read)
    → MatchBool b (Records IsFastaRecord (text_lines bytes) reads []) (IsFastq (text_lines bytes) reads)
    → base_count reads ≤ length bytes
base_count-either true bytes reads h = base_count-fasta bytes reads h
base_count-either false bytes reads h = base_count-fastq bytes reads h

-- a fault of the lines was met, and more bytes may come
pub record IsMetEarly (start now : Seen) (limit : ℕ) (stand : Stand) (fault : FastxFault) : Type 0 where
  pub of_lines : is_of_lines fault ≡ true
  pub unended : stand.ended ≡ false
  pub meets : MeetsFault start now limit stand fault

module _ {start now : Seen} {limit : ℕ} {stand : Stand} {fault : FastxFault} (early : IsMetEarly start now limit stand fault) where
  fault_met : HasMet start now limit stand fault
  fault_met = met_lines start now limit stand fault early.of_lines early.meets

  -- the other bytes were taken
  pub settled : (new : Seen) (count : ℕ) → Skips now new stand.unread (Ok count) → RefusesFor start new limit fault
  settled new count skips =
      let rest = taken_skips new count fault_met.taken.taken skips fault_met.taken.room in
      let none : MayCome stand.ended rest.0 = λ ended. absurd (let no : true ≡ false = sym ended ∙ early.unended in cc) in
      refused_lines start new limit fault early.of_lines (fault_met.bytes ++ rest.0) rest.2 (fault_met.met rest.0 none)

  -- they could not be taken
  pub settled_refused : (new : Seen) (why : TakeFault) → FillingFails now new stand.unread why
      → RefusesFor start new limit (taking_fault why)
  settled_refused new why fails =
      RefusesFor-taking start new limit why (taken_fails new why fault_met.taken.taken fails fault_met.taken.room)

-- all bytes were taken when the fault was met
pub settled_ended : (start now : Seen) (limit : ℕ) (stand : Stand) (fault : FastxFault) → stand.ended ≡ true
    → MeetsFault start now limit stand fault → RefusesFor start now limit fault
settled_ended start now limit stand (BadStart number) e m = refused_ended start now limit stand
    (BadStart number) refl e m
settled_ended start now limit stand (BadBase number) e m = refused_ended start now limit stand (BadBase number) refl e m
settled_ended start now limit stand (BadQuality number) e m = refused_ended start now limit stand
    (BadQuality number) refl e m
settled_ended start now limit stand (LongQuality number) e m = refused_ended start now limit stand
    (LongQuality number) refl e m
settled_ended start now limit stand (Truncated number) e m = refused_ended start now limit stand
    (Truncated number) refl e m
settled_ended start now limit stand TooLong e m = m
settled_ended start now limit stand ReadFailed e m = m
settled_ended start now limit stand Memory e m = m
settled_ended start now limit stand BrokenGzip e m = m
settled_ended start now limit stand ShortGzip e m = m

-- the fault is none of the lines
pub settled_other : (start now : Seen) (limit : ℕ) (stand : Stand) (fault : FastxFault) → is_of_lines fault ≡ false
    → MeetsFault start now limit stand fault → RefusesFor start now limit fault
settled_other start now limit stand (BadStart number) e m = absurd (let no : true ≡ false = e in cc)
settled_other start now limit stand (BadBase number) e m = absurd (let no : true ≡ false = e in cc)
settled_other start now limit stand (BadQuality number) e m = absurd (let no : true ≡ false = e in cc)
settled_other start now limit stand (LongQuality number) e m = absurd (let no : true ≡ false = e in cc)
settled_other start now limit stand (Truncated number) e m = absurd (let no : true ≡ false = e in cc)
settled_other start now limit stand TooLong e m = m
settled_other start now limit stand ReadFailed e m = m
settled_other start now limit stand Memory e m = m
settled_other start now limit stand BrokenGzip e m = m
settled_other start now limit stand ShortGzip e m = m

-- a growth for the reads was refused
pub given_in_vain : (start now : Seen) (limit : ℕ) (reads : List Read) (stand : Stand)
    → HasGiven start now limit reads stand → RefusesFor start now limit Memory
given_in_vain start now limit reads stand given = memory_refused given.taken

-- they have no more bases together than the source gave bytes
pub base_count-gives : (start now : Seen) (limit : ℕ) (reads : List Read) (count : ℕ)
    → GivesReads start now limit reads count → base_count reads ≤ count
base_count-gives start now limit reads count gives =
    let counted = gives.counted in
    let fits = base_count-either (next_begins_with greater_than
    (text_lines gives.bytes)) gives.bytes reads gives.has_reads in
    omega (arith, counted, fits)

-- no block was had
pub begun_in_vain : (start : Seen) (limit : ℕ) → RefusesFor start start limit Memory
begun_in_vain start limit = inl (taken_in_vain (taken_none start limit))

pub used_within : (start now : Seen) (limit : ℕ) (reads : List Read) (stand : Stand)
    → HasGiven start now limit reads stand → stand.used ≤ limit
used_within start now limit reads stand given =
    let counted = given.counted in
    let room = given.taken.room in
    omega (arith, counted, room, length-append given.used stand.unread.bytes)

-- the reads that were given so far have at most as many bases together as bytes may be taken
base_count-says : (is_fastq : Bool) (bytes : List ℕ) (reads : List Read) (rest : List Line)
    → Says is_fastq (lines bytes) reads rest → base_count reads ≤ length bytes
base_count-says true bytes reads rest h = base_count-fastq-front bytes reads rest h.1
base_count-says false bytes reads rest (inl h) = subst (λ v. base_count v ≤ length bytes) (sym h.0) (omega arith)
base_count-says false bytes reads rest (inr h) = base_count-fasta-front bytes reads rest h.1

pub base_count-given : (start now : Seen) (limit : ℕ) (reads : List Read) (stand : Stand)
    → HasGiven start now limit reads stand → base_count reads ≤ limit
base_count-given start now limit reads stand given =
    let said = given.said [] (λ ended. refl) in
    let fits = base_count-says stand.is_fastq (given.used ++ stand.unread.bytes ++ []) reads
    (lines (stand.unread.bytes ++ [])) said.says in
    let room = given.taken.room in
    omega (arith, fits, room, ap length (append-nil (given.used ++ stand.unread.bytes)))
