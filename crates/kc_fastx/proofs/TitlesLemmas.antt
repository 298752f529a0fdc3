-- Records with their titles: with other lines after them, and one more after those that were given.
use Rattle.std.proofs.Common.{◌≡◌, ℕ, Bool, true, false, List, [], ◌∷◌, ◌++◌, drop, refl, sym, ap, ◌∙◌, subst, arith}
use Rattle.std.proofs.Common.{append_assoc, append-nil, MatchBool, Option, Some, Ok}
use Rattle.std.proofs.lemmas.List.{append_cancel_left, map_push}
use Rattle.std.proofs.lemmas.Bool.Decides.{nat_tests}
use Rattle.kc_io.specs.Sources.{Seen}
use Rattle.kc_fastx.specs.declared.record_reader.Next.TheVariants.{Given}
use Rattle.kc_fastx.specs.Reads.{Read}
use Rattle.kc_fastx.specs.Lines.{Line, lines, begins_with, next_begins_with, skip_blanks}
use Rattle.kc_fastx.specs.Fasta.{IsFastaRecord, greater_than}
use Rattle.kc_fastx.specs.Fastq.{IsFastqRecord, at_sign}
use Rattle.kc_fastx.specs.Parsing.{GivesReads}
use Rattle.kc_fastx.specs.Reading.{Stand, first_stand, MayCome, HasGiven, HasGrown, IsNext}
use Rattle.kc_fastx.specs.Titles.{Record, record_of, reads_in, title_at, IsRecord, AreRecords, HasGivenRecords}
use Rattle.kc_fastx.specs.Titles.{GivesRecords, TellsRecord}
use Rattle.kc_fastx.proofs.ParsingLemmas.{at_true, at_false}
use Rattle.kc_fastx.proofs.ClosedLemmas.{lines_behind}
use Rattle.kc_fastx.proofs.TailLemmas.{skip_blanks-again, skip_blanks-append, fasta_tail, fastq_tail}
use Rattle.kc_fastx.proofs.ReadingLemmas.{StaysBehind, FastaComes, ends_tail, begins_tail, lines_here, left_behind, stays}
use Rattle.kc_fastx.proofs.ReadingLemmas.{IsRead, all_taken, given_none, with_failed}
use Rattle.kc_gzip.proofs.IntakesLemmas.{taken_once}
use Rattle.kc_fastx.specs.declared.read_faults.FastxFault.{FastxFault}
use Rattle.kc_fastx.specs.Lines.{Cursor}

-- ---- one record

-- a title of FASTQ is none of FASTA
begins_other : (line : Line) → begins_with at_sign line ≡ true → begins_with greater_than line ≡ false
begins_other [] h = refl
begins_other (b ∷ bs) h = grind (arith, nat_tests)

-- with other lines after, the next title stays
title_tail : (w tail : List Line) (line : Line) (body : List Line) → skip_blanks w ≡ line ∷ body
    → title_at (skip_blanks w) ≡ title_at (skip_blanks (w ++ tail))
title_tail w tail line body some =
    ap title_at some ∙ sym (ap (λ v. title_at (v ++ tail)) some)
    ∙ sym (ap title_at (skip_blanks-append w tail line body some))

comes_fasta : (w tail : List Line) (read : Read) (left : List Line)
    → next_begins_with greater_than (skip_blanks w) ≡ true → FastaComes w tail read left
    → IsRecord (w ++ tail) (record_of (title_at (skip_blanks w)) read) (left ++ tail)
comes_fasta w tail read left begins comes =
    let r = comes.one in
    let some = r.title.whole in
    let front = skip_blanks-append w tail r.title.title r.body some in
    let ends = ends_tail greater_than left tail comes.stays r.ends in
    record {
      title = title_tail w tail r.title.title r.body some;
      read = at_true (next_begins_with greater_than (skip_blanks (w ++ tail))) _ _
          (ap (next_begins_with greater_than) front
          ∙ begins_tail greater_than (skip_blanks w) tail r.title.title r.body some ∙ begins)
          (subst (λ v. IsFastaRecord v read (left ++ tail)) (sym front)
          (fasta_tail (skip_blanks w) read left tail r ends));
    }

comes_fastq : (w tail : List Line) (read : Read) (left : List Line) → IsFastqRecord (skip_blanks w) read left
    → IsRecord (w ++ tail) (record_of (title_at (skip_blanks w)) read) (left ++ tail)
comes_fastq w tail read left r =
    let some = sym (skip_blanks-again w) ∙ r.title.whole in
    let front = skip_blanks-append w tail r.title.title r.body some in
    record {
      title = title_tail w tail r.title.title r.body some;
      read = at_false (next_begins_with greater_than (skip_blanks (w ++ tail))) _ _
          (ap (next_begins_with greater_than) front
          ∙ begins_tail greater_than (skip_blanks w) tail r.title.title r.body some
          ∙ ap (next_begins_with greater_than) some ∙ begins_other r.title.title r.title.is_title)
          (subst (λ v. IsFastqRecord v read (left ++ tail)) (sym front)
          (fastq_tail (skip_blanks w) read left tail r));
    }

comes_either : (b : Bool) (w tail : List Line) (next : Read × Bool) (left : List Line)
    → next_begins_with greater_than (skip_blanks w) ≡ b
    → MatchBool b (IsFastaRecord (skip_blanks w) next.0 left × (next.1 ≡ false))
    (IsFastqRecord (skip_blanks w) next.0 left × (next.1 ≡ true)) → StaysBehind left tail
    → IsRecord (w ++ tail) (record_of (title_at (skip_blanks w)) next.0) (left ++ tail)
comes_either true w tail next left is one stay =
    comes_fasta w tail next.0 left is (record { one = one.0; stays = stay })
comes_either false w tail next left is one stay = comes_fastq w tail next.0 left one.0

-- the record that comes next, with other lines after it
record_tail : (was : Bool) (w tail : List Line) (next : Read × Bool) (left : List Line)
    → IsNext was (skip_blanks w) (Some next) left → StaysBehind left tail
    → IsRecord (w ++ tail) (record_of (title_at (skip_blanks w)) next.0) (left ++ tail)
record_tail true w tail next left one stay = comes_fastq w tail next.0 left one.0
record_tail false w tail next left one stay =
    comes_either (next_begins_with greater_than (skip_blanks w)) w tail next left refl one stay

-- whatever may still come, the unused bytes begin with the record that was read
pub record_read : {stand : Stand} {whole : List ℕ} {after : Cursor} {next : Read × Bool} {count : ℕ}
    → IsRead stand whole after next count → (title : Line) → title ≡ title_at (skip_blanks (lines whole))
    → (more : List ℕ) → MayCome stand.ended more
    → IsRecord (lines (stand.unread.bytes ++ more)) (record_of title next.0)
    (lines (drop count stand.unread.bytes ++ more))
record_read {stand = stand} {whole = whole} {after = after} {next = next} {count = count} read title is more none =
    let h = read.has_whole in
    let tail = lines (h.tail ++ more) in
    let here = lines_here stand.ended stand.unread.bytes whole h more none in
    let left = left_behind stand whole h after read.reaches count read.used in
    let there : lines (drop count stand.unread.bytes ++ more) ≡ after.left ++ tail =
    ap (λ v. lines (v ++ more)) left.1
    ∙ ap lines (append_assoc after.bytes h.tail more)
    ∙ lines_behind stand.ended h read.reaches.behind.front after.bytes more read.reaches.behind.split none
    ∙ ap (λ v. v ++ tail) (sym read.reaches.left) in
    let one = record_tail stand.is_fastq (lines whole) tail next after.left read.one
    (stays stand whole h after.left more none read.sure) in
    subst (λ v. IsRecord v (record_of title next.0) (lines (drop count stand.unread.bytes ++ more))) (sym here)
    (subst (λ v. IsRecord (lines whole ++ tail) (record_of title next.0) v) (sym there)
    (subst (λ v. IsRecord (lines whole ++ tail) (record_of v next.0) (after.left ++ tail)) (sym is) one))

-- ---- the records that were given

AreRecords-push : (ls : List Line) (records : List Record) (middle : List Line) (this : Record) (rest : List Line)
    → AreRecords ls records middle → IsRecord middle this rest → AreRecords ls (records ++ this ∷ []) rest
AreRecords-push ls [] middle this rest before one = (rest, subst (λ v. IsRecord v this rest) (sym before) one, refl)
AreRecords-push ls (first ∷ others) middle this rest before one =
    (before.0, before.1, AreRecords-push before.0 others middle this rest before.2 one)

pub records_none : (start : Seen) (limit : ℕ) → HasGivenRecords start start limit [] (first_stand limit)
records_none start limit = record {
  given = given_none start limit;
  said = λ more none. refl;
}

-- more bytes may follow those that were unused
pub record IsLonger (before stand : Stand) : Type 0 where
  pub more : List ℕ
  pub came : stand.unread.came ≡ before.unread.came ++ more
  pub behind : stand.unread.bytes ≡ before.unread.bytes ++ more
  pub ended : before.ended ≡ true → (stand.ended ≡ true) × (more ≡ [])

pub longer_none : (stand : Stand) → IsLonger stand stand
longer_none stand = record {
  more = [];
  came = sym (append-nil stand.unread.came);
  behind = sym (append-nil stand.unread.bytes);
  ended = λ e. (e, refl);
}

pub longer_grown : {before stand : Stand} → IsLonger before stand → stand.ended ≡ false
    → (mid new : Seen) (after : Stand) → HasGrown mid new stand after → IsLonger before after
longer_grown {before = before} {stand = stand} l unended mid new after grown = record {
  more = l.more ++ grown.filled.more;
  came = grown.filled.came ∙ ap (λ v. v ++ grown.filled.more) l.came
      ∙ append_assoc before.unread.came l.more grown.filled.more;
  behind = grown.filled.behind ∙ ap (λ v. v ++ grown.filled.more) l.behind
      ∙ append_assoc before.unread.bytes l.more grown.filled.more;
  ended = λ e. absurd (let no : true ≡ false = sym (l.ended e).0 ∙ unended in cc);
}

-- what is kept of a fault changes no bytes
pub longer_kept : {before stand : Stand} (failed : Option FastxFault) → IsLonger before stand
    → IsLonger before (with_failed stand failed)
longer_kept failed l = record { more = l.more; came = l.came; behind = l.behind; ended = l.ended }

-- the same records, with what may still follow more unused bytes
said_longer : {start old : Seen} {limit : ℕ} {records : List Record} {before stand : Stand}
    (h : HasGivenRecords start old limit records before) (l : IsLonger before stand) (more : List ℕ)
    → MayCome stand.ended more
    → AreRecords (lines (stand.unread.came ++ more)) records (lines (stand.unread.bytes ++ more))
said_longer {records = records} {before = before} {stand = stand} h l more none =
    let come : MayCome before.ended (l.more ++ more) =
    λ e. let p = l.ended e in ap (λ v. v ++ more) p.1 ∙ none p.0 in
    let all = ap (λ v. v ++ more) l.came ∙ append_assoc before.unread.came l.more more in
    let rest = ap (λ v. v ++ more) l.behind ∙ append_assoc before.unread.bytes l.more more in
    subst (λ v. AreRecords (lines v) records (lines (stand.unread.bytes ++ more))) (sym all)
    (subst (λ v. AreRecords (lines (before.unread.came ++ (l.more ++ more))) records (lines v)) (sym rest)
    (h.said (l.more ++ more) come))

-- one more record
pub records_more : {start old now : Seen} {limit : ℕ} {records : List Record} {before stand : Stand}
    (h : HasGivenRecords start old limit records before) (l : IsLonger before stand) (new : Stand)
    (title : Line) (read : Read) → TellsRecord stand new title (Ok (Given read))
    → HasGiven start now limit (reads_in records ++ read ∷ []) new
    → HasGivenRecords start now limit (records ++ record_of title read ∷ []) new
records_more {start = start} {now = now} {limit = limit} {records = records} {stand = stand} h l new title read tells
    given = record {
      given = subst (λ v. HasGiven start now limit v new) (sym (map_push (λ (r : Record). r.read) records (record_of title read)))
          given;
      said = λ more none.
          let come : MayCome stand.ended more = λ e. none (tells.0 ∙ e) in
          subst (λ v. AreRecords (lines (v ++ more)) (records ++ record_of title read ∷ []) (lines (new.unread.bytes ++ more)))
          (sym tells.1)
          (AreRecords-push (lines (stand.unread.came ++ more)) records (lines (stand.unread.bytes ++ more))
          (record_of title read) (lines (new.unread.bytes ++ more)) (said_longer h l more come) (tells.2 more come));
    }

-- the same records
pub records_same : {start old now : Seen} {limit : ℕ} {records : List Record} {before stand : Stand}
    (h : HasGivenRecords start old limit records before) → IsLonger before stand
    → HasGiven start now limit (reads_in records) stand → HasGivenRecords start now limit records stand
records_same h l given = record {
  given = given;
  said = said_longer h l;
}

-- all records
pub records_all : {start now : Seen} {limit count : ℕ} {records : List Record} {stand : Stand}
    (h : HasGivenRecords start now limit records stand) → stand.ended ≡ true → skip_blanks (lines stand.unread.bytes) ≡ []
    → GivesReads start now limit (reads_in records) count → GivesRecords start now limit records
records_all {records = records} {stand = stand} h ended blank gives =
    let same : stand.unread.came ≡ gives.bytes =
    sym h.given.taken.taken.are ∙ taken_once (all_taken ended h.given.taken) gives.taken in
    let said = h.said [] (λ e. refl) in (
      gives.bytes,
      gives.taken,
      record {
        reads = gives.has_reads;
        rest = lines stand.unread.bytes;
        said = subst (λ v. AreRecords (lines gives.bytes) records (lines v)) (append-nil stand.unread.bytes)
            (subst (λ v. AreRecords (lines v) records (lines (stand.unread.bytes ++ [])))
            (append-nil stand.unread.came ∙ same) said);
        ends = blank;
      },
    )
