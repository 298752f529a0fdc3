-- The sequence lines and the whole records that were taken so far, and the effect of one more.
use Rattle.std.proofs.Common.{◌≡◌, ℕ, ◌+◌, ◌<◌, Bool, true, false, ◌&&◌, ◌||◌, List, [], ◌∷◌, ◌++◌, length, refl, sym}
use Rattle.std.proofs.Common.{ap, subst, ◌∙◌, arith}
use Rattle.std.specs.List.{concat, list_all, list_any}
use Rattle.std.proofs.lemmas.Bool.{or_from}
use Rattle.std.proofs.lemmas.List.{append_assoc, append-nil, length-append}
use Rattle.std.proofs.lemmas.List.Folds.{concat-append, list_all-append, list_any-append}
use Rattle.kc_fastx.specs.Lines.{Line, Cursor, IsBehind, Passes, begins_with, line_count}
use Rattle.kc_fastx.specs.Reads.{Read, is_sequence_byte}
use Rattle.kc_fastx.specs.Records.{RecordForm, Records, BeginsWithSequence, SequenceFails}
use Rattle.kc_fastx.specs.declared.read_faults.FastxFault.TheVariants.{BadBase}

-- from `start` on, the lines up to `now` are sequence lines that join to the bases
pub record SequenceSoFar (stop : ℕ) (start now : Cursor) (bases : List ℕ) : Type 0 where
  pub so_far : BeginsWithSequence stop start.left bases now.left
  pub counted : line_count now ≡ line_count start

-- `next` has taken one line more than `now`
pub record TakesLine (now next : Cursor) (line : Line) : Type 0 where
  pub left : now.left ≡ line ∷ next.left
  pub taken : next.taken ≡ now.taken + 1

-- `next` has taken a title more than `now`: a line that begins with the byte
pub record TakesTitle (byte : ℕ) (now next : Cursor) : Type 0 where
  pub title : Line
  pub step : TakesLine now next title
  pub is_title : begins_with byte title ≡ true

-- `next` has taken one line of the sequence more than `now`, good or bad
pub record TakesSequenceLine (stop : ℕ) (now next : Cursor) (line : Line) (good : Bool) : Type 0 where
  pub step : TakesLine now next line
  pub goes_on : begins_with stop line ≡ false
  pub accepted : list_all is_sequence_byte line ≡ good

-- ---- the bytes that were skipped

pub passes_none : (now : Cursor) → Passes now now
passes_none now = record { behind = record { front = []; split = refl }; few = omega arith }

pub passes_both : (a b c : Cursor) → Passes a b → Passes b c → Passes a c
passes_both a b c p q =
    let first = p.behind in
    let second = q.behind in
    let few = p.few in
    let more = q.few in
    record {
      behind = record {
        front = first.front ++ second.front;
        split = first.split ∙ ap (λ v. first.front ++ v) second.split
            ∙ sym (append_assoc first.front second.front c.bytes);
      };
      few = omega (arith, few, more, length-append first.front second.front);
    }

-- a line has at least one byte, its line end or another
pub passes_line : (old new : Cursor) → IsBehind old.bytes new.bytes → length new.bytes < length old.bytes
    → new.taken ≡ old.taken + 1 → Passes old new
passes_line old new behind shorter taken =
    let long = ap length behind.split in
    record { behind = behind; few = omega (arith, long, shorter, taken, length-append behind.front new.bytes) }

pub line_count-more : (now next : Cursor) (line : Line) → TakesLine now next line → line_count next ≡ line_count now
line_count-more now next line step = omega (arith, ap length step.left, step.taken)

pub sequence_none : (stop : ℕ) (start : Cursor) → SequenceSoFar stop start start []
sequence_none stop start = record {
  so_far = record { sequence = []; split = refl; none_stops = refl; joined = refl; accepted = refl };
  counted = refl;
}

pub joined-push : (bases : List ℕ) (sequence : List Line) (line : Line) → bases ≡ concat sequence → bases ++ line ≡ concat (sequence ++ line ∷ [])
joined-push bases sequence line e = rw (concat-append, append-nil, ← e) refl

pub both_true : (a b : Bool) → a ≡ true → b ≡ true → (a && b) ≡ true
both_true a b p q = rw (p, q) refl

pub sequence_more : (stop : ℕ) (start now next : Cursor) (bases : List ℕ) (line : Line) → SequenceSoFar stop start now bases
    → TakesSequenceLine stop now next line true → SequenceSoFar stop start next (bases ++ line)
sequence_more stop start now next bases line before taken =
    let s = before.so_far in
    record {
      so_far = record {
        sequence = s.sequence ++ line ∷ [];
        split = s.split ∙ ap (λ rest. s.sequence ++ rest) taken.step.left ∙ sym (append_assoc s.sequence (line ∷ []) next.left);
        none_stops = list_any-append (begins_with stop) s.sequence (line ∷ []) ∙ or_from (list_any (begins_with stop) s.sequence) (begins_with stop line || false) s.none_stops (or_from (begins_with stop line) false taken.goes_on refl);
        joined = joined-push bases s.sequence line s.joined;
        accepted = list_all-append is_sequence_byte bases line ∙ both_true (list_all is_sequence_byte bases) (list_all is_sequence_byte line) s.accepted taken.accepted;
      };
      counted = line_count-more now next line taken.step ∙ before.counted;
    }

-- a line of the sequence that isn't accepted is the fault, by its number
pub sequence_bad : (stop : ℕ) (start now next : Cursor) (bases : List ℕ) (line : Line) → SequenceSoFar stop start now bases
    → TakesSequenceLine stop now next line false → SequenceFails (line_count start) stop start.left (BadBase next.taken)
sequence_bad stop start now next bases line before taken =
    let s = before.so_far in (
      next.left,
      record {
        bases = bases;
        line = line;
        before = record { sequence = s.sequence; split = s.split ∙ ap (λ rest. s.sequence ++ rest) taken.step.left; none_stops = s.none_stops; joined = s.joined; accepted = s.accepted };
        goes_on = taken.goes_on;
        bad = taken.accepted;
      },
      line_count-more now next line taken.step ∙ before.counted,
    )

-- from `start` on, the lines up to `now` are whole records with these reads
pub record RecordsSoFar (Record : RecordForm) (start now : Cursor) (reads : List Read) : Type 0 where
  pub so_far : Records Record start.left reads now.left
  pub counted : line_count now ≡ line_count start

-- `next` has taken one record more than `now`, with this read
pub record TakesRecord (Record : RecordForm) (now next : Cursor) (read : Read) : Type 0 where
  pub one : Record now.left read next.left
  pub counted : line_count next ≡ line_count now

pub records_none : (Record : RecordForm) (start : Cursor) → RecordsSoFar Record start start []
records_none Record start = record { so_far = refl; counted = refl }

-- a record after whole records
pub Records-push : (Record : RecordForm) (ls : List Line) (reads : List Read) (middle : List Line) (read : Read) (rest : List Line)
    → Records Record ls reads middle → Record middle read rest → Records Record ls (reads ++ read ∷ []) rest
Records-push Record ls [] middle read rest before one = (rest, subst (λ ls. Record ls read rest) (sym before) one, refl)
Records-push Record ls (first ∷ reads) middle read rest before one =
    (before.0, before.1, Records-push Record before.0 reads middle read rest before.2 one)

pub records_more : (Record : RecordForm) (start now next : Cursor) (reads : List Read) (read : Read) → RecordsSoFar Record start now reads
    → TakesRecord Record now next read → RecordsSoFar Record start next (reads ++ read ∷ [])
records_more Record start now next reads read before taken = record {
  so_far = Records-push Record start.left reads now.left read next.left before.so_far taken.one;
  counted = taken.counted ∙ before.counted;
}
