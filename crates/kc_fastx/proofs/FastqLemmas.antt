-- The quality lines and the FASTQ records that were taken so far, and the effect of one more.
use Rattle.std.proofs.Common.{◌≡◌, ℕ, ◌+◌, ◌-◌, ◌<◌, ◌≤◌, true, false, List, [], ◌∷◌, ◌++◌, length, take, refl, sym, ap, subst, ◌∙◌, arith, Some, inl, inr, ⊎_elim, ◌⊎◌}
use Rattle.std.specs.List.{concat, list_all}
use Rattle.std.proofs.lemmas.Bool.{cases_lt}
use Rattle.std.proofs.lemmas.List.{append_assoc, length-append, take-append-le, take_at}
use Rattle.std.proofs.lemmas.List.Folds.{concat-append, list_all-append}
use Rattle.kc_fastx.specs.declared.read_faults.FastxFault.{FastxFault}
use Rattle.kc_fastx.specs.declared.read_faults.FastxFault.TheVariants.{BadStart, BadBase, BadQuality, LongQuality, Truncated, TooLong, Read as ReadFailed, Memory}
use Rattle.kc_fastx.specs.declared.read_faults.FastxFault.TheVariants.{BrokenGzip, ShortGzip}
use Rattle.kc_fastx.specs.Lines.{Line, Cursor, begins_with, line_count, skip_blanks, ends_or_begins_with}
use Rattle.kc_fastx.specs.Reads.{Read, is_quality_byte, read_of}
use Rattle.kc_fastx.specs.Records.{Records, BeginsWithSequence, SequenceFails, FirstFault}
use Rattle.kc_fastx.specs.Fastq.{BeginsWithFastqTitle, HasPlus, BeginsWithQuality, HasShortQuality, IsFastqBody, IsFastqRecord, QualityFails, FastqBodyFails, FastqFails, at_sign, plus_sign}
use Rattle.kc_fastx.specs.Parsing.{IsFastq}
use Rattle.kc_fastx.specs.Faults.{UnlessMemory}
use Rattle.kc_fastx.proofs.RecordsLemmas.{TakesLine, TakesTitle, line_count-more, joined-push, both_true, Records-push}

-- from `start` on, the lines up to `now` are quality lines that join to at most `need` bytes, every prefix to fewer
pub record QualitySoFar (need : ℕ) (start now : Cursor) (quals : List ℕ) : Type 0 where
  pub taken : List Line
  pub split : start.left ≡ taken ++ now.left
  pub joined : quals ≡ concat taken
  pub accepted : list_all is_quality_byte quals ≡ true
  pub fits : length quals ≤ need
  pub fronts_shorter : (i : ℕ) → i < length taken → length (concat (take i taken)) < need
  pub counted : line_count now ≡ line_count start

pub quality_none : (need : ℕ) (start : Cursor) → QualitySoFar need start start []
quality_none need start = record {
  taken = [];
  split = refl;
  joined = refl;
  accepted = refl;
  fits = omega arith;
  fronts_shorter = λ i h. absurd (omega arith);
  counted = refl;
}

last_or_below : (i n : ℕ) → i < n + 1 → (i < n) ⊎ (n ≡ i)
last_or_below i n h = ⊎_elim (λ (lt : i < n). inl lt) (λ (le : n ≤ i). inr (omega arith)) (cases_lt i n)

-- a prefix of the lines and one more is a prefix of the lines, or all of them
front_shorter : (need : ℕ) (taken : List Line) (line : Line) → ((i : ℕ) → i < length taken → length (concat (take i taken)) < need)
    → length (concat taken) < need → (i : ℕ) → i < length (taken ++ line ∷ []) → length (concat (take i (taken ++ line ∷ []))) < need
front_shorter need taken line below here i h =
    ⊎_elim
    (λ (lt : i < length taken). let le : i ≤ length taken = omega arith in rw (take-append-le i taken (line ∷ []) le) (below i lt))
    (λ (e : length taken ≡ i). rw (take_at taken (line ∷ []) i e) here)
    (last_or_below i (length taken) (omega (arith, length-append taken (line ∷ []))))

-- after qualities that are too short, `next` has taken one line of qualities more than `now`, which does not make them
-- too long
pub record TakesQualityLine (need : ℕ) (quals : List ℕ) (now next : Cursor) (line : Line) : Type 0 where
  pub short : length quals < need
  pub step : TakesLine now next line
  pub accepted : list_all is_quality_byte line ≡ true
  pub fits : length quals + length line ≤ need

pub quality_more : (need : ℕ) (start now next : Cursor) (quals : List ℕ) (line : Line) → QualitySoFar need start now quals
    → TakesQualityLine need quals now next line → QualitySoFar need start next (quals ++ line)
quality_more need start now next quals line before taken = record {
  taken = before.taken ++ line ∷ [];
  split = before.split ∙ ap (λ rest. before.taken ++ rest) taken.step.left ∙ sym (append_assoc before.taken (line ∷ []) next.left);
  joined = joined-push quals before.taken line before.joined;
  accepted = list_all-append is_quality_byte quals line ∙ both_true (list_all is_quality_byte quals) (list_all is_quality_byte line) before.accepted taken.accepted;
  fits = omega (arith, taken.fits, length-append quals line);
  fronts_shorter = front_shorter need before.taken line before.fronts_shorter (subst (λ qs. length qs < need) before.joined taken.short);
  counted = line_count-more now next line taken.step ∙ before.counted;
}

-- the quality is whole
pub quality_all : (need : ℕ) (start now : Cursor) (quals : List ℕ) → QualitySoFar need start now quals → need ≤ length quals
    → BeginsWithQuality need start.left quals now.left
quality_all need start now quals before enough = record {
  taken = before.taken;
  split = before.split;
  joined = before.joined;
  accepted = before.accepted;
  long_enough = omega (arith, before.fits);
  fronts_shorter = before.fronts_shorter;
}

-- the quality is still too short
pub quality_short : (need : ℕ) (start now : Cursor) (quals : List ℕ) (rest : List Line) → QualitySoFar need start now quals → length quals < need
    → now.left ≡ rest → HasShortQuality need start.left quals rest
quality_short need start now quals rest before short e = record {
  taken = before.taken;
  split = before.split ∙ ap (λ rest. before.taken ++ rest) e;
  joined = before.joined;
  accepted = before.accepted;
  short = short;
}

-- no quality is too short if some is needed
pub quality_begun : (need : ℕ) (ls rest : List Line) → 0 < need → ls ≡ rest → HasShortQuality need ls [] rest
quality_begun need ls rest some e = record { taken = []; split = e; joined = refl; accepted = refl; short = some }

-- after the quality so far, quality that is too short for what is missing is too short for all
short_behind : (need : ℕ) (start now : Cursor) (quals : List ℕ) → QualitySoFar need start now quals
    → (more : List ℕ) (rest : List Line) → HasShortQuality (need - length quals) now.left more rest
    → HasShortQuality need start.left (quals ++ more) rest
short_behind need start now quals before more rest behind = record {
  taken = before.taken ++ behind.taken;
  split = before.split ∙ ap (λ ls. before.taken ++ ls) behind.split ∙ sym (append_assoc before.taken behind.taken rest);
  joined =
      ap (λ v. v ++ more) before.joined
      ∙ ap (λ v. concat before.taken ++ v) behind.joined
      ∙ sym (concat-append before.taken behind.taken);
  accepted = list_all-append is_quality_byte quals more
      ∙ both_true (list_all is_quality_byte quals) (list_all is_quality_byte more) before.accepted behind.accepted;
  short = omega (arith, before.fits, behind.short, length-append quals more);
}

-- and what fails as the quality that is lacking fails as the quality
pub quality_behind : (need : ℕ) (start now : Cursor) (quals : List ℕ) → QualitySoFar need start now quals
    → (fault : FastxFault) → QualityFails (line_count now) (need - length quals) now.left fault
    → QualityFails (line_count start) need start.left fault
quality_behind need start now quals before (BadQuality number) h = (
  quals ++ h.0,
  h.1,
  h.2,
  short_behind need start now quals before h.0 (h.1 ∷ h.2) h.3,
  h.4,
  h.5 ∙ before.counted,
)
quality_behind need start now quals before (LongQuality number) h = (
  quals ++ h.0,
  h.1,
  h.2,
  short_behind need start now quals before h.0 (h.1 ∷ h.2) h.3,
  h.4,
  omega (arith, before.fits, h.5, length-append quals h.0),
  h.6 ∙ before.counted,
)
quality_behind need start now quals before (Truncated number) h =
    (quals ++ h.0, short_behind need start now quals before h.0 [] h.1, h.2 ∙ before.counted)
quality_behind need start now quals before (BadStart number) h = absurd h
quality_behind need start now quals before (BadBase number) h = absurd h
quality_behind need start now quals before TooLong h = absurd h
quality_behind need start now quals before ReadFailed h = absurd h
quality_behind need start now quals before BrokenGzip h = absurd h
quality_behind need start now quals before ShortGzip h = absurd h
quality_behind need start now quals before Memory h = absurd h

-- after quality that is still too short the lines end, or the next one is bad, or too long
pub quality_ends : (need : ℕ) (start now : Cursor) (quals : List ℕ) → QualitySoFar need start now quals
    → length quals < need → now.left ≡ [] → QualityFails (line_count start) need start.left (Truncated now.taken)
quality_ends need start now quals before short e =
    quality_behind need start now quals before (Truncated now.taken)
    ([], quality_begun (need - length quals) now.left [] (omega (arith, short)) e, omega (arith, ap length e))

pub quality_bad : (need : ℕ) (start now next : Cursor) (quals : List ℕ) (line : Line)
    → QualitySoFar need start now quals → length quals < need → TakesLine now next line
    → list_all is_quality_byte line ≡ false → QualityFails (line_count start) need start.left (BadQuality next.taken)
quality_bad need start now next quals line before short step bad =
    quality_behind need start now quals before (BadQuality next.taken) (
      [],
      line,
      next.left,
      quality_begun (need - length quals) now.left (line ∷ next.left) (omega (arith, short)) step.left,
      bad,
      line_count-more now next line step,
    )

pub quality_long : (need : ℕ) (start now next : Cursor) (quals : List ℕ) (line : Line)
    → QualitySoFar need start now quals → length quals < need → TakesLine now next line
    → list_all is_quality_byte line ≡ true → need - length quals < length line
    → QualityFails (line_count start) need start.left (LongQuality next.taken)
quality_long need start now next quals line before short step good long =
    quality_behind need start now quals before (LongQuality next.taken) (
      [],
      line,
      next.left,
      quality_begun (need - length quals) now.left (line ∷ next.left) (omega (arith, short)) step.left,
      good,
      omega (arith, long),
      line_count-more now next line step,
    )

-- a fault that one part of a reader finds, the other finds, too
pub unless_memory : (P Q : FastxFault → Type 0) → ((fault : FastxFault) → P fault → Q fault) → (fault : FastxFault) → UnlessMemory P fault → UnlessMemory Q fault
unless_memory P Q f Memory p = tt
unless_memory P Q f (BadStart number) p = f (BadStart number) p
unless_memory P Q f (BadBase number) p = f (BadBase number) p
unless_memory P Q f (BadQuality number) p = f (BadQuality number) p
unless_memory P Q f (LongQuality number) p = f (LongQuality number) p
unless_memory P Q f (Truncated number) p = f (Truncated number) p
unless_memory P Q f TooLong p = f TooLong p
unless_memory P Q f ReadFailed p = f ReadFailed p
unless_memory P Q f BrokenGzip p = f BrokenGzip p
unless_memory P Q f ShortGzip p = f ShortGzip p

-- the sequence, and the line with `+` where it ends
pub has_plus : (start middle after : Cursor) (bases : List ℕ) (plus : Line) → BeginsWithSequence plus_sign start.left bases middle.left
    → ends_or_begins_with plus_sign middle.left ≡ true → middle.left ≡ plus ∷ after.left → HasPlus start.left bases after.left
has_plus start middle after bases plus sequence at e = record {
  plus = plus;
  sequence = subst (λ rest. BeginsWithSequence plus_sign start.left bases rest) e sequence;
  is_plus = subst (λ ls. ends_or_begins_with plus_sign ls ≡ true) e at;
}

pub fastq_body : (start after end : Cursor) (bases quals : List ℕ) → HasPlus start.left bases after.left
    → BeginsWithQuality (length bases) after.left quals end.left → IsFastqBody start.left (read_of bases (Some quals)) end.left
fastq_body start after end bases quals front quality = record { after = after.left; front = front; quals = quals; quality = quality; has_quals = refl }

-- a sequence that fails makes the record fail
pub body_fails-sequence : (count : ℕ) (body : List Line) (fault : FastxFault) → SequenceFails count plus_sign body fault → FastqBodyFails count body fault
body_fails-sequence count body (BadBase number) h = h
body_fails-sequence count body (BadStart number) h = h
body_fails-sequence count body (BadQuality number) h = absurd h
body_fails-sequence count body (LongQuality number) h = absurd h
body_fails-sequence count body (Truncated number) h = absurd h
body_fails-sequence count body TooLong h = h
body_fails-sequence count body ReadFailed h = h
body_fails-sequence count body BrokenGzip h = h
body_fails-sequence count body ShortGzip h = h
body_fails-sequence count body Memory h = h

-- so does a quality
pub body_fails-quality : (count : ℕ) (body : List Line) (bases : List ℕ) (after : List Line) → HasPlus body bases after → (fault : FastxFault)
    → QualityFails count (length bases) after fault → FastqBodyFails count body fault
body_fails-quality count body bases after front (BadBase number) h = absurd h
body_fails-quality count body bases after front (BadStart number) h = h
body_fails-quality count body bases after front (BadQuality number) h = (bases, after, front, h)
body_fails-quality count body bases after front (LongQuality number) h = (bases, after, front, h)
body_fails-quality count body bases after front (Truncated number) h = inr (bases, after, front, h)
body_fails-quality count body bases after front TooLong h = h
body_fails-quality count body bases after front ReadFailed h = h
body_fails-quality count body bases after front BrokenGzip h = h
body_fails-quality count body bases after front ShortGzip h = h
body_fails-quality count body bases after front Memory h = h

-- the lines end after the sequence
pub body_fails-end : (start middle : Cursor) (bases : List ℕ) → BeginsWithSequence plus_sign start.left bases middle.left → middle.left ≡ []
    → line_count middle ≡ line_count start → FastqBodyFails (line_count start) start.left (Truncated middle.taken)
body_fails-end start middle bases sequence e counted =
    inl (bases, subst (λ rest. BeginsWithSequence plus_sign start.left bases rest) e sequence, omega (arith, ap length e, counted))

-- from `start` on there are whole records with these reads, and `now` is after the blank lines that follow them
pub record FastqSoFar (start now : Cursor) (reads : List Read) : Type 0 where
  pub here : List Line
  pub so_far : Records IsFastqRecord start.left reads here
  pub past_blanks : now.left ≡ skip_blanks here
  pub counted : line_count now ≡ line_count start

pub fastq_none : (start now : Cursor) → now.left ≡ skip_blanks start.left → line_count now ≡ line_count start → FastqSoFar start now []
fastq_none start now e counted = record { here = start.left; so_far = refl; past_blanks = e; counted = counted }

fastq_title : (start now next : Cursor) (reads : List Read) (before : FastqSoFar start now reads) → TakesTitle at_sign now next
    → BeginsWithFastqTitle before.here next.left
fastq_title start now next reads before t = record { title = t.title; whole = sym before.past_blanks ∙ t.step.left; is_title = t.is_title }

-- `past` has taken one record more than `now`: a title, the body of this read, and the blank lines after it
pub record TakesFastqRecord (now past : Cursor) (read : Read) : Type 0 where
  pub next : Cursor
  pub title : TakesTitle at_sign now next
  pub after : List Line
  pub body : IsFastqBody next.left read after
  pub past_blanks : past.left ≡ skip_blanks after
  pub counted : line_count past ≡ line_count next

pub fastq_more : (start now past : Cursor) (reads : List Read) (read : Read) → FastqSoFar start now reads → TakesFastqRecord now past read
    → FastqSoFar start past (reads ++ read ∷ [])
fastq_more start now past reads read before taken =
    let t = taken.title in
    let one : IsFastqRecord before.here read taken.after =
    record { body = taken.next.left; title = fastq_title start now taken.next reads before t; record_body = taken.body } in
    record {
      here = taken.after;
      so_far = Records-push IsFastqRecord start.left reads before.here read taken.after before.so_far one;
      past_blanks = taken.past_blanks;
      counted = taken.counted ∙ line_count-more now taken.next t.title t.step ∙ before.counted;
    }

-- no line is left after the blank ones
pub fastq_all : (start now : Cursor) (reads : List Read) → FastqSoFar start now reads → now.left ≡ [] → IsFastq start.left reads
fastq_all start now reads before e = record { rest = before.here; records = before.so_far; ends = sym before.past_blanks ∙ e }

-- there is a line that is no title in place of one
pub fastq_bad_start : (start now next : Cursor) (reads : List Read) (line : Line) → FastqSoFar start now reads → TakesLine now next line
    → begins_with at_sign line ≡ false → FirstFault IsFastqRecord (FastqFails (line_count start)) start.left (BadStart next.taken)
fastq_bad_start start now next reads line before step is = (
  reads,
  before.here,
  before.so_far,
  (
    next.left,
    record { line = line; whole = sym before.past_blanks ∙ step.left; no_title = is },
    line_count-more now next line step ∙ before.counted,
  ),
)

pub fastq_fails-body : (count : ℕ) (ls body : List Line) → BeginsWithFastqTitle ls body → (fault : FastxFault)
    → FastqBodyFails count body fault → FastqFails count ls fault
fastq_fails-body count ls body title (BadStart number) h = absurd h
fastq_fails-body count ls body title (BadBase number) h = (body, title, h)
fastq_fails-body count ls body title (BadQuality number) h = (body, title, h)
fastq_fails-body count ls body title (LongQuality number) h = (body, title, h)
fastq_fails-body count ls body title (Truncated number) h = (body, title, h)
fastq_fails-body count ls body title TooLong h = (body, title, h)
fastq_fails-body count ls body title ReadFailed h = (body, title, h)
fastq_fails-body count ls body title BrokenGzip h = (body, title, h)
fastq_fails-body count ls body title ShortGzip h = (body, title, h)
fastq_fails-body count ls body title Memory h = (body, title, h)

-- a record that fails after its title
pub fastq_fails : (start now next : Cursor) (reads : List Read) → FastqSoFar start now reads → TakesTitle at_sign now next
    → (fault : FastxFault) → FastqBodyFails (line_count next) next.left fault
    → FirstFault IsFastqRecord (FastqFails (line_count start)) start.left fault
fastq_fails start now next reads before t fault fails = (
  reads,
  before.here,
  before.so_far,
  fastq_fails-body (line_count start) before.here next.left (fastq_title start now next reads before t) fault
      (subst (λ count. FastqBodyFails count next.left fault) (line_count-more now next t.title t.step ∙ before.counted) fails),
)

-- a record at the front, whose title was taken, fails after it
pub next_fastq_fails : (now next : Cursor) → skip_blanks now.left ≡ now.left → TakesTitle at_sign now next
    → (fault : FastxFault) → FastqBodyFails (line_count next) next.left fault
    → FastqFails (line_count now) now.left fault
next_fastq_fails now next no_blanks t fault fails =
    fastq_fails-body (line_count now) now.left next.left (record {
      title = t.title;
      whole = no_blanks
          ∙ t.step.left;
      is_title = t.is_title;
    }) fault
    (subst (λ count. FastqBodyFails count next.left fault) (line_count-more now next t.title t.step) fails)

-- a record at the front fails by the quality after its title, its sequence and its line with `+`
pub next_quality_fails : (now next middle after : Cursor) (bases : List ℕ) (plus : Line) → skip_blanks now.left ≡ now.left
    → TakesTitle at_sign now next → BeginsWithSequence plus_sign next.left bases middle.left
    → ends_or_begins_with plus_sign middle.left ≡ true → line_count middle ≡ line_count next
    → TakesLine middle after plus → (fault : FastxFault)
    → QualityFails (line_count after) (length bases) after.left fault → FastqFails (line_count now) now.left fault
next_quality_fails now next middle after bases plus no_blanks t sequence at counted step fault fails =
    next_fastq_fails now next no_blanks t fault (body_fails-quality (line_count next) next.left bases after.left
    (has_plus next middle after bases plus sequence at step.left) fault
    (subst (λ count. QualityFails count (length bases) after.left fault) (line_count-more middle after plus step ∙ counted) fails))

-- no line is made: blank lines are skipped, and a record's lines are taken
pub length-skip_blanks : (ls : List Line) → length (skip_blanks ls) ≤ length ls
length-skip_blanks [] = omega arith
length-skip_blanks ([] ∷ ls) = omega (arith, length-skip_blanks ls)
length-skip_blanks ((b ∷ bs) ∷ ls) = omega arith

pub length-body : (body : List Line) (read : Read) (rest : List Line) → IsFastqBody body read rest → length rest ≤ length body
length-body body read rest record_body =
    let s = record_body.front.sequence in
    let q = record_body.quality in
    omega (arith, ap length s.split, length-append s.sequence (record_body.front.plus ∷ record_body.after), ap length q.split, length-append q.taken rest)

-- a record has a line
pub fastq_shorter : (ls : List Line) (read : Read) (rest : List Line) → IsFastqRecord ls read rest
    → length rest < length ls
fastq_shorter ls read rest r =
    let title = ap length r.title.whole in
    omega (arith, title, length-skip_blanks ls, length-body r.body read rest r.record_body)
