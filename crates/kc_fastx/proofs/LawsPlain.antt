-- A plain, slow program for the reads of some bytes. It returns whatever the definition gives for the bytes: so no
-- input has two results, and the program computes the worked rows.
use Rattle.std.proofs.Common.{◌≡◌, ℕ, zero, suc, ◌+◌, ◌-◌, ◌<◌, ◌≤◌, Bool, true, false, cond, ◌&&◌, List, [], ◌∷◌, ◌++◌, length, take, refl, sym, ap, subst, ◌∙◌, arith, Some, None, Ok, Err, Result, ⊎_elim, leb}
use Rattle.std.specs.List.{concat, list_all, list_any}
use Rattle.std.specs.Bool.{MatchBool}
use Rattle.std.proofs.lemmas.Bool.{le-leb, lt-leb, and_parts, or_parts}
use Rattle.std.proofs.lemmas.List.{length-append, append_assoc, append-nil}
use Rattle.std.proofs.lemmas.List.Folds.{list_all-append}
use Rattle.kc_fastx.specs.declared.read_faults.FastxFault.{FastxFault}
use Rattle.kc_fastx.specs.declared.read_faults.FastxFault.TheVariants.{BadStart, BadBase, BadQuality, LongQuality, Truncated, TooLong, Read as ReadFailed, Memory}
use Rattle.kc_fastx.specs.declared.read_faults.FastxFault.TheVariants.{BrokenGzip, ShortGzip}
use Rattle.kc_fastx.specs.Reads.{Read, read_of, is_sequence_byte, is_quality_byte}
use Rattle.kc_fastx.specs.Lines.{Line, lines, begins_with, next_begins_with, skip_blanks, ends_or_begins_with}
use Rattle.kc_fastx.specs.Records.{Records, BeginsWithSequence, HasBadSequence, SequenceFails, FirstFault}
use Rattle.kc_fastx.specs.Fasta.{IsFastaRecord, FastaFails, greater_than}
use Rattle.kc_fastx.specs.Fastq.{HasPlus, BeginsWithQuality, HasShortQuality, QualityFails, FailsBehindPlus, IsFastqBody, FastqBodyFails, BeginsWithFastqTitle, IsFastqRecord, FastqFails, at_sign, plus_sign}
use Rattle.kc_fastx.proofs.FastqLemmas.{length-skip_blanks, length-body}
use Rattle.kc_fastx.proofs.LawsAnswers.{answer}
use Rattle.kc_fastx.specs.Parsing.{IsFastq, IsReadsOf, text_lines}

-- the bases, and the lines after them; or the lines after a bad one
unfoldable pub sequence_of : ℕ → List ℕ → List Line → Result (List ℕ × List Line) (List Line)
sequence_of stop bases [] = Ok (bases, [])
sequence_of stop bases (line ∷ ls) =
    cond (begins_with stop line) (Ok (bases, line ∷ ls)) (cond (list_all is_sequence_byte line) (sequence_of stop (bases ++ line) ls) (Err ls))

-- the qualities, and the lines after them
unfoldable pub quality_of : ℕ → ℕ → List ℕ → List Line → Result (List ℕ × List Line) FastxFault
quality_of count need quals [] = cond (leb need (length quals)) (Ok (quals, [])) (Err (Truncated count))
quality_of count need quals (line ∷ ls) =
    cond (leb need (length quals)) (Ok (quals, line ∷ ls))
    (cond (list_all is_quality_byte line)
    (cond (leb (length quals + length line) need) (quality_of count need (quals ++ line) ls) (Err (LongQuality (count - length ls))))
    (Err (BadQuality (count - length ls))))

abbrev pub on_ok : {X Y E : Type 0} → (X → Result Y E) → Result X E → Result Y E
on_ok f (Ok x) = f x
on_ok f (Err e) = Err e

abbrev pub first_of : {Y : Type 0} → Y → (Line → List Line → Y) → List Line → Y
first_of none some [] = none
first_of none some (line ∷ ls) = some line ls

abbrev pub bad_base : {X : Type 0} → ℕ → Result X (List Line) → Result X FastxFault
bad_base count (Ok x) = Ok x
bad_base count (Err more) = Err (BadBase (count - length more))

-- one FASTQ record after its title, and the lines after it
unfoldable pub body_of : ℕ → List Line → Result (Read × List Line) FastxFault
body_of count body =
    on_ok (λ front. first_of (Err (Truncated count))
    (λ plus after. on_ok (λ quality. Ok (read_of front.0 (Some quality.0), quality.1)) (quality_of count (length front.0) [] after)) front.1)
    (bad_base count (sequence_of plus_sign [] body))

-- the reads of FASTA lines, of which there are at most `fuel`
unfoldable pub fasta_of : ℕ → ℕ → List Line → Result (List Read) FastxFault
fasta_of count zero ls = Ok []
fasta_of count (suc fuel) ls =
    first_of (Ok []) (λ title body. on_ok (λ sequence. on_ok (λ reads. Ok (read_of sequence.0 None ∷ reads)) (fasta_of count fuel sequence.1)) (bad_base count (sequence_of greater_than [] body))) ls

-- the same of FASTQ
unfoldable pub fastq_of : ℕ → ℕ → List Line → Result (List Read) FastxFault
fastq_of count zero ls = Ok []
fastq_of count (suc fuel) ls =
    first_of (Ok [])
    (λ title body. cond (begins_with at_sign title)
    (on_ok (λ one. on_ok (λ reads. Ok (one.0 ∷ reads)) (fastq_of count fuel one.1)) (body_of count body))
    (Err (BadStart (count - length body))))
    (skip_blanks ls)

unfoldable pub reads_of : List ℕ → Result (List Read) FastxFault
reads_of bytes =
    let ls = text_lines bytes in let count = length (lines bytes) in
    cond (next_begins_with greater_than ls) (fasta_of count (length ls) ls) (fastq_of count (length ls) ls)

-- The program returns what the definition gives.

-- one good sequence line
sequence_of-line : (stop : ℕ) (bases : List ℕ) (line : Line) (ls : List Line) → begins_with stop line ≡ false → list_all is_sequence_byte line ≡ true
    → sequence_of stop bases (line ∷ ls) ≡ sequence_of stop (bases ++ line) ls
unfolding sequence_of
sequence_of-line stop bases line ls goes_on good = rw (goes_on, good) refl

-- good sequence lines
sequence_of-lines : (stop : ℕ) (bases : List ℕ) (sequence rest : List Line) → list_any (begins_with stop) sequence ≡ false
    → list_all is_sequence_byte (concat sequence) ≡ true → sequence_of stop bases (sequence ++ rest) ≡ sequence_of stop (bases ++ concat sequence) rest
sequence_of-lines stop bases [] rest none good = ap (λ bs. sequence_of stop bs rest) (sym (append-nil bases))
sequence_of-lines stop bases (line ∷ more) rest none good =
    let all : (list_all is_sequence_byte line && list_all is_sequence_byte (concat more)) ≡ true = sym (list_all-append is_sequence_byte line (concat more)) ∙ good in
    sequence_of-line stop bases line (more ++ rest) (or_parts (begins_with stop line) (list_any (begins_with stop) more) none).0
    (and_parts (list_all is_sequence_byte line) (list_all is_sequence_byte (concat more)) all).0
    ∙ sequence_of-lines stop (bases ++ line) more rest (or_parts (begins_with stop line) (list_any (begins_with stop) more) none).1
    (and_parts (list_all is_sequence_byte line) (list_all is_sequence_byte (concat more)) all).1
    ∙ ap (λ bs. sequence_of stop bs rest) (append_assoc bases line (concat more))

sequence_of-begins : (stop : ℕ) (ls : List Line) (bases : List ℕ) (rest : List Line) → BeginsWithSequence stop ls bases rest
    → sequence_of stop [] ls ≡ sequence_of stop bases rest
sequence_of-begins stop ls bases rest s =
    ap (sequence_of stop []) s.split
    ∙ sequence_of-lines stop [] s.sequence rest s.none_stops (subst (λ bs. list_all is_sequence_byte bs ≡ true) s.joined s.accepted)
    ∙ ap (λ bs. sequence_of stop bs rest) (sym s.joined)

sequence_of-end : (stop : ℕ) (bases : List ℕ) (rest : List Line) → ends_or_begins_with stop rest ≡ true → sequence_of stop bases rest ≡ Ok (bases, rest)
unfolding sequence_of
sequence_of-end stop bases [] e = refl
sequence_of-end stop bases (line ∷ ls) e = rw e refl

-- a whole sequence
sequence_of-ok : (stop : ℕ) (ls : List Line) (bases : List ℕ) (rest : List Line) → BeginsWithSequence stop ls bases rest → ends_or_begins_with stop rest ≡ true
    → sequence_of stop [] ls ≡ Ok (bases, rest)
sequence_of-ok stop ls bases rest s e = sequence_of-begins stop ls bases rest s ∙ sequence_of-end stop bases rest e

sequence_of-bad_line : (stop : ℕ) (bases : List ℕ) (line : Line) (more : List Line) → begins_with stop line ≡ false → list_all is_sequence_byte line ≡ false
    → sequence_of stop bases (line ∷ more) ≡ Err more
unfolding sequence_of
sequence_of-bad_line stop bases line more goes_on bad = rw (goes_on, bad) refl

-- a bad one
sequence_of-bad : (stop : ℕ) (ls more : List Line) → HasBadSequence stop ls more → sequence_of stop [] ls ≡ Err more
sequence_of-bad stop ls more h =
    sequence_of-begins stop ls h.bases (h.line ∷ more) h.before ∙ sequence_of-bad_line stop h.bases h.line more h.goes_on h.bad

number_is : (count number : ℕ) (more : List Line) → number + length more ≡ count → count - length more ≡ number
number_is count number more e = omega arith

-- FASTA

fasta_of-step : (count fuel : ℕ) (title : Line) (body : List Line) (answer : Result (List ℕ × List Line) (List Line)) → sequence_of greater_than [] body ≡ answer
    → fasta_of count (suc fuel) (title ∷ body)
    ≡ on_ok (λ sequence. on_ok (λ reads. Ok (read_of sequence.0 None ∷ reads)) (fasta_of count fuel sequence.1)) (bad_base count answer)
unfolding fasta_of
fasta_of-step count fuel title body answer e = rw e refl

fasta_of-end : (count fuel : ℕ) → fasta_of count fuel [] ≡ Ok []
unfolding fasta_of
fasta_of-end count zero = refl
fasta_of-end count (suc fuel) = refl

-- a record's lines are more than none
length-fasta : (ls : List Line) (read : Read) (rest : List Line) → IsFastaRecord ls read rest → length rest < length ls
length-fasta ls read rest one =
    let s = one.sequence in omega (arith, ap length one.title.whole, ap length s.split, length-append s.sequence rest)

fasta_of-ok : (count : ℕ) (reads : List Read) (fuel : ℕ) (ls : List Line) → length ls ≤ fuel → Records IsFastaRecord ls reads [] → fasta_of count fuel ls ≡ Ok reads
fasta_of-ok count [] fuel ls fits e = ap (fasta_of count fuel) e ∙ fasta_of-end count fuel
fasta_of-ok count (read ∷ reads) zero ls fits h = absurd (omega (arith, length-fasta ls read h.0 h.1))
fasta_of-ok count (read ∷ reads) (suc fuel) ls fits h =
    let one = h.1 in
    let sequence : sequence_of greater_than [] one.body ≡ Ok (read.bases, h.0) = sequence_of-ok greater_than one.body read.bases h.0 one.sequence one.ends in
    ap (fasta_of count (suc fuel)) one.title.whole
    ∙ fasta_of-step count fuel one.title.title one.body (Ok (read.bases, h.0)) sequence
    ∙ ap (on_ok (λ reads. Ok (read_of read.bases None ∷ reads))) (fasta_of-ok count reads fuel h.0 (omega (arith, length-fasta ls read h.0 one)) h.2)
    ∙ ap (λ quals. Ok (read_of read.bases quals ∷ reads)) (sym one.no_quals)

fasta_of-fails : (count fuel : ℕ) (ls body : List Line) (fault : FastxFault) (title : Line) → ls ≡ title ∷ body → SequenceFails count greater_than body fault
    → fasta_of count (suc fuel) ls ≡ Err fault
fasta_of-fails count fuel ls body (BadBase number) title e h =
    ap (fasta_of count (suc fuel)) e ∙ fasta_of-step count fuel title body (Err h.0) (sequence_of-bad greater_than body h.0 h.1)
    ∙ ap (λ n. Err (BadBase n)) (number_is count number h.0 h.2)
fasta_of-fails count fuel ls body (BadStart number) title e h = absurd h
fasta_of-fails count fuel ls body (BadQuality number) title e h = absurd h
fasta_of-fails count fuel ls body (LongQuality number) title e h = absurd h
fasta_of-fails count fuel ls body (Truncated number) title e h = absurd h
fasta_of-fails count fuel ls body TooLong title e h = absurd h
fasta_of-fails count fuel ls body ReadFailed title e h = absurd h
fasta_of-fails count fuel ls body BrokenGzip title e h = absurd h
fasta_of-fails count fuel ls body ShortGzip title e h = absurd h
fasta_of-fails count fuel ls body Memory title e h = absurd h

fasta_of-err : (count fuel : ℕ) (ls : List Line) (fault : FastxFault) → length ls ≤ fuel → FirstFault IsFastaRecord (FastaFails count) ls fault
    → fasta_of count fuel ls ≡ Err fault
fasta_of-err count zero ls fault fits ([], here, e, fails) = absurd (omega (arith, ap length e, ap length fails.1.whole))
fasta_of-err count (suc fuel) ls fault fits ([], here, e, fails) = fasta_of-fails count fuel ls fails.0 fault fails.1.title (e ∙ fails.1.whole) fails.2
fasta_of-err count zero ls fault fits (read ∷ reads, here, h, fails) = absurd (omega (arith, length-fasta ls read h.0 h.1))
fasta_of-err count (suc fuel) ls fault fits (read ∷ reads, here, h, fails) =
    let one = h.1 in
    let sequence : sequence_of greater_than [] one.body ≡ Ok (read.bases, h.0) = sequence_of-ok greater_than one.body read.bases h.0 one.sequence one.ends in
    ap (fasta_of count (suc fuel)) one.title.whole
    ∙ fasta_of-step count fuel one.title.title one.body (Ok (read.bases, h.0)) sequence
    ∙ ap (on_ok (λ reads. Ok (read_of read.bases None ∷ reads)))
    (fasta_of-err count fuel h.0 fault (omega (arith, length-fasta ls read h.0 one)) (reads, here, h.2, fails))

-- the quality

quality_of-line : (count need : ℕ) (quals : List ℕ) (line : Line) (ls : List Line) → length quals < need → list_all is_quality_byte line ≡ true
    → length quals + length line ≤ need → quality_of count need quals (line ∷ ls) ≡ quality_of count need (quals ++ line) ls
unfolding quality_of
quality_of-line count need quals line ls short good fits =
    rw (lt-leb need (length quals) short, good, le-leb (length quals + length line) need fits) refl

-- lines that are too short so far
quality_of-short : (count need : ℕ) (quals : List ℕ) (taken rest : List Line) → length quals + length (concat taken) < need
    → list_all is_quality_byte (concat taken) ≡ true → quality_of count need quals (taken ++ rest) ≡ quality_of count need (quals ++ concat taken) rest
quality_of-short count need quals [] rest short good = ap (λ qs. quality_of count need qs rest) (sym (append-nil quals))
quality_of-short count need quals (line ∷ more) rest short good =
    let all : (list_all is_quality_byte line && list_all is_quality_byte (concat more)) ≡ true = sym (list_all-append is_quality_byte line (concat more)) ∙ good in
    quality_of-line count need quals line (more ++ rest) (omega (arith, length-append line (concat more)))
    (and_parts (list_all is_quality_byte line) (list_all is_quality_byte (concat more)) all).0 (omega (arith, length-append line (concat more)))
    ∙ quality_of-short count need (quals ++ line) more rest (omega (arith, length-append line (concat more), length-append quals line))
    (and_parts (list_all is_quality_byte line) (list_all is_quality_byte (concat more)) all).1
    ∙ ap (λ qs. quality_of count need qs rest) (append_assoc quals line (concat more))

quality_of-end : (count need : ℕ) (quals : List ℕ) (rest : List Line) → need ≤ length quals → quality_of count need quals rest ≡ Ok (quals, rest)
unfolding quality_of
quality_of-end count need quals [] e = rw (le-leb need (length quals) e) refl
quality_of-end count need quals (line ∷ ls) e = rw (le-leb need (length quals) e) refl

-- lines that are long enough at last
quality_of-lines : (count need : ℕ) (quals : List ℕ) (taken rest : List Line) → length quals + length (concat taken) ≡ need
    → ((i : ℕ) → i < length taken → length quals + length (concat (take i taken)) < need) → list_all is_quality_byte (concat taken) ≡ true
    → quality_of count need quals (taken ++ rest) ≡ Ok (quals ++ concat taken, rest)
quality_of-lines count need quals [] rest long fronts good =
    quality_of-end count need quals rest (omega arith) ∙ ap (λ qs. Ok (qs, rest)) (sym (append-nil quals))
quality_of-lines count need quals (line ∷ more) rest long fronts good =
    let all : (list_all is_quality_byte line && list_all is_quality_byte (concat more)) ≡ true = sym (list_all-append is_quality_byte line (concat more)) ∙ good in
    let short : length quals < need = omega (arith, fronts 0 (omega arith)) in
    quality_of-line count need quals line (more ++ rest) short
    (and_parts (list_all is_quality_byte line) (list_all is_quality_byte (concat more)) all).0 (omega (arith, length-append line (concat more)))
    ∙ quality_of-lines count need (quals ++ line) more rest (omega (arith, length-append line (concat more), length-append quals line))
    (λ i h. omega (arith, fronts (suc i) (omega arith), length-append line (concat (take i more)), length-append quals line))
    (and_parts (list_all is_quality_byte line) (list_all is_quality_byte (concat more)) all).1
    ∙ ap (λ qs. Ok (qs, rest)) (append_assoc quals line (concat more))

quality_of-ok : (count need : ℕ) (ls : List Line) (quals : List ℕ) (rest : List Line) → BeginsWithQuality need ls quals rest → quality_of count need [] ls ≡ Ok (quals, rest)
quality_of-ok count need ls quals rest q =
    ap (quality_of count need []) q.split
    ∙ quality_of-lines count need [] q.taken rest (omega (arith, q.long_enough, ap length q.joined)) (λ i h. omega (arith, q.fronts_shorter i h))
    (subst (λ qs. list_all is_quality_byte qs ≡ true) q.joined q.accepted)
    ∙ ap (λ qs. Ok (qs, rest)) (sym q.joined)

quality_of-begins : (count need : ℕ) (ls : List Line) (quals : List ℕ) (rest : List Line) → HasShortQuality need ls quals rest
    → quality_of count need [] ls ≡ quality_of count need quals rest
quality_of-begins count need ls quals rest q =
    ap (quality_of count need []) q.split
    ∙ quality_of-short count need [] q.taken rest (omega (arith, q.short, ap length q.joined)) (subst (λ qs. list_all is_quality_byte qs ≡ true) q.joined q.accepted)
    ∙ ap (λ qs. quality_of count need qs rest) (sym q.joined)

quality_of-cut : (count need : ℕ) (quals : List ℕ) → length quals < need → quality_of count need quals [] ≡ Err (Truncated count)
unfolding quality_of
quality_of-cut count need quals short = rw (lt-leb need (length quals) short) refl

quality_of-bad : (count need : ℕ) (quals : List ℕ) (line : Line) (more : List Line) → length quals < need → list_all is_quality_byte line ≡ false
    → quality_of count need quals (line ∷ more) ≡ Err (BadQuality (count - length more))
unfolding quality_of
quality_of-bad count need quals line more short bad = rw (lt-leb need (length quals) short, bad) refl

quality_of-over : (count need : ℕ) (quals : List ℕ) (line : Line) (more : List Line) → length quals < need → list_all is_quality_byte line ≡ true
    → need < length quals + length line → quality_of count need quals (line ∷ more) ≡ Err (LongQuality (count - length more))
unfolding quality_of
quality_of-over count need quals line more short good over =
    rw (lt-leb need (length quals) short, good, lt-leb (length quals + length line) need over) refl

quality_of-err : (count need : ℕ) (ls : List Line) (fault : FastxFault) → QualityFails count need ls fault → quality_of count need [] ls ≡ Err fault
quality_of-err count need ls (BadQuality number) h =
    quality_of-begins count need ls h.0 (h.1 ∷ h.2) h.3 ∙ quality_of-bad count need h.0 h.1 h.2 h.3.short h.4 ∙ ap (λ n. Err (BadQuality n)) (number_is count number h.2 h.5)
quality_of-err count need ls (LongQuality number) h =
    quality_of-begins count need ls h.0 (h.1 ∷ h.2) h.3 ∙ quality_of-over count need h.0 h.1 h.2 h.3.short h.4 h.5 ∙ ap (λ n. Err (LongQuality n)) (number_is count number h.2 h.6)
quality_of-err count need ls (Truncated number) h =
    quality_of-begins count need ls h.0 [] h.1 ∙ quality_of-cut count need h.0 h.1.short ∙ ap (λ n. Err (Truncated n)) (sym h.2)
quality_of-err count need ls (BadStart number) h = absurd h
quality_of-err count need ls (BadBase number) h = absurd h
quality_of-err count need ls TooLong h = absurd h
quality_of-err count need ls ReadFailed h = absurd h
quality_of-err count need ls BrokenGzip h = absurd h
quality_of-err count need ls ShortGzip h = absurd h
quality_of-err count need ls Memory h = absurd h

-- one FASTQ record

body_of-sequence : (count : ℕ) (body : List Line) (answer : Result (List ℕ × List Line) (List Line)) → sequence_of plus_sign [] body ≡ answer
    → body_of count body
    ≡ on_ok (λ front. first_of (Err (Truncated count))
    (λ plus after. on_ok (λ quality. Ok (read_of front.0 (Some quality.0), quality.1)) (quality_of count (length front.0) [] after)) front.1)
    (bad_base count answer)
unfolding body_of
body_of-sequence count body answer e = rw e refl

body_of-plus : (count : ℕ) (body : List Line) (bases : List ℕ) (after : List Line) → HasPlus body bases after
    → body_of count body ≡ on_ok (λ quality. Ok (read_of bases (Some quality.0), quality.1)) (quality_of count (length bases) [] after)
body_of-plus count body bases after h =
    body_of-sequence count body (Ok (bases, h.plus ∷ after)) (sequence_of-ok plus_sign body bases (h.plus ∷ after) h.sequence h.is_plus)

body_of-ok : (count : ℕ) (body : List Line) (read : Read) (rest : List Line) → IsFastqBody body read rest → body_of count body ≡ Ok (read, rest)
body_of-ok count body read rest h =
    body_of-plus count body read.bases h.after h.front
    ∙ ap (on_ok (λ quality. Ok (read_of read.bases (Some quality.0), quality.1))) (quality_of-ok count (length read.bases) h.after h.quals rest h.quality)
    ∙ ap (λ quals. Ok (read_of read.bases quals, rest)) (sym h.has_quals)

body_of-quality : (count : ℕ) (body : List Line) (fault : FastxFault) → FailsBehindPlus count body fault → body_of count body ≡ Err fault
body_of-quality count body fault h =
    body_of-plus count body h.0 h.1 h.2
    ∙ ap (on_ok (λ quality. Ok (read_of h.0 (Some quality.0), quality.1))) (quality_of-err count (length h.0) h.1 fault h.3)

body_of-err : (count : ℕ) (body : List Line) (fault : FastxFault) → FastqBodyFails count body fault → body_of count body ≡ Err fault
body_of-err count body (BadBase number) h =
    body_of-sequence count body (Err h.0) (sequence_of-bad plus_sign body h.0 h.1) ∙ ap (λ n. Err (BadBase n)) (number_is count number h.0 h.2)
body_of-err count body (BadQuality number) h = body_of-quality count body (BadQuality number) h
body_of-err count body (LongQuality number) h = body_of-quality count body (LongQuality number) h
body_of-err count body (Truncated number) h =
    ⊎_elim
    (λ (cut : (bases : List ℕ) × BeginsWithSequence plus_sign body bases [] × (number ≡ count)).
    body_of-sequence count body (Ok (cut.0, [])) (sequence_of-ok plus_sign body cut.0 [] cut.1 refl) ∙ ap (λ n. Err (Truncated n)) (sym cut.2))
    (λ (short : FailsBehindPlus count body (Truncated number)). body_of-quality count body (Truncated number) short)
    h
body_of-err count body (BadStart number) h = absurd h
body_of-err count body TooLong h = absurd h
body_of-err count body ReadFailed h = absurd h
body_of-err count body BrokenGzip h = absurd h
body_of-err count body ShortGzip h = absurd h
body_of-err count body Memory h = absurd h

-- FASTQ

fastq_of-title : (count fuel : ℕ) (ls : List Line) (title : Line) (body : List Line) → skip_blanks ls ≡ title ∷ body → begins_with at_sign title ≡ true
    → fastq_of count (suc fuel) ls ≡ on_ok (λ one. on_ok (λ reads. Ok (one.0 ∷ reads)) (fastq_of count fuel one.1)) (body_of count body)
unfolding fastq_of
fastq_of-title count fuel ls title body e is = rw (e, is) refl

fastq_of-bad_start : (count fuel : ℕ) (ls : List Line) (line : Line) (more : List Line) → skip_blanks ls ≡ line ∷ more → begins_with at_sign line ≡ false
    → fastq_of count (suc fuel) ls ≡ Err (BadStart (count - length more))
unfolding fastq_of
fastq_of-bad_start count fuel ls line more e is = rw (e, is) refl

fastq_of-end : (count fuel : ℕ) (ls : List Line) → skip_blanks ls ≡ [] → fastq_of count fuel ls ≡ Ok []
unfolding fastq_of
fastq_of-end count zero ls e = refl
fastq_of-end count (suc fuel) ls e = rw e refl

some_left : (ls : List Line) (line : Line) (more : List Line) → skip_blanks ls ≡ line ∷ more → length more < length ls
some_left ls line more e = omega (arith, length-skip_blanks ls, ap length e)

length-fastq : (ls : List Line) (read : Read) (rest : List Line) → IsFastqRecord ls read rest → length rest < length ls
length-fastq ls read rest one =
    omega (arith, some_left ls one.title.title one.body one.title.whole, length-body one.body read rest one.record_body)

-- one record and what follows it
fastq_of-record : (count fuel : ℕ) (ls : List Line) (read : Read) (rest : List Line) → IsFastqRecord ls read rest
    → fastq_of count (suc fuel) ls ≡ on_ok (λ reads. Ok (read ∷ reads)) (fastq_of count fuel rest)
fastq_of-record count fuel ls read rest one =
    fastq_of-title count fuel ls one.title.title one.body one.title.whole one.title.is_title
    ∙ ap (on_ok (λ (pair : Read × List Line). on_ok (λ reads. Ok (pair.0 ∷ reads)) (fastq_of count fuel pair.1))) (body_of-ok count one.body read rest one.record_body)

fastq_of-ok : (count : ℕ) (reads : List Read) (fuel : ℕ) (ls rest : List Line) → length ls ≤ fuel → Records IsFastqRecord ls reads rest
    → skip_blanks rest ≡ [] → fastq_of count fuel ls ≡ Ok reads
fastq_of-ok count [] fuel ls rest fits e end = fastq_of-end count fuel ls (ap skip_blanks e ∙ end)
fastq_of-ok count (read ∷ reads) zero ls rest fits h end = absurd (omega (arith, length-fastq ls read h.0 h.1))
fastq_of-ok count (read ∷ reads) (suc fuel) ls rest fits h end =
    fastq_of-record count fuel ls read h.0 h.1
    ∙ ap (on_ok (λ reads. Ok (read ∷ reads))) (fastq_of-ok count reads fuel h.0 rest (omega (arith, length-fastq ls read h.0 h.1)) h.2 end)

fastq_of-body : (count fuel : ℕ) (ls : List Line) (fault : FastxFault) → (body : List Line) × BeginsWithFastqTitle ls body × FastqBodyFails count body fault
    → fastq_of count (suc fuel) ls ≡ Err fault
fastq_of-body count fuel ls fault h =
    fastq_of-title count fuel ls h.1.title h.0 h.1.whole h.1.is_title
    ∙ ap (on_ok (λ (pair : Read × List Line). on_ok (λ reads. Ok (pair.0 ∷ reads)) (fastq_of count fuel pair.1))) (body_of-err count h.0 fault h.2)

fastq_of-fails : (count fuel : ℕ) (ls : List Line) (fault : FastxFault) → length ls ≤ fuel → FastqFails count ls fault → fastq_of count fuel ls ≡ Err fault
fastq_of-fails count zero ls (BadStart number) fits h = absurd (omega (arith, some_left ls h.1.line h.0 h.1.whole))
fastq_of-fails count zero ls (BadBase number) fits h = absurd (omega (arith, some_left ls h.1.title h.0 h.1.whole))
fastq_of-fails count zero ls (BadQuality number) fits h = absurd (omega (arith, some_left ls h.1.title h.0 h.1.whole))
fastq_of-fails count zero ls (LongQuality number) fits h = absurd (omega (arith, some_left ls h.1.title h.0 h.1.whole))
fastq_of-fails count zero ls (Truncated number) fits h = absurd (omega (arith, some_left ls h.1.title h.0 h.1.whole))
fastq_of-fails count zero ls TooLong fits h = absurd (omega (arith, some_left ls h.1.title h.0 h.1.whole))
fastq_of-fails count zero ls ReadFailed fits h = absurd (omega (arith, some_left ls h.1.title h.0 h.1.whole))
fastq_of-fails count zero ls BrokenGzip fits h = absurd (omega (arith, some_left ls h.1.title h.0 h.1.whole))
fastq_of-fails count zero ls ShortGzip fits h = absurd (omega (arith, some_left ls h.1.title h.0 h.1.whole))
fastq_of-fails count zero ls Memory fits h = absurd (omega (arith, some_left ls h.1.title h.0 h.1.whole))
fastq_of-fails count (suc fuel) ls (BadStart number) fits h =
    fastq_of-bad_start count fuel ls h.1.line h.0 h.1.whole h.1.no_title ∙ ap (λ n. Err (BadStart n)) (number_is count number h.0 h.2)
fastq_of-fails count (suc fuel) ls (BadBase number) fits h = fastq_of-body count fuel ls (BadBase number) h
fastq_of-fails count (suc fuel) ls (BadQuality number) fits h = fastq_of-body count fuel ls (BadQuality number) h
fastq_of-fails count (suc fuel) ls (LongQuality number) fits h = fastq_of-body count fuel ls (LongQuality number) h
fastq_of-fails count (suc fuel) ls (Truncated number) fits h = fastq_of-body count fuel ls (Truncated number) h
fastq_of-fails count (suc fuel) ls TooLong fits h = fastq_of-body count fuel ls TooLong h
fastq_of-fails count (suc fuel) ls ReadFailed fits h = fastq_of-body count fuel ls ReadFailed h
fastq_of-fails count (suc fuel) ls BrokenGzip fits h = fastq_of-body count fuel ls BrokenGzip h
fastq_of-fails count (suc fuel) ls ShortGzip fits h = fastq_of-body count fuel ls ShortGzip h
fastq_of-fails count (suc fuel) ls Memory fits h = fastq_of-body count fuel ls Memory h

fastq_of-err : (count fuel : ℕ) (ls : List Line) (fault : FastxFault) → length ls ≤ fuel → FirstFault IsFastqRecord (FastqFails count) ls fault
    → fastq_of count fuel ls ≡ Err fault
fastq_of-err count fuel ls fault fits ([], here, e, fails) =
    ap (fastq_of count fuel) e ∙ fastq_of-fails count fuel here fault (omega (arith, ap length e)) fails
fastq_of-err count zero ls fault fits (read ∷ reads, here, h, fails) = absurd (omega (arith, length-fastq ls read h.0 h.1))
fastq_of-err count (suc fuel) ls fault fits (read ∷ reads, here, h, fails) =
    fastq_of-record count fuel ls read h.0 h.1
    ∙ ap (on_ok (λ reads. Ok (read ∷ reads))) (fastq_of-err count fuel h.0 fault (omega (arith, length-fastq ls read h.0 h.1)) (reads, here, h.2, fails))

-- both

-- the choice of programs returns whatever either side of a choice gives as `answer`
cond-MatchBool : {X : Type 0} (b : Bool) (P Q : Type 0) (p q x : X) → (P → p ≡ x) × (Q → q ≡ x) → MatchBool b P Q → cond b p q ≡ x
cond-MatchBool true P Q p q x sides h = sides.0 h
cond-MatchBool false P Q p q x sides h = sides.1 h

-- the program returns what the definition gives
pub reads_of-answers : (bytes : List ℕ) (answer : Result (List Read) FastxFault) → IsReadsOf bytes answer → reads_of bytes ≡ answer
unfolding reads_of
reads_of-answers bytes (Ok reads) h =
    let ls = text_lines bytes in let count = length (lines bytes) in
    cond-MatchBool (next_begins_with greater_than ls) (Records IsFastaRecord ls reads []) (IsFastq ls reads) (fasta_of count (length ls) ls) (fastq_of count (length ls) ls) (Ok reads)
    (λ h. fasta_of-ok count reads (length ls) ls (omega arith) h, λ h. fastq_of-ok count reads (length ls) ls h.rest (omega arith) h.records h.ends) h
reads_of-answers bytes (Err fault) h =
    let ls = text_lines bytes in let count = length (lines bytes) in
    cond-MatchBool (next_begins_with greater_than ls) (FirstFault IsFastaRecord (FastaFails count) ls fault) (FirstFault IsFastqRecord (FastqFails count) ls fault)
    (fasta_of count (length ls) ls) (fastq_of count (length ls) ls) (Err fault)
    (λ h. fasta_of-err count (length ls) ls fault (omega arith) h, λ h. fastq_of-err count (length ls) ls fault (omega arith) h) h

-- no bytes have two results
pub same_answer : (bytes : List ℕ) (one other : Result (List Read) FastxFault) → IsReadsOf bytes one → IsReadsOf bytes other → one ≡ other
same_answer bytes one other h k = sym (reads_of-answers bytes one h) ∙ reads_of-answers bytes other k

-- the result of the plain program is right
pub reads_of-is : (bytes : List ℕ) → IsReadsOf bytes (reads_of bytes)
reads_of-is bytes = let a = answer bytes in subst (IsReadsOf bytes) (sym (reads_of-answers bytes a.0 a.1)) a.1
