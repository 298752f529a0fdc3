-- The result of a reader of one format is what the definition gives for the bytes.
use Rattle.std.proofs.Common.{◌≡◌, ℕ, Bool, true, false, List, length, MatchBool, subst, inl}
use Rattle.kc_fastx.specs.declared.read_faults.FastxFault.{FastxFault}
use Rattle.kc_fastx.specs.Lines.{Cursor, lines, line_count, next_begins_with}
use Rattle.kc_fastx.specs.Records.{FirstFault}
use Rattle.kc_fastx.specs.Fastq.{IsFastqRecord, FastqFails}
use Rattle.kc_io.specs.Sources.{Seen}
use Rattle.kc_gzip.specs.Intakes.{TakingFails}
use Rattle.kc_gzip.specs.declared.unpacked_intakes.TakeFault.{TakeFault}
use Rattle.kc_gzip.specs.declared.unpacked_intakes.TakeFault.TheVariants as taking
use Rattle.kc_fastx.specs.Parsing.{text_lines, HasFault, RefusesFor}
use Rattle.kc_fastx.specs.Faults.{taking_fault}
use Rattle.kc_fastx.specs.Fasta.{IsFastaRecord, FastaFails, greater_than}

pub at_true : (b : Bool) (P Q : Type 0) → b ≡ true → P → MatchBool b P Q
at_true true P Q e p = p
at_true false P Q e p = cc

pub at_false : (b : Bool) (P Q : Type 0) → b ≡ false → Q → MatchBool b P Q
at_false true P Q e q = cc
at_false false P Q e q = q

-- if the first line is a FASTA title, a fault of FASTA is that of the bytes
pub fault-fasta : (bytes : List ℕ) (start : Cursor) → start.left ≡ text_lines bytes → line_count start ≡ length (lines bytes)
    → next_begins_with greater_than start.left ≡ true → (fault : FastxFault) → FirstFault IsFastaRecord (FastaFails (line_count start)) start.left fault → HasFault bytes fault
fault-fasta bytes start e counted is fault h =
    at_true (next_begins_with greater_than (text_lines bytes)) _ _ (subst (λ ls. next_begins_with greater_than ls ≡ true) e is)
    (subst (λ ls. FirstFault IsFastaRecord (FastaFails (length (lines bytes))) ls fault) e
    (subst (λ count. FirstFault IsFastaRecord (FastaFails count) start.left fault) counted h))

-- if the first line is no FASTA title, a fault of FASTQ is that of the bytes
pub fault-fastq : (bytes : List ℕ) (start : Cursor) → start.left ≡ text_lines bytes → line_count start ≡ length (lines bytes)
    → next_begins_with greater_than start.left ≡ false → (fault : FastxFault) → FirstFault IsFastqRecord (FastqFails (line_count start)) start.left fault → HasFault bytes fault
fault-fastq bytes start e counted is fault h =
    at_false (next_begins_with greater_than (text_lines bytes)) _ _ (subst (λ ls. next_begins_with greater_than ls ≡ false) e is)
    (subst (λ ls. FirstFault IsFastqRecord (FastqFails (length (lines bytes))) ls fault) e
    (subst (λ count. FirstFault IsFastqRecord (FastqFails count) start.left fault) counted h))

-- a source whose bytes could not be taken gave no reads for that reason
pub RefusesFor-taking : (old new : Seen) (limit : ℕ) (why : TakeFault) → TakingFails old new limit why → RefusesFor old new limit (taking_fault why)
RefusesFor-taking old new limit taking.TooLong h = h
RefusesFor-taking old new limit taking.Read h = h
RefusesFor-taking old new limit taking.Broken h = h
RefusesFor-taking old new limit taking.Short h = h
RefusesFor-taking old new limit taking.Memory h = inl h
