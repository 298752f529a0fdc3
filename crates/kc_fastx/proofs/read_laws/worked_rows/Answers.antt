use Rattle.std.proofs.Common.{◌≡◌, List, [], ◌∷◌, ℕ, Some, None, Ok, Err, Result, refl, subst}
use Rattle.std.specs.Prelude.{codes}
use Rattle.kc_fastx.specs.declared.read_faults.FastxFault.TheVariants.{BadStart, BadBase, BadQuality, LongQuality, Truncated}
use Rattle.kc_fastx.specs.declared.read_faults.FastxFault.{FastxFault}
use Rattle.kc_fastx.specs.Reads.{Read, read_of}
use Rattle.kc_fastx.specs.Parsing.{IsReadsOf}
use Rattle.kc_fastx.proofs.LawsPlain.{reads_of, fasta_of, fastq_of, body_of, sequence_of, quality_of}
use Rattle.kc_fastx.proofs.LawsPlain.{reads_of-is}
use Rattle.kc_fastx.proofs.read_laws.worked_rows.Goals as goal

row : (bytes : List ℕ) (answer : Result (List Read) FastxFault) → reads_of bytes ≡ answer → IsReadsOf bytes answer
row bytes answer e = subst (IsReadsOf bytes) e (reads_of-is bytes)

pub returns : goal.returns
unfolding reads_of fasta_of fastq_of body_of sequence_of quality_of
returns c = record {
  nothing = row (codes "") (Ok []) refl;
  fasta = row (codes ">a\nAC\nGT\r\n>b\n\n>c\nac") (Ok (read_of (codes "ACGT") None ∷ read_of (codes "") None ∷ read_of (codes "ac") None ∷ [])) refl;
  bad_fasta_base = row (codes ">r\nA@C\n") (Err (BadBase 2)) refl;
  bad_first_line = row (codes "ACGT\n") (Err (BadStart 1)) refl;
  wrapped = row (codes "@q\nAC\nGT\n+q\n@I\nII\n") (Ok (read_of (codes "ACGT") (Some (codes "@III")) ∷ [])) refl;
  empty_read = row (codes "@q\n\n+\n\n@r\nAC\n+\nII\n") (Ok (read_of (codes "") (Some (codes "")) ∷ read_of (codes "AC") (Some (codes "II")) ∷ [])) refl;
  blank_in_quality = row (codes "@q\nAC\n+\nI\n\nI\n") (Ok (read_of (codes "AC") (Some (codes "II")) ∷ [])) refl;
  bad_start = row (codes "@q\nAC\n+\nII\nxx\n") (Err (BadStart 5)) refl;
  bad_base = row (codes "@q\nAC\n@x\n+\nIIII\n") (Err (BadBase 3)) refl;
  bad_quality = row (codes "@q\nAC\n+\nI \n") (Err (BadQuality 4)) refl;
  long_quality = row (codes "@q\nAC\n+\nIII\n") (Err (LongQuality 4)) refl;
  truncated = row (codes "@q\nACGT\n+\nII") (Err (Truncated 4)) refl;
  truncated_behind_title = row (codes "@q\nAC\n+\n#I\n@r\n") (Err (Truncated 5)) refl;
}
