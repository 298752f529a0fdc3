-- Cleaning the reads of source after source.
use Rattle.std.proofs.Common.{◌≡◌, ◌≤◌, ◌<◌, ◌+◌, ◌-◌, ◌++◌, ℕ, List, [], ◌∷◌, length, get_or, set, refl, sym, ◌∙◌, ap, subst}
use Rattle.std.proofs.Common.{arith, append_assoc, append-nil, length-append}
use Rattle.std.specs.Prelude.{sum_by}
use Rattle.std.proofs.lemmas.List.{map-append}
use Rattle.std.proofs.lemmas.List.Sums.{sum_by-cons}
use Rattle.kc_io.specs.Sources.{Seen}
use Rattle.kc_fastx.specs.Parsing.{most_bytes}
use Rattle.kc_fastx.specs.Reading.{Stand, HasGiven, first_stand}
use Rattle.kc_fastx.specs.Reads.{Read, base_count}
use Rattle.kc_fastx.proofs.ReadingLemmas.{base_count-gives, given_none}
use Rattle.kc_word.specs.Cutting.{cleaned}
use Rattle.kc_word.specs.OpenCutting.{OpenCutting, HasTaken}
use Rattle.kc_kmer.specs.Rule.{CountingRule}
use Rattle.kc_word.proofs.Cleaning.{length-cleaned}
use Rattle.kc_tool.specs.GivenSources.{ReadsAt}
use Rattle.kc_command.specs.Settings.{Settings}
use Rattle.kc_tool.specs.ReadAhead.{TakesReads}
use Rattle.kc_tool.specs.Tallies.{CutsNext, CutsSources, FailsAt, RefusesSource, RefusesSources, pieces_of}
use Rattle.kc_tool.specs.declared.counted_sources.ReadsInCutting.{ReadsInCutting}
use Rattle.kc_tool.specs.declared.tool_faults.ToolFault.{ToolFault}
use Rattle.kc_tool.specs.declared.tool_faults.ToolFault.TheVariants.{Fastx, BadHeader, BadRow, BadEnd, TableTooLong}
use Rattle.kc_tool.specs.declared.tool_faults.ToolFault.TheVariants.{TableRead, Memory, BadOption, BadWord, Write, Run}
use Rattle.kc_tool.specs.declared.tool_faults.ToolFault.TheVariants.{OpenFailed, Unlike, TooLarge, BrokenTable, ShortTable, Unpaired}
use Rattle.kc_tool.proofs.InputsLemmas.{ReadSoFar, begun, ended, one_more, refused}

pieces_of-append : (rule : CountingRule) (reads more : List Read)
    → pieces_of rule (reads ++ more) ≡ pieces_of rule reads ++ pieces_of rule more
pieces_of-append rule reads more = map-append (λ read. cleaned rule read) reads more

letters : (rule : CountingRule) (reads : List Read)
    → sum_by (λ piece. length piece) (pieces_of rule reads) ≡ base_count reads
letters rule [] = refl
letters rule (read ∷ reads) =
    let pieces = sum_by-cons (λ piece. length piece) (cleaned rule read) (pieces_of rule reads) in
    let bases = sum_by-cons (λ (read : Read). length read.bases) read reads in
    pieces ∙ omega (arith, length-cleaned rule read, letters rule reads, bases)

-- No source was read yet: nothing was cut, by this rule, and all bytes are left.
pub record CutsNone (rule : CountingRule) (batch : ℕ) (cut : ReadsInCutting) : Type 0 where
  pub length_of_words : cut.cutting.k ≡ rule.k
  pub size : cut.cutting.size ≡ batch
  pub none : HasTaken cut.cutting []
  pub left : cut.left ≡ most_bytes
  pub sources : cut.sources ≡ 0
  pub reads : cut.reads ≡ 0

-- The sources before this one were read, and their reads cleaned and cut.
pub record CutSoFar (old new : List Seen) (rule : CountingRule) (batch : ℕ) (cut : ReadsInCutting) : Type 0 where
  pub reads : List Read
  pub so_far : ReadSoFar old new reads cut.left cut.sources
  pub length_of_words : cut.cutting.k ≡ rule.k
  pub size : cut.cutting.size ≡ batch
  pub taken : HasTaken cut.cutting (pieces_of rule reads)
  pub counted : cut.reads ≡ length reads
  pub few : cut.reads + cut.left ≤ most_bytes

pub nothing_cut : (rule : CountingRule) (batch : ℕ) {cutting : OpenCutting} → cutting.k ≡ rule.k → cutting.size ≡ batch
    → HasTaken cutting [] → CutsNone rule batch (record { cutting = cutting; left = most_bytes; sources = 0; reads = 0 })
nothing_cut rule batch long large none = record {
  length_of_words = long;
  size = large;
  none = none;
  left = refl;
  sources = refl;
  reads = refl;
}

pub cutting_begun : (sources : List Seen) {rule : CountingRule} {batch : ℕ} {cut : ReadsInCutting}
    → CutsNone rule batch cut → CutSoFar sources sources rule batch cut
cutting_begun sources {cut = cut} is = record {
  reads = [];
  so_far = subst (λ n. ReadSoFar sources sources [] n cut.sources) (sym is.left)
      (subst (λ n. ReadSoFar sources sources [] most_bytes n) (sym is.sources) (begun sources));
  length_of_words = is.length_of_words;
  size = is.size;
  taken = is.none;
  counted = is.reads;
  few = omega (arith, is.left, is.reads);
}

-- The next source's pieces were cut.
pub one_more_cut : {old new : List Seen} {rule : CountingRule} {batch : ℕ} (d later : Seen) {cut after : ReadsInCutting}
    → CutSoFar old new rule batch cut → cut.sources < length new
    → CutsNext (get_or new cut.sources d) later rule cut after → CutSoFar old (set new cut.sources later) rule batch after
one_more_cut {old = old} {new = new} {rule = rule} d later {cut} {after} r within next =
    let gives = next.pieces in
    let more = gives.reads in
    let few = base_count-gives (get_or new cut.sources d) later cut.left more next.bytes gives.given in
    let read = one_more d later more next.bytes r.so_far within gives.given few in
    let later_all = set new cut.sources later in
    record {
      reads = r.reads ++ more;
      so_far = subst (λ n. ReadSoFar old later_all (r.reads ++ more) n after.sources) (sym next.left)
          (subst (λ n. ReadSoFar old later_all (r.reads ++ more) (cut.left - next.bytes) n) (sym next.sources) read);
      length_of_words = gives.length_of_words ∙ r.length_of_words;
      size = gives.size ∙ r.size;
      taken = subst (HasTaken after.cutting) (sym (pieces_of-append rule r.reads more))
          (gives.behind (pieces_of rule r.reads) r.taken);
      counted = omega (arith, next.reads, r.counted, gives.counted, length-append r.reads more);
      few = omega (arith, next.reads, next.left, r.few, gives.few, gives.given.counted, gives.given.taken.within);
    }

-- The next source was refused.
pub refused_cleaning : {old new : List Seen} {rule : CountingRule} {batch : ℕ} (d later : Seen) {cut : ReadsInCutting}
    (fault : ToolFault) → CutSoFar old new rule batch cut → cut.sources < length new
    → RefusesSource (get_or new cut.sources d) later (cut.sources + 1) cut.left fault
    → (settings : Settings) → RefusesSources settings old (set new cut.sources later) fault
refused_cleaning {old = old} {new = new} d later {cut} (Fastx at fault) r within h settings =
    subst (λ v. FailsAt old (set new cut.sources later) v fault) (sym h.0) (refused d later fault r.so_far within h.1)
refused_cleaning d later Memory r within h settings = tt
refused_cleaning d later (Run fault) r within h settings = absurd h
refused_cleaning d later BadHeader r within h settings = absurd h
refused_cleaning d later (BadRow line) r within h settings = absurd h
refused_cleaning d later BadEnd r within h settings = absurd h
refused_cleaning d later TableTooLong r within h settings = absurd h
refused_cleaning d later TableRead r within h settings = absurd h
refused_cleaning d later (BadOption name) r within h settings = absurd h
refused_cleaning d later (BadWord at) r within h settings = absurd h
refused_cleaning d later Write r within h settings = absurd h
refused_cleaning d later (OpenFailed name) r within h settings = absurd h
refused_cleaning d later Unlike r within h settings = absurd h
refused_cleaning d later TooLarge r within h settings = absurd h
refused_cleaning d later (BrokenTable place) r within h settings = absurd h
refused_cleaning d later (ShortTable place) r within h settings = absurd h
refused_cleaning d later (Unpaired number) r within h settings = absurd h

-- The same, if it is read at its index.
module _ {old now : List Seen} {rule : CountingRule} {batch i : ℕ} {cut : ReadsInCutting} (counted : cut.sources ≡ i)
    (within : i < length now) (r : CutSoFar old now rule batch cut) where
  below : cut.sources < length now
  below = rw counted within

  pub one_read : {next : List Seen} {after : ReadsInCutting} → ReadsAt i now next (λ before later. CutsNext before later rule cut after)
      → CutSoFar old next rule batch after
  one_read {after = after} at =
      let here = ap (λ n. get_or now n at.here) counted ∙ at.was in
      let all = ap (λ n. set now n at.later) counted ∙ sym at.are in
      subst (λ v. CutSoFar old v rule batch after) all
      (one_more_cut at.here at.later r below (subst (λ v. CutsNext v at.later rule cut after) (sym here) at.reads))

  pub read_refused : {next : List Seen} (fault : ToolFault)
      → ReadsAt i now next (λ before later. RefusesSource before later (cut.sources + 1) cut.left fault)
      → (settings : Settings) → RefusesSources settings old next fault
  read_refused fault at settings =
      let here = ap (λ n. get_or now n at.here) counted ∙ at.was in
      let all = ap (λ n. set now n at.later) counted ∙ sym at.are in
      subst (λ v. RefusesSources settings old v fault) all
      (refused_cleaning at.here at.later fault r below (subst (λ v. RefusesSource v at.later (cut.sources + 1) cut.left fault) (sym here) at.reads) settings)

-- All sources were read.
pub all_cut : {old new : List Seen} {rule : CountingRule} {batch : ℕ} {cut : ReadsInCutting}
    → CutSoFar old new rule batch cut → length new ≤ cut.sources → CutsSources old new rule batch cut.cutting cut.reads
all_cut {old} {new} {rule = rule} {cut = cut} r all = record {
  reads = r.reads;
  are = ended old new r.reads cut.left cut.sources r.so_far all;
  cut = record {
    length_of_words = r.length_of_words;
    size = r.size;
    taken = r.taken;
    few = omega (arith, letters rule r.reads, r.so_far.bases);
  };
  counted = r.counted;
  few = omega (arith, r.few);
}

-- A source was read so far: the pieces of its reads were cut after those that were cut before, except for those of the
-- last reads, which wait.
pub record PiecesSoFar (start now : Seen) (limit : ℕ) (rule : CountingRule) (before cutting : OpenCutting)
    (stand : Stand) (count : ℕ) (waiting : List Read) : Type 0 where
  pub reads : List Read
  pub given : HasGiven start now limit (reads ++ waiting) stand
  pub counted : count ≡ length (reads ++ waiting)
  pub few : count ≤ stand.used
  pub cut : TakesReads rule reads before cutting

pub no_piece : (start : Seen) (limit : ℕ) (rule : CountingRule) (before : OpenCutting)
    → PiecesSoFar start start limit rule before before (first_stand limit) 0 []
no_piece start limit rule before = record {
  reads = [];
  given = given_none start limit;
  counted = refl;
  few = omega arith;
  cut = record {
    length_of_words = refl;
    size = refl;
    behind = λ pieces taken. subst (HasTaken before) (sym (append-nil pieces)) taken;
  };
}

-- More reads were cut after others.
pub takes_both : {rule : CountingRule} (reads more : List Read) {before cutting after : OpenCutting}
    → TakesReads rule reads before cutting → TakesReads rule more cutting after
    → TakesReads rule (reads ++ more) before after
takes_both {rule} reads more {after = after} first second = record {
  length_of_words = second.length_of_words ∙ first.length_of_words;
  size = second.size ∙ first.size;
  behind = λ pieces taken. subst (HasTaken after) (append_assoc pieces (pieces_of rule reads) (pieces_of rule more)
      ∙ ap (λ v. pieces ++ v) (sym (pieces_of-append rule reads more)))
      (second.behind (pieces ++ pieces_of rule reads) (first.behind pieces taken));
}

-- The reads that waited were cut, and others came.
pub more_pieces : {start old now : Seen} {limit : ℕ} {rule : CountingRule} {before cutting after : OpenCutting}
    {stand next : Stand} {count : ℕ} {waiting : List Read} (more : List Read)
    → (r : PiecesSoFar start old limit rule before cutting stand count waiting)
    → TakesReads rule waiting cutting after → HasGiven start now limit ((r.reads ++ waiting) ++ more) next
    → stand.used + length more ≤ next.used
    → PiecesSoFar start now limit rule before after next (count + length more) more
more_pieces {waiting = waiting} more r takes given used = record {
  reads = r.reads ++ waiting;
  given = given;
  counted = omega (arith, r.counted, length-append (r.reads ++ waiting) more);
  few = omega (arith, r.few, used);
  cut = takes_both r.reads waiting r.cut takes;
}
