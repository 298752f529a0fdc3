-- What a call takes of its source, and what it keeps.
use Rattle.std.proofs.Common.{◌≡◌, ℕ, ◌+◌, ◌<◌, ◌≤◌, ◌==◌, Bool, true, false, List, [], ◌++◌, length, take, get_or}
use Rattle.std.proofs.Common.{refl, sym, ap, ◌∙◌, subst, arith, append_assoc, append-nil, inl, inr, ◌⊎◌}
use Rattle.std.proofs.Common.{Option, Some, None, Result, Ok, Err, IfOk, IfErr, MatchBool}
use Rattle.std.proofs.lemmas.List.{length-take-le}
use Rattle.kc_fastx.specs.declared.read_faults.FastxFault.{FastxFault}
use Rattle.kc_fastx.specs.declared.read_faults.FastxFault.TheVariants.{BadStart, BadBase, BadQuality, LongQuality}
use Rattle.kc_fastx.specs.declared.read_faults.FastxFault.TheVariants.{Truncated, TooLong, Read as ReadFailed, Memory}
use Rattle.kc_fastx.specs.declared.read_faults.FastxFault.TheVariants.{BrokenGzip, ShortGzip}
use Rattle.kc_fastx.specs.Reads.{Read}
use Rattle.kc_fastx.specs.Lines.{Line, HasLongestWhole, line_feed, next_begins_with, skip_blanks}
use Rattle.kc_fastx.specs.Faults.{UnlessMemory}
use Rattle.kc_fastx.specs.Reading.{Stand, IsNext, NextFails, IsUnsure, EndInRecord, HoldNoRecord, block_size}
use Rattle.kc_fastx.specs.Reading.{AtMostDoubles, UsesFront, CameInSteps, TakesFew}
use Rattle.kc_fastx.specs.Reading.{is_fasta_next, BeginsTitle, BeginsRecord}
use Rattle.kc_fastx.specs.Fasta.{IsFastaRecord, greater_than}
use Rattle.kc_fastx.specs.Fastq.{IsFastqRecord, at_sign}
use Rattle.kc_fastx.proofs.ReadingLemmas.{with_failed}
use Rattle.kc_fastx.proofs.LinesLemmas.{is_line_feed}
use Rattle.kc_fastx.proofs.ClosedLemmas.{whole_found}

-- ---- the whole lines

-- there is no line feed from this place on
abbrev pub NoneFrom : List ℕ → ℕ → Type 0
NoneFrom bytes from = (i : ℕ) → from ≤ i → i < length bytes → ¬ ((get_or bytes i 0 == line_feed) ≡ true)

pub longest_found : (bytes : List ℕ) (k : ℕ) → k < length bytes → is_line_feed (get_or bytes k 0) ≡ true
    → NoneFrom bytes (k + 1) → HasLongestWhole bytes (take (k + 1) bytes)
longest_found bytes k lt is after = record {
  has_whole = whole_found false bytes k refl lt is;
  last = λ i from below e. after i
      (omega (arith, from, length-take-le (k + 1) bytes (omega (arith, lt)))) below (ap (λ x. x == line_feed) e);
}

pub longest_none : (bytes : List ℕ) → NoneFrom bytes 0 → HasLongestWhole bytes []
longest_none bytes after = record {
  has_whole = record { tail = bytes; split = refl; closed = refl };
  last = λ i from below e. after i from below (ap (λ x. x == line_feed) e);
}

-- ---- a result that is not certain

pub unsure_ends : (is_fastq : Bool) (count : ℕ) (ls left : List Line) (next : Result (Option (Read × Bool)) FastxFault)
    → IfOk next (λ n. IsNext is_fastq ls n left) → IfErr next (UnlessMemory (NextFails is_fastq count ls))
    → IsUnsure next left → EndInRecord is_fastq ls
unsure_ends is_fastq count ls left (Ok (Some next)) ok err none =
    inl (Some next, subst (λ v. IsNext is_fastq ls (Some next) v) none ok)
unsure_ends is_fastq count ls left (Ok None) ok err none = inl (None, ok)
unsure_ends is_fastq count ls left (Err (Truncated line)) ok err none = inr (count, line, err)
unsure_ends is_fastq count ls left (Err (BadStart line)) ok err none = absurd none
unsure_ends is_fastq count ls left (Err (BadBase line)) ok err none = absurd none
unsure_ends is_fastq count ls left (Err (BadQuality line)) ok err none = absurd none
unsure_ends is_fastq count ls left (Err (LongQuality line)) ok err none = absurd none
unsure_ends is_fastq count ls left (Err TooLong) ok err none = absurd none
unsure_ends is_fastq count ls left (Err ReadFailed) ok err none = absurd none
unsure_ends is_fastq count ls left (Err Memory) ok err none = absurd none
unsure_ends is_fastq count ls left (Err BrokenGzip) ok err none = absurd none
unsure_ends is_fastq count ls left (Err ShortGzip) ok err none = absurd none

-- ---- a refusal of memory

-- a refusal has one fault
pub err_is : {A : Type 0} (answer : Result A FastxFault) (one other : FastxFault) → answer ≡ Err one
    → answer ≡ Err other → one ≡ other
err_is answer one other is_one is_other =
    subst (λ v. IfErr v (λ fault. one ≡ fault)) (sym is_one ∙ is_other) refl

pub fasta_next : (is_fastq : Bool) (ls : List Line) → is_fastq ≡ false → next_begins_with greater_than ls ≡ true
    → is_fasta_next is_fastq ls ≡ true
fasta_next is_fastq ls e begins = rw (e, begins) refl

title_either : (fasta : Bool) (ls : List Line) (next : Read × Bool) (rest : List Line) → skip_blanks ls ≡ ls
    → MatchBool fasta (IsFastaRecord ls next.0 rest × (next.1 ≡ false)) (IsFastqRecord ls next.0 rest × (next.1 ≡ true))
    → (fasta ≡ true) ⊎ (next_begins_with at_sign ls ≡ true)
title_either true ls next rest blank n = inl refl
title_either false ls next rest blank n =
    inr (ap (next_begins_with at_sign) (sym blank ∙ n.0.title.whole) ∙ n.0.title.is_title)

-- a record begins where one was read
pub next_title : (is_fastq : Bool) (ls : List Line) (next : Read × Bool) (rest : List Line) → skip_blanks ls ≡ ls
    → IsNext is_fastq ls (Some next) rest → BeginsTitle is_fastq ls
next_title is_fastq ls next rest blank n = title_either (is_fasta_next is_fastq ls) ls next rest blank n

-- what is kept of a fault changes no bytes
pub begins_kept : {stand : Stand} (failed : Option FastxFault) → BeginsRecord stand
    → BeginsRecord (with_failed stand failed)
begins_kept failed b = record { whole = b.whole; has_whole = b.has_whole; title = b.title }

-- ---- what was used

pub uses_none : (stand : Stand) → UsesFront stand stand
uses_none stand = record { front = []; split = refl; counted = omega arith }

-- ---- what was taken

-- bytes were taken after those that were there, and none was used yet
pub record Taking (old now : Stand) : Type 0 where
  pub taken : List ℕ
  pub behind : now.unread.bytes ≡ old.unread.bytes ++ taken
  pub used : now.used ≡ old.used
  pub is_fastq : now.is_fastq ≡ old.is_fastq
  pub few : (taken ≡ []) ⊎ CameInSteps old taken

pub taking_none : (stand : Stand) → Taking stand stand
taking_none stand = record {
  taken = [];
  behind = sym (append-nil stand.unread.bytes);
  used = refl;
  is_fastq = refl;
  few = inl refl;
}

-- if bytes were taken, the front of those that are there may be used
pub takes_few : {old mid new : Stand} → Taking old mid → UsesFront mid new → TakesFew old new
takes_few t u = record {
  taken = t.taken;
  used = u.front;
  behind = sym t.behind ∙ u.split;
  counted = u.counted ∙ ap (λ n. n + length u.front) t.used;
  few = t.few;
}

pub takes_none : (stand : Stand) → TakesFew stand stand
takes_none stand = takes_few (taking_none stand) (uses_none stand)

-- what is kept of a fault changes no bytes
pub few_kept : {old new : Stand} (failed : Option FastxFault) → TakesFew old new → TakesFew old (with_failed new failed)
few_kept failed t =
    record { taken = t.taken; used = t.used; behind = t.behind; counted = t.counted; few = t.few }

module _ {old mid new : Stand} (t : Taking old mid) (none : HoldNoRecord mid.is_fastq mid.unread.bytes)
    (more : AtMostDoubles mid new) where
  all_behind : new.unread.bytes ≡ old.unread.bytes ++ (t.taken ++ more.more)
  all_behind = more.behind ∙ ap (λ v. v ++ more.more) t.behind ∙ append_assoc old.unread.bytes t.taken more.more

  in_steps : CameInSteps old (t.taken ++ more.more)
  in_steps = record {
    first = t.taken;
    last = more.more;
    split = refl;
    no_record = subst (λ v. HoldNoRecord old.is_fastq v) t.behind
        (subst (λ q. HoldNoRecord q mid.unread.bytes) t.is_fastq none);
    few = subst (λ v. length more.more ≤ length v + block_size) t.behind more.few;
  }

  pub taking_more : new.is_fastq ≡ mid.is_fastq → Taking old new
  taking_more same = record {
    taken = t.taken ++ more.more;
    behind = all_behind;
    used = more.used ∙ t.used;
    is_fastq = same ∙ t.is_fastq;
    few = inr in_steps;
  }

  -- more were taken, and then the taking failed
  pub taken_in_steps : TakesFew old new
  taken_in_steps = record {
    taken = t.taken ++ more.more;
    used = [];
    behind = sym all_behind;
    counted = let same = more.used ∙ t.used in omega (arith, same);
    few = inr in_steps;
  }
