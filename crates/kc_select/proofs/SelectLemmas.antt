-- The records that came, and the text of the selected ones on its way to the sink.
use Rattle.std.proofs.Common.{◌≡◌, ℕ, ◌+◌, ◌<◌, ◌≤◌, List, [], ◌∷◌, ◌++◌, length, sym, ap, ◌∙◌, subst, append_assoc, append-nil}
use Rattle.std.proofs.Common.{arith, refl, true, length-append}
use Rattle.std.proofs.lemmas.List.{length-map}
use Rattle.kc_io.specs.Sources.{Seen}
use Rattle.kc_fastx.specs.Parsing.{most_bytes}
use Rattle.kc_fastx.proofs.ReadingLemmas.{base_count-given, used_within}
use Rattle.std.proofs.Common.{Ok, Err}
use Rattle.std.specs.Prelude.{Result, IfOk, IfErr}
use Rattle.kc_io.specs.Sinks.{Written, HasTaken, HasWritten, HasBegun, Drains, Writes}
use Rattle.kc_io.proofs.SinksLemmas.{begin, taken_both}
use Rattle.kc_fastx.specs.declared.read_faults.FastxFault.{FastxFault}
use Rattle.kc_fastx.specs.Reads.{Read}
use Rattle.kc_fastx.specs.Reading.{Stand, first_stand, MeetsFault, ComesBehind}
use Rattle.kc_fastx.specs.Titles.{Record, record_of, HasGivenRecords, GivesRecords, reads_in}
use Rattle.kc_fastx.proofs.TitlesLemmas.{records_none}
use Rattle.kc_tally.specs.Tally.{TallySeen}
use Rattle.kc_select.specs.declared.select_fault.SelectFault.{SelectFault}
use Rattle.kc_select.specs.declared.select_fault.SelectFault.TheVariants.{Reads, Write}
use Rattle.kc_select.specs.Solid.{SelectionRule}
use Rattle.kc_select.specs.Texts.{text_of_selected, selected_text}
use Rattle.kc_select.specs.declared.selection_counts.SelectionCounts.{SelectionCounts}
use Rattle.kc_select.specs.declared.selection_counts.Selected.{Selected}
use Rattle.kc_select.specs.Counts.{counts_of, no_counts, both_counts}
use Rattle.kc_select.specs.Selecting.{Task, Streams, Meets, Selects, EndsWith}
use Rattle.kc_select.proofs.CountsLemmas.{counts_push, taken_same, AreFew, counts_few}
use Rattle.kc_select.proofs.TextLemmas.{drains_more, drains_both, drains_begins}

pub selected_text_push : (tally : TallySeen) (rule : SelectionRule) (records : List Record) (this : Record)
    → selected_text tally rule (records ++ this ∷ [])
    ≡ selected_text tally rule records ++ text_of_selected tally rule this
selected_text_push tally rule [] this = append-nil (text_of_selected tally rule this)
selected_text_push tally rule (first ∷ records) this =
    ap (λ v. text_of_selected tally rule first ++ v) (selected_text_push tally rule records this)
    ∙ sym (append_assoc (text_of_selected tally rule first) (selected_text tally rule records)
    (text_of_selected tally rule this))

-- These records came and were counted, and the sink took a prefix of the text of the selected ones, which the block
-- follows.
pub record IsSelecting (task : Task) (old now : Streams) (stand : Stand) (block : List ℕ) (counts : SelectionCounts)
    : Type 0 where
  pub records : List Record
  pub given : HasGivenRecords old.source now.source task.limit records stand
  pub counted : counts ≡ counts_of task.tally task.rule (reads_in records)
  pub fewer : length records ≤ stand.used
  pub drained : Drains old.sink now.sink (selected_text task.tally task.rule records) block

pub selecting_none : (task : Task) (start : Streams) (stand : Stand) (block : List ℕ) (counts : SelectionCounts)
    → stand ≡ first_stand task.limit → block ≡ [] → counts ≡ no_counts
    → IsSelecting task start start stand block counts
selecting_none task start stand block counts first empty none = record {
  records = [];
  counted = none;
  fewer = omega arith;
  given = subst (λ v. HasGivenRecords start.source start.source task.limit [] v) (sym first)
      (records_none start.source task.limit);
  drained = subst (λ v. Drains start.sink start.sink [] v) (sym empty)
      (let none = begin start.sink [] in
      record { front = none.front; taken = none.taken; split = none.whole });
}

-- ---- one more record, or the end

module _ {task : Task} {old now : Streams} {stand : Stand} {block : List ℕ} {counts : SelectionCounts}
    (s : IsSelecting task old now stand block counts) where
  text_more : (this : Record) → selected_text task.tally task.rule (s.records ++ this ∷ [])
      ≡ selected_text task.tally task.rule s.records ++ text_of_selected task.tally task.rule this
  text_more this = selected_text_push task.tally task.rule s.records this

  -- it was appended to the block, if it is selected
  pub selecting_more : (new : Streams) (next : Stand) (left : List ℕ) (title : List ℕ) (read : Read)
      (judged sum : SelectionCounts)
      → HasGivenRecords old.source new.source task.limit (s.records ++ record_of title read ∷ []) next
      → Drains now.sink new.sink (block ++ text_of_selected task.tally task.rule (record_of title read)) left
      → judged ≡ counts_of task.tally task.rule (read ∷ []) → sum ≡ both_counts counts judged
      → stand.used < next.used → IsSelecting task old new next left sum
  selecting_more new next left title read judged sum given d one is more =
      let this = record_of title read in
      record {
        records = s.records ++ this ∷ [];
        given = given;
        counted = counts_push task.tally task.rule s.records this counts judged sum s.counted one is;
        fewer = let few = s.fewer in omega (arith, few, more, length-append s.records (this ∷ []));
        drained = subst (λ v. Drains old.sink new.sink v left) (sym (text_more this))
            (drains_both (drains_more s.drained (text_of_selected task.tally task.rule this)) d);
      }

  -- and what is counted with it is less than 2^64
  pub counts_fit : (source : Seen) (next : Stand) (title : List ℕ) (read : Read) (judged : SelectionCounts)
      → 1 ≤ task.tally.k → task.limit ≤ most_bytes
      → HasGivenRecords old.source source task.limit (s.records ++ record_of title read ∷ []) next
      → judged ≡ counts_of task.tally task.rule (read ∷ []) → stand.used < next.used
      → AreFew (both_counts counts judged)
  counts_fit source next title read judged some limit given one more =
      let this = record_of title read in
      let reads = reads_in (s.records ++ this ∷ []) in
      let bases = base_count-given old.source source task.limit reads next given.given in
      let used = used_within old.source source task.limit reads next given.given in
      let few = s.fewer in
      subst AreFew (sym (counts_push task.tally task.rule s.records this counts judged (both_counts counts judged) s.counted one refl))
      (counts_few task.tally task.rule some reads (omega (arith, bases, limit))
      (omega (
        arith,
        used,
        limit,
        few,
        more,
        length-map (s.records ++ this ∷ []) (λ (r : Record). r.read),
        length-append s.records (this ∷ []),
      )))

  -- the writer failed meanwhile
  pub fails_more : (new : Streams) (next : Stand) (title : List ℕ) (read : Read)
      → HasGivenRecords old.source new.source task.limit (s.records ++ record_of title read ∷ []) next
      → HasBegun now.sink new.sink (block ++ text_of_selected task.tally task.rule (record_of title read))
      → Selects task old new (Err Write)
  fails_more new next title read given h =
      let this = record_of title read in (
        s.records ++ this ∷ [],
        (new.source, next, given),
        subst (λ v. HasBegun old.sink new.sink v) (sym (text_more this))
            (drains_begins (drains_more s.drained (text_of_selected task.tally task.rule this)) h),
      )

  written : (sink : Written) → HasWritten now.sink sink block
      → HasWritten old.sink sink (selected_text task.tally task.rule s.records)
  written sink w = record {
    taken = subst (λ v. HasTaken old.sink sink v) (sym s.drained.split)
        (taken_both old.sink now.sink sink s.drained.front block s.drained.taken w.taken);
    flushed = w.flushed;
  }

  -- all records came, and the contents of the block are written
  pub selects_all : (new : Streams) (next : Stand) (bytes : ℕ)
      → HasGivenRecords old.source new.source task.limit s.records next → next.ended ≡ true
      → GivesRecords old.source new.source task.limit s.records
      → HasWritten now.sink new.sink block → bytes ≡ next.used + length next.unread.bytes
      → Selects task old new (Ok (record { bytes = bytes; counts = counts }))
  selects_all new next bytes given end gives w all = (
    s.records,
    gives,
    written new.sink w,
    alike (all ∙ taken_same old.source new.source task.limit s.records next given end gives) s.counted,
  )
    where
      alike : {n m : ℕ} {one other : SelectionCounts} → n ≡ m → one ≡ other
          → (let this : Selected = record { bytes = n; counts = one } in this) ≡ record { bytes = m; counts = other }
      alike e f = cc

  -- the writer failed then
  pub fails_last : (new : Streams) → HasBegun now.sink new.sink block → Selects task old new (Err Write)
  fails_last new h = (s.records, (now.source, stand, s.given), drains_begins s.drained h)

  -- either of both is returned
  pub selects_ended : (new : Streams) (next : Stand) (bytes : ℕ) (answer : Result Selected SelectFault)
      → HasGivenRecords old.source new.source task.limit s.records next → next.ended ≡ true
      → GivesRecords old.source new.source task.limit s.records
      → bytes ≡ next.used + length next.unread.bytes → Writes now.sink new.sink answer block
      → IfOk answer (λ selected. selected ≡ record { bytes = bytes; counts = counts })
      → IfErr answer (λ fault. fault ≡ Write) → Selects task old new answer
  selects_ended new next bytes (Ok selected) given end gives all w told fault =
      subst (λ v. Selects task old new (Ok v)) (sym told) (selects_all new next bytes given end gives w all)
  selects_ended new next bytes (Err met) given end gives all h told fault =
      subst (λ v. Selects task old new (Err v)) (sym fault) (fails_last new h)

  -- the reads met a fault, and the contents of the block had to be written
  pub selects_before : (new : Streams) (next : Stand) (fault : FastxFault) (answer : SelectFault)
      → MeetsFault old.source new.source task.limit next fault
      → ComesBehind (reads_in s.records) next fault
      → EndsWith now.sink new.sink block fault answer → Selects task old new (Err answer)
  selects_before new next fault (Reads met) meets comes ends = (
    s.records,
    (now.source, stand, s.given),
    subst (λ v. Meets task old.source new.source s.records v) (sym ends.0) (next, meets, comes),
    written new.sink ends.1,
  )
  selects_before new next fault Write meets comes ends = fails_last new ends
