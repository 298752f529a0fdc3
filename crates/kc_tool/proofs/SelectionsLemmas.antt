-- Selecting the reads of source after source.
use Rattle.std.proofs.Common.{◌≡◌, ◌≤◌, ◌<◌, ◌+◌, ◌-◌, ◌++◌, ◌∙◌, ℕ, List, [], ◌∷◌, length, get_or, set, refl, sym}
use Rattle.std.proofs.Common.{ap, ap₂, subst, arith, append_assoc, append-nil, ◌⊎◌, inl, inr}
use Rattle.std.proofs.Common.{Result, Ok, Err}
use Rattle.std.proofs.lemmas.List.{map-append}
use Rattle.std.proofs.lemmas.List.Sums.{count_by-le-length}
use Rattle.kc_io.specs.Sources.{Seen}
use Rattle.kc_io.specs.Sinks.{Written, HasTaken, HasWritten, HasBegun}
use Rattle.kc_io.proofs.SinksLemmas.{Pending, begin, began_front, taken_both}
use Rattle.kc_fastx.specs.Parsing.{most_bytes}
use Rattle.kc_fastx.specs.Titles.{Record, GivesRecords, reads_in}
use Rattle.kc_fastx.specs.Parsing.{GivesReads}
use Rattle.kc_fastx.proofs.ReadingLemmas.{base_count-gives}
use Rattle.kc_tool.proofs.PlaceLemmas.{TakenSoFar, none_taken, one_taken, next_place, all_taken}
use Rattle.kc_tool.proofs.ReadCountLemmas.{read_count-gives}
use Rattle.kc_tally.specs.Tally.{TallySeen}
use Rattle.kc_select.specs.Counts.{counts_of, both_counts, no_counts}
use Rattle.kc_select.specs.Selecting.{BeginWith, Streams}
use Rattle.kc_select.specs.Solid.{SelectionRule, is_selected}
use Rattle.kc_select.specs.declared.selection_counts.Selected.{Selected}
use Rattle.kc_select.specs.declared.selection_counts.SelectionCounts.{SelectionCounts}
use Rattle.kc_select.proofs.CountsLemmas.{AreFew, counts_append, words_few, solid_fewer}
use Rattle.kc_select.specs.Texts.{text_of_selected, selected_text}
use Rattle.kc_tool.specs.GivenSources.{ReadsAt}
use Rattle.kc_tool.specs.Selections.{all_records, GaveRecords, SelectsFrom, SelectsNext, StopsAt, task_within}
use Rattle.kc_tool.specs.declared.tool_faults.ToolFault.{ToolFault}
use Rattle.kc_tool.specs.declared.tool_faults.ToolFault.TheVariants.{Fastx, BadHeader, BadRow, BadEnd, TableTooLong, TableRead, Memory, BadOption, BadWord, Write, Run, OpenFailed, Unlike, TooLarge, BrokenTable, ShortTable, Unpaired}

-- ---- the text of several lists of records

selected_text-append : (tally : TallySeen) (rule : SelectionRule) (xs ys : List Record)
    → selected_text tally rule (xs ++ ys) ≡ selected_text tally rule xs ++ selected_text tally rule ys
selected_text-append tally rule [] ys = refl
selected_text-append tally rule (x ∷ xs) ys =
    ap (λ v. text_of_selected tally rule x ++ v) (selected_text-append tally rule xs ys)
    ∙ sym (append_assoc (text_of_selected tally rule x) (selected_text tally rule xs) (selected_text tally rule ys))

records-push : (lists : List (List Record)) (here : List Record) → all_records (lists ++ here ∷ []) ≡ all_records lists ++ here
records-push [] here = append-nil here
records-push (first ∷ lists) here = ap (λ v. first ++ v) (records-push lists here) ∙ sym (append_assoc first (all_records lists) here)

text-push : (tally : TallySeen) (rule : SelectionRule) (lists : List (List Record)) (here : List Record)
    → selected_text tally rule (all_records (lists ++ here ∷ []))
    ≡ selected_text tally rule (all_records lists) ++ selected_text tally rule here
text-push tally rule lists here =
    ap (λ records. selected_text tally rule records) (records-push lists here)
    ∙ selected_text-append tally rule (all_records lists) here

-- ---- one more source gave its records

GaveRecords-push : (limit left : ℕ) (olds news : List Seen) (records : List (List Record)) (old new : Seen)
    (here : List Record) (gives : GivesRecords old new left here) → GaveRecords limit left olds news records
    → GaveRecords limit (left - length gives.0) (olds ++ old ∷ []) (news ++ new ∷ []) (records ++ here ∷ [])
GaveRecords-push limit left [] [] [] old new here gives is =
    subst (λ n. (more : GivesRecords old new n here) × (left - length gives.0 ≡ n - length more.0)) is (gives, refl)
GaveRecords-push limit left (first ∷ olds) (later ∷ news) (these ∷ records) old new here gives h =
    (h.0, GaveRecords-push (limit - length h.0.0) left olds news records old new here gives h.1)
GaveRecords-push limit left [] [] (these ∷ records) old new here gives h = absurd h
GaveRecords-push limit left [] (later ∷ news) [] old new here gives h = absurd h
GaveRecords-push limit left [] (later ∷ news) (these ∷ records) old new here gives h = absurd h
GaveRecords-push limit left (first ∷ olds) [] [] old new here gives h = absurd h
GaveRecords-push limit left (first ∷ olds) [] (these ∷ records) old new here gives h = absurd h
GaveRecords-push limit left (first ∷ olds) (later ∷ news) [] old new here gives h = absurd h

-- ---- what is counted of them

reads_in-append : (xs ys : List Record) → reads_in (xs ++ ys) ≡ reads_in xs ++ reads_in ys
reads_in-append xs ys = map-append (λ (r : Record). r.read) xs ys

counts_push-list : (tally : TallySeen) (rule : SelectionRule) (lists : List (List Record)) (here : List Record)
    (counts more : SelectionCounts) → counts ≡ counts_of tally rule (reads_in (all_records lists))
    → more ≡ counts_of tally rule (reads_in here)
    → both_counts counts more ≡ counts_of tally rule (reads_in (all_records (lists ++ here ∷ [])))
counts_push-list tally rule lists here counts more before one =
    ap₂ (λ v w. both_counts v w) before one
    ∙ sym (counts_append tally rule (reads_in (all_records lists)) (reads_in here))
    ∙ ap (λ v. counts_of tally rule v) (sym (ap (λ v. reads_in v) (records-push lists here) ∙ reads_in-append (all_records lists) here))

-- no count is greater than what was used of a limit, of which so many bytes are left
pub record FitBeside (left : ℕ) (counts : SelectionCounts) : Type 0 where
  pub reads : counts.reads + left ≤ most_bytes
  pub kept : counts.kept + left ≤ most_bytes
  pub words : counts.words + left ≤ most_bytes
  pub solid : counts.solid + left ≤ most_bytes

-- no count of the records of a source is greater than the number of its bytes, of which it gave no more than it might
pub record AreWithin (limit bytes : ℕ) (counts : SelectionCounts) : Type 0 where
  pub bounded : bytes ≤ limit
  pub reads : counts.reads ≤ bytes
  pub kept : counts.kept ≤ bytes
  pub words : counts.words ≤ bytes
  pub solid : counts.solid ≤ bytes

within_bytes : (tally : TallySeen) (rule : SelectionRule) → 1 ≤ tally.k → (old new : Seen) (limit : ℕ)
    (records : List Record) (gives : GivesRecords old new limit records)
    → AreWithin limit (length gives.0) (counts_of tally rule (reads_in records))
within_bytes tally rule some old new limit records gives =
    let reads = reads_in records in
    let given : GivesReads old new limit reads (length gives.0) =
    record { bytes = gives.0; taken = gives.1; has_reads = gives.2.reads; counted = refl } in
    let bases = base_count-gives old new limit reads (length gives.0) given in
    let count = read_count-gives old new limit reads (length gives.0) given in
    let words = words_few tally rule some reads in
    let solid = solid_fewer tally rule reads in
    let kept = count_by-le-length (λ read. is_selected tally rule read) reads in
    record {
      bounded = gives.1.within;
      reads = count;
      kept = omega (arith, kept, count);
      words = omega (arith, words, bases);
      solid = omega (arith, solid, words, bases);
    }

-- what is counted of one more source
pub within_next : (rule : SelectionRule) (tally : TallySeen) (limit number : ℕ) (old new : Streams)
    (selected : Selected) → 1 ≤ tally.k → SelectsNext (task_within rule tally limit) number old new (Ok selected)
    → AreWithin limit selected.bytes selected.counts
within_next rule tally limit number old new selected some h =
    let are = within_bytes tally rule some old.source new.source limit h.0 h.1 in
    subst (λ (v : Selected). AreWithin limit v.bytes v.counts) (sym h.3) are

-- it can be added
pub sums_fit : (left bytes : ℕ) (counts more : SelectionCounts) → FitBeside left counts → AreWithin left bytes more
    → AreFew (both_counts counts more)
sums_fit left bytes counts more fit within = record {
  reads = omega (arith, fit.reads, within.reads, within.bounded);
  kept = omega (arith, fit.kept, within.kept, within.bounded);
  words = omega (arith, fit.words, within.words, within.bounded);
  solid = omega (arith, fit.solid, within.solid, within.bounded);
}

-- The selected reads of the sources before this one were written, and all were counted; it and those after it are
-- unchanged.
pub record SelectedSoFar (rule : SelectionRule) (tally : TallySeen) (old new : List Seen) (before after : Written)
    (counts : SelectionCounts) (left number : ℕ) : Type 0 where
  pub sources : TakenSoFar old new number
  pub earlier : List (List Record)
  pub gave : GaveRecords most_bytes left sources.done sources.given earlier
  pub within : left ≤ most_bytes
  pub totals : counts ≡ counts_of tally rule (reads_in (all_records earlier))
  pub fit : FitBeside left counts
  pub taken : HasTaken before after (selected_text tally rule (all_records earlier))
  pub flushed : (number ≡ 0) ⊎ (after.history.flushed ≡ length after.history.bytes)

pub selected_none : (rule : SelectionRule) (tally : TallySeen) (sources : List Seen) (sink : Written)
    (counts : SelectionCounts) → counts ≡ no_counts
    → SelectedSoFar rule tally sources sources sink sink counts most_bytes 0
selected_none rule tally sources sink counts nothing = record {
  sources = none_taken sources;
  earlier = [];
  gave = refl;
  within = omega arith;
  totals = nothing;
  fit = subst (λ v. FitBeside most_bytes v) (sym nothing)
      (record { reads = omega arith; kept = omega arith; words = omega arith; solid = omega arith });
  taken = let none = begin sink [] in
      subst (λ v. HasTaken sink sink v) (sym (none.whole ∙ append-nil none.front)) none.taken;
  flushed = inl refl;
}

module _ {rule : SelectionRule} {tally : TallySeen} {old new : List Seen} {before now : Written}
    {counts : SelectionCounts} {left number : ℕ}
    (d later : Seen) (after : Written) (s : SelectedSoFar rule tally old new before now counts left number)
    (within : number < length new) where
  abbrev here : Seen
  here = get_or new number d

  abbrev stands : Streams
  stands = record { source = here; sink = now }

  abbrev stands_after : Streams
  stands_after = record { source = later; sink = after }

  -- Its selected reads were written too.
  pub selected_more : (selected : Selected) → 1 ≤ tally.k
      → SelectsNext (task_within rule tally left) (number + 1) stands stands_after (Ok selected)
      → SelectedSoFar rule tally old (set new number later) before after (both_counts counts selected.counts)
      (left - selected.bytes) (number + 1)
  selected_more selected some h =
      let records = h.0 in
      let gives = h.1 in
      let written = h.2 in
      let used : length gives.0 ≡ selected.bytes = sym (ap (λ (v : Selected). v.bytes) h.3) in
      let fits = within_next rule tally left (number + 1) stands stands_after selected some h in
      let sources = one_taken d later s.sources within in
      let earlier = s.earlier ++ records ∷ [] in
      record {
        sources = sources;
        earlier = earlier;
        gave = subst (λ n. GaveRecords most_bytes (left - n) sources.done sources.given earlier) used
            (GaveRecords-push most_bytes left s.sources.done s.sources.given s.earlier here later records gives s.gave);
        within = omega (arith, s.within);
        totals = counts_push-list tally rule s.earlier records counts selected.counts s.totals
            (ap (λ (v : Selected). v.counts) h.3);
        fit = record {
          reads = omega (arith, s.fit.reads, fits.reads, fits.bounded);
          kept = omega (arith, s.fit.kept, fits.kept, fits.bounded);
          words = omega (arith, s.fit.words, fits.words, fits.bounded);
          solid = omega (arith, s.fit.solid, fits.solid, fits.bounded);
        };
        taken = subst (λ v. HasTaken before after v) (sym (text-push tally rule s.earlier records))
            (taken_both before now after _ _ s.taken written.taken);
        flushed = inr written.flushed;
      }

  abbrev stops : (first : List Record) → BeginWith (task_within rule tally left) here first
      → StopsAt rule tally old (set new number later) (number + 1)
  stops first came = record {
    place = next_place d later s.sources within;
    earlier = s.earlier;
    limit = left;
    gave = s.gave;
    first = first;
    came = came;
  }

  written_first : (first : List Record) → HasWritten now after (selected_text tally rule first)
      → HasWritten before after (selected_text tally rule (all_records s.earlier ++ first))
  written_first first w = record {
    taken = subst (λ v. HasTaken before after v) (sym (selected_text-append tally rule (all_records s.earlier) first))
        (taken_both before now after _ _ s.taken w.taken);
    flushed = w.flushed;
  }

  begun_first : (first : List Record) → HasBegun now after (selected_text tally rule first)
      → HasBegun before after (selected_text tally rule (all_records s.earlier ++ first))
  begun_first first h =
      let text = selected_text tally rule first in
      let pending : Pending before now (selected_text tally rule (all_records s.earlier ++ first)) (text ++ []) = record {
        front = selected_text tally rule (all_records s.earlier);
        whole = selected_text-append tally rule (all_records s.earlier) first
            ∙ ap (λ v. selected_text tally rule (all_records s.earlier) ++ v) (sym (append-nil text));
        taken = s.taken;
      } in
      began_front before now after _ text [] pending h

  -- It has a fault, or the writer failed.
  pub selected_no_more : (fault : ToolFault)
      → SelectsNext (task_within rule tally left) (number + 1) stands stands_after (Err fault)
      → SelectsFrom rule tally old (set new number later) before after (Err fault)
  selected_no_more (Fastx at fault) h =
      let stop = stops h.1.0 h.1.1 in
      subst (λ n. SelectsFrom rule tally old (set new number later) before after (Err (Fastx n fault))) (sym h.0)
      (stop, h.1.2, written_first h.1.0 h.1.3)
  selected_no_more Write h = (number + 1, stops h.0 h.1, begun_first h.0 h.2)
  selected_no_more BadHeader h = absurd h
  selected_no_more (BadRow line) h = absurd h
  selected_no_more BadEnd h = absurd h
  selected_no_more TableTooLong h = absurd h
  selected_no_more TableRead h = absurd h
  selected_no_more Memory h = absurd h
  selected_no_more (BadOption name) h = absurd h
  selected_no_more (BadWord at) h = absurd h
  selected_no_more (Run fault) h = absurd h
  selected_no_more (OpenFailed name) h = absurd h
  selected_no_more Unlike h = absurd h
  selected_no_more TooLarge h = absurd h
  selected_no_more (BrokenTable place) h = absurd h
  selected_no_more (ShortTable place) h = absurd h
  selected_no_more (Unpaired number) h = absurd h

-- The selected reads of all sources were written.
pub selected_all : {rule : SelectionRule} {tally : TallySeen} {old new : List Seen} {before after : Written}
    {counts : SelectionCounts} {left number : ℕ} → SelectedSoFar rule tally old new before after counts left number
    → length new ≤ number → 1 ≤ length new → SelectsFrom rule tally old new before after (Ok counts)
selected_all {rule} {tally} {old} {new} {before} {after} {counts} {left} {number} s all some =
    let (were, are) = all_taken s.sources all in
    let flushed : after.history.flushed ≡ length after.history.bytes = elim s.flushed [
      | inl begun ↦ absurd (omega (arith, begun, all, some))
      | inr ended ↦ ended
    ] in (
      s.earlier,
      left,
      subst (λ v. GaveRecords most_bytes left old v s.earlier) are
          (subst (λ v. GaveRecords most_bytes left v s.sources.given s.earlier) were s.gave),
      record { taken = s.taken; flushed = flushed },
      s.totals,
    )

-- The next source is read at its index.
module _ {old now : List Seen} {rule : SelectionRule} {tally : TallySeen} {before mid : Written} (after : Written)
    {counts : SelectionCounts} {left number : ℕ} (s : SelectedSoFar rule tally old now before mid counts left number)
    (within : number < length now) where
  abbrev Next : Seen → Seen → Result Selected ToolFault → Type 0
  Next source later outcome = SelectsNext (task_within rule tally left) (number + 1) (record { source = source; sink = mid })
      (record { source = later; sink = after }) outcome

  pub selected_read : {next : List Seen} (selected : Selected) → 1 ≤ tally.k → ReadsAt number now next (λ source later. Next source later (Ok selected))
      → SelectedSoFar rule tally old next before after (both_counts counts selected.counts) (left - selected.bytes) (number + 1)
  selected_read selected some at =
      subst (λ v. SelectedSoFar rule tally old v before after (both_counts counts selected.counts) (left - selected.bytes) (number + 1))
      (sym at.are) (selected_more at.here at.later after s within selected some (subst (λ v. Next v at.later (Ok selected)) (sym at.was) at.reads))

  pub refused_read : {next : List Seen} (fault : ToolFault) → ReadsAt number now next (λ source later. Next source later (Err fault))
      → SelectsFrom rule tally old next before after (Err fault)
  refused_read fault at =
      subst (λ v. SelectsFrom rule tally old v before after (Err fault)) (sym at.are)
      (selected_no_more at.here at.later after s within fault (subst (λ v. Next v at.later (Err fault)) (sym at.was) at.reads))
