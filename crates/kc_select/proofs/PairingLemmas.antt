-- The pairs that came, and what was put of them on its way to the sinks.
use Rattle.std.proofs.Common.{◌≡◌, ℕ, ◌+◌, ◌/◌, ◌^◌, ◌<◌, ◌≤◌, List, [], ◌∷◌, ◌++◌, length, sym, ap, ◌∙◌, subst, arith}
use Rattle.std.proofs.Common.{length-append, Ok, Err, inl, inr}
use Rattle.std.specs.Prelude.{Result, OnOk, OnErr}
use Rattle.kc_io.specs.Sources.{Seen}
use Rattle.std.specs.List.{flat_map}
use Rattle.kc_io.specs.Sinks.{Written, HasBegun, Drains}
use Rattle.kc_io.specs.declared.failures.Failed.{Failed}
use Rattle.kc_fastx.specs.Parsing.{most_bytes}
use Rattle.kc_fastx.specs.Reads.{Read}
use Rattle.kc_fastx.specs.Reading.{Stand, first_stand}
use Rattle.kc_fastx.specs.Titles.{Record, reads_in, HasGivenRecords}
use Rattle.kc_fastx.proofs.ReadingLemmas.{base_count-given, used_within}
use Rattle.kc_select.specs.declared.pair_fault.PairFault.{PairFault}
use Rattle.kc_select.specs.declared.pair_fault.PairFault.TheVariants.{Reads, Unpaired, Write}
use Rattle.kc_select.specs.declared.selection_counts.Selected.{Selected}
use Rattle.kc_select.specs.declared.selection_counts.SelectionCounts.{SelectionCounts}
use Rattle.kc_select.specs.declared.sides.Sides.{Sides}
use Rattle.kc_select.specs.Counts.{no_counts, both_counts}
use Rattle.kc_select.specs.Pairs.{Pair, PairsSelector, kept_pairs, pair_of, each, firsts, seconds, keeps_pair, counts_of_pairs, counts_of_read}
use Rattle.kc_select.specs.SelectingPairs.{PairsTask, HaveGivenPairs, GivePairs, PairingFails, SelectsPairs}
use Rattle.kc_select.specs.PairReaders.{PairReader, AreEnded, answer_after, text_where_kept}
use Rattle.kc_select.proofs.CountsLemmas.{AreFew, taken_same}
use Rattle.kc_select.proofs.PairsLemmas.{kept_push, pairs_counted, pairs_few}
use Rattle.kc_select.proofs.TextLemmas.{drains_more, drains_both, drains_begins}
use Rattle.kc_select.proofs.PairReaderLemmas.{pairs_none}

-- of the pairs that came this was put, and their reads were counted
pub record IsPairing (task : PairsTask) (old now : Sides Seen) (stands : Sides Stand) (Put : List Pair → Type 0)
    (counts : SelectionCounts) : Type 0 where
  pub these : List Pair
  pub given : HaveGivenPairs old now task.limit these stands
  pub counted : counts ≡ counts_of_pairs task.selector these
  pub fewer : length these ≤ stands.first.used
  pub put : Put these

pub pairing_none : (task : PairsTask) (start : Sides Seen) (stands : Sides Stand) (Put : List Pair → Type 0)
    (counts : SelectionCounts) → stands ≡ record { first = first_stand task.limit; second = first_stand task.limit }
    → counts ≡ no_counts → Put [] → IsPairing task start start stands Put counts
pairing_none task start stands Put counts first none put = record {
  these = [];
  given = subst (λ v. HaveGivenPairs start start task.limit [] v) (sym first) (pairs_none start task.limit);
  counted = none;
  fewer = omega arith;
  put = put;
}

-- at its end a source gave as many bytes as were used or are unused, and at most as many as it may give
within : {start now : Seen} {limit : ℕ} {records : List Record} {stand : Stand}
    → HasGivenRecords start now limit records stand → stand.used + length stand.unread.bytes ≤ limit
within {stand = stand} given =
    let counted = given.given.counted in
    let room = given.given.taken.room in
    omega (arith, counted, room, length-append given.given.used stand.unread.bytes)

-- ---- one more pair

module _ {task : PairsTask} {old now : Sides Seen} {stands : Sides Stand} {Put : List Pair → Type 0}
    {counts : SelectionCounts} (p : IsPairing task old now stands Put counts) where
  -- the next one has this number
  pub next_number : counts.reads / 2 + 1 ≡ length p.these + 1
  next_number = let counted = ap (λ (c : SelectionCounts). c.reads) p.counted in omega (arith, counted)

  -- it was judged, and what is written of it was appended to the rest
  pub pairing_more : (new : Sides Seen) (reader : PairReader) (Next : List Pair → Type 0) (reads : Sides Read)
      (judged : Sides SelectionCounts) (sum : SelectionCounts)
      → HaveGivenPairs old new task.limit (p.these ++ pair_of reader.titles reads ∷ []) reader.stands
      → judged ≡ each (λ read. counts_of_read task.selector.by (keeps_pair task.selector reads.first reads.second) read) reads
      → sum ≡ both_counts (both_counts counts judged.first) judged.second
      → stands.first.used < reader.stands.first.used → Next (p.these ++ pair_of reader.titles reads ∷ [])
      → IsPairing task old new reader.stands Next sum
  pairing_more new reader Next reads judged sum given one is more put =
      let this = pair_of reader.titles reads in
      record {
        these = p.these ++ this ∷ [];
        given = given;
        counted = is ∙ pairs_counted task.selector p.these this counts judged p.counted one;
        fewer = let few = p.fewer in omega (arith, few, more, length-append p.these (this ∷ []));
        put = put;
      }

  -- and what is counted with it is less than 2^64
  pub pairs_fit : (new : Sides Seen) (reader : PairReader) (reads : Sides Read) (judged : Sides SelectionCounts)
      → 1 ≤ task.selector.by.tally.k → task.limit ≤ most_bytes
      → HaveGivenPairs old new task.limit (p.these ++ pair_of reader.titles reads ∷ []) reader.stands
      → judged ≡ each (λ read. counts_of_read task.selector.by (keeps_pair task.selector reads.first reads.second) read) reads
      → stands.first.used < reader.stands.first.used
      → AreFew (both_counts (both_counts counts judged.first) judged.second)
  pairs_fit new reader reads judged some limit given one more =
      let this = pair_of reader.titles reads in
      let all = p.these ++ this ∷ [] in
      let first = base_count-given old.first new.first task.limit (reads_in (firsts all)) reader.stands.first given.first.given in
      let second = base_count-given old.second new.second task.limit (reads_in (seconds all)) reader.stands.second given.second.given in
      let used = used_within old.first new.first task.limit (reads_in (firsts all)) reader.stands.first given.first.given in
      let few = p.fewer in
      subst AreFew (sym (pairs_counted task.selector p.these this counts judged p.counted one))
      (pairs_few task.selector some all (omega (arith, first, limit)) (omega (arith, second, limit))
      (omega (arith, used, limit, few, more, length-append p.these (this ∷ []))))

  -- a writer failed meanwhile
  pub pairing_breaks : (new : Sides Seen) (reader : PairReader) (Was Began : List Pair → Type 0) (reads : Sides Read)
      → HaveGivenPairs old new task.limit (p.these ++ pair_of reader.titles reads ∷ []) reader.stands
      → Began (p.these ++ pair_of reader.titles reads ∷ []) → SelectsPairs task old new Was Began (Err Write)
  pairing_breaks new reader Was Began reads given began =
      (p.these ++ pair_of reader.titles reads ∷ [], (new, reader.stands, given), inl (reader.stands, given), began)

  -- ---- the end, or a fault

  -- no pair is left, and what was left to write was written, or a writer failed
  pub pairing_ends : (new : Sides Seen) (reader : PairReader) (Was Began : List Pair → Type 0) (bytes : ℕ)
      (written : Result (Unit {0}) Failed) (answer : Result Selected PairFault)
      → HaveGivenPairs old new task.limit p.these reader.stands → AreEnded reader.stands → GivePairs old new task.limit p.these
      → bytes ≡ reader.stands.first.used + length reader.stands.first.unread.bytes
      + (reader.stands.second.used + length reader.stands.second.unread.bytes)
      → OnOk written (Was p.these) → OnErr written (Began p.these)
      → answer ≡ answer_after written (Ok (record { bytes = bytes; counts = counts }))
      → SelectsPairs task old new Was Began answer
  pairing_ends new reader Was Began bytes (Ok done) answer given ended gives all was began is =
      let first = taken_same old.first new.first task.limit (firsts p.these) reader.stands.first given.first ended.0 gives.first in
      let second = taken_same old.second new.second task.limit (seconds p.these) reader.stands.second given.second ended.1
      gives.second in
      subst (λ v. SelectsPairs task old new Was Began v) (sym is)
      (p.these, gives, was, alike (omega (arith, all, first, second)) p.counted)
    where
      alike : {n m : ℕ} {one other : SelectionCounts} → n ≡ m → one ≡ other
          → (let this : Selected = record { bytes = n; counts = one } in this) ≡ record { bytes = m; counts = other }
      alike e f = cc
  pairing_ends new reader Was Began bytes (Err failed) answer given ended gives all was began is =
      subst (λ v. SelectsPairs task old new Was Began v) (sym is)
      (p.these, (now, stands, p.given), inl (reader.stands, given), began)

  fails_so : (new : Sides Seen) (Was Began : List Pair → Type 0) (fault : PairFault)
      → PairingFails old new task.limit p.these fault → Was p.these → SelectsPairs task old new Was Began (Err fault)
  fails_so new Was Began (Reads side fault) fails was = (p.these, (now, stands, p.given), fails, was)
  fails_so new Was Began (Unpaired number) fails was = (p.these, (now, stands, p.given), fails, was)
  fails_so new Was Began Write fails was = absurd fails

  -- there is no pair after them
  pub pairing_fails : (new : Sides Seen) (Was Began : List Pair → Type 0) (fault : PairFault)
      (written : Result (Unit {0}) Failed) (answer : Result Selected PairFault)
      → PairingFails old new task.limit p.these fault → OnOk written (Was p.these) → OnErr written (Began p.these)
      → answer ≡ answer_after written (Err fault) → SelectsPairs task old new Was Began answer
  pairing_fails new Was Began fault (Ok done) answer fails was began is =
      subst (λ v. SelectsPairs task old new Was Began v) (sym is) (fails_so new Was Began fault fails was)
  pairing_fails new Was Began fault (Err failed) answer fails was began is =
      subst (λ v. SelectsPairs task old new Was Began v) (sym is)
      (p.these, (now, stands, p.given), inr (fault, fails), began)

-- the bytes of both sources are less than 2^64 together
pub bytes_fit : {start now : Sides Seen} {limit : ℕ} {these : List Pair} {stands : Sides Stand}
    → HaveGivenPairs start now limit these stands → limit ≤ most_bytes
    → stands.first.used + length stands.first.unread.bytes
    + (stands.second.used + length stands.second.unread.bytes) < 2 ^ 64
bytes_fit given limit = let first = within given.first in let second = within given.second in omega (arith, first, second, limit)

-- ---- what is written of the pairs to one sink

-- one more pair was appended to the block, if it is kept
pub put_more : (selector : PairsSelector) (f : Pair → List ℕ) (these : List Pair) (this : Pair) (a b c : Written)
    (block left : List ℕ) → Drains a b (flat_map f (kept_pairs selector these)) block
    → Drains b c (block ++ text_where_kept selector f this) left
    → Drains a c (flat_map f (kept_pairs selector (these ++ this ∷ []))) left
put_more selector f these this a b c block left d e =
    subst (λ v. Drains a c v left) (sym (kept_push selector f these this))
    (drains_both (drains_more d (text_where_kept selector f this)) e)

-- the writer failed meanwhile
pub begun_more : (selector : PairsSelector) (f : Pair → List ℕ) (these : List Pair) (this : Pair) (a b c : Written)
    (block : List ℕ) → Drains a b (flat_map f (kept_pairs selector these)) block
    → HasBegun b c (block ++ text_where_kept selector f this)
    → HasBegun a c (flat_map f (kept_pairs selector (these ++ this ∷ [])))
begun_more selector f these this a b c block d h =
    subst (λ v. HasBegun a c v) (sym (kept_push selector f these this))
    (drains_begins (drains_more d (text_where_kept selector f this)) h)
