use Rattle.std.proofs.Common.{◌≡◌, ◌∙◌, ◌<◌, ap, sym, subst, arith, length, vec_capacity, max, ◌/◌}
use Rattle.kc_table.specs.GreatCounts.{Greats, great_count, counts_in, AreApart}
use Rattle.kc_table.proofs.GreatEntries.{IsFoundEntry, IsNew, written_here, written_beside, written_apart, written_chained, new_by_entries}
use Rattle.kc_table.proofs.GreatEntries.{count_added, count_beside_added, apart_added, fewer_counts, length-counts_in}
use Rattle.kc_table.proofs.great_counts.GreatCounts.set.Goals as goal
use Rattle.kc_table.proofs.great_counts.GreatCounts.set.Goals.{In-None, In-Some, After-index_mut}

-- the place is below the number of places
inside : (c : In-None) → c.args.place < vec_capacity c.self.inside.entries
inside c = subst (λ (g : Greats). c.args.place < g.places) (sym c.self.view_is) c.requires

new : (c : In-None) → IsNew (counts_in c.self.inside.entries.items) c.args.place
new c = new_by_entries c.self.inside.entries.items _ c.args.place c.deref-2.ensures.value c.in-None.ensures.none

found : (c : After-index_mut)
    → IsFoundEntry c.self.inside.entries.items c.deref-2.result.now c.in-Some.index c.args.place c.index_mut.result.now
found c = record {
  same = c.deref-2.ensures.value;
  within = c.in-Some.ensures.in_range;
  here = c.in-Some.ensures.here;
  read = c.index_mut.ensures.value;
}

pub add_entry-requires-clause-room : goal.add_entry-requires-clause-room
add_entry-requires-clause-room c =
    let long : length (counts_in c.self.inside.entries.items) ≡ length c.self.inside.entries.items =
    length-counts_in c.self.inside.entries.items in
    let fewer : length (counts_in c.self.inside.entries.items) < vec_capacity c.self.inside.entries =
    fewer_counts (counts_in c.self.inside.entries.items) c.args.place c.self.invariant.apart (new (goal.at.add_entry-requires-clause-room c).In-None) (inside (goal.at.add_entry-requires-clause-room c).In-None)
    (omega (arith, c.self.inside.entries.ok.0)) in
    omega arith

pub invariant_of-self-in-None : goal.invariant_of-self-in-None
invariant_of-self-in-None c =
    let before = (goal.at.invariant_of-self-in-None c).In-None in
    record {
      chained = c.add_entry.ensures.chained;
      apart = subst (λ n. AreApart n (counts_in c.add_entry.new.entries.items)) (sym c.add_entry.ensures.room)
          (subst (λ es. AreApart (vec_capacity c.self.inside.entries) es) (sym c.add_entry.ensures.added)
          (apart_added (counts_in c.self.inside.entries.items) c.args.place c.args.count c.self.invariant.apart (new before)
          (inside before)));
      roomy = c.add_entry.ensures.heads_room ∙ c.self.invariant.roomy
          ∙ ap (λ n. max 1 (n / 8)) (sym c.add_entry.ensures.room);
    }

pub invariant_of-self : goal.invariant_of-self
invariant_of-self c = record {
  chained = written_chained c.self.inside.entries.items c.deref-2.result.now c.in-Some.index c.args.place
      c.index_mut.result.now (found (goal.at.invariant_of-self c).After-index_mut) c.self.invariant.apart c.args.count _
      c.self.invariant.chained;
  apart = written_apart c.self.inside.entries.items c.deref-2.result.now c.in-Some.index c.args.place
      c.index_mut.result.now (found (goal.at.invariant_of-self c).After-index_mut) c.self.invariant.apart c.args.count _;
  roomy = c.self.invariant.roomy;
}

pub returns-in-Some-clause-here : goal.returns-in-Some-clause-here
returns-in-Some-clause-here c =
    written_here c.self.inside.entries.items c.deref-2.result.now c.in-Some.index c.args.place c.index_mut.result.now
    (found (goal.at.returns-in-Some-clause-here c).After-index_mut)
    c.self.invariant.apart c.args.count _

pub returns-in-Some-clause-others : goal.returns-in-Some-clause-others
returns-in-Some-clause-others c other apart =
    written_beside c.self.inside.entries.items c.deref-2.result.now c.in-Some.index c.args.place c.index_mut.result.now
    (found (goal.at.returns-in-Some-clause-others c).After-index_mut) c.self.invariant.apart c.args.count _ other apart
    ∙ ap (λ (g : Greats). great_count g.counts other) c.self.view_is

pub returns-in-None-clause-here : goal.returns-in-None-clause-here
returns-in-None-clause-here c =
    ap (λ es. great_count es c.args.place) c.add_entry.ensures.added
    ∙ count_added (counts_in c.self.inside.entries.items) c.args.place c.args.count
    (new (goal.at.returns-in-None-clause-here c).In-None)

pub returns-in-None-clause-others : goal.returns-in-None-clause-others
returns-in-None-clause-others c other apart =
    ap (λ es. great_count es other) c.add_entry.ensures.added
    ∙ count_beside_added (counts_in c.self.inside.entries.items) c.args.place c.args.count other apart
    ∙ ap (λ (g : Greats). great_count g.counts other) c.self.view_is
