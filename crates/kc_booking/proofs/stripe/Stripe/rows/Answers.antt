use Rattle.std.proofs.Common.{◌≡◌, ◌∙◌, ◌<◌, ◌≤◌, ◌^◌, ◌++◌, ℕ, List, All, arith, drop, get_or, length, map, rules, set, take, ap, subst, vec_len}
use Rattle.std.proofs.Math.Seq.{take-append_seam}
use Rattle.std.proofs.lemmas.List.{get_or_default}
use Rattle.std.proofs.lemmas.List.Edits.{map_over_more}
use Rattle.kc_word.specs.Shared.{values}
use Rattle.kc_hash.specs.Product.{product}
use Rattle.kc_table.specs.Counts.{AreRowsOf}
use Rattle.kc_booking.specs.Setup.{HasBits}
use Rattle.kc_booking.specs.Stripe.{row_of_pair}
use Rattle.kc_booking.proofs.Parts.{map-map}
use Rattle.kc_booking.proofs.StripeRows.{word_under, with_word, row_of, all-mapped, TellsRows, AreStripeRows-turned}
use Rattle.kc_booking.proofs.stripe.Stripe.rows.Goals as goal

pub loop-row-preserved : goal.loop-row-preserved
loop-row-preserved g c =
    let entries : List (ℕ × ℕ) = c.deref_mut-row-items.result.now in
    let now : List (ℕ × ℕ) = c.loop-row.row-items in
    let index = c.loop-row.row-index in
    let entry : ℕ × ℕ = get_or now index (0, 0) in
    let within : index < length now = omega (arith, c.loop-row-test.true, c.loop-row.auto.row-items) in
    let inside : index < length entries = omega (arith, c.loop-row-test.true) in
    let word = c.apply-row.ensures.product ∙ ap (product c.back_tables-tables.result) c.hash_value_at-hash_value.ensures.value
    ∙ ap (λ s. word_under s.setup c.back_tables-tables.result s.number entry.0) c.self-inside.view_is in
    record {
      fit = c.loop-row.invariant.fit;
      turned = ap (λ (w : ℕ). set now index (w, entry.1)) word
          ∙ map_over_more (with_word c.self.inside.setup c.back_tables-tables.result c.self.inside.number) entries now index entry inside c.loop-row.invariant.turned
          (get_or_default now index (0, 0) entry within);
    }

pub returns : goal.returns
returns g c =
    let held = c.self.invariant.1 in
    let entries : List (ℕ × ℕ) = c.in_ok-rows.rows.items in
    let table = ap (λ s. s.counted.table) c.self-inside.view_is in
    let setup = c.setup.view_is ∙ ap (λ s. s.setup) c.self-inside.view_is in
    let tells : TellsRows c.self.inside.setup c.self.inside.number (values c.self.inside.journal.items) (g.C.Counts.counts c.self.inside.counted.table) entries = record {
      bits = subst (λ s. HasBits s.rule.k s.hash s.stripe_bits) setup c.setup.invariant.0;
      divided = held.divided;
      own = held.own;
      counted = c.self.invariant.0.counts_are;
      rows = subst (λ (t : g.row.C.Denot). AreRowsOf (g.C.Counts.counts t) entries) table c.in_ok-rows.ensures.told;
      below = subst (λ (bits : ℕ). All (λ (e : ℕ × ℕ). e.0 < 2 ^ bits) entries) (ap g.C.Counts.bits table ∙ held.bits_are) c.in_ok-rows.ensures.in_range;
    } in
    let inverts = c.back_tables-tables.ensures in
    let turned = with_word c.self.inside.setup c.back_tables-tables.result c.self.inside.number in
    let long : vec_len c.in_ok-rows.rows ≡ length entries = search rules in
    let as_many : c.in_ok-rows.rows.len ≡ length c.loop-row.row-items = omega (arith, long, c.loop-row.auto.row-items, ap length c.deref_mut-row-items.ensures.value) in
    let end : length c.deref_mut-row-items.result.now ≤ c.loop-row.row-index = omega (arith, c.loop-row-test.false) in
    let items : take c.in_ok-rows.rows.len (c.loop-row.row-items ++ drop (length c.loop-row.row-items) entries) ≡ map turned entries =
    ap (λ n. take n (c.loop-row.row-items ++ drop (length c.loop-row.row-items) entries)) as_many
    ∙ take-append_seam c.loop-row.row-items _
    ∙ all-mapped turned c.deref_mut-row-items.result.now c.loop-row.row-items c.loop-row.row-index end c.loop-row.invariant.turned
    ∙ ap (map turned) c.deref_mut-row-items.ensures.value in
    let all : map row_of_pair (take c.in_ok-rows.rows.len (c.loop-row.row-items ++ drop (length c.loop-row.row-items) entries))
    ≡ map (row_of c.self.inside.setup c.back_tables-tables.result c.self.inside.number) entries =
    ap (map row_of_pair) items ∙ map-map row_of_pair turned entries in
    rw (← c.self.view_is, all)
    (AreStripeRows-turned c.self.inside.setup c.back_tables-tables.result c.self.inside.number (values c.self.inside.journal.items) (g.C.Counts.counts c.self.inside.counted.table) entries
    (rw (ap (λ s. s.hash) setup) at inverts) tells)
