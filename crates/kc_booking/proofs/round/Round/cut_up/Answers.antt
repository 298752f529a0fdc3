use Rattle.std.proofs.Common.{◌≡◌, ◌∙◌, ◌+◌, ◌<◌, ◌≤◌, ◌^◌, ◌&&◌, ◌++◌, ◌∷◌, [], ℕ, List, ap, ap₂, arith, count_by, get_or, length, nat_eq, replicate, rules, subst, sym}
use Rattle.std.proofs.lemmas.List.{get_or-replicate}
use Rattle.std.specs.HashSet.{contains}
use Rattle.kc_word.specs.Cutting.{NumberedPieces}
use Rattle.kc_word.specs.Shared.{values}
use Rattle.kc_booking.specs.Cut.{batch_hash_values}
use Rattle.kc_booking.specs.Round.{items_at, room_at, stripe_keys, IsRound}
use Rattle.kc_booking.proofs.HashValues.{stripes-few}
use Rattle.kc_booking.proofs.KeptVecs.{stripe_keys-long}
use Rattle.kc_booking.proofs.Parts.{falls_in}
use Rattle.kc_booking.proofs.RoundLemmas.{values-push, known-then, differ-more, is-new}
use Rattle.kc_booking.proofs.Rounds.{IsRound-more, cut-bounded}
use Rattle.kc_booking.proofs.round.Round.cut_up.Goals as goal

pub make_room-requires : goal.make_room-requires
make_room-requires c =
    let bits = c.stripe_bits-stripe_bits.ensures in
    let few : 2 ^ c.self.inside.setup.stripe_bits ≤ 64 = subst (λ (s : ℕ). 2 ^ s ≤ 64) bits.value (stripes-few c.stripe_bits-stripe_bits.result bits.at_most) in
    let long : length c.part_sizes-sizes.result ≡ 64 = search rules in
    omega (arith, few, long, c.self.invariant.keys_all)

pub make_room-requires-2 : goal.make_room-requires-2
make_room-requires-2 c =
    let bits = c.stripe_bits-stripe_bits.ensures in
    let few : 2 ^ c.self.inside.setup.stripe_bits ≤ 64 = subst (λ (s : ℕ). 2 ^ s ≤ 64) bits.value (stripes-few c.stripe_bits-stripe_bits.result bits.at_most) in
    omega (arith, few, c.self.invariant.sizes_all)

pub returns-in_err-make_room-clause-bounded : goal.returns-in_err-make_room-clause-bounded
returns-in_err-make_room-clause-bounded c = rw (← c.self.view_is) (cut-bounded c.make_room.new.vecs.items c.self.invariant
    (record { bits_are = c.stripe_bits-stripe_bits.ensures.value; seen_is = c.deref.ensures; hashed = c.in_ok-put_hash_values.ensures; passed_are = c.deref-2.ensures.value; counted = c.part_sizes-sizes.ensures })
    c.make_room.ensures.all c.make_room.ensures.bounded)

pub returns-in_err-make_room-2-clause-bounded : goal.returns-in_err-make_room-2-clause-bounded
returns-in_err-make_room-2-clause-bounded c = rw (← c.self.view_is) (cut-bounded c.make_room.new.vecs.items c.self.invariant
    (record { bits_are = c.stripe_bits-stripe_bits.ensures.value; seen_is = c.deref.ensures; hashed = c.in_ok-put_hash_values.ensures; passed_are = c.deref-2.ensures.value; counted = c.part_sizes-sizes.ensures })
    c.make_room.ensures.all c.make_room.ensures.bounded)

pub returns-in_err-reserve-clause-bounded : goal.returns-in_err-reserve-clause-bounded
returns-in_err-reserve-clause-bounded c = rw (← c.self.view_is) (cut-bounded c.make_room.new.vecs.items c.self.invariant
    (record { bits_are = c.stripe_bits-stripe_bits.ensures.value; seen_is = c.deref.ensures; hashed = c.in_ok-put_hash_values.ensures; passed_are = c.deref-2.ensures.value; counted = c.part_sizes-sizes.ensures })
    c.make_room.ensures.all c.make_room.ensures.bounded)

pub returns-in_default-clause-bounded : goal.returns-in_default-clause-bounded
returns-in_default-clause-bounded c = rw (← c.self.view_is) (cut-bounded c.make_room.new.vecs.items c.self.invariant
    (record { bits_are = c.stripe_bits-stripe_bits.ensures.value; seen_is = c.deref.ensures; hashed = c.in_ok-put_hash_values.ensures; passed_are = c.deref-2.ensures.value; counted = c.part_sizes-sizes.ensures })
    c.make_room.ensures.all c.make_room.ensures.bounded)

pub returns-clause-bounded : goal.returns-clause-bounded
returns-clause-bounded c = rw (← c.self.view_is, c.push_keys.ensures.rooms) (cut-bounded c.make_room.new.vecs.items c.self.invariant
    (record { bits_are = c.stripe_bits-stripe_bits.ensures.value; seen_is = c.deref.ensures; hashed = c.in_ok-put_hash_values.ensures; passed_are = c.deref-2.ensures.value; counted = c.part_sizes-sizes.ensures })
    c.make_room.ensures.all c.make_room.ensures.bounded)

pub push_keys-requires-clause-room : goal.push_keys-requires-clause-room
push_keys-requires-clause-room c = λ stripe below.
    let s = c.stripe_bits-stripe_bits.result in
    let there : stripe < length c.self.inside.keys.items = omega (arith, below, c.self.invariant.keys_all, ap (λ (s : ℕ). 2 ^ s) c.stripe_bits-stripe_bits.ensures.value) in
    let room = c.in_ok-make_room.ensures.room stripe there in
    let same = ap length (c.make_room.ensures.unchanged stripe) in
    let many = c.part_sizes-sizes.ensures stripe ∙ ap (count_by (falls_in s stripe)) (c.deref-2.ensures.value ∙ sym c.deref-4.ensures.value)
    ∙ sym (stripe_keys-long s stripe c.deref-4.result.now) in
    omega (arith, room, same, many)

pub push_sizes-requires-clause-few : goal.push_sizes-requires-clause-few
push_sizes-requires-clause-few c =
    let bits = c.stripe_bits-stripe_bits.ensures in
    let few : 2 ^ c.self.inside.setup.stripe_bits ≤ 64 = subst (λ (s : ℕ). 2 ^ s ≤ 64) bits.value (stripes-few c.stripe_bits-stripe_bits.result bits.at_most) in
    omega (arith, few, c.self.invariant.sizes_all, c.make_room-2.ensures.all)

pub push_sizes-requires-clause-room : goal.push_sizes-requires-clause-room
push_sizes-requires-clause-room c = λ stripe below.
    let bits = c.stripe_bits-stripe_bits.ensures in
    let few : 2 ^ c.self.inside.setup.stripe_bits ≤ 64 = subst (λ (s : ℕ). 2 ^ s ≤ 64) bits.value (stripes-few c.stripe_bits-stripe_bits.result bits.at_most) in
    let there : stripe < length c.self.inside.sizes.items = omega (arith, below, c.make_room-2.ensures.all) in
    let room : length (items_at c.self.inside.sizes.items stripe) + get_or (replicate 64 1) stripe 0 ≤ room_at c.make_room-2.new.vecs.items stripe =
    c.in_ok-make_room-2.ensures.room stripe there in
    let one = get_or-replicate {A = ℕ} 64 stripe 1 0 (omega (arith, there, few, c.self.invariant.sizes_all)) in
    let same = ap length (c.make_room-2.ensures.unchanged stripe) in
    omega (arith, room, one, same)

pub invariant_of-self-2 : goal.invariant_of-self-2
invariant_of-self-2 c =
    let is = c.self.invariant in
    let setup = c.self.inside.setup in
    let batches : List NumberedPieces = values c.self.inside.batches.items in
    let batch : NumberedPieces = c.in_ok-batch.batch.value in
    let bits = c.stripe_bits-stripe_bits.ensures.value in
    let number : c.number.result ≡ batch.number = c.number.ensures ∙ ap (λ (b : NumberedPieces). b.number) c.deref-3.ensures in
    let pushed = values-push c.in_ok-batch.batch c.reserve.ensures.items c.push_reserved.ensures.items in
    subst (λ (all : List NumberedPieces). IsRound setup all c.push_keys.new.keys.items c.push_sizes.new.columns.items (contains nat_eq c.insert.new.self) (c.self.inside.numbers_differ && c.in-Ok.is_new)) (sym pushed)
    (IsRound-more batch is
    (record {
      hashed = c.in_ok-put_hash_values.ensures ∙ ap (batch_hash_values setup) (c.deref.ensures ∙ sym c.in_ok-batch.ensures.cases);
      counted = λ stripe. c.part_sizes-sizes.ensures stripe ∙ ap₂ (λ (s : ℕ) (xs : List ℕ). count_by (falls_in s stripe) xs) bits c.deref-2.ensures.value;
      keys_all = c.push_keys.ensures.all ∙ c.make_room.ensures.all;
      keys_are = λ stripe below. c.push_keys.ensures.keys stripe (subst (λ (s : ℕ). stripe < 2 ^ s) (sym bits) below)
          ∙ ap₂ (λ (xs ys : List ℕ). xs ++ ys) (c.make_room.ensures.unchanged stripe)
          (ap₂ (λ (s : ℕ) (xs : List ℕ). stripe_keys s stripe xs) bits c.deref-4.ensures.value);
      sizes_all = c.push_sizes.ensures.all ∙ c.make_room-2.ensures.all;
      sizes_are = λ stripe within. c.push_sizes.ensures.sizes stripe (omega (arith, within, c.make_room-2.ensures.all))
          ∙ ap (λ (xs : List ℕ). xs ++ get_or c.part_sizes-sizes.result stripe 0 ∷ []) (c.make_room-2.ensures.unchanged stripe);
    })
    (known-then batches batch c.number.result (contains nat_eq c.self.inside.numbers) (contains nat_eq c.insert.new.self) is.known_are number c.in-Ok.ensures.updates.0)
    (differ-more batches batch c.self.inside.numbers_differ c.in-Ok.is_new is.differ_is
    (is-new batches (contains nat_eq c.self.inside.numbers c.number.result) c.in-Ok.is_new (is.known_are c.number.result) number c.in-Ok.ensures.added)))
