use Rattle.std.proofs.Common.{◌≡◌, ◌≤◌, ◌∙◌, All, ap, length, vec_len, rules, sym, subst, arith}
use Rattle.std.specs.FinMap.{empty}
use Rattle.std.proofs.lemmas.Iterator.Adapters.{YieldsList-from_vec}
use Rattle.std.proofs.lemmas.Iterator.Consumers.{YieldsList-turn, YieldsList-end}
use Rattle.kc_booking.specs.Setup.{stripe_count, key_bits}
use Rattle.std.proofs.lemmas.List.Elements.{All-nil}
use Rattle.kc_share.specs.Sheet.{OpeningSeen}
use Rattle.kc_stripe.specs.Locked.{IsOnSheet}
use Rattle.kc_stripe.specs.Terms.{IsFullOnlyWhere}
use Rattle.kc_stripe.proofs.stripes.Stripes.new.Goals as goal

pub next_keeper-keeper-requires : goal.next_keeper-keeper-requires
next_keeper-keeper-requires g c =
    let turn = YieldsList-turn (YieldsList-from_vec {s = c.into_iter-table-iterator.result} c.args.tables.items (search rules) (search rules)) c.loop-table.yielded c.loop-table.table-iterator c.loop-table.yielded_by c.next.result c.next.new.self c.in-Some.table c.in-Some.is c.next.ensures.steps in
    let tables : length c.args.tables.items ≡ stripe_count c.args.setup.now = search rules in
    let opening = c.loop-table.invariant.opening in
    omega (arith, turn.0, tables, ap (λ (o : OpeningSeen). o.next) opening, ap (λ (o : OpeningSeen). o.plan.stripes) opening, c.requires.stripes)

pub first_share-share-requires : goal.first_share-share-requires
first_share-share-requires g c =
    let end = YieldsList-end (YieldsList-from_vec {s = c.into_iter-table-iterator.result} c.args.tables.items (search rules) (search rules)) c.loop-table.yielded c.loop-table.table-iterator c.loop-table.yielded_by c.next.result c.next.new.self c.in-None.is c.next.ensures.steps in
    let tables : length c.args.tables.items ≡ stripe_count c.args.setup.now = search rules in
    let opening = c.loop-table.invariant.opening in
    omega (arith, end.1, tables, ap (λ (o : OpeningSeen). o.next) opening, ap (λ (o : OpeningSeen). o.plan.stripes) opening, c.requires.stripes)

pub invariant_of-stripes : goal.invariant_of-stripes
invariant_of-stripes g c =
    let end = YieldsList-end (YieldsList-from_vec {s = c.into_iter-table-iterator.result} c.args.tables.items (search rules) (search rules)) c.loop-table.yielded c.loop-table.table-iterator c.loop-table.yielded_by c.next.result c.next.new.self c.in-None.is c.next.ensures.steps in
    let tables : length c.args.tables.items ≡ stripe_count c.args.setup.now = search rules in
    let locks : vec_len c.loop-table.locks ≡ length c.loop-table.locks.items = search rules in
    let many : vec_len c.loop-table.locks ≡ stripe_count c.args.setup.now = omega (arith, end.1, tables, locks, c.loop-table.invariant.counted) in
    let same : c.in_ok-kept.kept ≡ c.args.setup.now = search rules in
    many ∙ sym (ap stripe_count same)

pub overflow_cast-len : goal.overflow_cast-len
overflow_cast-len g c =
    let turn = YieldsList-turn (YieldsList-from_vec {s = c.into_iter-table-iterator.result} c.args.tables.items (search rules) (search rules)) c.loop-table.yielded c.loop-table.table-iterator c.loop-table.yielded_by c.next.result c.next.new.self c.in-Some.table c.in-Some.is c.next.ensures.steps in
    let tables : length c.args.tables.items ≡ stripe_count c.args.setup.now = search rules in
    let long : c.len-in-loop-table.result ≡ length c.loop-table.locks.items = search rules in
    let most : c.args.sheet.plan.stripes ≤ 64 = search rules in
    omega (arith, turn.0, tables, long, most, c.loop-table.invariant.counted, c.requires.stripes)

pub new-requires-clause-number : goal.new-requires-clause-number
new-requires-clause-number g c =
    let turn = YieldsList-turn (YieldsList-from_vec {s = c.into_iter-table-iterator.result} c.args.tables.items (search rules) (search rules)) c.loop-table.yielded c.loop-table.table-iterator c.loop-table.yielded_by c.next.result c.next.new.self c.in-Some.table c.in-Some.is c.next.ensures.steps in
    let tables : length c.args.tables.items ≡ stripe_count c.args.setup.now = search rules in
    let long : c.len-in-loop-table.result ≡ length c.loop-table.locks.items = search rules in
    omega (arith, turn.0, tables, long, c.loop-table.invariant.counted)

pub new-requires-clause-empty : goal.new-requires-clause-empty
new-requires-clause-empty g c =
    let turn = YieldsList-turn (YieldsList-from_vec {s = c.into_iter-table-iterator.result} c.args.tables.items (search rules) (search rules)) c.loop-table.yielded c.loop-table.table-iterator c.loop-table.yielded_by c.next.result c.next.new.self c.in-Some.table c.in-Some.is c.next.ensures.steps in
    let here = subst (λ table. (g.C.Counts.counts table ≡ empty) × (g.C.Counts.bits table ≡ key_bits c.args.setup.now)) (sym turn.1) (c.requires.tables (length c.loop-table.yielded) c.in-Some.table turn.0) in
    here.0

pub new-requires-clause-key_bits : goal.new-requires-clause-key_bits
new-requires-clause-key_bits g c =
    let turn = YieldsList-turn (YieldsList-from_vec {s = c.into_iter-table-iterator.result} c.args.tables.items (search rules) (search rules)) c.loop-table.yielded c.loop-table.table-iterator c.loop-table.yielded_by c.next.result c.next.new.self c.in-Some.table c.in-Some.is c.next.ensures.steps in
    let here = subst (λ table. (g.C.Counts.counts table ≡ empty) × (g.C.Counts.bits table ≡ key_bits c.args.setup.now)) (sym turn.1) (c.requires.tables (length c.loop-table.yielded) c.in-Some.table turn.0) in
    here.1

pub invariant_of-new : goal.invariant_of-new
invariant_of-new g c =
    let turn = YieldsList-turn (YieldsList-from_vec {s = c.into_iter-table-iterator.result} c.args.tables.items (search rules) (search rules)) c.loop-table.yielded c.loop-table.table-iterator c.loop-table.yielded_by c.next.result c.next.new.self c.in-Some.table c.in-Some.is c.next.ensures.steps in
    let made = c.in_ok-stripe.ensures in
    let on_sheet : IsOnSheet c.in_ok-stripe.stripe c.next_keeper-keeper.result = search rules in
    record {
      on_sheet = on_sheet;
      journal = subst (All g.N.Terms.may_be_booked) (sym made.journal) (All-nil g.N.Terms.may_be_booked);
      limits = subst (λ table. IsFullOnlyWhere g.N.Terms.may_be_full (g.C.Counts.may_be_full table)) (sym turn.1 ∙ sym made.table) (c.requires.limits (length c.loop-table.yielded) c.in-Some.table turn.0);
    }
