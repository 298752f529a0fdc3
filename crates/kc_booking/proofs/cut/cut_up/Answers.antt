use Rattle.std.proofs.Common.{◌≡◌, ◌∙◌, ◌≤◌, [], ◌∷◌, ◌++◌, ℕ, List, ap, ap₂, length, map, sym, vec_len, rules}
use Rattle.std.specs.List.{range_with_len}
use Rattle.kc_word.specs.Cutting.{NumberedPieces}
use Rattle.std.proofs.lemmas.Iterator.Adapters.{YieldsList-from_vec}
use Rattle.std.proofs.lemmas.Iterator.Consumers.{YieldsList-turn, YieldsList-end}
use Rattle.std.proofs.lemmas.List.{length_push}
use Rattle.kc_booking.specs.Setup.{StripeSetup, stripe_count}
use Rattle.kc_booking.specs.Cut.{cut_at, keys_of}
use Rattle.kc_booking.proofs.Parts.{made-more, length-made}
use Rattle.kc_booking.proofs.Rounds.{one-cut}
use Rattle.kc_booking.proofs.cut.cut_up.Goals as goal

pub overflow_cast-cut : goal.overflow_cast-cut
overflow_cast-cut c =
    let turn = YieldsList-turn (YieldsList-from_vec {s = c.into_iter-keys-iterator.result} c.into_keys-parts.result.items (search rules) (search rules)) c.loop-keys.yielded c.loop-keys.keys-iterator c.loop-keys.yielded_by c.next.result c.next.new.self c.in-Some.keys c.in-Some.is c.next.ensures.steps in
    let whole : vec_len c.loop-keys.cuts ≡ length c.loop-keys.cuts.items = search rules in
    let place : c.len.result ≡ length c.loop-keys.yielded = c.len.ensures ∙ whole ∙ length-made _ _ _ c.loop-keys.invariant in
    let few : length c.into_keys-parts.result.items ≤ 64 = c.into_keys-parts.ensures.few in
    search rules

pub invariant_of-cut : goal.invariant_of-cut
invariant_of-cut c =
    let turn = YieldsList-turn (YieldsList-from_vec {s = c.into_iter-keys-iterator.result} c.into_keys-parts.result.items (search rules) (search rules)) c.loop-keys.yielded c.loop-keys.keys-iterator c.loop-keys.yielded_by c.next.result c.next.new.self c.in-Some.keys c.in-Some.is c.next.ensures.steps in
    let whole : vec_len c.loop-keys.cuts ≡ length c.loop-keys.cuts.items = search rules in
    let place : c.len.result ≡ length c.loop-keys.yielded = c.len.ensures ∙ whole ∙ length-made _ _ _ c.loop-keys.invariant in
    let one = ap (λ (bs : List NumberedPieces). bs ++ c.args.batch.now.value ∷ []) c.in_ok-round.ensures.batches in
    rw c.in_ok-setup.ensures.cases
    (one-cut c.into_keys-parts.result.items (c.in_ok-cut_up.ensures.setup ∙ c.in_ok-round.ensures.setup) (c.in_ok-cut_up.ensures.batches ∙ one)
    c.into_keys-parts.ensures.all c.into_keys-parts.ensures.keys turn
    ∙ ap₂ (λ (batch : NumberedPieces) (i : ℕ). keys_of (cut_at c.args.setup.now batch i)) (sym c.in_ok-clone.ensures.cases) (sym place))

pub loop-keys-preserved : goal.loop-keys-preserved
loop-keys-preserved c =
    let whole : vec_len c.loop-keys.cuts ≡ length c.loop-keys.cuts.items = search rules in
    let place : c.len.result ≡ length c.loop-keys.yielded = c.len.ensures ∙ whole ∙ length-made _ _ _ c.loop-keys.invariant in
    rw length_push
    (c.in_ok-push.ensures.items
    ∙ ap (λ (s : StripeSetup). c.loop-keys.cuts.items ++ cut_at s c.in_ok-clone.field-0.value c.len.result ∷ []) c.in_ok-setup.ensures.cases
    ∙ ap₂ (λ (batch : NumberedPieces) (i : ℕ). c.loop-keys.cuts.items ++ cut_at c.args.setup.now batch i ∷ []) c.in_ok-clone.ensures.cases place
    ∙ made-more (cut_at c.args.setup.now c.args.batch.now.value) c.loop-keys.cuts.items (length c.loop-keys.yielded) c.loop-keys.invariant)

pub returns : goal.returns
returns c =
    let end = YieldsList-end (YieldsList-from_vec {s = c.into_iter-keys-iterator.result} c.into_keys-parts.result.items (search rules) (search rules)) c.loop-keys.yielded c.loop-keys.keys-iterator c.loop-keys.yielded_by c.next.result c.next.new.self c.in-None.is c.next.ensures.steps in
    c.loop-keys.invariant
    ∙ ap (λ (n : ℕ). map (cut_at c.args.setup.now c.args.batch.now.value) (range_with_len 0 n))
    (end.1 ∙ c.into_keys-parts.ensures.all ∙ ap stripe_count (c.in_ok-cut_up.ensures.setup ∙ c.in_ok-round.ensures.setup))
