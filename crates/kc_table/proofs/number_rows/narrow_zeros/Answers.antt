use Rattle.std.proofs.Common.{◌≡◌, ◌∙◌, ◌++◌, ◌∷◌, [], ap, length, arith}
use Rattle.std.proofs.lemmas.List.{length-replicate, replicate_more}
use Rattle.kc_table.proofs.number_rows.narrow_zeros.Goals as goal

pub push_reserved-requires : goal.push_reserved-requires
push_reserved-requires c =
    let long : length c.loop.numbers.items ≡ c.loop.counter =
    ap length c.loop.invariant.zeros ∙ length-replicate c.loop.counter 0 in
    omega (arith, c.loop.numbers.ok.0, c.loop.invariant.room)

pub loop-preserved : goal.loop-preserved
loop-preserved c = record {
  zeros =
      c.push_reserved.ensures.items ∙ ap (λ numbers. numbers ++ 0 ∷ []) c.loop.invariant.zeros
      ∙ replicate_more c.loop.counter 0;
  room = c.push_reserved.ensures.capacity ∙ c.loop.invariant.room;
}
