use Rattle.std.proofs.Common.{◌∙◌, [], ◌∷◌, ap, length, sym}
use Rattle.kc_word.specs.Shared.{values}
use Rattle.kc_booking.specs.Cut.{keys_of, cut_at}
use Rattle.kc_booking.proofs.RoundLemmas.{one_keys, one_differs}
use Rattle.kc_booking.proofs.cut.Cut.as_round.Goals as goal

pub invariant_of-result : goal.invariant_of-result
invariant_of-result c = rw (ap values c.from_ref.ensures.value) (record {
  keys_are = c.deref.ensures.value ∙ c.self.invariant
      ∙ sym (one_keys (cut_at c.self.inside.setup c.self.inside.batch.value c.self.inside.stripe));
  sizes_are = c.from_ref-2.ensures.value
      ∙ ap (λ n. n ∷ []) (c.requires ∙ ap (λ cut. length (keys_of cut)) (sym c.self.view_is));
  differ_is = one_differs c.self.inside.batch.value;
})
