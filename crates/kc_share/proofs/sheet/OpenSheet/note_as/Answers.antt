use Rattle.std.proofs.Common.{◌≡◌, ◌+◌, ◌^◌, ◌<◌, length, sym, ap, ◌∙◌, arith}
use Rattle.kc_share.specs.declared.entry.Entry.{Entry}
use Rattle.kc_share.specs.declared.entry.KeptStripe.{KeptStripe}
use Rattle.kc_share.specs.Entries.{word_total}
use Rattle.kc_share.specs.Share.{first_kept}
use Rattle.kc_share.proofs.Steps.{all_goes, booking_is_allowed, first_goes}
use Rattle.kc_share.proofs.Sharing.{IsTaken, IsNoted, IsIndexOf, can_take_in, taken_by, noted_by, keeps_one, same_parts, words_room, entries_room, words_told, entries_told}
use Rattle.kc_share.proofs.sheet.OpenSheet.note_as.Goals as goal

-- the share's token has taken in the keeper's
taken : (g : _) (c : goal.After-load-arg-1 g) → IsTaken c.share.inside.token.me.0 c.keeper.inside.token.me.0 (first_kept c.keeper.inside.token.me.0.kept) c.join_seat.new.seat.me
taken g c = taken_by c.share.invariant.2 (ap (λ m. m.0) c.keeper.invariant.1) c.share.invariant.1 c.split_seat-all.ensures.4 c.join_seat.ensures.2

pub split_seat-all-requires : goal.split_seat-all-requires
split_seat-all-requires g c = (c.keeper.invariant.0 ∙ sym c.self.invariant.0, omega arith, all_goes _ _ _)

pub join_seat-requires : goal.join_seat-requires
join_seat-requires g c =
    let share = c.share.invariant in
    let all = c.split_seat-all.ensures in
    can_take_in _ _ _ _ c.self.invariant.0 (omega arith) share.0 (share.3, share.4) c.keeper.invariant.0 all.3 all.4

pub load-requires : goal.load-requires
load-requires g c =
    let share = c.share.invariant in
    let it = c.keeper.view_is in
    let few_words : word_total (first_kept c.keeper.inside.token.me.0.kept).journal + g.E.Event.entry.words < 2 ^ 64 = omega (arith, c.requires.words, ap (λ (k : KeptStripe). word_total k.journal) it, ap (λ (e : Entry). e.words) c.requires.entry) in
    let few_entries : length (first_kept c.keeper.inside.token.me.0.kept).journal + 1 < 2 ^ 64 = omega (arith, c.requires.entries, ap (λ (k : KeptStripe). length k.journal) it) in (
      c.join_seat.ensures.0 ∙ share.0 ∙ sym c.self.invariant.0,
      omega arith,
      booking_is_allowed _ _ _ _ _ _ (record {
        keeps_it = keeps_one (taken g c);
        some_part = omega (arith, same_parts (taken g c), share.3, share.4);
        few_words = few_words;
        few_entries = few_entries;
      }),
    )

pub split_seat-requires : goal.split_seat-requires
split_seat-requires g c =
    (c.load.ensures.0 ∙ c.join_seat.ensures.0 ∙ c.share.invariant.0 ∙ sym c.self.invariant.0, omega arith, first_goes _ _ _)

-- the entry was noted
noted : (g : _) (c : goal.After-share-1 g) → IsNoted c.share.inside.token.me.0 (first_kept c.keeper.inside.token.me.0.kept) g.E.Event.entry c.split_seat.new.seat.me
noted g c = noted_by (taken g c.before.before.before.before.before.before.before) c.load.ensures.2 c.split_seat.ensures.2

-- the stripe's place among the numbers of words and of entries
words_at : (g : _) (c : goal.After-share-1 g) → IsIndexOf (first_kept c.keeper.inside.token.me.0.kept) c.share.inside.words c.keeper.inside.stripe
words_at g c = record { long = c.share.told.0; here = c.keeper.invariant.2; small = c.keeper.invariant.3 }

entries_at : (g : _) (c : goal.After-share-1 g) → IsIndexOf (first_kept c.keeper.inside.token.me.0.kept) c.share.inside.entries c.keeper.inside.stripe
entries_at g c = record { long = c.share.told.1; here = c.keeper.invariant.2; small = c.keeper.invariant.3 }

words_are : (g : _) (c : goal.After-share-1 g) → c.args.words ≡ g.E.Event.entry.words
words_are g c = sym (ap (λ (e : Entry). e.words) c.requires.entry)

pub overflow_add-share : goal.overflow_add-share
overflow_add-share g c =
    omega (arith, words_room c.share.inside.token.me.0 _ (words_at g c) c.args.words (words_are g c) (noted g c).tells c.share.invariant.6)

pub overflow_add-share-2 : goal.overflow_add-share-2
overflow_add-share-2 g c =
    omega (arith, entries_room c.share.inside.token.me.0 _ (entries_at g c.before) (noted g c.before).tells c.share.invariant.7)

pub invariant_of-share : goal.invariant_of-share
invariant_of-share g c =
    let share = c.share.invariant in
    let left = (noted g c.before).leaves in
    let words = words_told c.share.inside.token.me.0 g.E.Event.entry (words_at g c.before) c.args.words (words_are g c.before) share.6 in
    let entries = entries_told c.share.inside.token.me.0 g.E.Event.entry (entries_at g c.before) share.7 in (
      c.split_seat.ensures.0 ∙ c.load.ensures.0 ∙ c.join_seat.ensures.0 ∙ share.0,
      ap (λ m. m.1) left,
      ap (λ m. m.0.kept) left,
      share.3 ∙ sym (ap (λ m. m.0.parts) left),
      share.4,
      rw (ap (λ m. m.0.plan.stripes) left) share.5,
      rw (ap (λ m. m.0.booked) left) words,
      rw (ap (λ m. m.0.booked) left) entries,
    )
