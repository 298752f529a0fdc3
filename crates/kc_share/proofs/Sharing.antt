-- The effect of the steps on a share and a keeper.
use Rattle.std.proofs.Common.{◌≡◌, ◌≢◌, ℕ, ◌+◌, ◌^◌, ◌<◌, List, [], ◌∷◌, ◌++◌, length, get_or, set, Bool, true, false, cond, eqb, append-nil, length-append, sym, ap, ◌∙◌, subst, ⊎_elim, arith}
use Rattle.std.specs.Prelude.{slice_index}
use Rattle.std.proofs.lemmas.Bool.Decides.{eqb_tells}
use Rattle.std.proofs.lemmas.List.{get_or-set_same, get_or-set_other}
use Rattle.std.proofs.lemmas.List.Sums.{sum_by-append}
use Rattle.atomic_table.specs.Seated.{TableId}
use Rattle.atomic_table.specs.Table.{Me, Joins}
use Rattle.kc_lemmas.proofs.Sums.{sum_by-ones}
use Rattle.kc_share.specs.declared.entry.Entry.{Entry}
use Rattle.kc_share.specs.declared.entry.Booking.{Booking}
use Rattle.kc_share.specs.declared.entry.KeptStripe.{KeptStripe}
use Rattle.kc_share.specs.declared.entry.Plan.{Plan}
use Rattle.kc_share.specs.declared.entry.View.{View}
use Rattle.kc_share.specs.Entries.{booking_of, entries_in, word_total}
use Rattle.kc_share.specs.Share.{word_total_in, entry_total_in, AreNumbersOf}
use Rattle.kc_share.specs.Rule.{IsState, view_of, keeper_view, blank_view, joined_view, noted_view, view_without_first, Knowledge}
use Rattle.kc_share.proofs.Views.{entries_in-append, words}
use Rattle.kc_share.proofs.Steps.{both_join, noted_one, booked_more}

-- a share's view that has taken in a keeper's
pub with_kept : View → KeptStripe → View
with_kept v it = view_of v.plan v.parts v.booked (it ∷ [])

pub taken_in : (v w : View) (it : KeptStripe) → v.kept ≡ [] → w ≡ keeper_view it → joined_view v w ≡ with_kept v it
unfolding with_kept
taken_in v w it empty is =
    let parts : v.parts + 0 ≡ v.parts = omega arith in
    ap (joined_view v) is ∙ (λ i. view_of v.plan (parts i) (append-nil v.booked i) (empty i ++ it ∷ []))

-- a share's token that has taken in a keeper's
pub record IsTaken {S : Type 0} (v w : View) (it : KeptStripe) (taken : Me S View) : Type 0 where
  pub share_keeps_none : v.kept ≡ []
  pub keeper_keeps : w ≡ keeper_view it
  pub took : taken ≡ (joined_view v w, [])

-- such a token notes an entry; then the kept stripe is split off it again: what is left, and what is known
pub record IsNoted {S : Type 0} (v : View) (it : KeptStripe) (entry : Entry) (left : Me S View) : Type 0 where
  pub leaves : left ≡ (view_of v.plan v.parts (v.booked ++ booking_of it.stripe entry ∷ []) [], [])
  pub tells : Knowledge (noted_one v it entry)

-- the keeper's view goes whole to the share
pub taken_by : {S : Type 0} {v w : View} {it : KeptStripe} {slots : List (ℕ × S)} {all taken : Me S View}
    → v.kept ≡ [] → w ≡ keeper_view it → slots ≡ [] → all ≡ (w, []) → taken ≡ (joined_view v all.0, slots)
    → IsTaken v w it taken
taken_by {S} {v} {w} share_keeps_none keeper_keeps empty is took = record {
  share_keeps_none = share_keeps_none;
  keeper_keeps = keeper_keeps;
  took = took ∙ (λ k. (joined_view v (is k).0, empty k));
}

-- the keeper's view, split off whole, can be joined to the share's on the same sheet
pub can_take_in : {S : Type 0} {sheet name share keeper table : TableId} {parts : ℕ} {w : View} {all : Me S View} (plan : Plan) (id : ℕ) (v : View) (other : ℕ)
    → sheet ≡ name → 0 < sheet.words → share ≡ name → (parts ≡ v.parts) × (0 < parts) → keeper ≡ name → table ≡ keeper → all ≡ (w, [])
    → (share ≡ sheet) × (table ≡ sheet) × (all.1 ≡ []) × (0 < sheet.words) × Joins {S = S} (IsState plan) id v other all.0 (joined_view v all.0) blank_view
can_take_in {S} {all = all} plan id v other named word share_named some_part keeper_named split is = (
  share_named ∙ sym named,
  split ∙ keeper_named ∙ sym named,
  ap (λ (m : Me S View). m.1) is,
  word,
  both_join plan id v other all.0 (omega (arith, some_part.0, some_part.1)),
)

module _ {S : Type 0} {v w : View} {it : KeptStripe} {taken : Me S View} (is : IsTaken v w it taken) where
  taken_view : taken.0 ≡ with_kept v it
  taken_view = ap (λ (m : Me S View). m.0) is.took ∙ taken_in v w it is.share_keeps_none is.keeper_keeps

  pub keeps_one : taken.0.kept ≡ it ∷ []
  unfolding with_kept
  keeps_one = ap (λ (view : View). view.kept) taken_view

  pub same_parts : taken.0.parts ≡ v.parts
  unfolding with_kept
  same_parts = ap (λ (view : View). view.parts) taken_view

  -- an entry is noted, and the kept stripe is split off again
  pub noted_by : {entry : Entry} {booked left : Me S View} → (booked ≡ (noted_view entry taken.0, taken.1)) × Knowledge (noted_view entry taken.0)
      → left ≡ (view_without_first booked.0, booked.1) → IsNoted v it entry left
  unfolding with_kept noted_one
  noted_by {entry} {booked} book goes =
      let noted : noted_view entry taken.0 ≡ noted_one v it entry = ap (noted_view entry) taken_view in
      let view : booked.0 ≡ noted_one v it entry = ap (λ (m : Me S View). m.0) book.0 ∙ noted in
      let none : booked.1 ≡ [] = ap (λ (m : Me S View). m.1) book.0 ∙ ap (λ (m : Me S View). m.1) is.took in
      record { leaves = goes ∙ (λ k. (view_without_first (view k), none k)); tells = subst Knowledge noted book.1 }

-- ---- a share's numbers

-- one more booking
words_more : (stripe : ℕ) (v : View) (it : KeptStripe) (entry : Entry) → word_total_in stripe (v.booked ++ booking_of it.stripe entry ∷ []) ≡ word_total_in stripe v.booked + cond (eqb it.stripe stripe) entry.words 0
unfolding noted_one
words_more stripe v it entry = booked_more stripe words v it entry

entries_more : (stripe : ℕ) (v : View) (it : KeptStripe) (entry : Entry) → entry_total_in stripe (v.booked ++ booking_of it.stripe entry ∷ []) ≡ entry_total_in stripe v.booked + cond (eqb it.stripe stripe) 1 0
unfolding noted_one
entries_more stripe v it entry =
    omega (arith, booked_more stripe (λ _. 1) v it entry, sum_by-ones (entries_in stripe (v.booked ++ booking_of it.stripe entry ∷ [])), sum_by-ones (entries_in stripe v.booked))

-- numbers in which one index has more
AreNumbersOf-more_at : {tell : ℕ → ℕ} (numbers : List ℕ) (index more : ℕ) → length numbers ≡ 64 → index < 64 → AreNumbersOf tell numbers
    → AreNumbersOf (λ stripe. tell stripe + cond (eqb index stripe) more 0) (set numbers index (get_or numbers index 0 + more))
AreNumbersOf-more_at {tell} numbers index more long small told stripe less = ⊎_elim
    (λ (here : (eqb index stripe ≡ true) × (index ≡ stripe)).
    let added : cond (eqb index stripe) more 0 ≡ more = ap {B = ℕ} (λ (b : Bool). cond b more 0) here.0 in
    let old : get_or numbers index 0 ≡ tell stripe = told index small ∙ ap tell here.1 in
    ap (λ k. get_or (set numbers index (get_or numbers index 0 + more)) k 0) (sym here.1) ∙ get_or-set_same numbers index (get_or numbers index 0 + more) 0 (omega arith) ∙ omega (arith, old, added))
    (λ (else : (eqb index stripe ≡ false) × (index ≢ stripe)).
    let added : cond (eqb index stripe) more 0 ≡ 0 = ap {B = ℕ} (λ (b : Bool). cond b more 0) else.0 in
    get_or-set_other numbers index stripe (get_or numbers index 0 + more) 0 (λ same. else.1 (sym same)) ∙ omega (arith, told stripe less, added))
    (eqb_tells index stripe)

-- the index is that of a stripe among 64 numbers
pub record IsIndexOf (it : KeptStripe) (numbers : List ℕ) (index : ℕ) : Type 0 where
  pub long : length numbers ≡ 64
  pub here : index ≡ it.stripe
  pub small : index < 64

module _ (v : View) (entry : Entry) {it : KeptStripe} {numbers : List ℕ} {index : ℕ} (place : IsIndexOf it numbers index) where
  pub words_told : (more : ℕ) → more ≡ entry.words → AreNumbersOf (λ stripe. word_total_in stripe v.booked) numbers
      → AreNumbersOf (λ stripe. word_total_in stripe (v.booked ++ booking_of it.stripe entry ∷ [])) (set numbers index (get_or numbers index 0 + more))
  words_told more is told stripe less =
      AreNumbersOf-more_at numbers index more place.long place.small told stripe less
      ∙ ap (λ (n : ℕ). word_total_in stripe v.booked + cond (eqb index stripe) n 0) is
      ∙ ap (λ (k : ℕ). word_total_in stripe v.booked + cond (eqb k stripe) entry.words 0) place.here
      ∙ sym (words_more stripe v it entry)

  pub entries_told : AreNumbersOf (λ stripe. entry_total_in stripe v.booked) numbers
      → AreNumbersOf (λ stripe. entry_total_in stripe (v.booked ++ booking_of it.stripe entry ∷ [])) (set numbers index (get_or numbers index 0 + 1))
  entries_told told stripe less =
      AreNumbersOf-more_at numbers index 1 place.long place.small told stripe less
      ∙ ap (λ (k : ℕ). entry_total_in stripe v.booked + cond (eqb k stripe) 1 0) place.here
      ∙ sym (entries_more stripe v it entry)

  pub words_room : (more : ℕ) → more ≡ entry.words → Knowledge (noted_one v it entry) → AreNumbersOf (λ stripe. word_total_in stripe v.booked) numbers → get_or numbers index 0 + more < 2 ^ 64
  unfolding noted_one
  words_room more is known tell =
      let told = words_told more is tell index place.small in
      let now : get_or (set numbers index (get_or numbers index 0 + more)) index 0 ≡ get_or numbers index 0 + more = get_or-set_same numbers index (get_or numbers index 0 + more) 0 (omega (arith, place.long, place.small)) in
      omega (arith, known.words_fit index, told, now)

  pub entries_room : Knowledge (noted_one v it entry) → AreNumbersOf (λ stripe. entry_total_in stripe v.booked) numbers → get_or numbers index 0 + 1 < 2 ^ 64
  unfolding noted_one
  entries_room known tell =
      let told = entries_told tell index place.small in
      let now : get_or (set numbers index (get_or numbers index 0 + 1)) index 0 ≡ get_or numbers index 0 + 1 = get_or-set_same numbers index (get_or numbers index 0 + 1) 0 (omega (arith, place.long, place.small)) in
      omega (arith, known.entries_fit index, told, now)

-- two shares' numbers together
pub words_together : (stripe : ℕ) (xs ys : List Booking) → word_total_in stripe (xs ++ ys) ≡ word_total_in stripe xs + word_total_in stripe ys
words_together stripe xs ys = ap word_total (entries_in-append stripe xs ys) ∙ sum_by-append words (entries_in stripe xs) (entries_in stripe ys)

pub entries_together : (stripe : ℕ) (xs ys : List Booking) → entry_total_in stripe (xs ++ ys) ≡ entry_total_in stripe xs + entry_total_in stripe ys
entries_together stripe xs ys = ap length (entries_in-append stripe xs ys) ∙ length-append (entries_in stripe xs) (entries_in stripe ys)

-- a share's token that is joined with another's, and then looked through
pub record IsJoinedLook {S : Type 0} (v w : View) (taken : List (ℕ × S)) (both looked : Me S View) : Type 0 where
  pub empty : taken ≡ []
  pub joins : both ≡ (joined_view v w, taken)
  pub look : (looked ≡ both) × Knowledge both.0

module _ {S : Type 0} {v w : View} {taken : List (ℕ × S)} {both looked : Me S View} (joined : IsJoinedLook v w taken both looked) where
  pub both_looked : looked ≡ (joined_view v w, [])
  both_looked = joined.look.0 ∙ joined.joins ∙ ap {B = Me S View} (λ slots. (joined_view v w, slots)) joined.empty

  both_known : Knowledge (joined_view v w)
  both_known = subst Knowledge (ap (λ (m : Me S View). m.0) joined.joins) joined.look.1

  pub words_have_room : (numbers others : List ℕ) → AreNumbersOf (λ stripe. word_total_in stripe v.booked) numbers → AreNumbersOf (λ stripe. word_total_in stripe w.booked) others
      → (stripe : ℕ) → stripe < 64 → slice_index numbers stripe + slice_index others stripe < 2 ^ 64
  words_have_room numbers others told tells stripe small = omega (arith, both_known.words_fit stripe, words_together stripe v.booked w.booked, told stripe small, tells stripe small)

  pub entries_have_room : (numbers others : List ℕ) → AreNumbersOf (λ stripe. entry_total_in stripe v.booked) numbers → AreNumbersOf (λ stripe. entry_total_in stripe w.booked) others
      → (stripe : ℕ) → stripe < 64 → slice_index numbers stripe + slice_index others stripe < 2 ^ 64
  entries_have_room numbers others told tells stripe small = omega (arith, both_known.entries_fit stripe, entries_together stripe v.booked w.booked, told stripe small, tells stripe small)

  pub words_added : (numbers others sums : List ℕ) → AreNumbersOf (λ stripe. word_total_in stripe v.booked) numbers → AreNumbersOf (λ stripe. word_total_in stripe w.booked) others
      → ((stripe : ℕ) → stripe < 64 → slice_index sums stripe ≡ slice_index numbers stripe + slice_index others stripe) → AreNumbersOf (λ stripe. word_total_in stripe looked.0.booked) sums
  words_added numbers others sums told tells sum =
      rw (ap (λ (m : Me S View). m.0.booked) both_looked)
      (λ stripe small. omega (arith, sum stripe small, told stripe small, tells stripe small, words_together stripe v.booked w.booked))

  pub entries_added : (numbers others sums : List ℕ) → AreNumbersOf (λ stripe. entry_total_in stripe v.booked) numbers → AreNumbersOf (λ stripe. entry_total_in stripe w.booked) others
      → ((stripe : ℕ) → stripe < 64 → slice_index sums stripe ≡ slice_index numbers stripe + slice_index others stripe) → AreNumbersOf (λ stripe. entry_total_in stripe looked.0.booked) sums
  entries_added numbers others sums told tells sum =
      rw (ap (λ (m : Me S View). m.0.booked) both_looked)
      (λ stripe small. omega (arith, sum stripe small, told stripe small, tells stripe small, entries_together stripe v.booked w.booked))
