-- How many entries of each stripe are among bookings.
use Rattle.std.proofs.Common.{◌≡◌, ◌≢◌, ℕ, ◌+◌, ◌≤◌, List, [], ◌∷◌, ◌++◌, cond, eq-eqb, length, length-append, map, refl, sym, ap, ◌∙◌, subst, arith, ⊎_elim}
use Rattle.std.proofs.lemmas.Bool.{cases_lt, ne_eqb}
use Rattle.kc_share.specs.declared.entry.Entry.{Entry}
use Rattle.kc_share.specs.declared.entry.Booking.{Booking}
use Rattle.kc_share.specs.Entries.{entries_in, booking_of}
use Rattle.kc_share.specs.Share.{ShareSeen, with_booking, entry_total_in}
use Rattle.kc_share.proofs.Views.{entries_in-append}
use Rattle.kc_run.specs.Runs.{HaveMore, HaveMoreIn}

pub no_entries : (stripe : ℕ) → entry_total_in stripe [] ≡ 0
unfolding entries_in
no_entries stripe = refl

pub entries-joined : (stripe : ℕ) (xs ys : List Booking) → entry_total_in stripe (xs ++ ys) ≡ entry_total_in stripe xs + entry_total_in stripe ys
entries-joined stripe xs ys = ap length (entries_in-append stripe xs ys) ∙ length-append (entries_in stripe xs) (entries_in stripe ys)

one_there : (stripe : ℕ) (entry : Entry) → entry_total_in stripe (booking_of stripe entry ∷ []) ≡ 1
unfolding entries_in
one_there stripe entry =
    ap (λ b. length (map (λ (booking : Booking). booking.entry) (cond b (booking_of stripe entry ∷ []) []))) (eq-eqb stripe stripe refl)

none_elsewhere : (stripe other : ℕ) (entry : Entry) → other ≢ stripe → entry_total_in stripe (booking_of other entry ∷ []) ≡ 0
unfolding entries_in
none_elsewhere stripe other entry apart =
    ap (λ b. length (map (λ (booking : Booking). booking.entry) (cond b (booking_of other entry ∷ []) []))) (ne_eqb other stripe apart)

-- an entry was booked into this stripe
pub record IsBookedInto (stripe at : ℕ) (entry : Entry) (share new : ShareSeen) : Type 0 where
  pub is : new ≡ with_booking share at entry
  pub here : at ≡ stripe

-- one more booking into the one stripe
pub HaveMoreIn-more : {old : List Booking} {n : ℕ} (stripe at : ℕ) (entry : Entry) (share new : ShareSeen)
    → IsBookedInto stripe at entry share new
    → HaveMoreIn stripe (stripe + 1) n old share.booked → HaveMoreIn stripe (stripe + 1) (n + 1) old new.booked
HaveMoreIn-more stripe at entry share new booked before =
    let same = booked.here in
    let one_more = λ (other : ℕ). ap (λ (share : ShareSeen). entry_total_in other share.booked) booked.is
    ∙ entries-joined other share.booked (booking_of at entry ∷ []) in
    record {
      there = λ other low high.
          let here : at ≡ other = omega (arith, same, low, high) in
          let one : entry_total_in other (booking_of at entry ∷ []) ≡ 1 =
          subst (λ k. entry_total_in other (booking_of k entry ∷ []) ≡ 1) (sym here) (one_there other entry) in
          omega (arith, one_more other, one, before.there other low high);
      before = λ other less.
          let apart : at ≢ other = λ here. absurd (omega (arith, here, same, less)) in
          omega (arith, one_more other, none_elsewhere other at entry apart, before.before other less);
      behind = λ other more.
          let apart : at ≢ other = λ here. absurd (omega (arith, here, same, more)) in
          omega (arith, one_more other, none_elsewhere other at entry apart, before.behind other more);
    }

-- nothing booked yet
pub HaveMoreIn-none : (from to : ℕ) (booked : List Booking) → HaveMoreIn from to 0 booked booked
HaveMoreIn-none from to booked = record { there = λ stripe low high. omega arith; before = λ stripe less. refl; behind = λ stripe more. refl }

-- booked into some stripes, and then into the next one
pub HaveMoreIn-next : {from stripe n : ℕ} {old between new : List Booking} → from ≤ stripe
    → HaveMoreIn from stripe n old between → HaveMoreIn stripe (stripe + 1) n between new → HaveMoreIn from (stripe + 1) n old new
HaveMoreIn-next {from} {stripe} {n} {old} {between} {new} low one two = record {
  there = λ other least less. ⊎_elim
      (λ before. two.before other before ∙ one.there other least before)
      (λ behind. two.there other behind less ∙ ap (λ m. m + n) (one.behind other behind))
      (cases_lt other stripe);
  before = λ other less. two.before other (omega (arith, low, less)) ∙ one.before other less;
  behind = λ other more. two.behind other more ∙ one.behind other (omega (arith, more));
}

-- booked into the stripes from one on, and then into those before it
pub HaveMoreIn-round : {first stripes n : ℕ} {old between new : List Booking}
    → HaveMoreIn first stripes n old between → HaveMoreIn 0 first n between new → HaveMore stripes n old new
HaveMoreIn-round {first} {stripes} {n} {old} {between} {new} one two stripe less =
    ⊎_elim
    (λ low. two.there stripe (omega arith) low ∙ ap (λ m. m + n) (one.before stripe low))
    (λ high. two.behind stripe high ∙ one.there stripe high less)
    (cases_lt stripe first)
