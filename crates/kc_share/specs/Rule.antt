-- The rule of a sheet, which holds between any two atomic steps, in whatever order threads take them, and the effect of
-- each step on the views. It is this project's own.
-- The sheet has one atomic word: the number of parts. Each share has a view: its parts and its bookings. Each keeper
-- has one, too: its stripe's number and journal. During a booking one view has both.
use Rattle.std.specs.Prelude.{◌≡◌, ℕ, zero, suc, ◌+◌, ◌-◌, ◌^◌, ◌<◌, ◌≤◌, ◌==◌, List, [], ◌∷◌, ◌++◌}
use Rattle.std.specs.Prelude.{length, drop, take, if◌then◌else◌, sum_by, count_by}
use Rattle.std.specs.List.{flat_map}
use mathlib.Core.Option.{some}
use lib.ListN.{get_elem?}
use Rattle.atomic_table.specs.Table.{State, Step, Me}
use Rattle.kc_share.specs.declared.entry.Entry.{Entry}
use Rattle.kc_share.specs.declared.entry.Booking.{Booking}
use Rattle.kc_share.specs.declared.entry.Plan.{Plan}
use Rattle.kc_share.specs.declared.entry.KeptStripe.{KeptStripe}
use Rattle.kc_share.specs.declared.entry.View.{View}
use Rattle.kc_share.specs.Entries.{entries_in, booking_of, word_total, AreSame, AreAmong}
use Rattle.kc_share.specs.Share.{ShareSeen, kept_stripe, with_entry}

-- the journal of the stripe with this number, among these kept stripes
unfoldable pub journal_for : ℕ → List KeptStripe → List Entry
journal_for stripe them = flat_map (λ it. if it.stripe == stripe then it.journal else []) them

-- all that was booked into a stripe, and all that is kept for it, over all views
unfoldable pub booked_entries : ℕ → List View → List Entry
booked_entries stripe views = flat_map (λ view. entries_in stripe view.booked) views

unfoldable pub kept_entries : ℕ → List View → List Entry
kept_entries stripe views = flat_map (λ view. journal_for stripe view.kept) views

-- how often a stripe is kept, over all views
unfoldable pub keeper_count : ℕ → List View → ℕ
keeper_count stripe views = sum_by (λ view. count_by (λ it. it.stripe == stripe) view.kept) views

-- A view with parts has the plan of the sheet. A view without parts has booked nothing.
pub record IsViewOf (plan : Plan) (view : View) : Type 0 where
  pub has_plan : 0 < view.parts → view.plan ≡ plan
  pub idle : view.parts ≡ 0 → view.booked ≡ []

-- The parts of all views add up to those of the plan. The entries booked into a stripe are those kept for it, each as
-- often. A stripe is kept at most once. Its words and its entries are fewer than 2^64.
pub record IsSheet (plan : Plan) (views : List View) : Type 0 where
  pub shared_out : sum_by (λ view. view.parts) views ≡ plan.parts
  pub balanced : (stripe : ℕ) → AreSame (booked_entries stripe views) (kept_entries stripe views)
  pub one_keeper : (stripe : ℕ) → keeper_count stripe views ≤ 1
  pub words_fit : (stripe : ℕ) → word_total (booked_entries stripe views) < 2 ^ 64
  pub entries_fit : (stripe : ℕ) → length (booked_entries stripe views) < 2 ^ 64
  pub fits : (k : ℕ) (view : View) → get_elem? views k ≡ some view → IsViewOf plan view

-- the rule: the word is the number of parts, and the views are those of a sheet
abbrev pub IsState : {S : Type 0} → Plan → State S View → Type 0
IsState plan s = (s.words ≡ plan.parts ∷ []) × IsSheet plan s.views

abbrev pub view_of : Plan → ℕ → List Booking → List KeptStripe → View
view_of plan parts booked them = record { plan = plan; parts = parts; booked = booked; kept = them }

abbrev pub no_plan : Plan
no_plan = record { stripes = 0; parts = 0 }

-- `count` stripes, numbered from `first` on, with empty journals
abbrev pub empty_stripes : ℕ → ℕ → List KeptStripe
empty_stripes first zero = []
empty_stripes first (suc count) = kept_stripe first [] ∷ empty_stripes (first + 1) count

-- at the start one view has all parts and keeps all stripes
abbrev pub first_view : Plan → View
first_view plan = view_of plan plan.parts [] (empty_stripes 0 plan.stripes)

-- a share's view, and the view behind a stripe's lock
abbrev pub share_view : ShareSeen → View
share_view share = view_of share.plan share.parts share.booked []

abbrev pub keeper_view : KeptStripe → View
keeper_view it = view_of no_plan 0 [] (it ∷ [])

-- Splits, each at one load: one part leaves the view; the first of the kept stripes leaves it; everything leaves it.
abbrev pub view_less_part : View → View
view_less_part view = view_of view.plan (view.parts - 1) view.booked view.kept

abbrev pub part_view : View → View
part_view view = view_of view.plan 1 [] []

abbrev pub view_without_first : View → View
view_without_first view = view_of view.plan view.parts view.booked (drop 1 view.kept)

abbrev pub first_kept_view : View → View
first_kept_view view = view_of no_plan 0 [] (take 1 view.kept)

abbrev pub blank_view : View
blank_view = view_of no_plan 0 [] []

-- A join, at one load: one view gets what both had, and the other is blank.
abbrev pub joined_view : View → View → View
joined_view view other =
    view_of view.plan (view.parts + other.parts) (view.booked ++ other.booked) (view.kept ++ other.kept)

-- What is known of a view. Its parts and sums fit 64 bits. If it keeps one stripe, what it booked into that stripe is
-- among the journal; and if it has all parts, it is the whole journal.
pub record Knowledge (view : View) : Type 0 where
  pub parts_fit : view.parts < 2 ^ 64
  pub words_fit : (stripe : ℕ) → word_total (entries_in stripe view.booked) < 2 ^ 64
  pub entries_fit : (stripe : ℕ) → length (entries_in stripe view.booked) < 2 ^ 64
  pub among : (it : KeptStripe) → view.kept ≡ it ∷ [] → AreAmong (entries_in it.stripe view.booked) it.journal
  pub whole : (it : KeptStripe) → view.kept ≡ it ∷ [] → 0 < view.parts → view.parts ≡ view.plan.parts
      → AreSame (entries_in it.stripe view.booked) it.journal

-- A look is one load. The view does not change.
abbrev pub IsLook : {S : Type 0} → Step S → Me S View → ℕ → Me S View → Type 0
IsLook step me found now = (now ≡ me) × Knowledge me.0

-- the view with an entry booked into the first stripe that it keeps, and appended to that stripe's journal
abbrev pub view_noted_in : View → Entry → List KeptStripe → View
view_noted_in view entry [] = view
view_noted_in view entry (it ∷ more) =
    view_of view.plan view.parts (view.booked ++ booking_of it.stripe entry ∷ []) (with_entry it entry ∷ more)

abbrev pub noted_view : Entry → View → View
noted_view entry view = view_noted_in view entry view.kept

-- A booking is one load, at which the view gets the entry as a booking and in the journal.
abbrev pub IsBooking : Entry → {S : Type 0} → Step S → Me S View → ℕ → Me S View → Type 0
IsBooking entry step me found now = (now ≡ (noted_view entry me.0, me.1)) × Knowledge (noted_view entry me.0)
