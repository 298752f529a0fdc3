-- Each atomic step keeps the rule, and what follows from the rule.
use Rattle.std.proofs.Common.{◌≡◌, ◌≢◌, ℕ, zero, suc, ◌+◌, ◌-◌, ◌^◌, ◌<◌, ◌≤◌, List, [], ◌∷◌, ◌++◌, length, map, take, drop, set, Bool, true, false, cond, eqb, append-nil, refl, sym, ap, ◌∙◌, subst, ⊎_elim, arith, sum_by, count_by}
use Rattle.std.specs.Prelude.{slice_index, replicate}
use Rattle.std.proofs.lemmas.List.{get_or-replicate}
use mathlib.Core.Option.{none, some, some-ne-none, some-injective}
use lib.ListN.{get_elem?}
use Rattle.atomic_table.specs.Table.{Me, Act, keeps as no_act, carried_after, Allows, Splits, Joins, Valid, stepped, step, opening}
use Rattle.atomic_table.proofs.Lists.{set_again}
use Rattle.std.proofs.lemmas.Bool.Decides.{eqb_tells}
use Rattle.std.proofs.lemmas.List.Sums.{sum_by-cons, sum_by-append, sum_by_push}
use Rattle.kc_lemmas.proofs.Sums.{sum_by-ones, sum_by-set_elem}
use Rattle.kc_share.specs.declared.entry.Entry.{Entry}
use Rattle.kc_share.specs.declared.entry.Booking.{Booking}
use Rattle.kc_share.specs.declared.entry.Plan.{Plan}
use Rattle.kc_share.specs.declared.entry.KeptStripe.{KeptStripe}
use Rattle.kc_share.specs.declared.entry.View.{View}
use Rattle.kc_share.specs.Entries.{booking_of, entries_in, word_total}
use Rattle.kc_share.specs.Share.{kept_stripe, with_entry, word_total_in, entry_total_in, AreNumbersOf}
use Rattle.kc_share.specs.Rule.{journal_for, IsViewOf, IsSheet, IsState, view_of, empty_stripes, first_view, view_less_part, part_view, view_without_first, first_kept_view, no_plan, keeper_view, blank_view, joined_view, Knowledge, IsLook, view_noted_in, noted_view, IsBooking}
use Rattle.kc_share.proofs.Views.{entries_in-append, journal_for-append, booked_weight, kept_weight, blank_booked, keeps, words, Weighed, weighed, is_sheet, AreViewsOf-set, split_keeps_rule, join_keeps_rule, journal_is, rest_is_idle}

-- ---- the rule at the start

empty_kept : (stripe first count : ℕ) (h : Entry → ℕ) → sum_by h (journal_for stripe (empty_stripes first count)) ≡ 0
unfolding journal_for
empty_kept stripe first zero h = refl
empty_kept stripe first (suc count) h = by (eqb first stripe) (empty_kept stripe (first + 1) count h)
  where
    by : (b : Bool) → sum_by h (journal_for stripe (empty_stripes (first + 1) count)) ≡ 0 → sum_by h (cond b [] [] ++ journal_for stripe (empty_stripes (first + 1) count)) ≡ 0
    by true rest = rest
    by false rest = rest

counted : (stripe first : ℕ) → List KeptStripe → ℕ
counted stripe first them = count_by (λ it. eqb it.stripe stripe) them

none_before : (stripe first count : ℕ) → stripe < first → count_by (λ it. eqb it.stripe stripe) (empty_stripes first count) ≡ 0
none_before stripe first zero before = refl
none_before stripe first (suc count) before = ⊎_elim
    (λ (t : (eqb first stripe ≡ true) × (first ≡ stripe)). absurd (omega (arith, t.1)))
    (λ (t : (eqb first stripe ≡ false) × (first ≢ stripe)).
    omega (arith, sum_by-cons (λ (it : KeptStripe). cond (eqb it.stripe stripe) 1 0) (kept_stripe first []) (empty_stripes (first + 1) count), ap {B = ℕ} (λ (b : Bool). cond b 1 0) t.0, none_before stripe (first + 1) count (omega arith)))
    (eqb_tells first stripe)

one_each : (stripe first count : ℕ) → count_by (λ it. eqb it.stripe stripe) (empty_stripes first count) ≤ 1
one_each stripe first zero = omega arith
one_each stripe first (suc count) = ⊎_elim
    (λ (t : (eqb first stripe ≡ true) × (first ≡ stripe)).
    omega (arith, parts, ap {B = ℕ} (λ (b : Bool). cond b 1 0) t.0, none_before stripe (first + 1) count (omega (arith, t.1))))
    (λ (t : (eqb first stripe ≡ false) × (first ≢ stripe)).
    omega (arith, parts, ap {B = ℕ} (λ (b : Bool). cond b 1 0) t.0, one_each stripe (first + 1) count))
    (eqb_tells first stripe)
  where
    parts : count_by (λ it. eqb it.stripe stripe) (empty_stripes first (suc count)) ≡ cond (eqb first stripe) 1 0 + count_by (λ it. eqb it.stripe stripe) (empty_stripes (first + 1) count)
    parts = sum_by-cons (λ (it : KeptStripe). cond (eqb it.stripe stripe) 1 0) (kept_stripe first []) (empty_stripes (first + 1) count)

pub begins : (plan : Plan) → IsState {S = Unit {0}} plan (opening (plan.parts ∷ []) [] (first_view plan))
unfolding entries_in
begins plan = (
  refl,
  is_sheet (record {
    shared_out = omega arith;
    balanced = λ stripe h. omega (arith, empty_kept stripe 0 plan.stripes h);
    one_keeper = λ stripe. omega (arith, one_each stripe 0 plan.stripes);
    words_fit = λ stripe. omega arith;
    entries_fit = λ stripe. omega arith;
    fits = only;
  }),
)
  where
    only : (k : ℕ) (view : View) → get_elem? (first_view plan ∷ []) k ≡ some view → IsViewOf plan view
    only zero view at = subst (IsViewOf plan) (some-injective _ _ at) (record { has_plan = λ _. refl; idle = λ _. refl })
    only (suc k) view at = absurd (some-ne-none view (sym at))

-- ---- splits

-- one part goes
pub part_goes : {S : Type 0} (plan : Plan) (id : ℕ) (v : View) → 1 < v.parts → Splits {S = S} (IsState plan) id v (view_less_part v) (part_view v)
part_goes plan id v more s (is, sheet) at =
    let mine = sheet.fits id v at in
    let same = mine.has_plan (omega arith) in (
      is,
      is_sheet (split_keeps_rule id v (view_less_part v) (part_view v) (weighed sheet) (record {
        at = at;
        same = record { parts = omega arith; booked = λ stripe h. refl; journals = λ stripe h. refl; kept = λ stripe. refl };
        first_fits = record { has_plan = λ _. same; idle = λ none. absurd (omega arith) };
        second_fits = record { has_plan = λ _. same; idle = λ none. absurd (omega arith) };
      })),
    )

first_and_rest : (stripe : ℕ) (h : Entry → ℕ) (them : List KeptStripe) → sum_by h (journal_for stripe (drop 1 them)) + sum_by h (journal_for stripe (take 1 them)) ≡ sum_by h (journal_for stripe them) + 0
unfolding journal_for
first_and_rest stripe h [] = refl
first_and_rest stripe h (it ∷ more) = omega (arith, ap (sum_by h) (journal_for-append stripe (it ∷ []) more), sum_by-append h (journal_for stripe (it ∷ [])) (journal_for stripe more))

first_and_rest_counted : (stripe : ℕ) (them : List KeptStripe) → count_by (λ it. eqb it.stripe stripe) (drop 1 them) + count_by (λ it. eqb it.stripe stripe) (take 1 them) ≡ count_by (λ it. eqb it.stripe stripe) them + 0
first_and_rest_counted stripe [] = omega arith
first_and_rest_counted stripe (it ∷ more) = omega (arith, sum_by-append (λ (k : KeptStripe). cond (eqb k.stripe stripe) 1 0) (it ∷ []) more)

-- the first of the kept stripes goes
pub first_goes : {S : Type 0} (plan : Plan) (id : ℕ) (v : View) → Splits {S = S} (IsState plan) id v (view_without_first v) (first_kept_view v)
unfolding journal_for
first_goes plan id v s (is, sheet) at =
    let mine = sheet.fits id v at in (
      is,
      is_sheet (split_keeps_rule id v (view_without_first v) (first_kept_view v) (weighed sheet) (record {
        at = at;
        same = record { parts = refl; booked = λ stripe h. refl; journals = λ stripe h. first_and_rest stripe h v.kept; kept = λ stripe. first_and_rest_counted stripe v.kept };
        first_fits = record { has_plan = mine.has_plan; idle = mine.idle };
        second_fits = record { has_plan = λ some. absurd (omega arith); idle = λ _. refl };
      })),
    )

-- all goes
pub all_goes : {S : Type 0} (plan : Plan) (id : ℕ) (v : View) → Splits {S = S} (IsState plan) id v blank_view v
all_goes plan id v s (is, sheet) at = (
  is,
  is_sheet (split_keeps_rule id v blank_view v (weighed sheet) (record {
    at = at;
    same = record { parts = omega arith; booked = λ stripe h. omega arith; journals = λ stripe h. omega arith; kept = λ stripe. omega arith };
    first_fits = record { has_plan = λ some. absurd (omega arith); idle = λ _. refl };
    second_fits = sheet.fits id v at;
  })),
)

-- ---- joins

-- one view gets what both had
pub both_join : {S : Type 0} (plan : Plan) (id : ℕ) (v : View) (other : ℕ) (w : View) → 0 < v.parts → Joins {S = S} (IsState plan) id v other w (joined_view v w) blank_view
unfolding entries_in journal_for
both_join plan id v other w some_part s (is, sheet) at apart there =
    let mine = sheet.fits id v at in (
      is,
      is_sheet (join_keeps_rule id other v w (joined_view v w) blank_view (weighed sheet) (record {
        at = at;
        there = there;
        same = record {
          parts = omega arith;
          booked = λ stripe h. omega (arith, ap (sum_by h) (entries_in-append stripe v.booked w.booked), sum_by-append h (entries_in stripe v.booked) (entries_in stripe w.booked));
          journals = λ stripe h. omega (arith, ap (sum_by h) (journal_for-append stripe v.kept w.kept), sum_by-append h (journal_for stripe v.kept) (journal_for stripe w.kept));
          kept = λ stripe. omega (arith, sum_by-append (λ (k : KeptStripe). cond (eqb k.stripe stripe) 1 0) v.kept w.kept);
        };
        first_fits = record { has_plan = λ _. mine.has_plan some_part; idle = λ none. absurd (omega arith) };
        second_fits = record { has_plan = λ some. absurd (omega arith); idle = λ _. refl };
      })),
    )

-- ---- what is known

pub known : {plan : Plan} {views : List View} (id : ℕ) (v : View) → Weighed plan views → get_elem? views id ≡ some v → plan.parts < 2 ^ 64 → Knowledge v
known {plan} {views} id v whole at small = record {
  parts_fit = omega (arith, sum_by-set_elem (λ view. view.parts) views id v blank_view at, whole.shared_out);
  words_fit = λ stripe. omega (arith, sum_by-set_elem (booked_weight stripe words) views id v blank_view at, blank_booked stripe words, whole.words_fit stripe);
  entries_fit = λ stripe. omega (arith, sum_by-set_elem (booked_weight stripe (λ _. 1)) views id v blank_view at, blank_booked stripe (λ _. 1), whole.entries_fit stripe, sum_by-ones (entries_in stripe v.booked));
  among = λ it keeps_it h. omega (arith, sum_by-set_elem (booked_weight it.stripe h) views id v blank_view at, blank_booked it.stripe h, whole.balanced it.stripe h, journal_is id v it h whole at keeps_it);
  whole = λ it keeps_it some_part all h.
      let same = (whole.fits id v at).has_plan some_part in
      sym (rest_is_idle id v it.stripe h whole at (all ∙ ap (λ (p : Plan). p.parts) same)) ∙ whole.balanced it.stripe h ∙ journal_is id v it h whole at keeps_it;
}

-- a look: one load
pub look_is_allowed : {S : Type 0} (plan : Plan) (slots id : ℕ) (me : Me S View) → Allows (IsState plan) slots id me 0 (λ n. n) (IsLook (step slots 0 0 0 none) me)
look_is_allowed {S} plan slots id me s (is, sheet) long at fits =
    let P : List ℕ → Type 0 = λ ws. slice_index ws 0 < 18446744073709551616 → (u : View) × (a : Act S) × Valid s.homes me.1 a × IsState plan (stepped record { words = ws; homes = s.homes; views = s.views } 0 (slice_index ws 0) id me.1 u a) × IsLook (step slots 0 0 0 none) me (slice_index ws 0) (u, carried_after me.1 a) in
    let again : set s.views id me.0 ≡ s.views = set_again s.views id me.0 at in
    subst P (sym is) (λ small. (me.0, no_act, tt, (refl, subst (IsSheet plan) (sym again) sheet), (refl, known id me.0 (weighed sheet) at (omega arith)))) fits

-- ---- a booking

-- the view that keeps this one stripe, with an entry more on both sides
unfoldable pub noted_one : View → KeptStripe → Entry → View
noted_one v it entry = view_of v.plan v.parts (v.booked ++ booking_of it.stripe entry ∷ []) (with_entry it entry ∷ [])

one_booked : (stripe : ℕ) (h : Entry → ℕ) (it : KeptStripe) (entry : Entry) → sum_by h (entries_in stripe (booking_of it.stripe entry ∷ [])) ≡ cond (eqb it.stripe stripe) (h entry) 0
unfolding entries_in
one_booked stripe h it entry = by (eqb it.stripe stripe)
  where
    by : (b : Bool) → sum_by h (map (λ (x : Booking). x.entry) (cond b (booking_of it.stripe entry ∷ []) [])) ≡ cond b (h entry) 0
    by true = omega arith
    by false = refl

one_kept : (stripe : ℕ) (h : Entry → ℕ) (it : KeptStripe) (entry : Entry) → sum_by h (journal_for stripe (with_entry it entry ∷ [])) ≡ sum_by h (journal_for stripe (it ∷ [])) + cond (eqb it.stripe stripe) (h entry) 0
unfolding journal_for
one_kept stripe h it entry = by (eqb it.stripe stripe)
  where
    by : (b : Bool) → sum_by h (cond b (it.journal ++ entry ∷ []) [] ++ []) ≡ sum_by h (cond b it.journal [] ++ []) + cond b (h entry) 0
    by true = omega (arith, ap (sum_by h) (append-nil (it.journal ++ entry ∷ [])), ap (sum_by h) (append-nil it.journal), sum_by_push h it.journal entry)
    by false = refl

-- the booked entries weigh this much more
pub booked_more : (stripe : ℕ) (h : Entry → ℕ) (v : View) (it : KeptStripe) (entry : Entry) → booked_weight stripe h (noted_one v it entry) ≡ booked_weight stripe h v + cond (eqb it.stripe stripe) (h entry) 0
unfolding noted_one
booked_more stripe h v it entry =
    omega (arith, ap (sum_by h) (entries_in-append stripe v.booked (booking_of it.stripe entry ∷ [])), sum_by-append h (entries_in stripe v.booked) (entries_in stripe (booking_of it.stripe entry ∷ [])), one_booked stripe h it entry)

-- the view keeps this one stripe and has a part, and the sums of its journal with the entry fit a number
pub record CanBook (v : View) (it : KeptStripe) (entry : Entry) : Type 0 where
  pub keeps_it : v.kept ≡ it ∷ []
  pub some_part : 0 < v.parts
  pub few_words : word_total it.journal + entry.words < 2 ^ 64
  pub few_entries : length it.journal + 1 < 2 ^ 64

module _ {plan : Plan} {views : List View} (id : ℕ) {v : View} {it : KeptStripe} {entry : Entry} (whole : Weighed plan views) (at : get_elem? views id ≡ some v) (can : CanBook v it entry) where
  booked_all : (stripe : ℕ) (h : Entry → ℕ) → sum_by (booked_weight stripe h) (set views id (noted_one v it entry)) ≡ sum_by (booked_weight stripe h) views + cond (eqb it.stripe stripe) (h entry) 0
  booked_all stripe h = omega (arith, sum_by-set_elem (booked_weight stripe h) views id v (noted_one v it entry) at, booked_more stripe h v it entry)

  kept_all : (stripe : ℕ) (h : Entry → ℕ) → sum_by (kept_weight stripe h) (set views id (noted_one v it entry)) ≡ sum_by (kept_weight stripe h) views + cond (eqb it.stripe stripe) (h entry) 0
  unfolding noted_one
  kept_all stripe h =
      let mine : kept_weight stripe h v ≡ sum_by h (journal_for stripe (it ∷ [])) = ap (λ them. sum_by h (journal_for stripe them)) can.keeps_it in
      omega (arith, sum_by-set_elem (kept_weight stripe h) views id v (noted_one v it entry) at, one_kept stripe h it entry, mine)

  -- a sum that fits in the journal's stripe with the entry fits in each
  fits_still : (h : Entry → ℕ) → sum_by h it.journal + h entry < 2 ^ 64 → ((stripe : ℕ) → sum_by (booked_weight stripe h) views < 2 ^ 64) → (stripe : ℕ) → sum_by (booked_weight stripe h) (set views id (noted_one v it entry)) < 2 ^ 64
  fits_still h room before stripe = ⊎_elim
      (λ (here : (eqb it.stripe stripe ≡ true) × (it.stripe ≡ stripe)).
      let more : cond (eqb it.stripe stripe) (h entry) 0 ≡ h entry = ap {B = ℕ} (λ (b : Bool). cond b (h entry) 0) here.0 in
      let now : sum_by (booked_weight stripe h) views ≡ sum_by h it.journal = subst (λ n. sum_by (booked_weight n h) views ≡ sum_by h it.journal) here.1 (whole.balanced it.stripe h ∙ journal_is id v it h whole at can.keeps_it) in
      omega (arith, booked_all stripe h, more, now, room))
      (λ (else : (eqb it.stripe stripe ≡ false) × (it.stripe ≢ stripe)).
      let more : cond (eqb it.stripe stripe) (h entry) 0 ≡ 0 = ap {B = ℕ} (λ (b : Bool). cond b (h entry) 0) else.0 in
      omega (arith, booked_all stripe h, more, before stripe))
      (eqb_tells it.stripe stripe)

  booking_keeps_rule : Weighed plan (set views id (noted_one v it entry))
  unfolding noted_one
  booking_keeps_rule = record {
    shared_out = omega (arith, sum_by-set_elem (λ view. view.parts) views id v (noted_one v it entry) at, whole.shared_out);
    balanced = λ stripe h. omega (arith, booked_all stripe h, kept_all stripe h, whole.balanced stripe h);
    one_keeper = λ stripe.
        let mine : keeps stripe v ≡ count_by (λ k. eqb k.stripe stripe) (it ∷ []) = ap (count_by (λ (k : KeptStripe). eqb k.stripe stripe)) can.keeps_it in
        omega (arith, sum_by-set_elem (keeps stripe) views id v (noted_one v it entry) at, mine, whole.one_keeper stripe);
    words_fit = fits_still words can.few_words whole.words_fit;
    entries_fit = fits_still (λ _. 1) (omega (arith, sum_by-ones it.journal, can.few_entries)) whole.entries_fit;
    fits = AreViewsOf-set plan views id (noted_one v it entry) whole.fits (record { has_plan = (whole.fits id v at).has_plan; idle = λ none. absurd (omega (arith, can.some_part)) });
  }

at_set_here : {X : Type 0} (xs : List X) (k : ℕ) (x y : X) → get_elem? xs k ≡ some x → get_elem? (set xs k y) k ≡ some y
at_set_here [] k x y at = absurd (some-ne-none x (sym at))
at_set_here (z ∷ zs) zero x y at = refl
at_set_here (z ∷ zs) (suc k) x y at = at_set_here zs k x y at

noted_is : (v : View) (it : KeptStripe) (entry : Entry) → v.kept ≡ it ∷ [] → noted_one v it entry ≡ noted_view entry v
unfolding noted_one
noted_is v it entry keeps_it = ap (view_noted_in v entry) (sym keeps_it)

-- a booking: one load
pub booking_is_allowed : {S : Type 0} (plan : Plan) (slots id : ℕ) (me : Me S View) (it : KeptStripe) (entry : Entry) → CanBook me.0 it entry
    → Allows (IsState plan) slots id me 0 (λ n. n) (IsBooking entry (step slots 0 0 0 none) me)
booking_is_allowed {S} plan slots id me it entry can s (is, sheet) long at fits =
    let P : List ℕ → Type 0 = λ ws. slice_index ws 0 < 18446744073709551616 → (u : View) × (a : Act S) × Valid s.homes me.1 a × IsState plan (stepped record { words = ws; homes = s.homes; views = s.views } 0 (slice_index ws 0) id me.1 u a) × IsBooking entry (step slots 0 0 0 none) me (slice_index ws 0) (u, carried_after me.1 a) in
    let now = subst (λ u. Weighed plan (set s.views id u)) (noted_is me.0 it entry can.keeps_it) (booking_keeps_rule id (weighed sheet) at can) in
    subst P (sym is) (λ small. (noted_view entry me.0, no_act, tt, (refl, is_sheet now), (refl, known id (noted_view entry me.0) now (at_set_here s.views id me.0 (noted_view entry me.0) at) (omega arith)))) fits

-- ---- the views of keepers and shares

-- the stripes that are left, with the first one before them
pub one_left : (next stripes : ℕ) → next < stripes → empty_stripes next (stripes - next) ≡ kept_stripe next [] ∷ empty_stripes (next + 1) (stripes - (next + 1))
one_left next stripes more =
    let count : stripes - next ≡ suc (stripes - (next + 1)) = omega arith in
    ap (empty_stripes next) count

pub none_left : (stripes : ℕ) → empty_stripes stripes (stripes - stripes) ≡ []
none_left stripes =
    let count : stripes - stripes ≡ 0 = omega arith in
    ap (empty_stripes stripes) count

module _ {S : Type 0} (plan : Plan) (next : ℕ) (me : Me S View) (is : me ≡ (view_of plan plan.parts [] (empty_stripes next (plan.stripes - next)), [])) (more : next < plan.stripes) where
  pub others_left : ◌≡◌ {A = Me S View} (view_without_first me.0, me.1) (view_of plan plan.parts [] (empty_stripes (next + 1) (plan.stripes - (next + 1))), [])
  others_left = ap {B = Me S View} (λ (m : Me S View). (view_without_first m.0, m.1)) is ∙ ap {B = Me S View} (λ them. (view_of plan plan.parts [] (drop 1 them), [])) (one_left next plan.stripes more)

  pub next_alone : ◌≡◌ {A = Me S View} (first_kept_view me.0, []) (keeper_view (kept_stripe next []), [])
  next_alone = ap {B = Me S View} (λ (m : Me S View). (first_kept_view m.0, [])) is ∙ ap {B = Me S View} (λ them. (view_of no_plan 0 [] (take 1 them), [])) (one_left next plan.stripes more)

zeros : (stripe : ℕ) (numbers : List ℕ) → numbers ≡ replicate 64 0 → stripe < 64 → slice_index numbers stripe ≡ 0
zeros stripe numbers is small = ap (λ xs. slice_index xs stripe) is ∙ get_or-replicate 64 stripe 0 0 small

-- a share that has booked nothing
pub no_words : (numbers : List ℕ) (booked : List Booking) → booked ≡ [] → numbers ≡ replicate 64 0 → AreNumbersOf (λ stripe. word_total_in stripe booked) numbers
unfolding entries_in
no_words numbers booked fresh is stripe small = zeros stripe numbers is small ∙ sym (ap (λ xs. word_total_in stripe xs) fresh)

pub no_entries : (numbers : List ℕ) (booked : List Booking) → booked ≡ [] → numbers ≡ replicate 64 0 → AreNumbersOf (λ stripe. entry_total_in stripe booked) numbers
unfolding entries_in
no_entries numbers booked fresh is stripe small = zeros stripe numbers is small ∙ sym (ap (λ xs. entry_total_in stripe xs) fresh)
