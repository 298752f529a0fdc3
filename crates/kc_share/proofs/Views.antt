-- The rule of a sheet by weights: what each view booked and keeps, weighed, and the sums over all views.
use Rattle.std.proofs.Common.{◌≡◌, ◌≢◌, ℕ, zero, suc, ◌+◌, ◌^◌, ◌<◌, ◌≤◌, List, [], ◌∷◌, ◌++◌, map, filter, set, Bool, true, false, cond, eqb, eq-eqb, append-nil, refl, sym, ap, ◌∙◌, subst, ⊎_elim, arith, sum_by, count_by}
use Rattle.std.specs.List.{flat_map}
use mathlib.Core.Option.{some}
use lib.ListN.{get_elem?}
use Rattle.atomic_table.proofs.Lists.{at_set, at_snoc}
use Rattle.std.proofs.lemmas.List.Sums.{sum_by-cons, sum_by_push}
use Rattle.std.proofs.lemmas.List.Elements.{filter-append}
use Rattle.std.proofs.lemmas.List.Concat.{flat_map-append}
use Rattle.std.proofs.lemmas.List.{map-append}
use Rattle.kc_lemmas.proofs.Sums.{sum_by-ones, sum_by-flat_map, sum_by-set_elem}
use Rattle.kc_share.specs.declared.entry.Entry.{Entry}
use Rattle.kc_share.specs.declared.entry.Booking.{Booking}
use Rattle.kc_share.specs.declared.entry.Plan.{Plan}
use Rattle.kc_share.specs.declared.entry.KeptStripe.{KeptStripe}
use Rattle.kc_share.specs.declared.entry.View.{View}
use Rattle.kc_share.specs.Entries.{entries_in}
use Rattle.kc_share.specs.Rule.{journal_for, booked_entries, kept_entries, keeper_count, IsViewOf, IsSheet, blank_view}

-- ---- lists of bookings and of kept stripes

pub entries_in-append : (stripe : ℕ) (xs ys : List Booking) → entries_in stripe (xs ++ ys) ≡ entries_in stripe xs ++ entries_in stripe ys
unfolding entries_in
entries_in-append stripe xs ys =
    ap (map (λ (b : Booking). b.entry)) (filter-append (λ (b : Booking). eqb b.stripe stripe) xs ys) ∙ map-append (λ (b : Booking). b.entry) (filter (λ b. eqb b.stripe stripe) xs) (filter (λ b. eqb b.stripe stripe) ys)

pub journal_for-append : (stripe : ℕ) (xs ys : List KeptStripe) → journal_for stripe (xs ++ ys) ≡ journal_for stripe xs ++ journal_for stripe ys
unfolding journal_for
journal_for-append stripe xs ys = flat_map-append (λ (it : KeptStripe). cond (eqb it.stripe stripe) it.journal []) xs ys

-- ---- views, weighed

abbrev pub booked_weight : ℕ → (Entry → ℕ) → View → ℕ
booked_weight stripe h view = sum_by h (entries_in stripe view.booked)

abbrev pub kept_weight : ℕ → (Entry → ℕ) → View → ℕ
kept_weight stripe h view = sum_by h (journal_for stripe view.kept)

abbrev pub keeps : ℕ → View → ℕ
keeps stripe view = count_by (λ it. eqb it.stripe stripe) view.kept

abbrev pub words : Entry → ℕ
words entry = entry.words

-- the rule by weights
pub record Weighed (plan : Plan) (views : List View) : Type 0 where
  pub shared_out : sum_by (λ view. view.parts) views ≡ plan.parts
  pub balanced : (stripe : ℕ) (h : Entry → ℕ) → sum_by (booked_weight stripe h) views ≡ sum_by (kept_weight stripe h) views
  pub one_keeper : (stripe : ℕ) → sum_by (keeps stripe) views ≤ 1
  pub words_fit : (stripe : ℕ) → sum_by (booked_weight stripe words) views < 2 ^ 64
  pub entries_fit : (stripe : ℕ) → sum_by (booked_weight stripe (λ _. 1)) views < 2 ^ 64
  pub fits : (k : ℕ) (view : View) → get_elem? views k ≡ some view → IsViewOf plan view

booked_is : (stripe : ℕ) (h : Entry → ℕ) (views : List View) → sum_by h (booked_entries stripe views) ≡ sum_by (booked_weight stripe h) views
unfolding booked_entries
booked_is stripe h views = sum_by-flat_map h (λ (view : View). entries_in stripe view.booked) views

kept_is : (stripe : ℕ) (h : Entry → ℕ) (views : List View) → sum_by h (kept_entries stripe views) ≡ sum_by (kept_weight stripe h) views
unfolding kept_entries
kept_is stripe h views = sum_by-flat_map h (λ (view : View). journal_for stripe view.kept) views

pub weighed : {plan : Plan} {views : List View} → IsSheet plan views → Weighed plan views
unfolding keeper_count
weighed {plan} {views} sheet = record {
  shared_out = sheet.shared_out;
  balanced = λ stripe h. sym (booked_is stripe h views) ∙ sheet.balanced stripe h ∙ kept_is stripe h views;
  one_keeper = sheet.one_keeper;
  words_fit = λ stripe. omega (arith, booked_is stripe words views, sheet.words_fit stripe);
  entries_fit = λ stripe. omega (arith, booked_is stripe (λ _. 1) views, sheet.entries_fit stripe, sum_by-ones (booked_entries stripe views));
  fits = sheet.fits;
}

pub is_sheet : {plan : Plan} {views : List View} → Weighed plan views → IsSheet plan views
unfolding keeper_count
is_sheet {plan} {views} whole = record {
  shared_out = whole.shared_out;
  balanced = λ stripe h. booked_is stripe h views ∙ whole.balanced stripe h ∙ sym (kept_is stripe h views);
  one_keeper = whole.one_keeper;
  words_fit = λ stripe. omega (arith, booked_is stripe words views, whole.words_fit stripe);
  entries_fit = λ stripe. omega (arith, booked_is stripe (λ _. 1) views, whole.entries_fit stripe, sum_by-ones (booked_entries stripe views));
  fits = whole.fits;
}

-- ---- views that are changed

-- each is a view of the plan
abbrev pub AreViewsOf : Plan → List View → Type 0
AreViewsOf plan views = (k : ℕ) (view : View) → get_elem? views k ≡ some view → IsViewOf plan view

pub AreViewsOf-set : (plan : Plan) (views : List View) (k : ℕ) (w : View) → AreViewsOf plan views → IsViewOf plan w → AreViewsOf plan (set views k w)
AreViewsOf-set plan views k w others mine = λ j v at. ⊎_elim
    (λ (t : (j ≡ k) × (w ≡ v)). subst (IsViewOf plan) t.1 mine)
    (λ (t : (j ≢ k) × (get_elem? views j ≡ some v)). others j v t.1)
    (at_set views k j w v at)

-- Two views have together what two others have.
pub record HaveTheSame (v w v' w' : View) : Type 0 where
  pub parts : v'.parts + w'.parts ≡ v.parts + w.parts
  pub booked : (stripe : ℕ) (h : Entry → ℕ) → booked_weight stripe h v' + booked_weight stripe h w' ≡ booked_weight stripe h v + booked_weight stripe h w
  pub journals : (stripe : ℕ) (h : Entry → ℕ) → kept_weight stripe h v' + kept_weight stripe h w' ≡ kept_weight stripe h v + kept_weight stripe h w
  pub kept : (stripe : ℕ) → keeps stripe v' + keeps stripe w' ≡ keeps stripe v + keeps stripe w

pub blank_booked : (stripe : ℕ) (h : Entry → ℕ) → booked_weight stripe h blank_view ≡ 0
unfolding entries_in
blank_booked stripe h = refl

pub blank_kept : (stripe : ℕ) (h : Entry → ℕ) → kept_weight stripe h blank_view ≡ 0
unfolding journal_for
blank_kept stripe h = refl

-- the view at `id` is cut in two
pub record IsSplit (plan : Plan) (views : List View) (id : ℕ) (v v' w' : View) : Type 0 where
  pub at : get_elem? views id ≡ some v
  pub same : HaveTheSame v blank_view v' w'
  pub first_fits : IsViewOf plan v'
  pub second_fits : IsViewOf plan w'

split_keeps_sum : {plan : Plan} {views : List View} {id : ℕ} {v v' w' : View} (f : View → ℕ) → IsSplit plan views id v v' w' → f blank_view ≡ 0 → f v' + f w' ≡ f v + f blank_view
    → sum_by f (set views id v' ++ w' ∷ []) ≡ sum_by f views
split_keeps_sum {plan} {views} {id} {v} {v'} {w'} f split none same =
    omega (arith, sum_by_push f (set views id v') w', sum_by-set_elem f views id v v' split.at, none, same)

pub split_keeps_rule : {plan : Plan} {views : List View} (id : ℕ) (v v' w' : View) → Weighed plan views → IsSplit plan views id v v' w' → Weighed plan (set views id v' ++ w' ∷ [])
split_keeps_rule {plan} {views} id v v' w' whole split = record {
  shared_out = split_keeps_sum (λ view. view.parts) split refl split.same.parts ∙ whole.shared_out;
  balanced = λ stripe h. booked stripe h ∙ whole.balanced stripe h ∙ sym (split_keeps_sum (kept_weight stripe h) split (blank_kept stripe h) (split.same.journals stripe h));
  one_keeper = λ stripe. omega (arith, split_keeps_sum (keeps stripe) split refl (split.same.kept stripe), whole.one_keeper stripe);
  words_fit = λ stripe. omega (arith, booked stripe words, whole.words_fit stripe);
  entries_fit = λ stripe. omega (arith, booked stripe (λ _. 1), whole.entries_fit stripe);
  fits = λ j u there. ⊎_elim
      (λ (old : get_elem? (set views id v') j ≡ some u). AreViewsOf-set plan views id v' whole.fits split.first_fits j u old)
      (λ (new : w' ≡ u). subst (IsViewOf plan) new split.second_fits)
      (at_snoc (set views id v') w' u j there);
}
  where
    booked : (stripe : ℕ) (h : Entry → ℕ) → sum_by (booked_weight stripe h) (set views id v' ++ w' ∷ []) ≡ sum_by (booked_weight stripe h) views
    booked stripe h = split_keeps_sum (booked_weight stripe h) split (blank_booked stripe h) (split.same.booked stripe h)

-- the views at `id` and `other` are joined, and what is left of the second is at `other`
pub record IsJoin (plan : Plan) (views : List View) (id other : ℕ) (v w v' w' : View) : Type 0 where
  pub at : get_elem? views id ≡ some v
  pub there : get_elem? (set views id v') other ≡ some w
  pub same : HaveTheSame v w v' w'
  pub first_fits : IsViewOf plan v'
  pub second_fits : IsViewOf plan w'

join_keeps_sum : {plan : Plan} {views : List View} {id other : ℕ} {v w v' w' : View} (f : View → ℕ) → IsJoin plan views id other v w v' w' → f v' + f w' ≡ f v + f w
    → sum_by f (set (set views id v') other w') ≡ sum_by f views
join_keeps_sum {plan} {views} {id} {other} {v} {w} {v'} {w'} f join same =
    omega (arith, sum_by-set_elem f views id v v' join.at, sum_by-set_elem f (set views id v') other w w' join.there, same)

pub join_keeps_rule : {plan : Plan} {views : List View} (id other : ℕ) (v w v' w' : View) → Weighed plan views → IsJoin plan views id other v w v' w' → Weighed plan (set (set views id v') other w')
join_keeps_rule {plan} {views} id other v w v' w' whole join = record {
  shared_out = join_keeps_sum (λ view. view.parts) join join.same.parts ∙ whole.shared_out;
  balanced = λ stripe h. booked stripe h ∙ whole.balanced stripe h ∙ sym (join_keeps_sum (kept_weight stripe h) join (join.same.journals stripe h));
  one_keeper = λ stripe. omega (arith, join_keeps_sum (keeps stripe) join (join.same.kept stripe), whole.one_keeper stripe);
  words_fit = λ stripe. omega (arith, booked stripe words, whole.words_fit stripe);
  entries_fit = λ stripe. omega (arith, booked stripe (λ _. 1), whole.entries_fit stripe);
  fits = AreViewsOf-set plan (set views id v') other w' (AreViewsOf-set plan views id v' whole.fits join.first_fits) join.second_fits;
}
  where
    booked : (stripe : ℕ) (h : Entry → ℕ) → sum_by (booked_weight stripe h) (set (set views id v') other w') ≡ sum_by (booked_weight stripe h) views
    booked stripe h = join_keeps_sum (booked_weight stripe h) join (join.same.booked stripe h)

-- ---- what a view knows of the others

counts_one : (b : Bool) → true ≡ b → cond {A = ℕ} b 1 0 ≡ 1
counts_one true is = refl
counts_one false is = absurd (cc)

-- a view that keeps no stripe of this number has nothing for it
none_kept : (stripe : ℕ) (h : Entry → ℕ) (them : List KeptStripe) → count_by (λ it. eqb it.stripe stripe) them ≡ 0 → sum_by h (journal_for stripe them) ≡ 0
unfolding journal_for
none_kept stripe h [] none = refl
none_kept stripe h (it ∷ more) none = by (eqb it.stripe stripe) refl (none_kept stripe h more)
  where
    count : count_by (λ k. eqb k.stripe stripe) (it ∷ more) ≡ cond (eqb it.stripe stripe) 1 0 + count_by (λ k. eqb k.stripe stripe) more
    count = sum_by-cons (λ (k : KeptStripe). cond (eqb k.stripe stripe) 1 0) it more

    by : (b : Bool) → b ≡ eqb it.stripe stripe → (count_by (λ k. eqb k.stripe stripe) more ≡ 0 → sum_by h (flat_map (λ (k : KeptStripe). cond (eqb k.stripe stripe) k.journal []) more) ≡ 0)
        → sum_by h (cond b it.journal [] ++ flat_map (λ (k : KeptStripe). cond (eqb k.stripe stripe) k.journal []) more) ≡ 0
    by true is rest = absurd (omega (arith, none, count, counts_one (eqb it.stripe stripe) is))
    by false is rest = rest (omega (arith, none, count))

all_none : (stripe : ℕ) (h : Entry → ℕ) (views : List View) → sum_by (keeps stripe) views ≡ 0 → sum_by (kept_weight stripe h) views ≡ 0
all_none stripe h [] none = refl
all_none stripe h (v ∷ vs) none =
    let parts = sum_by-cons (keeps stripe) v vs in
    omega (arith, sum_by-cons (kept_weight stripe h) v vs, none_kept stripe h v.kept (omega (arith, parts, none)), all_none stripe h vs (omega (arith, parts, none)))

same_number : (n : ℕ) → eqb n n ≡ true
same_number n = eq-eqb n n refl

one_of : (it : KeptStripe) → count_by (λ k. eqb k.stripe it.stripe) (it ∷ []) ≡ 1
one_of it =
    omega (arith, sum_by-cons (λ (k : KeptStripe). cond (eqb k.stripe it.stripe) 1 0) it [], counts_one (eqb it.stripe it.stripe) (sym (same_number it.stripe)))

sole_journal : (it : KeptStripe) (h : Entry → ℕ) → sum_by h (journal_for it.stripe (it ∷ [])) ≡ sum_by h it.journal
unfolding journal_for
sole_journal it h = ap (λ b. sum_by h (cond b it.journal [] ++ [])) (same_number it.stripe) ∙ ap (sum_by h) (append-nil it.journal)

-- what is kept for a stripe is the journal of the one that keeps it
pub journal_is : {plan : Plan} {views : List View} (id : ℕ) (v : View) (it : KeptStripe) (h : Entry → ℕ) → Weighed plan views → get_elem? views id ≡ some v → v.kept ≡ it ∷ [] → sum_by (kept_weight it.stripe h) views ≡ sum_by h it.journal
journal_is {plan} {views} id v it h whole at keeps_it =
    let others = set views id blank_view in
    let counted : keeps it.stripe v ≡ 1 = ap (count_by (λ (k : KeptStripe). eqb k.stripe it.stripe)) keeps_it ∙ one_of it in
    let none : sum_by (keeps it.stripe) others ≡ 0 = omega (arith, sum_by-set_elem (keeps it.stripe) views id v blank_view at, whole.one_keeper it.stripe, counted) in
    let mine : kept_weight it.stripe h v ≡ sum_by h it.journal = ap (λ them. sum_by h (journal_for it.stripe them)) keeps_it ∙ sole_journal it h in
    omega (arith, sum_by-set_elem (kept_weight it.stripe h) views id v blank_view at, all_none it.stripe h others none, mine, blank_kept it.stripe h)

-- if all parts are in one view, the others have booked nothing
pub rest_is_idle : {plan : Plan} {views : List View} (id : ℕ) (v : View) (stripe : ℕ) (h : Entry → ℕ) → Weighed plan views → get_elem? views id ≡ some v → v.parts ≡ plan.parts → sum_by (booked_weight stripe h) views ≡ booked_weight stripe h v
rest_is_idle {plan} {views} id v stripe h whole at all =
    let others = set views id blank_view in
    let light : sum_by (λ view. view.parts) others ≡ 0 = omega (arith, sum_by-set_elem (λ view. view.parts) views id v blank_view at, whole.shared_out) in
    omega (arith, sum_by-set_elem (booked_weight stripe h) views id v blank_view at, idle others (AreViewsOf-set plan views id blank_view whole.fits (record { has_plan = λ some. absurd (omega arith); idle = λ none. refl })) light, blank_booked stripe h)
  where
    idle : (us : List View) → AreViewsOf plan us → sum_by (λ view. view.parts) us ≡ 0 → sum_by (booked_weight stripe h) us ≡ 0
    idle [] fits light = refl
    idle (u ∷ us) fits light =
        let parts = sum_by-cons (λ (view : View). view.parts) u us in
        let none : u.booked ≡ [] = (fits zero u refl).idle (omega (arith, parts, light)) in
        omega (arith, sum_by-cons (booked_weight stripe h) u us, ap (λ xs. sum_by h (entries_in stripe xs)) none, blank_booked stripe h, idle us (λ k. fits (suc k)) (omega (arith, parts, light)))
