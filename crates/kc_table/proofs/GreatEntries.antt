-- The entries of great counts: what is read of them, and what an entry that is written or added changes.
use Rattle.std.proofs.Common.{◌≡◌, ◌≢◌, ◌∙◌, ℕ, zero, suc, ◌+◌, ◌<◌, ◌≤◌, List, [], ◌∷◌, ◌++◌, length, set, map, get_or}
use Rattle.std.proofs.Common.{true, false, cond, nat_eq, refl, sym, ap, subst, arith, inl, inr, length-set}
use Rattle.std.specs.List.{IsDistinct}
use Rattle.std.specs.Prelude.{All, Contains}
use Rattle.std.proofs.lemmas.Bool.{cases_eq, cases_lt}
use Rattle.std.proofs.lemmas.Grind.{common_steps}
use Rattle.std.proofs.lemmas.List.{get_or_append_left, get_or-set_same, get_or-set_other}
use Rattle.std.proofs.lemmas.List.{length_push, length-map, get_or_read, map-set}
use Rattle.std.proofs.Math.ListN.{get_or-map}
use Rattle.std.proofs.lemmas.Map.Keys.{IsDistinct-from_apart}
use Rattle.kc_lemmas.proofs.Numbers.{none_left_out}
use Rattle.kc_table.specs.declared.great_counts.Entry.{Entry}
use Rattle.kc_table.specs.GreatCounts.{counts_in, great_count, place_in, place_at, next_at, no_entry, AreApart}
use Rattle.kc_table.specs.GreatCounts.{bucket_of, IsLink, IsChained}

-- the place that is asked for is none of these
abbrev pub IsNew : List (ℕ × ℕ) → ℕ → Type 0
IsNew counts place = (i : ℕ) → i < length counts → place_in counts i ≢ place

head_same : (e : ℕ × ℕ) (es : List (ℕ × ℕ)) (p : ℕ) → e.0 ≡ p → great_count (e ∷ es) p ≡ e.1
head_same e es p same =
    let test : nat_eq e.0 p ≡ true = grind (arith, common_steps) in
    ap (λ b. cond b e.1 (great_count es p)) test

head_other : (e : ℕ × ℕ) (es : List (ℕ × ℕ)) (p : ℕ) → e.0 ≢ p → great_count (e ∷ es) p ≡ great_count es p
head_other e es p apart =
    let test : nat_eq e.0 p ≡ false = grind (arith, common_steps) in
    ap (λ b. cond b e.1 (great_count es p)) test

tail_apart : {places : ℕ} (e : ℕ × ℕ) (es : List (ℕ × ℕ)) → AreApart places (e ∷ es) → AreApart places es
tail_apart e es are = record {
  apart = λ i j less below. are.apart (suc i) (suc j) (omega arith) (omega arith);
  inside = λ i below. are.inside (suc i) (omega arith);
}

pub count_there : {places : ℕ} (es : List (ℕ × ℕ)) (i p : ℕ) → AreApart places es → i < length es → place_in es i ≡ p
    → great_count es p ≡ (get_or es i (0, 0)).1
count_there [] i p are below is = absurd (omega arith)
count_there (e ∷ es) zero p are below is = head_same e es p is
count_there (e ∷ es) (suc i) p are below is =
    head_other e es p (λ same. are.apart 0 (suc i) (omega arith) below (same ∙ sym is))
    ∙ count_there es i p (tail_apart e es are) (omega arith) is

pub count_nowhere : (es : List (ℕ × ℕ)) (p : ℕ) → IsNew es p → great_count es p ≡ 0
count_nowhere [] p new = refl
count_nowhere (e ∷ es) p new =
    head_other e es p (new 0 (omega arith)) ∙ count_nowhere es p (λ i below. new (suc i) (omega arith))

-- one is added
pub count_added : (es : List (ℕ × ℕ)) (p n : ℕ) → IsNew es p → great_count (es ++ (p, n) ∷ []) p ≡ n
count_added [] p n new = head_same (p, n) [] p refl
count_added (e ∷ es) p n new =
    head_other e (es ++ (p, n) ∷ []) p (new 0 (omega arith))
    ∙ count_added es p n (λ i below. new (suc i) (omega arith))

pub count_beside_added : (es : List (ℕ × ℕ)) (p n q : ℕ) → q ≢ p
    → great_count (es ++ (p, n) ∷ []) q ≡ great_count es q
count_beside_added [] p n q apart = head_other (p, n) [] q (λ same. apart (sym same))
count_beside_added (e ∷ es) p n q apart = elim (cases_eq e.0 q) [
  | inl same ↦ head_same e (es ++ (p, n) ∷ []) q same ∙ sym (head_same e es q same)
  | inr other ↦
      head_other e (es ++ (p, n) ∷ []) q other ∙ count_beside_added es p n q apart ∙ sym (head_other e es q other)
]

-- one is written
pub count_beside_set : (es : List (ℕ × ℕ)) (i p n q : ℕ) → q ≢ p → place_in es i ≡ p
    → great_count (set es i (p, n)) q ≡ great_count es q
count_beside_set [] i p n q apart is = refl
count_beside_set (e ∷ es) zero p n q apart is =
    head_other (p, n) es q (λ same. apart (sym same)) ∙ sym (head_other e es q (λ same. apart (sym same ∙ is)))
count_beside_set (e ∷ es) (suc i) p n q apart is = elim (cases_eq e.0 q) [
  | inl same ↦ head_same e (set es i (p, n)) q same ∙ sym (head_same e es q same)
  | inr other ↦
      head_other e (set es i (p, n)) q other ∙ count_beside_set es i p n q apart is ∙ sym (head_other e es q other)
]

place_kept : (es : List (ℕ × ℕ)) (i p n j : ℕ) → i < length es → place_in es i ≡ p
    → place_in (set es i (p, n)) j ≡ place_in es j
place_kept es i p n j below is = elim (cases_eq j i) [
  | inl same ↦ ap (place_in (set es i (p, n))) same ∙ ap (λ (e : ℕ × ℕ). e.0) (get_or-set_same es i (p, n) (0, 0) below)
      ∙ sym is ∙ ap (place_in es) (sym same)
  | inr apart ↦ ap (λ (e : ℕ × ℕ). e.0) (get_or-set_other es i j (p, n) (0, 0) apart)
]

pub apart_set : {places : ℕ} (es : List (ℕ × ℕ)) (i p n : ℕ) → AreApart places es → i < length es → place_in es i ≡ p
    → AreApart places (set es i (p, n))
apart_set {places} es i p n are below is =
    let long : length (set es i (p, n)) ≡ length es = length-set es i (p, n) in
    record {
      apart = λ j k less within same. are.apart j k less (omega arith)
          (sym (place_kept es i p n j below is) ∙ same ∙ place_kept es i p n k below is);
      inside = λ j within. subst (λ m. m < places) (sym (place_kept es i p n j below is)) (are.inside j (omega arith));
    }

pub count_set : {places : ℕ} (es : List (ℕ × ℕ)) (i p n : ℕ) → AreApart places es → i < length es → place_in es i ≡ p
    → great_count (set es i (p, n)) p ≡ n
count_set es i p n are below is =
    let long : length (set es i (p, n)) ≡ length es = length-set es i (p, n) in
    count_there (set es i (p, n)) i p (apart_set es i p n are below is) (omega arith)
    (place_kept es i p n i below is ∙ is)
    ∙ ap (λ (e : ℕ × ℕ). e.1) (get_or-set_same es i (p, n) (0, 0) below)

place_before : (es : List (ℕ × ℕ)) (e : ℕ × ℕ) (i : ℕ) → i < length es → place_in (es ++ e ∷ []) i ≡ place_in es i
place_before es e i below = ap (λ (x : ℕ × ℕ). x.0) (get_or_append_left es (e ∷ []) (0, 0) i below)

place_last : (es : List (ℕ × ℕ)) (e : ℕ × ℕ) → place_in (es ++ e ∷ []) (length es) ≡ e.0
place_last [] e = refl
place_last (x ∷ es) e = place_last es e

pub apart_added : {places : ℕ} (es : List (ℕ × ℕ)) (p n : ℕ) → AreApart places es → IsNew es p → p < places
    → AreApart places (es ++ (p, n) ∷ [])
apart_added {places} es p n are new fits =
    let long : length (es ++ (p, n) ∷ []) ≡ length es + 1 = length_push es (p, n) in
    record {
      apart = λ i j less within same. elim (cases_lt j (length es)) [
        | inl old ↦ are.apart i j less old
            (sym (place_before es (p, n) i (omega arith)) ∙ same ∙ place_before es (p, n) j old)
        | inr past ↦
            let last : j ≡ length es = omega arith in
            new i (omega arith)
            (sym (place_before es (p, n) i (omega arith)) ∙ same ∙ ap (place_in (es ++ (p, n) ∷ [])) last
            ∙ place_last es (p, n))
      ];
      inside = λ i within. elim (cases_lt i (length es)) [
        | inl old ↦ subst (λ m. m < places) (sym (place_before es (p, n) i old)) (are.inside i old)
        | inr past ↦
            let last : length es ≡ i = omega arith in
            subst (λ k. place_in (es ++ (p, n) ∷ []) k < places) last
            (subst (λ m. m < places) (sym (place_last es (p, n))) fits)
      ];
    }

-- if a place has no count, there are fewer counts than places
place_of_all : (es : List (ℕ × ℕ)) (i d : ℕ) → i < length es → get_or (map (λ (e : ℕ × ℕ). e.0) es) i d ≡ place_in es i
place_of_all [] i d below = absurd (omega arith)
place_of_all (e ∷ es) zero d below = refl
place_of_all (e ∷ es) (suc i) d below = place_of_all es i d (omega arith)

never_there : (es : List (ℕ × ℕ)) (p : ℕ) → IsNew es p → Contains (map (λ (e : ℕ × ℕ). e.0) es) p → ⊥
never_there es p new (k, within, is) =
    let long : length (map (λ (e : ℕ × ℕ). e.0) es) ≡ length es = length-map es (λ (e : ℕ × ℕ). e.0) in
    let inside : k < length es = omega arith in
    new k inside (sym (place_of_all es k p inside) ∙ is)

pub fewer_counts : {places : ℕ} (es : List (ℕ × ℕ)) (p : ℕ) → AreApart places es → IsNew es p → p < places
    → length es ≤ places → length es < places
fewer_counts {places} es p are new fits most =
    let ps : List ℕ = map (λ (e : ℕ × ℕ). e.0) es in
    let long : length ps ≡ length es = length-map es (λ (e : ℕ × ℕ). e.0) in
    let distinct : IsDistinct nat_eq ps = IsDistinct-from_apart nat_eq ps (λ i j d less within.
    let no : get_or ps i d ≢ get_or ps j d = λ same. are.apart i j less (omega arith)
    (sym (place_of_all es i d (omega arith)) ∙ same ∙ place_of_all es j d (omega arith)) in
    grind (arith, common_steps)) in
    let below : All (λ q. q < places) ps = λ i d within.
    subst (λ m. m < places) (sym (place_of_all es i d (omega arith))) (are.inside i (omega arith)) in
    elim (cases_eq (length es) places) [
      | inl full ↦ absurd (never_there es p new (none_left_out places ps distinct below (long ∙ full) p fits))
      | inr fewer ↦ omega arith
    ]

-- what the entries mean
place_of_entry : (entries : List Entry) (i : ℕ) → place_in (counts_in entries) i ≡ place_at entries i
place_of_entry entries i =
    ap (λ (e : ℕ × ℕ). e.0) (get_or-map (λ (e : Entry). (e.place, e.count)) entries i no_entry)

pub length-counts_in : (entries : List Entry) → length (counts_in entries) ≡ length entries
length-counts_in entries = length-map entries (λ (e : Entry). (e.place, e.count))

pub new_by_entries : (entries list : List Entry) (p : ℕ) → list ≡ entries
    → ((i : ℕ) → i < length list → place_at list i ≢ p) → IsNew (counts_in entries) p
new_by_entries entries list p is none i below same =
    let long : length (counts_in entries) ≡ length entries = length-counts_in entries in
    subst (λ (es : List Entry). ((j : ℕ) → j < length es → place_at es j ≢ p)) is none i (omega arith)
    (sym (place_of_entry entries i) ∙ same)

-- links depend on the places and links of the entries alone
link_same : (f g : ℕ → ℕ) → ((j : ℕ) → g j ≡ f j) → (bucket n link : ℕ) → IsLink f bucket n link → IsLink g bucket n link
link_same f g same bucket n link is = subst (λ (h : ℕ → ℕ). IsLink h bucket n link) (λ i j. sym (same j) i) is

pub chained_same : (heads : List ℕ) (before after : List Entry) → length after ≡ length before
    → ((j : ℕ) → place_at after j ≡ place_at before j) → ((j : ℕ) → next_at after j ≡ next_at before j)
    → IsChained heads before → IsChained heads after
chained_same heads before after long places nexts chained =
    let buckets : ℕ = length heads in
    let bucket_at : List Entry → ℕ → ℕ = λ es j. bucket_of buckets (place_at es j) in
    let same : (j : ℕ) → bucket_at after j ≡ bucket_at before j = λ j. ap (bucket_of buckets) (places j) in
    record {
      some = chained.some;
      linked = record {
        head = λ b below. link_same (bucket_at before) (bucket_at after) same b (length after) (get_or heads b 0)
            (subst (λ n. IsLink (bucket_at before) b n (get_or heads b 0)) (sym long) (chained.linked.head b below));
        next = λ i below. link_same (bucket_at before) (bucket_at after) same (bucket_at after i) i (next_at after i)
            (subst (λ b. IsLink (bucket_at before) b i (next_at after i)) (sym (same i))
            (subst (λ l. IsLink (bucket_at before) (bucket_at before i) i l) (sym (nexts i))
            (chained.linked.next i (let inside : i < length before = omega arith in inside))));
      };
    }

-- an entry that was found, in the list that it was looked up in
pub record IsFoundEntry (entries list : List Entry) (i p : ℕ) (entry : Entry) : Type 0 where
  pub same : list ≡ entries
  pub within : i < length list
  pub here : place_at list i ≡ p
  pub read : entry ≡ get_or entries i entry

module _ {places : ℕ} (entries list : List Entry) (i p : ℕ) (entry : Entry) (found : IsFoundEntry entries list i p entry)
    (are : AreApart places (counts_in entries)) where
  below_entries : i < length entries
  below_entries = subst (λ (es : List Entry). i < length es) found.same found.within

  below_counts : i < length (counts_in entries)
  below_counts = let long : length (counts_in entries) ≡ length entries = length-counts_in entries in
      let below : i < length entries = below_entries in omega arith

  place_here : place_in (counts_in entries) i ≡ p
  place_here = place_of_entry entries i ∙ ap (λ (es : List Entry). place_at es i) (sym found.same) ∙ found.here

  entry_is : entry ≡ get_or entries i no_entry
  entry_is = get_or_read entries i entry below_entries found.read no_entry

  pub count_found : entry.count ≡ great_count (counts_in entries) p
  count_found =
      ap (λ (e : Entry). e.count) entry_is
      ∙ sym (ap (λ (e : ℕ × ℕ). e.1) (get_or-map (λ (e : Entry). (e.place, e.count)) entries i no_entry))
      ∙ sym (count_there (counts_in entries) i p are below_counts place_here)

  module _ (n next : ℕ) where
    abbrev written : List Entry
    written = set entries i (record { place = entry.place; count = n; next = next })

    counts_written : counts_in written ≡ set (counts_in entries) i (p, n)
    counts_written =
        let place : entry.place ≡ p = ap (λ (e : Entry). e.place) entry_is ∙ sym (place_of_entry entries i) ∙ place_here in
        map-set (λ (e : Entry). (e.place, e.count)) entries i (record { place = entry.place; count = n; next = next })
        ∙ ap (λ k. set (counts_in entries) i (k, n)) place

    pub written_here : great_count (counts_in written) p ≡ n
    written_here =
        ap (λ es. great_count es p) counts_written ∙ count_set (counts_in entries) i p n are below_counts place_here

    pub written_beside : (q : ℕ) → q ≢ p → great_count (counts_in written) q ≡ great_count (counts_in entries) q
    written_beside q apart =
        ap (λ es. great_count es q) counts_written ∙ count_beside_set (counts_in entries) i p n q apart place_here

    pub written_apart : AreApart places (counts_in written)
    written_apart =
        subst (λ es. AreApart places es) (sym counts_written)
        (apart_set (counts_in entries) i p n are below_counts place_here)

  -- with the link that it had
  pub written_chained : (n : ℕ) (heads : List ℕ) → IsChained heads entries → IsChained heads (written n entry.next)
  written_chained n heads chained =
      let new : Entry = record { place = entry.place; count = n; next = entry.next } in
      chained_same heads entries (written n entry.next) (length-set entries i new)
      (λ j. elim (cases_eq j i) [
        | inl same ↦ ap (place_at (set entries i new)) same
            ∙ ap (λ (e : Entry). e.place) (get_or-set_same entries i new no_entry below_entries)
            ∙ ap (λ (e : Entry). e.place) entry_is ∙ ap (place_at entries) (sym same)
        | inr apart ↦ ap (λ (e : Entry). e.place) (get_or-set_other entries i j new no_entry apart)
      ])
      (λ j. elim (cases_eq j i) [
        | inl same ↦ ap (next_at (set entries i new)) same
            ∙ ap (λ (e : Entry). e.next) (get_or-set_same entries i new no_entry below_entries)
            ∙ ap (λ (e : Entry). e.next) entry_is ∙ ap (next_at entries) (sym same)
        | inr apart ↦ ap (λ (e : Entry). e.next) (get_or-set_other entries i j new no_entry apart)
      ])
      chained
