-- The greatest count of a map, from its rows.
use Rattle.std.proofs.Common.{◌≡◌, ◌∙◌, ℕ, ◌<◌, ◌≤◌, ◌⊎◌, inl, inr, true, false, [], ◌∷◌, ◌++◌, Some, Contains, filter, fold}
use Rattle.std.proofs.Common.{max, nat_lt, nat_eq, refl, sym, ap, subst, arith, ⊎_elim}
use Rattle.std.specs.FinMap.{get, from_entries}
use Rattle.std.specs.List.{IsDistinct}
use Rattle.std.specs.Map.{keys_of, values_of}
use Rattle.std.proofs.lemmas.Bool.{cases_lt, cond-true, cond-false}
use Rattle.std.proofs.lemmas.Bool.Decides.{nat_tests}
use Rattle.std.proofs.lemmas.List.{map_push}
use Rattle.std.proofs.lemmas.List.Elements.{All-contains}
use Rattle.std.proofs.lemmas.List.Sums.{fold_push}
use Rattle.std.proofs.lemmas.Map.Made.{Contains-values_of, Contains-from_values_of}
use Rattle.kc_lemmas.proofs.Greatest.{max-most, max-reached}
use Rattle.kc_table.specs.Counts.{KeyCounts, count_at, AreRowsOf, IsGreatestCount}
use Rattle.kc_table.proofs.KeyCounts.{Entries, count_at-some, rows_of_entries}

-- the greatest count of the rows is that of the map
pub greatest_of_rows : (counts : KeyCounts) (rows : Entries) → AreRowsOf counts rows → IsGreatestCount counts (fold max 0 (values_of rows))
greatest_of_rows counts rows are = record { most = most; reached = reached (max-reached 0 (values_of rows)) }
  where
    most : (key : ℕ) → count_at counts key ≤ fold max 0 (values_of rows)
    most key = ⊎_elim
        (λ (some : 0 < count_at counts key).
        max-most 0 (values_of rows) (count_at counts key) (Contains-values_of rows key (count_at counts key) (are.complete key (omega (arith, some)))))
        (λ (none : count_at counts key ≤ 0). omega (arith, none))
        (cases_lt 0 (count_at counts key))

    reached : (fold max 0 (values_of rows) ≡ 0) ⊎ Contains (values_of rows) (fold max 0 (values_of rows))
        → (key : ℕ) × (count_at counts key ≡ fold max 0 (values_of rows))
    reached (inl none) = (0, let at_most = most 0 in omega (arith, none, at_most))
    reached (inr there) =
        let row = Contains-from_values_of rows (fold max 0 (values_of rows)) there in
        let told = All-contains (λ r. (get counts r.0 ≡ Some r.1) × (1 ≤ r.1)) rows (row.0, fold max 0 (values_of rows)) are.told row.1 in
        (row.0, count_at-some counts row.0 (fold max 0 (values_of rows)) told.0)

-- one more row
pub max-push : (rows : Entries) (key count : ℕ) → max (fold max 0 (values_of rows)) count ≡ fold max 0 (values_of (rows ++ (key, count) ∷ []))
max-push rows key count =
    sym (ap (fold max 0) (map_push (λ (row : ℕ × ℕ). row.1) rows (key, count)) ∙ fold_push max 0 (values_of rows) count)

counted : (count : ℕ) → 0 < count → nat_lt 0 count ≡ true
counted count some = grind (arith, nat_tests, some)

not_counted : (count : ℕ) → count ≤ 0 → nat_lt 0 count ≡ false
not_counted count none = grind (arith, nat_tests, none)

-- entries whose count is 0 are no rows
max-counted : (a : ℕ) (es : Entries) → fold max a (values_of (filter (λ e. nat_lt 0 e.1) es)) ≡ fold max a (values_of es)
max-counted a [] = refl
max-counted a (e ∷ es) = ⊎_elim
    (λ (some : 0 < e.1).
    ap (λ (rows : Entries). fold max a (values_of rows))
    (cond-true (nat_lt 0 e.1) (e ∷ filter (λ f. nat_lt 0 f.1) es) (filter (λ f. nat_lt 0 f.1) es) (counted e.1 some))
    ∙ max-counted (max a e.1) es)
    (λ (none : e.1 ≤ 0).
    let same : a ≡ max a e.1 = omega (arith, none) in
    ap (λ (rows : Entries). fold max a (values_of rows))
    (cond-false (nat_lt 0 e.1) (e ∷ filter (λ f. nat_lt 0 f.1) es) (filter (λ f. nat_lt 0 f.1) es) (not_counted e.1 none))
    ∙ max-counted a es ∙ ap (λ b. fold max b (values_of es)) same)
    (cases_lt 0 e.1)

-- the greatest count of the map of entries whose keys are apart
pub greatest_of_entries : (es : Entries) (counts : KeyCounts) (greatest : ℕ) → from_entries es ≡ counts → IsDistinct nat_eq (keys_of es)
    → greatest ≡ fold max 0 (values_of es) → IsGreatestCount counts greatest
greatest_of_entries es counts greatest seen apart is =
    subst (IsGreatestCount counts) (max-counted 0 es ∙ sym is)
    (greatest_of_rows counts (filter (λ e. nat_lt 0 e.1) es) (rows_of_entries es counts seen apart (filter (λ e. nat_lt 0 e.1) es) refl))
