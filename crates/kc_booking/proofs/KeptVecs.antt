-- Vectors that are kept from one round to the next: the contents and the capacity at each place.
use Rattle.std.proofs.Common.{vec_capacity, ◌≡◌, ◌≢◌, ℕ, zero, suc, ◌+◌, ◌/◌, ◌%◌, ◌^◌, ◌<◌, ◌≤◌, max, cond, List, [], ◌∷◌, ◌++◌, length, get_or, set, take, map, filter, count_by, Vec, Global, append-nil, append_assoc, refl, ap, ap₂, sym, ◌∙◌, arith, ⊎_elim}
use Rattle.std.proofs.Math.Seq.{map-set_same}
use Rattle.std.proofs.lemmas.Bool.{cases_eq, cases_lt}
use Rattle.std.proofs.lemmas.List.{get_or-set_same, get_or-set_other, get_or_past, length-set, length-map, length-append, get_or-map, map-set, map-append, map_push}
use Rattle.std.proofs.lemmas.List.Sums.{length-filter, sum_by-take-le}
use Rattle.std.proofs.lemmas.List.Elements.{filter-append}
use Rattle.kc_lemmas.proofs.BucketLemmas.{bucket_items-more, bucket_items-same}
use Rattle.kc_booking.specs.Round.{items_at, room_at, rooms_of, stripe_keys, with_an_eighth}
use Rattle.kc_booking.proofs.Parts.{falls_in}

-- ---- one vector among several

pub items_at-get : {T : Type 0} (vecs : List (Vec T Global)) (i : ℕ) (vec : Vec T Global) → i < length vecs → vec ≡ get_or vecs i vec
    → items_at vecs i ≡ vec.items
items_at-get vecs i vec within is = get_or-map (λ v. v.items) vecs i vec [] within ∙ ap (λ v. v.items) (sym is)

pub room_at-get : {T : Type 0} (vecs : List (Vec T Global)) (i : ℕ) (vec : Vec T Global) → i < length vecs → vec ≡ get_or vecs i vec
    → room_at vecs i ≡ vec_capacity vec
room_at-get vecs i vec within is = get_or-map (λ v. vec_capacity v) vecs i vec 0 within ∙ ap (λ v. vec_capacity v) (sym is)

pub items_at-same : {T : Type 0} (vecs : List (Vec T Global)) (i : ℕ) (vec : Vec T Global) → i < length vecs → items_at (set vecs i vec) i ≡ vec.items
items_at-same vecs i vec within =
    ap (λ xs. get_or xs i []) (map-set (λ v. v.items) vecs i vec)
    ∙ get_or-set_same (map (λ v. v.items) vecs) i vec.items [] (omega (arith, length-map vecs (λ v. v.items), within))

pub items_at-other : {T : Type 0} (vecs : List (Vec T Global)) (i place : ℕ) (vec : Vec T Global) → place ≢ i
    → items_at (set vecs i vec) place ≡ items_at vecs place
items_at-other vecs i place vec apart =
    ap (λ xs. get_or xs place []) (map-set (λ v. v.items) vecs i vec) ∙ get_or-set_other (map (λ v. v.items) vecs) i place vec.items [] apart

pub room_at-same : {T : Type 0} (vecs : List (Vec T Global)) (i : ℕ) (vec : Vec T Global) → i < length vecs → room_at (set vecs i vec) i ≡ vec_capacity vec
room_at-same vecs i vec within =
    ap (λ xs. get_or xs i 0) (map-set (λ v. vec_capacity v) vecs i vec)
    ∙ get_or-set_same (map (λ v. vec_capacity v) vecs) i (vec_capacity vec) 0 (omega (arith, length-map vecs (λ v. vec_capacity v), within))

pub room_at-other : {T : Type 0} (vecs : List (Vec T Global)) (i place : ℕ) (vec : Vec T Global) → place ≢ i
    → room_at (set vecs i vec) place ≡ room_at vecs place
room_at-other vecs i place vec apart =
    ap (λ xs. get_or xs place 0) (map-set (λ v. vec_capacity v) vecs i vec) ∙ get_or-set_other (map (λ v. vec_capacity v) vecs) i place (vec_capacity vec) 0 apart

-- a vector of the same room in the place of another
pub rooms_of-kept : {T : Type 0} (vecs : List (Vec T Global)) (i : ℕ) (old new : Vec T Global) → old ≡ get_or vecs i old → vec_capacity new ≡ vec_capacity old
    → rooms_of (set vecs i new) ≡ rooms_of vecs
rooms_of-kept vecs i old new is same = map-set_same (λ v. vec_capacity v) vecs i new old (same ∙ ap (λ v. vec_capacity v) is)

-- ---- the keys of hash values

pub stripe_keys-more_yes : (s stripe : ℕ) (hash_values : List ℕ) (i : ℕ) → i < length hash_values → get_or hash_values i 0 % 2 ^ s ≡ stripe
    → stripe_keys s stripe (take (i + 1) hash_values) ≡ stripe_keys s stripe (take i hash_values) ++ (get_or hash_values i 0 / 2 ^ s) ∷ []
stripe_keys-more_yes s stripe hash_values i within here =
    ap (map (λ value. value / 2 ^ s)) (bucket_items-more (λ value. value % 2 ^ s) stripe hash_values i 0 within here)
    ∙ map_push (λ value. value / 2 ^ s) (filter (falls_in s stripe) (take i hash_values)) (get_or hash_values i 0)

pub stripe_keys-more_no : (s stripe : ℕ) (hash_values : List ℕ) (i : ℕ) → i < length hash_values → get_or hash_values i 0 % 2 ^ s ≢ stripe
    → stripe_keys s stripe (take (i + 1) hash_values) ≡ stripe_keys s stripe (take i hash_values)
stripe_keys-more_no s stripe hash_values i within apart =
    ap (map (λ value. value / 2 ^ s)) (bucket_items-same (λ value. value % 2 ^ s) stripe hash_values i 0 within apart)

pub stripe_keys-append : (s stripe : ℕ) (xs ys : List ℕ) → stripe_keys s stripe (xs ++ ys) ≡ stripe_keys s stripe xs ++ stripe_keys s stripe ys
stripe_keys-append s stripe xs ys =
    ap (map (λ value. value / 2 ^ s)) (filter-append (falls_in s stripe) xs ys)
    ∙ map-append (λ value. value / 2 ^ s) (filter (falls_in s stripe) xs) (filter (falls_in s stripe) ys)

pub stripe_keys-long : (s stripe : ℕ) (hash_values : List ℕ) → length (stripe_keys s stripe hash_values) ≡ count_by (falls_in s stripe) hash_values
stripe_keys-long s stripe hash_values =
    length-map (filter (falls_in s stripe) hash_values) (λ value. value / 2 ^ s) ∙ length-filter (falls_in s stripe) hash_values

-- the first of them are not more than all
pub stripe_keys-fewer : (s stripe : ℕ) (hash_values : List ℕ) (i : ℕ)
    → length (stripe_keys s stripe (take i hash_values)) ≤ length (stripe_keys s stripe hash_values)
stripe_keys-fewer s stripe hash_values i =
    let some = stripe_keys-long s stripe (take i hash_values) in
    let all = stripe_keys-long s stripe hash_values in
    omega (arith, some, all, sum_by-take-le (λ value. cond (falls_in s stripe value) 1 0) hash_values i)

-- ---- the keys of the first i hash values are appended to those of their stripes

pub record ArePushedTo (s : ℕ) (hash_values : List ℕ) (old new : List (Vec ℕ Global)) (i : ℕ) : Type 0 where
  pub all : length new ≡ length old
  pub keys : (stripe : ℕ) → stripe < 2 ^ s → items_at new stripe ≡ items_at old stripe ++ stripe_keys s stripe (take i hash_values)
  pub rooms : rooms_of new ≡ rooms_of old

pub ArePushedTo-none : (s : ℕ) (hash_values : List ℕ) (old : List (Vec ℕ Global)) → ArePushedTo s hash_values old old 0
ArePushedTo-none s hash_values old = record { all = refl; keys = λ stripe below. sym (append-nil (items_at old stripe)); rooms = refl }

-- one more key is appended to those of its stripe
pub record KeyStep (s : ℕ) (hash_values : List ℕ) (now : List (Vec ℕ Global)) (i : ℕ) : Type 0 where
  pub stripe : ℕ
  pub key : ℕ
  pub old : Vec ℕ Global
  pub new : Vec ℕ Global
  pub within : i < length hash_values
  pub stripe_is : stripe ≡ get_or hash_values i 0 % 2 ^ s
  pub fits : stripe < length now
  pub key_is : key ≡ get_or hash_values i 0 / 2 ^ s
  pub old_is : old ≡ get_or now stripe old
  pub new_is : new.items ≡ old.items ++ key ∷ []
  pub room_is : vec_capacity new ≡ vec_capacity old

pub ArePushedTo-more : (s : ℕ) (hash_values : List ℕ) (old now : List (Vec ℕ Global)) (i : ℕ) (step : KeyStep s hash_values now i)
    → ArePushedTo s hash_values old now i → ArePushedTo s hash_values old (set now step.stripe step.new) (i + 1)
ArePushedTo-more s hash_values old now i step so_far = record {
  all = length-set now step.stripe step.new ∙ so_far.all;
  keys = λ stripe below. ⊎_elim
      (λ (here : stripe ≡ step.stripe).
      ap (items_at (set now step.stripe step.new)) here ∙ items_at-same now step.stripe step.new step.fits
      ∙ step.new_is
      ∙ ap₂ (λ (xs : List ℕ) (x : ℕ). xs ++ x ∷ [])
      (sym (items_at-get now step.stripe step.old step.fits step.old_is) ∙ ap (items_at now) (sym here) ∙ so_far.keys stripe below) step.key_is
      ∙ append_assoc (items_at old stripe) (stripe_keys s stripe (take i hash_values)) (get_or hash_values i 0 / 2 ^ s ∷ [])
      ∙ ap (λ (xs : List ℕ). items_at old stripe ++ xs) (sym (stripe_keys-more_yes s stripe hash_values i step.within (sym step.stripe_is ∙ sym here))))
      (λ (apart : stripe ≢ step.stripe).
      items_at-other now step.stripe stripe step.new apart ∙ so_far.keys stripe below
      ∙ ap (λ (xs : List ℕ). items_at old stripe ++ xs) (sym (stripe_keys-more_no s stripe hash_values i step.within (λ e. apart (sym e ∙ sym step.stripe_is)))))
      (cases_eq stripe step.stripe);
  rooms = rooms_of-kept now step.stripe step.old step.new step.old_is step.room_is ∙ so_far.rooms;
}

-- there is room for it
pub key-room : (s : ℕ) (hash_values : List ℕ) (old now : List (Vec ℕ Global)) (i stripe : ℕ) (vec : Vec ℕ Global) → i < length hash_values
    → stripe ≡ get_or hash_values i 0 % 2 ^ s → stripe < 2 ^ s → stripe < length now → vec ≡ get_or now stripe vec
    → ((stripe : ℕ) → stripe < 2 ^ s → length (items_at old stripe) + length (stripe_keys s stripe hash_values) ≤ room_at old stripe)
    → ArePushedTo s hash_values old now i → length vec.items < vec_capacity vec
key-room s hash_values old now i stripe vec within stripe_is below fits is room so_far =
    let held = ap length (sym (items_at-get now stripe vec fits is) ∙ so_far.keys stripe below) in
    let both = length-append (items_at old stripe) (stripe_keys s stripe (take i hash_values)) in
    let more = ap length (stripe_keys-more_yes s stripe hash_values i within (sym stripe_is)) in
    let one = length-append (stripe_keys s stripe (take i hash_values)) (get_or hash_values i 0 / 2 ^ s ∷ []) in
    let fewer = stripe_keys-fewer s stripe hash_values (i + 1) in
    let capacity = sym (room_at-get now stripe vec fits is) ∙ ap (λ (rooms : List ℕ). get_or rooms stripe 0) so_far.rooms in
    omega (arith, held, both, more, one, fewer, capacity, room stripe below)

-- ---- each vector is emptied

pub items_at-past : {T : Type 0} (vecs : List (Vec T Global)) (place : ℕ) → length vecs ≤ place → items_at vecs place ≡ []
items_at-past vecs place past = get_or_past (map (λ v. v.items) vecs) place [] (omega (arith, length-map vecs (λ v. v.items), past))

pub room_at-past : {T : Type 0} (vecs : List (Vec T Global)) (place : ℕ) → length vecs ≤ place → room_at vecs place ≡ 0
room_at-past vecs place past = get_or_past (map (λ v. vec_capacity v) vecs) place 0 (omega (arith, length-map vecs (λ v. vec_capacity v), past))

-- the first i vectors are emptied
pub record AreClearedTo {T : Type 0} (old now : List (Vec T Global)) (i : ℕ) : Type 0 where
  pub all : length now ≡ length old
  pub empty : (place : ℕ) → place < i → items_at now place ≡ []
  pub rooms : rooms_of now ≡ rooms_of old

pub AreClearedTo-none : {T : Type 0} (old : List (Vec T Global)) → AreClearedTo old old 0
AreClearedTo-none old = record { all = refl; empty = λ place less. absurd (omega arith); rooms = refl }

pub AreClearedTo-more : {T : Type 0} {old now : List (Vec T Global)} {i : ℕ} (vec new : Vec T Global) → AreClearedTo old now i → i < length now
    → vec ≡ get_or now i vec → new.items ≡ [] → vec_capacity new ≡ vec_capacity vec → AreClearedTo old (set now i new) (i + 1)
AreClearedTo-more {T} {old} {now} {i} vec new so_far within is empty same = record {
  all = length-set now i new ∙ so_far.all;
  empty = λ place less. ⊎_elim
      (λ (here : place ≡ i). ap (items_at (set now i new)) here ∙ items_at-same now i new within ∙ empty)
      (λ (apart : place ≢ i). items_at-other now i place new apart ∙ so_far.empty place (omega arith))
      (cases_eq place i);
  rooms = rooms_of-kept now i vec new is same ∙ so_far.rooms;
}

pub AreClearedTo-all : {T : Type 0} {old now : List (Vec T Global)} {i : ℕ} → AreClearedTo old now i → length now ≤ i
    → (place : ℕ) → items_at now place ≡ []
AreClearedTo-all {T} {old} {now} {i} so_far end place = ⊎_elim
    (λ (less : place < i). so_far.empty place less)
    (λ (past : i ≤ place). items_at-past now place (omega arith))
    (cases_lt place i)

-- the element after a list, with a default
get_or-push_default : {X : Type 0} (xs : List X) (i : ℕ) (d : X) → get_or (xs ++ d ∷ []) i d ≡ get_or xs i d
get_or-push_default [] zero d = refl
get_or-push_default [] (suc i) d = refl
get_or-push_default (x ∷ xs) zero d = refl
get_or-push_default (x ∷ xs) (suc i) d = get_or-push_default xs i d

-- one empty vector more
pub empty-push : {T : Type 0} (now new : List (Vec T Global)) (vec : Vec T Global) → new ≡ now ++ vec ∷ [] → vec.items ≡ []
    → ((place : ℕ) → items_at now place ≡ []) → (place : ℕ) → items_at new place ≡ []
empty-push {T} now new vec is none so_far place =
    ap (λ (vecs : List (Vec T Global)). items_at vecs place) is
    ∙ ap (λ (lists : List (List T)). get_or lists place []) (map_push (λ v. v.items) now vec ∙ ap (λ (xs : List T). map (λ v. v.items) now ++ xs ∷ []) none)
    ∙ get_or-push_default (map (λ v. v.items) now) place [] ∙ so_far place

-- ---- room is made in each vector

-- the contents are unchanged, and the capacities are bounded
pub record AreGrown {T : Type 0} (old now : List (Vec T Global)) (more : List ℕ) : Type 0 where
  pub all : length now ≡ length old
  pub same : (place : ℕ) → items_at now place ≡ items_at old place
  pub bounded : (place : ℕ) → room_at now place ≤ max (room_at old place) (with_an_eighth (length (items_at old place) + get_or more place 0))

pub AreGrown-none : {T : Type 0} (old : List (Vec T Global)) (more : List ℕ) → AreGrown old old more
AreGrown-none old more = record { all = refl; same = λ place. refl; bounded = λ place. omega arith }

-- one vector grows
pub record GrowStep {T : Type 0} (now : List (Vec T Global)) (more : List ℕ) (i : ℕ) : Type 0 where
  pub vec : Vec T Global
  pub new : Vec T Global
  pub within : i < length now
  pub is : vec ≡ get_or now i vec
  pub same : new.items ≡ vec.items
  pub bounded : vec_capacity new ≤ max (vec_capacity vec) (with_an_eighth (length vec.items + get_or more i 0))

pub AreGrown-more : {T : Type 0} {old now : List (Vec T Global)} {more : List ℕ} {i : ℕ} (step : GrowStep now more i) → AreGrown old now more
    → AreGrown old (set now i step.new) more
AreGrown-more {T} {old} {now} {more} {i} step so_far = record {
  all = length-set now i step.new ∙ so_far.all;
  same = λ place. ⊎_elim
      (λ (here : place ≡ i). ap (items_at (set now i step.new)) here ∙ items_at-same now i step.new step.within ∙ step.same
      ∙ sym (items_at-get now i step.vec step.within step.is) ∙ so_far.same i ∙ ap (items_at old) (sym here))
      (λ (apart : place ≢ i). items_at-other now i place step.new apart ∙ so_far.same place)
      (cases_eq place i);
  bounded = λ place. ⊎_elim
      (λ (here : place ≡ i).
      let at : room_at (set now i step.new) i ≡ vec_capacity step.new = room_at-same now i step.new step.within in
      let was = sym (room_at-get now i step.vec step.within step.is) in
      let long = ap length (sym (items_at-get now i step.vec step.within step.is) ∙ so_far.same i) in
      rw here (omega (arith, at, was, long, step.bounded, so_far.bounded i)))
      (λ (apart : place ≢ i). rw (room_at-other now i place step.new apart) (so_far.bounded place))
      (cases_eq place i);
}

-- the first i vectors have room for so many more
abbrev pub HaveRoomTo : {T : Type 0} → List (Vec T Global) → List (Vec T Global) → List ℕ → ℕ → Type 0
HaveRoomTo old now more i = (place : ℕ) → place < i → length (items_at old place) + get_or more place 0 ≤ room_at now place

pub HaveRoomTo-more : {T : Type 0} {old now : List (Vec T Global)} {more : List ℕ} {i : ℕ} (step : GrowStep now more i) → AreGrown old now more
    → length step.vec.items + get_or more i 0 ≤ vec_capacity step.new → HaveRoomTo old now more i → HaveRoomTo old (set now i step.new) more (i + 1)
HaveRoomTo-more {T} {old} {now} {more} {i} step grown room so_far place less = ⊎_elim
    (λ (here : place ≡ i).
    let at : room_at (set now i step.new) i ≡ vec_capacity step.new = room_at-same now i step.new step.within in
    let long = ap length (sym (items_at-get now i step.vec step.within step.is) ∙ grown.same i) in
    rw here (omega (arith, at, long, room)))
    (λ (apart : place ≢ i). rw (room_at-other now i place step.new apart) (so_far place (omega arith)))
    (cases_eq place i)

-- ---- one more size in each vector

-- the first i vectors have one more size
pub record HaveSizeTo (sizes : List ℕ) (old now : List (Vec ℕ Global)) (i : ℕ) : Type 0 where
  pub all : length now ≡ length old
  pub done : (place : ℕ) → place < i → items_at now place ≡ items_at old place ++ get_or sizes place 0 ∷ []
  pub rest : (place : ℕ) → i ≤ place → items_at now place ≡ items_at old place
  pub rooms : rooms_of now ≡ rooms_of old

pub HaveSizeTo-none : (sizes : List ℕ) (old : List (Vec ℕ Global)) → HaveSizeTo sizes old old 0
HaveSizeTo-none sizes old = record { all = refl; done = λ place less. absurd (omega arith); rest = λ place past. refl; rooms = refl }

pub HaveSizeTo-more : {sizes : List ℕ} {old now : List (Vec ℕ Global)} {i : ℕ} (vec new : Vec ℕ Global) → HaveSizeTo sizes old now i → i < length now
    → vec ≡ get_or now i vec → new.items ≡ vec.items ++ get_or sizes i 0 ∷ [] → vec_capacity new ≡ vec_capacity vec
    → HaveSizeTo sizes old (set now i new) (i + 1)
HaveSizeTo-more {sizes} {old} {now} {i} vec new so_far within is pushed same = record {
  all = length-set now i new ∙ so_far.all;
  done = λ place less. ⊎_elim
      (λ (here : place ≡ i).
      let at : items_at (set now i new) i ≡ items_at old i ++ get_or sizes i 0 ∷ [] =
      items_at-same now i new within ∙ pushed
      ∙ ap (λ (xs : List ℕ). xs ++ get_or sizes i 0 ∷ []) (sym (items_at-get now i vec within is) ∙ so_far.rest i (omega arith)) in
      rw here at)
      (λ (apart : place ≢ i). items_at-other now i place new apart ∙ so_far.done place (omega arith))
      (cases_eq place i);
  rest = λ place past. let apart : place ≢ i = omega arith in items_at-other now i place new apart ∙ so_far.rest place (omega arith);
  rooms = rooms_of-kept now i vec new is same ∙ so_far.rooms;
}

-- there is room for it
pub size-room : {sizes : List ℕ} {old now : List (Vec ℕ Global)} {i : ℕ} (vec : Vec ℕ Global) → HaveSizeTo sizes old now i → i < length now
    → vec ≡ get_or now i vec → ((place : ℕ) → place < length old → length (items_at old place) < room_at old place) → length vec.items < vec_capacity vec
size-room {sizes} {old} {now} {i} vec so_far within is room =
    let long = ap length (sym (items_at-get now i vec within is) ∙ so_far.rest i (omega arith)) in
    let capacity = sym (room_at-get now i vec within is) ∙ ap (λ (rooms : List ℕ). get_or rooms i 0) so_far.rooms in
    omega (arith, long, capacity, room i (omega (arith, within, so_far.all)))
