-- How many starts a list of words has.
use Rattle.std.proofs.Common.{◌≡◌, ℕ, zero, suc, ◌+◌, ◌-◌, ◌*◌, ◌/◌, ◌^◌, ◌<◌, ◌≤◌, List, length, get_or, min, max, ap, [], ◌∷◌}
use Rattle.std.proofs.Common.{◌∙◌, sym, subst, arith}
use Rattle.std.proofs.lemmas.Nat.{le-div, pow_pos, pow-add}
use Rattle.std.specs.List.Sorted.{IsStrictlyIncreasing}

-- a number of an ascending list is at least its place
at_place : (words : List ℕ) (i : ℕ) → IsStrictlyIncreasing words → i < length words → i ≤ get_or words i 0
at_place words zero rising within = omega arith
at_place words (suc i) rising within =
    let before = at_place words i rising (omega (arith, within)) in
    let next : get_or words i 0 < get_or words (i + 1) 0 = rising i (omega (arith, within)) in
    let same : get_or words (i + 1) 0 ≡ get_or words (suc i) 0 = ap (λ n. get_or words n 0) (omega arith) in
    omega (arith, before, next, same)

-- they are no more than their last one and one
pub last_is_great : (words : List ℕ) (last : ℕ) → IsStrictlyIncreasing words → 0 < length words
    → get_or words (length words - 1) 0 ≡ last → length words ≤ last + 1
last_is_great words last rising some is =
    let great = at_place words (length words - 1) rising (omega (arith, some)) in
    omega (arith, great, is, some)

-- Of a number with this highest bit the bits from `shift` on are enough for a quarter of `count` prefixes.
pub enough_prefixes : (count last top high : ℕ) → count < 2 * 2 ^ high → 2 ^ top ≤ max last 1 → high ≤ top
    → top < 64 → count ≤ last + 1 → count ≤ 4 * (last / 2 ^ (min (top - high + 1) 63) + 1)
enough_prefixes count zero top high below least within bits fits = omega (arith, fits)
enough_prefixes count (suc last) top zero below least within bits fits =
    let few : count < 2 * 2 ^ 0 = below in
    omega (arith, few)
enough_prefixes count (suc last) top (suc high) below least within bits fits =
    let shift = top - suc high + 1 in
    let is : min shift 63 ≡ shift = omega (arith, within, bits) in
    let whole : 2 ^ high * 2 ^ shift ≡ 2 ^ top =
    sym (pow-add 2 high shift) ∙ ap (λ n. 2 ^ n) (omega (arith, within)) in
    let lies : 2 ^ high * 2 ^ shift ≤ suc last = omega (arith, whole, least) in
    let long : 2 ^ high ≤ suc last / 2 ^ shift = le-div (2 ^ high) (suc last) (2 ^ shift) (pow_pos shift) lies in
    let double : 2 ^ (high + 1) ≡ 2 ^ high * 2 ^ 1 = pow-add 2 high 1 in
    let power : 2 ^ suc high ≡ 2 ^ (high + 1) = ap (λ n. 2 ^ n) (omega arith) in
    let quarter : count ≤ 4 * (suc last / 2 ^ shift + 1) = omega (arith, below, double, power, long) in
    subst (λ n. count ≤ 4 * (suc last / 2 ^ n + 1)) (sym is) quarter

-- an ascending list has at least one start for four words
pub many_starts : (words : List ℕ) (last shift starts : ℕ) → IsStrictlyIncreasing words
    → (0 < length words → get_or words (length words - 1) 0 ≡ last)
    → (length words ≤ last + 1 → length words ≤ 4 * (last / 2 ^ shift + 1))
    → starts ≡ min (length words) (last / 2 ^ shift + 1) → length words ≤ 4 * starts
many_starts [] last shift starts rising is enough are = omega arith
many_starts (word ∷ words) last shift starts rising is enough are =
    let some : 0 < length (word ∷ words) = omega arith in
    let great = last_is_great (word ∷ words) last rising some (is some) in
    let many = enough great in
    omega (arith, many, are)
