-- Reading source after source.
use Rattle.std.proofs.Common.{◌≡◌, ◌≤◌, ◌<◌, ◌+◌, ◌-◌, ◌++◌, ℕ, List, [], ◌∷◌, length, get_or, set, refl, sym, ◌∙◌, ap, subst, arith, append_assoc, append-nil, length-append}
use Rattle.std.specs.List.{concat}
use Rattle.std.proofs.lemmas.List.Sums.{sum_by-append}
use Rattle.kc_io.specs.Sources.{Seen}
use Rattle.kc_gzip.specs.Intakes.{TakesAll}
use Rattle.kc_fastx.specs.Parsing.{GivesReads, HaveReads, HasReads, RefusesFor, most_bytes}
use Rattle.kc_fastx.specs.Reads.{Read, base_count}
use Rattle.kc_fastx.specs.declared.read_faults.FastxFault.{FastxFault}
use Rattle.kc_tool.specs.Tallies.{FailsAt, GaveInputs, GaveReads, ReadsSources}
use Rattle.kc_tool.proofs.PlaceLemmas.{TakenSoFar, none_taken, one_taken, next_place, all_taken}

-- The sources before this one were read, and it and those after it are unchanged.
pub record ReadSoFar (old new : List Seen) (reads : List Read) (left number : ℕ) : Type 0 where
  pub taken : TakenSoFar old new number
  pub inputs : List (List ℕ)
  pub earlier : GaveReads taken.done taken.given inputs reads
  pub budget : left + length (concat inputs) ≡ most_bytes
  pub bases : base_count reads + left ≤ most_bytes

pub begun : (sources : List Seen) → ReadSoFar sources sources [] most_bytes 0
begun sources = record {
  taken = none_taken sources;
  inputs = [];
  earlier = record { gave = tt; within = omega arith; has_reads = refl };
  budget = refl;
  bases = omega arith;
}

nothing_used : (limit : ℕ) → limit - 0 ≡ limit
nothing_used limit = omega arith

later_limit : (limit a b : ℕ) → limit - (a + b) ≡ limit - a - b
later_limit limit a b = omega arith

GaveInputs-push : (limit : ℕ) (olds news : List Seen) (inputs : List (List ℕ)) (old new : Seen) (input : List ℕ) → GaveInputs limit olds news inputs
    → TakesAll old new (limit - length (concat inputs)) input → GaveInputs limit (olds ++ old ∷ []) (news ++ new ∷ []) (inputs ++ input ∷ [])
GaveInputs-push limit [] [] [] old new input h t = (subst (λ n. TakesAll old new n input) (nothing_used limit) t, tt)
GaveInputs-push limit (front ∷ olds) (later ∷ news) (first ∷ inputs) old new input h t =
    let same : limit - length (concat (first ∷ inputs)) ≡ limit - length first - length (concat inputs) =
    ap (λ n. limit - n) (length-append first (concat inputs)) ∙ later_limit limit (length first) (length (concat inputs)) in
    (h.0, GaveInputs-push (limit - length first) olds news inputs old new input h.1 (subst (λ n. TakesAll old new n input) same t))
GaveInputs-push limit [] [] (first ∷ inputs) old new input h t = absurd h
GaveInputs-push limit [] (later ∷ news) [] old new input h t = absurd h
GaveInputs-push limit [] (later ∷ news) (first ∷ inputs) old new input h t = absurd h
GaveInputs-push limit (front ∷ olds) [] [] old new input h t = absurd h
GaveInputs-push limit (front ∷ olds) [] (first ∷ inputs) old new input h t = absurd h
GaveInputs-push limit (front ∷ olds) (later ∷ news) [] old new input h t = absurd h

HaveReads-push : (inputs : List (List ℕ)) (input : List ℕ) (reads more : List Read) → HaveReads inputs reads → HasReads input more → HaveReads (inputs ++ input ∷ []) (reads ++ more)
HaveReads-push [] input reads more h e = (more, [], e, refl, ap (λ v. v ++ more) h ∙ sym (append-nil more))
HaveReads-push (first ∷ inputs) input reads more h e =
    (h.0, h.1 ++ more, h.2, HaveReads-push inputs input h.1 more h.3 e, ap (λ v. v ++ more) h.4 ∙ append_assoc h.0 h.1 more)

length-concat-push : (inputs : List (List ℕ)) (input : List ℕ) → length (concat (inputs ++ input ∷ [])) ≡ length (concat inputs) + length input
length-concat-push [] input = omega (arith, ap length (append-nil input))
length-concat-push (first ∷ inputs) input =
    omega (arith, length-append first (concat (inputs ++ input ∷ [])), length-append first (concat inputs), length-concat-push inputs input)

left_of : (left used most : ℕ) → left + used ≡ most → left ≡ most - used
left_of left used most e = omega (arith, e)

-- The next source was read.
pub one_more : {old new : List Seen} {reads : List Read} (d later : Seen) (more : List Read) {left number : ℕ} (count : ℕ) → (r : ReadSoFar old new reads left number)
    → number < length new → GivesReads (get_or new number d) later left more count → base_count more ≤ count
    → ReadSoFar old (set new number later) (reads ++ more) (left - count) (number + 1)
one_more {old} {new} {reads} d later more {left} {number} count r within given few =
    let here = get_or new number d in
    let input = given.bytes in
    let inputs = r.inputs in
    let long = length-concat-push inputs input in
    let joined : base_count (reads ++ more) ≡ base_count reads + base_count more = sum_by-append (λ read. length read.bases) reads more in
    record {
      taken = one_taken d later r.taken within;
      inputs = inputs ++ input ∷ [];
      earlier = record {
        gave = GaveInputs-push most_bytes r.taken.done r.taken.given inputs here later input r.earlier.gave
            (subst (λ n. TakesAll here later n input) (left_of left (length (concat inputs)) most_bytes r.budget) given.taken);
        within = omega (arith, long, r.budget, given.taken.within);
        has_reads = HaveReads-push inputs input reads more r.earlier.has_reads given.has_reads;
      };
      budget = omega (arith, long, r.budget, given.taken.within, given.counted);
      bases = omega (arith, joined, r.bases, few, given.taken.within, given.counted);
    }

-- The next source was refused.
pub refused : {old new : List Seen} {reads : List Read} (d later : Seen) {left number : ℕ} (fault : FastxFault) → (r : ReadSoFar old new reads left number) → number < length new
    → RefusesFor (get_or new number d) later left fault → FailsAt old (set new number later) (number + 1) fault
refused {old} {new} {reads} d later {left} {number} fault r within h =
    let here = get_or new number d in
    record {
      place = next_place d later r.taken within;
      inputs = r.inputs;
      reads = reads;
      earlier = r.earlier;
      fails = subst (λ v. RefusesFor here later v fault) (left_of left (length (concat r.inputs)) most_bytes r.budget) h;
    }

-- All sources were read.
pub ended : (old new : List Seen) (reads : List Read) (left number : ℕ) → ReadSoFar old new reads left number → length new ≤ number → ReadsSources old new reads
ended old new reads left number r all =
    let (were, are) = all_taken r.taken all in
    (r.inputs, subst (λ v. GaveReads old v r.inputs reads) are (subst (λ v. GaveReads v r.taken.given r.inputs reads) were r.earlier))
