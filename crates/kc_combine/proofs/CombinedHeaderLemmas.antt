-- The header of a table that is made of several.
use Rattle.std.proofs.Common.{◌≡◌, ◌≢◌, ℕ, zero, suc, ◌+◌, ◌-◌, ◌^◌, ◌<◌, ◌≤◌, List, [], ◌∷◌, length, get_or, drop, map, All, false, refl, ap, sym, ◌∙◌, subst, arith}
use Rattle.std.proofs.lemmas.List.{get_or-drop, length-drop}
use Rattle.std.specs.Prelude.{Option, Some, None, IfSome, Result, Ok, Err}
use Rattle.kc_report.specs.declared.header.Header.{Header}
use Rattle.kc_report.specs.declared.origin.Origin.{Origin}
use Rattle.kc_report.specs.declared.report_faults.ReportFault.{ReportFault}
use Rattle.kc_report.specs.declared.report_faults.ReportFault.TheVariants.{Write, BadHeader, BadRow, BadEnd, TableTooLong, TableRead, BrokenGzip, ShortGzip, BadWord, Unlike, TooLarge, Memory}
use Rattle.kc_report.specs.Merging.{joined_origin, reads_together}
use Rattle.kc_combine.specs.MergedTables.{joined_origins}
use Rattle.kc_combine.specs.CombinedHeaders.{AllMatch, CombinesHeaders, GivesOrigin, HasFewReads, HaveSameWords, Match, origin_for}
use Rattle.kc_combine.specs.declared.combining.Combining.{Combining}
use Rattle.kc_combine.specs.declared.combining.Combining.TheVariants.{Merge, Intersect, Subtract, SubtractCounts, Filter}

some-none : {origin : Origin} → ◌≡◌ {A = Option Origin} (Some origin) None → ⊥
some-none e = cc

-- the origins of headers
abbrev pub origins_of : List Header → List (Option Origin)
origins_of headers = map (λ header. header.origin) headers

-- ---- origins together

-- one more in front
pub joined_step : (headers : List Header) (i : ℕ) (d : Header) → i + 1 < length headers
    → joined_origins (origins_of (drop i headers))
    ≡ joined_origin (get_or headers i d).origin (joined_origins (origins_of (drop (suc i) headers)))
joined_step [] i d h = absurd (omega (arith, h))
joined_step (first ∷ []) i d h = absurd (omega (arith, h))
joined_step (first ∷ second ∷ headers) zero d h = refl
joined_step (first ∷ second ∷ headers) (suc i) d h = joined_step (second ∷ headers) i d (omega (arith, h))

rest_lacks : (header : Header) (headers : List Header) → header.origin ≢ None
    → ¬ All (λ header. header.origin ≢ None) (header ∷ headers) → ¬ All (λ header. header.origin ≢ None) headers
rest_lacks header headers some lacks have = lacks all where
  all : All (λ header. header.origin ≢ None) (header ∷ headers)
  all zero d h = some
  all (suc i) d h = have i d (omega (arith, h))

-- where one header has no origin there is none of all together
pub none_joined : (headers : List Header) → 1 ≤ length headers → ¬ All (λ header. header.origin ≢ None) headers
    → joined_origins (origins_of headers) ≡ None
none_joined [] h lacks = absurd (omega (arith, h))
none_joined (header ∷ []) h lacks = of header.origin refl where
  of : (origin : Option Origin) → header.origin ≡ origin → header.origin ≡ None
  of None is = is
  of (Some origin) is = absurd (rest_lacks header [] (λ none. absurd (some-none (sym is ∙ none))) lacks (λ i d h. absurd (omega (arith, h))))
none_joined (header ∷ next ∷ headers) h lacks = of header.origin refl
    (λ some. none_joined (next ∷ headers) (omega arith) (rest_lacks header (next ∷ headers) some lacks)) where
      of : (origin : Option Origin) → header.origin ≡ origin
          → (header.origin ≢ None → joined_origins (origins_of (next ∷ headers)) ≡ None)
          → joined_origin header.origin (joined_origins (origins_of (next ∷ headers))) ≡ None
      of None is rest = ap (λ origin. joined_origin origin (joined_origins (origins_of (next ∷ headers)))) is
      of (Some origin) is rest =
          let none = rest (λ none. absurd (some-none (sym is ∙ none))) in (λ i. joined_origin (is i) (none i))

-- ---- few reads

-- where each header has an origin, there is one of all together
joined_some : (headers : List Header) → 1 ≤ length headers → All (λ header. header.origin ≢ None) headers
    → (origin : Origin) × (joined_origins (origins_of headers) ≡ Some origin)
joined_some [] h have = absurd (omega (arith, h))
joined_some (header ∷ []) h have = of header.origin refl where
  of : (origin : Option Origin) → header.origin ≡ origin → (origin : Origin) × (header.origin ≡ Some origin)
  of None is = absurd (have zero header (omega arith) is)
  of (Some origin) is = (origin, is)
joined_some (header ∷ next ∷ headers) h have =
    of header.origin refl (joined_some (next ∷ headers) (omega arith) (λ i d h. have (suc i) d (omega (arith, h)))) where
      of : (origin : Option Origin) → header.origin ≡ origin
          → (origin : Origin) × (joined_origins (origins_of (next ∷ headers)) ≡ Some origin) → (origin : Origin)
          × (joined_origin header.origin (joined_origins (origins_of (next ∷ headers))) ≡ Some origin)
      of None is rest = absurd (have zero header (omega arith) is)
      of (Some origin) is rest = (
        record { floor = origin.floor; reads = origin.reads + rest.0.reads; listed = false },
        λ i. joined_origin (is i) (rest.1 i),
      )

-- the reads of all are few where those of the last ones together are
few_step : (origin : Option Origin) (rest : Option Origin) → origin ≢ None → HasFewReads (joined_origin origin rest) → HasFewReads rest
few_step None rest some few = absurd (some refl)
few_step (Some origin) None some few = tt
few_step (Some origin) (Some other) some few = omega (arith, few)

pub few_behind : (headers : List Header) (i : ℕ) → i < length headers → All (λ header. header.origin ≢ None) headers
    → HasFewReads (joined_origins (origins_of headers)) → HasFewReads (joined_origins (origins_of (drop i headers)))
few_behind [] i h have few = absurd (omega (arith, h))
few_behind (header ∷ headers) zero h have few = few
few_behind (header ∷ []) (suc i) h have few = absurd (omega (arith, h))
few_behind (header ∷ next ∷ headers) (suc i) h have few =
    few_behind (next ∷ headers) i (omega (arith, h)) (λ i d h. have (suc i) d (omega (arith, h)))
    (few_step header.origin (joined_origins (origins_of (next ∷ headers))) (have zero header (omega arith)) few)

too_many : (origin rest : Option Origin) → origin ≢ None → rest ≢ None → 2 ^ 62 < reads_together origin rest
    → ¬ HasFewReads (joined_origin origin rest)
too_many None rest some others many few = absurd (some refl)
too_many (Some origin) None some others many few = absurd (others refl)
too_many (Some origin) (Some other) some others many few = omega (arith, many, few)

-- they are too many where those of the last ones are
pub too_many_reads : (headers : List Header) (i : ℕ) (d : Header) → i + 1 < length headers
    → All (λ header. header.origin ≢ None) headers
    → 2 ^ 62 < reads_together (get_or headers i d).origin (joined_origins (origins_of (drop (suc i) headers)))
    → ¬ HasFewReads (joined_origins (origins_of headers))
too_many_reads headers i d h have many few =
    let behind = few_behind headers i (omega (arith, h)) have few in
    let some = have i d (omega (arith, h)) in
    let long = length-drop (suc i) headers in
    let rest = joined_some (drop (suc i) headers) (omega (arith, h, long))
    (λ j e l. subst (λ (header : Header). header.origin ≢ None) (sym (get_or-drop (suc i) headers j e))
    (have (suc i + j) e (omega (arith, l, long)))) in
    too_many (get_or headers i d).origin (joined_origins (origins_of (drop (suc i) headers))) some
    (λ none. absurd (some-none (sym rest.1 ∙ none))) many
    (subst HasFewReads (joined_step headers i d h) behind)

-- ---- the header

words_match : (combining : Combining) (header other : Header) → Match combining header other → HaveSameWords header other
words_match Merge header other is = record { k = is.k; both = is.both }
words_match (Intersect rule) header other is = is
words_match Subtract header other is = is
words_match SubtractCounts header other is = is
words_match (Filter rule) header other is = is

-- a header of the words of the first table has those of all
pub words_of_first : (combining : Combining) (headers : List Header) (first header : Header) → 1 ≤ length headers
    → get_or headers 0 first ≡ first → header.k ≡ first.k → header.both ≡ first.both → AllMatch combining headers
    → All (HaveSameWords header) headers
words_of_first combining headers first header h is k both all i d l =
    let match = subst (λ (header : Header). Match combining header (get_or headers i d)) is (all 0 first (omega (arith, h)) i d l) in
    let same = words_match combining first (get_or headers i d) match in
    record { k = k ∙ same.k; both = both ∙ same.both }

pub no_header : (combining : Combining) (headers : List Header) (fault : ReportFault) → AllMatch combining headers
    → GivesOrigin combining headers (Err fault) → CombinesHeaders combining headers (Err fault)
no_header combining headers TooLarge all h = (all, h)
no_header combining headers Write all h = absurd h
no_header combining headers BadHeader all h = absurd h
no_header combining headers (BadRow line) all h = absurd h
no_header combining headers BadEnd all h = absurd h
no_header combining headers TableTooLong all h = absurd h
no_header combining headers TableRead all h = absurd h
no_header combining headers BrokenGzip all h = absurd h
no_header combining headers ShortGzip all h = absurd h
no_header combining headers (BadWord word) all h = absurd h
no_header combining headers Unlike all h = absurd h
no_header combining headers Memory all h = absurd h
