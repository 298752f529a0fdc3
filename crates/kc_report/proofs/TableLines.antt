-- The lines of a table text: each ends with its first line feed, and has one reading.
use Rattle.std.proofs.Common.{◌≡◌, ◌≢◌, ℕ, zero, suc, ◌^◌, ◌/◌, ◌%◌, ◌<◌, ◌≤◌, Bool, true, false, List, [], ◌∷◌, ◌++◌, length, get_or, drop, refl, sym, ◌∙◌, ap, append_assoc, arith}
use Rattle.std.specs.Prelude.{codes, decimal, Option, Some, None}
use Rattle.std.specs.Str.Parse.{AllDigits}
use Rattle.std.proofs.lemmas.Fmt.{decimal_is_IsNumeral, decimal_injective}
use Rattle.std.proofs.lemmas.Str.Parse.{digit_from_value}
use Rattle.kc_kmer.specs.Letter.{base}
use Rattle.kc_kmer.specs.Word.{text}
use Rattle.kc_kmer.proofs.WordLemmas.{below_four, length-text, same_from_text}
use Rattle.kc_tally.specs.declared.row.Row.{Row}
use Rattle.kc_report.specs.Bytes.{line_feed, space}
use Rattle.kc_report.specs.Dumping.{row_in_columns}
use Rattle.kc_report.specs.declared.origin.Origin.{Origin}
use Rattle.kc_report.specs.Table.{version, kind, selection, origin_text, header_line, MaySay, end_line, ended}
use Rattle.kc_report.specs.Lines.{Without}

pub Without-append : (stop : ℕ) (a b : List ℕ) → Without stop a → Without stop b → Without stop (a ++ b)
Without-append stop [] b p q = q
Without-append stop (c ∷ a) b p q = (p.0, Without-append stop a b p.1 q)

-- The first such byte ends one thing.
pub first_stop : (stop : ℕ) (a b x y : List ℕ) → Without stop a → Without stop b → a ++ stop ∷ x ≡ b ++ stop ∷ y → (a ≡ b) × (x ≡ y)
first_stop stop [] [] x y p q e = (refl, cc)
first_stop stop [] (c ∷ b) x y p q e = let same : c ≡ stop = cc in absurd (q.0 same)
first_stop stop (c ∷ a) [] x y p q e = let same : c ≡ stop = cc in absurd (p.0 same)
first_stop stop (c ∷ a) (d ∷ b) x y p q e =
    let rest : a ++ stop ∷ x ≡ b ++ stop ∷ y = ap (drop 1) e in
    let head : c ≡ d = cc in
    let more = first_stop stop a b x y p.1 q.1 rest in
    (rw (head, more.0) refl, more.1)

-- A line with its end, and what follows it.
pub ended-append : (line rest : List ℕ) → ended line ++ rest ≡ line ++ line_feed ∷ rest
ended-append line rest = append_assoc line (line_feed ∷ []) rest

pub first_line : (a b x y : List ℕ) → Without line_feed a → Without line_feed b → ended a ++ x ≡ ended b ++ y → (a ≡ b) × (x ≡ y)
first_line a b x y p q e = first_stop line_feed a b x y p q (sym (ended-append a x) ∙ e ∙ ended-append b y)

-- ---- digits and letters

Without-digits : (stop : ℕ) (digits : List ℕ) → stop < 48 → AllDigits 10 digits → Without stop digits
Without-digits stop [] low p = tt
Without-digits stop (c ∷ cs) low p = let high = digit_from_value c p.0 in (λ e. omega (arith, high.0, e), Without-digits stop cs low p.1)

pub Without-decimal : (stop n : ℕ) → stop < 48 → n < 2 ^ 64 → Without stop (decimal n)
Without-decimal stop n low small = Without-digits stop (decimal n) low (decimal_is_IsNumeral n small).0.1

base-ne : (stop n : ℕ) → stop < 65 → n < 4 → base n ≢ stop
unfolding base
base-ne stop n low = below_four (λ n. base n ≢ stop) (λ e. omega (arith, e)) (λ e. omega (arith, e)) (λ e. omega (arith, e)) (λ e. omega (arith, e)) n

pub Without-text : (stop k n : ℕ) → stop < 65 → Without stop (text k n)
unfolding text
Without-text stop zero n low = tt
Without-text stop (suc k) n low =
    let last : Without stop (base (n % 4) ∷ []) = (base-ne stop (n % 4) low (omega arith), tt) in
    Without-append stop (text k (n / 4)) (base (n % 4) ∷ []) (Without-text stop k (n / 4) low) last

-- a word of one base or more doesn't begin with `E`
base-not_end : (n : ℕ) → n < 4 → base n ≢ 69
unfolding base
base-not_end = below_four (λ n. base n ≢ 69) (λ e. omega (arith, e)) (λ e. omega (arith, e)) (λ e. omega (arith, e)) (λ e. omega (arith, e))

without_e : (k n : ℕ) → Without 69 (text k n)
unfolding text
without_e zero n = tt
without_e (suc k) n =
    let last : Without 69 (base (n % 4) ∷ []) = (base-not_end (n % 4) (omega arith), tt) in
    Without-append 69 (text k (n / 4)) (base (n % 4) ∷ []) (without_e k (n / 4)) last

-- ---- rows

-- a row of a table, without its line end
abbrev pub row_line : ℕ → Row → List ℕ
row_line k row = text k row.word ++ space ∷ decimal row.count

pub row_ended : (k : ℕ) (row : Row) → row_in_columns k false row ≡ ended (row_line k row)
row_ended k row = refl

pub Without-row : (k : ℕ) (row : Row) → row.count < 2 ^ 64 → Without line_feed (row_line k row)
Without-row k row small =
    let number : Without line_feed (space ∷ decimal row.count) = (λ e. omega (arith, e), Without-decimal line_feed row.count (omega arith) small) in
    Without-append line_feed (text k row.word) (space ∷ decimal row.count) (Without-text line_feed k row.word (omega arith)) number

-- a line can have the word and the count of a row
pub record Fits (k : ℕ) (row : Row) : Type 0 where
  pub word : row.word < 4 ^ k
  pub count : row.count < 2 ^ 64

pub same_row : (k : ℕ) (row other : Row) → Fits k row → Fits k other → row_line k row ≡ row_line k other → row ≡ other
same_row k row other fits fits_ e =
    let parts = first_stop space (text k row.word) (text k other.word) (decimal row.count) (decimal other.count)
    (Without-text space k row.word (omega arith)) (Without-text space k other.word (omega arith)) e in
    let word : row.word ≡ other.word = same_from_text k row.word other.word fits.word fits_.word parts.0 in
    let count : row.count ≡ other.count = decimal_injective row.count other.count fits.count fits_.count parts.1 in
    λ i. record { word = word i; count = count i }

-- a row doesn't begin as the end does
no_end-word : (word more rest : List ℕ) → 0 < length word → Without 69 word → ¬ (word ++ more ≡ codes "END" ++ rest)
no_end-word [] more rest some p e = omega arith
no_end-word (c ∷ word) more rest some p e = let same : c ≡ 69 = cc in p.0 same

pub row-no_end : (k : ℕ) (row : Row) (rest more : List ℕ) → 1 ≤ k → ¬ (row_in_columns k false row ++ rest ≡ codes "END" ++ more)
row-no_end k row rest more some e =
    let number = space ∷ decimal row.count in
    let long = length-text k row.word in
    let cut : row_in_columns k false row ++ rest ≡ text k row.word ++ (number ++ (line_feed ∷ rest)) =
    append_assoc (row_line k row) (line_feed ∷ []) rest ∙ append_assoc (text k row.word) number (line_feed ∷ rest) in
    no_end-word (text k row.word) (number ++ (line_feed ∷ rest)) more (omega (arith, some, long)) (without_e k row.word) (sym cut ∙ e)

-- ---- the header and the end

Without-kind : (both : Bool) → Without line_feed (kind both)
Without-kind true = (λ e. omega (arith, e), tt)
Without-kind false = (λ e. omega (arith, e), tt)

Without-version : (origin : Option Origin) → Without line_feed (version origin)
Without-version None = (λ e. omega (arith, e), (λ e. omega (arith, e), (λ e. omega (arith, e), (λ e. omega (arith, e), (λ e. omega (arith, e), (λ e. omega (arith, e), tt))))))
Without-version (Some origin) = (λ e. omega (arith, e), (λ e. omega (arith, e), (λ e. omega (arith, e), (λ e. omega (arith, e), (λ e. omega (arith, e), (λ e. omega (arith, e), tt))))))

Without-selection : (listed : Bool) → Without line_feed (selection listed)
Without-selection true = (λ e. omega (arith, e), tt)
Without-selection false = (λ e. omega (arith, e), tt)

Without-origin : (origin : Option Origin) → MaySay origin → Without line_feed (origin_text origin)
Without-origin None said = tt
Without-origin (Some origin) said =
    let most = said.floor_most in
    let few = said.reads in
    let floor : Without line_feed (space ∷ decimal origin.floor) = (λ e. omega (arith, e), Without-decimal line_feed origin.floor (omega arith) (omega (arith, most))) in
    let reads : Without line_feed (space ∷ decimal origin.reads) = (λ e. omega (arith, e), Without-decimal line_feed origin.reads (omega arith) (omega (arith, few))) in
    Without-append line_feed (space ∷ selection origin.listed ++ space ∷ decimal origin.floor) (space ∷ decimal origin.reads)
    (Without-append line_feed (space ∷ selection origin.listed) (space ∷ decimal origin.floor) (λ e. omega (arith, e), Without-selection origin.listed) floor) reads

pub Without-header : (k : ℕ) (both : Bool) (origin : Option Origin) → k ≤ 31 → MaySay origin → Without line_feed (header_line k both origin)
Without-header k both origin most said =
    let number : Without line_feed (decimal k) = Without-decimal line_feed k (omega arith) (omega arith) in
    let front : Without line_feed (version origin ++ decimal k) = Without-append line_feed (version origin) (decimal k) (Without-version origin) number in
    let kinds : Without line_feed (version origin ++ decimal k ++ space ∷ kind both) =
    Without-append line_feed (version origin ++ decimal k) (space ∷ kind both) front (λ e. omega (arith, e), Without-kind both) in
    Without-append line_feed (version origin ++ decimal k ++ space ∷ kind both) (origin_text origin) kinds (Without-origin origin said)

same_kind : (a b : Bool) (x y : List ℕ) → kind a ++ x ≡ kind b ++ y → (a ≡ b) × (x ≡ y)
same_kind true true x y e = (refl, ap (drop 1) e)
same_kind true false x y e = absurd (omega (arith, ap (λ (l : List ℕ). get_or l 0 0) e))
same_kind false true x y e = absurd (omega (arith, ap (λ (l : List ℕ). get_or l 0 0) e))
same_kind false false x y e = (refl, ap (drop 1) e)

same_selection : (a b : Bool) (x y : List ℕ) → selection a ++ x ≡ selection b ++ y → (a ≡ b) × (x ≡ y)
same_selection true true x y e = (refl, ap (drop 1) e)
same_selection true false x y e = absurd (omega (arith, ap (λ (l : List ℕ). get_or l 0 0) e))
same_selection false true x y e = absurd (omega (arith, ap (λ (l : List ℕ). get_or l 0 0) e))
same_selection false false x y e = (refl, ap (drop 1) e)

-- what follows the version, and in an origin, field by field
pub header_fields : (k : ℕ) (both : Bool) (origin : Option Origin) → drop 6 (header_line k both origin) ≡ decimal k ++ space ∷ (kind both ++ origin_text origin)
header_fields k both None = append_assoc (decimal k) (space ∷ kind both) []
header_fields k both (Some origin) = append_assoc (decimal k) (space ∷ kind both) (origin_text (Some origin))

pub origin_fields : (origin : Origin) → origin_text (Some origin) ≡ space ∷ (selection origin.listed ++ space ∷ (decimal origin.floor ++ space ∷ decimal origin.reads))
origin_fields origin =
    append_assoc (space ∷ selection origin.listed) (space ∷ decimal origin.floor) (space ∷ decimal origin.reads)

same_origin : (origin another : Option Origin) → MaySay origin → MaySay another → origin_text origin ≡ origin_text another → origin ≡ another
same_origin None None said said_ e = refl
same_origin None (Some origin) said said_ e = absurd (let long = ap length e in omega (arith, long))
same_origin (Some origin) None said said_ e = absurd (let long = ap length e in omega (arith, long))
same_origin (Some origin) (Some another) said said_ e =
    let most = said.floor_most in
    let most_ = said_.floor_most in
    let few = said.reads in
    let few_ = said_.reads in
    let cut = sym (origin_fields origin) ∙ e ∙ origin_fields another in
    let lists = same_selection origin.listed another.listed (space ∷ (decimal origin.floor ++ space ∷ decimal origin.reads)) (space ∷ (decimal another.floor ++ space ∷ decimal another.reads)) (ap (drop 1) cut) in
    let numbers = first_stop space (decimal origin.floor) (decimal another.floor) (decimal origin.reads) (decimal another.reads)
    (Without-decimal space origin.floor (omega arith) (omega (arith, most))) (Without-decimal space another.floor (omega arith) (omega (arith, most_))) (ap (drop 1) lists.1) in
    let floor = decimal_injective origin.floor another.floor (omega (arith, most)) (omega (arith, most_)) numbers.0 in
    let reads = decimal_injective origin.reads another.reads (omega (arith, few)) (omega (arith, few_)) numbers.1 in
    λ i. Some (record { floor = floor i; reads = reads i; listed = lists.0 i })

-- the fields of a header
pub record SameHeader (k m : ℕ) (both other : Bool) (origin another : Option Origin) : Type 0 where
  pub bases : k ≡ m
  pub strands : both ≡ other
  pub told : origin ≡ another

-- a header that may be read
pub record MayHead (k : ℕ) (origin : Option Origin) : Type 0 where
  pub most : k ≤ 31
  pub said : MaySay origin

pub same_header : (k m : ℕ) (both other : Bool) (origin another : Option Origin) → MayHead k origin → MayHead m another
    → header_line k both origin ≡ header_line m other another → SameHeader k m both other origin another
same_header k m both other origin another may may_ e =
    let most = may.most in
    let most_ = may_.most in
    let numbers : decimal k ++ space ∷ (kind both ++ origin_text origin) ≡ decimal m ++ space ∷ (kind other ++ origin_text another) =
    sym (header_fields k both origin) ∙ ap (drop 6) e ∙ header_fields m other another in
    let parts = first_stop space (decimal k) (decimal m) (kind both ++ origin_text origin) (kind other ++ origin_text another)
    (Without-decimal space k (omega arith) (omega (arith, most))) (Without-decimal space m (omega arith) (omega (arith, most_))) numbers in
    let kinds = same_kind both other (origin_text origin) (origin_text another) parts.1 in
    record {
      bases = decimal_injective k m (omega (arith, most)) (omega (arith, most_)) parts.0;
      strands = kinds.0;
      told = same_origin origin another may.said may_.said kinds.1;
    }

pub Without-end : (distinct total : ℕ) → distinct < 2 ^ 64 → total < 2 ^ 64 → Without line_feed (end_line distinct total)
Without-end distinct total small small_ =
    let number : Without line_feed (decimal distinct) = Without-decimal line_feed distinct (omega arith) small in
    let front : Without line_feed (codes "END " ++ decimal distinct) = (λ e. omega (arith, e), (λ e. omega (arith, e), (λ e. omega (arith, e), (λ e. omega (arith, e), number)))) in
    Without-append line_feed (codes "END " ++ decimal distinct) (space ∷ decimal total) front (λ e. omega (arith, e), Without-decimal line_feed total (omega arith) small_)
