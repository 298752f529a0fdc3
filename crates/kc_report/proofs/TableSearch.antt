-- Bytes have a result as a table text.
use Rattle.std.proofs.Common.{◌≡◌, ℕ, zero, suc, ◌+◌, ◌^◌, ◌<◌, ◌≤◌, Bool, true, false, eqb, List, [], ◌∷◌, ◌++◌, length, get_or, drop, refl, sym, ◌∙◌, ap, subst, append_assoc, append-nil, arith, inl, inr, ◌⊎◌, ⊎_elim, eq-eqb}
use Rattle.std.specs.Prelude.{codes, Ok, Err, Option, Some, None}
use Rattle.std.proofs.lemmas.Bool.{cases_lt, cases_Bool, eqb-true}
use Rattle.std.proofs.lemmas.List.{length-append}
use Rattle.kc_kmer.specs.Word.{text, form}
use Rattle.kc_tally.specs.declared.row.Row.{Row}
use Rattle.kc_tally.specs.Tally.{TallySeen, total_of}
use Rattle.kc_report.specs.declared.origin.Origin.{Origin}
use Rattle.kc_report.specs.declared.report_faults.ReportFault.TheVariants.{BadHeader, BadRow, BadEnd}
use Rattle.kc_report.specs.Bytes.{line_feed}
use Rattle.kc_report.specs.Dumping.{row_in_columns}
use Rattle.kc_report.specs.Table.{header_line, MaySay, ended, rows_text, front_text, end_text}
use Rattle.kc_report.specs.TableReading.{BeginsWith, HasLine, IsTable, ReadsTo, MayFollow, HasBadHeader, IsTableOf}
use Rattle.kc_report.proofs.TableLines.{row_line}
use Rattle.kc_report.proofs.TableFronts.{AreRows-none, AreRows-last, AreRows-push, IsLast}
use Rattle.kc_report.proofs.TableAnswers.{Stops, Answered}

-- it holds, or it doesn't
abbrev Known : Type 0 → Type 0
Known P = P ⊎ ¬ P

both : (P Q : Type 0) → Known P → Known Q → Known (P × Q)
both P Q (inl p) (inl q) = inl (p, q)
both P Q (inl p) (inr q) = inr (λ h. q h.1)
both P Q (inr p) known = inr (λ h. p h.0)

known_eqb : (a b : ℕ) → Known (a ≡ b)
known_eqb a b =
    ⊎_elim
    (λ (is : eqb a b ≡ true). let found : Known (a ≡ b) = inl (eqb-true a b is) in found)
    (λ (is : eqb a b ≡ false). let not : Known (a ≡ b) = inr (λ e. let other = eq-eqb a b e in let wrong : true ≡ false = sym other ∙ is in cc) in not)
    (cases_Bool (eqb a b))

known_lt : (a b : ℕ) → Known (a < b)
known_lt a b =
    ⊎_elim
    (λ (l : a < b). let found : Known (a < b) = inl l in found)
    (λ (l : b ≤ a). let not : Known (a < b) = inr (λ h. omega (arith, h, l)) in not)
    (cases_lt a b)

known_le : (a b : ℕ) → Known (a ≤ b)
known_le a b =
    ⊎_elim
    (λ (l : b < a). let not : Known (a ≤ b) = inr (λ h. omega (arith, h, l)) in not)
    (λ (l : a ≤ b). let found : Known (a ≤ b) = inl l in found)
    (cases_lt b a)

known_text : (xs ys : List ℕ) → Known (xs ≡ ys)
known_text [] [] = inl refl
known_text [] (y ∷ ys) = inr (λ e. cc)
known_text (x ∷ xs) [] = inr (λ e. cc)
known_text (x ∷ xs) (y ∷ ys) = joined (both (x ≡ y) (xs ≡ ys) (known_eqb x y) (known_text xs ys)) where
  joined : Known ((x ≡ y) × (xs ≡ ys)) → Known (x ∷ xs ≡ y ∷ ys)
  joined (inl p) = inl (λ i. p.0 i ∷ p.1 i)
  joined (inr p) = inr (λ e. p (let head : x ≡ y = cc in head, ap (drop 1) e))

-- a property of numbers holds of one below a bound, or of none
first_below : (P : ℕ → Type 0) → ((n : ℕ) → Known (P n)) → (bound : ℕ) → Known ((n : ℕ) × (n < bound) × P n)
first_below P known zero = inr (λ h. let low = h.1 in omega (arith, low))
first_below P known (suc bound) = joined (first_below P known bound) (known bound) where
  joined : Known ((n : ℕ) × (n < bound) × P n) → Known (P bound) → Known ((n : ℕ) × (n < suc bound) × P n)
  joined (inl h) here = let low = h.1 in inl (h.0, omega (arith, low), h.2)
  joined (inr none) (inl p) = inl (bound, omega arith, p)
  joined (inr none) (inr p) = inr (λ h.
      let low = h.1 in
      ⊎_elim
      (λ (l : h.0 < bound). none (h.0, l, h.2))
      (λ (l : bound ≤ h.0). let same : h.0 ≡ bound = omega (arith, low, l) in p (subst P same h.2))
      (cases_lt h.0 bound))

-- ---- what bytes begin with

known_front : (bytes front : List ℕ) → Known (BeginsWith bytes front)
known_front bytes [] = inl (bytes, refl)
known_front [] (f ∷ front) = inr (λ h. let e = h.1 in let wrong : ◌≡◌ {A = List ℕ} [] (f ∷ (front ++ h.0)) = e in cc)
known_front (b ∷ bytes) (f ∷ front) = joined (both (b ≡ f) (BeginsWith bytes front) (known_eqb b f) (known_front bytes front)) where
  joined : Known ((b ≡ f) × BeginsWith bytes front) → Known (BeginsWith (b ∷ bytes) (f ∷ front))
  joined (inl p) = inl (p.1.0, λ i. p.0 i ∷ p.1.1 i)
  joined (inr p) = inr (λ h. let e = h.1 in p (let head : b ≡ f = cc in head, (h.0, ap (drop 1) e)))

known_line : (bytes : List ℕ) → Known (HasLine bytes)
known_line [] = inr (λ h. none h.0 h.1.0 h.1.1) where
  none : (line rest : List ℕ) → [] ≡ ended line ++ rest → ⊥
  none [] rest e = cc
  none (c ∷ line) rest e = cc
known_line (b ∷ bytes) = joined (known_eqb b line_feed) (known_line bytes) where
  joined : Known (b ≡ line_feed) → Known (HasLine bytes) → Known (HasLine (b ∷ bytes))
  joined (inl is) more = inl ([], (bytes, λ i. is i ∷ bytes))
  joined (inr is) (inl h) = inl (b ∷ h.0, (h.1.0, ap (λ (l : List ℕ). b ∷ l) h.1.1))
  joined (inr is) (inr none) = inr (λ h. nowhere h.0 h.1.0 h.1.1) where
    nowhere : (line rest : List ℕ) → b ∷ bytes ≡ ended line ++ rest → ⊥
    nowhere [] rest e = is (let head : b ≡ line_feed = cc in head)
    nowhere (c ∷ line) rest e = none (line, (rest, ap (drop 1) e))

-- ---- the row that comes next

-- the last row, if there is one, has a lesser word
abbrev IsAbove : List Row → Row → Type 0
IsAbove rows row = (i : ℕ) (d : Row) → i + 1 ≡ length rows → (get_or rows i d).word < row.word

known_above : (rows : List Row) (row : Row) → Known (IsAbove rows row)
known_above [] row = inl (λ i d e. omega (arith, e))
known_above (first ∷ []) row = joined (known_lt first.word row.word) where
  joined : Known (first.word < row.word) → Known (IsAbove (first ∷ []) row)
  joined (inl l) = inl (λ i d e. let none : i ≡ 0 = omega (arith, e) in subst (λ (i : ℕ). (get_or (first ∷ []) i d).word < row.word) (sym none) l)
  joined (inr l) = inr (λ h. l (h 0 first refl))
known_above (first ∷ (next ∷ rows)) row = joined (known_above (next ∷ rows) row) where
  joined : Known (IsAbove (next ∷ rows) row) → Known (IsAbove (first ∷ (next ∷ rows)) row)
  joined (inl l) = inl (above l) where
    above : IsAbove (next ∷ rows) row → IsAbove (first ∷ (next ∷ rows)) row
    above l zero d e = absurd (omega (arith, e))
    above l (suc i) d e = l i d (omega (arith, e))
  joined (inr l) = inr (λ h. l (λ i d e. h (suc i) d (omega (arith, e))))

known_last : (k : ℕ) (both_ : Bool) (rows : List Row) (row : Row) → Known (IsLast k both_ rows row)
known_last k both_ rows row =
    joined (both (row.word < 4 ^ k) _ (known_lt row.word (4 ^ k))
    (both (1 ≤ row.count) _ (known_le 1 row.count)
    (both (form both_ (text k row.word) ≡ text k row.word) _ (known_text (form both_ (text k row.word)) (text k row.word))
    (both (total_of rows + row.count ≤ 2 ^ 62) (IsAbove rows row) (known_le (total_of rows + row.count) (2 ^ 62)) (known_above rows row))))) where
      joined : Known ((row.word < 4 ^ k) × ((1 ≤ row.count) × ((form both_ (text k row.word) ≡ text k row.word) × ((total_of rows + row.count ≤ 2 ^ 62) × IsAbove rows row))))
          → Known (IsLast k both_ rows row)
      joined (inl p) = inl (record { word = p.0; count = p.1.0; formed = p.1.1.0; small = p.1.1.1.0; above = p.1.1.1.1 })
      joined (inr p) = inr (λ l. p (l.word, (l.count, (l.formed, (l.small, l.above)))))

-- the row with these numbers is next, and may come next
abbrev IsNext : TallySeen → List ℕ → ℕ → ℕ → Type 0
IsNext front rest word count = IsLast front.k front.both front.rows (record { word = word; count = count }) × BeginsWith rest (row_in_columns front.k false (record { word = word; count = count }))

abbrev HasNext : TallySeen → List ℕ → Type 0
HasNext front rest = (word : ℕ) × (word < 4 ^ front.k) × ((count : ℕ) × (count < 2 ^ 62 + 1) × IsNext front rest word count)

known_next : (front : TallySeen) (rest : List ℕ) → Known (HasNext front rest)
known_next front rest =
    first_below (λ word. (count : ℕ) × (count < 2 ^ 62 + 1) × IsNext front rest word count)
    (λ word. first_below (λ count. IsNext front rest word count) (λ count. both _ _ (known_last front.k front.both front.rows (record { word = word; count = count })) (known_front rest _)) (2 ^ 62 + 1))
    (4 ^ front.k)

-- the rows go on, or they stop
pub record GoesOn (front : TallySeen) (rest : List ℕ) : Type 0 where
  pub row : Row
  pub follows : MayFollow front row
  pub more : List ℕ
  pub split : rest ≡ row_in_columns front.k false row ++ more

next_row : (front : TallySeen) {origin : Option Origin} (rest : List ℕ) → IsTable front origin → GoesOn front rest ⊎ Stops front.k front.both front.rows rest
next_row front {origin} rest lawful = found (known_next front rest) where
  found : Known (HasNext front rest) → GoesOn front rest ⊎ Stops front.k front.both front.rows rest
  found (inl h) = inl (record {
    row = record { word = h.0; count = h.2.0 };
    follows = AreRows-push front.k front.both front.rows (record { word = h.0; count = h.2.0 }) lawful.rows h.2.2.0;
    more = h.2.2.1.0;
    split = h.2.2.1.1;
  })
  found (inr none) = inr (λ row follows at.
      let l = AreRows-last front.k front.both front.rows row follows in
      let small = l.small in
      none (row.word, l.word, (row.count, omega (arith, small), (l, at))))

-- ---- the result

abbrev Answer : List ℕ → Type 0
Answer bytes = (answer : Answered) × IsTableOf bytes answer

stopped : (bytes : List ℕ) (front : TallySeen) (origin : Option Origin) (rest : List ℕ) → ReadsTo bytes front origin rest → Stops front.k front.both front.rows rest
    → Known (rest ≡ end_text front.rows) → Known (HasLine rest) → Known (BeginsWith rest (codes "END")) → Answer bytes
stopped bytes front origin rest reads stops (inl e) line end =
    (Ok (front, origin), record { lawful = reads.lawful; whole = reads.split ∙ ap (λ v. front_text front.k front.both origin front.rows ++ v) e })
stopped bytes front origin rest reads stops (inr e) (inr none) end = (Err BadEnd, record { front = front; origin = origin; rest = rest; reads = reads; ends = inl none; wrong = e })
stopped bytes front origin rest reads stops (inr e) (inl line) (inl is) = (Err BadEnd, record { front = front; origin = origin; rest = rest; reads = reads; ends = inr is; wrong = e })
stopped bytes front origin rest reads stops (inr e) (inl line) (inr is) =
    (Err (BadRow (length front.rows + 2)), record { front = front; origin = origin; rest = rest; reads = reads; line = line; no_end = is; no_row = stops; counted = refl })

pub rows_push : (k : ℕ) (rows : List Row) (row : Row) → rows_text k rows ++ row_in_columns k false row ≡ rows_text k (rows ++ row ∷ [])
rows_push k [] row = sym (append-nil (row_in_columns k false row))
rows_push k (first ∷ rows) row =
    append_assoc (row_in_columns k false first) (rows_text k rows) (row_in_columns k false row) ∙ ap (λ v. row_in_columns k false first ++ v) (rows_push k rows row)

-- the header and the rows, and one more row
pub front_push : (front : TallySeen) (origin : Option Origin) (row : Row)
    → front_text front.k front.both origin front.rows ++ row_in_columns front.k false row ≡ front_text front.k front.both origin (front.rows ++ row ∷ [])
front_push front origin row =
    let header = ended (header_line front.k front.both origin) in
    append_assoc header (rows_text front.k front.rows) (row_in_columns front.k false row) ∙ ap (λ v. header ++ v) (rows_push front.k front.rows row)

-- the reading with one more row
one_more : (bytes : List ℕ) (front : TallySeen) (origin : Option Origin) (row : Row) (rest more : List ℕ) → ReadsTo bytes front origin rest → MayFollow front row
    → rest ≡ row_in_columns front.k false row ++ more → ReadsTo bytes (record front { rows = front.rows ++ row ∷ [] }) origin more
one_more bytes front origin row rest more reads follows split =
    let text = front_text front.k front.both origin front.rows in
    let line = row_in_columns front.k false row in
    record {
      lawful = record { some = reads.lawful.some; most = reads.lawful.most; rows = follows; said = reads.lawful.said };
      split = reads.split ∙ ap (λ v. text ++ v) split ∙ sym (append_assoc text line more) ∙ ap (λ v. v ++ more) (front_push front origin row);
    }

-- the result, if the rows go on with a result for each shorter rest
answer_here : (bytes : List ℕ) (front : TallySeen) (origin : Option Origin) (rest : List ℕ) → ReadsTo bytes front origin rest
    → ((later : TallySeen) (more : List ℕ) → length more < length rest → ReadsTo bytes later origin more → Answer bytes)
    → GoesOn front rest ⊎ Stops front.k front.both front.rows rest → Answer bytes
answer_here bytes front origin rest reads on (inl g) =
    let line = row_in_columns front.k false g.row in
    let long = length-append line g.more in
    let some = length-append (row_line front.k g.row) (line_feed ∷ []) in
    let split = ap length g.split in
    on (record front { rows = front.rows ++ g.row ∷ [] }) g.more (omega (arith, long, some, split)) (one_more bytes front origin g.row rest g.more reads g.follows g.split)
answer_here bytes front origin rest reads on (inr stops) =
    stopped bytes front origin rest reads stops (known_text rest (end_text front.rows)) (known_line rest) (known_front rest (codes "END"))

answer_from : (fuel : ℕ) (bytes : List ℕ) (front : TallySeen) (origin : Option Origin) (rest : List ℕ) → length rest < fuel → ReadsTo bytes front origin rest → Answer bytes
answer_from zero bytes front origin rest fits reads = absurd (omega (arith, fits))
answer_from (suc fuel) bytes front origin rest fits reads =
    answer_here bytes front origin rest reads (λ later more shorter reads. answer_from fuel bytes later origin more (omega (arith, fits, shorter)) reads) (next_row front rest reads.lawful)

-- ---- the header

either : (P Q : Type 0) → Known P → Known Q → Known (P ⊎ Q)
either P Q (inl p) known = inl (inl p)
either P Q (inr p) (inl q) = inl (inr q)
either P Q (inr p) (inr q) = inr (λ h. ⊎_elim p q h)

-- the bytes begin with a header of this origin, of words of k bases
abbrev Heads : List ℕ → Option Origin → ℕ → Type 0
Heads bytes origin k =
    (1 ≤ k) × (BeginsWith bytes (ended (header_line k true origin)) ⊎ BeginsWith bytes (ended (header_line k false origin)))

abbrev HasHeader : List ℕ → Option Origin → Type 0
HasHeader bytes origin = (k : ℕ) × (k < 32) × Heads bytes origin k

known_header : (bytes : List ℕ) (origin : Option Origin) → Known (HasHeader bytes origin)
known_header bytes origin =
    first_below (Heads bytes origin)
    (λ k. both _ _ (known_le 1 k) (either _ _ (known_front bytes (ended (header_line k true origin))) (known_front bytes (ended (header_line k false origin))))) 32

-- some origin with these numbers is there
abbrev Said : List ℕ → ℕ → ℕ → Type 0
Said bytes floor reads =
    HasHeader bytes (Some (record { floor = floor; reads = reads; listed = true }))
    ⊎ HasHeader bytes (Some (record { floor = floor; reads = reads; listed = false }))

abbrev HasOrigin : List ℕ → Type 0
HasOrigin bytes = (floor : ℕ) × (floor < 127) × ((33 ≤ floor) × ((reads : ℕ) × (reads < 2 ^ 62 + 1) × Said bytes floor reads))

known_origin : (bytes : List ℕ) → Known (HasOrigin bytes)
known_origin bytes =
    first_below (λ floor. (33 ≤ floor) × ((reads : ℕ) × (reads < 2 ^ 62 + 1) × Said bytes floor reads))
    (λ floor. both _ _ (known_le 33 floor) (first_below (λ reads. Said bytes floor reads) (λ reads. either _ _ (known_header bytes (Some (record { floor = floor; reads = reads; listed = true }))) (known_header bytes (Some (record { floor = floor; reads = reads; listed = false })))) (2 ^ 62 + 1)))
    127

-- after the header, no row is read yet
no_row_yet : (bytes : List ℕ) (k : ℕ) (both_ : Bool) (origin : Option Origin) (rest : List ℕ) → 1 ≤ k → k ≤ 31 → MaySay origin
    → bytes ≡ ended (header_line k both_ origin) ++ rest → ReadsTo bytes (record { k = k; both = both_; rows = [] }) origin rest
no_row_yet bytes k both_ origin rest some most said split = record {
  lawful = record { some = some; most = most; rows = AreRows-none k both_; said = said };
  split = split ∙ ap (λ v. v ++ rest) (sym (append-nil (ended (header_line k both_ origin))));
}

behind_header : (bytes : List ℕ) (k : ℕ) (both_ : Bool) (origin : Option Origin) → 1 ≤ k → k < 32 → MaySay origin → BeginsWith bytes (ended (header_line k both_ origin)) → Answer bytes
behind_header bytes k both_ origin some most said at =
    answer_from (length at.0 + 1) bytes (record { k = k; both = both_; rows = [] }) origin at.0 (omega arith) (no_row_yet bytes k both_ origin at.0 some (omega (arith, most)) said at.1)

begun : (bytes : List ℕ) (origin : Option Origin) → MaySay origin → HasHeader bytes origin → Answer bytes
begun bytes origin said h = here h.2.1 where
  here : BeginsWith bytes (ended (header_line h.0 true origin)) ⊎ BeginsWith bytes (ended (header_line h.0 false origin)) → Answer bytes
  here (inl at) = behind_header bytes h.0 true origin h.2.0 h.1 said at
  here (inr at) = behind_header bytes h.0 false origin h.2.0 h.1 said at

has_header : (bytes : List ℕ) (k : ℕ) (both_ : Bool) (origin : Option Origin) → 1 ≤ k → k ≤ 31 → BeginsWith bytes (ended (header_line k both_ origin)) → HasHeader bytes origin
has_header bytes k true origin some most at = (k, omega (arith, most), (some, inl at))
has_header bytes k false origin some most at = (k, omega (arith, most), (some, inr at))

said_so : (bytes : List ℕ) (origin : Origin) → HasHeader bytes (Some origin) → Said bytes origin.floor origin.reads
said_so bytes origin h = here origin.listed refl where
  here : (listed : Bool) → origin.listed ≡ listed → Said bytes origin.floor origin.reads
  here true e = inl (subst (λ listed. HasHeader bytes (Some (record { floor = origin.floor; reads = origin.reads; listed = listed }))) e h)
  here false e = inr (subst (λ listed. HasHeader bytes (Some (record { floor = origin.floor; reads = origin.reads; listed = listed }))) e h)

no_header : (bytes : List ℕ) → ¬ HasHeader bytes None → ¬ HasOrigin bytes → HasBadHeader bytes
no_header bytes none nor k both_ None some most said at = none (has_header bytes k both_ None some most at)
no_header bytes none nor k both_ (Some origin) some most said at =
    let floor = said.floor_most in
    let reads = said.reads in
    nor (origin.floor, omega (arith, floor), (said.floor_least, (origin.reads, omega (arith, reads), said_so bytes origin (has_header bytes k both_ (Some origin) some most at))))

with_origin : (bytes : List ℕ) → HasOrigin bytes → Answer bytes
with_origin bytes h = here h.2.1.2 where
  may : (listed : Bool) → MaySay (Some (record { floor = h.0; reads = h.2.1.0; listed = listed }))
  may listed = let most = h.1 in let few = h.2.1.1 in record { floor_least = h.2.0; floor_most = omega (arith, most); reads = omega (arith, few) }

  here : Said bytes h.0 h.2.1.0 → Answer bytes
  here (inl at) = begun bytes (Some (record { floor = h.0; reads = h.2.1.0; listed = true })) (may true) at
  here (inr at) = begun bytes (Some (record { floor = h.0; reads = h.2.1.0; listed = false })) (may false) at

pub answer : (bytes : List ℕ) → Answer bytes
answer bytes = found (known_header bytes None) (known_origin bytes) where
  found : Known (HasHeader bytes None) → Known (HasOrigin bytes) → Answer bytes
  found (inl h) known = begun bytes None tt h
  found (inr none) (inl h) = with_origin bytes h
  found (inr none) (inr nor) = (Err BadHeader, no_header bytes none nor)
