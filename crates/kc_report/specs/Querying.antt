-- The text of a query, a function of a tally and the asked words: source, our formats page ("Reports").
use Rattle.std.specs.Prelude.{◌≡◌, ℕ, ◌+◌, List, [], ◌∷◌, ◌++◌, map}
use Rattle.std.specs.Prelude.{length, All, decimal, flat_map, Result, Ok, Err, IsTrue}
use Rattle.std.specs.Char.{to_ascii_uppercase}
use Rattle.kc_kmer.specs.Letter.{are_bases}
use Rattle.kc_kmer.specs.Word.{number, form}
use Rattle.kc_tally.specs.Tally.{TallySeen, count_of}
use Rattle.kc_io.specs.Sinks.{Written, HasWritten, HasBegun}
use Rattle.kc_report.specs.declared.report_faults.ReportFault.{ReportFault}
use Rattle.kc_report.specs.declared.report_faults.ReportFault.TheVariants.{BadWord, Write}
use Rattle.kc_report.specs.Bytes.{line_feed, space}

-- a text in upper case
abbrev pub in_upper_case : List ℕ → List ℕ
in_upper_case word = map to_ascii_uppercase word

-- k bases, in either case
abbrev pub IsAskable : ℕ → List ℕ → Type 0
IsAskable k word = (length word ≡ k) × IsTrue (are_bases (in_upper_case word))

-- the form under which an asked word counts
abbrev pub asked_form : TallySeen → List ℕ → List ℕ
asked_form tally word = form tally.both (in_upper_case word)

-- the line of an asked word: the form under which it counts, and its count, 0 if it has no row
abbrev pub query_line : TallySeen → List ℕ → List ℕ
query_line tally word =
    asked_form tally word ++ space ∷ decimal (count_of tally.rows (number (asked_form tally word))) ++ line_feed ∷ []

-- the lines of the asked words, in order
abbrev pub query_text : TallySeen → List (List ℕ) → List ℕ
query_text tally words = flat_map (query_line tally) words

-- word `number`, from 1, is the first that doesn't have k bases
pub record IsFirstBadWord (k : ℕ) (words : List (List ℕ)) (number : ℕ) : Type 0 where
  pub before : List (List ℕ)
  pub word : List ℕ
  pub after : List (List ℕ)
  pub split : words ≡ before ++ word ∷ after
  pub counted : number ≡ length before + 1
  pub good : All (IsAskable k) before
  pub bad : ¬ IsAskable k word

-- The result of a query. Ok: all words have k bases, and the text is written. If a word doesn't, it is reported and the
-- sink is unchanged. Otherwise the sink failed in this call, and took a beginning of the text.
abbrev pub Answers : {A : Type 0} → Written → Written → TallySeen → List (List ℕ) → Result A ReportFault → Type 0
Answers old new tally words (Ok done) = All (IsAskable tally.k) words × HasWritten old new (query_text tally words)
Answers old new tally words (Err (BadWord number)) = IsFirstBadWord tally.k words number × (new ≡ old)
Answers old new tally words (Err Write) = All (IsAskable tally.k) words × HasBegun old new (query_text tally words)
Answers old new tally words (Err fault) = ⊥
