-- What the options and arguments of a command ask for together, which one is refused, and which conflict: source, the
-- help of the commands. A row is what `clap` found for an option: its values and where they came from.
use Rattle.std.specs.Prelude.{◌≡◌, ℕ, ◌==◌, Bool, true, false, nat_lt, ◌&&◌, List, [], ◌∷◌, codes, if◌then◌else◌}
use Rattle.std.specs.Prelude.{Option, Some, None, is_none, is_some, option_map, unwrap_or, length}
use Rattle.std.specs.Option.{option_map_or}
use Rattle.std.specs.Str.{bytes_eq}
use Rattle.clap.specs.Words.{Row, Text, all_of, first_of, one_of}
use Rattle.kc_combine.specs.declared.combining.Combining.{Combining}
use Rattle.kc_combine.specs.declared.combining.Combining.TheVariants as combining
use Rattle.kc_report.specs.declared.dump.Dump.{Dump}
use Rattle.kc_select.specs.Solid.{SelectionRule, profile_rule}
use Rattle.kc_select.specs.declared.pair_rule.PairRule.{PairRule}
use Rattle.kc_command.specs.Options.{batch_of, floor_of, high_of, keep_of, lower_of, max_count_of, mer_len_of}
use Rattle.kc_command.specs.Options.{min_count_of, min_share_of, print_of, size_of, solid_of, stripes_of, take_of}
use Rattle.kc_command.specs.Options.{threads_of, upper_of, word_list_of}
use Rattle.kc_command.specs.Settings.{Settings, lowered}
use Rattle.kc_command.specs.declared.comparison_options.CompareOptions.{CompareOptions}
use Rattle.kc_command.specs.declared.option_name.OptionName.{OptionName}
use Rattle.kc_command.specs.declared.option_name.OptionName.TheVariants as option
use Rattle.kc_command.specs.declared.pair_options.PairsRefusal.{PairsRefusal}
use Rattle.kc_command.specs.declared.pair_options.PairsRefusal.TheVariants as refusal

-- FIRST and SECOND, the names of the tables of `merge`, `intersect` and `subtract`, which may be any text

abbrev pub first_table_of : List Row → Option Text
first_table_of rows = first_of (codes "first") rows

-- the tables after the first one, in their order
abbrev pub other_tables_of : List Row → List Text
other_tables_of rows = unwrap_or (all_of (codes "second") rows) []

-- all tables, the first one before the others; `clap` requires it, and where it found none its name is empty
abbrev pub tables_of : List Row → List Text
tables_of rows = unwrap_or (first_table_of rows) [] ∷ other_tables_of rows

-- there are more than 64 tables: the first one, and more than 63 others
abbrev pub has_too_many_tables : List Row → Bool
has_too_many_tables rows = nat_lt 63 (length (other_tables_of rows))

-- `query` is given no words: no WORD, and no file of words
abbrev pub has_no_words : List Row → Bool
has_no_words rows = is_none (first_of (codes "word") rows) && is_none (word_list_of rows)

-- Which value is refused: the first one outside its limits, in the order of the help, even if the option has no effect.

-- an option, and whether its value is outside its limits
pub record Judged : Type 0 where
  pub name : OptionName
  pub is_bad : Bool

abbrev pub first_of_bad : List Judged → Option OptionName
first_of_bad [] = None
first_of_bad (judged ∷ rest) = if judged.is_bad then Some judged.name else first_of_bad rest

abbrev pub judged : {X : Type 0} → OptionName → Option X → Judged
judged name value = record { name = name; is_bad = is_none value }

-- of `count`
abbrev pub first_bad : List Row → Option OptionName
first_bad rows = first_of_bad (judged option.MerLen (mer_len_of rows)
    ∷ judged option.Size (size_of rows)
    ∷ judged option.Threads (threads_of rows)
    ∷ judged option.MinQualChar (floor_of rows)
    ∷ judged option.Stripes (stripes_of rows)
    ∷ judged option.Batch (batch_of rows)
    ∷ judged option.Print (print_of rows)
    ∷ judged option.LowerCount (lower_of rows)
    ∷ judged option.UpperCount (upper_of rows)
    ∷ judged option.High (high_of rows)
    ∷ [])

-- of `count`, without the options of the report
abbrev pub first_bad_of_counting : List Row → Option OptionName
first_bad_of_counting rows = first_of_bad (judged option.MerLen (mer_len_of rows)
    ∷ judged option.Size (size_of rows)
    ∷ judged option.Threads (threads_of rows)
    ∷ judged option.MinQualChar (floor_of rows)
    ∷ judged option.Stripes (stripes_of rows)
    ∷ judged option.Batch (batch_of rows)
    ∷ [])

-- of `dump` and of `filter`
abbrev pub first_bad_of_dump : List Row → Option OptionName
first_bad_of_dump rows =
    first_of_bad (judged option.LowerCount (lower_of rows) ∷ judged option.UpperCount (upper_of rows) ∷ [])

-- of `intersect`
abbrev pub first_bad_of_intersect : List Row → Option OptionName
first_bad_of_intersect rows = first_of_bad (judged option.Take (take_of rows) ∷ [])

-- of `histo`
abbrev pub first_bad_of_histo : List Row → Option OptionName
first_bad_of_histo rows = first_of_bad (judged option.High (high_of rows) ∷ [])

-- of `compare`
abbrev pub first_bad_of_compare : List Row → Option OptionName
first_bad_of_compare rows =
    first_of_bad (judged option.Solid (solid_of rows) ∷ judged option.High (high_of rows) ∷ [])

-- of `select`
abbrev pub first_bad_of_select : List Row → Option OptionName
first_bad_of_select rows = first_of_bad (judged option.MinCount (min_count_of rows)
    ∷ judged option.MaxCount (max_count_of rows)
    ∷ judged option.MinShare (min_share_of rows)
    ∷ judged option.MinQualChar (floor_of rows)
    ∷ judged option.Keep (keep_of rows)
    ∷ [])

-- of `profile`
abbrev pub first_bad_of_profile : List Row → Option OptionName
first_bad_of_profile rows = first_of_bad (judged option.MinQualChar (floor_of rows) ∷ [])

-- What all options together ask for.

-- a flag is true if it was given, and false if not
pub record IsFlag (rows : List Row) (id : Text) (flag : Bool) : Type 0 where
  pub given : one_of id rows ≡ Some (codes "true") → flag ≡ true
  pub unset : one_of id rows ≡ Some (codes "false") → flag ≡ false
  pub absent : one_of id rows ≡ None → flag ≡ false

-- the options of a dump ask for this one
pub record AsksForDump (rows : List Row) (dump : Dump) : Type 0 where
  pub column : IsFlag rows (codes "column") dump.column
  pub tab : IsFlag rows (codes "tab") dump.tab
  pub lower : lower_of rows ≡ Some dump.lower
  pub upper : upper_of rows ≡ Some dump.upper

-- the options of a selection ask for this rule
pub record AsksForSelection (rows : List Row) (rule : SelectionRule) : Type 0 where
  pub min_count : min_count_of rows ≡ Some rule.least
  pub max_count : max_count_of rows ≡ Some rule.most
  pub min_share : min_share_of rows ≡ Some rule.share
  pub min_qual_char : floor_of rows ≡ Some rule.floor
  pub invert : IsFlag rows (codes "invert") rule.inverted
  pub profiled : rule.profiled ≡ false

-- whether `--pairs` is given: the value of a flag is `true` if it is, and `false` if not
abbrev pub has_pairs : List Row → Bool
has_pairs rows = option_map_or (λ text. bytes_eq text (codes "true")) (first_of (codes "pairs") rows) false

-- the options of a selection ask for pairs, with this rule for the number of solid reads, or for no pairs
abbrev pub AsksForPairs : List Row → Option PairRule → Type 0
AsksForPairs rows None = has_pairs rows ≡ false
AsksForPairs rows (Some asked) = (has_pairs rows ≡ true) × (keep_of rows ≡ Some asked)

-- the options of a profile ask for this rule
pub record AsksForProfile (rows : List Row) (rule : SelectionRule) : Type 0 where
  pub min_qual_char : floor_of rows ≡ Some rule.floor
  pub profile : rule ≡ profile_rule rule.floor

-- the options of an intersection ask for this combination
abbrev pub AsksForIntersection : List Row → Combining → Type 0
AsksForIntersection rows (combining.Intersect rule) = take_of rows ≡ Some rule.take
AsksForIntersection rows _ = ⊥

-- the options of a filter ask for this combination
abbrev pub AsksForFilter : List Row → Combining → Type 0
AsksForFilter rows (combining.Filter rule) = (lower_of rows ≡ Some rule.least) × (upper_of rows ≡ Some rule.most)
AsksForFilter rows _ = ⊥

-- the options of a subtraction ask for this combination: of counts with `--counts`, and of words without it
abbrev pub AsksForSubtraction : List Row → Combining → Type 0
AsksForSubtraction rows combining.Subtract = IsFlag rows (codes "counts") false
AsksForSubtraction rows combining.SubtractCounts = IsFlag rows (codes "counts") true
AsksForSubtraction rows _ = ⊥

-- the options of a comparison ask for the matrix up to this count of the reads, or for none
abbrev pub AsksForMatrix : List Row → Option ℕ → Type 0
AsksForMatrix rows None = IsFlag rows (codes "matrix") false
AsksForMatrix rows (Some high) = IsFlag rows (codes "matrix") true × (high_of rows ≡ Some high)

-- the options of a comparison ask for this one
pub record AsksForComparison (rows : List Row) (asked : CompareOptions) : Type 0 where
  pub solid : solid_of rows ≡ Some asked.solid
  pub spectrum : AsksForMatrix rows asked.spectrum

-- the options of a count ask for these settings
pub record AsksFor (rows : List Row) (settings : Settings) : Type 0 where
  pub mer_len : mer_len_of rows ≡ Some settings.k
  pub size : size_of rows ≡ Some settings.size
  pub threads : threads_of rows ≡ Some settings.workers
  pub canonical : IsFlag rows (codes "canonical") settings.both
  pub min_qual_char : floor_of rows ≡ Some settings.floor
  pub stripes : option_map (lowered settings.k) (stripes_of rows) ≡ Some settings.stripes
  pub batch : batch_of rows ≡ Some settings.batch
  pub print : print_of rows ≡ Some settings.print
  pub dump : AsksForDump rows settings.dump
  pub high : high_of rows ≡ Some settings.high

-- the options of a count that do not belong to the report ask for these settings
pub record AsksForCounting (rows : List Row) (settings : Settings) : Type 0 where
  pub mer_len : mer_len_of rows ≡ Some settings.k
  pub size : size_of rows ≡ Some settings.size
  pub threads : threads_of rows ≡ Some settings.workers
  pub canonical : IsFlag rows (codes "canonical") settings.both
  pub min_qual_char : floor_of rows ≡ Some settings.floor
  pub stripes : option_map (lowered settings.k) (stripes_of rows) ≡ Some settings.stripes
  pub batch : batch_of rows ≡ Some settings.batch

-- Which options of a selection conflict.

-- an option has a value
abbrev pub is_given : Text → List Row → Bool
is_given id rows = is_some (first_of id rows)

-- two files are named after the table
abbrev pub has_two_files : List Row → Bool
has_two_files rows = length (unwrap_or (all_of (codes "file") rows) []) == 2

-- without `--pairs`, `--keep` and `--output2` are errors
abbrev pub refusal_of_reads : List Row → Option PairsRefusal
refusal_of_reads rows = if is_given (codes "keep") rows then Some refusal.KeepAlone
    else if is_given (codes "output2") rows then Some refusal.Output2Alone
    else None

-- one of the two outputs is not given without the other, and their names differ
abbrev pub refusal_of_outputs : Option Text → Option Text → Option PairsRefusal
refusal_of_outputs (Some first) None = Some refusal.NoOutput2
refusal_of_outputs None (Some second) = Some refusal.NoOutput
refusal_of_outputs None None = None
refusal_of_outputs (Some first) (Some second) =
    if bytes_eq first second then Some refusal.OneOutput else None

-- with `--pairs`, two files are named, and both outputs or neither
abbrev pub refusal_of_pairs : List Row → Option PairsRefusal
refusal_of_pairs rows = if has_two_files rows
    then refusal_of_outputs (first_of (codes "output") rows) (first_of (codes "output2") rows)
    else Some refusal.NotTwoFiles

-- why the options of a selection conflict, if they do
abbrev pub pairs_refusal : List Row → Option PairsRefusal
pairs_refusal rows = if has_pairs rows then refusal_of_pairs rows else refusal_of_reads rows
