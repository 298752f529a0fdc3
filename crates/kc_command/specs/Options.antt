-- The options of the commands, each at one place: its names, whether it takes a value, and the value that it asks for:
-- source, the help of the commands. The rules are those of `clap`. A row is what `clap` found for an option: its values
-- and where they came from.
use Rattle.std.specs.Prelude.{◌≡◌, ℕ, ◌^◌, ◌==◌, Bool, nat_le, ◌&&◌, List, [], ◌∷◌, codes, if◌then◌else◌}
use Rattle.std.specs.Prelude.{Option, Some, None, Result, Ok, Err}
use Rattle.std.specs.List.{list_any}
use Rattle.std.specs.Option.{option_and_then}
use Rattle.std.specs.Str.{bytes_eq}
use Rattle.clap.specs.Words.{Row, Rule, Text, first_of, new_rule}
use Rattle.clap.specs.declared.builder.action.ArgAction.TheVariants.{SetTrue}
use Rattle.kc_combine.specs.declared.combining_rules.Take.{Take}
use Rattle.kc_combine.specs.declared.combining_rules.Take.TheVariants as takes
use Rattle.kc_select.specs.declared.pair_rule.PairRule.{PairRule}
use Rattle.kc_select.specs.declared.pair_rule.PairRule.TheVariants as asks
use Rattle.kc_command.specs.Numbers.{number_between, scaled_between}
use Rattle.kc_command.specs.declared.option_name.OptionName.{OptionName}
use Rattle.kc_command.specs.declared.option_name.OptionName.TheVariants as option
use Rattle.kc_command.specs.declared.settings.Print.{Print}
use Rattle.kc_command.specs.declared.settings.Print.TheVariants as report

-- ---- what an option is

-- an option with one value, under its long name
abbrev pub value_option : Text → Rule
value_option name = record (new_rule name) { long = Some name; value_names = 1 }

-- an option without a value, under its long name
abbrev pub flag_option : Text → Rule
flag_option name = record (new_rule name) { long = Some name; action = Some SetTrue }

-- an option that also has a short name, of one letter
abbrev pub with_short : ℕ → Rule → Rule
with_short letter option = record option { short = Some letter }

-- the value that an option asks for: that of its text, if it is allowed; the default, if the option is not given
abbrev pub or_default : {X : Type 0} → X → (Text → Option X) → Option Text → Option X
or_default default value None = Some default
or_default default value (Some text) = value text

-- the value is the one that was asked for; or it is outside its limits, and its option is refused
abbrev pub IsValueOf : {X : Type 0} → OptionName → Option X → Result X OptionName → Type 0
IsValueOf name asked (Ok value) = asked ≡ Some value
IsValueOf name asked (Err refused) = (asked ≡ None) × (refused ≡ name)

-- ---- the options

-- `-m`, `--mer-len`, the length of the words, 1 to 31; required
abbrev pub mer_len_option : Rule
mer_len_option = with_short 109 (value_option (codes "mer-len"))

abbrev pub mer_len_of : List Row → Option ℕ
mer_len_of rows = option_and_then (number_between 1 31) (first_of (codes "mer-len") rows)

-- `-s`, `--size`, the number of slots with which the hash tables begin, 1 to 2^40, with or without a suffix;
-- default 1000000
abbrev pub size_option : Rule
size_option = with_short 115 (value_option (codes "size"))

abbrev pub size_of : List Row → Option ℕ
size_of rows = or_default 1000000 (scaled_between 1 (2 ^ 40)) (first_of (codes "size") rows)

-- `-t`, `--threads`, 1 to 64; default 1
abbrev pub threads_option : Rule
threads_option = with_short 116 (value_option (codes "threads"))

abbrev pub threads_of : List Row → Option ℕ
threads_of rows = or_default 1 (number_between 1 64) (first_of (codes "threads") rows)

-- `-C`, `--canonical`, to count both strands
abbrev pub canonical_option : Rule
canonical_option = with_short 67 (flag_option (codes "canonical"))

-- `-o`, `--output`, the file to write to
abbrev pub output_option : Rule
output_option = with_short 111 (value_option (codes "output"))

-- the byte of a text of one byte, if it is 33 to 126
abbrev pub quality_byte : Text → Option ℕ
quality_byte (byte ∷ []) = if nat_le 33 byte && nat_le byte 126 then Some byte else None
quality_byte _ = None

-- `--min-qual-char`, the floor of qualities; default `!`, which every quality passes
abbrev pub min_qual_char_option : Rule
min_qual_char_option = value_option (codes "min-qual-char")

abbrev pub floor_of : List Row → Option ℕ
floor_of rows = or_default 33 quality_byte (first_of (codes "min-qual-char") rows)

-- whether the number is a power of two, from 1 to 64
abbrev pub is_stripe_count : ℕ → Bool
is_stripe_count number = list_any (λ power. number == power) (1 ∷ 2 ∷ 4 ∷ 8 ∷ 16 ∷ 32 ∷ 64 ∷ [])

-- the number, if it is one of them
abbrev pub as_stripes : ℕ → Option ℕ
as_stripes number = if is_stripe_count number then Some number else None

-- `--stripes`, a power of two from 1 to 64, before it is lowered to the number of words; default 16
abbrev pub stripes_option : Rule
stripes_option = value_option (codes "stripes")

abbrev pub stripes_of : List Row → Option ℕ
stripes_of rows = option_and_then as_stripes (or_default 16 (number_between 1 64) (first_of (codes "stripes") rows))

-- `--batch`, the positions of a batch, 1 to 2^36; default 65536
abbrev pub batch_option : Rule
batch_option = value_option (codes "batch")

abbrev pub batch_of : List Row → Option ℕ
batch_of rows = or_default 65536 (number_between 1 (2 ^ 36)) (first_of (codes "batch") rows)

-- the report with this name
abbrev pub report_named : Text → Option Print
report_named text = if bytes_eq text (codes "table") then Some report.Table
    else if bytes_eq text (codes "dump") then Some report.Dump
    else if bytes_eq text (codes "histo") then Some report.Histo
    else if bytes_eq text (codes "stats") then Some report.Stats
    else None

-- `--print`, the report that is written; default the table
abbrev pub print_option : Rule
print_option = value_option (codes "print")

abbrev pub print_of : List Row → Option Print
print_of rows = or_default report.Table report_named (first_of (codes "print") rows)

-- `--column`, to write a word and its count on one line
abbrev pub column_option : Rule
column_option = flag_option (codes "column")

-- `--tab`, to put a tab between the two
abbrev pub tab_option : Rule
tab_option = flag_option (codes "tab")

-- `--lower-count`, the least count of a word that is not left out, 0 to 2^62; default 0
abbrev pub lower_count_option : Rule
lower_count_option = value_option (codes "lower-count")

abbrev pub lower_of : List Row → Option ℕ
lower_of rows = or_default 0 (number_between 0 (2 ^ 62)) (first_of (codes "lower-count") rows)

-- `--upper-count`, the greatest count of a word that is not left out, 0 to 2^62; default 2^62
abbrev pub upper_count_option : Rule
upper_count_option = value_option (codes "upper-count")

abbrev pub upper_of : List Row → Option ℕ
upper_of rows = or_default (2 ^ 62) (number_between 0 (2 ^ 62)) (first_of (codes "upper-count") rows)

-- `--high`, the greatest count with a line of its own in a histogram, 1 to 10000000; default 10000
abbrev pub high_option : Rule
high_option = value_option (codes "high")

abbrev pub high_of : List Row → Option ℕ
high_of rows = or_default 10000 (number_between 1 10000000) (first_of (codes "high") rows)

-- `--only`, the name of a file, which may be any text: only words of that file are counted; if it is not given, all
-- words are
abbrev pub only_option : Rule
only_option = value_option (codes "only")

abbrev pub only_of : List Row → Option Text
only_of rows = first_of (codes "only") rows

-- `--file`, the name of a file of words, one a line, which may be any text: its words are looked up after those of the
-- command line; if it is not given, those are all
abbrev pub file_option : Rule
file_option = value_option (codes "file")

abbrev pub word_list_of : List Row → Option Text
word_list_of rows = first_of (codes "file") rows

-- the count that an intersection gives a word, by its name: the least, the greatest or the sum of the word's counts, or
-- that in the first table
abbrev pub take_named : Text → Option Take
take_named text = if bytes_eq text (codes "min") then Some takes.Least
    else if bytes_eq text (codes "max") then Some takes.Greatest
    else if bytes_eq text (codes "sum") then Some takes.Sum
    else if bytes_eq text (codes "first") then Some takes.First
    else None

-- `--take`, the count that an intersection gives a word; default the least
abbrev pub take_option : Rule
take_option = value_option (codes "take")

abbrev pub take_of : List Row → Option Take
take_of rows = or_default takes.Least take_named (first_of (codes "take") rows)

-- `--counts`, to subtract counts and not words
abbrev pub counts_option : Rule
counts_option = flag_option (codes "counts")

-- `--solid`, the least count of a solid word in a comparison, 0 to 2^62; default 2
abbrev pub solid_option : Rule
solid_option = value_option (codes "solid")

abbrev pub solid_of : List Row → Option ℕ
solid_of rows = or_default 2 (number_between 0 (2 ^ 62)) (first_of (codes "solid") rows)

-- `--matrix`, to write the numbers of words for each two counts
abbrev pub matrix_option : Rule
matrix_option = flag_option (codes "matrix")

-- `--min-count`, the least count of a solid word, 0 to 2^62; default 2
abbrev pub min_count_option : Rule
min_count_option = value_option (codes "min-count")

abbrev pub min_count_of : List Row → Option ℕ
min_count_of rows = or_default 2 (number_between 0 (2 ^ 62)) (first_of (codes "min-count") rows)

-- `--max-count`, the greatest count of a solid word, 0 to 2^62; default 2^62
abbrev pub max_count_option : Rule
max_count_option = value_option (codes "max-count")

abbrev pub max_count_of : List Row → Option ℕ
max_count_of rows = or_default (2 ^ 62) (number_between 0 (2 ^ 62)) (first_of (codes "max-count") rows)

-- `--min-share`, the percentage of a read's words that have to be solid, 0 to 100; default 100
abbrev pub min_share_option : Rule
min_share_option = value_option (codes "min-share")

abbrev pub min_share_of : List Row → Option ℕ
min_share_of rows = or_default 100 (number_between 0 100) (first_of (codes "min-share") rows)

-- `--invert`, to write the other reads instead
abbrev pub invert_option : Rule
invert_option = flag_option (codes "invert")

-- `--pairs`, to select pairs of reads
abbrev pub pairs_option : Rule
pairs_option = flag_option (codes "pairs")

-- how many reads of a pair have to be solid, by its name
abbrev pub pair_rule_named : Text → Option PairRule
pair_rule_named text = if bytes_eq text (codes "both") then Some asks.All
    else if bytes_eq text (codes "any") then Some asks.Any
    else None

-- `--keep`, how many reads of a pair have to be solid; default both
abbrev pub keep_option : Rule
keep_option = value_option (codes "keep")

abbrev pub keep_of : List Row → Option PairRule
keep_of rows = or_default asks.All pair_rule_named (first_of (codes "keep") rows)

-- `--output2`, the file of the second reads of pairs
abbrev pub output2_option : Rule
output2_option = value_option (codes "output2")

-- `--stats`, to print how many reads and words there were
abbrev pub stats_option : Rule
stats_option = flag_option (codes "stats")

-- `--explain`, to explain an error
abbrev pub explain_option : Rule
explain_option = flag_option (codes "explain")

-- ---- the names in refusals

-- the long name of an option whose value can be refused
abbrev pub option_name : OptionName → List ℕ
option_name option.MerLen = codes "mer-len"
option_name option.Size = codes "size"
option_name option.Threads = codes "threads"
option_name option.MinCount = codes "min-count"
option_name option.MaxCount = codes "max-count"
option_name option.MinShare = codes "min-share"
option_name option.MinQualChar = codes "min-qual-char"
option_name option.Keep = codes "keep"
option_name option.Take = codes "take"
option_name option.Stripes = codes "stripes"
option_name option.Batch = codes "batch"
option_name option.Print = codes "print"
option_name option.LowerCount = codes "lower-count"
option_name option.UpperCount = codes "upper-count"
option_name option.High = codes "high"
option_name option.Solid = codes "solid"
