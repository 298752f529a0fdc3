-- Worked rows of the command line, computed from the definitions.
use Rattle.std.specs.Prelude.{◌≡◌, ℕ, ◌^◌, true, false, List, [], ◌∷◌, Option, Some, None, codes, option_map, unwrap_or}
use Rattle.std.specs.Prelude.{replicate}
use Rattle.clap.specs.Faults.{fault_of}
use Rattle.clap.specs.Words.{Row, Text, all_of, first_of, one_of, subcommand_of}
use Rattle.clap.specs.declared.error.kind.ErrorKind.TheVariants.{
  ArgumentConflict,
  DisplayHelp,
  DisplayVersion,
  InvalidSubcommand,
  InvalidValue,
  MissingRequiredArgument,
  MissingSubcommand,
  TooManyValues,
  UnknownArgument,
}
use Rattle.kc_command.specs.Arguments.{
  first_bad,
  first_bad_of_compare,
  first_bad_of_dump,
  first_bad_of_histo,
  first_bad_of_intersect,
  first_bad_of_profile,
  first_bad_of_select,
  first_table_of,
  has_no_words,
  has_pairs,
  has_too_many_tables,
  pairs_refusal,
  tables_of,
}
use Rattle.kc_combine.specs.declared.combining_rules.Take.TheVariants as takes
use Rattle.kc_command.specs.Command.{kcount_app}
use Rattle.kc_command.specs.Numbers.{scaled_between}
use Rattle.kc_command.specs.Options.{
  batch_of,
  floor_of,
  high_of,
  keep_of,
  lower_of,
  max_count_of,
  mer_len_of,
  min_count_of,
  min_share_of,
  only_of,
  print_of,
  size_of,
  solid_of,
  stripes_of,
  take_of,
  threads_of,
  upper_of,
  word_list_of,
}
use Rattle.kc_command.specs.Settings.{lowered}
use Rattle.kc_command.specs.declared.option_name.OptionName.{OptionName}
use Rattle.kc_command.specs.declared.option_name.OptionName.TheVariants as option
use Rattle.kc_command.specs.declared.pair_options.PairsRefusal.TheVariants as refusal
use Rattle.kc_command.specs.declared.settings.Print.TheVariants as report
use Rattle.kc_select.specs.declared.pair_rule.PairRule.TheVariants as asks

-- what `clap` found for the options of a command
abbrev pub options_of : List Text → List Row
options_of arguments = unwrap_or (option_map (λ met. met.1) (subcommand_of kcount_app arguments)) []

-- `kcount count`, followed by these arguments
abbrev pub count_with : List Text → List Text
count_with options = codes "kcount" ∷ codes "count" ∷ options

-- `kcount dump`, followed by these arguments
abbrev pub dump_with : List Text → List Text
dump_with options = codes "kcount" ∷ codes "dump" ∷ options

-- `kcount query`, followed by these arguments
abbrev pub query_with : List Text → List Text
query_with options = codes "kcount" ∷ codes "query" ∷ options

-- the option of `kcount count -m 3` that is refused with one more option and its value
abbrev pub refused : Text → Text → Option OptionName
refused option value = first_bad (options_of (count_with (codes "-m" ∷ codes "3" ∷ option ∷ value ∷ [])))

-- `kcount count -Cm3 --print=dump --batch 7`
abbrev pub both_strands : List Text
both_strands = count_with (codes "-Cm3" ∷ codes "--print=dump" ∷ codes "--batch" ∷ codes "7" ∷ [])

-- counts words of length 3 on both strands, in batches of 7, and dumps them in lines; all else is the default
pub record CountsBothStrands : Type 0 where
  pub taken : fault_of kcount_app both_strands ≡ []
  pub good : first_bad (options_of both_strands) ≡ None
  pub mer_len : mer_len_of (options_of both_strands) ≡ Some 3
  pub canonical : one_of (codes "canonical") (options_of both_strands) ≡ Some (codes "true")
  pub batch : batch_of (options_of both_strands) ≡ Some 7
  pub print : print_of (options_of both_strands) ≡ Some report.Dump
  pub size : size_of (options_of both_strands) ≡ Some 1000000
  pub threads : threads_of (options_of both_strands) ≡ Some 1
  pub floor : floor_of (options_of both_strands) ≡ Some 33
  pub stripes : stripes_of (options_of both_strands) ≡ Some 16
  pub column : one_of (codes "column") (options_of both_strands) ≡ Some (codes "false")
  pub lower : lower_of (options_of both_strands) ≡ Some 0
  pub upper : upper_of (options_of both_strands) ≡ Some (2 ^ 62)
  pub high : high_of (options_of both_strands) ≡ Some 10000
  pub files : all_of (codes "file") (options_of both_strands) ≡ None

-- `kcount count a.fa -m 3 -o out b.fa`
abbrev pub two_files : List Text
two_files = count_with (codes "a.fa" ∷ codes "-m" ∷ codes "3" ∷ codes "-o" ∷ codes "out" ∷ codes "b.fa" ∷ [])

-- counts two files into a third
pub record CountsFiles : Type 0 where
  pub taken : fault_of kcount_app two_files ≡ []
  pub files : all_of (codes "file") (options_of two_files) ≡ Some (codes "a.fa" ∷ codes "b.fa" ∷ [])
  pub output : first_of (codes "output") (options_of two_files) ≡ Some (codes "out")

-- `kcount count -m 3 --only x y`
abbrev pub listed_words : List Text
listed_words = count_with (codes "-m" ∷ codes "3" ∷ codes "--only" ∷ codes "x" ∷ codes "y" ∷ [])

-- `kcount count -m 3 --only`, followed by this text
abbrev pub only_with : Text → List Text
only_with name = count_with (codes "-m" ∷ codes "3" ∷ codes "--only" ∷ name ∷ [])

-- counts the words of one file that are in another; the name of the other may be any text, and is given once
pub record CountsListedWords : Type 0 where
  pub taken : fault_of kcount_app listed_words ≡ []
  pub good : first_bad (options_of listed_words) ≡ None
  pub only : only_of (options_of listed_words) ≡ Some (codes "x")
  pub files : all_of (codes "file") (options_of listed_words) ≡ Some (codes "y" ∷ [])
  pub absent : only_of (options_of two_files) ≡ None
  pub empty_taken : fault_of kcount_app (only_with []) ≡ []
  pub empty : only_of (options_of (only_with [])) ≡ Some []
  pub empty_good : first_bad (options_of (only_with [])) ≡ None
  pub attached : only_of (options_of (count_with (codes "--only=a b" ∷ []))) ≡ Some (codes "a b")
  pub no_name : fault_of kcount_app (count_with (codes "--only" ∷ [])) ≡ InvalidValue ∷ []
  pub twice : fault_of kcount_app (count_with (codes "--only=x" ∷ codes "--only=x" ∷ [])) ≡ ArgumentConflict ∷ []
  pub of_dump : fault_of kcount_app (dump_with (codes "--only" ∷ codes "x" ∷ [])) ≡ UnknownArgument ∷ []

-- numbers with a suffix: their values if these are 1 to 2^40, otherwise None
pub record ScalesNumbers : Type 0 where
  pub thousands : scaled_between 1 (2 ^ 40) (codes "2k") ≡ Some 2000
  pub millions : scaled_between 1 (2 ^ 40) (codes "0030M") ≡ Some 30000000
  pub billions : scaled_between 1 (2 ^ 40) (codes "1G") ≡ Some 1000000000
  pub plain : scaled_between 1 (2 ^ 40) (codes "1099511627776") ≡ Some (2 ^ 40)
  pub above : scaled_between 1 (2 ^ 40) (codes "1099511627777") ≡ None
  pub scaled_above : scaled_between 1 (2 ^ 40) (codes "1100G") ≡ None
  pub never_wraps : scaled_between 1 (2 ^ 40) (codes "18446744073709551617") ≡ None
  pub nor_scaled : scaled_between 1 (2 ^ 40) (codes "18446744073709551617k") ≡ None
  pub below : scaled_between 1 (2 ^ 40) (codes "0k") ≡ None
  pub no_digits : scaled_between 1 (2 ^ 40) (codes "k") ≡ None
  pub empty : scaled_between 1 (2 ^ 40) [] ≡ None
  pub other_case : scaled_between 1 (2 ^ 40) (codes "2K") ≡ None
  pub two_suffixes : scaled_between 1 (2 ^ 40) (codes "2kk") ≡ None
  pub signed : scaled_between 1 (2 ^ 40) (codes "+2") ≡ None

-- values of `kcount count -m 3` at their limits and past them
pub record KeepsLimits : Type 0 where
  pub size : refused (codes "-s") (codes "1100G") ≡ Some option.Size
  pub threads : refused (codes "-t") (codes "65") ≡ Some option.Threads
  pub most_threads : refused (codes "-t") (codes "64") ≡ None
  pub no_suffix : refused (codes "-t") (codes "1k") ≡ Some option.Threads
  pub blank : refused (codes "--min-qual-char") (codes " ") ≡ Some option.MinQualChar
  pub minus : refused (codes "--min-qual-char") (codes "-") ≡ None
  pub two_bytes : refused (codes "--min-qual-char") (codes "II") ≡ Some option.MinQualChar
  pub stripes : refused (codes "--stripes") (codes "3") ≡ Some option.Stripes
  pub most_stripes : refused (codes "--stripes") (codes "64") ≡ None
  pub batch : refused (codes "--batch") (codes "68719476737") ≡ Some option.Batch
  pub print : refused (codes "--print") (codes "Table") ≡ Some option.Print
  pub lower : refused (codes "--lower-count") (codes "4611686018427387905") ≡ Some option.LowerCount
  pub upper : refused (codes "--upper-count") (codes "4611686018427387904") ≡ None
  pub high : refused (codes "--high") (codes "0") ≡ Some option.High
  pub greatest_high : refused (codes "--high") (codes "10000000") ≡ None

-- `kcount count -t 0 -s 0 -m 3`
abbrev pub two_bad : List Text
two_bad = count_with (codes "-t" ∷ codes "0" ∷ codes "-s" ∷ codes "0" ∷ codes "-m" ∷ codes "3" ∷ [])

-- `kcount count -m 1 --stripes 64`
abbrev pub many_stripes : List Text
many_stripes = count_with (codes "-m" ∷ codes "1" ∷ codes "--stripes" ∷ codes "64" ∷ [])

-- of several bad values, the first in the order of the help is reported; `--mer-len` is required; and the number of
-- stripes is lowered to the number of words
pub record JudgesInOrder : Type 0 where
  pub first : first_bad (options_of two_bad) ≡ Some option.Size
  pub mer_len : first_bad (options_of (count_with (codes "--batch=0" ∷ codes "-m32" ∷ []))) ≡ Some option.MerLen
  pub absent : first_bad (options_of (count_with [])) ≡ Some option.MerLen
  pub good : first_bad (options_of many_stripes) ≡ None
  pub lowered_stripes : option_map (lowered 1) (stripes_of (options_of many_stripes)) ≡ Some 4

-- `kcount dump -ctL 2 -U5 t.kct`
abbrev pub bounded_dump : List Text
bounded_dump = dump_with (codes "-ctL" ∷ codes "2" ∷ codes "-U5" ∷ codes "t.kct" ∷ [])

-- the commands over a table
pub record ReadsTables : Type 0 where
  pub taken : fault_of kcount_app bounded_dump ≡ []
  pub good : first_bad_of_dump (options_of bounded_dump) ≡ None
  pub column : one_of (codes "column") (options_of bounded_dump) ≡ Some (codes "true")
  pub tab : one_of (codes "tab") (options_of bounded_dump) ≡ Some (codes "true")
  pub lower : lower_of (options_of bounded_dump) ≡ Some 2
  pub upper : upper_of (options_of bounded_dump) ≡ Some 5
  pub file : all_of (codes "file") (options_of bounded_dump) ≡ Some (codes "t.kct" ∷ [])
  pub second_file : fault_of kcount_app (dump_with (codes "a" ∷ codes "b" ∷ [])) ≡ UnknownArgument ∷ []
  pub high : first_bad_of_histo (options_of (codes "kcount" ∷ codes "histo" ∷ codes "--high=0" ∷ []))
      ≡ Some option.High

-- `kcount query --file w.txt t.kct`
abbrev pub words_of_a_file : List Text
words_of_a_file = query_with (codes "--file" ∷ codes "w.txt" ∷ codes "t.kct" ∷ [])

-- `kcount query t.kct ACG --file w.txt`
abbrev pub words_of_both : List Text
words_of_both = query_with (codes "t.kct" ∷ codes "ACG" ∷ codes "--file" ∷ codes "w.txt" ∷ [])

-- `kcount query t.kct CGT aaa`
abbrev pub given_words : List Text
given_words = query_with (codes "t.kct" ∷ codes "CGT" ∷ codes "aaa" ∷ [])

-- `kcount query t.kct`
abbrev pub no_words : List Text
no_words = query_with (codes "t.kct" ∷ [])

-- looks up words of the command line, of a file, whose name may be any text, or of both in a table; `clap` takes a
-- command line without words, and `has_no_words` tells it
pub record LooksUpWords : Type 0 where
  pub taken : fault_of kcount_app words_of_a_file ≡ []
  pub command : option_map (λ met. met.0) (subcommand_of kcount_app words_of_a_file) ≡ Some (codes "query")
  pub list : word_list_of (options_of words_of_a_file) ≡ Some (codes "w.txt")
  pub table : all_of (codes "table") (options_of words_of_a_file) ≡ Some (codes "t.kct" ∷ [])
  pub no_word : all_of (codes "word") (options_of words_of_a_file) ≡ None
  pub list_is_enough : has_no_words (options_of words_of_a_file) ≡ false
  pub both_taken : fault_of kcount_app words_of_both ≡ []
  pub table_before : all_of (codes "table") (options_of words_of_both) ≡ Some (codes "t.kct" ∷ [])
  pub word_before : all_of (codes "word") (options_of words_of_both) ≡ Some (codes "ACG" ∷ [])
  pub list_behind : word_list_of (options_of words_of_both) ≡ Some (codes "w.txt")
  pub both_are_enough : has_no_words (options_of words_of_both) ≡ false
  pub words_taken : fault_of kcount_app given_words ≡ []
  pub words : all_of (codes "word") (options_of given_words) ≡ Some (codes "CGT" ∷ codes "aaa" ∷ [])
  pub table_of_words : all_of (codes "table") (options_of given_words) ≡ Some (codes "t.kct" ∷ [])
  pub no_list : word_list_of (options_of given_words) ≡ None
  pub words_are_enough : has_no_words (options_of given_words) ≡ false
  pub one_word_is_enough : has_no_words (options_of (query_with (codes "t.kct" ∷ codes "ACG" ∷ []))) ≡ false
  pub empty_word_is_enough : has_no_words (options_of (query_with (codes "t.kct" ∷ [] ∷ []))) ≡ false
  pub nothing_taken : fault_of kcount_app no_words ≡ []
  pub nothing : has_no_words (options_of no_words) ≡ true
  pub output : first_of (codes "output") (options_of (query_with (codes "-oout" ∷ codes "t.kct" ∷ [])))
      ≡ Some (codes "out")
  pub empty_name_taken : fault_of kcount_app (query_with (codes "--file=" ∷ codes "t.kct" ∷ [])) ≡ []
  pub empty_name : word_list_of (options_of (query_with (codes "--file=" ∷ codes "t.kct" ∷ []))) ≡ Some []
  pub no_name : fault_of kcount_app (query_with (codes "t.kct" ∷ codes "--file" ∷ [])) ≡ InvalidValue ∷ []
  pub twice : fault_of kcount_app (query_with (codes "--file=x" ∷ codes "--file=x" ∷ codes "t.kct" ∷ []))
      ≡ ArgumentConflict ∷ []
  pub no_table : fault_of kcount_app (query_with (codes "--file" ∷ codes "w.txt" ∷ []))
      ≡ MissingRequiredArgument ∷ []
  pub of_dump : fault_of kcount_app (dump_with (codes "--file" ∷ codes "w.txt" ∷ [])) ≡ UnknownArgument ∷ []

-- `kcount merge`, followed by these arguments
abbrev pub merge_with : List Text → List Text
merge_with options = codes "kcount" ∷ codes "merge" ∷ options

-- `kcount merge a b`
abbrev pub two_tables : List Text
two_tables = merge_with (codes "a" ∷ codes "b" ∷ [])

-- `kcount merge a -o out b`
abbrev pub two_into_one : List Text
two_into_one = merge_with (codes "a" ∷ codes "-o" ∷ codes "out" ∷ codes "b" ∷ [])

-- three tables
abbrev pub three_tables : List Text
three_tables = codes "a" ∷ codes "b" ∷ codes "c" ∷ []

-- `kcount merge`, followed by so many tables
abbrev pub merge_of : ℕ → List Text
merge_of number = merge_with (replicate number (codes "t"))

-- adds two tables or more; `clap` takes any number of them, and more than 64 are too many
pub record MergesTables : Type 0 where
  pub taken : fault_of kcount_app two_tables ≡ []
  pub command : option_map (λ met. met.0) (subcommand_of kcount_app two_tables) ≡ Some (codes "merge")
  pub first : first_table_of (options_of two_tables) ≡ Some (codes "a")
  pub second : all_of (codes "second") (options_of two_tables) ≡ Some (codes "b" ∷ [])
  pub tables : tables_of (options_of two_tables) ≡ codes "a" ∷ codes "b" ∷ []
  pub no_output : first_of (codes "output") (options_of two_tables) ≡ None
  pub output_taken : fault_of kcount_app two_into_one ≡ []
  pub output : first_of (codes "output") (options_of two_into_one) ≡ Some (codes "out")
  pub first_before : first_table_of (options_of two_into_one) ≡ Some (codes "a")
  pub second_behind : all_of (codes "second") (options_of two_into_one) ≡ Some (codes "b" ∷ [])
  pub long_output : first_of (codes "output") (options_of (merge_with (codes "--output=out" ∷ [])))
      ≡ Some (codes "out")
  pub no_table : fault_of kcount_app (merge_with []) ≡ MissingRequiredArgument ∷ []
  pub one_table : fault_of kcount_app (merge_with (codes "a" ∷ [])) ≡ MissingRequiredArgument ∷ []
  pub three_taken : fault_of kcount_app (merge_with three_tables) ≡ []
  pub three : tables_of (options_of (merge_with three_tables)) ≡ three_tables
  pub apart : tables_of (options_of (merge_with (codes "a" ∷ codes "b" ∷ codes "-oout" ∷ codes "c" ∷ [])))
      ≡ three_tables
  pub nameless : tables_of (options_of (merge_with [])) ≡ [] ∷ []
  pub most_taken : fault_of kcount_app (merge_of 64) ≡ []
  pub not_too_many : has_too_many_tables (options_of (merge_of 64)) ≡ false
  pub more_taken : fault_of kcount_app (merge_of 65) ≡ []
  pub too_many : has_too_many_tables (options_of (merge_of 65)) ≡ true
  pub other_option : fault_of kcount_app (merge_with (codes "-c" ∷ codes "a" ∷ codes "b" ∷ []))
      ≡ UnknownArgument ∷ []

-- `kcount intersect`, followed by these arguments
abbrev pub intersect_with : List Text → List Text
intersect_with options = codes "kcount" ∷ codes "intersect" ∷ options

-- `kcount intersect --take max a b c -o out`
abbrev pub greatest_in_common : List Text
greatest_in_common = intersect_with (codes "--take"
    ∷ codes "max"
    ∷ codes "a"
    ∷ codes "b"
    ∷ codes "c"
    ∷ codes "-o"
    ∷ codes "out"
    ∷ [])

-- `kcount intersect --take=`, with this value, over three tables
abbrev pub taking : Text → List Text
taking value = intersect_with (codes "--take" ∷ value ∷ three_tables)

-- takes the words that two tables or more have in common, with one of their counts or the sum of them
pub record IntersectsTables : Type 0 where
  pub taken : fault_of kcount_app greatest_in_common ≡ []
  pub command : option_map (λ met. met.0) (subcommand_of kcount_app greatest_in_common) ≡ Some (codes "intersect")
  pub good : first_bad_of_intersect (options_of greatest_in_common) ≡ None
  pub greatest : take_of (options_of greatest_in_common) ≡ Some takes.Greatest
  pub tables : tables_of (options_of greatest_in_common) ≡ three_tables
  pub output : first_of (codes "output") (options_of greatest_in_common) ≡ Some (codes "out")
  pub alone : fault_of kcount_app (intersect_with three_tables) ≡ []
  pub usual : take_of (options_of (intersect_with three_tables)) ≡ Some takes.Least
  pub least : take_of (options_of (taking (codes "min"))) ≡ Some takes.Least
  pub total : take_of (options_of (taking (codes "sum"))) ≡ Some takes.Sum
  pub first : take_of (options_of (taking (codes "first"))) ≡ Some takes.First
  pub other_name : first_bad_of_intersect (options_of (taking (codes "least"))) ≡ Some option.Take
  pub no_name : first_bad_of_intersect (options_of (taking [])) ≡ Some option.Take
  pub twice : fault_of kcount_app (intersect_with (codes "--take=min" ∷ codes "--take=max" ∷ three_tables))
      ≡ ArgumentConflict ∷ []
  pub no_table : fault_of kcount_app (intersect_with []) ≡ MissingRequiredArgument ∷ []
  pub one_table : fault_of kcount_app (intersect_with (codes "a" ∷ [])) ≡ MissingRequiredArgument ∷ []
  pub option_of_subtract : fault_of kcount_app (intersect_with (codes "--counts" ∷ three_tables))
      ≡ UnknownArgument ∷ []

-- `kcount subtract`, followed by these arguments
abbrev pub subtract_with : List Text → List Text
subtract_with options = codes "kcount" ∷ codes "subtract" ∷ options

-- `kcount subtract --counts a b c`
abbrev pub counts_left : List Text
counts_left = subtract_with (codes "--counts" ∷ three_tables)

-- takes the words or the counts of other tables from a table
pub record SubtractsTables : Type 0 where
  pub taken : fault_of kcount_app counts_left ≡ []
  pub command : option_map (λ met. met.0) (subcommand_of kcount_app counts_left) ≡ Some (codes "subtract")
  pub counts : one_of (codes "counts") (options_of counts_left) ≡ Some (codes "true")
  pub tables : tables_of (options_of counts_left) ≡ three_tables
  pub alone : fault_of kcount_app (subtract_with three_tables) ≡ []
  pub usual : one_of (codes "counts") (options_of (subtract_with three_tables)) ≡ Some (codes "false")
  pub output : first_of (codes "output") (options_of (subtract_with (codes "-o" ∷ codes "out" ∷ three_tables)))
      ≡ Some (codes "out")
  pub with_value : fault_of kcount_app (subtract_with (codes "--counts=yes" ∷ three_tables)) ≡ TooManyValues ∷ []
  pub no_table : fault_of kcount_app (subtract_with []) ≡ MissingRequiredArgument ∷ []
  pub one_table : fault_of kcount_app (subtract_with (codes "a" ∷ [])) ≡ MissingRequiredArgument ∷ []
  pub option_of_intersect : fault_of kcount_app (subtract_with (codes "--take=min" ∷ three_tables))
      ≡ UnknownArgument ∷ []

-- `kcount filter`, followed by these arguments
abbrev pub filter_with : List Text → List Text
filter_with options = codes "kcount" ∷ codes "filter" ∷ options

-- `kcount filter -L 2 -U5 t.kct`
abbrev pub bounded_filter : List Text
bounded_filter = filter_with (codes "-L" ∷ codes "2" ∷ codes "-U5" ∷ codes "t.kct" ∷ [])

-- takes the words of one table, or of standard input, whose counts are within bounds
pub record FiltersTables : Type 0 where
  pub taken : fault_of kcount_app bounded_filter ≡ []
  pub command : option_map (λ met. met.0) (subcommand_of kcount_app bounded_filter) ≡ Some (codes "filter")
  pub good : first_bad_of_dump (options_of bounded_filter) ≡ None
  pub lower : lower_of (options_of bounded_filter) ≡ Some 2
  pub upper : upper_of (options_of bounded_filter) ≡ Some 5
  pub file : all_of (codes "file") (options_of bounded_filter) ≡ Some (codes "t.kct" ∷ [])
  pub alone : fault_of kcount_app (filter_with []) ≡ []
  pub usual_lower : lower_of (options_of (filter_with [])) ≡ Some 0
  pub usual_upper : upper_of (options_of (filter_with [])) ≡ Some (2 ^ 62)
  pub no_file : all_of (codes "file") (options_of (filter_with [])) ≡ None
  pub output : first_of (codes "output") (options_of (filter_with (codes "-o" ∷ codes "out" ∷ [])))
      ≡ Some (codes "out")
  pub first_of_two : first_bad_of_dump (options_of (filter_with (codes "-U"
      ∷ codes "x" ∷ codes "--lower-count=x" ∷ []))) ≡ Some option.LowerCount
  pub above : first_bad_of_dump (options_of (filter_with (codes "--upper-count=4611686018427387905" ∷ [])))
      ≡ Some option.UpperCount
  pub second_file : fault_of kcount_app (filter_with (codes "a" ∷ codes "b" ∷ [])) ≡ UnknownArgument ∷ []
  pub option_of_dump : fault_of kcount_app (filter_with (codes "-c" ∷ codes "t.kct" ∷ [])) ≡ UnknownArgument ∷ []

-- `kcount compare`, followed by these arguments
abbrev pub compare_with : List Text → List Text
compare_with options = codes "kcount" ∷ codes "compare" ∷ options

-- a table of reads and one of an assembly
abbrev pub two_names : List Text
two_names = codes "r.kct" ∷ codes "a.kct" ∷ []

-- `kcount compare --solid 3 --matrix --high=90 r.kct a.kct`
abbrev pub matrix_of_two : List Text
matrix_of_two = compare_with (codes "--solid"
    ∷ codes "3"
    ∷ codes "--matrix"
    ∷ codes "--high=90"
    ∷ two_names)

-- `kcount compare`, followed by one argument and two tables
abbrev pub comparing : Text → List Text
comparing argument = compare_with (argument ∷ two_names)

-- compares two tables, one of reads and one of an assembly
pub record ComparesTables : Type 0 where
  pub taken : fault_of kcount_app matrix_of_two ≡ []
  pub command : option_map (λ met. met.0) (subcommand_of kcount_app matrix_of_two) ≡ Some (codes "compare")
  pub good : first_bad_of_compare (options_of matrix_of_two) ≡ None
  pub solid : solid_of (options_of matrix_of_two) ≡ Some 3
  pub matrix : one_of (codes "matrix") (options_of matrix_of_two) ≡ Some (codes "true")
  pub high : high_of (options_of matrix_of_two) ≡ Some 90
  pub tables : tables_of (options_of matrix_of_two) ≡ codes "r.kct" ∷ codes "a.kct" ∷ []
  pub alone : fault_of kcount_app (compare_with two_names) ≡ []
  pub usual_solid : solid_of (options_of (compare_with two_names)) ≡ Some 2
  pub usual_high : high_of (options_of (compare_with two_names)) ≡ Some 10000
  pub no_matrix : one_of (codes "matrix") (options_of (compare_with two_names)) ≡ Some (codes "false")
  pub output : first_of (codes "output") (options_of (comparing (codes "-oout"))) ≡ Some (codes "out")
  pub least_solid : first_bad_of_compare (options_of (comparing (codes "--solid=0"))) ≡ None
  pub greatest_solid : first_bad_of_compare (options_of (comparing (codes "--solid=4611686018427387904"))) ≡ None
  pub above : first_bad_of_compare (options_of (comparing (codes "--solid=4611686018427387905")))
      ≡ Some option.Solid
  pub high_without_matrix : first_bad_of_compare (options_of (comparing (codes "--high=10000001")))
      ≡ Some option.High
  pub first_of_two : first_bad_of_compare (options_of (compare_with (codes "--high=0" ∷ codes "--solid=x" ∷ two_names)))
      ≡ Some option.Solid
  pub with_value : fault_of kcount_app (comparing (codes "--matrix=yes")) ≡ TooManyValues ∷ []
  pub no_table : fault_of kcount_app (compare_with []) ≡ MissingRequiredArgument ∷ []
  pub one_table : fault_of kcount_app (compare_with (codes "r.kct" ∷ [])) ≡ MissingRequiredArgument ∷ []
  pub third_table : fault_of kcount_app (comparing (codes "t.kct")) ≡ UnknownArgument ∷ []
  pub option_of_select : fault_of kcount_app (comparing (codes "--min-count=2")) ≡ UnknownArgument ∷ []

-- `kcount select`, followed by these arguments
abbrev pub select_with : List Text → List Text
select_with options = codes "kcount" ∷ codes "select" ∷ options

-- `kcount select --min-count 3 --max-count 90 --min-share=66 --invert t.kct a.fq b.fq`
abbrev pub inverted_selection : List Text
inverted_selection = select_with (codes "--min-count"
    ∷ codes "3"
    ∷ codes "--max-count"
    ∷ codes "90"
    ∷ codes "--min-share=66"
    ∷ codes "--invert"
    ∷ codes "t.kct"
    ∷ codes "a.fq"
    ∷ codes "b.fq"
    ∷ [])

-- selects the reads of two files, or of standard input, by a table
pub record SelectsReads : Type 0 where
  pub taken : fault_of kcount_app inverted_selection ≡ []
  pub good : first_bad_of_select (options_of inverted_selection) ≡ None
  pub least : min_count_of (options_of inverted_selection) ≡ Some 3
  pub most : max_count_of (options_of inverted_selection) ≡ Some 90
  pub share : min_share_of (options_of inverted_selection) ≡ Some 66
  pub inverted : one_of (codes "invert") (options_of inverted_selection) ≡ Some (codes "true")
  pub table : first_of (codes "table") (options_of inverted_selection) ≡ Some (codes "t.kct")
  pub files : all_of (codes "file") (options_of inverted_selection) ≡ Some (codes "a.fq" ∷ codes "b.fq" ∷ [])
  pub alone : fault_of kcount_app (select_with (codes "t.kct" ∷ [])) ≡ []
  pub usual_least : min_count_of (options_of (select_with (codes "t.kct" ∷ []))) ≡ Some 2
  pub usual_most : max_count_of (options_of (select_with (codes "t.kct" ∷ []))) ≡ Some (2 ^ 62)
  pub usual_share : min_share_of (options_of (select_with (codes "t.kct" ∷ []))) ≡ Some 100
  pub told : one_of (codes "stats") (options_of (select_with (codes "--stats" ∷ codes "t.kct" ∷ [])))
      ≡ Some (codes "true")
  pub no_file : all_of (codes "file") (options_of (select_with (codes "t.kct" ∷ []))) ≡ None
  pub no_table : fault_of kcount_app (select_with []) ≡ MissingRequiredArgument ∷ []
  pub share_above : first_bad_of_select (options_of (select_with (codes "--min-share=101" ∷ codes "t.kct" ∷ [])))
      ≡ Some option.MinShare
  pub first_of_two : first_bad_of_select (options_of (select_with (codes "--min-share=101"
      ∷ codes "--min-count=x" ∷ codes "t.kct" ∷ []))) ≡ Some option.MinCount
  pub second_of_two : first_bad_of_select (options_of (select_with (codes "--min-share=101"
      ∷ codes "--max-count=x" ∷ codes "t.kct" ∷ []))) ≡ Some option.MaxCount

-- a table and two files
abbrev pub two_of_a_pair : List Text
two_of_a_pair = codes "t.kct" ∷ codes "r_1.fq" ∷ codes "r_2.fq" ∷ []

-- `kcount select --pairs --keep=any -o a --output2 b t.kct r_1.fq r_2.fq`
abbrev pub apart : List Text
apart = select_with (codes "--pairs"
    ∷ codes "--keep=any"
    ∷ codes "-o"
    ∷ codes "a"
    ∷ codes "--output2"
    ∷ codes "b"
    ∷ two_of_a_pair)

-- `kcount select --pairs`, followed by these arguments
abbrev pub pairs_with : List Text → List Text
pairs_with options = select_with (codes "--pairs" ∷ options)

-- selects pairs of reads of two files, by a table, and refuses options that conflict
pub record SelectsPairs : Type 0 where
  pub taken : fault_of kcount_app apart ≡ []
  pub good : first_bad_of_select (options_of apart) ≡ None
  pub pairs : has_pairs (options_of apart) ≡ true
  pub any : keep_of (options_of apart) ≡ Some asks.Any
  pub output : first_of (codes "output") (options_of apart) ≡ Some (codes "a")
  pub output2 : first_of (codes "output2") (options_of apart) ≡ Some (codes "b")
  pub files : all_of (codes "file") (options_of apart) ≡ Some (codes "r_1.fq" ∷ codes "r_2.fq" ∷ [])
  pub together : pairs_refusal (options_of apart) ≡ None
  pub usual : keep_of (options_of (pairs_with two_of_a_pair)) ≡ Some asks.All
  pub both : keep_of (options_of (pairs_with (codes "--keep=both" ∷ two_of_a_pair))) ≡ Some asks.All
  pub interleaved : pairs_refusal (options_of (pairs_with two_of_a_pair)) ≡ None
  pub no_pairs : has_pairs (options_of (select_with two_of_a_pair)) ≡ false
  pub reads : pairs_refusal (options_of (select_with two_of_a_pair)) ≡ None
  pub other_rule : first_bad_of_select (options_of (pairs_with (codes "--keep=one" ∷ two_of_a_pair)))
      ≡ Some option.Keep
  pub keep_alone : pairs_refusal (options_of (select_with (codes "--keep=both" ∷ two_of_a_pair)))
      ≡ Some refusal.KeepAlone
  pub output2_alone : pairs_refusal (options_of (select_with (codes "-oa" ∷ codes "--output2=b" ∷ two_of_a_pair)))
      ≡ Some refusal.Output2Alone
  pub no_output : pairs_refusal (options_of (pairs_with (codes "--output2=b" ∷ two_of_a_pair)))
      ≡ Some refusal.NoOutput
  pub no_output2 : pairs_refusal (options_of (pairs_with (codes "-oa" ∷ two_of_a_pair))) ≡ Some refusal.NoOutput2
  pub one_output : pairs_refusal (options_of (pairs_with (codes "-oa" ∷ codes "--output2=a" ∷ two_of_a_pair)))
      ≡ Some refusal.OneOutput
  pub no_file : pairs_refusal (options_of (pairs_with (codes "t.kct" ∷ []))) ≡ Some refusal.NotTwoFiles
  pub one_file : pairs_refusal (options_of (pairs_with (codes "t.kct" ∷ codes "r_1.fq" ∷ [])))
      ≡ Some refusal.NotTwoFiles
  pub three_files : pairs_refusal (options_of (pairs_with (codes "t.kct" ∷ two_of_a_pair)))
      ≡ Some refusal.NotTwoFiles

-- `kcount profile`, followed by these arguments
abbrev pub profile_with : List Text → List Text
profile_with options = codes "kcount" ∷ codes "profile" ∷ options

-- `kcount profile --min-qual-char 5 t.kct a.fa b.fa`
abbrev pub good_bases : List Text
good_bases = profile_with (codes "--min-qual-char"
    ∷ codes "5"
    ∷ codes "t.kct"
    ∷ codes "a.fa"
    ∷ codes "b.fa"
    ∷ [])

-- writes the counts along the records of two files, or of standard input, from a table
pub record ProfilesRecords : Type 0 where
  pub taken : fault_of kcount_app good_bases ≡ []
  pub command : option_map (λ met. met.0) (subcommand_of kcount_app good_bases) ≡ Some (codes "profile")
  pub good : first_bad_of_profile (options_of good_bases) ≡ None
  pub floor : floor_of (options_of good_bases) ≡ Some 53
  pub table : first_of (codes "table") (options_of good_bases) ≡ Some (codes "t.kct")
  pub files : all_of (codes "file") (options_of good_bases) ≡ Some (codes "a.fa" ∷ codes "b.fa" ∷ [])
  pub output : first_of (codes "output") (options_of (profile_with (codes "-o" ∷ codes "out" ∷ codes "t.kct" ∷ [])))
      ≡ Some (codes "out")
  pub alone : fault_of kcount_app (profile_with (codes "t.kct" ∷ [])) ≡ []
  pub alone_good : first_bad_of_profile (options_of (profile_with (codes "t.kct" ∷ []))) ≡ None
  pub usual_floor : floor_of (options_of (profile_with (codes "t.kct" ∷ []))) ≡ Some 33
  pub no_file : all_of (codes "file") (options_of (profile_with (codes "t.kct" ∷ []))) ≡ None
  pub no_table : fault_of kcount_app (profile_with []) ≡ MissingRequiredArgument ∷ []
  pub option_of_select : fault_of kcount_app (profile_with (codes "--stats" ∷ codes "t.kct" ∷ []))
      ≡ UnknownArgument ∷ []
  pub option_of_dump : fault_of kcount_app (profile_with (codes "-L" ∷ codes "2" ∷ codes "t.kct" ∷ []))
      ≡ UnknownArgument ∷ []
  pub two_bytes : first_bad_of_profile (options_of (profile_with (codes "--min-qual-char"
      ∷ codes "II" ∷ codes "t.kct" ∷ []))) ≡ Some option.MinQualChar

-- these are no command lines, or ask for the help or the version
pub record Refuses : Type 0 where
  pub no_command : fault_of kcount_app (codes "kcount" ∷ []) ≡ MissingSubcommand ∷ []
  pub other_command : fault_of kcount_app (codes "kcount" ∷ codes "frob" ∷ [])
      ≡ UnknownArgument ∷ InvalidSubcommand ∷ []
  pub other_option : fault_of kcount_app (count_with (codes "--frob" ∷ [])) ≡ UnknownArgument ∷ []
  pub option_of_dump : fault_of kcount_app (count_with (codes "-L" ∷ codes "2" ∷ [])) ≡ UnknownArgument ∷ []
  pub twice : fault_of kcount_app (count_with (codes "-m3" ∷ codes "-m4" ∷ [])) ≡ ArgumentConflict ∷ []
  pub help : fault_of kcount_app (count_with (codes "--help" ∷ [])) ≡ DisplayHelp ∷ []
  pub version : fault_of kcount_app (codes "kcount" ∷ codes "--version" ∷ []) ≡ DisplayVersion ∷ []
