-- The command line of kcount: the names of its commands, the options and arguments of each, and which arguments are
-- required: source, the help of the commands. The records are those of `clap`.
use Rattle.std.specs.Prelude.{◌≡◌, ◌⊎◌, [], ◌∷◌, Some, true, false, codes}
use Rattle.clap.specs.Simple.{new_shape}
use Rattle.clap.specs.Words.{App, Rule, Shape, Text, new_rule}
use Rattle.clap.specs.declared.builder.action.ArgAction.TheVariants.{Append}
use Rattle.kc_command.specs.Options.{batch_option, canonical_option, column_option, counts_option, explain_option}
use Rattle.kc_command.specs.Options.{file_option, high_option, invert_option, keep_option, lower_count_option}
use Rattle.kc_command.specs.Options.{matrix_option, max_count_option, mer_len_option, min_count_option}
use Rattle.kc_command.specs.Options.{min_qual_char_option, min_share_option, only_option, output_option, output2_option}
use Rattle.kc_command.specs.Options.{pairs_option, print_option, size_option, solid_option, stats_option}
use Rattle.kc_command.specs.Options.{stripes_option, tab_option, take_option, threads_option, upper_count_option}
use Rattle.kc_command.specs.Options.{with_short}

-- an argument that is given at most once
abbrev pub one_argument : Text → Rule
one_argument name = record (new_rule name) { value_names = 1 }

-- an argument that may be given any number of times
abbrev pub several_arguments : Text → Rule
several_arguments name = record (new_rule name) { action = Some Append; value_names = 1 }

-- a required argument
abbrev pub required : Rule → Rule
required argument = record argument { required = true }

-- FILE, any number of times
abbrev pub files_argument : Rule
files_argument = several_arguments (codes "file")

-- FILE, at most once
abbrev pub file_argument : Rule
file_argument = one_argument (codes "file")

-- TABLE, a required file
abbrev pub table_argument : Rule
table_argument = required (one_argument (codes "table"))

-- FIRST, a required file
abbrev pub first_argument : Rule
first_argument = required (one_argument (codes "first"))

-- SECOND, a required file, and any number of files more
abbrev pub second_argument : Rule
second_argument = required (several_arguments (codes "second"))

-- READS, a required file
abbrev pub reads_argument : Rule
reads_argument = required (one_argument (codes "first"))

-- ASSEMBLY, a required file
abbrev pub assembly_argument : Rule
assembly_argument = required (one_argument (codes "second"))

-- WORD, any number of times
abbrev pub words_argument : Rule
words_argument = several_arguments (codes "word")

-- `kcount count`
abbrev pub count_shape : Shape
count_shape = record (new_shape (codes "count")) {
  rules = mer_len_option
      ∷ size_option
      ∷ threads_option
      ∷ canonical_option
      ∷ output_option
      ∷ min_qual_char_option
      ∷ stripes_option
      ∷ batch_option
      ∷ print_option
      ∷ column_option
      ∷ tab_option
      ∷ lower_count_option
      ∷ upper_count_option
      ∷ high_option
      ∷ only_option
      ∷ explain_option
      ∷ files_argument
      ∷ [];
}

-- `kcount dump`, which has short forms, `-c`, `-t`, `-L` and `-U`, for options that have none in `count`
abbrev pub dump_shape : Shape
dump_shape = record (new_shape (codes "dump")) {
  rules = with_short 99 column_option
      ∷ with_short 116 tab_option
      ∷ with_short 76 lower_count_option
      ∷ with_short 85 upper_count_option
      ∷ output_option
      ∷ explain_option
      ∷ file_argument
      ∷ [];
}

-- `kcount histo`
abbrev pub histo_shape : Shape
histo_shape = record (new_shape (codes "histo")) {
  rules = high_option ∷ output_option ∷ explain_option ∷ file_argument ∷ [];
}

-- `kcount stats`
abbrev pub stats_shape : Shape
stats_shape = record (new_shape (codes "stats")) { rules = output_option ∷ explain_option ∷ file_argument ∷ [] }

-- `kcount query`, which takes a table and any number of words
abbrev pub query_shape : Shape
query_shape = record (new_shape (codes "query")) {
  rules = file_option ∷ output_option ∷ explain_option ∷ table_argument ∷ words_argument ∷ [];
}

-- `kcount merge`, which takes two files or more
abbrev pub merge_shape : Shape
merge_shape = record (new_shape (codes "merge")) {
  rules = output_option ∷ explain_option ∷ first_argument ∷ second_argument ∷ [];
}

-- `kcount intersect`, which takes two files or more
abbrev pub intersect_shape : Shape
intersect_shape = record (new_shape (codes "intersect")) {
  rules = take_option ∷ output_option ∷ explain_option ∷ first_argument ∷ second_argument ∷ [];
}

-- `kcount subtract`, which takes two files or more
abbrev pub subtract_shape : Shape
subtract_shape = record (new_shape (codes "subtract")) {
  rules = counts_option ∷ output_option ∷ explain_option ∷ first_argument ∷ second_argument ∷ [];
}

-- `kcount filter`, which has the bounds of `dump`, with the same short forms
abbrev pub filter_shape : Shape
filter_shape = record (new_shape (codes "filter")) {
  rules = with_short 76 lower_count_option
      ∷ with_short 85 upper_count_option
      ∷ output_option
      ∷ explain_option
      ∷ file_argument
      ∷ [];
}

-- `kcount compare`, which takes two files
abbrev pub compare_shape : Shape
compare_shape = record (new_shape (codes "compare")) {
  rules = solid_option
      ∷ matrix_option
      ∷ high_option
      ∷ output_option
      ∷ explain_option
      ∷ reads_argument
      ∷ assembly_argument
      ∷ [];
}

-- `kcount select`, which takes a table and any number of files
abbrev pub select_shape : Shape
select_shape = record (new_shape (codes "select")) {
  rules = min_count_option
      ∷ max_count_option
      ∷ min_share_option
      ∷ min_qual_char_option
      ∷ invert_option
      ∷ pairs_option
      ∷ keep_option
      ∷ stats_option
      ∷ output_option
      ∷ output2_option
      ∷ explain_option
      ∷ table_argument
      ∷ files_argument
      ∷ [];
}

-- `kcount profile`, which takes a table and any number of files
abbrev pub profile_shape : Shape
profile_shape = record (new_shape (codes "profile")) {
  rules = min_qual_char_option ∷ output_option ∷ explain_option ∷ table_argument ∷ files_argument ∷ [];
}

-- `kcount` without its commands
abbrev pub bare_app : App
bare_app = record {
  top = record (new_shape (codes "kcount")) { has_version = true; subcommand_required = true };
  subs = [];
}

-- `kcount`, which has a version and requires a command
abbrev pub kcount_app : App
kcount_app = record {
  top = record (new_shape (codes "kcount")) { has_version = true; subcommand_required = true; is_leaf = false };
  subs = count_shape
      ∷ dump_shape
      ∷ histo_shape
      ∷ stats_shape
      ∷ query_shape
      ∷ merge_shape
      ∷ intersect_shape
      ∷ subtract_shape
      ∷ filter_shape
      ∷ compare_shape
      ∷ select_shape
      ∷ profile_shape
      ∷ [];
}

-- the name of a command
abbrev pub IsCommand : Text → Type 0
IsCommand name = (name ≡ codes "count")
    ⊎ (name ≡ codes "dump")
    ⊎ (name ≡ codes "histo")
    ⊎ (name ≡ codes "stats")
    ⊎ (name ≡ codes "query")
    ⊎ (name ≡ codes "merge")
    ⊎ (name ≡ codes "intersect")
    ⊎ (name ≡ codes "subtract")
    ⊎ (name ≡ codes "filter")
    ⊎ (name ≡ codes "compare")
    ⊎ (name ≡ codes "select")
    ⊎ (name ≡ codes "profile")
