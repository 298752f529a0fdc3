use Rattle.std.proofs.Common.{refl}
use Rattle.clap.proofs.OnLiterals.{clap_on_literals}
use Rattle.kc_command.specs.Laws.{ComparesTables, CountsBothStrands, CountsFiles, CountsListedWords, FiltersTables, IntersectsTables, LooksUpWords, MergesTables, ProfilesRecords, ReadsTables, Refuses, SelectsPairs, SelectsReads, SubtractsTables}
use Rattle.kc_command.proofs.command_laws.command_lines.Goals as goal

counts_both_strands : CountsBothStrands
unfolding clap_on_literals
counts_both_strands = record {
  taken = refl;
  good = refl;
  mer_len = refl;
  canonical = refl;
  batch = refl;
  print = refl;
  size = refl;
  threads = refl;
  floor = refl;
  stripes = refl;
  column = refl;
  lower = refl;
  upper = refl;
  high = refl;
  files = refl;
}

counts_files : CountsFiles
unfolding clap_on_literals
counts_files = record { taken = refl; files = refl; output = refl }

counts_listed_words : CountsListedWords
unfolding clap_on_literals
counts_listed_words = record {
  taken = refl;
  good = refl;
  only = refl;
  files = refl;
  absent = refl;
  empty_taken = refl;
  empty = refl;
  empty_good = refl;
  attached = refl;
  no_name = refl;
  twice = refl;
  of_dump = refl;
}

reads_tables : ReadsTables
unfolding clap_on_literals
reads_tables = record {
  taken = refl;
  good = refl;
  column = refl;
  tab = refl;
  lower = refl;
  upper = refl;
  file = refl;
  second_file = refl;
  high = refl;
}

looks_up_words : LooksUpWords
unfolding clap_on_literals
looks_up_words = record {
  taken = refl;
  command = refl;
  list = refl;
  table = refl;
  no_word = refl;
  list_is_enough = refl;
  both_taken = refl;
  table_before = refl;
  word_before = refl;
  list_behind = refl;
  both_are_enough = refl;
  words_taken = refl;
  words = refl;
  table_of_words = refl;
  no_list = refl;
  words_are_enough = refl;
  one_word_is_enough = refl;
  empty_word_is_enough = refl;
  nothing_taken = refl;
  nothing = refl;
  output = refl;
  empty_name_taken = refl;
  empty_name = refl;
  no_name = refl;
  twice = refl;
  no_table = refl;
  of_dump = refl;
}

merges_tables : MergesTables
unfolding clap_on_literals
merges_tables = record {
  taken = refl;
  command = refl;
  first = refl;
  second = refl;
  tables = refl;
  no_output = refl;
  output_taken = refl;
  output = refl;
  first_before = refl;
  second_behind = refl;
  long_output = refl;
  no_table = refl;
  one_table = refl;
  three_taken = refl;
  three = refl;
  apart = refl;
  nameless = refl;
  most_taken = refl;
  not_too_many = refl;
  more_taken = refl;
  too_many = refl;
  other_option = refl;
}

intersects_tables : IntersectsTables
unfolding clap_on_literals
intersects_tables = record {
  taken = refl;
  command = refl;
  good = refl;
  greatest = refl;
  tables = refl;
  output = refl;
  alone = refl;
  usual = refl;
  least = refl;
  total = refl;
  first = refl;
  other_name = refl;
  no_name = refl;
  twice = refl;
  no_table = refl;
  one_table = refl;
  option_of_subtract = refl;
}

subtracts_tables : SubtractsTables
unfolding clap_on_literals
subtracts_tables = record {
  taken = refl;
  command = refl;
  counts = refl;
  tables = refl;
  alone = refl;
  usual = refl;
  output = refl;
  with_value = refl;
  no_table = refl;
  one_table = refl;
  option_of_intersect = refl;
}

filters_tables : FiltersTables
unfolding clap_on_literals
filters_tables = record {
  taken = refl;
  command = refl;
  good = refl;
  lower = refl;
  upper = refl;
  file = refl;
  alone = refl;
  usual_lower = refl;
  usual_upper = refl;
  no_file = refl;
  output = refl;
  first_of_two = refl;
  above = refl;
  second_file = refl;
  option_of_dump = refl;
}

compares_tables : ComparesTables
unfolding clap_on_literals
compares_tables = record {
  taken = refl;
  command = refl;
  good = refl;
  solid = refl;
  matrix = refl;
  high = refl;
  tables = refl;
  alone = refl;
  usual_solid = refl;
  usual_high = refl;
  no_matrix = refl;
  output = refl;
  least_solid = refl;
  greatest_solid = refl;
  above = refl;
  high_without_matrix = refl;
  first_of_two = refl;
  with_value = refl;
  no_table = refl;
  one_table = refl;
  third_table = refl;
  option_of_select = refl;
}

selects_reads : SelectsReads
unfolding clap_on_literals
selects_reads = record {
  taken = refl;
  good = refl;
  least = refl;
  most = refl;
  share = refl;
  inverted = refl;
  table = refl;
  files = refl;
  alone = refl;
  usual_least = refl;
  usual_most = refl;
  usual_share = refl;
  told = refl;
  no_file = refl;
  no_table = refl;
  share_above = refl;
  first_of_two = refl;
  second_of_two = refl;
}

selects_pairs : SelectsPairs
unfolding clap_on_literals
selects_pairs = record {
  taken = refl;
  good = refl;
  pairs = refl;
  any = refl;
  output = refl;
  output2 = refl;
  files = refl;
  together = refl;
  usual = refl;
  both = refl;
  interleaved = refl;
  no_pairs = refl;
  reads = refl;
  other_rule = refl;
  keep_alone = refl;
  output2_alone = refl;
  no_output = refl;
  no_output2 = refl;
  one_output = refl;
  no_file = refl;
  one_file = refl;
  three_files = refl;
}

profiles_records : ProfilesRecords
unfolding clap_on_literals
profiles_records = record {
  taken = refl;
  command = refl;
  good = refl;
  floor = refl;
  table = refl;
  files = refl;
  output = refl;
  alone = refl;
  alone_good = refl;
  usual_floor = refl;
  no_file = refl;
  no_table = refl;
  option_of_select = refl;
  option_of_dump = refl;
  two_bytes = refl;
}

refuses : Refuses
unfolding clap_on_literals
refuses = record {
  no_command = refl;
  other_command = refl;
  other_option = refl;
  option_of_dump = refl;
  twice = refl;
  help = refl;
  version = refl;
}

pub returns-clause-counts : goal.returns-clause-counts
returns-clause-counts c = counts_both_strands

pub returns-clause-files : goal.returns-clause-files
returns-clause-files c = counts_files

pub returns-clause-listed : goal.returns-clause-listed
returns-clause-listed c = counts_listed_words

pub returns-clause-tables : goal.returns-clause-tables
returns-clause-tables c = reads_tables

pub returns-clause-looks_up : goal.returns-clause-looks_up
returns-clause-looks_up c = looks_up_words

pub returns-clause-merges : goal.returns-clause-merges
returns-clause-merges c = merges_tables

pub returns-clause-intersects : goal.returns-clause-intersects
returns-clause-intersects c = intersects_tables

pub returns-clause-subtracts : goal.returns-clause-subtracts
returns-clause-subtracts c = subtracts_tables

pub returns-clause-filters : goal.returns-clause-filters
returns-clause-filters c = filters_tables

pub returns-clause-compares : goal.returns-clause-compares
returns-clause-compares c = compares_tables

pub returns-clause-refuses : goal.returns-clause-refuses
returns-clause-refuses c = refuses

pub returns-clause-selects : goal.returns-clause-selects
returns-clause-selects c = selects_reads

pub returns-clause-profiles : goal.returns-clause-profiles
returns-clause-profiles c = profiles_records

pub returns-clause-pairs : goal.returns-clause-pairs
returns-clause-pairs c = selects_pairs
