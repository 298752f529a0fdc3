use Rattle.std.proofs.Common.{refl}
use Rattle.clap.proofs.OnLiterals.{clap_on_literals}
use Rattle.kc_command.specs.Laws.{ScalesNumbers, KeepsLimits, JudgesInOrder}
use Rattle.kc_command.proofs.command_laws.limits.Goals as goal

scales_numbers : ScalesNumbers
unfolding clap_on_literals
scales_numbers = record {
  thousands = refl;
  millions = refl;
  billions = refl;
  plain = refl;
  above = refl;
  scaled_above = refl;
  never_wraps = refl;
  nor_scaled = refl;
  below = refl;
  no_digits = refl;
  empty = refl;
  other_case = refl;
  two_suffixes = refl;
  signed = refl;
}

keeps_limits : KeepsLimits
unfolding clap_on_literals
keeps_limits = record {
  size = refl;
  threads = refl;
  most_threads = refl;
  no_suffix = refl;
  blank = refl;
  minus = refl;
  two_bytes = refl;
  stripes = refl;
  most_stripes = refl;
  batch = refl;
  print = refl;
  lower = refl;
  upper = refl;
  high = refl;
  greatest_high = refl;
}

judges_in_order : JudgesInOrder
unfolding clap_on_literals
judges_in_order = record { first = refl; mer_len = refl; absent = refl; good = refl; lowered_stripes = refl }

pub returns-clause-scaled : goal.returns-clause-scaled
returns-clause-scaled c = scales_numbers

pub returns-clause-kept : goal.returns-clause-kept
returns-clause-kept c = keeps_limits

pub returns-clause-order : goal.returns-clause-order
returns-clause-order c = judges_in_order
