-- How to count, and what to write: source, the table of options in the README.
use Rattle.std.specs.Prelude.{◌≡◌, ℕ, ◌^◌, ◌≤◌, Bool, false, min}
use Rattle.kc_kmer.specs.Rule.{CountingRule, unlisted_rule}
use Rattle.kc_report.specs.declared.dump.Dump.{Dump}
use Rattle.kc_command.specs.declared.settings.Print.{Print}
use Rattle.kc_command.specs.declared.settings.Print.TheVariants.{Table}

-- the length of the words; the slots with which the hash tables begin, over all stripes; the threads; whether both
-- strands count; the least quality byte that counts; the stripes; the positions of a batch; which report is written;
-- the form of a dump; and the greatest count with a line of its own in a histogram
pub record Settings : Type 0 where
  pub k : ℕ
  pub size : ℕ
  pub workers : ℕ
  pub both : Bool
  pub floor : ℕ
  pub stripes : ℕ
  pub batch : ℕ
  pub print : Print
  pub dump : Dump
  pub high : ℕ

-- a number of stripes that can be asked for: a power of two, at most 64
pub record AreStripes (stripes : ℕ) : Type 0 where
  pub power : (s : ℕ) × (stripes ≡ 2 ^ s)
  pub at_most : stripes ≤ 64

-- the limits of the settings; there are no more stripes than words
pub record IsWithinLimits (settings : Settings) : Type 0 where
  pub size_low : 1 ≤ settings.size
  pub size_high : settings.size ≤ 2 ^ 40
  pub workers_low : 1 ≤ settings.workers
  pub workers_high : settings.workers ≤ 64
  pub floor_low : 33 ≤ settings.floor
  pub floor_high : settings.floor ≤ 126
  pub stripes : AreStripes settings.stripes
  pub stripes_few : settings.stripes ≤ 4 ^ settings.k
  pub batch_low : 1 ≤ settings.batch
  pub batch_high : settings.batch ≤ 2 ^ 36
  pub lower : settings.dump.lower ≤ 2 ^ 62
  pub upper : settings.dump.upper ≤ 2 ^ 62
  pub high_low : 1 ≤ settings.high
  pub high_high : settings.high ≤ 10000000

-- the number of stripes, or the number of words of length k if that is lower
abbrev pub lowered : ℕ → ℕ → ℕ
lowered k stripes = min stripes (4 ^ k)

-- a dump of all rows, in lines
abbrev pub whole_dump : Dump
whole_dump = record { column = false; tab = false; lower = 0; upper = 2 ^ 62 }

-- the settings if no option but the length is given
abbrev pub defaults : ℕ → Settings
defaults k = record {
  k = k;
  size = 1000000;
  workers = 1;
  both = false;
  floor = 33;
  stripes = lowered k 16;
  batch = 65536;
  print = Table;
  dump = whole_dump;
  high = 10000;
}

-- the rule by which words count
abbrev pub rule_of : Settings → CountingRule
rule_of settings = unlisted_rule settings.k settings.both settings.floor
