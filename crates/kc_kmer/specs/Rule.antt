-- The settings of a count.
-- Source: the options -m, -C, --min-qual-char and --if of the Jellyfish user guide.
use Rattle.std.specs.Prelude.{ℕ, Bool, true, List, Option, None, Some, nat_eq}
use Rattle.std.specs.List.{list_any}
use Rattle.std.specs.Option.{option_map_or}

-- the length of the words, whether both strands count, the least quality byte of a usable base, and the numbers of the
-- listed words if there is a list: then no other word counts
pub record CountingRule : Type 0 where
  pub k : ℕ
  pub both : Bool
  pub floor : ℕ
  pub only : Option (List ℕ)

-- a rule without a list
abbrev pub unlisted_rule : ℕ → Bool → ℕ → CountingRule
unlisted_rule k both floor = record { k = k; both = both; floor = floor; only = None }

-- words of k bases, of any quality
abbrev pub counting_all : ℕ → Bool → CountingRule
counting_all k both = unlisted_rule k both 33

-- the rule with this list of words, and the rule without a list
abbrev pub with_list : CountingRule → List ℕ → CountingRule
with_list rule words = record { k = rule.k; both = rule.both; floor = rule.floor; only = Some words }

abbrev pub without_list : CountingRule → CountingRule
without_list rule = unlisted_rule rule.k rule.both rule.floor

-- whether a word is listed, by its number; without a list, every word is
unfoldable pub is_listed : Option (List ℕ) → ℕ → Bool
is_listed only n = option_map_or (λ words. list_any (nat_eq n) words) only true
