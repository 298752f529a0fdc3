-- The list of words of a setup, beside its rule, and when two setups are equal.
-- Source: this project's own.
use Rattle.std.specs.Prelude.{◌≡◌, ℕ, Bool, ◌&&◌, nat_eq, List, Option}
use Rattle.std.specs.Bool.{⊤, beq}
use Rattle.std.specs.Option.{option_map, option_eq, MatchOption}
use Rattle.std.specs.Cmp.Lexicographic.{pointwise}
use Rattle.std.specs.declared.sync.Arc.{Arc}
use Rattle.std.specs.declared.alloc.Global.{Global}
use Rattle.kc_kmer.specs.Rule.{CountingRule}
use Rattle.kc_word.specs.declared.only.Only.{Only}
use Rattle.kc_booking.specs.Setup.{StripeSetup}

-- the words of the list, if one is given
abbrev pub listed_words : Option (Arc Only Global) → Option (List ℕ)
listed_words only = option_map (λ list. list.value.words) only

-- the rule, with the words of the list
abbrev pub rule_with : CountingRule → Option (Arc Only Global) → CountingRule
rule_with rule only = record { k = rule.k; both = rule.both; floor = rule.floor; only = listed_words only }

-- the words of the list have the rule's length and its strands
abbrev pub IsForRule : CountingRule → Option (Arc Only Global) → Type 0
IsForRule rule only = MatchOption only ⊤ (λ list. (list.value.k ≡ rule.k) × (list.value.both ≡ rule.both))

-- whether two lists have the same words, or both are missing
abbrev pub are_same_words : Option (List ℕ) → Option (List ℕ) → Bool
are_same_words words others = option_eq (pointwise nat_eq) words others

-- whether two rules are equal, apart from their lists
abbrev pub counts_alike : CountingRule → CountingRule → Bool
counts_alike rule other =
    nat_eq rule.k other.k && (beq rule.both other.both && nat_eq rule.floor other.floor)

-- whether two setups are equal
abbrev pub is_same_setup : StripeSetup → StripeSetup → Bool
is_same_setup setup other =
    (counts_alike setup.rule other.rule
    && (pointwise nat_eq setup.hash other.hash && nat_eq setup.stripe_bits other.stripe_bits))
    && are_same_words setup.rule.only other.rule.only
