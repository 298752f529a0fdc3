-- The form under which a word counts, as letters and as a number.
use Rattle.std.proofs.Common.{◌≡◌, ℕ, ◌^◌, ◌<◌, Bool, true, false, sym, ap, ◌∙◌, subst}
use Rattle.kc_kmer.specs.Rule.{CountingRule}
use Rattle.kc_kmer.specs.Word.{text, number, canonical, form}
use Rattle.kc_kmer.specs.Laws.{NumberOfText}

pub form-on_both : (rule : CountingRule) (k word found : ℕ) → rule.both ≡ true → k ≡ rule.k → text k found ≡ canonical (text k word)
    → text rule.k found ≡ form rule.both (text rule.k word)
unfolding form
form-on_both rule k word found on here lesser =
    subst (λ (k : ℕ). text k found ≡ form rule.both (text k word)) here (lesser ∙ ap (λ (both : Bool). form both (text k word)) (sym on))

pub form-on_one : (rule : CountingRule) (word : ℕ) → rule.both ≡ false → text rule.k word ≡ form rule.both (text rule.k word)
unfolding form
form-on_one rule word off = ap (λ (both : Bool). form both (text rule.k word)) (sym off)

pub form-from_letters : NumberOfText → (rule : CountingRule) (word found : ℕ) → found < 4 ^ rule.k → text rule.k found ≡ form rule.both (text rule.k word)
    → found ≡ number (form rule.both (text rule.k word))
form-from_letters law rule word found below letters = sym (law rule.k found below) ∙ ap number letters
