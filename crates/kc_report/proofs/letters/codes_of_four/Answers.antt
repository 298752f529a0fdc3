use Rattle.std.proofs.Common.{◌≡◌, ℕ, ◌*◌, ◌/◌, ◌%◌, ◌<◌, bit_and, refl, ap, sym, ◌∙◌}
use Rattle.std.specs.List.{range_with_len}
use lib.Bits.{bit_xor}
use Rattle.kc_kmer.specs.Letter.{base}
use Rattle.kc_kmer.proofs.TableLemmas.{table_at}
use Rattle.kc_report.specs.TableRows.{four_letters}
use Rattle.kc_report.proofs.letters.codes_of_four.Goals as goal

abbrev codes_in : ℕ → ℕ
codes_in letters = bit_and (bit_xor (letters / 2) (letters / 4)) 50529027 * 1074791425 % 4294967296 / 16777216

-- the codes of each four letters, one by one
inverse : (codes : ℕ) → codes < 256 → codes_in (four_letters codes) ≡ codes
unfolding base
inverse codes h =
    sym (table_at (λ codes. codes_in (four_letters codes)) (range_with_len 0 256) 256 refl codes h)
    ∙ table_at (λ codes. codes) (range_with_len 0 256) 256 refl codes h

pub returns-clause-inverse : goal.returns-clause-inverse
returns-clause-inverse c = λ codes below e. ap codes_in e ∙ inverse codes below
