-- The contents of a header, field by field.
use Rattle.std.proofs.Common.{◌≡◌, ℕ, ◌-◌, ◌^◌, ◌<◌, List, ◌∷◌, ◌++◌, length, take, drop, ◌∙◌, ap, arith}
use Rattle.std.specs.Prelude.{decimal}
use Rattle.std.specs.Str.Parse.{digits_value}
use Rattle.std.proofs.lemmas.Fmt.{decimal_is_IsNumeral}
use Rattle.std.proofs.lemmas.List.{take-append-drop, length-drop, take_all}
use Rattle.kc_report.specs.TableRows.{HasDigits}
use Rattle.kc_report.proofs.FieldLemmas.{first_other, digits_end}

-- the number at the front of the bytes, and what follows it
pub number_told : {bytes : List ℕ} {number many : ℕ} → HasDigits bytes number many → (n stop : ℕ) (rest : List ℕ) → n < 2 ^ 64 → stop < 48
    → bytes ≡ decimal n ++ stop ∷ rest → (number ≡ n) × (take (length bytes - many) (drop many bytes) ≡ stop ∷ rest)
number_told {bytes} {number} {many} s n stop rest small low e =
    let numeral = decimal_is_IsNumeral n small in
    let parts = first_other stop low (take many bytes) (decimal n) (drop many bytes) rest s.digits numeral.0.1 (digits_end s)
    (take-append-drop many bytes ∙ e) in
    let value = s.value in
    let read : digits_value 10 (take many bytes) ≡ n = ap (digits_value 10) parts.0 ∙ numeral.1 in
    let left = length-drop many bytes in
    (omega (arith, value, read, small), take_all (length bytes - many) (drop many bytes) (omega (arith, left)) ∙ parts.1)
