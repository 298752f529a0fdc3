use Rattle.std.proofs.Common.{vec_len, ◌≡◌, ◌<◌, ◌-◌, ◌*◌, ◌/◌, ◌%◌, ◌^◌, true, false, length, get_or, bit_and, ap, sym, ◌∙◌, arith}
use Rattle.std.proofs.lemmas.Bool.{cond-true, cond-false}
use Rattle.std.proofs.lemmas.Nat.{and_mask}
use Rattle.std.proofs.lemmas.List.{get_or_read_under}
use Rattle.kc_kmer.specs.Letter.{base}
use Rattle.kc_word.specs.Cutting.{unusable, is_piece_byte}
use Rattle.kc_word.specs.Runs.{is_in_runs}
use Rattle.kc_word.proofs.PackedLemmas.{length-codes_of, get_or-codes_of}
use Rattle.kc_word.proofs.PieceLemmas.{length-bytes_of, get_or-bytes_of, byte_at-letter}
use Rattle.kc_word.proofs.piece.Piece.base.Goals as goal

pub returns-then-is_in_runs-clause-value : goal.returns-then-is_in_runs-clause-value
returns-then-is_in_runs-clause-value c =
    let long = sym (length-bytes_of c.self.inside.bases c.self.inside.runs.items) ∙ ap length c.self.view_is in
    let below = c.requires in
    let inside : is_in_runs c.self.inside.runs.items c.args.i ≡ true =
    sym (c.is_in_runs.ensures ∙ ap (λ rs. is_in_runs rs c.args.i) (c.deref.ensures.value ∙ ap (λ p. p.runs.items) c.self-inside.view_is)) ∙ c.if-is_in_runs.true in
    sym (ap (λ bs. get_or bs c.args.i 0) (sym c.self.view_is)
    ∙ get_or-bytes_of c.self.inside.bases c.self.inside.runs.items c.args.i 0 (omega (arith, long, below))
    ∙ cond-true _ unusable (base (get_or c.self.inside.bases c.args.i 0)) inside)

pub index-requires : goal.index-requires
index-requires c =
    let long = sym (length-bytes_of c.self.inside.bases c.self.inside.runs.items) ∙ ap length c.self.view_is in
    let count = sym (length-codes_of c.self-inside.inside.0.0.numbers.items c.self-inside.inside.0.0.len) ∙ ap (λ p. length p.bases) c.self-inside.view_is in
    let exact = c.self-inside.invariant.exact in
    let numbers = c.self-inside.inside.0.0.numbers.ok.0 in
    let below = c.requires in
    omega (arith, long, count, exact, numbers, below)

pub returns-clause-value : goal.returns-clause-value
returns-clause-value c =
    let long = sym (length-bytes_of c.self.inside.bases c.self.inside.runs.items) ∙ ap length c.self.view_is in
    let count = sym (length-codes_of c.self-inside.inside.0.0.numbers.items c.self-inside.inside.0.0.len) ∙ ap (λ p. length p.bases) c.self-inside.view_is in
    let exact = c.self-inside.invariant.exact in
    let numbers = c.self-inside.inside.0.0.numbers.ok.0 in
    let below = c.requires in
    let within : c.args.i / 32 < vec_len c.self-inside.inside.0.0.numbers = omega (arith, long, count, exact, numbers, below) in
    let code : bit_and (c.index.result.now / 2 ^ (62 - 2 * (c.args.i % 32))) 3 ≡ get_or c.self.inside.bases c.args.i 0 =
    and_mask (c.index.result.now / 2 ^ (62 - 2 * (c.args.i % 32))) 2
    ∙ ap (λ w. w / 2 ^ (62 - 2 * (c.args.i % 32)) % 4)
    (get_or_read_under c.self-inside.inside.0.0.numbers.items (c.args.i / 32) _ _ 0 c.index.ensures within c.self-inside.inside.0.0.numbers.ok.0)
    ∙ sym (get_or-codes_of c.self-inside.inside.0.0.numbers.items c.self-inside.inside.0.0.len c.args.i 0 (omega (arith, long, count, below)))
    ∙ ap (λ p. get_or p.bases c.args.i 0) c.self-inside.view_is in
    let outside : is_in_runs c.self.inside.runs.items c.args.i ≡ false =
    sym (c.is_in_runs.ensures ∙ ap (λ rs. is_in_runs rs c.args.i) (c.deref.ensures.value ∙ ap (λ p. p.runs.items) c.self-inside.view_is)) ∙ c.if-is_in_runs.false in
    c.base_of.ensures ∙ ap base code
    ∙ sym (ap (λ bs. get_or bs c.args.i 0) (sym c.self.view_is)
    ∙ get_or-bytes_of c.self.inside.bases c.self.inside.runs.items c.args.i 0 (omega (arith, long, below))
    ∙ cond-false _ unusable (base (get_or c.self.inside.bases c.args.i 0)) outside)

pub returns-clause-letter : goal.returns-clause-letter
returns-clause-letter c =
    let long = sym (length-bytes_of c.self.inside.bases c.self.inside.runs.items) ∙ ap length c.self.view_is in
    let below = c.requires in
    ap is_piece_byte (returns-clause-value c
    ∙ ap (λ bs. get_or bs c.args.i 0) (sym c.self.view_is)
    ∙ get_or-bytes_of c.self.inside.bases c.self.inside.runs.items c.args.i 0 (omega (arith, long, below)))
    ∙ byte_at-letter c.self.inside.bases c.self.inside.runs.items c.args.i (c.self.invariant.below c.args.i)
