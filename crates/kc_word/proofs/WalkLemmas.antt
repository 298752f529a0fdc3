-- The words of a piece that are left, byte by byte, and the pieces that are left after it.
use Rattle.std.proofs.Common.{◌≡◌, ℕ, zero, suc, ◌+◌, ◌-◌, ◌^◌, ◌<◌, ◌≤◌, min, ⊎_elim, cond, List, [], ◌∷◌, ◌++◌, length, get_or, take, drop, Option, None, Some, IfSome, IfNone, option_to_list, refl, ap, sym, ◌∙◌, subst, arith}
use Rattle.std.proofs.lemmas.Bool.{cases_lt}
use Rattle.std.proofs.lemmas.List.{take_more, take_all, drop_at, drop_all, drop_more, append-nil, append_assoc, append_cancel_left}
use Rattle.kc_fastx.specs.Reads.{read_of}
use Rattle.kc_kmer.specs.Rule.{CountingRule}
use Rattle.kc_kmer.specs.Occurrences.{words_in, words_of}
use Rattle.kc_word.specs.Cutting.{as_reads}
use Rattle.kc_word.specs.Walking.{last_window, IsRolled, Walking, words_left, IsWalking, IsNext, IsTaken, at_front, behind_next}
use Rattle.kc_word.specs.declared.rolled.Rolled.{Rolled}
use Rattle.kc_word.proofs.Windows.{word_of, counted_word, counted_word-unlisted}
use Rattle.kc_word.proofs.Rolling.{RollStep, IsRolled-more, word_of-rolled, word_of-broken}
use Rattle.kc_word.proofs.Counting.{words_in-none, words_in_push, words_of-none}

-- ---- the words that are left

words_in-more : (rule : CountingRule) (bytes : List ℕ) (i : ℕ) → i < length bytes
    → words_in rule (read_of (take (i + 1) bytes) None)
    ≡ words_in rule (read_of (take i bytes) None) ++ option_to_list (counted_word rule (last_window rule.k (take (i + 1) bytes)))
words_in-more rule bytes i h =
    let more = take_more bytes i 0 h in
    ap (λ xs. words_in rule (read_of xs None)) more ∙ words_in_push rule (take i bytes) (get_or bytes i 0)
    ∙ ap (λ xs. words_in rule (read_of (take i bytes) None) ++ option_to_list (counted_word rule (last_window rule.k xs))) (sym more)

-- the words of a prefix of the bytes are a prefix of the words
front_of-words : (rule : CountingRule) (bytes : List ℕ) (m i : ℕ) → i + m ≡ length bytes
    → (rest : List ℕ) × (words_in rule (read_of bytes None) ≡ words_in rule (read_of (take i bytes) None) ++ rest)
front_of-words rule bytes zero i e =
    ([], ap (λ xs. words_in rule (read_of xs None)) (sym (take_all i bytes (omega (arith, e)))) ∙ sym (append-nil (words_in rule (read_of (take i bytes) None))))
front_of-words rule bytes (suc m) i e =
    let next = front_of-words rule bytes m (i + 1) (omega (arith, e)) in
    let more = words_in-more rule bytes i (omega (arith, e)) in (
      option_to_list (counted_word rule (last_window rule.k (take (i + 1) bytes))) ++ next.0,
      next.1 ∙ ap (λ xs. xs ++ next.0) more
          ∙ append_assoc (words_in rule (read_of (take i bytes) None)) (option_to_list (counted_word rule (last_window rule.k (take (i + 1) bytes)))) next.0,
    )

words_left-split : (rule : CountingRule) (bytes : List ℕ) (i : ℕ) → i ≤ length bytes
    → words_in rule (read_of bytes None)
    ≡ words_in rule (read_of (take i bytes) None) ++ words_left (record { rule = rule; bytes = bytes; taken = i })
unfolding words_left
words_left-split rule bytes i h =
    let front = front_of-words rule bytes (length bytes - i) i (omega (arith, h)) in
    front.1 ∙ ap (λ xs. words_in rule (read_of (take i bytes) None) ++ xs)
    (sym (ap (drop (length (words_in rule (read_of (take i bytes) None)))) front.1
    ∙ drop_at (words_in rule (read_of (take i bytes) None)) front.0 (length (words_in rule (read_of (take i bytes) None))) refl))

pub words_left-step : (rule : CountingRule) (bytes : List ℕ) (i : ℕ) → i < length bytes
    → words_left (record { rule = rule; bytes = bytes; taken = i })
    ≡ option_to_list (counted_word rule (last_window rule.k (take (i + 1) bytes)))
    ++ words_left (record { rule = rule; bytes = bytes; taken = i + 1 })
words_left-step rule bytes i h =
    append_cancel_left (words_in rule (read_of (take i bytes) None)) _ _
    (sym (words_left-split rule bytes i (omega (arith, h))) ∙ words_left-split rule bytes (i + 1) (omega (arith, h))
    ∙ ap (λ xs. xs ++ words_left (record { rule = rule; bytes = bytes; taken = i + 1 })) (words_in-more rule bytes i h)
    ∙ append_assoc (words_in rule (read_of (take i bytes) None)) (option_to_list (counted_word rule (last_window rule.k (take (i + 1) bytes)))) _)

pub words_left-start : (rule : CountingRule) (bytes : List ℕ) → 1 ≤ rule.k
    → words_left (record { rule = rule; bytes = bytes; taken = 0 }) ≡ words_in rule (read_of bytes None)
unfolding words_left
words_left-start rule bytes some =
    ap (λ xs. drop (length xs) (words_in rule (read_of bytes None))) (words_in-none rule some)

pub words_left-end : (walking : Walking) → length walking.bytes ≤ walking.taken → words_left walking ≡ []
unfolding words_left
words_left-end walking h =
    ap (λ xs. drop (length (words_in walking.rule (read_of xs None))) (words_in walking.rule (read_of walking.bytes None))) (take_all walking.taken walking.bytes h)
    ∙ drop_all (length (words_in walking.rule (read_of walking.bytes None))) (words_in walking.rule (read_of walking.bytes None)) (omega arith)

-- ---- one more byte

pub IsWalking-none : (rule : CountingRule) (bytes : List ℕ) (now : Rolled) → now.rule ≡ rule → rule.only ≡ None
    → IsRolled rule.k [] now → now.run ≡ 0 → length bytes < 2 ^ 64 → IsWalking (at_front rule bytes) now
IsWalking-none rule bytes now same none rolled run fits = record {
  rule = same;
  unlisted = none;
  rolled = rolled;
  short = omega (arith, run);
  within = omega arith;
  fits = fits;
}

-- the numbers and the run after the next byte
pub IsWalking-more : (walking : Walking) (old new : Rolled) (next : ℕ) → 1 ≤ walking.rule.k → IsNext walking old next
    → new.rule ≡ old.rule → RollStep walking.rule.k next old new → IsWalking (behind_next walking) new
IsWalking-more walking old new next some here same step =
    let before = here.walks.short in
    let left = here.left in
    record {
      rule = same ∙ here.walks.rule;
      unlisted = here.walks.unlisted;
      rolled = subst (λ xs. IsRolled walking.rule.k xs new) (sym (take_more walking.bytes walking.taken 0 here.left))
          (IsRolled-more walking.rule.k (take walking.taken walking.bytes) (get_or walking.bytes walking.taken 0) next old new some here.code step
          here.walks.rolled);
      short =
          ⊎_elim (λ l. let one = step.grows l in omega (arith, before, one)) (λ l. let none = step.breaks l in omega (arith, before, none))
          (cases_lt next 4);
      within = omega (arith, left);
      fits = here.walks.fits;
    }

-- the words that are left before the next byte, if its window has this word, or none
words-taken : (walking : Walking) (now : Rolled) (word : Option ℕ) → walking.taken < length walking.bytes → IsWalking (behind_next walking) now
    → word_of walking.rule.both (last_window walking.rule.k (take (walking.taken + 1) walking.bytes)) ≡ word → IsTaken walking now word
words-taken walking now word left walks is = record {
  walks = walks;
  words = words_left-step walking.rule walking.bytes walking.taken left
      ∙ ap (λ o. option_to_list o ++ words_left (behind_next walking))
      (counted_word-unlisted walking.rule (last_window walking.rule.k (take (walking.taken + 1) walking.bytes)) walks.unlisted ∙ is);
}

-- it ends a word if the run covers one
pub word-taken : (walking : Walking) (now : Rolled) (word : ℕ) → walking.taken < length walking.bytes → IsWalking (behind_next walking) now
    → walking.rule.k ≤ now.run → word ≡ cond walking.rule.both (min now.backward now.forward) now.forward → IsTaken walking now (Some word)
word-taken walking now word left walks h e =
    words-taken walking now (Some word) left walks
    (word_of-rolled walking.rule.k walking.rule.both (take (walking.taken + 1) walking.bytes) now walks.rolled h ∙ ap Some (sym e))

pub no-word-taken : (walking : Walking) (now : Rolled) → walking.taken < length walking.bytes → IsWalking (behind_next walking) now
    → now.run < walking.rule.k → IsTaken walking now None
no-word-taken walking now left walks h =
    words-taken walking now None left walks
    (word_of-broken walking.rule.k walking.rule.both (take (walking.taken + 1) walking.bytes) now walks.rolled h)

-- the word that was taken, if one was, comes first
pub taken-some : (word : Option ℕ) (before behind : List ℕ) → before ≡ option_to_list word ++ behind → IfSome word (λ w. before ≡ w ∷ behind)
taken-some (Some word) before behind is = is
taken-some None before behind is = tt

pub taken-none : (word : Option ℕ) (before behind : List ℕ) → before ≡ option_to_list word ++ behind → IfNone word (behind ≡ before)
taken-none (Some word) before behind is = tt
taken-none None before behind is = sym is

-- ---- piece after piece

-- the words of the pieces from an index on are those of the first of them and those of the pieces after it
pub words_of-at : (rule : CountingRule) (pieces : List (List ℕ)) (i : ℕ) (left : List ℕ) → i < length pieces
    → left ≡ words_in rule (read_of (get_or pieces i []) None)
    → left ++ words_of rule (as_reads (drop (i + 1) pieces)) ≡ words_of rule (as_reads (drop i pieces))
unfolding words_of
words_of-at rule pieces i left h e =
    ap (λ xs. xs ++ words_of rule (as_reads (drop (i + 1) pieces))) e
    ∙ sym (ap (λ ps. words_of rule (as_reads ps)) (drop_more pieces i [] h))

pub words_of-past : (rule : CountingRule) (pieces : List (List ℕ)) (i : ℕ) → length pieces ≤ i → words_of rule (as_reads (drop i pieces)) ≡ []
words_of-past rule pieces i h = ap (λ ps. words_of rule (as_reads ps)) (drop_all i pieces h) ∙ words_of-none rule
