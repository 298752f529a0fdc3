-- The lines of runs, one after another, and the name of a record.
use Rattle.std.proofs.Common.{◌≡◌, ℕ, Bool, true, false, not, List, [], ◌∷◌, ◌++◌, length, take, refl, ap, sym, ◌∙◌, subst, arith}
use Rattle.std.proofs.Common.{append_assoc, append-nil}
use Rattle.std.proofs.lemmas.List.{take_all}
use Rattle.std.proofs.lemmas.List.Sums.{prefix_len_is}
use Rattle.memchr.specs.Find.{Nowhere, NoneBefore, Passes, is_byte2}
use Rattle.kc_io.specs.Sinks.{Written, HasBegun, Drains}
use Rattle.kc_select.specs.declared.run_walk.CountRun.{CountRun}
use Rattle.kc_select.specs.Profiles.{is_blank, name_of, run_line, run_lines}
use Rattle.kc_select.proofs.TextLemmas.{drains_more, begins_more}

-- ---- the name

no_blank : (b : Bool) → ¬ (b ≡ true) → not b ≡ true
no_blank true other = absurd (other refl)
no_blank false other = refl

pub name-found : (title : List ℕ) (end : ℕ)
    → NoneBefore (Passes (is_byte2 32 9) title) 0 (length title) end × Passes (is_byte2 32 9) title end
    → take end title ≡ name_of title
name-found title end found =
    ap (λ n. take n title)
    (sym (prefix_len_is (λ byte. not (is_blank byte)) title end 0 (let high = found.0.high in omega (arith, high))
    (λ k below. no_blank _ (found.0.before k (omega arith) below)) (λ _. ap not found.1)))

pub name-whole : (title : List ℕ) → Nowhere (Passes (is_byte2 32 9) title) 0 (length title) → title ≡ name_of title
name-whole title none =
    sym (ap (λ n. take n title) (prefix_len_is (λ byte. not (is_blank byte)) title (length title) 0 (omega arith)
    (λ k below. no_blank _ (none k (omega arith) below)) (λ past. absurd (omega (arith, past))))
    ∙ take_all (length title) title (omega arith))

-- ---- the lines

pub lines-cons : (name : List ℕ) (run : CountRun) (rest : List CountRun)
    → run_lines name (run ∷ rest) ≡ run_line name run ++ run_lines name rest
unfolding run_lines
lines-cons name run rest = refl

-- a line was appended to the block, if its run and others were to be put
pub line-put : {old new : Written} {left : List ℕ} (block name : List ℕ) (run : CountRun) (runs rest : List CountRun)
    → runs ≡ run ∷ rest → Drains old new (block ++ run_line name run) left
    → Drains old new (block ++ run_lines name runs) (left ++ run_lines name rest)
line-put {old = old} {new = new} {left = left} block name run runs rest are d =
    subst (λ v. Drains old new v (left ++ run_lines name rest))
    (append_assoc block (run_line name run) (run_lines name rest)
    ∙ ap (λ v. block ++ v) (sym (lines-cons name run rest) ∙ ap (run_lines name) (sym are)))
    (drains_more d (run_lines name rest))

pub line-begun : {old new : Written} (block name : List ℕ) (run : CountRun) (runs rest : List CountRun)
    → runs ≡ run ∷ rest → HasBegun old new (block ++ run_line name run)
    → HasBegun old new (block ++ run_lines name runs)
line-begun {old = old} {new = new} block name run runs rest are h =
    subst (λ v. HasBegun old new v)
    (append_assoc block (run_line name run) (run_lines name rest)
    ∙ ap (λ v. block ++ v) (sym (lines-cons name run rest) ∙ ap (run_lines name) (sym are)))
    (begins_more h (run_lines name rest))

-- the text that is left in the block, written otherwise
pub drains_as : {old new : Written} {block left other : List ℕ} → other ≡ left → Drains old new block left
    → Drains old new block other
drains_as {old = old} {new = new} {block = block} same d = subst (λ v. Drains old new block v) (sym same) d

-- no run is left
pub lines-end : (name block : List ℕ) (runs : List CountRun) → runs ≡ [] → block ≡ block ++ run_lines name runs
unfolding run_lines
lines-end name block runs none = sym (ap (λ r. block ++ run_lines name r) none ∙ append-nil block)
