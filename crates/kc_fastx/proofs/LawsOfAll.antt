-- The reads of a list of sources: every list has one result, and one more source adds its reads or its fault.
use Rattle.std.proofs.Common.{◌≡◌, ℕ, ◌+◌, List, [], ◌∷◌, ◌++◌, length, refl, sym, ap, ◌∙◌, arith, Ok, Err, Result}
use Rattle.std.proofs.lemmas.List.{append_assoc, append-nil}
use Rattle.kc_fastx.specs.declared.read_faults.FastxFault.{FastxFault}
use Rattle.kc_fastx.specs.Reads.{Read}
use Rattle.kc_fastx.specs.Parsing.{HasReads, HasFault, IsReadsOf, HaveReads, HaveFault, AreReadsOf}
use Rattle.kc_fastx.proofs.LawsAnswers.{answer}
use Rattle.kc_fastx.proofs.LawsPlain.{reads_of, reads_of-answers}

-- one more source, with reads
pub HaveReads-push : (sources : List (List ℕ)) (reads : List Read) (bytes : List ℕ) (more : List Read) → HaveReads sources reads → HasReads bytes more
    → HaveReads (sources ++ bytes ∷ []) (reads ++ more)
HaveReads-push [] reads bytes more e h = (more, [], h, refl, ap (λ rs. rs ++ more) e ∙ sym (append-nil more))
HaveReads-push (first ∷ sources) reads bytes more k h = (
  k.0,
  k.1 ++ more,
  k.2,
  HaveReads-push sources k.1 bytes more k.3 h,
  ap (λ rs. rs ++ more) k.4 ∙ append_assoc k.0 k.1 more,
)

-- one more source, with a fault, whatever follows it
pub HaveFault-here : (sources : List (List ℕ)) (reads : List Read) (bytes : List ℕ) (after : List (List ℕ)) (fault : FastxFault) → HaveReads sources reads
    → HasFault bytes fault → HaveFault (sources ++ bytes ∷ after) (length sources + 1) fault
HaveFault-here sources reads bytes after fault k h =
    record { before = sources; here = bytes; after = after; split = refl; counted = refl; had = reads; earlier = k; fails = h }

-- a source with reads before others
fault-behind : (bytes : List ℕ) (first : List Read) → HasReads bytes first → (sources : List (List ℕ)) (number : ℕ) (fault : FastxFault) → HaveFault sources number fault
    → HaveFault (bytes ∷ sources) (number + 1) fault
fault-behind bytes first h sources number fault k = record {
  before = bytes ∷ k.before;
  here = k.here;
  after = k.after;
  split = ap (λ ss. bytes ∷ ss) k.split;
  counted = omega (arith, k.counted);
  had = first ++ k.had;
  earlier = (first, k.had, h, k.earlier, refl);
  fails = k.fails;
}

abbrev Answer : List (List ℕ) → Type 0
Answer sources = (answer : Result (List Read) (ℕ × FastxFault)) × AreReadsOf sources answer

with_first : (bytes : List ℕ) (sources : List (List ℕ)) (one : Result (List Read) FastxFault) → IsReadsOf bytes one
    → (others : Result (List Read) (ℕ × FastxFault)) → AreReadsOf sources others → Answer (bytes ∷ sources)
with_first bytes sources (Err fault) h others k = (Err (1, fault), HaveFault-here [] [] bytes sources fault refl h)
with_first bytes sources (Ok first) h (Ok reads) k = (Ok (first ++ reads), (first, reads, h, k, refl))
with_first bytes sources (Ok first) h (Err (number, fault)) k = (Err (number + 1, fault), fault-behind bytes first h sources number fault k)

pub answer_of_all : (sources : List (List ℕ)) → (answer : Result (List Read) (ℕ × FastxFault)) × AreReadsOf sources answer
answer_of_all [] = (Ok [], refl)
answer_of_all (bytes ∷ sources) =
    let one = answer bytes in let others = answer_of_all sources in with_first bytes sources one.0 one.1 others.0 others.1

-- the plain program for a list of sources
joined : Result (List Read) FastxFault → Result (List Read) (ℕ × FastxFault) → Result (List Read) (ℕ × FastxFault)
joined (Err fault) others = Err (1, fault)
joined (Ok first) (Ok others) = Ok (first ++ others)
joined (Ok first) (Err (number, fault)) = Err (number + 1, fault)

all_of : List (List ℕ) → Result (List Read) (ℕ × FastxFault)
all_of [] = Ok []
all_of (bytes ∷ sources) = joined (reads_of bytes) (all_of sources)

all_of-reads : (sources : List (List ℕ)) (reads : List Read) → HaveReads sources reads → all_of sources ≡ Ok reads
unfolding all_of joined
all_of-reads [] reads e = ap Ok (sym e)
all_of-reads (bytes ∷ sources) reads (first, others, h, k, e) =
    ap (λ one. joined one (all_of sources)) (reads_of-answers bytes (Ok first) h) ∙ ap (joined (Ok first)) (all_of-reads sources others k) ∙ ap Ok (sym e)

all_of-fault : (before : List (List ℕ)) (bytes : List ℕ) (after : List (List ℕ)) (reads : List Read) (fault : FastxFault) → HaveReads before reads → HasFault bytes fault
    → all_of (before ++ bytes ∷ after) ≡ Err (length before + 1, fault)
unfolding all_of joined
all_of-fault [] bytes after reads fault k h = ap (λ one. joined one (all_of after)) (reads_of-answers bytes (Err fault) h)
all_of-fault (source ∷ before) bytes after reads fault (first, others, own, k, e) h =
    ap (λ one. joined one (all_of (before ++ bytes ∷ after))) (reads_of-answers source (Ok first) own)
    ∙ ap (joined (Ok first)) (all_of-fault before bytes after others fault k h)
    ∙ ap (λ n. Err (n, fault)) (omega arith)

all_of-answers : (sources : List (List ℕ)) (answer : Result (List Read) (ℕ × FastxFault)) → AreReadsOf sources answer → all_of sources ≡ answer
all_of-answers sources (Ok reads) h = all_of-reads sources reads h
all_of-answers sources (Err (number, fault)) h =
    ap all_of h.split ∙ all_of-fault h.before h.here h.after h.had fault h.earlier h.fails ∙ ap (λ n. Err (n, fault)) (sym h.counted)

pub same_answer_of_all : (sources : List (List ℕ)) (one other : Result (List Read) (ℕ × FastxFault)) → AreReadsOf sources one → AreReadsOf sources other → one ≡ other
same_answer_of_all sources one other h k = sym (all_of-answers sources one h) ∙ all_of-answers sources other k
