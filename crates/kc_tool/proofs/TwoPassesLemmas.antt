-- Tables in files that are opened twice.
use Rattle.std.proofs.Common.{◌≡◌, ℕ, ◌+◌, ◌<◌, ◌≤◌, ◌++◌, ◌∙◌, List, [], ◌∷◌, get_or, length, map, take, drop, inl, inr, refl, sym, ap, ap₂, append_assoc, append-nil, arith, Bor, Err}
use Rattle.std.specs.Prelude.{◌⊎◌, Result}
use Rattle.std.proofs.lemmas.List.{get_or-map, length-drop, length-map, length-take-le, length_push, map-append, map_push, take-append-drop, take_more}
use Rattle.std.proofs.lemmas.Simd.{map-map}
use Rattle.kc_io.specs.Sinks.{Written}
use Rattle.kc_io.specs.Sources.{Seen}
use Rattle.kc_combine.specs.Derivations.{TakesTables}
use Rattle.kc_combine.specs.declared.derived.Derived.{Derived}
use Rattle.kc_combine.specs.declared.derived.Derived.TheVariants as derive
use Rattle.kc_combine.specs.declared.written_tables.CombineFault.TheVariants.{Memory}
use Rattle.kc_tool.specs.Commands.{DerivesFiles, DerivesInPasses}
use Rattle.kc_tool.specs.declared.told.Told.{Told}
use Rattle.kc_tool.specs.declared.tool_faults.ToolFault.{ToolFault}
use Rattle.clap.specs.Words.{Text}
use Rattle.kc_tool.specs.NamedSources.{names_of, seen_of}
use Rattle.kc_tool.specs.TwoPasses.{PutsInHalf}
use Rattle.kc_tool.specs.declared.named_sources.NamedSource.{NamedSource}
use Rattle.kc_tool.specs.declared.tool_faults.ToolFault.TheVariants as fault

-- At least one table is taken.
pub takes_some : (derived : Derived) (n : ℕ) → TakesTables derived n → 1 ≤ n
takes_some (derive.Table combining) n h = h
takes_some (derive.Comparison solid) n h = omega (arith, h)
takes_some (derive.Spectrum high) n h = omega (arith, h)
takes_some (derive.Dump dump) n h = omega (arith, h)

-- ---- the files

-- The views of files are those of their sources.
pub seen_apart : {S : Type 0} (seen : S → Seen) (files : List (NamedSource S)) (first second : List S)
    → first ++ second ≡ map (λ file. file.source) files → seen_of seen files ≡ map seen first ++ map seen second
seen_apart seen files first second e =
    sym (map-map seen (λ (file : NamedSource _). file.source) files) ∙ ap (map seen) (sym e) ∙ map-append seen first second

-- Memory was refused before anything was read.
pub left_whole : (half : ℕ) (files : List Seen) {derived : Derived} {start : Written} → length files ≡ half + half
    → DerivesFiles derived files files start start (Err fault.Memory)
left_whole half files long =
    let first = length-take-le half files (omega (arith, long)) in
    let second = length-drop half files in
    let halves : length (take half files) ≡ length (drop half files) = omega (arith, first, second, long) in
    record {
      first = take half files;
      second = drop half files;
      are = sym (take-append-drop half files);
      first_after = take half files;
      second_after = drop half files;
      are_after = sym (take-append-drop half files);
      halves = halves;
      halves_after = halves;
      done = inl (Memory, tt, refl, refl, refl);
    }

-- One more file has the name that comes next.
pub named_next : {S : Type 0} (files pushed : List (NamedSource S)) (names : List (Bor Text)) (at : ℕ) (d : Bor Text) (file : NamedSource S)
    → pushed ≡ files ++ file ∷ [] → file.name ≡ get_or names at d
    → names_of files ≡ take (length files) (map (λ name. name.now) names) → length files < length names → at ≡ length files
    → names_of pushed ≡ take (length pushed) (map (λ name. name.now) names)
named_next files pushed names at d file items named are within here =
    let now = λ (name : Bor Text). name.now in
    let long = length-map names now in
    let is = ap now named ∙ ap (λ i. now (get_or names i d)) here in
    ap names_of items ∙ map_push (λ source. source.name.now) files file
    ∙ ap₂ (λ xs y. xs ++ y ∷ []) are (is ∙ sym (get_or-map now names (length files) d d.now within))
    ∙ sym (take_more (map now names) (length files) d.now (omega (arith, long, within)))
    ∙ sym (ap (λ n. take n (map now names)) (ap length items ∙ length_push files file))

-- the sources of two passes after one more file was taken apart
pub record IsPut {F : Type 0} (half : ℕ) (source : F) (first first_after second second_after rest : List F) : Type 0 where
  pub all : (first_after ++ second_after) ++ rest ≡ (first ++ second) ++ source ∷ rest
  pub split : length first_after ≤ half
  pub full : (length first_after ≡ half) ⊎ (second_after ≡ [])
  pub sum : length first_after + length second_after ≡ length first + length second + 1

-- It was put behind the first ones, or behind the second ones.
pub put_next : {F : Type 0} (half : ℕ) (source : F) (first first_after second second_after rest : List F)
    → PutsInHalf half source first first_after second second_after → length first ≤ half
    → (length first ≡ half) ⊎ (second ≡ []) → IsPut half source first first_after second second_after rest
put_next half source first first_after second second_after rest (inl put) split (inl full) =
    let none : ⊥ = omega (arith, put.0, full) in absurd none
put_next half source first first_after second second_after rest (inl put) split (inr none) =
    let longer = ap length put.1 in
    let pushed = length_push first source in
    let same = ap length put.2 in
    let nil = put.2 ∙ none in
    record {
      all = ap₂ (λ xs ys. (xs ++ ys) ++ rest) put.1 nil ∙ ap (λ xs. xs ++ rest) (append-nil (first ++ source ∷ []))
          ∙ append_assoc first (source ∷ []) rest ∙ ap (λ xs. xs ++ source ∷ rest) (sym (append-nil first))
          ∙ ap (λ ys. (first ++ ys) ++ source ∷ rest) (sym none);
      split = omega (arith, longer, pushed, put.0);
      full = inr nil;
      sum = omega (arith, longer, pushed, same);
    }
put_next half source first first_after second second_after rest (inr put) split full =
    let same = ap length put.1 in
    let longer = ap length put.2 in
    let pushed = length_push second source in
    let whole : length first ≡ half = omega (arith, put.0, split) in
    record {
      all = ap₂ (λ xs ys. (xs ++ ys) ++ rest) put.1 put.2 ∙ ap (λ xs. xs ++ rest) (sym (append_assoc first second (source ∷ [])))
          ∙ append_assoc (first ++ second) (source ∷ []) rest;
      split = omega (arith, same, split);
      full = inl (same ∙ whole);
      sum = omega (arith, same, longer, pushed);
    }

-- One more name was taken.
pub name_next : {S : Type 0} (names : List (Bor Text)) (file : NamedSource S) (rest : List (NamedSource S))
    → map (λ name. name.now) (names ++ file.name ∷ []) ++ names_of rest ≡ map (λ name. name.now) names ++ names_of (file ∷ rest)
name_next names file rest =
    ap (λ xs. xs ++ names_of rest) (map_push (λ (name : Bor Text). name.now) names file.name)
    ∙ append_assoc (map (λ (name : Bor Text). name.now) names) (file.name.now ∷ []) (names_of rest)

-- The two halves of an even number are as long.
pub as_long_halves : {F : Type 0} (half n : ℕ) (first second : List F) → length first + length second ≡ n → n ≡ half + half
    → length first ≤ half → (length first ≡ half) ⊎ (second ≡ []) → length first ≡ length second
as_long_halves half n first second sum even split (inl full) = omega (arith, sum, even, full)
as_long_halves half n first second sum even split (inr none) =
    let no = ap length none in omega (arith, sum, even, split, no)

-- The files that were taken apart were read in two passes, and put back.
pub files_derived : {S : Type 0} (seen : S → Seen) (derived : Derived) (olds news : List (NamedSource S))
    (first first_after second second_after : List S) (start now : Written) (outcome : Result Told ToolFault)
    → first ++ second ≡ map (λ file. file.source) olds → map (λ file. file.source) news ≡ first_after ++ second_after
    → length first ≡ length second → length first_after ≡ length first → length second_after ≡ length second
    → DerivesInPasses derived (map seen first) (map seen first_after) (map seen second) (map seen second_after) start now outcome
    → DerivesFiles derived (seen_of seen olds) (seen_of seen news) start now outcome
files_derived seen derived olds news first first_after second second_after start now outcome were are halves long long_second done =
    let one = length-map first seen in
    let two = length-map second seen in
    let three = length-map first_after seen in
    let four = length-map second_after seen in
    record {
      first = map seen first;
      second = map seen second;
      are = seen_apart seen olds first second were;
      first_after = map seen first_after;
      second_after = map seen second_after;
      are_after = seen_apart seen news first_after second_after (sym are);
      halves = omega (arith, one, two, halves);
      halves_after = omega (arith, three, four, halves, long, long_second);
      done = done;
    }
