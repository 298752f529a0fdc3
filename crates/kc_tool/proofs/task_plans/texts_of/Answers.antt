use Rattle.std.proofs.Common.{rules, ◌∙◌, map, sym, ap, Bor, List, ℕ}
use Rattle.std.specs.Prelude.{option_map}
use Rattle.std.proofs.lemmas.Result.{IfOk-weaker}
use Rattle.clap.specs.Words.{found_of}
use Rattle.clap.proofs.WalkLemmas.{raw_values-rows}
use Rattle.kc_tool.proofs.CommandsLemmas.{none_found, texts_found}
use Rattle.kc_tool.proofs.task_plans.texts_of.Goals as goal

abbrev all_texts : Bor (List (Bor (List ℕ))) → List (List ℕ)
all_texts texts = map (λ text. text.now) texts.now

pub returns-in-Some : goal.returns-in-Some
returns-in-Some c =
    let found = texts_found (sym (ap (option_map all_texts) c.in-Some.is) ∙ c.get_strs.ensures ∙ raw_values-rows (found_of c.args.matches.now) c.args.name.now) in
    IfOk-weaker c.collect.result _ _ (λ texts same. ap (map (λ (text : Bor (List ℕ)). text.now)) same ∙ found) (search rules)

pub returns-in-None : goal.returns-in-None
returns-in-None c =
    let found = none_found (sym (ap (option_map all_texts) c.in-None.is) ∙ c.get_strs.ensures ∙ raw_values-rows (found_of c.args.matches.now) c.args.name.now) in
    ap (map (λ (text : Bor (List ℕ)). text.now)) c.new.ensures.items ∙ found
