use Rattle.std.proofs.Common.{◌∙◌, ap, length, map, sym, Bor, List, ℕ, [], Option}
use Rattle.std.specs.Prelude.{option_map, unwrap_or}
use Rattle.std.proofs.lemmas.List.{length-map}
use Rattle.clap.specs.Words.{Text, found_of}
use Rattle.clap.proofs.WalkLemmas.{raw_values-rows}
use Rattle.kc_command.proofs.settings_of_options.value_count.Goals as goal

abbrev all_texts : Bor (List (Bor (List ℕ))) → List (List ℕ)
all_texts texts = map (λ text. text.now) texts.now

pub returns-in-Some : goal.returns-in-Some
returns-in-Some c =
    let found = sym (ap (option_map all_texts) c.in-Some.is) ∙ c.get_strs.ensures ∙ raw_values-rows (found_of c.args.matches.now) c.args.name.now in
    sym (length-map c.in-Some.values.now (λ (text : Bor (List ℕ)). text.now)) ∙ ap (λ (o : Option (List Text)). length (unwrap_or o [])) found

pub returns-in-None : goal.returns-in-None
returns-in-None c =
    let found = sym (ap (option_map all_texts) c.in-None.is) ∙ c.get_strs.ensures ∙ raw_values-rows (found_of c.args.matches.now) c.args.name.now in
    ap (λ (o : Option (List Text)). length (unwrap_or o [])) found
