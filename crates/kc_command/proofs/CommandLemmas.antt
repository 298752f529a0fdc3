-- A command line that passes names a command of kcount, and not `help`, which `clap` adds.
use Rattle.std.proofs.Common.{◌≡◌, ◌∙◌, ◌&&◌, ◌||◌, ℕ, Bool, true, false, not, cond, refl, sym, ap, ap₂, subst, List}
use Rattle.std.proofs.Common.{[], ◌∷◌, ◌++◌, inl, inr, Option, Some, None, is_some, codes, option_map, fold}
use Rattle.std.specs.Prelude.{IfSome, IsOkAnd, find, if◌then◌else◌}
use Rattle.std.proofs.Common.{Result, Ok, Err, IfOk}
use Rattle.std.specs.declared.alloc.AllocError.{AllocError}
use Rattle.std.specs.Str.{bytes_eq}
use Rattle.std.proofs.lemmas.Slice.Eq.{bytes_eq-Decides}
use Rattle.clap.specs.Walk.{Held, Names, Outcome, Rule, Row, Step, Text, Waiting, Walk, after_flag, after_step}
use Rattle.clap.specs.Walk.{answers_to, arg_by_index, arg_by_long, bundle, done, finished, idle, long_met}
use Rattle.clap.specs.Walk.{long_or_other, next, nothing_held, option, plain, plain_word, positional, refused}
use Rattle.clap.specs.Walk.{settled, short_or_plain, stop_after, subcommand, subcommand_met, subcommand_or_other}
use Rattle.clap.specs.Walk.{to_positional, trailing, value, waits, walk, walk_from, walked, walked_from}
use Rattle.clap.specs.Lexer.{long_of, short_of}
use Rattle.clap.specs.Built.{AddsArg, AddsInTurn, AddsSubcommand}
use Rattle.clap.specs.declared.builder.arg.Arg.{Arg}
use Rattle.clap.specs.declared.builder.command.Command.{Command}
use Rattle.clap.specs.Words.{App, app_of, rule_of, shape_of, with_rule, with_subcommand}
use Rattle.clap.specs.Simple.{Shape, argument_words, built, built_leaf, entered, help_shape, inherited, label_of}
use Rattle.clap.specs.Simple.{marked_built, names_of, rows_at, subcommand_of, with_leaf_noted}
use Rattle.clap.specs.Kinds.{Kinds, check_kinds, or_else}
use Rattle.clap.specs.Faults.{check_fault, defaults_fault, entered_fault, fault_of, other_fault, settle_fault}
use Rattle.clap.specs.Faults.{turn_fault, walk_fault}
use Rattle.std.specs.List.{AllByRecursion}
use Rattle.kc_command.specs.Command.{IsCommand, compare_shape, count_shape, dump_shape, filter_shape, histo_shape}
use Rattle.kc_command.specs.Command.{intersect_shape, kcount_app, merge_shape, profile_shape, query_shape, select_shape, stats_shape}
use Rattle.kc_command.specs.Command.{subtract_shape}

-- a command with one argument more
pub added : {old new : Command} {argument : Arg} {app : App} {rule : Rule} → AddsArg old argument new
    → argument.global ≡ false → rule_of argument ≡ rule → app_of old ≡ app
    → app_of new ≡ with_rule app rule
added adds own is before = adds.shape own ∙ ap₂ with_rule before is

-- arguments that have these rules, each of its own command alone
abbrev pub HaveRules : List Arg → List Rule → Type 0
HaveRules [] [] = Unit
HaveRules (argument ∷ arguments) (rule ∷ rules) = (argument.global ≡ false) × (rule_of argument ≡ rule) × HaveRules arguments rules
HaveRules _ _ = ⊥

-- a command with these arguments more
pub all_added : (old new : Command) (app : App) (arguments : List Arg) (rules : List Rule) → AddsInTurn AddsArg old arguments new
    → HaveRules arguments rules → app_of old ≡ app → app_of new ≡ fold with_rule app rules
all_added old new app [] [] same have before = ap app_of (sym same) ∙ before
all_added old new app [] (rule ∷ rules) same have before = absurd have
all_added old new app (argument ∷ arguments) [] adds have before = absurd have
all_added old new app (argument ∷ arguments) (rule ∷ rules) (between, adds, rest) have before =
    all_added between new (with_rule app rule) arguments rules rest have.2 (added adds have.0 have.1 before)

plain_is_local : (a b c rest : Bool) → (a && (b && (not c && rest))) ≡ true → c ≡ false
plain_is_local true true false rest e = refl
plain_is_local true true true rest e = cc
plain_is_local true false c rest e = cc
plain_is_local false b c rest e = cc

-- a command with one command more, which is plain, so that it has no global argument
pub joined : {old sub new : Command} {app : App} {shape : Shape} → AddsSubcommand old sub new → shape.is_plain ≡ true
    → shape_of sub ≡ shape → app_of old ≡ app
    → app_of new ≡ with_subcommand app shape
joined adds local is before =
    adds.shape (plain_is_local _ _ _ _ (ap (λ (s : Shape). s.is_plain) is ∙ local)) ∙ ap₂ with_subcommand before is

-- a command with one command more, if there was memory for both
pub with_one : (command more both : Result Command AllocError) (app : App) (shape : Shape) → IfOk command (λ c. app_of c ≡ app)
    → IfOk more (λ c. shape_of c ≡ shape) → shape.is_plain ≡ true
    → IfOk both (λ c. IsOkAnd command (λ one. IsOkAnd more (λ sub. AddsSubcommand one sub c)))
    → IfOk both (λ c. app_of c ≡ with_subcommand app shape)
with_one command more (Err error) app shape before is local adds = tt
with_one (Err error) more (Ok both) app shape before is local adds = absurd adds
with_one (Ok command) (Err error) (Ok both) app shape before is local adds = absurd adds
with_one (Ok command) (Ok more) (Ok both) app shape before is local adds = joined adds local is before

-- if no command was met, or another one than `help`
abbrev NotHelp : Option (Text × List Text) → Type 0
NotHelp stop = IfSome stop (λ met. bytes_eq met.0 (codes "help") ≡ false)

abbrev IsNoCommand : Step → Type 0
IsNoCommand (subcommand name) = ⊥
IsNoCommand _ = Unit {0}

first_nothing : (a b : Kinds) → or_else a b ≡ [] → a ≡ []
first_nothing [] b e = refl
first_nothing (k ∷ ks) b e = cc

then_nothing : (a b : Kinds) → or_else a b ≡ [] → b ≡ []
then_nothing [] b e = e
then_nothing (k ∷ ks) b e = cc

plain_step : (c : List Rule) (waiting : Waiting) (word : Text) (h : Held) → IsNoCommand (plain_word c waiting word h).1
plain_step c idle word h = tt
plain_step c (option id) word h = tt
plain_step c positional word h = tt

flag_step : (c : List Rule) (waiting : Waiting) (word : Text) (h : Held) (outcome : Outcome)
    → IsNoCommand (after_flag c waiting word h outcome).1
flag_step c waiting word h done = tt
flag_step c waiting word h (waits id) = tt
flag_step c waiting word h plain = plain_step c waiting word h
flag_step c waiting word h refused = plain_step c waiting word h

short_step : (c : List Rule) (waiting : Waiting) (word : Text) (flags : Option Text) (h : Held)
    → IsNoCommand (short_or_plain c waiting word flags h).1
short_step c waiting word (Some flags) h = flag_step c waiting word (bundle c flags h).0 (bundle c flags h).1
short_step c waiting word None h = plain_step c waiting word h

long_step : (c : List Rule) (waiting : Waiting) (word : Text) (name : Option (Text × Option Text)) (h : Held)
    → IsNoCommand (long_or_other c waiting word name h).1
long_step c waiting word (Some p) h =
    flag_step c waiting word (long_met c (arg_by_long c p.0) p.1 h).0 (long_met c (arg_by_long c p.0) p.1 h).1
long_step c waiting word None h = short_step c waiting word (short_of word) h

other_step : (c : List Rule) (waiting : Waiting) (position : ℕ) (word : Text) (h : Held)
    → IsNoCommand (subcommand_or_other c None waiting position word h).1
other_step c waiting position word h = pick (bytes_eq word (45 ∷ 45 ∷ [])) where
  pick : (b : Bool)
      → IsNoCommand (if b then (h, trailing position) else long_or_other c waiting word (long_of word) h).1
  pick true = tt
  pick false = long_step c waiting word (long_of word) h

goes_on : (c : List Rule) (word : Text) (w : Walk) (h : Held) (step : Step) → NotHelp w.stopped → IsNoCommand step
    → NotHelp (after_step c word w h step).stopped
goes_on c word w h (next waiting) n other = n
goes_on c word w h (trailing position) n other = n
goes_on c word w h (subcommand name) n other = absurd other
goes_on c word w h value n other = pick (arg_by_index c w.position) where
  pick : (a : Option Rule) → NotHelp (to_positional c a word w h).stopped
  pick None = n
  pick (Some a) = tt

not_help : (b d : Bool) (kinds : Kinds) → d ≡ false → (kinds ≡ [] → ⊥) → (if b && not d then kinds else []) ≡ []
    → b ≡ false
not_help true true kinds e some h = cc
not_help true false kinds e some h = absurd (some h)
not_help false d kinds e some h = refl

met_step : (s : Shape) (word : Text) (w : Walk) (is_trailing : Bool) (met : Option Text)
    → s.disable_help_subcommand ≡ false → NotHelp w.stopped
    → (if is_trailing then [] else other_fault s met word w.held) ≡ []
    → NotHelp (after_step s.rules word w
    (if is_trailing then (w.held, value) else subcommand_or_other s.rules met w.waiting w.position word w.held).0
    (if is_trailing then (w.held, value)
    else subcommand_or_other s.rules met w.waiting w.position word w.held).1).stopped
met_step s word w true met helped n none = goes_on s.rules word w w.held value n tt
met_step s word w false (Some name) helped n none = not_help _ _ _ helped (λ e. cc) none
met_step s word w false None helped n none =
    goes_on s.rules word w (subcommand_or_other s.rules None w.waiting w.position word w.held).0
    (subcommand_or_other s.rules None w.waiting w.position word w.held).1
    n (other_step s.rules w.waiting w.position word w.held)

one_word : (s : Shape) (names : Names) (w : Walk) (word : Text) → s.disable_help_subcommand ≡ false
    → NotHelp w.stopped → turn_fault s names w word ≡ []
    → NotHelp (walked s.rules names w word).stopped
unfolding walked
one_word s names w word helped n none = pick w.stopped refl n where
  running : (b : Bool) (kinds : Kinds) → b ≡ false → (if b then [] else kinds) ≡ [] → kinds ≡ []
  running true kinds e h = cc
  running false kinds e h = h

  pick : (stop : Option (Text × List Text)) → w.stopped ≡ stop → NotHelp stop
      → NotHelp (walked_from s.rules names stop w word).stopped
  pick (Some p) is n = n
  pick None is n =
      met_step s word w w.is_trailing (subcommand_met names w.waiting word) helped (subst NotHelp (sym is) tt)
      (first_nothing _ _ (running (is_some w.stopped) _ (ap is_some is) none))

all_words : (s : Shape) (names : Names) (words : List Text) (w : Walk) → s.disable_help_subcommand ≡ false
    → NotHelp w.stopped → walk_fault s names w words ≡ []
    → NotHelp (fold (walked s.rules names) w words).stopped
unfolding walk_fault
all_words s names [] w helped n none = n
all_words s names (word ∷ words) w helped n none =
    all_words s names words (walked s.rules names w word) helped
    (one_word s names w word helped n (first_nothing _ _ none)) (then_nothing _ _ none)

swapped : (a b : Text) → bytes_eq a b ≡ false → bytes_eq b a ≡ false
swapped a b e = pick (bytes_eq b a) refl where
  pick : (t : Bool) → bytes_eq b a ≡ t → t ≡ false
  pick false same = refl
  pick true same = sym ((bytes_eq-Decides a b).1 (sym ((bytes_eq-Decides b a).0 same))) ∙ e

-- if the test fails of the last one and something is found, it is found before
found_before : {X : Type 0} (P : X → Type 0) (test : X → Bool) (xs : List X) (last : X) → AllByRecursion P xs
    → test last ≡ false
    → is_some (find test (xs ++ last ∷ [])) ≡ true → (x : X) × P x × (find test (xs ++ last ∷ []) ≡ Some x)
found_before {X} P test [] last all fails some = absurd (pick (test last) fails some) where
  pick : (b : Bool) → b ≡ false → is_some (cond b (Some last) None) ≡ true → ⊥
  pick true fails some = cc
  pick false fails some = cc
found_before {X} P test (x ∷ xs) last all fails some =
    pick (found_before P test xs last all.1 fails) (test x) some where
      pick : (is_some (find test (xs ++ last ∷ [])) ≡ true → (y : X) × P y × (find test (xs ++ last ∷ []) ≡ Some y))
          → (b : Bool)
          → is_some (cond b (Some x) (find test (xs ++ last ∷ []))) ≡ true
          → (y : X) × P y × (cond b (Some x) (find test (xs ++ last ∷ [])) ≡ Some y)
      pick later true some = (x, all.0, refl)
      pick later false some = later some

kept_some : {X Y : Type 0} (f : X → Y) (o : Option X) → is_some (option_map f o) ≡ true → is_some o ≡ true
kept_some f None e = e
kept_some f (Some x) e = refl

wants_command : (has other last : Bool) → check_kinds (not has && other) (not has && true) last ≡ [] → has ≡ true
wants_command true other last e = refl
wants_command false true last e = cc
wants_command false false last e = cc

abbrev of_kcount : Shape → Shape
of_kcount shape = built_leaf (inherited (with_leaf_noted (marked_built kcount_app.top)) shape)

abbrev commands : List Shape
commands =
    of_kcount count_shape
    ∷ of_kcount dump_shape
    ∷ of_kcount histo_shape
    ∷ of_kcount stats_shape
    ∷ of_kcount query_shape
    ∷ of_kcount merge_shape
    ∷ of_kcount intersect_shape
    ∷ of_kcount subtract_shape
    ∷ of_kcount filter_shape
    ∷ of_kcount compare_shape
    ∷ of_kcount select_shape
    ∷ of_kcount profile_shape
    ∷ []

abbrev helping : Shape
helping = built_leaf help_shape

are_commands : AllByRecursion (λ (s : Shape). IsCommand s.name) commands
are_commands = (
  inl refl,
  (
    inr (inl refl),
    (
      inr (inr (inl refl)),
      (
        inr (inr (inr (inl refl))),
        (
          inr (inr (inr (inr (inl refl)))),
          (
            inr (inr (inr (inr (inr (inl refl))))),
            (
              inr (inr (inr (inr (inr (inr (inl refl)))))),
              (
                inr (inr (inr (inr (inr (inr (inr (inl refl))))))),
                (
                  inr (inr (inr (inr (inr (inr (inr (inr (inl refl)))))))),
                  (
                    inr (inr (inr (inr (inr (inr (inr (inr (inr (inl refl))))))))),
                    (
                      inr (inr (inr (inr (inr (inr (inr (inr (inr (inr (inl refl)))))))))),
                      (inr (inr (inr (inr (inr (inr (inr (inr (inr (inr (inr refl)))))))))), tt),
                    ),
                  ),
                ),
              ),
            ),
          ),
        ),
      ),
    ),
  ),
)

-- the name of a command, and what was found of its options
abbrev Enters : Option (Text × List Row) → Type 0
Enters entered = (name : Text) × (rows : List Row) × IsCommand name × (entered ≡ Some (name, rows))

enters_command : (stop : Option (Text × List Text)) → NotHelp stop → is_some (entered (built kcount_app) stop) ≡ true
    → Enters (entered (built kcount_app) stop)
enters_command None n some = cc
enters_command (Some met) n some =
    let test : Shape → Bool = λ s. answers_to met.0 (label_of s) in
    let found =
    found_before (λ (s : Shape). IsCommand s.name) test commands helping are_commands
    (ap (λ b. b || false) (swapped met.0 (codes "help") n)) (kept_some _ _ some) in
    (found.0.name, (rows_at found.0 met.1).1, found.1, ap (option_map (λ (s : Shape). rows_at s met.1)) found.2)

-- one level of a parse in which nothing fails: nothing fails in the walk over the words, nor in the last check
level_passed : (walking below settling defaulting checking : Kinds)
    → or_else walking (or_else below (or_else settling (or_else defaulting checking))) ≡ []
    → (walking ≡ []) × (checking ≡ [])
level_passed walking below settling defaulting checking none = (
  first_nothing _ _ none,
  then_nothing defaulting checking (then_nothing settling _ (then_nothing below _ (then_nothing walking _ none))),
)

-- a command line in which nothing fails names a command
pub names_command : (arguments : List Text) → fault_of kcount_app arguments ≡ []
    → (name : Text) × (rows : List Row) × IsCommand name × (subcommand_of kcount_app arguments ≡ Some (name, rows))
names_command arguments none =
    let a = built kcount_app in
    let words = argument_words kcount_app arguments in
    let end = (walk a.top.rules (names_of a) nothing_held words).held in
    let stop = stop_after a.top.rules (names_of a) words in
    let has = is_some (entered a stop) in
    let passed =
    level_passed (walk_fault a.top (names_of a) (walk_from nothing_held) words) (entered_fault a stop)
    (settle_fault a.top.rules a.top.args_override_self end)
    (defaults_fault (settled a.top.rules end).rows a.top.rules)
    (check_fault a.top (finished a.top.rules end) has) none in
    enters_command stop (all_words a.top (names_of a) words (walk_from nothing_held) refl tt passed.0)
    (search (wants_command, passed.1))
