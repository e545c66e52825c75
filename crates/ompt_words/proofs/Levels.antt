-- The walk of the whole command line: into a command, and there over its uses.
use Rattle.std.proofs.Common.{refl, ap, sym, subst, codes, true, false, Bool, List, Option, Some, [], ◌∷◌, ◌++◌, ◌≡◌, ◌≢◌, ◌∙◌, ◌⊎◌, inl, inr, ℕ, map, option_map}
use Rattle.std.specs.Prelude.{None, Box, find, fold, ⊤, is_some, if◌then◌else◌, not, unwrap_or, ◌&&◌}
use Rattle.std.specs.List.{list_any}
use Rattle.std.specs.Str.{bytes_eq}
use Rattle.clap.specs.Takes.{is_given}
use Rattle.std.specs.Box.{box_value}
use Rattle.std.proofs.lemmas.List.{append-nil, append_assoc}
use Rattle.clap.specs.Kinds.{Kinds}
use Rattle.clap.specs.Walk.{Held, Names, Row, Rule, Text, Waiting, Walk, answers_to, finished, has_row, idle, is_empty, nothing_held, rows_after, settled, stop_after, walk, walk_from, walked, with_default}
use Rattle.clap.specs.Simple.{App, Shape, argument_words, built, built_leaf, entered, inherited, label_of, names_of, rows_at, subcommand_of, subcommand_rows, subcommand_rows_of}
use Rattle.clap.specs.Matches.{subcommand_name_of}
use Rattle.clap.specs.Faults.{built_fault, check_fault, default_fault, defaults_fault, entered_fault, fault_of, given_default_fault, level_fault, settle_fault, turn_fault, walk_fault}
use Rattle.clap.specs.declared.parser.matches.ArgMatches.{ArgMatches}
use Rattle.clap.specs.declared.parser.matches.ArgMatches.TheViews.{out-ArgMatches, out-SubCommand}
use Rattle.clap.specs.declared.parser.matches.SubCommand.{SubCommand}
use Rattle.clap.proofs.OnLiterals.{clap_on_literals}
use Rattle.clap.proofs.FaultLemmas.{stopped_fault}
use Rattle.ompt_words.specs.CommandLine.{ompt, program, reader}
use Rattle.ompt_words.specs.Form.{IsRequest, command_word, read_word}
use Rattle.ompt_words.specs.declared.settings.Command.{Command}
use Rattle.ompt_words.specs.declared.settings.Command.TheVariants.{Generate, List as Listing, Profile, Record, Run, Timeline}
use Rattle.ompt_words.specs.declared.settings.ReadCommand.{ReadCommand}
use Rattle.ompt_words.specs.declared.settings.ReadCommand.TheVariants.{Check, Migrate, Rerun, Show, Tasks}
use Rattle.ompt_words.proofs.Uses.{AreTaken, IsBetween, Use, Walks, row_of, standing, walks, words_of}
use Rattle.ompt_words.proofs.Options.{IsOneWish, asked_between, leaf, rules_of}
use Rattle.clap.specs.declared.error.kind.ErrorKind.TheVariants.{DisplayHelp, DisplayVersion}

-- ---- defaults

-- the faults of the default of a rule, and that there are none
abbrev default_kinds : Rule → Kinds
default_kinds rule = if is_empty rule.defaults then [] else given_default_fault rule rule.defaults

abbrev AllPass : List Rule → Type 0
AllPass [] = ⊤
AllPass (rule ∷ rest) = (default_kinds rule ≡ []) × AllPass rest

-- where the default of a rule is no fault, the rule is none
default_clean : (rows : List Row) (rule : Rule) → default_kinds rule ≡ [] → default_fault rows rule ≡ []
default_clean rows rule pass = by (has_row rule.id rows) refl
  where
    by : (there : Bool) → has_row rule.id rows ≡ there → default_fault rows rule ≡ []
    by true is = rw is refl
    by false is = rw is pass

-- and so with all rules
defaults_clean : (rules : List Rule) (rows : List Row) → AllPass rules → defaults_fault rows rules ≡ []
unfolding defaults_fault
defaults_clean [] rows pass = refl
defaults_clean (rule ∷ rest) rows pass = rw (default_clean rows rule pass.0, defaults_clean rest (with_default rows rule) pass.1) refl

-- ---- one level

-- a level has no fault if none of its steps has one
level_clean : (s : Shape) (names : Names) (words : List Text) (has : Bool) (below : Kinds) (w : Walk) → walk s.rules names nothing_held words ≡ w
    → walk_fault s names (walk_from nothing_held) words ≡ [] → below ≡ [] → settle_fault s.rules s.args_override_self w.held ≡ []
    → defaults_fault (settled s.rules w.held).rows s.rules ≡ [] → check_fault s (finished s.rules w.held) has ≡ []
    → level_fault s names nothing_held words has below ≡ []
level_clean s names words has below w reaches walk' under settle defaults check = rw (reaches, walk', under, settle, defaults, check) refl

-- the first fault of the walk, and then that of the level below, are those of the level
level_first : (s : Shape) (names : Names) (words : List Text) (has : Bool) (below : Kinds) (kinds : Kinds) → IsOneWish kinds
    → walk_fault s names (walk_from nothing_held) words ≡ kinds → level_fault s names nothing_held words has below ≡ kinds
level_first s names words has below kinds one is = rw (is, one.alone) refl

-- the walk begins between two uses
begin : (command : Command) → IsBetween (leaf command) nothing_held []
begin command = record { rows_are = refl; clean = refl; none_skipped = refl }

-- where no word is left there is no fault
nothing_more : (s : Shape) (from : Walk) → walk_fault s [] from [] ≡ []
unfolding walk_fault
nothing_more s from = refl

-- a command's walk over uses that are taken
walk_of : (command : Command) (uses : List Use) → AreTaken (leaf command) 1 [] uses → Walks (leaf command) uses 1 nothing_held []
walk_of command uses taken = walks (leaf command) uses 1 nothing_held [] (begin command) taken

-- no default of a command is a fault
all_pass : (command : Command) → AllPass (rules_of command)
all_pass Listing = (refl, (refl, (refl, (refl, (refl, tt)))))
all_pass (Run output) = (refl, (refl, (refl, (refl, (refl, (refl, (refl, tt)))))))
all_pass Record = (refl, (refl, (refl, (refl, (refl, tt)))))
all_pass Profile = (refl, (refl, (refl, (refl, (refl, tt)))))
all_pass (Timeline columns) = (refl, (refl, (refl, (refl, (refl, (refl, tt))))))
all_pass (Generate blocks) = (refl, (refl, (refl, (refl, tt))))

-- the rows of the matches of a command with these uses: those of the uses, and the defaults
abbrev pub rows_in : Command → List Use → List Row
rows_in command uses = fold with_default (map row_of uses) (rules_of command)

-- what a command requires has a row
abbrev pub HasRequired : Command → List Row → Type 0
HasRequired command rows = list_any (λ rule. rule.required && not (is_given rule.id rows)) (rules_of command) ≡ false

-- then the last check finds no fault
required_clean : (command : Command) (rows : List Row) → HasRequired command rows → check_fault (leaf command) rows false ≡ []
required_clean command rows all = rw all refl

-- a command has no fault at uses that it takes, with what it requires
leaf_clean : (command : Command) (uses : List Use) → AreTaken (leaf command) 1 [] uses → HasRequired command (rows_in command uses)
    → level_fault (leaf command) [] nothing_held (words_of uses) false [] ≡ []
leaf_clean command uses taken all =
    let w : Walks (leaf command) uses 1 nothing_held [] = walk_of command uses taken in
    level_clean (leaf command) [] (words_of uses) false [] (standing w.end_position w.end) w.reaches
    (ap (walk_fault (leaf command) [] (walk_from nothing_held)) (sym (append-nil (words_of uses))) ∙ w.clean [] ∙ nothing_more (leaf command) (standing w.end_position w.end))
    refl w.between.clean (defaults_clean (rules_of command) (settled (rules_of command) w.end).rows (all_pass command))
    (ap (λ rows. check_fault (leaf command) (fold with_default rows (rules_of command)) false) w.between.rows_are ∙ required_clean command (rows_in command uses) all)

-- the first fault of the walk is that of its first word, if that is one
first_turn : (s : Shape) (from : Walk) (word : Text) (rest : List Text) → IsOneWish (turn_fault s [] from word)
    → walk_fault s [] from (word ∷ rest) ≡ turn_fault s [] from word
unfolding walk_fault
first_turn s from word rest one = rw one.alone refl

-- behind uses that it takes a command answers help or the version
leaf_asked : (command : Command) (uses : List Use) (word : Text) (rest : List Text) → AreTaken (leaf command) 1 [] uses → IsRequest word
    → IsOneWish (level_fault (leaf command) [] nothing_held (words_of uses ++ word ∷ rest) false [])
leaf_asked command uses word rest taken request =
    let w : Walks (leaf command) uses 1 nothing_held [] = walk_of command uses taken in
    let from : Walk = standing w.end_position w.end in
    let one : IsOneWish (turn_fault (leaf command) [] from word) = asked_between command w.end_position w.end _ word w.between request in
    subst IsOneWish (sym (level_first (leaf command) [] (words_of uses ++ word ∷ rest) false [] _ one (w.clean (word ∷ rest) ∙ first_turn (leaf command) from word rest one))) one

-- ---- the top level

-- the program itself, as clap builds it
abbrev top : Shape
top = (built ompt).top

-- the walk at the end of words of which the first is the name of a command
abbrev entering : Text → List Text → Walk
entering name words = record { held = nothing_held; waiting = idle; position = 1; is_trailing = false; stopped = Some (name, words) }

-- past the word of a command the walk takes down the words
stopped_walk : (rules : List Rule) (names : Names) (held : Held) (waiting : Waiting) (position : ℕ) (trailing : Bool) (name : Text) (before words : List Text)
    → fold (walked rules names) (record { held = held; waiting = waiting; position = position; is_trailing = trailing; stopped = Some (name, before) }) words
    ≡ record { held = held; waiting = waiting; position = position; is_trailing = trailing; stopped = Some (name, before ++ words) }
unfolding walked
stopped_walk rules names held waiting position trailing name before [] = rw (append-nil before) refl
stopped_walk rules names held waiting position trailing name before (word ∷ words) =
    stopped_walk rules names held waiting position trailing name (before ++ word ∷ []) words
    ∙ ap (λ all. record { held = held; waiting = waiting; position = position; is_trailing = trailing; stopped = Some (name, all) }) (append_assoc before (word ∷ []) words)

-- the name of a command enters it
top_walk : (command : Command) (words : List Text) → walk top.rules (names_of (built ompt)) nothing_held (command_word command ∷ words) ≡ entering (command_word command) words
unfolding clap_on_literals
top_walk Listing words = stopped_walk top.rules (names_of (built ompt)) nothing_held idle 1 false (codes "list") [] words
top_walk (Run output) words = stopped_walk top.rules (names_of (built ompt)) nothing_held idle 1 false (codes "run") [] words
top_walk Record words = stopped_walk top.rules (names_of (built ompt)) nothing_held idle 1 false (codes "record") [] words
top_walk Profile words = stopped_walk top.rules (names_of (built ompt)) nothing_held idle 1 false (codes "profile") [] words
top_walk (Timeline columns) words = stopped_walk top.rules (names_of (built ompt)) nothing_held idle 1 false (codes "timeline") [] words
top_walk (Generate blocks) words = stopped_walk top.rules (names_of (built ompt)) nothing_held idle 1 false (codes "gen") [] words

-- and it is no fault
top_clean : (command : Command) (words : List Text) → walk_fault top (names_of (built ompt)) (walk_from nothing_held) (command_word command ∷ words) ≡ []
unfolding clap_on_literals
top_clean Listing words = stopped_fault top (names_of (built ompt)) (walk_from nothing_held) (codes "list", []) words
top_clean (Run output) words = stopped_fault top (names_of (built ompt)) (walk_from nothing_held) (codes "run", []) words
top_clean Record words = stopped_fault top (names_of (built ompt)) (walk_from nothing_held) (codes "record", []) words
top_clean Profile words = stopped_fault top (names_of (built ompt)) (walk_from nothing_held) (codes "profile", []) words
top_clean (Timeline columns) words = stopped_fault top (names_of (built ompt)) (walk_from nothing_held) (codes "timeline", []) words
top_clean (Generate blocks) words = stopped_fault top (names_of (built ompt)) (walk_from nothing_held) (codes "gen", []) words

-- the program has no fault if none of its steps has one, and the command neither
built_clean : (a : App) (words : List Text) (w : Walk) → walk a.top.rules (names_of a) nothing_held words ≡ w
    → walk_fault a.top (names_of a) (walk_from nothing_held) words ≡ [] → entered_fault a w.stopped ≡ []
    → settle_fault a.top.rules a.top.args_override_self w.held ≡ []
    → defaults_fault (settled a.top.rules w.held).rows a.top.rules ≡ []
    → check_fault a.top (finished a.top.rules w.held) (is_some (entered a w.stopped)) ≡ []
    → built_fault a nothing_held words ≡ []
built_clean a words w reaches walk' under settle defaults check = rw (reaches, walk', under, settle, defaults, check) refl

-- and it answers what the command answers
built_asked : (a : App) (words : List Text) (w : Walk) → walk a.top.rules (names_of a) nothing_held words ≡ w
    → walk_fault a.top (names_of a) (walk_from nothing_held) words ≡ [] → (kinds : Kinds) → IsOneWish kinds → entered_fault a w.stopped ≡ kinds
    → built_fault a nothing_held words ≡ kinds
built_asked a words w reaches walk' kinds one under = rw (reaches, walk', under, one.alone) refl

-- the level of a command is that of its rules
entered_level : (command : Command) (words : List Text) → entered_fault (built ompt) (Some (command_word command, words)) ≡ level_fault (leaf command) [] nothing_held words false []
entered_level Listing words = refl
entered_level (Run output) words = refl
entered_level Record words = refl
entered_level Profile words = refl
entered_level (Timeline columns) words = refl
entered_level (Generate blocks) words = refl

-- and so are its matches
entered_rows : (command : Command) (words : List Text) → entered (built ompt) (Some (command_word command, words)) ≡ Some (command_word command, rows_after (rules_of command) [] words)
entered_rows Listing words = refl
entered_rows (Run output) words = refl
entered_rows Record words = refl
entered_rows Profile words = refl
entered_rows (Timeline columns) words = refl
entered_rows (Generate blocks) words = refl

-- the program requires no more than a command
top_required : (command : Command) (words : List Text) → check_fault top [] (is_some (entered (built ompt) (Some (command_word command, words)))) ≡ []
top_required command words = rw (entered_rows command words) refl

-- a command with uses that are taken, and with what it requires, has no fault
pub uses_clean : (command : Command) (uses : List Use) → AreTaken (leaf command) 1 [] uses → HasRequired command (rows_in command uses)
    → fault_of ompt (command_word command ∷ words_of uses) ≡ []
uses_clean command uses taken all = built_clean (built ompt) (command_word command ∷ words_of uses) (entering (command_word command) (words_of uses))
    (top_walk command (words_of uses)) (top_clean command (words_of uses)) (entered_level command (words_of uses) ∙ leaf_clean command uses taken all) refl
    (defaults_clean top.rules [] (refl, (refl, tt))) (top_required command (words_of uses))

-- and one that is asked for help or the version behind them has that one answer
pub uses_asked : (command : Command) (uses : List Use) (word : Text) (rest : List Text) → AreTaken (leaf command) 1 [] uses → IsRequest word
    → IsOneWish (fault_of ompt (command_word command ∷ words_of uses ++ word ∷ rest))
uses_asked command uses word rest taken request =
    let words : List Text = words_of uses ++ word ∷ rest in
    let one : IsOneWish (level_fault (leaf command) [] nothing_held words false []) = leaf_asked command uses word rest taken request in
    subst IsOneWish (sym (built_asked (built ompt) (command_word command ∷ words) (entering (command_word command) words)
    (top_walk command words) (top_clean command words) _ one (entered_level command words))) one

-- help and the version of the program itself
help_first : (rest : List Text) → fault_of ompt (codes "--help" ∷ rest) ≡ DisplayHelp ∷ []
unfolding clap_on_literals
help_first rest = refl

short_help_first : (rest : List Text) → fault_of ompt (codes "-h" ∷ rest) ≡ DisplayHelp ∷ []
unfolding clap_on_literals
short_help_first rest = refl

version_first : (rest : List Text) → fault_of ompt (codes "--version" ∷ rest) ≡ DisplayVersion ∷ []
unfolding clap_on_literals
version_first rest = refl

short_version_first : (rest : List Text) → fault_of ompt (codes "-V" ∷ rest) ≡ DisplayVersion ∷ []
unfolding clap_on_literals
short_version_first rest = refl

-- the program itself, too
pub first_asked : (word : Text) (rest : List Text) → IsRequest word → IsOneWish (fault_of ompt (word ∷ rest))
first_asked word rest (inl (inl is)) = record { wish = DisplayHelp; is = inl refl; alone = rw is (help_first rest) }
first_asked word rest (inl (inr is)) = record { wish = DisplayHelp; is = inl refl; alone = rw is (short_help_first rest) }
first_asked word rest (inr (inl is)) = record { wish = DisplayVersion; is = inr refl; alone = rw is (version_first rest) }
first_asked word rest (inr (inr is)) = record { wish = DisplayVersion; is = inr refl; alone = rw is (short_version_first rest) }

-- ---- the commands that read what a run has left

-- such a command as clap builds it
abbrev reader_leaf : Text → Shape
reader_leaf name = built_leaf (inherited program.top (reader name))

-- help and the version of such a command
reader_help : (name : Text) (rest : List Text) → level_fault (reader_leaf name) [] nothing_held (codes "--help" ∷ rest) false [] ≡ DisplayHelp ∷ []
unfolding clap_on_literals
reader_help name rest = refl

reader_short_help : (name : Text) (rest : List Text) → level_fault (reader_leaf name) [] nothing_held (codes "-h" ∷ rest) false [] ≡ DisplayHelp ∷ []
unfolding clap_on_literals
reader_short_help name rest = refl

reader_version : (name : Text) (rest : List Text) → level_fault (reader_leaf name) [] nothing_held (codes "--version" ∷ rest) false [] ≡ DisplayVersion ∷ []
unfolding clap_on_literals
reader_version name rest = refl

reader_short_version : (name : Text) (rest : List Text) → level_fault (reader_leaf name) [] nothing_held (codes "-V" ∷ rest) false [] ≡ DisplayVersion ∷ []
unfolding clap_on_literals
reader_short_version name rest = refl

-- it answers them
reader_asked : (name word : Text) (rest : List Text) → IsRequest word → IsOneWish (level_fault (reader_leaf name) [] nothing_held (word ∷ rest) false [])
reader_asked name word rest (inl (inl is)) = record { wish = DisplayHelp; is = inl refl; alone = rw is (reader_help name rest) }
reader_asked name word rest (inl (inr is)) = record { wish = DisplayHelp; is = inl refl; alone = rw is (reader_short_help name rest) }
reader_asked name word rest (inr (inl is)) = record { wish = DisplayVersion; is = inr refl; alone = rw is (reader_version name rest) }
reader_asked name word rest (inr (inr is)) = record { wish = DisplayVersion; is = inr refl; alone = rw is (reader_short_version name rest) }

-- its name enters it, too
read_walk : (command : ReadCommand) (words : List Text) → walk top.rules (names_of (built ompt)) nothing_held (read_word command ∷ words) ≡ entering (read_word command) words
unfolding clap_on_literals
read_walk Show words = stopped_walk top.rules (names_of (built ompt)) nothing_held idle 1 false (codes "show") [] words
read_walk Migrate words = stopped_walk top.rules (names_of (built ompt)) nothing_held idle 1 false (codes "migrate") [] words
read_walk Check words = stopped_walk top.rules (names_of (built ompt)) nothing_held idle 1 false (codes "check") [] words
read_walk Rerun words = stopped_walk top.rules (names_of (built ompt)) nothing_held idle 1 false (codes "rerun") [] words
read_walk Tasks words = stopped_walk top.rules (names_of (built ompt)) nothing_held idle 1 false (codes "tasks") [] words

-- and is no fault
read_walk_clean : (command : ReadCommand) (words : List Text) → walk_fault top (names_of (built ompt)) (walk_from nothing_held) (read_word command ∷ words) ≡ []
unfolding clap_on_literals
read_walk_clean Show words = stopped_fault top (names_of (built ompt)) (walk_from nothing_held) (codes "show", []) words
read_walk_clean Migrate words = stopped_fault top (names_of (built ompt)) (walk_from nothing_held) (codes "migrate", []) words
read_walk_clean Check words = stopped_fault top (names_of (built ompt)) (walk_from nothing_held) (codes "check", []) words
read_walk_clean Rerun words = stopped_fault top (names_of (built ompt)) (walk_from nothing_held) (codes "rerun", []) words
read_walk_clean Tasks words = stopped_fault top (names_of (built ompt)) (walk_from nothing_held) (codes "tasks", []) words

-- alone such a command has no fault
pub alone_clean : (command : ReadCommand) → fault_of ompt (read_word command ∷ []) ≡ []
unfolding clap_on_literals
alone_clean Show = refl
alone_clean Migrate = refl
alone_clean Check = refl
alone_clean Rerun = refl
alone_clean Tasks = refl

-- and it is the command of the matches
pub alone_matched : (command : ReadCommand) → option_map (λ found. found.0) (subcommand_of ompt (read_word command ∷ [])) ≡ Some (read_word command)
unfolding clap_on_literals
alone_matched Show = refl
alone_matched Migrate = refl
alone_matched Check = refl
alone_matched Rerun = refl
alone_matched Tasks = refl

-- its level is that of a command with its name and no options
read_level : (command : ReadCommand) (words : List Text) → entered_fault (built ompt) (Some (read_word command, words)) ≡ level_fault (reader_leaf (read_word command)) [] nothing_held words false []
read_level Show words = refl
read_level Migrate words = refl
read_level Check words = refl
read_level Rerun words = refl
read_level Tasks words = refl

-- one that is asked for help or the version has that one answer
pub read_asked : (command : ReadCommand) (word : Text) (rest : List Text) → IsRequest word → IsOneWish (fault_of ompt (read_word command ∷ word ∷ rest))
read_asked command word rest request =
    let one : IsOneWish (level_fault (reader_leaf (read_word command)) [] nothing_held (word ∷ rest) false []) = reader_asked (read_word command) word rest request in
    subst IsOneWish (sym (built_asked (built ompt) (read_word command ∷ word ∷ rest) (entering (read_word command) (word ∷ rest))
    (read_walk command (word ∷ rest)) (read_walk_clean command (word ∷ rest)) _ one (read_level command (word ∷ rest)))) one

-- ---- what the matches are

-- the rows of a walk over uses
leaf_rows : (command : Command) (uses : List Use) → AreTaken (leaf command) 1 [] uses → rows_after (rules_of command) [] (words_of uses) ≡ rows_in command uses
leaf_rows command uses taken =
    let w : Walks (leaf command) uses 1 nothing_held [] = walk_of command uses taken in
    ap (λ (from : Walk). finished (rules_of command) from.held) w.reaches ∙ ap (λ rows. fold with_default rows (rules_of command)) w.between.rows_are

-- what is entered is at the end of the walk
entered_at : (a : App) (words : List Text) (w : Walk) → walk a.top.rules (names_of a) nothing_held words ≡ w
    → entered a (walk a.top.rules (names_of a) nothing_held words).stopped ≡ entered a w.stopped
entered_at a words w is = rw is refl

-- the matches of a command with uses that are taken have their rows, and the defaults
pub uses_matched : (command : Command) (uses : List Use) → AreTaken (leaf command) 1 [] uses
    → subcommand_of ompt (command_word command ∷ words_of uses) ≡ Some (command_word command, rows_in command uses)
uses_matched command uses taken = entered_at (built ompt) (command_word command ∷ words_of uses) _ (top_walk command (words_of uses))
    ∙ entered_rows command (words_of uses) ∙ ap (λ rows. Some (command_word command, rows)) (leaf_rows command uses taken)

-- ---- the command that was entered

-- no command, and one
abbrev nothing_entered : Option (Text × List Row)
nothing_entered = None

nothing-some : {found : Text × List Row} → nothing_entered ≡ Some found → ⊥
nothing-some e = cc

abbrev entered_one : Text → List Row → Option (Text × List Row)
entered_one name rows = Some (name, rows)

-- its name and its rows
same_first : (name other : Text) (rows more : List Row) → entered_one other more ≡ entered_one name rows → name ≡ other
same_first name other rows more same = sym (ap (λ (found : Option (Text × List Row)). (unwrap_or found (name, rows)).0) same)

same_second : (name other : Text) (rows more : List Row) → entered_one other more ≡ entered_one name rows → rows ≡ more
same_second name other rows more same = sym (ap (λ (found : Option (Text × List Row)). (unwrap_or found (name, rows)).1) same)

-- the name is that of a command, and the rows are those of its rules at some words
pub record IsEntered (name : Text) (rows : List Row) (s : Shape) : Type 0 where
  pub is_name : name ≡ s.name
  pub words : List Text
  pub are_rows : rows ≡ rows_after s.rules [] words

-- the same of one of these commands
abbrev pub IsEnteredIn : Text → List Row → List Shape → Type 0
IsEnteredIn name rows [] = ⊥
IsEnteredIn name rows (s ∷ shapes) = IsEntered name rows s ⊎ IsEnteredIn name rows shapes

-- what was found among the commands is one of them
entered_in : (test : Shape → Bool) (shapes : List Shape) (words : List Text) (name : Text) (rows : List Row)
    → option_map (λ s. rows_at s words) (find test shapes) ≡ Some (name, rows) → IsEnteredIn name rows shapes
entered_in test [] words name rows is = nothing-some is
entered_in test (s ∷ shapes) words name rows is = by (test s) refl (λ found. entered_in test shapes words name rows found)
  where
    by : (fits : Bool) → test s ≡ fits → (option_map (λ s. rows_at s words) (find test shapes) ≡ Some (name, rows) → IsEnteredIn name rows shapes)
        → IsEnteredIn name rows (s ∷ shapes)
    by true first later =
        let found : entered_one s.name (rows_after s.rules [] words) ≡ entered_one name rows = rw first at is in
        inl (record { is_name = same_first name s.name rows _ found; words = words; are_rows = same_second name s.name rows _ found })
    by false first later = let found : option_map (λ s. rows_at s words) (find test shapes) ≡ Some (name, rows) = rw first at is in inr (later found)

-- and so what was entered
entered_name : (a : App) (stop : Option (Text × List Text)) (name : Text) (rows : List Row) → entered a stop ≡ Some (name, rows) → IsEnteredIn name rows a.subs
entered_name a None name rows is = absurd (nothing-some is)
entered_name a (Some at) name rows is = entered_in (λ s. answers_to at.0 (label_of s)) a.subs at.1 name rows is

-- the command of the matches is one of the eleven
pub matched_name : (words : List Text) (name : Text) (rows : List Row) → subcommand_of ompt words ≡ Some (name, rows) → IsEnteredIn name rows (built ompt).subs
matched_name words name rows is = entered_name (built ompt) (stop_after top.rules (names_of (built ompt)) (argument_words ompt words)) name rows is

-- a name of one of the eleven, and of no other than `list`, is that
pub listing_left : (words : List Text) (name : Text) (rows : List Row) → subcommand_of ompt words ≡ Some (name, rows)
    → name ≢ codes "show" → name ≢ codes "migrate" → name ≢ codes "check" → name ≢ codes "rerun" → name ≢ codes "tasks" → name ≢ codes "gen" → name ≢ codes "run" → name ≢ codes "record" → name ≢ codes "profile" → name ≢ codes "timeline"
    → name ≡ codes "list"
listing_left words name rows is no_show no_migrate no_check no_rerun no_tasks no_gen no_run no_record no_profile no_timeline = by (matched_name words name rows is)
  where
    by : IsEnteredIn name rows (built ompt).subs → name ≡ codes "list"
    by (inl run) = absurd (no_run run.is_name)
    by (inr (inl list)) = list.is_name
    by (inr (inr (inl record'))) = absurd (no_record record'.is_name)
    by (inr (inr (inr (inl profile)))) = absurd (no_profile profile.is_name)
    by (inr (inr (inr (inr (inl timeline))))) = absurd (no_timeline timeline.is_name)
    by (inr (inr (inr (inr (inr (inl gen)))))) = absurd (no_gen gen.is_name)
    by (inr (inr (inr (inr (inr (inr (inl show))))))) = absurd (no_show show.is_name)
    by (inr (inr (inr (inr (inr (inr (inr (inl migrate)))))))) = absurd (no_migrate migrate.is_name)
    by (inr (inr (inr (inr (inr (inr (inr (inr (inl check))))))))) = absurd (no_check check.is_name)
    by (inr (inr (inr (inr (inr (inr (inr (inr (inr (inl rerun)))))))))) = absurd (no_rerun rerun.is_name)
    by (inr (inr (inr (inr (inr (inr (inr (inr (inr (inr (inl tasks))))))))))) = absurd (no_tasks tasks.is_name)
    by (inr (inr (inr (inr (inr (inr (inr (inr (inr (inr (inr none))))))))))) = absurd none

-- two texts of which the one isn't the other by a test
pub distinct : (a b : Text) → bytes_eq a a ≡ true → bytes_eq a b ≡ false → a ≡ b → ⊥
distinct a b one other same = let wrong : true ≡ false = sym one ∙ ap (bytes_eq a) same ∙ other in cc

-- the rows of `gen` are those of its rules
pub generator_left : (words : List Text) (name : Text) (rows : List Row) → subcommand_of ompt words ≡ Some (name, rows) → name ≡ codes "gen"
    → IsEntered name rows (leaf (Generate 1))
generator_left words name rows is gen = by (matched_name words name rows is)
  where
    other : (word : Text) → bytes_eq (codes "gen") word ≡ false → name ≡ word → ⊥
    other word differs same = distinct (codes "gen") word refl differs (sym gen ∙ same)

    by : IsEnteredIn name rows (built ompt).subs → IsEntered name rows (leaf (Generate 1))
    by (inl run) = absurd (other (codes "run") refl run.is_name)
    by (inr (inl list)) = absurd (other (codes "list") refl list.is_name)
    by (inr (inr (inl record'))) = absurd (other (codes "record") refl record'.is_name)
    by (inr (inr (inr (inl profile)))) = absurd (other (codes "profile") refl profile.is_name)
    by (inr (inr (inr (inr (inl timeline))))) = absurd (other (codes "timeline") refl timeline.is_name)
    by (inr (inr (inr (inr (inr (inl found)))))) = found
    by (inr (inr (inr (inr (inr (inr (inl show))))))) = absurd (other (codes "show") refl show.is_name)
    by (inr (inr (inr (inr (inr (inr (inr (inl migrate)))))))) = absurd (other (codes "migrate") refl migrate.is_name)
    by (inr (inr (inr (inr (inr (inr (inr (inr (inl check))))))))) = absurd (other (codes "check") refl check.is_name)
    by (inr (inr (inr (inr (inr (inr (inr (inr (inr (inl rerun)))))))))) = absurd (other (codes "rerun") refl rerun.is_name)
    by (inr (inr (inr (inr (inr (inr (inr (inr (inr (inr (inl tasks))))))))))) = absurd (other (codes "tasks") refl tasks.is_name)
    by (inr (inr (inr (inr (inr (inr (inr (inr (inr (inr (inr none))))))))))) = absurd none

-- the name in the matches is that in their rows
name_in_rows : {Z : Type 0} (found : Option (Box SubCommand Z)) → option_map (λ b. (out-SubCommand (box_value b)).name.now) found ≡ option_map (λ p. p.0) (subcommand_rows found)
name_in_rows None = refl
name_in_rows (Some b) = refl

-- the name and the rows that the matches tell of it are those of one command
pub both_of : (m : ArgMatches) (name : Text) (rows : List Row) → Some name ≡ subcommand_name_of m → Some rows ≡ option_map (λ p. p.1) (subcommand_rows_of m)
    → subcommand_rows_of m ≡ Some (name, rows)
both_of m name rows is_name is_rows = by (subcommand_rows_of m) (is_name ∙ name_in_rows (out-ArgMatches m).subcommand) is_rows
  where
    by : (found : Option (Text × List Row)) → Some name ≡ option_map (λ p. p.0) found → Some rows ≡ option_map (λ p. p.1) found → found ≡ Some (name, rows)
    by None a b = cc
    by (Some pair) a b =
        let first : name ≡ pair.0 = ap (λ (found : Option Text). unwrap_or found name) a in
        let second : rows ≡ pair.1 = ap (λ (found : Option (List Row)). unwrap_or found rows) b in
        rw (first, second) refl
