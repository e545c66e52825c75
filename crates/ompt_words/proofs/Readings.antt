-- What the matches of words of the form tell: the numbers and the flags of their options, with the defaults, and the number of blocks.
use Rattle.std.proofs.Common.{refl, ap, codes, true, false, Bool, List, Option, Some, [], ◌∷◌, ◌++◌, ◌≡◌, ◌∙◌, ◌≤◌, ℕ, arith, map}
use Rattle.std.specs.Prelude.{None, decimal, filter, fold, find, not, option_and_then, ⊤, ◌&&◌}
use Rattle.std.specs.List.{All, list_any}
use Rattle.std.specs.Str.{bytes_eq}
use Rattle.std.specs.Option.{option_or}
use Rattle.std.proofs.lemmas.List.Folds.{find-append}
use Rattle.std.proofs.lemmas.List.Elements.{All-drop, All-head}
use Rattle.clap.specs.Walk.{Row, Rule, Text, has_row, more_values, one_of, row_text, with_default}
use Rattle.clap.specs.Takes.{is_given}
use Rattle.clap.specs.declared.builder.value_parser.Reading.TheVariants.{AsWritten, WithoutMinus}
use Rattle.clap.specs.declared.parser.matches.ValueSource.TheVariants.{DefaultValue}
use Rattle.ompt_words.specs.Form.{Choice, Columns, IsInRange, Serial, Steps, Threads, WithHistory, WithProfile, columns_of, has_history, has_profile, serial_of, steps_of, threads_of}
use Rattle.ompt_words.specs.Form.{default_columns, default_steps, default_threads}
use Rattle.ompt_words.specs.Answers.{flag_in, number_in}
use Rattle.ompt_words.specs.declared.settings.Command.{Command}
use Rattle.ompt_words.specs.declared.settings.Command.TheVariants.{Generate, List as Listing, Profile, Record, Run, Timeline}
use Rattle.ompt_words.proofs.Uses.{Use, at_missing_row, bare, new_row, placed, row_of, valued}
use Rattle.ompt_words.proofs.Options.{filled_flag, generator_rules, readers_rules, rules_of, run_rules, timeline_rules}
use Rattle.ompt_words.proofs.Levels.{HasRequired, rows_in}
use Rattle.ompt_words.proofs.Numbers.{decimal_number, decimal_without_minus}

-- the use that an option is
abbrev pub use_of : Choice → Use
use_of (Threads n) = valued (codes "--threads") (codes "threads") (decimal n)
use_of (Steps n) = valued (codes "--steps") (codes "steps") (decimal n)
use_of Serial = bare (codes "--serial") (codes "serial")
use_of WithHistory = bare (codes "--history") (codes "history")
use_of WithProfile = bare (codes "--profile") (codes "profile")
use_of (Columns n) = valued (codes "--columns") (codes "columns") (decimal n)

-- the uses of a command with these options: before those of the options the number of blocks stands, if it has one
abbrev pub uses_in : Command → List Choice → List Use
uses_in Listing choices = map use_of choices
uses_in (Run output) choices = map use_of choices
uses_in Record choices = map use_of choices
uses_in Profile choices = map use_of choices
uses_in (Timeline columns) choices = map use_of choices
uses_in (Generate blocks) choices = placed (codes "blocks") (decimal blocks) ∷ map use_of choices

-- the rows of options
abbrev rows_of : List Choice → List Row
rows_of choices = map row_of (map use_of choices)

-- the row of the number of blocks
abbrev pub blocks_row : ℕ → Row
blocks_row blocks = row_of (placed (codes "blocks") (decimal blocks))

-- ---- defaults: the flags alone have one

-- a rule with no default adds no row
no_default : (rows : List Row) (rule : Rule) → rule.defaults ≡ [] → with_default rows rule ≡ rows
no_default rows rule none = by (has_row rule.id rows) refl
  where
    by : (there : Bool) → has_row rule.id rows ≡ there → with_default rows rule ≡ rows
    by true is = rw is refl
    by false is = rw (is, none) refl

-- so rules add what those of them with a default add
abbrev has_text : List Text → Bool
has_text [] = false
has_text (text ∷ more) = true

abbrev has_default : Rule → Bool
has_default rule = has_text rule.defaults

defaults_alone : (rules : List Rule) (rows : List Row) → fold with_default rows rules ≡ fold with_default rows (filter has_default rules)
defaults_alone [] rows = refl
defaults_alone (rule ∷ rules) rows = by rule.defaults refl (λ front. defaults_alone rules front)
  where
    by : (defaults : List Text) → rule.defaults ≡ defaults → ((front : List Row) → fold with_default front rules ≡ fold with_default front (filter has_default rules))
        → fold with_default rows (rule ∷ rules) ≡ fold with_default rows (filter has_default (rule ∷ rules))
    by [] is later = ap (λ front. fold with_default front rules) (no_default rows rule is) ∙ later rows ∙ rw is refl
    by (v ∷ vs) is later = later (with_default rows rule) ∙ rw is refl

-- the flags, and those of each command
abbrev all_flags : List Text
all_flags = codes "serial" ∷ codes "history" ∷ codes "profile" ∷ []

abbrev flags_of : Command → List Text
flags_of Listing = codes "serial" ∷ []
flags_of (Run output) = all_flags
flags_of Record = codes "serial" ∷ []
flags_of Profile = codes "serial" ∷ []
flags_of (Timeline columns) = codes "serial" ∷ []
flags_of (Generate blocks) = []

-- the rows of a command, with its defaults
defaults_of : (command : Command) (rows : List Row) → fold with_default rows (rules_of command) ≡ fold with_default rows (map filled_flag (flags_of command))
defaults_of Listing rows = defaults_alone readers_rules rows
defaults_of (Run output) rows = defaults_alone run_rules rows
defaults_of Record rows = defaults_alone readers_rules rows
defaults_of Profile rows = defaults_alone readers_rules rows
defaults_of (Timeline columns) rows = defaults_alone timeline_rules rows
defaults_of (Generate blocks) rows = defaults_alone generator_rules rows

-- ---- the default of one flag

-- its row
abbrev default_row : Text → Row
default_row flag = record { id = flag; values = codes "false" ∷ []; count = None; source = Some DefaultValue; reading = AsWritten }

-- where the flag isn't there its default comes last
default_last : (flag : Text) (rows : List Row) → has_row flag rows ≡ false → with_default rows (filled_flag flag) ≡ rows ++ default_row flag ∷ []
default_last flag rows none = rw none (at_missing_row flag (more_values DefaultValue (codes "false" ∷ [])) (default_row flag ∷ []) rows none)

-- so what is found of an id is found before it, or is the default
default_found : (flag id : Text) (rows : List Row) → has_row flag rows ≡ false
    → one_of id (with_default rows (filled_flag flag))
    ≡ option_and_then row_text (option_or (find (λ row. bytes_eq row.id id) rows) (find (λ row. bytes_eq row.id id) (default_row flag ∷ [])))
default_found flag id rows none =
    ap (one_of id) (default_last flag rows none) ∙ ap (option_and_then row_text) (find-append (λ (row : Row). bytes_eq row.id id) rows (default_row flag ∷ []))

-- the first, where there is no second
or_none : {X : Type 0} (found : Option X) → option_or found None ≡ found
or_none None = refl
or_none (Some x) = refl

-- other options have what they had
other_text : (flag id : Text) (rows : List Row) → bytes_eq flag id ≡ false → one_of id (with_default rows (filled_flag flag)) ≡ one_of id rows
other_text flag id rows differs = by (has_row flag rows) refl
  where
    by : (there : Bool) → has_row flag rows ≡ there → one_of id (with_default rows (filled_flag flag)) ≡ one_of id rows
    by true is = rw is refl
    by false is = default_found flag id rows is ∙ ap (option_and_then row_text) (rw differs (or_none (find (λ row. bytes_eq row.id id) rows)))

-- and a flag says what it said, since its default says what no row says
default_silent : (flag id : Text) (found : Option Row)
    → flag_in (option_and_then row_text (option_or found (find (λ row. bytes_eq row.id id) (default_row flag ∷ [])))) ≡ flag_in (option_and_then row_text found)
default_silent flag id (Some row) = refl
default_silent flag id None = by (bytes_eq flag id) refl
  where
    by : (same : Bool) → bytes_eq flag id ≡ same
        → flag_in (option_and_then row_text (option_or None (find (λ row. bytes_eq row.id id) (default_row flag ∷ [])))) ≡ flag_in (option_and_then row_text None)
    by true is = rw is refl
    by false is = rw is refl

flag_stays : (flag id : Text) (rows : List Row) → flag_in (one_of id (with_default rows (filled_flag flag))) ≡ flag_in (one_of id rows)
flag_stays flag id rows = by (has_row flag rows) refl
  where
    by : (there : Bool) → has_row flag rows ≡ there → flag_in (one_of id (with_default rows (filled_flag flag))) ≡ flag_in (one_of id rows)
    by true is = rw is refl
    by false is = ap flag_in (default_found flag id rows is) ∙ default_silent flag id (find (λ row. bytes_eq row.id id) rows)

-- ---- the defaults of flags

-- the id is none of these flags
abbrev IsNoneOf : Text → List Text → Type 0
IsNoneOf id [] = ⊤
IsNoneOf id (flag ∷ flags) = (bytes_eq flag id ≡ false) × IsNoneOf id flags

-- one that is no flag is none of a command
no_flag_of : (command : Command) (id : Text) → IsNoneOf id all_flags → IsNoneOf id (flags_of command)
no_flag_of (Run output) id none = none
no_flag_of (Generate blocks) id none = tt
no_flag_of command id none = (none.0, tt)

others_text : (flags : List Text) (id : Text) (rows : List Row) → IsNoneOf id flags → one_of id (fold with_default rows (map filled_flag flags)) ≡ one_of id rows
others_text [] id rows none = refl
others_text (flag ∷ flags) id rows none = others_text flags id (with_default rows (filled_flag flag)) none.1 ∙ other_text flag id rows none.0

flags_stay : (flags : List Text) (id : Text) (rows : List Row) → flag_in (one_of id (fold with_default rows (map filled_flag flags))) ≡ flag_in (one_of id rows)
flags_stay [] id rows = refl
flags_stay (flag ∷ flags) id rows = flags_stay flags id (with_default rows (filled_flag flag)) ∙ flag_stays flag id rows

-- the number of blocks is no option
own_text : (command : Command) (choices : List Choice) (id : Text) → bytes_eq (codes "blocks") id ≡ false
    → one_of id (map row_of (uses_in command choices)) ≡ one_of id (rows_of choices)
own_text (Generate number) choices id blocks = rw blocks refl
own_text command choices id blocks = refl

-- so the matches have of an option what its use has
option_text : (command : Command) (choices : List Choice) (id : Text) → IsNoneOf id all_flags → bytes_eq (codes "blocks") id ≡ false
    → one_of id (rows_in command (uses_in command choices)) ≡ one_of id (rows_of choices)
option_text command choices id none blocks =
    let rows : List Row = map row_of (uses_in command choices) in
    ap (one_of id) (defaults_of command rows) ∙ others_text (flags_of command) id rows (no_flag_of command id none) ∙ own_text command choices id blocks

-- and say of a flag what its use says
flag_text : (command : Command) (choices : List Choice) (id : Text) → bytes_eq (codes "blocks") id ≡ false
    → flag_in (one_of id (rows_in command (uses_in command choices))) ≡ flag_in (one_of id (rows_of choices))
flag_text command choices id blocks =
    let rows : List Row = map row_of (uses_in command choices) in
    ap (λ all. flag_in (one_of id all)) (defaults_of command rows) ∙ flags_stay (flags_of command) id rows ∙ ap flag_in (own_text command choices id blocks)

-- ---- the options

-- the first option is within its limits, and the others are
first_in : (choice : Choice) (rest : List Choice) → All IsInRange (choice ∷ rest) → IsInRange choice
first_in choice rest all = All-head IsInRange choice rest all

rest_in : (choice : Choice) (rest : List Choice) → All IsInRange (choice ∷ rest) → All IsInRange rest
rest_in choice rest all = All-drop IsInRange 1 (choice ∷ rest) all

-- the number of a value within the limits
number_found : (low high default n : ℕ) → 1 ≤ low → low ≤ n → n ≤ high → high ≤ 30000000 → number_in low high default (row_text (new_row [] WithoutMinus (decimal n))) ≡ n
number_found low high default n some above below small =
    ap (λ (text : Text). number_in low high default (Some text)) (decimal_without_minus n (omega arith) (omega arith))
    ∙ decimal_number low high default n (omega arith) above below (omega arith)

-- the rows of options have their number of threads
threads_found : (choices : List Choice) → All IsInRange choices → number_in 1 16 default_threads (one_of (codes "threads") (rows_of choices)) ≡ threads_of choices
threads_found [] all = refl
threads_found (Threads n ∷ rest) all =
    let range : IsInRange (Threads n) = first_in (Threads n) rest all in number_found 1 16 default_threads n (omega arith) range.0 range.1 (omega arith)
threads_found (Steps n ∷ rest) all = threads_found rest (rest_in (Steps n) rest all)
threads_found (Serial ∷ rest) all = threads_found rest (rest_in Serial rest all)
threads_found (WithHistory ∷ rest) all = threads_found rest (rest_in WithHistory rest all)
threads_found (WithProfile ∷ rest) all = threads_found rest (rest_in WithProfile rest all)
threads_found (Columns n ∷ rest) all = threads_found rest (rest_in (Columns n) rest all)

-- their number of steps
steps_found : (choices : List Choice) → All IsInRange choices → number_in 1 30000000 default_steps (one_of (codes "steps") (rows_of choices)) ≡ steps_of choices
steps_found [] all = refl
steps_found (Threads n ∷ rest) all = steps_found rest (rest_in (Threads n) rest all)
steps_found (Steps n ∷ rest) all =
    let range : IsInRange (Steps n) = first_in (Steps n) rest all in number_found 1 30000000 default_steps n (omega arith) range.0 range.1 (omega arith)
steps_found (Serial ∷ rest) all = steps_found rest (rest_in Serial rest all)
steps_found (WithHistory ∷ rest) all = steps_found rest (rest_in WithHistory rest all)
steps_found (WithProfile ∷ rest) all = steps_found rest (rest_in WithProfile rest all)
steps_found (Columns n ∷ rest) all = steps_found rest (rest_in (Columns n) rest all)

-- their number of columns
columns_found : (choices : List Choice) → All IsInRange choices → number_in 10 200 default_columns (one_of (codes "columns") (rows_of choices)) ≡ columns_of choices
columns_found [] all = refl
columns_found (Threads n ∷ rest) all = columns_found rest (rest_in (Threads n) rest all)
columns_found (Steps n ∷ rest) all = columns_found rest (rest_in (Steps n) rest all)
columns_found (Serial ∷ rest) all = columns_found rest (rest_in Serial rest all)
columns_found (WithHistory ∷ rest) all = columns_found rest (rest_in WithHistory rest all)
columns_found (WithProfile ∷ rest) all = columns_found rest (rest_in WithProfile rest all)
columns_found (Columns n ∷ rest) all =
    let range : IsInRange (Columns n) = first_in (Columns n) rest all in number_found 10 200 default_columns n (omega arith) range.0 range.1 (omega arith)

-- and each flag if they have it
serial_found : (choices : List Choice) → flag_in (one_of (codes "serial") (rows_of choices)) ≡ serial_of choices
serial_found [] = refl
serial_found (Threads n ∷ rest) = serial_found rest
serial_found (Steps n ∷ rest) = serial_found rest
serial_found (Serial ∷ rest) = refl
serial_found (WithHistory ∷ rest) = serial_found rest
serial_found (WithProfile ∷ rest) = serial_found rest
serial_found (Columns n ∷ rest) = serial_found rest

history_found : (choices : List Choice) → flag_in (one_of (codes "history") (rows_of choices)) ≡ has_history choices
history_found [] = refl
history_found (Threads n ∷ rest) = history_found rest
history_found (Steps n ∷ rest) = history_found rest
history_found (Serial ∷ rest) = history_found rest
history_found (WithHistory ∷ rest) = refl
history_found (WithProfile ∷ rest) = history_found rest
history_found (Columns n ∷ rest) = history_found rest

profile_found : (choices : List Choice) → flag_in (one_of (codes "profile") (rows_of choices)) ≡ has_profile choices
profile_found [] = refl
profile_found (Threads n ∷ rest) = profile_found rest
profile_found (Steps n ∷ rest) = profile_found rest
profile_found (Serial ∷ rest) = profile_found rest
profile_found (WithHistory ∷ rest) = profile_found rest
profile_found (WithProfile ∷ rest) = refl
profile_found (Columns n ∷ rest) = profile_found rest

-- ---- what the matches of a command tell

pub threads_read : (command : Command) (choices : List Choice) → All IsInRange choices
    → number_in 1 16 default_threads (one_of (codes "threads") (rows_in command (uses_in command choices))) ≡ threads_of choices
threads_read command choices all = ap (number_in 1 16 default_threads) (option_text command choices (codes "threads") (refl, (refl, (refl, tt))) refl) ∙ threads_found choices all

pub steps_read : (command : Command) (choices : List Choice) → All IsInRange choices
    → number_in 1 30000000 default_steps (one_of (codes "steps") (rows_in command (uses_in command choices))) ≡ steps_of choices
steps_read command choices all = ap (number_in 1 30000000 default_steps) (option_text command choices (codes "steps") (refl, (refl, (refl, tt))) refl) ∙ steps_found choices all

pub columns_read : (command : Command) (choices : List Choice) → All IsInRange choices
    → number_in 10 200 default_columns (one_of (codes "columns") (rows_in command (uses_in command choices))) ≡ columns_of choices
columns_read command choices all = ap (number_in 10 200 default_columns) (option_text command choices (codes "columns") (refl, (refl, (refl, tt))) refl) ∙ columns_found choices all

pub blocks_read : (blocks : ℕ) (choices : List Choice) → 1 ≤ blocks → blocks ≤ 400
    → number_in 1 400 1 (one_of (codes "blocks") (rows_in (Generate blocks) (uses_in (Generate blocks) choices))) ≡ blocks
blocks_read blocks choices some few = ap (λ rows. number_in 1 400 1 (one_of (codes "blocks") rows)) (defaults_of (Generate blocks) (blocks_row blocks ∷ rows_of choices))
    ∙ number_found 1 400 1 blocks (omega arith) some few (omega arith)

pub serial_read : (command : Command) (choices : List Choice) → flag_in (one_of (codes "serial") (rows_in command (uses_in command choices))) ≡ serial_of choices
serial_read command choices = flag_text command choices (codes "serial") refl ∙ serial_found choices

pub history_read : (command : Command) (choices : List Choice) → flag_in (one_of (codes "history") (rows_in command (uses_in command choices))) ≡ has_history choices
history_read command choices = flag_text command choices (codes "history") refl ∙ history_found choices

pub profile_read : (command : Command) (choices : List Choice) → flag_in (one_of (codes "profile") (rows_in command (uses_in command choices))) ≡ has_profile choices
profile_read command choices = flag_text command choices (codes "profile") refl ∙ profile_found choices

-- and they have what the command requires: the number of blocks stands before the options
pub required_there : (command : Command) (choices : List Choice) → HasRequired command (rows_in command (uses_in command choices))
required_there Listing choices = refl
required_there (Run output) choices = refl
required_there Record choices = refl
required_there Profile choices = refl
required_there (Timeline columns) choices = refl
required_there (Generate blocks) choices = ap (λ rows. list_any (λ (rule : Rule). rule.required && not (is_given rule.id rows)) generator_rules) (defaults_of (Generate blocks) (blocks_row blocks ∷ rows_of choices))
