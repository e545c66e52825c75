-- Words of the form: their options are uses that are taken, and their own settings are those of the matches.
use Rattle.std.proofs.Common.{refl, ap, sym, subst, codes, true, false, Bool, List, Option, Some, [], ◌∷◌, ◌++◌, ◌≡◌, ◌≢◌, ◌∙◌, inl, inr, ℕ, arith, map, option_map}
use Rattle.std.specs.Prelude.{decimal, option_and_then, ⊤, unwrap_or}
use Rattle.std.specs.List.{All}
use Rattle.std.specs.Str.{bytes_eq}
use Rattle.std.proofs.lemmas.List.{append-nil}
use Rattle.std.proofs.lemmas.List.Folds.{list_any-append}
use Rattle.std.proofs.lemmas.List.Elements.{All-drop, All-head}
use Rattle.clap.specs.Walk.{Row, Rule, Text, has_row, one_of}
use Rattle.clap.specs.Simple.{subcommand_of}
use Rattle.clap.specs.Faults.{fault_of}
use Rattle.ompt_words.specs.CommandLine.{ompt}
use Rattle.ompt_words.specs.Form.{AreDistinct, AskInForm, BeginInForm, Choice, Columns, HasOwnNumber, InForm, IsGenerators, IsInRange, IsOptionOf, IsOutput, IsReaders, IsRunners, IsTimelines, ReadInForm, Serial, Steps, Threads, WithHistory, WithProfile, has_history}
use Rattle.ompt_words.specs.Form.{command_word, command_words, default_columns, default_steps, default_threads, option_word, option_words, own_settings, read_word, runs_serially}
use Rattle.ompt_words.specs.Answers.{AreReadAs, HasMatchedNumber, HaveSettings, HoldBoth, NamesCommand, flag_in, matched_text, number_in}
use Rattle.ompt_words.specs.declared.settings.Settings.{Settings}
use Rattle.ompt_words.specs.declared.settings.Command.{Command}
use Rattle.ompt_words.specs.declared.settings.Command.TheVariants.{Generate, List as Listing, Profile, Record, Run, Timeline}
use Rattle.ompt_words.specs.declared.settings.ReadCommand.{ReadCommand}
use Rattle.ompt_words.specs.declared.settings.ReadCommand.TheVariants.{Check, Migrate, Rerun, Show, Tasks}
use Rattle.ompt_words.specs.declared.settings.RunOutput.{RunOutput}
use Rattle.ompt_words.specs.declared.settings.RunOutput.TheVariants.{History, Printed, Profile as Profiled}
use Rattle.ompt_words.specs.declared.settings.Request.{Request}
use Rattle.ompt_words.specs.declared.settings.Request.TheVariants as request
use Rattle.ompt_words.proofs.Uses.{AreTaken, Takes, Use, id_of, position_after, row_of, words_of}
use Rattle.ompt_words.proofs.Options.{HasReaders, IsOneWish, blocks_taken, flag_taken, generator_rules, generator_threads, leaf, number_taken, readers_have, readers_rules, run_has, run_history, run_profile, run_rules, timeline_columns, timeline_has, timeline_rules, with_rules}
use Rattle.ompt_words.proofs.Levels.{distinct, alone_clean, alone_matched, first_asked, read_asked, rows_in, uses_asked, uses_clean, uses_matched}
use Rattle.ompt_words.proofs.Readings.{blocks_read, blocks_row, columns_read, history_read, profile_read, required_there, serial_read, steps_read, threads_read, use_of, uses_in}
use Rattle.ompt_words.proofs.Numbers.{decimal_fits, decimal_value}

-- ---- the options are taken

-- by rules that have the options of a command that reads its program
readers_taken : (name : Text) (rules : List Rule) → HasReaders rules → (position : ℕ) (choice : Choice) → IsReaders choice → IsInRange choice
    → Takes (with_rules name rules) position (use_of choice)
readers_taken name rules has position (Threads n) own range = number_taken name rules (codes "--threads") (codes "threads") (decimal n) 1 16 has.threads
    (decimal_value n (omega arith) (omega arith)) (decimal_fits 1 16 n (omega arith) range.0 range.1 (omega arith))
readers_taken name rules has position (Steps n) own range = number_taken name rules (codes "--steps") (codes "steps") (decimal n) 1 30000000 has.steps
    (decimal_value n (omega arith) (omega arith)) (decimal_fits 1 30000000 n (omega arith) range.0 range.1 (omega arith))
readers_taken name rules has position Serial own range = flag_taken name rules (codes "--serial") (codes "serial") has.serial
readers_taken name rules has position WithHistory own range = absurd own
readers_taken name rules has position WithProfile own range = absurd own
readers_taken name rules has position (Columns n) own range = absurd own

-- by the rules of `run`
run_taken : (position : ℕ) (choice : Choice) → IsRunners choice → IsInRange choice → Takes (with_rules (codes "run") run_rules) position (use_of choice)
run_taken position (Threads n) own range = readers_taken (codes "run") run_rules run_has position (Threads n) tt range
run_taken position (Steps n) own range = readers_taken (codes "run") run_rules run_has position (Steps n) tt range
run_taken position Serial own range = readers_taken (codes "run") run_rules run_has position Serial tt tt
run_taken position WithHistory own range = flag_taken (codes "run") run_rules (codes "--history") (codes "history") run_history
run_taken position WithProfile own range = flag_taken (codes "run") run_rules (codes "--profile") (codes "profile") run_profile
run_taken position (Columns n) own range = absurd own

-- by those of `timeline`
timeline_taken : (position : ℕ) (choice : Choice) → IsTimelines choice → IsInRange choice → Takes (with_rules (codes "timeline") timeline_rules) position (use_of choice)
timeline_taken position (Threads n) own range = readers_taken (codes "timeline") timeline_rules timeline_has position (Threads n) tt range
timeline_taken position (Steps n) own range = readers_taken (codes "timeline") timeline_rules timeline_has position (Steps n) tt range
timeline_taken position Serial own range = readers_taken (codes "timeline") timeline_rules timeline_has position Serial tt tt
timeline_taken position WithHistory own range = absurd own
timeline_taken position WithProfile own range = absurd own
timeline_taken position (Columns n) own range = number_taken (codes "timeline") timeline_rules (codes "--columns") (codes "columns") (decimal n) 10 200 timeline_columns
    (decimal_value n (omega arith) (omega arith)) (decimal_fits 10 200 n (omega arith) range.0 range.1 (omega arith))

-- and by those of `gen`
generator_taken : (position : ℕ) (choice : Choice) → IsGenerators choice → IsInRange choice → Takes (with_rules (codes "gen") generator_rules) position (use_of choice)
generator_taken position (Threads n) own range = number_taken (codes "gen") generator_rules (codes "--threads") (codes "threads") (decimal n) 1 16 generator_threads
    (decimal_value n (omega arith) (omega arith)) (decimal_fits 1 16 n (omega arith) range.0 range.1 (omega arith))
generator_taken position (Steps n) own range = absurd own
generator_taken position Serial own range = absurd own
generator_taken position WithHistory own range = absurd own
generator_taken position WithProfile own range = absurd own
generator_taken position (Columns n) own range = absurd own

-- a command takes each option of its own
taken_alone : (command : Command) (position : ℕ) (choice : Choice) → IsOptionOf command choice → IsInRange choice → Takes (leaf command) position (use_of choice)
taken_alone Listing position choice own range = readers_taken (codes "list") readers_rules readers_have position choice own range
taken_alone (Run output) position choice own range = run_taken position choice own range
taken_alone Record position choice own range = readers_taken (codes "record") readers_rules readers_have position choice own range
taken_alone Profile position choice own range = readers_taken (codes "profile") readers_rules readers_have position choice own range
taken_alone (Timeline columns) position choice own range = timeline_taken position choice own range
taken_alone (Generate blocks) position choice own range = generator_taken position choice own range

-- the row of an option isn't that of one with another word
rows_differ : (choice other : Choice) → option_word other ≢ option_word choice → bytes_eq (row_of (use_of choice)).id (id_of (use_of other)) ≡ false
rows_differ (Threads n) (Threads m) differ = absurd (differ refl)
rows_differ (Steps n) (Steps m) differ = absurd (differ refl)
rows_differ Serial Serial differ = absurd (differ refl)
rows_differ WithHistory WithHistory differ = absurd (differ refl)
rows_differ WithProfile WithProfile differ = absurd (differ refl)
rows_differ (Columns n) (Columns m) differ = absurd (differ refl)
rows_differ choice other differ = refl

-- none of these options has a row here
abbrev HaveNoRow : List Row → List Choice → Type 0
HaveNoRow rows [] = ⊤
HaveNoRow rows (choice ∷ rest) = (has_row (id_of (use_of choice)) rows ≡ false) × HaveNoRow rows rest

-- at first there is no row, and behind the number of blocks its own alone
no_row_at_first : (choices : List Choice) → HaveNoRow [] choices
no_row_at_first [] = tt
no_row_at_first (choice ∷ rest) = (refl, no_row_at_first rest)

no_row_behind_blocks : (blocks : ℕ) (choices : List Choice) → HaveNoRow (blocks_row blocks ∷ []) choices
no_row_behind_blocks blocks [] = tt
no_row_behind_blocks blocks (Threads n ∷ rest) = (refl, no_row_behind_blocks blocks rest)
no_row_behind_blocks blocks (Steps n ∷ rest) = (refl, no_row_behind_blocks blocks rest)
no_row_behind_blocks blocks (Serial ∷ rest) = (refl, no_row_behind_blocks blocks rest)
no_row_behind_blocks blocks (WithHistory ∷ rest) = (refl, no_row_behind_blocks blocks rest)
no_row_behind_blocks blocks (WithProfile ∷ rest) = (refl, no_row_behind_blocks blocks rest)
no_row_behind_blocks blocks (Columns n ∷ rest) = (refl, no_row_behind_blocks blocks rest)

-- the row of an option is not that of a later one
one_row_more : (rows : List Row) (choice : Choice) (rest : List Choice) → HaveNoRow rows rest → All (λ other. option_word other ≢ option_word choice) rest
    → HaveNoRow (rows ++ row_of (use_of choice) ∷ []) rest
one_row_more rows choice [] none differ = tt
one_row_more rows choice (other ∷ rest) none differ =
    let differs : bytes_eq (row_of (use_of choice)).id (id_of (use_of other)) ≡ false = rows_differ choice other (All-head (λ one. option_word one ≢ option_word choice) other rest differ) in (
      list_any-append (λ (row : Row). bytes_eq row.id (id_of (use_of other))) rows (row_of (use_of choice) ∷ [])
          ∙ rw (none.0, differs) refl,
      one_row_more rows choice rest none.1 (All-drop (λ one. option_word one ≢ option_word choice) 1 (other ∷ rest) differ),
    )

-- an option leaves the next positional what it was
position_stays : (choice : Choice) (position : ℕ) → position_after position (use_of choice) ≡ position
position_stays (Threads n) position = refl
position_stays (Steps n) position = refl
position_stays Serial position = refl
position_stays WithHistory position = refl
position_stays WithProfile position = refl
position_stays (Columns n) position = refl

-- so options that are the own of a command and distinct are taken
taken_from : (command : Command) (position : ℕ) (rows : List Row) (choices : List Choice) → HaveNoRow rows choices → All (IsOptionOf command) choices → All IsInRange choices
    → AreDistinct choices → AreTaken (leaf command) position rows (map use_of choices)
taken_from command position rows [] none own range distinct = tt
taken_from command position rows (choice ∷ rest) none own range distinct =
    let more : List Row = rows ++ row_of (use_of choice) ∷ [] in
    let later : AreTaken (leaf command) position more (map use_of rest) =
    taken_from command position more rest (one_row_more rows choice rest none.1 distinct.0) (All-drop (IsOptionOf command) 1 (choice ∷ rest) own)
    (All-drop IsInRange 1 (choice ∷ rest) range) distinct.1 in (
      none.0,
      taken_alone command position choice (All-head (IsOptionOf command) choice rest own) (All-head IsInRange choice rest range),
      subst (λ next. AreTaken (leaf command) next more (map use_of rest)) (sym (position_stays choice position)) later,
    )

-- the number of blocks stands before them
taken_of : (command : Command) (choices : List Choice) → HasOwnNumber command choices → All (IsOptionOf command) choices → All IsInRange choices → AreDistinct choices
    → AreTaken (leaf command) 1 [] (uses_in command choices)
taken_of Listing choices number own range distinct = taken_from Listing 1 [] choices (no_row_at_first choices) own range distinct
taken_of (Run output) choices number own range distinct = taken_from (Run output) 1 [] choices (no_row_at_first choices) own range distinct
taken_of Record choices number own range distinct = taken_from Record 1 [] choices (no_row_at_first choices) own range distinct
taken_of Profile choices number own range distinct = taken_from Profile 1 [] choices (no_row_at_first choices) own range distinct
taken_of (Timeline columns) choices number own range distinct = taken_from (Timeline columns) 1 [] choices (no_row_at_first choices) own range distinct
taken_of (Generate blocks) choices number own range distinct = (
  refl,
  blocks_taken (decimal blocks) (decimal_value blocks (omega (arith, number)) (omega (arith, number))) (decimal_fits 1 400 blocks (omega (arith, number)) number.0 number.1 (omega arith)),
  taken_from (Generate blocks) 2 (blocks_row blocks ∷ []) choices (no_row_behind_blocks blocks choices) own range distinct,
)

-- those of words of the form
taken : {words : List Text} {command : Command} {choices : List Choice} {rest : List Text} → BeginInForm words command choices rest
    → AreTaken (leaf command) 1 [] (uses_in command choices)
taken {words} {command} {choices} begin = taken_of command choices begin.number begin.own begin.in_range begin.distinct

-- the words of options are those of their uses
same_words : (choices : List Choice) → option_words choices ≡ words_of (map use_of choices)
same_words [] = refl
same_words (Threads n ∷ rest) = ap (λ words. codes "--threads" ∷ decimal n ∷ words) (same_words rest)
same_words (Steps n ∷ rest) = ap (λ words. codes "--steps" ∷ decimal n ∷ words) (same_words rest)
same_words (Serial ∷ rest) = ap (λ words. codes "--serial" ∷ words) (same_words rest)
same_words (WithHistory ∷ rest) = ap (λ words. codes "--history" ∷ words) (same_words rest)
same_words (WithProfile ∷ rest) = ap (λ words. codes "--profile" ∷ words) (same_words rest)
same_words (Columns n ∷ rest) = ap (λ words. codes "--columns" ∷ decimal n ∷ words) (same_words rest)

-- and so with the words of a command
words_as_uses : (command : Command) (choices : List Choice) (rest : List Text)
    → command_words command ++ option_words choices ++ rest ≡ command_word command ∷ words_of (uses_in command choices) ++ rest
words_as_uses Listing choices rest = ap (λ front. codes "list" ∷ front ++ rest) (same_words choices)
words_as_uses (Run output) choices rest = ap (λ front. codes "run" ∷ front ++ rest) (same_words choices)
words_as_uses Record choices rest = ap (λ front. codes "record" ∷ front ++ rest) (same_words choices)
words_as_uses Profile choices rest = ap (λ front. codes "profile" ∷ front ++ rest) (same_words choices)
words_as_uses (Timeline columns) choices rest = ap (λ front. codes "timeline" ∷ front ++ rest) (same_words choices)
words_as_uses (Generate blocks) choices rest = ap (λ front. codes "gen" ∷ decimal blocks ∷ front ++ rest) (same_words choices)

-- and those of the form
as_uses : {words : List Text} {command : Command} {choices : List Choice} {rest : List Text} → BeginInForm words command choices rest
    → words ≡ command_word command ∷ words_of (uses_in command choices) ++ rest
as_uses {words} {command} {choices} {rest} begin = begin.words_are ∙ words_as_uses command choices rest

-- the uses of words of the form
abbrev uses_of : {words : List Text} → InForm words → List Use
uses_of form = uses_in form.command form.choices

-- with nothing behind them
whole : (words : List Text) (form : InForm words) → words ≡ command_word form.command ∷ words_of (uses_of form)
whole words form = as_uses form.begin ∙ ap (λ rest. command_word form.command ∷ rest) (append-nil (words_of (uses_of form)))

-- ---- no fault, or the one wish

pub form_clean : (words : List Text) → InForm words → fault_of ompt words ≡ []
form_clean words form = ap (fault_of ompt) (whole words form) ∙ uses_clean form.command (uses_of form) (taken form.begin) (required_there form.command form.choices)

pub read_clean : (words : List Text) (command : ReadCommand) → ReadInForm words command → fault_of ompt words ≡ []
read_clean words command is = ap (fault_of ompt) is ∙ alone_clean command

pub asked_wish : (words : List Text) → AskInForm words → IsOneWish (fault_of ompt words)
asked_wish [] (inl asked) = absurd asked
asked_wish (word ∷ rest) (inl asked) = first_asked word rest asked
asked_wish words (inr (inl asked)) =
    subst (λ all. IsOneWish (fault_of ompt all)) (sym (as_uses asked.begin)) (uses_asked asked.command (uses_in asked.command asked.choices) asked.word asked.rest (taken asked.begin) asked.request)
asked_wish words (inr (inr (inl asked))) =
    subst (λ all. IsOneWish (fault_of ompt all)) (sym asked.words_are) (read_asked asked.command asked.word asked.rest asked.request)
asked_wish words (inr (inr (inr asked))) =
    subst (λ all. IsOneWish (fault_of ompt all)) (sym asked.words_are) (uses_asked (Generate 1) [] asked.word asked.rest tt asked.request)

-- ---- the settings

-- the matches of words of the form
form_matched : (words : List Text) (form : InForm words) → subcommand_of ompt words ≡ Some (command_word form.command, rows_in form.command (uses_of form))
form_matched words form = ap (subcommand_of ompt) (whole words form) ∙ uses_matched form.command (uses_of form) (taken form.begin)

-- the texts of their options
form_text : (words : List Text) (form : InForm words) (id : Text) → matched_text words id ≡ one_of id (rows_in form.command (uses_of form))
form_text words form id = ap (option_and_then (λ (found : Text × List Row). one_of id found.1)) (form_matched words form)

-- the number of the command is that of the matches
number_of_form : (words : List Text) (command : Command) (choices : List Choice) → ((id : Text) → matched_text words id ≡ one_of id (rows_in command (uses_in command choices)))
    → HasOwnNumber command choices → All IsInRange choices → HasMatchedNumber words command
number_of_form words Listing choices texts own range = tt
number_of_form words (Run output) choices texts own range =
    subst (λ (history : Bool). IsOutput output history (flag_in (matched_text words (codes "profile")))) (sym (ap flag_in (texts (codes "history")) ∙ history_read (Run output) choices))
    (subst (IsOutput output (has_history choices)) (sym (ap flag_in (texts (codes "profile")) ∙ profile_read (Run output) choices)) own)
number_of_form words Record choices texts own range = tt
number_of_form words Profile choices texts own range = tt
number_of_form words (Timeline columns) choices texts own range =
    own ∙ sym (ap (number_in 10 200 default_columns) (texts (codes "columns")) ∙ columns_read (Timeline columns) choices range)
number_of_form words (Generate blocks) choices texts own range =
    sym (ap (number_in 1 400 1) (texts (codes "blocks")) ∙ blocks_read blocks choices own.0 own.1)

-- of words of the form it is
form_number : (words : List Text) (form : InForm words) → HasMatchedNumber words form.command
form_number words form = number_of_form words form.command form.choices (form_text words form) form.begin.number form.begin.in_range

-- what `run` writes is the one by its flags
apart : {value : Bool} → value ≡ true → value ≡ false → ⊥
apart is not = let wrong : true ≡ false = sym is ∙ not in cc

same_output : (a b : RunOutput) (history profile : Bool) → IsOutput a history profile → IsOutput b history profile → a ≡ b
same_output Printed Printed history profile one other = refl
same_output Printed History history profile one other = absurd (apart other.0 one.0)
same_output Printed Profiled history profile one other = absurd (apart other.1 one.1)
same_output History Printed history profile one other = absurd (apart one.0 other.0)
same_output History History history profile one other = refl
same_output History Profiled history profile one other = absurd (apart one.0 other.0)
same_output Profiled Printed history profile one other = absurd (apart one.1 other.1)
same_output Profiled History history profile one other = absurd (apart other.0 one.0)
same_output Profiled Profiled history profile one other = refl

-- and none where both are there
no_output : (output : RunOutput) (history profile : Bool) → history ≡ true → profile ≡ true → IsOutput output history profile → ⊥
no_output Printed history profile has both is = apart has is.0
no_output History history profile has both is = apart both is.1
no_output Profiled history profile has both is = apart has is.0

-- commands with one name and the numbers of the matches are the same
same_command : (words : List Text) (a b : Command) → command_word a ≡ command_word b → HasMatchedNumber words a → HasMatchedNumber words b → a ≡ b
same_command words Listing Listing same one other = refl
same_command words (Run a) (Run b) same one other = ap Run (same_output a b (flag_in (matched_text words (codes "history"))) (flag_in (matched_text words (codes "profile"))) one other)
same_command words Record Record same one other = refl
same_command words Profile Profile same one other = refl
same_command words (Timeline a) (Timeline b) same one other = ap Timeline (one ∙ sym other)
same_command words (Generate a) (Generate b) same one other = ap Generate (one ∙ sym other)
same_command words a b same one other = absurd (distinct (command_word a) (command_word b) refl refl same)

-- the same of the commands that read what a run has left
same_reader : (a b : ReadCommand) → read_word a ≡ read_word b → a ≡ b
same_reader Show Show same = refl
same_reader Migrate Migrate same = refl
same_reader Check Check same = refl
same_reader Rerun Rerun same = refl
same_reader Tasks Tasks same = refl
same_reader a b same = absurd (distinct (read_word a) (read_word b) refl refl same)

-- no command of the one kind has the word of one of the other
words_differ : (other : ReadCommand) (command : Command) → command_word command ≡ read_word other → ⊥
words_differ Show Listing same = distinct (codes "list") (codes "show") refl refl same
words_differ Migrate Listing same = distinct (codes "list") (codes "migrate") refl refl same
words_differ Check Listing same = distinct (codes "list") (codes "check") refl refl same
words_differ Rerun Listing same = distinct (codes "list") (codes "rerun") refl refl same
words_differ Tasks Listing same = distinct (codes "list") (codes "tasks") refl refl same
words_differ other command same = distinct (command_word command) (read_word other) refl refl same

-- the words name one command
one_name : {words : List Text} {name other : Text} → NamesCommand words name → NamesCommand words other → name ≡ other
one_name one more = ap (λ (found : Option Text). unwrap_or found []) (sym one.command_is ∙ more.command_is)

-- settings are their parts
same_settings : (settings : Settings) (command : Command) (threads steps : ℕ) (serial : Bool) → settings.command ≡ command → settings.threads ≡ threads → settings.steps ≡ steps
    → settings.serial ≡ serial → settings ≡ record { command = command; threads = threads; steps = steps; serial = serial }
same_settings settings command threads steps serial a b c d = rw (← a, ← b, ← c, ← d) refl

-- the command of settings of the words is the one that the words name, with the number of the matches
settings_command : (words : List Text) (settings : Settings) (command : Command) → HaveSettings words settings → NamesCommand words (command_word command) → HasMatchedNumber words command
    → settings.command ≡ command
settings_command words settings command have name number = same_command words settings.command command (one_name have.name name) have.number number

-- words have one kind of settings
settings_once : (words : List Text) (a b : Settings) → HaveSettings words a → HaveSettings words b → a ≡ b
settings_once words a b one other = same_settings a _ _ _ _ (settings_command words a b.command one other.name other.number)
    (one.threads ∙ sym other.threads) (one.steps ∙ sym other.steps)
    (one.serial ∙ ap (λ command. runs_serially command (flag_in (matched_text words (codes "serial")))) (settings_command words a b.command one other.name other.number) ∙ sym other.serial)

-- words are read as one request
pub read_once : (words : List Text) (a b : Request) → AreReadAs words a → AreReadAs words b → a ≡ b
read_once words (request.Run a) (request.Run b) one other = ap request.Run (settings_once words a b one other)
read_once words (request.Run a) (request.Read b) one other = absurd (words_differ b a.command (one_name one.name other))
read_once words (request.Read a) (request.Run b) one other = absurd (words_differ a b.command (one_name other.name one))
read_once words (request.Read a) (request.Read b) one other = ap request.Read (same_reader a b (one_name one other))

-- words that are read have no fault
pub read_taken : (words : List Text) (given : Request) → AreReadAs words given → fault_of ompt words ≡ []
read_taken words (request.Run settings) read = read.name.taken
read_taken words (request.Read command) read = read.taken

-- words of the form name their command
form_name : (words : List Text) (form : InForm words) → NamesCommand words (command_word form.command)
form_name words form = record {
  taken = form_clean words form;
  command_is = ap (option_map (λ (found : Text × List Row). found.0)) (form_matched words form);
}

-- a request that is read of words of the form is their own
pub own_read : (words : List Text) (given : Request) → AreReadAs words given → (form : InForm words) → given ≡ request.Run (own_settings form)
own_read words (request.Run settings) read form =
    let same : settings.command ≡ form.command = settings_command words settings form.command read (form_name words form) (form_number words form) in
    ap request.Run (same_settings settings _ _ _ _ same
    (read.threads ∙ ap (number_in 1 16 default_threads) (form_text words form (codes "threads")) ∙ threads_read form.command form.choices form.begin.in_range)
    (read.steps ∙ ap (number_in 1 30000000 default_steps) (form_text words form (codes "steps")) ∙ steps_read form.command form.choices form.begin.in_range)
    (read.serial ∙ ap (λ command. runs_serially command (flag_in (matched_text words (codes "serial")))) same
    ∙ ap (λ text. runs_serially form.command (flag_in text)) (form_text words form (codes "serial")) ∙ ap (runs_serially form.command) (serial_read form.command form.choices)))
own_read words (request.Read command) read form = absurd (words_differ command form.command (one_name (form_name words form) read))

-- and so is one that is read of words that ask that a trace or a history is read
pub own_command : (words : List Text) (given : Request) → AreReadAs words given → (command : ReadCommand) → ReadInForm words command → given ≡ request.Read command
own_command words given read command is = read_once words given (request.Read command) read (record {
  taken = read_clean words command is;
  command_is = ap (λ all. option_map (λ (found : Text × List Row). found.0) (subcommand_of ompt all)) is ∙ alone_matched command;
})

-- ---- two outputs

-- words that are `run` with both flags aren't read as anything
pub both_unread : (words : List Text) (given : Request) → HoldBoth words → AreReadAs words given → ⊥
both_unread words (request.Run settings) both read = by settings.command read.name read.number
  where
    by : (command : Command) → NamesCommand words (command_word command) → HasMatchedNumber words command → ⊥
    by (Run output) name number = no_output output _ _ both.history both.profile number
    by other name number = distinct (codes "run") (command_word other) refl refl (one_name both.name name)
both_unread words (request.Read command) both read = words_differ command (Run Printed) (one_name both.name read)

-- and aren't of the form
pub both_formless : (words : List Text) → HoldBoth words → InForm words → ⊥
both_formless words both form = by form.command (form_name words form) (form_number words form)
  where
    by : (command : Command) → NamesCommand words (command_word command) → HasMatchedNumber words command → ⊥
    by (Run output) name number = no_output output _ _ both.history both.profile number
    by other name number = distinct (codes "run") (command_word other) refl refl (one_name both.name name)

pub both_unasked : (words : List Text) (command : ReadCommand) → HoldBoth words → ReadInForm words command → ⊥
both_unasked words command both is = both_unread words (request.Read command) both (record {
  taken = read_clean words command is;
  command_is = ap (λ all. option_map (λ (found : Text × List Row). found.0) (subcommand_of ompt all)) is ∙ alone_matched command;
})
