-- The form of the words: a command that runs a program, and then its options in any order, each at most once; or a command that reads a
-- trace or a history, alone.
use Rattle.std.specs.Prelude.{ℕ, Bool, true, false, ⊤, ◌≡◌, ◌≢◌, ◌≤◌, ◌⊎◌, List, [], ◌∷◌, ◌++◌, codes}
use Rattle.std.specs.List.{All}
use Rattle.std.specs.Fmt.{decimal}
use Rattle.ompt_words.specs.declared.settings.Command.{Command}
use Rattle.ompt_words.specs.declared.settings.Command.TheVariants.{Generate, List as Listing, Profile, Record, Run, Timeline}
use Rattle.ompt_words.specs.declared.settings.ReadCommand.{ReadCommand}
use Rattle.ompt_words.specs.declared.settings.ReadCommand.TheVariants.{Check, Migrate, Rerun, Show, Tasks}
use Rattle.ompt_words.specs.declared.settings.RunOutput.{RunOutput}
use Rattle.ompt_words.specs.declared.settings.RunOutput.TheVariants.{History, Printed, Profile as Profiled}
use Rattle.ompt_words.specs.declared.settings.Settings.{Settings}

-- an option: `--threads N`, `--steps N`, `--serial`, `--history`, `--profile` or `--columns N`
pub data Choice : Type 0 where
  Threads : ℕ → Choice
  Steps : ℕ → Choice
  Serial : Choice
  WithHistory : Choice
  WithProfile : Choice
  Columns : ℕ → Choice

-- the name of a command that runs a program
abbrev pub command_word : Command → List ℕ
command_word Listing = codes "list"
command_word (Run output) = codes "run"
command_word Record = codes "record"
command_word Profile = codes "profile"
command_word (Timeline columns) = codes "timeline"
command_word (Generate blocks) = codes "gen"

-- its words before the options: the name, and directly behind `gen` the number of blocks
abbrev pub command_words : Command → List (List ℕ)
command_words Listing = codes "list" ∷ []
command_words (Run output) = codes "run" ∷ []
command_words Record = codes "record" ∷ []
command_words Profile = codes "profile" ∷ []
command_words (Timeline columns) = codes "timeline" ∷ []
command_words (Generate blocks) = codes "gen" ∷ decimal blocks ∷ []

-- the name of a command that reads what a run has left
abbrev pub read_word : ReadCommand → List ℕ
read_word Show = codes "show"
read_word Migrate = codes "migrate"
read_word Check = codes "check"
read_word Rerun = codes "rerun"
read_word Tasks = codes "tasks"

-- the word of an option
abbrev pub option_word : Choice → List ℕ
option_word (Threads n) = codes "--threads"
option_word (Steps n) = codes "--steps"
option_word Serial = codes "--serial"
option_word WithHistory = codes "--history"
option_word WithProfile = codes "--profile"
option_word (Columns n) = codes "--columns"

-- the words of options: the word of each, and behind it its number in decimal, if it has one
abbrev pub option_words : List Choice → List (List ℕ)
option_words [] = []
option_words (Threads n ∷ rest) = codes "--threads" ∷ decimal n ∷ option_words rest
option_words (Steps n ∷ rest) = codes "--steps" ∷ decimal n ∷ option_words rest
option_words (Serial ∷ rest) = codes "--serial" ∷ option_words rest
option_words (WithHistory ∷ rest) = codes "--history" ∷ option_words rest
option_words (WithProfile ∷ rest) = codes "--profile" ∷ option_words rest
option_words (Columns n ∷ rest) = codes "--columns" ∷ decimal n ∷ option_words rest

-- the number of an option is within the limits
abbrev pub IsInRange : Choice → Type 0
IsInRange (Threads n) = (1 ≤ n) × (n ≤ 16)
IsInRange (Steps n) = (1 ≤ n) × (n ≤ 30000000)
IsInRange Serial = ⊤
IsInRange WithHistory = ⊤
IsInRange WithProfile = ⊤
IsInRange (Columns n) = (10 ≤ n) × (n ≤ 200)

-- a command that reads its program has the first three, `run` and `timeline` have one more each, and `gen` has the threads alone
abbrev pub IsReaders : Choice → Type 0
IsReaders (Threads n) = ⊤
IsReaders (Steps n) = ⊤
IsReaders Serial = ⊤
IsReaders WithHistory = ⊥
IsReaders WithProfile = ⊥
IsReaders (Columns n) = ⊥

abbrev pub IsRunners : Choice → Type 0
IsRunners (Threads n) = ⊤
IsRunners (Steps n) = ⊤
IsRunners Serial = ⊤
IsRunners WithHistory = ⊤
IsRunners WithProfile = ⊤
IsRunners (Columns n) = ⊥

abbrev pub IsTimelines : Choice → Type 0
IsTimelines (Threads n) = ⊤
IsTimelines (Steps n) = ⊤
IsTimelines Serial = ⊤
IsTimelines WithHistory = ⊥
IsTimelines WithProfile = ⊥
IsTimelines (Columns n) = ⊤

abbrev pub IsGenerators : Choice → Type 0
IsGenerators (Threads n) = ⊤
IsGenerators (Steps n) = ⊥
IsGenerators Serial = ⊥
IsGenerators WithHistory = ⊥
IsGenerators WithProfile = ⊥
IsGenerators (Columns n) = ⊥

abbrev pub IsOptionOf : Command → Choice → Type 0
IsOptionOf Listing choice = IsReaders choice
IsOptionOf (Run output) choice = IsRunners choice
IsOptionOf Record choice = IsReaders choice
IsOptionOf Profile choice = IsReaders choice
IsOptionOf (Timeline columns) choice = IsTimelines choice
IsOptionOf (Generate blocks) choice = IsGenerators choice

-- no option stands twice
abbrev pub AreDistinct : List Choice → Type 0
AreDistinct [] = ⊤
AreDistinct (choice ∷ rest) = All (λ other. option_word other ≢ option_word choice) rest × AreDistinct rest

-- how many threads there may be, how many silent steps, and how many columns, where the words don't say
abbrev pub default_threads : ℕ
default_threads = 4

abbrev pub default_steps : ℕ
default_steps = 1000000

abbrev pub default_columns : ℕ
default_columns = 72

-- how many columns the options ask for
abbrev pub columns_of : List Choice → ℕ
columns_of [] = default_columns
columns_of (Threads n ∷ rest) = columns_of rest
columns_of (Steps n ∷ rest) = columns_of rest
columns_of (Serial ∷ rest) = columns_of rest
columns_of (WithHistory ∷ rest) = columns_of rest
columns_of (WithProfile ∷ rest) = columns_of rest
columns_of (Columns n ∷ rest) = n

-- whether the options have `--history`
abbrev pub has_history : List Choice → Bool
has_history [] = false
has_history (Threads n ∷ rest) = has_history rest
has_history (Steps n ∷ rest) = has_history rest
has_history (Serial ∷ rest) = has_history rest
has_history (WithHistory ∷ rest) = true
has_history (WithProfile ∷ rest) = has_history rest
has_history (Columns n ∷ rest) = has_history rest

-- whether the options have `--profile`
abbrev pub has_profile : List Choice → Bool
has_profile [] = false
has_profile (Threads n ∷ rest) = has_profile rest
has_profile (Steps n ∷ rest) = has_profile rest
has_profile (Serial ∷ rest) = has_profile rest
has_profile (WithHistory ∷ rest) = has_profile rest
has_profile (WithProfile ∷ rest) = true
has_profile (Columns n ∷ rest) = has_profile rest

-- what `run` writes of its run, by whether `--history` and `--profile` are asked for: not both
abbrev pub IsOutput : RunOutput → Bool → Bool → Type 0
IsOutput Printed history profile = (history ≡ false) × (profile ≡ false)
IsOutput History history profile = (history ≡ true) × (profile ≡ false)
IsOutput Profiled history profile = (history ≡ false) × (profile ≡ true)

-- the number of a command: the columns of a timeline are those of its options, and a program is generated of 1 to 400 blocks.
-- `run` writes what its options say
abbrev pub HasOwnNumber : Command → List Choice → Type 0
HasOwnNumber Listing choices = ⊤
HasOwnNumber (Run output) choices = IsOutput output (has_history choices) (has_profile choices)
HasOwnNumber Record choices = ⊤
HasOwnNumber Profile choices = ⊤
HasOwnNumber (Timeline columns) choices = columns ≡ columns_of choices
HasOwnNumber (Generate blocks) choices = (1 ≤ blocks) × (blocks ≤ 400)

-- the words are this command and these options of it, and then these words
pub record BeginInForm (words : List (List ℕ)) (command : Command) (choices : List Choice) (rest : List (List ℕ)) : Type 0 where
  pub words_are : words ≡ command_words command ++ option_words choices ++ rest
  pub number : HasOwnNumber command choices
  pub own : All (IsOptionOf command) choices
  pub in_range : All IsInRange choices
  pub distinct : AreDistinct choices

-- the words are in the form, and ask for a run
pub record InForm (words : List (List ℕ)) : Type 0 where
  pub command : Command
  pub choices : List Choice
  pub begin : BeginInForm words command choices []

-- the words are in the form, and ask that a trace or a history is read
abbrev pub ReadInForm : List (List ℕ) → ReadCommand → Type 0
ReadInForm words command = words ≡ read_word command ∷ []

-- how many threads the options ask for
abbrev pub threads_of : List Choice → ℕ
threads_of [] = default_threads
threads_of (Threads n ∷ rest) = n
threads_of (Steps n ∷ rest) = threads_of rest
threads_of (Serial ∷ rest) = threads_of rest
threads_of (WithHistory ∷ rest) = threads_of rest
threads_of (WithProfile ∷ rest) = threads_of rest
threads_of (Columns n ∷ rest) = threads_of rest

-- how many silent steps the options ask for
abbrev pub steps_of : List Choice → ℕ
steps_of [] = default_steps
steps_of (Threads n ∷ rest) = steps_of rest
steps_of (Steps n ∷ rest) = n
steps_of (Serial ∷ rest) = steps_of rest
steps_of (WithHistory ∷ rest) = steps_of rest
steps_of (WithProfile ∷ rest) = steps_of rest
steps_of (Columns n ∷ rest) = steps_of rest

-- whether the options have `--serial`
abbrev pub serial_of : List Choice → Bool
serial_of [] = false
serial_of (Threads n ∷ rest) = serial_of rest
serial_of (Steps n ∷ rest) = serial_of rest
serial_of (Serial ∷ rest) = true
serial_of (WithHistory ∷ rest) = serial_of rest
serial_of (WithProfile ∷ rest) = serial_of rest
serial_of (Columns n ∷ rest) = serial_of rest

-- whether a command runs serially, where its options say so or not: a generated program always does
abbrev pub runs_serially : Command → Bool → Bool
runs_serially Listing asked = asked
runs_serially (Run output) asked = asked
runs_serially Record asked = asked
runs_serially Profile asked = asked
runs_serially (Timeline columns) asked = asked
runs_serially (Generate blocks) asked = true

-- the settings that words of the form write, with the defaults
abbrev pub own_settings : {words : List (List ℕ)} → InForm words → Settings
own_settings form = record {
  command = form.command;
  threads = threads_of form.choices;
  steps = steps_of form.choices;
  serial = runs_serially form.command (serial_of form.choices);
}

-- the word asks for help or for the version
abbrev pub IsRequest : List ℕ → Type 0
IsRequest word = ((word ≡ codes "--help") ⊎ (word ≡ codes "-h")) ⊎ ((word ≡ codes "--version") ⊎ (word ≡ codes "-V"))

-- the first word asks so
abbrev pub AskFirst : List (List ℕ) → Type 0
AskFirst [] = ⊥
AskFirst (word ∷ rest) = IsRequest word

-- the words are in the form up to a word that asks so
pub record AskLater (words : List (List ℕ)) : Type 0 where
  pub command : Command
  pub choices : List Choice
  pub word : List ℕ
  pub rest : List (List ℕ)
  pub request : IsRequest word
  pub begin : BeginInForm words command choices (word ∷ rest)

-- the words are a command that reads a trace or a history, and then a word that asks so
pub record AskOfReader (words : List (List ℕ)) : Type 0 where
  pub command : ReadCommand
  pub word : List ℕ
  pub rest : List (List ℕ)
  pub request : IsRequest word
  pub words_are : words ≡ read_word command ∷ word ∷ rest

-- the words are `gen` alone, and then a word that asks so
pub record AskOfGenerator (words : List (List ℕ)) : Type 0 where
  pub word : List ℕ
  pub rest : List (List ℕ)
  pub request : IsRequest word
  pub words_are : words ≡ codes "gen" ∷ word ∷ rest

-- the words ask for help or for the version, with nothing before that isn't of the form
abbrev pub AskInForm : List (List ℕ) → Type 0
AskInForm words = AskFirst words ⊎ (AskLater words ⊎ (AskOfReader words ⊎ AskOfGenerator words))
