-- What clap's rules find in the words, and what is answered for it.
use Rattle.std.specs.Prelude.{ℕ, Bool, true, false, ⊤, ◌≡◌, ◌≢◌, ◌≤◌, ◌⊎◌, List, [], codes, Option, Some, None, option_and_then, option_map, if◌then◌else◌}
use Rattle.std.specs.Str.{bytes_eq}
use Rattle.std.specs.Str.Parse.{digits_value, without_leading_plus}
use Rattle.clap.specs.ValueTests.{is_unsigned_in}
use Rattle.clap.specs.Walk.{Text, one_of, rows_of}
use Rattle.clap.specs.Simple.{subcommand_of}
use Rattle.clap.specs.Faults.{fault_of}
use Rattle.clap.specs.Kinds.{IsAmong}
use Rattle.clap.specs.declared.error.kind.ErrorKind.{ErrorKind}
use Rattle.clap.specs.declared.error.kind.ErrorKind.TheVariants as kind
use Rattle.clap.specs.declared.parser.matches.Found.{Found}
use Rattle.ompt_words.specs.declared.fault.WordsFault.{WordsFault}
use Rattle.ompt_words.specs.declared.fault.WordsFault.TheVariants.{Usage, Shown, Memory}
use Rattle.ompt_words.specs.declared.settings.Settings.{Settings}
use Rattle.ompt_words.specs.declared.settings.Request.{Request}
use Rattle.ompt_words.specs.declared.settings.Request.TheVariants as request
use Rattle.ompt_words.specs.CommandLine.{ompt}
use Rattle.ompt_words.specs.declared.settings.Command.{Command}
use Rattle.ompt_words.specs.declared.settings.Command.TheVariants.{Generate, List as Listing, Profile, Record, Run, Timeline}
use Rattle.ompt_words.specs.Form.{IsOutput, command_word, default_columns, default_steps, default_threads, read_word, runs_serially}

-- the text of an option in clap's matches, if the command that the words name has one
abbrev pub matched_text : List Text → Text → Option Text
matched_text words id = option_and_then (λ found. one_of id found.1) (subcommand_of ompt words)

-- the number that the text of an option writes, where it is from `low` to `high`; else the default
abbrev pub number_in : ℕ → ℕ → ℕ → Option Text → ℕ
number_in low high default None = default
number_in low high default (Some text) =
    if is_unsigned_in low high text then digits_value 10 (without_leading_plus text) else default

-- whether the text of an option is `true`
abbrev pub flag_in : Option Text → Bool
flag_in None = false
flag_in (Some text) = bytes_eq text (codes "true")

-- clap finds no fault in the words, and the command that they name has this name and these matches
pub record HasFound (words : List Text) (command : List ℕ) (found : Found) : Type 0 where
  pub taken : fault_of ompt words ≡ []
  pub command_is : subcommand_of ompt words ≡ Some (command, rows_of found)

-- clap finds no fault in the words, and the command that they name has this name
pub record NamesCommand (words : List Text) (command : List ℕ) : Type 0 where
  pub taken : fault_of ompt words ≡ []
  pub command_is : option_map (λ found. found.0) (subcommand_of ompt words) ≡ Some command

-- the number of a command is that of the matches: its columns, or its blocks, which have to be given. `run` writes what its flags say
abbrev pub HasMatchedNumber : List Text → Command → Type 0
HasMatchedNumber words Listing = ⊤
HasMatchedNumber words (Run output) = IsOutput output (flag_in (matched_text words (codes "history"))) (flag_in (matched_text words (codes "profile")))
HasMatchedNumber words Record = ⊤
HasMatchedNumber words Profile = ⊤
HasMatchedNumber words (Timeline columns) = columns ≡ number_in 10 200 default_columns (matched_text words (codes "columns"))
HasMatchedNumber words (Generate blocks) = blocks ≡ number_in 1 400 1 (matched_text words (codes "blocks"))

-- clap finds no fault in the words, and these are the settings of its matches
pub record HaveSettings (words : List Text) (settings : Settings) : Type 0 where
  pub name : NamesCommand words (command_word settings.command)
  pub number : HasMatchedNumber words settings.command
  pub threads : settings.threads ≡ number_in 1 16 default_threads (matched_text words (codes "threads"))
  pub steps : settings.steps ≡ number_in 1 30000000 default_steps (matched_text words (codes "steps"))
  pub serial : settings.serial ≡ runs_serially settings.command (flag_in (matched_text words (codes "serial")))
  pub some_threads : 1 ≤ settings.threads
  pub few_threads : settings.threads ≤ 16
  pub some_steps : 1 ≤ settings.steps
  pub few_steps : settings.steps ≤ 30000000

-- clap finds no fault in the words, and they ask for this
abbrev pub AreReadAs : List Text → Request → Type 0
AreReadAs words (request.Run settings) = HaveSettings words settings
AreReadAs words (request.Read command) = NamesCommand words (read_word command)

-- clap's answer is help or the version
abbrev pub IsWish : ErrorKind → Type 0
IsWish found = (found ≡ kind.DisplayHelp) ⊎ (found ≡ kind.DisplayVersion)

-- clap's answer is a mistake in the words, and no want of memory
abbrev pub IsMistake : ErrorKind → Type 0
IsMistake found = (found ≢ kind.DisplayHelp) × (found ≢ kind.DisplayVersion) × (found ≢ kind.OutOfMemory)

-- by clap's rules its answer to the words may be a mistake in them
abbrev pub AreMistaken : List Text → Type 0
AreMistaken words = (found : ErrorKind) × IsAmong found (fault_of ompt words) × IsMistake found

-- clap finds no fault in the words, and they are `run` with both `--history` and `--profile`
pub record HoldBoth (words : List Text) : Type 0 where
  pub name : NamesCommand words (codes "run")
  pub history : flag_in (matched_text words (codes "history")) ≡ true
  pub profile : flag_in (matched_text words (codes "profile")) ≡ true

-- the words are refused for a mistake in them, or for two outputs of one run
abbrev pub AreWrong : List Text → Type 0
AreWrong words = AreMistaken words ⊎ HoldBoth words

-- the words are refused, or there was no memory
abbrev pub IsUsageOrMemory : WordsFault → Type 0
IsUsageOrMemory Usage = ⊤
IsUsageOrMemory (Shown text) = ⊥
IsUsageOrMemory Memory = ⊤

-- by clap's rules its answer to the words may be help or the version
abbrev pub AskForText : List Text → Type 0
AskForText words = (found : ErrorKind) × IsAmong found (fault_of ompt words) × IsWish found

-- the answer fits clap's
abbrev pub IsAnswerTo : ErrorKind → WordsFault → Type 0
IsAnswerTo found Usage = IsMistake found
IsAnswerTo found (Shown text) = IsWish found
IsAnswerTo found Memory = ⊤

-- a text is shown, or there was no memory for it
abbrev pub IsTextOrMemory : WordsFault → Type 0
IsTextOrMemory Usage = ⊥
IsTextOrMemory (Shown text) = ⊤
IsTextOrMemory Memory = ⊤
