-- What the words ask for.
use Rattle.std.specs.Prelude.{ℕ, ◌≡◌, ◌≤◌, ◌⊎◌, List, map, string_bytes}
use Rattle.std.specs.declared.{string.String.String, alloc.Global.Global}
use Rattle.ompt_words.specs.declared.settings.Request.TheVariants as request
use Rattle.ompt_words.specs.declared.fault.WordsFault.TheVariants as fault
use Rattle.ompt_cli.specs.Names.{Settings, ReadCommand, WordsFault, Request, AreReadAs, AreWrong, AskForText, HoldBoth, IsTextOrMemory, IsUsageOrMemory, AskInForm, InForm, ReadInForm, own_settings}

-- the bytes of each word
abbrev pub texts : List (String Global) → List (List ℕ)
texts words = map string_bytes words

-- the words ask for a run with these settings: they are in the form and write these, or clap reads them so
abbrev pub AskFor : List (List ℕ) → Settings → Type 0
AskFor words settings = ((form : InForm words) × (settings ≡ own_settings form)) ⊎ AreReadAs words (request.Run settings)

-- the words ask for a run
abbrev pub AskForRun : List (List ℕ) → Type 0
AskForRun words = (settings : Settings) × AskFor words settings

-- the words ask that a trace or a history file is read, by this command
abbrev pub AskToRead : List (List ℕ) → ReadCommand → Type 0
AskToRead words command = ReadInForm words command ⊎ AreReadAs words (request.Read command)

-- the words were read as this request: whatever they ask for is this
pub record AreTakenAs (words : List (List ℕ)) (found : Request) : Type 0 where
  pub read : AreReadAs words found
  pub exact : (other : Request) → AreReadAs words other → found ≡ other
  pub form : (form : InForm words) → found ≡ request.Run (own_settings form)
  pub read_form : (command : ReadCommand) → ReadInForm words command → found ≡ request.Read command
  pub no_help : ¬ AskInForm words
  pub not_both : ¬ HoldBoth words

-- the words were read as no request, for this: those that ask for one have no other fault than want of memory
pub record AreFaulty (words : List (List ℕ)) (found : WordsFault) : Type 0 where
  pub usage : found ≡ fault.Usage → AreWrong words
  pub shown : (text : String Global) → found ≡ fault.Shown text → AskForText words
  pub exact : (other : Request) → AreReadAs words other → found ≡ fault.Memory
  pub form : InForm words → found ≡ fault.Memory
  pub read_form : (command : ReadCommand) → ReadInForm words command → found ≡ fault.Memory
  pub help : AskInForm words → IsTextOrMemory found
  pub clash : HoldBoth words → IsUsageOrMemory found

-- how many threads and silent steps a run may have
pub record AreInRange (settings : Settings) : Type 0 where
  pub some : 1 ≤ settings.threads
  pub few : settings.threads ≤ 16
  pub steps : 1 ≤ settings.steps
  pub bounded : settings.steps ≤ 30000000
