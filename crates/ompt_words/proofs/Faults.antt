-- What clap's answer tells of the words.
use Rattle.std.proofs.Common.{Err, Ok, Result, refl, ap, sym, subst, codes, true, Bool, List, Some, [], ◌∷◌, ◌≡◌, ◌∙◌, ◌≤◌, ◌⊎◌, inl, inr, option_map, arith}
use Rattle.std.specs.Prelude.{None, option_and_then, ⊤}
use Rattle.clap.specs.Walk.{Row, Text, one_of, rows_of}
use Rattle.clap.specs.Simple.{App, is_simple, matches_of, subcommand_of, subcommand_rows_of}
use Rattle.clap.specs.Matches.{found_of, one_text, subcommand_name_of}
use Rattle.clap.specs.Faults.{fault_of, is_simple_and_free}
use Rattle.clap.specs.Kinds.{HasKind, IsAmong, Kinds}
use Rattle.clap.specs.Values.{kind_of}
use Rattle.clap.specs.declared.error.Error.{Error}
use Rattle.clap.specs.declared.error.kind.ErrorKind.{ErrorKind}
use Rattle.clap.specs.declared.error.kind.ErrorKind.TheVariants.{DisplayHelp, DisplayVersion, OutOfMemory}
use Rattle.clap.specs.declared.parser.matches.ArgMatches.{ArgMatches}
use Rattle.clap.specs.declared.parser.matches.Found.{Found}
use Rattle.clap.proofs.WalkLemmas.{one_text-rows}
use Rattle.ompt_words.specs.CommandLine.{ompt}
use Rattle.ompt_words.specs.Form.{IsOutput, command_word, default_columns, default_steps, default_threads, runs_serially}
use Rattle.ompt_words.specs.Answers.{AreWrong, AskForText, HaveSettings, HoldBoth, IsAnswerTo, IsMistake, IsTextOrMemory, IsWish, HasMatchedNumber, NamesCommand, flag_in, matched_text, number_in}
use Rattle.ompt_words.specs.declared.fault.WordsFault.{WordsFault}
use Rattle.ompt_words.specs.declared.fault.WordsFault.TheVariants.{Memory, Shown, Usage}
use Rattle.ompt_words.specs.declared.settings.Command.{Command}
use Rattle.ompt_words.specs.declared.settings.Command.TheVariants.{Generate, List as Listing, Profile, Record, Run, Timeline}
use Rattle.ompt_words.specs.declared.settings.Settings.{Settings}
use Rattle.ompt_words.specs.declared.settings.Request.{Request}
use Rattle.ompt_words.proofs.Levels.{both_of, generator_left}
use Rattle.ompt_words.proofs.Options.{IsOneWish, generator_rules}
use Rattle.ompt_words.proofs.RowIds.{IsForeign, no_text}

-- ---- an error

-- clap's exact rules speak of the program
simple_and_free : is_simple_and_free ompt ≡ true
simple_and_free = refl

simple : is_simple ompt ≡ true
simple = refl

-- clap's exact answer, at the command of the program
pub exact : (P : Kinds → Type 0) (app : App) (words : List Text) → app ≡ ompt → (is_simple_and_free app ≡ true → P (fault_of app words)) → P (fault_of ompt words)
exact P app words is answer = subst (λ a. P (fault_of a words)) is (answer (ap is_simple_and_free is ∙ simple_and_free))

-- a fault as a result, and the fault of a result
abbrev as_result : WordsFault → Result Request WordsFault
as_result fault = Err fault

abbrev fault_in : WordsFault → Result Request WordsFault → WordsFault
fault_in other (Ok given) = other
fault_in other (Err fault) = fault

-- the fault of a result is one
pub same_fault : (a b : WordsFault) → as_result a ≡ as_result b → a ≡ b
same_fault a b same = ap (fault_in a) same

pub wrong_words : (words : List Text) (e : Error) → HasKind (fault_of ompt words) e → IsMistake (kind_of e) → AreWrong words
wrong_words words e (inl memory) mistake = absurd (mistake.2 memory)
wrong_words words e (inr among) mistake = inl (kind_of e, among, mistake)

-- want of memory is no wish
no_memory_wish : (found : ErrorKind) → found ≡ OutOfMemory → IsWish found → ⊥
no_memory_wish found memory (inl help) = let wrong : OutOfMemory ≡ DisplayHelp = sym memory ∙ help in cc
no_memory_wish found memory (inr version) = let wrong : OutOfMemory ≡ DisplayVersion = sym memory ∙ version in cc

pub asking_words : (words : List Text) (e : Error) → HasKind (fault_of ompt words) e → IsWish (kind_of e) → AskForText words
asking_words words e (inl memory) wish = absurd (no_memory_wish (kind_of e) memory wish)
asking_words words e (inr among) wish = (kind_of e, among, wish)

-- where there is no fault, only memory is wanting
pub only_memory : (kinds : Kinds) (e : Error) (fault : WordsFault) → kinds ≡ [] → HasKind kinds e → IsAnswerTo (kind_of e) fault → fault ≡ Memory
only_memory kinds e fault none kind answer = by fault answer (rw none at kind)
  where
    by : (fault : WordsFault) → IsAnswerTo (kind_of e) fault → (kind_of e ≡ OutOfMemory) ⊎ IsAmong (kind_of e) [] → fault ≡ Memory
    by Usage answer (inl memory) = absurd (answer.2 memory)
    by Usage answer (inr among) = absurd among
    by (Shown text) answer (inl memory) = absurd (no_memory_wish (kind_of e) memory answer)
    by (Shown text) answer (inr among) = absurd among
    by Memory answer kind = refl

-- and a wish is no mistake
no_wish_mistake : (found wish : ErrorKind) → IsWish wish → found ≡ wish → IsMistake found → ⊥
no_wish_mistake found wish (inl help) is mistake = mistake.0 (is ∙ help)
no_wish_mistake found wish (inr version) is mistake = mistake.1 (is ∙ version)

-- where there is a wish alone, its text is shown, or memory is wanting
pub text_or_memory : (kinds : Kinds) (e : Error) (fault : WordsFault) → IsOneWish kinds → HasKind kinds e → IsAnswerTo (kind_of e) fault → IsTextOrMemory fault
text_or_memory kinds e fault one kind answer = by fault answer (rw one.alone at kind)
  where
    by : (fault : WordsFault) → IsAnswerTo (kind_of e) fault → (kind_of e ≡ OutOfMemory) ⊎ IsAmong (kind_of e) (one.wish ∷ []) → IsTextOrMemory fault
    by Usage answer (inl memory) = answer.2 memory
    by Usage answer (inr (inl is)) = no_wish_mistake (kind_of e) one.wish one.is is answer
    by Usage answer (inr (inr none)) = none
    by (Shown text) answer kind = tt
    by Memory answer kind = tt

-- a wish is a fault
pub wish_is_fault : (kinds : Kinds) → kinds ≡ [] → IsOneWish kinds → ⊥
wish_is_fault kinds none one = let wrong : [] ≡ one.wish ∷ [] = sym none ∙ one.alone in cc

-- ---- matches

-- the command that the matches tell of, with its rows
pub command_found : (app : App) (words : List Text) (m : ArgMatches) (name : Text) (rows : List Row) → app ≡ ompt
    → (is_simple app ≡ true → (rows_of (found_of m) ≡ matches_of app words) × (subcommand_rows_of m ≡ subcommand_of app words))
    → Some name ≡ subcommand_name_of m → Some rows ≡ option_map (λ p. p.1) (subcommand_rows_of m) → subcommand_of ompt words ≡ Some (name, rows)
command_found app words m name rows is matches is_name is_rows =
    sym (subst (λ a. subcommand_rows_of m ≡ subcommand_of a words) is (matches (ap is_simple is ∙ simple)).1) ∙ both_of m name rows is_name is_rows

-- the text of an option that a getter reads is that of the matches
pub text_matched : (words : List Text) (name : Text) (found : Found) (id : Text) → subcommand_of ompt words ≡ Some (name, rows_of found) → one_text found id ≡ matched_text words id
text_matched words name found id is = one_text-rows found id ∙ sym (ap (option_and_then (λ (p : Text × List Row). one_of id p.1)) is)

-- the words name the command that was found
pub command_read : (words : List Text) (name : Text) (rows : List Row) (other : Text) → fault_of ompt words ≡ [] → subcommand_of ompt words ≡ Some (name, rows) → name ≡ other
    → NamesCommand words other
command_read words name rows other clean found is = record {
  taken = clean;
  command_is = ap (option_map (λ (found : Text × List Row). found.0)) found ∙ ap (λ (word : Text). Some word) is;
}

-- matches of `run` with both flags are words that hold both
pub both_held : (words : List Text) (name : Text) (found : Found) → fault_of ompt words ≡ [] → subcommand_of ompt words ≡ Some (name, rows_of found) → name ≡ codes "run"
    → flag_in (one_text found (codes "history")) ≡ true → flag_in (one_text found (codes "profile")) ≡ true → HoldBoth words
both_held words name found clean is_found is history profile = record {
  name = command_read words name (rows_of found) (codes "run") clean is_found is;
  history = sym (ap flag_in (text_matched words name found (codes "history") is_found)) ∙ history;
  profile = sym (ap flag_in (text_matched words name found (codes "profile") is_found)) ∙ profile;
}

-- the number of a command is that of its matches
abbrev pub HasFoundNumber : Found → Command → Type 0
HasFoundNumber found Listing = ⊤
HasFoundNumber found (Run output) = IsOutput output (flag_in (one_text found (codes "history"))) (flag_in (one_text found (codes "profile")))
HasFoundNumber found Record = ⊤
HasFoundNumber found Profile = ⊤
HasFoundNumber found (Timeline columns) = columns ≡ number_in 10 200 default_columns (one_text found (codes "columns"))
HasFoundNumber found (Generate blocks) = blocks ≡ number_in 1 400 1 (one_text found (codes "blocks"))

-- it is that of the words
number_matched : (words : List Text) (found : Found) (command : Command) → ((id : Text) → one_text found id ≡ matched_text words id) → HasFoundNumber found command → HasMatchedNumber words command
number_matched words found Listing texts number = tt
number_matched words found (Run output) texts number =
    subst (λ (history : Bool). IsOutput output history (flag_in (matched_text words (codes "profile")))) (ap flag_in (texts (codes "history")))
    (subst (IsOutput output (flag_in (one_text found (codes "history")))) (ap flag_in (texts (codes "profile"))) number)
number_matched words found Record texts number = tt
number_matched words found Profile texts number = tt
number_matched words found (Timeline columns) texts number = number ∙ ap (number_in 10 200 default_columns) (texts (codes "columns"))
number_matched words found (Generate blocks) texts number = number ∙ ap (number_in 1 400 1) (texts (codes "blocks"))

-- and settings of its matches are those of the words
pub settings_read : (words : List Text) (name : Text) (found : Found) (settings : Settings) (command : Command) → fault_of ompt words ≡ []
    → subcommand_of ompt words ≡ Some (name, rows_of found) → name ≡ command_word command → settings.command ≡ command → HasFoundNumber found command
    → settings.threads ≡ number_in 1 16 default_threads (one_text found (codes "threads"))
    → settings.steps ≡ number_in 1 30000000 default_steps (one_text found (codes "steps"))
    → settings.serial ≡ runs_serially command (flag_in (one_text found (codes "serial")))
    → 1 ≤ settings.threads → settings.threads ≤ 16 → 1 ≤ settings.steps → settings.steps ≤ 30000000 → HaveSettings words settings
settings_read words name found settings command clean is_found is own number threads steps serial some few some_steps few_steps = record {
  name = command_read words name (rows_of found) (command_word settings.command) clean is_found (is ∙ ap command_word (sym own));
  number = subst (HasMatchedNumber words) (sym own) (number_matched words found command (λ id. text_matched words name found id is_found) number);
  threads = threads ∙ ap (number_in 1 16 default_threads) (text_matched words name found (codes "threads") is_found);
  steps = steps ∙ ap (number_in 1 30000000 default_steps) (text_matched words name found (codes "steps") is_found);
  serial = serial ∙ ap (λ text. runs_serially command (flag_in text)) (text_matched words name found (codes "serial") is_found)
      ∙ ap (λ ran. runs_serially ran (flag_in (matched_text words (codes "serial")))) (sym own);
  some_threads = some;
  few_threads = few;
  some_steps = some_steps;
  few_steps = few_steps;
}

-- the matches of `gen` have no text of an id that isn't one of its rules'
generator_text : (words : List Text) (name : Text) (rows : List Row) (id : Text) → subcommand_of ompt words ≡ Some (name, rows) → name ≡ codes "gen" → IsForeign id generator_rules
    → one_of id rows ≡ None
generator_text words name rows id is gen foreign =
    let entered = generator_left words name rows is gen in ap (one_of id) entered.are_rows ∙ no_text id generator_rules foreign entered.words

-- settings of the matches of `gen` are those of the words, too: it has no other option than the threads
pub generator_read : (words : List Text) (name : Text) (found : Found) (settings : Settings) → fault_of ompt words ≡ [] → subcommand_of ompt words ≡ Some (name, rows_of found)
    → name ≡ codes "gen" → settings.command ≡ Generate (number_in 1 400 1 (one_text found (codes "blocks")))
    → settings.threads ≡ number_in 1 16 default_threads (one_text found (codes "threads")) → settings.steps ≡ default_steps → settings.serial ≡ true
    → 1 ≤ settings.threads → settings.threads ≤ 16 → HaveSettings words settings
generator_read words name found settings clean is_found is own threads steps serial some few =
    settings_read words name found settings (Generate (number_in 1 400 1 (one_text found (codes "blocks")))) clean is_found is own refl threads
    (steps ∙ ap (number_in 1 30000000 default_steps) (sym no_steps)) serial some few (rw steps (omega arith)) (rw steps (omega arith))
  where
    no_steps : one_text found (codes "steps") ≡ None
    no_steps = one_text-rows found (codes "steps") ∙ generator_text words name (rows_of found) (codes "steps") is_found is (refl, (refl, (refl, (refl, tt))))
