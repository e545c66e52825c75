-- What the commands make of each of their options, and of a word that asks for help or the version.
use Rattle.std.proofs.Common.{refl, ap, codes, true, false, List, Some, [], ◌∷◌, ◌≡◌, ◌∙◌, inl, inr, ℕ}
use Rattle.std.specs.Prelude.{None, pos}
use Rattle.std.specs.Str.{bytes_eq}
use Rattle.std.proofs.Math.Bool.{and-false}
use Rattle.clap.specs.Lexer.{long_of, short_of}
use Rattle.clap.specs.Walk.{Held, Row, Rule, Text, Walk, arg_by_id, arg_by_long, arg_by_short, has_row, option, settled_rows, walked}
use Rattle.clap.specs.Simple.{Shape, built_leaf, filled, help_rule, inherited, new_rule, new_shape, version_rule, with_index}
use Rattle.clap.specs.Faults.{settle_fault, turn_fault}
use Rattle.clap.specs.Kinds.{Kinds}
use Rattle.clap.specs.ValueTests.{accepts}
use Rattle.clap.specs.declared.builder.action.ArgAction.TheVariants.{SetTrue}
use Rattle.clap.specs.declared.builder.value_parser.ValueParser.TheVariants.{Signed}
use Rattle.clap.specs.declared.builder.value_parser.Reading.TheVariants.{AsWritten, WithoutMinus}
use Rattle.clap.specs.declared.error.kind.ErrorKind.{ErrorKind}
use Rattle.clap.specs.declared.error.kind.ErrorKind.TheVariants.{DisplayHelp, DisplayVersion}
use Rattle.clap.proofs.OnLiterals.{clap_on_literals}
use Rattle.ompt_words.specs.CommandLine.{generator, program, run_command, runner, timeline}
use Rattle.ompt_words.specs.Form.{IsRequest, command_word}
use Rattle.ompt_words.specs.Answers.{IsWish}
use Rattle.ompt_words.specs.declared.settings.Command.{Command}
use Rattle.ompt_words.specs.declared.settings.Command.TheVariants.{Generate, List as Listing, Profile, Record, Run, Timeline}
use Rattle.ompt_words.proofs.Uses.{IsBetween, TakesFlag, TakesPlaced, TakesValue, after_flag, after_value, new_row_last, standing}

-- ---- the commands as clap builds them

-- a command with this name and these rules
abbrev pub with_rules : Text → List Rule → Shape
with_rules name rules = record (built_leaf (inherited program.top (new_shape name))) { rules = rules }

-- the rules of a command don't tell its name
abbrev pub readers_rules : List Rule
readers_rules = (built_leaf (inherited program.top (runner []))).rules

abbrev pub run_rules : List Rule
run_rules = (built_leaf (inherited program.top run_command)).rules

abbrev pub timeline_rules : List Rule
timeline_rules = (built_leaf (inherited program.top timeline)).rules

abbrev pub generator_rules : List Rule
generator_rules = (built_leaf (inherited program.top generator)).rules

-- the rules of each command, and the command as clap builds it
abbrev pub rules_of : Command → List Rule
rules_of Listing = readers_rules
rules_of (Run output) = run_rules
rules_of Record = readers_rules
rules_of Profile = readers_rules
rules_of (Timeline columns) = timeline_rules
rules_of (Generate blocks) = generator_rules

abbrev pub leaf : Command → Shape
leaf command = with_rules (command_word command) (rules_of command)

-- the word is a value, and no option
pub record IsValue (word : Text) : Type 0 where
  pub long : long_of word ≡ None
  pub short : short_of word ≡ None
  pub not_dashes : bytes_eq word (45 ∷ 45 ∷ []) ≡ false

-- ---- an option with a number

-- the rule of such an option, as clap fills it in
abbrev number_rule : Text → ℕ → ℕ → Rule
number_rule id low high = with_index 1 (filled (record (new_rule id) { long = Some id; value_names = 1; parser = Some (Signed (pos low) (pos high)) }))

-- among these rules the word is that of an option with a number within the limits
pub record HasNumber (rules : List Rule) (word id : Text) (low high : ℕ) : Type 0 where
  pub long : long_of word ≡ Some (id, None)
  pub not_dashes : bytes_eq word (45 ∷ 45 ∷ []) ≡ false
  pub same : bytes_eq id id ≡ true
  pub by_long : arg_by_long rules id ≡ Some (number_rule id low high)
  pub by_id : arg_by_id rules id ≡ Some (number_rule id low high)

-- the walk behind the word, where the number is still to come
abbrev behind_word : List Rule → Text → ℕ → Held → Walk
behind_word rules id position held = record {
  held = record { rows = settled_rows rules held.pending held.rows; pending = Some (id, []); skip = held.skip };
  waiting = option id;
  position = position;
  is_trailing = false;
  stopped = None;
}

-- the word of the option waits for the number
number_word : (rules : List Rule) (word id : Text) (low high position : ℕ) (held : Held) → HasNumber rules word id low high
    → walked rules [] (standing position held) word ≡ behind_word rules id position held
unfolding walked
number_word rules word id low high position held has = rw (has.not_dashes, has.long, has.by_long) refl

-- and a value behind it is held for the option
number_value : (rules : List Rule) (word id value : Text) (low high position : ℕ) (held : Held) → HasNumber rules word id low high → IsValue value
    → walked rules [] (behind_word rules id position held) value ≡ standing position (after_value rules held id value)
unfolding walked
number_value rules word id value low high position held has is = rw (is.not_dashes, is.long, is.short, has.by_id, has.same) refl

-- neither the word is a fault
word_clean : (name : Text) (rules : List Rule) (word id : Text) (low high position : ℕ) (held : Held) → HasNumber rules word id low high → settle_fault rules false held ≡ []
    → turn_fault (with_rules name rules) [] (standing position held) word ≡ []
word_clean name rules word id low high position held has clean = rw (has.not_dashes, has.long, has.by_long, clean) refl

-- nor the value behind it
value_clean : (name : Text) (rules : List Rule) (id value : Text) (position : ℕ) (held : Held) → IsValue value
    → turn_fault (with_rules name rules) [] (behind_word rules id position held) value ≡ []
value_clean name rules id value position held is = rw (is.not_dashes, is.long, is.short) refl

pub number_taken : (name : Text) (rules : List Rule) (word id value : Text) (low high : ℕ) → HasNumber rules word id low high → IsValue value
    → accepts false (Signed (pos low) (pos high)) value ≡ true → TakesValue (with_rules name rules) word id value
number_taken name rules word id value low high has is fits = record {
  walk = λ position held. ap (λ from. walked rules [] from value) (number_word rules word id low high position held has)
      ∙ number_value rules word id value low high position held has is;
  word_clean = λ position held clean. word_clean name rules word id low high position held has clean;
  value_clean = λ position held. ap (λ from. turn_fault (with_rules name rules) [] from value) (number_word rules word id low high position held has)
      ∙ value_clean name rules id value position held is;
  settles = record {
    clean = λ rows skip none. rw (has.by_id, none, fits) refl;
    gives = λ rows none. rw has.by_id (new_row_last id WithoutMinus value rows none);
  };
}

-- ---- a flag

-- the rule of a flag, as clap fills it in
abbrev pub filled_flag : Text → Rule
filled_flag id = with_index 1 (filled (record (new_rule id) { long = Some id; action = Some SetTrue }))

-- among these rules the word is that of a flag
pub record HasFlag (rules : List Rule) (word id : Text) : Type 0 where
  pub long : long_of word ≡ Some (id, None)
  pub not_dashes : bytes_eq word (45 ∷ 45 ∷ []) ≡ false
  pub by_long : arg_by_long rules id ≡ Some (filled_flag id)

-- its row comes last
flag_walk : (rules : List Rule) (word id : Text) (position : ℕ) (held : Held) → HasFlag rules word id → has_row id (settled_rows rules held.pending held.rows) ≡ false
    → walked rules [] (standing position held) word ≡ standing position (after_flag rules held id)
unfolding walked
flag_walk rules word id position held has none = rw (has.not_dashes, has.long, has.by_long) (ap (λ rows. standing position (record { rows = rows; pending = None; skip = held.skip }))
    (new_row_last id AsWritten (codes "true") (settled_rows rules held.pending held.rows) none))

-- and it is no fault
flag_clean : (name : Text) (rules : List Rule) (word id : Text) (position : ℕ) (held : Held) → HasFlag rules word id → settle_fault rules false held ≡ []
    → has_row id (settled_rows rules held.pending held.rows) ≡ false → turn_fault (with_rules name rules) [] (standing position held) word ≡ []
flag_clean name rules word id position held has clean none = rw (has.not_dashes, has.long, has.by_long, clean, none) refl

pub flag_taken : (name : Text) (rules : List Rule) (word id : Text) → HasFlag rules word id → TakesFlag (with_rules name rules) word id
flag_taken name rules word id has = record {
  walk = λ position held none. flag_walk rules word id position held has none;
  clean = λ position held clean none. flag_clean name rules word id position held has clean none;
}

-- ---- the number of blocks

-- a first word that is a value is held for the number of blocks
blocks_walk : (value : Text) (held : Held) → IsValue value
    → walked generator_rules [] (standing 1 held) value ≡ standing 2 (after_value generator_rules held (codes "blocks") value)
unfolding clap_on_literals
blocks_walk value held is = rw (is.not_dashes, is.long, is.short, and-false) refl

-- and it is no fault
blocks_clean : (value : Text) (held : Held) → IsValue value → settle_fault generator_rules false held ≡ []
    → turn_fault (with_rules (codes "gen") generator_rules) [] (standing 1 held) value ≡ []
unfolding clap_on_literals
blocks_clean value held is clean = rw (is.not_dashes, is.long, is.short, and-false, clean) refl

pub blocks_taken : (value : Text) → IsValue value → accepts false (Signed (pos 1) (pos 400)) value ≡ true
    → TakesPlaced (with_rules (codes "gen") generator_rules) 1 (codes "blocks") value
blocks_taken value is fits = record {
  walk = λ held. blocks_walk value held is;
  clean = λ held clean. blocks_clean value held is clean;
  settles = record {
    clean = λ rows skip none. rw (none, fits) refl;
    gives = λ rows none. new_row_last (codes "blocks") WithoutMinus value rows none;
  };
}

-- ---- which options the commands have

-- the options of a command that reads its program
pub record HasReaders (rules : List Rule) : Type 0 where
  pub threads : HasNumber rules (codes "--threads") (codes "threads") 1 16
  pub steps : HasNumber rules (codes "--steps") (codes "steps") 1 30000000
  pub serial : HasFlag rules (codes "--serial") (codes "serial")

pub readers_have : HasReaders readers_rules
readers_have = record {
  threads = record { long = refl; not_dashes = refl; same = refl; by_long = refl; by_id = refl };
  steps = record { long = refl; not_dashes = refl; same = refl; by_long = refl; by_id = refl };
  serial = record { long = refl; not_dashes = refl; by_long = refl };
}

pub run_has : HasReaders run_rules
run_has = record {
  threads = record { long = refl; not_dashes = refl; same = refl; by_long = refl; by_id = refl };
  steps = record { long = refl; not_dashes = refl; same = refl; by_long = refl; by_id = refl };
  serial = record { long = refl; not_dashes = refl; by_long = refl };
}

pub run_history : HasFlag run_rules (codes "--history") (codes "history")
run_history = record { long = refl; not_dashes = refl; by_long = refl }

pub run_profile : HasFlag run_rules (codes "--profile") (codes "profile")
run_profile = record { long = refl; not_dashes = refl; by_long = refl }

pub timeline_has : HasReaders timeline_rules
timeline_has = record {
  threads = record { long = refl; not_dashes = refl; same = refl; by_long = refl; by_id = refl };
  steps = record { long = refl; not_dashes = refl; same = refl; by_long = refl; by_id = refl };
  serial = record { long = refl; not_dashes = refl; by_long = refl };
}

pub timeline_columns : HasNumber timeline_rules (codes "--columns") (codes "columns") 10 200
timeline_columns = record { long = refl; not_dashes = refl; same = refl; by_long = refl; by_id = refl }

pub generator_threads : HasNumber generator_rules (codes "--threads") (codes "threads") 1 16
generator_threads = record { long = refl; not_dashes = refl; same = refl; by_long = refl; by_id = refl }

-- ---- help and the version

-- one answer, which is help or the version
pub record IsOneWish (kinds : Kinds) : Type 0 where
  pub wish : ErrorKind
  pub is : IsWish wish
  pub alone : kinds ≡ wish ∷ []

-- the rules have both, by their long and their short words
record HasTexts (rules : List Rule) : Type 0 where
  help : arg_by_long rules (codes "help") ≡ Some (with_index 1 (filled help_rule))
  short_help : arg_by_short rules 104 ≡ Some (with_index 1 (filled help_rule))
  version : arg_by_long rules (codes "version") ≡ Some (with_index 1 (filled version_rule))
  short_version : arg_by_short rules 86 ≡ Some (with_index 1 (filled version_rule))

-- each command has them
has_texts : (command : Command) → HasTexts (rules_of command)
has_texts Listing = record { help = refl; short_help = refl; version = refl; short_version = refl }
has_texts (Run output) = record { help = refl; short_help = refl; version = refl; short_version = refl }
has_texts Record = record { help = refl; short_help = refl; version = refl; short_version = refl }
has_texts Profile = record { help = refl; short_help = refl; version = refl; short_version = refl }
has_texts (Timeline columns) = record { help = refl; short_help = refl; version = refl; short_version = refl }
has_texts (Generate blocks) = record { help = refl; short_help = refl; version = refl; short_version = refl }

-- the answers to each of these words
help_asked : (name : Text) (rules : List Rule) (position : ℕ) (held : Held) → HasTexts rules → settle_fault rules false held ≡ []
    → turn_fault (with_rules name rules) [] (standing position held) (codes "--help") ≡ DisplayHelp ∷ []
unfolding clap_on_literals
help_asked name rules position held has clean = rw (has.help, clean) refl

version_asked : (name : Text) (rules : List Rule) (position : ℕ) (held : Held) → HasTexts rules → settle_fault rules false held ≡ []
    → turn_fault (with_rules name rules) [] (standing position held) (codes "--version") ≡ DisplayVersion ∷ []
unfolding clap_on_literals
version_asked name rules position held has clean = rw (has.version, clean) refl

short_help_asked : (name : Text) (rules : List Rule) (position : ℕ) (held : Held) → HasTexts rules → settle_fault rules false held ≡ [] → held.skip ≡ 0
    → turn_fault (with_rules name rules) [] (standing position held) (codes "-h") ≡ DisplayHelp ∷ []
unfolding clap_on_literals
short_help_asked name rules position held has clean skip = rw (skip, has.short_help, clean) refl

short_version_asked : (name : Text) (rules : List Rule) (position : ℕ) (held : Held) → HasTexts rules → settle_fault rules false held ≡ [] → held.skip ≡ 0
    → turn_fault (with_rules name rules) [] (standing position held) (codes "-V") ≡ DisplayVersion ∷ []
unfolding clap_on_literals
short_version_asked name rules position held has clean skip = rw (skip, has.short_version, clean) refl

-- a command that is asked so between two uses has that one answer
pub asked_between : (command : Command) (position : ℕ) (held : Held) (rows : List Row) (word : Text) → IsBetween (leaf command) held rows → IsRequest word
    → IsOneWish (turn_fault (leaf command) [] (standing position held) word)
asked_between command position held rows word here (inl (inl is)) =
    record { wish = DisplayHelp; is = inl refl; alone = rw is (help_asked (command_word command) (rules_of command) position held (has_texts command) here.clean) }
asked_between command position held rows word here (inl (inr is)) =
    record { wish = DisplayHelp; is = inl refl; alone = rw is (short_help_asked (command_word command) (rules_of command) position held (has_texts command) here.clean here.none_skipped) }
asked_between command position held rows word here (inr (inl is)) =
    record { wish = DisplayVersion; is = inr refl; alone = rw is (version_asked (command_word command) (rules_of command) position held (has_texts command) here.clean) }
asked_between command position held rows word here (inr (inr is)) =
    record { wish = DisplayVersion; is = inr refl; alone = rw is (short_version_asked (command_word command) (rules_of command) position held (has_texts command) here.clean here.none_skipped) }
