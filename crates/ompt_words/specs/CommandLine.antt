-- The command line, as clap is told of it.
use Rattle.std.specs.Prelude.{Some, [], ◌∷◌, ◌++◌, codes, true, pos}
use Rattle.clap.specs.Walk.{Rule, Text}
use Rattle.clap.specs.Simple.{App, Shape, new_app, new_rule, new_shape, with_subcommand}
use Rattle.clap.specs.declared.builder.action.ArgAction.TheVariants.{SetTrue}
use Rattle.clap.specs.declared.builder.value_parser.ValueParser.{ValueParser}
use Rattle.clap.specs.declared.builder.value_parser.ValueParser.TheVariants.{Signed}

-- an option with a number that this parser reads, and one without a number; the long name of each is its id
abbrev pub number_rule : Text → ValueParser → Rule
number_rule id parser = record (new_rule id) { long = Some id; value_names = 1; parser = Some parser }

abbrev pub flag_rule : Text → Rule
flag_rule id = record (new_rule id) { long = Some id; action = Some SetTrue }

-- `--threads N`, where N is from 1 to 16
abbrev pub threads_rule : Rule
threads_rule = number_rule (codes "threads") (Signed (pos 1) (pos 16))

-- `--steps N`, where N is from 1 to 30,000,000
abbrev pub steps_rule : Rule
steps_rule = number_rule (codes "steps") (Signed (pos 1) (pos 30000000))

-- `--serial`
abbrev pub serial_rule : Rule
serial_rule = flag_rule (codes "serial")

-- `--history`
abbrev pub history_rule : Rule
history_rule = flag_rule (codes "history")

-- `--profile`
abbrev pub profile_rule : Rule
profile_rule = flag_rule (codes "profile")

-- `--columns N`, where N is from 10 to 200
abbrev pub columns_rule : Rule
columns_rule = number_rule (codes "columns") (Signed (pos 10) (pos 200))

-- the number of blocks, from 1 to 400, which has to be given and has no option
abbrev pub blocks_rule : Rule
blocks_rule = record (new_rule (codes "blocks")) {
  value_names = 1;
  parser = Some (Signed (pos 1) (pos 400));
  required = true;
}

-- a command with one more option, the last
abbrev pub with_option : Shape → Rule → Shape
with_option shape rule = record shape { rules = shape.rules ++ rule ∷ [] }

-- a command that runs a program, with this name
abbrev pub runner : Text → Shape
runner name = record (new_shape name) { rules = threads_rule ∷ steps_rule ∷ serial_rule ∷ [] }

-- `run` and `timeline`, which have two flags and the columns beside the options of such a command, and `gen`, which has the number of
-- blocks and the threads
abbrev pub run_command : Shape
run_command = record (new_shape (codes "run")) { rules = threads_rule ∷ steps_rule ∷ serial_rule ∷ history_rule ∷ profile_rule ∷ [] }

abbrev pub timeline : Shape
timeline = record (new_shape (codes "timeline")) { rules = threads_rule ∷ steps_rule ∷ serial_rule ∷ columns_rule ∷ [] }

abbrev pub generator : Shape
generator = record (new_shape (codes "gen")) { rules = blocks_rule ∷ threads_rule ∷ [] }

-- the program itself: it needs a command, has a version, and `help` is no command of it
abbrev pub program : App
program = record (new_app (codes "ompt")) {
  top = record (new_shape (codes "ompt")) {
    has_version = true;
    propagate_version = true;
    no_binary_name = true;
    disable_help_subcommand = true;
    subcommand_required = true;
  };
}

-- a command that reads what a run has left, with this name. It has no options
abbrev pub reader : Text → Shape
reader name = new_shape name

-- the program with the first commands that run a program, with all of these, with those that go through a trace, and with all
abbrev pub runners : App
runners = with_subcommand (with_subcommand (with_subcommand program run_command) (runner (codes "list"))) (runner (codes "record"))

abbrev pub reporters : App
reporters = with_subcommand (with_subcommand (with_subcommand runners (runner (codes "profile"))) timeline) generator

abbrev pub trace_readers : App
trace_readers = with_subcommand (with_subcommand (with_subcommand reporters (reader (codes "show"))) (reader (codes "migrate"))) (reader (codes "check"))

abbrev pub ompt : App
ompt = with_subcommand (with_subcommand trace_readers (reader (codes "rerun"))) (reader (codes "tasks"))
