-- A command with one more option, or with one more command of its own.
use Rattle.std.proofs.Common.{Err, Ok, Result, false, ◌≡◌, ◌∙◌, ap, refl}
use Rattle.std.specs.Prelude.{IfOk}
use Rattle.std.proofs.lemmas.Result.{IfOk-at_ok}
use Rattle.clap.specs.Simple.{App, Shape, with_subcommand}
use Rattle.clap.specs.Walk.{Rule}
use Rattle.clap.specs.Words.{AddsArg, AddsSubcommand, app_of, rule_of, shape_of}
use Rattle.clap.specs.declared.builder.arg.Arg.{Arg}
use Rattle.clap.specs.declared.builder.command.Command.{Command}
use Rattle.clap.specs.declared.builder.command.Command.TheViews.{out-Command}
use Rattle.ompt_words.specs.CommandLine.{with_option}

-- a command has no global option
abbrev IsLocal : Command → Type 0
IsLocal command = (out-Command command).has_globals ≡ false

pub option_added : {E : Type 0} → (made result : Result Command E) (old : Command) (option : Arg) → made ≡ Ok old → IfOk result (AddsArg old option)
    → option.global ≡ false → (shape : Shape) (rule : Rule) → IfOk made (λ command. shape_of command ≡ shape) → rule_of option ≡ rule
    → IfOk result (λ command. shape_of command ≡ with_option shape rule)
option_added made (Ok command) old option is adds local shape rule is_shape is_rule =
    ap (λ (app : App). app.top) (adds.shape local)
    ∙ ap (λ before. with_option before (rule_of option)) (IfOk-at_ok (λ before. shape_of before ≡ shape) is is_shape) ∙ ap (with_option shape) is_rule
option_added made (Err fault) old option is adds local shape rule is_shape is_rule = tt

pub option_local : {E : Type 0} → (made result : Result Command E) (old : Command) (option : Arg) → made ≡ Ok old → IfOk result (AddsArg old option)
    → option.global ≡ false → IfOk made (λ command. (out-Command command).has_globals ≡ false) → IfOk result (λ command. (out-Command command).has_globals ≡ false)
option_local made (Ok command) old option is adds local before = adds.globals ∙ rw (IfOk-at_ok IsLocal is before, local) refl
option_local made (Err fault) old option is adds local before = tt

pub command_added : {E : Type 0} → (line more result : Result Command E) (old sub : Command) → line ≡ Ok old → more ≡ Ok sub → IfOk result (AddsSubcommand old sub)
    → IfOk more (λ command. (out-Command command).has_globals ≡ false) → (app : App) (shape : Shape) → IfOk line (λ command. app_of command ≡ app)
    → IfOk more (λ command. shape_of command ≡ shape) → IfOk result (λ command. app_of command ≡ with_subcommand app shape)
command_added line more (Ok command) old sub is_old is_sub adds local app shape is_app is_shape =
    adds.shape (IfOk-at_ok IsLocal is_sub local) ∙ ap (λ before. with_subcommand before (shape_of sub)) (IfOk-at_ok (λ before. app_of before ≡ app) is_old is_app)
    ∙ ap (with_subcommand app) (IfOk-at_ok (λ command. shape_of command ≡ shape) is_sub is_shape)
command_added line more (Err fault) old sub is_old is_sub adds local app shape is_app is_shape = tt

pub command_local : {E : Type 0} → (line more result : Result Command E) (old sub : Command) → line ≡ Ok old → more ≡ Ok sub → IfOk result (AddsSubcommand old sub)
    → IfOk line (λ command. (out-Command command).has_globals ≡ false) → IfOk more (λ command. (out-Command command).has_globals ≡ false)
    → IfOk result (λ command. (out-Command command).has_globals ≡ false)
command_local line more (Ok command) old sub is_old is_sub adds before local = adds.globals ∙ rw (IfOk-at_ok IsLocal is_old before, IfOk-at_ok IsLocal is_sub local) refl
command_local line more (Err fault) old sub is_old is_sub adds before local = tt
