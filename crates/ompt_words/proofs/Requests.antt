-- What is answered where clap has matches: a request, or none where the words hold both outputs of a run.
use Rattle.std.proofs.Common.{Err, List, Option, Some, [], ◌≡◌, inr, option_map, true}
use Rattle.std.specs.Prelude.{IfOk, IsErrAnd, MatchOption, MatchResult, None, String, ok_or}
use Rattle.std.specs.declared.alloc.Global.{Global}
use Rattle.clap.specs.Walk.{Text, rows_of}
use Rattle.clap.specs.Simple.{App, is_simple, matches_of, subcommand_of, subcommand_rows_of}
use Rattle.clap.specs.Matches.{found_of, subcommand_name_of}
use Rattle.clap.specs.Faults.{fault_of, is_simple_and_free}
use Rattle.clap.specs.declared.parser.matches.ArgMatches.{ArgMatches}
use Rattle.clap.specs.declared.parser.matches.Found.{Found}
use Rattle.ompt_words.specs.CommandLine.{ompt}
use Rattle.ompt_words.specs.Form.{AskInForm, InForm, ReadInForm, own_settings}
use Rattle.ompt_words.specs.Answers.{AreReadAs, AreWrong, AskForText, HasFound, HoldBoth, IsTextOrMemory, IsUsageOrMemory}
use Rattle.ompt_words.specs.declared.fault.WordsFault.TheVariants.{Memory, Shown, Usage}
use Rattle.ompt_words.specs.declared.settings.ReadCommand.{ReadCommand}
use Rattle.ompt_words.specs.declared.settings.Request.{Request}
use Rattle.ompt_words.specs.declared.settings.Request.TheVariants as request
use Rattle.ompt_words.proofs.Choices.{asked_wish, both_formless, both_unasked, both_unread, own_command, own_read, read_once, read_taken}
use Rattle.ompt_words.proofs.Faults.{command_found, exact, wish_is_fault}

-- what clap's matches tell is what the words name
pub found_in : (app : App) (words : List Text) (m : ArgMatches) (name : Text) (found : Found) → app ≡ ompt
    → (is_simple_and_free app ≡ true → fault_of app words ≡ [])
    → (is_simple app ≡ true → (rows_of (found_of m) ≡ matches_of app words) × (subcommand_rows_of m ≡ subcommand_of app words))
    → Some name ≡ subcommand_name_of m → Some (rows_of found) ≡ option_map (λ p. p.1) (subcommand_rows_of m) → HasFound words name found
found_in app words m name found is kinds matches is_name is_rows = record {
  taken = exact (λ faults. faults ≡ []) app words is kinds;
  command_is = command_found app words m name (rows_of found) is matches is_name is_rows;
}

-- a request that is made of the words, or none where they hold both outputs
abbrev pub IsMadeOf : List Text → Option Request → Type 0
IsMadeOf words made = MatchOption made (HoldBoth words) (AreReadAs words)

-- so the answer keeps each clause
pub made_read : (words : List Text) (made : Option Request) → IsMadeOf words made → IfOk (ok_or made Usage) (AreReadAs words)
made_read words None is = tt
made_read words (Some given) is = is

pub made_usage : (words : List Text) (made : Option Request) → IsMadeOf words made → ok_or made Usage ≡ Err Usage → AreWrong words
made_usage words None is same = inr is
made_usage words (Some given) is same = cc

pub made_shown : (words : List Text) (made : Option Request) (text : String Global) → ok_or made Usage ≡ Err (Shown text) → AskForText words
made_shown words None text same = cc
made_shown words (Some given) text same = cc

pub made_exact : (words : List Text) (made : Option Request) → IsMadeOf words made → (request : Request) → AreReadAs words request
    → MatchResult (ok_or made Usage) (λ given. given ≡ request) (λ fault. fault ≡ Memory)
made_exact words None is request read = absurd (both_unread words request is read)
made_exact words (Some given) is request read = read_once words given request is read

pub made_form : (words : List Text) (made : Option Request) → IsMadeOf words made → (form : InForm words)
    → MatchResult (ok_or made Usage) (λ given. given ≡ request.Run (own_settings form)) (λ fault. fault ≡ Memory)
made_form words None is form = absurd (both_formless words is form)
made_form words (Some given) is form = own_read words given is form

pub made_read_form : (words : List Text) (made : Option Request) → IsMadeOf words made → (command : ReadCommand) → ReadInForm words command
    → MatchResult (ok_or made Usage) (λ given. given ≡ request.Read command) (λ fault. fault ≡ Memory)
made_read_form words None is command form = absurd (both_unasked words command is form)
made_read_form words (Some given) is command form = own_command words given is command form

pub made_asked : (words : List Text) (made : Option Request) → IsMadeOf words made → AskInForm words → IsErrAnd (ok_or made Usage) IsTextOrMemory
made_asked words None is asked = absurd (wish_is_fault _ is.name.taken (asked_wish words asked))
made_asked words (Some given) is asked = absurd (wish_is_fault _ (read_taken words given is) (asked_wish words asked))

pub made_clash : (words : List Text) (made : Option Request) → IsMadeOf words made → HoldBoth words → IsErrAnd (ok_or made Usage) IsUsageOrMemory
made_clash words None is both = tt
made_clash words (Some given) is both = absurd (both_unread words given both is)
