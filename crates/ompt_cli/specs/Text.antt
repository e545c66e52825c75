-- The texts that run, with their programs, and the refusals of all others.
-- What a command comes to that has a text to run: the program that it spells, or an end before a run.
use Rattle.std.specs.Prelude.{ℕ, ◌≡◌, ◌<◌, ◌≤◌, List, [], ◌∷◌, length, Option, Some, None, IfSome, IsSomeAnd}
use Rattle.ompt_words.specs.declared.settings.Command.TheVariants.{Generate}
use Rattle.ompt_cli.specs.Names.{Spot, Token, beginning, Reads, EndsIn, main_of, Tree, TreeView, root_tree, HasSyntaxFault, IsTreeOf, CheckFault, rule_fault_in, generated, Command}
use Rattle.ompt_cli.specs.{declared.end.Refusal.Refusal, declared.end.Refusal.TheVariants.Tokens, declared.end.Refusal.TheVariants.Syntax, declared.end.Refusal.TheVariants.Rule}
use Rattle.ompt_cli.specs.{declared.end.Refusal.TheVariants.TooLong, Commands.IsBeforeRun, Commands.MayRefuse, Commands.MayRun, declared.end.End.End, declared.end.End.TheVariants.Refused}
use Rattle.ompt_cli.specs.{declared.job.LoadedProgram.LoadedProgram, declared.report.ProgramTree.ProgramTree}

-- the text that a command runs: what the source has left, and of `gen` the generated program
abbrev pub text_for : Command → Option (List ℕ) → Option (List ℕ)
text_for (Generate blocks) left = Some (generated blocks)
text_for other left = left

-- the text is read as these tokens, and is a program by the grammar with this tree
pub record HasTree (text : List ℕ) (tokens : List Token) (tree : Tree) : Type 0 where
  pub read : Reads beginning text tokens
  pub tree_is : IsTreeOf text tree

-- where a text with these tokens ends: at the last of them
abbrev pub end_at : Spot → List Token → Spot
end_at spot [] = spot
end_at spot (first ∷ tokens) = end_at first.spot tokens

abbrev pub end_of : List Token → Spot
end_of tokens = end_at (record { line = 1; column = 1 }) tokens

-- the rule that a text with these tokens and this tree breaks first, if it breaks one
abbrev pub rule_broken : List ℕ → List Token → Tree → Option CheckFault
rule_broken text tokens tree = rule_fault_in tree (end_of tokens) (main_of text tokens)

-- a tree that was read is that of the text, with its end and the number of its name `main`
pub record IsReadAs (text : List ℕ) (program : TreeView) : Type 0 where
  pub tokens : List Token
  pub has : HasTree text tokens (root_tree program)
  pub end_is : program.end ≡ end_of tokens
  pub main_is : program.main ≡ main_of text tokens

-- the text spells this program: it isn't too long, this was read of it, and no rule is broken
pub record Spells (text : List ℕ) (program : TreeView) : Type 0 where
  pub short : length text ≤ 65536
  pub read : IsReadAs text program
  pub keeps : rule_fault_in (root_tree program) program.end program.main ≡ None

-- the text is refused for this: it is too long, or else its reading as tokens ends in this fault, or else it is no program by the
-- grammar, or else this is the first rule that it breaks
abbrev pub IsRefused : Refusal → List ℕ → Type 0
IsRefused (Tokens found) text = (length text ≤ 65536) × EndsIn beginning text found
IsRefused (Syntax found) text = (length text ≤ 65536) × HasSyntaxFault text found
IsRefused (Rule found) text =
    (length text ≤ 65536) × ((tokens : List Token) × (tree : Tree) × HasTree text tokens tree × (rule_broken text tokens tree ≡ Some found))
IsRefused TooLong text = 65536 < length text

-- the text runs
abbrev pub IsProgram : List ℕ → Type 0
IsProgram text = (program : TreeView) × Spells text program

-- contracts see the program and the text of what was loaded
pub record IsOf (loaded : LoadedProgram) (program : ProgramTree) : Type 0 where
  pub tree : program.tree.value ≡ loaded.program
  pub text : program.text.value ≡ loaded.text

-- this was loaded of the text: a program that it spells
pub record IsLoaded (text : Option (List ℕ)) (loaded : LoadedProgram) : Type 0 where
  pub spelled : Spells loaded.text.items loaded.program
  pub same : IfSome text (λ text. text ≡ loaded.text.items)

-- The end of a command that comes before its run. If it is a refusal, then for a reason that the text has. Each text that has a reason is
-- refused for it, and none is that spells a program, unless a read or memory fails.
pub record EndsFor (text : Option (List ℕ)) (end : End) : Type 0 where
  pub before : IsBeforeRun end
  pub refused : (why : Refusal) → end ≡ Refused why → IfSome text (IsRefused why)
  pub accepted : (why : Refusal) → IsSomeAnd text (IsRefused why) → MayRefuse why end
  pub runs : IsSomeAnd text IsProgram → MayRun end
