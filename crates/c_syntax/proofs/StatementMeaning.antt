-- What the sorts of statements, sections and the parts of files mean by the productions.
use Rattle.std.proofs.Common.{ℕ, ◌⊎◌, List, ◌∷◌, Option, Some, None}
use Rattle.c_syntax.specs.declared.grammar.Class.TheVariants as class
use Rattle.c_syntax.specs.declared.head.Head.TheVariants as head
use Rattle.c_syntax.specs.declared.node.NodeKind.TheVariants as node
use Rattle.c_syntax.specs.declared.node.Returns.TheVariants as returning
use Rattle.c_syntax.specs.declared.node.Sign.TheVariants as sign
use Rattle.c_syntax.specs.declared.term.Term.TheVariants as term
use Rattle.c_syntax.specs.language.Words.{Word}
use Rattle.c_syntax.specs.language.Tree.{Tree}
use Rattle.c_syntax.specs.language.Productions.{Block, FileParts, Is, Items, MoreParameters, MoreSections, MoreVariables, NoElse, Parameters, Section, Sections, Statement, Variable}
use Rattle.c_syntax.proofs.CallMeaning.{BehindName, ReadsRight, ReadsStatement}
use Rattle.c_syntax.proofs.Effects.{Deepens, Effect, Expects, Makes, Opens, Rises, Takes}
use Rattle.c_syntax.proofs.HeadMeaning.{ReadsConstruct}
use Rattle.c_syntax.proofs.Standing.{AddsAll, AddsMaybe, AddsOne}

-- ---- statements

-- [ "else" statement ]
pub data ElsePart : (limit depth : ℕ) → List Word → List Word → Option Tree → Type 0 where
  none : {limit depth : ℕ} {rest : List Word} → NoElse rest → ElsePart limit depth rest rest None
  some : {limit depth : ℕ} {words rest : List Word} {word : Word} {tree : Tree} → Is term.Else word → Statement limit depth words rest tree
      → ElsePart limit depth (word ∷ words) rest (Some tree)

abbrev pub ReadsElsePart : ℕ → Effect → Effect
ReadsElsePart limit next depth at words nodes = AddsMaybe head.Outside (ElsePart limit depth) next depth at words nodes

abbrev pub ReadsReturnPart : ℕ → Effect → Effect
ReadsReturnPart limit next depth at words nodes = next depth at words nodes ⊎ ReadsRight limit next depth at words nodes

abbrev pub ReadsBlock : ℕ → Effect → Effect
ReadsBlock limit next depth at words nodes = AddsOne head.Outside (Block limit depth) next depth at words nodes

abbrev pub ReadsItems : ℕ → Effect → Effect
ReadsItems limit next depth at words nodes = AddsAll head.Outside (Items limit depth) next depth at words nodes

-- ---- sections

abbrev pub ReadsSections : ℕ → Effect → Effect
ReadsSections limit next depth at words nodes = AddsAll head.Outside (Sections limit depth) next depth at words nodes

abbrev pub ReadsFirstSection : ℕ → Effect → Effect
ReadsFirstSection limit next depth at words nodes =
    AddsOne head.Outside (λ words rest tree. Statement limit depth words rest tree ⊎ Section limit depth words rest tree) next depth at words nodes

abbrev pub ReadsMoreSections : ℕ → Effect → Effect
ReadsMoreSections limit next depth at words nodes = AddsAll head.Outside (MoreSections limit depth) next depth at words nodes

-- a section from its word on
abbrev pub ReadsSection : ℕ → Effect → Effect
ReadsSection limit next = Expects term.Section (Expects term.PragmaEnd (ReadsStatement limit (Makes node.Section (Rises next))))

abbrev pub ReadsSectionOrConstruct : ℕ → Effect → Effect
ReadsSectionOrConstruct limit next depth at words nodes = ReadsSection limit next depth at words nodes ⊎ ReadsConstruct limit next depth at words nodes

-- ---- files

abbrev pub ReadsParts : ℕ → Effect → Effect
ReadsParts limit next depth at words nodes = AddsAll head.Outside (FileParts limit depth) next depth at words nodes

abbrev pub ReadsProgram : ℕ → Effect → Effect
ReadsProgram limit next = Opens (ReadsParts limit (Expects term.End (Makes node.Program next)))

abbrev pub ReadsParameters : Effect → Effect
ReadsParameters next = AddsOne head.Outside Parameters next

abbrev pub ReadsMoreParameters : Effect → Effect
ReadsMoreParameters next = AddsAll head.Outside MoreParameters next

-- the parameters of a function and its block
abbrev pub ReadsBody : ℕ → Effect → Effect
ReadsBody limit next = ReadsParameters (Expects term.CloseParen (Opens (Expects term.OpenBrace (ReadsItems limit (Expects term.CloseBrace (Makes node.Block next))))))

abbrev pub ReadsVariable : Effect → Effect
ReadsVariable next = AddsOne head.Outside Variable next

abbrev pub ReadsGlobalRest : Effect → Effect
ReadsGlobalRest next = BehindName (ReadsVariable next)

abbrev pub ReadsMoreVariables : Effect → Effect
ReadsMoreVariables next = AddsAll head.Outside MoreVariables next

-- the number that a variable is set to
abbrev pub ReadsInitial : Effect → Effect
ReadsInitial next depth at words nodes =
    Expects term.Minus (Takes class.Number (Makes (node.GlobalSet sign.Minus) next)) depth at words nodes
    ⊎ Takes class.Number (Makes (node.GlobalSet sign.Plus) next) depth at words nodes

-- behind `int` and a name: the rest of a function, or of variables
abbrev pub ReadsIntFunction : ℕ → Effect → Effect
ReadsIntFunction limit next = Makes node.Name (Deepens limit term.OpenParen (ReadsBody limit (Makes (node.Function returning.Int) (Rises next))))

abbrev pub ReadsIntVariables : Effect → Effect
ReadsIntVariables next = ReadsGlobalRest (ReadsMoreVariables (Expects term.Semicolon (Makes node.Globals next)))

abbrev pub ReadsAfterIntName : ℕ → Effect → Effect
ReadsAfterIntName limit next depth at words nodes = ReadsIntFunction limit next depth at words nodes ⊎ ReadsIntVariables next depth at words nodes
