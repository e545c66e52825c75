-- What the productions of files spell, the table derives.
use Rattle.std.proofs.Common.{ℕ, ◌≡◌, ◌<◌, ◌+◌, List, [], ◌∷◌, Some, refl, sym, ap, ◌∙◌}
use Rattle.std.proofs.lemmas.Bool.{false≢true}
use Rattle.c_syntax.specs.declared.term.Term.{Term}
use Rattle.c_syntax.specs.declared.term.Term.TheVariants as term
use Rattle.c_syntax.specs.declared.grammar.Class.TheVariants as class
use Rattle.c_syntax.specs.declared.grammar.Step.{Step}
use Rattle.c_syntax.specs.declared.grammar.Step.TheVariants.{Expect, Take, Read, Open, Make}
use Rattle.c_syntax.specs.declared.grammar.Sort.TheVariants as sort
use Rattle.c_syntax.specs.declared.head.Head.{Head}
use Rattle.c_syntax.specs.declared.head.Head.TheVariants as head
use Rattle.c_syntax.specs.declared.node.Parameters.TheVariants as params
use Rattle.c_syntax.specs.declared.node.Returns.TheVariants as returning
use Rattle.c_syntax.specs.declared.node.NodeKind.TheVariants as kind
use Rattle.c_syntax.specs.language.Words.{Word}
use Rattle.c_syntax.specs.language.Tree.{Tree}
use Rattle.c_syntax.specs.language.Tree.Tree.{Node}
use Rattle.c_syntax.specs.language.Tree.Children.{Over}
use Rattle.c_syntax.specs.workings.Grammar.{choice}
use Rattle.c_syntax.specs.workings.Derivation.{Derives, Opened, SpellsWithin, opened_at}
use Rattle.c_syntax.specs.language.Productions.{Block, FileParts, Function, Is, IsName, IsProgram, Locks, MoreParameters, MoreVariables, Parameters, Size, Variable, Variables, name_node}
use Rattle.c_syntax.proofs.Pushing.{Ends, all_added, is_end, plus}
use Rattle.c_syntax.proofs.DeclaredWords.{locks_derive}
use Rattle.c_syntax.proofs.Steps.{expect-back, make-back, read-as}
use Rattle.c_syntax.proofs.Onward.{deepen_word, expect_word, read_word}
use Rattle.c_syntax.proofs.OutsideSteps.{make, rise, take_number}
use Rattle.c_syntax.proofs.OutsideSteps as outside
use Rattle.c_syntax.proofs.StatementParts.{IsAt, ends_at, goes, items_read}

-- a node that has taken this name
abbrev pub named : Word → Opened
named word = record { spot = word.spot; name = word.value; number = 0; text = []; children = [] }

-- a node begins with a name
take_name : {limit depth : ℕ} {steps : List Step} {word : Word} {words : List Word} {outer : List Opened} {whole : Tree} → IsName head.Outside word
    → Derives limit steps depth head.Outside words (named word ∷ outer) whole → Derives limit (Open ∷ Take class.Name ∷ steps) depth head.Outside (word ∷ words) outer whole
take_name fit reading = Derives.open_node (outside.take_name fit reading)

-- ---- variables

-- a variable without size and value, before a comma or a semicolon
plain_rest : {limit depth : ℕ} {steps : List Step} {rest : List Word} (word : Word) {own : Opened} {outer : List Opened} {whole : Tree} → Ends rest
    → Derives limit steps depth head.Outside rest (plus (Some (Node kind.GlobalVar word.spot word.value 0 [] Over)) (own ∷ outer)) whole
    → Derives limit (Read sort.GlobalRest ∷ steps) depth head.Outside rest (named word ∷ own ∷ outer) whole
plain_rest {rest = []} word ends reading = absurd ends
plain_rest {limit} {depth} {steps} {rest = next ∷ rest} word {own} {outer} {whole} ends reading = by-word next.term refl
  where
    by-word : (which : Term) → next.term ≡ which → Derives limit (Read sort.GlobalRest ∷ steps) depth head.Outside (next ∷ rest) (named word ∷ own ∷ outer) whole
    by-word term.OpenBracket same = absurd (false≢true (ap is_end (sym same) ∙ ends))
    by-word term.Set same = absurd (false≢true (ap is_end (sym same) ∙ ends))
    by-word other same = Derives.read (ap (choice sort.GlobalRest) same) (Derives.make reading)

-- a variable: its name, and from there on
pub record VariableReads (word : Word) (words rest : List Word) (tree : Tree) : Type 0 where
  pub is_named : IsName head.Outside word
  pub reads : {limit depth : ℕ} {steps : List Step} {own : Opened} {outer : List Opened} {whole : Tree} → Ends rest → Derives limit steps depth head.Outside rest (plus (Some tree) (own ∷ outer)) whole
      → Derives limit (Read sort.GlobalRest ∷ steps) depth head.Outside words (named word ∷ own ∷ outer) whole

-- a variable begins with its name
data StartsVariable : List Word → List Word → Tree → Type 0 where
  starts : {word : Word} {words rest : List Word} {tree : Tree} → VariableReads word words rest tree → StartsVariable (word ∷ words) rest tree

-- .. whichever it is
variable_reads : {words rest : List Word} {tree : Tree} → Variable words rest tree → StartsVariable words rest tree
variable_reads (Variable.plain {word = word} fit) = StartsVariable.starts record { is_named = fit; reads = λ ends reading. plain_rest word ends reading }
variable_reads (Variable.array fit (Size.size opens number closes)) = StartsVariable.starts record {
  is_named = fit;
  reads = λ ends reading. read_word _ opens refl (expect_word opens (take_number number (expect_word closes (Derives.make reading))));
}
variable_reads (Variable.set fit sets number) = StartsVariable.starts record {
  is_named = fit;
  reads = λ ends reading. read_word _ sets refl (expect_word sets (read_word _ number refl (take_number number (Derives.make reading))));
}
variable_reads (Variable.set_below fit sets minus number) = StartsVariable.starts record {
  is_named = fit;
  reads = λ ends reading. read_word _ sets refl (expect_word sets (read_word _ minus refl (expect_word minus (take_number number (Derives.make reading)))));
}

-- a comma or a semicolon is next
more-ends : {words rest : List Word} {trees : List Tree} → MoreVariables words rest trees → IsAt term.Semicolon rest → Ends words
more-ends {rest = []} MoreVariables.last at = absurd at
more-ends {rest = word ∷ rest} MoreVariables.last at = ends_at word rest at refl
more-ends (MoreVariables.further {words = words} {comma = word} comma variable more) at = ends_at word words comma refl

-- further variables, up to the semicolon
more_variables_read : {limit depth : ℕ} {steps : List Step} {words rest : List Word} {trees : List Tree} {own : Opened} {outer : List Opened} {whole : Tree} → MoreVariables words rest trees → IsAt term.Semicolon rest
    → Derives limit steps depth head.Outside rest (all_added trees (own ∷ outer)) whole → Derives limit (Read sort.MoreGlobals ∷ steps) depth head.Outside words (own ∷ outer) whole
more_variables_read {rest = []} MoreVariables.last at reading = absurd at
more_variables_read {rest = word ∷ rest} MoreVariables.last at reading = read_word _ at refl reading
more_variables_read (MoreVariables.further comma variable more) at reading = further (variable_reads variable) comma (more-ends more at) (more_variables_read more at reading)
  where
    further : {limit depth : ℕ} {steps : List Step} {words behind : List Word} {word : Word} {tree : Tree} {own : Opened} {outer : List Opened} {whole : Tree} → StartsVariable words behind tree → Is term.Comma word → Ends behind
        → Derives limit (Read sort.MoreGlobals ∷ steps) depth head.Outside behind (plus (Some tree) (own ∷ outer)) whole
        → Derives limit (Read sort.MoreGlobals ∷ steps) depth head.Outside (word ∷ words) (own ∷ outer) whole
    further (StartsVariable.starts part) comma ends reading = read_word _ comma refl (expect_word comma (take_name part.is_named (part.reads ends reading)))

-- behind the name of the first variable no parenthesis is next
no-parenthesis : {limit depth : ℕ} {at : Head} {steps : List Step} {word : Word} {words : List Word} {nodes : List Opened} {whole : Tree} → word.term ≡ term.OpenParen
    → Derives limit (Read sort.GlobalRest ∷ Read sort.MoreGlobals ∷ Expect term.Semicolon ∷ steps) depth at (word ∷ words) nodes whole → ⊥
no-parenthesis {word = word} same reading =
    let rest = make-back (read-as (ap (choice sort.GlobalRest) same) reading) in
    let ends = expect-back (read-as (ap (choice sort.MoreGlobals) same) rest) in
    paren-semicolon (sym same ∙ ends.0)
  where
    paren-semicolon : term.OpenParen ≡ term.Semicolon → ⊥
    paren-semicolon wrong = cc

-- .. so that variables follow
after_name : {limit depth : ℕ} {at : Head} {steps : List Step} {words : List Word} {nodes : List Opened} {whole : Tree}
    → Derives limit (Read sort.GlobalRest ∷ Read sort.MoreGlobals ∷ Expect term.Semicolon ∷ Make kind.Globals ∷ steps) depth at words nodes whole
    → Derives limit (Read sort.AfterIntName ∷ steps) depth at words nodes whole
after_name {words = []} reading = absurd (goes reading)
after_name {limit} {depth} {at} {steps} {words = word ∷ words} {nodes} {whole} reading = by-word word.term refl
  where
    by-word : (which : Term) → word.term ≡ which → Derives limit (Read sort.AfterIntName ∷ steps) depth at (word ∷ words) nodes whole
    by-word term.OpenParen same = absurd (no-parenthesis same reading)
    by-word other same = Derives.read (ap (choice sort.AfterIntName) same) reading

-- variables of the file
variables_read : {limit depth : ℕ} {steps : List Step} {words rest : List Word} {tree : Tree} {own : Opened} {outer : List Opened} {whole : Tree} → Variables words rest tree
    → Derives limit (Read sort.Globals ∷ steps) depth head.Outside rest (plus (Some tree) (own ∷ outer)) whole → Derives limit (Read sort.Globals ∷ steps) depth head.Outside words (own ∷ outer) whole
variables_read (Variables.variables {word = word} {tree = tree} {trees = trees} int variable more ends) reading =
    begun (variable_reads variable) int (more-ends more ends) (more_variables_read more ends (expect_word ends (make kind.Globals (tree ∷ trees) (opened_at word.spot) reading)))
  where
    begun : {limit depth : ℕ} {steps : List Step} {words behind : List Word} {word : Word} {tree : Tree} {own : Opened} {outer : List Opened} {whole : Tree} → StartsVariable words behind tree → Is term.Int word → Ends behind
        → Derives limit (Read sort.MoreGlobals ∷ Expect term.Semicolon ∷ Make kind.Globals ∷ Read sort.Globals ∷ steps) depth head.Outside behind (plus (Some tree) (opened_at word.spot ∷ own ∷ outer)) whole
        → Derives limit (Read sort.Globals ∷ steps) depth head.Outside (word ∷ words) (own ∷ outer) whole
    begun (StartsVariable.starts part) int ends reading = read_word _ int refl (Derives.open_node (expect_word int (take_name part.is_named (after_name (part.reads ends reading)))))

-- ---- functions

-- further parameters, up to the parenthesis
more_parameters_read : {limit depth : ℕ} {steps : List Step} {words rest : List Word} {trees : List Tree} {own : Opened} {outer : List Opened} {whole : Tree} → MoreParameters words rest trees → IsAt term.CloseParen rest
    → Derives limit steps depth head.Outside rest (all_added trees (own ∷ outer)) whole → Derives limit (Read sort.MoreParams ∷ steps) depth head.Outside words (own ∷ outer) whole
more_parameters_read {rest = []} MoreParameters.last at reading = absurd at
more_parameters_read {rest = word ∷ rest} MoreParameters.last at reading = read_word _ at refl reading
more_parameters_read (MoreParameters.further comma int fit more) at reading =
    read_word _ comma refl (expect_word comma (expect_word int (take_name fit (Derives.make (more_parameters_read more at reading)))))

-- parameters
parameters_read : {limit depth : ℕ} {steps : List Step} {words rest : List Word} {tree : Tree} {own : Opened} {outer : List Opened} {whole : Tree} → Parameters words rest tree → IsAt term.CloseParen rest
    → Derives limit steps depth head.Outside rest (plus (Some tree) (own ∷ outer)) whole → Derives limit (Read sort.Params ∷ steps) depth head.Outside words (own ∷ outer) whole
parameters_read Parameters.empty at reading = read_word _ at refl (Derives.open_node (Derives.make reading))
parameters_read (Parameters.void void) at reading = read_word _ void refl (Derives.open_node (expect_word void (Derives.make reading)))
parameters_read (Parameters.listed {word = word} {name = name} {trees = trees} int fit more) at reading =
    read_word _ int refl (Derives.open_node (expect_word int (take_name fit (Derives.make (more_parameters_read more at (make (kind.Params params.Listed) (name_node name ∷ trees) (opened_at word.spot) reading))))))

-- a function from its parameters on, whose word or parenthesis made it deeper
body_reads : {limit depth : ℕ} {steps : List Step} {words behind rest : List Word} {last : Word} {parameters body : Tree} {own : Opened} {outer : List Opened} {whole : Tree} → Parameters words (last ∷ behind) parameters
    → Is term.CloseParen last → Block limit depth behind rest body → Derives limit steps (depth + 1) head.Outside rest (plus (Some body) (plus (Some parameters) (own ∷ outer))) whole
    → Derives limit (Read sort.Body ∷ steps) (depth + 1) head.Outside words (own ∷ outer) whole
body_reads parameters closes (Block.block {word = word} {trees = trees} begins low items ends) reading =
    from_parameters (parameters_read parameters closes (expect_word closes (Derives.open_node (expect_word begins ((items_read items).reads ends (expect_word ends (make kind.Block trees (opened_at word.spot) reading)))))))
  where
    from_parameters : {limit depth : ℕ} {at : Head} {steps : List Step} {words : List Word} {nodes : List Opened} {whole : Tree}
        → Derives limit (Read sort.Params ∷ Expect term.CloseParen ∷ Open ∷ Expect term.OpenBrace ∷ Read sort.Items ∷ Expect term.CloseBrace ∷ Make kind.Block ∷ steps) depth at words nodes whole
        → Derives limit (Read sort.Body ∷ steps) depth at words nodes whole
    from_parameters {words = []} reading = absurd (goes reading)
    from_parameters {words = word ∷ words} reading = Derives.read refl reading

-- a block is not too deep
block-low : {limit depth : ℕ} {words rest : List Word} {tree : Tree} → Block limit depth words rest tree → depth < limit
block-low (Block.block begins low items closes) = low

-- a function
function_reads : {limit depth : ℕ} {steps : List Step} {words rest : List Word} {tree : Tree} {own : Opened} {outer : List Opened} {whole : Tree} → Function limit depth words rest tree
    → Derives limit (Read sort.Globals ∷ steps) depth head.Outside rest (plus (Some tree) (own ∷ outer)) whole → Derives limit (Read sort.Globals ∷ steps) depth head.Outside words (own ∷ outer) whole
function_reads (Function.function returning.Int int fit opens parameters closes body) reading =
    read_word _ int refl (Derives.open_node (expect_word int (take_name fit (read_word _ opens refl (Derives.make (deepen_word opens (block-low body) (body_reads parameters closes body (Derives.make (rise reading)))))))))
function_reads (Function.function returning.Void void fit opens parameters closes body) reading =
    read_word _ void refl (Derives.open_node (deepen_word void (block-low body) (take_name fit (Derives.make (expect_word opens (body_reads parameters closes body (Derives.make (rise reading))))))))

-- ---- the whole file

-- locks of the file
locks_read : {limit depth : ℕ} {steps : List Step} {words rest : List Word} {tree : Tree} {own : Opened} {outer : List Opened} {whole : Tree} → Locks words rest tree
    → Derives limit (Read sort.Globals ∷ steps) depth head.Outside rest (plus (Some tree) (own ∷ outer)) whole → Derives limit (Read sort.Globals ∷ steps) depth head.Outside words (own ∷ outer) whole
locks_read (Locks.locks type names ends) reading = read_word _ type refl (locks_derive (Locks.locks type names ends) reading)

-- the parts of a file, up to its end
parts_read : {limit depth : ℕ} {steps : List Step} {words rest : List Word} {trees : List Tree} {own : Opened} {outer : List Opened} {whole : Tree} → FileParts limit depth words rest trees → IsAt term.End rest
    → Derives limit steps depth head.Outside rest (all_added trees (own ∷ outer)) whole → Derives limit (Read sort.Globals ∷ steps) depth head.Outside words (own ∷ outer) whole
parts_read {rest = []} FileParts.none at reading = absurd at
parts_read {rest = word ∷ rest} FileParts.none at reading = read_word _ at refl reading
parts_read (FileParts.include include parts) at reading = read_word _ include refl (Derives.open_node (expect_word include (Derives.make (parts_read parts at reading))))
parts_read (FileParts.function function parts) at reading = function_reads function (parts_read parts at reading)
parts_read (FileParts.variables variables parts) at reading = variables_read variables (parts_read parts at reading)
parts_read (FileParts.locks locks parts) at reading = locks_read locks (parts_read parts at reading)

-- a program by the productions is one by the table
pub program_derives : (limit : ℕ) (words : List Word) (tree : Tree) → IsProgram limit words tree → SpellsWithin limit words tree
program_derives limit words tree (IsProgram.program {first = first} {trees = trees} parts ends) =
    Derives.read refl (Derives.open_node (parts_read parts ends (expect_word ends (make kind.Program trees (opened_at first.spot) (Derives.over refl)))))
