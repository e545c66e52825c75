-- The table's rules of the parts of files do no more than what their sorts mean.
use Rattle.std.proofs.Common.{ℕ, ◌≡◌, ◌<◌, ◌+◌, inl, inr, IsTrue, List, [], ◌∷◌, Some, ap, subst}
use Rattle.c_syntax.specs.declared.grammar.Class.TheVariants as class
use Rattle.c_syntax.specs.declared.head.Head.{Head}
use Rattle.c_syntax.specs.declared.head.Head.TheVariants as head
use Rattle.c_syntax.specs.declared.node.NodeKind.TheVariants as node
use Rattle.c_syntax.specs.declared.node.Parameters.TheVariants as params
use Rattle.c_syntax.specs.declared.node.Returns.{Returns}
use Rattle.c_syntax.specs.declared.node.Returns.TheVariants as returning
use Rattle.c_syntax.specs.declared.node.Sign.TheVariants as sign
use Rattle.c_syntax.specs.declared.term.Term.TheVariants as term
use Rattle.c_syntax.specs.language.Heads.{behind_outside}
use Rattle.c_syntax.specs.language.Words.{Word}
use Rattle.c_syntax.specs.language.Tree.{Tree}
use Rattle.c_syntax.specs.language.Tree.Tree.{Node}
use Rattle.c_syntax.specs.language.Tree.Children.{Over}
use Rattle.c_syntax.specs.language.WordClasses.{is_name}
use Rattle.c_syntax.specs.workings.Derivation.{Opened, keep, kept, opened_at, with_child}
use Rattle.c_syntax.specs.language.Productions.{Block, FileParts, Function, Is, Items, MoreParameters, MoreVariables, Parameters, Size, Variable, Variables, kids, made_at, name_node, named_at, returns_word}
use Rattle.c_syntax.proofs.CallMeaning.{Named, ReadsLocks}
use Rattle.c_syntax.proofs.CallRows.{by_name, name_taken}
use Rattle.c_syntax.proofs.DeclaredRows.{number-is}
use Rattle.c_syntax.proofs.Effects.{Effect, Deepens, Expects, Makes, Opens, Rises, Takes}
use Rattle.c_syntax.proofs.ExpressionFolds.{lowered}
use Rattle.c_syntax.proofs.Pushing.{all_added, made-pushed}
use Rattle.c_syntax.proofs.Standing.{Stands}
use Rattle.c_syntax.proofs.StatementMeaning.{ReadsAfterIntName, ReadsBody, ReadsGlobalRest, ReadsInitial, ReadsItems, ReadsMoreParameters, ReadsMoreVariables, ReadsParameters, ReadsParts, ReadsVariable}

-- ---- parameters

pub parameters_empty : (next : Effect) (depth : ℕ) (at : Head) (words : List Word) (nodes : List Opened) → Opens (Makes (node.Params params.Empty) next) depth at words nodes
    → ReadsParameters next depth at words nodes
parameters_empty next depth at [] nodes fails stands = absurd fails
parameters_empty next depth at (word ∷ words) [] goes stands = elim stands [ ]
parameters_empty next depth at (word ∷ words) (own ∷ outer) goes Stands.stands = (word ∷ words, made_at (node.Params params.Empty) word Over, Parameters.empty, goes)

pub parameters_void : (next : Effect) (depth : ℕ) (at : Head) (words : List Word) (nodes : List Opened) → Opens (Expects term.Void (Makes (node.Params params.Void) next)) depth at words nodes
    → ReadsParameters next depth at words nodes
parameters_void next depth at [] nodes fails stands = absurd fails
parameters_void next depth at (word ∷ words) [] goes stands = elim stands [ ]
parameters_void next depth at (word ∷ words) (own ∷ outer) (is, goes) Stands.stands = (words, made_at (node.Params params.Void) word Over, Parameters.void is, goes)

pub parameters_listed : (next : Effect) (depth : ℕ) (at : Head) (words : List Word) (nodes : List Opened)
    → Opens (Expects term.Int (Opens (Takes class.Name (Makes node.Name (ReadsMoreParameters (Makes (node.Params params.Listed) next)))))) depth at words nodes
    → ReadsParameters next depth at words nodes
parameters_listed next depth at [] nodes fails stands = absurd fails
parameters_listed next depth at (word ∷ words) [] reads stands = elim stands [ ]
parameters_listed next depth at (word ∷ []) (own ∷ outer) (is, fails) Stands.stands = absurd fails
parameters_listed next depth at (word ∷ name ∷ words) (own ∷ outer) (is, taken) Stands.stands =
    let goes = name_taken (Makes node.Name (ReadsMoreParameters (Makes (node.Params params.Listed) next))) depth name words (opened_at name.spot ∷ opened_at word.spot ∷ own ∷ outer) taken in
    let others = goes.1 Stands.stands in (
      others.0,
      made_at (node.Params params.Listed) word (kids (name_node name ∷ others.1)),
      Parameters.listed is goes.0 others.2,
      subst (next depth head.Outside others.0) (made-pushed (node.Params params.Listed) (name_node name ∷ others.1) (opened_at word.spot) own outer) others.3,
    )

pub more_parameters_none : (next : Effect) (depth : ℕ) (at : Head) (words : List Word) (nodes : List Opened) → next depth at words nodes → ReadsMoreParameters next depth at words nodes
more_parameters_none next depth at words nodes goes Stands.stands = (words, [], MoreParameters.last, goes)

pub more_parameters_some : (next : Effect) (depth : ℕ) (at : Head) (words : List Word) (nodes : List Opened)
    → Expects term.Comma (Expects term.Int (Opens (Takes class.Name (Makes node.Name (ReadsMoreParameters next))))) depth at words nodes → ReadsMoreParameters next depth at words nodes
more_parameters_some next depth at [] nodes fails stands = absurd fails
more_parameters_some next depth at (comma ∷ []) nodes (is, fails) stands = absurd fails
more_parameters_some next depth at (comma ∷ word ∷ []) nodes (is, (int, fails)) stands = absurd fails
more_parameters_some next depth at (comma ∷ word ∷ name ∷ words) [] reads stands = elim stands [ ]
more_parameters_some next depth at (comma ∷ word ∷ name ∷ words) (own ∷ outer) (is, (int, taken)) Stands.stands =
    let goes = name_taken (Makes node.Name (ReadsMoreParameters next)) depth name words (opened_at name.spot ∷ own ∷ outer) taken in
    let others = goes.1 Stands.stands in
    (others.0, name_node name ∷ others.1, MoreParameters.further is int goes.0 others.2, others.3)

-- ---- variables

pub variable_plain : (next : Effect) (depth : ℕ) (at : Head) (words : List Word) (nodes : List Opened) → Makes node.GlobalVar next depth at words nodes → ReadsGlobalRest next depth at words nodes
variable_plain next depth at words nodes goes word [] (Named.named named) stands = elim stands [ ]
variable_plain next depth at words nodes goes word (parent ∷ outer) (Named.named named) stands = (words, named_at node.GlobalVar word Over, Variable.plain named, goes)

pub variable_array : (next : Effect) (depth : ℕ) (at : Head) (words : List Word) (nodes : List Opened)
    → Expects term.OpenBracket (Takes class.Number (Expects term.CloseBracket (Makes node.GlobalArray next))) depth at words nodes → ReadsGlobalRest next depth at words nodes
variable_array next depth at [] nodes fails word outer named stands = absurd fails
variable_array next depth at (first ∷ []) nodes (opens, fails) word outer named stands = absurd fails
variable_array next depth at (first ∷ number ∷ words) nodes (opens, (is, reads)) word [] (Named.named named) stands = elim stands [ ]
variable_array next depth at (first ∷ number ∷ words) nodes (opens, (is, reads)) word (parent ∷ outer) (Named.named named) stands =
    let After : Effect = Expects term.CloseBracket (Makes node.GlobalArray next) in
    let own = keep class.Number number (keep class.Name word (opened_at word.spot)) in
    closing words (subst (λ here. After depth here words (own ∷ parent ∷ outer)) (ap behind_outside (number-is number.term is)) reads)
  where
    closing : (words : List Word) → Expects term.CloseBracket (Makes node.GlobalArray next) depth head.Outside words (keep class.Number number (keep class.Name word (opened_at word.spot)) ∷ parent ∷ outer)
        → (rest : List Word) × (tree : Tree) × Variable (word ∷ first ∷ number ∷ words) rest tree × next depth head.Outside rest (with_child (Some tree) parent ∷ outer)
    closing [] fails = absurd fails
    closing (last ∷ rest) (closes, goes) =
        (rest, Node node.GlobalArray word.spot word.value number.value [] Over, Variable.array named (Size.size opens (number-is number.term is) closes), goes)

-- a number is next
number_taken : (next : Effect) (depth : ℕ) (word : Word) (words : List Word) (nodes : List Opened) → Takes class.Number next depth head.Outside (word ∷ words) nodes
    → (word.term ≡ term.Number) × next depth head.Outside words (kept class.Number word nodes)
number_taken next depth word words nodes (is, goes) =
    (number-is word.term is, subst (λ here. next depth here words (kept class.Number word nodes)) (ap behind_outside (number-is word.term is)) goes)

pub variable_set : (next : Effect) (depth : ℕ) (at : Head) (words : List Word) (nodes : List Opened) → Expects term.Set (ReadsInitial next) depth at words nodes → ReadsGlobalRest next depth at words nodes
variable_set next depth at [] nodes fails word outer named stands = absurd fails
variable_set next depth at (equals ∷ words) nodes (sets, reads) word [] (Named.named named) stands = elim stands [ ]
variable_set next depth at (equals ∷ words) nodes (sets, reads) word (parent ∷ outer) (Named.named named) stands = initial words reads
  where
    initial : (words : List Word) → ReadsInitial next depth head.Outside words (keep class.Name word (opened_at word.spot) ∷ parent ∷ outer)
        → (rest : List Word) × (tree : Tree) × Variable (word ∷ equals ∷ words) rest tree × next depth head.Outside rest (with_child (Some tree) parent ∷ outer)
    initial [] (inl fails) = absurd fails
    initial (minus ∷ []) (inl (below, fails)) = absurd fails
    initial (minus ∷ number ∷ rest) (inl (below, taken)) =
        let goes = number_taken (Makes (node.GlobalSet sign.Minus) next) depth number rest (keep class.Name word (opened_at word.spot) ∷ parent ∷ outer) taken in
        (rest, Node (node.GlobalSet sign.Minus) word.spot word.value number.value [] Over, Variable.set_below named sets below goes.0, goes.1)
    initial [] (inr fails) = absurd fails
    initial (number ∷ rest) (inr taken) =
        let goes = number_taken (Makes (node.GlobalSet sign.Plus) next) depth number rest (keep class.Name word (opened_at word.spot) ∷ parent ∷ outer) taken in
        (rest, Node (node.GlobalSet sign.Plus) word.spot word.value number.value [] Over, Variable.set named sets goes.0, goes.1)

pub more_variables_none : (next : Effect) (depth : ℕ) (at : Head) (words : List Word) (nodes : List Opened) → next depth at words nodes → ReadsMoreVariables next depth at words nodes
more_variables_none next depth at words nodes goes Stands.stands = (words, [], MoreVariables.last, goes)

pub more_variables_some : (next : Effect) (depth : ℕ) (at : Head) (words : List Word) (nodes : List Opened)
    → Expects term.Comma (Opens (Takes class.Name (ReadsGlobalRest (ReadsMoreVariables next)))) depth at words nodes → ReadsMoreVariables next depth at words nodes
more_variables_some next depth at [] nodes fails stands = absurd fails
more_variables_some next depth at (comma ∷ []) nodes (is, fails) stands = absurd fails
more_variables_some next depth at (comma ∷ word ∷ words) [] reads stands = elim stands [ ]
more_variables_some next depth at (comma ∷ word ∷ words) (own ∷ outer) (is, taken) Stands.stands =
    let one = by_name (ReadsVariable (ReadsMoreVariables next)) depth word words (own ∷ outer) taken Stands.stands in
    let others = one.3 Stands.stands in
    (others.0, one.1 ∷ others.1, MoreVariables.further is one.2 others.2, others.3)

-- ---- functions

abbrev AddsFunction : ℕ → Effect → ℕ → List Word → Opened → List Opened → Type 0
AddsFunction limit next depth words own outer = (rest : List Word) × (tree : Tree) × Function limit depth words rest tree × next depth head.Outside rest (with_child (Some tree) own ∷ outer)

module _ (limit : ℕ) (which : Returns) (next : Effect) (depth : ℕ) (word name first : Word) (own : Opened) (outer : List Opened) (is : Is (returns_word which) word) (named : IsTrue (is_name name.term))
    (opens : Is term.OpenParen first) (low : depth < limit) where
  abbrev After : Effect
  After = Makes (node.Function which) (Rises next)

  function_block : (words inner : List Word) (parameters : Tree) (last brace : Word) → Parameters words (last ∷ brace ∷ inner) parameters → Is term.CloseParen last → Is term.OpenBrace brace
      → (rest : List Word) (trees : List Tree) → Items limit (depth + 1) inner rest trees
      → Expects term.CloseBrace (Makes node.Block After) (depth + 1) head.Outside rest
      (all_added trees (opened_at brace.spot ∷ with_child (Some parameters) (with_child (Some (name_node name)) (opened_at word.spot)) ∷ own ∷ outer))
      → AddsFunction limit next depth (word ∷ name ∷ first ∷ words) own outer
  function_block words inner parameters last brace lists closes braces [] trees items fails = absurd fails
  function_block words inner parameters last brace lists closes braces (end ∷ rest) trees items (ends, goes) =
      let nodes = with_child (Some parameters) (with_child (Some (name_node name)) (opened_at word.spot)) in
      let block = made_at node.Block brace (kids trees) in
      let tree = made_at (node.Function which) word (kids (name_node name ∷ parameters ∷ block ∷ [])) in (
        rest,
        tree,
        Function.function which is named opens lists closes (Block.block braces low items ends),
        lowered next depth head.Outside rest (with_child (Some tree) own ∷ outer)
            (subst (λ opened. After (depth + 1) head.Outside rest opened) (made-pushed node.Block trees (opened_at brace.spot) nodes (own ∷ outer)) goes),
      )

  -- what stands behind the parenthesis
  function_body : (words : List Word) → ReadsBody limit After (depth + 1) head.Outside words (with_child (Some (name_node name)) (opened_at word.spot) ∷ own ∷ outer)
      → AddsFunction limit next depth (word ∷ name ∷ first ∷ words) own outer
  function_body words reads =
      let lists = reads Stands.stands in
      body lists.0 lists.1 lists.2 lists.3
    where
      body : (rest : List Word) (parameters : Tree) → Parameters words rest parameters
          → Expects term.CloseParen (Opens (Expects term.OpenBrace (ReadsItems limit (Expects term.CloseBrace (Makes node.Block After))))) (depth + 1) head.Outside rest
          (with_child (Some parameters) (with_child (Some (name_node name)) (opened_at word.spot)) ∷ own ∷ outer)
          → AddsFunction limit next depth (word ∷ name ∷ first ∷ words) own outer
      body [] parameters lists fails = absurd fails
      body (last ∷ []) parameters lists (closes, fails) = absurd fails
      body (last ∷ brace ∷ inner) parameters lists (closes, (braces, reads)) =
          let items = reads Stands.stands in
          function_block words inner parameters last brace lists closes braces items.0 items.1 items.2 items.3

-- ---- the parts of a file

pub parts_none : (limit : ℕ) (next : Effect) (depth : ℕ) (at : Head) (words : List Word) (nodes : List Opened) → next depth at words nodes → ReadsParts limit next depth at words nodes
parts_none limit next depth at words nodes goes Stands.stands = (words, [], FileParts.none, goes)

pub parts_include : (limit : ℕ) (next : Effect) (depth : ℕ) (at : Head) (words : List Word) (nodes : List Opened)
    → Opens (Expects term.Include (Makes node.Include (ReadsParts limit next))) depth at words nodes → ReadsParts limit next depth at words nodes
parts_include limit next depth at [] nodes fails stands = absurd fails
parts_include limit next depth at (word ∷ words) [] reads stands = elim stands [ ]
parts_include limit next depth at (word ∷ words) (own ∷ outer) (is, reads) Stands.stands =
    let others = reads Stands.stands in
    (others.0, made_at node.Include word Over ∷ others.1, FileParts.include is others.2, others.3)

pub parts_locks : (limit : ℕ) (next : Effect) (depth : ℕ) (at : Head) (words : List Word) (nodes : List Opened) → ReadsLocks (ReadsParts limit next) depth at words nodes
    → ReadsParts limit next depth at words nodes
parts_locks limit next depth at words nodes reads Stands.stands =
    let one = reads Stands.stands in
    let others = one.3 Stands.stands in
    (others.0, one.1 ∷ others.1, FileParts.locks one.2 others.2, others.3)

pub parts_void : (limit : ℕ) (next : Effect) (depth : ℕ) (at : Head) (words : List Word) (nodes : List Opened)
    → Opens (Deepens limit term.Void (Opens (Takes class.Name (Makes node.Name (Expects term.OpenParen (ReadsBody limit (Makes (node.Function returning.Void) (Rises (ReadsParts limit next))))))))) depth at words nodes
    → ReadsParts limit next depth at words nodes
parts_void limit next depth at [] nodes fails stands = absurd fails
parts_void limit next depth at (word ∷ words) [] reads stands = elim stands [ ]
parts_void limit next depth at (word ∷ []) (own ∷ outer) (is, low, fails) Stands.stands = absurd fails
parts_void limit next depth at (word ∷ name ∷ words) (own ∷ outer) (is, low, taken) Stands.stands =
    let After : Effect = Expects term.OpenParen (ReadsBody limit (Makes (node.Function returning.Void) (Rises (ReadsParts limit next)))) in
    let goes = name_taken (Makes node.Name After) (depth + 1) name words (opened_at name.spot ∷ opened_at word.spot ∷ own ∷ outer) taken in
    opening words goes.1 goes.0
  where
    opening : (words : List Word)
        → Expects term.OpenParen (ReadsBody limit (Makes (node.Function returning.Void) (Rises (ReadsParts limit next)))) (depth + 1) head.Outside words
        (with_child (Some (name_node name)) (opened_at word.spot) ∷ own ∷ outer)
        → IsTrue (is_name name.term)
        → (rest : List Word) × (trees : List Tree) × FileParts limit depth (word ∷ name ∷ words) rest trees × next depth head.Outside rest (all_added trees (own ∷ outer))
    opening [] fails named = absurd fails
    opening (first ∷ words) (opens, reads) named =
        let one = function_body limit returning.Void (ReadsParts limit next) depth word name first own outer is named opens low words reads in
        let others = one.3 Stands.stands in
        (others.0, one.1 ∷ others.1, FileParts.function one.2 others.2, others.3)

abbrev AddsParts : ℕ → Effect → ℕ → List Word → Opened → List Opened → Type 0
AddsParts limit next depth words own outer = (rest : List Word) × (trees : List Tree) × FileParts limit depth words rest trees × next depth head.Outside rest (all_added trees (own ∷ outer))

pub parts_int : (limit : ℕ) (next : Effect) (depth : ℕ) (at : Head) (words : List Word) (nodes : List Opened)
    → Opens (Expects term.Int (Opens (Takes class.Name (ReadsAfterIntName limit (ReadsParts limit next))))) depth at words nodes → ReadsParts limit next depth at words nodes
parts_int limit next depth at [] nodes fails stands = absurd fails
parts_int limit next depth at (word ∷ words) [] reads stands = elim stands [ ]
parts_int limit next depth at (word ∷ []) (own ∷ outer) (is, fails) Stands.stands = absurd fails
parts_int limit next depth at (word ∷ name ∷ words) (own ∷ outer) (is, taken) Stands.stands =
    let goes = name_taken (ReadsAfterIntName limit (ReadsParts limit next)) depth name words (opened_at name.spot ∷ opened_at word.spot ∷ own ∷ outer) taken in
    after words goes.1 goes.0
  where
    variables : (words behind : List Word) (tree : Tree) → Variable (name ∷ words) behind tree → (rest : List Word) (trees : List Tree) → MoreVariables behind rest trees
        → Expects term.Semicolon (Makes node.Globals (ReadsParts limit next)) depth head.Outside rest (all_added (tree ∷ trees) (opened_at word.spot ∷ own ∷ outer)) → AddsParts limit next depth (word ∷ name ∷ words) own outer
    variables words behind tree one [] trees more fails = absurd fails
    variables words behind tree one (last ∷ rest) trees more (ends, goes) =
        let others = subst (ReadsParts limit next depth head.Outside rest) (made-pushed node.Globals (tree ∷ trees) (opened_at word.spot) own outer) goes Stands.stands in
        (others.0, made_at node.Globals word (kids (tree ∷ trees)) ∷ others.1, FileParts.variables (Variables.variables is one more ends) others.2, others.3)

    after : (words : List Word) → ReadsAfterIntName limit (ReadsParts limit next) depth head.Outside words (keep class.Name name (opened_at name.spot) ∷ opened_at word.spot ∷ own ∷ outer)
        → IsTrue (is_name name.term) → AddsParts limit next depth (word ∷ name ∷ words) own outer
    after [] (inl fails) named = absurd fails
    after (first ∷ words) (inl (opens, low, reads)) named =
        let one = function_body limit returning.Int (ReadsParts limit next) depth word name first own outer is named opens low words reads in
        let others = one.3 Stands.stands in
        (others.0, one.1 ∷ others.1, FileParts.function one.2 others.2, others.3)
    after words (inr reads) named =
        let one = reads name (opened_at word.spot ∷ own ∷ outer) (Named.named named) Stands.stands in
        let more = one.3 Stands.stands in
        variables words one.0 one.1 one.2 more.0 more.1 more.2 more.3
