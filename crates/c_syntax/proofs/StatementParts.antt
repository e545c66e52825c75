-- What the productions of statements spell, the table derives.
use Rattle.std.proofs.Common.{ℕ, ◌≡◌, ◌<◌, ◌+◌, IsTrue, true, false, List, [], ◌∷◌, ◌++◌, Option, Some, None, refl, sym, ap, subst, ◌∙◌}
use Rattle.std.proofs.lemmas.Bool.{false≢true}
use Rattle.c_syntax.specs.declared.term.Term.{Term}
use Rattle.c_syntax.specs.declared.term.Term.TheVariants as term
use Rattle.c_syntax.specs.declared.grammar.Class.TheVariants as class
use Rattle.c_syntax.specs.declared.grammar.Step.{Step}
use Rattle.c_syntax.specs.declared.grammar.Step.TheVariants.{Rise, Take, Read, Open, Make}
use Rattle.c_syntax.specs.declared.grammar.Sort.{Sort}
use Rattle.c_syntax.specs.declared.grammar.Sort.TheVariants as sort
use Rattle.c_syntax.specs.declared.head.Head.{Head}
use Rattle.c_syntax.specs.declared.head.Head.TheVariants as head
use Rattle.c_syntax.specs.declared.node.Directive.{Directive}
use Rattle.c_syntax.specs.declared.node.Standalone.{Standalone}
use Rattle.c_syntax.specs.declared.node.Standalone.TheVariants as standalone
use Rattle.c_syntax.specs.declared.node.NodeKind.TheVariants as kind
use Rattle.c_syntax.specs.language.Words.{Word}
use Rattle.c_syntax.specs.language.Tree.{Tree, children_from}
use Rattle.c_syntax.specs.language.Tree.Children.{Over, Child, Absent}
use Rattle.c_syntax.specs.workings.Grammar.{choice}
use Rattle.c_syntax.specs.language.WordClasses.{is_name}
use Rattle.c_syntax.specs.workings.Derivation.{Derives, Opened, opened_at}
use Rattle.c_syntax.specs.language.Productions.{Block, ConditionPart, Construct, DirectiveOf, Expression, FirstPart, Is, Items, Locals, Locks, MoreSections, NoElse, Section, Sections, Statement, StepPart, Value, is_sections, kids, made_at, maybe, standalone_word}
use Rattle.c_syntax.proofs.Pushing.{Ends, all_added, all_added-pushed, is_end, plus}
use Rattle.c_syntax.proofs.Expressions.{expression_derives}
use Rattle.c_syntax.proofs.CallWords.{value_derives}
use Rattle.c_syntax.proofs.DeclaredWords.{locals_derive, locks_derive}
use Rattle.c_syntax.proofs.StepWords.{condition_derives, first_derives, third_derives}
use Rattle.c_syntax.proofs.AddedChildren.{added-append, before-maybe}
use Rattle.c_syntax.proofs.Steps.{open-back, read-as, take-back}
use Rattle.c_syntax.proofs.Onward.{deepen_word, expect_word, read_word}
use Rattle.c_syntax.proofs.OutsideSteps.{make, rise}
use Rattle.c_syntax.proofs.HeadWords.{directed_derives, item_directed_derives, sections_directed_derive, sections_item_directed_derive}
use Rattle.c_syntax.proofs.StatementWords.{called_derives, locking_derives, print_derives, set_call_derives, stepped_derives}

-- some word is next
abbrev pub Goes : List Word → Type 0
Goes [] = ⊥
Goes (word ∷ rest) = Unit {0}

-- before something that is read a word is next
pub goes : {limit depth : ℕ} {at : Head} {what : Sort} {steps : List Step} {words : List Word} {nodes : List Opened} {whole : Tree} → Derives limit (Read what ∷ steps) depth at words nodes whole → Goes words
goes (Derives.read same rest) = tt

-- an expression is over before a word that is known
pub ends_at : {wanted : Term} (word : Word) (rest : List Word) → word.term ≡ wanted → IsTrue (is_end wanted) → Ends (word ∷ rest)
ends_at word rest same ends = subst (λ next. IsTrue (is_end next)) (sym same) ends

-- the next word is this one
abbrev pub IsAt : Term → List Word → Type 0
IsAt which [] = ⊥
IsAt which (word ∷ rest) = word.term ≡ which

-- what begins with a name begins with no other word
name-first : {limit depth : ℕ} {steps : List Step} {word : Word} {words : List Word} {nodes : List Opened} {whole : Tree}
    → Derives limit (Open ∷ Take class.Name ∷ steps) depth head.Outside (word ∷ words) nodes whole → IsTrue (is_name word.term)
name-first reading = (take-back (open-back reading)).0

-- a sort that begins with a name where this word is next is not read from it, since it is none
no-name : {limit depth : ℕ} {steps more : List Step} {word : Word} {words : List Word} {nodes : List Opened} {whole : Tree} {what : Sort} (which : Term) → word.term ≡ which
    → choice what which ≡ Some (Open ∷ Take class.Name ∷ more) → is_name which ≡ false → Derives limit (Read what ∷ steps) depth head.Outside (word ∷ words) nodes whole → ⊥
no-name {what = what} which same chosen misfit reading =
    let named = name-first (read-as (ap (choice what) same ∙ chosen) reading) in
    false≢true (sym misfit ∙ ap is_name (sym same) ∙ named)

-- an item that is a statement without a directive
item_from_plain : {limit depth : ℕ} {steps : List Step} {words : List Word} {nodes : List Opened} {whole : Tree}
    → Derives limit (Read sort.PlainStatement ∷ Read sort.Items ∷ steps) depth head.Outside words nodes whole → Derives limit (Read sort.Items ∷ steps) depth head.Outside words nodes whole
item_from_plain {words = []} reading = absurd (goes reading)
item_from_plain {limit} {depth} {steps} {words = word ∷ words} {nodes} {whole} reading = by-word word.term refl
  where
    by-word : (which : Term) → word.term ≡ which → Derives limit (Read sort.Items ∷ steps) depth head.Outside (word ∷ words) nodes whole
    by-word term.CloseBrace same = absurd (no-name term.CloseBrace same refl refl reading)
    by-word term.Int same = absurd (no-name term.Int same refl refl reading)
    by-word term.LockType same = absurd (no-name term.LockType same refl refl reading)
    by-word term.Pragma same = absurd (no-name term.Pragma same refl refl reading)
    by-word other same = Derives.read (ap (choice sort.Items) same) reading

-- a statement without a directive
statement_from_plain : {limit depth : ℕ} {steps : List Step} {words : List Word} {nodes : List Opened} {whole : Tree}
    → Derives limit (Read sort.PlainStatement ∷ steps) depth head.Outside words nodes whole → Derives limit (Read sort.Statement ∷ steps) depth head.Outside words nodes whole
statement_from_plain {words = []} reading = absurd (goes reading)
statement_from_plain {limit} {depth} {steps} {words = word ∷ words} {nodes} {whole} reading = by-word word.term refl
  where
    by-word : (which : Term) → word.term ≡ which → Derives limit (Read sort.Statement ∷ steps) depth head.Outside (word ∷ words) nodes whole
    by-word term.Pragma same = absurd (no-name term.Pragma same refl refl reading)
    by-word other same = Derives.read (ap (choice sort.Statement) same) reading

-- .. where the first section may stand
first_from_plain : {limit depth : ℕ} {steps : List Step} {words : List Word} {nodes : List Opened} {whole : Tree}
    → Derives limit (Read sort.PlainStatement ∷ steps) depth head.Outside words nodes whole → Derives limit (Read sort.FirstSection ∷ steps) depth head.Outside words nodes whole
first_from_plain {words = []} reading = absurd (goes reading)
first_from_plain {limit} {depth} {steps} {words = word ∷ words} {nodes} {whole} reading = by-word word.term refl
  where
    by-word : (which : Term) → word.term ≡ which → Derives limit (Read sort.FirstSection ∷ steps) depth head.Outside (word ∷ words) nodes whole
    by-word term.Pragma same = absurd (no-name term.Pragma same refl refl reading)
    by-word other same = Derives.read (ap (choice sort.FirstSection) same) reading

-- a value stands where one may stand
return_from_right : {limit depth : ℕ} {steps : List Step} {words : List Word} {nodes : List Opened} {whole : Tree}
    → Derives limit (Read sort.Right ∷ steps) depth head.Outside words nodes whole → Derives limit (Read sort.ReturnPart ∷ steps) depth head.Outside words nodes whole
return_from_right {words = []} reading = absurd (goes reading)
return_from_right {limit} {depth} {steps} {words = word ∷ words} {nodes} {whole} reading = by-word word.term refl
  where
    by-word : (which : Term) → word.term ≡ which → Derives limit (Read sort.ReturnPart ∷ steps) depth head.Outside (word ∷ words) nodes whole
    by-word term.Semicolon same = absurd (no-name term.Semicolon same refl refl reading)
    by-word other same = Derives.read (ap (choice sort.ReturnPart) same) reading

-- a choice is not none
none-some : {steps : List Step} → None ≡ Some steps → ⊥
none-some same = cc

-- no construct begins with `section`
no-section : {limit depth : ℕ} {at : Head} {steps : List Step} {word : Word} {words : List Word} {nodes : List Opened} {whole : Tree} → word.term ≡ term.Section
    → Derives limit (Read sort.Construct ∷ steps) depth at (word ∷ words) nodes whole → ⊥
no-section same (Derives.read chosen rest) = none-some (sym (ap (choice sort.Construct) same) ∙ chosen)

-- a construct stands where a section might
section_from_construct : {limit depth : ℕ} {steps : List Step} {words : List Word} {nodes : List Opened} {whole : Tree} {at : Head}
    → Derives limit (Read sort.Construct ∷ steps) depth at words nodes whole → Derives limit (Read sort.SectionOrConstruct ∷ steps) depth at words nodes whole
section_from_construct {words = []} reading = absurd (goes reading)
section_from_construct {limit} {depth} {steps} {words = word ∷ words} {nodes} {whole} {at} reading = by-word word.term refl
  where
    by-word : (which : Term) → word.term ≡ which → Derives limit (Read sort.SectionOrConstruct ∷ steps) depth at (word ∷ words) nodes whole
    by-word term.Section same = absurd (no-section same reading)
    by-word other same = Derives.read (ap (choice sort.SectionOrConstruct) same) reading

-- no `else` follows
without_else : {limit depth : ℕ} {steps : List Step} {rest : List Word} {node : Opened} {outer : List Opened} {whole : Tree} {at : Head} → Goes rest → NoElse rest
    → Derives limit steps depth at rest (plus None (node ∷ outer)) whole → Derives limit (Read sort.ElsePart ∷ steps) depth at rest (node ∷ outer) whole
without_else {rest = []} more none reading = absurd more
without_else {limit} {depth} {steps} {rest = word ∷ rest} {node} {outer} {whole} {at} more none reading = by-word word.term refl
  where
    by-word : (which : Term) → word.term ≡ which → Derives limit (Read sort.ElsePart ∷ steps) depth at (word ∷ rest) (node ∷ outer) whole
    by-word term.Else same = absurd (none same)
    by-word other same = Derives.read (ap (choice sort.ElsePart) same) (Derives.skip reading)

-- ---- what each production reads, whatever follows

-- a block
pub record BlockReads (limit depth : ℕ) (words rest : List Word) (tree : Tree) : Type 0 where
  pub reads : {steps : List Step} {own : Opened} {outer : List Opened} {whole : Tree} → Derives limit steps depth head.Outside rest (plus (Some tree) (own ∷ outer)) whole
      → Derives limit (Read sort.Block ∷ steps) depth head.Outside words (own ∷ outer) whole

-- the items of a block, up to its brace
pub record ItemsRead (limit depth : ℕ) (words rest : List Word) (trees : List Tree) : Type 0 where
  pub reads : {steps : List Step} {own : Opened} {outer : List Opened} {whole : Tree} → IsAt term.CloseBrace rest
      → Derives limit steps depth head.Outside rest (all_added trees (own ∷ outer)) whole → Derives limit (Read sort.Items ∷ steps) depth head.Outside words (own ∷ outer) whole

-- a part of a statement, where something follows
pub record PartReads (what : Sort) (limit depth : ℕ) (words rest : List Word) (tree : Tree) : Type 0 where
  pub reads : {steps : List Step} {own : Opened} {outer : List Opened} {whole : Tree} → Goes rest
      → Derives limit steps depth head.Outside rest (plus (Some tree) (own ∷ outer)) whole → Derives limit (Read what ∷ steps) depth head.Outside words (own ∷ outer) whole

-- a statement without a directive
abbrev pub PlainReads : (limit depth : ℕ) → List Word → List Word → Tree → Type 0
PlainReads limit depth words rest tree = PartReads sort.PlainStatement limit depth words rest tree

-- a construct from the word behind its `#` on, where the node stands at the `#`: deep already, or as an item
pub record DirectiveReads (limit depth : ℕ) (word : Word) (words rest : List Word) (tree : Tree) : Type 0 where
  pub is_pragma : word.term ≡ term.Pragma
  pub low : depth < limit
  pub deep : {steps : List Step} {own : Opened} {outer : List Opened} {whole : Tree} → Goes rest → Derives limit steps depth head.Outside rest (plus (Some tree) (own ∷ outer)) whole
      → Derives limit (Read sort.Construct ∷ steps) (depth + 1) head.Directive words (opened_at word.spot ∷ own ∷ outer) whole
  pub as_item : {steps : List Step} {own : Opened} {outer : List Opened} {whole : Tree} → Goes rest → Derives limit steps depth head.Outside rest (plus (Some tree) (own ∷ outer)) whole
      → Derives limit (Read sort.ItemDirective ∷ steps) depth head.Directive words (opened_at word.spot ∷ own ∷ outer) whole

-- .. from its `#` on
pub data ConstructReads (limit depth : ℕ) : List Word → List Word → Tree → Type 0 where
  directive : {word : Word} {words rest : List Word} {tree : Tree} → DirectiveReads limit depth word words rest tree → ConstructReads limit depth (word ∷ words) rest tree

-- a statement is one without a directive, or a construct
pub data StatementReads (limit depth : ℕ) : List Word → List Word → Tree → Type 0 where
  plain : {words rest : List Word} {tree : Tree} → PlainReads limit depth words rest tree → StatementReads limit depth words rest tree
  construct : {words rest : List Word} {tree : Tree} → ConstructReads limit depth words rest tree → StatementReads limit depth words rest tree

-- the braces of sections: what they hold is added to the open node
pub record SectionsRead (limit depth : ℕ) (words rest : List Word) (trees : List Tree) : Type 0 where
  pub reads : {steps : List Step} {own : Opened} {outer : List Opened} {whole : Tree}
      → Derives limit steps depth head.Outside rest (all_added trees (own ∷ outer)) whole → Derives limit (Read sort.SectionsBody ∷ steps) depth head.Outside words (own ∷ outer) whole

-- further sections, up to the brace
pub record MoreSectionsRead (limit depth : ℕ) (words rest : List Word) (trees : List Tree) : Type 0 where
  pub reads : {steps : List Step} {own : Opened} {outer : List Opened} {whole : Tree} → IsAt term.CloseBrace rest
      → Derives limit steps depth head.Outside rest (all_added trees (own ∷ outer)) whole → Derives limit (Read sort.MoreSections ∷ steps) depth head.Outside words (own ∷ outer) whole

-- a section, as the first one or as a further one
pub record SectionReads (limit depth : ℕ) (words rest : List Word) (tree : Tree) : Type 0 where
  pub as_first : PartReads sort.FirstSection limit depth words rest tree
  pub as_further : {steps : List Step} {own : Opened} {outer : List Opened} {whole : Tree} → Goes rest
      → Derives limit (Read sort.MoreSections ∷ steps) depth head.Outside rest (plus (Some tree) (own ∷ outer)) whole
      → Derives limit (Read sort.MoreSections ∷ steps) depth head.Outside words (own ∷ outer) whole

-- ---- how a statement stands in what is around it

-- where a statement stands
pub statement_at : {limit depth : ℕ} {words rest : List Word} {tree : Tree} → StatementReads limit depth words rest tree → PartReads sort.Statement limit depth words rest tree
statement_at (StatementReads.plain part) = record { reads = λ more reading. statement_from_plain (part.reads more reading) }
statement_at (StatementReads.construct (ConstructReads.directive part)) =
    record { reads = λ more reading. read_word _ part.is_pragma refl (Derives.open_node (deepen_word part.is_pragma part.low (part.deep more reading))) }

-- where the first section may stand
pub first_at : {limit depth : ℕ} {words rest : List Word} {tree : Tree} → StatementReads limit depth words rest tree → PartReads sort.FirstSection limit depth words rest tree
first_at (StatementReads.plain part) = record { reads = λ more reading. first_from_plain (part.reads more reading) }
first_at (StatementReads.construct (ConstructReads.directive part)) =
    record { reads = λ more reading. read_word _ part.is_pragma refl (Derives.open_node (deepen_word part.is_pragma part.low (section_from_construct (part.deep more reading)))) }

-- in a block
pub item_at : {limit depth : ℕ} {words rest : List Word} {tree whole : Tree} {steps : List Step} {own : Opened} {outer : List Opened} → StatementReads limit depth words rest tree
    → Derives limit (Read sort.Items ∷ steps) depth head.Outside rest (plus (Some tree) (own ∷ outer)) whole
    → Derives limit (Read sort.Items ∷ steps) depth head.Outside words (own ∷ outer) whole
item_at (StatementReads.plain part) reading = item_from_plain (part.reads (goes reading) reading)
item_at (StatementReads.construct (ConstructReads.directive part)) reading =
    read_word _ part.is_pragma refl (Derives.open_node (expect_word part.is_pragma (part.as_item (goes reading) reading)))

-- ---- each production from what its parts read

-- a block from its items
block_from : {limit depth : ℕ} {words rest : List Word} {word last : Word} {trees : List Tree} → Is term.OpenBrace word → depth < limit → ItemsRead limit (depth + 1) words (last ∷ rest) trees
    → Is term.CloseBrace last → BlockReads limit depth (word ∷ words) rest (made_at kind.Block word (kids trees))
block_from {word = word} {trees = trees} begins low items closes =
    record { reads = λ reading. read_word _ begins refl (Derives.open_node (deepen_word begins low (items.reads closes (expect_word closes (make kind.Block trees (opened_at word.spot) (rise reading)))))) }

-- no further item before the brace
no_items : {limit depth : ℕ} {rest : List Word} → ItemsRead limit depth rest rest []
no_items = record { reads = λ closes reading. at_brace closes reading }
  where
    at_brace : {limit depth : ℕ} {rest : List Word} {steps : List Step} {nodes : List Opened} {whole : Tree} → IsAt term.CloseBrace rest → Derives limit steps depth head.Outside rest nodes whole
        → Derives limit (Read sort.Items ∷ steps) depth head.Outside rest nodes whole
    at_brace {rest = []} closes reading = absurd closes
    at_brace {rest = word ∷ rest} closes reading = read_word _ closes refl reading

-- items that begin with variables
locals_item : {limit depth : ℕ} {words behind rest : List Word} {tree : Tree} {trees : List Tree} → Locals limit depth words behind tree → ItemsRead limit depth behind rest trees
    → ItemsRead limit depth words rest (tree ∷ trees)
locals_item (Locals.locals int local more ends) items = record { reads = λ closes reading. read_word _ int refl (locals_derive (Locals.locals int local more ends) (items.reads closes reading)) }

-- .. with locks
locks_item : {limit depth : ℕ} {words behind rest : List Word} {tree : Tree} {trees : List Tree} → Locks words behind tree → ItemsRead limit depth behind rest trees
    → ItemsRead limit depth words rest (tree ∷ trees)
locks_item (Locks.locks type names ends) items = record { reads = λ closes reading. read_word _ type refl (locks_derive (Locks.locks type names ends) (items.reads closes reading)) }

-- .. with a directive without a statement
alone_item : {limit depth : ℕ} {behind rest : List Word} {word told last : Word} {trees : List Tree} → (which : Standalone) → Is term.Pragma word → Is (standalone_word which) told
    → Is term.PragmaEnd last → ItemsRead limit depth behind rest trees → ItemsRead limit depth (word ∷ told ∷ last ∷ behind) rest (made_at (kind.Standalone which) word Over ∷ trees)
alone_item standalone.Barrier pragma names ends items =
    record { reads = λ closes reading. read_word _ pragma refl (Derives.open_node (expect_word pragma (read_word _ names refl (expect_word names (expect_word ends (Derives.make (items.reads closes reading))))))) }
alone_item standalone.Taskwait pragma names ends items =
    record { reads = λ closes reading. read_word _ pragma refl (Derives.open_node (expect_word pragma (read_word _ names refl (expect_word names (expect_word ends (Derives.make (items.reads closes reading))))))) }

-- .. with a statement
statement_item : {limit depth : ℕ} {words behind rest : List Word} {tree : Tree} {trees : List Tree} → StatementReads limit depth words behind tree → ItemsRead limit depth behind rest trees
    → ItemsRead limit depth words rest (tree ∷ trees)
statement_item statement items = record { reads = λ closes reading. item_at statement (items.reads closes reading) }

-- `;` alone
empty_reads : {limit depth : ℕ} {rest : List Word} {word : Word} → Is term.Semicolon word → PlainReads limit depth (word ∷ rest) rest (made_at kind.Empty word Over)
empty_reads semicolon = record { reads = λ more reading. read_word _ semicolon refl (Derives.open_node (expect_word semicolon (Derives.make reading))) }

-- a block begins with its brace
brace_next : {limit depth : ℕ} {words rest : List Word} {tree : Tree} → Block limit depth words rest tree → IsAt term.OpenBrace words
brace_next (Block.block begins low items closes) = begins

-- a block is a statement
braced_reads : {limit depth : ℕ} {words rest : List Word} {tree : Tree} → IsAt term.OpenBrace words → BlockReads limit depth words rest tree → PlainReads limit depth words rest tree
braced_reads {words = []} begins block = absurd begins
braced_reads {words = word ∷ words} begins block = record { reads = λ more reading. read_word _ begins refl (block.reads reading) }

-- `if` without `else`
if_alone_reads : {limit depth : ℕ} {words behind rest : List Word} {word first last : Word} {condition tree : Tree} → Is term.If word → depth < limit → Is term.OpenParen first
    → Expression limit (depth + 1) head.Outside words (last ∷ behind) condition → Is term.CloseParen last → StatementReads limit (depth + 1) behind rest tree → NoElse rest
    → PlainReads limit depth (word ∷ first ∷ words) rest (made_at kind.If word (Child condition (Child tree (Absent Over))))
if_alone_reads {behind = behind} {last = last} begins low opens condition closes statement none =
    record {
      reads = λ more reading. read_word _ begins refl (Derives.open_node (deepen_word begins low (expect_word opens (expression_derives refl condition (ends_at last behind closes refl)
          (expect_word closes ((statement_at statement).reads more (without_else more none (Derives.make (rise reading)))))))));
    }

-- .. with it
if_else_reads : {limit depth : ℕ} {words behind middle rest : List Word} {word first last other : Word} {condition tree second : Tree} → Is term.If word → depth < limit → Is term.OpenParen first
    → Expression limit (depth + 1) head.Outside words (last ∷ behind) condition → Is term.CloseParen last → StatementReads limit (depth + 1) behind (other ∷ middle) tree
    → Is term.Else other → StatementReads limit (depth + 1) middle rest second
    → PlainReads limit depth (word ∷ first ∷ words) rest (made_at kind.If word (kids (condition ∷ tree ∷ second ∷ [])))
if_else_reads {behind = behind} {last = last} begins low opens condition closes statement other second =
    record {
      reads = λ more reading. read_word _ begins refl (Derives.open_node (deepen_word begins low (expect_word opens (expression_derives refl condition (ends_at last behind closes refl)
          (expect_word closes ((statement_at statement).reads tt (read_word _ other refl (expect_word other ((statement_at second).reads more (Derives.make (rise reading)))))))))));
    }

-- `while`
while_reads : {limit depth : ℕ} {words behind rest : List Word} {word first last : Word} {condition tree : Tree} → Is term.While word → depth < limit → Is term.OpenParen first
    → Expression limit (depth + 1) head.Outside words (last ∷ behind) condition → Is term.CloseParen last → StatementReads limit (depth + 1) behind rest tree
    → PlainReads limit depth (word ∷ first ∷ words) rest (made_at kind.While word (kids (condition ∷ tree ∷ [])))
while_reads {behind = behind} {last = last} begins low opens condition closes statement =
    record {
      reads = λ more reading. read_word _ begins refl (Derives.open_node (deepen_word begins low (expect_word opens (expression_derives refl condition (ends_at last behind closes refl)
          (expect_word closes ((statement_at statement).reads more (Derives.make (rise reading))))))));
    }

-- the children of a loop, of which three may be absent
loop-children : (begins tests steps : Option Tree) (tree : Tree) → children_from (Some tree ∷ steps ∷ tests ∷ begins ∷ []) ≡ maybe begins (maybe tests (maybe steps (Child tree Over)))
loop-children begins tests steps tree =
    before-maybe steps (tests ∷ begins ∷ []) (Child tree Over) ∙ (before-maybe tests (begins ∷ []) (maybe steps (Child tree Over)) ∙ before-maybe begins [] (maybe tests (maybe steps (Child tree Over))))

-- .. and the node that they make
make_loop : {limit depth : ℕ} {at : Head} {left : List Step} {words : List Word} {whole : Tree} {own : Opened} {outer : List Opened} (word : Word) (begins tests steps : Option Tree) (tree : Tree)
    → Derives limit left depth at words (plus (Some (made_at kind.For word (maybe begins (maybe tests (maybe steps (Child tree Over)))))) (own ∷ outer)) whole
    → Derives limit (Make kind.For ∷ left) depth at words (plus (Some tree) (plus steps (plus tests (plus begins (opened_at word.spot ∷ own ∷ outer))))) whole
make_loop {limit} {depth} {at} {left} {words} {whole} {own} {outer} word begins tests steps tree reading =
    Derives.make (subst (λ children. Derives limit left depth at words (plus (Some (made_at kind.For word children)) (own ∷ outer)) whole) (sym (loop-children begins tests steps tree)) reading)

-- `for`
loop_reads : {limit depth : ℕ} {words second third behind rest : List Word} {word first one two last : Word} {begins tests steps : Option Tree} {tree : Tree} → Is term.For word → depth < limit
    → Is term.OpenParen first → FirstPart limit (depth + 1) words (one ∷ second) begins → Is term.Semicolon one → ConditionPart limit (depth + 1) second (two ∷ third) tests → Is term.Semicolon two
    → StepPart limit (depth + 1) third (last ∷ behind) steps → Is term.CloseParen last → StatementReads limit (depth + 1) behind rest tree
    → PlainReads limit depth (word ∷ first ∷ words) rest (made_at kind.For word (maybe begins (maybe tests (maybe steps (Child tree Over)))))
loop_reads {word = word} {begins = begins} {tests = tests} {steps = steps} {tree = tree} loops low opens start one condition two step closes statement =
    record {
      reads = λ more reading. read_word _ loops refl (Derives.open_node (deepen_word loops low (expect_word opens (first_derives start one (expect_word one (condition_derives condition two
          (expect_word two (third_derives step closes (expect_word closes ((statement_at statement).reads more (make_loop word begins tests steps tree (rise reading))))))))))));
    }

-- `return` alone
returns_reads : {limit depth : ℕ} {rest : List Word} {word last : Word} → Is term.Return word → Is term.Semicolon last
    → PlainReads limit depth (word ∷ last ∷ rest) rest (made_at kind.Return word Over)
returns_reads returns ends = record { reads = λ more reading. read_word _ returns refl (Derives.open_node (expect_word returns (read_word _ ends refl (expect_word ends (Derives.make reading))))) }

-- .. with a value
returns_value_reads : {limit depth : ℕ} {words rest : List Word} {word last : Word} {tree : Tree} → Is term.Return word → Value limit depth words (last ∷ rest) tree → Is term.Semicolon last
    → PlainReads limit depth (word ∷ words) rest (made_at kind.Return word (kids (tree ∷ [])))
returns_value_reads {rest = rest} {last = last} returns value ends =
    record { reads = λ more reading. read_word _ returns refl (Derives.open_node (expect_word returns (return_from_right (value_derives value (ends_at last rest ends refl) (expect_word ends (Derives.make reading)))))) }

-- a directive, and the statement that it stands before
around_reads : {limit depth : ℕ} {which : Directive} {words behind rest : List Word} {word last : Word} {trees : List Tree} {tree : Tree} → Is term.Pragma word → depth < limit
    → is_sections which ≡ false → DirectiveOf limit (depth + 1) which words (last ∷ behind) trees → Is term.PragmaEnd last → StatementReads limit (depth + 1) behind rest tree
    → ConstructReads limit depth (word ∷ words) rest (made_at (kind.Construct which) word (kids (trees ++ tree ∷ [])))
around_reads {limit} {depth} {which} {behind = behind} {rest = rest} {word = word} {trees = trees} {tree = tree} pragma low unlike directed ends statement = ConstructReads.directive record {
  is_pragma = pragma;
  low = low;
  deep = λ more reading. directed_derives unlike directed ends (inner more reading);
  as_item = λ more reading. item_directed_derives low unlike directed ends (inner more reading);
}
  where
    inner : {steps : List Step} {own : Opened} {outer : List Opened} {whole : Tree} → Goes rest
        → Derives limit steps depth head.Outside rest (plus (Some (made_at (kind.Construct which) word (kids (trees ++ tree ∷ [])))) (own ∷ outer)) whole
        → Derives limit (Read sort.Statement ∷ Make (kind.Construct which) ∷ Rise ∷ steps) (depth + 1) head.Outside behind (all_added trees (opened_at word.spot ∷ own ∷ outer)) whole
    inner {steps} {own} {outer} {whole} more reading =
        let nodes = opened_at word.spot ∷ own ∷ outer in
        let made = make (kind.Construct which) (trees ++ tree ∷ []) (opened_at word.spot) (rise reading) in
        let left = Make (kind.Construct which) ∷ Rise ∷ steps in
        let with_tree = subst (λ now. Derives limit left (depth + 1) head.Outside rest now whole) (sym (added-append trees (tree ∷ []) nodes)) made in
        let open_all = subst (λ now. Derives limit left (depth + 1) head.Outside rest (plus (Some tree) now) whole) (all_added-pushed trees (opened_at word.spot) (own ∷ outer)) with_tree in
        let read = (statement_at statement).reads more open_all in
        subst (λ now. Derives limit (Read sort.Statement ∷ left) (depth + 1) head.Outside behind now whole) (sym (all_added-pushed trees (opened_at word.spot) (own ∷ outer))) read

-- .. and the sections that it stands before
in_sections_reads : {limit depth : ℕ} {which : Directive} {words behind rest : List Word} {word last : Word} {trees parts : List Tree} → Is term.Pragma word → depth < limit
    → is_sections which ≡ true → DirectiveOf limit (depth + 1) which words (last ∷ behind) trees → Is term.PragmaEnd last → SectionsRead limit (depth + 1) behind rest parts
    → ConstructReads limit depth (word ∷ words) rest (made_at (kind.Construct which) word (kids (trees ++ parts)))
in_sections_reads {limit} {depth} {which} {behind = behind} {rest = rest} {word = word} {trees = trees} {parts = parts} pragma low sections directed ends body = ConstructReads.directive record {
  is_pragma = pragma;
  low = low;
  deep = λ more reading. sections_directed_derive sections directed ends (inner reading);
  as_item = λ more reading. sections_item_directed_derive low sections directed ends (inner reading);
}
  where
    inner : {steps : List Step} {own : Opened} {outer : List Opened} {whole : Tree}
        → Derives limit steps depth head.Outside rest (plus (Some (made_at (kind.Construct which) word (kids (trees ++ parts)))) (own ∷ outer)) whole
        → Derives limit (Read sort.SectionsBody ∷ Make (kind.Construct which) ∷ Rise ∷ steps) (depth + 1) head.Outside behind (all_added trees (opened_at word.spot ∷ own ∷ outer)) whole
    inner {steps} {own} {outer} {whole} reading =
        let nodes = opened_at word.spot ∷ own ∷ outer in
        let made = make (kind.Construct which) (trees ++ parts) (opened_at word.spot) (rise reading) in
        let left = Make (kind.Construct which) ∷ Rise ∷ steps in
        let with_parts = subst (λ now. Derives limit left (depth + 1) head.Outside rest now whole) (sym (added-append trees parts nodes)) made in
        let open_all = subst (λ now. Derives limit left (depth + 1) head.Outside rest (all_added parts now) whole) (all_added-pushed trees (opened_at word.spot) (own ∷ outer)) with_parts in
        let read = body.reads open_all in
        subst (λ now. Derives limit (Read sort.SectionsBody ∷ left) (depth + 1) head.Outside behind now whole) (sym (all_added-pushed trees (opened_at word.spot) (own ∷ outer))) read

-- the braces of sections, from what the first of them reads
sections_from : {limit depth : ℕ} {words behind rest : List Word} {word last : Word} {tree : Tree} {trees : List Tree} → Is term.OpenBrace word → PartReads sort.FirstSection limit depth words behind tree
    → MoreSectionsRead limit depth behind (last ∷ rest) trees → Is term.CloseBrace last → SectionsRead limit depth (word ∷ words) rest (tree ∷ trees)
sections_from begins first more closes =
    record { reads = λ reading. let further = more.reads closes (expect_word closes reading) in read_word _ begins refl (expect_word begins (first.reads (goes further) further)) }

-- no further section before the brace
no_more_sections : {limit depth : ℕ} {rest : List Word} → MoreSectionsRead limit depth rest rest []
no_more_sections = record { reads = λ closes reading. at_brace closes reading }
  where
    at_brace : {limit depth : ℕ} {rest : List Word} {steps : List Step} {nodes : List Opened} {whole : Tree} → IsAt term.CloseBrace rest → Derives limit steps depth head.Outside rest nodes whole
        → Derives limit (Read sort.MoreSections ∷ steps) depth head.Outside rest nodes whole
    at_brace {rest = []} closes reading = absurd closes
    at_brace {rest = word ∷ rest} closes reading = read_word _ closes refl reading

-- a section, and further ones
further_section : {limit depth : ℕ} {words behind rest : List Word} {tree : Tree} {trees : List Tree} → SectionReads limit depth words behind tree → MoreSectionsRead limit depth behind rest trees
    → MoreSectionsRead limit depth words rest (tree ∷ trees)
further_section section more = record { reads = λ closes reading. let further = more.reads closes reading in section.as_further (goes further) further }

-- a section from its statement
section_from : {limit depth : ℕ} {words rest : List Word} {word told last : Word} {tree : Tree} → Is term.Pragma word → depth < limit → Is term.Section told → Is term.PragmaEnd last
    → StatementReads limit (depth + 1) words rest tree → SectionReads limit depth (word ∷ told ∷ last ∷ words) rest (made_at kind.Section word (kids (tree ∷ [])))
section_from pragma low names ends statement = record {
  as_first = record {
    reads = λ more reading. read_word _ pragma refl (Derives.open_node (deepen_word pragma low (read_word _ names refl (expect_word names (expect_word ends
        ((statement_at statement).reads more (Derives.make (rise reading))))))));
  };
  as_further = λ more reading. read_word _ pragma refl (Derives.open_node (deepen_word pragma low (expect_word names (expect_word ends
      ((statement_at statement).reads more (Derives.make (rise reading)))))));
}

-- ---- the productions, one after another

mutual
  -- blocks
  pub block_reads : {limit depth : ℕ} {words rest : List Word} {tree : Tree} → Block limit depth words rest tree → BlockReads limit depth words rest tree
  block_reads (Block.block begins low items closes) = block_from begins low (items_read items) closes

  -- items
  pub items_read : {limit depth : ℕ} {words rest : List Word} {trees : List Tree} → Items limit depth words rest trees → ItemsRead limit depth words rest trees
  items_read Items.none = no_items
  items_read (Items.locals locals items) = locals_item locals (items_read items)
  items_read (Items.locks locks items) = locks_item locks (items_read items)
  items_read (Items.alone which pragma names ends items) = alone_item which pragma names ends (items_read items)
  items_read (Items.statement statement items) = statement_item (statement_reads statement) (items_read items)

  -- statements
  pub statement_reads : {limit depth : ℕ} {words rest : List Word} {tree : Tree} → Statement limit depth words rest tree → StatementReads limit depth words rest tree
  statement_reads (Statement.empty semicolon) = StatementReads.plain (empty_reads semicolon)
  statement_reads (Statement.braced block) = StatementReads.plain (braced_reads (brace_next block) (block_reads block))
  statement_reads (Statement.if_alone begins low opens condition closes statement none) = StatementReads.plain (if_alone_reads begins low opens condition closes (statement_reads statement) none)
  statement_reads (Statement.if_else begins low opens condition closes statement other second) =
      StatementReads.plain (if_else_reads begins low opens condition closes (statement_reads statement) other (statement_reads second))
  statement_reads (Statement.while begins low opens condition closes statement) = StatementReads.plain (while_reads begins low opens condition closes (statement_reads statement))
  statement_reads (Statement.loop loops low opens start one condition two step closes statement) =
      StatementReads.plain (loop_reads loops low opens start one condition two step closes (statement_reads statement))
  statement_reads (Statement.returns returns ends) = StatementReads.plain (returns_reads returns ends)
  statement_reads (Statement.returns_value returns value ends) = StatementReads.plain (returns_value_reads returns value ends)
  statement_reads (Statement.set_call place sets call ends) = StatementReads.plain record { reads = λ more reading. set_call_derives place sets call ends reading }
  statement_reads (Statement.called call ends) = StatementReads.plain record { reads = λ more reading. called_derives call ends reading }
  statement_reads (Statement.stepped step ends) = StatementReads.plain record { reads = λ more reading. stepped_derives step ends reading }
  statement_reads (Statement.print prints opens text arguments closes ends) = StatementReads.plain record { reads = λ more reading. print_derives prints opens text arguments closes ends reading }
  statement_reads (Statement.locking which names lock ends) = StatementReads.plain record { reads = λ more reading. locking_derives which names lock ends reading }
  statement_reads (Statement.construct part) = StatementReads.construct (construct_reads part)

  -- constructs
  pub construct_reads : {limit depth : ℕ} {words rest : List Word} {tree : Tree} → Construct limit depth words rest tree → ConstructReads limit depth words rest tree
  construct_reads (Construct.around pragma low unlike directed ends statement) = around_reads pragma low unlike directed ends (statement_reads statement)
  construct_reads (Construct.in_sections pragma low like directed ends sections) = in_sections_reads pragma low like directed ends (sections_read sections)

  -- sections in their braces
  pub sections_read : {limit depth : ℕ} {words rest : List Word} {trees : List Tree} → Sections limit depth words rest trees → SectionsRead limit depth words rest trees
  sections_read (Sections.from_statement begins statement more closes) = sections_from begins (first_at (statement_reads statement)) (more_sections_read more) closes
  sections_read (Sections.from_section begins section more closes) = sections_from begins (section_reads section).as_first (more_sections_read more) closes

  -- sections behind the first
  pub more_sections_read : {limit depth : ℕ} {words rest : List Word} {trees : List Tree} → MoreSections limit depth words rest trees → MoreSectionsRead limit depth words rest trees
  more_sections_read MoreSections.last = no_more_sections
  more_sections_read (MoreSections.further section more) = further_section (section_reads section) (more_sections_read more)

  -- one section
  pub section_reads : {limit depth : ℕ} {words rest : List Word} {tree : Tree} → Section limit depth words rest tree → SectionReads limit depth words rest tree
  section_reads (Section.section pragma low names ends statement) = section_from pragma low names ends (statement_reads statement)
