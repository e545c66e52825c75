-- The lists of names in the head of a directive, and its clauses: what they spell, the table derives.
use Rattle.std.proofs.Common.{ℕ, ◌≡◌, List, [], ◌∷◌, Some, IsTrue, refl, ap}
use Rattle.std.proofs.lemmas.Bool.{false≢true}
use Rattle.c_syntax.specs.declared.grammar.Class.TheVariants as class
use Rattle.c_syntax.specs.declared.grammar.Step.{Step}
use Rattle.c_syntax.specs.declared.grammar.Step.TheVariants.{Expect, Take, Read, Open, Make, Wrap}
use Rattle.c_syntax.specs.declared.grammar.Sort.TheVariants as sort
use Rattle.c_syntax.specs.declared.head.Head.{Head}
use Rattle.c_syntax.specs.declared.head.Head.TheVariants as head
use Rattle.c_syntax.specs.declared.node.Data.TheVariants as data_clause
use Rattle.c_syntax.specs.declared.node.Default.TheVariants as default
use Rattle.c_syntax.specs.declared.node.Directive.{Directive}
use Rattle.c_syntax.specs.declared.node.Lead.TheVariants as lead
use Rattle.c_syntax.specs.declared.node.NodeKind.{NodeKind}
use Rattle.c_syntax.specs.declared.node.NodeKind.TheVariants as node
use Rattle.c_syntax.specs.declared.node.ReductionOp.{ReductionOp}
use Rattle.c_syntax.specs.declared.node.ReductionOp.TheVariants as reduction
use Rattle.c_syntax.specs.declared.node.ScheduleKind.{ScheduleKind}
use Rattle.c_syntax.specs.declared.node.ScheduleKind.TheVariants as schedule
use Rattle.c_syntax.specs.declared.term.Term.{Term}
use Rattle.c_syntax.specs.declared.term.Term.TheVariants as term
use Rattle.c_tokens.specs.declared.token.Spot.{Spot}
use Rattle.c_syntax.specs.language.Heads.{behind_inside}
use Rattle.c_syntax.specs.language.Words.{Word}
use Rattle.c_syntax.specs.language.Tree.{Tree}
use Rattle.c_syntax.specs.language.Tree.Tree.{Node}
use Rattle.c_syntax.specs.language.WordClasses.{is_word}
use Rattle.c_syntax.specs.workings.Derivation.{Derives, Opened, is_number, name_in, opened_at, with_child}
use Rattle.c_syntax.specs.language.Productions.{Chunk, Clause, Clauses, Is, IsName, MoreNames, Names, in_head, kids, kind_word, name_node, operator_word}
use Rattle.c_syntax.proofs.Expressions.{expression_derives}
use Rattle.c_syntax.proofs.Onward.{expect_word, given_holds, nodes_same, read_word, take_word}
use Rattle.c_syntax.proofs.Pushing.{all_added, is_end, made-pushed}

-- a name leaves the head of a directive as it is
pub stays_inside : (count : ℕ) (word : Term) → IsTrue (is_word word) → behind_inside count word ≡ head.Inside count
stays_inside count term.OpenParen names = absurd (false≢true names)
stays_inside count term.CloseParen names = absurd (false≢true names)
stays_inside count other names = refl

-- a name as a node of its own
pub name_derives : {limit depth : ℕ} {words : List Word} {word : Word} {whole : Tree} {steps : List Step} {own : Opened} {outer : List Opened} → IsName in_head word
    → Derives limit steps depth in_head words (with_child (Some (name_node word)) own ∷ outer) whole
    → Derives limit (Open ∷ Take class.Name ∷ Make node.Name ∷ steps) depth in_head (word ∷ words) (own ∷ outer) whole
name_derives {word = word} names more = Derives.open_node (take_word names (stays_inside 1 word.term names) (Derives.make more))

more_names_derive : {limit depth : ℕ} {words rest : List Word} {trees : List Tree} {whole : Tree} {steps : List Step} {own : Opened} {outer : List Opened} {last : Word}
    → MoreNames in_head words (last ∷ rest) trees → last.term ≡ term.CloseParen → Derives limit steps depth in_head (last ∷ rest) (all_added trees (own ∷ outer)) whole
    → Derives limit (Read sort.MoreNames ∷ steps) depth in_head words (own ∷ outer) whole
more_names_derive MoreNames.last closes more = read_word term.CloseParen closes refl more
more_names_derive (MoreNames.further comma names others) closes more =
    read_word term.Comma comma refl (expect_word comma (name_derives names (more_names_derive others closes more)))

-- names, up to the parenthesis behind them
pub names_derive : {limit depth : ℕ} {words rest : List Word} {trees : List Tree} {whole : Tree} {steps : List Step} {own : Opened} {outer : List Opened} {last : Word}
    → Names in_head words (last ∷ rest) trees → last.term ≡ term.CloseParen → Derives limit steps depth in_head (last ∷ rest) (all_added trees (own ∷ outer)) whole
    → Derives limit (Read sort.Names ∷ steps) depth in_head words (own ∷ outer) whole
names_derive (Names.names names others) closes more = Derives.read refl (name_derives names (more_names_derive others closes more))

-- .. as the children of a clause, which ends behind them
named_clause_derives : {limit depth : ℕ} {spot : Spot} {kind : NodeKind} {words rest : List Word} {trees : List Tree} {whole : Tree} {steps : List Step} {own : Opened} {outer : List Opened} {last : Word}
    → Names in_head words (last ∷ rest) trees → last.term ≡ term.CloseParen → Derives limit steps depth head.Clause rest (with_child (Some (Node kind spot (name_in kind 0) 0 [] (kids trees))) own ∷ outer) whole
    → Derives limit (Read sort.Names ∷ Expect term.CloseParen ∷ Make kind ∷ steps) depth in_head words (opened_at spot ∷ own ∷ outer) whole
named_clause_derives {spot = spot} {kind} {trees = trees} {own = own} {outer} others closes more =
    names_derive others closes (expect_word closes (Derives.make (nodes_same (made-pushed kind trees (opened_at spot) own outer) more)))

-- a number behind a comma, if there is one
chunk_derives : {limit depth : ℕ} {words rest : List Word} {trees : List Tree} {whole : Tree} {steps : List Step} {own : Opened} {outer : List Opened} {last : Word}
    → Chunk words (last ∷ rest) trees → last.term ≡ term.CloseParen → Derives limit steps depth in_head (last ∷ rest) (all_added trees (own ∷ outer)) whole
    → Derives limit (Read sort.ChunkPart ∷ steps) depth in_head words (own ∷ outer) whole
chunk_derives Chunk.none closes more = read_word term.CloseParen closes refl more
chunk_derives (Chunk.some comma number) closes more =
    read_word term.Comma comma refl (expect_word comma (Derives.open_node (take_word (ap is_number number) (ap (behind_inside 1) number) (Derives.make more))))

chunked_clause_derives : {limit depth : ℕ} {spot : Spot} {kind : NodeKind} {words rest : List Word} {trees : List Tree} {whole : Tree} {steps : List Step} {own : Opened} {outer : List Opened} {last : Word}
    → Chunk words (last ∷ rest) trees → last.term ≡ term.CloseParen → Derives limit steps depth head.Clause rest (with_child (Some (Node kind spot (name_in kind 0) 0 [] (kids trees))) own ∷ outer) whole
    → Derives limit (Read sort.ChunkPart ∷ Expect term.CloseParen ∷ Make kind ∷ steps) depth in_head words (opened_at spot ∷ own ∷ outer) whole
chunked_clause_derives {spot = spot} {kind} {trees = trees} {own = own} {outer} chunk closes more =
    chunk_derives chunk closes (expect_word closes (Derives.make (nodes_same (made-pushed kind trees (opened_at spot) own outer) more)))

reduced : {limit depth : ℕ} {spot : Spot} {words rest : List Word} {sign colon last : Word} {trees : List Tree} {whole : Tree} {steps : List Step} {own : Opened} {outer : List Opened}
    → (how : ReductionOp) → Is (operator_word how) sign → Is term.Colon colon → Names in_head words (last ∷ rest) trees → Is term.CloseParen last
    → Derives limit steps depth head.Clause rest (with_child (Some (Node (node.Reduction how) spot 0 0 [] (kids trees))) own ∷ outer) whole
    → Derives limit (Read sort.Operator ∷ steps) depth in_head (sign ∷ colon ∷ words) (opened_at spot ∷ own ∷ outer) whole
reduced reduction.Add sign colon others closes more = read_word term.Plus sign refl (expect_word sign (expect_word colon (named_clause_derives others closes more)))
reduced reduction.Multiply sign colon others closes more = read_word term.Star sign refl (expect_word sign (expect_word colon (named_clause_derives others closes more)))
reduced reduction.Max sign colon others closes more = read_word term.Max sign refl (expect_word sign (expect_word colon (named_clause_derives others closes more)))
reduced reduction.Min sign colon others closes more = read_word term.Min sign refl (expect_word sign (expect_word colon (named_clause_derives others closes more)))

scheduled : {limit depth : ℕ} {spot : Spot} {words rest : List Word} {told last : Word} {trees : List Tree} {whole : Tree} {steps : List Step} {own : Opened} {outer : List Opened}
    → (how : ScheduleKind) → Is (kind_word how) told → Chunk words (last ∷ rest) trees → Is term.CloseParen last
    → Derives limit steps depth head.Clause rest (with_child (Some (Node (node.Schedule how) spot 0 0 [] (kids trees))) own ∷ outer) whole
    → Derives limit (Read sort.Kind ∷ steps) depth head.Kind (told ∷ words) (opened_at spot ∷ own ∷ outer) whole
scheduled schedule.Static told chunk closes more = read_word term.Static told refl (expect_word told (chunked_clause_derives chunk closes more))
scheduled schedule.Dynamic told chunk closes more = read_word term.Dynamic told refl (expect_word told (chunked_clause_derives chunk closes more))
scheduled schedule.Guided told chunk closes more = read_word term.Guided told refl (expect_word told (chunked_clause_derives chunk closes more))

-- a clause that its directive has
clause_derives : {limit depth : ℕ} {which : Directive} {words rest : List Word} {tree whole : Tree} {steps : List Step} {own : Opened} {outer : List Opened}
    → Clause limit depth which words rest tree → Derives limit steps depth head.Clause rest (with_child (Some tree) own ∷ outer) whole
    → Derives limit (Read (sort.Clause which) ∷ steps) depth head.Clause words (own ∷ outer) whole
clause_derives (Clause.num_threads has names opens expression closes) more =
    read_word term.NumThreads names (given_holds has _)
    (Derives.open_node (expect_word names (expect_word opens (expression_derives refl expression (ap is_end closes) (expect_word closes (Derives.make more))))))
clause_derives (Clause.default_of default.Shared has names opens told closes) more =
    read_word term.Default names (given_holds has _)
    (Derives.open_node (expect_word names (expect_word opens (read_word term.Shared told refl (expect_word told (expect_word closes (Derives.make more)))))))
clause_derives (Clause.default_of default.None has names opens told closes) more =
    read_word term.Default names (given_holds has _)
    (Derives.open_node (expect_word names (expect_word opens (read_word term.None told refl (expect_word told (expect_word closes (Derives.make more)))))))
clause_derives (Clause.data_of data_clause.Shared has names opens others closes) more =
    read_word term.Shared names (given_holds has _) (Derives.open_node (expect_word names (expect_word opens (named_clause_derives others closes more))))
clause_derives (Clause.data_of data_clause.Private has names opens others closes) more =
    read_word term.Private names (given_holds has _) (Derives.open_node (expect_word names (expect_word opens (named_clause_derives others closes more))))
clause_derives (Clause.data_of data_clause.Firstprivate has names opens others closes) more =
    read_word term.Firstprivate names (given_holds has _) (Derives.open_node (expect_word names (expect_word opens (named_clause_derives others closes more))))
clause_derives (Clause.reduction_of how has names opens sign colon others closes) more =
    read_word term.Reduction names (given_holds has _) (Derives.open_node (expect_word names (expect_word opens (reduced how sign colon others closes more))))
clause_derives (Clause.schedule_of how has names opens told chunk closes) more =
    read_word term.Schedule names (given_holds has _) (Derives.open_node (expect_word names (expect_word opens (scheduled how told chunk closes more))))
clause_derives (Clause.nowait has names) more = read_word term.Nowait names (given_holds has _) (Derives.open_node (expect_word names (Derives.make more)))
clause_derives (Clause.condition has names opens expression closes) more =
    read_word term.If names (given_holds has _)
    (Derives.open_node (expect_word names (expect_word opens (expression_derives refl expression (ap is_end closes) (expect_word closes (Derives.make more))))))

-- clauses are read by the first word of the next one, where no comma stands
blank_reads : {limit depth : ℕ} {which : Directive} {at : Head} {words rest : List Word} {tree whole : Tree} {steps : List Step} {nodes : List Opened}
    → Clause limit depth which words rest tree
    → Derives limit (Read (sort.Clause which) ∷ Wrap (node.Clause lead.Blank) ∷ Read (sort.Clauses which) ∷ steps) depth at words nodes whole
    → Derives limit (Read (sort.Clauses which) ∷ steps) depth at words nodes whole
blank_reads (Clause.num_threads has names opens expression closes) more = read_word term.NumThreads names refl more
blank_reads (Clause.default_of how has names opens told closes) more = read_word term.Default names refl more
blank_reads (Clause.data_of data_clause.Shared has names opens others closes) more = read_word term.Shared names refl more
blank_reads (Clause.data_of data_clause.Private has names opens others closes) more = read_word term.Private names refl more
blank_reads (Clause.data_of data_clause.Firstprivate has names opens others closes) more = read_word term.Firstprivate names refl more
blank_reads (Clause.reduction_of how has names opens sign colon others closes) more = read_word term.Reduction names refl more
blank_reads (Clause.schedule_of how has names opens told chunk closes) more = read_word term.Schedule names refl more
blank_reads (Clause.nowait has names) more = read_word term.Nowait names refl more
blank_reads (Clause.condition has names opens expression closes) more = read_word term.If names refl more

-- clauses, up to the end of the line
pub clauses_derive : {limit depth : ℕ} {which : Directive} {words rest : List Word} {trees : List Tree} {whole : Tree} {steps : List Step} {own : Opened} {outer : List Opened} {last : Word}
    → Clauses limit depth which words (last ∷ rest) trees → last.term ≡ term.PragmaEnd → Derives limit steps depth head.Clause (last ∷ rest) (all_added trees (own ∷ outer)) whole
    → Derives limit (Read (sort.Clauses which) ∷ steps) depth head.Clause words (own ∷ outer) whole
clauses_derive Clauses.none ends more = read_word term.PragmaEnd ends refl more
clauses_derive (Clauses.plain clause others) ends more = blank_reads clause (clause_derives clause (Derives.wrap (clauses_derive others ends more)))
clauses_derive (Clauses.behind_comma comma clause others) ends more =
    read_word term.Comma comma refl (expect_word comma (clause_derives clause (Derives.wrap (clauses_derive others ends more))))
