-- The table's rules of names and clauses do no more than what these sorts mean.
use Rattle.std.proofs.Common.{ℕ, ◌≡◌, Bool, true, false, IsTrue, List, [], ◌∷◌, Option, Some, None, refl, ap, subst}
use Rattle.std.proofs.lemmas.Bool.{false≢true}
use Rattle.c_syntax.specs.declared.grammar.Class.TheVariants as class
use Rattle.c_syntax.specs.declared.grammar.Sort.TheVariants as sort
use Rattle.c_syntax.specs.declared.grammar.Step.{Step}
use Rattle.c_syntax.specs.declared.head.Head.{Head}
use Rattle.c_syntax.specs.declared.head.Head.TheVariants as head
use Rattle.c_syntax.specs.declared.node.Data.{Data}
use Rattle.c_syntax.specs.declared.node.Data.TheVariants as data_clause
use Rattle.c_syntax.specs.declared.node.Default.{Default}
use Rattle.c_syntax.specs.declared.node.Default.TheVariants as default
use Rattle.c_syntax.specs.declared.node.Directive.{Directive}
use Rattle.c_syntax.specs.declared.node.Lead.TheVariants as lead
use Rattle.c_syntax.specs.declared.node.NodeKind.TheVariants as node
use Rattle.c_syntax.specs.declared.node.ReductionOp.{ReductionOp}
use Rattle.c_syntax.specs.declared.node.ReductionOp.TheVariants as reduction
use Rattle.c_syntax.specs.declared.node.ScheduleKind.{ScheduleKind}
use Rattle.c_syntax.specs.declared.node.ScheduleKind.TheVariants as schedule
use Rattle.c_syntax.specs.declared.term.Term.{Term}
use Rattle.c_syntax.specs.declared.term.Term.TheVariants as term
use Rattle.c_syntax.specs.language.Heads.{behind_inside}
use Rattle.c_syntax.specs.language.Words.{Word}
use Rattle.c_syntax.specs.language.Tree.{Tree, over_one}
use Rattle.c_syntax.specs.language.Tree.Tree.{Node}
use Rattle.c_syntax.specs.language.Tree.Children.{Over}
use Rattle.c_syntax.specs.workings.Grammar.{choice, given}
use Rattle.c_syntax.specs.workings.Derivation.{Opened, is_number, opened_at, with_child}
use Rattle.c_syntax.specs.language.Productions.{Chunk, Clause, Clauses, Expression, Is, IsName, MoreNames, Names, data_word, default_word, has_data, has_default, has_if, has_nowait, has_num_threads, has_private, has_reduction, has_schedule, in_head, kids, kind_word, made_at, name_node, operator_word}
use Rattle.c_syntax.proofs.ClauseWords.{stays_inside}
use Rattle.c_syntax.proofs.Effects.{Effect, Expects, Folds, Makes, Opens, Runs, Takes}
use Rattle.c_syntax.proofs.HeadMeaning.{ReadsChunk, ReadsDefaultWord, ReadsKind, ReadsMoreNames, ReadsNames, ReadsOperator}
use Rattle.c_syntax.proofs.Standing.{Stands}
use Rattle.c_syntax.proofs.Standing.Stands.{stands}
use Rattle.c_syntax.proofs.SortMeaning.{reads}
use Rattle.c_syntax.proofs.Pushing.{all_added, made-pushed, plus}

-- what is chosen does what is claimed, if anything is chosen
abbrev pub Does : (limit : ℕ) → Effect → ℕ → Head → List Word → List Opened → Type 0 → Option (List Step) → Type 0
Does limit next depth at words nodes claim None = Unit {0}
Does limit next depth at words nodes claim (Some chosen) = Runs limit (reads limit) chosen next depth at words nodes → claim

pub did : (limit : ℕ) (next : Effect) (depth : ℕ) (at : Head) (words : List Word) (nodes : List Opened) (claim : Type 0) (option : Option (List Step)) (chosen : List Step)
    → Does limit next depth at words nodes claim option → option ≡ Some chosen → Runs limit (reads limit) chosen next depth at words nodes → claim
did limit next depth at words nodes claim option chosen does same = subst (Does limit next depth at words nodes claim) same does

-- .. where a test chooses it
pub does_given : (limit : ℕ) (next : Effect) (depth : ℕ) (at : Head) (words : List Word) (nodes : List Opened) (claim : Type 0) (test : Bool) (steps : List Step)
    → (IsTrue test → Runs limit (reads limit) steps next depth at words nodes → claim) → Does limit next depth at words nodes claim (given test steps)
does_given limit next depth at words nodes claim true steps does = does refl
does_given limit next depth at words nodes claim false steps does = tt

-- ---- names

-- the steps behind a name, which leaves the head as it is
pub behind_name : (next : Effect) (depth : ℕ) (word : Word) (words : List Word) (nodes : List Opened) → IsName in_head word → next depth (behind_inside 1 word.term) words nodes → next depth in_head words nodes
behind_name next depth word words nodes names goes = subst (λ at. next depth at words nodes) (stays_inside 1 word.term names) goes

names_done : (limit : ℕ) (next : Effect) (depth : ℕ) (at : Head) (word : Word) (words : List Word) (nodes : List Opened) → Stands in_head at nodes
    → Does limit next depth at (word ∷ words) nodes ((rest : List Word) × (trees : List Tree) × Names in_head (word ∷ words) rest trees × next depth in_head rest (all_added trees nodes)) (choice sort.Names word.term)
names_done limit next depth at word words nodes (stands {own} {outer}) (names, goes) =
    let more = behind_name (ReadsMoreNames next) depth word words (with_child (Some (name_node word)) own ∷ outer) names goes stands in
    (more.0, name_node word ∷ more.1, Names.names names more.2, more.3)

pub names_fold : (limit : ℕ) → Folds limit (reads limit) sort.Names
names_fold limit word chosen same next depth at words nodes run = λ place. did limit next depth at (word ∷ words) nodes _ _ chosen (names_done limit next depth at word words nodes place) same run

further_name : (next : Effect) (depth : ℕ) (comma : Word) (words : List Word) (own : Opened) (outer : List Opened) → Is term.Comma comma
    → Opens (Takes class.Name (Makes node.Name (ReadsMoreNames next))) depth in_head words (own ∷ outer)
    → (rest : List Word) × (trees : List Tree) × MoreNames in_head (comma ∷ words) rest trees × next depth in_head rest (all_added trees (own ∷ outer))
further_name next depth comma [] own outer is run = absurd run
further_name next depth comma (word ∷ words) own outer is (names, goes) =
    let more = behind_name (ReadsMoreNames next) depth word words (with_child (Some (name_node word)) own ∷ outer) names goes stands in
    (more.0, name_node word ∷ more.1, MoreNames.further is names more.2, more.3)

more_names_done : (limit : ℕ) (next : Effect) (depth : ℕ) (at : Head) (word : Word) (words : List Word) (nodes : List Opened) → Stands in_head at nodes → (which : Term)
    → Does limit next depth at (word ∷ words) nodes ((rest : List Word) × (trees : List Tree) × MoreNames in_head (word ∷ words) rest trees × next depth in_head rest (all_added trees nodes)) (choice sort.MoreNames which)
more_names_done limit next depth at word words nodes (stands {own} {outer}) term.Comma = λ run. further_name next depth word words own outer run.0 run.1
more_names_done limit next depth at word words nodes (stands {own} {outer}) other = λ run. (word ∷ words, [], MoreNames.last, run)

pub more_names_fold : (limit : ℕ) → Folds limit (reads limit) sort.MoreNames
more_names_fold limit word chosen same next depth at words nodes run = λ place.
    did limit next depth at (word ∷ words) nodes _ _ chosen (more_names_done limit next depth at word words nodes place word.term) same run

-- ---- the parts of clauses

chunk_number : (next : Effect) (depth : ℕ) (comma : Word) (words : List Word) (own : Opened) (outer : List Opened) → Is term.Comma comma
    → Opens (Takes class.Number (Makes node.Number next)) depth in_head words (own ∷ outer)
    → (rest : List Word) × (trees : List Tree) × Chunk (comma ∷ words) rest trees × next depth in_head rest (all_added trees (own ∷ outer))
chunk_number next depth comma [] own outer is run = absurd run
chunk_number next depth comma (word ∷ words) own outer is (number, goes) =
    let same : word.term ≡ term.Number = number_is word.term number in
    let trees : List Tree = Node node.Number word.spot 0 word.value [] Over ∷ [] in
    (words, trees, Chunk.some is same, subst (λ at. next depth at words (all_added trees (own ∷ outer))) (ap (behind_inside 1) same) goes)
  where
    number_is : (which : Term) → IsTrue (is_number which) → which ≡ term.Number
    number_is term.Number is = refl
    number_is other is = absurd (false≢true is)

chunk_done : (limit : ℕ) (next : Effect) (depth : ℕ) (at : Head) (word : Word) (words : List Word) (nodes : List Opened) → Stands in_head at nodes → (which : Term)
    → Does limit next depth at (word ∷ words) nodes ((rest : List Word) × (trees : List Tree) × Chunk (word ∷ words) rest trees × next depth in_head rest (all_added trees nodes)) (choice sort.ChunkPart which)
chunk_done limit next depth at word words nodes (stands {own} {outer}) term.Comma = λ run. chunk_number next depth word words own outer run.0 run.1
chunk_done limit next depth at word words nodes (stands {own} {outer}) other = λ run. (word ∷ words, [], Chunk.none, run)

pub chunk_fold : (limit : ℕ) → Folds limit (reads limit) sort.ChunkPart
chunk_fold limit word chosen same next depth at words nodes run = λ place. did limit next depth at (word ∷ words) nodes _ _ chosen (chunk_done limit next depth at word words nodes place word.term) same run

default_word_done : (limit : ℕ) (next : Effect) (depth : ℕ) (at : Head) (words : List Word) (nodes : List Opened) → (which : Term)
    → Does limit next depth at words nodes (ReadsDefaultWord next depth at words nodes) (choice sort.DefaultWord which)
default_word_done limit next depth at words nodes term.Shared = λ run. (default.Shared, run)
default_word_done limit next depth at words nodes term.None = λ run. (default.None, run)
default_word_done limit next depth at words nodes other = tt

pub default_word_fold : (limit : ℕ) → Folds limit (reads limit) sort.DefaultWord
default_word_fold limit word chosen same next depth at words nodes run = did limit next depth at (word ∷ words) nodes _ _ chosen (default_word_done limit next depth at (word ∷ words) nodes word.term) same run

operator_done : (limit : ℕ) (next : Effect) (depth : ℕ) (at : Head) (words : List Word) (nodes : List Opened) → (which : Term)
    → Does limit next depth at words nodes (ReadsOperator next depth at words nodes) (choice sort.Operator which)
operator_done limit next depth at words nodes term.Plus = λ run. (reduction.Add, run)
operator_done limit next depth at words nodes term.Star = λ run. (reduction.Multiply, run)
operator_done limit next depth at words nodes term.Max = λ run. (reduction.Max, run)
operator_done limit next depth at words nodes term.Min = λ run. (reduction.Min, run)
operator_done limit next depth at words nodes other = tt

pub operator_fold : (limit : ℕ) → Folds limit (reads limit) sort.Operator
operator_fold limit word chosen same next depth at words nodes run = did limit next depth at (word ∷ words) nodes _ _ chosen (operator_done limit next depth at (word ∷ words) nodes word.term) same run

kind_done : (limit : ℕ) (next : Effect) (depth : ℕ) (at : Head) (words : List Word) (nodes : List Opened) → (which : Term)
    → Does limit next depth at words nodes (ReadsKind next depth at words nodes) (choice sort.Kind which)
kind_done limit next depth at words nodes term.Static = λ run. (schedule.Static, run)
kind_done limit next depth at words nodes term.Dynamic = λ run. (schedule.Dynamic, run)
kind_done limit next depth at words nodes term.Guided = λ run. (schedule.Guided, run)
kind_done limit next depth at words nodes other = tt

pub kind_fold : (limit : ℕ) → Folds limit (reads limit) sort.Kind
kind_fold limit word chosen same next depth at words nodes run = did limit next depth at (word ∷ words) nodes _ _ chosen (kind_done limit next depth at (word ∷ words) nodes word.term) same run

-- ---- clauses

module _ (limit depth : ℕ) (which : Directive) (next : Effect) (word : Word) (own : Opened) (outer : List Opened) where
  -- a clause that begins with the word, and what goes on behind it
  abbrev Done : List Word → Type 0
  Done words = (rest : List Word) × (tree : Tree) × Clause limit depth which (word ∷ words) rest tree × next depth head.Clause rest (with_child (Some tree) own ∷ outer)

  abbrev begun : List Opened
  begun = opened_at word.spot ∷ own ∷ outer

  num_threads_ends : (first : Word) (words rest : List Word) (tree : Tree) → IsTrue (has_num_threads which) → Is term.NumThreads word → Is term.OpenParen first
      → Expression limit depth in_head words rest tree → Expects term.CloseParen (Makes node.NumThreads next) depth in_head rest (plus (Some tree) begun) → Done (first ∷ words)
  num_threads_ends first words [] tree has names opens expression run = absurd run
  num_threads_ends first words (last ∷ rest) tree has names opens expression (closes, goes) =
      (rest, made_at node.NumThreads word (kids (tree ∷ [])), Clause.num_threads has names opens expression closes, goes)

  num_threads_done : (words : List Word) → IsTrue (has_num_threads which) → Is term.NumThreads word
      → Expects term.OpenParen (reads limit sort.Expr (Expects term.CloseParen (Makes node.NumThreads next))) depth head.Word words begun → Done words
  num_threads_done [] has names run = absurd run
  num_threads_done (first ∷ words) has names (opens, read) = let inner = read refl in num_threads_ends first words inner.0 inner.1 has names opens inner.2 inner.3

  condition_ends : (first : Word) (words rest : List Word) (tree : Tree) → IsTrue (has_if which) → Is term.If word → Is term.OpenParen first
      → Expression limit depth in_head words rest tree → Expects term.CloseParen (Makes node.IfClause next) depth in_head rest (plus (Some tree) begun) → Done (first ∷ words)
  condition_ends first words [] tree has names opens expression run = absurd run
  condition_ends first words (last ∷ rest) tree has names opens expression (closes, goes) =
      (rest, made_at node.IfClause word (kids (tree ∷ [])), Clause.condition has names opens expression closes, goes)

  condition_done : (words : List Word) → IsTrue (has_if which) → Is term.If word
      → Expects term.OpenParen (reads limit sort.Expr (Expects term.CloseParen (Makes node.IfClause next))) depth head.Word words begun → Done words
  condition_done [] has names run = absurd run
  condition_done (first ∷ words) has names (opens, read) = let inner = read refl in condition_ends first words inner.0 inner.1 has names opens inner.2 inner.3

  default_ends : (how : Default) (first told : Word) (words : List Word) → IsTrue (has_default which) → Is term.Default word → Is term.OpenParen first → Is (default_word how) told
      → Expects term.CloseParen (Makes (node.Default how) next) depth in_head words begun → Done (first ∷ told ∷ words)
  default_ends how first told [] has names opens tells run = absurd run
  default_ends how first told (last ∷ rest) has names opens tells (closes, goes) =
      (rest, made_at (node.Default how) word Over, Clause.default_of how has names opens tells closes, goes)

  default_told : (how : Default) (first : Word) (words : List Word) → IsTrue (has_default which) → Is term.Default word → Is term.OpenParen first
      → Expects (default_word how) (Expects term.CloseParen (Makes (node.Default how) next)) depth in_head words begun → Done (first ∷ words)
  default_told how first [] has names opens run = absurd run
  default_told default.Shared first (told ∷ words) has names opens (tells, run) = default_ends default.Shared first told words has names opens tells run
  default_told default.None first (told ∷ words) has names opens (tells, run) = default_ends default.None first told words has names opens tells run

  default_done : (words : List Word) → IsTrue (has_default which) → Is term.Default word → Expects term.OpenParen (ReadsDefaultWord next) depth head.Word words begun → Done words
  default_done [] has names run = absurd run
  default_done (first ∷ words) has names (opens, told) = default_told told.0 first words has names opens told.1

  data_ends : (how : Data) (first : Word) (words rest : List Word) (trees : List Tree) → IsTrue (has_data how which) → Is (data_word how) word → Is term.OpenParen first
      → Names in_head words rest trees → Expects term.CloseParen (Makes (node.Data how) next) depth in_head rest (all_added trees begun) → Done (first ∷ words)
  data_ends how first words [] trees has names opens others run = absurd run
  data_ends how first words (last ∷ rest) trees has names opens others (closes, goes) = (
    rest,
    made_at (node.Data how) word (kids trees),
    Clause.data_of how has names opens others closes,
    subst (λ nodes. next depth head.Clause rest nodes) (made-pushed (node.Data how) trees (opened_at word.spot) own outer) goes,
  )

  data_done : (how : Data) (words : List Word) → IsTrue (has_data how which) → Is (data_word how) word
      → Expects term.OpenParen (ReadsNames (Expects term.CloseParen (Makes (node.Data how) next))) depth head.Word words begun → Done words
  data_done how [] has names run = absurd run
  data_done how (first ∷ words) has names (opens, read) = let inner = read stands in data_ends how first words inner.0 inner.1 has names opens inner.2 inner.3

  reduction_ends : (how : ReductionOp) (first sign colon : Word) (words rest : List Word) (trees : List Tree) → IsTrue (has_reduction which) → Is term.Reduction word
      → Is term.OpenParen first → Is (operator_word how) sign → Is term.Colon colon → Names in_head words rest trees
      → Expects term.CloseParen (Makes (node.Reduction how) next) depth in_head rest (all_added trees begun) → Done (first ∷ sign ∷ colon ∷ words)
  reduction_ends how first sign colon words [] trees has names opens signs colons others run = absurd run
  reduction_ends how first sign colon words (last ∷ rest) trees has names opens signs colons others (closes, goes) = (
    rest,
    made_at (node.Reduction how) word (kids trees),
    Clause.reduction_of how has names opens signs colons others closes,
    subst (λ nodes. next depth head.Clause rest nodes) (made-pushed (node.Reduction how) trees (opened_at word.spot) own outer) goes,
  )

  reduction_colon : (how : ReductionOp) (first sign : Word) (words : List Word) → IsTrue (has_reduction which) → Is term.Reduction word → Is term.OpenParen first → Is (operator_word how) sign
      → Expects term.Colon (ReadsNames (Expects term.CloseParen (Makes (node.Reduction how) next))) depth in_head words begun → Done (first ∷ sign ∷ words)
  reduction_colon how first sign [] has names opens signs run = absurd run
  reduction_colon how first sign (colon ∷ words) has names opens signs (colons, read) =
      let inner = read stands in reduction_ends how first sign colon words inner.0 inner.1 has names opens signs colons inner.2 inner.3

  reduction_sign : (how : ReductionOp) (first : Word) (words : List Word) → IsTrue (has_reduction which) → Is term.Reduction word → Is term.OpenParen first
      → Expects (operator_word how) (Expects term.Colon (ReadsNames (Expects term.CloseParen (Makes (node.Reduction how) next)))) depth in_head words begun → Done (first ∷ words)
  reduction_sign how first [] has names opens run = absurd run
  reduction_sign reduction.Add first (sign ∷ words) has names opens (signs, run) = reduction_colon reduction.Add first sign words has names opens signs run
  reduction_sign reduction.Multiply first (sign ∷ words) has names opens (signs, run) = reduction_colon reduction.Multiply first sign words has names opens signs run
  reduction_sign reduction.Max first (sign ∷ words) has names opens (signs, run) = reduction_colon reduction.Max first sign words has names opens signs run
  reduction_sign reduction.Min first (sign ∷ words) has names opens (signs, run) = reduction_colon reduction.Min first sign words has names opens signs run

  reduction_done : (words : List Word) → IsTrue (has_reduction which) → Is term.Reduction word → Expects term.OpenParen (ReadsOperator next) depth head.Word words begun → Done words
  reduction_done [] has names run = absurd run
  reduction_done (first ∷ words) has names (opens, signed) = reduction_sign signed.0 first words has names opens signed.1

  schedule_ends : (how : ScheduleKind) (first told : Word) (words rest : List Word) (trees : List Tree) → IsTrue (has_schedule which) → Is term.Schedule word
      → Is term.OpenParen first → Is (kind_word how) told → Chunk words rest trees
      → Expects term.CloseParen (Makes (node.Schedule how) next) depth in_head rest (all_added trees begun) → Done (first ∷ told ∷ words)
  schedule_ends how first told words [] trees has names opens tells chunk run = absurd run
  schedule_ends how first told words (last ∷ rest) trees has names opens tells chunk (closes, goes) = (
    rest,
    made_at (node.Schedule how) word (kids trees),
    Clause.schedule_of how has names opens tells chunk closes,
    subst (λ nodes. next depth head.Clause rest nodes) (made-pushed (node.Schedule how) trees (opened_at word.spot) own outer) goes,
  )

  schedule_told : (how : ScheduleKind) (first : Word) (words : List Word) → IsTrue (has_schedule which) → Is term.Schedule word → Is term.OpenParen first
      → Expects (kind_word how) (ReadsChunk (Expects term.CloseParen (Makes (node.Schedule how) next))) depth head.Kind words begun → Done (first ∷ words)
  schedule_told how first [] has names opens run = absurd run
  schedule_told how first (told ∷ words) has names opens (tells, read) =
      let inner = read stands in schedule_ends how first told words inner.0 inner.1 has names opens tells inner.2 inner.3

  schedule_done : (words : List Word) → IsTrue (has_schedule which) → Is term.Schedule word → Expects term.OpenParen (ReadsKind next) depth head.Schedule words begun → Done words
  schedule_done [] has names run = absurd run
  schedule_done (first ∷ words) has names (opens, told) = schedule_told told.0 first words has names opens told.1

  given_clause : (words : List Word) (test : Bool) (steps : List Step) → (IsTrue test → Runs limit (reads limit) steps next depth head.Clause (word ∷ words) (own ∷ outer) → Done words)
      → Does limit next depth head.Clause (word ∷ words) (own ∷ outer) (Done words) (given test steps)
  given_clause words test steps does = does_given limit next depth head.Clause (word ∷ words) (own ∷ outer) (Done words) test steps does

  clause_done : (words : List Word) (ahead : Term) → Does limit next depth head.Clause (word ∷ words) (own ∷ outer) (Done words) (choice (sort.Clause which) ahead)
  clause_done words term.NumThreads = given_clause words (has_num_threads which) _ (λ has run. num_threads_done words has run.0 run.1)
  clause_done words term.Default = given_clause words (has_default which) _ (λ has run. default_done words has run.0 run.1)
  clause_done words term.Shared = given_clause words (has_default which) _ (λ has run. data_done data_clause.Shared words has run.0 run.1)
  clause_done words term.Private = given_clause words (has_private which) _ (λ has run. data_done data_clause.Private words has run.0 run.1)
  clause_done words term.Firstprivate = given_clause words (has_private which) _ (λ has run. data_done data_clause.Firstprivate words has run.0 run.1)
  clause_done words term.Reduction = given_clause words (has_reduction which) _ (λ has run. reduction_done words has run.0 run.1)
  clause_done words term.Schedule = given_clause words (has_schedule which) _ (λ has run. schedule_done words has run.0 run.1)
  clause_done words term.Nowait = given_clause words (has_nowait which) _ (λ has run. (words, made_at node.Nowait word Over, Clause.nowait has run.0, run.1))
  clause_done words term.If = given_clause words (has_if which) _ (λ has run. condition_done words has run.0 run.1)
  clause_done words other = tt

clause_stands : (limit : ℕ) (which : Directive) (next : Effect) (depth : ℕ) (at : Head) (word : Word) (words : List Word) (nodes : List Opened) → Stands head.Clause at nodes
    → Does limit next depth at (word ∷ words) nodes ((rest : List Word) × (tree : Tree) × Clause limit depth which (word ∷ words) rest tree × next depth head.Clause rest (plus (Some tree) nodes))
    (choice (sort.Clause which) word.term)
clause_stands limit which next depth at word words nodes (stands {own} {outer}) = clause_done limit depth which next word own outer words word.term

pub clause_fold : (limit : ℕ) (which : Directive) → Folds limit (reads limit) (sort.Clause which)
clause_fold limit which word chosen same next depth at words nodes run = λ place.
    did limit next depth at (word ∷ words) nodes _ _ chosen (clause_stands limit which next depth at word words nodes place) same run

clauses_done : (limit : ℕ) (which : Directive) (next : Effect) (depth : ℕ) (at : Head) (word : Word) (words : List Word) (nodes : List Opened) → Stands head.Clause at nodes → (ahead : Term)
    → Does limit next depth at (word ∷ words) nodes ((rest : List Word) × (trees : List Tree) × Clauses limit depth which (word ∷ words) rest trees × next depth head.Clause rest (all_added trees nodes))
    (choice (sort.Clauses which) ahead)
clauses_done limit which next depth at word words nodes (stands {own} {outer}) term.PragmaEnd = λ run. (word ∷ words, [], Clauses.none, run)
clauses_done limit which next depth at word words nodes (stands {own} {outer}) term.Comma = λ run.
    let first = run.1 stands in
    let others = first.3 stands in
    (others.0, over_one (node.Clause lead.Comma) first.1 ∷ others.1, Clauses.behind_comma run.0 first.2 others.2, others.3)
clauses_done limit which next depth at word words nodes (stands {own} {outer}) other = λ run.
    let first = run stands in
    let others = first.3 stands in
    (others.0, over_one (node.Clause lead.Blank) first.1 ∷ others.1, Clauses.plain first.2 others.2, others.3)

pub clauses_fold : (limit : ℕ) (which : Directive) → Folds limit (reads limit) (sort.Clauses which)
clauses_fold limit which word chosen same next depth at words nodes run = λ place.
    did limit next depth at (word ∷ words) nodes _ _ chosen (clauses_done limit which next depth at word words nodes place word.term) same run
