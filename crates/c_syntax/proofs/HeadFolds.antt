-- The table's rules of directives do no more than what these sorts mean.
use Rattle.std.proofs.Common.{ℕ, ◌≡◌, ◌<◌, ◌+◌, ◌-◌, ◌⊎◌, inl, inr, true, false, IsTrue, List, [], ◌∷◌, ◌++◌, Some, refl, sym, subst, arith}
use Rattle.std.proofs.lemmas.Bool.{false≢true}
use Rattle.c_syntax.specs.declared.grammar.Class.TheVariants as class
use Rattle.c_syntax.specs.declared.grammar.Sort.TheVariants as sort
use Rattle.c_syntax.specs.declared.head.Head.{Head}
use Rattle.c_syntax.specs.declared.head.Head.TheVariants as head
use Rattle.c_syntax.specs.declared.node.Directive.{Directive}
use Rattle.c_syntax.specs.declared.node.Directive.TheVariants as directive
use Rattle.c_syntax.specs.declared.node.NodeKind.TheVariants as node
use Rattle.c_syntax.specs.declared.node.Standalone.{Standalone}
use Rattle.c_syntax.specs.declared.node.Standalone.TheVariants as standalone
use Rattle.c_syntax.specs.declared.term.Term.{Term}
use Rattle.c_syntax.specs.declared.term.Term.TheVariants as term
use Rattle.c_syntax.specs.language.Words.{Word}
use Rattle.c_syntax.specs.language.Tree.{Tree}
use Rattle.c_syntax.specs.workings.Grammar.{choice}
use Rattle.c_syntax.specs.workings.Derivation.{Opened, made, with_child}
use Rattle.c_syntax.specs.language.Productions.{DirectiveOf, Is, IsName, DirectiveWords, in_head, is_sections, name_node, standalone_word}
use Rattle.c_syntax.proofs.ClauseFolds.{Does, behind_name, did}
use Rattle.c_syntax.proofs.Effects.{Effect, Expects, Folds, Makes, Opens, Rises, Takes}
use Rattle.c_syntax.proofs.HeadMeaning.{Body, Closes, Constructed, CriticalName, Deeper, Follows, Lined, ReadsBehind, is_bare, is_clausal}
use Rattle.c_syntax.proofs.Standing.{Stands}
use Rattle.c_syntax.proofs.Standing.Stands.{stands}
use Rattle.c_syntax.proofs.HeadWords.{first_word, is_single}
use Rattle.c_syntax.proofs.CallMeaning.{ReadsStatement}
use Rattle.c_syntax.proofs.SortMeaning.{reads}
use Rattle.c_syntax.proofs.StatementMeaning.{ReadsSections}
use Rattle.c_syntax.proofs.Pushing.{all_added, plus}

-- ---- what follows the first word is a directive with it

CriticalName-directed : {limit depth : ℕ} {words rest : List Word} {trees : List Tree} {word : Word} → Is term.Critical word → CriticalName words rest trees
    → DirectiveOf limit depth directive.Critical (word ∷ words) rest trees
CriticalName-directed is CriticalName.none = DirectiveOf.critical is
CriticalName-directed is (CriticalName.named opens names closes) = DirectiveOf.critical_named is opens names closes

bare-directed : {limit depth : ℕ} {rest : List Word} {word : Word} → (which : Directive) → IsTrue (is_bare which) → Is (first_word which) word → DirectiveOf limit depth which (word ∷ rest) rest []
bare-directed directive.Masked bare is = DirectiveOf.masked is
bare-directed directive.Master bare is = DirectiveOf.master is
bare-directed other bare is = absurd (false≢true bare)

named-clausal : {words : List Word} {word : Word} → (which : Directive) → IsTrue (is_clausal which) → IsTrue (is_single which) → Is (first_word which) word → DirectiveWords which (word ∷ words) words
named-clausal directive.Parallel clausal single is = DirectiveWords.parallel is
named-clausal directive.For clausal single is = DirectiveWords.loop is
named-clausal directive.Sections clausal single is = DirectiveWords.sections is
named-clausal directive.Single clausal single is = DirectiveWords.single is
named-clausal directive.Task clausal single is = DirectiveWords.task is
named-clausal directive.ParallelFor clausal single is = absurd (false≢true single)
named-clausal directive.ParallelSections clausal single is = absurd (false≢true single)
named-clausal directive.Masked clausal single is = absurd (false≢true clausal)
named-clausal directive.Master clausal single is = absurd (false≢true clausal)
named-clausal directive.Critical clausal single is = absurd (false≢true clausal)

follows-directed : {limit depth : ℕ} {first which : Directive} {words rest : List Word} {trees : List Tree} {word : Word} → IsTrue (is_single first) → Is (first_word first) word
    → Follows limit depth first which words rest trees → DirectiveOf limit depth which (word ∷ words) rest trees
follows-directed single is (Follows.clauses {which = which} clausal clauses) = DirectiveOf.with_clauses (named-clausal which clausal single is) clauses
follows-directed single is (Follows.parallel_for second clauses) = DirectiveOf.with_clauses (DirectiveWords.parallel_for is second) clauses
follows-directed single is (Follows.parallel_sections second clauses) = DirectiveOf.with_clauses (DirectiveWords.parallel_sections is second) clauses
follows-directed single is (Follows.bare {which = which} bare) = bare-directed which bare is
follows-directed single is (Follows.critical name) = CriticalName-directed is name

lined-constructed : {limit depth : ℕ} {first which : Directive} {words rest : List Word} {trees : List Tree} {word : Word} → IsTrue (is_single first) → Is (first_word first) word
    → Lined limit depth first which words rest trees → Constructed limit depth which (word ∷ words) rest trees
lined-constructed single is (Lined.lined follows ends body) = Constructed.constructed (follows-directed single is follows) ends body

-- .. also behind the second word
second-for : {limit depth : ℕ} {which : Directive} {words rest : List Word} {trees : List Tree} {second : Word} → Is term.For second
    → Follows limit depth directive.ParallelFor which words rest trees → Follows limit depth directive.Parallel which (second ∷ words) rest trees
second-for is (Follows.clauses clausal clauses) = Follows.parallel_for is clauses
second-for is (Follows.bare bare) = absurd (false≢true bare)

second-sections : {limit depth : ℕ} {which : Directive} {words rest : List Word} {trees : List Tree} {second : Word} → Is term.Sections second
    → Follows limit depth directive.ParallelSections which words rest trees → Follows limit depth directive.Parallel which (second ∷ words) rest trees
second-sections is (Follows.clauses clausal clauses) = Follows.parallel_sections is clauses
second-sections is (Follows.bare bare) = absurd (false≢true bare)

lined-for : {limit depth : ℕ} {which : Directive} {words rest : List Word} {trees : List Tree} {second : Word} → Is term.For second
    → Lined limit depth directive.ParallelFor which words rest trees → Lined limit depth directive.Parallel which (second ∷ words) rest trees
lined-for is (Lined.lined follows ends body) = Lined.lined (second-for is follows) ends body

lined-sections : {limit depth : ℕ} {which : Directive} {words rest : List Word} {trees : List Tree} {second : Word} → Is term.Sections second
    → Lined limit depth directive.ParallelSections which words rest trees → Lined limit depth directive.Parallel which (second ∷ words) rest trees
lined-sections is (Lined.lined follows ends body) = Lined.lined (second-sections is follows) ends body

-- ---- the line of a directive, and the text behind it

stands-added : (place : Head) (trees : List Tree) (own : Opened) (outer : List Opened) → Stands place place (all_added trees (own ∷ outer))
stands-added place [] own outer = stands
stands-added place (tree ∷ trees) own outer = stands-added place trees (with_child (Some tree) own) outer

all_added-append : (trees parts : List Tree) (nodes : List Opened) → all_added (trees ++ parts) nodes ≡ all_added parts (all_added trees nodes)
all_added-append [] parts nodes = refl
all_added-append (tree ∷ trees) parts nodes = all_added-append trees parts (plus (Some tree) nodes)

module _ (limit depth : ℕ) (next : Effect) (own : Opened) (outer : List Opened) where
  abbrev here : List Opened
  here = own ∷ outer

  -- a line is over, and the construct with it
  abbrev Done : Directive → List Word → Type 0
  Done first words = (which : Directive) × (rest : List Word) × (trees : List Tree) × Lined limit depth first which words rest trees × Closes next depth which rest trees here

  line_done : (first which : Directive) (words behind rest : List Word) (heads parts : List Tree) (last : Word) → Follows limit depth first which words (last ∷ behind) heads
      → Is term.PragmaEnd last → Body limit depth which behind rest parts → next depth head.Outside rest (made (node.Construct which) (all_added parts (all_added heads here))) → Done first words
  line_done first which words behind rest heads parts last follows ends body goes = (
    which,
    rest,
    heads ++ parts,
    Lined.lined follows ends body,
    subst (λ nodes. next depth head.Outside rest (made (node.Construct which) nodes)) (sym (all_added-append heads parts here)) goes,
  )

  -- .. before a statement
  statement_done : (first which : Directive) → is_sections which ≡ false → (words rest : List Word) (heads : List Tree) → Follows limit depth first which words rest heads
      → Expects term.PragmaEnd (ReadsStatement limit (Makes (node.Construct which) next)) depth head.Clause rest (all_added heads here) → Done first words
  statement_done first which plain words [] heads follows run = absurd run
  statement_done first which plain words (last ∷ behind) heads follows (ends, read) =
      let inner = read (stands-added head.Outside heads own outer) in
      line_done first which words behind inner.0 heads (inner.1 ∷ []) last follows ends (Body.statement plain inner.2) inner.3

  -- .. before sections
  sections_done : (first which : Directive) → is_sections which ≡ true → (words rest : List Word) (heads : List Tree) → Follows limit depth first which words rest heads
      → Expects term.PragmaEnd (ReadsSections limit (Makes (node.Construct which) next)) depth head.Clause rest (all_added heads here) → Done first words
  sections_done first which are words [] heads follows run = absurd run
  sections_done first which are words (last ∷ behind) heads follows (ends, read) =
      let inner = read (stands-added head.Outside heads own outer) in
      line_done first which words behind inner.0 heads inner.1 last follows ends (Body.sections are inner.2) inner.3

  behind_done : (first : Directive) (words : List Word) (ahead : Term) → Does limit next depth head.Clause words here (Done first words) (choice (sort.Behind first) ahead)
  behind_done directive.Parallel words ahead = λ run. run stands
  behind_done directive.For words ahead = λ run. let line = run stands in statement_done directive.For directive.For refl words line.0 line.1 (Follows.clauses refl line.2) line.3
  behind_done directive.Sections words ahead = λ run. let line = run stands in sections_done directive.Sections directive.Sections refl words line.0 line.1 (Follows.clauses refl line.2) line.3
  behind_done directive.Single words ahead = λ run. let line = run stands in statement_done directive.Single directive.Single refl words line.0 line.1 (Follows.clauses refl line.2) line.3
  behind_done directive.ParallelFor words ahead = λ run.
      let line = run stands in statement_done directive.ParallelFor directive.ParallelFor refl words line.0 line.1 (Follows.clauses refl line.2) line.3
  behind_done directive.ParallelSections words ahead = λ run.
      let line = run stands in sections_done directive.ParallelSections directive.ParallelSections refl words line.0 line.1 (Follows.clauses refl line.2) line.3
  behind_done directive.Masked words ahead = λ run. statement_done directive.Masked directive.Masked refl words words [] (Follows.bare refl) run
  behind_done directive.Master words ahead = λ run. statement_done directive.Master directive.Master refl words words [] (Follows.bare refl) run
  behind_done directive.Critical words ahead = λ run.
      let line = run stands in statement_done directive.Critical directive.Critical refl words line.0 line.1 (Follows.critical line.2) line.3
  behind_done directive.Task words ahead = λ run. let line = run stands in statement_done directive.Task directive.Task refl words line.0 line.1 (Follows.clauses refl line.2) line.3

  after_parallel_done : (word : Word) (words : List Word) (ahead : Term)
      → Does limit next depth head.Clause (word ∷ words) here (Done directive.Parallel (word ∷ words)) (choice sort.AfterParallel ahead)
  after_parallel_done word words term.For = λ run. let line = run.1 stands in (line.0, line.1, line.2, lined-for run.0 line.3, line.4)
  after_parallel_done word words term.Sections = λ run. let line = run.1 stands in (line.0, line.1, line.2, lined-sections run.0 line.3, line.4)
  after_parallel_done word words other = λ run.
      let line = run stands in statement_done directive.Parallel directive.Parallel refl (word ∷ words) line.0 line.1 (Follows.clauses refl line.2) line.3

behind_stands : (limit : ℕ) (first : Directive) (next : Effect) (depth : ℕ) (at : Head) (word : Word) (words : List Word) (nodes : List Opened) → Stands head.Clause at nodes
    → Does limit next depth at (word ∷ words) nodes
    ((which : Directive) × (rest : List Word) × (trees : List Tree) × Lined limit depth first which (word ∷ words) rest trees × Closes next depth which rest trees nodes)
    (choice (sort.Behind first) word.term)
behind_stands limit first next depth at word words nodes (stands {own} {outer}) = behind_done limit depth next own outer first (word ∷ words) word.term

pub behind_fold : (limit : ℕ) (first : Directive) → Folds limit (reads limit) (sort.Behind first)
behind_fold limit first word chosen same next depth at words nodes run = λ place.
    did limit next depth at (word ∷ words) nodes _ _ chosen (behind_stands limit first next depth at word words nodes place) same run

after_parallel_stands : (limit : ℕ) (next : Effect) (depth : ℕ) (at : Head) (word : Word) (words : List Word) (nodes : List Opened) → Stands head.Clause at nodes
    → Does limit next depth at (word ∷ words) nodes
    ((which : Directive) × (rest : List Word) × (trees : List Tree) × Lined limit depth directive.Parallel which (word ∷ words) rest trees × Closes next depth which rest trees nodes)
    (choice sort.AfterParallel word.term)
after_parallel_stands limit next depth at word words nodes (stands {own} {outer}) = after_parallel_done limit depth next own outer word words word.term

pub after_parallel_fold : (limit : ℕ) → Folds limit (reads limit) sort.AfterParallel
after_parallel_fold limit word chosen same next depth at words nodes run = λ place.
    did limit next depth at (word ∷ words) nodes _ _ chosen (after_parallel_stands limit next depth at word words nodes place) same run

-- ---- the name of a critical

-- a name, or none, and what goes on behind it
abbrev Named-critical : Effect → ℕ → List Word → List Opened → Type 0
Named-critical next depth words nodes = (rest : List Word) × (trees : List Tree) × CriticalName words rest trees × next depth head.Clause rest (all_added trees nodes)

critical_ends : (next : Effect) (depth : ℕ) (own : Opened) (outer : List Opened) (first name : Word) (words : List Word) → Is term.OpenParen first → IsName in_head name
    → Expects term.CloseParen next depth in_head words (with_child (Some (name_node name)) own ∷ outer) → Named-critical next depth (first ∷ name ∷ words) (own ∷ outer)
critical_ends next depth own outer first name [] opens names run = absurd run
critical_ends next depth own outer first name (last ∷ rest) opens names (closes, goes) = (rest, name_node name ∷ [], CriticalName.named opens names closes, goes)

critical_names : (next : Effect) (depth : ℕ) (own : Opened) (outer : List Opened) (first : Word) (words : List Word) → Is term.OpenParen first
    → Opens (Takes class.Name (Makes node.Name (Expects term.CloseParen next))) depth in_head words (own ∷ outer) → Named-critical next depth (first ∷ words) (own ∷ outer)
critical_names next depth own outer first [] opens run = absurd run
critical_names next depth own outer first (name ∷ words) opens (names, run) =
    critical_ends next depth own outer first name words opens names
    (behind_name (Expects term.CloseParen next) depth name words (with_child (Some (name_node name)) own ∷ outer) names run)

critical_name_done : (limit : ℕ) (next : Effect) (depth : ℕ) (at : Head) (word : Word) (words : List Word) (nodes : List Opened) → Stands head.Clause at nodes → (ahead : Term)
    → Does limit next depth at (word ∷ words) nodes (Named-critical next depth (word ∷ words) nodes) (choice sort.CriticalName ahead)
critical_name_done limit next depth at word words nodes (stands {own} {outer}) term.OpenParen = λ run. critical_names next depth own outer word words run.0 run.1
critical_name_done limit next depth at word words nodes (stands {own} {outer}) other = λ run. (word ∷ words, [], CriticalName.none, run)

pub critical_name_fold : (limit : ℕ) → Folds limit (reads limit) sort.CriticalName
critical_name_fold limit word chosen same next depth at words nodes run = λ place.
    did limit next depth at (word ∷ words) nodes _ _ chosen (critical_name_done limit next depth at word words nodes place word.term) same run

-- ---- constructs

construct_ends : (limit : ℕ) (next : Effect) (depth : ℕ) (own : Opened) (outer : List Opened) (word : Word) (words : List Word) (first : Directive) → IsTrue (is_single first)
    → Is (first_word first) word → ReadsBehind limit first (Rises next) depth head.Clause words (own ∷ outer)
    → (which : Directive) × (rest : List Word) × (trees : List Tree) × Constructed limit depth which (word ∷ words) rest trees × Closes next (depth - 1) which rest trees (own ∷ outer)
construct_ends limit next depth own outer word words first single is read =
    let line = read stands in
    (line.0, line.1, line.2, lined-constructed single is line.3, line.4)

construct_done : (limit : ℕ) (next : Effect) (depth : ℕ) (at : Head) (word : Word) (words : List Word) (nodes : List Opened) → Stands head.Directive at nodes → (ahead : Term)
    → Does limit next depth at (word ∷ words) nodes
    ((which : Directive) × (rest : List Word) × (trees : List Tree) × Constructed limit depth which (word ∷ words) rest trees × Closes next (depth - 1) which rest trees nodes)
    (choice sort.Construct ahead)
construct_done limit next depth at word words nodes (stands {own} {outer}) term.Parallel = λ run. construct_ends limit next depth own outer word words directive.Parallel refl run.0 run.1
construct_done limit next depth at word words nodes (stands {own} {outer}) term.For = λ run. construct_ends limit next depth own outer word words directive.For refl run.0 run.1
construct_done limit next depth at word words nodes (stands {own} {outer}) term.Sections = λ run. construct_ends limit next depth own outer word words directive.Sections refl run.0 run.1
construct_done limit next depth at word words nodes (stands {own} {outer}) term.Single = λ run. construct_ends limit next depth own outer word words directive.Single refl run.0 run.1
construct_done limit next depth at word words nodes (stands {own} {outer}) term.Masked = λ run. construct_ends limit next depth own outer word words directive.Masked refl run.0 run.1
construct_done limit next depth at word words nodes (stands {own} {outer}) term.Master = λ run. construct_ends limit next depth own outer word words directive.Master refl run.0 run.1
construct_done limit next depth at word words nodes (stands {own} {outer}) term.Critical = λ run. construct_ends limit next depth own outer word words directive.Critical refl run.0 run.1
construct_done limit next depth at word words nodes (stands {own} {outer}) term.Task = λ run. construct_ends limit next depth own outer word words directive.Task refl run.0 run.1
construct_done limit next depth at word words nodes place other = tt

pub construct_fold : (limit : ℕ) → Folds limit (reads limit) sort.Construct
construct_fold limit word chosen same next depth at words nodes run = λ place.
    did limit next depth at (word ∷ words) nodes _ _ chosen (construct_done limit next depth at word words nodes place word.term) same run

-- .. that count for the depth only now
item_ends : (limit : ℕ) (next : Effect) (depth : ℕ) (own : Opened) (outer : List Opened) (word : Word) (words : List Word) (first : Directive) → IsTrue (is_single first)
    → Is (first_word first) word → depth < limit → ReadsBehind limit first (Rises next) (depth + 1) head.Clause words (own ∷ outer) → Deeper limit next depth (word ∷ words) (own ∷ outer)
item_ends limit next depth own outer word words first single is low read =
    let line = read stands in (
      line.0,
      line.1,
      line.2,
      low,
      lined-constructed single is line.3,
      subst (λ level. next level head.Outside line.1 (made (node.Construct line.0) (all_added line.2 (own ∷ outer)))) (lowered depth) line.4,
    )
  where
    lowered : (depth : ℕ) → depth + 1 - 1 ≡ depth
    lowered depth = omega arith

item_done : (limit : ℕ) (next : Effect) (depth : ℕ) (at : Head) (word : Word) (words : List Word) (nodes : List Opened) → Stands head.Directive at nodes → (ahead : Term)
    → Does limit next depth at (word ∷ words) nodes
    (Deeper limit next depth (word ∷ words) nodes
    ⊎ ((which : Standalone) × Expects (standalone_word which) (Expects term.PragmaEnd (Makes (node.Standalone which) next)) depth at (word ∷ words) nodes))
    (choice sort.ItemDirective ahead)
item_done limit next depth at word words nodes place term.Barrier = λ run. inr (standalone.Barrier, run)
item_done limit next depth at word words nodes place term.Taskwait = λ run. inr (standalone.Taskwait, run)
item_done limit next depth at word words nodes (stands {own} {outer}) term.Parallel = λ run. inl (item_ends limit next depth own outer word words directive.Parallel refl run.0 run.1 run.2)
item_done limit next depth at word words nodes (stands {own} {outer}) term.For = λ run. inl (item_ends limit next depth own outer word words directive.For refl run.0 run.1 run.2)
item_done limit next depth at word words nodes (stands {own} {outer}) term.Sections = λ run. inl (item_ends limit next depth own outer word words directive.Sections refl run.0 run.1 run.2)
item_done limit next depth at word words nodes (stands {own} {outer}) term.Single = λ run. inl (item_ends limit next depth own outer word words directive.Single refl run.0 run.1 run.2)
item_done limit next depth at word words nodes (stands {own} {outer}) term.Masked = λ run. inl (item_ends limit next depth own outer word words directive.Masked refl run.0 run.1 run.2)
item_done limit next depth at word words nodes (stands {own} {outer}) term.Master = λ run. inl (item_ends limit next depth own outer word words directive.Master refl run.0 run.1 run.2)
item_done limit next depth at word words nodes (stands {own} {outer}) term.Critical = λ run. inl (item_ends limit next depth own outer word words directive.Critical refl run.0 run.1 run.2)
item_done limit next depth at word words nodes (stands {own} {outer}) term.Task = λ run. inl (item_ends limit next depth own outer word words directive.Task refl run.0 run.1 run.2)
item_done limit next depth at word words nodes place other = tt

pub item_directive_fold : (limit : ℕ) → Folds limit (reads limit) sort.ItemDirective
item_directive_fold limit word chosen same next depth at words nodes run = λ place.
    did limit next depth at (word ∷ words) nodes _ _ chosen (item_done limit next depth at word words nodes place word.term) same run
