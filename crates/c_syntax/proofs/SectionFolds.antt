-- The table's rules of sections do no more than what these sorts mean.
use Rattle.std.proofs.Common.{ℕ, ◌<◌, ◌+◌, ◌⊎◌, inl, inr, List, [], ◌∷◌, Some}
use Rattle.c_syntax.specs.declared.grammar.Sort.TheVariants as sort
use Rattle.c_syntax.specs.declared.head.Head.{Head}
use Rattle.c_syntax.specs.declared.head.Head.TheVariants as head
use Rattle.c_syntax.specs.declared.node.NodeKind.TheVariants as node
use Rattle.c_syntax.specs.declared.term.Term.{Term}
use Rattle.c_syntax.specs.declared.term.Term.TheVariants as term
use Rattle.c_syntax.specs.language.Words.{Word}
use Rattle.c_syntax.specs.language.Tree.{Tree}
use Rattle.c_syntax.specs.workings.Grammar.{choice}
use Rattle.c_syntax.specs.workings.Derivation.{Opened, opened_at, with_child}
use Rattle.c_syntax.specs.language.Productions.{Is, MoreSections, Section, Sections, Statement, kids, made_at}
use Rattle.c_syntax.proofs.BlockFolds.{construct_done}
use Rattle.c_syntax.proofs.CallMeaning.{ReadsStatement}
use Rattle.c_syntax.proofs.ExpressionFolds.{lowered}
use Rattle.c_syntax.proofs.ClauseFolds.{Does, did}
use Rattle.c_syntax.proofs.Effects.{Effect, Expects, Folds, Makes, Rises}
use Rattle.c_syntax.proofs.Pushing.{all_added, plus}
use Rattle.c_syntax.proofs.SortMeaning.{reads}
use Rattle.c_syntax.proofs.Standing.{Stands}
use Rattle.c_syntax.proofs.Standing.Stands.{stands}
use Rattle.c_syntax.proofs.StatementMeaning.{ReadsMoreSections, ReadsSection, ReadsSectionOrConstruct}

module _ (limit depth : ℕ) (next : Effect) (word : Word) (own : Opened) (outer : List Opened) where
  abbrev begun : Opened
  begun = opened_at word.spot

  -- a section that begins with the word, and what goes on behind it
  abbrev Sectioned : List Word → Type 0
  Sectioned words = (rest : List Word) × (tree : Tree) × Section limit depth (word ∷ words) rest tree × next depth head.Outside rest (with_child (Some tree) own ∷ outer)

  section_ends : (told : Word) (words : List Word) → Is term.Pragma word → depth < limit → Is term.Section told
      → Expects term.PragmaEnd (ReadsStatement limit (Makes node.Section (Rises next))) (depth + 1) head.Bare words (begun ∷ own ∷ outer) → Sectioned (told ∷ words)
  section_ends told [] is low tells run = absurd run
  section_ends told (last ∷ words) is low tells (ends, read) =
      let inner = read stands in (
        inner.0,
        made_at node.Section word (kids (inner.1 ∷ [])),
        Section.section is low tells ends inner.2,
        lowered next depth head.Outside inner.0 (with_child (Some (made_at node.Section word (kids (inner.1 ∷ [])))) own ∷ outer) inner.3,
      )

  section_done : (words : List Word) → Is term.Pragma word → depth < limit → ReadsSection limit next (depth + 1) head.Directive words (begun ∷ own ∷ outer) → Sectioned words
  section_done [] is low run = absurd run
  section_done (told ∷ words) is low (tells, run) = section_ends told words is low tells run

  -- a section or a statement
  abbrev First : List Word → Type 0
  First words =
      (rest : List Word) × (tree : Tree) × (Statement limit depth (word ∷ words) rest tree ⊎ Section limit depth (word ∷ words) rest tree)
      × next depth head.Outside rest (with_child (Some tree) own ∷ outer)

  first_pragma : (words : List Word) → Is term.Pragma word → depth < limit → ReadsSectionOrConstruct limit next (depth + 1) head.Directive words (begun ∷ own ∷ outer) → First words
  first_pragma words is low (inl run) = let one = section_done words is low run in (one.0, one.1, inr one.2, one.3)
  first_pragma words is low (inr run) = let one = construct_done limit depth next word own outer words is low run in (one.0, one.1, inl one.2, one.3)

  first_done : (words : List Word) (ahead : Term) → Does limit next depth head.Outside (word ∷ words) (own ∷ outer) (First words) (choice sort.FirstSection ahead)
  first_done words term.Pragma = λ run. first_pragma words run.0 run.1 run.2
  first_done words other = λ run. let one = run stands in (one.0, one.1, inl one.2, one.3)

first_stands : (limit : ℕ) (next : Effect) (depth : ℕ) (at : Head) (word : Word) (words : List Word) (nodes : List Opened) → Stands head.Outside at nodes
    → Does limit next depth at (word ∷ words) nodes
    ((rest : List Word) × (tree : Tree) × (Statement limit depth (word ∷ words) rest tree ⊎ Section limit depth (word ∷ words) rest tree) × next depth head.Outside rest (plus (Some tree) nodes))
    (choice sort.FirstSection word.term)
first_stands limit next depth at word words nodes (stands {own} {outer}) = first_done limit depth next word own outer words word.term

pub first_section_fold : (limit : ℕ) → Folds limit (reads limit) sort.FirstSection
first_section_fold limit word chosen same next depth at words nodes run = λ place.
    did limit next depth at (word ∷ words) nodes _ _ chosen (first_stands limit next depth at word words nodes place) same run

section_or_construct_done : (limit : ℕ) (next : Effect) (depth : ℕ) (at : Head) (words : List Word) (nodes : List Opened) (ahead : Term)
    → Does limit next depth at words nodes (ReadsSectionOrConstruct limit next depth at words nodes) (choice sort.SectionOrConstruct ahead)
section_or_construct_done limit next depth at words nodes term.Section = λ run. inl run
section_or_construct_done limit next depth at words nodes other = λ run. inr run

pub section_or_construct_fold : (limit : ℕ) → Folds limit (reads limit) sort.SectionOrConstruct
section_or_construct_fold limit word chosen same next depth at words nodes run =
    did limit next depth at (word ∷ words) nodes _ _ chosen (section_or_construct_done limit next depth at (word ∷ words) nodes word.term) same run

more_sections_done : (limit : ℕ) (next : Effect) (depth : ℕ) (at : Head) (word : Word) (words : List Word) (nodes : List Opened) → Stands head.Outside at nodes → (ahead : Term)
    → Does limit next depth at (word ∷ words) nodes
    ((rest : List Word) × (trees : List Tree) × MoreSections limit depth (word ∷ words) rest trees × next depth head.Outside rest (all_added trees nodes)) (choice sort.MoreSections ahead)
more_sections_done limit next depth at word words nodes (stands {own} {outer}) term.Pragma = λ run.
    let one = section_done limit depth (ReadsMoreSections limit next) word own outer words run.0 run.1 run.2 in
    let others = one.3 stands in
    (others.0, one.1 ∷ others.1, MoreSections.further one.2 others.2, others.3)
more_sections_done limit next depth at word words nodes (stands {own} {outer}) other = λ run. (word ∷ words, [], MoreSections.last, run)

pub more_sections_fold : (limit : ℕ) → Folds limit (reads limit) sort.MoreSections
more_sections_fold limit word chosen same next depth at words nodes run = λ place.
    did limit next depth at (word ∷ words) nodes _ _ chosen (more_sections_done limit next depth at word words nodes place word.term) same run

-- ---- sections in their braces

sections_end : (limit depth : ℕ) (next : Effect) (word : Word) (own : Opened) (outer : List Opened) (words middle rest : List Word) (tree : Tree) (trees : List Tree) → Is term.OpenBrace word
    → Statement limit depth words middle tree ⊎ Section limit depth words middle tree → MoreSections limit depth middle rest trees
    → Expects term.CloseBrace next depth head.Outside rest (all_added (tree ∷ trees) (own ∷ outer))
    → (rest : List Word) × (trees : List Tree) × Sections limit depth (word ∷ words) rest trees × next depth head.Outside rest (all_added trees (own ∷ outer))
sections_end limit depth next word own outer words middle [] tree trees is first more run = absurd run
sections_end limit depth next word own outer words middle (last ∷ rest) tree trees is (inl statement) more (closes, goes) =
    (rest, tree ∷ trees, Sections.from_statement is statement more closes, goes)
sections_end limit depth next word own outer words middle (last ∷ rest) tree trees is (inr section) more (closes, goes) =
    (rest, tree ∷ trees, Sections.from_section is section more closes, goes)

sections_done : (limit : ℕ) (next : Effect) (depth : ℕ) (at : Head) (word : Word) (words : List Word) (nodes : List Opened) → Stands head.Outside at nodes
    → Does limit next depth at (word ∷ words) nodes
    ((rest : List Word) × (trees : List Tree) × Sections limit depth (word ∷ words) rest trees × next depth head.Outside rest (all_added trees nodes)) (choice sort.SectionsBody word.term)
sections_done limit next depth at word words nodes (stands {own} {outer}) = λ run.
    let first = run.1 stands in
    let others = first.3 stands in
    sections_end limit depth next word own outer words first.0 others.0 first.1 others.1 run.0 first.2 others.2 others.3

pub sections_fold : (limit : ℕ) → Folds limit (reads limit) sort.SectionsBody
sections_fold limit word chosen same next depth at words nodes run = λ place.
    did limit next depth at (word ∷ words) nodes _ _ chosen (sections_done limit next depth at word words nodes place) same run
