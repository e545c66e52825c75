-- What a directive derives, from the word behind its `#` to the end of its line: its first words, its clauses, and of a critical the name.
use Rattle.std.proofs.Common.{ℕ, ◌≡◌, ◌<◌, ◌+◌, Bool, true, false, IsTrue, List, [], ◌∷◌, ◌++◌, Some, refl, ap, subst, sym}
use Rattle.std.proofs.lemmas.Bool.{false≢true}
use Rattle.c_syntax.specs.declared.grammar.Step.{Step}
use Rattle.c_syntax.specs.declared.grammar.Step.TheVariants.{Expect, Read, Make, Rise}
use Rattle.c_syntax.specs.declared.grammar.Sort.{Sort}
use Rattle.c_syntax.specs.declared.grammar.Sort.TheVariants as sort
use Rattle.c_syntax.specs.declared.head.Head.{Head}
use Rattle.c_syntax.specs.declared.head.Head.TheVariants as head
use Rattle.c_syntax.specs.declared.node.Data.TheVariants as data_clause
use Rattle.c_syntax.specs.declared.node.Directive.{Directive}
use Rattle.c_syntax.specs.declared.node.Directive.TheVariants as directive
use Rattle.c_syntax.specs.declared.node.NodeKind.TheVariants as node
use Rattle.c_syntax.specs.declared.term.Term.{Term}
use Rattle.c_syntax.specs.declared.term.Term.TheVariants as term
use Rattle.c_syntax.specs.language.Words.{Word}
use Rattle.c_syntax.specs.language.Tree.{Tree}
use Rattle.c_syntax.specs.workings.Grammar.{choice}
use Rattle.c_syntax.specs.workings.Derivation.{Derives, Opened}
use Rattle.c_syntax.specs.language.Productions.{Clause, Clauses, DirectiveOf, DirectiveWords, is_sections}
use Rattle.c_syntax.proofs.Onward.{deepen_word, expect_word, read_word}
use Rattle.c_syntax.proofs.ClauseWords.{clauses_derive, name_derives}
use Rattle.c_syntax.proofs.Pushing.{all_added}

-- the words by which a directive has a second one
abbrev begins_clauses : Term → Bool
begins_clauses term.For = false
begins_clauses term.Sections = false
begins_clauses other = true

module _ {limit depth : ℕ} {at : Head} {steps chosen : List Step} {nodes : List Opened} {whole : Tree} {what : Sort} (choosing : (ahead : Term) → IsTrue (begins_clauses ahead) → choice what ahead ≡ Some chosen) where
  -- what is read by the same steps before each clause
  clause_reads : {which : Directive} {words rest : List Word} {tree : Tree} → Clause limit depth which words rest tree → Derives limit (chosen ++ steps) depth at words nodes whole
      → Derives limit (Read what ∷ steps) depth at words nodes whole
  clause_reads (Clause.num_threads has names opens expression closes) more = Derives.read (choosing _ (ap begins_clauses names)) more
  clause_reads (Clause.default_of how has names opens told closes) more = Derives.read (choosing _ (ap begins_clauses names)) more
  clause_reads (Clause.data_of data_clause.Shared has names opens others closes) more = Derives.read (choosing _ (ap begins_clauses names)) more
  clause_reads (Clause.data_of data_clause.Private has names opens others closes) more = Derives.read (choosing _ (ap begins_clauses names)) more
  clause_reads (Clause.data_of data_clause.Firstprivate has names opens others closes) more = Derives.read (choosing _ (ap begins_clauses names)) more
  clause_reads (Clause.reduction_of how has names opens sign colon others closes) more = Derives.read (choosing _ (ap begins_clauses names)) more
  clause_reads (Clause.schedule_of how has names opens told chunk closes) more = Derives.read (choosing _ (ap begins_clauses names)) more
  clause_reads (Clause.nowait has names) more = Derives.read (choosing _ (ap begins_clauses names)) more
  clause_reads (Clause.condition has names opens expression closes) more = Derives.read (choosing _ (ap begins_clauses names)) more

  -- .. and where none stands
  clauses_read : {which : Directive} {words rest : List Word} {trees : List Tree} {last : Word} → Clauses limit depth which words (last ∷ rest) trees → last.term ≡ term.PragmaEnd
      → Derives limit (chosen ++ steps) depth at words nodes whole → Derives limit (Read what ∷ steps) depth at words nodes whole
  clauses_read Clauses.none ends more = Derives.read (choosing _ (ap begins_clauses ends)) more
  clauses_read (Clauses.plain clause others) ends more = clause_reads clause more
  clauses_read (Clauses.behind_comma comma clause others) ends more = Derives.read (choosing _ (ap begins_clauses comma)) more

-- a parallel region without a second word
parallel_alone : (ahead : Term) → IsTrue (begins_clauses ahead) → choice sort.AfterParallel ahead
    ≡ Some (Read (sort.Clauses directive.Parallel) ∷ Expect term.PragmaEnd ∷ Read sort.Statement ∷ Make (node.Construct directive.Parallel) ∷ [])
parallel_alone term.For begins = absurd (false≢true begins)
parallel_alone term.Sections begins = absurd (false≢true begins)
parallel_alone other begins = refl

-- what stands behind the line of a directive
abbrev body_sort : Bool → Sort
body_sort false = sort.Statement
body_sort true = sort.SectionsBody

-- the first word of each directive; those of two words begin as `parallel` does
abbrev pub first_word : Directive → Term
first_word directive.Parallel = term.Parallel
first_word directive.For = term.For
first_word directive.Sections = term.Sections
first_word directive.Single = term.Single
first_word directive.ParallelFor = term.Parallel
first_word directive.ParallelSections = term.Parallel
first_word directive.Masked = term.Masked
first_word directive.Master = term.Master
first_word directive.Critical = term.Critical
first_word directive.Task = term.Task

abbrev pub is_single : Directive → Bool
is_single directive.ParallelFor = false
is_single directive.ParallelSections = false
is_single other = true

-- the first word, behind which the steps of its directive follow
construct_begins : {limit depth : ℕ} {words : List Word} {word : Word} {nodes : List Opened} {whole : Tree} {steps : List Step} → (first : Directive) → IsTrue (is_single first)
    → word.term ≡ first_word first → Derives limit (Read (sort.Behind first) ∷ Rise ∷ steps) depth head.Clause words nodes whole
    → Derives limit (Read sort.Construct ∷ steps) depth head.Directive (word ∷ words) nodes whole
construct_begins directive.Parallel single same more = read_word term.Parallel same refl (expect_word same more)
construct_begins directive.For single same more = read_word term.For same refl (expect_word same more)
construct_begins directive.Sections single same more = read_word term.Sections same refl (expect_word same more)
construct_begins directive.Single single same more = read_word term.Single same refl (expect_word same more)
construct_begins directive.Masked single same more = read_word term.Masked same refl (expect_word same more)
construct_begins directive.Master single same more = read_word term.Master same refl (expect_word same more)
construct_begins directive.Critical single same more = read_word term.Critical same refl (expect_word same more)
construct_begins directive.Task single same more = read_word term.Task same refl (expect_word same more)
construct_begins directive.ParallelFor single same more = absurd (false≢true single)
construct_begins directive.ParallelSections single same more = absurd (false≢true single)

item_begins : {limit depth : ℕ} {words : List Word} {word : Word} {nodes : List Opened} {whole : Tree} {steps : List Step} → depth < limit → (first : Directive) → IsTrue (is_single first)
    → word.term ≡ first_word first → Derives limit (Read (sort.Behind first) ∷ Rise ∷ steps) (depth + 1) head.Clause words nodes whole
    → Derives limit (Read sort.ItemDirective ∷ steps) depth head.Directive (word ∷ words) nodes whole
item_begins low directive.Parallel single same more = read_word term.Parallel same refl (deepen_word same low more)
item_begins low directive.For single same more = read_word term.For same refl (deepen_word same low more)
item_begins low directive.Sections single same more = read_word term.Sections same refl (deepen_word same low more)
item_begins low directive.Single single same more = read_word term.Single same refl (deepen_word same low more)
item_begins low directive.Masked single same more = read_word term.Masked same refl (deepen_word same low more)
item_begins low directive.Master single same more = read_word term.Master same refl (deepen_word same low more)
item_begins low directive.Critical single same more = read_word term.Critical same refl (deepen_word same low more)
item_begins low directive.Task single same more = read_word term.Task same refl (deepen_word same low more)
item_begins low directive.ParallelFor single same more = absurd (false≢true single)
item_begins low directive.ParallelSections single same more = absurd (false≢true single)

-- A directive behind whose first word its steps follow
module _ {limit depth before : ℕ} {steps onset : List Step} {own : Opened} {outer : List Opened} {whole : Tree}
    (begins : (word : Word) (words : List Word) (first : Directive) → IsTrue (is_single first) → word.term ≡ first_word first
    → Derives limit (Read (sort.Behind first) ∷ Rise ∷ steps) depth head.Clause words (own ∷ outer) whole → Derives limit onset before head.Directive (word ∷ words) (own ∷ outer) whole) where
  -- .. the end of its line, and what stands behind that
  abbrev GoesOn : Directive → List Tree → List Word → Type 0
  GoesOn which trees words = Derives limit (Read (body_sort (is_sections which)) ∷ Make (node.Construct which) ∷ Rise ∷ steps) depth head.Outside words (all_added trees (own ∷ outer)) whole

  named_derives : {which : Directive} {words middle behind : List Word} {trees : List Tree} {last : Word} → DirectiveWords which words middle
      → Clauses limit depth which middle (last ∷ behind) trees → last.term ≡ term.PragmaEnd → GoesOn which trees behind → Derives limit onset before head.Directive words (own ∷ outer) whole
  named_derives (DirectiveWords.parallel same) clauses ends more =
      begins _ _ directive.Parallel refl same
      (clauses_read (λ ahead begins. refl) clauses ends (clauses_read parallel_alone clauses ends (clauses_derive clauses ends (expect_word ends more))))
  named_derives (DirectiveWords.parallel_for same second) clauses ends more =
      begins _ _ directive.Parallel refl same
      (Derives.read refl (read_word term.For second refl (expect_word second (clauses_read (λ ahead begins. refl) clauses ends (clauses_derive clauses ends (expect_word ends more))))))
  named_derives (DirectiveWords.parallel_sections same second) clauses ends more =
      begins _ _ directive.Parallel refl same
      (Derives.read refl (read_word term.Sections second refl (expect_word second (clauses_read (λ ahead begins. refl) clauses ends (clauses_derive clauses ends (expect_word ends more))))))
  named_derives (DirectiveWords.loop same) clauses ends more =
      begins _ _ directive.For refl same (clauses_read (λ ahead begins. refl) clauses ends (clauses_derive clauses ends (expect_word ends more)))
  named_derives (DirectiveWords.sections same) clauses ends more =
      begins _ _ directive.Sections refl same (clauses_read (λ ahead begins. refl) clauses ends (clauses_derive clauses ends (expect_word ends more)))
  named_derives (DirectiveWords.single same) clauses ends more =
      begins _ _ directive.Single refl same (clauses_read (λ ahead begins. refl) clauses ends (clauses_derive clauses ends (expect_word ends more)))
  named_derives (DirectiveWords.task same) clauses ends more =
      begins _ _ directive.Task refl same (clauses_read (λ ahead begins. refl) clauses ends (clauses_derive clauses ends (expect_word ends more)))

  any_derives : {which : Directive} {words behind : List Word} {trees : List Tree} {last : Word} → DirectiveOf limit depth which words (last ∷ behind) trees → last.term ≡ term.PragmaEnd
      → GoesOn which trees behind → Derives limit onset before head.Directive words (own ∷ outer) whole
  any_derives (DirectiveOf.with_clauses named clauses) ends more = named_derives named clauses ends more
  any_derives (DirectiveOf.masked same) ends more = begins _ _ directive.Masked refl same (Derives.read refl (expect_word ends more))
  any_derives (DirectiveOf.master same) ends more = begins _ _ directive.Master refl same (Derives.read refl (expect_word ends more))
  any_derives (DirectiveOf.critical same) ends more = begins _ _ directive.Critical refl same (Derives.read refl (read_word term.PragmaEnd ends refl (expect_word ends more)))
  any_derives (DirectiveOf.critical_named same opens names closes) ends more =
      begins _ _ directive.Critical refl same (Derives.read refl (read_word term.OpenParen opens refl (expect_word opens (name_derives names (expect_word closes (expect_word ends more))))))

-- a directive in front of a statement, where it stands deep already
pub directed_derives : {limit depth : ℕ} {which : Directive} {words behind : List Word} {trees : List Tree} {whole : Tree} {steps : List Step} {own : Opened} {outer : List Opened} {last : Word}
    → is_sections which ≡ false → DirectiveOf limit depth which words (last ∷ behind) trees → last.term ≡ term.PragmaEnd
    → Derives limit (Read sort.Statement ∷ Make (node.Construct which) ∷ Rise ∷ steps) depth head.Outside behind (all_added trees (own ∷ outer)) whole
    → Derives limit (Read sort.Construct ∷ steps) depth head.Directive words (own ∷ outer) whole
directed_derives {limit} {depth} {which} {behind = behind} {trees} {whole} {steps} {own} {outer} plain directed ends more =
    any_derives (λ word words first single same more. construct_begins first single same more) directed ends
    (subst (λ sections. Derives limit (Read (body_sort sections) ∷ Make (node.Construct which) ∷ Rise ∷ steps) depth head.Outside behind (all_added trees (own ∷ outer)) whole) (sym plain) more)

-- .. in front of sections
pub sections_directed_derive : {limit depth : ℕ} {which : Directive} {words behind : List Word} {trees : List Tree} {whole : Tree} {steps : List Step} {own : Opened} {outer : List Opened} {last : Word}
    → is_sections which ≡ true → DirectiveOf limit depth which words (last ∷ behind) trees → last.term ≡ term.PragmaEnd
    → Derives limit (Read sort.SectionsBody ∷ Make (node.Construct which) ∷ Rise ∷ steps) depth head.Outside behind (all_added trees (own ∷ outer)) whole
    → Derives limit (Read sort.Construct ∷ steps) depth head.Directive words (own ∷ outer) whole
sections_directed_derive {limit} {depth} {which} {behind = behind} {trees} {whole} {steps} {own} {outer} sections directed ends more =
    any_derives (λ word words first single same more. construct_begins first single same more) directed ends
    (subst (λ sections. Derives limit (Read (body_sort sections) ∷ Make (node.Construct which) ∷ Rise ∷ steps) depth head.Outside behind (all_added trees (own ∷ outer)) whole) (sym sections) more)

-- a directive in front of a statement, as an item of a block: its first word makes it deeper
pub item_directed_derives : {limit depth : ℕ} {which : Directive} {words behind : List Word} {trees : List Tree} {whole : Tree} {steps : List Step} {own : Opened} {outer : List Opened} {last : Word}
    → depth < limit → is_sections which ≡ false → DirectiveOf limit (depth + 1) which words (last ∷ behind) trees → last.term ≡ term.PragmaEnd
    → Derives limit (Read sort.Statement ∷ Make (node.Construct which) ∷ Rise ∷ steps) (depth + 1) head.Outside behind (all_added trees (own ∷ outer)) whole
    → Derives limit (Read sort.ItemDirective ∷ steps) depth head.Directive words (own ∷ outer) whole
item_directed_derives {limit} {depth} {which} {behind = behind} {trees} {whole} {steps} {own} {outer} low plain directed ends more =
    any_derives (λ word words first single same more. item_begins low first single same more) directed ends
    (subst (λ sections. Derives limit (Read (body_sort sections) ∷ Make (node.Construct which) ∷ Rise ∷ steps) (depth + 1) head.Outside behind (all_added trees (own ∷ outer)) whole) (sym plain) more)

-- .. in front of sections
pub sections_item_directed_derive : {limit depth : ℕ} {which : Directive} {words behind : List Word} {trees : List Tree} {whole : Tree} {steps : List Step} {own : Opened} {outer : List Opened} {last : Word}
    → depth < limit → is_sections which ≡ true → DirectiveOf limit (depth + 1) which words (last ∷ behind) trees → last.term ≡ term.PragmaEnd
    → Derives limit (Read sort.SectionsBody ∷ Make (node.Construct which) ∷ Rise ∷ steps) (depth + 1) head.Outside behind (all_added trees (own ∷ outer)) whole
    → Derives limit (Read sort.ItemDirective ∷ steps) depth head.Directive words (own ∷ outer) whole
sections_item_directed_derive {limit} {depth} {which} {behind = behind} {trees} {whole} {steps} {own} {outer} low sections directed ends more =
    any_derives (λ word words first single same more. item_begins low first single same more) directed ends
    (subst (λ sections. Derives limit (Read (body_sort sections) ∷ Make (node.Construct which) ∷ Rise ∷ steps) (depth + 1) head.Outside behind (all_added trees (own ∷ outer)) whole) (sym sections) more)
