-- No more names and constructs stand at a place than words, so in a text no two of them do.
use Rattle.std.specs.Prelude.{ℕ, ◌+◌, ◌≤◌, ◌≡◌, ◌&&◌, nat_eq, not, if◌then◌else◌, Bool, true, false, IsTrue, List, [], ◌∷◌, ◌++◌, Option, All, sum_by, refl}
use Rattle.std.proofs.Common.{arith, ap, sym, ◌∙◌, subst, ◌≢◌}
use Rattle.std.proofs.lemmas.Bool.{and_parts, eqb-true}
use Rattle.std.proofs.lemmas.List.Elements.{All-head, All-tail, All-weaker}
use Rattle.std.proofs.lemmas.List.Sums.{sum_by-append, sum_by-cons}
use Rattle.c_tokens.specs.declared.token.Spot.{Spot}
use Rattle.c_syntax.specs.declared.term.Term.TheVariants as term
use Rattle.c_syntax.specs.declared.head.Head.{Head}
use Rattle.c_syntax.specs.declared.head.Head.TheVariants as head
use Rattle.c_syntax.specs.declared.node.Directive.{Directive}
use Rattle.c_syntax.specs.declared.node.Returns.{Returns}
use Rattle.c_syntax.specs.declared.node.Standalone.{Standalone}
use Rattle.c_syntax.specs.declared.node.Standalone.TheVariants as standalone
use Rattle.c_syntax.specs.declared.node.NodeKind.{NodeKind}
use Rattle.c_syntax.specs.declared.node.NodeKind.TheVariants as node
use Rattle.c_syntax.specs.language.Numbered.{TreeView, root_tree}
use Rattle.c_syntax.specs.language.Words.{Word, words_of}
use Rattle.c_syntax.specs.language.Tree.{Tree, Children, children_of, kind_of, name_of, spot_of}
use Rattle.c_syntax.specs.language.Tree.Tree.{Node}
use Rattle.c_syntax.specs.language.Tree.Children.{Over, Child, Absent}
use Rattle.c_tokens.proofs.Law.{reads-tokens}
use Rattle.c_syntax.proofs.WordSpots.{HaveOwnSpots, has_bytes, name_at-bytes, words-own}
use Rattle.c_check.specs.declared.acts.act.Act.{Act}
use Rattle.c_check.specs.declared.acts.act.Act.TheVariants.{Open, Close, Begin, End, Enter, Finish, Leave, OddLoop}
use Rattle.c_check.specs.declared.acts.act.DataClause.{DataClause}
use Rattle.c_check.specs.declared.acts.act.Usage.{Usage}
use Rattle.c_check.specs.declared.acts.act.Usage.TheVariants as usage
use Rattle.c_check.specs.declared.acts.role.Role.{Role}
use Rattle.c_check.specs.declared.acts.role.Role.TheVariants as role
use Rattle.c_check.specs.declared.acts.role.Naming.{Naming}
use Rattle.c_check.specs.declared.acts.role.Naming.TheVariants as naming
use Rattle.c_check.specs.Acts.{acts, clause_outside, each, first_part, function, init, outside_acts, second_part, statements, target, third_part}
use Rattle.c_check.specs.Clauses.{clause_inside, first_inside, inside_acts}
use Rattle.c_check.specs.Faults.{is_same_spot}
use Rattle.c_check.specs.Loops.{has_form}
use Rattle.c_check.specs.NameLists.{child_count, named, names}
use Rattle.c_check.specs.Statements.{is_head, looped, name_of_critical, odd_loop, shares_loop, statement_of, statement_role}
use Rattle.c_check.specs.Usages.{assigned}
use Rattle.c_syntax.specs.language.Productions.{ArgumentsPart, Block, Call, Chunk, Clause, Clauses, ConditionPart, Construct, DirectiveOf, DirectiveWords, FileParts, FirstPart, Function, IndexPart, Is, IsProgram, Items, kids, Local, Locals, Lock, Locks, maybe, MoreArguments, MoreLocals, MoreNames, MoreParameters, MoreSections, MoreVariables, Names, Operand, Parameters, Place, Ranked, Section, Sections, Size, Statement, StepOf, StepPart, Value, Variable, Variables}
use Rattle.c_syntax.specs.language.Texts.{Spells}
use Rattle.c_slots.specs.OwnPlaces.{HasOwnPlaces, one_if_same, placed_at}

module _ (place : Spot) where
  abbrev told : List Act → ℕ
  told acts = sum_by (placed_at place) acts

  -- the words that stand there
  abbrev one_if : Bool → ℕ
  one_if true = 1
  one_if false = 0

  abbrev word_at : Word → ℕ
  word_at word = one_if (has_bytes word.term && is_same_spot word.spot place)

  abbrev words_at : List Word → ℕ
  words_at [] = 0
  words_at (word ∷ words) = word_at word + words_at words

  -- acts have no more of it than the words from the first to the others
  record Within (some : List Act) (words rest : List Word) : Type 0 where
    fits : told some + words_at rest ≤ words_at words

  within-nothing : {rest : List Word} → Within [] rest rest
  within-nothing {rest} = record { fits = omega arith }

  within-zero : (some : List Act) {rest : List Word} → told some ≡ 0 → Within some rest rest
  within-zero some {rest} none = record { fits = omega (arith, none) }

  within-both : {some more : List Act} {words behind rest : List Word} → Within some words behind → Within more behind rest → Within (some ++ more) words rest
  within-both {some} {more} {words} {behind} {rest} first second =
      record { fits = omega (arith, sum_by-append (placed_at place) some more, first.fits, second.fits) }

  within-word : {some : List Act} {word : Word} {words rest : List Word} → Within some words rest → Within some (word ∷ words) rest
  within-word {some} {word} {words} {rest} first = record { fits = omega (arith, first.fits) }

  within-last : {some : List Act} {word : Word} {words rest : List Word} → Within some words (word ∷ rest) → Within some words rest
  within-last {some} {word} {words} {rest} first = record { fits = omega (arith, first.fits) }

  within-end : {some : List Act} {words rest : List Word} (more : List Act) → told more ≡ 0 → Within some words rest → Within (some ++ more) words rest
  within-end {some} {words} {rest} more none first = record { fits = omega (arith, sum_by-append (placed_at place) some more, none, first.fits) }

  within-silent : {some : List Act} {words rest : List Word} (act : Act) → placed_at place act ≡ 0 → Within some words rest → Within (act ∷ some) words rest
  within-silent {some} {words} {rest} act none first = record { fits = omega (arith, sum_by-cons (placed_at place) act some, none, first.fits) }

  there : (word : Word) → IsTrue (has_bytes word.term) → one_if_same place word.spot ≤ word_at word
  there word full = chosen (has_bytes word.term) (is_same_spot word.spot place) full
    where
      chosen : (bytes same : Bool) → IsTrue bytes → ◌≤◌ (if same then 1 else 0) (one_if (bytes && same))
      chosen true true full = omega arith
      chosen true false full = omega arith
      chosen false same full = absurd (let wrong : false ≡ true = full in cc)

  within-least : {some : List Act} {words rest : List Word} (act : Act) (word : Word) → IsTrue (has_bytes word.term)
      → placed_at place act ≤ one_if_same place word.spot → Within some words rest → Within (act ∷ some) (word ∷ words) rest
  within-least {some} {words} {rest} act word full least first =
      record { fits = omega (arith, sum_by-cons (placed_at place) act some, least, there word full, first.fits) }

  within-name : {some : List Act} {words rest : List Word} (act : Act) (word : Word) → IsTrue (has_bytes word.term)
      → placed_at place act ≡ one_if_same place word.spot → Within some words rest → Within (act ∷ some) (word ∷ words) rest
  within-name act word full same first = within-least act word full (omega (arith, same)) first

  within-name-behind : {some : List Act} {words rest : List Word} (act : Act) (word : Word) → IsTrue (has_bytes word.term)
      → placed_at place act ≡ one_if_same place word.spot → Within some words rest → Within (some ++ act ∷ []) (word ∷ words) rest
  within-name-behind {some} {words} {rest} act word full same first =
      record {
        fits = omega
            (arith, sum_by-append (placed_at place) some (act ∷ []), sum_by-cons (placed_at place) act [], same, there word full, first.fits);
      }

  -- acts of which none stands anywhere
  assigned-none : (around : Role) (used : Usage) (name : ℕ) → told (assigned around used name) ≡ 0
  assigned-none role.Target usage.Plain name = refl
  assigned-none role.Target other name = refl
  assigned-none role.Plain other name = refl
  assigned-none role.Used other name = refl
  assigned-none (role.Looped loop) other name = refl

  looped-none : (around : Role) → told (looped around) ≡ 0
  looped-none (role.Looped name) = refl
  looped-none role.Plain = refl
  looped-none role.Used = refl
  looped-none role.Target = refl

  odd-none : (shares form : Bool) → told (if shares && not form then OddLoop ∷ [] else []) ≡ 0
  odd-none true true = refl
  odd-none true false = refl
  odd-none false form = refl

  listed-none : (which : DataClause) (children : Children) → told (names (naming.Listed which) children) ≡ 0
  unfolding names
  listed-none which Over = refl
  listed-none which (Absent rest) = refl
  listed-none which (Child tree rest) =
      omega (arith, sum_by-cons (placed_at place) (named (naming.Listed which) tree) (names (naming.Listed which) rest), listed-none which rest)

  clause-none : (kind : NodeKind) (children : Children) → told (clause_inside kind children) ≡ 0
  clause-none node.NumThreads children = refl
  clause-none (node.Default word) children = refl
  clause-none (node.Data which) children = listed-none _ children
  clause-none (node.Reduction operator) children = listed-none _ children
  clause-none (node.Schedule kind) children = refl
  clause-none node.Nowait children = refl
  clause-none node.IfClause children = refl
  clause-none other children = refl

  first-none : (children : Children) → told (first_inside children) ≡ 0
  first-none Over = refl
  first-none (Absent rest) = refl
  first-none (Child (Node kind spot name number text children) rest) = clause-none kind children

  inside-none : (children : Children) → told (inside_acts children) ≡ 0
  unfolding inside_acts
  inside-none Over = refl
  inside-none (Absent rest) = refl
  inside-none (Child (Node (node.Clause lead) spot name number text children) rest) =
      omega (arith, sum_by-append (placed_at place) (first_inside children) (inside_acts rest), first-none children, inside-none rest)
  inside-none (Child (Node other spot name number text children) rest) = inside-none rest

  -- expressions
  mutual
    unfolding acts each

    ranked : {limit rank depth : ℕ} {at : Head} {words rest : List Word} {tree : Tree} → Ranked limit rank depth at words rest tree → (around : Role)
        → Within (acts around tree) words rest
    ranked (Ranked.operand one) around = operand one around
    ranked (Ranked.above less one) around = ranked one around
    ranked (Ranked.joined operator left sign right) around =
        within-both (ranked left role.Plain) (within-word (within-both (ranked right role.Plain) within-nothing))

    operand : {limit depth : ℕ} {at : Head} {words rest : List Word} {tree : Tree} → Operand limit depth at words rest tree → (around : Role)
        → Within (acts around tree) words rest
    operand (Operand.signed operator sign deep one) around = within-word (within-both (operand one role.Plain) within-nothing)
    operand (Operand.number is) around = within-word within-nothing
    operand (Operand.placed one) around = place-within one around
    operand (Operand.parenthesis first deep one last) around = within-word (within-both (within-last (ranked one role.Plain)) within-nothing)
    operand (Operand.getter which is first last) around = within-word (within-word (within-word within-nothing))

    place-within : {limit depth : ℕ} {at : Head} {words rest : List Word} {tree : Tree} → Place limit depth at words rest tree → (around : Role)
        → Within (acts around tree) words rest
    place-within (Place.place {at = at} {word = word} is index) around =
        within-name _ word (name_at-bytes at word.term is) refl
        (within-both (within-zero (assigned around _ word.value) (assigned-none around _ word.value)) (index-within index role.Plain))

    index-within : {limit depth : ℕ} {at : Head} {words rest : List Word} {children : Children} → IndexPart limit depth at words rest children
        → (around : Role) → Within (each around children) words rest
    index-within IndexPart.bare around = within-nothing
    index-within (IndexPart.indexed first deep one last) around = within-word (within-both (within-last (ranked one around)) within-nothing)

  -- calls
  more-arguments : {limit depth : ℕ} {words rest : List Word} {trees : List Tree} → MoreArguments limit depth words rest trees → (around : Role)
      → Within (each around (kids trees)) words rest
  unfolding each
  more-arguments MoreArguments.last around = within-nothing
  more-arguments (MoreArguments.further comma one more) around = within-word (within-both (ranked one around) (more-arguments more around))

  arguments-part : {limit depth : ℕ} {words rest : List Word} {trees : List Tree} → ArgumentsPart limit depth words rest trees → (around : Role)
      → Within (each around (kids trees)) words rest
  unfolding each
  arguments-part ArgumentsPart.none around = within-nothing
  arguments-part (ArgumentsPart.some one more) around = within-both (ranked one around) (more-arguments more around)

  lock-within : {words rest : List Word} {tree : Tree} → Lock words rest tree → Within (names naming.Locked (kids (tree ∷ []))) words rest
  unfolding names
  lock-within (Lock.lock {word = word} first second is last) =
      within-word (within-word (within-name _ word (name_at-bytes head.Outside word.term is) refl (within-word within-nothing)))

  call-within : {limit depth : ℕ} {words rest : List Word} {tree : Tree} → Call limit depth words rest tree → (around : Role)
      → Within (acts around tree) words rest
  unfolding acts
  call-within (Call.call {word = word} is first arguments last) around =
      within-name _ word (name_at-bytes head.Outside word.term is) refl (within-word (within-last (arguments-part arguments role.Plain)))
  call-within (Call.test is locked) around = within-word (lock-within locked)

  value-within : {limit depth : ℕ} {words rest : List Word} {tree : Tree} → Value limit depth words rest tree → (around : Role)
      → Within (acts around tree) words rest
  value-within (Value.expression one) around = ranked one around
  value-within (Value.called one) around = call-within one around

  -- declarations
  size-within : {words rest : List Word} {number : ℕ} → Size words rest number → Within [] words rest
  size-within (Size.size first is last) = within-word (within-word (within-word within-nothing))

  local-within : {limit depth : ℕ} {words rest : List Word} {tree : Tree} → Local limit depth words rest tree → (around : Role)
      → Within (acts around tree) words rest
  unfolding acts each
  local-within (Local.plain {word = word} is) around = within-name _ word (name_at-bytes head.Outside word.term is) refl within-nothing
  local-within (Local.array {word = word} is sized) around = within-name _ word (name_at-bytes head.Outside word.term is) refl (size-within sized)
  local-within (Local.set {word = word} is equals value) around =
      within-name-behind _ word (name_at-bytes head.Outside word.term is) refl (within-word (within-both (value-within value role.Used) within-nothing))

  more-locals : {limit depth : ℕ} {words rest : List Word} {trees : List Tree} → MoreLocals limit depth words rest trees
      → Within (each role.Plain (kids trees)) words rest
  unfolding each
  more-locals MoreLocals.last = within-nothing
  more-locals (MoreLocals.further comma one more) = within-word (within-both (local-within one role.Plain) (more-locals more))

  locals-within : {limit depth : ℕ} {words rest : List Word} {tree : Tree} → Locals limit depth words rest tree → (around : Role)
      → Within (acts around tree) words rest
  unfolding acts each
  locals-within (Locals.locals is one more last) around = within-word (within-both (local-within one role.Plain) (within-last (more-locals more)))

  named-least : (why : Naming) (tree : Tree) → placed_at place (named why tree) ≤ one_if_same place (spot_of tree)
  named-least naming.Parameters tree = omega arith
  named-least naming.Locks tree = omega arith
  named-least naming.Locked tree = omega arith
  named-least (naming.Mentioned which) tree = omega arith
  named-least (naming.Listed which) tree = omega arith

  more-names : {at : Head} {words rest : List Word} {trees : List Tree} → MoreNames at words rest trees → (why : Naming)
      → Within (names why (kids trees)) words rest
  unfolding names
  more-names MoreNames.last why = within-nothing
  more-names (MoreNames.further {at = at} {word = word} comma is more) why =
      within-word (within-least _ word (name_at-bytes at word.term is) (named-least why _) (more-names more why))

  names-within : {at : Head} {words rest : List Word} {trees : List Tree} → Names at words rest trees → (why : Naming)
      → Within (names why (kids trees)) words rest
  unfolding names
  names-within (Names.names {at = at} {word = word} is more) why =
      within-least _ word (name_at-bytes at word.term is) (named-least why _) (more-names more why)

  locks-within : {words rest : List Word} {tree : Tree} → Locks words rest tree → (around : Role) → Within (acts around tree) words rest
  unfolding acts
  locks-within (Locks.locks is list last) around = within-word (within-last (names-within list naming.Locks))

  -- steps, and the head of a loop
  step-within : {limit depth : ℕ} {words rest : List Word} {tree : Tree} → StepOf limit depth words rest tree → (around : Role)
      → Within (acts around tree) words rest
  unfolding acts each target
  step-within (StepOf.assigned which left sign right) around =
      within-both (place-within left role.Target) (within-word (within-both (ranked right role.Plain) within-nothing))
  step-within (StepOf.behind which one sign) around = within-both (within-last (place-within one role.Target)) within-nothing
  step-within (StepOf.before which sign one) around = within-word (within-both (place-within one role.Target) within-nothing)

  first-within : {limit depth : ℕ} {words rest end : List Word} {begins : Option Tree} (mark : List Act) (children : Children)
      → FirstPart limit depth words rest begins → Within (second_part mark children) rest end → Within (first_part mark (maybe begins children)) words end
  unfolding acts each init first_part
  first-within mark children FirstPart.none later = later
  first-within mark children (FirstPart.declared {name = name} is named equals one) later =
      within-both (within-word
      (within-name-behind _ name (name_at-bytes head.Outside name.term named) refl (within-word (within-both (ranked one role.Plain) within-nothing)))) later
  first-within mark children (FirstPart.stepped one) later = within-both (step-within one role.Plain) later

  condition-within : {limit depth : ℕ} {words rest end : List Word} {tests : Option Tree} (mark : List Act) (children : Children)
      → ConditionPart limit depth words rest tests → Within (third_part mark children) rest end → Within (second_part mark (maybe tests children)) words end
  unfolding second_part
  condition-within mark children ConditionPart.none later = later
  condition-within mark children (ConditionPart.some one) later = within-both (ranked one role.Plain) later

  steps-within : {limit depth : ℕ} {words rest end : List Word} {steps : Option Tree} (mark : List Act) (children : Children)
      → StepPart limit depth words rest steps → Within (mark ++ each role.Plain children) rest end → Within (third_part mark (maybe steps children)) words end
  unfolding third_part
  steps-within mark children StepPart.none later = later
  steps-within mark children (StepPart.some one) later = within-both (step-within one role.Plain) later

  -- clauses
  chunk-within : {words rest : List Word} {trees : List Tree} → Chunk words rest trees → Within [] words rest
  chunk-within Chunk.none = within-nothing
  chunk-within (Chunk.some comma is) = within-word (within-word within-nothing)

  clause-within : {limit depth : ℕ} {which : Directive} {words rest : List Word} {tree : Tree} → Clause limit depth which words rest tree
      → Within (clause_outside (Child tree Over)) words rest
  unfolding clause_outside each
  clause-within (Clause.num_threads has is first one last) = within-word (within-word (within-both (within-last (ranked one role.Plain)) within-nothing))
  clause-within (Clause.default_of how has is first told last) = within-word (within-word (within-word (within-word within-nothing)))
  clause-within (Clause.data_of how has is first list last) = within-word (within-word (within-last (names-within list _)))
  clause-within (Clause.reduction_of how has is first sign colon list last) =
      within-word (within-word (within-word (within-word (within-last (names-within list _)))))
  clause-within (Clause.schedule_of how has is first told chunk last) = within-word (within-word (within-word (within-last (chunk-within chunk))))
  clause-within (Clause.nowait has is) = within-word within-nothing
  clause-within (Clause.condition has is first one last) = within-word (within-word (within-both (within-last (ranked one role.Plain)) within-nothing))

  clauses-within : {limit depth : ℕ} {which : Directive} {words rest end : List Word} {trees : List Tree} (more : List Tree)
      → Clauses limit depth which words rest trees → Within (outside_acts (kids more)) rest end → Within (outside_acts (kids (trees ++ more))) words end
  unfolding outside_acts
  clauses-within more Clauses.none later = later
  clauses-within more (Clauses.plain one rest) later = within-both (clause-within one) (clauses-within more rest later)
  clauses-within more (Clauses.behind_comma comma one rest) later = within-word (within-both (clause-within one) (clauses-within more rest later))

  words-within : {which : Directive} {words rest : List Word} → DirectiveWords which words rest → Within [] words rest
  words-within (DirectiveWords.parallel is) = within-word within-nothing
  words-within (DirectiveWords.parallel_for is also) = within-word (within-word within-nothing)
  words-within (DirectiveWords.parallel_sections is also) = within-word (within-word within-nothing)
  words-within (DirectiveWords.loop is) = within-word within-nothing
  words-within (DirectiveWords.sections is) = within-word within-nothing
  words-within (DirectiveWords.single is) = within-word within-nothing
  words-within (DirectiveWords.task is) = within-word within-nothing

  directive-within : {limit depth : ℕ} {which : Directive} {words rest end : List Word} {trees : List Tree} (more : List Tree)
      → DirectiveOf limit depth which words rest trees → Within (outside_acts (kids more)) rest end → Within (outside_acts (kids (trees ++ more))) words end
  unfolding outside_acts
  directive-within more (DirectiveOf.with_clauses told clauses) later = within-both (words-within told) (clauses-within more clauses later)
  directive-within more (DirectiveOf.masked is) later = within-word later
  directive-within more (DirectiveOf.master is) later = within-word later
  directive-within more (DirectiveOf.critical is) later = within-word later
  directive-within more (DirectiveOf.critical_named is first named last) later = within-word (within-word (within-word (within-word later)))

-- clauses and the name of a critical stand before what a construct executes
clauses-first : {limit depth : ℕ} {which : Directive} {words rest : List Word} {trees : List Tree} (around : Role) (more : List Tree)
    → Clauses limit depth which words rest trees → statements around (kids (trees ++ more)) ≡ statements around (kids more)
unfolding statements
clauses-first around more Clauses.none = refl
clauses-first around more (Clauses.plain one rest) = clauses-first around more rest
clauses-first around more (Clauses.behind_comma comma one rest) = clauses-first around more rest

directive-first : {limit depth : ℕ} {which : Directive} {words rest : List Word} {trees : List Tree} (around : Role) (more : List Tree)
    → DirectiveOf limit depth which words rest trees → statements around (kids (trees ++ more)) ≡ statements around (kids more)
unfolding statements
directive-first around more (DirectiveOf.with_clauses told clauses) = clauses-first around more clauses
directive-first around more (DirectiveOf.masked is) = refl
directive-first around more (DirectiveOf.master is) = refl
directive-first around more (DirectiveOf.critical is) = refl
directive-first around more (DirectiveOf.critical_named is first named last) = refl

-- what a construct executes is no clause
statement-apart : {limit depth : ℕ} {words rest : List Word} {tree : Tree} → Statement limit depth words rest tree → outside_acts (kids (tree ∷ [])) ≡ []
unfolding outside_acts
statement-apart (Statement.empty is) = refl
statement-apart (Statement.braced (Block.block first deep items last)) = refl
statement-apart (Statement.if_alone is deep first condition last one none) = refl
statement-apart (Statement.if_else is deep first condition last one other second) = refl
statement-apart (Statement.while is deep first condition last one) = refl
statement-apart (Statement.loop is deep first begins one tests two steps last body) = refl
statement-apart (Statement.returns is last) = refl
statement-apart (Statement.returns_value is value last) = refl
statement-apart (Statement.set_call left equals right last) = refl
statement-apart (Statement.called one last) = refl
statement-apart (Statement.stepped one last) = refl
statement-apart (Statement.print is first told more last end) = refl
statement-apart (Statement.locking which is locked last) = refl
statement-apart (Statement.construct (Construct.around is deep sections told last one)) = refl
statement-apart (Statement.construct (Construct.in_sections is deep sections told last parts)) = refl

apart-then : (tree : Tree) (trees : List Tree) → outside_acts (kids (tree ∷ [])) ≡ [] → outside_acts (kids trees) ≡ []
    → outside_acts (kids (tree ∷ trees)) ≡ []
unfolding outside_acts
apart-then (Node (node.Clause lead) spot name number text children) trees first rest = behind (clause_outside children) (outside_acts (kids trees)) first rest
  where
    behind : (some more : List Act) → some ++ [] ≡ [] → more ≡ [] → some ++ more ≡ []
    behind [] more is also = also
    behind (act ∷ some) more is also = absurd (cc)
apart-then (Node kind spot name number text children) trees first rest = rest

section-apart : {limit depth : ℕ} {words rest : List Word} {tree : Tree} → Section limit depth words rest tree → outside_acts (kids (tree ∷ [])) ≡ []
unfolding outside_acts
section-apart (Section.section is deep told last one) = refl

more-apart : {limit depth : ℕ} {words rest : List Word} {trees : List Tree} → MoreSections limit depth words rest trees → outside_acts (kids trees) ≡ []
unfolding outside_acts
more-apart MoreSections.last = refl
more-apart (MoreSections.further {tree = tree} {trees = trees} one more) = apart-then tree trees (section-apart one) (more-apart more)

sections-apart : {limit depth : ℕ} {words rest : List Word} {trees : List Tree} → Sections limit depth words rest trees → outside_acts (kids trees) ≡ []
sections-apart (Sections.from_statement {tree = tree} {trees = trees} first one more last) = apart-then tree trees (statement-apart one) (more-apart more)
sections-apart (Sections.from_section {tree = tree} {trees = trees} first one more last) = apart-then tree trees (section-apart one) (more-apart more)

pragma-bytes : (word : Word) → Is term.Pragma word → IsTrue (has_bytes word.term)
pragma-bytes word is = ap has_bytes is

module _ (place : Spot) where
  standalone-none : (which : Standalone) (spot : Spot) (around : Role) → told place (acts around (Node (node.Standalone which) spot 0 0 [] Over)) ≡ 0
  unfolding acts
  standalone-none standalone.Barrier spot around = refl
  standalone-none standalone.Taskwait spot around = refl

  within-as : {some more : List Act} {words rest : List Word} → more ≡ some → Within place some words rest → Within place more words rest
  within-as {some} {more} {words} {rest} same within = subst (λ (acts : List Act). Within place acts words rest) (sym same) within

  within-part : {words rest : List Word} (head : Bool) (some : List Act) → Within place some words rest → Within place (if head then [] else some) words rest
  within-part true some within = record { fits = omega (arith, within.fits) }
  within-part false some within = within

  -- a construct, whose clauses use names before it begins
  within-construct : {words behind rest : List Word} {last word : Word} (outside inside odd inner : List Act) (which : Directive) (critical : ℕ)
      → IsTrue (has_bytes word.term) → Within place outside words (last ∷ behind)
      → told place inside ≡ 0 → told place odd ≡ 0 → Within place inner behind rest
      → Within place ((((outside ++ Enter word.spot which critical ∷ inside) ++ odd) ++ inner) ++ Leave ∷ []) (word ∷ words) rest
  within-construct {words} {behind} {rest} {last} {word} outside inside odd inner which critical full before none also within =
      let enter = Enter word.spot which critical in
      let least : told place (enter ∷ []) ≤ word_at place word = omega (arith, there place word full, sum_by-cons (placed_at place) enter []) in
      record {
        fits = omega (
          arith,
          before.fits,
          none,
          also,
          within.fits,
          least,
          sum_by-append (placed_at place) (((outside ++ enter ∷ inside) ++ odd) ++ inner) (Leave ∷ []),
          sum_by-append (placed_at place) ((outside ++ enter ∷ inside) ++ odd) inner,
          sum_by-append (placed_at place) (outside ++ enter ∷ inside) odd,
          sum_by-append (placed_at place) outside (enter ∷ inside),
          sum_by-append (placed_at place) (enter ∷ []) inside,
        );
      }

  mutual
    unfolding acts each statements target

    items-within : {limit depth : ℕ} {words rest : List Word} {trees : List Tree} → Items limit depth words rest trees
        → Within place (each role.Plain (kids trees)) words rest
    items-within Items.none = within-nothing place
    items-within (Items.locals one more) = within-both place (locals-within place one role.Plain) (items-within more)
    items-within (Items.locks one more) = within-both place (locks-within place one role.Plain) (items-within more)
    items-within (Items.alone {word = word} which is told last more) =
        within-word place (within-word place
        (within-word place (within-both place (within-zero place _ (standalone-none which word.spot role.Plain)) (items-within more))))
    items-within (Items.statement one more) = within-both place (statement-within one role.Plain) (items-within more)

    block-within : {limit depth : ℕ} {words rest : List Word} {tree : Tree} → Block limit depth words rest tree → (around : Role)
        → Within place (acts around tree) words rest
    block-within (Block.block first deep items last) around =
        within-word place (within-silent place Open refl (within-end place (Close ∷ []) refl (within-last place (items-within items))))

    statement-within : {limit depth : ℕ} {words rest : List Word} {tree : Tree} → Statement limit depth words rest tree → (around : Role)
        → Within place (acts around tree) words rest
    statement-within (Statement.empty is) around = within-word place (within-nothing place)
    statement-within (Statement.braced one) around = block-within one around
    statement-within (Statement.if_alone is deep first condition last one none) around =
        within-word place (within-word place
        (within-both place (within-last place (ranked place condition role.Plain))
        (within-both place (statement-within one role.Plain) (within-nothing place))))
    statement-within (Statement.if_else is deep first condition last one other second) around =
        within-word place (within-word place
        (within-both place (within-last place (ranked place condition role.Plain))
        (within-both place (within-last place (statement-within one role.Plain))
        (within-both place (statement-within second role.Plain) (within-nothing place)))))
    statement-within (Statement.while is deep first condition last one) around =
        within-word place (within-word place
        (within-both place (within-last place (ranked place condition role.Plain))
        (within-both place (statement-within one role.Plain) (within-nothing place))))
    statement-within (Statement.loop is deep first begins one tests two steps last body) around =
        within-word place (within-word place (within-silent place Open refl (within-end place (Close ∷ []) refl
        (first-within place (looped around) _ begins (within-word place
        (condition-within place (looped around) _ tests (within-word place
        (steps-within place (looped around) _ steps (within-word place
        (within-both place (within-zero place (looped around) (looped-none place around))
        (within-both place (statement-within body role.Plain) (within-nothing place))))))))))))
    statement-within (Statement.returns is last) around = within-word place (within-word place (within-silent place _ refl (within-nothing place)))
    statement-within (Statement.returns_value is value last) around =
        within-word place (within-end place _ refl (within-both place (within-last place (value-within place value role.Used)) (within-nothing place)))
    statement-within (Statement.set_call left equals right last) around =
        within-both place (place-within place left role.Target)
        (within-word place (within-both place (within-last place (call-within place right role.Used)) (within-nothing place)))
    statement-within (Statement.called one last) around = within-both place (within-last place (call-within place one role.Plain)) (within-nothing place)
    statement-within (Statement.stepped one last) around = within-both place (within-last place (step-within place one role.Plain)) (within-nothing place)
    statement-within (Statement.print is first told more last end) around =
        within-word place (within-word place
        (within-word place (within-end place _ refl (within-last place (within-last place (more-arguments place more role.Plain))))))
    statement-within (Statement.locking which is locked last) around = within-word place (within-last place (lock-within place locked))
    statement-within (Statement.construct one) around = construct-within one around

    construct-within : {limit depth : ℕ} {words rest : List Word} {tree : Tree} → Construct limit depth words rest tree → (around : Role)
        → Within place (acts around tree) words rest
    construct-within (Construct.around {which = which} {behind = behind} {rest = rest} {word = word} {trees = trees} {tree = tree}
        is deep sections directive last one) around =
        let children : Children = kids (trees ++ tree ∷ []) in
        let inner : Within place (statements (statement_role which children) (kids (tree ∷ []))) behind rest =
        within-both place (within-part (is_head (kind_of tree)) _ (statement-within one (statement_role which children))) (within-nothing place)
        in
        within-construct (outside_acts children) (inside_acts children) (odd_loop which children) (statements (statement_role which children) children) which
        (name_of_critical children) (pragma-bytes word is)
        (directive-within place (tree ∷ []) directive (within-as (statement-apart one) (within-nothing place)))
        (inside-none place children) (odd-none place (shares_loop which) (has_form (statement_of children)))
        (subst (λ (some : List Act). Within place some behind rest) (sym (directive-first (statement_role which children) (tree ∷ []) directive)) inner)
    construct-within (Construct.in_sections {which = which} {behind = behind} {rest = rest} {word = word} {trees = trees} {parts = parts}
        is deep sections directive last several) around =
        let children : Children = kids (trees ++ parts) in
        let inner : Within place (statements (statement_role which children) (kids parts)) behind rest =
        sections-within several (statement_role which children)
        in
        within-construct (outside_acts children) (inside_acts children) (odd_loop which children) (statements (statement_role which children) children) which
        (name_of_critical children) (pragma-bytes word is)
        (directive-within place parts directive (within-as (sections-apart several) (within-nothing place)))
        (inside-none place children) (odd-none place (shares_loop which) (has_form (statement_of children)))
        (subst (λ (some : List Act). Within place some behind rest) (sym (directive-first (statement_role which children) parts directive)) inner)

    sections-within : {limit depth : ℕ} {words rest : List Word} {trees : List Tree} → Sections limit depth words rest trees → (around : Role)
        → Within place (statements around (kids trees)) words rest
    sections-within (Sections.from_statement {tree = tree} first one more last) around =
        within-word place (within-both place (within-part (is_head (kind_of tree)) _ (statement-within one around))
        (within-last place (more-sections more around)))
    sections-within (Sections.from_section {tree = tree} first one more last) around =
        within-word place (within-both place (within-part (is_head (kind_of tree)) _ (section-within one around))
        (within-last place (more-sections more around)))

    more-sections : {limit depth : ℕ} {words rest : List Word} {trees : List Tree} → MoreSections limit depth words rest trees → (around : Role)
        → Within place (statements around (kids trees)) words rest
    more-sections MoreSections.last around = within-nothing place
    more-sections (MoreSections.further {tree = tree} one more) around =
        within-both place (within-part (is_head (kind_of tree)) _ (section-within one around)) (more-sections more around)

    section-within : {limit depth : ℕ} {words rest : List Word} {tree : Tree} → Section limit depth words rest tree → (around : Role)
        → Within place (acts around tree) words rest
    section-within (Section.section is deep told last one) around =
        within-word place (within-word place (within-word place (within-both place (statement-within one role.Plain) (within-nothing place))))

  -- files
  more-parameters : {words rest : List Word} {trees : List Tree} → MoreParameters words rest trees
      → Within place (names naming.Parameters (kids trees)) words rest
  unfolding names
  more-parameters MoreParameters.last = within-nothing place
  more-parameters (MoreParameters.further {name = name} comma is named more) =
      within-word place (within-word place (within-name place _ name (name_at-bytes head.Outside name.term named) refl (more-parameters more)))

  parameters-within : {words rest : List Word} {tree : Tree} → Parameters words rest tree
      → Within place (names naming.Parameters (children_of tree)) words rest
  unfolding names
  parameters-within Parameters.empty = within-nothing place
  parameters-within (Parameters.void is) = within-word place (within-nothing place)
  parameters-within (Parameters.listed {name = name} is named more) =
      within-word place (within-name place _ name (name_at-bytes head.Outside name.term named) refl (more-parameters more))

  function-acts : (gives : Returns) (named parameters : Tree) (spot : Spot) (items : Children)
      → function gives (Child named (Child parameters (Child (Node node.Block spot 0 0 [] items) Over)))
      ≡ Begin (name_of named) (spot_of named) gives (child_count (children_of parameters)) ∷ names naming.Parameters
      (children_of parameters) ++ each role.Plain items ++ End ∷ []
  unfolding function
  function-acts gives named (Node kind place name number text children) spot items = refl

  function-within : {limit depth : ℕ} {words rest : List Word} {tree : Tree} → Function limit depth words rest tree → (around : Role)
      → Within place (acts around tree) words rest
  unfolding acts
  function-within (Function.function {rest = rest} {name = name} {parameters = parameters} which is named first params last
      (Block.block {word = word} {trees = trees} opens deep items closes)) around =
      within-as (function-acts which (Node node.Name name.spot name.value 0 [] Over) parameters word.spot (kids trees))
      (within-word place (within-name place _ name (name_at-bytes head.Outside name.term named) refl
      (within-word place
      (within-end place (End ∷ []) refl
      (within-both place (within-last place (parameters-within params)) (within-word place (within-last place (items-within items))))))))

  variable-within : {words rest : List Word} {tree : Tree} → Variable words rest tree → (around : Role) → Within place (acts around tree) words rest
  unfolding acts
  variable-within (Variable.plain {word = word} is) around = within-name place _ word (name_at-bytes head.Outside word.term is) refl (within-nothing place)
  variable-within (Variable.array {word = word} is sized) around =
      within-name place _ word (name_at-bytes head.Outside word.term is) refl (size-within place sized)
  variable-within (Variable.set {word = word} is equals number) around =
      within-name place _ word (name_at-bytes head.Outside word.term is) refl (within-word place (within-word place (within-nothing place)))
  variable-within (Variable.set_below {word = word} is equals minus number) around =
      within-name place _ word (name_at-bytes head.Outside word.term is) refl
      (within-word place (within-word place (within-word place (within-nothing place))))

  more-variables : {words rest : List Word} {trees : List Tree} → MoreVariables words rest trees → Within place (each role.Plain (kids trees)) words rest
  unfolding each
  more-variables MoreVariables.last = within-nothing place
  more-variables (MoreVariables.further comma one more) = within-word place (within-both place (variable-within one role.Plain) (more-variables more))

  variables-within : {words rest : List Word} {tree : Tree} → Variables words rest tree → (around : Role) → Within place (acts around tree) words rest
  unfolding acts each
  variables-within (Variables.variables is one more last) around =
      within-word place (within-both place (variable-within one role.Plain) (within-last place (more-variables more)))

  parts-within : {limit depth : ℕ} {words rest : List Word} {trees : List Tree} → FileParts limit depth words rest trees
      → Within place (each role.Plain (kids trees)) words rest
  unfolding acts each
  parts-within FileParts.none = within-nothing place
  parts-within (FileParts.include is more) = within-word place (parts-within more)
  parts-within (FileParts.function one more) = within-both place (function-within one role.Plain) (parts-within more)
  parts-within (FileParts.variables one more) = within-both place (variables-within one role.Plain) (parts-within more)
  parts-within (FileParts.locks one more) = within-both place (locks-within place one role.Plain) (parts-within more)

  program-within : {limit : ℕ} {words : List Word} {tree : Tree} → IsProgram limit words tree → told place (acts role.Plain tree) ≤ words_at place words
  unfolding acts
  program-within (IsProgram.program parts last) = let within = parts-within parts in omega (arith, within.fits)

  -- one word stands at a place at most
  same-spot : (one other : Spot) → IsTrue (is_same_spot one other) → one ≡ other
  same-spot one other holds =
      let parts = and_parts (nat_eq one.line other.line) (nat_eq one.column other.column) holds in
      let lines = eqb-true one.line other.line parts.0 in
      let columns = eqb-true one.column other.column parts.1 in
      λ i. record { line = lines i; column = columns i }

  no-word : (bytes here : Bool) → (here ≡ true → ⊥) → one_if place (bytes && here) ≡ 0
  no-word true true none = absurd (none refl)
  no-word true false none = refl
  no-word false here none = refl

  none-there : (words : List Word) → All (λ (word : Word). place ≢ word.spot) words → words_at place words ≡ 0
  none-there [] apart = refl
  none-there (word ∷ words) apart =
      let none : word_at place word ≡ 0 =
      no-word (has_bytes word.term) (is_same_spot word.spot place)
      (λ same. All-head (λ (word : Word). place ≢ word.spot) word words apart (sym (same-spot word.spot place same)))
      in
      omega (arith, none, none-there words (All-tail (λ (word : Word). place ≢ word.spot) word words apart))

  one-there : (words : List Word) → HaveOwnSpots words → words_at place words ≤ 1
  one-there [] own = omega arith
  one-there (word ∷ words) (apart, own) = chosen (has_bytes word.term && is_same_spot word.spot place) refl (one-there words own)
    where
      chosen : (here : Bool) → (has_bytes word.term && is_same_spot word.spot place) ≡ here → words_at place words ≤ 1
          → one_if place here + words_at place words ≤ 1
      chosen false same few = omega arith
      chosen true same few =
          let parts = and_parts (has_bytes word.term) (is_same_spot word.spot place) same in
          let spot = same-spot word.spot place parts.1 in
          let others : All (λ (other : Word). place ≢ other.spot) words =
          All-weaker (λ (other : Word). IsTrue (has_bytes word.term) → word.spot ≢ other.spot) (λ (other : Word). place ≢ other.spot)
          (λ other differs at. differs parts.0 (spot ∙ at)) words apart
          in
          omega (arith, none-there words others)

-- in a text no two names or constructs have one place
pub texts_have_own_places : (text : List ℕ) (program : TreeView) → Spells text (root_tree program) → HasOwnPlaces program
texts_have_own_places text program is place =
    let words : List Word = words_of text is.tokens in
    let few = one-there place words (words-own text is.tokens (reads-tokens text is.tokens is.read)) in
    let fits = program-within place is.spelled in
    omega (arith, few, fits, sum_by-append (placed_at place) (acts role.Plain (root_tree program)) (Finish program.end ∷ []))
