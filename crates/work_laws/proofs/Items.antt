-- What is so of each item of a task's code: of the trees of its statements and constructs, and of its ends of work. What may come to stand in code.
use Rattle.std.proofs.Common.{ℕ, ℤ, ◌≡◌, ◌++◌, nat_lt, if◌then◌else◌, Bool, true, false, List, [], ◌∷◌, slice_index_or}
use Rattle.c_syntax.specs.declared.node.Directive.{Directive}
use Rattle.c_syntax.specs.declared.node.NodeKind.TheVariants as node
use Rattle.c_syntax.specs.language.Tree.{Tree, kind_of, nothing}
use Rattle.c_check.specs.Loops.{child_at}
use Rattle.c_model.specs.declared.point.Target.{Target}
use Rattle.c_model.specs.declared.point.Target.TheVariants as target
use Rattle.c_model.specs.declared.point.WorkKind.{WorkKind}
use Rattle.c_model.specs.Parts.{flat_declarations, parts}
use Rattle.c_model.specs.Calls.{value_items}
use Rattle.c_model.specs.Clauses.{Copying, Listed, construct_statement, sections_of}
use Rattle.c_model.specs.Clauses.Copying.{Private, First, Reduced}
use Rattle.c_model.specs.Constructs.{iterations_from}
use Rattle.c_model.specs.Copies.{combines, combining_all, combining_of, has_own_cells, listed_variables, makes_cells}
use Rattle.c_model.specs.Loops.{loop_of}
use Rattle.c_model.specs.Task.{Item, OpenCall, SharedLoop, Task as Code, is_declarator, items_of_parts}
use Rattle.c_model.specs.Task.Item.{Start, Declare, Leave, Test, Third, Initialise, Return, FallOff, Forked, Inside, MakeCells, NextChunk, Iterations, NextSection, Combine, EndWork, EndMasked, Sync, Acquire, Release, TestLock, Tested}

-- nothing is asked of a tree
abbrev pub AnyTree : Tree → Type 0
AnyTree tree = Unit {0}

-- what a construct executes is so, and the construct itself
pub record IsConstruct (T S : Tree → Type 0) (construct : Tree) : Type 0 where
  pub statement : T (construct_statement construct)
  pub section : (place : ℕ) → T (slice_index_or (sections_of construct) place nothing)
  pub body : T (loop_of construct).body
  pub self : S construct

-- what is so of a statement is so of those that it leads to
abbrev pub EachTree : (Tree → Type 0) → List Tree → Type 0
EachTree T [] = Unit {0}
EachTree T (tree ∷ trees) = T tree × EachTree T trees

pub record AreRules (T S : Tree → Type 0) : Type 0 where
  pub none : T nothing
  pub no_construct : IsConstruct T S nothing
  pub block : (tree : Tree) → kind_of tree ≡ node.Block → T tree → EachTree T (flat_declarations (parts tree))
  pub branches : (tree : Tree) → kind_of tree ≡ node.If → T tree → T (child_at tree 1) × T (child_at tree 2)
  pub repeated : (tree : Tree) → kind_of tree ≡ node.While → T tree → T (child_at tree 1)
  pub looped : (tree : Tree) → kind_of tree ≡ node.For → T tree → T (child_at tree 3)
  pub construct : (tree : Tree) (which : Directive) → kind_of tree ≡ node.Construct which → T tree → IsConstruct T S tree

module _ (T S A : Tree → Type 0) (E : WorkKind → Type 0) where
  -- the trees that are executed are so, the constructs that ask for sections, and the kinds of work that end
  abbrev pub IsItem : Item → Type 0
  IsItem (Start tree) = T tree
  IsItem (Declare tree) = Unit {0}
  IsItem (Leave names) = Unit {0}
  IsItem (Test tree names) = T (child_at tree 3)
  IsItem (Third tree names) = T (child_at tree 3)
  IsItem (Initialise tree entry) = Unit {0}
  IsItem (Return number) = Unit {0}
  IsItem FallOff = Unit {0}
  IsItem (Forked construct) = IsConstruct T S construct
  IsItem (Inside construct) = IsConstruct T S construct
  IsItem (MakeCells construct) = Unit {0}
  IsItem (NextChunk loop) = IsConstruct T S loop.construct
  IsItem (Iterations loop at upto) = IsConstruct T S loop.construct
  IsItem (NextSection construct names) = IsConstruct T S construct × A construct
  IsItem (Combine operator name names) = Unit {0}
  IsItem (EndWork construct kind count names) = E kind
  IsItem (EndMasked construct) = Unit {0}
  IsItem (Sync tree kind at) = Unit {0}
  IsItem (Acquire tree kind id) = Unit {0}
  IsItem (Release tree id) = Unit {0}
  IsItem (TestLock call id to) = Unit {0}
  IsItem (Tested to) = Unit {0}

  abbrev pub AreItems : List Item → Type 0
  AreItems [] = Unit {0}
  AreItems (item ∷ items) = IsItem item × AreItems items

  abbrev pub AreCalls : List OpenCall → Type 0
  AreCalls [] = Unit {0}
  AreCalls (call ∷ calls) = AreItems call.todo × AreCalls calls

  pub record HoldsCode (code : Code) : Type 0 where
    pub now : AreItems code.todo
    pub calls : AreCalls code.calls

  -- ---- what may come to stand in code

  pub both : (some more : List Item) → AreItems some → AreItems more → AreItems (some ++ more)
  both [] more are also = also
  both (item ∷ some) more are also = (are.0, both some more are.1 also)

  -- parts of a block
  part : (declares : Bool) (tree : Tree) → T tree → IsItem (if declares then Declare tree else Start tree)
  part true tree is = tt
  part false tree is = is

  pub parts-items : (trees : List Tree) → EachTree T trees → AreItems (items_of_parts trees)
  parts-items [] are = tt
  parts-items (tree ∷ trees) are = (part (is_declarator (kind_of tree)) tree are.0, parts-items trees are.1)

  -- the value of a call
  pub value : (to : Target) (number : ℤ) → AreItems (value_items to number)
  value target.Nowhere number = tt
  value (target.Cell cell) number = tt
  value target.Return number = (tt, tt)

  -- combining, and the cells of a construct's own
  combining-one : (around : ℕ) (one : Listed) (copying : Copying) → AreItems (combining_of around one copying)
  combining-one around one Private = tt
  combining-one around one First = tt
  combining-one around one (Reduced operator) = (tt, tt)

  combining-all : (around : ℕ) (listed : List Listed) → AreItems (combining_all around listed)
  unfolding combining_all
  combining-all around [] = tt
  combining-all around (one ∷ rest) =
      both (combining_of around one one.copying) (combining_all around rest) (combining-one around one one.copying) (combining-all around rest)

  pub combining : (construct : Tree) (around : ℕ) → AreItems (combines construct around)
  combining construct around = combining-all around (listed_variables construct)

  making-if : (has : Bool) (construct : Tree) → AreItems (if has then MakeCells construct ∷ [] else [])
  making-if true construct = (tt, tt)
  making-if false construct = tt

  pub making : (construct : Tree) → AreItems (makes_cells construct)
  making construct = making-if (has_own_cells construct) construct

  -- iterations, or the next chunk
  iterations-if : (more : Bool) (loop : SharedLoop) (at upto : ℕ) → IsConstruct T S loop.construct →
      IsItem (if more then Iterations loop at upto else NextChunk loop)
  iterations-if true loop at upto is = is
  iterations-if false loop at upto is = is

  pub iterations : (loop : SharedLoop) (at upto : ℕ) → IsConstruct T S loop.construct → IsItem (iterations_from loop at upto)
  iterations loop at upto is = iterations-if (nat_lt at upto) loop at upto is
