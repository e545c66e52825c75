-- What may come to stand before a region's barrier in a member's code: no such barrier, and nothing that returns but behind what may return.
use Rattle.std.specs.Prelude.{ℕ, ◌≡◌, ◌&&◌, not, if◌then◌else◌, nat_lt, Bool, true, false, IsTrue, List, [], ◌∷◌, ◌++◌, ℤ, refl}
use Rattle.std.proofs.Common.{ap, sym, subst}
use Rattle.std.proofs.lemmas.List.{map-append}
use Rattle.c_syntax.specs.declared.node.NodeKind.TheVariants as node
use Rattle.c_syntax.specs.language.Tree.{Tree, Children, kind_of}
use Rattle.c_syntax.specs.language.Tree.Tree.{Node}
use Rattle.c_syntax.specs.language.Tree.Children.{Over, Child, Absent}
use Rattle.c_model.specs.declared.point.SyncKind.{SyncKind}
use Rattle.c_model.specs.declared.point.SyncKind.TheVariants as sync
use Rattle.c_model.specs.declared.point.SyncStage.{SyncStage}
use Rattle.c_model.specs.declared.point.SyncStage.TheVariants as stage
use Rattle.c_model.specs.declared.point.Target.{Target}
use Rattle.c_model.specs.declared.point.Target.TheVariants as target
use Rattle.c_model.specs.Parts.{declarators_in, flat_declarations, trees_in}
use Rattle.c_model.specs.Calls.{value_items}
use Rattle.c_model.specs.Clauses.{Copying, Listed}
use Rattle.c_model.specs.Clauses.Copying.{Private, First, Reduced}
use Rattle.c_model.specs.Constructs.{iterations_from}
use Rattle.c_model.specs.Copies.{combines, combining_all, combining_of, has_own_cells, listed_variables, makes_cells}
use Rattle.c_model.specs.Task.{Item, OpenCall, SharedLoop, is_declarator, items_of_parts}
use Rattle.c_model.specs.Task.Item.{Start, Declare, Iterations, MakeCells, NextChunk, Sync}
use Rattle.c_brackets.specs.Orderly.{has_calls, is_return, may_return}
use Rattle.c_brackets.specs.Returns.{has_return, has_return_among}
use Rattle.c_brackets.proofs.OpenLists.{left_true, never, right_true}
use Rattle.nested_runs.proofs.Standing.{ends_behind, ends_in_barrier, has_no_barrier, is_ahead, is_region_barrier, is_returned_first}

abbrev pub IsAllowed : Bool → Item → Type 0
IsAllowed may item = (is_region_barrier item ≡ false) × (IsTrue (may_return item) → IsTrue may)

abbrev pub AreAllowed : Bool → List Item → Type 0
AreAllowed may [] = Unit {0}
AreAllowed may (item ∷ items) = IsAllowed may item × AreAllowed may items

pub allowed-both : (may : Bool) (some more : List Item) → AreAllowed may some → AreAllowed may more → AreAllowed may (some ++ more)
allowed-both may [] more are also = also
allowed-both may (item ∷ some) more are also = (are.0, allowed-both may some more are.1 also)

-- parts of a block
part-allowed : (may declares : Bool) (tree : Tree) → (IsTrue (has_return tree) → IsTrue may) → IsAllowed may (if declares then Declare tree else Start tree)
part-allowed may true tree returns = (refl, λ is. never is)
part-allowed may false tree returns = (refl, returns)

declarators-allowed : (may : Bool) (children : Children) → (IsTrue (has_return_among children) → IsTrue may)
    → AreAllowed may (items_of_parts (trees_in children))
unfolding trees_in has_return_among
declarators-allowed may Over returns = tt
declarators-allowed may (Absent rest) returns = tt
declarators-allowed may (Child tree rest) returns = (
  part-allowed may (is_declarator (kind_of tree)) tree (λ is. returns (left_true (has_return tree) (has_return_among rest) is)),
  declarators-allowed may rest (λ is. returns (right_true (has_return tree) (has_return_among rest) is)),
)

flat-allowed : (may : Bool) (tree : Tree) → (IsTrue (has_return tree) → IsTrue may) → AreAllowed may (items_of_parts (declarators_in (kind_of tree) tree))
unfolding has_return
flat-allowed may (Node node.Globals spot name number text children) returns = declarators-allowed may children returns
flat-allowed may (Node node.Locals spot name number text children) returns = declarators-allowed may children returns
flat-allowed may (Node node.Locks spot name number text children) returns = declarators-allowed may children returns
flat-allowed may (Node kind spot name number text children) returns =
    (part-allowed may (is_declarator kind) (Node kind spot name number text children) returns, tt)

pub block-allowed : (may : Bool) (children : Children) → (IsTrue (has_return_among children) → IsTrue may)
    → AreAllowed may (items_of_parts (flat_declarations (trees_in children)))
unfolding trees_in flat_declarations has_return_among
block-allowed may Over returns = tt
block-allowed may (Absent rest) returns = tt
block-allowed may (Child tree rest) returns =
    subst (λ (items : List Item). AreAllowed may items) (sym (map-append _ (declarators_in (kind_of tree) tree) (flat_declarations (trees_in rest))))
    (allowed-both may (items_of_parts (declarators_in (kind_of tree) tree)) (items_of_parts (flat_declarations (trees_in rest)))
    (flat-allowed may tree (λ is. returns (left_true (has_return tree) (has_return_among rest) is)))
    (block-allowed may rest (λ is. returns (right_true (has_return tree) (has_return_among rest) is))))

-- the value of a call
pub value-allowed : (may : Bool) (to : Target) (number : ℤ) → (IsTrue (is_return to) → IsTrue may) → AreAllowed may (value_items to number)
value-allowed may target.Nowhere number returns = tt
value-allowed may (target.Cell cell) number returns = tt
value-allowed may target.Return number returns = ((refl, returns), tt)

-- combining, and the cells of a construct's own
combining-one : (may : Bool) (around : ℕ) (one : Listed) (copying : Copying) → AreAllowed may (combining_of around one copying)
combining-one may around one Private = tt
combining-one may around one First = tt
combining-one may around one (Reduced operator) = ((refl, λ is. never is), tt)

combining-all : (may : Bool) (around : ℕ) (listed : List Listed) → AreAllowed may (combining_all around listed)
unfolding combining_all
combining-all may around [] = tt
combining-all may around (one ∷ rest) =
    allowed-both may (combining_of around one one.copying) (combining_all around rest) (combining-one may around one one.copying)
    (combining-all may around rest)

pub combines-allowed : (may : Bool) (construct : Tree) (around : ℕ) → AreAllowed may (combines construct around)
combines-allowed may construct around = combining-all may around (listed_variables construct)

made-allowed : (may has : Bool) (construct : Tree) → AreAllowed may (if has then MakeCells construct ∷ [] else [])
made-allowed may true construct = ((refl, λ is. never is), tt)
made-allowed may false construct = tt

pub makes-allowed : (may : Bool) (construct : Tree) → AreAllowed may (makes_cells construct)
makes-allowed may construct = made-allowed may (has_own_cells construct) construct

-- iterations, or the next chunk
chosen-allowed : (may more : Bool) (loop : SharedLoop) (at upto : ℕ) → IsAllowed may (if more then Iterations loop at upto else NextChunk loop)
chosen-allowed may true loop at upto = (refl, λ is. never is)
chosen-allowed may false loop at upto = (refl, λ is. never is)

pub iterations-allowed : (may : Bool) (loop : SharedLoop) (at upto : ℕ) → IsAllowed may (iterations_from loop at upto)
iterations-allowed may loop at upto = chosen-allowed may (nat_lt at upto) loop at upto

-- tests of two parts
pub both-true : (one other : Bool) → one ≡ true → other ≡ true → (one && other) ≡ true
both-true true other first second = second
both-true false other first second = absurd (cc)

pub first-true : (one other : Bool) → (one && other) ≡ true → one ≡ true
first-true true other both = refl
first-true false other both = absurd (cc)

pub rest-true : (one other : Bool) → (one && other) ≡ true → other ≡ true
rest-true true other both = both
rest-true false other both = absurd (cc)

pub not-true : (one : Bool) → one ≡ false → not one ≡ true
not-true true is = absurd (cc)
not-true false is = refl

pub true-not : (one : Bool) → not one ≡ true → one ≡ false
true-not true is = absurd (cc)
true-not false is = refl

-- what is so only where another is so
pub only-where : (one other : Bool) → (IsTrue one → IsTrue other) → other ≡ false → one ≡ false
only-where true other where-so none = never (subst (λ (is : Bool). IsTrue is) none (where-so refl))
only-where false other where-so none = refl

-- The barrier of a region stands behind what is none, and which doesn't return.
pub record StandsBefore (item : Item) (items : List Item) : Type 0 where
  pub stays : may_return item ≡ false
  pub ends : ends_in_barrier items ≡ true

stands-sync : (tree : Tree) (kind : SyncKind) (at : SyncStage) (items : List Item) → is_region_barrier (Sync tree kind at) ≡ false
    → ends_in_barrier (Sync tree kind at ∷ items) ≡ true → ends_in_barrier items ≡ true
stands-sync tree sync.Barrier at items plain ends = ends
stands-sync tree sync.Taskwait at items plain ends = ends
stands-sync tree sync.Worksharing at items plain ends = ends
stands-sync tree sync.Parallel at items plain ends = absurd (cc)

pub stands-before : (item : Item) (items : List Item) → is_region_barrier item ≡ false → ends_in_barrier (item ∷ items) ≡ true → StandsBefore item items
stands-before (Sync tree kind at) items plain ends = record { stays = refl; ends = stands-sync tree kind at items plain ends }
stands-before item items plain ends =
    record {
      stays = true-not (may_return item) (first-true (not (may_return item)) (ends_in_barrier items) ends);
      ends = rest-true (not (may_return item)) (ends_in_barrier items) ends;
    }

pushed-sync : (tree : Tree) (kind : SyncKind) (at : SyncStage) (items : List Item) → is_region_barrier (Sync tree kind at) ≡ false
    → ends_in_barrier items ≡ true
    → ends_in_barrier (Sync tree kind at ∷ items) ≡ true
pushed-sync tree sync.Barrier at items plain ends = ends
pushed-sync tree sync.Taskwait at items plain ends = ends
pushed-sync tree sync.Worksharing at items plain ends = ends
pushed-sync tree sync.Parallel at items plain ends = absurd (cc)

ends-pushed : (item : Item) (items : List Item) → is_region_barrier item ≡ false → may_return item ≡ false → ends_in_barrier items ≡ true
    → ends_in_barrier (item ∷ items) ≡ true
ends-pushed (Sync tree kind at) items plain stays ends = pushed-sync tree kind at items plain ends
ends-pushed item items plain stays ends = both-true (not (may_return item)) (ends_in_barrier items) (not-true (may_return item) stays) ends

pub ends-more : (may : Bool) (some items : List Item) → AreAllowed may some → may ≡ false → ends_in_barrier items ≡ true
    → ends_in_barrier (some ++ items) ≡ true
ends-more may [] items are none ends = ends
ends-more may (item ∷ some) items are none ends =
    ends-pushed item (some ++ items) are.0.0 (only-where (may_return item) may are.0.1 none) (ends-more may some items are.1 none ends)

free-more : (may : Bool) (some items : List Item) → AreAllowed may some → has_no_barrier items ≡ true → has_no_barrier (some ++ items) ≡ true
free-more may [] items are free = free
free-more may (item ∷ some) items are free =
    both-true (not (is_region_barrier item)) (has_no_barrier (some ++ items)) (not-true (is_region_barrier item) are.0.0) (free-more may some items are.1 free)

-- what is allowed in place of an item keeps the barrier ahead
pub ahead-more : (item : Item) (some items : List Item) (calls : List OpenCall) → is_region_barrier item ≡ false → AreAllowed (may_return item) some
    → is_ahead (item ∷ items) calls ≡ true → is_ahead (some ++ items) calls ≡ true
ahead-more item some items [] plain are ahead =
    let before = stands-before item items plain ahead in ends-more (may_return item) some items are before.stays before.ends
ahead-more item some items (call ∷ calls) plain are ahead =
    let kept = not (is_returned_first call calls) && is_ahead call.todo calls in
    let free = first-true (has_no_barrier (item ∷ items)) kept ahead in
    both-true (has_no_barrier (some ++ items)) kept
    (free-more (may_return item) some items are (rest-true (not (is_region_barrier item)) (has_no_barrier items) free))
    (rest-true (has_no_barrier (item ∷ items)) kept ahead)

pub ahead-behind : (item : Item) (items : List Item) (calls : List OpenCall) → is_region_barrier item ≡ false → is_ahead (item ∷ items) calls ≡ true
    → is_ahead items calls ≡ true
ahead-behind item items calls plain ahead = ahead-more item [] items calls plain tt ahead

-- a call's value is returned by the first function only where that may return
pub not-returned : (item : Item) (items : List Item) (calls : List OpenCall) (call : OpenCall) → is_region_barrier item ≡ false
    → (IsTrue (is_return call.to) → IsTrue (may_return item)) → is_ahead (item ∷ items) calls ≡ true → not (is_returned_first call calls) ≡ true
not-returned item items [] call plain returns ahead =
    let stays = (stands-before item items plain ahead).stays in
    ap (λ (is : Bool). not (is && true)) (only-where (is_return call.to) (may_return item) returns stays)
not-returned item items (other ∷ calls) call plain returns ahead = none (is_return call.to)
  where
    none : (is : Bool) → not (is && false) ≡ true
    none true = refl
    none false = refl

-- the function that was called returns to the one that called it
pub ahead-returned : (call : OpenCall) (calls : List OpenCall) (number : ℤ) → not (is_returned_first call calls) ≡ true → is_ahead call.todo calls ≡ true
    → is_ahead (value_items call.to number ++ call.todo) calls ≡ true
ahead-returned call calls number kept ahead = at call.to calls kept ahead
  where
    at : (to : Target) (calls : List OpenCall) → not (is_return to && not (has_calls calls)) ≡ true → is_ahead call.todo calls ≡ true
        → is_ahead (value_items to number ++ call.todo) calls ≡ true
    at target.Nowhere calls kept ahead = ahead
    at (target.Cell cell) calls kept ahead = ahead
    at target.Return [] kept ahead = absurd (cc)
    at target.Return (other ∷ calls) kept ahead = ahead

-- no code is both ahead and behind
two-not-behind : (tree : Tree) (kind : SyncKind) (at : SyncStage) (other : Item) (items : List Item) → ends_behind (Sync tree kind at ∷ other ∷ items) ≡ false
two-not-behind tree sync.Barrier at other items = refl
two-not-behind tree sync.Taskwait at other items = refl
two-not-behind tree sync.Worksharing at other items = refl
two-not-behind tree sync.Parallel at other items = refl

one-not-behind : (tree : Tree) (kind : SyncKind) (at : SyncStage) → ends_in_barrier (Sync tree kind at ∷ []) ≡ true
    → ends_behind (Sync tree kind at ∷ []) ≡ false
one-not-behind tree sync.Barrier at ends = refl
one-not-behind tree sync.Taskwait at ends = refl
one-not-behind tree sync.Worksharing at ends = refl
one-not-behind tree sync.Parallel stage.RegionBegin ends = refl
one-not-behind tree sync.Parallel stage.WaitBegin ends = absurd (cc)
one-not-behind tree sync.Parallel stage.WaitEnd ends = absurd (cc)
one-not-behind tree sync.Parallel stage.RegionEnd ends = absurd (cc)

ends-not-behind : (items : List Item) → ends_in_barrier items ≡ true → ends_behind items ≡ false
ends-not-behind [] ends = absurd (cc)
ends-not-behind (Sync tree kind at ∷ []) ends = one-not-behind tree kind at ends
ends-not-behind (Sync tree kind at ∷ other ∷ items) ends = two-not-behind tree kind at other items
ends-not-behind (item ∷ items) ends = refl

pub ahead-not-behind : (items : List Item) (calls : List OpenCall) → is_ahead items calls ≡ true → (ends_behind items && not (has_calls calls)) ≡ false
ahead-not-behind items [] ahead = ap (λ (is : Bool). is && true) (ends-not-behind items ahead)
ahead-not-behind items (call ∷ calls) ahead = none (ends_behind items)
  where
    none : (is : Bool) → (is && false) ≡ false
    none true = refl
    none false = refl
