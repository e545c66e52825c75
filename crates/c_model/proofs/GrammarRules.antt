-- Each rule of the grammar, one after another: what it reads has its form.
use Rattle.std.specs.Prelude.{◌≡◌, Bool, true, false, IsTrue, List, [], ◌∷◌, ◌++◌, Option, Some, None, refl}
use Rattle.std.proofs.Common.{sym, subst}
use Rattle.c_tokens.specs.declared.token.Spot.{Spot}
use Rattle.c_syntax.specs.declared.term.Term.{Term}
use Rattle.c_syntax.specs.declared.term.Term.TheVariants as term
use Rattle.c_syntax.specs.declared.node.Returns.{Returns}
use Rattle.c_syntax.specs.declared.node.Returns.TheVariants as returns
use Rattle.c_syntax.specs.declared.node.Parameters.TheVariants as params
use Rattle.c_syntax.specs.declared.node.LockCall.TheVariants as lock
use Rattle.c_syntax.specs.declared.node.Setting.{Setting}
use Rattle.c_syntax.specs.declared.node.Setting.TheVariants as setting
use Rattle.c_syntax.specs.declared.node.Bump.TheVariants as bump
use Rattle.c_syntax.specs.declared.node.Side.TheVariants as side
use Rattle.c_syntax.specs.declared.node.BinaryOp.TheVariants as binary
use Rattle.c_syntax.specs.declared.node.Getter.{Getter}
use Rattle.c_syntax.specs.declared.node.Lead.TheVariants as lead
use Rattle.c_syntax.specs.declared.node.Directive.{Directive}
use Rattle.c_syntax.specs.declared.node.Directive.TheVariants as directive
use Rattle.c_syntax.specs.declared.node.NodeKind.{NodeKind}
use Rattle.c_syntax.specs.declared.node.NodeKind.TheVariants as node
use Rattle.c_syntax.specs.declared.grammar.Class.TheVariants as class
use Rattle.c_syntax.specs.declared.grammar.Sort.{Sort}
use Rattle.c_syntax.specs.declared.grammar.Sort.TheVariants as sort
use Rattle.c_syntax.specs.declared.grammar.Step.{Step}
use Rattle.c_syntax.specs.declared.grammar.Step.TheVariants.{Read, Join, Wrap}
use Rattle.c_syntax.specs.language.Words.{Word}
use Rattle.c_syntax.specs.language.Tree.{Tree, Children, children_from, kind_of}
use Rattle.c_syntax.specs.language.Tree.Tree.{Node}
use Rattle.c_syntax.specs.language.Tree.Children.{Over, Child}
use Rattle.c_syntax.specs.workings.Derivation.{Opened, closed, joined, kept, made, opened_at, with_child, wrapped}
use Rattle.c_syntax.specs.workings.Grammar
use Rattle.c_check.specs.Loops.{is_place}
use Rattle.c_model.specs.Loops.{is_declared}
use Rattle.c_model.specs.Formed.{AreFormed, AreInRow, HasForm, IsFormed, IsOver, is_block, is_construct_part, is_file_part, is_first_part, is_global, is_local, is_params, is_part, is_quiet}
use Rattle.c_model.proofs.Grammar as make
use Rattle.c_model.proofs.Grammar.{AllIn, Closes, ClosesAndTurns, ClosesTwo, IsOptional, Leads, Pushes, PushesIfAny, PushesMany, Reads, Turns, is_any, is_locals, is_locks, is_program}

abbrev pub RuleFor : Sort → Option (List Step) → Type 0
RuleFor what None = Unit {0}
RuleFor what (Some chosen) = (steps : List Step) (nodes : List Opened) → Reads what nodes (Leads steps) → Leads (chosen ++ steps) nodes

same-kind : (test : NodeKind → Bool) (kind : NodeKind) → IsTrue (test kind) → IsTrue (test kind)
same-kind test kind is = is

quiet-part : (kind : NodeKind) → IsTrue (is_quiet kind) → IsTrue (is_part kind)
quiet-part node.Locals is = refl
quiet-part node.Locks is = refl
quiet-part other is = is

quiet-first : (kind : NodeKind) → IsTrue (is_quiet kind) → IsTrue (is_first_part kind)
quiet-first node.Init is = refl
quiet-first other is = is

quiet-construct : (kind : NodeKind) → IsTrue (is_quiet kind) → IsTrue (is_construct_part kind)
quiet-construct (node.Clause lead) is = refl
quiet-construct other is = is

block-quiet : (kind : NodeKind) → IsTrue (is_block kind) → IsTrue (is_quiet kind)
block-quiet node.Block is = refl
block-quiet other is = make.never is

locks-file : (kind : NodeKind) → IsTrue (is_locks kind) → IsTrue (is_file_part kind)
locks-file node.Locks is = refl
locks-file other is = make.never is

locks-part : (kind : NodeKind) → IsTrue (is_locks kind) → IsTrue (is_part kind)
locks-part node.Locks is = refl
locks-part other is = make.never is

locals-part : (kind : NodeKind) → IsTrue (is_locals kind) → IsTrue (is_part kind)
locals-part node.Locals is = refl
locals-part other is = make.never is

any-kind : (one : NodeKind → Bool) (kind : NodeKind) → IsTrue (one kind) → IsTrue (is_any kind)
any-kind one kind is = refl

-- a node with nothing in it, with one child, and with any number
empty-done : (test : NodeKind → Bool) (kind : NodeKind) (top : Opened) (nodes : List Opened) (wanted : List Opened → Type 0) → top.children ≡ [] → ((children : Children) → IsOver children → HasForm kind children) → IsTrue (test kind) → Pushes test nodes wanted → wanted (made kind (top ∷ nodes))
empty-done test kind top nodes wanted fresh form is pushes =
    let over = make.fresh_over top.children fresh in make.closing test kind top nodes wanted pushes is (form (children_from top.children) over.0) over.1

one-done : (test one : NodeKind → Bool) (kind : NodeKind) (top : Opened) (nodes : List Opened) (wanted : List Opened → Type 0) → top.children ≡ [] → ((tree : Tree) → IsTrue (one (kind_of tree)) → HasForm kind (Child tree Over)) → IsTrue (test kind) → Pushes test nodes wanted
    → Pushes one (top ∷ nodes) (λ nodes. wanted (made kind nodes))
unfolding AreFormed
one-done test one kind top nodes wanted fresh form is pushes = λ tree also formed.
    let done = subst (λ (older : List (Option Tree)). HasForm kind (children_from (Some tree ∷ older)) × AreFormed (children_from (Some tree ∷ older))) (sym fresh) (form tree also, (formed, tt)) in
    make.closing test kind (with_child (Some tree) top) nodes wanted pushes is done.0 done.1

many-done : (test each : NodeKind → Bool) (kind : NodeKind) (top : Opened) (nodes : List Opened) (wanted : List Opened → Type 0) → AllIn each top.children → ((children : Children) → AreInRow each children → HasForm kind children) → IsTrue (test kind) → Pushes test nodes wanted
    → PushesMany each (top ∷ nodes) (λ nodes. wanted (made kind nodes))
many-done test each kind top nodes wanted fresh form is pushes = λ children all.
    let done = make.rows each children top.children all fresh in
    make.closing test kind (record top { children = children ++ top.children }) nodes wanted pushes is (form (children_from (children ++ top.children)) done.0) done.1

-- the tails of an expression
six : (steps : List Step) (nodes : List Opened) → Pushes is_quiet nodes (Leads steps) → Pushes is_quiet nodes (Leads (Read sort.ProdTail ∷ Read sort.SumTail ∷ Read sort.RelTail ∷ Read sort.EqualTail ∷ Read sort.AndTail ∷ Read sort.OrTail ∷ steps))
unfolding Leads
six steps [] pushes = pushes
six steps (top ∷ outer) pushes = λ tree is formed.
    (is, formed, λ t1 i1 f1. (i1, f1, λ t2 i2 f2. (i2, f2, λ t3 i3 f3. (i3, f3, λ t4 i4 f4. (i4, f4, λ t5 i5 f5. (i5, f5, λ t6 i6 f6. pushes t6 i6 f6))))))

-- a name, then `[ expression ]` and the tails, as a place in an expression
place-then : (top : Opened) (nodes : List Opened) (steps : List Step) → top.children ≡ [] → Pushes is_quiet nodes (Leads steps)
    → PushesMany is_quiet (top ∷ nodes) (λ nodes. Leads (Read sort.ProdTail ∷ Read sort.SumTail ∷ Read sort.RelTail ∷ Read sort.EqualTail ∷ Read sort.AndTail ∷ Read sort.OrTail ∷ steps) (made node.Place nodes))
place-then top nodes steps fresh pushes =
    many-done is_quiet is_quiet node.Place top nodes (Leads (Read sort.ProdTail ∷ Read sort.SumTail ∷ Read sort.RelTail ∷ Read sort.EqualTail ∷ Read sort.AndTail ∷ Read sort.OrTail ∷ steps)) (make.all_fresh is_quiet top.children fresh) (λ children row. row) refl (six steps nodes pushes)

-- a lock routine's call
lock-done : (kind : NodeKind) (test : NodeKind → Bool) (spot place : Spot) (word : Word) (nodes : List Opened) (wanted : List Opened → Type 0) → IsTrue (test kind) → ((tree : Tree) → IsTrue (is_declared (kind_of tree)) → HasForm kind (Child tree Over)) → Pushes test nodes wanted
    → wanted (made kind (made node.Name (kept class.Name word (opened_at place ∷ opened_at spot ∷ nodes))))
unfolding IsFormed AreFormed
lock-done kind test spot place word nodes wanted is form pushes =
    make.closing test kind (with_child (Some (Node node.Name place word.value 0 [] Over)) (opened_at spot)) nodes wanted pushes is (form (Node node.Name place word.value 0 [] Over) refl) ((tt, tt), tt)

-- a construct, behind its clauses
construct-done : (which : Directive) (top : Opened) (nodes : List Opened) (wanted : List Opened → Type 0) → AllIn is_construct_part top.children → Pushes is_quiet nodes wanted → Pushes is_quiet (top ∷ nodes) (λ nodes. wanted (made (node.Construct which) nodes))
unfolding AllIn
construct-done which top nodes wanted all pushes = λ tree is formed.
    let done = make.rows is_construct_part (Some tree ∷ []) top.children ((quiet-construct (kind_of tree) is, formed), tt) all in
    make.closing is_quiet (node.Construct which) (with_child (Some tree) top) nodes wanted pushes refl done.0 done.1

clauses-then : (which : Directive) (nodes : List Opened) (wanted : List Opened → Type 0) → Closes is_quiet nodes wanted → PushesMany is_construct_part nodes (λ nodes. Pushes is_quiet nodes (λ nodes. wanted (made (node.Construct which) nodes)))
clauses-then which [] wanted closes = closes
clauses-then which (top ∷ outer) wanted closes = λ children all.
    construct-done which (record top { children = children ++ top.children }) outer wanted (make.all_append is_construct_part children top.children all (make.all_fresh is_construct_part top.children closes.0)) closes.1

sections-then : (which : Directive) (nodes : List Opened) (wanted : List Opened → Type 0) → Closes is_quiet nodes wanted → PushesMany is_construct_part nodes (λ nodes. PushesMany is_construct_part nodes (λ nodes. wanted (made (node.Construct which) nodes)))
sections-then which [] wanted closes = closes
sections-then which (top ∷ outer) wanted closes = λ children all.
    many-done is_quiet is_construct_part (node.Construct which) (record top { children = children ++ top.children }) outer wanted (make.all_append is_construct_part children top.children all (make.all_fresh is_construct_part top.children closes.0)) (λ children row. row) refl closes.1

statement-then : (which : Directive) (nodes : List Opened) (wanted : List Opened → Type 0) → Closes is_quiet nodes wanted → Pushes is_quiet nodes (λ nodes. wanted (made (node.Construct which) nodes))
statement-then which [] wanted closes = closes
statement-then which (top ∷ outer) wanted closes = construct-done which top outer wanted (make.all_fresh is_construct_part top.children closes.0) closes.1

-- a node that has begun is over without a child, with one, or with many
close-empty : (test : NodeKind → Bool) (kind : NodeKind) (nodes : List Opened) (wanted : List Opened → Type 0) → ((children : Children) → IsOver children → HasForm kind children) → IsTrue (test kind) → Closes test nodes wanted → wanted (made kind nodes)
close-empty test kind [] wanted form is closes = absurd closes
close-empty test kind (top ∷ outer) wanted form is closes = empty-done test kind top outer wanted closes.0 form is closes.1

close-number : (test : NodeKind → Bool) (kind : NodeKind) (word : Word) (nodes : List Opened) (wanted : List Opened → Type 0) → ((children : Children) → IsOver children → HasForm kind children) → IsTrue (test kind) → Closes test nodes wanted → wanted (made kind (kept class.Number word nodes))
close-number test kind word [] wanted form is closes = absurd closes
close-number test kind word (top ∷ outer) wanted form is closes = empty-done test kind (record top { number = word.value }) outer wanted closes.0 form is closes.1

close-one : (test one : NodeKind → Bool) (kind : NodeKind) (nodes : List Opened) (wanted : List Opened → Type 0) → ((tree : Tree) → IsTrue (one (kind_of tree)) → HasForm kind (Child tree Over)) → IsTrue (test kind) → Closes test nodes wanted → Pushes one nodes (λ nodes. wanted (made kind nodes))
close-one test one kind [] wanted form is closes = closes
close-one test one kind (top ∷ outer) wanted form is closes = one-done test one kind top outer wanted closes.0 form is closes.1

close-many : (test each : NodeKind → Bool) (kind : NodeKind) (nodes : List Opened) (wanted : List Opened → Type 0) → ((children : Children) → AreInRow each children → HasForm kind children) → IsTrue (test kind) → Closes test nodes wanted → PushesMany each nodes (λ nodes. wanted (made kind nodes))
close-many test each kind [] wanted form is closes = closes
close-many test each kind (top ∷ outer) wanted form is closes = many-done test each kind top outer wanted (make.all_fresh each top.children closes.0) form is closes.1

close-place : (nodes : List Opened) (steps : List Step) → Closes is_quiet nodes (Leads steps)
    → PushesMany is_quiet nodes (λ nodes. Leads (Read sort.ProdTail ∷ Read sort.SumTail ∷ Read sort.RelTail ∷ Read sort.EqualTail ∷ Read sort.AndTail ∷ Read sort.OrTail ∷ steps) (made node.Place nodes))
close-place [] steps closes = closes
close-place (top ∷ outer) steps closes = place-then top outer steps closes.0 closes.1

program-rule : (ahead : Term) → RuleFor sort.Program (Grammar.program ahead)
unfolding Leads
program-rule ahead = λ steps nodes wanted spot. many-done is_program is_file_part node.Program (opened_at spot) nodes (Leads steps) (make.all_fresh is_file_part [] refl) (λ children row. row) refl wanted

globals-rule : (ahead : Term) → RuleFor sort.Globals (Grammar.globals ahead)
unfolding Leads IsFormed AreFormed
globals-rule term.Include = λ steps nodes wanted spot. make.closing is_file_part node.Include (opened_at spot) nodes (Leads (Read sort.Globals ∷ steps)) (make.many_one is_file_part is_file_part (same-kind is_file_part) nodes (Leads steps) wanted) refl tt tt
globals-rule term.Int = λ steps nodes wanted spot place word. (refl, refl, make.many_one is_file_part is_file_part (same-kind is_file_part) nodes (Leads steps) wanted)
globals-rule term.Void = λ steps nodes wanted spot place word params is formed block also formed'.
    make.closing is_file_part (node.Function returns.Void) _ nodes (Leads (Read sort.Globals ∷ steps)) (make.many_one is_file_part is_file_part (same-kind is_file_part) nodes (Leads steps) wanted) refl (refl, (is, (also, tt))) ((tt, tt), (formed, (formed', tt)))
globals-rule term.LockType = λ steps nodes wanted. make.many_one is_file_part is_locks locks-file nodes (Leads steps) wanted
globals-rule ahead = λ steps nodes wanted. make.many_end is_file_part nodes (Leads steps) wanted

function-done : (gives : Returns) (name next : Opened) (nodes : List Opened) (wanted : List Opened → Type 0) → name.children ≡ [] → next.children ≡ [] → Pushes is_file_part nodes wanted
    → Pushes is_params (with_child (Some (closed node.Name name)) next ∷ nodes) (λ nodes. Pushes is_block nodes (λ nodes. wanted (made (node.Function gives) nodes)))
unfolding IsFormed AreFormed
function-done gives name next nodes wanted fresh also pushes = λ params is formed block blocks shaped.
    let over = make.fresh_over name.children fresh in
    let done = subst (λ (older : List (Option Tree)). HasForm (node.Function gives) (children_from (Some block ∷ Some params ∷ Some (closed node.Name name) ∷ older)) × AreFormed (children_from (Some block ∷ Some params ∷ Some (closed node.Name name) ∷ older))) (sym also)
    ((refl, (is, (blocks, tt))), ((over.0, over.1), (formed, (shaped, tt))))
    in
    make.closing is_file_part (node.Function gives) (with_child (Some block) (with_child (Some params) (with_child (Some (closed node.Name name)) next))) nodes wanted pushes refl done.0 done.1

after-int-rule : (ahead : Term) → RuleFor sort.AfterIntName (Grammar.after_int_name ahead)
unfolding Leads AllIn
after-int-rule term.OpenParen = λ steps nodes wanted. opens nodes (Leads steps) wanted
  where
    opens : (nodes : List Opened) (wanted : List Opened → Type 0) → ClosesTwo nodes wanted → Pushes is_params (made node.Name nodes) (λ nodes. Pushes is_block nodes (λ nodes. wanted (made (node.Function returns.Int) nodes)))
    opens [] wanted closes = absurd closes
    opens (name ∷ []) wanted closes = absurd closes
    opens (name ∷ next ∷ outer) wanted closes = function-done returns.Int name next outer wanted closes.0 closes.1 closes.2
after-int-rule ahead = λ steps nodes wanted. declares nodes (Leads steps) wanted
  where
    declares : (nodes : List Opened) (wanted : List Opened → Type 0) → ClosesTwo nodes wanted → Closes is_global nodes (λ nodes. PushesMany is_global nodes (λ nodes. wanted (made node.Globals nodes)))
    declares [] wanted closes = closes
    declares (name ∷ []) wanted closes = absurd closes
    declares (name ∷ next ∷ outer) wanted closes =
        (closes.0, λ tree is formed. many-done is_file_part is_global node.Globals (with_child (Some tree) next) outer wanted ((is, formed), make.all_fresh is_global next.children closes.1) (λ children row. row) refl closes.2)

body-rule : (ahead : Term) → RuleFor sort.Body (Grammar.body ahead)
unfolding Leads
body-rule ahead = λ steps nodes wanted. make.pushes_map is_params nodes (λ nodes. Pushes is_block nodes (Leads steps)) _ (λ nodes pushes spot. many-done is_block is_part node.Block (opened_at spot) nodes (Leads steps) (make.all_fresh is_part [] refl) (λ children row. row) refl pushes) wanted

params-rule : (ahead : Term) → RuleFor sort.Params (Grammar.parameters ahead)
unfolding Leads AllIn IsFormed AreFormed
params-rule term.Void = λ steps nodes wanted spot. make.closing is_params (node.Params params.Void) (opened_at spot) nodes (Leads steps) wanted refl tt tt
params-rule term.Int = λ steps nodes wanted spot place word.
    many-done is_params is_declared (node.Params params.Listed) (with_child (Some (Node node.Name place word.value 0 [] Over)) (opened_at spot)) nodes (Leads steps) ((refl, (tt, tt)), tt) (λ children row. tt) refl wanted
params-rule ahead = λ steps nodes wanted spot. make.closing is_params (node.Params params.Empty) (opened_at spot) nodes (Leads steps) wanted refl tt tt

-- a name in a list of them, and the list goes on
name-done : (test : NodeKind → Bool) (spot : Spot) (word : Word) (nodes : List Opened) (wanted : List Opened → Type 0) → ((kind : NodeKind) → IsTrue (is_declared kind) → IsTrue (test kind)) → PushesMany test nodes wanted → PushesMany test (made node.Name (kept class.Name word (opened_at spot ∷ nodes))) wanted
unfolding AreFormed
name-done test spot word nodes wanted each many =
    make.closing is_declared node.Name (record { spot = spot; name = word.value; number = 0; text = []; children = [] }) nodes (λ nodes. PushesMany test nodes wanted) (make.many_one test is_declared each nodes wanted many) refl tt tt

more-params-rule : (ahead : Term) → RuleFor sort.MoreParams (Grammar.more_params ahead)
unfolding Leads
more-params-rule term.Comma = λ steps nodes wanted spot word. name-done is_declared spot word nodes (Leads steps) (same-kind is_declared) wanted
more-params-rule ahead = λ steps nodes wanted. make.many_end is_declared nodes (Leads steps) wanted

global-rest-rule : (ahead : Term) → RuleFor sort.GlobalRest (Grammar.global_rest ahead)
unfolding Leads
global-rest-rule term.OpenBracket = λ steps nodes wanted word. close-number is_global node.GlobalArray word nodes (Leads steps) (λ children over. tt) refl wanted
global-rest-rule term.Set = λ steps nodes wanted. wanted
global-rest-rule ahead = λ steps nodes wanted. close-empty is_global node.GlobalVar nodes (Leads steps) (λ children over. tt) refl wanted

initial-rule : (ahead : Term) → RuleFor sort.Initial (Grammar.initial ahead)
unfolding Leads
initial-rule term.Minus = λ steps nodes wanted word. close-number is_global _ word nodes (Leads steps) (λ children over. tt) refl wanted
initial-rule ahead = λ steps nodes wanted word. close-number is_global _ word nodes (Leads steps) (λ children over. tt) refl wanted

more-globals-rule : (ahead : Term) → RuleFor sort.MoreGlobals (Grammar.more_globals ahead)
unfolding Leads
more-globals-rule term.Comma = λ steps nodes wanted spot word. (refl, make.many_one is_global is_global (same-kind is_global) nodes (Leads steps) wanted)
more-globals-rule ahead = λ steps nodes wanted. make.many_end is_global nodes (Leads steps) wanted

locks-rule : (ahead : Term) → RuleFor sort.Locks (Grammar.locks ahead)
unfolding Leads AllIn IsFormed AreFormed
locks-rule ahead = λ steps nodes wanted spot place word.
    many-done is_locks is_declared node.Locks (with_child (Some (Node node.Name place word.value 0 [] Over)) (opened_at spot)) nodes (Leads steps) ((refl, (tt, tt)), tt) (λ children row. row) refl wanted

more-locks-rule : (ahead : Term) → RuleFor sort.MoreLocks (Grammar.more_locks ahead)
unfolding Leads
more-locks-rule term.Comma = λ steps nodes wanted spot word. name-done is_declared spot word nodes (Leads steps) (same-kind is_declared) wanted
more-locks-rule ahead = λ steps nodes wanted. make.many_end is_declared nodes (Leads steps) wanted

block-rule : (ahead : Term) → RuleFor sort.Block (Grammar.block ahead)
unfolding Leads
block-rule ahead = λ steps nodes wanted spot. many-done is_block is_part node.Block (opened_at spot) nodes (Leads steps) (make.all_fresh is_part [] refl) (λ children row. row) refl wanted

items-rule : (ahead : Term) → RuleFor sort.Items (Grammar.items ahead)
unfolding Leads
items-rule term.CloseBrace = λ steps nodes wanted. make.many_end is_part nodes (Leads steps) wanted
items-rule term.Int = λ steps nodes wanted. make.many_one is_part is_locals locals-part nodes (Leads steps) wanted
items-rule term.LockType = λ steps nodes wanted. make.many_one is_part is_locks locks-part nodes (Leads steps) wanted
items-rule term.Pragma = λ steps nodes wanted spot. (refl, make.many_one is_part is_quiet quiet-part nodes (Leads steps) wanted)
items-rule ahead = λ steps nodes wanted. make.many_one is_part is_quiet quiet-part nodes (Leads steps) wanted

locals-rule : (ahead : Term) → RuleFor sort.Locals (Grammar.locals ahead)
unfolding Leads AllIn
locals-rule ahead = λ steps nodes wanted spot place word.
    (refl, λ tree is formed. many-done is_locals is_local node.Locals (with_child (Some tree) (opened_at spot)) nodes (Leads steps) ((is, formed), tt) (λ children row. row) refl wanted)

local-rest-rule : (ahead : Term) → RuleFor sort.LocalRest (Grammar.local_rest ahead)
unfolding Leads
local-rest-rule term.OpenBracket = λ steps nodes wanted word. close-number is_local node.LocalArray word nodes (Leads steps) (λ children over. over) refl wanted
local-rest-rule term.Set = λ steps nodes wanted. close-one is_local is_quiet node.LocalSet nodes (Leads steps) (λ tree is. (is, tt)) refl wanted
local-rest-rule ahead = λ steps nodes wanted. close-empty is_local node.LocalVar nodes (Leads steps) (λ children over. over) refl wanted

more-locals-rule : (ahead : Term) → RuleFor sort.MoreLocals (Grammar.more_locals ahead)
unfolding Leads
more-locals-rule term.Comma = λ steps nodes wanted spot word. (refl, make.many_one is_local is_local (same-kind is_local) nodes (Leads steps) wanted)
more-locals-rule ahead = λ steps nodes wanted. make.many_end is_local nodes (Leads steps) wanted

right-rule : (ahead : Term) → RuleFor sort.Right (Grammar.right ahead)
unfolding Leads
right-rule term.TestLock = λ steps nodes wanted spot place word. lock-done node.TestLock is_quiet spot place word nodes (Leads steps) refl (λ tree is. (is, tt)) wanted
right-rule term.Number = six
right-rule term.OpenParen = six
right-rule term.Minus = six
right-rule term.Not = six
right-rule term.GetThreadNum = six
right-rule term.GetNumThreads = six
right-rule term.GetMaxThreads = six
right-rule ahead = λ steps nodes wanted spot word. (refl, wanted)

after-right-rule : (ahead : Term) → RuleFor sort.AfterRightName (Grammar.after_right_name ahead)
unfolding Leads
after-right-rule term.OpenParen = λ steps nodes wanted. close-many is_quiet is_quiet node.Call nodes (Leads steps) (λ children row. row) refl wanted
after-right-rule ahead = λ steps nodes wanted. close-place nodes steps wanted

statement-rule : (ahead : Term) → RuleFor sort.Statement (Grammar.statement ahead)
unfolding Leads
statement-rule term.Pragma = λ steps nodes wanted spot. (refl, wanted)
statement-rule ahead = λ steps nodes wanted. wanted

-- the parts of an `if` and of a `for`, of which some may be missing
if-done : (condition body : Tree) (behind : Option Tree) → IsTrue (is_quiet (kind_of condition)) → IsFormed condition → IsTrue (is_quiet (kind_of body)) → IsFormed body → IsOptional is_quiet behind
    → HasForm node.If (children_from (behind ∷ Some body ∷ Some condition ∷ [])) × AreFormed (children_from (behind ∷ Some body ∷ Some condition ∷ []))
unfolding AreFormed
if-done condition body None is formed also shaped behind = ((is, (also, tt)), (formed, (shaped, tt)))
if-done condition body (Some other) is formed also shaped behind = ((is, (also, (behind.0, tt))), (formed, (shaped, (behind.1, tt))))

for-done : (first second third : Option Tree) (body : Tree) → IsOptional is_first_part first → IsOptional is_quiet second → IsOptional is_quiet third → IsTrue (is_quiet (kind_of body)) → IsFormed body
    → HasForm node.For (children_from (Some body ∷ third ∷ second ∷ first ∷ [])) × AreFormed (children_from (Some body ∷ third ∷ second ∷ first ∷ []))
unfolding AreFormed
for-done None None None body a b c is formed = ((is, tt), (formed, tt))
for-done None None (Some z) body a b c is formed = ((c.0, (is, tt)), (c.1, (formed, tt)))
for-done None (Some y) None body a b c is formed = ((b.0, (is, tt)), (b.1, (formed, tt)))
for-done None (Some y) (Some z) body a b c is formed = ((b.0, (c.0, (is, tt))), (b.1, (c.1, (formed, tt))))
for-done (Some x) None None body a b c is formed = ((a.0, (is, tt)), (a.1, (formed, tt)))
for-done (Some x) None (Some z) body a b c is formed = ((a.0, (c.0, (is, tt))), (a.1, (c.1, (formed, tt))))
for-done (Some x) (Some y) None body a b c is formed = ((a.0, (b.0, (is, tt))), (a.1, (b.1, (formed, tt))))
for-done (Some x) (Some y) (Some z) body a b c is formed = ((a.0, (b.0, (c.0, (is, tt)))), (a.1, (b.1, (c.1, (formed, tt)))))

plain-rule : (ahead : Term) → RuleFor sort.PlainStatement (Grammar.plain_statement ahead)
unfolding Leads IsFormed AreFormed
plain-rule term.Semicolon = λ steps nodes wanted spot. make.closing is_quiet node.Empty (opened_at spot) nodes (Leads steps) wanted refl tt tt
plain-rule term.OpenBrace = λ steps nodes wanted. make.weaker is_quiet is_block block-quiet nodes (Leads steps) wanted
plain-rule term.If = λ steps nodes wanted spot condition is formed body also shaped behind there.
    let done = if-done condition body behind is formed also shaped there in make.closing is_quiet node.If (with_child behind (with_child (Some body) (with_child (Some condition) (opened_at spot)))) nodes (Leads steps) wanted refl done.0 done.1
plain-rule term.While = λ steps nodes wanted spot condition is formed body also shaped. make.closing is_quiet node.While (with_child (Some body) (with_child (Some condition) (opened_at spot))) nodes (Leads steps) wanted refl (is, (also, tt)) (formed, (shaped, tt))
plain-rule term.For = λ steps nodes wanted spot first a second b third c body is formed.
    let done = for-done first second third body a b c is formed in make.closing is_quiet node.For (with_child (Some body) (with_child third (with_child second (with_child first (opened_at spot))))) nodes (Leads steps) wanted refl done.0 done.1
plain-rule term.Return = λ steps nodes wanted spot. many-done is_quiet is_quiet node.Return (opened_at spot) nodes (Leads steps) (make.all_fresh is_quiet [] refl) (λ children row. row) refl wanted
plain-rule term.Printf = λ steps nodes wanted spot word. many-done is_quiet is_quiet node.Print (record (opened_at spot) { text = word.text }) nodes (Leads steps) (make.all_fresh is_quiet [] refl) (λ children row. row) refl wanted
plain-rule term.InitLock = λ steps nodes wanted spot place word. lock-done (node.LockCall lock.Init) is_quiet spot place word nodes (Leads steps) refl (λ tree is. (is, tt)) wanted
plain-rule term.DestroyLock = λ steps nodes wanted spot place word. lock-done (node.LockCall lock.Destroy) is_quiet spot place word nodes (Leads steps) refl (λ tree is. (is, tt)) wanted
plain-rule term.SetLock = λ steps nodes wanted spot place word. lock-done (node.LockCall lock.Set) is_quiet spot place word nodes (Leads steps) refl (λ tree is. (is, tt)) wanted
plain-rule term.UnsetLock = λ steps nodes wanted spot place word. lock-done (node.LockCall lock.Unset) is_quiet spot place word nodes (Leads steps) refl (λ tree is. (is, tt)) wanted
plain-rule term.TestLock = λ steps nodes wanted spot next place word.
    make.closing is_quiet node.Called (with_child (Some (Node node.TestLock next 0 0 [] (Child (Node node.Name place word.value 0 [] Over) Over))) (opened_at spot)) nodes (Leads steps) wanted refl (refl, tt) (((refl, tt), ((tt, tt), tt)), tt)
plain-rule term.PlusPlus = λ steps nodes wanted spot next tree is formed.
    make.closing is_quiet node.Step (with_child (Some (Node (node.Bump bump.Increment side.Before) next 0 0 [] (Child tree Over))) (opened_at spot)) nodes (Leads steps) wanted refl (refl, tt) (((is, tt), (formed, tt)), tt)
plain-rule term.MinusMinus = λ steps nodes wanted spot next tree is formed.
    make.closing is_quiet node.Step (with_child (Some (Node (node.Bump bump.Decrement side.Before) next 0 0 [] (Child tree Over))) (opened_at spot)) nodes (Leads steps) wanted refl (refl, tt) (((is, tt), (formed, tt)), tt)
plain-rule ahead = λ steps nodes wanted spot word. (refl, wanted)

after-statement-rule : (ahead : Term) → RuleFor sort.AfterStatementName (Grammar.after_statement_name ahead)
unfolding Leads
after-statement-rule term.OpenParen = λ steps nodes wanted. called nodes (Leads steps) wanted
  where
    called : (nodes : List Opened) (wanted : List Opened → Type 0) → Closes is_quiet nodes wanted → PushesMany is_quiet nodes (λ nodes. wanted (wrapped node.Called (made node.Call nodes)))
    called [] wanted closes = closes
    called (top ∷ outer) wanted closes =
        many-done is_quiet is_quiet node.Call top outer (λ nodes. wanted (wrapped node.Called nodes)) (make.all_fresh is_quiet top.children closes.0) (λ children row. row) refl
        (make.wrapping is_quiet is_quiet node.Called (λ tree is. (is, tt)) refl outer wanted closes.1)
after-statement-rule ahead = λ steps nodes wanted. placed nodes (Leads steps) wanted
  where
    placed : (nodes : List Opened) (wanted : List Opened → Type 0) → Closes is_quiet nodes wanted → PushesMany is_quiet nodes (λ nodes. Turns is_place (made node.Place nodes) wanted)
    placed [] wanted closes = closes
    placed (top ∷ outer) wanted closes =
        many-done is_place is_quiet node.Place top outer (λ nodes. Turns is_place nodes wanted) (make.all_fresh is_quiet top.children closes.0) (λ children row. row) refl (make.turning is_place outer wanted closes.1)

-- an assignment of an expression as a statement
stepping : (which : Setting) (nodes : List Opened) (wanted : List Opened → Type 0) → Turns is_place nodes wanted → Pushes is_quiet nodes (λ nodes. wanted (wrapped node.Step (joined (node.Assign which) nodes)))
stepping which nodes wanted turns = make.assigning which nodes (λ nodes. wanted (wrapped node.Step nodes)) (make.step_turns nodes wanted turns)

after-place-rule : (ahead : Term) → RuleFor sort.AfterPlace (Grammar.after_place ahead)
unfolding Leads
after-place-rule term.Set = λ steps nodes wanted. wanted
after-place-rule term.PlusSet = λ steps nodes wanted. stepping setting.Add nodes (Leads steps) wanted
after-place-rule term.MinusSet = λ steps nodes wanted. stepping setting.Subtract nodes (Leads steps) wanted
after-place-rule term.TimesSet = λ steps nodes wanted. stepping setting.Multiply nodes (Leads steps) wanted
after-place-rule term.SlashSet = λ steps nodes wanted. stepping setting.Divide nodes (Leads steps) wanted
after-place-rule term.PercentSet = λ steps nodes wanted. stepping setting.Remainder nodes (Leads steps) wanted
after-place-rule term.PlusPlus = λ steps nodes wanted. make.bumping bump.Increment side.Behind nodes (λ nodes. Leads steps (wrapped node.Step nodes)) (make.step_turns nodes (Leads steps) wanted)
after-place-rule term.MinusMinus = λ steps nodes wanted. make.bumping bump.Decrement side.Behind nodes (λ nodes. Leads steps (wrapped node.Step nodes)) (make.step_turns nodes (Leads steps) wanted)
after-place-rule ahead = tt

-- an assignment of a call
calling : (nodes : List Opened) (wanted : List Opened → Type 0) → Turns is_place nodes wanted → Pushes is_quiet nodes (λ nodes. wanted (joined node.SetCall nodes))
calling nodes wanted turns = make.joining is_place node.SetCall refl (λ left right is also. (is, (also, tt))) nodes wanted turns

assigned-six : (steps : List Step) (nodes : List Opened) → Turns is_place nodes (Leads steps)
    → Pushes is_quiet nodes (Leads (Read sort.ProdTail ∷ Read sort.SumTail ∷ Read sort.RelTail ∷ Read sort.EqualTail ∷ Read sort.AndTail ∷ Read sort.OrTail ∷ Join (node.Assign setting.Plain) ∷ Wrap node.Step ∷ steps))
unfolding Leads
assigned-six steps nodes wanted = six (Join (node.Assign setting.Plain) ∷ Wrap node.Step ∷ steps) nodes (stepping setting.Plain nodes (Leads steps) wanted)

assign-right-rule : (ahead : Term) → RuleFor sort.AssignRight (Grammar.assign_right ahead)
unfolding Leads
assign-right-rule term.TestLock = λ steps nodes wanted spot place word.
    lock-done node.TestLock is_quiet spot place word nodes (λ nodes. Leads steps (joined node.SetCall nodes)) refl (λ tree is. (is, tt)) (calling nodes (Leads steps) wanted)
assign-right-rule term.Number = assigned-six
assign-right-rule term.OpenParen = assigned-six
assign-right-rule term.Minus = assigned-six
assign-right-rule term.Not = assigned-six
assign-right-rule term.GetThreadNum = assigned-six
assign-right-rule term.GetNumThreads = assigned-six
assign-right-rule term.GetMaxThreads = assigned-six
assign-right-rule ahead = λ steps nodes wanted spot word. (refl, wanted)

after-assign-rule : (ahead : Term) → RuleFor sort.AfterAssignName (Grammar.after_assign_name ahead)
unfolding Leads
after-assign-rule term.OpenParen = λ steps nodes wanted. called nodes (Leads steps) wanted
  where
    called : (nodes : List Opened) (wanted : List Opened → Type 0) → ClosesAndTurns nodes wanted → PushesMany is_quiet nodes (λ nodes. wanted (joined node.SetCall (made node.Call nodes)))
    called [] wanted closes = closes
    called (top ∷ outer) wanted closes =
        many-done is_quiet is_quiet node.Call top outer (λ nodes. wanted (joined node.SetCall nodes)) (make.all_fresh is_quiet top.children closes.0) (λ children row. row) refl (calling outer wanted closes.1)
after-assign-rule ahead = λ steps nodes wanted. placed steps nodes wanted
  where
    placed : (steps : List Step) (nodes : List Opened) → ClosesAndTurns nodes (Leads steps)
        → PushesMany is_quiet nodes (λ nodes. Leads (Read sort.ProdTail ∷ Read sort.SumTail ∷ Read sort.RelTail ∷ Read sort.EqualTail ∷ Read sort.AndTail ∷ Read sort.OrTail ∷ Join (node.Assign setting.Plain) ∷ Wrap node.Step ∷ steps) (made node.Place nodes))
    placed steps [] closes = closes
    placed steps (top ∷ outer) closes =
        place-then top outer (Join (node.Assign setting.Plain) ∷ Wrap node.Step ∷ steps) closes.0 (stepping setting.Plain outer (Leads steps) closes.1)

place-rule : (ahead : Term) → RuleFor sort.Place (Grammar.place ahead)
unfolding Leads
place-rule ahead = λ steps nodes wanted spot word. many-done is_place is_quiet node.Place (record (opened_at spot) { name = word.value }) nodes (Leads steps) (make.all_fresh is_quiet [] refl) (λ children row. row) refl wanted

args-rule : (ahead : Term) → RuleFor sort.Args (Grammar.args ahead)
unfolding Leads
args-rule term.CloseParen = λ steps nodes wanted. make.many_end is_quiet nodes (Leads steps) wanted
args-rule ahead = λ steps nodes wanted. make.many_one is_quiet is_quiet (same-kind is_quiet) nodes (Leads steps) wanted

more-args-rule : (ahead : Term) → RuleFor sort.MoreArgs (Grammar.more_args ahead)
unfolding Leads
more-args-rule term.Comma = λ steps nodes wanted. make.many_one is_quiet is_quiet (same-kind is_quiet) nodes (Leads steps) wanted
more-args-rule ahead = λ steps nodes wanted. make.many_end is_quiet nodes (Leads steps) wanted

else-rule : (ahead : Term) → RuleFor sort.ElsePart (Grammar.else_part ahead)
unfolding Leads
else-rule term.Else = λ steps nodes wanted. make.optional_some is_quiet nodes (Leads steps) wanted
else-rule ahead = λ steps nodes wanted. make.optional_none is_quiet nodes (Leads steps) wanted

init-rule : (ahead : Term) → RuleFor sort.InitPart (Grammar.init_part ahead)
unfolding Leads IsFormed AreFormed
init-rule term.Semicolon = λ steps nodes wanted. make.optional_none is_first_part nodes (Leads steps) wanted
init-rule term.Int = λ steps nodes wanted spot place word tree is formed.
    make.closing is_first_part node.Init (with_child (Some tree) (with_child (Some (Node node.Name place word.value 0 [] Over)) (opened_at spot))) nodes (Leads steps) (make.optional_some is_first_part nodes (Leads steps) wanted) refl (refl, (is, tt)) ((tt, tt), (formed, tt))
init-rule term.PlusPlus = λ steps nodes wanted spot tree is formed.
    make.closing is_first_part (node.Bump bump.Increment side.Before) (with_child (Some tree) (opened_at spot)) nodes (Leads steps) (make.optional_some is_first_part nodes (Leads steps) wanted) refl (is, tt) (formed, tt)
init-rule term.MinusMinus = λ steps nodes wanted spot tree is formed.
    make.closing is_first_part (node.Bump bump.Decrement side.Before) (with_child (Some tree) (opened_at spot)) nodes (Leads steps) (make.optional_some is_first_part nodes (Leads steps) wanted) refl (is, tt) (formed, tt)
init-rule ahead = λ steps nodes wanted. make.turning is_place nodes (Leads steps) (make.weaker is_first_part is_quiet quiet-first nodes (Leads steps) (make.optional_some is_first_part nodes (Leads steps) wanted))

cond-rule : (ahead : Term) → RuleFor sort.CondPart (Grammar.cond_part ahead)
unfolding Leads
cond-rule term.Semicolon = λ steps nodes wanted. make.optional_none is_quiet nodes (Leads steps) wanted
cond-rule ahead = λ steps nodes wanted. make.optional_some is_quiet nodes (Leads steps) wanted

step-rule : (ahead : Term) → RuleFor sort.StepPart (Grammar.step_part ahead)
unfolding Leads AreFormed
step-rule term.CloseParen = λ steps nodes wanted. make.optional_none is_quiet nodes (Leads steps) wanted
step-rule term.PlusPlus = λ steps nodes wanted spot tree is formed.
    make.closing is_quiet (node.Bump bump.Increment side.Before) (with_child (Some tree) (opened_at spot)) nodes (Leads steps) (make.optional_some is_quiet nodes (Leads steps) wanted) refl (is, tt) (formed, tt)
step-rule term.MinusMinus = λ steps nodes wanted spot tree is formed.
    make.closing is_quiet (node.Bump bump.Decrement side.Before) (with_child (Some tree) (opened_at spot)) nodes (Leads steps) (make.optional_some is_quiet nodes (Leads steps) wanted) refl (is, tt) (formed, tt)
step-rule ahead = λ steps nodes wanted. make.turning is_place nodes (Leads steps) (make.optional_some is_quiet nodes (Leads steps) wanted)

step-rest-rule : (ahead : Term) → RuleFor sort.StepRest (Grammar.step_rest ahead)
unfolding Leads
step-rest-rule term.Set = λ steps nodes wanted. make.assigning setting.Plain nodes (Leads steps) wanted
step-rest-rule term.PlusSet = λ steps nodes wanted. make.assigning setting.Add nodes (Leads steps) wanted
step-rest-rule term.MinusSet = λ steps nodes wanted. make.assigning setting.Subtract nodes (Leads steps) wanted
step-rest-rule term.TimesSet = λ steps nodes wanted. make.assigning setting.Multiply nodes (Leads steps) wanted
step-rest-rule term.SlashSet = λ steps nodes wanted. make.assigning setting.Divide nodes (Leads steps) wanted
step-rest-rule term.PercentSet = λ steps nodes wanted. make.assigning setting.Remainder nodes (Leads steps) wanted
step-rest-rule term.PlusPlus = λ steps nodes wanted. make.bumping bump.Increment side.Behind nodes (Leads steps) wanted
step-rest-rule term.MinusMinus = λ steps nodes wanted. make.bumping bump.Decrement side.Behind nodes (Leads steps) wanted
step-rest-rule ahead = tt

return-rule : (ahead : Term) → RuleFor sort.ReturnPart (Grammar.return_part ahead)
unfolding Leads
return-rule term.Semicolon = λ steps nodes wanted. make.many_end is_quiet nodes (Leads steps) wanted
return-rule ahead = λ steps nodes wanted. make.many_single is_quiet is_quiet (same-kind is_quiet) nodes (Leads steps) wanted

-- operands and what follows them
or-rule : (ahead : Term) → RuleFor sort.OrTail (Grammar.or_tail ahead)
unfolding Leads
or-rule term.OrOr = λ steps nodes wanted. make.operating binary.Or nodes (Leads steps) wanted
or-rule ahead = λ steps nodes wanted. make.turn_end nodes (Leads steps) wanted

and-rule : (ahead : Term) → RuleFor sort.AndTail (Grammar.and_tail ahead)
unfolding Leads
and-rule term.AndAnd = λ steps nodes wanted. make.operating binary.And nodes (Leads steps) wanted
and-rule ahead = λ steps nodes wanted. make.turn_end nodes (Leads steps) wanted

equal-rule : (ahead : Term) → RuleFor sort.EqualTail (Grammar.equal_tail ahead)
unfolding Leads
equal-rule term.EqualEqual = λ steps nodes wanted. make.operating binary.Equal nodes (Leads steps) wanted
equal-rule term.NotEqual = λ steps nodes wanted. make.operating binary.NotEqual nodes (Leads steps) wanted
equal-rule ahead = λ steps nodes wanted. make.turn_end nodes (Leads steps) wanted

rel-rule : (ahead : Term) → RuleFor sort.RelTail (Grammar.rel_tail ahead)
unfolding Leads
rel-rule term.Less = λ steps nodes wanted. make.operating binary.Less nodes (Leads steps) wanted
rel-rule term.LessEqual = λ steps nodes wanted. make.operating binary.LessEqual nodes (Leads steps) wanted
rel-rule term.Greater = λ steps nodes wanted. make.operating binary.Greater nodes (Leads steps) wanted
rel-rule term.GreaterEqual = λ steps nodes wanted. make.operating binary.GreaterEqual nodes (Leads steps) wanted
rel-rule ahead = λ steps nodes wanted. make.turn_end nodes (Leads steps) wanted

sum-rule : (ahead : Term) → RuleFor sort.SumTail (Grammar.sum_tail ahead)
unfolding Leads
sum-rule term.Plus = λ steps nodes wanted. make.operating binary.Add nodes (Leads steps) wanted
sum-rule term.Minus = λ steps nodes wanted. make.operating binary.Subtract nodes (Leads steps) wanted
sum-rule ahead = λ steps nodes wanted. make.turn_end nodes (Leads steps) wanted

prod-rule : (ahead : Term) → RuleFor sort.ProdTail (Grammar.prod_tail ahead)
unfolding Leads
prod-rule term.Star = λ steps nodes wanted. make.operating binary.Multiply nodes (Leads steps) wanted
prod-rule term.Slash = λ steps nodes wanted. make.operating binary.Divide nodes (Leads steps) wanted
prod-rule term.Percent = λ steps nodes wanted. make.operating binary.Remainder nodes (Leads steps) wanted
prod-rule ahead = λ steps nodes wanted. make.turn_end nodes (Leads steps) wanted

unary-rule : (ahead : Term) → RuleFor sort.Unary (Grammar.unary ahead)
unfolding Leads AreFormed
unary-rule term.Minus = λ steps nodes wanted spot tree is formed. make.closing is_quiet _ (with_child (Some tree) (opened_at spot)) nodes (Leads steps) wanted refl (is, tt) (formed, tt)
unary-rule term.Not = λ steps nodes wanted spot tree is formed. make.closing is_quiet _ (with_child (Some tree) (opened_at spot)) nodes (Leads steps) wanted refl (is, tt) (formed, tt)
unary-rule term.Number = λ steps nodes wanted spot word. make.closing is_quiet node.Number (record (opened_at spot) { number = word.value }) nodes (Leads steps) wanted refl tt tt
unary-rule term.OpenParen = λ steps nodes wanted spot tree is formed. make.closing is_quiet node.Paren (with_child (Some tree) (opened_at spot)) nodes (Leads steps) wanted refl (is, tt) (formed, tt)
unary-rule term.GetThreadNum = λ steps nodes wanted spot word. (refl, wanted)
unary-rule term.GetNumThreads = λ steps nodes wanted spot word. (refl, wanted)
unary-rule term.GetMaxThreads = λ steps nodes wanted spot word. (refl, wanted)
unary-rule ahead = λ steps nodes wanted spot word. many-done is_quiet is_quiet node.Place (record (opened_at spot) { name = word.value }) nodes (Leads steps) (make.all_fresh is_quiet [] refl) (λ children row. row) refl wanted

index-rule : (ahead : Term) → RuleFor sort.IndexPart (Grammar.index_part ahead)
unfolding Leads
index-rule term.OpenBracket = λ steps nodes wanted. make.many_single is_quiet is_quiet (same-kind is_quiet) nodes (Leads steps) wanted
index-rule ahead = λ steps nodes wanted. make.many_end is_quiet nodes (Leads steps) wanted

getter-rule : (which : Getter) (ahead : Term) → RuleFor (sort.AfterGetter which) (Grammar.after_getter which ahead)
unfolding Leads
getter-rule which term.OpenParen = λ steps nodes wanted. close-empty is_quiet (node.Getter which) nodes (Leads steps) (λ children over. over) refl wanted
getter-rule which ahead = λ steps nodes wanted. close-many is_quiet is_quiet node.Place nodes (Leads steps) (λ children row. row) refl wanted

-- directives
item-directive-rule : (ahead : Term) → RuleFor sort.ItemDirective (Grammar.item_directive ahead)
unfolding Leads
item-directive-rule term.Barrier = λ steps nodes wanted. close-empty is_quiet _ nodes (Leads steps) (λ children over. over) refl wanted
item-directive-rule term.Taskwait = λ steps nodes wanted. close-empty is_quiet _ nodes (Leads steps) (λ children over. over) refl wanted
item-directive-rule term.Parallel = λ steps nodes wanted. wanted
item-directive-rule term.For = λ steps nodes wanted. wanted
item-directive-rule term.Sections = λ steps nodes wanted. wanted
item-directive-rule term.Single = λ steps nodes wanted. wanted
item-directive-rule term.Masked = λ steps nodes wanted. wanted
item-directive-rule term.Master = λ steps nodes wanted. wanted
item-directive-rule term.Critical = λ steps nodes wanted. wanted
item-directive-rule term.Task = λ steps nodes wanted. wanted
item-directive-rule ahead = tt

construct-rule : (ahead : Term) → RuleFor sort.Construct (Grammar.construct ahead)
unfolding Leads
construct-rule term.Parallel = λ steps nodes wanted. wanted
construct-rule term.For = λ steps nodes wanted. wanted
construct-rule term.Sections = λ steps nodes wanted. wanted
construct-rule term.Single = λ steps nodes wanted. wanted
construct-rule term.Masked = λ steps nodes wanted. wanted
construct-rule term.Master = λ steps nodes wanted. wanted
construct-rule term.Critical = λ steps nodes wanted. wanted
construct-rule term.Task = λ steps nodes wanted. wanted
construct-rule ahead = tt

behind-rule : (which : Directive) (ahead : Term) → RuleFor (sort.Behind which) (Grammar.behind_directive which ahead)
unfolding Leads
behind-rule directive.Parallel ahead = λ steps nodes wanted. wanted
behind-rule directive.For ahead = λ steps nodes wanted. clauses-then directive.For nodes (Leads steps) wanted
behind-rule directive.Sections ahead = λ steps nodes wanted. sections-then directive.Sections nodes (Leads steps) wanted
behind-rule directive.Single ahead = λ steps nodes wanted. clauses-then directive.Single nodes (Leads steps) wanted
behind-rule directive.ParallelFor ahead = λ steps nodes wanted. clauses-then directive.ParallelFor nodes (Leads steps) wanted
behind-rule directive.ParallelSections ahead = λ steps nodes wanted. sections-then directive.ParallelSections nodes (Leads steps) wanted
behind-rule directive.Masked ahead = λ steps nodes wanted. statement-then directive.Masked nodes (Leads steps) wanted
behind-rule directive.Master ahead = λ steps nodes wanted. statement-then directive.Master nodes (Leads steps) wanted
behind-rule directive.Critical ahead = λ steps nodes wanted. clauses-then directive.Critical nodes (Leads steps) wanted
behind-rule directive.Task ahead = λ steps nodes wanted. clauses-then directive.Task nodes (Leads steps) wanted

after-parallel-rule : (ahead : Term) → RuleFor sort.AfterParallel (Grammar.after_parallel ahead)
unfolding Leads
after-parallel-rule term.For = λ steps nodes wanted. wanted
after-parallel-rule term.Sections = λ steps nodes wanted. wanted
after-parallel-rule ahead = λ steps nodes wanted. clauses-then directive.Parallel nodes (Leads steps) wanted

declared-construct : (kind : NodeKind) → IsTrue (is_declared kind) → IsTrue (is_construct_part kind)
declared-construct node.Name is = refl
declared-construct other is = make.never is

critical-rule : (ahead : Term) → RuleFor sort.CriticalName (Grammar.critical_name ahead)
unfolding Leads AreFormed
critical-rule term.OpenParen = λ steps nodes wanted spot word.
    make.closing is_declared node.Name (record (opened_at spot) { name = word.value }) nodes (Leads steps) (make.many_single is_construct_part is_declared declared-construct nodes (Leads steps) wanted) refl tt tt
critical-rule ahead = λ steps nodes wanted. make.many_end is_construct_part nodes (Leads steps) wanted

sections-rule : (ahead : Term) → RuleFor sort.SectionsBody (Grammar.sections_body ahead)
unfolding Leads
sections-rule ahead = λ steps nodes wanted. make.many_one is_construct_part is_quiet quiet-construct nodes (Leads steps) wanted

first-section-rule : (ahead : Term) → RuleFor sort.FirstSection (Grammar.first_section ahead)
unfolding Leads
first-section-rule term.Pragma = λ steps nodes wanted spot. (refl, wanted)
first-section-rule ahead = λ steps nodes wanted. wanted

section-rule : (ahead : Term) → RuleFor sort.SectionOrConstruct (Grammar.section_or_construct ahead)
unfolding Leads
section-rule term.Section = λ steps nodes wanted. close-one is_quiet is_quiet node.Section nodes (Leads steps) (λ tree is. (is, tt)) refl wanted
section-rule ahead = λ steps nodes wanted. wanted

more-sections-rule : (ahead : Term) → RuleFor sort.MoreSections (Grammar.more_sections ahead)
unfolding Leads AreFormed
more-sections-rule term.Pragma = λ steps nodes wanted spot tree is formed.
    make.closing is_quiet node.Section (with_child (Some tree) (opened_at spot)) nodes (λ nodes. PushesMany is_construct_part nodes (Leads steps)) (make.many_one is_construct_part is_quiet quiet-construct nodes (Leads steps) wanted) refl (is, tt) (formed, tt)
more-sections-rule ahead = λ steps nodes wanted. make.many_end is_construct_part nodes (Leads steps) wanted

-- clauses
clauses-rule : (which : Directive) (ahead : Term) → RuleFor (sort.Clauses which) (Grammar.clauses which ahead)
unfolding Leads
clauses-rule which term.PragmaEnd = λ steps nodes wanted. make.many_end is_construct_part nodes (Leads steps) wanted
clauses-rule which term.Comma = λ steps nodes wanted.
    make.wrapping is_construct_part is_any (node.Clause lead.Comma) (λ tree is. tt) refl nodes (λ nodes. PushesMany is_construct_part nodes (Leads steps)) (make.many_one is_construct_part is_construct_part (same-kind is_construct_part) nodes (Leads steps) wanted)
clauses-rule which ahead = λ steps nodes wanted.
    make.wrapping is_construct_part is_any (node.Clause lead.Blank) (λ tree is. tt) refl nodes (λ nodes. PushesMany is_construct_part nodes (Leads steps)) (make.many_one is_construct_part is_construct_part (same-kind is_construct_part) nodes (Leads steps) wanted)

given-rule : (what : Sort) (has : Bool) (steps : List Step) → RuleFor what (Some steps) → RuleFor what (Grammar.given has steps)
given-rule what true steps rule = rule
given-rule what false steps rule = tt

listing : (kind : NodeKind) → ((children : Children) → HasForm kind children) → (spot : Spot) (nodes : List Opened) (wanted : List Opened → Type 0) → Pushes is_any nodes wanted → PushesMany is_any (opened_at spot ∷ nodes) (λ nodes. wanted (made kind nodes))
listing kind form spot nodes wanted pushes = many-done is_any is_any kind (opened_at spot) nodes wanted (make.all_fresh is_any [] refl) (λ children row. form children) refl pushes

clause-rule : (which : Directive) (ahead : Term) → RuleFor (sort.Clause which) (Grammar.clause which ahead)
unfolding Leads AreFormed
clause-rule which term.NumThreads = given-rule (sort.Clause which) (Grammar.forks which) _ (λ steps nodes wanted spot tree is formed. make.closing is_any node.NumThreads (with_child (Some tree) (opened_at spot)) nodes (Leads steps) wanted refl (is, tt) (formed, tt))
clause-rule which term.Default = given-rule (sort.Clause which) (Grammar.shares which) _ (λ steps nodes wanted spot. (refl, wanted))
clause-rule which term.Shared = given-rule (sort.Clause which) (Grammar.shares which) _ (λ steps nodes wanted spot. listing _ (λ children. tt) spot nodes (Leads steps) wanted)
clause-rule which term.Private = given-rule (sort.Clause which) (Grammar.has_data which) _ (λ steps nodes wanted spot. listing _ (λ children. tt) spot nodes (Leads steps) wanted)
clause-rule which term.Firstprivate = given-rule (sort.Clause which) (Grammar.has_data which) _ (λ steps nodes wanted spot. listing _ (λ children. tt) spot nodes (Leads steps) wanted)
clause-rule which term.Reduction = given-rule (sort.Clause which) (Grammar.reduces which) _ (λ steps nodes wanted spot. (refl, wanted))
clause-rule which term.Schedule = given-rule (sort.Clause which) (Grammar.schedules which) _ (λ steps nodes wanted spot. (refl, wanted))
clause-rule which term.Nowait = given-rule (sort.Clause which) (Grammar.waits which) _ (λ steps nodes wanted spot. make.closing is_any node.Nowait (opened_at spot) nodes (Leads steps) wanted refl tt tt)
clause-rule which term.If = given-rule (sort.Clause which) (Grammar.defers which) _ (λ steps nodes wanted spot tree is formed. make.closing is_any node.IfClause (with_child (Some tree) (opened_at spot)) nodes (Leads steps) wanted refl (is, tt) (formed, tt))
clause-rule which ahead = tt

default-rule : (ahead : Term) → RuleFor sort.DefaultWord (Grammar.default_word ahead)
unfolding Leads
default-rule term.Shared = λ steps nodes wanted. close-empty is_any _ nodes (Leads steps) (λ children over. tt) refl wanted
default-rule term.None = λ steps nodes wanted. close-empty is_any _ nodes (Leads steps) (λ children over. tt) refl wanted
default-rule ahead = tt

operator-rule : (ahead : Term) → RuleFor sort.Operator (Grammar.operator ahead)
unfolding Leads
operator-rule term.Plus = λ steps nodes wanted. close-many is_any is_any _ nodes (Leads steps) (λ children row. tt) refl wanted
operator-rule term.Star = λ steps nodes wanted. close-many is_any is_any _ nodes (Leads steps) (λ children row. tt) refl wanted
operator-rule term.Max = λ steps nodes wanted. close-many is_any is_any _ nodes (Leads steps) (λ children row. tt) refl wanted
operator-rule term.Min = λ steps nodes wanted. close-many is_any is_any _ nodes (Leads steps) (λ children row. tt) refl wanted
operator-rule ahead = tt

kind-rule : (ahead : Term) → RuleFor sort.Kind (Grammar.kind_word ahead)
unfolding Leads
kind-rule term.Static = λ steps nodes wanted. close-many is_any is_any _ nodes (Leads steps) (λ children row. tt) refl wanted
kind-rule term.Dynamic = λ steps nodes wanted. close-many is_any is_any _ nodes (Leads steps) (λ children row. tt) refl wanted
kind-rule term.Guided = λ steps nodes wanted. close-many is_any is_any _ nodes (Leads steps) (λ children row. tt) refl wanted
kind-rule ahead = tt

chunk-rule : (ahead : Term) → RuleFor sort.ChunkPart (Grammar.chunk_part ahead)
unfolding Leads AreFormed
chunk-rule term.Comma = λ steps nodes wanted spot word.
    make.closing is_any node.Number (record (opened_at spot) { number = word.value }) nodes (Leads steps) (make.many_single is_any is_any (any-kind is_any) nodes (Leads steps) wanted) refl tt tt
chunk-rule ahead = λ steps nodes wanted. make.many_end is_any nodes (Leads steps) wanted

names-rule : (ahead : Term) → RuleFor sort.Names (Grammar.names ahead)
unfolding Leads
names-rule ahead = λ steps nodes wanted spot word. name-done is_any spot word nodes (Leads steps) (any-kind is_declared) wanted

more-names-rule : (ahead : Term) → RuleFor sort.MoreNames (Grammar.more_names ahead)
unfolding Leads
more-names-rule term.Comma = λ steps nodes wanted spot word. name-done is_any spot word nodes (Leads steps) (any-kind is_declared) wanted
more-names-rule ahead = λ steps nodes wanted. make.many_end is_any nodes (Leads steps) wanted

-- all of them
pub rule : (what : Sort) (ahead : Term) → RuleFor what (Grammar.choice what ahead)
unfolding Leads
rule sort.Program ahead = program-rule ahead
rule sort.Globals ahead = globals-rule ahead
rule sort.AfterIntName ahead = after-int-rule ahead
rule sort.Body ahead = body-rule ahead
rule sort.Params ahead = params-rule ahead
rule sort.MoreParams ahead = more-params-rule ahead
rule sort.GlobalRest ahead = global-rest-rule ahead
rule sort.Initial ahead = initial-rule ahead
rule sort.MoreGlobals ahead = more-globals-rule ahead
rule sort.Locks ahead = locks-rule ahead
rule sort.MoreLocks ahead = more-locks-rule ahead
rule sort.Block ahead = block-rule ahead
rule sort.Items ahead = items-rule ahead
rule sort.Locals ahead = locals-rule ahead
rule sort.LocalRest ahead = local-rest-rule ahead
rule sort.MoreLocals ahead = more-locals-rule ahead
rule sort.Right ahead = right-rule ahead
rule sort.AfterRightName ahead = after-right-rule ahead
rule sort.Statement ahead = statement-rule ahead
rule sort.PlainStatement ahead = plain-rule ahead
rule sort.AfterStatementName ahead = after-statement-rule ahead
rule sort.AfterPlace ahead = after-place-rule ahead
rule sort.AssignRight ahead = assign-right-rule ahead
rule sort.AfterAssignName ahead = after-assign-rule ahead
rule sort.Place ahead = place-rule ahead
rule sort.Args ahead = args-rule ahead
rule sort.MoreArgs ahead = more-args-rule ahead
rule sort.ElsePart ahead = else-rule ahead
rule sort.InitPart ahead = init-rule ahead
rule sort.CondPart ahead = cond-rule ahead
rule sort.StepPart ahead = step-rule ahead
rule sort.StepRest ahead = step-rest-rule ahead
rule sort.ReturnPart ahead = return-rule ahead
rule sort.Expr ahead = λ steps nodes wanted. make.turning is_quiet nodes (Leads steps) wanted
rule sort.OrTail ahead = or-rule ahead
rule sort.AndChain ahead = λ steps nodes wanted. make.turning is_quiet nodes (Leads steps) wanted
rule sort.AndTail ahead = and-rule ahead
rule sort.EqualChain ahead = λ steps nodes wanted. make.turning is_quiet nodes (Leads steps) wanted
rule sort.EqualTail ahead = equal-rule ahead
rule sort.RelChain ahead = λ steps nodes wanted. make.turning is_quiet nodes (Leads steps) wanted
rule sort.RelTail ahead = rel-rule ahead
rule sort.SumChain ahead = λ steps nodes wanted. make.turning is_quiet nodes (Leads steps) wanted
rule sort.SumTail ahead = sum-rule ahead
rule sort.ProdChain ahead = λ steps nodes wanted. make.turning is_quiet nodes (Leads steps) wanted
rule sort.ProdTail ahead = prod-rule ahead
rule sort.Unary ahead = unary-rule ahead
rule sort.IndexPart ahead = index-rule ahead
rule (sort.AfterGetter which) ahead = getter-rule which ahead
rule sort.ItemDirective ahead = item-directive-rule ahead
rule sort.Construct ahead = construct-rule ahead
rule (sort.Behind which) ahead = behind-rule which ahead
rule sort.AfterParallel ahead = after-parallel-rule ahead
rule sort.CriticalName ahead = critical-rule ahead
rule sort.SectionsBody ahead = sections-rule ahead
rule sort.FirstSection ahead = first-section-rule ahead
rule sort.SectionOrConstruct ahead = section-rule ahead
rule sort.MoreSections ahead = more-sections-rule ahead
rule (sort.Clauses which) ahead = clauses-rule which ahead
rule sort.DefaultWord ahead = default-rule ahead
rule sort.Operator ahead = operator-rule ahead
rule sort.Kind ahead = kind-rule ahead
rule sort.ChunkPart ahead = chunk-rule ahead
rule sort.Names ahead = names-rule ahead
rule sort.MoreNames ahead = more-names-rule ahead
rule (sort.Clause which) ahead = clause-rule which ahead
