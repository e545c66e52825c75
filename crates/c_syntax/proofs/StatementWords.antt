-- The statements that begin with a name, a bump or a routine: what the productions of them spell, the table derives.
use Rattle.std.proofs.Common.{ℕ, IsTrue, List, [], ◌∷◌, Some, refl, ap}
use Rattle.c_syntax.specs.declared.grammar.Class.TheVariants as class
use Rattle.c_syntax.specs.declared.grammar.Step.{Step}
use Rattle.c_syntax.specs.declared.grammar.Step.TheVariants.{Read}
use Rattle.c_syntax.specs.declared.grammar.Sort.TheVariants as sort
use Rattle.c_syntax.specs.declared.head.Head.TheVariants as head
use Rattle.c_syntax.specs.declared.node.Bump.TheVariants as bump
use Rattle.c_syntax.specs.declared.node.LockCall.{LockCall}
use Rattle.c_syntax.specs.declared.node.LockCall.TheVariants as lock_call
use Rattle.c_syntax.specs.declared.node.Setting.TheVariants as setting
use Rattle.c_syntax.specs.declared.node.NodeKind.TheVariants as node
use Rattle.c_syntax.specs.declared.term.Term.TheVariants as term
use Rattle.c_syntax.specs.language.Words.{Word}
use Rattle.c_syntax.specs.language.Tree.{Tree, over_one, over_two}
use Rattle.c_syntax.specs.language.Tree.Tree.{Node}
use Rattle.c_syntax.specs.workings.Derivation.{Derives, Opened, keep, opened_at}
use Rattle.c_syntax.specs.language.Productions.{Call, Is, Lock, MoreArguments, Place, StepOf, kids, made_at, routine_word, setting_sign}
use Rattle.c_syntax.proofs.CallWords.{call_derives, lock_derives, more_arguments_derive, test_derives}
use Rattle.c_syntax.proofs.Expressions.{expression_derives, place_derives}
use Rattle.c_syntax.proofs.FirstSteps.{assign_by_name, assign_expression, statement_by_name, statement_place}
use Rattle.c_syntax.proofs.FirstWords.{bare-apart, expression-begins, index-no_paren, no_paren}
use Rattle.c_syntax.proofs.OutsideSteps.{expect, make, read_term, take_text}
use Rattle.c_syntax.proofs.Pushing.{is_end, plus}

-- a place that begins a statement, and that no parenthesis follows
from_place : {limit depth : ℕ} {words rest : List Word} {next : Word} {tree whole : Tree} {steps : List Step} {nodes : List Opened} → Place limit depth head.Outside words (next ∷ rest) tree
    → IsTrue (no_paren next.term) → Derives limit (Read sort.Place ∷ Read sort.AfterPlace ∷ steps) depth head.Outside words nodes whole
    → Derives limit (Read sort.PlainStatement ∷ steps) depth head.Outside words nodes whole
from_place (Place.place {words = words} {word = word} named index) bare more = statement_place word words named (index-no_paren index bare) more

-- a call where it is assigned
assigned_call : {limit depth : ℕ} {words rest : List Word} {left right whole : Tree} {steps : List Step} {own : Opened} {outer : List Opened} → Call limit depth words rest right
    → Derives limit steps depth head.Outside rest (plus (Some (over_two node.SetCall left right)) (own ∷ outer)) whole
    → Derives limit (Read sort.AssignRight ∷ steps) depth head.Outside words (plus (Some left) (own ∷ outer)) whole
assigned_call (Call.call {word = word} named opens arguments closes) more =
    assign_by_name named (read_term term.OpenParen opens refl (call_derives word opens arguments closes (Derives.join more)))
assigned_call (Call.test is locked) more = read_term term.TestLock is refl (test_derives is locked (Derives.join more))

-- an assignment of a call
pub set_call_derives : {limit depth : ℕ} {words behind rest : List Word} {equals last : Word} {left right whole : Tree} {steps : List Step} {own : Opened} {outer : List Opened}
    → Place limit depth head.Outside words (equals ∷ behind) left → Is term.Set equals → Call limit depth behind (last ∷ rest) right → Is term.Semicolon last
    → Derives limit steps depth head.Outside rest (plus (Some (over_two node.SetCall left right)) (own ∷ outer)) whole
    → Derives limit (Read sort.PlainStatement ∷ steps) depth head.Outside words (own ∷ outer) whole
set_call_derives placed sets called ends more =
    from_place placed (ap no_paren sets) (place_derives refl placed (bare-apart term.Set sets refl)
    (read_term term.Set sets refl (expect sets refl (assigned_call called (expect ends refl more)))))

-- a call
pub called_derives : {limit depth : ℕ} {words rest : List Word} {last : Word} {tree whole : Tree} {steps : List Step} {own : Opened} {outer : List Opened}
    → Call limit depth words (last ∷ rest) tree → Is term.Semicolon last → Derives limit steps depth head.Outside rest (plus (Some (over_one node.Called tree)) (own ∷ outer)) whole
    → Derives limit (Read sort.PlainStatement ∷ steps) depth head.Outside words (own ∷ outer) whole
called_derives (Call.call {word = word} named opens arguments closes) ends more =
    statement_by_name named (read_term term.OpenParen opens refl (call_derives word opens arguments closes (Derives.wrap (expect ends refl more))))
called_derives (Call.test is locked) ends more =
    read_term term.TestLock is refl (Derives.open_node (test_derives is locked (expect ends refl (Derives.make more))))

-- a step
pub stepped_derives : {limit depth : ℕ} {words rest : List Word} {last : Word} {tree whole : Tree} {steps : List Step} {own : Opened} {outer : List Opened}
    → StepOf limit depth words (last ∷ rest) tree → Is term.Semicolon last → Derives limit steps depth head.Outside rest (plus (Some (over_one node.Step tree)) (own ∷ outer)) whole
    → Derives limit (Read sort.PlainStatement ∷ steps) depth head.Outside words (own ∷ outer) whole
stepped_derives (StepOf.assigned {behind = behind} setting.Plain placed is expression) ends more =
    from_place placed (ap no_paren is) (place_derives refl placed (bare-apart term.Set is refl)
    (read_term term.Set is refl (expect is refl (assign_expression behind (expression-begins expression (ap is_end ends))
    (expression_derives refl expression (ap is_end ends) (Derives.join (Derives.wrap (expect ends refl more))))))))
stepped_derives (StepOf.assigned which placed is expression) ends more =
    from_place placed (ap no_paren is) (place_derives refl placed (bare-apart (setting_sign which) is refl)
    (read_term (setting_sign which) is refl (expect is refl
    (expression_derives refl expression (ap is_end ends) (Derives.join (Derives.wrap (expect ends refl more)))))))
stepped_derives (StepOf.behind bump.Increment placed is) ends more =
    from_place placed (ap no_paren is) (place_derives refl placed (bare-apart term.PlusPlus is refl)
    (read_term term.PlusPlus is refl (expect is refl (Derives.wrap (Derives.wrap (expect ends refl more))))))
stepped_derives (StepOf.behind bump.Decrement placed is) ends more =
    from_place placed (ap no_paren is) (place_derives refl placed (bare-apart term.MinusMinus is refl)
    (read_term term.MinusMinus is refl (expect is refl (Derives.wrap (Derives.wrap (expect ends refl more))))))
stepped_derives (StepOf.before bump.Increment is placed) ends more =
    read_term term.PlusPlus is refl (Derives.open_node (Derives.open_node (expect is refl
    (place_derives refl placed (bare-apart term.Semicolon ends refl) (Derives.make (expect ends refl (Derives.make more)))))))
stepped_derives (StepOf.before bump.Decrement is placed) ends more =
    read_term term.MinusMinus is refl (Derives.open_node (Derives.open_node (expect is refl
    (place_derives refl placed (bare-apart term.Semicolon ends refl) (Derives.make (expect ends refl (Derives.make more)))))))

-- `printf`
pub print_derives : {limit depth : ℕ} {words rest : List Word} {word first told last end : Word} {trees : List Tree} {whole : Tree} {steps : List Step} {own : Opened} {outer : List Opened}
    → Is term.Printf word → Is term.OpenParen first → Is term.Text told → MoreArguments limit depth words (last ∷ end ∷ rest) trees → Is term.CloseParen last → Is term.Semicolon end
    → Derives limit steps depth head.Outside rest (plus (Some (Node node.Print word.spot 0 0 told.text (kids trees))) (own ∷ outer)) whole
    → Derives limit (Read sort.PlainStatement ∷ steps) depth head.Outside (word ∷ first ∷ told ∷ words) (own ∷ outer) whole
print_derives {word = word} {told = told} {trees = trees} prints opens text arguments closes ends more =
    read_term term.Printf prints refl (Derives.open_node (expect prints refl (expect opens refl (take_text text
    (more_arguments_derive arguments closes (expect closes refl (expect ends refl (make node.Print trees (keep class.Text told (opened_at word.spot)) more))))))))

-- a routine of a lock
pub locking_derives : {limit depth : ℕ} {words rest : List Word} {word last : Word} {tree whole : Tree} {steps : List Step} {own : Opened} {outer : List Opened}
    → (which : LockCall) → Is (routine_word which) word → Lock words (last ∷ rest) tree → Is term.Semicolon last
    → Derives limit steps depth head.Outside rest (plus (Some (made_at (node.LockCall which) word (kids (tree ∷ [])))) (own ∷ outer)) whole
    → Derives limit (Read sort.PlainStatement ∷ steps) depth head.Outside (word ∷ words) (own ∷ outer) whole
locking_derives lock_call.Init names locked ends more =
    read_term term.InitLock names refl (Derives.open_node (expect names refl (lock_derives locked (expect ends refl (Derives.make more)))))
locking_derives which names locked ends more =
    read_term (routine_word which) names refl (Derives.open_node (expect names refl (lock_derives locked (expect ends refl (Derives.make more)))))
