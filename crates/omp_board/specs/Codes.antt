-- Codes of a task's code and of what has one, by which proofs tell them apart.
use Rattle.std.specs.Prelude.{ℕ, ℤ, ◌≡◌, List, Option, ◌⊎◌, refl}
use Rattle.std.proofs.Common.{inl, inr}
use Rattle.std.specs.Coded.{Coded, code_by, coded×, coded⊎, coded_ℕ, coded_ℤ, coded_list, coded_option}
use base.Stored.{coded_unit}
use Rattle.c_syntax.specs.workings.Codes.{tree_code}
use Rattle.c_syntax.specs.language.Tree.{Tree}
use Rattle.c_syntax.specs.declared.node.ReductionOp.{ReductionOp}
use Rattle.c_syntax.specs.contracts.node.ReductionOp as operator
use Rattle.c_model.specs.declared.entry.Entry.{Entry}
use Rattle.c_model.specs.contracts.entry.Entry as entry
use Rattle.c_model.specs.declared.point.MutexKind.{MutexKind}
use Rattle.c_model.specs.contracts.point.MutexKind as mutex
use Rattle.c_model.specs.declared.point.SyncKind.{SyncKind}
use Rattle.c_model.specs.contracts.point.SyncKind as sync
use Rattle.c_model.specs.declared.point.SyncStage.{SyncStage}
use Rattle.c_model.specs.contracts.point.SyncStage as stage
use Rattle.c_model.specs.declared.point.Target.{Target}
use Rattle.c_model.specs.contracts.point.Target as target
use Rattle.c_model.specs.declared.point.WorkKind.{WorkKind}
use Rattle.c_model.specs.contracts.point.WorkKind as work
use Rattle.c_model.specs.Task.{Item, OpenCall, SharedLoop, Store, Task as Code}
use Rattle.c_model.specs.Task.Item.{Start, Declare, Leave, Test, Third, Initialise, Return, FallOff, Forked, Inside, MakeCells, NextChunk, Iterations, NextSection, Combine, EndWork, EndMasked, Sync, Acquire, Release, TestLock, Tested}
use Rattle.omp_model.specs.State.{Task}

abbrev loop_code : Coded SharedLoop
loop_code =
    code_by (Tree × (ℤ × (ℤ × (ℕ × ℕ)))) (coded× tree_code (coded× coded_ℤ (coded× coded_ℤ (coded× coded_ℕ coded_ℕ))))
    (λ it. (it.construct, (it.start, (it.step, (it.count, it.names)))))
    (λ p. record { construct = p.0; start = p.1.0; step = p.1.1.0; count = p.1.1.1.0; names = p.1.1.1.1 })
    (λ _. refl)

-- an item by its form
abbrev ItemForm : Type 0
ItemForm =
    Tree ⊎ (Tree ⊎ (ℕ ⊎ ((Tree × ℕ) ⊎ ((Tree × ℕ) ⊎ ((Tree × Entry) ⊎ (ℤ ⊎ (Unit {0} ⊎ (Tree ⊎ (Tree ⊎ (Tree ⊎ (SharedLoop ⊎ ((SharedLoop × (ℕ × ℕ)) ⊎ ((Tree × ℕ) ⊎ ((ReductionOp × (ℕ × ℕ)) ⊎ ((Tree × (WorkKind × (ℕ × ℕ))) ⊎ (Tree ⊎ ((Tree × (SyncKind × SyncStage)) ⊎ ((Tree × (MutexKind × ℕ)) ⊎ ((Tree × ℕ) ⊎ ((Tree × (ℕ × Target)) ⊎ Target))))))))))))))))))))

abbrev form_of : Item → ItemForm
form_of (Start tree) = inl tree
form_of (Declare tree) = inr (inl tree)
form_of (Leave names) = inr (inr (inl names))
form_of (Test tree names) = inr (inr (inr (inl (tree, names))))
form_of (Third tree names) = inr (inr (inr (inr (inl (tree, names)))))
form_of (Initialise tree entry) = inr (inr (inr (inr (inr (inl (tree, entry))))))
form_of (Return number) = inr (inr (inr (inr (inr (inr (inl number))))))
form_of FallOff = inr (inr (inr (inr (inr (inr (inr (inl tt)))))))
form_of (Forked construct) = inr (inr (inr (inr (inr (inr (inr (inr (inl construct))))))))
form_of (Inside construct) = inr (inr (inr (inr (inr (inr (inr (inr (inr (inl construct)))))))))
form_of (MakeCells construct) = inr (inr (inr (inr (inr (inr (inr (inr (inr (inr (inl construct))))))))))
form_of (NextChunk loop) = inr (inr (inr (inr (inr (inr (inr (inr (inr (inr (inr (inl loop)))))))))))
form_of (Iterations loop at upto) = inr (inr (inr (inr (inr (inr (inr (inr (inr (inr (inr (inr (inl (loop, (at, upto))))))))))))))
form_of (NextSection construct names) = inr (inr (inr (inr (inr (inr (inr (inr (inr (inr (inr (inr (inr (inl (construct, names))))))))))))))
form_of (Combine operator name names) = inr (inr (inr (inr (inr (inr (inr (inr (inr (inr (inr (inr (inr (inr (inl (operator, (name, names))))))))))))))))
form_of (EndWork construct kind count names) = inr (inr (inr (inr (inr (inr (inr (inr (inr (inr (inr (inr (inr (inr (inr (inl (construct, (kind, (count, names))))))))))))))))))
form_of (EndMasked construct) = inr (inr (inr (inr (inr (inr (inr (inr (inr (inr (inr (inr (inr (inr (inr (inr (inl construct))))))))))))))))
form_of (Sync tree kind stage) = inr (inr (inr (inr (inr (inr (inr (inr (inr (inr (inr (inr (inr (inr (inr (inr (inr (inl (tree, (kind, stage)))))))))))))))))))
form_of (Acquire tree kind id) = inr (inr (inr (inr (inr (inr (inr (inr (inr (inr (inr (inr (inr (inr (inr (inr (inr (inr (inl (tree, (kind, id))))))))))))))))))))
form_of (Release tree id) = inr (inr (inr (inr (inr (inr (inr (inr (inr (inr (inr (inr (inr (inr (inr (inr (inr (inr (inr (inl (tree, id))))))))))))))))))))
form_of (TestLock call id to) = inr (inr (inr (inr (inr (inr (inr (inr (inr (inr (inr (inr (inr (inr (inr (inr (inr (inr (inr (inr (inl (call, (id, to))))))))))))))))))))))
form_of (Tested to) = inr (inr (inr (inr (inr (inr (inr (inr (inr (inr (inr (inr (inr (inr (inr (inr (inr (inr (inr (inr (inr (to)))))))))))))))))))))

abbrev item_of : ItemForm → Item
item_of (inl tree) = Start tree
item_of (inr (inl tree)) = Declare tree
item_of (inr (inr (inl names))) = Leave names
item_of (inr (inr (inr (inl p)))) = Test p.0 p.1
item_of (inr (inr (inr (inr (inl p))))) = Third p.0 p.1
item_of (inr (inr (inr (inr (inr (inl p)))))) = Initialise p.0 p.1
item_of (inr (inr (inr (inr (inr (inr (inl number))))))) = Return number
item_of (inr (inr (inr (inr (inr (inr (inr (inl it)))))))) = FallOff
item_of (inr (inr (inr (inr (inr (inr (inr (inr (inl construct))))))))) = Forked construct
item_of (inr (inr (inr (inr (inr (inr (inr (inr (inr (inl construct)))))))))) = Inside construct
item_of (inr (inr (inr (inr (inr (inr (inr (inr (inr (inr (inl construct))))))))))) = MakeCells construct
item_of (inr (inr (inr (inr (inr (inr (inr (inr (inr (inr (inr (inl loop)))))))))))) = NextChunk loop
item_of (inr (inr (inr (inr (inr (inr (inr (inr (inr (inr (inr (inr (inl p))))))))))))) = Iterations p.0 p.1.0 p.1.1
item_of (inr (inr (inr (inr (inr (inr (inr (inr (inr (inr (inr (inr (inr (inl p)))))))))))))) = NextSection p.0 p.1
item_of (inr (inr (inr (inr (inr (inr (inr (inr (inr (inr (inr (inr (inr (inr (inl p))))))))))))))) = Combine p.0 p.1.0 p.1.1
item_of (inr (inr (inr (inr (inr (inr (inr (inr (inr (inr (inr (inr (inr (inr (inr (inl p)))))))))))))))) = EndWork p.0 p.1.0 p.1.1.0 p.1.1.1
item_of (inr (inr (inr (inr (inr (inr (inr (inr (inr (inr (inr (inr (inr (inr (inr (inr (inl construct))))))))))))))))) = EndMasked construct
item_of (inr (inr (inr (inr (inr (inr (inr (inr (inr (inr (inr (inr (inr (inr (inr (inr (inr (inl p)))))))))))))))))) = Sync p.0 p.1.0 p.1.1
item_of (inr (inr (inr (inr (inr (inr (inr (inr (inr (inr (inr (inr (inr (inr (inr (inr (inr (inr (inl p))))))))))))))))))) = Acquire p.0 p.1.0 p.1.1
item_of (inr (inr (inr (inr (inr (inr (inr (inr (inr (inr (inr (inr (inr (inr (inr (inr (inr (inr (inr (inl p)))))))))))))))))))) = Release p.0 p.1
item_of (inr (inr (inr (inr (inr (inr (inr (inr (inr (inr (inr (inr (inr (inr (inr (inr (inr (inr (inr (inr (inl p))))))))))))))))))))) = TestLock p.0 p.1.0 p.1.1
item_of (inr (inr (inr (inr (inr (inr (inr (inr (inr (inr (inr (inr (inr (inr (inr (inr (inr (inr (inr (inr (inr (to)))))))))))))))))))))) = Tested to

abbrev same_item : (item : Item) → item_of (form_of item) ≡ item
same_item (Start tree) = refl
same_item (Declare tree) = refl
same_item (Leave names) = refl
same_item (Test tree names) = refl
same_item (Third tree names) = refl
same_item (Initialise tree entry) = refl
same_item (Return number) = refl
same_item FallOff = refl
same_item (Forked construct) = refl
same_item (Inside construct) = refl
same_item (MakeCells construct) = refl
same_item (NextChunk loop) = refl
same_item (Iterations loop at upto) = refl
same_item (NextSection construct names) = refl
same_item (Combine operator name names) = refl
same_item (EndWork construct kind count names) = refl
same_item (EndMasked construct) = refl
same_item (Sync tree kind stage) = refl
same_item (Acquire tree kind id) = refl
same_item (Release tree id) = refl
same_item (TestLock call id to) = refl
same_item (Tested to) = refl

abbrev item_code : Coded Item
item_code =
    code_by ItemForm
    (coded⊎ tree_code (coded⊎ tree_code (coded⊎ coded_ℕ (coded⊎ (coded× tree_code coded_ℕ) (coded⊎ (coded× tree_code coded_ℕ) (coded⊎ (coded× tree_code entry.the_row.coded) (coded⊎ coded_ℤ (coded⊎ coded_unit (coded⊎ tree_code (coded⊎ tree_code (coded⊎ tree_code (coded⊎ loop_code (coded⊎ (coded× loop_code (coded× coded_ℕ coded_ℕ)) (coded⊎ (coded× tree_code coded_ℕ) (coded⊎ (coded× operator.the_row.coded (coded× coded_ℕ coded_ℕ)) (coded⊎ (coded× tree_code (coded× work.the_row.coded (coded× coded_ℕ coded_ℕ))) (coded⊎ tree_code (coded⊎ (coded× tree_code (coded× sync.the_row.coded stage.the_row.coded)) (coded⊎ (coded× tree_code (coded× mutex.the_row.coded coded_ℕ)) (coded⊎ (coded× tree_code coded_ℕ) (coded⊎ (coded× tree_code (coded× coded_ℕ target.the_row.coded)) target.the_row.coded)))))))))))))))))))))
    form_of item_of same_item

abbrev call_code : Coded OpenCall
call_code =
    code_by (List Item × (List Entry × Target)) (coded× (coded_list item_code) (coded× (coded_list entry.the_row.coded) target.the_row.coded))
    (λ call. (call.todo, (call.env, call.to)))
    (λ p. record { todo = p.0; env = p.1.0; to = p.1.1 })
    (λ _. refl)

abbrev code_code : Coded Code
code_code =
    code_by (List Item × (List Entry × (List OpenCall × Option ℤ)))
    (coded× (coded_list item_code) (coded× (coded_list entry.the_row.coded) (coded× (coded_list call_code) (coded_option coded_ℤ))))
    (λ code. (code.todo, (code.env, (code.calls, code.returned))))
    (λ p. record { todo = p.0; env = p.1.0; calls = p.1.1.0; returned = p.1.1.1 })
    (λ _. refl)

abbrev pub store_code : Coded Store
store_code =
    code_by (List ℤ × List ℕ) (coded× (coded_list coded_ℤ) (coded_list coded_ℕ)) (λ store. (store.cells, store.text))
    (λ p. record { cells = p.0; text = p.1 })
    (λ _. refl)

abbrev pub task_code : Coded Task
task_code =
    code_by (Code × (ℕ × (ℕ × ℕ))) (coded× code_code (coded× coded_ℕ (coded× coded_ℕ coded_ℕ)))
    (λ task. (task.code, (task.thread, (task.forked, task.word))))
    (λ p. record { code = p.0; thread = p.1.0; forked = p.1.1.0; word = p.1.1.1 })
    (λ _. refl)
