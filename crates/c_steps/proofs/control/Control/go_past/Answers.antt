use Rattle.std.proofs.Common.{refl, subst}
use Rattle.c_steps.specs.ControlView.{env_at}
use Rattle.c_steps.specs.Items.{item_at}
use Rattle.c_steps.specs.Passing.{IsPassed, names_behind_asking, names_behind_work}
use Rattle.c_steps.proofs.Passing.{past_task, same_names_of_asking, same_names_of_work}
use Rattle.c_steps.proofs.control.Control.go_past.Goals as goal

pub returns-in-ParallelBegin : goal.returns-in-ParallelBegin
returns-in-ParallelBegin c =
    past_task c.args.code.now c.args.point _ c.args.executes c.args.node (item_at c.args.code.now c.args.item) c.args.self.now c.put_instead.new.self (env_at c.args.code.now c.args.self.now) c.in-ParallelBegin.is c.requires.event
    c.put_instead.ensures refl

pub returns-in-WorkBegin : goal.returns-in-WorkBegin
returns-in-WorkBegin c =
    past_task c.args.code.now c.args.point _ c.args.executes c.args.node (item_at c.args.code.now c.args.item) c.args.self.now c.begin_work.new.self (env_at c.args.code.now c.args.self.now) c.in-WorkBegin.is c.requires.event
    c.begin_work.ensures refl

pub returns-in-WorkEnd : goal.returns-in-WorkEnd
returns-in-WorkEnd c =
    past_task c.args.code.now c.args.point _ c.args.executes c.args.node (item_at c.args.code.now c.args.item) c.args.self.now c.end_own_names.new.self (names_behind_work c.args.code.now c.args.item (env_at c.args.code.now c.args.self.now)) c.in-WorkEnd.is c.requires.event
    c.end_own_names.ensures (same_names_of_work c.args.code.now c.in-WorkEnd.codeptr c.in-WorkEnd.kind c.in-WorkEnd.count c.args.item (env_at c.args.code.now c.args.self.now))

pub returns-in-MaskedBegin : goal.returns-in-MaskedBegin
returns-in-MaskedBegin c =
    past_task c.args.code.now c.args.point _ c.args.executes c.args.node (item_at c.args.code.now c.args.item) c.args.self.now c.begin_masked.new.self (env_at c.args.code.now c.args.self.now) c.in-MaskedBegin.is c.requires.event
    c.begin_masked.ensures refl

pub returns-in-Sync : goal.returns-in-Sync
returns-in-Sync c =
    past_task c.args.code.now c.args.point _ c.args.executes c.args.node (item_at c.args.code.now c.args.item) c.args.self.now c.put_instead-in-Sync.new.self (env_at c.args.code.now c.args.self.now) c.in-Sync.is c.requires.event
    (subst (λ items. IsPassed c.args.code.now c.args.self.now c.put_instead-in-Sync.new.self items (env_at c.args.code.now c.args.self.now)) (c.next_stage.ensures.stage c.args.code.now) c.put_instead-in-Sync.ensures) refl

pub returns-in-MutexAcquire : goal.returns-in-MutexAcquire
returns-in-MutexAcquire c =
    past_task c.args.code.now c.args.point _ c.args.executes c.args.node (item_at c.args.code.now c.args.item) c.args.self.now c.ask_for.new.self (names_behind_asking c.args.item (env_at c.args.code.now c.args.self.now)) c.in-MutexAcquire.is c.requires.event
    c.ask_for.ensures (same_names_of_asking c.args.code.now c.in-MutexAcquire.codeptr c.in-MutexAcquire.wait_id c.in-MutexAcquire.kind c.in-MutexAcquire.to c.args.item (env_at c.args.code.now c.args.self.now))
