use Rattle.std.proofs.Common.{◌≡◌, ◌≤◌, ◌∙◌, true, refl, sym, subst}
use Rattle.c_model.specs.declared.point.Point.{Point}
use Rattle.c_model.specs.Step.{silent}
use Rattle.c_model.specs.Task.Outcome.{Occurs}
use Rattle.c_syntax.specs.language.Numbered.{tree_at}
use Rattle.omp_model.specs.State.{World}
use Rattle.omp_model.specs.Changes.{with_masked_skipped}
use Rattle.omp_model.specs.MadeWorld.{IsMadeWorld}
use Rattle.omp_model.specs.Members.{code_of, current, moment_of, view_of}
use Rattle.omp_model.proofs.MadeRuns.{past-made}
use Rattle.omp_board.specs.Board.{BoardView, IsGoingTo}
use Rattle.omp_board.proofs.Replies.{lock_replies}
use Rattle.omp_board.proofs.Tested.{acquired, come_told, halts_told, made_told, occurs_told, settled_told, some_event, went_told, world_told}
use Rattle.omp_board.proofs.ToldFree.{come_past, past_same}
use Rattle.omp_board.proofs.board.Board.come_to_test.Goals as goal

pub returns-in-Err-clause-going : goal.returns-in-Err-clause-going
returns-in-Err-clause-going c =
    (halts_told c.args.self.now.program c.args.self.now.world c.args.thread c.requires.settled c.requires.made (tree_at c.args.self.now.program.trees c.args.node) c.args.wait_id c.requires.asks c.in-Err.halt c.in-Err.ensures.0, refl)

pub tell_free-requires-clause-asks : goal.tell_free-requires-clause-asks
tell_free-requires-clause-asks c = lock_replies (code_of c.args.self.now.world c.args.thread).todo (tree_at c.args.self.now.program.trees c.args.node) c.args.wait_id true c.requires.asks

pub come_to-requires-clause-comes : goal.come_to-requires-clause-comes
come_to-requires-clause-comes c =
    come_past c.tell_free.new.self c.look.new.self c.args.thread c.in-Event.point c.in-Event.node (c.in-Event.ensures.still tt) c.in-Event.ensures.outcome
    (subst (λ (now : BoardView). 1 ≤ current now.world c.args.thread) (sym c.tell_free.ensures) c.requires.some) c.in-Event.ensures.named

pub come_to-requires-clause-made : goal.come_to-requires-clause-made
come_to-requires-clause-made c =
    let told = made_told c.args.self.now.program c.args.self.now.world c.args.thread c.requires.settled c.requires.made (tree_at c.args.self.now.program.trees c.args.node) c.args.wait_id c.requires.asks in
    let made = subst (λ (now : BoardView). IsMadeWorld now.world) (sym c.tell_free.ensures) told in
    subst (λ (now : BoardView). IsMadeWorld now.world) (sym (c.in-Event.ensures.still tt)) (past-made c.tell_free.new.self.world c.args.thread made)

pub unreachable-requires : goal.unreachable-requires
unreachable-requires c =
    let comes = occurs_told c.args.self.now.program c.args.self.now.world c.args.thread c.requires.settled c.requires.made (tree_at c.args.self.now.program.trees c.args.node) c.args.wait_id c.requires.asks in
    let occurs = subst (λ (now : BoardView). silent now.program (view_of now.world c.args.thread) (moment_of now.world c.args.thread) ≡ Occurs (acquired (tree_at c.args.self.now.program.trees c.args.node) c.args.wait_id) (tree_at c.args.self.now.program.trees c.args.node)) (sym c.tell_free.ensures) comes in
    some_event c.tell_free.new.self.program c.look.result _ _ _ (c.look.ensures.outcome ∙ occurs) c.in_default-look.not-Event

pub returns-clause-going : goal.returns-clause-going
returns-clause-going c =
    let program = c.args.self.now.program in
    let W = c.args.self.now.world in
    let t = c.args.thread in
    let tree = tree_at program.trees c.args.node in
    let told = world_told program W t c.requires.settled c.requires.made tree c.args.wait_id c.requires.asks in
    let looked = subst (λ (now : BoardView). IsGoingTo now.program now.world t (moment_of now.world t) c.in-Event.point c.come_to.result c.come_to.new.self.world) (c.in-Event.ensures.still tt) c.come_to.ensures.going in
    let past = subst (λ (now : BoardView). IsGoingTo now.program (with_masked_skipped now.world t) t (moment_of (with_masked_skipped now.world t) t) c.in-Event.point c.come_to.result c.come_to.new.self.world) c.tell_free.ensures looked in
    let same = past_same told t (settled_told program W t c.requires.settled c.requires.made tree c.args.wait_id c.requires.asks) in
    let going = subst (λ (V : World). IsGoingTo program V t (moment_of V t) c.in-Event.point c.come_to.result c.come_to.new.self.world) same past in
    let occurs = subst (λ (now : BoardView). Occurs c.in-Event.point (tree_at now.program.trees c.in-Event.node) ≡ silent now.program (view_of now.world t) (moment_of now.world t)) c.tell_free.ensures c.in-Event.ensures.outcome in
    let what = come_told program W t c.requires.settled c.requires.made tree c.args.wait_id c.requires.asks c.in-Event.point _ occurs in
    went_told program W t c.requires.settled c.requires.made tree c.args.wait_id c.requires.asks c.in_default.ensures.0 c.come_to.result c.come_to.new.self.world
    (subst (λ (what : Point). IsGoingTo program told t (moment_of told t) what c.come_to.result c.come_to.new.self.world) what going)
