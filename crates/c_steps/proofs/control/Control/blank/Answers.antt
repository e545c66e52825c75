use Rattle.std.proofs.Common.{◌≡◌, [], max, sym, ap, ◌∙◌, subst, arith}
use Rattle.std.proofs.lemmas.List.Elements.{All-nil}
use Rattle.c_steps.specs.Rooming.{AreEntries, IsEntry}
use Rattle.c_steps.specs.declared.frame.Frame.{Frame}
use Rattle.c_steps.specs.declared.stack.TheConstants.{LEAST_ROOM}
use Rattle.c_model.specs.declared.entry.Entry.{Entry}
use Rattle.c_steps.specs.Rooms.{Stacked}
use Rattle.kept_room.specs.Roomy.{RoomyList}
use Rattle.c_steps.proofs.Beginning.{room_of_none}
use Rattle.c_steps.proofs.control.Control.blank.Goals as goal

pub invariant_of-result : goal.invariant_of-result
invariant_of-result c =
    let frames : c.in_ok-stack.stack.frames ≡ [] = ap (λ (stack : Stacked Frame). stack.frames) c.in_ok-stack.ensures in
    let least : c.in_ok-stack.stack.free ≡ LEAST_ROOM = ap (λ (stack : Stacked Frame). stack.free) c.in_ok-stack.ensures in
    let list : c.reserve.new.self.list ≡ [] = ap (λ (names : RoomyList Entry). names.list) (c.in_ok-reserve.ensures.room ∙ ap (λ (names : RoomyList Entry). record names { free = max names.free c.width-room.result }) c.new-names.ensures) in
    let free : c.reserve.new.self.free ≡ max c.new-names.result.free c.width-room.result = ap (λ (names : RoomyList Entry). names.free) c.in_ok-reserve.ensures.room in
    room_of_none c.in_ok-stack.stack.free c.reserve.new.self.free c.step_names.result c.width-room.result c.in_ok-stack.stack.frames c.reserve.new.self.list
    frames (subst AreEntries (sym list) (All-nil IsEntry)) (omega (arith, least)) (omega (arith, free))
