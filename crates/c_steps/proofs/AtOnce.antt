-- What comes next, where the item on top tells it by itself.
use Rattle.std.proofs.Common.{◌≡◌, List, ◌∷◌, Option, Some, None, IfSome, slice_get, drop, sym, subst}
use Rattle.c_syntax.specs.language.Numbered.{TreeView}
use Rattle.c_model.specs.declared.upcoming.Upcoming.{Upcoming}
use Rattle.c_model.specs.declared.view.View.{View}
use Rattle.c_model.specs.Step.{items_from_next}
use Rattle.c_model.specs.Upcoming.{upcoming_among}
use Rattle.c_steps.specs.declared.frame.Frame.{Frame}
use Rattle.c_steps.specs.declared.frame.Frame.TheVariants as frame
use Rattle.c_steps.specs.declared.item.Item.{Item}
use Rattle.c_steps.specs.Items.{todo_at}
use Rattle.c_steps.specs.FrontFrame.{ItemTells}
use Rattle.c_steps.proofs.Settling.{top_frame}

by-front : (program : TreeView) (view : View) (it : Item) (upcoming : Upcoming) (frames : List Frame) → ItemTells program it upcoming →
    upcoming_among (items_from_next view (todo_at program (frame.One it ∷ frames))) ≡ upcoming
unfolding todo_at items_from_next
by-front program view it upcoming frames tells = rw (tells.1 view) tells.0

told_at_once : (program : TreeView) (view : View) (it : Item) (upcoming : Upcoming) (frames : List Frame) → Some (frame.One it) ≡ slice_get frames 0 → ItemTells program it upcoming →
    upcoming_among (items_from_next view (todo_at program frames)) ≡ upcoming
told_at_once program view it upcoming frames top tells =
    subst (λ (frames : List Frame). upcoming_among (items_from_next view (todo_at program frames)) ≡ upcoming) (sym (top_frame frames (frame.One it) top)) (by-front program view it upcoming (drop 1 frames) tells)

pub told_if : (program : TreeView) (view : View) (it : Item) (told : Option Upcoming) (frames : List Frame) → Some (frame.One it) ≡ slice_get frames 0 → IfSome told (ItemTells program it) →
    IfSome told (λ (upcoming : Upcoming). upcoming_among (items_from_next view (todo_at program frames)) ≡ upcoming)
told_if program view it None frames top tells = tt
told_if program view it (Some upcoming) frames top tells = told_at_once program view it upcoming frames top tells
