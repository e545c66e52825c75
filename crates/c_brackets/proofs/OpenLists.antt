-- What is open among items one after another, and what stays so behind items more.
use Rattle.std.specs.Prelude.{◌≡◌, ◌||◌, Bool, true, false, IsTrue, List, [], ◌∷◌, ◌++◌, None, refl}
use Rattle.c_model.specs.Task.{Item}
use Rattle.c_brackets.specs.Links.{link_next}
use Rattle.c_brackets.specs.Opened.{open_items}
use Rattle.c_brackets.specs.Orderly.{AreBehind, AreInOrder, falls_off, is_fall_off}

pub never : {A : Type 0} → IsTrue false → A
never is = absurd (cc)

pub left_true : (one other : Bool) → IsTrue one → IsTrue (one || other)
left_true true other is = refl
left_true false other is = never is

pub right_true : (one other : Bool) → IsTrue other → IsTrue (one || other)
right_true true other is = refl
right_true false other is = is

-- what stands behind the first is in order
pub in_order : (items : List Item) → AreBehind items → AreInOrder items
unfolding AreBehind AreInOrder
in_order [] are = tt
in_order (item ∷ items) are = (are.1, are.2)

-- .. and needs no event before it
pub none_next : (items : List Item) → AreBehind items → link_next items ≡ None
unfolding AreBehind
none_next [] are = refl
none_next (item ∷ items) are = are.0

-- the end of a function stays behind what comes before it
pub falls_behind : (item : Item) (items : List Item) → is_fall_off item ≡ false → IsTrue (falls_off (item ∷ items)) → IsTrue (falls_off items)
unfolding falls_off
falls_behind item items apart is = rw apart at is

pub falls_more : (items more : List Item) → IsTrue (falls_off more) → IsTrue (falls_off (items ++ more))
unfolding falls_off
falls_more [] more is = is
falls_more (item ∷ items) more is = right_true (is_fall_off item) _ (falls_more items more is)

-- Items stand before others, with nothing more open, and stand there as what stands behind.
pub record IsAdded (full items : List Item) : Type 0 where
  pub behind : AreBehind full
  pub same : open_items full ≡ open_items items
  pub falls : IsTrue (falls_off items) → IsTrue (falls_off full)

pub none_added : (items : List Item) → AreBehind items → IsAdded items items
none_added items behind = record { behind = behind; same = refl; falls = λ is. is }
