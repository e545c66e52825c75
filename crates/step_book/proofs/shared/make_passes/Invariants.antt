use Rattle.std.proofs.Common.{◌≡◌, ℕ, ◌<◌, ◌≤◌, List, [], length, None, get_or}
use Rattle.atomic_table.specs.Seated.{TableId}
use Rattle.atomic_table.specs.Table.{Me}
use Rattle.step_book.specs.declared.view.SeatView.{SeatView}
use Rattle.step_book.specs.declared.view.SeatView.TheVariants.{OfBook}
use Rattle.step_book.specs.Sharing.{PassView, fresh_pass}
use Rattle.step_book.proofs.shared.make_passes.Given as goal

-- so many passes were made
pub record IsMaking (table at : TableId) (threads made : ℕ) (me : Me (Unit {0}) SeatView) (passes : List PassView) : Type 0 where
  pub table_is : at ≡ table
  pub within : made ≤ threads
  pub seat : me ≡ (OfBook [] made None, [])
  pub count : length passes ≡ made
  pub fresh : (k : ℕ) (d : PassView) → k < made → get_or passes k d ≡ fresh_pass k

abbrev pub invariant-loop-thread : goal.invariant-loop-thread
invariant-loop-thread g l = IsMaking l.count.table_id l.seat.table_id l.fn.threads l.thread l.seat.me l.passes.items
