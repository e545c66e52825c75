-- What a tool hears of an event.
use Rattle.std.specs.Prelude.{ℕ, List}
use Rattle.ompt_calls.specs.declared.call.Call.{Call}
use Rattle.ompt_calls.specs.declared.snapshot.Snapshot.{Snapshot}
use Rattle.ompt_calls.specs.declared.reply.Reply.{Reply}
use Rattle.ompt_calls.specs.Snapshot.{Stored, stores_of}

-- the position of the event in the history, its thread, its callback with the arguments, what could be inquired during the
-- callback, and the stores of the tool that took effect
pub record Item : Type 0 where
  pub seq : ℕ
  pub thread : ℕ
  pub call : Call
  pub snapshot : Snapshot
  pub stores : List Stored

-- what a tool hears of an event to which it replies so
abbrev pub item_of : ℕ → ℕ → Call → Snapshot → Reply → Item
item_of seq thread call snapshot reply =
    record { seq = seq; thread = thread; call = call; snapshot = snapshot; stores = stores_of reply snapshot }
