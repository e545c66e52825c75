-- The names from the crates below in which runs are told, here in one place.
pub use Rattle.omp_model.specs.Legal.{Legal, after, after_from, back, back_from, entered, put_from}
pub use Rattle.omp_model.specs.Serial.{Serial, StoresNothing, first_enabled, inside_after, serial}
pub use Rattle.omp_model.specs.{Calls.call_of, Calls.callback_of, Cause.cause_of, Cause.none_pending, Heard.heard, Heard.heard_of}
pub use Rattle.omp_model.specs.{Gates.arrival, Snapshots.snap_of, Storing.event_reply, Storing.go_at, Turn.called, Turn.turn}
pub use Rattle.omp_model.specs.declared.{cause.Cause.Cause, event.Callback.Callback, event.Event.Event, event.Outcome.Outcome}
pub use Rattle.omp_model.specs.declared.{history.Entry.Entry, limits.TheConstants.TURN_LIMIT}
pub use Rattle.omp_model.specs.State.{Run, State, first, pending_at}
pub use Rattle.ompt_calls.specs.{Item.Item, Item.item_of, Number.is_registered, Snapshot.Stored, Snapshot.stores_of}
pub use Rattle.ompt_calls.specs.declared.{call.Call.Call, reply.Reply.Reply, snapshot.Snapshot.Snapshot}
pub use Rattle.step_book.specs.{BookView.BookView, BookView.state_of, BookView.with_entries, Owing.NotBy, Owing.Owes, Rule.entries_of}
pub use Rattle.step_book.specs.{Owing.OwesStep, Sharing.AddsHold, Sharing.KeepsStep, Sharing.PassView, Sharing.book_after, Visit.turn_visit}
pub use Rattle.step_book.specs.declared.{closed.Closed.Closed, step.Step.Step, step.Step.TheVariants.Told}
pub use Rattle.tool_api.specs.{Record.Record, Record.initialized, Record.one_unheard, Record.told}
pub use Rattle.tool_api.specs.Registering.{AreAlways, mask_of}
