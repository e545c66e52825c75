-- The names from the crates below in which commands are told, here in one place.
pub use Rattle.c_check.specs.{Checked.rule_fault_in, declared.fault.CheckFault.CheckFault}
pub use Rattle.c_syntax.specs.language.{Numbered.TreeView, Numbered.root_tree, Texts.HasSyntaxFault, Texts.Spells as IsTreeOf, Tree.Tree, Words.main_of}
pub use Rattle.c_tokens.specs.{declared.token.Spot.Spot, declared.token.Token.Token, declared.token.TokenFault.TokenFault, language.Ending.EndsIn, language.Pieces.Reads, language.Places.beginning}
pub use Rattle.history_file.specs.{Certificates.IsCertificate, Certificates.file_of, Certificates.run_of_file, Fields.fields_of as history_fields, Fields.spelling as history_spelling, declared.file.HistoryFile.HistoryFile}
pub use Rattle.history_file.specs.{declared.file.HistoryFile.HistoryFile as SeenFile, Fitting.FitsFile, Validity.IsHistoryFile, Validity.WritesHistory}
pub use Rattle.omp_codes.specs.declared.callbacks.TheConstants.{PROFILE_MASK}
pub use Rattle.omp_model.specs.{Cause.cause_of, Cause.threads_over, Gates.main_returned, Heard.heard, Heard.heard_of, Legal.Legal, Legal.after, Serial.Serial, State.Run, State.State, State.pending_at, declared.cause.Cause.Cause, declared.event.Callback.Callback, declared.event.Halt.Halt, declared.history.Entry.Entry}
pub use Rattle.omp_model.specs.Records.{lines_of, record_of, records_of}
pub use Rattle.ompt_calls.specs.{Item.Item, Line.line_text, Number.is_registered, declared.event.EventRecord.EventRecord}
pub use Rattle.ompt_words.specs.Answers.{AreReadAs, AreWrong, AskForText, HoldBoth, IsTextOrMemory, IsUsageOrMemory}
pub use Rattle.ompt_words.specs.declared.settings.ReadCommand.TheVariants.{Check, Migrate, Rerun, Show, Tasks}
pub use Rattle.ompt_words.specs.{Form.AskInForm, Form.InForm, Form.ReadInForm, Form.own_settings, declared.fault.WordsFault.WordsFault, declared.settings.Command.Command, declared.settings.Request.Request, declared.settings.Settings.Settings}
pub use Rattle.ompt_words.specs.declared.settings.{Command.TheVariants.Generate as Generating, Command.TheVariants.Record as Recording, Command.TheVariants.Run as Running, ReadCommand.ReadCommand}
pub use Rattle.run_edges.specs.Edges.{AppendsFront, ConsumesMore, Rose}
pub use Rattle.run_trace.specs.TraceOf.{FitsCause, status_of as status_of_cause, trace_of, trace_with}
pub use Rattle.tool_api.specs.Record.{IsUncalled, Record, StartedWith, StoresNothing, initialized}
pub use Rattle.tool_api.specs.{Handed.HandedFor, Handed.SameHanded, Registering.AreAlways, Registering.mask_of, declared.handed.Handed.Handed}
pub use Rattle.tool_profiled.specs.{Hearing.HasHeard, Hearing.HasStarted, Joining.ProfiledFor, Joining.SameProfiled}
pub use Rattle.tool_report.specs.{Counts.counts_of, KeeperRelation.KeeperFor, Order.AreKept, Order.AreShared, Profile.profile_of}
pub use Rattle.tool_report.specs.Generator.{generated, summary_of}
pub use Rattle.tool_tasks.specs.{Answering.HasReadNested, Text.IsForestText}
pub use Rattle.trace_check.specs.{Answering.HasChecked, Nested.Nested, declared.breach.Breach.Breach}
pub use Rattle.trace_copy.specs.Written.{line_of_end as line_of_mark}
pub use Rattle.trace_format.specs.{Fields.fields_of, Fields.spelling, Validity.IsTrace, Validity.Writes, declared.refusal.Refusal.Refusal, declared.trace.TheConstants.SEQ_LIMIT, declared.trace.Trace.Trace}
