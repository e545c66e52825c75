-- What a new part stands for.
use Rattle.std.proofs.Common.{◌≡◌, List, [], sym, ap, map}
use Rattle.std.proofs.lemmas.List.Elements.{All-nil}
use Rattle.omp_model.specs.Records.{record_of}
use Rattle.ompt_calls.specs.declared.event.EventRecord.{EventRecord}
use Rattle.tool_api.specs.Record.{Record, IsUncalled}
use Rattle.tool_report.specs.KeeperRelation.{KeeperFor}

-- one that keeps what is kept of no calls, as `new` ensures of each part, stands for a record in which nothing was called
pub new_stands : {A : Type 0} (keep : List EventRecord → A) (h : Record) → IsUncalled h → h.within ≡ [] → KeeperFor keep (keep []) h
new_stands keep h uncalled alone = record {
  started = rw (uncalled.started) (All-nil _);
  silent = rw (uncalled.calls) (All-nil _);
  events = sym (ap (λ calls. keep (map record_of calls)) (uncalled.calls));
  alone = alone;
}
