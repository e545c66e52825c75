-- What a rerun of a file says of it.
use Rattle.std.specs.Prelude.{◌≡◌, map}
use Rattle.ompt_calls.specs.Item.{Item}
use Rattle.omp_model.specs.Heard.{heard}
use Rattle.omp_model.specs.State.{Run}
use Rattle.history_file.specs.declared.file.HistoryFile.{HistoryFile}
use Rattle.history_file.specs.declared.verdict.HeardCall.{HeardCall}
use Rattle.history_file.specs.declared.verdict.Verdict.{Verdict}
use Rattle.history_file.specs.declared.verdict.Verdict.TheVariants as verdict
use Rattle.history_file.specs.Certificates.{IsCertificate, IsLegalFront}

-- what is kept of an item that is heard
abbrev pub heard_call : Item → HeardCall
heard_call item = record { seq = item.seq; thread = item.thread; call = item.call }

abbrev pub IsVerdict : Run → HistoryFile → Verdict → Type 0
IsVerdict run file (verdict.Legal calls) = IsCertificate run file × (calls ≡ map heard_call (heard run file.history))
IsVerdict run file (verdict.Illegal place) = (IsCertificate run file → ⊥) × IsLegalFront run file.history place
