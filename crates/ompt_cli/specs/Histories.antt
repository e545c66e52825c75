-- What is written of a run as a history file, and what a command that judges such a file has read and written, by how it ended.
use Rattle.std.specs.Prelude.{ℕ, ⊤, List, ◌++◌, length, Option, IfSome}
use Rattle.std.specs.{List.flat_map, Io.KnownBytes.Appends, Io.KnownBytes.Keeps}
use Rattle.history_file.specs.{declared.verdict.HeardCall.HeardCall, Certificates.IsLegalFront, Refusing.IsHistoryRefused}
use Rattle.ompt_cli.specs.Names.{AppendsFront, TreeView, lines_of, records_of, line_text, line_of_mark, HistoryFile, IsCertificate, file_of, run_of_file, WritesHistory}
use Rattle.ompt_cli.specs.declared.end.End.TheVariants.{HistoryRefused, Illegal, Memory, Read, ReadFault, Refused, WriteFault}
use Rattle.ompt_cli.specs.{Commands.run_of, Commands.text_in, declared.end.End.End, declared.report.Report.Report, Text.IsRefused, Text.Spells}

-- the history file of the run that is reported
abbrev pub file_of_report : {Table : Type 0} {Behind : Table → Type 0} → Report Table Behind → HistoryFile
file_of_report report = file_of (text_in report) (run_of report) report.cause report.history

-- a line for each call
abbrev pub lines_of_calls : List HeardCall → List ℕ
lines_of_calls calls = flat_map (λ (call : HeardCall). line_text call.seq call.thread call.call) calls

-- what is written of a file whose history is legal and ends as it says: a line for each call that was heard, and one for the end
abbrev pub heard_text : TreeView → HistoryFile → List ℕ
heard_text program file =
    lines_of (records_of (run_of_file program file) file.history) ++ line_of_mark
    (record { status = file.status; detail = file.detail; count = length file.history })

-- the source has left this file, whose text spells this program
pub record HasFile (left : Option (List ℕ)) (file : HistoryFile) (program : TreeView) : Type 0 where
  pub written : IfSome left (WritesHistory file)
  pub spelled : Spells file.text program

-- the file is a certificate
pub record IsCertified (left : Option (List ℕ)) (file : HistoryFile) (program : TreeView) : Type 0 where
  pub has : HasFile left file program
  pub certificate : IsCertificate (run_of_file program file) file

-- the file is none, and so many of its first entries are legal together, no more
pub record IsUncertified (left : Option (List ℕ)) (file : HistoryFile) (program : TreeView) (place : ℕ) : Type 0 where
  pub has : HasFile left file program
  pub no_certificate : IsCertificate (run_of_file program file) file → ⊥
  pub front : IsLegalFront (run_of_file program file) file.history place

-- Over what the source has left before and what the output holds before and after: the file is a certificate, and the calls that were
-- heard are written; or its history is illegal, its text is refused, or the bytes are no file, and nothing is written.
abbrev pub HasRerun : End → (left held after : Option (List ℕ)) → Type 0
HasRerun Read left held after = (file : HistoryFile) × (program : TreeView) × IsCertified left file program ×
    Appends held after (heard_text program file)
HasRerun WriteFault left held after = (file : HistoryFile) × (program : TreeView) × IsCertified left file program ×
    AppendsFront held after (heard_text program file)
HasRerun (Illegal place) left held after = (file : HistoryFile) × (program : TreeView) × IsUncertified left file program place ×
    Keeps held after
HasRerun (Refused why) left held after = (file : HistoryFile) × IfSome left (WritesHistory file) × IsRefused why file.text ×
    Keeps held after
HasRerun (HistoryRefused reason offset) left held after = IfSome left (λ bytes. IsHistoryRefused bytes reason offset) × Keeps held after
HasRerun ReadFault left held after = Keeps held after
HasRerun Memory left held after = Keeps held after
HasRerun other left held after = ⊥

-- why no history file was read where the source has left this: the bytes are none, or a read or memory failed
abbrev pub IsUnreadFile : Option (List ℕ) → End → Type 0
IsUnreadFile left (HistoryRefused reason offset) = IfSome left (λ bytes. IsHistoryRefused bytes reason offset)
IsUnreadFile left ReadFault = ⊤
IsUnreadFile left Memory = ⊤
IsUnreadFile left other = ⊥

-- the text of the file spells a program, and the file is a certificate of it
abbrev pub Certifies : HistoryFile → Type 0
Certifies file = (program : TreeView) × Spells file.text program × IsCertificate (run_of_file program file) file

-- what may be said of a certificate: that it is one, unless a read, a write or memory fails
abbrev pub MayCertify : End → Type 0
MayCertify Read = ⊤
MayCertify ReadFault = ⊤
MayCertify WriteFault = ⊤
MayCertify Memory = ⊤
MayCertify other = ⊥
