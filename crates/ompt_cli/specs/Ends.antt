-- The status and the line of each end of a command.
use Rattle.std.specs.Prelude.{ℕ, ◌⊎◌, ◌↔◌, ◌<◌, if◌then◌else◌, ◌==◌, ◌≡◌, List, [], ◌∷◌, ◌++◌, codes, Option}
use Rattle.std.specs.{Io.KnownBytes.Appends, Fmt.decimal, Fmt.signed_decimal}
use Rattle.omp_model.specs.declared.cause.Cause.TheVariants as cause
use Rattle.c_tokens.specs.language.Faults.{nowhere, fault_number as token_number, fault_spot as token_spot}
use Rattle.c_syntax.specs.language.Faults.{fault_number as syntax_number, fault_spot as syntax_spot}
use Rattle.c_check.specs.Faults.{fault_number as rule_number, fault_spot as rule_spot}
use Rattle.trace_format.specs.Refusing.{number_of_reason}
use Rattle.history_file.specs.Refusing.{number_of_reason as number_of_history_reason}
use Rattle.ompt_cli.specs.declared.end.End.TheVariants.{Ended, Shown, Read, TraceRefused, HistoryRefused, Broken, Illegal, Usage, Refused, ReadFault, WriteFault, Memory}
use Rattle.ompt_cli.specs.{Names.Rose, Names.AppendsFront, Names.Cause, Names.status_of_cause, Names.Spot, declared.end.Refusal.TheVariants.Tokens, declared.end.Refusal.TheVariants.Syntax}
use Rattle.ompt_cli.specs.{declared.end.Refusal.TheVariants.Rule, declared.end.Refusal.TheVariants.TooLong, declared.end.Refusal.Refusal, declared.end.End.End}

abbrev pub status_of : End → ℕ
status_of (Ended why) = status_of_cause why
status_of Shown = 0
status_of Read = 0
status_of Usage = 2
status_of (Refused why) = 3
status_of (TraceRefused refusal) = 7
status_of (HistoryRefused reason offset) = 7
status_of (Broken breach) = 7
status_of (Illegal place) = 7
status_of ReadFault = 8
status_of WriteFault = 9
status_of Memory = 10

-- the line on standard error that tells a refusal with this number at this place, without its newline
abbrev pub refusal_at : ℕ → Spot → List ℕ
refusal_at number spot = codes "refused " ++ decimal number ++ codes " at " ++ decimal spot.line ++ codes ":" ++ decimal spot.column

-- a refusal of the whole text has the place 0:0
abbrev pub refusal_text : Refusal → List ℕ
refusal_text (Tokens found) = refusal_at (token_number found) (token_spot found)
refusal_text (Syntax found) = refusal_at (syntax_number found) (syntax_spot found)
refusal_text (Rule found) = refusal_at (rule_number found) (rule_spot found)
refusal_text TooLong = refusal_at 15 nowhere

-- the names of the limits, which have the numbers 1 to 7
abbrev pub limit_text : ℕ → List ℕ
limit_text number =
    if number == 1 then codes "limit steps" else if number == 2 then codes "limit turns" else if number == 3 then codes "limit cells"
    else if number == 4 then codes "limit tasks" else if number == 5 then codes "limit stack" else if number == 6 then codes "limit depth"
    else codes "limit text"

-- the line on standard error that tells the cause in which a run ended
abbrev pub line_of_cause : Cause → List ℕ
line_of_cause cause.Done = []
line_of_cause (cause.Returned value) = codes "returned " ++ signed_decimal value ++ 10 ∷ []
line_of_cause (cause.Trapped number) = codes "trapped " ++ decimal number ++ 10 ∷ []
line_of_cause cause.Deadlock = codes "deadlock" ++ 10 ∷ []
line_of_cause (cause.Limit number) = limit_text number ++ 10 ∷ []
line_of_cause cause.Memory = codes "memory" ++ 10 ∷ []

-- the line on standard error that tells a number at a place
abbrev pub line_at : List ℕ → ℕ → ℕ → List ℕ
line_at text number place = (text ++ decimal number ++ codes " at " ++ decimal place) ++ 10 ∷ []

-- the line on standard error, which is empty at status 0
abbrev pub line_of_end : End → List ℕ
line_of_end (Ended why) = line_of_cause why
line_of_end Shown = []
line_of_end Read = []
line_of_end Usage = codes "usage: ompt run, list, record, profile, timeline, show, check, gen, migrate, rerun or tasks" ++ 10 ∷ []
line_of_end (Refused why) = refusal_text why ++ 10 ∷ []
line_of_end (TraceRefused refusal) = line_at (codes "trace refused ") (number_of_reason refusal.reason) refusal.offset
line_of_end (HistoryRefused reason offset) = line_at (codes "history refused ") (number_of_history_reason reason) offset
line_of_end (Broken breach) = line_at (codes "breach ") breach.rule breach.seq
line_of_end (Illegal place) = (codes "illegal at " ++ decimal place) ++ 10 ∷ []
line_of_end ReadFault = codes "read fault" ++ 10 ∷ []
line_of_end WriteFault = codes "write fault" ++ 10 ∷ []
line_of_end Memory = codes "memory" ++ 10 ∷ []

-- the end has status 0, and no line: the run is whole and main returned 0, or a text was shown, or a trace or a certificate was read
abbrev pub IsQuiet : End → Type 0
IsQuiet end = (end ≡ Ended cause.Done) ⊎ ((end ≡ Shown) ⊎ (end ≡ Read))

-- the status where the line of an end was lost: a write fault, but want of memory stays
abbrev pub status_of_lost : End → ℕ
status_of_lost Memory = 10
status_of_lost other = 9

-- The line of an end was told whole, and the status is the end's.
pub record IsTold (status : ℕ) (end : End) (old new : Option (List ℕ)) : Type 0 where
  pub status_is : status ≡ status_of end
  pub line : Appends old new (line_of_end end)

-- a write of the line failed: a part of it was told
pub record IsLost (status : ℕ) (end : End) (old new : Option (List ℕ)) (before now : ℕ) : Type 0 where
  pub status_is : status ≡ status_of_lost end
  pub counted : Rose before now
  pub part : AppendsFront old new (line_of_end end)

-- The line of the end is told and the status is the end's, unless a write of the line failed. At status 0 there is no line, and nothing
-- is touched. Over what a sink for lines holds, and its count of faults.
pub record TellsEnd {E : Type 0} (held : E → Option (List ℕ)) (faults : E → ℕ) (status : ℕ) (end : End) (old new : E) : Type 0 where
  pub told : IsTold status end (held old) (held new) ⊎ IsLost status end (held old) (held new) (faults old) (faults new)
  pub zero : (status ≡ 0) ↔ IsQuiet end
  pub silent : IsQuiet end → new ≡ old
  pub untold : faults old < faults new → status ≡ status_of_lost end
