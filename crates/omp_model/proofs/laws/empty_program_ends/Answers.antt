use Rattle.std.proofs.Common.{◌≡◌, Some, sym, subst}
use Rattle.omp_model.specs.declared.cause.Cause.TheVariants as cause
use Rattle.omp_model.specs.Cause.{cause_of}
use Rattle.omp_model.specs.Empty.{empty_records, empty_run}
use Rattle.omp_model.specs.Records.{records_of}
use Rattle.omp_model.proofs.EmptyRuns.{ends, entries, records}
use Rattle.omp_model.proofs.laws.empty_program_ends.Goals as goal

pub returns-clause-entries : goal.returns-clause-entries
returns-clause-entries c = entries

pub returns-clause-records : goal.returns-clause-records
returns-clause-records c n low high = subst (λ history. records_of (empty_run n) history ≡ empty_records) (sym (entries n low high)) (records n low high)

pub returns-clause-cause : goal.returns-clause-cause
returns-clause-cause c n low high = subst (λ history. cause_of (empty_run n) history ≡ Some cause.Done) (sym (entries n low high)) (ends n low high)
