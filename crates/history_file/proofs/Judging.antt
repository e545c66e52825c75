-- What a rerun has come to says whether the file is a certificate, and how many of its first entries are legal together.
use Rattle.std.proofs.Common.{◌≡◌, ℕ, ℤ, pos, negsuc, zero, suc, Bool, if◌then◌else◌, ◌+◌, ◌-◌, ◌≤◌, true, false, List, [], ◌∷◌, ◌++◌, length, take, map, replicate, Option, Some, None, slice_index_or, refl, sym, ap, subst, ◌∙◌, append-nil, length-append, inl, inr, arith}
use Rattle.std.specs.Prelude.{filter}
use Rattle.std.proofs.Math.Seq.{take-append-add, take-append_seam}
use Rattle.std.proofs.lemmas.Bool.{cases_lt, true≢false}
use Rattle.omp_model.specs.declared.cause.Cause.TheVariants as cause
use Rattle.omp_model.specs.declared.event.Callback.{Callback}
use Rattle.omp_model.specs.declared.event.Halt.{Halt}
use Rattle.omp_model.specs.declared.event.Halt.TheVariants.{Limit, Trap}
use Rattle.omp_model.specs.declared.history.Entry.{Entry}
use Rattle.omp_model.specs.Cause.{cause_by_halt, cause_in, cause_of_whole, is_stuck, whole_value}
use Rattle.omp_model.specs.Heard.{heard}
use Rattle.omp_model.specs.Legal.{Legal, may}
use Rattle.omp_model.specs.State.{Run, State, first}
use Rattle.omp_model.proofs.MadeRuns.{at-replicate}
use Rattle.history_file.specs.declared.file.HistoryFile.{HistoryFile}
use Rattle.history_file.specs.declared.verdict.HeardCall.{HeardCall}
use Rattle.history_file.specs.declared.waiting.Waiting.{Waiting}
use Rattle.history_file.specs.Certificates.{IsCertificate, IsLegalFront}
use Rattle.history_file.specs.RerunProgress.{EndsAs, HasCome, IsWaiting, is_kept}
use Rattle.history_file.specs.Verdicts.{heard_call}

-- before the first entry
pub at_first : (run : Run) (waiting : List (Option Waiting)) → run.threads ≤ length waiting → ((t : ℕ) → slice_index_or waiting t None ≡ None) → HasCome run [] (first run) waiting []
at_first run waiting room none = record {
  room = room;
  legal = λ rest allows. allows;
  back = λ rest legal. legal;
  reached = refl;
  inside = λ t.
      subst (λ (o : Option Waiting). IsWaiting run o (slice_index_or (replicate run.threads None) t None)) (sym (none t))
      (at-replicate (λ (o : Option Callback). IsWaiting run None o) run.threads t None tt);
  hears = λ rest. refl;
  early = tt;
}

module _ (run : Run) (done : List Entry) (S : State) (waiting : List (Option Waiting)) (calls : List HeardCall) (come : HasCome run done S waiting calls) where
  -- the entries so far are legal
  pub legal_so_far : Legal run done
  legal_so_far = subst (Legal run) (append-nil done) (come.legal [] tt)

  -- what is heard of them
  pub heard_so_far : filter (is_kept waiting []) calls ≡ map heard_call (heard run done)
  heard_so_far = sym (ap (λ (history : List Entry). map heard_call (heard run history)) (sym (append-nil done)) ∙ come.hears [] ∙ append-nil (filter (is_kept waiting []) calls))

  -- an entry that may not stand next
  never_on : (entry : Entry) (rest : List Entry) → may run S entry.thread entry.what ≡ false → Legal run (done ++ entry ∷ rest) → ⊥
  never_on entry rest refused legal = true≢false (sym (come.back (entry ∷ rest) legal).0 ∙ refused)

  never_past : (entry : Entry) (rest : List Entry) (more : ℕ) → may run S entry.thread entry.what ≡ false → Legal run (take (length done + suc more) (done ++ entry ∷ rest)) → ⊥
  never_past entry rest more refused legal = never_on entry (take more rest) refused (subst (Legal run) (take-append-add done (entry ∷ rest) (suc more)) legal)

  pub stopped : (file : HistoryFile) (entry : Entry) (rest : List Entry) → file.history ≡ done ++ entry ∷ rest → may run S entry.thread entry.what ≡ false
      → (IsCertificate run file → ⊥) × IsLegalFront run file.history (length done)
  stopped file entry rest whole refused = (
    λ certificate. never_on entry rest refused (subst (Legal run) whole certificate.legal),
    record {
      short = let long = ap (λ (history : List Entry). length history) whole in omega (arith, long, length-append done (entry ∷ rest));
      legal = subst (Legal run) (sym (ap (λ (history : List Entry). take (length done) history) whole ∙ take-append_seam done (entry ∷ rest))) legal_so_far;
      greatest = λ other short legal.
          elim (cases_lt (length done) other) [
            | inl more ↦
                let past : other ≡ length done + suc (other - length done - 1) = omega arith in
                let further : Legal run (take other (done ++ entry ∷ rest)) = subst (λ (history : List Entry). Legal run (take other history)) whole legal in
                absurd (never_past entry rest (other - length done - 1) refused (subst (λ (n : ℕ). Legal run (take n (done ++ entry ∷ rest))) past further))
            | inr no_more ↦ no_more
          ];
    },
  )

module _ (run : Run) (file : HistoryFile) (S : State) (waiting : List (Option Waiting)) (calls : List HeardCall) (come : HasCome run file.history S waiting calls) where
  pub certified : EndsAs run S file → IsCertificate run file
  certified ends = record {
    cause = ends.cause;
    legal = legal_so_far run file.history S waiting calls come;
    ends = ap (cause_in run) come.reached ∙ ends.ends;
    status_is = ends.status_is;
    detail_is = ends.detail_is;
  }

  pub not_certified : (EndsAs run S file → ⊥) → (IsCertificate run file → ⊥) × IsLegalFront run file.history (length file.history)
  not_certified other = (
    λ certificate.
        other (record {
          cause = certificate.cause;
          ends = ap (cause_in run) (sym come.reached) ∙ certificate.ends;
          status_is = certificate.status_is;
          detail_is = certificate.detail_is;
        }),
    record {
      short = omega arith;
      legal = subst (Legal run) (sym (take_whole file.history)) (legal_so_far run file.history S waiting calls come);
      greatest = λ other short legal. short;
    },
  )
    where
      take_whole : (history : List Entry) → take (length history) history ≡ history
      take_whole history = ap (λ (entries : List Entry). take (length history) entries) (sym (append-nil history)) ∙ take-append_seam history []

-- No run ends for want of memory, by what it has come to.

memory_by_whole : (run : Run) (S : State) (value : Option ℤ) → cause_of_whole run S value ≡ Some cause.Memory → ⊥
memory_by_whole run S (Some (pos zero)) is = cc
memory_by_whole run S (Some (pos (suc n))) is = cc
memory_by_whole run S (Some (negsuc n)) is = cc
memory_by_whole run S None is = by_stuck (is_stuck run S) is
  where
    by_stuck : (stuck : Bool) → (if stuck then Some cause.Deadlock else None) ≡ Some cause.Memory → ⊥
    by_stuck true same = cc
    by_stuck false same = cc

memory_by_halt : (run : Run) (S : State) (halt : Option Halt) → cause_by_halt run S halt ≡ Some cause.Memory → ⊥
memory_by_halt run S (Some (Trap number)) is = cc
memory_by_halt run S (Some (Limit number)) is = cc
memory_by_halt run S None is = memory_by_whole run S (whole_value S.world) is

pub never_memory : (run : Run) (S : State) → cause_in run S ≡ Some cause.Memory → ⊥
never_memory run S = memory_by_halt run S S.halt
