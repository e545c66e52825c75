-- The arguments of each callback are of the kinds of its number, and arguments of these kinds are those of a callback.
use Rattle.std.proofs.Common.{ℕ, ◌≡◌, ◌≢◌, ◌^◌, ◌==◌, List, [], ◌∷◌, inl, inr, refl, sym, ◌∙◌, arith}
use Rattle.std.proofs.lemmas.Bool.{eqb-true, or_cases}
use Rattle.byteorder.specs.Endian.{big_number}
use Rattle.ompt_calls.specs.declared.argument.Argument.{Argument}
use Rattle.ompt_calls.specs.declared.call.Call.{Call}
use Rattle.ompt_calls.specs.declared.call.Call.TheVariants.{ThreadBegin, ThreadEnd, ParallelBegin, ParallelEnd, TaskCreate, TaskSchedule, ImplicitTask, SyncRegionWait, MutexReleased, Work, Masked, SyncRegion, LockInit, LockDestroy, MutexAcquire, MutexAcquired, Dispatch}
use Rattle.ompt_calls.specs.Arguments.{arguments_of}
use Rattle.ompt_calls.specs.Number.{number_of}
use Rattle.trace_format.specs.Accepting.{kinds_of}
use Rattle.trace_format.specs.Fields.{short}
use Rattle.trace_format.specs.Validity.{IsAmong, IsCall, dispatch_kinds, is_among}
use Rattle.trace_format.proofs.ArgumentLists.{AreValues}
use Rattle.trace_format.proofs.Shapes.{OfEach}
use Rattle.trace_format.proofs.Spelling.{reads}
use Rattle.trace_format.proofs.Values.{among_below}

not_three : (kind : ℕ) → IsAmong dispatch_kinds kind → kind ≢ 2 → kind ≡ 3
not_three kind among other = elim (or_cases (kind == 2) (is_among (3 ∷ []) kind) among) [
  | inl two ↦ absurd (other (eqb-true kind 2 two))
  | inr rest ↦ elim (or_cases (kind == 3) (is_among [] kind) rest) [ inl three ↦ eqb-true kind 3 three | inr none ↦ absurd cc ]
]

kind_read : (kind : ℕ) → IsAmong dispatch_kinds kind → big_number 4 (short kind) ≡ kind
kind_read kind among = reads 4 kind (among_below dispatch_kinds kind (2 ^ 32) refl among)

-- a callback's values have the kinds of its number
pub call_values : (call : Call) → IsCall call → AreValues [] (kinds_of (number_of call)) (arguments_of call)
call_values (ThreadBegin kind thread) is = (is.0, (is.1, tt))
call_values (ThreadEnd thread) is = (is, tt)
call_values (ParallelBegin task frame region requested flags codeptr) is = (is.0, (is.1, (is.2, (is.3, (is.4, (is.5, tt))))))
call_values (ParallelEnd region task flags codeptr) is = (is.0, (is.1, (is.2, (is.3, tt))))
call_values (TaskCreate task frame fresh flags has_dependences codeptr) is = (is.0, (is.1, (is.2, (is.3, (is.4, (is.5, tt))))))
call_values (TaskSchedule prior status next) is = (is.0, (is.1, (is.2, tt)))
call_values (ImplicitTask endpoint region task actual index flags) is = (is.0, (is.1, (is.2, (is.3, (is.4, (is.5, tt))))))
call_values (SyncRegionWait kind endpoint region task codeptr) is = (is.0, (is.1, (is.2, (is.3, (is.4, tt)))))
call_values (MutexReleased kind wait_id codeptr) is = (is.0, (is.1, (is.2, tt)))
call_values (Work kind endpoint region task count codeptr) is = (is.0, (is.1, (is.2, (is.3, (is.4, (is.5, tt))))))
call_values (Masked endpoint region task codeptr) is = (is.0, (is.1, (is.2, (is.3, tt))))
call_values (SyncRegion kind endpoint region task codeptr) is = (is.0, (is.1, (is.2, (is.3, (is.4, tt)))))
call_values (LockInit kind hint variant wait_id codeptr) is = (is.0, (is.1, (is.2, (is.3, (is.4, tt)))))
call_values (LockDestroy kind wait_id codeptr) is = (is.0, (is.1, (is.2, tt)))
call_values (MutexAcquire kind hint variant wait_id codeptr) is = (is.0, (is.1, (is.2, (is.3, (is.4, tt)))))
call_values (MutexAcquired kind wait_id codeptr) is = (is.0, (is.1, (is.2, tt)))
call_values (Dispatch region task kind start iterations) is =
    let read = kind_read kind is.3.0 in
    (is.0, (is.1, (is.3.0, (is.2, ((λ two. is.3.1 (sym read ∙ two), λ other. is.3.2 (not_three kind is.3.0 (λ two. other (read ∙ two))), is.3.3), tt)))))

-- the callback that has these values
pub record IsCallOf (number : ℕ) (values : List Argument) : Type 0 where
  pub call : Call
  pub is_call : IsCall call
  pub number_is : number_of call ≡ number
  pub values_are : arguments_of call ≡ values

abbrev pub Row : ℕ → Type 0
Row number = OfEach [] (kinds_of number) (IsCallOf number)

pub row_1 : Row 1
row_1 kind a thread b = record { call = ThreadBegin kind thread; is_call = (a, b); number_is = refl; values_are = refl }

pub row_2 : Row 2
row_2 thread a = record { call = ThreadEnd thread; is_call = a; number_is = refl; values_are = refl }

pub row_3 : Row 3
row_3 task a frame b region c requested d flags e codeptr f =
    record { call = ParallelBegin task frame region requested flags codeptr; is_call = (a, b, c, d, e, f); number_is = refl; values_are = refl }

pub row_4 : Row 4
row_4 region a task b flags c codeptr d = record { call = ParallelEnd region task flags codeptr; is_call = (a, b, c, d); number_is = refl; values_are = refl }

pub row_5 : Row 5
row_5 task a frame b fresh c flags d dependences e codeptr f =
    record { call = TaskCreate task frame fresh flags dependences codeptr; is_call = (a, b, c, d, e, f); number_is = refl; values_are = refl }

pub row_6 : Row 6
row_6 prior a status b next c = record { call = TaskSchedule prior status next; is_call = (a, b, c); number_is = refl; values_are = refl }

pub row_7 : Row 7
row_7 endpoint a region b task c actual d index e flags f =
    record { call = ImplicitTask endpoint region task actual index flags; is_call = (a, b, c, d, e, f); number_is = refl; values_are = refl }

pub row_16 : Row 16
row_16 kind a endpoint b region c task d codeptr e =
    record { call = SyncRegionWait kind endpoint region task codeptr; is_call = (a, b, c, d, e); number_is = refl; values_are = refl }

pub row_17 : Row 17
row_17 kind a wait_id b codeptr c = record { call = MutexReleased kind wait_id codeptr; is_call = (a, b, c); number_is = refl; values_are = refl }

pub row_20 : Row 20
row_20 kind a endpoint b region c task d count e codeptr f =
    record { call = Work kind endpoint region task count codeptr; is_call = (a, b, c, d, e, f); number_is = refl; values_are = refl }

pub row_21 : Row 21
row_21 endpoint a region b task c codeptr d = record { call = Masked endpoint region task codeptr; is_call = (a, b, c, d); number_is = refl; values_are = refl }

pub row_23 : Row 23
row_23 kind a endpoint b region c task d codeptr e =
    record { call = SyncRegion kind endpoint region task codeptr; is_call = (a, b, c, d, e); number_is = refl; values_are = refl }

pub row_24 : Row 24
row_24 kind a hint b variant c wait_id d codeptr e =
    record { call = LockInit kind hint variant wait_id codeptr; is_call = (a, b, c, d, e); number_is = refl; values_are = refl }

pub row_25 : Row 25
row_25 kind a wait_id b codeptr c = record { call = LockDestroy kind wait_id codeptr; is_call = (a, b, c); number_is = refl; values_are = refl }

pub row_26 : Row 26
row_26 kind a hint b variant c wait_id d codeptr e =
    record { call = MutexAcquire kind hint variant wait_id codeptr; is_call = (a, b, c, d, e); number_is = refl; values_are = refl }

pub row_27 : Row 27
row_27 kind a wait_id b codeptr c = record { call = MutexAcquired kind wait_id codeptr; is_call = (a, b, c); number_is = refl; values_are = refl }

pub row_32 : Row 32
row_32 region a task b kind c start d iterations e =
    let read = kind_read kind c in
    record {
      call = Dispatch region task kind start iterations;
      is_call = (a, b, d, (c, λ two. e.0 (read ∙ two), λ three. e.1 (λ two. absurd (omega (arith, read))), e.2));
      number_is = refl;
      values_are = refl;
    }
