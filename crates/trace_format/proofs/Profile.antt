-- The callbacks of the profile, by their numbers: what holds of each of them, and how a callback is read again from its arguments.
use Rattle.std.proofs.Common.{ℕ, zero, suc, ◌≡◌, ◌≢◌, ◌≤◌, ◌==◌, ◌||◌, true, List, [], ◌∷◌, map, inl, inr, refl, sym, ap, ◌∙◌, subst, arith}
use Rattle.std.proofs.lemmas.Bool.{agree_below_at, and_parts, cases_lt, eqb-true, false_from_ne_true, leb-true, or_cases}
use Rattle.std.proofs.lemmas.Nat.Bits.{bit_at_above}
use Rattle.std.specs.Prelude.{nat_le}
use Rattle.omp_codes.specs.Answers.{in_profile, within}
use Rattle.omp_codes.specs.declared.callbacks.TheConstants.{PROFILE_MASK}
use Rattle.ompt_calls.specs.declared.argument.Argument.{Argument}
use Rattle.ompt_calls.specs.declared.argument.Argument.TheVariants as argument
use Rattle.ompt_calls.specs.declared.call.Word.{Word}
use Rattle.ompt_calls.specs.declared.call.Frame.{Frame}
use Rattle.ompt_calls.specs.declared.call.Call.{Call}
use Rattle.ompt_calls.specs.declared.call.Call.TheVariants.{ThreadBegin, ThreadEnd, ParallelBegin, ParallelEnd, TaskCreate, TaskSchedule, ImplicitTask, SyncRegionWait, MutexReleased, Work, Masked, SyncRegion, LockInit, LockDestroy, MutexAcquire, MutexAcquired, Dispatch}
use Rattle.ompt_calls.specs.Arguments.{arguments_of}
use Rattle.ompt_calls.specs.Number.{is_registered, number_of}
use Rattle.trace_format.specs.Accepting.{kinds_of}
use Rattle.trace_format.specs.Decoding.{made_from}
use Rattle.trace_format.specs.Fields.{arguments, spell}
use Rattle.trace_format.specs.Reached.{flat}
use Rattle.trace_format.specs.Validity.{IsCall, is_among}
use Rattle.trace_format.proofs.Decoded.{call_in}
use Rattle.trace_format.proofs.ArgumentLists.{AreArguments, AreValues, spelt_values, values_from}
use Rattle.trace_format.proofs.Calls.{IsCallOf, Row, call_values, row_1, row_16, row_17, row_2, row_20, row_21, row_23, row_24, row_25, row_26, row_27, row_3, row_32, row_4, row_5, row_6, row_7}
use Rattle.trace_format.proofs.Shapes.{made_again, of_all}

-- the numbers of the profile
abbrev pub numbers : List ℕ
numbers = 1 ∷ 2 ∷ 3 ∷ 4 ∷ 5 ∷ 6 ∷ 7 ∷ 16 ∷ 17 ∷ 20 ∷ 21 ∷ 23 ∷ 24 ∷ 25 ∷ 26 ∷ 27 ∷ 32 ∷ []

abbrev pub EachOf : (ℕ → Type 0) → List ℕ → Type 0
EachOf P [] = Unit {0}
EachOf P (x ∷ rest) = P x × EachOf P rest

pub each_among : (P : ℕ → Type 0) (list : List ℕ) → EachOf P list → (n : ℕ) → is_among list n ≡ true → P n
each_among P [] each n among = absurd cc
each_among P (x ∷ rest) each n among = elim (or_cases (n == x) (is_among rest n) among) [
  | inl here ↦ subst P (sym (eqb-true n x here)) each.0
  | inr later ↦ each_among P rest each.1 n later
]

up_to : (first last n : ℕ) → within first last n ≡ true → n ≤ last
up_to first last n inside = leb-true n last (and_parts (nat_le first n) (nat_le n last) inside).1

pub profile_small : (n : ℕ) → in_profile n ≡ true → n ≤ 32
profile_small n inside = elim (or_cases (within 1 7 n || within 16 17 n || within 20 21 n || within 23 27 n) (within 32 32 n) inside) [
  | inr at ↦ up_to 32 32 n at
  | inl a ↦ elim (or_cases (within 1 7 n || within 16 17 n || within 20 21 n) (within 23 27 n) a) [
    | inr at ↦ let h = up_to 23 27 n at in omega arith
    | inl b ↦ elim (or_cases (within 1 7 n || within 16 17 n) (within 20 21 n) b) [
      | inr at ↦ let h = up_to 20 21 n at in omega arith
      | inl c ↦ elim (or_cases (within 1 7 n) (within 16 17 n) c) [
        | inr at ↦ let h = up_to 16 17 n at in omega arith
        | inl at ↦ let h = up_to 1 7 n at in omega arith
      ]
    ]
  ]
]

among_numbers : (n : ℕ) → in_profile n ≡ true → is_among numbers n ≡ true
among_numbers n inside =
    let small = profile_small n inside in
    sym (agree_below_at in_profile (is_among numbers) 33 n refl (omega arith)) ∙ inside

-- no number of the profile is none of these
abbrev pub IsNone : List ℕ → ℕ → Type 0
IsNone [] n = Unit {0}
IsNone (x ∷ rest) n = (n ≢ x) × IsNone rest n

pub none_among : (list : List ℕ) (n : ℕ) → is_among list n ≡ true → IsNone list n → ⊥
none_among [] n among none = cc
none_among (x ∷ rest) n among none = elim (or_cases (n == x) (is_among rest n) among) [
  | inl here ↦ none.0 (eqb-true n x here)
  | inr later ↦ none_among rest n later none.1
]

pub none_other : (n : ℕ) → in_profile n ≡ true → IsNone numbers n → ⊥
none_other n inside none = none_among numbers n (among_numbers n inside) none

-- a number that has values of its kinds is that of a callback with these values
pub call_of : (number : ℕ) → in_profile number ≡ true → (values : List Argument) → AreValues [] (kinds_of number) values → IsCallOf number values
call_of number inside values are =
    of_all [] (kinds_of number) (IsCallOf number)
    (each_among Row numbers
    (row_1, (row_2, (row_3, (row_4, (row_5, (row_6, (row_7, (row_16, (row_17, (row_20, (row_21, (row_23, (row_24, (row_25, (row_26, (row_27, (row_32, tt)))))))))))))))))
    number (among_numbers number inside))
    values are

pub in_its_profile : (call : Call) → in_profile (number_of call) ≡ true
in_its_profile (ThreadEnd thread) = refl
in_its_profile call = refl

-- the mask of the profile has its callbacks
pub profile_bits : (n : ℕ) → is_registered PROFILE_MASK n ≡ in_profile n
profile_bits n = elim (cases_lt n 64) [
  | inl small ↦ agree_below_at (is_registered PROFILE_MASK) in_profile 64 n refl small
  | inr large ↦
      let none = false_from_ne_true (in_profile n) (λ inside. let small = profile_small n inside in absurd (omega arith)) in
      let zero_bit = bit_at_above PROFILE_MASK 64 n (omega arith) large in
      rw (zero_bit, none) refl
]

-- a callback of the same number with these arguments. Where an argument is missing or of another shape, a 0 stands for it
abbrev argument_of : ℕ → List Argument → Argument
argument_of n [] = argument.Short 0
argument_of zero (first ∷ rest) = first
argument_of (suc n) (first ∷ rest) = argument_of n rest

abbrev short_in : Argument → ℕ
short_in (argument.Short n) = n
short_in other = 0

abbrev long_in : Argument → ℕ
long_in (argument.Long n) = n
long_in other = 0

abbrev word_in : Argument → Word
word_in (argument.Word word) = word
word_in other = record { identity = 0; value = 0 }

abbrev frame_in : Argument → Frame
frame_in (argument.Frame frame) = frame
frame_in other = record { exit = 0; enter = 0 }

module _ (args : List Argument) where
  abbrev short : ℕ → ℕ
  short n = short_in (argument_of n args)

  abbrev long : ℕ → ℕ
  long n = long_in (argument_of n args)

  abbrev word : ℕ → Word
  word n = word_in (argument_of n args)

  abbrev frame : ℕ → Frame
  frame n = frame_in (argument_of n args)

  abbrev with_arguments : Call → Call
  with_arguments (ThreadBegin _ _) = ThreadBegin (short 0) (word 1)
  with_arguments (ThreadEnd _) = ThreadEnd (word 0)
  with_arguments (ParallelBegin _ _ _ _ _ _) = ParallelBegin (word 0) (frame 1) (word 2) (short 3) (short 4) (long 5)
  with_arguments (ParallelEnd _ _ _ _) = ParallelEnd (word 0) (word 1) (short 2) (long 3)
  with_arguments (TaskCreate _ _ _ _ _ _) = TaskCreate (word 0) (frame 1) (word 2) (short 3) (short 4) (long 5)
  with_arguments (TaskSchedule _ _ _) = TaskSchedule (word 0) (short 1) (word 2)
  with_arguments (ImplicitTask _ _ _ _ _ _) = ImplicitTask (short 0) (word 1) (word 2) (short 3) (short 4) (short 5)
  with_arguments (SyncRegionWait _ _ _ _ _) = SyncRegionWait (short 0) (short 1) (word 2) (word 3) (long 4)
  with_arguments (MutexReleased _ _ _) = MutexReleased (short 0) (short 1) (long 2)
  with_arguments (Work _ _ _ _ _ _) = Work (short 0) (short 1) (word 2) (word 3) (long 4) (long 5)
  with_arguments (Masked _ _ _ _) = Masked (short 0) (word 1) (word 2) (long 3)
  with_arguments (SyncRegion _ _ _ _ _) = SyncRegion (short 0) (short 1) (word 2) (word 3) (long 4)
  with_arguments (LockInit _ _ _ _ _) = LockInit (short 0) (short 1) (short 2) (short 3) (long 4)
  with_arguments (LockDestroy _ _ _) = LockDestroy (short 0) (short 1) (long 2)
  with_arguments (MutexAcquire _ _ _ _ _) = MutexAcquire (short 0) (short 1) (short 2) (short 3) (long 4)
  with_arguments (MutexAcquired _ _ _) = MutexAcquired (short 0) (short 1) (long 2)
  with_arguments (Dispatch _ _ _ _ _) = Dispatch (word 0) (word 1) (short 2) (long 3) (long 4)

-- the callback that bytes with these values at their places are
pub call_at : (call : Call) (bytes : List ℕ) → made_from 0 (kinds_of (number_of call)) bytes ≡ arguments_of call → call_in (number_of call) bytes ≡ call
call_at (ThreadEnd thread) bytes e = ap (λ (args : List Argument). with_arguments args (ThreadEnd thread)) e
call_at call bytes e = ap (λ (args : List Argument). with_arguments args call) e

-- a callback is read again from its arguments
pub call_again : (call : Call) → IsCall call → call_in (number_of call) (flat (arguments call)) ≡ call
call_again call is =
    call_at call (flat (arguments call))
    (made_again [] (kinds_of (number_of call)) (arguments_of call) 0 (flat (arguments call)) (call_values call is) refl)

-- its arguments are accepted by their kinds
pub call_arguments : (call : Call) → IsCall call → AreArguments [] (kinds_of (number_of call)) (arguments call)
call_arguments call is = spelt_values [] (kinds_of (number_of call)) (arguments_of call) (call_values call is)

-- arguments of the kinds of a number are those of a callback
pub record HasArguments (number : ℕ) (args : List (List ℕ)) : Type 0 where
  pub call : Call
  pub is_call : IsCall call
  pub number_is : number_of call ≡ number
  pub arguments_are : arguments call ≡ args

pub call_from : (number : ℕ) (args : List (List ℕ)) → in_profile number ≡ true → AreArguments [] (kinds_of number) args → HasArguments number args
call_from number args inside are =
    let spelt = values_from [] (kinds_of number) args are in
    let found = call_of number inside spelt.values spelt.are_values in
    record {
      call = found.call;
      is_call = found.is_call;
      number_is = found.number_is;
      arguments_are = ap (λ (values : List Argument). map spell values) found.values_are ∙ spelt.spelt;
    }
