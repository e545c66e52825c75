-- The fields of an event, by the bytes of those that were accepted. Only of a dispatch's iterations a test looks at an argument before them.
use Rattle.std.proofs.Common.{ℕ, zero, suc, ◌≡◌, ◌≤◌, ◌-◌, ◌==◌, ◌||◌, ◌⊎◌, inl, inr, Bool, cond, true, false, List, [], ◌∷◌, ◌++◌, length, drop, Option, Some, None, refl, ap, sym, ◌∙◌, length-append, slice_get, arith}
use Rattle.std.proofs.lemmas.Bool.{ne_eqb}
use Rattle.byteorder.specs.Endian.{big_number}
use Rattle.omp_codes.specs.declared.callbacks.TheConstants.{THREAD_BEGIN, THREAD_END, PARALLEL_BEGIN, PARALLEL_END, TASK_CREATE, TASK_SCHEDULE, IMPLICIT_TASK, SYNC_REGION_WAIT, MUTEX_RELEASED, WORK, MASKED, SYNC_REGION, LOCK_INIT, LOCK_DESTROY, MUTEX_ACQUIRE, MUTEX_ACQUIRED, DISPATCH}
use Rattle.trace_format.specs.declared.kind.Kind.{Kind}
use Rattle.trace_format.specs.declared.kind.Kind.TheVariants.{Short, Long, Place, Word, Frame, OfThread, Endpoint, OfSync, OfMutex, OfRelease, OfWork, OfDispatch, Iterations, Status, OfLock, Zero, ParallelFlags, TaskFlags, ImplicitFlags}
use Rattle.trace_format.specs.declared.trace.Header.{Header}
use Rattle.trace_format.specs.Accepting.{argument_next, event_next, kinds_of}
use Rattle.trace_format.specs.Flat.{argument_of, event_coming, option_in_code}
use Rattle.trace_format.specs.Reached.{AreAccepted, flat}
use Rattle.trace_format.specs.Taking.{Stage}
use Rattle.trace_format.proofs.HeaderPlaces.{read_field, width_at}
use Rattle.trace_format.proofs.RecordPlaces.{argument_at, argument_is, at_event, number_width}
use Rattle.trace_format.proofs.Widths.{chosen}

or_true : (a b : Bool) → b ≡ true → (a || b) ≡ true
or_true true b e = refl
or_true false b e = e

abbrev pub is_iterations : Kind → Bool
is_iterations Iterations = true
is_iterations other = false

abbrev pub has_iterations : List Kind → Bool
has_iterations [] = false
has_iterations (kind ∷ kinds) = is_iterations kind || has_iterations kinds

pub has_it : (kinds : List Kind) (i : ℕ) → slice_get kinds i ≡ Some Iterations → has_iterations kinds ≡ true
has_it [] i e = absurd (cc)
has_it (kind ∷ kinds) zero e =
    let f : kind ≡ Iterations = cc in
    rw f refl
has_it (kind ∷ kinds) (suc i) e = or_true (is_iterations kind) (has_iterations kinds) (has_it kinds i e)

abbrev pub dispatched : List Kind
dispatched = Word ∷ Word ∷ OfDispatch ∷ Long ∷ Iterations ∷ []

abbrev pub IsPlain : List Kind → Type 0
IsPlain kinds = (kinds ≡ dispatched) ⊎ (has_iterations kinds ≡ false)

-- the rows of the callbacks' arguments
pub record Row : Type 0 where
  pub test : ℕ → Bool
  pub kinds : List Kind

abbrev pub looked_up : List Row → ℕ → List Kind
looked_up [] number = []
looked_up (row ∷ rows) number = cond (row.test number) row.kinds (looked_up rows number)

abbrev pub all_rows : List Row
all_rows =
    record { test = λ n. n == THREAD_BEGIN; kinds = OfThread ∷ Word ∷ [] } ∷
    record { test = λ n. n == THREAD_END; kinds = Word ∷ [] } ∷
    record { test = λ n. n == PARALLEL_BEGIN; kinds = Word ∷ Frame ∷ Word ∷ Short ∷ ParallelFlags ∷ Place ∷ [] } ∷
    record { test = λ n. n == PARALLEL_END; kinds = Word ∷ Word ∷ ParallelFlags ∷ Place ∷ [] } ∷
    record { test = λ n. n == TASK_CREATE; kinds = Word ∷ Frame ∷ Word ∷ TaskFlags ∷ Zero ∷ Place ∷ [] } ∷
    record { test = λ n. n == TASK_SCHEDULE; kinds = Word ∷ Status ∷ Word ∷ [] } ∷
    record { test = λ n. n == IMPLICIT_TASK; kinds = Endpoint ∷ Word ∷ Word ∷ Short ∷ Short ∷ ImplicitFlags ∷ [] } ∷
    record { test = λ n. n == SYNC_REGION_WAIT || n == SYNC_REGION; kinds = OfSync ∷ Endpoint ∷ Word ∷ Word ∷ Place ∷ [] } ∷
    record { test = λ n. n == MUTEX_RELEASED; kinds = OfRelease ∷ Short ∷ Place ∷ [] } ∷
    record { test = λ n. n == WORK; kinds = OfWork ∷ Endpoint ∷ Word ∷ Word ∷ Long ∷ Place ∷ [] } ∷
    record { test = λ n. n == MASKED; kinds = Endpoint ∷ Word ∷ Word ∷ Place ∷ [] } ∷
    record { test = λ n. n == LOCK_INIT; kinds = OfLock ∷ Zero ∷ Zero ∷ Short ∷ Place ∷ [] } ∷
    record { test = λ n. n == LOCK_DESTROY; kinds = OfLock ∷ Short ∷ Place ∷ [] } ∷
    record { test = λ n. n == MUTEX_ACQUIRE; kinds = OfMutex ∷ Zero ∷ Zero ∷ Short ∷ Place ∷ [] } ∷
    record { test = λ n. n == MUTEX_ACQUIRED; kinds = OfMutex ∷ Short ∷ Place ∷ [] } ∷
    record { test = λ n. n == DISPATCH; kinds = dispatched } ∷
    []

abbrev pub ArePlain : List Row → Type 0
ArePlain [] = Unit {0}
ArePlain (row ∷ rows) = IsPlain row.kinds × ArePlain rows

plain_in : (rows : List Row) (number : ℕ) → ArePlain rows → IsPlain (looked_up rows number)
plain_in [] number all = inr refl
plain_in (row ∷ rows) number all = chosen IsPlain (row.test number) row.kinds (looked_up rows number) all.0 (plain_in rows number all.1)

pub plain : (number : ℕ) → IsPlain (kinds_of number)
plain number = plain_in all_rows number (inr refl, (inr refl, (inr refl, (inr refl, (inr refl, (inr refl, (inr refl, (inr refl, (inr refl, (inr refl, (inr refl, (inr refl, (inr refl, (inr refl, (inr refl, (inl refl, tt))))))))))))))))

fourth : (i : ℕ) → slice_get dispatched i ≡ Some Iterations → i ≡ 4
fourth zero e = absurd (cc)
fourth (suc zero) e = absurd (cc)
fourth (suc (suc zero)) e = absurd (cc)
fourth (suc (suc (suc zero))) e = absurd (cc)
fourth (suc (suc (suc (suc zero)))) e = refl
fourth (suc (suc (suc (suc (suc i))))) e = absurd (cc)

pub record IsDispatch (number i : ℕ) : Type 0 where
  pub kinds : kinds_of number ≡ dispatched
  pub place : i ≡ 4

pub is_dispatch : (number i : ℕ) → slice_get (kinds_of number) i ≡ Some Iterations → IsDispatch number i
is_dispatch number i e =
    elim (plain number) [
      | inl d ↦ record { kinds = d; place = fourth i (ap (λ (kinds : List Kind). slice_get kinds i) (sym d) ∙ e) }
      | inr f ↦ (let g : true ≡ false = sym (has_it (kinds_of number) i e) ∙ f in absurd (cc))
    ]

-- what is read of the argument that says what was dispatched
pub record Iterates (before : List (List ℕ)) (bytes : List ℕ) : Type 0 where
  pub first : List ℕ
  pub second : List ℕ
  pub third : List ℕ
  pub more : List (List ℕ)
  pub before_is : before ≡ first ∷ second ∷ third ∷ more
  pub reads : big_number 4 (drop 36 bytes) ≡ big_number 4 third

pub kind_test : (kind : Kind) (before : List (List ℕ)) (bytes : List ℕ) (place : ℕ) → (kind ≡ Iterations → Iterates before bytes) → argument_at before place (Some kind) ≡ option_in_code (argument_of place (Some kind) bytes)
kind_test Iterations before bytes place h =
    let i : Iterates before bytes = h refl in
    rw (i.before_is, i.reads) refl
kind_test Short before bytes place h = refl
kind_test Long before bytes place h = refl
kind_test Place before bytes place h = refl
kind_test Word before bytes place h = refl
kind_test Frame before bytes place h = refl
kind_test OfThread before bytes place h = refl
kind_test Endpoint before bytes place h = refl
kind_test OfSync before bytes place h = refl
kind_test OfMutex before bytes place h = refl
kind_test OfRelease before bytes place h = refl
kind_test OfWork before bytes place h = refl
kind_test OfDispatch before bytes place h = refl
kind_test Status before bytes place h = refl
kind_test OfLock before bytes place h = refl
kind_test Zero before bytes place h = refl
kind_test ParallelFlags before bytes place h = refl
kind_test TaskFlags before bytes place h = refl
kind_test ImplicitFlags before bytes place h = refl

pub option_test : (o : Option Kind) (before : List (List ℕ)) (bytes : List ℕ) (place : ℕ) → (o ≡ Some Iterations → Iterates before bytes) → argument_at before place o ≡ option_in_code (argument_of place o bytes)
option_test None before bytes place h = refl
option_test (Some kind) before bytes place h = kind_test kind before bytes place (λ e. h (ap Some e))

-- the fields of an event
event_late : (least threads number n : ℕ) (bytes : List ℕ) → 5 ≤ n → event_coming least threads number n bytes ≡ argument_of n (slice_get (kinds_of number) (n - 5)) bytes
event_late least threads number n bytes h =
    let h1 : n ≡ 1 → ⊥ = λ e. omega arith in
    let h2 : n ≡ 2 → ⊥ = λ e. omega arith in
    let h3 : n ≡ 3 → ⊥ = λ e. omega arith in
    let h4 : n ≡ 4 → ⊥ = λ e. omega arith in
    rw (ne_eqb n 1 h1, ne_eqb n 2 h2, ne_eqb n 3 h3, ne_eqb n 4 h4) refl

pub iterates :
    (stage : Stage) (header : Header) (number q t s w : List ℕ) (args : List (List ℕ)) (rest : List ℕ) → stage.over ≡ false → stage.header ≡ Some header → (big_number 1 number == 0) ≡ false
    → AreAccepted stage [] (number ∷ q ∷ t ∷ s ∷ w ∷ args) → slice_get (kinds_of (big_number 1 number)) (length args) ≡ Some Iterations → Iterates args (flat (number ∷ q ∷ t ∷ s ∷ w ∷ args) ++ rest)
iterates stage header number q t s w [] rest goes some e acc is =
    let d : IsDispatch (big_number 1 number) 0 = is_dispatch (big_number 1 number) 0 is in
    absurd (omega (arith, d.place))
iterates stage header number q t s w (r ∷ []) rest goes some e acc is =
    let d : IsDispatch (big_number 1 number) 1 = is_dispatch (big_number 1 number) 1 is in
    absurd (omega (arith, d.place))
iterates stage header number q t s w (r ∷ u ∷ []) rest goes some e acc is =
    let d : IsDispatch (big_number 1 number) 2 = is_dispatch (big_number 1 number) 2 is in
    absurd (omega (arith, d.place))
iterates stage header number q t s w (r ∷ u ∷ k ∷ more) rest goes some e acc is =
    let d : IsDispatch (big_number 1 number) (length (r ∷ u ∷ k ∷ more)) = is_dispatch (big_number 1 number) (length (r ∷ u ∷ k ∷ more)) is in
    let arg = λ (xs : List (List ℕ)). at_event stage header number (q ∷ t ∷ s ∷ w ∷ xs) goes some e ∙ ap (λ (kinds : List Kind). argument_next [] kinds xs) d.kinds in
    let w0 : length number ≡ 1 = number_width stage header number goes some acc.0 in
    let w1 : length q ≡ 4 = width_at stage (number ∷ []) q _ acc.1.0 (at_event stage header number [] goes some e) in
    let w2 : length t ≡ 1 = width_at stage (number ∷ q ∷ []) t _ acc.1.1.0 (at_event stage header number (q ∷ []) goes some e) in
    let w3 : length s ≡ 2 = width_at stage (number ∷ q ∷ t ∷ []) s _ acc.1.1.1.0 (at_event stage header number (q ∷ t ∷ []) goes some e) in
    let w4 : length w ≡ 4 = width_at stage (number ∷ q ∷ t ∷ s ∷ []) w _ acc.1.1.1.1.0 (at_event stage header number (q ∷ t ∷ s ∷ []) goes some e) in
    let v0 : length r ≡ 12 = width_at stage (number ∷ q ∷ t ∷ s ∷ w ∷ []) r _ acc.1.1.1.1.1.0 (arg []) in
    let v1 : length u ≡ 12 = width_at stage (number ∷ q ∷ t ∷ s ∷ w ∷ r ∷ []) u _ acc.1.1.1.1.1.1.0 (arg (r ∷ [])) in
    let v2 : length k ≡ 4 = width_at stage (number ∷ q ∷ t ∷ s ∷ w ∷ r ∷ u ∷ []) k _ acc.1.1.1.1.1.1.1.0 (arg (r ∷ u ∷ [])) in
    let l : 36 ≡ length (flat (number ∷ q ∷ t ∷ s ∷ w ∷ r ∷ u ∷ [])) = omega (arith, length-append number (q ++ (t ++ (s ++ (w ++ (r ++ (u ++ [])))))), length-append q (t ++ (s ++ (w ++ (r ++ (u ++ []))))), length-append t (s ++ (w ++ (r ++ (u ++ [])))), length-append s (w ++ (r ++ (u ++ []))), length-append w (r ++ (u ++ [])), length-append r (u ++ []), length-append u []) in
    record { first = r; second = u; third = k; more = more; before_is = refl; reads = read_field 4 (number ∷ q ∷ t ∷ s ∷ w ∷ r ∷ u ∷ []) k more rest 36 l (omega (arith, v2)) }

pub event_comes :
    (stage : Stage) (header : Header) (number : List ℕ) (fields : List (List ℕ)) (rest : List ℕ) → stage.over ≡ false → stage.header ≡ Some header → (big_number 1 number == 0) ≡ false → AreAccepted stage [] (number ∷ fields)
    → event_next header stage (big_number 1 number) fields ≡ option_in_code (event_coming stage.least header.threads (big_number 1 number) (length (number ∷ fields)) (flat (number ∷ fields) ++ rest))
event_comes stage header number [] rest goes some e acc = refl
event_comes stage header number (q ∷ []) rest goes some e acc = refl
event_comes stage header number (q ∷ t ∷ []) rest goes some e acc = refl
event_comes stage header number (q ∷ t ∷ s ∷ []) rest goes some e acc = refl
event_comes stage header number (q ∷ t ∷ s ∷ w ∷ args) rest goes some e acc =
    let n : length (number ∷ q ∷ t ∷ s ∷ w ∷ args) - 5 ≡ length args = omega arith in
    argument_is [] (kinds_of (big_number 1 number)) args (length (number ∷ q ∷ t ∷ s ∷ w ∷ args)) (omega arith)
    ∙ option_test (slice_get (kinds_of (big_number 1 number)) (length args)) args (flat (number ∷ q ∷ t ∷ s ∷ w ∷ args) ++ rest) (length (number ∷ q ∷ t ∷ s ∷ w ∷ args))
    (iterates stage header number q t s w args rest goes some e acc)
    ∙ ap (λ (i : ℕ). option_in_code (argument_of (length (number ∷ q ∷ t ∷ s ∷ w ∷ args)) (slice_get (kinds_of (big_number 1 number)) i) (flat (number ∷ q ∷ t ∷ s ∷ w ∷ args) ++ rest))) (sym n)
    ∙ sym (ap option_in_code (event_late stage.least header.threads (big_number 1 number) (length (number ∷ q ∷ t ∷ s ∷ w ∷ args)) (flat (number ∷ q ∷ t ∷ s ∷ w ∷ args) ++ rest) (omega arith)))
