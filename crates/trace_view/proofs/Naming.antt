-- The text of a call is its name, and each argument, as it is named, with a space before it.
use Rattle.std.proofs.Common.{◌≡◌, ◌⊎◌, ℕ, List, [], ◌∷◌, ◌++◌, Option, None, inl, inr, map, refl, sym, ap, ap₂, ◌∙◌, append-nil, append_assoc}
use Rattle.std.specs.Prelude.{codes}
use Rattle.std.specs.Iterator.{Yields}
use Rattle.std.specs.Iterator.Adapters.{zip_first, zip_second}
use Rattle.std.specs.List.{flat_map}
use Rattle.std.specs.Slice.Iter.{iter_rest}
use Rattle.std.specs.declared.iter.Zip.{Zip}
use Rattle.std.specs.declared.slice.Iter.{Iter}
use Rattle.std.proofs.iter.Yields.{fronts}
use Rattle.std.proofs.lemmas.Iterator.{zips}
use Rattle.std.proofs.lemmas.Slice.Zip.{either_empty_from_Zip}
use denote.Ref.{Bor}
use Rattle.ompt_calls.specs.declared.argument.Argument.{Argument}
use Rattle.ompt_calls.specs.declared.call.Call.{Call}
use Rattle.ompt_calls.specs.declared.call.Call.TheVariants.{ThreadBegin, ThreadEnd, ParallelBegin, ParallelEnd, TaskCreate, TaskSchedule, ImplicitTask, SyncRegionWait, MutexReleased, Work, Masked, SyncRegion, LockInit, LockDestroy, MutexAcquire, MutexAcquired, Dispatch}
use Rattle.ompt_calls.specs.Arguments.{arguments_of}
use Rattle.ompt_calls.specs.Line.{spaced}
use Rattle.ompt_calls.specs.Number.{number_of}
use Rattle.trace_format.specs.declared.kind.Kind.{Kind}
use Rattle.trace_format.specs.Validity.{kinds_of}
use Rattle.trace_view.specs.NamedLines.{named_arguments}
use Rattle.trace_view.specs.Names.{state_text}
use Rattle.trace_view.specs.Naming.{each_named, named_argument, naming_of}

abbrev pub pair_text : Bor Kind × Bor Argument → List ℕ
pair_text pair = named_argument (naming_of pair.0.now) pair.1.now

abbrev pub spaced_pair : Bor Kind × Bor Argument → List ℕ
spaced_pair pair = codes " " ++ pair_text pair

-- parts with a space before each are spaced behind what stands in front
pub spaced_is : (name : List ℕ) (pairs : List (Bor Kind × Bor Argument))
    → name ++ flat_map spaced_pair pairs ≡ spaced (name ∷ map pair_text pairs)
spaced_is name [] = append-nil name
spaced_is name (pair ∷ rest) =
    ap (λ (text : List ℕ). name ++ text) (append_assoc (codes " ") (pair_text pair) (flat_map spaced_pair rest))
    ∙ sym (append_assoc name (codes " ") (pair_text pair ++ flat_map spaced_pair rest))
    ∙ ap (λ (text : List ℕ). (name ++ codes " ") ++ text) (spaced_is (pair_text pair) rest)

-- what the loop has gone over, and what it hasn't
gone : (pairs : List (Bor Kind × Bor Argument)) (from to : Zip (Iter Kind) (Iter Argument)) → Yields (zips fronts fronts) from pairs to
    → each_named (iter_rest (zip_first from)) (iter_rest (zip_second from))
    ≡ map pair_text pairs ++ each_named (iter_rest (zip_first to)) (iter_rest (zip_second to))
gone [] from to steps = ap (λ (at : Zip (Iter Kind) (Iter Argument)). each_named (iter_rest (zip_first at)) (iter_rest (zip_second at))) steps
gone (pair ∷ rest) from to steps =
    ap₂ each_named steps.1.0 steps.1.1 ∙ ap (λ (texts : List (List ℕ)). pair_text pair ∷ texts) (gone rest steps.0 to steps.2)

none_named : (namings : List Kind) → each_named namings [] ≡ []
none_named [] = refl
none_named (naming ∷ rest) = refl

ended : (namings : List Kind) (arguments : List Argument) → (namings ≡ []) ⊎ (arguments ≡ []) → each_named namings arguments ≡ []
ended namings arguments (inl is) = ap (λ (these : List Kind). each_named these arguments) is
ended namings arguments (inr is) = ap (each_named namings) is ∙ none_named namings

-- it goes over all that is named
pub all_gone : (namings : List Kind) (arguments : List Argument) (pairs : List (Bor Kind × Bor Argument))
    → (from to end : Zip (Iter Kind) (Iter Argument)) (next : Option (Bor Kind × Bor Argument))
    → iter_rest (zip_first from) ≡ namings → iter_rest (zip_second from) ≡ arguments
    → Yields (zips fronts fronts) from pairs to → next ≡ None → zips fronts fronts to next end
    → map pair_text pairs ≡ each_named namings arguments
all_gone namings arguments pairs from to end next first second steps is last =
    sym (append-nil (map pair_text pairs))
    ∙ (ap (λ (texts : List (List ℕ)). map pair_text pairs ++ texts) (sym (ended _ _ (either_empty_from_Zip to end next is last)))
    ∙ (sym (gone pairs from to steps) ∙ ap₂ each_named first second))

-- the names of a call's arguments go by their kinds
pub by_kinds : (call : Call) → each_named (kinds_of (number_of call)) (arguments_of call) ≡ named_arguments call
by_kinds (ThreadBegin kind thread) = refl
by_kinds (ThreadEnd thread) = refl
by_kinds (ParallelBegin task frame region requested flags codeptr) = refl
by_kinds (ParallelEnd region task flags codeptr) = refl
by_kinds (TaskCreate task frame fresh flags has_dependences codeptr) = refl
by_kinds (TaskSchedule prior status next) = refl
by_kinds (ImplicitTask endpoint region task actual index flags) = refl
by_kinds (SyncRegionWait kind endpoint region task codeptr) = refl
by_kinds (MutexReleased kind wait_id codeptr) = refl
by_kinds (Work kind endpoint region task count codeptr) = refl
by_kinds (Masked endpoint region task codeptr) = refl
by_kinds (SyncRegion kind endpoint region task codeptr) = refl
by_kinds (LockInit kind hint variant wait_id codeptr) = refl
by_kinds (LockDestroy kind wait_id codeptr) = refl
by_kinds (MutexAcquire kind hint variant wait_id codeptr) = refl
by_kinds (MutexAcquired kind wait_id codeptr) = refl
by_kinds (Dispatch region task kind start iterations) = refl

-- ---- the line of an event

joined : (a b c d s e : List ℕ) → a ++ (s ++ (b ++ (s ++ (c ++ (s ++ (d ++ e)))))) ≡ ((a ++ s) ++ ((b ++ s) ++ ((c ++ s) ++ d))) ++ e
joined a b c d s e = simp append_assoc

pub joined_line : (seq thread call : List ℕ) (told state : ℕ) → told ≡ state
    → seq ++ (codes " " ++ (thread ++ (codes " " ++ (state_text told ++ (codes " " ++ (call ++ 10 ∷ []))))))
    ≡ spaced (seq ∷ thread ∷ state_text state ∷ call ∷ []) ++ 10 ∷ []
joined_line seq thread call told state is =
    joined seq thread (state_text told) call (codes " ") (10 ∷ [])
    ∙ ap (λ (n : ℕ). spaced (seq ∷ thread ∷ state_text n ∷ call ∷ []) ++ 10 ∷ []) is
