-- Stacks among frames.
use Rattle.std.proofs.Common.{◌≡◌, ◌≢◌, ℕ, zero, suc, ◌+◌, ◌<◌, ◌==◌, Bool, true, false, cond, List, [], ◌∷◌, ◌++◌, length, get_or, set, replicate, Some, refl, sym, ◌∙◌, ap, subst, inl, inr, arith}
use Rattle.std.specs.Prelude.{slice_get}
use Rattle.std.proofs.lemmas.Bool.{eqb-true}
use Rattle.std.proofs.lemmas.Bool.Decides.{leb_tells, nat_tests}
use Rattle.std.proofs.lemmas.List.{get_or-replicate, get_or-set_other, get_or-set_same, get_or_past, length-replicate}
use Rattle.ompt_calls.specs.declared.event.EventRecord.{EventRecord}
use Rattle.tool_tasks.specs.declared.stack_step.StackStep.TheVariants.{Push}
use Rattle.tool_tasks.specs.declared.stacks.StackFrame.{StackFrame}
use Rattle.tool_tasks.specs.declared.stacks.Stacks.{Stacks}
use Rattle.tool_tasks.specs.Charge.{stack_after, stack_step, tasks_on}
use Rattle.tool_tasks.specs.Holding.{HoldsStacks, IsStack}

-- ---- a list with one more element at its end

pub get-more : {A : Type 0} (xs ys : List A) (place : ℕ) (x : A) → slice_get xs place ≡ Some x → slice_get (xs ++ ys) place ≡ Some x
get-more [] ys place x is = absurd (cc)
get-more (y ∷ xs) ys zero x is = is
get-more (y ∷ xs) ys (suc place) x is = get-more xs ys place x is

pub get-last : {A : Type 0} (xs : List A) (x : A) → slice_get (xs ++ x ∷ []) (length xs) ≡ Some x
get-last [] x = refl
get-last (y ∷ xs) x = get-last xs x

pub get-other : {A : Type 0} (xs : List A) (x : A) (place : ℕ) → place ≢ length xs → slice_get (xs ++ x ∷ []) place ≡ slice_get xs place
get-other [] x zero other = absurd (other refl)
get-other [] x (suc place) other = refl
get-other (y ∷ xs) x zero other = refl
get-other (y ∷ xs) x (suc place) other = get-other xs x place (λ same. other (ap (λ (n : ℕ). suc n) same))

-- ---- stacks

-- none has a frame
abbrev none : ℕ
none = 0

pub zeros : (n t : ℕ) → get_or (replicate n none) t none ≡ none
zeros n t = elim (leb_tells n t) as (λ _. get_or (replicate n none) t none ≡ none) [
  | inl past ↦ (let is : length (replicate n none) ≡ n = length-replicate n none in get_or_past (replicate n none) t none (omega (arith, is, past.1)))
  | inr within ↦ get_or-replicate n t none none within.1
]

-- a new frame changes none
stays : (frames : List StackFrame) (frame : StackFrame) (top : ℕ) (tasks : List ℕ) → IsStack frames top tasks → IsStack (frames ++ frame ∷ []) top tasks
stays frames frame top [] is = is
stays frames frame top (task ∷ tasks) is =
    (is.0, is.1, is.2, get-more frames (frame ∷ []) is.0 (record { task = task; below = is.1 }) is.3, stays frames frame is.1 tasks is.4)

-- a thread goes to a task
pub pushed : (old new : Stacks) (past : List EventRecord) (event : EventRecord) (task : ℕ)
    → new.frames.items ≡ old.frames.items ++ (record { task = task; below = get_or old.tops event.thread 0 }) ∷ []
    → new.tops ≡ set old.tops event.thread (length old.frames.items + 1)
    → event.thread < length old.tops
    → stack_step event.call ≡ Push task → HoldsStacks old past → HoldsStacks new (event ∷ past)
pushed old new past event task frames tops within step holds = λ t. by-test t (event.thread == t) refl
  where
    -- as the frames and tops are
    over : (top top' : ℕ) (tasks : List ℕ) → top' ≡ top → IsStack (old.frames.items ++ (record { task = task; below = get_or old.tops event.thread 0 }) ∷ []) top tasks → IsStack new.frames.items top' tasks
    over top top' tasks same is = subst (λ (n : ℕ). IsStack new.frames.items n tasks) (sym same) (subst (λ (fs : List StackFrame). IsStack fs top tasks) (sym frames) is)

    here : IsStack (old.frames.items ++ (record { task = task; below = get_or old.tops event.thread 0 }) ∷ []) (length old.frames.items + 1) (task ∷ tasks_on event.thread past)
    here = (
      length old.frames.items,
      get_or old.tops event.thread 0,
      refl,
      get-last old.frames.items (record { task = task; below = get_or old.tops event.thread 0 }),
      stays old.frames.items (record { task = task; below = get_or old.tops event.thread 0 }) (get_or old.tops event.thread 0) (tasks_on event.thread past) (holds event.thread),
    )

    by-test : (t : ℕ) (b : Bool) → (event.thread == t) ≡ b
        → IsStack new.frames.items (get_or new.tops t 0) (cond b (stack_after (stack_step event.call) (tasks_on t past)) (tasks_on t past))
    by-test t true same =
        let is : event.thread ≡ t = eqb-true event.thread t same in
        let top : get_or new.tops t 0 ≡ length old.frames.items + 1 =
        ap (λ (all : List ℕ). get_or all t 0) tops ∙ (ap (λ (n : ℕ). get_or (set old.tops event.thread (length old.frames.items + 1)) n 0) (sym is) ∙ get_or-set_same old.tops event.thread (length old.frames.items + 1) 0 within) in
        rw step (over (length old.frames.items + 1) (get_or new.tops t 0) (task ∷ tasks_on t past) top
        (subst (λ (n : ℕ). IsStack (old.frames.items ++ (record { task = task; below = get_or old.tops event.thread 0 }) ∷ []) (length old.frames.items + 1) (task ∷ tasks_on n past)) is here))
    by-test t false other =
        let apart : t ≢ event.thread = grind (arith, nat_tests, other) in
        over (get_or old.tops t 0) (get_or new.tops t 0) (tasks_on t past)
        (ap (λ (all : List ℕ). get_or all t 0) tops ∙ get_or-set_other old.tops event.thread t (length old.frames.items + 1) 0 apart)
        (stays old.frames.items (record { task = task; below = get_or old.tops event.thread 0 }) (get_or old.tops t 0) (tasks_on t past) (holds t))
