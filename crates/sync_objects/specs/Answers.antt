-- What each call on locks answers. The routines are those of OpenMP 5.2, 18.9. It leaves open what a wrong use of them
-- does; here each is a fault, and a lock that isn't initialised is told before anything else.
use Rattle.std.specs.Prelude.{ℕ, ◌==◌, if◌then◌else◌, Bool, true, false, List, Option, Some, None, Result, Ok, Err}
use Rattle.sync_objects.specs.declared.lock.Lock.{Lock}
use Rattle.sync_objects.specs.declared.lock_fault.LockFault.{LockFault}
use Rattle.sync_objects.specs.declared.lock_fault.LockFault.TheVariants as fault
use Rattle.sync_objects.specs.Owners.{look_up}

-- a lock that is initialised isn't initialised again
abbrev pub init_of : Option Lock → Result (Unit {0}) LockFault
init_of None = Ok tt
init_of (Some lock) = Err fault.AlreadyInitialised

abbrev pub answer_to_init : List Lock → ℕ → Result (Unit {0}) LockFault
answer_to_init locks id = init_of (look_up locks id)

-- nor is a lock destroyed that isn't initialised, or that a task owns
abbrev pub destroy_owned : Option ℕ → Result (Unit {0}) LockFault
destroy_owned None = Ok tt
destroy_owned (Some owner) = Err fault.StillHeld

abbrev pub destroy_of : Option Lock → Result (Unit {0}) LockFault
destroy_of None = Err fault.NotInitialised
destroy_of (Some lock) = destroy_owned lock.owner

abbrev pub answer_to_destroy : List Lock → ℕ → Result (Unit {0}) LockFault
answer_to_destroy locks id = destroy_of (look_up locks id)

-- a lock that no task owns may be taken
abbrev pub is_free : Option ℕ → Bool
is_free None = true
is_free (Some owner) = false

abbrev pub may_take_of : Option Lock → Result Bool LockFault
may_take_of None = Err fault.NotInitialised
may_take_of (Some lock) = Ok (is_free lock.owner)

abbrev pub answer_to_may_take : List Lock → ℕ → Result Bool LockFault
answer_to_may_take locks id = may_take_of (look_up locks id)

-- the task that owns a lock gives it back, and no other
abbrev pub owns : ℕ → Option ℕ → Bool
owns task None = false
owns task (Some owner) = owner == task

abbrev pub give_of : ℕ → Option Lock → Result (Unit {0}) LockFault
give_of task None = Err fault.NotInitialised
give_of task (Some lock) = if owns task lock.owner then Ok tt else Err fault.NotOwner

abbrev pub answer_to_give : List Lock → ℕ → ℕ → Result (Unit {0}) LockFault
answer_to_give locks id task = give_of task (look_up locks id)
