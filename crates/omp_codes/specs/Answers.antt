-- What a registration is answered, and the callbacks of the profile. The numbers are those of `ompt_callbacks_t`
-- (OpenMP 5.2, 19.4.2).
use Rattle.std.specs.Prelude.{ℕ, ◌+◌, ◌^◌, ◌==◌, Bool, ◌&&◌, ◌||◌, not, codes, filter, nat_le, if◌then◌else◌, List, [], ◌∷◌}
use Rattle.std.specs.List.{range_with_len}
use Rattle.omp_codes.specs.declared.set_results.TheConstants.{ALWAYS, ERROR, NEVER}

abbrev pub within : ℕ → ℕ → ℕ → Bool
within first last number = nat_le first number && nat_le number last

-- the callbacks whose events a program may have
abbrev pub in_profile : ℕ → Bool
in_profile number = within 1 7 number || within 16 17 number || within 20 21 number || within 23 27 number || within 32 32 number

-- those of devices and of control of the tool, which have no event in a program that runs here
abbrev pub is_of_devices : ℕ → Bool
is_of_devices number = within 8 15 number || within 22 22 number || within 33 36 number

-- these are called at each of their events
abbrev pub is_always : ℕ → Bool
is_always number = in_profile number || is_of_devices number

-- the others are callbacks, and are never called: dependences, nested locks, flush, cancel, reduction, error
abbrev pub is_never : ℕ → Bool
is_never number = within 1 37 number && not (is_always number)

-- `ompt_set_always`, `ompt_set_never`, and `ompt_set_error` for what is no callback
abbrev pub answer_of : ℕ → ℕ
answer_of number = if is_always number then ALWAYS else if is_never number then NEVER else ERROR

-- the callbacks of the profile by rising numbers
abbrev pub profile : List ℕ
profile = filter in_profile (range_with_len 0 64)

-- the mask with these callbacks: bit n for number n
abbrev pub mask_of : List ℕ → ℕ
mask_of [] = 0
mask_of (number ∷ numbers) = 2 ^ number + mask_of numbers

-- the name of a callback of the profile: that of `ompt_callbacks_t`, without `ompt_callback_`
abbrev pub callback_name : ℕ → List ℕ
callback_name number =
    if number == 1 then codes "thread_begin"
    else if number == 2 then codes "thread_end"
    else if number == 3 then codes "parallel_begin"
    else if number == 4 then codes "parallel_end"
    else if number == 5 then codes "task_create"
    else if number == 6 then codes "task_schedule"
    else if number == 7 then codes "implicit_task"
    else if number == 16 then codes "sync_region_wait"
    else if number == 17 then codes "mutex_released"
    else if number == 20 then codes "work"
    else if number == 21 then codes "masked"
    else if number == 23 then codes "sync_region"
    else if number == 24 then codes "lock_init"
    else if number == 25 then codes "lock_destroy"
    else if number == 26 then codes "mutex_acquire"
    else if number == 27 then codes "mutex_acquired"
    else if number == 32 then codes "dispatch"
    else []
