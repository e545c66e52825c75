-- The callbacks that a tool has registered.
use Rattle.std.specs.Prelude.{ℕ, ◌≡◌, Bool, true, ◌==◌, ◌&&◌, ◌||◌, if◌then◌else◌}
use Rattle.ompt_calls.specs.Number.{is_registered}
use Rattle.omp_codes.specs.Answers.{answer_of}
use Rattle.omp_codes.specs.declared.set_results.TheConstants.{ALWAYS}

-- a registration that is answered always is one; no other changes what is registered
abbrev pub is_registered_after : ℕ → ℕ → ℕ → Bool
is_registered_after mask number other = is_registered mask other || (other == number && answer_of number == ALWAYS)

-- each callback that is registered is one that is called always
abbrev pub AreAlways : ℕ → Type 0
AreAlways mask = (number : ℕ) → is_registered mask number ≡ true → answer_of number ≡ ALWAYS

-- the mask of a run whose first part answered this and registered these
abbrev pub mask_of : ℕ → ℕ → ℕ
mask_of answer registered = if answer == 0 then 0 else registered

-- what `ompt_get_callback` answers: 1 where it is registered, else 0
abbrev pub get_answer : ℕ → ℕ → ℕ
get_answer mask number = if is_registered mask number then 1 else 0
