-- Arguments one after the other: how they are accepted, what values they spell, and that a front of them can be made whole.
use Rattle.std.proofs.Common.{ℕ, ◌≡◌, Bool, true, false, ◌==◌, List, [], ◌∷◌, ◌++◌, length, map, Option, Some, None, refl, sym, ap, ◌∙◌, append_assoc}
use Rattle.std.proofs.lemmas.Bool.{false≢true}
use Rattle.std.proofs.lemmas.List.{append-nil}
use Rattle.byteorder.specs.Endian.{big_number}
use Rattle.ompt_calls.specs.declared.argument.Argument.{Argument}
use Rattle.trace_format.specs.declared.kind.Kind.{Kind}
use Rattle.trace_format.specs.declared.kind.Kind.TheVariants as kind
use Rattle.trace_format.specs.Accepting.{Next, argument_next, next_of}
use Rattle.trace_format.specs.Fields.{long, short, spell}
use Rattle.trace_format.specs.Reached.{AreAccepted, IsAccepted, IsBytes}
use Rattle.trace_format.specs.Taking.{Stage}
use Rattle.trace_format.specs.Validity.{parallel_flags}
use Rattle.trace_format.proofs.Spelling.{spelt_bytes}
use Rattle.trace_format.proofs.Values.{IsArgument, IsValue, spelt_value, value_of}

abbrev pub width_in : Option Next → ℕ
width_in None = 0
width_in (Some next) = next.width

abbrev pub accepts_in : Option Next → List ℕ → Bool
accepts_in None bytes = false
accepts_in (Some next) bytes = next.accepts bytes

-- what is known of a field that was accepted
pub record Fits (next : Option Next) (bytes : List ℕ) : Type 0 where
  pub width : length bytes ≡ width_in next
  pub is_bytes : IsBytes bytes
  pub accepted : accepts_in next bytes ≡ true

pub fits : (stage : Stage) (before : List (List ℕ)) (bytes : List ℕ) (next : Option Next) → IsAccepted stage before bytes → next_of stage before ≡ next → Fits next bytes
fits stage before bytes next is same =
    let e : Some is.next ≡ next = sym is.comes ∙ same in
    record { width = is.width ∙ ap width_in e; is_bytes = is.is_bytes; accepted = ap (λ (o : Option Next). accepts_in o bytes) (sym e) ∙ is.accepted }

pub fits_none : (bytes : List ℕ) → Fits None bytes → ⊥
fits_none bytes fitting = false≢true fitting.accepted

-- the arguments have these kinds, behind those
abbrev pub AreArguments : List (List ℕ) → List Kind → List (List ℕ) → Type 0
AreArguments before [] [] = Unit {0}
AreArguments before (which ∷ kinds) (bytes ∷ rest) = IsArgument which before bytes × AreArguments (before ++ bytes ∷ []) kinds rest
AreArguments before kinds rest = ⊥

-- the first of them have
abbrev pub StartArguments : List (List ℕ) → List Kind → List (List ℕ) → Type 0
StartArguments before kinds [] = Unit {0}
StartArguments before (which ∷ kinds) (bytes ∷ rest) = IsArgument which before bytes × StartArguments (before ++ bytes ∷ []) kinds rest
StartArguments before [] (bytes ∷ rest) = ⊥

abbrev pub AreValues : List Argument → List Kind → List Argument → Type 0
AreValues before [] [] = Unit {0}
AreValues before (which ∷ kinds) (value ∷ rest) = IsValue which before value × AreValues (before ++ value ∷ []) kinds rest
AreValues before kinds rest = ⊥

spell_one_more : (before : List Argument) (value : Argument) → map spell (before ++ value ∷ []) ≡ map spell before ++ spell value ∷ []
spell_one_more [] value = refl
spell_one_more (first ∷ before) value = ap (λ (l : List (List ℕ)). spell first ∷ l) (spell_one_more before value)

-- values of these kinds are spelled as arguments of these kinds
pub spelt_values : (before : List Argument) (kinds : List Kind) (values : List Argument) → AreValues before kinds values → AreArguments (map spell before) kinds (map spell values)
spelt_values before [] [] are = tt
spelt_values before [] (value ∷ rest) are = absurd are
spelt_values before (which ∷ kinds) [] are = absurd are
spelt_values before (which ∷ kinds) (value ∷ rest) are = (
  spelt_value which before value are.0,
  rw (← spell_one_more before value) (spelt_values (before ++ value ∷ []) kinds rest are.1),
)

-- the values that arguments spell
pub record AreSpelt (before : List Argument) (kinds : List Kind) (args : List (List ℕ)) : Type 0 where
  pub values : List Argument
  pub are_values : AreValues before kinds values
  pub spelt : map spell values ≡ args

pub values_from : (before : List Argument) (kinds : List Kind) (args : List (List ℕ)) → AreArguments (map spell before) kinds args → AreSpelt before kinds args
values_from before [] [] are = record { values = []; are_values = tt; spelt = refl }
values_from before [] (bytes ∷ rest) are = absurd are
values_from before (which ∷ kinds) [] are = absurd are
values_from before (which ∷ kinds) (bytes ∷ rest) are =
    let first = value_of which before bytes are.0 in
    let front : map spell before ++ bytes ∷ [] ≡ map spell (before ++ first.value ∷ []) =
    ap (λ (b : List ℕ). map spell before ++ b ∷ []) (sym first.spelt) ∙ sym (spell_one_more before first.value) in
    let later = values_from (before ++ first.value ∷ []) kinds rest (rw front at are.1) in
    record {
      values = first.value ∷ later.values;
      are_values = (first.is_value, later.are_values);
      spelt = ap (λ (b : List ℕ). b ∷ map spell later.values) first.spelt ∙ ap (λ (l : List (List ℕ)). bytes ∷ l) later.spelt;
    }

-- the fields that come behind these are arguments of these kinds, behind those
abbrev pub Comes : Stage → List (List ℕ) → List (List ℕ) → List Kind → Type 0
Comes stage front before kinds = (more : List (List ℕ)) → next_of stage (front ++ more) ≡ argument_next before kinds more

pub comes_now : (stage : Stage) (front before : List (List ℕ)) (kinds : List Kind) → Comes stage front before kinds → next_of stage front ≡ argument_next before kinds []
comes_now stage front before kinds comes = ap (next_of stage) (sym (append-nil front)) ∙ comes []

pub comes_later : (stage : Stage) (front before : List (List ℕ)) (which : Kind) (kinds : List Kind) (bytes : List ℕ) → Comes stage front before (which ∷ kinds) → Comes stage (front ++ bytes ∷ []) (before ++ bytes ∷ []) kinds
comes_later stage front before which kinds bytes comes more = ap (next_of stage) (append_assoc front (bytes ∷ []) more) ∙ comes (bytes ∷ more)

-- arguments are accepted
pub arguments_accepted : (stage : Stage) (front before : List (List ℕ)) (kinds : List Kind) (args : List (List ℕ)) → Comes stage front before kinds → AreArguments before kinds args → AreAccepted stage front args
arguments_accepted stage front before [] [] comes are = tt
arguments_accepted stage front before [] (bytes ∷ rest) comes are = absurd are
arguments_accepted stage front before (which ∷ kinds) [] comes are = absurd are
arguments_accepted stage front before (which ∷ kinds) (bytes ∷ rest) comes are = (
  record { next = _; comes = comes_now stage front before (which ∷ kinds) comes; width = are.0.width; is_bytes = are.0.is_bytes; accepted = are.0.accepted },
  arguments_accepted stage (front ++ bytes ∷ []) (before ++ bytes ∷ []) kinds rest (comes_later stage front before which kinds bytes comes) are.1,
)

-- .. and none comes behind the last
pub arguments_end : (before : List (List ℕ)) (kinds : List Kind) (args : List (List ℕ)) → AreArguments before kinds args → argument_next before kinds args ≡ None
arguments_end before [] [] are = refl
arguments_end before [] (bytes ∷ rest) are = absurd are
arguments_end before (which ∷ kinds) [] are = absurd are
arguments_end before (which ∷ kinds) (bytes ∷ rest) are = arguments_end (before ++ bytes ∷ []) kinds rest are.1

-- arguments that were accepted are so by their kinds
pub arguments_start : (stage : Stage) (front before : List (List ℕ)) (kinds : List Kind) (args : List (List ℕ)) → Comes stage front before kinds → AreAccepted stage front args → StartArguments before kinds args
arguments_start stage front before [] [] comes accepted = tt
arguments_start stage front before (which ∷ kinds) [] comes accepted = tt
arguments_start stage front before [] (bytes ∷ rest) comes accepted = fits_none bytes (fits stage front bytes None accepted.0 (comes_now stage front before [] comes))
arguments_start stage front before (which ∷ kinds) (bytes ∷ rest) comes accepted =
    let now = fits stage front bytes _ accepted.0 (comes_now stage front before (which ∷ kinds) comes) in (
      record { width = now.width; is_bytes = now.is_bytes; accepted = now.accepted },
      arguments_start stage (front ++ bytes ∷ []) (before ++ bytes ∷ []) kinds rest (comes_later stage front before which kinds bytes comes) accepted.1,
    )

-- where none comes behind them they are all
pub arguments_all : (before : List (List ℕ)) (kinds : List Kind) (args : List (List ℕ)) → StartArguments before kinds args → argument_next before kinds args ≡ None → AreArguments before kinds args
arguments_all before [] [] start none = tt
arguments_all before (which ∷ kinds) [] start none = absurd cc
arguments_all before [] (bytes ∷ rest) start none = start
arguments_all before (which ∷ kinds) (bytes ∷ rest) start none = (start.0, arguments_all (before ++ bytes ∷ []) kinds rest start.1 none)

-- an argument that may stand there
some_iterations : (before : List (List ℕ)) → (bytes : List ℕ) × IsArgument kind.Iterations before bytes
some_iterations [] = (long 0, record { width = refl; is_bytes = spelt_bytes 8 0; accepted = refl })
some_iterations (a ∷ []) = (long 0, record { width = refl; is_bytes = spelt_bytes 8 0; accepted = refl })
some_iterations (a ∷ b ∷ []) = (long 0, record { width = refl; is_bytes = spelt_bytes 8 0; accepted = refl })
some_iterations (a ∷ b ∷ c ∷ rest) = go (big_number 4 c == 2) refl
  where
    go : (test : Bool) → (big_number 4 c == 2) ≡ test → (bytes : List ℕ) × IsArgument kind.Iterations (a ∷ b ∷ c ∷ rest) bytes
    go true two = (long 0, record { width = refl; is_bytes = spelt_bytes 8 0; accepted = rw two refl })
    go false other = (long 1, record { width = refl; is_bytes = spelt_bytes 8 1; accepted = rw other refl })

pub some_argument : (which : Kind) (before : List (List ℕ)) → (bytes : List ℕ) × IsArgument which before bytes
some_argument kind.Short before = (short 0, record { width = refl; is_bytes = spelt_bytes 4 0; accepted = refl })
some_argument kind.Long before = (long 0, record { width = refl; is_bytes = spelt_bytes 8 0; accepted = refl })
some_argument kind.Place before = (long 0, record { width = refl; is_bytes = spelt_bytes 8 0; accepted = refl })
some_argument kind.Word before = (short 0 ++ long 0, record { width = refl; is_bytes = spelt_bytes 12 0; accepted = refl })
some_argument kind.Frame before = (long 0, record { width = refl; is_bytes = spelt_bytes 8 0; accepted = refl })
some_argument kind.OfThread before = (short 1, record { width = refl; is_bytes = spelt_bytes 4 1; accepted = refl })
some_argument kind.Endpoint before = (short 1, record { width = refl; is_bytes = spelt_bytes 4 1; accepted = refl })
some_argument kind.OfSync before = (short 3, record { width = refl; is_bytes = spelt_bytes 4 3; accepted = refl })
some_argument kind.OfMutex before = (short 1, record { width = refl; is_bytes = spelt_bytes 4 1; accepted = refl })
some_argument kind.OfRelease before = (short 1, record { width = refl; is_bytes = spelt_bytes 4 1; accepted = refl })
some_argument kind.OfWork before = (short 1, record { width = refl; is_bytes = spelt_bytes 4 1; accepted = refl })
some_argument kind.OfDispatch before = (short 2, record { width = refl; is_bytes = spelt_bytes 4 2; accepted = refl })
some_argument kind.Iterations before = some_iterations before
some_argument kind.Status before = (short 1, record { width = refl; is_bytes = spelt_bytes 4 1; accepted = refl })
some_argument kind.OfLock before = (short 1, record { width = refl; is_bytes = spelt_bytes 4 1; accepted = refl })
some_argument kind.Zero before = (short 0, record { width = refl; is_bytes = spelt_bytes 4 0; accepted = refl })
some_argument kind.ParallelFlags before = (short parallel_flags, record { width = refl; is_bytes = spelt_bytes 4 parallel_flags; accepted = refl })
some_argument kind.TaskFlags before = (short 4, record { width = refl; is_bytes = spelt_bytes 4 4; accepted = refl })
some_argument kind.ImplicitFlags before = (short 1, record { width = refl; is_bytes = spelt_bytes 4 1; accepted = refl })

-- a front of arguments can be made whole
pub record CanFollow (before : List (List ℕ)) (kinds : List Kind) (args : List (List ℕ)) : Type 0 where
  pub more : List (List ℕ)
  pub are : AreArguments before kinds (args ++ more)

pub arguments_follow : (before : List (List ℕ)) (kinds : List Kind) (args : List (List ℕ)) → StartArguments before kinds args → CanFollow before kinds args
arguments_follow before [] [] start = record { more = []; are = tt }
arguments_follow before [] (bytes ∷ rest) start = absurd start
arguments_follow before (which ∷ kinds) [] start =
    let first = some_argument which before in
    let later = arguments_follow (before ++ first.0 ∷ []) kinds [] tt in
    record { more = first.0 ∷ later.more; are = (first.1, later.are) }
arguments_follow before (which ∷ kinds) (bytes ∷ rest) start =
    let later = arguments_follow (before ++ bytes ∷ []) kinds rest start.1 in
    record { more = later.more; are = (start.0, later.are) }
