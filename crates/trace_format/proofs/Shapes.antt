-- Values of known kinds: a function of each of them is a function of their list, and bytes have them at known places.
use Rattle.std.proofs.Common.{ℕ, ◌≡◌, ◌<◌, ◌+◌, ◌^◌, List, [], ◌∷◌, ◌++◌, length, map, drop, refl, sym, ap, ◌∙◌, arith}
use Rattle.std.proofs.lemmas.List.{drop-drop}
use Rattle.byteorder.specs.Endian.{big_number}
use Rattle.ompt_calls.specs.declared.argument.Argument.{Argument}
use Rattle.ompt_calls.specs.declared.argument.Argument.TheVariants as argument
use Rattle.ompt_calls.specs.declared.call.Frame.{Frame}
use Rattle.ompt_calls.specs.declared.call.Word.{Word}
use Rattle.trace_format.specs.declared.kind.Kind.{Kind}
use Rattle.trace_format.specs.declared.kind.Kind.TheVariants as kind
use Rattle.trace_format.specs.Accepting.{width_of}
use Rattle.trace_format.specs.Decoding.{Shape, long_at, made_at, made_from, shape_of, short_at}
use Rattle.trace_format.specs.Decoding.Shape.{AsFrame, AsLong, AsShort, AsWord}
use Rattle.trace_format.specs.Fields.{long, short, spell}
use Rattle.trace_format.specs.Reached.{flat}
use Rattle.trace_format.specs.Validity.{IsLong, IsShort, dispatch_kinds, endpoints, implicit_flags, mutex_kinds, release_kinds, statuses, sync_kinds, task_flags, thread_kinds, work_kinds}
use Rattle.trace_format.proofs.ArgumentLists.{AreValues}
use Rattle.trace_format.proofs.Spelling.{drop_field, length_spelt, reads_front}
use Rattle.trace_format.proofs.Values.{IsValue, among_below, iterations_width, spelt_value}

abbrev pub Of : Shape → Type 0
Of AsShort = ℕ
Of AsLong = ℕ
Of AsWord = Word
Of AsFrame = Frame

abbrev pub made : (shape : Shape) → Of shape → Argument
made AsShort n = argument.Short n
made AsLong n = argument.Long n
made AsWord w = argument.Word w
made AsFrame f = argument.Frame f

-- a function of a value of each kind in turn, behind these
abbrev pub OfEach : List Argument → List Kind → (List Argument → Type 0) → Type 0
OfEach before [] P = P []
OfEach before (which ∷ kinds) P =
    (x : Of (shape_of which)) → IsValue which before (made (shape_of which) x) → OfEach (before ++ made (shape_of which) x ∷ []) kinds (λ rest. P (made (shape_of which) x ∷ rest))

-- a value of a kind has its shape
of_one : (which : Kind) (before : List Argument) (P : Argument → Type 0) → ((x : Of (shape_of which)) → IsValue which before (made (shape_of which) x) → P (made (shape_of which) x)) → (value : Argument) → IsValue which before value → P value
of_one kind.Short before P each (argument.Short n) is = each n is
of_one kind.Long before P each (argument.Long n) is = each n is
of_one kind.Place before P each (argument.Long n) is = each n is
of_one kind.Word before P each (argument.Word w) is = each w is
of_one kind.Frame before P each (argument.Frame f) is = each f is
of_one kind.OfThread before P each (argument.Short n) is = each n is
of_one kind.Endpoint before P each (argument.Short n) is = each n is
of_one kind.OfSync before P each (argument.Short n) is = each n is
of_one kind.OfMutex before P each (argument.Short n) is = each n is
of_one kind.OfRelease before P each (argument.Short n) is = each n is
of_one kind.OfWork before P each (argument.Short n) is = each n is
of_one kind.OfDispatch before P each (argument.Short n) is = each n is
of_one kind.Iterations before P each (argument.Long n) is = each n is
of_one kind.Status before P each (argument.Short n) is = each n is
of_one kind.OfLock before P each (argument.Short n) is = each n is
of_one kind.Zero before P each (argument.Short n) is = each n is
of_one kind.ParallelFlags before P each (argument.Short n) is = each n is
of_one kind.TaskFlags before P each (argument.Short n) is = each n is
of_one kind.ImplicitFlags before P each (argument.Short n) is = each n is
of_one which before P each value is = absurd is

pub of_all : (before : List Argument) (kinds : List Kind) (P : List Argument → Type 0) → OfEach before kinds P → (values : List Argument) → AreValues before kinds values → P values
of_all before [] P each [] are = each
of_all before [] P each (value ∷ rest) are = absurd are
of_all before (which ∷ kinds) P each [] are = absurd are
of_all before (which ∷ kinds) P each (value ∷ rest) are =
    of_one which before (λ v. (later : List Argument) → AreValues (before ++ v ∷ []) kinds later → P (v ∷ later))
    (λ x is. of_all (before ++ made (shape_of which) x ∷ []) kinds (λ later. P (made (shape_of which) x ∷ later)) (each x is))
    value are.0 rest are.1

-- the numbers of a value fit their fields
abbrev pub IsSmall : Argument → Type 0
IsSmall (argument.Short n) = IsShort n
IsSmall (argument.Long n) = IsLong n
IsSmall (argument.Word w) = IsShort w.identity × IsLong w.value
IsSmall (argument.Frame f) = IsShort f.exit × IsShort f.enter

is_small : (which : Kind) (before : List Argument) (value : Argument) → IsValue which before value → IsSmall value
is_small kind.Short before (argument.Short n) is = is
is_small kind.Long before (argument.Long n) is = is
is_small kind.Place before (argument.Long n) is = is
is_small kind.Word before (argument.Word w) is = (is.0, is.1)
is_small kind.Frame before (argument.Frame f) is = is
is_small kind.OfThread before (argument.Short n) is = among_below thread_kinds n (2 ^ 32) refl is
is_small kind.Endpoint before (argument.Short n) is = among_below endpoints n (2 ^ 32) refl is
is_small kind.OfSync before (argument.Short n) is = among_below sync_kinds n (2 ^ 32) refl is
is_small kind.OfMutex before (argument.Short n) is = among_below mutex_kinds n (2 ^ 32) refl is
is_small kind.OfRelease before (argument.Short n) is = among_below release_kinds n (2 ^ 32) refl is
is_small kind.OfWork before (argument.Short n) is = among_below work_kinds n (2 ^ 32) refl is
is_small kind.OfDispatch before (argument.Short n) is = among_below dispatch_kinds n (2 ^ 32) refl is
is_small kind.Iterations before (argument.Long n) is = iterations_width before n is
is_small kind.Status before (argument.Short n) is = among_below statuses n (2 ^ 32) refl is
is_small kind.OfLock before (argument.Short n) is = omega arith
is_small kind.Zero before (argument.Short n) is = omega arith
is_small kind.ParallelFlags before (argument.Short n) is = omega arith
is_small kind.TaskFlags before (argument.Short n) is = among_below task_flags n (2 ^ 32) refl is
is_small kind.ImplicitFlags before (argument.Short n) is = among_below implicit_flags n (2 ^ 32) refl is
is_small which before value is = absurd is

pub behind : (place : ℕ) (bytes a rest : List ℕ) (n : ℕ) → drop place bytes ≡ a ++ rest → length a ≡ n → drop (place + n) bytes ≡ rest
behind place bytes a rest n at long =
    let e : n ≡ n + 0 = omega arith in
    sym (drop-drop n place bytes) ∙ ap (drop n) at ∙ ap (λ (k : ℕ). drop k (a ++ rest)) e ∙ drop_field n 0 a rest long

at_short : (place : ℕ) (bytes rest : List ℕ) (n : ℕ) → drop place bytes ≡ short n ++ rest → n < 2 ^ 32 → short_at place bytes ≡ n
at_short place bytes rest n at small = ap (big_number 4) at ∙ reads_front 4 n rest small

at_long : (place : ℕ) (bytes rest : List ℕ) (n : ℕ) → drop place bytes ≡ long n ++ rest → n < 2 ^ 64 → long_at place bytes ≡ n
at_long place bytes rest n at small = ap (big_number 8) at ∙ reads_front 8 n rest small

-- a value that was spelled at a place stands there
at_made : (which : Kind) (before : List Argument) (value : Argument) (place : ℕ) (bytes rest : List ℕ) → IsValue which before value → drop place bytes ≡ spell value ++ rest → made_at (shape_of which) place bytes ≡ value
at_made which before value place bytes rest is at =
    of_one which before (λ v. IsSmall v → drop place bytes ≡ spell v ++ rest → made_at (shape_of which) place bytes ≡ v)
    (λ x is_x. by_shape (shape_of which) x) value is (is_small which before value is) at
  where
    by_shape : (shape : Shape) (x : Of shape) → IsSmall (made shape x) → drop place bytes ≡ spell (made shape x) ++ rest → made_at shape place bytes ≡ made shape x
    by_shape AsShort n small here = ap argument.Short (at_short place bytes rest n here small)
    by_shape AsLong n small here = ap argument.Long (at_long place bytes rest n here small)
    by_shape AsWord w small here =
        let parts : drop place bytes ≡ short w.identity ++ (long w.value ++ rest) = here in
        let first = at_short place bytes (long w.value ++ rest) w.identity parts small.0 in
        let second = at_long (place + 4) bytes rest w.value (behind place bytes (short w.identity) (long w.value ++ rest) 4 parts (length_spelt 4 w.identity)) small.1 in
        ap (λ (n : ℕ). argument.Word (record { identity = n; value = long_at (place + 4) bytes })) first ∙ ap (λ (n : ℕ). argument.Word (record { identity = w.identity; value = n })) second
    by_shape AsFrame f small here =
        let parts : drop place bytes ≡ short f.exit ++ (short f.enter ++ rest) = here in
        let first = at_short place bytes (short f.enter ++ rest) f.exit parts small.0 in
        let second = at_short (place + 4) bytes rest f.enter (behind place bytes (short f.exit) (short f.enter ++ rest) 4 parts (length_spelt 4 f.exit)) small.1 in
        ap (λ (n : ℕ). argument.Frame (record { exit = n; enter = short_at (place + 4) bytes })) first ∙ ap (λ (n : ℕ). argument.Frame (record { exit = f.exit; enter = n })) second

-- values that were spelled stand at their places
pub made_again : (before : List Argument) (kinds : List Kind) (values : List Argument) (place : ℕ) (bytes : List ℕ) → AreValues before kinds values → drop place bytes ≡ flat (map spell values) → made_from place kinds bytes ≡ values
made_again before [] [] place bytes are at = refl
made_again before [] (value ∷ rest) place bytes are at = absurd are
made_again before (which ∷ kinds) [] place bytes are at = absurd are
made_again before (which ∷ kinds) (value ∷ rest) place bytes are at =
    let first = at_made which before value place bytes (flat (map spell rest)) are.0 at in
    let width = (spelt_value which before value are.0).width in
    let later = made_again (before ++ value ∷ []) kinds rest (place + width_of which) bytes are.1 (behind place bytes (spell value) (flat (map spell rest)) (width_of which) at width) in
    ap (λ (v : Argument). v ∷ made_from (place + width_of which) kinds bytes) first ∙ ap (λ (l : List Argument). value ∷ l) later
