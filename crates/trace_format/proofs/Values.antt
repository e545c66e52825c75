-- The arguments of a callback as values: bytes that are accepted by their kinds are what values of these kinds are spelled as.
use Rattle.std.proofs.Common.{ℕ, zero, suc, ◌≡◌, ◌≢◌, ◌<◌, ◌≤◌, ◌+◌, ◌^◌, Bool, true, ◌==◌, ◌&&◌, ◌||◌, not, cond, List, [], ◌∷◌, ◌++◌, length, map, drop, take, inl, inr, refl, sym, ap, ◌∙◌, arith, length-append, eq-eqb, ne_eqb}
use Rattle.std.specs.Prelude.{nat_le, nat_lt}
use Rattle.std.proofs.lemmas.Bool.{and_parts, cases_eq, eqb-true, le-leb, leb-true, ltb-true, or_cases}
use Rattle.std.proofs.lemmas.List.{length-drop, take-append-drop, length-take}
use Rattle.byteorder.specs.Endian.{big_bytes, big_number}
use Rattle.ompt_calls.specs.declared.argument.Argument.{Argument}
use Rattle.ompt_calls.specs.declared.argument.Argument.TheVariants as argument
use Rattle.ompt_calls.specs.declared.call.Word.{Word}
use Rattle.trace_format.specs.declared.kind.Kind.{Kind}
use Rattle.trace_format.specs.declared.kind.Kind.TheVariants as kind
use Rattle.trace_format.specs.Accepting.{accepts_kind, width_of}
use Rattle.trace_format.specs.Fields.{long, short, spell, word}
use Rattle.trace_format.specs.Reached.{IsBytes}
use Rattle.trace_format.specs.Validity.{IsAmong, IsFrame, IsLong, IsShort, IsWord, endpoints, implicit_flags, dispatch_kinds, is_among, mutex_kinds, parallel_flags, release_kinds, statuses, sync_kinds, task_flags, thread_kinds, work_kinds}
use Rattle.trace_format.proofs.Spelling.{append_bytes, drop_bytes, drop_field, length_spelt, number_small, reads, reads_first, reads_front, spells, spelt_bytes, take_bytes}

-- how many iterations there may be behind these arguments
abbrev pub AreIterations : List Argument → ℕ → Type 0
AreIterations (region ∷ task ∷ which ∷ rest) n =
    (big_number 4 (spell which) ≡ 2 → n ≡ 0) × (big_number 4 (spell which) ≢ 2 → 1 ≤ n) × IsLong n
AreIterations other n = IsLong n

-- the values of a kind behind these arguments
abbrev pub IsValue : Kind → List Argument → Argument → Type 0
IsValue kind.Short before (argument.Short n) = IsShort n
IsValue kind.Long before (argument.Long n) = IsLong n
IsValue kind.Place before (argument.Long n) = IsLong n
IsValue kind.Word before (argument.Word w) = IsWord w
IsValue kind.Frame before (argument.Frame f) = IsFrame f
IsValue kind.OfThread before (argument.Short n) = IsAmong thread_kinds n
IsValue kind.Endpoint before (argument.Short n) = IsAmong endpoints n
IsValue kind.OfSync before (argument.Short n) = IsAmong sync_kinds n
IsValue kind.OfMutex before (argument.Short n) = IsAmong mutex_kinds n
IsValue kind.OfRelease before (argument.Short n) = IsAmong release_kinds n
IsValue kind.OfWork before (argument.Short n) = IsAmong work_kinds n
IsValue kind.OfDispatch before (argument.Short n) = IsAmong dispatch_kinds n
IsValue kind.Iterations before (argument.Long n) = AreIterations before n
IsValue kind.Status before (argument.Short n) = IsAmong statuses n
IsValue kind.OfLock before (argument.Short n) = n ≡ 1
IsValue kind.Zero before (argument.Short n) = n ≡ 0
IsValue kind.ParallelFlags before (argument.Short n) = n ≡ parallel_flags
IsValue kind.TaskFlags before (argument.Short n) = IsAmong task_flags n
IsValue kind.ImplicitFlags before (argument.Short n) = IsAmong implicit_flags n
IsValue other before value = ⊥

-- bytes that are accepted by their kind behind these
pub record IsArgument (which : Kind) (before : List (List ℕ)) (bytes : List ℕ) : Type 0 where
  pub width : length bytes ≡ width_of which
  pub is_bytes : IsBytes bytes
  pub accepted : accepts_kind which before bytes ≡ true

abbrev pub below : ℕ → List ℕ → Bool
below limit [] = true
below limit (x ∷ rest) = nat_lt x limit && below limit rest

-- what is among numbers below a limit lies below it
pub among_below : (list : List ℕ) (n limit : ℕ) → below limit list ≡ true → is_among list n ≡ true → n < limit
among_below [] n limit small among = absurd cc
among_below (x ∷ rest) n limit small among =
    let both = and_parts (nat_lt x limit) (below limit rest) small in
    elim (or_cases (n == x) (is_among rest n) among) [
      | inl same ↦ let e : n ≡ x = eqb-true n x same in let h : x < limit = ltb-true x limit both.0 in omega arith
      | inr later ↦ among_below rest n limit both.1 later
    ]

-- a short number with a test that is passed
passes : (test : ℕ → Bool) (n : ℕ) → n < 2 ^ 32 → test n ≡ true → test (big_number 4 (short n)) ≡ true
passes test n small passed = ap test (reads 4 n small) ∙ passed

listed : (list : List ℕ) (n : ℕ) → below (2 ^ 32) list ≡ true → IsAmong list n → is_among list (big_number 4 (short n)) ≡ true
listed list n small among = passes (is_among list) n (among_below list n (2 ^ 32) small among) among

pub same_test : (n x : ℕ) → n ≡ x → (n == x) ≡ true
same_test n x same = eq-eqb n x same

exactly : (n x : ℕ) → x < 2 ^ 32 → n ≡ x → (big_number 4 (short n) == x) ≡ true
exactly n x small same = passes (λ m. m == x) n (omega arith) (same_test n x same)

-- A word that is NULL has no value, as a test and as a fact.
null_test : (a b : ℕ) → (a ≡ 0 → b ≡ 0) → (not (a == 0) || b == 0) ≡ true
null_test zero b null = same_test b 0 (null refl)
null_test (suc a) b null = rw (ne_eqb (suc a) 0 (omega arith)) refl

null_back : (a b : ℕ) → (not (a == 0) || b == 0) ≡ true → a ≡ 0 → b ≡ 0
null_back zero b test is_zero = eqb-true b 0 test
null_back (suc a) b test is_zero = absurd (omega arith)

-- How many iterations there may be behind a kind, as a test and as a fact.
iterations_test : (a n : ℕ) → (a ≡ 2 → n ≡ 0) → (a ≢ 2 → 1 ≤ n) → cond (a == 2) (n == 0) (nat_le 1 n) ≡ true
iterations_test a n none some = elim (cases_eq a 2) [
  | inl two ↦ rw (eq-eqb a 2 two) (same_test n 0 (none two))
  | inr other ↦ rw (ne_eqb a 2 other) (le-leb 1 n (some other))
]

iterations_none : (a n : ℕ) → cond (a == 2) (n == 0) (nat_le 1 n) ≡ true → a ≡ 2 → n ≡ 0
iterations_none a n test two = eqb-true n 0 (rw (eq-eqb a 2 two) at test)

iterations_some : (a n : ℕ) → cond (a == 2) (n == 0) (nat_le 1 n) ≡ true → a ≢ 2 → 1 ≤ n
iterations_some a n test other = leb-true 1 n (rw (ne_eqb a 2 other) at test)

pub iterations_width : (before : List Argument) (n : ℕ) → AreIterations before n → n < 2 ^ 64
iterations_width [] n are = are
iterations_width (a ∷ []) n are = are
iterations_width (a ∷ b ∷ []) n are = are
iterations_width (a ∷ b ∷ c ∷ rest) n are = are.2

iterations_accepted : (before : List Argument) (n : ℕ) → AreIterations before n → accepts_kind kind.Iterations (map spell before) (long n) ≡ true
iterations_accepted [] n are = refl
iterations_accepted (a ∷ []) n are = refl
iterations_accepted (a ∷ b ∷ []) n are = refl
iterations_accepted (a ∷ b ∷ c ∷ rest) n are =
    ap (λ (m : ℕ). cond (big_number 4 (spell c) == 2) (m == 0) (nat_le 1 m)) (reads 8 n are.2) ∙ iterations_test (big_number 4 (spell c)) n are.0 are.1

iterations_back : (before : List Argument) (bytes : List ℕ) → length bytes ≡ 8 → IsBytes bytes → accepts_kind kind.Iterations (map spell before) bytes ≡ true → AreIterations before (big_number 8 bytes)
iterations_back [] bytes width of_bytes test = number_small 8 bytes of_bytes
iterations_back (a ∷ []) bytes width of_bytes test = number_small 8 bytes of_bytes
iterations_back (a ∷ b ∷ []) bytes width of_bytes test = number_small 8 bytes of_bytes
iterations_back (a ∷ b ∷ c ∷ rest) bytes width of_bytes test =
    (iterations_none (big_number 4 (spell c)) (big_number 8 bytes) test, iterations_some (big_number 4 (spell c)) (big_number 8 bytes) test, number_small 8 bytes of_bytes)

-- What stands behind a short number.
behind_short : (n : ℕ) (rest : List ℕ) → drop 4 (short n ++ rest) ≡ rest
behind_short n rest = drop_field 4 0 (short n) rest (length_spelt 4 n)

word_accepted : (w : Word) → IsWord w → accepts_kind kind.Word [] (word w) ≡ true
word_accepted w is_word =
    ap (λ (a : ℕ). not (a == 0) || big_number 8 (drop 4 (word w)) == 0) (reads_front 4 w.identity (long w.value) is_word.0)
    ∙ ap (λ (l : List ℕ). not (w.identity == 0) || big_number 8 l == 0) (behind_short w.identity (long w.value))
    ∙ ap (λ (b : ℕ). not (w.identity == 0) || b == 0) (reads 8 w.value is_word.1)
    ∙ null_test w.identity w.value is_word.2

length_both : (a b : List ℕ) (n m : ℕ) → length a ≡ n → length b ≡ m → length (a ++ b) ≡ n + m
length_both a b n m a_long b_long = omega (arith, length-append a b)

a_short : (which : Kind) (before : List (List ℕ)) (n : ℕ) → width_of which ≡ 4 → accepts_kind which before (short n) ≡ true → IsArgument which before (short n)
a_short which before n four accepted = record { width = length_spelt 4 n ∙ sym four; is_bytes = spelt_bytes 4 n; accepted = accepted }

-- a value of a kind is spelled as bytes that are accepted
pub spelt_value : (which : Kind) (before : List Argument) (value : Argument) → IsValue which before value → IsArgument which (map spell before) (spell value)
spelt_value kind.Short before (argument.Short n) is = a_short kind.Short (map spell before) n refl refl
spelt_value kind.Long before (argument.Long n) is = record { width = length_spelt 8 n; is_bytes = spelt_bytes 8 n; accepted = refl }
spelt_value kind.Place before (argument.Long n) is = record { width = length_spelt 8 n; is_bytes = spelt_bytes 8 n; accepted = refl }
spelt_value kind.Word before (argument.Word w) is =
    record {
      width = length_both (short w.identity) (long w.value) 4 8 (length_spelt 4 w.identity) (length_spelt 8 w.value);
      is_bytes = append_bytes (short w.identity) (long w.value) (spelt_bytes 4 w.identity) (spelt_bytes 8 w.value);
      accepted = word_accepted w is;
    }
spelt_value kind.Frame before (argument.Frame f) is =
    record {
      width = length_both (short f.exit) (short f.enter) 4 4 (length_spelt 4 f.exit) (length_spelt 4 f.enter);
      is_bytes = append_bytes (short f.exit) (short f.enter) (spelt_bytes 4 f.exit) (spelt_bytes 4 f.enter);
      accepted = refl;
    }
spelt_value kind.OfThread before (argument.Short n) is = a_short kind.OfThread (map spell before) n refl (listed thread_kinds n refl is)
spelt_value kind.Endpoint before (argument.Short n) is = a_short kind.Endpoint (map spell before) n refl (listed endpoints n refl is)
spelt_value kind.OfSync before (argument.Short n) is = a_short kind.OfSync (map spell before) n refl (listed sync_kinds n refl is)
spelt_value kind.OfMutex before (argument.Short n) is = a_short kind.OfMutex (map spell before) n refl (listed mutex_kinds n refl is)
spelt_value kind.OfRelease before (argument.Short n) is = a_short kind.OfRelease (map spell before) n refl (listed release_kinds n refl is)
spelt_value kind.OfWork before (argument.Short n) is = a_short kind.OfWork (map spell before) n refl (listed work_kinds n refl is)
spelt_value kind.OfDispatch before (argument.Short n) is = a_short kind.OfDispatch (map spell before) n refl (listed dispatch_kinds n refl is)
spelt_value kind.Iterations before (argument.Long n) is =
    record { width = length_spelt 8 n; is_bytes = spelt_bytes 8 n; accepted = iterations_accepted before n is }
spelt_value kind.Status before (argument.Short n) is = a_short kind.Status (map spell before) n refl (listed statuses n refl is)
spelt_value kind.OfLock before (argument.Short n) is = a_short kind.OfLock (map spell before) n refl (exactly n 1 (omega arith) is)
spelt_value kind.Zero before (argument.Short n) is = a_short kind.Zero (map spell before) n refl (exactly n 0 (omega arith) is)
spelt_value kind.ParallelFlags before (argument.Short n) is = a_short kind.ParallelFlags (map spell before) n refl (exactly n parallel_flags (omega arith) is)
spelt_value kind.TaskFlags before (argument.Short n) is = a_short kind.TaskFlags (map spell before) n refl (listed task_flags n refl is)
spelt_value kind.ImplicitFlags before (argument.Short n) is = a_short kind.ImplicitFlags (map spell before) n refl (listed implicit_flags n refl is)
spelt_value which before value is = absurd is

-- two numbers, one behind the other
spells_both : (n m : ℕ) (bytes : List ℕ) → length bytes ≡ n + m → IsBytes bytes → big_bytes n (big_number n bytes) ++ big_bytes m (big_number m (drop n bytes)) ≡ bytes
spells_both n m bytes long of_bytes =
    let whole = take-append-drop n bytes in
    let front : length (take n bytes) ≡ n = omega (arith, length-take n bytes) in
    let same : big_number n (take n bytes) ≡ big_number n bytes =
    sym (reads_first n (take n bytes) (drop n bytes) (omega arith)) ∙ ap (big_number n) whole in
    ap (λ (k : ℕ). big_bytes n k ++ big_bytes m (big_number m (drop n bytes))) (sym same)
    ∙ ap (λ (l : List ℕ). l ++ big_bytes m (big_number m (drop n bytes))) (spells n (take n bytes) front (take_bytes n bytes of_bytes))
    ∙ ap (λ (l : List ℕ). take n bytes ++ l) (spells m (drop n bytes) (omega (arith, length-drop n bytes)) (drop_bytes n bytes of_bytes))
    ∙ whole

-- the value whose bytes these are
pub record IsSpelt (which : Kind) (before : List Argument) (bytes : List ℕ) : Type 0 where
  pub value : Argument
  pub is_value : IsValue which before value
  pub spelt : spell value ≡ bytes

-- A short number's value is read from its bytes.
from_short : (which : Kind) (before : List Argument) (bytes : List ℕ) → length bytes ≡ 4 → IsBytes bytes → IsValue which before (argument.Short (big_number 4 bytes)) → IsSpelt which before bytes
from_short which before bytes width of_bytes is = record { value = argument.Short (big_number 4 bytes); is_value = is; spelt = spells 4 bytes width of_bytes }

pub value_of : (which : Kind) (before : List Argument) (bytes : List ℕ) → IsArgument which (map spell before) bytes → IsSpelt which before bytes
value_of kind.Short before bytes is = from_short kind.Short before bytes is.width is.is_bytes (number_small 4 bytes is.is_bytes)
value_of kind.Long before bytes is =
    record { value = argument.Long (big_number 8 bytes); is_value = number_small 8 bytes is.is_bytes; spelt = spells 8 bytes is.width is.is_bytes }
value_of kind.Place before bytes is =
    record { value = argument.Long (big_number 8 bytes); is_value = number_small 8 bytes is.is_bytes; spelt = spells 8 bytes is.width is.is_bytes }
value_of kind.Word before bytes is =
    record {
      value = argument.Word (record { identity = big_number 4 bytes; value = big_number 8 (drop 4 bytes) });
      is_value = (number_small 4 bytes is.is_bytes, number_small 8 (drop 4 bytes) (drop_bytes 4 bytes is.is_bytes), null_back (big_number 4 bytes) (big_number 8 (drop 4 bytes)) is.accepted);
      spelt = spells_both 4 8 bytes is.width is.is_bytes;
    }
value_of kind.Frame before bytes is =
    record {
      value = argument.Frame (record { exit = big_number 4 bytes; enter = big_number 4 (drop 4 bytes) });
      is_value = (number_small 4 bytes is.is_bytes, number_small 4 (drop 4 bytes) (drop_bytes 4 bytes is.is_bytes));
      spelt = spells_both 4 4 bytes is.width is.is_bytes;
    }
value_of kind.OfThread before bytes is = from_short kind.OfThread before bytes is.width is.is_bytes is.accepted
value_of kind.Endpoint before bytes is = from_short kind.Endpoint before bytes is.width is.is_bytes is.accepted
value_of kind.OfSync before bytes is = from_short kind.OfSync before bytes is.width is.is_bytes is.accepted
value_of kind.OfMutex before bytes is = from_short kind.OfMutex before bytes is.width is.is_bytes is.accepted
value_of kind.OfRelease before bytes is = from_short kind.OfRelease before bytes is.width is.is_bytes is.accepted
value_of kind.OfWork before bytes is = from_short kind.OfWork before bytes is.width is.is_bytes is.accepted
value_of kind.OfDispatch before bytes is = from_short kind.OfDispatch before bytes is.width is.is_bytes is.accepted
value_of kind.Iterations before bytes is =
    record { value = argument.Long (big_number 8 bytes); is_value = iterations_back before bytes is.width is.is_bytes is.accepted; spelt = spells 8 bytes is.width is.is_bytes }
value_of kind.Status before bytes is = from_short kind.Status before bytes is.width is.is_bytes is.accepted
value_of kind.OfLock before bytes is = from_short kind.OfLock before bytes is.width is.is_bytes (eqb-true (big_number 4 bytes) 1 is.accepted)
value_of kind.Zero before bytes is = from_short kind.Zero before bytes is.width is.is_bytes (eqb-true (big_number 4 bytes) 0 is.accepted)
value_of kind.ParallelFlags before bytes is = from_short kind.ParallelFlags before bytes is.width is.is_bytes (eqb-true (big_number 4 bytes) parallel_flags is.accepted)
value_of kind.TaskFlags before bytes is = from_short kind.TaskFlags before bytes is.width is.is_bytes is.accepted
value_of kind.ImplicitFlags before bytes is = from_short kind.ImplicitFlags before bytes is.width is.is_bytes is.accepted
