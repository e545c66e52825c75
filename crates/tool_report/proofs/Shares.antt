-- What profiles counted of the events that they share, and the report of it.
use Rattle.std.proofs.Common.{◌≡◌, ◌≢◌, All, ℕ, suc, ◌+◌, ◌<◌, ◌==◌, Bool, true, false, cond, List, [], ◌∷◌, ◌++◌, length, map, set, get_or, refl, sym, ◌∙◌, ap, subst, arith, sum, codes, length-append, if◌then◌else◌}
use Rattle.std.specs.Fmt.{decimal}
use Rattle.std.specs.List.{filter, flat_map, sum_by, range_with_len}
use Rattle.std.specs.List.Sorted.{IsPermutation}
use Rattle.std.proofs.lemmas.Bool.{eq-eqb}
use Rattle.std.proofs.lemmas.Bool.Decides.{nat_tests}
use Rattle.std.proofs.lemmas.List.{get_or-map, length-map}
use Rattle.std.proofs.lemmas.List.Concat.{length-flat_map}
use Rattle.std.proofs.lemmas.List.Elements.{filter-append}
use Rattle.std.proofs.lemmas.List.Sums.{sum-map, sum_by-cons, length-filter}
use Rattle.std.proofs.lemmas.List.Sorted.{sum_by-IsPermutation, length_permutation}
use Rattle.omp_codes.specs.Answers.{callback_name}
use Rattle.omp_codes.specs.declared.callbacks.TheConstants.{PROFILE}
use Rattle.ompt_calls.specs.Number.{number_of}
use Rattle.ompt_calls.specs.declared.call.Call.{Call}
use Rattle.ompt_calls.specs.declared.call.Call.TheVariants.{ThreadBegin, ThreadEnd, ParallelBegin, ParallelEnd, TaskCreate, TaskSchedule, ImplicitTask, SyncRegionWait, MutexReleased, Work, Masked, SyncRegion, LockInit, LockDestroy, MutexAcquire, MutexAcquired, Dispatch}
use Rattle.ompt_calls.specs.declared.event.EventRecord.{EventRecord}
use Rattle.tool_report.specs.Counts.{count_of, counts_of}
use Rattle.tool_report.specs.Layout.{where_some, by_thread, right_in}
use Rattle.tool_report.specs.Order.{AreShared, AreKept}
use Rattle.tool_report.specs.Profile.{callback_names, count_line, count_lines, thread_line, profile_of}
use Rattle.tool_report.proofs.Counting.{times, times-none, one-more, sum-more, sum-made}
use Rattle.tool_report.proofs.Gathering.{gathered-all}
use Rattle.tool_report.proofs.Ranges.{same-lines, shifted, one-longer}
use Rattle.tool_report.proofs.Threads.{by_thread-over, threads-shared}

-- each callback's number is in the profile exactly once
once : (call : Call) → times (number_of call) PROFILE ≡ 1
once (ThreadBegin kind thread) = refl
once (ThreadEnd thread) = refl
once (ParallelBegin task frame region requested flags codeptr) = refl
once (ParallelEnd region task flags codeptr) = refl
once (TaskCreate task frame fresh flags has_dependences codeptr) = refl
once (TaskSchedule prior status next) = refl
once (ImplicitTask endpoint region task actual index flags) = refl
once (SyncRegionWait kind endpoint region task codeptr) = refl
once (MutexReleased kind wait_id codeptr) = refl
once (Work kind endpoint region task count codeptr) = refl
once (Masked endpoint region task codeptr) = refl
once (SyncRegion kind endpoint region task codeptr) = refl
once (LockInit kind hint variant wait_id codeptr) = refl
once (LockDestroy kind wait_id codeptr) = refl
once (MutexAcquire kind hint variant wait_id codeptr) = refl
once (MutexAcquired kind wait_id codeptr) = refl
once (Dispatch region task kind start iterations) = refl

-- so it is at a place of the profile
pub not-absent : (call : Call) (number : ℕ) (numbers : List ℕ) → number ≡ number_of call → numbers ≡ PROFILE → All (λ (listed : ℕ). listed ≢ number) numbers → ⊥
not-absent call number numbers is are none =
    let nowhere = times-none number numbers (λ k below. none k 0 below) in
    let one = ap (times number) are ∙ ap (λ (n : ℕ). times n PROFILE) is ∙ once call in
    omega arith

-- the name at the place of a callback is that of the callback
pub name-there : (place number : ℕ) → place < 17 → get_or PROFILE place 0 ≡ number → get_or callback_names place [] ≡ callback_name number
name-there place number below is = get_or-map callback_name PROFILE place 0 [] below ∙ ap callback_name is

-- the calls of a callback where one event more is the first
count-first : (number : ℕ) (event : EventRecord) (events : List EventRecord) → count_of number (event ∷ events) ≡ cond (number_of event.call == number) 1 0 + count_of number events
count-first number event events = kept (number_of event.call == number) event (filter (λ (other : EventRecord). number_of other.call == number) events)
  where
    kept : (b : Bool) (x : EventRecord) (xs : List EventRecord) → length (cond b (x ∷ xs) xs) ≡ cond b 1 0 + length xs
    kept true x xs = omega arith
    kept false x xs = omega arith

-- among two lists there are the calls of both
count-append : (number : ℕ) (before after : List EventRecord) → count_of number (before ++ after) ≡ count_of number before + count_of number after
count-append number before after = rw (filter-append (λ (event : EventRecord). number_of event.call == number) before after, length-append) refl

-- the calls of a callback where one event more is the last
count-last : (number : ℕ) (event : EventRecord) (events : List EventRecord) → count_of number (events ++ event ∷ []) ≡ count_of number events + cond (number_of event.call == number) 1 0
count-last number event events =
    let both = count-append number events (event ∷ []) in
    let one = count-first number event [] in
    let none : count_of number [] ≡ 0 = refl in
    omega arith

-- a call more is one more at the place of its callback
pub counted-call : (events : List EventRecord) (event : EventRecord) (place : ℕ) → place < 17 → get_or PROFILE place 0 ≡ number_of event.call → set (counts_of events) place (get_or (counts_of events) place 0 + 1) ≡ counts_of (events ++ event ∷ [])
counted-call events event place below is =
    one-more (number_of event.call) place (λ (number : ℕ). count_of number events) (λ (number : ℕ). count_of number (events ++ event ∷ [])) PROFILE below is (once event.call) here (λ n away. rw away at (count-last n event events) ∙ plus-zero (count_of n events))
  where
    plus-zero : (n : ℕ) → n + 0 ≡ n
    plus-zero n = omega arith

    here : count_of (number_of event.call) (events ++ event ∷ []) ≡ count_of (number_of event.call) events + 1
    here = rw (eq-eqb (number_of event.call) (number_of event.call) refl) at (count-last (number_of event.call) event events)

-- the calls of all callbacks are all the events
sum-of-callbacks : (events : List EventRecord) → sum_by (λ (number : ℕ). count_of number events) PROFILE ≡ length events
sum-of-callbacks [] = refl
sum-of-callbacks (event ∷ events) =
    let more = sum-more (number_of event.call) (λ (number : ℕ). count_of number events) (λ (number : ℕ). count_of number (event ∷ events)) PROFILE (λ number. count-first number event events) in
    let one = once event.call in
    let rest = sum-of-callbacks events in
    omega arith

-- so the counts of a profile sum up to its events
sum-of-counts : (events : List EventRecord) → sum (counts_of events) ≡ length events
sum-of-counts events = sum-map (λ (number : ℕ). count_of number events) PROFILE ∙ sum-of-callbacks events

-- the calls of a callback in each of some lists are those in all of them
count-gathered : (number : ℕ) (shares : List (List EventRecord)) → sum_by (λ (share : List EventRecord). count_of number share) shares ≡ count_of number (flat_map (λ (share : List EventRecord). share) shares)
count-gathered number [] = refl
count-gathered number (share ∷ shares) =
    let left = sum_by-cons (λ (share : List EventRecord). count_of number share) share shares in
    let right = count-append number share (flat_map (λ (share : List EventRecord). share) shares) in
    let rest = count-gathered number shares in
    omega arith

-- nor do they change with the order
count-moved : (number : ℕ) (events others : List EventRecord) → IsPermutation events others → count_of number others ≡ count_of number events
count-moved number events others moved =
    let is = λ (event : EventRecord). number_of event.call == number in
    length-filter is others ∙ sum_by-IsPermutation (λ (event : EventRecord). cond (is event) 1 0) events others moved ∙ sym (length-filter is events)

-- so the shares have the calls of a callback that the events have
shares-count : (events : List EventRecord) (shares : List (List EventRecord)) → AreShared events shares → (number : ℕ) → sum_by (λ (share : List EventRecord). count_of number share) shares ≡ count_of number events
shares-count events shares shared number = count-gathered number shares ∙ count-moved number events (flat_map (λ (share : List EventRecord). share) shares) (gathered-all events shares shared)

-- what the parts counted at a place is what the events have there
parts-count : (events : List EventRecord) (shares : List (List EventRecord)) → AreShared events shares → (place : ℕ) → place < 17 → sum_by (λ (counts : List ℕ). get_or counts place 0) (map counts_of shares) ≡ get_or (counts_of events) place 0
parts-count events shares shared place below =
    sum-made (λ (counts : List ℕ). get_or counts place 0) counts_of (λ (share : List EventRecord). count_of (get_or PROFILE place 0) share) (λ share. get_or-map (λ (number : ℕ). count_of number share) PROFILE place 0 0 below) shares
    ∙ shares-count events shares shared (get_or PROFILE place 0)
    ∙ sym (get_or-map (λ (number : ℕ). count_of number events) PROFILE place 0 0 below)

-- and what they counted in all is how many events there are
parts-sum : (events : List EventRecord) (shares : List (List EventRecord)) → AreShared events shares → sum_by (λ (counts : List ℕ). sum counts) (map counts_of shares) ≡ length events
parts-sum events shares shared =
    sum-made (λ (counts : List ℕ). sum counts) counts_of (λ (share : List EventRecord). length share) sum-of-counts shares
    ∙ sym (length-flat_map (λ (share : List EventRecord). share) shares)
    ∙ length_permutation events (flat_map (λ (share : List EventRecord). share) shares) (gathered-all events shares shared)

-- the lines of names and counts, place by place
lines-by-place : (names : List (List ℕ)) (counts : List ℕ) → length names ≡ length counts → count_lines names counts ≡ flat_map (λ (k : ℕ). count_line (get_or names k []) (get_or counts k 0)) (range_with_len 0 (length names))
lines-by-place [] counts same = refl
lines-by-place (name ∷ names) [] same = absurd (omega arith)
lines-by-place (name ∷ names) (count ∷ counts) same =
    ap (λ (rest : List ℕ). count_line name count ++ rest) (lines-by-place names counts (omega arith) ∙ sym (shifted (λ (k : ℕ). count_line (get_or (name ∷ names) k []) (get_or (count ∷ counts) k 0)) 0 (length names)))

-- the line of the callback at a place
abbrev pub place_line : List (List ℕ) → ℕ → List ℕ
place_line parts place = count_line (get_or callback_names place []) (sum_by (λ (counts : List ℕ). get_or counts place 0) parts)

-- the line of a thread with so many calls: nothing where there are none
abbrev pub some_line : ℕ → ℕ → List ℕ
some_line thread count = if count == 0 then [] else codes "thread" ++ right_in 12 (decimal thread) ++ right_in 10 (decimal count) ++ 10 ∷ []

-- the line of a thread, from its part
abbrev pub part_line : List (List ℕ) → ℕ → List ℕ
part_line parts thread = some_line thread (sum (get_or parts thread []))

-- it is the line of the thread's events, where it has some
some-line : (thread : ℕ) (events : List EventRecord) → some_line thread (length events) ≡ where_some (thread_line thread) events
some-line thread [] = refl
some-line thread (event ∷ events) = rw (not-none (length events)) refl
  where
    not-none : (n : ℕ) → (suc n == 0) ≡ false
    not-none n = grind (arith, nat_tests)

-- the line of a part is that of its thread
part-is : (events : List EventRecord) (shares : List (List EventRecord)) → AreShared events shares → (k : ℕ) → k < length shares → part_line (map counts_of shares) k ≡ where_some (thread_line k) (filter (λ (event : EventRecord). event.thread == k) events)
part-is events shares shared k below =
    let own = filter (λ (event : EventRecord). event.thread == k) events in
    ap (some_line k) (ap sum (get_or-map counts_of shares k [] [] below ∙ ap counts_of (shared.each k [] below)) ∙ sum-of-counts own) ∙ some-line k own

-- the lines of the first so many callbacks, and of the first so many threads
unfoldable pub places_text : List (List ℕ) → ℕ → List ℕ
places_text parts n = flat_map (place_line parts) (range_with_len 0 n)

unfoldable pub threads_text : List (List ℕ) → ℕ → List ℕ
threads_text parts n = flat_map (part_line parts) (range_with_len 0 n)

-- no line, and one line more
pub places-none : (parts : List (List ℕ)) → places_text parts 0 ≡ []
unfolding places_text
places-none parts = refl

pub places-more : (parts : List (List ℕ)) (n : ℕ) → places_text parts (n + 1) ≡ places_text parts n ++ place_line parts n
unfolding places_text
places-more parts n = one-longer (place_line parts) 0 n n (omega arith)

pub threads-none : (parts : List (List ℕ)) → threads_text parts 0 ≡ []
unfolding threads_text
threads-none parts = refl

pub threads-more : (parts : List (List ℕ)) (n : ℕ) → threads_text parts (n + 1) ≡ threads_text parts n ++ part_line parts n
unfolding threads_text
threads-more parts n = one-longer (part_line parts) 0 n n (omega arith)

-- the lines of all callbacks, and of all threads, are those of the report
callbacks-are : (events : List EventRecord) (shares : List (List EventRecord)) → AreShared events shares → places_text (map counts_of shares) 17 ≡ count_lines callback_names (counts_of events)
unfolding places_text
callbacks-are events shares shared =
    same-lines (place_line (map counts_of shares)) (λ (k : ℕ). count_line (get_or callback_names k []) (get_or (counts_of events) k 0)) 0 17 (λ k below. ap (count_line (get_or callback_names k [])) (parts-count events shares shared k (omega arith)))
    ∙ sym (lines-by-place callback_names (counts_of events) refl)

threads-are : (events : List EventRecord) (shares : List (List EventRecord)) → AreShared events shares → threads_text (map counts_of shares) (length (map counts_of shares)) ≡ by_thread thread_line events
unfolding threads_text
threads-are events shares shared =
    let parts = map counts_of shares in
    let few = length-map shares counts_of in
    same-lines (part_line parts) (λ (k : ℕ). where_some (thread_line k) (filter (λ (event : EventRecord). event.thread == k) events)) 0 (length parts) (λ k below. part-is events shares shared k (omega arith))
    ∙ sym (by_thread-over thread_line events (length parts) (rw few (threads-shared events shares shared)))

-- the lines of the callbacks, of all and of the threads are the profile of the events
shares-report : (events : List EventRecord) (shares : List (List EventRecord)) → AreShared events shares → places_text (map counts_of shares) 17 ++ count_line (codes "total") (sum_by (λ (counts : List ℕ). sum counts) (map counts_of shares)) ++ threads_text (map counts_of shares) (length (map counts_of shares)) ≡ profile_of events
shares-report events shares shared =
    joined _ _ _ _ _ _ (callbacks-are events shares shared) (ap (count_line (codes "total")) (parts-sum events shares shared)) (threads-are events shares shared)
  where
    joined : (a b c d e f : List ℕ) → a ≡ b → c ≡ d → e ≡ f → a ++ c ++ e ≡ b ++ d ++ f
    joined a b c d e f first second third = cc

-- the same from what is kept of the events
pub report-is : (events : List EventRecord) (parts : List (List ℕ)) → AreKept counts_of events parts → places_text parts 17 ++ count_line (codes "total") (sum_by (λ (counts : List ℕ). sum counts) parts) ++ threads_text parts (length parts) ≡ profile_of events
report-is events parts kept =
    subst (λ (all : List (List ℕ)). places_text all 17 ++ count_line (codes "total") (sum_by (λ (counts : List ℕ). sum counts) all) ++ threads_text all (length all) ≡ profile_of events) (sym kept.kept) (shares-report events kept.shares kept.shared)
