-- All that is known after one event more.
use Rattle.std.proofs.Common.{◌≡◌, ℕ, ◌+◌, ◌-◌, ◌*◌, ◌<◌, ◌||◌, ◌==◌, Bool, true, false, cond, List, [], ◌∷◌, length, Option, Some, None, refl, sym, ◌∙◌, ap, subst, arith}
use Rattle.std.proofs.lemmas.Bool.{eq-eqb}
use Rattle.std.specs.Option.{SomeIff}
use Rattle.std.specs.Ordering.{nat_cmp}
use Rattle.std.specs.BTreeMap.{BTreeMap, Updates, get}
use Rattle.ompt_calls.specs.declared.call.Call.{Call}
use Rattle.ompt_calls.specs.declared.event.EventRecord.{EventRecord}
use Rattle.trace_check.specs.declared.bracket.Bracket.{Bracket}
use Rattle.trace_check.specs.declared.change.Change.{Change}
use Rattle.trace_check.specs.declared.change.Change.TheVariants.{Opens, Closes, Stays}
use Rattle.trace_check.specs.declared.kept.Kept.{Kept}
use Rattle.trace_check.specs.declared.things.Asked.{Asked}
use Rattle.trace_check.specs.declared.things.Current.{Current}
use Rattle.trace_check.specs.declared.things.Opened.{Opened}
use Rattle.trace_check.specs.declared.things.Thread.{Thread}
use Rattle.trace_check.specs.Brackets.{change_of, changed, is_innermost}
use Rattle.trace_check.specs.Before.{Join, and_more, is_end, joins, opened}
use Rattle.trace_check.specs.Checking.{IsKnown, KnownBrackets, KnownThings, KnownThreads, Unbroken, asked_in, bracket_at, current_after, is_closing, running, thread_known}
use Rattle.trace_check.specs.Rules.{first_broken, may_change}
use Rattle.trace_check.proofs.CurrentTask.{closing_joins, opened_current, staying_joins}
use Rattle.trace_check.proofs.Kept12.{KeepsAll, keeps_all}
use Rattle.trace_check.proofs.ThreadParts.{brackets_back, brackets_closed, brackets_opened, brackets_stay, closed_before, first_call, first_thread, later_thread, thread_fields, threads_more}
use Rattle.trace_check.proofs.Unmoved.{begin_tells, things_same}
use Rattle.trace_check.proofs.Tests.{left}

-- what is kept of regions and tasks, beside other threads and brackets
pub beside : (kept : Kept) (threads : BTreeMap ℕ Thread) (brackets : BTreeMap ℕ Opened) (past : List EventRecord) → KnownThings kept past
    → KnownThings (record kept { threads = threads; brackets = brackets }) past
beside kept threads brackets past known = record {
  regions = known.regions;
  members = known.members;
  created = known.created;
  held = known.held;
  greatest_region = known.greatest_region;
  greatest_task = known.greatest_task;
  children = known.children;
}

-- a thread that is there runs the current task, and has so many brackets open
kept_thread : (kept : Kept) (past : List EventRecord) (t : ℕ) (thread : Thread) → IsKnown kept past → get nat_cmp kept.threads t ≡ Some thread
    → thread_known t past ≡ Some thread
kept_thread kept past t thread known is = sym (known.threads t) ∙ is

pub kept_current : (kept : Kept) (past : List EventRecord) (t : ℕ) (thread : Thread) → IsKnown kept past → get nat_cmp kept.threads t ≡ Some thread
    → thread.current ≡ running (joins past) (opened t past)
kept_current kept past t thread known is = ap (λ (one : Thread). one.current) (thread_fields t past thread (kept_thread kept past t thread known is)).0

kept_depth : (kept : Kept) (past : List EventRecord) (t : ℕ) (thread : Thread) → IsKnown kept past → get nat_cmp kept.threads t ≡ Some thread
    → thread.depth ≡ length (opened t past)
kept_depth kept past t thread known is = ap (λ (one : Thread). one.depth) (thread_fields t past thread (kept_thread kept past t thread known is)).0

abbrev thread_of_parts : Bool → Bool → Option Asked → Option Current → ℕ → Thread
thread_of_parts ended later asked current depth = record { ended = ended; later = later; asked = asked; current = current; depth = depth }

-- a thread after an event, with its brackets
abbrev after_event : Thread → Call → Option Current → ℕ → Thread
after_event thread call current depth =
    record { ended = thread.ended || is_end call; later = true; asked = asked_in (Some call); current = current; depth = depth }

-- by its parts
pub after_is : (one thread : Thread) (call : Call) (current : Option Current) (depth : ℕ) → one.ended ≡ (thread.ended || is_end call) → one.later ≡ true
    → one.asked ≡ asked_in (Some call)
    → one.current ≡ current → one.depth ≡ depth → one ≡ after_event thread call current depth
after_is one thread call current depth ended later asked runs deep =
    same_parts one.ended (thread.ended || is_end call) one.later one.asked
    (asked_in (Some call)) one.current current one.depth depth ended later asked runs deep
  where
    same_parts : (a b l : Bool) (c d : Option Asked) (e f : Option Current) (n m : ℕ) → a ≡ b → l ≡ true → c ≡ d → e ≡ f → n ≡ m
        → thread_of_parts a l c e n ≡ thread_of_parts b true d f m
    same_parts a b l c d e f n m ended later asked runs deep = rw (ended, later, asked, runs, deep) refl

-- ---- the begin of a thread

pub first_known : (kept : Kept) (threads : BTreeMap ℕ Thread) (past : List EventRecord) (event : EventRecord) (thread : Thread) → IsKnown kept past
    → Unbroken past
    → first_broken past event ≡ None → get nat_cmp kept.threads event.thread ≡ None
    → thread ≡ record { ended = false; later = false; asked = None; current = None; depth = 0 }
    → Updates nat_cmp kept.threads threads event.thread (Some thread)
    → IsKnown (record kept { threads = threads }) (event ∷ past)
first_known kept threads past event thread known unbroken keeps none is updates =
    let unknown : thread_known event.thread past ≡ None = sym (known.threads event.thread) ∙ none in
    let begins = begin_tells event.call (first_call past event unknown keeps) in
    record {
      threads = threads_more kept.threads threads past event thread unbroken keeps known.threads updates (is ∙ first_thread past event unknown keeps);
      brackets = brackets_stay kept.brackets past event unbroken keeps known.brackets begins.1;
      things = beside kept threads kept.brackets (event ∷ past) (things_same kept past event begins.0 known.things);
    }

-- ---- an event that leaves the brackets

pub stayed_known : (old kept : Kept) (threads : BTreeMap ℕ Thread) (past : List EventRecord) (event : EventRecord) (thread one : Thread) → IsKnown old past
    → Unbroken past
    → first_broken past event ≡ None → get nat_cmp old.threads event.thread ≡ Some thread → change_of event.call ≡ Stays
    → kept.threads ≡ old.threads → kept.brackets ≡ old.brackets → KnownThings kept (event ∷ past)
    → one ≡ after_event thread event.call thread.current thread.depth → Updates nat_cmp kept.threads threads event.thread (Some one)
    → IsKnown (record kept { threads = threads }) (event ∷ past)
stayed_known old kept threads past event thread one known unbroken keeps is stays same_threads same_brackets things one_is updates =
    let brackets : List Bracket = opened event.thread past in
    let runs : thread.current ≡ running (joins (event ∷ past)) (changed (change_of event.call) brackets) =
    kept_current old past event.thread thread known is
    ∙ (ap (λ (join : Option Join). running (and_more join (joins past)) brackets) (sym (staying_joins event.call stays))
    ∙ ap (λ (change : Change). running (joins (event ∷ past)) (changed change brackets)) (sym stays)) in
    let deep : thread.depth ≡ length (changed (change_of event.call) brackets) =
    kept_depth old past event.thread thread known is ∙ ap (λ (change : Change). length (changed change brackets)) (sym stays) in
    record {
      threads = threads_more old.threads threads past event one unbroken keeps known.threads
          (subst (λ (m : BTreeMap ℕ Thread). Updates nat_cmp m threads event.thread (Some one)) same_threads updates)
          (one_is ∙ later_thread past event thread thread.current thread.depth (kept_thread old past event.thread thread known is) runs deep);
      brackets = subst (λ (m : BTreeMap ℕ Opened). KnownBrackets m (event ∷ past)) (sym same_brackets)
          (brackets_stay old.brackets past event unbroken keeps known.brackets stays);
      things = beside kept threads kept.brackets (event ∷ past) things;
    }

-- ---- the begin of a bracket

-- what a sum that fits is
pub some_value : (found : Option ℕ) (fits : Type 0) (sum value : ℕ) → SomeIff found fits sum → found ≡ Some value → value ≡ sum
some_value None fits sum value is some = absurd (cc)
some_value (Some other) fits sum value is some = let e : other ≡ value = cc in sym e ∙ is.1

longer : (bracket : Bracket) (brackets : List Bracket) (depth more : ℕ) → depth ≡ length brackets → more ≡ depth + 1 → more ≡ length (bracket ∷ brackets)
longer bracket brackets depth more is next = omega arith

pub opened_known : (old entered : Kept) (brackets : BTreeMap ℕ Opened) (threads : BTreeMap ℕ Thread) (past : List EventRecord) (event : EventRecord)
    (thread one : Thread) (bracket : Bracket) (depth : ℕ)
    → IsKnown old past → Unbroken past → first_broken past event ≡ None → get nat_cmp old.threads event.thread ≡ Some thread
    → change_of event.call ≡ Opens bracket
    → depth ≡ thread.depth + 1 → thread.depth < 4294967296
    → Updates nat_cmp old.brackets brackets (event.thread * 4294967296 + thread.depth) (Some (record { bracket = bracket; before = thread.current }))
    → entered.threads ≡ old.threads → entered.brackets ≡ brackets → KnownThings entered (event ∷ past)
    → one ≡ after_event thread event.call (current_after event.call thread.current) depth → Updates nat_cmp entered.threads threads event.thread (Some one)
    → IsKnown (record entered { threads = threads }) (event ∷ past)
opened_known old entered brackets threads past event thread one bracket depth known unbroken keeps is opens deeper fits puts same_threads same_brackets things one_is updates =
    let before : List Bracket = opened event.thread past in
    let deep : thread.depth ≡ length before = kept_depth old past event.thread thread known is in
    let ran : thread.current ≡ running (joins past) before = kept_current old past event.thread thread known is in
    let runs : current_after event.call thread.current ≡ running (joins (event ∷ past)) (changed (change_of event.call) before) =
    ap (current_after event.call) ran
    ∙ (opened_current past event bracket unbroken keeps opens ∙ ap (λ (change : Change). running (joins (event ∷ past)) (changed change before))
    (sym opens)) in
    let more : depth ≡ length (changed (change_of event.call) before) =
    longer bracket before thread.depth depth deep deeper ∙ ap (λ (change : Change). length (changed change before)) (sym opens) in
    let put_deep =
    subst (λ (n : ℕ). Updates nat_cmp old.brackets brackets (event.thread * 4294967296 + n) (Some (record {
      bracket =
          bracket;
      before = thread.current;
    }))) deep puts in
    record {
      threads = threads_more old.threads threads past event one unbroken keeps known.threads
          (subst (λ (m : BTreeMap ℕ Thread). Updates nat_cmp m threads event.thread (Some one)) same_threads updates)
          (one_is ∙ later_thread past event thread (current_after event.call thread.current) depth
          (kept_thread old past event.thread thread known is) runs more);
      brackets = subst (λ (m : BTreeMap ℕ Opened). KnownBrackets m (event ∷ past)) (sym same_brackets)
          (brackets_opened old.brackets brackets past event bracket unbroken keeps known.brackets opens (subst (λ (n : ℕ). n < 4294967296) deep fits)
          (subst (λ (current : Option Current). Updates nat_cmp old.brackets brackets (event.thread * 4294967296 + length before) (Some (record {
            bracket =
                bracket;
            before = current;
          }))) ran put_deep));
      things = beside entered threads entered.brackets (event ∷ past) things;
    }

-- one that is taken back
pub taken_back : (old entered : Kept) (put taken : BTreeMap ℕ Opened) (past : List EventRecord) (t : ℕ) (thread : Thread) (one : Opened) → IsKnown old past
    → get nat_cmp old.threads t ≡ Some thread → thread.depth < 4294967296 → Updates nat_cmp old.brackets put (t * 4294967296 + thread.depth) (Some one)
    → entered.threads ≡ old.threads → entered.brackets ≡ put → KnownThings entered past
    → Updates nat_cmp entered.brackets taken (t * 4294967296 + thread.depth) None
    → IsKnown (record entered { brackets = taken }) past
taken_back old entered put taken past t thread one known is fits puts same_threads same_brackets things takes = record {
  threads = subst (λ (m : BTreeMap ℕ Thread). KnownThreads m past) (sym same_threads) known.threads;
  brackets = brackets_back old.brackets put taken past t thread.depth one known.brackets (sym (kept_depth old past t thread known is)) fits puts
      (subst (λ (m : BTreeMap ℕ Opened). Updates nat_cmp m taken (t * 4294967296 + thread.depth) None) same_brackets takes);
  things = beside entered entered.threads taken past things;
}

-- ---- the end of one

closes_some : (change : Change) → is_closing change ≡ true → (bracket : Bracket) × (change ≡ Closes bracket)
closes_some (Closes bracket) closes = (bracket, refl)
closes_some (Opens bracket) closes = absurd (cc)
closes_some Stays closes = absurd (cc)

innermost_some : (brackets : List Bracket) (ended : Bracket) → is_innermost brackets ended ≡ true
    → (bracket : Bracket) × (rest : List Bracket) × (brackets ≡ bracket ∷ rest)
innermost_some [] ended is = absurd (cc)
innermost_some (bracket ∷ rest) ended is = (bracket, rest, refl)

-- the task before a bracket
abbrev pub task_before : Option Opened → Option Current
task_before None = None
task_before (Some one) = one.before

shorter : (bracket : Bracket) (rest brackets : List Bracket) (depth place : ℕ) → brackets ≡ bracket ∷ rest → depth ≡ length brackets → place ≡ depth - 1
    → (place ≡ length rest) × (length brackets ≡ place + 1)
shorter bracket rest brackets depth place is deep less =
    let long : length brackets ≡ length rest + 1 = rw is (omega arith) in
    let at : place ≡ length rest = omega arith in
    (at, omega arith)

found_before : (all : List Join) (bracket : Bracket) (rest : List Bracket) (place : ℕ) → place ≡ length rest
    → task_before (bracket_at all place (bracket ∷ rest)) ≡ running all rest
found_before all bracket rest place at = by-test (length rest == place) (eq-eqb (length rest) place (sym at))
  where
    by-test : (b : Bool) → b ≡ true
        → task_before (cond b (Some (record { bracket = bracket; before = running all rest })) (bracket_at all place rest)) ≡ running all rest
    by-test true is = refl
    by-test false is = absurd (cc)

pub closed_known : (old gone : Kept) (brackets : BTreeMap ℕ Opened) (threads : BTreeMap ℕ Thread) (past : List EventRecord) (event : EventRecord)
    (thread one : Thread) (place : ℕ) (found : Option Opened)
    → IsKnown old past → Unbroken past → first_broken past event ≡ None → get nat_cmp old.threads event.thread ≡ Some thread
    → is_closing (change_of event.call) ≡ true
    → place ≡ thread.depth - 1 → place < 4294967296 → found ≡ get nat_cmp old.brackets (event.thread * 4294967296 + place)
    → Updates nat_cmp old.brackets brackets (event.thread * 4294967296 + place) None
    → gone.threads ≡ old.threads → gone.brackets ≡ brackets → KnownThings gone (event ∷ past)
    → one ≡ after_event thread event.call (task_before found) place → Updates nat_cmp gone.threads threads event.thread (Some one)
    → IsKnown (record gone { threads = threads }) (event ∷ past)
closed_known old gone brackets threads past event thread one place found known unbroken keeps is closes less fits found_is takes same_threads same_brackets things one_is updates =
    let before : List Bracket = opened event.thread past in
    let all : KeepsAll past event = keeps_all past event keeps in
    let some = closes_some (change_of event.call) closes in
    let ended : Bracket = some.0 in
    let matches : is_innermost before ended ≡ true =
    subst (λ (change : Change). may_change past event.thread change ≡ true) some.1
    (left (may_change past event.thread (change_of event.call)) _ all.brackets) in
    let top = innermost_some before ended matches in
    let last = shorter top.0 top.1 before thread.depth place top.2 (kept_depth old past event.thread thread known is) less in
    let there : found ≡ bracket_at (joins past) place before =
    closed_before old.brackets past event ended place found known.brackets keeps some.1 last.1 fits (sym found_is) in
    let ran : task_before found ≡ running (joins past) top.1 =
    ap task_before (there ∙ ap (bracket_at (joins past) place) top.2) ∙ found_before (joins past) top.0 top.1 place last.0 in
    let rest : top.1 ≡ changed (change_of event.call) before =
    sym (ap (changed (Closes ended)) top.2) ∙ ap (λ (change : Change). changed change before) (sym some.1) in
    let runs : task_before found ≡ running (joins (event ∷ past)) (changed (change_of event.call) before) =
    ran ∙ (ap (λ (join : Option Join). running (and_more join (joins past)) top.1) (sym (closing_joins event.call closes)) ∙ ap
    (running (joins (event ∷ past))) rest) in
    let deep : place ≡ length (changed (change_of event.call) before) = last.0 ∙ ap (λ (left_ones : List Bracket). length left_ones) rest in
    record {
      threads = threads_more old.threads threads past event one unbroken keeps known.threads
          (subst (λ (m : BTreeMap ℕ Thread). Updates nat_cmp m threads event.thread (Some one)) same_threads updates)
          (one_is ∙ later_thread past event thread (task_before found) place (kept_thread old past event.thread thread known is) runs deep);
      brackets = subst (λ (m : BTreeMap ℕ Opened). KnownBrackets m (event ∷ past)) (sym same_brackets)
          (brackets_closed old.brackets brackets past event ended place unbroken keeps known.brackets some.1 last.1 fits takes);
      things = beside gone threads gone.brackets (event ∷ past) things;
    }
