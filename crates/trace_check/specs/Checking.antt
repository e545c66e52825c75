-- What a checker keeps of the events before, the newest first. It serves the proofs.
use Rattle.std.specs.Prelude.{ℕ, ◌≡◌, ◌+◌, ◌*◌, ◌<◌, ◌≤◌, ◌==◌, ◌&&◌, ◌⊎◌, Bool, true, false, not, nat_le, nat_lt, List, [], ◌∷◌, ◌++◌, length, reverse, count_by, Option, Some, None, if◌then◌else◌}
use Rattle.std.specs.Ordering.{nat_cmp}
use Rattle.std.specs.BTreeMap.{BTreeMap, IsOrdered, btree_map_len, get}
use Rattle.omp_codes.specs.declared.endpoints.TheConstants.{END}
use Rattle.omp_codes.specs.declared.task_flags.TheConstants.{INITIAL}
use Rattle.ompt_calls.specs.declared.call.Call.{Call}
use Rattle.ompt_calls.specs.declared.call.Call.TheVariants.{ImplicitTask, MutexAcquire, SyncRegionWait, TaskSchedule}
use Rattle.ompt_calls.specs.declared.event.EventRecord.{EventRecord}
use Rattle.trace_format.specs.declared.trace.Header.{Header}
use Rattle.trace_check.specs.declared.bracket.Bracket.{Bracket}
use Rattle.trace_check.specs.declared.breach.Breach.{Breach}
use Rattle.trace_check.specs.declared.checker.Checker.{Checker}
use Rattle.trace_check.specs.declared.kept.Kept.{Kept}
use Rattle.trace_check.specs.declared.things.Asked.{Asked}
use Rattle.trace_check.specs.declared.things.Created.{Created}
use Rattle.trace_check.specs.declared.things.Current.{Current}
use Rattle.trace_check.specs.declared.things.Member.{Member}
use Rattle.trace_check.specs.declared.things.Opened.{Opened}
use Rattle.trace_check.specs.declared.things.Region.{Region}
use Rattle.trace_check.specs.declared.things.Seat.{Seat}
use Rattle.trace_check.specs.declared.things.Thread.{Thread}
use Rattle.trace_check.specs.declared.change.Change.{Change}
use Rattle.trace_check.specs.declared.change.Change.TheVariants.{Opens, Closes, Stays}
use Rattle.trace_check.specs.Brackets.{current_in}
use Rattle.trace_check.specs.Before.{Creation, Join, creations, events_of, greatest_region, greatest_task, has_ended, has_left, has_started, holder, is_barrier, is_complete, is_open_region, joins, joins_of, latest, opened, waits_of}
use Rattle.trace_check.specs.Rules.{first_broken, have_waited}
use Rattle.trace_check.specs.Nested.{BrokenAt, BrokenMask, is_whole_mask}

-- no event breaks a rule
abbrev pub Unbroken : List EventRecord → Type 0
Unbroken [] = Unit {0}
Unbroken (event ∷ past) = (first_broken past event ≡ None) × Unbroken past

-- ---- threads and brackets

-- what an event asks for
abbrev pub asked_in : Option Call → Option Asked
asked_in None = None
asked_in (Some (MutexAcquire kind hint variant wait_id codeptr)) = Some (record { kind = kind; wait_id = wait_id })
asked_in (Some other) = None

-- where a task joined a region
abbrev pub seat_in : ℕ → List Join → Option Seat
seat_in task [] = None
seat_in task (join ∷ joins) = if join.task == task then Some (record { region = join.region; index = join.index }) else seat_in task joins

-- the task that a thread with these brackets runs, after these joins
abbrev pub current_with : List Join → Option ℕ → Option Current
current_with joins None = None
current_with joins (Some task) = Some (record { task = task; seat = seat_in task joins })

abbrev pub running : List Join → List Bracket → Option Current
running joins brackets = current_with joins (current_in brackets)

abbrev pub thread_of : ℕ → List EventRecord → Thread
thread_of t past = record {
  ended = has_ended t past;
  later = nat_le 2 (events_of t past);
  asked = asked_in (latest t past);
  current = running (joins past) (opened t past);
  depth = length (opened t past);
}

-- a thread is known where it had an event
abbrev pub thread_known : ℕ → List EventRecord → Option Thread
thread_known t past = if events_of t past == 0 then None else Some (thread_of t past)

-- the bracket at this place, from the outermost
abbrev pub bracket_at : List Join → ℕ → List Bracket → Option Opened
bracket_at joins place [] = None
bracket_at joins place (bracket ∷ rest) =
    if length rest == place then Some (record { bracket = bracket; before = running joins rest }) else bracket_at joins place rest

-- the innermost one
abbrev pub innermost_in : List Bracket → Option Bracket
innermost_in [] = None
innermost_in (bracket ∷ rest) = Some bracket

-- ---- regions and their implicit tasks

-- the size of a team, by its newest implicit task
abbrev pub team_size : List Join → Option ℕ
team_size [] = None
team_size (join ∷ joins) = Some join.actual

-- what is kept of an open region. So many waits as it says have begun in each of its implicit tasks
pub record OpenRegion (r : ℕ) (past : List EventRecord) (region : Region) : Type 0 where
  pub is_open : is_open_region r past ≡ true
  pub actual : region.actual ≡ team_size (joins_of r past)
  pub had : region.had ≡ length (joins_of r past)
  pub waited : (actual : ℕ) → region.actual ≡ Some actual → 1 ≤ region.waited → have_waited past r actual region.waited ≡ true

abbrev pub IsRegion : ℕ → List EventRecord → Option Region → Type 0
IsRegion r past None = is_open_region r past ≡ false
IsRegion r past (Some region) = OpenRegion r past region

-- how many tasks with this creator aren't complete
abbrev pub children_of : ℕ → List EventRecord → ℕ
children_of task past = count_by (λ (creation : Creation). (creation.creator == task) && not (is_complete creation.task past)) (creations past)

-- the newest join with this index
abbrev pub join_at : ℕ → List Join → Option Join
join_at index [] = None
join_at index (join ∷ joins) = if join.index == index then Some join else join_at index joins

abbrev pub member_of : List EventRecord → Option Join → Option Member
member_of past None = None
member_of past (Some join) = Some (record {
  task = join.task;
  left = has_left join.task past;
  waits = waits_of join.task past;
  children = children_of join.task past;
})

-- the implicit task with this index in an open region
abbrev pub member_known : ℕ → ℕ → List EventRecord → Option Member
member_known r index past = if is_open_region r past then member_of past (join_at index (joins_of r past)) else None

-- ---- created tasks

abbrev pub creation_in : ℕ → List Creation → Option Creation
creation_in task [] = None
creation_in task (creation ∷ creations) = if creation.task == task then Some creation else creation_in task creations

abbrev pub created_of : List EventRecord → Option Creation → Option Created
created_of past None = None
created_of past (Some creation) = Some (record {
  creator = record { task = creation.creator; seat = seat_in creation.creator (joins past) };
  started = has_started creation.task past;
  children = children_of creation.task past;
})

-- a created task is known until it is complete
abbrev pub created_known : ℕ → List EventRecord → Option Created
created_known task past = if is_complete task past then None else created_of past (creation_in task (creations past))

-- ---- all that is kept

abbrev pub KnownThreads : BTreeMap ℕ Thread → List EventRecord → Type 0
KnownThreads threads past = (t : ℕ) → get nat_cmp threads t ≡ thread_known t past

abbrev pub KnownBrackets : BTreeMap ℕ Opened → List EventRecord → Type 0
KnownBrackets brackets past = (t place : ℕ) → place < 4294967296 → get nat_cmp brackets (t * 4294967296 + place) ≡ bracket_at (joins past) place (opened t past)

abbrev pub KnownRegions : BTreeMap ℕ Region → List EventRecord → Type 0
KnownRegions regions past = (r : ℕ) → IsRegion r past (get nat_cmp regions r)

abbrev pub KnownMembers : BTreeMap ℕ Member → List EventRecord → Type 0
KnownMembers members past = (r index : ℕ) → index < 4294967296 → get nat_cmp members (r * 4294967296 + index) ≡ member_known r index past

abbrev pub KnownCreated : BTreeMap ℕ Created → List EventRecord → Type 0
KnownCreated created past = (task : ℕ) → get nat_cmp created task ≡ created_known task past

abbrev pub KnownHeld : BTreeMap ℕ ℕ → List EventRecord → Type 0
KnownHeld held past = (id : ℕ) → get nat_cmp held id ≡ holder id past

-- what is kept beside the threads and their brackets
pub record KnownThings (kept : Kept) (past : List EventRecord) : Type 0 where
  pub regions : KnownRegions kept.regions past
  pub members : KnownMembers kept.members past
  pub created : KnownCreated kept.created past
  pub held : KnownHeld kept.held past
  pub greatest_region : kept.greatest_region ≡ greatest_region past
  pub greatest_task : kept.greatest_task ≡ greatest_task past
  pub children : kept.children ≡ children_of 1 past

pub record IsKnown (kept : Kept) (past : List EventRecord) : Type 0 where
  pub threads : KnownThreads kept.threads past
  pub brackets : KnownBrackets kept.brackets past
  pub things : KnownThings kept past

-- what is kept of regions and tasks after an event that breaks no rule, where it was kept before it
abbrev pub Learns : Kept → Kept → EventRecord → Type 0
Learns old new event = (past : List EventRecord) → KnownThings old past → Unbroken past → first_broken past event ≡ None → KnownThings new (event ∷ past)

-- the same where the event's thread runs this task before it
abbrev pub LearnsOf : Option Current → Kept → Kept → EventRecord → Type 0
LearnsOf current old new event =
    (past : List EventRecord) → current ≡ running (joins past) (opened event.thread past) → KnownThings old past → Unbroken past
    → first_broken past event ≡ None → KnownThings new (event ∷ past)

-- what is kept of them is kept still
abbrev pub LearnsNothing : Kept → Kept → Type 0
LearnsNothing old new = (past : List EventRecord) → KnownThings old past → KnownThings new past

-- the end of a wait at a barrier
abbrev pub passes_barrier : Call → Bool
passes_barrier (SyncRegionWait kind endpoint region task codeptr) = (endpoint == END) && is_barrier kind
passes_barrier other = false

-- the task that a thread runs after the begin of a bracket, with the one that it ran before
abbrev pub current_after : Call → Option Current → Option Current
current_after (ImplicitTask endpoint region task actual index flags) before =
    Some (record { task = task.identity; seat = if flags == INITIAL then None else Some (record { region = region.identity; index = index }) })
current_after (TaskSchedule prior status next) before = Some (record { task = next.identity; seat = None })
current_after other before = before

-- what opens a bracket
abbrev pub is_opening : Change → Bool
is_opening (Opens bracket) = true
is_opening (Closes bracket) = false
is_opening Stays = false

-- the keys of each map ascend
pub record AreOrdered (kept : Kept) : Type 0 where
  pub threads : IsOrdered nat_cmp kept.threads
  pub brackets : IsOrdered nat_cmp kept.brackets
  pub regions : IsOrdered nat_cmp kept.regions
  pub members : IsOrdered nat_cmp kept.members
  pub created : IsOrdered nat_cmp kept.created
  pub held : IsOrdered nat_cmp kept.held

-- the sum of the lengths
abbrev pub kept_by : Kept → ℕ
kept_by kept =
    btree_map_len kept.threads + btree_map_len kept.brackets + btree_map_len kept.regions + btree_map_len kept.members
    + btree_map_len kept.created + btree_map_len kept.held

-- ---- the rules, over what is kept

abbrev pub is_closing : Change → Bool
is_closing (Opens bracket) = false
is_closing (Closes bracket) = true
is_closing Stays = false

-- a size that a team may have
abbrev pub fits_size : Option ℕ → ℕ → Bool
fits_size None actual = true
fits_size (Some size) actual = size == actual

abbrev pub has_left_in : Option Member → Bool
has_left_in None = false
has_left_in (Some member) = member.left

abbrev pub has_waited_in : ℕ → Option Member → Bool
has_waited_in waits None = false
has_waited_in waits (Some member) = nat_le waits member.waits

abbrev pub member_children : Option Member → ℕ
member_children None = 0
member_children (Some member) = member.children

abbrev pub created_children : Option Created → ℕ
created_children None = 0
created_children (Some created) = created.children

abbrev pub seat_children : Kept → ℕ → Option Seat → ℕ
seat_children kept task None = created_children (get nat_cmp kept.created task)
seat_children kept task (Some seat) = member_children (get nat_cmp kept.members (seat.region * 4294967296 + seat.index))

-- how many tasks with this creator aren't complete, as it is kept
abbrev pub children_kept : Kept → Current → ℕ
children_kept kept current = if current.task == 1 then kept.children else seat_children kept current.task current.seat

-- ---- the counts of children, put anew

-- whether a task has this place in a team, or none
abbrev pub is_seat : ℕ → ℕ → Option Seat → Bool
is_seat r index None = false
is_seat r index (Some seat) = (seat.region == r) && (seat.index == index)

abbrev pub is_unseated : Option Seat → Bool
is_unseated None = true
is_unseated (Some seat) = false

-- whether its count is kept with this implicit task, or with this created one. That of the initial task is kept for itself
abbrev pub counts_in_team : Current → ℕ → ℕ → Bool
counts_in_team current r index = not (current.task == 1) && is_seat r index current.seat

abbrev pub counts_alone : Current → ℕ → Bool
counts_alone current task = not (current.task == 1) && (is_unseated current.seat && (current.task == task))

-- the same with another count
abbrev pub member_with : ℕ → Option Member → Option Member
member_with children None = None
member_with children (Some member) = Some (record { task = member.task; left = member.left; waits = member.waits; children = children })

abbrev pub created_with : ℕ → Option Created → Option Created
created_with children None = None
created_with children (Some created) = Some (record { creator = created.creator; started = created.started; children = children })

-- all is as before but for the count of this task
pub record PutsChildren (old new : Kept) (current : Current) (count : ℕ) : Type 0 where
  pub regions : new.regions ≡ old.regions
  pub held : new.held ≡ old.held
  pub greatest_region : new.greatest_region ≡ old.greatest_region
  pub greatest_task : new.greatest_task ≡ old.greatest_task
  pub children : new.children ≡ (if current.task == 1 then count else old.children)
  pub members : (r index : ℕ) → index < 4294967296 → get nat_cmp new.members (r * 4294967296 + index)
      ≡ (if counts_in_team current r index then member_with count (get nat_cmp old.members (r * 4294967296 + index))
      else get nat_cmp old.members (r * 4294967296 + index))
  pub created : (task : ℕ) → get nat_cmp new.created task
      ≡ (if counts_alone current task then created_with count (get nat_cmp old.created task) else get nat_cmp old.created task)

-- ---- a checker

-- the position of the newest event, and that positions rise
abbrev pub newest_seq : List EventRecord → Option ℕ
newest_seq [] = None
newest_seq (event ∷ past) = Some event.seq

abbrev pub is_after : Option ℕ → ℕ → Bool
is_after None seq = true
is_after (Some last) seq = nat_lt last seq

abbrev pub Rises : List EventRecord → Type 0
Rises [] = Unit {0}
Rises (event ∷ past) = (is_after (newest_seq past) event.seq ≡ true) × Rises past

-- the first event that breaks a rule, among these
pub record BrokenIn (past : List EventRecord) (rule seq : ℕ) : Type 0 where
  pub behind : List EventRecord
  pub event : EventRecord
  pub before : List EventRecord
  pub past_is : past ≡ behind ++ event ∷ before
  pub unbroken : Unbroken before
  pub breaks : first_broken before event ≡ Some rule
  pub seq_is : seq ≡ event.seq

pub record PartialMask (header : Header) (rule seq : ℕ) : Type 0 where
  pub partial : is_whole_mask header ≡ false
  pub rule_is : rule ≡ 1
  pub seq_is : seq ≡ 0

-- the mask or the first event that breaks a rule
abbrev pub FirstIn : Header → List EventRecord → Breach → Type 0
FirstIn header past breach = PartialMask header breach.rule breach.seq ⊎ ((is_whole_mask header ≡ true) × BrokenIn past breach.rule breach.seq)

-- what is known of the events without a breach, and with one
pub record KeptWhole (kept : Kept) (header : Header) (past : List EventRecord) : Type 0 where
  pub whole : is_whole_mask header ≡ true
  pub unbroken : Unbroken past
  pub known : IsKnown kept past

pub record KeptBroken (kept : Kept) (breach : Breach) (header : Header) (past : List EventRecord) : Type 0 where
  pub none : kept_by kept ≡ 0
  pub first : FirstIn header past breach

abbrev pub KeptSo : Kept → Option Breach → Header → List EventRecord → Type 0
KeptSo kept None header past = KeptWhole kept header past
KeptSo kept (Some breach) header past = KeptBroken kept breach header past

-- a checker of a trace with this header that was told of these events, the newest last
pub record Checks (checker : Checker) (header : Header) (events : List EventRecord) : Type 0 where
  pub last : checker.last ≡ newest_seq (reverse events)
  pub rises : Rises (reverse events)
  pub kept_so : KeptSo checker.kept checker.breach header (reverse events)

-- the position of the last event that it was told of
abbrev pub last_of : Checker → Option ℕ
last_of checker = checker.last

-- how many entries its lists have
abbrev pub entries_of : Checker → ℕ
entries_of checker = kept_by checker.kept

-- the mask or an event breaks a rule
abbrev pub BreaksOne : Header → List EventRecord → Type 0
BreaksOne header events = (rule seq : ℕ) × (BrokenMask header rule seq ⊎ BrokenAt events rule seq)
