-- What a forest holds of a trace, and what is held of the events while it is built. The events before stand with the newest first.
use Rattle.std.specs.Prelude.{ℕ, ◌≡◌, ◌+◌, ◌-◌, ◌==◌, Bool, true, List, [], ◌∷◌, Option, Some, None, reverse, length, nat_le, nat_lt, slice_get, get_or, set, if◌then◌else◌, ◌*◌, ◌<◌, max, false, ◌||◌, ◌⊎◌, ◌++◌, zero, suc}
use Rattle.std.specs.Ordering.{nat_cmp}
use Rattle.std.specs.BTreeMap.{BTreeMap, get}
use Rattle.ompt_calls.specs.declared.event.EventRecord.{EventRecord}
use Rattle.trace_check.specs.Before.{greatest_task, waits_of}
use Rattle.trace_check.specs.Checking.{Unbroken}
use Rattle.tool_tasks.specs.declared.forest.Forest.{Forest}
use Rattle.tool_tasks.specs.declared.forest.TaskNode.{TaskNode}
use Rattle.tool_tasks.specs.declared.forest_builder.ForestBuilder.{ForestBuilder}
use Rattle.tool_tasks.specs.declared.chain_builder.ChainBuilder.{ChainBuilder}
use Rattle.tool_tasks.specs.declared.chain_tasks.ChainTasks.{ChainTasks}
use Rattle.tool_tasks.specs.declared.key.Key.{Key}
use Rattle.tool_tasks.specs.declared.key.Key.TheVariants.{Next, Begun, Left, Created, Child, Ended, Wait}
use Rattle.tool_tasks.specs.declared.reaches.Link.{Link}
use Rattle.tool_tasks.specs.declared.reaches.Reach.{Reach}
use Rattle.tool_tasks.specs.declared.reaches.Reaches.{Reaches}
use Rattle.tool_tasks.specs.declared.stacks.StackFrame.{StackFrame}
use Rattle.tool_tasks.specs.declared.stacks.Stacks.{Stacks}
use Rattle.tool_tasks.specs.Charge.{charges_of, one_if, tasks_on, work_of}
use Rattle.tool_tasks.specs.Keys.{gives, has_key}
use Rattle.tool_tasks.specs.Leads.{ends_of, joined_region, region_of}
use Rattle.tool_tasks.specs.Reaching.{best, is_charged, span_of}
use Rattle.tool_tasks.specs.Span.{AreRising, IsCharged, Leads}
use Rattle.tool_tasks.specs.Tree.{Origin, children_from, encountering_task, first_or_zero, node_of, or_zero, origin_of, sibling_after}

-- ---- stacks

-- a stack among frames: its top is the number of a frame, counted from 1, and 0 where it is empty
abbrev pub IsStack : List StackFrame → ℕ → List ℕ → Type 0
IsStack frames top [] = top ≡ 0
IsStack frames top (task ∷ tasks) =
    (place below : ℕ) × (top ≡ place + 1) × (slice_get frames place ≡ Some (record { task = task; below = below })) × IsStack frames below tasks

abbrev pub frame_at : List StackFrame → ℕ → Option StackFrame
frame_at frames top = if top == 0 then None else slice_get frames (top - 1)

-- the tops once the thread has left its top frame
abbrev pub tops_below : List ℕ → ℕ → Option StackFrame → List ℕ
tops_below tops t None = tops
tops_below tops t (Some frame) = set tops t frame.below

abbrev pub HoldsStacks : Stacks → List EventRecord → Type 0
HoldsStacks stacks past = (t : ℕ) → IsStack stacks.frames.items (get_or stacks.tops t 0) (tasks_on t past)

-- ---- regions and tasks

abbrev pub HoldsRegions : BTreeMap ℕ ℕ → List EventRecord → Type 0
HoldsRegions regions past = (r : ℕ) → get nat_cmp regions r ≡ encountering_task r past

-- A task's node while its links are set from the last task down. Those up to this one have no next sibling yet, and are no one's child yet. With all
-- of them still to come no link is set.
abbrev pub partly_linked : ℕ → ℕ → ℕ → List EventRecord → Option Origin → Option TaskNode
partly_linked rest k events past None = None
partly_linked rest k events past (Some origin) = Some (record {
  identity = k;
  flags = origin.flags;
  events = events;
  parent = origin.parent;
  first_child = first_or_zero (children_from (rest + 1) k past);
  next_sibling = if nat_le k rest then 0 else sibling_after k origin.parent past;
})

abbrev pub unlinked : ℕ → ℕ → Option Origin → Option TaskNode
unlinked k events None = None
unlinked k events (Some origin) =
    Some (record { identity = k; flags = origin.flags; events = events; parent = origin.parent; first_child = 0; next_sibling = 0 })

-- the tasks that were made, with how many of the counted events are charged to each
pub record HoldsNodes (nodes : List TaskNode) (past counted : List EventRecord) : Type 0 where
  pub count : length nodes ≡ greatest_task past
  pub each : (place : ℕ) → slice_get nodes place ≡ unlinked (place + 1) (charges_of (place + 1) counted) (origin_of (place + 1) past)

-- the node of a task among these
abbrev pub node_at : List TaskNode → ℕ → Option TaskNode
node_at nodes task = if task == 0 then None else slice_get nodes (task - 1)

-- the nodes with one event more at a task
abbrev pub one_more : Bool → Option TaskNode → Option TaskNode
one_more true (Some node) = Some (record node { events = node.events + 1 })
one_more b node = node

abbrev pub CountsOne : List TaskNode → List TaskNode → ℕ → Type 0
CountsOne old new task = (place : ℕ) → slice_get new place ≡ one_more (place + 1 == task) (slice_get old place)

-- the nodes with the links that are set so far
pub record HoldsLinks (nodes : List TaskNode) (past : List EventRecord) (rest : ℕ) : Type 0 where
  pub count : length nodes ≡ greatest_task past
  pub each : (place : ℕ) → slice_get nodes place ≡ partly_linked rest (place + 1) (charges_of (place + 1) past) past (origin_of (place + 1) past)

-- a node with another link
abbrev pub with_sibling : Bool → ℕ → Option TaskNode → Option TaskNode
with_sibling true sibling (Some node) = Some (record node { next_sibling = sibling })
with_sibling b sibling node = node

abbrev pub with_child : Bool → ℕ → Option TaskNode → Option TaskNode
with_child true child (Some node) = Some (record node { first_child = child })
with_child b child node = node

pub record Builds (builder : ForestBuilder) (past : List EventRecord) : Type 0 where
  pub stacks : HoldsStacks builder.stacks past
  pub regions : HoldsRegions builder.regions past
  pub nodes : HoldsNodes builder.nodes.items past past
  pub work : builder.work ≡ work_of past

-- ---- keys

-- a number for each key whose own numbers are short
abbrev pub number_in : ℕ → ℕ → ℕ → ℕ
number_in family first second = (family * 4294967296 + first) * 4294967296 + second

abbrev pub number_of : Key → ℕ
number_of (Next task count) = number_in 0 task count
number_of (Begun region) = number_in 1 region 0
number_of (Left region) = number_in 2 region 0
number_of (Created task) = number_in 3 task 0
number_of (Child parent) = number_in 4 parent 0
number_of (Ended region) = number_in 5 region 0
number_of (Wait region count) = number_in 6 region count

abbrev pub IsShortKey : Key → Type 0
IsShortKey (Next task count) = (task < 4294967296) × (count < 4294967296)
IsShortKey (Begun region) = region < 4294967296
IsShortKey (Left region) = region < 4294967296
IsShortKey (Created task) = task < 4294967296
IsShortKey (Child parent) = parent < 4294967296
IsShortKey (Ended region) = region < 4294967296
IsShortKey (Wait region count) = (region < 4294967296) × (count < 4294967296)

abbrev pub AreShort : Option Key → Type 0
AreShort None = Unit {0}
AreShort (Some key) = IsShortKey key

-- ---- the longest chains

abbrev pub length_at : Option Reach → ℕ
length_at None = 0
length_at (Some reach) = reach.length

abbrev pub length_for : BTreeMap ℕ Reach → Option Key → ℕ
length_for bests None = 0
length_for bests (Some key) = length_at (get nat_cmp bests (number_of key))

abbrev pub HoldsBests : BTreeMap ℕ Reach → List EventRecord → Type 0
HoldsBests bests past = (key : Key) → IsShortKey key → length_at (get nat_cmp bests (number_of key)) ≡ best key past

-- the longest chains once a key was given by an event with a chain of this length
abbrev pub is_number : ℕ → Option Key → Bool
is_number number None = false
is_number number (Some key) = number_of key == number

abbrev pub GivesKey : BTreeMap ℕ Reach → BTreeMap ℕ Reach → Option Key → ℕ → Type 0
GivesKey old new key length =
    (number : ℕ) → length_at (get nat_cmp new number) ≡ (if is_number number key then max (length_at (get nat_cmp old number)) length else length_at (get nat_cmp old number))

-- and once these four were
abbrev pub is_given : ℕ → Key → Option Key × Option Key × Option Key → Bool
is_given number next given = is_number number (Some next) || (is_number number given.0 || (is_number number given.1 || (is_number number given.2 || false)))

abbrev pub GivesAll : BTreeMap ℕ Reach → BTreeMap ℕ Reach → Key → Option Key × Option Key × Option Key → ℕ → Type 0
GivesAll old new next given length =
    (number : ℕ) → length_at (get nat_cmp new number)
    ≡ (if is_given number next given then max (length_at (get nat_cmp old number)) length else length_at (get nat_cmp old number))

pub record AreAllShort (key : Key) (given : Option Key × Option Key × Option Key) : Type 0 where
  pub next : IsShortKey key
  pub first : AreShort given.0
  pub second : AreShort given.1
  pub third : AreShort given.2

-- ---- links

-- the link with this number, counted from 1
abbrev pub link_at : List Link → ℕ → Option Link
link_at links number = if number == 0 then None else slice_get links (number - 1)

abbrev pub walk_on : Option Link → (ℕ → List ℕ) → List ℕ
walk_on None rest = []
walk_on (Some link) rest = link.seq ∷ rest link.back

-- the positions of so many links, from this one back
abbrev pub walked : List Link → ℕ → ℕ → List ℕ
walked links zero number = []
walked links (suc count) number = walk_on (link_at links number) (λ (back : ℕ). walked links count back)

-- a chain with its last event first
abbrev pub IsBack : List EventRecord → List ℕ → Type 0
IsBack events [] = Unit {0}
IsBack events (seq ∷ []) = IsCharged events seq
IsBack events (seq ∷ prior ∷ rest) = Leads events prior seq × IsBack events (prior ∷ rest)

-- the links of this chain are one of its length
pub record IsWalk (links : List Link) (past : List EventRecord) (reach : Reach) : Type 0 where
  pub is_back : IsBack (reverse past) (walked links reach.length reach.link)
  pub length_is : length (walked links reach.length reach.link) ≡ reach.length

-- a chain that ends in an event that gives this key
pub record Ends (links : List Link) (past : List EventRecord) (key : Key) (reach : Reach) : Type 0 where
  pub newer : List EventRecord
  pub event : EventRecord
  pub before : List EventRecord
  pub past_is : past ≡ newer ++ event ∷ before
  pub charged : is_charged before event ≡ true
  pub given : has_key key (gives before event) ≡ true
  pub rest : List ℕ
  pub walked_is : walked links reach.length reach.link ≡ event.seq ∷ rest
  pub walk : IsWalk links past reach

abbrev pub EndsIn : List Link → List EventRecord → Key → Option Reach → Type 0
EndsIn links past key None = Unit {0}
EndsIn links past key (Some reach) = Ends links past key reach

abbrev pub EndsFor : List Link → List EventRecord → Option Key → Reach → Type 0
EndsFor links past None reach = Unit {0}
EndsFor links past (Some key) reach = Ends links past key reach

abbrev pub HoldsEnds : List Link → List EventRecord → BTreeMap ℕ Reach → Type 0
HoldsEnds links past bests = (key : Key) → IsShortKey key → EndsIn links past key (get nat_cmp bests (number_of key))

-- the longest chain to an event that gave a key, or none
abbrev pub or_nowhere : Option Reach → Reach
or_nowhere None = record { length = 0; link = 0 }
or_nowhere (Some reach) = reach

abbrev pub reach_for : BTreeMap ℕ Reach → Option Key → Reach
reach_for bests None = record { length = 0; link = 0 }
reach_for bests (Some key) = or_nowhere (get nat_cmp bests (number_of key))

-- a link is added behind one of the chains to the events that gave these keys
pub record Adds (old new : Reaches) (seq : ℕ) (next : Option Key) (taken : Option Key × Option Key) (reach : Reach) : Type 0 where
  pub before : Reach
  pub before_is : (before ≡ reach_for old.bests next) ⊎ ((before ≡ reach_for old.bests taken.0) ⊎ (before ≡ reach_for old.bests taken.1))
  pub links_are : new.links.items ≡ old.links.items ++ (record { seq = seq; back = before.link }) ∷ []
  pub link_is : reach.link ≡ length old.links.items + 1
  pub length_is : reach.length ≡ before.length + 1
  pub greatest_is : (new.greatest ≡ old.greatest) ⊎ (new.greatest ≡ reach)

pub record HoldsReaches (reaches : Reaches) (past : List EventRecord) : Type 0 where
  pub bests : HoldsBests reaches.bests past
  pub span : reaches.greatest.length ≡ span_of past
  pub ends : HoldsEnds reaches.links.items past reaches.bests
  pub walk : IsWalk reaches.links.items past reaches.greatest

-- ---- tasks, for chains

abbrev pub counted_at : BTreeMap ℕ ℕ → ℕ → ℕ
counted_at counts task = or_zero (get nat_cmp counts task)

abbrev pub CountsAt : BTreeMap ℕ ℕ → BTreeMap ℕ ℕ → ℕ → Type 0
CountsAt old new task = (other : ℕ) → counted_at new other ≡ counted_at old other + one_if (task == other)

abbrev pub HoldsRegionsOf : BTreeMap ℕ ℕ → List EventRecord → Type 0
HoldsRegionsOf regions past = (task : ℕ) → get nat_cmp regions task ≡ region_of task past

abbrev pub HoldsJoined : BTreeMap ℕ ℕ → List EventRecord → Type 0
HoldsJoined joined past = (task : ℕ) → get nat_cmp joined task ≡ joined_region task past

abbrev pub HoldsBegun : BTreeMap ℕ ℕ → List EventRecord → Type 0
HoldsBegun counts past = (task : ℕ) → counted_at counts task ≡ waits_of task past

abbrev pub HoldsEnded : BTreeMap ℕ ℕ → List EventRecord → Type 0
HoldsEnded counts past = (task : ℕ) → counted_at counts task ≡ ends_of task past

pub record HoldsTasks (tasks : ChainTasks) (past : List EventRecord) : Type 0 where
  pub regions : HoldsRegionsOf tasks.regions past
  pub joined : HoldsJoined tasks.joined past
  pub begun : HoldsBegun tasks.begun past
  pub ended : HoldsEnded tasks.ended past

pub record HoldsChains (builder : ChainBuilder) (past : List EventRecord) : Type 0 where
  pub tasks : HoldsTasks builder.tasks past
  pub reaches : HoldsReaches builder.reaches past

-- ---- the text

-- the tasks, with all links
pub record AreNodes (nodes : List TaskNode) (past : List EventRecord) : Type 0 where
  pub count : length nodes ≡ greatest_task past
  pub each : (place : ℕ) → slice_get nodes place ≡ node_of (place + 1) past

-- the task to which a link leads: one that was made later, or none
abbrev pub later : ℕ → ℕ → List ℕ
later task link = if nat_lt task link then link ∷ [] else []

-- ---- the forest

-- the forest has the node of each task, by identity from 1 on, and the work
pub record HoldsForest (forest : Forest) (past : List EventRecord) : Type 0 where
  pub nodes : (place : ℕ) → slice_get forest.nodes.items place ≡ node_of (place + 1) past
  pub count : length forest.nodes.items ≡ greatest_task past
  pub none : node_of 0 past ≡ None
  pub work : forest.work ≡ work_of past
  pub span : forest.chains.longest.length ≡ span_of past
  pub walk : IsWalk forest.chains.links.items past forest.chains.longest

-- the forest is that of these events, whose positions rise
pub record IsForest (forest : Forest) (events : List EventRecord) : Type 0 where
  pub holds : HoldsForest forest (reverse events)
  pub unbroken : Unbroken (reverse events)
  pub rising : AreRising 0 events
