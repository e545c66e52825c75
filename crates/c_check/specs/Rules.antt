-- The rules: where a program stands and does an act, the places at which the act breaks each of them.
use Rattle.std.specs.Prelude.{ℕ, ◌+◌, ◌==◌, nat_lt, ◌&&◌, ◌||◌, not, if◌then◌else◌, Bool, true, false, List, [], ◌∷◌, Option, Some, None, is_none}
use Rattle.std.specs.Option.{is_some}
use Rattle.c_tokens.specs.declared.token.Spot.{Spot}
use Rattle.c_syntax.specs.declared.node.Directive.{Directive}
use Rattle.c_syntax.specs.declared.node.Directive.TheVariants as directive
use Rattle.c_syntax.specs.declared.node.Returns.{Returns}
use Rattle.c_syntax.specs.declared.node.Returns.TheVariants as returns
use Rattle.c_check.specs.declared.acts.act.Act.{Act}
use Rattle.c_check.specs.declared.acts.act.Act.TheVariants.{Begin, Declare, Use, Assign, Print, Return, Barrier, Enter, Clause, List as Listing, OddLoop, Loop, Finish}
use Rattle.c_check.specs.declared.acts.act.Thing.{Thing}
use Rattle.c_check.specs.declared.acts.act.Thing.TheVariants as thing
use Rattle.c_check.specs.declared.acts.act.Usage.{Usage}
use Rattle.c_check.specs.declared.acts.act.Usage.TheVariants as usage
use Rattle.c_check.specs.declared.acts.act.DataClause.TheVariants as clause
use Rattle.c_check.specs.declared.acts.act.Single.{Single}
use Rattle.c_check.specs.declared.acts.act.Single.TheVariants as single
use Rattle.c_check.specs.declared.acts.act.Value.{Value}
use Rattle.c_check.specs.declared.acts.act.Value.TheVariants as value
use Rattle.c_check.specs.declared.acts.act.Returned.{Returned}
use Rattle.c_check.specs.declared.acts.act.Returned.TheVariants as returned
use Rattle.c_check.specs.declared.acts.act.Printed.{Printed}
use Rattle.c_check.specs.declared.acts.act.Printed.TheVariants as printed
use Rattle.c_check.specs.declared.constructs.parts.Clauses.{Clauses}
use Rattle.c_check.specs.declared.constructs.parts.LoopInside.{LoopInside}
use Rattle.c_check.specs.declared.constructs.parts.Unlisted.{Unlisted}
use Rattle.c_check.specs.declared.scopes.declared.Declared.{Declared}
use Rattle.c_check.specs.Cells.{cells_of, file_cells, most_cells}
use Rattle.c_check.specs.Constructs.{Construct, mention, open_constructs}
use Rattle.c_check.specs.Declarations.{find, is_at_level}
use Rattle.c_check.specs.Faults.{is_same_spot}
use Rattle.c_check.specs.Here.{Here, copies_at, is_critical}
use Rattle.c_check.specs.Shares.{TaskCopy, is_loop_variable, is_parallel, is_task}

-- the place, where this is so
abbrev pub where_so : Bool → Spot → List Spot
where_so true spot = spot ∷ []
where_so false spot = []

abbrev pub found_here : Here → ℕ → Option Declared
found_here here name = find here.names.visible name

abbrev pub open_here : Here → List Construct
open_here here = open_constructs here.constructs

-- 8: a name that is used has a declaration in scope

abbrev pub unknown_names : Here → Act → List Spot
unknown_names here (Use name spot used) = where_so (is_none (found_here here name)) spot
unknown_names here other = []

-- 9: a name is declared once in a scope

abbrev pub is_twice : Here → ℕ → Bool
is_twice here name = is_at_level here.names.level (found_here here name)

abbrev pub declared_twice : Here → Act → List Spot
declared_twice here (Begin name spot gives parameters) = where_so (is_twice here name) spot
declared_twice here (Declare name spot what) = where_so (is_twice here name) spot
declared_twice here other = []

-- 10: what is declared is used as what it is

-- the most elements of an array
abbrev pub most_elements : ℕ
most_elements = 4096

abbrev pub is_odd_size : Thing → Bool
is_odd_size (thing.Array size) = size == 0 || nat_lt most_elements size
is_odd_size other = false

-- with one more declaration the variables and locks of the file have too many cells
abbrev pub is_too_much : Here → Thing → Bool
is_too_much here what = here.names.level == 0 && nat_lt most_cells (file_cells here.names.all + cells_of what)

-- main returns an int and has no parameters
abbrev pub is_odd_main : Returns → ℕ → Bool
is_odd_main returns.Int parameters = nat_lt 0 parameters
is_odd_main returns.Void parameters = true

-- a void function has no value
abbrev pub lacks_value : Returns → Value → Bool
lacks_value returns.Void value.Used = true
lacks_value gives other = false

-- what is declared so may not be used so
abbrev pub is_wrong : Thing → Usage → Bool
is_wrong thing.Int usage.Plain = false
is_wrong thing.Int (usage.Listed which) = false
is_wrong (thing.Array size) usage.Indexed = false
is_wrong (thing.Array size) (usage.Listed clause.Reduced) = true
is_wrong (thing.Array size) (usage.Listed which) = false
is_wrong thing.Lock usage.Locked = false
is_wrong thing.Lock (usage.Listed clause.Shared) = false
is_wrong (thing.Function gives parameters) (usage.Called arguments value) = (if arguments == parameters then false else true) || lacks_value gives value
is_wrong what other = true

-- main is called
abbrev pub calls_main : Usage → Bool → Bool
calls_main (usage.Called arguments value) is_main = is_main
calls_main other is_main = false

-- a task has a copy of a lock by rule
abbrev pub is_some_copy : List TaskCopy → Bool
is_some_copy [] = false
is_some_copy (first ∷ copies) = true

abbrev pub is_lock : Thing → Bool
is_lock thing.Lock = true
is_lock other = false

abbrev pub is_misused : Here → ℕ → Usage → Option Declared → Bool
is_misused here name used None = false
is_misused here name used (Some it) = is_wrong it.thing used || calls_main used (name == here.main) || is_lock it.thing && is_some_copy (copies_at here.constructs it)

abbrev pub is_wrong_print : Printed → Bool
is_wrong_print printed.Right = false
is_wrong_print printed.Wrong = true

-- an int function returns something, a void one nothing
abbrev pub is_wrong_return : Returns → Returned → Bool
is_wrong_return returns.Int returned.Nothing = true
is_wrong_return returns.Void returned.Something = true
is_wrong_return gives what = false

-- a clause that may stand once stands twice, or a chunk has no iteration
abbrev pub has_single : Clauses → Single → Bool
has_single clauses single.NumThreads = clauses.num_threads
has_single clauses (single.Default word) = clauses.default_shared || clauses.default_none
has_single clauses (single.Schedule chunk) = clauses.schedule
has_single clauses single.Nowait = clauses.nowait
has_single clauses single.If = clauses.condition

abbrev pub is_empty_chunk : Single → Bool
is_empty_chunk (single.Schedule chunk) = chunk == 0
is_empty_chunk other = false

abbrev pub wrong_clause : Single → Option Construct → List Spot
wrong_clause one None = []
wrong_clause one (Some newest) = where_so (is_empty_chunk one || has_single newest.clauses one) newest.head.spot

-- a variable stands a second time in the data clauses of a construct
abbrev pub is_listed : Option Declared → Option Construct → Bool
is_listed (Some it) (Some newest) = is_some (mention newest.mentions it.slot)
is_listed it newest = false

abbrev pub wrong_uses : Here → Act → List Spot
wrong_uses here (Begin name spot gives parameters) = where_so (name == here.main && is_odd_main gives parameters) spot
wrong_uses here (Declare name spot what) = where_so (is_odd_size what || is_too_much here what) spot
wrong_uses here (Use name spot used) = where_so (is_misused here name used (found_here here name)) spot
wrong_uses here (Print spot shown) = where_so (is_wrong_print shown) spot
wrong_uses here (Return spot what) = where_so (is_wrong_return here.returns what) spot
wrong_uses here (Clause one) = wrong_clause one here.constructs.newest
wrong_uses here (Listing name spot which) = where_so (is_listed (found_here here name) here.constructs.newest) spot
wrong_uses here other = []

-- 11: constructs, `barrier` and `return` stand where they may

-- Worksharing regions and barriers may stand directly in a `parallel`, or in no construct. All other constructs are among those in which
-- they may not stand; `parallel for` and `parallel sections` have the inner one between.
abbrev pub is_plain_parallel : Directive → Bool
is_plain_parallel directive.Parallel = true
is_plain_parallel other = false

abbrev pub binds_badly : List Construct → Bool
binds_badly [] = false
binds_badly (first ∷ around) = if is_plain_parallel first.head.directive then false else true

-- constructs in which masked may not stand, up to the innermost parallel one
abbrev pub keeps_masked_out : Directive → Bool
keeps_masked_out directive.For = true
keeps_masked_out directive.Sections = true
keeps_masked_out directive.Single = true
keeps_masked_out directive.Task = true
keeps_masked_out directive.ParallelFor = true
keeps_masked_out directive.ParallelSections = true
keeps_masked_out other = false

unfoldable pub masked_badly : List Construct → Bool
masked_badly [] = false
masked_badly (first ∷ around) = keeps_masked_out first.head.directive || (if is_parallel first.head.directive then false else masked_badly around)

-- a critical of the same name, up to the innermost task or parallel construct
unfoldable pub critical_badly : ℕ → List Construct → Bool
critical_badly name [] = false
critical_badly name (first ∷ around) =
    if is_parallel first.head.directive || is_task first.head.directive then false
    else is_critical first.head.directive && first.head.critical == name || critical_badly name around

abbrev pub nests_badly : Directive → ℕ → List Construct → Bool
nests_badly directive.For name around = binds_badly around
nests_badly directive.Sections name around = binds_badly around
nests_badly directive.Single name around = binds_badly around
nests_badly directive.Masked name around = masked_badly around
nests_badly directive.Master name around = masked_badly around
nests_badly directive.Critical name around = critical_badly name around
nests_badly other name around = false

abbrev pub is_within : List Construct → Bool
is_within [] = false
is_within (first ∷ around) = true

abbrev pub bad_nestings : Here → Act → List Spot
bad_nestings here (Return spot what) = where_so (is_within (open_here here)) spot
bad_nestings here (Barrier spot) = where_so (binds_badly (open_here here)) spot
bad_nestings here (Enter spot which critical) = where_so (nests_badly which critical (open_here here)) spot
bad_nestings here other = []

-- 12: the statement of a `for` directive is a loop that can be shared out

-- the constructs around whose loops have this variable
unfoldable pub spoiled : ℕ → List Construct → List Spot
spoiled slot [] = []
spoiled slot (first ∷ around) = if is_loop_variable first.loop slot then first.head.spot ∷ spoiled slot around else spoiled slot around

abbrev pub spoiled_by : Option Declared → List Construct → List Spot
spoiled_by None around = []
spoiled_by (Some it) around = spoiled it.slot around

abbrev pub newest_spot : Option Construct → List Spot
newest_spot None = []
newest_spot (Some newest) = newest.head.spot ∷ []

abbrev pub is_int_thing : Thing → Bool
is_int_thing thing.Int = true
is_int_thing other = false

abbrev pub is_int : Option Declared → Bool
is_int None = false
is_int (Some it) = is_int_thing it.thing

abbrev pub bad_loops : Here → Act → List Spot
bad_loops here (Assign name) = spoiled_by (found_here here name) (open_here here)
bad_loops here OddLoop = newest_spot here.constructs.newest
bad_loops here (Loop name) = if is_int (found_here here name) then [] else newest_spot here.constructs.newest
bad_loops here other = []

-- 13: there is a function main

abbrev pub missing_main : Here → Act → List Spot
missing_main here (Finish spot) = where_so (not here.has_main) spot
missing_main here other = []

-- 14: under default(none) each variable is listed

-- the variable is that of a loop inside the construct that stands there
unfoldable pub is_loop_inside : List LoopInside → ℕ → Spot → Bool
is_loop_inside [] slot construct = false
is_loop_inside (first ∷ loops) slot construct = first.slot == slot && is_same_spot first.construct construct || is_loop_inside loops slot construct

unfoldable pub not_listed : List LoopInside → List Unlisted → List Spot
not_listed loops [] = []
not_listed loops (first ∷ rest) = if is_loop_inside loops first.slot first.construct then not_listed loops rest else first.spot ∷ not_listed loops rest

abbrev pub unlisted_uses : Here → Act → List Spot
unlisted_uses here (Finish spot) = not_listed here.constructs.loops here.constructs.unlisted
unlisted_uses here other = []
