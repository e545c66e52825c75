-- The nodes of the pool and their links, as plain lists, and the change that each call on them makes.
use Rattle.std.specs.Prelude.{ℕ, ◌+◌, ◌-◌, ◌==◌, if◌then◌else◌, List, [], ◌∷◌, ◌++◌, length, max, replicate, slice_index_or, slice_set}
use Rattle.task_pool.specs.declared.task.Task.{Task}
use Rattle.task_pool.specs.declared.task.Condition.{Condition}
use Rattle.task_pool.specs.declared.node.Links.{Links}
use Rattle.task_pool.specs.declared.node.Node.{Node}
use Rattle.task_pool.specs.declared.node.RegionTasks.{RegionTasks}
use Rattle.task_pool.specs.Tasks.{no_task}

pub record ChainView : Type 0 where
  pub nodes : List Node
  pub regions : List RegionTasks
  pub first : ℕ
  pub last : ℕ
  pub room : ℕ

abbrev pub no_chain : ChainView
no_chain = record { nodes = []; regions = []; first = 0; last = 0; room = 0 }

abbrev pub alone : Links
alone = record { previous = 0; next = 0 }

abbrev pub fresh_node : Task → Node
fresh_node task = record { task = task; open_children = 0; in_order = alone; in_region = alone }

abbrev pub no_node : Node
no_node = fresh_node no_task

abbrev pub no_region : RegionTasks
no_region = record { first_ready = 0; last_ready = 0; unfinished = 0 }

abbrev pub node_at : List Node → ℕ → Node
node_at nodes task = if task == 0 then no_node else slice_index_or nodes (task - 1) no_node

abbrev pub region_at : List RegionTasks → ℕ → RegionTasks
region_at regions region = slice_index_or regions region no_region

abbrev pub with_node : ChainView → ℕ → Node → ChainView
with_node C task node = record C { nodes = if task == 0 then C.nodes else slice_set C.nodes (task - 1) node }

abbrev pub with_region : ChainView → ℕ → RegionTasks → ChainView
with_region C region changed = record C { regions = slice_set C.regions region changed }

-- how many places are missing up to this region
abbrev pub missing : ChainView → ℕ → ℕ
missing C region = max (region + 1) (length C.regions) - length C.regions

-- there are places for the regions up to this one, and room for a task
abbrev pub with_regions : ChainView → ℕ → ChainView
with_regions C region =
    record C { regions = C.regions ++ replicate (missing C region) no_region; room = 1 }

abbrev pub node_made : ChainView → Task → ChainView
node_made C task = record C { nodes = C.nodes ++ fresh_node task ∷ []; room = C.room - 1 }

abbrev pub condition_set : ChainView → ℕ → Condition → ChainView
condition_set C task condition =
    let node = node_at C.nodes task in
    with_node C task (record node { task = record node.task { condition = condition } })

abbrev pub children_set : ChainView → ℕ → ℕ → ChainView
children_set C task count = with_node C task (record (node_at C.nodes task) { open_children = count })

abbrev pub unfinished_set : ChainView → ℕ → ℕ → ChainView
unfinished_set C region count = with_region C region (record (region_at C.regions region) { unfinished = count })

abbrev pub counted_up : ChainView → ℕ → ℕ → ChainView
counted_up C parent region =
    let children = (node_at C.nodes parent).open_children + 1 in
    let unfinished = (region_at C.regions region).unfinished + 1 in
    unfinished_set (children_set C parent children) region unfinished

abbrev pub counted_down : ChainView → ℕ → ℕ → ChainView
counted_down C parent region =
    let children = (node_at C.nodes parent).open_children - 1 in
    let unfinished = (region_at C.regions region).unfinished - 1 in
    unfinished_set (children_set C parent children) region unfinished

abbrev pub links_set : ChainView → ℕ → Links → Links → ChainView
links_set C task in_order in_region =
    with_node C task (record (node_at C.nodes task) { in_order = in_order; in_region = in_region })

-- where there is no task before, or after, an end of the order changes
abbrev pub next_set : ChainView → ℕ → ℕ → ChainView
next_set C task next =
    let node = node_at C.nodes task in
    if task == 0 then record C { first = next }
    else with_node C task (record node { in_order = record node.in_order { next = next } })

abbrev pub previous_set : ChainView → ℕ → ℕ → ChainView
previous_set C task previous =
    let node = node_at C.nodes task in
    if task == 0 then record C { last = previous }
    else with_node C task (record node { in_order = record node.in_order { previous = previous } })

abbrev pub next_in_region_set : ChainView → ℕ → ℕ → ℕ → ChainView
next_in_region_set C region task next =
    let node = node_at C.nodes task in
    if task == 0 then with_region C region (record (region_at C.regions region) { first_ready = next })
    else with_node C task (record node { in_region = record node.in_region { next = next } })

abbrev pub previous_in_region_set : ChainView → ℕ → ℕ → ℕ → ChainView
previous_in_region_set C region task previous =
    let node = node_at C.nodes task in
    if task == 0 then with_region C region (record (region_at C.regions region) { last_ready = previous })
    else with_node C task (record node { in_region = record node.in_region { previous = previous } })
