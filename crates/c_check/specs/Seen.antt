-- What a program that was checked is asked: slots, sharing, copies by rule, numbers of criticals.
use Rattle.std.specs.Prelude.{ℕ, ◌+◌, ◌==◌, if◌then◌else◌, List, [], ◌∷◌, Option, Some, None, option_map, length, slice_get, unwrap_or}
use Rattle.c_tokens.specs.declared.token.Spot.{Spot}
use Rattle.c_syntax.specs.declared.node.NodeKind.{NodeKind}
use Rattle.c_syntax.specs.declared.node.NodeKind.TheVariants as node
use Rattle.c_syntax.specs.declared.node.Directive.TheVariants as directive
use Rattle.c_syntax.specs.language.Tree.{Tree, children_of, kind_of, spot_of}
use Rattle.c_syntax.specs.language.Numbered.{TreeView}
use Rattle.c_check.specs.declared.scopes.declared.Declared.{Declared}
use Rattle.c_check.specs.declared.scopes.declared.Named.{Named}
use Rattle.c_check.specs.declared.sharing.Sharing.{Sharing}
use Rattle.c_check.specs.declared.sharing.Sharing.TheVariants as sharing
use Rattle.c_check.specs.Checked.{end_of}
use Rattle.c_check.specs.Constructs.{EndedConstruct}
use Rattle.c_check.specs.Faults.{is_same_spot}
use Rattle.c_check.specs.Here.{is_of_file}
use Rattle.c_check.specs.Once.{each_once}
use Rattle.c_check.specs.Shares.{TaskCopy, sharing_at}
use Rattle.c_check.specs.Statements.{name_of_critical}

-- the slot of the name that stands there, if it is declared
unfoldable pub slot_in : List Named → Spot → Option ℕ
slot_in [] spot = None
slot_in (first ∷ rest) spot = if is_same_spot first.spot spot then Some first.slot else slot_in rest spot

abbrev pub slot_at : TreeView → Spot → Option ℕ
slot_at program spot = slot_in (end_of program).named spot

-- the slot of the name that stands where a node begins, 0 where no name that is declared stands there
abbrev pub slot_of_name : TreeView → Tree → ℕ
slot_of_name program tree = unwrap_or (slot_at program (spot_of tree)) 0

-- the construct that stands there, with those around it
unfoldable pub construct_at : List EndedConstruct → Spot → Option EndedConstruct
construct_at [] spot = None
construct_at (first ∷ rest) spot = if is_same_spot first.construct.head.spot spot then Some first else construct_at rest spot

abbrev pub seen_by : Option EndedConstruct → Option Declared → Option Sharing
seen_by None it = None
seen_by (Some ended) None = None
seen_by (Some ended) (Some it) = Some (sharing_at (ended.construct ∷ ended.outer) (is_of_file it) it.slot)

-- how the construct that stands there sees the variable with a slot; none where no construct stands there, or nothing has the slot
abbrev pub sharing_of : TreeView → Spot → ℕ → Option Sharing
sharing_of program spot slot =
    let end = end_of program in
    seen_by (construct_at end.constructs.ended spot) (slice_get end.names.all slot)

-- how the construct that stands where a node begins sees it; shared where there is no such construct or variable
abbrev pub sharing_by_node : TreeView → Tree → ℕ → Sharing
sharing_by_node program tree slot = unwrap_or (sharing_of program (spot_of tree) slot) sharing.Shared

-- the slots of the variables of which the task that stands there has copies by rule, each once, in the order of their first use
unfoldable pub slots_copied : List TaskCopy → Spot → List ℕ
slots_copied [] task = []
slots_copied (first ∷ copies) task = if is_same_spot first.task task then first.slot ∷ slots_copied copies task else slots_copied copies task

abbrev pub copies_of_task : List TaskCopy → Spot → List ℕ
copies_of_task copies task = each_once (slots_copied copies task)

abbrev pub copies_by_kind : NodeKind → List TaskCopy → Spot → List ℕ
copies_by_kind (node.Construct directive.Task) copies spot = copies_of_task copies spot
copies_by_kind other copies spot = []

-- none for a node that is no task construct
abbrev pub task_copies : TreeView → Tree → List ℕ
task_copies program tree = copies_by_kind (kind_of tree) (end_of program).copies (spot_of tree)

-- the number of a critical's name among those that came, from 1
unfoldable pub number_among : List ℕ → ℕ → Option ℕ
number_among [] name = None
number_among (first ∷ names) name = if first == name then Some 1 else option_map (λ number. number + 1) (number_among names name)

abbrev pub critical_by_kind : NodeKind → List ℕ → ℕ → ℕ
critical_by_kind (node.Construct directive.Critical) criticals name = unwrap_or (number_among criticals name) 0
critical_by_kind other criticals name = 0

-- 0 for a node that is no critical
abbrev pub critical_number : TreeView → Tree → ℕ
critical_number program tree = critical_by_kind (kind_of tree) (end_of program).criticals (name_of_critical (children_of tree))

abbrev pub critical_count : TreeView → ℕ
critical_count program = length (end_of program).criticals
