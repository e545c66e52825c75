-- The constructs of a program: those that are open, and those that have ended.
use Rattle.std.specs.Prelude.{ℕ, ◌&&◌, nat_le, not, ◌==◌, if◌then◌else◌, Bool, true, false, List, [], ◌∷◌, ◌++◌, option_map, Option, Some, None, is_none}
use Rattle.c_tokens.specs.declared.token.Spot.{Spot}
use Rattle.c_syntax.specs.declared.node.Default.TheVariants as default
use Rattle.c_syntax.specs.declared.node.Directive.{Directive}
use Rattle.c_check.specs.declared.acts.act.DataClause.{DataClause}
use Rattle.c_check.specs.declared.acts.act.Single.{Single}
use Rattle.c_check.specs.declared.acts.act.Single.TheVariants as single
use Rattle.c_check.specs.declared.constructs.parts.Clauses.{Clauses}
use Rattle.c_check.specs.declared.constructs.parts.Head.{Head}
use Rattle.c_check.specs.declared.constructs.parts.LoopInside.{LoopInside}
use Rattle.c_check.specs.declared.constructs.parts.Mention.{Mention}
use Rattle.c_check.specs.declared.constructs.parts.Unlisted.{Unlisted}

-- a construct: how it begins, its clauses, the variables that its data clauses list, and the slot of its loop's variable
pub record Construct : Type 0 where
  pub head : Head
  pub clauses : Clauses
  pub mentions : List Mention
  pub loop : Option ℕ

-- a construct that has ended, and those that were around it, the innermost first
pub record EndedConstruct : Type 0 where
  pub construct : Construct
  pub outer : List Construct

pub record Constructs : Type 0 where
  -- the construct that began last, as long as no other has begun in it and it hasn't ended
  pub newest : Option Construct
  -- all others that are open, the innermost first
  pub around : List Construct
  -- those that have ended, the first one first
  pub ended : List EndedConstruct
  -- the uses of variables that an open construct with default(none) doesn't list
  pub unlisted : List Unlisted
  -- the loops that are shared out inside constructs
  pub loops : List LoopInside

abbrev pub no_constructs : Constructs
no_constructs = record { newest = None; around = []; ended = []; unlisted = []; loops = [] }

abbrev pub no_clauses : Clauses
no_clauses = record { num_threads = false; default_shared = false; default_none = false; schedule = false; nowait = false; condition = false }

abbrev pub with_single : Single → Clauses → Clauses
with_single single.NumThreads clauses = record clauses { num_threads = true }
with_single (single.Default default.Shared) clauses = record clauses { default_shared = true }
with_single (single.Default default.None) clauses = record clauses { default_none = true }
with_single (single.Schedule chunk) clauses = record clauses { schedule = true }
with_single single.Nowait clauses = record clauses { nowait = true }
with_single single.If clauses = record clauses { condition = true }

abbrev pub with_newest : Option Construct → List Construct → List Construct
with_newest None around = around
with_newest (Some newest) around = newest ∷ around

-- those that are open, the innermost first
abbrev pub open_constructs : Constructs → List Construct
open_constructs constructs = with_newest constructs.newest constructs.around

-- the clause that lists a variable: the first that does
unfoldable pub mention : List Mention → ℕ → Option DataClause
mention [] slot = None
mention (first ∷ rest) slot = if first.slot == slot then Some first.clause else mention rest slot

-- the variable is declared inside the construct
abbrev pub is_inside : Construct → ℕ → Bool
is_inside construct slot = nat_le construct.head.first slot

-- a construct with default(none) doesn't list a variable that is declared outside of it
abbrev pub leaves_out : Construct → ℕ → Bool
leaves_out construct slot = construct.clauses.default_none && not (is_inside construct slot) && is_none (mention construct.mentions slot)

unfoldable pub unlisted_in : List Construct → Spot → ℕ → List Unlisted
unlisted_in [] spot slot = []
unlisted_in (first ∷ around) spot slot = if leaves_out first slot then record { spot = spot; slot = slot; construct = first.head.spot } ∷ unlisted_in around spot slot else unlisted_in around spot slot

-- a variable is used
abbrev pub with_use : Constructs → Spot → ℕ → Constructs
with_use constructs spot slot = record constructs { unlisted = constructs.unlisted ++ unlisted_in (open_constructs constructs) spot slot }

-- a construct begins where so many declarations stand before it
abbrev pub begun_construct : Spot → Directive → ℕ → ℕ → Construct
begun_construct spot which critical first =
    record { head = record { spot = spot; directive = which; critical = critical; first = first }; clauses = no_clauses; mentions = []; loop = None }

abbrev pub with_begun : Constructs → Spot → Directive → ℕ → ℕ → Constructs
with_begun constructs spot which critical first =
    record constructs { newest = Some (begun_construct spot which critical first); around = open_constructs constructs }

-- clauses, mentions and the loop's variable are those of the construct that began last
abbrev pub with_clause : Constructs → Single → Constructs
with_clause constructs one = record constructs { newest = option_map (λ (it : Construct). record it { clauses = with_single one it.clauses }) constructs.newest }

abbrev pub with_mention : Constructs → ℕ → DataClause → Constructs
with_mention constructs slot clause =
    record constructs { newest = option_map (λ (it : Construct). record it { mentions = it.mentions ++ record { slot = slot; clause = clause } ∷ [] }) constructs.newest }

unfoldable pub loops_in : List Construct → ℕ → List LoopInside
loops_in [] slot = []
loops_in (first ∷ around) slot = record { slot = slot; construct = first.head.spot } ∷ loops_in around slot

-- the construct that began last shares out a loop with this variable
abbrev pub with_loop : Constructs → ℕ → Constructs
with_loop constructs slot =
    record constructs {
      newest = option_map (λ (it : Construct). record it { loop = Some slot }) constructs.newest;
      loops = constructs.loops ++ loops_in (open_constructs constructs) slot;
    }

-- the innermost of the open constructs ends
abbrev pub without_innermost : List Construct → Constructs → Constructs
without_innermost [] constructs = record constructs { newest = None; around = [] }
without_innermost (first ∷ outer) constructs =
    record constructs { newest = None; around = outer; ended = constructs.ended ++ record { construct = first; outer = outer } ∷ [] }

abbrev pub with_ended : Constructs → Constructs
with_ended constructs = without_innermost (open_constructs constructs) constructs

-- a function begins, in which no construct is open
abbrev pub with_none_open : Constructs → Constructs
with_none_open constructs = record constructs { newest = None; around = [] }
