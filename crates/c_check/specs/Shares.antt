-- How a construct sees a variable (OpenMP 5.2, 5.1), by the constructs around it.
use Rattle.std.specs.Prelude.{ℕ, ◌==◌, ◌&&◌, ◌||◌, if◌then◌else◌, Bool, true, false, not, List, [], ◌∷◌, ◌++◌, Option, Some, None, is_none}
use Rattle.c_tokens.specs.declared.token.Spot.{Spot}
use Rattle.c_syntax.specs.declared.node.Directive.{Directive}
use Rattle.c_syntax.specs.declared.node.Directive.TheVariants as directive
use Rattle.c_check.specs.declared.acts.act.DataClause.{DataClause}
use Rattle.c_check.specs.declared.acts.act.DataClause.TheVariants as clause
use Rattle.c_check.specs.declared.sharing.Sharing.{Sharing}
use Rattle.c_check.specs.declared.sharing.Sharing.TheVariants as sharing
use Rattle.c_check.specs.Constructs.{Construct, is_inside, mention}

abbrev pub is_parallel : Directive → Bool
is_parallel directive.Parallel = true
is_parallel directive.ParallelFor = true
is_parallel directive.ParallelSections = true
is_parallel other = false

abbrev pub is_task : Directive → Bool
is_task directive.Task = true
is_task other = false

abbrev pub is_loop_variable : Option ℕ → ℕ → Bool
is_loop_variable None slot = false
is_loop_variable (Some loop) slot = loop == slot

abbrev pub given_by : DataClause → Sharing
given_by clause.Shared = sharing.Shared
given_by clause.Private = sharing.Private
given_by clause.First = sharing.First
given_by clause.Reduced = sharing.Reduced

-- what a construct itself says of a variable: its loop's variable is private, and else a data clause counts
abbrev pub given_with : Bool → Option DataClause → Option Sharing
given_with true clause = Some sharing.Private
given_with false None = None
given_with false (Some clause) = Some (given_by clause)

abbrev pub own_sharing : Construct → ℕ → Option Sharing
own_sharing construct slot = given_with (is_loop_variable construct.loop slot) (mention construct.mentions slot)

abbrev pub is_shared : Sharing → Bool
is_shared sharing.Shared = true
is_shared other = false

-- a construct says of a variable that it is shared, or nothing
abbrev pub is_shared_or_unsaid : Option Sharing → Bool
is_shared_or_unsaid None = true
is_shared_or_unsaid (Some own) = is_shared own

-- A variable is shared by a task that says nothing of it, where these constructs are around. Where one of them is parallel, the variable
-- is declared outside of the innermost such one and shared there, and no construct between makes copies of it. Where none is, it
-- is a variable of the file, and none of them makes copies.
abbrev pub shared_inside : Construct → Bool → ℕ → Bool
shared_inside construct by_rule slot =
    if is_parallel construct.head.directive
    then not (is_inside construct slot) && is_shared_or_unsaid (own_sharing construct slot)
    else is_shared_or_unsaid (own_sharing construct slot) && by_rule

unfoldable pub shared_by_rule : List Construct → Bool → ℕ → Bool
shared_by_rule [] of_file slot = of_file
shared_by_rule (first ∷ around) of_file slot = shared_inside first (shared_by_rule around of_file slot) slot

-- how a construct sees a variable of which it says nothing and that is declared outside of it
abbrev pub by_directive : Construct → Bool → Sharing → Sharing
by_directive construct by_rule around =
    if is_parallel construct.head.directive then sharing.Shared
    else if is_task construct.head.directive then (if construct.clauses.default_shared || by_rule then sharing.Shared else sharing.First) else around

abbrev pub sharing_by : Option Sharing → Bool → Sharing → Sharing
sharing_by (Some own) inside other = own
sharing_by None true other = sharing.Local
sharing_by None false other = other

-- How the first of some constructs, which stands in the others, sees a variable. A construct that is neither parallel nor a task sees what it
-- says nothing of as the one around does, and outside of all constructs a variable is shared.
unfoldable pub sharing_at : List Construct → Bool → ℕ → Sharing
sharing_at [] of_file slot = sharing.Shared
sharing_at (first ∷ around) of_file slot =
    sharing_by (own_sharing first slot) (is_inside first slot) (by_directive first (shared_by_rule around of_file slot) (sharing_at around of_file slot))

-- a task has a copy of a variable that it doesn't name, by rule
abbrev pub copies_by_rule : Construct → Bool → ℕ → Bool
copies_by_rule construct by_rule slot =
    is_task construct.head.directive && is_none (own_sharing construct slot)
    && not (is_inside construct slot || construct.clauses.default_shared || by_rule)

-- the task that stands there has a copy of the variable with a slot by rule
pub record TaskCopy : Type 0 where
  pub task : Spot
  pub slot : ℕ

-- The copies by rule of the tasks around a use of a variable, that of the outermost one first.
abbrev pub copy_by_rule : Construct → Bool → ℕ → List TaskCopy
copy_by_rule construct by_rule slot = if copies_by_rule construct by_rule slot then record { task = construct.head.spot; slot = slot } ∷ [] else []

unfoldable pub copies_around : List Construct → Bool → ℕ → List TaskCopy
copies_around [] of_file slot = []
copies_around (first ∷ around) of_file slot = copies_around around of_file slot ++ copy_by_rule first (shared_by_rule around of_file slot) slot
