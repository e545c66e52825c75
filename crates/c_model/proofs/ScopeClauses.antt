-- What the clauses of a construct use, and what they do to where a program stands.
use Rattle.std.specs.Prelude.{ℕ, ◌≡◌, ◌⊎◌, ◌&&◌, not, if◌then◌else◌, Bool, true, false, IsTrue, List, [], ◌∷◌, unwrap_or, Option, Some, None, IfSome, is_some, option_map, refl}
use Rattle.std.specs.List.{All, Contains}
use Rattle.std.proofs.Common.{sym, ◌∙◌, subst}
use Rattle.std.proofs.lemmas.List.Elements.{All-append, All-filter, All-map, All-nil}
use Rattle.c_syntax.specs.declared.node.Data.TheVariants as data_clause
use Rattle.c_syntax.specs.declared.node.NodeKind.{NodeKind}
use Rattle.c_syntax.specs.declared.node.NodeKind.TheVariants as node
use Rattle.c_syntax.specs.language.Tree.{Tree, Children, kind_of, name_of, spot_of}
use Rattle.c_syntax.specs.language.Tree.Tree.{Node}
use Rattle.c_syntax.specs.language.Tree.Children.{Over, Child, Absent}
use Rattle.c_check.specs.declared.acts.act.Act.TheVariants.{Clause, List as Listing, OddLoop}
use Rattle.c_check.specs.declared.acts.act.DataClause.{DataClause}
use Rattle.c_check.specs.declared.acts.act.DataClause.TheVariants as clause
use Rattle.c_check.specs.declared.acts.act.Single.{Single}
use Rattle.c_check.specs.declared.acts.role.Naming.TheVariants as naming
use Rattle.c_check.specs.declared.scopes.declared.Declared.{Declared}
use Rattle.c_check.specs.Checked.{after_all}
use Rattle.c_check.specs.Clauses.{clause_inside, data_of, first_inside, inside_acts}
use Rattle.c_check.specs.Constructs.{Construct, Constructs}
use Rattle.c_check.specs.Declarations.{find}
use Rattle.c_check.specs.Here.{Here, after, listed}
use Rattle.c_check.specs.LoopParts.{LoopParts, loop_parts}
use Rattle.c_check.specs.Loops.{child_at}
use Rattle.c_check.specs.NameLists.{names}
use Rattle.c_check.specs.Rules.{newest_spot}
use Rattle.c_check.specs.Statements.{is_head, statement_of}
use Rattle.c_model.specs.Parts.{parts, trees_in}
use Rattle.c_model.specs.Clauses.{Copying, Listed, clauses_among, expression_among, is_if, is_num_threads, listed_among, listed_by, names_listed}
use Rattle.c_model.specs.Clauses.Copying.{Private, First, Reduced}
use Rattle.c_model.specs.Copies.{is_loop, is_own_loop_variable}
use Rattle.c_model.specs.Loops.{is_declared, no_loop}
use Rattle.c_model.specs.Formed.{AreFormed, AreInRow, IsFormed}
use Rattle.c_model.specs.Scoped.{IsOpenable, Sees}
use Rattle.c_model.proofs.ScopeActs.{Quiet, after_both}
use Rattle.c_model.proofs.ScopeLoops.{IsLoopSeen}

-- what a clause uses is in scope
abbrev pub IsClauseSeen : List ℕ → NodeKind → Tree → Type 0
IsClauseSeen known node.NumThreads tree = Sees known (child_at tree 0)
IsClauseSeen known node.IfClause tree = Sees known (child_at tree 0)
IsClauseSeen known (node.Data which) tree = All (λ (name : Tree). Contains known (name_of name)) (parts tree)
IsClauseSeen known (node.Reduction operator) tree = All (λ (name : Tree). Contains known (name_of name)) (parts tree)
IsClauseSeen known other tree = Unit {0}

unfoldable pub AreClausesSeen : List ℕ → List Tree → Type 0
AreClausesSeen known [] = Unit {0}
AreClausesSeen known (tree ∷ trees) = IsClauseSeen known (kind_of tree) tree × AreClausesSeen known trees

names-listed : (known : List ℕ) (copying : Copying) (trees : List Tree) → All (λ (name : Tree). Contains known (name_of name)) trees → All (λ (one : Listed). Contains known one.name) (names_listed copying trees)
names-listed known copying trees are = All-map (λ (one : Listed). Contains known one.name) (λ (name : Tree). record { name = name_of name; copying = copying }) trees are

clause-listed : (known : List ℕ) (tree : Tree) → IsClauseSeen known (kind_of tree) tree → All (λ (one : Listed). Contains known one.name) (listed_by (kind_of tree) tree)
clause-listed known (Node (node.Data data_clause.Private) spot name number text children) seen = names-listed known Private (trees_in children) seen
clause-listed known (Node (node.Data data_clause.Firstprivate) spot name number text children) seen = names-listed known First (trees_in children) seen
clause-listed known (Node (node.Reduction operator) spot name number text children) seen = names-listed known (Reduced operator) (trees_in children) seen
clause-listed known (Node other spot name number text children) seen = All-nil (λ (one : Listed). Contains known one.name)

listed-seen : (known : List ℕ) (trees : List Tree) → AreClausesSeen known trees → All (λ (one : Listed). Contains known one.name) (listed_among trees)
unfolding AreClausesSeen listed_among
listed-seen known [] seen = All-nil (λ (one : Listed). Contains known one.name)
listed-seen known (tree ∷ trees) seen = All-append (λ (one : Listed). Contains known one.name) (listed_by (kind_of tree) tree) (listed_among trees) (clause-listed known tree seen.0) (listed-seen known trees seen.1)

threads-seen : (known : List ℕ) (trees : List Tree) → AreClausesSeen known trees → IfSome (expression_among is_num_threads trees) (λ expression. Sees known expression)
unfolding AreClausesSeen expression_among
threads-seen known [] seen = tt
threads-seen known (Node node.NumThreads spot name number text children ∷ trees) seen = seen.0
threads-seen known (Node other spot name number text children ∷ trees) seen = threads-seen known trees seen.1

condition-seen : (known : List ℕ) (trees : List Tree) → AreClausesSeen known trees → IfSome (expression_among is_if trees) (λ expression. Sees known expression)
unfolding AreClausesSeen expression_among
condition-seen known [] seen = tt
condition-seen known (Node node.IfClause spot name number text children ∷ trees) seen = seen.0
condition-seen known (Node other spot name number text children ∷ trees) seen = condition-seen known trees seen.1

-- of the loop, if there is one
abbrev IsLoopOf : List ℕ → Option LoopParts → Type 0
IsLoopOf known found = IfSome found (λ (parts : LoopParts). IsLoopSeen known parts.variable parts.start parts.end)

start-of : (known : List ℕ) (found : Option LoopParts) → IsLoopOf known found → Sees known (unwrap_or found no_loop).start
unfolding Sees
start-of known None seen = tt
start-of known (Some parts) seen = seen.start_seen

end-of : (known : List ℕ) (found : Option LoopParts) → IsLoopOf known found → Sees known (unwrap_or found no_loop).end
unfolding Sees
end-of known None seen = tt
end-of known (Some parts) seen = seen.end_seen

variable-of : (known : List ℕ) (found : Option LoopParts) → IsLoopOf known found → IfSome found (λ (parts : LoopParts). IsTrue (is_declared (kind_of parts.variable)) ⊎ Contains known (name_of parts.variable))
variable-of known None seen = tt
variable-of known (Some parts) seen = seen.variable_is

pub opens : (known : List ℕ) (construct : Tree) → AreClausesSeen known (clauses_among (parts construct)) → IsLoopOf known (loop_parts construct) → (IsTrue (is_loop construct) → IsTrue (is_some (loop_parts construct))) → IsOpenable known construct
opens known construct seen loop shared =
    record {
      listed = All-filter (λ (one : Listed). not (is_own_loop_variable construct one.name)) (λ (one : Listed). Contains known one.name) _ (listed-seen known (clauses_among (parts construct)) seen);
      threads = threads-seen known (clauses_among (parts construct)) seen;
      condition = condition-seen known (clauses_among (parts construct)) seen;
      start = start-of known (loop_parts construct) loop;
      end = end-of known (loop_parts construct) loop;
      shared = shared;
      variable = variable-of known (loop_parts construct) loop;
    }

-- what a construct's clauses say of it declares nothing, and the construct stays the newest
pub record IsInside (old new : Here) : Type 0 where
  pub names_same : new.names ≡ old.names
  pub newest : IsTrue (is_some old.constructs.newest) → IsTrue (is_some new.constructs.newest)

inside-nothing : (here : Here) → IsInside here here
inside-nothing here = record { names_same = refl; newest = λ is. is }

inside-then : (one two three : Here) → IsInside one two → IsInside two three → IsInside one three
inside-then one two three first second = record { names_same = second.names_same ∙ first.names_same; newest = λ is. second.newest (first.newest is) }

some-same : {X Y : Type 0} (f : X → Y) (found : Option X) → IsTrue (is_some found) → IsTrue (is_some (option_map f found))
some-same f None is = is
some-same f (Some it) is = refl

inside-single : (here : Here) (one : Single) → IsInside here (after here (Clause one))
unfolding after
inside-single here one = record { names_same = refl; newest = λ is. some-same _ here.constructs.newest is }

listed-newest : (constructs : Constructs) (found : Option Declared) (which : DataClause) → IsTrue (is_some constructs.newest) → IsTrue (is_some (listed constructs found which).newest)
listed-newest constructs None which is = is
listed-newest constructs (Some it) which is = some-same _ constructs.newest is

inside-names : (which : DataClause) (children : Children) (here : Here) → IsInside here (after_all here (names (naming.Listed which) children))
unfolding names after_all after
inside-names which Over here = inside-nothing here
inside-names which (Absent rest) here = inside-nothing here
inside-names which (Child tree rest) here =
    inside-then here _ _ (record { names_same = refl; newest = λ is. listed-newest here.constructs (find here.names.visible (name_of tree)) which is })
    (inside-names which rest (after here (Listing (name_of tree) (spot_of tree) which)))

inside-clause : (kind : NodeKind) (children : Children) (here : Here) → IsInside here (after_all here (clause_inside kind children))
unfolding after_all
inside-clause node.NumThreads children here = inside-single here _
inside-clause (node.Default word) children here = inside-single here _
inside-clause (node.Data which) children here = inside-names (data_of which) children here
inside-clause (node.Reduction operator) children here = inside-names clause.Reduced children here
inside-clause (node.Schedule kind) children here = inside-single here _
inside-clause node.Nowait children here = inside-single here _
inside-clause node.IfClause children here = inside-single here _
inside-clause other children here = inside-nothing here

inside-first : (children : Children) (here : Here) → IsInside here (after_all here (first_inside children))
unfolding after_all
inside-first Over here = inside-nothing here
inside-first (Absent rest) here = inside-nothing here
inside-first (Child (Node kind spot name number text children) rest) here = inside-clause kind children here

pub inside_same : (children : Children) (here : Here) → IsInside here (after_all here (inside_acts children))
unfolding inside_acts after_all
inside_same Over here = inside-nothing here
inside_same (Absent rest) here = inside-nothing here
inside_same (Child (Node (node.Clause lead) spot name number text children) rest) here =
    subst (λ (new : Here). IsInside here new) (sym (after_both here (first_inside children) (inside_acts rest)))
    (inside-then here _ _ (inside-first children here) (inside_same rest (after_all here (first_inside children))))
inside_same (Child (Node other spot name number text children) rest) here = inside_same rest here

-- a construct that shares out a loop has one of the form
no-newest : (newest : Option Construct) → IsTrue (is_some newest) → newest_spot newest ≡ [] → ⊥
no-newest None is none = cc
no-newest (Some construct) is none = cc

pub form_of : (shares form : Bool) (here : Here) → IsTrue (is_some here.constructs.newest) → Quiet here (if shares && not form then OddLoop ∷ [] else []) → shares ≡ true → form ≡ true
unfolding Quiet
form_of shares true here newest quiet is = refl
form_of true false here newest quiet is = absurd (no-newest here.constructs.newest newest quiet.0.loops)
form_of false false here newest quiet is = cc

pub formed_statement : (children : Children) → AreFormed children → IsFormed (statement_of children)
unfolding AreFormed AreInRow statement_of IsFormed
formed_statement Over formed = (tt, tt)
formed_statement (Absent rest) formed = (tt, tt)
formed_statement (Child tree rest) formed = behind (is_head (kind_of tree)) tree (statement_of rest) formed.0 (formed_statement rest formed.1)
  where
    behind : (head : Bool) (tree other : Tree) → IsFormed tree → IsFormed other → IsFormed (if head then other else tree)
    behind true tree other formed also = also
    behind false tree other formed also = formed
