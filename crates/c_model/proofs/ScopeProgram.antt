-- In a program that breaks no rule each function uses only names that are in scope.
use Rattle.std.specs.Prelude.{ℕ, ◌≤◌, ◌≡◌, ◌&&◌, ◌||◌, not, ◌==◌, nat_eq, nat_lt, if◌then◌else◌, Bool, true, false, IsTrue, List, [], ◌∷◌, ◌++◌, length, map, Option, Some, None, pos, refl}
use Rattle.std.specs.List.{All, Contains}
use Rattle.std.proofs.Common.{arith, ap, sym, ◌∙◌, append-nil, append_assoc, inl, inr, subst}
use Rattle.std.proofs.lemmas.Bool.{cases_Bool, eqb-true}
use Rattle.std.proofs.lemmas.Bool.Decides.{nat_tests}
use Rattle.std.proofs.lemmas.List.{length-replicate, map-append}
use Rattle.std.proofs.lemmas.List.Elements.{All-append, All-cons, All-head, All-nil, All-push, All-tail, All-weaker, Contains-append_left, Contains-append_right, Contains-push, Contains-push_cases}
use Rattle.c_tokens.specs.declared.token.Spot.{Spot}
use Rattle.c_syntax.specs.declared.node.Returns.{Returns}
use Rattle.c_syntax.specs.declared.node.Returns.TheVariants as returns
use Rattle.c_syntax.specs.declared.node.NodeKind.{NodeKind}
use Rattle.c_syntax.specs.declared.node.NodeKind.TheVariants as node
use Rattle.c_syntax.specs.language.Tree.{Tree, Children, kind_of, name_of, spot_of}
use Rattle.c_syntax.specs.language.Tree.Tree.{Node}
use Rattle.c_syntax.specs.language.Tree.Children.{Over, Child, Absent}
use Rattle.c_syntax.specs.language.Numbered.{TreeView, root_tree}
use Rattle.c_check.specs.declared.acts.act.Act.{Act}
use Rattle.c_check.specs.declared.acts.act.Act.TheVariants.{Begin, Declare, End, Finish, Use}
use Rattle.c_check.specs.declared.acts.act.Thing.{Thing}
use Rattle.c_check.specs.declared.acts.act.Thing.TheVariants as thing
use Rattle.c_check.specs.declared.acts.role.Role.TheVariants as role
use Rattle.c_check.specs.declared.acts.role.Naming.TheVariants as naming
use Rattle.c_check.specs.declared.scopes.declared.Declared.{Declared}
use Rattle.c_check.specs.Acts.{acts, each, function}
use Rattle.c_check.specs.Checked.{Checked, after_all}
use Rattle.c_check.specs.Declarations.{Declarations, find, is_at_level, next_of, scope_begun, with_next}
use Rattle.c_check.specs.Here.{Here, after, before_all, is_variable, used}
use Rattle.c_check.specs.Loops.{child_at}
use Rattle.c_check.specs.NameLists.{child_count, names}
use Rattle.c_check.specs.Rules.{is_odd_main, where_so}
use Rattle.c_model.specs.Parts.{declarators_in, flat_declarations, parts, trees_in}
use Rattle.c_model.specs.Program.{body_of, file_variables, function_among, function_named, is_function, is_function_named, is_of_variables, parameters_of, variables_among}
use Rattle.c_model.specs.Cells.{Bound, with_declarator, with_declarators}
use Rattle.c_model.specs.Loops.{is_declared}
use Rattle.c_model.specs.Formed.{AreFormed, AreInRow, HasChild, IsFormed, IsOver, IsProgramFormed, is_block, is_file_part, is_global, is_params, is_part}
use Rattle.c_model.specs.Scoped.{HasCells, IsCallable, IsWellScoped, Knows, file_names, names_of}
use Rattle.c_model.proofs.ScopeTrees.{knows_nothing}
use Rattle.c_model.proofs.ScopeNames.{names_push}
use Rattle.c_model.proofs.ScopeActs.{Does, FitsIn, Quiet, after_both, checked_is_quiet, does_assoc, does_both, does_declare, does_in_scope, does_more, does_nothing, find_next, fits_begun, fits_more, quiet_both, scope_is_ended, unplaced}
use Rattle.c_model.proofs.ScopeBegins.{has_same, items_none, names_none, one_has}
use Rattle.c_model.proofs.ScopeChecked.{count_same, has_elements, parts_known}

-- the names of a file are those of its variables
declared-names : (program : TreeView) (trees : List Tree) (bound : Bound) → names_of (with_declarators program bound trees).env ≡ names_of bound.env ++ map name_of trees
unfolding with_declarators
declared-names program [] bound = sym (append-nil (names_of bound.env))
declared-names program (tree ∷ trees) bound =
    declared-names program trees (with_declarator program bound tree) ∙ ap (λ (names : List ℕ). names ++ map name_of trees) (names_push bound.env _) ∙ append_assoc (names_of bound.env) (name_of tree ∷ []) (map name_of trees)

variable-chosen : (is : Bool) (tree : Tree) (trees : List Tree) (name : ℕ) → Contains (map name_of (flat_declarations trees)) name → Contains (map name_of (flat_declarations (if is then tree ∷ trees else trees))) name
unfolding flat_declarations
variable-chosen true tree trees name there =
    subst (λ (names : List ℕ). Contains names name) (sym (map-append name_of (declarators_in (kind_of tree) tree) (flat_declarations trees))) (Contains-append_right (map name_of (declarators_in (kind_of tree) tree)) _ name there)
variable-chosen false tree trees name there = there

variable-first : (is : Bool) (tree : Tree) (trees : List Tree) (name : ℕ) → IsTrue is → Contains (map name_of (declarators_in (kind_of tree) tree)) name → Contains (map name_of (flat_declarations (if is then tree ∷ trees else trees))) name
unfolding flat_declarations
variable-first true tree trees name is there =
    subst (λ (names : List ℕ). Contains names name) (sym (map-append name_of (declarators_in (kind_of tree) tree) (flat_declarations trees))) (Contains-append_left (map name_of (declarators_in (kind_of tree) tree)) _ name there)
variable-first false tree trees name is there = absurd (cc)

variable-in : (front rest : List Tree) (tree : Tree) (name : ℕ) → IsTrue (is_of_variables (kind_of tree)) → Contains (map name_of (declarators_in (kind_of tree) tree)) name → Contains (map name_of (flat_declarations (variables_among (front ++ tree ∷ rest)))) name
unfolding variables_among
variable-in [] rest tree name is there = variable-first (is_of_variables (kind_of tree)) tree (variables_among rest) name is there
variable-in (first ∷ front) rest tree name is there = variable-chosen (is_of_variables (kind_of first)) first (variables_among (front ++ tree ∷ rest)) name (variable-in front rest tree name is there)

-- what is known of a function
record IsFunctionKnown (program : TreeView) (tree : Tree) : Type 0 where
  body : Knows program (file_names program ++ map name_of (parameters_of tree)) (body_of tree)
  main : name_of (child_at tree 0) ≡ program.main → parameters_of tree ≡ []

abbrev IfFunction : TreeView → Tree → Type 0
IfFunction program tree = IsTrue (is_function (kind_of tree)) → IsFunctionKnown program tree

never : {A : Type 0} → IsTrue false → A
never is = absurd (cc)

abbrev IsPassed : List Declared → Tree → Type 0
IsPassed visible tree = IsTrue (is_function (kind_of tree)) → is_at_level 0 (find visible (name_of (child_at tree 0))) ≡ true

record IsPartKnown (program : TreeView) (tree : Tree) : Type 0 where
  function_known : IfFunction program tree
  variables_known : IsTrue (is_of_variables (kind_of tree)) → All HasCells (declarators_in (kind_of tree) tree)

-- where a program stands outside of its functions, behind these parts of the file
record IsInFile (program : TreeView) (front : List Tree) (here : Here) : Type 0 where
  main : here.main ≡ program.main
  level : here.names.level ≡ 0
  fits : FitsIn program (file_names program) here.names
  passed : All (IsPassed here.names.visible) front
  main_there : here.has_main ≡ true → IsTrue (is_function_named program.main (function_named program program.main))

still-at : (first : Declared) (visible : List Declared) (name : ℕ) → first.level ≡ 0 → is_at_level 0 (find visible name) ≡ true → is_at_level 0 (find (first ∷ visible) name) ≡ true
unfolding find
still-at first visible name level at =
    elim (cases_Bool (nat_eq first.name name)) [
      | inl same ↦ rw same (grind (arith, nat_tests))
      | inr differs ↦ rw differs at
    ]

newest-at : (first : Declared) (visible : List Declared) → first.level ≡ 0 → is_at_level 0 (find (first ∷ visible) first.name) ≡ true
unfolding find
newest-at first visible level =
    let same : nat_eq first.name first.name ≡ true = grind (arith, nat_tests) in
    rw same (grind (arith, nat_tests))

module _ (program : TreeView) where
  file-declare : (front : List Tree) (here : Here) (name : ℕ) (spot : Spot) (what : Thing) → IsTrue (is_variable what) → Contains (file_names program) name → IsInFile program front here → IsInFile program front (after here (Declare name spot what))
  unfolding after
  file-declare front here name spot what variable there in_file =
      let does = does_declare program (file_names program) here.names name what variable in_file.fits in
      record {
        main = in_file.main;
        level = in_file.level;
        fits = fits_more program _ (file_names program) _ (λ other is. elim (Contains-push_cases (file_names program) name other is) [ inl front ↦ front | inr same ↦ subst (λ (name : ℕ). Contains (file_names program) name) same there ]) does.fits;
        passed = All-weaker (IsPassed here.names.visible) (IsPassed (next_of here.names name what ∷ here.names.visible)) (λ tree at is. still-at (next_of here.names name what) here.names.visible (name_of (child_at tree 0)) in_file.level (at is)) front in_file.passed;
        main_there = in_file.main_there;
      }

  file-globals : (front : List Tree) (children : Children) → AreInRow is_global children → ((name : ℕ) → Contains (map name_of (trees_in children)) name → Contains (file_names program) name) → (here : Here) → IsInFile program front here → IsInFile program front (after_all here (each role.Plain children))
  unfolding acts each after_all trees_in AreInRow
  file-globals front Over row has here in_file = in_file
  file-globals front (Absent rest) row has here in_file = in_file
  file-globals front (Child (Node node.GlobalVar spot name number text below) rest) row has here in_file =
      file-globals front rest row.1 (λ other there. has other (Contains-append_right (name ∷ []) (map name_of (trees_in rest)) other there)) _
      (file-declare front here name spot thing.Int refl (has name (Contains-append_left (name ∷ []) (map name_of (trees_in rest)) name (Contains-push [] name))) in_file)
  file-globals front (Child (Node node.GlobalArray spot name number text below) rest) row has here in_file =
      file-globals front rest row.1 (λ other there. has other (Contains-append_right (name ∷ []) (map name_of (trees_in rest)) other there)) _
      (file-declare front here name spot (thing.Array number) refl (has name (Contains-append_left (name ∷ []) (map name_of (trees_in rest)) name (Contains-push [] name))) in_file)
  file-globals front (Child (Node (node.GlobalSet sign) spot name number text below) rest) row has here in_file =
      file-globals front rest row.1 (λ other there. has other (Contains-append_right (name ∷ []) (map name_of (trees_in rest)) other there)) _
      (file-declare front here name spot thing.Int refl (has name (Contains-append_left (name ∷ []) (map name_of (trees_in rest)) name (Contains-push [] name))) in_file)
  file-globals front (Child (Node other spot name number text below) rest) row has here in_file = never row.0

  file-locks : (front : List Tree) (children : Children) → ((name : ℕ) → Contains (map name_of (trees_in children)) name → Contains (file_names program) name) → (here : Here) → IsInFile program front here → IsInFile program front (after_all here (names naming.Locks children))
  unfolding names after_all trees_in
  file-locks front Over has here in_file = in_file
  file-locks front (Absent rest) has here in_file = in_file
  file-locks front (Child tree rest) has here in_file =
      file-locks front rest (λ other there. has other (Contains-append_right (name_of tree ∷ []) (map name_of (trees_in rest)) other there)) _
      (file-declare front here (name_of tree) (spot_of tree) thing.Lock refl (has (name_of tree) (Contains-append_left (name_of tree ∷ []) (map name_of (trees_in rest)) (name_of tree) (Contains-push [] (name_of tree)))) in_file)

  -- the function that is declared where a program stands is the one that its name finds
  not-among : (name : ℕ) (visible : List Declared) (front rest : List Tree) (tree : Tree) → All (IsPassed visible) front
      → is_at_level 0 (find visible name) ≡ false → is_function_named name tree ≡ true → function_among name (front ++ tree ∷ rest) ≡ tree
  unfolding function_among
  not-among name visible [] rest tree passed free named = rw named refl
  not-among name visible (first ∷ front) rest tree passed free named =
      rw (other (is_function (kind_of first)) refl) (not-among name visible front rest tree (All-tail (IsPassed visible) first front passed) free named)
    where
      other : (is : Bool) → is_function (kind_of first) ≡ is → (if is_function (kind_of first) then name_of (child_at first 0) == name else false) ≡ false
      other false is = rw is refl
      other true is =
          rw is (elim (cases_Bool (nat_eq (name_of (child_at first 0)) name)) [
            | inl same ↦
                let at : is_at_level 0 (find visible (name_of (child_at first 0))) ≡ true = All-head (IsPassed visible) first front passed is in
                let again : is_at_level 0 (find visible name) ≡ true = subst (λ (name : ℕ). is_at_level 0 (find visible name) ≡ true) (eqb-true (name_of (child_at first 0)) name same) at in
                cc
            | inr differs ↦ differs
          ])

  -- what doesn't change
  used-main : (here : Here) (spot : Spot) (found : Option Declared) → (used here spot found).main ≡ here.main
  used-main here spot None = refl
  used-main here spot (Some it) = refl

  main-after : (here : Here) (act : Act) → (after here act).main ≡ here.main
  unfolding after
  main-after here (Use name spot usage) = used-main here spot (find here.names.visible name)
  main-after here other = refl

  main-same : (here : Here) (some : List Act) → (after_all here some).main ≡ here.main
  unfolding after_all
  main-same here [] = refl
  main-same here (act ∷ some) = main-same (after here act) some ∙ main-after here act

  -- a function begins
  function-fits : (known : List ℕ) (here : Declarations) (name : ℕ) (gives : Returns) (count : ℕ) → FitsIn program known here → IsCallable program name count → FitsIn program known (with_next here name (thing.Function gives count))
  function-fits known here name gives count fits callable =
      let first : Declared = next_of here name (thing.Function gives count) in
      record {
        covers = λ other it found is. find_next (λ it. Contains known other) first here.visible other it found
            (λ named same. never (subst (λ (it : Declared). IsTrue (is_variable it.thing)) (sym same) is))
            (λ found. fits.covers other it found is);
        callable = λ other it gives number found is. find_next (λ it. IsCallable program other number) first here.visible other it found
            (λ named same. subst (λ (other : ℕ). IsCallable program other number) named (subst (λ (count : ℕ). IsCallable program name count) (same-number gives number (ap (λ (it : Declared). it.thing) same ∙ is)) callable))
            (λ found. fits.callable other it gives number found is);
        below = All-cons (λ (it : Declared). it.level ≤ here.level) first here.visible (omega arith) fits.below;
      }
    where
      same-number : (other : Returns) (number : ℕ) → thing.Function gives count ≡ thing.Function other number → count ≡ number
      same-number other number is = cc

  parameters-known : (parameters : Children) (here : Here) (known : List ℕ) → FitsIn program known here.names → Does program (known ++ map name_of (trees_in parameters)) here.names (after_all here (names naming.Parameters parameters)).names
  unfolding names trees_in after_all after
  parameters-known Over here known fits = does_more program known _ _ _ (λ name there. Contains-append_left known [] name there) (does_nothing program known here.names fits)
  parameters-known (Absent rest) here known fits = does_more program known _ _ _ (λ name there. Contains-append_left known [] name there) (does_nothing program known here.names fits)
  parameters-known (Child tree rest) here known fits =
      let one = does_declare program known here.names (name_of tree) thing.Int refl fits in
      let more = parameters-known rest (after here (Declare (name_of tree) (spot_of tree) thing.Int)) (known ++ name_of tree ∷ []) one.fits in
      does_assoc program known (name_of tree ∷ []) (map name_of (trees_in rest)) here.names _ (does_both program _ _ here.names _ _ one more)

  none-counted : (children : Children) → child_count children ≡ 0 → trees_in children ≡ []
  unfolding child_count trees_in
  none-counted Over is = refl
  none-counted (Absent rest) is = refl
  none-counted (Child tree rest) is = absurd (omega (arith, is))

  no-parameters : (name main count : ℕ) (gives : Returns) (spot : Spot) → where_so (name == main && is_odd_main gives count) spot ≡ [] → name ≡ main → count ≡ 0
  no-parameters name main count gives spot right is =
      let same : nat_eq name main ≡ true = grind (arith, nat_tests) in odd gives (rw same at right)
    where
      odd : (gives : Returns) → where_so (is_odd_main gives count) spot ≡ [] → count ≡ 0
      odd returns.Int right = let few : nat_lt 0 count ≡ false = unplaced (nat_lt 0 count) spot right in grind (arith, nat_tests)
      odd returns.Void right = absurd (cc)

  main-found : (name main : ℕ) → IsTrue (is_function_named name (function_named program name)) → main ≡ program.main → {has : Bool} → (has ≡ true → IsTrue (is_function_named program.main (function_named program program.main)))
      → (has || name == main) ≡ true → IsTrue (is_function_named program.main (function_named program program.main))
  main-found name main there is {has = true} earlier either = earlier refl
  main-found name main there is {has = false} earlier either =
      subst (λ (name : ℕ). IsTrue (is_function_named name (function_named program name))) (eqb-true name main either ∙ is) there

  record FunctionDone (front : List Tree) (tree : Tree) (new : Here) : Type 0 where
    known : IsFunctionKnown program tree
    in_file : IsInFile program (front ++ tree ∷ []) new

  module _ (front rest : List Tree) (here : Here) (in_file : IsInFile program front here) where
    function-done : (gives : Returns) (spot : Spot) (other number : ℕ) (text : List ℕ) (named : Tree) (params : NodeKind) (s1 : Spot) (n1 u1 : ℕ) (t1 : List ℕ) (parameters : Children) (s2 : Spot) (n2 u2 : ℕ) (t2 : List ℕ) (items : Children)
        → parts (root_tree program) ≡ front ++ Node (node.Function gives) spot other number text (Child named (Child (Node params s1 n1 u1 t1 parameters) (Child (Node node.Block s2 n2 u2 t2 items) Over))) ∷ rest
        → AreInRow is_part items → AreFormed items
        → Quiet here (Begin (name_of named) (spot_of named) gives (child_count parameters) ∷ names naming.Parameters parameters ++ each role.Plain items ++ End ∷ [])
        → FunctionDone front (Node (node.Function gives) spot other number text (Child named (Child (Node params s1 n1 u1 t1 parameters) (Child (Node node.Block s2 n2 u2 t2 items) Over))))
        (after_all here (Begin (name_of named) (spot_of named) gives (child_count parameters) ∷ names naming.Parameters parameters ++ each role.Plain items ++ End ∷ []))
    unfolding Quiet after_all after Knows
    function-done gives spot other number text named params s1 n1 u1 t1 parameters s2 n2 u2 t2 items are row formed quiet =
        let tree = Node (node.Function gives) spot other number text (Child named (Child (Node params s1 n1 u1 t1 parameters) (Child (Node node.Block s2 n2 u2 t2 items) Over))) in
        let name = name_of named in
        let count = child_count parameters in
        let begin = Begin name (spot_of named) gives count in
        let inner = after here begin in
        let listed = names naming.Parameters parameters in
        let body = each role.Plain items in
        let scope = with_next here.names name (thing.Function gives count) in
        let itself : is_function_named name tree ≡ true = grind (arith, nat_tests) in
        let free : is_at_level 0 (find here.names.visible name) ≡ false = subst (λ (level : ℕ). is_at_level level (find here.names.visible name) ≡ false) in_file.level (unplaced _ (spot_of named) quiet.0.twice) in
        let found : function_named program name ≡ tree = ap (function_among name) are ∙ not-among name here.names.visible front rest tree in_file.passed free itself in
        let callable : IsCallable program name count = record {
          there = subst (λ (tree : Tree). IsTrue (is_function_named name tree)) (sym found) itself;
          fits = ap (λ (tree : Tree). length (parameters_of tree)) found ∙ sym (count_same program parameters);
        } in
        let fits = function-fits (file_names program) here.names name gives count in_file.fits callable in
        let p1 = quiet_both inner (listed ++ body) (End ∷ []) quiet.1 in
        let p2 = quiet_both inner listed body p1.0 in
        let one = parameters-known parameters inner (file_names program) (fits_begun program (file_names program) scope fits) in
        let walked = parts_known program items row formed (after_all inner listed) (file_names program ++ map name_of (trees_in parameters)) one.fits p2.1 in
        let inside = does_both program _ walked.1 (scope_begun scope) _ _ one walked.2 in
        let does = does_in_scope program (file_names program) walked.1 scope _ fits inside in
        let ends : after_all here (begin ∷ listed ++ body ++ End ∷ []) ≡ after (after_all (after_all inner listed) body) End = after_both inner (listed ++ body) (End ∷ []) ∙ ap (λ (now : Here). after now End) (after_both inner listed body) in
        record {
          known = record {
            body = walked.0;
            main = λ is. none-counted parameters (no-parameters name here.main count gives (spot_of named) quiet.0.wrong (is ∙ sym in_file.main));
          };
          in_file = subst (λ (now : Here). IsInFile program (front ++ tree ∷ []) now) (sym ends) (record {
            main = main-after (after_all (after_all inner listed) body) End ∙ main-same (after_all inner listed) body ∙ main-same inner listed ∙ main-after here begin ∙ in_file.main;
            level = does.level ∙ in_file.level;
            fits = does.fits;
            passed = subst (λ (visible : List Declared). All (IsPassed visible) (front ++ tree ∷ [])) (sym (scope_is_ended program (file_names program) walked.1 scope _ fits inside))
                (All-push (IsPassed scope.visible) front tree
                (All-weaker (IsPassed here.names.visible) (IsPassed scope.visible) (λ one at is. still-at (next_of here.names name (thing.Function gives count)) here.names.visible (name_of (child_at one 0)) in_file.level (at is)) front in_file.passed)
                (λ is. newest-at (next_of here.names name (thing.Function gives count)) here.names.visible in_file.level));
            main_there = λ has.
                main-found name here.main callable.there in_file.main in_file.main_there
                (sym (one_has (after_all (after_all inner listed) body) End refl ∙ (has_same (after_all inner listed) body (items_none items row formed) ∙ has_same inner listed (names_none naming.Parameters parameters))) ∙ has);
          });
        }

  -- the forms of a function, one child after another
  module _ (front rest : List Tree) (here : Here) (in_file : IsInFile program front here) (gives : Returns) (spot : Spot) (other number : ℕ) (text : List ℕ) where
    abbrev FunctionDoneAt : Children → Type 0
    FunctionDoneAt children =
        parts (root_tree program) ≡ front ++ Node (node.Function gives) spot other number text children ∷ rest → Quiet here (function gives children)
        → FunctionDone front (Node (node.Function gives) spot other number text children) (after_all here (function gives children))

    third-child : (named : Tree) (params : NodeKind) (s1 : Spot) (n1 u1 : ℕ) (t1 : List ℕ) (parameters children : Children) → HasChild is_block IsOver children → AreFormed children → FunctionDoneAt (Child named (Child (Node params s1 n1 u1 t1 parameters) children))
    unfolding function AreFormed IsFormed
    third-child named params s1 n1 u1 t1 parameters (Child (Node node.Block s2 n2 u2 t2 items) Over) form formed are quiet =
        function-done front rest here in_file gives spot other number text named params s1 n1 u1 t1 parameters s2 n2 u2 t2 items are formed.0.0 formed.0.1 quiet
    third-child named params s1 n1 u1 t1 parameters (Child (Node node.Block s2 n2 u2 t2 items) (Child tree more)) form formed are quiet = absurd form.1
    third-child named params s1 n1 u1 t1 parameters (Child (Node node.Block s2 n2 u2 t2 items) (Absent more)) form formed are quiet = absurd form.1
    third-child named params s1 n1 u1 t1 parameters (Child (Node kind s2 n2 u2 t2 items) more) form formed are quiet = never form.0
    third-child named params s1 n1 u1 t1 parameters Over form formed are quiet = absurd form
    third-child named params s1 n1 u1 t1 parameters (Absent more) form formed are quiet = absurd form

    second-child : (named : Tree) (children : Children) → HasChild is_params (HasChild is_block IsOver) children → AreFormed children → FunctionDoneAt (Child named children)
    unfolding AreFormed
    second-child named (Child (Node params s1 n1 u1 t1 parameters) children) form formed are quiet = third-child named params s1 n1 u1 t1 parameters children form.1 formed.1 are quiet
    second-child named Over form formed are quiet = absurd form
    second-child named (Absent more) form formed are quiet = absurd form

    first-child : (children : Children) → HasChild is_declared (HasChild is_params (HasChild is_block IsOver)) children → AreFormed children → FunctionDoneAt children
    unfolding AreFormed
    first-child (Child named children) form formed are quiet = second-child named children form.1 formed.1 are quiet
    first-child Over form formed are quiet = absurd form
    first-child (Absent more) form formed are quiet = absurd form

  -- the file as a whole
  pushed : (front : List Tree) (tree : Tree) (here : Here) → is_function (kind_of tree) ≡ false → IsInFile program front here → IsInFile program (front ++ tree ∷ []) here
  pushed front tree here other in_file =
      record {
        main = in_file.main;
        level = in_file.level;
        fits = in_file.fits;
        passed = All-push (IsPassed here.names.visible) front tree in_file.passed (λ is. absurd (let wrong : true ≡ false = sym is ∙ other in cc));
        main_there = in_file.main_there;
      }

  has-names : (front rest : List Tree) (tree : Tree) → parts (root_tree program) ≡ front ++ tree ∷ rest → IsTrue (is_of_variables (kind_of tree)) → (name : ℕ) → Contains (map name_of (declarators_in (kind_of tree) tree)) name → Contains (file_names program) name
  has-names front rest tree are is name there =
      subst (λ (names : List ℕ). Contains names name) (sym (declared-names program (flat_declarations (file_variables program)) (record { env = []; cells = [] })))
      (subst (λ (trees : List Tree). Contains (map name_of (flat_declarations (variables_among trees))) name) (sym are) (variable-in front rest tree name is there))

  -- the variables of a file have cells
  globals-have : (children : Children) → AreInRow is_global children → (here : Here) → Quiet here (each role.Plain children) → All HasCells (trees_in children)
  unfolding acts each trees_in AreInRow Quiet after_all
  globals-have Over row here quiet = All-nil HasCells
  globals-have (Absent rest) row here quiet = All-nil HasCells
  globals-have (Child (Node node.GlobalVar spot name number text below) rest) row here quiet =
      All-cons HasCells (Node node.GlobalVar spot name number text below) (trees_in rest) (omega arith) (globals-have rest row.1 (after here (Declare name spot thing.Int)) quiet.1)
  globals-have (Child (Node node.GlobalArray spot name number text below) rest) row here quiet =
      All-cons HasCells (Node node.GlobalArray spot name number text below) (trees_in rest) (omega (arith, length-replicate number (pos 0), has_elements program here name spot number quiet.0))
      (globals-have rest row.1 (after here (Declare name spot (thing.Array number))) quiet.1)
  globals-have (Child (Node (node.GlobalSet sign) spot name number text below) rest) row here quiet =
      All-cons HasCells (Node (node.GlobalSet sign) spot name number text below) (trees_in rest) (omega arith) (globals-have rest row.1 (after here (Declare name spot thing.Int)) quiet.1)
  globals-have (Child (Node other spot name number text below) rest) row here quiet = never row.0

  locks-have : (children : Children) → AreInRow is_declared children → All HasCells (trees_in children)
  unfolding trees_in AreInRow
  locks-have Over row = All-nil HasCells
  locks-have (Absent rest) row = All-nil HasCells
  locks-have (Child (Node node.Name spot name number text below) rest) row = All-cons HasCells (Node node.Name spot name number text below) (trees_in rest) (omega arith) (locks-have rest row.1)
  locks-have (Child (Node other spot name number text below) rest) row = never row.0

  file-known : (front : List Tree) (rest : Children) → parts (root_tree program) ≡ front ++ trees_in rest → AreInRow is_file_part rest → AreFormed rest → (here : Here) → IsInFile program front here → Quiet here (each role.Plain rest)
      → All (IsPartKnown program) (trees_in rest) × ((after_all here (each role.Plain rest)).has_main ≡ true → IsTrue (is_function_named program.main (function_named program program.main)))
  unfolding acts each trees_in AreInRow AreFormed IsFormed after_all Quiet
  file-known front Over are row formed here in_file quiet = (All-nil (IsPartKnown program), in_file.main_there)
  file-known front (Absent rest) are row formed here in_file quiet = (All-nil (IsPartKnown program), in_file.main_there)
  file-known front (Child (Node node.Include spot name number text children) rest) are row formed here in_file quiet =
      let tree = Node node.Include spot name number text children in
      let later = file-known (front ++ tree ∷ []) rest (are ∙ sym (append_assoc front (tree ∷ []) (trees_in rest))) row.1 formed.1 here (pushed front tree here refl in_file) quiet in
      (All-cons (IsPartKnown program) tree (trees_in rest) (record { function_known = λ is. never is; variables_known = λ is. never is }) later.0, later.1)
  file-known front (Child (Node node.Globals spot name number text children) rest) are row formed here in_file quiet =
      let tree = Node node.Globals spot name number text children in
      let split = quiet_both here (each role.Plain children) (each role.Plain rest) quiet in
      let later = file-known (front ++ tree ∷ []) rest (are ∙ sym (append_assoc front (tree ∷ []) (trees_in rest))) row.1 formed.1 (after_all here (each role.Plain children))
      (pushed front tree _ refl (file-globals front children formed.0.0 (has-names front (trees_in rest) tree are refl) here in_file)) split.1 in
      (All-cons (IsPartKnown program) tree (trees_in rest) (record { function_known = λ is. never is; variables_known = λ is. globals-have children formed.0.0 here split.0 }) later.0, λ has. later.1 (ap (λ (now : Here). now.has_main) (sym (after_both here (each role.Plain children) (each role.Plain rest))) ∙ has))
  file-known front (Child (Node node.Locks spot name number text children) rest) are row formed here in_file quiet =
      let tree = Node node.Locks spot name number text children in
      let split = quiet_both here (names naming.Locks children) (each role.Plain rest) quiet in
      let later = file-known (front ++ tree ∷ []) rest (are ∙ sym (append_assoc front (tree ∷ []) (trees_in rest))) row.1 formed.1 (after_all here (names naming.Locks children))
      (pushed front tree _ refl (file-locks front children (has-names front (trees_in rest) tree are refl) here in_file)) split.1 in
      (All-cons (IsPartKnown program) tree (trees_in rest) (record { function_known = λ is. never is; variables_known = λ is. locks-have children formed.0.0 }) later.0, λ has. later.1 (ap (λ (now : Here). now.has_main) (sym (after_both here (names naming.Locks children) (each role.Plain rest))) ∙ has))
  file-known front (Child (Node (node.Function gives) spot name number text children) rest) are row formed here in_file quiet =
      let tree = Node (node.Function gives) spot name number text children in
      let split = quiet_both here (function gives children) (each role.Plain rest) quiet in
      let done = first-child front (trees_in rest) here in_file gives spot name number text children formed.0.0 formed.0.1 are split.0 in
      let later = file-known (front ++ tree ∷ []) rest (are ∙ sym (append_assoc front (tree ∷ []) (trees_in rest))) row.1 formed.1 (after_all here (function gives children)) done.in_file split.1 in
      (All-cons (IsPartKnown program) tree (trees_in rest) (record { function_known = λ is. done.known; variables_known = λ is. never is }) later.0, λ has. later.1 (ap (λ (now : Here). now.has_main) (sym (after_both here (function gives children) (each role.Plain rest))) ∙ has))
  file-known front (Child (Node other spot name number text children) rest) are row formed here in_file quiet = never row.0

  -- whichever function is named
  record IsNamedKnown (name : ℕ) (tree : Tree) : Type 0 where
    body : Knows program (file_names program ++ map name_of (parameters_of tree)) (body_of tree)
    main : name ≡ program.main → Knows program (file_names program) (body_of tree)

  both-named : (is same : Bool) → (if is then same else false) ≡ true → (is ≡ true) × (same ≡ true)
  both-named true same found = (refl, found)
  both-named false same found = absurd (cc)

  chosen-known : (name : ℕ) (tree other : Tree) (found : Bool) → is_function_named name tree ≡ found → IfFunction program tree → IsNamedKnown name other → IsNamedKnown name (if found then tree else other)
  chosen-known name tree other false is known also = also
  chosen-known name tree other true is known also =
      let both = both-named (is_function (kind_of tree)) (name_of (child_at tree 0) == name) is in
      let function = known both.0 in
      record {
        body = function.body;
        main = λ main. subst (λ (names : List ℕ). Knows program names (body_of tree))
            (ap (λ (parameters : List Tree). file_names program ++ map name_of parameters) (function.main (eqb-true (name_of (child_at tree 0)) name both.1 ∙ main)) ∙ append-nil (file_names program)) function.body;
      }

  named-known : (name : ℕ) (trees : List Tree) → All (IfFunction program) trees → IsNamedKnown name (function_among name trees)
  unfolding function_among
  named-known name [] are = record { body = knows_nothing program _; main = λ is. knows_nothing program _ }
  named-known name (tree ∷ trees) are =
      chosen-known name tree (function_among name trees) (is_function_named name tree) refl (All-head (IfFunction program) tree trees are) (named-known name trees (All-tail (IfFunction program) tree trees are))

  chosen-have : (is : Bool) (tree : Tree) (trees : List Tree) → (IsTrue is → All HasCells (declarators_in (kind_of tree) tree)) → All HasCells (flat_declarations trees) → All HasCells (flat_declarations (if is then tree ∷ trees else trees))
  unfolding flat_declarations
  chosen-have true tree trees have also = All-append HasCells (declarators_in (kind_of tree) tree) (flat_declarations trees) (have refl) also
  chosen-have false tree trees have also = also

  variables-have : (trees : List Tree) → All (IsPartKnown program) trees → All HasCells (flat_declarations (variables_among trees))
  unfolding flat_declarations variables_among
  variables-have [] are = All-nil HasCells
  variables-have (tree ∷ trees) are =
      chosen-have (is_of_variables (kind_of tree)) tree (variables_among trees) (All-head (IsPartKnown program) tree trees are).variables_known (variables-have trees (All-tail (IsPartKnown program) tree trees are))

  begins-in-file : IsInFile program [] (before_all program.main)
  unfolding find
  begins-in-file =
      record {
        main = refl;
        level = refl;
        fits = record { covers = λ name it found is. absurd (cc); callable = λ name it gives count found is. absurd (cc); below = All-nil (λ (it : Declared). it.level ≤ 0) };
        passed = All-nil (IsPassed []);
        main_there = λ has. absurd (cc);
      }

  root-known : (root : Tree) → root_tree program ≡ root → kind_of root ≡ node.Program → IsFormed root → Quiet (before_all program.main) (acts role.Plain root)
      → All (IsPartKnown program) (parts root) × ((after_all (before_all program.main) (acts role.Plain root)).has_main ≡ true → IsTrue (is_function_named program.main (function_named program program.main)))
  unfolding acts IsFormed
  root-known (Node node.Program spot name number text children) is kind formed quiet = file-known [] children (ap parts is) formed.0 formed.1 (before_all program.main) begins-in-file quiet
  root-known (Node other spot name number text children) is kind formed quiet = absurd (cc)

  finished : (has : Bool) (spot : Spot) → where_so (not has) spot ≡ [] → has ≡ true
  finished true spot is = refl
  finished false spot is = absurd (cc)

  pub well_scoped : Checked program → IsProgramFormed program → IsWellScoped program
  unfolding Quiet
  well_scoped checked formed =
      let quiet = quiet_both (before_all program.main) (acts role.Plain (root_tree program)) (Finish program.end ∷ []) (checked_is_quiet program checked) in
      let root = root-known (root_tree program) refl formed.kind formed.formed quiet.0 in
      let known = root.0 in
      let functions = All-weaker (IsPartKnown program) (IfFunction program) (λ tree is. is.function_known) (parts (root_tree program)) known in
      record {
        functions = λ name. (named-known name (parts (root_tree program)) functions).body;
        main = (named-known program.main (parts (root_tree program)) functions).main refl;
        main_there = root.1 (finished (after_all (before_all program.main) (acts role.Plain (root_tree program))).has_main program.end quiet.1.0.main);
        variables = variables-have (parts (root_tree program)) known;
      }
