-- What a program is asked: its functions and variables, slots, copies and criticals. Alike programs have the same.
use Rattle.std.proofs.Common.{ℕ, ℤ, pos, ◌≡◌, List, [], ◌∷◌, length, ap, refl, ◌∙◌, unwrap_or, None, if◌then◌else◌}
use Rattle.c_tokens.specs.declared.token.Spot.{Spot}
use Rattle.c_syntax.specs.language.Numbered.{TreeView, root_tree}
use Rattle.c_syntax.specs.language.Tree.{Tree, children_of, kind_of, name_of, number_of, spot_of}
use Rattle.c_check.specs.Checked.{acts_in, after_all, end_of}
use Rattle.c_check.specs.Here.{Here as Standing, before_all}
use Rattle.c_check.specs.Seen.{copies_by_kind, critical_by_kind, critical_count, critical_number, slot_in, slot_of_name, task_copies}
use Rattle.c_check.specs.Statements.{name_of_critical}
use Rattle.c_model.specs.declared.entry.Entry.{Entry}
use Rattle.c_model.specs.declared.point.Target.TheVariants.{Nowhere}
use Rattle.c_model.specs.Begin.{explicit_task_of, first_store, main_task, new_task}
use Rattle.c_model.specs.Calls.{behind_first, file_bound, first_or_zero, with_parameters}
use Rattle.c_model.specs.Cells.{Bound, entry_of, first_numbers, with_cells, with_declarator, with_declarators}
use Rattle.c_model.specs.Clauses.{construct_statement}
use Rattle.c_model.specs.Copies.{is_loop, listed_variables, with_listed, with_own_cells, with_slots, with_task_cells}
use Rattle.c_model.specs.Loops.{declares_variable, loop_of}
use Rattle.c_model.specs.Parts.{flat_declarations, parts}
use Rattle.c_model.specs.Program.{body_of, file_variables, function_among, function_named, variables_among}
use Rattle.c_model.specs.Task.{Moment, Task}
use Rattle.c_model.specs.Task.Item.{FallOff, Start}
use Rattle.numbered_runs.specs.Alike.{AreAlike}

module _ (p q : TreeView) (same : AreAlike p q) where
  -- where the checker stands at the end
  ended : end_of p ≡ end_of q
  ended =
      ap (λ (tree : Tree). after_all (before_all p.main) (acts_in tree p.end)) same.root
      ∙ ap (λ (spot : Spot). after_all (before_all p.main) (acts_in (root_tree q) spot)) same.end
      ∙ ap (λ (main : ℕ). after_all (before_all main) (acts_in (root_tree q) q.end)) same.main

  pub same_slot : (tree : Tree) → slot_of_name p tree ≡ slot_of_name q tree
  same_slot tree = ap (λ (here : Standing). unwrap_or (slot_in here.named (spot_of tree)) 0) ended

  pub same_copies : (tree : Tree) → task_copies p tree ≡ task_copies q tree
  same_copies tree = ap (λ (here : Standing). copies_by_kind (kind_of tree) here.copies (spot_of tree)) ended

  pub same_critical : (tree : Tree) → critical_number p tree ≡ critical_number q tree
  same_critical tree = ap (λ (here : Standing). critical_by_kind (kind_of tree) here.criticals (name_of_critical (children_of tree))) ended

  pub same_criticals : critical_count p ≡ critical_count q
  same_criticals = ap (λ (here : Standing). length here.criticals) ended

  pub same_function : (name : ℕ) → function_named p name ≡ function_named q name
  same_function name = ap (λ (tree : Tree). function_among name (parts tree)) same.root

  pub same_main : function_named p p.main ≡ function_named q q.main
  same_main = same_function p.main ∙ ap (λ (name : ℕ). function_named q name) same.main

  -- declarators and parameters come into scope alike
  pub same_declarator : (bound : Bound) (tree : Tree) → with_declarator p bound tree ≡ with_declarator q bound tree
  same_declarator bound tree = ap (λ (slot : ℕ). with_cells bound (name_of tree) slot (first_numbers (kind_of tree) (number_of tree))) (same_slot tree)

  same_declarators : (trees : List Tree) (bound : Bound) → with_declarators p bound trees ≡ with_declarators q bound trees
  unfolding with_declarators
  same_declarators [] bound = refl
  same_declarators (tree ∷ trees) bound = same_declarators trees (with_declarator p bound tree) ∙ ap (λ (more : Bound). with_declarators q more trees) (same_declarator bound tree)

  pub same_file : file_bound p ≡ file_bound q
  same_file =
      same_declarators (flat_declarations (file_variables p)) (record { env = []; cells = [] })
      ∙ ap (λ (tree : Tree). with_declarators q (record { env = []; cells = [] }) (flat_declarations (variables_among (parts tree)))) same.root

  pub same_parameters : (parameters : List Tree) (bound : Bound) (numbers : List ℤ) → with_parameters p bound parameters numbers ≡ with_parameters q bound parameters numbers
  unfolding with_parameters
  same_parameters [] bound numbers = refl
  same_parameters (parameter ∷ parameters) bound numbers =
      same_parameters parameters (with_cells bound (name_of parameter) (slot_of_name p parameter) (first_or_zero numbers ∷ [])) (behind_first numbers)
      ∙ ap (λ (slot : ℕ). with_parameters q (with_cells bound (name_of parameter) slot (first_or_zero numbers ∷ [])) parameters (behind_first numbers)) (same_slot parameter)

  -- a construct's own cells, and a task's
  pub same_own_cells : (around : Bound) (construct : Tree) → with_own_cells p around construct ≡ with_own_cells q around construct
  same_own_cells around construct =
      let listed : Bound = with_listed around around (listed_variables construct) in
      ap (λ (slot : ℕ).
      if is_loop construct
      then with_cells listed (name_of (loop_of construct).variable) (if declares_variable construct then slot else (entry_of around.env (name_of (loop_of construct).variable)).slot) (pos 0 ∷ [])
      else listed)
      (same_slot (loop_of construct).variable)

  pub same_task_cells : (around : Bound) (construct : Tree) → with_task_cells p around construct ≡ with_task_cells q around construct
  same_task_cells around construct = ap (λ (slots : List ℕ). with_slots around (with_listed around around (listed_variables construct)) slots) (same_copies construct)

  -- the codes with which the initial task and an explicit one begin, and the first store
  pub same_main_task : main_task p ≡ main_task q
  same_main_task =
      ap (λ (function : Tree). main_with function (file_bound p).env) same_main ∙ ap (λ (bound : Bound). main_with (function_named q q.main) bound.env) same_file
    where
      main_with : Tree → List Entry → Task
      main_with function env =
          record {
            todo = Start (body_of function) ∷ FallOff ∷ [];
            env = env;
            calls = record { todo = []; env = env; to = Nowhere } ∷ [];
            returned = None;
          }

  pub same_store : first_store p ≡ first_store q
  same_store = ap (λ (bound : Bound). record { cells = bound.cells; text = [] }) same_file

  pub same_explicit_task : (construct : Tree) (now : Moment) → explicit_task_of p construct now ≡ explicit_task_of q construct now
  same_explicit_task construct now =
      ap (λ (bound : Bound). record { task = new_task (Start (construct_statement construct) ∷ []) bound.env; store = record now.store { cells = bound.cells } })
      (same_task_cells (record { env = now.task.env; cells = now.store.cells }) construct)
