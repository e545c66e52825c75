-- The slots of entries, as they come and go.
use Rattle.std.specs.Prelude.{ℕ, ◌≡◌, if◌then◌else◌, Bool, true, false, IsTrue, List, [], ◌∷◌, ◌++◌, length, map, ℤ, pos, refl}
use Rattle.std.specs.List.{Contains}
use Rattle.std.proofs.Common.{ap, sym, ◌∙◌, append-nil, append_assoc, subst}
use Rattle.std.proofs.lemmas.List.{length-map, map-append}
use Rattle.std.proofs.lemmas.List.Elements.{Contains-append_left, Contains-push}
use Rattle.c_syntax.specs.language.Tree.{Tree, name_of}
use Rattle.c_syntax.specs.language.Numbered.{TreeView}
use Rattle.c_check.specs.Seen.{slot_of_name, task_copies}
use Rattle.c_model.specs.declared.entry.Entry.{Entry}
use Rattle.c_model.specs.Cells.{Bound, entry_at_slot, entry_of, with_cells, with_declarators}
use Rattle.c_model.specs.Calls.{behind_first, first_or_zero, with_parameters}
use Rattle.c_model.specs.Clauses.{Listed}
use Rattle.c_model.specs.Clauses.Copying.{First}
use Rattle.c_model.specs.Copies.{is_loop, listed_variables, loop_slot, with_copy, with_listed, with_own_cells, with_slots, with_task_cells}
use Rattle.c_model.specs.Loops.{declares_variable, loop_of}
use Rattle.c_model.specs.UsedCells.{slots_of}
use Rattle.c_model.proofs.ScopeTrees.{IsPart}
use Rattle.c_slots.specs.Slotted.{HasLoopSlot}

pub slots_push : (env : List Entry) (entry : Entry) → slots_of (env ++ entry ∷ []) ≡ slots_of env ++ entry.slot ∷ []
slots_push env entry = map-append (λ (entry : Entry). entry.slot) env (entry ∷ [])

pub slots_length : (env : List Entry) → length (slots_of env) ≡ length env
slots_length env = length-map env (λ (entry : Entry). entry.slot)

-- the file's variables and parameters
pub declared_slots : (program : TreeView) (trees : List Tree) (bound : Bound)
    → slots_of (with_declarators program bound trees).env ≡ slots_of bound.env ++ map (slot_of_name program) trees
unfolding with_declarators
declared_slots program [] bound = sym (append-nil (slots_of bound.env))
declared_slots program (tree ∷ trees) bound =
    declared_slots program trees _
    ∙ ap (λ (slots : List ℕ). slots ++ map (slot_of_name program) trees) (slots_push bound.env _)
    ∙ append_assoc (slots_of bound.env) (slot_of_name program tree ∷ []) (map (slot_of_name program) trees)

pub parameters_slots : (program : TreeView) (parameters : List Tree) (bound : Bound) (numbers : List ℤ)
    → slots_of (with_parameters program bound parameters numbers).env ≡ slots_of bound.env ++ map (slot_of_name program) parameters
unfolding with_parameters
parameters_slots program [] bound numbers = sym (append-nil (slots_of bound.env))
parameters_slots program (parameter ∷ parameters) bound numbers =
    parameters_slots program parameters (with_cells bound (name_of parameter) (slot_of_name program parameter) (first_or_zero numbers ∷ []))
    (behind_first numbers)
    ∙ ap (λ (slots : List ℕ). slots ++ map (slot_of_name program) parameters) (slots_push bound.env _)
    ∙ append_assoc (slots_of bound.env) (slot_of_name program parameter ∷ []) (map (slot_of_name program) parameters)

-- the cells of a construct's own
listed-slots : (listed : List Listed) (around bound : Bound)
    → slots_of (with_listed around bound listed).env ≡ slots_of bound.env ++ map (λ (one : Listed). (entry_of around.env one.name).slot) listed
unfolding with_listed
listed-slots [] around bound = sym (append-nil (slots_of bound.env))
listed-slots (one ∷ rest) around bound =
    listed-slots rest around (with_copy around bound (entry_of around.env one.name) one.copying)
    ∙ ap (λ (slots : List ℕ). slots ++ map (λ (one : Listed). (entry_of around.env one.name).slot) rest) (slots_push bound.env _)
    ∙ append_assoc (slots_of bound.env) ((entry_of around.env one.name).slot ∷ []) (map (λ (one : Listed). (entry_of around.env one.name).slot) rest)

module _ (program : TreeView) where
  loop-slot : (around : Bound) (construct : Tree) (declares : Bool) → IsTrue declares
      → (if declares then slot_of_name program (loop_of construct).variable else (entry_of around.env (name_of (loop_of construct).variable)).slot)
      ≡ slot_of_name program (loop_of construct).variable
  loop-slot around construct true is = refl
  loop-slot around construct false is = absurd (let wrong : false ≡ true = is in cc)

  record IsOwn (construct : Tree) (shares : Bool) (slots around : List ℕ) : Type 0 where
    own : List ℕ
    are : slots ≡ around ++ own
    known : IsTrue shares → IsTrue (declares_variable construct) → Contains own (slot_of_name program (loop_of construct).variable)

  own-with : (shares : Bool) (around bound : Bound) (construct : Tree) (some own : List ℕ) → slots_of bound.env ≡ some ++ own
      → IsOwn construct shares
      (slots_of (if shares then with_cells bound (name_of (loop_of construct).variable) (loop_slot program around construct) (pos 0 ∷ []) else bound).env) some
  own-with true around bound construct some own are =
      let slot : ℕ = loop_slot program around construct in
      record {
        own = own ++ slot ∷ [];
        are = slots_push bound.env _ ∙ ap (λ (slots : List ℕ). slots ++ slot ∷ []) are ∙ append_assoc some own (slot ∷ []);
        known = λ shares declares. subst (λ (one : ℕ). Contains (own ++ slot ∷ []) one) (loop-slot around construct (declares_variable construct) declares)
            (Contains-push own slot);
      }
  own-with false around bound construct some own are =
      record { own = own; are = are; known = λ shares declares. absurd (let wrong : false ≡ true = shares in cc) }

  -- behind those of the scope around come the slots of a construct's own
  pub own_slots : (P : List ℕ → Type 0) (around : Bound) (construct : Tree)
      → ((own : List ℕ) → HasLoopSlot program own construct → P (slots_of around.env ++ own)) → P (slots_of (with_own_cells program around construct).env)
  own_slots P around construct each =
      let is =
      own-with (is_loop construct) around (with_listed around around (listed_variables construct)) construct (slots_of around.env) _
      (listed-slots (listed_variables construct) around around)
      in
      subst P (sym is.are) (each is.own is.known)

-- an explicit task has all that is in scope around it
part-made : (around : List ℕ) (bound : Bound) (name slot : ℕ) (numbers : List ℤ) → IsPart around (slots_of bound.env)
    → IsPart around (slots_of (with_cells bound name slot numbers).env)
part-made around bound name slot numbers part known is =
    subst (λ (slots : List ℕ). Contains slots known) (sym (slots_push bound.env _))
    (Contains-append_left (slots_of bound.env) (slot ∷ []) known (part known is))

part-listed : (slots : List ℕ) (listed : List Listed) (around bound : Bound) → IsPart slots (slots_of bound.env)
    → IsPart slots (slots_of (with_listed around bound listed).env)
unfolding with_listed
part-listed slots [] around bound part = part
part-listed slots (one ∷ rest) around bound part =
    part-listed slots rest around (with_copy around bound (entry_of around.env one.name) one.copying) (part-made slots bound _ _ _ part)

part-slots : (slots copied : List ℕ) (around bound : Bound) → IsPart slots (slots_of bound.env) → IsPart slots (slots_of (with_slots around bound copied).env)
unfolding with_slots
part-slots slots [] around bound part = part
part-slots slots (slot ∷ copied) around bound part =
    part-slots slots copied around (with_copy around bound (entry_at_slot around.env slot) First) (part-made slots bound _ _ _ part)

pub part_task : (program : TreeView) (around : Bound) (construct : Tree)
    → IsPart (slots_of around.env) (slots_of (with_task_cells program around construct).env)
part_task program around construct =
    part-slots (slots_of around.env) (task_copies program construct) around (with_listed around around (listed_variables construct))
    (part-listed (slots_of around.env) (listed_variables construct) around around (λ slot is. is))
