-- A construct's own cells are made, one name after another.
use Rattle.std.proofs.Common.{◌≡◌, ℕ, zero, suc, ◌+◌, ◌-◌, ◌<◌, ◌≤◌, Bool, true, false, if◌then◌else◌, List, [], ◌∷◌, ◌++◌, length, get_or, map, not, take, drop, slice_range, ℤ, pos, refl, sym, ap, ◌∙◌, subst, arith, rules}
use Rattle.std.proofs.Math.Nat.{le-max_left, le-max_right}
use Rattle.std.proofs.lemmas.List.Sums.{count_by-le-length, length-filter}
use Rattle.std.proofs.lemmas.List.{append-nil, append_assoc, drop-append-le, length-append, length-drop, length-map, take-append-le, take_all}
use Rattle.c_syntax.specs.language.Tree.{Tree, name_of, nothing}
use Rattle.c_syntax.specs.language.Numbered.{TreeView, tree_at}
use Rattle.c_model.specs.declared.entry.Entry.{Entry}
use Rattle.c_model.specs.declared.limits.TheConstants.{CELL_LIMIT}
use Rattle.c_model.specs.Cells.{Bound, has_too_many, new_entry, with_cells}
use Rattle.c_model.specs.Constructs.{make_cells}
use Rattle.c_model.specs.Parts.{parts}
use Rattle.c_model.specs.declared.view.View.{View}
use Rattle.c_model.specs.Task.Outcome.{StepsTo}
use Rattle.c_model.specs.Clauses.{Listed, clauses_of, listed_among}
use Rattle.c_model.specs.Copies.{is_loop, is_own_loop_variable, listed_variables, loop_slot, with_listed, with_loop_variable, with_own_cells, with_slots}
use Rattle.c_model.specs.Loops.{loop_of}
use Rattle.c_model.specs.Task.{Store}
use Rattle.c_steps.specs.ControlView.{ControlView, bound_in, here_at, moment_at}
use Rattle.c_steps.specs.Items.{begun, calls_at, file_names}
use Rattle.c_steps.specs.Moves.{bound, stepping}
use Rattle.c_steps.specs.OwnCells.{Copy, around_at, copy_entry, copy_numbers, listed_copy, made_copies, made_listed, made_own, slot_copy, with_copies, with_made, with_made_cells, with_numbers}
use Rattle.c_steps.specs.Widths.{most_of_steps, names_of_step, step_names}

module _ (around : Bound) where
  pub copies_append : (env : List Entry) (cells : List ℤ) (copies : List Copy) →
      with_copies around (record { env = env; cells = cells }) copies
      ≡ record { env = env ++ (made_copies around cells copies).env; cells = (made_copies around cells copies).cells }
  unfolding with_copies
  copies_append env cells [] = ap (λ env. record { env = env; cells = cells }) (sym (append-nil env))
  copies_append env cells (one ∷ rest) =
      let entry = copy_entry around cells one in
      let after = cells ++ copy_numbers around one in
      let more = made_copies around after rest in
      copies_append (env ++ entry ∷ []) after rest
      ∙ ap (λ env. record { env = env; cells = more.cells }) (append_assoc env (entry ∷ []) more.env)
      ∙ sym (ap (λ made. record { env = env ++ made.env; cells = made.cells }) (copies_append (entry ∷ []) after rest))

  pub made_one : (cells : List ℤ) (one : Copy) (rest : List Copy) →
      made_copies around cells (one ∷ rest)
      ≡ record {
        env = copy_entry around cells one ∷ (made_copies around (cells ++ copy_numbers around one) rest).env;
        cells = (made_copies around (cells ++ copy_numbers around one) rest).cells;
      }
  unfolding with_copies
  made_one cells one rest = copies_append (copy_entry around cells one ∷ []) (cells ++ copy_numbers around one) rest

  pub made_count : (cells : List ℤ) (copies : List Copy) → length (made_copies around cells copies).env ≡ length copies
  unfolding with_copies
  made_count cells [] = refl
  made_count cells (one ∷ rest) = ap (λ made. length made.env) (made_one cells one rest) ∙ ap suc (made_count (cells ++ copy_numbers around one) rest)

  pub cells_grow : (bound : Bound) (copies : List Copy) → length bound.cells ≤ length (with_copies around bound copies).cells
  unfolding with_copies
  cells_grow bound [] = omega arith
  cells_grow bound (one ∷ rest) =
      omega (arith, cells_grow (with_cells bound one.entry.name one.entry.slot (copy_numbers around one)) rest, length-append bound.cells (copy_numbers around one))

  pub first_fits : (cells : List ℤ) (one : Copy) (rest : List Copy) → length (made_copies around cells (one ∷ rest)).cells ≤ CELL_LIMIT → length cells + length (copy_numbers around one) ≤ CELL_LIMIT
  unfolding with_copies
  first_fits cells one rest fits =
      omega (arith, fits, cells_grow (record { env = copy_entry around cells one ∷ []; cells = cells ++ copy_numbers around one }) rest, length-append cells (copy_numbers around one))

  pub copies_listed : (bound : Bound) (listed : List Listed) → with_listed around bound listed ≡ with_copies around bound (map (listed_copy around) listed)
  unfolding with_listed with_copies
  copies_listed bound [] = refl
  copies_listed bound (one ∷ rest) =
      let copy = listed_copy around one in
      copies_listed (with_cells bound copy.entry.name copy.entry.slot (copy_numbers around copy)) rest

  pub copies_of_slots : (bound : Bound) (slots : List ℕ) → with_slots around bound slots ≡ with_copies around bound (map (slot_copy around) slots)
  unfolding with_slots with_copies
  copies_of_slots bound [] = refl
  copies_of_slots bound (slot ∷ slots) =
      let copy = slot_copy around slot in
      copies_of_slots (with_cells bound copy.entry.name copy.entry.slot (copy_numbers around copy)) slots

  pub listed_appends : (env : List Entry) (cells : List ℤ) (listed : List Listed) →
      with_listed around (record { env = env; cells = cells }) listed
      ≡ record { env = env ++ (made_listed around cells listed).env; cells = (made_listed around cells listed).cells }
  listed_appends env cells listed =
      copies_listed (record { env = env; cells = cells }) listed
      ∙ copies_append env cells (map (listed_copy around) listed)
      ∙ sym (ap (λ made. record { env = env ++ made.env; cells = made.cells }) (copies_listed (record { env = []; cells = cells }) listed))

  pub listed_count : (cells : List ℤ) (listed : List Listed) → length (made_listed around cells listed).env ≡ length listed
  listed_count cells listed =
      ap (λ made. length made.env) (copies_listed (record { env = []; cells = cells }) listed)
      ∙ made_count cells (map (listed_copy around) listed)
      ∙ length-map listed (listed_copy around)

-- names that were there before
pub range_before : (base count : ℕ) (names more : List Entry) → base ≤ count → count ≤ length names → slice_range (names ++ more) base count ≡ slice_range names base count
range_before base count names more from to =
    ap (take (count - base)) (drop-append-le base names more (omega (arith, from, to)))
    ∙ take-append-le (count - base) (drop base names) more (omega (arith, from, to, length-drop base names))

range_whole : (base : ℕ) (names : List Entry) → base ≤ length names → slice_range names base (length names) ≡ drop base names
range_whole base names from = take_all (length names - base) (drop base names) (omega (arith, length-drop base names))

-- So many of the copies are made, of variables among the first so many names, and where so many cells were there before.
pub record IsMaking (program : TreeView) (around : Bound) (names count : ℕ) (left whole : List Copy) (old held : ControlView) (before store : Store) : Type 0 where
  pub env : held.names ++ (made_copies around store.cells left).env ≡ old.names ++ (made_copies around before.cells whole).env
  pub cells : (made_copies around store.cells left).cells ≡ (made_copies around before.cells whole).cells
  pub rest : held ≡ record old { names = held.names; names_now = held.names_now }
  pub now : held.names_now + length held.names ≡ old.names_now + length old.names
  pub text : store ≡ record before { cells = store.cells }
  pub base : held.base ≤ names
  pub within : names ≤ length held.names
  pub counted : count ≤ length store.cells
  pub seen : around_at program held names store count ≡ around
  pub free : length left ≤ held.names_now

module _ (program : TreeView) (whole : List Copy) (old : ControlView) (before : Store) where
  pub making_start : (around : Bound) (names count : ℕ) → old.base ≤ names → names ≤ length old.names → count ≤ length before.cells → around_at program old names before count ≡ around → length whole ≤ old.names_now →
      IsMaking program around names count whole whole old old before before
  making_start around names count base within counted is free =
      record {
        env = refl;
        cells = refl;
        rest = refl;
        now = refl;
        text = refl;
        base = base;
        within = within;
        counted = counted;
        seen = is;
        free = free;
      }

  -- of what was there at the start
  pub around_start : old.base ≤ length old.names → around_at program old (length old.names) before (length before.cells) ≡ bound_in program old before
  around_start base = rw (range_whole old.base old.names base, take_all (length before.cells) before.cells (omega arith)) refl

  module _ (around : Bound) (names count : ℕ) (held : ControlView) (store : Store) where
    pub making_end : IsMaking program around names count [] whole old held before store → held ≡ with_made (made_copies around before.cells whole) old
    unfolding with_copies
    making_end so =
        let made = made_copies around before.cells whole in
        let names : held.names ≡ old.names ++ made.env = sym (append-nil held.names) ∙ so.env in
        let now : held.names_now ≡ old.names_now - length made.env = omega (arith, so.now, ap length names, length-append old.names made.env) in
        so.rest ∙ (rw (names, now) refl)

    pub making_cells : IsMaking program around names count [] whole old held before store → store ≡ with_made_cells (made_copies around before.cells whole) before
    unfolding with_copies
    making_cells so = so.text ∙ ap (λ cells. record before { cells = cells }) so.cells

    module _ (one : Copy) (rest : List Copy) (so : IsMaking program around names count (one ∷ rest) whole old held before store) where
      pub making_room : length (made_copies around before.cells whole).cells ≤ CELL_LIMIT → length store.cells + length (copy_numbers around one) ≤ CELL_LIMIT
      making_room room = first_fits around store.cells one rest (omega (arith, room, ap length so.cells))

      pub making_more : (new : ControlView) (after : Store) → new ≡ bound (copy_entry around store.cells one) held → after ≡ with_numbers (copy_numbers around one) store →
          IsMaking program around names count rest whole old new before after
      making_more new after control numbers =
          let entry = copy_entry around store.cells one in
          let more = copy_numbers around one in
          let next = made_one around store.cells one rest in
          subst (λ new. IsMaking program around names count rest whole old new before after) (sym control)
          (subst (IsMaking program around names count rest whole old (bound entry held) before) (sym numbers)
          (record {
            env = append_assoc held.names (entry ∷ []) (made_copies around (store.cells ++ more) rest).env ∙ sym (ap (λ made. held.names ++ made.env) next) ∙ so.env;
            cells = sym (ap (λ made. made.cells) next) ∙ so.cells;
            rest = ap (bound entry) so.rest;
            now = omega (arith, so.now, so.free, length-append held.names (entry ∷ []));
            text = ap (with_numbers more) so.text;
            base = so.base;
            within = omega (arith, so.within, length-append held.names (entry ∷ []));
            counted = omega (arith, so.counted, length-append store.cells more);
            seen =
                ap (λ own. record { env = file_names program ++ own; cells = take count (store.cells ++ more) }) (range_before held.base names held.names (entry ∷ []) so.base so.within)
                ∙ ap (λ cells. record { env = file_names program ++ slice_range held.names held.base names; cells = cells }) (take-append-le count store.cells more so.counted)
                ∙ so.seen;
            free = omega (arith, so.free);
          }))

-- Behind the copies that clauses list.

one_less : (room : ℕ) (env : List Entry) (more : List Entry) → room - length env - length more ≡ room - length (env ++ more)
one_less room env more = omega (arith, length-append env more)

pub made_both : (first second : Bound) (held : ControlView) → with_made second (with_made first held) ≡ with_made (record { env = first.env ++ second.env; cells = second.cells }) held
made_both first second held = rw (append_assoc held.names first.env second.env, one_less held.names_now first.env second.env) refl

-- what is around a construct when its listed copies are made
pub around_listed : (program : TreeView) (old held : ControlView) (before store : Store) (made : Bound) → old.base ≤ length old.names →
    held ≡ with_made made old → take (length before.cells) store.cells ≡ before.cells → around_at program held (length old.names) store (length before.cells) ≡ bound_in program old before
around_listed program old held before store made base control cells =
    rw (control, cells, range_before old.base (length old.names) old.names made.env base (omega arith), range_whole old.base old.names base) refl

still : (around bound : Bound) (listed : List Listed) (count : ℕ) → count ≤ length bound.cells → take count (with_listed around bound listed).cells ≡ take count bound.cells
unfolding with_listed
still around bound [] count within = refl
still around bound (one ∷ rest) count within =
    let copy = listed_copy around one in
    let more = copy_numbers around copy in
    still around (with_cells bound copy.entry.name copy.entry.slot more) rest count (omega (arith, within, length-append bound.cells more))
    ∙ take-append-le count bound.cells more within

pub cells_before : (around : Bound) (cells : List ℤ) (listed : List Listed) → take (length cells) (made_listed around cells listed).cells ≡ cells
unfolding with_listed
cells_before around cells listed = still around (record { env = []; cells = cells }) listed (length cells) (omega arith) ∙ take_all (length cells) cells (omega arith)

-- .. and the variable of the loop.

variable_appends : (loops : Bool) (env : List Entry) (made : Bound) (name slot : ℕ) →
    (if loops then with_cells (record { env = env ++ made.env; cells = made.cells }) name slot (pos 0 ∷ []) else record { env = env ++ made.env; cells = made.cells })
    ≡ record {
      env = env ++ (if loops then with_cells made name slot (pos 0 ∷ []) else made).env;
      cells = (if loops then with_cells made name slot (pos 0 ∷ []) else made).cells;
    }
variable_appends true env made name slot =
    ap (λ env. record { env = env; cells = made.cells ++ pos 0 ∷ [] }) (append_assoc env made.env (new_entry made.cells name slot (pos 0 ∷ []) ∷ []))
variable_appends false env made name slot = refl

module _ (program : TreeView) (construct : Tree) where
  variable : ℕ
  variable = name_of (loop_of construct).variable

  pub own_appends : (around : Bound) → with_own_cells program around construct ≡ record { env = around.env ++ (made_own program around around.cells construct).env; cells = (made_own program around around.cells construct).cells }
  unfolding variable
  own_appends around =
      ap (with_loop_variable program around construct) (listed_appends around around.env around.cells (listed_variables construct))
      ∙ variable_appends (is_loop construct) around.env (made_listed around around.cells (listed_variables construct)) variable (loop_slot program around construct)

within_limit : (cells : List ℤ) → has_too_many cells ≡ false → length cells ≤ CELL_LIMIT
within_limit cells fits = grind (arith, fits)

-- The silent step that makes a construct's own cells.

-- a node's step brings no more names than a step may bring
pub step_within : (trees : List Tree) (node : ℕ) → node < length trees → names_of_step (get_or trees node nothing) ≤ most_of_steps trees
unfolding most_of_steps
step_within [] node within = absurd (omega (arith, within))
step_within (tree ∷ trees) zero within = le-max_left (names_of_step tree) (most_of_steps trees)
step_within (tree ∷ trees) (suc node) within =
    omega (arith, step_within trees node (omega (arith, within)), le-max_right (names_of_step tree) (most_of_steps trees))

pub listed_within : (construct : Tree) → length (listed_variables construct) ≤ length (listed_among (clauses_of construct))
listed_within construct =
    let own = λ (listed : Listed). not (is_own_loop_variable construct listed.name) in
    omega (arith, length-filter own (listed_among (clauses_of construct)), count_by-le-length own (listed_among (clauses_of construct)))

pub own_names_within : (program : TreeView) (node : ℕ) → node < length program.trees → length (listed_variables (tree_at program.trees node)) + 1 ≤ step_names program
own_names_within program node within =
    let tree = tree_at program.trees node in
    omega (
      arith,
      step_within program.trees node within,
      listed_within tree,
      le-max_right (length (parts tree)) (length (listed_among (clauses_of tree)) + 1),
    )

pub own_fits : (program : TreeView) (around : Bound) (construct : Tree) → has_too_many (with_own_cells program around construct).cells ≡ false → length (made_own program around around.cells construct).cells ≤ CELL_LIMIT
own_fits program around construct fits =
    within_limit (made_own program around around.cells construct).cells (sym (ap (λ all. has_too_many all.cells) (own_appends program construct around)) ∙ fits)

module _ (program : TreeView) (view : View) (old : ControlView) (before : Store) (construct : Tree) (base : old.base ≤ length old.names) (calls : (names : List Entry) → calls_at program names (begun old.frames) ≡ calls_at program names old.frames) where
  own_moment :
      moment_at program (with_made (made_own program (bound_in program old before) before.cells construct) (stepping old)) (with_made_cells (made_own program (bound_in program old before) before.cells construct) before)
      ≡ record {
        task = record (here_at program view old before).task { env = (with_own_cells program (bound_in program old before) construct).env };
        store = record before { cells = (with_own_cells program (bound_in program old before) construct).cells };
      }
  own_moment =
      let around = bound_in program old before in
      let made = made_own program around before.cells construct in
      let env : file_names program ++ drop old.base (old.names ++ made.env) ≡ around.env ++ made.env =
      ap (λ own. file_names program ++ own) (drop-append-le old.base old.names made.env base) ∙ sym (append_assoc (file_names program) (drop old.base old.names) made.env) in
      rw (env, take-append-le old.base old.names made.env base, calls (take old.base old.names), own_appends program construct around) refl

  pub own_step : (new : ControlView) (after : Store) →
      new ≡ with_made (made_own program (bound_in program old before) before.cells construct) (stepping old) →
      after ≡ with_made_cells (made_own program (bound_in program old before) before.cells construct) before →
      has_too_many (with_own_cells program (bound_in program old before) construct).cells ≡ false →
      StepsTo (moment_at program new after) ≡ make_cells (here_at program view old before) construct
  own_step new after control cells fits = rw (control, cells, own_moment, fits) refl

pub has_room : (test room : Bool) → room ≡ not test → room ≡ true → test ≡ false
has_room false room is there = refl
has_room true true is there = absurd (search (is, rules))
has_room true false is there = absurd (search (there, rules))
