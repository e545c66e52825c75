-- Parameters come into scope, one after another.
use Rattle.std.specs.Prelude.{◌≡◌, ℕ, ◌+◌, ◌≤◌, ◌<◌, ◌++◌, List, [], ◌∷◌, drop, take, length, ℤ, pos, refl}
use Rattle.std.proofs.Common.{ap, subst, sym, ◌∙◌, arith, append_assoc, length-append}
use Rattle.std.proofs.lemmas.List.{drop-append-le, take-append-le}
use Rattle.c_syntax.specs.language.Tree.{Tree, name_of}
use Rattle.c_syntax.specs.language.Numbered.{TreeView}
use Rattle.c_check.specs.Seen.{slot_of_name}
use Rattle.c_check.specs.Tasks.{from_place}
use Rattle.c_model.specs.declared.entry.Entry.{Entry}
use Rattle.c_model.specs.declared.view.View.{View}
use Rattle.c_model.specs.declared.limits.TheConstants.{CELL_LIMIT}
use Rattle.c_model.specs.Calls.{behind_first, first_or_zero, with_parameters}
use Rattle.c_model.specs.Cells.{Bound, new_entry, with_cells}
use Rattle.c_model.specs.Parts.{parts}
use Rattle.c_model.specs.Task.{Store}
use Rattle.c_model.specs.Value.{Scope}
use Rattle.c_steps.specs.declared.control.entering.Caller.{Caller}
use Rattle.c_steps.specs.declared.evaluate.Argument.{Argument}
use Rattle.c_steps.specs.Arguments.{values_in}
use Rattle.c_steps.specs.Entering.{BindsParameter, HasMore, HaveNoTrap, IsCaller, IsNextArgument, arguments_from, bound_at, caller_scope}
use Rattle.c_steps.specs.ControlView.{ControlView}
use Rattle.c_steps.specs.Items.{file_names}
use Rattle.c_steps.specs.Moves.{bound}
use Rattle.c_steps.specs.Rests.{parts_from}

-- one parameter
module _ (program : TreeView) (view : View) (caller : Caller) (call parameter : Tree) (place : ℕ) (held : ControlView) (store : Store) where
  abbrev scope : Scope
  scope = caller_scope program view caller held store

  abbrev entry : Entry
  entry = new_entry store.cells (name_of parameter) (slot_of_name program parameter) (pos 0 ∷ [])

  abbrev with_number : ℤ → Store
  with_number number = record store { cells = store.cells ++ number ∷ [] }

  env_more : held.base ≤ length held.names → file_names program ++ drop held.base (held.names ++ entry ∷ []) ≡ (file_names program ++ drop held.base held.names) ++ entry ∷ []
  env_more within =
      ap (λ own. file_names program ++ own) (drop-append-le held.base held.names (entry ∷ []) within)
      ∙ sym (append_assoc (file_names program) (drop held.base held.names) (entry ∷ []))

  bound_more : (number first : ℤ) → number ≡ first → held.base ≤ length held.names →
      bound_at program (bound entry held) (with_number number) ≡ with_cells (bound_at program held store) (name_of parameter) (slot_of_name program parameter) (first ∷ [])
  bound_more number first is within =
      ap (λ (env : List Entry). record { env = env; cells = store.cells ++ number ∷ [] }) (env_more within)
      ∙ ap (λ (first : ℤ). record { env = (file_names program ++ drop held.base held.names) ++ entry ∷ []; cells = store.cells ++ first ∷ [] }) is

  scope_more : (number : ℤ) → IsCaller caller held store → caller_scope program view caller (bound entry held) (with_number number) ≡ scope
  scope_more number there =
      ap (λ (names : List Entry). record { env = file_names program ++ drop caller.base names; cells = take caller.cells (store.cells ++ number ∷ []); view = view }) (take-append-le caller.names held.names (entry ∷ []) there.names)
      ∙ ap (λ (cells : List ℤ). record { env = file_names program ++ drop caller.base (take caller.names held.names); cells = cells; view = view }) (take-append-le caller.cells store.cells (number ∷ []) there.cells)

  pub binds_parameter : (found : Argument) → held.base ≤ length held.names → IsCaller caller held store → 0 < held.names_now → IsNextArgument scope call place found →
      BindsParameter program view caller call parameter place found.next held (bound entry held) store (with_number found.number)
  binds_parameter found within there room next = record {
    bound = bound_more found.number (first_or_zero (values_in (arguments_from scope call place))) next.number within;
    rest = next.rest;
    values = next.are;
    more = record {
      held = refl;
      store = refl;
      older = take-append-le held.base held.names (entry ∷ []) within;
      longer = omega (arith, length-append held.names (entry ∷ []));
    };
    there = record {
      base = there.base;
      names = omega (arith, length-append held.names (entry ∷ []), there.names);
      cells = omega (arith, length-append store.cells (found.number ∷ []), there.cells);
    };
    scope = scope_more found.number there;
    names = omega (arith, room);
    cells = omega (arith, length-append store.cells (found.number ∷ []));
  }

-- more and more
has_more_then : (old now new : ControlView) (before after latest : Store) → HasMore old now before after → HasMore now new after latest → HasMore old new before latest
has_more_then old now new before after latest first then = record {
  held = then.held ∙ ap (λ (held : ControlView). record held { names = new.names; names_now = new.names_now }) first.held;
  store = then.store ∙ ap (λ (store : Store). record store { cells = latest.cells }) first.store;
  older = subst (λ (base : ℕ). take base new.names ≡ take base now.names) (ap (λ (held : ControlView). held.base) first.held) then.older ∙ first.older;
  longer = omega (arith, first.longer, then.longer);
}

-- Some parameters have come into scope, and the others are left, behind these places of parameters and arguments.
pub record IsUnderWay (program : TreeView) (view : View) (caller : Caller) (call parameters : Tree) (old now : ControlView) (before after : Store) (place argument : ℕ) : Type 0 where
  pub bound : with_parameters program (bound_at program now after) (parts_from parameters place) (values_in (arguments_from (caller_scope program view caller old before) call argument))
      ≡ with_parameters program (bound_at program old before) (parts parameters) (values_in (arguments_from (caller_scope program view caller old before) call 0))
  pub more : HasMore old now before after
  pub there : IsCaller caller now after
  pub base : now.base ≤ length now.names
  pub scope : caller_scope program view caller now after ≡ caller_scope program view caller old before
  pub values : HaveNoTrap (caller_scope program view caller old before) call argument
  pub names : length (parts_from parameters place) ≤ now.names_now
  pub room : length after.cells + length (parts_from parameters place) ≤ CELL_LIMIT

module _ (program : TreeView) (view : View) (caller : Caller) (call parameters : Tree) (old : ControlView) (before : Store) where
  abbrev first_scope : Scope
  first_scope = caller_scope program view caller old before

  pub under_way_first : IsCaller caller old before → old.base ≤ length old.names → HaveNoTrap first_scope call 0 → length (parts parameters) ≤ old.names_now → length before.cells + length (parts parameters) ≤ CELL_LIMIT →
      IsUnderWay program view caller call parameters old old before before 0 0
  unfolding from_place
  under_way_first there base values names room = record {
    bound = refl;
    more = record { held = refl; store = refl; older = refl; longer = omega arith };
    there = there;
    base = base;
    scope = refl;
    values = values;
    names = names;
    room = room;
  }

  -- one parameter more
  pub under_way_next : (now new : ControlView) (after latest : Store) (place argument next : ℕ) (parameter : Tree) →
      IsUnderWay program view caller call parameters old now before after place argument →
      parts_from parameters place ≡ parameter ∷ parts_from parameters (place + 1) →
      BindsParameter program view caller call parameter argument next now new after latest →
      IsUnderWay program view caller call parameters old new before latest (place + 1) next
  unfolding with_parameters
  under_way_next now new after latest place argument next parameter way here binds =
      let rest : values_in (arguments_from first_scope call next) ≡ behind_first (values_in (arguments_from first_scope call argument)) =
      subst (λ (scope : Scope). values_in (arguments_from scope call next) ≡ behind_first (values_in (arguments_from scope call argument))) way.scope binds.rest in
      let bound_is : bound_at program new latest ≡ with_cells (bound_at program now after) (name_of parameter) (slot_of_name program parameter) (first_or_zero (values_in (arguments_from first_scope call argument)) ∷ []) =
      subst (λ (scope : Scope). bound_at program new latest ≡ with_cells (bound_at program now after) (name_of parameter) (slot_of_name program parameter) (first_or_zero (values_in (arguments_from scope call argument)) ∷ [])) way.scope binds.bound in
      record {
        bound =
            ap (λ (all : Bound). with_parameters program all (parts_from parameters (place + 1)) (values_in (arguments_from first_scope call next))) bound_is
            ∙ ap (λ (numbers : List ℤ). with_parameters program (with_cells (bound_at program now after) (name_of parameter) (slot_of_name program parameter) (first_or_zero (values_in (arguments_from first_scope call argument)) ∷ [])) (parts_from parameters (place + 1)) numbers) rest
            ∙ ap (λ (trees : List Tree). with_parameters program (bound_at program now after) trees (values_in (arguments_from first_scope call argument))) (sym here)
            ∙ way.bound;
        more = has_more_then old now new before after latest way.more binds.more;
        there = binds.there;
        base = subst (λ (base : ℕ). base ≤ length new.names) (sym (ap (λ (held : ControlView). held.base) binds.more.held)) (omega (arith, way.base, binds.more.longer));
        scope = binds.scope ∙ way.scope;
        values = subst (λ (scope : Scope). HaveNoTrap scope call next) way.scope binds.values;
        names = omega (arith, way.names, ap length here, binds.names);
        room = omega (arith, way.room, ap length here, binds.cells);
      }

  -- no parameter is left
  pub under_way_last : (now : ControlView) (after : Store) (place argument : ℕ) → IsUnderWay program view caller call parameters old now before after place argument → parts_from parameters place ≡ [] →
      bound_at program now after ≡ with_parameters program (bound_at program old before) (parts parameters) (values_in (arguments_from first_scope call 0))
  unfolding with_parameters
  under_way_last now after place argument way none =
      ap (λ (trees : List Tree). with_parameters program (bound_at program now after) trees (values_in (arguments_from first_scope call argument))) (sym none) ∙ way.bound

  -- the arguments that are left have no trap
  pub values_left : (now : ControlView) (after : Store) (place argument : ℕ) → IsUnderWay program view caller call parameters old now before after place argument →
      HaveNoTrap (caller_scope program view caller now after) call argument
  values_left now after place argument way = subst (λ (scope : Scope). HaveNoTrap scope call argument) (sym way.scope) way.values

pub ruleset under_way_cases = (under_way_first, under_way_next, under_way_last, values_left)
