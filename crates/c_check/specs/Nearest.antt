-- The declaration that a name finds, in the words of scopes: the nearest one before it whose scope is still open.
use Rattle.std.specs.Prelude.{◌≡◌, ℕ, ◌+◌, ◌-◌, ◌≤◌, List, [], ◌∷◌, ◌++◌, sum_by, take}
use Rattle.c_check.specs.declared.acts.act.Act.{Act}
use Rattle.c_check.specs.declared.acts.act.Act.TheVariants.{Open, Close, Begin, End, Declare}
use Rattle.c_check.specs.declared.acts.act.Thing.{Thing}
use Rattle.c_check.specs.declared.acts.act.Thing.TheVariants as thing
use Rattle.c_check.specs.declared.scopes.declared.Declared.{Declared}

-- how many scopes an act begins, and how many it ends
abbrev pub scopes_begun : Act → ℕ
scopes_begun Open = 1
scopes_begun (Begin name spot returns parameters) = 1
scopes_begun other = 0

abbrev pub scopes_ended : Act → ℕ
scopes_ended Close = 1
scopes_ended End = 1
scopes_ended other = 0

-- a scope that stands around these acts is still open behind them: no first part of them ends more scopes than it begins
abbrev pub StaysOpen : List Act → Type 0
StaysOpen acts = (count : ℕ) → sum_by scopes_ended (take count acts) ≤ sum_by scopes_begun (take count acts)

-- an act declares a name
abbrev pub Declares : ℕ → Act → Type 0
Declares name (Begin other spot returns parameters) = other ≡ name
Declares name (Declare other spot what) = other ≡ name
Declares name other = ⊥

-- as what it does, and how many declarations it makes
abbrev pub declared_thing : Act → Thing
declared_thing (Begin name spot returns parameters) = thing.Function returns parameters
declared_thing (Declare name spot what) = what
declared_thing other = thing.Int

abbrev pub declarations_made : Act → ℕ
declarations_made (Begin name spot returns parameters) = 1
declarations_made (Declare name spot what) = 1
declarations_made other = 0

-- the acts over which the scope of a declaration has to stay open: those behind it, and before them the beginning of the function that a
-- function's name stands outside of
abbrev pub acts_over : Act → List Act → List Act
acts_over (Begin name spot returns parameters) behind = Begin name spot returns parameters ∷ behind
acts_over other behind = behind

-- how many scopes are open behind acts, where so many were before; outside of all scopes none ends
unfoldable pub open_scopes : ℕ → List Act → ℕ
open_scopes count [] = count
open_scopes count (first ∷ rest) = open_scopes (count + scopes_begun first - scopes_ended first) rest

-- among acts this one declares the name, and its scope is still open behind them
pub record IsOpenDeclaration (acts : List Act) (name : ℕ) (before : List Act) (act : Act) (behind : List Act) : Type 0 where
  pub acts_are : acts ≡ before ++ act ∷ behind
  pub declares : Declares name act
  pub stays_open : StaysOpen (acts_over act behind)

-- none does
abbrev pub HasNoDeclaration : List Act → ℕ → Type 0
HasNoDeclaration acts name = (before : List Act) (act : Act) (behind : List Act) → IsOpenDeclaration acts name before act behind → ⊥

-- after some acts a name is that of this declaration: of the last one that is open
pub record IsNearest (acts : List Act) (name : ℕ) (found : Declared) : Type 0 where
  pub before : List Act
  pub act : Act
  pub behind : List Act
  pub declaration : IsOpenDeclaration acts name before act behind
  pub none_nearer : HasNoDeclaration behind name
  pub name_is : found.name ≡ name
  pub thing_is : found.thing ≡ declared_thing act
  pub slot_is : found.slot ≡ sum_by declarations_made before
  pub level_is : found.level ≡ open_scopes 0 before
