-- Where a program stands after some acts.
use Rattle.std.specs.Prelude.{ℕ, ◌==◌, ◌||◌, if◌then◌else◌, Bool, true, false, List, [], ◌∷◌, ◌++◌, length, Option, Some, None}
use Rattle.c_tokens.specs.declared.token.Spot.{Spot}
use Rattle.c_syntax.specs.declared.node.Directive.{Directive}
use Rattle.c_syntax.specs.declared.node.Directive.TheVariants as directive
use Rattle.c_syntax.specs.declared.node.Returns.{Returns}
use Rattle.c_syntax.specs.declared.node.Returns.TheVariants as returns
use Rattle.c_check.specs.declared.acts.act.Act.{Act}
use Rattle.c_check.specs.declared.acts.act.Act.TheVariants.{Open, Close, Begin, End, Declare, Use, Assign, Print, Return, Barrier, Enter, Clause, List as Listing, OddLoop, Loop, Leave, Finish}
use Rattle.c_check.specs.declared.acts.act.DataClause.{DataClause}
use Rattle.c_check.specs.declared.acts.act.Thing.{Thing}
use Rattle.c_check.specs.declared.acts.act.Thing.TheVariants as thing
use Rattle.c_check.specs.declared.scopes.declared.Declared.{Declared}
use Rattle.c_check.specs.declared.scopes.declared.Named.{Named}
use Rattle.c_check.specs.Constructs.{Constructs, no_constructs, open_constructs, with_begun, with_clause, with_ended, with_loop, with_mention, with_none_open, with_use}
use Rattle.c_check.specs.Declarations.{Declarations, find, no_names, scope_begun, scope_ended, with_next}
use Rattle.c_check.specs.Once.{with_one}
use Rattle.c_check.specs.Shares.{TaskCopy, copies_around}

pub record Here : Type 0 where
  -- the number of the name `main`
  pub main : ℕ
  pub names : Declarations
  -- a function main is declared
  pub has_main : Bool
  -- what the function returns
  pub returns : Returns
  pub constructs : Constructs
  -- the names that stood so far, as far as they are declared
  pub named : List Named
  -- the copies by rule that tasks make of the variables that were used so far
  pub copies : List TaskCopy
  -- the names of the criticals so far, each once, where one without a name has the name 0
  pub criticals : List ℕ

abbrev pub before_all : ℕ → Here
before_all main = record { main = main; names = no_names; has_main = false; returns = returns.Int; constructs = no_constructs; named = []; copies = []; criticals = [] }

abbrev pub is_variable : Thing → Bool
is_variable (thing.Function returns parameters) = false
is_variable other = true

-- a name that stands there has this slot
abbrev pub with_named : List Named → Spot → ℕ → List Named
with_named named spot slot = named ++ record { spot = spot; slot = slot } ∷ []

abbrev pub declared : Here → ℕ → Spot → Thing → Here
declared here name spot what = record here {
  names = with_next here.names name what;
  named = with_named here.named spot (length here.names.all);
}

abbrev pub begun : Here → ℕ → Spot → Returns → ℕ → Here
begun here name spot gives parameters =
    let after = declared here name spot (thing.Function gives parameters) in
    record after { names = scope_begun after.names; has_main = here.has_main || name == here.main; returns = gives; constructs = with_none_open here.constructs }

abbrev pub used_in : Constructs → Spot → Declared → Constructs
used_in constructs spot it = if is_variable it.thing then with_use constructs spot it.slot else constructs

-- a variable of the file is declared in no scope
abbrev pub is_of_file : Declared → Bool
is_of_file it = it.level == 0

abbrev pub copies_at : Constructs → Declared → List TaskCopy
copies_at constructs it = if is_variable it.thing then copies_around (open_constructs constructs) (is_of_file it) it.slot else []

abbrev pub used : Here → Spot → Option Declared → Here
used here spot None = here
used here spot (Some it) = record here {
  constructs = used_in here.constructs spot it;
  named = with_named here.named spot it.slot;
  copies = here.copies ++ copies_at here.constructs it;
}

abbrev pub listed : Constructs → Option Declared → DataClause → Constructs
listed constructs None clause = constructs
listed constructs (Some it) clause = with_mention constructs it.slot clause

abbrev pub looped : Constructs → Option Declared → Constructs
looped constructs None = constructs
looped constructs (Some it) = with_loop constructs it.slot

abbrev pub is_critical : Directive → Bool
is_critical directive.Critical = true
is_critical other = false

abbrev pub with_critical : List ℕ → Directive → ℕ → List ℕ
with_critical criticals which name = if is_critical which then with_one criticals name else criticals

-- where a program stands after one more act
unfoldable pub after : Here → Act → Here
after here Open = record here { names = scope_begun here.names }
after here Close = record here { names = scope_ended here.names }
after here (Begin name spot gives parameters) = begun here name spot gives parameters
after here End = record here { names = scope_ended here.names }
after here (Declare name spot what) = declared here name spot what
after here (Use name spot usage) = used here spot (find here.names.visible name)
after here (Assign name) = here
after here (Print spot printed) = here
after here (Return spot returned) = here
after here (Barrier spot) = here
after here (Enter spot which critical) = record here {
  constructs = with_begun here.constructs spot which critical (length here.names.all);
  criticals = with_critical here.criticals which critical;
}
after here (Clause one) = record here { constructs = with_clause here.constructs one }
after here (Listing name spot clause) = record here { constructs = listed here.constructs (find here.names.visible name) clause }
after here OddLoop = here
after here (Loop name) = record here { constructs = looped here.constructs (find here.names.visible name) }
after here Leave = record here { constructs = with_ended here.constructs }
after here (Finish spot) = here
