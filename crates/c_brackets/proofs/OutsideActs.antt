-- In a program that breaks no rule no return stands in a construct: its acts one after another, by the constructs that are open before each.
use Rattle.std.specs.Prelude.{◌≡◌, Bool, true, false, List, [], ◌∷◌, ◌++◌, map, Option, Some, None, refl}
use Rattle.std.specs.List.{IsAmong}
use Rattle.std.proofs.Common.{arith, ap, sym, ◌∙◌, append_assoc, subst}
use Rattle.c_tokens.specs.declared.token.Spot.{Spot}
use Rattle.c_syntax.specs.declared.node.Directive.{Directive}
use Rattle.c_syntax.specs.language.Numbered.{TreeView}
use Rattle.c_check.specs.declared.acts.act.Act.{Act}
use Rattle.c_check.specs.declared.acts.act.Act.TheVariants.{Begin, Clause, Enter, Leave, List as Listing, Loop, Return, Use}
use Rattle.c_check.specs.declared.acts.act.DataClause.{DataClause}
use Rattle.c_check.specs.declared.acts.act.Single.{Single}
use Rattle.c_check.specs.declared.fault.CheckFault.TheVariants as fault
use Rattle.c_check.specs.declared.scopes.declared.Declared.{Declared}
use Rattle.c_check.specs.Checked.{Checked, acts_of, after_all, here_after}
use Rattle.c_check.specs.Constructs.{Construct, Constructs, open_constructs, with_clause, without_innermost}
use Rattle.c_check.specs.Declarations.{find}
use Rattle.c_check.specs.Here.{Here, after, before_all, is_variable, listed, looped, used, used_in}
use Rattle.c_check.specs.Rules.{bad_nestings, is_within, open_here, where_so}

-- the constructs around, the innermost first, behind an act, and behind acts one after another
abbrev pub behind_first : List Directive → List Directive
behind_first [] = []
behind_first (first ∷ around) = around

abbrev pub around_after : List Directive → Act → List Directive
around_after around (Begin name spot gives parameters) = []
around_after around (Enter spot which critical) = which ∷ around
around_after around Leave = behind_first around
around_after around other = around

unfoldable pub around_all : List Directive → List Act → List Directive
around_all around [] = around
around_all around (act ∷ acts) = around_all (around_after around act) acts

-- a return has none around
abbrev pub AllowsReturn : List Directive → Act → Type 0
AllowsReturn around (Return spot what) = around ≡ []
AllowsReturn around other = Unit {0}

unfoldable pub Outside : List Directive → List Act → Type 0
Outside around [] = Unit {0}
Outside around (act ∷ acts) = AllowsReturn around act × Outside (around_after around act) acts

pub around_both : (around : List Directive) (some more : List Act) → around_all around (some ++ more) ≡ around_all (around_all around some) more
unfolding around_all
around_both around [] more = refl
around_both around (act ∷ some) more = around_both (around_after around act) some more

pub outside_both : (around : List Directive) (some more : List Act) → Outside around (some ++ more)
    → Outside around some × Outside (around_all around some) more
unfolding around_all Outside
outside_both around [] more outside = (tt, outside)
outside_both around (act ∷ some) more outside =
    let rest = outside_both (around_after around act) some more outside.1 in ((outside.0, rest.0), rest.1)

-- where a program stands these constructs are open
abbrev directives : List Construct → List Directive
directives constructs = map (λ (construct : Construct). construct.head.directive) constructs

abbrev around_here : Here → List Directive
around_here here = directives (open_here here)

used-around : (here : Here) (spot : Spot) (found : Option Declared) → around_here (used here spot found) ≡ around_here here
used-around here spot None = refl
used-around here spot (Some it) = variable-around (is_variable it.thing) refl
  where
    variable-around : (is : Bool) → is_variable it.thing ≡ is → directives (open_constructs (used_in here.constructs spot it)) ≡ around_here here
    variable-around true is = rw is refl
    variable-around false is = rw is refl

clause-around : (newest : Option Construct) (constructs : Constructs) (one : Single) → constructs.newest ≡ newest
    → directives (open_constructs (with_clause constructs one)) ≡ directives (open_constructs constructs)
clause-around None constructs one is = rw is refl
clause-around (Some newest) constructs one is = rw is refl

mention-around : (newest : Option Construct) (constructs : Constructs) (found : Option Declared) (which : DataClause) → constructs.newest ≡ newest
    → directives (open_constructs (listed constructs found which)) ≡ directives (open_constructs constructs)
mention-around newest constructs None which is = refl
mention-around None constructs (Some it) which is = rw is refl
mention-around (Some newest) constructs (Some it) which is = rw is refl

loop-around : (newest : Option Construct) (constructs : Constructs) (found : Option Declared) → constructs.newest ≡ newest
    → directives (open_constructs (looped constructs found)) ≡ directives (open_constructs constructs)
loop-around newest constructs None is = refl
loop-around None constructs (Some it) is = rw is refl
loop-around (Some newest) constructs (Some it) is = rw is refl

ended-around : (opened : List Construct) (constructs : Constructs)
    → directives (open_constructs (without_innermost opened constructs)) ≡ behind_first (directives opened)
ended-around [] constructs = refl
ended-around (first ∷ outer) constructs = refl

here-after : (here : Here) (act : Act) → around_here (after here act) ≡ around_after (around_here here) act
unfolding after
here-after here (Use name spot usage) = used-around here spot (find here.names.visible name)
here-after here (Clause one) = clause-around here.constructs.newest here.constructs one refl
here-after here (Listing name spot which) = mention-around here.constructs.newest here.constructs (find here.names.visible name) which refl
here-after here (Loop name) = loop-around here.constructs.newest here.constructs (find here.names.visible name) refl
here-after here Leave = ended-around (open_here here) here.constructs
here-after here other = refl

-- no return breaks the rule on nesting
no-place : (places : List Spot) → ((spot : Spot) → IsAmong places spot → ⊥) → places ≡ []
no-place [] none = refl
no-place (spot ∷ places) none = absurd (none spot (0, (omega arith, refl)))

none-within : (constructs : List Construct) (spot : Spot) → where_so (is_within constructs) spot ≡ [] → directives constructs ≡ []
none-within [] spot is = refl
none-within (first ∷ around) spot is = absurd (cc)

return-allowed : (here : Here) (act : Act) → bad_nestings here act ≡ [] → AllowsReturn (around_here here) act
return-allowed here (Return spot what) is = none-within (open_here here) spot is
return-allowed here other is = tt

after-one : (here : Here) (before : List Act) (act : Act) → after_all here (before ++ act ∷ []) ≡ after (after_all here before) act
unfolding after_all
after-one here [] act = refl
after-one here (first ∷ before) act = after-one (after here first) before act

outside-from : (program : TreeView) → Checked program → (acts before : List Act) → acts_of program ≡ before ++ acts
    → Outside (around_here (here_after program before)) acts
unfolding Outside
outside-from program checked [] before are = tt
outside-from program checked (act ∷ acts) before are = (
  return-allowed (here_after program before) act
      (no-place _ (λ spot there. checked (fault.BadNesting spot) (record { before = before; act = act; behind = acts; acts_are = are; there = there }))),
  subst (λ (around : List Directive). Outside around acts)
      (ap around_here (after-one (before_all program.main) before act) ∙ here-after (here_after program before) act)
      (outside-from program checked acts (before ++ act ∷ []) (are ∙ sym (append_assoc before (act ∷ []) acts))),
)

pub checked_is_outside : (program : TreeView) → Checked program → Outside [] (acts_of program)
unfolding after_all
checked_is_outside program checked = outside-from program checked (acts_of program) [] refl
