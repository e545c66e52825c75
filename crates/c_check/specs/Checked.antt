-- What a program breaks, and the first of it.
use Rattle.std.specs.Prelude.{◌≡◌, ℕ, List, [], ◌∷◌, ◌++◌, map, Option, None}
use Rattle.std.specs.List.{IsAmong}
use Rattle.c_tokens.specs.declared.token.Spot.{Spot}
use Rattle.c_syntax.specs.language.Tree.{Tree}
use Rattle.c_syntax.specs.language.Numbered.{TreeView, root_tree}
use Rattle.c_check.specs.declared.acts.act.Act.{Act}
use Rattle.c_check.specs.declared.acts.act.Act.TheVariants.{Finish}
use Rattle.c_check.specs.declared.acts.role.Role.TheVariants as role
use Rattle.c_check.specs.declared.fault.CheckFault.{CheckFault}
use Rattle.c_check.specs.declared.fault.CheckFault.TheVariants as fault
use Rattle.c_check.specs.Acts.{acts}
use Rattle.c_check.specs.Faults.{first_of}
use Rattle.c_check.specs.Here.{Here, after, before_all}
use Rattle.c_check.specs.Rules.{bad_loops, bad_nestings, declared_twice, missing_main, unknown_names, unlisted_uses, wrong_uses}

-- all that a program with this tree does, whose text ends there
abbrev pub acts_in : Tree → Spot → List Act
acts_in tree end = acts role.Plain tree ++ Finish end ∷ []

abbrev pub acts_of : TreeView → List Act
acts_of program = acts_in (root_tree program) program.end

-- where it stands after some acts
unfoldable pub after_all : Here → List Act → Here
after_all here [] = here
after_all here (first ∷ rest) = after_all (after here first) rest

-- where a program stands after some of its acts, and at its end
abbrev pub here_after : TreeView → List Act → Here
here_after program done = after_all (before_all program.main) done

abbrev pub end_of : TreeView → Here
end_of program = here_after program (acts_of program)

-- a rule is broken at a place: one of the program's acts breaks it there, where the program stands before that act
pub record IsBroken (rule : Here → Act → List Spot) (program : TreeView) (spot : Spot) : Type 0 where
  pub before : List Act
  pub act : Act
  pub behind : List Act
  pub acts_are : acts_of program ≡ before ++ act ∷ behind
  pub there : IsAmong (rule (here_after program before) act) spot

-- a program breaks a rule at a place
abbrev pub Breaks : TreeView → CheckFault → Type 0
Breaks program (fault.UnknownName spot) = IsBroken unknown_names program spot
Breaks program (fault.TwiceDeclared spot) = IsBroken declared_twice program spot
Breaks program (fault.WrongUse spot) = IsBroken wrong_uses program spot
Breaks program (fault.BadNesting spot) = IsBroken bad_nestings program spot
Breaks program (fault.BadLoop spot) = IsBroken bad_loops program spot
Breaks program (fault.NoMain spot) = IsBroken missing_main program spot
Breaks program (fault.NotListed spot) = IsBroken unlisted_uses program spot
Breaks program fault.Memory = ⊥

-- a program breaks no rule
abbrev pub Checked : TreeView → Type 0
Checked program = (broken : CheckFault) → Breaks program broken → ⊥

-- what an act breaks, rule by rule
abbrev pub broken_by : Here → Act → List CheckFault
broken_by here act =
    map fault.UnknownName (unknown_names here act)
    ++ (map fault.TwiceDeclared (declared_twice here act)
    ++ (map fault.WrongUse (wrong_uses here act)
    ++ (map fault.BadNesting (bad_nestings here act)
    ++ (map fault.BadLoop (bad_loops here act)
    ++ (map fault.NoMain (missing_main here act)
    ++ map fault.NotListed (unlisted_uses here act))))))

unfoldable pub broken_by_all : Here → List Act → List CheckFault
broken_by_all here [] = []
broken_by_all here (first ∷ rest) = broken_by here first ++ broken_by_all (after here first) rest

-- the fault of a program with this tree, whose text ends there and in which the name `main` has this number, or 0: the first of what is
-- broken, by place and then by number; none where nothing is
abbrev pub rule_fault_in : Tree → Spot → ℕ → Option CheckFault
rule_fault_in tree end main = first_of None (broken_by_all (before_all main) (acts_in tree end))

abbrev pub rule_fault : TreeView → Option CheckFault
rule_fault program = rule_fault_in (root_tree program) program.end program.main
