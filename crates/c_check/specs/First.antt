-- The first of some faults.
use Rattle.std.specs.Prelude.{◌≡◌, false}
use Rattle.c_syntax.specs.language.Numbered.{TreeView}
use Rattle.c_check.specs.declared.fault.CheckFault.{CheckFault}
use Rattle.c_check.specs.Checked.{Breaks}
use Rattle.c_check.specs.Faults.{comes_first}

-- the program has it, and no fault that the program has comes before it
pub record IsFirst (program : TreeView) (found : CheckFault) : Type 0 where
  pub is_broken : Breaks program found
  pub none_before : (other : CheckFault) → Breaks program other → comes_first other found ≡ false
