-- The code that is open is of one program.
use Rattle.std.proofs.Common.{◌≡◌, List, [], ◌∷◌, ◌++◌, sym, subst}
use Rattle.std.specs.List.{All}
use Rattle.std.proofs.lemmas.List.Elements.{All-append, All-cons, All-head, All-nil, All-tail}
use Rattle.c_syntax.specs.language.Numbered.{TreeView}
use Rattle.c_steps.specs.ControlView.{ControlView}
use Rattle.c_steps.specs.OfProgram.{IsMadeFor}

pub one_more : (program : TreeView) (controls after : List ControlView) (control : ControlView) → All (IsMadeFor program) controls → IsMadeFor program control → after ≡ controls ++ control ∷ [] → All (IsMadeFor program) after
one_more program controls after control all made is =
    subst (All (IsMadeFor program)) (sym is) (All-append (IsMadeFor program) controls (control ∷ []) all (All-cons (IsMadeFor program) control [] made (All-nil (IsMadeFor program))))

last-of : (program : TreeView) (before : List ControlView) (control : ControlView) → All (IsMadeFor program) (before ++ control ∷ []) → IsMadeFor program control
last-of program [] control all = All-head (IsMadeFor program) control [] all
last-of program (other ∷ before) control all = last-of program before control (All-tail (IsMadeFor program) other (before ++ control ∷ []) all)

pub last_one : (program : TreeView) (controls before : List ControlView) (control : ControlView) → All (IsMadeFor program) controls → controls ≡ before ++ control ∷ [] → IsMadeFor program control
last_one program controls before control all is = last-of program before control (subst (All (IsMadeFor program)) is all)
