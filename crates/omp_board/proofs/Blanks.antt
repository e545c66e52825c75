-- Controls without code, of which the last one is taken.
use Rattle.std.proofs.Common.{◌≡◌, ◌++◌, ◌∷◌, [], List, subst}
use Rattle.std.specs.List.{All}
use Rattle.std.proofs.lemmas.List.Elements.{All-cons, All-head, All-nil, All-tail}
use Rattle.c_syntax.specs.language.Numbered.{TreeView}
use Rattle.c_steps.specs.ControlView.{ControlView}
use Rattle.c_steps.specs.OfProgram.{IsMadeFor}

module _ (program : TreeView) (control : ControlView) where
  last-made : (others : List ControlView) → All (IsMadeFor program) (others ++ control ∷ []) → IsMadeFor program control
  last-made [] all = All-head (IsMadeFor program) control [] all
  last-made (other ∷ others) all = last-made others (All-tail (IsMadeFor program) other (others ++ control ∷ []) all)

  others-made : (others : List ControlView) → All (IsMadeFor program) (others ++ control ∷ []) → All (IsMadeFor program) others
  others-made [] all = All-nil (IsMadeFor program)
  others-made (other ∷ others) all =
      All-cons (IsMadeFor program) other others (All-head (IsMadeFor program) other (others ++ control ∷ []) all) (others-made others (All-tail (IsMadeFor program) other (others ++ control ∷ []) all))

  module _ (blanks others : List ControlView) (all : All (IsMadeFor program) blanks) (is : blanks ≡ others ++ control ∷ []) where
    pub last_is_made : IsMadeFor program control
    last_is_made = last-made others (subst (All (IsMadeFor program)) is all)

    pub others_are_made : All (IsMadeFor program) others
    others_are_made = others-made others (subst (All (IsMadeFor program)) is all)
