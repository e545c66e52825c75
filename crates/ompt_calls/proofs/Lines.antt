-- A call's text is its name, and each argument with a space before it.
use Rattle.std.proofs.Common.{◌≡◌, ℕ, List, [], ◌∷◌, ◌++◌, map, sym, ap, ◌∙◌, append-nil, append_assoc}
use Rattle.std.specs.Prelude.{codes}
use Rattle.std.specs.List.{flat_map}
use Rattle.ompt_calls.specs.declared.argument.Argument.{Argument}
use Rattle.ompt_calls.specs.Line.{argument_text, spaced}

abbrev pub spaced_argument : Argument → List ℕ
spaced_argument argument = codes " " ++ argument_text argument

pub spaced-is : (name : List ℕ) (arguments : List Argument) → name ++ flat_map spaced_argument arguments ≡ spaced (name ∷ map argument_text arguments)
spaced-is name [] = append-nil name
spaced-is name (argument ∷ rest) =
    ap (λ (text : List ℕ). name ++ text) (append_assoc (codes " ") (argument_text argument) (flat_map spaced_argument rest))
    ∙ sym (append_assoc name (codes " ") (argument_text argument ++ flat_map spaced_argument rest))
    ∙ ap (λ (text : List ℕ). (name ++ codes " ") ++ text) (spaced-is (argument_text argument) rest)
