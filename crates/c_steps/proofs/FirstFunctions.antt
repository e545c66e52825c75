-- The first function of each name, in a list by the numbers of the names.
use Rattle.std.proofs.Common.{◌≡◌, ℕ, ◌<◌, List, [], ◌∷◌, Option, Some, None, inl, inr, refl, sym, ◌∙◌, get_or, length}
use Rattle.std.proofs.lemmas.Bool.{cases_Bool}
use Rattle.std.specs.Option.{option_or}
use Rattle.c_syntax.specs.language.Tree.{Tree}
use Rattle.c_syntax.specs.language.Numbered.{TreeView, root_tree, tree_at}
use Rattle.c_model.specs.Program.{function_among, is_function_named}
use Rattle.c_model.specs.Parts.{parts}
use Rattle.c_steps.specs.Nodes.{IsPart, part_at}
use Rattle.c_steps.specs.Functions.{AreFirst, AreFunctions, found_or, named_part}

-- where nothing is in the list
pub first_at_start : (trees whole : List Tree) → AreFirst trees [] whole whole
first_at_start trees whole = record { named = λ name. refl; there = λ name. tt }

found_at_end : (trees : List Tree) (found : Option ℕ) (name : ℕ) → found_or trees found (function_among name []) ≡ part_at trees found
unfolding function_among
found_at_end trees None name = refl
found_at_end trees (Some function) name = refl

-- where no part is left
pub first_at_end : (program : TreeView) (functions : List (Option ℕ)) → AreFirst program.trees functions [] (parts (root_tree program)) → AreFunctions program functions
first_at_end program functions first = record {
  named = λ name. sym (found_at_end program.trees (get_or functions name None) name) ∙ first.named name;
  there = first.there;
}

module _ (trees : List Tree) (part : ℕ) (name : ℕ) (left : List Tree) where
  found_behind : (found : Option ℕ) → found_or trees (option_or found (named_part name (tree_at trees part) part)) (function_among name left) ≡ found_or trees found (function_among name (tree_at trees part ∷ left))
  unfolding function_among
  found_behind (Some function) = refl
  found_behind None =
      elim (cases_Bool (is_function_named name (tree_at trees part))) [
        | inl named ↦ rw named refl
        | inr other ↦ rw other refl
      ]

  part_there : part < length trees → (found : Option ℕ) → IsPart trees found → IsPart trees (option_or found (named_part name (tree_at trees part) part))
  part_there within (Some function) there = there
  part_there within None there =
      elim (cases_Bool (is_function_named name (tree_at trees part))) [
        | inl named ↦ rw named within
        | inr other ↦ rw other tt
      ]

-- where one more part was looked at
pub first_behind : (trees : List Tree) (old new : List (Option ℕ)) (part : ℕ) (left whole : List Tree) → AreFirst trees old (tree_at trees part ∷ left) whole → part < length trees → ((name : ℕ) → get_or new name None ≡ option_or (get_or old name None) (named_part name (tree_at trees part) part)) → AreFirst trees new left whole
first_behind trees old new part left whole first within same = record {
  named = λ name. rw (same name) (found_behind trees part name left (get_or old name None) ∙ first.named name);
  there = λ name. rw (same name) (part_there trees part name left within (get_or old name None) (first.there name));
}

pub ruleset first_functions_cases = (first_at_start, first_at_end, first_behind)
