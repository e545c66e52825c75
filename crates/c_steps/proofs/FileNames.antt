-- The names and the cells of a file, from a part of it on.
use Rattle.std.proofs.Common.{◌≡◌, cond, List, [], ◌∷◌, ◌++◌, inl, inr, refl, sym, ap, ◌∙◌}
use Rattle.std.proofs.lemmas.Bool.{cases_Bool}
use Rattle.std.proofs.lemmas.List.{append-nil}
use Rattle.c_syntax.specs.language.Tree.{Tree, kind_of}
use Rattle.c_syntax.specs.language.Numbered.{TreeView}
use Rattle.c_model.specs.Cells.{Bound, with_declarator, with_declarators}
use Rattle.c_model.specs.Parts.{declarators_in, flat_declarations}
use Rattle.c_model.specs.Program.{is_of_variables, variables_among}
use Rattle.c_steps.specs.FileNames.{declared_by}

with_declarators-append : (program : TreeView) (bound : Bound) (trees more : List Tree) → with_declarators program bound (trees ++ more) ≡ with_declarators program (with_declarators program bound trees) more
unfolding with_declarators
with_declarators-append program bound [] more = refl
with_declarators-append program bound (tree ∷ trees) more = with_declarators-append program (with_declarator program bound tree) trees more

flat_more : (part : Tree) (parts : List Tree) → flat_declarations (variables_among (part ∷ parts)) ≡ flat_declarations (variables_among (part ∷ [])) ++ flat_declarations (variables_among parts)
unfolding flat_declarations variables_among
flat_more part parts =
    elim (cases_Bool (is_of_variables (kind_of part))) [
      | inl variables ↦ rw variables (ap (λ some. some ++ flat_declarations (variables_among parts)) (sym (append-nil (declarators_in (kind_of part) part))))
      | inr other ↦ rw other refl
    ]

-- what parts declare, the first one before the others
pub declared_more : (program : TreeView) (bound : Bound) (part : Tree) (parts : List Tree) → declared_by program bound (part ∷ parts) ≡ declared_by program (declared_by program bound (part ∷ [])) parts
declared_more program bound part parts =
    ap (with_declarators program bound) (flat_more part parts)
    ∙ with_declarators-append program bound (flat_declarations (variables_among (part ∷ []))) (flat_declarations (variables_among parts))

-- what one part declares
pub declared_first : (program : TreeView) (bound : Bound) (part : Tree) → declared_by program bound (part ∷ []) ≡ cond (is_of_variables (kind_of part)) (with_declarators program bound (declarators_in (kind_of part) part)) bound
unfolding with_declarators flat_declarations variables_among
declared_first program bound part =
    elim (cases_Bool (is_of_variables (kind_of part))) [
      | inl variables ↦ rw variables (ap (with_declarators program bound) (append-nil (declarators_in (kind_of part) part)))
      | inr other ↦ rw other refl
    ]
