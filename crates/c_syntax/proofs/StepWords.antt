-- What the productions of steps, and of the three parts of a loop's head, derive.
use Rattle.std.proofs.Common.{ℕ, ◌≡◌, IsTrue, List, [], ◌∷◌, Option, Some, refl, ap}
use Rattle.c_syntax.specs.declared.grammar.Sort.{Sort}
use Rattle.c_syntax.specs.declared.grammar.Sort.TheVariants as sort
use Rattle.c_syntax.specs.declared.grammar.Step.{Step}
use Rattle.c_syntax.specs.declared.grammar.Step.TheVariants.{Expect, Read, Open, Make, Join, Wrap}
use Rattle.c_syntax.specs.declared.head.Head.TheVariants as head
use Rattle.c_syntax.specs.declared.node.Bump.{Bump}
use Rattle.c_syntax.specs.declared.node.Bump.TheVariants as bump
use Rattle.c_syntax.specs.declared.node.NodeKind.TheVariants as node
use Rattle.c_syntax.specs.declared.node.Setting.{Setting}
use Rattle.c_syntax.specs.declared.node.Setting.TheVariants as setting
use Rattle.c_syntax.specs.declared.node.Side.TheVariants as side
use Rattle.c_syntax.specs.declared.term.Term.{Term}
use Rattle.c_syntax.specs.declared.term.Term.TheVariants as term
use Rattle.c_syntax.specs.language.Heads.{behind_outside}
use Rattle.c_syntax.specs.language.Words.{Word}
use Rattle.c_syntax.specs.language.Tree.{Tree}
use Rattle.c_syntax.specs.workings.Grammar.{choice, step_rest}
use Rattle.c_syntax.specs.language.WordClasses.{is_name}
use Rattle.c_syntax.specs.workings.Derivation.{Derives, Opened}
use Rattle.c_syntax.specs.language.Productions.{ConditionPart, FirstPart, Place, StepOf, StepPart, bump_sign, setting_sign}
use Rattle.c_syntax.proofs.Expressions.{expression_derives, place_derives}
use Rattle.c_syntax.proofs.FirstSteps.{condition_expression, first-named, third-named}
use Rattle.c_syntax.proofs.FirstWords.{bare-apart, ends-no_index, expression-begins, no_bracket}
use Rattle.c_syntax.proofs.OutsideSteps.{expect, read_term, take_name}
use Rattle.c_syntax.proofs.Pushing.{Ends, is_end, plus}

-- the words of settings and of bumps
pub setting-outside : (which : Setting) → behind_outside (setting_sign which) ≡ head.Outside
setting-outside setting.Plain = refl
setting-outside other = refl

pub bump-outside : (which : Bump) → behind_outside (bump_sign which) ≡ head.Outside
bump-outside bump.Increment = refl
bump-outside other = refl

pub setting-no_bracket : (which : Setting) → IsTrue (no_bracket (setting_sign which))
setting-no_bracket setting.Plain = refl
setting-no_bracket other = refl

pub bump-no_bracket : (which : Bump) → IsTrue (no_bracket (bump_sign which))
bump-no_bracket bump.Increment = refl
bump-no_bracket other = refl

set_rest : (which : Setting) → step_rest (setting_sign which) ≡ Some (Expect (setting_sign which) ∷ Read sort.Expr ∷ Join (node.Assign which) ∷ [])
set_rest setting.Plain = refl
set_rest other = refl

bump_rest : (which : Bump) → step_rest (bump_sign which) ≡ Some (Expect (bump_sign which) ∷ Wrap (node.Bump which side.Behind) ∷ [])
bump_rest bump.Increment = refl
bump_rest other = refl

-- a step, in a sort that is one where a place or a bump begins it
module _ (what : Sort) (named : (word : Term) → IsTrue (is_name word) → choice what word ≡ Some (Read sort.Place ∷ Read sort.StepRest ∷ []))
    (bumped : (which : Bump) → choice what (bump_sign which) ≡ Some (Open ∷ Expect (bump_sign which) ∷ Read sort.Place ∷ Make (node.Bump which side.Before) ∷ [])) where
  from_place : {limit depth : ℕ} {words rest : List Word} {tree whole : Tree} {steps : List Step} {nodes : List Opened} → Place limit depth head.Outside words rest tree
      → Derives limit (Read sort.Place ∷ Read sort.StepRest ∷ steps) depth head.Outside words nodes whole → Derives limit (Read what ∷ steps) depth head.Outside words nodes whole
  from_place (Place.place {word = word} is index) more = Derives.read (named word.term is) more

  step_derives : {limit depth : ℕ} {words rest : List Word} {tree whole : Tree} {steps : List Step} {own : Opened} {outer : List Opened} → StepOf limit depth words rest tree → Ends rest
      → Derives limit steps depth head.Outside rest (plus (Some tree) (own ∷ outer)) whole → Derives limit (Read what ∷ steps) depth head.Outside words (own ∷ outer) whole
  step_derives (StepOf.assigned which placed is expression) ends more =
      from_place placed (place_derives refl placed (bare-apart (setting_sign which) is (setting-no_bracket which))
      (read_term (setting_sign which) is (set_rest which) (expect is (setting-outside which) (expression_derives refl expression ends (Derives.join more)))))
  step_derives (StepOf.behind which placed is) ends more =
      from_place placed (place_derives refl placed (bare-apart (bump_sign which) is (bump-no_bracket which))
      (read_term (bump_sign which) is (bump_rest which) (expect is (bump-outside which) (Derives.wrap more))))
  step_derives {rest = rest} (StepOf.before which is placed) ends more =
      read_term (bump_sign which) is (bumped which)
      (Derives.open_node (expect is (bump-outside which) (place_derives refl placed (ends-no_index rest ends) (Derives.make more))))

first-bumped : (which : Bump) → choice sort.InitPart (bump_sign which) ≡ Some (Open ∷ Expect (bump_sign which) ∷ Read sort.Place ∷ Make (node.Bump which side.Before) ∷ [])
first-bumped bump.Increment = refl
first-bumped other = refl

third-bumped : (which : Bump) → choice sort.StepPart (bump_sign which) ≡ Some (Open ∷ Expect (bump_sign which) ∷ Read sort.Place ∷ Make (node.Bump which side.Before) ∷ [])
third-bumped bump.Increment = refl
third-bumped other = refl

-- what a loop begins with
pub first_derives : {limit depth : ℕ} {words rest : List Word} {child : Option Tree} {whole : Tree} {steps : List Step} {own : Opened} {outer : List Opened} {last : Word}
    → FirstPart limit depth words (last ∷ rest) child → last.term ≡ term.Semicolon → Derives limit steps depth head.Outside (last ∷ rest) (plus child (own ∷ outer)) whole
    → Derives limit (Read sort.InitPart ∷ steps) depth head.Outside words (own ∷ outer) whole
first_derives FirstPart.none ends more = read_term term.Semicolon ends refl (Derives.skip more)
first_derives (FirstPart.declared is named sets expression) ends more =
    read_term term.Int is refl (Derives.open_node (expect is refl (Derives.open_node (take_name named (Derives.make
    (expect sets refl (expression_derives refl expression (ap is_end ends) (Derives.make more))))))))
first_derives (FirstPart.stepped step) ends more = step_derives sort.InitPart first-named first-bumped step (ap is_end ends) more

-- what it tests
pub condition_derives : {limit depth : ℕ} {words rest : List Word} {child : Option Tree} {whole : Tree} {steps : List Step} {own : Opened} {outer : List Opened} {last : Word}
    → ConditionPart limit depth words (last ∷ rest) child → last.term ≡ term.Semicolon → Derives limit steps depth head.Outside (last ∷ rest) (plus child (own ∷ outer)) whole
    → Derives limit (Read sort.CondPart ∷ steps) depth head.Outside words (own ∷ outer) whole
condition_derives ConditionPart.none ends more = read_term term.Semicolon ends refl (Derives.skip more)
condition_derives {words = words} (ConditionPart.some expression) ends more =
    condition_expression words (expression-begins expression (ap is_end ends)) (expression_derives refl expression (ap is_end ends) more)

-- what it does behind each turn
pub third_derives : {limit depth : ℕ} {words rest : List Word} {child : Option Tree} {whole : Tree} {steps : List Step} {own : Opened} {outer : List Opened} {last : Word}
    → StepPart limit depth words (last ∷ rest) child → last.term ≡ term.CloseParen → Derives limit steps depth head.Outside (last ∷ rest) (plus child (own ∷ outer)) whole
    → Derives limit (Read sort.StepPart ∷ steps) depth head.Outside words (own ∷ outer) whole
third_derives StepPart.none ends more = read_term term.CloseParen ends refl (Derives.skip more)
third_derives (StepPart.some step) ends more = step_derives sort.StepPart third-named third-bumped step (ap is_end ends) more
