-- The table's rules of steps, and of the three parts of a loop's head, do no more than what their sorts mean.
use Rattle.std.proofs.Common.{ℕ, IsTrue, List, [], ◌∷◌, Option, Some, None, refl, subst}
use Rattle.c_syntax.specs.declared.grammar.Class.TheVariants as class
use Rattle.c_syntax.specs.declared.head.Head.{Head}
use Rattle.c_syntax.specs.declared.head.Head.TheVariants as head
use Rattle.c_syntax.specs.declared.node.Bump.{Bump}
use Rattle.c_syntax.specs.declared.node.Setting.{Setting}
use Rattle.c_syntax.specs.declared.node.Side.TheVariants as side
use Rattle.c_syntax.specs.declared.node.NodeKind.TheVariants as node
use Rattle.c_syntax.specs.declared.term.Term.TheVariants as term
use Rattle.c_syntax.specs.language.Words.{Word}
use Rattle.c_syntax.specs.language.Tree.{Tree, over_one, over_two}
use Rattle.c_syntax.specs.language.WordClasses.{is_name}
use Rattle.c_syntax.specs.workings.Derivation.{Opened, opened_at, with_child}
use Rattle.c_syntax.specs.language.Productions.{ConditionPart, FirstPart, StepOf, StepPart, bump_sign, kids, made_at, name_node, setting_sign}
use Rattle.c_syntax.proofs.CallMeaning.{Holds, ReadsCondition, ReadsFirst, ReadsStepRest, ReadsThird}
use Rattle.c_syntax.proofs.CallRows.{name_taken}
use Rattle.c_syntax.proofs.Effects.{Effect, Expects, Takes, Opens, Makes, Joins, Wraps, Skips}
use Rattle.c_syntax.proofs.ExpressionFolds.{ReadsPlace, ReadsRanked}
use Rattle.c_syntax.proofs.Standing.{Stands}
use Rattle.c_syntax.proofs.StepWords.{bump-outside, setting-outside}

-- ---- steps behind their place

pub step_set : (limit : ℕ) (which : Setting) (next : Effect) (depth : ℕ) (at : Head) (words : List Word) (nodes : List Opened)
    → Expects (setting_sign which) (ReadsRanked limit 0 (Joins (node.Assign which) next)) depth at words nodes → ReadsStepRest limit next depth at words nodes
step_set limit which next depth at [] nodes fails left before (Holds.holds {own = own} {outer = outer}) from place stands = absurd fails
step_set limit which next depth at (word ∷ words) nodes (is, reads) left before (Holds.holds {own = own} {outer = outer}) from place stands =
    let right = subst (λ here. ReadsRanked limit 0 (Joins (node.Assign which) next) depth here words (with_child (Some left) own ∷ outer)) (setting-outside which) reads refl in
    (right.0, over_two (node.Assign which) left right.1, StepOf.assigned which place is right.2, right.3)

pub step_bumped : (limit : ℕ) (which : Bump) (next : Effect) (depth : ℕ) (at : Head) (words : List Word) (nodes : List Opened)
    → Expects (bump_sign which) (Wraps (node.Bump which side.Behind) next) depth at words nodes → ReadsStepRest limit next depth at words nodes
step_bumped limit which next depth at [] nodes fails left before (Holds.holds {own = own} {outer = outer}) from place stands = absurd fails
step_bumped limit which next depth at (word ∷ words) nodes (is, goes) left before (Holds.holds {own = own} {outer = outer}) from place stands = (
  words,
  over_one (node.Bump which side.Behind) left,
  StepOf.behind which place is,
  subst (λ here. Wraps (node.Bump which side.Behind) next depth here words (with_child (Some left) own ∷ outer)) (bump-outside which) goes,
)

-- ---- steps

abbrev AddsStep : ℕ → Effect → ℕ → List Word → Opened → List Opened → Type 0
AddsStep limit next depth words own outer = (rest : List Word) × (tree : Tree) × StepOf limit depth words rest tree × next depth head.Outside rest (with_child (Some tree) own ∷ outer)

step_from_place : (limit : ℕ) (next : Effect) (depth : ℕ) (words : List Word) (own : Opened) (outer : List Opened) → ReadsPlace limit (ReadsStepRest limit next) depth head.Outside words (own ∷ outer)
    → AddsStep limit next depth words own outer
step_from_place limit next depth words own outer reads =
    let place = reads refl in
    place.3 place.1 (own ∷ outer) Holds.holds words place.2 Stands.stands

abbrev pub ReadsBefore : ℕ → Bump → Effect → Effect
ReadsBefore limit which next = Opens (Expects (bump_sign which) (ReadsPlace limit (Makes (node.Bump which side.Before) next)))

step_from_bump : (limit : ℕ) (which : Bump) (next : Effect) (depth : ℕ) (words : List Word) (own : Opened) (outer : List Opened) → ReadsBefore limit which next depth head.Outside words (own ∷ outer)
    → AddsStep limit next depth words own outer
step_from_bump limit which next depth [] own outer fails = absurd fails
step_from_bump limit which next depth (word ∷ words) own outer (is, reads) =
    let place = subst (λ here. ReadsPlace limit (Makes (node.Bump which side.Before) next) depth here words (opened_at word.spot ∷ own ∷ outer)) (bump-outside which) reads refl in
    (place.0, made_at (node.Bump which side.Before) word (kids (place.1 ∷ [])), StepOf.before which is place.2, place.3)

-- ---- the parts of a loop's head

pub first_none : (limit : ℕ) (next : Effect) (depth : ℕ) (at : Head) (words : List Word) (nodes : List Opened) → Skips next depth at words nodes → ReadsFirst limit next depth at words nodes
first_none limit next depth at words nodes goes Stands.stands = (words, None, FirstPart.none, goes)

pub first_declared : (limit : ℕ) (next : Effect) (depth : ℕ) (at : Head) (words : List Word) (nodes : List Opened)
    → Opens (Expects term.Int (Opens (Takes class.Name (Makes node.Name (Expects term.Set (ReadsRanked limit 0 (Makes node.Init next))))))) depth at words nodes
    → ReadsFirst limit next depth at words nodes
first_declared limit next depth at [] nodes fails stands = absurd fails
first_declared limit next depth at (word ∷ words) [] reads stands = elim stands [ ]
first_declared limit next depth at (word ∷ []) (own ∷ outer) (is, fails) Stands.stands = absurd fails
first_declared limit next depth at (word ∷ name ∷ words) (own ∷ outer) (is, taken) Stands.stands =
    let After : Effect = Expects term.Set (ReadsRanked limit 0 (Makes node.Init next)) in
    let goes = name_taken (Makes node.Name After) depth name words (opened_at name.spot ∷ opened_at word.spot ∷ own ∷ outer) taken in
    setting words goes.1 goes.0
  where
    setting : (words : List Word)
        → Expects term.Set (ReadsRanked limit 0 (Makes node.Init next)) depth head.Outside words (with_child (Some (name_node name)) (opened_at word.spot) ∷ own ∷ outer) → IsTrue (is_name name.term)
        → (rest : List Word) × (child : Option Tree) × FirstPart limit depth (word ∷ name ∷ words) rest child × next depth head.Outside rest (with_child child own ∷ outer)
    setting [] fails named = absurd fails
    setting (equals ∷ words) (sets, reads) named =
        let right = reads refl in
        (right.0, Some (made_at node.Init word (kids (name_node name ∷ right.1 ∷ []))), FirstPart.declared is named sets right.2, right.3)

pub first_place : (limit : ℕ) (next : Effect) (depth : ℕ) (at : Head) (words : List Word) (nodes : List Opened) → ReadsPlace limit (ReadsStepRest limit next) depth at words nodes
    → ReadsFirst limit next depth at words nodes
first_place limit next depth at words [] reads stands = elim stands [ ]
first_place limit next depth at words (own ∷ outer) reads Stands.stands =
    let step = step_from_place limit next depth words own outer reads in
    (step.0, Some step.1, FirstPart.stepped step.2, step.3)

pub first_bump : (limit : ℕ) (which : Bump) (next : Effect) (depth : ℕ) (at : Head) (words : List Word) (nodes : List Opened) → ReadsBefore limit which next depth at words nodes
    → ReadsFirst limit next depth at words nodes
first_bump limit which next depth at words [] reads stands = elim stands [ ]
first_bump limit which next depth at words (own ∷ outer) reads Stands.stands =
    let step = step_from_bump limit which next depth words own outer reads in
    (step.0, Some step.1, FirstPart.stepped step.2, step.3)

pub condition_none : (limit : ℕ) (next : Effect) (depth : ℕ) (at : Head) (words : List Word) (nodes : List Opened) → Skips next depth at words nodes → ReadsCondition limit next depth at words nodes
condition_none limit next depth at words nodes goes Stands.stands = (words, None, ConditionPart.none, goes)

pub condition_some : (limit : ℕ) (next : Effect) (depth : ℕ) (at : Head) (words : List Word) (nodes : List Opened) → ReadsRanked limit 0 next depth at words nodes
    → ReadsCondition limit next depth at words nodes
condition_some limit next depth at words nodes reads Stands.stands =
    let one = reads refl in
    (one.0, Some one.1, ConditionPart.some one.2, one.3)

pub third_none : (limit : ℕ) (next : Effect) (depth : ℕ) (at : Head) (words : List Word) (nodes : List Opened) → Skips next depth at words nodes → ReadsThird limit next depth at words nodes
third_none limit next depth at words nodes goes Stands.stands = (words, None, StepPart.none, goes)

pub third_place : (limit : ℕ) (next : Effect) (depth : ℕ) (at : Head) (words : List Word) (nodes : List Opened) → ReadsPlace limit (ReadsStepRest limit next) depth at words nodes
    → ReadsThird limit next depth at words nodes
third_place limit next depth at words [] reads stands = elim stands [ ]
third_place limit next depth at words (own ∷ outer) reads Stands.stands =
    let step = step_from_place limit next depth words own outer reads in
    (step.0, Some step.1, StepPart.some step.2, step.3)

pub third_bump : (limit : ℕ) (which : Bump) (next : Effect) (depth : ℕ) (at : Head) (words : List Word) (nodes : List Opened) → ReadsBefore limit which next depth at words nodes
    → ReadsThird limit next depth at words nodes
third_bump limit which next depth at words [] reads stands = elim stands [ ]
third_bump limit which next depth at words (own ∷ outer) reads Stands.stands =
    let step = step_from_bump limit which next depth words own outer reads in
    (step.0, Some step.1, StepPart.some step.2, step.3)
