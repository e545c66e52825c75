-- Acts that begin and end no construct and say nothing of one: those of the head of a loop.
use Rattle.std.specs.Prelude.{ℕ, ◌≡◌, Bool, true, false, IsTrue, List, [], ◌∷◌, ◌++◌, Option, Some, None, if◌then◌else◌, refl}
use Rattle.std.proofs.Common.{◌∙◌}
use Rattle.c_tokens.specs.declared.token.Spot.{Spot}
use Rattle.c_syntax.specs.declared.head.Head.{Head}
use Rattle.c_syntax.specs.language.Words.{Word}
use Rattle.c_syntax.specs.language.Tree.{Tree, Children}
use Rattle.c_syntax.specs.language.Productions.{ConditionPart, FirstPart, IndexPart, Operand, Place, Ranked, StepOf, StepPart}
use Rattle.c_check.specs.declared.acts.act.Act.{Act}
use Rattle.c_check.specs.declared.acts.act.Act.TheVariants.{Assign, Declare, Use}
use Rattle.c_check.specs.declared.acts.act.Usage.{Usage}
use Rattle.c_check.specs.declared.acts.act.Usage.TheVariants as usage
use Rattle.c_check.specs.declared.acts.role.Role.{Role}
use Rattle.c_check.specs.declared.acts.role.Role.TheVariants as role
use Rattle.c_check.specs.declared.scopes.declared.Declared.{Declared}
use Rattle.c_check.specs.Acts.{acts, each, init, target}
use Rattle.c_check.specs.Checked.{after_all}
use Rattle.c_check.specs.Constructs.{Constructs, with_use}
use Rattle.c_check.specs.Declarations.{find}
use Rattle.c_check.specs.Here.{Here, after, is_variable, used, used_in}
use Rattle.c_check.specs.Usages.{assigned}
use Rattle.check_laws.proofs.Parts.{AreCalm, is_calm, part_acts}

pub calm-both : (some more : List Act) → AreCalm some → AreCalm more → AreCalm (some ++ more)
calm-both [] more calm also = also
calm-both (act ∷ some) more calm also = (calm.0, calm-both some more calm.1 also)

-- they leave the construct that began last
pub record Keeps (old new : Constructs) : Type 0 where
  pub newest : new.newest ≡ old.newest
  pub around : new.around ≡ old.around

use-keeps : (constructs : Constructs) (spot : Spot) (it : Declared) → Keeps constructs (used_in constructs spot it)
use-keeps constructs spot it = either (is_variable it.thing)
  where
    either : (is : Bool) → Keeps constructs (if is then with_use constructs spot it.slot else constructs)
    either true = record { newest = refl; around = refl }
    either false = record { newest = refl; around = refl }

found-keeps : (here : Here) (spot : Spot) (found : Option Declared) → Keeps here.constructs (used here spot found).constructs
found-keeps here spot None = record { newest = refl; around = refl }
found-keeps here spot (Some it) = use-keeps here.constructs spot it

act-keeps : (here : Here) (act : Act) → IsTrue (is_calm act) → Keeps here.constructs (after here act).constructs
unfolding after
act-keeps here (Use name spot used) calm = found-keeps here spot (find here.names.visible name)
act-keeps here (Assign name) calm = record { newest = refl; around = refl }
act-keeps here (Declare name spot what) calm = record { newest = refl; around = refl }
act-keeps here other calm = absurd (let wrong : false ≡ true = calm in cc)

pub calm-keeps : (acts : List Act) (here : Here) → AreCalm acts → Keeps here.constructs (after_all here acts).constructs
unfolding after_all
calm-keeps [] here calm = record { newest = refl; around = refl }
calm-keeps (act ∷ rest) here calm =
    let first = act-keeps here act calm.0 in
    let more = calm-keeps rest (after here act) calm.1 in
    record { newest = more.newest ∙ first.newest; around = more.around ∙ first.around }

-- expressions and steps
assigned-calm : (around : Role) (used : Usage) (name : ℕ) → AreCalm (assigned around used name)
assigned-calm role.Target usage.Plain name = (refl, tt)
assigned-calm role.Target other name = tt
assigned-calm role.Plain used name = tt
assigned-calm role.Used used name = tt
assigned-calm (role.Looped loop) used name = tt

mutual
  unfolding acts each

  ranked-calm : {limit rank depth : ℕ} {at : Head} {words rest : List Word} {tree : Tree} → Ranked limit rank depth at words rest tree → (around : Role) → AreCalm (acts around tree)
  ranked-calm (Ranked.operand one) around = operand-calm one around
  ranked-calm (Ranked.above less one) around = ranked-calm one around
  ranked-calm (Ranked.joined operator left sign right) around = calm-both _ _ (ranked-calm left role.Plain) (calm-both _ [] (ranked-calm right role.Plain) tt)

  operand-calm : {limit depth : ℕ} {at : Head} {words rest : List Word} {tree : Tree} → Operand limit depth at words rest tree → (around : Role) → AreCalm (acts around tree)
  operand-calm (Operand.signed operator sign deep one) around = calm-both _ [] (operand-calm one role.Plain) tt
  operand-calm (Operand.number is) around = tt
  operand-calm (Operand.placed one) around = place-calm one around
  operand-calm (Operand.parenthesis first deep one last) around = calm-both _ [] (ranked-calm one role.Plain) tt
  operand-calm (Operand.getter which is first last) around = tt

  place-calm : {limit depth : ℕ} {at : Head} {words rest : List Word} {tree : Tree} → Place limit depth at words rest tree → (around : Role) → AreCalm (acts around tree)
  place-calm (Place.place {word = word} is index) around = (refl, calm-both _ _ (assigned-calm around _ word.value) (index-calm index))

  index-calm : {limit depth : ℕ} {at : Head} {words rest : List Word} {children : Children} → IndexPart limit depth at words rest children → AreCalm (each role.Plain children)
  index-calm IndexPart.bare = tt
  index-calm (IndexPart.indexed first deep one last) = calm-both _ [] (ranked-calm one role.Plain) tt

step-calm : {limit depth : ℕ} {words rest : List Word} {tree : Tree} → StepOf limit depth words rest tree → (around : Role) → AreCalm (acts around tree)
unfolding acts each target
step-calm (StepOf.assigned which left sign right) around = calm-both _ _ (place-calm left role.Target) (calm-both _ [] (ranked-calm right role.Plain) tt)
step-calm (StepOf.behind which one sign) around = calm-both _ [] (place-calm one role.Target) tt
step-calm (StepOf.before which sign one) around = calm-both _ [] (place-calm one role.Target) tt

pub first-calm : {limit depth : ℕ} {words rest : List Word} {part : Option Tree} → FirstPart limit depth words rest part → AreCalm (part_acts part)
unfolding acts each init
first-calm FirstPart.none = tt
first-calm (FirstPart.declared is named equals one) = calm-both _ _ (calm-both _ [] (ranked-calm one role.Plain) tt) (refl, tt)
first-calm (FirstPart.stepped one) = step-calm one role.Plain

pub condition-calm : {limit depth : ℕ} {words rest : List Word} {part : Option Tree} → ConditionPart limit depth words rest part → AreCalm (part_acts part)
condition-calm ConditionPart.none = tt
condition-calm (ConditionPart.some one) = ranked-calm one role.Plain

pub third-calm : {limit depth : ℕ} {words rest : List Word} {part : Option Tree} → StepPart limit depth words rest part → AreCalm (part_acts part)
third-calm StepPart.none = tt
third-calm (StepPart.some one) = step-calm one role.Plain
