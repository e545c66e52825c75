-- The loop that a construct shares out: its start, its end and its variable are known where the construct begins.
use Rattle.std.specs.Prelude.{ℕ, zero, suc, ◌≡◌, ◌⊎◌, ◌&&◌, ◌||◌, ◌==◌, nat_eq, if◌then◌else◌, Bool, true, false, not, IsTrue, List, [], ◌∷◌, ◌++◌, unwrap_or, Option, Some, None, IfSome, is_some, ℤ, refl}
use Rattle.std.specs.List.{Contains}
use Rattle.std.proofs.Common.{arith, append-nil, inl, inr, subst}
use Rattle.std.proofs.lemmas.Bool.Decides.{nat_tests}
use Rattle.std.proofs.lemmas.List.Elements.{Contains-push_cases}
use Rattle.c_syntax.specs.declared.node.BinaryOp.{BinaryOp}
use Rattle.c_tokens.specs.declared.token.Spot.{Spot}
use Rattle.c_syntax.specs.declared.node.Bump.TheVariants as bump
use Rattle.c_syntax.specs.declared.node.Setting.TheVariants as setting
use Rattle.c_syntax.specs.declared.node.NodeKind.{NodeKind}
use Rattle.c_syntax.specs.declared.node.NodeKind.TheVariants as node
use Rattle.c_syntax.specs.language.Tree.{Tree, Children, at_place, child_of, children_of, kind_of, name_of, nothing}
use Rattle.c_syntax.specs.language.Tree.Tree.{Node}
use Rattle.c_syntax.specs.language.Tree.Children.{Over, Child, Absent}
use Rattle.c_syntax.specs.language.Numbered.{TreeView}
use Rattle.c_check.specs.LoopParts.{LoopParts, comparison_of, parts_if, parts_in, parts_with, statement_parts, step_by, step_of}
use Rattle.c_check.specs.Loops.{adds, assigned_by, child_at, continues, goes_down, goes_up, has_form, has_form_with, has_head, is_apart, is_place, is_start, is_step_down, is_step_up, is_variable_named, stands_among, stands_in, takes}
use Rattle.c_model.specs.Formed.{AreFormed, AreInRow, HasChild, HasPart, IsFormed, IsOver, is_quiet}
use Rattle.c_model.specs.Loops.{is_declared}
use Rattle.c_model.specs.Scoped.{Knows, KnowsEach, KnowsLoop, Sees, SeesEach, first_names}
use Rattle.c_model.proofs.ScopeMeaning.{knows_sees}
use Rattle.c_model.proofs.ScopeTrees.{knows_at, sees_more}

pub record IsLoopSeen (names : List ℕ) (variable start end : Tree) : Type 0 where
  pub start_seen : Sees names start
  pub end_seen : Sees names end
  pub variable_is : IsTrue (is_declared (kind_of variable)) ⊎ Contains names (name_of variable)

never : {A : Type 0} → IsTrue false → A
never is = absurd (cc)

both-so : (one other : Bool) → (one && other) ≡ true → (one ≡ true) × (other ≡ true)
both-so true true is = (refl, refl)
both-so true false is = absurd (cc)
both-so false other is = absurd (cc)

-- what doesn't use a name isn't concerned by it
neither-so : (one other : Bool) → (one || other) ≡ false → (one ≡ false) × (other ≡ false)
neither-so false false is = (refl, refl)
neither-so false true is = absurd (cc)
neither-so true other is = absurd (cc)

other-than : (names : List ℕ) (name other : ℕ) → nat_eq other name ≡ false → Contains (names ++ name ∷ []) other → Contains names other
other-than names name other differs is =
    elim (Contains-push_cases names name other is) [ inl there ↦ there | inr same ↦ absurd (grind (arith, nat_tests)) ]

pub one_quiet : (children : Children) → HasChild is_quiet IsOver children → AreInRow is_quiet children
unfolding AreInRow
one_quiet (Child tree Over) form = (form.0, tt)
one_quiet (Child tree (Child other rest)) form = absurd form.1
one_quiet (Child tree (Absent rest)) form = absurd form.1
one_quiet Over form = absurd form
one_quiet (Absent rest) form = absurd form

pub two_quiet : (children : Children) → HasChild is_quiet (HasChild is_quiet IsOver) children → AreInRow is_quiet children
unfolding AreInRow
two_quiet (Child tree rest) form = (form.0, one_quiet rest form.1)
two_quiet Over form = absurd form
two_quiet (Absent rest) form = absurd form

mutual
  unfolding Sees SeesEach stands_in stands_among IsFormed AreFormed AreInRow

  sees-without : (names : List ℕ) (name : ℕ) (tree : Tree) → IsFormed tree → stands_in name tree ≡ false → Sees (names ++ name ∷ []) tree → Sees names tree
  sees-without names name (Node node.Place spot other number text children) formed apart sees =
      let parts = neither-so (other == name) (stands_among name children) apart in
      (other-than names name other parts.0 sees.0, without-each names name children formed.0 formed.1 parts.1 sees.1)
  sees-without names name (Node node.Paren spot other number text children) formed apart sees = without-each names name children (one_quiet children formed.0) formed.1 apart sees
  sees-without names name (Node (node.Unary operator) spot other number text children) formed apart sees = without-each names name children (one_quiet children formed.0) formed.1 apart sees
  sees-without names name (Node (node.Binary operator) spot other number text children) formed apart sees = without-each names name children (two_quiet children formed.0) formed.1 apart sees
  sees-without names name (Node kind spot other number text children) formed apart sees = tt

  without-each : (names : List ℕ) (name : ℕ) (children : Children) → AreInRow is_quiet children → AreFormed children → stands_among name children ≡ false → SeesEach (names ++ name ∷ []) children → SeesEach names children
  without-each names name Over row formed apart sees = tt
  without-each names name (Absent Over) row formed apart sees = tt
  without-each names name (Absent (Child tree rest)) row formed apart sees = absurd row
  without-each names name (Absent (Absent rest)) row formed apart sees = absurd row
  without-each names name (Child tree rest) row formed apart sees =
      let parts = neither-so (stands_in name tree) (stands_among name rest) apart in
      (sees-without names name tree formed.0 parts.0 sees.0, without-each names name rest row.1 formed.1 parts.1 sees.1)

formed-at : (children : Children) (place : ℕ) → AreFormed children → IsFormed (unwrap_or (at_place children place) nothing)
unfolding AreFormed IsFormed AreInRow
formed-at Over place formed = (tt, tt)
formed-at (Child tree rest) zero formed = formed.0
formed-at (Child tree rest) (suc place) formed = formed-at rest place formed.1
formed-at (Absent rest) zero formed = (tt, tt)
formed-at (Absent rest) (suc place) formed = formed-at rest place formed

formed-child : (tree it : Tree) (place : ℕ) → IsFormed tree → child_of tree place ≡ Some it → IsFormed it
unfolding IsFormed
formed-child (Node kind spot name number text children) it place formed is = subst (λ (found : Option Tree). IsFormed (unwrap_or found nothing)) is (formed-at children place formed.1)

with-loop : (P : Tree → Tree → Tree → Type 0) (variable start end body : Option Tree) (comparison : Option BinaryOp) (step : Option ℤ) → ((v s e : Tree) → variable ≡ Some v → start ≡ Some s → end ≡ Some e → P v s e)
    → IfSome (parts_with variable start end body comparison step) (λ (parts : LoopParts). P parts.variable parts.start parts.end)
with-loop P (Some variable) (Some start) (Some end) (Some body) (Some comparison) (Some step) each = each variable start end refl refl refl
with-loop P variable start end body comparison step each = tt

module _ (program : TreeView) (names : List ℕ) where
  at-some : (known : List ℕ) (children : Children) (place : ℕ) (it : Tree) → KnowsEach program known children → at_place children place ≡ Some it → Sees known it
  at-some known children place it knows is = knows_sees program known it (subst (λ (found : Option Tree). Knows program known (unwrap_or found nothing)) is (knows_at program known children place knows))

  compared : (known : List ℕ) (second it : Tree) → (goes_up (kind_of second) ≡ true) ⊎ (goes_down (kind_of second) ≡ true) → Knows program known second → child_of second 1 ≡ Some it → Sees known it
  unfolding Knows
  compared known (Node (node.Binary operator) spot name number text children) it way knows is = at-some known children 1 it knows.1 is
  compared known (Node other spot name number text children) it way knows is = absurd (elim way [ inl up ↦ cc | inr down ↦ cc ])

  way-of : (up up_step down down_step : Bool) → (up && up_step || down && down_step) ≡ true → (up ≡ true) ⊎ (down ≡ true)
  way-of true up_step down down_step is = inl refl
  way-of false up_step true down_step is = inr refl
  way-of false up_step false down_step is = absurd (cc)

  -- the end, where a variable that the loop declares isn't in scope
  end-seen : (first second it : Tree) (name : ℕ) → assigned_by (kind_of first) (child_at first 0) ≡ Some name → IsTrue (is_start (kind_of first)) → IsFormed it → stands_in name it ≡ false → Sees (names ++ first_names first) it → Sees names it
  end-seen (Node node.Init spot other number text (Child variable rest)) second it name named starts formed apart sees =
      sees-without names (name_of variable) it formed (let same : name_of variable ≡ name = cc in rw same apart) sees
  end-seen (Node node.Init spot other number text Over) second it name named starts formed apart sees = sees_more _ names (λ one there. subst (λ (names : List ℕ). Contains names one) (append-nil names) there) it sees
  end-seen (Node node.Init spot other number text (Absent rest)) second it name named starts formed apart sees = sees_more _ names (λ one there. subst (λ (names : List ℕ). Contains names one) (append-nil names) there) it sees
  end-seen (Node kind spot other number text children) second it name named starts formed apart sees = sees_more _ names (λ one there. subst (λ (names : List ℕ). Contains names one) (append-nil names) there) it sees

  start-seen : (first it : Tree) → IsTrue (is_start (kind_of first)) → Knows program names first → child_of first 1 ≡ Some it → Sees names it
  unfolding Knows
  start-seen (Node node.Init spot other number text children) it starts knows is = at-some names children 1 it knows.1 is
  start-seen (Node (node.Assign setting.Plain) spot other number text children) it starts knows is = at-some names children 1 it knows.1 is
  start-seen (Node (node.Assign which) spot other number text children) it starts knows is = never starts
  start-seen (Node kind spot other number text children) it starts knows is = never starts

  variable-seen : (first it : Tree) → IsTrue (is_start (kind_of first)) → IsFormed first → Knows program names first → child_of first 0 ≡ Some it → IsTrue (is_declared (kind_of it)) ⊎ Contains names (name_of it)
  unfolding Knows IsFormed
  variable-seen (Node node.Init spot other number text (Child variable rest)) it starts formed knows is = inl (subst (λ (tree : Tree). IsTrue (is_declared (kind_of tree))) (let same : variable ≡ it = cc in same) formed.0.0)
  variable-seen (Node node.Init spot other number text Over) it starts formed knows is = absurd formed.0
  variable-seen (Node node.Init spot other number text (Absent rest)) it starts formed knows is = absurd formed.0
  variable-seen (Node (node.Assign setting.Plain) spot other number text children) it starts formed knows is = inr (subst (λ (found : Option Tree). Contains names (name_of (unwrap_or found nothing))) is knows.0)
  variable-seen (Node (node.Assign which) spot other number text children) it starts formed knows is = never starts
  variable-seen (Node kind spot other number text children) it starts formed knows is = never starts

  not-so : (test : Bool) → not test ≡ true → test ≡ false
  not-so false is = refl
  not-so true is = absurd (cc)

  parts-if : (has : Bool) (statement : Tree) (P : LoopParts → Type 0) → has ≡ true → IfSome (parts_in statement) P → IfSome (if has then parts_in statement else None) P
  parts-if true statement P is each = each
  parts-if false statement P is each = tt

  loop-named : (first : Tree) (rest : Children) (statement : Tree) (name : Option ℕ) → children_of statement ≡ Child first rest → AreFormed rest → assigned_by (kind_of first) (child_at first 0) ≡ name → has_form_with name statement ≡ true → IsFormed first
      → Knows program names first → KnowsEach program (names ++ first_names first) rest → IfSome (parts_if name statement) (λ (parts : LoopParts). IsLoopSeen names parts.variable parts.start parts.end)
  loop-named first rest (Node kind spot other number text children) None are shaped named form formed knows known = tt
  loop-named first rest (Node kind spot other number text children) (Some name) are shaped named form formed knows known =
      let statement = Node kind spot other number text (Child first rest) in
      let second = child_at statement 1 in
      rw are (
      let both = both-so (has_head name statement) (is_apart name statement) (rw are at form) in
      let heads = both-so (is_start (kind_of first)) (continues name second (child_at statement 2)) both.0 in
      let ways = both-so (is_variable_named name (child_at second 0) && is_variable_named name (child_at (child_at statement 2) 0)) _ heads.1 in
      let way = way-of (goes_up (kind_of second)) (is_step_up (child_at statement 2)) (goes_down (kind_of second)) (is_step_down (child_at statement 2)) ways.1 in
      let apart = not-so (stands_in name (child_at second 1)) (both-so _ _ both.1).1 in
      let starts = heads.0 in
      parts-if (has_head name statement) statement _ both.0
      (with-loop (IsLoopSeen names) (child_of first 0) (child_of first 1) (child_of second 1) (child_of statement 3) _ _ (λ variable start end is_variable is_start is_end. record {
        start_seen = start-seen first start starts knows is_start;
        end_seen = end-seen first second end name named starts (formed-child second end 1 (formed-at rest 0 shaped) is_end) (subst (λ (found : Option Tree). stands_in name (unwrap_or found nothing) ≡ false) is_end apart)
            (compared (names ++ first_names first) second end way (knows_at program (names ++ first_names first) rest 0 known) is_end);
        variable_is = variable-seen first variable starts formed knows is_variable;
      })))

  pub loop_seen : (statement : Tree) → has_form statement ≡ true → IsFormed statement → Knows program names statement → IfSome (statement_parts statement) (λ (parts : LoopParts). IsLoopSeen names parts.variable parts.start parts.end)
  unfolding Knows KnowsLoop IsFormed AreFormed
  loop_seen (Node node.For spot other number text (Child first rest)) form formed knows =
      loop-named first rest (Node node.For spot other number text (Child first rest)) (assigned_by (kind_of first) (child_at first 0)) refl formed.1.1 refl form formed.1.0 knows.0 knows.1
  loop_seen (Node node.For spot other number text Over) form formed knows = tt
  loop_seen (Node node.For spot other number text (Absent rest)) form formed knows = tt
  loop_seen (Node kind spot other number text children) form formed knows = tt

  -- a loop of the form has all its parts
  all-some : (variable start end body : Option Tree) (comparison : Option BinaryOp) (step : Option ℤ) → is_some variable ≡ true → is_some start ≡ true → is_some end ≡ true → is_some body ≡ true → is_some comparison ≡ true → is_some step ≡ true
      → is_some (parts_with variable start end body comparison step) ≡ true
  all-some (Some variable) (Some start) (Some end) (Some body) (Some comparison) (Some step) v s e b c t = refl
  all-some None start end body comparison step v s e b c t = absurd (cc)
  all-some (Some variable) None end body comparison step v s e b c t = absurd (cc)
  all-some (Some variable) (Some start) None body comparison step v s e b c t = absurd (cc)
  all-some (Some variable) (Some start) (Some end) None comparison step v s e b c t = absurd (cc)
  all-some (Some variable) (Some start) (Some end) (Some body) None step v s e b c t = absurd (cc)
  all-some (Some variable) (Some start) (Some end) (Some body) (Some comparison) None v s e b c t = absurd (cc)

  second-there : (test : NodeKind → Bool) (children : Children) → HasChild test (HasChild is_quiet IsOver) children → (is_some (at_place children 0) ≡ true) × (is_some (at_place children 1) ≡ true)
  second-there test (Child one (Child other rest)) form = (refl, refl)
  second-there test (Child one Over) form = absurd form.1
  second-there test (Child one (Absent rest)) form = absurd form.1
  second-there test Over form = absurd form
  second-there test (Absent rest) form = absurd form

  start-there : (first : Tree) → IsTrue (is_start (kind_of first)) → IsFormed first → (is_some (child_of first 0) ≡ true) × (is_some (child_of first 1) ≡ true)
  unfolding IsFormed
  start-there (Node node.Init spot other number text children) starts formed = second-there is_declared children formed.0
  start-there (Node (node.Assign which) spot other number text children) starts formed = second-there is_place children formed.0
  start-there (Node kind spot other number text children) starts formed = never starts

  end-there : (second : Tree) → (goes_up (kind_of second) ≡ true) ⊎ (goes_down (kind_of second) ≡ true) → IsFormed second → (is_some (child_of second 1) ≡ true) × (is_some (comparison_of (kind_of second)) ≡ true)
  unfolding IsFormed
  end-there (Node (node.Binary operator) spot name number text children) way formed = ((second-there is_quiet children formed.0).1, refl)
  end-there (Node other spot name number text children) way formed = absurd (elim way [ inl up ↦ cc | inr down ↦ cc ])

  adds-step : (kind : NodeKind) (stride : Tree) → adds kind stride ≡ true → is_some (step_by kind stride) ≡ true
  adds-step (node.Bump bump.Increment side) stride is = refl
  adds-step (node.Assign setting.Add) stride is = refl
  adds-step other stride is = absurd (cc)

  takes-step : (kind : NodeKind) (stride : Tree) → takes kind stride ≡ true → is_some (step_by kind stride) ≡ true
  takes-step (node.Bump bump.Decrement side) stride is = refl
  takes-step (node.Assign setting.Subtract) stride is = refl
  takes-step other stride is = absurd (cc)

  step-there : (third : Tree) (up down : Bool) → (up && is_step_up third || down && is_step_down third) ≡ true → is_some (step_of third) ≡ true
  step-there third up down ways = elim (steps up (is_step_up third) down (is_step_down third) ways) [ inl adds ↦ adds-step (kind_of third) (child_at third 1) adds | inr takes ↦ takes-step (kind_of third) (child_at third 1) takes ]
    where
      steps : (up up_step down down_step : Bool) → (up && up_step || down && down_step) ≡ true → (up_step ≡ true) ⊎ (down_step ≡ true)
      steps true true down down_step is = inl refl
      steps up up_step true true is = inr refl
      steps true false true false is = absurd (cc)
      steps true false false down_step is = absurd (cc)
      steps false up_step true false is = absurd (cc)
      steps false up_step false down_step is = absurd (cc)

  body-there : (first : Tree) (rest : Children) → HasPart is_quiet (HasPart is_quiet (HasChild is_quiet IsOver)) rest → is_some (at_place rest 2) ≡ true
  body-there first (Child second (Child third (Child body more))) form = refl
  body-there first (Child second (Absent (Child body more))) form = refl
  body-there first (Absent (Child third (Child body more))) form = refl
  body-there first (Absent (Absent (Child body more))) form = refl
  body-there first (Child second (Child third Over)) form = absurd form.1.1
  body-there first (Child second (Child third (Absent more))) form = absurd form.1.1
  body-there first (Child second (Absent Over)) form = absurd form.1
  body-there first (Child second (Absent (Absent more))) form = absurd form.1
  body-there first (Child second Over) form = absurd form.1
  body-there first (Absent (Child third Over)) form = absurd form.1
  body-there first (Absent (Child third (Absent more))) form = absurd form.1
  body-there first (Absent (Absent Over)) form = absurd form
  body-there first (Absent (Absent (Absent more))) form = absurd form
  body-there first (Absent Over) form = absurd form
  body-there first Over form = absurd form

  has-if : (has : Bool) (statement : Tree) → has ≡ true → is_some (parts_in statement) ≡ true → is_some (if has then parts_in statement else None) ≡ true
  has-if true statement is there = there
  has-if false statement is there = absurd (cc)

  parts-named : (spot : Spot) (other number : ℕ) (text : List ℕ) (first : Tree) (rest : Children) (name : Option ℕ) → has_form_with name (Node node.For spot other number text (Child first rest)) ≡ true → IsFormed (Node node.For spot other number text (Child first rest))
      → is_some (parts_if name (Node node.For spot other number text (Child first rest))) ≡ true
  unfolding IsFormed AreFormed
  parts-named spot other number text first rest None form formed = absurd (cc)
  parts-named spot other number text first rest (Some name) form formed =
      let statement = Node node.For spot other number text (Child first rest) in
      let second = child_at statement 1 in
      let third = child_at statement 2 in
      let both = both-so (has_head name statement) (is_apart name statement) form in
      let heads = both-so (is_start (kind_of first)) (continues name second third) both.0 in
      let ways = both-so (is_variable_named name (child_at second 0) && is_variable_named name (child_at third 0)) _ heads.1 in
      let way = way-of (goes_up (kind_of second)) (is_step_up third) (goes_down (kind_of second)) (is_step_down third) ways.1 in
      let starts = start-there first heads.0 formed.1.0 in
      let ends = end-there second way (formed-at rest 0 formed.1.1) in
      has-if (has_head name statement) statement both.0
      (all-some (child_of first 0) (child_of first 1) (child_of second 1) (child_of statement 3) (comparison_of (kind_of second)) (step_of third) starts.0 starts.1 ends.0 (body-there first rest formed.0.1) ends.1
      (step-there third (goes_up (kind_of second)) (goes_down (kind_of second)) ways.1))

  pub parts_there : (statement : Tree) → has_form statement ≡ true → IsFormed statement → is_some (statement_parts statement) ≡ true
  unfolding IsFormed
  parts_there (Node node.For spot other number text (Child first rest)) form formed = parts-named spot other number text first rest (assigned_by (kind_of first) (child_at first 0)) form formed
  parts_there (Node node.For spot other number text Over) form formed = absurd formed.0
  parts_there (Node node.For spot other number text (Absent rest)) form formed = absurd (cc)
  parts_there (Node kind spot other number text children) form formed = absurd (cc)
