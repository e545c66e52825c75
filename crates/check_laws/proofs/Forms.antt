-- The form of the head of a loop: as the checker tells it, and in the words of the rule.
use Rattle.std.specs.Prelude.{ℕ, ◌≡◌, ◌≤◌, ◌⊎◌, ◌&&◌, ◌||◌, nat_eq, not, Bool, true, false, List, [], ◌∷◌, Option, Some, None, unwrap_or, if◌then◌else◌, refl}
use Rattle.std.proofs.Common.{sym, ap, subst, ◌∙◌, inl, inr, arith}
use Rattle.std.proofs.lemmas.Bool.{and_parts, eqb-true, leb-true, le-leb}
use Rattle.std.proofs.lemmas.Bool.Decides.{nat_tests}
use Rattle.c_syntax.specs.declared.head.Head.{Head}
use Rattle.c_syntax.specs.declared.node.BinaryOp.{BinaryOp}
use Rattle.c_syntax.specs.declared.node.BinaryOp.TheVariants as binary
use Rattle.c_syntax.specs.declared.node.Bump.TheVariants as bump
use Rattle.c_syntax.specs.declared.node.Setting.TheVariants as setting
use Rattle.c_syntax.specs.declared.node.NodeKind.{NodeKind}
use Rattle.c_syntax.specs.declared.node.NodeKind.TheVariants as node
use Rattle.c_syntax.specs.language.Words.{Word}
use Rattle.c_syntax.specs.language.Tree.{Tree, Children, at_place, children_of, kind_of, name_of, nothing, number_of}
use Rattle.c_syntax.specs.language.Tree.Tree.{Node}
use Rattle.c_syntax.specs.language.Tree.Children.{Over, Child}
use Rattle.c_syntax.specs.language.Productions.{ConditionPart, FirstPart, IndexPart, Operand, Place, Ranked, StepOf, StepPart, kids, maybe}
use Rattle.c_check.specs.Loops.{assigned_by as loop_assigned, child_at, goes_down, goes_up, has_form, has_form_with, has_head, is_apart, is_start, is_step_down, is_step_up, is_stride, is_variable_named, loop_name, loop_name_by, may_have_name, name_if_variable, stands_in}
use Rattle.check_laws.specs.LoopForm.{Begins, Compares, IsNode, IsVariable, Steps, Way, way_of}

-- a loop whose head is of the form
pub record HasHead (loop : Tree) : Type 0 where
  pub variable : ℕ
  pub way : Way
  pub first : Tree
  pub second : Tree
  pub third : Tree
  pub body : Tree
  pub parts_are : IsNode node.For (first ∷ second ∷ third ∷ body ∷ []) loop
  pub begins : Begins variable first
  pub compares : Compares variable way second
  pub steps : Steps variable way third

wrong : {A : Type 0} → false ≡ true → A
wrong is = absurd (cc)

same-number : (one : ℕ) → nat_eq one one ≡ true
same-number one = grind (arith, nat_tests)

not-false : (so : Bool) → so ≡ false → not so ≡ true
not-false so is = rw is refl

false-not : (so : Bool) → not so ≡ true → so ≡ false
false-not false is = refl
false-not true is = wrong is

-- in the words of the rule it is of the checker's form

variable-named : (i : ℕ) (tree : Tree) → IsVariable i tree → is_variable_named i tree ≡ true
variable-named i tree is = rw (is.is.0, is.name, is.is.1) (named i)
  where
    named : (i : ℕ) → (true && nat_eq i i && true) ≡ true
    named i = rw (same-number i) refl

variable-name : (i : ℕ) (tree : Tree) → IsVariable i tree → name_if_variable tree ≡ Some i
variable-name i tree is =
    let named : is_variable_named (name_of tree) tree ≡ true = subst (λ (name : ℕ). is_variable_named name tree ≡ true) (sym is.name) (variable-named i tree is) in
    rw named (ap (λ (name : ℕ). Some name) is.name)

-- a child of a node over these
child-is : (tree : Tree) (children : Children) (place : ℕ) → children_of tree ≡ children → child_at tree place ≡ unwrap_or (at_place children place) nothing
child-is tree children place is = ap (λ (children : Children). unwrap_or (at_place children place) nothing) is

begun-name : (i : ℕ) (first : Tree) → Begins i first → loop_assigned (kind_of first) (child_at first 0) ≡ Some i
begun-name i first (Begins.assigns variable start over is apart) =
    rw (over.0, child-is first (kids (variable ∷ start ∷ [])) 0 over.1) (variable-name i variable is)
begun-name i first (Begins.declares named start over is) =
    rw (over.0, child-is first (kids (named ∷ start ∷ [])) 0 over.1) (ap (λ (name : ℕ). Some name) is)

begun-start : (i : ℕ) (first : Tree) → Begins i first → is_start (kind_of first) ≡ true
begun-start i first (Begins.assigns variable start over is apart) = rw over.0 refl
begun-start i first (Begins.declares named start over is) = rw over.0 refl

begun-apart : (i : ℕ) (first : Tree) → Begins i first → (may_have_name (kind_of first) || not (stands_in i (child_at first 1))) ≡ true
begun-apart i first (Begins.assigns variable start over is apart) =
    rw (over.0, child-is first (kids (variable ∷ start ∷ [])) 1 over.1) (not-false (stands_in i start) apart)
begun-apart i first (Begins.declares named start over is) = rw over.0 refl

goes : Way → NodeKind → Bool
goes Way.up kind = goes_up kind
goes Way.down kind = goes_down kind

compared-goes : (operator : BinaryOp) (way : Way) → way_of operator ≡ Some way → goes way (node.Binary operator) ≡ true
unfolding goes
compared-goes binary.Less Way.up is = refl
compared-goes binary.LessEqual Way.up is = refl
compared-goes binary.Greater Way.down is = refl
compared-goes binary.GreaterEqual Way.down is = refl
compared-goes other way is = absurd (cc)

steps-by : Way → Tree → Bool
steps-by Way.up third = is_step_up third
steps-by Way.down third = is_step_down third

stride-is : (stride : Tree) → IsNode node.Number [] stride → 1 ≤ number_of stride → is_stride stride ≡ true
stride-is stride is some = rw (is.0, le-leb 1 (number_of stride) some) refl

stepped-by : (i : ℕ) (way : Way) (third : Tree) → Steps i way third → steps-by way third ≡ true
unfolding steps-by
stepped-by i Way.up third (Steps.bumped side variable over is) = rw over.0 refl
stepped-by i Way.down third (Steps.bumped side variable over is) = rw over.0 refl
stepped-by i Way.up third (Steps.moved variable stride over is number some) =
    rw (over.0, child-is third (kids (variable ∷ stride ∷ [])) 1 over.1) (stride-is stride number some)
stepped-by i Way.down third (Steps.moved variable stride over is number some) =
    rw (over.0, child-is third (kids (variable ∷ stride ∷ [])) 1 over.1) (stride-is stride number some)

stepped-variable : (i : ℕ) (way : Way) (third : Tree) → Steps i way third → is_variable_named i (child_at third 0) ≡ true
stepped-variable i way third (Steps.bumped side variable over is) =
    subst (λ (tree : Tree). is_variable_named i tree ≡ true) (sym (child-is third (kids (variable ∷ [])) 0 over.1)) (variable-named i variable is)
stepped-variable i way third (Steps.moved variable stride over is number some) =
    subst (λ (tree : Tree). is_variable_named i tree ≡ true) (sym (child-is third (kids (variable ∷ stride ∷ [])) 0 over.1)) (variable-named i variable is)

compared-variable : (i : ℕ) (way : Way) (second : Tree) → Compares i way second → is_variable_named i (child_at second 0) ≡ true
compared-variable i way second (Compares.compared operator variable end goes over is apart) =
    subst (λ (tree : Tree). is_variable_named i tree ≡ true) (sym (child-is second (kids (variable ∷ end ∷ [])) 0 over.1)) (variable-named i variable is)

compared-apart : (i : ℕ) (way : Way) (second : Tree) → Compares i way second → not (stands_in i (child_at second 1)) ≡ true
compared-apart i way second (Compares.compared operator variable end goes over is apart) =
    subst (λ (tree : Tree). not (stands_in i tree) ≡ true) (sym (child-is second (kids (variable ∷ end ∷ [])) 1 over.1)) (not-false (stands_in i end) apart)

compared-way : (i : ℕ) (way : Way) (second : Tree) → Compares i way second → goes way (kind_of second) ≡ true
compared-way i way second (Compares.compared operator variable end is over named apart) =
    subst (λ (kind : NodeKind). goes way kind ≡ true) (sym over.0) (compared-goes operator way is)

either-way : (way : Way) (second third : Tree) → goes way (kind_of second) ≡ true → steps-by way third ≡ true
    → (goes_up (kind_of second) && is_step_up third || goes_down (kind_of second) && is_step_down third) ≡ true
unfolding goes steps-by
either-way Way.up second third one two = rw (one, two) refl
either-way Way.down second third one two = rw (one, two) (or-true (goes_up (kind_of second) && is_step_up third))
  where
    or-true : (so : Bool) → (so || true) ≡ true
    or-true true = refl
    or-true false = refl

all-true : (a b c d e f : Bool) → a ≡ true → b ≡ true → c ≡ true → d ≡ true → e ≡ true → f ≡ true → (a && (b && c && d) && (e && f)) ≡ true
all-true a b c d e f ia ib ic id ie if_ = rw (ia, ib, ic, id, ie, if_) refl

module _ (loop : Tree) (head : HasHead loop) where
  parts : Children
  parts = kids (head.first ∷ head.second ∷ head.third ∷ head.body ∷ [])

  pub head-name : loop_name loop ≡ Some head.variable
  head-name =
      subst (λ (kind : NodeKind). loop_name_by kind (child_at loop 0) ≡ Some head.variable) (sym head.parts_are.0)
      (subst (λ (first : Tree). loop_name_by node.For first ≡ Some head.variable) (sym (child-is loop (kids (head.first ∷ head.second ∷ head.third ∷ head.body ∷ [])) 0 head.parts_are.1))
      (begun-name head.variable head.first head.begins))

  head-with : has_form_with (Some head.variable) loop ≡ true
  head-with =
      rw (
        child-is loop (kids (head.first ∷ head.second ∷ head.third ∷ head.body ∷ [])) 0 head.parts_are.1,
        child-is loop (kids (head.first ∷ head.second ∷ head.third ∷ head.body ∷ [])) 1 head.parts_are.1,
        child-is loop (kids (head.first ∷ head.second ∷ head.third ∷ head.body ∷ [])) 2 head.parts_are.1,
      )
      (all-true (is_start (kind_of head.first)) (is_variable_named head.variable (child_at head.second 0)) (is_variable_named head.variable (child_at head.third 0))
      (goes_up (kind_of head.second) && is_step_up head.third || goes_down (kind_of head.second) && is_step_down head.third)
      (may_have_name (kind_of head.first) || not (stands_in head.variable (child_at head.first 1))) (not (stands_in head.variable (child_at head.second 1)))
      (begun-start head.variable head.first head.begins) (compared-variable head.variable head.way head.second head.compares) (stepped-variable head.variable head.way head.third head.steps)
      (either-way head.way head.second head.third (compared-way head.variable head.way head.second head.compares) (stepped-by head.variable head.way head.third head.steps))
      (begun-apart head.variable head.first head.begins) (compared-apart head.variable head.way head.second head.compares))

  pub head-form : has_form loop ≡ true
  head-form = subst (λ (name : Option ℕ). has_form_with name loop ≡ true) (sym head-name) head-with

-- what is of the checker's form is so in the words of the rule

variable-place : (i value : ℕ) → (true && nat_eq value i && true) ≡ true → value ≡ i
variable-place i value is = eqb-true value i (and_parts (nat_eq value i) true is).0

no-index : (so : Bool) → (so && false) ≡ true → ⊥
no-index true is = wrong is
no-index false is = wrong is

place-variable : {limit depth : ℕ} {at : Head} {words rest : List Word} {tree : Tree} (i : ℕ) → Place limit depth at words rest tree → is_variable_named i tree ≡ true → IsVariable i tree
place-variable i (Place.place {word = word} is IndexPart.bare) named = record { is = (refl, refl); name = variable-place i word.value named }
place-variable i (Place.place {word = word} is (IndexPart.indexed first deep one last)) named = absurd (no-index (nat_eq word.value i) named)

mutual
  ranked-variable : {limit rank depth : ℕ} {at : Head} {words rest : List Word} {tree : Tree} (i : ℕ) → Ranked limit rank depth at words rest tree → is_variable_named i tree ≡ true → IsVariable i tree
  ranked-variable i (Ranked.operand one) named = operand-variable i one named
  ranked-variable i (Ranked.above less one) named = ranked-variable i one named
  ranked-variable i (Ranked.joined operator left sign right) named = wrong named

  operand-variable : {limit depth : ℕ} {at : Head} {words rest : List Word} {tree : Tree} (i : ℕ) → Operand limit depth at words rest tree → is_variable_named i tree ≡ true → IsVariable i tree
  operand-variable i (Operand.signed operator sign deep one) named = wrong named
  operand-variable i (Operand.number is) named = wrong named
  operand-variable i (Operand.placed one) named = place-variable i one named
  operand-variable i (Operand.parenthesis first deep one last) named = wrong named
  operand-variable i (Operand.getter which is first last) named = wrong named

goes-way : (operator : BinaryOp) (way : Way) → goes way (node.Binary operator) ≡ true → way_of operator ≡ Some way
unfolding goes
goes-way binary.Less Way.up is = refl
goes-way binary.LessEqual Way.up is = refl
goes-way binary.Greater Way.down is = refl
goes-way binary.GreaterEqual Way.down is = refl
goes-way other Way.up is = absurd (cc)
goes-way other Way.down is = absurd (cc)

mutual
  unfolding goes

  ranked-compares : {limit rank depth : ℕ} {at : Head} {words rest : List Word} {tree : Tree} (i : ℕ) (way : Way) → Ranked limit rank depth at words rest tree → goes way (kind_of tree) ≡ true
      → is_variable_named i (child_at tree 0) ≡ true → stands_in i (child_at tree 1) ≡ false → Compares i way tree
  ranked-compares i way (Ranked.operand one) is named apart = operand-compares i way one is named apart
  ranked-compares i way (Ranked.above less one) is named apart = ranked-compares i way one is named apart
  ranked-compares i way (Ranked.joined operator left sign right) is named apart =
      Compares.compared operator _ _ (goes-way operator way is) (refl, refl) (ranked-variable i left named) apart

  operand-compares : {limit depth : ℕ} {at : Head} {words rest : List Word} {tree : Tree} (i : ℕ) (way : Way) → Operand limit depth at words rest tree → goes way (kind_of tree) ≡ true
      → is_variable_named i (child_at tree 0) ≡ true → stands_in i (child_at tree 1) ≡ false → Compares i way tree
  operand-compares i Way.up (Operand.signed operator sign deep one) is named apart = wrong is
  operand-compares i Way.down (Operand.signed operator sign deep one) is named apart = wrong is
  operand-compares i Way.up (Operand.number given) is named apart = wrong is
  operand-compares i Way.down (Operand.number given) is named apart = wrong is
  operand-compares i Way.up (Operand.placed (Place.place given index)) is named apart = wrong is
  operand-compares i Way.down (Operand.placed (Place.place given index)) is named apart = wrong is
  operand-compares i Way.up (Operand.parenthesis first deep one last) is named apart = wrong is
  operand-compares i Way.down (Operand.parenthesis first deep one last) is named apart = wrong is
  operand-compares i Way.up (Operand.getter which given first last) is named apart = wrong is
  operand-compares i Way.down (Operand.getter which given first last) is named apart = wrong is

-- a number
record IsStride (tree : Tree) : Type 0 where
  is : IsNode node.Number [] tree
  some : 1 ≤ number_of tree

mutual
  ranked-stride : {limit rank depth : ℕ} {at : Head} {words rest : List Word} {tree : Tree} → Ranked limit rank depth at words rest tree → is_stride tree ≡ true → IsStride tree
  ranked-stride (Ranked.operand one) is = operand-stride one is
  ranked-stride (Ranked.above less one) is = ranked-stride one is
  ranked-stride (Ranked.joined operator left sign right) is = wrong is

  operand-stride : {limit depth : ℕ} {at : Head} {words rest : List Word} {tree : Tree} → Operand limit depth at words rest tree → is_stride tree ≡ true → IsStride tree
  operand-stride (Operand.signed operator sign deep one) is = wrong is
  operand-stride (Operand.number {word = word} given) is = record { is = (refl, refl); some = leb-true 1 word.value is }
  operand-stride (Operand.placed (Place.place given index)) is = wrong is
  operand-stride (Operand.parenthesis first deep one last) is = wrong is
  operand-stride (Operand.getter which given first last) is = wrong is

step-steps : {limit depth : ℕ} {words rest : List Word} {tree : Tree} (i : ℕ) (way : Way) → StepOf limit depth words rest tree → is_variable_named i (child_at tree 0) ≡ true → steps-by way tree ≡ true → Steps i way tree
unfolding steps-by
step-steps i Way.up (StepOf.assigned setting.Add left sign right) named is = let stride = ranked-stride right is in Steps.moved _ _ (refl, refl) (place-variable i left named) stride.is stride.some
step-steps i Way.down (StepOf.assigned setting.Subtract left sign right) named is = let stride = ranked-stride right is in Steps.moved _ _ (refl, refl) (place-variable i left named) stride.is stride.some
step-steps i Way.up (StepOf.assigned other left sign right) named is = wrong is
step-steps i Way.down (StepOf.assigned other left sign right) named is = wrong is
step-steps i Way.up (StepOf.behind bump.Increment one sign) named is = Steps.bumped _ _ (refl, refl) (place-variable i one named)
step-steps i Way.down (StepOf.behind bump.Decrement one sign) named is = Steps.bumped _ _ (refl, refl) (place-variable i one named)
step-steps i Way.up (StepOf.behind other one sign) named is = wrong is
step-steps i Way.down (StepOf.behind other one sign) named is = wrong is
step-steps i Way.up (StepOf.before bump.Increment sign one) named is = Steps.bumped _ _ (refl, refl) (place-variable i one named)
step-steps i Way.down (StepOf.before bump.Decrement sign one) named is = Steps.bumped _ _ (refl, refl) (place-variable i one named)
step-steps i Way.up (StepOf.before other sign one) named is = wrong is
step-steps i Way.down (StepOf.before other sign one) named is = wrong is

-- the first part
if-variable : (so : Bool) (name i : ℕ) → (if so then Some name else None) ≡ Some i → (so ≡ true) × (name ≡ i)
if-variable true name i is = (refl, let both : Some name ≡ Some i = is in cc)
if-variable false name i is = absurd (let none : None ≡ Some i = is in cc)

place-begins : {limit depth : ℕ} {at : Head} {words rest : List Word} {tree : Tree} (i : ℕ) → Place limit depth at words rest tree → name_if_variable tree ≡ Some i → IsVariable i tree
place-begins i (Place.place {word = word} {children = children} is index) named =
    let both = if-variable (is_variable_named word.value (Node node.Place word.spot word.value 0 [] children)) word.value i named in
    place-variable i (Place.place {word = word} is index) (subst (λ (name : ℕ). is_variable_named name (Node node.Place word.spot word.value 0 [] children) ≡ true) both.1 both.0)

step-begins : {limit depth : ℕ} {words rest : List Word} {tree : Tree} (i : ℕ) → StepOf limit depth words rest tree → loop_assigned (kind_of tree) (child_at tree 0) ≡ Some i → is_start (kind_of tree) ≡ true
    → (may_have_name (kind_of tree) || not (stands_in i (child_at tree 1))) ≡ true → Begins i tree
step-begins i (StepOf.assigned setting.Plain left sign right) named is apart = Begins.assigns _ _ (refl, refl) (place-begins i left named) (false-not _ apart)
step-begins i (StepOf.assigned other left sign right) named is apart = wrong is
step-begins i (StepOf.behind which one sign) named is apart = wrong is
step-begins i (StepOf.before which sign one) named is apart = wrong is

-- the three parts together
either-of : (one other : Bool) → (one || other) ≡ true → (one ≡ true) ⊎ (other ≡ true)
either-of true other is = inl refl
either-of false other is = inr is

record IsTested (i : ℕ) (first second third : Tree) : Type 0 where
  start : is_start (kind_of first) ≡ true
  second_named : is_variable_named i (child_at second 0) ≡ true
  third_named : is_variable_named i (child_at third 0) ≡ true
  way : Way
  goes_so : goes way (kind_of second) ≡ true
  steps_so : steps-by way third ≡ true
  first_apart : (may_have_name (kind_of first) || not (stands_in i (child_at first 1))) ≡ true
  second_apart : not (stands_in i (child_at second 1)) ≡ true

tested : (i : ℕ) (loop : Tree) → has_form_with (Some i) loop ≡ true → IsTested i (child_at loop 0) (child_at loop 1) (child_at loop 2)
unfolding goes steps-by
tested i loop is =
    let both = and_parts (has_head i loop) (is_apart i loop) is in
    let head = and_parts (is_start (kind_of (child_at loop 0))) _ both.0 in
    let named = and_parts (is_variable_named i (child_at (child_at loop 1) 0) && is_variable_named i (child_at (child_at loop 2) 0)) _ head.1 in
    let each = and_parts (is_variable_named i (child_at (child_at loop 1) 0)) (is_variable_named i (child_at (child_at loop 2) 0)) named.0 in
    let apart = and_parts (may_have_name (kind_of (child_at loop 0)) || not (stands_in i (child_at (child_at loop 0) 1))) (not (stands_in i (child_at (child_at loop 1) 1))) both.1 in
    elim (either-of (goes_up (kind_of (child_at loop 1)) && is_step_up (child_at loop 2)) (goes_down (kind_of (child_at loop 1)) && is_step_down (child_at loop 2)) named.1) [
      | inl up ↦ let ways = and_parts (goes_up (kind_of (child_at loop 1))) (is_step_up (child_at loop 2)) up in record {
        start = head.0;
        second_named = each.0;
        third_named = each.1;
        way = Way.up;
        goes_so = ways.0;
        steps_so = ways.1;
        first_apart = apart.0;
        second_apart = apart.1;
      }
      | inr down ↦ let ways = and_parts (goes_down (kind_of (child_at loop 1))) (is_step_down (child_at loop 2)) down in record {
        start = head.0;
        second_named = each.0;
        third_named = each.1;
        way = Way.down;
        goes_so = ways.0;
        steps_so = ways.1;
        first_apart = apart.0;
        second_apart = apart.1;
      }
    ]

abbrev pub part_or : Option Tree → Tree
part_or part = unwrap_or part nothing

record IsThere (part : Option Tree) (P : Tree → Type 0) : Type 0 where
  tree : Tree
  same : part ≡ Some tree
  is : P tree

first-there : {limit depth : ℕ} {words rest : List Word} {part : Option Tree} (i : ℕ) → FirstPart limit depth words rest part → loop_assigned (kind_of (part_or part)) (child_at (part_or part) 0) ≡ Some i
    → is_start (kind_of (part_or part)) ≡ true → (may_have_name (kind_of (part_or part)) || not (stands_in i (child_at (part_or part) 1))) ≡ true → IsThere part (Begins i)
first-there i FirstPart.none named is apart = wrong is
first-there i (FirstPart.declared given also equals one) named is apart =
    record { tree = _; same = refl; is = Begins.declares _ _ (refl, refl) (let both = named in cc) }
first-there i (FirstPart.stepped one) named is apart = record { tree = _; same = refl; is = step-begins i one named is apart }

second-there : {limit depth : ℕ} {words rest : List Word} {part : Option Tree} (i : ℕ) (way : Way) → ConditionPart limit depth words rest part → goes way (kind_of (part_or part)) ≡ true
    → is_variable_named i (child_at (part_or part) 0) ≡ true → not (stands_in i (child_at (part_or part) 1)) ≡ true → IsThere part (Compares i way)
second-there i way ConditionPart.none is named apart = wrong named
second-there i way (ConditionPart.some one) is named apart = record { tree = _; same = refl; is = ranked-compares i way one is named (false-not _ apart) }

third-there : {limit depth : ℕ} {words rest : List Word} {part : Option Tree} (i : ℕ) (way : Way) → StepPart limit depth words rest part → is_variable_named i (child_at (part_or part) 0) ≡ true
    → steps-by way (part_or part) ≡ true → IsThere part (Steps i way)
third-there i way StepPart.none named is = wrong named
third-there i way (StepPart.some one) named is = record { tree = _; same = refl; is = step-steps i way one named is }

module _ (begins tests steps : Option Tree) (body : Tree) where
  abbrev pub loop_parts : Children
  loop_parts = maybe begins (maybe tests (maybe steps (Child body Over)))

  abbrev part_at : ℕ → Tree
  part_at place = unwrap_or (at_place loop_parts place) nothing

  pub first-part : part_at 0 ≡ part_or begins
  first-part = at_first begins
    where
      at_first : (begins : Option Tree) → unwrap_or (at_place (maybe begins (maybe tests (maybe steps (Child body Over)))) 0) nothing ≡ part_or begins
      at_first None = refl
      at_first (Some tree) = refl

  second-part : part_at 1 ≡ part_or tests
  second-part = at_second begins tests
    where
      at_second : (begins tests : Option Tree) → unwrap_or (at_place (maybe begins (maybe tests (maybe steps (Child body Over)))) 1) nothing ≡ part_or tests
      at_second None None = refl
      at_second None (Some tree) = refl
      at_second (Some first) None = refl
      at_second (Some first) (Some tree) = refl

  third-part : part_at 2 ≡ part_or steps
  third-part = at_third begins tests steps
    where
      at_third : (begins tests steps : Option Tree) → unwrap_or (at_place (maybe begins (maybe tests (maybe steps (Child body Over)))) 2) nothing ≡ part_or steps
      at_third None None None = refl
      at_third None None (Some tree) = refl
      at_third None (Some second) None = refl
      at_third None (Some second) (Some tree) = refl
      at_third (Some first) None None = refl
      at_third (Some first) None (Some tree) = refl
      at_third (Some first) (Some second) None = refl
      at_third (Some first) (Some second) (Some tree) = refl

  pub body-part : part_at 3 ≡ body
  body-part = at_body begins tests steps
    where
      at_body : (begins tests steps : Option Tree) → unwrap_or (at_place (maybe begins (maybe tests (maybe steps (Child body Over)))) 3) nothing ≡ body
      at_body None None None = refl
      at_body None None (Some tree) = refl
      at_body None (Some second) None = refl
      at_body None (Some second) (Some tree) = refl
      at_body (Some first) None None = refl
      at_body (Some first) None (Some tree) = refl
      at_body (Some first) (Some second) None = refl
      at_body (Some first) (Some second) (Some tree) = refl

  pub found-head : {limit depth : ℕ} {one two three four five six : List Word} → FirstPart limit depth one two begins → ConditionPart limit depth three four tests → StepPart limit depth five six steps
      → (loop : Tree) → kind_of loop ≡ node.For → children_of loop ≡ loop_parts → (i : ℕ) → loop_name loop ≡ Some i → has_form loop ≡ true → HasHead loop
  found-head first second third loop kind children i named is =
      let it = tested i loop (subst (λ (name : Option ℕ). has_form_with name loop ≡ true) named is) in
      let at0 : child_at loop 0 ≡ part_or begins = child-is loop loop_parts 0 children ∙ first-part in
      let at1 : child_at loop 1 ≡ part_or tests = child-is loop loop_parts 1 children ∙ second-part in
      let at2 : child_at loop 2 ≡ part_or steps = child-is loop loop_parts 2 children ∙ third-part in
      let name : loop_assigned (kind_of (child_at loop 0)) (child_at (child_at loop 0) 0) ≡ Some i = subst (λ (kind : NodeKind). loop_name_by kind (child_at loop 0) ≡ Some i) kind named in
      let one = first-there i first (subst (λ (tree : Tree). loop_assigned (kind_of tree) (child_at tree 0) ≡ Some i) at0 name) (subst (λ (tree : Tree). is_start (kind_of tree) ≡ true) at0 it.start)
      (subst (λ (tree : Tree). (may_have_name (kind_of tree) || not (stands_in i (child_at tree 1))) ≡ true) at0 it.first_apart) in
      let two = second-there i it.way second (subst (λ (tree : Tree). goes it.way (kind_of tree) ≡ true) at1 it.goes_so)
      (subst (λ (tree : Tree). is_variable_named i (child_at tree 0) ≡ true) at1 it.second_named) (subst (λ (tree : Tree). not (stands_in i (child_at tree 1)) ≡ true) at1 it.second_apart) in
      let three = third-there i it.way third (subst (λ (tree : Tree). is_variable_named i (child_at tree 0) ≡ true) at2 it.third_named)
      (subst (λ (tree : Tree). steps-by it.way tree ≡ true) at2 it.steps_so) in
      record {
        variable = i;
        way = it.way;
        first = one.tree;
        second = two.tree;
        third = three.tree;
        body = body;
        parts_are = (
          kind,
          children ∙ ap (λ (part : Option Tree). maybe part (maybe tests (maybe steps (Child body Over)))) one.same
              ∙ ap (λ (part : Option Tree). Child one.tree (maybe part (maybe steps (Child body Over)))) two.same ∙ ap (λ (part : Option Tree). Child one.tree (Child two.tree (maybe part (Child body Over)))) three.same,
        );
        begins = one.is;
        compares = two.is;
        steps = three.is;
      }
