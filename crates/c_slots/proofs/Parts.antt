-- What the parts of a statement stand in.
use Rattle.std.specs.Prelude.{ℕ, zero, suc, ◌≡◌, if◌then◌else◌, Bool, true, false, IsTrue, List, [], ◌∷◌, ◌++◌, map, Option, Some, None, slice_index_or}
use Rattle.std.specs.Prelude.{unwrap_or, refl, ℤ}
use Rattle.std.specs.List.{All, Contains}
use Rattle.std.proofs.Common.{arith, sym, append_assoc, append-nil, subst, inl, inr}
use Rattle.std.proofs.lemmas.List.Elements.{All-nil, Contains-append_left, Contains-append_right, Contains-append_cases, Contains-push_cases}
use Rattle.c_tokens.specs.declared.token.Spot.{Spot}
use Rattle.c_syntax.specs.declared.node.BinaryOp.{BinaryOp}
use Rattle.c_syntax.specs.declared.node.Directive.{Directive}
use Rattle.c_syntax.specs.declared.node.Directive.TheVariants as directive
use Rattle.c_syntax.specs.declared.node.NodeKind.{NodeKind}
use Rattle.c_syntax.specs.declared.node.NodeKind.TheVariants as node
use Rattle.c_syntax.specs.language.Tree.{at_place, child_of, Children, kind_of, name_of, nothing, spot_of, Tree}
use Rattle.c_syntax.specs.language.Tree.Tree.{Node}
use Rattle.c_syntax.specs.language.Tree.Children.{Over, Child, Absent}
use Rattle.c_syntax.specs.language.Numbered.{TreeView}
use Rattle.c_check.specs.declared.acts.act.Act.{Act}
use Rattle.c_check.specs.declared.acts.act.Act.TheVariants.{Close, Declare, Enter, Leave}
use Rattle.c_check.specs.declared.acts.act.Thing.TheVariants as thing
use Rattle.c_check.specs.declared.acts.role.Role.{Role}
use Rattle.c_check.specs.declared.acts.role.Role.TheVariants as role
use Rattle.c_check.specs.Acts.{acts, each, first_part, init, outside_acts, second_part, statements, third_part}
use Rattle.c_check.specs.Clauses.{inside_acts}
use Rattle.c_check.specs.Here.{after}
use Rattle.c_check.specs.LoopParts.{comparison_of, parts_if, parts_in, parts_with, statement_parts, step_of}
use Rattle.c_check.specs.Loops.{child_at, has_form, has_head, loop_name}
use Rattle.c_check.specs.Statements.{is_head, looped, name_of_critical, odd_loop, shares_loop, statement_of, statement_role}
use Rattle.c_check.specs.Checked.{end_of}
use Rattle.c_check.specs.Seen.{copies_of_task, slot_of_name, task_copies}
use Rattle.c_model.specs.Clauses.{construct_statement, section_statement, sections_of, statements_among}
use Rattle.c_model.specs.Formed.{AreFormed, AreInRow, HasChild, HasPart, IsFormed, IsOver, is_construct_part, is_first_part, is_quiet}
use Rattle.c_model.specs.Loops.{is_declared, loop_of, no_loop}
use Rattle.c_model.specs.Parts.{has_child, trees_in}
use Rattle.c_model.proofs.ScopeChecked.{if_quiet}
use Rattle.c_model.proofs.ScopeLoops.{one_quiet, two_quiet}
use Rattle.c_model.proofs.ScopeTrees.{IsPart}
use Rattle.c_slots.specs.OwnPlaces.{HasOwnPlaces}
use Rattle.c_slots.specs.Slotted.{HasLoopSlot, IsPlaced, StandsIn}
use Rattle.c_slots.proofs.Adding.{Adds, adds_both, adds_nothing, adds_silent, inside_quiet, looped_quiet, odd_quiet, outside_add, quiet_adds, IsSilent}
use Rattle.c_slots.proofs.Standing.{enter_covers, nothing_placed, part_left, placed, placed_wider, stands_declared, stands_first, stands_next, stands_open}
use Rattle.c_slots.proofs.TaskCopies.{copied_slots_covered}

pub never : {A : Type 0} → IsTrue false → A
never is = absurd (cc)

-- what the first part of a plain `for` brings into scope
abbrev pub slots_by_first : TreeView → NodeKind → Tree → List ℕ
slots_by_first program node.Init first = if has_child first 0 then slot_of_name program (child_at first 0) ∷ [] else []
slots_by_first program other first = []

abbrev pub first_slots : TreeView → Tree → List ℕ
first_slots program first = slots_by_first program (kind_of first) first

module _ (program : TreeView) where
  -- statements and expressions in a row
  pub each_placed : (slots : List ℕ) (children : Children) (place : ℕ) (around : Role) → AreInRow is_quiet children → AreFormed children
      → StandsIn program slots (each around children)
      → IsPlaced program slots (unwrap_or (at_place children place) nothing)
  unfolding each AreInRow AreFormed
  each_placed slots Over place around row formed stands = nothing_placed program slots
  each_placed slots (Absent Over) zero around row formed stands = nothing_placed program slots
  each_placed slots (Absent Over) (suc place) around row formed stands = nothing_placed program slots
  each_placed slots (Absent (Child tree rest)) place around row formed stands = absurd row
  each_placed slots (Absent (Absent rest)) place around row formed stands = absurd row
  each_placed slots (Child tree rest) zero around row formed stands =
      placed program slots around tree formed.0 (stands_first program slots (acts around tree) (each around rest) stands)
  each_placed slots (Child tree rest) (suc place) around row formed stands =
      each_placed slots rest place around row.1 formed.1
      (stands_next program slots (acts around tree) (each around rest) (quiet_adds tree row.0 formed.0 around) stands)

  pub if_placed : (slots : List ℕ) (spot : Spot) (name number : ℕ) (text : List ℕ) (children : Children) (place : ℕ)
      → IsPlaced program slots (Node node.If spot name number text children) → IsPlaced program slots (unwrap_or (at_place children place) nothing)
  unfolding acts IsFormed
  if_placed slots spot name number text children place is =
      each_placed slots children place role.Plain (if_quiet program children is.formed.0) is.formed.1 is.stands

  pub while_placed : (slots : List ℕ) (spot : Spot) (name number : ℕ) (text : List ℕ) (children : Children) (place : ℕ)
      → IsPlaced program slots (Node node.While spot name number text children) → IsPlaced program slots (unwrap_or (at_place children place) nothing)
  unfolding acts IsFormed
  while_placed slots spot name number text children place is =
      each_placed slots children place role.Plain (two_quiet children is.formed.0) is.formed.1 is.stands

  -- the body of a plain `for`
  last-placed : (slots : List ℕ) (mark : List Act) (rest : Children) → Adds true mark → HasChild is_quiet IsOver rest → AreFormed rest
      → StandsIn program slots (mark ++ each role.Plain rest) → IsPlaced program slots (unwrap_or (at_place rest 0) nothing)
  last-placed slots mark rest quiet form formed stands =
      each_placed slots rest 0 role.Plain (one_quiet rest form) formed (stands_next program slots mark (each role.Plain rest) quiet stands)

  third-placed : (slots : List ℕ) (mark : List Act) (children : Children) → Adds true mark → HasPart is_quiet (HasChild is_quiet IsOver) children
      → AreFormed children → StandsIn program slots (third_part mark children)
      → IsPlaced program slots (unwrap_or (at_place children 1) nothing)
  unfolding third_part AreFormed
  third-placed slots mark Over quiet form formed stands = absurd form
  third-placed slots mark (Absent rest) quiet form formed stands = last-placed slots mark rest quiet form formed stands
  third-placed slots mark (Child tree rest) quiet form formed stands =
      last-placed slots mark rest quiet form.1 formed.1
      (stands_next program slots (acts role.Plain tree) (mark ++ each role.Plain rest) (quiet_adds tree form.0 formed.0 role.Plain) stands)

  second-placed : (slots : List ℕ) (mark : List Act) (children : Children) → Adds true mark
      → HasPart is_quiet (HasPart is_quiet (HasChild is_quiet IsOver)) children → AreFormed children → StandsIn program slots (second_part mark children)
      → IsPlaced program slots (unwrap_or (at_place children 2) nothing)
  unfolding second_part AreFormed
  second-placed slots mark Over quiet form formed stands = absurd form
  second-placed slots mark (Absent rest) quiet form formed stands = third-placed slots mark rest quiet form formed stands
  second-placed slots mark (Child tree rest) quiet form formed stands =
      third-placed slots mark rest quiet form.1 formed.1
      (stands_next program slots (acts role.Plain tree) (third_part mark rest) (quiet_adds tree form.0 formed.0 role.Plain) stands)

  pub one_adds : (rest : Children) (around : Role) → HasChild is_quiet IsOver rest → AreFormed rest → Adds true (each around rest)
  unfolding each AreFormed
  one_adds (Child tree Over) around form formed = adds_both true (acts around tree) [] (quiet_adds tree form.0 formed.0 around) (adds_nothing true)
  one_adds (Child tree (Child other rest)) around form formed = absurd form.1
  one_adds (Child tree (Absent rest)) around form formed = absurd form.1
  one_adds Over around form formed = absurd form
  one_adds (Absent rest) around form formed = absurd form

  module _ (own : HasOwnPlaces program) where
    behind-first : (slots : List ℕ) (tree : Tree) (more : List Act) → IsTrue (is_first_part (kind_of tree)) → IsFormed tree
        → StandsIn program slots (acts role.Plain tree ++ more) → StandsIn program (slots ++ first_slots program tree) more
    unfolding acts init IsFormed AreFormed
    behind-first slots (Node node.Init spot name number text (Child named rest)) more is formed stands =
        let whole =
        subst (λ (acts : List Act). StandsIn program slots acts)
        (append_assoc (each role.Plain rest) (Declare (name_of named) (spot_of named) thing.Int ∷ []) more) stands
        in
        stands_declared program own slots (name_of named) (spot_of named) thing.Int more
        (stands_next program slots (each role.Plain rest) (Declare (name_of named) (spot_of named) thing.Int ∷ more)
        (one_adds rest role.Plain formed.0.1 formed.1.1) whole)
    behind-first slots (Node node.Init spot name number text Over) more is formed stands = absurd formed.0
    behind-first slots (Node node.Init spot name number text (Absent rest)) more is formed stands = absurd formed.0
    behind-first slots (Node kind spot name number text children) more is formed stands =
        let tree = Node kind spot name number text children in
        subst (λ (slots : List ℕ). StandsIn program slots more) (sym (append-nil slots))
        (stands_next program slots (acts role.Plain tree) more (quiet_adds tree is formed role.Plain) stands)

    first-placed : (slots : List ℕ) (mark : List Act) (children : Children) → Adds true mark
        → HasPart is_first_part (HasPart is_quiet (HasPart is_quiet (HasChild is_quiet IsOver))) children → AreFormed children
        → StandsIn program slots (first_part mark children)
        → IsPlaced program (slots ++ first_slots program (unwrap_or (at_place children 0) nothing)) (unwrap_or (at_place children 3) nothing)
    unfolding first_part AreFormed
    first-placed slots mark Over quiet form formed stands = absurd form
    first-placed slots mark (Absent rest) quiet form formed stands =
        placed_wider program slots (slots ++ []) _ (part_left slots []) (second-placed slots mark rest quiet form formed stands)
    first-placed slots mark (Child tree rest) quiet form formed stands =
        second-placed (slots ++ first_slots program tree) mark rest quiet form.1 formed.1
        (behind-first slots tree (second_part mark rest) form.0 formed.0 stands)

    pub for_placed : (slots : List ℕ) (spot : Spot) (name number : ℕ) (text : List ℕ) (children : Children)
        → IsPlaced program slots (Node node.For spot name number text children)
        → IsPlaced program (slots ++ first_slots program (unwrap_or (at_place children 0) nothing)) (unwrap_or (at_place children 3) nothing)
    unfolding acts IsFormed
    for_placed slots spot name number text children is =
        first-placed slots (looped is.around) children (looped_quiet true is.around) is.formed.0 is.formed.1
        (stands_first program slots (first_part (looped is.around) children) (Close ∷ [])
        (stands_open program slots (first_part (looped is.around) children ++ Close ∷ []) is.stands))

  -- constructs
  module _ (slots : List ℕ) (which : Directive) (spot : Spot) (name number : ℕ) (text : List ℕ) (children : Children)
      (is : IsPlaced program slots (Node (node.Construct which) spot name number text children)) where
    abbrev entering : Act
    entering = Enter spot which (name_of_critical children)

    abbrev inner : List Act
    inner = statements (statement_role which children) children

    in-front : StandsIn program slots ((((outside_acts children ++ entering ∷ inside_acts children) ++ odd_loop which children) ++ inner) ++ Leave ∷ [])
    unfolding acts
    in-front = is.stands

    formed-children : AreInRow is_construct_part children × AreFormed children
    unfolding IsFormed
    formed-children = is.formed

    entered-quiet : Adds true (entering ∷ [])
    unfolding after IsSilent
    entered-quiet = adds_silent true entering (λ here. refl)

    stands-inside : StandsIn program slots inner
    stands-inside =
        stands_next program slots ((outside_acts children ++ entering ∷ inside_acts children) ++ odd_loop which children) inner
        (adds_both true (outside_acts children ++ entering ∷ inside_acts children) (odd_loop which children)
        (adds_both true (outside_acts children) (entering ∷ inside_acts children) (outside_add children formed-children.1)
        (adds_both true (entering ∷ []) (inside_acts children) entered-quiet (inside_quiet true children)))
        (odd_quiet true (shares_loop which) (has_form (statement_of children))))
        (stands_first program slots (((outside_acts children ++ entering ∷ inside_acts children) ++ odd_loop which children) ++ inner) (Leave ∷ []) in-front)

    stands-entering : StandsIn program slots (entering ∷ inside_acts children)
    stands-entering =
        stands_next program slots (outside_acts children) (entering ∷ inside_acts children) (outside_add children formed-children.1)
        (stands_first program slots (outside_acts children ++ entering ∷ inside_acts children) (odd_loop which children)
        (stands_first program slots ((outside_acts children ++ entering ∷ inside_acts children) ++ odd_loop which children) inner
        (stands_first program slots (((outside_acts children ++ entering ∷ inside_acts children) ++ odd_loop which children) ++ inner)
        (Leave ∷ []) in-front)))

    -- what a construct executes
    among-placed : (around : Role) (children : Children) → AreFormed children → StandsIn program slots (statements around children)
        → IsPlaced program slots (statement_of children)
    unfolding statements statement_of AreFormed
    among-placed around Over formed stands = nothing_placed program slots
    among-placed around (Absent rest) formed stands = nothing_placed program slots
    among-placed around (Child tree rest) formed stands = chosen (is_head (kind_of tree)) stands (λ stands. among-placed around rest formed.1 stands)
      where
        chosen : (head : Bool) → StandsIn program slots ((if head then [] else acts around tree) ++ statements around rest)
            → (StandsIn program slots (statements around rest) → IsPlaced program slots (statement_of rest))
            → IsPlaced program slots (if head then statement_of rest else tree)
        chosen true stands later = later stands
        chosen false stands later = placed program slots around tree formed.0 (stands_first program slots (acts around tree) (statements around rest) stands)

    pub statement_placed : IsPlaced program slots (construct_statement (Node (node.Construct which) spot name number text children))
    statement_placed = among-placed (statement_role which children) children formed-children.1 stands-inside

    section-placed : (around : Role) (tree : Tree) → IsFormed tree → StandsIn program slots (acts around tree)
        → IsPlaced program slots (section_statement (kind_of tree) tree)
    unfolding acts IsFormed
    section-placed around (Node node.Section spot name number text children) formed stands =
        each_placed slots children 0 role.Plain (one_quiet children formed.0) formed.1 stands
    section-placed around (Node other spot name number text children) formed stands =
        placed program slots around (Node other spot name number text children) formed stands

    code-quiet : (kind : NodeKind) → IsTrue (is_construct_part kind) → is_head kind ≡ false → IsTrue (is_quiet kind)
    code-quiet (node.Clause lead) is apart = absurd (cc)
    code-quiet other is apart = is

    abbrev section_at : List Tree → ℕ → Tree
    section_at trees place = slice_index_or (map (λ (tree : Tree). section_statement (kind_of tree) tree) trees) place nothing

    sections-among : (around : Role) (children : Children) → AreInRow is_construct_part children → AreFormed children
        → StandsIn program slots (statements around children) → (place : ℕ) → IsPlaced program slots (section_at (statements_among (trees_in children)) place)
    unfolding statements statements_among trees_in AreInRow AreFormed
    sections-among around Over row formed stands place = nothing_placed program slots
    sections-among around (Absent rest) row formed stands place = nothing_placed program slots
    sections-among around (Child tree rest) row formed stands place =
        chosen (is_head (kind_of tree)) refl stands place (λ stands place. sections-among around rest row.1 formed.1 stands place)
      where
        chosen : (head : Bool) → is_head (kind_of tree) ≡ head → StandsIn program slots ((if head then [] else acts around tree) ++ statements around rest)
            → (place : ℕ)
            → (StandsIn program slots (statements around rest) → (place : ℕ) → IsPlaced program slots (section_at (statements_among (trees_in rest)) place))
            → IsPlaced program slots (section_at (if head then statements_among (trees_in rest) else tree ∷ statements_among (trees_in rest)) place)
        chosen true is stands place later = later stands place
        chosen false is stands zero later =
            section-placed around tree formed.0 (stands_first program slots (acts around tree) (statements around rest) stands)
        chosen false is stands (suc place) later =
            later (stands_next program slots (acts around tree) (statements around rest)
            (quiet_adds tree (code-quiet (kind_of tree) row.0 is) formed.0 around) stands) place

    pub sections_placed : (section : ℕ)
        → IsPlaced program slots (slice_index_or (sections_of (Node (node.Construct which) spot name number text children)) section nothing)
    sections_placed section = sections-among (statement_role which children) children formed-children.0 formed-children.1 stands-inside section

    -- the body of the loop that it shares out
    module _ (own_places : HasOwnPlaces program) (own : List ℕ) where
      abbrev IsKnownSlot : Tree → Type 0
      IsKnownSlot variable = IsTrue (is_declared (kind_of variable)) → Contains own (slot_of_name program variable)

      first-part : (first variable : Tree) → IsFormed first → child_of first 0 ≡ Some variable → IsKnownSlot variable → IsPart (first_slots program first) own
      unfolding IsFormed
      first-part (Node node.Init spot name number text (Child named rest)) variable formed is known = λ slot there.
          let same : named ≡ variable = cc in
          let here : Contains own (slot_of_name program named) = subst (λ (it : Tree). IsKnownSlot it) (sym same) known formed.0.0 in
          subst (λ (slot : ℕ). Contains own slot) (one-of (slot_of_name program named) slot there) here
        where
          one-of : (one slot : ℕ) → Contains (one ∷ []) slot → one ≡ slot
          one-of one slot there = elim (Contains-push_cases [] one slot there) [ inl none ↦ absurd (omega (arith, none.1)) | inr same ↦ same ]
      first-part (Node node.Init spot name number text Over) variable formed is known = absurd formed.0
      first-part (Node node.Init spot name number text (Absent rest)) variable formed is known = absurd formed.0
      first-part (Node kind spot name number text children) variable formed is known = λ slot there. absurd (omega (arith, there.1))

      formed-at : (children : Children) → AreFormed children → IsFormed (unwrap_or (at_place children 0) nothing)
      unfolding AreFormed IsFormed AreInRow
      formed-at Over formed = (tt, tt)
      formed-at (Child tree rest) formed = formed.0
      formed-at (Absent rest) formed = (tt, tt)

      both-parts : (some : List ℕ) → IsPart some own → IsPart (slots ++ some) (slots ++ own)
      both-parts some part slot there =
          elim (Contains-append_cases slots some slot there) [
            | inl front ↦ Contains-append_left slots own slot front
            | inr back ↦ Contains-append_right slots own slot (part slot back)
          ]

      body-with : (variable start end body : Option Tree) (comparison : Option BinaryOp) (step : Option ℤ)
          → ((it : Tree) → variable ≡ Some it → IsKnownSlot it → IsPlaced program (slots ++ own) (unwrap_or body nothing))
          → IsKnownSlot (unwrap_or (parts_with variable start end body comparison step) no_loop).variable
          → IsPlaced program (slots ++ own) (unwrap_or (parts_with variable start end body comparison step) no_loop).body
      body-with (Some variable) (Some start) (Some end) (Some body) (Some comparison) (Some step) each known = each variable refl known
      body-with variable start end body comparison step each known = nothing_placed program (slots ++ own)

      body-if : (has : Bool) (statement : Tree)
          → ((it : Tree) → child_of (child_at statement 0) 0 ≡ Some it → IsKnownSlot it → IsPlaced program (slots ++ own) (child_at statement 3))
          → IsKnownSlot (unwrap_or (if has then parts_in statement else None) no_loop).variable
          → IsPlaced program (slots ++ own) (unwrap_or (if has then parts_in statement else None) no_loop).body
      body-if false statement each known = nothing_placed program (slots ++ own)
      body-if true statement each known =
          body-with (child_of (child_at statement 0) 0) (child_of (child_at statement 0) 1) (child_of (child_at statement 1) 1) (child_of statement 3)
          (comparison_of (kind_of (child_at statement 1))) (step_of (child_at statement 2)) each known

      body-named : (name : Option ℕ) (statement : Tree)
          → ((it : Tree) → child_of (child_at statement 0) 0 ≡ Some it → IsKnownSlot it → IsPlaced program (slots ++ own) (child_at statement 3))
          → IsKnownSlot (unwrap_or (parts_if name statement) no_loop).variable
          → IsPlaced program (slots ++ own) (unwrap_or (parts_if name statement) no_loop).body
      body-named None statement each known = nothing_placed program (slots ++ own)
      body-named (Some name) statement each known = body-if (has_head name statement) statement each known

      body-of : (statement : Tree) → IsPlaced program slots statement → IsKnownSlot (unwrap_or (statement_parts statement) no_loop).variable
          → IsPlaced program (slots ++ own) (unwrap_or (statement_parts statement) no_loop).body
      unfolding IsFormed
      body-of (Node node.For spot name number text children) is known =
          let statement = Node node.For spot name number text children in
          let body = for_placed own_places slots spot name number text children is in
          let first = unwrap_or (at_place children 0) nothing in
          body-named (loop_name statement) statement
          (λ it found known. placed_wider program (slots ++ first_slots program first) (slots ++ own) _
          (both-parts (first_slots program first) (first-part first it (formed-at children is.formed.1) found known)) body) known
      body-of (Node other spot name number text children) is known = nothing_placed program (slots ++ own)

      body-shared : (shares : Bool) (statement : Tree) → IsPlaced program slots statement
          → (IsTrue shares → IsKnownSlot (unwrap_or (if shares then statement_parts statement else None) no_loop).variable)
          → IsPlaced program (slots ++ own) (unwrap_or (if shares then statement_parts statement else None) no_loop).body
      body-shared false statement is known = nothing_placed program (slots ++ own)
      body-shared true statement is known = body-of statement is (known refl)

      pub body_placed : HasLoopSlot program own (Node (node.Construct which) spot name number text children)
          → IsPlaced program (slots ++ own) (loop_of (Node (node.Construct which) spot name number text children)).body
      body_placed known = body-shared (shares_loop which) (statement_of children) statement_placed known

    -- the copies of a task are in scope
    pub entering_covers : HasOwnPlaces program → All (λ (slot : ℕ). Contains slots slot) (copies_of_task (end_of program).copies spot)
    entering_covers own_places =
        copied_slots_covered slots (end_of program).copies spot
        (enter_covers program own_places slots spot which (name_of_critical children) (inside_acts children) stands-entering)

  pub copies_placed : HasOwnPlaces program → (slots : List ℕ) (construct : Tree) → IsPlaced program slots construct
      → All (λ (slot : ℕ). Contains slots slot) (task_copies program construct)
  copies_placed own_places slots (Node (node.Construct directive.Task) spot name number text children) is =
      entering_covers slots directive.Task spot name number text children is own_places
  copies_placed own_places slots (Node kind spot name number text children) is = All-nil (λ (slot : ℕ). Contains slots slot)
