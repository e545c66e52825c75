-- Where acts stand in a program: parts of what stands there stand there too, with what is in scope before them.
use Rattle.std.specs.Prelude.{ℕ, ◌≡◌, true, IsTrue, List, [], ◌∷◌, ◌++◌, length, Option, unwrap_or, refl}
use Rattle.std.specs.List.{All, Contains}
use Rattle.std.proofs.Common.{ap, sym, ◌∙◌, append_assoc, subst}
use Rattle.std.proofs.lemmas.List.Elements.{All-cons, All-nil, All-weaker, Contains-append_left, Contains-push}
use Rattle.c_tokens.specs.declared.token.Spot.{Spot}
use Rattle.c_syntax.specs.declared.node.Directive.{Directive}
use Rattle.c_syntax.specs.declared.node.NodeKind.TheVariants as node
use Rattle.c_syntax.specs.language.Tree.{nothing, Tree}
use Rattle.c_syntax.specs.language.Tree.Tree.{Node}
use Rattle.c_syntax.specs.language.Numbered.{TreeView}
use Rattle.c_check.specs.declared.acts.act.Act.{Act}
use Rattle.c_check.specs.declared.acts.act.Act.TheVariants.{Open, Close, Declare, Enter}
use Rattle.c_check.specs.declared.acts.act.Thing.{Thing}
use Rattle.c_check.specs.declared.acts.role.Role.{Role}
use Rattle.c_check.specs.declared.acts.role.Role.TheVariants as role
use Rattle.c_check.specs.declared.scopes.declared.Declared.{Declared}
use Rattle.c_check.specs.Acts.{acts, each}
use Rattle.c_check.specs.Checked.{acts_of, after_all, end_of, here_after}
use Rattle.c_check.specs.Declarations.{next_of}
use Rattle.c_check.specs.Here.{Here, after, before_all, is_variable}
use Rattle.c_check.specs.Seen.{slot_at}
use Rattle.c_model.specs.Formed.{AreFormed, AreInRow, IsFormed}
use Rattle.c_model.proofs.ScopeActs.{after_both}
use Rattle.c_model.proofs.ScopeTrees.{IsPart}
use Rattle.c_slots.specs.OwnPlaces.{HasOwnPlaces}
use Rattle.c_slots.specs.Slotted.{Cover, IsPlaced, StandsIn, told_by}
use Rattle.c_slots.proofs.ActPlaces.{declared_slot, is_below}
use Rattle.c_slots.proofs.Adding.{Adds}
use Rattle.c_slots.proofs.TaskCopies.{IsCopyOf, copies_are_covered}

pub cover_wider : (some more : List ℕ) (visible : List Declared) → IsPart some more → Cover some visible → Cover more visible
cover_wider some more visible part covered =
    All-weaker (λ (it : Declared). IsTrue (is_variable it.thing) → Contains some it.slot)
    (λ (it : Declared). IsTrue (is_variable it.thing) → Contains more it.slot) (λ it has variable. part it.slot (has variable)) visible covered

pub part_left : (some more : List ℕ) → IsPart some (some ++ more)
part_left some more slot there = Contains-append_left some more slot there

module _ (program : TreeView) where
  pub here_both : (before some : List Act) → here_after program (before ++ some) ≡ after_all (here_after program before) some
  here_both before some = after_both (before_all program.main) before some

  pub stands_wider : (some more : List ℕ) (told : List Act) → IsPart some more → StandsIn program some told → StandsIn program more told
  stands_wider some more told part stands =
      record { before = stands.before; behind = stands.behind; acts_are = stands.acts_are; covered = cover_wider some more _ part stands.covered }

  pub stands_first : (slots : List ℕ) (some more : List Act) → StandsIn program slots (some ++ more) → StandsIn program slots some
  stands_first slots some more stands =
      record {
        before = stands.before;
        behind = more ++ stands.behind;
        acts_are = stands.acts_are ∙ ap (λ (acts : List Act). stands.before ++ acts) (append_assoc some more stands.behind);
        covered = stands.covered;
      }

  -- what stands behind some acts, where these lead to other slots
  pub stands_behind : (slots later : List ℕ) (some more : List Act)
      → ((before behind : List Act) → acts_of program ≡ before ++ (some ++ behind) → Cover slots (here_after program before).names.visible
      → Cover later (after_all (here_after program before) some).names.visible)
      → StandsIn program slots (some ++ more) → StandsIn program later more
  stands_behind slots later some more leads stands =
      let are = stands.acts_are ∙ ap (λ (acts : List Act). stands.before ++ acts) (append_assoc some more stands.behind) in
      record {
        before = stands.before ++ some;
        behind = stands.behind;
        acts_are = are ∙ sym (append_assoc stands.before some (more ++ stands.behind));
        covered = subst (λ (here : Here). Cover later here.names.visible) (sym (here_both stands.before some))
            (leads stands.before (more ++ stands.behind) are stands.covered);
      }

  same-visible : (slots : List ℕ) (added visible new : List Declared) → added ≡ [] → new ≡ added ++ visible → Cover slots visible → Cover slots new
  same-visible slots added visible new none is covered =
      subst (λ (visible : List Declared). Cover slots visible) (sym (is ∙ ap (λ (added : List Declared). added ++ visible) none)) covered

  -- behind quiet acts the same is in scope
  pub stands_next : (slots : List ℕ) (some more : List Act) → Adds true some → StandsIn program slots (some ++ more) → StandsIn program slots more
  stands_next slots some more adds stands =
      stands_behind slots slots some more
      (λ before behind are covered.
      let added = adds.adds (here_after program before) (is_below program before) in
      same-visible slots added.added (here_after program before).names.visible (after_all (here_after program before) some).names.visible
      (added.none refl) added.visible covered)
      stands

  -- a scope begins
  pub stands_open : (slots : List ℕ) (more : List Act) → StandsIn program slots (Open ∷ more) → StandsIn program slots more
  unfolding after_all after
  stands_open slots more stands = stands_behind slots slots (Open ∷ []) more (λ before behind are covered. covered) stands

  -- a declaration
  pub stands_declared : HasOwnPlaces program → (slots : List ℕ) (name : ℕ) (spot : Spot) (what : Thing) (more : List Act)
      → StandsIn program slots (Declare name spot what ∷ more)
      → StandsIn program (slots ++ unwrap_or (slot_at program spot) 0 ∷ []) more
  unfolding after_all after
  stands_declared own slots name spot what more stands =
      let slot : ℕ = unwrap_or (slot_at program spot) 0 in
      stands_behind slots (slots ++ slot ∷ []) (Declare name spot what ∷ []) more
      (λ before behind are covered.
      let here = here_after program before in
      let is : slot ≡ length here.names.all = ap (λ (found : Option ℕ). unwrap_or found 0) (declared_slot program own before behind name spot what are) in
      All-cons (λ (it : Declared). IsTrue (is_variable it.thing) → Contains (slots ++ slot ∷ []) it.slot) (next_of here.names name what) here.names.visible
      (λ variable. subst (λ (other : ℕ). Contains (slots ++ slot ∷ []) other) is (Contains-push slots slot))
      (cover_wider slots (slots ++ slot ∷ []) here.names.visible (part_left slots (slot ∷ [])) covered))
      stands

  -- a task begins
  pub enter_covers : HasOwnPlaces program → (slots : List ℕ) (spot : Spot) (which : Directive) (critical : ℕ) (more : List Act)
      → StandsIn program slots (Enter spot which critical ∷ more)
      → All (IsCopyOf spot slots) (end_of program).copies
  enter_covers own slots spot which critical more stands =
      copies_are_covered program own slots stands.before (more ++ stands.behind) spot which critical stands.acts_are stands.covered

  -- statements
  pub stands_told : (slots : List ℕ) (around : Role) (tree : Tree) → StandsIn program slots (acts around tree) → StandsIn program slots (told_by around tree)
  unfolding acts
  stands_told slots around (Node node.Block spot name number text children) stands =
      stands_first slots (each role.Plain children) (Close ∷ []) (stands_open slots (each role.Plain children ++ Close ∷ []) stands)
  stands_told slots around (Node other spot name number text children) stands = stands

  pub placed : (slots : List ℕ) (around : Role) (tree : Tree) → IsFormed tree → StandsIn program slots (acts around tree) → IsPlaced program slots tree
  placed slots around tree formed stands = record { around = around; formed = formed; stands = stands_told slots around tree stands }

  pub placed_wider : (some more : List ℕ) (tree : Tree) → IsPart some more → IsPlaced program some tree → IsPlaced program more tree
  placed_wider some more tree part is = record { around = is.around; formed = is.formed; stands = stands_wider some more _ part is.stands }

  -- nothing stands anywhere
  pub nothing_placed : (slots : List ℕ) → IsPlaced program slots nothing
  unfolding acts each IsFormed AreFormed AreInRow after_all
  nothing_placed slots =
      record {
        around = role.Plain;
        formed = (tt, tt);
        stands = record {
          before = [];
          behind = acts_of program;
          acts_are = refl;
          covered = All-nil
              (λ (it : Declared). IsTrue (is_variable it.thing) → Contains slots it.slot);
        };
      }
