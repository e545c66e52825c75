-- A program breaks the rule on names that are listed where its tree does.
use Rattle.std.specs.Prelude.{ℕ, ◌≡◌, Bool, true, false, List, [], ◌∷◌, ◌++◌, None, refl}
use Rattle.std.proofs.Common.{sym, subst, ◌∙◌, inl, inr, arith, true≢false, append-nil}
use Rattle.std.proofs.lemmas.List.Sums.{sum_by-append}
use Rattle.c_tokens.specs.declared.token.Spot.{Spot}
use Rattle.c_syntax.specs.language.Numbered.{TreeView, root_tree}
use Rattle.c_syntax.specs.language.Texts.{Spells}
use Rattle.c_syntax.specs.language.Tree.{Tree, children_of}
use Rattle.c_check.specs.declared.acts.act.Act.{Act}
use Rattle.c_check.specs.declared.acts.act.Act.TheVariants.{Finish}
use Rattle.c_check.specs.declared.acts.role.Role.TheVariants as role
use Rattle.c_check.specs.Acts.{acts}
use Rattle.c_check.specs.Checked.{IsBroken, after_all}
use Rattle.c_check.specs.Here.{Here, before_all}
use Rattle.c_check.specs.Rules.{is_loop_inside, unlisted_uses}
use Rattle.check_laws.specs.Scopes.{Declaration, Position, meaning, positions}
use Rattle.check_laws.specs.ListedNames.{BreaksListing, Lists, SharesLoopOf, is_listable, positions_inside, used, with_inside}
use Rattle.c_slots.specs.OwnPlaces.{HasOwnPlaces, placed_at}
use Rattle.c_slots.proofs.ProductionPlaces.{texts_have_own_places}
use Rattle.check_laws.proofs.Broken.{BreaksIn, breaks-broken, breaks-either, breaks-right, broken-breaks}
use Rattle.check_laws.proofs.Entries.{HavePlaces, OwnEntry, entries}
use Rattle.check_laws.proofs.Files.{IsTold, first-ready, program-told}
use Rattle.check_laws.proofs.Has.{Has, has-one, one-has}
use Rattle.check_laws.proofs.ListLoops.{does-list}
use Rattle.check_laws.proofs.ListRule.{BrokenAt, Listing, Outcome, use_entry}
use Rattle.check_laws.proofs.Means.{not-among}
use Rattle.check_laws.proofs.Naming.{IsNamed, IsUsedAt, Purpose}
use Rattle.check_laws.proofs.Standing.{IsReady}
use Rattle.check_laws.proofs.Unfinished.{does-unfinished, none-before}
use Rattle.check_laws.proofs.Unlisted.{IsTold as IsUnlisted, inside-loop, kept-loops, kept-unlisted, listed-told, loop-inside, loops-kept, told-listed, unlisted-kept}

so-or-not : (so : Bool) → (so ≡ true → ⊥) → so ≡ false
so-or-not true never = absurd (never refl)
so-or-not false never = refl

-- a position of the tree that breaks it
position-breaks : (tree : Tree) (spot : Spot) → Has (BrokenAt [] spot) (positions tree) → BreaksListing tree spot
position-breaks tree spot broken =
    let at = has-one (BrokenAt [] spot) (positions tree) broken in
    let inside = has-one (IsNamed (Purpose.using spot) at.is.name) (positions_inside (children_of at.one.node)) at.is.uses in
    let one = has-one (IsUsedAt at.is.name spot) (used inside.one.node) inside.is.named in
    let named : one.one.name ≡ at.is.name = one.is.0 in
    record {
      construct = at.one;
      there = at.contains;
      default_none = at.is.default_none;
      inside = inside.one;
      within = inside.contains;
      one = one.one;
      uses = one.contains;
      at = one.is.1;
      outside = subst (λ (name : ℕ). meaning inside.one.scope name ≡ None) (sym named) inside.is.hidden;
      variable = subst (λ (scope : List Declaration). is_listable (meaning scope one.one.name) ≡ true) (append-nil at.one.scope)
          (subst (λ (name : ℕ). is_listable (meaning (at.one.scope ++ []) name) ≡ true) (sym named) at.is.variable);
      not_listed = λ lists. at.is.not_listed (subst (λ (name : ℕ). Lists name at.one.node) named lists);
      no_loop = λ position contains shares.
          at.is.no_loop (one-has (IsNamed Purpose.looping at.is.name) (with_inside at.one.node) position contains (is-named at.is.name position (subst (λ (name : ℕ). SharesLoopOf name position) named shares)));
    }
  where
    is-named : (name : ℕ) (position : Position) → SharesLoopOf name position → IsNamed Purpose.looping name position
    is-named name position it = record { named = record { shares = it.shares; variable = it.variable; undeclared = it.undeclared }; hidden = it.outside }

breaks-position : (tree : Tree) (spot : Spot) → BreaksListing tree spot → Has (BrokenAt [] spot) (positions tree)
breaks-position tree spot it =
    one-has (BrokenAt [] spot) (positions tree) it.construct it.there
    (record {
      default_none = it.default_none;
      name = it.one.name;
      uses = one-has (IsNamed (Purpose.using spot) it.one.name) (positions_inside (children_of it.construct.node)) it.inside it.within
          (record { named = one-has (IsUsedAt it.one.name spot) (used it.inside.node) it.one it.uses (refl, it.at); hidden = it.outside });
      variable = subst (λ (scope : List Declaration). is_listable (meaning scope it.one.name) ≡ true) (sym (append-nil it.construct.scope)) it.variable;
      not_listed = it.not_listed;
      no_loop = λ loops.
          let one = has-one (IsNamed Purpose.looping it.one.name) (with_inside it.construct.node) loops in
          it.no_loop one.one one.contains
          (record { shares = one.is.named.shares; variable = one.is.named.variable; undeclared = one.is.named.undeclared; outside = one.is.hidden });
    })

module _ (program : TreeView) (spot : Spot) (told : IsTold (root_tree program)) where
  abbrev first : Here
  first = before_all program.main

  abbrev tree_acts : List Act
  tree_acts = acts role.Plain (root_tree program)

  abbrev ends : List Act
  ends = Finish program.end ∷ []

  abbrev last : Here
  last = after_all first tree_acts

  listing : Listing (IsReady true) tree_acts (positions (root_tree program))
  listing = does-list told.does

  -- what is kept at the end is broken in the tree
  kept-broken : (slot : ℕ) (at : Spot) → is_loop_inside last.constructs.loops slot at ≡ false → Outcome first tree_acts (positions (root_tree program)) spot slot at → Has (BrokenAt [] spot) (positions (root_tree program))
  kept-broken slot at outside (inl around) = absurd around.taken
  kept-broken slot at outside (inr (inl loop)) = absurd (true≢false (sym (loop-inside last.constructs.loops slot at (kept-loops first tree_acts slot at loop)) ∙ outside))
  kept-broken slot at outside (inr (inr broken)) = broken

  told-broken : IsUnlisted last.constructs.loops last.constructs.unlisted spot → Has (BrokenAt [] spot) (positions (root_tree program))
  told-broken it =
      elim (unlisted-kept first tree_acts it.one it.among) [
        | inl before ↦ absurd (not-among it.one before)
        | inr breaks ↦ kept-broken it.one.slot it.one.construct it.no_loop
            (listing.tells first (first-ready program.main) spot it.one.slot it.one.construct
            (subst (λ (spot : Spot). BreaksIn entries first tree_acts (use_entry spot it.one.slot it.one.construct)) it.at breaks))
      ]

  rule-broken : IsBroken unlisted_uses program spot → Has (BrokenAt [] spot) (positions (root_tree program))
  rule-broken broken =
      elim (breaks-either unlisted_uses spot first tree_acts ends (broken-breaks unlisted_uses program spot broken)) [
        | inl within ↦ absurd (none-before first tree_acts (does-unfinished told.does) spot within)
        | inr (inl finish) ↦ told-broken (listed-told last.constructs.loops last.constructs.unlisted spot finish)
        | inr (inr never) ↦ absurd never
      ]

  -- and what is broken in the tree is kept
  module _ (own : HasOwnPlaces program) where
    places : HavePlaces first tree_acts
    places place = omega (arith, own place, sum_by-append (placed_at place) tree_acts ends)

    never-inside : (it : OwnEntry first tree_acts spot) → is_loop_inside last.constructs.loops it.slot it.at ≡ true → ⊥
    never-inside it inside =
        elim (loops-kept first tree_acts (record { slot = it.slot; construct = it.at }) (inside-loop last.constructs.loops it.slot it.at inside)) [
          | inl before ↦ not-among (record { slot = it.slot; construct = it.at }) before
          | inr loop ↦ it.none loop
        ]

    broken-rule : Has (BrokenAt [] spot) (positions (root_tree program)) → IsBroken unlisted_uses program spot
    broken-rule broken =
        let it = listing.breaks first (first-ready program.main) places spot broken in
        let outside = so-or-not (is_loop_inside last.constructs.loops it.slot it.at) (never-inside it) in
        breaks-broken unlisted_uses program spot
        (breaks-right unlisted_uses spot first tree_acts ends
        (inl (told-listed last.constructs.loops last.constructs.unlisted (record { spot = spot; slot = it.slot; construct = it.at }) (kept-unlisted first tree_acts spot it.slot it.at it.entry) outside)))

pub broken-is-unlisted : (text : List ℕ) (program : TreeView) (spot : Spot) → Spells text (root_tree program) → IsBroken unlisted_uses program spot → BreaksListing (root_tree program) spot
broken-is-unlisted text program spot is broken = position-breaks (root_tree program) spot (rule-broken program spot (program-told is.spelled) broken)

pub unlisted-is-broken : (text : List ℕ) (program : TreeView) (spot : Spot) → Spells text (root_tree program) → BreaksListing (root_tree program) spot → IsBroken unlisted_uses program spot
unlisted-is-broken text program spot is breaks =
    broken-rule program spot (program-told is.spelled) (texts_have_own_places text program is) (breaks-position (root_tree program) spot breaks)
