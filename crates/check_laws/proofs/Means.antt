-- What acts are in the tree's words: the declarations that they make, and the positions by which they break the rule on loops.
use Rattle.std.proofs.Common.{ℕ, ◌≡◌, ◌⊎◌, ◌+◌, ◌-◌, Bool, true, false, if◌then◌else◌, List, [], ◌∷◌, ◌++◌, length, Option, Some, None, nat_eq, refl, sym, ap, subst, ◌∙◌, inl, inr, arith, append_assoc}
use Rattle.std.specs.List.{IsAmong}
use Rattle.std.proofs.lemmas.Bool.{cases_Bool, eqb-true}
use Rattle.std.proofs.lemmas.Bool.Decides.{nat_tests}
use Rattle.std.proofs.lemmas.List.{length_push, map-append}
use Rattle.c_tokens.specs.declared.token.Spot.{Spot}
use Rattle.c_syntax.specs.declared.node.Returns.{Returns}
use Rattle.c_syntax.specs.language.Tree.{Tree, kind_of}
use Rattle.c_check.specs.declared.acts.act.Act.{Act}
use Rattle.c_check.specs.declared.acts.act.Act.TheVariants.{Open, Close, Begin, End, Declare, Use, Assign, Print, Return, Barrier}
use Rattle.c_check.specs.declared.acts.act.Returned.{Returned}
use Rattle.c_check.specs.declared.acts.act.Printed.{Printed}
use Rattle.c_check.specs.declared.acts.act.Thing.{Thing}
use Rattle.c_check.specs.declared.acts.act.Thing.TheVariants as thing
use Rattle.c_check.specs.declared.acts.act.Usage.{Usage}
use Rattle.c_check.specs.declared.scopes.declared.Declared.{Declared}
use Rattle.c_check.specs.Checked.{after_all}
use Rattle.c_check.specs.Constructs.{Construct, Constructs, open_constructs, with_use}
use Rattle.c_check.specs.Declarations.{Declarations, find, next_of, scope_begun, scope_ended, still_in_scope, with_next}
use Rattle.c_check.specs.Here.{Here, after, is_variable, used, used_in}
use Rattle.c_check.specs.Rules.{bad_loops, spoiled, spoiled_by}
use Rattle.c_check.specs.Shares.{is_loop_variable}
use Rattle.check_laws.specs.Scopes.{Declaration, Position, Sort, behind, declared_as, meaning}
use Rattle.check_laws.specs.LoopForm.{assigned_variable, is_loop_construct}
use Rattle.check_laws.proofs.Broken.{BreaksIn, after-both, breaks-either, breaks-left, breaks-right}
use Rattle.check_laws.proofs.Has.{Has, among-behind, among-case, among-first, has-either, has-left, has-none, has-right, has-weaker}
use Rattle.check_laws.proofs.Standing.{Assigns, IsOddAt, IsReady, Met, Names, Result, Spoiled, Spoils, around_here, ready-after, result-back, result-map, result-on}
use Rattle.check_laws.proofs.Visible.{AreNew, Falls, HasSlot, IsSound, Levels, dropped, falls-more, levels-more, new-both, scope_of, sort_of, told}

pub record Means (file : Bool) (acts : List Act) (made : List Declaration) (nodes : List Position) : Type 0 where
  pub meets : (here : Here) → IsReady file here → Met here (after_all here acts) made
  pub tells : (here : Here) → IsReady file here → (spot : Spot) → BreaksIn bad_loops here acts spot → Result here nodes spot
  pub breaks : (here : Here) → IsReady file here → (spot : Spot) → Result here nodes spot → BreaksIn bad_loops here acts spot

abbrev pub not-among : {X : Type 0} (one : X) → IsAmong [] one → ⊥
not-among one (at, (within, same)) = omega (arith, within)

-- nothing
pub same-names : (names : Declarations) → IsSound names → Names names names []
same-names names sound = record { added = []; visible = refl; tells = refl; level = refl; are_new = tt; grows = omega arith; sound = sound }

pub no-result : (here : Here) (spot : Spot) → Result here [] spot → ⊥
no-result here spot (inl odd) = odd
no-result here spot (inr spoiled) = has-none (Spoils here.names.visible [] spot) (λ construct it. it.assigns) (around_here here) spoiled

pub means-nothing : (file : Bool) → Means file [] [] []
unfolding after_all
means-nothing file = record {
  meets = λ here ready. record { names = same-names here.names ready.names; around = refl };
  tells = λ here ready spot breaks. absurd breaks;
  breaks = λ here ready spot result. absurd (no-result here spot result);
}

-- one thing behind another
pub names-both : (one two three : Declarations) (first second : List Declaration) → Names one two first → Names two three second → Names one three (second ++ first)
names-both one two three first second some more = record {
  added = more.added ++ some.added;
  visible = more.visible ∙ ap (λ (visible : List Declared). more.added ++ visible) some.visible ∙ sym (append_assoc more.added some.added one.visible);
  tells = map-append told more.added some.added ∙ ap (λ (scope : List Declaration). scope ++ scope_of some.added) more.tells ∙ ap (λ (scope : List Declaration). second ++ scope) some.tells;
  level = more.level ∙ some.level;
  are_new = new-both (length one.all) (length two.all) one.level more.added some.added some.grows
      (subst (λ (level : ℕ). AreNew (length two.all) level more.added) some.level more.are_new) some.are_new;
  grows = omega (arith, some.grows, more.grows);
  sound = more.sound;
}

pub met-both : (one two three : Here) (first second : List Declaration) → Met one two first → Met two three second → Met one three (second ++ first)
met-both one two three first second some more = record { names = names-both one.names two.names three.names first second some.names more.names; around = more.around ∙ some.around }

pub spoils-either : (visible : List Declared) (nodes others : List Position) (spot : Spot) (around : List Construct) → Spoiled visible (nodes ++ others) spot around
    → Spoiled visible nodes spot around ⊎ Spoiled visible others spot around
spoils-either visible nodes others spot [] spoiled = absurd spoiled
spoils-either visible nodes others spot (first ∷ rest) (inl it) =
    elim (has-either (Assigns visible it.slot) nodes others it.assigns) [
      | inl left ↦ inl (inl (record { at = it.at; slot = it.slot; loop = it.loop; assigns = left }))
      | inr right ↦ inr (inl (record { at = it.at; slot = it.slot; loop = it.loop; assigns = right }))
    ]
spoils-either visible nodes others spot (first ∷ rest) (inr there) =
    elim (spoils-either visible nodes others spot rest there) [ inl left ↦ inl (inr left) | inr right ↦ inr (inr right) ]

result-either : (here : Here) (nodes others : List Position) (spot : Spot) → Result here (nodes ++ others) spot → Result here nodes spot ⊎ Result here others spot
result-either here nodes others spot (inl odd) =
    elim (has-either (IsOddAt (scope_of here.names.visible) spot) nodes others odd) [ inl left ↦ inl (inl left) | inr right ↦ inr (inl right) ]
result-either here nodes others spot (inr spoiled) =
    elim (spoils-either here.names.visible nodes others spot (around_here here) spoiled) [ inl left ↦ inl (inr left) | inr right ↦ inr (inr right) ]

pub means-both : (file : Bool) (some more : List Act) (first second : List Declaration) (nodes others : List Position) → Means file some first nodes → Means file more second others
    → Means file (some ++ more) (second ++ first) (nodes ++ behind first others)
means-both file some more first second nodes others one two = record {
  meets = λ here ready.
      let met = one.meets here ready in
      let more_met = two.meets (after_all here some) (ready-after file here (after_all here some) first ready met) in
      subst (λ (new : Here). Met here new (second ++ first)) (sym (after-both here some more)) (met-both here (after_all here some) (after_all (after_all here some) more) first second met more_met);
  tells = λ here ready spot breaks.
      let met = one.meets here ready in
      elim (breaks-either bad_loops spot here some more breaks) [
        | inl left ↦ result-map here nodes (nodes ++ behind first others) spot (λ P. has-left P nodes (behind first others)) (one.tells here ready spot left)
        | inr right ↦ result-map here (behind first others) (nodes ++ behind first others) spot (λ P. has-right P nodes (behind first others))
            (result-back file here (after_all here some) first others spot ready met (two.tells (after_all here some) (ready-after file here (after_all here some) first ready met) spot right))
      ];
  breaks = λ here ready spot result.
      let met = one.meets here ready in
      elim (result-either here nodes (behind first others) spot result) [
        | inl left ↦ breaks-left bad_loops spot here some more (one.breaks here ready spot left)
        | inr right ↦ breaks-right bad_loops spot here some more
            (two.breaks (after_all here some) (ready-after file here (after_all here some) first ready met) spot (result-on here (after_all here some) first others spot met right))
      ];
}

-- the same positions in another order, and the same acts in other words
pub means-same : (file : Bool) (acts : List Act) (made : List Declaration) (nodes others : List Position) → ((P : Position → Type 0) → Has P nodes → Has P others)
    → ((P : Position → Type 0) → Has P others → Has P nodes) → Means file acts made nodes → Means file acts made others
means-same file acts made nodes others there back it = record {
  meets = it.meets;
  tells = λ here ready spot breaks. result-map here nodes others spot there (it.tells here ready spot breaks);
  breaks = λ here ready spot result. it.breaks here ready spot (result-map here others nodes spot back result);
}

-- a node that breaks nothing by itself
pub record IsPlain (tree : Tree) : Type 0 where
  pub is_no_loop : is_loop_construct (kind_of tree) ≡ false
  pub assigns_none : assigned_variable tree ≡ None

pub means-plain : (file : Bool) (acts : List Act) (made : List Declaration) (nodes : List Position) (tree : Tree) (scope : List Declaration) → IsPlain tree → Means file acts made nodes
    → Means file acts made (record { node = tree; scope = scope } ∷ nodes)
means-plain file acts made nodes tree scope plain it = record {
  meets = it.meets;
  tells = λ here ready spot breaks. result-map here nodes (position ∷ nodes) spot (λ P has. inr has) (it.tells here ready spot breaks);
  breaks = λ here ready spot result. it.breaks here ready spot (without here spot result);
}
  where
    position : Position
    position = record { node = tree; scope = scope }

    without : (here : Here) (spot : Spot) → Result here (position ∷ nodes) spot → Result here nodes spot
    without here spot (inl (inl odd)) = absurd (let wrong : true ≡ false = sym odd.shares ∙ plain.is_no_loop in cc)
    without here spot (inl (inr odd)) = inl odd
    without here spot (inr spoiled) =
        inr (has-weaker (Spoils here.names.visible (position ∷ nodes) spot) (Spoils here.names.visible nodes spot)
        (λ construct it. record {
          at = it.at;
          slot = it.slot;
          loop = it.loop;
          assigns = elim it.assigns [
            | inl here ↦ absurd (let wrong : Some here.name ≡ None = sym here.assigns ∙ plain.assigns_none in cc)
            | inr there ↦ there
          ];
        }) (around_here here) spoiled)

-- acts that declare nothing and break nothing
pub record IsSilent (act : Act) : Type 0 where
  pub names : (here : Here) → (after here act).names ≡ here.names
  pub around : (here : Here) → around_here (after here act) ≡ around_here here
  pub right : (here : Here) → bad_loops here act ≡ []

pub means-silent : (file : Bool) (act : Act) → IsSilent act → Means file (act ∷ []) [] []
unfolding after_all
means-silent file act silent = record {
  meets = λ here ready. record {
    names = subst (λ (names : Declarations). Names here.names names []) (sym (silent.names here)) (same-names here.names ready.names);
    around = silent.around here;
  };
  tells = λ here ready spot breaks. elim breaks [
    | inl broken ↦ absurd (not-among spot (subst (λ (spots : List Spot). IsAmong spots spot) (silent.right here) broken))
    | inr later ↦ absurd later
  ];
  breaks = λ here ready spot result. absurd (no-result here spot result);
}

used-around : (constructs : Constructs) (spot : Spot) (it : Declared) → open_constructs (used_in constructs spot it) ≡ open_constructs constructs
used-around constructs spot it = either (is_variable it.thing)
  where
    either : (is : Bool) → open_constructs (if is then with_use constructs spot it.slot else constructs) ≡ open_constructs constructs
    either true = refl
    either false = refl

pub use-names : (here : Here) (spot : Spot) (found : Option Declared) → (used here spot found).names ≡ here.names
use-names here spot None = refl
use-names here spot (Some it) = refl

pub use-around : (here : Here) (spot : Spot) (found : Option Declared) → around_here (used here spot found) ≡ around_here here
use-around here spot None = refl
use-around here spot (Some it) = used-around here.constructs spot it

pub use-silent : (name : ℕ) (spot : Spot) (usage : Usage) → IsSilent (Use name spot usage)
unfolding after
use-silent name spot usage = record {
  names = λ here. use-names here spot (find here.names.visible name);
  around = λ here. use-around here spot (find here.names.visible name);
  right = λ here. refl;
}

pub print-silent : (spot : Spot) (printed : Printed) → IsSilent (Print spot printed)
unfolding after
print-silent spot printed = record { names = λ here. refl; around = λ here. refl; right = λ here. refl }

pub return-silent : (spot : Spot) (returned : Returned) → IsSilent (Return spot returned)
unfolding after
return-silent spot returned = record { names = λ here. refl; around = λ here. refl; right = λ here. refl }

pub barrier-silent : (spot : Spot) → IsSilent (Barrier spot)
unfolding after
barrier-silent spot = record { names = λ here. refl; around = λ here. refl; right = λ here. refl }

-- a declaration
next-names : (names : Declarations) (name : ℕ) (what : Thing) → IsSound names → Names names (with_next names name what) (declared_as (sort_of what) name)
next-names names name what sound =
    let all : length (names.all ++ next_of names name what ∷ []) ≡ length names.all + 1 = length_push names.all (next_of names name what) in
    record {
      added = next_of names name what ∷ [];
      visible = refl;
      tells = refl;
      level = refl;
      are_new = (omega arith, refl, tt);
      grows = omega (arith, all);
      sound = record { levels = (omega arith, sound.levels); falls = (omega (arith, all), sound.falls) };
    }

pub means-declare : (file : Bool) (name : ℕ) (spot : Spot) (what : Thing) → Means file (Declare name spot what ∷ []) (declared_as (sort_of what) name) []
unfolding after_all after
means-declare file name spot what = record {
  meets = λ here ready. record { names = next-names here.names name what ready.names; around = refl };
  tells = λ here ready at breaks. elim breaks [ inl broken ↦ absurd (not-among at broken) | inr later ↦ absurd later ];
  breaks = λ here ready at result. absurd (no-result here at result);
}

-- what stands in a scope of its own
pub begun-sound : (names : Declarations) → IsSound names → IsSound (scope_begun names)
begun-sound names sound = record { levels = levels-more names.level (names.level + 1) names.visible (omega arith) sound.levels; falls = sound.falls }

pub ended-names : (old new : Declarations) (made : List Declaration) → IsSound old → Names (scope_begun old) new made → Names old (scope_ended new) []
ended-names old new made sound names =
    let visible : still_in_scope new.level new.visible ≡ old.visible =
    ap (λ (level : ℕ). still_in_scope level new.visible) names.level ∙ ap (λ (visible : List Declared). still_in_scope (old.level + 1) visible) names.visible
    ∙ dropped (length old.all) old.level names.added old.visible names.are_new sound.levels in
    let level : new.level - 1 ≡ old.level = omega (arith, names.level) in
    record {
      added = [];
      visible = visible;
      tells = refl;
      level = level;
      are_new = tt;
      grows = names.grows;
      sound = record {
        levels = subst (λ (level : ℕ). Levels level (still_in_scope new.level new.visible)) (sym level) (subst (Levels old.level) (sym visible) sound.levels);
        falls = subst (Falls (length new.all)) (sym visible) (falls-more (length old.all) (length new.all) old.visible names.grows sound.falls);
      };
    }

pub opened : (file : Bool) (here : Here) → IsReady file here → IsReady file (after here Open)
unfolding after
opened file here ready = record { names = begun-sound here.names ready.names; loops = ready.loops; outside = ready.outside }

pub means-scope : (file : Bool) (acts : List Act) (made : List Declaration) (nodes : List Position) → Means file acts made nodes → Means file (Open ∷ acts ++ Close ∷ []) [] nodes
unfolding after_all after
means-scope file acts made nodes it = record {
  meets = λ here ready.
      let met = it.meets (after here Open) (opened file here ready) in
      subst (λ (new : Here). Met here new []) (sym (after-both (after here Open) acts (Close ∷ [])))
      (record { names = ended-names here.names (after_all (after here Open) acts).names made ready.names met.names; around = met.around });
  tells = λ here ready spot breaks. elim breaks [
    | inl broken ↦ absurd (not-among spot broken)
    | inr later ↦ elim (breaks-either bad_loops spot (after here Open) acts (Close ∷ []) later) [
      | inl inside ↦ it.tells (after here Open) (opened file here ready) spot inside
      | inr closing ↦ elim closing [ inl broken ↦ absurd (not-among spot broken) | inr never ↦ absurd never ]
    ]
  ];
  breaks = λ here ready spot result. inr (breaks-left bad_loops spot (after here Open) acts (Close ∷ []) (it.breaks (after here Open) (opened file here ready) spot result));
}

-- a function, which stands in no construct
function-names : (old new : Declarations) (name : ℕ) (what : Thing) (made : List Declaration) → IsSound old → Names (scope_begun (with_next old name what)) new made
    → Names old (scope_ended new) (declared_as (sort_of what) name)
function-names old new name what made sound names =
    let first = next-names old name what sound in
    let rest = ended-names (with_next old name what) new made first.sound names in
    names-both old (with_next old name what) (scope_ended new) (declared_as (sort_of what) name) [] first rest

module _ (name : ℕ) (spot : Spot) (returns : Returns) (parameters : ℕ) where
  abbrev pub begun : Here → Here
  begun here = after here (Begin name spot returns parameters)

  abbrev pub made_here : List Declaration
  made_here = declared_as Sort.function name

  -- the function is declared
  abbrev pub named : Here → Here
  named here = record here { names = with_next here.names name (thing.Function returns parameters) }

  pub named-met : (here : Here) → IsReady true here → Met here (named here) made_here
  named-met here ready = record { names = next-names here.names name (thing.Function returns parameters) ready.names; around = refl }

  pub begins : (here : Here) → IsReady true here → IsReady false (begun here)
  unfolding after
  begins here ready = record {
    names = begun-sound (with_next here.names name (thing.Function returns parameters)) (next-names here.names name (thing.Function returns parameters) ready.names).sound;
    loops = tt;
    outside = λ is. refl;
  }

  within : (here : Here) (nodes : List Position) (at : Spot) → Result (begun here) nodes at → Result (named here) nodes at
  unfolding after
  within here nodes at (inl odd) = inl odd
  within here nodes at (inr spoiled) = absurd spoiled

  without : (here : Here) → IsReady true here → (nodes : List Position) (at : Spot) → Result (named here) nodes at → Result (begun here) nodes at
  unfolding after
  without here ready nodes at (inl odd) = inl odd
  without here ready nodes at (inr spoiled) = absurd (subst (λ (around : List Construct). Spoiled (named here).names.visible nodes at around) (ready.outside refl) spoiled)

  pub means-function : (acts : List Act) (made : List Declaration) (nodes : List Position) → Means false acts made nodes
      → Means true (Begin name spot returns parameters ∷ acts ++ End ∷ []) made_here (behind made_here nodes)
  unfolding after_all after
  means-function acts made nodes it = record {
    meets = λ here ready.
        let met = it.meets (begun here) (begins here ready) in
        subst (λ (new : Here). Met here new made_here) (sym (after-both (begun here) acts (End ∷ [])))
        (record {
          names = function-names here.names (after_all (begun here) acts).names name (thing.Function returns parameters) made ready.names met.names;
          around = met.around ∙ sym (ready.outside refl);
        });
    tells = λ here ready at breaks. elim breaks [
      | inl broken ↦ absurd (not-among at broken)
      | inr later ↦ elim (breaks-either bad_loops at (begun here) acts (End ∷ []) later) [
        | inl inside ↦ result-back true here (named here) made_here nodes at ready (named-met here ready)
            (within here nodes at (it.tells (begun here) (begins here ready) at inside))
        | inr closing ↦ elim closing [ inl broken ↦ absurd (not-among at broken) | inr never ↦ absurd never ]
      ]
    ];
    breaks = λ here ready at result. inr (breaks-left bad_loops at (begun here) acts (End ∷ [])
        (it.breaks (begun here) (begins here ready) at (without here ready nodes at (result-on here (named here) made_here nodes at (named-met here ready) result))));
  }

-- an assignment of a variable, by a node that stands there
loop-is : (loop : Option ℕ) (slot : ℕ) → is_loop_variable loop slot ≡ true → loop ≡ Some slot
loop-is None slot is = absurd (let wrong : false ≡ true = is in cc)
loop-is (Some one) slot is = ap (λ (slot : ℕ). Some slot) (eqb-true one slot is)

is-loop : (loop : Option ℕ) (slot : ℕ) → loop ≡ Some slot → is_loop_variable loop slot ≡ true
is-loop loop slot is = rw is (same-number slot)
  where
    same-number : (one : ℕ) → nat_eq one one ≡ true
    same-number one = grind (arith, nat_tests)

abbrev IsSpoiled : ℕ → Spot → Construct → Type 0
IsSpoiled slot spot construct = (construct.head.spot ≡ spot) × (construct.loop ≡ Some slot)

spoiled-has : (slot : ℕ) (spot : Spot) (around : List Construct) → IsAmong (spoiled slot around) spot → Has (IsSpoiled slot spot) around
unfolding spoiled
spoiled-has slot spot [] among = absurd (not-among spot among)
spoiled-has slot spot (first ∷ rest) among =
    elim (cases_Bool (is_loop_variable first.loop slot)) [
      | inl is ↦ elim (among-case first.head.spot (spoiled slot rest) spot (rw is at among)) [
        | inl here ↦ inl (sym here, loop-is first.loop slot is)
        | inr there ↦ inr (spoiled-has slot spot rest there)
      ]
      | inr differs ↦ inr (spoiled-has slot spot rest (rw differs at among))
    ]

has-spoiled : (slot : ℕ) (spot : Spot) (around : List Construct) → Has (IsSpoiled slot spot) around → IsAmong (spoiled slot around) spot
unfolding spoiled
has-spoiled slot spot [] has = absurd has
has-spoiled slot spot (first ∷ rest) (inl here) =
    rw (is-loop first.loop slot here.1) (subst (λ (one : Spot). IsAmong (first.head.spot ∷ spoiled slot rest) one) here.0 (among-first first.head.spot (spoiled slot rest)))
has-spoiled slot spot (first ∷ rest) (inr there) =
    elim (cases_Bool (is_loop_variable first.loop slot)) [
      | inl is ↦ rw is (among-behind first.head.spot (spoiled slot rest) spot (has-spoiled slot spot rest there))
      | inr differs ↦ rw differs (has-spoiled slot spot rest there)
    ]

module _ (name : ℕ) (tree : Tree) (no_loop : is_loop_construct (kind_of tree) ≡ false) (assigns : assigned_variable tree ≡ Some name) where
  abbrev it : Position
  it = record { node = tree; scope = [] }

  spoils : (visible : List Declared) (spot : Spot) (around : List Construct) (found : Option Declared) → find visible name ≡ found → IsAmong (spoiled_by found around) spot
      → Spoiled visible (it ∷ []) spot around
  unfolding meaning
  spoils visible spot around None is among = absurd (not-among spot among)
  spoils visible spot around (Some one) is among =
      has-weaker (IsSpoiled one.slot spot) (Spoils visible (it ∷ []) spot)
      (λ construct spoiled. record {
        at = spoiled.0;
        slot = one.slot;
        loop = spoiled.1;
        assigns = inl (record { name = name; assigns = assigns; hidden = refl; found = subst (λ (found : Option Declared). HasSlot found one.slot) (sym is) refl });
      }) around (spoiled-has one.slot spot around among)

  among-found : (spot : Spot) (around : List Construct) (found : Option Declared) → Has (λ construct. (slot : ℕ) × IsSpoiled slot spot construct × HasSlot found slot) around
      → IsAmong (spoiled_by found around) spot
  among-found spot around None has = absurd (has-none (λ construct. (slot : ℕ) × IsSpoiled slot spot construct × HasSlot None slot) (λ construct spoiled. spoiled.2) around has)
  among-found spot around (Some one) has =
      has-spoiled one.slot spot around
      (has-weaker (λ construct. (slot : ℕ) × IsSpoiled slot spot construct × HasSlot (Some one) slot) (IsSpoiled one.slot spot)
      (λ construct spoiled. subst (λ (slot : ℕ). IsSpoiled slot spot construct) (sym spoiled.2) spoiled.1) around has)

  same-name : (other : ℕ) → assigned_variable tree ≡ Some other → name ≡ other
  same-name other is = let both : Some name ≡ Some other = sym assigns ∙ is in cc

  unspoils : (visible : List Declared) (spot : Spot) (around : List Construct) → Spoiled visible (it ∷ []) spot around → IsAmong (spoiled_by (find visible name) around) spot
  unspoils visible spot around spoiled =
      among-found spot around (find visible name)
      (has-weaker (Spoils visible (it ∷ []) spot) (λ construct. (slot : ℕ) × IsSpoiled slot spot construct × HasSlot (find visible name) slot)
      (λ construct one. (
        one.slot,
        (one.at, one.loop),
        elim one.assigns [
          | inl here ↦ subst (λ (name : ℕ). HasSlot (find visible name) one.slot) (sym (same-name here.name here.assigns)) here.found
          | inr there ↦ absurd there
        ],
      )) around spoiled)

  pub means-assign : (file : Bool) → Means file (Assign name ∷ []) [] (it ∷ [])
  unfolding after_all after
  means-assign file = record {
    meets = λ here ready. record { names = same-names here.names ready.names; around = refl };
    tells = λ here ready spot breaks. elim breaks [
      | inl broken ↦ inr (spoils here.names.visible spot (around_here here) (find here.names.visible name) refl broken)
      | inr later ↦ absurd later
    ];
    breaks = λ here ready spot result. elim result [
      | inl odd ↦ absurd (elim odd [ inl one ↦ (let wrong : true ≡ false = sym one.shares ∙ no_loop in cc) | inr none ↦ none ])
      | inr spoiled ↦ inl (unspoils here.names.visible spot (around_here here) spoiled)
    ];
  }
