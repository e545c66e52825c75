-- Each construct that the code of a program comes to is one of the program, and its place tells it from all others.
use Rattle.std.proofs.Common.{ℕ, zero, suc, ◌≡◌, ◌+◌, ◌*◌, ◌<◌, ◌++◌, if◌then◌else◌, Bool, true, false, List, [], ◌∷◌, length, map, slice_index_or, unwrap_or, refl, sym, ap, ◌∙◌, subst, inl, inr, arith, filter, ◌≢◌}
use Rattle.std.specs.Prelude.{◌⊎◌}
use Rattle.std.specs.List.{AllPairs, Contains}
use Rattle.std.proofs.lemmas.Bool.{true≢false, cases_eq, cases_lt}
use Rattle.std.proofs.lemmas.List.{get_or-map, length-map, get_or_default}
use Rattle.c_syntax.specs.declared.node.NodeKind.TheVariants as node
use Rattle.c_syntax.specs.language.Numbered.{TreeView, root_tree}
use Rattle.c_syntax.specs.language.Places.{is_construct, nodes_below, nodes_of}
use Rattle.c_syntax.specs.language.Tree.{Tree, Children, at_place, kind_of, nothing, spot_of}
use Rattle.c_syntax.specs.language.Tree.Tree.{Node}
use Rattle.c_syntax.specs.language.Tree.Children.{Over, Child, Absent}
use Rattle.c_check.specs.Loops.{child_at}
use Rattle.c_model.specs.declared.limits.TheConstants.{LINE_UNIT}
use Rattle.c_model.specs.Parts.{parts, trees_in}
use Rattle.c_model.specs.Program.{body_of, function_among, function_named, is_function_named, place_of}
use Rattle.work_laws.specs.Sections.{HaveOwnPlaces, IsConstructOf}
use Rattle.work_laws.proofs.ConstructTrees.{EachConstruct, EachConstructIn, each-rules}
use Rattle.work_laws.proofs.Items.{AreRules, EachTree}

-- ---- nodes

module _ (P : Tree → Type 0) where
  -- this is so of the tree, if it is a construct
  abbrev AtConstruct : Tree → Type 0
  AtConstruct one = is_construct (kind_of one) ≡ true → P one

  abbrev AtEach : List Tree → Type 0
  AtEach nodes = EachTree AtConstruct nodes

  halves : (some more : List Tree) → AtEach (some ++ more) → AtEach some × AtEach more
  halves [] more at = (tt, at)
  halves (one ∷ some) more at = let rest = halves some more at.1 in ((at.0, rest.0), rest.1)

  mutual
    unfolding nodes_of nodes_below EachConstruct EachConstructIn

    each-of : (tree : Tree) → AtEach (nodes_of tree) → EachConstruct P tree
    each-of (Node node.Block spot name number text children) at = each-in children at.1
    each-of (Node node.Globals spot name number text children) at = each-in children at.1
    each-of (Node node.Locals spot name number text children) at = each-in children at.1
    each-of (Node node.Locks spot name number text children) at = each-in children at.1
    each-of (Node node.If spot name number text children) at = each-in children at.1
    each-of (Node node.While spot name number text children) at = each-in children at.1
    each-of (Node node.For spot name number text children) at = each-in children at.1
    each-of (Node (node.Construct which) spot name number text children) at = (at.0 refl, each-in children at.1)
    each-of (Node node.Section spot name number text children) at = each-in children at.1
    each-of (Node other spot name number text children) at = tt

    each-in : (children : Children) → AtEach (nodes_below children) → EachConstructIn P children
    each-in Over at = tt
    each-in (Absent rest) at = each-in rest at
    each-in (Child tree rest) at =
        let both = halves (nodes_of tree) (nodes_below rest) at in (each-of tree both.0, each-in rest both.1)

  abbrev Below : Tree → Type 0
  Below tree = AtEach (nodes_of tree)

  none-below : Below nothing
  unfolding nodes_of nodes_below
  none-below = ((λ is. absurd (true≢false (sym is))), tt)

  each-child : (children : Children) → AtEach (nodes_below children) → EachTree Below (trees_in children)
  unfolding nodes_below trees_in
  each-child Over at = tt
  each-child (Absent rest) at = tt
  each-child (Child tree rest) at = let both = halves (nodes_of tree) (nodes_below rest) at in (both.0, each-child rest both.1)

  below : (tree : Tree) → Below tree → EachTree Below (parts tree)
  unfolding nodes_of
  below (Node kind spot name number text children) at = each-child children at.1

  at-child : (children : Children) (place : ℕ) → AtEach (nodes_below children) → Below (unwrap_or (at_place children place) nothing)
  unfolding nodes_below
  at-child Over place at = none-below
  at-child (Child tree rest) zero at = (halves (nodes_of tree) (nodes_below rest) at).0
  at-child (Child tree rest) (suc place) at = at-child rest place (halves (nodes_of tree) (nodes_below rest) at).1
  at-child (Absent rest) zero at = none-below
  at-child (Absent rest) (suc place) at = at-child rest place at

  child-below : (tree : Tree) (place : ℕ) → Below tree → Below (child_at tree place)
  unfolding nodes_of
  child-below (Node kind spot name number text children) place at = at-child children place at.1

  chosen-below : (found : Bool) (tree other : Tree) → Below tree → Below other → Below (if found then tree else other)
  chosen-below true tree other first second = first
  chosen-below false tree other first second = second

  named-below : (name : ℕ) (trees : List Tree) → EachTree Below trees → Below (function_among name trees)
  unfolding function_among
  named-below name [] at = none-below
  named-below name (tree ∷ trees) at =
      chosen-below (is_function_named name tree) tree (function_among name trees) at.0 (named-below name trees at.1)

  body-each : (program : TreeView) → Below (root_tree program) → (name : ℕ) → EachConstruct P (body_of (function_named program name))
  body-each program at name =
      let function = function_named program name in
      each-of (body_of function) (child-below function 2 (named-below name (parts (root_tree program)) (below (root_tree program) at)))

-- ---- the constructs of a program

-- none, or one of the program
abbrev pub IsKnown : TreeView → Tree → Type 0
IsKnown program construct = (construct ≡ nothing) ⊎ IsConstructOf program construct

-- each construct in it is known
abbrev pub KnownIn : TreeView → Tree → Type 0
KnownIn program tree = EachConstruct (IsKnown program) tree

pub known-rules : (program : TreeView) → AreRules (KnownIn program) (IsKnown program)
known-rules program = each-rules (IsKnown program) (inl refl)

each-there : (nodes all : List Tree) (P : Tree → Type 0) → ((one : Tree) → Contains nodes one → P one) → EachTree P nodes
each-there [] all P there = tt
each-there (one ∷ nodes) all P there = (
  there one (0, omega arith, refl),
  each-there nodes all P (λ other found. there other (suc found.0, omega (arith, found.1), found.2)),
)

pub functions-known : (program : TreeView) (name : ℕ) → KnownIn program (body_of (function_named program name))
functions-known program name =
    let nodes = nodes_of (root_tree program) in
    body-each (IsKnown program) program (each-there nodes nodes (AtConstruct (IsKnown program)) (λ one found is. inr (found, is))) name

-- ---- places

kept-either : {A : Type 0} (b : Bool) (one : A) (xs : List A) (x : A) → Contains xs x → Contains (if b then one ∷ xs else xs) x
kept-either true one xs x found = (suc found.0, omega (arith, found.1), found.2)
kept-either false one xs x found = found

-- what passes a test is among those that do
kept : {A : Type 0} (p : A → Bool) (xs : List A) (x : A) → Contains xs x → p x ≡ true → Contains (filter p xs) x
kept p [] x found is = absurd (omega (arith, found.1))
kept p (one ∷ xs) x (zero, below, here) is =
    subst (λ (b : Bool). Contains (if b then one ∷ filter p xs else filter p xs) x) (sym (ap p here ∙ is)) (0, omega arith, here)
kept p (one ∷ xs) x (suc k, below, here) is = kept-either (p one) one (filter p xs) x (kept p xs x (k, omega (arith, below), here) is)

-- two that have the same value in a list in which no value is there twice are one
one-of : {A : Type 0} {B : Type 0} (f : A → B) (xs : List A) (x y : A) → AllPairs (λ (one other : B). one ≢ other) (map f xs) → Contains xs x →
    Contains xs y → f x ≡ f y → x ≡ y
one-of f xs x y apart first second same =
    let at : (k : ℕ) (z : _) → k < length xs → slice_index_or xs k z ≡ z → slice_index_or (map f xs) k (f x) ≡ f z =
    λ k z below is. get_or-map f xs k z (f x) below ∙ ap f is in
    let count = length-map xs f in
    elim (cases_eq first.0 second.0) [
      | inl is ↦
          sym first.2 ∙ ap (λ (k : ℕ). slice_index_or xs k x) is ∙ get_or_default xs second.0 x y second.1 ∙ second.2
      | inr other ↦ elim (cases_lt first.0 second.0) [
        | inl before ↦
            absurd (apart first.0 second.0 (f x) before (omega (arith, second.1, count))
            (at first.0 x first.1 first.2 ∙ same ∙ sym (at second.0 y second.1 second.2)))
        | inr behind ↦
            absurd (apart second.0 first.0 (f x) (omega (arith, behind, other)) (omega (arith, first.1, count))
            (at second.0 y second.1 second.2 ∙ sym same ∙ sym (at first.0 x first.1 first.2)))
      ]
    ]

same-line : (l m c d : ℕ) → c < LINE_UNIT → d < LINE_UNIT → l * LINE_UNIT + c ≡ m * LINE_UNIT + d → (l ≡ m) × (c ≡ d)
same-line l m c d first second same = (omega (arith, first, second, same), omega (arith, first, second, same))

pub own-place : (program : TreeView) → HaveOwnPlaces program → (one other : Tree) → IsConstructOf program one → IsConstructOf program other →
    place_of one ≡ place_of other → one ≡ other
own-place program own one other first second same =
    let nodes = nodes_of (root_tree program) in
    let is = λ (tree : Tree). is_construct (kind_of tree) in
    let parts = same-line (spot_of one).line (spot_of other).line (spot_of one).column (spot_of other).column (own.columns one first)
    (own.columns other second) same in
    let spot : spot_of one ≡ spot_of other = λ i. record { line = parts.0 i; column = parts.1 i } in
    one-of spot_of (filter is nodes) one other own.spots (kept is nodes one first.0 first.1) (kept is nodes other second.0 second.1) spot
