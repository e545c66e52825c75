-- What the clauses of a construct say of it: that it has `default(none)`, and which names it lists.
use Rattle.std.specs.Prelude.{ℕ, nat_eq, ◌≡◌, ◌⊎◌, Bool, true, false, List, [], ◌∷◌, ◌++◌, Option, Some, None, is_none, option_map, refl}
use Rattle.std.proofs.Common.{sym, ap, ◌∙◌, inl, inr}
use Rattle.std.proofs.lemmas.Bool.{cases_Bool, eqb-true}
use Rattle.std.proofs.lemmas.Bool.Decides.{nat_tests}
use Rattle.std.proofs.Common.{arith}
use Rattle.c_syntax.specs.declared.node.Default.{Default}
use Rattle.c_syntax.specs.declared.node.Default.TheVariants as default
use Rattle.c_syntax.specs.declared.node.NodeKind.{NodeKind}
use Rattle.c_syntax.specs.declared.node.NodeKind.TheVariants as node
use Rattle.c_syntax.specs.language.Tree.{Tree, Children, children_of, kind_of}
use Rattle.c_syntax.specs.language.Tree.Tree.{Node}
use Rattle.c_syntax.specs.language.Tree.Children.{Over, Child, Absent}
use Rattle.c_check.specs.declared.acts.act.Act.{Act}
use Rattle.c_check.specs.declared.acts.act.Act.TheVariants.{Clause, List as Listing}
use Rattle.c_check.specs.declared.acts.act.DataClause.{DataClause}
use Rattle.c_check.specs.declared.acts.act.Single.{Single}
use Rattle.c_check.specs.declared.acts.act.Single.TheVariants as single
use Rattle.c_check.specs.declared.acts.role.Naming.TheVariants as naming
use Rattle.c_check.specs.declared.constructs.parts.Clauses.{Clauses}
use Rattle.c_check.specs.declared.constructs.parts.Mention.{Mention}
use Rattle.c_check.specs.declared.scopes.declared.Declared.{Declared}
use Rattle.c_check.specs.Checked.{after_all}
use Rattle.c_check.specs.Clauses.{chunk_of, clause_inside, inside_acts}
use Rattle.c_check.specs.Constructs.{Construct, Constructs, mention, with_single}
use Rattle.c_check.specs.Declarations.{Declarations, find}
use Rattle.c_check.specs.Here.{Here, after, listed}
use Rattle.c_check.specs.NameLists.{names}
use Rattle.check_laws.specs.ListedNames.{Used, clauses_of, each_used, is_data, is_default_none, used}
use Rattle.check_laws.proofs.Has.{Has, has-either, has-left, has-right}
use Rattle.check_laws.proofs.Inside.{AreInforming, is_informing}
use Rattle.check_laws.proofs.Visible.{HasSlot}

-- a construct behind an act that says something of it
abbrev pub listing : Construct → DataClause → Option Declared → Construct
listing construct clause None = construct
listing construct clause (Some it) = record construct { mentions = construct.mentions ++ record { slot = it.slot; clause = clause } ∷ [] }

abbrev pub said : List Declared → Construct → Act → Construct
said visible construct (Clause one) = record construct { clauses = with_single one construct.clauses }
said visible construct (Listing name spot clause) = listing construct clause (find visible name)
said visible construct other = construct

abbrev pub said_all : List Declared → Construct → List Act → Construct
said_all visible construct [] = construct
said_all visible construct (act ∷ acts) = said_all visible (said visible construct act) acts

listed-newest : (constructs : Constructs) (construct : Construct) (clause : DataClause) (found : Option Declared) → constructs.newest ≡ Some construct → (listed constructs found clause).newest ≡ Some (listing construct clause found)
listed-newest constructs construct clause None newest = newest
listed-newest constructs construct clause (Some it) newest =
    ap (λ (newest : Option Construct). option_map (λ (one : Construct). record one { mentions = one.mentions ++ record { slot = it.slot; clause = clause } ∷ [] }) newest) newest

said-newest : (here : Here) (construct : Construct) (act : Act) → is_informing act ≡ true → here.constructs.newest ≡ Some construct → (after here act).constructs.newest ≡ Some (said here.names.visible construct act)
unfolding after
said-newest here construct (Clause one) is newest = ap (λ (newest : Option Construct). option_map (λ (it : Construct). record it { clauses = with_single one it.clauses }) newest) newest
said-newest here construct (Listing name spot clause) is newest = listed-newest here.constructs construct clause (find here.names.visible name) newest
said-newest here construct other is newest = absurd (let no : false ≡ true = is in cc)

informing-names : (here : Here) (act : Act) → is_informing act ≡ true → (after here act).names ≡ here.names
unfolding after
informing-names here (Clause one) is = refl
informing-names here (Listing name spot clause) is = refl
informing-names here other is = absurd (let no : false ≡ true = is in cc)

pub all-said : (here : Here) (construct : Construct) (acts : List Act) → AreInforming acts → here.constructs.newest ≡ Some construct
    → (after_all here acts).constructs.newest ≡ Some (said_all here.names.visible construct acts)
unfolding after_all
all-said here construct [] are newest = newest
all-said here construct (act ∷ acts) are newest =
    all-said (after here act) (said here.names.visible construct act) acts are.1 (said-newest here construct act are.0 newest)
    ∙ ap (λ (names : Declarations). Some (said_all names.visible (said here.names.visible construct act) acts)) (informing-names here act are.0)

-- the head stays
listing-head : (construct : Construct) (clause : DataClause) (found : Option Declared) → (listing construct clause found).head ≡ construct.head
listing-head construct clause None = refl
listing-head construct clause (Some it) = refl

said-head : (visible : List Declared) (construct : Construct) (act : Act) → (said visible construct act).head ≡ construct.head
said-head visible construct (Clause one) = refl
said-head visible construct (Listing name spot clause) = listing-head construct clause (find visible name)
said-head visible construct other = refl

pub all-head : (visible : List Declared) (construct : Construct) (acts : List Act) → (said_all visible construct acts).head ≡ construct.head
all-head visible construct [] = refl
all-head visible construct (act ∷ acts) = all-head visible (said visible construct act) acts ∙ said-head visible construct act

-- `default(none)`
abbrev pub says_none : Act → Bool
says_none (Clause (single.Default default.None)) = true
says_none other = false

abbrev pub SaysNone : Act → Type 0
SaysNone act = says_none act ≡ true

listing-clauses : (construct : Construct) (clause : DataClause) (found : Option Declared) → (listing construct clause found).clauses ≡ construct.clauses
listing-clauses construct clause None = refl
listing-clauses construct clause (Some it) = refl

single-none : (one : Single) (clauses : Clauses) → (with_single one clauses).default_none ≡ true → (clauses.default_none ≡ true) ⊎ SaysNone (Clause one)
single-none single.NumThreads clauses is = inl is
single-none (single.Default default.Shared) clauses is = inl is
single-none (single.Default default.None) clauses is = inr refl
single-none (single.Schedule chunk) clauses is = inl is
single-none single.Nowait clauses is = inl is
single-none single.If clauses is = inl is

none-single : (one : Single) (clauses : Clauses) → (clauses.default_none ≡ true) ⊎ SaysNone (Clause one) → (with_single one clauses).default_none ≡ true
none-single single.NumThreads clauses (inl is) = is
none-single single.NumThreads clauses (inr wrong) = absurd (cc)
none-single (single.Default default.Shared) clauses (inl is) = is
none-single (single.Default default.Shared) clauses (inr wrong) = absurd (cc)
none-single (single.Default default.None) clauses either = refl
none-single (single.Schedule chunk) clauses (inl is) = is
none-single (single.Schedule chunk) clauses (inr wrong) = absurd (cc)
none-single single.Nowait clauses (inl is) = is
none-single single.Nowait clauses (inr wrong) = absurd (cc)
none-single single.If clauses (inl is) = is
none-single single.If clauses (inr wrong) = absurd (cc)

said-none : (visible : List Declared) (construct : Construct) (act : Act) → (said visible construct act).clauses.default_none ≡ true → (construct.clauses.default_none ≡ true) ⊎ SaysNone act
said-none visible construct (Clause one) is = single-none one construct.clauses is
said-none visible construct (Listing name spot clause) is = inl (sym (ap (λ (clauses : Clauses). clauses.default_none) (listing-clauses construct clause (find visible name))) ∙ is)
said-none visible construct other is = inl is

none-said : (visible : List Declared) (construct : Construct) (act : Act) → (construct.clauses.default_none ≡ true) ⊎ SaysNone act → (said visible construct act).clauses.default_none ≡ true
none-said visible construct (Clause one) is = none-single one construct.clauses is
none-said visible construct (Listing name spot clause) (inl is) = ap (λ (clauses : Clauses). clauses.default_none) (listing-clauses construct clause (find visible name)) ∙ is
none-said visible construct (Listing name spot clause) (inr wrong) = absurd (cc)
none-said visible construct other (inl is) = is
none-said visible construct other (inr wrong) = absurd (cc)

pub all-none : (visible : List Declared) (construct : Construct) (acts : List Act) → (said_all visible construct acts).clauses.default_none ≡ true → (construct.clauses.default_none ≡ true) ⊎ Has SaysNone acts
all-none visible construct [] is = inl is
all-none visible construct (act ∷ acts) is =
    elim (all-none visible (said visible construct act) acts is) [
      | inl before ↦ elim (said-none visible construct act before) [ inl first ↦ inl first | inr now ↦ inr (inl now) ]
      | inr later ↦ inr (inr later)
    ]

pub none-all : (visible : List Declared) (construct : Construct) (acts : List Act) → (construct.clauses.default_none ≡ true) ⊎ Has SaysNone acts → (said_all visible construct acts).clauses.default_none ≡ true
none-all visible construct [] (inl is) = is
none-all visible construct [] (inr wrong) = absurd wrong
none-all visible construct (act ∷ acts) (inl is) = none-all visible (said visible construct act) acts (inl (none-said visible construct act (inl is)))
none-all visible construct (act ∷ acts) (inr (inl now)) = none-all visible (said visible construct act) acts (inl (none-said visible construct act (inr now)))
none-all visible construct (act ∷ acts) (inr (inr later)) = none-all visible (said visible construct act) acts (inr later)

-- names that are listed
abbrev pub IsMentioned : List Mention → ℕ → Type 0
IsMentioned mentions slot = is_none (mention mentions slot) ≡ false

mentioned-more : (mentions : List Mention) (one : Mention) (slot : ℕ) → IsMentioned (mentions ++ one ∷ []) slot → IsMentioned mentions slot ⊎ (one.slot ≡ slot)
unfolding mention
mentioned-more [] one slot is =
    elim (cases_Bool (nat_eq one.slot slot)) [
      | inl same ↦ inr (eqb-true one.slot slot same)
      | inr differs ↦ absurd (let no : true ≡ false = rw differs at is in cc)
    ]
mentioned-more (first ∷ mentions) one slot is =
    elim (cases_Bool (nat_eq first.slot slot)) [
      | inl same ↦ inl (rw same refl)
      | inr differs ↦ elim (mentioned-more mentions one slot (rw differs at is)) [ inl before ↦ inl (rw differs before) | inr now ↦ inr now ]
    ]

same-number : (one : ℕ) → nat_eq one one ≡ true
same-number one = grind (arith, nat_tests)

more-mentioned : (mentions : List Mention) (one : Mention) (slot : ℕ) → IsMentioned mentions slot ⊎ (one.slot ≡ slot) → IsMentioned (mentions ++ one ∷ []) slot
unfolding mention
more-mentioned [] one slot (inl wrong) = absurd (cc)
more-mentioned [] one slot (inr same) = rw (same, same-number slot) refl
more-mentioned (first ∷ mentions) one slot either =
    elim (cases_Bool (nat_eq first.slot slot)) [
      | inl same ↦ rw same refl
      | inr differs ↦ rw differs (more-mentioned mentions one slot (elim either [ inl before ↦ inl (rw differs at before) | inr now ↦ inr now ]))
    ]

abbrev pub ListsSlot : List Declared → ℕ → Act → Type 0
ListsSlot visible slot (Listing name spot clause) = HasSlot (find visible name) slot
ListsSlot visible slot other = ⊥

listing-listed : (construct : Construct) (clause : DataClause) (found : Option Declared) (slot : ℕ) → IsMentioned (listing construct clause found).mentions slot → IsMentioned construct.mentions slot ⊎ HasSlot found slot
listing-listed construct clause None slot is = inl is
listing-listed construct clause (Some it) slot is = mentioned-more construct.mentions (record { slot = it.slot; clause = clause }) slot is

listed-listing : (construct : Construct) (clause : DataClause) (found : Option Declared) (slot : ℕ) → IsMentioned construct.mentions slot ⊎ HasSlot found slot → IsMentioned (listing construct clause found).mentions slot
listed-listing construct clause None slot (inl is) = is
listed-listing construct clause None slot (inr wrong) = absurd wrong
listed-listing construct clause (Some it) slot either = more-mentioned construct.mentions (record { slot = it.slot; clause = clause }) slot either

said-listed : (visible : List Declared) (construct : Construct) (act : Act) (slot : ℕ) → IsMentioned (said visible construct act).mentions slot → IsMentioned construct.mentions slot ⊎ ListsSlot visible slot act
said-listed visible construct (Clause one) slot is = inl is
said-listed visible construct (Listing name spot clause) slot is = listing-listed construct clause (find visible name) slot is
said-listed visible construct other slot is = inl is

listed-said : (visible : List Declared) (construct : Construct) (act : Act) (slot : ℕ) → IsMentioned construct.mentions slot ⊎ ListsSlot visible slot act → IsMentioned (said visible construct act).mentions slot
listed-said visible construct (Clause one) slot (inl is) = is
listed-said visible construct (Clause one) slot (inr wrong) = absurd wrong
listed-said visible construct (Listing name spot clause) slot either = listed-listing construct clause (find visible name) slot either
listed-said visible construct other slot (inl is) = is
listed-said visible construct other slot (inr wrong) = absurd wrong

pub all-listed : (visible : List Declared) (construct : Construct) (acts : List Act) (slot : ℕ) → IsMentioned (said_all visible construct acts).mentions slot → IsMentioned construct.mentions slot ⊎ Has (ListsSlot visible slot) acts
all-listed visible construct [] slot is = inl is
all-listed visible construct (act ∷ acts) slot is =
    elim (all-listed visible (said visible construct act) acts slot is) [
      | inl before ↦ elim (said-listed visible construct act slot before) [ inl first ↦ inl first | inr now ↦ inr (inl now) ]
      | inr later ↦ inr (inr later)
    ]

pub listed-all : (visible : List Declared) (construct : Construct) (acts : List Act) (slot : ℕ) → IsMentioned construct.mentions slot ⊎ Has (ListsSlot visible slot) acts → IsMentioned (said_all visible construct acts).mentions slot
listed-all visible construct [] slot (inl is) = is
listed-all visible construct [] slot (inr wrong) = absurd wrong
listed-all visible construct (act ∷ acts) slot (inl is) = listed-all visible (said visible construct act) acts slot (inl (listed-said visible construct act slot (inl is)))
listed-all visible construct (act ∷ acts) slot (inr (inl now)) = listed-all visible (said visible construct act) acts slot (inl (listed-said visible construct act slot (inr now)))
listed-all visible construct (act ∷ acts) slot (inr (inr later)) = listed-all visible (said visible construct act) acts slot (inr later)

-- in the tree's words: what an act says, and what a clause does
module _ (P : Act → Type 0) (Q : Tree → Type 0) (there : (clause : Tree) → Has P (clause_inside (kind_of clause) (children_of clause)) → Q clause) where
  pub clauses-tell : (children : Children) → Has P (inside_acts children) → Has Q (clauses_of children)
  unfolding inside_acts clauses_of
  clauses-tell Over has = absurd has
  clauses-tell (Absent rest) has = absurd has
  clauses-tell (Child (Node (node.Clause lead) spot name number text Over) rest) has = clauses-tell rest has
  clauses-tell (Child (Node (node.Clause lead) spot name number text (Absent more)) rest) has = clauses-tell rest has
  clauses-tell (Child (Node (node.Clause lead) spot name number text (Child (Node kind place other value bytes children) more)) rest) has =
      elim (has-either P (clause_inside kind children) (inside_acts rest) has) [
        | inl this ↦ inl (there (Node kind place other value bytes children) this)
        | inr others ↦ inr (clauses-tell rest others)
      ]
  clauses-tell (Child (Node other spot name number text children) rest) has = clauses-tell rest has

module _ (P : Act → Type 0) (Q : Tree → Type 0) (back : (clause : Tree) → Q clause → Has P (clause_inside (kind_of clause) (children_of clause))) where
  pub tell-clauses : (children : Children) → Has Q (clauses_of children) → Has P (inside_acts children)
  unfolding inside_acts clauses_of
  tell-clauses Over has = absurd has
  tell-clauses (Absent rest) has = absurd has
  tell-clauses (Child (Node (node.Clause lead) spot name number text Over) rest) has = tell-clauses rest has
  tell-clauses (Child (Node (node.Clause lead) spot name number text (Absent more)) rest) has = tell-clauses rest has
  tell-clauses (Child (Node (node.Clause lead) spot name number text (Child (Node kind place other value bytes children) more)) rest) (inl this) =
      has-left P (clause_inside kind children) (inside_acts rest) (back (Node kind place other value bytes children) this)
  tell-clauses (Child (Node (node.Clause lead) spot name number text (Child (Node kind place other value bytes children) more)) rest) (inr others) =
      has-right P (clause_inside kind children) (inside_acts rest) (tell-clauses rest others)
  tell-clauses (Child (Node other spot name number text children) rest) has = tell-clauses rest has

names-no-none : (clause : DataClause) (children : Children) → Has SaysNone (names (naming.Listed clause) children) → ⊥
unfolding names
names-no-none clause Over has = has
names-no-none clause (Absent rest) has = has
names-no-none clause (Child tree rest) (inl wrong) = absurd (cc)
names-no-none clause (Child tree rest) (inr there) = names-no-none clause rest there

-- one act that doesn't say it
one-not : (act : Act) → says_none act ≡ false → Has SaysNone (act ∷ []) → ⊥
one-not act is (inl says) = absurd (let no : true ≡ false = sym says ∙ is in cc)
one-not act is (inr none) = none

default-none : (word : Default) → Has SaysNone (Clause (single.Default word) ∷ []) → is_default_none (node.Default word) ≡ true
default-none default.Shared has = absurd (one-not (Clause (single.Default default.Shared)) refl has)
default-none default.None has = refl

none-there : (kind : NodeKind) (children : Children) → Has SaysNone (clause_inside kind children) → is_default_none kind ≡ true
none-there node.NumThreads children has = absurd (one-not (Clause single.NumThreads) refl has)
none-there (node.Default word) children has = default-none word has
none-there (node.Data which) children has = absurd (names-no-none _ children has)
none-there (node.Reduction operator) children has = absurd (names-no-none _ children has)
none-there (node.Schedule kind) children has = absurd (one-not (Clause (single.Schedule (chunk_of children))) refl has)
none-there node.Nowait children has = absurd (one-not (Clause single.Nowait) refl has)
none-there node.IfClause children has = absurd (one-not (Clause single.If) refl has)
none-there other children has = absurd has

none-back : (kind : NodeKind) (children : Children) → is_default_none kind ≡ true → Has SaysNone (clause_inside kind children)
none-back (node.Default default.None) children is = inl refl
none-back (node.Default default.Shared) children is = absurd (let no : false ≡ true = is in cc)
none-back other children is = absurd (let no : false ≡ true = is in cc)

abbrev pub IsNoneClause : Tree → Type 0
IsNoneClause clause = is_default_none (kind_of clause) ≡ true

pub none-tells : (children : Children) → Has SaysNone (inside_acts children) → Has IsNoneClause (clauses_of children)
none-tells children has = clauses-tell SaysNone IsNoneClause (λ clause some. none-there (kind_of clause) (children_of clause) some) children has

pub none-says : (children : Children) → Has IsNoneClause (clauses_of children) → Has SaysNone (inside_acts children)
none-says children has = tell-clauses SaysNone IsNoneClause (λ clause is. none-back (kind_of clause) (children_of clause) is) children has

-- a data clause that lists what has a slot
abbrev pub IsUsedWith : List Declared → ℕ → Used → Type 0
IsUsedWith visible slot one = HasSlot (find visible one.name) slot

pub record ListsIn (visible : List Declared) (slot : ℕ) (clause : Tree) : Type 0 where
  pub is : is_data (kind_of clause) ≡ true
  pub lists : Has (IsUsedWith visible slot) (used clause)

names-list : (visible : List Declared) (slot : ℕ) (clause : DataClause) (children : Children) → Has (ListsSlot visible slot) (names (naming.Listed clause) children) → Has (IsUsedWith visible slot) (each_used children)
unfolding names each_used
names-list visible slot clause Over has = has
names-list visible slot clause (Absent rest) has = has
names-list visible slot clause (Child tree rest) (inl this) = inl this
names-list visible slot clause (Child tree rest) (inr there) = inr (names-list visible slot clause rest there)

list-names : (visible : List Declared) (slot : ℕ) (clause : DataClause) (children : Children) → Has (IsUsedWith visible slot) (each_used children) → Has (ListsSlot visible slot) (names (naming.Listed clause) children)
unfolding names each_used
list-names visible slot clause Over has = has
list-names visible slot clause (Absent rest) has = has
list-names visible slot clause (Child tree rest) (inl this) = inl this
list-names visible slot clause (Child tree rest) (inr there) = inr (list-names visible slot clause rest there)

no-list : {A : Type 0} (visible : List Declared) (slot : ℕ) (one : Single) → Has (ListsSlot visible slot) (Clause one ∷ []) → A
no-list visible slot one (inl wrong) = absurd wrong
no-list visible slot one (inr wrong) = absurd wrong

list-there : (visible : List Declared) (slot : ℕ) (clause : Tree) → Has (ListsSlot visible slot) (clause_inside (kind_of clause) (children_of clause)) → ListsIn visible slot clause
list-there visible slot (Node node.NumThreads spot name number text children) has = no-list visible slot single.NumThreads has
list-there visible slot (Node (node.Default word) spot name number text children) has = no-list visible slot (single.Default word) has
list-there visible slot (Node (node.Data which) spot name number text children) has = record { is = refl; lists = names-list visible slot _ children has }
list-there visible slot (Node (node.Reduction operator) spot name number text children) has = record { is = refl; lists = names-list visible slot _ children has }
list-there visible slot (Node (node.Schedule kind) spot name number text children) has = no-list visible slot (single.Schedule (chunk_of children)) has
list-there visible slot (Node node.Nowait spot name number text children) has = no-list visible slot single.Nowait has
list-there visible slot (Node node.IfClause spot name number text children) has = no-list visible slot single.If has
list-there visible slot (Node other spot name number text children) has = absurd has

list-back : (visible : List Declared) (slot : ℕ) (clause : Tree) → ListsIn visible slot clause → Has (ListsSlot visible slot) (clause_inside (kind_of clause) (children_of clause))
list-back visible slot (Node (node.Data which) spot name number text children) it = list-names visible slot _ children it.lists
list-back visible slot (Node (node.Reduction operator) spot name number text children) it = list-names visible slot _ children it.lists
list-back visible slot (Node other spot name number text children) it = absurd (let no : false ≡ true = it.is in cc)

pub list-tells : (visible : List Declared) (slot : ℕ) (children : Children) → Has (ListsSlot visible slot) (inside_acts children) → Has (ListsIn visible slot) (clauses_of children)
list-tells visible slot children has = clauses-tell (ListsSlot visible slot) (ListsIn visible slot) (list-there visible slot) children has

pub list-says : (visible : List Declared) (slot : ℕ) (children : Children) → Has (ListsIn visible slot) (clauses_of children) → Has (ListsSlot visible slot) (inside_acts children)
list-says visible slot children has = tell-clauses (ListsSlot visible slot) (ListsIn visible slot) (list-back visible slot) children has
