-- The table's rules of statements that begin with a name, a bump or a routine do no more than what their sorts mean.
use Rattle.std.proofs.Common.{ℕ, ◌≡◌, IsTrue, List, [], ◌∷◌, Some, refl, ap, subst}
use Rattle.std.proofs.lemmas.Bool.{false≢true}
use Rattle.c_syntax.specs.declared.grammar.Class.TheVariants as class
use Rattle.c_syntax.specs.declared.head.Head.{Head}
use Rattle.c_syntax.specs.declared.head.Head.TheVariants as head
use Rattle.c_syntax.specs.declared.node.Bump.{Bump}
use Rattle.c_syntax.specs.declared.node.LockCall.{LockCall}
use Rattle.c_syntax.specs.declared.node.LockCall.TheVariants as lock_call
use Rattle.c_syntax.specs.declared.node.Setting.{Setting}
use Rattle.c_syntax.specs.declared.node.Setting.TheVariants as setting
use Rattle.c_syntax.specs.declared.node.Side.TheVariants as side
use Rattle.c_syntax.specs.declared.node.NodeKind.TheVariants as node
use Rattle.c_syntax.specs.declared.term.Term.{Term}
use Rattle.c_syntax.specs.declared.term.Term.TheVariants as term
use Rattle.c_syntax.specs.language.Heads.{behind_outside}
use Rattle.c_syntax.specs.language.Words.{Word}
use Rattle.c_syntax.specs.language.Tree.{Tree, over_one, over_two}
use Rattle.c_syntax.specs.language.Tree.Tree.{Node}
use Rattle.c_syntax.specs.workings.Derivation.{Opened, is_text, keep, kept, opened_at, with_child}
use Rattle.c_syntax.specs.language.Productions.{Call, Lock, MoreArguments, Place, Statement, StepOf, bump_sign, kids, made_at, routine_word, setting_sign}
use Rattle.c_syntax.proofs.CallMeaning.{Assigned, Holds, Named, ReadsAfterAssignName, ReadsAfterPlace, ReadsAfterStatementName, ReadsAssign, ReadsMoreArgs, ReadsStatement}
use Rattle.c_syntax.proofs.CallRows.{ReadsCall, ReadsLock, ReadsTails, ReadsTest, by_name, called, locked, tested}
use Rattle.c_syntax.proofs.Effects.{Effect, Expects, Takes, Opens, Makes, Joins, Wraps}
use Rattle.c_syntax.proofs.ExpressionFolds.{ReadsIndex, ReadsPlace, ReadsRanked, expression-behind_name, expression-read, place-behind_name}
use Rattle.c_syntax.proofs.Pushing.{all_added, made-pushed}
use Rattle.c_syntax.proofs.Standing.{Stands}
use Rattle.c_syntax.proofs.StepWords.{bump-outside, setting-outside}

-- ---- what is assigned

abbrev pub Sets : Effect → Effect
Sets next = Joins (node.Assign setting.Plain) (Wraps node.Step next)

pub assign_expression : (limit : ℕ) (next : Effect) (depth : ℕ) (at : Head) (words : List Word) (nodes : List Opened) → ReadsRanked limit 6 (ReadsTails limit (Sets next)) depth at words nodes
    → ReadsAssign limit next depth at words nodes
assign_expression limit next depth at words nodes reads left before (Holds.holds {own = own} {outer = outer}) =
    let whole = expression-read limit (Sets next) depth head.Outside words (with_child (Some left) own ∷ outer) reads refl in
    (whole.0, over_one node.Step (over_two (node.Assign setting.Plain) left whole.1), Assigned.expression whole.2, whole.3)

pub assign_test : (limit : ℕ) (next : Effect) (depth : ℕ) (at : Head) (words : List Word) (nodes : List Opened) → ReadsTest (Joins node.SetCall next) depth at words nodes
    → ReadsAssign limit next depth at words nodes
assign_test limit next depth at words nodes reads left before (Holds.holds {own = own} {outer = outer}) =
    let call = tested limit (Joins node.SetCall next) depth words (with_child (Some left) own) outer reads in
    (call.0, over_two node.SetCall left call.1, Assigned.called call.2, call.3)

pub assign_named : (limit : ℕ) (next : Effect) (depth : ℕ) (at : Head) (words : List Word) (nodes : List Opened) → Opens (Takes class.Name (ReadsAfterAssignName limit next)) depth at words nodes
    → ReadsAssign limit next depth at words nodes
assign_named limit next depth at [] nodes fails left before holds = absurd fails
assign_named limit next depth at (word ∷ words) nodes taken left before (Holds.holds {own = own} {outer = outer}) =
    by_name (ReadsAssign limit next) depth word words (with_child (Some left) own ∷ outer) taken left (own ∷ outer) Holds.holds

pub assign_named_call : (limit : ℕ) (next : Effect) (depth : ℕ) (at : Head) (words : List Word) (nodes : List Opened) → ReadsCall limit (Joins node.SetCall next) depth at words nodes
    → ReadsAfterAssignName limit next depth at words nodes
assign_named_call limit next depth at words nodes reads word others (Named.named named) left before (Holds.holds {own = own} {outer = outer}) =
    let call = called limit (Joins node.SetCall next) depth word words (with_child (Some left) own) outer named reads in
    (call.0, over_two node.SetCall left call.1, Assigned.called call.2, call.3)

pub assign_named_place : (limit : ℕ) (next : Effect) (depth : ℕ) (at : Head) (words : List Word) (nodes : List Opened)
    → ReadsIndex limit (Makes node.Place (ReadsTails limit (Sets next))) depth at words nodes → ReadsAfterAssignName limit next depth at words nodes
assign_named_place limit next depth at words nodes reads word others (Named.named named) left before (Holds.holds {own = own} {outer = outer}) =
    let whole = expression-behind_name limit (Sets next) depth word words (with_child (Some left) own ∷ outer) named reads refl in
    (whole.0, over_one node.Step (over_two (node.Assign setting.Plain) left whole.1), Assigned.expression whole.2, whole.3)

-- ---- statements behind their name

pub statement_named_call : (limit : ℕ) (next : Effect) (depth : ℕ) (at : Head) (words : List Word) (nodes : List Opened)
    → ReadsCall limit (Wraps node.Called (Expects term.Semicolon next)) depth at words nodes → ReadsAfterStatementName limit next depth at words nodes
statement_named_call limit next depth at words nodes reads word [] (Named.named named) stands = elim stands [ ]
statement_named_call limit next depth at words nodes reads word (parent ∷ outer) (Named.named named) stands =
    let call = called limit (Wraps node.Called (Expects term.Semicolon next)) depth word words parent outer named reads in
    ending call.0 call.1 call.2 call.3
  where
    ending : (rest : List Word) (tree : Tree) → Call limit depth (word ∷ words) rest tree → Expects term.Semicolon next depth head.Outside rest (with_child (Some (over_one node.Called tree)) parent ∷ outer)
        → (rest : List Word) × (tree : Tree) × Statement limit depth (word ∷ words) rest tree × next depth head.Outside rest (with_child (Some tree) parent ∷ outer)
    ending [] tree call fails = absurd fails
    ending (last ∷ rest) tree call (ends, goes) = (rest, over_one node.Called tree, Statement.called call ends, goes)

pub statement_named_place : (limit : ℕ) (next : Effect) (depth : ℕ) (at : Head) (words : List Word) (nodes : List Opened)
    → ReadsIndex limit (Makes node.Place (ReadsAfterPlace limit next)) depth at words nodes → ReadsAfterStatementName limit next depth at words nodes
statement_named_place limit next depth at words nodes reads word [] (Named.named named) stands = elim stands [ ]
statement_named_place limit next depth at words nodes reads word (parent ∷ outer) (Named.named named) stands =
    let place = place-behind_name limit (ReadsAfterPlace limit next) depth word words (parent ∷ outer) named reads refl in
    place.3 place.1 (parent ∷ outer) Holds.holds (word ∷ words) place.2 Stands.stands

-- ---- statements behind their place

abbrev AddsStatement : ℕ → Effect → ℕ → List Word → Opened → List Opened → Type 0
AddsStatement limit next depth words own outer = (rest : List Word) × (tree : Tree) × Statement limit depth words rest tree × next depth head.Outside rest (with_child (Some tree) own ∷ outer)

-- a step is one with its semicolon
stepped : (limit : ℕ) (next : Effect) (depth : ℕ) (from rest : List Word) (own : Opened) (outer : List Opened) (tree : Tree) → StepOf limit depth from rest tree
    → Expects term.Semicolon next depth head.Outside rest (with_child (Some (over_one node.Step tree)) own ∷ outer) → AddsStatement limit next depth from own outer
stepped limit next depth from [] own outer tree step fails = absurd fails
stepped limit next depth from (last ∷ rest) own outer tree step (ends, goes) = (rest, over_one node.Step tree, Statement.stepped step ends, goes)

pub place_set : (limit : ℕ) (next : Effect) (depth : ℕ) (at : Head) (words : List Word) (nodes : List Opened) → Expects term.Set (ReadsAssign limit (Expects term.Semicolon next)) depth at words nodes
    → ReadsAfterPlace limit next depth at words nodes
place_set limit next depth at [] nodes fails left before (Holds.holds {own = own} {outer = outer}) from place stands = absurd fails
place_set limit next depth at (equals ∷ words) nodes (sets, reads) left before (Holds.holds {own = own} {outer = outer}) from place stands =
    let right = reads left (own ∷ outer) Holds.holds in
    ending right.0 right.1 right.2 right.3
  where
    ending : (rest : List Word) (tree : Tree) → Assigned limit depth left words rest tree → Expects term.Semicolon next depth head.Outside rest (with_child (Some tree) own ∷ outer)
        → AddsStatement limit next depth from own outer
    ending rest tree (Assigned.expression {right = right} expression) goes =
        stepped limit next depth from rest own outer (over_two (node.Assign setting.Plain) left right) (StepOf.assigned setting.Plain place sets expression) goes
    ending [] tree (Assigned.called call) fails = absurd fails
    ending (last ∷ rest) tree (Assigned.called call) (ends, goes) = (rest, tree, Statement.set_call place sets call ends, goes)

pub place_changed : (limit : ℕ) (which : Setting) (next : Effect) (depth : ℕ) (at : Head) (words : List Word) (nodes : List Opened)
    → Expects (setting_sign which) (ReadsRanked limit 0 (Joins (node.Assign which) (Wraps node.Step (Expects term.Semicolon next)))) depth at words nodes → ReadsAfterPlace limit next depth at words nodes
place_changed limit which next depth at [] nodes fails left before (Holds.holds {own = own} {outer = outer}) from place stands = absurd fails
place_changed limit which next depth at (word ∷ words) nodes (is, reads) left before (Holds.holds {own = own} {outer = outer}) from place stands =
    let After : Effect = Joins (node.Assign which) (Wraps node.Step (Expects term.Semicolon next)) in
    let right = subst (λ here. ReadsRanked limit 0 After depth here words (with_child (Some left) own ∷ outer)) (setting-outside which) reads refl in
    stepped limit next depth from right.0 own outer (over_two (node.Assign which) left right.1) (StepOf.assigned which place is right.2) right.3

pub place_bumped : (limit : ℕ) (which : Bump) (next : Effect) (depth : ℕ) (at : Head) (words : List Word) (nodes : List Opened)
    → Expects (bump_sign which) (Wraps (node.Bump which side.Behind) (Wraps node.Step (Expects term.Semicolon next))) depth at words nodes → ReadsAfterPlace limit next depth at words nodes
place_bumped limit which next depth at [] nodes fails left before (Holds.holds {own = own} {outer = outer}) from place stands = absurd fails
place_bumped limit which next depth at (word ∷ words) nodes (is, goes) left before (Holds.holds {own = own} {outer = outer}) from place stands =
    let After : Effect = Wraps (node.Bump which side.Behind) (Wraps node.Step (Expects term.Semicolon next)) in
    stepped limit next depth from words own outer (over_one (node.Bump which side.Behind) left) (StepOf.behind which place is)
    (subst (λ here. After depth here words (with_child (Some left) own ∷ outer)) (bump-outside which) goes)

-- ---- statements that begin with another word

pub statement_bumped : (limit : ℕ) (which : Bump) (next : Effect) (depth : ℕ) (at : Head) (words : List Word) (nodes : List Opened)
    → Opens (Opens (Expects (bump_sign which) (ReadsPlace limit (Makes (node.Bump which side.Before) (Expects term.Semicolon (Makes node.Step next)))))) depth at words nodes
    → ReadsStatement limit next depth at words nodes
statement_bumped limit which next depth at [] nodes fails stands = absurd fails
statement_bumped limit which next depth at (word ∷ words) [] reads stands = elim stands [ ]
statement_bumped limit which next depth at (word ∷ words) (own ∷ outer) (is, reads) Stands.stands =
    let After : Effect = Makes (node.Bump which side.Before) (Expects term.Semicolon (Makes node.Step next)) in
    let place = subst (λ here. ReadsPlace limit After depth here words (opened_at word.spot ∷ opened_at word.spot ∷ own ∷ outer)) (bump-outside which) reads refl in
    ending place.0 place.1 place.2 place.3
  where
    ending : (rest : List Word) (tree : Tree) → Place limit depth head.Outside words rest tree
        → Expects term.Semicolon (Makes node.Step next) depth head.Outside rest (with_child (Some (made_at (node.Bump which side.Before) word (kids (tree ∷ [])))) (opened_at word.spot) ∷ own ∷ outer)
        → AddsStatement limit next depth (word ∷ words) own outer
    ending [] tree place fails = absurd fails
    ending (last ∷ rest) tree place (ends, goes) =
        (rest, over_one node.Step (made_at (node.Bump which side.Before) word (kids (tree ∷ []))), Statement.stepped (StepOf.before which is place) ends, goes)

pub statement_test : (limit : ℕ) (next : Effect) (depth : ℕ) (at : Head) (words : List Word) (nodes : List Opened)
    → Opens (ReadsTest (Expects term.Semicolon (Makes node.Called next))) depth at words nodes → ReadsStatement limit next depth at words nodes
statement_test limit next depth at [] nodes fails stands = absurd fails
statement_test limit next depth at (word ∷ words) [] reads stands = elim stands [ ]
statement_test limit next depth at (word ∷ words) (own ∷ outer) (is, reads) Stands.stands =
    let lock = locked (Makes node.TestLock (Expects term.Semicolon (Makes node.Called next))) depth words (opened_at word.spot) (opened_at word.spot ∷ own ∷ outer) reads in
    ending lock.0 lock.1 lock.2 lock.3
  where
    ending : (rest : List Word) (tree : Tree) → Lock words rest tree
        → Expects term.Semicolon (Makes node.Called next) depth head.Outside rest (with_child (Some (made_at node.TestLock word (kids (tree ∷ [])))) (opened_at word.spot) ∷ own ∷ outer)
        → AddsStatement limit next depth (word ∷ words) own outer
    ending [] tree lock fails = absurd fails
    ending (last ∷ rest) tree lock (ends, goes) = (rest, over_one node.Called (made_at node.TestLock word (kids (tree ∷ []))), Statement.called (Call.test is lock) ends, goes)

pub statement_lock : (limit : ℕ) (which : LockCall) (next : Effect) (depth : ℕ) (at : Head) (words : List Word) (nodes : List Opened)
    → Opens (Expects (routine_word which) (ReadsLock (Expects term.Semicolon (Makes (node.LockCall which) next)))) depth at words nodes → ReadsStatement limit next depth at words nodes
statement_lock limit which next depth at [] nodes fails stands = absurd fails
statement_lock limit which next depth at (word ∷ words) [] reads stands = elim stands [ ]
statement_lock limit which next depth at (word ∷ words) (own ∷ outer) (is, reads) Stands.stands =
    let After : Effect = Expects term.Semicolon (Makes (node.LockCall which) next) in
    let lock = locked After depth words (opened_at word.spot) (own ∷ outer) (subst (λ here. ReadsLock After depth here words (opened_at word.spot ∷ own ∷ outer)) (routine-outside which) reads) in
    ending lock.0 lock.1 lock.2 lock.3
  where
    routine-outside : (which : LockCall) → behind_outside (routine_word which) ≡ head.Outside
    routine-outside lock_call.Init = refl
    routine-outside other = refl

    ending : (rest : List Word) (tree : Tree) → Lock words rest tree → Expects term.Semicolon (Makes (node.LockCall which) next) depth head.Outside rest (with_child (Some tree) (opened_at word.spot) ∷ own ∷ outer)
        → AddsStatement limit next depth (word ∷ words) own outer
    ending [] tree lock fails = absurd fails
    ending (last ∷ rest) tree lock (ends, goes) = (rest, made_at (node.LockCall which) word (kids (tree ∷ [])), Statement.locking which is lock ends, goes)

-- `printf`
text-is : (word : Term) → IsTrue (is_text word) → word ≡ term.Text
text-is term.Text is = refl
text-is other fails = absurd (false≢true fails)

pub statement_print : (limit : ℕ) (next : Effect) (depth : ℕ) (at : Head) (words : List Word) (nodes : List Opened)
    → Opens (Expects term.Printf (Expects term.OpenParen (Takes class.Text (ReadsMoreArgs limit (Expects term.CloseParen (Expects term.Semicolon (Makes node.Print next))))))) depth at words nodes
    → ReadsStatement limit next depth at words nodes
statement_print limit next depth at [] nodes fails stands = absurd fails
statement_print limit next depth at (word ∷ words) [] reads stands = elim stands [ ]
statement_print limit next depth at (word ∷ []) (own ∷ outer) (is, fails) Stands.stands = absurd fails
statement_print limit next depth at (word ∷ first ∷ []) (own ∷ outer) (is, (opens, fails)) Stands.stands = absurd fails
statement_print limit next depth at (word ∷ first ∷ told ∷ words) (own ∷ outer) (is, (opens, (texts, reads))) Stands.stands =
    let After : Effect = Expects term.CloseParen (Expects term.Semicolon (Makes node.Print next)) in
    let arguments = subst (λ here. ReadsMoreArgs limit After depth here words (kept class.Text told (opened_at word.spot ∷ own ∷ outer))) (ap behind_outside (text-is told.term texts)) reads Stands.stands in
    ending arguments.0 arguments.1 arguments.2 arguments.3
  where
    ending : (rest : List Word) (trees : List Tree) → MoreArguments limit depth words rest trees
        → Expects term.CloseParen (Expects term.Semicolon (Makes node.Print next)) depth head.Outside rest (all_added trees (keep class.Text told (opened_at word.spot) ∷ own ∷ outer))
        → AddsStatement limit next depth (word ∷ first ∷ told ∷ words) own outer
    ending [] trees arguments fails = absurd fails
    ending (last ∷ []) trees arguments (closes, fails) = absurd fails
    ending (last ∷ end ∷ rest) trees arguments (closes, (ends, goes)) = (
      rest,
      Node node.Print word.spot 0 0 told.text (kids trees),
      Statement.print is opens (text-is told.term texts) arguments closes ends,
      subst (next depth head.Outside rest) (made-pushed node.Print trees (keep class.Text told (opened_at word.spot)) own outer) goes,
    )
