use Rattle.std.proofs.Common.{◌≡◌, ◌∙◌, ◌∷◌, ◌++◌, List, Option, reverse, sym, ap, subst}
use Rattle.c_check.specs.Around.{numbered}
use Rattle.c_check.specs.Constructs.{Construct, open_constructs, with_newest}
use Rattle.c_check.specs.Copies.{AreCopies}
use Rattle.c_check.specs.Rules.{is_some_copy}
use Rattle.c_check.specs.Shares.{copies_around}
use Rattle.c_check.proofs.Copying.{copied-inside, noted-inside}
use Rattle.c_check.proofs.constructs.arena.Constructs.note_copies.Goals as goal
use Rattle.c_check.proofs.constructs.arena.Constructs.note_copies.Goals.{In-Some}

outer : (c : In-Some) → List Construct
outer c = numbered c.deref.result.now (reverse c.deref-2.result.now)

are_open : (c : In-Some) → c.in-Some.newest ∷ outer c ≡ open_constructs c.args.self.now
unfolding outer
are_open c =
    rw (c.deref.ensures.value, c.deref-2.ensures.value)
    (ap (λ (newest : Option Construct). with_newest newest (numbered c.self.inside.older.items (reverse c.self.inside.around.items))) (sym c.in-Some.is) ∙ ap open_constructs c.self.view_is)

pub returns-in_ok-note_one-in-Some-clause-copied : goal.returns-in_ok-note_one-in-Some-clause-copied
unfolding outer
returns-in_ok-note_one-in-Some-clause-copied c =
    let here = (goal.at.returns-in_ok-note_one-in-Some-clause-copied c).In-Some in
    c.in_ok-note_one-in-Some.ensures.copied
    ∙ copied-inside c.in-Some.newest (outer here) c.args.of_file c.args.slot c.in_ok-found.found.by_rule c.in_ok-found.ensures.by_rule c.in_ok-found.found.copied c.in_ok-found.ensures.copied
    ∙ ap (λ (around : List Construct). is_some_copy (copies_around around c.args.of_file c.args.slot)) (are_open here)

pub returns-in_ok-note_one-in-Some-clause-noted : goal.returns-in_ok-note_one-in-Some-clause-noted
unfolding outer
returns-in_ok-note_one-in-Some-clause-noted c = λ before copies.
    let here = (goal.at.returns-in_ok-note_one-in-Some-clause-noted c).In-Some in
    subst (λ (around : List Construct). AreCopies (before ++ copies_around around c.args.of_file c.args.slot) c.note_one.new.copies) (are_open here)
    (noted-inside c.in-Some.newest (outer here) c.args.of_file c.args.slot c.in_ok-found.found.by_rule c.in_ok-found.ensures.by_rule c.note_one.new.copies before (c.in_ok-note_one-in-Some.ensures.noted _ (c.in_ok-found.ensures.noted before copies)))
