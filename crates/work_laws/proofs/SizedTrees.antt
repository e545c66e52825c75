-- Statements in which each construct has a schedule with a size from 1 on, if it has one.
use Rattle.std.proofs.Common.{◌≤◌}
use Rattle.c_syntax.specs.language.Tree.{Tree, Children, nothing}
use Rattle.c_model.specs.declared.point.Schedule.{Schedule}
use Rattle.c_model.specs.declared.point.Schedule.TheVariants.{Dynamic, Guided, Static}
use Rattle.c_model.specs.Clauses.{clauses_among, schedule_among, schedule_of}
use Rattle.c_model.specs.Parts.{trees_in}
use Rattle.work_laws.proofs.ConstructTrees.{EachConstruct, EachConstructIn, each-rules}
use Rattle.work_laws.proofs.Items.{AreRules}

-- the size of a schedule that deals chunks to whoever asks
abbrev pub HasSize : Schedule → Type 0
HasSize (Static size) = Unit {0}
HasSize (Dynamic size) = 1 ≤ size
HasSize (Guided size) = 1 ≤ size

abbrev pub HasSized : Tree → Type 0
HasSized construct = HasSize (schedule_of construct)

abbrev pub Sized : Tree → Type 0
Sized tree = EachConstruct HasSized tree

abbrev pub SizedEach : Children → Type 0
SizedEach children = EachConstructIn HasSized children

no-size : HasSized nothing
unfolding clauses_among schedule_among trees_in
no-size = tt

pub sized-rules : AreRules Sized HasSized
sized-rules = each-rules HasSized no-size
