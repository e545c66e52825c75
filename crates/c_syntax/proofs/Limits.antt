-- What can be read within a limit of the depth can be read within a wider one.
use Rattle.std.proofs.Common.{ℕ, ◌≤◌, List, arith}
use Rattle.c_syntax.specs.declared.grammar.Step.{Step}
use Rattle.c_syntax.specs.declared.head.Head.{Head}
use Rattle.c_syntax.specs.language.Words.{Word}
use Rattle.c_syntax.specs.language.Tree.{Tree}
use Rattle.c_syntax.specs.workings.Derivation.{Derives, Opened}

pub within-wider : {limit wider depth : ℕ} {at : Head} {steps : List Step} {words : List Word} {nodes : List Opened} {tree : Tree} → limit ≤ wider → Derives limit steps depth at words nodes tree → Derives wider steps depth at words nodes tree
within-wider wide (Derives.over same) = Derives.over same
within-wider wide (Derives.expect same rest) = Derives.expect same (within-wider wide rest)
within-wider wide (Derives.deepen same low rest) = Derives.deepen same (omega arith) (within-wider wide rest)
within-wider wide (Derives.rise rest) = Derives.rise (within-wider wide rest)
within-wider wide (Derives.take fit rest) = Derives.take fit (within-wider wide rest)
within-wider wide (Derives.in_head inside rest) = Derives.in_head inside (within-wider wide rest)
within-wider wide (Derives.read same rest) = Derives.read same (within-wider wide rest)
within-wider wide (Derives.open_node rest) = Derives.open_node (within-wider wide rest)
within-wider wide (Derives.make rest) = Derives.make (within-wider wide rest)
within-wider wide (Derives.join rest) = Derives.join (within-wider wide rest)
within-wider wide (Derives.wrap rest) = Derives.wrap (within-wider wide rest)
within-wider wide (Derives.skip rest) = Derives.skip (within-wider wide rest)
