-- Some words more make words a program by the productions exactly where they do by the table.
use Rattle.std.proofs.Common.{ℕ, List, ◌++◌}
use Rattle.c_syntax.specs.language.Words.{Word}
use Rattle.c_syntax.specs.language.Productions.{GoesOn}
use Rattle.c_syntax.specs.workings.Derivation.{CanGoOn}
use Rattle.c_syntax.proofs.ProgramMeaning.{derives_program}
use Rattle.c_syntax.proofs.ProgramWords.{program_derives}

pub goes_by_table : (limit : ℕ) (words : List Word) → GoesOn limit words → CanGoOn limit words
goes_by_table limit words (more, tree, program) = (more, tree, program_derives limit (words ++ more) tree program)

pub goes_by_productions : (limit : ℕ) (words : List Word) → CanGoOn limit words → GoesOn limit words
goes_by_productions limit words (more, tree, derived) = (more, tree, derives_program limit (words ++ more) tree derived)
