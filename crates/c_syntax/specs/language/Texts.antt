-- The texts that are programs, with their trees, and the faults of those that are none.
use Rattle.std.specs.Prelude.{ℕ, List}
use Rattle.c_tokens.specs.declared.token.Token.{Token}
use Rattle.c_tokens.specs.language.Places.{beginning}
use Rattle.c_tokens.specs.language.Pieces.{Reads}
use Rattle.c_syntax.specs.declared.fault.SyntaxFault.{SyntaxFault}
use Rattle.c_syntax.specs.language.Words.{words_of}
use Rattle.c_syntax.specs.language.Tree.{Tree}
use Rattle.c_syntax.specs.language.Productions.{IsProgram, depth_limit}
use Rattle.c_syntax.specs.language.Faults.{IsFault}

-- the text is read as tokens, and their words are a program with this tree, in which nothing is deeper than the limit of programs
pub record Spells (text : List ℕ) (tree : Tree) : Type 0 where
  pub tokens : List Token
  pub read : Reads beginning text tokens
  pub spelled : IsProgram depth_limit (words_of text tokens) tree

-- the text is read as tokens, and this is the fault of their words
pub record HasSyntaxFault (text : List ℕ) (found : SyntaxFault) : Type 0 where
  pub tokens : List Token
  pub read : Reads beginning text tokens
  pub fault : IsFault (words_of text tokens) found
