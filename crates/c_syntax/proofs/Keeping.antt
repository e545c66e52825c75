-- What a step keeps of a word, by the value that it keeps.
use Rattle.std.proofs.Common.{◌≡◌, List, [], ◌∷◌, refl}
use Rattle.c_syntax.specs.declared.grammar.Class.TheVariants as class
use Rattle.c_syntax.specs.declared.node.Getter.{Getter}
use Rattle.c_syntax.specs.language.Words.{Word}
use Rattle.c_syntax.specs.workings.Derivation.{Opened, kept}
use Rattle.c_syntax.specs.workings.Keeping.{with_name, with_number, with_text}

pub kept-name : (word : Word) (nodes : List Opened) → kept class.Name word nodes ≡ with_name word.value nodes
kept-name word [] = refl
kept-name word (node ∷ outer) = refl

pub kept-routine : (which : Getter) (word : Word) (nodes : List Opened) → kept (class.Routine which) word nodes ≡ with_name word.value nodes
kept-routine which word [] = refl
kept-routine which word (node ∷ outer) = refl

pub kept-number : (word : Word) (nodes : List Opened) → kept class.Number word nodes ≡ with_number word.value nodes
kept-number word [] = refl
kept-number word (node ∷ outer) = refl

pub kept-text : (word : Word) (nodes : List Opened) → kept class.Text word nodes ≡ with_text word.text nodes
kept-text word [] = refl
kept-text word (node ∷ outer) = refl
