-- What the reader's steps come to.
use Rattle.std.proofs.Common.{◌≡◌, List, sym, subst}
use Rattle.c_syntax.specs.declared.fault.SyntaxFault.{SyntaxFault}
use Rattle.c_syntax.specs.declared.fault.SyntaxFault.TheVariants as fault
use Rattle.c_syntax.specs.language.Words.{Word}
use Rattle.c_syntax.specs.language.Faults.{IsFault}
use Rattle.c_syntax.specs.workings.ReaderViews.{MayFault}

pub MayFault-is : (words : List Word) (found : SyntaxFault) → IsFault words found → MayFault words found
MayFault-is words (fault.Unexpected spot) is = is
MayFault-is words (fault.UnknownDirective spot) is = is
MayFault-is words (fault.OutOfProfile spot) is = is
MayFault-is words (fault.TooDeep spot) is = is
MayFault-is words fault.Memory is = tt

-- a word that is refused, with the fault that was found
pub refused : (words : List Word) (found known : SyntaxFault) → found ≡ known → IsFault words known → MayFault words found
refused words found known same is = MayFault-is words found (subst (IsFault words) (sym same) is)
