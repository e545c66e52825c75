-- A text whose tokens are read has one tree, or one fault.
use Rattle.std.proofs.Common.{ℕ, ◌≡◌, ◌⊎◌, List, inl, inr, subst}
use Rattle.c_tokens.specs.declared.token.Token.{Token}
use Rattle.c_tokens.specs.language.Places.{beginning}
use Rattle.c_tokens.specs.language.Pieces.{Reads}
use Rattle.c_tokens.proofs.Law.{reads-one, reads-tokens}
use Rattle.c_syntax.specs.declared.fault.SyntaxFault.{SyntaxFault}
use Rattle.c_syntax.specs.language.Words.{words_of}
use Rattle.c_syntax.specs.language.Tree.{Tree}
use Rattle.c_syntax.specs.language.Faults.{IsAnswered, IsFault}
use Rattle.c_syntax.proofs.Answering.{text-answered}
use Rattle.c_syntax.proofs.Unique.{fault-one, program-no_fault, program-one}
use Rattle.c_syntax.specs.language.Productions.{IsProgram, depth_limit}
use Rattle.c_syntax.specs.language.Texts.{HasSyntaxFault, Spells}

pub tree_one : (text : List ℕ) (first second : Tree) → Spells text first → Spells text second → first ≡ second
tree_one text first second one other =
    let same : other.tokens ≡ one.tokens = reads-one text other.tokens one.tokens other.read one.read in
    program-one depth_limit (words_of text one.tokens) first second one.spelled
    (subst (λ (tokens : List Token). IsProgram depth_limit (words_of text tokens) second) same other.spelled)

pub fault_one : (text : List ℕ) (first second : SyntaxFault) → HasSyntaxFault text first → HasSyntaxFault text second → first ≡ second
fault_one text first second one other =
    let same : other.tokens ≡ one.tokens = reads-one text other.tokens one.tokens other.read one.read in
    fault-one (words_of text one.tokens) first second one.fault (subst (λ (tokens : List Token). IsFault (words_of text tokens) second) same other.fault)

pub not_both : (text : List ℕ) (tree : Tree) (found : SyntaxFault) → Spells text tree → HasSyntaxFault text found → ⊥
not_both text tree found one other =
    let same : other.tokens ≡ one.tokens = reads-one text other.tokens one.tokens other.read one.read in
    program-no_fault (words_of text one.tokens) tree found one.spelled
    (subst (λ (tokens : List Token). IsFault (words_of text tokens) found) same other.fault)

pub tree_or_fault : (text : List ℕ) (tokens : List Token) → Reads beginning text tokens → ((tree : Tree) × Spells text tree) ⊎ ((found : SyntaxFault) × HasSyntaxFault text found)
tree_or_fault text tokens read = by-answer (text-answered text tokens (reads-tokens text tokens read))
  where
    by-answer : IsAnswered (words_of text tokens) → ((tree : Tree) × Spells text tree) ⊎ ((found : SyntaxFault) × HasSyntaxFault text found)
    by-answer (inl (tree, program)) = inl (tree, record { tokens = tokens; read = read; spelled = program })
    by-answer (inr (found, is)) = inr (found, record { tokens = tokens; read = read; fault = is })
