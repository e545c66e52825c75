use Rattle.std.proofs.Common.{◌≡◌, ◌≤◌, sym, ap, ◌∙◌, arith}
use Rattle.c_tokens.specs.declared.token.TokenKind.{TokenKind}
use Rattle.c_syntax.specs.declared.term.Term.TheVariants as term
use Rattle.c_syntax.specs.language.Words.{bytes_of, term_of}
use Rattle.c_syntax.proofs.Lexemes.{name-no_number}
use Rattle.c_syntax.proofs.words.word_of.Goals as goal
use Rattle.c_syntax.proofs.words.word_of.Goals.{in-Name+in_ok-value-in-Name, in-Number, in_default}

pub invariant_of-result : goal.invariant_of-result
invariant_of-result c =
    let bytes = bytes_of c.args.text.now c.args.token in
    let small : c.term_of.result ≡ term.Number → c.match-token.value ≤ 2147483647 =
    elim c.match-token.branch [
      | in-Name+in_ok-value-in-Name w ↦ λ same. absurd (name-no_number bytes (sym (c.term_of.ensures ∙ ap (λ (kind : TokenKind). term_of kind bytes) w.in-Name.is) ∙ same))
      | in-Number w ↦ λ same. omega (arith, w.value-is, w.decimal_value-value.ensures, c.requires.token.small w.in-Number.is)
      | in_default w ↦ λ same. omega arith
    ] in
    record { small = small }
