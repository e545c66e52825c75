use Rattle.std.proofs.Common.{◌∙◌, List, ℕ, [], sym, Bor}
use Rattle.c_syntax.specs.declared.term.Term.{Term}
use Rattle.c_syntax.specs.declared.term.Term.TheVariants as term
use Rattle.c_syntax.proofs.Lexemes.{look_up-found, look_up-over, look_up-passed}
use Rattle.c_syntax.proofs.lexeme.look_up.Goals as goal

-- what a look-up past the end gives
none : Bor (List ℕ) × Term
none = (record { ref_ptr = (0, 0); now = [] }, term.OpenBrace)

pub returns-then-eq : goal.returns-then-eq
unfolding none
returns-then-eq c =
    let found = look_up-found c.args.rows.now c.loop-word.word-index none c.args.bytes.now c.args.other c.loop-word-test.true (cc) in
    cc

pub loop-word-preserved : goal.loop-word-preserved
unfolding none
loop-word-preserved c = c.loop-word.invariant ∙ look_up-passed c.args.rows.now c.loop-word.word-index none c.args.bytes.now c.args.other c.loop-word-test.true (cc)

pub returns : goal.returns
returns c = sym (c.loop-word.invariant ∙ look_up-over c.args.rows.now c.loop-word.word-index c.args.bytes.now c.args.other c.loop-word-test.false)
