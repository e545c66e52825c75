use Rattle.std.proofs.Common.{◌≡◌, ◌+◌, List, [], ◌∷◌, ◌++◌, map, take, drop, Result, Err, sym, ap, subst, ◌∙◌, arith}
use Rattle.std.proofs.lemmas.List.{drop_more, map-append, take-append-drop}
use Rattle.std.proofs.lemmas.Result.{err_from_is_err_and}
use Rattle.std.specs.Bool.{⊤}
use Rattle.std.specs.Result.{IfErr}
use Rattle.c_syntax.specs.declared.fault.SyntaxFault.{SyntaxFault}
use Rattle.c_syntax.specs.declared.word.Word as code
use Rattle.c_syntax.specs.language.Heads.{parentheses_of}
use Rattle.c_syntax.specs.workings.Reading.{Reaches, State}
use Rattle.c_syntax.specs.workings.ReaderViews.{MayFault}
use Rattle.c_syntax.specs.language.Words.{Word}
use Rattle.c_syntax.specs.workings.WordViews.{word_view}
use Rattle.c_syntax.proofs.Facing.{reaches-beginning}
use Rattle.c_syntax.proofs.program.read_words.Goals as goal

-- the fault of a call is the fault of the caller
passed_on : (words : List Word) (result : Result ⊤ SyntaxFault) (found other : SyntaxFault) → result ≡ Err other → found ≡ other → MayFault words found → IfErr result (MayFault words)
passed_on words result found other is same may = subst (λ one. IfErr one (MayFault words)) (sym is) (subst (MayFault words) same may)

pub loop-word-init : goal.loop-word-init
loop-word-init c = record {
  reaches = subst (λ state. Reaches [] state) (sym c.requires.start) reaches-beginning;
  flat = omega (arith, ap (λ (state : State). parentheses_of state.at) c.requires.start);
}

pub returns-in_err-read-clause-fault : goal.returns-in_err-read-clause-fault
returns-in_err-read-clause-fault c =
    let text = c.args.text.now in
    let words = c.args.words.now in
    let at = c.loop-word.word-index in
    let before = map (word_view text) (take at words) in
    let after = map (word_view text) (drop (at + 1) words) in
    let item = c.word-item.result in
    let word = word_view text item in
    let parts : map (word_view text) words ≡ before ++ word ∷ after =
    ap (map (word_view text)) (sym (take-append-drop at words))
    ∙ map-append (word_view text) (take at words) (drop at words)
    ∙ ap (λ (rest : List code.Word). before ++ map (word_view text) rest) (drop_more words at item c.loop-word-test.true)
    ∙ ap (λ (one : code.Word). before ++ word_view text one ∷ after) (sym c.word-item.is) in
    let p = err_from_is_err_and c.from_residual.result c.from_residual.ensures.1 in
    passed_on _ c.from_residual.result c.in_err-read.field-0.0 p.0 p.1 (sym p.2) (subst (λ all. MayFault all c.in_err-read.field-0.0) (sym parts) (c.in_err-read.ensures.fault before after c.loop-word.invariant.reaches))
