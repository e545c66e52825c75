use Rattle.std.proofs.Common.{ℕ, ◌≡◌, ◌≢◌, List, Ok, map, Result, Err, sym, ap, subst, ◌∙◌, refl}
use Rattle.std.proofs.lemmas.Result.{err_from_is_err_and}
use Rattle.std.specs.Result.{IfErr}
use Rattle.c_tokens.specs.declared.token.Token.{Token}
use Rattle.c_tokens.specs.language.Places.{beginning}
use Rattle.c_tokens.specs.language.Pieces.{Reads}
use Rattle.c_tokens.proofs.Law.{reads-tokens}
use Rattle.c_syntax.specs.declared.tree.Tree as code
use Rattle.c_syntax.specs.declared.fault.SyntaxFault.{SyntaxFault}
use Rattle.c_syntax.specs.declared.fault.SyntaxFault.TheVariants as fault
use Rattle.c_syntax.specs.workings.Reading.{Reaches}
use Rattle.c_syntax.specs.workings.ReaderViews.{MayFault, state_of}
use Rattle.c_syntax.specs.language.Words.{words_of}
use Rattle.c_syntax.specs.workings.WordViews.{word_view}
use Rattle.c_syntax.specs.language.Texts.{HasSyntaxFault, Spells}
use Rattle.c_syntax.proofs.Facing.{reaches-end, reaches-spells}
use Rattle.c_syntax.proofs.WordLists.{words_of-end}
use Rattle.c_syntax.proofs.program.read_program.Goals as goal

-- the fault of the text is the answer
passed_on : (text : List ℕ) (result : Result code.Tree SyntaxFault) (found other : SyntaxFault) → result ≡ Err other → found ≡ other → (found ≢ fault.Memory → HasSyntaxFault text found) → IfErr result (λ one. one ≢ fault.Memory → HasSyntaxFault text one)
passed_on text result found other is same may = subst (λ one. IfErr one (λ it. it ≢ fault.Memory → HasSyntaxFault text it)) (sym is) (subst (λ one. one ≢ fault.Memory → HasSyntaxFault text one) same may)

is-fault : (text : List ℕ) (tokens : List Token) → Reads beginning text tokens → (found : SyntaxFault) → MayFault (words_of text tokens) found → found ≢ fault.Memory → HasSyntaxFault text found
is-fault text tokens read fault.Memory may other = absurd (other refl)
is-fault text tokens read (fault.Unexpected spot) may other = record { tokens = tokens; read = read; fault = may }
is-fault text tokens read (fault.OutOfProfile spot) may other = record { tokens = tokens; read = read; fault = may }
is-fault text tokens read (fault.UnknownDirective spot) may other = record { tokens = tokens; read = read; fault = may }
is-fault text tokens read (fault.TooDeep spot) may other = record { tokens = tokens; read = read; fault = may }

pub words_of-requires : goal.words_of-requires
words_of-requires c = record { tokens = reads-tokens c.args.text.now c.args.tokens.now c.requires.read }

pub returns-in_err-read_words-clause-fault : goal.returns-in_err-read_words-clause-fault
returns-in_err-read_words-clause-fault c =
    let text = c.args.text.now in
    let found = c.in_err-read_words.field-0.0 in
    let same : map (word_view text) c.deref.result.now ≡ words_of text c.args.tokens.now = ap (map (word_view text)) c.deref.ensures.value ∙ c.in-Ok.ensures.words in
    let p = err_from_is_err_and c.from_residual.result c.from_residual.ensures.1 in
    passed_on text c.from_residual.result found p.0 p.1 (sym p.2) (is-fault text c.args.tokens.now c.requires.read found (subst (λ words. MayFault words found) same c.in_err-read_words.ensures.fault))

pub returns-in-Ok-finish-clause-tree : goal.returns-in-Ok-finish-clause-tree
returns-in-Ok-finish-clause-tree c =
    let text = c.args.text.now in
    let ended = words_of-end text c.args.tokens.now (reads-tokens text c.args.tokens.now c.requires.read) in
    let state = state_of c.read_words.new.reader in
    let all : Reaches (words_of text c.args.tokens.now) state = subst (λ words. Reaches words state) c.in-Ok.ensures.words (subst (λ items. Reaches (map (word_view text) items) state) c.deref.ensures.value c.in_ok-read_words.ensures.read) in
    let parted = subst (λ words. Reaches words state) ended.parts all in
    subst (Spells text) (sym c.in-Ok-finish.ensures.tree)
    (record { tokens = c.args.tokens.now; read = c.requires.read; spelled = reaches-spells all (reaches-end ended.front ended.last parted ended.is_end) })
