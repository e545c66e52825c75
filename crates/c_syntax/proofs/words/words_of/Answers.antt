use Rattle.std.proofs.Common.{◌∙◌, ◌++◌, ◌∷◌, [], List, ℕ, length, map, take, ap, sym, subst, rules}
use Rattle.std.proofs.lemmas.List.{map-append}
use Rattle.std.proofs.lemmas.List.Elements.{All-push, All-same}
use Rattle.c_tokens.specs.declared.token.Token.{Token}
use Rattle.c_tokens.specs.declared.token.TokenKind.TheVariants as token
use Rattle.c_syntax.specs.workings.Names.{AreNames}
use Rattle.c_syntax.specs.language.Words.{Word, names_of, words_from}
use Rattle.c_syntax.specs.workings.WordViews.{IsWithin, word_view}
use Rattle.c_syntax.proofs.WordLists.{names_of-fewer, names_of-more, words_of-more, token_of}
use Rattle.c_syntax.proofs.words.words_of.Goals as goal

-- what a look-up past the end gives
none : Token
none = record { kind = token.Name; start = 0; end = 0; spot = record { line = 0; column = 0 } }

pub loop-token-init : goal.loop-token-init
unfolding names_of words_from
loop-token-init c = search rules

pub word_of-requires-clause-token : goal.word_of-requires-clause-token
unfolding none
word_of-requires-clause-token c = token_of c.args.text.now c.args.tokens.now c.loop-token.token-index none c.requires.tokens c.loop-token-test.true

pub word_of-requires-clause-names : goal.word_of-requires-clause-names
unfolding none
word_of-requires-clause-names c =
    let text = c.args.text.now in
    let tokens = c.args.tokens.now in
    let at = c.loop-token.token-index in
    λ same. (names_of text [] (take at tokens), c.loop-token.invariant.names, names_of-fewer text tokens at none c.requires.tokens c.loop-token-test.true same)

pub loop-token-preserved : goal.loop-token-preserved
unfolding none
loop-token-preserved c =
    let text = c.args.text.now in
    let tokens = c.args.tokens.now in
    let at = c.loop-token.token-index in
    let so_far = names_of text [] (take at tokens) in
    let are = c.loop-token.invariant.names in
    let P : List (List ℕ) → Type 0 = λ names. AreNames names c.word_of.new.names in
    record {
      words =
          ap (map (word_view text)) c.in_ok-push.ensures.items
          ∙ map-append (word_view text) c.loop-token.list.items (c.in_ok-word_of.field-0 ∷ [])
          ∙ ap (λ (words : List Word). words ++ word_view text c.in_ok-word_of.field-0 ∷ []) c.loop-token.invariant.words
          ∙ ap (λ (word : Word). words_from text [] (take at tokens) ++ word ∷ []) (c.in_ok-word_of.ensures.word so_far are)
          ∙ sym (words_of-more text tokens at none c.loop-token-test.true);
      within = All-same (IsWithin (length text)) c.push.new.self.items (c.loop-token.list.items ++ c.in_ok-word_of.field-0 ∷ []) c.in_ok-push.ensures.items
          (All-push (IsWithin (length text)) c.loop-token.list.items c.in_ok-word_of.field-0 c.loop-token.invariant.within c.in_ok-word_of.ensures.within);
      names = subst P (sym (names_of-more text tokens at none c.loop-token-test.true)) (c.in_ok-word_of.ensures.names so_far are);
    }
