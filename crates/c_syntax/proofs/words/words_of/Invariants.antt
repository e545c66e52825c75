use Rattle.std.proofs.Common.{◌≡◌, [], All, length, map, take}
use Rattle.c_syntax.specs.language.Words.{names_of, words_from}
use Rattle.c_syntax.specs.workings.Names.{AreNames}
use Rattle.c_syntax.specs.workings.WordViews.{IsWithin, word_view}
use Rattle.c_syntax.proofs.words.words_of.Given as goal

-- the words and the names of the tokens so far
abbrev pub invariant-loop-token : goal.invariant-loop-token
invariant-loop-token l = record {
  words : map (word_view l.text) l.list.items ≡ words_from l.text [] (take l.token-index l.tokens);
  within : All (IsWithin (length l.text)) l.list.items;
  names : AreNames (names_of l.text [] (take l.token-index l.tokens)) l.names;
}
