use Rattle.std.proofs.Common.{◌≤◌, take, map}
use Rattle.c_syntax.specs.language.Heads.{parentheses_of}
use Rattle.c_syntax.specs.workings.Reading.{Reaches}
use Rattle.c_syntax.specs.workings.ReaderViews.{state_of}
use Rattle.c_syntax.specs.workings.WordViews.{word_view}
use Rattle.c_syntax.proofs.program.read_words.Given as goal

-- the words so far are read
abbrev pub invariant-loop-word : goal.invariant-loop-word
invariant-loop-word l = record {
  reaches : Reaches (map (word_view l.text) (take l.word-index l.words)) (state_of l.reader);
  flat : parentheses_of l.reader.at ≤ l.word-index;
}
