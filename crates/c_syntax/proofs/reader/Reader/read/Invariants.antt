use Rattle.std.proofs.Common.{◌≡◌, List}
use Rattle.c_syntax.specs.language.Words.{Word}
use Rattle.c_syntax.specs.workings.WordViews.{word_view}
use Rattle.c_syntax.specs.workings.Reading.{Faces, Reaches, weight}
use Rattle.c_syntax.specs.workings.ReaderViews.{state_of}
use Rattle.c_syntax.proofs.reader.Reader.read.Given as goal

-- the word is next
abbrev pub invariant-loop-step : goal.invariant-loop-step
invariant-loop-step l = record {
  faces : (before : List Word) → Reaches before (state_of l.fn.self) → Faces before (word_view l.source l.word) (state_of l.self);
  at : l.self.at ≡ l.fn.self.at;
}

-- the steps that are done before the word is read
abbrev pub decreases-loop-step : goal.decreases-loop-step
decreases-loop-step l = weight l.self.plan
