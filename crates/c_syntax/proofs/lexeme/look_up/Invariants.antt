use Rattle.std.proofs.Common.{◌≡◌, map, drop}
use Rattle.c_syntax.specs.workings.Lexemes.{row_view}
use Rattle.c_syntax.specs.language.Words.{look_up}
use Rattle.c_syntax.proofs.lexeme.look_up.Given as goal

-- the word isn't among those so far
abbrev pub invariant-loop-word : goal.invariant-loop-word
invariant-loop-word l = look_up (map row_view l.rows) l.bytes l.other ≡ look_up (map row_view (drop l.word-index l.rows)) l.bytes l.other
