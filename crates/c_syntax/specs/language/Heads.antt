-- Where words leave off: in the head of a directive, from its `#` to the end of its line, or outside.
use Rattle.std.specs.Prelude.{ℕ, ◌+◌, ◌-◌, ◌==◌, if◌then◌else◌}
use Rattle.c_syntax.specs.declared.head.Head.{Head}
use Rattle.c_syntax.specs.declared.head.Head.TheVariants as head
use Rattle.c_syntax.specs.declared.term.Term.{Term}
use Rattle.c_syntax.specs.declared.term.Term.TheVariants as term

-- where the head of a directive goes on behind a word
abbrev pub behind_outside : Term → Head
behind_outside term.Pragma = head.Directive
behind_outside other = head.Outside

abbrev pub behind_directive : Term → Head
behind_directive term.Barrier = head.Bare
behind_directive term.Taskwait = head.Bare
behind_directive term.Section = head.Bare
behind_directive other = head.Clause

abbrev pub behind_bare : Term → Head
behind_bare term.PragmaEnd = head.Outside
behind_bare other = head.Bare

-- a comma, `nowait`, the second word of a directive, the name of a critical, and the other clauses
abbrev pub behind_clause : Term → Head
behind_clause term.PragmaEnd = head.Outside
behind_clause term.Comma = head.Clause
behind_clause term.Nowait = head.Clause
behind_clause term.For = head.Clause
behind_clause term.Sections = head.Clause
behind_clause term.OpenParen = head.Inside 1
behind_clause term.Schedule = head.Schedule
behind_clause other = head.Word

abbrev pub behind_word : Term → Head
behind_word term.OpenParen = head.Inside 1
behind_word other = head.Word

abbrev pub behind_schedule : Term → Head
behind_schedule term.OpenParen = head.Kind
behind_schedule other = head.Schedule

abbrev pub outside_of : ℕ → Head
outside_of count = if count == 1 then head.Clause else head.Inside (count - 1)

abbrev pub behind_inside : ℕ → Term → Head
behind_inside count term.OpenParen = head.Inside (count + 1)
behind_inside count term.CloseParen = outside_of count
behind_inside count other = head.Inside count

abbrev pub behind : Head → Term → Head
behind head.Outside word = behind_outside word
behind head.Directive word = behind_directive word
behind head.Bare word = behind_bare word
behind head.Clause word = behind_clause word
behind head.Word word = behind_word word
behind head.Schedule word = behind_schedule word
behind head.Kind word = head.Inside 1
behind (head.Inside count) word = behind_inside count word

-- in how many parentheses words leave off
abbrev pub parentheses_of : Head → ℕ
parentheses_of (head.Inside count) = count
parentheses_of other = 0
