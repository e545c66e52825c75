-- The first fault of words that are no program, and the number and the place that tell it.
use Rattle.std.specs.Prelude.{ℕ, ◌≡◌, ◌⊎◌, Bool, true, false, ◌||◌, ◌&&◌, if◌then◌else◌, List, [], ◌∷◌, ◌++◌}
use Rattle.c_tokens.specs.declared.token.Spot.{Spot}
use Rattle.c_tokens.specs.language.Faults.{nowhere}
use Rattle.c_syntax.specs.declared.fault.SyntaxFault.{SyntaxFault}
use Rattle.c_syntax.specs.declared.fault.SyntaxFault.TheVariants as fault
use Rattle.c_syntax.specs.declared.head.Head.{Head}
use Rattle.c_syntax.specs.declared.head.Head.TheVariants as head
use Rattle.c_syntax.specs.declared.term.Term.{Term}
use Rattle.c_syntax.specs.declared.term.Term.TheVariants as term
use Rattle.c_syntax.specs.language.Heads.{behind}
use Rattle.c_syntax.specs.language.Words.{Word}
use Rattle.c_syntax.specs.language.WordClasses.{is_word}
use Rattle.c_syntax.specs.language.Tree.{Tree}
use Rattle.c_syntax.specs.language.Productions.{GoesOn, IsProgram, depth_limit}

-- where some words leave off
abbrev pub left_off : Head → List Word → Head
left_off at [] = at
left_off at (word ∷ words) = left_off (behind at word.term) words

-- out of the language wherever it isn't a name
abbrev pub is_odd : Term → Bool
is_odd term.OddLine = true
is_odd term.OddSymbol = true
is_odd term.Ampersand = true
is_odd term.OddName = true
is_odd term.OddWord = true
is_odd term.Default = true
is_odd term.Static = true
is_odd other = false

-- out of the language as a directive, and as a clause or a kind
abbrev pub is_odd_directive : Term → Bool
is_odd_directive term.OddDirective = true
is_odd_directive term.Ordered = true
is_odd_directive other = false

abbrev pub is_odd_clause : Term → Bool
is_odd_clause term.OddClause = true
is_odd_clause term.Ordered = true
is_odd_clause term.If = true
is_odd_clause other = false

abbrev pub is_odd_at : Head → Term → Bool
is_odd_at head.Directive word = is_odd word || is_odd_directive word
is_odd_at head.Clause word = is_odd word || is_odd_clause word
is_odd_at head.Kind word = is_odd word || is_odd_clause word
is_odd_at other word = is_odd word

-- the directives that have a statement
abbrev pub is_construct : Term → Bool
is_construct term.Parallel = true
is_construct term.For = true
is_construct term.Sections = true
is_construct term.Single = true
is_construct term.Masked = true
is_construct term.Master = true
is_construct term.Critical = true
is_construct term.Task = true
is_construct other = false

-- a name that should be a directive, and is none
abbrev pub is_unknown_at : Head → Term → Bool
is_unknown_at head.Directive word = is_word word && (if is_construct word then false else true)
is_unknown_at other word = false

-- the fault of a word that no depth allows
abbrev pub fault_of : Head → Word → SyntaxFault
fault_of at word = if is_odd_at at word.term then fault.OutOfProfile word.spot else if is_unknown_at at word.term then fault.UnknownDirective word.spot else fault.Unexpected word.spot

-- a word that may not follow: with no limit of the depth it may, or it may not at all
abbrev pub IsFaultAt : List Word → Word → SyntaxFault → Type 0
IsFaultAt before word (fault.TooDeep spot) = (spot ≡ word.spot) × ((limit : ℕ) × GoesOn limit (before ++ word ∷ []))
IsFaultAt before word fault.Memory = ⊥
IsFaultAt before word found = (found ≡ fault_of (left_off head.Outside before) word) × ((limit : ℕ) → GoesOn limit (before ++ word ∷ []) → ⊥)

-- The words before the fault can be completed to a program, and with the word at which it stands they can't.
abbrev pub IsFault : List Word → SyntaxFault → Type 0
IsFault words found = (before : List Word) × (word : Word) × (after : List Word) × (words ≡ before ++ word ∷ after) × GoesOn depth_limit before × (GoesOn depth_limit (before ++ word ∷ []) → ⊥) × IsFaultAt before word found

-- the words are a program, or have a fault
abbrev pub IsAnswered : List Word → Type 0
IsAnswered words = ((tree : Tree) × IsProgram depth_limit words tree) ⊎ ((found : SyntaxFault) × IsFault words found)

-- want of memory has no number and no place
abbrev pub fault_number : SyntaxFault → ℕ
fault_number (fault.Unexpected spot) = 4
fault_number (fault.UnknownDirective spot) = 5
fault_number (fault.OutOfProfile spot) = 6
fault_number (fault.TooDeep spot) = 7
fault_number fault.Memory = 0

abbrev pub fault_spot : SyntaxFault → Spot
fault_spot (fault.Unexpected spot) = spot
fault_spot (fault.UnknownDirective spot) = spot
fault_spot (fault.OutOfProfile spot) = spot
fault_spot (fault.TooDeep spot) = spot
fault_spot fault.Memory = nowhere
