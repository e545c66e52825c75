-- Which words are names, and which are routines.
use Rattle.std.specs.Prelude.{Bool, true, false, ◌||◌, if◌then◌else◌}
use Rattle.c_syntax.specs.declared.node.Getter.{Getter}
use Rattle.c_syntax.specs.declared.node.Getter.TheVariants as getter
use Rattle.c_syntax.specs.declared.term.Term.{Term}
use Rattle.c_syntax.specs.declared.term.Term.TheVariants as term
use Rattle.c_syntax.specs.declared.head.Head.{Head}
use Rattle.c_syntax.specs.declared.head.Head.TheVariants as head

-- the words that are names in the code: all but those of the language and of C
abbrev pub is_name : Term → Bool
is_name term.Parallel = true
is_name term.Sections = true
is_name term.Single = true
is_name term.Masked = true
is_name term.Master = true
is_name term.Critical = true
is_name term.Task = true
is_name term.Barrier = true
is_name term.Taskwait = true
is_name term.Section = true
is_name term.NumThreads = true
is_name term.Shared = true
is_name term.Private = true
is_name term.Firstprivate = true
is_name term.Reduction = true
is_name term.Schedule = true
is_name term.Nowait = true
is_name term.None = true
is_name term.Max = true
is_name term.Min = true
is_name term.Dynamic = true
is_name term.Guided = true
is_name term.OddDirective = true
is_name term.OddClause = true
is_name term.Ordered = true
is_name term.OddName = true
is_name term.Name = true
is_name other = false

-- the routines that give a number
abbrev pub is_routine : Term → Bool
is_routine term.GetThreadNum = true
is_routine term.GetNumThreads = true
is_routine term.GetMaxThreads = true
is_routine other = false

-- the other words of the language and of C
abbrev pub is_reserved : Term → Bool
is_reserved term.Int = true
is_reserved term.Void = true
is_reserved term.If = true
is_reserved term.Else = true
is_reserved term.While = true
is_reserved term.For = true
is_reserved term.Return = true
is_reserved term.Printf = true
is_reserved term.LockType = true
is_reserved term.InitLock = true
is_reserved term.DestroyLock = true
is_reserved term.SetLock = true
is_reserved term.UnsetLock = true
is_reserved term.TestLock = true
is_reserved term.Default = true
is_reserved term.Static = true
is_reserved term.OddWord = true
is_reserved other = false

abbrev pub is_word : Term → Bool
is_word word = is_name word || (is_reserved word || is_routine word)

abbrev pub is_outside : Head → Bool
is_outside head.Outside = true
is_outside other = false

-- in the head of a directive each word is a name
abbrev pub is_name_at : Head → Term → Bool
is_name_at at word = if is_outside at then is_name word else is_word word

-- the routine that gives this number
abbrev pub is_getter : Getter → Term → Bool
is_getter getter.ThreadNum term.GetThreadNum = true
is_getter getter.NumThreads term.GetNumThreads = true
is_getter getter.MaxThreads term.GetMaxThreads = true
is_getter which other = false
