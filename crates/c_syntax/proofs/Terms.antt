-- Words and lists of them, compared by numbers, so that what holds of each word can be seen by computing.
use Rattle.std.proofs.Common.{ℕ, ◌≡◌, ◌≢◌, ◌⊎◌, Bool, true, false, ◌==◌, ◌&&◌, ◌||◌, IsTrue, List, [], ◌∷◌, get_or, refl, sym, ap, subst, ◌∙◌, inl, inr}
use Rattle.std.proofs.lemmas.Bool.{cases_Bool, eqb-false, eqb-true, false≢true}
use Rattle.c_syntax.specs.declared.term.Term.{Term}
use Rattle.c_syntax.specs.declared.term.Term.TheVariants as term
use Rattle.c_syntax.specs.workings.Closing.{IsAmong}

abbrev number : Term → ℕ
number term.OpenBrace = 0
number term.CloseBrace = 1
number term.OpenParen = 2
number term.CloseParen = 3
number term.OpenBracket = 4
number term.CloseBracket = 5
number term.Semicolon = 6
number term.Comma = 7
number term.Colon = 8
number term.Ampersand = 9
number term.Set = 10
number term.PlusSet = 11
number term.MinusSet = 12
number term.TimesSet = 13
number term.SlashSet = 14
number term.PercentSet = 15
number term.PlusPlus = 16
number term.MinusMinus = 17
number term.Plus = 18
number term.Minus = 19
number term.Star = 20
number term.Slash = 21
number term.Percent = 22
number term.Not = 23
number term.Less = 24
number term.LessEqual = 25
number term.Greater = 26
number term.GreaterEqual = 27
number term.EqualEqual = 28
number term.NotEqual = 29
number term.AndAnd = 30
number term.OrOr = 31
number term.OddSymbol = 32
number term.Int = 33
number term.Void = 34
number term.If = 35
number term.Else = 36
number term.While = 37
number term.For = 38
number term.Return = 39
number term.Printf = 40
number term.LockType = 41
number term.InitLock = 42
number term.DestroyLock = 43
number term.SetLock = 44
number term.UnsetLock = 45
number term.TestLock = 46
number term.GetThreadNum = 47
number term.GetNumThreads = 48
number term.GetMaxThreads = 49
number term.Default = 50
number term.Static = 51
number term.OddWord = 52
number term.Parallel = 53
number term.Sections = 54
number term.Single = 55
number term.Masked = 56
number term.Master = 57
number term.Critical = 58
number term.Task = 59
number term.Barrier = 60
number term.Taskwait = 61
number term.Section = 62
number term.NumThreads = 63
number term.Shared = 64
number term.Private = 65
number term.Firstprivate = 66
number term.Reduction = 67
number term.Schedule = 68
number term.Nowait = 69
number term.None = 70
number term.Max = 71
number term.Min = 72
number term.Dynamic = 73
number term.Guided = 74
number term.OddDirective = 75
number term.OddClause = 76
number term.Ordered = 77
number term.OddName = 78
number term.Name = 79
number term.Number = 80
number term.Text = 81
number term.Include = 82
number term.Pragma = 83
number term.OddLine = 84
number term.PragmaEnd = 85
number term.End = 86

-- all words, each at its number
abbrev pub all_terms : List Term
all_terms =
    term.OpenBrace ∷ term.CloseBrace ∷ term.OpenParen ∷ term.CloseParen ∷ term.OpenBracket ∷ term.CloseBracket ∷ term.Semicolon ∷
    term.Comma ∷ term.Colon ∷ term.Ampersand ∷ term.Set ∷ term.PlusSet ∷ term.MinusSet ∷ term.TimesSet ∷ term.SlashSet ∷
    term.PercentSet ∷ term.PlusPlus ∷ term.MinusMinus ∷ term.Plus ∷ term.Minus ∷ term.Star ∷ term.Slash ∷ term.Percent ∷
    term.Not ∷ term.Less ∷ term.LessEqual ∷ term.Greater ∷ term.GreaterEqual ∷ term.EqualEqual ∷ term.NotEqual ∷ term.AndAnd ∷
    term.OrOr ∷ term.OddSymbol ∷ term.Int ∷ term.Void ∷ term.If ∷ term.Else ∷ term.While ∷ term.For ∷ term.Return ∷ term.Printf ∷
    term.LockType ∷ term.InitLock ∷ term.DestroyLock ∷ term.SetLock ∷ term.UnsetLock ∷ term.TestLock ∷ term.GetThreadNum ∷
    term.GetNumThreads ∷ term.GetMaxThreads ∷ term.Default ∷ term.Static ∷ term.OddWord ∷ term.Parallel ∷ term.Sections ∷
    term.Single ∷ term.Masked ∷ term.Master ∷ term.Critical ∷ term.Task ∷ term.Barrier ∷ term.Taskwait ∷ term.Section ∷ term.NumThreads ∷
    term.Shared ∷ term.Private ∷ term.Firstprivate ∷ term.Reduction ∷ term.Schedule ∷ term.Nowait ∷ term.None ∷ term.Max ∷
    term.Min ∷ term.Dynamic ∷ term.Guided ∷ term.OddDirective ∷ term.OddClause ∷ term.Ordered ∷ term.OddName ∷ term.Name ∷
    term.Number ∷ term.Text ∷ term.Include ∷ term.Pragma ∷ term.OddLine ∷ term.PragmaEnd ∷ term.End ∷ []

abbrev numbered : ℕ → Term
numbered place = get_or all_terms place term.End

numbered-number : (word : Term) → numbered (number word) ≡ word
numbered-number term.OpenBrace = refl
numbered-number other = refl

abbrev pub same : Term → Term → Bool
same first second = number first == number second

pub same-true : (first second : Term) → IsTrue (same first second) → first ≡ second
same-true first second holds = sym (numbered-number first) ∙ (ap numbered (eqb-true (number first) (number second) holds) ∙ numbered-number second)

pub same-or-not : (first second : Term) → (first ≡ second) ⊎ (first ≢ second)
same-or-not first second =
    elim (cases_Bool (same first second)) [
      | inl holds ↦ inl (same-true first second holds)
      | inr apart ↦ inr (λ one. eqb-false (number first) (number second) apart (ap number one))
    ]

abbrev pub is_among : Term → List Term → Bool
is_among word [] = false
is_among word (first ∷ rest) = same word first || is_among word rest

pub among-true : (word : Term) (words : List Term) → IsTrue (is_among word words) → IsAmong word words
among-true word [] holds = absurd (false≢true holds)
among-true word (first ∷ rest) holds = among-by (same word first) refl holds (among-true word rest)
  where
    among-by : (test : Bool) → same word first ≡ test → IsTrue (test || is_among word rest) → (IsTrue (is_among word rest) → IsAmong word rest) → IsAmong word (first ∷ rest)
    among-by true here holds further = inl (same-true word first here)
    among-by false here holds further = inr (further holds)

pub among-all : (word : Term) → IsAmong word all_terms
among-all word = among-true word all_terms (listed word)
  where
    listed : (word : Term) → IsTrue (is_among word all_terms)
    listed term.OpenBrace = refl
    listed other = refl

abbrev pub every : (Term → Bool) → List Term → Bool
every test [] = true
every test (first ∷ rest) = test first && every test rest

abbrev pub negated : Bool → Bool
negated true = false
negated false = true

pub negated-true : (test : Bool) → IsTrue (negated test) → test ≡ false
negated-true true fails = absurd (false≢true fails)
negated-true false holds = refl

pub both-left : (first second : Bool) → IsTrue (first && second) → IsTrue first
both-left true second holds = refl
both-left false second fails = fails

pub both-right : (first second : Bool) → IsTrue (first && second) → IsTrue second
both-right true second holds = holds
both-right false second fails = absurd (false≢true fails)

pub every-among : (test : Term → Bool) (words : List Term) (word : Term) → IsTrue (every test words) → IsAmong word words → IsTrue (test word)
every-among test [] word all among = absurd among
every-among test (first ∷ rest) word all (inl here) = subst (λ which. IsTrue (test which)) (sym here) (both-left (test first) (every test rest) all)
every-among test (first ∷ rest) word all (inr there) = every-among test rest word (both-right (test first) (every test rest) all) there
