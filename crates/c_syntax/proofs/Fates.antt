-- Which open nodes become constructs, as the steps that are left tell it. A node is opened for a construct with the `#` of its directive
-- next, and by no other word.
use Rattle.std.proofs.Common.{◌≡◌, ◌+◌, ◌≤◌, Bool, true, false, ◌&&◌, ◌||◌, IsTrue, List, [], ◌∷◌, ◌++◌, Option, Some, None, length, refl, sym, ap, subst, ◌∙◌, arith, append_assoc}
use Rattle.std.proofs.lemmas.Bool.{and_from, false≢true}
use Rattle.c_syntax.specs.declared.node.Getter.TheVariants as getter
use Rattle.c_syntax.specs.declared.node.Directive.TheVariants as directive
use Rattle.c_syntax.specs.declared.term.Term.{Term}
use Rattle.c_syntax.specs.declared.grammar.Sort.{Sort}
use Rattle.c_syntax.specs.declared.grammar.Sort.TheVariants as sort
use Rattle.c_syntax.specs.declared.grammar.Step.{Step}
use Rattle.c_syntax.specs.declared.grammar.Step.TheVariants.{Expect, Deepen, Rise, Take, InHead, Read, Open, Make, Join, Wrap, Skip}
use Rattle.c_syntax.specs.workings.Grammar.{choice}
use Rattle.c_syntax.specs.language.Places.{is_construct}
use Rattle.c_syntax.proofs.Terms.{all_terms, among-all, every, every-among, negated, both-left, both-right}
use Rattle.c_syntax.proofs.Leading.{is_pragma}

-- the open nodes that end with a sort, the innermost first: whether each may become a construct
abbrev pub ended_by : Sort → List Bool
ended_by sort.AfterIntName = false ∷ false ∷ []
ended_by sort.GlobalRest = false ∷ []
ended_by sort.Initial = false ∷ []
ended_by sort.LocalRest = false ∷ []
ended_by sort.AfterRightName = false ∷ []
ended_by sort.AfterStatementName = false ∷ []
ended_by sort.AfterAssignName = false ∷ []
ended_by (sort.AfterGetter which) = false ∷ []
ended_by sort.ItemDirective = true ∷ []
ended_by sort.Construct = true ∷ []
ended_by (sort.Behind directive) = true ∷ []
ended_by sort.AfterParallel = true ∷ []
ended_by sort.SectionOrConstruct = true ∷ []
ended_by sort.DefaultWord = false ∷ []
ended_by sort.Operator = false ∷ []
ended_by sort.Kind = false ∷ []
ended_by other = []

abbrev pub first_of : List Bool → Bool
first_of [] = false
first_of (fate ∷ fates) = fate

abbrev pub rest_of : List Bool → List Bool
rest_of [] = []
rest_of (fate ∷ fates) = fates

-- a node counts as a construct only behind its `#`
abbrev pub before_word : Bool → List Bool → List Bool
before_word false fates = fates
before_word true [] = []
before_word true (fate ∷ fates) = false ∷ fates

abbrev pub before_step : Step → List Bool → List Bool
before_step Open fates = rest_of fates
before_step (Make kind) fates = is_construct kind ∷ fates
before_step (Read what) fates = ended_by what ++ fates
before_step (Expect word) fates = before_word (is_pragma word) fates
before_step (Deepen word) fates = before_word (is_pragma word) fates
before_step other fates = fates

-- the open nodes that end with some steps, the innermost first: whether its `#` was read and it may become a construct
abbrev pub fates : List Step → List Bool
fates [] = []
fates (step ∷ steps) = before_step step (fates steps)

abbrev pub is_some : List Bool → Bool
is_some [] = false
is_some (fate ∷ fates) = true

-- whether a step fits the nodes that end behind it: what it opens ends, and is no construct yet; what it makes of children is none
abbrev pub is_right : Step → List Bool → Bool
is_right Open fates = is_some fates && negated (first_of fates)
is_right (Expect word) fates = negated (is_pragma word) || is_some fates
is_right (Deepen word) fates = negated (is_pragma word) || is_some fates
is_right (Join kind) fates = negated (is_construct kind)
is_right (Wrap kind) fates = negated (is_construct kind)
is_right other fates = true

abbrev pub are_right : List Step → Bool
are_right [] = true
are_right (step ∷ steps) = is_right step (fates steps) && are_right steps

word-append : (pragma : Bool) (some more : List Bool) → IsTrue (negated pragma || is_some some) → before_word pragma (some ++ more) ≡ before_word pragma some ++ more
word-append false some more right = refl
word-append true [] more fails = absurd (false≢true fails)
word-append true (fate ∷ some) more right = refl

step-append : (step : Step) (some more : List Bool) → IsTrue (is_right step some) → before_step step (some ++ more) ≡ before_step step some ++ more
step-append Open [] more fails = absurd (false≢true fails)
step-append Open (fate ∷ some) more right = refl
step-append (Make kind) some more right = refl
step-append (Read what) some more right = sym (append_assoc (ended_by what) some more)
step-append (Expect word) some more right = word-append (is_pragma word) some more right
step-append (Deepen word) some more right = word-append (is_pragma word) some more right
step-append Rise some more right = refl
step-append (Take which) some more right = refl
step-append InHead some more right = refl
step-append (Join kind) some more right = refl
step-append (Wrap kind) some more right = refl
step-append Skip some more right = refl

pub fates-append : (front steps : List Step) → IsTrue (are_right front) → fates (front ++ steps) ≡ fates front ++ fates steps
fates-append [] steps right = refl
fates-append (step ∷ front) steps right =
    ap (before_step step) (fates-append front steps (both-right (is_right step (fates front)) (are_right front) right))
    ∙ step-append step (fates front) (fates steps) (both-left (is_right step (fates front)) (are_right front) right)

word-right : (pragma : Bool) (some more : List Bool) → IsTrue (negated pragma || is_some some) → IsTrue (negated pragma || is_some (some ++ more))
word-right false some more right = refl
word-right true [] more fails = absurd (false≢true fails)
word-right true (fate ∷ some) more right = refl

right-append : (step : Step) (some more : List Bool) → IsTrue (is_right step some) → IsTrue (is_right step (some ++ more))
right-append Open [] more fails = absurd (false≢true fails)
right-append Open (fate ∷ some) more right = right
right-append (Expect word) some more right = word-right (is_pragma word) some more right
right-append (Deepen word) some more right = word-right (is_pragma word) some more right
right-append (Make kind) some more right = refl
right-append (Read what) some more right = refl
right-append Rise some more right = refl
right-append (Take which) some more right = refl
right-append InHead some more right = refl
right-append (Join kind) some more right = right
right-append (Wrap kind) some more right = right
right-append Skip some more right = refl

pub are_right-append : (front steps : List Step) → IsTrue (are_right front) → IsTrue (are_right steps) → IsTrue (are_right (front ++ steps))
are_right-append [] steps right behind = behind
are_right-append (step ∷ front) steps right behind =
    let first = both-left (is_right step (fates front)) (are_right front) right in
    let others = both-right (is_right step (fates front)) (are_right front) right in
    and_from (is_right step (fates (front ++ steps))) (are_right (front ++ steps))
    (subst (λ all. IsTrue (is_right step all)) (sym (fates-append front steps others)) (right-append step (fates front) (fates steps) first))
    (are_right-append front steps others behind)

-- as many nodes, of which no other may become constructs
abbrev pub is_within : List Bool → List Bool → Bool
is_within [] [] = true
is_within [] (fate ∷ fates) = false
is_within (fate ∷ fates) [] = false
is_within (one ∷ few) (other ∷ many) = (negated one || other) && is_within few many

pub may-become : (one other : Bool) → IsTrue (negated one || other) → one ≡ true → other ≡ true
may-become true other holds same = holds
may-become false other holds fails = absurd (false≢true fails)

abbrev right_chosen : Sort → Option (List Step) → Bool
right_chosen what None = true
right_chosen what (Some chosen) = is_within (fates chosen) (ended_by what) && are_right chosen

-- so it is with each rule
right-each : (what : Sort) → IsTrue (every (λ word. right_chosen what (choice what word)) all_terms)
right-each sort.Program = refl
right-each (sort.AfterGetter getter.ThreadNum) = refl
right-each (sort.Behind directive.Parallel) = refl
right-each (sort.Clauses directive.Parallel) = refl
right-each (sort.Clause directive.Parallel) = refl
right-each other = refl

pub right-choice : (what : Sort) (word : Term) (chosen : List Step) → choice what word ≡ Some chosen → IsTrue (is_within (fates chosen) (ended_by what) && are_right chosen)
right-choice what word chosen at = subst (λ found. IsTrue (right_chosen what found)) at (every-among (λ next. right_chosen what (choice what next)) all_terms word (right-each what) (among-all word))

-- how many nodes they are

pub length-before_word : (pragma : Bool) (some : List Bool) → length (before_word pragma some) ≡ length some
length-before_word false some = refl
length-before_word true [] = refl
length-before_word true (fate ∷ some) = refl

pub length-within : (few many : List Bool) → IsTrue (is_within few many) → length few ≡ length many
length-within [] [] within = refl
length-within [] (other ∷ many) fails = absurd (false≢true fails)
length-within (one ∷ few) [] fails = absurd (false≢true fails)
length-within (one ∷ few) (other ∷ many) within = omega (arith, length-within few many (both-right (negated one || other) (is_within few many) within))

pub length-rest : (some : List Bool) → length some ≤ length (rest_of some) + 1
length-rest [] = omega arith
length-rest (fate ∷ some) = omega arith
