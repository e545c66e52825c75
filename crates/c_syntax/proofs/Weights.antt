-- While a word is faced each step makes the steps that are left lighter, so that they come to an end.
use Rattle.std.proofs.Common.{ℕ, ◌≡◌, ◌<◌, ◌+◌, Bool, true, false, ◌&&◌, nat_lt, if◌then◌else◌, IsTrue, List, [], ◌∷◌, ◌++◌, Option, Some, None, refl, subst, arith}
use Rattle.std.proofs.lemmas.Bool.{false≢true, ltb-true}
use Rattle.c_syntax.specs.declared.node.Getter.TheVariants as getter
use Rattle.c_syntax.specs.declared.node.Directive.TheVariants as directive
use Rattle.c_syntax.specs.declared.term.Term.{Term}
use Rattle.c_syntax.specs.declared.grammar.Sort.{Sort}
use Rattle.c_syntax.specs.declared.grammar.Sort.TheVariants as sort
use Rattle.c_syntax.specs.declared.grammar.Step.{Step}
use Rattle.c_syntax.specs.declared.grammar.Step.TheVariants.{Expect, Deepen, Rise, Take, InHead, Read, Open, Make, Join, Wrap, Skip}
use Rattle.c_syntax.specs.workings.Grammar.{choice}
use Rattle.c_syntax.specs.workings.Closing.{is_plain}
use Rattle.c_syntax.specs.workings.Reading.{may_be_empty, rank, weight}
use Rattle.c_syntax.proofs.Terms.{all_terms, among-all, every, every-among, both-left, both-right}

-- whether some steps may be done with no word read
abbrev passes : List Step → Bool
passes [] = true
passes (Expect word ∷ steps) = false
passes (Deepen word ∷ steps) = false
passes (Take which ∷ steps) = false
passes (Read what ∷ steps) = may_be_empty what && passes steps
passes (_ ∷ steps) = passes steps

abbrev if_so : Bool → ℕ → ℕ
if_so test count = if test then count else 0

weight-append : (front steps : List Step) → weight (front ++ steps) ≡ weight front + if_so (passes front) (weight steps)
weight-append [] steps = omega arith
weight-append (Expect word ∷ front) steps = refl
weight-append (Deepen word ∷ front) steps = refl
weight-append (Take which ∷ front) steps = refl
weight-append (Read what ∷ front) steps = by-test (may_be_empty what) (weight-append front steps)
  where
    by-test : (test : Bool) → weight (front ++ steps) ≡ weight front + if_so (passes front) (weight steps) → rank what + if_so test (weight (front ++ steps)) ≡ rank what + if_so test (weight front) + if_so (test && passes front) (weight steps)
    by-test true same = omega arith
    by-test false same = omega arith
weight-append (_ ∷ front) steps = let same = weight-append front steps in omega arith

abbrev lighter_chosen : Sort → Option (List Step) → Bool
lighter_chosen what None = true
lighter_chosen what (Some chosen) = nat_lt (weight chosen) (rank what) && (if passes chosen then may_be_empty what else true)

-- what each sort is read by is lighter than the sort
lighter-each : (what : Sort) → IsTrue (every (λ word. lighter_chosen what (choice what word)) all_terms)
lighter-each sort.Program = refl
lighter-each (sort.AfterGetter getter.ThreadNum) = refl
lighter-each (sort.Behind directive.Parallel) = refl
lighter-each (sort.Clauses directive.Parallel) = refl
lighter-each (sort.Clause directive.Parallel) = refl
lighter-each other = refl

lighter-choice : (what : Sort) (word : Term) (chosen : List Step) → choice what word ≡ Some chosen → IsTrue (lighter_chosen what (Some chosen))
lighter-choice what word chosen at = subst (λ found. IsTrue (lighter_chosen what found)) at (every-among (λ other. lighter_chosen what (choice what other)) all_terms word (lighter-each what) (among-all word))

-- the steps that were chosen take the place of a sort
pub lighter-read : (what : Sort) (word : Term) (chosen steps : List Step) → choice what word ≡ Some chosen → weight (chosen ++ steps) < weight (Read what ∷ steps)
lighter-read what word chosen steps at =
    let test = lighter-choice what word chosen at in
    let low : weight chosen < rank what = ltb-true (weight chosen) (rank what) (both-left (nat_lt (weight chosen) (rank what)) (if passes chosen then may_be_empty what else true) test) in
    by-test (passes chosen) (may_be_empty what) low (weight-append chosen steps) (both-right (nat_lt (weight chosen) (rank what)) (if passes chosen then may_be_empty what else true) test)
  where
    by-test : (through empty : Bool) → weight chosen < rank what → weight (chosen ++ steps) ≡ weight chosen + if_so through (weight steps) → IsTrue (if through then empty else true) → weight (chosen ++ steps) < rank what + if_so empty (weight steps)
    by-test true true low same holds = omega arith
    by-test true false low same fails = absurd (false≢true fails)
    by-test false true low same holds = omega arith
    by-test false false low same holds = omega arith

pub lighter-plain : (step : Step) (steps : List Step) → IsTrue (is_plain step) → weight steps < weight (step ∷ steps)
lighter-plain Rise steps holds = omega arith
lighter-plain Open steps holds = omega arith
lighter-plain (Make kind) steps holds = omega arith
lighter-plain (Join kind) steps holds = omega arith
lighter-plain (Wrap kind) steps holds = omega arith
lighter-plain Skip steps holds = omega arith
lighter-plain other steps fails = absurd (false≢true fails)

pub lighter-in_head : (steps : List Step) → weight steps < weight (InHead ∷ steps)
lighter-in_head steps = omega arith
