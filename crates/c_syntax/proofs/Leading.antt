-- The steps that a node is opened for, which keep a name or read the `#` of a directive, stand directly behind its opening. So the node
-- stands where the word stands that they read.
use Rattle.std.proofs.Common.{◌≡◌, Bool, true, false, ◌&&◌, ◌||◌, IsTrue, List, [], ◌∷◌, ◌++◌, Option, Some, None, refl, subst}
use Rattle.std.proofs.lemmas.Bool.{and_from, false≢true}
use Rattle.c_syntax.specs.declared.node.Getter.TheVariants as getter
use Rattle.c_syntax.specs.declared.node.Directive.TheVariants as directive
use Rattle.c_syntax.specs.declared.term.Term.{Term}
use Rattle.c_syntax.specs.declared.term.Term.TheVariants as term
use Rattle.c_syntax.specs.declared.grammar.Class.{Class}
use Rattle.c_syntax.specs.declared.grammar.Class.TheVariants as class
use Rattle.c_syntax.specs.declared.grammar.Sort.{Sort}
use Rattle.c_syntax.specs.declared.grammar.Sort.TheVariants as sort
use Rattle.c_syntax.specs.declared.grammar.Step.{Step}
use Rattle.c_syntax.specs.declared.grammar.Step.TheVariants.{Expect, Deepen, Take, Open}
use Rattle.c_syntax.specs.language.Words.{Word}
use Rattle.c_syntax.specs.workings.Grammar.{choice}
use Rattle.c_syntax.specs.workings.Derivation.{Opened}
use Rattle.c_syntax.proofs.Terms.{all_terms, among-all, every, every-among, negated, both-left, both-right}

abbrev pub is_pragma : Term → Bool
is_pragma term.Pragma = true
is_pragma other = false

-- a word of the class gives a node its name
abbrev pub is_naming : Class → Bool
is_naming class.Number = false
is_naming class.Text = false
is_naming other = true

-- a node is opened for this step
abbrev pub is_first : Step → Bool
is_first (Take which) = is_naming which
is_first (Expect word) = is_pragma word
is_first (Deepen word) = is_pragma word
is_first other = false

abbrev pub is_open : Step → Bool
is_open Open = true
is_open other = false

-- whether each such step stands directly behind an `Open`, where the step before all of them is one or not
abbrev pub is_led : Bool → List Step → Bool
is_led fresh [] = negated fresh
is_led fresh (step ∷ steps) = (fresh || negated (is_first step)) && is_led (is_open step) steps

pub led-behind : (fresh : Bool) (step : Step) (steps : List Step) → IsTrue (is_led fresh (step ∷ steps)) → IsTrue (is_led (is_open step) steps)
led-behind fresh step steps led = both-right (fresh || negated (is_first step)) (is_led (is_open step) steps) led

fresh-by : (fresh first : Bool) → IsTrue (fresh || negated first) → first ≡ true → fresh ≡ true
fresh-by true first holds same = refl
fresh-by false true fails same = absurd (false≢true fails)
fresh-by false false holds fails = absurd (false≢true fails)

pub led-fresh : (fresh : Bool) (step : Step) (steps : List Step) → IsTrue (is_led fresh (step ∷ steps)) → is_first step ≡ true → fresh ≡ true
led-fresh fresh step steps led first = fresh-by fresh (is_first step) (both-left (fresh || negated (is_first step)) (is_led (is_open step) steps) led) first

pub led-append : (fresh : Bool) (front steps : List Step) → IsTrue (is_led fresh front) → IsTrue (is_led false steps) → IsTrue (is_led fresh (front ++ steps))
led-append true [] steps fails led = absurd (false≢true fails)
led-append false [] steps holds led = led
led-append fresh (step ∷ front) steps holds led =
    and_from (fresh || negated (is_first step)) (is_led (is_open step) (front ++ steps)) (both-left (fresh || negated (is_first step)) (is_led (is_open step) front) holds) (led-append (is_open step) front steps (led-behind fresh step front holds) led)

abbrev led_chosen : Option (List Step) → Bool
led_chosen None = true
led_chosen (Some chosen) = is_led false chosen

-- so it is in each rule
led-each : (what : Sort) → IsTrue (every (λ word. led_chosen (choice what word)) all_terms)
led-each sort.Program = refl
led-each (sort.AfterGetter getter.ThreadNum) = refl
led-each (sort.Behind directive.Parallel) = refl
led-each (sort.Clauses directive.Parallel) = refl
led-each (sort.Clause directive.Parallel) = refl
led-each other = refl

pub led-choice : (what : Sort) (word : Term) (chosen : List Step) → choice what word ≡ Some chosen → IsTrue (is_led false chosen)
led-choice what word chosen at = subst (λ found. IsTrue (led_chosen found)) at (every-among (λ next. led_chosen (choice what next)) all_terms word (led-each what) (among-all word))

-- a node that was just opened stands where the next word does
abbrev pub IsFresh : Bool → List Word → List Opened → Type 0
IsFresh false words nodes = Unit {0}
IsFresh true [] nodes = ⊥
IsFresh true (word ∷ words) [] = ⊥
IsFresh true (word ∷ words) (node ∷ outer) = node.spot ≡ word.spot
