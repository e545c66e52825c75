-- The steps that are left behind a word can be completed: for each sort of text and each word that may follow it there is a short text,
-- and none of its words counts for the depth.
use Rattle.std.proofs.Common.{ℕ, zero, suc, ◌-◌, ◌≡◌, Bool, true, false, ◌&&◌, IsTrue, List, [], ◌∷◌, ◌++◌, Option, Some, None, unwrap_or, refl, subst}
use Rattle.std.proofs.lemmas.Bool.{false≢true}
use Rattle.c_syntax.specs.declared.node.NodeKind.TheVariants as node
use Rattle.c_syntax.specs.declared.node.Getter.TheVariants as getter
use Rattle.c_syntax.specs.declared.node.Directive.TheVariants as directive
use Rattle.c_syntax.specs.declared.term.Term.{Term}
use Rattle.c_syntax.specs.declared.term.Term.TheVariants as term
use Rattle.c_syntax.specs.declared.grammar.Class.{Class}
use Rattle.c_syntax.specs.declared.grammar.Class.TheVariants as class
use Rattle.c_syntax.specs.declared.grammar.Sort.{Sort}
use Rattle.c_syntax.specs.declared.grammar.Sort.TheVariants as sort
use Rattle.c_syntax.specs.declared.grammar.Step.{Step}
use Rattle.c_syntax.specs.declared.grammar.Step.TheVariants.{Expect, Deepen, Rise, Take, InHead, Read, Open, Make, Join, Wrap, Skip}
use Rattle.c_syntax.specs.declared.head.Head.{Head}
use Rattle.c_syntax.specs.declared.head.Head.TheVariants as head
use Rattle.c_syntax.specs.language.Heads.{behind}
use Rattle.c_syntax.specs.language.Words.{Word}
use Rattle.c_syntax.specs.language.Tree.{Tree}
use Rattle.c_syntax.specs.workings.Grammar.{choice}
use Rattle.c_tokens.specs.language.Faults.{nowhere}
use Rattle.c_syntax.specs.workings.Derivation.{Derives, Opened, fits, kept, made, joined, wrapped, skipped, opened_at, result_of, program_steps}
use Rattle.c_syntax.specs.workings.Closing.{opener, sample, opens, followers, IsAmong, is_shallow, is_plain, last_steps, IsHeld, IsLeft}
use Rattle.c_syntax.proofs.Terms.{same, same-true, every, every-among, both-left, both-right}

abbrev word_of : Term → Word
word_of term = record { term = term; value = 0; text = []; spot = nowhere }

-- at any depth and behind any words, some words that begin with this one complete the steps
abbrev pub Ends : ℕ → Term → List Step → Type 0
Ends limit first steps = (depth : ℕ) (at : Head) (nodes : List Opened) → (words : List Word) × (tree : Tree) × Derives limit steps depth at (word_of first ∷ words) nodes tree

ends-expect : {limit : ℕ} {first term : Term} {steps : List Step} → Ends limit first steps → Ends limit term (Expect term ∷ steps)
ends-expect {first = first} {term = term} ends depth at nodes =
    let rest = ends depth (behind at term) nodes in
    (word_of first ∷ rest.0, rest.1, Derives.expect refl rest.2)

sample-fits : (at : Head) (which : Class) → IsTrue (fits at which (sample which))
sample-fits head.Outside class.Name = refl
sample-fits other class.Name = refl
sample-fits at (class.Routine getter.ThreadNum) = refl
sample-fits at (class.Routine getter.NumThreads) = refl
sample-fits at (class.Routine getter.MaxThreads) = refl
sample-fits at class.Number = refl
sample-fits at class.Text = refl

ends-take : {limit : ℕ} {first : Term} {steps : List Step} (which : Class) → Ends limit first steps → Ends limit (sample which) (Take which ∷ steps)
ends-take {first = first} which ends depth at nodes =
    let rest = ends depth (behind at (sample which)) (kept which (word_of (sample which)) nodes) in
    (word_of first ∷ rest.0, rest.1, Derives.take (sample-fits at which) rest.2)

ends-plain : {limit : ℕ} {first : Term} {steps : List Step} (step : Step) → IsTrue (is_plain step) → Ends limit first steps → Ends limit first (step ∷ steps)
ends-plain Rise holds ends depth at nodes = let rest = ends (depth - 1) at nodes in (rest.0, rest.1, Derives.rise rest.2)
ends-plain Open holds ends depth at nodes = let rest = ends depth at (opened_at nowhere ∷ nodes) in (rest.0, rest.1, Derives.open_node rest.2)
ends-plain (Make kind) holds ends depth at nodes = let rest = ends depth at (made kind nodes) in (rest.0, rest.1, Derives.make rest.2)
ends-plain (Join kind) holds ends depth at nodes = let rest = ends depth at (joined kind nodes) in (rest.0, rest.1, Derives.join rest.2)
ends-plain (Wrap kind) holds ends depth at nodes = let rest = ends depth at (wrapped kind nodes) in (rest.0, rest.1, Derives.wrap rest.2)
ends-plain Skip holds ends depth at nodes = let rest = ends depth at (skipped nodes) in (rest.0, rest.1, Derives.skip rest.2)
ends-plain other fails ends depth at nodes = absurd (false≢true fails)

ends-read : {limit : ℕ} {first : Term} {steps chosen : List Step} {what : Sort} → choice what first ≡ Some chosen → Ends limit first (chosen ++ steps) → Ends limit first (Read what ∷ steps)
ends-read same ends depth at nodes = let rest = ends depth at nodes in (rest.0, rest.1, Derives.read same rest.2)

-- whether short texts that a test knows complete some steps, where this word follows
abbrev ends_by : (Sort → Term → Bool) → Term → List Step → Bool
ends_by test follower [] = true
ends_by test follower (Expect term ∷ steps) = ends_by test follower steps
ends_by test follower (Take which ∷ steps) = ends_by test follower steps
ends_by test follower (Deepen term ∷ steps) = false
ends_by test follower (InHead ∷ steps) = false
ends_by test follower (Read what ∷ steps) = test what (opens follower steps) && ends_by test follower steps
ends_by test follower (_ ∷ steps) = ends_by test follower steps

abbrev ends_chosen : (Sort → Term → Bool) → Term → Term → Option (List Step) → Bool
ends_chosen test follower first None = false
ends_chosen test follower first (Some chosen) = same (opens follower chosen) first && ends_by test follower chosen

-- whether a short text of so many sorts inside one another completes a sort
abbrev ends_within : ℕ → Sort → Term → Bool
ends_within zero what follower = false
ends_within (suc count) what follower = ends_chosen (ends_within count) follower (unwrap_or (opener what) follower) (choice what (unwrap_or (opener what) follower))

-- what such a test says of a sort
abbrev IsSound : ℕ → (Sort → Term → Bool) → Type 0
IsSound limit test = (what : Sort) (follower : Term) → IsTrue (test what follower) → (steps : List Step) → Ends limit follower steps → Ends limit (unwrap_or (opener what) follower) (Read what ∷ steps)

sound-by : (limit : ℕ) (test : Sort → Term → Bool) → IsSound limit test → (follower : Term) (front : List Step) → IsTrue (ends_by test follower front) → (steps : List Step) → Ends limit follower steps → Ends limit (opens follower front) (front ++ steps)
sound-by limit test sound follower [] holds steps ends = ends
sound-by limit test sound follower (Expect term ∷ front) holds steps ends = ends-expect (sound-by limit test sound follower front holds steps ends)
sound-by limit test sound follower (Take which ∷ front) holds steps ends = ends-take which (sound-by limit test sound follower front holds steps ends)
sound-by limit test sound follower (Deepen term ∷ front) fails steps ends = absurd (false≢true fails)
sound-by limit test sound follower (InHead ∷ front) fails steps ends = absurd (false≢true fails)
sound-by limit test sound follower (Read what ∷ front) holds steps ends = sound what (opens follower front) (both-left (test what (opens follower front)) (ends_by test follower front) holds) (front ++ steps) (sound-by limit test sound follower front (both-right (test what (opens follower front)) (ends_by test follower front) holds) steps ends)
sound-by limit test sound follower (Rise ∷ front) holds steps ends = ends-plain Rise refl (sound-by limit test sound follower front holds steps ends)
sound-by limit test sound follower (Open ∷ front) holds steps ends = ends-plain Open refl (sound-by limit test sound follower front holds steps ends)
sound-by limit test sound follower (Make kind ∷ front) holds steps ends = ends-plain (Make kind) refl (sound-by limit test sound follower front holds steps ends)
sound-by limit test sound follower (Join kind ∷ front) holds steps ends = ends-plain (Join kind) refl (sound-by limit test sound follower front holds steps ends)
sound-by limit test sound follower (Wrap kind ∷ front) holds steps ends = ends-plain (Wrap kind) refl (sound-by limit test sound follower front holds steps ends)
sound-by limit test sound follower (Skip ∷ front) holds steps ends = ends-plain Skip refl (sound-by limit test sound follower front holds steps ends)

sound-chosen : (limit : ℕ) (test : Sort → Term → Bool) → IsSound limit test → (what : Sort) (follower first : Term) (found : Option (List Step)) → choice what first ≡ found → IsTrue (ends_chosen test follower first found) → (steps : List Step) → Ends limit follower steps → Ends limit first (Read what ∷ steps)
sound-chosen limit test sound what follower first None at fails steps ends = absurd (false≢true fails)
sound-chosen limit test sound what follower first (Some chosen) at holds steps ends =
    let begins : opens follower chosen ≡ first = same-true (opens follower chosen) first (both-left (same (opens follower chosen) first) (ends_by test follower chosen) holds) in
    let by : IsTrue (ends_by test follower chosen) = both-right (same (opens follower chosen) first) (ends_by test follower chosen) holds in
    ends-read at (subst (λ word. Ends limit word (chosen ++ steps)) begins (sound-by limit test sound follower chosen by steps ends))

sound-within : (limit count : ℕ) → IsSound limit (ends_within count)
sound-within limit zero what follower fails steps ends = absurd (false≢true fails)
sound-within limit (suc count) what follower holds steps ends = sound-chosen limit (ends_within count) (sound-within limit count) what follower (unwrap_or (opener what) follower) (choice what (unwrap_or (opener what) follower)) refl holds steps ends

-- the short texts of all sorts but the block
ends-each : (what : Sort) → IsTrue (is_shallow what) → IsTrue (every (ends_within 8 what) (followers what))
ends-each sort.Block fails = absurd (false≢true fails)
ends-each (sort.AfterGetter getter.ThreadNum) holds = refl
ends-each (sort.Behind directive.Parallel) holds = refl
ends-each (sort.Clauses directive.Parallel) holds = refl
ends-each (sort.Clause directive.Parallel) holds = refl
ends-each other holds = refl

ends-sort : {limit : ℕ} {what : Sort} {follower : Term} {steps : List Step} → IsTrue (is_shallow what) → IsAmong follower (followers what) → Ends limit follower steps → Ends limit (unwrap_or (opener what) follower) (Read what ∷ steps)
ends-sort {limit} {what} {follower} {steps} shallow among ends = sound-within limit 8 what follower (every-among (ends_within 8 what) (followers what) follower (ends-each what shallow) among) steps ends

ends-last : (limit : ℕ) → Ends limit term.End last_steps
ends-last limit depth at nodes = ([], result_of (made node.Program nodes), Derives.expect refl (Derives.make (Derives.over refl)))

-- whatever is left behind a word can be completed
pub ends-held : (limit : ℕ) {steps : List Step} → IsHeld steps → Ends limit (opens term.End steps) steps
ends-held limit IsHeld.ending = ends-last limit
ends-held limit (IsHeld.expects inside held) = ends-expect (ends-held limit held)
ends-held limit (IsHeld.takes {which = which} held) = ends-take which (ends-held limit held)
ends-held limit (IsHeld.reads shallow among held) = ends-sort shallow among (ends-held limit held)
ends-held limit (IsHeld.plain {step = step} {steps = steps} holds held) = plain-opens limit step steps holds (ends-held limit held)
  where
    plain-opens : (limit : ℕ) (step : Step) (steps : List Step) → IsTrue (is_plain step) → Ends limit (opens term.End steps) steps → Ends limit (opens term.End (step ∷ steps)) (step ∷ steps)
    plain-opens limit Rise steps holds ends = ends-plain Rise holds ends
    plain-opens limit Open steps holds ends = ends-plain Open holds ends
    plain-opens limit (Make kind) steps holds ends = ends-plain (Make kind) holds ends
    plain-opens limit (Join kind) steps holds ends = ends-plain (Join kind) holds ends
    plain-opens limit (Wrap kind) steps holds ends = ends-plain (Wrap kind) holds ends
    plain-opens limit Skip steps holds ends = ends-plain Skip holds ends
    plain-opens limit other steps fails ends = absurd (false≢true fails)

ends-program : (limit : ℕ) → Ends limit term.End program_steps
ends-program limit depth at nodes = ([], result_of (made node.Program (opened_at nowhere ∷ nodes)), Derives.read refl (Derives.open_node (Derives.read refl (Derives.expect refl (Derives.make (Derives.over refl))))))

-- the same at the beginning and at the end of a program
pub left-completed : (limit : ℕ) {steps : List Step} → IsLeft steps → (depth : ℕ) (at : Head) (nodes : List Opened) → (words : List Word) × (tree : Tree) × Derives limit steps depth at words nodes tree
left-completed limit IsLeft.beginning depth at nodes = let rest = ends-program limit depth at nodes in (word_of term.End ∷ rest.0, rest.1, rest.2)
left-completed limit (IsLeft.under_way {steps = steps} held) depth at nodes = let rest = ends-held limit held depth at nodes in (word_of (opens term.End steps) ∷ rest.0, rest.1, rest.2)
left-completed limit IsLeft.finished depth at nodes = ([], result_of (made node.Program nodes), Derives.make (Derives.over refl))
