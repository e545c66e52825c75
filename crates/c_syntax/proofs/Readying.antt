-- What a sort is read by keeps the steps such that, behind the next word, they can be completed.
use Rattle.std.proofs.Common.{◌≡◌, Bool, true, false, ◌&&◌, IsTrue, List, [], ◌∷◌, ◌++◌, Option, Some, None, unwrap_or, refl, sym, ap, subst, inl}
use Rattle.std.proofs.lemmas.Bool.{false≢true}
use Rattle.c_syntax.specs.declared.node.Getter.TheVariants as getter
use Rattle.c_syntax.specs.declared.node.Directive.TheVariants as directive
use Rattle.c_syntax.specs.declared.term.Term.{Term}
use Rattle.c_syntax.specs.declared.term.Term.TheVariants as term
use Rattle.c_syntax.specs.declared.grammar.Sort.{Sort}
use Rattle.c_syntax.specs.declared.grammar.Sort.TheVariants as sort
use Rattle.c_syntax.specs.declared.grammar.Step.{Step}
use Rattle.c_syntax.specs.declared.grammar.Step.TheVariants.{Expect, Deepen, Rise, Take, InHead, Read, Open, Make, Join, Wrap, Skip}
use Rattle.c_syntax.specs.workings.Grammar.{choice}
use Rattle.c_syntax.specs.workings.Closing.{opener, opens, followers, IsAmong, is_shallow, is_end, last_steps, IsHeld, IsReady}
use Rattle.c_syntax.proofs.Steps.{some-one}
use Rattle.c_syntax.proofs.Terms.{all_terms, among-all, is_among, among-true, every, every-among, negated, negated-true, both-left, both-right}

-- whether some steps may be left behind a word, and before one that was seen, where this word follows them
abbrev held_before : Term → List Step → Bool
held_before follower [] = true
held_before follower (Expect term ∷ steps) = negated (is_end term) && held_before follower steps
held_before follower (Take which ∷ steps) = held_before follower steps
held_before follower (Deepen term ∷ steps) = false
held_before follower (InHead ∷ steps) = false
held_before follower (Read what ∷ steps) = is_shallow what && (is_among (opens follower steps) (followers what) && held_before follower steps)
held_before follower (_ ∷ steps) = held_before follower steps

abbrev ready_before : Term → List Step → Bool
ready_before follower [] = true
ready_before follower (Expect term ∷ steps) = negated (is_end term) && held_before follower steps
ready_before follower (Take which ∷ steps) = held_before follower steps
ready_before follower (Deepen term ∷ steps) = negated (is_end term) && held_before follower steps
ready_before follower (InHead ∷ steps) = ready_before follower steps
ready_before follower (Read what ∷ steps) = is_among (opens follower steps) (followers what) && held_before follower steps
ready_before follower (_ ∷ steps) = ready_before follower steps

opens-append : (follower : Term) (front steps : List Step) → opens follower (front ++ steps) ≡ opens (opens follower steps) front
opens-append follower [] steps = refl
opens-append follower (Read what ∷ front) steps = ap (unwrap_or (opener what)) (opens-append follower front steps)
opens-append follower (Expect term ∷ front) steps = refl
opens-append follower (Deepen term ∷ front) steps = refl
opens-append follower (Take which ∷ front) steps = refl
opens-append follower (_ ∷ front) steps = opens-append follower front steps

among-front : (what : Sort) (front steps : List Step) → IsTrue (is_among (opens (opens term.End steps) front) (followers what)) → IsAmong (opens term.End (front ++ steps)) (followers what)
among-front what front steps holds = subst (λ word. IsAmong word (followers what)) (sym (opens-append term.End front steps)) (among-true (opens (opens term.End steps) front) (followers what) holds)

held-front : (front steps : List Step) → IsTrue (held_before (opens term.End steps) front) → IsHeld steps → IsHeld (front ++ steps)
held-front [] steps holds held = held
held-front (Expect word ∷ front) steps holds held = IsHeld.expects (negated-true (is_end word) (both-left (negated (is_end word)) (held_before (opens term.End steps) front) holds)) (held-front front steps (both-right (negated (is_end word)) (held_before (opens term.End steps) front) holds) held)
held-front (Take which ∷ front) steps holds held = IsHeld.takes (held-front front steps holds held)
held-front (Deepen word ∷ front) steps fails held = absurd (false≢true fails)
held-front (InHead ∷ front) steps fails held = absurd (false≢true fails)
held-front (Read what ∷ front) steps holds held =
    let shallow = both-left (is_shallow what) (is_among (opens (opens term.End steps) front) (followers what) && held_before (opens term.End steps) front) holds in
    let rest = both-right (is_shallow what) (is_among (opens (opens term.End steps) front) (followers what) && held_before (opens term.End steps) front) holds in
    let among = both-left (is_among (opens (opens term.End steps) front) (followers what)) (held_before (opens term.End steps) front) rest in
    let behind = both-right (is_among (opens (opens term.End steps) front) (followers what)) (held_before (opens term.End steps) front) rest in
    IsHeld.reads shallow (among-front what front steps among) (held-front front steps behind held)
held-front (Rise ∷ front) steps holds held = IsHeld.plain refl (held-front front steps holds held)
held-front (Open ∷ front) steps holds held = IsHeld.plain refl (held-front front steps holds held)
held-front (Make kind ∷ front) steps holds held = IsHeld.plain refl (held-front front steps holds held)
held-front (Join kind ∷ front) steps holds held = IsHeld.plain refl (held-front front steps holds held)
held-front (Wrap kind ∷ front) steps holds held = IsHeld.plain refl (held-front front steps holds held)
held-front (Skip ∷ front) steps holds held = IsHeld.plain refl (held-front front steps holds held)

-- what is left behind a word is ready for the next one
pub ready-held : {steps : List Step} → IsHeld steps → IsReady steps
ready-held IsHeld.ending = IsReady.ending
ready-held (IsHeld.expects inside held) = IsReady.expects inside held
ready-held (IsHeld.takes held) = IsReady.takes held
ready-held (IsHeld.reads shallow among held) = IsReady.reads among held
ready-held (IsHeld.plain holds held) = IsReady.plain holds (ready-held held)

ready-front : (front steps : List Step) → IsTrue (ready_before (opens term.End steps) front) → IsHeld steps → IsReady (front ++ steps)
ready-front [] steps holds held = ready-held held
ready-front (Expect word ∷ front) steps holds held = IsReady.expects (negated-true (is_end word) (both-left (negated (is_end word)) (held_before (opens term.End steps) front) holds)) (held-front front steps (both-right (negated (is_end word)) (held_before (opens term.End steps) front) holds) held)
ready-front (Deepen word ∷ front) steps holds held = IsReady.deepens (negated-true (is_end word) (both-left (negated (is_end word)) (held_before (opens term.End steps) front) holds)) (held-front front steps (both-right (negated (is_end word)) (held_before (opens term.End steps) front) holds) held)
ready-front (Take which ∷ front) steps holds held = IsReady.takes (held-front front steps holds held)
ready-front (InHead ∷ front) steps holds held = IsReady.in_head (ready-front front steps holds held)
ready-front (Read what ∷ front) steps holds held =
    let among = both-left (is_among (opens (opens term.End steps) front) (followers what)) (held_before (opens term.End steps) front) holds in
    let behind = both-right (is_among (opens (opens term.End steps) front) (followers what)) (held_before (opens term.End steps) front) holds in
    IsReady.reads (among-front what front steps among) (held-front front steps behind held)
ready-front (Rise ∷ front) steps holds held = IsReady.plain refl (ready-front front steps holds held)
ready-front (Open ∷ front) steps holds held = IsReady.plain refl (ready-front front steps holds held)
ready-front (Make kind ∷ front) steps holds held = IsReady.plain refl (ready-front front steps holds held)
ready-front (Join kind ∷ front) steps holds held = IsReady.plain refl (ready-front front steps holds held)
ready-front (Wrap kind ∷ front) steps holds held = IsReady.plain refl (ready-front front steps holds held)
ready-front (Skip ∷ front) steps holds held = IsReady.plain refl (ready-front front steps holds held)

abbrev ready_chosen : Term → Option (List Step) → Bool
ready_chosen follower None = true
ready_chosen follower (Some chosen) = ready_before follower chosen

abbrev ready_sort : Sort → Term → Bool
ready_sort what follower = every (λ word. ready_chosen follower (choice what word)) all_terms

-- so it is with each sort, each word that may follow it and each word that may be next
ready-each : (what : Sort) → IsTrue (every (ready_sort what) (followers what))
ready-each sort.Program = refl
ready-each (sort.AfterGetter getter.ThreadNum) = refl
ready-each (sort.Behind directive.Parallel) = refl
ready-each (sort.Clauses directive.Parallel) = refl
ready-each (sort.Clause directive.Parallel) = refl
ready-each other = refl

ready-choice : (what : Sort) (word follower : Term) → IsAmong follower (followers what) → IsTrue (ready_chosen follower (choice what word))
ready-choice what word follower among =
    let each : IsTrue (ready_sort what follower) = every-among (ready_sort what) (followers what) follower (ready-each what) among in
    every-among (λ next. ready_chosen follower (choice what next)) all_terms word each (among-all word)

-- the steps stay ready where a sort is read
pub ready-read : (what : Sort) (word : Term) (chosen : List Step) {steps : List Step} → choice what word ≡ Some chosen → IsReady (Read what ∷ steps) → IsReady (chosen ++ steps)
ready-read what word chosen at (IsReady.reads {steps = steps} among held) = ready-front chosen steps (subst (λ found. IsTrue (ready_chosen (opens term.End steps) found)) at (ready-choice what word (opens term.End steps) among)) held
ready-read what word chosen at IsReady.beginning =
    let same : Open ∷ Read sort.Globals ∷ last_steps ≡ chosen = some-one at in
    subst (λ first. IsReady (first ++ [])) same (IsReady.plain refl (IsReady.reads (inl refl) IsHeld.ending))
ready-read what word chosen at (IsReady.plain fails ready) = absurd (false≢true fails)
