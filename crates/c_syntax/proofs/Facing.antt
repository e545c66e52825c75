-- A reading, step by step: what was reached behind some words, how each step goes on from a state that faces a word, and where none can.
use Rattle.std.proofs.Common.{ℕ, ◌≡◌, ◌≢◌, ◌≤◌, ◌<◌, ◌+◌, ◌-◌, Bool, true, false, if◌then◌else◌, List, [], ◌∷◌, ◌++◌, Some, None, IsTrue, refl, sym, subst, ap, ◌∙◌, arith}
use Rattle.std.proofs.lemmas.Bool.{false≢true}
use Rattle.std.proofs.lemmas.List.{append_assoc, append-nil}
use Rattle.c_syntax.specs.declared.node.NodeKind.{NodeKind}
use Rattle.c_syntax.specs.declared.node.NodeKind.TheVariants as node
use Rattle.c_syntax.specs.declared.node.Getter.TheVariants as getter
use Rattle.c_syntax.specs.declared.term.Term.{Term}
use Rattle.c_syntax.specs.declared.term.Term.TheVariants as term
use Rattle.c_syntax.specs.declared.grammar.Class.{Class}
use Rattle.c_syntax.specs.declared.grammar.Class.TheVariants as class
use Rattle.c_syntax.specs.declared.grammar.Sort.{Sort}
use Rattle.c_syntax.specs.declared.grammar.Step.{Step}
use Rattle.c_syntax.specs.declared.grammar.Step.TheVariants.{Expect, Deepen, Rise, Take, InHead, Read, Open, Make, Join, Wrap, Skip}
use Rattle.c_syntax.specs.declared.head.Head.{Head}
use Rattle.c_syntax.specs.declared.head.Head.TheVariants as head
use Rattle.c_syntax.specs.declared.fault.SyntaxFault.TheVariants as fault
use Rattle.c_syntax.specs.language.Heads.{behind}
use Rattle.c_syntax.specs.language.Words.{Word}
use Rattle.c_syntax.specs.language.Tree.{Tree}
use Rattle.c_syntax.specs.workings.Grammar.{choice}
use Rattle.c_syntax.specs.language.Productions.{GoesOn, IsProgram, depth_limit}
use Rattle.c_syntax.specs.language.WordClasses.{is_outside}
use Rattle.c_syntax.specs.workings.Derivation.{Derives, fits, kept, made, joined, wrapped, skipped, opened_at, result_of, outermost, program_steps, SpellsWithin, CanGoOn}
use Rattle.c_syntax.specs.workings.Closing.{is_end, is_plain, last_step, IsHeld, IsLeft, IsReady}
use Rattle.c_syntax.specs.language.Faults.{left_off, is_odd_at, is_unknown_at, fault_of, IsFaultAt, IsFault}
use Rattle.c_syntax.specs.workings.Reading.{State, From, Leaves, Reaches, Faces}
use Rattle.c_syntax.proofs.Steps.{none-left, expect-back, deepen-back, take-back, rise-back, in_head-back, read-back, open-back, make-back, join-back, wrap-back, skip-back, read-as}
use Rattle.c_syntax.proofs.Limits.{within-wider}
use Rattle.c_syntax.proofs.Leaving.{leaves-as, leaves-read, leaves-see}
use Rattle.c_syntax.proofs.Completing.{left-completed}
use Rattle.c_syntax.proofs.Readying.{ready-held, ready-read}
use Rattle.c_syntax.proofs.ProgramMeaning.{derives_program}
use Rattle.c_syntax.proofs.GoingOn.{goes_by_productions, goes_by_table}

-- the last of some words, or a word where there is none
abbrev last_of : Word → List Word → Word
last_of word [] = word
last_of word (first ∷ words) = last_of first words

last_of-push : (first : Word) (words : List Word) (word : Word) → last_of first (words ++ word ∷ []) ≡ word
last_of-push first [] word = refl
last_of-push first (next ∷ words) word = last_of-push next words word

last-same : (first second : List Word) (one other : Word) → first ++ one ∷ [] ≡ second ++ other ∷ [] → one ≡ other
last-same first second one other same = sym (last_of-push one first one) ∙ (ap (last_of one) same ∙ last_of-push one second other)

none-pushed : (words : List Word) (word : Word) → [] ≡ words ++ word ∷ [] → ⊥
none-pushed [] word same = cc
none-pushed (first ∷ words) word same = cc

end-is : {word : Term} → word ≡ term.End → is_end word ≡ true
end-is same = ap is_end same

-- the beginning, the words that were reached and the next one

pub reaches-beginning : Reaches [] (record { steps = program_steps; depth = 0; at = head.Outside; nodes = outermost })
reaches-beginning = record {
  leaves = record { onward = λ limit more tree wide spells. spells; back = λ limit more tree wide reading. reading; at = refl };
  steps = IsLeft.beginning;
  ended = λ front word same end. absurd (none-pushed front word same);
}

-- whatever was reached can be completed
pub goes-on : {before : List Word} {state : State} → Reaches before state → CanGoOn depth_limit before
goes-on {before} {state} reaches =
    let rest = left-completed depth_limit reaches.steps state.depth state.at state.nodes in
    (rest.0, rest.1, reaches.leaves.back depth_limit rest.0 rest.1 (omega arith) rest.2)

ready-left : {steps : List Step} → IsLeft steps → IsReady steps
ready-left IsLeft.beginning = IsReady.beginning
ready-left (IsLeft.under_way held) = ready-held held
ready-left IsLeft.finished = IsReady.plain refl IsReady.over

pub faces-next : {before : List Word} {state : State} → Reaches before state → (word : Word) → Faces before word state
faces-next reaches word = record { leaves = leaves-see word reaches.leaves; goes_on = goes-on reaches; steps = ready-left reaches.steps }

-- states with the same fields are the same
same-state : {state after : State} → after.steps ≡ state.steps → after.depth ≡ state.depth → after.at ≡ state.at → after.nodes ≡ state.nodes → state ≡ after
same-state steps depth at nodes i = record { steps = sym steps i; depth = sym depth i; at = sym at i; nodes = sym nodes i }

pub faces-same : {before : List Word} {word : Word} {state after : State} → Faces before word state → after.steps ≡ state.steps → after.depth ≡ state.depth → after.at ≡ state.at → after.nodes ≡ state.nodes → Faces before word after
faces-same {before} {word} faces steps depth at nodes = subst (Faces before word) (same-state steps depth at nodes) faces

pub reaches-same : {before : List Word} {state after : State} → Reaches before state → after.steps ≡ state.steps → after.depth ≡ state.depth → after.at ≡ state.at → after.nodes ≡ state.nodes → Reaches before after
reaches-same {before} reaches steps depth at nodes = subst (Reaches before) (same-state steps depth at nodes) reaches

-- the steps that read no word

-- a state under the steps that it is known to have
faces-as : {before : List Word} {word : Word} {state : State} {steps : List Step} → Faces before word state → state.steps ≡ steps → Faces before word (record state { steps = steps })
faces-as faces same = faces-same faces (sym same) refl refl refl

faces-go : {before : List Word} {word : Word} {state after : State} → ((limit : ℕ) (more : List Word) (tree : Tree) → depth_limit ≤ limit → From limit state (word ∷ more) tree → From limit after (word ∷ more) tree) → ((limit : ℕ) (more : List Word) (tree : Tree) → depth_limit ≤ limit → From limit after (word ∷ more) tree → From limit state (word ∷ more) tree) → after.at ≡ state.at → (IsReady state.steps → IsReady after.steps) → Faces before word state → Faces before word after
faces-go there back at ready faces = record { leaves = leaves-as there back at faces.leaves; goes_on = faces.goes_on; steps = ready faces.steps }

plain-left : {step : Step} {steps : List Step} → IsTrue (is_plain step) → IsReady (step ∷ steps) → IsReady steps
plain-left fails IsReady.beginning = absurd (false≢true fails)
plain-left fails IsReady.ending = absurd (false≢true fails)
plain-left fails (IsReady.expects inside held) = absurd (false≢true fails)
plain-left fails (IsReady.deepens inside held) = absurd (false≢true fails)
plain-left fails (IsReady.takes held) = absurd (false≢true fails)
plain-left fails (IsReady.in_head ready) = absurd (false≢true fails)
plain-left fails (IsReady.reads among held) = absurd (false≢true fails)
plain-left holds (IsReady.plain same ready) = ready

in_head-left : {steps : List Step} → IsReady (InHead ∷ steps) → IsReady steps
in_head-left (IsReady.in_head ready) = ready
in_head-left (IsReady.plain fails ready) = absurd (false≢true fails)

pub faces-rise : {before : List Word} {word : Word} {state : State} {steps : List Step} → Faces before word state → state.steps ≡ Rise ∷ steps → Faces before word (record state { steps = steps; depth = state.depth - 1 })
faces-rise faces same = faces-go (λ limit more tree wide reading. rise-back reading) (λ limit more tree wide reading. Derives.rise reading) refl (plain-left refl) (faces-as faces same)

pub faces-open : {before : List Word} {word : Word} {state : State} {steps : List Step} → Faces before word state → state.steps ≡ Open ∷ steps → Faces before word (record state { steps = steps; nodes = opened_at word.spot ∷ state.nodes })
faces-open faces same = faces-go (λ limit more tree wide reading. open-back reading) (λ limit more tree wide reading. Derives.open_node reading) refl (plain-left refl) (faces-as faces same)

pub faces-make : {before : List Word} {word : Word} {state : State} {steps : List Step} {kind : NodeKind} → Faces before word state → state.steps ≡ Make kind ∷ steps → Faces before word (record state { steps = steps; nodes = made kind state.nodes })
faces-make faces same = faces-go (λ limit more tree wide reading. make-back reading) (λ limit more tree wide reading. Derives.make reading) refl (plain-left refl) (faces-as faces same)

pub faces-join : {before : List Word} {word : Word} {state : State} {steps : List Step} {kind : NodeKind} → Faces before word state → state.steps ≡ Join kind ∷ steps → Faces before word (record state { steps = steps; nodes = joined kind state.nodes })
faces-join faces same = faces-go (λ limit more tree wide reading. join-back reading) (λ limit more tree wide reading. Derives.join reading) refl (plain-left refl) (faces-as faces same)

pub faces-wrap : {before : List Word} {word : Word} {state : State} {steps : List Step} {kind : NodeKind} → Faces before word state → state.steps ≡ Wrap kind ∷ steps → Faces before word (record state { steps = steps; nodes = wrapped kind state.nodes })
faces-wrap faces same = faces-go (λ limit more tree wide reading. wrap-back reading) (λ limit more tree wide reading. Derives.wrap reading) refl (plain-left refl) (faces-as faces same)

pub faces-skip : {before : List Word} {word : Word} {state : State} {steps : List Step} → Faces before word state → state.steps ≡ Skip ∷ steps → Faces before word (record state { steps = steps; nodes = skipped state.nodes })
faces-skip faces same = faces-go (λ limit more tree wide reading. skip-back reading) (λ limit more tree wide reading. Derives.skip reading) refl (plain-left refl) (faces-as faces same)

pub faces-in_head : {before : List Word} {word : Word} {state : State} {steps : List Step} → Faces before word state → state.steps ≡ InHead ∷ steps → is_outside state.at ≡ false → Faces before word (record state { steps = steps })
faces-in_head faces same inside = faces-go (λ limit more tree wide reading. (in_head-back reading).1) (λ limit more tree wide reading. Derives.in_head inside reading) refl in_head-left (faces-as faces same)

pub faces-read : {before : List Word} {word : Word} {state : State} {steps chosen : List Step} {what : Sort} → Faces before word state → state.steps ≡ Read what ∷ steps → choice what word.term ≡ Some chosen → Faces before word (record state { steps = chosen ++ steps })
faces-read {word = word} {chosen = chosen} {what = what} faces same at = faces-go (λ limit more tree wide reading. read-as at reading) (λ limit more tree wide reading. Derives.read at reading) refl (ready-read what word.term chosen at) (faces-as faces same)

-- the steps that read a word

expect-left : {word : Term} {steps : List Step} → IsReady (Expect word ∷ steps) → IsLeft steps
expect-left IsReady.ending = IsLeft.finished
expect-left (IsReady.expects inside held) = IsLeft.under_way held
expect-left (IsReady.plain fails ready) = absurd (false≢true fails)

expect-end : {word : Term} {steps : List Step} → IsReady (Expect word ∷ steps) → is_end word ≡ true → steps ≡ last_step
expect-end IsReady.ending end = refl
expect-end (IsReady.expects inside held) end = absurd (false≢true (sym inside ∙ end))
expect-end (IsReady.plain fails ready) end = absurd (false≢true fails)

deepen-inside : {word : Term} {steps : List Step} → IsReady (Deepen word ∷ steps) → is_end word ≡ false
deepen-inside (IsReady.deepens inside held) = inside
deepen-inside (IsReady.plain fails ready) = absurd (false≢true fails)

deepen-held : {word : Term} {steps : List Step} → IsReady (Deepen word ∷ steps) → IsHeld steps
deepen-held (IsReady.deepens inside held) = held
deepen-held (IsReady.plain fails ready) = absurd (false≢true fails)

take-held : {which : Class} {steps : List Step} → IsReady (Take which ∷ steps) → IsHeld steps
take-held (IsReady.takes held) = held
take-held (IsReady.plain fails ready) = absurd (false≢true fails)

-- the word for the end of the text is of no class
end-fits : (at : Head) (which : Class) → fits at which term.End ≡ false
end-fits head.Outside class.Name = refl
end-fits other class.Name = refl
end-fits at (class.Routine getter.ThreadNum) = refl
end-fits at (class.Routine getter.NumThreads) = refl
end-fits at (class.Routine getter.MaxThreads) = refl
end-fits at class.Number = refl
end-fits at class.Text = refl

pub reaches-expect : {before : List Word} {word : Word} {state : State} {steps : List Step} {term : Term} → Faces before word state → state.steps ≡ Expect term ∷ steps → word.term ≡ term → Reaches (before ++ word ∷ []) (record state { steps = steps; at = behind state.at word.term })
reaches-expect {before} {word} {state} {steps} {term} faces same fit =
    let ready : IsReady (Expect term ∷ steps) = (faces-as faces same).steps in
    record {
      leaves = leaves-read (λ limit more tree wide reading. (expect-back reading).1) (λ limit more tree wide reading. Derives.expect fit reading) refl (faces-as faces same).leaves;
      steps = expect-left ready;
      ended = λ front other pushed end. expect-end ready (end-is (sym fit ∙ (ap (λ (one : Word). one.term) (last-same before front word other pushed) ∙ end)));
    }

pub reaches-deepen : {before : List Word} {word : Word} {state : State} {steps : List Step} {term : Term} → Faces before word state → state.steps ≡ Deepen term ∷ steps → word.term ≡ term → state.depth < depth_limit → Reaches (before ++ word ∷ []) (record state { steps = steps; depth = state.depth + 1; at = behind state.at word.term })
reaches-deepen {before} {word} {state} {steps} {term} faces same fit low =
    let ready : IsReady (Deepen term ∷ steps) = (faces-as faces same).steps in
    record {
      leaves = leaves-read (λ limit more tree wide reading. (deepen-back reading).2) (λ limit more tree wide reading. Derives.deepen fit (omega arith) reading) refl (faces-as faces same).leaves;
      steps = IsLeft.under_way (deepen-held ready);
      ended = λ front other pushed end. absurd (false≢true (sym (deepen-inside ready) ∙ end-is (sym fit ∙ (ap (λ (one : Word). one.term) (last-same before front word other pushed) ∙ end))));
    }

pub reaches-take : {before : List Word} {word : Word} {state : State} {steps : List Step} {which : Class} → Faces before word state → state.steps ≡ Take which ∷ steps → IsTrue (fits state.at which word.term) → Reaches (before ++ word ∷ []) (record state { steps = steps; at = behind state.at word.term; nodes = kept which word state.nodes })
reaches-take {before} {word} {state} {steps} {which} faces same fit =
    let ready : IsReady (Take which ∷ steps) = (faces-as faces same).steps in
    record {
      leaves = leaves-read (λ limit more tree wide reading. (take-back reading).1) (λ limit more tree wide reading. Derives.take fit reading) refl (faces-as faces same).leaves;
      steps = IsLeft.under_way (take-held ready);
      ended = λ front other pushed end. absurd (false≢true (sym (end-fits state.at which) ∙ subst (λ one. IsTrue (fits state.at which one)) (ap (λ (one : Word). one.term) (last-same before front word other pushed) ∙ end) fit));
    }

-- the end

pub reaches-end : (before : List Word) (word : Word) {state : State} → Reaches (before ++ word ∷ []) state → word.term ≡ term.End → state.steps ≡ last_step
reaches-end before word reaches end = reaches.ended before word refl end

pub reaches-spells : {words : List Word} {state : State} → Reaches words state → state.steps ≡ last_step → IsProgram depth_limit words (result_of (made node.Program state.nodes))
reaches-spells {words} {state} reaches same =
    let tree = result_of (made node.Program state.nodes) in
    let last : From depth_limit (record state { steps = last_step }) [] tree = Derives.make (Derives.over refl) in
    let now : From depth_limit state [] tree = subst (λ steps. Derives depth_limit steps state.depth state.at [] state.nodes tree) (sym same) last in
    derives_program depth_limit words tree (subst (λ all. SpellsWithin depth_limit all tree) (append-nil words) (reaches.leaves.back depth_limit [] tree (omega arith) now))

-- the words that may not follow

-- where no program goes on with a word, at whatever limit
never-on : {before : List Word} {word : Word} {state : State} → Leaves before (word ∷ []) state → ((limit : ℕ) (more : List Word) (tree : Tree) → From limit state (word ∷ more) tree → ⊥) → (limit : ℕ) → CanGoOn limit (before ++ word ∷ []) → ⊥
never-on {before} {word} {state} leaves never limit (more, tree, spells) =
    let wider : limit ≤ limit + depth_limit = omega arith in
    let wide : depth_limit ≤ limit + depth_limit = omega arith in
    let whole = subst (λ words. SpellsWithin limit words tree) (append_assoc before (word ∷ []) more) spells in
    never (limit + depth_limit) more tree (leaves.onward (limit + depth_limit) more tree wide (within-wider wider whole))

fault-at : (before : List Word) (word : Word) → ((limit : ℕ) → GoesOn limit (before ++ word ∷ []) → ⊥) → (odd unknown : Bool) → (if odd then fault.OutOfProfile word.spot else if unknown then fault.UnknownDirective word.spot else fault.Unexpected word.spot) ≡ fault_of (left_off head.Outside before) word → IsFaultAt before word (if odd then fault.OutOfProfile word.spot else if unknown then fault.UnknownDirective word.spot else fault.Unexpected word.spot)
fault-at before word never true unknown same = (same, never)
fault-at before word never false true same = (same, never)
fault-at before word never false false same = (same, never)

refused : {before : List Word} {word : Word} {state : State} → Faces before word state → ((limit : ℕ) (more : List Word) (tree : Tree) → From limit state (word ∷ more) tree → ⊥) → (after : List Word) → IsFault (before ++ word ∷ after) (fault_of state.at word)
refused {before} {word} {state} faces never after =
    let none : (limit : ℕ) → GoesOn limit (before ++ word ∷ []) → ⊥ = λ limit goes. never-on faces.leaves never limit (goes_by_table limit (before ++ word ∷ []) goes) in
    let place = left_off head.Outside before in
    let found : IsFault (before ++ word ∷ after) (fault_of place word) = (before, word, after, refl, goes_by_productions depth_limit before faces.goes_on, none depth_limit, fault-at before word none (is_odd_at place word.term) (is_unknown_at place word.term) refl) in
    subst (λ at. IsFault (before ++ word ∷ after) (fault_of at word)) (sym faces.leaves.at) found

-- the place in the head of a directive that a fault goes by is that of the words before
pub fault-left : {before : List Word} {word : Word} {state : State} → Faces before word state → fault_of state.at word ≡ fault_of (left_off head.Outside before) word
fault-left {word = word} faces = ap (λ at. fault_of at word) faces.leaves.at

pub refuses-expect : {before : List Word} {word : Word} {state : State} {steps : List Step} {term : Term} → Faces before word state → state.steps ≡ Expect term ∷ steps → word.term ≢ term → (after : List Word) → IsFault (before ++ word ∷ after) (fault_of state.at word)
refuses-expect faces same differs after = refused (faces-as faces same) (λ limit more tree reading. differs (expect-back reading).0) after

pub refuses-deepen : {before : List Word} {word : Word} {state : State} {steps : List Step} {term : Term} → Faces before word state → state.steps ≡ Deepen term ∷ steps → word.term ≢ term → (after : List Word) → IsFault (before ++ word ∷ after) (fault_of state.at word)
refuses-deepen faces same differs after = refused (faces-as faces same) (λ limit more tree reading. differs (deepen-back reading).0) after

pub refuses-take : {before : List Word} {word : Word} {state : State} {steps : List Step} {which : Class} → Faces before word state → state.steps ≡ Take which ∷ steps → fits state.at which word.term ≡ false → (after : List Word) → IsFault (before ++ word ∷ after) (fault_of state.at word)
refuses-take faces same misfit after = refused (faces-as faces same) (λ limit more tree reading. false≢true (sym misfit ∙ (take-back reading).0)) after

pub refuses-in_head : {before : List Word} {word : Word} {state : State} {steps : List Step} → Faces before word state → state.steps ≡ InHead ∷ steps → is_outside state.at ≡ true → (after : List Word) → IsFault (before ++ word ∷ after) (fault_of state.at word)
refuses-in_head faces same outside after = refused (faces-as faces same) (λ limit more tree reading. false≢true (sym (in_head-back reading).0 ∙ outside)) after

none-some : {steps : List Step} → None ≡ Some steps → ⊥
none-some same = cc

pub refuses-read : {before : List Word} {word : Word} {state : State} {steps : List Step} {what : Sort} → Faces before word state → state.steps ≡ Read what ∷ steps → choice what word.term ≡ None → (after : List Word) → IsFault (before ++ word ∷ after) (fault_of state.at word)
refuses-read faces same none after = refused (faces-as faces same) (λ limit more tree reading. none-some (sym none ∙ (read-back reading).1)) after

pub refuses-none : {before : List Word} {word : Word} {state : State} → Faces before word state → state.steps ≡ [] → (after : List Word) → IsFault (before ++ word ∷ after) (fault_of state.at word)
refuses-none faces same after = refused (faces-as faces same) (λ limit more tree reading. none-left reading) after

-- only the limit keeps the word from being read: a wider one lets it, and what follows can be completed
pub refuses-depth : {before : List Word} {word : Word} {state : State} {steps : List Step} {term : Term} → Faces before word state → state.steps ≡ Deepen term ∷ steps → word.term ≡ term → depth_limit ≤ state.depth → (after : List Word) → IsFault (before ++ word ∷ after) (fault.TooDeep word.spot)
refuses-depth {before} {word} {state} {steps} {term} faces same fit deep after =
    (before, word, after, refl, goes_by_productions depth_limit before faces.goes_on, λ goes. never (goes_by_table depth_limit (before ++ word ∷ []) goes), (refl, (state.depth + 1, goes_by_productions (state.depth + 1) (before ++ word ∷ []) on)))
  where
    now : Faces before word (record state { steps = Deepen term ∷ steps })
    now = faces-as faces same

    never : CanGoOn depth_limit (before ++ word ∷ []) → ⊥
    never (more, tree, spells) =
        let whole = subst (λ words. SpellsWithin depth_limit words tree) (append_assoc before (word ∷ []) more) spells in
        let reading = deepen-back (now.leaves.onward depth_limit more tree (omega arith) whole) in
        let low : state.depth < depth_limit = reading.1 in
        omega arith

    on : CanGoOn (state.depth + 1) (before ++ word ∷ [])
    on =
        let rest = left-completed (state.depth + 1) (IsLeft.under_way (deepen-held now.steps)) (state.depth + 1) (behind state.at word.term) state.nodes in
        let wide : depth_limit ≤ state.depth + 1 = omega arith in
        let reading : From (state.depth + 1) (record state { steps = Deepen term ∷ steps }) (word ∷ rest.0) rest.1 = Derives.deepen fit (omega arith) rest.2 in
        (rest.0, rest.1, subst (λ words. SpellsWithin (state.depth + 1) words rest.1) (sym (append_assoc before (word ∷ []) rest.0)) (now.leaves.back (state.depth + 1) rest.0 rest.1 wide reading))
