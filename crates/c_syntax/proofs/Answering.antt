-- Words are answered: each one is read or at fault, so that words that end with the end of the text are a program or have a fault.
use Rattle.std.proofs.Common.{ℕ, zero, suc, ◌≡◌, ◌≤◌, ◌<◌, List, [], ◌∷◌, ◌++◌, Option, Some, None, Ok, refl, sym, subst, arith, inl, inr}
use Rattle.std.proofs.lemmas.Bool.{cases_Bool, cases_lt}
use Rattle.std.proofs.lemmas.List.{append_assoc}
use Rattle.c_tokens.specs.declared.token.Token.{Token}
use Rattle.c_tokens.specs.workings.Tokens.{tokens_of}
use Rattle.c_syntax.specs.declared.node.NodeKind.TheVariants as node
use Rattle.c_syntax.specs.declared.term.Term.TheVariants as term
use Rattle.c_syntax.specs.declared.grammar.Step.{Step}
use Rattle.c_syntax.specs.declared.grammar.Step.TheVariants.{Expect, Deepen, Rise, Take, InHead, Read, Open, Make, Join, Wrap, Skip}
use Rattle.c_syntax.specs.declared.fault.SyntaxFault.{SyntaxFault}
use Rattle.c_syntax.specs.declared.fault.SyntaxFault.TheVariants as fault
use Rattle.c_syntax.specs.language.Words.{Word, words_of}
use Rattle.c_syntax.specs.workings.Grammar.{choice}
use Rattle.c_syntax.specs.language.Productions.{depth_limit}
use Rattle.c_syntax.specs.language.WordClasses.{is_outside}
use Rattle.c_syntax.specs.workings.Derivation.{fits, made, result_of}
use Rattle.c_syntax.specs.language.Faults.{IsAnswered, IsFault, fault_of}
use Rattle.c_syntax.specs.workings.Reading.{Faces, Reaches, State, weight}
use Rattle.c_syntax.proofs.Terms.{same-or-not}
use Rattle.c_syntax.proofs.WordLists.{words_of-end}
use Rattle.c_syntax.proofs.Weights.{lighter-in_head, lighter-plain, lighter-read}
use Rattle.c_syntax.proofs.Facing.{faces-in_head, faces-join, faces-make, faces-next, faces-open, faces-read, faces-rise, faces-skip, faces-wrap, reaches-beginning, reaches-deepen, reaches-end, reaches-expect, reaches-spells, reaches-take, refuses-deepen, refuses-depth, refuses-expect, refuses-in_head, refuses-none, refuses-read, refuses-take}

-- a word behind others is read, or it is at fault whatever follows
data IsSettled (before : List Word) (word : Word) : Type 0 where
  read : {next : State} → Reaches (before ++ word ∷ []) next → IsSettled before word
  at_fault : (found : SyntaxFault) → ((after : List Word) → IsFault (before ++ word ∷ after) found) → IsSettled before word

-- a step leaves the word that is next, and there is less to do; or the word is settled
data Moves (before : List Word) (word : Word) (steps : List Step) : Type 0 where
  leaves : {next : State} → Faces before word next → weight next.steps < weight steps → Moves before word steps
  settles : IsSettled before word → Moves before word steps

takes : {before : List Word} {word : Word} {steps : List Step} {next : State} → Reaches (before ++ word ∷ []) next → Moves before word steps
takes reaches = Moves.settles (IsSettled.read reaches)

moves : {before : List Word} {word : Word} {state : State} (steps : List Step) → state.steps ≡ steps → Faces before word state → Moves before word steps
moves {word = word} {state = state} [] same faces = Moves.settles (IsSettled.at_fault (fault_of state.at word) (refuses-none faces same))
moves {word = word} {state = state} (Expect wanted ∷ steps) same faces =
    elim (same-or-not word.term wanted) [
      | inl fit ↦ takes (reaches-expect faces same fit)
      | inr differs ↦ Moves.settles (IsSettled.at_fault (fault_of state.at word) (refuses-expect faces same differs))
    ]
moves {word = word} {state = state} (Deepen wanted ∷ steps) same faces =
    elim (same-or-not word.term wanted) [
      | inl fit ↦
          elim (cases_lt state.depth depth_limit) [
            | inl low ↦ takes (reaches-deepen faces same fit low)
            | inr deep ↦ Moves.settles (IsSettled.at_fault (fault.TooDeep word.spot) (refuses-depth faces same fit deep))
          ]
      | inr differs ↦ Moves.settles (IsSettled.at_fault (fault_of state.at word) (refuses-deepen faces same differs))
    ]
moves {word = word} {state = state} (Take which ∷ steps) same faces =
    elim (cases_Bool (fits state.at which word.term)) [
      | inl fit ↦ takes (reaches-take faces same fit)
      | inr misfit ↦ Moves.settles (IsSettled.at_fault (fault_of state.at word) (refuses-take faces same misfit))
    ]
moves {word = word} {state = state} (InHead ∷ steps) same faces =
    elim (cases_Bool (is_outside state.at)) [
      | inl outside ↦ Moves.settles (IsSettled.at_fault (fault_of state.at word) (refuses-in_head faces same outside))
      | inr inside ↦ Moves.leaves (faces-in_head faces same inside) (lighter-in_head steps)
    ]
moves {before} {word} {state} (Read what ∷ steps) same faces = by-choice (choice what word.term) refl
  where
    by-choice : (found : Option (List Step)) → choice what word.term ≡ found → Moves before word (Read what ∷ steps)
    by-choice None none = Moves.settles (IsSettled.at_fault (fault_of state.at word) (refuses-read faces same none))
    by-choice (Some chosen) at = Moves.leaves (faces-read faces same at) (lighter-read what word.term chosen steps at)
moves (Rise ∷ steps) same faces = Moves.leaves (faces-rise faces same) (lighter-plain Rise steps refl)
moves (Open ∷ steps) same faces = Moves.leaves (faces-open faces same) (lighter-plain Open steps refl)
moves (Make kind ∷ steps) same faces = Moves.leaves (faces-make faces same) (lighter-plain (Make kind) steps refl)
moves (Join kind ∷ steps) same faces = Moves.leaves (faces-join faces same) (lighter-plain (Join kind) steps refl)
moves (Wrap kind ∷ steps) same faces = Moves.leaves (faces-wrap faces same) (lighter-plain (Wrap kind) steps refl)
moves (Skip ∷ steps) same faces = Moves.leaves (faces-skip faces same) (lighter-plain Skip steps refl)

settled-within : (count : ℕ) {before : List Word} {word : Word} {state : State} → weight state.steps ≤ count → Faces before word state → IsSettled before word
settled-within zero {state = state} light faces =
    elim (moves state.steps refl faces) [
      | Moves.leaves more nearer ↦ absurd (omega arith)
      | Moves.settles settled ↦ settled
    ]
settled-within (suc count) {state = state} light faces =
    elim (moves state.steps refl faces) [
      | Moves.leaves more nearer ↦ settled-within count (omega arith) more
      | Moves.settles settled ↦ settled
    ]

-- whatever was read, the next word is read or at fault
settled-next : {before : List Word} {state : State} → Reaches before state → (word : Word) → IsSettled before word
settled-next {state = state} reaches word = settled-within (weight state.steps) (omega arith) (faces-next reaches word)

answered : {before : List Word} {state : State} → Reaches before state → (words : List Word) (last : Word) → last.term ≡ term.End → IsAnswered (before ++ (words ++ last ∷ []))
answered {before} reaches [] last end =
    elim (settled-next reaches last) [
      | IsSettled.read {next = next} now ↦ inl (result_of (made node.Program next.nodes), reaches-spells now (reaches-end before last now end))
      | IsSettled.at_fault found is ↦ inr (found, is [])
    ]
answered {before} reaches (word ∷ words) last end =
    elim (settled-next reaches word) [
      | IsSettled.read now ↦ subst IsAnswered (append_assoc before (word ∷ []) (words ++ last ∷ [])) (answered now words last end)
      | IsSettled.at_fault found is ↦ inr (found, is (words ++ last ∷ []))
    ]

pub spells-or-fault : (front : List Word) (last : Word) → last.term ≡ term.End → IsAnswered (front ++ last ∷ [])
spells-or-fault front last end = answered reaches-beginning front last end

-- each text that has tokens is a program, or has a fault
pub text-answered : (text : List ℕ) (tokens : List Token) → tokens_of text ≡ Ok tokens → IsAnswered (words_of text tokens)
text-answered text tokens whole =
    let ended = words_of-end text tokens whole in
    subst IsAnswered (sym ended.parts) (spells-or-fault ended.front ended.last ended.is_end)
