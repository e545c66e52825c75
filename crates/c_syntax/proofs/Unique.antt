-- A program has one tree, a text that is none has one first fault, and no text has both.
use Rattle.std.proofs.Common.{ℕ, ◌≡◌, List, [], ◌∷◌, ◌++◌, refl, sym, subst, ap, ◌∙◌, inl, inr, ◌⊎◌}
use Rattle.std.proofs.lemmas.List.{append_assoc}
use Rattle.c_syntax.specs.declared.grammar.Step.{Step}
use Rattle.c_syntax.specs.declared.head.Head.{Head}
use Rattle.c_syntax.specs.declared.fault.SyntaxFault.{SyntaxFault}
use Rattle.c_syntax.specs.declared.fault.SyntaxFault.TheVariants as fault
use Rattle.c_syntax.specs.language.Words.{Word}
use Rattle.c_syntax.specs.language.Tree.{Tree}
use Rattle.c_syntax.specs.language.Productions.{GoesOn, IsProgram, depth_limit}
use Rattle.c_syntax.specs.workings.Derivation.{Derives, Opened}
use Rattle.c_syntax.specs.language.Faults.{IsFaultAt, IsFault}
use Rattle.c_syntax.proofs.Steps.{over-back, expect-back, deepen-back, take-back, rise-back, in_head-back, open-back, make-back, join-back, wrap-back, skip-back, read-as}
use Rattle.c_syntax.proofs.ProgramWords.{program_derives}

-- the table derives one tree
tree-one : {limit depth : ℕ} {at : Head} {steps : List Step} {words : List Word} {nodes : List Opened} {first second : Tree} → Derives limit steps depth at words nodes first → Derives limit steps depth at words nodes second → first ≡ second
tree-one (Derives.over same) other = sym same ∙ over-back other
tree-one (Derives.expect same rest) other = tree-one rest (expect-back other).1
tree-one (Derives.deepen same low rest) other = tree-one rest (deepen-back other).2
tree-one (Derives.rise rest) other = tree-one rest (rise-back other)
tree-one (Derives.take fit rest) other = tree-one rest (take-back other).1
tree-one (Derives.in_head inside rest) other = tree-one rest (in_head-back other).1
tree-one (Derives.read same rest) other = tree-one rest (read-as same other)
tree-one (Derives.open_node rest) other = tree-one rest (open-back other)
tree-one (Derives.make rest) other = tree-one rest (make-back other)
tree-one (Derives.join rest) other = tree-one rest (join-back other)
tree-one (Derives.wrap rest) other = tree-one rest (wrap-back other)
tree-one (Derives.skip rest) other = tree-one rest (skip-back other)

-- .. and so do the productions
pub program-one : (limit : ℕ) (words : List Word) (first second : Tree) → IsProgram limit words first → IsProgram limit words second → first ≡ second
program-one limit words first second one other = tree-one (program_derives limit words first one) (program_derives limit words second other)

-- what can be completed can be completed at each of its words
pub front-goes-on : (limit : ℕ) (front more : List Word) → GoesOn limit (front ++ more) → GoesOn limit front
front-goes-on limit front more (rest, tree, spells) = (more ++ rest, tree, subst (λ words. IsProgram limit words tree) (append_assoc front more rest) spells)

pub program-no_fault : (words : List Word) (tree : Tree) (found : SyntaxFault) → IsProgram depth_limit words tree → IsFault words found → ⊥
program-no_fault words tree found spells (before, word, after, same, goes, stops, is) =
    let whole = subst (λ all. IsProgram depth_limit all tree) same spells in
    stops (after, tree, subst (λ all. IsProgram depth_limit all tree) (sym (append_assoc before (word ∷ []) after)) whole)

first-one : {first second : Word} {more further : List Word} → first ∷ more ≡ second ∷ further → first ≡ second
first-one same = cc

rest-one : {first second : Word} {more further : List Word} → first ∷ more ≡ second ∷ further → more ≡ further
rest-one same = cc

-- two places of one text are the same, or one of them stands before the other
places : (before between : List Word) (word other : Word) (after further : List Word) → before ++ word ∷ after ≡ between ++ other ∷ further → (before ≡ between) × (word ≡ other) ⊎ (((more : List Word) × (between ≡ (before ++ word ∷ []) ++ more)) ⊎ ((more : List Word) × (before ≡ (between ++ other ∷ []) ++ more)))
places [] [] word other after further same = inl (refl, first-one same)
places [] (second ∷ between) word other after further same = inr (inl (between, ap (λ one. one ∷ between) (sym (first-one same))))
places (first ∷ before) [] word other after further same = inr (inr (before, ap (λ one. one ∷ before) (first-one same)))
places (first ∷ before) (second ∷ between) word other after further same = grown (first-one same) (places before between word other after further (rest-one same))
  where
    grown : first ≡ second → (before ≡ between) × (word ≡ other) ⊎ (((more : List Word) × (between ≡ (before ++ word ∷ []) ++ more)) ⊎ ((more : List Word) × (before ≡ (between ++ other ∷ []) ++ more))) → (first ∷ before ≡ second ∷ between) × (word ≡ other) ⊎ (((more : List Word) × (second ∷ between ≡ ((first ∷ before) ++ word ∷ []) ++ more)) ⊎ ((more : List Word) × (first ∷ before ≡ ((second ∷ between) ++ other ∷ []) ++ more)))
    grown one (inl both) = let behind = both.0 in inl (cc, both.1)
    grown one (inr (inl (more, behind))) = inr (inl (more, cc))
    grown one (inr (inr (more, behind))) = inr (inr (more, cc))

-- at one place there is one fault
fault-same : (before : List Word) (word : Word) (first second : SyntaxFault) → IsFaultAt before word first → IsFaultAt before word second → first ≡ second
fault-same before word fault.Memory second one other = absurd one
fault-same before word first fault.Memory one other = absurd other
fault-same before word (fault.TooDeep spot) (fault.TooDeep place) one other = ap fault.TooDeep (one.0 ∙ sym other.0)
fault-same before word (fault.TooDeep spot) second one other = let wide = one.1 in absurd (other.1 wide.0 wide.1)
fault-same before word first (fault.TooDeep place) one other = let wide = other.1 in absurd (one.1 wide.0 wide.1)
fault-same before word first second one other = one.0 ∙ sym other.0

pub fault-one : (words : List Word) (first second : SyntaxFault) → IsFault words first → IsFault words second → first ≡ second
fault-one words first second (before, word, after, same, goes, stops, is) (between, other, further, too, goes_too, stops_too, is_too) = at-places (places before between word other after further (sym same ∙ too))
  where
    at-places : (before ≡ between) × (word ≡ other) ⊎ (((more : List Word) × (between ≡ (before ++ word ∷ []) ++ more)) ⊎ ((more : List Word) × (before ≡ (between ++ other ∷ []) ++ more))) → first ≡ second
    at-places (inl (place, one)) = fault-same between other first second (subst (λ which. IsFaultAt between which first) one (subst (λ front. IsFaultAt front word first) place is)) is_too
    at-places (inr (inl (more, behind))) = absurd (stops (front-goes-on depth_limit (before ++ word ∷ []) more (subst (GoesOn depth_limit) behind goes_too)))
    at-places (inr (inr (more, behind))) = absurd (stops_too (front-goes-on depth_limit (between ++ other ∷ []) more (subst (GoesOn depth_limit) behind goes)))
