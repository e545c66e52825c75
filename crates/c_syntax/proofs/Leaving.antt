-- What a state says of the words that were read, and of those that may follow, goes over to the state after a step.
use Rattle.std.proofs.Common.{ℕ, ◌≡◌, ◌≤◌, List, [], ◌∷◌, ◌++◌, refl, sym, subst, ap, ◌∙◌}
use Rattle.std.proofs.lemmas.List.{append_assoc}
use Rattle.c_syntax.specs.declared.head.Head.{Head}
use Rattle.c_syntax.specs.declared.head.Head.TheVariants as head
use Rattle.c_syntax.specs.language.Heads.{behind}
use Rattle.c_syntax.specs.language.Words.{Word}
use Rattle.c_syntax.specs.language.Tree.{Tree}
use Rattle.c_syntax.specs.language.Productions.{depth_limit}
use Rattle.c_syntax.specs.workings.Derivation.{SpellsWithin}
use Rattle.c_syntax.specs.language.Faults.{left_off}
use Rattle.c_syntax.specs.workings.Reading.{State, From, Leaves}

left_off-push : (at : Head) (words : List Word) (word : Word) → left_off at (words ++ word ∷ []) ≡ behind (left_off at words) word.term
left_off-push at [] word = refl
left_off-push at (first ∷ words) word = left_off-push (behind at first.term) words word

-- a state that reads the same from here on says the same
pub leaves-as : {before ahead : List Word} {state after : State} → ((limit : ℕ) (more : List Word) (tree : Tree) → depth_limit ≤ limit → From limit state (ahead ++ more) tree → From limit after (ahead ++ more) tree) → ((limit : ℕ) (more : List Word) (tree : Tree) → depth_limit ≤ limit → From limit after (ahead ++ more) tree → From limit state (ahead ++ more) tree) → after.at ≡ state.at → Leaves before ahead state → Leaves before ahead after
leaves-as there back at leaves = record {
  onward = λ limit more tree wide spells. there limit more tree wide (leaves.onward limit more tree wide spells);
  back = λ limit more tree wide reading. leaves.back limit more tree wide (back limit more tree wide reading);
  at = at ∙ leaves.at;
}

-- a word that was seen is read
pub leaves-read : {before : List Word} {word : Word} {state after : State} → ((limit : ℕ) (more : List Word) (tree : Tree) → depth_limit ≤ limit → From limit state (word ∷ more) tree → From limit after more tree) → ((limit : ℕ) (more : List Word) (tree : Tree) → depth_limit ≤ limit → From limit after more tree → From limit state (word ∷ more) tree) → after.at ≡ behind state.at word.term → Leaves before (word ∷ []) state → Leaves (before ++ word ∷ []) [] after
leaves-read {before} {word} {state} {after} there back at leaves = record {
  onward = λ limit more tree wide spells. there limit more tree wide (leaves.onward limit more tree wide (subst (λ words. SpellsWithin limit words tree) (append_assoc before (word ∷ []) more) spells));
  back = λ limit more tree wide reading. subst (λ words. SpellsWithin limit words tree) (sym (append_assoc before (word ∷ []) more)) (leaves.back limit more tree wide (back limit more tree wide reading));
  at = at ∙ (ap (λ place. behind place word.term) leaves.at ∙ sym (left_off-push head.Outside before word));
}

-- the next word is seen
pub leaves-see : {before : List Word} {state : State} (word : Word) → Leaves before [] state → Leaves before (word ∷ []) state
leaves-see word leaves = record {
  onward = λ limit more tree wide spells. leaves.onward limit (word ∷ more) tree wide spells;
  back = λ limit more tree wide reading. leaves.back limit (word ∷ more) tree wide reading;
  at = leaves.at;
}
