-- Effects of sorts that are texts: where words leave off as they should and a node is open, the words up to some rest are a text, and become its children.
use Rattle.std.proofs.Common.{List, ◌∷◌, Option, Some}
use Rattle.c_syntax.specs.declared.head.Head.{Head}
use Rattle.c_syntax.specs.language.Words.{Word}
use Rattle.c_syntax.specs.language.Tree.{Tree}
use Rattle.c_syntax.specs.workings.Derivation.{Opened}
use Rattle.c_syntax.proofs.Effects.{Effect}
use Rattle.c_syntax.proofs.Pushing.{all_added, plus}

-- words leave off as they should, and a node is open
pub data Stands (place : Head) : Head → List Opened → Type 0 where
  stands : {own : Opened} {outer : List Opened} → Stands place place (own ∷ outer)

-- a text that is some trees, and leaves the head as it is
abbrev pub AddsAll : Head → (List Word → List Word → List Tree → Type 0) → Effect → Effect
AddsAll place AreText next depth at words nodes =
    Stands place at nodes → (rest : List Word) × (trees : List Tree) × AreText words rest trees × next depth place rest (all_added trees nodes)

-- .. that is one
abbrev pub AddsOne : Head → (List Word → List Word → Tree → Type 0) → Effect → Effect
AddsOne place IsText next depth at words nodes =
    Stands place at nodes → (rest : List Word) × (tree : Tree) × IsText words rest tree × next depth place rest (plus (Some tree) nodes)

-- .. that is one or none
abbrev pub AddsMaybe : Head → (List Word → List Word → Option Tree → Type 0) → Effect → Effect
AddsMaybe place IsText next depth at words nodes =
    Stands place at nodes → (rest : List Word) × (child : Option Tree) × IsText words rest child × next depth place rest (plus child nodes)
