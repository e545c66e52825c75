-- The names around a construct's own, and those.
use Rattle.std.proofs.Common.{◌≡◌, ℕ, ◌+◌, ◌-◌, ◌++◌, List, length, min, slice_range, take, drop, sym, ap, ◌∙◌, arith}
use Rattle.std.proofs.lemmas.List.{drop_min, length-drop, take_all, take_min}
use Rattle.std.proofs.Math.Seq.{drop-append-add, take-append-add}

range_whole : {X : Type 0} (from : ℕ) (names : List X) → slice_range names from (length names) ≡ drop from names
range_whole from names = take_all (length names - from) (drop from names) (omega (arith, length-drop from names))

module _ {X : Type 0} (count : ℕ) (file own : List X) where
  pub names_around : file ++ take (min count (length own)) own ≡ take (length file + count) (file ++ own)
  names_around = ap (λ own. file ++ own) (take_min count own) ∙ sym (take-append-add file own count)

  pub names_behind : slice_range own (min count (length own)) (length own) ≡ drop (length file + count) (file ++ own)
  names_behind = range_whole (min count (length own)) own ∙ drop_min count own ∙ sym (drop-append-add file own count)
