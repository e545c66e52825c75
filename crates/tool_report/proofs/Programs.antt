-- A generated program, block by block.
use Rattle.std.proofs.Common.{◌≡◌, ℕ, ◌+◌, List, ◌++◌, refl, ◌∙◌, sym, ap, add-one, append_assoc}
use Rattle.std.proofs.lemmas.Grind.{flat_map-append}
use Rattle.tool_report.specs.Generator.{text_of_lines, head, tail, block, blocks, generated}

-- the texts of two lists of lines are one text
texts : (before after : List (List ℕ)) → text_of_lines (before ++ after) ≡ text_of_lines before ++ text_of_lines after
texts before after = flat_map-append _ before after

-- more lines at the end of a text
more-lines : (first lines more : List (List ℕ)) → text_of_lines (first ++ lines) ++ text_of_lines more ≡ text_of_lines (first ++ (lines ++ more))
more-lines first lines more = sym (texts (first ++ lines) more) ∙ ap text_of_lines (append_assoc first lines more)

-- the blocks with one more
next-block : (n : ℕ) → blocks n ++ block (n + 1) ≡ blocks (n + 1)
next-block n = rw add-one refl

-- the program up to the end of so many blocks
unfoldable pub program_to : ℕ → List ℕ
program_to n = text_of_lines (head ++ blocks n)

-- it begins with the head, and goes on with a block, and ends with the tail
pub program-begins : program_to 0 ≡ text_of_lines head
unfolding program_to
program-begins = refl

pub program-more : (n : ℕ) → program_to (n + 1) ≡ program_to n ++ text_of_lines (block (n + 1))
unfolding program_to
program-more n = sym (more-lines head (blocks n) (block (n + 1)) ∙ ap (λ (all : List (List ℕ)). text_of_lines (head ++ all)) (next-block n))

pub program-ends : (n : ℕ) → program_to n ++ text_of_lines tail ≡ generated n
unfolding program_to
program-ends n = sym (texts (head ++ blocks n) tail)
