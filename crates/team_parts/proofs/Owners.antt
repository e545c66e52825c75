-- Each iteration of a loop whose chunks go round and round, or are one block each, has one owner and one turn.
use Rattle.std.proofs.Common.{◌≡◌, ℕ, zero, suc, ◌+◌, ◌-◌, ◌*◌, ◌/◌, ◌%◌, ◌<◌, ◌≤◌, None, inl, inr, refl, sym, ap, ◌∙◌, arith}
use Rattle.std.specs.Int.{div_ceil}
use Rattle.std.proofs.lemmas.Bool.{cases_lt}
use Rattle.std.proofs.lemmas.Grind.{div_ceil_times}
use Rattle.std.proofs.lemmas.Nat.{div-add-mod', div-mul-add, mod-mul-add, div_below, mod_below, mul-le}
use Rattle.team_parts.specs.Chunks.{block_of, own_chunk}
use Rattle.team_parts.proofs.Orders.{hits, hits-yes, hits-no, chunk_at-none}

-- the iteration is in the owner's chunk of this turn and in no other one, and the owner comes to this turn
pub record IsPlaced (length size count iteration owner turn : ℕ) : Type 0 where
  pub of_team : owner < size
  pub here : hits iteration (own_chunk length size count owner turn) ≡ 1
  pub other : (member at : ℕ) → member < size → (member ≡ owner → at ≡ turn → ⊥) → hits iteration (own_chunk length size count member at) ≡ 0
  pub comes : (at : ℕ) → own_chunk length size count owner at ≡ None → turn < at

-- a number is in one chunk of so many
in-chunk : (iteration chunk index : ℕ) → 0 < chunk → index * chunk ≤ iteration → iteration < index * chunk + chunk → index ≡ iteration / chunk
in-chunk iteration chunk index some from until =
    let rest : iteration ≡ index * chunk + (iteration - index * chunk) = omega arith in
    sym (ap (λ n. n / chunk) rest ∙ div-mul-add index chunk (iteration - index * chunk) (omega arith))

block-other : (size count iteration member at : ℕ) → let block = div_ceil count size in 0 < block → (member ≡ iteration / block → at ≡ 0 → ⊥) → hits iteration (block_of size count member at) ≡ 0
block-other size count iteration member zero some apart =
    let block = div_ceil count size in
    hits-no iteration (member * block) block count (λ from until within. apart (in-chunk iteration block member some from until) refl)
block-other size count iteration member (suc at) some apart = refl

block-comes : (size count iteration owner at : ℕ) → owner * div_ceil count size ≤ iteration → iteration < count → block_of size count owner at ≡ None → 0 < at
block-comes size count iteration owner zero from within none =
    let ended = chunk_at-none (owner * div_ceil count size) (div_ceil count size) count none in absurd (omega arith)
block-comes size count iteration owner (suc at) from within none = omega arith

block-some : (count block size : ℕ) → 0 < count → count ≤ block * size → 0 < block
block-some count block size some rounded = elim (cases_lt 0 block) [
  | inl more ↦ more
  | inr none ↦ let nothing : block * size ≤ 0 * size = mul-le block size 0 size none (omega arith) in absurd (omega arith)
]

block-team : (iteration count block size : ℕ) → iteration < count → count ≤ block * size → iteration < size * block
block-team iteration count block size within rounded = omega arith

placed-block : (size count iteration : ℕ) → 1 ≤ size → iteration < count → IsPlaced 0 size count iteration (iteration / div_ceil count size) 0
placed-block size count iteration team within =
    let block = div_ceil count size in
    let rounded : count ≤ block * size = (div_ceil_times count size team).0 in
    let some : 0 < block = block-some count block size (omega arith) rounded in
    let split : iteration / block * block + iteration % block ≡ iteration = div-add-mod' iteration block in
    let rest : iteration % block < block = mod_below iteration block some in
    record {
      of_team = div_below iteration block size some (block-team iteration count block size within rounded);
      here = hits-yes iteration (iteration / block * block) block count (omega arith) (omega arith) within;
      other = λ member at _ apart. block-other size count iteration member at some apart;
      comes = λ at none. block-comes size count iteration (iteration / block) at (omega arith) within none;
    }

turn-other : (less size count iteration member at : ℕ) → let chunk = less + 1 in let index = iteration / chunk in member < size → (member ≡ index % size → at ≡ index / size → ⊥) → hits iteration (own_chunk (suc less) size count member at) ≡ 0
turn-other less size count iteration member at of_team apart =
    let chunk = less + 1 in
    hits-no iteration ((at * size + member) * chunk) chunk count (λ from until within.
    let index : at * size + member ≡ iteration / chunk = in-chunk iteration chunk (at * size + member) (omega arith) from until in
    apart (sym (mod-mul-add at size member of_team) ∙ ap (λ n. n % size) index) (sym (div-mul-add at size member of_team) ∙ ap (λ n. n / size) index))

turn-below : (size turn at owner : ℕ) → turn * size + owner < at * size + owner → turn < at
turn-below size turn at owner below = elim (cases_lt turn at) [
  | inl less ↦ less
  | inr more ↦ let greater : at * size ≤ turn * size = mul-le at size turn size more (omega arith) in absurd (omega arith)
]

turn-comes : (less size count iteration at : ℕ) → let index = iteration / (less + 1) in 1 ≤ size → iteration < count → own_chunk (suc less) size count (index % size) at ≡ None → index / size < at
turn-comes less size count iteration at team within none =
    let chunk = less + 1 in
    let index = iteration / chunk in
    let owner = index % size in
    let ended : count ≤ (at * size + owner) * chunk = chunk_at-none ((at * size + owner) * chunk) chunk count none in
    let below : index < at * size + owner = div_below iteration chunk (at * size + owner) (omega arith) (omega arith) in
    let split : index / size * size + owner ≡ index = div-add-mod' index size in
    turn-below size (index / size) at owner (omega arith)

placed-turn : (less size count iteration : ℕ) → let index = iteration / (less + 1) in 1 ≤ size → iteration < count → IsPlaced (suc less) size count iteration (index % size) (index / size)
placed-turn less size count iteration team within =
    let chunk = less + 1 in
    let index = iteration / chunk in
    let split : index / size * size + index % size ≡ index = div-add-mod' index size in
    let inside : index * chunk + iteration % chunk ≡ iteration = div-add-mod' iteration chunk in
    let rest : iteration % chunk < chunk = mod_below iteration chunk (omega arith) in
    let start : (index / size * size + index % size) * chunk ≡ index * chunk = ap (λ n. n * chunk) split in
    record {
      of_team = mod_below index size team;
      here = hits-yes iteration ((index / size * size + index % size) * chunk) chunk count (omega arith) (omega arith) within;
      other = λ member at of_team apart. turn-other less size count iteration member at of_team apart;
      comes = λ at none. turn-comes less size count iteration at team within none;
    }

pub record HasPlace (length size count iteration : ℕ) : Type 0 where
  pub owner : ℕ
  pub turn : ℕ
  pub placed : IsPlaced length size count iteration owner turn

pub place-of : (length size count iteration : ℕ) → 1 ≤ size → iteration < count → HasPlace length size count iteration
place-of zero size count iteration team within =
    record { owner = iteration / div_ceil count size; turn = 0; placed = placed-block size count iteration team within }
place-of (suc less) size count iteration team within =
    let index = iteration / (less + 1) in
    record { owner = index % size; turn = index / size; placed = placed-turn less size count iteration team within }

-- no chunk has anything that isn't an iteration of the loop
pub hits-past : (length size count iteration member at : ℕ) → count ≤ iteration → hits iteration (own_chunk length size count member at) ≡ 0
hits-past zero size count iteration member zero past =
    hits-no iteration (member * div_ceil count size) (div_ceil count size) count (λ _ _ within. omega arith)
hits-past zero size count iteration member (suc at) past = refl
hits-past (suc less) size count iteration member at past =
    hits-no iteration ((at * size + member) * (less + 1)) (less + 1) count (λ _ _ within. omega arith)
