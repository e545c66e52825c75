use Rattle.std.proofs.Common.{ℕ, ◌≤◌, ◌+◌, ◌≡◌, List, ◌++◌, take, length, Option, None, Some, IfSome, ◌∙◌, arith, length-append}
use Rattle.std.proofs.Math.Seq.{length-take-le}
use Rattle.std.specs.Io.KnownBytes.{Consumes, Keeps, IsAtEnd}
use Rattle.std.proofs.KnownBytes.{Consumes-trans}
use Rattle.run_edges.proofs.reading.read_all.Goals as goal

-- known bytes that were given to their end are at their end
IsAtEnd-given : (a b c : Option (List ℕ)) (given : List ℕ) → Consumes a b given → IsAtEnd b → Keeps b c → IfSome a (λ _. IsAtEnd c)
IsAtEnd-given None b c given p e k = tt
IsAtEnd-given (Some x) None c given p e k = absurd p
IsAtEnd-given (Some x) (Some y) None given p e k = absurd k
IsAtEnd-given (Some x) (Some y) (Some z) given p e k = k ∙ e

-- a read that gives n bytes more
Consumes-next : (a b c : Option (List ℕ)) (given buf : List ℕ) (n : ℕ) → Consumes a b given → n ≤ length buf
    → Consumes b c (take n buf) → (all : List ℕ) × (length all ≡ length given + n) × Consumes a c all
Consumes-next a b c given buf n before fits front = (
  given ++ take n buf,
  omega (arith, length-append given (take n buf), length-take-le n buf fits),
  Consumes-trans a b c given (take n buf) before front,
)

pub returns-in-End-clause-whole : goal.returns-in-End-clause-whole
returns-in-End-clause-whole g c =
    IsAtEnd-given _ _ _ _ c.loop-bytes.invariant.consumed c.in-End.ensures.gives.0 c.in-End.ensures.gives.1

pub returns-then-count-limit-clause-long : goal.returns-then-count-limit-clause-long
returns-then-count-limit-clause-long g c = λ _.
    let read = c.in-Bytes.ensures.gives in
    let all = Consumes-next _ _ _ _ _ _ c.loop-bytes.invariant.consumed read.1 read.2 in
    (all.0, omega (arith, all.1, c.loop-bytes.bytes.ok.0), all.2)

pub returns-in_err-map_err-in-Bytes-clause-held_back :
    goal.returns-in_err-map_err-in-Bytes-clause-held_back
returns-in_err-map_err-in-Bytes-clause-held_back g c = λ _.
    let read = c.in-Bytes.ensures.gives in
    let all = Consumes-next _ _ _ _ _ _ c.loop-bytes.invariant.consumed read.1 read.2 in
    (all.0, omega (arith, all.1, c.loop-bytes.bytes.ok.0), all.2)
