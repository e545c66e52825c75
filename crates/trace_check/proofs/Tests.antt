-- What holds of tests.
use Rattle.std.proofs.Common.{◌≡◌, ◌&&◌, Bool, true, false, refl}

-- the parts of two tests that both hold
pub left : (a b : Bool) → (a && b) ≡ true → a ≡ true
left true b both = refl
left false b both = cc

pub right : (a b : Bool) → (a && b) ≡ true → b ≡ true
right true b both = both
right false b both = absurd cc

-- no test holds and fails
pub apart : (b : Bool) → b ≡ true → b ≡ false → ⊥
apart b holds fails = cc
