-- Pairs of numbers, and three of them.
use Rattle.std.specs.Prelude.{ℕ, Bool, ◌&&◌, nat_eq}

-- two pairs are one
abbrev pub same_pair : ℕ × ℕ → ℕ × ℕ → Bool
same_pair first second = nat_eq first.0 second.0 && nat_eq first.1 second.1

abbrev pub same_triple : ℕ × ℕ × ℕ → ℕ × ℕ × ℕ → Bool
same_triple first second = nat_eq first.0 second.0 && nat_eq first.1 second.1 && nat_eq first.2 second.2
