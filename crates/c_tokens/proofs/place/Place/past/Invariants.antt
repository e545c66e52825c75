use Rattle.std.proofs.Common.{◌≡◌, ◌+◌, drop}
use Rattle.c_tokens.specs.workings.Tokens.{Bounded}
use Rattle.c_tokens.specs.language.Places.{places_after}
use Rattle.c_tokens.proofs.place.Place.past.Given as goal

-- the place after the bytes so far
abbrev pub invariant-loop-byte : goal.invariant-loop-byte
invariant-loop-byte l = record {
  place : places_after (drop l.byte-index l.bytes) l.place ≡ places_after l.bytes l.fn.self;
  at : l.place.at ≡ l.fn.self.at + l.byte-index;
  bounded : Bounded l.place;
}
