use Rattle.std.proofs.Common.{◌≡◌, ◌&&◌, ◌<◌, ◌^◌, ℕ, true, false, nat_lt, bit_or, sym, subst, ◌∙◌, arith}
use Rattle.std.proofs.lemmas.Nat.{or_lt}
use Rattle.ompt_calls.specs.Number.{is_registered}
use Rattle.tool_both.proofs.Registering.{both-always, registers-one, passes-one, registers-all}
use Rattle.tool_both.proofs.masks.Masks.register.Goals as goal
use Rattle.tool_both.proofs.masks.Masks.register.Goals.{then-is_registered, else-is_registered}

pub loop-number-preserved : goal.loop-number-preserved
loop-number-preserved c =
    let masks = c.args.self.now in
    let joint = bit_or masks.first masks.second in
    let number = c.loop-number.number in
    elim c.if-is_registered.branch [
      | then-is_registered w ↦
          let is : is_registered joint number ≡ true = sym c.is_registered.ensures ∙ w.if-is_registered.true in
          rw w.registrar-is (registers-one joint c.loop-number.registrar w.set.new.self number is (both-always masks.first masks.second c.requires.always.0 c.requires.always.1 number is) w.set.ensures.registers c.loop-number.invariant)
      | else-is_registered w ↦
          let isnt : is_registered joint number ≡ false = sym c.is_registered.ensures ∙ w.if-is_registered.false in
          rw w.registrar-is (passes-one joint c.loop-number.registrar number isnt c.loop-number.invariant)
    ]

pub returns : goal.returns
returns c =
    let masks = c.args.self.now in
    let first : masks.first < 2 ^ 64 = omega arith in
    let second : masks.second < 2 ^ 64 = omega arith in
    let joint : bit_or masks.first masks.second < 2 ^ 64 = or_lt 64 masks.first masks.second first second in
    let all : c.loop-number.number ≡ 64 = omega arith in
    registers-all (bit_or masks.first masks.second) c.loop-number.registrar joint
    (subst (λ (n : ℕ). (other : ℕ) → is_registered c.loop-number.registrar other ≡ (is_registered (bit_or masks.first masks.second) other && nat_lt other n)) all c.loop-number.invariant)
