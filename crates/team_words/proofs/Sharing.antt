-- Two members share a loop, wait at a barrier and share sections.
use Rattle.std.proofs.Common.{◌≡◌, ℕ, zero, suc, ◌<◌, None, length, refl, arith}
use Rattle.team_words.specs.Team.{fresh_team}
use Rattle.team_words.specs.Shares.{chunk_for}
use Rattle.team_words.specs.Calls.{AreMade, after_calls}
use Rattle.team_words.specs.Dealt.{AreSectionsOver, IsLoopOver}
use Rattle.team_words.specs.Example.{calls, loop_met, sections_met}

pub made : AreMade 2 calls
made = record { few = omega arith; in_order = refl }

none-left : (member : ℕ) → member < length (after_calls (fresh_team 2) calls).members → chunk_for (after_calls (fresh_team 2) calls) 0 loop_met member ≡ None
none-left zero of_team = refl
none-left (suc zero) of_team = refl
none-left (suc (suc member)) of_team = absurd (omega arith)

pub loop-over : IsLoopOver (after_calls (fresh_team 2) calls) 0 loop_met
loop-over = record { met = record { member = 0; within = omega arith; same = refl }; over = none-left }

pub sections-over : AreSectionsOver (after_calls (fresh_team 2) calls) 2 sections_met
sections-over = record { met = record { member = 0; within = omega arith; same = refl }; over = refl }
