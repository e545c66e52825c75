use Rattle.std.proofs.Common.{◌≡◌, ℕ, ◌+◌, ◌*◌, ◌<◌, Option, Some, false, sym, ◌∙◌, subst}
use Rattle.std.specs.Option.{SomeIff}
use Rattle.std.specs.Ordering.{nat_cmp}
use Rattle.std.specs.BTreeMap.{Updates}
use Rattle.trace_check.specs.declared.kept.Kept.{Kept}
use Rattle.trace_check.specs.declared.things.Member.{Member}
use Rattle.trace_check.specs.Before.{Join}
use Rattle.trace_check.proofs.kept.Kept.join.Goals as goal
use Rattle.trace_check.proofs.MadeMember.{joins_nowhere, learns_join}

pub returns-in_default-clause-learned : goal.returns-in_default-clause-learned
returns-in_default-clause-learned c = λ event is.
    joins_nowhere c.args.self.now event (record { region = c.args.seat.region; task = c.args.task; actual = c.args.actual; index = c.args.seat.index }) is
    (sym c.get.ensures.value ∙ (sym c.copied.ensures ∙ c.in_default.is))

pub returns-clause-learned : goal.returns-clause-learned
returns-clause-learned c = λ event is.
    let kept : Kept = c.args.self.now in
    let join : Join = record { region = c.args.seat.region; task = c.args.task; actual = c.args.actual; index = c.args.seat.index } in
    let member : Member = record { task = c.args.task; left = false; waits = 0; children = 0 } in
    let one_more : c.in_ok-had.had ≡ c.in-Some.open.had + 1 =
    (subst (λ (sum : Option ℕ). SomeIff sum (c.in-Some.open.had + 1 < 18446744073709551616) (c.in-Some.open.had + 1))
    c.in_ok-had.ensures.ok_part c.checked_add.ensures).1 in
    let of-members : Updates nat_cmp kept.members c.insert.new.self (c.args.seat.region * 4294967296 + c.args.seat.index) (Some member) =
    subst (λ (key : ℕ). Updates nat_cmp kept.members c.insert.new.self key (Some member)) c.member_key.ensures.key c.in_ok-insert.ensures.updates in
    learns_join kept c.put_region.new.regions c.insert.new.self event join c.in_ok-had.had c.in-Some.open is
    (sym c.get.ensures.value ∙ (sym c.copied.ensures ∙ c.in-Some.is)) one_more c.member_key.ensures.fits c.put_region.ensures of-members
