use Rattle.std.proofs.Common.{◌≡◌, ℕ, ◌≤◌, ◌∷◌, Some, None, refl, sym, ◌∙◌, ap, subst, arith}
use Rattle.std.specs.Ordering.{nat_cmp}
use Rattle.std.specs.BTreeMap.{get}
use Rattle.trace_check.specs.declared.kept.Kept.{Kept}
use Rattle.trace_check.specs.Checking.{KnownThings}
use Rattle.trace_check.proofs.kept.Kept.end_region.Goals as goal
use Rattle.trace_check.proofs.EndedRegion.{TakenOut, ended_things, none_taken, one_taken, team_below, team_gone, team_none}

pub loop-index-init : goal.loop-index-init
loop-index-init c = (refl, none_taken c.args.self.now.members c.args.region)

pub loop-index-preserved : goal.loop-index-preserved
loop-index-preserved c = (
  ap (λ (kept : Kept). record kept { members = c.remove-member.new.self }) c.loop-index.invariant.0,
  one_taken c.args.self.now.members c.loop-index.self.members c.remove-member.new.self c.args.region c.loop-index.index c.member_key.result
      c.loop-index.invariant.1 c.member_key.ensures.key c.remove-member.ensures.updates,
)

pub returns-in_default-clause-learned : goal.returns-in_default-clause-learned
returns-in_default-clause-learned c = λ event ends past known unbroken keeps.
    let found : get nat_cmp c.args.self.now.regions c.args.region ≡ None = sym c.remove.ensures.value ∙ c.in_default.is in
    ended_things c.args.self.now c.remove.new.self c.args.self.now.members c.args.region 0 (omega arith) c.remove.ensures.updates (none_taken c.args.self.now.members c.args.region)
    event ends past known (team_gone c.args.region past _ (known.regions c.args.region) found)

pub returns-in_default-actual-clause-learned : goal.returns-in_default-actual-clause-learned
returns-in_default-actual-clause-learned c = λ event ends past known unbroken keeps.
    let found : get nat_cmp c.args.self.now.regions c.args.region ≡ Some c.in-Some.ended = sym c.remove.ensures.value ∙ c.in-Some.is in
    ended_things c.args.self.now c.remove.new.self c.args.self.now.members c.args.region 0 (omega arith) c.remove.ensures.updates (none_taken c.args.self.now.members c.args.region)
    event ends past known (team_none c.args.region past _ c.in-Some.ended (known.regions c.args.region) found c.in_default-actual.is)

pub returns-clause-learned : goal.returns-clause-learned
returns-clause-learned c = λ event ends past known unbroken keeps.
    let found : get nat_cmp c.args.self.now.regions c.args.region ≡ Some c.in-Some.ended = sym c.remove.ensures.value ∙ c.in-Some.is in
    let all : c.loop-index.index ≡ c.in-Some-actual.actual = omega arith in
    let taken : TakenOut c.args.self.now.members c.loop-index.self.members c.args.region c.in-Some-actual.actual =
    subst (λ (m : ℕ). TakenOut c.args.self.now.members c.loop-index.self.members c.args.region m) all c.loop-index.invariant.1 in
    let fits : c.in-Some-actual.actual ≤ 4294967296 = omega arith in
    subst (λ (kept : Kept). KnownThings kept (event ∷ past)) (sym c.loop-index.invariant.0)
    (ended_things c.args.self.now c.remove.new.self c.loop-index.self.members c.args.region c.in-Some-actual.actual fits c.remove.ensures.updates taken
    event ends past known (team_below c.args.region c.in-Some-actual.actual past _ c.in-Some.ended unbroken (known.regions c.args.region) found c.in-Some-actual.is))
