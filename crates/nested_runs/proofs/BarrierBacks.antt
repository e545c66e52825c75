-- What is told of the waits of members after the Back of an event.
use Rattle.std.proofs.Common.{ℕ, ◌≡◌, ◌<◌, ◌≤◌, ◌⊎◌, List, length, refl, sym, ap, ◌∙◌, subst, inl, inr, arith}
use Rattle.std.specs.Prelude.{Some}
use Rattle.std.proofs.lemmas.Bool.{cases_Bool, cases_eq, eq-eqb, ne_eqb}
use Rattle.std.proofs.lemmas.List.{get_or-set_other, get_or-set_same}
use Rattle.c_model.specs.Task.{Task as Code}
use Rattle.c_model.specs.declared.point.SyncStage.TheVariants as stage
use Rattle.ompt_calls.specs.declared.event.EventRecord.{EventRecord}
use Rattle.team_parts.specs.declared.member.Member.{Member}
use Rattle.team_parts.specs.Team.{TeamView, member_at, new_member, with_begun}
use Rattle.omp_model.specs.declared.event.Event.{Event}
use Rattle.omp_model.specs.declared.event.Event.TheVariants.{Sync}
use Rattle.omp_model.specs.State.{Run, Thread, World, region_at}
use Rattle.omp_model.specs.Gates.{is_barrier}
use Rattle.omp_model.specs.Members.{current, current_index, current_region}
use Rattle.nested_runs.proofs.Known.{AtBarrier, HasNotMet, IsWaiting, TellsMember, owed, task_of_member}
use Rattle.nested_runs.proofs.Knows.{ComesBack}
use Rattle.nested_runs.proofs.Recorded.{Inside}
use Rattle.nested_runs.proofs.Standing.{stand_at, stand_among}
use Rattle.nested_runs.proofs.PooledTasks.{back-stack, current-same}
use Rattle.nested_runs.proofs.RegionHeads.{place-within, plain-seated}
use Rattle.nested_runs.proofs.TeamMembers.{SameMember}
use Rattle.nested_runs.proofs.BarrierStands.{waiting-kept, unmet-kept}

-- a member that has begun to wait
pub record Begins (W after : World) (t r i : ℕ) : Type 0 where
  pub task : task_of_member W r i ≡ current W t
  pub some : 1 ≤ current W t
  pub owes : owed (stand_at W (current W t)) ≡ 0
  pub member : member_at (region_at after r).team i ≡ record (member_at (region_at W r).team i) { begun = (member_at (region_at W r).team i).barriers }

module _ (run : Run) (W after : World) (I J : Inside) (past : List EventRecord) (t : ℕ) where
  -- each member is the same, or has begun to wait
  back-cases : (e : Event) → ComesBack run W after I J past t e → (r i : ℕ) → 2 ≤ r → SameMember W after r i ⊎ Begins W after t r i
  back-cases (Sync which stage.WaitBegin codeptr) back r i forked =
      elim (cases_Bool (is_barrier which)) [
        | inr beside ↦ inl (ap (λ (team : TeamView). member_at team i) (back.returns.team r) ∙ rw beside refl)
        | inl barrier ↦ elim (cases_eq r (current_region W t)) [
          | inr other ↦ inl (ap (λ (team : TeamView). member_at team i) (back.returns.team r) ∙ rw (barrier, ne_eqb r (current_region W t) other) refl)
          | inl is ↦ elim (cases_eq i (current_index W t)) [
            | inr apart ↦
                inl (ap (λ (team : TeamView). member_at team i) (back.returns.team r)
                ∙ rw (barrier, eq-eqb r (current_region W t) is) (get_or-set_other (region_at W r).team.members (current_index W t) i _ new_member apart))
            | inl here ↦
                let waiting : IsWaiting W t (Some (Sync which stage.WaitBegin codeptr)) =
                subst (λ within. IsWaiting W t within) back.within (back.knows.barriers.waiting t) in
                let plain = (subst (λ stand. AtBarrier W past (current W t) stand) waiting.1 (back.knows.barriers.at (current W t)) barrier).0 in
                let seated = plain-seated run W I past t back.knows waiting.0 plain (subst (λ q. 2 ≤ q) is forked) in
                let within : i < length (region_at W r).team.members =
                subst (λ q. i < length (region_at W q).team.members) (sym is)
                (subst (λ j. j < length (region_at W (current_region W t)).team.members) (sym here) (place-within run W I past t back.knows waiting.0)) in
                inr (record {
                  task =
                      subst (λ q. task_of_member W q i ≡ current W t) (sym is)
                      (subst (λ j. task_of_member W (current_region W t) j ≡ current W t) (sym here) seated);
                  some = waiting.0;
                  owes = ap owed waiting.1;
                  member = ap (λ (team : TeamView). member_at team i) (back.returns.team r)
                      ∙ rw (barrier, eq-eqb r (current_region W t) is)
                      (subst (λ j. member_at (with_begun (region_at W r).team j) i ≡ record
                      (member_at (region_at W r).team i) { begun = (member_at (region_at W r).team i).barriers }) here
                      (get_or-set_same (region_at W r).team.members i _ new_member within));
                })
          ]
        ]
      ]
  back-cases (Sync which stage.RegionBegin codeptr) back r i forked = inl (ap (λ (team : TeamView). member_at team i) (back.returns.team r))
  back-cases (Sync which stage.WaitEnd codeptr) back r i forked = inl (ap (λ (team : TeamView). member_at team i) (back.returns.team r))
  back-cases (Sync which stage.RegionEnd codeptr) back r i forked = inl (ap (λ (team : TeamView). member_at team i) (back.returns.team r))
  back-cases e back r i forked = inl (ap (λ (team : TeamView). member_at team i) (back.returns.team r))

  -- no code changes
  pub stand-back : (e : Event) → ComesBack run W after I J past t e → (k : ℕ) → stand_at after k ≡ stand_at W k
  stand-back e back k = ap (λ (code : Code). stand_among code.todo) (back.returns.code k)

  -- each member, and each place without one
  pub member-back : (e : Event) → ComesBack run W after I J past t e → (r i : ℕ) → 2 ≤ r → r < length W.regions → 1 ≤ task_of_member W r i →
      TellsMember after past r i (task_of_member W r i)
  member-back e back r i forked made some =
      let known = back.knows.barriers.member r i forked made some in
      let stand = ap owed (stand-back e back (task_of_member W r i)) in
      elim (back-cases e back r i forked) [
        | inl same ↦ record {
          waits = omega (arith, known.waits, stand, ap (λ (m : Member). m.barriers) same);
          begun = omega (arith, known.begun, ap (λ (m : Member). m.begun) same);
        }
        | inr begins ↦
            let owes : owed (stand_at W (task_of_member W r i)) ≡ 0 = ap (λ k. owed (stand_at W k)) begins.task ∙ begins.owes in
            record {
              waits = omega (arith, known.waits, stand, ap (λ (m : Member). m.barriers) begins.member);
              begun = omega (arith, known.waits, owes, ap (λ (m : Member). m.begun) begins.member);
            }
      ]

  pub unmet-back : (e : Event) → ComesBack run W after I J past t e → (r i : ℕ) → 2 ≤ r → r < length W.regions → task_of_member W r i ≡ 0 → HasNotMet after r i
  unmet-back e back r i forked made none =
      elim (back-cases e back r i forked) [
        | inl same ↦ unmet-kept W after r i same (back.knows.barriers.unmet r i forked made none)
        | inr begins ↦ absurd (omega (arith, none, begins.task, begins.some))
      ]

  -- who has begun to wait, and whose wait has ended
  pub begun-back : (e : Event) → ComesBack run W after I J past t e → (r j : ℕ) → 2 ≤ r → r < length W.regions →
      (member_at (region_at W r).team j).begun ≤ (member_at (region_at after r).team j).begun
  begun-back e back r j forked made =
      elim (back-cases e back r j forked) [
        | inl same ↦ omega (arith, ap (λ (m : Member). m.begun) same)
        | inr begins ↦
            let known = back.knows.barriers.member r j forked made (subst (λ k. 1 ≤ k) (sym begins.task) begins.some) in
            omega (arith, known.begun, known.waits, ap (λ (m : Member). m.begun) begins.member)
      ]

  pub passed-same : (e : Event) → ComesBack run W after I J past t e → (r i : ℕ) → 2 ≤ r →
      (member_at (region_at after r).team i).passed ≡ (member_at (region_at W r).team i).passed
  passed-same e back r i forked =
      elim (back-cases e back r i forked) [ inl same ↦ ap (λ (m : Member). m.passed) same | inr begins ↦ ap (λ (m : Member). m.passed) begins.member ]

  -- a thread that is inside the begin of a wait
  pub waiting-back : (e : Event) → ComesBack run W after I J past t e → (u : ℕ) → IsWaiting after u (J u)
  waiting-back e back u =
      elim (cases_eq u t) [
        | inl is ↦ subst (λ within. IsWaiting after u within) (sym (ap J is ∙ back.enters.own)) tt
        | inr other ↦
            subst (λ within. IsWaiting after u within) (sym (back.enters.others u other))
            (waiting-kept W after u (I u) (current-same W after u (ap (λ (x : Thread). x.stack) (back.returns.thread u) ∙ back-stack W t e u))
            (λ some which at. stand-back e back (current W u) ∙ at) (back.knows.barriers.waiting u))
      ]
