-- An event of a turn: what it tells is what was taken, and of a work that ends nothing is left for the member.
use Rattle.std.proofs.Common.{ℕ, ◌≡◌, ◌+◌, ◌<◌, ◌≤◌, ◌==◌, ◌&&◌, ◌++◌, Bool, true, false, if◌then◌else◌, Some, None, List, [], ◌∷◌, length, slice_index_or, slice_set, refl, sym, ap, ◌∙◌, subst, inl, inr, arith}
use Rattle.std.specs.Prelude.{Option, is_none, option_map}
use Rattle.std.proofs.lemmas.Bool.{and_parts, cases_eq, eqb-true}
use Rattle.std.proofs.lemmas.List.{get_or-set_other, get_or-set_same, length-set}
use Rattle.ompt_calls.specs.declared.event.EventRecord.{EventRecord}
use Rattle.c_model.specs.declared.point.WorkKind.{WorkKind}
use Rattle.c_model.specs.declared.point.WorkKind.TheVariants as work_kind
use Rattle.c_brackets.specs.Opened.Open.{Works}
use Rattle.task_pool.specs.declared.task.Task.{Task as PoolTask}
use Rattle.team_parts.specs.Team.{TeamView, last_number, member_at, no_meeting}
use Rattle.omp_model.specs.declared.limits.TheConstants.{IMPLICIT_REGION}
use Rattle.omp_model.specs.declared.event.Arrival.TheVariants.{CodeEvent, RuntimeEvent}
use Rattle.omp_model.specs.declared.event.Callback.{Callback}
use Rattle.omp_model.specs.declared.event.Endpoint.TheVariants.{End}
use Rattle.omp_model.specs.declared.event.Event.{Event}
use Rattle.omp_model.specs.declared.event.Event.TheVariants.{Dispatch, Work}
use Rattle.omp_model.specs.declared.event.Share.{Share}
use Rattle.omp_model.specs.declared.parts.RegionHead.{RegionHead}
use Rattle.omp_model.proofs.Arrivals.{IsFree}
use Rattle.omp_model.specs.Conditions.{IsOrderly}
use Rattle.omp_model.specs.Gates.{arrival}
use Rattle.omp_model.specs.MadeWorld.{IsMadeState, IsThread}
use Rattle.omp_model.specs.Members.{current, current_index, current_region, current_team, is_explicit_task, member_index, region_of}
use Rattle.omp_model.specs.State.{Run, State, Thread, World, pending_at, pooled_at, region_at, thread_at}
use Rattle.omp_model.proofs.Touching.{thread_after}
use Rattle.omp_model.specs.Turn.{called, enabled, goes_on}
use Rattle.omp_model.proofs.Arriving.{thread-goes}
use Rattle.omp_model.proofs.Gos.{current-kept}
use Rattle.omp_model.proofs.Rewrites.{thread-below}
use Rattle.omp_model.proofs.Turning.{Beside, GoOf, OfCode}
use Rattle.nested_runs.proofs.Knows.{Goes, Knows, Stays}
use Rattle.nested_runs.proofs.Recorded.{Enters, event_in, inside}
use Rattle.nested_runs.proofs.Shown.{opens_at}
use Rattle.nested_runs.proofs.BackCodes.{sound-state}
use Rattle.nested_runs.proofs.Comings.{comes}
use Rattle.nested_runs.proofs.Gos.{touches}
use Rattle.nested_runs.proofs.Keeping.{knows-stays}
use Rattle.nested_runs.proofs.PooledTasks.{current-same, current-under-way}
use Rattle.nested_runs.proofs.Turned.{Reaches, sound-alike}
use Rattle.guard_laws.proofs.DealtRuns.{IsMet}
use Rattle.guard_laws.proofs.LastMeetings.{AllFit, FitsOpen, last_met}
use Rattle.guard_laws.proofs.WorkBegins.{MeetsFree, meets-free}
use Rattle.guard_laws.proofs.WorkGos.{own-made}
use Rattle.guard_laws.proofs.WorksMet.{WorksMet, index_of, met_at, works-stays}
use Rattle.work_laws.specs.Told.{is_newest, with_event_at}
use Rattle.work_laws.proofs.Gos.{ended, tells-go}
use Rattle.work_laws.proofs.Meetings.{IsOverFor, tells-ended}
use Rattle.work_laws.proofs.Shares.{Tellings, Tells, TellsAt, newest-same, with_share}
use Rattle.work_laws.proofs.Teams.{IsOverAt, NoEnd, Standing, TellsTeam, tells-changed}
use Rattle.work_laws.proofs.Walks.{On, share-arrives, share-same}

-- ---- the Go of the event, in what is known of it

pub outside-callbacks : (S : State) (t : ℕ) → enabled S t ≡ true → IsThread S.world t
unfolding enabled
outside-callbacks S t goes = thread-goes S.world t (and_parts (is_none (pending_at S t) && is_none S.halt) (goes_on (arrival S.world t)) goes).1

none-some : (e : Event) → None ≡ Some e → ⊥
none-some e is = cc

module _ (run : Run) (S next : State) (met : IsMet run S) (t : ℕ) (e : Event) (W : World) (reached : Reaches S.world t W)
    (go : GoOf run W t e next.world)
    (made : IsMadeState run next) (orderly : IsOrderly next) (there : IsThread S.world t) (outside : inside S t ≡ None)
    (pending : next.pending ≡ slice_set S.pending t (Some (called e))) where
  abbrev past : List EventRecord
  past = met.known.past

  stays : Stays run S.world W (inside S) (inside S) past
  stays =
      record {
        knows = met.known.stands.knows;
        unbroken = met.known.stands.unbroken;
        alike = reached.alike;
        taken = λ u event is. reached.taken u (λ same. none-some event (sym outside ∙ ap (inside S) (sym same) ∙ is));
        same = λ u. refl;
        sound = sound-alike run S.world W (inside S) met.known.stands.knows.sound reached.alike;
      }

  enters : t < length S.pending → Enters (inside S) (inside next) t (Some e)
  enters within =
      let now : Option Callback = Some (called e) in
      record {
        own = ap (option_map event_in) (ap (λ (places : List
            (Option Callback)). slice_index_or places t None) pending ∙ get_or-set_same S.pending t now None within);
        others = λ u other. ap (option_map event_in) (ap (λ (places : List (Option Callback)). slice_index_or places u None) pending
            ∙ get_or-set_other S.pending t u now None other);
      }

  pub goes : Goes run W next.world (inside S) (inside next) past t e
  goes =
      let now : Knows run W (inside S) past = knows-stays run S.world W (inside S) (inside S) past stays in
      let whole = now.sound.whole in
      let comes-to = comes run W next.world t e whole.returns now.codes now.sound.made now.sound.orderly go in
      let within : t < length S.pending =
      omega (
        arith,
        thread-below S.world t there,
        met.known.stands.knows.sound.threads,
        made.places,
        ap length pending,
        length-set S.pending t (Some (called e)),
      ) in
      record {
        knows = now;
        unbroken = met.known.stands.unbroken;
        outside = outside;
        comes = comes-to;
        touches = touches run W next.world t e whole.returns now.codes now.sound.made now.sound.orderly go comes-to;
        enters = enters within;
        sound = sound-state run next whole made orderly;
      }

  pub free : MeetsFree W next.world t e
  free = let now = goes.knows in meets-free run W next.world t e now.sound.made now.codes go

-- ---- events that leave all but threads, codes and stacks

-- where the member has met what it had met
pub record IsStill (W after : World) (t : ℕ) : Type 0 where
  pub task : current after t ≡ current W t
  pub pooled : (j : ℕ) → pooled_at after j ≡ pooled_at W j
  pub head : (q : ℕ) → (region_at after q).head ≡ (region_at W q).head
  pub team : (q : ℕ) → (region_at after q).team ≡ (region_at W q).team

still-region : (W after : World) (t : ℕ) → IsStill W after t → current_region after t ≡ current_region W t
still-region W after t still = ap (λ (x : PoolTask). x.region) (still.pooled (current after t)) ∙ ap (region_of W) still.task

still-index : (W after : World) (t : ℕ) → IsStill W after t → current_index after t ≡ current_index W t
still-index W after t still =
    ap (member_index after t) (still-region W after t still)
    ∙ ap (λ (r : ℕ). if r == IMPLICIT_REGION then t else 0)
    (ap (λ (head : RegionHead). region_of after head.task) (still.head (current_region W t))
    ∙ ap (λ (x : PoolTask). x.region) (still.pooled (region_at W (current_region W t)).head.task))

pub still-newest : (W after : World) (t : ℕ) → IsStill W after t → (q n : ℕ) → is_newest after t q n ≡ is_newest W t q n
still-newest W after t still q n =
    newest-same W after t q n still.task (still-region W after t still) (still-index W after t still)
    (ap (λ (team : TeamView). (member_at team (current_index W t)).met) (still.team (current_region W t)))

-- ---- what is told

-- an event that tells nothing
told-nothing : (after : World) (t : ℕ) (told : Tellings) → Tells after told → Tells after (λ q n. if is_newest after t q n then told q n else told q n)
told-nothing after t told tells =
    record {
      teams = λ q n. either (is_newest after t q n) q n (tells.teams q n);
      tasks = tells.tasks;
    }
  where
    either : (b : Bool) (q n : ℕ) → TellsAt after q n (told q n) → TellsAt after q n (if b then told q n else told q n)
    either true q n tells = tells
    either false q n tells = tells

-- a work that ends is told
module _ (W after : World) (t : ℕ) (told : Tellings) (still : IsStill W after t) (works : WorksMet W)
    (over : (1 ≤ (member_at (current_team W t) (current_index W t)).met) × IsOverAt (current_team W t) (current_index W t)) where
  abbrev r : ℕ
  r = current_region W t

  abbrev i : ℕ
  i = current_index W t

  abbrev team : TeamView
  team = current_team W t

  ended-here : (q n : ℕ) → q ≡ r → n ≡ last_number team i → TellsAt after q n (told q n) →
      TellsAt after q n (record (told q n) { ended = (told q n).ended ++ current_index after t ∷ [] })
  ended-here q n same number tells =
      let x = told q n in
      let next = record x { ended = x.ended ++ i ∷ [] } in
      let now : (region_at after q).team ≡ team = still.team q ∙ ap (λ (q : ℕ). (region_at W q).team) same in
      let below : n < length team.meetings = omega (arith, number, over.0, works.within r i) in
      let before : TellsTeam (length team.members) team.meetings n x =
      subst (λ (y : TeamView). TellsTeam (length y.members) y.meetings n x) now tells in
      let nothing : IsOverFor (length team.members) (slice_index_or team.meetings n no_meeting) i =
      subst (λ (m : ℕ). IsOverFor (length team.members) (slice_index_or team.meetings m no_meeting) i) (sym number) over.1 in
      subst (λ (j : ℕ). TellsAt after q n (record x { ended = x.ended ++ j ∷ [] })) (sym (still-index W after t still))
      (subst (λ (y : TeamView). TellsTeam (length y.members) y.meetings n next) (sym now)
      (tells-changed (length team.members) team.meetings n x next below
      (λ meeting. tells-ended (length team.members) (slice_index_or team.meetings n no_meeting) x i nothing meeting) before))

  told-ended : Tells after told →
      Tells after (λ q n. if is_newest after t q n then record (told q n) { ended = (told q n).ended ++ current_index after t ∷ [] } else told q n)
  told-ended tells =
      record {
        teams = λ q n. at-newest (is_newest after t q n) q n refl (tells.teams q n);
        tasks = tells.tasks;
      }
    where
      at-newest : (b : Bool) (q n : ℕ) → is_newest after t q n ≡ b → TellsAt after q n (told q n) →
          TellsAt after q n (if b then record (told q n) { ended = (told q n).ended ++ current_index after t ∷ [] } else told q n)
      at-newest true q n newest tells =
          let parts = and_parts (r == q) ((member_at team i).met == n + 1) (sym (still-newest W after t still q n) ∙ newest) in
          ended-here q n (sym (eqb-true r q parts.0)) (omega (arith, eqb-true (member_at team i).met (n + 1) parts.1)) tells
      at-newest false q n newest tells = tells

-- ---- the event

-- a share that was taken is told, and no other event comes before that
dispatch-only : (run : Run) (W after : World) (t : ℕ) (e : Event) (share : Share) → GoOf run W t e after → arrival W t ≡ RuntimeEvent (Dispatch share) →
    e ≡ Dispatch share
dispatch-only run W after t e share (OfCode comes happens) is = let wrong : CodeEvent ≡ RuntimeEvent (Dispatch share) = sym comes ∙ is in cc
dispatch-only run W after t e share (Beside meets happens) is = let same : RuntimeEvent e ≡ RuntimeEvent (Dispatch share) = sym meets ∙ is in cc

module _ (run : Run) (S next : State) (met : IsMet run S) (t : ℕ) (told : Tellings) (W : World) (on : On run S met t told W)
    (made : IsMadeState run next) (orderly : IsOrderly next) (there : IsThread S.world t) (outside : inside S t ≡ None) where
  abbrev after : World
  after = next.world

  abbrev Told : Event → Type 0
  Told e = Tells after (λ q n. with_event_at after t q n e (told q n))

  abbrev Pending : Event → Type 0
  Pending e = next.pending ≡ slice_set S.pending t (Some (called e))

  abbrev GoesTo : Event → Type 0
  GoesTo e = Goes run W after (inside S) (inside next) met.known.past t e

  works : WorksMet W
  works = works-stays S.world W on.reached.alike met.works

  gone : (e : Event) (go : GoOf run W t e after) (pending : Pending e) → (told_so : Tellings) → Tells W told_so → Tells after told_so
  gone e go pending told_so tells =
      tells-go run W after (inside S) (inside next) met.known.past t told_so tells works e
      (goes run S next met t e W on.reached go made orderly there outside pending) go
      (free run S next met t e W on.reached go made orderly there outside pending)

  none-of : (e : Event) → GoOf run W t e after → ((share : Share) → e ≡ Dispatch share → ⊥) → IsFree W t → (share : Option Share) →
      (thread_at W t).taken ≡ share →
      (thread_at W t).taken ≡ None
  none-of e go other quiet None is = is
  none-of e go other quiet (Some share) is = absurd (other share (dispatch-only run W after t e share go (share-arrives W t share quiet is)))

  none-taken : (e : Event) → GoOf run W t e after → ((share : Share) → e ≡ Dispatch share → ⊥) → (thread_at W t).taken ≡ None
  none-taken e go other =
      elim on.free [ inl none ↦ none | inr quiet ↦ none-of e go other quiet (thread_at W t).taken refl ]

  now-tells : (e : Event) → GoOf run W t e after → ((share : Share) → e ≡ Dispatch share → ⊥) → Tells W told
  now-tells e go other = subst (λ (share : Option Share). Tells W (with_share W t share told)) (none-taken e go other) on.tells

  plainly : (e : Event) → GoOf run W t e after → Pending e → ((share : Share) → e ≡ Dispatch share → ⊥) → Tells after told
  plainly e go pending other = gone e go pending told (now-tells e go other)

  work-apart : (which : WorkKind) (count codeptr : ℕ) (share : Share) → Work End which count codeptr ≡ Dispatch share → ⊥
  work-apart which count codeptr share is = cc

  pub dispatch-still : (share : Share) → GoesTo (Dispatch share) → IsStill W after t
  dispatch-still share goes-to =
      record {
        task = current-same W after t (ap (λ (x : Thread). x.stack) goes-to.touches.world.own);
        pooled = goes-to.touches.world.pooled;
        head = goes-to.touches.world.head;
        team = goes-to.touches.world.team;
      }

  dispatched : (share : Share) → GoOf run W t (Dispatch share) after → Pending (Dispatch share) → Told (Dispatch share)
  dispatched share go pending =
      let e : Event = Dispatch share in
      let goes-to = goes run S next met t e W on.reached go made orderly there outside pending in
      let taken : (thread_at W t).taken ≡ Some share = goes-to.comes.taken in
      let still = dispatch-still share goes-to in
      share-same W after t (still-newest W after t still) told (Some share)
      (gone e go pending (with_share W t (Some share) told) (subst (λ (share : Option Share). Tells W (with_share W t share told)) taken on.tells))

  -- a member's work ends
  module _ (which : WorkKind) (count codeptr : ℕ) (go : GoOf run W t (Work End which count codeptr) after) (pending : Pending
      (Work End which count codeptr))
      (none : NoEnd which → ⊥) (unmet : FitsOpen None (Works which count) → ⊥) where
    abbrev work-event : Event
    work-event = Work End which count codeptr

    work-goes : GoesTo (Work End which count codeptr)
    work-goes = goes run S next met t (Work End which count codeptr) W on.reached go made orderly there outside pending

    before : Tells W told
    before = now-tells (Work End which count codeptr) go (work-apart which count codeptr)

    some : 1 ≤ current W t
    some = work-goes.comes.0.within.some

    plain : is_explicit_task W (current W t) ≡ false
    plain = plain-if (is_explicit_task W (current W t)) refl
      where
        k : ℕ
        k = current W t

        fits : AllFit (met_at W (current W t)) (opens_at W (current W t))
        fits = works.fit (current W t) (own-made run W after (inside S) (inside next) met.known.past t (Work End which count codeptr) work-goes some)

        newest : FitsOpen (met_at W (current W t)) (Works which count)
        newest = (subst (AllFit (met_at W (current W t))) work-goes.comes.0.ends.1 fits).0

        plain-if : (explicit : Bool) → is_explicit_task W (current W t) ≡ explicit → is_explicit_task W (current W t) ≡ false
        plain-if true is =
            absurd (unmet (subst (λ (b : Bool). FitsOpen (if b then None else last_met (region_at W (region_of W (current W t))).team (index_of W
            (current W t))) (Works which count)) is newest))
        plain-if false is = is

    over : (1 ≤ (member_at (current_team W t) (current_index W t)).met) × IsOverAt (current_team W t) (current_index W t)
    over =
        let index : index_of W (current W t) ≡ current_index W t =
        ap (λ (u : ℕ). member_index W u (current_region W t)) (current-under-way W t work-goes.knows.sound.orderly some).thread in
        ended run W after (inside S) (inside next) met.known.past t told before works which count codeptr work-goes go none
        (subst (Standing _ (current_team W t)) index
        (before.tasks (current W t) (own-made run W after (inside S) (inside next) met.known.past t
        (Work End which count codeptr) work-goes some) plain))

    work-told : Tells after (λ q n. if is_newest after t q n then record (told q n) {
      ended =
          (told q n).ended ++ current_index after t ∷ [];
    } else told q n)
    work-told =
        let still : IsStill W after t = record {
          task = current-kept W after t (Work End which count codeptr) refl work-goes.touches.world;
          pooled = work-goes.touches.world.pooled;
          head = work-goes.touches.world.head;
          team = work-goes.touches.world.team;
        } in
        told-ended W after t told still works over (gone (Work End which count codeptr) go pending told before)

  pub happened : (e : Event) → GoOf run W t e after → Pending e → Told e
  happened (Dispatch share) go pending = dispatched share go pending
  happened (Work End work_kind.Loop count codeptr) go pending = work-told work_kind.Loop count codeptr go pending (λ is. is) (λ is. is)
  happened (Work End work_kind.Sections count codeptr) go pending = work-told work_kind.Sections count codeptr go pending (λ is. is) (λ is. is)
  happened e go pending = told-nothing after t told (plainly e go pending (λ share is. cc))

  -- what was taken is told, and no other thread has taken anything
  own-none : (e : Event) (thread : Thread) → thread.taken ≡ None → (thread_after e thread).taken ≡ None
  own-none (Dispatch share) thread none = refl
  own-none e thread none = none

  own-taken : (e : Event) → GoOf run W t e after → (thread_after e (thread_at W t)).taken ≡ None
  own-taken (Dispatch share) go = refl
  own-taken e go = own-none e (thread_at W t) (none-taken e go (λ share is. cc))

  pub nothing-taken : (e : Event) → GoOf run W t e after → Pending e → ((u : ℕ) → (thread_at S.world u).taken ≡ None) → (u : ℕ) →
      (thread_at after u).taken ≡ None
  nothing-taken e go pending idle u =
      let world = (goes run S next met t e W on.reached go made orderly there outside pending).touches.world in
      elim (cases_eq u t) [
        | inl is ↦ ap (λ (u : ℕ). (thread_at after u).taken) is ∙ (ap (λ (x : Thread). x.taken) world.own ∙ own-taken e go)
        | inr other ↦ ap (λ (x : Thread). x.taken) (world.others u other) ∙ (on.reached.taken u other ∙ idle u)
      ]
