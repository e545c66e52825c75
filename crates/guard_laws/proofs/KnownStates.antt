-- In each state that a legal history comes to, all is known that its events tell.
use Rattle.std.proofs.Common.{ℕ, ◌≡◌, ◌++◌, true, List, [], ◌∷◌, refl, sym, ap, ◌∙◌, subst}
use Rattle.std.specs.Prelude.{Option, Some, None, is_some}
use Rattle.std.proofs.lemmas.Bool.{true≢false}
use Rattle.ompt_calls.specs.declared.event.EventRecord.{EventRecord}
use Rattle.omp_model.specs.declared.event.Callback.{Callback}
use Rattle.omp_model.specs.declared.event.Event.{Event}
use Rattle.omp_model.specs.declared.event.Outcome.{Outcome}
use Rattle.omp_model.specs.declared.event.Outcome.TheVariants as outcome
use Rattle.omp_model.specs.declared.history.Entry.{Entry}
use Rattle.omp_model.specs.declared.history.What.{What}
use Rattle.omp_model.specs.declared.history.What.TheVariants.{Go, Put, Back}
use Rattle.omp_model.specs.Conditions.{IsOrderly}
use Rattle.omp_model.specs.Legal.{AllowsFrom, Legal, after, after_from, back, does, entered, may}
use Rattle.omp_model.specs.MadeWorld.{IsMadeState}
use Rattle.omp_model.specs.State.{Run, State, World, first, pending_at}
use Rattle.omp_model.specs.Turn.{enabled, turn}
use Rattle.omp_model.proofs.MadeRuns.{made-after}
use Rattle.omp_model.proofs.OrderlyRuns.{orderly-after}
use Rattle.nested_runs.proofs.Knows.{Goes, IsWholeRun, Stays}
use Rattle.nested_runs.proofs.Recorded.{inside, recorded}
use Rattle.nested_runs.proofs.Histories.{Stands}
use Rattle.nested_runs.proofs.Keeping.{keeps-go, knows-back, knows-first, knows-go, knows-stays}
use Rattle.nested_runs.proofs.Turned.{Happened, Led, back-leads, put-leads, turn-leads}

-- all is known that these events tell, whether or not their callbacks have returned
pub record KnownState (run : Run) (S : State) : Type 0 where
  pub past : List EventRecord
  pub stands : Stands run S past

-- the world at the Go of an event, and what is known there
pub record KnownGo (run : Run) (S next : State) (t : ℕ) (e : Event) : Type 0 where
  pub past : List EventRecord
  pub before : World
  pub goes : Goes run before next.world (inside S) (inside next) past t e

module _ (run : Run) (S : State) (known : KnownState run S) where
  known-stays : (next : State) → Stays run S.world next.world (inside S) (inside next) known.past → KnownState run next
  known-stays next stays =
      record {
        past = known.past;
        stands = record { knows = knows-stays run S.world next.world (inside S) (inside next) known.past stays; unbroken = known.stands.unbroken };
      }

  happened-go : (next : State) (t : ℕ) (e : Event) → Happened run S next known.past t e → KnownGo run S next t e
  happened-go next t e happened =
      record {
        past = known.past;
        before = happened.before;
        goes = happened.goes (knows-stays run S.world happened.before (inside S) (inside S) known.past happened.stays);
      }

  known-go : (next : State) (t : ℕ) (e : Event) → Happened run S next known.past t e → KnownState run next
  unfolding happened-go
  known-go next t e happened =
      let go = happened-go next t e happened in
      record {
        past = recorded 0 t next.world e ∷ known.past;
        stands = record {
          knows = knows-go run go.before next.world (inside S) (inside next) known.past t 0 e go.goes;
          unbroken = (keeps-go run go.before next.world (inside S) (inside next) known.past t 0 e go.goes, known.stands.unbroken);
        };
      }

  known-turn : (next : State) (t : ℕ) (came : Outcome) → Led run S next known.past t came → KnownState run next
  known-turn next t (outcome.Happens e) led = known-go next t e led
  known-turn next t outcome.Idle led = known-stays next led
  known-turn next t outcome.Quiet led = known-stays next led
  known-turn next t (outcome.Halts halt) led = known-stays next led

  pub record IsWithin (callback : Option Callback) : Type 0 where
    pub one : Callback
    pub is : callback ≡ Some one

  pub some-within : (callback : Option Callback) → is_some callback ≡ true → IsWithin callback
  some-within None some = absurd (true≢false (sym some))
  some-within (Some callback) some = record { one = callback; is = refl }

  pub known-entry : (t : ℕ) (what : What) → IsMadeState run (does run S t what) → IsOrderly (does run S t what) → may run S t what ≡ true → KnownState run (does run S t what)
  known-entry t Go made orderly goes =
      known-turn (turn run S t).state t (turn run S t).outcome (turn-leads run S known.past known.stands.knows known.stands.unbroken t made orderly goes)
  known-entry t (Put place word) made orderly goes =
      known-stays (does run S t (Put place word)) (put-leads run S known.past known.stands.knows known.stands.unbroken t place word made orderly)
  known-entry t Back made orderly goes =
      let within = some-within (pending_at S t) goes in
      let next = back S t in
      record {
        past = known.past;
        stands = record {
          knows = knows-back run S.world next.world (inside S) (inside next) known.past t within.one.event
              (back-leads run S known.past known.stands.knows known.stands.unbroken t within.one made orderly within.is);
          unbroken = known.stands.unbroken;
        };
      }

pub after-one : (run : Run) (S : State) (before : List Entry) (entry : Entry) → after_from run S (before ++ entry ∷ []) ≡ entered run (after_from run S before) entry
after-one run S [] entry = refl
after-one run S (one ∷ before) entry = after-one run (entered run S one) before entry

known-from : (run : Run) (before : List Entry) (S : State) (rest : List Entry) → IsWholeRun run → after run before ≡ S → AllowsFrom run S rest → KnownState run S →
    KnownState run (after_from run S rest)
known-from run before S [] whole is allows known = known
known-from run before S (entry ∷ rest) whole is allows known =
    let next = entered run S entry in
    let same : after run (before ++ entry ∷ []) ≡ next = after-one run (first run) before entry ∙ ap (λ (S : State). entered run S entry) is in
    known-from run (before ++ entry ∷ []) next rest whole same allows.1
    (known-entry run S known entry.thread entry.what (subst (IsMadeState run) same (made-after run (before ++ entry ∷ []) whole.some))
    (subst IsOrderly same (orderly-after run (before ++ entry ∷ []) whole.some)) allows.0)

-- at the start, and after each legal history
pub known-first : (run : Run) → IsWholeRun run → KnownState run (first run)
known-first run whole = record { past = []; stands = record { knows = knows-first run whole; unbroken = tt } }

pub known-after : (run : Run) (history : List Entry) → IsWholeRun run → Legal run history → KnownState run (after run history)
known-after run history whole legal = known-from run [] (first run) history whole refl legal (known-first run whole)

-- at the Go of an event
pub known-event : (run : Run) (history : List Entry) (t : ℕ) (e : Event) → IsWholeRun run → Legal run history → enabled (after run history) t ≡ true →
    (turn run (after run history) t).outcome ≡ outcome.Happens e → KnownGo run (after run history) (turn run (after run history) t).state t e
known-event run history t e whole legal goes happens =
    let S = after run history in
    let next = (turn run S t).state in
    let known = known-after run history whole legal in
    let entry : Entry = record { thread = t; what = Go } in
    let same : after run (history ++ entry ∷ []) ≡ next = after-one run (first run) history entry in
    happened-go run S known next t e (subst (Led run S next known.past t) happens
    (turn-leads run S known.past known.stands.knows known.stands.unbroken t (subst (IsMadeState run) same (made-after run (history ++ entry ∷ []) whole.some))
    (subst IsOrderly same (orderly-after run (history ++ entry ∷ []) whole.some)) goes))
