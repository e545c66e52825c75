-- Silent steps, what a task goes past and what a tool stores make a world that is alike.
use Rattle.std.proofs.Common.{◌≡◌, ℕ, ◌<◌, ◌≤◌, ◌+◌, ◌⊎◌, nat_le, nat_lt, Bool, true, false, if◌then◌else◌, List, [], ◌∷◌, slice_index_or, length, refl, sym, ap, ◌∙◌, subst, inl, inr, arith}
use Rattle.std.specs.Prelude.{Option, Some, None, option_map}
use Rattle.std.proofs.lemmas.Bool.{and_parts, leb-true, true≢false}
use Rattle.std.proofs.lemmas.List.{length-set}
use Rattle.c_syntax.specs.language.Numbered.{TreeView}
use Rattle.c_syntax.specs.language.Tree.{Tree}
use Rattle.c_model.specs.declared.question.Answer.{Answer}
use Rattle.c_model.specs.declared.question.Ask.{Ask}
use Rattle.c_model.specs.declared.question.Ask.TheVariants as ask
use Rattle.c_model.specs.declared.view.View.{View}
use Rattle.c_model.specs.Asked.{count_asked, sections_asked}
use Rattle.c_model.specs.AfterEvents.{after_answer}
use Rattle.c_model.specs.Step.{items_from_next, settled_task, silent, step_at}
use Rattle.c_model.specs.Task.{Item, Moment, Outcome, Task as Code}
use Rattle.c_model.specs.Task.Item.{Acquire, Forked, Sync, TestLock}
use Rattle.c_model.specs.Task.Outcome.{Asks, Ends, Limits, Occurs, StepsTo, Traps}
use Rattle.c_brackets.specs.Opened.{open_task}
use Rattle.c_brackets.specs.Orderly.{IsOrderly as IsOrderlyCode}
use Rattle.c_brackets.specs.Returns.{HasReturnsOutside}
use Rattle.ompt_calls.specs.declared.snapshot.Target.{Target}
use Rattle.ompt_calls.specs.declared.snapshot.Target.TheVariants as target
use Rattle.task_pool.specs.declared.task.TaskKind.TheVariants as kind
use Rattle.task_pool.specs.Tasks.{task_at as pool_task_at}
use Rattle.task_pool.specs.View.{PoolView}
use Rattle.omp_model.specs.declared.event.Arrival.TheVariants.{Steps}
use Rattle.omp_model.specs.declared.event.Share.{Share}
use Rattle.omp_model.specs.declared.event.Share.TheVariants.{Chunk, Section}
use Rattle.omp_model.specs.State.{Run, Task, Thread, World, no_task, pooled_at, region_at, task_at, thread_at, unmade}
use Rattle.omp_model.specs.Members.{code_of, current, current_region, moment_of, view_of}
use Rattle.omp_model.proofs.Arrivals.{IsInTask}
use Rattle.omp_model.proofs.Alike.{AlikeWorld}
use Rattle.omp_model.specs.Changes.{with_masked_skipped, gone_to, with_taken_share}
use Rattle.omp_model.specs.Conditions.{AreOrderly}
use Rattle.omp_model.specs.Gates.{arrival}
use Rattle.omp_model.specs.MadeWorld.{IsMadeWorld}
use Rattle.omp_model.specs.Silent.{answer_to, answered, chunk_dealt, fits_loop, fitting_chunk, fitting_section, items_asking, section_dealt, share_of_chunk, share_of_section, share_taken, silence_of, silent_step}
use Rattle.omp_model.specs.Words.{stored}
use Rattle.omp_model.proofs.AlikeWorlds.{alike-gone as world-gone, alike-region as world-region, alike-same as world-same, alike-stored as world-stored, alike-then as world-then, alike-thread as world-thread, same-head, taken-stored, team-asks}
use Rattle.omp_model.proofs.Later.{at-set}
use Rattle.omp_model.proofs.Reading.{read-same}
use Rattle.omp_model.proofs.Turning.{AfterSilence}
use Rattle.omp_model.proofs.Arriving.{Arrives, arrives}
use Rattle.nested_runs.proofs.Shown.{opens_at}
use Rattle.nested_runs.proofs.Standing.{HasCourse, Stand, is_behind, stand_among, stand_at}
use Rattle.nested_runs.proofs.Standing.Stand.{Free}
use Rattle.nested_runs.proofs.Touching.{Alike, AreCodes, ComesFree, Fits, MayTake, TakesShare}
use Rattle.nested_runs.proofs.Codes.{answer-open, answer-orderly, settled-open, settled-orderly, step-open, step-orderly}
use Rattle.nested_runs.proofs.Courses.{KeepsCourse, course-answer, course-settled, course-step}
use Rattle.nested_runs.proofs.Stands.{asks-chunk, asks-section, stand-answer, stand-settled, stand-step}

pub alike-same : (W : World) → AreCodes W → Alike W W
alike-same W codes =
    record { world = world-same W; taken = λ u. inl refl; opens = λ k. refl; stands = λ k. inl refl; behind = λ k within is. refl; codes = codes }

-- One world alike after another.

-- a share that was taken in a world is one in one that is alike
share-alike : (W after : World) (t : ℕ) (share : Option Share) → Alike W after → MayTake W t share → MayTake after t share
share-alike W after t None alike may = tt
share-alike W after t (Some share) alike takes =
    let thread = alike.world.thread t in
    let same : current after t ≡ current W t = ap (λ stack. slice_index_or stack 0 0) thread.stack in
    record {
      some = rw same takes.some;
      fits = rw (same, alike.opens (current W t)) takes.fits;
      stand = ap (stand_at after) same ∙ elim (alike.stands (current W t)) [ inl is ↦ is ∙ takes.stand | inr free ↦ free.free ];
      invited = thread.invited ∙ takes.invited;
      undeferred = thread.undeferred ∙ takes.undeferred;
    }

stands-then : (before between after : Stand) → (between ≡ before) ⊎ ComesFree before between → (after ≡ between) ⊎ ComesFree between after →
    (after ≡ before) ⊎ ComesFree before after
stands-then before between after (inl first) (inl next) = inl (next ∙ first)
stands-then before between after (inl first) (inr next) = inr (subst (λ x. ComesFree x after) first next)
stands-then before between after (inr first) (inl next) = inr (record { forked = first.forked; synced = first.synced; free = next ∙ first.free })
stands-then before between after (inr first) (inr next) = inr (record { forked = first.forked; synced = first.synced; free = next.free })

pub alike-then : (W between after : World) → Alike W between → Alike between after → Alike W after
alike-then W between after first next =
    record {
      world = world-then W between after first.world next.world;
      taken = λ u. elim (next.taken u) [
        | inl same ↦ elim (first.taken u) [
          | inl before ↦ inl (same ∙ before)
          | inr may ↦ inr (rw same (share-alike between after u (thread_at between u).taken next may))
        ]
        | inr may ↦ inr may
      ];
      opens = λ k. next.opens k ∙ first.opens k;
      stands = λ k. stands-then (stand_at W k) (stand_at between k) (stand_at after k) (first.stands k) (next.stands k);
      behind = λ k within is.
          next.behind k (rw first.world.tasks within) (ap (λ (pool : PoolView). (pool_task_at pool.tasks k).kind) first.world.pool ∙ is)
          ∙ first.behind k within is;
      codes = next.codes;
    }

-- The code of a task.

record KeepsCode (W : World) (k : ℕ) (code : Code) : Type 0 where
  opens : open_task code ≡ opens_at W k
  stands : (stand_among code.todo ≡ stand_at W k) ⊎ ComesFree (stand_at W k) (stand_among code.todo)
  orderly : IsOrderlyCode code
  none : k ≡ 0 → code.todo ≡ []
  course : (pooled_at W k).kind ≡ kind.Implicit → k < length W.tasks → KeepsCourse (task_at W k).code code

alike-code : (W : World) (k : ℕ) (now : Moment) → AreCodes W → KeepsCode W k now.task → Alike W (gone_to W k now)
alike-code W k now codes keeps =
    let task : Task = record (task_at W k) { code = now.task } in
    record {
      world = world-gone W k now;
      taken = λ u. inl refl;
      opens = λ j. read-same (λ (x : Task). open_task x.code) no_task W.tasks k j task keeps.opens;
      stands = λ j. at-set (λ (x : Task). (stand_among x.code.todo ≡ stand_at W j) ⊎ ComesFree (stand_at W j)
          (stand_among x.code.todo)) no_task W.tasks k j task (inl refl)
          (λ is. subst (λ i. (stand_among now.task.todo ≡ stand_at W i) ⊎ ComesFree (stand_at W i) (stand_among now.task.todo)) (sym is) keeps.stands);
      behind = λ j within is. at-set (λ (x : Task). is_behind x.code ≡ is_behind (task_at W j).code) no_task W.tasks k j task refl
          (λ here. subst (λ i. is_behind now.task ≡ is_behind (task_at W i).code) (sym here)
          (keeps.course (subst (λ i. (pooled_at W i).kind ≡ kind.Implicit) here is) (subst (λ i. i < length W.tasks) here within)).behind);
      codes = record {
        none = at-set (λ (x : Task). x.code.todo ≡ []) no_task W.tasks k 0 task codes.none (λ is. keeps.none (sym is));
        orderly = λ j. at-set (λ (x : Task). IsOrderlyCode x.code) no_task W.tasks k j task (codes.orderly j) (λ is. keeps.orderly);
        course = λ j is within.
            let inside : j < length W.tasks = omega (arith, within, length-set W.tasks k task) in
            at-set (λ (x : Task). HasCourse x.code) no_task W.tasks k j task (codes.course j is inside)
            (λ here. (keeps.course (subst (λ i. (pooled_at W i).kind ≡ kind.Implicit) here is) (subst (λ i. i < length W.tasks) here inside)).course);
      };
    }

-- where there is no code there is none to go past
none-settled : (view : View) (code : Code) → code.todo ≡ [] → (settled_task view code).todo ≡ []
unfolding items_from_next
none-settled view code none = ap (items_from_next view) none

pub alike-past : (W : World) (t : ℕ) → AreCodes W → Alike W (with_masked_skipped W t)
alike-past W t codes =
    let k = current W t in
    let view = view_of W t in
    alike-code W k (record { task = settled_task view (code_of W t); store = W.store }) codes
    (record {
      opens = settled-open view (code_of W t) (codes.orderly k);
      stands = inl (stand-settled view (code_of W t) (codes.orderly k));
      orderly = settled-orderly view (code_of W t) (codes.orderly k);
      none = λ is. none-settled view (code_of W t) (ap (λ j. (task_at W j).code.todo) is ∙ codes.none);
      course = λ is within. course-settled view (code_of W t) (codes.orderly k) (codes.course k is within);
    })

-- What leaves all codes as they are.

alike-coded : (W after : World) → AlikeWorld W after → AreCodes W → ((k : ℕ) → (task_at after k).code ≡ (task_at W k).code) →
    ((u : ℕ) → ((thread_at after u).taken ≡ (thread_at W u).taken) ⊎ MayTake after u (thread_at after u).taken) → Alike W after
alike-coded W after world codes same taken =
    record {
      world = world;
      taken = taken;
      opens = λ k. ap open_task (same k);
      stands = λ k. inl (ap (λ (x : Code). stand_among x.todo) (same k));
      behind = λ k within is. ap is_behind (same k);
      codes = record {
        none = ap (λ (x : Code). x.todo) (same 0) ∙ codes.none;
        orderly = λ k. rw (same k) (codes.orderly k);
        course = λ k is within. rw (same k)
            (codes.course k (sym (ap (λ (pool : PoolView). (pool_task_at pool.tasks k).kind) world.pool) ∙ is) (omega (arith, within, world.tasks)));
      };
    }

-- what a tool stores
code-stored : (W : World) (place : Target) (word k : ℕ) → (task_at (stored W place word) k).code ≡ (task_at W k).code
code-stored W (target.Thread t) word k = refl
code-stored W (target.Parallel r) word k = refl
code-stored W (target.Task j) word k = read-same (λ (x : Task). x.code) no_task W.tasks j k _ refl

pub alike-stored : (W : World) (place : Target) (word : ℕ) → AreCodes W → Alike W (stored W place word)
alike-stored W place word codes =
    alike-coded W (stored W place word) (world-stored W place word) codes (code-stored W place word) (λ u. inl (taken-stored W place word u))

-- a share that is taken
alike-sharing : (W : World) (t : ℕ) (share : Option Share) → AreCodes W → MayTake (with_taken_share W t share) t share → Alike W (with_taken_share W t share)
alike-sharing W t share codes may =
    let after = with_taken_share W t share in
    let thread : Thread = record (thread_at W t) { taken = share } in
    alike-coded W after (world-thread W t thread (record { stage = refl; stack = refl; invited = refl; undeferred = refl })) codes (λ k. refl)
    (λ u. at-set (λ (x : Thread). (x.taken ≡ (thread_at W u).taken) ⊎ MayTake after u x.taken) unmade W.threads t u thread (inl refl)
    (λ is. inr (subst (λ v. MayTake after v share) (sym is) may)))

-- a chunk or section is one where it fits
chunk-fits : (W : World) (t count : ℕ) (chunk : Option (ℕ × ℕ)) → ((start size : ℕ) → start + size ≤ count → TakesShare W t (Chunk start size)) →
    MayTake W t (option_map share_of_chunk (fitting_chunk count chunk))
chunk-fits W t count None takes = tt
chunk-fits W t count (Some chunk) takes =
    where-fits (fits_loop count chunk) (λ fits. takes chunk.0 chunk.1
    (leb-true (chunk.0 + chunk.1) count (and_parts (nat_lt 0 chunk.1) (nat_le (chunk.0 + chunk.1) count) fits).1))
  where
    where-fits : (b : Bool) → (b ≡ true → TakesShare W t (Chunk chunk.0 chunk.1)) → MayTake W t (option_map share_of_chunk (if b then Some chunk else None))
    where-fits true takes = takes refl
    where-fits false takes = tt

section-fits : (W : World) (t count : ℕ) (construct : Tree) (section : Option ℕ) → ((codeptr : ℕ) → TakesShare W t (Section codeptr)) →
    MayTake W t (option_map (share_of_section construct) (fitting_section count section))
section-fits W t count construct None takes = tt
section-fits W t count construct (Some section) takes = where-fits (nat_lt section count) (takes _)
  where
    where-fits : (b : Bool) → TakesShare W t (share_of_section construct section) →
        MayTake W t (option_map (share_of_section construct) (if b then Some section else None))
    where-fits true takes = takes
    where-fits false takes = tt

-- what asks for a chunk or a section stands at nothing
abbrev is_lock : Ask → Bool
is_lock ask.Chunk = false
is_lock ask.Section = false
is_lock (ask.LockFree id) = true

asks-among : (items : List Item) (program : TreeView) (view : View) (now : Moment) (what : Ask) (tree : Tree) → is_lock what ≡ false →
    step_at items program view now ≡ Asks what tree → stand_among items ≡ Free
asks-among [] program view now what tree free is = cc
asks-among (Forked construct ∷ items) program view now what tree free is = cc
asks-among (Acquire place which id ∷ items) program view now what tree free is = cc
asks-among (TestLock call id to ∷ items) program view now what tree free is =
    let same : ask.LockFree id ≡ what = cc in
    absurd (true≢false (ap is_lock same ∙ free))
asks-among (Sync place which at ∷ items) program view now what tree free is = cc
asks-among (other ∷ items) program view now what tree free is = refl

asks-free : (program : TreeView) (view : View) (now : Moment) (what : Ask) (tree : Tree) → IsOrderlyCode now.task → is_lock what ≡ false →
    silent program view now ≡ Asks what tree → stand_among now.task.todo ≡ Free
unfolding silent
asks-free program view now what tree orderly free is =
    sym (stand-settled view now.task orderly) ∙ asks-among (items_from_next view now.task.todo) program view now what tree free is

-- Silent steps.

module _ (run : Run) (W : World) (t : ℕ) (returns : HasReturnsOutside run.program) (codes : AreCodes W) (made : IsMadeWorld W) (at : IsInTask W t) where
  abbrev k : ℕ
  k = current W t

  none-here : {A : Type 0} → k ≡ 0 → A
  none-here is = absurd (at-none k at.some is)
    where
      at-none : (n : ℕ) → 1 ≤ n → n ≡ 0 → ⊥
      at-none n some is = omega arith

  alike-gone : (next : Moment) → silent run.program (view_of W t) (moment_of W t) ≡ StepsTo next → Alike W (gone_to W k next)
  alike-gone next is =
      alike-code W k next codes
      (record {
        opens = step-open run.program returns (view_of W t) (moment_of W t) next (codes.orderly k) is;
        stands = inr (stand-step run.program (view_of W t) (moment_of W t) next returns (codes.orderly k) is);
        orderly = step-orderly run.program returns (view_of W t) (moment_of W t) next (codes.orderly k) is;
        none = λ zeroth. none-here zeroth;
        course = λ which within. course-step run.program (view_of W t) (moment_of W t) next returns (codes.orderly k) (codes.course k which within) is;
      })

  module _ (what : Ask) (tree : Tree) (is : silent run.program (view_of W t) (moment_of W t) ≡ Asks what tree) where
    abbrev given : Answer
    given = answer_to W t what

    abbrev now : Moment
    now = after_answer (view_of W t) given (moment_of W t)

    abbrev told : World
    told = gone_to W k now

    abbrev share : Option Share
    share = share_taken tree given

    alike-told : Alike W told
    alike-told =
        alike-code W k now codes
        (record {
          opens = answer-open (view_of W t) given (moment_of W t) (codes.orderly k);
          stands = stand-answer run.program (view_of W t) given (moment_of W t) what tree (codes.orderly k) is;
          orderly = answer-orderly (view_of W t) given (moment_of W t) (codes.orderly k);
          none = λ zeroth. none-here zeroth;
          course = λ which within. course-answer run.program (view_of W t) given (moment_of W t) what tree (codes.orderly k) (codes.course k which within) is;
        })

    -- what is taken then
    takes : (one : Share) → is_lock what ≡ false → Fits one (opens_at W k) → TakesShare (with_taken_share told t share) t one
    takes one free fits =
        let after = with_taken_share told t share in
        let thread : Thread = record (thread_at W t) { taken = share } in
        let same : current after t ≡ k = ap (λ stack. slice_index_or stack 0 0) (read-same (λ (x : Thread). x.stack) unmade W.threads t t thread refl) in
        record {
          some = rw same at.some;
          fits = rw (same, alike-told.opens k) fits;
          stand = ap (stand_at after) same
              ∙ elim (alike-told.stands k) [
                | inl kept ↦ kept ∙ asks-free run.program (view_of W t) (moment_of W t) what tree
                    (codes.orderly k) free is
                | inr gone ↦ gone.free
              ];
          invited = read-same (λ (x : Thread). x.invited) unmade W.threads t t thread refl ∙ at.quiet.free.invited;
          undeferred = read-same (λ (x : Thread). x.undeferred) unmade W.threads t t thread refl ∙ at.quiet.free.undeferred;
        }

  may-take : (what : Ask) (tree : Tree) (is : silent run.program (view_of W t) (moment_of W t) ≡ Asks what tree) →
      MayTake (with_taken_share (told what tree is) t (share what tree is)) t (share what tree is)
  may-take ask.Chunk tree is =
      let found = asks-chunk run.program (view_of W t) (moment_of W t) tree (codes.orderly k) is in
      let count = count_asked (items_asking W t) in
      chunk-fits (with_taken_share (told ask.Chunk tree is) t (share ask.Chunk tree is)) t count (chunk_dealt W t)
      (λ start size within. takes ask.Chunk tree is (Chunk start size) refl (record { whole = count; older = found.0; are = found.1; within = within }))
  may-take ask.Section tree is =
      let found = asks-section run.program (view_of W t) (moment_of W t) tree (codes.orderly k) is in
      let count = sections_asked (items_asking W t) in
      section-fits (with_taken_share (told ask.Section tree is) t (share ask.Section tree is)) t count tree (section_dealt W t)
      (λ codeptr. takes ask.Section tree is (Section codeptr) refl (record { whole = count; older = found.0; are = found.1 }))
  may-take (ask.LockFree id) tree is = tt

  alike-answered : (what : Ask) (tree : Tree) → silent run.program (view_of W t) (moment_of W t) ≡ Asks what tree → Alike W (answered W t what tree)
  alike-answered what tree is =
      let first = told what tree is in
      let next = with_taken_share first t (share what tree is) in
      let after = answered W t what tree in
      let heard = alike-told what tree is in
      let shared = alike-sharing first t (share what tree is) heard.codes (may-take what tree is) in
      alike-then W first after heard (alike-then first next after shared
      (alike-coded next after (world-region next (current_region W t) _ (same-head (region_at W (current_region W t)).head) (team-asks W t what))
      shared.codes (λ j. refl) (λ u. inl refl)))

  by-outcome : (outcome : Outcome) → silent run.program (view_of W t) (moment_of W t) ≡ outcome → AfterSilence (Alike W) (silence_of W t outcome)
  by-outcome (StepsTo next) is = alike-gone next is
  by-outcome (Asks what tree) is = alike-answered what tree is
  by-outcome (Occurs what tree) is = alike-same W codes
  by-outcome (Ends number) is = alike-same W codes
  by-outcome (Traps trap) is = tt
  by-outcome (Limits limit) is = tt

-- a silent step of a thread that has come to one
pub alike-step : (run : Run) (W : World) (t : ℕ) → HasReturnsOutside run.program → AreCodes W → IsMadeWorld W → AreOrderly W → arrival W t ≡ Steps →
    AfterSilence (Alike W) (silent_step run W t)
unfolding silent_step
alike-step run W t returns codes made orderly steps =
    by-outcome run W t returns codes made (subst (Arrives W t) steps (arrives W t)) (silent run.program (view_of W t) (moment_of W t)) refl
