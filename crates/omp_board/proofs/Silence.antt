-- A silent step: what a task's code asks fits its answer, and it is answered in the same world whether or not the task has left out what it goes past.
use Rattle.std.proofs.Common.{◌≡◌, ℕ, ℤ, ◌-◌, ◌⊎◌, inl, inr, zero, suc, ◌+◌, ◌<◌, ◌≤◌, ◌==◌, ◌&&◌, Bool, true, false, nat_le, nat_lt, if◌then◌else◌, List, [], ◌∷◌, length, slice_index_or, Option, Some, None, IfSome, refl, sym, ap, ◌∙◌, subst, arith}
use Rattle.std.proofs.lemmas.Bool.Decides.{nat_tests}
use Rattle.std.proofs.lemmas.List.{length-set}
use Rattle.c_syntax.specs.language.Tree.{nothing}
use Rattle.c_syntax.specs.language.Numbered.{TreeView, tree_at}
use Rattle.c_syntax.specs.language.Tree.{Tree}
use Rattle.c_model.specs.declared.point.Point.{Point}
use Rattle.c_model.specs.declared.question.Answer.TheVariants as answer
use Rattle.c_model.specs.declared.question.Ask.{Ask}
use Rattle.c_model.specs.declared.question.Ask.TheVariants as ask
use Rattle.c_model.specs.declared.view.View.{View}
use Rattle.c_model.specs.Answers.{AnswersFirst}
use Rattle.c_model.specs.Asked.{count_asked, sections_asked}
use Rattle.c_model.specs.Clauses.{sections_of, statements_among}
use Rattle.c_model.specs.AfterEvents.{after_answer}
use Rattle.c_model.specs.Occurring.{IsAskOf, IsAskOfNext}
use Rattle.c_model.specs.Parts.{trees_in}
use Rattle.c_model.proofs.Fitting.{Fits}
use Rattle.c_model.specs.Step.{settled_task, silent}
use Rattle.c_model.specs.Task.{Item, Moment, Outcome, Task as Code}
use Rattle.c_model.specs.Task.Item.{NextSection}
use Rattle.c_steps.specs.declared.next.Next.{Next}
use Rattle.c_steps.specs.declared.next.Next.TheVariants as next
use Rattle.c_steps.specs.ControlView.{outcome_at}
use Rattle.omp_model.specs.declared.event.Arrival.TheVariants.{Steps}
use Rattle.omp_model.specs.declared.limits.TheConstants.{IMPLICIT_REGION}
use Rattle.omp_model.specs.Gates.{arrival}
use Rattle.omp_model.specs.State.{Region, Thread, World, no_region, region_at, thread_at, unmade}
use Rattle.omp_model.specs.Members.{code_of, current, current_region, member_index, moment_of, region_of, view_of}
use Rattle.omp_model.specs.Changes.{with_masked_skipped, gone_to, with_taken_share, with_team}
use Rattle.omp_model.specs.Silent.{answer_to, answered, answered_by, chunk_dealt, fits_loop, fitting_chunk, fitting_section, items_asking, section_dealt, share_taken, silence_of, silent_step, team_after}
use Rattle.omp_model.proofs.Coming.{steps-silent}
use Rattle.omp_model.proofs.GonePast.{answered-past, code-past, gone_to-past}
use Rattle.omp_model.proofs.Later.{at-set}
use Rattle.omp_board.specs.Board.{BoardRoom, BoardView, HasTurn, run_of}
use Rattle.omp_board.proofs.ToldFree.{past_settled}
use Rattle.omp_board.proofs.Replies.{chunk_replies, lock_replies, section_replies}

-- What fits, fits.
both-so : (first second : Bool) → (first && second) ≡ true → (first ≡ true) × (second ≡ true)
both-so true second so = (refl, so)
both-so false second so = cc

fits-by : (count : ℕ) (chunk : ℕ × ℕ) (so : Bool) → fits_loop count chunk ≡ so → IfSome (if so then Some chunk else None) (λ (chunk : ℕ × ℕ). (0 < chunk.1) × (chunk.0 + chunk.1 ≤ count))
fits-by count chunk true so =
    let both = both-so (nat_lt 0 chunk.1) (nat_le (chunk.0 + chunk.1) count) so in
    let some = both.0 in
    let within = both.1 in
    (grind (arith, nat_tests), grind (arith, nat_tests))
fits-by count chunk false so = tt

chunk-fits : (count : ℕ) (dealt : Option (ℕ × ℕ)) → IfSome (fitting_chunk count dealt) (λ (chunk : ℕ × ℕ). (0 < chunk.1) × (chunk.0 + chunk.1 ≤ count))
chunk-fits count None = tt
chunk-fits count (Some chunk) = fits-by count chunk (fits_loop count chunk) refl

section-by : (count section : ℕ) (so : Bool) → nat_lt section count ≡ so → IfSome (if so then Some section else None) (λ (section : ℕ). section < count)
section-by count section true so = grind (arith, nat_tests)
section-by count section false so = tt

section-fits : (count : ℕ) (dealt : Option ℕ) → IfSome (fitting_section count dealt) (λ (section : ℕ). section < count)
section-fits count None = tt
section-fits count (Some section) = section-by count section (nat_lt section count) refl

-- where a construct with a section asks, it is one of the program's
no-sections : (tree : Tree) → tree ≡ nothing → length (sections_of tree) ≡ 0
unfolding trees_in statements_among
no-sections tree none = ap (λ (tree : Tree). length (sections_of tree)) none

there : (trees : List Tree) (node : ℕ) → 0 < length (sections_of (tree_at trees node)) → node < length trees
there [] node some = absurd (omega (arith, no-sections nothing refl))
there (tree ∷ trees) zero some = omega arith
there (tree ∷ trees) (suc node) some = omega (arith, there trees node some)

asked-of : (tree : Tree) (items : List Item) → IsAskOfNext ask.Section tree items → sections_asked items ≡ length (sections_of tree)
unfolding IsAskOfNext IsAskOf
asked-of tree [] is = absurd is
asked-of tree (NextSection construct names ∷ items) is = ap (λ (tree : Tree). length (sections_of tree)) (sym is)
asked-of tree (other ∷ items) is = absurd is

module _ (W : World) (t : ℕ) (settled : settled_task (view_of W t) (code_of W t) ≡ code_of W t) (tree : Tree) where
  abbrev items : List Item
  items = (code_of W t).todo

  same : items_asking W t ≡ items
  same i = (settled i).todo

  -- the answer fits what is asked
  pub reply_fits : (what : Ask) → IsAskOfNext what tree items → AnswersFirst items (answer_to W t what)
  reply_fits ask.Chunk is =
      subst (λ (asking : List Item). AnswersFirst items (answer.Chunk (fitting_chunk (count_asked asking) (chunk_dealt W t)))) (sym same)
      (chunk_replies items tree (fitting_chunk (count_asked items) (chunk_dealt W t)) is (chunk-fits (count_asked items) (chunk_dealt W t)))
  reply_fits ask.Section is =
      subst (λ (asking : List Item). AnswersFirst items (answer.Section (fitting_section (sections_asked asking) (section_dealt W t)))) (sym same)
      (section_replies items tree (fitting_section (sections_asked items) (section_dealt W t)) is (section-fits (sections_asked items) (section_dealt W t)))
  reply_fits (ask.LockFree id) is = lock_replies items tree id _ is

module _ (program : TreeView) (W : World) (t node : ℕ) (settled : settled_task (view_of W t) (code_of W t) ≡ code_of W t) where
  pub construct_there : (what : Ask) → IsAskOfNext what (tree_at program.trees node) (code_of W t).todo → (section : ℕ) → answer_to W t what ≡ answer.Section (Some section) → node < length program.trees
  construct_there ask.Chunk is section given = cc
  construct_there ask.Section is section given =
      let tree = tree_at program.trees node in
      let dealt : fitting_section (sections_asked (items_asking W t)) (section_dealt W t) ≡ Some section = cc in
      let fits = subst (λ (found : Option ℕ). IfSome found (λ (section : ℕ). section < sections_asked (items_asking W t))) dealt (section-fits (sections_asked (items_asking W t)) (section_dealt W t)) in
      let asked : sections_asked (items_asking W t) ≡ length (sections_of tree) = ap sections_asked (same W t settled tree) ∙ asked-of tree (code_of W t).todo is in
      there program.trees node (omega (arith, fits, asked))
  construct_there (ask.LockFree id) is section given = cc

-- Where a silent step stands next there is no event, and not the end of the code.
abbrev pub IsOther : Next → Type 0
IsOther (next.Event point node) = Unit {0}
IsOther (next.Ended number) = Unit {0}
IsOther other = ⊥

pub is_other : (found : Next) → ((point : Point) × (node : ℕ) × found ≡ next.Event point node) ⊎ ((number : ℤ) × found ≡ next.Ended number) → IsOther found
is_other found (inl (point, node, is)) = subst IsOther (sym is) tt
is_other found (inr (number, is)) = subst IsOther (sym is) tt

no-event : (program : TreeView) (found : Next) (now : Moment) → Fits (outcome_at program found now) false → IsOther found → ⊥
unfolding Fits
no-event program next.Quiet now fits other = other
no-event program (next.Ask asked node) now fits other = other
no-event program (next.Event point node) now fits other = fits
no-event program (next.Ended number) now fits other = fits
no-event program (next.Trap trap) now fits other = other
no-event program (next.Limit limit) now fits other = other

module _ (program : TreeView) (W : World) (t : ℕ) (view : View) (sees : view ≡ view_of W t) (found : Next) (now : Moment) (comes : outcome_at program found now ≡ silent program view (moment_of W t)) where
  comes-to : outcome_at program found now ≡ silent program (view_of W t) (moment_of W t)
  comes-to = comes ∙ ap (λ (view : View). silent program view (moment_of W t)) sees

  -- what the step comes to is what the code's step comes to
  pub silent_by : silent_step (run_of program) W t ≡ silence_of W t (outcome_at program found now)
  unfolding silent_step
  silent_by = ap (silence_of W t) (sym comes-to)

  pub no_event : arrival W t ≡ Steps → IsOther found → ⊥
  no_event steps other = no-event program found now (subst (λ (outcome : Outcome). Fits outcome false) (sym comes-to) (steps-silent W t program steps)) other

module _ (W : World) (t : ℕ) where
  items-past : items_asking (with_masked_skipped W t) t ≡ items_asking W t
  items-past = ap (λ (code : Code). code.todo) (past_settled W t ∙ code-past W t)

  answer-past : (what : Ask) → answer_to (with_masked_skipped W t) t what ≡ answer_to W t what
  answer-past ask.Chunk = ap (λ (items : List Item). answer.Chunk (fitting_chunk (count_asked items) (chunk_dealt W t))) items-past
  answer-past ask.Section = ap (λ (items : List Item). answer.Section (fitting_section (sections_asked items) (section_dealt W t))) items-past
  answer-past (ask.LockFree id) = refl

  module _ (what : Ask) (tree : Tree) where
    -- what is asked is answered the same, whether or not the task has left out what it goes past
    answered-again : answered (with_masked_skipped W t) t what tree ≡ answered W t what tree
    answered-again =
        let given = answer_to W t what in
        ap (answered_by (with_masked_skipped W t) t what tree) (answer-past what)
        ∙ ap (λ (now : World). with_team (with_taken_share now t (share_taken tree given)) (current_region W t) (team_after W t what))
        (ap (gone_to (with_masked_skipped W t) (current W t)) (answered-past W t given) ∙ gone_to-past W t (after_answer (view_of W t) given (moment_of W t)))

    abbrev after : World
    after = answered W t what tree

    same-head : (r : ℕ) → (region_at after r).head ≡ (region_at W r).head
    same-head r = at-set (λ (region : Region). region.head ≡ (region_at W r).head) no_region W.regions (current_region W t) r _ refl (λ is. ap (λ k. (region_at W k).head) (sym is))

    same-current : current after t ≡ current W t
    same-current =
        ap (λ (stack : List ℕ). slice_index_or stack 0 0)
        (at-set (λ (thread : Thread). thread.stack ≡ (thread_at W t).stack) unmade W.threads t t _ refl (λ is. refl))

    -- the thread's code sees the same
    view-answered : view_of after t ≡ view_of W t
    view-answered =
        let r = current_region W t in
        let at : View = record { index = member_index after t r; team = (region_at after r).head.size; max = length after.threads } in
        let first : view_of after t ≡ at = ap (λ k. record { index = member_index after t (region_of W k); team = (region_at after (region_of W k)).head.size; max = length after.threads }) same-current in
        first ∙ (λ i. record { index = if region_of W (same-head r i).task == IMPLICIT_REGION then t else 0; team = (same-head r i).size; max = length-set W.threads t (record (thread_at W t) { taken = share_taken tree (answer_to W t what) }) i })

    -- there is room for its turn
    turn-answered : (room : BoardRoom) → HasTurn room W t → HasTurn room after t
    turn-answered room has = record { of_task = has.of_task ∙ sym same-current; of_region = has.of_region ∙ ap (region_of W) (sym same-current) }

-- a board on which the thread's task has gone past what it goes past, and then what it asked was answered
module _ (old between new : BoardView) (t node : ℕ) (what : Ask) (past : between ≡ record old { world = with_masked_skipped old.world t }) (gave : new ≡ record between { world = answered between.world t what (tree_at between.program.trees node); room = record between.room { steps = between.room.steps - 1 } }) where
  abbrev replied : BoardView
  replied = record old { world = answered old.world t what (tree_at old.program.trees node); room = record old.room { steps = old.room.steps - 1 } }

  is-replied : new ≡ replied
  is-replied =
      gave
      ∙ ap (λ (board : BoardView). record board { world = answered board.world t what (tree_at board.program.trees node); room = record board.room { steps = board.room.steps - 1 } }) past
      ∙ ap (λ (world : World). record replied { world = world }) (answered-again old.world t what (tree_at old.program.trees node))

  pub world_replied : answered old.world t what (tree_at old.program.trees node) ≡ new.world
  world_replied = ap (λ (board : BoardView). board.world) (sym is-replied)

  pub turn_replied : HasTurn old.room old.world t → HasTurn new.room new.world t
  turn_replied has =
      subst (λ (board : BoardView). HasTurn board.room board.world t) (sym is-replied)
      (turn-answered old.world t what (tree_at old.program.trees node) (record old.room { steps = old.room.steps - 1 }) (record { of_task = has.of_task; of_region = has.of_region }))

  pub view_replied : view_of old.world t ≡ view_of new.world t
  view_replied = sym (view-answered old.world t what (tree_at old.program.trees node)) ∙ ap (λ (world : World). view_of world t) world_replied
