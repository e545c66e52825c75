use Rattle.std.proofs.Common.{◌≡◌, ◌<◌, ◌∙◌, refl, sym, ap, subst, arith, inl, inr, ◌∷◌, [], ◌++◌}
use Rattle.std.proofs.lemmas.Result.{on_ok_weaker}
use Rattle.omp_model.{specs.Storing.go_at, proofs.Recording.first_enabled-enabled, proofs.Recording.first_enabled-below}
use Rattle.step_book.{specs.BookView.BookView, specs.BookView.with_entries, specs.Visit.turn_visit, proofs.Telling.HasUntold, proofs.Telling.IsAlone, proofs.Telling.told-step, proofs.Telling.quiet-step, proofs.Telling.ended-step, proofs.Telling.not_yet-step}
use Rattle.team_run.proofs.Visiting.{Visited, stops-here, stops-inside, visited-alone, visited-said, visited-untold, serves-said, serves-to, from_either}
use Rattle.team_run.{specs.Serving.Answers, proofs.Serving.same-itself}
use Rattle.team_run.proofs.serial_run.SerialRun.visit.Goals as goal

pub go_ready-requires-clause-thread : goal.go_ready-requires-clause-thread
go_ready-requires-clause-thread g c = first_enabled-below c.args.self.now.book.run _ _ _ c.requires.stands.within c.requires.turn

pub go_ready-requires-clause-enabled : goal.go_ready-requires-clause-enabled
go_ready-requires-clause-enabled g c = first_enabled-enabled c.args.self.now.book.run _ _ _ c.requires.turn

pub returns-in_err-step-clause-stops : goal.returns-in_err-step-clause-stops
returns-in_err-step-clause-stops g c = rw c.in_err-step.ensures.memory (stops-here _ _ _ c.requires.stands)

pub overflow_add-self : goal.overflow_add-self
overflow_add-self g c =
    let below : c.args.ready.thread < c.args.self.now.book.run.threads =
    first_enabled-below c.args.self.now.book.run _ _ _ c.requires.stands.within c.requires.turn in omega (arith, c.requires.stands.few)

pub serve-requires-clause-part : goal.serve-requires-clause-part
serve-requires-clause-part g c κs within =
    let below : c.args.ready.thread < c.args.self.now.book.run.threads =
    first_enabled-below c.args.self.now.book.run _ _ _ c.requires.stands.within c.requires.turn in omega (arith, c.requires.parts)

pub returns-in-Told : goal.returns-in-Told
returns-in-Told g c =
    let stands_for = g.P.ToolPart.stands_for in
    let book : BookView = c.args.self.now.book in
    let t = c.args.ready.thread in
    let parts = c.args.self.now.parts.items in
    let later = c.serve.new.self in
    let told = told-step book t c.in-Told.seq c.in-Told.call c.in-Told.snapshot (sym c.in_ok-step.ensures.step ∙ c.in-Told.is) in
    let whole : c.go_ready.new.self ≡ with_entries book (go_at t ∷ []) = c.in_ok-step.ensures.added ∙ ap (with_entries book) told.added_is in
    let same : later.book.run ≡ book.run = c.serve.ensures.run ∙ ap (λ (next : BookView). next.run) whole in
    let visited : Answers stands_for c.in-Told.seq t c.in-Told.call c.in-Told.snapshot parts c.go_ready.new.self.history later.parts.items later.book.history → Visited stands_for book.run book.history t parts later.parts.items later.book.history =
    λ answered. visited-said book.run _ book.history t c.requires.stands c.requires.turn _ _ told.is_told stands_for parts later.parts.items c.in-Told.seq told.place later.book.history
    (subst (λ (next : BookView). Answers stands_for c.in-Told.seq t c.in-Told.call c.in-Told.snapshot parts next.history later.parts.items later.book.history) whole answered) in
    record {
      run = same;
      serves = rw same (from_either c.serve.result c.serve.ensures.answers c.serve.ensures.memory
          (λ answered. serves-to _ _ _ _ (visited answered).stands stands_for _ _ (visited answered).serves)
          (λ kept. rw (kept.0, whole) (serves-said book.run _ book.history t
          c.requires.stands c.requires.turn _ _ told.is_told stands_for parts _ kept.1)));
      same = c.serve.ensures.same;
      stops = rw same (from_either c.serve.result c.serve.ensures.answers c.serve.ensures.memory
          (λ answered. stops-here _ _ _ (visited answered).stands)
          (λ kept. rw (kept.0, whole) (stops-inside book.run _ book.history t
          c.requires.stands c.requires.turn told.is_told.event told.is_told.happens)));
      stands = on_ok_weaker c.serve.result (λ answered. rw (same, c.serve.ensures.next) (visited answered).stands) c.serve.ensures.answers;
      turns = on_ok_weaker c.serve.result (λ answered. rw same (visited answered).turns) c.serve.ensures.answers;
    }

pub returns-in-Quiet : goal.returns-in-Quiet
returns-in-Quiet g c =
    let stands_for = g.P.ToolPart.stands_for in
    let book : BookView = c.args.self.now.book in
    let t = c.args.ready.thread in
    let parts = c.args.self.now.parts.items in
    let step = sym c.in_ok-step.ensures.step in
    let whole : c.go_ready.new.self ≡ with_entries book (turn_visit book t).added = c.in_ok-step.ensures.added in
    let came = Visited stands_for book.run book.history t parts parts (book.history ++ (turn_visit book t).added) in
    let alone : IsAlone book t → came = λ alone.
    rw alone.added_is (visited-alone book.run _ book.history t c.requires.stands c.requires.turn stands_for parts alone.none) in
    let untold : HasUntold book t → came = λ untold.
    rw untold.added_is (visited-untold book.run _ book.history t c.requires.stands c.requires.turn stands_for parts untold.is_untold) in
    let visited : came = elim c.in-Quiet.is [
      | inl is ↦ elim (quiet-step book t (step ∙ is)) [ inl none ↦ alone none | inr some ↦ untold some ]
      | inr other ↦ elim other [ inl not_yet ↦ absurd (not_yet-step book t (step ∙ not_yet)) | inr ended ↦ alone (ended-step book t ended.0 (step ∙ ended.1)) ]
    ] in record {
      run = rw whole refl;
      serves = rw whole (serves-to _ _ _ _ visited.stands stands_for _ _ visited.serves);
      same = same-itself g.P.ToolPart.same (g.met.P.ToolPart g.world.𝓛 g.world.𝓜 g.world.𝓡 ((λ s x. x), (λ x. x), (λ x. x), λ x. x)).same_itself parts;
      stops = rw whole (stops-here _ _ _ visited.stands);
      stands = rw whole visited.stands;
      turns = rw whole visited.turns;
    }
