-- The records of a run's parts: the first, which was started, and the others.
-- The parts of a run that keep what they are told: what they kept is what is recorded of the run.
use Rattle.std.proofs.Common.{◌≡◌, ℕ, ◌+◌, ◌<◌, ◌≤◌, List, [], ◌∷◌, map, length, replicate, slice_index_or, refl, sym, ap, subst, ◌∙◌, suc, arith, zero, ◌==◌, Bool, true, false, if◌then◌else◌, ◌++◌}
use Rattle.std.proofs.lemmas.List.{map-id, get_or-map, get_or-replicate, length-map, length-replicate, same_lists}
use Rattle.std.{specs.List.range_with_len, proofs.lemmas.List.FromFn.get_or-map-range_with_len, proofs.lemmas.List.FromFn.length-map-range_with_len}
use Rattle.tool_report.specs.Order.{AreFrom, AreRising}
use Rattle.omp_model.proofs.Recording.{records-by_thread}
use Rattle.run_trace.proofs.Heard.{AreBelow, places-below}
use Rattle.team_run.specs.Serving.{RunsParts, called_for, finished_by, record_of_first, served}
use Rattle.team_run.specs.Standing.{AreSilent, HearsOwn}
use Rattle.tool_api.specs.Record.{finalized}
use Rattle.ompt_cli.specs.Names.{Item, Record, StartedWith, StoresNothing, PROFILE_MASK, KeeperFor, AreKept, AreShared, Entry, EventRecord, Run, heard, heard_of, Legal, record_of, records_of, SEQ_LIMIT, mask_of, initialized, Cause}
use Rattle.ompt_cli.{specs.Reports.HasKept, specs.Reports.HasObserved, specs.declared.observing.ObservedRun.ObservedRun, specs.declared.job.Job.Job, specs.Commands.run_of, proofs.Telling.threads-are}

-- the record of part k once the run has started, and once it has ended
abbrev pub begun_at : ℕ → ℕ → ℕ → Record → Record
begun_at answer registered zero h = initialized h answer registered
begun_at answer registered (suc k) h = h

abbrev pub record_at : ℕ → ℕ → ℕ → List Item → Bool → Record → Record
record_at answer registered zero items unheard h = record_of_first answer registered items unheard h
record_at answer registered (suc k) items unheard h = called_for items unheard h

pub part-at : {P : Type 0} (stands_for : P → Record → Type 0) (serial : Bool) (run : Run) (cause : Cause) (H : List Entry) (parts others : List P) (runs : RunsParts stands_for serial run cause H parts others)
    → (k : ℕ) → k < length parts → (d : P) (h : Record) → stands_for (slice_index_or parts k d) h → stands_for (slice_index_or others k d) (record_at runs.answer runs.registered k (heard_of run H k) (runs.unheard k) h)
part-at stands_for serial run cause H parts others runs zero below d h stands = runs.first d h stands
part-at stands_for serial run cause H parts others runs (suc k) below d h stands = runs.each (suc k) (omega arith) below d h stands

-- such a record: its starts, its calls, and what it is within. Beside these it says how often the tool was finished, and found no memory
pub record IsAt (answer registered k : ℕ) (items : List Item) (h g : Record) : Type 0 where
  pub started : g.started ≡ (begun_at answer registered k h).started
  pub calls : g.calls ≡ h.calls ++ items
  pub within : g.within ≡ h.within

at-unheard : (answer registered k : ℕ) (items : List Item) (unheard : Bool) (h : Record) → IsAt answer registered (suc k) items h (called_for items unheard h)
at-unheard answer registered k items true h = record { started = refl; calls = refl; within = refl }
at-unheard answer registered k items false h = record { started = refl; calls = refl; within = refl }

at-finished : (answer : ℕ) (g : Record) → ((finished_by answer g).started ≡ g.started) × ((finished_by answer g).calls ≡ g.calls) × ((finished_by answer g).within ≡ g.within)
at-finished answer g = elim (answer == 0) as (λ b. let h = if b then g else finalized g in (h.started ≡ g.started) × (h.calls ≡ g.calls) × (h.within ≡ g.within)) [ true ↦ (refl, refl, refl) | false ↦ (refl, refl, refl) ]

pub is-at : (answer registered k : ℕ) (items : List Item) (unheard : Bool) (h : Record) → IsAt answer registered k items h (record_at answer registered k items unheard h)
is-at answer registered zero items unheard h =
    let begun : Record = initialized h answer registered in
    let called = at-unheard answer registered 0 items unheard begun in
    let ended = at-finished answer (called_for items unheard begun) in
    record { started = ended.0 ∙ called.started; calls = ended.1 ∙ called.calls; within = ended.2 ∙ called.within }
is-at answer registered (suc k) items unheard h = at-unheard answer registered k items unheard h

-- where no call went unheard: the first part, which answered 1, was finished after all its calls, and the others weren't
pub first-ended : (answer registered : ℕ) (items : List Item) (unheard : Bool) (h : Record) → answer ≡ 1 → unheard ≡ false → record_of_first answer registered items unheard h ≡ finalized (served (initialized h answer registered) items)
first-ended answer registered items unheard h one none = rw (one, none) refl

pub other-ended : (items : List Item) (unheard : Bool) (h : Record) → unheard ≡ false → called_for items unheard h ≡ served h items
other-ended items unheard h none = rw none refl

-- positions below a limit that rise from one on are from each smaller one on, and rise
from-below : (limit least from : ℕ) (events : List EventRecord) → least ≤ from → AreBelow limit from events → AreFrom least events
from-below limit least from [] less below = tt
from-below limit least from (event ∷ rest) less below = (omega (arith, less, below.0), from-below limit least (event.seq + 1) rest (omega (arith, less, below.0)) below.2)

rising-below : (limit least : ℕ) (events : List EventRecord) → AreBelow limit least events → AreRising events
rising-below limit least [] below = tt
rising-below limit least (event ∷ rest) below = (from-below limit (event.seq + 1) (event.seq + 1) rest (omega arith) below.2, rising-below limit (event.seq + 1) rest below.2)

-- no calls so far
abbrev pub nothing_called : Record
nothing_called = record { started = []; calls = []; finished = []; unheard = 0; within = [] }

-- calls of which none stored anything
pub silent-each : (items : List Item) → StoresNothing items → AreSilent items
silent-each [] all = tt
silent-each (item ∷ rest) all = (all 0 item (omega arith), silent-each rest (λ k d below. all (suc k) d (omega (arith, below))))

-- what a run's threads heard has its records between them
abbrev pub shares_of : Run → List Entry → ℕ → List (List EventRecord)
shares_of run H threads = map (λ (k : ℕ). map record_of (heard_of run H k)) (range_with_len 0 threads)

-- parts that each keep their thread's share keep the run's records
pub kept-shares : {A : Type 0} (keep : List EventRecord → A) (run : Run) (H : List Entry) (threads : ℕ) (parts : List A) → length parts ≡ threads
    → ((k : ℕ) (d : A) → k < threads → slice_index_or parts k d ≡ keep (map record_of (heard_of run H k))) → 1 ≤ run.threads → Legal run H → run.threads ≡ threads → HearsOwn run H → AreKept keep (records_of run H) parts
kept-shares {A} keep run H threads parts as_many each some legal same own =
    let share = λ (k : ℕ). map record_of (heard_of run H k) in
    let many : length (shares_of run H threads) ≡ threads = length-map-range_with_len share 0 threads in record {
      shares = shares_of run H threads;
      shared = record {
        rising = rising-below SEQ_LIMIT 0 (records_of run H) (places-below run H some legal);
        few = λ k past. records-by_thread (heard run H) k ∙ ap (λ items. map record_of items) (own k (omega (arith, past, many, same)));
        each = λ k d below. get_or-map-range_with_len share 0 threads k k d (omega (arith, below, many)) (omega arith) ∙ sym (records-by_thread (heard run H) k);
      };
      kept = same_lists parts (map keep (shares_of run H threads)) (omega (arith, as_many, length-map (shares_of run H threads) keep, many))
          (λ k d below. each k d (omega (arith, below, as_many)) ∙ ap keep (sym (get_or-map-range_with_len share 0 threads k k [] (omega (arith, below, as_many)) (omega arith)))
          ∙ sym (get_or-map keep (shares_of run H threads) k [] d (omega (arith, below, as_many, many))));
    }

-- A report of a run of parts that stand for what they keep
module _ {Table : Type 0} {Behind : Table → Type 0} {A : Type 0} (keep : List EventRecord → A) (stands : A → Record → Type 0) (into : (kept : A) (h : Record) → KeeperFor keep kept h → stands kept h) (out : (kept : A) (h : Record) → stands kept h → KeeperFor keep kept h) (Same : A → A → Type 0) (job : Job) (observed : ObservedRun A Table Behind) (has : HasObserved stands Same job (replicate job.settings.threads (keep [])) observed) where
  abbrev threads : ℕ
  threads = job.settings.threads

  abbrev heard_at : ℕ → List Item
  heard_at k = heard_of (run_of observed.report) observed.report.history k

  threads-same : observed.report.threads ≡ threads
  threads-same = threads-are job observed.report has.observes

  -- what each part has come to that was told nothing before
  abbrev after-at : ℕ → Record
  after-at k = record_at has.runs.answer has.runs.registered k (heard_at k) (has.runs.unheard k) nothing_called

  at : (k : ℕ) → IsAt has.runs.answer has.runs.registered k (heard_at k) nothing_called (after-at k)
  at k = is-at has.runs.answer has.runs.registered k (heard_at k) (has.runs.unheard k) nothing_called

  keeps-at : (k : ℕ) (d : A) → k < threads → KeeperFor keep (slice_index_or observed.parts.items k d) (after-at k)
  keeps-at k d below =
      out _ _ (part-at stands observed.report.serial (run_of observed.report) observed.report.cause observed.report.history (replicate threads (keep [])) observed.parts.items has.runs k (omega (arith, below, length-replicate threads (keep []))) d nothing_called
      (rw (get_or-replicate threads k (keep []) d below) (into (keep []) nothing_called (record { started = λ k d below. absurd (omega (arith, below)); silent = λ k d below. absurd (omega (arith, below)); events = refl; alone = refl }))))

  -- all callbacks were registered, nothing was stored, and each part keeps its share of the run's records
  pub has_kept : HasKept keep job observed
  has_kept =
      let starts = subst (λ starts. StartedWith 1 PROFILE_MASK starts) (at 0).started (keeps-at 0 (keep []) (omega (arith, job.some))).started in
      let started = starts 0 (record { answer = 0; mask = 0 }) (omega arith) in record {
        observes = has.observes;
        stays = record {
          mask_is = has.runs.mask_is ∙ ap (λ answer. mask_of answer has.runs.registered) started.0 ∙ started.1;
          silent = λ k below. silent-each (heard_at k) (subst StoresNothing (at k).calls (keeps-at k (keep []) (omega (arith, below, threads-same))).silent);
        };
        kept =
            kept-shares keep (run_of observed.report) observed.report.history threads observed.parts.items (has.runs.as_many ∙ length-replicate threads (keep []))
            (λ k d below. subst (λ calls. slice_index_or observed.parts.items k d ≡ keep (map record_of calls)) (at k).calls (keeps-at k d below).events) (omega (arith, job.some, threads-same)) has.observes.to.legal threads-same has.observes.to.own;
        printed = has.printed;
      }

-- a part that keeps all keeps its share
pub kept-shared : (events : List EventRecord) (parts : List (List EventRecord)) → AreKept (λ (events : List EventRecord). events) events parts → AreShared events parts
kept-shared events parts kept = subst (AreShared events) (sym (kept.kept ∙ map-id kept.shares)) kept.shared
