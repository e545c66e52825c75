-- One entry more of a rerun, of whatever kind.
use Rattle.std.proofs.Common.{◌≡◌, ℕ, ◌+◌, ◌<◌, ◌≤◌, Bool, true, cond, List, [], ◌∷◌, ◌++◌, length, map, Option, None, slice_index_or, refl, sym, ap, ap₂, subst, ◌∙◌, append_assoc, arith}
use Rattle.std.specs.Prelude.{filter}
use Rattle.std.proofs.lemmas.List.{length_push, map-append}
use Rattle.omp_model.specs.declared.history.Entry.{Entry}
use Rattle.omp_model.specs.Heard.{heard, heard_at, heard_from}
use Rattle.omp_model.specs.Legal.{Legal, after, after_from, entered, may}
use Rattle.omp_model.specs.State.{Run, State, first, pending_at}
use Rattle.history_file.specs.declared.verdict.HeardCall.{HeardCall}
use Rattle.history_file.specs.declared.waiting.Waiting.{Waiting}
use Rattle.history_file.specs.RerunProgress.{AreBefore, HasCome, IsWaiting, is_kept}
use Rattle.history_file.specs.Verdicts.{heard_call}

-- the same calls are kept by tests that are the same on them
pub same_filter : (p q : HeardCall → Bool) (place : ℕ) (calls : List HeardCall) → AreBefore place calls → ((call : HeardCall) → call.seq < place → p call ≡ q call) → filter p calls ≡ filter q calls
same_filter p q place [] before same = refl
same_filter p q place (call ∷ calls) before same =
    ap₂ (λ (b : Bool) (kept : List HeardCall). cond b (call ∷ kept) kept) (same call before.0) (same_filter p q place calls before.1 same)

pub before_more : (place : ℕ) (calls : List HeardCall) → AreBefore place calls → AreBefore (place + 1) calls
before_more place [] before = tt
before_more place (call ∷ calls) before = let less = before.0 in (omega arith, before_more place calls before.1)

pub before_last : (place : ℕ) (calls : List HeardCall) (call : HeardCall) → AreBefore place calls → call.seq ≡ place → AreBefore (place + 1) (calls ++ call ∷ [])
before_last place [] last before is = (omega arith, tt)
before_last place (call ∷ calls) last before is = let less = before.0 in (omega arith, before_last place calls last before.1 is)

-- the state after one entry more
after_one : (run : Run) (S : State) (done : List Entry) (entry : Entry) → after_from run S (done ++ entry ∷ []) ≡ entered run (after_from run S done) entry
after_one run S [] entry = refl
after_one run S (other ∷ done) entry = after_one run (entered run S other) done entry

module _ (run : Run) (done : List Entry) (S : State) (waiting : List (Option Waiting)) (calls : List HeardCall) (come : HasCome run done S waiting calls) where
  -- what is heard, with this entry as the first of those that follow
  heard_with : (entry : Entry) (rest : List Entry) →
      map heard_call (heard run ((done ++ entry ∷ []) ++ rest)) ≡ (filter (is_kept waiting (entry ∷ rest)) calls ++ map heard_call (heard_at run S (length done) entry.thread entry.what rest))
      ++ map heard_call (heard_from run (entered run S entry) (length (done ++ entry ∷ [])) rest)
  heard_with entry rest =
      let here = heard_at run S (length done) entry.thread entry.what rest in
      let front = filter (is_kept waiting (entry ∷ rest)) calls in
      let one_more : length done + 1 ≡ length (done ++ entry ∷ []) = sym (length_push done entry) in
      ap (λ (history : List Entry). map heard_call (heard run history)) (append_assoc done (entry ∷ []) rest)
      ∙ come.hears (entry ∷ rest)
      ∙ ap (λ (later : List HeardCall). front ++ later) (map-append heard_call here (heard_from run (entered run S entry) (length done + 1) rest))
      ∙ sym (append_assoc front (map heard_call here) (map heard_call (heard_from run (entered run S entry) (length done + 1) rest)))
      ∙ ap (λ (place : ℕ). (front ++ map heard_call here) ++ map heard_call (heard_from run (entered run S entry) place rest)) one_more

  pub one_more : (entry : Entry) (next : List (Option Waiting)) (kept : List HeardCall) → may run S entry.thread entry.what ≡ true → run.threads ≤ length next
      → ((t : ℕ) → IsWaiting run (slice_index_or next t None) (pending_at (entered run S entry) t))
      → ((rest : List Entry) → filter (is_kept waiting (entry ∷ rest)) calls ++ map heard_call (heard_at run S (length done) entry.thread entry.what rest) ≡ filter (is_kept next rest) kept)
      → AreBefore (length done + 1) kept → HasCome run (done ++ entry ∷ []) (entered run S entry) next kept
  one_more entry next kept allowed room inside hears early = record {
    room = room;
    legal = λ rest allows. subst (Legal run) (sym (append_assoc done (entry ∷ []) rest)) (come.legal (entry ∷ rest) (allowed, allows));
    back = λ rest legal. (come.back (entry ∷ rest) (subst (Legal run) (append_assoc done (entry ∷ []) rest) legal)).1;
    reached = after_one run (first run) done entry ∙ ap (λ (now : State). entered run now entry) come.reached;
    inside = inside;
    hears = λ rest. heard_with entry rest ∙ ap (λ (front : List HeardCall). front ++ map heard_call (heard_from run (entered run S entry) (length (done ++ entry ∷ [])) rest)) (hears rest);
    early = subst (λ (place : ℕ). AreBefore place kept) (sym (length_push done entry)) early;
  }
