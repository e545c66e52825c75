-- Guests beside profiles: what they stand for after a run, and what the profiles have counted.
use Rattle.std.proofs.Common.{◌≡◌, ◌≢◌, ℕ, zero, suc, ◌<◌, ◌≤◌, ◌++◌, ◌||◌, Bool, List, [], ◌∷◌, bit_or, length, map, slice_index_or, refl, sym, ap, subst, ◌∙◌, arith}
use Rattle.std.proofs.lemmas.List.{get_or-map, length-map, nil_from_length}
use Rattle.omp_model.specs.declared.cause.Cause.TheVariants as causes
use Rattle.tool_api.specs.declared.handed.Handed.TheVariants as held
use Rattle.tool_api.specs.{Record.Start, Handed.handed-onward}
use Rattle.tool_both.specs.{declared.masks.Masks.Masks, Tools.fresh_both}
use Rattle.tool_profiled.specs.Joining.{AreJoined, Profiled, nothing_counted, part_in, profile_in}
use Rattle.tool_profiled.proofs.Hearing.{first-heard, with_mark, other-heard, other-hears, other-started, part-silent, part-started, profile-counts, run-answer, run-mask, nothing_said}
use Rattle.tool_profiled.proofs.Standing.{each-unsaid, first-is, first-marked, other-is, other-marked}
use Rattle.tool_profiled.proofs.Union.{in-union}
use Rattle.team_run.specs.{Serving.AreSame, Serving.RunsParts, Standing.AreSilent, Standing.HearsOwn}
use Rattle.ompt_cli.specs.Names.{is_registered, PROFILE_MASK, IsUncalled, Record, StoresNothing, initialized, mask_of, Handed, Cause, Entry, Run, heard_of, Legal, record_of, records_of, counts_of, AreKept, HasHeard, HasStarted, ProfiledFor, SameProfiled}
use Rattle.ompt_cli.proofs.Keeping.{IsAt, begun_at, first-ended, is-at, other-ended, part-at, record_at, kept-shares, nothing_called, silent-each}
use Rattle.ompt_cli.proofs.Handing.{For, IsAgain, SamePart, again, fresh-quiet, guest-at, none-in, none-out}
use Rattle.ompt_cli.specs.Guests.{GuestsJoin, HandOut, ComesTo, guests_of}

uncalled : IsUncalled nothing_called
uncalled = record { started = refl; calls = refl; finished = refl; unheard = refl }

module _ {G : Type 0} {B : Type 0} (box : G → B) (stands : B → Record → Type 0) (Same : B → B → Type 0) (serial : Bool) (run : Run) (cause : Cause) (H : List Entry) (p : Handed G) (ps : List (Handed G)) (masks : Masks) (e : Profiled (Handed G)) (joined others : List (Profiled (Handed G))) (each : length (p ∷ ps) ≡ run.threads) (joins : AreJoined (For box stands Same) (SamePart box stands Same) (p ∷ ps) masks joined) (runs : RunsParts (ProfiledFor (For box stands Same)) serial run cause H joined others) where
  -- what each part stands for, and that it stays what it is
  abbrev PartFor : Handed G → Record → Type 0
  PartFor part h = For box stands Same part h

  abbrev IsSame : Handed G → Handed G → Type 0
  IsSame part other = SamePart box stands Same part other

  asked-many : length joined ≡ length (p ∷ ps)
  asked-many = joins.as_many

  many : length others ≡ run.threads
  many = runs.as_many ∙ joins.as_many ∙ each

  -- a record of what is joined before the run, and that of part k after it
  abbrev before : Record → Record
  before g = fresh_both masks g nothing_counted

  abbrev after-at : ℕ → Record → Record
  after-at k g = record_at runs.answer runs.registered k (heard_of run H k) (runs.unheard k) (before g)

  at : (k : ℕ) (g : Record) → IsAt runs.answer runs.registered k (heard_of run H k) (before g) (after-at k g)
  at k g = is-at runs.answer runs.registered k (heard_of run H k) (runs.unheard k) (before g)

  part : (k : ℕ) → k < run.threads → (g : Record) → ProfiledFor PartFor (slice_index_or joined k e) (before g) → ProfiledFor PartFor (slice_index_or others k e) (after-at k g)
  part k below g for = part-at (ProfiledFor PartFor) serial run cause H joined others runs k (omega (arith, below, asked-many, each)) e (before g) for

  -- nothing is said of the guests: what the run has registered, and what the profiles have counted
  unsaid : (k : ℕ) → k < run.threads → ProfiledFor PartFor (slice_index_or others k e) (after-at k nothing_said)
  unsaid k below = part k below nothing_said (each-unsaid PartFor IsSame p ps masks joined joins k (omega (arith, below, asked-many, each)) e)

  answers-one : runs.answer ≡ 1
  answers-one =
      run-answer PartFor masks (slice_index_or others 0 e) (after-at 0 nothing_said) (unsaid 0 (omega (arith, each))) nothing_said.started (at 0 nothing_said).within (joins.was_asked p).profile_answer
      runs.answer runs.registered (at 0 nothing_said).started

  mask-union : run.mask ≡ bit_or masks.first PROFILE_MASK
  mask-union =
      runs.mask_is ∙ run-mask PartFor masks (slice_index_or others 0 e) (after-at 0 nothing_said) (unsaid 0 (omega (arith, each))) nothing_said.started (at 0 nothing_said).within (joins.was_asked p).profile_mask (joins.was_asked p).profile_answer
      runs.answer runs.registered (at 0 nothing_said).started

  pub joint-mask : (number : ℕ) → is_registered run.mask number ≡ (is_registered (mask_of masks.first_answer (joins.was_asked p).registered) number || is_registered PROFILE_MASK number)
  joint-mask number =
      ap (λ (mask : ℕ). is_registered mask number) (mask-union ∙ ap (λ (mask : ℕ). bit_or mask PROFILE_MASK) (joins.was_asked p).mask_is) ∙ in-union (mask_of masks.first_answer (joins.was_asked p).registered) PROFILE_MASK number

  counts-at : (k : ℕ) → k < run.threads → profile_in (slice_index_or others k e) ≡ counts_of (map record_of (heard_of run H k))
  counts-at k below =
      profile-counts PartFor masks (slice_index_or others k e) (after-at k nothing_said) (unsaid k below) nothing_said.started (at k nothing_said).within (joins.was_asked p).profile_mask (heard_of run H k) (at k nothing_said).calls

  pub profiles-kept : Legal run H → HearsOwn run H → AreKept counts_of (records_of run H) (map profile_in others)
  profiles-kept legal own =
      kept-shares counts_of run H run.threads (map profile_in others) (length-map others profile_in ∙ many)
      (λ k d below. get_or-map profile_in others k e d (omega (arith, below, many)) ∙ counts-at k below) (omega (arith, each)) legal refl own

  -- the parts after the run: as many, and each what it was
  part-is : (k : ℕ) (d : Handed G) → k < run.threads → slice_index_or (map part_in others) k d ≡ part_in (slice_index_or others k e)
  part-is k d below = get_or-map part_in others k e d (omega (arith, below, many))

  parts-many : length (map part_in others) ≡ length (p ∷ ps)
  parts-many = length-map others part_in ∙ many ∙ sym each

  module _ (itself : (guest : B) → Same guest guest) (onward : (first second third : B) → Same first second → Same second third → Same first third) (kinds : AreSame (SameProfiled (SamePart box stands Same)) joined others) where
    same-part : (k : ℕ) (d : Handed G) → k < length (p ∷ ps) → IsSame (slice_index_or (p ∷ ps) k d) (part_in (slice_index_or others k e))
    same-part zero d below =
        handed-onward (λ (guest other : G). Same (box guest) (box other)) (λ first second third. onward (box first) (box second) (box third)) p joins.asked (part_in (slice_index_or others 0 e))
        (joins.was_asked p).same
        (subst (λ (part : Handed G). IsSame part (part_in (slice_index_or others 0 e))) (first-is PartFor IsSame p ps masks joined joins e) (kinds.each 0 e (omega (arith, asked-many))))
    same-part (suc k) d below =
        subst (λ (part : Handed G). IsSame part (part_in (slice_index_or others (suc k) e))) (other-is PartFor IsSame p ps masks joined joins k d e (omega (arith, below)))
        (kinds.each (suc k) e (omega (arith, below, asked-many)))

    same-parts : AreSame IsSame (p ∷ ps) (map part_in others)
    same-parts = record { each = λ k d below. subst (λ (part : Handed G). IsSame (slice_index_or (p ∷ ps) k d) part) (sym (part-is k d (omega (arith, below, each)))) (same-part k d below) }

    module _ (guests : List B) (rest : List B) (out : HandOut box guests (p ∷ ps) rest) where
      -- the guests after the run
      abbrev after : List B
      after = guests_of box (map part_in others) ++ rest

      back : IsAgain box stands Same guests (p ∷ ps) (map part_in others) rest
      back = again box stands Same itself guests (p ∷ ps) (map part_in others) rest out parts-many same-parts

      -- a guest stands for what its part does
      guest-out : (k : ℕ) (d : B) → k < run.threads → k < length guests → (h : Record) → PartFor (part_in (slice_index_or others k e)) h → stands (slice_index_or after k d) h
      guest-out k d below more h for =
          (guest-at box stands Same after (map part_in others) rest back.out k d p h (omega (arith, below, each, parts-many)) (omega (arith, more, back.as_many))).1
          (subst (λ (part : Handed G). PartFor part h) (sym (part-is k p below)) for)

      -- the start of guest 0, and of the others none
      abbrev start : Start
      start = record { answer = masks.first_answer; mask = (joins.was_asked p).registered }

      abbrev starts_at : ℕ → List Start
      starts_at zero = start ∷ []
      starts_at (suc k) = []

      abbrev active_at : ℕ → ℕ
      active_at zero = masks.first_answer
      active_at (suc k) = 0

      abbrev marked : ℕ → Record → Record
      marked k h = with_mark (begun_at masks.first_answer (joins.was_asked p).registered k h)

      marks-at : (k : ℕ) (h : Record) → IsUncalled h → (marked k h).started ≡ record { answer = 1; mask = 0 } ∷ starts_at k
      marks-at zero h fresh = ap (λ (starts : List Start). record { answer = 1; mask = 0 } ∷ (starts ++ start ∷ [])) fresh.started
      marks-at (suc k) h fresh = ap (λ (starts : List Start). record { answer = 1; mask = 0 } ∷ starts) fresh.started

      marked-at : (k : ℕ) → k < run.threads → (h : Record) → IsUncalled h → PartFor (slice_index_or (p ∷ ps) k p) h → ProfiledFor PartFor (slice_index_or others k e) (after-at k (marked k h))
      marked-at zero below h fresh for = part 0 below (marked 0 h) (first-marked PartFor IsSame p ps masks joined joins h fresh for e)
      marked-at (suc k) below h fresh for = part (suc k) below (marked (suc k) h) (other-marked PartFor IsSame p ps masks joined joins k (omega (arith, below, each)) h fresh p for e)

      of-guest : (k : ℕ) → k < run.threads → k < length guests → (d : B) (h : Record) → IsUncalled h → stands (slice_index_or guests k d) h → ProfiledFor PartFor (slice_index_or others k e) (after-at k (marked k h))
      of-guest k below more d h fresh for = marked-at k below h fresh ((guest-at box stands Same guests (p ∷ ps) rest out k d p h (omega (arith, below, each)) more).0 for)

      guest-begun : (k : ℕ) → k < run.threads → k < length guests → ComesTo stands guests after k (λ (guest : B). HasStarted stands guest (starts_at k))
      guest-begun k below more d h fresh for =
          other-started PartFor stands (part_in (slice_index_or others k e)) (slice_index_or after k d) (starts_at k) (guest-out k d below more)
          (part-started PartFor masks (slice_index_or others k e) (after-at k (marked k h)) (of-guest k below more d h fresh for) (marked k h).started (at k (marked k h)).within (starts_at k) (marks-at k h fresh))

      heard-at : cause ≢ causes.Memory → (k : ℕ) → k < run.threads → (h : Record) → IsUncalled h → ProfiledFor PartFor (slice_index_or others k e) (after-at k (marked k h))
          → HasHeard PartFor (part_in (slice_index_or others k e)) (starts_at k) (active_at k) masks.first (heard_of run H k)
      heard-at found zero below h fresh for =
          let ended = first-ended runs.answer runs.registered (heard_of run H 0) (runs.unheard 0) (before (marked 0 h)) answers-one (runs.all_heard found 0 below) in
          first-heard PartFor masks (slice_index_or others 0 e) (after-at 0 (marked 0 h)) for (marked 0 h).started (at 0 (marked 0 h)).within (joins.was_asked p).profile_mask
          (ap (λ (h : Record). h.unheard) ended) (heard_of run H 0) (at 0 (marked 0 h)).calls (ap (λ (h : Record). h.finished) ended) (start ∷ []) (marks-at 0 h fresh)
      heard-at found (suc k) below h fresh for =
          let ended = other-ended (heard_of run H (suc k)) (runs.unheard (suc k)) (before (marked (suc k) h)) (runs.all_heard found (suc k) below) in
          other-heard PartFor masks (slice_index_or others (suc k) e) (after-at (suc k) (marked (suc k) h)) for (marked (suc k) h).started (at (suc k) (marked (suc k) h)).within (joins.was_asked p).profile_mask
          (ap (λ (h : Record). h.unheard) ended) (heard_of run H (suc k)) (at (suc k) (marked (suc k) h)).calls (ap (λ (h : Record). h.finished) ended) [] (marks-at (suc k) h fresh)

      guest-heard : cause ≢ causes.Memory → (k : ℕ) → k < run.threads → k < length guests
          → ComesTo stands guests after k (λ (guest : B). HasHeard stands guest (starts_at k) (active_at k) (mask_of masks.first_answer (joins.was_asked p).registered) (heard_of run H k))
      guest-heard found k below more d h fresh for =
          subst (λ (mask : ℕ). HasHeard stands (slice_index_or after k d) (starts_at k) (active_at k) mask (heard_of run H k)) (joins.was_asked p).mask_is
          (other-hears PartFor stands (part_in (slice_index_or others k e)) (slice_index_or after k d) (starts_at k) (active_at k) masks.first (heard_of run H k) (guest-out k d below more)
          (heard-at found k below h fresh (of-guest k below more d h fresh for)))

      -- nothing is stored on a thread without a guest
      without-guest : (k : ℕ) → length guests ≤ k → k < run.threads → AreSilent (heard_of run H k)
      without-guest k past below =
          let for = marked-at k below nothing_called uncalled (none-in box stands Same guests (p ∷ ps) rest out k p past (omega (arith, below, each))) in
          let stored : (h : Record) → PartFor (part_in (slice_index_or others k e)) h → StoresNothing h.calls =
          λ h for. none-out box stands Same after (map part_in others) rest back.out k p h (omega (arith, past, back.as_many)) (omega (arith, below, each, parts-many)) (subst (λ (part : Handed G). PartFor part h) (sym (part-is k p below)) for) in
          silent-each (heard_of run H k)
          (part-silent PartFor masks (slice_index_or others k e) (after-at k (marked k nothing_called)) for (marked k nothing_called).started (at k (marked k nothing_called)).within
          stored (heard_of run H k) (at k (marked k nothing_called)).calls (starts_at k) (marks-at k nothing_called uncalled))

      -- a part without a guest answers 0
      nobody-answers : (part asked : Handed G) → HandOut box [] (part ∷ ps) rest → IsSame part asked → (answer registered : ℕ) → ((h : Record) → PartFor part h → PartFor asked (initialized h answer registered)) → answer ≡ 0
      nobody-answers (held.Guest guest) asked given same answer registered starts = absurd given
      nobody-answers (held.Quiet quiet) (held.Guest other) given same answer registered starts = absurd same
      nobody-answers (held.Quiet quiet) (held.Quiet other) given same answer registered starts =
          ((starts nothing_called (fresh-quiet box stands Same quiet)).started 0 (record { answer = answer; mask = registered }) (omega arith)).0

      pub guests-join : GuestsJoin stands Same run cause H guests after
      guests-join = record {
        as_many = back.as_many;
        answer = masks.first_answer;
        registered = (joins.was_asked p).registered;
        mask_is = joint-mask;
        nobody = λ none. nobody-answers p joins.asked (subst (λ (list : List B). HandOut box list (p ∷ ps) rest) (nil_from_length guests none) out) (joins.was_asked p).same
            masks.first_answer (joins.was_asked p).registered (joins.was_asked p).starts;
        begun = guest-begun 0 (omega (arith, each));
        unbegun = elim [ zero ↦ λ some. absurd (omega (arith, some)) | suc k ↦ λ some. guest-begun (suc k) ];
        first = λ found. guest-heard found 0 (omega (arith, each));
        others = λ found. elim [ zero ↦ λ some. absurd (omega (arith, some)) | suc k ↦ λ some. guest-heard found (suc k) ];
        rest = λ k d past. back.past k d (omega (arith, past, each));
        same_types = back.same;
        guestless = without-guest;
      }

-- The same of all parts together: guests that were joined with profiles, where each thread has a part
module _ {G : Type 0} {B : Type 0} (box : G → B) (stands : B → Record → Type 0) (Same : B → B → Type 0) (serial : Bool) (run : Run) (cause : Cause) (H : List Entry) (some : 1 ≤ run.threads) (masks : Masks) where
  pub guests_beside : ((guest : B) → Same guest guest) → ((first second third : B) → Same first second → Same second third → Same first third) → (guests : List B) (rest : List B) (parts : List (Handed G)) (joined others : List (Profiled (Handed G)))
      → length parts ≡ run.threads → HandOut box guests parts rest → AreJoined (For box stands Same) (SamePart box stands Same) parts masks joined → RunsParts (ProfiledFor (For box stands Same)) serial run cause H joined others
      → AreSame (SameProfiled (SamePart box stands Same)) joined others → GuestsJoin stands Same run cause H guests (guests_of box (map part_in others) ++ rest)
  guests_beside itself onward guests rest [] joined others each out joins runs kinds = absurd (omega (arith, some, each))
  guests_beside itself onward guests rest (p ∷ ps) [] others each out joins runs kinds = absurd (omega (arith, joins.as_many))
  guests_beside itself onward guests rest (p ∷ ps) (j ∷ js) others each out joins runs kinds = guests-join box stands Same serial run cause H p ps masks j (j ∷ js) others each joins runs itself onward kinds guests rest out

  pub profiles_beside : (parts : List (Handed G)) (joined others : List (Profiled (Handed G))) → length parts ≡ run.threads → AreJoined (For box stands Same) (SamePart box stands Same) parts masks joined
      → RunsParts (ProfiledFor (For box stands Same)) serial run cause H joined others → Legal run H → HearsOwn run H → AreKept counts_of (records_of run H) (map profile_in others)
  profiles_beside [] joined others each joins runs legal own = absurd (omega (arith, some, each))
  profiles_beside (p ∷ ps) [] others each joins runs legal own = absurd (omega (arith, joins.as_many))
  profiles_beside (p ∷ ps) (j ∷ js) others each joins runs legal own = profiles-kept box stands Same serial run cause H p ps masks j (j ∷ js) others each joins runs legal own
