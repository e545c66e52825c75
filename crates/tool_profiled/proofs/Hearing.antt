-- What a part and the profile beside it have heard after a run.
use Rattle.std.proofs.Common.{◌≡◌, ℕ, suc, Bool, true, false, List, [], ◌∷◌, bit_or, length, map, slice_index_or, inl, inr, refl, sym, ap, subst, ◌∙◌, arith}
use Rattle.std.proofs.lemmas.Bool.{cases_Bool}
use Rattle.std.specs.List.{filter}
use Rattle.std.proofs.Math.Seq.{take-length}
use Rattle.ompt_calls.specs.Item.{Item}
use Rattle.ompt_calls.specs.Number.{is_registered, number_of}
use Rattle.ompt_calls.specs.declared.call.Call.{Call}
use Rattle.ompt_calls.specs.declared.call.Call.TheVariants.{ThreadEnd}
use Rattle.ompt_calls.specs.declared.event.EventRecord.{EventRecord}
use Rattle.omp_codes.specs.declared.callbacks.TheConstants.{PROFILE_MASK}
use Rattle.tool_api.specs.Record.{Record, Start, StoresNothing}
use Rattle.tool_api.specs.Registering.{mask_of}
use Rattle.tool_both.specs.declared.masks.Masks.{Masks}
use Rattle.omp_model.specs.Records.{record_of}
use Rattle.tool_both.specs.Joined.{AreOwn, FinishedAs, IsHeard, IsSplit, bare, counts_at, hears, starts_of}
use Rattle.tool_both.specs.Tools.{IsUnheard, fresh_both}
use Rattle.tool_both.proofs.Splits.{counted, own_of_split}
use Rattle.tool_report.specs.Counts.{counts_of}
use Rattle.tool_profiled.specs.Asking.{MarkedBy}
use Rattle.tool_profiled.specs.Hearing.{HasHeard, HasStarted, finished_at}
use Rattle.tool_profiled.specs.Joining.{IsFresh, Profiled, ProfiledFor, nothing_counted, part_in, profile_in}
use Rattle.tool_profiled.proofs.Silence.{silent-heard}
use Rattle.tool_profiled.proofs.Union.{both-answer, union-mask}

-- a record with a mark by which something is said of the part, and one by which nothing is
abbrev pub with_mark : Record → Record
with_mark h = record h { started = record { answer = 1; mask = 0 } ∷ h.started }

abbrev pub nothing_said : Record
nothing_said = record nothing_counted { started = record { answer = 0; mask = 0 } ∷ [] }

-- what is joined stands for such a record of its part, and for the other one anyway
pub fresh-marked : {P : Type 0} (part_for : P → Record → Type 0) (masks : Masks) (both : Profiled P) → IsFresh part_for masks both → (h : Record) → IsUnheard h → part_for (part_in both) h
    → ProfiledFor part_for both (fresh_both masks (with_mark h) nothing_counted)
fresh-marked part_for masks both fresh h unheard for =
    fresh (with_mark h) (record { calls = unheard.calls; finished = unheard.finished; unheard = unheard.unheard }) for

pub fresh-unsaid : {P : Type 0} (part_for : P → Record → Type 0) (masks : Masks) (both : Profiled P) → IsFresh part_for masks both → ProfiledFor part_for both (fresh_both masks nothing_said nothing_counted)
fresh-unsaid part_for masks both fresh = fresh nothing_said (record { calls = refl; finished = refl; unheard = refl }) tt

-- a start, where there is none
none : Start
none = record { answer = 0; mask = 0 }

-- each call is of the profile
in-profile : (call : Call) → is_registered PROFILE_MASK (number_of call) ≡ true
in-profile (ThreadEnd thread) = refl
in-profile call = refl

all-in-profile : (items : List Item) → filter (hears PROFILE_MASK) items ≡ items
all-in-profile [] = refl
all-in-profile (item ∷ items) = rw (in-profile item.call) (ap (λ (rest : List Item). item ∷ rest) (all-in-profile items))

-- the records of items don't tell of stores
bare-records : (items : List Item) → map record_of (map bare items) ≡ map record_of items
bare-records [] = refl
bare-records (item ∷ items) = ap (λ (rest : List EventRecord). record_of item ∷ rest) (bare-records items)

-- so they are the same for a tool that has registered the profile
same-records : (calls items : List Item) → AreOwn PROFILE_MASK calls items → map record_of calls ≡ map record_of items
same-records calls items own =
    let same : map bare calls ≡ map bare items = own ∙ ap (map bare) (all-in-profile items) in
    sym (bare-records calls) ∙ ap (map record_of) same ∙ bare-records items

-- the second of two tools has heard of its own, whether the first heard of one more or not
second-of : (whole : Bool) (m n : ℕ) (items first second : List Item) → IsHeard whole m n items first second → AreOwn n second items
second-of true m n items first second heard = (own_of_split m n items first second heard).1
second-of false m n items first second heard = (own_of_split m n items heard.0 second heard.3).1

-- a tool that is active is finished after all its calls, where both were finished after all, and never where both never were
ended-once : (answer mask : ℕ) (whole : Bool) (h : Record) (finished : List ℕ) (calls : List Item) → whole ≡ true → h.finished ≡ length h.calls ∷ [] → length calls ≡ length (filter (hears mask) h.calls)
    → FinishedAs answer mask whole h finished → finished ≡ finished_at answer calls
ended-once Prim.Native.Nat.zero mask whole h finished calls kept once counts is = is
ended-once (suc answer) mask whole h finished calls kept once counts is =
    is.1 kept ∙ ap (counts_at mask h.calls) once ∙ ap (λ (n : ℕ). n ∷ []) (ap (λ (items : List Item). length (filter (hears mask) items)) (take-length h.calls) ∙ sym counts)

ended-never : (answer mask : ℕ) (whole : Bool) (h : Record) (finished : List ℕ) → whole ≡ true → h.finished ≡ [] → FinishedAs answer mask whole h finished → finished ≡ []
ended-never Prim.Native.Nat.zero mask whole h finished kept never is = is
ended-never (suc answer) mask whole h finished kept never is = is.1 kept ∙ ap (counts_at mask h.calls) never

module _ {P : Type 0} (part_for : P → Record → Type 0) (masks : Masks) (both : Profiled P) (h : Record) (stands : ProfiledFor part_for both h) (started : List Start) (within : h.within ≡ starts_of masks ∷ started ∷ [] ∷ []) where
  -- the starts of both are known by the record
  starts-are : starts_of both.masks ∷ stands.first.started ∷ stands.second.started ∷ [] ≡ starts_of masks ∷ started ∷ [] ∷ []
  starts-are = sym stands.joins.within ∙ within

  started-is : stands.first.started ≡ started
  started-is = let same = starts-are in cc

  masks-are : starts_of both.masks ≡ starts_of masks
  masks-are = let same = starts-are in cc

  first-mask : both.masks.first ≡ masks.first
  first-mask = ap (λ (starts : List Start). (slice_index_or starts 0 none).mask) masks-are

  second-mask : both.masks.second ≡ masks.second
  second-mask = ap (λ (starts : List Start). (slice_index_or starts 1 none).mask) masks-are

  first-answer : both.masks.first_answer ≡ masks.first_answer
  first-answer = ap (λ (starts : List Start). (slice_index_or starts 0 none).answer) masks-are

  second-answer : both.masks.second_answer ≡ masks.second_answer
  second-answer = ap (λ (starts : List Start). (slice_index_or starts 1 none).answer) masks-are

  -- the profile has counted all calls, whether the part heard of one more or not
  second-owns : masks.second ≡ PROFILE_MASK → AreOwn PROFILE_MASK stands.second.calls h.calls
  second-owns is =
      subst (λ (mask : ℕ). AreOwn mask stands.second.calls h.calls) (second-mask ∙ is) (second-of both.whole both.masks.first both.masks.second h.calls stands.first.calls stands.second.calls stands.joins.heard)

  pub profile-counts : masks.second ≡ PROFILE_MASK → (items : List Item) → h.calls ≡ items → profile_in both ≡ counts_of (map record_of items)
  profile-counts is items calls = stands.is_second.events ∙ ap counts_of (same-records stands.second.calls h.calls (second-owns is) ∙ ap (map record_of) calls)

  -- the part was started so
  pub part-started : (rest : List Start) → started ≡ record { answer = 1; mask = 0 } ∷ rest → HasStarted part_for (part_in both) rest
  part-started rest is =
      record { h = record stands.first { started = rest }; started_is = refl; stands = subst (MarkedBy part_for (part_in both) stands.first) (started-is ∙ is) stands.is_first }

  -- no call was lost, so both heard of the same calls
  is-whole : h.unheard ≡ 0 → both.whole ≡ true
  is-whole none =
      elim (cases_Bool both.whole) [
        | inl whole ↦ whole
        | inr broken ↦ absurd (omega (arith, stands.joins.broken broken, none))
      ]

  splits : masks.second ≡ PROFILE_MASK → h.unheard ≡ 0 → (items : List Item) → h.calls ≡ items → IsSplit masks.first PROFILE_MASK items stands.first.calls stands.second.calls
  splits is none items calls =
      let heard : IsHeard both.whole masks.first PROFILE_MASK items stands.first.calls stands.second.calls = rw (← first-mask, ← (second-mask ∙ is), ← calls) stands.joins.heard in
      subst (λ (whole : Bool). IsHeard whole masks.first PROFILE_MASK items stands.first.calls stands.second.calls) (is-whole none) heard

  -- and the part was called for its own, and finished so
  heard-so : masks.second ≡ PROFILE_MASK → h.unheard ≡ 0 → (items : List Item) → h.calls ≡ items → (rest : List Start) → started ≡ record { answer = 1; mask = 0 } ∷ rest
      → (active : ℕ) → stands.first.finished ≡ finished_at active stands.first.calls → HasHeard part_for (part_in both) rest active masks.first items
  heard-so is none items calls rest marks active finished =
      let lost : stands.first.unheard ≡ 0 = omega (arith, stands.joins.unheard, none) in
      record {
        calls = stands.first.calls;
        counted = stands.second.calls;
        within = stands.first.within;
        silent = stands.is_second.silent;
        split = splits is none items calls;
        stands = rw (← finished, ← lost) (subst (MarkedBy part_for (part_in both) stands.first) (started-is ∙ marks) stands.is_first);
      }

  -- the part of a run that was started and finished
  pub first-heard : masks.second ≡ PROFILE_MASK → h.unheard ≡ 0 → (items : List Item) → h.calls ≡ items → h.finished ≡ length items ∷ [] → (rest : List Start) → started ≡ record { answer = 1; mask = 0 } ∷ rest
      → HasHeard part_for (part_in both) rest masks.first_answer masks.first items
  first-heard is none items calls ended rest marks =
      let once : h.finished ≡ length h.calls ∷ [] = ended ∙ ap (λ (all : List Item). length all ∷ []) (sym calls) in
      let whole = is-whole none in
      let heard : IsSplit both.masks.first both.masks.second h.calls stands.first.calls stands.second.calls =
      subst (λ (w : Bool). IsHeard w both.masks.first both.masks.second h.calls stands.first.calls stands.second.calls) whole stands.joins.heard in
      let counts = counted both.masks.first stands.first.calls h.calls (own_of_split both.masks.first both.masks.second h.calls stands.first.calls stands.second.calls heard).0 in
      let finished = ended-once both.masks.first_answer both.masks.first both.whole h stands.first.finished stands.first.calls whole once counts stands.joins.first_finished in
      heard-so is none items calls rest marks masks.first_answer (finished ∙ ap (λ (answer : ℕ). finished_at answer stands.first.calls) first-answer)

  -- and one that wasn't
  pub other-heard : masks.second ≡ PROFILE_MASK → h.unheard ≡ 0 → (items : List Item) → h.calls ≡ items → h.finished ≡ [] → (rest : List Start) → started ≡ record { answer = 1; mask = 0 } ∷ rest
      → HasHeard part_for (part_in both) rest 0 masks.first items
  other-heard is none items calls never rest marks =
      heard-so is none items calls rest marks 0 (ended-never both.masks.first_answer both.masks.first both.whole h stands.first.finished (is-whole none) never stands.joins.first_finished)

  -- nothing was stored where the part stores nothing
  pub part-silent : ((r : Record) → part_for (part_in both) r → StoresNothing r.calls) → (items : List Item) → h.calls ≡ items → (rest : List Start) → started ≡ record { answer = 1; mask = 0 } ∷ rest → StoresNothing items
  part-silent silent items calls rest marks =
      let one = silent (record stands.first { started = rest }) (subst (MarkedBy part_for (part_in both) stands.first) (started-is ∙ marks) stands.is_first) in
      subst StoresNothing calls (silent-heard both.whole both.masks.first both.masks.second h.calls stands.first.calls stands.second.calls stands.joins.heard one stands.is_second.silent)

  -- the mask of the run whose first part this is
  pub run-mask : masks.second ≡ PROFILE_MASK → masks.second_answer ≡ 1 → (answer registered : ℕ) → h.started ≡ record { answer = answer; mask = registered } ∷ [] → mask_of answer registered ≡ bit_or masks.first PROFILE_MASK
  run-mask is active answer registered start =
      union-mask part_for both h answer registered stands start (second-mask ∙ is) (second-answer ∙ active) ∙ ap (λ (mask : ℕ). bit_or mask PROFILE_MASK) first-mask

  -- which answered 1
  pub run-answer : masks.second_answer ≡ 1 → (answer registered : ℕ) → h.started ≡ record { answer = answer; mask = registered } ∷ [] → answer ≡ 1
  run-answer active answer registered start = both-answer part_for both h answer registered stands start (second-answer ∙ active)

-- what is said of one is said of another that stands for all that it does
pub other-started : {A B : Type 0} (first_for : A → Record → Type 0) (second_for : B → Record → Type 0) (a : A) (b : B) (started : List Start) → ((h : Record) → first_for a h → second_for b h)
    → HasStarted first_for a started → HasStarted second_for b started
other-started first_for second_for a b started so has = record { h = has.h; started_is = has.started_is; stands = so has.h has.stands }

pub other-hears : {A B : Type 0} (first_for : A → Record → Type 0) (second_for : B → Record → Type 0) (a : A) (b : B) (started : List Start) (active mask : ℕ) (items : List Item) → ((h : Record) → first_for a h → second_for b h)
    → HasHeard first_for a started active mask items → HasHeard second_for b started active mask items
other-hears first_for second_for a b started active mask items so has =
    record { calls = has.calls; counted = has.counted; within = has.within; silent = has.silent; split = has.split; stands = so _ has.stands }
