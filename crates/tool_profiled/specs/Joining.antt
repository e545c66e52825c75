-- Parts that are joined with profiles: part t with a profile, for thread t.
use Rattle.std.specs.Prelude.{ℕ, ◌≡◌, ◌≤◌, List, [], ◌∷◌, drop, length, map, slice_index_or, All, vec_capacity}
use Rattle.std.specs.Global.{Vec}
use Rattle.omp_codes.specs.declared.callbacks.TheConstants.{PROFILE_MASK}
use Rattle.tool_api.specs.Record.{Record, initialized}
use Rattle.tool_api.specs.Registering.{mask_of}
use Rattle.tool_both.specs.declared.both.Both.{Both}
use Rattle.tool_both.specs.declared.masks.Masks.{Masks}
use Rattle.tool_both.specs.Joined.{BothFor}
use Rattle.tool_both.specs.Tools.{IsUnheard, fresh_both}
use Rattle.tool_report.specs.KeeperRelation.{ProfileFor}
use Rattle.tool_profiled.specs.declared.asked.Asked.{Asked}
use Rattle.tool_profiled.specs.Asking.{AskedFor}

-- what is joined of a part and a profile, which is seen as its counts
abbrev pub Profiled : Type 0 → Type 0
Profiled P = Both (Asked P) (List ℕ)

-- the part in it, and the profile in it
abbrev pub part_in : {P : Type 0} → Profiled P → P
part_in both = both.first.0

abbrev pub profile_in : {P : Type 0} → Profiled P → List ℕ
profile_in both = both.second

-- what a part that is joined with a profile stands for, where the part stands for records by this relation
abbrev pub ProfiledFor : {P : Type 0} → (P → Record → Type 0) → Profiled P → Record → Type 0
ProfiledFor part_for both h = BothFor (λ asked g. AskedFor part_for asked.0 g) ProfileFor both.first both.second both.masks both.whole h

-- it stays what it is: the part does, by a relation that is given
abbrev pub SameProfiled : {P : Type 0} → (P → P → Type 0) → Profiled P → Profiled P → Type 0
SameProfiled Same both other = Same (part_in both) (part_in other)

-- the record of a profile before it is told anything
abbrev pub nothing_counted : Record
nothing_counted = record { started = []; calls = []; finished = []; unheard = 0; within = [] }

-- nothing was told yet to a part that is joined with a profile, and they have these registrations
abbrev pub IsFresh : {P : Type 0} → (P → Record → Type 0) → Masks → Profiled P → Type 0
IsFresh part_for masks both = (g : Record) → IsUnheard g → AskedFor part_for (part_in both) g → ProfiledFor part_for both (fresh_both masks g nothing_counted)

-- A part was asked for its registration, once, and a profile with it, which registered the whole profile. These are their registrations, and what the part
-- is since.
pub record WasAsked {P : Type 0} (part_for : P → Record → Type 0) (Same : P → P → Type 0) (part : P) (masks : Masks) (asked : P) : Type 0 where
  pub registered : ℕ
  pub mask_is : masks.first ≡ mask_of masks.first_answer registered
  pub profile_mask : masks.second ≡ PROFILE_MASK
  pub profile_answer : masks.second_answer ≡ 1
  pub starts : (h : Record) → part_for part h → part_for asked (initialized h masks.first_answer registered)
  pub same : Same part asked

-- each of these parts is joined with a profile that was told nothing, and the first of them was asked
pub record AreJoined {P : Type 0} (part_for : P → Record → Type 0) (Same : P → P → Type 0) (parts : List P) (masks : Masks) (joined : List (Profiled P)) : Type 0 where
  pub asked : P
  pub was_asked : (d : P) → WasAsked part_for Same (slice_index_or parts 0 d) masks asked
  pub as_many : length joined ≡ length parts
  pub parts_are : map part_in joined ≡ asked ∷ drop 1 parts
  pub fresh : All (IsFresh part_for masks) joined

-- there is room for so many in this list, and nothing in it
pub record HasRoom {A : Type 0} (count : ℕ) (list : Vec A) : Type 0 where
  pub empty : list.items ≡ []
  pub enough : count ≤ vec_capacity list
