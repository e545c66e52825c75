-- What the checker keeps for the rule on names that are listed: the uses that open constructs leave out, and the loops inside of open constructs.
use Rattle.std.specs.Prelude.{ℕ, ◌≡◌, ◌≤◌, ◌+◌, ◌&&◌, Bool, true, if◌then◌else◌, List, [], ◌∷◌, ◌++◌, Option, Some, None, option_map, sum_by, refl}
use Rattle.std.proofs.Common.{sym, ap, subst, inl, inr, arith, true≢false}
use Rattle.std.specs.List.{IsAmong}
use Rattle.std.proofs.lemmas.Bool.{cases_Bool}
use Rattle.std.proofs.lemmas.List.Sums.{sum_by-append, sum_by-cons}
use Rattle.c_tokens.specs.declared.token.Spot.{Spot}
use Rattle.c_check.specs.declared.acts.act.Act.{Act}
use Rattle.c_check.specs.declared.acts.act.Act.TheVariants.{Begin, Clause, Enter, Leave, List as Listing, Loop, Use}
use Rattle.c_check.specs.declared.acts.act.DataClause.{DataClause}
use Rattle.c_check.specs.declared.scopes.declared.Declared.{Declared}
use Rattle.c_check.specs.Checked.{after_all}
use Rattle.c_check.specs.Constructs.{Construct, Constructs, leaves_out, open_constructs, with_loop, with_mention, with_newest, with_single, without_innermost}
use Rattle.c_check.specs.Declarations.{find}
use Rattle.c_check.specs.Here.{Here, after, is_variable, listed, looped, used}
use Rattle.c_slots.specs.OwnPlaces.{one_if_same, placed_at}
use Rattle.c_slots.proofs.ActPlaces.{at_itself}
use Rattle.check_laws.proofs.Broken.{BreaksIn, breaks-either, breaks-left, breaks-right}
use Rattle.check_laws.proofs.Has.{Has, among-behind, among-case, among-first}
use Rattle.check_laws.proofs.Means.{not-among, use-around}
use Rattle.check_laws.proofs.Naming.{Mentioned, Purpose, case-mentioned, mentioned, mentions}
use Rattle.check_laws.proofs.Standing.{around_here}
use Rattle.check_laws.proofs.Unnamed.{Unnaming}

pub record Entry : Type 0 where
  pub purpose : Purpose
  pub slot : ℕ
  pub construct : Spot

abbrev pub takes : Purpose → Construct → Declared → Bool
takes (Purpose.using spot) construct what = is_variable what.thing && leaves_out construct what.slot
takes Purpose.looping construct what = true

abbrev pub entry_of : Purpose → Declared → Construct → Entry
entry_of purpose what construct = record { purpose = purpose; slot = what.slot; construct = construct.head.spot }

abbrev pub entries_in : Purpose → Declared → List Construct → List Entry
entries_in purpose what [] = []
entries_in purpose what (first ∷ around) = if takes purpose first what then entry_of purpose what first ∷ entries_in purpose what around else entries_in purpose what around

abbrev pub entries_for : Purpose → Option Declared → List Construct → List Entry
entries_for purpose None around = []
entries_for purpose (Some what) around = entries_in purpose what around

abbrev pub entries : Here → Act → List Entry
entries here (Use name spot usage) = entries_for (Purpose.using spot) (find here.names.visible name) (around_here here)
entries here (Loop name) = entries_for Purpose.looping (find here.names.visible name) (around_here here)
entries here other = []

pub entries-calm : Unnaming entries
entries-calm here (Use name spot usage) is = absurd (true≢false is)
entries-calm here (Loop name) is = absurd (true≢false is)
entries-calm here other is = refl

-- a construct that stands there takes it
pub record TakesAt (purpose : Purpose) (what : Declared) (at : Spot) (construct : Construct) : Type 0 where
  pub taken : takes purpose construct what ≡ true
  pub there : construct.head.spot ≡ at

pub record IsEntry (purpose : Purpose) (found : Option Declared) (around : List Construct) (entry : Entry) : Type 0 where
  pub what : Declared
  pub found_is : found ≡ Some what
  pub purpose_is : entry.purpose ≡ purpose
  pub slot : what.slot ≡ entry.slot
  pub taken : Has (TakesAt purpose what entry.construct) around

entry-case : (purpose : Purpose) (what : Declared) (around : List Construct) (entry : Entry) → IsAmong (entries_in purpose what around) entry → IsEntry purpose (Some what) around entry
entry-case purpose what [] entry among = absurd (not-among entry among)
entry-case purpose what (first ∷ around) entry among =
    elim (cases_Bool (takes purpose first what)) [
      | inl taken ↦ elim (among-case (entry_of purpose what first) (entries_in purpose what around) entry (rw taken at among)) [
        | inl same ↦ record {
          what = what;
          found_is = refl;
          purpose_is = ap (λ (entry : Entry). entry.purpose) same;
          slot = sym (ap (λ (entry : Entry). entry.slot) same);
          taken = inl (record { taken = taken; there = sym (ap (λ (entry : Entry). entry.construct) same) });
        }
        | inr others ↦ further (entry-case purpose what around entry others)
      ]
      | inr not_taken ↦ further (entry-case purpose what around entry (rw not_taken at among))
    ]
  where
    further : IsEntry purpose (Some what) around entry → IsEntry purpose (Some what) (first ∷ around) entry
    further it = record { what = it.what; found_is = it.found_is; purpose_is = it.purpose_is; slot = it.slot; taken = inr it.taken }

pub found-entry : (purpose : Purpose) (found : Option Declared) (around : List Construct) (entry : Entry) → IsAmong (entries_for purpose found around) entry → IsEntry purpose found around entry
found-entry purpose None around entry among = absurd (not-among entry among)
found-entry purpose (Some what) around entry among = entry-case purpose what around entry among

taken-entry : (purpose : Purpose) (what : Declared) (at : Spot) (around : List Construct) → Has (TakesAt purpose what at) around → IsAmong (entries_in purpose what around) (record { purpose = purpose; slot = what.slot; construct = at })
taken-entry purpose what at [] has = absurd has
taken-entry purpose what at (first ∷ around) (inl this) =
    rw this.taken (subst (λ (at : Spot). IsAmong (entry_of purpose what first ∷ entries_in purpose what around) (record { purpose = purpose; slot = what.slot; construct = at })) this.there
    (among-first (entry_of purpose what first) (entries_in purpose what around)))
taken-entry purpose what at (first ∷ around) (inr others) =
    elim (cases_Bool (takes purpose first what)) [
      | inl taken ↦ rw taken (among-behind (entry_of purpose what first) (entries_in purpose what around) (record { purpose = purpose; slot = what.slot; construct = at }) (taken-entry purpose what at around others))
      | inr not_taken ↦ rw not_taken (taken-entry purpose what at around others)
    ]

pub entry-found : (purpose : Purpose) (found : Option Declared) (what : Declared) (at : Spot) (around : List Construct) → found ≡ Some what → Has (TakesAt purpose what at) around
    → IsAmong (entries_for purpose found around) (record { purpose = purpose; slot = what.slot; construct = at })
entry-found purpose found what at around is has =
    subst (λ (found : Option Declared). IsAmong (entries_for purpose found around) (record { purpose = purpose; slot = what.slot; construct = at })) (sym is) (taken-entry purpose what at around has)

-- each is of something that is mentioned
pub record Origin (here : Here) (acts : List Act) (entry : Entry) : Type 0 where
  pub what : Declared
  pub slot : what.slot ≡ entry.slot
  pub mentioned_there : BreaksIn mentions here acts (record { purpose = entry.purpose; what = what })

first-origin : (here : Here) (act : Act) (rest : List Act) (purpose : Purpose) (found : Option Declared) (entry : Entry) → ((one : Mentioned) → IsAmong (mentioned purpose found) one → BreaksIn mentions here (act ∷ rest) one)
    → IsEntry purpose found (around_here here) entry → Origin here (act ∷ rest) entry
first-origin here act rest purpose found entry there it = record {
  what = it.what;
  slot = it.slot;
  mentioned_there = subst (λ (purpose : Purpose). BreaksIn mentions here (act ∷ rest) (record { purpose = purpose; what = it.what })) (sym it.purpose_is)
      (there (record { purpose = purpose; what = it.what }) (case-mentioned purpose found it.what it.found_is));
}

pub origin : (here : Here) (acts : List Act) (entry : Entry) → BreaksIn entries here acts entry → Origin here acts entry
origin here [] entry breaks = absurd breaks
origin here (Use name spot usage ∷ rest) entry (inl now) =
    first-origin here (Use name spot usage) rest (Purpose.using spot) (find here.names.visible name) entry (λ one among. inl among) (found-entry (Purpose.using spot) (find here.names.visible name) (around_here here) entry now)
origin here (Loop name ∷ rest) entry (inl now) =
    first-origin here (Loop name) rest Purpose.looping (find here.names.visible name) entry (λ one among. inl among) (found-entry Purpose.looping (find here.names.visible name) (around_here here) entry now)
origin here (other ∷ rest) entry (inl now) = absurd (not-among entry now)
origin here (act ∷ rest) entry (inr later) =
    let more = origin (after here act) rest entry later in
    record { what = more.what; slot = more.slot; mentioned_there = inr more.mentioned_there }

-- how many constructs stand at a place
abbrev pub stands_at : Spot → Construct → ℕ
stands_at place construct = one_if_same place construct.head.spot

abbrev pub count_at : Spot → List Construct → ℕ
count_at place [] = 0
count_at place (first ∷ around) = stands_at place first + count_at place around

taken-counts : (purpose : Purpose) (what : Declared) (at : Spot) (around : List Construct) → Has (TakesAt purpose what at) around → 1 ≤ count_at at around
taken-counts purpose what at [] has = absurd has
taken-counts purpose what at (first ∷ around) (inl this) =
    let one : stands_at at first ≡ 1 = subst (λ (spot : Spot). one_if_same at spot ≡ 1) (sym this.there) (at_itself at) in
    omega (arith, one)
taken-counts purpose what at (first ∷ around) (inr others) = omega (arith, taken-counts purpose what at around others)

newest-counts : (place : Spot) (one other : Option Construct) (around : List Construct) → option_map (λ (it : Construct). it.head.spot) one ≡ option_map (λ (it : Construct). it.head.spot) other
    → count_at place (with_newest one around) ≡ count_at place (with_newest other around)
newest-counts place None None around same = refl
newest-counts place None (Some other) around same = absurd (let no : None ≡ Some other.head.spot = same in cc)
newest-counts place (Some one) None around same = absurd (let no : Some one.head.spot ≡ None = same in cc)
newest-counts place (Some one) (Some other) around same =
    let spots : one.head.spot ≡ other.head.spot = (let both : Some one.head.spot ≡ Some other.head.spot = same in cc) in
    ap (λ (spot : Spot). one_if_same place spot + count_at place around) spots

listed-counts : (place : Spot) (constructs : Constructs) (clause : DataClause) (found : Option Declared) → count_at place (open_constructs (listed constructs found clause)) ≡ count_at place (open_constructs constructs)
listed-counts place constructs clause None = refl
listed-counts place constructs clause (Some it) = newest-counts place (with_mention constructs it.slot clause).newest constructs.newest constructs.around (same constructs.newest)
  where
    same : (newest : Option Construct) → option_map (λ (it : Construct). it.head.spot) (option_map (λ (one : Construct). record one { mentions = one.mentions ++ record { slot = it.slot; clause = clause } ∷ [] }) newest)
        ≡ option_map (λ (it : Construct). it.head.spot) newest
    same None = refl
    same (Some one) = refl

looped-counts : (place : Spot) (constructs : Constructs) (found : Option Declared) → count_at place (open_constructs (looped constructs found)) ≡ count_at place (open_constructs constructs)
looped-counts place constructs None = refl
looped-counts place constructs (Some it) = newest-counts place (with_loop constructs it.slot).newest constructs.newest constructs.around (same constructs.newest)
  where
    same : (newest : Option Construct) → option_map (λ (it : Construct). it.head.spot) (option_map (λ (one : Construct). record one { loop = Some it.slot }) newest) ≡ option_map (λ (it : Construct). it.head.spot) newest
    same None = refl
    same (Some one) = refl

ended-counts : (place : Spot) (constructs : Constructs) (around : List Construct) → count_at place (open_constructs (without_innermost around constructs)) ≤ count_at place around
ended-counts place constructs [] = omega arith
ended-counts place constructs (first ∷ outer) = omega arith

-- an act adds at most the place where it stands
act-counts : (place : Spot) (here : Here) (act : Act) → count_at place (around_here (after here act)) ≤ count_at place (around_here here) + placed_at place act
unfolding after
act-counts place here (Begin name spot returns parameters) = omega arith
act-counts place here (Use name spot usage) =
    let same : count_at place (around_here (used here spot (find here.names.visible name))) ≡ count_at place (around_here here) = ap (count_at place) (use-around here spot (find here.names.visible name)) in
    omega (arith, same)
act-counts place here (Enter spot which critical) = omega arith
act-counts place here (Clause one) =
    let same = newest-counts place (after here (Clause one)).constructs.newest here.constructs.newest here.constructs.around (newest-same here.constructs.newest) in
    omega (arith, same)
  where
    newest-same : (newest : Option Construct) → option_map (λ (it : Construct). it.head.spot) (option_map (λ (it : Construct). record it { clauses = with_single one it.clauses }) newest)
        ≡ option_map (λ (it : Construct). it.head.spot) newest
    newest-same None = refl
    newest-same (Some it) = refl
act-counts place here (Listing name spot clause) = omega (arith, listed-counts place here.constructs clause (find here.names.visible name))
act-counts place here (Loop name) = omega (arith, looped-counts place here.constructs (find here.names.visible name))
act-counts place here Leave = omega (arith, ended-counts place here.constructs (around_here here))
act-counts place here other = omega arith

-- what is kept of a construct: it is open, or it begins
pub entry-placed : (here : Here) (acts : List Act) (entry : Entry) → BreaksIn entries here acts entry → 1 ≤ count_at entry.construct (around_here here) + sum_by (placed_at entry.construct) acts
entry-placed here [] entry breaks = absurd breaks
entry-placed here (Use name spot usage ∷ rest) entry (inl now) =
    let it = found-entry (Purpose.using spot) (find here.names.visible name) (around_here here) entry now in
    omega (arith, taken-counts (Purpose.using spot) it.what entry.construct (around_here here) it.taken)
entry-placed here (Loop name ∷ rest) entry (inl now) =
    let it = found-entry Purpose.looping (find here.names.visible name) (around_here here) entry now in
    omega (arith, taken-counts Purpose.looping it.what entry.construct (around_here here) it.taken)
entry-placed here (other ∷ rest) entry (inl now) = absurd (not-among entry now)
entry-placed here (act ∷ rest) entry (inr later) =
    omega (arith, entry-placed (after here act) rest entry later, act-counts entry.construct here act, sum_by-cons (placed_at entry.construct) act rest)

-- each construct that is open or begins has its own place
abbrev pub HavePlaces : Here → List Act → Type 0
HavePlaces here acts = (place : Spot) → count_at place (around_here here) + sum_by (placed_at place) acts ≤ 1

pub places-left : (here : Here) (some more : List Act) → HavePlaces here (some ++ more) → HavePlaces here some
places-left here some more own place = omega (arith, own place, sum_by-append (placed_at place) some more)

all-counts : (place : Spot) (here : Here) (acts : List Act) → count_at place (around_here (after_all here acts)) ≤ count_at place (around_here here) + sum_by (placed_at place) acts
unfolding after_all
all-counts place here [] = omega arith
all-counts place here (act ∷ acts) = omega (arith, all-counts place (after here act) acts, act-counts place here act, sum_by-cons (placed_at place) act acts)

pub places-right : (here : Here) (some more : List Act) → HavePlaces here (some ++ more) → HavePlaces (after_all here some) more
places-right here some more own place = omega (arith, own place, sum_by-append (placed_at place) some more, all-counts place here some)

-- a use that a construct leaves out, which begins in these acts and shares out no such loop
pub record OwnEntry (here : Here) (acts : List Act) (spot : Spot) : Type 0 where
  pub slot : ℕ
  pub at : Spot
  pub entry : BreaksIn entries here acts (record { purpose = Purpose.using spot; slot = slot; construct = at })
  pub placed : 1 ≤ sum_by (placed_at at) acts
  pub none : BreaksIn entries here acts (record { purpose = Purpose.looping; slot = slot; construct = at }) → ⊥

module _ (here : Here) (some more : List Act) (spot : Spot) (own : HavePlaces here (some ++ more)) where
  pub own-left : ((place : Spot) → count_at place (around_here (after_all here some)) ≤ count_at place (around_here here)) → OwnEntry here some spot → OwnEntry here (some ++ more) spot
  own-left same it = record {
    slot = it.slot;
    at = it.at;
    entry = breaks-left entries (record { purpose = Purpose.using spot; slot = it.slot; construct = it.at }) here some more it.entry;
    placed = omega (arith, it.placed, sum_by-append (placed_at it.at) some more);
    none = λ breaks. elim (breaks-either entries (record { purpose = Purpose.looping; slot = it.slot; construct = it.at }) here some more breaks) [
      | inl left ↦ it.none left
      | inr right ↦ absurd (omega (
        arith,
        own it.at,
        same it.at,
        it.placed,
        sum_by-append (placed_at it.at) some more,
        entry-placed (after_all here some) more (record { purpose = Purpose.looping; slot = it.slot; construct = it.at }) right,
      ))
    ];
  }

  pub own-right : OwnEntry (after_all here some) more spot → OwnEntry here (some ++ more) spot
  own-right it = record {
    slot = it.slot;
    at = it.at;
    entry = breaks-right entries (record { purpose = Purpose.using spot; slot = it.slot; construct = it.at }) here some more it.entry;
    placed = omega (arith, it.placed, sum_by-append (placed_at it.at) some more);
    none = λ breaks. elim (breaks-either entries (record { purpose = Purpose.looping; slot = it.slot; construct = it.at }) here some more breaks) [
      | inl left ↦ absurd (omega (
        arith,
        own it.at,
        it.placed,
        sum_by-append (placed_at it.at) some more,
        entry-placed here some (record { purpose = Purpose.looping; slot = it.slot; construct = it.at }) left,
      ))
      | inr right ↦ it.none right
    ];
  }
