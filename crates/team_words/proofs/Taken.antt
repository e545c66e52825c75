-- How many chunks or sections each member took, as the counters have it.
use Rattle.std.proofs.Common.{◌≡◌, ℕ, zero, suc, ◌+◌, ◌-◌, ◌<◌, ◌≤◌, List, [], ◌∷◌, ◌++◌, length, map, get_or, set, replicate, sum, flat_map, refl, sym, ap, ap₂, ◌∙◌, mul-zero, arith}
use Rattle.std.proofs.lemmas.List.{get_or_append_left, get_or-map, get_or_past, length-map, length-set, map-set, replicate-append-replicate, set-append_left}
use Rattle.std.proofs.lemmas.List.Concat.{length-flat_map}
use Rattle.std.proofs.lemmas.List.Elements.{All-from_get_or}
use Rattle.std.proofs.lemmas.List.Folds.{sum_by-replicate}
use Rattle.std.proofs.lemmas.List.Sums.{sum-map, sum_by-append}
use Rattle.team_parts.specs.declared.meeting.TheConstants.{TEAM_LIMIT}
use Rattle.team_parts.specs.Meetings.{one_more}
use Rattle.team_words.specs.Team.{Met, not_met}
use Rattle.team_words.specs.Shares.{taken_in}
use Rattle.team_words.specs.Counted.{counted_taken, counts_taken}
use Rattle.team_words.proofs.ChangedLists.{none-flat, none-map, same-map}

-- what a member took
pub own-taken : (members : List (List Met)) (n i : ℕ) → i < length members → get_or (counted_taken members n) i 0 ≡ length (taken_in n (get_or members i []))
own-taken members n i within =
    let long = length-map members (counts_taken n) in
    get_or_append_left (map (counts_taken n) members) (replicate (TEAM_LIMIT - length members) 0) 0 i (omega arith)
    ∙ get_or-map (counts_taken n) members i [] 0 within

-- what all took
pub all-taken : (members : List (List Met)) (n : ℕ) → sum (counted_taken members n) ≡ length (flat_map (taken_in n) members)
all-taken members n =
    let both = sum_by-append (λ (k : ℕ). k) (map (counts_taken n) members) (replicate (TEAM_LIMIT - length members) 0) in
    let front = sum-map (counts_taken n) members in
    let rest = sum_by-replicate (λ (k : ℕ). k) (TEAM_LIMIT - length members) 0 ∙ mul-zero (TEAM_LIMIT - length members) in
    omega (arith, both, front, rest, length-flat_map (taken_in n) members)

-- a member changes that took as much as before
pub taken-kept : (members : List (List Met)) (n i : ℕ) (mets : List Met) → taken_in n mets ≡ taken_in n (get_or members i []) → counted_taken (set members i mets) n ≡ counted_taken members n
taken-kept members n i mets same =
    ap₂ (λ (front : List ℕ) (size : ℕ). front ++ replicate (TEAM_LIMIT - size) 0)
    (same-map (counts_taken n) members i mets [] (ap (λ (chunks : List (ℕ × ℕ)). length chunks) same))
    (length-set members i mets)

-- a member takes one more
pub taken-more : (members : List (List Met)) (n i : ℕ) (mets : List Met) → i < length members → counts_taken n mets ≡ counts_taken n (get_or members i []) + 1 → one_more (counted_taken members n) i ≡ counted_taken (set members i mets) n
taken-more members n i mets within more =
    let rest : List ℕ = replicate (TEAM_LIMIT - length members) 0 in
    let long = length-map members (counts_taken n) in
    ap (λ (count : ℕ). set (counted_taken members n) i count) (ap (λ k. k + 1) (own-taken members n i within) ∙ sym more)
    ∙ set-append_left (map (counts_taken n) members) rest i (counts_taken n mets) (omega arith)
    ∙ ap₂ (λ (front : List ℕ) (size : ℕ). front ++ replicate (TEAM_LIMIT - size) 0)
    (sym (map-set (counts_taken n) members i mets))
    (sym (length-set members i mets))

-- nobody has had a meeting with this number
abbrev pub NobodyAt : List (List Met) → ℕ → Type 0
NobodyAt members n = (i : ℕ) → length (get_or members i []) ≤ n

nobody-taken : (mets : List Met) (n : ℕ) → length mets ≤ n → taken_in n mets ≡ []
nobody-taken mets n none = ap (λ (met : Met). met.taken) (get_or_past mets n not_met none)

pub taken-none : (members : List (List Met)) (n : ℕ) → length members ≤ TEAM_LIMIT → NobodyAt members n → counted_taken members n ≡ replicate TEAM_LIMIT 0
taken-none members n few nobody =
    let nothing = none-map (counts_taken n) members (All-from_get_or (λ (mets : List Met). counts_taken n mets ≡ 0) members []
    (λ i within. ap (λ (chunks : List (ℕ × ℕ)). length chunks) (nobody-taken (get_or members i []) n (nobody i)))) in
    let whole : length members + (TEAM_LIMIT - length members) ≡ TEAM_LIMIT = omega arith in
    ap (λ (front : List ℕ). front ++ replicate (TEAM_LIMIT - length members) 0) nothing
    ∙ replicate-append-replicate (length members) (TEAM_LIMIT - length members) 0
    ∙ ap (λ size. replicate size 0) whole

pub all-none : (members : List (List Met)) (n : ℕ) → NobodyAt members n → flat_map (taken_in n) members ≡ []
all-none members n nobody =
    none-flat (taken_in n) members (All-from_get_or (λ (mets : List Met). taken_in n mets ≡ []) members [] (λ i within. nobody-taken (get_or members i []) n (nobody i)))

-- a member meets something more
pub taken-push : (mets : List Met) (new : Met) (n : ℕ) → new.taken ≡ [] → taken_in n (mets ++ new ∷ []) ≡ taken_in n mets
taken-push [] new zero none = none
taken-push [] new (suc n) none = refl
taken-push (met ∷ mets) new zero none = refl
taken-push (met ∷ mets) new (suc n) none = taken-push mets new n none
