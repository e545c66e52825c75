-- The span of several lists of events.
use Rattle.std.proofs.Common.{◌≡◌, ℕ, zero, suc, ◌+◌, ◌-◌, ◌<◌, ◌≤◌, ◌==◌, max, List, [], ◌∷◌, ◌++◌, length, get_or, map, refl, sym, ◌∙◌, ap, inl, inr, arith}
use Rattle.std.specs.List.{All, flat_map}
use Rattle.std.specs.List.Sorted.{IsPermutation}
use Rattle.std.proofs.lemmas.Bool.Decides.{leb_tells}
use Rattle.std.proofs.lemmas.List.{length-map, get_or-map, get_or_default, nil_from_length}
use Rattle.std.proofs.lemmas.List.Elements.{All-head, All-tail}
use Rattle.std.proofs.lemmas.List.Sorted.{All-permutation, IsPermutation-sym}
use Rattle.ompt_calls.specs.declared.event.EventRecord.{EventRecord}
use Rattle.tool_report.specs.Moments.{moment_of, moments_of}
use Rattle.tool_report.specs.Order.{AreKept, AreRising, AreShared}
use Rattle.tool_report.specs.Timeline.{span_of}
use Rattle.tool_report.specs.declared.timeline.Moment.{Moment}
use Rattle.tool_report.proofs.Fronts.{kept_rising}
use Rattle.tool_report.proofs.Gathering.{gathered-all}

-- the span of the first so many lists
abbrev pub span_of_first : ℕ → List (List EventRecord) → ℕ
span_of_first zero parts = 0
span_of_first (suc k) [] = 0
span_of_first (suc k) (part ∷ parts) = max (span_of part) (span_of_first k parts)

-- with one list more it is the greater of the two
pub span_more : (k : ℕ) (d : List EventRecord) (parts : List (List EventRecord)) → k < length parts → span_of_first (suc k) parts ≡ max (span_of_first k parts) (span_of (get_or parts k d))
span_more k d [] below = absurd (omega arith)
span_more zero d (part ∷ parts) below = omega arith
span_more (suc k) d (part ∷ parts) below = let rest = span_more k d parts (omega arith) in omega arith

-- the span of two lists, and of all of them
span-append : (xs ys : List EventRecord) → span_of (xs ++ ys) ≡ max (span_of xs) (span_of ys)
span-append [] ys = omega arith
span-append (x ∷ xs) ys = let rest = span-append xs ys in omega arith

span-of_all : (parts : List (List EventRecord)) → span_of_first (length parts) parts ≡ span_of (flat_map (λ (part : List EventRecord). part) parts)
span-of_all [] = refl
span-of_all (part ∷ parts) = let rest = span-of_all parts in let both = span-append part (flat_map (λ (part : List EventRecord). part) parts) in omega arith

-- no position is past the span, which is the least such
within-span : (events : List EventRecord) → All (λ (event : EventRecord). event.seq + 1 ≤ span_of events) events
within-span [] k d below = absurd (omega arith)
within-span (event ∷ events) zero d below = omega arith
within-span (event ∷ events) (suc k) d below = let rest = within-span events k d (omega arith) in omega arith

least-span : (n : ℕ) (events : List EventRecord) → All (λ (event : EventRecord). event.seq + 1 ≤ n) events → span_of events ≤ n
least-span n [] all = omega arith
least-span n (event ∷ events) all =
    let first = All-head (λ (other : EventRecord). other.seq + 1 ≤ n) event events all in
    let rest = least-span n events (All-tail (λ (other : EventRecord). other.seq + 1 ≤ n) event events all) in
    omega arith

span-moved : (xs ys : List EventRecord) → IsPermutation xs ys → span_of ys ≤ span_of xs
span-moved xs ys moved = least-span (span_of xs) ys (All-permutation (λ (event : EventRecord). event.seq + 1 ≤ span_of xs) xs ys moved (within-span xs))

pub span_shared : (events : List EventRecord) (parts : List (List EventRecord)) → AreShared events parts → span_of_first (length parts) parts ≡ span_of events
span_shared events parts shared =
    let all = gathered-all events parts shared in
    let there = span-moved events (flat_map (λ (part : List EventRecord). part) parts) all in
    let back = span-moved (flat_map (λ (part : List EventRecord). part) parts) events (IsPermutation-sym events (flat_map (λ (part : List EventRecord). part) parts) all) in
    let whole = span-of_all parts in
    omega arith

-- of events whose positions rise the last has the greatest
pub span_of_last : (k : ℕ) (m : Moment) (events : List EventRecord) → AreRising events → k + 1 ≡ length events → span_of events ≡ (get_or (moments_of events) k m).seq + 1
span_of_last k m [] rising last = absurd (omega arith)
span_of_last zero m (event ∷ []) rising last = omega arith
span_of_last (suc k) m (event ∷ []) rising last = absurd (omega arith)
span_of_last zero m (event ∷ next ∷ events) rising last = absurd (omega arith)
span_of_last (suc k) m (event ∷ next ∷ events) rising last =
    let rest = span_of_last k m (next ∷ events) rising.1 (omega arith) in
    let least = rising.0.0 in
    omega arith

-- each part of what is shared rises
pub shares_rise : (events : List EventRecord) (parts : List (List EventRecord)) → AreShared events parts → (k : ℕ) (d : List EventRecord) → k < length parts → AreRising (get_or parts k d)
shares_rise events parts shared k d below = rw (shared.each k d below) (kept_rising (λ (event : EventRecord). event.thread == k) events shared.rising)

-- one part more, by what it keeps
share-of : (shares : List (List EventRecord)) (parts : List (List Moment)) (i : ℕ) (part : List Moment) → parts ≡ map moments_of shares → i < length shares → part ≡ get_or parts i part → part ≡ moments_of (get_or shares i [])
share-of shares parts i part are inside at = at ∙ ap (λ all. get_or all i part) are ∙ get_or-map moments_of shares i [] part inside

one-more : (shares : List (List EventRecord)) (i : ℕ) → i < length shares → span_of_first (i + 1) shares ≡ max (span_of_first i shares) (span_of (get_or shares i []))
one-more shares i inside = let next : i + 1 ≡ suc i = omega arith in ap (λ k. span_of_first k shares) next ∙ span_more i [] shares inside

pub span_with : (shares : List (List EventRecord)) (parts : List (List Moment)) (i : ℕ) (part : List Moment) (m : Moment) → ((k : ℕ) (d : List EventRecord) → k < length shares → AreRising (get_or shares k d)) → parts ≡ map moments_of shares → i < length parts → part ≡ get_or parts i part → 1 ≤ length part → span_of_first (i + 1) shares ≡ max (span_of_first i shares) ((get_or part (length part - 1) m).seq + 1)
span_with shares parts i part m rise are below at some =
    let as_many = ap length are ∙ length-map shares moments_of in
    let inside : i < length shares = omega arith in
    let is = share-of shares parts i part are inside at in
    let as_long = ap length is ∙ length-map (get_or shares i []) moment_of in
    let last = span_of_last (length part - 1) m (get_or shares i []) (rise i [] inside) (omega arith) ∙ ap (λ (all : List Moment). (get_or all (length part - 1) m).seq + 1) (sym is) in
    one-more shares i inside ∙ ap (λ n. max (span_of_first i shares) n) last

pub span_without : (shares : List (List EventRecord)) (parts : List (List Moment)) (i : ℕ) (part : List Moment) → parts ≡ map moments_of shares → i < length parts → part ≡ get_or parts i part → length part ≡ 0 → span_of_first (i + 1) shares ≡ span_of_first i shares
span_without shares parts i part are below at none =
    let as_many = ap length are ∙ length-map shares moments_of in
    let inside : i < length shares = omega arith in
    let is = share-of shares parts i part are inside at in
    let as_long = ap length is ∙ length-map (get_or shares i []) moment_of in
    let empty = ap span_of (nil_from_length (get_or shares i []) (omega arith)) in
    let more = one-more shares i inside in
    omega arith

-- a part that is empty is none of those that have moments
pub some_without : (parts : List (List Moment)) (i : ℕ) (part : List Moment) (thread : ℕ) (d : List Moment) → i < length parts → part ≡ get_or parts i part → length part ≡ 0 → thread < i + 1 → 1 ≤ length (get_or parts thread d) → thread < i
some_without parts i part thread d inside at none below some =
    elim (leb_tells i thread) as (λ _. thread < i) [ inl here ↦ absurd (let same : thread ≡ i = omega (arith, here.1) in let is = ap (λ k. get_or parts k d) same ∙ get_or_default parts i d part inside ∙ sym at in omega (arith, ap length is)) | inr before ↦ before.1 ]

-- the span of all the parts
pub span_of_parts : (events : List EventRecord) (parts : List (List Moment)) (n : ℕ) (kept : AreKept moments_of events parts) → n ≡ length parts → span_of_first n kept.shares ≡ span_of events
span_of_parts events parts n kept all =
    let same : n ≡ length kept.shares = all ∙ ap length kept.kept ∙ length-map kept.shares moments_of in
    ap (λ k. span_of_first k kept.shares) same ∙ span_shared events kept.shares kept.shared
