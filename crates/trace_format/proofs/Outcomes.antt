-- What a reader ensures of a step, by what it held before: for the items of its own invariant, and for those that a caller knows of.
use Rattle.std.proofs.Common.{ℕ, ◌≡◌, ◌<◌, ◌≤◌, ◌+◌, ◌-◌, inl, true, false, List, [], ◌∷◌, ◌++◌, length, take, drop, Option, Some, None, refl, ap, sym, ◌∙◌, subst, append_assoc, length-append, arith}
use Rattle.std.proofs.lemmas.List.{append-nil, take_rest}
use Rattle.std.proofs.Math.Seq.{drop-append_seam}
use Rattle.trace_format.specs.declared.item.Item.{Item}
use Rattle.trace_format.specs.declared.next.Coming.{Coming}
use Rattle.trace_format.specs.declared.refusal.Reason.{Reason}
use Rattle.trace_format.specs.declared.refusal.Reason.TheVariants.{AfterEnd}
use Rattle.trace_format.specs.declared.refusal.Refusal.{Refusal}
use Rattle.trace_format.specs.Accepting.{next_of}
use Rattle.trace_format.specs.Flat.{IsFront, coming_at, next_in_code, option_in_code, passes, test_width}
use Rattle.trace_format.specs.Holding.{HasEnded, Holds}
use Rattle.trace_format.specs.Reached.{IsBytes, IsReached, bytes_at, flat}
use Rattle.trace_format.specs.Refusing.{reason_of}
use Rattle.trace_format.specs.Taking.{HasTaken, Stage}
use Rattle.trace_format.proofs.Format.{IsBounded, IsOver, IsStopped, bounded_at, over_all, stops}
use Rattle.trace_format.proofs.Front.{few}
use Rattle.trace_format.proofs.Spelling.{append_bytes}
use Rattle.trace_format.proofs.Standing.{Stands, has_taken, of_holds, of_taken, stands_field, stands_more, to_holds}
use Rattle.trace_format.proofs.Steps.{IsDue, accepted_of, due, found, over_of}

-- the front of a reader's bytes
pub front_of : (stage : Stage) (begun : List ℕ) (begun_at place taken : ℕ) (front : List ℕ) (h : Holds stage begun begun_at place taken) → front ≡ begun → IsFront stage place front
front_of stage begun begun_at place taken front h e =
    record { fields = h.fields; rest = h.part; accepted = accepted_of _ _ _ _ _ _ (of_holds stage begun begun_at place taken h); place_is = h.place_is; bytes_are = e ∙ h.begun_is }

-- how much there is of all
pub record Sizes (begun : List ℕ) (begun_at place taken part : ℕ) : Type 0 where
  pub begun_is : length begun ≡ begun_at + part
  pub item : begun_at ≤ 60
  pub few : taken ≤ 157286426 + part
  pub places : place ≤ begun_at

pub sizes : (stage : Stage) (begun : List ℕ) (begun_at place taken : ℕ) (h : Holds stage begun begun_at place taken) → Sizes begun begun_at place taken (length h.part)
sizes stage begun begun_at place taken h =
    let b : IsBounded h.items h.fields = bounded_at h.items h.fields h.reached in
    let f : length h.fields ≤ length (flat h.fields) = few stage h.fields (accepted_of _ _ _ _ _ _ (of_holds stage begun begun_at place taken h)) in
    let l : length begun ≡ length (flat h.fields) + length h.part = ap (λ (xs : List ℕ). length xs) h.begun_is ∙ length-append (flat h.fields) h.part in
    let m : taken ≡ length (bytes_at h.items h.fields) + length h.part = h.taken_is ∙ length-append (bytes_at h.items h.fields) h.part in
    let e : begun_at ≡ length (flat h.fields) = h.begun_at_is in
    let g : place ≡ length h.fields = h.place_is in
    record { begun_is = omega (arith, l, e); item = omega (arith, b.item, e); few = omega (arith, m, b.bytes); places = omega (arith, f, e, g) }

-- what is due where something is found
pub due_of : (stage : Stage) (begun : List ℕ) (begun_at place taken : ℕ) (front : List ℕ) (coming : Coming) (h : Holds stage begun begun_at place taken) → front ≡ begun → coming_at stage place front ≡ Some coming → IsDue stage h.fields h.part coming
due_of stage begun begun_at place taken front coming h e1 e2 =
    due stage begun _ h.items h.fields h.part place front coming (of_holds stage begun begun_at place taken h) h.rests h.place_is e1 e2

pub ended_of : (stage : Stage) (begun : List ℕ) (begun_at place taken : ℕ) (front : List ℕ) (h : Holds stage begun begun_at place taken) → front ≡ begun → coming_at stage place front ≡ None → HasEnded stage h.fields h.part
ended_of stage begun begun_at place taken front h e1 e2 =
    over_of stage h.fields h.part h.rests (found stage begun _ h.items h.fields h.part place front (of_holds stage begun begun_at place taken h) h.place_is e1 ∙ ap option_in_code e2)

-- part of a field has come
pub part_holds :
    (stage : Stage) (begun : List ℕ) (begun_at place taken : ℕ) (coming : Coming) (h : Holds stage begun begun_at place taken) (some new : List ℕ) (n : ℕ) → IsDue stage h.fields h.part coming
    → new ≡ begun ++ some → n ≡ length some → length h.part + n < test_width coming.test → IsBytes some → Holds stage new begun_at place (taken + n)
part_holds stage begun begun_at place taken coming h some new n d e1 e2 short all =
    let l : length (h.part ++ some) ≡ length h.part + length some = length-append h.part some in
    let k : length ((bytes_at h.items h.fields ++ h.part) ++ some) ≡ length (bytes_at h.items h.fields ++ h.part) + length some = length-append (bytes_at h.items h.fields ++ h.part) some in
    let t : taken ≡ length (bytes_at h.items h.fields ++ h.part) = h.taken_is in
    rw e1 (to_holds stage (begun ++ some) ((bytes_at h.items h.fields ++ h.part) ++ some) h.items h.fields (h.part ++ some) begun_at place (taken + n)
    (stands_more stage begun _ h.items h.fields h.part some (of_holds stage begun begun_at place taken h)) h.begun_at_is h.place_is (omega (arith, k, t, e2))
    (inl (record { next = next_in_code coming; comes = d.next_is; short = omega (arith, l, e2, short) })) (append_bytes h.part some h.is_bytes all))

pub part_taken :
    (stage : Stage) (begun : List ℕ) (begun_at place taken : ℕ) (refused : Option Refusal) (coming : Coming) (h : Holds stage begun begun_at place taken) (some new : List ℕ) (n : ℕ) → IsDue stage h.fields h.part coming
    → new ≡ begun ++ some → n ≡ length some → length h.part + n < test_width coming.test → refused ≡ None → (bytes : List ℕ) (items : List Item)
    → HasTaken (record { stage = stage; begun = begun; taken = taken; refusal = refused }) bytes items
    → HasTaken (record { stage = stage; begun = new; taken = taken + n; refusal = refused }) (bytes ++ some) (items ++ [])
part_taken stage begun begun_at place taken refused coming h some new n d e1 e2 short none bytes items has =
    let l : length (h.part ++ some) ≡ length h.part + length some = length-append h.part some in
    let k : length (bytes ++ some) ≡ length bytes + length some = length-append bytes some in
    let t : taken ≡ length bytes = has.taken in
    let s : Stands stage begun bytes items h.fields h.part = of_taken stage begun begun_at place taken h (record { stage = stage; begun = begun; taken = taken; refusal = refused }) bytes items refl refl has in
    rw (append-nil items, e1, none) (has_taken stage (begun ++ some) (bytes ++ some) items h.fields (h.part ++ some) (taken + n)
    (stands_more stage begun bytes items h.fields h.part some s) (omega (arith, k, t, e2))
    (inl (record { next = next_in_code coming; comes = d.next_is; short = omega (arith, l, e2, short) })))

-- the bytes of the field that is whole
pub field_is : (begun fields part some new front : List ℕ) (begun_at : ℕ) → begun ≡ fields ++ part → begun_at ≡ length fields → new ≡ begun ++ some → front ≡ new → take (length front - begun_at) (drop begun_at front) ≡ part ++ some
field_is begun fields part some new front begun_at e1 e2 e3 e4 =
    let e : front ≡ fields ++ (part ++ some) = e4 ∙ e3 ∙ ap (λ (xs : List ℕ). xs ++ some) e1 ∙ append_assoc fields part some in
    rw (take_rest, e, e2) (drop-append_seam fields (part ++ some))

-- the field is refused
pub refused_taken :
    (stage : Stage) (begun : List ℕ) (begun_at place taken : ℕ) (refused : Option Refusal) (coming : Coming) (h : Holds stage begun begun_at place taken) (some new front : List ℕ) (n : ℕ) (reason : Reason) → IsDue stage h.fields h.part coming
    → new ≡ begun ++ some → n ≡ length some → length h.part + n ≡ test_width coming.test → front ≡ new → IsBytes some
    → passes coming.test (take (length front - begun_at) (drop begun_at front)) ≡ false → reason ≡ reason_of coming.field (take (length front - begun_at) (drop begun_at front)) → (bytes : List ℕ) (items : List Item)
    → HasTaken (record { stage = stage; begun = begun; taken = taken; refusal = refused }) bytes items
    → HasTaken (record { stage = stage; begun = new; taken = taken + n; refusal = Some (record { reason = reason; offset = taken + n - test_width coming.test }) }) (bytes ++ some) items
refused_taken stage begun begun_at place taken refused coming h some new front n reason d e1 e2 width e3 all fails e4 bytes items has =
    let f : take (length front - begun_at) (drop begun_at front) ≡ h.part ++ some = field_is begun (flat h.fields) h.part some new front begun_at h.begun_is h.begun_at_is e1 e3 in
    let l : length (h.part ++ some) ≡ length h.part + length some = length-append h.part some in
    let k : length (bytes ++ some) ≡ length bytes + length some = length-append bytes some in
    let t : taken ≡ length bytes = has.taken in
    let s : Stands stage begun bytes items h.fields h.part = of_taken stage begun begun_at place taken h (record { stage = stage; begun = begun; taken = taken; refusal = refused }) bytes items refl refl has in
    let m : Stands stage (begun ++ some) (bytes ++ some) items h.fields (h.part ++ some) = stands_more stage begun bytes items h.fields h.part some s in
    let j : length (bytes ++ some) ≡ length (bytes_at items h.fields) + length (h.part ++ some) = ap (λ (xs : List ℕ). length xs) m.bytes_are ∙ length-append (bytes_at items h.fields) (h.part ++ some) in
    let w : length (h.part ++ some) ≡ test_width coming.test = omega (arith, l, e2, width) in
    let o : taken + n - test_width coming.test ≡ length (bytes_at items h.fields) = omega (arith, k, t, e2, j, w) in
    let x : IsStopped items h.fields (h.part ++ some) (record { reason = reason_of coming.field (h.part ++ some); offset = length (bytes_at items h.fields) }) =
    stops items h.fields (next_in_code coming) (h.part ++ some) s.reached (ap (λ (y : Stage). next_of y h.fields) (sym s.stage_is) ∙ d.next_is) w
    (append_bytes h.part some h.is_bytes all) (ap (λ (xs : List ℕ). passes coming.test xs) (sym f) ∙ fails) in
    let r : reason ≡ reason_of coming.field (h.part ++ some) = e4 ∙ ap (λ (xs : List ℕ). reason_of coming.field xs) f in
    let q : taken + n ≡ length (bytes ++ some) = omega (arith, k, t, e2) in
    rw (o, r, e1, m.bytes_are, m.begun_is) (record { stage = s.stage_is; whole = x.whole; taken = q ∙ ap (λ (xs : List ℕ). length xs) m.bytes_are; refusal = x.refuses })

-- a byte behind the end mark
pub after_taken :
    (stage : Stage) (begun : List ℕ) (begun_at place taken : ℕ) (refused : Option Refusal) (h : Holds stage begun begun_at place taken) (byte : ℕ) (new : List ℕ) → HasEnded stage h.fields h.part → new ≡ begun ++ byte ∷ []
    → (bytes : List ℕ) (items : List Item) → HasTaken (record { stage = stage; begun = begun; taken = taken; refusal = refused }) bytes items
    → HasTaken (record { stage = stage; begun = new; taken = taken + 1; refusal = Some (record { reason = AfterEnd; offset = taken }) }) (bytes ++ byte ∷ []) items
after_taken stage begun begun_at place taken refused h byte new ended e1 bytes items has =
    let s : Stands stage begun bytes items h.fields h.part = of_taken stage begun begun_at place taken h (record { stage = stage; begun = begun; taken = taken; refusal = refused }) bytes items refl refl has in
    let P : List (List ℕ) → Type 0 = λ (fs : List (List ℕ)). IsReached items fs in
    let o : IsOver items = over_all items (subst P ended.no_field s.reached) (ap (λ (x : Stage). x.over) (sym s.stage_is) ∙ ended.over) in
    let e : begun ≡ [] = s.begun_is ∙ rw (ended.no_field, ended.no_part) refl in
    let f : bytes ≡ bytes_at items [] = s.bytes_are ∙ rw (ended.no_field, ended.no_part) (append-nil (bytes_at items [])) in
    let t : taken ≡ length (bytes_at items []) = has.taken ∙ ap (λ (xs : List ℕ). length xs) f in
    let k : length (bytes_at items [] ++ byte ∷ []) ≡ length (bytes_at items []) + 1 = length-append (bytes_at items []) (byte ∷ []) in
    let x : IsStopped items [] (byte ∷ []) (record { reason = AfterEnd; offset = length (bytes_at items []) }) = o.after byte in
    rw (e1, e, f, t) (record { stage = s.stage_is; whole = x.whole; taken = sym k; refusal = x.refuses })

-- the field is accepted
pub field_stands :
    (stage : Stage) (begun bytes : List ℕ) (items : List Item) (fields : List (List ℕ)) (part some new front : List ℕ) (begun_at n : ℕ) (coming : Coming) → Stands stage begun bytes items fields part → IsDue stage fields part coming
    → begun_at ≡ length (flat fields) → new ≡ begun ++ some → n ≡ length some → length part + n ≡ test_width coming.test → front ≡ new → IsBytes (part ++ some)
    → passes coming.test (take (length front - begun_at) (drop begun_at front)) ≡ true → Stands stage new (bytes ++ some) items (fields ++ (part ++ some) ∷ []) []
field_stands stage begun bytes items fields part some new front begun_at n coming s d e0 e1 e2 width e3 all holds =
    let f : take (length front - begun_at) (drop begun_at front) ≡ part ++ some = field_is begun (flat fields) part some new front begun_at s.begun_is e0 e1 e3 in
    let l : length (part ++ some) ≡ length part + length some = length-append part some in
    let w : length (part ++ some) ≡ test_width coming.test = omega (arith, l, e2, width) in
    rw e1 (stands_field stage (begun ++ some) (bytes ++ some) items fields (part ++ some) (next_in_code coming) (stands_more stage begun bytes items fields part some s) d.next_is w
    all (ap (λ (xs : List ℕ). passes coming.test xs) (sym f) ∙ holds))
