-- What a reader ensures of the last byte of a field that is accepted: where a field comes next, and where the item is whole.
use Rattle.std.proofs.Common.{ℕ, ◌≡◌, ◌<◌, ◌≤◌, ◌+◌, ◌-◌, inl, Bool, cond, ◌==◌, true, false, List, [], ◌∷◌, ◌++◌, length, take, drop, Option, Some, None, refl, ap, sym, ◌∙◌, length-append, arith}
use Rattle.std.proofs.lemmas.List.{append-nil}
use Rattle.std.specs.Prelude.{is_some}
use Rattle.byteorder.specs.Endian.{big_number}
use Rattle.trace_format.specs.declared.item.Item.{Item}
use Rattle.trace_format.specs.declared.item.Item.TheVariants as item
use Rattle.trace_format.specs.declared.next.Coming.{Coming}
use Rattle.trace_format.specs.declared.refusal.Reason.{Reason}
use Rattle.trace_format.specs.declared.refusal.Reason.TheVariants.{AfterEnd}
use Rattle.trace_format.specs.declared.refusal.Refusal.{Refusal}
use Rattle.trace_format.specs.declared.trace.Header.{Header}
use Rattle.trace_format.specs.declared.trace.TheConstants.{SEQ_LIMIT}
use Rattle.trace_format.specs.Accepting.{Next, next_of}
use Rattle.trace_format.specs.Decoding.{end_in}
use Rattle.trace_format.specs.Flat.{SpellsItem, coming_at, next_in_code, option_in_code, passes, test_width}
use Rattle.trace_format.specs.Items.{given}
use Rattle.trace_format.specs.Holding.{Awaits, HasEnded, Holds}
use Rattle.trace_format.specs.Reached.{AreAccepted, IsBytes, bytes_at, flat, stage_of}
use Rattle.trace_format.specs.Refusing.{reason_of}
use Rattle.trace_format.specs.Taking.{HasTaken, Stage, next_stage}
use Rattle.trace_format.proofs.Decoded.{event_in, item_in}
use Rattle.trace_format.proofs.Format.{IsBounded, bounded_at}
use Rattle.trace_format.proofs.Front.{Fits, fits, spells}
use Rattle.trace_format.proofs.Spelling.{append_bytes, nil_bytes}
use Rattle.trace_format.proofs.Standing.{Stands, flat-append, has_taken, of_holds, of_taken, stands_whole, to_holds}
use Rattle.trace_format.proofs.Steps.{IsDue, accepted_of, begins, found}
use Rattle.trace_format.proofs.Outcomes.{after_taken, field_is, field_stands, refused_taken}

goes : (stage : Stage) (fields : List (List ℕ)) (next : Next) (over : Bool) → stage.over ≡ over → next_of stage fields ≡ Some next → stage.over ≡ false
goes stage fields next false e some = e
goes stage fields next true e some =
    let f : next_of stage fields ≡ None = rw e refl in
    let g : None ≡ Some next = sym f ∙ some in
    absurd (cc)

following_awaits :
    (stage : Stage) (begun bytes : List ℕ) (items : List Item) (fields : List (List ℕ)) (place : ℕ) (front : List ℕ) (following : Coming) → Stands stage begun bytes items fields [] → place ≡ length fields → front ≡ begun
    → coming_at stage place front ≡ Some following → Awaits stage fields []
following_awaits stage begun bytes items fields place front following s e1 e2 e3 =
    let c : next_of stage fields ≡ Some (next_in_code following) = found stage begun bytes items fields [] place front s e1 e2 ∙ ap option_in_code e3 in
    let f : Fits fields (next_in_code following) = fits stage fields (next_in_code following) (accepted_of stage begun bytes items fields [] s) c in
    record { next = next_in_code following; comes = c; short = f.some }

given_record : (bytes : List ℕ) (ends : Bool) → given (cond ends (item.End (end_in bytes)) (item.Event (event_in bytes))) ≡ cond ends (item.End (end_in bytes)) (item.Event (event_in bytes)) ∷ []
given_record bytes true = refl
given_record bytes false = refl

-- a field has come, and is accepted
pub record Came (stage : Stage) (begun : List ℕ) (begun_at place taken : ℕ) (h : Holds stage begun begun_at place taken) (some new : List ℕ) (n width : ℕ) : Type 0 where
  pub new_place : place + 1 ≡ length (h.fields ++ (h.part ++ some) ∷ [])
  pub new_begun : begun_at + width ≡ length (flat (h.fields ++ (h.part ++ some) ∷ []))
  pub new_taken : taken + n ≡ length ((bytes_at h.items h.fields ++ h.part) ++ some)
  pub all : (bytes : List ℕ) (items : List Item) → Stands stage begun bytes items h.fields h.part → Stands stage new (bytes ++ some) items (h.fields ++ (h.part ++ some) ∷ []) []
  pub mine : Stands stage new ((bytes_at h.items h.fields ++ h.part) ++ some) h.items (h.fields ++ (h.part ++ some) ∷ []) []
  pub accepted : AreAccepted stage [] (h.fields ++ (h.part ++ some) ∷ [])
  pub not_over : stage.over ≡ false

pub came :
    (stage : Stage) (begun : List ℕ) (begun_at place taken : ℕ) (coming : Coming) (h : Holds stage begun begun_at place taken) (some new front : List ℕ) (n : ℕ) → IsDue stage h.fields h.part coming
    → new ≡ begun ++ some → n ≡ length some → length h.part + n ≡ test_width coming.test → front ≡ new → IsBytes some
    → passes coming.test (take (length front - begun_at) (drop begun_at front)) ≡ true → Came stage begun begun_at place taken h some new n (test_width coming.test)
came stage begun begun_at place taken coming h some new front n d e1 e2 width e3 all holds =
    let go = λ (bytes : List ℕ) (items : List Item) (s : Stands stage begun bytes items h.fields h.part). field_stands stage begun bytes items h.fields h.part some new front begun_at n coming s d h.begun_at_is e1 e2 width e3 (append_bytes h.part some h.is_bytes all) holds in
    let m : Stands stage new ((bytes_at h.items h.fields ++ h.part) ++ some) h.items (h.fields ++ (h.part ++ some) ∷ []) [] = go (bytes_at h.items h.fields ++ h.part) h.items (of_holds stage begun begun_at place taken h) in
    let a : length (flat (h.fields ++ (h.part ++ some) ∷ [])) ≡ length (flat h.fields) + length (h.part ++ some) = ap (λ (xs : List ℕ). length xs) (flat-append h.fields (h.part ++ some)) ∙ length-append (flat h.fields) (h.part ++ some) in
    let l : length (h.part ++ some) ≡ length h.part + length some = length-append h.part some in
    let k : length ((bytes_at h.items h.fields ++ h.part) ++ some) ≡ length (bytes_at h.items h.fields ++ h.part) + length some = length-append (bytes_at h.items h.fields ++ h.part) some in
    let t : taken ≡ length (bytes_at h.items h.fields ++ h.part) = h.taken_is in
    let b : begun_at ≡ length (flat h.fields) = h.begun_at_is in
    let p : length (h.fields ++ (h.part ++ some) ∷ []) ≡ length h.fields + 1 = length-append h.fields ((h.part ++ some) ∷ []) in
    let q : place ≡ length h.fields = h.place_is in
    record {
      new_place = omega (arith, p, q);
      new_begun = omega (arith, a, l, b, e2, width);
      new_taken = omega (arith, k, t, e2);
      all = go;
      mine = m;
      accepted = accepted_of _ _ _ _ _ _ m;
      not_over = goes stage h.fields (next_in_code coming) stage.over refl d.next_is;
    }

-- .. and another field comes next
pub next_holds :
    (stage : Stage) (begun : List ℕ) (begun_at place taken : ℕ) (coming following : Coming) (h : Holds stage begun begun_at place taken) (some new front : List ℕ) (n : ℕ) → Came stage begun begun_at place taken h some new n (test_width coming.test)
    → front ≡ new → coming_at stage (place + 1) front ≡ Some following → Holds stage new (begun_at + test_width coming.test) (place + 1) (taken + n)
next_holds stage begun begun_at place taken coming following h some new front n k e1 e2 =
    to_holds stage new _ h.items (h.fields ++ (h.part ++ some) ∷ []) [] (begun_at + test_width coming.test) (place + 1) (taken + n) k.mine k.new_begun k.new_place k.new_taken
    (inl (following_awaits stage new _ h.items (h.fields ++ (h.part ++ some) ∷ []) (place + 1) front following k.mine k.new_place e1 e2)) nil_bytes

pub next_taken :
    (stage : Stage) (begun : List ℕ) (begun_at place taken : ℕ) (refused : Option Refusal) (coming following : Coming) (h : Holds stage begun begun_at place taken) (some new front : List ℕ) (n : ℕ)
    → Came stage begun begun_at place taken h some new n (test_width coming.test) → n ≡ length some
    → front ≡ new → coming_at stage (place + 1) front ≡ Some following → refused ≡ None → (bytes : List ℕ) (items : List Item)
    → HasTaken (record { stage = stage; begun = begun; taken = taken; refusal = refused }) bytes items
    → HasTaken (record { stage = stage; begun = new; taken = taken + n; refusal = refused }) (bytes ++ some) (items ++ [])
next_taken stage begun begun_at place taken refused coming following h some new front n k e0 e1 e2 none bytes items has =
    let s : Stands stage begun bytes items h.fields h.part = of_taken stage begun begun_at place taken h (record { stage = stage; begun = begun; taken = taken; refusal = refused }) bytes items refl refl has in
    let l : length (bytes ++ some) ≡ length bytes + length some = length-append bytes some in
    let t : taken ≡ length bytes = has.taken in
    rw (append-nil items, none) (has_taken stage new (bytes ++ some) items (h.fields ++ (h.part ++ some) ∷ []) [] (taken + n) (k.all bytes items s) (omega (arith, l, t, e0))
    (inl (following_awaits stage new _ h.items (h.fields ++ (h.part ++ some) ∷ []) (place + 1) front following k.mine k.new_place e1 e2)))

-- .. and the item is whole
pub none_next :
    (stage : Stage) (begun : List ℕ) (begun_at place taken : ℕ) (coming : Coming) (h : Holds stage begun begun_at place taken) (some new front : List ℕ) (n : ℕ) → Came stage begun begun_at place taken h some new n (test_width coming.test)
    → front ≡ new → coming_at stage (place + 1) front ≡ None → next_of stage (h.fields ++ (h.part ++ some) ∷ []) ≡ None
none_next stage begun begun_at place taken coming h some new front n k e1 e2 =
    found stage new _ h.items (h.fields ++ (h.part ++ some) ∷ []) [] (place + 1) front k.mine k.new_place e1 ∙ ap option_in_code e2

pub whole_spells :
    (stage : Stage) (begun : List ℕ) (begun_at place taken : ℕ) (coming : Coming) (h : Holds stage begun begun_at place taken) (some new front back : List ℕ) (n : ℕ) → Came stage begun begun_at place taken h some new n (test_width coming.test)
    → front ≡ new → back ≡ new → coming_at stage (place + 1) front ≡ None → SpellsItem stage.header back
whole_spells stage begun begun_at place taken coming h some new front back n k e1 e2 e3 =
    let e : back ≡ flat (h.fields ++ (h.part ++ some) ∷ []) = e2 ∙ k.mine.begun_is ∙ append-nil (flat (h.fields ++ (h.part ++ some) ∷ [])) in
    rw e (spells stage (h.fields ++ (h.part ++ some) ∷ []) k.accepted k.not_over (none_next stage begun begun_at place taken coming h some new front n k e1 e3))

pub whole_stands :
    (stage : Stage) (begun : List ℕ) (begun_at place taken : ℕ) (coming : Coming) (h : Holds stage begun begun_at place taken) (some new front back : List ℕ) (n : ℕ) (it : Item)
    → Came stage begun begun_at place taken h some new n (test_width coming.test)
    → front ≡ new → back ≡ new → coming_at stage (place + 1) front ≡ None → it ≡ item_in stage.header back → (bytes : List ℕ) (items : List Item) → Stands stage begun bytes items h.fields h.part
    → Stands (next_stage stage it) [] (bytes ++ some) (items ++ it ∷ []) [] []
whole_stands stage begun begun_at place taken coming h some new front back n it k e1 e2 e3 e4 bytes items s =
    let e : it ≡ item_in stage.header new = e4 ∙ ap (λ (xs : List ℕ). item_in stage.header xs) e2 in
    rw e (stands_whole stage new (bytes ++ some) items (h.fields ++ (h.part ++ some) ∷ []) (k.all bytes items s) k.not_over (none_next stage begun begun_at place taken coming h some new front n k e1 e3))

pub record InRange (stage : Stage) : Type 0 where
  pub count : stage.count ≤ SEQ_LIMIT
  pub least : stage.least ≤ SEQ_LIMIT

pub in_range : (stage : Stage) (begun bytes : List ℕ) (items : List Item) (fields : List (List ℕ)) (part : List ℕ) → Stands stage begun bytes items fields part → InRange stage
in_range stage begun bytes items fields part s =
    let b : IsBounded items fields = bounded_at items fields s.reached in
    let c : stage.count ≡ (stage_of items).count = ap (λ (x : Stage). x.count) s.stage_is in
    let l : stage.least ≡ (stage_of items).least = ap (λ (x : Stage). x.least) s.stage_is in
    record { count = omega (arith, c, b.count, b.least); least = omega (arith, l, b.least) }

pub whole_holds :
    (stage after : Stage) (begun : List ℕ) (begun_at place taken : ℕ) (coming : Coming) (h : Holds stage begun begun_at place taken) (some new front back none : List ℕ) (n : ℕ) (it : Item)
    → Came stage begun begun_at place taken h some new n (test_width coming.test)
    → front ≡ new → back ≡ new → coming_at stage (place + 1) front ≡ None → it ≡ item_in stage.header back → after ≡ next_stage stage it → none ≡ [] → Holds after none 0 0 (taken + n)
whole_holds stage after begun begun_at place taken coming h some new front back none n it k e1 e2 e3 e4 e5 e6 =
    rw (e5, e6) (to_holds (next_stage stage it) [] _ (h.items ++ it ∷ []) [] [] 0 0 (taken + n)
    (whole_stands stage begun begun_at place taken coming h some new front back n it k e1 e2 e3 e4 _ h.items (of_holds stage begun begun_at place taken h)) refl refl k.new_taken (begins (next_stage stage it) _ refl) nil_bytes)

pub given_is : (header : Option Header) (bytes : List ℕ) → given (item_in header bytes) ≡ item_in header bytes ∷ []
given_is None bytes = refl
given_is (Some header) bytes = given_record bytes (big_number 1 bytes == 0)

pub whole_taken :
    (stage after : Stage) (begun : List ℕ) (begun_at place taken : ℕ) (refused : Option Refusal) (coming : Coming) (h : Holds stage begun begun_at place taken) (some new front back none : List ℕ) (n : ℕ) (it : Item)
    → Came stage begun begun_at place taken h some new n (test_width coming.test) → n ≡ length some
    → front ≡ new → back ≡ new → coming_at stage (place + 1) front ≡ None → it ≡ item_in stage.header back → after ≡ next_stage stage it → none ≡ [] → refused ≡ None → (bytes : List ℕ) (items : List Item)
    → HasTaken (record { stage = stage; begun = begun; taken = taken; refusal = refused }) bytes items
    → HasTaken (record { stage = after; begun = none; taken = taken + n; refusal = refused }) (bytes ++ some) (items ++ given it)
whole_taken stage after begun begun_at place taken refused coming h some new front back none n it k e0 e1 e2 e3 e4 e5 e6 unrefused bytes items has =
    let s : Stands stage begun bytes items h.fields h.part = of_taken stage begun begun_at place taken h (record { stage = stage; begun = begun; taken = taken; refusal = refused }) bytes items refl refl has in
    let l : length (bytes ++ some) ≡ length bytes + length some = length-append bytes some in
    let t : taken ≡ length bytes = has.taken in
    let g : given it ≡ it ∷ [] = rw e4 (given_is stage.header back) in
    rw (g, e5, e6, unrefused) (has_taken (next_stage stage it) [] (bytes ++ some) (items ++ it ∷ []) [] [] (taken + n)
    (whole_stands stage begun begun_at place taken coming h some new front back n it k e1 e2 e3 e4 bytes items s) (omega (arith, l, t, e0)) (begins (next_stage stage it) _ refl))

-- the same in the words of the code
pub next_holds_by :
    (stage : Stage) (begun : List ℕ) (begun_at place taken : ℕ) (coming following : Coming) (h : Holds stage begun begun_at place taken) (some new front : List ℕ) (n width : ℕ) → Came stage begun begun_at place taken h some new n (test_width coming.test)
    → front ≡ new → coming_at stage (place + 1) front ≡ Some following → width ≡ test_width coming.test → Holds stage new (begun_at + width) (place + 1) (taken + n)
next_holds_by stage begun begun_at place taken coming following h some new front n width k e1 e2 e3 = rw e3 (next_holds stage begun begun_at place taken coming following h some new front n k e1 e2)

pub refused_by :
    (stage : Stage) (begun : List ℕ) (begun_at place taken : ℕ) (refused : Option Refusal) (coming : Coming) (h : Holds stage begun begun_at place taken) (some new front : List ℕ) (n width : ℕ) (reason : Reason) → IsDue stage h.fields h.part coming
    → new ≡ begun ++ some → n ≡ length some → length h.part + n ≡ test_width coming.test → front ≡ new → IsBytes some
    → passes coming.test (take (length front - begun_at) (drop begun_at front)) ≡ false → reason ≡ reason_of coming.field (take (length front - begun_at) (drop begun_at front)) → width ≡ test_width coming.test
    → (bytes : List ℕ) (items : List Item) → HasTaken (record { stage = stage; begun = begun; taken = taken; refusal = refused }) bytes items
    → HasTaken (record { stage = stage; begun = new; taken = taken + n; refusal = Some (record { reason = reason; offset = taken + n - width }) }) (bytes ++ some) items
refused_by stage begun begun_at place taken refused coming h some new front n width reason d e1 e2 w e3 all fails e4 e5 bytes items has =
    rw e5 (refused_taken stage begun begun_at place taken refused coming h some new front n reason d e1 e2 w e3 all fails e4 bytes items has)

pub some_of : (o : Option Coming) → true ≡ is_some o → (x : Coming) × (o ≡ Some x)
some_of None e = absurd (cc)
some_of (Some x) e = (x, refl)

pub none_of : (o : Option Coming) → false ≡ is_some o → o ≡ None
none_of None e = refl
none_of (Some x) e = absurd (cc)

pub take_one : (xs : List ℕ) → 0 < length xs → (b : ℕ) × (take 1 xs ≡ b ∷ [])
take_one [] h = absurd (omega arith)
take_one (x ∷ xs) h = (x, refl)

pub after_by :
    (stage : Stage) (begun : List ℕ) (begun_at place taken : ℕ) (refused : Option Refusal) (h : Holds stage begun begun_at place taken) (piece new : List ℕ) → HasEnded stage h.fields h.part → new ≡ begun ++ take 1 piece → 0 < length piece
    → (bytes : List ℕ) (items : List Item) → HasTaken (record { stage = stage; begun = begun; taken = taken; refusal = refused }) bytes items
    → HasTaken (record { stage = stage; begun = new; taken = taken + 1; refusal = Some (record { reason = AfterEnd; offset = taken }) }) (bytes ++ take 1 piece) items
after_by stage begun begun_at place taken refused h piece new ended e some bytes items has =
    let o = take_one piece some in
    rw o.1 (after_taken stage begun begun_at place taken refused h o.0 new ended (e ∙ ap (λ (xs : List ℕ). begun ++ xs) o.1) bytes items has)

pub empty_of : (stage : Stage) (begun : List ℕ) (begun_at place taken : ℕ) (h : Holds stage begun begun_at place taken) → HasEnded stage h.fields h.part → length begun ≡ 0
empty_of stage begun begun_at place taken h gone =
    let e : begun ≡ [] = h.begun_is ∙ rw (gone.no_field, gone.no_part) refl in
    ap (λ (xs : List ℕ). length xs) e

pub field_length : (begun fields part some new front : List ℕ) (begun_at : ℕ) → begun ≡ fields ++ part → begun_at ≡ length fields → new ≡ begun ++ some → front ≡ new → length (take (length front - begun_at) (drop begun_at front)) ≡ length part + length some
field_length begun fields part some new front begun_at e1 e2 e3 e4 = ap (λ (xs : List ℕ). length xs) (field_is begun fields part some new front begun_at e1 e2 e3 e4) ∙ length-append part some
