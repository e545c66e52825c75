-- The steps of a reader, by what its fields are before and after.
use Rattle.std.proofs.Common.{ℕ, ◌≡◌, ◌<◌, ◌≤◌, ◌+◌, inl, inr, Bool, true, false, List, [], length, Option, Some, None, refl, ap, sym, ◌∙◌, subst, arith}
use Rattle.trace_format.specs.declared.item.Item.{Item}
use Rattle.trace_format.specs.declared.next.Coming.{Coming}
use Rattle.trace_format.specs.declared.trace.Header.{Header}
use Rattle.trace_format.specs.Accepting.{Next, next_in, next_of}
use Rattle.trace_format.specs.Flat.{coming_at, next_in_code, option_in_code, reason_width, test_width}
use Rattle.trace_format.specs.Holding.{HasEnded, Rests}
use Rattle.trace_format.specs.Reached.{AreAccepted, flat}
use Rattle.trace_format.specs.Taking.{Stage}
use Rattle.trace_format.proofs.Comes.{comes}
use Rattle.trace_format.proofs.Front.{Fits, fits}
use Rattle.trace_format.proofs.Standing.{Stands}

pub accepted_of : (stage : Stage) (begun bytes : List ℕ) (items : List Item) (fields : List (List ℕ)) (part : List ℕ) → Stands stage begun bytes items fields part → AreAccepted stage [] fields
accepted_of stage begun bytes items fields part s =
    let P : Stage → Type 0 = λ (x : Stage). AreAccepted x [] fields in
    subst P (sym s.stage_is) s.reached.accepted

-- what the code found to come next is what comes next
pub found :
    (stage : Stage) (begun bytes : List ℕ) (items : List Item) (fields : List (List ℕ)) (part : List ℕ) (place : ℕ) (front : List ℕ) → Stands stage begun bytes items fields part → place ≡ length fields → front ≡ begun
    → next_of stage fields ≡ option_in_code (coming_at stage place front)
found stage begun bytes items fields part place front s e1 e2 =
    rw (e1, e2, s.begun_is) (comes stage fields part (accepted_of stage begun bytes items fields part s))

-- a reader stands in front of a field, or in it
pub record IsDue (stage : Stage) (fields : List (List ℕ)) (part : List ℕ) (coming : Coming) : Type 0 where
  pub next_is : next_of stage fields ≡ Some (next_in_code coming)
  pub short : length part < test_width coming.test
  pub some : 1 ≤ test_width coming.test
  pub room : length (flat fields) + test_width coming.test ≤ 60
  pub told : reason_width coming.field ≤ test_width coming.test

pub some_is : {a b : Next} → Some a ≡ Some b → a ≡ b
some_is {a = a} {b = b} e = cc

pub short_of : (stage : Stage) (fields : List (List ℕ)) (part : List ℕ) (next : Next) → Rests stage fields part → next_of stage fields ≡ Some next → length part < next.width
short_of stage fields part next (inl awaits) e =
    let same : awaits.next ≡ next = some_is (sym awaits.comes ∙ e) in
    let P : Next → Type 0 = λ (n : Next). length part < n.width in
    subst P same awaits.short
short_of stage fields part next (inr ended) e =
    let f : next_of stage fields ≡ None = rw ended.over refl in
    let g : None ≡ Some next = sym f ∙ e in
    absurd (cc)

pub due :
    (stage : Stage) (begun bytes : List ℕ) (items : List Item) (fields : List (List ℕ)) (part : List ℕ) (place : ℕ) (front : List ℕ) (coming : Coming) → Stands stage begun bytes items fields part → Rests stage fields part
    → place ≡ length fields → front ≡ begun → coming_at stage place front ≡ Some coming → IsDue stage fields part coming
due stage begun bytes items fields part place front coming s rests e1 e2 e3 =
    let n : next_of stage fields ≡ Some (next_in_code coming) = found stage begun bytes items fields part place front s e1 e2 ∙ ap option_in_code e3 in
    let f : Fits fields (next_in_code coming) = fits stage fields (next_in_code coming) (accepted_of stage begun bytes items fields part s) n in
    record { next_is = n; short = short_of stage fields part (next_in_code coming) rests n; some = f.some; room = f.room; told = f.told }

pub over_of : (stage : Stage) (fields : List (List ℕ)) (part : List ℕ) → Rests stage fields part → next_of stage fields ≡ None → HasEnded stage fields part
over_of stage fields part (inl awaits) e =
    let g : None ≡ Some awaits.next = sym e ∙ awaits.comes in
    absurd (cc)
over_of stage fields part (inr ended) e = ended

-- at the stage at which an item begins
pub begins_in : (stage : Stage) (header : Option Header) → (next : Next) × (next_in stage header [] ≡ Some next) × (0 < next.width)
begins_in stage None = (_, refl, omega arith)
begins_in stage (Some header) = (_, refl, omega arith)

pub begins : (stage : Stage) (over : Bool) → stage.over ≡ over → Rests stage [] []
begins stage true e = inr (record { over = e; no_field = refl; no_part = refl })
begins stage false e =
    let b = begins_in stage stage.header in
    let f : next_of stage [] ≡ next_in stage stage.header [] = rw e refl in
    inl (record { next = b.0; comes = f ∙ b.1; short = b.2 })
