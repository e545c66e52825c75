-- The end of the bytes: they are a whole trace, or they end too early.
use Rattle.std.proofs.Common.{ℕ, ◌≡◌, inl, inr, true, false, List, [], length, Option, Some, None, refl, ap, sym, ◌∙◌, subst}
use Rattle.std.proofs.lemmas.List.{append-nil}
use Rattle.trace_format.specs.declared.item.Item.{Item}
use Rattle.trace_format.specs.declared.refusal.Refusal.{Refusal}
use Rattle.trace_format.specs.Accepting.{next_of}
use Rattle.trace_format.specs.Holding.{Awaits, HasEnded, Holds, Rests}
use Rattle.trace_format.specs.Reached.{IsReached, bytes_at}
use Rattle.trace_format.specs.Taking.{HasTaken, Stage}
use Rattle.trace_format.proofs.Format.{IsOver, over_all}
use Rattle.trace_format.proofs.Standing.{Stands, of_taken}
use Rattle.trace_format.specs.declared.refusal.Reason.TheVariants.{Truncated}
use Rattle.trace_format.specs.Items.{IsRead}
use Rattle.trace_format.specs.Refusing.{IsTruncated}
use Rattle.trace_format.proofs.Format.{IsPart, part_come}

ended : (stage : Stage) (fields : List (List ℕ)) (part : List ℕ) → Rests stage fields part → stage.over ≡ true → HasEnded stage fields part
ended stage fields part (inl awaits) e =
    let f : next_of stage fields ≡ None = rw e refl in
    let g : None ≡ Some awaits.next = sym f ∙ awaits.comes in
    absurd (cc)
ended stage fields part (inr gone) e = gone

waits : (stage : Stage) (fields : List (List ℕ)) (part : List ℕ) → Rests stage fields part → stage.over ≡ false → Awaits stage fields part
waits stage fields part (inl awaits) e = awaits
waits stage fields part (inr gone) e =
    let g : true ≡ false = sym gone.over ∙ e in
    absurd (cc)

pub read_of :
    (stage : Stage) (begun : List ℕ) (begun_at place taken : ℕ) (refused : Option Refusal) (h : Holds stage begun begun_at place taken) → stage.over ≡ true → (bytes : List ℕ) (items : List Item)
    → HasTaken (record { stage = stage; begun = begun; taken = taken; refusal = refused }) bytes items → IsRead bytes items
read_of stage begun begun_at place taken refused h over bytes items has =
    let s : Stands stage begun bytes items h.fields h.part = of_taken stage begun begun_at place taken h (record { stage = stage; begun = begun; taken = taken; refusal = refused }) bytes items refl refl has in
    let w : HasEnded stage h.fields h.part = ended stage h.fields h.part h.rests over in
    let P : List (List ℕ) → Type 0 = λ (fs : List (List ℕ)). IsReached items fs in
    let o : IsOver items = over_all items (subst P w.no_field s.reached) (ap (λ (x : Stage). x.over) (sym s.stage_is) ∙ over) in
    let f : bytes ≡ bytes_at items [] = s.bytes_are ∙ rw (w.no_field, w.no_part) (append-nil (bytes_at items [])) in
    rw f o.read

pub truncated_of :
    (stage : Stage) (begun : List ℕ) (begun_at place taken : ℕ) (refused : Option Refusal) (h : Holds stage begun begun_at place taken) → refused ≡ None → stage.over ≡ false → (bytes : List ℕ) (items : List Item)
    → HasTaken (record { stage = stage; begun = begun; taken = taken; refusal = refused }) bytes items → IsTruncated bytes (record { reason = Truncated; offset = taken })
truncated_of stage begun begun_at place taken refused h unrefused over bytes items has =
    let s : Stands stage begun bytes items h.fields h.part = of_taken stage begun begun_at place taken h (record { stage = stage; begun = begun; taken = taken; refusal = refused }) bytes items refl refl has in
    let a : Awaits stage h.fields h.part = waits stage h.fields h.part h.rests over in
    let p : IsPart items h.fields h.part = part_come items h.fields a.next h.part s.reached (ap (λ (x : Stage). next_of x h.fields) (sym s.stage_is) ∙ a.comes) a.short in
    let t : taken ≡ length bytes = has.taken in
    rw t (rw s.bytes_are (record { not_refused = p.unrefused; not_whole = p.unwritten; reason = refl; offset = refl }))
