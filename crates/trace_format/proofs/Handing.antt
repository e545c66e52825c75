-- What was read, taken and handed on so far, and how the reading of a trace's items ends by it.
use Rattle.std.proofs.Common.{ℕ, ◌≡◌, ◌<◌, ◌≤◌, ◌+◌, ◌-◌, List, [], ◌∷◌, ◌++◌, length, take, drop, Option, Some, None, inl, inr, refl, sym, ap, subst, ◌∙◌, append_assoc, length-append, arith}
use Rattle.std.proofs.KnownBytes.{Consumes-kept, Consumes-nil, Consumes-trans, Consumes-whole}
use Rattle.std.proofs.lemmas.List.{take-append-drop, take_all}
use Rattle.std.specs.Io.KnownBytes.{Consumes, IsAtEnd, Keeps}
use Rattle.trace_format.specs.declared.item.Item.{Item}
use Rattle.trace_format.specs.declared.read_end.ReadEnd.{ReadEnd}
use Rattle.trace_format.specs.declared.read_end.ReadEnd.TheVariants.{Whole, Refused, ReadFault, Stopped}
use Rattle.trace_format.specs.declared.refusal.Refusal.{Refusal}
use Rattle.trace_format.specs.Handing.{HandsOn, IsCutShort}
use Rattle.trace_format.specs.Inputs.{HasReadItems, IsInput, IsInputFront}
use Rattle.trace_format.specs.Items.{AreFirst, IsRead, given}
use Rattle.trace_format.specs.Refusing.{IsTruncated}
use Rattle.trace_format.specs.Taking.{HasTaken, IsRefusalOf, Reading}
use Rattle.trace_format.proofs.Along.{longest}
use Rattle.trace_format.proofs.Feeding.{RefusedIn, none_used, onward}

-- a call of the reader took more of the piece, and gave this item
abbrev Steps : Reading → Reading → (piece : List ℕ) (used more : ℕ) → Item → Type 0
Steps mid new piece used more it =
    (bytes : List ℕ) (items : List Item) → HasTaken mid bytes items
    → HasTaken new (bytes ++ take more (take (length piece - used) (drop used piece))) (items ++ given it)

-- nothing was taken of the piece
pub hands_none :
    (reading : Reading) (bytes piece : List ℕ) (Took : List Item → Type 0) → HandsOn reading bytes Took → HandsOn reading (bytes ++ take 0 piece) Took
hands_none reading bytes piece Took (items, has, took) = (items, none_used reading bytes piece items has, took)

-- one item more came and was handed on
pub hands_more :
    (mid new : Reading) (bytes piece : List ℕ) (used more : ℕ) (it : Item) (Took Now : List Item → Type 0) → HandsOn mid (bytes ++ take used piece) Took
    → Steps mid new piece used more it → ((items : List Item) → Took items → AreFirst (items ++ given it) → Now (items ++ given it))
    → HandsOn new (bytes ++ take (used + more) piece) Now
hands_more mid new bytes piece used more it Took Now (items, has, took) step hands =
    let after = onward new bytes piece used more (items ++ given it) (step (bytes ++ take used piece) items has) in
    (items ++ given it, after, hands items took after.whole.first)

-- the whole piece was taken
pub hands_whole :
    (reading : Reading) (bytes piece : List ℕ) (used : ℕ) (Took : List Item → Type 0) → length piece ≤ used → HandsOn reading (bytes ++ take used piece) Took
    → HandsOn reading (bytes ++ piece) Took
hands_whole reading bytes piece used Took all (items, has, took) =
    (items, subst (λ (taken : List ℕ). HasTaken reading (bytes ++ taken) items) (take_all used piece all) has, took)

-- the bytes before a piece, a front of it, and what is left
parted : (bytes piece : List ℕ) (n : ℕ) → bytes ++ piece ≡ (bytes ++ take n piece) ++ drop n piece
parted bytes piece n =
    sym (append_assoc bytes (take n piece) (drop n piece) ∙ ap (λ (xs : List ℕ). bytes ++ xs) (take-append-drop n piece))

-- the rest was refused
pub cut_refused :
    {Stop : Type 0} (refusal : Refusal) (mid new : Reading) (bytes piece : List ℕ) (used : ℕ) (Took : List Item → Type 0)
    (StoppedAt : List Item → Item → Stop → Type 0) → HandsOn mid (bytes ++ take used piece) Took → new.refusal ≡ Some refusal
    → RefusedIn mid new (take (length piece - used) (drop used piece)) → IsCutShort (Refused refusal) (bytes ++ piece) Took StoppedAt
cut_refused refusal mid new bytes piece used Took StoppedAt (items, has, took) is refused =
    let found = refused (bytes ++ take used piece) items has in
    let after = onward new bytes piece used found.0 items found.2 in (
      bytes ++ take (used + found.0) piece,
      drop (used + found.0) piece,
      items,
      parted bytes piece (used + found.0),
      subst (IsRefusalOf (bytes ++ take (used + found.0) piece)) is after.refusal,
      (new.begun, after.whole),
      took,
    )

-- the taker stopped at an item
pub cut_stopped :
    {Stop : Type 0} (stop : Stop) (mid new : Reading) (bytes piece : List ℕ) (used more : ℕ) (it : Item) (Took Now : List Item → Type 0)
    (StoppedAt : List Item → Item → Stop → Type 0) → HandsOn mid (bytes ++ take used piece) Took → Steps mid new piece used more it
    → given it ≡ it ∷ [] → ((items : List Item) → Took items → AreFirst (items ++ it ∷ []) → StoppedAt items it stop)
    → IsCutShort (Stopped stop) (bytes ++ piece) Now StoppedAt
cut_stopped stop mid new bytes piece used more it Took Now StoppedAt (items, has, took) step is stops =
    let after =
    subst (λ (one : List Item). HasTaken new (bytes ++ take (used + more) piece) (items ++ one)) is
    (onward new bytes piece used more (items ++ given it) (step (bytes ++ take used piece) items has)) in (
      bytes ++ take (used + more) piece,
      drop (used + more) piece,
      items,
      it,
      parted bytes piece (used + more),
      (new.begun, after.whole),
      stops items took after.whole.first,
    )

-- bytes were read, and their items handed on
abbrev pub ReadsSo : Reading → (left rest : Option (List ℕ)) → (List Item → Type 0) → Type 0
ReadsSo reading left rest Took = (bytes : List ℕ) × Consumes left rest bytes × HandsOn reading bytes Took

-- nothing was read
pub reads_none :
    (reading : Reading) (left : Option (List ℕ)) (Took : List Item → Type 0) → HasTaken reading [] [] → Took [] → ReadsSo reading left left Took
reads_none reading left Took has took = ([], Consumes-nil left, ([], has, took))

-- a piece was read
pub reads_more :
    (old new : Reading) (piece : List ℕ) (left mid rest : Option (List ℕ)) (Took Now : List Item → Type 0) → ReadsSo old left mid Took
    → Consumes mid rest piece → ((bytes : List ℕ) → HandsOn old bytes Took → HandsOn new (bytes ++ piece) Now) → ReadsSo new left rest Now
reads_more old new piece left mid rest Took Now (bytes, read, hands) more goes =
    (bytes ++ piece, Consumes-trans left mid rest bytes piece read more, goes bytes hands)

-- no bytes without a refusal are longer than the longest trace, so the bytes that may still come get fewer
pub reads_fewer :
    (old new : Reading) (piece : List ℕ) (left mid : Option (List ℕ)) (Took Now : List Item → Type 0) → ReadsSo old left mid Took
    → ((bytes : List ℕ) → HandsOn old bytes Took → HandsOn new (bytes ++ piece) Now) → new.refusal ≡ None → 0 < length piece
    → 157286427 - new.taken < 157286427 - old.taken
reads_fewer old new piece left mid Took Now (bytes, read, hands) goes unrefused some =
    let came = goes bytes hands in
    let few = longest (bytes ++ piece) (subst (IsRefusalOf (bytes ++ piece)) unrefused came.1.refusal) in
    let later : new.taken ≡ length (bytes ++ piece) = came.1.taken in
    let before : old.taken ≡ length bytes = hands.1.taken in
    omega (arith, few, later, before, some, length-append bytes piece)

-- the bytes that were taken are a front of the input
front_read : (left rest : Option (List ℕ)) (bytes taken behind : List ℕ) → Consumes left rest bytes → bytes ≡ taken ++ behind → IsInputFront left taken
front_read None rest bytes taken behind read cut = tt
front_read (Some text) None bytes taken behind read cut = absurd read
front_read (Some text) (Some others) bytes taken behind read cut =
    (behind ++ others, read ∙ ap (λ (xs : List ℕ). xs ++ others) cut ∙ append_assoc taken behind others)

-- .. and the whole of it, where no more is left
whole_read : (left rest : Option (List ℕ)) (bytes : List ℕ) → Consumes left rest bytes → IsAtEnd rest → IsInput left bytes
whole_read left rest bytes read none = Consumes-whole left rest bytes (λ (text : List ℕ). text ≡ bytes) read none refl

-- the reading ends where a piece was cut short
cut_at :
    {Stop : Type 0} (end : ReadEnd Stop) (bytes : List ℕ) (left rest : Option (List ℕ)) (Now : List Item → Type 0)
    (StoppedAt : List Item → Item → Stop → Type 0) → Consumes left rest bytes → IsCutShort end bytes Now StoppedAt
    → HasReadItems end left rest Now StoppedAt
cut_at Whole bytes left rest Now StoppedAt read cut = absurd cut
cut_at (Refused refusal) bytes left rest Now StoppedAt read (taken, behind, items, is, refuses, are, took) =
    (taken, items, inl (front_read left rest bytes taken behind read is, refuses), are, took)
cut_at ReadFault bytes left rest Now StoppedAt read cut = absurd cut
cut_at (Stopped stop) bytes left rest Now StoppedAt read (taken, behind, items, next, is, are, stops) =
    (taken, items, next, front_read left rest bytes taken behind read is, are, stops)

pub reads_cut :
    {Stop : Type 0} (end : ReadEnd Stop) (old : Reading) (piece : List ℕ) (left mid rest : Option (List ℕ)) (Took Now : List Item → Type 0)
    (StoppedAt : List Item → Item → Stop → Type 0) → ReadsSo old left mid Took → Consumes mid rest piece
    → ((bytes : List ℕ) → HandsOn old bytes Took → IsCutShort end (bytes ++ piece) Now StoppedAt) → HasReadItems end left rest Now StoppedAt
reads_cut end old piece left mid rest Took Now StoppedAt (bytes, read, hands) more cut =
    cut_at end (bytes ++ piece) left rest Now StoppedAt (Consumes-trans left mid rest bytes piece read more) (cut bytes hands)

-- a piece isn't where a read failed
pub reads_unfailed :
    {P Stop : Type 0} (end : ReadEnd Stop) (old : Reading) (piece : List ℕ) (left mid : Option (List ℕ)) (Took Now : List Item → Type 0)
    (StoppedAt : List Item → Item → Stop → Type 0) → ReadsSo old left mid Took
    → ((bytes : List ℕ) → HandsOn old bytes Took → IsCutShort end (bytes ++ piece) Now StoppedAt) → end ≡ ReadFault → P
reads_unfailed end old piece left mid Took Now StoppedAt (bytes, read, hands) cut failed =
    absurd (subst (λ (e : ReadEnd _). IsCutShort e (bytes ++ piece) Now StoppedAt) failed (cut bytes hands))

-- a read failed
pub reads_failed :
    {Stop : Type 0} (reading : Reading) (left mid rest : Option (List ℕ)) (Took : List Item → Type 0)
    (StoppedAt : List Item → Item → Stop → Type 0) → ReadsSo reading left mid Took → reading.refusal ≡ None → Keeps mid rest
    → HasReadItems ReadFault left rest Took StoppedAt
reads_failed reading left mid rest Took StoppedAt (bytes, read, (items, has, took)) unrefused kept = (
  bytes,
  items,
  Consumes-kept left mid rest bytes read kept,
  subst (IsRefusalOf bytes) unrefused has.refusal,
  (reading.begun, has.whole),
  took,
)

-- the input has come to its end, and is a trace
pub reads_whole :
    {Stop : Type 0} (reading : Reading) (left mid rest : Option (List ℕ)) (Took : List Item → Type 0)
    (StoppedAt : List Item → Item → Stop → Type 0) → ReadsSo reading left mid Took → IsAtEnd mid × Keeps mid rest
    → ((bytes : List ℕ) (items : List Item) → HasTaken reading bytes items → IsRead bytes items) → HasReadItems Whole left rest Took StoppedAt
reads_whole reading left mid rest Took StoppedAt (bytes, read, (items, has, took)) (none, kept) is_read =
    (bytes, items, whole_read left mid bytes read none, Consumes-kept left mid rest bytes read kept, is_read bytes items has, took)

-- .. or is cut
pub reads_truncated :
    {Stop : Type 0} (refusal : Refusal) (reading : Reading) (left mid rest : Option (List ℕ)) (Took : List Item → Type 0)
    (StoppedAt : List Item → Item → Stop → Type 0) → ReadsSo reading left mid Took → IsAtEnd mid
    → ((bytes : List ℕ) (items : List Item) → HasTaken reading bytes items → IsTruncated bytes refusal)
    → HasReadItems (Refused refusal) left rest Took StoppedAt
reads_truncated refusal reading left mid rest Took StoppedAt (bytes, read, (items, has, took)) none truncated =
    (bytes, items, inr (whole_read left mid bytes read none, truncated bytes items has), (reading.begun, has.whole), took)
