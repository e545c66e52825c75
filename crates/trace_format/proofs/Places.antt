-- Two places in the same bytes: the one lies before the other, or they are the same.
use Rattle.std.proofs.Common.{◌≡◌, ℕ, false, List, [], ◌∷◌, ◌++◌, None, ⊎_elim, refl, sym, ap, subst, ◌∙◌, append_assoc, append-nil}
use Rattle.trace_format.specs.declared.item.Item.{Item}
use Rattle.trace_format.specs.declared.trace.TheConstants.{SEQ_LIMIT}
use Rattle.trace_format.specs.Accepting.{next_of}
use Rattle.trace_format.specs.Fields.{Spelt}
use Rattle.trace_format.specs.Items.{item_bytes, item_fields, items_bytes}
use Rattle.trace_format.specs.Reached.{AreAccepted, IsAccepted, flat}
use Rattle.trace_format.specs.Taking.{Stage, next_stage, stage_from}
use Rattle.trace_format.proofs.Completed.{IsGood, good_next, open_of}
use Rattle.trace_format.proofs.Following.{Follow}
use Rattle.trace_format.proofs.Lists.{fields_from, items_fields, named_at}
use Rattle.trace_format.proofs.Rows.{IsItemBelow, IsOpen, bytes_in, named, named_from, reads_item, spelt_next}
use Rattle.trace_format.proofs.SameBytes.{IsFront, accepted_at, either_front, front_of_item, same_item}

-- a place behind items, and behind fields of the next item. An item whose fields are whole counts as an item.
pub record IsPlace (stage : Stage) (items : List Item) (fields : List (List ℕ)) : Type 0 where
  pub follow : Follow SEQ_LIMIT stage items
  pub accepted : AreAccepted (stage_from stage items) [] fields
  pub settled : (stage_from stage items).over ≡ false → next_of (stage_from stage items) fields ≡ None → ⊥

-- the bytes behind the place go on with a field that is accepted there, and all these fields have it
pub record Ahead (stage : Stage) (items : List Item) (fields : List (List ℕ)) (x : List ℕ) (all : List Spelt) : Type 0 where
  pub bytes : List ℕ
  pub left : List ℕ
  pub accepted : IsAccepted (stage_from stage items) fields bytes
  pub x_is : x ≡ bytes ++ left
  pub more : List Spelt
  pub fields_are : all ≡ fields_from stage items fields ++ spelt_next (next_of (stage_from stage items) fields) bytes ∷ more

pub data Compared (stage : Stage) (one : List Item) (fs : List (List ℕ)) (x : List ℕ) (other : List Item) (gs : List (List ℕ)) (y : List ℕ) : Type 0 where
  before : Ahead stage one fs x (fields_from stage other gs) → Compared stage one fs x other gs y
  here : one ≡ other → fs ≡ gs → x ≡ y → Compared stage one fs x other gs y
  behind : Ahead stage other gs y (fields_from stage one fs) → Compared stage one fs x other gs y

-- a field more in all of the fields of an item
ahead_in : (stage : Stage) (fs gs : List (List ℕ)) (bytes : List ℕ) (more : List (List ℕ)) (x y : List ℕ) (tail : List Spelt) → AreAccepted stage [] gs → gs ≡ fs ++ bytes ∷ more → x ≡ flat (bytes ∷ more) ++ y → Ahead stage [] fs x (named stage gs ++ tail)
ahead_in stage fs gs bytes more x y tail accepted fields same =
    record {
      bytes = bytes;
      left = flat more ++ y;
      accepted = accepted_at stage [] fs bytes more (subst (λ (hs : List (List ℕ)). AreAccepted stage [] hs) fields accepted);
      x_is = same ∙ append_assoc bytes (flat more) y;
      more = named_from stage (fs ++ bytes ∷ []) more ++ tail;
      fields_are =
          ap (λ (hs : List (List ℕ)). named stage hs ++ tail) fields
          ∙ ap (λ (ss : List Spelt). ss ++ tail) (named_at stage fs bytes more)
          ∙ append_assoc (named stage fs) (spelt_next (next_of stage fs) bytes ∷ named_from stage (fs ++ bytes ∷ []) more) tail;
    }

-- the place lies in the next item
pub ahead_item :
    (stage : Stage) (fs : List (List ℕ)) (it : Item) (x y : List ℕ) (tail : List Spelt) → IsOpen stage → AreAccepted stage [] fs → (next_of stage fs ≡ None → ⊥) → IsItemBelow SEQ_LIMIT stage it → flat fs ++ x ≡ item_bytes it ++ y
    → Ahead stage [] fs x (item_fields it ++ tail)
ahead_item stage fs it x y tail goes accepted settled is_item same = go front.more front.fields_are front.bytes_are
  where
    front : IsFront fs (bytes_in (item_fields it)) x y
    front = front_of_item stage fs it x y goes accepted is_item same

    go : (more : List (List ℕ)) → bytes_in (item_fields it) ≡ fs ++ more → x ≡ flat more ++ y → Ahead stage [] fs x (item_fields it ++ tail)
    go [] fields bytes = absurd (settled (ap (λ (hs : List (List ℕ)). next_of stage hs) (sym (append-nil fs) ∙ sym fields) ∙ (reads_item stage it goes is_item).none))
    go (m ∷ more) fields bytes =
        let reads = reads_item stage it goes is_item in
        subst (λ (ss : List Spelt). Ahead stage [] fs x (ss ++ tail)) (sym reads.names) (ahead_in stage fs (bytes_in (item_fields it)) m more x y tail reads.accepted fields bytes)

-- the same with an item before both places
fields_first : (stage : Stage) (it : Item) (items : List Item) (fields : List (List ℕ)) → fields_from stage (it ∷ items) fields ≡ item_fields it ++ fields_from (next_stage stage it) items fields
fields_first stage it items fields = append_assoc (item_fields it) (items_fields items) (named (stage_from (next_stage stage it) items) fields)

ahead_first : (stage : Stage) (it : Item) (items other : List Item) (fs gs : List (List ℕ)) (x : List ℕ) → Ahead (next_stage stage it) items fs x (fields_from (next_stage stage it) other gs) → Ahead stage (it ∷ items) fs x (fields_from stage (it ∷ other) gs)
ahead_first stage it items other fs gs x ahead =
    record {
      bytes = ahead.bytes;
      left = ahead.left;
      accepted = ahead.accepted;
      x_is = ahead.x_is;
      more = ahead.more;
      fields_are =
          let field = spelt_next (next_of (stage_from (next_stage stage it) items) fs) ahead.bytes in
          fields_first stage it other gs
          ∙ ap (λ (ss : List Spelt). item_fields it ++ ss) ahead.fields_are
          ∙ sym (append_assoc (item_fields it) (fields_from (next_stage stage it) items fs) (field ∷ ahead.more))
          ∙ ap (λ (ss : List Spelt). ss ++ field ∷ ahead.more) (sym (fields_first stage it items fs));
    }

compared_first : (stage : Stage) (it : Item) (one other : List Item) (fs gs : List (List ℕ)) (x y : List ℕ) → Compared (next_stage stage it) one fs x other gs y → Compared stage (it ∷ one) fs x (it ∷ other) gs y
compared_first stage it one other fs gs x y (before ahead) = before (ahead_first stage it one other fs gs x ahead)
compared_first stage it one other fs gs x y (here items fields same) = here (ap (λ (its : List Item). it ∷ its) items) fields same
compared_first stage it one other fs gs x y (behind ahead) = behind (ahead_first stage it other one gs fs y ahead)

same_rest : (a u v b : List ℕ) → (a ++ u) ++ v ≡ b → a ++ (u ++ v) ≡ b
same_rest a u v b same = sym (append_assoc a u v) ∙ same

compared_here : (stage : Stage) (fs gs : List (List ℕ)) (x y : List ℕ) → AreAccepted stage [] fs → AreAccepted stage [] gs → flat fs ++ x ≡ flat gs ++ y → Compared stage [] fs x [] gs y
compared_here stage fs gs x y one other same = ⊎_elim (λ (r : IsFront fs gs x y). up r.more r.fields_are r.bytes_are) (λ (r : IsFront gs fs y x). down r.more r.fields_are r.bytes_are) (either_front stage [] fs gs x y one other same)
  where
    up : (more : List (List ℕ)) → gs ≡ fs ++ more → x ≡ flat more ++ y → Compared stage [] fs x [] gs y
    up [] fields bytes = here refl (sym (append-nil fs) ∙ sym fields) bytes
    up (m ∷ more) fields bytes = before (subst (λ (ss : List Spelt). Ahead stage [] fs x ss) (append-nil (named stage gs)) (ahead_in stage fs gs m more x y [] other fields bytes))

    down : (more : List (List ℕ)) → fs ≡ gs ++ more → y ≡ flat more ++ x → Compared stage [] fs x [] gs y
    down [] fields bytes = here refl (fields ∙ append-nil gs) (sym bytes)
    down (m ∷ more) fields bytes = behind (subst (λ (ss : List Spelt). Ahead stage [] gs y ss) (append-nil (named stage fs)) (ahead_in stage gs fs m more y x [] one fields bytes))

-- the place before items, and the one behind some
ahead_items :
    (stage : Stage) (fs : List (List ℕ)) (x : List ℕ) (it : Item) (other : List Item) (gs : List (List ℕ)) (y : List ℕ) → IsGood stage → IsPlace stage [] fs → IsPlace stage (it ∷ other) gs → flat fs ++ x ≡ items_bytes (it ∷ other) ++ (flat gs ++ y)
    → Ahead stage [] fs x (fields_from stage (it ∷ other) gs)
ahead_items stage fs x it other gs y good one more same =
    let goes = open_of stage good more.follow.0 in
    let rest = fields_from (next_stage stage it) other gs in
    let bytes = same ∙ append_assoc (item_bytes it) (items_bytes other) (flat gs ++ y) in
    subst (λ (ss : List Spelt). Ahead stage [] fs x ss) (sym (fields_first stage it other gs))
    (ahead_item stage fs it x (items_bytes other ++ (flat gs ++ y)) rest goes one.accepted (one.settled more.follow.0) more.follow.1 bytes)

pub compare :
    (stage : Stage) (one : List Item) (fs : List (List ℕ)) (x : List ℕ) (other : List Item) (gs : List (List ℕ)) (y : List ℕ) → IsGood stage → IsPlace stage one fs → IsPlace stage other gs → items_bytes one ++ (flat fs ++ x) ≡ items_bytes other ++ (flat gs ++ y)
    → Compared stage one fs x other gs y
compare stage [] fs x [] gs y good first second same = compared_here stage fs gs x y first.accepted second.accepted same
compare stage [] fs x (it ∷ other) gs y good first second same = before (ahead_items stage fs x it other gs y good first second same)
compare stage (it ∷ one) fs x [] gs y good first second same = behind (ahead_items stage gs y it one fs x good second first (sym same))
compare stage (it ∷ one) fs x (that ∷ other) gs y good first second same =
    let goes = open_of stage good first.follow.0 in
    let bytes = same_rest (item_bytes it) (items_bytes one) (flat fs ++ x) (item_bytes that ++ (items_bytes other ++ (flat gs ++ y))) (same ∙ append_assoc (item_bytes that) (items_bytes other) (flat gs ++ y)) in
    let parts = same_item stage it that (items_bytes one ++ (flat fs ++ x)) (items_bytes other ++ (flat gs ++ y)) goes first.follow.1 second.follow.1 bytes in
    let moved = subst (λ (h : Item). IsPlace stage (h ∷ other) gs) (sym parts.0) second in
    let rest_one : IsPlace (next_stage stage it) one fs = record { follow = first.follow.2; accepted = first.accepted; settled = first.settled } in
    let rest_other : IsPlace (next_stage stage it) other gs = record { follow = moved.follow.2; accepted = moved.accepted; settled = moved.settled } in
    subst (λ (h : Item). Compared stage (it ∷ one) fs x (h ∷ other) gs y) parts.0
    (compared_first stage it one other fs gs x y (compare (next_stage stage it) one fs x other gs y (good_next stage it good first.follow.1) rest_one rest_other parts.1))
