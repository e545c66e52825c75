-- Fields that were accepted, of the same bytes.
use Rattle.std.proofs.Common.{◌≡◌, ℕ, ◌⊎◌, List, [], ◌∷◌, ◌++◌, length, Option, Some, None, inl, inr, ⊎_elim, refl, sym, ap, ap₂, subst, ◌∙◌, append_assoc, append-nil}
use Rattle.trace_format.specs.declared.item.Item.{Item}
use Rattle.trace_format.specs.declared.trace.TheConstants.{SEQ_LIMIT}
use Rattle.trace_format.specs.Accepting.{Next, next_of}
use Rattle.trace_format.specs.Items.{item_bytes, item_fields}
use Rattle.trace_format.specs.Reached.{AreAccepted, IsAccepted, flat}
use Rattle.trace_format.specs.Taking.{Stage}
use Rattle.trace_format.proofs.Decoded.{item_in}
use Rattle.trace_format.proofs.Back.{item_back}
use Rattle.trace_format.proofs.Lists.{flat_bytes, split_same}
use Rattle.trace_format.proofs.Rows.{IsItemBelow, IsOpen, bytes_in, reads_item}

-- the bytes of one begin with the fields of the other
pub record IsFront (fields all : List (List ℕ)) (x y : List ℕ) : Type 0 where
  pub more : List (List ℕ)
  pub fields_are : all ≡ fields ++ more
  pub bytes_are : x ≡ flat more ++ y

pub one_next : (a b : Next) → Some a ≡ Some b → a ≡ b
one_next a b same = cc

pub no_next : (next : Next) (o : Option Next) → o ≡ Some next → o ≡ None → ⊥
no_next next o some none = cc

pub either_front : (stage : Stage) (before fs gs : List (List ℕ)) (x y : List ℕ) → AreAccepted stage before fs → AreAccepted stage before gs → flat fs ++ x ≡ flat gs ++ y → IsFront fs gs x y ⊎ IsFront gs fs y x
either_front stage before [] gs x y one other same = inl (record { more = gs; fields_are = refl; bytes_are = same })
either_front stage before (f ∷ fs) [] x y one other same = inr (record { more = f ∷ fs; fields_are = refl; bytes_are = sym same })
either_front stage before (f ∷ fs) (g ∷ gs) x y one other same =
    let next : one.0.next ≡ other.0.next = one_next one.0.next other.0.next (sym one.0.comes ∙ other.0.comes) in
    let long : length f ≡ length g = one.0.width ∙ ap (λ (n : Next). n.width) next ∙ sym other.0.width in
    let bytes : f ++ (flat fs ++ x) ≡ g ++ (flat gs ++ y) = sym (append_assoc f (flat fs) x) ∙ same ∙ append_assoc g (flat gs) y in
    let parts = split_same f g (flat fs ++ x) (flat gs ++ y) long bytes in
    let rest = subst (λ (h : List ℕ). AreAccepted stage (before ++ h ∷ []) gs) (sym parts.0) other.1 in
    ⊎_elim
    (λ (r : IsFront fs gs x y). inl (record { more = r.more; fields_are = ap₂ (λ (h : List ℕ) (hs : List (List ℕ)). h ∷ hs) (sym parts.0) r.fields_are; bytes_are = r.bytes_are }))
    (λ (r : IsFront gs fs y x). inr (record { more = r.more; fields_are = ap₂ (λ (h : List ℕ) (hs : List (List ℕ)). h ∷ hs) parts.0 r.fields_are; bytes_are = r.bytes_are }))
    (either_front stage (before ++ f ∷ []) fs gs x y one.1 rest parts.1)

-- the field behind others that were accepted
pub accepted_at : (stage : Stage) (before a : List (List ℕ)) (bytes : List ℕ) (more : List (List ℕ)) → AreAccepted stage before (a ++ bytes ∷ more) → IsAccepted stage (before ++ a) bytes
accepted_at stage before [] bytes more all = subst (λ (bs : List (List ℕ)). IsAccepted stage bs bytes) (sym (append-nil before)) all.0
accepted_at stage before (f ∷ a) bytes more all =
    subst (λ (bs : List (List ℕ)). IsAccepted stage bs bytes) (append_assoc before (f ∷ []) a) (accepted_at stage (before ++ f ∷ []) a bytes more all.1)

pub accepted_more : (stage : Stage) (before a : List (List ℕ)) (bytes : List ℕ) → AreAccepted stage before a → IsAccepted stage (before ++ a) bytes → AreAccepted stage before (a ++ bytes ∷ [])
accepted_more stage before [] bytes all one = (subst (λ (bs : List (List ℕ)). IsAccepted stage bs bytes) (append-nil before) one, tt)
accepted_more stage before (f ∷ a) bytes all one =
    (all.0, accepted_more stage (before ++ f ∷ []) a bytes all.1 (subst (λ (bs : List (List ℕ)). IsAccepted stage bs bytes) (sym (append_assoc before (f ∷ []) a)) one))

-- where no field comes behind the one, the other is its front
pub is_front : (stage : Stage) (fs gs : List (List ℕ)) (x y : List ℕ) → AreAccepted stage [] fs → AreAccepted stage [] gs → next_of stage gs ≡ None → flat fs ++ x ≡ flat gs ++ y → IsFront fs gs x y
is_front stage fs gs x y one other none same = ⊎_elim (λ (r : IsFront fs gs x y). r) (λ (r : IsFront gs fs y x). back r.more r.fields_are r.bytes_are) (either_front stage [] fs gs x y one other same)
  where
    back : (more : List (List ℕ)) → fs ≡ gs ++ more → y ≡ flat more ++ x → IsFront fs gs x y
    back [] fields bytes = record { more = []; fields_are = sym (append-nil gs) ∙ sym fields ∙ sym (append-nil fs); bytes_are = sym bytes }
    back (m ∷ more) fields bytes =
        let there = accepted_at stage [] gs m more (subst (λ (hs : List (List ℕ)). AreAccepted stage [] hs) fields one) in
        absurd (no_next there.next (next_of stage gs) there.comes none)

-- an item whose bytes begin so has these fields, and more
pub front_of_item :
    (stage : Stage) (fs : List (List ℕ)) (it : Item) (x y : List ℕ) → IsOpen stage → AreAccepted stage [] fs → IsItemBelow SEQ_LIMIT stage it → flat fs ++ x ≡ item_bytes it ++ y → IsFront fs (bytes_in (item_fields it)) x y
front_of_item stage fs it x y goes accepted is_item same =
    let reads = reads_item stage it goes is_item in
    is_front stage fs (bytes_in (item_fields it)) x y accepted reads.accepted reads.none (same ∙ ap (λ (bs : List ℕ). bs ++ y) (sym (flat_bytes (item_fields it))))

-- bytes begin with one item at most
pub same_item : (stage : Stage) (a b : Item) (x y : List ℕ) → IsOpen stage → IsItemBelow SEQ_LIMIT stage a → IsItemBelow SEQ_LIMIT stage b → item_bytes a ++ x ≡ item_bytes b ++ y → (a ≡ b) × (x ≡ y)
same_item stage a b x y goes is_a is_b same = go front.more front.fields_are front.bytes_are
  where
    front : IsFront (bytes_in (item_fields a)) (bytes_in (item_fields b)) x y
    front = front_of_item stage (bytes_in (item_fields a)) b x y goes (reads_item stage a goes is_a).accepted is_b (ap (λ (bs : List ℕ). bs ++ x) (flat_bytes (item_fields a)) ∙ same)

    go : (more : List (List ℕ)) → bytes_in (item_fields b) ≡ bytes_in (item_fields a) ++ more → x ≡ flat more ++ y → (a ≡ b) × (x ≡ y)
    go [] fields bytes =
        let spelt : item_bytes a ≡ item_bytes b = sym (flat_bytes (item_fields a)) ∙ ap (λ (fs : List (List ℕ)). flat fs) (sym (append-nil (bytes_in (item_fields a))) ∙ sym fields) ∙ flat_bytes (item_fields b) in
        (sym (item_back stage a goes is_a) ∙ ap (λ (bs : List ℕ). item_in stage.header bs) spelt ∙ item_back stage b goes is_b, bytes)
    go (m ∷ more) fields bytes =
        let there = accepted_at stage [] (bytes_in (item_fields a)) m more (subst (λ (hs : List (List ℕ)). AreAccepted stage [] hs) fields (reads_item stage b goes is_b).accepted) in
        absurd (no_next there.next (next_of stage (bytes_in (item_fields a))) there.comes (reads_item stage a goes is_a).none)
