-- What holds of a reader at each step: before a field, in the middle of one, behind a field that was accepted or refused, and behind an item.
use Rattle.std.proofs.Common.{ℕ, ◌≡◌, inl, inr, true, false, List, [], ◌∷◌, ◌++◌, length, Some, None, refl, ap, sym, ◌∙◌, subst, append_assoc}
use Rattle.std.proofs.lemmas.Grind.{flat_map-append}
use Rattle.std.proofs.lemmas.List.{append-nil}
use Rattle.trace_format.specs.declared.item.Item.{Item}
use Rattle.trace_format.specs.declared.refusal.Refusal.{Refusal}
use Rattle.trace_format.specs.Accepting.{Next, next_of}
use Rattle.trace_format.specs.Items.{AreWhole, item_bytes, items_bytes}
use Rattle.trace_format.specs.Holding.{Holds, Rests}
use Rattle.trace_format.specs.Reached.{AreAccepted, IsBytes, IsReached, bytes_at, flat, stage_of}
use Rattle.trace_format.specs.Refusing.{IsRefused}
use Rattle.trace_format.specs.Taking.{HasTaken, Reading, Stage, first_stage, next_stage, stage_from}
use Rattle.trace_format.proofs.Decoded.{item_in}
use Rattle.trace_format.proofs.Format.{IsOver, IsPart, IsWhole, accepts, over_all, part_come, whole_item}

-- the stage behind one item more
pub stage_from-append : (stage : Stage) (items : List Item) (next : Item) → stage_from stage (items ++ next ∷ []) ≡ next_stage (stage_from stage items) next
stage_from-append stage [] next = refl
stage_from-append stage (first ∷ rest) next = stage_from-append (next_stage stage first) rest next

pub items_bytes-append : (items : List Item) (next : Item) → items_bytes (items ++ next ∷ []) ≡ items_bytes items ++ item_bytes next
items_bytes-append items next = flat_map-append item_bytes items (next ∷ []) ∙ ap (λ (xs : List ℕ). items_bytes items ++ xs) (append-nil (item_bytes next))

-- the bytes that a reader has taken, the items and the fields behind which it stands, and what it keeps of them
pub record Stands (stage : Stage) (begun bytes : List ℕ) (items : List Item) (fields : List (List ℕ)) (part : List ℕ) : Type 0 where
  pub reached : IsReached items fields
  pub stage_is : stage ≡ stage_of items
  pub begun_is : begun ≡ flat fields ++ part
  pub bytes_are : bytes ≡ bytes_at items fields ++ part

pub of_holds : (stage : Stage) (begun : List ℕ) (begun_at place taken : ℕ) (h : Holds stage begun begun_at place taken) → Stands stage begun (bytes_at h.items h.fields ++ h.part) h.items h.fields h.part
of_holds stage begun begun_at place taken h = record { reached = h.reached; stage_is = h.stage_is; begun_is = h.begun_is; bytes_are = refl }

pub of_taken : (stage : Stage) (begun : List ℕ) (begun_at place taken : ℕ) (h : Holds stage begun begun_at place taken) (reading : Reading) (bytes : List ℕ) (items : List Item) → reading.stage ≡ stage → reading.begun ≡ begun → HasTaken reading bytes items → Stands stage begun bytes items h.fields h.part
of_taken stage begun begun_at place taken h reading bytes items e1 e2 has =
    let e : stage ≡ stage_of items = sym e1 ∙ has.stage in
    let P : Stage → Type 0 = λ (s : Stage). AreAccepted s [] h.fields in
    record {
      reached = record { first = has.whole.first; accepted = subst P (sym h.stage_is ∙ e) h.reached.accepted };
      stage_is = e;
      begun_is = h.begun_is;
      bytes_are = has.whole.bytes_are ∙ ap (λ (xs : List ℕ). items_bytes items ++ xs) (e2 ∙ h.begun_is) ∙ sym (append_assoc (items_bytes items) (flat h.fields) h.part);
    }

pub to_holds :
    (stage : Stage) (begun bytes : List ℕ) (items : List Item) (fields : List (List ℕ)) (part : List ℕ) (begun_at place taken : ℕ) → Stands stage begun bytes items fields part → begun_at ≡ length (flat fields) → place ≡ length fields
    → taken ≡ length bytes → Rests stage fields part → IsBytes part → Holds stage begun begun_at place taken
to_holds stage begun bytes items fields part begun_at place taken s e1 e2 e3 rests all =
    record {
      items = items;
      fields = fields;
      part = part;
      reached = s.reached;
      stage_is = s.stage_is;
      begun_is = s.begun_is;
      begun_at_is = e1;
      place_is = e2;
      taken_is = e3 ∙ ap (λ (xs : List ℕ). length xs) s.bytes_are;
      rests = rests;
      is_bytes = all;
    }

-- it has taken these bytes
pub record IsAlright (bytes : List ℕ) (items : List Item) (begun : List ℕ) : Type 0 where
  pub whole : AreWhole bytes items begun
  pub unrefused : (refusal : Refusal) → IsRefused bytes refusal → ⊥

pub alright : (stage : Stage) (begun bytes : List ℕ) (items : List Item) (fields : List (List ℕ)) (part : List ℕ) → Stands stage begun bytes items fields part → Rests stage fields part → IsAlright bytes items begun
alright stage begun bytes items fields part s (inl awaits) =
    let p : IsPart items fields part = part_come items fields awaits.next part s.reached (ap (λ (x : Stage). next_of x fields) (sym s.stage_is) ∙ awaits.comes) awaits.short in
    rw (s.begun_is, s.bytes_are) (record { whole = p.whole; unrefused = p.unrefused })
alright stage begun bytes items fields part s (inr ended) =
    let P : List (List ℕ) → Type 0 = λ (fs : List (List ℕ)). IsReached items fs in
    let o : IsOver items = over_all items (subst P ended.no_field s.reached) (ap (λ (x : Stage). x.over) (sym s.stage_is) ∙ ended.over) in
    let e : begun ≡ [] = s.begun_is ∙ cc (ended.no_field, ended.no_part) in
    let f : bytes ≡ bytes_at items [] = s.bytes_are ∙ rw (ended.no_field, ended.no_part) (append-nil (bytes_at items [])) in
    rw (e, f) (record { whole = o.whole; unrefused = o.unrefused })

pub has_taken :
    (stage : Stage) (begun bytes : List ℕ) (items : List Item) (fields : List (List ℕ)) (part : List ℕ) (taken : ℕ) → Stands stage begun bytes items fields part → taken ≡ length bytes → Rests stage fields part
    → HasTaken (record { stage = stage; begun = begun; taken = taken; refusal = None }) bytes items
has_taken stage begun bytes items fields part taken s e rests =
    let a : IsAlright bytes items begun = alright stage begun bytes items fields part s rests in
    record { stage = s.stage_is; whole = a.whole; taken = e; refusal = a.unrefused }

-- more bytes come
pub stands_more :
    (stage : Stage) (begun bytes : List ℕ) (items : List Item) (fields : List (List ℕ)) (part some : List ℕ) → Stands stage begun bytes items fields part
    → Stands stage (begun ++ some) (bytes ++ some) items fields (part ++ some)
stands_more stage begun bytes items fields part some s =
    record {
      reached = s.reached;
      stage_is = s.stage_is;
      begun_is = ap (λ (xs : List ℕ). xs ++ some) s.begun_is ∙ append_assoc (flat fields) part some;
      bytes_are = ap (λ (xs : List ℕ). xs ++ some) s.bytes_are ∙ append_assoc (bytes_at items fields) part some;
    }

pub flat-append : (fields : List (List ℕ)) (bytes : List ℕ) → flat (fields ++ bytes ∷ []) ≡ flat fields ++ bytes
flat-append fields bytes = flat_map-append (λ (xs : List ℕ). xs) fields (bytes ∷ []) ∙ ap (λ (xs : List ℕ). flat fields ++ xs) (append-nil bytes)

-- a field is accepted
pub stands_field :
    (stage : Stage) (begun bytes : List ℕ) (items : List Item) (fields : List (List ℕ)) (part : List ℕ) (next : Next) → Stands stage begun bytes items fields part → next_of stage fields ≡ Some next → length part ≡ next.width
    → IsBytes part → next.accepts part ≡ true → Stands stage begun bytes items (fields ++ part ∷ []) []
stands_field stage begun bytes items fields part next s comes width is_bytes accepted =
    record {
      reached = accepts items fields part s.reached (record { next = next; comes = ap (λ (x : Stage). next_of x fields) (sym s.stage_is) ∙ comes; width = width; is_bytes = is_bytes; accepted = accepted });
      stage_is = s.stage_is;
      begun_is = s.begun_is ∙ sym (flat-append fields part) ∙ sym (append-nil _);
      bytes_are = s.bytes_are ∙ append_assoc (items_bytes items) (flat fields) part ∙ ap (λ (xs : List ℕ). items_bytes items ++ xs) (sym (flat-append fields part)) ∙ sym (append-nil _);
    }

-- an item is whole
pub stands_whole :
    (stage : Stage) (begun bytes : List ℕ) (items : List Item) (fields : List (List ℕ)) → Stands stage begun bytes items fields [] → stage.over ≡ false → next_of stage fields ≡ None
    → Stands (next_stage stage (item_in stage.header begun)) [] bytes (items ++ item_in stage.header begun ∷ []) [] []
stands_whole stage begun bytes items fields s goes none =
    let e : begun ≡ flat fields = s.begun_is ∙ append-nil (flat fields) in
    let w : IsWhole items fields (item_in (stage_of items).header (flat fields)) = whole_item items fields s.reached (ap (λ (x : Stage). x.over) (sym s.stage_is) ∙ goes) (ap (λ (x : Stage). next_of x fields) (sym s.stage_is) ∙ none) in
    let it : item_in stage.header begun ≡ item_in (stage_of items).header (flat fields) = ap (λ (x : Stage). item_in x.header begun) s.stage_is ∙ ap (λ (xs : List ℕ). item_in (stage_of items).header xs) e in
    rw it (record {
      reached = w.reached;
      stage_is = ap (λ (x : Stage). next_stage x (item_in (stage_of items).header (flat fields))) s.stage_is ∙ sym (stage_from-append first_stage items (item_in (stage_of items).header (flat fields)));
      begun_is = refl;
      bytes_are =
          s.bytes_are ∙ append-nil (bytes_at items fields) ∙ ap (λ (xs : List ℕ). items_bytes items ++ xs) (sym w.bytes) ∙ sym (items_bytes-append items (item_in (stage_of items).header (flat fields)))
          ∙ sym (append-nil (items_bytes (items ++ item_in (stage_of items).header (flat fields) ∷ []))) ∙ sym (append-nil (bytes_at (items ++ item_in (stage_of items).header (flat fields) ∷ []) []));
    })
