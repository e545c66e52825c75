-- What was written of items, and of one item more.
use Rattle.std.proofs.Common.{ℕ, ◌≡◌, ◌≢◌, ◌+◌, ◌⊎◌, List, [], ◌∷◌, ◌++◌, length, take, Option, Some, refl, sym, ap, subst, ◌∙◌, length-append, arith}
use Rattle.std.proofs.KnownBytes.{Appends-trans}
use Rattle.std.proofs.lemmas.Grind.{flat_map-append}
use Rattle.std.proofs.lemmas.List.{append-nil}
use Rattle.std.proofs.Math.Seq.{take-append-add}
use Rattle.std.specs.Io.KnownBytes.{Appends}
use Rattle.run_edges.specs.Edges.{AppendsFront, Rose}
use Rattle.trace_format.specs.declared.item.Item.{Item}
use Rattle.trace_format.specs.declared.item.Item.TheVariants as item
use Rattle.trace_format.specs.declared.trace.EndMark.{EndMark}
use Rattle.trace_copy.specs.declared.copied.Copied.{Copied}
use Rattle.trace_copy.specs.declared.copied.Copied.TheVariants.{WriteFault, Memory}
use Rattle.trace_copy.specs.declared.form.Form.{Form}
use Rattle.trace_copy.specs.declared.form.Form.TheVariants.{SecondVersion}
use Rattle.trace_copy.specs.Ending.{HasPut, StopsAt, last_end}
use Rattle.trace_copy.specs.Written.{written_of, written_of_item}

-- what is written of items, and then of one more
written_more : (form : Form) (items : List Item) (it : Item) → written_of form (items ++ it ∷ []) ≡ written_of form items ++ written_of_item form it
written_more form items it =
    flat_map-append (written_of_item form) items (it ∷ [])
    ∙ ap (λ (bytes : List ℕ). written_of form items ++ bytes) (append-nil (written_of_item form it))

-- the end mark that came last of items, and then of one more
last_behind : (found : Option EndMark) (items more : List Item) → last_end found (items ++ more) ≡ last_end (last_end found items) more
last_behind found [] more = refl
last_behind found (item.More ∷ items) more = last_behind found items more
last_behind found (item.Header header ∷ items) more = last_behind found items more
last_behind found (item.Event event ∷ items) more = last_behind found items more
last_behind found (item.End end ∷ items) more = last_behind (Some end) items more

-- an item that is no end mark leaves the one that came last
pub last_kept : (found : Option EndMark) (it : Item) → ((end : EndMark) → it ≡ item.End end → ⊥) → found ≡ last_end found (it ∷ [])
last_kept found item.More other = refl
last_kept found (item.Header header) other = refl
last_kept found (item.Event event) other = refl
last_kept found (item.End end) other = absurd (other end refl)

pub last_now : (found : Option EndMark) (it : Item) (end : EndMark) → it ≡ item.End end → Some end ≡ last_end found (it ∷ [])
last_now found it end is = sym (ap (λ (x : Item). last_end found (x ∷ [])) is)

-- a sink that has taken some bytes, and then a front of others, has taken a front of both
pub front_behind :
    (old mid new : Option (List ℕ)) (done next whole : List ℕ) → whole ≡ done ++ next → Appends old mid done → AppendsFront mid new next
    → AppendsFront old new whole
front_behind old mid new done next whole is first (n, room, second) =
    let front : done ++ take n next ≡ take (length done + n) whole = sym (ap (take (length done + n)) is ∙ take-append-add done next n) in (
      length done + n,
      omega (arith, length-append done next, ap length is),
      subst (Appends old new) front (Appends-trans old mid new done (take n next) first second),
    )

-- a copier has taken items, and takes one more
pub took_more :
    {N : Type 0} (form kept : Form) (faults mid counted : ℕ) (before end now : Option EndMark) (held between after : Option (List ℕ))
    (items : List Item) (it : Item) → N × (kept ≡ form) × (mid ≡ faults) × HasPut form before end held between items
    → now ≡ last_end end (it ∷ []) → counted ≡ mid → Appends between after (written_of_item kept it)
    → N × (kept ≡ form) × (counted ≡ faults) × HasPut form before now held after (items ++ it ∷ [])
took_more form kept faults mid counted before end now held between after items it (same, is, steady, (found_is, wrote)) last unfailed one =
    let item_wrote = subst (λ (f : Form). Appends between after (written_of_item f it)) is one in (
      same,
      is,
      unfailed ∙ steady,
      (
        last ∙ ap (λ (found : Option EndMark). last_end found (it ∷ [])) found_is ∙ sym (last_behind before items (it ∷ [])),
        subst (Appends held after) (sym (written_more form items it))
            (Appends-trans held between after (written_of form items) (written_of_item form it) wrote item_wrote),
      ),
    )

-- .. or stops at it
pub stopped_at :
    {N : Type 0} (form kept : Form) (stop : Copied) (faults mid counted : ℕ) (before end : Option EndMark) (held between after : Option (List ℕ))
    (items : List Item) (it : Item) → N × (kept ≡ form) × (mid ≡ faults) × HasPut form before end held between items
    → (stop ≡ WriteFault) ⊎ (stop ≡ Memory) → (kept ≡ SecondVersion → stop ≢ Memory) → (stop ≡ WriteFault → Rose mid counted)
    → (stop ≢ WriteFault → counted ≡ mid) → AppendsFront between after (written_of_item kept it)
    → N × StopsAt form stop faults counted held after items it
stopped_at form kept stop faults mid counted before end held between after items it (same, is, steady, (found_is, wrote)) ends memory write unfailed part = (
  same,
  record {
    ends = ends;
    memory = λ second. memory (is ∙ second);
    write = λ failed. subst (λ (count : ℕ). Rose count counted) steady (write failed);
    steady = λ other. unfailed other ∙ steady;
    part =
        front_behind held between after (written_of form items) (written_of_item form it) (written_of form (items ++ it ∷ [])) (written_more form items it)
        wrote (subst (λ (f : Form). AppendsFront between after (written_of_item f it)) is part);
  },
)
