-- What was written of items, and of one item more.
use Rattle.std.proofs.Common.{ℕ, ◌≡◌, ◌≢◌, ◌+◌, ◌⊎◌, List, [], ◌∷◌, ◌++◌, length, take, map, Option, Result, Ok, Err, OnOk, OnErr, sym, ap, subst, ◌∙◌, length-append, arith, append_assoc}
use Rattle.std.proofs.KnownBytes.{Appends-trans}
use Rattle.std.proofs.lemmas.Grind.{flat_map-append}
use Rattle.std.proofs.lemmas.List.{append-nil}
use Rattle.std.proofs.Math.Seq.{take-append-add}
use Rattle.std.specs.List.{flat_map}
use Rattle.std.specs.Io.KnownBytes.{Appends}
use Rattle.ompt_calls.specs.declared.event.EventRecord.{EventRecord}
use Rattle.run_edges.specs.Edges.{AppendsFront, Rose}
use Rattle.trace_format.specs.declared.item.Item.{Item}
use Rattle.trace_format.specs.declared.item.Item.TheVariants as item
use Rattle.trace_format.specs.declared.trace.EndMark.{EndMark}
use Rattle.trace_format.specs.declared.trace.Trace.{Trace}
use Rattle.trace_format.specs.Items.{items_of}
use Rattle.trace_view.specs.declared.item_style.ItemStyle.{ItemStyle}
use Rattle.trace_view.specs.declared.item_style.ItemStyle.TheVariants.{Names, Chrome}
use Rattle.trace_view.specs.declared.viewed.Viewed.{Viewed}
use Rattle.trace_view.specs.declared.viewed.Viewed.TheVariants.{WriteFault, Memory}
use Rattle.trace_view.specs.Chrome.{chrome_end, chrome_event, chrome_head, chrome_item}
use Rattle.trace_view.specs.ItemStyles.{styled_item, styled_items, styled_trace}
use Rattle.trace_view.specs.NamedLines.{named_item}
use Rattle.trace_view.specs.ViewingItems.{StopsAt}

-- what is written of items, and then of one more
pub styled_more :
    (style : ItemStyle) (items : List Item) (it : Item) → styled_items style (items ++ it ∷ []) ≡ styled_items style items ++ styled_item style it
styled_more style items it =
    flat_map-append (styled_item style) items (it ∷ [])
    ∙ ap (λ (bytes : List ℕ). styled_items style items ++ bytes) (append-nil (styled_item style it))

-- a sink that has taken some bytes, and then a front of others, has taken a front of both
front_behind :
    (old mid new : Option (List ℕ)) (done next whole : List ℕ) → whole ≡ done ++ next → Appends old mid done → AppendsFront mid new next
    → AppendsFront old new whole
front_behind old mid new done next whole is first (n, room, second) =
    let front : done ++ take n next ≡ take (length done + n) whole = sym (ap (take (length done + n)) is ∙ take-append-add done next n) in (
      length done + n,
      omega (arith, length-append done next, ap length is),
      subst (Appends old new) front (Appends-trans old mid new done (take n next) first second),
    )

-- the texts of some items were written, and that of one more
pub took_more :
    {N : Type 0} (style now : ItemStyle) (faults mid counted : ℕ) (held between after : Option (List ℕ)) (items : List Item) (it : Item)
    → N × (now ≡ style) × (mid ≡ faults) × Appends held between (styled_items style items) → counted ≡ mid
    → Appends between after (styled_item now it) → N × (now ≡ style) × (counted ≡ faults) × Appends held after (styled_items style (items ++ it ∷ []))
took_more style now faults mid counted held between after items it (same, alike, steady, wrote) unfailed one = (
  same,
  alike,
  unfailed ∙ steady,
  subst (Appends held after) (sym (styled_more style items it))
      (Appends-trans held between after (styled_items style items) (styled_item style it) wrote
      (subst (λ (s : ItemStyle). Appends between after (styled_item s it)) alike one)),
)

-- where a call was well, what it ensures of that, and that it had no such fault
pub when_ok : {P Q A : Type 0} (r : Result (Unit {0}) Viewed) → OnOk r P → (r ≢ Err WriteFault → A) → (P → A → Q) → OnOk r Q
when_ok (Ok done) well steady both = both well (steady (λ e. absurd (cc)))
when_ok (Err end) well steady both = tt

-- the texts of some items were written, and a front of that of one more
pub stopped_at :
    {N : Type 0} (style now : ItemStyle) (r : Result (Unit {0}) Viewed) (stop : Viewed) (faults mid counted : ℕ)
    (held between after : Option (List ℕ)) (items : List Item) (it : Item)
    → r ≡ Err stop → N × (now ≡ style) × (mid ≡ faults) × Appends held between (styled_items style items)
    → ((end : Viewed) → r ≡ Err end → (end ≡ WriteFault) ⊎ (end ≡ Memory)) → (r ≡ Err WriteFault → Rose mid counted)
    → (r ≢ Err WriteFault → counted ≡ mid) → OnErr r (AppendsFront between after (styled_item now it))
    → N × StopsAt style stop faults counted held after items it
stopped_at style now r stop faults mid counted held between after items it is (same, alike, steady, wrote) ends write unfailed part = (
  same,
  record {
    ends = ends stop is;
    write = λ failed. subst (λ (count : ℕ). Rose count counted) steady (write (is ∙ ap Err failed));
    steady = λ other. unfailed (λ failed. other (cc)) ∙ steady;
    part = front_behind held between after (styled_items style items) (styled_item style it) (styled_items style (items ++ it ∷ []))
        (styled_more style items it) wrote
        (subst (λ (s : ItemStyle). AppendsFront between after (styled_item s it)) alike
        (subst (λ (s : Result (Unit {0}) Viewed). OnErr s (AppendsFront between after (styled_item now it))) is part));
  },
)

-- what is written of events and then the end mark
ended : (text : Item → List ℕ) (events : List EventRecord) (end : EndMark)
    → flat_map text (map item.Event events ++ item.End end ∷ []) ≡ flat_map (λ (event : EventRecord). text (item.Event event)) events ++ text (item.End end)
ended text [] end = append-nil (text (item.End end))
ended text (event ∷ events) end =
    ap (λ (bytes : List ℕ). text (item.Event event) ++ bytes) (ended text events end)
    ∙ sym (append_assoc (text (item.Event event)) (flat_map (λ (event : EventRecord). text (item.Event event)) events) (text (item.End end)))

-- what is written of the items of a trace is what is written of the trace
pub styled_whole : (style : ItemStyle) (trace : Trace) (items : List Item) → items ≡ items_of trace → styled_items style items ≡ styled_trace style trace
styled_whole Names trace items are = ap (flat_map named_item) are ∙ ended named_item trace.events trace.end
styled_whole Chrome trace items are =
    ap (flat_map chrome_item) are
    ∙ (ap (λ (bytes : List ℕ). chrome_head ++ bytes) (ended chrome_item trace.events trace.end)
    ∙ sym (append_assoc chrome_head (flat_map chrome_event trace.events) (chrome_end trace.end)))
