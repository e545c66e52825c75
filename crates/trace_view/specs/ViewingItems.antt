-- What was read of a source and written to a sink item by item, by how it ended.
use Rattle.std.specs.Prelude.{ℕ, ◌≡◌, ◌⊎◌, List, ◌∷◌, [], ◌++◌, Option}
use Rattle.std.specs.Io.KnownBytes.{Appends, Consumes}
use Rattle.run_edges.specs.Edges.{AppendsFront, Rose}
use Rattle.trace_format.specs.declared.item.Item.{Item}
use Rattle.trace_format.specs.declared.trace.Trace.{Trace}
use Rattle.trace_format.specs.Inputs.{AreItems, IsInput, IsInputFront, IsRefusedInput}
use Rattle.trace_format.specs.Validity.{Writes}
use Rattle.trace_view.specs.declared.item_style.ItemStyle.{ItemStyle}
use Rattle.trace_view.specs.declared.viewed.Viewed.{Viewed}
use Rattle.trace_view.specs.declared.viewed.Viewed.TheVariants.{Whole, Refused, Broken, ReadFault, WriteFault, Memory}
use Rattle.trace_view.specs.ItemStyles.{styled_items, styled_trace}

-- a front was written of what is written of the items of a front of the input
abbrev pub IsCutOff : ItemStyle → (left held after : Option (List ℕ)) → Type 0
IsCutOff style left held after =
    (taken : List ℕ) × (items : List Item) × IsInputFront left taken
    × AreItems taken items × AppendsFront held after (styled_items style items)

-- By the style and the end, over what the source has left before and after, and what the sink holds before and after. The whole input is a
-- trace, and is written so; or the input is refused, or a read failed, and what is written is that of the items that are whole in what was
-- taken. No breach is told.
abbrev pub HasViewedItems : ItemStyle → Viewed → (left rest held after : Option (List ℕ)) → Type 0
HasViewedItems style Whole left rest held after =
    (taken : List ℕ) × (trace : Trace) × IsInput left taken × Writes trace taken × Appends held after (styled_trace style trace)
HasViewedItems style (Refused refusal) left rest held after =
    (taken : List ℕ) × (items : List Item) × IsRefusedInput left taken refusal × AreItems taken items
    × Appends held after (styled_items style items)
HasViewedItems style (Broken breach) left rest held after = ⊥
HasViewedItems style ReadFault left rest held after =
    (taken : List ℕ) × (items : List Item) × Consumes left rest taken × AreItems taken items × Appends held after (styled_items style items)
HasViewedItems style WriteFault left rest held after = IsCutOff style left held after
HasViewedItems style Memory left rest held after = IsCutOff style left held after

-- A write or memory failed at one more item. The faults are those that were counted before and after.
pub record StopsAt
    (style : ItemStyle) (stop : Viewed) (faults counted : ℕ) (held after : Option (List ℕ)) (items : List Item) (next : Item) : Type 0 where
  pub ends : (stop ≡ WriteFault) ⊎ (stop ≡ Memory)
  pub write : stop ≡ WriteFault → Rose faults counted
  pub steady : (stop ≡ WriteFault → ⊥) → counted ≡ faults
  pub part : AppendsFront held after (styled_items style (items ++ next ∷ []))
