-- What is written of an item, of items and of a trace, by style.
use Rattle.std.specs.Prelude.{ℕ, List}
use Rattle.std.specs.List.{flat_map}
use Rattle.trace_format.specs.declared.item.Item.{Item}
use Rattle.trace_format.specs.declared.trace.Trace.{Trace}
use Rattle.trace_view.specs.declared.item_style.ItemStyle.{ItemStyle}
use Rattle.trace_view.specs.declared.item_style.ItemStyle.TheVariants as style
use Rattle.trace_view.specs.Chrome.{chrome_item, chrome_trace}
use Rattle.trace_view.specs.NamedLines.{named_item, named_trace}

abbrev pub styled_item : ItemStyle → Item → List ℕ
styled_item style.Names item = named_item item
styled_item style.Chrome item = chrome_item item

abbrev pub styled_items : ItemStyle → List Item → List ℕ
styled_items chosen items = flat_map (styled_item chosen) items

abbrev pub styled_trace : ItemStyle → Trace → List ℕ
styled_trace style.Names trace = named_trace trace
styled_trace style.Chrome trace = chrome_trace trace
