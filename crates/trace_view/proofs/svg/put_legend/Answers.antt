use Rattle.std.proofs.Common.{ℕ, ◌≡◌, ◌+◌, ◌-◌, List, ◌++◌, refl, ap, ◌∙◌, arith}
use Rattle.std.specs.List.{flat_map, range_with_len}
use Rattle.std.proofs.lemmas.Result.{on_ok_weaker}
use Rattle.trace_view.specs.Svg.{legend_line, tick_legend}
use Rattle.trace_view.proofs.Ranges.{added_from}
use Rattle.trace_view.proofs.svg.put_legend.Goals as goal

pub loop-shade-preserved : goal.loop-shade-preserved
loop-shade-preserved c =
    added_from (legend_line c.args.threads) 1 c.loop-shade.shade (c.loop-shade.shade + 1) c.args.text.now.items c.loop-shade.text.items
    c.put_legend_line.new.text.items c.loop-shade.auto.shade refl c.loop-shade.invariant c.in_ok-put_legend_line.ensures

pub returns : goal.returns
returns c =
    let all : c.loop-shade.shade - 1 ≡ 9 = omega arith in
    on_ok_weaker c.put_tick_legend.result
    (λ is. is ∙ ap (λ (text : List ℕ). text ++ tick_legend c.args.threads)
    (c.loop-shade.invariant ∙ ap (λ (n : ℕ). c.args.text.now.items ++ flat_map (legend_line c.args.threads) (range_with_len 1 n)) all))
    c.put_tick_legend.ensures
