use Rattle.std.proofs.Common.{ℕ, ◌≡◌, ◌+◌, ◌-◌, ◌++◌, refl, ap, ◌∙◌, arith}
use Rattle.std.specs.List.{flat_map, range_with_len}
use Rattle.trace_view.specs.Cells.{path_of}
use Rattle.trace_view.proofs.Ranges.{added_from}
use Rattle.trace_view.proofs.svg.put_shades.Goals as goal

pub loop-shade-preserved : goal.loop-shade-preserved
loop-shade-preserved c =
    added_from (path_of c.args.columns c.args.threads c.args.cells.now) 1 c.loop-shade.shade (c.loop-shade.shade + 1) c.args.text.now.items
    c.loop-shade.text.items c.put_path.new.text.items c.loop-shade.auto.shade refl c.loop-shade.invariant c.in_ok-put_path.ensures

pub returns : goal.returns
returns c =
    let all : c.loop-shade.shade - 1 ≡ 9 = omega arith in
    c.loop-shade.invariant
    ∙ ap (λ (n : ℕ). c.args.text.now.items ++ flat_map (path_of c.args.columns c.args.threads c.args.cells.now) (range_with_len 1 n)) all
