use Rattle.std.proofs.Common.{ap}
use Rattle.ompt_cli.proofs.Halting.{parts-outside}
use Rattle.ompt_cli.proofs.observing.with_report.Goals as goal

pub returns-clause-observed : goal.returns-clause-observed
returns-clause-observed g c = λ job parts asked loaded ran. record {
  observes = record {
    asked = asked;
    program_is = loaded.tree;
    text_is = ap (λ list. list.items) loaded.text;
    to = ran.to;
    outside = λ found.
        parts-outside g.P.ToolPart.stands_for c.args.settings.serial _ c.args.ran.cause c.args.ran.history parts c.args.ran.parts.items found
        ran.parts;
    always = ran.always;
  };
  runs = ran.parts;
  same = ran.same;
  printed = ran.text;
}
