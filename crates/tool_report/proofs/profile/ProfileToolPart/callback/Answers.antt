use Rattle.std.proofs.Common.{◌≡◌, [], refl, ◌∙◌}
use Rattle.std.proofs.lemmas.List.Elements.{All-push}
use Rattle.ompt_calls.specs.Item.{Item}
use Rattle.tool_api.specs.Record.{Record}
use Rattle.tool_report.specs.KeeperRelation.{ProfileFor}
use Rattle.tool_report.proofs.Kept.{kept-more}
use Rattle.tool_report.proofs.profile.ProfileToolPart.callback.Goals as goal

pub returns-clause-heard : goal.returns-clause-heard
returns-clause-heard c = λ (h : Record) (stands : ProfileFor c.args.self.now h).
    let more = c.in-Some.ensures in
    record {
      started = stands.started;
      silent = All-push (λ (call : Item). call.stores ≡ []) h.calls _ stands.silent refl;
      events = kept-more _ h.calls _ c.place_of-place.result c.in-Some.count (c.self.view_is ∙ stands.events) c.place_of-place.ensures.few c.place_of-place.ensures.place more.1;
      alone = stands.alone;
    }
