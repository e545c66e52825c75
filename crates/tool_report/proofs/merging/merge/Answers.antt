use Rattle.std.proofs.Common.{◌≡◌, List, rules}
use Rattle.std.specs.List.{flat_map}
use Rattle.std.specs.List.Sorted.{IsPermutation, IsNonDecreasingBy}
use Rattle.std.proofs.lemmas.List.Sorted.{IsNonDecreasingBy-from_sort_by_key, IsPermutation-trans}
use Rattle.ompt_calls.specs.declared.event.EventRecord.{EventRecord}
use Rattle.tool_report.specs.Order.{AreShared}
use Rattle.tool_report.proofs.Gathering.{gathered-all}
use Rattle.tool_report.proofs.Rising.{sorted-once}
use Rattle.tool_report.proofs.merging.merge.Goals as goal

in-order : (events gathered sorted : List EventRecord) (parts : List (List EventRecord)) → AreShared events parts → gathered ≡ flat_map (λ (part : List EventRecord). part) parts → IsPermutation gathered sorted → IsNonDecreasingBy (λ (event : EventRecord). event.seq) sorted → sorted ≡ events
in-order events gathered sorted parts shared is moved up =
    let all : IsPermutation events gathered = rw is (gathered-all events parts shared) in
    sorted-once events sorted shared.rising (IsPermutation-trans events gathered sorted all moved) up

pub returns : goal.returns
returns c =
    let up = IsNonDecreasingBy-from_sort_by_key (λ (event : EventRecord). event.seq) _ c.sort_unstable_by_key.ensures.sorted (λ a r q k. search rules) in
    λ (events : List EventRecord) (shared : AreShared events c.args.parts.now). in-order events _ _ c.args.parts.now shared c.in_ok-events.ensures c.sort_unstable_by_key.ensures.permutation up
