-- A profile that counts one call more.
use Rattle.std.proofs.Common.{◌≡◌, ℕ, ◌+◌, ◌<◌, List, [], ◌∷◌, ◌++◌, map, set, get_or, sym, ap, ◌∙◌}
use Rattle.std.proofs.lemmas.List.{map-append}
use Rattle.omp_codes.specs.declared.callbacks.TheConstants.{PROFILE}
use Rattle.ompt_calls.specs.Item.{Item}
use Rattle.ompt_calls.specs.Number.{number_of}
use Rattle.omp_model.specs.Records.{record_of}
use Rattle.tool_report.specs.Counts.{counts_of}
use Rattle.tool_report.proofs.Shares.{counted-call}

-- the counts with one more at the place of a call are those of the calls with that call at their end
pub kept-more : (counts : List ℕ) (calls : List Item) (item : Item) (place count : ℕ) → counts ≡ counts_of (map record_of calls) → place < 17 → get_or PROFILE place 0 ≡ number_of item.call → count ≡ get_or counts place 0 + 1 → set counts place count ≡ counts_of (map record_of (calls ++ item ∷ []))
kept-more counts calls item place count same below is more =
    rw (more, same) (counted-call (map record_of calls) (record_of item) place below is ∙ ap counts_of (sym (map-append record_of calls (item ∷ []))))
