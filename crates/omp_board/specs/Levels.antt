-- Parts of the levels of a snapshot, for the functions that fill them.
use Rattle.std.specs.Prelude.{ℕ, ◌≡◌, ◌==◌, if◌then◌else◌, List, [], ◌∷◌, ◌++◌}
use Rattle.ompt_calls.specs.declared.call.Word.{Word}
use Rattle.ompt_calls.specs.declared.snapshot.RegionLevel.{RegionLevel}
use Rattle.ompt_calls.specs.declared.snapshot.TaskLevel.{TaskLevel}
use Rattle.omp_model.specs.Snapshots.{regions_after}
use Rattle.omp_model.specs.State.{World, region_at}

-- the level of the region with this word
abbrev pub region_level : World → Word → RegionLevel
region_level W word = record { word = word; team = (region_at W word.identity).head.size }

-- the same, unless it is the last one again
abbrev pub unless_again : World → ℕ → Word → List RegionLevel
unless_again W last word = if word.identity == last then [] else region_level W word ∷ []

-- the levels of regions with this last region go on behind these levels of tasks as they do now with that last region
abbrev pub GoesOn : World → List RegionLevel → ℕ → List TaskLevel → List RegionLevel → ℕ → Type 0
GoesOn W old last levels now last_now =
    (rest : List TaskLevel) → now ++ regions_after W last_now rest ≡ old ++ regions_after W last (levels ++ rest)
