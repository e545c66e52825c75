-- The line of a call: what its inquiries are answered, with a space between.
use Rattle.std.specs.Prelude.{ℕ, List, [], ◌∷◌, ◌++◌, codes}
use Rattle.std.specs.List.{flat_map}
use Rattle.std.specs.Fmt.{decimal}
use Rattle.ompt_calls.specs.declared.snapshot.TaskLevel.{TaskLevel}
use Rattle.ompt_calls.specs.declared.snapshot.RegionLevel.{RegionLevel}
use Rattle.ompt_calls.specs.declared.snapshot.Snapshot.{Snapshot}
use Rattle.ompt_calls.specs.Line.{frame_text, spaced, word_text}

-- a level of tasks: flags, word, frame, region, index
abbrev pub task_text : TaskLevel → List ℕ
task_text level =
    codes " " ++ spaced (codes "task" ∷ decimal level.flags ∷ word_text level.word ∷ frame_text level.frame ∷ word_text level.region ∷ decimal level.index ∷ [])

-- a level of regions: word, team
abbrev pub region_text : RegionLevel → List ℕ
region_text level = codes " " ++ spaced (codes "region" ∷ word_text level.word ∷ decimal level.team ∷ [])

-- the levels, the innermost first
abbrev pub tasks_text : List TaskLevel → List ℕ
tasks_text levels = flat_map task_text levels

abbrev pub regions_text : List RegionLevel → List ℕ
regions_text levels = flat_map region_text levels

-- the line of a call, with a newline at its end
abbrev pub line_text : ℕ → ℕ → Snapshot → List ℕ
line_text seq thread snapshot =
    spaced (decimal seq ∷ decimal thread ∷ decimal snapshot.state ∷ decimal snapshot.wait_id ∷ [])
    ++ tasks_text snapshot.tasks ++ regions_text snapshot.regions ++ 10 ∷ []
