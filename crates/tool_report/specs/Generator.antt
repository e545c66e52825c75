-- The programs that are generated, and the summary of a run of one.
use Rattle.std.specs.Prelude.{ℕ, zero, suc, ◌==◌, ◌%◌, List, [], ◌∷◌, ◌++◌, codes, length, if◌then◌else◌}
use Rattle.std.specs.Fmt.{decimal}
use Rattle.std.specs.List.{flat_map}
use Rattle.ompt_calls.specs.declared.event.EventRecord.{EventRecord}
use Rattle.omp_codes.specs.declared.callbacks.TheConstants.{PARALLEL_BEGIN, TASK_CREATE}
use Rattle.tool_report.specs.Counts.{count_of}

-- each line with a newline at its end
abbrev pub text_of_lines : List (List ℕ) → List ℕ
text_of_lines lines = flat_map (λ (line : List ℕ). line ++ 10 ∷ []) lines

abbrev pub head : List (List ℕ)
head = codes "#include <stdio.h>" ∷ codes "int s;" ∷ codes "int main(void) {" ∷ codes "int i;" ∷ []

abbrev pub tail : List (List ℕ)
tail = codes "printf(\"%d\\n\", s);" ∷ codes "return 0;" ∷ codes "}" ∷ []

-- a reduced sum by a loop of a team
abbrev pub loop_block : List (List ℕ)
loop_block = codes "#pragma omp parallel for reduction(+:s) schedule(dynamic,2)" ∷ codes "for (i = 0; i < 8; i++) s += i;" ∷ []

-- four tasks of one member
abbrev pub task_block : List (List ℕ)
task_block =
    codes "#pragma omp parallel" ∷ codes "#pragma omp single" ∷ codes "for (i = 0; i < 4; i++) {" ∷ codes "#pragma omp task" ∷ codes "{"
    ∷ codes "#pragma omp critical" ∷ codes "s = s + 1;" ∷ codes "}" ∷ codes "}" ∷ []

-- two sections
abbrev pub section_block : List (List ℕ)
section_block =
    codes "#pragma omp parallel sections" ∷ codes "{"
    ∷ codes "#pragma omp section" ∷ codes "{" ∷ codes "#pragma omp critical" ∷ codes "s += 10;" ∷ codes "}"
    ∷ codes "#pragma omp section" ∷ codes "{" ∷ codes "#pragma omp critical" ∷ codes "s += 20;" ∷ codes "}" ∷ codes "}" ∷ []

-- arithmetic
abbrev pub sum_block : List (List ℕ)
sum_block = codes "s = s * 3 % 10007;" ∷ []

-- the block with this number, counted from 1
abbrev pub block : ℕ → List (List ℕ)
block number = if number % 4 == 1 then loop_block else if number % 4 == 2 then task_block else if number % 4 == 3 then section_block else sum_block

abbrev pub blocks : ℕ → List (List ℕ)
blocks zero = []
blocks (suc n) = blocks n ++ block (suc n)

-- the program with so many blocks
abbrev pub generated : ℕ → List ℕ
generated count = text_of_lines (head ++ blocks count ++ tail)

-- the summary of a run of this text, which had these events and printed this
abbrev pub summary_of : List ℕ → List EventRecord → List ℕ → List ℕ
summary_of text events printed =
    text_of_lines (
    (codes "bytes " ++ decimal (length text)) ∷ (codes "records " ++ decimal (length events))
    ∷ (codes "regions " ++ decimal (count_of PARALLEL_BEGIN events)) ∷ (codes "tasks " ++ decimal (count_of TASK_CREATE events)) ∷ [])
    ++ printed
