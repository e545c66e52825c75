-- How long files are.
use Rattle.std.proofs.Common.{◌≡◌, ◌≤◌, ℕ, ◌*◌, List, [], ◌∷◌, ◌++◌, length, refl, ap, ◌∙◌, length-append, arith}
use Rattle.std.specs.List.{flat_map}
use Rattle.ompt_calls.specs.declared.snapshot.Target.TheVariants as target
use Rattle.omp_model.specs.declared.history.Entry.{Entry}
use Rattle.omp_model.specs.declared.history.What.{What}
use Rattle.omp_model.specs.declared.history.What.TheVariants.{Back, Go, Put}
use Rattle.history_file.specs.declared.file.HistoryFile.{HistoryFile}
use Rattle.history_file.specs.declared.file.TheConstants.{HISTORY_LIMIT}
use Rattle.history_file.specs.Fields.{end_fields, entry_fields, head_fields, header_fields, spelling, what_fields}
use Rattle.history_file.specs.Validity.{WritesHistory}
use Rattle.history_file.proofs.Paged.{file_is, header_is, spelling_append}

entry_short : (thread : ℕ) (what : What) → length (spelling (what_fields thread what)) ≤ 15
entry_short thread Go = omega arith
entry_short thread (Put (target.Thread t) word) = omega arith
entry_short thread (Put (target.Parallel r) word) = omega arith
entry_short thread (Put (target.Task r) word) = omega arith
entry_short thread Back = omega arith

entries_short : (entries : List Entry) → length (spelling (flat_map entry_fields entries)) ≤ 15 * length entries
entries_short [] = omega arith
entries_short (e ∷ es) =
    let parts = ap (λ (bytes : List ℕ). length bytes) (spelling_append (entry_fields e) (flat_map entry_fields es)) in
    omega (arith, parts, length-append (spelling (entry_fields e)) (spelling (flat_map entry_fields es)), entry_short e.thread e.what, entries_short es)

pub written_short : (file : HistoryFile) (bytes : List ℕ) → WritesHistory file bytes → length bytes ≤ HISTORY_LIMIT
written_short file bytes writes =
    let head : length (spelling (head_fields file)) ≡ 23 = refl in
    let end : length (spelling (end_fields file)) ≡ 10 = refl in
    let header = ap (λ (all : List ℕ). length all) (header_is file) in
    let whole = ap (λ (all : List ℕ). length all) (writes.bytes_are ∙ file_is file) in
    let text = writes.is_file.text in
    let few = writes.is_file.few_entries in
    omega (
      arith,
      whole,
      header,
      head,
      end,
      text,
      few,
      entries_short file.history,
      length-append (spelling (head_fields file)) file.text,
      length-append (spelling (header_fields file)) (spelling (flat_map entry_fields file.history) ++ spelling (end_fields file)),
      length-append (spelling (flat_map entry_fields file.history)) (spelling (end_fields file)),
    )
