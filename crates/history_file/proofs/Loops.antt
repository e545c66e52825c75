-- Reading entries one after the other, as a loop does.
use Rattle.std.proofs.Common.{◌≡◌, ◌≢◌, ℕ, zero, suc, ◌-◌, ◌<◌, List, [], ◌∷◌, ◌++◌, Result, Ok, Err, refl, sym, ap, ◌∙◌, append_assoc, append-nil, eq-eqb, ne_eqb, Bool, if◌then◌else◌, arith}
use Rattle.std.proofs.lemmas.Bool.{eqb-true}
use Rattle.omp_model.specs.declared.history.Entry.{Entry}
use Rattle.history_file.specs.declared.reason.HistoryFault.{HistoryFault}
use Rattle.history_file.specs.declared.reason.HistoryFault.TheVariants as fault
use Rattle.history_file.specs.Fields.Field.{Kind}
use Rattle.history_file.specs.Reading.{◌>>=◌, Fails, Refusal, Shape, and_then, entries_from, entries_shape, entry_shape, field_at, is_kind, run}
use Rattle.history_file.specs.Reading.Shape.{Done}
use Rattle.history_file.proofs.Runs.{field_ok, run_and_then}

-- what was read before, and what is still read
abbrev pub with_front : List Entry → Result (List Entry × List ℕ) Refusal → Result (List Entry × List ℕ) Refusal
with_front front read = read >>= λ x. Ok (front ++ x.0, x.1)

regroup : (front : List Entry) (entry : Entry) (read : Result (List Entry × List ℕ) Refusal) → with_front front (read >>= λ x. Ok (entry ∷ x.0, x.1)) ≡ with_front (front ++ entry ∷ []) read
regroup front entry (Ok x) = ap (λ (entries : List Entry). Ok (entries, x.1)) (sym (append_assoc front (entry ∷ []) x.0))
regroup front entry (Err e) = refl

-- an entry stands only where more may come
pub more_come : (more total kind : ℕ) (bytes after : List ℕ) → kind ≢ 0 → field_at total Kind 1 (is_kind more) bytes ≡ Ok (kind, after) → 0 < more
more_come zero total kind bytes after some read = absurd (some (eqb-true kind 0 (field_ok total Kind 1 (is_kind 0) bytes (kind, after) read).1))
more_come (suc more) total kind bytes after some read = omega arith

-- behind a kind that was read
read_kind : (threads more total kind : ℕ) (bytes after : List ℕ) → field_at total Kind 1 (is_kind (suc more)) bytes ≡ Ok (kind, after)
    → run (entries_shape threads (suc more)) total bytes ≡ run (entries_from threads (entries_shape threads more) kind) total after
unfolding entries_shape
read_kind threads more total kind bytes after read =
    ap (λ (r : Result (ℕ × List ℕ) Refusal). r >>= λ x. run (entries_from threads (entries_shape threads more) x.0) total x.1) read

-- .. of an entry
from_entry : (threads total kind : ℕ) (later : Shape (List Entry)) (after : List ℕ) → kind ≢ 0 →
    run (entries_from threads later kind) total after ≡ (run (entry_shape threads kind) total after >>= λ x. run (and_then later (λ entries. Done (x.0 ∷ entries))) total x.1)
from_entry threads total kind later after some =
    ap (λ (b : Bool). run (if b then Done [] else and_then (entry_shape threads kind) (λ entry. and_then later (λ entries. Done (entry ∷ entries)))) total after) (ne_eqb kind 0 some)
    ∙ run_and_then (entry_shape threads kind) (λ entry. and_then later (λ entries. Done (entry ∷ entries))) total after

-- .. and of the end
from_end : (threads total kind : ℕ) (later : Shape (List Entry)) (after : List ℕ) → kind ≡ 0 → run (entries_from threads later kind) total after ≡ Ok ([], after)
from_end threads total kind later after none =
    ap (λ (b : Bool). run (if b then Done [] else and_then (entry_shape threads kind) (λ entry. and_then later (λ entries. Done (entry ∷ entries)))) total after) (eq-eqb kind 0 none)

-- behind an entry that was read
read_entry : (total : ℕ) (later : Shape (List Entry)) (r : Result (Entry × List ℕ) Refusal) (entry : Entry) (rest : List ℕ) → r ≡ Ok (entry, rest)
    → (r >>= λ x. run (and_then later (λ entries. Done (x.0 ∷ entries))) total x.1) ≡ (run later total rest >>= λ x. Ok (entry ∷ x.0, x.1))
read_entry total later r entry rest read =
    ap (λ (r : Result (Entry × List ℕ) Refusal). r >>= λ x. run (and_then later (λ entries. Done (x.0 ∷ entries))) total x.1) read
    ∙ run_and_then later (λ entries. Done (entry ∷ entries)) total rest

-- an entry more was read
pub goes_on : (threads more total kind : ℕ) (front : List Entry) (bytes after later : List ℕ) (entry : Entry) (whole : Result (List Entry × List ℕ) Refusal) → kind ≢ 0
    → field_at total Kind 1 (is_kind more) bytes ≡ Ok (kind, after) → run (entry_shape threads kind) total after ≡ Ok (entry, later)
    → with_front front (run (entries_shape threads more) total bytes) ≡ whole → with_front (front ++ entry ∷ []) (run (entries_shape threads (more - 1)) total later) ≡ whole
goes_on threads zero total kind front bytes after later entry whole some read of_entry so_far = absurd (omega (arith, more_come 0 total kind bytes after some read))
goes_on threads (suc more) total kind front bytes after later entry whole some read of_entry so_far =
    let less : suc more - 1 ≡ more = omega arith in
    let one : run (entries_shape threads (suc more)) total bytes ≡ (run (entries_shape threads more) total later >>= λ x. Ok (entry ∷ x.0, x.1)) =
    read_kind threads more total kind bytes after read ∙ from_entry threads total kind (entries_shape threads more) after some
    ∙ read_entry total (entries_shape threads more) (run (entry_shape threads kind) total after) entry later of_entry in
    rw less (sym (regroup front entry (run (entries_shape threads more) total later)) ∙ ap (with_front front) (sym one) ∙ so_far)

-- the kind of the end was read
pub is_done : (threads more total kind : ℕ) (front : List Entry) (bytes after : List ℕ) (whole : Result (List Entry × List ℕ) Refusal) → kind ≡ 0
    → field_at total Kind 1 (is_kind more) bytes ≡ Ok (kind, after) → with_front front (run (entries_shape threads more) total bytes) ≡ whole → whole ≡ Ok (front, after)
unfolding entries_shape
is_done threads zero total kind front bytes after whole none read so_far =
    let one : run (entries_shape threads 0) total bytes ≡ Ok ([], after) = ap (λ (r : Result (ℕ × List ℕ) Refusal). r >>= λ x. Ok ([], x.1)) read in
    sym so_far ∙ ap (with_front front) one ∙ ap (λ (entries : List Entry). Ok (entries, after)) (append-nil front)
is_done threads (suc more) total kind front bytes after whole none read so_far =
    let one : run (entries_shape threads (suc more)) total bytes ≡ Ok ([], after) =
    read_kind threads more total kind bytes after read ∙ from_end threads total kind (entries_shape threads more) after none in
    sym so_far ∙ ap (with_front front) one ∙ ap (λ (entries : List Entry). Ok (entries, after)) (append-nil front)

-- no kind was read
pub kind_fails : (threads more total : ℕ) (e : HistoryFault) (front : List Entry) (bytes : List ℕ) (whole : Result (List Entry × List ℕ) Refusal)
    → Fails e (field_at total Kind 1 (is_kind more) bytes) → with_front front (run (entries_shape threads more) total bytes) ≡ whole → Fails e whole
unfolding entries_shape
kind_fails threads more total fault.Memory front bytes whole fails so_far = tt
kind_fails threads zero total (fault.Refused reason offset) front bytes whole fails so_far =
    let one : run (entries_shape threads 0) total bytes ≡ Err (record { reason = reason; offset = offset }) = rw fails refl in
    sym so_far ∙ ap (with_front front) one
kind_fails threads (suc more) total (fault.Refused reason offset) front bytes whole fails so_far =
    let one : run (entries_shape threads (suc more)) total bytes ≡ Err (record { reason = reason; offset = offset }) = rw fails refl in
    sym so_far ∙ ap (with_front front) one

-- no entry was read
pub entry_fails : (threads more total kind : ℕ) (e : HistoryFault) (front : List Entry) (bytes after : List ℕ) (whole : Result (List Entry × List ℕ) Refusal) → kind ≢ 0
    → field_at total Kind 1 (is_kind more) bytes ≡ Ok (kind, after) → Fails e (run (entry_shape threads kind) total after)
    → with_front front (run (entries_shape threads more) total bytes) ≡ whole → Fails e whole
unfolding entries_shape
entry_fails threads more total kind fault.Memory front bytes after whole some read fails so_far = tt
entry_fails threads zero total kind (fault.Refused reason offset) front bytes after whole some read fails so_far =
    absurd (omega (arith, more_come 0 total kind bytes after some read))
entry_fails threads (suc more) total kind (fault.Refused reason offset) front bytes after whole some read fails so_far =
    let one : run (entries_shape threads (suc more)) total bytes ≡ Err (record { reason = reason; offset = offset }) =
    read_kind threads more total kind bytes after read ∙ from_entry threads total kind (entries_shape threads more) after some
    ∙ ap (λ (r : Result (Entry × List ℕ) Refusal). r >>= λ x. run (and_then (entries_shape threads more) (λ entries. Done (x.0 ∷ entries))) total x.1) fails in
    sym so_far ∙ ap (with_front front) one
