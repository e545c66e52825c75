-- What reading gives is the file that the bytes are, or why they are refused.
use Rattle.std.proofs.Common.{◌≡◌, ◌≤◌, ℕ, ◌-◌, ◌==◌, ◌⊎◌, Bool, List, [], ◌∷◌, ◌++◌, length, IfOk, MatchResult, Result, Ok, Err, inl, inr, ⊎_elim, refl, sym, ap, ap₂, subst, ◌∙◌, append_assoc, append-nil, length-append, ne_eqb, arith}
use Rattle.std.proofs.lemmas.Bool.{cases_lt, le-ltb, lt-ltb}
use Rattle.trace_format.specs.Reached.{IsBytes}
use Rattle.history_file.specs.declared.file.HistoryFile.{HistoryFile}
use Rattle.history_file.specs.declared.file.TheConstants.{ENTRY_LIMIT, HISTORY_LIMIT}
use Rattle.history_file.specs.declared.header.End.{End}
use Rattle.history_file.specs.declared.reason.HistoryFault.{HistoryFault}
use Rattle.history_file.specs.declared.reason.HistoryFault.TheVariants as fault
use Rattle.history_file.specs.declared.reason.HistoryReason.{HistoryReason}
use Rattle.history_file.specs.declared.reason.HistoryReason.TheVariants as reason
use Rattle.history_file.specs.Fields.{Spelt, fields_of, spelling}
use Rattle.history_file.specs.Reading.{◌>>=◌, Gives, Refusal, all_of, end_shape, entries_shape, file_at, file_shape, header_shape, made_file, passed, run, text_at}
use Rattle.history_file.specs.Reading.Shape.{Done}
use Rattle.history_file.specs.Refusing.{IsCut, IsHistoryRefused, IsRefusedField}
use Rattle.history_file.specs.Validity.{IsHistoryFile, WritesHistory}
use Rattle.history_file.proofs.Backwards.{file_back}
use Rattle.history_file.proofs.Files.{after_entries, after_header, after_text, file_leads}
use Rattle.history_file.proofs.Fronts.{IsFront, compare, never_more, next_same}
use Rattle.history_file.proofs.Going.{file_goes}
use Rattle.history_file.proofs.OneRefusal.{never_history_refused, same_history_refusal}
use Rattle.history_file.proofs.Leading.{Leads, read_leads}
use Rattle.history_file.proofs.Refusals.{comes_next, leading, no_longer, one_writing}
use Rattle.history_file.proofs.Runs.{run_and_then}
use Rattle.history_file.proofs.Stops.{Breaks, Stops, refused_run}

bind_same : {A B : Type 0} (r : Result A Refusal) (f g : A → Result B Refusal) → ((x : A) → f x ≡ g x) → (r >>= f) ≡ (r >>= g)
bind_same (Ok x) f g same = same x
bind_same (Err e) f g same = refl

-- a file is read part by part
parts_read : (total : ℕ) (bytes : List ℕ) → run file_shape total bytes ≡ file_at total bytes
unfolding file_shape file_at
parts_read total bytes =
    run_and_then header_shape after_header total bytes
    ∙ bind_same (run header_shape total bytes) (λ h. run (after_header h.0) total h.1) _
    (λ h.
    bind_same (text_at total h.0.text_len h.1) (λ t. run (after_text h.0 t.0) total t.1) _
    (λ t.
    run_and_then (entries_shape h.0.threads ENTRY_LIMIT) (after_entries h.0 t.0) total t.1
    ∙ bind_same (run (entries_shape h.0.threads ENTRY_LIMIT) total t.1) (λ es. run (after_entries h.0 t.0 es.0) total es.1) _
    (λ es. run_and_then (end_shape (length es.0)) (λ (end : End). Done (made_file h.0 t.0 es.0 end)) total es.1)))

-- A field that is refused.

field_wrong : (bytes : List ℕ) (e : Refusal) → Stops file_shape (length bytes) bytes e → IsRefusedField bytes e.reason e.offset
field_wrong bytes e it =
    let long = ap (λ (all : List ℕ). length all) it.bytes_are in
    record {
      before = it.before;
      refused = it.refused;
      rest = it.rest;
      bytes_are = it.bytes_are;
      comes = comes_next it.before it.refused.field (length it.refused.bytes) it.comes;
      none = λ stood. let those = leading it.before it.refused stood in it.none those.more those.file those.leads;
      reason_is = ap (λ (r : Refusal). r.reason) it.refusal_is;
      offset_is = ap (λ (r : Refusal). r.offset) it.refusal_is ∙ omega (arith, long, length-append (spelling it.before) (it.refused.bytes ++ it.rest));
    }

-- Bytes that end in a field.

-- a field of the same bytes is longer than they are
no_room : (bytes : List ℕ) (e : Refusal) (it : Breaks file_shape (length bytes) bytes e) (t : Spelt) (more : List Spelt) (file : HistoryFile) (y : List ℕ)
    → Leads file_shape (it.before ++ t ∷ more) file → it.left ≡ t.bytes ++ y → ⊥
no_room bytes e it t more file y leads same =
    let next = next_same file_shape it.before it.comes.fields more (record { field = it.field; bytes = it.comes.bytes }) t it.comes.value file it.comes.leads leads in
    let short = it.short in
    let wide = it.comes.width_is in
    let long = ap (λ (all : List ℕ). length all) same in
    absurd (omega (arith, next.1, long, length-append t.bytes y))

-- no file's bytes stand at their front
no_front : (bytes : List ℕ) (e : Refusal) (it : Breaks file_shape (length bytes) bytes e) (file : HistoryFile) (y : List ℕ) → IsHistoryFile file → bytes ≡ spelling (fields_of file) ++ y → ⊥
no_front bytes e it file y is whole =
    let leads = file_leads file is in
    ⊎_elim
    (λ (f : IsFront it.before (fields_of file) it.left y). front f.more f.fields_are f.bytes_are leads)
    (λ (f : IsFront (fields_of file) it.before y it.left). longer f.more f.fields_are leads)
    (compare file_shape it.before (fields_of file) (record { field = it.field; bytes = it.comes.bytes } ∷ it.comes.fields) [] it.comes.value file it.left y it.comes.leads
    (subst (λ (fs : List Spelt). Leads file_shape fs file) (sym (append-nil (fields_of file))) leads) (sym it.bytes_are ∙ whole))
  where
    front : (more : List Spelt) → fields_of file ≡ it.before ++ more → it.left ≡ spelling more ++ y → Leads file_shape (fields_of file) file → ⊥
    front [] fields same leads =
        never_more file_shape it.before it.comes.fields (record { field = it.field; bytes = it.comes.bytes }) file it.comes.value
        (subst (λ (fs : List Spelt). Leads file_shape fs file) (fields ∙ append-nil it.before) leads) it.comes.leads
    front (t ∷ more) fields same leads =
        no_room bytes e it t more file (spelling more ++ y) (subst (λ (fs : List Spelt). Leads file_shape fs file) fields leads) (same ∙ append_assoc t.bytes (spelling more) y)

    longer : (more : List Spelt) → it.before ≡ fields_of file ++ more → Leads file_shape (fields_of file) file → ⊥
    longer [] fields leads =
        never_more file_shape (fields_of file) it.comes.fields (record { field = it.field; bytes = it.comes.bytes }) file it.comes.value leads
        (subst (λ (fs : List Spelt). Leads file_shape (fs ++ record { field = it.field; bytes = it.comes.bytes } ∷ it.comes.fields) it.comes.value) (fields ∙ append-nil (fields_of file)) it.comes.leads)
    longer (t ∷ more) fields leads =
        never_more file_shape (fields_of file) (more ++ record { field = it.field; bytes = it.comes.bytes } ∷ it.comes.fields) t file it.comes.value leads
        (subst (λ (fs : List Spelt). Leads file_shape fs it.comes.value)
        (ap (λ (fs : List Spelt). fs ++ record { field = it.field; bytes = it.comes.bytes } ∷ it.comes.fields) fields
        ∙ append_assoc (fields_of file) (t ∷ more) (record { field = it.field; bytes = it.comes.bytes } ∷ it.comes.fields)) it.comes.leads)

-- no field of them is refused
no_field_refused : (bytes : List ℕ) (e : Refusal) (it : Breaks file_shape (length bytes) bytes e) (r : HistoryReason) (m : ℕ) → IsRefusedField bytes r m → ⊥
no_field_refused bytes e it r m other =
    let goes = leading other.before (record { field = other.refused.field; bytes = other.comes.bytes }) other.comes.begins in
    ⊎_elim
    (λ (f : IsFront it.before other.before it.left (other.refused.bytes ++ other.rest)). front goes.more goes.file goes.leads f.more f.fields_are f.bytes_are)
    (λ (f : IsFront other.before it.before (other.refused.bytes ++ other.rest) it.left). longer goes.more goes.file goes.leads f.more f.fields_are f.bytes_are)
    (compare file_shape it.before other.before (record { field = it.field; bytes = it.comes.bytes } ∷ it.comes.fields) (record { field = other.refused.field; bytes = other.comes.bytes } ∷ goes.more)
    it.comes.value goes.file it.left (other.refused.bytes ++ other.rest) it.comes.leads goes.leads (sym it.bytes_are ∙ other.bytes_are))
  where
    at_once : (ms : List Spelt) (a : HistoryFile) → Leads file_shape (it.before ++ record { field = other.refused.field; bytes = other.comes.bytes } ∷ ms) a
        → it.left ≡ other.refused.bytes ++ other.rest → ⊥
    at_once ms a leads same =
        let next = next_same file_shape it.before it.comes.fields ms (record { field = it.field; bytes = it.comes.bytes }) (record { field = other.refused.field; bytes = other.comes.bytes }) it.comes.value a it.comes.leads leads in
        let short = it.short in
        let wide = it.comes.width_is in
        let as_wide = other.comes.width_is in
        let long = ap (λ (all : List ℕ). length all) same in
        absurd (omega (arith, next.1, long, length-append other.refused.bytes other.rest))

    front : (ms : List Spelt) (a : HistoryFile) → Leads file_shape (other.before ++ record { field = other.refused.field; bytes = other.comes.bytes } ∷ ms) a → (more : List Spelt) → other.before ≡ it.before ++ more
        → it.left ≡ spelling more ++ (other.refused.bytes ++ other.rest) → ⊥
    front ms a leads [] fields same =
        at_once ms a (subst (λ (fs : List Spelt). Leads file_shape (fs ++ record { field = other.refused.field; bytes = other.comes.bytes } ∷ ms) a) (fields ∙ append-nil it.before) leads) same
    front ms a leads (t ∷ more) fields same =
        no_room bytes e it t (more ++ record { field = other.refused.field; bytes = other.comes.bytes } ∷ ms) a (spelling more ++ (other.refused.bytes ++ other.rest))
        (subst (λ (fs : List Spelt). Leads file_shape fs a)
        (ap (λ (fs : List Spelt). fs ++ record { field = other.refused.field; bytes = other.comes.bytes } ∷ ms) fields ∙ append_assoc it.before (t ∷ more) (record { field = other.refused.field; bytes = other.comes.bytes } ∷ ms)) leads)
        (same ∙ append_assoc t.bytes (spelling more) (other.refused.bytes ++ other.rest))

    longer : (ms : List Spelt) (a : HistoryFile) → Leads file_shape (other.before ++ record { field = other.refused.field; bytes = other.comes.bytes } ∷ ms) a → (more : List Spelt) → it.before ≡ other.before ++ more
        → other.refused.bytes ++ other.rest ≡ spelling more ++ it.left → ⊥
    longer ms a leads [] fields same =
        at_once ms a (subst (λ (fs : List Spelt). Leads file_shape (fs ++ record { field = other.refused.field; bytes = other.comes.bytes } ∷ ms) a) (sym (append-nil other.before) ∙ sym fields) leads) (sym same)
    longer ms a leads (t ∷ more) fields same =
        no_longer bytes r m other t more (record { field = it.field; bytes = it.comes.bytes } ∷ it.comes.fields) it.comes.value it.left
        (subst (λ (fs : List Spelt). Leads file_shape (fs ++ record { field = it.field; bytes = it.comes.bytes } ∷ it.comes.fields) it.comes.value) fields it.comes.leads) same

cut_wrong : (bytes : List ℕ) (e : Refusal) → Breaks file_shape (length bytes) bytes e → IsCut bytes e.reason e.offset
cut_wrong bytes e it = record {
  no_field = λ r m other. no_field_refused bytes e it r m other;
  no_end = λ r m other.
      no_front bytes e it other.file (other.byte ∷ other.rest) other.writes.is_file (other.bytes_are ∙ ap (λ (front : List ℕ). front ++ other.byte ∷ other.rest) other.writes.bytes_are);
  no_file = λ file writes. no_front bytes e it file [] writes.is_file (writes.bytes_are ∙ sym (append-nil (spelling (fields_of file))));
  reason_is = ap (λ (r : Refusal). r.reason) it.refusal_is;
  offset_is = ap (λ (r : Refusal). r.offset) it.refusal_is;
}

-- What reading all of the bytes gives.

abbrev pub IsVerdictOn : List ℕ → Result HistoryFile Refusal → Type 0
IsVerdictOn bytes (Ok file) = WritesHistory file bytes
IsVerdictOn bytes (Err e) = IsHistoryRefused bytes e.reason e.offset

abbrev ok_file : HistoryFile → Result HistoryFile Refusal
ok_file file = Ok file

-- what is left behind a file
behind_file : (bytes : List ℕ) (fields : List Spelt) (file : HistoryFile) (rest : List ℕ) → length bytes ≤ HISTORY_LIMIT → Leads file_shape fields file → bytes ≡ spelling fields ++ rest
    → IsVerdictOn bytes (passed (length rest == 0) reason.AfterEnd (length bytes - length rest) >>= λ _. Ok file)
behind_file bytes fields file [] short leads whole =
    let back = file_back fields file leads in
    record { is_file = back.is; bytes_are = whole ∙ append-nil (spelling fields) ∙ ap spelling back.fields_are }
behind_file bytes fields file (byte ∷ rest) short leads whole =
    let back = file_back fields file leads in
    let long = ap (λ (all : List ℕ). length all) whole in
    let at : length bytes - length (byte ∷ rest) ≡ length (spelling fields) = omega (arith, long, length-append (spelling fields) (byte ∷ rest)) in
    let after : IsHistoryRefused bytes reason.AfterEnd (length bytes - length (byte ∷ rest)) = inr (record {
      short = short;
      wrong = inr (inl (record {
        file = file;
        written = spelling fields;
        writes = record { is_file = back.is; bytes_are = ap spelling back.fields_are };
        byte = byte;
        rest = rest;
        bytes_are = whole;
        reason_is = refl;
        offset_is = at;
      }));
    }) in
    subst (λ (b : Bool). IsVerdictOn bytes (passed b reason.AfterEnd (length bytes - length (byte ∷ rest)) >>= λ _. ok_file file))
    (sym (ne_eqb (length (byte ∷ rest)) 0 (λ none. omega arith))) after

short_verdict : (bytes : List ℕ) → IsBytes bytes → length bytes ≤ HISTORY_LIMIT → (r : Result (HistoryFile × List ℕ) Refusal) → run file_shape (length bytes) bytes ≡ r
    → IsVerdictOn bytes (r >>= λ x. (passed (length x.1 == 0) reason.AfterEnd (length bytes - length x.1) >>= λ _. Ok x.0))
short_verdict bytes of_bytes short (Ok x) read =
    let it = read_leads file_shape (length bytes) bytes x of_bytes read in
    behind_file bytes it.fields x.0 x.1 short it.leads it.bytes_are
short_verdict bytes of_bytes short (Err e) read =
    ⊎_elim
    (λ (it : Stops file_shape (length bytes) bytes e). inr (record { short = short; wrong = inl (field_wrong bytes e it) }))
    (λ (it : Breaks file_shape (length bytes) bytes e). inr (record { short = short; wrong = inr (inr (cut_wrong bytes e it)) }))
    (refused_run file_shape (length bytes) bytes e file_goes of_bytes read)

pub verdict_on : (bytes : List ℕ) → IsBytes bytes → IsVerdictOn bytes (all_of bytes)
unfolding all_of
verdict_on bytes of_bytes =
    elim (cases_lt HISTORY_LIMIT (length bytes)) [
      | inl long ↦ rw (lt-ltb HISTORY_LIMIT (length bytes) long) (inl (record { long = long; reason_is = refl; offset_is = refl }))
      | inr short ↦ rw (le-ltb HISTORY_LIMIT (length bytes) short) (short_verdict bytes of_bytes short (file_at (length bytes) bytes) (parts_read (length bytes) bytes))
    ]

-- The answers of a reader that gives this.

found_by : (bytes : List ℕ) (file : HistoryFile) (read : Result HistoryFile Refusal) → IsVerdictOn bytes read → read ≡ Ok file → WritesHistory file bytes
found_by bytes file read verdict is = subst (IsVerdictOn bytes) is verdict

pub found : (bytes : List ℕ) (result : Result HistoryFile HistoryFault) → IsBytes bytes → Gives (λ file. file) result (all_of bytes) → IfOk result (λ file. WritesHistory file bytes)
found bytes (Ok file) of_bytes gives = found_by bytes file (all_of bytes) (verdict_on bytes of_bytes) gives
found bytes (Err e) of_bytes gives = tt

abbrev no_file : Refusal → Result HistoryFile Refusal
no_file e = Err e

files_are : (f g : HistoryFile) → ok_file f ≡ ok_file g → f ≡ g
files_are f g same = cc

only_by : (bytes : List ℕ) (file : HistoryFile) (read : Result HistoryFile Refusal) → IsVerdictOn bytes read → WritesHistory file bytes → read ≡ Ok file
only_by bytes file (Ok given) verdict writes = ap (λ (f : HistoryFile). Ok f) (one_writing given file bytes bytes [] [] verdict writes refl).0
only_by bytes file (Err e) verdict writes = absurd (never_history_refused file bytes e.reason e.offset writes verdict)

pub only : (bytes : List ℕ) (result : Result HistoryFile HistoryFault) → IsBytes bytes → Gives (λ file. file) result (all_of bytes) → (file : HistoryFile) → WritesHistory file bytes
    → MatchResult result (λ given. given ≡ file) (λ e. e ≡ fault.Memory)
only bytes (Ok given) of_bytes gives file writes = files_are given file (sym gives ∙ only_by bytes file (all_of bytes) (verdict_on bytes of_bytes) writes)
only bytes (Err fault.Memory) of_bytes gives file writes = refl
only bytes (Err (fault.Refused reason offset)) of_bytes gives file writes = absurd (cc (gives, only_by bytes file (all_of bytes) (verdict_on bytes of_bytes) writes))

refused_by : (bytes : List ℕ) (r : HistoryReason) (m : ℕ) (read : Result HistoryFile Refusal) → IsVerdictOn bytes read → read ≡ Err (record { reason = r; offset = m }) → IsHistoryRefused bytes r m
refused_by bytes r m read verdict is = subst (IsVerdictOn bytes) is verdict

pub refused : (bytes : List ℕ) (result : Result HistoryFile HistoryFault) → IsBytes bytes → Gives (λ file. file) result (all_of bytes) → (r : HistoryReason) (m : ℕ) → result ≡ Err (fault.Refused r m)
    → IsHistoryRefused bytes r m
refused bytes result of_bytes gives r m is =
    let gives_that : Gives (λ (file : HistoryFile). file) (Err (fault.Refused r m)) (all_of bytes) = subst (λ (answer : Result HistoryFile HistoryFault). Gives (λ (file : HistoryFile). file) answer (all_of bytes)) is gives in
    refused_by bytes r m (all_of bytes) (verdict_on bytes of_bytes) gives_that

refusals_are : (d e : Refusal) → no_file d ≡ no_file e → d ≡ e
refusals_are d e same = cc

exact_by : (bytes : List ℕ) (r : HistoryReason) (m : ℕ) (read : Result HistoryFile Refusal) → IsVerdictOn bytes read → IsHistoryRefused bytes r m → read ≡ Err (record { reason = r; offset = m })
exact_by bytes r m (Ok file) verdict is = absurd (never_history_refused file bytes r m verdict is)
exact_by bytes r m (Err e) verdict is =
    let same = same_history_refusal bytes e.reason r e.offset m verdict is in
    ap₂ (λ (s : HistoryReason) (n : ℕ). no_file (record { reason = s; offset = n })) same.0 same.1

pub exact : (bytes : List ℕ) (result : Result HistoryFile HistoryFault) → IsBytes bytes → Gives (λ file. file) result (all_of bytes) → (r : HistoryReason) (m : ℕ) → IsHistoryRefused bytes r m
    → MatchResult result (λ given. ⊥) (λ e. (e ≡ fault.Memory) ⊎ (e ≡ fault.Refused r m))
exact bytes (Ok given) of_bytes gives r m is = absurd (cc (gives, exact_by bytes r m (all_of bytes) (verdict_on bytes of_bytes) is))
exact bytes (Err fault.Memory) of_bytes gives r m is = inl refl
exact bytes (Err (fault.Refused reason offset)) of_bytes gives r m is =
    let same = refusals_are (record { reason = reason; offset = offset }) (record { reason = r; offset = m }) (sym gives ∙ exact_by bytes r m (all_of bytes) (verdict_on bytes of_bytes) is) in
    inr (ap (λ (e : Refusal). fault.Refused e.reason e.offset) same)
