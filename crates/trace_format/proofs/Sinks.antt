-- What a sink has taken of a trace, after some of its items.
use Rattle.std.proofs.Common.{ℕ, ◌≡◌, ◌<◌, ◌≤◌, ◌+◌, List, [], ◌∷◌, ◌++◌, length, take, drop, get_or, Option, Result, Ok, Err, OnErr, sym, ap, subst, ◌∙◌, append_assoc, take_all, length-append, arith}
use Rattle.std.proofs.KnownBytes.{Appends-nil, Appends-trans}
use Rattle.std.proofs.lemmas.Grind.{flat_map-append}
use Rattle.std.proofs.lemmas.List.{append-nil, drop_more, flat_map_more, take-append-drop, take-append-le, take_more}
use Rattle.std.proofs.Math.Seq.{take-append-add}
use Rattle.std.specs.Io.KnownBytes.{Appends}
use Rattle.std.specs.List.{flat_map}
use Rattle.ompt_calls.specs.declared.event.EventRecord.{EventRecord}
use Rattle.run_edges.specs.Edges.{AppendsFront}
use Rattle.trace_format.specs.declared.trace.EndMark.{EndMark}
use Rattle.trace_format.specs.declared.trace.Header.{Header}
use Rattle.trace_format.specs.declared.trace.Trace.{Trace}
use Rattle.trace_format.specs.Fields.{Spelt, end_fields, event_fields, fields_of, header_fields, spelling}

-- what is so in any case is so where there is an error
pub on_err : {T E P : Type 0} (result : Result T E) → P → OnErr result P
on_err (Ok x) is = tt
on_err (Err e) is = is

-- the spelling of fields that stand one behind the other
spelt_behind : (first second : List Spelt) → spelling (first ++ second) ≡ spelling first ++ spelling second
spelt_behind first second = flat_map-append (λ (spelt : Spelt). spelt.bytes) first second

-- one event more was spelled
spelt_more :
    (front : List Spelt) (fields : EventRecord → List Spelt) (events : List EventRecord) (i : ℕ) (d : EventRecord) → i < length events
    → spelling (front ++ flat_map fields (take i events)) ++ spelling (fields (get_or events i d)) ≡ spelling (front ++ flat_map fields (take (i + 1) events))
spelt_more front fields events i d within =
    sym (spelt_behind (front ++ flat_map fields (take i events)) (fields (get_or events i d)))
    ∙ ap spelling
    (flat_map_more fields front (take i events) (get_or events i d)
    ∙ ap (λ (xs : List EventRecord). front ++ flat_map fields xs) (sym (take_more events i d within)))

-- .. and what stands behind it
spelt_rest :
    (front : List Spelt) (fields : EventRecord → List Spelt) (events : List EventRecord) (i : ℕ) (d : EventRecord) (end : List Spelt) → i < length events
    → spelling (front ++ flat_map fields events ++ end)
    ≡ spelling (front ++ flat_map fields (take i events))
    ++ (spelling (fields (get_or events i d)) ++ spelling (flat_map fields (drop (i + 1) events) ++ end))
spelt_rest front fields events i d end within =
    let event = get_or events i d in
    let later : List EventRecord = drop (i + 1) events in
    let cut : flat_map fields events ≡ flat_map fields (take i events) ++ (fields event ++ flat_map fields later) =
    ap (flat_map fields)
    (sym (take-append-drop i events) ∙ ap (λ (xs : List EventRecord). take i events ++ xs) (drop_more events i d within))
    ∙ flat_map-append fields (take i events) (event ∷ later) in
    let whole : front ++ flat_map fields events ++ end ≡ (front ++ flat_map fields (take i events)) ++ (fields event ++ (flat_map fields later ++ end)) =
    rw cut (simp append_assoc) in
    ap spelling whole
    ∙ spelt_behind (front ++ flat_map fields (take i events)) (fields event ++ (flat_map fields later ++ end))
    ∙ ap (λ (bytes : List ℕ). spelling (front ++ flat_map fields (take i events)) ++ bytes) (spelt_behind (fields event) (flat_map fields later ++ end))

-- a sink that has taken the front of some bytes has taken the front of more
front_more :
    (old mid new : Option (List ℕ)) (done next rest whole : List ℕ) → whole ≡ done ++ (next ++ rest) → Appends old mid done → AppendsFront mid new next
    → AppendsFront old new whole
front_more old mid new done next rest whole is first (n, room, second) =
    let front : done ++ take n next ≡ take (length done + n) whole =
    sym
    (ap (take (length done + n)) is ∙ take-append-add done (next ++ rest) n
    ∙ ap (λ (bytes : List ℕ). done ++ bytes) (take-append-le n next rest room)) in (
      length done + n,
      omega (arith, length-append done (next ++ rest), length-append next rest, ap length is),
      subst (Appends old new) front (Appends-trans old mid new done (take n next) first second),
    )

-- the bytes of the header and of so many events
abbrev pub bytes_to : Trace → List EventRecord → ℕ → List ℕ
bytes_to trace events i = spelling (header_fields trace.header ++ flat_map event_fields (take i events))

-- the sink failed at the header
pub part_first :
    (old new : Option (List ℕ)) (trace : Trace) (header : Header) → header ≡ trace.header → AppendsFront old new (spelling (header_fields header))
    → AppendsFront old new (spelling (fields_of trace))
part_first old new trace header is part =
    let front = header_fields trace.header in
    let events = flat_map event_fields trace.events in
    let end = end_fields trace.end in
    front_more old old new [] (spelling front) (spelling (events ++ end)) (spelling (fields_of trace))
    (ap spelling (append_assoc front events end) ∙ spelt_behind front (events ++ end)) (Appends-nil old)
    (subst (λ (its : Header). AppendsFront old new (spelling (header_fields its))) is part)

-- it failed at an event
pub part_event :
    (old mid new : Option (List ℕ)) (trace : Trace) (events : List EventRecord) (i : ℕ) (d : EventRecord) → events ≡ trace.events → i < length events
    → Appends old mid (bytes_to trace events i) → AppendsFront mid new (spelling (event_fields (get_or events i d)))
    → AppendsFront old new (spelling (fields_of trace))
part_event old mid new trace events i d are within done part =
    let front = header_fields trace.header in
    let end = end_fields trace.end in
    front_more old mid new (bytes_to trace events i) (spelling (event_fields (get_or events i d)))
    (spelling (flat_map event_fields (drop (i + 1) events) ++ end)) (spelling (fields_of trace))
    (ap (λ (xs : List EventRecord). spelling (front ++ flat_map event_fields xs ++ end)) (sym are)
    ∙ spelt_rest front event_fields events i d end within)
    done part

-- the bytes of the end mark are the last ones
last_bytes :
    (trace : Trace) (events : List EventRecord) (i : ℕ) (end : EndMark) → events ≡ trace.events → end ≡ trace.end → length events ≤ i
    → spelling (fields_of trace) ≡ bytes_to trace events i ++ spelling (end_fields end)
last_bytes trace events i end are is all =
    let front = header_fields trace.header in
    rw (take_all i events all, are, is) (spelt_behind (front ++ flat_map event_fields trace.events) (end_fields trace.end))

-- it failed at the end mark
pub part_last :
    (old mid new : Option (List ℕ)) (trace : Trace) (events : List EventRecord) (i : ℕ) (end : EndMark) → events ≡ trace.events → end ≡ trace.end
    → length events ≤ i → Appends old mid (bytes_to trace events i) → AppendsFront mid new (spelling (end_fields end))
    → AppendsFront old new (spelling (fields_of trace))
part_last old mid new trace events i end are is all done part =
    front_more old mid new (bytes_to trace events i) (spelling (end_fields end)) [] (spelling (fields_of trace))
    (last_bytes trace events i end are is all ∙ ap (λ (bytes : List ℕ). bytes_to trace events i ++ bytes) (sym (append-nil (spelling (end_fields end)))))
    done part

-- it has taken all
pub whole_last :
    (old mid new : Option (List ℕ)) (trace : Trace) (events : List EventRecord) (i : ℕ) (end : EndMark) → events ≡ trace.events → end ≡ trace.end
    → length events ≤ i → Appends old mid (bytes_to trace events i) → Appends mid new (spelling (end_fields end))
    → Appends old new (spelling (fields_of trace))
whole_last old mid new trace events i end are is all done last =
    subst (Appends old new) (sym (last_bytes trace events i end are is all))
    (Appends-trans old mid new (bytes_to trace events i) (spelling (end_fields end)) done last)

-- one event more was taken
pub taken_more :
    (old mid new : Option (List ℕ)) (trace : Trace) (events : List EventRecord) (i : ℕ) (d : EventRecord) → i < length events
    → Appends old mid (bytes_to trace events i) → Appends mid new (spelling (event_fields (get_or events i d)))
    → Appends old new (bytes_to trace events (i + 1))
taken_more old mid new trace events i d within done one =
    subst (Appends old new) (spelt_more (header_fields trace.header) event_fields events i d within)
    (Appends-trans old mid new (bytes_to trace events i) (spelling (event_fields (get_or events i d))) done one)

-- the header was taken
pub taken_first :
    (old new : Option (List ℕ)) (trace : Trace) (header : Header) (events : List EventRecord) → header ≡ trace.header
    → Appends old new (spelling (header_fields header)) → Appends old new (bytes_to trace events 0)
taken_first old new trace header events is done = subst (λ (its : Header). Appends old new (spelling (header_fields its))) is done
