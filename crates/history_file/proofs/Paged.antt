-- What a sink has taken of a file, while the rest of what was put stands on the page.
use Rattle.std.proofs.Common.{ℕ, ◌≡◌, ◌<◌, ◌+◌, List, [], ◌∷◌, ◌++◌, length, take, drop, get_or, Option, Result, Ok, Err, OnErr, sym, ap, subst, ◌∙◌, append_assoc, length-append, arith}
use Rattle.std.proofs.KnownBytes.{Appends-nil, Appends-trans}
use Rattle.std.proofs.lemmas.Grind.{flat_map-append}
use Rattle.std.proofs.lemmas.List.{append-nil, flat_map_more, take-append-drop, take-append-le, take_more}
use Rattle.std.proofs.Math.Seq.{take-append-add}
use Rattle.std.specs.Io.KnownBytes.{Appends}
use Rattle.std.specs.List.{flat_map}
use Rattle.omp_model.specs.declared.history.Entry.{Entry}
use Rattle.run_edges.specs.Edges.{AppendsFront}
use Rattle.history_file.specs.declared.file.HistoryFile.{HistoryFile}
use Rattle.history_file.specs.Fields.Field.{Text}
use Rattle.history_file.specs.Fields.{Spelt, end_fields, entry_fields, fields_of, head_fields, header_fields, spelling}
use Rattle.history_file.specs.Paging.{IsPaged}

-- what is so in any case is so where there is an error
pub on_err : {T E P : Type 0} (result : Result T E) → P → OnErr result P
on_err (Ok x) is = tt
on_err (Err e) is = is

-- the bytes of fields behind fields
pub spelling_append : (a b : List Spelt) → spelling (a ++ b) ≡ spelling a ++ spelling b
spelling_append a b = flat_map-append (λ (spelt : Spelt). spelt.bytes) a b

-- a page on which all stands
pub paged_first : (old : Option (List ℕ)) (page : List ℕ) → IsPaged old old page (page ++ [])
paged_first old page = record { front = []; appended = Appends-nil old; whole = sym (append-nil page) }

-- more was put on the page
pub paged_more : (old new : Option (List ℕ)) (page bytes more : List ℕ) → IsPaged old new page bytes → IsPaged old new (page ++ more) (bytes ++ more)
paged_more old new page bytes more it = record {
  front = it.front;
  appended = it.appended;
  whole = sym (append_assoc it.front page more) ∙ ap (λ (all : List ℕ). all ++ more) it.whole;
}

-- a front of the page was taken
pub paged_then : (old mid new : Option (List ℕ)) (page later bytes : List ℕ) → IsPaged old mid page bytes → IsPaged mid new later page → IsPaged old new later bytes
paged_then old mid new page later bytes first second = record {
  front = first.front ++ second.front;
  appended = Appends-trans old mid new first.front second.front first.appended second.appended;
  whole = append_assoc first.front second.front later ∙ ap (λ (all : List ℕ). first.front ++ all) second.whole ∙ first.whole;
}

-- all of the page was taken
pub whole_then : (old mid new : Option (List ℕ)) (page bytes : List ℕ) → IsPaged old mid page bytes → Appends mid new page → Appends old new bytes
whole_then old mid new page bytes first second =
    subst (Appends old new) first.whole (Appends-trans old mid new first.front page first.appended second)

-- a front was taken behind what was taken before
pub part_behind : (old mid new : Option (List ℕ)) (done next : List ℕ) → Appends old mid done → AppendsFront mid new next → AppendsFront old new (done ++ next)
part_behind old mid new done next first (n, room, second) = (
  length done + n,
  omega (arith, length-append done next),
  subst (Appends old new) (sym (take-append-add done next n)) (Appends-trans old mid new done (take n next) first second),
)

-- the front of some bytes is one of more bytes
pub part_more : (old new : Option (List ℕ)) (bytes more : List ℕ) → AppendsFront old new bytes → AppendsFront old new (bytes ++ more)
part_more old new bytes more (n, room, it) = (
  n,
  omega (arith, length-append bytes more),
  subst (Appends old new) (sym (take-append-le n bytes more room)) it,
)

-- a front of the page was taken, and then no more
pub part_then : (old mid new : Option (List ℕ)) (page bytes : List ℕ) → IsPaged old mid page bytes → AppendsFront mid new page → AppendsFront old new bytes
part_then old mid new page bytes first part =
    subst (AppendsFront old new) first.whole (part_behind old mid new first.front page first.appended part)

-- one entry more was spelled
pub spelt_next : (front : List ℕ) (entries : List Entry) (i : ℕ) (d : Entry) → i < length entries →
    (front ++ spelling (flat_map entry_fields (take i entries))) ++ spelling (entry_fields (get_or entries i d)) ≡ front ++ spelling (flat_map entry_fields (take (i + 1) entries))
spelt_next front entries i d within =
    append_assoc front (spelling (flat_map entry_fields (take i entries))) (spelling (entry_fields (get_or entries i d)))
    ∙ ap (λ (bytes : List ℕ). front ++ bytes)
    (sym (spelling_append (flat_map entry_fields (take i entries)) (entry_fields (get_or entries i d)))
    ∙ ap spelling
    (flat_map_more entry_fields [] (take i entries) (get_or entries i d)
    ∙ ap (λ (xs : List Entry). flat_map entry_fields xs) (sym (take_more entries i d within))))

-- the first entries and the rest of them
pub spelt_split : (front : List ℕ) (entries : List Entry) (i : ℕ) →
    (front ++ spelling (flat_map entry_fields (take i entries))) ++ spelling (flat_map entry_fields (drop i entries)) ≡ front ++ spelling (flat_map entry_fields entries)
spelt_split front entries i =
    append_assoc front (spelling (flat_map entry_fields (take i entries))) (spelling (flat_map entry_fields (drop i entries)))
    ∙ ap (λ (bytes : List ℕ). front ++ bytes)
    (sym (spelling_append (flat_map entry_fields (take i entries)) (flat_map entry_fields (drop i entries)))
    ∙ ap spelling
    (sym (flat_map-append entry_fields (take i entries) (drop i entries)) ∙ ap (λ (xs : List Entry). flat_map entry_fields xs) (take-append-drop i entries)))

-- the header is what stands before the text, and the text
pub header_is : (file : HistoryFile) → spelling (header_fields file) ≡ spelling (head_fields file) ++ file.text
header_is file = spelling_append (head_fields file) (record { field = Text; bytes = file.text } ∷ []) ∙ ap (λ (bytes : List ℕ). spelling (head_fields file) ++ bytes) (append-nil file.text)

-- a file is its header, its entries and its end
pub file_is : (file : HistoryFile) → spelling (fields_of file) ≡ spelling (header_fields file) ++ (spelling (flat_map entry_fields file.history) ++ spelling (end_fields file))
file_is file =
    let entries = flat_map entry_fields file.history in
    spelling_append (header_fields file ++ entries) (end_fields file)
    ∙ ap (λ (bytes : List ℕ). bytes ++ spelling (end_fields file)) (spelling_append (header_fields file) entries)
    ∙ append_assoc (spelling (header_fields file)) (spelling entries) (spelling (end_fields file))

-- the sink failed at the header
pub part_header : (old new : Option (List ℕ)) (file : HistoryFile) → AppendsFront old new (spelling (header_fields file)) → AppendsFront old new (spelling (fields_of file))
part_header old new file part =
    subst (AppendsFront old new) (sym (file_is file)) (part_more old new (spelling (header_fields file)) (spelling (flat_map entry_fields file.history) ++ spelling (end_fields file)) part)

-- .. at the entries
pub part_entries : (old mid new : Option (List ℕ)) (file : HistoryFile) (entries : List Entry) → entries ≡ file.history → Appends old mid (spelling (header_fields file))
    → AppendsFront mid new (spelling (flat_map entry_fields entries)) → AppendsFront old new (spelling (fields_of file))
part_entries old mid new file entries are header part =
    let of_file = subst (λ (es : List Entry). AppendsFront mid new (spelling (flat_map entry_fields es))) are part in
    subst (AppendsFront old new) (sym (file_is file))
    (part_behind old mid new (spelling (header_fields file)) _ header (part_more mid new (spelling (flat_map entry_fields file.history)) (spelling (end_fields file)) of_file))

-- what was put after the header
pub paged_file : (mid last : Option (List ℕ)) (file : HistoryFile) (entries : List Entry) (page : List ℕ) → entries ≡ file.history
    → IsPaged mid last page (spelling (flat_map entry_fields entries))
    → IsPaged mid last (page ++ spelling (end_fields file)) (spelling (flat_map entry_fields file.history) ++ spelling (end_fields file))
paged_file mid last file entries page are paged =
    paged_more mid last page (spelling (flat_map entry_fields file.history)) (spelling (end_fields file))
    (subst (λ (es : List Entry). IsPaged mid last page (spelling (flat_map entry_fields es))) are paged)

-- .. at the end
pub part_end : (old mid last new : Option (List ℕ)) (file : HistoryFile) (entries : List Entry) (page : List ℕ) → entries ≡ file.history → Appends old mid (spelling (header_fields file))
    → IsPaged mid last page (spelling (flat_map entry_fields entries)) → AppendsFront last new (page ++ spelling (end_fields file)) → AppendsFront old new (spelling (fields_of file))
part_end old mid last new file entries page are header paged part =
    subst (AppendsFront old new) (sym (file_is file))
    (part_behind old mid new (spelling (header_fields file)) _ header (part_then mid last new _ _ (paged_file mid last file entries page are paged) part))

-- it has taken all
pub whole_end : (old mid last new : Option (List ℕ)) (file : HistoryFile) (entries : List Entry) (page : List ℕ) → entries ≡ file.history → Appends old mid (spelling (header_fields file))
    → IsPaged mid last page (spelling (flat_map entry_fields entries)) → Appends last new (page ++ spelling (end_fields file)) → Appends old new (spelling (fields_of file))
whole_end old mid last new file entries page are header paged all =
    subst (Appends old new) (sym (file_is file))
    (Appends-trans old mid new (spelling (header_fields file)) _ header (whole_then mid last new _ _ (paged_file mid last file entries page are paged) all))
