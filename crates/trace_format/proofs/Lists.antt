-- Lists that begin alike, and the bytes of fields and of items.
use Rattle.std.proofs.Common.{◌≡◌, ℕ, List, [], ◌∷◌, ◌++◌, length, Option, Some, None, refl, sym, ap, ap₂, ◌∙◌, append_assoc, append-nil, arith}
use Rattle.std.specs.List.{flat_map}
use Rattle.std.proofs.lemmas.Grind.{flat_map-append}
use Rattle.std.proofs.lemmas.List.Folds.{flat_map-map}
use Rattle.trace_format.specs.declared.item.Item.{Item}
use Rattle.trace_format.specs.Accepting.{Next, next_of}
use Rattle.trace_format.specs.Fields.{Spelt, spelling}
use Rattle.trace_format.specs.Items.{item_bytes, item_fields, items_bytes}
use Rattle.trace_format.specs.Reached.{flat}
use Rattle.trace_format.specs.Taking.{Stage, stage_from, next_stage}
use Rattle.trace_format.proofs.Rows.{bytes_in, named, named_from, spelt_next}

module _ {X : Type 0} where
  -- lists with fronts of one length
  pub split_same : (a b x y : List X) → length a ≡ length b → a ++ x ≡ b ++ y → (a ≡ b) × (x ≡ y)
  split_same [] [] x y long same = (refl, same)
  split_same [] (b ∷ bs) x y long same = absurd (omega arith)
  split_same (a ∷ us) [] x y long same = absurd (omega arith)
  split_same (a ∷ us) (b ∷ bs) x y long same =
      let rest : us ++ x ≡ bs ++ y = cc in
      let parts = split_same us bs x y (omega arith) rest in
      let head : a ≡ b = cc in
      (ap₂ (λ (z : X) (zs : List X). z ∷ zs) head parts.0, parts.1)

  -- no list stands within its own front
  pub never_longer : (a : List X) (x : X) (xs : List X) → a ≡ a ++ x ∷ xs → ⊥
  never_longer [] x xs same = cc
  never_longer (a ∷ us) x xs same = let rest : us ≡ us ++ x ∷ xs = cc in never_longer us x xs rest

-- the bytes of fields
pub spelling-append : (a b : List Spelt) → spelling (a ++ b) ≡ spelling a ++ spelling b
spelling-append a b = flat_map-append (λ (spelt : Spelt). spelt.bytes) a b

pub flat-append : (a b : List (List ℕ)) → flat (a ++ b) ≡ flat a ++ flat b
flat-append a b = flat_map-append (λ (bytes : List ℕ). bytes) a b

pub flat_bytes : (fields : List Spelt) → flat (bytes_in fields) ≡ spelling fields
flat_bytes fields = flat_map-map (λ (bytes : List ℕ). bytes) (λ (spelt : Spelt). spelt.bytes) fields

-- a field has the bytes of which it was made
pub spelt_bytes : (next : Option Next) (bytes : List ℕ) → (spelt_next next bytes).bytes ≡ bytes
spelt_bytes None bytes = refl
spelt_bytes (Some next) bytes = refl

pub bytes_named : (stage : Stage) (before fields : List (List ℕ)) → bytes_in (named_from stage before fields) ≡ fields
bytes_named stage before [] = refl
bytes_named stage before (bytes ∷ rest) =
    ap₂ (λ (z : List ℕ) (zs : List (List ℕ)). z ∷ zs) (spelt_bytes (next_of stage before) bytes) (bytes_named stage (before ++ bytes ∷ []) rest)

pub spelling_named : (stage : Stage) (fields : List (List ℕ)) → spelling (named stage fields) ≡ flat fields
spelling_named stage fields = sym (flat_bytes (named stage fields)) ∙ ap (λ (fs : List (List ℕ)). flat fs) (bytes_named stage [] fields)

-- fields behind fields
pub named-append : (stage : Stage) (before a b : List (List ℕ)) → named_from stage before (a ++ b) ≡ named_from stage before a ++ named_from stage (before ++ a) b
named-append stage before [] b = ap (λ (bs : List (List ℕ)). named_from stage bs b) (sym (append-nil before))
named-append stage before (bytes ∷ a) b =
    ap (λ (fs : List Spelt). spelt_next (next_of stage before) bytes ∷ fs)
    (named-append stage (before ++ bytes ∷ []) a b
    ∙ ap (λ (bs : List (List ℕ)). named_from stage (before ++ bytes ∷ []) a ++ named_from stage bs b) (append_assoc before (bytes ∷ []) a))

-- .. at the field that stands first among the others
pub named_at : (stage : Stage) (a : List (List ℕ)) (bytes : List ℕ) (more : List (List ℕ)) → named stage (a ++ bytes ∷ more) ≡ named stage a ++ spelt_next (next_of stage a) bytes ∷ named_from stage (a ++ bytes ∷ []) more
named_at stage a bytes more = named-append stage [] a (bytes ∷ more)

-- the fields of items, and of those that have come of the next
abbrev pub items_fields : List Item → List Spelt
items_fields items = flat_map item_fields items

abbrev pub fields_from : Stage → List Item → List (List ℕ) → List Spelt
fields_from stage items fields = items_fields items ++ named (stage_from stage items) fields

pub items_fields-append : (a b : List Item) → items_fields (a ++ b) ≡ items_fields a ++ items_fields b
items_fields-append a b = flat_map-append item_fields a b

pub items_bytes-append : (a b : List Item) → items_bytes (a ++ b) ≡ items_bytes a ++ items_bytes b
items_bytes-append a b = flat_map-append item_bytes a b

pub spelling_items : (items : List Item) → spelling (items_fields items) ≡ items_bytes items
spelling_items [] = refl
spelling_items (it ∷ items) =
    spelling-append (item_fields it) (items_fields items) ∙ ap (λ (bs : List ℕ). spelling (item_fields it) ++ bs) (spelling_items items)

pub spelling_from : (stage : Stage) (items : List Item) (fields : List (List ℕ)) → spelling (fields_from stage items fields) ≡ items_bytes items ++ flat fields
spelling_from stage items fields =
    spelling-append (items_fields items) (named (stage_from stage items) fields)
    ∙ ap₂ (λ (a b : List ℕ). a ++ b) (spelling_items items) (spelling_named (stage_from stage items) fields)

pub stage-append : (stage : Stage) (a b : List Item) → stage_from stage (a ++ b) ≡ stage_from (stage_from stage a) b
stage-append stage [] b = refl
stage-append stage (it ∷ a) b = stage-append (next_stage stage it) a b

-- a field more
pub fields_more : (stage : Stage) (items : List Item) (fields : List (List ℕ)) (bytes : List ℕ) → fields_from stage items (fields ++ bytes ∷ []) ≡ fields_from stage items fields ++ spelt_next (next_of (stage_from stage items) fields) bytes ∷ []
fields_more stage items fields bytes =
    let at = stage_from stage items in
    ap (λ (fs : List Spelt). items_fields items ++ fs) (named_at at fields bytes []) ∙ sym (append_assoc (items_fields items) (named at fields) (spelt_next (next_of at fields) bytes ∷ []))

-- an item more
pub fields_whole : (stage : Stage) (items : List Item) (fields : List (List ℕ)) (it : Item) → item_fields it ≡ named (stage_from stage items) fields → fields_from stage (items ++ it ∷ []) [] ≡ fields_from stage items fields
fields_whole stage items fields it names =
    append-nil (items_fields (items ++ it ∷ [])) ∙ items_fields-append items (it ∷ []) ∙ ap (λ (fs : List Spelt). items_fields items ++ fs) (append-nil (item_fields it) ∙ names)
