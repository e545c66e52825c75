-- Fields each of which may stand lead to one place.
use Rattle.std.proofs.Common.{◌≡◌, ℕ, cond, Bool, true, false, List, [], ◌∷◌, ◌++◌, Option, Some, None, refl, sym, ap, ap₂, subst, ◌∙◌, append_assoc, append-nil, true≢false}
use Rattle.trace_format.specs.declared.item.Item.{Item}
use Rattle.trace_format.specs.declared.trace.Header.{Header}
use Rattle.trace_format.specs.Accepting.{Next, next_in, next_of}
use Rattle.trace_format.specs.Fields.{Spelt}
use Rattle.trace_format.specs.Reached.{IsAccepted, IsReached, flat, stage_of}
use Rattle.trace_format.specs.Refusing.{AllStand, Stands}
use Rattle.trace_format.specs.Taking.{Stage, first_stage}
use Rattle.trace_format.proofs.Decoded.{item_in}
use Rattle.trace_format.proofs.Beginning.{fields_at, place_next, place_reached}
use Rattle.trace_format.proofs.Beyond.{stands_next}
use Rattle.trace_format.proofs.Completed.{first_more, first_none, follow_of, open_at}
use Rattle.trace_format.proofs.Lists.{fields_more, fields_whole}
use Rattle.trace_format.proofs.Places.{IsPlace}
use Rattle.trace_format.proofs.Rows.{IsItemOf, item_whole}
use Rattle.trace_format.proofs.SameBytes.{accepted_more}

-- a field comes next before the first of an item
first_header : (o : Option Header) (stage : Stage) → next_in stage o [] ≡ None → ⊥
first_header None stage none = cc
first_header (Some header) stage none = cc

pub some_first : (stage : Stage) → stage.over ≡ false → next_of stage [] ≡ None → ⊥
some_first stage goes none = first_header stage.header stage (ap (λ (b : Bool). cond b None (next_in stage stage.header [])) (sym goes) ∙ none)

pub start_reached : IsReached [] []
start_reached = record { first = first_none; accepted = tt }

pub reached_more : (items : List Item) (fields : List (List ℕ)) (bytes : List ℕ) → IsReached items fields → IsAccepted (stage_of items) fields bytes → IsReached items (fields ++ bytes ∷ [])
reached_more items fields bytes reached accepted = record { first = reached.first; accepted = accepted_more (stage_of items) [] fields bytes reached.accepted accepted }

-- the fields are whole
module _ (items : List Item) (fields : List (List ℕ)) (reached : IsReached items fields) (goes : (stage_of items).over ≡ false) (none : next_of (stage_of items) fields ≡ None) where
  abbrev pub whole_here : Item
  whole_here = item_in (stage_of items).header (flat fields)

  pub whole_is : IsItemOf (stage_of items) fields whole_here
  whole_is = item_whole (stage_of items) fields (open_at items (follow_of items reached.first) goes) reached.accepted none

  pub whole_reached : IsReached (items ++ whole_here ∷ []) []
  whole_reached = record { first = first_more items whole_here (follow_of items reached.first) goes whole_is.is_item; accepted = tt }

  pub whole_fields : fields_at (items ++ whole_here ∷ []) [] ≡ fields_at items fields
  whole_fields = fields_whole first_stage items fields whole_here whole_is.names

-- a place behind these fields
pub record IsWalked (all : List Spelt) : Type 0 where
  pub items : List Item
  pub fields : List (List ℕ)
  pub reached : IsReached items fields
  pub place : IsPlace first_stage items fields
  pub fields_are : fields_at items fields ≡ all

walked_as : (a b : List Spelt) → a ≡ b → IsWalked a → IsWalked b
walked_as a b same walked = subst IsWalked same walked

pub settle : (items : List Item) (fields : List (List ℕ)) → IsReached items fields → IsWalked (fields_at items fields)
settle items fields reached = go (next_of (stage_of items) fields) refl (stage_of items).over refl
  where
    go : (o : Option Next) → next_of (stage_of items) fields ≡ o → (b : Bool) → (stage_of items).over ≡ b → IsWalked (fields_at items fields)
    go (Some next) comes b over = record { items = items; fields = fields; reached = reached; place = place_next items fields next reached comes; fields_are = refl }
    go None none true over = record { items = items; fields = fields; reached = reached; place = place_reached items fields reached (λ goes n. true≢false (sym over ∙ goes)); fields_are = refl }
    go None none false goes =
        let more = items ++ whole_here items fields reached goes none ∷ [] in
        let there = whole_reached items fields reached goes none in
        record { items = more; fields = []; reached = there; place = place_reached more [] there (some_first (stage_of more)); fields_are = whole_fields items fields reached goes none }

walk_from : (all : List Spelt) (walked : IsWalked all) (rest : List Spelt) → AllStand all rest → IsWalked (all ++ rest)
walk_from all walked [] stand = walked_as all (all ++ []) (sym (append-nil all)) walked
walk_from all walked (spelt ∷ rest) stand =
    let items = walked.items in
    let fields = walked.fields in
    let one = stands_next items fields spelt walked.place (subst (λ (ss : List Spelt). Stands ss spelt) (sym walked.fields_are) stand.0) in
    let there = settle items (fields ++ spelt.bytes ∷ []) (reached_more items fields spelt.bytes walked.reached one.accepted) in
    let same : fields_at items (fields ++ spelt.bytes ∷ []) ≡ all ++ spelt ∷ [] = fields_more first_stage items fields spelt.bytes ∙ ap₂ (λ (ss : List Spelt) (s : Spelt). ss ++ s ∷ []) walked.fields_are one.names in
    walked_as ((all ++ spelt ∷ []) ++ rest) (all ++ spelt ∷ rest) (append_assoc all (spelt ∷ []) rest)
    (walk_from (all ++ spelt ∷ []) (walked_as (fields_at items (fields ++ spelt.bytes ∷ [])) (all ++ spelt ∷ []) same there) rest stand.1)

pub walk : (before : List Spelt) → AllStand [] before → IsWalked before
walk before stand =
    let start : IsWalked [] = record { items = []; fields = []; reached = start_reached; place = place_reached [] [] start_reached (some_first first_stage); fields_are = refl } in
    walk_from [] start before stand
