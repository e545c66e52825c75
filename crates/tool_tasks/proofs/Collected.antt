-- What is collected of the items of a whole trace is the trace.
use Rattle.std.proofs.Common.{ℕ, ◌≡◌, List, [], ◌∷◌, ◌++◌, map, Option, Result, Err, refl, sym, ◌∙◌, ap, subst, append_assoc}
use Rattle.std.proofs.lemmas.List.{append-nil}
use Rattle.std.specs.Io.KnownBytes.{Consumes}
use Rattle.ompt_calls.specs.declared.event.EventRecord.{EventRecord}
use Rattle.trace_format.specs.declared.item.Item.{Item}
use Rattle.trace_format.specs.declared.item.Item.TheVariants as item
use Rattle.trace_format.specs.declared.trace.EndMark.{EndMark}
use Rattle.trace_format.specs.declared.trace.Header.{Header}
use Rattle.trace_format.specs.declared.trace.Trace.{Trace}
use Rattle.trace_format.specs.Inputs.{IsInput}
use Rattle.trace_format.specs.Items.{IsRead, items_of}
use Rattle.trace_format.specs.Validity.{IsTrace, Writes}
use Rattle.tool_tasks.specs.declared.unread.Unread.{Unread}
use Rattle.tool_tasks.specs.declared.unread.Unread.TheVariants.{Refused, Broken, ReadFault, Memory}
use Rattle.tool_tasks.specs.Answering.{HasReadNested, IsJudged}
use Rattle.tool_tasks.specs.Collecting.{collected, with_item}

-- one item more
more : (trace : Trace) (items : List Item) (it : Item) → collected trace (items ++ it ∷ []) ≡ with_item (collected trace items) it
more trace [] it = refl
more trace (first ∷ items) it = more (with_item trace first) items it

-- what is collected once an item is taken
taken : (start trace : Trace) (items : List Item) (it : Item) → trace ≡ collected start items → with_item trace it ≡ collected start (items ++ it ∷ [])
taken start trace items it is = ap (λ (all : Trace). with_item all it) is ∙ sym (more start items it)

pub takes_more : (start trace : Trace) (items : List Item) (it : Item) → it ≡ item.More → trace ≡ collected start items → trace ≡ collected start (items ++ it ∷ [])
takes_more start trace items it none is = subst (λ (next : Item). trace ≡ collected start (items ++ next ∷ [])) (sym none) (taken start trace items item.More is)

pub takes_header : (start trace : Trace) (items : List Item) (it : Item) (header : Header) → it ≡ item.Header header → trace ≡ collected start items
    → record trace { header = header } ≡ collected start (items ++ it ∷ [])
takes_header start trace items it header it_is is =
    subst (λ (next : Item). record trace { header = header } ≡ collected start (items ++ next ∷ [])) (sym it_is) (taken start trace items (item.Header header) is)

pub takes_event : (start trace : Trace) (items : List Item) (it : Item) (event : EventRecord) (events : List EventRecord) → it ≡ item.Event event
    → events ≡ trace.events ++ event ∷ [] → trace ≡ collected start items → record trace { events = events } ≡ collected start (items ++ it ∷ [])
takes_event start trace items it event events it_is more is =
    subst (λ (next : Item). record trace { events = events } ≡ collected start (items ++ next ∷ [])) (sym it_is)
    (ap (λ (all : List EventRecord). record trace { events = all }) more ∙ taken start trace items (item.Event event) is)

pub takes_end : (start trace : Trace) (items : List Item) (it : Item) (end : EndMark) → it ≡ item.End end → trace ≡ collected start items
    → record trace { end = end } ≡ collected start (items ++ it ∷ [])
takes_end start trace items it end it_is is =
    subst (λ (next : Item). record trace { end = end } ≡ collected start (items ++ next ∷ [])) (sym it_is) (taken start trace items (item.End end) is)

-- the events, and then the end mark
ended : (header : Header) (before events : List EventRecord) (end other : EndMark)
    → collected (record { header = header; events = before; end = other }) (map item.Event events ++ item.End end ∷ [])
    ≡ record { header = header; events = before ++ events; end = end }
ended header before [] end other = ap (λ (all : List EventRecord). record { header = header; events = all; end = end }) (sym (append-nil before))
ended header before (event ∷ events) end other =
    ended header (before ++ event ∷ []) events end other
    ∙ ap (λ (all : List EventRecord). record { header = header; events = all; end = end }) (append_assoc before (event ∷ []) events)

whole : (start trace : Trace) → start.events ≡ [] → collected start (items_of trace) ≡ trace
whole start trace none =
    ap (λ (before : List EventRecord). collected (record { header = trace.header; events = before; end = start.end }) (map item.Event trace.events ++ item.End trace.end ∷ [])) none
    ∙ ended trace.header [] trace.events trace.end start.end

-- what was read whole is what was collected
pub record IsWhole (left rest : Option (List ℕ)) (trace : Trace) : Type 0 where
  pub taken : List ℕ
  pub input : IsInput left taken
  pub consumed : Consumes left rest taken
  pub writes : Writes trace taken

pub is_whole : (left rest : Option (List ℕ)) (start found : Trace) → start.events ≡ []
    → ((taken : List ℕ) × (items : List Item) × IsInput left taken × Consumes left rest taken × IsRead taken items × (found ≡ collected start items))
    → IsWhole left rest found
is_whole left rest start found none (taken, items, input, consumed, read, is) = record {
  taken = taken;
  input = input;
  consumed = consumed;
  writes = subst (λ (trace : Trace). Writes trace taken) (sym (is ∙ (ap (collected start) read.items_are ∙ whole start read.trace none))) read.writes;
}

-- ---- what is answered of it

pub whole_valid : (left rest : Option (List ℕ)) (trace : Trace) → IsWhole left rest trace → IsTrace trace
whole_valid left rest trace whole = whole.writes.is_trace

pub judged_read : (left rest : Option (List ℕ)) (trace : Trace) (unread : Unread) → IsWhole left rest trace → IsJudged (Err unread) trace
    → HasReadNested (Err unread) left rest
judged_read left rest trace (Refused refusal) read judged = absurd judged
judged_read left rest trace (Broken breach) read judged = (read.taken, trace, read.input, read.writes, judged)
judged_read left rest trace ReadFault read judged = absurd judged
judged_read left rest trace Memory read judged = tt

pub no_fault : (trace : Trace) (unread : Unread) → IsJudged (Err unread) trace → ◌≡◌ {A = Result Trace Unread} (Err unread) (Err ReadFault) → ⊥
no_fault trace (Refused refusal) judged is = judged
no_fault trace (Broken breach) judged is = cc
no_fault trace ReadFault judged is = judged
no_fault trace Memory judged is = cc
