-- Items of which a trace consists, one after the other: what the reader's stage behind them says of their header, events and end mark.
use Rattle.std.proofs.Common.{ℕ, ◌≡◌, ◌<◌, ◌≤◌, ◌+◌, true, false, List, [], ◌∷◌, ◌++◌, map, reverse, IfSome, Option, Some, None, refl, sym, ap, subst, ◌∙◌, append_assoc, append-nil, true≢false, arith}
use Rattle.std.proofs.lemmas.List.{reverse-append}
use Rattle.ompt_calls.specs.declared.event.EventRecord.{EventRecord}
use Rattle.trace_format.specs.declared.item.Item.{Item}
use Rattle.trace_format.specs.declared.item.Item.TheVariants as item
use Rattle.trace_format.specs.declared.trace.EndMark.{EndMark}
use Rattle.trace_format.specs.declared.trace.Header.{Header}
use Rattle.trace_format.specs.declared.trace.Trace.{Trace}
use Rattle.trace_format.specs.declared.trace.TheConstants.{SEQ_LIMIT}
use Rattle.trace_format.specs.Items.{AreFirst, items_of}
use Rattle.trace_format.specs.Taking.{Stage, first_stage, next_stage, stage_from}
use Rattle.trace_format.proofs.Completed.{follow_of}
use Rattle.trace_format.proofs.Following.{Follow, follow_front, follow_rest}
use Rattle.trace_check.specs.declared.checker.Checker.{Checker}
use Rattle.trace_check.specs.declared.told.Told.{Told}
use Rattle.trace_check.specs.Checking.{Checks, newest_seq}
use Rattle.trace_check.specs.Items.{KnowsEvents, KnowsItems, end_in, events_in, header_in}

-- one item more that is no header, the events of more, and one more that is no end mark
header-more : (items : List Item) (it : Item) → header_in (it ∷ []) ≡ None → header_in (items ++ it ∷ []) ≡ header_in items
header-more [] it none = none
header-more (item.More ∷ items) it none = header-more items it none
header-more (item.Header header ∷ items) it none = refl
header-more (item.Event event ∷ items) it none = header-more items it none
header-more (item.End end ∷ items) it none = header-more items it none

events-more : (items more : List Item) → events_in (items ++ more) ≡ events_in items ++ events_in more
events-more [] more = refl
events-more (item.More ∷ items) more = events-more items more
events-more (item.Header header ∷ items) more = events-more items more
events-more (item.Event event ∷ items) more = ap (λ (events : List EventRecord). event ∷ events) (events-more items more)
events-more (item.End end ∷ items) more = events-more items more

end-more : (items : List Item) (it : Item) → end_in (it ∷ []) ≡ None → end_in (items ++ it ∷ []) ≡ end_in items
end-more [] it none = none
end-more (item.More ∷ items) it none = end-more items it none
end-more (item.Header header ∷ items) it none = end-more items it none
end-more (item.Event event ∷ items) it none = end-more items it none
end-more (item.End end ∷ items) it none = refl

-- the end mark is the only one
over-stays : (stage : Stage) (items : List Item) → stage.over ≡ true → (stage_from stage items).over ≡ true
over-stays stage [] over = over
over-stays stage (item.More ∷ items) over = over-stays stage items over
over-stays stage (item.Header header ∷ items) over = over-stays (next_stage stage (item.Header header)) items over
over-stays stage (item.Event event ∷ items) over = over-stays (next_stage stage (item.Event event)) items over
over-stays stage (item.End end ∷ items) over = over-stays (next_stage stage (item.End end)) items refl

end-first : (stage : Stage) (items : List Item) (end : EndMark) → (stage_from stage items).over ≡ false → end_in (items ++ item.End end ∷ []) ≡ Some end
end-first stage [] end goes = refl
end-first stage (item.More ∷ items) end goes = end-first stage items end goes
end-first stage (item.Header header ∷ items) end goes = end-first (next_stage stage (item.Header header)) items end goes
end-first stage (item.Event event ∷ items) end goes = end-first (next_stage stage (item.Event event)) items end goes
end-first stage (item.End other ∷ items) end goes = absurd (true≢false (sym (over-stays (next_stage stage (item.End other)) items refl) ∙ goes))

-- a header that has come stays
header-stays : (stage : Stage) (items : List Item) (header : Header) → stage.header ≡ Some header → (stage_from stage items).header ≡ None → ⊥
header-stays stage [] header is none = let never : Some header ≡ None = sym is ∙ none in absurd (cc)
header-stays stage (item.More ∷ items) header is none = header-stays stage items header is none
header-stays stage (item.Header other ∷ items) header is none = header-stays (next_stage stage (item.Header other)) items other refl none
header-stays stage (item.Event event ∷ items) header is none = header-stays (next_stage stage (item.Event event)) items header is none
header-stays stage (item.End end ∷ items) header is none = header-stays (next_stage stage (item.End end)) items header is none

-- where no header has come nothing has come
none-before : (limit : ℕ) (stage : Stage) (items : List Item) → Follow limit stage items → (stage_from stage items).header ≡ None → items ≡ []
none-before limit stage [] follow none = refl
none-before limit stage (item.More ∷ items) follow none = absurd follow.1
none-before limit stage (item.Header header ∷ items) follow none = absurd (header-stays (next_stage stage (item.Header header)) items header refl none)
none-before limit stage (item.Event event ∷ items) follow none =
    absurd (header-stays (next_stage stage (item.Event event)) items follow.1.0 follow.1.1 none)
none-before limit stage (item.End end ∷ items) follow none = absurd (header-stays (next_stage stage (item.End end)) items follow.1.0 follow.1.1 none)

-- the positions of the events lie below the least one that may come next
abbrev IsBelow : Option ℕ → ℕ → Type 0
IsBelow last least = IfSome last (λ (seq : ℕ). seq < least)

newest-one : (events : List EventRecord) (event : EventRecord) → newest_seq (reverse (events ++ event ∷ [])) ≡ Some event.seq
newest-one events event = ap newest_seq (reverse-append events (event ∷ []))

below-least :
    (stage : Stage) (before : List EventRecord) (items : List Item) → IsBelow (newest_seq (reverse before)) stage.least
    → IsBelow (newest_seq (reverse (before ++ events_in items))) (stage_from stage items).least
below-least stage before [] below = subst (λ (events : List EventRecord). IsBelow (newest_seq (reverse events)) stage.least) (sym (append-nil before)) below
below-least stage before (item.More ∷ items) below = below-least stage before items below
below-least stage before (item.Header header ∷ items) below = below-least (next_stage stage (item.Header header)) before items below
below-least stage before (item.Event event ∷ items) below =
    let now : event.seq < event.seq + 1 = omega arith in
    subst (λ (events : List EventRecord). IsBelow (newest_seq (reverse events)) (stage_from stage (item.Event event ∷ items)).least)
    (append_assoc before (event ∷ []) (events_in items))
    (below-least (next_stage stage (item.Event event)) (before ++ event ∷ []) items
    (subst (λ (last : Option ℕ). IsBelow last (event.seq + 1)) (sym (newest-one before event)) now))
below-least stage before (item.End end ∷ items) below = below-least (next_stage stage (item.End end)) before items below

-- the event that may come next rises above the last one
rises : (last : Option ℕ) (least seq : ℕ) → IsBelow last least → least ≤ seq → IfSome last (λ (before : ℕ). before < seq)
rises None least seq below above = tt
rises (Some last) least seq below above = omega (arith, below, above)

-- the item that a trace has behind these may come there
next-follows : (items more : List Item) → AreFirst (items ++ more) → Follow SEQ_LIMIT (stage_from first_stage items) more
next-follows items more first = follow_rest SEQ_LIMIT first_stage items more (follow_of (items ++ more) first)

before-follows : (items more : List Item) → AreFirst (items ++ more) → Follow SEQ_LIMIT first_stage items
before-follows items more first = follow_front SEQ_LIMIT first_stage items more (follow_of (items ++ more) first)

-- what is known of items is known once this item is told
abbrev pub Tells : Told → Told → Item → Type 0
Tells old new it = (items : List Item) → KnowsItems old items → AreFirst (items ++ it ∷ []) → KnowsItems new (items ++ it ∷ [])

-- no item tells nothing
more-told : (told : Told) → Tells told told item.More
more-told told items knows first = record {
  events = rw (header-more items item.More refl, events-more items (item.More ∷ []), append-nil (events_in items)) knows.events;
  end = knows.end ∙ sym (end-more items item.More refl);
}

pub tells_more : (told : Told) (it : Item) → it ≡ item.More → Tells told told it
tells_more told it is = subst (Tells told told) (sym is) (more-told told)

-- the header comes first
header-told :
    (checker : Checker) (told : Told) (header : Header) → Checks checker header []
    → Tells told (record told { checker = Some checker }) (item.Header header)
header-told checker told header checks items knows first =
    let none : items ≡ [] =
    none-before SEQ_LIMIT first_stage items (before-follows items (item.Header header ∷ []) first) (next-follows items (item.Header header ∷ []) first).1.0 in
    subst (λ (its : List Item). KnowsItems (record told { checker = Some checker }) (its ++ item.Header header ∷ [])) (sym none)
    (record { events = checks; end = knows.end ∙ ap end_in none })

pub tells_header :
    (checker : Checker) (told : Told) (it : Item) (header : Header) → it ≡ item.Header header → Checks checker header []
    → Tells told (record told { checker = Some checker }) it
tells_header checker told it header is checks =
    subst (Tells told (record told { checker = Some checker })) (sym is) (header-told checker told header checks)

-- an event, where the checker takes it
abbrev StepsTo : Checker → Checker → EventRecord → Type 0
StepsTo old new event =
    (header : Header) (events : List EventRecord) → Checks old header events → IfSome old.last (λ (last : ℕ). last < event.seq)
    → Checks new header (events ++ event ∷ [])

stepped :
    (old new : Checker) (header : Option Header) (events : List EventRecord) (event : EventRecord) (least : ℕ) → StepsTo old new event
    → IsBelow (newest_seq (reverse events)) least → least ≤ event.seq → KnowsEvents (Some old) header events
    → KnowsEvents (Some new) header (events ++ event ∷ [])
stepped old new None events event least steps below above knows = absurd knows
stepped old new (Some header) events event least steps below above knows =
    steps header events knows (rises old.last least event.seq (subst (λ (last : Option ℕ). IsBelow last least) (sym knows.last) below) above)

-- .. or where there is none
unheard : (header : Option Header) (events more : List EventRecord) → KnowsEvents None header events → KnowsEvents None header more
unheard None events more knows = tt
unheard (Some header) events more knows = absurd knows

event-known :
    (old new : Told) (items : List Item) (event : EventRecord) → KnowsEvents new.checker (header_in items) (events_in items ++ event ∷ [])
    → new.end ≡ old.end → KnowsItems old items → KnowsItems new (items ++ item.Event event ∷ [])
event-known old new items event events same knows = record {
  events = rw (header-more items (item.Event event) refl, events-more items (item.Event event ∷ [])) events;
  end = same ∙ knows.end ∙ sym (end-more items (item.Event event) refl);
}

event-told :
    (old new : Checker) (told : Told) (event : EventRecord) → told.checker ≡ Some old → StepsTo old new event
    → Tells told (record told { checker = Some new }) (item.Event event)
event-told old new told event is steps items knows first =
    let next = (next-follows items (item.Event event ∷ []) first).1 in
    let before = subst (λ (checker : Option Checker). KnowsEvents checker (header_in items) (events_in items)) is knows.events in
    event-known told (record told { checker = Some new }) items event
    (stepped old new (header_in items) (events_in items) event (stage_from first_stage items).least steps (below-least first_stage [] items tt) next.2 before)
    refl knows

event-unheard : (told : Told) (event : EventRecord) → told.checker ≡ None → Tells told told (item.Event event)
event-unheard told event none items knows first =
    let before = subst (λ (checker : Option Checker). KnowsEvents checker (header_in items) (events_in items)) none knows.events in
    event-known told told items event
    (subst (λ (checker : Option Checker). KnowsEvents checker (header_in items) (events_in items ++ event ∷ [])) (sym none)
    (unheard (header_in items) (events_in items) (events_in items ++ event ∷ []) before))
    refl knows

pub tells_event :
    (old new : Checker) (told : Told) (it : Item) (event : EventRecord) → it ≡ item.Event event → told.checker ≡ Some old → StepsTo old new event
    → Tells told (record told { checker = Some new }) it
tells_event old new told it event is known steps =
    subst (Tells told (record told { checker = Some new })) (sym is) (event-told old new told event known steps)

pub tells_unheard : (told : Told) (it : Item) (event : EventRecord) → it ≡ item.Event event → told.checker ≡ None → Tells told told it
tells_unheard told it event is none = subst (Tells told told) (sym is) (event-unheard told event none)

-- the end mark comes last
end-told : (told : Told) (end : EndMark) → Tells told (record told { end = Some end }) (item.End end)
end-told told end items knows first = record {
  events = rw (header-more items (item.End end) refl, events-more items (item.End end ∷ []), append-nil (events_in items)) knows.events;
  end = sym (end-first first_stage items end (next-follows items (item.End end ∷ []) first).0);
}

pub tells_end : (told : Told) (it : Item) (end : EndMark) → it ≡ item.End end → Tells told (record told { end = Some end }) it
tells_end told it end is = subst (Tells told (record told { end = Some end })) (sym is) (end-told told end)

-- the events and the end mark of a trace are those of its items
events-ended : (events : List EventRecord) (end : EndMark) → events_in (map item.Event events ++ item.End end ∷ []) ≡ events
events-ended [] end = refl
events-ended (event ∷ events) end = ap (λ (rest : List EventRecord). event ∷ rest) (events-ended events end)

end-ended : (events : List EventRecord) (end : EndMark) → end_in (map item.Event events ++ item.End end ∷ []) ≡ Some end
end-ended [] end = refl
end-ended (event ∷ events) end = end-ended events end

-- what is known of a whole trace
pub whole_checks :
    (told : Told) (trace : Trace) (checker : Checker) → told.checker ≡ Some checker → KnowsItems told (items_of trace)
    → Checks checker trace.header trace.events
whole_checks told trace checker is knows =
    subst (Checks checker trace.header) (events-ended trace.events trace.end)
    (subst (λ (found : Option Checker). KnowsEvents found (Some trace.header) (events_in (items_of trace))) is knows.events)

pub whole_end : (told : Told) (trace : Trace) → KnowsItems told (items_of trace) → told.end ≡ Some trace.end
whole_end told trace knows = knows.end ∙ end-ended trace.events trace.end
