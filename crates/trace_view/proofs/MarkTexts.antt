-- The marks of an event as its text.
use Rattle.std.proofs.Common.{ℕ, ◌≡◌, List, [], ◌∷◌, ◌++◌, Option, Some, None, refl, sym, ap, ap₂, ◌∙◌, append_assoc}
use Rattle.std.specs.Prelude.{codes}
use Rattle.std.specs.Fmt.{decimal}
use Rattle.std.specs.List.{flat_map}
use Rattle.std.proofs.lemmas.Grind.{flat_map-append}
use Rattle.std.proofs.lemmas.List.{append-nil}
use Rattle.ompt_calls.specs.declared.event.EventRecord.{EventRecord}
use Rattle.trace_check.specs.Brackets.{change_of}
use Rattle.trace_view.specs.declared.mark.MarkKind.{MarkKind}
use Rattle.trace_view.specs.Chrome.{Mark, chrome_event, mark_text, own_marks, slice_marks}
use Rattle.trace_view.specs.NamedLines.{named_call}
use Rattle.trace_view.specs.Names.{ending_text}
use Rattle.trace_view.specs.Marking.{mark_of, marks_of, maybe_text}

-- the text of a mark, if there is one
maybe_is : (event : EventRecord) (kind : Option MarkKind) → maybe_text event kind ≡ flat_map (mark_text event) (marks_of event.thread kind)
maybe_is event None = refl
maybe_is event (Some kind) = sym (append-nil (mark_text event (mark_of event.thread kind)))

-- the texts of the marks are the text of the event
pub marked :
    (event : EventRecord) (slice first second : Option MarkKind) → marks_of event.thread slice ≡ slice_marks (change_of event.call)
    → marks_of event.thread first ++ marks_of event.thread second ≡ own_marks event.thread event.call
    → maybe_text event slice ++ (maybe_text event first ++ maybe_text event second) ≡ chrome_event event
marked event slice first second of_slice own =
    ap₂ (λ (a b : List ℕ). a ++ b) (maybe_is event slice ∙ ap text of_slice)
    (ap₂ (λ (a b : List ℕ). a ++ b) (maybe_is event first) (maybe_is event second)
    ∙ (sym (flat_map-append (mark_text event) (marks_of event.thread first) (marks_of event.thread second)) ∙ ap text own))
    ∙ sym (flat_map-append (mark_text event) (slice_marks (change_of event.call)) (own_marks event.thread event.call))
  where
    text : List Mark → List ℕ
    text = flat_map (mark_text event)

-- ---- texts that are joined from the right and from the left

pub joined_end : (head detail tail last : List ℕ) (told status : ℕ) → told ≡ status
    → head ++ (ending_text told ++ ((32 ∷ []) ++ (detail ++ (tail ++ (10 ∷ last ++ 10 ∷ [])))))
    ≡ head ++ ending_text status ++ 32 ∷ detail ++ tail ++ 10 ∷ last ++ 10 ∷ []
joined_end head detail tail last told status is = rw is (simp append_assoc)

joined : (a phase b thread c seq fields d name e argument f call g : List ℕ)
    → (a ++ (phase ++ (b ++ (thread ++ (c ++ (seq ++ (fields ++ (d ++ (name ++ (e ++ (argument ++ f))))))))))) ++ (call ++ g)
    ≡ a ++ phase ++ b ++ thread ++ c ++ seq ++ fields ++ d ++ name ++ e ++ argument ++ f ++ call ++ g
joined a phase b thread c seq fields d name e argument f call g = simp append_assoc

pub joined_mark : (event : EventRecord) (mark : Mark) (phase fields name : List ℕ)
    → phase ≡ mark.phase → fields ≡ mark.fields → name ≡ mark.name
    → ((44 ∷ 10 ∷ codes "{\"ph\":\"") ++ (phase ++ (codes "\",\"pid\":1,\"tid\":" ++ (decimal event.thread
    ++ (codes ",\"ts\":" ++ (decimal event.seq ++ (fields ++ (codes ",\"name\":\"" ++ (name
    ++ (codes "\",\"args\":{" ++ (mark.argument ++ codes "\"call\":\""))))))))))) ++ (named_call event.call ++ codes "\"}}")
    ≡ mark_text event mark
joined_mark event mark phase fields name of_phase of_fields of_name = rw (of_phase, of_fields, of_name)
    (joined (44 ∷ 10 ∷ codes "{\"ph\":\"") mark.phase (codes "\",\"pid\":1,\"tid\":") (decimal event.thread)
    (codes ",\"ts\":") (decimal event.seq) mark.fields (codes ",\"name\":\"") mark.name
    (codes "\",\"args\":{") mark.argument (codes "\"call\":\"") (named_call event.call) (codes "\"}}"))
