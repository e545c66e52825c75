use Rattle.std.proofs.Common.{◌≡◌, ◌<◌, ℕ, List, [], ◌++◌, length, sum, codes, arith, refl, sym, ap, ◌∙◌, append_assoc, append-nil}
use Rattle.std.specs.List.{sum_by}
use Rattle.std.proofs.lemmas.List.{get_or_default}
use Rattle.ompt_calls.specs.declared.event.EventRecord.{EventRecord}
use Rattle.tool_report.specs.Counts.{counts_of}
use Rattle.tool_report.specs.Order.{AreKept}
use Rattle.tool_report.specs.Profile.{count_line}
use Rattle.tool_report.proofs.Shares.{places_text, places-none, places-more, threads_text, threads-none, threads-more, some_line, report-is}
use Rattle.tool_report.proofs.profile_report.profile_text.Goals as goal

joined : (a b c d : List ℕ) → a ≡ b → c ≡ d → a ++ c ≡ b ++ d
joined a b c d first second = cc

counted : (m n : List ℕ) (c d : ℕ) → m ≡ n → c ≡ d → count_line m c ≡ count_line n d
counted m n c d first second = cc

ended : (a b : List ℕ) → b ≡ [] → a ≡ a ++ b
ended a b none = rw (none, append-nil) refl

longer : (a t l more : List ℕ) → more ≡ t ++ l → (a ++ t) ++ l ≡ a ++ more
longer a t l more is = append_assoc a t l ∙ joined a a (t ++ l) more refl (sym is)

pub loop-place-init : goal.loop-place-init
loop-place-init c = c.new-text.ensures.items ∙ sym (places-none c.args.parts.now)

pub loop-place-preserved : goal.loop-place-preserved
loop-place-preserved c =
    c.in_ok-extend_from_slice.ensures.items ∙ joined _ _ _ _ c.loop-place.invariant (c.as_bytes.ensures.value ∙ c.in_ok-line.ensures ∙ counted _ _ _ _ c.name_at.ensures.name c.in_ok-count_at.ensures) ∙ sym (places-more c.args.parts.now c.loop-place.place)

pub loop-thread-init : goal.loop-thread-init
loop-thread-init c =
    let all : c.loop-place.place ≡ 17 = omega arith in
    c.in_ok-extend_from_slice-2.ensures.items
    ∙ joined _ _ _ _ (c.loop-place.invariant ∙ ap (places_text c.args.parts.now) all) (c.as_bytes-2.ensures.value ∙ c.in_ok-total.ensures ∙ counted (codes "total") (codes "total") _ _ refl c.in_ok-count_of_all.ensures)
    ∙ ended _ _ (threads-none c.args.parts.now)

pub loop-thread-preserved : goal.loop-thread-preserved
loop-thread-preserved c =
    let below : c.loop-thread.thread < length c.args.parts.now = omega arith in
    let count = c.in_ok-count_of_part.ensures ∙ ap sum (c.index-parts-thread.is ∙ get_or_default c.args.parts.now c.loop-thread.thread _ [] below) in
    c.in_ok-extend_from_slice-3.ensures.items
    ∙ joined _ _ _ _ c.loop-thread.invariant (c.as_bytes-in-loop-thread.ensures.value ∙ c.in_ok-line-2.ensures ∙ ap (some_line c.loop-thread.thread) count)
    ∙ longer (places_text c.args.parts.now 17 ++ count_line (codes "total") (sum_by (λ (counts : List ℕ). sum counts) c.args.parts.now)) _ _ _ (threads-more c.args.parts.now c.loop-thread.thread)

pub returns : goal.returns
returns c =
    let all : c.loop-thread.thread ≡ length c.args.parts.now = omega arith in
    λ (events : List EventRecord) (kept : AreKept counts_of events c.args.parts.now). c.loop-thread.invariant ∙ joined _ _ _ _ refl (ap (threads_text c.args.parts.now) all) ∙ report-is events c.args.parts.now kept
