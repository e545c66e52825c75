-- A checker that is told of one more event.
use Rattle.std.proofs.Common.{◌≡◌, ℕ, ◌<◌, true, false, List, [], ◌∷◌, ◌++◌, reverse, is_some, IfSome, Option, Some, None, inl, inr, refl, sym, ap, subst, ◌∙◌, arith}
use Rattle.std.proofs.lemmas.Bool.Decides.{nat_tests}
use Rattle.std.proofs.lemmas.List.{reverse-append}
use Rattle.ompt_calls.specs.declared.event.EventRecord.{EventRecord}
use Rattle.trace_format.specs.declared.trace.Header.{Header}
use Rattle.trace_check.specs.declared.breach.Breach.{Breach}
use Rattle.trace_check.specs.declared.checker.Checker.{Checker}
use Rattle.trace_check.specs.declared.kept.Kept.{Kept}
use Rattle.trace_check.specs.Checking.{Checks, FirstIn, IsKnown, KeptSo, KeptWhole, Rises, is_after, kept_by, newest_seq}
use Rattle.trace_check.specs.Rules.{first_broken}

-- the events and one more, the newest first
reversed-one : (events : List EventRecord) (event : EventRecord) → reverse (events ++ event ∷ []) ≡ event ∷ reverse events
reversed-one events event = reverse-append events (event ∷ [])

-- the position of the event is above the last one
after : (last : Option ℕ) (seq : ℕ) → IfSome last (λ (before : ℕ). before < seq) → is_after last seq ≡ true
after None seq rises = refl
after (Some last) seq rises = grind (arith, nat_tests, rises)

-- a checker checks one event more, where it keeps what these tell
pub checks_more : (old new : Checker) (header : Header) (events : List EventRecord) (event : EventRecord) → Checks old header events →
    IfSome old.last (λ (before : ℕ). before < event.seq) → new.last ≡ Some event.seq → KeptSo new.kept new.breach header (event ∷ reverse events) →
    Checks new header (events ++ event ∷ [])
checks_more old new header events event checks rises last so =
    let above : is_after (newest_seq (reverse events)) event.seq ≡ true =
    subst (λ (before : Option ℕ). is_after before event.seq ≡ true) checks.last (after old.last event.seq rises) in
    let rises-more : Rises (event ∷ reverse events) = (above, checks.rises) in
    record {
      last = last ∙ sym (ap newest_seq (reversed-one events event));
      rises = subst Rises (sym (reversed-one events event)) rises-more;
      kept_so = subst (λ (past : List EventRecord). KeptSo new.kept new.breach header past) (sym (reversed-one events event)) so;
    }

-- a breach stays the first one
first-more : (header : Header) (past : List EventRecord) (breach : Breach) (event : EventRecord) → FirstIn header past breach → FirstIn header (event ∷ past) breach
first-more header past breach event (inl partial) = inl partial
first-more header past breach event (inr (whole, first)) = inr (
  whole,
  record {
    behind = event ∷ first.behind;
    event = first.event;
    before = first.before;
    past_is = ap (λ (rest : List EventRecord). event ∷ rest) first.past_is;
    unbroken = first.unbroken;
    breaks = first.breaks;
    seq_is = first.seq_is;
  },
)

-- a checker that knows a breach keeps it
pub broken_more : (kept : Kept) (known : Option Breach) (header : Header) (past : List EventRecord) (event : EventRecord) → is_some known ≡ true →
    KeptSo kept known header past → KeptSo kept known header (event ∷ past)
broken_more kept None header past event is so = cc
broken_more kept (Some breach) header past event is so = record { none = so.none; first = first-more header past breach event so.first }

-- what is known where there is no breach
pub whole_of : (kept : Kept) (known : Option Breach) (header : Header) (past : List EventRecord) → is_some known ≡ false → KeptSo kept known header past →
    KeptWhole kept header past
whole_of kept None header past is so = so
whole_of kept (Some breach) header past is so = cc

-- an event that breaks a rule, as the first one
pub breaks_now : (kept cleared : Kept) (header : Header) (past : List EventRecord) (event : EventRecord) (rule : ℕ) → KeptWhole kept header past →
    first_broken past event ≡ Some rule → kept_by cleared ≡ 0 → KeptSo cleared (Some (record { rule = rule; seq = event.seq })) header (event ∷ past)
breaks_now kept cleared header past event rule whole breaks none = record {
  none = none;
  first = inr (whole.whole, record { behind = []; event = event; before = past; past_is = refl; unbroken = whole.unbroken; breaks = breaks; seq_is = refl });
}

-- one that breaks none
pub keeps_now : (kept learned : Kept) (header : Header) (past : List EventRecord) (event : EventRecord) → KeptWhole kept header past →
    first_broken past event ≡ None → IsKnown learned (event ∷ past) → KeptSo learned None header (event ∷ past)
keeps_now kept learned header past event whole none known = record { whole = whole.whole; unbroken = (none, whole.unbroken); known = known }

-- where a rule is broken nothing is kept
pub forgets : (kept : Kept) (known : Option Breach) (header : Header) (past : List EventRecord) → KeptSo kept known header past → is_some known ≡ true → kept_by kept ≡ 0
forgets kept None header past so is = cc
forgets kept (Some breach) header past so is = so.none
