-- What is opened once is open on one thread until it is closed, and never again.
use Rattle.std.proofs.Common.{◌≡◌, ℕ, ◌+◌, ◌≤◌, ◌==◌, ◌&&◌, ◌||◌, Bool, true, false, cond, List, [], ◌∷◌, Option, Some, None, refl, ◌∙◌, ap, subst, arith, zero-add}
use Rattle.std.proofs.lemmas.Bool.{eqb-true}
use Rattle.ompt_calls.specs.declared.event.EventRecord.{EventRecord}
use Rattle.trace_check.specs.declared.bracket.Bracket.{Bracket}
use Rattle.trace_check.specs.declared.change.Change.{Change}
use Rattle.trace_check.specs.declared.change.Change.TheVariants.{Opens, Closes, Stays}
use Rattle.trace_check.specs.Brackets.{change_of, changed, is_innermost, is_match}
use Rattle.trace_check.specs.Before.{opened}
use Rattle.trace_check.specs.Rules.{keeps_brackets, may_change}
use Rattle.trace_check.specs.Checking.{Unbroken}
use Rattle.trace_check.proofs.Kept12.{KeepsAll, keeps_all}

-- whether a change opens or closes such a bracket
abbrev pub opens_by : (Bracket → Bool) → Change → Bool
opens_by fits (Opens bracket) = fits bracket
opens_by fits (Closes bracket) = false
opens_by fits Stays = false

abbrev pub closes_by : (Bracket → Bool) → Change → Bool
closes_by fits (Opens bracket) = false
closes_by fits (Closes bracket) = fits bracket
closes_by fits Stays = false

-- whether an event has opened or closed one
abbrev pub has_opened : (Bracket → Bool) → List EventRecord → Bool
has_opened fits [] = false
has_opened fits (event ∷ past) = opens_by fits (change_of event.call) || has_opened fits past

abbrev pub has_closed : (Bracket → Bool) → List EventRecord → Bool
has_closed fits [] = false
has_closed fits (event ∷ past) = closes_by fits (change_of event.call) || has_closed fits past

-- the thread on which it is open
abbrev open_after : Bool → Bool → ℕ → Option ℕ → Option ℕ
open_after true closes t before = Some t
open_after false true t before = None
open_after false false t before = before

abbrev pub open_on : (Bracket → Bool) → List EventRecord → Option ℕ
open_on fits [] = None
open_on fits (event ∷ past) = open_after (opens_by fits (change_of event.call)) (closes_by fits (change_of event.call)) event.thread (open_on fits past)

abbrev pub share : ℕ → Option ℕ → ℕ
share t None = 0
share t (Some u) = cond {A = ℕ} (u == t) 1 0

-- how many of these brackets are such
abbrev pub marks : (Bracket → Bool) → List Bracket → ℕ
marks fits [] = 0
marks fits (bracket ∷ brackets) = cond (fits bracket) 1 0 + marks fits brackets

-- what holds after events that break no rule
pub record Once (fits : Bracket → Bool) (past : List EventRecord) : Type 0 where
  pub counts : (t : ℕ) → marks fits (opened t past) ≡ share t (open_on fits past)
  pub closed : has_closed fits past ≡ true → open_on fits past ≡ None
  pub before_open : has_opened fits past ≡ false → open_on fits past ≡ None
  pub before_close : has_opened fits past ≡ false → has_closed fits past ≡ false

-- brackets that match are both such, or both not
abbrev pub Alike : (Bracket → Bool) → Type 0
Alike fits = (bracket ended : Bracket) → is_match bracket ended ≡ true → fits bracket ≡ fits ended

-- such a bracket is opened where none was
abbrev pub Fresh : (Bracket → Bool) → List EventRecord → EventRecord → Type 0
Fresh fits past event = opens_by fits (change_of event.call) ≡ true → has_opened fits past ≡ false

-- the innermost bracket is the one that is closed
abbrev MayClose : Change → List Bracket → Type 0
MayClose (Opens bracket) brackets = Unit {0}
MayClose (Closes bracket) brackets = is_innermost brackets bracket ≡ true
MayClose Stays brackets = Unit {0}

may_close : (past : List EventRecord) (t : ℕ) (change : Change) → may_change past t change ≡ true → MayClose change (opened t past)
may_close past t (Opens bracket) may = tt
may_close past t (Closes bracket) may = may
may_close past t Stays may = tt

-- the count of one thread after a change of thread u
counted : (fits : Bracket → Bool) (alike : Alike fits) (change : Change) (u t : ℕ) (same : Bool) (brackets : List Bracket) (on : Option ℕ)
    → (u == t) ≡ same → (same ≡ true → MayClose change brackets) → marks fits brackets ≡ share t on
    → (opens_by fits change ≡ true → on ≡ None) → (closes_by fits change ≡ true → on ≡ Some u)
    → marks fits (cond same (changed change brackets) brackets) ≡ share t (open_after (opens_by fits change) (closes_by fits change) u on)
counted fits alike (Opens bracket) u t same brackets on is may count fresh mine = by-fits (fits bracket) same refl is fresh
  where
    by-fits : (b s : Bool) → fits bracket ≡ b → (u == t) ≡ s → (b ≡ true → on ≡ None) → marks fits (cond s (bracket ∷ brackets) brackets) ≡ share t (open_after b false u on)
    by-fits true true fit here none = let e : share t on ≡ 0 = ap (share t) (none refl) in rw (fit, here, count, e) refl
    by-fits true false fit here none = let e : share t on ≡ 0 = ap (share t) (none refl) in rw (here, count, e) refl
    by-fits false true fit here none = rw (fit, zero-add) count
    by-fits false false fit here none = count
counted fits alike (Closes ended) u t true [] on is may count fresh mine = absurd (none (may refl))
  where
    none : false ≡ true → ⊥
    none e = cc
counted fits alike (Closes ended) u t true (bracket ∷ brackets) on is may count fresh mine =
    by-fits (fits ended) (alike bracket ended (may refl)) mine
  where
    by-fits : (b : Bool) → fits bracket ≡ b → (b ≡ true → on ≡ Some u) → marks fits brackets ≡ share t (open_after false b u on)
    by-fits true fit here =
        let w : cond {A = ℕ} (fits bracket) 1 0 + marks fits brackets ≡ share t on = count in
        let e : share t on ≡ cond {A = ℕ} (u == t) 1 0 = ap (share t) (here refl) in
        let one : cond {A = ℕ} (u == t) 1 0 ≡ 1 = rw is refl in
        let f : cond {A = ℕ} (fits bracket) 1 0 ≡ 1 = rw fit refl in
        omega (arith, f, w, one, e)
    by-fits false fit here =
        let w : cond {A = ℕ} (fits bracket) 1 0 + marks fits brackets ≡ share t on = count in
        let f : cond {A = ℕ} (fits bracket) 1 0 ≡ 0 = rw fit refl in
        omega (arith, f, w)
counted fits alike (Closes ended) u t false brackets on is may count fresh mine = by-fits (fits ended) mine
  where
    by-fits : (b : Bool) → (b ≡ true → on ≡ Some u) → marks fits brackets ≡ share t (open_after false b u on)
    by-fits true here =
        let e : share t on ≡ cond {A = ℕ} (u == t) 1 0 = ap (share t) (here refl) in
        let none : cond {A = ℕ} (u == t) 1 0 ≡ 0 = rw is refl in
        count ∙ (e ∙ none)
    by-fits false here = count
counted fits alike Stays u t true brackets on is may count fresh mine = count
counted fits alike Stays u t false brackets on is may count fresh mine = count

-- what is closed is open on the thread that closes it
closing : (fits : Bracket → Bool) (alike : Alike fits) (change : Change) (u : ℕ) (brackets : List Bracket) (on : Option ℕ)
    → MayClose change brackets → marks fits brackets ≡ share u on → closes_by fits change ≡ true → on ≡ Some u
closing fits alike (Opens bracket) u brackets on may count closes = absurd (cc)
closing fits alike Stays u brackets on may count closes = absurd (cc)
closing fits alike (Closes ended) u [] on may count closes = absurd (cc)
closing fits alike (Closes ended) u (bracket ∷ brackets) None may count closes =
    let f : cond {A = ℕ} (fits bracket) 1 0 ≡ 1 = rw (alike bracket ended may, closes) refl in
    let e : cond {A = ℕ} (fits bracket) 1 0 + marks fits brackets ≡ 0 = count in
    absurd (omega (arith, f, e))
closing fits alike (Closes ended) u (bracket ∷ brackets) (Some v) may count closes =
    let f : cond {A = ℕ} (fits bracket) 1 0 ≡ 1 = rw (alike bracket ended may, closes) refl in
    let e : cond {A = ℕ} (fits bracket) 1 0 + marks fits brackets ≡ cond (v == u) 1 0 = count in
    by-same (v == u) refl (omega (arith, f, e))
  where
    by-same : (b : Bool) → (v == u) ≡ b → 1 ≤ cond b 1 0 → Some v ≡ Some u
    by-same true same one = ap (λ (n : ℕ). Some n) (eqb-true v u same)
    by-same false same one = absurd (omega arith)

none_some : (on : Option ℕ) (t : ℕ) → on ≡ None → on ≡ Some t → ⊥
none_some on t none some = cc

once_step : (fits : Bracket → Bool) (alike : Alike fits) (event : EventRecord) (past : List EventRecord)
    → keeps_brackets past event.thread event.call ≡ true → Fresh fits past event → Once fits past → Once fits (event ∷ past)
once_step fits alike event past keeps fresh once =
    let may : may_change past event.thread (change_of event.call) ≡ true = first_of_two (may_change past event.thread (change_of event.call)) _ keeps in
    let close : MayClose (change_of event.call) (opened event.thread past) = may_close past event.thread (change_of event.call) may in
    let mine : closes_by fits (change_of event.call) ≡ true → open_on fits past ≡ Some event.thread =
    closing fits alike (change_of event.call) event.thread (opened event.thread past) (open_on fits past) close (once.counts event.thread) in
    let none : opens_by fits (change_of event.call) ≡ true → open_on fits past ≡ None = λ opens. once.before_open (fresh opens) in
    record {
      counts = λ t. counted fits alike (change_of event.call) event.thread t (event.thread == t) (opened t past) (open_on fits past) refl
          (λ same. subst (λ (v : ℕ). MayClose (change_of event.call) (opened v past)) (eqb-true event.thread t same) close) (once.counts t) none mine;
      closed = after-close (opens_by fits (change_of event.call)) (closes_by fits (change_of event.call)) (has_opened fits past) (has_closed fits past) event.thread (open_on fits past) fresh once.closed once.before_close (not-both (change_of event.call));
      before_open = after-none (opens_by fits (change_of event.call)) (closes_by fits (change_of event.call)) (has_opened fits past) event.thread (open_on fits past) once.before_open;
      before_close = after-unopened (opens_by fits (change_of event.call)) (closes_by fits (change_of event.call)) (has_opened fits past) (has_closed fits past) event.thread (open_on fits past) once.before_open once.before_close mine;
    }
  where
    first_of_two : (a b : Bool) → (a && b) ≡ true → a ≡ true
    first_of_two true b both = refl
    first_of_two false b both = cc

    not-both : (change : Change) → opens_by fits change ≡ true → closes_by fits change ≡ false
    not-both (Opens bracket) opens = refl
    not-both (Closes bracket) opens = absurd (cc)
    not-both Stays opens = refl

    after-close : (o c ho hc : Bool) (t : ℕ) (on : Option ℕ) → (o ≡ true → ho ≡ false) → (hc ≡ true → on ≡ None) → (ho ≡ false → hc ≡ false) → (o ≡ true → c ≡ false)
        → (c || hc) ≡ true → open_after o c t on ≡ None
    after-close true true ho hc t on new old unopened apart closed = absurd (grind arith)
    after-close true false ho hc t on new old unopened apart closed = absurd (grind arith)
    after-close false true ho hc t on new old unopened apart closed = refl
    after-close false false ho hc t on new old unopened apart closed = old closed

    after-none : (o c ho : Bool) (t : ℕ) (on : Option ℕ) → (ho ≡ false → on ≡ None) → (o || ho) ≡ false → open_after o c t on ≡ None
    after-none true c ho t on old unopened = absurd (cc)
    after-none false true ho t on old unopened = refl
    after-none false false ho t on old unopened = old unopened

    after-unopened : (o c ho hc : Bool) (t : ℕ) (on : Option ℕ) → (ho ≡ false → on ≡ None) → (ho ≡ false → hc ≡ false) → (c ≡ true → on ≡ Some t) → (o || ho) ≡ false → (c || hc) ≡ false
    after-unopened true c ho hc t on old rest mine unopened = absurd (cc)
    after-unopened false true ho hc t on old rest mine unopened = absurd (none_some on t (old unopened) (mine refl))
    after-unopened false false ho hc t on old rest mine unopened = rest unopened

-- so it is after events that break no rule
pub once : (fits : Bracket → Bool) → Alike fits → ((past : List EventRecord) (event : EventRecord) → Unbroken past → KeepsAll past event → Fresh fits past event)
    → (past : List EventRecord) → Unbroken past → Once fits past
once fits alike fresh [] unbroken = record { counts = λ t. refl; closed = λ e. refl; before_open = λ e. refl; before_close = λ e. refl }
once fits alike fresh (event ∷ past) unbroken =
    let all : KeepsAll past event = keeps_all past event unbroken.0 in
    once_step fits alike event past all.brackets (fresh past event unbroken.1 all) (once fits alike fresh past unbroken.1)
