-- A longest chain has the length that the keys tell.
use Rattle.std.proofs.Common.{◌≡◌, ℕ, zero, suc, ◌+◌, ◌≤◌, ◌&&◌, ◌||◌, ◌⊎◌, Bool, true, false, cond, max, List, [], ◌∷◌, ◌++◌, length, reverse, Option, Some, None, refl, sym, ◌∙◌, ap, subst, inl, inr, append_assoc, arith}
use Rattle.std.specs.List.{list_any}
use Rattle.std.proofs.lemmas.List.{length-append, reverse-append, reverse-reverse}
use Rattle.ompt_calls.specs.declared.event.EventRecord.{EventRecord}
use Rattle.trace_check.proofs.Firsts.{Apart, apart, earlier as comes_before, later as comes_after, same as comes_at}
use Rattle.tool_tasks.specs.declared.key.Key.{Key}
use Rattle.tool_tasks.specs.Keys.{gives, has_key, is_among_keys, leads_by_keys, takes}
use Rattle.tool_tasks.specs.Leads.{leads}
use Rattle.tool_tasks.specs.Reaching.{best, is_charged, most, reach, span_of}
use Rattle.tool_tasks.specs.Span.{AreRising, IsChain, IsCharged, IsSpan, Leads}
use Rattle.tool_tasks.proofs.Cases.{same_leads}

-- ---- the greatest at some keys

some_taken : (number : Key → ℕ) (n : ℕ) (given taken : List (Option Key)) → list_any (is_among_keys given) taken ≡ true
    → ((key : Key) → has_key key given ≡ true → n ≤ number key) → n ≤ most number taken
some_taken number n given [] some each = absurd (cc)
some_taken number n given (None ∷ rest) some each = some_taken number n given rest some each
some_taken number n given (Some key ∷ rest) some each = by-test (has_key key given) refl some (λ more. some_taken number n given rest more each)
  where
    by-test : (b : Bool) → has_key key given ≡ b → (b || list_any (is_among_keys given) rest) ≡ true
        → (list_any (is_among_keys given) rest ≡ true → n ≤ most number rest) → n ≤ max (number key) (most number rest)
    by-test true is some more = let e : n ≤ number key = each key is in omega arith
    by-test false is some more = let e : n ≤ most number rest = more some in omega arith

-- one of them has it
record IsMost (number : Key → ℕ) (taken : List (Option Key)) (n : ℕ) : Type 0 where
  key : Key
  number_is : number key ≡ n
  among : (given : List (Option Key)) → has_key key given ≡ true → list_any (is_among_keys given) taken ≡ true

or_right : (a b : Bool) → b ≡ true → (a || b) ≡ true
or_right true b is = refl
or_right false b is = is

most_found : (number : Key → ℕ) (taken : List (Option Key)) (n : ℕ) → most number taken ≡ suc n → IsMost number taken (suc n)
most_found number [] n is = absurd (cc)
most_found number (None ∷ rest) n is =
    let found : IsMost number rest (suc n) = most_found number rest n is in
    record { key = found.key; number_is = found.number_is; among = λ given has. found.among given has }
most_found number (Some key ∷ rest) n is = by-order (number key) (most number rest) refl refl is (λ same. most_found number rest n same)
  where
    larger : (a b : ℕ) → max a b ≡ suc n → (a ≡ suc n) ⊎ (b ≡ suc n)
    larger a b is = grind arith

    by-order : (a b : ℕ) → number key ≡ a → most number rest ≡ b → max a b ≡ suc n → (most number rest ≡ suc n → IsMost number rest (suc n)) → IsMost number (Some key ∷ rest) (suc n)
    by-order a b a_is b_is is rest_found = elim (larger a b is) as (λ _. IsMost number (Some key ∷ rest) (suc n)) [
      | inl here ↦ record { key = key; number_is = a_is ∙ here; among = λ given has. (rw has refl) }
      | inr there ↦ (let found : IsMost number rest (suc n) = rest_found (b_is ∙ there) in
          record { key = found.key; number_is = found.number_is; among = λ given has. or_right (has_key key given) (list_any (is_among_keys given) rest) (found.among given has) })
    ]

-- ---- the best at a key

-- each charged event that gives it is covered
covers : (key : Key) (newer before : List EventRecord) (event : EventRecord) → is_charged before event ≡ true → has_key key (gives before event) ≡ true
    → reach before event ≤ best key (newer ++ event ∷ before)
covers key [] before event charged given = rw (charged, given) (omega arith)
covers key (first ∷ newer) before event charged given =
    by-test (is_charged (newer ++ event ∷ before) first && has_key key (gives (newer ++ event ∷ before) first)) (covers key newer before event charged given)
  where
    by-test : (b : Bool) → reach before event ≤ best key (newer ++ event ∷ before)
        → reach before event ≤ cond b (max (best key (newer ++ event ∷ before)) (reach (newer ++ event ∷ before) first)) (best key (newer ++ event ∷ before))
    by-test true below = omega arith
    by-test false below = below

-- one of them has it
record IsBest (key : Key) (past : List EventRecord) (n : ℕ) : Type 0 where
  newer : List EventRecord
  event : EventRecord
  before : List EventRecord
  past_is : past ≡ newer ++ event ∷ before
  charged : is_charged before event ≡ true
  given : has_key key (gives before event) ≡ true
  reach_is : reach before event ≡ n

and_left : (a b : Bool) → (a && b) ≡ true → a ≡ true
and_left true b both = refl
and_left false b both = cc

and_right : (a b : Bool) → (a && b) ≡ true → b ≡ true
and_right true b both = both
and_right false b both = absurd cc

best_found : (key : Key) (past : List EventRecord) (n : ℕ) → best key past ≡ suc n → IsBest key past (suc n)
best_found key [] n is = absurd (cc)
best_found key (event ∷ past) n is =
    by-test (is_charged past event && has_key key (gives past event)) refl is (λ same. best_found key past n same)
  where
    longer : IsBest key past (suc n) → IsBest key (event ∷ past) (suc n)
    longer found = record {
      newer = event ∷ found.newer;
      event = found.event;
      before = found.before;
      past_is = ap (λ (rest : List EventRecord). event ∷ rest) found.past_is;
      charged = found.charged;
      given = found.given;
      reach_is = found.reach_is;
    }

    larger : (a b : ℕ) → max a b ≡ suc n → (a ≡ suc n) ⊎ (b ≡ suc n)
    larger a b is = grind arith

    by-test : (b : Bool) → (is_charged past event && has_key key (gives past event)) ≡ b → cond b (max (best key past) (reach past event)) (best key past) ≡ suc n
        → (best key past ≡ suc n → IsBest key past (suc n)) → IsBest key (event ∷ past) (suc n)
    by-test true both is rest = elim (larger (best key past) (reach past event) is) as (λ _. IsBest key (event ∷ past) (suc n)) [
      | inl there ↦ longer (rest there)
      | inr here ↦ record {
        newer = [];
        event = event;
        before = past;
        past_is = refl;
        charged = and_left (is_charged past event) _ both;
        given = and_right (is_charged past event) _ both;
        reach_is = here;
      }
    ]
    by-test false none is rest = longer (rest is)

-- ---- the span covers each charged event, and one has it

span_covers : (newer before : List EventRecord) (event : EventRecord) → is_charged before event ≡ true → reach before event ≤ span_of (newer ++ event ∷ before)
span_covers [] before event charged = rw charged (omega arith)
span_covers (first ∷ newer) before event charged = by-test (is_charged (newer ++ event ∷ before) first) (span_covers newer before event charged)
  where
    by-test : (b : Bool) → reach before event ≤ span_of (newer ++ event ∷ before)
        → reach before event ≤ cond b (max (span_of (newer ++ event ∷ before)) (reach (newer ++ event ∷ before) first)) (span_of (newer ++ event ∷ before))
    by-test true below = omega arith
    by-test false below = below

record IsEnd (past : List EventRecord) (n : ℕ) : Type 0 where
  newer : List EventRecord
  event : EventRecord
  before : List EventRecord
  past_is : past ≡ newer ++ event ∷ before
  charged : is_charged before event ≡ true
  reach_is : reach before event ≡ n

span_found : (past : List EventRecord) (n : ℕ) → span_of past ≡ suc n → IsEnd past (suc n)
span_found [] n is = absurd (cc)
span_found (event ∷ past) n is = by-test (is_charged past event) refl is (λ same. span_found past n same)
  where
    longer : IsEnd past (suc n) → IsEnd (event ∷ past) (suc n)
    longer found = record {
      newer = event ∷ found.newer;
      event = found.event;
      before = found.before;
      past_is = ap (λ (rest : List EventRecord). event ∷ rest) found.past_is;
      charged = found.charged;
      reach_is = found.reach_is;
    }

    larger : (a b : ℕ) → max a b ≡ suc n → (a ≡ suc n) ⊎ (b ≡ suc n)
    larger a b is = grind arith

    by-test : (b : Bool) → is_charged past event ≡ b → cond b (max (span_of past) (reach past event)) (span_of past) ≡ suc n
        → (span_of past ≡ suc n → IsEnd past (suc n)) → IsEnd (event ∷ past) (suc n)
    by-test true charged is rest = elim (larger (span_of past) (reach past event) is) as (λ _. IsEnd (event ∷ past) (suc n)) [
      | inl there ↦ longer (rest there)
      | inr here ↦ record { newer = []; event = event; before = past; past_is = refl; charged = charged; reach_is = here }
    ]
    by-test false none is rest = longer (rest is)

-- ---- an event that is led to reaches further

reaches_further : (between before : List EventRecord) (event later : EventRecord) → is_charged before event ≡ true
    → leads_by_keys before event (between ++ event ∷ before) later ≡ true → reach before event + 1 ≤ reach (between ++ event ∷ before) later
reaches_further between before event later charged led =
    let below : reach before event ≤ most (λ (taken : Key). best taken (between ++ event ∷ before)) (takes (between ++ event ∷ before) later) =
    some_taken (λ (taken : Key). best taken (between ++ event ∷ before)) (reach before event) (gives before event) (takes (between ++ event ∷ before) later) led
    (λ key given. covers key between before event charged given) in
    omega arith

-- ---- the events in their order

turned : (front behind : List EventRecord) (event : EventRecord) → reverse (front ++ event ∷ behind) ≡ reverse behind ++ event ∷ reverse front
turned front behind event =
    reverse-append front (event ∷ behind)
    ∙ (ap (λ (first : List EventRecord). first ++ reverse front) (reverse-append (event ∷ []) behind) ∙ append_assoc (reverse behind) (event ∷ []) (reverse front))

rising_later : (least : ℕ) (between : List EventRecord) (later : EventRecord) (behind : List EventRecord) → AreRising least (between ++ later ∷ behind) → least ≤ later.seq
rising_later least [] later behind rising = rising.0
rising_later least (first ∷ between) later behind rising =
    let e : first.seq + 1 ≤ later.seq = rising_later (first.seq + 1) between later behind rising.1 in
    let f : least ≤ first.seq = rising.0 in
    omega arith

rising_behind : (least : ℕ) (front : List EventRecord) (event : EventRecord) (behind : List EventRecord) → AreRising least (front ++ event ∷ behind) → AreRising (event.seq + 1) behind
rising_behind least [] event behind rising = rising.1
rising_behind least (first ∷ front) event behind rising = rising_behind (first.seq + 1) front event behind rising.1

-- one position is that of one event
one_place : (events a b c d : List EventRecord) (x y : EventRecord) → AreRising 0 events → events ≡ a ++ x ∷ b → events ≡ c ++ y ∷ d → x.seq ≡ y.seq → (a ≡ c) × (x ≡ y)
one_place events a b c d x y rising first second same = by-place (apart a b c d x y (sym first ∙ second))
  where
    of_first : AreRising 0 (a ++ x ∷ b)
    of_first = subst (AreRising 0) first rising

    of_second : AreRising 0 (c ++ y ∷ d)
    of_second = subst (AreRising 0) second rising

    by-place : Apart a b c d x y → (a ≡ c) × (x ≡ y)
    by-place (comes_before m c_is b_is) =
        let less : x.seq + 1 ≤ y.seq = rising_later (x.seq + 1) m y d (subst (AreRising (x.seq + 1)) b_is (rising_behind 0 a x b of_first)) in
        absurd (omega arith)
    by-place (comes_at a_is x_is b_is) = (a_is, x_is)
    by-place (comes_after m a_is d_is) =
        let less : y.seq + 1 ≤ x.seq = rising_later (y.seq + 1) m x b (subst (AreRising (y.seq + 1)) d_is (rising_behind 0 c y d of_second)) in
        absurd (omega arith)

-- ---- no chain is longer

-- a charged event at this position, to which there is a chain of this length at least
record IsAt (events : List EventRecord) (seq n : ℕ) : Type 0 where
  before : List EventRecord
  event : EventRecord
  behind : List EventRecord
  events_are : events ≡ before ++ event ∷ behind
  seq_is : event.seq ≡ seq
  charged : is_charged (reverse before) event ≡ true
  far : n ≤ reach (reverse before) event

led_further : (events : List EventRecord) (seq next n : ℕ) → AreRising 0 events → IsAt events seq n → Leads events seq next → IsAt events next (n + 1)
led_further events seq next n rising at led = record {
  before = led.before ++ led.event ∷ led.between;
  event = led.later;
  behind = led.behind;
  events_are = led.events_are;
  seq_is = led.next_is;
  charged = led.later_charged;
  far = further;
}
  where
    further : n + 1 ≤ reach (reverse (led.before ++ led.event ∷ led.between)) led.later
    further =
        let place = one_place events at.before at.behind led.before (led.between ++ led.later ∷ led.behind) at.event led.event rising at.events_are
        (led.events_are ∙ append_assoc led.before (led.event ∷ led.between) (led.later ∷ led.behind)) (at.seq_is ∙ sym led.seq_is) in
        let far : n ≤ reach (reverse led.before) led.event =
        subst (λ (event : EventRecord). n ≤ reach (reverse led.before) event) place.1 (subst (λ (before : List EventRecord). n ≤ reach (reverse before) at.event) place.0 at.far) in
        let turn : reverse (led.before ++ led.event ∷ led.between) ≡ reverse led.between ++ led.event ∷ reverse led.before = turned led.before led.between led.event in
        let more : reach (reverse led.before) led.event + 1 ≤ reach (reverse led.between ++ led.event ∷ reverse led.before) led.later =
        reaches_further (reverse led.between) (reverse led.before) led.event led.later led.charged
        (subst (λ (past : List EventRecord). leads_by_keys (reverse led.before) led.event past led.later ≡ true) turn
        (sym (same_leads (reverse led.before) (reverse (led.before ++ led.event ∷ led.between)) led.event led.later) ∙ led.leads)) in
        subst (λ (past : List EventRecord). n + 1 ≤ reach past led.later) (sym turn) (omega arith)

within_span : (events : List EventRecord) (seq n : ℕ) → IsAt events seq n → n ≤ span_of (reverse events)
within_span events seq n at =
    let turn : reverse events ≡ reverse at.behind ++ at.event ∷ reverse at.before = ap reverse at.events_are ∙ turned at.before at.behind at.event in
    let covered : reach (reverse at.before) at.event ≤ span_of (reverse at.behind ++ at.event ∷ reverse at.before) = span_covers (reverse at.behind) (reverse at.before) at.event at.charged in
    let far : n ≤ reach (reverse at.before) at.event = at.far in
    subst (λ (past : List EventRecord). n ≤ span_of past) (sym turn) (omega arith)

walk : (events : List EventRecord) (seq n : ℕ) (rest : List ℕ) → AreRising 0 events → IsAt events seq n → IsChain events (seq ∷ rest) → n + length rest ≤ span_of (reverse events)
walk events seq n [] rising at chain = let e : n ≤ span_of (reverse events) = within_span events seq n at in omega arith
walk events seq n (next ∷ rest) rising at chain =
    let e : n + 1 + length rest ≤ span_of (reverse events) = walk events next (n + 1) rest rising (led_further events seq next n rising at chain.0) chain.1 in
    omega arith

first_at : (events : List EventRecord) (seq : ℕ) (rest : List ℕ) → IsChain events (seq ∷ rest) → IsAt events seq 1
first_at events seq [] chain = record {
  before = chain.before;
  event = chain.event;
  behind = chain.behind;
  events_are = chain.events_are;
  seq_is = chain.seq_is;
  charged = chain.charged;
  far = omega arith;
}
first_at events seq (next ∷ rest) chain = record {
  before = chain.0.before;
  event = chain.0.event;
  behind = chain.0.between ++ chain.0.later ∷ chain.0.behind;
  events_are = chain.0.events_are ∙ append_assoc chain.0.before (chain.0.event ∷ chain.0.between) (chain.0.later ∷ chain.0.behind);
  seq_is = chain.0.seq_is;
  charged = chain.0.charged;
  far = omega arith;
}

longest : (events : List EventRecord) (chain : List ℕ) → AreRising 0 events → IsChain events chain → length chain ≤ span_of (reverse events)
longest events [] rising chain = omega arith
longest events (seq ∷ rest) rising chain =
    let e : 1 + length rest ≤ span_of (reverse events) = walk events seq 1 rest rising (first_at events seq rest chain) chain in
    omega arith

-- ---- a chain is there

record HasChain (events : List EventRecord) (n : ℕ) : Type 0 where
  chain : List ℕ
  is_chain : IsChain events chain
  length_is : length chain ≡ n

in_order : (events newer before : List EventRecord) (event : EventRecord) → reverse events ≡ newer ++ event ∷ before → events ≡ reverse before ++ event ∷ reverse newer
in_order events newer before event is = sym (reverse-reverse events) ∙ (ap reverse is ∙ turned newer before event)

pub leads_to : (events newer before between older : List EventRecord) (event earlier : EventRecord)
    → reverse events ≡ newer ++ event ∷ before → before ≡ between ++ earlier ∷ older
    → is_charged before event ≡ true → is_charged older earlier ≡ true → leads_by_keys older earlier before event ≡ true → Leads events earlier.seq event.seq
leads_to events newer before between older event earlier is before_is charged earlier_charged led = record {
  before = reverse older;
  event = earlier;
  between = reverse between;
  later = event;
  behind = reverse newer;
  events_are = in_order events newer before event is ∙ ap (λ (front : List EventRecord). front ++ event ∷ reverse newer) (ap reverse before_is ∙ turned between older earlier);
  seq_is = refl;
  next_is = refl;
  charged = subst (λ (past : List EventRecord). is_charged past earlier ≡ true) (sym (reverse-reverse older)) earlier_charged;
  later_charged = subst (λ (past : List EventRecord). is_charged past event ≡ true) back charged;
  leads = subst (λ (past : List EventRecord). leads past earlier (reverse (reverse older ++ earlier ∷ reverse between)) event ≡ true) (sym (reverse-reverse older))
      (subst (λ (past : List EventRecord). leads older earlier past event ≡ true) back (same_leads older before earlier event ∙ led));
}
  where
    back : before ≡ reverse (reverse older ++ earlier ∷ reverse between)
    back = sym (ap reverse (sym (ap reverse before_is ∙ turned between older earlier)) ∙ reverse-reverse before)

-- a chain goes on before its first event
record IsBefore (events : List EventRecord) (before : List EventRecord) (event : EventRecord) (m : ℕ) : Type 0 where
  older : List EventRecord
  earlier : EventRecord
  between : List EventRecord
  before_is : before ≡ between ++ earlier ∷ older
  charged : is_charged older earlier ≡ true
  led : leads_by_keys older earlier before event ≡ true
  reach_is : reach older earlier ≡ m

goes_on : (events before : List EventRecord) (event : EventRecord) (m : ℕ) → most (λ (taken : Key). best taken before) (takes before event) ≡ suc m → IsBefore events before event (suc m)
goes_on events before event m is =
    let found : IsMost (λ (taken : Key). best taken before) (takes before event) (suc m) = most_found (λ (taken : Key). best taken before) (takes before event) m is in
    let first : IsBest found.key before (suc m) = best_found found.key before m found.number_is in
    record {
      older = first.before;
      earlier = first.event;
      between = first.newer;
      before_is = first.past_is;
      charged = first.charged;
      led = found.among (gives first.before first.event) first.given;
      reach_is = first.reach_is;
    }

shorter : (between older before : List EventRecord) (earlier : EventRecord) → before ≡ between ++ earlier ∷ older → length older + 1 ≤ length before
shorter between older before earlier is =
    let e : length before ≡ length between + length (earlier ∷ older) = ap length is ∙ length-append between (earlier ∷ older) in
    omega arith

extend : (events : List EventRecord) (fuel : ℕ) (newer before : List EventRecord) (event : EventRecord) (rest : List ℕ)
    → length before ≤ fuel → reverse events ≡ newer ++ event ∷ before → is_charged before event ≡ true → IsChain events (event.seq ∷ rest)
    → HasChain events (reach before event + length rest)
extend events zero newer before event rest few is charged chain = by-most (most (λ (taken : Key). best taken before) (takes before event)) refl
  where
    by-most : (m : ℕ) → most (λ (taken : Key). best taken before) (takes before event) ≡ m → HasChain events (m + 1 + length rest)
    by-most zero none = record { chain = event.seq ∷ rest; is_chain = chain; length_is = omega arith }
    by-most (suc m) more =
        let prior : IsBefore events before event (suc m) = goes_on events before event m more in
        let e : length prior.older + 1 ≤ length before = shorter prior.between prior.older before prior.earlier prior.before_is in
        absurd (omega arith)
extend events (suc fuel) newer before event rest few is charged chain =
    by-most (most (λ (taken : Key). best taken before) (takes before event)) refl (λ newer' before' event' rest' few' is' charged' chain'. extend events fuel newer' before' event' rest' few' is' charged' chain')
  where
    by-most : (m : ℕ) → most (λ (taken : Key). best taken before) (takes before event) ≡ m
        → ((newer' before' : List EventRecord) (event' : EventRecord) (rest' : List ℕ) → length before' ≤ fuel → reverse events ≡ newer' ++ event' ∷ before' → is_charged before' event' ≡ true
        → IsChain events (event'.seq ∷ rest') → HasChain events (reach before' event' + length rest'))
        → HasChain events (m + 1 + length rest)
    by-most zero none again = record { chain = event.seq ∷ rest; is_chain = chain; length_is = omega arith }
    by-most (suc m) more again =
        let prior : IsBefore events before event (suc m) = goes_on events before event m more in
        let e : length prior.older + 1 ≤ length before = shorter prior.between prior.older before prior.earlier prior.before_is in
        let placed : reverse events ≡ (newer ++ event ∷ prior.between) ++ prior.earlier ∷ prior.older =
        is ∙ (ap (λ (past : List EventRecord). newer ++ event ∷ past) prior.before_is ∙ sym (append_assoc newer (event ∷ prior.between) (prior.earlier ∷ prior.older))) in
        let found : HasChain events (reach prior.older prior.earlier + length (event.seq ∷ rest)) =
        again (newer ++ event ∷ prior.between) prior.older prior.earlier (event.seq ∷ rest) (omega arith) placed prior.charged
        (leads_to events newer before prior.between prior.older event prior.earlier is prior.before_is charged prior.charged prior.led, chain) in
        let reach_is : reach prior.older prior.earlier ≡ suc m = prior.reach_is in
        record { chain = found.chain; is_chain = found.is_chain; length_is = found.length_is ∙ sum (reach prior.older prior.earlier) reach_is }
      where
        sum : (n : ℕ) → n ≡ suc m → n + suc (length rest) ≡ suc m + 1 + length rest
        sum n same = omega arith

charged_at : (events newer before : List EventRecord) (event : EventRecord) → reverse events ≡ newer ++ event ∷ before → is_charged before event ≡ true → IsCharged events event.seq
charged_at events newer before event is charged = record {
  before = reverse before;
  event = event;
  behind = reverse newer;
  events_are = in_order events newer before event is;
  seq_is = refl;
  charged = subst (λ (past : List EventRecord). is_charged past event ≡ true) (sym (reverse-reverse before)) charged;
}

a_longest : (events : List EventRecord) → HasChain events (span_of (reverse events))
a_longest events = by-span (span_of (reverse events)) refl
  where
    by-span : (n : ℕ) → span_of (reverse events) ≡ n → HasChain events n
    by-span zero is = record { chain = []; is_chain = tt; length_is = refl }
    by-span (suc n) is =
        let end : IsEnd (reverse events) (suc n) = span_found (reverse events) n is in
        let found : HasChain events (reach end.before end.event + length {A = ℕ} []) =
        extend events (length end.before) end.newer end.before end.event [] (omega arith) end.past_is end.charged (charged_at events end.newer end.before end.event end.past_is end.charged) in
        let reach_is : reach end.before end.event ≡ suc n = end.reach_is in
        record { chain = found.chain; is_chain = found.is_chain; length_is = found.length_is ∙ none (reach end.before end.event) reach_is }
      where
        none : (m : ℕ) → m ≡ suc n → m + 0 ≡ suc n
        none m same = omega arith

pub is_span : (events : List EventRecord) → AreRising 0 events → IsSpan events (span_of (reverse events))
is_span events rising =
    let found : HasChain events (span_of (reverse events)) = a_longest events in
    record { chain = found.chain; is_chain = found.is_chain; length_is = found.length_is; longest = λ other chain. longest events other rising chain }
