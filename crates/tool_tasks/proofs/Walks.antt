-- Chains by links.
use Rattle.std.proofs.Common.{◌≡◌, ℕ, zero, suc, ◌+◌, ◌-◌, ◌<◌, ◌≤◌, ◌==◌, ◌&&◌, ◌||◌, ◌⊎◌, Bool, true, false, cond, List, [], ◌∷◌, ◌++◌, length, reverse, Option, Some, None, refl, sym, ◌∙◌, ap, subst, inl, inr, append_assoc, arith}
use Rattle.std.specs.Prelude.{slice_get}
use Rattle.std.specs.BTreeMap.{BTreeMap, Updates, get}
use Rattle.std.specs.List.{list_any}
use Rattle.std.specs.Ordering.{nat_cmp}
use Rattle.std.proofs.lemmas.Bool.{eqb-true}
use Rattle.std.proofs.lemmas.List.{append-nil, reverse-append, reverse-reverse}
use Rattle.ompt_calls.specs.declared.event.EventRecord.{EventRecord}
use Rattle.trace_check.proofs.RegionParts.{beside_key}
use Rattle.tool_tasks.specs.declared.key.Key.{Key}
use Rattle.tool_tasks.specs.declared.key.Key.TheVariants.{Next, Begun, Left, Created, Child, Ended, Wait}
use Rattle.tool_tasks.specs.declared.reaches.Link.{Link}
use Rattle.tool_tasks.specs.declared.reaches.Reach.{Reach}
use Rattle.tool_tasks.specs.declared.reaches.Reaches.{Reaches}
use Rattle.tool_tasks.specs.Keys.{gives, has_key, is_among_keys, same_key, takes}
use Rattle.tool_tasks.specs.Reaching.{is_charged}
use Rattle.tool_tasks.specs.Span.{IsChain, IsCharged, Leads}
use Rattle.tool_tasks.specs.Holding.{Adds, AreShort, Ends, EndsIn, HoldsEnds, IsBack, IsShortKey, IsWalk, link_at, number_of, or_nowhere, reach_for, walk_on, walked}
use Rattle.tool_tasks.proofs.Frames.{get-last, get-more}
use Rattle.tool_tasks.proofs.Longest.{leads_to}
use Rattle.tool_tasks.proofs.Numbers.{same_number}

-- ---- a key is told by its number

and_left : (a b : Bool) → (a && b) ≡ true → a ≡ true
and_left true b both = refl
and_left false b both = cc

and_right : (a b : Bool) → (a && b) ≡ true → b ≡ true
and_right true b both = both
and_right false b both = absurd cc

key_is : (key other : Key) → same_key key other ≡ true → other ≡ key
key_is (Next task n) (Next other m) same =
    let e : task ≡ other = eqb-true task other (and_left (task == other) (n == m) same) in
    let f : n ≡ m = eqb-true n m (and_right (task == other) (n == m) same) in
    rw (e, f) refl
key_is (Begun region) (Begun other) same = let e : region ≡ other = eqb-true region other same in rw e refl
key_is (Left region) (Left other) same = let e : region ≡ other = eqb-true region other same in rw e refl
key_is (Created task) (Created other) same = let e : task ≡ other = eqb-true task other same in rw e refl
key_is (Child parent) (Child other) same = let e : parent ≡ other = eqb-true parent other same in rw e refl
key_is (Ended region) (Ended other) same = let e : region ≡ other = eqb-true region other same in rw e refl
key_is (Wait region n) (Wait other m) same =
    let e : region ≡ other = eqb-true region other (and_left (region == other) (n == m) same) in
    let f : n ≡ m = eqb-true n m (and_right (region == other) (n == m) same) in
    rw (e, f) refl
key_is key other same = absurd (cc)

-- ---- a key is given

some_length : (links : List Link) (past : List EventRecord) (key : Key) (reach : Reach) → Ends links past key reach → 1 ≤ reach.length
some_length links past key reach ends =
    let e : length (walked links reach.length reach.link) ≡ suc (length ends.rest) = ap (length {A = ℕ}) ends.walked_is in
    let f : length (walked links reach.length reach.link) ≡ reach.length = ends.walk.length_is in
    omega arith

pub given_ends : (old new : BTreeMap ℕ Reach) (links : List Link) (past : List EventRecord) (given : Key) (reach result : Reach) → IsShortKey given
    → Updates nat_cmp old new (number_of given) (Some result)
    → (result ≡ or_nowhere (get nat_cmp old (number_of given))) ⊎ (result ≡ reach) → reach.length ≤ result.length
    → HoldsEnds links past old → Ends links past given reach → HoldsEnds links past new
given_ends old new links past given reach result short updates either longer holds ends = λ key key_short. by-test key key_short (number_of given == number_of key) refl
  where
    of_old : (found : Option Reach) → EndsIn links past given found → result ≡ or_nowhere found → Ends links past given result
    of_old None known is =
        let e : 1 ≤ reach.length = some_length links past given reach ends in
        let f : result.length ≡ 0 = ap (λ (one : Reach). one.length) is in
        absurd (omega arith)
    of_old (Some found) known is = subst (λ (one : Reach). Ends links past given one) (sym is) known

    here : Ends links past given result
    here = elim either as (λ _. Ends links past given result) [
      | inl is ↦ of_old (get nat_cmp old (number_of given)) (holds given short) is
      | inr is ↦ subst (λ (one : Reach). Ends links past given one) (sym is) ends
    ]

    by-test : (key : Key) → IsShortKey key → (b : Bool) → (number_of given == number_of key) ≡ b → EndsIn links past key (get nat_cmp new (number_of key))
    by-test key key_short true same =
        let number : number_of given ≡ number_of key = eqb-true (number_of given) (number_of key) same in
        let is : given ≡ key = key_is key given (sym (same_number key given key_short short) ∙ same) in
        subst (EndsIn links past key) (sym (subst (λ (n : ℕ). get nat_cmp new n ≡ Some result) number updates.1)) (subst (λ (one : Key). Ends links past one result) is here)
    by-test key key_short false other =
        subst (EndsIn links past key) (sym (updates.2 (number_of key) (beside_key (number_of given) (number_of key) other))) (holds key key_short)

-- ---- more events, and more links

more_charged : (events more : List EventRecord) (seq : ℕ) → IsCharged events seq → IsCharged (events ++ more) seq
more_charged events more seq is = record {
  before = is.before;
  event = is.event;
  behind = is.behind ++ more;
  events_are = ap (λ (all : List EventRecord). all ++ more) is.events_are ∙ append_assoc is.before (is.event ∷ is.behind) more;
  seq_is = is.seq_is;
  charged = is.charged;
}

more_leads : (events more : List EventRecord) (seq next : ℕ) → Leads events seq next → Leads (events ++ more) seq next
more_leads events more seq next is = record {
  before = is.before;
  event = is.event;
  between = is.between;
  later = is.later;
  behind = is.behind ++ more;
  events_are = ap (λ (all : List EventRecord). all ++ more) is.events_are ∙ append_assoc (is.before ++ is.event ∷ is.between) (is.later ∷ is.behind) more;
  seq_is = is.seq_is;
  next_is = is.next_is;
  charged = is.charged;
  later_charged = is.later_charged;
  leads = is.leads;
}

more_back : (events more : List EventRecord) (chain : List ℕ) → IsBack events chain → IsBack (events ++ more) chain
more_back events more [] is = tt
more_back events more (seq ∷ []) is = more_charged events more seq is
more_back events more (seq ∷ prior ∷ rest) is = (more_leads events more prior seq is.0, more_back events more (prior ∷ rest) is.1)

reversed_more : (past : List EventRecord) (event : EventRecord) → reverse past ++ event ∷ [] ≡ reverse (event ∷ past)
reversed_more past event = sym (reverse-append (event ∷ []) past)

pub walk_on_past : (links : List Link) (past : List EventRecord) (event : EventRecord) (reach : Reach) → IsWalk links past reach → IsWalk links (event ∷ past) reach
walk_on_past links past event reach walk = record {
  is_back = subst (λ (events : List EventRecord). IsBack events (walked links reach.length reach.link)) (reversed_more past event)
      (more_back (reverse past) (event ∷ []) (walked links reach.length reach.link) walk.is_back);
  length_is = walk.length_is;
}

link_more : (links more : List Link) (number : ℕ) (link : Link) → link_at links number ≡ Some link → link_at (links ++ more) number ≡ Some link
link_more links more number link = by-test (number == 0)
  where
    by-test : (b : Bool) → cond b None (slice_get links (number - 1)) ≡ Some link → cond b None (slice_get (links ++ more) (number - 1)) ≡ Some link
    by-test true is = absurd (cc)
    by-test false is = get-more links more (number - 1) link is

walked_more : (links more : List Link) (count number : ℕ) → length (walked links count number) ≡ count → walked (links ++ more) count number ≡ walked links count number
walked_more links more zero number long = refl
walked_more links more (suc count) number long =
    by-link (link_at links number) refl long (λ back less. walked_more links more count back less)
  where
    by-link : (found : Option Link) → link_at links number ≡ found → length (walk_on found (λ (back : ℕ). walked links count back)) ≡ suc count
        → ((back : ℕ) → length (walked links count back) ≡ count → walked (links ++ more) count back ≡ walked links count back)
        → walk_on (link_at (links ++ more) number) (λ (back : ℕ). walked (links ++ more) count back) ≡ walk_on (link_at links number) (λ (back : ℕ). walked links count back)
    by-link None is long again = absurd (cc)
    by-link (Some link) is long again =
        let less : length (walked links count link.back) ≡ count = omega arith in
        rw (link_more links more number link is, is) (ap (λ (rest : List ℕ). link.seq ∷ rest) (again link.back less))

pub walk_on_links : (links more : List Link) (past : List EventRecord) (reach : Reach) → IsWalk links past reach → IsWalk (links ++ more) past reach
walk_on_links links more past reach walk =
    let same : walked (links ++ more) reach.length reach.link ≡ walked links reach.length reach.link = walked_more links more reach.length reach.link walk.length_is in
    record {
      is_back = subst (IsBack (reverse past)) (sym same) walk.is_back;
      length_is = ap (length {A = ℕ}) same ∙ walk.length_is;
    }

pub ends_on_past : (links : List Link) (past : List EventRecord) (event : EventRecord) (key : Key) (found : Option Reach) → EndsIn links past key found → EndsIn links (event ∷ past) key found
ends_on_past links past event key None ends = tt
ends_on_past links past event key (Some reach) ends = record {
  newer = event ∷ ends.newer;
  event = ends.event;
  before = ends.before;
  past_is = ap (λ (rest : List EventRecord). event ∷ rest) ends.past_is;
  charged = ends.charged;
  given = ends.given;
  rest = ends.rest;
  walked_is = ends.walked_is;
  walk = walk_on_past links past event reach ends.walk;
}

pub ends_on_links : (links more : List Link) (past : List EventRecord) (key : Key) (found : Option Reach) → EndsIn links past key found → EndsIn (links ++ more) past key found
ends_on_links links more past key None ends = tt
ends_on_links links more past key (Some reach) ends = record {
  newer = ends.newer;
  event = ends.event;
  before = ends.before;
  past_is = ends.past_is;
  charged = ends.charged;
  given = ends.given;
  rest = ends.rest;
  walked_is = walked_more links more reach.length reach.link ends.walk.length_is ∙ ends.walked_is;
  walk = walk_on_links links more past reach ends.walk;
}

-- ---- a charged event goes behind the longest chain whose key it takes

record Behind (links : List Link) (past : List EventRecord) (event : EventRecord) (before : Reach) : Type 0 where
  key : Key
  ends : Ends links past key before
  among : (given : List (Option Key)) → has_key key given ≡ true → list_any (is_among_keys given) (takes past event) ≡ true

-- a key that is taken
abbrev IsTaken : List EventRecord → EventRecord → Option Key → Type 0
IsTaken past event key = (k : Key) → key ≡ Some k → (given : List (Option Key)) → has_key k given ≡ true → list_any (is_among_keys given) (takes past event) ≡ true

behind : (bests : BTreeMap ℕ Reach) (links : List Link) (past : List EventRecord) (event : EventRecord) (key : Option Key) → AreShort key → HoldsEnds links past bests
    → IsTaken past event key → ((reach_for bests key).length ≡ 0) ⊎ Behind links past event (reach_for bests key)
behind bests links past event None short holds taken = inl refl
behind bests links past event (Some key) short holds taken = by-found (get nat_cmp bests (number_of key)) (holds key short)
  where
    by-found : (found : Option Reach) → EndsIn links past key found → ((or_nowhere found).length ≡ 0) ⊎ Behind links past event (or_nowhere found)
    by-found None ends = inl refl
    by-found (Some reach) ends = inr (record { key = key; ends = ends; among = λ given has. taken key refl given has })

-- a chain with one link more
pub record IsStep (links : List Link) (past : List EventRecord) (event : EventRecord) (reach : Reach) : Type 0 where
  pub rest : List ℕ
  pub walked_is : walked links reach.length reach.link ≡ event.seq ∷ rest
  pub walk : IsWalk links (event ∷ past) reach

last_link : (links : List Link) (link : Link) → link_at (links ++ link ∷ []) (length links + 1) ≡ Some link
last_link links link = by-test (length links + 1 == 0) refl
  where
    by-test : (b : Bool) → (length links + 1 == 0) ≡ b → cond b None (slice_get (links ++ link ∷ []) (length links + 1 - 1)) ≡ Some link
    by-test true is = let e : length links + 1 ≡ 0 = eqb-true (length links + 1) 0 is in absurd (omega arith)
    by-test false is = let e : length links + 1 - 1 ≡ length links = omega arith in ap (slice_get (links ++ link ∷ [])) e ∙ get-last links link

one_more : (links : List Link) (link : Link) (n : ℕ) → walked (links ++ link ∷ []) (n + 1) (length links + 1) ≡ link.seq ∷ walked (links ++ link ∷ []) n link.back
one_more links link n =
    let e : n + 1 ≡ suc n = omega arith in
    ap (λ (count : ℕ). walked (links ++ link ∷ []) count (length links + 1)) e
    ∙ ap (λ (found : Option Link). walk_on found (λ (back : ℕ). walked (links ++ link ∷ []) n back)) (last_link links link)

no_walk : (links : List Link) (past : List EventRecord) (before : Reach) → before.length ≡ 0 → walked links before.length before.link ≡ []
no_walk links past before none = ap (λ (count : ℕ). walked links count before.link) none

-- the chain before an event, and the event behind it
record IsPrior (links : List Link) (past : List EventRecord) (event : EventRecord) (before : Reach) : Type 0 where
  length_is : length (walked links before.length before.link) ≡ before.length
  is_back : IsBack (reverse (event ∷ past)) (event.seq ∷ walked links before.length before.link)

charged_now : (past : List EventRecord) (event : EventRecord) → is_charged past event ≡ true → IsCharged (reverse (event ∷ past)) event.seq
charged_now past event charged = record {
  before = reverse past;
  event = event;
  behind = [];
  events_are = sym (reversed_more past event);
  seq_is = refl;
  charged = subst (λ (all : List EventRecord). is_charged all event ≡ true) (sym (reverse-reverse past)) charged;
}

prior : (links : List Link) (past : List EventRecord) (event : EventRecord) (before : Reach) → is_charged past event ≡ true
    → (before.length ≡ 0) ⊎ Behind links past event before → IsPrior links past event before
prior links past event before charged (inl none) =
    let empty : walked links before.length before.link ≡ [] = no_walk links past before none in
    record {
      length_is = ap (length {A = ℕ}) empty ∙ sym none;
      is_back = subst (λ (rest : List ℕ). IsBack (reverse (event ∷ past)) (event.seq ∷ rest)) (sym empty) (charged_now past event charged);
    }
prior links past event before charged (inr behind) =
    let ends : Ends links past behind.key before = behind.ends in
    let led : Leads (reverse (event ∷ past)) ends.event.seq event.seq =
    leads_to (reverse (event ∷ past)) [] past ends.newer ends.before event ends.event (reverse-reverse (event ∷ past)) ends.past_is charged ends.charged
    (behind.among (gives ends.before ends.event) ends.given) in
    let back : IsBack (reverse (event ∷ past)) (ends.event.seq ∷ ends.rest) =
    subst (IsBack (reverse (event ∷ past))) ends.walked_is (walk_on_past links past event before ends.walk).is_back in
    record {
      length_is = ends.walk.length_is;
      is_back = subst (λ (rest : List ℕ). IsBack (reverse (event ∷ past)) (event.seq ∷ rest)) (sym ends.walked_is) (led, back);
    }

added : (links : List Link) (past : List EventRecord) (event : EventRecord) (before reach : Reach)
    → IsPrior links past event before → reach.link ≡ length links + 1 → reach.length ≡ before.length + 1
    → IsStep (links ++ (record { seq = event.seq; back = before.link }) ∷ []) past event reach
added links past event before reach is link_is length_is = record {
  rest = walked links before.length before.link;
  walked_is = chain;
  walk = record {
    is_back = subst (IsBack (reverse (event ∷ past))) (sym chain) is.is_back;
    length_is = ap (length {A = ℕ}) chain ∙ sum (length (walked links before.length before.link)) is.length_is;
  };
}
  where
    chain : walked (links ++ (record { seq = event.seq; back = before.link }) ∷ []) reach.length reach.link ≡ event.seq ∷ walked links before.length before.link
    chain =
        ap (λ (count : ℕ). walked (links ++ (record { seq = event.seq; back = before.link }) ∷ []) count reach.link) length_is
        ∙ (ap (walked (links ++ (record { seq = event.seq; back = before.link }) ∷ []) (before.length + 1)) link_is
        ∙ (one_more links (record { seq = event.seq; back = before.link }) before.length
        ∙ ap (λ (rest : List ℕ). event.seq ∷ rest) (walked_more links ((record { seq = event.seq; back = before.link }) ∷ []) before.length before.link is.length_is)))

    sum : (n : ℕ) → n ≡ before.length → suc n ≡ reach.length
    sum n same = let e : reach.length ≡ before.length + 1 = length_is in omega arith

or_right : (a b : Bool) → b ≡ true → (a || b) ≡ true
or_right true b is = refl
or_right false b is = is

-- each of three keys is among them
at_first : (k : Key) (b c : Option Key) (given : List (Option Key)) → has_key k given ≡ true → list_any (is_among_keys given) (Some k ∷ b ∷ c ∷ []) ≡ true
at_first k b c given has = rw has refl

at_second : (a : Option Key) (k : Key) (c : Option Key) (given : List (Option Key)) → has_key k given ≡ true → list_any (is_among_keys given) (a ∷ Some k ∷ c ∷ []) ≡ true
at_second a k c given has = or_right (is_among_keys given a) _ (rw has refl)

at_third : (a b : Option Key) (k : Key) (given : List (Option Key)) → has_key k given ≡ true → list_any (is_among_keys given) (a ∷ b ∷ Some k ∷ []) ≡ true
at_third a b k given has = or_right (is_among_keys given a) _ (or_right (is_among_keys given b) _ (rw has refl))

pub step : (old new : Reaches) (past : List EventRecord) (event : EventRecord) (next : Option Key) (taken : Option Key × Option Key) (reach : Reach)
    → Adds old new event.seq next taken reach → HoldsEnds old.links.items past old.bests → AreShort next → AreShort taken.0 → AreShort taken.1
    → ◌≡◌ {A = List (Option Key)} (next ∷ taken.0 ∷ taken.1 ∷ []) (takes past event) → is_charged past event ≡ true → IsStep new.links.items past event reach
step old new past event next taken reach adds holds next_short first_short second_short keys charged =
    subst (λ (links : List Link). IsStep links past event reach) (sym adds.links_are)
    (added old.links.items past event adds.before reach (prior old.links.items past event adds.before charged (by-key adds.before_is)) adds.link_is adds.length_is)
  where
    at_next : IsTaken past event next
    at_next k is given has = subst (λ (all : List (Option Key)). list_any (is_among_keys given) all ≡ true) (ap (λ (key : Option Key). key ∷ taken.0 ∷ taken.1 ∷ []) (sym is) ∙ keys) (at_first k taken.0 taken.1 given has)

    at_one : IsTaken past event taken.0
    at_one k is given has = subst (λ (all : List (Option Key)). list_any (is_among_keys given) all ≡ true) (ap (λ (key : Option Key). next ∷ key ∷ taken.1 ∷ []) (sym is) ∙ keys) (at_second next k taken.1 given has)

    at_two : IsTaken past event taken.1
    at_two k is given has = subst (λ (all : List (Option Key)). list_any (is_among_keys given) all ≡ true) (ap (λ (key : Option Key). next ∷ taken.0 ∷ key ∷ []) (sym is) ∙ keys) (at_third next taken.0 k given has)

    of_reach : (key : Option Key) → adds.before ≡ reach_for old.bests key → ((reach_for old.bests key).length ≡ 0) ⊎ Behind old.links.items past event (reach_for old.bests key)
        → (adds.before.length ≡ 0) ⊎ Behind old.links.items past event adds.before
    of_reach key is found = subst (λ (reach : Reach). (reach.length ≡ 0) ⊎ Behind old.links.items past event reach) (sym is) found

    by-key : (adds.before ≡ reach_for old.bests next) ⊎ ((adds.before ≡ reach_for old.bests taken.0) ⊎ (adds.before ≡ reach_for old.bests taken.1))
        → (adds.before.length ≡ 0) ⊎ Behind old.links.items past event adds.before
    by-key (inl is) = of_reach next is (behind old.bests old.links.items past event next next_short holds at_next)
    by-key (inr (inl is)) = of_reach taken.0 is (behind old.bests old.links.items past event taken.0 first_short holds at_one)
    by-key (inr (inr is)) = of_reach taken.1 is (behind old.bests old.links.items past event taken.1 second_short holds at_two)

-- ---- a chain in its order

turned_onto : (events : List EventRecord) (seq : ℕ) (back ahead : List ℕ) → IsBack events (seq ∷ back) → IsChain events (seq ∷ ahead) → IsChain events (reverse (seq ∷ back) ++ ahead)
turned_onto events seq [] ahead back chain = chain
turned_onto events seq (prior ∷ rest) ahead back chain =
    subst (IsChain events) (sym (turn (prior ∷ rest) seq ahead)) (turned_onto events prior rest (seq ∷ ahead) back.1 (back.0, chain))
  where
    turn : (all : List ℕ) (x : ℕ) (ys : List ℕ) → reverse (x ∷ all) ++ ys ≡ reverse all ++ x ∷ ys
    turn all x ys = ap (λ (front : List ℕ). front ++ ys) (reverse-append (x ∷ []) all) ∙ append_assoc (reverse all) (x ∷ []) ys

last_charged : (events : List EventRecord) (seq : ℕ) (rest : List ℕ) → IsBack events (seq ∷ rest) → IsChain events (seq ∷ [])
last_charged events seq [] back = back
last_charged events seq (prior ∷ rest) back = record {
  before = back.0.before ++ back.0.event ∷ back.0.between;
  event = back.0.later;
  behind = back.0.behind;
  events_are = back.0.events_are;
  seq_is = back.0.next_is;
  charged = back.0.later_charged;
}

pub turned : (events : List EventRecord) (back : List ℕ) → IsBack events back → IsChain events (reverse back)
turned events [] is = tt
turned events (seq ∷ rest) is = subst (IsChain events) (append-nil (reverse (seq ∷ rest))) (turned_onto events seq rest [] is (last_charged events seq rest is))

-- a walk, one link on
pub walked_step : (links : List Link) (left number : ℕ) (link : Link) → 0 < left → Some link ≡ link_at links number → walked links left number ≡ link.seq ∷ walked links (left - 1) link.back
walked_step links left number link some is =
    let e : left ≡ suc (left - 1) = omega arith in
    ap (λ (count : ℕ). walked links count number) e ∙ ap (λ (found : Option Link). walk_on found (λ (back : ℕ). walked links (left - 1) back)) (sym is)
