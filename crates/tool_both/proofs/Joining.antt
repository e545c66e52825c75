-- The record of both goes with those of the two tools.
use Rattle.std.proofs.Common.{◌≡◌, ◌≢◌, ℕ, ◌≤◌, ◌+◌, ◌++◌, suc, Bool, true, false, List, [], ◌∷◌, length, All, refl, sym, subst, arith, length-append, append-nil}
use Rattle.std.specs.Prelude.{Result, Ok, Err, OnErr}
use Rattle.std.proofs.lemmas.List.Elements.{All-append, All-cons, All-nil}
use Rattle.ompt_calls.specs.Item.{Item}
use Rattle.ompt_calls.specs.Snapshot.{Stored}
use Rattle.tool_api.specs.Record.{Record, Start, initialized, told, one_unheard, finalized}
use Rattle.tool_both.specs.declared.masks.Masks.{Masks}
use Rattle.tool_both.specs.BothStores.{both_stores}
use Rattle.tool_both.specs.Joined.{hears, own, StoresOf, IsSplit, IsHeard, joint_mask, joint_answer, AreOwn, Joins, BothFor}
use Rattle.tool_both.proofs.Ends.{finalized_by, finished-beside, finished-broken, finished-told, finished-ended}
use Rattle.tool_both.proofs.Splits.{split_more, own_of_split, counted}

-- the record after an item, where it is heard
abbrev pub heard_by : Bool → Record → Item → Record
heard_by true h item = told h item
heard_by false h item = h

calls-of : (heard : Bool) (h : Record) (item : Item) (s : List Stored) → (heard_by heard h (record item { stores = s })).calls ≡ h.calls ++ own heard item s
calls-of true h item s = refl
calls-of false h item s = sym (append-nil h.calls)

started-of : (heard : Bool) (h : Record) (item : Item) → (heard_by heard h item).started ≡ h.started
started-of true h item = refl
started-of false h item = refl

finished-of : (heard : Bool) (h : Record) (item : Item) → (heard_by heard h item).finished ≡ h.finished
finished-of true h item = refl
finished-of false h item = refl

unheard-of : (heard : Bool) (h : Record) (item : Item) → (heard_by heard h item).unheard ≡ h.unheard
unheard-of true h item = refl
unheard-of false h item = refl

-- what was inside stays there
inside-more : (h : Record) (item : Item) → All (λ (c : ℕ). c ≤ length h.calls) h.finished → All (λ (c : ℕ). c ≤ length (h.calls ++ item ∷ [])) h.finished
inside-more h item inside k d below = let before = inside k d below in simp length-append (omega arith)

-- both are told of an item
joins-told : (masks : Masks) (first second h : Record) (item : Item) (s t : List Stored)
    → StoresOf (hears masks.first item) s → StoresOf (hears masks.second item) t → item.stores ≡ both_stores s t → Joins masks true first second h
    → Joins masks true (heard_by (hears masks.first item) first (record item { stores = s })) (heard_by (hears masks.second item) second (record item { stores = t })) (told h item)
joins-told masks first second h item s t of_first of_second stores joins =
    let a = hears masks.first item in
    let b = hears masks.second item in
    let x : Item = record item { stores = s } in
    let y : Item = record item { stores = t } in
    record {
      heard = rw (calls-of a first item s, calls-of b second item t) (split_more masks.first masks.second h.calls first.calls second.calls item s t joins.heard of_first of_second stores);
      started = joins.started;
      within = rw (started-of a first x, started-of b second y) joins.within;
      first_finished = rw (finished-of a first x) (finished-told masks.first_answer masks.first true h item first.finished joins.inside joins.first_finished);
      second_finished = rw (finished-of b second y) (finished-told masks.second_answer masks.second true h item second.finished joins.inside joins.second_finished);
      inside = inside-more h item joins.inside;
      unheard = rw (unheard-of a first x, unheard-of b second y) joins.unheard;
      broken = joins.broken;
    }

pub both-told : {A B : Type 0} (FA : A → Record → Type 0) (FB : B → Record → Type 0) (a new_a : A) (b new_b : B) (masks : Masks) (whole new_whole : Bool) (item : Item)
    (s t : List Stored) (x y : Bool) → whole ≡ true → new_whole ≡ true → hears masks.first item ≡ x → hears masks.second item ≡ y
    → ((r : Record) → FA a r → FA new_a (heard_by x r (record item { stores = s }))) → ((r : Record) → FB b r → FB new_b (heard_by y r (record item { stores = t })))
    → StoresOf x s → StoresOf y t → item.stores ≡ both_stores s t
    → (h : Record) → BothFor FA FB a b masks whole h → BothFor FA FB new_a new_b masks new_whole (told h item)
both-told FA FB a new_a b new_b masks whole new_whole item s t x y is_whole stays hears_x hears_y by_first by_second of_first of_second stores h both =
    let joined = rw is_whole at both.joins in
    let told_joined = joins-told masks both.first both.second h item s t (rw hears_x of_first) (rw hears_y of_second) stores joined in
    record {
      first = heard_by x both.first (record item { stores = s });
      second = heard_by y both.second (record item { stores = t });
      is_first = by_first both.first both.is_first;
      is_second = by_second both.second both.is_second;
      joins = rw stays (rw (hears_x, hears_y) at told_joined);
    }

-- neither was told
pub both-silent : {A B : Type 0} (FA : A → Record → Type 0) (FB : B → Record → Type 0) (a : A) (b : B) (masks : Masks) (whole : Bool)
    (h : Record) → BothFor FA FB a b masks whole h → BothFor FA FB a b masks whole (one_unheard h)
both-silent FA FB a b masks whole h both =
    let joins = both.joins in
    record {
      first = both.first;
      second = both.second;
      is_first = both.is_first;
      is_second = both.is_second;
      joins = record {
        heard = joins.heard;
        started = joins.started;
        within = joins.within;
        first_finished = finished-beside masks.first_answer masks.first whole h both.first.finished h.started (h.unheard + 1) joins.first_finished;
        second_finished = finished-beside masks.second_answer masks.second whole h both.second.finished h.started (h.unheard + 1) joins.second_finished;
        inside = joins.inside;
        unheard = omega arith;
        broken = λ (broken : whole ≡ false). omega arith;
      };
    }

-- the first one found no memory
pub first-lost : {A B : Type 0} (FA : A → Record → Type 0) (FB : B → Record → Type 0) (a new_a : A) (b : B) (masks : Masks) (whole : Bool)
    → ((r : Record) → FA a r → FA new_a (one_unheard r)) → (h : Record) → BothFor FA FB a b masks whole h → BothFor FA FB new_a b masks whole (one_unheard h)
first-lost FA FB a new_a b masks whole by_first h both =
    let joins = both.joins in
    record {
      first = one_unheard both.first;
      second = both.second;
      is_first = by_first both.first both.is_first;
      is_second = both.is_second;
      joins = record {
        heard = joins.heard;
        started = joins.started;
        within = joins.within;
        first_finished = finished-beside masks.first_answer masks.first whole h both.first.finished h.started (h.unheard + 1) joins.first_finished;
        second_finished = finished-beside masks.second_answer masks.second whole h both.second.finished h.started (h.unheard + 1) joins.second_finished;
        inside = joins.inside;
        unheard = omega arith;
        broken = λ (broken : whole ≡ false). omega arith;
      };
    }

-- the second one found no memory, where the first one didn't hear
pub second-lost : {A B : Type 0} (FA : A → Record → Type 0) (FB : B → Record → Type 0) (a : A) (b new_b : B) (masks : Masks) (whole : Bool)
    → ((r : Record) → FB b r → FB new_b (one_unheard r)) → (h : Record) → BothFor FA FB a b masks whole h → BothFor FA FB a new_b masks whole (one_unheard h)
second-lost FA FB a b new_b masks whole by_second h both =
    let joins = both.joins in
    record {
      first = both.first;
      second = one_unheard both.second;
      is_first = both.is_first;
      is_second = by_second both.second both.is_second;
      joins = record {
        heard = joins.heard;
        started = joins.started;
        within = joins.within;
        first_finished = finished-beside masks.first_answer masks.first whole h both.first.finished h.started (h.unheard + 1) joins.first_finished;
        second_finished = finished-beside masks.second_answer masks.second whole h both.second.finished h.started (h.unheard + 1) joins.second_finished;
        inside = joins.inside;
        unheard = omega arith;
        broken = λ (broken : whole ≡ false). omega arith;
      };
    }

-- the first one heard, and the second one found no memory
pub both-broken : {A B : Type 0} (FA : A → Record → Type 0) (FB : B → Record → Type 0) (a new_a : A) (b new_b : B) (masks : Masks) (whole new_whole : Bool) (item : Item)
    → whole ≡ true → new_whole ≡ false
    → ((r : Record) → FA a r → FA new_a (told r item)) → ((r : Record) → FB b r → FB new_b (one_unheard r))
    → (h : Record) → BothFor FA FB a b masks whole h → BothFor FA FB new_a new_b masks new_whole (one_unheard h)
both-broken FA FB a new_a b new_b masks whole new_whole item is_whole breaks by_first by_second h both =
    let joins = both.joins in
    let split : IsSplit masks.first masks.second h.calls both.first.calls both.second.calls = subst (λ (w : Bool). IsHeard w masks.first masks.second h.calls both.first.calls both.second.calls) is_whole joins.heard in
    let joined : Joins masks false (told both.first item) (one_unheard both.second) (one_unheard h) = record {
      heard = (both.first.calls, item, refl, split);
      started = joins.started;
      within = joins.within;
      first_finished = finished-broken masks.first_answer masks.first whole h both.first.finished joins.first_finished;
      second_finished = finished-broken masks.second_answer masks.second whole h both.second.finished joins.second_finished;
      inside = joins.inside;
      unheard = omega arith;
      broken = λ (broken : false ≡ false). omega arith;
    } in
    record {
      first = told both.first item;
      second = one_unheard both.second;
      is_first = by_first both.first both.is_first;
      is_second = by_second both.second both.is_second;
      joins = subst (λ (w : Bool). Joins masks w (told both.first item) (one_unheard both.second) (one_unheard h)) (sym breaks) joined;
    }

-- both are started by one answer
pub both-started : {A B : Type 0} (FA : A → Record → Type 0) (FB : B → Record → Type 0) (a : A) (b : B) (masks : Masks) (whole : Bool) (answer mask : ℕ)
    → answer ≡ joint_answer masks → mask ≡ joint_mask masks → (h : Record) → BothFor FA FB a b masks whole h → BothFor FA FB a b masks whole (initialized h answer mask)
both-started FA FB a b masks whole answer mask answers registers h both =
    let joins = both.joins in
    let more = h.started ++ record { answer = answer; mask = mask } ∷ [] in
    record {
      first = both.first;
      second = both.second;
      is_first = both.is_first;
      is_second = both.is_second;
      joins = record {
        heard = joins.heard;
        started = All-append (λ (start : Start). (start.answer ≡ joint_answer masks) × (start.mask ≡ joint_mask masks)) h.started (record { answer = answer; mask = mask } ∷ []) joins.started
            (All-cons (λ (start : Start). (start.answer ≡ joint_answer masks) × (start.mask ≡ joint_mask masks)) (record { answer = answer; mask = mask }) [] (answers, registers)
            (All-nil (λ (start : Start). (start.answer ≡ joint_answer masks) × (start.mask ≡ joint_mask masks))));
        within = joins.within;
        first_finished = finished-beside masks.first_answer masks.first whole h both.first.finished more h.unheard joins.first_finished;
        second_finished = finished-beside masks.second_answer masks.second whole h both.second.finished more h.unheard joins.second_finished;
        inside = joins.inside;
        unheard = joins.unheard;
        broken = joins.broken;
      };
    }

-- each is finished where it is active
finished-unheard : (answer : ℕ) (h : Record) → (finalized_by answer h).unheard ≡ h.unheard
finished-unheard Prim.Native.Nat.zero h = refl
finished-unheard (suc answer) h = refl

finished-started : (answer : ℕ) (h : Record) → (finalized_by answer h).started ≡ h.started
finished-started Prim.Native.Nat.zero h = refl
finished-started (suc answer) h = refl

finished-calls : (answer : ℕ) (h : Record) → (finalized_by answer h).calls ≡ h.calls
finished-calls Prim.Native.Nat.zero h = refl
finished-calls (suc answer) h = refl

pub both-finished : {A B : Type 0} (FA : A → Record → Type 0) (FB : B → Record → Type 0) (a new_a : A) (b new_b : B) (masks : Masks) (whole : Bool)
    → ((r : Record) → FA a r → FA new_a (finalized_by masks.first_answer r)) → ((r : Record) → FB b r → FB new_b (finalized_by masks.second_answer r))
    → (h : Record) → BothFor FA FB a b masks whole h → BothFor FA FB new_a new_b masks whole (finalized h)
both-finished FA FB a new_a b new_b masks whole by_first by_second h both =
    let joins = both.joins in
    record {
      first = finalized_by masks.first_answer both.first;
      second = finalized_by masks.second_answer both.second;
      is_first = by_first both.first both.is_first;
      is_second = by_second both.second both.is_second;
      joins = record {
        heard = rw (finished-calls masks.first_answer both.first, finished-calls masks.second_answer both.second) joins.heard;
        started = joins.started;
        within = rw (finished-started masks.first_answer both.first, finished-started masks.second_answer both.second) joins.within;
        first_finished = finished-ended masks.first_answer masks.first whole h both.first (λ (kept : whole ≡ true). counted masks.first both.first.calls h.calls (owns kept).0) joins.first_finished;
        second_finished = finished-ended masks.second_answer masks.second whole h both.second (λ (kept : whole ≡ true). counted masks.second both.second.calls h.calls (owns kept).1) joins.second_finished;
        inside = All-append (λ (c : ℕ). c ≤ length h.calls) h.finished (length h.calls ∷ []) joins.inside
            (All-cons (λ (c : ℕ). c ≤ length h.calls) (length h.calls) [] (omega arith) (All-nil (λ (c : ℕ). c ≤ length h.calls)));
        unheard = rw (finished-unheard masks.first_answer both.first, finished-unheard masks.second_answer both.second) joins.unheard;
        broken = joins.broken;
      };
    }
  where
    owns : whole ≡ true → AreOwn masks.first both.first.calls h.calls × AreOwn masks.second both.second.calls h.calls
    owns kept = own_of_split masks.first masks.second h.calls both.first.calls both.second.calls
        (subst (λ (w : Bool). IsHeard w masks.first masks.second h.calls both.first.calls both.second.calls) kept both.joins.heard)

-- what holds anyway holds of an error
pub on-err : {A E : Type 0} {P : Type 0} (result : Result A E) → P → OnErr result P
on-err (Ok value) holds = tt
on-err (Err fault) holds = holds

-- a tool that is finished where it is active, and stays where it isn't
pub active-end : {A : Type 0} (FA : A → Record → Type 0) (a new_a : A) (answer : ℕ) → answer ≢ 0 → ((r : Record) → FA a r → FA new_a (finalized r))
    → (r : Record) → FA a r → FA new_a (finalized_by answer r)
active-end FA a new_a Prim.Native.Nat.zero active ended r stands = absurd (active refl)
active-end FA a new_a (suc answer) active ended r stands = ended r stands

pub inactive-end : {A : Type 0} (FA : A → Record → Type 0) (a : A) (answer : ℕ) → answer ≡ 0 → (r : Record) → FA a r → FA a (finalized_by answer r)
inactive-end FA a answer inactive r stands = rw inactive stands
