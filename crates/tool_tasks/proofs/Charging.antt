-- The links after a charged event.
use Rattle.std.proofs.Common.{◌≡◌, ℕ, ◌||◌, ◌⊎◌, Bool, true, false, BTreeMap, List, [], ◌∷◌, ◌++◌, Option, Some, None, refl, sym, ◌∙◌, ap, subst, inl, inr}
use Rattle.std.specs.Prelude.{is_some}
use Rattle.std.specs.BTreeMap.{get}
use Rattle.std.specs.Ordering.{nat_cmp}
use Rattle.std.proofs.lemmas.Bool.{eq-eqb}
use Rattle.ompt_calls.specs.declared.event.EventRecord.{EventRecord}
use Rattle.tool_tasks.specs.declared.key.Key.{Key}
use Rattle.tool_tasks.specs.declared.key.Key.TheVariants.{Next, Begun, Left, Created, Child, Ended, Wait}
use Rattle.tool_tasks.specs.declared.reaches.Link.{Link}
use Rattle.tool_tasks.specs.declared.reaches.Reach.{Reach}
use Rattle.tool_tasks.specs.declared.reaches.Reaches.{Reaches}
use Rattle.tool_tasks.specs.Keys.{gives, has_key, is_key, same_key, with_three}
use Rattle.tool_tasks.specs.Reaching.{is_charged}
use Rattle.tool_tasks.specs.Holding.{Adds, Ends, EndsFor, EndsIn, HoldsEnds, HoldsReaches, IsWalk, number_of}
use Rattle.tool_tasks.proofs.Giving.{IsCharged, after_charge, keys_given, keys_taken}
use Rattle.tool_tasks.proofs.Walks.{IsStep, ends_on_links, ends_on_past, step, walk_on_links, walk_on_past}

key_self : (key : Key) → same_key key key ≡ true
key_self (Next task n) = rw (eq-eqb task task refl, eq-eqb n n refl) refl
key_self (Begun region) = eq-eqb region region refl
key_self (Left region) = eq-eqb region region refl
key_self (Created task) = eq-eqb task task refl
key_self (Child parent) = eq-eqb parent parent refl
key_self (Ended region) = eq-eqb region region refl
key_self (Wait region n) = rw (eq-eqb region region refl, eq-eqb n n refl) refl

or_right : (a b : Bool) → b ≡ true → (a || b) ≡ true
or_right true b is = refl
or_right false b is = is

found : (key : Key) (other : Option Key) → other ≡ Some key → is_key key other ≡ true
found key other is = ap (is_key key) is ∙ key_self key

or_left : (a b : Bool) → a ≡ true → (a || b) ≡ true
or_left true b is = refl
or_left false b is = absurd (cc)

-- the links once an event was charged
pub record AddsLinks (old mid new : Reaches) (event : EventRecord) (next : Option Key) (taken : Option Key × Option Key) (given : Option Key × Option Key × Option Key) (own : Key) (reach : Reach) : Type 0 where
  pub adds : Adds old mid event.seq next taken reach
  pub bests : mid.bests ≡ old.bests
  pub links : new.links.items ≡ mid.links.items
  pub greatest : new.greatest ≡ mid.greatest
  pub ends : (links : List Link) (past : List EventRecord) → HoldsEnds links past mid.bests → Ends links past own reach → EndsFor links past given.0 reach
      → EndsFor links past given.1 reach → EndsFor links past given.2 reach → HoldsEnds links past new.bests

pub after_links : (old mid new : Reaches) (past : List EventRecord) (event : EventRecord) (task n : ℕ) (next : Option Key) (taken : Option Key × Option Key) (given : Option Key × Option Key × Option Key) (reach : Reach)
    → IsCharged old new past event task n reach.length next taken given → AddsLinks old mid new event next taken given (Next task n) reach
    → HoldsReaches old past → HoldsReaches new (event ∷ past)
after_links old mid new past event task n next taken given reach is adds holds = record {
  bests = (after_charge old new past event task n reach.length next taken given is holds).bests;
  span = (after_charge old new past event task n reach.length next taken given is holds).span;
  ends = subst (λ (links : List Link). HoldsEnds links (event ∷ past) new.bests) (sym adds.links) all_ends;
  walk = subst (λ (links : List Link). IsWalk links (event ∷ past) new.greatest) (sym adds.links)
      (subst (IsWalk mid.links.items (event ∷ past)) (sym adds.greatest) (by-greatest adds.adds.greatest_is));
}
  where
    charged : is_charged past event ≡ true
    charged = ap is_some is.charged

    now : IsStep mid.links.items past event reach
    now = step old mid past event next taken reach adds.adds holds.ends is.next_short is.first_short is.second_short (keys_taken old new past event task n reach.length next taken given is) (ap is_some is.charged)

    own : (key : Key) → has_key key (gives past event) ≡ true → Ends mid.links.items (event ∷ past) key reach
    own key has =
        let at : IsStep mid.links.items past event reach =
        step old mid past event next taken reach adds.adds holds.ends is.next_short is.first_short is.second_short (keys_taken old new past event task n reach.length next taken given is) (ap is_some is.charged) in
        record {
          newer = [];
          event = event;
          before = past;
          past_is = refl;
          charged = ap is_some is.charged;
          given = has;
          rest = at.rest;
          walked_is = at.walked_is;
          walk = at.walk;
        }

    given_has : (key : Key) → has_key key (with_three (Some (Next task n)) given) ≡ true → has_key key (gives past event) ≡ true
    given_has key has = subst (λ (keys : List (Option Key)). has_key key keys ≡ true) (keys_given old new past event task n reach.length next taken given is) has

    own_for : (key : Option Key) → ((k : Key) → key ≡ Some k → Ends mid.links.items (event ∷ past) k reach) → EndsFor mid.links.items (event ∷ past) key reach
    own_for None each = tt
    own_for (Some key) each = each key refl

    old_ends : HoldsEnds mid.links.items (event ∷ past) mid.bests
    old_ends key short =
        subst (λ (bests : BTreeMap ℕ Reach). EndsIn mid.links.items (event ∷ past) key (get nat_cmp bests (number_of key))) (sym adds.bests)
        (subst (λ (links : List Link). EndsIn links (event ∷ past) key (get nat_cmp old.bests (number_of key))) (sym adds.adds.links_are)
        (ends_on_past (old.links.items ++ (record { seq = event.seq; back = adds.adds.before.link }) ∷ []) past event key (get nat_cmp old.bests (number_of key))
        (ends_on_links old.links.items ((record { seq = event.seq; back = adds.adds.before.link }) ∷ []) past key (get nat_cmp old.bests (number_of key)) (holds.ends key short))))

    all_ends : HoldsEnds mid.links.items (event ∷ past) new.bests
    all_ends =
        adds.ends mid.links.items (event ∷ past) old_ends
        (own (Next task n) (given_has (Next task n) (or_left (is_key (Next task n) (Some (Next task n))) _ (found (Next task n) (Some (Next task n)) refl))))
        (own_for given.0 (λ k same. own k (given_has k (or_right (is_key k (Some (Next task n))) _ (or_left (is_key k given.0) _ (found k given.0 same))))))
        (own_for given.1 (λ k same. own k (given_has k (or_right (is_key k (Some (Next task n))) _ (or_right (is_key k given.0) _ (or_left (is_key k given.1) _ (found k given.1 same)))))))
        (own_for given.2 (λ k same. own k (given_has k (or_right (is_key k (Some (Next task n))) _ (or_right (is_key k given.0) _ (or_right (is_key k given.1) _ (or_left (is_key k given.2) _ (found k given.2 same))))))))

    by-greatest : (mid.greatest ≡ old.greatest) ⊎ (mid.greatest ≡ reach) → IsWalk mid.links.items (event ∷ past) mid.greatest
    by-greatest (inl same) =
        subst (IsWalk mid.links.items (event ∷ past)) (sym same)
        (subst (λ (links : List Link). IsWalk links (event ∷ past) old.greatest) (sym adds.adds.links_are)
        (walk_on_past (old.links.items ++ (record { seq = event.seq; back = adds.adds.before.link }) ∷ []) past event old.greatest
        (walk_on_links old.links.items ((record { seq = event.seq; back = adds.adds.before.link }) ∷ []) past old.greatest holds.walk)))
    by-greatest (inr same) = subst (IsWalk mid.links.items (event ∷ past)) (sym same) now.walk
