-- The stores of two tools that are told of one event.
use Rattle.std.specs.Prelude.{◌-◌, ◌==◌, ◌||◌, ◌++◌, ◌≤◌, Bool, false, List, [], ◌∷◌, length, drop, IfSome, if◌then◌else◌}
use Rattle.ompt_calls.specs.declared.snapshot.Target.{Target}
use Rattle.ompt_calls.specs.declared.snapshot.Target.TheVariants as target
use Rattle.ompt_calls.specs.declared.snapshot.Snapshot.{Snapshot}
use Rattle.ompt_calls.specs.declared.reply.Reply.{Reply}
use Rattle.ompt_calls.specs.Snapshot.{Stored, stores_of}

-- two names of one word
abbrev pub same_target : Target → Target → Bool
same_target (target.Thread a) (target.Thread b) = a == b
same_target (target.Thread a) (target.Parallel b) = false
same_target (target.Thread a) (target.Task b) = false
same_target (target.Parallel a) (target.Thread b) = false
same_target (target.Parallel a) (target.Parallel b) = a == b
same_target (target.Parallel a) (target.Task b) = false
same_target (target.Task a) (target.Thread b) = false
same_target (target.Task a) (target.Parallel b) = false
same_target (target.Task a) (target.Task b) = a == b

-- some of these stores goes to this word
abbrev pub occurs : Target → List Stored → Bool
occurs word [] = false
occurs word (store ∷ rest) = same_target word store.target || occurs word rest

-- without each store whose word occurs later
abbrev pub without_later : List Stored → List Stored
without_later [] = []
without_later (store ∷ rest) = if occurs store.target rest then without_later rest else store ∷ without_later rest

-- the last three: an event has at most three stores
abbrev pub last_three : List Stored → List Stored
last_three stores = drop (length stores - 3) stores

-- what counts of these stores
abbrev pub counting_stores : List Stored → List Stored
counting_stores stores = last_three (without_later stores)

-- what counts of the stores of a first tool and of a second one: where both store into one word, the second's
abbrev pub both_stores : List Stored → List Stored → List Stored
both_stores first second = counting_stores (first ++ second)

-- the stores of a reply stand at its front, and each place is there
pub record IsPacked (reply : Reply) (snapshot : Snapshot) : Type 0 where
  pub first : IfSome reply.first (λ store. 1 ≤ length (stores_of reply snapshot))
  pub second : IfSome reply.second (λ store. 2 ≤ length (stores_of reply snapshot))
  pub third : IfSome reply.third (λ store. 3 ≤ length (stores_of reply snapshot))
