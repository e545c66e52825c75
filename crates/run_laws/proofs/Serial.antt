-- Two serial histories to the end in which the same is stored after each turn are the same.
use Rattle.std.proofs.Common.{ℕ, ◌≡◌, List, [], ◌∷◌, Option, Some, None, ap, ap₂, refl, subst, sym, ◌∙◌}
use Rattle.omp_model.specs.declared.history.Entry.{Entry}
use Rattle.omp_model.specs.declared.history.What.{What}
use Rattle.omp_model.specs.declared.history.What.TheVariants.{Back, Go, Put}
use Rattle.omp_model.specs.Legal.{does}
use Rattle.omp_model.specs.Serial.{Follows, Leads, Visit, WholeSerial, moved, onward, onward_from, start}
use Rattle.omp_model.specs.State.{Run}
use Rattle.run_laws.specs.Replies.{Replies, Reply, replies_of, with_entry}

-- an entry
abbrev pub entry_of : ℕ → What → Entry
entry_of t what = record { thread = t; what = what }

-- the thread of an entry, if there is one
abbrev pub thread_in : Option Entry → ℕ
thread_in None = 0
thread_in (Some entry) = entry.thread

-- the state after an entry is that of the visit after it
pub moved-state : (run : Run) (v : Visit) (t : ℕ) (what : What) → does run v.state t what ≡ (moved run v (entry_of t what)).state
moved-state run v t Go = refl
moved-state run v t (Put target word) = refl
moved-state run v t Back = refl

-- where nothing may stand next no thread is inside a callback
pub never-inside : (run : Run) (v : Visit) (t : ℕ) → v.inside ≡ Some t → onward run v ≡ None → ⊥
never-inside run v t inside none = let is : onward_from run v (Some t) ≡ None = subst (λ (inside : Option ℕ). onward_from run v inside ≡ None) inside none in cc

-- so nothing stands there
pub none-follows : (run : Run) (v : Visit) (t : ℕ) (what : What) → onward run v ≡ None → Follows run v t what → ⊥
none-follows run v t Go none is = let wrong = sym none ∙ is in cc
none-follows run v t (Put target word) none is = never-inside run v t is none
none-follows run v t Back none is = let wrong = sym none ∙ is in cc

-- what is stored before the first turn, and after each
before-of : (replies other : Replies) → replies ≡ other → replies.before ≡ other.before
before-of replies other same = ap (λ (one : Replies). one.before) same

-- what is stored from the second on
later-of : (replies other : Replies) → replies.before ∷ replies.after ≡ other.before ∷ other.after → replies ≡ other
later-of replies other same =
    let before : replies.before ≡ other.before = cc in
    let after : replies.after ≡ other.after = cc in
    ap₂ (λ (before : List Reply) (after : List (List Reply)). record { before = before; after = after }) before after

-- what is stored from here on, where this was stored first
rest-of : (reply : Reply) (replies other : Replies) → record replies { before = reply ∷ replies.before } ≡ record other { before = reply ∷ other.before } → replies ≡ other
rest-of reply replies other same =
    let before : reply ∷ replies.before ≡ reply ∷ other.before = before-of _ _ same in
    let after : replies.after ≡ other.after = ap (λ (replies : Replies). replies.after) same in
    let first : replies.before ≡ other.before = cc in
    ap₂ (λ (before : List Reply) (after : List (List Reply)). record { before = before; after = after }) first after

-- a turn and a return are two
abbrev what_of : Option Entry → What
what_of None = Back
what_of (Some entry) = entry.what

pub never-both : (t s : ℕ) → Some (entry_of t Go) ≡ Some (entry_of s Back) → ⊥
never-both t s same = let wrong : Go ≡ Back = ap what_of same in cc

-- the first entries of two such histories
same-first : (run : Run) (v : Visit) (t s : ℕ) (what then_ : What) (rest more : Replies) → Follows run v t what → Follows run v s then_ → with_entry what rest ≡ with_entry then_ more
    → (entry_of t what ≡ entry_of s then_) × (rest ≡ more)
same-first run v t s Go Go rest more one other same = (cc, later-of rest more (ap (λ (replies : Replies). replies.after) same))
same-first run v t s Go Back rest more one other same = absurd (never-both t s (sym one ∙ other))
same-first run v t s Back Go rest more one other same = absurd (never-both s t (sym other ∙ one))
same-first run v t s Back Back rest more one other same = (cc, later-of rest more (ap (λ (replies : Replies). replies.after) same))
same-first run v t s (Put target word) (Put place value) rest more one other same =
    let thread : Some t ≡ Some s = sym one ∙ other in
    let before : (target, word) ∷ rest.before ≡ (place, value) ∷ more.before = before-of _ _ same in
    let reply : (target, word) ≡ (place, value) = cc in
    let target_is : target ≡ place = ap (λ (reply : Reply). reply.0) reply in
    let word_is : word ≡ value = ap (λ (reply : Reply). reply.1) reply in
    (cc, rest-of (place, value) rest more (subst (λ (reply : Reply). record rest { before = reply ∷ rest.before } ≡ record more { before = (place, value) ∷ more.before }) reply same))
same-first run v t s Go (Put place value) rest more one other same = absurd (let before = before-of _ _ same in cc)
same-first run v t s (Put target word) Go rest more one other same = absurd (let before = before-of _ _ same in cc)
same-first run v t s (Put target word) Back rest more one other same = absurd (let before = before-of _ _ same in cc)
same-first run v t s Back (Put place value) rest more one other same = absurd (let before = before-of _ _ same in cc)

same-from : (run : Run) (v last end : Visit) (history other : List Entry) → Leads run v history last → Leads run v other end → onward run last ≡ None → onward run end ≡ None
    → replies_of history ≡ replies_of other → history ≡ other
same-from run v last end [] [] leads more ended none same = refl
same-from run v last end [] (entry ∷ rest) leads more ended none same = absurd (none-follows run v entry.thread entry.what (ap (onward run) leads ∙ ended) more.0)
same-from run v last end (entry ∷ rest) [] leads more ended none same = absurd (none-follows run v entry.thread entry.what (ap (onward run) more ∙ none) leads.0)
same-from run v last end (entry ∷ rest) (next ∷ others) leads more ended none same =
    let first = same-first run v entry.thread next.thread entry.what next.what (replies_of rest) (replies_of others) leads.0 more.0 same in
    let then_ = same-from run (moved run v entry) last end rest others leads.1 (subst (λ (one : Entry). Leads run (moved run v one) others end) (sym first.0) more.1) ended none first.1 in
    ap₂ (λ (one : Entry) (more : List Entry). one ∷ more) first.0 then_

pub one-serial : (run : Run) (history other : List Entry) → WholeSerial run history → WholeSerial run other → replies_of history ≡ replies_of other → history ≡ other
one-serial run history other one more same = same-from run (start run) one.last more.last history other one.in_turn more.in_turn one.ended more.ended same
