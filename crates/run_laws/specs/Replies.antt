-- What is stored in a history: before its first turn, and after each turn and each return of a callback.
use Rattle.std.specs.Prelude.{ℕ, List, [], ◌∷◌}
use Rattle.ompt_calls.specs.declared.snapshot.Target.{Target}
use Rattle.omp_model.specs.declared.history.Entry.{Entry}
use Rattle.omp_model.specs.declared.history.What.{What}
use Rattle.omp_model.specs.declared.history.What.TheVariants.{Back, Go, Put}

-- a word that is stored into, and what is stored
abbrev pub Reply : Type 0
Reply = Target × ℕ

-- what is stored before the first turn or return, and after each
pub record Replies : Type 0 where
  pub before : List Reply
  pub after : List (List Reply)

abbrev pub with_entry : What → Replies → Replies
with_entry Go replies = record { before = []; after = replies.before ∷ replies.after }
with_entry (Put target word) replies = record replies { before = (target, word) ∷ replies.before }
with_entry Back replies = record { before = []; after = replies.before ∷ replies.after }

abbrev pub replies_of : List Entry → Replies
replies_of [] = record { before = []; after = [] }
replies_of (entry ∷ rest) = with_entry entry.what (replies_of rest)
