-- Guests are handed out to threads, and taken back.
use Rattle.std.proofs.Common.{◌≡◌, ℕ, zero, suc, ◌<◌, ◌≤◌, ◌↔◌, Bool, List, [], ◌∷◌, ◌++◌, length, slice_index_or, refl, sym, ap, subst, arith}
use Rattle.std.proofs.lemmas.List.{nil_from_length}
use Rattle.tool_api.specs.declared.handed.Handed.TheVariants as held
use Rattle.tool_api.specs.{Record.QuietFor, declared.quiet.Quiet.Quiet}
use Rattle.team_run.specs.Serving.{AreSame, RunsParts, called_for, record_of_first}
use Rattle.ompt_cli.specs.Names.{Record, StartedWith, StoresNothing, HandedFor, SameHanded, Handed, Cause, Entry, Run, heard_of}
use Rattle.ompt_cli.proofs.Keeping.{is-at, part-at, record_at, nothing_called, silent-each}
use Rattle.ompt_cli.specs.Guests.{GuestsServe, HandOut, guests_of}

module _ {G : Type 0} {B : Type 0} (box : G → B) where
  -- one part more
  pub handed-more : (queue : List B) (parts : List (Handed G)) (between : List B) (part : Handed G) (rest : List B) → HandOut box queue parts between → HandOut box between (part ∷ []) rest → HandOut box queue (parts ++ part ∷ []) rest
  handed-more queue [] between part rest out more = subst (λ queue. HandOut box queue (part ∷ []) rest) (sym out) more
  handed-more [] (held.Guest guest ∷ parts) between part rest out more = absurd out
  handed-more (b ∷ queue) (held.Guest guest ∷ parts) between part rest out more = (out.0, handed-more queue parts between part rest out.1 more)
  handed-more [] (held.Quiet quiet ∷ parts) between part rest out more = handed-more [] parts between part rest out more
  handed-more (b ∷ queue) (held.Quiet quiet ∷ parts) between part rest out more = absurd out

  -- the guests of one part more
  pub guests-more : (parts : List (Handed G)) (part : Handed G) → guests_of box (parts ++ part ∷ []) ≡ guests_of box parts ++ guests_of box (part ∷ [])
  guests-more [] part = refl
  guests-more (held.Guest guest ∷ parts) part = ap (λ guests. box guest ∷ guests) (guests-more parts part)
  guests-more (held.Quiet quiet ∷ parts) part = guests-more parts part

-- the first of two lists of the same parts, and those after it
same-head : {P : Type 0} (Same : P → P → Type 0) (x y : P) (xs ys : List P) → AreSame Same (x ∷ xs) (y ∷ ys) → Same x y
same-head Same x y xs ys same = same.each 0 x (omega arith)

same-tail : {P : Type 0} (Same : P → P → Type 0) (x y : P) (xs ys : List P) → AreSame Same (x ∷ xs) (y ∷ ys) → AreSame Same xs ys
same-tail Same x y xs ys same = record { each = λ k d below. same.each (suc k) d (omega (arith, below)) }

module _ {G : Type 0} {B : Type 0} (box : G → B) (stands : B → Record → Type 0) (Same : B → B → Type 0) where
  -- two parts that are the same: that hold the same guest, or none
  abbrev pub SamePart : Handed G → Handed G → Type 0
  SamePart part other = SameHanded (λ guest after. Same (box guest) (box after)) part other

  -- what a part stands for: what its guest does
  abbrev pub For : Handed G → Record → Type 0
  For part h = HandedFor (λ guest h. stands (box guest) h) part h

  -- the part of a guest stands for what the guest does
  pub guest-at : (guests : List B) (parts : List (Handed G)) (rest : List B) → HandOut box guests parts rest → (k : ℕ) (d : B) (e : Handed G) (h : Record) → k < length parts → k < length guests → stands (slice_index_or guests k d) h ↔ For (slice_index_or parts k e) h
  guest-at guests [] rest out k d e h below some = absurd (omega (arith, below))
  guest-at [] (p ∷ parts) rest out k d e h below some = absurd (omega (arith, some))
  guest-at (b ∷ guests) (held.Quiet q ∷ parts) rest out k d e h below some = absurd out
  guest-at (b ∷ guests) (held.Guest g ∷ parts) rest out zero d e h below some = (λ for. subst (λ (b : B). stands b h) (sym out.0) for, λ for. subst (λ (b : B). stands b h) out.0 for)
  guest-at (b ∷ guests) (held.Guest g ∷ parts) rest out (suc k) d e h below some = guest-at guests parts rest out.1 k d e h (omega (arith, below)) (omega (arith, some))

  -- the part of a thread past the guests is none
  pub none-at : (guests : List B) (parts : List (Handed G)) (rest : List B) → HandOut box guests parts rest → (k : ℕ) (e : Handed G) → length guests ≤ k → k < length parts → (quiet : Quiet) × (slice_index_or parts k e ≡ held.Quiet quiet)
  none-at guests [] rest out k e past below = absurd (omega (arith, below))
  none-at [] (held.Guest g ∷ parts) rest out k e past below = absurd out
  none-at [] (held.Quiet q ∷ parts) rest out zero e past below = (q, refl)
  none-at [] (held.Quiet q ∷ parts) rest out (suc k) e past below = none-at [] parts rest out k e (omega arith) (omega (arith, below))
  none-at (b ∷ guests) (held.Quiet q ∷ parts) rest out k e past below = absurd out
  none-at (b ∷ guests) (held.Guest g ∷ parts) rest out zero e past below = absurd (omega (arith, past))
  none-at (b ∷ guests) (held.Guest g ∷ parts) rest out (suc k) e past below = none-at guests parts rest out.1 k e (omega (arith, past)) (omega (arith, below))

  pub fresh-quiet : (quiet : Quiet) → QuietFor quiet nothing_called
  fresh-quiet quiet = record { started = λ k d below. absurd (omega (arith, below)); silent = λ k d below. absurd (omega (arith, below)); heard = refl; alone = refl }

  -- it stands for no calls before a run, and after it for calls alone that stored nothing
  pub none-in : (guests : List B) (parts : List (Handed G)) (rest : List B) → HandOut box guests parts rest → (k : ℕ) (e : Handed G) → length guests ≤ k → k < length parts → For (slice_index_or parts k e) nothing_called
  none-in guests parts rest out k e past below = let none = none-at guests parts rest out k e past below in rw none.1 (fresh-quiet none.0)

  pub none-out : (guests : List B) (parts : List (Handed G)) (rest : List B) → HandOut box guests parts rest → (k : ℕ) (e : Handed G) (h : Record) → length guests ≤ k → k < length parts → For (slice_index_or parts k e) h → StoresNothing h.calls
  none-out guests parts rest out k e h past below for = let none = none-at guests parts rest out k e past below in (subst (λ (part : Handed G). For part h) none.1 for).silent

  -- Parts that stay what they are hold as many guests afterwards, each the tool that it was. Those past the parts are as they were
  pub record IsAgain (guests : List B) (parts after : List (Handed G)) (rest : List B) : Type 0 where
    pub out : HandOut box (guests_of box after ++ rest) after rest
    pub as_many : length (guests_of box after ++ rest) ≡ length guests
    pub past : (k : ℕ) (d : B) → length parts ≤ k → slice_index_or (guests_of box after ++ rest) k d ≡ slice_index_or guests k d
    pub same : (k : ℕ) (d : B) → k < length guests → Same (slice_index_or guests k d) (slice_index_or (guests_of box after ++ rest) k d)

  pub again : ((guest : B) → Same guest guest) → (guests : List B) (parts after : List (Handed G)) (rest : List B) → HandOut box guests parts rest → length after ≡ length parts → AreSame SamePart parts after → IsAgain guests parts after rest
  again itself guests [] [] rest out many kinds =
      let held_is : (k : ℕ) (d : B) → Same (slice_index_or guests k d) (slice_index_or rest k d) = λ k d. subst (λ list. Same (slice_index_or guests k d) (slice_index_or list k d)) out (itself (slice_index_or guests k d)) in
      record { out = refl; as_many = ap length (sym out); past = λ k d past. ap (λ list. slice_index_or list k d) (sym out); same = λ k d below. held_is k d }
  again itself guests [] (a ∷ after) rest out many kinds = absurd (omega (arith, many))
  again itself guests (p ∷ parts) [] rest out many kinds = absurd (omega (arith, many))
  again itself [] (held.Guest g ∷ parts) (a ∷ after) rest out many kinds = absurd out
  again itself (b ∷ guests) (held.Quiet q ∷ parts) (a ∷ after) rest out many kinds = absurd out
  again itself [] (held.Quiet q ∷ parts) (held.Guest a ∷ after) rest out many kinds = absurd (same-head SamePart (held.Quiet q) (held.Guest a) parts after kinds)
  again itself (b ∷ guests) (held.Guest g ∷ parts) (held.Quiet a ∷ after) rest out many kinds = absurd (same-head SamePart (held.Guest g) (held.Quiet a) parts after kinds)
  again itself [] (held.Quiet q ∷ parts) (held.Quiet a ∷ after) rest out many kinds =
      let more = again itself [] parts after rest out (omega (arith, many)) (same-tail SamePart (held.Quiet q) (held.Quiet a) parts after kinds) in
      let none : guests_of box after ++ rest ≡ [] = nil_from_length (guests_of box after ++ rest) more.as_many in
      record { out = rw none (rw none at more.out); as_many = more.as_many; past = λ k d past. rw none; same = λ k d below. absurd (omega (arith, below)) }
  again itself (b ∷ guests) (held.Guest g ∷ parts) (held.Guest a ∷ after) rest out many kinds =
      let more = again itself guests parts after rest out.1 (omega (arith, many)) (same-tail SamePart (held.Guest g) (held.Guest a) parts after kinds) in
      let first = subst (λ b. Same b (box a)) out.0 (same-head SamePart (held.Guest g) (held.Guest a) parts after kinds) in record {
        out = (refl, more.out);
        as_many = ap suc more.as_many;
        past = elim [ zero ↦ λ d past. absurd (omega (arith, past)) | suc k ↦ λ d past. more.past k d (omega (arith, past)) ];
        same = elim [ zero ↦ λ d below. first | suc k ↦ λ d below. more.same k d (omega (arith, below)) ];
      }

  -- a part without a guest answers 0
  quiet-answer : (answer registered : ℕ) (g : Record) (quiet : Quiet) → g.started ≡ record { answer = answer; mask = registered } ∷ [] → QuietFor quiet g → answer ≡ 0
  quiet-answer answer registered g quiet started for = ((subst (λ starts. StartedWith 0 0 starts) started for.started) 0 (record { answer = 0; mask = 0 }) (omega arith)).0

  -- so the guests stand for what their threads heard
  pub guests-serve : ((guest : B) → Same guest guest) → (serial : Bool) (run : Run) (cause : Cause) (H : List Entry) (guests : List B) (parts after : List (Handed G)) (rest : List B) → 1 ≤ run.threads → length parts ≡ run.threads → HandOut box guests parts rest → AreSame SamePart parts after → RunsParts For serial run cause H parts after → GuestsServe stands Same serial run cause H guests (guests_of box after ++ rest)
  guests-serve itself serial run cause H guests [] after rest some each out kinds runs = absurd (omega (arith, some, each))
  guests-serve itself serial run cause H guests (p ∷ parts) after rest some each out kinds runs =
      let back = again itself guests (p ∷ parts) after rest out runs.as_many kinds in
      let guest-in = guest-at guests (p ∷ parts) rest out in
      let guest-out = guest-at (guests_of box after ++ rest) after rest back.out in
      let nothing-at : (k : ℕ) → length guests ≤ k → k < run.threads → For (slice_index_or after k p) (record_at runs.answer runs.registered k (heard_of run H k) (runs.unheard k) nothing_called) =
      λ k past below. part-at For serial run cause H (p ∷ parts) after runs k (omega (arith, below, each)) p nothing_called (none-in guests (p ∷ parts) rest out k p past (omega (arith, below, each))) in
      record {
        as_many = back.as_many;
        answer = runs.answer;
        registered = runs.registered;
        mask_is = runs.mask_is;
        nobody = λ none.
            let quiet = none-at (guests_of box after ++ rest) after rest back.out 0 p (omega (arith, none, back.as_many)) (omega (arith, some, each, runs.as_many)) in
            quiet-answer runs.answer runs.registered _ quiet.0 (is-at runs.answer runs.registered 0 (heard_of run H 0) (runs.unheard 0) nothing_called).started (rw quiet.1 at (nothing-at 0 (omega (arith, none)) some));
        first = λ more d h for. (guest-out 0 d p (record_of_first runs.answer runs.registered (heard_of run H 0) (runs.unheard 0) h) (omega (arith, some, each, runs.as_many)) (omega (arith, more, back.as_many))).1
            (runs.first p h ((guest-in 0 d p h (omega arith) more).0 for));
        others = λ k past below more d h for. (guest-out k d p (called_for (heard_of run H k) (runs.unheard k) h) (omega (arith, below, each, runs.as_many)) (omega (arith, more, back.as_many))).1
            (runs.each k past (omega (arith, below, each)) p h ((guest-in k d p h (omega (arith, below, each)) more).0 for));
        unheard = runs.unheard;
        are_unheard = runs.are_unheard;
        all_heard = runs.all_heard;
        same_types = back.same;
        guestless = λ k past below. silent-each (heard_of run H k) (subst StoresNothing (is-at runs.answer runs.registered k (heard_of run H k) (runs.unheard k) nothing_called).calls
            (none-out (guests_of box after ++ rest) after rest back.out k p _ (omega (arith, past, back.as_many)) (omega (arith, below, each, runs.as_many)) (nothing-at k past below)));
        rest = λ k d past. back.past k d (omega (arith, past, each));
      }
