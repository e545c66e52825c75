-- What parts stand for after what their threads hear, and once the part of a thread was called.
use Rattle.std.proofs.Common.{◌≡◌, ℕ, ◌<◌, ◌==◌, Bool, true, false, if◌then◌else◌, cond, List, [], ◌∷◌, ◌++◌, filter, length, take, drop, slice_index_or, Option, None, refl, sym, ap, subst, ◌∙◌, append_assoc, append-nil, eq-eqb, arith, slice_set, inl, inr}
use Rattle.std.proofs.lemmas.List.{take_all, drop_all, get_or_default, get_or-set_same, get_or-set_other}
use Rattle.std.proofs.lemmas.{List.Elements.filter-append, Bool.ne_eqb, Bool.Decides.eqb_tells}
use Rattle.team_run.specs.Names.{Item, Record, initialized, told, AreAlways, Entry, Run, heard, heard_of, mask_of}
use Rattle.team_run.specs.Serving.{AreSame, Becomes, ChangesFirst, called_for, served, Serves, OnlyUnheard, told_on, finished_by}
use Rattle.team_run.specs.{declared.ran.Ran.Ran, Program.HaveServed, Program.IsRan, Standing.AreSilent, Standing.HearsSilent, Standing.HearsOwn, Unheard.unheard_on}

-- the items of one thread
abbrev pub on_thread : ℕ → List Item → List Item
on_thread k items = filter (λ (item : Item). item.thread == k) items

-- a record with no more calls
pub served-nil : (h : Record) → served h [] ≡ h
served-nil h = ap (λ calls. record h { calls = calls }) (append-nil h.calls)

-- what a thread has heard where more was heard
pub heard_of-more : (run : Run) (H K : List Entry) (items : List Item) (k : ℕ) → heard run K ≡ heard run H ++ items → heard_of run K k ≡ heard_of run H k ++ on_thread k items
heard_of-more run H K items k more = ap (on_thread k) more ∙ filter-append (λ (item : Item). item.thread == k) (heard run H) items

-- and where nothing more was
pub heard_of-same : (run : Run) (H K : List Entry) (k : ℕ) → heard run K ≡ heard run H → heard_of run K k ≡ heard_of run H k
heard_of-same run H K k same = ap (on_thread k) same

-- the part of the thread is told of one item more, and the others are told of nothing
told_on-served : (t k : ℕ) (h : Record) (items : List Item) (item : Item) → item.thread ≡ t
    → told_on t k item (served h items) ≡ served h (items ++ on_thread k (item ∷ []))
told_on-served t k h items item is =
    subst (λ u. told_on t k item (served h items) ≡ served h (items ++ cond (u == k) (item ∷ []) [])) (sym is)
    (elim (t == k) as (λ b. (if b then told (served h items) item else served h items) ≡ served h (items ++ cond b (item ∷ []) [])) [
      | true ↦ ap (λ calls. record h { calls = calls }) (append_assoc h.calls items (item ∷ []))
      | false ↦ ap (λ more. served h more) (sym (append-nil items))
    ])

module _ {P : Type 0} (stands_for : P → Record → Type 0) (run : Run) where
  -- one step after another
  pub serves-then : (parts between after : List P) (H K L : List Entry) (unheard : Option ℕ) → Serves stands_for run parts H None between K → Serves stands_for run between K unheard after L → Serves stands_for run parts H unheard after L
  serves-then parts between after H K L unheard first second = record {
    as_many = second.as_many ∙ first.as_many;
    each = λ k d h below stands. second.each k d h (subst (λ n. k < n) (sym first.as_many) below) (first.each k d h below stands);
  }

  -- where nothing more is heard, and the parts stand for what they stood for, but for a call that found no memory
  pub serves-unheard : (parts others : List P) (H K : List Entry) (unheard : Option ℕ) → heard run K ≡ heard run H → OnlyUnheard stands_for unheard parts others → Serves stands_for run parts H unheard others K
  serves-unheard parts others H K unheard same kept = record {
    as_many = kept.as_many;
    each = λ k d h below stands. subst (λ items. stands_for (slice_index_or others k d) (unheard_on unheard k (served h items))) (sym (heard_of-same run H K k same)) (kept.each k below d (served h (heard_of run H k)) stands);
  }

  -- where one item more is heard, and the part of its thread was told of it
  pub serves-told : (parts others : List P) (H K : List Entry) (t : ℕ) (item : Item) → item.thread ≡ t
      → heard run K ≡ heard run H ++ item ∷ [] → length others ≡ length parts
      → ((k : ℕ) → k < length parts → Becomes stands_for parts others k (told_on t k item)) → Serves stands_for run parts H None others K
  serves-told parts others H K t item is more as_many each = record {
    as_many = as_many;
    each = λ k d h below stands.
        subst (λ (h : Record). stands_for (slice_index_or others k d) h) (told_on-served t k h (heard_of run H k) item is ∙ ap (λ items. served h items) (sym (heard_of-more run H K (item ∷ []) k more)))
        (each k below d (served h (heard_of run H k)) stands);
  }

-- calls that are silent are so in both parts
silent-parts : (xs ys : List Item) → AreSilent (xs ++ ys) → AreSilent xs × AreSilent ys
silent-parts [] ys silent = (tt, silent)
silent-parts (x ∷ xs) ys silent = let rest = silent-parts xs ys silent.1 in ((silent.0, rest.0), rest.1)

-- where one item more is heard, and all is silent, what was heard before is, and nothing was stored during the item
pub told-silent : (run : Run) (H K : List Entry) (t : ℕ) (item : Item) → item.thread ≡ t → heard run K ≡ heard run H ++ item ∷ []
    → t < run.threads → HearsSilent run K → HearsSilent run H × (item.stores ≡ [])
told-silent run H K t item is more below silent =
    let parts : (k : ℕ) → k < run.threads → AreSilent (heard_of run H k) × AreSilent (on_thread k (item ∷ [])) = λ k under.
    silent-parts (heard_of run H k) (on_thread k (item ∷ []))
    (subst AreSilent (heard_of-more run H K (item ∷ []) k more) (silent k under)) in
    let own : on_thread t (item ∷ []) ≡ item ∷ [] = rw (is, eq-eqb t t refl) refl in
    (λ k under. (parts k under).0, (subst AreSilent own (parts t below).1).0)

-- nothing is heard on a thread that the run doesn't have, where one item more is heard on another
pub own-told : (run : Run) (H K : List Entry) (t : ℕ) (item : Item) → item.thread ≡ t → t < run.threads
    → heard run K ≡ heard run H ++ item ∷ [] → HearsOwn run H → HearsOwn run K
own-told run H K t item is below more own = λ k past.
    let none : on_thread k (item ∷ []) ≡ [] = rw (is, ne_eqb t k (λ same. omega (arith, same, below, past))) refl in
    heard_of-more run H K (item ∷ []) k more ∙ ap (λ items. items ++ on_thread k (item ∷ [])) (own k past) ∙ none

pub own-unheard : (run : Run) (H K : List Entry) → heard run K ≡ heard run H → HearsOwn run H → HearsOwn run K
own-unheard run H K same own = λ k past. heard_of-same run H K k same ∙ own k past

-- a slice of a whole vector, written back
pub written-back : {P : Type 0} (new items : List P) (len : ℕ) → length new ≡ length items → length items ≡ len → take len (new ++ drop (length new) items) ≡ new
written-back new items len same all = ap (λ more. take len (new ++ more)) (drop_all (length new) items (omega (arith, same)))
    ∙ ap (take len) (append-nil new) ∙ take_all len new (omega (arith, same, all))

-- what a slice of a whole vector came to, said of the vector
pub changes-vector : {P : Type 0} (stands_for : P → Record → Type 0) (Same : P → P → Type 0) (more : Record → Record)
    (items slice changed : List P) (len : ℕ) → slice ≡ items → length items ≡ len
    → ChangesFirst stands_for Same more slice changed → ChangesFirst stands_for Same more items (take len (changed ++ drop (length changed) items))
changes-vector {P} stands_for Same more items slice changed len whole full change =
    let of_items : ChangesFirst stands_for Same more items changed = subst (λ (slice : List P). ChangesFirst stands_for Same more slice changed) whole change in
    subst (λ (now : List P). ChangesFirst stands_for Same more items now) (sym (written-back changed items len of_items.as_many full)) of_items

-- the same parts, where nothing changes, and where one step follows another
pub same-itself : {P : Type 0} (Same : P → P → Type 0) → ((part : P) → Same part part) → (parts : List P) → AreSame Same parts parts
same-itself Same itself parts = record { each = λ k d below. itself (slice_index_or parts k d) }

pub same-then : {P : Type 0} (Same : P → P → Type 0) → ((first second third : P) → Same first second → Same second third → Same first third) → (parts between after : List P) → length between ≡ length parts → AreSame Same parts between → AreSame Same between after → AreSame Same parts after
same-then Same onward parts between after as_many first second =
    record { each = λ k d below. onward (slice_index_or parts k d) (slice_index_or between k d) (slice_index_or after k d) (first.each k d below) (second.each k d (omega (arith, below, as_many))) }

-- the first part was started, all were called, and the first was finished
pub is-ran :
    {P : Type 0} (stands_for : P → Record → Type 0) (Same : P → P → Type 0)
    → ((one other third : P) → Same one other → Same other third → Same one third)
    → (is_serial : Bool) (run : Run) (ran : Ran P) (parts started between : List P) (answer registered : ℕ)
    → run.mask ≡ mask_of answer registered → AreAlways ran.mask → 0 < length parts
    → ChangesFirst stands_for Same (λ (h : Record). initialized h answer registered) parts started
    → HaveServed stands_for Same is_serial run ran.cause ran.history ran.text.items started between
    → ChangesFirst stands_for Same (finished_by answer) between ran.parts.items → IsRan stands_for Same is_serial run parts ran
is-ran {P} stands_for Same onward is_serial run ran parts started between answer registered mask_is always some start served last = record {
  to = served.to;
  parts = record {
    as_many = last.as_many ∙ served.as_many ∙ start.as_many;
    answer = answer;
    registered = registered;
    mask_is = mask_is;
    unheard = served.unheard;
    are_unheard = served.are_unheard;
    all_heard = served.all_heard;
    first = λ d h stands. last.first d _ (served.each 0 d (initialized h answer registered) (omega (arith, some, start.as_many))
        (start.first d h stands));
    each = λ k past below d h stands.
        subst (λ (part : P). stands_for part (called_for (heard_of run ran.history k) (served.unheard k) h))
        (sym (last.others_are k d past))
        (served.each k d h (omega (arith, below, start.as_many))
        (subst (λ (part : P). stands_for part h) (sym (start.others_are k d past)) stands));
  };
  same = same-then Same onward parts between ran.parts.items (served.as_many ∙ start.as_many)
      (same-then Same onward parts started between start.as_many start.same served.same) last.same;
  always = always;
  text = served.text_is;
}

module _ {P : Type 0} (parts : List P) (t : ℕ) (found part : P) (is : found ≡ slice_index_or parts t found) (within : t < length parts) where
  -- what is so of the part of the thread and of what it became, and of each other part and itself
  pub set-each : (so : ℕ → P → P → Type 0) → so t found part → ((k : ℕ) (one : P) → (t == k) ≡ false → so k one one)
      → (k : ℕ) (d : P) → so k (slice_index_or parts k d) (slice_index_or (slice_set parts t part) k d)
  set-each so here others k d = elim (eqb_tells t k) [
    | inl same ↦ rw (← same.1, get_or-set_same parts t part d within, get_or_default parts t d found within, ← is) here
    | inr different ↦ rw (get_or-set_other parts t k part d (λ same. different.1 (sym same))) (others k (slice_index_or parts k d) different.0)
  ]

  -- the part of the thread was told of an item, and the others are as they were
  pub told-at : (stands_for : P → Record → Type 0) (item : Item) → ((h : Record) → stands_for found h → stands_for part (told h item)) → (k : ℕ)
      → k < length parts → Becomes stands_for parts (slice_set parts t part) k (told_on t k item)
  told-at stands_for item keeps k below = set-each (λ k one other. (h : Record) → stands_for one h → stands_for other (told_on t k item h))
      (rw (eq-eqb t t refl) keeps) (λ k one different. rw different (λ h stands. stands)) k

  -- it is the same as before, and so are the others
  pub same-at : (Same : P → P → Type 0) → ((part : P) → Same part part) → Same found part → AreSame Same parts (slice_set parts t part)
  same-at Same itself same = record { each = λ k d below. set-each (λ k. Same) same (λ k one different. itself one) k d }
