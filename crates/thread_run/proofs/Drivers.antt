-- The drivers of a run: as they are started, and once all have come back.
use Rattle.std.proofs.Common.{◌≡◌, ◌≢◌, ℕ, ◌+◌, ◌<◌, ◌≤◌, Bool, true, false, if◌then◌else◌, List, [], ◌∷◌, ◌++◌, length, length-append, get_or, slice_set, drop, Option, Some, None, refl, sym, ap, subst, ◌∙◌, append_assoc, inl, inr, ◌⊎◌, arith}
use Rattle.std.proofs.lemmas.Bool.{true≢false, false_from_ne_true, cases_eq, cases_lt}
use Rattle.std.proofs.lemmas.List.{Folds.list_any_at, drop_more, get_or_append_left, get_or_at, get_or_default, get_or_push, length-drop, length-set}
use Rattle.omp_model.specs.declared.cause.Cause.TheVariants as causes
use Rattle.omp_model.proofs.MadeRuns.{at-replicate}
use Rattle.step_book.{specs.Rule.NoneBy, specs.Sharing.AreOwn, specs.Sharing.IsClosed, specs.Sharing.any_ended, specs.Sharing.fresh_pass, proofs.Others.entries-append, proofs.Others.holds-others, proofs.Others.own-back}
use Rattle.team_run.specs.Names.{Record, Cause, Callback, Entry, Run, first, pending_at, cause_of, heard_of, after, Closed, entries_of, PassView}
use Rattle.team_run.{specs.Serving.called_for, specs.Unheard.LeftAt, specs.Standing.HearsOwn, proofs.Serving.served-nil, proofs.Serving.set-each}
use Rattle.thread_run.specs.Drivers.{AreDrivers, AreFor, AreKept, HasServed, IsDriver}
use Rattle.thread_run.{specs.Driving.IsDriven, proofs.Driving.heard-others, proofs.Driving.left-others}

-- A list that a loop has gone through up to one of its items.
module _ {L : Type 0} (all yielded behind rest : List L) (one : L) (whole : yielded ++ behind ≡ all) (next : behind ≡ one ∷ rest) where
  pub whole-next : (yielded ++ one ∷ []) ++ rest ≡ all
  whole-next = append_assoc yielded (one ∷ []) rest ∙ ap (λ more. yielded ++ more) (sym next) ∙ whole

  pub item-at : (d : L) → get_or all (length yielded) d ≡ one
  item-at d = ap (λ (all : List L). get_or all (length yielded) d) (sym whole ∙ ap (λ more. yielded ++ more) next) ∙ get_or_at yielded one rest d (length yielded) refl

  pub item-below : length yielded < length all
  item-below = omega (arith, ap (λ (all : List L). length all) (sym whole ∙ ap (λ more. yielded ++ more) next), length-append yielded (one ∷ rest))

  -- one more has come back
  pub finish-more : {P : Type 0} (stands_for : P → Record → Type 0) (Same : P → P → Type 0) (run : Run)
      (is : ℕ → P → L → Type 0) (first : List P) (passes : List PassView) (parts : List P) (pass : PassView) (part : P)
      → length passes ≡ length yielded → length parts ≡ length yielded → AreFor is first all → AreDrivers stands_for Same run first passes parts
      → ((t : ℕ) (whose : P) → is t whose one → IsDriver stands_for Same run t whose pass part) → AreDrivers stands_for Same run first (passes ++ pass ∷ []) (parts ++ part ∷ [])
  finish-more stands_for Same run is first passes parts pass part passed parted are there goes k d e f below = elim (cases_eq k (length yielded)) [
    | inl here ↦ rw (here, get_or_push passes pass d (length yielded) passed, get_or_push parts part f (length yielded) parted)
        (goes (length yielded) (get_or first (length yielded) e) (subst (λ item. is (length yielded) (get_or first (length yielded) e) item) (item-at one) (are (length yielded) one e item-below)))
    | inr other ↦
        let less : k < length passes = omega (arith, below, other, passed, length-append passes (pass ∷ [])) in
        rw (get_or_append_left passes (pass ∷ []) d k less, get_or_append_left parts (part ∷ []) f k (omega (arith, less, passed, parted))) (there k d e f less)
  ]

module _ {P : Type 0} (stands_for : P → Record → Type 0) (Same : P → P → Type 0) (run : Run) where
  -- the drivers before their first visits
  pub drivers-first : ((part : P) → Same part part) → (parts : List P) (passes : List PassView) → length parts ≡ run.threads
      → length passes ≡ run.threads → ((k : ℕ) (d : PassView) → k < run.threads → get_or passes k d ≡ fresh_pass k)
      → AreDrivers stands_for Same run parts passes parts
  drivers-first itself parts passes many count fresh k d e f below =
      let one = get_or parts k e in
      let outside : pending_at (first run) k ≡ None =
      at-replicate (λ (callback : Option Callback). callback ≡ None) run.threads k None refl in
      let driven : IsDriven stands_for Same run one (fresh_pass k) one = record {
        unheard = false;
        left = outside;
        over = λ said. absurd (true≢false (sym said));
        hears = λ h stands. subst (λ (h : Record). stands_for one h) (sym (served-nil h)) stands;
        same_is = itself one;
      } in
      rw (fresh k d (omega (arith, below, count)), get_or_default parts k f e (omega (arith, below, count, many)))
      (record { thread = refl; driven = driven })

  -- the next driver, where a loop has gone through the passes and parts up to it
  pub driver-next : (all yielded behind rest : List PassView) (pass : PassView) → yielded ++ behind ≡ all → behind ≡ pass ∷ rest
      → (parts : List P) (part : P) (n : ℕ) → n ≡ length yielded → ((d : P) → part ≡ get_or parts (length yielded) d)
      → AreDrivers stands_for Same run parts all parts → (e : P) → IsDriver stands_for Same run n (get_or parts n e) pass part
  driver-next all yielded behind rest pass whole next parts part n same is are e =
      rw (same, is e, ← item-at all yielded behind rest pass whole next pass)
      (are (length yielded) pass e e (item-below all yielded behind rest pass whole next))

-- one more of a list
pub for-more : {P L : Type 0} (is : ℕ → P → L → Type 0) (parts : List P) (slots : List L) (slot : L) → AreFor is parts slots → ((e : P) → is (length slots) (get_or parts (length slots) e) slot) → AreFor is parts (slots ++ slot ∷ [])
for-more is parts slots slot each one k d e below = elim (cases_eq k (length slots)) [
  | inl here ↦ rw (here, get_or_push slots slot d (length slots) refl) (one e)
  | inr other ↦ let less : k < length slots = omega (arith, below, other, length-append slots (slot ∷ [])) in rw (get_or_append_left slots (slot ∷ []) d k less) (each k d e less)
]

-- a list of which one was changed
pub kept-set : {P L : Type 0} (is : ℕ → P → L → Type 0) (slots others : List L) (place : ℕ) (none next : L) → AreKept is slots others
    → place < length others → ((t : ℕ) (whose : P) → is t whose (get_or others place none) → is t whose next)
    → AreKept is slots (slice_set others place next)
kept-set {P} is slots others place none next kept within goes = record {
  as_many = length-set others place next ∙ kept.as_many;
  each = λ k d t whose below there.
      set-each others place (get_or others place none) next (get_or_default others place none (get_or others place none) within) within
      (λ k one other. (t : ℕ) (whose : P) → is t whose one → is t whose other) goes (λ k one apart t whose stays. stays) k d t whose
      (kept.each k d t whose below there);
}

-- What a closed book says.

-- nothing is heard on a thread that the run doesn't have
hears-own : (run : Run) (passes : List PassView) (history : List Entry) → IsClosed run passes history → HearsOwn run history
hears-own run passes history closed k past =
    let others : NoneBy k closed.all = λ i d less same. let below = closed.below i d less in omega (arith, below, same, past) in
    ap (λ history. heard_of run history k) closed.entries ∙ heard-others run [] (entries_of closed.all) k (holds-others k closed.all closed.own others)

-- the cause that is known is the history's, where no pass has ended the run for want of memory
cause-known : (ended : Bool) (cause : Cause) (found : Option Cause) → Some cause ≡ (if ended then Some causes.Memory else found)
    → cause ≢ causes.Memory → found ≡ Some cause
cause-known true cause found is other = let same : cause ≡ causes.Memory = cc in absurd (other same)
cause-known false cause found is other = sym is

module _ {P : Type 0} (stands_for : P → Record → Type 0) (Same : P → P → Type 0) (run : Run) (parts others : List P) (passes : List PassView) (closed : Closed) (p : P)
    (count : length parts ≡ run.threads) (passed : length passes ≡ run.threads) (back : length others ≡ run.threads)
    (drivers : AreDrivers stands_for Same run parts passes others) (is_closed : IsClosed run passes closed.history)
    (text : closed.text.items ≡ (after run closed.history).world.store.text) (cause_is : closed.cause ≡ (if any_ended passes then Some causes.Memory else cause_of run closed.history)) where
  none : PassView
  none = fresh_pass 0

  driver : (k : ℕ) → k < run.threads → IsDriver stands_for Same run k (get_or parts k p) (get_or passes k none) (get_or others k p)
  driver k below = drivers k none p p (omega (arith, below, passed))

  abbrev unheard-by : (k : ℕ) → (k < run.threads) ⊎ (run.threads ≤ k) → Bool
  unheard-by k (inl below) = (driver k below).driven.unheard
  unheard-by k (inr past) = false

  -- what the driver of a thread has come to, by the whole history
  record HasEnded (k : ℕ) (unheard : Bool) : Type 0 where
    left : LeftAt run closed.history k unheard
    heard : closed.cause ≢ Some causes.Memory → unheard ≡ false
    hears : (d : P) (h : Record) → stands_for (get_or parts k d) h
        → stands_for (get_or others k d) (called_for (heard_of run closed.history k) unheard h)

  -- what stands there beyond what its pass has seen is others'
  has-ended : (k : ℕ) (c : (k < run.threads) ⊎ (run.threads ≤ k)) → k < run.threads → HasEnded k (unheard-by k c)
  has-ended k (inl below) less =
      let one = driver k below in
      let begins = is_closed.begins k none below in
      let seen = (get_or passes k none).seen in
      let more = entries_of begins.rest in
      let whole : closed.history ≡ entries_of seen ++ more =
      is_closed.entries ∙ ap entries_of begins.whole ∙ entries-append seen begins.rest in
      let not_by = holds-others k begins.rest (own-back seen begins.rest (subst AreOwn begins.whole is_closed.own)) begins.others in
      let same : heard_of run closed.history k ≡ heard_of run (entries_of seen) k =
      ap (λ history. heard_of run history k) whole ∙ heard-others run (entries_of seen) more k not_by in record {
        left = subst (λ history. LeftAt run history k one.driven.unheard) (sym whole)
            (left-others run (entries_of seen) more k one.driven.unheard not_by (rw one.thread at one.driven.left));
        heard = λ other. false_from_ne_true one.driven.unheard (λ unheard.
            let over = one.driven.over unheard in
            let ended = list_any_at (λ (pass : PassView). pass.ended) passes k none (omega (arith, below, passed)) over in
            other (cause_is ∙ rw ended refl));
        hears = λ d h stands.
            let from = subst (λ part. stands_for part h) (get_or_default parts k d p (omega (arith, below, count))) stands in
            let hears = rw one.thread at (one.driven.hears h from) in
            subst (λ part. stands_for part (called_for (heard_of run closed.history k) one.driven.unheard h))
            (get_or_default others k p d (omega (arith, below, back))) (rw same hears);
      }
  has-ended k (inr past) less = absurd (omega arith)

  pub have-served : HasServed stands_for Same run closed parts others
  have-served cause known begun =
      let other : cause ≢ causes.Memory → closed.cause ≢ Some causes.Memory =
      λ found is. let same : Some cause ≡ Some causes.Memory = sym (known found) ∙ is in found cc in
      record {
        to = record {
          legal = is_closed.legal;
          ends = λ found. cause-known (any_ended passes) cause (cause_of run closed.history) (sym (known found) ∙ cause_is) found;
          own = hears-own run passes closed.history is_closed;
          in_order = λ is. absurd cc;
          whole = λ is. absurd cc;
          begun = begun;
        };
        text_is = text;
        as_many = back ∙ sym count;
        unheard = λ k. unheard-by k (cases_lt k run.threads);
        are_unheard = λ k below. (has-ended k (cases_lt k run.threads) below).left;
        all_heard = λ found k below. (has-ended k (cases_lt k run.threads) below).heard (other found);
        each = λ k d h below stands. (has-ended k (cases_lt k run.threads) (omega (arith, below, count))).hears d h stands;
        same = record {
          each = λ k d below.
              subst (λ part. Same (get_or parts k d) part) (sym (get_or_default others k d p (omega (arith, below, count, back))))
              (subst (λ part. Same part (get_or others k p)) (sym (get_or_default parts k d p below)) (driver k (omega (arith, below, count))).driven.same_is);
        };
      }

-- what is so of each is so of each that was kept
pub for-kept : {P L : Type 0} (is : ℕ → P → L → Type 0) (parts : List P) (slots others : List L) → AreFor is parts slots
    → AreKept is slots others → AreFor is parts others
for-kept is parts slots others each kept k d e below =
    let less : k < length slots = omega (arith, below, kept.as_many) in kept.each k d k (get_or parts k e) less (each k d e less)

-- the rest of a list from a place on, and the next item
pub rest-next : {P : Type 0} (parts rest more : List P) (n : ℕ) (part : P) → rest ≡ drop n parts → rest ≡ part ∷ more → (more ≡ drop (n + 1) parts) × ((d : P) → part ≡ get_or parts n d)
rest-next parts rest more n part is next =
    let within : n < length parts = omega (arith, ap (λ (rest : List _). length rest) (sym next ∙ is), length-drop n parts) in
    let both : part ∷ more ≡ get_or parts n part ∷ drop (n + 1) parts = sym next ∙ is ∙ drop_more parts n part within in
    let head : part ≡ get_or parts n part = cc in
    let tail : more ≡ drop (n + 1) parts = cc in
    (tail, λ d. head ∙ get_or_default parts n part d within)

-- an item of a list that has one
pub some-of : {P : Type 0} (parts : List P) → 0 < length parts → P
some-of [] some = absurd (omega arith)
some-of (part ∷ rest) some = part
