-- The numbers of a reader's step: how many bytes it takes, that there is room for them, and whether the field that comes next is whole with them.
use Rattle.std.proofs.Common.{ℕ, ◌≡◌, ◌<◌, ◌≤◌, ◌+◌, ◌-◌, ◌^◌, min, true, List, [], ◌∷◌, ◌++◌, length, take, drop, Some, None, sym, ◌∙◌, arith}
use Rattle.std.proofs.lemmas.List.{length-take, length-take-le}
use Rattle.trace_format.specs.declared.item.Item.{Item}
use Rattle.trace_format.specs.declared.next.Coming.{Coming}
use Rattle.trace_format.specs.Flat.{IsFront, coming_at, passes, reason_width, test_width}
use Rattle.trace_format.specs.Holding.{HasEnded, Holds}
use Rattle.trace_format.specs.Reached.{IsBytes, flat}
use Rattle.trace_format.specs.Taking.{Stage, next_stage}
use Rattle.trace_format.proofs.Decoded.{item_in}
use Rattle.trace_format.proofs.Accepted.{Came, InRange, came, empty_of, field_length, in_range, whole_stands}
use Rattle.trace_format.proofs.Outcomes.{Sizes, due_of, ended_of, sizes}
use Rattle.trace_format.proofs.Standing.{of_holds}
use Rattle.trace_format.proofs.Steps.{IsDue}

-- behind the end mark
pub record Behind (stage : Stage) (begun : List ℕ) (begun_at place taken : ℕ) (h : Holds stage begun begun_at place taken) (piece : List ℕ) : Type 0 where
  pub ended : HasEnded stage h.fields h.part
  pub room : length begun + length (take 1 piece) ≤ 60
  pub few : taken + 1 < 2 ^ 64

pub behind :
    (stage : Stage) (begun : List ℕ) (begun_at place taken : ℕ) (h : Holds stage begun begun_at place taken) (front piece : List ℕ) → front ≡ begun → coming_at stage place front ≡ None → Behind stage begun begun_at place taken h piece
behind stage begun begun_at place taken h front piece e1 e2 =
    let o : HasEnded stage h.fields h.part = ended_of stage begun begun_at place taken front h e1 e2 in
    let z : length begun ≡ 0 = empty_of stage begun begun_at place taken h o in
    let s : Sizes begun begun_at place taken (length h.part) = sizes stage begun begun_at place taken h in
    let t : length (take 1 piece) ≡ min 1 (length piece) = length-take 1 piece in
    record { ended = o; room = omega (arith, z, t); few = omega (arith, z, s.begun_is, s.few) }

-- the field that comes next ends behind the bytes that have come
pub lacks :
    (stage : Stage) (begun : List ℕ) (begun_at place taken : ℕ) (h : Holds stage begun begun_at place taken) (front : List ℕ) (coming : Coming) (width len : ℕ) → front ≡ begun → coming_at stage place front ≡ Some coming
    → width ≡ test_width coming.test → len ≡ length begun → len ≤ begun_at + width
lacks stage begun begun_at place taken h front coming width len e1 e2 e3 e4 =
    let d : IsDue stage h.fields h.part coming = due_of stage begun begun_at place taken front coming h e1 e2 in
    let s : Sizes begun begun_at place taken (length h.part) = sizes stage begun begun_at place taken h in
    omega (arith, s.begun_is, d.short, e3, e4)

-- so many bytes of a piece are used where so many are lacking
pub record Uses (stage : Stage) (begun : List ℕ) (begun_at place taken : ℕ) (h : Holds stage begun begun_at place taken) (coming : Coming) (piece : List ℕ) (width len used : ℕ) : Type 0 where
  pub due : IsDue stage h.fields h.part coming
  pub within : used ≤ length piece
  pub count : used ≡ length (take used piece)
  pub room : length begun + length (take used piece) ≤ 60
  pub few : taken + used < 2 ^ 64
  pub short : used < begun_at + width - len → length h.part + used < test_width coming.test
  pub full : begun_at + width - len ≤ used → length h.part + used ≡ test_width coming.test

pub uses :
    (stage : Stage) (begun : List ℕ) (begun_at place taken : ℕ) (h : Holds stage begun begun_at place taken) (front : List ℕ) (coming : Coming) (piece : List ℕ) (width len used : ℕ) → front ≡ begun → coming_at stage place front ≡ Some coming
    → width ≡ test_width coming.test → len ≡ length begun → used ≡ min (begun_at + width - len) (length piece) → Uses stage begun begun_at place taken h coming piece width len used
uses stage begun begun_at place taken h front coming piece width len used e1 e2 e3 e4 e5 =
    let d : IsDue stage h.fields h.part coming = due_of stage begun begun_at place taken front coming h e1 e2 in
    let s : Sizes begun begun_at place taken (length h.part) = sizes stage begun begun_at place taken h in
    let b : begun_at ≡ length (flat h.fields) = h.begun_at_is in
    let w : used ≤ length piece = omega (arith, e5) in
    let n : length (take used piece) ≡ used = length-take-le used piece w in
    record {
      due = d;
      within = w;
      count = sym n;
      room = omega (arith, s.begun_is, d.short, d.room, b, n, e3, e4, e5);
      few = omega (arith, s.begun_is, s.few, d.short, d.room, e3, e4, e5);
      short = λ (l : used < begun_at + width - len). omega (arith, l, s.begun_is, e3, e4);
      full = λ (l : begun_at + width - len ≤ used). omega (arith, l, s.begun_is, d.short, e3, e4, e5);
    }

-- the field that is whole
pub told :
    (stage : Stage) (begun : List ℕ) (begun_at place taken : ℕ) (h : Holds stage begun begun_at place taken) (coming : Coming) (piece : List ℕ) (width len used : ℕ) (new front : List ℕ) → Uses stage begun begun_at place taken h coming piece width len used
    → begun_at + width - len ≤ used → new ≡ begun ++ take used piece → front ≡ new → reason_width coming.field ≤ length (take (length front - begun_at) (drop begun_at front))
told stage begun begun_at place taken h coming piece width len used new front u l e1 e2 =
    let f : length (take (length front - begun_at) (drop begun_at front)) ≡ length h.part + length (take used piece) = field_length begun (flat h.fields) h.part (take used piece) new front begun_at h.begun_is h.begun_at_is e1 e2 in
    omega (arith, f, u.count, u.full l, u.due.told)

pub passed :
    (stage : Stage) (begun : List ℕ) (begun_at place taken : ℕ) (h : Holds stage begun begun_at place taken) (coming : Coming) (piece : List ℕ) (width len used : ℕ) (new front : List ℕ) → Uses stage begun begun_at place taken h coming piece width len used
    → begun_at + width - len ≤ used → new ≡ begun ++ take used piece → front ≡ new → IsBytes (take used piece) → passes coming.test (take (length front - begun_at) (drop begun_at front)) ≡ true
    → Came stage begun begun_at place taken h (take used piece) new used (test_width coming.test)
passed stage begun begun_at place taken h coming piece width len used new front u l e1 e2 all e3 = came stage begun begun_at place taken coming h (take used piece) new front used u.due e1 u.count (u.full l) e2 all e3

pub takes_some :
    (stage : Stage) (begun : List ℕ) (begun_at place taken : ℕ) (h : Holds stage begun begun_at place taken) (coming : Coming) (piece : List ℕ) (width len used : ℕ) → Uses stage begun begun_at place taken h coming piece width len used
    → begun_at + width - len ≤ used → 0 < used
takes_some stage begun begun_at place taken h coming piece width len used u l = omega (arith, u.full l, u.due.short)

-- there is a place more
pub next_place : (stage : Stage) (begun : List ℕ) (begun_at place taken : ℕ) → Holds stage begun begun_at place taken → place + 1 < 256
next_place stage begun begun_at place taken h =
    let s : Sizes begun begun_at place taken (length h.part) = sizes stage begun begun_at place taken h in
    omega (arith, s.places, s.item)

pub next_front :
    (stage : Stage) (begun : List ℕ) (begun_at place taken : ℕ) (h : Holds stage begun begun_at place taken) (some new : List ℕ) (n width : ℕ) (front : List ℕ) → Came stage begun begun_at place taken h some new n width → front ≡ new
    → IsFront stage (place + 1) front
next_front stage begun begun_at place taken h some new n width front k e =
    record { fields = h.fields ++ (h.part ++ some) ∷ []; rest = []; accepted = k.accepted; place_is = k.new_place; bytes_are = e ∙ k.mine.begun_is }

-- what is kept of an item that is whole
pub whole_range :
    (stage : Stage) (begun : List ℕ) (begun_at place taken : ℕ) (coming : Coming) (h : Holds stage begun begun_at place taken) (some new front back : List ℕ) (n : ℕ) (it : Item)
    → Came stage begun begun_at place taken h some new n (test_width coming.test)
    → front ≡ new → back ≡ new → coming_at stage (place + 1) front ≡ None → it ≡ item_in stage.header back → InRange (next_stage stage it)
whole_range stage begun begun_at place taken coming h some new front back n it k e1 e2 e3 e4 =
    in_range (next_stage stage it) [] _ _ [] [] (whole_stands stage begun begun_at place taken coming h some new front back n it k e1 e2 e3 e4 _ h.items (of_holds stage begun begun_at place taken h))
