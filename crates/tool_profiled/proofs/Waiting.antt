-- Parts that wait, the next one last, are joined one after another.
use Rattle.std.proofs.Common.{◌≡◌, List, [], ◌∷◌, ◌++◌, All, length, map, reverse, sym, ap, subst, ◌∙◌, append_assoc}
use Rattle.std.proofs.lemmas.List.{length-map, map-append, reverse-append, reverse-reverse}
use Rattle.std.proofs.lemmas.List.Elements.{All-cons, All-nil}
use Rattle.tool_api.specs.Record.{Record}
use Rattle.tool_both.specs.declared.masks.Masks.{Masks}
use Rattle.tool_profiled.specs.Joining.{AreJoined, IsFresh, Profiled, WasAsked, part_in}

-- one more is joined
pub join-more : {P : Type 0} (joined : List (Profiled P)) (both : Profiled P) (waiting rest : List P) (part : P) → waiting ≡ rest ++ part ∷ [] → part_in both ≡ part
    → map part_in (joined ++ both ∷ []) ++ reverse rest ≡ map part_in joined ++ reverse waiting
join-more joined both waiting rest part popped is =
    rw (popped, reverse-append rest (part ∷ []), map-append part_in joined (both ∷ []), is) (append_assoc (map part_in joined) (part ∷ []) (reverse rest))

-- the first of all parts was the last that waited
pub first-waits : {P : Type 0} (parts rest : List P) (part : P) → reverse parts ≡ rest ++ part ∷ [] → parts ≡ part ∷ reverse rest
first-waits parts rest part popped = sym (reverse-reverse parts) ∙ ap reverse popped ∙ reverse-append rest (part ∷ [])

-- one alone is joined
pub one-joined : {P : Type 0} (part_for : P → Record → Type 0) (masks : Masks) (both : Profiled P) (joined : List (Profiled P)) → joined ≡ both ∷ [] → IsFresh part_for masks both → All (IsFresh part_for masks) joined
one-joined part_for masks both joined is fresh =
    subst (All (IsFresh part_for masks)) (sym is) (All-cons (IsFresh part_for masks) both [] fresh (All-nil (IsFresh part_for masks)))

-- all are joined
pub all-joined : {P : Type 0} (part_for : P → Record → Type 0) (Same : P → P → Type 0) (parts waiting rest : List P) (part : P) (masks : Masks) (both : Profiled P) (joined : List (Profiled P))
    → waiting ≡ reverse parts → waiting ≡ rest ++ part ∷ [] → WasAsked part_for Same part masks (part_in both) → map part_in joined ≡ part_in both ∷ reverse rest → All (IsFresh part_for masks) joined
    → AreJoined part_for Same parts masks joined
all-joined {P} part_for Same parts waiting rest part masks both joined waits popped asked is fresh =
    let many : length joined ≡ length (part ∷ reverse rest) = sym (length-map joined part_in) ∙ ap length is in
    subst (λ (list : List P). AreJoined part_for Same list masks joined) (sym (first-waits parts rest part (sym waits ∙ popped)))
    (record {
      asked = part_in both;
      was_asked = λ d. asked;
      as_many = many;
      parts_are = is;
      fresh = fresh;
    })
