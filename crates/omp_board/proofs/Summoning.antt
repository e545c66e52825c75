-- The first threads, so many, are to join a region, one after another.
use Rattle.std.proofs.Common.{◌≡◌, ℕ, zero, suc, ◌<◌, min, List, [], ◌∷◌, ◌++◌, length, get_or, set, take, drop, refl, ap, ◌∙◌, arith}
use Rattle.omp_model.specs.State.{Thread}
use Rattle.omp_model.specs.Changes.{with_invitations, with_invitation}

pub none_yet : (r : ℕ) (threads : List Thread) → threads ≡ with_invitations r 0 threads
unfolding with_invitations
none_yet r threads = refl

pub one_more : (r i : ℕ) (threads : List Thread) (d : Thread) → i < length threads → set (with_invitations r i threads) i (with_invitation r (get_or (with_invitations r i threads) i d)) ≡ with_invitations r (suc i) threads
unfolding with_invitations
one_more r i [] d within = absurd (omega arith)
one_more r zero (thread ∷ threads) d within = refl
one_more r (suc i) (thread ∷ threads) d within = ap (λ (rest : List Thread). with_invitation r thread ∷ rest) (one_more r i threads d (omega arith))

-- as many as there are
capped : (r size count : ℕ) (threads : List Thread) → count ≡ min size (length threads) → with_invitations r count threads ≡ with_invitations r size threads
unfolding with_invitations
capped r zero zero threads is = refl
capped r zero (suc count) [] is = refl
capped r (suc size) zero [] is = refl
capped r (suc size) (suc count) [] is = refl
capped r zero (suc count) (thread ∷ threads) is = absurd (omega arith)
capped r (suc size) zero (thread ∷ threads) is = absurd (omega arith)
capped r (suc size) (suc count) (thread ∷ threads) is = ap (λ (rest : List Thread). with_invitation r thread ∷ rest) (capped r size count threads (omega arith))

-- the first threads by themselves, and the others behind them
front : (r count : ℕ) (threads : List Thread) → with_invitations r (length (take count threads)) (take count threads) ++ drop count threads ≡ with_invitations r count threads
unfolding with_invitations
front r zero threads = refl
front r (suc count) [] = refl
front r (suc count) (thread ∷ threads) = ap (λ (rest : List Thread). with_invitation r thread ∷ rest) (front r count threads)

pub all_of : (r size count i : ℕ) (threads now : List Thread) → count ≡ min size (length threads) → i ≡ length (take count threads) → now ≡ with_invitations r i (take count threads) → now ++ drop count threads ≡ with_invitations r size threads
all_of r size count i threads now is all so =
    ap (λ (first : List Thread). first ++ drop count threads) (so ∙ ap (λ n. with_invitations r n (take count threads)) all) ∙ front r count threads ∙ capped r size count threads is
