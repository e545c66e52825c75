-- The tokens from a place on, item by item.
use Rattle.std.proofs.Common.{◌≡◌, ◌≢◌, ℕ, suc, zero, ◌-◌, ◌<◌, ◌≤◌, List, [], ◌∷◌, ◌++◌, Result, Ok, Err, length, take, drop, refl, sym, ap, subst, ◌∙◌, append_assoc, arith}
use Rattle.c_tokens.specs.declared.token.Token.{Token}
use Rattle.c_tokens.specs.declared.token.TokenFault.{TokenFault}
use Rattle.c_tokens.specs.declared.item.Flaw.{Flaw}
use Rattle.c_tokens.specs.declared.item.Item.{Item}
use Rattle.c_tokens.specs.declared.item.Item.TheVariants as item
use Rattle.c_tokens.specs.declared.place.Place.{Place}
use Rattle.c_tokens.specs.workings.Items.{item_of}
use Rattle.c_tokens.specs.workings.Tokens.{Fits, found, front_of, item_len, place_in, scan, with_front}
use Rattle.c_tokens.specs.language.Places.{closing, fault_at, place_after, places_after}

-- the bytes of an item are passed over
pub scan-pending : (pending : ℕ) (bytes : List ℕ) (place : Place) → pending ≤ length bytes → scan bytes pending place ≡ scan (drop pending bytes) 0 (places_after (take pending bytes) place)
unfolding scan
scan-pending zero bytes place within = refl
scan-pending (suc pending) [] place within = absurd (omega arith)
scan-pending (suc pending) (byte ∷ bytes) place within = scan-pending pending bytes (place_after byte place) (omega arith)

-- an item that lies in the bytes
item_len-fits : (item : Item) (whole : ℕ) → 0 < whole → Fits item whole → (1 ≤ item_len item) × (item_len item ≤ whole)
item_len-fits (item.Blank count) whole some fits = fits
item_len-fits (item.Token kind count) whole some fits = fits
item_len-fits item.DirectiveEnd whole some fits = (omega arith, omega arith)
item_len-fits (item.Fault flaw offset) whole some fits = (omega arith, omega arith)

after-one : (count : ℕ) (byte : ℕ) (bytes : List ℕ) (place : Place) → 1 ≤ count → count ≤ suc (length bytes) → scan bytes (count - 1) (place_after byte place) ≡ scan (drop count (byte ∷ bytes)) 0 (places_after (take count (byte ∷ bytes)) place)
after-one zero byte bytes place some within = absurd (omega arith)
after-one (suc count) byte bytes place some within =
    let same : suc count - 1 ≡ count = omega arith in
    rw same (scan-pending count bytes (place_after byte place) (omega arith))

-- the item at the front, and what follows it
pub scan-item : (bytes : List ℕ) (place : Place) → 0 < length bytes → let item = item_of place.line bytes in Fits item (length bytes) → scan bytes 0 place ≡ found item place (scan (drop (item_len item) bytes) 0 (places_after (take (item_len item) bytes) (place_in item place)))
unfolding scan
scan-item [] place some fits = absurd (omega arith)
scan-item (byte ∷ bytes) place some fits =
    let item = item_of place.line (byte ∷ bytes) in
    let within = item_len-fits item (suc (length bytes)) (omega arith) fits in
    ap (found item place) (after-one (item_len item) byte bytes (place_in item place) within.0 within.1)

-- tokens in front of tokens
pub with_front-append : (first second : List Token) (rest : Result (List Token) TokenFault) → with_front first (with_front second rest) ≡ with_front (first ++ second) rest
with_front-append first second (Ok tokens) = ap Ok (sym (append_assoc first second tokens))
with_front-append first second (Err fault) = refl

-- Reading goes on: `whole` is what the text has, `read` the tokens so far, and the rest begins at the place.
found-token : (it : Item) (place : Place) (rest : Result (List Token) TokenFault) → ((flaw : Flaw) (offset : ℕ) → it ≢ item.Fault flaw offset) → found it place rest ≡ with_front (front_of it place) rest
found-token (item.Blank count) place rest other = refl
found-token (item.Token kind count) place rest other = refl
found-token item.DirectiveEnd place rest other = refl
found-token (item.Fault flaw offset) place rest other = absurd (other flaw offset refl)

module _ (whole : Result (List Token) TokenFault) (read : List Token) (rest : List ℕ) (place : Place) (so_far : whole ≡ with_front read (scan rest 0 place)) (some : 0 < length rest) where
  pub item-read : (it : Item) (new : List Token) (bytes after : List ℕ) (next : Place) → it ≡ item_of place.line rest → Fits it (length rest) → ((flaw : Flaw) (offset : ℕ) → it ≢ item.Fault flaw offset) → new ≡ read ++ front_of it place → bytes ≡ take (item_len it) rest → after ≡ drop (item_len it) rest → next ≡ places_after bytes (place_in it place) → whole ≡ with_front new (scan after 0 next)
  item-read it new bytes after next same fits other pushed front back place_is =
      let P : Item → Type 0 = λ i. Fits i (length rest) in
      let step = scan-item rest place some (subst P same fits) in
      let after_it : scan (drop (item_len (item_of place.line rest)) rest) 0 (places_after (take (item_len (item_of place.line rest)) rest) (place_in (item_of place.line rest) place)) ≡ scan after 0 next = cc in
      let there : scan rest 0 place ≡ with_front (front_of it place) (scan after 0 next) =
      step ∙ ap (λ (i : Item). found i place (scan (drop (item_len (item_of place.line rest)) rest) 0 (places_after (take (item_len (item_of place.line rest)) rest) (place_in (item_of place.line rest) place)))) (sym same)
      ∙ ap (found it place) after_it ∙ found-token it place (scan after 0 next) other in
      so_far ∙ ap (with_front read) there ∙ with_front-append read (front_of it place) (scan after 0 next) ∙ ap (λ (tokens : List Token). with_front tokens (scan after 0 next)) (sym pushed)

  pub fault-read : (it : Item) (flaw : Flaw) (offset : ℕ) (fault : TokenFault) → it ≡ item_of place.line rest → Fits it (length rest) → it ≡ item.Fault flaw offset → fault ≡ fault_at flaw place offset → whole ≡ Err fault
  fault-read it flaw offset fault same fits is_fault fault_is =
      let P : Item → Type 0 = λ i. Fits i (length rest) in
      let step = scan-item rest place some (subst P same fits) in
      let left = scan (drop (item_len (item_of place.line rest)) rest) 0 (places_after (take (item_len (item_of place.line rest)) rest) (place_in (item_of place.line rest) place)) in
      let there : scan rest 0 place ≡ Err (fault_at flaw place offset) = step ∙ ap (λ (i : Item). found i place left) (sym same ∙ is_fault) in
      so_far ∙ ap (with_front read) there ∙ ap Err (sym fault_is)

-- the end of the text
pub end-read : (whole : Result (List Token) TokenFault) (read new : List Token) (rest : List ℕ) (place : Place) → whole ≡ with_front read (scan rest 0 place) → length rest ≡ 0 → new ≡ read ++ closing place.line place → whole ≡ Ok new
unfolding scan
end-read whole read new [] place so_far none closed = so_far ∙ ap Ok (sym closed)
end-read whole read new (byte ∷ rest) place so_far none closed = absurd (omega arith)
